-- Lists of values, types, arguments and packs with one more at their end.
use Rattle.std.proofs.Common.{◌≡◌, ℕ, ◌+◌, ◌-◌, ◌==◌, ◌&&◌, nat_le, nat_lt, Bool, true, false, List, [], ◌∷◌, ◌++◌, length, refl, ap, ◌∙◌, arith, Option, Some, None, if◌then◌else◌}
use Rattle.std.proofs.lemmas.Bool.{and_parts, eqb-true}
use Rattle.std.proofs.lemmas.Bool.Decides.{nat_tests}
use Rattle.std.proofs.lemmas.List.{map-append}
use Rattle.std.specs.Option.{option_or}
use Rattle.arith_word.specs.declared.label.Label.{Label}
use Rattle.mlir_ir.specs.Rules.{arg_types, packs_hold}
use Rattle.mlir_ir.specs.Typed.{Types, typed_from, with_types}
use Rattle.mlir_ir.specs.declared.types.Arg.{Arg}
use Rattle.mlir_ir.specs.declared.types.IrType.{IrType}
use Rattle.mlir_ir.specs.declared.types.Pack.{Pack}
use Rattle.pass_copy.proofs.BuiltBehind.{one_pack}
use Rattle.pass_unroll.proofs.TypedCopies.{Have}

or_else : (c : Bool) (ty : IrType) (a b : Option IrType) → (if c then Some ty else option_or a b) ≡ option_or (if c then Some ty else a) b
or_else true ty a b = refl
or_else false ty a b = refl

typed_last : (at : ℕ) (tys : List IrType) (ty : IrType) (l : ℕ) → typed_from at (tys ++ ty ∷ []) l ≡ option_or (typed_from at tys l) (typed_from (at + length tys) (ty ∷ []) l)
typed_last at [] ty l = let e : at ≡ at + 0 = omega arith in ap (λ n. typed_from n (ty ∷ []) l) e
typed_last at (x ∷ tys) ty l =
    let e : at + 1 + length tys ≡ at + length (x ∷ tys) = omega arith in
    ap (λ r. if at == l then Some x else r) (typed_last (at + 1) tys ty l ∙ ap (λ n. option_or (typed_from (at + 1) tys l) (typed_from n (ty ∷ []) l)) e)
    ∙ or_else (at == l) x (typed_from (at + 1) tys l) (typed_from (at + length (x ∷ tys)) (ty ∷ []) l)

or_or : (a b c : Option IrType) → option_or a (option_or b c) ≡ option_or (option_or a b) c
or_or None b c = refl
or_or (Some ty) b c = refl

-- a scope with one type more
pub with_last : (T : Types) (at : ℕ) (tys : List IrType) (ty : IrType) → with_types T at (tys ++ ty ∷ []) ≡ with_types (with_types T at tys) (at + length tys) (ty ∷ [])
with_last T at tys ty = λ i l. (ap (option_or (T l)) (typed_last at tys ty l) ∙ or_or (T l) (typed_from at tys l) (typed_from (at + length tys) (ty ∷ []) l)) i

pub have_last : (T : Types) (tys : List IrType) (ls : List Label) (ty : IrType) (l : Label) → Have T tys ls → T l.0 ≡ Some ty → Have T (tys ++ ty ∷ []) (ls ++ l ∷ [])
have_last T [] [] ty l h e = (e, tt)
have_last T [] (x ∷ ls) ty l h e = absurd h
have_last T (x ∷ tys) [] ty l h e = absurd h
have_last T (x ∷ tys) (y ∷ ls) ty l h e = (h.0, have_last T tys ls ty l h.1 e)

pub types_last : (args : List Arg) (arg : Arg) → arg_types (args ++ arg ∷ []) ≡ arg_types args ++ arg.ty ∷ []
types_last args arg = map-append (λ (a : Arg). a.ty) args (arg ∷ [])

more_held : (c n : ℕ) → nat_le c n ≡ true → nat_le c (n + 1) ≡ true
more_held c n h = grind (arith, nat_tests)

less_held : (c n : ℕ) → nat_le c n ≡ true → n + 1 - c ≡ n - c + 1
less_held c n h = grind (arith, nat_tests)

pub packs_last : (packs : List Pack) (n : ℕ) (name : List ℕ) → packs_hold packs n ≡ true → packs_hold (packs ++ one_pack name) (n + 1) ≡ true
packs_last [] n name h = let e : n ≡ 0 = eqb-true n 0 h in rw e refl
packs_last (pack ∷ packs) n name h =
    let p = and_parts (nat_lt 0 pack.count && nat_le pack.count n) (packs_hold packs (n - pack.count)) h in
    let q = and_parts (nat_lt 0 pack.count) (nat_le pack.count n) p.0 in
    rw (q.0, more_held pack.count n q.1, less_held pack.count n q.1) (packs_last packs (n - pack.count) name p.1)
