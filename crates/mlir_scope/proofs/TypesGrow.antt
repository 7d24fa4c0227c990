-- Scopes of types grow by labels past all that they have.
use Rattle.std.proofs.Common.{◌≡◌, ℕ, ◌+◌, ◌≤◌, ◌==◌, Bool, true, false, List, [], ◌∷◌, length, refl, ap, ◌∙◌, subst, arith, cond, Option, None, Some}
use Rattle.std.proofs.lemmas.Bool.{ne_eqb}
use Rattle.std.specs.Option.{option_or}
use Rattle.mlir_ir.specs.Operations as plain
use Rattle.mlir_ir.specs.Operations.{OpList, labels_of, inner_labels}
use Rattle.mlir_ir.specs.Rules.{packs_hold, arg_types}
use Rattle.mlir_ir.specs.Typed.{Types, typed_from, with_types, types_after}
use Rattle.mlir_ir.specs.Values.{Value, arg_values, result_values, type_at}
use Rattle.mlir_ir.specs.declared.types.Arg.{Arg}
use Rattle.mlir_ir.specs.declared.types.IrType.{IrType}
use Rattle.mlir_ir.specs.declared.types.Pack.{Pack}
use Rattle.mlir_ir.proofs.TypedScopes.{results_typed, types_bound_args}
use Rattle.mlir_scope.proofs.NoBreaks.{Each}
use Rattle.mlir_scope.proofs.PlainRises.{Between, args_between, results_between, all_seen}
use Rattle.mlir_scope.proofs.ScopeUses.{Seen}

-- no label from `at` on has a type
abbrev pub Below : ℕ → Types → Type 0
Below at T = (l : ℕ) → at ≤ l → T l ≡ None

pub below_more : (a b : ℕ) (T : Types) → a ≤ b → Below a T → Below b T
below_more a b T le h l g = h l (omega arith)

typed_past : (at : ℕ) (tys : List IrType) (l : ℕ) → at + length tys ≤ l → typed_from at tys l ≡ None
typed_past at [] l h = refl
typed_past at (ty ∷ tys) l h =
    let other : (at == l) ≡ false = ne_eqb at l (λ same. omega arith) in
    rw other (typed_past (at + 1) tys l (omega arith))

or_none : (a b : Option IrType) → a ≡ None → b ≡ None → option_or a b ≡ None
or_none None b e f = f
or_none (Some x) b e f = e

pub below_with : (T : Types) (at : ℕ) (tys : List IrType) → Below at T → Below (at + length tys) (with_types T at tys)
below_with T at tys h l g = or_none (T l) (typed_from at tys l) (h l (omega arith)) (typed_past at tys l g)

pub below_after : (T : Types) (at : ℕ) (ops : OpList) → Below at T → Below (at + labels_of ops) (types_after T at ops)
below_after T at plain.nil h = λ l g. h l (omega arith)
below_after T at (plain.next packs results kind rest) h =
    let mid = at + inner_labels kind in
    let past = at + (inner_labels kind + length results) in
    below_more (past + labels_of rest) (at + (inner_labels kind + length results + labels_of rest)) _ (omega arith)
    (below_after (with_types T mid results) past rest (below_more (mid + length results) past _ (omega arith) (below_with T mid results (below_more at mid T (omega arith) h))))

-- what was seen is seen
pub seen_more : (T : Types) (at : ℕ) (tys : List IrType) (vs : List Value) → Each (Seen T) vs → Each (Seen (with_types T at tys)) vs
seen_more T at tys [] h = tt
seen_more T at tys (v ∷ vs) h = (rw h.0 refl, seen_more T at tys vs h.1)

-- what is new has its type
seen_new : (T : Types) (at b next : ℕ) (tys : List IrType) (vs : List Value) → Below at T → at ≤ b → Between b vs next → Each (Seen (typed_from at tys)) vs → Each (Seen (with_types T at tys)) vs
seen_new T at b next tys [] h le w g = tt
seen_new T at b next tys (v ∷ vs) h le w g =
    let first : at ≤ v.label = omega (arith, w.0) in
    let none : T v.label ≡ None = h v.label first in
    (rw none g.0, seen_new T at (v.label + 1) next tys vs h (omega arith) w.1 g.1)

pub results_seen : (T : Types) (at : ℕ) (packs : List Pack) (tys : List IrType) → Below at T → packs_hold packs (length tys) ≡ true → Each (Seen (with_types T at tys)) (result_values at packs tys)
results_seen T at packs tys h p =
    let vs = result_values at packs tys in
    let same : type_at vs ≡ typed_from at tys = λ j l. results_typed at packs tys p l j in
    seen_new T at at (at + length tys) tys vs h (omega arith) (results_between at packs tys) (subst (λ U. Each (Seen U) vs) same (all_seen at (at + length tys) vs (results_between at packs tys)))

pub args_seen : (T : Types) (at : ℕ) (args : List Arg) → Below at T → Each (Seen (with_types T at (arg_types args))) (arg_values at args)
args_seen T at args h =
    let vs = arg_values at args in
    let same : type_at vs ≡ typed_from at (arg_types args) = types_bound_args [] at at args refl in
    seen_new T at at (at + length args) (arg_types args) vs h (omega arith) (args_between at args) (subst (λ U. Each (Seen U) vs) same (all_seen at (at + length args) vs (args_between at args)))

-- a loop's variable and its arguments
or_two : (o p : Option IrType) (b : Bool) (ty : IrType) → option_or (option_or o (cond b (Some ty) None)) p ≡ option_or o (cond b (Some ty) p)
or_two None p true ty = refl
or_two None p false ty = refl
or_two (Some x) p b ty = refl

pub two_types : (T : Types) (at : ℕ) (ty : IrType) (tys : List IrType) → with_types (with_types T (at + 1) (ty ∷ [])) (at + 2) tys ≡ with_types T (at + 1) (ty ∷ tys)
two_types T at ty tys =
    let next : at + 2 ≡ at + 1 + 1 = omega arith in
    λ j l. (or_two (T l) (typed_from (at + 2) tys l) (at + 1 == l) ty ∙ ap (λ n. option_or (T l) (cond (at + 1 == l) (Some ty) (typed_from n tys l))) next) j
