-- The values of a loop's header, and the number of open loops.
use Rattle.std.proofs.Common.{nat_le, ◌≡◌, ℕ, ◌+◌, min, List, [], ◌∷◌, ◌++◌, map, length, refl, ap, ◌∙◌, arith, take}
use Rattle.std.proofs.lemmas.Bool.Decides.{nat_tests}
use Rattle.std.proofs.lemmas.List.{take-append-le, take_all}
use Rattle.mlir_ir.specs.Phrases.{Phrase, Line}
use Rattle.mlir_ir.specs.Resolved.{args_of, carried, tys}
use Rattle.mlir_ir.specs.ScopeFaults.{Inside, kind_breaks, block_breaks}
use Rattle.mlir_ir.specs.Source.{Block, none, op, Defined, Use, Written, head}
use Rattle.mlir_ir.specs.Values.{Value}
use Rattle.mlir_ir.specs.declared.terminal.Terminal.{Terminal}
use Rattle.mlir_ir.specs.declared.terminal.Terminal.TheVariants.{If, For, While}
use Rattle.mlir_ir.specs.declared.types.IrType.{IrType}
use Rattle.mlir_scope.specs.Arguments.{named}

pub named_carried : (inits : List (Defined × Use)) (types : List IrType) → named (map (λ (p : Defined × Use). p.0) inits) types ≡ carried inits types
named_carried [] types = refl
named_carried ((name, first) ∷ inits) [] = refl
named_carried ((name, first) ∷ inits) (ty ∷ types) = ap (λ args. record { name = name.name; ty = ty } ∷ args) (named_carried inits types)

pub named_params : (params : List (Defined × Written)) → named (map (λ (p : Defined × Written). p.0) params) (tys (map (λ (p : Defined × Written). p.1) params)) ≡ args_of params
named_params [] = refl
named_params (p ∷ params) = ap (λ args. record { name = p.0.name; ty = p.1.ty } ∷ args) (named_params params)

-- the values that were in scope before others
pub first_kept : {X : Type 0} (len : ℕ) (xs ys : List X) → len ≡ length xs → take len (xs ++ ys) ≡ xs
first_kept len xs ys is = take-append-le len xs ys (omega arith) ∙ ap (λ n. take n xs) is ∙ take_all (length xs) xs (omega arith)

-- breaks that depend on no more open loops than the limit
abbrev Cut : Inside → Type 0
Cut inside = (a b : ℕ) → min a 6 ≡ min b 6 → (scope : List Value) → inside a scope ≡ inside b scope

limit_cut : (a b : ℕ) → min a 6 ≡ min b 6 → nat_le 6 a ≡ nat_le 6 b
limit_cut a b h = grind (arith, nat_tests)

kind_cut : (funcs : List Line) (c : Terminal) (kind : Phrase) (first second : Block) (in_first in_second : Inside) → Cut in_first → Cut in_second
    → (a b : ℕ) → min a 6 ≡ min b 6 → (scope : List Value)
    → kind_breaks funcs a scope c kind first second in_first in_second ≡ kind_breaks funcs b scope c kind first second in_first in_second
kind_cut funcs If kind first second in_first in_second f g a b h scope = rw (f a b h, g a b h) refl
kind_cut funcs For kind first second in_first in_second f g a b h scope =
    let more : min (a + 1) 6 ≡ min (b + 1) 6 = omega arith in
    rw (limit_cut a b h, f (a + 1) (b + 1) more) refl
kind_cut funcs While kind first second in_first in_second f g a b h scope =
    let more : min (a + 1) 6 ≡ min (b + 1) 6 = omega arith in
    rw (limit_cut a b h, f (a + 1) (b + 1) more, g (a + 1) (b + 1) more) refl
kind_cut funcs _ kind first second in_first in_second f g a b h scope = refl

pub loops_cut : (funcs : List Line) (block : Block) → Cut (block_breaks funcs block)
loops_cut funcs none a b h scope = refl
loops_cut funcs (op spot packs kind first second rest) a b h scope =
    rw (loops_cut funcs rest a b h, kind_cut funcs (head kind) kind first second (block_breaks funcs first) (block_breaks funcs second) (loops_cut funcs first) (loops_cut funcs second) a b h scope) refl
