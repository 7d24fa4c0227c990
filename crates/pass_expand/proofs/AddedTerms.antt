-- A term behind what is built, and a sum behind it.
use Rattle.std.proofs.Common.{◌≡◌, ℕ, suc, ◌+◌, ◌%◌, ◌^◌, List, [], ◌∷◌, length, Option, Some, refl, ap, ◌∙◌, sym, subst, arith}
use Rattle.arith_word.specs.declared.label.Label.{Label}
use Rattle.arith_word.specs.declared.op.BinOp.TheVariants.{Addi}
use Rattle.mlir_ir.specs.Operations.{Const}
use Rattle.mlir_ir.specs.Words.{bits_of}
use Rattle.mlir_ir.specs.declared.types.IrType.{IrType}
use Rattle.pass_copy.specs.Built.{label}
use Rattle.pass_copy.specs.declared.building.Out.{Out}
use Rattle.pass_expand.specs.Added.{Adds}
use Rattle.pass_expand.specs.Expanded.{wrapping, products, term_steps, steps, sum_after}
use Rattle.pass_expand.specs.Terms.{term}
use Rattle.pass_expand.proofs.GivenNames.{adds_then, adds_at}

pub products_count : (v : ℕ) (symbols : List Label) → length (products v symbols) ≡ length symbols
products_count v [] = refl
products_count v (x ∷ xs) = ap suc (products_count (v + 1) xs)

-- a constant, and the products with its symbols
pub term_added : (ty : IrType) (a b c : Out) (v v' value : ℕ) (symbols : List Label) → v' ≡ v → value ≡ a.at → Adds a ty (Const (v' % 2 ^ bits_of ty) ∷ []) b
    → Adds b ty (products value symbols) c → Adds a ty (term_steps ty a.at (term v symbols)) c
term_added ty a b c v v' value symbols e l p q =
    subst (λ does. Adds a ty does c) (λ j. Const (e j % 2 ^ bits_of ty) ∷ products (l j) symbols) (adds_then ty a b c (Const (v' % 2 ^ bits_of ty) ∷ []) (products value symbols) p q)

-- the sum with a term
pub sum_added : (ty : IrType) (a b c : Out) (v : ℕ) (symbols xs : List Label) (so_far : Option Label) (sum value : Label) → so_far ≡ Some sum → length xs ≡ length symbols
    → value.0 ≡ a.at + length xs → Adds a ty (term_steps ty a.at (term v symbols)) b → Adds b ty (wrapping Addi sum value ∷ []) c
    → Adds a ty (steps ty a.at so_far (term v symbols ∷ [])) c
sum_added ty a b c v symbols xs so_far sum value s n l p q =
    subst (λ (before : Option Label). Adds a ty (steps ty a.at before (term v symbols ∷ [])) c) (sym s)
    (adds_then ty a b c (term_steps ty a.at (term v symbols)) (wrapping Addi sum (label (a.at + length symbols)) ∷ []) p
    (subst (λ i. Adds b ty (wrapping Addi sum (label i) ∷ []) c) (l ∙ ap (λ i. a.at + i) n) q))

-- its label
pub sum_label : (ty : IrType) (a b : Out) (v : ℕ) (symbols : List Label) (so_far : Option Label) (sum l : Label) → so_far ≡ Some sum
    → Adds a ty (term_steps ty a.at (term v symbols)) b → l.0 ≡ b.at → Some l ≡ sum_after a.at so_far (term v symbols ∷ [])
sum_label ty a b v symbols so_far sum l s p e =
    let n = products_count a.at symbols in
    let at = adds_at ty a b (term_steps ty a.at (term v symbols)) p in
    let here : l.0 ≡ a.at + length symbols + 1 = omega arith in
    (λ j. Some (label (here j))) ∙ (λ j. sum_after a.at (sym s j) (term v symbols ∷ []))
