-- Expressions of products, as programs read them.
use Rattle.std.proofs.Common.{◌≡◌, ◌≢◌, ℕ, ◌==◌, ◌&&◌, ◌<◌, Bool, true, false, List, [], ◌∷◌, length, get_or, Some, None, if◌then◌else◌, refl, ap, ◌∙◌, sym, subst, arith}
use Rattle.mlir_ir.specs.Typed.{Types}
use Rattle.mlir_ir.specs.declared.types.IrType.{IrType}
use Rattle.pass_expand.specs.Expandable.{expands}
use Rattle.pass_indvar.specs.Reductions.{progression}
use Rattle.scev_tree.specs.Polynomial.{Polynomial, Polynomials, ext, none, more, variable_of, IsCanonical}
use Rattle.scev_tree.specs.Tree.{polynomial_of, polynomials}
use Rattle.scev_tree.specs.declared.tree.Tree.{Tree, Num}
use Rattle.scev_tree.proofs.ListedTrees.{polynomial_of_num}
use Rattle.scev_tree.proofs.TreePlaces.{canon_of, places_canon}

module _ (t : ℕ) (p : Polynomial) (T : Types) (l : ℕ) (ty : IrType) where
  pub number_is_none : (tree : Tree) (v : ℕ) → tree ≡ Num v → progression T t l ty (polynomial_of tree) ≡ None
  number_is_none tree v e = ap (progression T t l ty) (ap polynomial_of e ∙ polynomial_of_num v)

  other : (x : ℕ) (ps : Polynomials) → (x == variable_of true t) ≡ false → progression T t l ty (ext x ps) ≡ None
  other x none e = refl
  other x (more a none) e = refl
  other x (more a (more b none)) e =
      ap (λ (c : Bool). if c && expands T ty a && expands T ty b then Some (record { product = l; ty = ty; start = a; step = b }) else None) e
  other x (more a (more b (more c ps))) e = refl

  -- the variable is another one
  pub other_is_none : (x : ℕ) (ps : Polynomials) → p ≡ ext x ps → (x == variable_of true t) ≡ false → progression T t l ty p ≡ None
  other_is_none x ps is e = ap (progression T t l ty) is ∙ other x ps e

  not_two : (x : ℕ) (ts : List Tree) → length ts ≢ 2 → progression T t l ty (ext x (polynomials ts)) ≡ None
  not_two x [] e = refl
  not_two x (a ∷ []) e = refl
  not_two x (a ∷ b ∷ []) e = absurd (e refl)
  not_two x (a ∷ b ∷ c ∷ ts) e = refl

  -- there are not two places
  pub not_two_is_none : (x : ℕ) (ts : List Tree) → p ≡ ext x (polynomials ts) → length ts ≢ 2 → progression T t l ty p ≡ None
  not_two_is_none x ts is e = ap (progression T t l ty) is ∙ not_two x ts e

pub place_canon : (M x : ℕ) (p : Polynomial) (ts : List Tree) (i : ℕ) (tree : Tree) → p ≡ ext x (polynomials ts) → IsCanonical M p → i < length ts → tree ≡ get_or ts i tree → IsCanonical M (polynomial_of tree)
place_canon M x p ts i tree is canon lt at = canon_of M x ts i tree at (places_canon M x (polynomials ts) (subst (IsCanonical M) is canon)) lt

both : (ts : List Tree) (a b : Tree) → length ts ≡ 2 → a ≡ get_or ts 0 a → b ≡ get_or ts 1 b → polynomials ts ≡ more (polynomial_of a) (more (polynomial_of b) none)
both [] a b n ea eb = absurd (omega arith)
both (x ∷ []) a b n ea eb = absurd (omega arith)
both (x ∷ y ∷ []) a b n ea eb = λ j. more (polynomial_of (sym ea j)) (more (polynomial_of (sym eb j)) none)
both (x ∷ y ∷ z ∷ ts) a b n ea eb = absurd (omega arith)

pub two_places : (t x : ℕ) (p : Polynomial) (ts : List Tree) (a b : Tree) (q r : Polynomial) → p ≡ ext x (polynomials ts) → x ≡ variable_of true t → length ts ≡ 2
    → a ≡ get_or ts 0 a → b ≡ get_or ts 1 b → q ≡ polynomial_of a → r ≡ polynomial_of b → p ≡ ext (variable_of true t) (more q (more r none))
two_places t x p ts a b q r is var n ea eb qa rb =
    is ∙ (λ j. ext (var j) (both ts a b n ea eb j)) ∙ (λ j. ext (variable_of true t) (more (sym qa j) (more (sym rb j) none)))
