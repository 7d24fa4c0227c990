-- Cells counted over a list of places.
use Rattle.std.proofs.Common.{◌≡◌, ℕ, ◌+◌, ◌<◌, ◌≤◌, List, [], ◌∷◌, ◌++◌, length, get_or, take, sym, ap, ◌∙◌, arith, max}
use Rattle.std.proofs.Math.Seq.{take-length}
use Rattle.scev_tree.specs.declared.tree.Tree.{Tree, Num}
use Rattle.scev_tree.specs.Polynomial.{Polynomial, Polynomials, ext, none, more}
use Rattle.scev_tree.specs.Tree.{polynomial_of, polynomials}
use Rattle.scev_tree.proofs.GrowingLists.{take_snoc}
use Rattle.scev_tree.proofs.ListedTrees.{polynomial_of_num}
use Rattle.step_core.specs.Parts.{tree_part, places_part}
use Rattle.step_core.proofs.Injective.{small_number, large_number}
use Rattle.cell_code.specs.Count.{cells_in, cells_in_places}

pub of_list : (ps : Polynomials) → cells_in (places_part ps) ≡ max (cells_in_places ps) 1
of_list none = omega arith
of_list (more p none) = omega arith
of_list (more p (more q qs)) = let s = of_list (more q qs) in omega arith

snoc : (us : List Tree) (t : Tree) → cells_in_places (polynomials (us ++ t ∷ [])) ≡ cells_in_places (polynomials us) + (cells_in (tree_part (polynomial_of t)) + 1)
snoc [] t = omega arith
snoc (u ∷ us) t = let s = snoc us t in omega arith

pub one_more : (ts : List Tree) (i : ℕ) (t : Tree) → i < length ts → t ≡ get_or ts i t
    → cells_in_places (polynomials (take (i + 1) ts)) ≡ cells_in_places (polynomials (take i ts)) + (cells_in (tree_part (polynomial_of t)) + 1)
one_more ts i t lt e = ap (λ (us : List Tree). cells_in_places (polynomials us)) (take_snoc ts i t lt ∙ ap (λ (u : Tree). take i ts ++ u ∷ []) (sym e)) ∙ snoc (take i ts) t

pub small : (t : Tree) (n : ℕ) → t ≡ Num n → n < 72057594037927936 → cells_in (tree_part (polynomial_of t)) ≡ 1
small t n e lt = rw (e, polynomial_of_num) (ap cells_in (sym (small_number n lt)))

pub large : (t : Tree) (n : ℕ) → t ≡ Num n → 72057594037927936 ≤ n → cells_in (tree_part (polynomial_of t)) ≡ 2
large t n e le = rw (e, polynomial_of_num) (ap cells_in (sym (large_number n le)))

pub nested : (t : Tree) (x : ℕ) (ps : Polynomials) → polynomial_of t ≡ ext x ps → cells_in (tree_part (polynomial_of t)) ≡ 1 + cells_in (places_part ps)
nested t x ps e = ap (λ (p : Polynomial). cells_in (tree_part p)) e

pub whole : (ts : List Tree) (i : ℕ) → i ≡ length ts → cells_in_places (polynomials (take i ts)) ≡ cells_in_places (polynomials ts)
whole ts i e = ap (λ (us : List Tree). cells_in_places (polynomials us)) (ap (λ (k : ℕ). take k ts) e ∙ take-length ts)
