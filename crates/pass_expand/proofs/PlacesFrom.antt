-- The places of a tree from one on.
use Rattle.std.proofs.Common.{◌≡◌, ℕ, zero, suc, ◌+◌, ◌<◌, ◌≤◌, List, [], ◌∷◌, refl, ◌∙◌, sym, arith, length, get_or, drop}
use Rattle.scev_tree.specs.declared.tree.Tree.{Tree}
use Rattle.scev_tree.specs.Polynomial.{none, more}
use Rattle.scev_tree.specs.Tree.{polynomial_of, polynomials}

first_place : (ts : List Tree) (i : ℕ) (d : Tree) → i < length ts → polynomials (drop i ts) ≡ more (polynomial_of (get_or ts i d)) (polynomials (drop (suc i) ts))
first_place [] i d h = absurd (omega arith)
first_place (t ∷ ts) zero d h = refl
first_place (t ∷ ts) (suc i) d h = first_place ts i d (omega arith)

-- one place, and those behind it
pub place_from : (ts : List Tree) (i : ℕ) (t : Tree) → i < length ts → t ≡ get_or ts i t → polynomials (drop i ts) ≡ more (polynomial_of t) (polynomials (drop (i + 1) ts))
place_from ts i t h e =
    let n : suc i ≡ i + 1 = omega arith in
    first_place ts i t h ∙ (λ j. more (polynomial_of (sym e j)) (polynomials (drop (n j) ts)))

pub places_end : (ts : List Tree) (i : ℕ) → length ts ≤ i → polynomials (drop i ts) ≡ none
places_end [] zero h = refl
places_end [] (suc i) h = refl
places_end (t ∷ ts) zero h = absurd (omega arith)
places_end (t ∷ ts) (suc i) h = places_end ts i (omega arith)
