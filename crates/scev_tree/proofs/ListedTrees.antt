-- a tree made of a list of trees
use Rattle.std.proofs.Common.{◌≡◌, ℕ, zero, suc, ◌<◌, List, [], ◌∷◌, refl, ap, ◌∙◌, Bool}
use Rattle.std.proofs.Common.{get_or, take, drop, length, ◌≤◌, ◌-◌, arith, take_all}
use Rattle.scev_tree.specs.declared.tree.Tree.{Tree, Num, Ext, Row_of-Tree, end_of-Tree, more_of-Tree, items-the_row-Tree, items_hidden-the_row-Tree-0}
use Rattle.scev_tree.specs.declared.tree.Tree.TheBlock.{hidden-the_row-Tree-0}
use Rattle.arith_word.specs.declared.label.Label.{Label}
use Rattle.scev_tree.specs.Polynomial.{num, ext, more, variable_of, place, coefficient, Power}
use Rattle.scev_tree.specs.Tree.{polynomial_of, polynomials_of, polynomials, weight, weights, len}

polynomials_of-items : (n : _) (row : Row_of-Tree n) → polynomials_of row ≡ polynomials (items-the_row-Tree n row)
unfolding polynomials_of polynomial_of
polynomials_of-items n end_of-Tree = refl
polynomials_of-items n (more_of-Tree t rest) = ap (λ ps. more (polynomial_of t) ps) (polynomials_of-items _ rest)

pub polynomial_of_ext : (c : Bool) (x : Label) (ts : List Tree) → polynomial_of (Ext c x ts) ≡ ext (variable_of c x.0) (polynomials ts)
unfolding polynomial_of polynomials_of
polynomial_of_ext c x ts = ap (λ ps. ext (variable_of c x.0) ps) (polynomials_of-items _ (hidden-the_row-Tree-0 ts) ∙ ap (λ (us : List Tree). polynomials us) (items_hidden-the_row-Tree-0 ts))

pub polynomial_of_num : (v : ℕ) → polynomial_of (Num v) ≡ num v
unfolding polynomial_of
polynomial_of_num v = refl

-- the first of a list of trees, and the rest
pub polynomials_cons : (ts : List Tree) (t : Tree) → 1 ≤ length ts → t ≡ get_or ts 0 t → polynomials ts ≡ more (polynomial_of t) (polynomials (take (length ts - 1) (drop 1 ts)))
polynomials_cons [] t h e = absurd (omega arith)
polynomials_cons (u ∷ us) t h e =
    let n : length (u ∷ us) - 1 ≡ length us = omega arith in
    let le : length us ≤ length us = omega arith in
    let r : take (length (u ∷ us) - 1) us ≡ us = rw (n, take_all) refl in
    let same : t ≡ u = e in
    cc

pub whole : (c : Bool) (x : Label) (first : Tree) (out v : List Tree) → v ≡ first ∷ out → polynomial_of (Ext c x v) ≡ ext (variable_of c x.0) (more (polynomial_of first) (polynomials out))
whole c x first out v e = polynomial_of_ext c x v ∙ ap (λ (ts : List Tree). ext (variable_of c x.0) (polynomials ts)) e

-- one of a list of trees
pub place_is : (ts : List Tree) (i : ℕ) (d : Tree) (m : List Power) → i < length ts → place (polynomials ts) i m ≡ coefficient (polynomial_of (get_or ts i d)) m
place_is [] i d m h = absurd (omega arith)
place_is (t ∷ ts) zero d m h = refl
place_is (t ∷ ts) (suc i) d m h = place_is ts i d m (omega arith)

pub weight_of : (ts : List Tree) (i : ℕ) (d : Tree) → i < length ts → weight (polynomial_of (get_or ts i d)) < weights (polynomials ts)
weight_of [] i d h = absurd (omega arith)
weight_of (t ∷ ts) zero d h = omega arith
weight_of (t ∷ ts) (suc i) d h = omega (arith, weight_of ts i d (omega arith))

pub len_is : (ts : List Tree) → len (polynomials ts) ≡ length ts
len_is [] = refl
len_is (t ∷ ts) = omega (arith, len_is ts)
