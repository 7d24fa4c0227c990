-- how large a polynomial is
use Rattle.std.proofs.Common.{◌≡◌, ℕ, suc, ◌+◌, ◌<◌, List, [], ◌∷◌, ◌++◌, refl, ap, ◌∙◌, sym, arith, length, get_or, take, min, max, inl, inr}
use Rattle.std.proofs.lemmas.List.{length-take}
use Rattle.std.proofs.lemmas.Bool.{eq-eqb, ne_eqb, cases_eq}
use Rattle.scev_tree.specs.declared.tree.Tree.{Tree, Num}
use Rattle.scev_tree.specs.Polynomial.{Polynomial, Polynomials, num, ext}
use Rattle.scev_tree.specs.Tree.{polynomials, polynomial_of}
use Rattle.scev_tree.specs.Measure.{monomials, monomials_in, total_degree, total_degree_from, degree_in_place}
use Rattle.scev_tree.proofs.ListedTrees.{polynomial_of_num}
use Rattle.scev_tree.proofs.GrowingLists.{take_snoc}

sizes_snoc : (us : List Tree) (t : Tree) → monomials_in (polynomials (us ++ t ∷ [])) ≡ monomials_in (polynomials us) + monomials (polynomial_of t)
sizes_snoc [] t = omega arith
sizes_snoc (u ∷ us) t = omega (arith, sizes_snoc us t)

pub sizes_more : (ts : List Tree) (i : ℕ) (t : Tree) → i < length ts → t ≡ get_or ts i t → monomials_in (polynomials (take (i + 1) ts)) ≡ monomials_in (polynomials (take i ts)) + monomials (polynomial_of t)
sizes_more ts i t lt e = ap (λ (us : List Tree). monomials_in (polynomials us)) (take_snoc ts i t lt ∙ ap (λ (u : Tree). take i ts ++ u ∷ []) (sym e)) ∙ sizes_snoc (take i ts) t

pub size_num : (t : Tree) (v : ℕ) → t ≡ Num v → (0 < v → monomials (polynomial_of t) ≡ 1) × (v ≡ 0 → monomials (polynomial_of t) ≡ 0)
size_num t v e = rw (e, polynomial_of_num) (λ h. rw (ne_eqb v 0 (λ z. omega arith)) refl, λ z. rw (eq-eqb v 0 z) refl)

pub size_ext : (t : Tree) (p : Polynomial) → polynomial_of t ≡ p → monomials (polynomial_of t) ≡ monomials p
size_ext t p e = ap monomials e

pub size_next : (n s m k u : ℕ) → n ≡ min s k → m ≡ min u k → min (n + m) k ≡ min (s + u) k
size_next n s m k u a b = omega arith

-- ---- degrees

degree_at : (p : Polynomial) (j k : ℕ) → j ≡ k → degree_in_place p j ≡ degree_in_place p k
degree_at p j k e = ap (λ i. degree_in_place p i) e

degrees_snoc : (us : List Tree) (t : Tree) (j : ℕ) → total_degree_from (polynomials (us ++ t ∷ [])) j ≡ max (total_degree_from (polynomials us) j) (degree_in_place (polynomial_of t) (j + length us))
degrees_snoc [] t j = let e = degree_at (polynomial_of t) j (j + 0) (omega arith) in omega arith
degrees_snoc (u ∷ us) t j =
    let r = degrees_snoc us t (suc j) in
    let e = degree_at (polynomial_of t) (suc j + length us) (j + length (u ∷ us)) (omega arith) in
    omega arith

pub degrees_more : (ts : List Tree) (i : ℕ) (t : Tree) → i < length ts → t ≡ get_or ts i t → total_degree_from (polynomials (take (i + 1) ts)) 0 ≡ max (total_degree_from (polynomials (take i ts)) 0) (degree_in_place (polynomial_of t) i)
degrees_more ts i t lt e =
    let s = ap (λ (us : List Tree). total_degree_from (polynomials us) 0) (take_snoc ts i t lt ∙ ap (λ (u : Tree). take i ts ++ u ∷ []) (sym e)) in
    let n : length (take i ts) ≡ i = omega (arith, length-take {A = Tree}) in
    let d = degree_at (polynomial_of t) (0 + length (take i ts)) i (omega arith) in
    s ∙ (degrees_snoc (take i ts) t 0 ∙ ap (λ k. max (total_degree_from (polynomials (take i ts)) 0) k) d)

-- an index above the greatest u32 gives the greatest u32
pub degree_capped : (p : Polynomial) (i j k : ℕ) → j ≡ min i k → min (degree_in_place p j) k ≡ min (degree_in_place p i) k
degree_capped (num v) i j k e = elim (cases_eq v 0) [
  | inl z ↦ rw (eq-eqb v 0 z) refl
  | inr ne ↦ rw (ne_eqb v 0 ne) (omega arith)
]
degree_capped (ext x ps) i j k e = omega arith

pub degree_ext : (t : Tree) (x : ℕ) (ps : Polynomials) → polynomial_of t ≡ ext x ps → total_degree (polynomial_of t) ≡ total_degree_from ps 0
degree_ext t x ps e = ap total_degree e
