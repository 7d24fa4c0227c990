-- chains of numbers
use Rattle.std.proofs.Common.{◌≡◌, ℕ, zero, suc, ◌+◌, ◌%◌, ◌^◌, ◌<◌, ◌≤◌, List, [], ◌∷◌, ◌++◌, refl, ap, ◌∙◌, sym, subst, arith, length, get_or, take, take_all}
use Rattle.std.proofs.lemmas.Nat.{mod_below}
use Rattle.std.specs.Prelude.{bit_and}
use Rattle.scev_tree.specs.declared.tree.Tree.{Tree, Num}
use Rattle.scev_tree.specs.Polynomial.{Polynomial, num, more, AreCanonical, IsBuilt}
use Rattle.scev_tree.specs.Tree.{polynomial_of, polynomials, residues}
use Rattle.scev_tree.proofs.GrowingLists.{snoc, polynomials_snoc}
use Rattle.scev_tree.proofs.Leaves.{number_is}

residues_snoc : (M : ℕ) (vs : List ℕ) (v : ℕ) → residues M (vs ++ v ∷ []) ≡ snoc (residues M vs) (num (v % M))
unfolding snoc
residues_snoc M [] v = refl
residues_snoc M (u ∷ us) v = ap (λ ps. more (num (u % M)) ps) (residues_snoc M us v)

front : (vs : List ℕ) (i d : ℕ) → i < length vs → take (i + 1) vs ≡ take i vs ++ get_or vs i d ∷ []
front [] i d h = absurd (omega arith)
front (u ∷ us) zero d h = refl
front (u ∷ us) (suc i) d h = let e : suc i + 1 ≡ suc (i + 1) = omega arith in rw e (ap (λ (vs : List ℕ). u ∷ vs) (front us i d (omega arith)))

pub chain_push : (w m i d : ℕ) (out out' : List Tree) (vs : List ℕ) → m + 1 ≡ 2 ^ w → i < length vs → polynomials out ≡ residues (2 ^ w) (take i vs) → out' ≡ out ++ Num (bit_and (get_or vs i d) m) ∷ [] → polynomials out' ≡ residues (2 ^ w) (take (i + 1) vs)
chain_push w m i d out out' vs em lt e o =
    let v = get_or vs i d in
    ap (λ (ts : List Tree). polynomials ts) o ∙ (polynomials_snoc out (Num (bit_and v m)) ∙ (ap (λ ps. snoc ps (polynomial_of (Num (bit_and v m)))) e
    ∙ (ap (λ p. snoc (residues (2 ^ w) (take i vs)) p) (number_is v w m em) ∙ sym (ap (λ us. residues (2 ^ w) us) (front vs i d lt) ∙ residues_snoc (2 ^ w) (take i vs) v))))

pub chain_first : (M : ℕ) (out : List Tree) (vs : List ℕ) → out ≡ [] → polynomials out ≡ residues M (take 0 vs)
chain_first M out [] e = ap (λ (ts : List Tree). polynomials ts) e
chain_first M out (v ∷ vs) e = ap (λ (ts : List Tree). polynomials ts) e

residues_canonical : (M x : ℕ) (vs : List ℕ) → 0 < M → AreCanonical M (residues M vs) x
residues_canonical M x [] some = tt
residues_canonical M x (v ∷ vs) some = (tt, mod_below v M some, residues_canonical M x vs some)

pub chain_built : (M x y i : ℕ) (r : Polynomial) (out : List Tree) (vs : List ℕ) → 0 < M → length vs ≤ i → y ≡ x → polynomials out ≡ residues M (take i vs) → (AreCanonical M (polynomials out) y → IsBuilt M y (polynomials out) r) → IsBuilt M x (residues M vs) r
chain_built M x y i r out vs some le same e built =
    let e' : polynomials out ≡ residues M vs = e ∙ ap (λ us. residues M us) (take_all i vs le) in
    let built' = subst (λ z. AreCanonical M (polynomials out) z → IsBuilt M z (polynomials out) r) same built in
    subst (λ ps. AreCanonical M ps x → IsBuilt M x ps r) e' built' (residues_canonical M x vs some)
