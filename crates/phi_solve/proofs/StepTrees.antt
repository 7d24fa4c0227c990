-- x + p as a tree, and the chain that it makes
use Rattle.std.proofs.Common.{◌≡◌, ℕ, zero, suc, ◌+◌, ◌%◌, ◌<◌, ◌≤◌, ◌⊎◌, inl, inr, List, [], ◌∷◌, refl, ap, ◌∙◌, sym, subst, arith, length, get_or, take, take_all}
use Rattle.std.proofs.lemmas.Bool.{eq-eqb, ne_eqb, cases_eq}
use Rattle.std.proofs.Math.Nat.{mod-eq_of_lt}
use Rattle.scev_tree.specs.declared.tree.Tree.{Tree}
use Rattle.scev_tree.specs.Polynomial.{Polynomial, Polynomials, num, ext, none, more, Power, power, coefficient, place, IsMonomial, Under, IsCanonical, AreCanonical, IsBuilt, with_power}
use Rattle.scev_tree.specs.Tree.{polynomials, polynomial_of, len}
use Rattle.scev_tree.specs.Polynomial.{variable}
use Rattle.phi_solve.specs.Step.{IsStep, IsChain}
use Rattle.scev_tree.specs.Side.{IsSide}
pub use Rattle.scev_tree.proofs.Sides.{side_one, side_ext, side_list, side_places}
use Rattle.scev_tree.proofs.Unique.{unique, above, raised}
use Rattle.scev_tree.proofs.TreePlaces.{fits}
use Rattle.scev_tree.proofs.TreePlaces.{high_place}
pub use Rattle.scev_tree.proofs.ListedTrees.{polynomial_of_num, polynomial_of_ext}
use Rattle.scev_tree.proofs.ListedTrees.{len_is}

-- ---- the places of a polynomial

abbrev pub plus : ℕ → Polynomial → Polynomial
plus arg p = ext arg (more p (more (num 1) none))

zero_coeff : (m : List Power) → coefficient (num 0) m ≡ 0
zero_coeff [] = refl
zero_coeff (q ∷ m) = refl

one_below : (M k : ℕ) (m : List Power) → 1 < M → place (more (num 1) none) k m < M
one_below M zero [] h = h
one_below M zero (q ∷ m) h = omega arith
one_below M (suc k) m h = omega arith

left_zero : (M a b : ℕ) → a ≡ 0 → b < M → b ≡ (a + b) % M
left_zero M a b e lt = let s : a + b ≡ b = omega arith in sym (ap (λ z. z % M) s ∙ mod-eq_of_lt lt)

right_zero : (M a b : ℕ) → b ≡ 0 → a < M → a ≡ (a + b) % M
right_zero M a b e lt = let s : a + b ≡ a = omega arith in sym (ap (λ z. z % M) s ∙ mod-eq_of_lt lt)

high : (M arg : ℕ) (p : Polynomial) (q : Power) (m : List Power) → 1 < M → IsCanonical M p → Under p arg → q.var ≡ arg → (j : ℕ) → 0 < j → place (more p (more (num 1) none)) j m ≡ (place (more (num 0) (more (num 1) none)) j m + coefficient p (q ∷ m)) % M
high M arg p q m h c u e zero g = absurd (omega arith)
high M arg p q m h c u e (suc j) g = right_zero M (place (more (num 1) none) j m) (coefficient p (q ∷ m)) (above M p arg q m c u (omega arith)) (one_below M j m h)

plus_at : (M arg : ℕ) (p : Polynomial) (m : List Power) (top : ℕ) → 1 < M → IsCanonical M p → Under p arg → IsMonomial m top → coefficient (plus arg p) m ≡ (coefficient (variable arg) m + coefficient p m) % M
plus_at M arg p [] top h c u is = left_zero M 0 (coefficient p []) refl (fits M p [] (omega arith) c)
plus_at M arg p (q ∷ m) top h c u is = elim (cases_eq q.var arg) [
  | inl e ↦ rw (eq-eqb q.var arg e) (high M arg p q m h c u e q.exp is.1)
  | inr ne ↦ rw (ne_eqb q.var arg ne) (left_zero M 0 (coefficient p (q ∷ m)) refl (fits M p (q ∷ m) (omega arith) c))
]

plus_canon : (M arg : ℕ) (p : Polynomial) → 1 < M → IsCanonical M p → Under p arg → IsCanonical M (plus arg p)
plus_canon M arg p h c u = (u, c, (tt, h, tt), omega arith)

later_under : (p : Polynomial) (y x : ℕ) → Under p y → y ≤ x → Under p x
later_under (num v) y x u lt = tt
later_under (ext z ps) y x u lt = omega arith

-- the tree of arg + p
pub step_is : (M arg x top : ℕ) (y p : Polynomial) → 1 < M → x < arg → arg < top → Under y top → IsCanonical M y → IsStep M arg x y p → y ≡ plus arg p
step_is M arg x top y p h lt le uy cy s =
    let u : Under p arg = later_under p (suc x) arg s.under (omega arith) in
    unique M y (plus arg p) top cy (plus_canon M arg p h s.canon u) uy le (λ m is. s.at m top is ∙ sym (plus_at M arg p m top h s.canon u is))

pub step_from : (M arg x : ℕ) (y p : Polynomial) → 1 < M → x < arg → y ≡ plus arg p → IsCanonical M p → Under p (suc x) → IsStep M arg x y p
step_from M arg x y p h lt e c u = rw e (record { canon = c; under = u; at = λ m top is. plus_at M arg p m top h c (later_under p (suc x) arg u (omega arith)) is })

height : Polynomial → ℕ
height (num v) = 0
height (ext x ps) = suc x

under_height : (p : Polynomial) (t : ℕ) → height p ≤ t → Under p t
unfolding height
under_height (num v) t h = tt
under_height (ext x ps) t h = omega arith

pub step_tree : (M arg x : ℕ) (y p : Polynomial) → 1 < M → x < arg → IsCanonical M y → IsStep M arg x y p → y ≡ plus arg p
step_tree M arg x y p h lt c s = step_is M arg x (height y + suc arg) y p h lt (omega arith) (under_height y (height y + suc arg) (omega arith)) c s

-- the chain of init and the places of p
pub chain_is : (M x : ℕ) (r init p : Polynomial) (ps : Polynomials) → IsCanonical M p → IsSide x ps p → IsBuilt M x (more init ps) r → IsChain M x r init p
chain_is M x r init p ps c s b = record {
  canon = b.canon;
  under = b.under (suc x) (omega arith);
  first = λ m is. b.at m x is ∙ high_place x (more init ps) 0 m is;
  later = λ k m is. b.at (power x (suc k) ∷ m) (suc x) (omega arith, omega arith, is) ∙ (high_place x (more init ps) (suc k) m is ∙ (sym (high_place x ps k m is) ∙ s.at M c (with_power x k m) (suc x) (mono k m is)));
}
  where
    mono : (k : ℕ) (m : List Power) → IsMonomial m x → IsMonomial (with_power x k m) (suc x)
    mono zero m is = raised M m x (suc x) is (omega arith)
    mono (suc k) m is = (omega arith, omega arith, is)

-- no tree of another form is arg + p
pub not_num : (M arg x v : ℕ) (y : Polynomial) → 1 < M → x < arg → IsCanonical M y → y ≡ num v → (p : Polynomial) → IsStep M arg x y p → ⊥
not_num M arg x v y h lt c e p s = let f : y ≡ plus arg p = step_tree M arg x y p h lt c s in cc

pub not_var : (M arg x z : ℕ) (y : Polynomial) (ps : Polynomials) → 1 < M → x < arg → IsCanonical M y → y ≡ ext z ps → (z ≡ arg → ⊥) → (p : Polynomial) → IsStep M arg x y p → ⊥
not_var M arg x z y ps h lt c e ne p s = let f : y ≡ plus arg p = step_tree M arg x y p h lt c s in let g : z ≡ arg = cc in ne g

pub places_are : (M arg x z : ℕ) (y : Polynomial) (ps : Polynomials) → 1 < M → x < arg → IsCanonical M y → y ≡ ext z ps → (p : Polynomial) → IsStep M arg x y p → ps ≡ more p (more (num 1) none)
places_are M arg x z y ps h lt c e p s = let f : y ≡ plus arg p = step_tree M arg x y p h lt c s in cc

-- two trees in a list
two : (ts : List Tree) (p o : Tree) → 2 ≤ length ts → length ts < 3 → p ≡ get_or ts 0 p → o ≡ get_or ts 1 o → polynomials ts ≡ more (polynomial_of p) (more (polynomial_of o) none)
two [] p o h g e f = absurd (omega arith)
two (a ∷ []) p o h g e f = absurd (omega arith)
two (a ∷ b ∷ []) p o h g e f = rw (e, f) refl
two (a ∷ b ∷ c ∷ ts) p o h g e f = absurd (omega arith)

pub not_one : (M arg x z : ℕ) (y : Polynomial) (ts : List Tree) (p o : Tree) → 1 < M → x < arg → IsCanonical M y → y ≡ ext z (polynomials ts) → 2 ≤ length ts → length ts < 3 → p ≡ get_or ts 0 p → o ≡ get_or ts 1 o → (polynomial_of o ≡ num 1 → ⊥) → (r : Polynomial) → IsStep M arg x y r → ⊥
not_one M arg x z y ts p o h lt c e g l ep eo ne r s =
    let f = places_are M arg x z y (polynomials ts) h lt c e r s in
    let d = two ts p o g l ep eo in
    let k : polynomial_of o ≡ num 1 = cc in ne k

pub not_low : (M arg x z : ℕ) (y : Polynomial) (ts : List Tree) (p o : Tree) → 1 < M → x < arg → IsCanonical M y → y ≡ ext z (polynomials ts) → 2 ≤ length ts → length ts < 3 → p ≡ get_or ts 0 p → o ≡ get_or ts 1 o → (Under (polynomial_of p) (suc x) → ⊥) → (r : Polynomial) → IsStep M arg x y r → ⊥
not_low M arg x z y ts p o h lt c e g l ep eo ne r s =
    let f = places_are M arg x z y (polynomials ts) h lt c e r s in
    let d = two ts p o g l ep eo in
    let k : r ≡ polynomial_of p = cc in ne (subst (λ (q : Polynomial). Under q (suc x)) k s.under)

pub not_count : (M arg x z : ℕ) (y : Polynomial) (ts : List Tree) → 1 < M → x < arg → IsCanonical M y → y ≡ ext z (polynomials ts) → (length ts < 2) ⊎ (3 ≤ length ts) → (r : Polynomial) → IsStep M arg x y r → ⊥
not_count M arg x z y ts h lt c e w r s =
    let f = places_are M arg x z y (polynomials ts) h lt c e r s in
    let n : len (polynomials ts) ≡ 0 + 1 + 1 = ap len f in
    elim w [ inl a ↦ omega (arith, len_is ts) | inr b ↦ omega (arith, len_is ts) ]

pub canon_first : (M z : ℕ) (y : Polynomial) (ts : List Tree) (p o : Tree) → IsCanonical M y → y ≡ ext z (polynomials ts) → 2 ≤ length ts → length ts < 3 → p ≡ get_or ts 0 p → o ≡ get_or ts 1 o → IsCanonical M (polynomial_of p)
canon_first M z y ts p o c e g l ep eo =
    let c' = subst (IsCanonical M) (e ∙ ap (ext z) (two ts p o g l ep eo)) c in c'.1

pub step_found : (M arg x z : ℕ) (y r init : Polynomial) (ts : List Tree) (p o : Tree) → 1 < M → x < arg → z ≡ arg → IsCanonical M y → y ≡ ext z (polynomials ts) → 2 ≤ length ts → length ts < 3 → p ≡ get_or ts 0 p → o ≡ get_or ts 1 o → polynomial_of o ≡ num 1 → Under (polynomial_of p) (suc x) → IsChain M x r init (polynomial_of p) → (q : Polynomial) × IsStep M arg x y q × IsChain M x r init q
step_found M arg x z y r init ts p o h lt ez c e g l ep eo one low ch =
    let d : y ≡ plus arg (polynomial_of p) = e ∙ (ap (ext z) (two ts p o g l ep eo) ∙ (ap (λ q. ext z (more (polynomial_of p) (more q none))) one ∙ ap (λ k. ext k (more (polynomial_of p) (more (num 1) none))) ez)) in
    (polynomial_of p, step_from M arg x y (polynomial_of p) h lt d (canon_first M z y ts p o c e g l ep eo) low, ch)

pub chain_built : (M x y : ℕ) (r init p : Polynomial) (out ts : List Tree) (i : ℕ) → 0 < M → length ts ≤ i → y ≡ x → polynomials out ≡ more init (polynomials (take i ts)) → IsCanonical M init → Under init x → IsCanonical M p → IsSide x (polynomials ts) p → (AreCanonical M (polynomials out) y → IsBuilt M y (polynomials out) r) → IsChain M x r init p
chain_built M x y r init p out ts i some le same e ci ui cp s built' =
    let built = subst (λ z. AreCanonical M (polynomials out) z → IsBuilt M z (polynomials out) r) same built' in
    let e' : polynomials out ≡ more init (polynomials ts) = e ∙ ap (λ (us : List Tree). more init (polynomials us)) (take_all i ts le) in
    let c : AreCanonical M (more init (polynomials ts)) x = (ui, ci, s.canon M cp) in
    let b = subst (λ ps. AreCanonical M ps x → IsBuilt M x ps r) e' built c in
    chain_is M x r init p (polynomials ts) cp s b
