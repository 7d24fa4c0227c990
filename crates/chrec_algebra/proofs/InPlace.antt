-- multiples that are added to places
use Rattle.std.proofs.Common.{◌≡◌, ℕ, zero, suc, ◌+◌, ◌*◌, ◌%◌, ◌<◌, ◌≤◌, ◌⊎◌, inl, inr, List, [], ◌∷◌, ◌++◌, refl, ap, ◌∙◌, sym, subst, arith, length, length-append, get_or, Bool, true, false, not}
use Rattle.std.proofs.lemmas.Bool.{eq-eqb, ne_eqb, cases_order, cases_lt, cases_eq}
use Rattle.std.proofs.Math.Nat.{mod-eq_of_lt}
use Rattle.arith_word.specs.declared.label.Label.{Label}
use Rattle.scev_tree.specs.declared.tree.Tree.{Tree, Num, Ext}
use Rattle.scev_tree.specs.Polynomial.{Polynomial, Polynomials, num, ext, Power, coefficient, place, IsMonomial, Under, IsCanonical, AreCanonical, IsScaled, IsBuilt, variable_of}
use Rattle.scev_tree.specs.Tree.{polynomials, polynomial_of, EndsZero, Tidy}
use Rattle.scev_tree.proofs.GrowingLists.{snoc_below, snoc_last, canon_snoc, past_list, zero_coeff, trim_first, trim_last, build_from, build_one}
use Rattle.scev_tree.proofs.TreePlaces.{fits_place, canon_of, under_of}
use Rattle.scev_tree.specs.Side.{IsSide}
use Rattle.chrec_algebra.specs.Product.{IsAdded, IsPut}
use Rattle.chrec_algebra.specs.Onto.{AreAdded, AreFirst, IsAddedIn}
use Rattle.chrec_algebra.specs.Numbers.{numbers}
use Rattle.scev_tree.proofs.ListedTrees.{polynomial_of_num}
use Rattle.std.proofs.Math.ListN.{set}
use Rattle.chrec_algebra.proofs.PlacewiseProducts.{put_is, num_added}
use Rattle.chrec_algebra.proofs.ZeroProducts.{times_zero}

-- ---- the tree of the places

pub place_coeff : (x : ℕ) (ps qs : Polynomials) → ((j : ℕ) (m : List Power) → place ps j m ≡ place qs j m) → (m : List Power) → coefficient (ext x ps) m ≡ coefficient (ext x qs) m
place_coeff x ps qs h [] = h 0 []
place_coeff x ps qs h (q ∷ m) = elim (cases_order q.var x) [ inl e ↦ rw (eq-eqb q.var x e) (h q.exp m) | inr ne ↦ rw (ne_eqb q.var x (λ e. elim ne [ inl l ↦ omega arith | inr g ↦ omega arith ])) (h 0 (q ∷ m)) ]

some_length : (ts : List Tree) → (ts ≡ [] → ⊥) → 0 < length ts
some_length [] ne = absurd (ne refl)
some_length (t ∷ ts) ne = omega arith

pub without_zero : (M x : ℕ) (us ts : List Tree) (t : Tree) (r : Polynomial) → us ≡ ts ++ t ∷ [] → (ts ≡ [] → ⊥) → (length us ≤ 1) ⊎ EndsZero (polynomials us) → (AreCanonical M (polynomials ts) x → IsBuilt M x (polynomials ts) r) → AreCanonical M (polynomials us) x → IsBuilt M x (polynomials us) r
without_zero M x us ts t r e ne h built c =
    let count : length us ≡ length ts + 1 = ap (length {A = Tree}) e ∙ length-append ts (t ∷ []) in
    let z : EndsZero (polynomials us) = elim h [ inl few ↦ absurd (omega (arith, count, some_length ts ne)) | inr z ↦ z ] in
    let s = trim_last (polynomials us) us ts t (trim_first (polynomials us)) e z in
    let b = built (s.canon M x c) in
    record { canon = b.canon; under = b.under; at = λ m top is. b.at m top is ∙ place_coeff x (polynomials ts) (polynomials us) s.at m }

pub alone : (M x : ℕ) (us ts : List Tree) (t : Tree) → us ≡ ts ++ t ∷ [] → ts ≡ [] → AreCanonical M (polynomials us) x → IsBuilt M x (polynomials us) (polynomial_of t)
alone M x us ts t e n c = build_one M x (polynomials us) us t (e ∙ ap (λ (vs : List Tree). vs ++ t ∷ []) n) (trim_first (polynomials us)) c

pub together : (M : ℕ) (c : Bool) (x : Label) (us vs : List Tree) → us ≡ vs → (1 < length us) × Tidy (polynomials us) → AreCanonical M (polynomials vs) (variable_of c x.0) → IsBuilt M (variable_of c x.0) (polynomials vs) (polynomial_of (Ext c x vs))
together M c x us vs e t d =
    let t' : (1 < length vs) × Tidy (polynomials vs) = subst (λ (ws : List Tree). (1 < length ws) × Tidy (polynomials ws)) e t in
    build_from M c x (polynomials vs) vs vs refl t'.0 (trim_first (polynomials vs)) t'.1 d

-- ---- one place

pub push_is : (M k c : ℕ) (ts us : List Tree) (r : Tree) (t : Polynomial) → 0 < M → k ≡ length ts → us ≡ ts ++ r ∷ [] → IsScaled M c (polynomial_of r) t → IsPut M k c t (polynomials ts) (polynomials us)
push_is M k c ts us r t some l e s = rw e (record {
  canon = λ y ct dt ut. canon_snoc M y ts r ct (s.under y ut) s.canon;
  here = λ m top is. snoc_last ts r k m l ∙ (s.at m top is ∙ (let z = past_list ts k m (omega arith) in let h : c * coefficient t m ≡ place (polynomials ts) k m + c * coefficient t m = omega arith in ap (λ n. n % M) h));
  other = λ j m ne. elim (cases_lt j (length ts)) [
    | inl lt ↦ snoc_below ts r j m lt
    | inr ge ↦ past_list (ts ++ r ∷ []) j m (omega (arith, length-append ts (r ∷ []), l, ne_less j k ne)) ∙ sym (past_list ts j m ge)
  ];
})
  where
    ne_less : (j k : ℕ) → (j ≡ k → ⊥) → k ≤ j → k < j
    ne_less j k ne le = elim (cases_lt k j) [ inl l ↦ l | inr g ↦ absurd (ne (omega arith)) ]

pub canon_there : (M x : ℕ) (ts vs : List Tree) (k : ℕ) (o : Tree) → vs ≡ ts → o ≡ get_or vs k o → AreCanonical M (polynomials ts) x → k < length ts → IsCanonical M (polynomial_of o)
canon_there M x ts vs k o e eo c lt = canon_of M x ts k o (eo ∙ ap (λ (us : List Tree). get_or us k o) e) c lt

pub put_at : (M k c : ℕ) (ts vs us : List Tree) (o r : Tree) (t : Polynomial) → k < length ts → vs ≡ ts → o ≡ get_or vs k o → us ≡ set ts k r → IsAdded M c (polynomial_of r) (polynomial_of o) t → IsPut M k c t (polynomials ts) (polynomials us)
put_at M k c ts vs us o r t lt e eo es a = put_is M k c ts us o r t lt (eo ∙ ap (λ (ws : List Tree). get_or ws k o) e) es a

pub set_twice : (ts : List Tree) (k : ℕ) (a b : Tree) → set (set ts k a) k b ≡ set ts k b
set_twice [] k a b = refl
set_twice (t ∷ ts) zero a b = refl
set_twice (t ∷ ts) (suc k) a b = ap (λ (us : List Tree). t ∷ us) (set_twice ts k a b)

-- the place is emptied, and then takes what its tree became
pub put_after : (M k c : ℕ) (ts us vs : List Tree) (o p z r : Tree) (t : Polynomial) → k < length ts → o ≡ get_or ts k o → p ≡ o → us ≡ set ts k z → vs ≡ set us k r → IsAdded M c (polynomial_of r) (polynomial_of p) t → IsPut M k c t (polynomials ts) (polynomials vs)
put_after M k c ts us vs o p z r t lt eo ep eu ev a = put_is M k c ts vs o r t lt eo (ev ∙ (ap (λ (ws : List Tree). set ws k r) eu ∙ set_twice ts k z r)) (subst (λ (u : Tree). IsAdded M c (polynomial_of r) (polynomial_of u) t) ep a)

pub canon_taken : (M x : ℕ) (ts : List Tree) (k : ℕ) (o p : Tree) → o ≡ get_or ts k o → p ≡ o → AreCanonical M (polynomials ts) x → k < length ts → IsCanonical M (polynomial_of p)
canon_taken M x ts k o p eo ep c lt = subst (λ (u : Tree). IsCanonical M (polynomial_of u)) (sym ep) (canon_of M x ts k o eo c lt)

pub under_taken : (M x : ℕ) (ts : List Tree) (k : ℕ) (o p : Tree) → o ≡ get_or ts k o → p ≡ o → AreCanonical M (polynomials ts) x → k < length ts → Under (polynomial_of p) x
under_taken M x ts k o p eo ep c lt = subst (λ (u : Tree). Under (polynomial_of u) x) (sym ep) (under_of M x ts k o eo c lt)

-- ---- all places

pub added_first : (M c : ℕ) (ts old : Polynomials) → AreAdded M c 0 ts old old
added_first M c ts old = record { canon = λ x co ct. co; below = λ k m top lt is. absurd (omega arith); rest = λ k m le. refl }

pub added_step : (M c k : ℕ) (t : Polynomial) (ts old mid new : Polynomials) → ((m : List Power) → place ts k m ≡ coefficient t m) → ((x : ℕ) → AreCanonical M ts x → Under t x × IsCanonical M t) → AreAdded M c k ts old mid → IsPut M k c t mid new → AreAdded M c (k + 1) ts old new
added_step M c k t ts old mid new at whole a p = record {
  canon = λ x co ct. (let w = whole x ct in p.canon x (a.canon x co ct) w.1 w.0);
  below = λ j m top lj is. elim (cases_eq j k) [
    | inl eq ↦ (let P : ℕ → Type 0 = λ z. place new z m ≡ (place old z m + c * place ts z m) % M in
        subst P (sym eq) (p.here m top is ∙ (ap (λ z. (z + c * coefficient t m) % M) (a.rest k m (omega arith)) ∙ ap (λ z. (place old k m + c * z) % M) (sym (at m)))))
    | inr ne ↦ p.other j m ne ∙ a.below j m top (omega arith) is
  ];
  rest = λ j m le. p.other j m (λ e. omega arith) ∙ a.rest j m (omega arith);
}

none_added : (M a b : ℕ) → a < M → b ≡ 0 → a ≡ (a + b) % M
none_added M a b lt e = let h : a + b ≡ a = omega arith in sym (ap (λ n. n % M) h ∙ mod-eq_of_lt lt)

all_added : (M c n x : ℕ) (ts old new : Polynomials) → 0 < M → ((k : ℕ) (m : List Power) → n ≤ k → place ts k m ≡ 0) → AreCanonical M old x → AreAdded M c n ts old new → (k : ℕ) (m : List Power) (top : ℕ) → IsMonomial m top → place new k m ≡ (place old k m + c * place ts k m) % M
all_added M c n x ts old new some past co a k m top is = elim (cases_lt k n) [
  | inl lt ↦ a.below k m top lt is
  | inr ge ↦ a.rest k m ge ∙ none_added M (place old k m) _ (fits_place M old k m x some co) (times_zero c _ (past k m ge))
]

ext_added : (M c x : ℕ) (new old ts : Polynomials) → ((k : ℕ) (m : List Power) (top : ℕ) → IsMonomial m top → place new k m ≡ (place old k m + c * place ts k m) % M) → (m : List Power) (top : ℕ) → IsMonomial m top → coefficient (ext x new) m ≡ (coefficient (ext x old) m + c * coefficient (ext x ts) m) % M
ext_added M c x new old ts h [] top is = h 0 [] top is
ext_added M c x new old ts h (w ∷ m) top is =
    elim (cases_order w.var x) [
      | inl e ↦ rw (eq-eqb w.var x e) (h w.exp m w.var is.2)
      | inr ne ↦ rw (ne_eqb w.var x (λ e. elim ne [ inl l ↦ omega arith | inr g ↦ omega arith ])) (h 0 (w ∷ m) top is)
    ]

pub added_built : (M c x : ℕ) (ts : List Tree) (old new : Polynomials) (r t : Polynomial) → 0 < M → AreCanonical M old x → IsCanonical M t → IsSide x (polynomials ts) t → AreAdded M c (length ts) (polynomials ts) old new → IsBuilt M x new r → IsAdded M c r (ext x old) t
added_built M c x ts old new r t some co ct s a b = record {
  canon = b.canon;
  under = λ y uo ut. b.under y uo;
  at = λ m top is. b.at m top is ∙ (ext_added M c x new old (polynomials ts) (all_added M c (length ts) x (polynomials ts) old new some (λ k m le. past_list ts k m le) co a) m top is ∙ ap (λ z. (coefficient (ext x old) m + c * z) % M) (s.at M ct m top is));
}

-- ---- numbers that are added to places

pub any_default : (vs : List ℕ) (k d e : ℕ) → k < length vs → get_or vs k d ≡ get_or vs k e
any_default [] k d e lt = absurd (omega arith)
any_default (u ∷ vs) zero d e lt = refl
any_default (u ∷ vs) (suc k) d e lt = any_default vs k d e (omega arith)

pub number_under : (vs : List ℕ) (k v : ℕ) (M x : ℕ) → k < length vs → v ≡ get_or vs k v → AreCanonical M (numbers vs) x → v < M
number_under [] k v M x lt e c = absurd (omega arith)
number_under (u ∷ vs) zero v M x lt e c = subst (λ z. z < M) (sym e) c.1
number_under (u ∷ vs) (suc k) v M x lt e c = number_under vs k v M x (omega arith) e c.2

pub number_place : (vs : List ℕ) (k v : ℕ) (m : List Power) → k < length vs → v ≡ get_or vs k v → place (numbers vs) k m ≡ coefficient (num v) m
number_place [] k v m lt e = absurd (omega arith)
number_place (u ∷ vs) zero v m lt e = ap (λ z. coefficient (num z) m) (sym e)
number_place (u ∷ vs) (suc k) v m lt e = number_place vs k v m (omega arith) e

pub number_whole : (M k v x : ℕ) (vs : List ℕ) → k < length vs → v ≡ get_or vs k v → AreCanonical M (numbers vs) x → Under (num v) x × IsCanonical M (num v)
number_whole M k v x vs lt e c = (tt, number_under vs k v M x lt e c)

pub numbers_added : (M c k v : ℕ) (vs : List ℕ) (old mid new : Polynomials) → k < length vs → v ≡ get_or vs k v → AreAdded M c k (numbers vs) old mid → IsPut M k c (num v) mid new → AreAdded M c (k + 1) (numbers vs) old new
numbers_added M c k v vs old mid new lt e a p = added_step M c k (num v) (numbers vs) old mid new (λ m. number_place vs k v m lt e) (λ x d. number_whole M k v x vs lt e d) a p

pub first_none : (ts : List Tree) (vs : Polynomials) → ts ≡ [] → AreFirst 0 (polynomials ts) vs
first_none ts vs e = rw e (record { canon = λ M x c. tt; below = λ k m lt. absurd (omega arith); rest = λ k m le. refl })

pub first_push : (k v : ℕ) (vs : List ℕ) (out out' : List Tree) → length out ≡ k → k < length vs → v ≡ get_or vs k v → out' ≡ out ++ Num v ∷ [] → AreFirst k (polynomials out) (numbers vs) → AreFirst (k + 1) (polynomials out') (numbers vs)
first_push k v vs out out' l lt ev e a = rw e (record {
  canon = λ M x c. canon_snoc M x out (Num v) (a.canon M x c) (rw polynomial_of_num tt) (rw polynomial_of_num (number_under vs k v M x lt ev c));
  below = λ j m lj. elim (cases_lt j k) [
    | inl le ↦ snoc_below out (Num v) j m (omega arith) ∙ a.below j m le
    | inr ge ↦ (let same : j ≡ k = omega arith in snoc_last out (Num v) j m (omega arith) ∙ (ap (λ p. coefficient p m) (polynomial_of_num v) ∙ (sym (number_place vs k v m lt ev) ∙ ap (λ z. place (numbers vs) z m) (sym same))))
  ];
  rest = λ j m le. past_list (out ++ Num v ∷ []) j m (omega (arith, length-append out (Num v ∷ []), l));
})

pub added_numbers : (M c n x : ℕ) (r : Polynomial) (vs old new : Polynomials) → 0 < M → ((k : ℕ) (m : List Power) → n ≤ k → place vs k m ≡ 0) → AreCanonical M old x → AreAdded M c n vs old new → IsBuilt M x new r → IsAddedIn M c x r (ext x old) vs
added_numbers M c n x r vs old new some past co a b = record {
  canon = b.canon;
  under = λ y lt uo. b.under y lt;
  at = λ m top is. b.at m top is ∙ ext_added M c x new old vs (all_added M c n x vs old new some past co a) m top is;
}

pub settled_numbers : (M c n x : ℕ) (r old t : Polynomial) (vs places : Polynomials) → ((k : ℕ) (m : List Power) → n ≤ k → place vs k m ≡ 0) → AreFirst n places vs → IsBuilt M x places t → IsAdded M c r old t → IsAddedIn M c x r old vs
settled_numbers M c n x r old t vs places past f b s = record {
  canon = s.canon;
  under = λ y lt uo. s.under y uo (b.under y lt);
  at = λ m top is. s.at m top is ∙ ap (λ z. (coefficient old m + c * z) % M) (b.at m top is ∙ place_coeff x places vs same m);
}
  where
    same : (k : ℕ) (m : List Power) → place places k m ≡ place vs k m
    same k m = elim (cases_lt k n) [ inl lt ↦ f.below k m lt | inr ge ↦ f.rest k m ge ∙ sym (past k m ge) ]

pub scaled_onto : (M c u : ℕ) (r t : Polynomial) → u ≡ 0 → IsScaled M c r t → IsAdded M c r (num u) t
scaled_onto M c u r t e s = rw e (record {
  canon = s.canon;
  under = λ x uo ut. s.under x ut;
  at = λ m top is. s.at m top is ∙ ap (λ z. z % M) (let z = zero_coeff m in let h : c * coefficient t m ≡ coefficient (num 0) m + c * coefficient t m = omega arith in h);
})

any_tree : (ts : List Tree) (k : ℕ) (d e : Tree) → k < length ts → get_or ts k d ≡ get_or ts k e
any_tree [] k d e lt = absurd (omega arith)
any_tree (u ∷ ts) zero d e lt = refl
any_tree (u ∷ ts) (suc k) d e lt = any_tree ts k d e (omega arith)

pub number_put_at : (M k c u v s r : ℕ) (ts vs us : List Tree) (d : Tree) → 0 < M → k < length ts → vs ≡ ts → get_or vs k d ≡ Num u → s ≡ (c * v) % M → r ≡ (u + s) % M → us ≡ set ts k (Num r) → IsPut M k c (num v) (polynomials ts) (polynomials us)
number_put_at M k c u v s r ts vs us d some lt e is es er eu =
    let lv : k < length vs = subst (λ (ws : List Tree). k < length ws) (sym e) lt in
    put_at M k c ts vs us (Num u) (Num r) (num v) lt e (sym (any_tree vs k (Num u) d lv ∙ is)) eu (num_added M c u v s r (polynomial_of (Num u)) (num v) some (polynomial_of_num u) refl es er)
