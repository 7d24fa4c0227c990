-- lists of trees that grow and shrink at the end
use Rattle.std.proofs.Common.{◌≡◌, ℕ, zero, suc, ◌+◌, ◌-◌, ◌<◌, ◌≤◌, inl, inr, List, [], ◌∷◌, ◌++◌, refl, ap, ◌∙◌, sym, subst, arith, length, get_or, Bool, true, false, take, IsTrue, ◌↔◌}
use Rattle.std.proofs.lemmas.Bool.{eq-eqb, ne_eqb, cases_order, cases_lt, both_ways}
use Rattle.scev_tree.specs.declared.tree.Tree.{Tree, Num, Ext}
use Rattle.arith_word.specs.declared.label.Label.{Label}
use Rattle.scev_tree.specs.Polynomial.{Polynomial, Polynomials, num, ext, none, more, Power, coefficient, place, IsMonomial, Under, IsNonzero, IsCanonical, AreCanonical, IsBuilt, variable_of}
use Rattle.scev_tree.specs.Tree.{EndsZero, IsTrimmed, Tidy, polynomials, polynomial_of}
use Rattle.scev_tree.proofs.Unique.{above}
use Rattle.scev_tree.proofs.ListedTrees.{polynomial_of_ext, polynomial_of_num}

pub snoc_below : (ts : List Tree) (t : Tree) (j : ℕ) (m : List Power) → j < length ts → place (polynomials (ts ++ t ∷ [])) j m ≡ place (polynomials ts) j m
snoc_below [] t j m h = absurd (omega arith)
snoc_below (u ∷ ts) t zero m h = refl
snoc_below (u ∷ ts) t (suc j) m h = snoc_below ts t j m (omega arith)

pub snoc_last : (ts : List Tree) (t : Tree) (j : ℕ) (m : List Power) → j ≡ length ts → place (polynomials (ts ++ t ∷ [])) j m ≡ coefficient (polynomial_of t) m
snoc_last [] t zero m h = refl
snoc_last [] t (suc j) m h = absurd (omega arith)
snoc_last (u ∷ ts) t zero m h = absurd (omega arith)
snoc_last (u ∷ ts) t (suc j) m h = snoc_last ts t j m (omega arith)

pub past_list : (ts : List Tree) (j : ℕ) (m : List Power) → length ts ≤ j → place (polynomials ts) j m ≡ 0
past_list [] j m h = refl
past_list (u ∷ ts) zero m h = absurd (omega arith)
past_list (u ∷ ts) (suc j) m h = past_list ts j m (omega arith)

pub zero_coeff : (m : List Power) → coefficient (num 0) m ≡ 0
zero_coeff [] = refl
zero_coeff (q ∷ m) = refl

canon_init : (M x : ℕ) (ts : List Tree) (t : Tree) → AreCanonical M (polynomials (ts ++ t ∷ [])) x → AreCanonical M (polynomials ts) x
canon_init M x [] t c = tt
canon_init M x (u ∷ ts) t c = (c.0, c.1, canon_init M x ts t c.2)

pub canon_snoc : (M x : ℕ) (ts : List Tree) (t : Tree) → AreCanonical M (polynomials ts) x → Under (polynomial_of t) x → IsCanonical M (polynomial_of t) → AreCanonical M (polynomials (ts ++ t ∷ [])) x
canon_snoc M x [] t c u d = (u, d, tt)
canon_snoc M x (v ∷ ts) t c u d = (c.0, c.1, canon_snoc M x ts t c.2 u d)

zero_tail : (ts : List Tree) (t : Tree) → polynomial_of t ≡ num 0 → (j : ℕ) (m : List Power) → place (polynomials ts) j m ≡ place (polynomials (ts ++ t ∷ [])) j m
zero_tail [] t e zero m = sym (ap (λ p. coefficient p m) e ∙ zero_coeff m)
zero_tail [] t e (suc j) m = refl
zero_tail (u ∷ ts) t e zero m = refl
zero_tail (u ∷ ts) t e (suc j) m = zero_tail ts t e j m

ends_zero : (ts : List Tree) (t : Tree) → EndsZero (polynomials (ts ++ t ∷ [])) → polynomial_of t ≡ num 0
ends_zero [] t e = e
ends_zero (u ∷ []) t e = e
ends_zero (u ∷ v ∷ ts) t e = ends_zero (v ∷ ts) t e

pub trim_last : (old : Polynomials) (us ts : List Tree) (t : Tree) → IsTrimmed old (polynomials us) → us ≡ ts ++ t ∷ [] → EndsZero (polynomials us) → IsTrimmed old (polynomials ts)
trim_last old us ts t r e z =
    let z' : EndsZero (polynomials (ts ++ t ∷ [])) = subst (λ (vs : List Tree). EndsZero (polynomials vs)) e z in
    let r' : IsTrimmed old (polynomials (ts ++ t ∷ [])) = subst (λ (vs : List Tree). IsTrimmed old (polynomials vs)) e r in
    record { at = λ j m. zero_tail ts t (ends_zero ts t z') j m ∙ r'.at j m; canon = λ M x c. canon_init M x ts t (r'.canon M x c) }

-- all but the last
init : (us : List Tree) (d : Tree) (n : ℕ) → length us ≡ suc n → us ≡ take n us ++ get_or us n d ∷ []
init [] d n h = absurd (omega arith)
init (u ∷ []) d zero h = refl
init (u ∷ []) d (suc n) h = absurd (omega arith)
init (u ∷ v ∷ us) d zero h = absurd (omega arith)
init (u ∷ v ∷ us) d (suc n) h = ap (λ (ts : List Tree). u ∷ ts) (init (v ∷ us) d n (omega arith))

pub trim_to : (old : Polynomials) (us vs : List Tree) → IsTrimmed old (polynomials us) → EndsZero (polynomials us) → vs ≡ take (length us - 1) us → IsTrimmed old (polynomials vs)
trim_to old [] vs r z e = absurd z
trim_to old (u ∷ us) vs r z e =
    let n : length (u ∷ us) - 1 ≡ length us = omega arith in
    let e' : vs ≡ take (length us) (u ∷ us) = e ∙ ap (λ k. take k (u ∷ us)) n in
    subst (λ (ts : List Tree). IsTrimmed old (polynomials ts)) (sym e') (trim_last old (u ∷ us) (take (length us) (u ∷ us)) (get_or (u ∷ us) (length us) u) r (init (u ∷ us) u (length us) (omega arith)) z)

pub only_is : (us ts : List Tree) (t : Tree) → us ≡ ts ++ t ∷ [] → length us ≤ 1 → us ≡ t ∷ []
only_is us [] t e h = e
only_is us (u ∷ []) t e h = absurd (omega (arith, ap (length {A = Tree}) e))
only_is us (u ∷ v ∷ ts) t e h = absurd (omega (arith, ap (length {A = Tree}) e))

pub none_is : (us ts : List Tree) → us ≡ ts ++ [] → length us ≡ 0 → us ≡ []
none_is [] ts e h = refl
none_is (u ∷ us) ts e h = absurd (omega arith)

nonzero : (p : Polynomial) → (p ≡ num 0 → ⊥) → IsNonzero p
nonzero (num v) ne = elim (cases_lt 0 v) [ inl l ↦ l | inr g ↦ (let e : v ≡ 0 = omega arith in absurd (ne (ap num e))) ]
nonzero (ext x ps) ne = tt

pub last_zero : (ts : List Tree) (t : Tree) → 1 ≤ length ts → t ≡ get_or ts (length ts - 1) t → polynomial_of t ≡ num 0 → EndsZero (polynomials ts)
last_zero [] t h e z = absurd (omega arith)
last_zero (u ∷ []) t h e z = ap polynomial_of (sym e) ∙ z
last_zero (u ∷ v ∷ ts) t h e z =
    let n : length (u ∷ v ∷ ts) - 1 ≡ suc (length (v ∷ ts) - 1) = omega arith in
    last_zero (v ∷ ts) t (omega arith) (e ∙ ap (λ k. get_or (u ∷ v ∷ ts) k t) n) z

pub last_nonzero : (ts : List Tree) (t : Tree) → 1 ≤ length ts → t ≡ get_or ts (length ts - 1) t → (polynomial_of t ≡ num 0 → ⊥) → Tidy (polynomials ts)
last_nonzero [] t h e z = absurd (omega arith)
last_nonzero (u ∷ []) t h e z = nonzero (polynomial_of u) (λ w. z (ap polynomial_of e ∙ w))
last_nonzero (u ∷ v ∷ ts) t h e z =
    let n : length (u ∷ v ∷ ts) - 1 ≡ suc (length (v ∷ ts) - 1) = omega arith in
    last_nonzero (v ∷ ts) t (omega arith) (e ∙ ap (λ k. get_or (u ∷ v ∷ ts) k t) n) z

pub trim_first : (ps : Polynomials) → IsTrimmed ps ps
trim_first ps = record { at = λ j m. refl; canon = λ M x c. c }

-- ---- the canonical tree with given places

place_coeff : (x : ℕ) (ps qs : Polynomials) → ((j : ℕ) (m : List Power) → place ps j m ≡ place qs j m) → (m : List Power) → coefficient (ext x ps) m ≡ coefficient (ext x qs) m
place_coeff x ps qs h [] = h 0 []
place_coeff x ps qs h (q ∷ m) = elim (cases_order q.var x) [ inl e ↦ rw (eq-eqb q.var x e) (h q.exp m) | inr ne ↦ rw (ne_eqb q.var x (λ e. elim ne [ inl l ↦ omega arith | inr g ↦ omega arith ])) (h 0 (q ∷ m)) ]

under_later : (r : Polynomial) (x y : ℕ) → Under r x → x < y → Under r y
under_later (num v) x y u l = tt
under_later (ext z ps) x y u l = omega arith

one_zero : (r : Polynomial) (j : ℕ) (m : List Power) → 0 < j → place (more r none) j m ≡ 0
one_zero r zero m h = absurd (omega arith)
one_zero r (suc j) m h = refl

pub one_at : (M x : ℕ) (r : Polynomial) (m : List Power) (top : ℕ) → IsCanonical M r → Under r x → IsMonomial m top → coefficient (ext x (more r none)) m ≡ coefficient r m
one_at M x r [] top c u is = refl
one_at M x r (w ∷ m) top c u is =
    elim (cases_order w.var x) [
      | inl e ↦ rw (eq-eqb w.var x e) (one_zero r w.exp m is.1 ∙ sym (above M r x w m c u (omega arith)))
      | inr ne ↦ rw (ne_eqb w.var x (λ e. elim ne [ inl l ↦ omega arith | inr g ↦ omega arith ])) refl
    ]

none_at : (x : ℕ) (m : List Power) → coefficient (ext x none) m ≡ 0
none_at x [] = refl
none_at x (q ∷ m) = elim (cases_order q.var x) [ inl e ↦ rw (eq-eqb q.var x e) refl | inr ne ↦ rw (ne_eqb q.var x (λ e. elim ne [ inl l ↦ omega arith | inr g ↦ omega arith ])) refl ]

many_canon : (M x : ℕ) (ts : List Tree) → 1 < length ts → AreCanonical M (polynomials ts) x → Tidy (polynomials ts) → IsCanonical M (ext x (polynomials ts))
many_canon M x [] h c t = absurd (omega arith)
many_canon M x (u ∷ []) h c t = absurd (omega arith)
many_canon M x (u ∷ v ∷ ts) h c t = (c.0, c.1, c.2, t)

pub build_many : (M : ℕ) (c : Bool) (x : Label) (old : Polynomials) (ts : List Tree) → 1 < length ts → IsTrimmed old (polynomials ts) → Tidy (polynomials ts) → AreCanonical M old (variable_of c x.0) → IsBuilt M (variable_of c x.0) old (polynomial_of (Ext c x ts))
build_many M c x old ts h r t d = rw polynomial_of_ext (record { canon = many_canon M (variable_of c x.0) ts h (r.canon M (variable_of c x.0) d) t; under = λ y lt. lt; at = λ m top is. place_coeff (variable_of c x.0) (polynomials ts) old r.at m })

pub build_one : (M x : ℕ) (old : Polynomials) (ts : List Tree) (t : Tree) → ts ≡ t ∷ [] → IsTrimmed old (polynomials ts) → AreCanonical M old x → IsBuilt M x old (polynomial_of t)
build_one M x old ts t e r d =
    let c : AreCanonical M (polynomials (t ∷ [])) x = subst (λ (us : List Tree). AreCanonical M (polynomials us) x) e (r.canon M x d) in
    let r' : IsTrimmed old (polynomials (t ∷ [])) = subst (λ (us : List Tree). IsTrimmed old (polynomials us)) e r in
    record { canon = c.1; under = λ y lt. under_later (polynomial_of t) x y c.0 lt; at = λ m top is. sym (one_at M x (polynomial_of t) m top c.1 c.0 is) ∙ place_coeff x (polynomials (t ∷ [])) old r'.at m }

pub build_none : (M x : ℕ) (old : Polynomials) (ts : List Tree) → 0 < M → ts ≡ [] → IsTrimmed old (polynomials ts) → IsBuilt M x old (polynomial_of (Num 0))
build_none M x old ts some e r =
    let r' : IsTrimmed old none = subst (λ (us : List Tree). IsTrimmed old (polynomials us)) e r in
    rw polynomial_of_num (record { canon = some; under = λ y lt. tt; at = λ m top is. zero_coeff m ∙ (sym (none_at x m) ∙ place_coeff x none old r'.at m) })

pub from_true : (b : Bool) (P : Type 0) → IsTrue b ↔ P → b ≡ true → P
from_true b P h e = h.0 e

pub from_false : (b : Bool) (P : Type 0) → IsTrue b ↔ P → b ≡ false → P → ⊥
from_false b P h e p = both_ways b e (h.1 p)

pub build_from : (M : ℕ) (c : Bool) (x : Label) (old : Polynomials) (us ts : List Tree) → us ≡ ts → 1 < length ts → IsTrimmed old (polynomials ts) → Tidy (polynomials ts) → AreCanonical M old (variable_of c x.0) → IsBuilt M (variable_of c x.0) old (polynomial_of (Ext c x us))
build_from M c x old us ts e h r t d = rw e (build_many M c x old ts h r t d)

-- ---- the end of a list grows

-- a place more at the end
unfoldable pub snoc : Polynomials → Polynomial → Polynomials
snoc none p = more p none
snoc (more q ps) p = more q (snoc ps p)

pub polynomials_snoc : (ts : List Tree) (t : Tree) → polynomials (ts ++ t ∷ []) ≡ snoc (polynomials ts) (polynomial_of t)
unfolding snoc
polynomials_snoc [] t = refl
polynomials_snoc (u ∷ ts) t = ap (λ ps. more (polynomial_of u) ps) (polynomials_snoc ts t)

pub take_snoc : (ts : List Tree) (i : ℕ) (d : Tree) → i < length ts → take (i + 1) ts ≡ take i ts ++ get_or ts i d ∷ []
take_snoc [] i d h = absurd (omega arith)
take_snoc (u ∷ ts) zero d h = refl
take_snoc (u ∷ ts) (suc i) d h = let e : suc i + 1 ≡ suc (i + 1) = omega arith in rw e (ap (λ (vs : List Tree). u ∷ vs) (take_snoc ts i d (omega arith)))

pub copy_push : (out out' ts : List Tree) (i : ℕ) (r t : Tree) → polynomials out ≡ polynomials (take i ts) → i < length ts → t ≡ get_or ts i t → polynomial_of r ≡ polynomial_of t → out' ≡ out ++ r ∷ [] → polynomials out' ≡ polynomials (take (i + 1) ts)
copy_push out out' ts i r t e h is s o =
    let n : get_or ts i t ≡ t = sym is in
    ap (λ (vs : List Tree). polynomials vs) o ∙ (polynomials_snoc out r ∙ (ap (λ ps. snoc ps (polynomial_of r)) e ∙ (ap (λ p. snoc (polynomials (take i ts)) p) s
    ∙ (sym (polynomials_snoc (take i ts) t) ∙ ap (λ (vs : List Tree). polynomials vs) (ap (λ u. take i ts ++ u ∷ []) is ∙ sym (take_snoc ts i t h))))))

pub none_left : (ts : List Tree) → (0 < length ts → ⊥) → length ts ≡ 0
none_left [] h = refl
none_left (t ∷ ts) h = absurd (h (omega arith))

pub push_after : (a : Polynomial) (out out' ts : List Tree) (i : ℕ) (r t : Tree) → polynomials out ≡ more a (polynomials (take i ts)) → i < length ts → t ≡ get_or ts i t → polynomial_of r ≡ polynomial_of t → out' ≡ out ++ r ∷ [] → polynomials out' ≡ more a (polynomials (take (i + 1) ts))
unfolding snoc
push_after a out out' ts i r t e h is s o =
    ap (λ (vs : List Tree). polynomials vs) o ∙ (polynomials_snoc out r ∙ (ap (λ ps. snoc ps (polynomial_of r)) e ∙ (ap (λ p. more a (snoc (polynomials (take i ts)) p)) s
    ∙ ap (λ ps. more a ps) (sym (polynomials_snoc (take i ts) t) ∙ ap (λ (vs : List Tree). polynomials vs) (ap (λ u. take i ts ++ u ∷ []) is ∙ sym (take_snoc ts i t h))))))
