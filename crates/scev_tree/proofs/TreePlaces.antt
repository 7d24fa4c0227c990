-- the places of a tree, one by one
use Rattle.std.proofs.Common.{◌≡◌, ℕ, zero, suc, ◌<◌, ◌≤◌, inl, inr, List, [], ◌∷◌, refl, ap, ◌∙◌, sym, subst, arith, length, get_or, Bool}
use Rattle.std.proofs.lemmas.Bool.{eq-eqb, ne_eqb, cases_order}
use Rattle.scev_tree.specs.declared.tree.Tree.{Tree, Num, Ext}
use Rattle.arith_word.specs.declared.label.Label.{Label}
use Rattle.scev_tree.specs.Polynomial.{Polynomial, Polynomials, num, ext, none, more, Power, coefficient, place, with_power, IsMonomial, Under, IsCanonical, AreCanonical, variable_of}
use Rattle.scev_tree.specs.Tree.{polynomial_of, polynomials, weight, weights, len}
use Rattle.scev_tree.proofs.ListedTrees.{polynomial_of_ext, polynomial_of_num, place_is, weight_of}

mutual
  pub fits : (M : ℕ) (p : Polynomial) (m : List Power) → 0 < M → IsCanonical M p → coefficient p m < M
  fits M (num v) [] some c = c
  fits M (num v) (q ∷ m) some c = some
  fits M (ext x none) m some c = absurd c
  fits M (ext x (more p ps)) [] some c = fits M p [] some c.1
  fits M (ext x (more p ps)) (q ∷ m) some c =
      elim (cases_order q.var x) [
        | inl e ↦ rw (eq-eqb q.var x e) (fits_place M (more p ps) q.exp m x some (c.0, c.1, c.2))
        | inr ne ↦ rw (ne_eqb q.var x (λ e. elim ne [ inl l ↦ omega arith | inr g ↦ omega arith ])) (fits M p (q ∷ m) some c.1)
      ]

  pub fits_place : (M : ℕ) (ps : Polynomials) (j : ℕ) (m : List Power) (x : ℕ) → 0 < M → AreCanonical M ps x → place ps j m < M
  fits_place M none j m x some c = some
  fits_place M (more p ps) zero m x some c = fits M p m some c.1
  fits_place M (more p ps) (suc j) m x some c = fits_place M ps j m x some c.2

-- one of a list of canonical trees
pub canon_at : (M x : ℕ) (ts : List Tree) (i : ℕ) (d : Tree) → AreCanonical M (polynomials ts) x → i < length ts → Under (polynomial_of (get_or ts i d)) x × IsCanonical M (polynomial_of (get_or ts i d))
canon_at M x [] i d c h = absurd (omega arith)
canon_at M x (t ∷ ts) zero d c h = (c.0, c.1)
canon_at M x (t ∷ ts) (suc i) d c h = canon_at M x ts i d c.2 (omega arith)

pub canon_of : (M x : ℕ) (ts : List Tree) (i : ℕ) (t : Tree) → t ≡ get_or ts i t → AreCanonical M (polynomials ts) x → i < length ts → IsCanonical M (polynomial_of t)
canon_of M x ts i t e c h = subst (λ (u : Tree). IsCanonical M (polynomial_of u)) (sym e) (canon_at M x ts i t c h).1

pub under_of : (M x : ℕ) (ts : List Tree) (i : ℕ) (t : Tree) → t ≡ get_or ts i t → AreCanonical M (polynomials ts) x → i < length ts → Under (polynomial_of t) x
under_of M x ts i t e c h = subst (λ (u : Tree). Under (polynomial_of u) x) (sym e) (canon_at M x ts i t c h).0

pub place_of : (ts : List Tree) (i : ℕ) (t : Tree) (m : List Power) → t ≡ get_or ts i t → i < length ts → place (polynomials ts) i m ≡ coefficient (polynomial_of t) m
place_of ts i t m e h = place_is ts i t m h ∙ ap (λ (u : Tree). coefficient (polynomial_of u) m) (sym e)

pub places_canon : (M x : ℕ) (ps : Polynomials) → IsCanonical M (ext x ps) → AreCanonical M ps x
places_canon M x none c = absurd c
places_canon M x (more p ps) c = (c.0, c.1, c.2)

pub ext_is : (t : Tree) (c : Bool) (x : Label) (ops us : List Tree) → t ≡ Ext c x ops → us ≡ ops → polynomial_of t ≡ ext (variable_of c x.0) (polynomials us)
ext_is t c x ops us e o = ap polynomial_of e ∙ (polynomial_of_ext c x ops ∙ ap (λ (ts : List Tree). ext (variable_of c x.0) (polynomials ts)) (sym o))

pub under_num : (t : Tree) (u x : ℕ) → t ≡ Num u → Under (polynomial_of t) x
under_num t u x e = rw (e, polynomial_of_num) tt

pub under_ext : (t : Tree) (c : Bool) (v : Label) (ops : List Tree) (x : ℕ) → t ≡ Ext c v ops → variable_of c v.0 < x → Under (polynomial_of t) x
under_ext t c v ops x e lt = rw (e, polynomial_of_ext) lt

pub lighter : (ts : List Tree) (i : ℕ) (t : Tree) → t ≡ get_or ts i t → i < length ts → weight (polynomial_of t) < weights (polynomials ts)
lighter ts i t e h = let w = weight_of ts i t h in let s : weight (polynomial_of t) ≡ weight (polynomial_of (get_or ts i t)) = ap (λ (u : Tree). weight (polynomial_of u)) e in omega arith

-- ---- the greatest variable

pub main_number : (t : Tree) (v : ℕ) → t ≡ Num v → (n : ℕ) × (polynomial_of t ≡ num n)
main_number t v e = (v, ap polynomial_of e ∙ polynomial_of_num v)

pub main_nested : (t : Tree) (c : Bool) (x : Label) (ops : List Tree) → t ≡ Ext c x ops → (b : Bool) × (ps : Polynomials) × (polynomial_of t ≡ ext (variable_of b x.0) ps)
main_nested t c x ops e = (c, polynomials ops, ext_is t c x ops ops e refl)

-- ---- the coefficients of a polynomial in x by its places

pub low_place : (x : ℕ) (ps : Polynomials) (n : List Power) → IsMonomial n x → coefficient (ext x ps) n ≡ place ps 0 n
low_place x ps [] is = refl
low_place x ps (q ∷ n) is = rw (ne_eqb q.var x (λ e. omega (arith, is.0))) refl

pub high_place : (x : ℕ) (ps : Polynomials) (i : ℕ) (n : List Power) → IsMonomial n x → coefficient (ext x ps) (with_power x i n) ≡ place ps i n
high_place x ps zero n is = low_place x ps n is
high_place x ps (suc i) n is = rw (eq-eqb x x refl) refl

pub past_end : (ps : Polynomials) (i : ℕ) (n : List Power) → len ps ≤ i → place ps i n ≡ 0
past_end none i n h = refl
past_end (more p ps) zero n h = absurd (omega arith)
past_end (more p ps) (suc i) n h = past_end ps i n (omega arith)
