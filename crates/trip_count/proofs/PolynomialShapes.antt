-- the shapes of polynomials
use Rattle.std.proofs.Common.{◌≡◌, ℕ, ◌<◌, List, [], ◌∷◌, refl, length, sym, subst, inl, inr}
use Rattle.std.proofs.lemmas.Bool.{eq-eqb, ne_eqb, cases_eq, cases_lt, lt-ltb, le-ltb}
use Rattle.scev_tree.specs.declared.tree.Tree.{Tree}
use Rattle.scev_tree.specs.Polynomial.{Polynomial, Polynomials, num, ext, none, more, Under, IsCanonical}
use Rattle.scev_tree.specs.Tree.{polynomials}
use Rattle.trip_count.specs.Shape.{Shape, affine, symbolic_step, moving, shape_of_places, shape_of, Fits}
pub use Rattle.scev_tree.proofs.ListedTrees.{polynomial_of_ext, polynomial_of_num}

pub not_two : (ts : List Tree) → (length ts ≡ 2 → ⊥) → moving ≡ shape_of_places (polynomials ts)
not_two [] h = refl
not_two (a ∷ []) h = refl
not_two (a ∷ b ∷ []) h = absurd (h refl)
not_two (a ∷ b ∷ c ∷ ts) h = refl

-- a fact about the shape of a canonical polynomial, from the polynomials below the counter and those
-- with two places
module _ (M x : ℕ) (F : Polynomial → Shape → Type 0) where
  pub shape_cases : ((p : Polynomial) → Under p x → IsCanonical M p → F p (affine p 0)) → ((p : Polynomial) → F p moving)
      → ((ps : Polynomials) → IsCanonical M (ext x ps) → F (ext x ps) (shape_of_places ps)) → (p : Polynomial) → IsCanonical M p → F p (shape_of x p)
  shape_cases low high here (num v) c = low (num v) tt c
  shape_cases low high here (ext y ps) c =
      elim (cases_lt y x) [
        | inl lt ↦ rw (lt-ltb y x lt) (low (ext y ps) lt c)
        | inr ge ↦ rw (le-ltb y x ge) (elim (cases_eq y x) [
          | inl e ↦ rw (eq-eqb y x e) (subst (λ z. F (ext z ps) (shape_of_places ps)) (sym e) (here ps (subst (λ z. IsCanonical M (ext z ps)) e c)))
          | inr ne ↦ rw (ne_eqb y x ne) (high (ext y ps))
        ])
      ]

places_fit : (M x : ℕ) (ps : Polynomials) → IsCanonical M (ext x ps) → Fits M (shape_of_places ps)
places_fit M x none c = absurd c
places_fit M x (more a none) c = tt
places_fit M x (more a (more (num b) none)) c = (c.1, c.2.1)
places_fit M x (more a (more (ext z ps) none)) c = tt
places_fit M x (more a (more b (more d ps))) c = tt

-- the numbers of the shape of a canonical polynomial are below the modulus
pub shape_fits : (M x : ℕ) (p : Polynomial) → 0 < M → IsCanonical M p → Fits M (shape_of x p)
shape_fits M x p some c = shape_cases M x (λ q s. Fits M s) (λ q u cq. (cq, some)) (λ q. tt) (λ ps cp. places_fit M x ps cp) p c

-- all variables of the start are below the counter
abbrev pub StartsUnder : ℕ → Shape → Type 0
StartsUnder x (affine a b) = Under a x
StartsUnder x symbolic_step = Unit {0}
StartsUnder x moving = Unit {0}

places_under : (M x : ℕ) (ps : Polynomials) → IsCanonical M (ext x ps) → StartsUnder x (shape_of_places ps)
places_under M x none c = absurd c
places_under M x (more a none) c = tt
places_under M x (more a (more (num b) none)) c = c.0
places_under M x (more a (more (ext z ps) none)) c = tt
places_under M x (more a (more b (more d ps))) c = tt

pub shape_under : (M x : ℕ) (p : Polynomial) → IsCanonical M p → StartsUnder x (shape_of x p)
shape_under M x p c = shape_cases M x (λ q s. StartsUnder x s) (λ q u cq. u) (λ q. tt) (λ ps cp. places_under M x ps cp) p c
