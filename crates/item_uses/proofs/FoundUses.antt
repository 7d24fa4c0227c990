-- Which of an item's operands a test finds.
use Rattle.std.proofs.Common.{◌≡◌, ℕ, ◌==◌, ◌||◌, ◌&&◌, ◌⊎◌, inl, inr, Bool, true, false, List, [], ◌∷◌, refl, ap, ◌∙◌}
use Rattle.std.proofs.lemmas.Bool.{eqb-true, eq-eqb}
use Rattle.std.specs.List.{list_any}
use Rattle.arith_word.specs.Labels.{item_of}
use Rattle.arith_word.specs.declared.label.Label.{Label}

pub or_cases : (a b : Bool) → (a || b) ≡ true → (a ≡ true) ⊎ (b ≡ true)
or_cases true b h = inl refl
or_cases false b h = inr h

pub or_left : (a b : Bool) → a ≡ true → (a || b) ≡ true
or_left a b h = ap (λ x. x || b) h

pub or_right : (a b : Bool) → b ≡ true → (a || b) ≡ true
or_right true b h = refl
or_right false b h = h

pub and_both : (a b : Bool) → (a && b) ≡ true → (a ≡ true) × (b ≡ true)
and_both true b h = (refl, h)
and_both false b h = absurd (cc)

pub never_true : (b : Bool) → (b ≡ true → ⊥) → b ≡ false
never_true true h = absurd (h refl)
never_true false h = refl

abbrev pub stands_in : ℕ → Label → Bool
stands_in n label = item_of label.0 == n

-- where a test passes one of the labels, it passes the item of a label that is among them
pub found : (test : ℕ → Bool) (labels : List Label) → list_any (λ (label : Label). test (item_of label.0)) labels ≡ true
    → (n : ℕ) × (test n ≡ true) × (list_any (stands_in n) labels ≡ true)
found test [] h = absurd (cc)
found test (label ∷ labels) h =
    let n = item_of label.0 in
    elim (or_cases (test n) (list_any (λ (l : Label). test (item_of l.0)) labels) h) as (λ _. (n : ℕ) × (test n ≡ true) × (list_any (stands_in n) (label ∷ labels) ≡ true)) [
      | inl e ↦ (n, e, or_left (n == n) (list_any (stands_in n) labels) (eq-eqb n n refl))
      | inr e ↦ (let f = found test labels e in (f.0, f.1, or_right (stands_in f.0 label) (list_any (stands_in f.0) labels) f.2))
    ]

-- and the other way round
pub hits : (test : ℕ → Bool) (labels : List Label) (n : ℕ) → list_any (stands_in n) labels ≡ true → test n ≡ true → list_any (λ (label : Label). test (item_of label.0)) labels ≡ true
hits test [] n h t = absurd (cc)
hits test (label ∷ labels) n h t =
    let here = test (item_of label.0) in
    let more = list_any (λ (l : Label). test (item_of l.0)) labels in
    elim (or_cases (stands_in n label) (list_any (stands_in n) labels) h) as (λ _. (here || more) ≡ true) [
      | inl e ↦ or_left here more (ap test (eqb-true (item_of label.0) n e) ∙ t)
      | inr e ↦ or_right here more (hits test labels n e t)
    ]
