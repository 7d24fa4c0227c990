-- What a list of marks says behind the marks that a walk sets.
use Rattle.std.proofs.Common.{◌≡◌, ℕ, zero, suc, ◌+◌, ◌<◌, ◌==◌, ◌||◌, Bool, true, false, List, [], ◌∷◌, length, get_or, set, refl, ap, ◌∙◌, sym, subst, arith, inl, inr}
use Rattle.std.proofs.lemmas.Bool.{eq-eqb}
use Rattle.std.proofs.lemmas.Bool.Decides.{eqb_tells, nat_tests}
use Rattle.std.proofs.lemmas.List.{length-set, get_or-set_same, get_or-set_other}
use Rattle.std.specs.List.{list_any}
use Rattle.arith_word.specs.Labels.{item_of}
use Rattle.arith_word.specs.declared.label.Label.{Label}
use Rattle.item_uses.specs.Marks.{with_mark, with_marks}

pub or_assoc : (a b c : Bool) → ((a || b) || c) ≡ (a || (b || c))
or_assoc true b c = refl
or_assoc false b c = refl

length_marked : (marks : List Bool) (n : ℕ) → length (with_mark marks n) ≡ length marks
length_marked marks zero = refl
length_marked marks (suc place) = length-set marks place true

pub length_marks : (marks : List Bool) (labels : List Label) → length (with_marks marks labels) ≡ length marks
length_marks marks [] = refl
length_marks marks (label ∷ labels) = length_marks (with_mark marks (item_of label.0)) labels ∙ length_marked marks (item_of label.0)

at_or_true : (b c : Bool) → c ≡ true → true ≡ (b || c)
at_or_true true c e = refl
at_or_true false c e = sym e

at_or_false : (b c : Bool) → c ≡ false → b ≡ (b || c)
at_or_false true c e = refl
at_or_false false c e = sym e

marked_at : (marks : List Bool) (n place : ℕ) → place < length marks → get_or (with_mark marks n) place false ≡ (get_or marks place false || n == place + 1)
marked_at marks zero place lt = at_or_false (get_or marks place false) (0 == place + 1) (grind (arith, nat_tests))
marked_at marks (suc m) place lt =
    elim (eqb_tells place m) as (λ _. get_or (set marks m true) place false ≡ (get_or marks place false || suc m == place + 1)) [
      | inl e ↦
          subst (λ k. get_or (set marks k true) place false ≡ (get_or marks place false || suc k == place + 1)) e.1
          (get_or-set_same marks place true false lt ∙ at_or_true (get_or marks place false) (suc place == place + 1) (eq-eqb (suc place) (place + 1) (omega arith)))
      | inr e ↦
          get_or-set_other marks m place true false e.1
          ∙ at_or_false (get_or marks place false) (suc m == place + 1) (let d = e.1 in grind (arith, nat_tests))
    ]

-- a place has its mark where it had one, or one of the labels marks its item
pub marks_at : (marks : List Bool) (labels : List Label) (place : ℕ) → place < length marks
    → get_or (with_marks marks labels) place false ≡ (get_or marks place false || list_any (λ (label : Label). item_of label.0 == place + 1) labels)
marks_at marks [] place lt = at_or_false (get_or marks place false) false refl
marks_at marks (label ∷ labels) place lt =
    let n = item_of label.0 in
    let more = list_any (λ (label : Label). item_of label.0 == place + 1) labels in
    let e = length_marked marks n in
    marks_at (with_mark marks n) labels place (omega (arith, lt, e))
    ∙ ap (λ b. b || more) (marked_at marks n place lt)
    ∙ or_assoc (get_or marks place false) (n == place + 1) more
