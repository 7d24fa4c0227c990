-- An item is affected exactly where it depends on the given one.
use Rattle.std.proofs.Common.{◌≡◌, ℕ, zero, suc, ◌+◌, ◌<◌, ◌≤◌, ◌==◌, ◌||◌, ◌⊎◌, inl, inr, Bool, true, false, List, [], ◌∷◌, ◌++◌, length, get_or, refl, ap, ◌∙◌, sym, subst, arith}
use Rattle.std.proofs.lemmas.Bool.{eqb-true}
use Rattle.std.proofs.lemmas.Bool.Decides.{eqb_tells}
use Rattle.std.proofs.lemmas.List.{length-append, get_or_append_left}
use Rattle.std.proofs.Math.Seq.{get_or-append_seam}
use Rattle.mlir_ir.specs.Operations.{OpList, nil}
use Rattle.item_uses.specs.Uses.{Depends, itself, behind, ops_uses, uses_item, item_at, is_marked, uses_marked, affected_from}
use Rattle.item_uses.proofs.FoundUses.{or_cases, or_left, or_right, never_true, found, hits}

-- uses go to no later item
abbrev pub GoBack : List OpList → Type 0
GoBack items = (n m : ℕ) → uses_item (item_at items n) m ≡ true → m ≤ n

pub length_pushed : (marks : List Bool) (mark : Bool) → length (marks ++ mark ∷ []) ≡ length marks + 1
length_pushed marks mark = length-append marks (mark ∷ [])

pub marked_before : (marks : List Bool) (mark : Bool) (n : ℕ) → n ≤ length marks → is_marked (marks ++ mark ∷ []) n ≡ is_marked marks n
marked_before marks mark n le = get_or_append_left (false ∷ marks) (mark ∷ []) false n (omega (arith, le))

pub marked_last : (marks : List Bool) (mark : Bool) → is_marked (marks ++ mark ∷ []) (length marks + 1) ≡ mark
marked_last marks mark =
    let one : length marks + 1 ≡ suc (length marks) = omega arith in
    ap (is_marked (marks ++ mark ∷ [])) one ∙ get_or-append_seam marks mark [] false

none_past : (marks : List Bool) (place : ℕ) → length marks ≤ place → get_or marks place false ≡ false
none_past [] place le = refl
none_past (mark ∷ marks) zero le = absurd (omega (arith, le))
none_past (mark ∷ marks) (suc place) le = none_past marks place (omega (arith, le))

three_ways : (n k : ℕ) → (n ≤ k) ⊎ ((n ≡ k + 1) ⊎ (k + 1 < n))
three_ways zero k = inl (omega arith)
three_ways (suc n) zero =
    elim (eqb_tells n 0) as (λ _. (suc n ≤ 0) ⊎ ((suc n ≡ 0 + 1) ⊎ (0 + 1 < suc n))) [
      | inl e ↦ (let h = e.1 in inr (inl (omega (arith, h))))
      | inr e ↦ (let h = e.1 in inr (inr (grind (arith, h))))
    ]
three_ways (suc n) (suc k) =
    elim (three_ways n k) as (λ _. (suc n ≤ suc k) ⊎ ((suc n ≡ suc k + 1) ⊎ (suc k + 1 < suc n))) [
      | inl le ↦ inl (omega (arith, le))
      | inr more ↦
          elim more as (λ _. (suc n ≤ suc k) ⊎ ((suc n ≡ suc k + 1) ⊎ (suc k + 1 < suc n))) [
            | inl e ↦ inr (inl (omega (arith, e)))
            | inr lt ↦ inr (inr (omega (arith, lt)))
          ]
    ]

-- a mark is an old one, or the one added
pushed_marked : (marks : List Bool) (mark : Bool) (n : ℕ) → is_marked (marks ++ mark ∷ []) n ≡ true → (is_marked marks n ≡ true) ⊎ ((n ≡ length marks + 1) × (mark ≡ true))
pushed_marked marks mark n h =
    elim (three_ways n (length marks)) as (λ _. (is_marked marks n ≡ true) ⊎ ((n ≡ length marks + 1) × (mark ≡ true))) [
      | inl le ↦ inl (sym (marked_before marks mark n le) ∙ h)
      | inr more ↦
          elim more as (λ _. (is_marked marks n ≡ true) ⊎ ((n ≡ length marks + 1) × (mark ≡ true))) [
            | inl e ↦ inr (e, sym (marked_last marks mark) ∙ ap (is_marked (marks ++ mark ∷ [])) (sym e) ∙ h)
            | inr lt ↦
                let long = length_pushed marks mark in
                let none : is_marked (marks ++ mark ∷ []) n ≡ false = none_past (false ∷ (marks ++ mark ∷ [])) n (omega (arith, lt, long)) in
                absurd (cc)
          ]
    ]

module _ (items : List OpList) (item : ℕ) where
  abbrev new_mark : List Bool → OpList → Bool
  new_mark marks ops = length marks + 1 == item || uses_marked marks ops

  abbrev Tail : List Bool → List OpList → Type 0
  Tail marks rest = (p : ℕ) → get_or rest p nil ≡ item_at items (length marks + 1 + p)

  -- what holds of the given item, and is handed on from an item to those that use its values, holds of all marked items
  module _ (Holds : ℕ → Type 0) (start : (n : ℕ) → 0 < n → n ≡ item → Holds n) (hand_on : (m n : ℕ) → Holds m → uses_item (item_at items n) m ≡ true → Holds n) where
    new_holds : (marks : List Bool) (ops : OpList) → ops ≡ item_at items (length marks + 1) → ((n : ℕ) → is_marked marks n ≡ true → Holds n)
        → new_mark marks ops ≡ true → Holds (length marks + 1)
    new_holds marks ops at old h =
        elim (or_cases (length marks + 1 == item) (uses_marked marks ops) h) as (λ _. Holds (length marks + 1)) [
          | inl e ↦ start (length marks + 1) (omega arith) (eqb-true (length marks + 1) item e)
          | inr u ↦
              let f = found (is_marked marks) (ops_uses ops) u in
              hand_on f.0 (length marks + 1) (old f.0 f.1) (subst (λ o. uses_item o f.0 ≡ true) at f.2)
        ]

    more_hold : (marks : List Bool) (rest : List OpList) → Tail marks rest → ((n : ℕ) → is_marked marks n ≡ true → Holds n) → (n : ℕ) → is_marked (affected_from item marks rest) n ≡ true → Holds n
    more_hold marks [] tail old n h = old n h
    more_hold marks (ops ∷ rest) tail old n h =
        let mark = new_mark marks ops in
        let long = length_pushed marks mark in
        let first : ops ≡ item_at items (length marks + 1) = tail 0 ∙ ap (item_at items) (omega arith) in
        more_hold (marks ++ mark ∷ []) rest (λ p. tail (suc p) ∙ ap (item_at items) (omega (arith, long)))
        (λ k marked.
        elim (pushed_marked marks mark k marked) as (λ _. Holds k) [
          | inl was ↦ old k was
          | inr new ↦ subst Holds (sym new.0) (new_holds marks ops first old new.1)
        ])
        n h

    none_hold : (n : ℕ) → is_marked [] n ≡ true → Holds n
    none_hold zero h = absurd (cc)
    none_hold (suc n) h = absurd (cc)

    pub marked_hold : (n : ℕ) → is_marked (affected_from item [] items) n ≡ true → Holds n
    marked_hold n h = more_hold [] items (λ p. ap (item_at items) (first p)) none_hold n h
      where
        first : (p : ℕ) → suc p ≡ 0 + 1 + p
        first p = omega arith

  -- marks stay
  kept : (marks : List Bool) (rest : List OpList) (n : ℕ) → n ≤ length marks → is_marked (affected_from item marks rest) n ≡ is_marked marks n
  kept marks [] n le = refl
  kept marks (ops ∷ rest) n le =
      let mark = new_mark marks ops in
      let long = length_pushed marks mark in
      kept (marks ++ mark ∷ []) rest n (omega (arith, le, long)) ∙ marked_before marks mark n le

  first_kept : (marks : List Bool) (ops : OpList) (rest : List OpList) → is_marked (affected_from item marks (ops ∷ rest)) (length marks + 1) ≡ new_mark marks ops
  first_kept marks ops rest =
      let mark = new_mark marks ops in
      let long = length_pushed marks mark in
      kept (marks ++ mark ∷ []) rest (length marks + 1) (omega (arith, long)) ∙ marked_last marks mark

  -- an item that uses a value of a marked one before it is marked
  users_marked : (marks : List Bool) (rest : List OpList) (p m : ℕ) → m < length marks + 1 + p → uses_item (get_or rest p nil) m ≡ true
      → is_marked (affected_from item marks rest) m ≡ true → is_marked (affected_from item marks rest) (length marks + 1 + p) ≡ true
  users_marked marks [] p m lt u h = absurd (cc)
  users_marked marks (ops ∷ rest) zero m lt u h =
      let all = affected_from item marks (ops ∷ rest) in
      let was : is_marked marks m ≡ true = sym (kept marks (ops ∷ rest) m (omega (arith, lt))) ∙ h in
      let here : length marks + 1 + 0 ≡ length marks + 1 = omega arith in
      ap (is_marked all) here ∙ first_kept marks ops rest ∙ or_right (length marks + 1 == item) (uses_marked marks ops) (hits (is_marked marks) (ops_uses ops) m u was)
  users_marked marks (ops ∷ rest) (suc p) m lt u h =
      let mark = new_mark marks ops in
      let long = length_pushed marks mark in
      let all = affected_from item marks (ops ∷ rest) in
      let here : length (marks ++ mark ∷ []) + 1 + p ≡ length marks + 1 + suc p = omega (arith, long) in
      subst (λ k. is_marked all k ≡ true) here (users_marked (marks ++ mark ∷ []) rest p m (omega (arith, lt, long)) u h)

  given_marked : (marks : List Bool) (rest : List OpList) → length marks < item → item ≤ length marks + length rest → is_marked (affected_from item marks rest) item ≡ true
  given_marked marks [] lt le = absurd (omega (arith, lt, le))
  given_marked marks (ops ∷ rest) lt le =
      let mark = new_mark marks ops in
      let long = length_pushed marks mark in
      let all = affected_from item marks (ops ∷ rest) in
      elim (eqb_tells (length marks + 1) item) as (λ _. is_marked all item ≡ true) [
        | inl e ↦ ap (is_marked all) (sym e.1) ∙ first_kept marks ops rest ∙ or_left (length marks + 1 == item) (uses_marked marks ops) e.0
        | inr e ↦ (let other = e.1 in given_marked (marks ++ mark ∷ []) rest (grind (arith, other, lt, long)) (omega (arith, le, long)))
      ]

  module _ (back : GoBack items) (some : 0 < item) (within : item ≤ length items) where
    abbrev all_marks : List Bool
    all_marks = affected_from item [] items

    step : (m n : ℕ) → is_marked all_marks m ≡ true → uses_item (item_at items n) m ≡ true → is_marked all_marks n ≡ true
    step m zero h u = absurd (cc)
    step m (suc n) h u =
        elim (eqb_tells m (suc n)) as (λ _. is_marked all_marks (suc n) ≡ true) [
          | inl e ↦ subst (λ k. is_marked all_marks k ≡ true) e.1 h
          | inr e ↦
              let other = e.1 in
              let le = back (suc n) m u in
              let here : 0 + 1 + n ≡ suc n = omega arith in
              subst (λ k. is_marked all_marks k ≡ true) here (users_marked [] items n m (grind (arith, other, le)) u h)
        ]

    pub dependent_marked : (n : ℕ) → Depends items item n → is_marked all_marks n ≡ true
    dependent_marked _ itself = given_marked [] items (omega (arith, some)) (omega (arith, within))
    dependent_marked _ (behind m n d u) = step m n (dependent_marked m d) u

  pub marked_depends : (n : ℕ) → is_marked (affected_from item [] items) n ≡ true → Depends items item n
  marked_depends n h = marked_hold (Depends items item) (λ k some e. subst (Depends items item) (sym e) itself) (λ m k d u. behind m k d u) n h

-- the arguments affect no item
pub none_affected : (items : List OpList) (n : ℕ) → is_marked (affected_from 0 [] items) n ≡ false
none_affected items n =
    never_true (is_marked (affected_from 0 [] items) n) (λ h. marked_hold items 0 (λ _. ⊥) (λ k some e. omega (arith, some, e)) (λ m k d u. d) n h)

-- each item has its mark
pub length_affected : (item : ℕ) (marks : List Bool) (rest : List OpList) → length (affected_from item marks rest) ≡ length marks + length rest
length_affected item marks [] = omega arith
length_affected item marks (ops ∷ rest) =
    let mark = length marks + 1 == item || uses_marked marks ops in
    let long = length_pushed marks mark in
    let e = length_affected item (marks ++ mark ∷ []) rest in
    omega (arith, long, e)
