-- An item is used exactly where the given one depends on it.
use Rattle.std.proofs.Common.{◌≡◌, ℕ, zero, suc, ◌+◌, ◌<◌, ◌≤◌, ◌==◌, ◌&&◌, inl, inr, Bool, true, false, List, [], ◌∷◌, length, get_or, refl, ap, ◌∙◌, sym, subst, arith}
use Rattle.std.proofs.lemmas.Bool.{eqb-true, eq-eqb}
use Rattle.std.proofs.lemmas.Bool.Decides.{eqb_tells}
use Rattle.mlir_ir.specs.Operations.{OpList, nil}
use Rattle.item_uses.specs.Uses.{Depends, itself, behind, uses_item, item_at, is_marked, is_used_by, used_from}
use Rattle.item_uses.proofs.AffectedChains.{GoBack}
use Rattle.item_uses.proofs.FoundUses.{or_cases, or_left, or_right, and_both, never_true}

-- ---- chains

-- an item in front of a chain
pub prepend : (items : List OpList) (m n k : ℕ) → uses_item (item_at items n) m ≡ true → Depends items n k → Depends items m k
prepend items m n _ u itself = behind m n itself u
prepend items m n _ u (behind a b d v) = behind a b (prepend items m n a u d) v

-- only the arguments are behind none of the items
begins_at_none : (items : List OpList) (n k : ℕ) → Depends items n k → k ≡ 0 → n ≡ 0
begins_at_none items n _ itself e = e
begins_at_none items n _ (behind m k d u) e = absurd (no_use (subst (λ i. uses_item (item_at items i) m ≡ true) e u))
  where
    no_use : false ≡ true → ⊥
    no_use h = cc

-- ---- users

user_found : (marks : List Bool) (rest : List OpList) (n : ℕ) → is_used_by marks rest n ≡ true → (q : ℕ) × (get_or marks q false ≡ true) × (uses_item (get_or rest q nil) n ≡ true)
user_found [] rest n h = absurd (cc)
user_found (mark ∷ marks) [] n h = absurd (cc)
user_found (mark ∷ marks) (ops ∷ rest) n h =
    elim (or_cases (mark && uses_item ops n) (is_used_by marks rest n) h) as (λ _. (q : ℕ) × (get_or (mark ∷ marks) q false ≡ true) × (uses_item (get_or (ops ∷ rest) q nil) n ≡ true)) [
      | inl e ↦ (let b = and_both mark (uses_item ops n) e in (0, b.0, b.1))
      | inr e ↦ (let f = user_found marks rest n e in (suc f.0, f.1, f.2))
    ]

and_true : (a b : Bool) → a ≡ true → b ≡ true → (a && b) ≡ true
and_true a b p q = ap (λ x. x && b) p ∙ q

user_hits : (marks : List Bool) (rest : List OpList) (n q : ℕ) → get_or marks q false ≡ true → uses_item (get_or rest q nil) n ≡ true → is_used_by marks rest n ≡ true
user_hits [] rest n q h u = absurd (cc)
user_hits (mark ∷ marks) [] n q h u = absurd (cc)
user_hits (mark ∷ marks) (ops ∷ rest) n zero h u = or_left (mark && uses_item ops n) (is_used_by marks rest n) (and_true mark (uses_item ops n) h u)
user_hits (mark ∷ marks) (ops ∷ rest) n (suc q) h u = or_right (mark && uses_item ops n) (is_used_by marks rest n) (user_hits marks rest n q h u)

module _ (items : List OpList) (item : ℕ) where
  -- what holds of the given item, and is handed on from an item to those whose values it uses, holds of all marked items
  module _ (Holds : ℕ → Type 0) (start : (n : ℕ) → 0 < n → n ≡ item → Holds n) (hand_on : (m n : ℕ) → Holds n → uses_item (item_at items n) m ≡ true → Holds m) where
    more_hold : (n : ℕ) (rest : List OpList) → 0 < n → ((p : ℕ) → get_or rest p nil ≡ item_at items (n + p)) → (p : ℕ) → get_or (used_from item n rest) p false ≡ true → Holds (n + p)
    more_hold n [] some tail p h = absurd (cc)
    more_hold n (ops ∷ rest) some tail zero h =
        let later = used_from item (n + 1) rest in
        let here : n + 0 ≡ n = omega arith in
        subst Holds (sym here)
        (elim (or_cases (n == item) (is_used_by later rest n) h) as (λ _. Holds n) [
          | inl e ↦ start n some (eqb-true n item e)
          | inr u ↦
              let f = user_found later rest n u in
              let next : n + suc f.0 ≡ n + 1 + f.0 = omega arith in
              let user = tail (suc f.0) ∙ ap (item_at items) next in
              hand_on n (n + 1 + f.0)
              (more_hold (n + 1) rest (omega arith) (λ p. tail (suc p) ∙ ap (item_at items) (omega arith)) f.0 f.1)
              (subst (λ o. uses_item o n ≡ true) user f.2)
        ])
    more_hold n (ops ∷ rest) some tail (suc p) h =
        let next : n + 1 + p ≡ n + suc p = omega arith in
        subst Holds next (more_hold (n + 1) rest (omega arith) (λ k. tail (suc k) ∙ ap (item_at items) (omega arith)) p h)

    pub marked_hold : (n : ℕ) → 0 < n → is_marked (used_from item 1 items) n ≡ true → Holds n
    marked_hold zero some h = absurd (omega (arith, some))
    marked_hold (suc n) some h =
        let here : 1 + n ≡ suc n = omega arith in
        subst Holds here (more_hold 1 items (omega arith) (λ p. ap (item_at items) (first p)) n h)
      where
        first : (p : ℕ) → suc p ≡ 1 + p
        first p = omega arith

  pub marked_depended : (n : ℕ) → 0 < n → is_marked (used_from item 1 items) n ≡ true → Depends items n item
  marked_depended n some h =
      marked_hold (λ k. Depends items k item) (λ k pos e. subst (λ j. Depends items j item) (sym e) itself) (λ m k d u. prepend items m k item u d) n some h

  -- an item before a marked one that uses a value of it is marked
  used_marked : (n : ℕ) (rest : List OpList) (p q : ℕ) → p < q → get_or (used_from item n rest) q false ≡ true → uses_item (get_or rest q nil) (n + p) ≡ true → get_or (used_from item n rest) p false ≡ true
  used_marked n [] p q lt h u = absurd (cc)
  used_marked n (ops ∷ rest) zero zero lt h u = absurd (omega (arith, lt))
  used_marked n (ops ∷ rest) zero (suc q) lt h u =
      let here : n + 0 ≡ n = omega arith in
      let later = used_from item (n + 1) rest in
      or_right (n == item) (is_used_by later rest n) (user_hits later rest n q h (subst (λ k. uses_item (get_or rest q nil) k ≡ true) here u))
  used_marked n (ops ∷ rest) (suc p) zero lt h u = absurd (omega (arith, lt))
  used_marked n (ops ∷ rest) (suc p) (suc q) lt h u =
      let here : n + suc p ≡ n + 1 + p = omega arith in
      used_marked (n + 1) rest p q (omega (arith, lt)) h (subst (λ k. uses_item (get_or rest q nil) k ≡ true) here u)

  given_marked : (n : ℕ) (rest : List OpList) (p : ℕ) → n + p ≡ item → p < length rest → get_or (used_from item n rest) p false ≡ true
  given_marked n [] p e lt = absurd (omega (arith, lt))
  given_marked n (ops ∷ rest) zero e lt = or_left (n == item) (is_used_by (used_from item (n + 1) rest) rest n) (eq-eqb n item (omega (arith, e)))
  given_marked n (ops ∷ rest) (suc p) e lt = given_marked (n + 1) rest p (omega (arith, e)) (omega (arith, lt))

  module _ (back : GoBack items) where
    abbrev all_marks : List Bool
    all_marks = used_from item 1 items

    pub step : (m n : ℕ) → 0 < m → is_marked all_marks n ≡ true → uses_item (item_at items n) m ≡ true → is_marked all_marks m ≡ true
    step zero n some h u = absurd (omega (arith, some))
    step (suc m) zero some h u = absurd (cc)
    step (suc m) (suc n) some h u =
        elim (eqb_tells (suc m) (suc n)) as (λ _. is_marked all_marks (suc m) ≡ true) [
          | inl e ↦ subst (λ k. is_marked all_marks k ≡ true) (sym e.1) h
          | inr e ↦
              let other = e.1 in
              let le = back (suc n) (suc m) u in
              let here : suc m ≡ 1 + m = omega arith in
              used_marked 1 items m n (grind (arith, other, le)) h (subst (λ k. uses_item (get_or items n nil) k ≡ true) here u)
        ]

    along : (n k : ℕ) → 0 < n → Depends items n k → is_marked all_marks k ≡ true → is_marked all_marks n ≡ true
    along n _ some itself h = h
    along n _ some (behind m k d u) h =
        elim (eqb_tells m 0) as (λ _. is_marked all_marks n ≡ true) [
          | inl e ↦ (let none = begins_at_none items n m d e.1 in absurd (omega (arith, some, none)))
          | inr e ↦ (let other = e.1 in along n m some d (step m k (grind (arith, other)) h u))
        ]

    first_marked : (k : ℕ) → k ≡ item → 0 < k → k ≤ length items → is_marked all_marks k ≡ true
    first_marked zero e some within = absurd (omega (arith, some))
    first_marked (suc k) e some within = given_marked 1 items k (omega (arith, e)) (omega (arith, within))

    pub depended_marked : (n : ℕ) → 0 < item → item ≤ length items → 0 < n → Depends items n item → is_marked all_marks n ≡ true
    depended_marked n some within pos d = along n item pos d (first_marked item refl some within)

-- the arguments use no item
pub none_used : (items : List OpList) (n : ℕ) → is_marked (used_from 0 1 items) n ≡ false
none_used items zero = refl
none_used items (suc n) =
    never_true (is_marked (used_from 0 1 items) (suc n)) (λ h. marked_hold items 0 (λ _. ⊥) (λ k some e. omega (arith, some, e)) (λ m k d u. d) (suc n) (omega arith) h)

-- each item has its mark
pub length_used : (item n : ℕ) (rest : List OpList) → length (used_from item n rest) ≡ length rest
length_used item n [] = refl
length_used item n (ops ∷ rest) = let e = length_used item (n + 1) rest in omega (arith, e)
