-- The predicates as orders of distances from the least number, and an arc by its numbers.
use Rattle.std.proofs.Common.{◌≡◌, ℕ, suc, ◌+◌, ◌-◌, ◌%◌, ◌^◌, ◌<◌, ◌≤◌, inl, inr, refl, ap, ◌∙◌, sym, subst, arith, Bool, pos, negsuc}
use Rattle.std.proofs.Math.Nat.{mod-eq_of_lt, pow-suc}
use Rattle.std.proofs.lemmas.Bool.{cases_lt, cases_eq, lt-ltb, le-ltb, le-leb, lt-leb, eq-eqb, ne_eqb, ltb-true, not-false}
use Rattle.std.specs.Prelude.{not, nat_lt, nat_le, ◌==◌}
use Rattle.std.specs.Int.RustNames.{int_lt, int_le}
use Rattle.arith_word.specs.Word.{signed_reading}
use Rattle.arith_word.specs.Operation.{holds}
use Rattle.arith_word.specs.declared.op.Pred.{Pred}
use Rattle.arith_word.specs.declared.op.Pred.TheVariants.{Eq, Ne, Slt, Sle, Sgt, Sge, Ult, Ule, Ugt, Uge}
use Rattle.exit_solver.specs.declared.arc.Arc.{Arc}
use Rattle.exit_solver.specs.Exit.{distance, IsOnArc, FailsOn, FailsWithin}
use Rattle.exit_solver.proofs.Distances.{IsDistance, distance_is, by_next, wrapped, one_distance}

same_lt : (a b c d : ℕ) → (a < b → c < d) → (b ≤ a → d ≤ c) → nat_lt a b ≡ nat_lt c d
same_lt a b c d f g = elim (cases_lt a b) [ inl h ↦ rw (lt-ltb a b h, lt-ltb c d (f h)) refl | inr h ↦ rw (le-ltb a b h, le-ltb c d (g h)) refl ]

same_le : (a b c d : ℕ) → (a ≤ b → c ≤ d) → (b < a → d < c) → nat_le a b ≡ nat_le c d
same_le a b c d f g = elim (cases_lt b a) [ inl h ↦ rw (lt-leb a b h, lt-leb c d (g h)) refl | inr h ↦ rw (le-leb a b h, le-leb c d (f h)) refl ]

-- ---- unsigned: the order begins at 0

from_zero : (M v : ℕ) → v < M → (v + (M - 0)) % M ≡ v
from_zero M v lt = let e : v + (M - 0) ≡ v + M = omega arith in ap (λ k. k % M) e ∙ wrapped M v lt

pub unsigned_lt : (M x y : ℕ) → x < M → y < M → nat_lt x y ≡ nat_lt ((x + (M - 0)) % M) ((y + (M - 0)) % M)
unsigned_lt M x y lx ly = rw (from_zero M x lx, from_zero M y ly) refl

pub unsigned_le : (M x y : ℕ) → x < M → y < M → nat_le x y ≡ nat_le ((x + (M - 0)) % M) ((y + (M - 0)) % M)
unsigned_le M x y lx ly = rw (from_zero M x lx, from_zero M y ly) refl

-- ---- signed: the order begins at half of 2 ^ w

pub halves : (w : ℕ) → 1 ≤ w → 2 ^ w ≡ 2 ^ (w - 1) + 2 ^ (w - 1)
halves w some = let e : w ≡ suc (w - 1) = omega arith in ap (λ k. 2 ^ k) e ∙ (pow-suc 2 (w - 1) ∙ omega arith)

low_distance : (M H x : ℕ) → M ≡ H + H → x < H → (x + (M - H)) % M ≡ x + H
low_distance M H x e lt = let s : x + (M - H) ≡ x + H = omega arith in let l : x + H < M = omega arith in ap (λ k. k % M) s ∙ mod-eq_of_lt l

high_distance : (M H x : ℕ) → M ≡ H + H → H ≤ x → x < M → (x + (M - H)) % M ≡ x - H
high_distance M H x e le lt = let s : x + (M - H) ≡ x - H + M = omega arith in ap (λ k. k % M) s ∙ wrapped M (x - H) (omega arith)

reading_low : (w x : ℕ) → x < 2 ^ (w - 1) → signed_reading w x ≡ pos x
reading_low w x lt = rw (lt-ltb x (2 ^ (w - 1)) lt) refl

reading_high : (w x : ℕ) → 2 ^ (w - 1) ≤ x → signed_reading w x ≡ negsuc (2 ^ w - 1 - x)
reading_high w x le = rw (le-ltb x (2 ^ (w - 1)) le) refl

pub signed_lt : (w x y : ℕ) → 1 ≤ w → x < 2 ^ w → y < 2 ^ w → int_lt (signed_reading w x) (signed_reading w y) ≡ nat_lt (distance w (2 ^ (w - 1)) x) (distance w (2 ^ (w - 1)) y)
signed_lt w x y some lx ly =
    let M = 2 ^ w in
    let H = 2 ^ (w - 1) in
    let e : M ≡ H + H = halves w some in
    elim (cases_lt x H) [
      | inl hx ↦ elim (cases_lt y H) [
        | inl hy ↦ rw (reading_low w x hx, reading_low w y hy, low_distance M H x e hx, low_distance M H y e hy) (same_lt x y (x + H) (y + H) (λ h. omega arith) (λ h. omega arith))
        | inr hy ↦ rw (reading_low w x hx, reading_high w y hy, low_distance M H x e hx, high_distance M H y e hy ly) (sym (le-ltb (x + H) (y - H) (omega arith)))
      ]
      | inr hx ↦ elim (cases_lt y H) [
        | inl hy ↦ rw (reading_high w x hx, reading_low w y hy, high_distance M H x e hx lx, low_distance M H y e hy) (sym (lt-ltb (x - H) (y + H) (omega arith)))
        | inr hy ↦ rw (reading_high w x hx, reading_high w y hy, high_distance M H x e hx lx, high_distance M H y e hy ly) (same_lt (M - 1 - y) (M - 1 - x) (x - H) (y - H) (λ h. omega arith) (λ h. omega arith))
      ]
    ]

pub signed_le : (w x y : ℕ) → 1 ≤ w → x < 2 ^ w → y < 2 ^ w → int_le (signed_reading w x) (signed_reading w y) ≡ nat_le (distance w (2 ^ (w - 1)) x) (distance w (2 ^ (w - 1)) y)
signed_le w x y some lx ly =
    let M = 2 ^ w in
    let H = 2 ^ (w - 1) in
    let e : M ≡ H + H = halves w some in
    elim (cases_lt x H) [
      | inl hx ↦ elim (cases_lt y H) [
        | inl hy ↦ rw (reading_low w x hx, reading_low w y hy, low_distance M H x e hx, low_distance M H y e hy) (same_le x y (x + H) (y + H) (λ h. omega arith) (λ h. omega arith))
        | inr hy ↦ rw (reading_low w x hx, reading_high w y hy, low_distance M H x e hx, high_distance M H y e hy ly) (sym (lt-leb (x + H) (y - H) (omega arith)))
      ]
      | inr hx ↦ elim (cases_lt y H) [
        | inl hy ↦ rw (reading_high w x hx, reading_low w y hy, high_distance M H x e hx lx, low_distance M H y e hy) (sym (le-leb (x - H) (y + H) (omega arith)))
        | inr hy ↦ rw (reading_high w x hx, reading_high w y hy, high_distance M H x e hx lx, high_distance M H y e hy ly) (same_le (M - 1 - y) (M - 1 - x) (x - H) (y - H) (λ h. omega arith) (λ h. omega arith))
      ]
    ]

-- ---- one number, and all others

-- only a number itself is at distance 0
no_distance : (M c v d : ℕ) → c < M → v < M → IsDistance M c v d → v ≡ c → d ≡ 0
no_distance M c v d lc lv p e =
    let lt : d < M = p.below in
    elim p.sum [ inl a ↦ omega arith | inr a ↦ omega arith ]

some_distance : (M c v d : ℕ) → c < M → v < M → IsDistance M c v d → (v ≡ c → ⊥) → 0 < d
some_distance M c v d lc lv p ne =
    elim (cases_lt 0 d) [ inl h ↦ h | inr z ↦ absurd (elim p.sum [ inl a ↦ ne (omega arith) | inr a ↦ omega arith ]) ]

pub itself_is : (M c v : ℕ) → c < M → v < M → not (v == c) ≡ not (nat_lt ((v + (M - c)) % M) 1)
itself_is M c v lc lv =
    let p = distance_is M c v lc lv in
    let d = (v + (M - c)) % M in
    elim (cases_eq v c) [
      | inl e ↦ (let z : d < 1 = (let n = no_distance M c v d lc lv p e in omega arith) in rw (eq-eqb v c e, lt-ltb d 1 z) refl)
      | inr ne ↦ (let z : 1 ≤ d = some_distance M c v d lc lv p ne in rw (ne_eqb v c ne, le-ltb d 1 z) refl)
    ]

pub others_are : (M c v : ℕ) → 1 < M → c < M → v < M → (v == c) ≡ not (nat_lt ((v + (M - (c + 1) % M)) % M) (M - 1))
others_are M c v some lc lv =
    let p = distance_is M c v lc lv in
    let b = by_next M c v some lc lv in
    let d = (v + (M - c)) % M in
    let d' = (v + (M - (c + 1) % M)) % M in
    let l : d' < M = b.0.0 in
    elim (cases_eq v c) [
      | inl e ↦ (let z : M - 1 ≤ d' = (let n = no_distance M c v d lc lv p e in elim b.1 [ inl s ↦ omega arith | inr s ↦ omega arith ]) in rw (eq-eqb v c e, le-ltb d' (M - 1) z) refl)
      | inr ne ↦ (let z : d' < M - 1 = (let n = some_distance M c v d lc lv p ne in let ld : d < M = b.0.1 in elim b.1 [ inl s ↦ omega arith | inr s ↦ omega arith ]) in rw (ne_eqb v c ne, lt-ltb d' (M - 1) z) refl)
    ]

-- ---- an arc by its numbers

on_arc_from : (w v : ℕ) (arc : Arc) → arc.from < 2 ^ w → v < 2 ^ w → distance w arc.from v < arc.len → IsOnArc w arc v
on_arc_from w v arc lf lv lt =
    let M = 2 ^ w in
    let d = distance w arc.from v in
    let p = distance_is M arc.from v lf lv in
    let e : v ≡ (arc.from + d) % M =
    elim p.sum [
      | inl a ↦ (let l : arc.from + d < M = omega arith in a ∙ sym (mod-eq_of_lt l))
      | inr a ↦ sym (ap (λ k. k % M) (sym a) ∙ wrapped M v lv)
    ] in
    record { i = d; below = lt; number = e }

on_arc_to : (w v : ℕ) (arc : Arc) → arc.from < 2 ^ w → arc.len ≤ 2 ^ w → v < 2 ^ w → IsOnArc w arc v → distance w arc.from v < arc.len
on_arc_to w v arc lf le lv h =
    let M = 2 ^ w in
    let below : h.i < arc.len = h.below in
    let li : h.i < M = omega arith in
    let p = distance_is M arc.from v lf lv in
    let q : IsDistance M arc.from v h.i =
    elim (cases_lt (arc.from + h.i) M) [
      | inl l ↦ (let s : (arc.from + h.i) % M ≡ arc.from + h.i = mod-eq_of_lt l in record { below = li; sum = inl (h.number ∙ s) })
      | inr l ↦ (let t : arc.from + h.i ≡ arc.from + h.i - M + M = omega arith in let s : (arc.from + h.i) % M ≡ arc.from + h.i - M = ap (λ k. k % M) t ∙ wrapped M (arc.from + h.i - M) (omega arith) in let u : v ≡ arc.from + h.i - M = h.number ∙ s in record { below = li; sum = inr (omega arith) })
    ] in
    let e : distance w arc.from v ≡ h.i = one_distance M arc.from v (distance w arc.from v) h.i lv lf p q in
    omega arith

pub fails_on : (w : ℕ) (arc : Arc) (test : ℕ → Bool) → arc.from < 2 ^ w → arc.len ≤ 2 ^ w → FailsWithin w arc test → FailsOn w arc test
fails_on w arc test lf le h =
    λ v lv. (
      (λ e. on_arc_from w v arc lf lv (ltb-true (distance w arc.from v) arc.len (not-false (nat_lt (distance w arc.from v) arc.len) (sym (h v lv) ∙ e)))),
      (λ on. h v lv ∙ ap not (lt-ltb (distance w arc.from v) arc.len (on_arc_to w v arc lf le lv on))),
    )

-- ---- the predicates

same_pred : (w c : ℕ) (arc : Arc) (p q : Pred) → p ≡ q → FailsWithin w arc (λ v. holds q w v c) → FailsWithin w arc (λ v. holds p w v c)
same_pred w c arc p q e h = subst (λ (x : Pred). FailsWithin w arc (λ v. holds x w v c)) (sym e) h

at_half : (w c h : ℕ) (arc : Arc) (test : ℕ → ℕ → Bool) → h ≡ 2 ^ (w - 1) → FailsWithin w arc (λ v. test (distance w h v) (distance w h c)) → FailsWithin w arc (λ v. test (distance w (2 ^ (w - 1)) v) (distance w (2 ^ (w - 1)) c))
at_half w c h arc test e f = subst (λ (x : ℕ). FailsWithin w arc (λ v. test (distance w x v) (distance w x c))) e f

pub slt_on : (w c h : ℕ) (arc : Arc) (p : Pred) → p ≡ Slt → 1 ≤ w → c < 2 ^ w → h ≡ 2 ^ (w - 1) → FailsWithin w arc (λ v. nat_lt (distance w h v) (distance w h c)) → FailsWithin w arc (λ v. holds p w v c)
slt_on w c h arc p is some lc e f = let f' = at_half w c h arc (λ x y. nat_lt x y) e f in same_pred w c arc p Slt is (λ v lv. signed_lt w v c some lv lc ∙ f' v lv)

pub sle_on : (w c h : ℕ) (arc : Arc) (p : Pred) → p ≡ Sle → 1 ≤ w → c < 2 ^ w → h ≡ 2 ^ (w - 1) → FailsWithin w arc (λ v. nat_le (distance w h v) (distance w h c)) → FailsWithin w arc (λ v. holds p w v c)
sle_on w c h arc p is some lc e f = let f' = at_half w c h arc (λ x y. nat_le x y) e f in same_pred w c arc p Sle is (λ v lv. signed_le w v c some lv lc ∙ f' v lv)

pub sgt_on : (w c h : ℕ) (arc : Arc) (p : Pred) → p ≡ Sgt → 1 ≤ w → c < 2 ^ w → h ≡ 2 ^ (w - 1) → FailsWithin w arc (λ v. nat_lt (distance w h c) (distance w h v)) → FailsWithin w arc (λ v. holds p w v c)
sgt_on w c h arc p is some lc e f = let f' = at_half w c h arc (λ x y. nat_lt y x) e f in same_pred w c arc p Sgt is (λ v lv. signed_lt w c v some lc lv ∙ f' v lv)

pub sge_on : (w c h : ℕ) (arc : Arc) (p : Pred) → p ≡ Sge → 1 ≤ w → c < 2 ^ w → h ≡ 2 ^ (w - 1) → FailsWithin w arc (λ v. nat_le (distance w h c) (distance w h v)) → FailsWithin w arc (λ v. holds p w v c)
sge_on w c h arc p is some lc e f = let f' = at_half w c h arc (λ x y. nat_le y x) e f in same_pred w c arc p Sge is (λ v lv. signed_le w c v some lc lv ∙ f' v lv)

pub ult_on : (w c : ℕ) (arc : Arc) (p : Pred) → p ≡ Ult → c < 2 ^ w → FailsWithin w arc (λ v. nat_lt (distance w 0 v) (distance w 0 c)) → FailsWithin w arc (λ v. holds p w v c)
ult_on w c arc p is lc f = same_pred w c arc p Ult is (λ v lv. unsigned_lt (2 ^ w) v c lv lc ∙ f v lv)

pub ule_on : (w c : ℕ) (arc : Arc) (p : Pred) → p ≡ Ule → c < 2 ^ w → FailsWithin w arc (λ v. nat_le (distance w 0 v) (distance w 0 c)) → FailsWithin w arc (λ v. holds p w v c)
ule_on w c arc p is lc f = same_pred w c arc p Ule is (λ v lv. unsigned_le (2 ^ w) v c lv lc ∙ f v lv)

pub ugt_on : (w c : ℕ) (arc : Arc) (p : Pred) → p ≡ Ugt → c < 2 ^ w → FailsWithin w arc (λ v. nat_lt (distance w 0 c) (distance w 0 v)) → FailsWithin w arc (λ v. holds p w v c)
ugt_on w c arc p is lc f = same_pred w c arc p Ugt is (λ v lv. unsigned_lt (2 ^ w) c v lc lv ∙ f v lv)

pub uge_on : (w c : ℕ) (arc : Arc) (p : Pred) → p ≡ Uge → c < 2 ^ w → FailsWithin w arc (λ v. nat_le (distance w 0 c) (distance w 0 v)) → FailsWithin w arc (λ v. holds p w v c)
uge_on w c arc p is lc f = same_pred w c arc p Uge is (λ v lv. unsigned_le (2 ^ w) c v lc lv ∙ f v lv)

pub eq_on : (w c : ℕ) (arc : Arc) (p : Pred) → p ≡ Eq → FailsWithin w arc (λ v. v == c) → FailsWithin w arc (λ v. holds p w v c)
eq_on w c arc p is f = same_pred w c arc p Eq is f

pub ne_on : (w c : ℕ) (p : Pred) → p ≡ Ne → c < 2 ^ w → FailsWithin w (record { from = c; len = 1 }) (λ v. holds p w v c)
ne_on w c p is lc = same_pred w c (record { from = c; len = 1 }) p Ne is (λ v lv. itself_is (2 ^ w) c v lc lv)
