-- Distances on the circle of the residues modulo M.
use Rattle.std.proofs.Common.{◌≡◌, ℕ, ◌+◌, ◌-◌, ◌*◌, ◌%◌, ◌<◌, ◌≤◌, ◌⊎◌, inl, inr, refl, ap, ◌∙◌, arith}
use Rattle.std.proofs.Math.Nat.{add-mul-mod_self_left, mod-eq_of_lt}
use Rattle.std.proofs.lemmas.Bool.{cases_lt, lt-ltb, le-ltb, le-leb, lt-leb}
use Rattle.std.specs.Prelude.{not, nat_lt, nat_le}

-- a number below 2 * M modulo M
pub wrapped : (M n : ℕ) → n < M → (n + M) % M ≡ n
wrapped M n lt = let e : n + M ≡ n + M * 1 = omega arith in ap (λ k. k % M) e ∙ (add-mul-mod_self_left n M 1 ∙ mod-eq_of_lt lt)

-- d is how far v is above from
pub record IsDistance (M from v d : ℕ) : Type 0 where
  pub below : d < M
  pub sum : (v ≡ from + d) ⊎ (v + M ≡ from + d)

pub distance_is : (M from v : ℕ) → from < M → v < M → IsDistance M from v ((v + (M - from)) % M)
distance_is M from v lf lv =
    elim (cases_lt v from) as (λ _. IsDistance M from v ((v + (M - from)) % M)) [
      | inl less ↦ (let lt : v + (M - from) < M = omega arith in let e : (v + (M - from)) % M ≡ v + (M - from) = mod-eq_of_lt lt in record { below = omega arith; sum = inr (omega arith) })
      | inr up ↦ (let s : v + (M - from) ≡ v - from + M = omega arith in let lt : v - from < M = omega arith in let e : (v + (M - from)) % M ≡ v - from = ap (λ k. k % M) s ∙ wrapped M (v - from) lt in record { below = omega arith; sum = inl (omega arith) })
    ]

-- a number has one distance
pub one_distance : (M from v d e : ℕ) → v < M → from < M → IsDistance M from v d → IsDistance M from v e → d ≡ e
one_distance M from v d e lv lf p q =
    let lp : d < M = p.below in
    let lq : e < M = q.below in
    elim p.sum [
      | inl a ↦ elim q.sum [ inl b ↦ omega arith | inr b ↦ omega arith ]
      | inr a ↦ elim q.sum [ inl b ↦ omega arith | inr b ↦ omega arith ]
    ]

-- from a to c by way of b
pub joined : (M a b c D C V : ℕ) → a < M → b < M → c < M → IsDistance M a b D → IsDistance M b c C → IsDistance M a c V → (V ≡ D + C) ⊎ (V + M ≡ D + C)
joined M a b c D C V la lb lc p q r =
    let lp : D < M = p.below in
    let lq : C < M = q.below in
    let lr : V < M = r.below in
    elim p.sum [
      | inl x ↦ elim q.sum [ inl y ↦ elim r.sum [ inl z ↦ inl (omega arith) | inr z ↦ inr (omega arith) ] | inr y ↦ elim r.sum [ inl z ↦ inr (omega arith) | inr z ↦ inl (omega arith) ] ]
      | inr x ↦ elim q.sum [ inl y ↦ elim r.sum [ inl z ↦ inr (omega arith) | inr z ↦ inl (omega arith) ] | inr y ↦ elim r.sum [ inl z ↦ inr (omega arith) | inr z ↦ inr (omega arith) ] ]
    ]

-- one test is the other turned round
pub turned_lt : (a b c d : ℕ) → (a < b → d ≤ c) → (b ≤ a → c < d) → nat_lt a b ≡ not (nat_lt c d)
turned_lt a b c d f g = elim (cases_lt a b) [ inl h ↦ rw (lt-ltb a b h, le-ltb c d (f h)) refl | inr h ↦ rw (le-ltb a b h, lt-ltb c d (g h)) refl ]

pub turned_le : (a b c d : ℕ) → (a ≤ b → d ≤ c) → (b < a → c < d) → nat_le a b ≡ not (nat_lt c d)
turned_le a b c d f g = elim (cases_lt b a) [ inl h ↦ rw (lt-leb a b h, lt-ltb c d (g h)) refl | inr h ↦ rw (le-leb a b h, le-ltb c d (f h)) refl ]

-- the numbers from c on, in the order that begins at least
pub at_least_is : (M least c v : ℕ) → least < M → c < M → v < M →
    nat_lt ((v + (M - least)) % M) ((c + (M - least)) % M) ≡ not (nat_lt ((v + (M - c)) % M) (M - (c + (M - least)) % M))
at_least_is M least c v ll lc lv =
    let D = (c + (M - least)) % M in
    let V = (v + (M - least)) % M in
    let C = (v + (M - c)) % M in
    let p = distance_is M least c ll lc in
    let q = distance_is M c v lc lv in
    let r = distance_is M least v ll lv in
    let lp : D < M = p.below in
    let lq : C < M = q.below in
    let lr : V < M = r.below in
    let j = joined M least c v D C V ll lc lv p q r in
    turned_lt V D C (M - D)
    (λ h. elim j [ inl e ↦ omega arith | inr e ↦ omega arith ])
    (λ h. elim j [ inl e ↦ omega arith | inr e ↦ omega arith ])

-- the next number of c is one above c
next_is : (M c : ℕ) → 1 < M → c < M → ((c + 1) % M < M) × IsDistance M c ((c + 1) % M) 1
next_is M c some lc =
    elim (cases_lt (c + 1) M) as (λ _. ((c + 1) % M < M) × IsDistance M c ((c + 1) % M) 1) [
      | inl less ↦ (let e : (c + 1) % M ≡ c + 1 = mod-eq_of_lt less in (omega arith, record { below = some; sum = inl e }))
      | inr most ↦ (let s : c + 1 ≡ 0 + M = omega arith in let z : 0 < M = omega arith in let e : (c + 1) % M ≡ 0 = ap (λ k. k % M) s ∙ wrapped M 0 z in (omega arith, record { below = some; sum = inr (omega arith) }))
    ]

-- from c to v by way of the next number of c
pub by_next : (M c v : ℕ) → 1 < M → c < M → v < M →
    (((v + (M - (c + 1) % M)) % M < M) × ((v + (M - c)) % M < M)) × (((v + (M - c)) % M ≡ 1 + (v + (M - (c + 1) % M)) % M) ⊎ ((v + (M - c)) % M + M ≡ 1 + (v + (M - (c + 1) % M)) % M))
by_next M c v some lc lv =
    let n = next_is M c some lc in
    let ln : (c + 1) % M < M = n.0 in
    let q = distance_is M c v lc lv in
    let q' = distance_is M ((c + 1) % M) v ln lv in
    ((q'.below, q.below), joined M c ((c + 1) % M) v 1 ((v + (M - (c + 1) % M)) % M) ((v + (M - c)) % M) lc ln lv n.1 q' q)

-- the numbers above c, in the order that begins at least
pub above_is : (M least c v : ℕ) → 1 < M → least < M → c < M → v < M →
    nat_le ((v + (M - least)) % M) ((c + (M - least)) % M) ≡ not (nat_lt ((v + (M - (c + 1) % M)) % M) (M - 1 - (c + (M - least)) % M))
above_is M least c v some ll lc lv =
    let D = (c + (M - least)) % M in
    let V = (v + (M - least)) % M in
    let C = (v + (M - c)) % M in
    let C' = (v + (M - (c + 1) % M)) % M in
    let p = distance_is M least c ll lc in
    let q = distance_is M c v lc lv in
    let r = distance_is M least v ll lv in
    let lp : D < M = p.below in
    let lq : C < M = q.below in
    let lr : V < M = r.below in
    let j = joined M least c v D C V ll lc lv p q r in
    let b = by_next M c v some lc lv in
    let lb : C' < M = b.0.0 in
    turned_le V D C' (M - 1 - D)
    (λ h. elim j [ inl e ↦ elim b.1 [ inl d ↦ omega arith | inr d ↦ omega arith ] | inr e ↦ elim b.1 [ inl d ↦ omega arith | inr d ↦ omega arith ] ])
    (λ h. elim j [ inl e ↦ elim b.1 [ inl d ↦ omega arith | inr d ↦ omega arith ] | inr e ↦ elim b.1 [ inl d ↦ omega arith | inr d ↦ omega arith ] ])

-- up to c: these two begin at least itself
pub at_most_is : (D V : ℕ) → nat_lt D V ≡ not (nat_lt V (D + 1))
at_most_is D V = turned_lt D V V (D + 1) (λ h. omega arith) (λ h. omega arith)

pub below_is : (D V : ℕ) → nat_le D V ≡ not (nat_lt V D)
below_is D V = turned_le D V V D (λ h. h) (λ h. h)

-- a difference modulo M is a distance
pub distance_from : (M from v : ℕ) → from < M → (v + (M - from % M)) % M ≡ (v + (M - from)) % M
distance_from M from v lt = let e : from % M ≡ from = mod-eq_of_lt lt in ap (λ k. (v + (M - k)) % M) e
