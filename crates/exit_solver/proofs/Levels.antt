-- How the least number of an interval of remainders follows from that of a lower level.
use Rattle.std.proofs.Common.{◌≡◌, ℕ, ◌+◌, ◌-◌, ◌*◌, ◌%◌, ◌/◌, ◌<◌, ◌≤◌, inl, inr, ap, ◌∙◌, arith, Option, Some, None}
use Rattle.std.proofs.Math.Nat.{mul-le-mul_left, mod-eq_of_lt, mod_self}
use Rattle.std.proofs.lemmas.Nat.{div-add-mod', mod_below}
use Rattle.std.proofs.lemmas.Bool.{cases_lt}
use Rattle.std.proofs.lemmas.Grind.{div_ceil_times}
use Rattle.std.specs.Int.{div_ceil}
use Rattle.exit_solver.specs.Exit.{LiesBetween, IsFirst}

-- a product that is at most another with a remainder
below_times : (b n k r : ℕ) → r < b → b * n ≤ b * k + r → n ≤ k
below_times b n k r lt le =
    elim (cases_lt k n) [ inl less ↦ (let up : k + 1 ≤ n = omega arith in let more = mul-le-mul_left b up in absurd (omega (arith, more))) | inr not ↦ omega arith ]

times : (m b c b' k : ℕ) → m + b' ≡ b * c → m * k + b' * k ≡ b * (c * k)
times m b c b' k e = let p = ap (λ x. x * k) e in omega arith

up_pair : (m b c b' f l r l' r' k p n : ℕ) → m + b' ≡ b * c → l ≡ l' + b * f → r ≡ r' + b * f → l' + b * p ≤ b' * k → b' * k ≤ r' + b * p → n + p ≡ c * k + f → (l + m * k ≤ b * n) × (b * n ≤ r + m * k)
up_pair m b c b' f l r l' r' k p n em el er low high e =
    let t = times m b c b' k em in
    let s : b * (n + p) ≡ b * (c * k + f) = ap (λ x. b * x) e in
    (omega arith, omega arith)

-- from the level below
up_hit : (m b c b' f l r l' r' k : ℕ) → 0 < b → m + b' ≡ b * c → l ≡ l' + b * f → r ≡ r' + b * f → LiesBetween b b' l' r' k → (n : ℕ) × (l + m * k ≤ b * n) × (b * n ≤ r + m * k)
up_hit m b c b' f l r l' r' k some em el er h =
    let t = times m b c b' k em in
    let lo : l' + b * h.turns ≤ b' * k = h.low in
    let hi : b' * k ≤ r' + b * h.turns = h.high in
    let within : h.turns ≤ c * k + f = below_times b h.turns (c * k + f) 0 some (omega arith) in
    let n = c * k + f - h.turns in
    let q = up_pair m b c b' f l r l' r' k h.turns n em el er lo hi (omega arith) in
    (n, q.0, q.1)

-- to the level below
down_hit : (m b c b' f l r l' r' n q : ℕ) → r' < b → m + b' ≡ b * c → l ≡ l' + b * f → r ≡ r' + b * f → l + m * q ≤ b * n → b * n ≤ r + m * q → LiesBetween b b' l' r' q
down_hit m b c b' f l r l' r' n q lt em el er low high =
    let t = times m b c b' q em in
    let within : n ≤ c * q + f = below_times b n (c * q + f) r' lt (omega arith) in
    let p = c * q + f - n in
    let e : n + p ≡ c * q + f = omega arith in
    let s : b * (n + p) ≡ b * (c * q + f) = ap (λ x. b * x) e in
    record { turns = p; low = omega arith; high = omega arith }

-- ---- quotients

-- q is x / b, rounded up
pub record IsCeiling (x b q : ℕ) : Type 0 where
  pub up : x ≤ q * b
  pub near : q * b < x + b

pub ceiling : (x b q : ℕ) → 0 < b → q ≡ div_ceil x b → IsCeiling x b q
ceiling x b q some e = let t = div_ceil_times x b some in let up : x ≤ div_ceil x b * b = t.0 in let near : div_ceil x b * b < x + b = t.1 in let f = ap (λ k. k * b) e in record { up = omega arith; near = omega arith }

pub ceil_least : (x b q n : ℕ) → 0 < b → IsCeiling x b q → x ≤ b * n → q ≤ n
ceil_least x b q n some c le =
    let near : q * b < x + b = c.near in
    below_times b q n (b - 1) (omega arith) (omega arith)

-- with no multiple of b from l to r both have one quotient
one_quotient : (b l r t : ℕ) → 0 < b → l ≤ r → IsCeiling l b t → r < t * b → r / b ≡ l / b
one_quotient b l r t some le c gap =
    let up : l ≤ t * b = c.up in
    let near : t * b < l + b = c.near in
    let dl = div-add-mod' l b in
    let ml = mod_below l b some in
    let dr = div-add-mod' r b in
    let mr = mod_below r b some in
    let a : l / b ≤ r / b = below_times b (l / b) (r / b) (r % b) mr (omega arith) in
    let t1 : t ≤ l / b + 1 = below_times b t (l / b + 1) (b - 1) (omega arith) (omega arith) in
    let more = mul-le-mul_left b t1 in
    let z : r / b ≤ l / b = below_times b (r / b) (l / b) (b - 1) (omega arith) (omega arith) in
    omega arith

-- -m modulo b
neg_mod : (m b : ℕ) → 0 < b → (c : ℕ) × (m + (b - m % b) % b ≡ b * c)
neg_mod m b some =
    let d = div-add-mod' m b in
    let r = mod_below m b some in
    elim (cases_lt 0 (m % b)) [
      | inl more ↦ (let lt : b - m % b < b = omega arith in let e : (b - m % b) % b ≡ b - m % b = mod-eq_of_lt lt in (m / b + 1, omega arith))
      | inr not ↦ (let z : b - m % b ≡ b = omega arith in let e : (b - m % b) % b ≡ 0 = ap (λ x. x % b) z ∙ mod_self b in (m / b, omega arith))
    ]

-- ---- a level turned round

pub flip_hit : (m b d l r l' r' n : ℕ) → b < m → 0 < l → r < m → d + b ≡ m → l' + r ≡ m → r' + l ≡ m → LiesBetween m b l r n → LiesBetween m d l' r' n
flip_hit m b d l r l' r' n lt some top ed el er h =
    let q = h.turns in
    let lo : l + m * q ≤ b * n = h.low in
    let hi : b * n ≤ r + m * q = h.high in
    let s : (d + b) * n ≡ m * n = ap (λ x. x * n) ed in
    let more : q < n = elim (cases_lt q n) [ inl less ↦ less | inr not ↦ (let up = mul-le-mul_left m not in absurd (omega (arith, up))) ] in
    let p = n - q - 1 in
    let e : n ≡ q + p + 1 = omega arith in
    let t : m * n ≡ m * (q + p + 1) = ap (λ x. m * x) e in
    record { turns = p; low = omega arith; high = omega arith }

pub first_flip : (m b l r : ℕ) (o : Option ℕ) → 0 < b → b < m → 0 < l → l ≤ r → r < m → IsFirst (LiesBetween m (m - b) (m - r) (m - l)) o → IsFirst (LiesBetween m b l r) o
first_flip m b l r None some lt low le top h = λ k hit. h k (flip_hit m b (m - b) l r (m - r) (m - l) k lt low top (omega arith) (omega arith) (omega arith) hit)
first_flip m b l r (Some n) some lt low le top h = (
  flip_hit m (m - b) b (m - r) (m - l) l r n (omega arith) (omega arith) (omega arith) (omega arith) (omega arith) (omega arith) h.0,
  λ k hit. h.1 k (flip_hit m b (m - b) l r (m - r) (m - l) k lt low top (omega arith) (omega arith) (omega arith) hit),
)

-- ---- the level below

module _ (m b l r t : ℕ) (some : 0 < b) (le : l ≤ r) (ceil : IsCeiling l b t) (gap : r < t * b) where
  down : (n : ℕ) → (h : LiesBetween m b l r n) → LiesBetween b ((b - m % b) % b) (l % b) (r % b) h.turns
  down n h =
      let c = neg_mod m b some in
      let f = one_quotient b l r t some le ceil gap in
      let dl = div-add-mod' l b in
      let dr = div-add-mod' r b in
      let e = ap (λ x. x * b) f in
      let el : l ≡ l % b + b * (l / b) = omega arith in
      let er : r ≡ r % b + b * (l / b) = omega arith in
      down_hit m b c.0 ((b - m % b) % b) (l / b) l r (l % b) (r % b) n h.turns (mod_below r b some) c.1 el er h.low h.high

  up : (k : ℕ) → LiesBetween b ((b - m % b) % b) (l % b) (r % b) k → (n : ℕ) × (l + m * k ≤ b * n) × (b * n ≤ r + m * k)
  up k h =
      let c = neg_mod m b some in
      let f = one_quotient b l r t some le ceil gap in
      let dl = div-add-mod' l b in
      let dr = div-add-mod' r b in
      let e = ap (λ x. x * b) f in
      let el : l ≡ l % b + b * (l / b) = omega arith in
      let er : r ≡ r % b + b * (l / b) = omega arith in
      up_hit m b c.0 ((b - m % b) % b) (l / b) l r (l % b) (r % b) k some c.1 el er h

  pub order_below : l % b ≤ r % b
  order_below =
      let f = one_quotient b l r t some le ceil gap in
      let dl = div-add-mod' l b in
      let dr = div-add-mod' r b in
      let e = ap (λ x. x * b) f in
      omega arith

  pub none_below : IsFirst (LiesBetween b ((b - m % b) % b) (l % b) (r % b)) None → IsFirst (LiesBetween m b l r) None
  none_below h = λ k hit. h hit.turns (down k hit)

  pub first_below : (k n : ℕ) → IsCeiling (m * k + l) b n → IsFirst (LiesBetween b ((b - m % b) % b) (l % b) (r % b)) (Some k) → IsFirst (LiesBetween m b l r) (Some n)
  first_below k n c h =
      let u = up k h.0 in
      let least : n ≤ u.0 = ceil_least (m * k + l) b n u.0 some c (omega (arith, u.1)) in
      let more = mul-le-mul_left b least in
      let lo : m * k + l ≤ n * b = c.up in (
        record { turns = k; low = omega arith; high = omega (arith, u.2, more) },
        λ j hit. let q = h.1 hit.turns (down j hit) in let up = mul-le-mul_left m q in let lj : l + m * hit.turns ≤ b * j = hit.low in ceil_least (m * k + l) b n j some c (omega (arith, up)),
      )

  pub bound_below : (k n : ℕ) → IsCeiling (m * k + l) b n → r < m → k < b → IsFirst (LiesBetween b ((b - m % b) % b) (l % b) (r % b)) (Some k) → n < m
  bound_below k n c top lt h =
      let u = up k h.0 in
      let least : n ≤ u.0 = ceil_least (m * k + l) b n u.0 some c (omega (arith, u.1)) in
      let more = mul-le-mul_left b least in
      let one : k + 1 ≤ b = omega arith in
      let room = mul-le-mul_left m one in
      let bn : b * (n + 1) ≤ b * m + (b - 1) = omega (arith, u.2, more, room) in
      let z : n + 1 ≤ m = below_times b (n + 1) m (b - 1) (omega arith) bn in
      omega arith
