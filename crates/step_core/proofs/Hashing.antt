-- Starts and distances on the path of a word, at any size.
use Rattle.std.proofs.Common.{◌≡◌, ℕ, zero, suc, ◌+◌, ◌-◌, ◌*◌, ◌/◌, ◌%◌, ◌^◌, ◌<◌, ◌≤◌, sym, ap, ◌∙◌, subst, ⊎_elim, arith}
use Rattle.std.proofs.lemmas.Bool.{cases_lt}
use Rattle.std.proofs.lemmas.Nat.{pow-add}
use Rattle.std.proofs.Math.Nat.{mod-eq_of_lt, mod-eq-sub-mod, div-eq_of_lt-le, div-eq_of_eq-mul_left, div-lt_iff_lt-mul}
use Rattle.std.proofs.Math.Pow.{pow-lt}
use Rattle.step_core.specs.Words.{IsSize}
use Rattle.step_core.specs.Paths.{start_of, distance}

-- ---- starts

-- a size divides 2 ^ 64
pub size_divides : (n : ℕ) → IsSize n → (q : ℕ) × (q * n ≡ 18446744073709551616)
size_divides n s =
    let k : ℕ = s.power.0 in
    let small : k ≤ 20 = ⊎_elim
    (λ (big : 20 < k). let p : 1048576 < 2 ^ k = pow-lt {i = 20} {j = k} big in let e = s.power.1 in let g = s.greatest in absurd (omega arith))
    (λ (le : k ≤ 20). le)
    (cases_lt 20 k) in
    let whole : (64 - k) + k ≡ 64 = omega arith in
    (2 ^ (64 - k), ap (λ (z : ℕ). 2 ^ (64 - k) * z) s.power.1 ∙ (sym (pow-add 2 (64 - k) k) ∙ ap (λ (z : ℕ). 2 ^ z) whole))

quotient : (N n r : ℕ) → 0 < n → suc r * n ≡ N → (N - 1) / n + 1 ≡ N / n
quotient N n r pos e =
    let e' : r * n + n ≡ N = omega arith in
    let low : (N - 1) / n ≡ r = div-eq_of_lt-le {k = r} n {m = N - 1} (omega arith) (omega arith) in
    let high : N / n ≡ suc r = div-eq_of_eq-mul_left {n = n} {m = N} {k = suc r} pos (sym e) in
    omega arith

pub unit_is : (n : ℕ) → IsSize n → 18446744073709551615 / n + 1 ≡ 18446744073709551616 / n
unit_is n s = go (size_divides n s).0 (size_divides n s).1
  where
    go : (q : ℕ) → q * n ≡ 18446744073709551616 → 18446744073709551615 / n + 1 ≡ 18446744073709551616 / n
    go zero e = absurd (omega arith)
    go (suc r) e = let l = s.least in quotient 18446744073709551616 n r (omega arith) e

pub start_below : (word n : ℕ) → IsSize n → start_of word n < n
start_below word n s =
    let l = s.least in
    let d = size_divides n s in
    let q : ℕ = d.0 in
    let is : 18446744073709551616 / n ≡ q = div-eq_of_eq-mul_left {n = n} {m = 18446744073709551616} {k = q} (omega arith) (sym d.1) in
    let x : ℕ = word * 11400714819323198485 % 18446744073709551616 in
    let lt : x < n * q = below n q x d.1 (omega arith) in
    let pos : 0 < q = some_units q n d.1 in
    subst (λ (z : ℕ). x / z < n) (sym is) ((div-lt_iff_lt-mul {k = q} {x = x} {y = n} pos).1 lt)
  where
    below : (n q x : ℕ) → q * n ≡ 18446744073709551616 → x < 18446744073709551616 → x < n * q
    below n q x e lt = omega arith

    some_units : (q n : ℕ) → q * n ≡ 18446744073709551616 → 0 < q
    some_units zero n e = absurd (omega arith)
    some_units (suc q) n e = omega arith

-- ---- distances

far_after : (z s i : ℕ) → i < z → s ≤ i → (i + (z - s)) % z ≡ i - s
far_after z s i lt le =
    let e : (i + (z - s)) - z ≡ i - s = omega arith in
    mod-eq-sub-mod {n = i + (z - s)} {m = z} (omega arith) ∙ (ap (λ (k : ℕ). k % z) e ∙ mod-eq_of_lt {n = i - s} {m = z} (omega arith))

far_before : (z s i : ℕ) → s < z → i < s → (i + (z - s)) % z ≡ i + (z - s)
far_before z s i ls lt = mod-eq_of_lt {n = i + (z - s)} {m = z} (omega arith)

apart : (z s i j : ℕ) → i < z → j < z → s < z → (i + (z - s)) % z ≡ (j + (z - s)) % z → i ≡ j
apart z s i j li lj ls e = ⊎_elim
    (λ (bi : i < s). let a = far_before z s i ls bi in ⊎_elim
    (λ (bj : j < s). let b = far_before z s j ls bj in omega arith)
    (λ (aj : s ≤ j). let b = far_after z s j lj aj in omega arith)
    (cases_lt j s))
    (λ (ai : s ≤ i). let a = far_after z s i li ai in ⊎_elim
    (λ (bj : j < s). let b = far_before z s j ls bj in omega arith)
    (λ (aj : s ≤ j). let b = far_after z s j lj aj in omega arith)
    (cases_lt j s))
    (cases_lt i s)

-- two places are never equally far along a path
pub distance_apart : (n word i j : ℕ) → IsSize n → i < n → j < n → distance n word i ≡ distance n word j → i ≡ j
distance_apart n word i j s li lj e = apart n (start_of word n) i j li lj (start_below word n s) e

far_is : (z s n : ℕ) → n < z → s < z → ((s + n) % z + (z - s)) % z ≡ n
far_is z s n ln ls = ⊎_elim
    (λ (lt : s + n < z).
    let e : (s + n) % z ≡ s + n = mod-eq_of_lt {n = s + n} {m = z} lt in
    let m : (s + n) - s ≡ n = omega arith in
    ap (λ (k : ℕ). (k + (z - s)) % z) e ∙ (far_after z s (s + n) lt (omega arith) ∙ m))
    (λ (ge : z ≤ s + n).
    let e : (s + n) % z ≡ (s + n) - z = mod-eq-sub-mod {n = s + n} {m = z} ge ∙ mod-eq_of_lt {n = (s + n) - z} {m = z} (omega arith) in
    let m : ((s + n) - z) + (z - s) ≡ n = omega arith in
    ap (λ (k : ℕ). (k + (z - s)) % z) e ∙ (far_before z s ((s + n) - z) ls (omega arith) ∙ m))
    (cases_lt (s + n) z)

-- the place n of a path is n along
pub distance_is : (size word n : ℕ) → IsSize size → n < size → distance size word ((start_of word size + n) % size) ≡ n
distance_is size word n s lt = far_is size (start_of word size) n lt (start_below word size s)
