-- A hit of an arc is a multiple in an interval of remainders.
use Rattle.std.proofs.Common.{◌≡◌, ℕ, ◌+◌, ◌-◌, ◌*◌, ◌%◌, ◌/◌, ◌^◌, ◌<◌, ◌≤◌, inl, inr, ap, subst, arith, Option, Some, None}
use Rattle.std.proofs.lemmas.Nat.{div-add-mod', mod-mul-add}
use Rattle.std.proofs.lemmas.Bool.{cases_lt}
use Rattle.exit_solver.specs.Exit.{Hits, LiesBetween, IsFirst}

lies_hits : (M a b len l r n : ℕ) → 0 < len → len ≤ a → l + a ≡ M → r + 1 ≡ l + len → (a + b * n) % M < len → LiesBetween M b l r n
lies_hits M a b len l r n some le el er h =
    let d = div-add-mod' (a + b * n) M in
    let Q = (a + b * n) / M in
    let one : 0 < Q = elim (cases_lt 0 Q) [ inl yes' ↦ yes' | inr not ↦ (let z : Q ≡ 0 = omega arith in let p : Q * M ≡ 0 * M = ap (λ x. x * M) z in absurd (omega arith)) ] in
    let q = Q - 1 in
    let e : Q ≡ q + 1 = omega arith in
    let t : Q * M ≡ (q + 1) * M = ap (λ x. x * M) e in
    record { turns = q; low = omega arith; high = omega arith }

hits_lies : (M a b len l r n : ℕ) → 0 < len → len ≤ a → a < M → l + a ≡ M → r + 1 ≡ l + len → LiesBetween M b l r n → (a + b * n) % M < len
hits_lies M a b len l r n some le lt el er h =
    let q = h.turns in
    let lo : l + M * q ≤ b * n = h.low in
    let hi : b * n ≤ r + M * q = h.high in
    let v = a + b * n - (q + 1) * M in
    let e : a + b * n ≡ (q + 1) * M + v = omega arith in
    let small : v < len = omega arith in
    rw (e, mod-mul-add (q + 1) M v (omega arith)) small

pub first_arc : (M a b len l r : ℕ) (o : Option ℕ) → 0 < len → len ≤ a → a < M → l + a ≡ M → r + 1 ≡ l + len → IsFirst (LiesBetween M b l r) o → IsFirst (λ n. (a + b * n) % M < len) o
first_arc M a b len l r None some le lt el er h = λ k hit. h k (lies_hits M a b len l r k some le el er hit)
first_arc M a b len l r (Some n) some le lt el er h =
    (hits_lies M a b len l r n some le lt el er h.0, λ k hit. h.1 k (lies_hits M a b len l r k some le el er hit))

pub first_at : (w a b len m b' f l r : ℕ) (o : Option ℕ) → m ≡ 2 ^ w → b' ≡ b → f ≡ a → l ≡ m - f → r ≡ l + len - 1 → 0 < len → len ≤ f → a < 2 ^ w → IsFirst (LiesBetween m b' l r) o → IsFirst (Hits w a b len) o
first_at w a b len m b' f l r o em eb ef el er some le lt h =
    let h' : IsFirst (LiesBetween (2 ^ w) b l r) o = subst (λ x. IsFirst (LiesBetween x b l r) o) em (subst (λ x. IsFirst (LiesBetween m x l r) o) eb h) in
    first_arc (2 ^ w) a b len l r o some (omega arith) lt (omega arith) (omega arith) h'
