-- One iteration of a loop of the machine.
use Rattle.std.proofs.Common.{◌≡◌, ℕ, zero, suc, ◌+◌, ◌-◌, ◌==◌, ◌≤◌, true, false, List, refl, arith}
use Rattle.std.proofs.lemmas.Bool.Decides.{nat_tests}
use Rattle.arith_word.specs.Operation.{holds}
use Rattle.arith_word.specs.declared.op.Pred.TheVariants.{Slt}
use Rattle.mlir_ir.specs.Runs.{Number, number, State, Event, Stop, Cut}
use Rattle.scf_eval.specs.States.{Spends}
use Rattle.scf_eval.specs.Machine.{Move, Done, Halted, move_then, Moving, Counting, Repeating, turns, rounds, entered, spend, read, copied}

made : ℕ → List ℕ → List Event → State
made budget replies trace = record { budget = budget; replies = replies; trace = trace }

spend_goes : (budget : ℕ) (replies : List ℕ) (trace : List Event) (go : State → Move)
    → spend (record { budget = suc budget; replies = replies; trace = trace }) go ≡ go (record { budget = budget; replies = replies; trace = trace })
spend_goes budget replies trace go =
    let e : suc budget - 1 ≡ budget = omega arith in
    let n : (suc budget == 0) ≡ false = grind (arith, nat_tests) in
    rw (e, n) refl

pub spend_some : (s s1 : State) (go : State → Move) → Spends s s1 → spend s go ≡ go s1
spend_some s s1 go h =
    let e : s.budget ≡ suc s1.budget = omega (arith, h.less) in
    rw (e, ← h.replies, ← h.trace) (spend_goes s1.budget s1.replies s1.trace go)

pub spend_none : (s : State) (go : State → Move) → s.budget ≡ 0 → spend s go ≡ Halted Cut s.trace
spend_none s go h = rw h refl

-- an iteration of an `scf.for` ends: the next one begins
pub turn_goes_on : (fuel : ℕ) (body : Moving) (loop : Counting) (v : Number) (values : List Number) (s s1 : State) (after : List Number) (s2 : State) → holds Slt v.w v.v loop.upper ≡ true
    → Spends s s1 → s.budget ≤ fuel → body (entered loop v values) s1 ≡ Done after s2
    → turns fuel body loop v values s ≡ turns (fuel - 1) body loop (number v.w (v.v + loop.step)) after s2
turn_goes_on zero body loop v values s s1 after s2 h b f e = absurd (omega (arith, b.less))
turn_goes_on (suc fuel) body loop v values s s1 after s2 h b f e =
    let one : suc fuel - 1 ≡ fuel = omega arith in
    rw (h, spend_some s s1 (λ s1. move_then (body (entered loop v values) s1) (turns fuel body loop (number v.w (v.v + loop.step)))) b, e, one) refl

-- it stops: so does the loop
pub turn_stops : (fuel : ℕ) (body : Moving) (loop : Counting) (v : Number) (values : List Number) (s s1 : State) (stop : Stop) (trace : List Event) → holds Slt v.w v.v loop.upper ≡ true
    → Spends s s1 → s.budget ≤ fuel → body (entered loop v values) s1 ≡ Halted stop trace
    → turns fuel body loop v values s ≡ Halted stop trace
turn_stops zero body loop v values s s1 stop trace h b f e = absurd (omega (arith, b.less))
turn_stops (suc fuel) body loop v values s s1 stop trace h b f e =
    rw (h, spend_some s s1 (λ s1. move_then (body (entered loop v values) s1) (turns fuel body loop (number v.w (v.v + loop.step)))) b, e) refl

-- no budget is left for it
pub turn_cut : (fuel : ℕ) (body : Moving) (loop : Counting) (v : Number) (values : List Number) (s : State) → holds Slt v.w v.v loop.upper ≡ true
    → s.budget ≡ 0 → turns fuel body loop v values s ≡ Halted Cut s.trace
turn_cut zero body loop v values s h b = rw h refl
turn_cut (suc fuel) body loop v values s h b = rw (h, b) refl

-- the test fails
pub turn_ends : (fuel : ℕ) (body : Moving) (loop : Counting) (v : Number) (values : List Number) (s : State) → holds Slt v.w v.v loop.upper ≡ false
    → turns fuel body loop v values s ≡ Done values s
turn_ends zero body loop v values s h = rw h refl
turn_ends (suc fuel) body loop v values s h = rw h refl

-- an `scf.while`: the before region stops
pub round_stops : (fuel : ℕ) (before after : Moving) (loop : Repeating) (values : List Number) (s : State) (stop : Stop) (trace : List Event)
    → before values s ≡ Halted stop trace → rounds fuel before after loop values s ≡ Halted stop trace
round_stops zero before after loop values s stop trace e = rw e refl
round_stops (suc fuel) before after loop values s stop trace e = rw e refl

-- the condition is 0
pub round_ends : (fuel : ℕ) (before after : Moving) (loop : Repeating) (values : List Number) (s : State) (inner : List Number) (s1 : State)
    → before values s ≡ Done inner s1 → (read loop.slot inner loop.cond).v ≡ 0 → rounds fuel before after loop values s ≡ Done (copied loop.slot inner loop.res loop.passed) s1
round_ends zero before after loop values s inner s1 e h = rw (e, h) refl
round_ends (suc fuel) before after loop values s inner s1 e h = rw (e, h) refl

-- it is not 0, and no budget is left
pub round_cut : (fuel : ℕ) (before after : Moving) (loop : Repeating) (values : List Number) (s : State) (inner : List Number) (s1 : State)
    → before values s ≡ Done inner s1 → ((read loop.slot inner loop.cond).v == 0) ≡ false → s1.budget ≡ 0 → rounds fuel before after loop values s ≡ Halted Cut s1.trace
round_cut zero before after loop values s inner s1 e h b = rw (e, h) refl
round_cut (suc fuel) before after loop values s inner s1 e h b = rw (e, h, b) refl

-- the after region stops
pub round_halts : (fuel : ℕ) (before after : Moving) (loop : Repeating) (values : List Number) (s : State) (inner : List Number) (s1 s2 : State) (stop : Stop) (trace : List Event)
    → before values s ≡ Done inner s1 → ((read loop.slot inner loop.cond).v == 0) ≡ false → Spends s1 s2 → s1.budget ≤ fuel
    → after (copied loop.slot inner loop.params loop.passed) s2 ≡ Halted stop trace → rounds fuel before after loop values s ≡ Halted stop trace
round_halts zero before after loop values s inner s1 s2 stop trace e h b f a = absurd (omega (arith, b.less))
round_halts (suc fuel) before after loop values s inner s1 s2 stop trace e h b f a =
    rw (e, h, spend_some s1 s2 (λ s2. move_then (after (copied loop.slot inner loop.params loop.passed) s2) (rounds fuel before after loop)) b, a) refl

-- it ends: the next iteration begins
pub round_goes_on : (fuel : ℕ) (before after : Moving) (loop : Repeating) (values : List Number) (s : State) (inner : List Number) (s1 s2 : State) (last : List Number) (s3 : State)
    → before values s ≡ Done inner s1 → ((read loop.slot inner loop.cond).v == 0) ≡ false → Spends s1 s2 → s1.budget ≤ fuel
    → after (copied loop.slot inner loop.params loop.passed) s2 ≡ Done last s3 → rounds fuel before after loop values s ≡ rounds (fuel - 1) before after loop last s3
round_goes_on zero before after loop values s inner s1 s2 last s3 e h b f a = absurd (omega (arith, b.less))
round_goes_on (suc fuel) before after loop values s inner s1 s2 last s3 e h b f a =
    let one : suc fuel - 1 ≡ fuel = omega arith in
    rw (e, h, spend_some s1 s2 (λ s2. move_then (after (copied loop.slot inner loop.params loop.passed) s2) (rounds fuel before after loop)) b, a, one) refl
