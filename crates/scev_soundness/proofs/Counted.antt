-- Iterations stay below trip counts in parts of a run.
use Rattle.std.proofs.Common.{◌≡◌, ℕ, ◌+◌, ◌<◌, ◌≤◌, ◌==◌, ◌∷◌, ◌++◌, nat_le, nat_lt, inl, inr, List, [], length, drop, refl, sym, subst, arith, Bool, true, false, Option, Some, None, if◌then◌else◌}
use Rattle.std.proofs.lemmas.Bool.{both_ways, cases_lt, le-leb, lt-ltb}
use Rattle.arith_word.specs.declared.label.Label.{Label}
use Rattle.mlir_ir.specs.Operations.{SimpleOp, Const, Bin, Cast, Cmp, Select, Call}
use Rattle.mlir_ir.specs.Runs.{Number, Binding, Iteration, State, Starved, End, Done, Stopped, Report, Segment, numbers_of, numbers_at, definitions, defines, reports_then, run_then, stops, tick, answers, gives, computed, result_bits, run_simple}
use Rattle.mlir_ir.specs.declared.types.IrType.{IrType}
use Rattle.trip_count.specs.declared.answer.Turns.{Turns}
use Rattle.trip_count.specs.declared.answer.Turns.TheVariants.{Count, Never, Exactly, Guarded, Unknown}
use Rattle.trip_count.proofs.Trips.{IsTrip}
use Rattle.fresh_scev.specs.Facts.{Facts}
use Rattle.scev_soundness.specs.Agreement.{Ends}
use Rattle.scev_soundness.specs.Arguments.{turn_of}
use Rattle.scev_soundness.specs.Counted.{IsCounted, AreReached, AreCounted, AllCounted}

-- ---- one loop

-- a loop whose test is true in iteration k and before
pub trip_counted : (s : ℕ → ℕ) (t : Turns) (k : ℕ) (truth : ℕ → Bool) → IsTrip s (λ j. truth j ≡ false) t
    → ((j : ℕ) → j ≤ k → truth j ≡ true) → IsCounted t false k
trip_counted s (Count n) k truth trip h = elim (cases_lt k n) [
  | inl lt ↦ lt
  | inr ge ↦ absurd (both_ways (truth n) trip.0 (h n ge))
]
trip_counted s Never k truth trip h = tt
trip_counted s (Exactly e) k truth trip h = tt
trip_counted s (Guarded pred a c e) k truth trip h = tt
trip_counted s (Unknown why) k truth trip h = tt

-- behind the test of an iteration, and in front of it
below_weaker : (t : Turns) (k : ℕ) → IsCounted t false k → (front : Bool) → IsCounted t front k
below_weaker (Count n) k lt true = omega arith
below_weaker (Count n) k lt false = lt
below_weaker Never k lt front = tt
below_weaker (Exactly e) k lt front = tt
below_weaker (Guarded pred a c e) k lt front = tt
below_weaker (Unknown why) k lt front = tt

-- in front of the first test
pub first_counted : (t : Turns) → IsCounted t true 0
first_counted (Count n) = omega arith
first_counted Never = tt
first_counted (Exactly e) = tt
first_counted (Guarded pred a c e) = tt
first_counted (Unknown why) = tt

-- and of the next one
pub next_counted : (t : Turns) (j k : ℕ) → k ≡ j + 1 → IsCounted t false j → IsCounted t true k
next_counted (Count n) j k e lt = omega arith
next_counted Never j k e lt = tt
next_counted (Exactly x) j k e lt = tt
next_counted (Guarded pred a c x) j k e lt = tt
next_counted (Unknown why) j k e lt = tt

-- ---- the loops around

-- the iterations are below the trip counts for values with labels from `at` to `end`
pub record Allowed (F : Facts) (split : ℕ → ℕ) (at end : ℕ) (around : List Iteration) : Type 0 where
  pub reached : (label : ℕ) → at ≤ label → label ≤ end → AreReached F split label around
  pub counted : (label : ℕ) → at ≤ label → label < end → AreCounted F split label around

module _ (F : Facts) (split : ℕ → ℕ) where
  pub allowed_part : (at end a e : ℕ) (around : List Iteration) → at ≤ a → e ≤ end → Allowed F split at end around
      → Allowed F split a e around
  allowed_part at end a e around lo hi h =
      record {
        reached = λ l le lt. h.reached l (omega arith) (omega arith);
        counted = λ l le lt. h.counted l (omega arith) (omega arith);
      }

  -- one loop more, behind its test
  pub allowed_behind : (at end a e loop k : ℕ) (around : List Iteration) → at ≤ a → e ≤ end
      → IsCounted (F.turns loop) false k → Allowed F split at end around
      → Allowed F split a e (turn_of loop k ∷ around)
  allowed_behind at end a e loop k around lo hi below h = record {
    reached = λ l le lt. (
      below_weaker (F.turns loop) k below (nat_le l (split loop)),
      h.reached l (omega arith) (omega arith),
    );
    counted = λ l le lt. (
      below_weaker (F.turns loop) k below (nat_lt l (split loop)),
      h.counted l (omega arith) (omega arith),
    );
  }

  -- and in front of it
  pub allowed_front : (at end a e loop k : ℕ) (around : List Iteration) → at ≤ a → e ≤ end → e ≤ split loop
      → IsCounted (F.turns loop) true k → Allowed F split at end around
      → Allowed F split a e (turn_of loop k ∷ around)
  allowed_front at end a e loop k around lo hi front below h = record {
    reached = λ l le lt. (
      subst (λ b. IsCounted (F.turns loop) b k) (sym (le-leb l (split loop) (omega arith))) below,
      h.reached l (omega arith) (omega arith),
    );
    counted = λ l le lt. (
      subst (λ b. IsCounted (F.turns loop) b k) (sym (lt-ltb l (split loop) (omega arith))) below,
      h.counted l (omega arith) (omega arith),
    );
  }

  -- ---- segments

  pub counted_append : (a b : List Report) → AllCounted F split a → AllCounted F split b → AllCounted F split (a ++ b)
  counted_append [] b p q = q
  counted_append (v ∷ a) b p q = (p.0, counted_append a b p.1 q)

  then_counted : (e : End) (vs : List Report) (P : List Binding → Type 0) (go : List Binding → State → Segment)
      → AllCounted F split vs → Ends e P
      → ((env : List Binding) (s : State) → P env → AllCounted F split (go env s).reports)
      → AllCounted F split (vs ++ reports_then e (λ env s. (go env s).reports))
  then_counted (Done env s) vs P go h p k = counted_append vs _ h (k env s p)
  then_counted (Stopped stop trace) vs P go h p k = counted_append vs [] h tt

  pub counted_then : (r : Segment) (P : List Binding → Type 0) (go : List Binding → State → Segment)
      → AllCounted F split r.reports → Ends r.end P
      → ((env : List Binding) (s : State) → P env → AllCounted F split (go env s).reports)
      → AllCounted F split (run_then r go).reports
  counted_then r P go h p k = then_counted r.end r.reports P go h p k

  pub counted_if : (t : Bool) (r s : Segment) → (t ≡ true → AllCounted F split r.reports)
      → (t ≡ false → AllCounted F split s.reports) → AllCounted F split (if t then r else s).reports
  counted_if true r s a b = a refl
  counted_if false r s a b = b refl

  pub counted_tick : (s : State) (go : State → Segment) → ((later : State) → AllCounted F split (go later).reports)
      → AllCounted F split (tick s go).reports
  counted_tick s go k = counted_if (s.budget == 0) _ _ (λ e. tt) (λ e. k _)

  -- values that are defined together
  pub definitions_counted : (ns : List Number) (at end : ℕ) (env : List Binding) (around : List Iteration)
      → at + length ns ≤ end → Allowed F split at end around → AllCounted F split (definitions at ns around env)
  definitions_counted [] at end env around many h = tt
  definitions_counted (n ∷ ns) at end env around many h = (
    h.counted at (omega arith) (omega (arith, many)),
    definitions_counted ns (at + 1) end _ around (omega (arith, many))
        (allowed_part at end (at + 1) end around (omega arith) (omega arith) h),
  )

  -- ---- operations without regions

  module _ (at : ℕ) (results : List IrType) (env : List Binding) (around : List Iteration)
      (h : Allowed F split at (at + length results) around) where
    results_counted : (vs : List ℕ) → AllCounted F split (definitions at (numbers_at results vs) around env)
    results_counted vs =
        let few = numbers_few results vs in
        definitions_counted (numbers_at results vs) at (at + length results) env around (omega (arith, few)) h
      where
        numbers_few : (tys : List IrType) (vs : List ℕ) → length (numbers_at tys vs) ≤ length tys
        numbers_few [] vs = omega arith
        numbers_few (ty ∷ tys) [] = omega arith
        numbers_few (ty ∷ tys) (v ∷ vs) = let few = numbers_few tys vs in omega (arith, few)

    gives_counted : (s : State) (o : Option ℕ) → AllCounted F split (gives at results around env s o).reports
    gives_counted s None = tt
    gives_counted s (Some v) = results_counted (v ∷ [])

    answers_counted : (s : State) → AllCounted F split (answers at results around env s).reports
    answers_counted s = counted_if (nat_lt (length s.replies) (length results)) (stops Starved s)
        (defines at (numbers_at results s.replies) around env
        (record s { replies = drop (length results) s.replies }))
        (λ e. tt) (λ e. results_counted s.replies)

    pub simple_counted : (does : SimpleOp) (s : State)
        → AllCounted F split (run_simple at results around env s does).reports
    simple_counted (Const v) s = gives_counted s (computed env (result_bits results) (Const v))
    simple_counted (Bin op flags a b) s = gives_counted s (computed env (result_bits results) (Bin op flags a b))
    simple_counted (Cast op flags a) s = gives_counted s (computed env (result_bits results) (Cast op flags a))
    simple_counted (Cmp pred a b) s = gives_counted s (computed env (result_bits results) (Cmp pred a b))
    simple_counted (Select c a b) s = gives_counted s (computed env (result_bits results) (Select c a b))
    simple_counted (Call func passed) s =
        counted_tick s (λ s1. answers at results around env
        (record s1 { trace = s1.trace ++ record { callee = func; args = numbers_of env passed } ∷ [] }))
        (λ s1. answers_counted (record
        s1 { trace = s1.trace ++ record { callee = func; args = numbers_of env passed } ∷ [] }))

-- ---- numbers

pub numbers_length : (env : List Binding) (ls : List Label) → length (numbers_of env ls) ≡ length ls
numbers_length env [] = refl
numbers_length env (l ∷ ls) = let e = numbers_length env ls in omega (arith, e)

pub any_end : (e : End) → Ends e (λ w. Unit {0})
any_end (Done env s) = tt
any_end (Stopped stop trace) = tt
