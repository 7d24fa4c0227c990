-- Iterations stay below trip counts: where a loop makes n iterations, no value is defined and no
-- operation is reached behind its test in iteration n or later, nor in front of its test in a later
-- one.
use Rattle.std.specs.Prelude.{ℕ, ◌≡◌, ◌+◌, ◌<◌, ◌≤◌, nat_le, nat_lt, Bool, true, false, List, [], ◌∷◌, length}
use Rattle.arith_word.specs.Labels.{label_at}
use Rattle.mlir_ir.specs.Operations.{OpKind, Simple, If, For, While, OpList, nil, next, labels_of, inner_labels}
use Rattle.mlir_ir.specs.Runs.{Iteration, Report, arrived, defined, left}
use Rattle.trip_count.specs.declared.answer.Turns.{Turns}
use Rattle.trip_count.specs.declared.answer.Turns.TheVariants.{Count}
use Rattle.fresh_scev.specs.Facts.{Facts}

-- in iteration k of a loop with that trip count, in front of its test or behind it
abbrev pub IsCounted : Turns → Bool → ℕ → Type 0
IsCounted (Count n) true k = k ≤ n
IsCounted (Count n) false k = k < n
IsCounted _ front k = Unit {0}

-- an operation that begins with that label is reached in these iterations; by loop, it is behind
-- the test where its label is behind the label `split`, which one that takes no label may have in
-- front of the test
abbrev pub AreReached : Facts → (ℕ → ℕ) → ℕ → List Iteration → Type 0
AreReached F split at [] = Unit {0}
AreReached F split at (i ∷ around) =
    IsCounted (F.turns i.loop) (nat_le at (split i.loop)) i.turn × AreReached F split at around

-- a value with that label is defined in these iterations; by loop, what is behind its test begins
-- with the label `split`
abbrev pub AreCounted : Facts → (ℕ → ℕ) → ℕ → List Iteration → Type 0
AreCounted F split label [] = Unit {0}
AreCounted F split label (i ∷ around) =
    IsCounted (F.turns i.loop) (nat_lt label (split i.loop)) i.turn
    × AreCounted F split label around

-- the iterations of a report are below the trip counts
abbrev pub StaysCounted : Facts → (ℕ → ℕ) → Report → Type 0
StaysCounted F split (arrived at env around) = AreReached F split at around
StaysCounted F split (defined label n env around) = AreCounted F split label around
StaysCounted F split (left loop turns env around) = AreCounted F split loop around

abbrev pub AllCounted : Facts → (ℕ → ℕ) → List Report → Type 0
AllCounted F split [] = Unit {0}
AllCounted F split (r ∷ reports) = StaysCounted F split r × AllCounted F split reports

abbrev mutual
  -- by loop of these operations, from a label on, the label with which what is behind its test
  -- begins
  pub IsSplit : (ℕ → ℕ) → OpList → ℕ → Type 0
  IsSplit split nil at = Unit {0}
  IsSplit split (next packs results kind rest) at =
      IsSplitIn split kind at × IsSplit split rest (at + (inner_labels kind + length results))

  pub IsSplitIn : (ℕ → ℕ) → OpKind → ℕ → Type 0
  IsSplitIn split (Simple does) at = Unit {0}
  IsSplitIn split (If c first firsts has_else other others) at =
      IsSplit split first at × IsSplit split other (at + labels_of first)
  IsSplitIn split (For lower upper step iv args inits body ends) at =
      (split at ≡ at + 1) × IsSplit split body (at + 2 + length args)
  IsSplitIn split (While args inits before passed cond after_args after ends) at =
      let in_before = at + 1 + length args in
      let params = in_before + labels_of before in
      (split at ≡ params) × IsSplit split before in_before
      × IsSplit split after (params + length after_args)

-- the same of the items of a function from number k on
abbrev pub IsSplitOf : (ℕ → ℕ) → ℕ → ℕ → List OpList → Type 0
IsSplitOf split func k [] = Unit {0}
IsSplitOf split func k (ops ∷ items) =
    IsSplit split ops (label_at func k 0) × IsSplitOf split func (k + 1) items
