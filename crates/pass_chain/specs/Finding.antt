-- What a search for an `scf.for` finds.
use Rattle.std.specs.Prelude.{ℕ, ◌≡◌, ◌+◌, Bool, true, false, Option, Some, None, List}
use Rattle.mlir_ir.specs.Operations.{OpKind, For, OpList, labels_of, inner_labels}
use Rattle.pass_copy.specs.Replaced.{Operation, StandsIn, StandsInside, StandsInItems}
use Rattle.pass_chain.specs.Plans.{HasBounds}
use Rattle.pass_chain.specs.declared.bounds.Bounds.{Bounds}

abbrev pub is_for : OpKind → Bool
is_for (For lower upper step iv args inits body ends) = true
is_for _ = false

-- an `scf.for` with these bounds begins with label t in operations of which the first begins with label `at`, or none does
abbrev pub IsThere : ℕ → ℕ → OpList → Bounds → Type 0
IsThere t at ops b = (o : Operation) × HasBounds b o.kind × StandsIn t o at ops

abbrev pub IsNowhere : ℕ → ℕ → OpList → Type 0
IsNowhere t at ops = (o : Operation) → is_for o.kind ≡ true → StandsIn t o at ops → ⊥

-- those of an `scf.for` with label t in operations of which the first begins with label `at`, or the label behind them
abbrev pub FindsInOps : ℕ → ℕ → OpList → ℕ → Option Bounds → Type 0
FindsInOps t at ops behind (Some b) = (o : Operation) × HasBounds b o.kind × StandsIn t o at ops
FindsInOps t at ops behind None =
    ((o : Operation) → is_for o.kind ≡ true → StandsIn t o at ops → ⊥) × (behind ≡ at + labels_of ops)

-- the same in the regions of an operation
abbrev pub FindsInKind : ℕ → ℕ → OpKind → ℕ → Option Bounds → Type 0
FindsInKind t at kind behind (Some b) = (o : Operation) × HasBounds b o.kind × StandsInside t o at kind
FindsInKind t at kind behind None =
    ((o : Operation) → is_for o.kind ≡ true → StandsInside t o at kind → ⊥) × (behind ≡ at + inner_labels kind)

-- and in the items of a function
abbrev pub FindsInItems : ℕ → ℕ → List OpList → Option Bounds → Type 0
FindsInItems t func items (Some b) = (o : Operation) × HasBounds b o.kind × StandsInItems t o func 1 items
FindsInItems t func items None = (o : Operation) → is_for o.kind ≡ true → StandsInItems t o func 1 items → ⊥
