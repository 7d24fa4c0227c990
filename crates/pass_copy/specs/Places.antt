-- Loops by their labels, as programs find them.
use Rattle.std.specs.Prelude.{ℕ, ◌≡◌, Bool, true, false}
use Rattle.mlir_ir.specs.declared.types.Op.{Op}
use Rattle.mlir_ir.specs.Operations.{OpKind, For, OpList}
use Rattle.mlir_ir.specs.View.{view_kind}
use Rattle.mlir_ir.specs.View.{view_ops}
use Rattle.pass_copy.specs.Renaming.{renamed}
use Rattle.pass_copy.specs.Replaced.{Operation, is_loop, StandsIn, StandsInside, replaced, replaced_inside}
use Rattle.pass_copy.specs.declared.places.Wanted.{Wanted}
use Rattle.pass_copy.specs.declared.places.Wanted.TheVariants.{Fors, Loops}
use Rattle.pass_copy.specs.declared.replacing.Change.{Change}

abbrev pub operation_in : Op → Operation
operation_in op = record { packs = op.packs; results = op.results; kind = view_kind op.kind }

abbrev pub is_for : OpKind → Bool
is_for (For lower upper step iv args inits body ends) = true
is_for _ = false

-- the loops that are sought
abbrev pub is_wanted : Wanted → OpKind → Bool
is_wanted Fors = is_for
is_wanted Loops = is_loop

-- no loop that is sought begins with label t in operations of which the first begins with label `at`
abbrev pub NoneStands : Wanted → ℕ → ℕ → OpList → Type 0
NoneStands wanted t at ops = (o : Operation) → is_wanted wanted o.kind ≡ true → StandsIn t o at ops → ⊥

abbrev pub NoneInside : Wanted → ℕ → ℕ → OpKind → Type 0
NoneInside wanted t at kind = (o : Operation) → is_wanted wanted o.kind ≡ true → StandsInside t o at kind → ⊥

-- one that is sought begins with label t in operations, and in an operation
abbrev pub IsWantedIn : Wanted → ℕ → Operation → ℕ → OpList → Type 0
IsWantedIn wanted t o at ops = (is_wanted wanted o.kind ≡ true) × StandsIn t o at ops

abbrev pub IsWantedInside : Wanted → ℕ → Operation → ℕ → OpKind → Type 0
IsWantedInside wanted t o at kind = (is_wanted wanted o.kind ≡ true) × StandsInside t o at kind

-- operations in the child, of which the first begins with label `at` in the parent
abbrev pub ops_in : Change → ℕ → OpList → OpList
ops_in change = replaced (renamed change.map.now.spans.items) change.target.0 (view_ops change.others.now)

-- and what an operation does
abbrev pub inside : Change → ℕ → OpKind → OpKind
inside change = replaced_inside (renamed change.map.now.spans.items) change.target.0 (view_ops change.others.now)
