-- The type of a value where a loop begins, as a search for the loop finds it.
use Rattle.std.specs.Prelude.{ℕ, ◌≡◌, ◌+◌, ◌<◌, List, Option}
use Rattle.std.specs.Option.{option_or}
use Rattle.mlir_ir.specs.Operations.{OpKind, OpList, labels_of, inner_labels}
use Rattle.mlir_ir.specs.Typed.{Types, types_after}
use Rattle.mlir_ir.specs.declared.types.IrType.{IrType}
use Rattle.pass_copy.specs.Scopes.{ScopeIn, ScopeInside, ScopeInItems}
use Rattle.pass_copy.specs.declared.scope_search.Search.{Search}
use Rattle.pass_copy.specs.declared.scope_search.Search.TheVariants.{Within, Behind}

-- the value x has type ty in a scope
abbrev pub Gives : ℕ → Option IrType → Types → Type 0
Gives x ty T = T x ≡ ty

-- the scope of the loop with label t gives x the type ty, in operations whose scope gives it `known`; the loop begins `left` labels behind their first
abbrev pub GivesIn : ℕ → ℕ → Option IrType → ℕ → OpList → Option IrType → Type 0
GivesIn t x known left ops ty = (T : Types) (at : ℕ) → T x ≡ known → at + left ≡ t → ScopeIn t (Gives x ty) T at ops

-- the same in the regions of an operation
abbrev pub GivesInside : ℕ → ℕ → Option IrType → ℕ → OpKind → Option IrType → Type 0
GivesInside t x known left kind ty = (T : Types) (at : ℕ) → T x ≡ known → at + left ≡ t → ScopeInside t (Gives x ty) T at kind

-- and in items from number k on
abbrev pub GivesInItems : ℕ → ℕ → Option IrType → ℕ → ℕ → List OpList → Option IrType → Type 0
GivesInItems t x known func k items ty = (T : Types) → T x ≡ known → ScopeInItems t (Gives x ty) T func k items

-- what a search finds in operations
abbrev pub Finds : ℕ → ℕ → Option IrType → ℕ → OpList → Search → Type 0
Finds t x known left ops (Within ty) = (left < labels_of ops) × GivesIn t x known left ops ty
Finds t x known left ops (Behind rest) = rest + labels_of ops ≡ left

-- and in the regions of an operation
abbrev pub FindsInside : ℕ → ℕ → Option IrType → ℕ → OpKind → Search → Type 0
FindsInside t x known left kind (Within ty) = (left < inner_labels kind) × GivesInside t x known left kind ty
FindsInside t x known left kind (Behind rest) = rest + inner_labels kind ≡ left

-- the type of x behind operations, in a scope that gives it the type `known` in front of them
abbrev pub IsTypeBehind : ℕ → Option IrType → ℕ → OpList → Option IrType → Type 0
IsTypeBehind x known at ops ty = (T : Types) → T x ≡ known → types_after T at ops x ≡ ty

-- the type that operations themselves give the label that comes `left` labels behind their first
abbrev pub IsTopType : ℕ → OpList → Option IrType → Type 0
IsTopType left ops ty = (T : Types) (at x : ℕ) → at + left ≡ x → types_after T at ops x ≡ option_or (T x) ty
