-- Operations that keep the limits, where so much of them is left.
use Rattle.std.specs.Prelude.{ℕ, ◌≡◌, ◌+◌, ◌≤◌, List}
use Rattle.mlir_ir.specs.Operations.{OpKind, OpList, labels_of, inner_labels, count_of, inner_count}
use Rattle.mlir_ir.specs.Sized.{region_depth, inner_depth, loop_depth, inner_loops, SizedOps, SizedRegions, SizedItem, SizedItems, items_count}
use Rattle.pass_chain.specs.declared.limits.Left.{Left}
use Rattle.pass_chain.specs.declared.limits.Room.{Room}

-- operations that keep the limits, where so many regions and loops may be opened, and so many operations and labels are left
pub record Keeps (room : Room) (left : Left) (ops : OpList) : Type 0 where
  pub sized : SizedOps ops
  pub regions_fit : region_depth ops ≤ room.regions
  pub loops_fit : loop_depth ops ≤ room.loops
  pub few : count_of ops ≤ left.ops
  pub few_labels : labels_of ops ≤ left.labels

-- the same of what stands inside an operation
pub record KeepsInside (room : Room) (left : Left) (kind : OpKind) : Type 0 where
  pub sized : SizedRegions kind
  pub regions_fit : inner_depth kind ≤ room.regions
  pub loops_fit : inner_loops kind ≤ room.loops
  pub few : inner_count kind ≤ left.ops
  pub few_labels : inner_labels kind ≤ left.labels

-- what is left behind so many operations and labels
pub record IsLeftBehind (n m : ℕ) (left rest : Left) : Type 0 where
  pub ops : rest.ops + n ≡ left.ops
  pub labels : rest.labels + m ≡ left.labels

-- they keep the limits, and that is left behind them
pub record AreKept (room : Room) (left : Left) (list : OpList) (rest : Left) : Type 0 where
  pub keep : Keeps room left list
  pub behind : IsLeftBehind (count_of list) (labels_of list) left rest

pub record IsKept (room : Room) (left : Left) (kind : OpKind) (rest : Left) : Type 0 where
  pub keeps : KeepsInside room left kind
  pub behind : IsLeftBehind (inner_count kind) (inner_labels kind) left rest

-- an item that keeps the limits, where so many operations are left
pub record KeepsItem (ops : ℕ) (list : OpList) : Type 0 where
  pub sized : SizedItem list
  pub few : count_of list ≤ ops

pub record KeepsItems (ops : ℕ) (items : List OpList) : Type 0 where
  pub sized : SizedItems items
  pub few : items_count items ≤ ops
