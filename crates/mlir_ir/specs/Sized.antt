-- Functions within the limits: of names, lists, operations, items, the labels of an item, open regions and loops.
use Rattle.std.specs.Prelude.{ℕ, ◌≡◌, ◌+◌, ◌≤◌, true, List, [], ◌∷◌, length, max}
use Rattle.std.specs.List.{list_all}
use Rattle.mlir_ir.specs.declared.types.Arg.{Arg}
use Rattle.mlir_ir.specs.declared.types.IrType.{IrType}
use Rattle.mlir_ir.specs.declared.types.Pack.{Pack}
use Rattle.mlir_ir.specs.Operations.{Call, OpKind, Simple, If, For, While, OpList, nil, next, labels_of, count_of}
use Rattle.mlir_ir.specs.Limits.{arg_limit, result_limit, op_limit, item_limit, label_limit, region_limit, loop_limit}
use Rattle.mlir_ir.specs.Rules.{is_short}

-- how deep regions are nested
abbrev mutual
  pub region_depth : OpList → ℕ
  region_depth nil = 0
  region_depth (next packs results kind rest) = max (inner_depth kind) (region_depth rest)

  pub inner_depth : OpKind → ℕ
  inner_depth (Simple does) = 0
  inner_depth (If c first firsts has_else other others) = 1 + max (region_depth first) (region_depth other)
  inner_depth (For lower upper step iv args inits body ends) = 1 + region_depth body
  inner_depth (While args inits before passed cond after_args after ends) = 1 + max (region_depth before) (region_depth after)

-- how deep loops are nested
abbrev mutual
  pub loop_depth : OpList → ℕ
  loop_depth nil = 0
  loop_depth (next packs results kind rest) = max (inner_loops kind) (loop_depth rest)

  pub inner_loops : OpKind → ℕ
  inner_loops (Simple does) = 0
  inner_loops (If c first firsts has_else other others) = max (loop_depth first) (loop_depth other)
  inner_loops (For lower upper step iv args inits body ends) = 1 + loop_depth body
  inner_loops (While args inits before passed cond after_args after ends) = 1 + max (loop_depth before) (loop_depth after)

-- the operands that a call passes
abbrev pub passed_count : OpKind → ℕ
passed_count (Simple (Call func passed)) = length passed
passed_count _ = 0

pub record SizedArgs (args : List Arg) : Type 0 where
  pub short : list_all (λ (arg : Arg). is_short arg.name) args ≡ true
  pub few : length args ≤ arg_limit

-- an operation by itself, without what stands in its regions
pub record SizedOp (packs : List Pack) (results : List IrType) (kind : OpKind) : Type 0 where
  pub short : list_all (λ (pack : Pack). is_short pack.name) packs ≡ true
  pub few : length results ≤ result_limit
  pub few_passed : passed_count kind ≤ arg_limit

-- names and lists, wherever they stand
abbrev mutual
  pub SizedOps : OpList → Type 0
  SizedOps nil = Unit {0}
  SizedOps (next packs results kind rest) = SizedOp packs results kind × SizedRegions kind × SizedOps rest

  pub SizedRegions : OpKind → Type 0
  SizedRegions (Simple does) = Unit {0}
  SizedRegions (If c first firsts has_else other others) = SizedOps first × SizedOps other
  SizedRegions (For lower upper step iv args inits body ends) = SizedArgs (iv ∷ []) × SizedArgs args × SizedOps body
  SizedRegions (While args inits before passed cond after_args after ends) = SizedArgs args × SizedOps before × SizedArgs after_args × SizedOps after

-- an item, which stands in one region, the function's
pub record SizedItem (ops : OpList) : Type 0 where
  pub labels : labels_of ops ≤ label_limit
  pub regions : 1 + region_depth ops ≤ region_limit
  pub loops : loop_depth ops ≤ loop_limit
  pub inside : SizedOps ops

abbrev pub SizedItems : List OpList → Type 0
SizedItems [] = Unit {0}
SizedItems (ops ∷ items) = SizedItem ops × SizedItems items

abbrev pub items_count : List OpList → ℕ
items_count [] = 0
items_count (ops ∷ items) = count_of ops + items_count items

pub record SizedBody (items : List OpList) : Type 0 where
  pub few : length items ≤ item_limit
  pub few_ops : items_count items ≤ op_limit
  pub inside : SizedItems items
