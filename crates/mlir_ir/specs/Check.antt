-- The breaks of a function's form in the order of its text, and so of their labels.
use Rattle.std.specs.Prelude.{ℕ, ◌≡◌, ◌+◌, ◌-◌, ◌==◌, ◌&&◌, Bool, true, false, List, [], ◌∷◌, ◌++◌, length, drop, nat_le, Option, None, Some, if◌then◌else◌}
use Rattle.arith_word.specs.declared.label.Label.{Label}
use Rattle.mlir_ir.specs.declared.shape.Shape.{Shape}
use Rattle.mlir_ir.specs.declared.shape.ShapeFault.{ShapeFault}
use Rattle.mlir_ir.specs.declared.shape.ShapeFault.TheVariants.{Use, WrongType, Count, Size}
use Rattle.mlir_ir.specs.declared.types.Arg.{Arg}
use Rattle.mlir_ir.specs.declared.types.Body.{Body}
use Rattle.mlir_ir.specs.declared.types.Func.{Func}
use Rattle.mlir_ir.specs.declared.types.IrType.{IrType}
use Rattle.mlir_ir.specs.declared.types.Item.{Item}
use Rattle.mlir_ir.specs.declared.types.Region.{Region, Region', Row_of-Op, end_of-Op, more_of-Op}
use Rattle.mlir_ir.specs.declared.types.Op.{Op}
use Rattle.mlir_ir.specs.declared.types.Kind.{Kind, If', For, While, Held-Kind-If-2, None', Some'}
use Rattle.mlir_ir.specs.declared.types.ForParts.{ForParts, ForParts'}
use Rattle.mlir_ir.specs.declared.types.WhileParts.{WhileParts, WhileParts'}
use Rattle.mlir_ir.specs.declared.rules.Nest.{Nest}
use Rattle.mlir_ir.specs.declared.rules.Position.{Position}
use Rattle.mlir_ir.specs.declared.rules.Rules.{Rules}
use Rattle.arith_word.specs.Labels.{label_at}
use Rattle.mlir_ir.specs.Labels.{row_labels, region_labels, kind_labels, op_labels, ops_labels}
use Rattle.mlir_ir.specs.Limits.{item_limit, label_limit, region_limit}
use Rattle.mlir_ir.specs.Values.{Value, arg_values, result_values}
use Rattle.mlir_ir.specs.Within.{ops_labels_within}
use Rattle.mlir_ir.specs.Rules.{op_rules, arg_rules, head_rules, yield_rules, turn_rules, condition_rules, return_rules, arg_types}

-- how many operations there are
abbrev mutual
  pub row_ops : {m : _} → Row_of-Op m → ℕ
  row_ops end_of-Op = 0
  row_ops (more_of-Op packs results kind rest) = 1 + kind_ops kind + row_ops rest

  -- inside an operation
  pub kind_ops : Kind → ℕ
  kind_ops (If' c first other) = region_ops first + else_ops other
  kind_ops (For parts) = for_ops parts
  kind_ops (While parts) = while_ops parts
  kind_ops _ = 0

  pub region_ops : Region → ℕ
  region_ops (Region' shape row ends) = row_ops row

  pub else_ops : Held-Kind-If-2 → ℕ
  else_ops None' = 0
  else_ops (Some' region) = region_ops region

  pub for_ops : ForParts → ℕ
  for_ops (ForParts' lower upper step iv args inits body) = region_ops body

  pub while_ops : WhileParts → ℕ
  while_ops (WhileParts' args inits before cond after_args after) = region_ops before + region_ops after

abbrev pub ops_ops : List Op → ℕ
ops_ops [] = 0
ops_ops (op ∷ ops) = 1 + kind_ops op.kind + ops_ops ops

-- the results of operations, of which the first begins with that label; values inside them aren't among these
abbrev pub row_results : {m : _} → ℕ → Row_of-Op m → List Value
row_results at end_of-Op = []
row_results at (more_of-Op packs results kind rest) = result_values (at + kind_labels kind) packs results ++ row_results (at + kind_labels kind + length results) rest

abbrev pub op_results : ℕ → Op → List Value
op_results at op = result_values (at + kind_labels op.kind) op.packs op.results

abbrev pub results_of : ℕ → List Op → List Value
results_of at [] = []
results_of at (op ∷ ops) = op_results at op ++ results_of (at + op_labels op) ops

abbrev pub items_results : ℕ → ℕ → List Item → List Value
items_results func k [] = []
items_results func k (item ∷ items) = results_of (label_at func k 0) item.ops ++ items_results func (k + 1) items

-- a break with that label, unless the rule is kept
abbrev pub unless : Bool → ℕ → ShapeFault → List Shape
unless kept at fault = if kept then [] else record { at = record { 0 = at }; fault = fault } ∷ []

-- the breaks of one place, before which `at` is the last label, in their order
abbrev pub breaks_at : ℕ → Rules → List Shape
breaks_at at rules = unless rules.in_scope at Use ++ unless rules.typed at WrongType ++ unless rules.counted at Count ++ unless rules.sized at Size

-- the position past that many labels and operations more
abbrev pub past : ℕ → ℕ → Position → Position
past labels ops at = record { next = at.next + labels; last = if labels == 0 then at.last else at.next + labels - 1; ops = at.ops + ops }

abbrev pub past_args : List Arg → Position → Position
past_args args at = past (length args) 0 at

abbrev pub past_region : Region → Position → Position
past_region region at = past (region_labels region) (region_ops region) at

abbrev pub past_row : {m : _} → Row_of-Op m → Position → Position
past_row row at = past (row_labels row) (row_ops row) at

-- past what stands inside an operation
abbrev pub past_kind : Kind → Position → Position
past_kind kind at = past (kind_labels kind) (kind_ops kind) at

abbrev pub past_op : Op → Position → Position
past_op op at = past (op_labels op) (1 + kind_ops op.kind) at

abbrev pub past_ops : List Op → Position → Position
past_ops ops at = past (ops_labels ops) (ops_ops ops) at

-- the regions of an `scf.if`, and those of a loop
abbrev pub opened : Nest → Nest
opened nest = record nest { regions = nest.regions + 1 }

abbrev pub looped : Nest → Nest
looped nest = record nest { regions = nest.regions + 1; loops = nest.loops + 1 }

-- arguments, number n of a list the first; types that they have to have; in a declaration names may be missing
abbrev pub args_breaks : Bool → ℕ → List IrType → List Value → Position → List Arg → List Shape
args_breaks declared n wanted scope at [] = []
args_breaks declared n wanted scope at (arg ∷ args) =
    breaks_at at.last (arg_rules declared n wanted scope arg)
    ++ args_breaks declared (n + 1) (drop 1 wanted) (scope ++ arg_values at.next (arg ∷ [])) (past 1 0 at) args

unfoldable mutual
  -- operations of a region, with the values in scope
  pub row_breaks : {m : _} → List Value → Nest → Position → Row_of-Op m → List Shape
  row_breaks scope nest at end_of-Op = []
  row_breaks scope nest at (more_of-Op packs results kind rest) =
      breaks_at at.last (op_rules scope nest at packs results kind)
      ++ kind_breaks scope nest (past 0 1 at) results kind
      ++ row_breaks (scope ++ result_values (at.next + kind_labels kind) packs results) nest (past (kind_labels kind + length results) (1 + kind_ops kind) at) rest

  -- inside an operation
  pub kind_breaks : List Value → Nest → Position → List IrType → Kind → List Shape
  kind_breaks scope nest at results (If' c first other) =
      arm_breaks scope (opened nest) at results first ++ else_breaks scope (opened nest) (past_region first at) results other
  kind_breaks scope nest at results (For parts) = for_breaks scope (looped nest) (past 1 0 at) results parts
  kind_breaks scope nest at results (While parts) = while_breaks scope (looped nest) (past 1 0 at) results parts
  kind_breaks scope nest at results _ = []

  -- a region with a yield of values of these types
  pub arm_breaks : List Value → Nest → Position → List IrType → Region → List Shape
  arm_breaks scope nest at wanted (Region' shape row ends) =
      row_breaks scope nest at row ++ breaks_at (past_row row at).last (yield_rules (scope ++ row_results at.next row) wanted ends)

  pub else_breaks : List Value → Nest → Position → List IrType → Held-Kind-If-2 → List Shape
  else_breaks scope nest at wanted None' = []
  else_breaks scope nest at wanted (Some' region) = arm_breaks scope nest at wanted region

  -- behind a loop's counter
  pub for_breaks : List Value → Nest → Position → List IrType → ForParts → List Shape
  for_breaks scope nest at results (ForParts' lower upper step iv args inits body) =
      let with_iv = scope ++ arg_values at.next (iv ∷ []) in
      let behind_iv = past 1 0 at in
      args_breaks false 0 [] scope at (iv ∷ [])
      ++ args_breaks false 0 [] with_iv behind_iv args
      ++ arm_breaks (with_iv ++ arg_values behind_iv.next args) nest (past_args args behind_iv) results body

  pub while_breaks : List Value → Nest → Position → List IrType → WhileParts → List Shape
  while_breaks scope nest at results (WhileParts' args inits before cond after_args after) =
      let in_before = past_args args at in
      let behind_before = past_region before in_before in
      args_breaks false 0 [] scope at args
      ++ before_breaks (scope ++ arg_values at.next args) nest in_before results cond before
      ++ args_breaks false 0 results scope behind_before after_args
      ++ turn_breaks (scope ++ arg_values behind_before.next after_args) nest (past_args after_args behind_before) (arg_types args) after

  -- the region before a turn, which ends with its condition
  pub before_breaks : List Value → Nest → Position → List IrType → Label → Region → List Shape
  before_breaks scope nest at results cond (Region' shape row ends) =
      row_breaks scope nest at row ++ breaks_at (past_row row at).last (condition_rules (scope ++ row_results at.next row) results cond ends)

  -- the region of a turn
  pub turn_breaks : List Value → Nest → Position → List IrType → Region → List Shape
  turn_breaks scope nest at wanted (Region' shape row ends) =
      row_breaks scope nest at row ++ breaks_at (past_row row at).last (turn_rules (scope ++ row_results at.next row) wanted ends)

abbrev pub op_breaks : List Value → Nest → Position → Op → List Shape
op_breaks scope nest at op = breaks_at at.last (op_rules scope nest at op.packs op.results op.kind) ++ kind_breaks scope nest (past 0 1 at) op.results op.kind

abbrev pub ops_breaks : List Value → Nest → Position → List Op → List Shape
ops_breaks scope nest at [] = []
ops_breaks scope nest at (op ∷ ops) = op_breaks scope nest at op ++ ops_breaks (scope ++ op_results at.next op) nest (past_op op at) ops

-- item number k begins with its own labels; one past the limit of items, or with too many labels, breaks at its first operation. Labels count only
-- within the regions that may be open: a region nested deeper breaks its own limit, at the operation that opens it
abbrev pub at_item : ℕ → ℕ → Position → Position
at_item func k at = record at { next = label_at func k 0 }

abbrev pub in_item : ℕ → Item → Nest
in_item k item = record { regions = 1; loops = 0; item_fits = nat_le k item_limit && nat_le (ops_labels_within (region_limit - 1) item.ops) label_limit }

-- the items from number k on
abbrev pub items_breaks : ℕ → ℕ → List Value → Position → List Item → List Shape
items_breaks func k scope at [] = []
items_breaks func k scope at (item ∷ items) =
    ops_breaks scope (in_item k item) (at_item func k at) item.ops
    ++ items_breaks func (k + 1) (scope ++ results_of (label_at func k 0) item.ops) (past_ops item.ops (at_item func k at)) items

abbrev pub past_items : ℕ → ℕ → List Item → Position → Position
past_items func k [] at = at
past_items func k (item ∷ items) at = past_items func (k + 1) items (past_ops item.ops (at_item func k at))

abbrev pub func_begin : Func → Position
func_begin f = record { next = label_at f.index 0 0; last = label_at f.index 0 0; ops = 0 }

abbrev pub is_declaration : Option Body → Bool
is_declaration None = true
is_declaration (Some body) = false

-- the values that a function defines outside the regions of its operations
abbrev pub outer_values : Func → List Item → List Value
outer_values f items = arg_values (label_at f.index 0 0) f.args ++ items_results f.index 1 items

abbrev pub body_breaks : Func → Option Body → List Shape
body_breaks f None = []
body_breaks f (Some body) =
    let begin = past_args f.args (func_begin f) in
    items_breaks f.index 1 (arg_values (label_at f.index 0 0) f.args) begin body.items
    ++ breaks_at (past_items f.index 1 body.items begin).last (return_rules (outer_values f body.items) f.results (length body.items) body.ret)

-- all breaks of a function
abbrev pub breaks : Func → List Shape
breaks f =
    breaks_at (func_begin f).last (head_rules f)
    ++ args_breaks (is_declaration f.body) 0 [] [] (func_begin f) f.args
    ++ body_breaks f f.body

abbrev pub IsWellFormed : Func → Type 0
IsWellFormed f = breaks f ≡ []

-- the first break
abbrev pub first : List Shape → Option Shape
first [] = None
first (break ∷ rest) = Some break
