-- The places of a function at which `check` asks rules, in the order of the text, each with the values in scope there.
use Rattle.std.specs.Prelude.{ℕ, ◌≤◌, ◌+◌, Bool, false, List, [], ◌∷◌, ◌++◌, length, drop, Option, Some, None, IfSome}
use Rattle.std.specs.List.{All, AllPairs, Contains}
use Rattle.arith_word.specs.declared.label.Label.{Label}
use Rattle.mlir_ir.specs.declared.shape.Shape.{Shape}
use Rattle.mlir_ir.specs.declared.types.Arg.{Arg}
use Rattle.mlir_ir.specs.declared.types.Body.{Body}
use Rattle.mlir_ir.specs.declared.types.Func.{Func}
use Rattle.mlir_ir.specs.declared.types.IrType.{IrType}
use Rattle.mlir_ir.specs.declared.types.Item.{Item}
use Rattle.mlir_ir.specs.declared.types.Region.{Region, Region', Row_of-Op, end_of-Op, more_of-Op}
use Rattle.mlir_ir.specs.declared.types.Op.{Op}
use Rattle.mlir_ir.specs.declared.types.Kind.{Kind, If', For, While, Held-Kind-If-2, None', Some'}
use Rattle.mlir_ir.specs.declared.types.ForParts.{ForParts, ForParts'}
use Rattle.mlir_ir.specs.declared.types.WhileParts.{WhileParts, WhileParts'}
use Rattle.mlir_ir.specs.declared.rules.Nest.{Nest}
use Rattle.mlir_ir.specs.declared.rules.Position.{Position}
use Rattle.mlir_ir.specs.declared.rules.Rules.{Rules}
use Rattle.arith_word.specs.Labels.{label_at}
use Rattle.mlir_ir.specs.Labels.{kind_labels, ops_labels}
use Rattle.mlir_ir.specs.Values.{Value, arg_values, result_values}
use Rattle.mlir_ir.specs.Limits.{label_limit}
use Rattle.mlir_ir.specs.Rules.{op_rules, arg_rules, head_rules, yield_rules, turn_rules, condition_rules, return_rules, arg_types}
use Rattle.mlir_ir.specs.Check.{breaks_at, past, past_args, past_region, past_row, past_op, past_ops, opened, looped, kind_ops, row_results, op_results, results_of, at_item, in_item, past_items, func_begin, is_declaration, outer_values}

-- a place: the last label that is given before it, the values in scope, and the rules that it keeps under a scope
pub record Place : Type 0 where
  pub last : ℕ
  pub scope : List Value
  pub rules : List Value → Rules

abbrev pub place : ℕ → List Value → (List Value → Rules) → Place
place last scope rules = record { last = last; scope = scope; rules = rules }

abbrev pub place_breaks : List Place → List Shape
place_breaks [] = []
place_breaks (p ∷ ps) = breaks_at p.last (p.rules p.scope) ++ place_breaks ps

abbrev pub args_places : Bool → ℕ → List IrType → List Value → Position → List Arg → List Place
args_places declared n wanted scope at [] = []
args_places declared n wanted scope at (arg ∷ args) =
    place at.last scope (λ s. arg_rules declared n wanted s arg)
    ∷ args_places declared (n + 1) (drop 1 wanted) (scope ++ arg_values at.next (arg ∷ [])) (past 1 0 at) args

-- behind the operations of a region, its terminator
abbrev pub end_place : {m : _} → List Value → Position → Row_of-Op m → (List Value → Rules) → Place
end_place scope at row rules = place (past_row row at).last (scope ++ row_results at.next row) rules

abbrev mutual
  pub row_places : {m : _} → List Value → Nest → Position → Row_of-Op m → List Place
  row_places scope nest at end_of-Op = []
  row_places scope nest at (more_of-Op packs results kind rest) =
      (place at.last scope (λ s. op_rules s nest at packs results kind) ∷ kind_places scope nest (past 0 1 at) results kind)
      ++ row_places (scope ++ result_values (at.next + kind_labels kind) packs results) nest (past (kind_labels kind + length results) (1 + kind_ops kind) at) rest

  pub kind_places : List Value → Nest → Position → List IrType → Kind → List Place
  kind_places scope nest at results (If' c first other) =
      arm_places scope (opened nest) at results first ++ else_places scope (opened nest) (past_region first at) results other
  kind_places scope nest at results (For parts) = for_places scope (looped nest) (past 1 0 at) results parts
  kind_places scope nest at results (While parts) = while_places scope (looped nest) (past 1 0 at) results parts
  kind_places scope nest at results _ = []

  pub arm_places : List Value → Nest → Position → List IrType → Region → List Place
  arm_places scope nest at wanted (Region' shape row ends) = row_places scope nest at row ++ end_place scope at row (λ s. yield_rules s wanted ends) ∷ []

  pub else_places : List Value → Nest → Position → List IrType → Held-Kind-If-2 → List Place
  else_places scope nest at wanted None' = []
  else_places scope nest at wanted (Some' region) = arm_places scope nest at wanted region

  pub for_places : List Value → Nest → Position → List IrType → ForParts → List Place
  for_places scope nest at results (ForParts' lower upper step iv args inits body) =
      let with_iv = scope ++ arg_values at.next (iv ∷ []) in
      let behind_iv = past 1 0 at in
      args_places false 0 [] scope at (iv ∷ [])
      ++ args_places false 0 [] with_iv behind_iv args
      ++ arm_places (with_iv ++ arg_values behind_iv.next args) nest (past_args args behind_iv) results body

  pub while_places : List Value → Nest → Position → List IrType → WhileParts → List Place
  while_places scope nest at results (WhileParts' args inits before cond after_args after) =
      let in_before = past_args args at in
      let behind_before = past_region before in_before in
      args_places false 0 [] scope at args
      ++ before_places (scope ++ arg_values at.next args) nest in_before results cond before
      ++ args_places false 0 results scope behind_before after_args
      ++ turn_places (scope ++ arg_values behind_before.next after_args) nest (past_args after_args behind_before) (arg_types args) after

  pub before_places : List Value → Nest → Position → List IrType → Label → Region → List Place
  before_places scope nest at results cond (Region' shape row ends) = row_places scope nest at row ++ end_place scope at row (λ s. condition_rules s results cond ends) ∷ []

  pub turn_places : List Value → Nest → Position → List IrType → Region → List Place
  turn_places scope nest at wanted (Region' shape row ends) = row_places scope nest at row ++ end_place scope at row (λ s. turn_rules s wanted ends) ∷ []

abbrev pub ops_places : List Value → Nest → Position → List Op → List Place
ops_places scope nest at [] = []
ops_places scope nest at (op ∷ ops) =
    (place at.last scope (λ s. op_rules s nest at op.packs op.results op.kind) ∷ kind_places scope nest (past 0 1 at) op.results op.kind)
    ++ ops_places (scope ++ op_results at.next op) nest (past_op op at) ops

abbrev pub items_places : ℕ → ℕ → List Value → Position → List Item → List Place
items_places func k scope at [] = []
items_places func k scope at (item ∷ items) =
    ops_places scope (in_item k item) (at_item func k at) item.ops
    ++ items_places func (k + 1) (scope ++ results_of (label_at func k 0) item.ops) (past_ops item.ops (at_item func k at)) items

abbrev pub body_places : Func → Option Body → List Place
body_places f None = []
body_places f (Some body) =
    let begin = past_args f.args (func_begin f) in
    items_places f.index 1 (arg_values (label_at f.index 0 0) f.args) begin body.items
    ++ place (past_items f.index 1 body.items begin).last (outer_values f body.items) (λ s. return_rules s f.results (length body.items) body.ret) ∷ []

abbrev pub places : Func → List Place
places f =
    (place (func_begin f).last [] (λ s. head_rules f) ∷ args_places (is_declaration f.body) 0 [] [] (func_begin f) f.args)
    ++ body_places f f.body

-- whatever is in scope at the place is one of these values, with its label, name and type
abbrev pub SeesOnly : List Value → Place → Type 0
SeesOnly values p = All (Contains values) p.scope

-- an item's labels don't run into those of the next
abbrev pub HasFewLabels : Item → Type 0
HasFewLabels item = ops_labels item.ops ≤ label_limit

pub record DoLabelsFit (f : Func) : Type 0 where
  pub args_fit : length f.args ≤ label_limit
  pub items_fit : IfSome f.body (λ (body : Body). All HasFewLabels body.items)

-- labels never fall along the breaks
abbrev pub DoLabelsRise : List Shape → Type 0
DoLabelsRise shapes = AllPairs (λ (a b : Shape). a.at.0 ≤ b.at.0) shapes
