-- The values that the code's scopes stand for.
use Rattle.std.specs.Prelude.{ℕ, ◌-◌, ◌&&◌, ◌||◌, Bool, false, List, [], ◌∷◌, ◌++◌, length, nat_lt}
use Rattle.std.specs.List.{list_any}
use Rattle.std.specs.Str.{bytes_eq}
use Rattle.mlir_ir.specs.declared.types.Arg.{Arg}
use Rattle.mlir_ir.specs.declared.types.Op.{Op}
use Rattle.mlir_ir.specs.declared.types.Pack.{Pack}
use Rattle.mlir_ir.specs.declared.types.Item.{Item}
use Rattle.mlir_ir.specs.declared.scope.Scope.{Scope, Top, Args', Ops'}
use Rattle.arith_word.specs.Labels.{label_at}
use Rattle.mlir_ir.specs.Values.{Value, arg_values}
use Rattle.mlir_ir.specs.Check.{results_of, items_results}

abbrev pub scope_values : Scope → List Value
scope_values (Top outer) = arg_values (label_at outer.func 0 0) outer.args.now ++ items_results outer.func 1 outer.items.now
scope_values (Args' spot outer at args) = scope_values outer ++ arg_values at args.now
scope_values (Ops' spot outer at ops) = scope_values outer ++ results_of at ops.now

-- whether a pack with that name has one of so many results
abbrev pub packs_name : List Pack → ℕ → List ℕ → Bool
packs_name [] left name = false
packs_name (pack ∷ packs) left name = nat_lt 0 pack.count && nat_lt 0 left && bytes_eq pack.name name || packs_name packs (left - pack.count) name

abbrev pub op_names : Op → List ℕ → Bool
op_names op name = packs_name op.packs (length op.results) name

abbrev pub args_name : List Arg → List ℕ → Bool
args_name args name = list_any (λ arg. bytes_eq arg.name name) args

abbrev pub ops_name : List Op → List ℕ → Bool
ops_name ops name = list_any (λ op. op_names op name) ops

abbrev pub items_name : List Item → List ℕ → Bool
items_name items name = list_any (λ item. ops_name item.ops name) items
