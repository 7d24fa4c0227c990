use Rattle.std.proofs.Common.{◌≡◌, ◌++◌, List, map, ap, ◌∙◌}
use Rattle.mlir_ir.specs.Resolved.{func_args}
use Rattle.mlir_ir.specs.Rules.{arg_types}
use Rattle.mlir_ir.specs.ScopeFaults as faults
use Rattle.mlir_ir.specs.Source as source
use Rattle.mlir_ir.specs.Values.{Value, arg_values}
use Rattle.mlir_ir.specs.declared.types.IrType.{IrType}
use Rattle.mlir_scope.specs.Arguments.{named}
use Rattle.mlir_scope.specs.Blocks.{operations}
use Rattle.mlir_scope.specs.Functions.{arg_names}
use Rattle.mlir_scope.specs.Noted.{noted}
use Rattle.mlir_scope.specs.Reading.{type_said, defined_said}
use Rattle.mlir_scope.specs.Said.{line_said}
use Rattle.mlir_scope.specs.Scopes.{scope_said}
use Rattle.mlir_scope.specs.Texts.{funcs_in}
use Rattle.mlir_scope.specs.Walks.{in_scope}
use Rattle.mlir_scope.specs.declared.said.Defined.{Defined}
use Rattle.mlir_scope.specs.declared.said.ValueType.{ValueType}
use Rattle.mlir_scope.proofs.FunctionNotes.{named_args}
use Rattle.mlir_scope.proofs.Notes.{put_twice}
use Rattle.mlir_scope.proofs.function_faults.note_operations.Goals as goal

pub returns : goal.returns
returns c =
    let tokens = c.args.text.now.tokens.now in
    let f = line_said tokens c.args.f in
    let scope = in_scope c.args.w.now in
    let ops = operations tokens c.args.ops in
    let one = c.in_ok-note_block.ensures in
    let names : map defined_said c.deref.result.now ≡ arg_names f.parts = ap (λ (ns : List Defined). map defined_said ns) c.deref.ensures.value ∙ c.in_ok-args.ensures.names in
    let types : map type_said c.deref-2.result.now ≡ arg_types (func_args f) = ap (λ (ts : List ValueType). map type_said ts) c.deref-2.ensures.value ∙ c.in_ok-args.ensures.types in
    let put : scope_said c.push_args.new.scope ≡ scope ++ arg_values 0 (func_args f) =
    c.in_ok-push_args.ensures
    ∙ ap (λ (ns : List source.Defined). scope ++ arg_values 0 (named ns (map type_said c.deref-2.result.now))) names
    ∙ ap (λ (ts : List IrType). scope ++ arg_values 0 (named (arg_names f.parts) ts)) types
    ∙ ap (λ args. scope ++ arg_values 0 args) (named_args f) in
    record {
      noted_all = one.noted_all ∙ ap (λ (s : List Value). noted c.args.w.now.first.best (faults.block_breaks (funcs_in c.args.text.now) ops 0 s)) put;
      scope = put_twice scope (scope_said c.push_args.new.scope) (in_scope c.note_block.new.w) (arg_values 0 (func_args f)) (faults.defined_by ops) put one.scope;
    }
