use Rattle.std.proofs.Common.{◌≡◌, List, map, ap, ◌∙◌, refl}
use Rattle.std.specs.List.{flat_map}
use Rattle.mlir_ir.specs.Resolved.{variable_type}
use Rattle.mlir_ir.specs.ScopeFaults.{broken, differs}
use Rattle.mlir_ir.specs.Source as source
use Rattle.mlir_ir.specs.declared.scope_kind.ScopeKind.TheVariants.{WrongType}
use Rattle.mlir_ir.specs.declared.types.IrType.{IrType}
use Rattle.mlir_scope.specs.Noted.{noted}
use Rattle.mlir_scope.specs.Reading.{use_said, written_said, type_said}
use Rattle.mlir_scope.specs.Said.{said}
use Rattle.mlir_scope.specs.Walks.{in_scope}
use Rattle.mlir_scope.specs.declared.said.Use.{Use}
use Rattle.mlir_scope.specs.declared.said.Written.{Written}
use Rattle.mlir_scope.proofs.loop_headers.note_bounds.Goals as goal

pub returns : goal.returns
returns c =
    let kind = said c.args.text.now.tokens.now c.args.kind.now in
    let scope = in_scope c.args.w.now in
    let best = c.args.w.now.first.best in
    let breaks = λ (ty : IrType) (us : List source.Use). noted best (flat_map (λ u. broken (differs scope u ty) u.at WrongType) us) in
    let ty : type_said c.variable_type.result ≡ variable_type (source.types_in kind) =
    c.variable_type.ensures ∙ ap (λ (ts : List Written). variable_type (map written_said ts)) c.deref-2.ensures.value ∙ ap variable_type c.in_ok-written.ensures in
    record {
      noted_all =
          c.note_differing.ensures
          ∙ ap (λ (t : IrType). breaks t (map use_said c.deref.result.now)) ty
          ∙ ap (λ (us : List source.Use). breaks (variable_type (source.types_in kind)) us) (ap (λ (us : List Use). map use_said us) c.deref.ensures.value ∙ c.in_ok-uses.ensures);
      same = refl;
    }
