use Rattle.std.proofs.Common.{◌≡◌, ◌∙◌, ap, slice_index_or}
use Rattle.mlir_ir.specs.Operations as plain
use Rattle.mlir_ir.specs.Phrases.{Spot}
use Rattle.mlir_ir.specs.Resolved as resolved
use Rattle.mlir_ir.specs.Source as source
use Rattle.mlir_scope.specs.Built.{values_in}
use Rattle.mlir_scope.specs.Said.{said}
use Rattle.mlir_scope.proofs.simple_kinds.binary.Goals as goal

pub returns : goal.returns
returns c =
    let kind = said c.args.tokens.now c.args.kind.now in
    let own : c.deref.result.now ≡ resolved.labels (values_in c.args.scope.now) (source.uses_in kind) = c.deref.ensures.value ∙ c.in_ok-own.ensures in
    let op : c.bin_named-op.result ≡ resolved.bin_named (source.word kind).text = c.bin_named-op.ensures ∙ ap (λ (spot : Spot). resolved.bin_named spot.text) c.word.ensures in
    c.binary_of.ensures
    ∙ (λ i. plain.Simple (plain.Bin (op i) (c.flags_of.ensures i) (slice_index_or (own i) 0 (record { 0 = 0 })) (slice_index_or (own i) 1 (record { 0 = 0 }))))
