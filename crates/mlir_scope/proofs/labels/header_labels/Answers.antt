use Rattle.std.proofs.Common.{◌≡◌, ◌+◌, min, length, ap, ◌∙◌, sym, arith}
use Rattle.mlir_ir.specs.ScopeFaults as faults
use Rattle.mlir_ir.specs.Source.{Defined, Use, Written, inits_of, after_params}
use Rattle.mlir_scope.specs.Reading.{use_said, written_said}
use Rattle.mlir_scope.specs.Said.{said}
use Rattle.mlir_scope.specs.declared.digits.TheConstants.{CAP}
use Rattle.mlir_scope.proofs.Lengths.{same_length}
use Rattle.mlir_scope.proofs.labels.header_labels.Goals as goal

pub returns-in_ok-params-in-While-clause-value : goal.returns-in_ok-params-in-While-clause-value
returns-in_ok-params-in-While-clause-value c =
    let kind = said c.args.text.now.tokens.now c.args.kind.now in
    let inits = c.in_ok-inits-in-While.inits.uses in
    let params = c.in_ok-params-in-While.params.types in
    let many : length inits.items ≡ length (inits_of kind) = same_length use_said (λ (p : Defined × Use). p.1) inits.items (inits_of kind) c.in_ok-inits-in-While.ensures.uses in
    let others : length params.items ≡ length (after_params kind) =
    same_length written_said (λ (p : Defined × Written). p.1) params.items (after_params kind) c.in_ok-params-in-While.ensures.types in
    let sum : c.min-in-While.result ≡ min (1 + length (inits_of kind) + length (after_params kind)) CAP =
    omega (arith, many, others, inits.ok.0, params.ok.0, c.min-in-While.ensures, c.len-in-While.ensures, c.len-in-While-2.ensures) in
    sum ∙ ap (λ h. min (faults.header_labels h kind) CAP) (sym c.in-While.is ∙ c.head.ensures)
