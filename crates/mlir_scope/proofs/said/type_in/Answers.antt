use Rattle.std.proofs.Common.{ap, lit≤, arith}
use Rattle.mlir_ir.specs.Phrases.{Spot}
use Rattle.mlir_ir.specs.Trees.{forest}
use Rattle.mlir_scope.specs.declared.digits.TheConstants.{CAP}
use Rattle.mlir_scope.proofs.TypeWords.{type_is}
use Rattle.mlir_scope.proofs.said.type_in.Goals as goal

pub overflow_cast-result : goal.overflow_cast-result
overflow_cast-result c =
    let here =
    type_is
    c.args.tokens.now
    (forest c.args.parts.now)
    c.first_spot.result.text.now
    c.as_bytes.result.now
    c.unsigned.result.now
    c.same_bytes.result
    c.capped.result
    CAP
    (ap (λ (s : Spot). s.text) c.first_spot.ensures)
    c.as_bytes.ensures.value
    c.same_bytes.ensures
    c.if-same_bytes.false
    c.unsigned.ensures
    c.capped.ensures.value
    (lit≤ tt) in
    omega (arith, here.0)

pub returns-else-same_bytes : goal.returns-else-same_bytes
returns-else-same_bytes c =
    let here =
    type_is
    c.args.tokens.now
    (forest c.args.parts.now)
    c.first_spot.result.text.now
    c.as_bytes.result.now
    c.unsigned.result.now
    c.same_bytes.result
    c.capped.result
    CAP
    (ap (λ (s : Spot). s.text) c.first_spot.ensures)
    c.as_bytes.ensures.value
    c.same_bytes.ensures
    c.if-same_bytes.false
    c.unsigned.ensures
    c.capped.ensures.value
    (lit≤ tt) in
    here.1
