use Rattle.std.proofs.Common.{◌∙◌, sym, arith}
use Rattle.mlir_scope.proofs.Parted.{said_token, said_past}
use Rattle.mlir_scope.proofs.phrase.next.Goals as goal

pub returns-in-Some-get : goal.returns-in-Some-get
returns-in-Some-get c =
    let cut = c.in-Some.ensures.cases in
    let found = c.in-Some-get.ensures.lookup in
    let step = said_token c.args.tokens.now c.loop-first.rest.now c.in-Some.behind.now c.in-Some.first.now c.in-Some-get.token.now cut.0 c.in-Leaf.is found.0 found.1 in
    (sym c.loop-first.invariant.0 ∙ step, omega arith)

pub loop-first-preserved : goal.loop-first-preserved
loop-first-preserved c =
    let cut = c.in-Some.ensures.cases in
    let found = c.in_default-get.ensures.lookup in
    let step = said_past c.args.tokens.now c.loop-first.rest.now c.in-Some.behind.now c.in-Some.first.now cut.0 c.in-Leaf.is found.0 in
    (sym step ∙ c.loop-first.invariant.0, omega arith)
