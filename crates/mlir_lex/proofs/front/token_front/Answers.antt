-- The longest token of the kind that the first byte determines is the longest token.
use Rattle.std.proofs.Common.{◌<◌, arith}
use Rattle.mlir_lex.proofs.Fronts.{front_at, none_at, none_begins_at}
use Rattle.mlir_lex.proofs.front.token_front.Goals as goal

pub returns-in-None-kind_of : goal.returns-in-None-kind_of
returns-in-None-kind_of c = none_begins_at c.args.bytes.now c.in-Some.first.now c.in-Some.rest.now c.in-Some.ensures.cases.0 c.in-None-kind_of.ensures

pub returns-then-len-eq0 : goal.returns-then-len-eq0
returns-then-len-eq0 c =
    none_at c.args.bytes.now c.in-Some-kind_of.kind c.in-Some.first.now c.in-Some.rest.now c.kind_len-len.result c.in-Some.ensures.cases.0 c.in-Some-kind_of.ensures c.kind_len-len.ensures c.if-len-eq0.true

pub returns-else-len-eq0 : goal.returns-else-len-eq0
returns-else-len-eq0 c =
    let some : 0 < c.kind_len-len.result = omega arith in
    front_at c.args.bytes.now c.in-Some-kind_of.kind c.in-Some.first.now c.in-Some.rest.now c.kind_len-len.result c.in-Some.ensures.cases.0 c.in-Some-kind_of.ensures c.kind_len-len.ensures some
