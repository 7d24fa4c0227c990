use Rattle.std.proofs.Common.{sym, ◌∙◌, ◌≤◌, arith, Ok}
use Rattle.std.proofs.lemmas.Result.{IfOk-weaker}
use Rattle.mlir_parse.proofs.read.+reader.Goals as goal
use Rattle.mlir_parse.specs.Tables.{weight, rank}
use Rattle.mlir_parse.specs.Seen.{seen}
use Rattle.mlir_ir.specs.declared.terminal.Terminal.TheVariants.{LeftBrace}
use Rattle.mlir_parse.proofs.Gives.{gives_enough, gives_line, gives_again, found}
use Rattle.mlir_parse.proofs.Grows.{grows_nothing, grows_both, grows_left, grows_right, grows_enough, grows_again, grows_line, grows_region}
use Rattle.mlir_parse.proofs.Ranks.{rank_le}

pub read_by_rule-returns-in_ok-push-in-Ok-clause-gives : goal.read_by_rule-returns-in_ok-push-in-Ok-clause-gives
read_by_rule-returns-in_ok-push-in-Ok-clause-gives t c =
    gives_line c.args.depth c.args.form (seen c.line_rule.result.now) c.args.source.now.tokens.now c.args.at (Ok c.in-Ok.next) c.line_rule.ensures.is c.in-Ok.ensures.gives

pub read_by_rule-returns-in_ok-push-in-Ok-clause-grows : goal.read_by_rule-returns-in_ok-push-in-Ok-clause-grows
read_by_rule-returns-in_ok-push-in-Ok-clause-grows t c =
    grows_line
    c.args.source.now.tokens.now
    c.args.depth
    c.args.form
    (seen c.line_rule.result.now)
    c.args.at
    c.in-Ok.next
    c.len-before.result
    _
    _
    _
    _
    _
    c.line.result
    (omega arith)
    c.in_ok-parts-in-Ok.ensures.items
    c.in_ok-parts-in-Ok.ensures.tail
    c.in_ok-push-in-Ok.ensures.items
    c.line.ensures
    c.line_rule.ensures.is
    c.in-Ok.ensures.grows

pub read_both-returns-in-Ok-clause-grows : goal.read_both-returns-in-Ok-clause-grows
read_both-returns-in-Ok-clause-grows t c =
    IfOk-weaker
    c.read-in-Ok.result
    _
    _
    (λ next h.
    grows_both c.args.source.now.tokens.now c.args.depth (seen c.args.a.now) (seen c.args.b.now) c.args.at c.in-Ok.mid next _ _ _ c.in-Ok.ensures.grows h)
    c.read-in-Ok.ensures.grows

pub read_many-again-preserved : goal.read_many-again-preserved
read_many-again-preserved t c = (
  c.in-Ok.ensures.gives.1,
  λ res h.
      c.again.invariant.1
      res
      (gives_again
      c.args.depth
      (seen c.args.rule.now)
      c.args.source.now.tokens.now
      c.again.here
      c.in-Ok.next
      res
      (sym c.may_begin.ensures ∙ c.again-test.true)
      c.in-Ok.ensures.gives
      h),
  λ new next h.
      c.again.invariant.2
      new
      next
      (grows_again c.args.source.now.tokens.now c.args.depth (seen c.args.rule.now) c.again.here c.in-Ok.next next _ _ new c.in-Ok.ensures.grows h),
)

pub read_many-returns-clause-gives : goal.read_many-returns-clause-gives
read_many-returns-clause-gives t c =
    c.again.invariant.1
    (Ok c.again.here)
    (gives_enough
    c.args.depth
    (seen c.args.rule.now)
    c.args.source.now.tokens.now
    c.again.here
    c.again.invariant.0
    (sym c.may_begin.ensures ∙ c.again-test.false))

pub read_many-returns-clause-grows : goal.read_many-returns-clause-grows
read_many-returns-clause-grows t c =
    c.again.invariant.2 _ c.again.here (grows_enough c.args.source.now.tokens.now c.args.depth (seen c.args.rule.now) c.again.here _)

pub read_region-read-requires : goal.read_region-read-requires
read_region-read-requires t c =
    let low : rank (seen c.args.rule.now) ≤ weight (seen c.args.rule.now) = rank_le (seen c.args.rule.now) in
    let q = found LeftBrace c.args.source.now.tokens.now c.args.at (sym c.next_is.ensures ∙ c.if-not-next_is.false) in
    (omega (arith, c.decreases, low, c.requires.small), (c.requires.lines, (omega (arith, c.requires.small), (omega (arith, q.0), (c.requires.few, (omega arith, c.requires.marked))))))

pub read_region-returns-in-Ok-clause-grows : goal.read_region-returns-in-Ok-clause-grows
read_region-returns-in-Ok-clause-grows t c =
    IfOk-weaker
    c.read_one.result
    _
    _
    (λ next h.
    grows_region
    c.args.source.now.tokens.now
    c.args.depth
    (seen c.args.rule.now)
    c.args.at
    c.in-Ok.end
    next
    _
    _
    _
    _
    c.leaf.result
    (omega arith)
    c.in_ok-push.ensures.items
    c.leaf.ensures
    (sym c.next_is.ensures ∙ c.if-not-next_is.false)
    c.in-Ok.ensures.grows
    h)
    c.read_one.ensures.grows

pub read-returns-in-Nothing-clause-grows : goal.read-returns-in-Nothing-clause-grows
read-returns-in-Nothing-clause-grows t c = rw c.in-Nothing.is (grows_nothing c.args.source.now.tokens.now c.args.depth c.args.at c.args.out.now.items)

pub read-returns-then-may_begin-clause-grows : goal.read-returns-then-may_begin-clause-grows
read-returns-then-may_begin-clause-grows t c =
    IfOk-weaker
    c.read.result
    _
    _
    (λ next h.
    rw c.in-Either.is
    (grows_left
    c.args.source.now.tokens.now
    c.args.depth
    (seen c.in-Either.a.value)
    (seen c.in-Either.b.value)
    c.args.at
    next
    _
    _
    (rw c.deref-then-may_begin.ensures at h)))
    c.read.ensures.grows

pub read-returns-else-may_begin-clause-grows : goal.read-returns-else-may_begin-clause-grows
read-returns-else-may_begin-clause-grows t c =
    IfOk-weaker
    c.read-else-may_begin.result
    _
    _
    (λ next h.
    rw c.in-Either.is
    (grows_right
    c.args.source.now.tokens.now
    c.args.depth
    (seen c.in-Either.a.value)
    (seen c.in-Either.b.value)
    c.args.at
    next
    _
    _
    (rw c.deref-else-may_begin.ensures at h)))
    c.read-else-may_begin.ensures.grows
