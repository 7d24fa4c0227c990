-- A run over all tokens gives their tree or their syntax error.
use Rattle.mlir_parse.specs.Seen.{seen}
use Rattle.mlir_parse.proofs.Roots.{fault_is, early_end, whole_tree}
use Rattle.mlir_parse.proofs.tree.tree_of.Goals as goal

pub returns-in-Err : goal.returns-in-Err
returns-in-Err c = fault_is c.args.tokens.now (seen c.line_rule-whole.result.now) c.in-Err.fault c.line_rule-whole.ensures.is c.in-Err.ensures.gives

pub returns-then-next-tokens : goal.returns-then-next-tokens
returns-then-next-tokens c =
    early_end c.args.tokens.now (seen c.line_rule-whole.result.now) c.in-Ok.next c.line_rule-whole.ensures.is c.in-Ok.ensures.gives c.if-next-tokens.true

pub returns-else-next-tokens : goal.returns-else-next-tokens
returns-else-next-tokens c =
    whole_tree
    c.args.tokens.now
    (seen c.line_rule-whole.result.now)
    c.in-Ok.next
    _
    c.line.result
    c.line_rule-whole.ensures.is
    c.in-Ok.ensures.gives
    c.if-next-tokens.false
    (rw c.new-parts.ensures.items at c.in-Ok.ensures.grows)
    c.line.ensures
