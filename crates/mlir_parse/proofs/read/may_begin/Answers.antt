-- The token at the index is in the set, or there is no token.
use Rattle.std.proofs.Common.{◌∙◌}
use Rattle.mlir_parse.specs.Seen.{seen}
use Rattle.mlir_parse.proofs.Places.{starts_by}
use Rattle.mlir_parse.proofs.read.may_begin.Goals as goal

pub returns-then-at-tokens : goal.returns-then-at-tokens
returns-then-at-tokens c =
    c.has.ensures ∙ starts_by c.args.set (seen c.args.rule.now) c.args.tokens.now c.args.at _ c.requires c.if-at-tokens.true
