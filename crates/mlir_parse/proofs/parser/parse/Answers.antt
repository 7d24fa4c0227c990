-- A text has no more tokens than bytes.
use Rattle.std.proofs.Common.{ap, map, ◌∙◌}
use Rattle.mlir_ir.specs.Terminals.{terminal_of}
use Rattle.mlir_parse.proofs.Parsed.{few_terminals}
use Rattle.mlir_parse.proofs.parser.parse.Goals as goal

pub tree_of-requires-clause-few : goal.tree_of-requires-clause-few
tree_of-requires-clause-few c =
    few_terminals c.args.text.now _ c.as_slice-3.result.now _ c.in_ok-found.ensures (c.as_slice-3.ensures.value ∙ c.in_ok-terminals.ensures ∙ ap (map terminal_of) c.as_slice.ensures) c.requires

pub is_not_here-requires-clause-few : goal.is_not_here-requires-clause-few
is_not_here-requires-clause-few c =
    few_terminals c.args.text.now _ c.as_slice-in-Err-Syntax-3.result.now _ c.in_ok-found.ensures (c.as_slice-in-Err-Syntax-3.ensures.value ∙ c.in_ok-terminals.ensures ∙ ap (map terminal_of) c.as_slice.ensures) c.requires
