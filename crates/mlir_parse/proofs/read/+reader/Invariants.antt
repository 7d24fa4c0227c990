use Rattle.std.proofs.Common.{ℕ, ◌≤◌, length, ◌+◌, ◌-◌, ◌*◌, Result, List}
use Rattle.mlir_parse.proofs.read.+reader.Given as goal
use Rattle.mlir_parse.specs.Seen.{seen, Gives, Grows}
use Rattle.mlir_ir.specs.Grammar.{both, many}
use Rattle.mlir_parse.specs.Tables.{rank, rank_line}
use Rattle.mlir_ir.specs.declared.syntax.Branch.{Branch}
use Rattle.mlir_parse.specs.declared.fault.Fault.{Fault}

-- entering a region lowers the first summand, and a step into a rule lowers the second
abbrev pub decreases-read : goal.decreases-read
decreases-read l = (12 - l.depth) * 3000 + 3 * rank (seen l.rule.now)

abbrev pub decreases-read_line : goal.decreases-read_line
decreases-read_line l = (12 - l.depth) * 3000 + (3 * rank_line l.form + 2)

abbrev pub decreases-read_by_rule : goal.decreases-read_by_rule
decreases-read_by_rule l = (12 - l.depth) * 3000 + (3 * rank_line l.form + 1)

abbrev pub decreases-read_both : goal.decreases-read_both
decreases-read_both l = (12 - l.depth) * 3000 + (3 * rank (both (seen l.a.now) (seen l.b.now)) - 1)

abbrev pub decreases-read_many : goal.decreases-read_many
decreases-read_many l = (12 - l.depth) * 3000 + (3 * rank (seen l.rule.now) + 1)

abbrev pub decreases-read_region : goal.decreases-read_region
decreases-read_region l = (12 - l.depth) * 3000 + 1

abbrev pub invariant-read_many-again : goal.invariant-read_many-again
invariant-read_many-again l =
    (l.here ≤ length l.source.tokens.now)
    × ((res : Result ℕ Fault) → Gives l.depth (many (seen l.rule)) l.source.tokens.now l.here res → Gives l.depth (many (seen l.rule)) l.source.tokens.now l.at res)
    × ((new : List Branch) (next : ℕ) → Grows l.source.tokens.now l.depth (many (seen l.rule)) l.here l.out.items new next → Grows l.source.tokens.now l.depth (many (seen l.rule)) l.at l.fn.out.items new next)

abbrev pub decreases-read_many-again : goal.decreases-read_many-again
decreases-read_many-again l = length l.source.tokens.now - l.here
