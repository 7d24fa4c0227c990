use Rattle.std.proofs.Common.{◌+◌, ◌<◌, ◌≤◌, nat_lt, refl, arith}
use Rattle.std.proofs.lemmas.Bool.{ltb-true}
use Rattle.mlir_ir.specs.Grammar.{Pattern, nothing, one, line, both, either, many, region, body}
use Rattle.mlir_parse.specs.Tables.{rank, weight, rank_line}
use Rattle.mlir_ir.specs.declared.syntax.Form.{Form}
use Rattle.mlir_parse.proofs.Bools.{every_form}

pub rank_le : (r : Pattern) → rank r ≤ weight r
rank_le nothing = omega arith
rank_le (one c) = omega arith
rank_le (line f) = omega arith
rank_le (both a b) = omega (arith, rank_le a, rank_le b)
rank_le (either a b) = omega (arith, rank_le a, rank_le b)
rank_le (many a) = omega (arith, rank_le a)
rank_le (region a) = omega (arith, rank_le a)

pub body_ranks : (f : Form) → rank (body f) < 1 + rank_line f
body_ranks f = ltb-true _ _ (every_form (λ g. nat_lt (rank (body g)) (1 + rank_line g)) refl f)

pub body_weighs : (f : Form) → weight (body f) < 1000
body_weighs f = ltb-true _ _ (every_form (λ g. nat_lt (weight (body g)) 1000) refl f)
