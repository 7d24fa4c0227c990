use Rattle.std.proofs.Common.{ℕ, ◌/◌, ◌+◌, ◌*◌, ◌%◌, ap, ◌∙◌}
use Rattle.step_core.proofs.Hashing.{unit_is}
use Rattle.step_core.proofs.path.start.Goals as goal

pub returns : goal.returns
returns c = ap (λ (z : ℕ). c.args.word * 11400714819323198485 % 18446744073709551616 / (18446744073709551615 / z + 1)) c.from.ensures
    ∙ ap (λ (z : ℕ). c.args.word * 11400714819323198485 % 18446744073709551616 / z) (unit_is c.args.size c.requires)
