-- The limits with one more command, by the counts.
use Rattle.std.proofs.Common.{◌+◌, ◌∙◌, length, ap, cond}
use Rattle.scev_script.specs.Counted.{are_few}
use Rattle.scev_script.proofs.Counts.{fits_is}
use Rattle.scev_script.proofs.session.Commands.allows.Goals as goal

pub returns : goal.returns
returns c =
    let self = c.args.self.now in
    let held = c.with_one-held.result in
    let prints = c.with_one-prints.result in
    let budget = self.budget + c.budget_of.result in
    c.are_few.ensures
    ∙ ap (λ n. are_few n held prints budget) (ap length c.as_slice.ensures.value)
    ∙ fits_is self.list.items c.args.command.now self.held self.prints self.budget held prints budget self.counted
    (c.with_one-held.ensures ∙ ap (λ b. self.held + cond b 1 0) c.is_hold.ensures)
    (c.with_one-prints.ensures ∙ ap (λ b. self.prints + cond b 1 0) c.is_print.ensures)
    (ap (λ k. self.budget + k) c.budget_of.ensures.value)
