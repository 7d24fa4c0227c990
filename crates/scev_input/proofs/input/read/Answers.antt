-- The first byte that begins no UTF-8 sequence.
use Rattle.std.proofs.Common.{sym, subst}
use Rattle.std.specs.Str.{IsValidUpTo}
use Rattle.scev_input.specs.Inputs.{IsRefused, utf8}
use Rattle.scev_input.proofs.input.read.Goals as goal

pub returns-in-Err-clause-reading : goal.returns-in-Err-clause-reading
returns-in-Err-clause-reading c =
    subst (IsRefused c.args.bytes.now) (sym c.fault_at.ensures)
    (utf8 {at = c.valid_up_to.result} (subst (IsValidUpTo c.args.bytes.now) (sym c.valid_up_to.ensures) c.in-Err.ensures.cases.1))
