use Rattle.std.proofs.Common.{◌≡◌, ◌+◌, ◌++◌, drop}
use Rattle.pass_copy.specs.Copied.{HaveGiven, naming}
use Rattle.pass_copy.specs.Renamed.{rename_args}
use Rattle.pass_copy.proofs.copies.copy_args.Given as goal

abbrev pub invariant-loop-arg : goal.invariant-loop-arg
invariant-loop-arg l =
    (l.made.items ++ rename_args (naming l.fn.names) (l.fn.names.given + l.arg-index) (drop l.arg-index l.args) ≡ rename_args (naming l.fn.names) l.fn.names.given l.args)
    × HaveGiven l.fn.names l.arg-index l.names
