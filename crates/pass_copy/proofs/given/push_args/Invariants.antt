use Rattle.std.proofs.Common.{◌≡◌, ◌++◌, drop}
use Rattle.pass_copy.specs.Listed.{arg_names, texts}
use Rattle.pass_copy.proofs.given.push_args.Given as goal

abbrev pub invariant-loop-arg : goal.invariant-loop-arg
invariant-loop-arg l = texts l.taken.names.items ++ arg_names (drop l.arg-index l.args) ≡ texts l.fn.taken.names.items ++ arg_names l.args
