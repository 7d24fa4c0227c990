use Rattle.std.proofs.Common.{◌≡◌, ◌++◌, drop, string_bytes}
use Rattle.scev_queries.specs.Passed.{behind_commas}
use Rattle.scf_eval.specs.States.{numbers}
use Rattle.scev_queries.proofs.run_text.push_more.Given as goal

abbrev pub invariant-loop-word : goal.invariant-loop-word
invariant-loop-word l = string_bytes l.out ++ behind_commas (numbers (drop l.word-index l.words)) ≡ string_bytes l.fn.out ++ behind_commas (numbers l.words)
