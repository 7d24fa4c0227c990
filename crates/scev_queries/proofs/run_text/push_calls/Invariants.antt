use Rattle.std.proofs.Common.{◌≡◌, ◌++◌, drop, map, string_bytes}
use Rattle.scev_queries.specs.Answers.{names_of}
use Rattle.scev_queries.specs.RunTexts.{calls_text}
use Rattle.scf_eval.specs.States.{event_of}
use Rattle.scev_queries.proofs.run_text.push_calls.Given as goal

abbrev pub invariant-loop-event : goal.invariant-loop-event
invariant-loop-event l =
    string_bytes l.out ++ calls_text (names_of l.funcs) (map event_of (drop l.event-index l.events)) ≡ string_bytes l.fn.out ++ calls_text (names_of l.funcs) (map event_of l.events)
