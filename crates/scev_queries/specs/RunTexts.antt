-- How runs print: how a run ends, then its calls.
use Rattle.std.specs.Prelude.{ℕ, List, [], ◌∷◌, ◌++◌, codes, slice_index_or}
use Rattle.mlir_ir.specs.Runs.{Number, Event, Stop, Outcome, Run, Trapped, Starved, Cut, Ended, Unfinished}
use Rattle.scev_text.specs.Texts.{number_text}

abbrev pub word_text : Number → List ℕ
word_text n = number_text n.w n.v

-- the numbers that are returned, each behind a blank
abbrev pub results_text : List Number → List ℕ
results_text [] = []
results_text (n ∷ ns) = codes " " ++ word_text n ++ results_text ns

abbrev pub stop_text : Stop → List ℕ
stop_text Trapped = codes "trapped"
stop_text Starved = codes "starved"
stop_text Cut = codes "cut"

abbrev pub outcome_text : Outcome → List ℕ
outcome_text (Ended results) = codes "ended" ++ results_text results
outcome_text (Unfinished stop) = stop_text stop

-- the numbers that are passed, with commas between them
abbrev pub passed_text : List Number → List ℕ
passed_text [] = []
passed_text (n ∷ []) = word_text n
passed_text (n ∷ m ∷ ns) = word_text n ++ codes "," ++ passed_text (m ∷ ns)

-- the calls, with the names of functions by their indexes
abbrev pub calls_text : List (List ℕ) → List Event → List ℕ
calls_text names [] = []
calls_text names (event ∷ events) =
    codes " @" ++ slice_index_or names event.callee [] ++ codes "(" ++ passed_text event.args ++ codes ")" ++ calls_text names events

-- the calls of a run, where it makes any
abbrev pub trace_text : List (List ℕ) → List Event → List ℕ
trace_text names [] = []
trace_text names (event ∷ events) = codes " ;" ++ calls_text names (event ∷ events)

abbrev pub run_text : List (List ℕ) → Run → List ℕ
run_text names run = outcome_text run.outcome ++ trace_text names run.trace
