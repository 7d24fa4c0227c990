use Rattle.std.proofs.Common.{◌≡◌, List, [], ◌∷◌, ap}
use Rattle.step_core.specs.declared.event.Event.{Event}
use Rattle.step_core.specs.Maps.{AllOf}
use Rattle.step_core.specs.Meaning.{Meaning}
use Rattle.step_core.specs.Answers.{IsAtPlace, words_after_all}
use Rattle.step_core.specs.Events.{State, Runs, after}
use Rattle.step_core.proofs.Replaying.{events_stayed}
use Rattle.step_core.proofs.laws.runs_are_replayed.Goals as goal

placed : (m : Meaning) (s t : State) (es : List Event) → Runs m s es t → AllOf (IsAtPlace s.words) es
placed m s t [] r = tt
placed m s t (e ∷ es) r = (r.1.place, events_stayed s.words e es (placed m (after s e r.0) t es r.3))

same : (m : Meaning) (s t : State) (es : List Event) → Runs m s es t → t.words ≡ words_after_all s.words es
same m s t [] r = ap (λ (z : State). z.words) r
same m s t (e ∷ es) r = same m (after s e r.0) t es r.3

pub returns-clause-places : goal.returns-clause-places
returns-clause-places g c = placed g.M.MemoMeaning.meaning

pub returns-clause-words : goal.returns-clause-words
returns-clause-words g c = same g.M.MemoMeaning.meaning
