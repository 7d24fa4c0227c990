use Rattle.step_core.specs.Maps.{full_places}
use Rattle.step_core.proofs.Fullness.{full_map}
use Rattle.step_core.proofs.SameParts.{same_place, same_part}
use Rattle.step_core.proofs.laws.parts_are_unique.Goals as goal

pub returns-clause-cell : goal.returns-clause-cell
returns-clause-cell c = λ cells p i j good s t. same_place (full_places cells) good.once p i j s t

pub returns-clause-part : goal.returns-clause-part
returns-clause-part c = λ cells p q i s t. same_part (full_places cells) (full_map cells) p q i s t
