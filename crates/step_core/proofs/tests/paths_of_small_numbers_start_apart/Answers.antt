use Rattle.std.proofs.Common.{refl, arith}
use Rattle.step_core.specs.Words.{IsSize}
use Rattle.step_core.proofs.tests.paths_of_small_numbers_start_apart.Goals as goal

size_64 : IsSize 64
size_64 = record { power = (6, refl); least = omega arith; greatest = omega arith }

pub start-requires : goal.start-requires
start-requires g c = size_64

pub start-requires-2 : goal.start-requires-2
start-requires-2 g c = size_64

pub start-requires-3 : goal.start-requires-3
start-requires-3 g c = size_64

pub start-requires-4 : goal.start-requires-4
start-requires-4 g c = size_64
