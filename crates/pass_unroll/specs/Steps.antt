-- The loops of an unrolled one, with or without a rest loop.
use Rattle.std.specs.Prelude.{ℕ, ◌==◌, List, if◌then◌else◌}
use Rattle.mlir_ir.specs.Operations.{OpList}
use Rattle.pass_unroll.specs.Children.{main_alone, main_and_rest, rest_count}
use Rattle.pass_unroll.specs.Copies.{ForLoop}
use Rattle.pass_unroll.specs.declared.plan.Plan.{Plan}

-- the loops of an unrolled one, behind its two constants
abbrev pub main_loops : (ℕ → List ℕ) → ℕ → Plan → ForLoop → ℕ → OpList
main_loops fresh t plan o factor =
    if rest_count fresh t plan o factor == 0 then main_alone fresh t plan o factor else main_and_rest fresh t plan o factor
