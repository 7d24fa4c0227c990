-- Loops by their parts, and what the facts of their insides say.
use Rattle.std.specs.Prelude.{◌≡◌, ℕ, ◌+◌, List, length}
use Rattle.arith_word.specs.declared.label.Label.{Label}
use Rattle.mlir_ir.specs.declared.types.Arg.{Arg}
use Rattle.mlir_ir.specs.Operations.{OpList, labels_of}
use Rattle.mlir_ir.specs.Rules.{arg_types}
use Rattle.mlir_ir.specs.Words.{bits_of}
use Rattle.fresh_scev.specs.Facts.{Facts, untested, Loop, ArePassed, IsOps}
use Rattle.fresh_scev.specs.Loops.{IsVariable}

-- the loop with that counter of an `scf.for`, and of an `scf.while`
abbrev pub for_loop : ℕ → List Arg → List Label → List Label → Loop
for_loop at args inits ends = record { at = at; first = at + 2; types = arg_types args; inits = inits; ends = ends }

abbrev pub while_loop : ℕ → List Arg → List Label → List Label → Loop
while_loop at args inits ends = record { at = at; first = at + 1; types = arg_types args; inits = inits; ends = ends }

-- the induction variable of the loop `at`, and its body from label `in_body` on
abbrev pub IsForInside : List Label → ℕ → Label → Label → Arg → ℕ → OpList → Facts → Type 0
IsForInside conditions at lower step iv in_body body G =
    IsVariable at (bits_of iv.ty) (at + 1) (G.expr lower.0) (G.expr step.0) (G.expr (at + 1)) × (G.role (at + 1) ≡ untested) × IsOps conditions body in_body G

-- both regions, of which the first begins with label `in_before`
abbrev pub IsWhileInside : List Label → ℕ → OpList → List Label → List Arg → OpList → Facts → Type 0
IsWhileInside conditions in_before before passed after_args after G =
    let params = in_before + labels_of before in
    IsOps conditions before in_before G × ArePassed G params (arg_types after_args) passed × IsOps conditions after (params + length after_args) G
