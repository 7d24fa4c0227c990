-- A built `scf.for` as plain data.
use Rattle.std.proofs.Common.{◌≡◌, List, refl, ◌∙◌}
use Rattle.arith_word.specs.declared.label.Label.{Label}
use Rattle.mlir_ir.specs.Operations.{For}
use Rattle.mlir_ir.specs.View.{view_for, rows_of, ends_of}
use Rattle.mlir_ir.specs.declared.types.Arg.{Arg}
use Rattle.mlir_ir.specs.declared.types.ForParts.{roll-ForParts, out-roll-ForParts}
use Rattle.mlir_ir.specs.declared.types.Region.{Region}
use Rattle.mlir_ir.proofs.PartViews.{for_parts}

pub for_made : (lower upper step : Label) (iv : Arg) (args : List Arg) (inits : List Label) (body : Region)
    → view_for (roll-ForParts record { lower = lower; upper = upper; step = step; iv = iv; args = args; inits = inits; body = body })
    ≡ For lower upper step iv args inits (rows_of body) (ends_of body)
for_made lower upper step iv args inits body =
    for_parts (roll-ForParts record { lower = lower; upper = upper; step = step; iv = iv; args = args; inits = inits; body = body })
    ∙ rw (out-roll-ForParts record { lower = lower; upper = upper; step = step; iv = iv; args = args; inits = inits; body = body }) refl
