-- A line's branch as a tree.
use Rattle.std.proofs.Common.{◌∙◌, refl}
use Rattle.mlir_ir.specs.declared.syntax.Branch.{roll-Branch, out-roll-Branch}
use Rattle.mlir_ir.proofs.Branches.{put_is}
use Rattle.mlir_ir.proofs.syntax.Branch.line.Goals as goal

pub returns : goal.returns
returns c =
    λ rest. put_is (roll-Branch record { form = c.args.form; token = c.args.token; parts = c.args.parts }) rest ∙ rw (out-roll-Branch record { form = c.args.form; token = c.args.token; parts = c.args.parts }) refl
