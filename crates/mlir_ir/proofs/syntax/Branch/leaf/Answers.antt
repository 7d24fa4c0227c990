-- A token's branch as a tree.
use Rattle.std.proofs.Common.{◌∙◌, ap}
use Rattle.mlir_ir.specs.Trees.{node, forest}
use Rattle.mlir_ir.specs.declared.syntax.Form.TheVariants.{Leaf}
use Rattle.mlir_ir.specs.declared.syntax.Branch.{roll-Branch, out-roll-Branch}
use Rattle.mlir_ir.proofs.Branches.{put_is}
use Rattle.mlir_ir.proofs.syntax.Branch.leaf.Goals as goal

pub returns : goal.returns
returns c =
    λ rest.
    put_is (roll-Branch record { form = Leaf; token = c.args.token; parts = c.new.result }) rest
    ∙ rw (out-roll-Branch record { form = Leaf; token = c.args.token; parts = c.new.result }) (ap (λ parts. node Leaf c.args.token (forest parts) rest) c.new.ensures.items)
