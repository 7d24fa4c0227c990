use Rattle.std.proofs.Common.{◌≡◌, ◌+◌, drop}
use Rattle.mlir_ir.specs.Operations.{joined}
use Rattle.mlir_ir.specs.View.{view_ops}
use Rattle.pass_copy.specs.Copied.{fresh_by, naming}
use Rattle.pass_copy.specs.Renamed.{names_of, rename_ops}
use Rattle.pass_copy.specs.Renaming.{renamed}
use Rattle.pass_copy.proofs.copies.+copy.Given as goal

abbrev pub invariant-copy_ops-loop-op : goal.invariant-copy_ops-loop-op
invariant-copy_ops-loop-op l =
    (joined (view_ops l.made.items) (rename_ops (renamed l.map.spans.items) (naming l.fn.names) l.names.given (view_ops (drop l.op-index l.ops)))
    ≡ rename_ops (renamed l.map.spans.items) (naming l.fn.names) l.fn.names.given (view_ops l.ops))
    × (l.names.given + names_of (view_ops (drop l.op-index l.ops)) ≡ l.fn.names.given + names_of (view_ops l.ops))
    × (l.names.kept ≡ l.fn.names.kept) × (fresh_by l.names ≡ fresh_by l.fn.names)
