use Rattle.std.proofs.Common.{ap, subst, ◌∙◌, ◌≡◌, List, length}
use Rattle.mlir_ir.specs.View.{rows_of, ends_of}
use Rattle.mlir_ir.specs.declared.types.Arg.{Arg}
use Rattle.pass_copy.specs.Copied.{HaveGiven, naming}
use Rattle.pass_copy.specs.Renamed.{rename_args, relabels}
use Rattle.pass_copy.specs.Renaming.{renamed}
use Rattle.pass_copy.proofs.CopiedOps.{ops_step, names_step, ops_done, same_naming, while_copied}
use Rattle.pass_copy.proofs.copies.+copy.Goals as goal

pub copy_ops-loop-op-preserved : goal.copy_ops-loop-op-preserved
copy_ops-loop-op-preserved t c =
    let inv = c.loop-op.invariant in
    let e : naming c.loop-op.names ≡ naming c.args.names.now = same_naming c.args.names.now c.loop-op.names inv.2 inv.3 in
    let made = c.in_ok-copy_op.ensures in (
      ops_step (renamed c.args.map.now.spans.items) (naming c.args.names.now) c.loop-op.names.given c.copy_op.new.names.given c.loop-op.op-index c.args.ops.now c.loop-op.made.items c.push.new.self.items
          c.op-item.result c.in_ok-copy_op.field-0 _ c.loop-op-test.true c.op-item.is (rw e at made.packs) made.results (rw e at made.kind) made.given.count c.in_ok-push.ensures.items inv.0,
      names_step c.loop-op.names.given c.copy_op.new.names.given c.loop-op.op-index _ c.args.ops.now c.op-item.result c.loop-op-test.true c.op-item.is made.given.count inv.1,
      made.given.kept ∙ inv.2,
      made.given.same ∙ inv.3,
    )

pub copy_ops-returns-clause-ops : goal.copy_ops-returns-clause-ops
copy_ops-returns-clause-ops t c =
    ops_done (renamed c.args.map.now.spans.items) (naming c.args.names.now) c.loop-op.names.given c.loop-op.op-index c.args.ops.now c.loop-op.made.items _ c.loop-op-test.false c.loop-op.invariant.0

pub copy_while-returns-clause-parts : goal.copy_while-returns-clause-parts
copy_while-returns-clause-parts t c =
    let f = renamed c.args.map.now.spans.items in
    let n0 = c.args.names.now in
    let n1 = c.copy_args.new.names in
    let n2 = c.copy_region.new.names in
    c.while_of.ensures
    ∙ while_copied f n0 n1 n2 c.copy_args-2.new.names c.args.parts.now c.in_ok-args.args c.in_ok-inits.inits (rows_of c.in_ok-before.before) (ends_of c.in_ok-before.before) c.in_ok-cond.cond
    c.in_ok-after_args.after_args (rows_of c.in_ok-after.after) (ends_of c.in_ok-after.after)
    (c.in_ok-args.ensures.args ∙ ap (rename_args (naming n0) n0.given) c.as_slice.ensures)
    (subst (λ (xs : List Arg). HaveGiven n0 (length xs) n1) c.as_slice.ensures c.in_ok-args.ensures.given)
    (c.in_ok-inits.ensures ∙ ap (relabels f) c.as_slice-2.ensures)
    c.in_ok-before.ensures.ops c.in_ok-before.ensures.ends c.in_ok-before.ensures.given
    c.in_ok-cond.ensures
    (c.in_ok-after_args.ensures.args ∙ ap (rename_args (naming n2) n2.given) c.as_slice-3.ensures)
    (subst (λ (xs : List Arg). HaveGiven n2 (length xs) c.copy_args-2.new.names) c.as_slice-3.ensures c.in_ok-after_args.ensures.given)
    c.in_ok-after.ensures.ops c.in_ok-after.ensures.ends
