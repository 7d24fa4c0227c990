use Rattle.std.proofs.Common.{sym, subst}
use Rattle.pass_copy.specs.Places.{operation_in}
use Rattle.pass_copy.specs.Renaming.{renamed}
use Rattle.pass_indvar.specs.Grown.{IsPushedUnless}
use Rattle.pass_indvar.proofs.LeftOps.{none_pushed, one_pushed}
use Rattle.pass_indvar.proofs.reductions.push_unless.Goals as goal

pub returns-then-out : goal.returns-then-out
returns-then-out c =
    let f = renamed c.args.map.now.spans.items in
    let o = operation_in c.args.op.now in
    subst (λ b. IsPushedUnless f b o c.args.made.now.items c.args.names.now c.args.made.now.items c.args.names.now) (sym c.if-out.true)
    (none_pushed f o c.args.made.now.items c.args.made.now.items c.args.names.now c.args.names.now c.requires)

pub returns : goal.returns
returns c =
    let f = renamed c.args.map.now.spans.items in
    let o = operation_in c.args.op.now in
    subst (λ b. IsPushedUnless f b o c.args.made.now.items c.args.names.now c.push.new.self.items c.copy_op.new.names) (sym c.if-out.false)
    (one_pushed f o c.args.made.now.items c.push.new.self.items c.args.names.now c.copy_op.new.names c.requires c.in_ok-copy_op.field-0 c.in_ok-push.ensures.items c.in_ok-copy_op.ensures.given
    c.in_ok-copy_op.ensures.packs c.in_ok-copy_op.ensures.results c.in_ok-copy_op.ensures.kind)
