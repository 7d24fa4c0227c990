use Rattle.mlir_print.proofs.Items.{begun, named_within}
use Rattle.mlir_print.proofs.naming.Names.new.Goals as goal

pub invariant_of-result : goal.invariant_of-result
invariant_of-result c =
    let first = begun _ c.push.new.self.items _ _ c.args.func.now.args _ c.new-rows.ensures.items c.new-args.ensures.items c.as_slice.ensures c.in_ok-add_args.ensures _ c.from_vec.ensures c.in_ok-push.ensures.items in
    named_within c.args.func.now c.push.new.self.items _ c.requires first.0 first.2 c.in_ok-add_body.ensures
