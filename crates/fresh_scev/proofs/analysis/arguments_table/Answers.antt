use Rattle.std.proofs.Common.{◌∙◌, ap, length}
use Rattle.mlir_ir.specs.Rules.{arg_types}
use Rattle.fresh_scev.proofs.WalkedItems.{arguments_room, has_arguments}
use Rattle.fresh_scev.proofs.analysis.arguments_table.Goals as goal

pub define_own-requires-clause-room : goal.define_own-requires-clause-room
define_own-requires-clause-room c =
    let tys = c.deref.ensures.value ∙ c.in_ok-types.ensures ∙ ap arg_types c.as_slice.ensures in
    arguments_room c.args.f.now c.requires c.new-t.result (length c.deref.result.now) c.new-t.ensures.items c.new-t.ensures.here (ap length tys)

pub returns : goal.returns
returns c =
    let tys = c.deref.ensures.value ∙ c.in_ok-types.ensures ∙ ap arg_types c.as_slice.ensures in
    let s = c.new-t.ensures in
    has_arguments c.args.f.now c.requires c.new-t.result c.define_own.new.t c.seal.new.self c.deref.result.now tys s.func s.items s.here s.conditions c.in_ok-define_own.ensures c.in_ok-seal.ensures
