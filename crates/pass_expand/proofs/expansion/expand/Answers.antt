use Rattle.std.proofs.lemmas.Result.{on_ok_weaker, IfOk-weaker}
use Rattle.scev_tree.specs.Tree.{polynomial_of}
use Rattle.pass_expand.proofs.AddedTrees.{walked, whole_value, whole_added, zero_value, zero_added}
use Rattle.pass_expand.proofs.expansion.expand.Goals as goal

pub returns-in-Some-clause-label : goal.returns-in-Some-clause-label
returns-in-Some-clause-label c =
    let p = polynomial_of c.args.e.now.tree in
    let now = c.add_tree.new.self.value in
    whole_value c.args.ty c.args.out.now c.add_tree.new.out now p
    (walked c.args.ty c.args.out.now c.add_tree.new.out now p c.new.result.items c.new.ensures.items c.in_ok-add_tree.ensures.value c.in_ok-add_tree.ensures.built) c.in-Some.value c.in-Some.is

pub returns-in-Some-clause-built : goal.returns-in-Some-clause-built
returns-in-Some-clause-built c =
    let p = polynomial_of c.args.e.now.tree in
    let now = c.add_tree.new.self.value in
    whole_added c.args.ty c.args.out.now c.add_tree.new.out now p
    (walked c.args.ty c.args.out.now c.add_tree.new.out now p c.new.result.items c.new.ensures.items c.in_ok-add_tree.ensures.value c.in_ok-add_tree.ensures.built) c.in-Some.value c.in-Some.is

pub returns-clause-label : goal.returns-clause-label
returns-clause-label c =
    let p = polynomial_of c.args.e.now.tree in
    let now = c.add_tree.new.self.value in
    IfOk-weaker c.constant.result _ _
    (zero_value c.args.ty c.args.out.now c.add_tree.new.out now p
    (walked c.args.ty c.args.out.now c.add_tree.new.out now p c.new.result.items c.new.ensures.items c.in_ok-add_tree.ensures.value c.in_ok-add_tree.ensures.built) c.in-None.is)
    c.constant.ensures.label

pub returns-clause-built : goal.returns-clause-built
returns-clause-built c =
    let p = polynomial_of c.args.e.now.tree in
    let now = c.add_tree.new.self.value in
    on_ok_weaker c.constant.result
    (zero_added c.args.ty c.args.out.now c.add_tree.new.out now p
    (walked c.args.ty c.args.out.now c.add_tree.new.out now p c.new.result.items c.new.ensures.items c.in_ok-add_tree.ensures.value c.in_ok-add_tree.ensures.built) c.in-None.is
    c.constant.new.self c.add_tree.new.self.ty c.in_ok-add_tree.ensures.ty)
    c.constant.ensures.built
