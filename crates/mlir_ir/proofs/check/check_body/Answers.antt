use Rattle.std.proofs.Common.{arith, ◌≡◌, ◌∙◌, sym, subst, None, take, ◌+◌}
use Rattle.std.proofs.lemmas.Grind.{common_steps}
use Rattle.std.proofs.lemmas.List.{take_all, drop_all}
use Rattle.mlir_ir.specs.Check.{first, items_breaks, past_items}
use Rattle.arith_word.specs.Labels.{label_at}
use Rattle.mlir_ir.specs.Outer.{KeepsLabels}
use Rattle.mlir_ir.specs.Values.{arg_values}
use Rattle.mlir_ir.proofs.Bodies.{item_first, next_item, item_last, body_broken, body_ended}
use Rattle.mlir_ir.proofs.ListedBreaks.{found_here, found_later}
use Rattle.mlir_ir.proofs.TypeAtTop.{KeepFrom, keep_more, kept_all}
use Rattle.mlir_ir.proofs.check.check_body.Goals as goal

pub returns-in_err-behind : goal.returns-in_err-behind
returns-in_err-behind c =
    let step = item_first c.args.func.now.index (arg_values (label_at c.args.func.now.index 0 0) c.as_slice-args.result.now) c.as_slice-items.result.now c.loop-k.k c.index-items-k.result c.loop-k-test.true c.index-items-k.is c.loop-k.behind in
    let whole = found_here _ _ _ _ _ c.loop-k.invariant.rest step c.in_err-behind.ensures.found in
    let broken = body_broken c.args.func.now c.args.body.now c.args.at _ c.requires.begin (rw (c.as_slice-items.ensures, c.as_slice-args.ensures) at whole) in
    grind (arith, common_steps, broken)

pub loop-k-preserved : goal.loop-k-preserved
loop-k-preserved c =
    let scope = arg_values (label_at c.args.func.now.index 0 0) c.as_slice-args.result.now in
    let m = c.in_ok-behind.ensures.last in
    let n = c.in_ok-behind.ensures.ops in
    let step = next_item c.args.func.now.index scope c.as_slice-items.result.now c.loop-k.k c.index-items-k.result c.loop-k-test.true c.index-items-k.is c.loop-k.behind _ m n in
    record {
      kept = keep_more 1 c.as_slice-items.result.now c.loop-k.k c.index-items-k.result c.loop-k-test.true c.loop-k.invariant.kept (subst (KeepsLabels (c.loop-k.k + 1)) c.index-items-k.is c.in_ok-behind.ensures.few);
      rest = found_later _ _ _ _ c.loop-k.invariant.rest step c.in_ok-behind.ensures.found;
      last = sym (item_last c.args.func.now.index scope c.as_slice-items.result.now c.loop-k.k c.index-items-k.result c.loop-k-test.true c.index-items-k.is c.loop-k.behind _ m n) ∙ c.loop-k.invariant.last;
    }

pub returns : goal.returns
returns c =
    let gone = drop_all c.loop-k.k c.as_slice-items.result.now c.loop-k-test.false in
    let none : first (items_breaks c.args.func.now.index 1 (arg_values (label_at c.args.func.now.index 0 0) c.as_slice-args.result.now) c.args.at c.as_slice-items.result.now) ≡ None =
    sym (rw gone at c.loop-k.invariant.rest) in
    let last : c.loop-k.behind.last ≡ (past_items c.args.func.now.index 1 c.as_slice-items.result.now c.args.at).last = rw gone at c.loop-k.invariant.last in
    let kept = rw (c.return_rules.ensures, c.as_slice-args.ensures, c.as_slice-results.ensures, c.as_slice-ret.ensures, c.as_slice-items.ensures) at c.keep.ensures.found in
    body_ended c.args.func.now c.args.body.now c.args.at c.loop-k.behind.last _ c.requires.begin (rw (c.as_slice-items.ensures, c.as_slice-args.ensures) at none) (rw c.as_slice-items.ensures at last) kept

pub invariant_of-outer-clause-few_labels : goal.invariant_of-outer-clause-few_labels
invariant_of-outer-clause-few_labels c = kept_all (take c.loop-k.k c.as_slice-items.result.now) c.loop-k.invariant.kept

pub invariant_of-outer-2-clause-few_labels : goal.invariant_of-outer-2-clause-few_labels
invariant_of-outer-2-clause-few_labels c = kept_all c.as_slice-items.result.now (subst (KeepFrom 1) (take_all c.loop-k.k c.as_slice-items.result.now c.loop-k-test.false) c.loop-k.invariant.kept)
