use Rattle.std.proofs.Common.{rules, ◌≡◌, ℕ, ◌==◌, false, [], refl, ap, ◌∙◌, sym, arith, List, length}
use Rattle.std.proofs.lemmas.Grind.{common_steps}
use Rattle.std.proofs.lemmas.Bool.Decides.{nat_tests}
use Rattle.mlir_ir.specs.declared.types.Region.{the_lemmas}
use Rattle.mlir_ir.specs.declared.types.ForParts.{out-ForParts}
use Rattle.mlir_ir.specs.declared.types.WhileParts.{out-WhileParts}
use Rattle.mlir_ir.specs.Runs.{Number}
use Rattle.scf_eval.specs.Machine.{step_kind, read}
use Rattle.mlir_ir.specs.View.{rows_of, ends_of}
use Rattle.scf_eval.specs.States.{slots, held, state_of}
use Rattle.scf_eval.proofs.Loops.{cut_moves, err_moves, for_cut, for_stops, for_ends, for_goes_on, while_stops, while_ends, while_cut, while_halts, while_goes_on, next_number, steps_same, copied_same, for_begins, while_begins, loop_begins, done_same}
use Rattle.mlir_ir.specs.declared.types.Arg.{Arg}
use Rattle.mlir_ir.proofs.PartViews.{for_parts, while_parts}
use Rattle.scf_eval.proofs.LoopLabels.{while_labels}
use Rattle.scf_eval.proofs.walk.+walk.Goals as goal

pub run_region-run_ops-requires : goal.run_region-run_ops-requires
run_region-run_ops-requires t c = (search (rules, the_lemmas), rw c.rows_of.ensures.rows c.requires.room)

pub run_while-run_ops-requires : goal.run_while-run_ops-requires
run_while-run_ops-requires t c =
    let a = ap (λ (xs : List Arg). length xs) c.as_slice.ensures in
    let parts = while_labels c.args.parts.now in
    (search (rules, the_lemmas), rw c.rows_of.ensures.rows (omega (arith, a, parts, c.requires)))

pub run_for-turns-init : goal.run_for-turns-init
run_for-turns-init t c =
    let q = out-ForParts c.args.parts.now in
    loop_begins _ _ _ _ _ c.hand.ensures.spent
    (for_begins (slots c.args.input.now) c.args.input.now.budget c.args.pos (held c.args.m.now) (state_of c.args.input.now c.args.m.now) q.lower q.upper q.step q.iv q.args q.inits (rows_of q.body) (ends_of q.body)
    _ _ _ _ _ _ _ _ c.read-lower.ensures c.read-upper.ensures c.read-step.ensures c.read-lower.result.below c.as_slice-args.ensures c.as_slice.ensures c.past_region-res.ensures c.hand.ensures.values c.hand.ensures.state
    ∙ sym (ap (λ kind. step_kind (slots c.args.input.now) kind [] c.args.input.now.budget c.args.pos (held c.args.m.now) (state_of c.args.input.now c.args.m.now)) (for_parts c.args.parts.now)))

pub run_for-turns-preserved : goal.run_for-turns-preserved
run_for-turns-preserved t c =
    let less = sym c.is_less.ensures ∙ c.turns-test.true in
    let begun = c.in_ok-begin_turn.ensures in
    let ran = c.in_ok-run_region.ensures in
    for_goes_on _ _ _ _ _ _ _ _ _ c.turns.invariant refl less _ _ _ c.word.ensures begun.values_are begun.spends _ _ _ _ ran.ends (omega (arith, begun.spent, ran.spends))
    (next_number c.read-lower.result.w c.turns.v c.read-step.result.v c.add-v.result c.add-v.ensures)

pub run_for-returns-in_err-begin_turn-clause-ends : goal.run_for-returns-in_err-begin_turn-clause-ends
run_for-returns-in_err-begin_turn-clause-ends t c =
    let less = sym c.is_less.ensures ∙ c.turns-test.true in
    let refused = c.in_err-begin_turn.ensures in
    let whole = cut_moves ℕ c.in_err-begin_turn.field-0.0 (held c.begin_turn.new.m) _ _ _ refused.cut refused.same (for_cut _ _ _ _ _ _ _ _ _ c.turns.invariant refl less refused.none) in
    grind (arith, common_steps, whole)

pub run_for-returns-in_err-run_region-clause-ends : goal.run_for-returns-in_err-run_region-clause-ends
run_for-returns-in_err-run_region-clause-ends t c =
    let less = sym c.is_less.ensures ∙ c.turns-test.true in
    let begun = c.in_ok-begin_turn.ensures in
    let whole = err_moves (Unit {0}) ℕ c.in_err-run_region.field-0.0 (held c.run_region.new.m) _ _ _
    (for_stops _ _ _ _ _ _ _ _ _ c.turns.invariant refl less _ _ _ c.word.ensures begun.values_are begun.spends) c.in_err-run_region.ensures.ends in
    grind (arith, common_steps, whole)

pub run_for-returns-clause-ends : goal.run_for-returns-clause-ends
run_for-returns-clause-ends t c =
    let more = sym c.is_less.ensures ∙ c.turns-test.false in
    for_ends _ _ _ _ _ _ _ _ _ c.turns.invariant refl more

pub run_while-rounds-init : goal.run_while-rounds-init
run_while-rounds-init t c =
    let q = out-WhileParts c.args.parts.now in
    loop_begins _ _ _ _ _ c.hand.ensures.spent
    (while_begins (slots c.args.input.now) c.args.input.now.budget c.args.pos (held c.args.m.now) (state_of c.args.input.now c.args.m.now) q.args q.inits (rows_of q.before) (ends_of q.before) q.cond q.after_args (rows_of q.after) (ends_of q.after)
    _ _ _ _ _ _ _ c.as_slice.ensures c.as_slice-2.ensures c.as_slice-3.ensures c.past_region-params.ensures c.past_region-res.ensures c.hand.ensures.values c.hand.ensures.state
    ∙ sym (ap (λ kind. step_kind (slots c.args.input.now) kind [] c.args.input.now.budget c.args.pos (held c.args.m.now) (state_of c.args.input.now c.args.m.now)) (while_parts c.args.parts.now)))

pub run_while-rounds-preserved : goal.run_while-rounds-preserved
run_while-rounds-preserved t c =
    let same = steps_same (slots c.args.input.now) c.args.input.now.budget _ (held c.rounds.m) (state_of c.args.input.now c.rounds.m) _ _ (sym c.rows_of.ensures.rows) in
    let ops = c.in_ok-run_ops.ensures in
    let begun = c.in_ok-begin_round.ensures in
    let ran = c.in_ok-run_region.ensures in
    let going : ((read (slots c.args.input.now) (held c.run_ops.new.m) (out-WhileParts c.args.parts.now).cond).v == 0) ≡ false = let e = ap (λ (n : Number). n.v) c.read.ensures in let f = c.if-read-eq0.false in grind (arith, nat_tests, e, f) in
    while_goes_on _ _ _ _ _ _ _ _ _ c.rounds.invariant _ same _ _ _ _ c.run_ops.new.m.spent _ _ _ ops.ends going begun.spends refl ops.spends (omega (arith, begun.spent, ran.spends))
    (begun.values_are ∙ copied_same _ _ _ _ _ c.ends_of-in-rounds.ensures) ran.ends

pub run_while-returns-in_err-run_ops-clause-ends : goal.run_while-returns-in_err-run_ops-clause-ends
run_while-returns-in_err-run_ops-clause-ends t c =
    let same = steps_same (slots c.args.input.now) c.args.input.now.budget _ (held c.rounds.m) (state_of c.args.input.now c.rounds.m) _ _ (sym c.rows_of.ensures.rows) in
    let whole = err_moves (Unit {0}) ℕ c.in_err-run_ops.field-0.0 (held c.run_ops.new.m) _ _ _ (while_stops _ _ _ _ _ _ _ _ _ c.rounds.invariant _ same) c.in_err-run_ops.ensures.ends in
    grind (arith, common_steps, whole)

pub run_while-returns-then-read-eq0-clause-ends : goal.run_while-returns-then-read-eq0-clause-ends
run_while-returns-then-read-eq0-clause-ends t c =
    let same = steps_same (slots c.args.input.now) c.args.input.now.budget _ (held c.rounds.m) (state_of c.args.input.now c.rounds.m) _ _ (sym c.rows_of.ensures.rows) in
    let ops = c.in_ok-run_ops.ensures in
    let gone = ap (λ (n : Number). n.v) c.read.ensures in
    let f = c.if-read-eq0.true in
    while_ends _ _ _ _ _ _ _ _ _ c.rounds.invariant _ same _ _ ops.ends (sym gone ∙ f)
    ∙ done_same _ _ _ _ (c.hand-then-read-eq0.ensures.values ∙ copied_same _ _ _ _ _ c.ends_of.ensures) c.hand-then-read-eq0.ensures.state

pub run_while-returns-in_err-begin_round-clause-ends : goal.run_while-returns-in_err-begin_round-clause-ends
run_while-returns-in_err-begin_round-clause-ends t c =
    let same = steps_same (slots c.args.input.now) c.args.input.now.budget _ (held c.rounds.m) (state_of c.args.input.now c.rounds.m) _ _ (sym c.rows_of.ensures.rows) in
    let ops = c.in_ok-run_ops.ensures in
    let going : ((read (slots c.args.input.now) (held c.run_ops.new.m) (out-WhileParts c.args.parts.now).cond).v == 0) ≡ false = let e = ap (λ (n : Number). n.v) c.read.ensures in let f = c.if-read-eq0.false in grind (arith, nat_tests, e, f) in
    let refused = c.in_err-begin_round.ensures in
    let whole = cut_moves ℕ c.in_err-begin_round.field-0.0 (held c.begin_round.new.m) _ _ _ refused.cut refused.same (while_cut _ _ _ _ _ _ _ _ _ c.rounds.invariant _ same _ _ ops.ends going refused.none) in
    grind (arith, common_steps, whole)

pub run_while-returns-in_err-run_region-clause-ends : goal.run_while-returns-in_err-run_region-clause-ends
run_while-returns-in_err-run_region-clause-ends t c =
    let same = steps_same (slots c.args.input.now) c.args.input.now.budget _ (held c.rounds.m) (state_of c.args.input.now c.rounds.m) _ _ (sym c.rows_of.ensures.rows) in
    let ops = c.in_ok-run_ops.ensures in
    let begun = c.in_ok-begin_round.ensures in
    let going : ((read (slots c.args.input.now) (held c.run_ops.new.m) (out-WhileParts c.args.parts.now).cond).v == 0) ≡ false = let e = ap (λ (n : Number). n.v) c.read.ensures in let f = c.if-read-eq0.false in grind (arith, nat_tests, e, f) in
    let whole = err_moves (Unit {0}) ℕ c.in_err-run_region.field-0.0 (held c.run_region.new.m) _ _ _
    (while_halts _ _ _ _ _ _ _ _ _ c.rounds.invariant _ same _ _ _ _ c.run_ops.new.m.spent ops.ends going begun.spends refl ops.spends (begun.values_are ∙ copied_same _ _ _ _ _ c.ends_of-in-rounds.ensures)) c.in_err-run_region.ensures.ends in
    grind (arith, common_steps, whole)
