use Rattle.std.proofs.Common.{◌≡◌, ◌+◌, ◌++◌, List, map, take, [], ◌∷◌, refl, arith, ap, ◌∙◌, sym, subst}
use Rattle.std.specs.Result.{OnOk}
use Rattle.mlir_ir.specs.Rules as rules
use Rattle.mlir_ir.specs.ScopeFaults as faults
use Rattle.mlir_ir.specs.Source as source
use Rattle.mlir_ir.specs.Values.{Value, result_values}
use Rattle.mlir_ir.specs.Resolved.{packs_of}
use Rattle.mlir_scope.specs.Owns.{values_of_own}
use Rattle.mlir_scope.specs.Reading.{type_said}
use Rattle.mlir_ir.specs.declared.terminal.Terminal.{Terminal}
use Rattle.mlir_ir.specs.declared.terminal.Terminal.TheVariants as terminals
use Rattle.mlir_scope.specs.Blocks.{operations}
use Rattle.mlir_scope.specs.Noted.{noted}
use Rattle.mlir_scope.specs.Said.{said}
use Rattle.mlir_scope.specs.Scopes.{scope_said}
use Rattle.mlir_scope.specs.Texts.{funcs_in}
use Rattle.mlir_scope.specs.Walked.{breaks_of_kind, values_of_operation, steps}
use Rattle.mlir_scope.specs.Walks.{Notes, in_scope, breaks_of_else, breaks_at_else, breaks_of_body, breaks_before, breaks_after, for_values, while_values, after_values, breaks_of_header, packs_said, wanted_types, listed_tys}
use Rattle.mlir_scope.proofs.Notes.{noted_pair, noted_regions, noted_loop}
use Rattle.mlir_scope.proofs.Regions.{region_noted, header_noted, inner_loop}
use Rattle.mlir_scope.proofs.WalkParts.{block_step, scope_step, plain_kind}
use Rattle.mlir_scope.proofs.walk.+walking.Goals as goal

pub note_else-returns : goal.note_else-returns
note_else-returns t c =
    let tokens = c.args.text.now.tokens.now in
    let funcs = funcs_in c.args.text.now in
    let kind = said tokens c.args.kind.now in
    let wanted = wanted_types kind in
    let scope = in_scope c.args.w.now in
    let best = c.args.w.now.first.best in
    let block = source.region_behind kind in
    let one = c.in_ok-note_block.ensures in
    let end = c.in_ok-note_else_end.ensures in
    let all =
    region_noted best c.note_block.new.w.first.best c.note_else_end.new.w.first.best c.len-len.result scope (in_scope c.note_block.new.w) (scope_said c.truncate.new.self)
    (faults.defined_by block) (faults.block_breaks funcs block c.args.loops scope) (λ s. breaks_at_else s kind wanted)
    (one.noted_all ∙ ap (λ b. noted best (faults.block_breaks funcs b c.args.loops scope)) c.second_ops.ensures)
    (one.scope ∙ ap (λ b. scope ++ faults.defined_by b) c.second_ops.ensures)
    end.noted_all
    c.len-len.ensures
    (c.truncate.ensures ∙ ap (λ (s : List Value). take c.len-len.result s) end.same) in
    record { noted_all = all.0; same = all.1 }

pub note_if-returns : goal.note_if-returns
note_if-returns t c =
    let tokens = c.args.text.now.tokens.now in
    let funcs = funcs_in c.args.text.now in
    let kind = said tokens c.args.kind.now in
    let wanted = wanted_types kind in
    let scope = in_scope c.args.w.now in
    let best = c.args.w.now.first.best in
    let block = source.region kind in
    let header = c.in_ok-note_if_header.ensures in
    let one = c.in_ok-note_block.ensures in
    let end = c.in_ok-note_region_end.ensures in
    let last = c.in_ok-note_else.ensures in
    let tested = c.note_if_header.new.w.first.best in
    let after = in_scope c.note_if_header.new.w in
    let noted_then = c.note_region_end.new.w.first.best in
    let all =
    region_noted tested c.note_block.new.w.first.best noted_then c.len-len.result scope (in_scope c.note_block.new.w) (scope_said c.truncate.new.self)
    (faults.defined_by block) (faults.block_breaks funcs block c.args.loops scope) (λ s. faults.region_ending s (source.word kind).at wanted (source.region_parts kind))
    (one.noted_all ∙ ap (λ b. noted tested (faults.block_breaks funcs b c.args.loops after)) (c.first_ops.ensures tokens) ∙ ap (λ s. noted tested (faults.block_breaks funcs block c.args.loops s)) header.same)
    (one.scope ∙ ap (λ b. after ++ faults.defined_by b) (c.first_ops.ensures tokens) ∙ ap (λ (s : List Value). s ++ faults.defined_by block) header.same)
    end.noted_all
    c.len-len.ensures
    (c.truncate.ensures ∙ ap (λ (s : List Value). take c.len-len.result s) end.same) in
    let other = source.region_behind kind in
    record {
      noted_all =
          noted_regions best tested noted_then c.note_else.new.w.first.best
          (faults.type_breaks scope (source.uses_in kind) (rules.truth ∷ []))
          (faults.block_breaks funcs block c.args.loops scope)
          (faults.region_ending (scope ++ faults.defined_by block) (source.word kind).at wanted (source.region_parts kind))
          (faults.block_breaks funcs other c.args.loops scope)
          (breaks_at_else (scope ++ faults.defined_by other) kind wanted)
          header.noted_all all.0
          (last.noted_all ∙ ap (λ s. noted noted_then (breaks_of_else funcs c.args.loops s kind wanted)) all.1);
      same = last.same ∙ all.1;
    }

pub note_body-returns : goal.note_body-returns
note_body-returns t c =
    let tokens = c.args.text.now.tokens.now in
    let funcs = funcs_in c.args.text.now in
    let kind = said tokens c.args.kind.now in
    let wanted = wanted_types kind in
    let scope = in_scope c.args.w.now in
    let best = c.args.w.now.first.best in
    let block = source.region kind in
    let values = for_values kind wanted in
    let one = c.in_ok-note_block.ensures in
    let end = c.in_ok-note_region_end.ensures in
    let inner = scope_said c.push_for.new.scope in
    let all =
    header_noted best c.note_block.new.w.first.best c.note_region_end.new.w.first.best c.len-len.result scope inner (in_scope c.note_block.new.w) (scope_said c.truncate.new.self)
    values (faults.defined_by block) (λ s. faults.block_breaks funcs block (c.args.loops + 1) s) (λ s. faults.region_ending s (source.word kind).at wanted (source.region_parts kind))
    c.in_ok-push_for.ensures
    (one.noted_all ∙ ap (λ b. noted best (faults.block_breaks funcs b c.one_more.result inner)) (c.first_ops.ensures tokens) ∙ ap (noted best) (inner_loop funcs block c.args.loops c.one_more.result inner c.one_more.ensures))
    (one.scope ∙ ap (λ b. inner ++ faults.defined_by b) (c.first_ops.ensures tokens))
    end.noted_all
    c.len-len.ensures
    (c.truncate.ensures ∙ ap (λ (s : List Value). take c.len-len.result s) end.same) in
    record { noted_all = all.0; same = all.1 }

pub note_before-returns : goal.note_before-returns
note_before-returns t c =
    let tokens = c.args.text.now.tokens.now in
    let funcs = funcs_in c.args.text.now in
    let kind = said tokens c.args.kind.now in
    let wanted = wanted_types kind in
    let scope = in_scope c.args.w.now in
    let best = c.args.w.now.first.best in
    let block = source.region kind in
    let values = while_values kind in
    let one = c.in_ok-note_block.ensures in
    let end = c.in_ok-note_before_end.ensures in
    let inner = scope_said c.push_while.new.scope in
    let all =
    header_noted best c.note_block.new.w.first.best c.note_before_end.new.w.first.best c.len-len.result scope inner (in_scope c.note_block.new.w) (scope_said c.truncate.new.self)
    values (faults.defined_by block) (λ s. faults.block_breaks funcs block (c.args.loops + 1) s) (λ s. faults.condition_breaks s kind wanted)
    c.in_ok-push_while.ensures
    (one.noted_all ∙ ap (λ b. noted best (faults.block_breaks funcs b c.one_more.result inner)) (c.first_ops.ensures tokens) ∙ ap (noted best) (inner_loop funcs block c.args.loops c.one_more.result inner c.one_more.ensures))
    (one.scope ∙ ap (λ b. inner ++ faults.defined_by b) (c.first_ops.ensures tokens))
    end.noted_all
    c.len-len.ensures
    (c.truncate.ensures ∙ ap (λ (s : List Value). take c.len-len.result s) end.same) in
    record { noted_all = all.0; same = all.1 }

pub note_after-returns : goal.note_after-returns
note_after-returns t c =
    let tokens = c.args.text.now.tokens.now in
    let funcs = funcs_in c.args.text.now in
    let kind = said tokens c.args.kind.now in
    let wanted = wanted_types kind in
    let scope = in_scope c.args.w.now in
    let best = c.args.w.now.first.best in
    let block = source.region_behind kind in
    let values = after_values kind in
    let one = c.in_ok-note_block.ensures in
    let end = c.in_ok-note_after_end.ensures in
    let inner = scope_said c.push_after.new.scope in
    let all =
    header_noted best c.note_block.new.w.first.best c.note_after_end.new.w.first.best c.len-len.result scope inner (in_scope c.note_block.new.w) (scope_said c.truncate.new.self)
    values (faults.defined_by block) (λ s. faults.block_breaks funcs block (c.args.loops + 1) s) (λ s. faults.ending_breaks s (listed_tys kind) (source.ending terminals.Yield (source.after_parts kind)))
    c.in_ok-push_after.ensures
    (one.noted_all ∙ ap (λ b. noted best (faults.block_breaks funcs b c.one_more.result inner)) (c.second_ops.ensures) ∙ ap (noted best) (inner_loop funcs block c.args.loops c.one_more.result inner c.one_more.ensures))
    (one.scope ∙ ap (λ b. inner ++ faults.defined_by b) (c.second_ops.ensures))
    end.noted_all
    c.len-len.ensures
    (c.truncate.ensures ∙ ap (λ (s : List Value). take c.len-len.result s) end.same) in
    record { noted_all = all.0; same = all.1 }

pub note_for-returns : goal.note_for-returns
note_for-returns t c =
    let tokens = c.args.text.now.tokens.now in
    let funcs = funcs_in c.args.text.now in
    let kind = said tokens c.args.kind.now in
    let wanted = wanted_types kind in
    let scope = in_scope c.args.w.now in
    let best = c.args.w.now.first.best in
    let block = source.region kind in
    let header = c.in_ok-note_for_header.ensures in
    let body = c.in_ok-note_body.ensures in
    let one = c.note_for_header.new.w.first.best in
    let inner = scope ++ for_values kind wanted in
    record {
      noted_all =
          noted_pair best one c.note_body.new.w.first.best (breaks_of_header c.args.loops scope kind) (faults.block_breaks funcs block (c.args.loops + 1) inner)
          (faults.region_ending (inner ++ faults.defined_by block) (source.word kind).at wanted (source.region_parts kind))
          header.noted_all
          (body.noted_all ∙ ap (λ (s : List Value). noted one (breaks_of_body funcs c.args.loops (s ++ for_values kind wanted) kind wanted)) header.same);
      same = body.same ∙ header.same;
    }

pub note_while-returns : goal.note_while-returns
note_while-returns t c =
    let tokens = c.args.text.now.tokens.now in
    let funcs = funcs_in c.args.text.now in
    let kind = said tokens c.args.kind.now in
    let wanted = wanted_types kind in
    let scope = in_scope c.args.w.now in
    let best = c.args.w.now.first.best in
    let block = source.region kind in
    let other = source.region_behind kind in
    let header = c.in_ok-note_while_header.ensures in
    let before = c.in_ok-note_before.ensures in
    let params = c.in_ok-note_after_params.ensures in
    let after = c.in_ok-note_after.ensures in
    let one = c.note_while_header.new.w.first.best in
    let two = c.note_before.new.w.first.best in
    let three = c.note_after_params.new.w.first.best in
    let first = scope ++ while_values kind in
    let second = scope ++ after_values kind in
    let kept = before.same ∙ header.same in
    let still = params.same ∙ kept in
    record {
      noted_all =
          noted_loop best one two three c.note_after.new.w.first.best
          (faults.carried_breaks scope c.args.loops kind [] (listed_tys kind))
          (faults.block_breaks funcs block (c.args.loops + 1) first)
          (faults.condition_breaks (first ++ faults.defined_by block) kind wanted)
          (faults.params_breaks scope (source.word kind).at wanted (source.after_params kind))
          (faults.block_breaks funcs other (c.args.loops + 1) second)
          (faults.ending_breaks (second ++ faults.defined_by other) (listed_tys kind) (source.ending terminals.Yield (source.after_parts kind)))
          header.noted_all
          (before.noted_all ∙ ap (λ (s : List Value). noted one (breaks_before funcs c.args.loops (s ++ while_values kind) kind wanted)) header.same)
          (params.noted_all ∙ ap (λ s. noted two (faults.params_breaks s (source.word kind).at wanted (source.after_params kind))) kept)
          (after.noted_all ∙ ap (λ (s : List Value). noted three (breaks_after funcs c.args.loops (s ++ after_values kind) kind)) still);
      same = after.same ∙ still;
    }

pub note_kind-returns-in-If : goal.note_kind-returns-in-If
note_kind-returns-in-If t c =
    let funcs = funcs_in c.args.text.now in
    let kind = said c.args.text.now.tokens.now c.args.kind.now in
    subst
    (λ (h : Terminal). OnOk c.note_if.result (Notes c.args.w.now c.note_if.new.w (faults.kind_breaks funcs c.args.loops (in_scope c.args.w.now) h kind (source.region kind) (source.region_behind kind) (faults.block_breaks funcs (source.region kind)) (faults.block_breaks funcs (source.region_behind kind)))))
    (sym c.in-If.is ∙ c.head.ensures) c.note_if.ensures

pub note_kind-returns-in-For : goal.note_kind-returns-in-For
note_kind-returns-in-For t c =
    let funcs = funcs_in c.args.text.now in
    let kind = said c.args.text.now.tokens.now c.args.kind.now in
    subst
    (λ (h : Terminal). OnOk c.note_for.result (Notes c.args.w.now c.note_for.new.w (faults.kind_breaks funcs c.args.loops (in_scope c.args.w.now) h kind (source.region kind) (source.region_behind kind) (faults.block_breaks funcs (source.region kind)) (faults.block_breaks funcs (source.region_behind kind)))))
    (sym c.in-For.is ∙ c.head.ensures) c.note_for.ensures

pub note_kind-returns-in-While : goal.note_kind-returns-in-While
note_kind-returns-in-While t c =
    let funcs = funcs_in c.args.text.now in
    let kind = said c.args.text.now.tokens.now c.args.kind.now in
    subst
    (λ (h : Terminal). OnOk c.note_while.result (Notes c.args.w.now c.note_while.new.w (faults.kind_breaks funcs c.args.loops (in_scope c.args.w.now) h kind (source.region kind) (source.region_behind kind) (faults.block_breaks funcs (source.region kind)) (faults.block_breaks funcs (source.region_behind kind)))))
    (sym c.in-While.is ∙ c.head.ensures) c.note_while.ensures

pub note_kind-returns-in_ok-note_simple-in_default : goal.note_kind-returns-in_ok-note_simple-in_default
note_kind-returns-in_ok-note_simple-in_default t c =
    let funcs = funcs_in c.args.text.now in
    let kind = said c.args.text.now.tokens.now c.args.kind.now in
    let scope = in_scope c.args.w.now in
    record {
      noted_all =
          c.in_ok-note_simple-in_default.ensures
          ∙ ap (noted c.args.w.now.first.best)
          (sym (plain_kind funcs c.args.loops scope (source.head kind) kind (source.region kind) (source.region_behind kind) (faults.block_breaks funcs (source.region kind)) (faults.block_breaks funcs (source.region_behind kind))
          (λ e. c.in_default.not-If (c.head.ensures ∙ e)) (λ e. c.in_default.not-For (c.head.ensures ∙ e)) (λ e. c.in_default.not-While (c.head.ensures ∙ e))));
      same = refl;
    }

pub note_block-each-preserved : goal.note_block-each-preserved
note_block-each-preserved t c =
    let tokens = c.args.text.now.tokens.now in
    let funcs = funcs_in c.args.text.now in
    let o = c.in-Some.o in
    let kind = said tokens o.kind.now in
    let packs = packs_said tokens o in
    let scope = in_scope c.each.w in
    let own = c.in_ok-note_own.ensures in
    let kinds = c.in_ok-note_kind.ensures in
    let results = c.in_ok-own.ensures in
    let values : values_of_own c.in_ok-own.own ≡ values_of_operation packs kind =
    ap (λ ps. result_values 0 (packs_of ps) (map type_said c.in_ok-own.own.types.items)) results.named ∙ ap (result_values 0 (packs_of packs)) results.typed in
    let put =
    c.in_ok-push_own.ensures ∙ ap (λ (s : List Value). s ++ values_of_own c.in_ok-own.own) (kinds.same ∙ own.same)
    ∙ ap (λ (vs : List Value). in_scope c.each.w ++ vs) values in
    let rest = operations tokens c.in-Some.rest in
    let all = operations tokens c.each.left in
    let step =
    block_step funcs c.args.loops o.at packs kind all rest scope (scope_said c.push_own.new.scope) c.each.w.first.best c.note_own.new.w.first.best c.note_kind.new.w.first.best
    c.in-Some.ensures own.noted_all (kinds.noted_all ∙ ap (λ s. noted c.note_own.new.w.first.best (breaks_of_kind funcs c.args.loops s kind)) own.same) put in
    let scopes = scope_step o.at packs kind all rest scope (scope_said c.push_own.new.scope) c.in-Some.ensures put in
    let fewer = ap steps c.in-Some.ensures in
    (step ∙ c.each.invariant.0, scopes ∙ c.each.invariant.1, omega (arith, fewer, c.each.invariant.2))
