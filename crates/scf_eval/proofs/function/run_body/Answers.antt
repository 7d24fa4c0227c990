use Rattle.std.proofs.Common.{◌-◌, map, ap, ◌∙◌, arith}
use Rattle.std.proofs.lemmas.List.{length-map}
use Rattle.scf_eval.specs.Machine.{given}
use Rattle.scf_eval.specs.States.{numbers, number_of, event_of, plain_outcome}
use Rattle.scf_eval.proofs.Items.{few_labels, whole, first_state}
use Rattle.scf_eval.proofs.function.run_body.Goals as goal

pub begins_of-requires : goal.begins_of-requires
begins_of-requires c = rw (c.as_slice-items.ensures, c.as_slice-params.ensures) (few_labels c.args.f.now c.args.body.now c.args.args.now c.requires)

pub past_items-requires : goal.past_items-requires
past_items-requires c = rw (c.as_slice-items.ensures, c.as_slice-params.ensures) (few_labels c.args.f.now c.args.body.now c.args.args.now c.requires)

pub run_items-flow-requires : goal.run_items-flow-requires
run_items-flow-requires c = rw (c.as_slice-items.ensures, c.as_slice-params.ensures) (few_labels c.args.f.now c.args.body.now c.args.args.now c.requires)

pub returns-clause-outcome : goal.returns-clause-outcome
returns-clause-outcome c =
    (
    whole c.args.f.now c.args.body.now c.args.args.now c.args.replies.now c.args.budget c.as_slice-items.result.now c.as_slice-params.result.now c.in_ok-types.types.items c.as_slice.result.now (numbers c.in_ok-values.values.items)
    (numbers c.give.new.values.items) _ _ _ c.run_items-flow.result c.as_slice-3.result.now (plain_outcome c.in_ok-outcome.outcome) c.requires c.as_slice-items.ensures c.as_slice-params.ensures c.in_ok-types.ensures
    (c.as_slice.ensures.value ∙ c.in_ok-begins.ensures) (length-map c.in_ok-values.values.items number_of ∙ (c.in_ok-values.ensures ∙ c.past_items.ensures))
    (c.give.ensures ∙ ap (λ tys. given (numbers c.in_ok-values.values.items) 0 tys c.args.args.now) c.as_slice-2.ensures.value)
    (first_state c.args.budget (c.args.budget - 0) c.args.replies.now c.new.result.items (omega arith) c.new.ensures.items) c.as_slice-3.ensures c.run_items-flow.ensures c.in_ok-outcome.ensures
    ).0

pub returns-clause-trace : goal.returns-clause-trace
returns-clause-trace c =
    ap (λ events. map event_of events) c.from_vec.ensures
    ∙ (
    whole c.args.f.now c.args.body.now c.args.args.now c.args.replies.now c.args.budget c.as_slice-items.result.now c.as_slice-params.result.now c.in_ok-types.types.items c.as_slice.result.now (numbers c.in_ok-values.values.items)
    (numbers c.give.new.values.items) _ _ _ c.run_items-flow.result c.as_slice-3.result.now (plain_outcome c.in_ok-outcome.outcome) c.requires c.as_slice-items.ensures c.as_slice-params.ensures c.in_ok-types.ensures
    (c.as_slice.ensures.value ∙ c.in_ok-begins.ensures) (length-map c.in_ok-values.values.items number_of ∙ (c.in_ok-values.ensures ∙ c.past_items.ensures))
    (c.give.ensures ∙ ap (λ tys. given (numbers c.in_ok-values.values.items) 0 tys c.args.args.now) c.as_slice-2.ensures.value)
    (first_state c.args.budget (c.args.budget - 0) c.args.replies.now c.new.result.items (omega arith) c.new.ensures.items) c.as_slice-3.ensures c.run_items-flow.ensures c.in_ok-outcome.ensures
    ).1
