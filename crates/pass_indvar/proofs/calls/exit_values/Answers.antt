use Rattle.std.proofs.Common.{◌≡◌, ◌+◌, ◌-◌, ◌==◌, ◌++◌, ◌∷◌, [], List, ap, ◌∙◌, sym, subst, arith, length}
use Rattle.std.specs.Prelude.{nat_le}
use Rattle.mlir_ir.specs.Limits.{label_limit}
use Rattle.mlir_ir.specs.Operations.{labels_of}
use Rattle.mlir_ir.specs.Reads.{plain_func}
use Rattle.mlir_ir.specs.View.{view_ops}
use Rattle.pass_copy.specs.Fresh.{fresh_names}
use Rattle.pass_copy.specs.Built.{IsBehind, fresh_at}
use Rattle.pass_copy.specs.ItemLabels.{item_labels}
use Rattle.pass_copy.specs.Places.{operation_in}
use Rattle.pass_copy.specs.Renaming.{renamed}
use Rattle.pass_copy.specs.Replaced.{StandsAt, replaced_func}
use Rattle.pass_indvar.specs.Built.{ArePlain, exits_in}
use Rattle.pass_indvar.specs.Entries.{entries}
use Rattle.pass_indvar.specs.declared.chosen.Chosen.{Chosen}
use Rattle.pass_indvar.specs.Exits.{Exit, exit_ops, exit_links, exit_spans, with_exits}
use Rattle.pass_indvar.proofs.EntryLists.{no_exits_in, some_exits_in}
use Rattle.pass_indvar.proofs.ExitBreaks.{exit_values_break}
use Rattle.pass_indvar.proofs.MadeExits.{found_plain, nothing_fits, none_has_room, child_fits, child_is, made_means, built_ops, built_at, built_spans}
use Rattle.pass_indvar.proofs.StandingLoops.{loop_there}
use Rattle.pass_indvar.proofs.calls.exit_values.Goals as goal

pub unreachable-requires : goal.unreachable-requires
unreachable-requires c =
    let stands = c.requires.stands in
    (rw c.in_default.is at c.in_ok-op.ensures) stands.0 (loop_there c.args.f.now c.args.target.0 stands.0 stands.1) stands.1

pub returns-then-is_empty-clause-child : goal.returns-then-is_empty-clause-child
returns-then-is_empty-clause-child c =
    let o = operation_in c.in-Some.op.now in
    let stands : StandsAt c.args.f.now c.args.target.0 o = (rw c.in-Some.is at c.in_ok-op.ensures).1 in
    nothing_fits c.args.f.now c.requires.formed c.args.target.0 o stands (entries c.args.exprs.now) (exits_in c.in_ok-found.found.items) c.in_ok-found.ensures
    (no_exits_in c.in_ok-found.found.items (ap (λ (xs : List Chosen). length xs == 0) (sym c.as_slice.ensures.value) ∙ sym c.if-is_empty.ensures))

pub push_exits-requires-clause-plain : goal.push_exits-requires-clause-plain
push_exits-requires-clause-plain c =
    let o = operation_in c.in-Some.op.now in
    let stands : StandsAt c.args.f.now c.args.target.0 o = (rw c.in-Some.is at c.in_ok-op.ensures).1 in
    subst (λ found. ArePlain (exits_in found)) (sym c.as_slice-2.ensures.value)
    (found_plain c.args.f.now c.requires.formed c.args.target.0 o stands (entries c.args.exprs.now) (exits_in c.in_ok-found.found.items) c.in_ok-found.ensures)

pub returns-then-not-branch-clause-child : goal.returns-then-not-branch-clause-child
returns-then-not-branch-clause-child c =
    let f = c.args.f.now in
    let t = c.args.target.0 in
    let o = operation_in c.in-Some.op.now in
    let exprs = entries c.args.exprs.now in
    let stands : StandsAt f t o = (rw c.in-Some.is at c.in_ok-op.ensures).1 in
    let es = exits_in c.in_ok-found.found.items in
    let out0 = c.in_ok-out.out in
    let out1 = c.push_loop.new.out in
    let out2 = c.push_exits.new.out in
    let begun = c.in_ok-out.ensures in
    let same = ap exits_in c.as_slice-2.ensures.value in
    let more = subst (λ (x : List Exit). IsBehind out1 (exit_ops (fresh_at out1) out1.fresh.given out1.at x) out2) same c.in_ok-push_exits.ensures.built in
    let at = built_at f t o es out0 out1 out2 begun.at begun.ops begun.names begun.given c.in_ok-push_loop.ensures more in
    let count : out2.at - t ≡ labels_of (with_exits (fresh_names f) t o es) = omega (arith, at) in
    let room = c.in_ok-has_room.ensures ∙ ap (λ n. nat_le (item_labels f t + (out2.at - t)) (label_limit + n)) c.in_ok-own.ensures in
    none_has_room f c.requires.formed t o stands exprs es c.in_ok-found.ensures (out2.at - t) c.in_ok-has_room.field-0 count room c.if-not-branch.true

pub returns-clause-child : goal.returns-clause-child
returns-clause-child c =
    let f = c.args.f.now in
    let t = c.args.target.0 in
    let o = operation_in c.in-Some.op.now in
    let exprs = entries c.args.exprs.now in
    let stands : StandsAt f t o = (rw c.in-Some.is at c.in_ok-op.ensures).1 in
    let es = exits_in c.in_ok-found.found.items in
    let out0 = c.in_ok-out.out in
    let out1 = c.push_loop.new.out in
    let out2 = c.push_exits.new.out in
    let begun = c.in_ok-out.ensures in
    let child = c.in_ok-child.child in
    let same = ap exits_in c.as_slice-2.ensures.value in
    let more = subst (λ (x : List Exit). IsBehind out1 (exit_ops (fresh_at out1) out1.fresh.given out1.at x) out2) same c.in_ok-push_exits.ensures.built in
    let at = built_at f t o es out0 out1 out2 begun.at begun.ops begun.names begun.given c.in_ok-push_loop.ensures more in
    let ops = built_ops f t o es out0 out1 out2 begun.at begun.ops begun.names begun.given c.in_ok-push_loop.ensures more in
    let links = c.in_ok-push_exits.ensures.links ∙ (λ j. c.new-spans.ensures.items j ++ exit_links out1.at (same j)) in
    let spans = built_spans f t o es out0 out1 out2 begun.at begun.ops begun.names begun.given c.in_ok-push_loop.ensures more c.push_exits.new.spans.items c.push.new.self.items links
    (c.in_ok-push.ensures.items ∙ (λ j. c.push_exits.new.spans.items ++ c.moved.ensures j ∷ [])) in
    let count : out2.at - t ≡ labels_of (with_exits (fresh_names f) t o es) = omega (arith, at) in
    let is : plain_func child ≡ replaced_func (renamed (exit_spans (fresh_names f) t o es)) t (with_exits (fresh_names f) t o es) f =
    c.in_ok-child.ensures ∙ (λ j. replaced_func (renamed (spans j)) t ((ap view_ops c.as_slice-3.ensures.value ∙ ops) j) f) in
    let room = c.in_ok-has_room.ensures ∙ ap (λ n. nat_le (item_labels f t + (out2.at - t)) (label_limit + n)) c.in_ok-own.ensures in
    let some = some_exits_in c.in_ok-found.found.items (ap (λ (xs : List Chosen). length xs == 0) (sym c.as_slice.ensures.value) ∙ sym c.if-is_empty.ensures) in (
      child_is f c.requires.formed t o stands exprs es c.in_ok-found.ensures child some is,
      child_fits f c.requires.formed t o stands exprs es c.in_ok-found.ensures (out2.at - t) c.in_ok-has_room.field-0 count room child is c.if-not-branch.false,
    )

pub returns-clause-formed : goal.returns-clause-formed
returns-clause-formed c =
    let made = returns-clause-child c in
    exit_values_break c.args.f.now c.in_ok-child.child c.args.target.0 (entries c.args.exprs.now) c.requires.formed made.0 made.1

pub returns-clause-meaning : goal.returns-clause-meaning
returns-clause-meaning c =
    let made = returns-clause-child c in
    made_means c.args.f.now c.in_ok-child.child c.args.target.0 (entries c.args.exprs.now) c.requires.formed made.0 made.1
