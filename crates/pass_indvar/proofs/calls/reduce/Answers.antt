use Rattle.std.proofs.Common.{◌≡◌, ◌+◌, ◌-◌, length, ap, ◌∙◌, sym, subst, arith, List}
use Rattle.std.specs.Prelude.{nat_le}
use Rattle.mlir_ir.specs.Limits.{label_limit}
use Rattle.mlir_ir.specs.Operations.{labels_of, joined}
use Rattle.mlir_ir.specs.Reads.{plain_func}
use Rattle.mlir_ir.specs.View.{view_ops}
use Rattle.pass_copy.specs.Fresh.{fresh_names}
use Rattle.pass_copy.specs.InScope.{InScope}
use Rattle.pass_copy.specs.ItemLabels.{item_labels}
use Rattle.pass_copy.specs.Renaming.{renamed}
use Rattle.pass_copy.specs.Replaced.{op_labels, replaced_func}
use Rattle.pass_indvar.specs.Entries.{entries}
use Rattle.pass_indvar.specs.Grown.{progression_in, progressions_in}
use Rattle.pass_indvar.specs.Reductions.{first_progression, reduced, reduced_spans}
use Rattle.pass_indvar.proofs.MadeReductions.{nothing_reduced, found_starts, found_steps, none_has_room, child_fits, child_is, made_means}
use Rattle.pass_indvar.proofs.ReductionBreaks.{reduction_breaks}
use Rattle.pass_unroll.specs.Built.{loop_of}
use Rattle.pass_unroll.specs.Copies.{operation_of}
use Rattle.pass_indvar.proofs.calls.reduce.Goals as goal

pub returns-in_default-clause-child : goal.returns-in_default-clause-child
returns-in_default-clause-child c =
    let f = c.args.f.now in
    let t = c.args.target.0 in
    let source = c.in_ok-source.source in
    let o = loop_of source in
    let exprs = entries c.args.exprs.now in
    let start = ap (λ l. l.0) c.in_ok-source.ensures.start in
    let stands = c.in_ok-source.ensures.stands in
    let found = progressions_in c.in_ok-g.field-0 in
    let search = subst (λ x. InScope f x (λ T. found ≡ first_progression T x (x + 2 + length o.args) o.body exprs)) start c.in_ok-g.ensures in
    nothing_reduced f c.requires.formed t o stands exprs found search (ap progressions_in c.in_default.is)

pub push_reduced-requires-clause-starts : goal.push_reduced-requires-clause-starts
push_reduced-requires-clause-starts c =
    let f = c.args.f.now in
    let t = c.args.target.0 in
    let source = c.in_ok-source.source in
    let o = loop_of source in
    let exprs = entries c.args.exprs.now in
    let start = ap (λ l. l.0) c.in_ok-source.ensures.start in
    let stands = c.in_ok-source.ensures.stands in
    let found = progressions_in c.in_ok-g.field-0 in
    let search = subst (λ x. InScope f x (λ T. found ≡ first_progression T x (x + 2 + length o.args) o.body exprs)) start c.in_ok-g.ensures in
    let g = progression_in c.in-Some.g in
    let is = ap progressions_in c.in-Some.is in
    found_starts f c.requires.formed t o stands exprs found search g is

pub push_reduced-requires-clause-steps : goal.push_reduced-requires-clause-steps
push_reduced-requires-clause-steps c =
    let f = c.args.f.now in
    let t = c.args.target.0 in
    let source = c.in_ok-source.source in
    let o = loop_of source in
    let exprs = entries c.args.exprs.now in
    let start = ap (λ l. l.0) c.in_ok-source.ensures.start in
    let stands = c.in_ok-source.ensures.stands in
    let found = progressions_in c.in_ok-g.field-0 in
    let search = subst (λ x. InScope f x (λ T. found ≡ first_progression T x (x + 2 + length o.args) o.body exprs)) start c.in_ok-g.ensures in
    let g = progression_in c.in-Some.g in
    let is = ap progressions_in c.in-Some.is in
    found_steps f c.requires.formed t o stands exprs found search g is

pub returns-then-not-branch-clause-child : goal.returns-then-not-branch-clause-child
returns-then-not-branch-clause-child c =
    let f = c.args.f.now in
    let t = c.args.target.0 in
    let source = c.in_ok-source.source in
    let o = loop_of source in
    let exprs = entries c.args.exprs.now in
    let start = ap (λ l. l.0) c.in_ok-source.ensures.start in
    let stands = c.in_ok-source.ensures.stands in
    let found = progressions_in c.in_ok-g.field-0 in
    let search = subst (λ x. InScope f x (λ T. found ≡ first_progression T x (x + 2 + length o.args) o.body exprs)) start c.in_ok-g.ensures in
    let g = progression_in c.in-Some.g in
    let is = ap progressions_in c.in-Some.is in
    let begun = c.in_ok-out.ensures in
    let ops = c.in_ok-map.ensures.built ∙ (λ j. joined (view_ops (begun.ops j)) (reduced (begun.names j) (start j) o g)) in
    let count = c.in_ok-labels.ensures ∙ ap (λ xs. labels_of (view_ops xs)) c.as_slice.ensures.value ∙ ap labels_of ops in
    let own : source.end - source.start.0 ≡ op_labels (operation_of o) = omega arith in
    let room = c.in_ok-has_room.ensures ∙ ap (λ n. nat_le (item_labels f t + c.in_ok-labels.labels) (label_limit + n)) own in
    none_has_room f c.requires.formed t o stands exprs found search g is c.in_ok-labels.labels c.in_ok-has_room.field-0 count room c.if-not-branch.true

pub returns-clause-child : goal.returns-clause-child
returns-clause-child c =
    let f = c.args.f.now in
    let t = c.args.target.0 in
    let source = c.in_ok-source.source in
    let o = loop_of source in
    let exprs = entries c.args.exprs.now in
    let start = ap (λ l. l.0) c.in_ok-source.ensures.start in
    let stands = c.in_ok-source.ensures.stands in
    let found = progressions_in c.in_ok-g.field-0 in
    let search = subst (λ x. InScope f x (λ T. found ≡ first_progression T x (x + 2 + length o.args) o.body exprs)) start c.in_ok-g.ensures in
    let g = progression_in c.in-Some.g in
    let is = ap progressions_in c.in-Some.is in
    let begun = c.in_ok-out.ensures in
    let ops = c.in_ok-map.ensures.built ∙ (λ j. joined (view_ops (begun.ops j)) (reduced (begun.names j) (start j) o g)) in
    let count = c.in_ok-labels.ensures ∙ ap (λ xs. labels_of (view_ops xs)) c.as_slice.ensures.value ∙ ap labels_of ops in
    let own : source.end - source.start.0 ≡ op_labels (operation_of o) = omega arith in
    let room = c.in_ok-has_room.ensures ∙ ap (λ n. nat_le (item_labels f t + c.in_ok-labels.labels) (label_limit + n)) own in
    let child = c.in_ok-child.child in
    let spans = c.in_ok-map.ensures.map ∙ (λ j. reduced_spans (begun.names j) (start j) o g) in
    let built : plain_func child ≡ replaced_func (renamed (reduced_spans (fresh_names f) t o g)) t (reduced (fresh_names f) t o g) f =
    c.in_ok-child.ensures ∙ (λ j. replaced_func (renamed (spans j)) t ((ap view_ops c.as_slice-2.ensures.value ∙ ops) j) f) in (
      child_is f c.requires.formed t o stands exprs found search g is child built,
      child_fits f c.requires.formed t o stands exprs found search g is c.in_ok-labels.labels c.in_ok-has_room.field-0 count room child built c.if-not-branch.false,
    )

pub returns-clause-formed : goal.returns-clause-formed
returns-clause-formed c =
    let made = returns-clause-child c in
    reduction_breaks c.args.f.now c.in_ok-child.child c.args.target.0 (entries c.args.exprs.now) c.requires.formed made.0 made.1

pub returns-clause-meaning : goal.returns-clause-meaning
returns-clause-meaning c =
    let made = returns-clause-child c in
    made_means c.args.f.now c.in_ok-child.child c.args.target.0 (entries c.args.exprs.now) c.requires.formed made.0 made.1
