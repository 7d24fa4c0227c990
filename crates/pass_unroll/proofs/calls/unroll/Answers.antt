use Rattle.std.proofs.Common.{◌≡◌, ◌∙◌, ap}
use Rattle.mlir_ir.specs.Operations.{labels_of}
use Rattle.mlir_ir.specs.Reads.{plain_func}
use Rattle.pass_copy.specs.Fresh.{fresh_names}
use Rattle.pass_copy.specs.Renaming.{renamed}
use Rattle.pass_copy.specs.Replaced.{replaced_func}
use Rattle.pass_copy.proofs.ChildLabels.{child_labels_fit}
use Rattle.pass_unroll.specs.Built.{loop_of}
use Rattle.pass_unroll.specs.Children.{unroll_spans, unrolled}
use Rattle.pass_unroll.specs.Copies.{operation_of}
use Rattle.pass_unroll.proofs.ChildMeanings.{unrolled_means}
use Rattle.pass_unroll.proofs.LoopRooms.{same_loop, room_fits, no_room, child_made}
use Rattle.pass_unroll.proofs.TypedChildren.{unrolled_breaks}
use Rattle.pass_unroll.proofs.calls.unroll.Goals as goal

pub returns-then-not-branch-clause-child : goal.returns-then-not-branch-clause-child
returns-then-not-branch-clause-child c child is =
    let f = c.args.f.now in
    let t = c.args.target.0 in
    let plan = c.args.plan.now in
    let factor = c.args.factor in
    let source = c.in_ok-source.source in
    let o = loop_of source in
    let fresh = fresh_names f in
    let found = c.in_ok-source.ensures in
    let start = ap (λ l. l.0) found.start in
    let e = same_loop f c.requires.formed t is.o o is.stands found.stands in
    let child_is : plain_func child ≡ replaced_func (renamed (unroll_spans fresh t plan o factor)) t (unrolled fresh t plan o factor) f =
    is.is ∙ (λ i. replaced_func (renamed (unroll_spans fresh t plan (e i) factor)) t (unrolled fresh t plan (e i) factor) f) in
    let count : c.unrolled_labels.result ≡ labels_of (unrolled fresh t plan o factor) = c.unrolled_labels.ensures fresh ∙ (λ i. labels_of (unrolled fresh (start i) plan o factor)) in
    no_room f c.requires.formed t (operation_of o) found.stands source.start.0 c.unrolled_labels.result c.in_ok-has_room.field-0 start c.in_ok-has_room.ensures
    (renamed (unroll_spans fresh t plan o factor)) (unrolled fresh t plan o factor) child count child_is c.if-not-branch.true

pub returns-clause-child : goal.returns-clause-child
returns-clause-child c =
    let f = c.args.f.now in
    let t = c.args.target.0 in
    let plan = c.args.plan.now in
    let factor = c.args.factor in
    let source = c.in_ok-source.source in
    let o = loop_of source in
    let fresh = fresh_names f in
    let found = c.in_ok-source.ensures in
    let start = ap (λ l. l.0) found.start in
    let begun = c.in_ok-out.ensures in
    let child = c.in_ok-child.child in
    let child_is : plain_func child ≡ replaced_func (renamed (unroll_spans fresh t plan o factor)) t (unrolled fresh t plan o factor) f =
    child_made f child t source.start.0 c.in_ok-out.out (λ names at. unroll_spans names at plan o factor) (λ names at. unrolled names at plan o factor)
    c.in_ok-map.map.spans.items c.as_slice.result.now _ start begun.names begun.ops c.in_ok-map.ensures.map c.in_ok-map.ensures.built c.as_slice.ensures.value c.in_ok-child.ensures in
    let count : c.unrolled_labels.result ≡ labels_of (unrolled fresh t plan o factor) = c.unrolled_labels.ensures fresh ∙ (λ i. labels_of (unrolled fresh (start i) plan o factor)) in
    let fits =
    room_fits f c.requires.formed t (operation_of o) found.stands source.start.0 c.unrolled_labels.result c.in_ok-has_room.field-0 start c.in_ok-has_room.ensures
    (renamed (unroll_spans fresh t plan o factor)) (unrolled fresh t plan o factor) child count child_is c.if-not-branch.false in
    (record { o = o; stands = found.stands; is = child_is }, fits)

pub returns-clause-formed : goal.returns-clause-formed
returns-clause-formed c =
    let made = returns-clause-child c in
    unrolled_breaks c.args.f.now c.args.target.0 c.args.factor c.args.plan.now c.in_ok-child.child c.requires.formed made.0 made.1

pub returns-clause-meaning : goal.returns-clause-meaning
returns-clause-meaning c planned =
    let f = c.args.f.now in
    let t = c.args.target.0 in
    let plan = c.args.plan.now in
    let factor = c.args.factor in
    let child = c.in_ok-child.child in
    let made = returns-clause-child c in
    let o = made.0.o in
    let fresh = fresh_names f in
    let fits = child_labels_fit f c.requires.formed (renamed (unroll_spans fresh t plan o factor)) t (unrolled fresh t plan o factor) (operation_of o) child made.0.stands made.0.is made.1 in
    unrolled_means f child t plan c.requires.formed fits c.args.factor made.0 planned
