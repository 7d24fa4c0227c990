use Rattle.std.proofs.Common.{◌≡◌, ◌+◌, length, ◌∙◌, ap, sym, arith}
use Rattle.mlir_ir.specs.Operations.{labels_of}
use Rattle.mlir_ir.specs.Reads.{plain_func}
use Rattle.pass_copy.specs.Built.{fresh_at}
use Rattle.pass_copy.specs.Fresh.{fresh_names}
use Rattle.pass_copy.specs.Renaming.{renamed}
use Rattle.pass_copy.specs.Replaced.{replaced_func}
use Rattle.pass_copy.proofs.ChildLabels.{child_labels_fit}
use Rattle.pass_unroll.specs.Built.{loop_of}
use Rattle.pass_unroll.specs.Children.{full_spans, unrolled_full}
use Rattle.pass_unroll.specs.Copies.{operation_of}
use Rattle.pass_unroll.proofs.ChildMeanings.{unrolled_full_means}
use Rattle.pass_unroll.proofs.FullChild.{full_ops, full_moves}
use Rattle.pass_unroll.proofs.LoopRooms.{same_loop, room_fits, no_room, child_made}
use Rattle.pass_unroll.proofs.TypedChildren.{unrolled_full_breaks}
use Rattle.pass_unroll.proofs.calls.unroll_full.Goals as goal

pub returns-then-not-branch-clause-child : goal.returns-then-not-branch-clause-child
returns-then-not-branch-clause-child c child is =
    let f = c.args.f.now in
    let t = c.args.target.0 in
    let plan = c.args.plan.now in
    let source = c.in_ok-source.source in
    let o = loop_of source in
    let fresh = fresh_names f in
    let found = c.in_ok-source.ensures in
    let start = ap (λ l. l.0) found.start in
    let e = same_loop f c.requires.formed t is.o o is.stands found.stands in
    let child_is : plain_func child ≡ replaced_func (renamed (full_spans fresh t plan o)) t (unrolled_full fresh t plan o) f =
    is.is ∙ (λ i. replaced_func (renamed (full_spans fresh t plan (e i))) t (unrolled_full fresh t plan (e i)) f) in
    let count : c.full_labels.result ≡ labels_of (unrolled_full fresh t plan o) = c.full_labels.ensures fresh ∙ (λ i. labels_of (unrolled_full fresh (start i) plan o)) in
    no_room f c.requires.formed t (operation_of o) found.stands source.start.0 c.full_labels.result c.in_ok-has_room.field-0 start c.in_ok-has_room.ensures
    (renamed (full_spans fresh t plan o)) (unrolled_full fresh t plan o) child count child_is c.if-not-branch.true

pub returns-clause-child : goal.returns-clause-child
returns-clause-child c =
    let f = c.args.f.now in
    let t = c.args.target.0 in
    let plan = c.args.plan.now in
    let source = c.in_ok-source.source in
    let o = loop_of source in
    let fresh = fresh_names f in
    let found = c.in_ok-source.ensures in
    let start = ap (λ l. l.0) found.start in
    let begun = c.in_ok-out.ensures in
    let child = c.in_ok-child.child in
    let out = c.in_ok-out.out in
    let made = c.in_ok-ends.ensures in
    let at : out.at ≡ source.start.0 = begun.at ∙ sym start in
    let ops = full_ops source.start.0 plan o out c.push_full.new.out at begun.given made.built in
    let results : source.results_at ≡ source.start.0 + 2 + length o.args + labels_of o.body = let x = source.results in let y = source.labels in omega arith in
    let moves =
    full_moves source.start.0 plan o out c.push_full.new.out at begun.given made.built source.results_at source.end c.in_ok-ends.ends c.as_slice.result.now c.in_ok-map.map.spans.items
    results source.behind (made.ends (fresh_at out)) c.as_slice.ensures c.in_ok-map.ensures in
    let child_is : plain_func child ≡ replaced_func (renamed (full_spans fresh t plan o)) t (unrolled_full fresh t plan o) f =
    child_made f child t source.start.0 out (λ names at. full_spans names at plan o) (λ names at. unrolled_full names at plan o)
    c.in_ok-map.map.spans.items c.as_slice-2.result.now _ start begun.names begun.ops moves ops c.as_slice-2.ensures.value c.in_ok-child.ensures in
    let count : c.full_labels.result ≡ labels_of (unrolled_full fresh t plan o) = c.full_labels.ensures fresh ∙ (λ i. labels_of (unrolled_full fresh (start i) plan o)) in
    let fits =
    room_fits f c.requires.formed t (operation_of o) found.stands source.start.0 c.full_labels.result c.in_ok-has_room.field-0 start c.in_ok-has_room.ensures
    (renamed (full_spans fresh t plan o)) (unrolled_full fresh t plan o) child count child_is c.if-not-branch.false in
    (record { o = o; stands = found.stands; is = child_is }, fits)

pub returns-clause-formed : goal.returns-clause-formed
returns-clause-formed c =
    let made = returns-clause-child c in
    unrolled_full_breaks c.args.f.now c.args.target.0 c.args.plan.now c.in_ok-child.child c.requires.formed made.0 made.1

pub returns-clause-meaning : goal.returns-clause-meaning
returns-clause-meaning c planned =
    let f = c.args.f.now in
    let t = c.args.target.0 in
    let plan = c.args.plan.now in
    let child = c.in_ok-child.child in
    let made = returns-clause-child c in
    let o = made.0.o in
    let fresh = fresh_names f in
    let fits = child_labels_fit f c.requires.formed (renamed (full_spans fresh t plan o)) t (unrolled_full fresh t plan o) (operation_of o) child made.0.stands made.0.is made.1 in
    unrolled_full_means f child t plan c.requires.formed fits made.0 c.requires.few planned
