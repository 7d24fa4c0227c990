use Rattle.std.proofs.Common.{◌≡◌, ◌+◌, length, ◌∙◌, ap}
use Rattle.mlir_ir.specs.Operations.{next, nil, joined}
use Rattle.mlir_ir.specs.View.{view_for, view_ops}
use Rattle.pass_copy.specs.Copied.{fresh_by}
use Rattle.pass_copy.specs.Renamed.{anew, rename_packs}
use Rattle.pass_copy.proofs.JoinedOps.{joined_assoc}
use Rattle.pass_unroll.specs.Built.{loop_of}
use Rattle.pass_copy.specs.Built.{fresh_at, labels_from}
use Rattle.pass_unroll.specs.Children.{rest_kind}
use Rattle.pass_unroll.proofs.CopiesBehind.{naming_anew}
use Rattle.pass_unroll.proofs.unrolled.push_both.Goals as goal

pub returns-clause-ops : goal.returns-clause-ops
returns-clause-ops c plan factor =
    let source = c.args.source.now in
    let o = loop_of source in
    let t = source.start.0 in
    let old = c.args.out.now in
    let out1 = c.push_loop.new.out in
    let n0 = old.fresh in
    let first = c.in_ok-values.ensures in
    let named = c.in_ok-names.ensures in
    let packs : c.as_slice-packs.result.now ≡ o.packs = c.as_slice-packs.ensures in
    let fresh : fresh_at out1 ≡ fresh_at old = ap fresh_by first.names ∙ named.given.same in
    let given : out1.fresh.given ≡ old.fresh.given + length o.packs = (λ i. (first.names i).given) ∙ named.given.count ∙ (λ i. old.fresh.given + length (packs i)) in
    let rest : view_for c.in_ok-rest.rest ≡ rest_kind (fresh_at old) t plan o factor (old.fresh.given + length o.packs) (old.at + length o.results) (labels_from old.at (length o.results)) =
    c.in_ok-rest.ensures.parts plan factor ∙ (λ i. rest_kind (fresh i) t plan o factor (given i) (first.at i) (first.labels i)) in
    let names : c.in_ok-names.names ≡ rename_packs (anew (fresh_at old)) old.fresh.given o.packs =
    named.packs ∙ (λ i. rename_packs (naming_anew n0 c.requires.anew i) n0.given (packs i)) in
    c.in_ok-push_loop.ensures.ops
    ∙ (λ i. joined (((λ j. view_ops (c.in_ok-rest.ensures.ops j).items) ∙ first.ops) i) (next ((c.in_ok-names-2.ensures ∙ packs) i) o.results (rest i) nil))
    ∙ joined_assoc (view_ops old.ops.items) (next c.in_ok-names.names o.results (view_for c.args.main) nil)
    (next o.packs o.results (rest_kind (fresh_at old) t plan o factor (old.fresh.given + length o.packs) (old.at + length o.results) (labels_from old.at (length o.results))) nil)
    ∙ (λ i. joined (view_ops old.ops.items) (next (names i) o.results (view_for c.args.main)
    (next o.packs o.results (rest_kind (fresh_at old) t plan o factor (old.fresh.given + length o.packs) (old.at + length o.results) (labels_from old.at (length o.results))) nil)))
