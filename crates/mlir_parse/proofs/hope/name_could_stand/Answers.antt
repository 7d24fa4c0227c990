-- An accepted probe is an accepted name, and where none is accepted no name is.
use Rattle.std.proofs.Common.{◌<◌, ◌∙◌, sym, subst, arith, List, get_or}
use Rattle.std.proofs.lemmas.Bool.{MatchBool-at_true, MatchBool-at_false}
use Rattle.std.proofs.lemmas.Option.{slice_get-get_or}
use Rattle.mlir_ir.specs.Texts.{BeginsText}
use Rattle.mlir_ir.specs.declared.terminal.Terminal.{Terminal}
use Rattle.mlir_ir.specs.declared.terminal.Terminal.TheVariants.{Module}
use Rattle.mlir_parse.proofs.Hopes.{probes, probe_could, none_more, none_could}
use Rattle.mlir_parse.proofs.hope.name_could_stand.Goals as goal

pub probes-preserved : goal.probes-preserved
probes-preserved c =
    let inside : c.probes.probe-index < 4 = omega arith in
    none_more c.args.tokens.now c.probes.probe-index Module inside c.probes.invariant
    (λ begun.
    MatchBool-at_false _ _ c.if-branch.false c.in_ok-begins_text.ensures (subst (λ (ts : List Terminal). BeginsText ts) (sym (c.as_slice.ensures.value ∙ c.in_ok-more.ensures)) begun))

pub returns-then-branch : goal.returns-then-branch
returns-then-branch c =
    let inside : c.probes.probe-index < 4 = omega arith in
    probe_could c.args.tokens.now c.probes.probe-index (get_or probes c.probes.probe-index Module) (slice_get-get_or probes c.probes.probe-index Module inside)
    (subst (λ (ts : List Terminal). BeginsText ts) (c.as_slice.ensures.value ∙ c.in_ok-more.ensures) (MatchBool-at_true _ _ c.if-branch.true c.in_ok-begins_text.ensures))

pub returns : goal.returns
returns c = none_could c.args.tokens.now (λ i less t is begun. c.probes.invariant i (omega arith) t is begun)
