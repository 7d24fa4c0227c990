use Rattle.std.proofs.Common.{reverse, sym}
use Rattle.std.proofs.lemmas.List.{length-reverse}
use Rattle.std.proofs.lemmas.Result.{on_ok_weaker, IfOk-weaker}
use Rattle.arith_word.specs.declared.label.Label.{Label}
use Rattle.pass_expand.proofs.AddedTerms.{sum_added, sum_label}
use Rattle.pass_expand.proofs.term.add_term.Goals as goal

pub returns-in-Some-clause-value : goal.returns-in-Some-clause-value
returns-in-Some-clause-value c =
    IfOk-weaker c.sum.result _ _
    (λ (l : Label) e. sum_label c.args.ty.now c.args.out.now c.push_term.new.out c.args.coefficient (reverse c.args.symbols.now) c.args.sum c.in-Some.sum l c.in-Some.is c.in_ok-value.ensures.built e)
    c.sum.ensures.label

pub returns-in-Some-clause-built : goal.returns-in-Some-clause-built
returns-in-Some-clause-built c =
    on_ok_weaker c.sum.result
    (sum_added c.args.ty.now c.args.out.now c.push_term.new.out c.sum.new.self c.args.coefficient (reverse c.args.symbols.now) c.args.symbols.now c.args.sum c.in-Some.sum c.in_ok-value.value c.in-Some.is
    (sym (length-reverse c.args.symbols.now)) c.in_ok-value.ensures.label c.in_ok-value.ensures.built)
    c.sum.ensures.built
