use Rattle.std.proofs.lemmas.Result.{on_ok_weaker}
use Rattle.pass_expand.proofs.AddedTerms.{term_added}
use Rattle.pass_expand.proofs.term.push_term.Goals as goal

pub returns-clause-built : goal.returns-clause-built
returns-clause-built c =
    on_ok_weaker c.push_products.result
    (term_added c.args.ty.now c.args.out.now c.constant.new.self c.push_products.new.out c.args.coefficient c.from.result c.in_ok-value.value.0 _ c.from.ensures c.in_ok-value.ensures.label
    c.in_ok-value.ensures.built)
    c.push_products.ensures.built
