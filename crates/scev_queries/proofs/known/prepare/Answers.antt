use Rattle.std.proofs.Common.{◌<◌, length, not, ap, ◌∙◌, sym, subst}
use Rattle.scev_queries.proofs.KeptFunctions.{one_more, set_there, kept_there, function_there}
use Rattle.scev_queries.proofs.known.prepare.Goals as goal

pub returns-in_ok-know-clause-kept : goal.returns-in_ok-know-clause-kept
returns-in_ok-know-clause-kept c =
    let k = c.in_ok-know.field-0 in
    let is = function_there c.args.funcs.now c.args.at c.index-funcs-at.result k.func.now c.requires.within c.index-funcs-at.is c.in_ok-know.ensures.same in
    one_more c.args.funcs.now c.args.kept.now c.args.at k c.requires.kept is c.in_ok-know.ensures.known

pub returns-in_ok-know-clause-known : goal.returns-in_ok-know-clause-known
returns-in_ok-know-clause-known c =
    let k = c.in_ok-know.field-0 in
    let lt : c.args.at < length c.args.kept.now = subst (λ n. c.args.at < n) (sym c.requires.kept.many) c.requires.within in
    (k, set_there c.args.kept.now c.args.at k lt)

pub returns-else-is_none-clause-known : goal.returns-else-is_none-clause-known
returns-else-is_none-clause-known c =
    let lt : c.args.at < length c.args.kept.now = subst (λ n. c.args.at < n) (sym c.requires.kept.many) c.requires.within in
    kept_there c.args.kept.now c.args.at c.index-kept-at.result lt (c.is_none.ensures ∙ ap not c.if-is_none.false)
