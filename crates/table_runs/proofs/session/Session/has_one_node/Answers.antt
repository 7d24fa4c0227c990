use Rattle.std.proofs.Common.{ℕ, ◌<◌, List, length, refl, sym, ap, subst}
use Rattle.step_core.specs.declared.view.View.{View}
use Rattle.table_runs.proofs.Authors.{has_author}
use Rattle.table_runs.proofs.session.Session.has_one_node.Goals as goal

pub intern-requires-clause-author : goal.intern-requires-clause-author
intern-requires-clause-author c = has_author c.in-Some._author c.args.self.now.pass.view.authors (c.in-Some.ensures.owns c.in-Some._author refl)

pub intern-requires-2-clause-author : goal.intern-requires-2-clause-author
intern-requires-2-clause-author c =
    let before = has_author c.in-Some._author c.args.self.now.pass.view.authors (c.in-Some.ensures.owns c.in-Some._author refl) in
    subst (λ (l : List ℕ). 0 < length l) (sym (ap (λ (v : View). v.authors) c.in-Ok.ensures.grows.rest)) before
