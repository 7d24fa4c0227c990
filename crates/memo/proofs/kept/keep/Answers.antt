use Rattle.std.proofs.Common.{◌≡◌, ◌≤◌, ℕ, ◌+◌, ◌%◌, [], length, refl, sym, ap, subst, ◌∙◌}
use Rattle.step_core.specs.Words.{version_of}
use Rattle.shared_table.specs.declared.sizes.Sizes.{Sizes}
use Rattle.memo.specs.Keeping.{MayKeep, KeepsBy, start}
use Rattle.memo.proofs.Gaining.{gains_both, stand_more, log_kept}
use Rattle.memo.proofs.Placing.{one_visit, kept_at, keeps_at}
use Rattle.memo.proofs.kept.keep.Goals as goal
use Rattle.memo.specs.Keys.{memo_place}
use Rattle.shared_table.specs.CellPuts.{path_place}

pub loop-k-init : goal.loop-k-init
loop-k-init g c = record { same = (refl, refl, refl, refl); grows = record { rest = refl; keys = λ at x h. h; cells = λ at x h. h }; events = ([], refl, start) }

pub keep_here-requires-clause-version : goal.keep_here-requires-clause-version
keep_here-requires-clause-version g c =
    let gains = gains_both c.args.p.now.view c.loop-k.p.view c.visit_key.new.p.view c.loop-k.invariant.grows c.visit_key.ensures.grows in
    subst (λ (k : ℕ). version_of k ≤ length c.visit_key.new.p.view.log) (sym c.key_word-key.ensures) (log_kept c.args.p.now.view c.visit_key.new.p.view _ gains c.requires.key.version)

pub keep_here-requires-clause-node : goal.keep_here-requires-clause-node
keep_here-requires-clause-node g c =
    let gains = gains_both c.args.p.now.view c.loop-k.p.view c.visit_key.new.p.view c.loop-k.invariant.grows c.visit_key.ensures.grows in
    subst (λ (k : ℕ). MayKeep g.M.MemoMeaning.meaning c.visit_key.new.p.view k c.args.n.0) (sym c.key_word-key.ensures) (stand_more g.M.MemoMeaning.meaning g.M.MemoMeaning.laws c.args.p.now.view c.visit_key.new.p.view _ c.args.n.0 gains c.requires.node)

pub returns-then-visit_key-key-clause-events : goal.returns-then-visit_key-key-clause-events
returns-then-visit_key-key-clause-events g c =
    let m = g.M.MemoMeaning.meaning in
    let z : Sizes = c.args.s.now.sizes in
    let at : (c.start-first.result + c.loop-k.k) % c.sizes-size.result.memo ≡ memo_place z.memo c.key_word-key.result c.loop-k.k = ap (λ (x : ℕ). (x + c.loop-k.k) % c.sizes-size.result.memo) c.start-first.ensures ∙ ap (λ (h : ℕ). path_place c.sizes-size.result.memo h c.loop-k.k) c.hashed.ensures ∙ ap (λ (y : Sizes). memo_place y.memo c.key_word-key.result c.loop-k.k) c.sizes-size.ensures in
    let k = kept_at m z c.args.p.now.view c.loop-k.p.view c.visit_key.new.p.view c.keep_here.new.p.view c.key_word-key.result c.loop-k.k _ c.visit_key.result c.args.n.0 c.keep_here.result c.loop-k-test.true at c.loop-k.invariant.events c.visit_key.ensures.events c.if-visit_key-key.true c.keep_here.ensures.events in
    subst (λ (x : ℕ). KeepsBy m z c.args.p.now.view x c.args.n.0 c.keep_here.result c.keep_here.new.p.view) c.key_word-key.ensures (k.0, k.1, keeps_at m z.memo c.key_word-key.result c.args.n.0 c.keep_here.result k.0 k.2)

pub loop-k-preserved : goal.loop-k-preserved
loop-k-preserved g c =
    let m = g.M.MemoMeaning.meaning in
    let z : Sizes = c.args.s.now.sizes in
    let i = c.loop-k.invariant in
    let e = c.visit_key.ensures in
    let s = e.same in
    let at : (c.start-first.result + c.loop-k.k) % c.sizes-size.result.memo ≡ memo_place z.memo c.key_word-key.result c.loop-k.k = ap (λ (x : ℕ). (x + c.loop-k.k) % c.sizes-size.result.memo) c.start-first.ensures ∙ ap (λ (h : ℕ). path_place c.sizes-size.result.memo h c.loop-k.k) c.hashed.ensures ∙ ap (λ (y : Sizes). memo_place y.memo c.key_word-key.result c.loop-k.k) c.sizes-size.ensures in
    record {
      same = (s.0 ∙ i.same.0, s.1 ∙ i.same.1, s.2 ∙ i.same.2, s.3 ∙ i.same.3);
      grows = gains_both c.args.p.now.view c.loop-k.p.view c.visit_key.new.p.view i.grows e.grows;
      events = one_visit m z c.args.p.now.view c.loop-k.p.view c.visit_key.new.p.view c.key_word-key.result c.loop-k.k _ c.visit_key.result at i.events e.events c.if-visit_key-key.false;
    }
