use Rattle.std.proofs.Common.{◌≡◌, ℕ, ◌+◌, ◌%◌, [], refl, ap, ◌∙◌}
use Rattle.shared_table.specs.declared.sizes.Sizes.{Sizes}
use Rattle.memo.specs.Seeking.{start}
use Rattle.memo.proofs.Gaining.{gains_both, load_key_gains}
use Rattle.memo.proofs.Looking.{one_other, ends_empty, ends_own}
use Rattle.memo.proofs.met.seek.Goals as goal
use Rattle.memo.specs.Keys.{memo_place}
use Rattle.shared_table.specs.CellPuts.{path_place}

pub loop-k-init : goal.loop-k-init
loop-k-init g c = record { same = (refl, refl, refl, refl); grows = record { rest = refl; keys = λ at x h. h; cells = λ at x h. h }; events = ([], refl, start) }

pub returns-then-word-eq0-clause-events : goal.returns-then-word-eq0-clause-events
returns-then-word-eq0-clause-events g c =
    let z : Sizes = c.args.s.now.sizes in
    let e = c.load_key-word.ensures in
    let at : (c.start-first.result + c.loop-k.k) % c.sizes-size.result.memo ≡ memo_place z.memo c.args.key c.loop-k.k = ap (λ (x : ℕ). (x + c.loop-k.k) % c.sizes-size.result.memo) c.start-first.ensures ∙ ap (λ (h : ℕ). path_place c.sizes-size.result.memo h c.loop-k.k) c.hashed.ensures ∙ ap (λ (y : Sizes). memo_place y.memo c.args.key c.loop-k.k) c.sizes-size.ensures in
    ends_empty g.M.MemoMeaning.meaning z c.args.p.now.view c.loop-k.p.view c.load_key-word.new.p.view c.args.key c.loop-k.k _ c.load_key-word.result c.loop-k-test.true at c.loop-k.invariant.events (record { event = e.event; seen = e.seen }) c.if-word-eq0.true

pub returns-then-word-key-clause-events : goal.returns-then-word-key-clause-events
returns-then-word-key-clause-events g c =
    let z : Sizes = c.args.s.now.sizes in
    let e = c.load_key-word.ensures in
    let t = c.load_id-id.ensures in
    let at : (c.start-first.result + c.loop-k.k) % c.sizes-size.result.memo ≡ memo_place z.memo c.args.key c.loop-k.k = ap (λ (x : ℕ). (x + c.loop-k.k) % c.sizes-size.result.memo) c.start-first.ensures ∙ ap (λ (h : ℕ). path_place c.sizes-size.result.memo h c.loop-k.k) c.hashed.ensures ∙ ap (λ (y : Sizes). memo_place y.memo c.args.key c.loop-k.k) c.sizes-size.ensures in
    ends_own g.M.MemoMeaning.meaning z c.args.p.now.view c.loop-k.p.view c.load_key-word.new.p.view c.load_id-id.new.p.view c.args.key c.loop-k.k _ c.load_key-word.result c.load_id-id.result c.loop-k-test.true at c.loop-k.invariant.events (record { event = e.event; seen = e.seen }) c.if-word-key.true
    (record { event = t.event; cells = t.cells; stands = t.stands; is_id = t.word })

pub loop-k-preserved : goal.loop-k-preserved
loop-k-preserved g c =
    let z : Sizes = c.args.s.now.sizes in
    let i = c.loop-k.invariant in
    let e = c.load_key-word.ensures in
    let s = e.same in
    let at : (c.start-first.result + c.loop-k.k) % c.sizes-size.result.memo ≡ memo_place z.memo c.args.key c.loop-k.k = ap (λ (x : ℕ). (x + c.loop-k.k) % c.sizes-size.result.memo) c.start-first.ensures ∙ ap (λ (h : ℕ). path_place c.sizes-size.result.memo h c.loop-k.k) c.hashed.ensures ∙ ap (λ (y : Sizes). memo_place y.memo c.args.key c.loop-k.k) c.sizes-size.ensures in
    record {
      same = (s.0 ∙ i.same.0, s.1 ∙ i.same.1, s.2 ∙ i.same.2, s.3 ∙ i.same.3);
      grows = gains_both c.args.p.now.view c.loop-k.p.view c.load_key-word.new.p.view i.grows (load_key_gains c.loop-k.p.view c.load_key-word.new.p.view _ c.load_key-word.result e.event);
      events = one_other g.M.MemoMeaning.meaning z c.args.p.now.view c.loop-k.p.view c.load_key-word.new.p.view c.args.key c.loop-k.k _ c.load_key-word.result at i.events (record { event = e.event; seen = e.seen }) c.if-word-eq0.false c.if-word-key.false;
    }
