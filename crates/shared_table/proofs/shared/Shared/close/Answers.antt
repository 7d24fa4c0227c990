use Rattle.std.proofs.Common.{◌≡◌, ℕ, ◌<◌, List, [], ◌∷◌, ap, sym, subst, ◌∙◌, arith}
use Rattle.std.specs.Mem.Slots.{slots_items}
use Rattle.step_core.specs.declared.view.View.{View}
use Rattle.step_core.specs.declared.words.Words.{Words}
use Rattle.step_core.specs.Good.{Good}
use Rattle.step_core.specs.Maps.{times}
use Rattle.shared_table.specs.declared.sizes.Sizes.{Sizes}
use Rattle.shared_table.specs.Known.{Known}
use Rattle.shared_table.specs.Rule.{words_of}
use Rattle.shared_table.proofs.Ends.{closes}
use Rattle.shared_table.proofs.shared.Shared.close.Goals as goal

pub free-requires : goal.free-requires
free-requires g c = λ k lt. absurd (let e = c.close_with-closed.ensures.counts.1 in let z = c.args.self.slotless in omega arith)

pub returns-clause-good : goal.returns-clause-good
returns-clause-good g c =
    let is : c.p.inside.seat.me.0.view ≡ c.args.p.view = ap (λ (z : Known). z.view) c.p.view_is in
    let all = subst (λ (v : View). (a : ℕ) → a < v.count → 0 < times a v.authors) (sym is) c.requires.all in
    let ws : List ℕ = slots_items c.close_with-closed.result.words in
    let done = closes g.M.MemoMeaning.meaning c.args.self.table.shared.key c.p.inside.seat.id c.p.inside.seat.me.0 ws _ c.p.invariant.1.live.unspent all c.close_with-closed.ensures.values.2 in
    let whole = ap (λ (z : Sizes). words_of z ws) (sym c.args.self.sized) ∙ sym c.all_words-words.ensures in
    subst (λ (v : View). Good g.M.MemoMeaning.meaning v.base v.count c.all_words-words.result (v ∷ [])) is
    (subst (λ (l : Words). Good g.M.MemoMeaning.meaning c.p.inside.seat.me.0.view.base c.p.inside.seat.me.0.view.count l (c.p.inside.seat.me.0.view ∷ [])) whole done.0)
