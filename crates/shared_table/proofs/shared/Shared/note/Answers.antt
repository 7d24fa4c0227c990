use Rattle.std.proofs.Common.{rules, ℕ, None, sym, subst}
use Rattle.atomic_table.specs.Table.{Me}
use Rattle.shared_table.specs.declared.sizes.SizedView.{SizedView}
use Rattle.shared_table.specs.Known.{IsInside}
use Rattle.shared_table.proofs.Unions.{notes, noting_inside, noted_inside}
use Rattle.shared_table.proofs.shared.Shared.note.Goals as goal

pub split_seat-seat-requires : goal.split_seat-seat-requires
split_seat-seat-requires g c = (search rules, search rules, notes g.M.MemoMeaning.meaning c.args.self.now.table.shared.key _ _ c.p.invariant.1.live.unspent)

pub invariant_of-p : goal.invariant_of-p
invariant_of-p g c =
    subst (λ (me : Me ℕ SizedView). IsInside me c.p.inside.seen c.p.inside.author) (sym c.split_seat-seat.ensures.2) (noting_inside c.p.inside.seat.me c.p.inside.seen c.p.inside.author c.p.invariant)

pub invariant_of-result : goal.invariant_of-result
invariant_of-result g c =
    subst (λ (me : Me ℕ SizedView). IsInside me c.p.inside.seen None) (sym c.split_seat-seat.ensures.4) (noted_inside c.p.inside.seat.me c.p.inside.seen c.p.inside.author c.p.invariant)
