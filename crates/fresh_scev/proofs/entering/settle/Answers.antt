use Rattle.std.proofs.Common.{refl}
use Rattle.fresh_scev.proofs.CutTables.{set_settles}
use Rattle.fresh_scev.proofs.entering.settle.Goals as goal

pub returns : goal.returns
returns c =
    set_settles c.args.t.now _ c.args.at c.args.turns c.requires.room c.requires.index (record { func = refl; items = refl; conditions = refl }) refl
    c.requires.counter.0 c.requires.counter.1 c.requires.known
