use Rattle.std.proofs.Common.{◌^◌, subst, sym}
use Rattle.std.proofs.lemmas.Nat.{pow_pos}
use Rattle.trip_count.specs.Shown.{shape_shown}
use Rattle.trip_count.specs.Kind.{KindFits}
use Rattle.trip_count.proofs.Fitting.{kind_fits}
use Rattle.trip_count.proofs.exit.exit_of.Goals as goal

pub returns-clause-fits : goal.returns-clause-fits
returns-clause-fits c = subst (KindFits (2 ^ c.args.w)) (sym c.first_that_fits.ensures) (kind_fits (2 ^ c.args.w) (pow_pos c.args.w) c.args.w c.args.pred (shape_shown c.args.l) (shape_shown c.args.r) (shape_shown c.args.d) c.requires.left c.requires.right c.requires.difference)
