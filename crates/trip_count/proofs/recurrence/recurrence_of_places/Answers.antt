use Rattle.trip_count.proofs.PolynomialShapes.{not_two}
use Rattle.trip_count.proofs.recurrence.recurrence_of_places.Goals as goal

pub returns-else-ts-eq2 : goal.returns-else-ts-eq2
returns-else-ts-eq2 c = not_two c.args.ts.now c.if-ts-eq2.false
