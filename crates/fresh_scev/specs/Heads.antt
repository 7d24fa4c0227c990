-- Loops of the program by their heads and their regions.
use Rattle.std.specs.Prelude.{◌≡◌, ℕ, ◌+◌, Bool, true, false, List, [], length, map}
use Rattle.arith_word.specs.declared.label.Label.{Label}
use Rattle.mlir_ir.specs.declared.types.IrType.{IrType}
use Rattle.mlir_ir.specs.declared.types.Region.{Region, out-Region}
use Rattle.mlir_ir.specs.Operations.{OpKind, OpList, nil, If, For, While, labels_of}
use Rattle.mlir_ir.specs.Rules.{arg_types}
use Rattle.mlir_ir.specs.View.{view_ops}
use Rattle.mlir_ir.specs.Words.{bits_of}
use Rattle.arith_word.specs.declared.op.Pred.TheVariants.{Slt}
use Rattle.trip_count.specs.declared.answer.Turns.{Turns}
use Rattle.fresh_scev.specs.Expressions.{expression_of, number, number_in}
use Rattle.fresh_scev.specs.Facts.{Facts, counts, untested, Loop, AreOwn, AreNext, IsTested, AreCarried, ArePassed, ArePassedOn, IsOps}
use Rattle.fresh_scev.specs.Insides.{for_loop, while_loop, IsForInside, IsWhileInside}
use Rattle.fresh_scev.specs.Loops.{IsVariable, AreComparedTurns}
use Rattle.fresh_scev.specs.NextArguments.{AreGiven, AreBefore}
use Rattle.fresh_scev.specs.Settled.{Settles}
use Rattle.fresh_scev.specs.Still.{AreStill}
use Rattle.fresh_scev.specs.Table.{facts_of, next_label, HasRoom, AreKnown, Grows}
use Rattle.fresh_scev.specs.UsesBelow.{AreBelow}
use Rattle.fresh_scev.specs.Walked.{Says}
use Rattle.fresh_scev.specs.declared.heads.Arguments.{Arguments}
use Rattle.fresh_scev.specs.declared.heads.Arguments.TheVariants.{Own, Given}
use Rattle.fresh_scev.specs.declared.heads.ForHead.{ForHead}
use Rattle.fresh_scev.specs.declared.heads.WhileHead.{WhileHead}
use Rattle.fresh_scev.specs.declared.table.Table.{Table}

abbrev pub rows_of : Region → OpList
rows_of region = view_ops (out-Region region).ops

abbrev pub ends_of : Region → List Label
ends_of region = (out-Region region).ends

abbrev pub for_of : ForHead → Region → OpKind
for_of h body = For h.lower h.upper h.step h.iv.now h.args.now h.inits.now (rows_of body) (ends_of body)

abbrev pub while_of : WhileHead → Region → Region → OpKind
while_of h before after = While h.args.now h.inits.now (rows_of before) (ends_of before) h.cond h.params.now (rows_of after) (ends_of after)

-- an `scf.if`, without and with `else`
abbrev pub then_of : Label → Region → OpKind
then_of c first = If c (rows_of first) (ends_of first) false nil []

abbrev pub branches_of : Label → Region → Region → OpKind
branches_of c first other = If c (rows_of first) (ends_of first) true (rows_of other) (ends_of other)

-- the loops, and what stands inside
abbrev pub loop_of_for : ForHead → Region → Loop
loop_of_for h body = for_loop h.counter.0 h.args.now h.inits.now (ends_of body)

abbrev pub loop_of_while : WhileHead → Region → Loop
loop_of_while h after = while_loop h.counter.0 h.args.now h.inits.now (ends_of after)

abbrev pub InsideFor : List Label → ForHead → Region → Facts → Type 0
InsideFor conditions h body = IsForInside conditions h.counter.0 h.lower h.step h.iv.now (h.counter.0 + 2 + length h.args.now) (rows_of body)

abbrev pub InsideWhile : List Label → WhileHead → Region → Region → Facts → Type 0
InsideWhile conditions h before after =
    IsWhileInside conditions (h.counter.0 + 1 + length h.args.now) (rows_of before) (ends_of before) h.params.now (rows_of after)

abbrev pub for_inside_labels : ForHead → Region → ℕ
for_inside_labels h body = 1 + length h.args.now + labels_of (rows_of body)

abbrev pub while_inside_labels : WhileHead → Region → Region → ℕ
while_inside_labels h before after = length h.args.now + (labels_of (rows_of before) + (length h.params.now + labels_of (rows_of after)))

-- the arguments of a loop are their symbols, or these expressions
abbrev pub AreArguments : Facts → ℕ → List IrType → Arguments → Type 0
AreArguments F first types Own = AreOwn F first types
AreArguments F first types (Given exprs) = AreGiven F first (map expression_of exprs.items)

-- as many expressions as arguments, each of its own label and those below
abbrev pub AreReady : ℕ → List IrType → Arguments → Type 0
AreReady first types Own = Unit {0}
AreReady first types (Given exprs) = AreBefore first (map expression_of exprs.items) × (length exprs.items ≡ length types)

-- a walk can go on over operations with so many labels
pub record CanWalk (t : Table) (n : ℕ) : Type 0 where
  pub room : HasRoom t n
  pub known : AreKnown (facts_of t)
  pub conditions : AreBelow t.conditions.items (next_label t)

-- the label of a counter, which has no expression
abbrev pub IsCounter : Facts → ℕ → Type 0
IsCounter F label = (F.expr label ≡ number 1 0) × (F.role label ≡ counts)

-- the variable of an `scf.for`, with what is known of its arguments
abbrev pub HasVariable : ForHead → (Facts → Type 0) → Facts → Type 0
HasVariable h Args F =
    IsVariable h.counter.0 (bits_of h.iv.now.ty) (h.counter.0 + 1) (F.expr h.lower.0) (F.expr h.step.0) (F.expr (h.counter.0 + 1))
    × (F.role (h.counter.0 + 1) ≡ untested)
    × Args F

-- the label of a loop's first argument
abbrev pub first_of_for : ForHead → ℕ
first_of_for h = h.counter.0 + 2

abbrev pub first_of_while : WhileHead → ℕ
first_of_while h = h.counter.0 + 1

-- a table that has grown from the one where the loop's inside begins, cut back to it
pub record Begins (s t : Table) (len counter : ℕ) : Type 0 where
  pub many : ℕ
  pub grows : Grows s t many
  pub count : length s.here.items ≡ len
  pub place : next_label s ≡ counter + 1

-- there is such a table, with room for n facts
abbrev pub HasBegun : Table → ℕ → ℕ → ℕ → Type 0
HasBegun t len counter n = (s : Table) × Begins s t len counter × HasRoom s n

-- a further round of an `scf.for` after the table `old`, or none where each argument stays
abbrev pub GoesOnFor : ForHead → List Label → Table → Table → Table → Bool → Type 0
GoesOnFor h ends s old new true =
    Says s new (1 + length h.args.now)
    (HasVariable h (λ F. AreNext h.counter.0 (facts_of old) F (first_of_for h) (arg_types h.args.now) h.inits.now ends))
GoesOnFor h ends s old new false =
    (new ≡ old) × AreStill h.counter.0 (facts_of old) (first_of_for h) (arg_types h.args.now) h.inits.now ends

abbrev pub GoesOnWhile : WhileHead → List Label → Table → Table → Table → Bool → Type 0
GoesOnWhile h ends s old new true =
    Says s new (length h.args.now) (λ F. AreNext h.counter.0 (facts_of old) F (first_of_while h) (arg_types h.args.now) h.inits.now ends)
GoesOnWhile h ends s old new false =
    (new ≡ old) × AreStill h.counter.0 (facts_of old) (first_of_while h) (arg_types h.args.now) h.inits.now ends

-- the trip count of an `scf.for` is settled, and its results are defined
pub record EndsFor (conditions : List Label) (h : ForHead) (results : List IrType) (u w : Table) : Type 0 where
  pub settled : Table
  pub turns : Turns
  pub settles : Settles u settled h.counter.0 turns
  pub counted : AreComparedTurns h.counter.0 Slt ((facts_of u).expr (h.counter.0 + 1)) ((facts_of u).expr h.upper.0) turns
  pub carried : Says settled w (length results) (λ F. AreCarried F conditions h.counter.0 (first_of_for h) (next_label settled) results)

pub record EndsWhile (conditions : List Label) (h : WhileHead) (passed : List Label) (results : List IrType) (u w : Table) : Type 0 where
  pub settled : Table
  pub turns : Turns
  pub settles : Settles u settled h.counter.0 turns
  pub counted : IsTested (facts_of u) h.counter.0 (number_in ((facts_of u).expr h.cond.0).p) ((facts_of u).role h.cond.0) turns
  pub carried : Says settled w (length results) (λ F. ArePassedOn F conditions h.counter.0 passed (next_label settled) results)

-- both regions of an `scf.while`, with the tables between
pub record WalksRegions (conditions : List Label) (h : WhileHead) (before after : Region) (t u : Table) : Type 0 where
  pub b : Table
  pub d : Table
  pub first : Says t b (labels_of (rows_of before)) (IsOps conditions (rows_of before) (next_label t))
  pub params : Says b d (length h.params.now) (λ F. ArePassed F (next_label b) (arg_types h.params.now) (ends_of before))
  pub second : Says d u (labels_of (rows_of after)) (IsOps conditions (rows_of after) (next_label d))
