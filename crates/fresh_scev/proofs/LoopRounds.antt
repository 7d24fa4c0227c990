-- Rounds of a loop: its variable with its arguments, a further round behind a table that is cut back, and the end.
use Rattle.std.proofs.Common.{◌≡◌, ℕ, ◌+◌, ◌<◌, List, length, take, sym, ap, ◌∙◌, subst, arith}
use Rattle.arith_word.specs.declared.label.Label.{Label}
use Rattle.arith_word.specs.declared.op.Pred.TheVariants.{Slt}
use Rattle.mlir_ir.specs.declared.types.IrType.{IrType}
use Rattle.mlir_ir.specs.Rules.{arg_types}
use Rattle.mlir_ir.specs.Words.{bits_of}
use Rattle.trip_count.specs.declared.answer.Turns.{Turns}
use Rattle.fresh_scev.specs.declared.heads.Arguments.{Arguments}
use Rattle.fresh_scev.specs.declared.heads.ForHead.{ForHead}
use Rattle.fresh_scev.specs.declared.heads.WhileHead.{WhileHead}
use Rattle.fresh_scev.specs.declared.table.Table.{Table}
use Rattle.fresh_scev.specs.Expressions.{Expression, number_in}
use Rattle.fresh_scev.specs.Facts.{untested, AreNext, IsTested, AreCarried, ArePassedOn}
use Rattle.fresh_scev.specs.Heads.{AreArguments, Begins, HasBegun, HasVariable, EndsFor, EndsWhile, first_of_for, first_of_while}
use Rattle.fresh_scev.specs.Loops.{IsVariable, AreComparedTurns}
use Rattle.fresh_scev.specs.NextArguments.{AreGiven, AreNextExprs}
use Rattle.fresh_scev.specs.Settled.{Settles}
use Rattle.fresh_scev.specs.Table.{facts_of, next_label, AreKnown, IsSameTable, Grows}
use Rattle.fresh_scev.specs.Walked.{Says}
use Rattle.fresh_scev.proofs.CutTables.{cut_grows}
use Rattle.fresh_scev.proofs.GrowingTables.{next_later, grows_on, grown_alike}
use Rattle.fresh_scev.proofs.NextArguments.{next_given}
use Rattle.fresh_scev.proofs.StandingFacts.{alike_less, types_length, variable_stays, role_stays}

-- ---- the variable of an `scf.for`, and then its arguments

module _ (h : ForHead) (s t : Table) (place : next_label s ≡ h.counter.0 + 1) where
  first_behind : Grows s t 1 → next_label t ≡ first_of_for h
  first_behind g = let next = next_later s t 1 g in omega (arith, next, place)

  pub variable_said_with : (u : Table) (types : List IrType) (args : Arguments) → h.lower.0 < h.counter.0 → h.step.0 < h.counter.0
      → Says s t 1 (λ F. IsVariable h.counter.0 (bits_of h.iv.now.ty) (next_label s) (F.expr h.lower.0) (F.expr h.step.0) (F.expr (next_label s)) × (F.role (next_label s) ≡ untested))
      → Says t u (length types) (λ F. AreArguments F (next_label t) types args)
      → Says s u (1 + length types) (HasVariable h (λ F. AreArguments F (first_of_for h) types args))
  variable_said_with u types args lower step a b =
      let at = h.counter.0 in
      let w = bits_of h.iv.now.ty in
      let F = facts_of t in
      let G = facts_of u in
      let e : next_label t ≡ at + 2 = first_behind a.grows in
      let alike = alike_less F G (next_label t) (at + 2) (omega (arith, e)) (grown_alike t u (length types) b.grows) in
      let is : IsVariable at w (at + 1) (F.expr h.lower.0) (F.expr h.step.0) (F.expr (at + 1)) =
      subst (λ l. IsVariable at w l (F.expr h.lower.0) (F.expr h.step.0) (F.expr l)) place a.facts.0 in
      let plain : F.role (at + 1) ≡ untested = subst (λ l. F.role l ≡ untested) place a.facts.1 in
      record {
        grows = grows_on s t u 1 (length types) a.grows b.grows;
        facts = (
          variable_stays F G (at + 2) alike at w (at + 1) h.lower.0 h.step.0 (omega (arith, lower)) (omega (arith, step)) (omega arith) is,
          role_stays F G (at + 2) alike (at + 1) untested (omega arith) plain,
          subst (λ l. AreArguments G l types args) e b.facts,
        );
      }

-- ---- a table that is cut back to where the loop's inside begins

module _ (u v : Table) (len counter n : ℕ) (begun : HasBegun u len counter n) (same : IsSameTable u v) (front : v.here.items ≡ take len u.here.items) where
  cut_back : (s : Table) → Begins s u len counter → Grows s v 0
  cut_back s b =
      let count = b.count in
      let count0 = begun.1.count in
      let indices = begun.2.indices in
      cut_grows s u v b.many b.grows (omega (arith, count, count0, indices)) same (subst (λ k. v.here.items ≡ take k u.here.items) (sym count) front)

  cut_first : Grows begun.0 v 0
  cut_first = cut_back begun.0 begun.1

  pub cut_knows : AreKnown (facts_of v)
  cut_knows = cut_first.known

  cut_place : next_label v ≡ counter + 1
  cut_place =
      let next = next_later begun.0 v 0 cut_first in
      let place = begun.1.place in
      omega (arith, next, place)

-- ---- a further round

module _ (h : ForHead) (ends : List Label) (types : List IrType) (old : Table) (are : types ≡ arg_types h.args.now) where
  for_count : length types ≡ length h.args.now
  for_count = ap length are ∙ types_length h.args.now

  pub for_goes_on : (es : List Expression) (v new : Table) (len : ℕ) → HasBegun old len h.counter.0 (1 + length h.args.now) → IsSameTable old v → v.here.items ≡ take len old.here.items
      → AreNextExprs h.counter.0 (facts_of old) (first_of_for h) types h.inits.now ends es
      → Says v new (1 + length types) (HasVariable h (λ F. AreGiven F (first_of_for h) es))
      → (s : Table) → Begins s old len h.counter.0
      → Says s new (1 + length h.args.now) (HasVariable h (λ F. AreNext h.counter.0 (facts_of old) F (first_of_for h) (arg_types h.args.now) h.inits.now ends))
  for_goes_on es v new len begun same front nexts a s b =
      let F = facts_of old in
      let G = facts_of new in
      let many = for_count in
      let g = cut_back old v len h.counter.0 (1 + length h.args.now) begun same front s b in
      record {
        grows = subst (λ k. Grows s new k) (omega (arith, many)) (grows_on s v new 0 (1 + length types) g a.grows);
        facts = (
          a.facts.0,
          a.facts.1,
          subst (λ tys. AreNext h.counter.0 F G (first_of_for h) tys h.inits.now ends) are (next_given h.counter.0 F G (first_of_for h) types h.inits.now ends es nexts a.facts.2),
        );
      }

module _ (h : WhileHead) (ends : List Label) (types : List IrType) (old : Table) (are : types ≡ arg_types h.args.now) where
  while_count : length types ≡ length h.args.now
  while_count = ap length are ∙ types_length h.args.now

  pub while_goes_on : (es : List Expression) (v new : Table) (len n : ℕ) → n ≡ length types → HasBegun old len h.counter.0 (length h.args.now) → IsSameTable old v → v.here.items ≡ take len old.here.items
      → AreNextExprs h.counter.0 (facts_of old) (first_of_while h) types h.inits.now ends es
      → Says v new n (λ F. AreGiven F (next_label v) es)
      → (s : Table) → Begins s old len h.counter.0
      → Says s new (length h.args.now) (λ F. AreNext h.counter.0 (facts_of old) F (first_of_while h) (arg_types h.args.now) h.inits.now ends)
  while_goes_on es v new len n count begun same front nexts a s b =
      let F = facts_of old in
      let G = facts_of new in
      let many = while_count in
      let g = cut_back old v len h.counter.0 (length h.args.now) begun same front s b in
      let given : AreGiven G (first_of_while h) es = subst (λ l. AreGiven G l es) (cut_place old v len h.counter.0 (length h.args.now) begun same front) a.facts in
      record {
        grows = subst (λ k. Grows s new k) (omega (arith, many, count)) (grows_on s v new 0 n g a.grows);
        facts = subst (λ tys. AreNext h.counter.0 F G (first_of_while h) tys h.inits.now ends) are (next_given h.counter.0 F G (first_of_while h) types h.inits.now ends es nexts given);
      }

-- ---- the end: the trip count is settled, and the results are defined

pub for_ends : (h : ForHead) (results : List IrType) (u v w : Table) (label : ℕ) (turns : Turns) → h.counter.0 ≡ label → Settles u v label turns
    → AreComparedTurns h.counter.0 Slt ((facts_of u).expr (h.counter.0 + 1)) ((facts_of u).expr h.upper.0) turns
    → Says v w (length results) (λ F. AreCarried F v.conditions.items h.counter.0 (h.counter.0 + 2) (next_label v) results)
    → EndsFor u.conditions.items h results u w
for_ends h results u v w label turns at a counted b = record {
  settled = v;
  turns = turns;
  settles = subst (λ l. Settles u v l turns) (sym at) a;
  counted = counted;
  carried = subst (λ cs. Says v w (length results) (λ F. AreCarried F cs h.counter.0 (h.counter.0 + 2) (next_label v) results)) a.same.conditions b;
}

pub while_ends : (h : WhileHead) (passed : List Label) (results : List IrType) (u v w : Table) (label : ℕ) (turns : Turns) → h.counter.0 ≡ label → Settles u v label turns
    → IsTested (facts_of u) h.counter.0 (number_in ((facts_of u).expr h.cond.0).p) ((facts_of u).role h.cond.0) turns
    → Says v w (length results) (λ F. ArePassedOn F v.conditions.items h.counter.0 passed (next_label v) results)
    → EndsWhile u.conditions.items h passed results u w
while_ends h passed results u v w label turns at a counted b = record {
  settled = v;
  turns = turns;
  settles = subst (λ l. Settles u v l turns) (sym at) a;
  counted = counted;
  carried = subst (λ cs. Says v w (length results) (λ F. ArePassedOn F cs h.counter.0 passed (next_label v) results)) a.same.conditions b;
}
