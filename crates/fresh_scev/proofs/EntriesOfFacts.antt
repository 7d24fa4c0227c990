-- What finished facts answer, by the roles of labels.
use Rattle.std.proofs.Common.{◌≡◌, List, [], ◌∷◌, Option, Some, None, refl}
use Rattle.std.proofs.lemmas.List.Elements.{All-from_recursion}
use Rattle.std.specs.List.{AllByRecursion}
use Rattle.mlir_ir.specs.declared.loop_labels.LoopLabels.{LoopLabels}
use Rattle.mlir_ir.specs.declared.types.Func.{Func}
use Rattle.mlir_ir.specs.Check.{IsWellFormed}
use Rattle.mlir_ir.specs.Loops.{func_loops}
use Rattle.scev_tree.specs.declared.expr.Expr.{Expr}
use Rattle.trip_count.specs.declared.answer.Turns.{Turns}
use Rattle.fresh_scev.specs.Answers.{facts_shown, value_in, count_in}
use Rattle.fresh_scev.specs.Entries.{HasCount, HaveEntries, HaveCounts}
use Rattle.fresh_scev.specs.Facts.{IsFacts, counts}
use Rattle.fresh_scev.specs.Table.{fact_at, role_in}
use Rattle.fresh_scev.specs.Widths.{IsValue, IsWide, IsCounting, HaveWidths}
use Rattle.fresh_scev.specs.declared.fact.Fact.{Fact}
use Rattle.fresh_scev.specs.declared.fact.Fact.TheVariants.{Value, Loop}
use Rattle.fresh_scev.specs.declared.facts.Facts.{Facts}
use Rattle.fresh_scev.proofs.EachValue.{Counted}
use Rattle.fresh_scev.proofs.TypedWidths.{function_is_wide}

value_of_role : (o : Option Fact) → IsValue (role_in o) → (e : Expr) × (value_in o ≡ Some e)
value_of_role (Some (Value e test)) h = (e, refl)
value_of_role (Some (Loop t)) h = absurd h
value_of_role None h = absurd h

count_of_role : (o : Option Fact) → role_in o ≡ counts → (t : Turns) × (count_in o ≡ Some t)
count_of_role (Some (Value e None)) h = absurd (cc)
count_of_role (Some (Value e (Some test))) h = absurd (cc)
count_of_role (Some (Loop t)) h = (t, refl)
count_of_role None h = absurd (cc)

pub value_widths : (f : Func) (facts : Facts) → IsWellFormed f → IsFacts f (facts_shown facts) → HaveWidths f (facts_shown facts)
value_widths f facts well is label ty e = ((function_is_wide f (facts_shown facts) well is).0 label ty e).0

pub value_entries : (f : Func) (facts : Facts) → IsWellFormed f → IsFacts f (facts_shown facts) → HaveEntries f facts
value_entries f facts well is label ty e = value_of_role (fact_at facts.func facts.items label) ((function_is_wide f (facts_shown facts) well is).0 label ty e).1

each_count : (facts : Facts) (loops : List LoopLabels) → Counted (IsWide (facts_shown facts)) (IsCounting (facts_shown facts)) loops → AllByRecursion (λ (l : LoopLabels). HasCount facts l.counter.0) loops
each_count facts [] h = tt
each_count facts (l ∷ loops) h = (count_of_role (fact_at facts.func facts.items l.counter.0) h.0, each_count facts loops h.1)

pub count_entries : (f : Func) (facts : Facts) → IsWellFormed f → IsFacts f (facts_shown facts) → HaveCounts f facts
count_entries f facts well is = All-from_recursion (λ (l : LoopLabels). HasCount facts l.counter.0) (func_loops f) (each_count facts (func_loops f) (function_is_wide f (facts_shown facts) well is).1)
