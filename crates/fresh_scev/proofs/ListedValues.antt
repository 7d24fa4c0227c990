-- Values of a list are defined one after another, each by the facts of values before.
use Rattle.std.proofs.Common.{◌≡◌, ℕ, ◌+◌, ◌<◌, ◌≤◌, Bool, IsTrue, ◌↔◌, List, ◌∷◌, length, sym, ◌∙◌, subst, arith}
use Rattle.arith_word.specs.declared.label.Label.{Label}
use Rattle.mlir_ir.specs.Words.{bits_of}
use Rattle.mlir_ir.specs.declared.types.IrType.{IrType}
use Rattle.trip_count.specs.declared.answer.Turns.{Turns}
use Rattle.fresh_scev.specs.declared.table.Table.{Table}
use Rattle.fresh_scev.specs.Expressions.{Expression, own, IsBefore}
use Rattle.fresh_scev.specs.Facts.{Facts, untested, AreAlike, AreOwn, AreMerged, ArePassed, AreCarried, ArePassedOn, IsProved}
use Rattle.fresh_scev.specs.LoopResults.{IsCarried}
use Rattle.fresh_scev.specs.Loops.{IsResult}
use Rattle.fresh_scev.specs.Rules.{have_width, fitting, IsMerged}
use Rattle.fresh_scev.specs.SameFacts.{AreTestsBelow}
use Rattle.fresh_scev.specs.Table.{facts_of, next_label, AreKnown, Grows, Defines}
use Rattle.fresh_scev.specs.UsesBelow.{AreBelow}
use Rattle.fresh_scev.specs.Walked.{Says}
use Rattle.fresh_scev.proofs.GrowingTables.{next_later, grows_on, grows_none, grown_alike}
use Rattle.fresh_scev.proofs.OperandBounds.{before_more}
use Rattle.fresh_scev.proofs.RuledResults.{defined_stays, own_first}
use Rattle.fresh_scev.proofs.StandingFacts.{uses_more, move, move2, proved_stays, proved_back, result_changes}

-- ---- premises of the rest of a list

pub later_label : (s t : Table) (n l : ℕ) → Grows s t n → l < next_label s → l < next_label t
later_label s t n l g lt = let next = next_later s t n g in omega (arith, next, lt)

pub later_labels : (s t : Table) (from m n : ℕ) → m ≡ 1 + n → Grows s t 1 → from + m ≤ next_label s → from + 1 + n ≤ next_label t
later_labels s t from m n count g le = let next = next_later s t 1 g in omega (arith, next, le, count)

pub later_below : (uses : List Label) (s t : Table) (n : ℕ) → Grows s t n → AreBelow uses (next_label s) → AreBelow uses (next_label t)
later_below uses s t n g u = let next = next_later s t n g in uses_more uses (next_label s) (next_label t) (omega (arith, next)) u

pub later_conditions : (s t : Table) (n : ℕ) → Grows s t n → AreBelow s.conditions.items (next_label s) → AreBelow t.conditions.items (next_label t)
later_conditions s t n g u = later_below t.conditions.items s t n g (subst (λ uses. AreBelow uses (next_label s)) (sym g.same.conditions) u)

-- ---- the first of a list, and the others

-- where nothing is left
pub none_said : (t : Table) (What : Facts → Type 0) → AreKnown (facts_of t) → What (facts_of t) → Says t t 0 What
none_said t What k h = record { grows = grows_none t k; facts = h }

said_first : (s t u : Table) (e : Expression) (n m : ℕ) (What More : Facts → Type 0) → n ≡ 1 + m → Defines s t e untested → Says t u m More
    → (Grows s u (1 + m) → (facts_of u).expr (next_label s) ≡ e → (facts_of u).role (next_label s) ≡ untested → More (facts_of u) → What (facts_of u)) → Says s u n What
said_first s t u e n m What More count d more go =
    let all = grows_on s t u 1 m d.grows more.grows in
    let is = defined_stays s t u m e untested d more.grows in
    record { grows = subst (λ k. Grows s u k) (sym count) all; facts = go all is.0 is.1 more.facts }

pub first_own : (s t u : Table) (e : Expression) (w n : ℕ) (ty : IrType) (rest : List IrType) → w ≡ bits_of ty → n ≡ 1 + length rest
    → e ≡ own w (next_label s) → Defines s t e untested → Says t u (length rest) (λ F. AreOwn F (next_label t) rest) → Says s u n (λ F. AreOwn F (next_label s) (ty ∷ rest))
first_own s t u e w n ty rest width count rule d more =
    said_first s t u e n (length rest) (λ F. AreOwn F (next_label s) (ty ∷ rest)) (λ F. AreOwn F (next_label t) rest) count d more
    (λ all is test rest_are. own_first (facts_of u) (next_label s) (next_label t) w e ty rest width (next_later s t 1 d.grows) is test rule rest_are)

pub first_merged : (s t u : Table) (e : Expression) (start w n : ℕ) (ty : IrType) (rest : List IrType) (y z : Label) (firsts others : List Label) → w ≡ bits_of ty → n ≡ 1 + length rest
    → y.0 < next_label s → z.0 < next_label s
    → fitting (have_width w ((facts_of s).expr y.0) ((facts_of s).expr z.0)) w (next_label s) e (IsMerged start w (next_label s) ((facts_of s).expr y.0) ((facts_of s).expr z.0) e)
    → Defines s t e untested → Says t u (length rest) (λ F. AreMerged F start (next_label t) rest firsts others)
    → Says s u n (λ F. AreMerged F start (next_label s) (ty ∷ rest) (y ∷ firsts) (z ∷ others))
first_merged s t u e start w n ty rest y z firsts others width count ly lz rule d more =
    let G = facts_of u in
    let l = next_label s in
    said_first s t u e n (length rest) (λ F. AreMerged F start l (ty ∷ rest) (y ∷ firsts) (z ∷ others)) (λ F. AreMerged F start (next_label t) rest firsts others) count d more
    (λ all is test rest_are. (
      subst (λ x. fitting (have_width (bits_of ty) (G.expr y.0) (G.expr z.0)) (bits_of ty) l x (IsMerged start (bits_of ty) l (G.expr y.0) (G.expr z.0) x)) (sym is)
          (subst (λ v. fitting (have_width v (G.expr y.0) (G.expr z.0)) v l e (IsMerged start v l (G.expr y.0) (G.expr z.0) e)) width
          (move2 (facts_of s) G l (grown_alike s u (1 + length rest) all) y.0 z.0 (λ p q. fitting (have_width w p q) w l e (IsMerged start w l p q e)) ly lz rule)),
      test,
      subst (λ k. AreMerged G start k rest firsts others) (next_later s t 1 d.grows) rest_are,
    ))

pub passed_before : (y label : ℕ) (e : Expression) → y < label → IsBefore (y + 1) e → IsBefore (label + 1) e
passed_before y label e lt h = before_more (y + 1) (label + 1) e (omega (arith, lt)) h

pub first_passed : (s t u : Table) (e : Expression) (n : ℕ) (ty : IrType) (rest : List IrType) (y : Label) (passed : List Label) → n ≡ 1 + length rest
    → y.0 < next_label s → e ≡ (facts_of s).expr y.0 → Defines s t e untested → Says t u (length rest) (λ F. ArePassed F (next_label t) rest passed)
    → Says s u n (λ F. ArePassed F (next_label s) (ty ∷ rest) (y ∷ passed))
first_passed s t u e n ty rest y passed count ly rule d more =
    said_first s t u e n (length rest) (λ F. ArePassed F (next_label s) (ty ∷ rest) (y ∷ passed)) (λ F. ArePassed F (next_label t) rest passed) count d more
    (λ all is test rest_are. (
      (is ∙ rule ∙ all.stay.exprs y.0 ly, test),
      subst (λ k. ArePassed (facts_of u) k rest passed) (next_later s t 1 d.grows) rest_are,
    ))

-- ---- results of loops

-- a result by a test of whether the guard is proved
pub result_proved : (F : Facts) (conditions : List Label) (proved : Bool) (w loop label from : ℕ) (t : Turns) (x e : Expression) → t ≡ F.turns loop → x ≡ F.expr from
    → (IsTrue proved ↔ IsProved F conditions t) → IsResult (IsTrue proved) w loop label t x e → IsCarried F conditions loop w label from e
result_proved F conditions proved w loop label from t x e turns from_is test h =
    subst (λ s. IsResult (IsProved F conditions s) w loop label s (F.expr from) e) turns
    (subst (λ v. IsResult (IsProved F conditions t) w loop label t v e) from_is
    (result_changes (IsTrue proved) (IsProved F conditions t) test.0 test.1 w loop label t x e h))

carried_stays : (F G : Facts) (n : ℕ) (conditions : List Label) (loop w label from : ℕ) (e : Expression) → AreAlike F G n → AreTestsBelow F n → AreBelow conditions n → F.turns loop ≡ G.turns loop
    → from < n → IsCarried F conditions loop w label from e → IsCarried G conditions loop w label from e
carried_stays F G n conditions loop w label from e a tests below turns lt h =
    subst (λ t. IsResult (IsProved G conditions t) w loop label t (G.expr from) e) turns
    (move F G n a from (λ x. IsResult (IsProved G conditions (F.turns loop)) w loop label (F.turns loop) x e) lt
    (result_changes (IsProved F conditions (F.turns loop)) (IsProved G conditions (F.turns loop)) (proved_stays F G n a conditions (F.turns loop) tests below)
    (proved_back F G n a conditions (F.turns loop) tests below) w loop label (F.turns loop) (F.expr from) e h))

-- a result that was defined, as a later table has it
result_later : (s u : Table) (n loop w v from : ℕ) (e x : Expression) → Grows s u n → AreKnown (facts_of s) → loop < next_label s → from < next_label s
    → AreBelow s.conditions.items (next_label s) → w ≡ v → x ≡ e
    → IsCarried (facts_of s) s.conditions.items loop w (next_label s) from e → IsCarried (facts_of u) s.conditions.items loop v (next_label s) from x
result_later s u n loop w v from e x g known ll lf below width is h =
    subst (λ y. IsCarried (facts_of u) s.conditions.items loop v (next_label s) from y) (sym is)
    (subst (λ b. IsCarried (facts_of u) s.conditions.items loop b (next_label s) from e) width
    (carried_stays (facts_of s) (facts_of u) (next_label s) s.conditions.items loop w (next_label s) from e (grown_alike s u n g) (λ l lt. known.roles l) below
    (g.stay.turns loop (omega arith) ll) lf h))

pub first_carried : (s t u : Table) (e : Expression) (w n label loop from : ℕ) (ty : IrType) (rest : List IrType) → w ≡ bits_of ty → n ≡ 1 + length rest → label ≡ next_label s → AreKnown (facts_of s)
    → loop < next_label s → from + n ≤ next_label s → AreBelow s.conditions.items (next_label s) → IsCarried (facts_of s) s.conditions.items loop w label from e
    → Defines s t e untested → Says t u (length rest) (λ F. AreCarried F t.conditions.items loop (from + 1) (next_label t) rest)
    → Says s u n (λ F. AreCarried F s.conditions.items loop from (next_label s) (ty ∷ rest))
first_carried s t u e w n label loop from ty rest width count at known ll lf below rule d more =
    said_first s t u e n (length rest) (λ F. AreCarried F s.conditions.items loop from (next_label s) (ty ∷ rest)) (λ F. AreCarried F t.conditions.items loop (from + 1) (next_label t) rest) count d more
    (λ all is test rest_are. (
      result_later s u (1 + length rest) loop w (bits_of ty) from e ((facts_of u).expr (next_label s)) all known ll (omega (arith, lf, count)) below width is (subst (λ k. IsCarried (facts_of s) s.conditions.items loop w k from e) at rule),
      test,
      subst (λ k. AreCarried (facts_of u) s.conditions.items loop (from + 1) k rest) (next_later s t 1 d.grows)
          (subst (λ c. AreCarried (facts_of u) c loop (from + 1) (next_label t) rest) d.grows.same.conditions rest_are),
    ))

pub first_passed_on : (s t u : Table) (e : Expression) (w n label loop : ℕ) (ty : IrType) (rest : List IrType) (y : Label) (passed : List Label) → w ≡ bits_of ty → n ≡ 1 + length rest
    → label ≡ next_label s → AreKnown (facts_of s) → loop < next_label s → y.0 < next_label s → AreBelow s.conditions.items (next_label s)
    → IsCarried (facts_of s) s.conditions.items loop w label y.0 e → Defines s t e untested
    → Says t u (length rest) (λ F. ArePassedOn F t.conditions.items loop passed (next_label t) rest)
    → Says s u n (λ F. ArePassedOn F s.conditions.items loop (y ∷ passed) (next_label s) (ty ∷ rest))
first_passed_on s t u e w n label loop ty rest y passed width count at known ll ly below rule d more =
    said_first s t u e n (length rest) (λ F. ArePassedOn F s.conditions.items loop (y ∷ passed) (next_label s) (ty ∷ rest)) (λ F. ArePassedOn F t.conditions.items loop passed (next_label t) rest) count d more
    (λ all is test rest_are. (
      result_later s u (1 + length rest) loop w (bits_of ty) y.0 e ((facts_of u).expr (next_label s)) all known ll ly below width is (subst (λ k. IsCarried (facts_of s) s.conditions.items loop w k y.0 e) at rule),
      test,
      subst (λ k. ArePassedOn (facts_of u) s.conditions.items loop passed k rest) (next_later s t 1 d.grows)
          (subst (λ c. ArePassedOn (facts_of u) c loop passed (next_label t) rest) d.grows.same.conditions rest_are),
    ))
