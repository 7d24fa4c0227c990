-- Tables that say of whole loops what they have to: after the rounds, the trip count and the results.
use Rattle.std.proofs.Common.{◌≡◌, ℕ, ◌+◌, ◌<◌, List, length, ◌∙◌, sym, subst, arith}
use Rattle.arith_word.specs.declared.label.Label.{Label}
use Rattle.arith_word.specs.declared.op.Pred.TheVariants.{Slt}
use Rattle.mlir_ir.specs.declared.types.Arg.{Arg}
use Rattle.mlir_ir.specs.declared.types.IrType.{IrType}
use Rattle.mlir_ir.specs.Operations.{For, While, OpList, labels_of}
use Rattle.trip_count.specs.declared.answer.Turns.{Turns}
use Rattle.fresh_scev.specs.declared.table.Table.{Table}
use Rattle.fresh_scev.specs.Expressions.{number_in}
use Rattle.fresh_scev.specs.Facts.{counts, Rounds, round_limit, IsTested, AreCarried, ArePassedOn, IsKind}
use Rattle.fresh_scev.specs.Insides.{for_loop, while_loop, IsForInside, IsWhileInside}
use Rattle.fresh_scev.specs.Loops.{AreComparedTurns}
use Rattle.fresh_scev.specs.SameFacts.{SameFacts}
use Rattle.fresh_scev.specs.Settled.{Settles}
use Rattle.fresh_scev.specs.Table.{facts_of, next_label, Grows}
use Rattle.fresh_scev.specs.UsesBelow.{AreBelow, DoesUseBelow}
use Rattle.fresh_scev.specs.Walked.{Says}
use Rattle.fresh_scev.proofs.GrowingTables.{next_later, same_tables, grows_on}
use Rattle.fresh_scev.proofs.LoopKinds.{for_rounds_stay, while_rounds_stay}
use Rattle.fresh_scev.proofs.StandingFacts.{same_less, same_alike, compared_stays, test_same_holds}
use Rattle.fresh_scev.proofs.Walks.{tests_below}

pub next_settled : (u v : Table) (at : ℕ) (t : Turns) → Settles u v at t → next_label v ≡ next_label u
next_settled u v at t g =
    let func = g.same.func in
    let items = g.same.items in
    let long = g.as_long in
    rw (func, items, long) (omega arith)

-- from before the loop to where its trip count is settled
pub settled_grows : (s u v : Table) (n : ℕ) (t : Turns) → Grows s u n → Settles u v (next_label s) t → Grows s v n
settled_grows s u v n t a g =
    let next = next_later s u n a in
    let la = a.longer in
    let lg = g.as_long in
    record {
      same = same_tables s u v a.same g.same;
      longer = omega (arith, la, lg);
      stay = record {
        exprs = λ l lt. a.stay.exprs l lt ∙ g.stay.exprs l (omega (arith, lt, next));
        roles = λ l lt. a.stay.roles l lt ∙ g.stay.roles l (omega (arith, lt, next));
        turns = λ l ge lt. a.stay.turns l ge lt ∙ g.before l lt;
      };
      known = g.known;
    }

-- to the results of the loop
settled_same : (u v w : Table) (at k : ℕ) (t : Turns) → Settles u v at t → Grows v w k → SameFacts (facts_of u) (facts_of w) (at + 1) (next_label u)
settled_same u v w at k t g b =
    let next = next_settled u v at t g in
    record {
      exprs = λ l lt. g.stay.exprs l lt ∙ b.stay.exprs l (omega (arith, lt, next));
      roles = λ l lt. g.stay.roles l lt ∙ b.stay.roles l (omega (arith, lt, next));
      turns = λ l ge lt. g.stay.turns l ge lt ∙ b.stay.turns l (omega arith) (omega (arith, lt, next));
    }

settled_turns : (u v w : Table) (at k : ℕ) (t : Turns) → at < next_label u → Settles u v at t → Grows v w k → t ≡ (facts_of w).turns at
settled_turns u v w at k t lt g b = let next = next_settled u v at t g in sym g.settled ∙ b.stay.turns at (omega arith) (omega (arith, lt, next))

-- the counter keeps its role
counter_named : (c u v w : Table) (at m n : ℕ) (t : Turns) → at < next_label c → (facts_of c).role at ≡ counts → Grows c u m → Settles u v at t → Grows v w n → (facts_of w).role at ≡ counts
counter_named c u v w at m n t lt named a g b =
    let f = next_later c u m a in
    let e = next_settled u v at t g in
    sym (b.stay.roles at (omega (arith, e, f, lt))) ∙ sym (g.stay.roles at (omega (arith, f, lt))) ∙ sym (a.stay.roles at lt) ∙ named

-- c is the table with the loop's counter, u that after the rounds, v that with the trip count, and w that with the results

module _ (conditions : List Label) (lower upper step : Label) (iv : Arg) (args : List Arg) (inits : List Label) (body : OpList) (ends : List Label) (results : List IrType) (s c u v w : Table) where
  pub says_for : (t : Turns) → DoesUseBelow (For lower upper step iv args inits body ends) (next_label s) → AreBelow conditions (next_label s) → Grows s c 1 → (facts_of c).role (next_label s) ≡ counts
      → Says c u (1 + length args + labels_of body) (Rounds (for_loop (next_label s) args inits ends) (IsForInside conditions (next_label s) lower step iv (next_label s + 2 + length args) body) round_limit)
      → Settles u v (next_label s) t → AreComparedTurns (next_label s) Slt ((facts_of u).expr (next_label s + 1)) ((facts_of u).expr upper.0) t
      → Says v w (length results) (λ F. AreCarried F conditions (next_label s) (next_label s + 2) (next_label v) results)
      → Says s w (2 + length args + labels_of body + length results) (IsKind conditions (For lower upper step iv args inits body ends) results (next_label s))
  says_for t uses below begun named rounds settles counted carried =
      let at = next_label s in
      let m = 1 + length args + labels_of body in
      let n = length results in
      let to = at + 2 + length args + labels_of body in
      let f1 = next_later s c 1 begun in
      let f2 = next_later c u m rounds.grows in
      let e : next_label u ≡ to = omega (arith, f1, f2) in
      let e2 : next_label v ≡ to = next_settled u v at t settles ∙ e in
      let F = facts_of u in
      let G = facts_of w in
      let lu = uses.0.1.0 in
      let same : SameFacts F G (at + 1) to = same_less F G (at + 1) (next_label u) (at + 1) to (omega arith) (omega (arith, e)) (settled_same u v w at n t settles carried.grows) in
      let turns : t ≡ G.turns at = settled_turns u v w at n t (omega (arith, e)) settles carried.grows in
      let all = grows_on s v w (1 + m) n (settled_grows s u v (1 + m) t (grows_on s c u 1 m begun rounds.grows) settles) carried.grows in
      let many : 1 + m + n ≡ 2 + length args + labels_of body + n = omega arith in
      let whole : Grows s w (2 + length args + labels_of body + n) = subst (λ k. Grows s w k) many all in
      record {
        grows = whole;
        facts = (
          for_rounds_stay conditions at lower upper step iv args inits body ends round_limit F G uses below (tests_below u to rounds.grows.known) same rounds.facts,
          subst (λ x. AreComparedTurns at Slt (G.expr (at + 1)) (G.expr upper.0) x) turns
              (compared_stays F G to (same_alike F G (at + 1) to to (omega arith) same) at Slt (at + 1) upper.0 t (omega arith) (omega (arith, lu)) counted),
          subst (λ l. AreCarried G conditions at (at + 2) l results) e2 carried.facts,
          counter_named c u v w at m n t (omega (arith, f1)) named rounds.grows settles carried.grows,
        );
      }

module _ (conditions : List Label) (args : List Arg) (inits : List Label) (before : OpList) (passed : List Label) (cond : Label) (after_args : List Arg) (after : OpList) (ends : List Label) (results : List IrType) (s c u v w : Table) where
  pub says_while : (t : Turns) → DoesUseBelow (While args inits before passed cond after_args after ends) (next_label s) → AreBelow conditions (next_label s) → Grows s c 1 → (facts_of c).role (next_label s) ≡ counts
      → Says c u (length args + (labels_of before + (length after_args + labels_of after)))
      (Rounds (while_loop (next_label s) args inits ends) (IsWhileInside conditions (next_label s + 1 + length args) before passed after_args after) round_limit)
      → Settles u v (next_label s) t → IsTested (facts_of u) (next_label s) (number_in ((facts_of u).expr cond.0).p) ((facts_of u).role cond.0) t
      → Says v w (length results) (λ F. ArePassedOn F conditions (next_label s) passed (next_label v) results)
      → Says s w (1 + length args + labels_of before + length after_args + labels_of after + length results) (IsKind conditions (While args inits before passed cond after_args after ends) results (next_label s))
  says_while t uses below begun named rounds settles counted passed_on =
      let at = next_label s in
      let m = length args + (labels_of before + (length after_args + labels_of after)) in
      let n = length results in
      let to = at + 1 + length args + labels_of before + length after_args + labels_of after in
      let f1 = next_later s c 1 begun in
      let f2 = next_later c u m rounds.grows in
      let e : next_label u ≡ to = omega (arith, f1, f2) in
      let e2 : next_label v ≡ to = next_settled u v at t settles ∙ e in
      let F = facts_of u in
      let G = facts_of w in
      let lc = uses.2.0 in
      let same : SameFacts F G (at + 1) to = same_less F G (at + 1) (next_label u) (at + 1) to (omega arith) (omega (arith, e)) (settled_same u v w at n t settles passed_on.grows) in
      let turns : t ≡ G.turns at = settled_turns u v w at n t (omega (arith, e)) settles passed_on.grows in
      let all = grows_on s v w (1 + m) n (settled_grows s u v (1 + m) t (grows_on s c u 1 m begun rounds.grows) settles) passed_on.grows in
      let many : 1 + m + n ≡ 1 + length args + labels_of before + length after_args + labels_of after + n = omega arith in
      let whole : Grows s w (1 + length args + labels_of before + length after_args + labels_of after + n) = subst (λ k. Grows s w k) many all in
      record {
        grows = whole;
        facts = (
          while_rounds_stay conditions at args inits before passed cond after_args after ends round_limit F G uses below (tests_below u to rounds.grows.known) same rounds.facts,
          subst (λ x. IsTested G at (number_in (G.expr cond.0).p) (G.role cond.0) x) turns
              (test_same_holds F G to (same_alike F G (at + 1) to to (omega arith) same) at cond.0 t (tests_below u to rounds.grows.known) (omega (arith, lc)) counted),
          subst (λ l. ArePassedOn G conditions at passed l results) e2 passed_on.facts,
          counter_named c u v w at m n t (omega (arith, f1)) named rounds.grows settles passed_on.grows,
        );
      }
