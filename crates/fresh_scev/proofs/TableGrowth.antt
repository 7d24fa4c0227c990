-- What a table of facts says after one further fact.
use Rattle.std.proofs.Common.{◌≡◌, ℕ, ◌+◌, ◌==◌, inl, inr, [], ◌∷◌, ◌++◌, length, Some, arith, sym, ap, ◌∙◌, subst}
use Rattle.std.proofs.lemmas.Bool.{cases_Bool, eqb-true, eq-eqb}
use Rattle.std.proofs.lemmas.List.{length_push}
use Rattle.fresh_scev.specs.declared.fact.Fact.{Fact}
use Rattle.fresh_scev.specs.declared.table.Table.{Table}
use Rattle.fresh_scev.specs.Expressions.{IsBefore}
use Rattle.fresh_scev.specs.SameFacts.{SameFacts, IsTestBelow}
use Rattle.fresh_scev.specs.Table.{fact_at, facts_of, expr_in, role_in, turns_in, next_label, HasRoom, AreKnown, IsSameTable, Grows, Defines}
use Rattle.fresh_scev.proofs.TableFacts.{fact_other, fact_here, row_pushed, row_last, no_both}

-- a table with one more fact
module _ (s t : Table) (fact : Fact) (same : IsSameTable s t) (pushed : t.here.items ≡ s.here.items ++ fact ∷ []) (room : HasRoom s 1) where
  pub push_other : (l : ℕ) → (l ≡ next_label s → ⊥) → fact_at s.func (s.items ++ s.here.items ∷ []) l ≡ fact_at t.func (t.items ++ t.here.items ∷ []) l
  push_other l ne = rw (same.func, same.items, pushed) (fact_other s.func s.items s.here.items (s.here.items ++ fact ∷ []) (length s.here.items) l (row_pushed s.here.items fact) ne)

  pub push_here : fact_at t.func (t.items ++ t.here.items ∷ []) (next_label s) ≡ Some fact
  push_here = rw (same.func, same.items, pushed) (fact_here s.func s.items (s.here.items ++ fact ∷ []) (length s.here.items) room.item (let r = room.indices in omega (arith, r)) ∙ row_last s.here.items fact)

  pub push_stay : SameFacts (facts_of s) (facts_of t) 0 (next_label s)
  push_stay = record {
    exprs = λ l lt. ap expr_in (push_other l (λ e. absurd (omega (arith, e, lt))));
    roles = λ l lt. ap role_in (push_other l (λ e. absurd (omega (arith, e, lt))));
    turns = λ l ge lt. ap turns_in (push_other l (λ e. absurd (omega (arith, e, lt))));
  }

  pub push_longer : length t.here.items ≡ length s.here.items + 1
  push_longer = ap length pushed ∙ length_push s.here.items fact

  pub push_known : AreKnown (facts_of s) → IsBefore (next_label s + 1) (expr_in (Some fact)) → IsTestBelow (role_in (Some fact)) (next_label s) → AreKnown (facts_of t)
  push_known known before below = record {
    exprs = λ l. elim (cases_Bool (l == next_label s)) [
      | inl at ↦
          let e : l ≡ next_label s = eqb-true l (next_label s) at in
          rw e (subst (λ f. IsBefore (next_label s + 1) (expr_in f)) (sym push_here) before)
      | inr off ↦ subst (λ f. IsBefore (l + 1) (expr_in f)) (push_other l (λ e. no_both (l == next_label s) (eq-eqb l (next_label s) e) off)) (known.exprs l)
    ];
    roles = λ l. elim (cases_Bool (l == next_label s)) [
      | inl at ↦
          let e : l ≡ next_label s = eqb-true l (next_label s) at in
          rw e (subst (λ f. IsTestBelow (role_in f) (next_label s)) (sym push_here) below)
      | inr off ↦ subst (λ f. IsTestBelow (role_in f) l) (push_other l (λ e. no_both (l == next_label s) (eq-eqb l (next_label s) e) off)) (known.roles l)
    ];
  }

  pub push_grows : AreKnown (facts_of s) → IsBefore (next_label s + 1) (expr_in (Some fact)) → IsTestBelow (role_in (Some fact)) (next_label s) → Grows s t 1
  push_grows known before below = record { same = same; longer = push_longer; stay = push_stay; known = push_known known before below }

  pub push_defines : AreKnown (facts_of s) → IsBefore (next_label s + 1) (expr_in (Some fact)) → IsTestBelow (role_in (Some fact)) (next_label s) → Defines s t (expr_in (Some fact)) (role_in (Some fact))
  push_defines known before below = record { grows = push_grows known before below; expr = ap expr_in push_here; role_is = ap role_in push_here }
