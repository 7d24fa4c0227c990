-- Tables that are cut back to what they were, and tables in which the trip count of a loop is settled.
use Rattle.std.proofs.Common.{◌≡◌, ℕ, zero, suc, ◌+◌, ◌<◌, ◌≤◌, ◌==◌, ◌^◌, inl, inr, List, [], ◌∷◌, ◌++◌, length, take, drop, set, get_or, slice_get, Some, None, refl, sym, ap, ◌∙◌, subst, arith, take-append-drop, length-take-le, length-set}
use Rattle.std.proofs.lemmas.Bool.{cases_Bool, cases_lt, eqb-true, eq-eqb}
use Rattle.arith_word.proofs.Labels.{label_parts}
use Rattle.arith_word.specs.Labels.{index_count, label_at, func_of, item_of, index_of}
use Rattle.trip_count.specs.declared.answer.Turns.{Turns}
use Rattle.fresh_scev.specs.declared.fact.Fact.{Fact}
use Rattle.fresh_scev.specs.declared.fact.Fact.TheVariants.{Loop}
use Rattle.fresh_scev.specs.declared.table.Table.{Table}
use Rattle.fresh_scev.specs.Expressions.{number, IsBefore}
use Rattle.fresh_scev.specs.Facts.{counts}
use Rattle.fresh_scev.specs.SameFacts.{IsTestBelow}
use Rattle.fresh_scev.specs.Settled.{Settles}
use Rattle.fresh_scev.specs.Table.{fact_at, expr_in, role_in, turns_in, facts_of, next_label, HasRoom, AreKnown, IsSameTable, Grows}
use Rattle.fresh_scev.proofs.Before.{number_before}
use Rattle.fresh_scev.proofs.TableFacts.{fact_earlier, fact_other, fact_here, no_both}

-- ---- labels behind a table have no facts

none_behind : (here : List Fact) (i : ℕ) → length here ≤ i → slice_get here i ≡ None
none_behind [] i le = refl
none_behind (x ∷ here) zero le = absurd (omega (arith, le))
none_behind (x ∷ here) (suc i) le = none_behind here i (omega (arith, le))

row_behind : (items : List (List Fact)) (here : List Fact) (k i : ℕ) → length items ≤ k → (k ≡ length items → length here ≤ i) → slice_get (get_or (items ++ here ∷ []) k []) i ≡ None
row_behind [] here zero i le last = none_behind here i (last refl)
row_behind [] here (suc k) i le last = refl
row_behind (x ∷ items) here zero i le last = absurd (omega (arith, le))
row_behind (x ∷ items) here (suc k) i le last = row_behind items here k i (omega (arith, le)) (λ e. last (ap (λ n. suc n) e))

pub fact_behind : (func : ℕ) (items : List (List Fact)) (here : List Fact) (l : ℕ) → label_at func (length items) (length here) ≤ l → fact_at func (items ++ here ∷ []) l ≡ None
fact_behind func items here l le =
    elim (cases_Bool (func_of l == func)) [
      | inl same ↦
          let f : func_of l ≡ func = eqb-true (func_of l) func same in
          let whole : l ≡ label_at func (item_of l) (index_of l) = label_parts l func (item_of l) (index_of l) f refl refl in
          let low : index_of l < 2 ^ 14 = omega arith in
          let item : length items ≤ item_of l = omega (arith, whole, low, le) in
          rw same (row_behind items here (item_of l) (index_of l) item (λ e. omega (arith, whole, e, le)))
      | inr other ↦ rw other refl
    ]

-- ---- a table that is cut back

module _ (s u v : Table) (n : ℕ) (a : Grows s u n) (room : length s.here.items ≤ index_count) (same : IsSameTable u v) (front : v.here.items ≡ take (length s.here.items) u.here.items) where
  cut_length : length v.here.items ≡ length s.here.items
  cut_length =
      let longer = a.longer in
      ap length front ∙ length-take-le (length s.here.items) u.here.items (omega (arith, longer))

  cut_whole : v.here.items ++ drop (length s.here.items) u.here.items ≡ u.here.items
  cut_whole = ap (λ here. here ++ drop (length s.here.items) u.here.items) front ∙ take-append-drop (length s.here.items) u.here.items

  next_cut : next_label v ≡ next_label s
  next_cut =
      let func = same.func ∙ a.same.func in
      let items = same.items ∙ a.same.items in
      let long = cut_length in
      rw (func, items, long) refl

  -- what is left is as it was
  pub fact_left : (l : ℕ) → l < next_label v → fact_at v.func (v.items ++ v.here.items ∷ []) l ≡ fact_at u.func (u.items ++ u.here.items ∷ []) l
  fact_left l lt =
      let long = cut_length in
      fact_earlier v.func v.items v.here.items (drop (length s.here.items) u.here.items) l (omega (arith, long, room)) lt ∙ rw (same.func, same.items, cut_whole) refl

  pub fact_gone : (l : ℕ) → next_label v ≤ l → fact_at v.func (v.items ++ v.here.items ∷ []) l ≡ None
  fact_gone l le = fact_behind v.func v.items v.here.items l le

  cut_known : (l : ℕ) → IsBefore (l + 1) ((facts_of v).expr l) × IsTestBelow ((facts_of v).role l) l
  cut_known l = elim (cases_lt l (next_label v)) [
    | inl lt ↦
        let e = fact_left l lt in
        (subst (λ f. IsBefore (l + 1) (expr_in f)) (sym e) (a.known.exprs l), subst (λ f. IsTestBelow (role_in f) l) (sym e) (a.known.roles l))
    | inr ge ↦
        let e = fact_gone l ge in
        (number_before 1 0 (l + 1) ((facts_of v).expr l) (ap expr_in e), subst (λ f. IsTestBelow (role_in f) l) (sym e) tt)
  ]

  pub cut_grows : Grows s v 0
  cut_grows =
      let long = cut_length in
      let next = next_cut in
      record {
        same = record { func = same.func ∙ a.same.func; items = same.items ∙ a.same.items; conditions = same.conditions ∙ a.same.conditions };
        longer = omega (arith, long);
        stay = record {
          exprs = λ l lt. a.stay.exprs l lt ∙ sym (ap expr_in (fact_left l (omega (arith, lt, next))));
          roles = λ l lt. a.stay.roles l lt ∙ sym (ap role_in (fact_left l (omega (arith, lt, next))));
          turns = λ l ge lt. a.stay.turns l ge lt ∙ sym (ap turns_in (fact_left l (omega (arith, lt, next))));
        };
        known = record { exprs = λ l. (cut_known l).0; roles = λ l. (cut_known l).1 };
      }

-- ---- a table in which one trip count changes

set_other : (here : List Fact) (i : ℕ) (fact : Fact) (j : ℕ) → (j ≡ i → ⊥) → slice_get here j ≡ slice_get (set here i fact) j
set_other [] i fact j ne = refl
set_other (x ∷ here) zero fact zero ne = absurd (ne refl)
set_other (x ∷ here) zero fact (suc j) ne = refl
set_other (x ∷ here) (suc i) fact zero ne = refl
set_other (x ∷ here) (suc i) fact (suc j) ne = set_other here i fact j (λ e. ne (ap (λ n. suc n) e))

set_here : (here : List Fact) (i : ℕ) (fact : Fact) → i < length here → slice_get (set here i fact) i ≡ Some fact
set_here [] i fact lt = absurd (omega (arith, lt))
set_here (x ∷ here) zero fact lt = refl
set_here (x ∷ here) (suc i) fact lt = set_here here i fact (omega (arith, lt))

module _ (u v : Table) (i : ℕ) (t : Turns) (room : HasRoom u 0) (low : i < length u.here.items) (same : IsSameTable u v) (is_set : v.here.items ≡ set u.here.items i (Loop t)) where
  abbrev at : ℕ
  at = label_at u.func (length u.items) i

  other_fact : (l : ℕ) → (l ≡ at → ⊥) → fact_at u.func (u.items ++ u.here.items ∷ []) l ≡ fact_at v.func (v.items ++ v.here.items ∷ []) l
  other_fact l ne = rw (same.func, same.items, is_set) (fact_other u.func u.items u.here.items (set u.here.items i (Loop t)) i l (set_other u.here.items i (Loop t)) ne)

  this_fact : fact_at v.func (v.items ++ v.here.items ∷ []) at ≡ Some (Loop t)
  this_fact =
      let indices = room.indices in
      rw (same.func, same.items, is_set) (fact_here u.func u.items (set u.here.items i (Loop t)) i room.item (omega (arith, indices, low)) ∙ set_here u.here.items i (Loop t) low)

  -- the counter has no expression
  values_stay : (facts_of u).expr at ≡ number 1 0 → (facts_of u).role at ≡ counts → (l : ℕ) → ((facts_of u).expr l ≡ (facts_of v).expr l) × ((facts_of u).role l ≡ (facts_of v).role l)
  values_stay expr named l = elim (cases_Bool (l == at)) [
    | inl here ↦
        let e : l ≡ at = eqb-true l at here in
        rw e (expr ∙ sym (ap expr_in this_fact), named ∙ sym (ap role_in this_fact))
    | inr off ↦
        let e = other_fact l (λ e. no_both (l == at) (eq-eqb l at e) off) in
        (ap expr_in e, ap role_in e)
  ]

  pub set_settles : (facts_of u).expr (label_at u.func (length u.items) i) ≡ number 1 0 → (facts_of u).role (label_at u.func (length u.items) i) ≡ counts → AreKnown (facts_of u)
      → Settles u v (label_at u.func (length u.items) i) t
  set_settles expr named known = record {
    same = same;
    as_long = ap length is_set ∙ length-set u.here.items i (Loop t);
    stay = record {
      exprs = λ l lt. (values_stay expr named l).0;
      roles = λ l lt. (values_stay expr named l).1;
      turns = λ l ge lt. ap turns_in (other_fact l (λ e. absurd (omega (arith, e, ge))));
    };
    before = λ l lt. ap turns_in (other_fact l (λ e. absurd (omega (arith, e, lt))));
    settled = ap turns_in this_fact;
    known = record {
      exprs = λ l. subst (IsBefore (l + 1)) (values_stay expr named l).0 (known.exprs l);
      roles = λ l. subst (λ o. IsTestBelow o l) (values_stay expr named l).1 (known.roles l);
    };
  }
