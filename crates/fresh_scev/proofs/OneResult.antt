-- The trip counts and the results of loops are one by facts that are the same of their operands.
use Rattle.std.proofs.Common.{◌≡◌, ℕ, ◌+◌, ◌≤◌, ◌^◌, ◌⊎◌, inl, inr, List, [], ◌∷◌, length, ◌∙◌, sym, subst, arith, Option, Some, None}
use Rattle.std.proofs.lemmas.Nat.{pow_pos}
use Rattle.arith_word.specs.declared.label.Label.{Label}
use Rattle.mlir_ir.specs.Words.{bits_of}
use Rattle.mlir_ir.specs.declared.types.IrType.{IrType}
use Rattle.phi_solve.proofs.Recurrences.{step_one, chain_one}
use Rattle.phi_solve.specs.Step.{IsChain}
use Rattle.scev_tree.specs.Polynomial.{Polynomial}
use Rattle.trip_count.specs.declared.answer.Turns.{Turns}
use Rattle.fresh_scev.specs.Expressions.{Expression, IsCut, symbol, counter, number_in}
use Rattle.fresh_scev.specs.Facts.{Facts, Role, unnamed, counts, untested, tested, IsGuardOf, IsProved, IsTested, AreNext, AreCarried, ArePassedOn}
use Rattle.fresh_scev.specs.Loops.{IsNext, solved, stays, IsGuard, IsResult, settled, unsettled}
use Rattle.fresh_scev.specs.Rules.{IsCutOf}
use Rattle.fresh_scev.proofs.ExitValues.{end_one}
use Rattle.fresh_scev.proofs.OneRule.{cut_one, cut_of_one}
use Rattle.fresh_scev.proofs.OneTurns.{compared_one}
use Rattle.fresh_scev.proofs.SameValues.{SameSides, SameUse, SameUses, SameList, untested_same, own_same}
use Rattle.fresh_scev.proofs.StandingFacts.{result_changes}

-- ---- arguments after one round more

next_one : (loop w label : ℕ) (old init yielded e f : Expression) → IsNext loop w label old init yielded e → IsNext loop w label old init yielded f → e ≡ f
next_one loop w label old init yielded e f (solved p g c) (solved q h d) =
    let same : q ≡ p = step_one (2 ^ w) (symbol label) (counter loop) yielded.p q p (pow_pos w) h.step g.step in
    let d2 : IsCutOf w label f (λ r. IsChain (2 ^ w) (counter loop) r init.p p) = subst (λ (z : Polynomial). IsCutOf w label f (λ r. IsChain (2 ^ w) (counter loop) r init.p z)) same d in
    cut_of_one w label e f _ (λ r s. chain_one (2 ^ w) (counter loop) r s init.p p) c d2
next_one loop w label old init yielded e f (solved p g c) (stays no_step same) = absurd (no_step p g)
next_one loop w label old init yielded e f (stays no_step same) (solved q h d) = absurd (no_step q h)
next_one loop w label old init yielded e f (stays no_step same) (stays none same2) = same ∙ sym same2

pub next_same : (loop : ℕ) (old older F G : Facts) (label : ℕ) (tys : List IrType) (inits ends : List Label) → SameList old older label tys → SameUses old older inits → SameUses old older ends
    → AreNext loop old F label tys inits ends → AreNext loop older G label tys inits ends → SameList F G label tys
next_same loop old older F G label [] inits ends s i o f g = tt
next_same loop old older F G label (ty ∷ tys) [] ends s i o f g = own_same F G label (ty ∷ tys) f g
next_same loop old older F G label (ty ∷ tys) (x ∷ inits) [] s i o f g = own_same F G label (ty ∷ tys) f g
next_same loop old older F G label (ty ∷ tys) (x ∷ inits) (y ∷ ends) s i o f g =
    let w = bits_of ty in
    let moved : IsNext loop w label (old.expr label) (old.expr x.0) (old.expr y.0) (G.expr label) =
    subst (λ a. IsNext loop w label a (old.expr x.0) (old.expr y.0) (G.expr label)) (sym s.0.expr)
    (subst (λ b. IsNext loop w label (older.expr label) b (old.expr y.0) (G.expr label)) (sym i.0.value.expr)
    (subst (λ c. IsNext loop w label (older.expr label) (older.expr x.0) c (G.expr label)) (sym o.0.value.expr) g.0)) in (
      untested_same F G label ty (next_one loop w label (old.expr label) (old.expr x.0) (old.expr y.0) (F.expr label) (G.expr label) f.0 moved) f.1 g.1,
      next_same loop old older F G (label + 1) tys inits ends s.1 i.1 o.1 f.2 g.2,
    )

-- ---- conditions

tested_by : (F G : Facts) (loop l : ℕ) (v : Option ℕ) (r : Role) (t u : Turns) → SameSides F G l r → IsTested F loop v r t → IsTested G loop v r u → t ≡ u
tested_by F G loop l (Some v) r t u s f g = f ∙ sym g
tested_by F G loop l None unnamed t u s f g = f ∙ sym g
tested_by F G loop l None counts t u s f g = f ∙ sym g
tested_by F G loop l None untested t u s f g = f ∙ sym g
tested_by F G loop l None (tested test) t u s f g = compared_one loop test.pred (F.expr test.left) (F.expr test.right) (G.expr test.left) (G.expr test.right) t u s.2 s.3 f g

pub tested_one : (F G : Facts) (loop : ℕ) (c : Label) (t u : Turns) → SameUse F G c → IsTested F loop (number_in (F.expr c.0).p) (F.role c.0) t → IsTested G loop (number_in (G.expr c.0).p) (G.role c.0) u → t ≡ u
tested_one F G loop c t u s f g =
    tested_by F G loop c.0 (number_in (F.expr c.0).p) (F.role c.0) t u s.value.sides f
    (subst (λ x. IsTested G loop (number_in x.p) (F.role c.0) u) (sym s.value.expr) (subst (λ r. IsTested G loop (number_in (G.expr c.0).p) r u) (sym s.value.role) g))

guards_by : (F G : Facts) (l : ℕ) (t : Turns) (r : Role) → SameSides F G l r → IsGuardOf F t r → IsGuardOf G t r
guards_by F G l t unnamed s h = absurd h
guards_by F G l t counts s h = absurd h
guards_by F G l t untested s h = absurd h
guards_by F G l t (tested test) s h =
    subst (λ x. IsGuard t test.pred x (G.expr test.right)) s.2 (subst (λ y. IsGuard t test.pred (F.expr test.left) y) s.3 h)

sides_turned : (F G : Facts) (l : ℕ) (r : Role) → SameSides F G l r → SameSides G F l r
sides_turned F G l unnamed s = tt
sides_turned F G l counts s = tt
sides_turned F G l untested s = tt
sides_turned F G l (tested test) s = (s.0, s.1, sym s.2, sym s.3)

pub proved_goes : (F G : Facts) (conditions : List Label) (t : Turns) → SameUses F G conditions → IsProved F conditions t → IsProved G conditions t
proved_goes F G [] t s h = absurd h
proved_goes F G (c ∷ conditions) t s h =
    elim h as (λ _. IsGuardOf G t (G.role c.0) ⊎ IsProved G conditions t) [
      | inl g ↦ inl (subst (IsGuardOf G t) s.0.value.role (guards_by F G c.0 t (F.role c.0) s.0.value.sides g))
      | inr r ↦ inr (proved_goes F G conditions t s.1 r)
    ]

pub proved_returns : (F G : Facts) (conditions : List Label) (t : Turns) → SameUses F G conditions → IsProved G conditions t → IsProved F conditions t
proved_returns F G [] t s h = absurd h
proved_returns F G (c ∷ conditions) t s h =
    elim h as (λ _. IsGuardOf F t (F.role c.0) ⊎ IsProved F conditions t) [
      | inl g ↦ inl (guards_by G F c.0 t (F.role c.0) (sides_turned F G c.0 (F.role c.0) s.0.value.sides) (subst (IsGuardOf G t) (sym s.0.value.role) g))
      | inr r ↦ inr (proved_returns F G conditions t s.1 r)
    ]

-- ---- results

result_one : (proved : Type 0) (w loop label : ℕ) (t : Turns) (a e f : Expression) → IsResult proved w loop label t a e → IsResult proved w loop label t a f → e ≡ f
result_one proved w loop label t a e f (settled c v cut) (settled d u cut2) =
    cut_one w label c e f cut (subst (λ (p : Polynomial). IsCut w label p f) (end_one proved w loop t a.p d c u.ends v.ends) cut2)
result_one proved w loop label t a e f (settled c v cut) (unsettled no_value same) = absurd (no_value c v)
result_one proved w loop label t a e f (unsettled no_value same) (settled d u cut) = absurd (no_value d u)
result_one proved w loop label t a e f (unsettled no_value same) (unsettled none same2) = same ∙ sym same2

module _ (F G : Facts) (conditions : List Label) (s : SameUses F G conditions) (loop : ℕ) (turns : F.turns loop ≡ G.turns loop) where
  result_same : (label from : ℕ) (ty : IrType) → F.expr from ≡ G.expr from → IsResult (IsProved F conditions (F.turns loop)) (bits_of ty) loop label (F.turns loop) (F.expr from) (F.expr label)
      → IsResult (IsProved G conditions (G.turns loop)) (bits_of ty) loop label (G.turns loop) (G.expr from) (G.expr label) → F.expr label ≡ G.expr label
  result_same label from ty e f g =
      let w = bits_of ty in
      let t = F.turns loop in
      let one : IsResult (IsProved G conditions t) w loop label t (G.expr from) (G.expr label) = subst (λ t. IsResult (IsProved G conditions t) w loop label t (G.expr from) (G.expr label)) (sym turns) g in
      let two : IsResult (IsProved G conditions t) w loop label t (F.expr from) (G.expr label) = subst (λ x. IsResult (IsProved G conditions t) w loop label t x (G.expr label)) (sym e) one in
      let three = result_changes (IsProved G conditions t) (IsProved F conditions t) (proved_returns F G conditions t s) (proved_goes F G conditions t s) w loop label t (F.expr from) (G.expr label) two in
      result_one (IsProved F conditions t) w loop label t (F.expr from) (F.expr label) (G.expr label) f three

  -- carried from arguments, of which there are enough
  pub carried_same : (from label : ℕ) (args tys : List IrType) → length tys ≤ length args → SameList F G from args → AreCarried F conditions loop from label tys → AreCarried G conditions loop from label tys → SameList F G label tys
  carried_same from label args [] le a f g = tt
  carried_same from label [] (ty ∷ tys) le a f g = absurd (omega (arith, le))
  carried_same from label (arg ∷ args) (ty ∷ tys) le a f g = (
    untested_same F G label ty (result_same label from ty a.0.expr f.0 g.0) f.1 g.1,
    carried_same (from + 1) (label + 1) args tys (omega (arith, le)) a.1 f.2 g.2,
  )

  pub passed_on_same : (passed : List Label) (label : ℕ) (tys : List IrType) → SameUses F G passed → ArePassedOn F conditions loop passed label tys → ArePassedOn G conditions loop passed label tys → SameList F G label tys
  passed_on_same passed label [] p f g = tt
  passed_on_same [] label (ty ∷ tys) p f g = own_same F G label (ty ∷ tys) f g
  passed_on_same (y ∷ passed) label (ty ∷ tys) p f g = (
    untested_same F G label ty (result_same label y.0 ty p.0.value.expr f.0 g.0) f.1 g.1,
    passed_on_same passed (label + 1) tys p.1 f.2 g.2,
  )
