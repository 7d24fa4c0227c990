-- Facts stay what they are of operations where the facts of their labels and of those before stay.
use Rattle.std.proofs.Common.{◌≡◌, ℕ, zero, suc, ◌+◌, ◌<◌, ◌≤◌, ◌⊎◌, inl, inr, List, [], ◌∷◌, ◌++◌, length, refl, ap, ◌∙◌, sym, subst, arith, Option, Some, None}
use Rattle.arith_word.specs.declared.label.Label.{Label}
use Rattle.arith_word.specs.declared.op.Pred.{Pred}
use Rattle.arith_word.specs.declared.op.Pred.TheVariants.{Slt}
use Rattle.mlir_ir.specs.declared.types.Arg.{Arg}
use Rattle.mlir_ir.specs.declared.types.IrType.{IrType}
use Rattle.mlir_ir.specs.declared.types.Op.{Op}
use Rattle.mlir_ir.specs.Operations.{SimpleOp, Const, Bin, Cast, Cmp, Select, Call, OpKind, Simple, If, For, While, OpList, nil, next, labels_of, inner_labels, joined}
use Rattle.mlir_ir.specs.Rules.{arg_types}
use Rattle.mlir_ir.specs.Typed.{simple_uses}
use Rattle.mlir_ir.specs.View.{view_kind, view_ops}
use Rattle.mlir_ir.specs.Words.{bits_of}
use Rattle.scev_tree.specs.Polynomial.{Polynomial}
use Rattle.trip_count.specs.declared.answer.Turns.{Turns}
use Rattle.trip_count.specs.declared.answer.Turns.TheVariants.{Count, Never, Exactly, Guarded, Unknown}
use Rattle.fresh_scev.specs.Expressions.{Expression, own, number_in}
use Rattle.fresh_scev.specs.Rules.{have_width, fitting, IsBin, IsCast, IsComparison, IsSelected, IsMerged}
use Rattle.fresh_scev.specs.Loops.{IsVariable, IsNext, AreComparedTurns, IsAtEnd, IsExitValue, IsGuard, IsResult, settled, unsettled}
use Rattle.fresh_scev.specs.Facts.{Facts, Role, unnamed, counts, untested, tested, IsPlain, AreOwn, IsRuled, role_of, AreRuled, AreMerged, IsGuardOf, IsProved, Loop, AreNext, AreAlike, Rounds, round_limit, ArePassed, IsTested, AreCarried, ArePassedOn, IsOps, IsKind}
use Rattle.fresh_scev.specs.SameFacts.{SameFacts, IsTestBelow, AreTestsBelow}
use Rattle.fresh_scev.specs.UsesBelow.{AreBelow, DoUseBelow, DoesUseBelow}

-- ---- the same facts

pub same_less : (F G : Facts) (from to from2 to2 : ℕ) → from ≤ from2 → to2 ≤ to → SameFacts F G from to → SameFacts F G from2 to2
same_less F G from to from2 to2 lf lt s = record {
  exprs = λ l h. s.exprs l (omega (arith, h, lt));
  roles = λ l h. s.roles l (omega (arith, h, lt));
  turns = λ l g h. s.turns l (omega (arith, g, lf)) (omega (arith, h, lt));
}

pub same_turned : (F G : Facts) (from to : ℕ) → SameFacts F G from to → SameFacts G F from to
same_turned F G from to s = record { exprs = λ l h. sym (s.exprs l h); roles = λ l h. sym (s.roles l h); turns = λ l g h. sym (s.turns l g h) }

pub same_alike : (F G : Facts) (from to at : ℕ) → at ≤ to → SameFacts F G from to → AreAlike F G at
same_alike F G from to at le s = record { exprs = λ l h. s.exprs l (omega (arith, h, le)); roles = λ l h. s.roles l (omega (arith, h, le)) }

pub alike_less : (F G : Facts) (n m : ℕ) → m ≤ n → AreAlike F G n → AreAlike F G m
alike_less F G n m le s = record { exprs = λ l h. s.exprs l (omega (arith, h, le)); roles = λ l h. s.roles l (omega (arith, h, le)) }

pub alike_turned : (F G : Facts) (n : ℕ) → AreAlike F G n → AreAlike G F n
alike_turned F G n s = record { exprs = λ l h. sym (s.exprs l h); roles = λ l h. sym (s.roles l h) }

pub alike_chained : (F G H : Facts) (n : ℕ) → AreAlike F G n → AreAlike G H n → AreAlike F H n
alike_chained F G H n s t = record { exprs = λ l h. s.exprs l h ∙ t.exprs l h; roles = λ l h. s.roles l h ∙ t.roles l h }

pub tests_less : (F : Facts) (to to2 : ℕ) → to2 ≤ to → AreTestsBelow F to → AreTestsBelow F to2
tests_less F to to2 le h = λ l lt. h l (omega (arith, lt, le))

pub tests_same : (F G : Facts) (n : ℕ) → AreAlike F G n → AreTestsBelow F n → AreTestsBelow G n
tests_same F G n s h = λ l lt. subst (λ o. IsTestBelow o l) (s.roles l lt) (h l lt)

-- ---- uses

pub uses_more : (uses : List Label) (a b : ℕ) → a ≤ b → AreBelow uses a → AreBelow uses b
uses_more [] a b le h = tt
uses_more (l ∷ uses) a b le h = let lt = h.0 in (omega (arith, lt, le), uses_more uses a b le h.1)

pub uses_append : (xs ys : List Label) (at : ℕ) → AreBelow xs at → AreBelow ys at → AreBelow (xs ++ ys) at
uses_append [] ys at h g = g
uses_append (x ∷ xs) ys at h g = (h.0, uses_append xs ys at h.1 g)

pub types_length : (args : List Arg) → length (arg_types args) ≡ length args
types_length [] = refl
types_length (arg ∷ args) = ap (λ k. suc k) (types_length args)

-- ---- values

module _ (F G : Facts) (n : ℕ) (a : AreAlike F G n) where
  pub move : (l : ℕ) (P : Expression → Type 0) → l < n → P (F.expr l) → P (G.expr l)
  move l P lt p = subst P (a.exprs l lt) p

  pub move2 : (l m : ℕ) (P : Expression → Expression → Type 0) → l < n → m < n → P (F.expr l) (F.expr m) → P (G.expr l) (G.expr m)
  move2 l m P ll lm p = move m (P (G.expr l)) lm (move l (λ x. P x (F.expr m)) ll p)

  pub move3 : (l m k : ℕ) (P : Expression → Expression → Expression → Type 0) → l < n → m < n → k < n → P (F.expr l) (F.expr m) (F.expr k) → P (G.expr l) (G.expr m) (G.expr k)
  move3 l m k P ll lm lk p = move2 m k (P (G.expr l)) lm lk (move l (λ x. P x (F.expr m) (F.expr k)) ll p)

  pub role_stays : (l : ℕ) (o : Role) → l < n → F.role l ≡ o → G.role l ≡ o
  role_stays l o lt e = sym (a.roles l lt) ∙ e

  pub plain_stays : (l : ℕ) (e : Expression) → l < n → IsPlain F l e → IsPlain G l e
  plain_stays l e lt h = (move l (λ x. x ≡ e) lt h.0, role_stays l untested lt h.1)

  pub own_stay : (l : ℕ) (tys : List IrType) → l + length tys ≤ n → AreOwn F l tys → AreOwn G l tys
  own_stay l [] le h = tt
  own_stay l (ty ∷ tys) le h = (plain_stays l (own (bits_of ty) l) (omega (arith, le)) h.0, own_stay (l + 1) tys (omega (arith, le)) h.1)

  pub rule_stays : (w label : ℕ) (does : SimpleOp) (e : Expression) → AreBelow (simple_uses does) n → IsRuled F w label does e → IsRuled G w label does e
  rule_stays w label (Const v) e u h = h
  rule_stays w label (Bin op flags x y) e u h = move2 x.0 y.0 (λ p q. fitting (have_width w p q) w label e (IsBin op w label p q e)) u.0 u.1.0 h
  rule_stays w label (Cast op flags x) e u h = move x.0 (λ p. IsCast op w label p e) u.0 h
  rule_stays w label (Cmp pred x y) e u h = move2 x.0 y.0 (λ p q. fitting (have_width p.w p q) w label e (IsComparison pred w label p q e)) u.0 u.1.0 h
  rule_stays w label (Select c x y) e u h = move3 c.0 x.0 y.0 (λ r p q. fitting (have_width w p q) w label e (IsSelected w label r p q e)) u.0 u.1.0 u.1.1.0 h
  rule_stays w label (Call func passed) e u h = h

  pub ruled_stay : (label : ℕ) (tys : List IrType) (does : SimpleOp) → AreBelow (simple_uses does) n → label + length tys ≤ n → AreRuled F label tys does → AreRuled G label tys does
  ruled_stay label [] does u le h = tt
  ruled_stay label (ty ∷ tys) does u le h = (
    move label (λ e. IsRuled G (bits_of ty) label does e) (omega (arith, le)) (rule_stays (bits_of ty) label does (F.expr label) u h.0),
    role_stays label (role_of does) (omega (arith, le)) h.1,
    ruled_stay (label + 1) tys does u (omega (arith, le)) h.2,
  )

  pub merged_stay : (start label : ℕ) (tys : List IrType) (firsts others : List Label) → AreBelow firsts n → AreBelow others n → label + length tys ≤ n
      → AreMerged F start label tys firsts others → AreMerged G start label tys firsts others
  merged_stay start label [] firsts others uf uo le h = tt
  merged_stay start label (ty ∷ tys) [] others uf uo le h = own_stay label (ty ∷ tys) le h
  merged_stay start label (ty ∷ tys) (y ∷ firsts) [] uf uo le h = own_stay label (ty ∷ tys) le h
  merged_stay start label (ty ∷ tys) (y ∷ firsts) (z ∷ others) uf uo le h = (
    move3 y.0 z.0 label (λ p q e. fitting (have_width (bits_of ty) p q) (bits_of ty) label e (IsMerged start (bits_of ty) label p q e)) uf.0 uo.0 (omega (arith, le)) h.0,
    role_stays label untested (omega (arith, le)) h.1,
    merged_stay start (label + 1) tys firsts others uf.1 uo.1 (omega (arith, le)) h.2,
  )

  pub passed_stay : (label : ℕ) (tys : List IrType) (passed : List Label) → AreBelow passed n → label + length tys ≤ n → ArePassed F label tys passed → ArePassed G label tys passed
  passed_stay label [] passed u le h = tt
  passed_stay label (ty ∷ tys) [] u le h = own_stay label (ty ∷ tys) le h
  passed_stay label (ty ∷ tys) (y ∷ passed) u le h = (
    (move2 label y.0 (λ p q. p ≡ q) (omega (arith, le)) u.0 h.0.0, role_stays label untested (omega (arith, le)) h.0.1),
    passed_stay (label + 1) tys passed u.1 (omega (arith, le)) h.1,
  )

  -- loops

  pub next_stay : (loop : ℕ) (old : Facts) (label : ℕ) (tys : List IrType) (inits ends : List Label) → label + length tys ≤ n
      → AreNext loop old F label tys inits ends → AreNext loop old G label tys inits ends
  next_stay loop old label [] inits ends le h = tt
  next_stay loop old label (ty ∷ tys) [] ends le h = own_stay label (ty ∷ tys) le h
  next_stay loop old label (ty ∷ tys) (i ∷ inits) [] le h = own_stay label (ty ∷ tys) le h
  next_stay loop old label (ty ∷ tys) (i ∷ inits) (y ∷ ends) le h = (
    move label (λ e. IsNext loop (bits_of ty) label (old.expr label) (old.expr i.0) (old.expr y.0) e) (omega (arith, le)) h.0,
    role_stays label untested (omega (arith, le)) h.1,
    next_stay loop old (label + 1) tys inits ends (omega (arith, le)) h.2,
  )

  pub rounds_stay : (loop : Loop) (Inside : Facts → Type 0) (m : ℕ) → loop.at ≤ n → loop.first + length loop.types ≤ n → (Inside F → Inside G) → Rounds loop Inside m F → Rounds loop Inside m G
  rounds_stay loop Inside zero la lf go r = (own_stay loop.first loop.types lf r.0, go r.1)
  rounds_stay loop Inside (suc m) la lf go r = (
    r.0,
    r.1,
    alike_chained r.0 F G loop.at r.2 (alike_less F G n loop.at la a),
    next_stay loop.at r.0 loop.first loop.types loop.inits loop.ends lf r.3,
    go r.4,
  )

  pub variable_stays : (loop w label lower step : ℕ) → lower < n → step < n → label < n → IsVariable loop w label (F.expr lower) (F.expr step) (F.expr label)
      → IsVariable loop w label (G.expr lower) (G.expr step) (G.expr label)
  variable_stays loop w label lower step ll ls lt h = move3 lower step label (λ p q e. IsVariable loop w label p q e) ll ls lt h

  pub compared_stays : (loop : ℕ) (pred : Pred) (x y : ℕ) (t : Turns) → x < n → y < n → AreComparedTurns loop pred (F.expr x) (F.expr y) t → AreComparedTurns loop pred (G.expr x) (G.expr y) t
  compared_stays loop pred x y t lx ly h = move2 x y (λ p q. AreComparedTurns loop pred p q t) lx ly h

  test_holds : (loop c : ℕ) (v : Option ℕ) (o : Role) (t : Turns) → c ≤ n → IsTestBelow o c → IsTested F loop v o t → IsTested G loop v o t
  test_holds loop c (Some v) o t le b h = h
  test_holds loop c None (tested test) t le b h =
      let l = b.0 in
      let r = b.1 in
      compared_stays loop test.pred test.left test.right t (omega (arith, l, le)) (omega (arith, r, le)) h
  test_holds loop c None unnamed t le b h = h
  test_holds loop c None counts t le b h = h
  test_holds loop c None untested t le b h = h

  pub test_same_holds : (loop c : ℕ) (t : Turns) → AreTestsBelow F n → c < n → IsTested F loop (number_in (F.expr c).p) (F.role c) t → IsTested G loop (number_in (G.expr c).p) (G.role c) t
  test_same_holds loop c t tests lt h =
      subst (λ o. IsTested G loop (number_in (G.expr c).p) o t) (a.roles c lt)
      (move c (λ x. IsTested G loop (number_in x.p) (F.role c) t) lt (test_holds loop c (number_in (F.expr c).p) (F.role c) t (omega (arith, lt)) (tests c lt) h))

  pub tested_stays : (loop c : ℕ) → AreTestsBelow F n → c < n → F.turns loop ≡ G.turns loop → IsTested F loop (number_in (F.expr c).p) (F.role c) (F.turns loop)
      → IsTested G loop (number_in (G.expr c).p) (G.role c) (G.turns loop)
  tested_stays loop c tests lt e h = subst (λ t. IsTested G loop (number_in (G.expr c).p) (G.role c) t) e (test_same_holds loop c (F.turns loop) tests lt h)

  guard_stays : (c : ℕ) (t : Turns) (o : Role) → c ≤ n → IsTestBelow o c → IsGuardOf F t o → IsGuardOf G t o
  guard_stays c t (tested test) le b h =
      let l = b.0 in
      let r = b.1 in
      move2 test.left test.right (λ p q. IsGuard t test.pred p q) (omega (arith, l, le)) (omega (arith, r, le)) h
  guard_stays c t unnamed le b h = absurd h
  guard_stays c t counts le b h = absurd h
  guard_stays c t untested le b h = absurd h

  pub proved_stays : (conditions : List Label) (t : Turns) → AreTestsBelow F n → AreBelow conditions n → IsProved F conditions t → IsProved G conditions t
  proved_stays [] t tests u h = absurd h
  proved_stays (c ∷ conditions) t tests u h =
      let lt = u.0 in
      elim h as (λ _. IsGuardOf G t (G.role c.0) ⊎ IsProved G conditions t) [
        | inl g ↦ inl (subst (λ o. IsGuardOf G t o) (a.roles c.0 lt) (guard_stays c.0 t (F.role c.0) (omega (arith, lt)) (tests c.0 lt) g))
        | inr r ↦ inr (proved_stays conditions t tests u.1 r)
      ]

pub proved_back : (F G : Facts) (n : ℕ) → AreAlike F G n → (conditions : List Label) (t : Turns) → AreTestsBelow F n → AreBelow conditions n → IsProved G conditions t → IsProved F conditions t
proved_back F G n a conditions t tests u h = proved_stays G F n (alike_turned F G n a) conditions t (tests_same F G n a tests) u h

-- ---- results of loops

end_changes : (A B : Type 0) → (A → B) → (w loop : ℕ) (t : Turns) (x c : Polynomial) → IsAtEnd A w loop t x c → IsAtEnd B w loop t x c
end_changes A B f w loop (Count k) x c h = h
end_changes A B f w loop (Exactly e) x c h = h
end_changes A B f w loop (Guarded pred from to e) x c h = (f h.0, h.1)
end_changes A B f w loop Never x c h = absurd h
end_changes A B f w loop (Unknown why) x c h = absurd h

exit_changes : (A B : Type 0) → (A → B) → (w loop : ℕ) (t : Turns) (x : Expression) (c : Polynomial) → IsExitValue A w loop t x c → IsExitValue B w loop t x c
exit_changes A B f w loop t x c h = record { width = h.width; ends = end_changes A B f w loop t x.p c h.ends; under = h.under }

-- a result is one by any two proofs of the same
pub result_changes : (A B : Type 0) → (A → B) → (B → A) → (w loop label : ℕ) (t : Turns) (x e : Expression) → IsResult A w loop label t x e → IsResult B w loop label t x e
result_changes A B f g w loop label t x e (settled c v cut) = settled c (exit_changes A B f w loop t x c v) cut
result_changes A B f g w loop label t x e (unsettled no_value is) = unsettled (λ c v. no_value c (exit_changes B A g w loop t x c v)) is

module _ (F G : Facts) (n : ℕ) (a : AreAlike F G n) (conditions : List Label) (tests : AreTestsBelow F n) (below : AreBelow conditions n) (loop : ℕ) (e : F.turns loop ≡ G.turns loop) where
  pub result_stays : (w y label : ℕ) → y < n → label < n → IsResult (IsProved F conditions (F.turns loop)) w loop label (F.turns loop) (F.expr y) (F.expr label)
      → IsResult (IsProved G conditions (G.turns loop)) w loop label (G.turns loop) (G.expr y) (G.expr label)
  result_stays w y label ly ll h =
      subst (λ t. IsResult (IsProved G conditions t) w loop label t (G.expr y) (G.expr label)) e
      (move2 F G n a y label (λ p q. IsResult (IsProved G conditions (F.turns loop)) w loop label (F.turns loop) p q) ly ll
      (result_changes (IsProved F conditions (F.turns loop)) (IsProved G conditions (F.turns loop)) (proved_stays F G n a conditions (F.turns loop) tests below)
      (proved_back F G n a conditions (F.turns loop) tests below) w loop label (F.turns loop) (F.expr y) (F.expr label) h))

  pub carried_stay : (from label : ℕ) (tys : List IrType) → from + length tys ≤ n → label + length tys ≤ n → AreCarried F conditions loop from label tys → AreCarried G conditions loop from label tys
  carried_stay from label [] lf le h = tt
  carried_stay from label (ty ∷ tys) lf le h = (
    result_stays (bits_of ty) from label (omega (arith, lf)) (omega (arith, le)) h.0,
    role_stays F G n a label untested (omega (arith, le)) h.1,
    carried_stay (from + 1) (label + 1) tys (omega (arith, lf)) (omega (arith, le)) h.2,
  )

  pub passed_on_stay : (passed : List Label) (label : ℕ) (tys : List IrType) → AreBelow passed n → label + length tys ≤ n → ArePassedOn F conditions loop passed label tys → ArePassedOn G conditions loop passed label tys
  passed_on_stay passed label [] u le h = tt
  passed_on_stay [] label (ty ∷ tys) u le h = own_stay F G n a label (ty ∷ tys) le h
  passed_on_stay (y ∷ passed) label (ty ∷ tys) u le h = (
    result_stays (bits_of ty) y.0 label u.0 (omega (arith, le)) h.0,
    role_stays F G n a label untested (omega (arith, le)) h.1,
    passed_on_stay passed (label + 1) tys u.1 (omega (arith, le)) h.2,
  )

-- ---- operations

mutual
  pub ops_stay : (ops : OpList) (conditions : List Label) (at : ℕ) (F G : Facts) → DoUseBelow ops at → AreBelow conditions at → AreTestsBelow F (at + labels_of ops) → SameFacts F G at (at + labels_of ops)
      → IsOps conditions ops at F → IsOps conditions ops at G
  ops_stay nil conditions at F G uses below tests same is = tt
  ops_stay (next packs results kind rest) conditions at F G uses below tests same is =
      let mid = at + (inner_labels kind + length results) in
      let to = at + labels_of (next packs results kind rest) in (
        kind_stays kind results conditions at F G uses.0 below (tests_less F to mid (omega arith) tests) (same_less F G at to at mid (omega arith) (omega arith) same) is.0,
        ops_stay rest conditions mid F G uses.1 (uses_more conditions at mid (omega arith) below) (tests_less F to (mid + labels_of rest) (omega arith) tests)
            (same_less F G at to mid (mid + labels_of rest) (omega arith) (omega arith) same) is.1,
      )

  pub kind_stays : (kind : OpKind) (results : List IrType) (conditions : List Label) (at : ℕ) (F G : Facts) → DoesUseBelow kind at → AreBelow conditions at
      → AreTestsBelow F (at + (inner_labels kind + length results)) → SameFacts F G at (at + (inner_labels kind + length results))
      → IsKind conditions kind results at F → IsKind conditions kind results at G
  kind_stays (Simple does) results conditions at F G uses below tests same is =
      let to = at + (inner_labels (Simple does) + length results) in
      ruled_stay F G to (same_alike F G at to to (omega arith) same) at results does (uses_more (simple_uses does) at to (omega arith) uses) (omega arith) is
  kind_stays (If c first firsts has_else other others) results conditions at F G uses below tests same is =
      let to = at + (inner_labels (If c first firsts has_else other others) + length results) in
      let behind = at + labels_of first in
      let res = behind + labels_of other in
      let before = uses.0 in
      let inside = uses_append conditions (c ∷ []) at below (before, tt) in (
        ops_stay first (conditions ++ c ∷ []) at F G uses.1 inside (tests_less F to behind (omega arith) tests) (same_less F G at to at behind (omega arith) (omega arith) same) is.0,
        ops_stay other conditions behind F G uses.3 (uses_more conditions at behind (omega arith) below) (tests_less F to res (omega arith) tests)
            (same_less F G at to behind res (omega arith) (omega arith) same) is.1,
        merged_stay F G to (same_alike F G at to to (omega arith) same) at res results firsts others (uses_more firsts behind to (omega arith) uses.2) (uses_more others res to (omega arith) uses.4) (omega arith) is.2,
      )
  kind_stays (For lower upper step iv args inits body ends) results conditions at F G uses below tests same is =
      let to = at + (inner_labels (For lower upper step iv args inits body ends) + length results) in
      let in_body = at + 2 + length args in
      let res = in_body + labels_of body in
      let many = types_length args in
      let a = same_alike F G at to to (omega arith) same in
      let loop : Loop = record { at = at; first = at + 2; types = arg_types args; inits = inits; ends = ends } in
      let ll = uses.0.0 in
      let lu = uses.0.1.0 in
      let ls = uses.0.1.1.0 in
      let e : F.turns at ≡ G.turns at = same.turns at (omega arith) (omega arith) in (
        rounds_stay F G to a loop (λ H. IsVariable at (bits_of iv.ty) (at + 1) (H.expr lower.0) (H.expr step.0) (H.expr (at + 1)) × (H.role (at + 1) ≡ untested) × IsOps conditions body in_body H)
            round_limit (omega arith) (omega (arith, many))
            (λ i. (
              variable_stays F G to a at (bits_of iv.ty) (at + 1) lower.0 step.0 (omega (arith, ll)) (omega (arith, ls)) (omega arith) i.0,
              role_stays F G to a (at + 1) untested (omega arith) i.1,
              ops_stay body conditions in_body F G uses.1 (uses_more conditions at in_body (omega arith) below) (tests_less F to res (omega arith) tests)
                  (same_less F G at to in_body res (omega arith) (omega arith) same) i.2,
            )) is.0,
        subst (λ t. AreComparedTurns at Slt (G.expr (at + 1)) (G.expr upper.0) t) e (compared_stays F G to a at Slt (at + 1) upper.0 (F.turns at) (omega arith) (omega (arith, lu)) is.1),
        carried_stay F G to a conditions tests (uses_more conditions at to (omega arith) below) at e (at + 2) res results (omega arith) (omega arith) is.2,
        role_stays F G to a at counts (omega arith) is.3,
      )
  kind_stays (While args inits before passed cond after_args after ends) results conditions at F G uses below tests same is =
      let to = at + (inner_labels (While args inits before passed cond after_args after ends) + length results) in
      let in_before = at + 1 + length args in
      let params = in_before + labels_of before in
      let in_after = params + length after_args in
      let res = in_after + labels_of after in
      let many = types_length args in
      let more = types_length after_args in
      let a = same_alike F G at to to (omega arith) same in
      let loop : Loop = record { at = at; first = at + 1; types = arg_types args; inits = inits; ends = ends } in
      let lc = uses.2.0 in
      let lp = uses_more passed params to (omega arith) uses.2.1 in
      let e : F.turns at ≡ G.turns at = same.turns at (omega arith) (omega arith) in (
        rounds_stay F G to a loop (λ H. IsOps conditions before in_before H × ArePassed H params (arg_types after_args) passed × IsOps conditions after in_after H)
            round_limit (omega arith) (omega (arith, many))
            (λ i. (
              ops_stay before conditions in_before F G uses.1 (uses_more conditions at in_before (omega arith) below) (tests_less F to params (omega arith) tests)
                  (same_less F G at to in_before params (omega arith) (omega arith) same) i.0,
              passed_stay F G to a params (arg_types after_args) passed lp (omega (arith, more)) i.1,
              ops_stay after conditions in_after F G uses.3 (uses_more conditions at in_after (omega arith) below) (tests_less F to res (omega arith) tests)
                  (same_less F G at to in_after res (omega arith) (omega arith) same) i.2,
            )) is.0,
        tested_stays F G to a at cond.0 tests (omega (arith, lc)) e is.1,
        passed_on_stay F G to a conditions tests (uses_more conditions at to (omega arith) below) at e passed res results lp (omega arith) is.2,
        role_stays F G to a at counts (omega arith) is.3,
      )

-- ---- lists of operations

-- operations behind others, from a label that is the one behind those
pub ops_at : (conditions : List Label) (ops : OpList) (F : Facts) (at to : ℕ) → at ≡ to → IsOps conditions ops at F → IsOps conditions ops to F
ops_at conditions ops F at to e h = subst (λ l. IsOps conditions ops l F) e h

pub labels_joined : (a b : OpList) → labels_of (joined a b) ≡ labels_of a + labels_of b
labels_joined nil b = omega arith
labels_joined (next packs results kind rest) b = let e = labels_joined rest b in omega (arith, e)

pub ops_joined : (a b : OpList) (conditions : List Label) (at : ℕ) (F : Facts) → IsOps conditions a at F → IsOps conditions b (at + labels_of a) F → IsOps conditions (joined a b) at F
ops_joined nil b conditions at F h g = ops_at conditions b F (at + 0) at (omega arith) g
ops_joined (next packs results kind rest) b conditions at F h g =
    let mid = at + (inner_labels kind + length results) in
    (h.0, ops_joined rest b conditions mid F h.1 (ops_at conditions b F (at + labels_of (next packs results kind rest)) (mid + labels_of rest) (omega arith) g))

pub uses_joined : (a b : OpList) (at : ℕ) → DoUseBelow a at → DoUseBelow b (at + labels_of a) → DoUseBelow (joined a b) at
uses_joined nil b at h g = subst (λ l. DoUseBelow b l) (omega arith) g
uses_joined (next packs results kind rest) b at h g =
    let mid = at + (inner_labels kind + length results) in
    let e : at + labels_of (next packs results kind rest) ≡ mid + labels_of rest = omega arith in
    (h.0, uses_joined rest b mid h.1 (subst (λ l. DoUseBelow b l) e g), h.2)

pub uses_parted : (a b : OpList) (at : ℕ) → DoUseBelow (joined a b) at → DoUseBelow a at × DoUseBelow b (at + labels_of a)
uses_parted nil b at h = let e : at ≡ at + 0 = omega arith in (tt, subst (λ l. DoUseBelow b l) e h)
uses_parted (next packs results kind rest) b at h =
    let mid = at + (inner_labels kind + length results) in
    let e : mid + labels_of rest ≡ at + labels_of (next packs results kind rest) = omega arith in
    let p = uses_parted rest b mid h.1 in
    ((h.0, p.0, h.2), subst (λ l. DoUseBelow b l) e p.1)

pub view_joined : (xs ys : List Op) → view_ops (xs ++ ys) ≡ joined (view_ops xs) (view_ops ys)
view_joined [] ys = refl
view_joined (x ∷ xs) ys = ap (λ ops. next x.packs x.results (view_kind x.kind) ops) (view_joined xs ys)

-- one program operation more
pub ops_pushed : (xs : List Op) (op : Op) (conditions : List Label) (at : ℕ) (F : Facts) → IsOps conditions (view_ops xs) at F → IsKind conditions (view_kind op.kind) op.results (at + labels_of (view_ops xs)) F
    → IsOps conditions (view_ops (xs ++ op ∷ [])) at F
ops_pushed xs op conditions at F h g =
    subst (λ ops. IsOps conditions ops at F) (sym (view_joined xs (op ∷ []))) (ops_joined (view_ops xs) (view_ops (op ∷ [])) conditions at F h (g, tt))
