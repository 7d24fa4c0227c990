-- Tables that say of operations, of regions and of loops what they have to, as the walk over a function goes on.
use Rattle.std.proofs.Common.{◌≡◌, ℕ, suc, ◌+◌, ◌≤◌, Bool, List, [], ◌∷◌, ◌++◌, length, sym, subst, arith}
use Rattle.arith_word.specs.declared.label.Label.{Label}
use Rattle.mlir_ir.specs.declared.types.Arg.{Arg}
use Rattle.mlir_ir.specs.declared.types.IrType.{IrType}
use Rattle.mlir_ir.specs.declared.types.Op.{Op}
use Rattle.mlir_ir.specs.Operations.{If, For, While, OpList, labels_of, inner_labels}
use Rattle.mlir_ir.specs.Rules.{arg_types}
use Rattle.mlir_ir.specs.View.{view_kind, view_ops}
use Rattle.mlir_ir.specs.Words.{bits_of}
use Rattle.fresh_scev.specs.declared.table.Table.{Table}
use Rattle.fresh_scev.specs.Facts.{Facts, untested, AreOwn, AreNext, AreAlike, AreMerged, ArePassed, Rounds, IsOps, IsKind}
use Rattle.fresh_scev.specs.Insides.{for_loop, while_loop, IsForInside, IsWhileInside}
use Rattle.fresh_scev.specs.Loops.{IsVariable}
use Rattle.fresh_scev.specs.SameFacts.{SameFacts, AreTestsBelow}
use Rattle.fresh_scev.specs.Table.{facts_of, next_label, AreKnown, Grows}
use Rattle.fresh_scev.specs.UsesBelow.{AreBelow, DoUseBelow, DoesUseBelow}
use Rattle.fresh_scev.specs.Walked.{Says}
use Rattle.fresh_scev.proofs.GrowingTables.{next_later, grows_on, grows_none, grown_alike}
use Rattle.fresh_scev.proofs.Pushed.{labels_pushed, ops_grow}
use Rattle.fresh_scev.proofs.StandingFacts.{same_less, alike_less, alike_turned, alike_chained, uses_more, uses_append, types_length, ops_stay, kind_stays, own_stay, next_stay, passed_stay, variable_stays, role_stays}

-- ---- tables

pub tests_below : (t : Table) (to : ℕ) → AreKnown (facts_of t) → AreTestsBelow (facts_of t) to
tests_below t to known = λ l lt. known.roles l

-- two tables that grew from one are alike below it
pub both_alike : (s t u : Table) (m n : ℕ) → Grows s t m → Grows s u n → AreAlike (facts_of t) (facts_of u) (next_label s)
both_alike s t u m n a b = alike_chained (facts_of t) (facts_of s) (facts_of u) (next_label s) (alike_turned (facts_of s) (facts_of t) (next_label s) (grown_alike s t m a)) (grown_alike s u n b)

-- of the labels that a table has
pub grown_same : (t u : Table) (n from to : ℕ) → Grows t u n → to ≤ next_label t → SameFacts (facts_of t) (facts_of u) from to
grown_same t u n from to g le = same_less (facts_of t) (facts_of u) 0 (next_label t) from to (omega arith) le g.stay

pub says_on : (s t u : Table) (m n k : ℕ) (What Then : Facts → Type 0) → m + n ≡ k → Says s t m What → Grows t u n → Then (facts_of u) → Says s u k Then
says_on s t u m n k What Then e a g h = record { grows = subst (λ i. Grows s u i) e (grows_on s t u m n a.grows g); facts = h }

-- ---- operations, one after another

pub says_no_ops : (t : Table) (conditions : List Label) → AreKnown (facts_of t) → Says t t 0 (IsOps conditions (view_ops []) (next_label t))
says_no_ops t conditions known = record { grows = grows_none t known; facts = tt }

-- an operation, and those behind it
pub says_first_op : (s t u : Table) (conditions : List Label) (op : Op) (ops : List Op) → AreKnown (facts_of s) → DoUseBelow (view_ops (op ∷ ops)) (next_label s) → AreBelow conditions (next_label s)
    → Says s t (inner_labels (view_kind op.kind) + length op.results) (IsKind conditions (view_kind op.kind) op.results (next_label s))
    → Says t u (labels_of (view_ops ops)) (IsOps conditions (view_ops ops) (next_label t)) → Says s u (labels_of (view_ops (op ∷ ops))) (IsOps conditions (view_ops (op ∷ ops)) (next_label s))
says_first_op s t u conditions op ops known uses below a b =
    let at = next_label s in
    let n = inner_labels (view_kind op.kind) + length op.results in
    let e : next_label t ≡ at + n = next_later s t n a.grows in
    let kind = kind_stays (view_kind op.kind) op.results conditions at (facts_of t) (facts_of u) uses.0 below (tests_below t (at + n) a.grows.known) (grown_same t u (labels_of (view_ops ops)) at (at + n) b.grows (omega (arith, e))) a.facts in
    says_on s t u n (labels_of (view_ops ops)) (labels_of (view_ops (op ∷ ops))) (IsKind conditions (view_kind op.kind) op.results at) (IsOps conditions (view_ops (op ∷ ops)) at) (omega arith) a b.grows
    (kind, subst (λ l. IsOps conditions (view_ops ops) l (facts_of u)) e b.facts)

-- operations, and one more
pub says_op_more : (s t u : Table) (conditions : List Label) (xs : List Op) (op : Op) → DoUseBelow (view_ops xs) (next_label s) → AreBelow conditions (next_label s)
    → Says s t (labels_of (view_ops xs)) (IsOps conditions (view_ops xs) (next_label s))
    → Says t u (inner_labels (view_kind op.kind) + length op.results) (IsKind conditions (view_kind op.kind) op.results (next_label t))
    → Says s u (labels_of (view_ops (xs ++ op ∷ []))) (IsOps conditions (view_ops (xs ++ op ∷ [])) (next_label s))
says_op_more s t u conditions xs op uses below a b =
    let at = next_label s in
    let m = labels_of (view_ops xs) in
    let n = inner_labels (view_kind op.kind) + length op.results in
    let e : next_label t ≡ at + m = next_later s t m a.grows in
    says_on s t u m n (labels_of (view_ops (xs ++ op ∷ []))) (IsOps conditions (view_ops xs) at) (IsOps conditions (view_ops (xs ++ op ∷ [])) at) (sym (labels_pushed xs op)) a b.grows
    (ops_grow xs op conditions at (facts_of t) (facts_of u) uses below (tests_below t (at + m) a.grows.known) (grown_same t u n at (at + m) b.grows (omega (arith, e))) a.facts
    (subst (λ l. IsKind conditions (view_kind op.kind) op.results l (facts_of u)) e b.facts))

-- ---- `scf.if`: both regions, and the results

pub says_if : (s t u v : Table) (conditions : List Label) (c : Label) (first : OpList) (firsts : List Label) (has_else : Bool) (other : OpList) (others : List Label) (results : List IrType)
    → DoesUseBelow (If c first firsts has_else other others) (next_label s) → AreBelow conditions (next_label s)
    → Says s t (labels_of first) (IsOps (conditions ++ c ∷ []) first (next_label s)) → Says t u (labels_of other) (IsOps conditions other (next_label t))
    → Says u v (length results) (λ F. AreMerged F (next_label s) (next_label u) results firsts others)
    → Says s v (labels_of first + labels_of other + length results) (IsKind conditions (If c first firsts has_else other others) results (next_label s))
says_if s t u v conditions c first firsts has_else other others results uses below a b d =
    let at = next_label s in
    let m = labels_of first in
    let n = labels_of other in
    let k = length results in
    let e : next_label t ≡ at + m = next_later s t m a.grows in
    let e2 : next_label u ≡ next_label t + n = next_later t u n b.grows in
    let e3 : next_label u ≡ at + m + n = omega (arith, e, e2) in
    let inside = uses_append conditions (c ∷ []) at below (uses.0, tt) in
    let bd = grows_on t u v n k b.grows d.grows in
    let G = facts_of v in
    let one = ops_stay first (conditions ++ c ∷ []) at (facts_of t) G uses.1 inside (tests_below t (at + m) a.grows.known) (grown_same t v (n + k) at (at + m) bd (omega (arith, e))) a.facts in
    let second : IsOps conditions other (at + m) (facts_of u) = subst (λ l. IsOps conditions other l (facts_of u)) e b.facts in
    let two = ops_stay other conditions (at + m) (facts_of u) G uses.3 (uses_more conditions at (at + m) (omega arith) below) (tests_below u (at + m + n) b.grows.known)
    (grown_same u v k (at + m) (at + m + n) d.grows (omega (arith, e3))) second in
    let three : AreMerged G at (at + m + n) results firsts others = subst (λ l. AreMerged G at l results firsts others) e3 d.facts in
    says_on s t v m (n + k) (m + n + k) (IsOps (conditions ++ c ∷ []) first at) (IsKind conditions (If c first firsts has_else other others) results at) (omega arith) a bd (one, two, three)

-- ---- `scf.for`: a round, in which the table grows from the counter's label on

module _ (conditions : List Label) (at : ℕ) (lower upper step : Label) (iv : Arg) (args : List Arg) (inits : List Label) (body : OpList) (ends : List Label) (s t u : Table) where
  -- the induction variable, with what is known of the arguments
  abbrev pub HasVariable : (Facts → Type 0) → Facts → Type 0
  HasVariable Args F = IsVariable at (bits_of iv.ty) (at + 1) (F.expr lower.0) (F.expr step.0) (F.expr (at + 1)) × (F.role (at + 1) ≡ untested) × Args F

  pub for_inside : (Args : Facts → Type 0) → next_label s ≡ at + 1 → DoesUseBelow (For lower upper step iv args inits body ends) at → Says s t (1 + length args) (HasVariable Args)
      → Says t u (labels_of body) (IsOps conditions body (next_label t)) → IsForInside conditions at lower step iv (at + 2 + length args) body (facts_of u)
  for_inside Args begin uses a b =
      let n = 1 + length args in
      let e : next_label t ≡ at + 2 + length args = (let f = next_later s t n a.grows in omega (arith, f, begin)) in
      let ll = uses.0.0 in
      let ls = uses.0.1.1.0 in
      let alike = alike_less (facts_of t) (facts_of u) (next_label t) (at + 2) (omega (arith, e)) (grown_alike t u (labels_of body) b.grows) in (
        variable_stays (facts_of t) (facts_of u) (at + 2) alike at (bits_of iv.ty) (at + 1) lower.0 step.0 (omega (arith, ll)) (omega (arith, ls)) (omega arith) a.facts.0,
        role_stays (facts_of t) (facts_of u) (at + 2) alike (at + 1) untested (omega arith) a.facts.1,
        subst (λ l. IsOps conditions body l (facts_of u)) e b.facts,
      )

  -- the first round
  pub says_for_first : next_label s ≡ at + 1 → DoesUseBelow (For lower upper step iv args inits body ends) at → Says s t (1 + length args) (HasVariable (λ F. AreOwn F (at + 2) (arg_types args)))
      → Says t u (labels_of body) (IsOps conditions body (next_label t))
      → Says s u (1 + length args + labels_of body) (Rounds (for_loop at args inits ends) (IsForInside conditions at lower step iv (at + 2 + length args) body) 0)
  says_for_first begin uses a b =
      let n = 1 + length args in
      let f = next_later s t n a.grows in
      let many = types_length args in
      let own = own_stay (facts_of t) (facts_of u) (next_label t) (grown_alike t u (labels_of body) b.grows) (at + 2) (arg_types args) (omega (arith, f, begin, many)) a.facts.2 in
      record { grows = grows_on s t u n (labels_of body) a.grows b.grows; facts = (own, for_inside (λ F. AreOwn F (at + 2) (arg_types args)) begin uses a b) }

  -- a round more, after one that grew to `old`
  pub says_for_next : (m k : ℕ) (old : Table) → next_label s ≡ at + 1 → DoesUseBelow (For lower upper step iv args inits body ends) at
      → Says s old k (Rounds (for_loop at args inits ends) (IsForInside conditions at lower step iv (at + 2 + length args) body) m)
      → Says s t (1 + length args) (HasVariable (λ F. AreNext at (facts_of old) F (at + 2) (arg_types args) inits ends)) → Says t u (labels_of body) (IsOps conditions body (next_label t))
      → Says s u (1 + length args + labels_of body) (Rounds (for_loop at args inits ends) (IsForInside conditions at lower step iv (at + 2 + length args) body) (suc m))
  says_for_next m k old begin uses before a b =
      let n = 1 + length args in
      let f = next_later s t n a.grows in
      let many = types_length args in
      let all = grows_on s t u n (labels_of body) a.grows b.grows in
      let alike = alike_less (facts_of old) (facts_of u) (next_label s) at (omega (arith, begin)) (both_alike s old u k (n + labels_of body) before.grows all) in
      let new = next_stay (facts_of t) (facts_of u) (next_label t) (grown_alike t u (labels_of body) b.grows) at (facts_of old) (at + 2) (arg_types args) inits ends (omega (arith, f, begin, many)) a.facts.2 in
      record { grows = all; facts = (facts_of old, before.facts, alike, new, for_inside (λ F. AreNext at (facts_of old) F (at + 2) (arg_types args) inits ends) begin uses a b) }

-- ---- `scf.while`: the same, with the parameters of the after region

module _ (conditions : List Label) (at : ℕ) (args : List Arg) (inits : List Label) (before : OpList) (passed : List Label) (cond : Label) (after_args : List Arg) (after : OpList) (ends : List Label) (s t b d u : Table) where
  -- the regions of a round
  pub record Turn : Type 0 where
    pub begin : next_label s ≡ at + 1
    pub uses : DoesUseBelow (While args inits before passed cond after_args after ends) at
    pub below : AreBelow conditions (at + 1)
    pub first : Says t b (labels_of before) (IsOps conditions before (next_label t))
    pub params : Says b d (length after_args) (λ F. ArePassed F (next_label b) (arg_types after_args) passed)
    pub second : Says d u (labels_of after) (IsOps conditions after (next_label d))

  turn_grows : Turn → Grows t u (labels_of before + (length after_args + labels_of after))
  turn_grows r = grows_on t b u (labels_of before) (length after_args + labels_of after) r.first.grows (grows_on b d u (length after_args) (labels_of after) r.params.grows r.second.grows)

  while_inside : Turn → Grows s t (length args) → IsWhileInside conditions (at + 1 + length args) before passed after_args after (facts_of u)
  while_inside r g =
      let in1 = at + 1 + length args in
      let pat = in1 + labels_of before in
      let in2 = pat + length after_args in
      let begin = r.begin in
      let e0 = next_later s t (length args) g in
      let e1 : next_label t ≡ in1 = omega (arith, e0, begin) in
      let f1 = next_later t b (labels_of before) r.first.grows in
      let e2 : next_label b ≡ pat = omega (arith, f1, e1) in
      let f2 = next_later b d (length after_args) r.params.grows in
      let e3 : next_label d ≡ in2 = omega (arith, f2, e2) in
      let more = types_length after_args in
      let bu = grows_on b d u (length after_args) (labels_of after) r.params.grows r.second.grows in
      let one : IsOps conditions before in1 (facts_of b) = subst (λ l. IsOps conditions before l (facts_of b)) e1 r.first.facts in
      let two : ArePassed (facts_of d) pat (arg_types after_args) passed = subst (λ l. ArePassed (facts_of d) l (arg_types after_args) passed) e2 r.params.facts in (
        ops_stay before conditions in1 (facts_of b) (facts_of u) r.uses.1 (uses_more conditions (at + 1) in1 (omega arith) r.below) (tests_below b pat r.first.grows.known)
            (grown_same b u (length after_args + labels_of after) in1 pat bu (omega (arith, e2))) one,
        passed_stay (facts_of d) (facts_of u) in2 (alike_less (facts_of d) (facts_of u) (next_label d) in2 (omega (arith, e3)) (grown_alike d u (labels_of after) r.second.grows)) pat (arg_types after_args) passed
            (uses_more passed pat in2 (omega arith) r.uses.2.1) (omega (arith, more)) two,
        subst (λ l. IsOps conditions after l (facts_of u)) e3 r.second.facts,
      )

  pub says_while_first : Turn → Says s t (length args) (λ F. AreOwn F (at + 1) (arg_types args))
      → Says s u (length args + (labels_of before + (length after_args + labels_of after))) (Rounds (while_loop at args inits ends) (IsWhileInside conditions (at + 1 + length args) before passed after_args after) 0)
  says_while_first r a =
      let n = labels_of before + (length after_args + labels_of after) in
      let begin = r.begin in
      let f = next_later s t (length args) a.grows in
      let many = types_length args in
      let own = own_stay (facts_of t) (facts_of u) (next_label t) (grown_alike t u n (turn_grows r)) (at + 1) (arg_types args) (omega (arith, f, begin, many)) a.facts in
      record { grows = grows_on s t u (length args) n a.grows (turn_grows r); facts = (own, while_inside r a.grows) }

  pub says_while_next : (m k : ℕ) (old : Table) → Turn → Says s old k (Rounds (while_loop at args inits ends) (IsWhileInside conditions (at + 1 + length args) before passed after_args after) m)
      → Says s t (length args) (λ F. AreNext at (facts_of old) F (at + 1) (arg_types args) inits ends)
      → Says s u (length args + (labels_of before + (length after_args + labels_of after))) (Rounds (while_loop at args inits ends) (IsWhileInside conditions (at + 1 + length args) before passed after_args after) (suc m))
  says_while_next m k old r earlier a =
      let n = labels_of before + (length after_args + labels_of after) in
      let begin = r.begin in
      let f = next_later s t (length args) a.grows in
      let many = types_length args in
      let all = grows_on s t u (length args) n a.grows (turn_grows r) in
      let alike = alike_less (facts_of old) (facts_of u) (next_label s) at (omega (arith, begin)) (both_alike s old u k (length args + n) earlier.grows all) in
      let new = next_stay (facts_of t) (facts_of u) (next_label t) (grown_alike t u n (turn_grows r)) at (facts_of old) (at + 1) (arg_types args) inits ends (omega (arith, f, begin, many)) a.facts in
      record { grows = all; facts = (facts_of old, earlier.facts, alike, new, while_inside r a.grows) }
