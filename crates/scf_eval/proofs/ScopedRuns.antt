-- Well-typed operations in two runs that have the same numbers in scope.
use Rattle.std.proofs.Common.{◌≡◌, ℕ, suc, ◌+◌, ◌==◌, ◌&&◌, ◌||◌, nat_lt, true, false, List, [], ◌∷◌, ◌++◌, length, drop, refl, ap, ◌∙◌, sym, subst, arith, Option, Some, None}
use Rattle.std.proofs.lemmas.Bool.{and_parts}
use Rattle.std.proofs.lemmas.Bool.Decides.{nat_tests}
use Rattle.std.proofs.lemmas.List.{length-map}
use Rattle.std.specs.List.{list_all}
use Rattle.arith_word.specs.Labels.{label_at}
use Rattle.arith_word.specs.declared.label.Label.{Label}
use Rattle.mlir_ir.specs.declared.types.IrType.{IrType}
use Rattle.mlir_ir.specs.declared.types.Pack.{Pack}
use Rattle.mlir_ir.specs.Operations.{SimpleOp, Const, Bin, Cast, Cmp, Select, Call, OpKind, Simple, If, For, While, OpList, nil, next, labels_of, inner_labels}
use Rattle.mlir_ir.specs.Rules.{arg_types}
use Rattle.mlir_ir.specs.Runs.{Number, Binding, Iteration, State, Starved, End, Done, Stopped, Ended, Unfinished, outcome_of, look, numbers_of, is_false, stops, defines, numbers_at, answers, calls, gives, result_bits, computed, run_simple, hands, arrives, run_ops, run_kind, run_items}
use Rattle.mlir_ir.specs.Typed.{Types, with_types, types_after, types_after_items, knows, simple_uses, simple_counts, TypedOp, TypedOps, TypedRegions, TypedItems}
use Rattle.scf_eval.specs.InScope.{SameInScope, SameEnd, SameRun}
use Rattle.scf_eval.proofs.Scopes.{known_before, known_after, eq_at}
use Rattle.scf_eval.proofs.Simulation.{yields_many, if_counts}
use Rattle.scf_eval.proofs.SameRuns.{Knows, same_look, same_numbers, numbers_length, same_defines, same_stops, same_then, same_if, same_tick, same_hands, same_arrives, begins_less}
use Rattle.scf_eval.proofs.ScopedLoops.{counted_same, repeated_same}

-- ---- operations without regions

module _ (T : Types) (at : ℕ) (results : List IrType) (around : List Iteration) (env other : List Binding)
    (h : SameInScope T env other) where
  abbrev behind : Types
  behind = with_types T at results

  one_number : (tys : List IrType) (v : ℕ) → (length tys == 1) ≡ true → length (numbers_at tys (v ∷ [])) ≡ length tys
  one_number [] v e = absurd cc
  one_number (ty ∷ []) v e = refl
  one_number (ty ∷ two ∷ tys) v e = absurd (grind (arith, nat_tests, e))

  gives_same : (s : State) (x y : Option ℕ) → x ≡ y → (length results == 1) ≡ true
      → SameRun T behind (gives at results around env s x) (gives at results around other s y)
  gives_same s x y e one = subst (λ z. SameRun T behind (gives at results around env s x) (gives at results around other s z)) e (of x) where
    of : (x : Option ℕ) → SameRun T behind (gives at results around env s x) (gives at results around other s x)
    of None = same_stops T behind _ s
    of (Some v) =
        same_defines T at results (numbers_at results (v ∷ [])) (numbers_at results (v ∷ [])) around env other s h refl
        (one_number results v one)

  many_numbers : (tys : List IrType) (ns : List ℕ) → nat_lt (length ns) (length tys) ≡ false → length (numbers_at tys ns) ≡ length tys
  many_numbers [] ns e = refl
  many_numbers (ty ∷ tys) [] e = absurd (grind (arith, nat_tests, e))
  many_numbers (ty ∷ tys) (n ∷ ns) e = ap (λ k. suc k) (many_numbers tys ns (grind (arith, nat_tests, e)))

  answers_same : (s : State) → SameRun T behind (answers at results around env s) (answers at results around other s)
  answers_same s =
      let few = nat_lt (length s.replies) (length results) in
      let t : State = record s { replies = drop (length results) s.replies } in
      let ns = numbers_at results s.replies in
      same_if T behind few few (stops Starved s) (defines at ns around env t) (stops Starved s) (defines at ns around other t) refl
      (λ _. same_stops T behind Starved s)
      (λ e. same_defines T at results ns ns around env other t h refl (many_numbers results s.replies e))

  calls_same : (s : State) (callee : ℕ) (args passed : List Number) → args ≡ passed
      → SameRun T behind (calls at callee args results around env s) (calls at callee passed results around other s)
  calls_same s callee args passed e =
      subst (λ ns. SameRun T behind (calls at callee args results around env s) (calls at callee ns results around other s)) e
      (same_tick T behind s
      (λ s1. answers at results around env (record s1 { trace = s1.trace ++ record { callee = callee; args = args } ∷ [] }))
      (λ s1. answers at results around other (record s1 { trace = s1.trace ++ record { callee = callee; args = args } ∷ [] }))
      (λ s1. answers_same (record s1 { trace = s1.trace ++ record { callee = callee; args = args } ∷ [] })))

  -- what an operation computes from its operands
  computed_same : (does : SimpleOp) (w : ℕ) → list_all (knows T) (simple_uses does) ≡ true
      → computed env w does ≡ computed other w does
  computed_same (Const v) w k = refl
  computed_same (Bin op flags a b) w k =
      let p = and_parts (knows T a) (knows T b && true) k in
      let x : look env a.0 ≡ look other a.0 = same_look T env other a h p.0 in
      let y : look env b.0 ≡ look other b.0 = same_look T env other b h (and_parts (knows T b) true p.1).0 in
      rw (x, y) refl
  computed_same (Cast op flags a) w k =
      let x : look env a.0 ≡ look other a.0 = same_look T env other a h (and_parts (knows T a) true k).0 in
      rw x refl
  computed_same (Cmp pred a b) w k =
      let p = and_parts (knows T a) (knows T b && true) k in
      let x : look env a.0 ≡ look other a.0 = same_look T env other a h p.0 in
      let y : look env b.0 ≡ look other b.0 = same_look T env other b h (and_parts (knows T b) true p.1).0 in
      rw (x, y) refl
  computed_same (Select t a b) w k =
      let p = and_parts (knows T t) (knows T a && (knows T b && true)) k in
      let q = and_parts (knows T a) (knows T b && true) p.1 in
      let z : look env t.0 ≡ look other t.0 = same_look T env other t h p.0 in
      let x : look env a.0 ≡ look other a.0 = same_look T env other a h q.0 in
      let y : look env b.0 ≡ look other b.0 = same_look T env other b h (and_parts (knows T b) true q.1).0 in
      rw (x, y, z) refl
  computed_same (Call func passed) w k = refl

  simple_same : (does : SimpleOp) (s : State) → list_all (knows T) (simple_uses does) ≡ true
      → simple_counts (length results) does ≡ true
      → SameRun T behind (run_simple at results around env s does) (run_simple at results around other s does)
  simple_same (Const v) s k c = gives_same s _ _ (computed_same (Const v) (result_bits results) k) c
  simple_same (Bin op flags a b) s k c = gives_same s _ _ (computed_same (Bin op flags a b) (result_bits results) k) c
  simple_same (Cast op flags a) s k c = gives_same s _ _ (computed_same (Cast op flags a) (result_bits results) k) c
  simple_same (Cmp pred a b) s k c = gives_same s _ _ (computed_same (Cmp pred a b) (result_bits results) k) c
  simple_same (Select t a b) s k c = gives_same s _ _ (computed_same (Select t a b) (result_bits results) k) c
  simple_same (Call func passed) s k c =
      calls_same s func (numbers_of env passed) (numbers_of other passed) (same_numbers T env other passed h k)

-- ---- operations

mutual
  pub ops_same : (ops : OpList) (T : Types) (fuel at : ℕ) (around : List Iteration) (env other : List Binding) (s : State)
      → TypedOps T at ops → SameInScope T env other
      → SameRun T (types_after T at ops) (run_ops ops fuel at around env s) (run_ops ops fuel at around other s)
  ops_same nil T fuel at around env other s t h = record { end = (h, refl); reports = tt }
  ops_same (next packs results kind rest) T fuel at around env other s t h =
      let U = with_types T (at + inner_labels kind) results in
      let n = inner_labels kind + length results in
      let V = types_after U (at + n) rest in
      let r = run_kind kind results fuel at around env s in
      let q = run_kind kind results fuel at around other s in
      same_then T U V (arrives at around env r) (arrives at around other q) (run_ops rest fuel (at + n) around)
      (run_ops rest fuel (at + n) around)
      (same_arrives T U at around env other r q h (kind_same kind packs results T fuel at around env other s t.0 t.1 h))
      (λ inner outer s1 g. begins_less T U V (run_ops rest fuel (at + n) around inner s1)
      (run_ops rest fuel (at + n) around outer s1) (known_before T (at + inner_labels kind) results)
      (ops_same rest U fuel (at + n) around inner outer s1 t.2 g))

  pub kind_same : (kind : OpKind) (packs : List Pack) (results : List IrType) (T : Types) (fuel at : ℕ)
      (around : List Iteration) (env other : List Binding) (s : State) → TypedOp T packs results kind
      → TypedRegions T at results kind → SameInScope T env other
      → SameRun T (with_types T (at + inner_labels kind) results) (run_kind kind results fuel at around env s)
      (run_kind kind results fuel at around other s)
  kind_same (Simple does) packs results T fuel at around env other s t inside h =
      let place : at + 0 ≡ at = omega arith in
      rw place (simple_same T at results around env other h does s t.in_scope t.counted)
  kind_same (If c first firsts has_else rest others) packs results T fuel at around env other s t inside h =
      let l1 = labels_of first in
      let res = at + l1 + labels_of rest in
      let V = with_types T res results in
      let counts = if_counts results firsts others t.counted in
      let known : knows T c ≡ true = (and_parts (knows T c) true t.in_scope).0 in
      let place : at + (l1 + labels_of rest) ≡ res = omega arith in
      rw place
      (same_if T V (is_false env c) (is_false other c)
      (hands res others around env (run_ops rest fuel (at + l1) around env s))
      (hands res firsts around env (run_ops first fuel at around env s))
      (hands res others around other (run_ops rest fuel (at + l1) around other s))
      (hands res firsts around other (run_ops first fuel at around other s))
      (ap (λ (n : Number). n.v == 0) (same_look T env other c h known))
      (λ _. same_hands T (types_after T (at + l1) rest) res results others around env other
      (run_ops rest fuel (at + l1) around env s) (run_ops rest fuel (at + l1) around other s) h inside.3.in_scope
      (yields_many results others inside.3.counted counts.1)
      (ops_same rest T fuel (at + l1) around env other s inside.2 h))
      (λ _. same_hands T (types_after T at first) res results firsts around env other
      (run_ops first fuel at around env s) (run_ops first fuel at around other s) h inside.1.in_scope
      (yields_many results firsts inside.1.counted counts.0)
      (ops_same first T fuel at around env other s inside.0 h)))
  kind_same (For lower upper step iv args inits body ends) packs results T fuel at around env other s t inside h =
      let tys = arg_types args in
      let in_body = at + 2 + length args in
      let res = in_body + labels_of body in
      let U = with_types (with_types T (at + 1) (iv.ty ∷ [])) (at + 2) tys in
      let W = types_after U in_body body in
      let V = with_types T res results in
      let na : length tys ≡ length args = length-map args (λ arg. arg.ty) in
      let c1 = and_parts ((length inits == length args) && (length args == length results)) ((length results == 0) || nat_lt 0 (length ends)) t.counted in
      let c2 = and_parts (length inits == length args) (length args == length results) c1.0 in
      let ni : length inits ≡ length args = eq_at (length inits) (length args) c2.0 in
      let nr : length args ≡ length results = eq_at (length args) (length results) c2.1 in
      let ne : length ends ≡ length results = yields_many results ends inside.1.counted c1.1 in
      let k1 = and_parts (knows T lower) (list_all (knows T) (upper ∷ step ∷ inits)) t.in_scope in
      let k2 = and_parts (knows T upper) (list_all (knows T) (step ∷ inits)) k1.1 in
      let k3 = and_parts (knows T step) (list_all (knows T) inits) k2.1 in
      let el : look env lower.0 ≡ look other lower.0 = same_look T env other lower h k1.0 in
      let eu : look env upper.0 ≡ look other upper.0 = same_look T env other upper h k2.0 in
      let es : look env step.0 ≡ look other step.0 = same_look T env other step h k3.0 in
      let en : numbers_of env inits ≡ numbers_of other inits = same_numbers T env other inits h k3.1 in
      let place : at + (2 + length args + labels_of body) ≡ res = omega arith in
      rw (place, ← el, ← eu, ← es, ← en)
      (counted_same T at res around results iv.ty tys W (run_ops body fuel in_body) ends env other h
      (λ turns inner outer s1 g. begins_less T U W (run_ops body fuel in_body turns inner s1)
      (run_ops body fuel in_body turns outer s1)
      (λ l ty e. known_before (with_types T (at + 1) (iv.ty ∷ [])) (at + 2) tys l ty (known_before T (at + 1) (iv.ty ∷ []) l ty e))
      (ops_same body U fuel in_body turns inner outer s1 inside.0 g)) inside.1.in_scope (omega arith) (omega arith)
      fuel (look env upper.0) (look env step.0) (look env lower.0) 0 (numbers_of env inits) s
      (numbers_length env inits ∙ (ni ∙ sym na)))
  kind_same (While args inits before passed cond after_args after ends) packs results T fuel at around env other s t inside h =
      let tys = arg_types args in
      let after_tys = arg_types after_args in
      let in_before = at + 1 + length args in
      let params = in_before + labels_of before in
      let in_after = params + length after_args in
      let res = in_after + labels_of after in
      let U = with_types T (at + 1) tys in
      let W = types_after U in_before before in
      let A = with_types T params after_tys in
      let X = types_after A in_after after in
      let na : length tys ≡ length args = length-map args (λ arg. arg.ty) in
      let nb : length after_tys ≡ length after_args = length-map after_args (λ arg. arg.ty) in
      let c = and_parts (length inits == length args) (length after_args == length results) t.counted in
      let ni : length inits ≡ length args = eq_at (length inits) (length args) c.0 in
      let nr : length after_args ≡ length results = eq_at (length after_args) (length results) c.1 in
      let np : length passed ≡ length results = eq_at (length passed) (length results) inside.1.counted in
      let ne : length ends ≡ length tys = eq_at (length ends) (length tys) inside.4.counted in
      let kp = and_parts (knows W cond) (list_all (knows W) passed) inside.1.in_scope in
      let en : numbers_of env inits ≡ numbers_of other inits = same_numbers T env other inits h t.in_scope in
      let keeps : Knows W T = λ l ty e. known_after U in_before before l ty (known_before T (at + 1) tys l ty e) in
      let place : at + (1 + length args + labels_of before + length after_args + labels_of after) ≡ res = omega arith in
      rw (place, ← en)
      (repeated_same T at res around results tys after_tys W X (run_ops before fuel in_before) (run_ops after fuel in_after)
      params cond passed ends env other h keeps
      (λ turns inner outer s1 g. begins_less T U W (run_ops before fuel in_before turns inner s1)
      (run_ops before fuel in_before turns outer s1) (known_before T (at + 1) tys)
      (ops_same before U fuel in_before turns inner outer s1 inside.0 g))
      (λ turns inner outer s1 g. begins_less T A X (run_ops after fuel in_after turns inner s1)
      (run_ops after fuel in_after turns outer s1) (known_before T params after_tys)
      (ops_same after A fuel in_after turns inner outer s1 inside.3 g))
      kp.0 kp.1 inside.4.in_scope np (omega arith) ne fuel 0 (numbers_of env inits) s
      (numbers_length env inits ∙ (ni ∙ sym na)))

-- ---- items

pub items_same : (items : List OpList) (T : Types) (func k fuel : ℕ) (env other : List Binding) (s : State)
    → TypedItems T func k items → SameInScope T env other
    → SameRun T (types_after_items T func k items) (run_items func k items fuel env s) (run_items func k items fuel other s)
items_same [] T func k fuel env other s t h = record { end = (h, refl); reports = tt }
items_same (ops ∷ items) T func k fuel env other s t h =
    let at = label_at func k 0 in
    let U = types_after T at ops in
    let V = types_after_items U func (k + 1) items in
    same_then T U V (run_ops ops fuel at [] env s) (run_ops ops fuel at [] other s) (run_items func (k + 1) items fuel)
    (run_items func (k + 1) items fuel) (ops_same ops T fuel at [] env other s t.0 h)
    (λ inner outer s1 g. begins_less T U V (run_items func (k + 1) items fuel inner s1)
    (run_items func (k + 1) items fuel outer s1) (known_after T at ops)
    (items_same items U func (k + 1) fuel inner outer s1 t.1 g))

-- what is returned

returned_same : (T : Types) (ret : List Label) (a b : End) → list_all (knows T) ret ≡ true → SameEnd T a b
    → outcome_of ret a ≡ outcome_of ret b
returned_same T ret (Done env s) (Done other t) known h = ap (λ ns. Ended ns) (same_numbers T env other ret h.0 known)
returned_same T ret (Stopped stop trace) (Stopped why events) known h = ap (λ w. Unfinished w) h.0
returned_same T ret (Done env s) (Stopped why events) known h = absurd h
returned_same T ret (Stopped stop trace) (Done other t) known h = absurd h

pub outcome_same : (items : List OpList) (T : Types) (func k fuel : ℕ) (ret : List Label) (env other : List Binding)
    (s : State) → TypedItems T func k items → list_all (knows (types_after_items T func k items)) ret ≡ true
    → SameInScope T env other
    → outcome_of ret (run_items func k items fuel env s).end ≡ outcome_of ret (run_items func k items fuel other s).end
outcome_same items T func k fuel ret env other s t known h =
    returned_same (types_after_items T func k items) ret (run_items func k items fuel env s).end
    (run_items func k items fuel other s).end known (items_same items T func k fuel env other s t h).end
