-- Runs of well-typed operations: wherever a run comes to an operation, the values in scope there have numbers.
use Rattle.std.proofs.Common.{◌≡◌, ℕ, zero, suc, ◌+◌, ◌==◌, nat_lt, inl, inr, Bool, true, false, List, [], ◌∷◌, ◌++◌, length, drop, refl, ap, ◌∙◌, sym, subst, arith, Option, Some, None, if◌then◌else◌}
use Rattle.std.proofs.lemmas.Bool.{cases_eq, ne_eqb}
use Rattle.std.proofs.lemmas.Bool.Decides.{nat_tests}
use Rattle.std.specs.Option.{option_or}
use Rattle.arith_word.specs.Labels.{label_at}
use Rattle.arith_word.specs.Operation.{holds}
use Rattle.arith_word.specs.declared.label.Label.{Label}
use Rattle.arith_word.specs.declared.op.Pred.TheVariants.{Slt}
use Rattle.mlir_ir.specs.Operations.{SimpleOp, Const, Bin, Cast, Cmp, Select, Call, OpKind, Simple, If, For, While, OpList, nil, next, labels_of, inner_labels}
use Rattle.mlir_ir.specs.Rules.{arg_types}
use Rattle.mlir_ir.specs.Runs.{Number, number, Binding, Iteration, State, Stop, Starved, Cut, End, Done, Stopped, Report, Segment, look, numbers_of, binds, is_false, end_then, reports_then, run_then, stops, definitions, defines, tick, numbers_at, answers, gives, result_bits, computed, run_simple, hands, Running, Place, leaves, in_turn, counted, repeated, arrives, run_ops, run_kind, run_items, run_body}
use Rattle.mlir_ir.specs.Typed.{Types, typed_from, with_types, types_after, simple_counts, TypedOp, TypedOps, TypedRegions, TypedItems, untyped, args_typed}
use Rattle.mlir_ir.specs.View.{view_items}
use Rattle.mlir_ir.specs.declared.types.Body.{Body}
use Rattle.mlir_ir.specs.declared.types.Func.{Func}
use Rattle.mlir_ir.specs.declared.types.IrType.{IrType}
use Rattle.mlir_ir.specs.declared.types.Pack.{Pack}
use Rattle.fresh_scev.proofs.StandingFacts.{types_length}
use Rattle.scev_soundness.specs.Agreement.{Ends}
use Rattle.scev_soundness.specs.Holding.{IsBound}
use Rattle.scev_soundness.proofs.Arguments.{have_bits_length}
use Rattle.scev_soundness.proofs.Branches.{branch_lengths}
use Rattle.scev_soundness.proofs.Counted.{numbers_length}
use Rattle.scev_soundness.proofs.Scopes.{with_more}
use Rattle.scev_soundness.proofs.LoopUses.{for_inits, for_results, for_ends, while_inits, while_passed, while_params, while_ends}
use Rattle.pass_copy.specs.Reported.{AllHoldAt, at_arrivals}
use Rattle.pass_chain.proofs.Positions.{Extends, with_extends, after_extends, AtEach, AtEachInside, AtEachItem}

-- ---- values in scope that are bound

abbrev pub AreBound : Types → List Binding → Type 0
AreBound T env = (l : ℕ) (ty : IrType) → T l ≡ Some ty → IsBound env l

binds_more : (ns : List Number) (at : ℕ) (env : List Binding) (l : ℕ) → IsBound env l → IsBound (binds at ns env) l
binds_more [] at env l b = b
binds_more (n ∷ ns) at env l b = binds_more ns (at + 1) (record { label = at; number = n } ∷ env) l (inr b)

typed_bound : (tys : List IrType) (ns : List Number) (at : ℕ) (env : List Binding) (l : ℕ) (ty : IrType)
    → length ns ≡ length tys → typed_from at tys l ≡ Some ty → IsBound (binds at ns env) l
typed_bound [] ns at env l ty many e = absurd cc
typed_bound (u ∷ tys) [] at env l ty many e = absurd (omega (arith, many))
typed_bound (u ∷ tys) (n ∷ ns) at env l ty many e =
    let now : List Binding = record { label = at; number = n } ∷ env in
    elim (cases_eq at l) [
      | inl h ↦ binds_more ns (at + 1) now l (inl h)
      | inr ne ↦ typed_bound tys ns (at + 1) now l ty (omega (arith, many)) (of ne e)
    ]
  where
    of : (at ≡ l → ⊥) → (if at == l then Some u else typed_from (at + 1) tys l) ≡ Some ty
        → typed_from (at + 1) tys l ≡ Some ty
    of ne e = sym (rw (ne_eqb at l ne) refl) ∙ e

pub bound_binds : (T : Types) (tys : List IrType) (ns : List Number) (at : ℕ) (env : List Binding)
    → length ns ≡ length tys → AreBound T env → AreBound (with_types T at tys) (binds at ns env)
bound_binds T tys ns at env many h l ty e = of (T l) refl e
  where
    of : (o : Option IrType) → T l ≡ o → option_or o (typed_from at tys l) ≡ Some ty → IsBound (binds at ns env) l
    of (Some u) k e = binds_more ns at env l (h l u k)
    of None k e = typed_bound tys ns at env l ty many e

bound_less : (T U : Types) (env : List Binding) → Extends T U → AreBound U env → AreBound T env
bound_less T U env less h l ty e = h l ty (less l ty e)

-- ---- segments in which a condition holds wherever a run comes to an operation

module _ (H : ℕ → List Binding → Type 0) where
  -- it holds at all arrivals, and where the segment ends the values in scope have the property
  pub record SegmentTold (r : Segment) (Q : List Binding → Type 0) : Type 0 where
    pub holds : AllHoldAt (at_arrivals H) r.reports
    pub ends : Ends r.end Q

  all_both : (a b : List Report) → AllHoldAt (at_arrivals H) a → AllHoldAt (at_arrivals H) b → AllHoldAt (at_arrivals H) (a ++ b)
  all_both [] b p q = q
  all_both (v ∷ a) b p q = (p.0, all_both a b p.1 q)

  then_parts : (e : End) (vs : List Report) (P Q : List Binding → Type 0) (go : List Binding → State → Segment)
      → AllHoldAt (at_arrivals H) vs → Ends e P → ((env : List Binding) (s : State) → P env → SegmentTold (go env s) Q)
      → AllHoldAt (at_arrivals H) (vs ++ reports_then e (λ env s. (go env s).reports)) × Ends (end_then e (λ env s. (go env s).end)) Q
  then_parts (Done env s) vs P Q go h p k = let q = k env s p in (all_both vs _ h q.holds, q.ends)
  then_parts (Stopped stop trace) vs P Q go h p k = (all_both vs [] h tt, tt)

  told_then : (r : Segment) (P Q : List Binding → Type 0) (go : List Binding → State → Segment) → SegmentTold r P
      → ((env : List Binding) (s : State) → P env → SegmentTold (go env s) Q) → SegmentTold (run_then r go) Q
  told_then r P Q go s k = let p = then_parts r.end r.reports P Q go s.holds s.ends k in record { holds = p.0; ends = p.1 }

  told_if : (t : Bool) (r s : Segment) (Q : List Binding → Type 0) → (t ≡ true → SegmentTold r Q)
      → (t ≡ false → SegmentTold s Q) → SegmentTold (if t then r else s) Q
  told_if true r s Q a b = a refl
  told_if false r s Q a b = b refl

  told_stop : (stop : Stop) (s : State) (Q : List Binding → Type 0) → SegmentTold (stops stop s) Q
  told_stop stop s Q = record { holds = tt; ends = tt }

  told_tick : (s : State) (go : State → Segment) (Q : List Binding → Type 0) → ((later : State) → SegmentTold (go later) Q)
      → SegmentTold (tick s go) Q
  told_tick s go Q k = told_if (s.budget == 0) _ _ Q (λ e. told_stop Cut s Q) (λ e. k _)

  definitions_told : (ns : List Number) (at : ℕ) (around : List Iteration) (env : List Binding)
      → AllHoldAt (at_arrivals H) (definitions at ns around env)
  definitions_told [] at around env = tt
  definitions_told (n ∷ ns) at around env =
      (tt, definitions_told ns (at + 1) around (record { label = at; number = n } ∷ env))

  defines_told : (T : Types) (tys : List IrType) (ns : List Number) (at : ℕ) (around : List Iteration)
      (env : List Binding) (s : State) → length ns ≡ length tys → AreBound T env
      → SegmentTold (defines at ns around env s) (λ w. AreBound (with_types T at tys) w)
  defines_told T tys ns at around env s many h =
      record { holds = definitions_told ns at around env; ends = bound_binds T tys ns at env many h }

  -- ---- operations without regions

  one_number : (tys : List IrType) (v : ℕ) → (length tys == 1) ≡ true → length (numbers_at tys (v ∷ [])) ≡ length tys
  one_number [] v e = absurd cc
  one_number (ty ∷ []) v e = refl
  one_number (ty ∷ two ∷ tys) v e = absurd (grind (arith, nat_tests, e))

  many_numbers : (tys : List IrType) (ns : List ℕ) → nat_lt (length ns) (length tys) ≡ false
      → length (numbers_at tys ns) ≡ length tys
  many_numbers [] ns e = refl
  many_numbers (ty ∷ tys) [] e = absurd (grind (arith, nat_tests, e))
  many_numbers (ty ∷ tys) (n ∷ ns) e = ap (λ k. suc k) (many_numbers tys ns (grind (arith, nat_tests, e)))

  module _ (T : Types) (at : ℕ) (results : List IrType) (around : List Iteration) (env : List Binding)
      (h : AreBound T env) where
    abbrev Behind : List Binding → Type 0
    Behind w = AreBound (with_types T at results) w

    gives_told : (s : State) (x : Option ℕ) → (length results == 1) ≡ true → SegmentTold (gives at results around env s x) Behind
    gives_told s None one = told_stop _ s Behind
    gives_told s (Some v) one =
        defines_told T results (numbers_at results (v ∷ [])) at around env s (one_number results v one) h

    answers_told : (s : State) → SegmentTold (answers at results around env s) Behind
    answers_told s =
        told_if (nat_lt (length s.replies) (length results)) (stops Starved s)
        (defines at (numbers_at results s.replies) around env (record s { replies = drop (length results) s.replies }))
        Behind (λ e. told_stop Starved s Behind)
        (λ e. defines_told T results (numbers_at results s.replies) at around env
        (record s { replies = drop (length results) s.replies }) (many_numbers results s.replies e) h)

    simple_told : (does : SimpleOp) (s : State) → simple_counts (length results) does ≡ true
        → SegmentTold (run_simple at results around env s does) Behind
    simple_told (Const v) s c = gives_told s (computed env (result_bits results) (Const v)) c
    simple_told (Bin op flags a b) s c = gives_told s (computed env (result_bits results) (Bin op flags a b)) c
    simple_told (Cast op flags a) s c = gives_told s (computed env (result_bits results) (Cast op flags a)) c
    simple_told (Cmp pred a b) s c = gives_told s (computed env (result_bits results) (Cmp pred a b)) c
    simple_told (Select t a b) s c = gives_told s (computed env (result_bits results) (Select t a b)) c
    simple_told (Call func passed) s c =
        told_tick s (λ s1. answers at results around env (record s1 {
          trace = s1.trace ++ record { callee = func; args = numbers_of env passed } ∷ [];
        })) Behind (λ s1. answers_told _)

  -- ---- loops

  hands_told : (T : Types) (results : List IrType) (at : ℕ) (ends : List Label) (around : List Iteration)
      (env : List Binding) (r : Segment) (Q : List Binding → Type 0) → SegmentTold r Q → length ends ≡ length results
      → AreBound T env → SegmentTold (hands at ends around env r) (λ w. AreBound (with_types T at results) w)
  hands_told T results at ends around env r Q t many h =
      told_then r Q (λ w. AreBound (with_types T at results) w)
      (λ inner s. defines at (numbers_of inner ends) around env s) t
      (λ inner s q. defines_told T results (numbers_of inner ends) at around env s (numbers_length inner ends ∙ many) h)

  leaves_told : (T : Types) (results : List IrType) (place : Place) (k : ℕ) (ns : List Number) (s : State)
      → length ns ≡ length results → AreBound T place.env
      → SegmentTold (leaves place k ns s) (λ w. AreBound (with_types T place.res results) w)
  leaves_told T results place k ns s many h = record {
    holds = (tt, definitions_told ns place.res place.around place.env);
    ends = bound_binds T results ns place.res place.env many h;
  }

  -- a region, from the scope in which it begins to that in which it ends
  abbrev IsRegion : Running → Types → Types → Type 0
  IsRegion body U V = (turns : List Iteration) (env : List Binding) (s : State) → AreBound U env
      → SegmentTold (body turns env s) (λ w. AreBound V w)

  -- values are defined, and a region runs behind
  begins_told : (T U V : Types) (tys : List IrType) (at : ℕ) (ns : List Number) (turns : List Iteration)
      (env : List Binding) (s : State) (body : Running) → length ns ≡ length tys → AreBound T env
      → Extends U (with_types T at tys) → IsRegion body U V
      → SegmentTold (run_then (defines at ns turns env s) (body turns)) (λ w. AreBound V w)
  begins_told T U V tys at ns turns env s body many h same region =
      told_then (defines at ns turns env s) (λ w. AreBound (with_types T at tys) w) (λ w. AreBound V w) (body turns)
      (defines_told T tys ns at turns env s many h)
      (λ w s1 b. region turns w s1 (bound_less U (with_types T at tys) w same b))

  module _ (T : Types) (place : Place) (results : List IrType) (h : AreBound T place.env) where
    abbrev Left : List Binding → Type 0
    Left w = AreBound (with_types T place.res results) w

    counted_told : (iv : IrType) (tys : List IrType) (U V : Types) (body : Running) (ends : List Label)
        → Extends U (with_types T (place.at + 1) (iv ∷ tys)) → IsRegion body U V → length ends ≡ length tys
        → length tys ≡ length results
        → (fuel : ℕ) (upper step v : Number) (k : ℕ) (args : List Number) (s : State) → length args ≡ length tys
        → SegmentTold (counted fuel body place ends upper step v k args s) Left
    counted_told iv tys U V body ends same region many gives zero upper step v k args s size =
        told_if (holds Slt v.w v.v upper.v) (stops Cut s) (leaves place k args s) Left (λ e. told_stop Cut s Left)
        (λ e. leaves_told T results place k args s (size ∙ gives) h)
    counted_told iv tys U V body ends same region many gives (suc fuel) upper step v k args s size =
        told_if (holds Slt v.w v.v upper.v) _ (leaves place k args s) Left
        (λ e. told_tick s _ Left (λ s1. told_then _ (λ w. AreBound V w) Left
        (λ inner s2. counted fuel body place ends upper step (number v.w (v.v + step.v)) (k + 1) (numbers_of inner ends) s2)
        (begins_told T U V (iv ∷ tys) (place.at + 1) (v ∷ args) (in_turn place k) place.env s1 body (omega (arith, size)) h
        same region)
        (λ inner s2 b. counted_told iv tys U V body ends same region many gives fuel upper step
        (number v.w (v.v + step.v)) (k + 1) (numbers_of inner ends) s2 (numbers_length inner ends ∙ many))))
        (λ e. leaves_told T results place k args s (size ∙ gives) h)

    repeated_told : (tys params_tys : List IrType) (U V A X : Types) (before after : Running) (params : ℕ) (cond : Label)
        (passed ends : List Label) → Extends U (with_types T (place.at + 1) tys) → IsRegion before U V → Extends T V
        → A ≡ with_types T params params_tys → IsRegion after A X → length ends ≡ length tys
        → length passed ≡ length params_tys → length passed ≡ length results
        → (fuel k : ℕ) (args : List Number) (s : State) → length args ≡ length tys
        → SegmentTold (repeated fuel before after place params cond passed ends k args s) Left
    repeated_told tys params_tys U V A X before after params cond passed ends same tests keeps is runs many fits gives zero k args s size =
        told_then _ (λ w. AreBound V w) Left _
        (begins_told T U V tys (place.at + 1) args (in_turn place k) place.env s before size h same tests)
        (λ inner s1 b. told_if (is_false inner cond) (leaves place k (numbers_of inner passed) s1) (stops Cut s1) Left
        (λ e. leaves_told T results place k (numbers_of inner passed) s1 (numbers_length inner passed ∙ gives) h)
        (λ e. told_stop Cut s1 Left))
    repeated_told tys params_tys U V A X before after params cond passed ends same tests keeps is runs many fits gives (suc fuel) k args s size =
        told_then _ (λ w. AreBound V w) Left _
        (begins_told T U V tys (place.at + 1) args (in_turn place k) place.env s before size h same tests)
        (λ inner s1 b. told_if (is_false inner cond) (leaves place k (numbers_of inner passed) s1) _ Left
        (λ e. leaves_told T results place k (numbers_of inner passed) s1 (numbers_length inner passed ∙ gives) h)
        (λ e. told_tick s1 _ Left (λ s2. told_then _ (λ w. AreBound X w) Left
        (λ last s3. repeated fuel before after place params cond passed ends (k + 1) (numbers_of last ends) s3)
        (begins_told T A X params_tys params (numbers_of inner passed) (in_turn place k) inner s2 after
        (numbers_length inner passed ∙ fits) (bound_less T V inner keeps b)
        (λ l ty e. subst (λ (B : Types). B l ≡ Some ty) is e) runs)
        (λ last s3 b2. repeated_told tys params_tys U V A X before after params cond passed ends same tests keeps is runs
        many fits gives fuel (k + 1) (numbers_of last ends) s3 (numbers_length last ends ∙ many)))))

  -- ---- operations

  module _ (P : Types → ℕ → Type 0) (says : (T : Types) (at : ℕ) (env : List Binding) → P T at → AreBound T env → H at env) where
    mutual
      pub ops_told : (ops : OpList) (T : Types) (fuel at : ℕ) (around : List Iteration) (env : List Binding) (s : State)
          → TypedOps T at ops → AtEach P T at ops → AreBound T env
          → SegmentTold (run_ops ops fuel at around env s) (λ w. AreBound (types_after T at ops) w)
      ops_told nil T fuel at around env s t p h = record { holds = tt; ends = h }
      ops_told (next packs results kind rest) T fuel at around env s t p h =
          let mid = at + (inner_labels kind + length results) in
          let U = with_types T (at + inner_labels kind) results in
          let here = kind_told kind packs results T fuel at around env s t.0 t.1 p.1 h in
          told_then (arrives at around env (run_kind kind results fuel at around env s)) (λ w. AreBound U w)
          (λ w. AreBound (types_after U mid rest) w) (run_ops rest fuel mid around)
          (record { holds = (says T at env p.0 h, here.holds); ends = here.ends })
          (λ env1 s1 b. ops_told rest U fuel mid around env1 s1 t.2 p.2 b)

      kind_told : (kind : OpKind) (packs : List Pack) (results : List IrType) (T : Types) (fuel at : ℕ)
          (around : List Iteration) (env : List Binding) (s : State) → TypedOp T packs results kind
          → TypedRegions T at results kind → AtEachInside P T at kind → AreBound T env
          → SegmentTold (run_kind kind results fuel at around env s)
          (λ w. AreBound (with_types T (at + inner_labels kind) results) w)
      kind_told (Simple does) packs results T fuel at around env s t r p h =
          let e : at + 0 ≡ at = omega arith in
          subst (λ l. SegmentTold (run_simple at results around env s does) (λ w. AreBound (with_types T l results) w)) (sym e)
          (simple_told T at results around env h does s t.counted)
      kind_told (If c first firsts has_else other others) packs results T fuel at around env s t r p h =
          let mid = at + labels_of first in
          let res = at + labels_of first + labels_of other in
          let e : at + inner_labels (If c first firsts has_else other others) ≡ res = omega arith in
          let lengths = branch_lengths results firsts others t.counted r.1.counted r.3.counted in
          let run_first = run_ops first fuel at around env s in
          let run_other = run_ops other fuel mid around env s in
          subst (λ l. SegmentTold (run_kind (If c first firsts has_else other others) results fuel at around env s)
          (λ w. AreBound (with_types T l results) w)) (sym e)
          (told_if (is_false env c) (hands res others around env run_other) (hands res firsts around env run_first)
          (λ w. AreBound (with_types T res results) w)
          (λ q. hands_told T results res others around env run_other (λ w. AreBound (types_after T mid other) w)
          (ops_told other T fuel mid around env s r.2 p.1 h) lengths.1 h)
          (λ q. hands_told T results res firsts around env run_first (λ w. AreBound (types_after T at first) w)
          (ops_told first T fuel at around env s r.0 p.0 h) lengths.0 h))
      kind_told (For lower upper step iv args inits body ends) packs results T fuel at around env s t r p h =
          let in_body = at + 2 + length args in
          let res = in_body + labels_of body in
          let tys = arg_types args in
          let e : at + inner_labels (For lower upper step iv args inits body ends) ≡ res = omega arith in
          let U = with_types (with_types T (at + 1) (iv.ty ∷ [])) (at + 2) tys in
          let V = types_after U in_body body in
          let place : Place = record { at = at; res = res; around = around; env = env } in
          let inits_many = have_bits_length T tys inits (for_inits T packs results lower upper step iv args inits body ends at t) in
          let ends_many = have_bits_length V tys ends (for_ends T packs results lower upper step iv args inits body ends at t r) in
          let gives = for_results T packs results lower upper step iv args inits body ends at t in
          subst (λ l. SegmentTold (run_kind (For lower upper step iv args inits body ends) results fuel at around env s)
          (λ w. AreBound (with_types T l results) w)) (sym e)
          (counted_told T place results h iv.ty tys U V (run_ops body fuel in_body) ends
          (λ l ty k. (let g : with_types (with_types T (at + 1) (iv.ty ∷ [])) (at + 1 + 1) tys l ≡ Some ty
          = subst (λ z. with_types (with_types T (at + 1) (iv.ty ∷ [])) z tys l ≡ Some ty) (two at) k in
          sym (with_more T (at + 1) iv.ty tys l) ∙ g))
          (λ turns env2 s2 b. ops_told body U fuel in_body turns env2 s2 r.0 p b) ends_many
          (types_length args ∙ gives.0) fuel (look env upper.0) (look env step.0) (look env lower.0) 0 (numbers_of env inits) s
          (numbers_length env inits ∙ inits_many))
        where
          two : (at : ℕ) → at + 2 ≡ at + 1 + 1
          two at = omega arith
      kind_told (While args inits before passed cond after_args after ends) packs results T fuel at around env s t r p h =
          let in_before = at + 1 + length args in
          let params = in_before + labels_of before in
          let in_after = params + length after_args in
          let res = in_after + labels_of after in
          let e : at + inner_labels (While args inits before passed cond after_args after ends) ≡ res = omega arith in
          let tys = arg_types args in
          let after_tys = arg_types after_args in
          let U = with_types T (at + 1) tys in
          let V = types_after U in_before before in
          let A = with_types T params after_tys in
          let X = types_after A in_after after in
          let place : Place = record { at = at; res = res; around = around; env = env } in
          let inits_many = have_bits_length T tys inits (while_inits T packs results args inits before passed cond after_args after ends at t r) in
          let gives = have_bits_length V results passed (while_passed T packs results args inits before passed cond after_args after ends at t r) in
          let fits = have_bits_length V after_tys passed (while_params T packs results args inits before passed cond after_args after ends at t r) in
          let many = have_bits_length X tys ends (while_ends T packs results args inits before passed cond after_args after ends at t r) in
          subst (λ l. SegmentTold (run_kind (While args inits before passed cond after_args after ends) results fuel at around env s)
          (λ w. AreBound (with_types T l results) w)) (sym e)
          (repeated_told T place results h tys after_tys U V A X (run_ops before fuel in_before) (run_ops after fuel in_after)
          params cond passed ends (λ l ty k. k)
          (λ turns env2 s2 b. ops_told before U fuel in_before turns env2 s2 r.0 p.0 b)
          (λ l ty k. after_extends before U in_before l ty (with_extends T (at + 1) tys l ty k)) refl
          (λ turns env2 s2 b. ops_told after A fuel in_after turns env2 s2 r.3 p.1 b) many fits gives fuel 0
          (numbers_of env inits) s (numbers_length env inits ∙ inits_many))

    -- ---- items

    items_told : (items : List OpList) (T : Types) (func k fuel : ℕ) (env : List Binding) (s : State)
        → TypedItems T func k items → AtEachItem P T func k items → AreBound T env
        → SegmentTold (run_items func k items fuel env s) (λ w. Unit {0})
    items_told [] T func k fuel env s t p h = record { holds = tt; ends = tt }
    items_told (ops ∷ items) T func k fuel env s t p h =
        let U = types_after T (label_at func k 0) ops in
        told_then (run_ops ops fuel (label_at func k 0) [] env s) (λ w. AreBound U w) (λ w. Unit {0})
        (run_items func (k + 1) items fuel) (ops_told ops T fuel (label_at func k 0) [] env s t.0 p.0 h)
        (λ env1 s1 b. items_told items U func (k + 1) fuel env1 s1 t.1 p.1 b)

    given_many : (tys : List IrType) (ns : List ℕ) → length ns ≡ length tys → length (numbers_at tys ns) ≡ length tys
    given_many [] ns e = refl
    given_many (ty ∷ tys) [] e = absurd (omega (arith, e))
    given_many (ty ∷ tys) (n ∷ ns) e = ap (λ k. suc k) (given_many tys ns (omega (arith, e)))

    -- in all runs of a function
    pub body_told : (f : Func) (body : Body) (args replies : List ℕ) (budget : ℕ) → length args ≡ length f.args
        → TypedItems (args_typed f.index f.args) f.index 1 (view_items body.items)
        → AtEachItem P (args_typed f.index f.args) f.index 1 (view_items body.items)
        → AllHoldAt (at_arrivals H) (run_body f body args replies budget).reports
    body_told f body args replies budget many t p =
        let tys = arg_types f.args in
        let begin : State = record { budget = budget; replies = replies; trace = [] } in
        (told_then (defines (label_at f.index 0 0) (numbers_at tys args) [] [] begin)
        (λ w. AreBound (args_typed f.index f.args) w) (λ w. Unit {0}) (run_items f.index 1 (view_items body.items) budget)
        (defines_told untyped tys (numbers_at tys args) (label_at f.index 0 0) [] [] begin
        (given_many tys args (many ∙ sym (types_length f.args))) (λ l ty e. absurd cc))
        (λ env s b. items_told (view_items body.items) (args_typed f.index f.args) f.index 1 budget env s t p b)).holds
