-- Where a loop is left, its results are defined, and it is told of each.
use Rattle.std.proofs.Common.{◌≡◌, ℕ, ◌+◌, ◌==◌, zero, suc, Bool, true, false, List, [], ◌∷◌, ◌++◌, length, if◌then◌else◌, refl, ap, ◌∙◌, sym, subst, arith}
use Rattle.arith_word.specs.declared.label.Label.{Label}
use Rattle.mlir_ir.specs.declared.types.IrType.{IrType}
use Rattle.mlir_ir.specs.Operations.{OpKind, For, While, inner_labels, labels_of}
use Rattle.mlir_ir.specs.Runs.{Number, Binding, Iteration, Report, State, Stop, Cut, End, Done, Stopped, Segment, look, numbers_of, is_false, binds, end_then, run_then, reports_then, stops, defines, definitions, tick, Running, Place, leaves, in_turn, counted, repeated, run_ops, run_kind}
use Rattle.pass_copy.specs.Replaced.{is_loop}
use Rattle.pass_copy.specs.Reported.{Claim, AllHoldAt}
use Rattle.pass_copy.proofs.AlikeOps.{AlikeOp, both_simple, both_if, both_for, both_while}
use Rattle.pass_copy.proofs.Bindings.{Scope, numbers_length}
use Rattle.pass_copy.proofs.RunEnds.{spent, goes_on, stepped}

-- the values in scope where a run ends, if it does
abbrev env_at : End → List Binding
env_at (Done env s) = env
env_at (Stopped stop trace) = []

-- so many results from a label on were defined, and the claim holds at their definitions
pub record Results (H : Claim) (res count : ℕ) (env end : List Binding) : Type 0 where
  pub numbers : List Number
  pub around : List Iteration
  pub count_is : length numbers ≡ count
  pub told : AllHoldAt H (definitions res numbers around env)
  pub is : end ≡ binds res numbers env

module _ (H : Claim) (res count : ℕ) (env : List Binding) where
  -- where the segment ends, its results were defined
  abbrev pub Defines : Segment → Type 0
  Defines r = (end : List Binding) (s : State) → r.end ≡ Done end s → AllHoldAt H r.reports → Results H res count env end

  hold_behind : (xs ys : List Report) → AllHoldAt H (xs ++ ys) → AllHoldAt H ys
  hold_behind [] ys h = h
  hold_behind (r ∷ xs) ys h = hold_behind xs ys h.1

  end_behind : (e : End) (reports : List Report) (go : List Binding → State → Segment) (end : List Binding) (s : State) → ((inner : List Binding) (s1 : State) → Defines (go inner s1))
      → end_then e (λ inner s1. (go inner s1).end) ≡ Done end s → AllHoldAt H (reports ++ reports_then e (λ inner s1. (go inner s1).reports)) → Results H res count env end
  end_behind (Done inner s1) reports go end s k q h = k inner s1 end s q (hold_behind reports (go inner s1).reports h)
  end_behind (Stopped stop trace) reports go end s k q h = cc

  defines_then : (r : Segment) (go : List Binding → State → Segment) → ((inner : List Binding) (s : State) → Defines (go inner s)) → Defines (run_then r go)
  defines_then r go k end s q h = end_behind r.end r.reports go end s k q h

  defines_if : (c : Bool) (x y : Segment) → Defines x → Defines y → Defines (if c then x else y)
  defines_if true x y p q = p
  defines_if false x y p q = q

  defines_cut : (stop : Stop) (s : State) → Defines (stops stop s)
  defines_cut stop s end s1 q h = cc

  defines_tick : (s : State) (go : State → Segment) → ((s1 : State) → Defines (go s1)) → Defines (tick s go)
  defines_tick s go k = defines_if (s.budget == 0) (stops Cut s) (go (spent s)) (defines_cut Cut s) (k (spent s))

  defines_left : (loop : Place) (k : ℕ) (results : List Number) (s : State) → loop.env ≡ env → loop.res ≡ res → length results ≡ count → Defines (leaves loop k results s)
  defines_left loop k results s same begins n end s1 q h = record {
    numbers = results;
    around = loop.around;
    count_is = n;
    told = subst (λ x. AllHoldAt H (definitions x results loop.around env)) begins (subst (λ e. AllHoldAt H (definitions loop.res results loop.around e)) same h.1);
    is = sym (ap env_at q) ∙ (λ j. binds (begins j) results (same j));
  }

  defines_counted : (fuel : ℕ) (body : Running) (loop : Place) (ends : List Label) (upper step v : Number) (k : ℕ) (args : List Number) (s : State)
      → loop.env ≡ env → loop.res ≡ res → length args ≡ count → length ends ≡ count → Defines (counted fuel body loop ends upper step v k args s)
  defines_counted zero body loop ends upper step v k args s same begins n m =
      defines_if (goes_on upper v) (stops Cut s) (leaves loop k args s) (defines_cut Cut s) (defines_left loop k args s same begins n)
  defines_counted (suc fuel) body loop ends upper step v k args s same begins n m =
      let turn = λ (s1 : State). run_then (defines (loop.at + 1) (v ∷ args) (in_turn loop k) loop.env s1) (body (in_turn loop k)) in
      let next = λ (inner : List Binding) (s2 : State). counted fuel body loop ends upper step (stepped step v) (k + 1) (numbers_of inner ends) s2 in
      defines_if (goes_on upper v) (tick s (λ s1. run_then (turn s1) next)) (leaves loop k args s)
      (defines_tick s (λ s1. run_then (turn s1) next) (λ s1. defines_then (turn s1) next
      (λ inner s2. defines_counted fuel body loop ends upper step (stepped step v) (k + 1) (numbers_of inner ends) s2 same begins (numbers_length inner ends ∙ m) m)))
      (defines_left loop k args s same begins n)

  defines_repeated : (fuel : ℕ) (before after : Running) (loop : Place) (params : ℕ) (cond : Label) (passed ends : List Label) (k : ℕ) (args : List Number) (s : State)
      → loop.env ≡ env → loop.res ≡ res → length passed ≡ count → Defines (repeated fuel before after loop params cond passed ends k args s)
  defines_repeated zero before after loop params cond passed ends k args s same begins n =
      defines_then (run_then (defines (loop.at + 1) args (in_turn loop k) loop.env s) (before (in_turn loop k)))
      (λ inner s1. if is_false inner cond then leaves loop k (numbers_of inner passed) s1 else stops Cut s1)
      (λ inner s1. defines_if (is_false inner cond) (leaves loop k (numbers_of inner passed) s1) (stops Cut s1)
      (defines_left loop k (numbers_of inner passed) s1 same begins (numbers_length inner passed ∙ n)) (defines_cut Cut s1))
  defines_repeated (suc fuel) before after loop params cond passed ends k args s same begins n =
      let turn = λ (inner : List Binding) (s2 : State). run_then (defines params (numbers_of inner passed) (in_turn loop k) inner s2) (after (in_turn loop k)) in
      let next = λ (last : List Binding) (s3 : State). repeated fuel before after loop params cond passed ends (k + 1) (numbers_of last ends) s3 in
      defines_then (run_then (defines (loop.at + 1) args (in_turn loop k) loop.env s) (before (in_turn loop k)))
      (λ inner s1. if is_false inner cond then leaves loop k (numbers_of inner passed) s1 else tick s1 (λ s2. run_then (turn inner s2) next))
      (λ inner s1. defines_if (is_false inner cond) (leaves loop k (numbers_of inner passed) s1) (tick s1 (λ s2. run_then (turn inner s2) next))
      (defines_left loop k (numbers_of inner passed) s1 same begins (numbers_length inner passed ∙ n))
      (defines_tick s1 (λ s2. run_then (turn inner s2) next) (λ s2. defines_then (turn inner s2) next
      (λ last s3. defines_repeated fuel before after loop params cond passed ends (k + 1) (numbers_of last ends) s3 same begins n))))

-- a loop that another is like
pub loop_defines : (H G : Claim) {j : ℕ} {ctx : Scope} {at at' : ℕ} {results : List IrType} {kind kind' : OpKind} → AlikeOp G j ctx at at' results kind kind' → is_loop kind ≡ true
    → (fuel : ℕ) (around : List Iteration) (env : List Binding) (s : State)
    → Defines H (at + inner_labels kind) (length results) env (run_kind kind results fuel at around env s)
loop_defines H G (both_simple bl counts al) l fuel around env s = cc
loop_defines H G (both_if ctxf ctxo bl mc lf lo af ef ao eo) l fuel around env s = cc
loop_defines H G (both_for {ctx} {at} {at'} {results} {lower} {lower'} {upper} {upper'} {step} {step'} {iv} {iv'} {args} {args'} {inits} {inits'} {body} {body'} {ends} {ends'} ctxb bl ml mu ms mi li le0 lr ab me) l fuel around env s =
    let in_body = at + 2 + length args in
    defines_counted H (at + inner_labels (For lower upper step iv args inits body ends)) (length results) env fuel (run_ops body fuel in_body)
    (record { at = at; res = in_body + labels_of body; around = around; env = env }) ends (look env upper.0) (look env step.0) (look env lower.0) 0 (numbers_of env inits) s
    refl (omega arith) (numbers_length env inits ∙ li ∙ sym lr) (le0 ∙ sym lr)
loop_defines H G (both_while {k} {ctx} {at} {at'} {results} {args} {args'} {inits} {inits'} {before} {before'} {passed} {passed'} {cond} {cond'} {after_args} {after_args'} {after} {after'} {ends} {ends'}
    k2 ctxb ctxa few bl mi li le0 lp lr ab mc mp bb aa me) l fuel around env s =
    let in_before = at + 1 + length args in
    let params = in_before + labels_of before in
    let in_after = params + length after_args in
    defines_repeated H (at + inner_labels (While args inits before passed cond after_args after ends)) (length results) env fuel (run_ops before fuel in_before) (run_ops after fuel in_after)
    (record { at = at; res = in_after + labels_of after; around = around; env = env }) params cond passed ends 0 (numbers_of env inits) s
    refl (omega arith) (lp ∙ sym lr)
