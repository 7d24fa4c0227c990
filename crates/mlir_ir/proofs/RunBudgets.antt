-- A run on a greater budget is the same run, or goes on where the lesser budget cut it.
use Rattle.std.proofs.Common.{◌≡◌, ℕ, ◌+◌, ◌-◌, ◌==◌, ◌≤◌, zero, suc, Bool, true, false, List, [], ◌∷◌, ◌++◌, length, nat_lt, Option, None, Some, if◌then◌else◌, refl, ap, ◌∙◌, sym, subst, arith, inl, inr}
use Rattle.std.proofs.lemmas.Bool.{cases_Bool, eq-eqb, eqb-false, ne_eqb}
use Rattle.std.proofs.lemmas.List.{append-nil}
use Rattle.std.specs.Option.{option_map_or}
use Rattle.arith_word.specs.Labels.{label_at}
use Rattle.arith_word.specs.Operation.{holds}
use Rattle.arith_word.specs.declared.label.Label.{Label}
use Rattle.arith_word.specs.declared.op.Pred.TheVariants.{Slt}
use Rattle.mlir_ir.specs.declared.types.Body.{Body}
use Rattle.mlir_ir.specs.declared.types.Func.{Func}
use Rattle.mlir_ir.specs.declared.types.IrType.{IrType}
use Rattle.mlir_ir.specs.Operations.{SimpleOp, Const, Bin, Cast, Cmp, Select, Call, OpKind, Simple, If, For, While, OpList, nil, next, labels_of, inner_labels}
use Rattle.mlir_ir.specs.RunPrefixes.{IsPrefix, richer, IsFrontOf}
use Rattle.mlir_ir.specs.Rules.{arg_types}
use Rattle.mlir_ir.specs.Runs.{Number, number, Binding, Iteration, Event, Report, arrived, State, Stop, Cut, Done, Stopped, Segment, look, numbers_of, is_false, run_then, stops, defines, tick, numbers_at, answers, calls, gives, result_bits, computed, run_simple, hands, Running, Place, leaves, in_turn, counted, repeated, run_ops, run_kind, run_items, trace_of, run_from, run_body, run_declared, run_of}
use Rattle.mlir_ir.specs.View.{view_items}
use Rattle.mlir_ir.proofs.RunTraces.{prefix_self, prefix_more, prefix_trans, Grows, Growing, Regular, if_grows, then_grows, then_extends, tick_grows, begun, begun_grows, for_turn, while_turn, answers_grow, counted_grows, repeated_grows, ops_grow, items_grow}

-- the second segment is the first with n more of the budget, which then is at most b, or goes on where that was cut
data Follows (n b : ℕ) : Segment → Segment → Type 0 where
  ended : {env : List Binding} {s : State} {rs : List Report} → s.budget ≤ b
      → Follows n b (record { end = Done env s; reports = rs }) (record { end = Done env (richer n s); reports = rs })
  halted : {stop : Stop} {trace : List Event} {rs : List Report}
      → Follows n b (record { end = Stopped stop trace; reports = rs }) (record { end = Stopped stop trace; reports = rs })
  cut : {trace : List Event} {rs : List Report} {long : Segment} → IsPrefix trace (trace_of long.end) → IsPrefix rs long.reports
      → Follows n b (record { end = Stopped Cut trace; reports = rs }) long

weaken : (n b c : ℕ) (x y : Segment) → b ≤ c → Follows n b x y → Follows n c x y
weaken n b c x y le (ended below) = ended (omega arith)
weaken n b c x y le halted = halted
weaken n b c x y le (cut p q) = cut p q

front_more : (rs xs ys : List Report) → IsPrefix xs ys → IsPrefix (rs ++ xs) (rs ++ ys)
front_more [] xs ys p = p
front_more (r ∷ rs) xs ys p = let q = front_more rs xs ys p in (q.0, ap (λ l. r ∷ l) q.1)

prepend : (n b : ℕ) (rs : List Report) (x y : Segment) → Follows n b x y
    → Follows n b (record { end = x.end; reports = rs ++ x.reports }) (record { end = y.end; reports = rs ++ y.reports })
prepend n b rs x y (ended below) = ended below
prepend n b rs x y halted = halted
prepend n b rs x y (cut p q) = cut p (front_more rs _ _ q)

if_follows : (n b : ℕ) (c : Bool) (x y x' y' : Segment) → Follows n b x x' → Follows n b y y'
    → Follows n b (if c then x else y) (if c then x' else y')
if_follows n b true x y x' y' p q = p
if_follows n b false x y x' y' p q = q

then_follows : (n b : ℕ) (r r' : Segment) (go go' : List Binding → State → Segment) → Follows n b r r'
    → ((env : List Binding) (s : State) → s.budget ≤ b → Follows n b (go env s) (go' env (richer n s))) → Growing go'
    → Follows n b (run_then r go) (run_then r' go')
then_follows n b r r' go go' (ended {env} {s} {rs} below) h grow = prepend n b rs (go env s) (go' env (richer n s)) (h env s below)
then_follows n b r r' go go' halted h grow = halted
then_follows n b r r' go go' (cut {trace} {rs} {long} p q) h grow =
    cut (prefix_trans trace (trace_of long.end) (trace_of (run_then long go').end) p (then_extends long go' grow))
    (subst (λ l. IsPrefix l (run_then long go').reports) (sym (append-nil rs)) (prefix_trans rs long.reports (run_then long go').reports q (prefix_more long.reports _)))

-- a run that has no budget is a front of each run that begins in its state
stopped_follows : (n b : ℕ) (s : State) (long : Segment) → Grows s long → Follows n b (stops Cut s) long
stopped_follows n b s long grows = cut grows (long.reports, refl)

same_true : {A : Type 0} (c : Bool) (x y : A) → c ≡ true → (if c then x else y) ≡ x
same_true true x y e = refl
same_true false x y e = cc

same_false : {A : Type 0} (c : Bool) (x y : A) → c ≡ false → (if c then x else y) ≡ y
same_false true x y e = cc
same_false false x y e = refl

tick_follows : (n : ℕ) (s : State) (go go' : State → Segment)
    → ((s1 : State) → s1.budget + 1 ≤ s.budget → Follows n s1.budget (go s1) (go' (richer n s1))) → ((s1 : State) → Grows s1 (go' s1))
    → Follows n s.budget (tick s go) (tick (richer n s) go')
tick_follows n s go go' h grow =
    elim (cases_Bool (s.budget == 0)) [
      | inl none ↦
          subst (λ x. Follows n s.budget x (tick (richer n s) go')) (sym (same_true (s.budget == 0) (stops Cut s) (go less) none))
          (stopped_follows n s.budget s (tick (richer n s) go') (tick_grows (richer n s) go' grow))
      | inr some ↦
          let some_is : s.budget ≡ 0 → ⊥ = eqb-false s.budget 0 some in
          let more : (s.budget + n == 0) ≡ false = ne_eqb (s.budget + n) 0 (λ e. some_is (omega arith)) in
          let left : s.budget - 1 + n ≡ s.budget + n - 1 = minus_one s.budget n some_is in
          let next = weaken n (s.budget - 1) s.budget (go less) (go' (richer n less)) (omega arith) (h less (one_less s.budget some_is)) in
          let long = subst (λ m. Follows n s.budget (go less) (go' (record s { budget = m }))) left next in
          subst (λ x. Follows n s.budget x (tick (richer n s) go')) (sym (same_false (s.budget == 0) (stops Cut s) (go less) some))
          (subst (λ y. Follows n s.budget (go less) y) (sym (same_false (s.budget + n == 0) (stops Cut (richer n s)) (go' (record s { budget = s.budget + n - 1 })) more)) long)
    ]
  where
    less : State
    less = record s { budget = s.budget - 1 }

    minus_one : (b n : ℕ) → (b ≡ 0 → ⊥) → b - 1 + n ≡ b + n - 1
    minus_one zero n some = absurd (some refl)
    minus_one (suc b) n some = omega arith

    one_less : (b : ℕ) → (b ≡ 0 → ⊥) → b - 1 + 1 ≤ b
    one_less zero some = absurd (some refl)
    one_less (suc b) some = omega arith

defines_follows : (n : ℕ) (at : ℕ) (ns : List Number) (around : List Iteration) (env : List Binding) (s : State)
    → Follows n s.budget (defines at ns around env s) (defines at ns around env (richer n s))
defines_follows n at ns around env s = ended (omega arith)

answers_follow : (n at : ℕ) (results : List IrType) (around : List Iteration) (env : List Binding) (s : State)
    → Follows n s.budget (answers at results around env s) (answers at results around env (richer n s))
answers_follow n at results around env s =
    if_follows n s.budget (nat_lt (length s.replies) (length results)) _ _ _ _ halted
    (ended (omega arith))

calls_follow : (n at callee : ℕ) (args : List Number) (results : List IrType) (around : List Iteration) (env : List Binding) (s : State)
    → Follows n s.budget (calls at callee args results around env s) (calls at callee args results around env (richer n s))
calls_follow n at callee args results around env s =
    tick_follows n s go go (λ s1 le. answers_follow n at results around env (recorded s1)) (λ s1. grown s1)
  where
    recorded : State → State
    recorded s1 = record s1 { trace = s1.trace ++ record { callee = callee; args = args } ∷ [] }

    go : State → Segment
    go s1 = answers at results around env (recorded s1)

    grown : (s1 : State) → Grows s1 (go s1)
    grown s1 =
        prefix_trans s1.trace (recorded s1).trace (trace_of (go s1).end) (prefix_more s1.trace (record { callee = callee; args = args } ∷ []))
        (answers_grow at results around env (recorded s1))

gives_follow : (n at : ℕ) (results : List IrType) (around : List Iteration) (env : List Binding) (s : State) (v : Option ℕ)
    → Follows n s.budget (gives at results around env s v) (gives at results around env (richer n s) v)
gives_follow n at results around env s None = halted
gives_follow n at results around env s (Some v) = defines_follows n at (numbers_at results (v ∷ [])) around env s

simple_follows : (n at : ℕ) (results : List IrType) (around : List Iteration) (env : List Binding) (s : State) (does : SimpleOp)
    → Follows n s.budget (run_simple at results around env s does) (run_simple at results around env (richer n s) does)
simple_follows n at results around env s (Call func passed) = calls_follow n at func (numbers_of env passed) results around env s
simple_follows n at results around env s (Const v) = gives_follow n at results around env s (computed env (result_bits results) (Const v))
simple_follows n at results around env s (Bin op flags a b) = gives_follow n at results around env s (computed env (result_bits results) (Bin op flags a b))
simple_follows n at results around env s (Cast op flags a) = gives_follow n at results around env s (computed env (result_bits results) (Cast op flags a))
simple_follows n at results around env s (Cmp pred a b) = gives_follow n at results around env s (computed env (result_bits results) (Cmp pred a b))
simple_follows n at results around env s (Select c a b) = gives_follow n at results around env s (computed env (result_bits results) (Select c a b))

-- what runs in a region follows itself, on budgets of at most b
abbrev Steady : ℕ → ℕ → Running → Running → Type 0
Steady n b body body' = (around : List Iteration) (env : List Binding) (s : State) → s.budget ≤ b
    → Follows n s.budget (body around env s) (body' around env (richer n s))

-- values are defined, and then the region runs
begun_follows : (n b at : ℕ) (ns : List Number) (around : List Iteration) (env : List Binding) (s : State) (body body' : Running)
    → s.budget ≤ b → Steady n b body body' → Regular body'
    → Follows n s.budget (begun at ns around env s body) (begun at ns around env (richer n s) body')
begun_follows n b at ns around env s body body' le h grow =
    then_follows n s.budget (defines at ns around env s) (defines at ns around env (richer n s)) (body around) (body' around)
    (defines_follows n at ns around env s)
    (λ env1 s1 le1. weaken n s1.budget s.budget (body around env1 s1) (body' around env1 (richer n s1)) le1 (h around env1 s1 (omega arith)))
    (grow around)

leaves_follows : (n : ℕ) (loop : Place) (k : ℕ) (args : List Number) (s : State) → Follows n s.budget (leaves loop k args s) (leaves loop k args (richer n s))
leaves_follows n loop k args s = ended (omega arith)

no_budget : (s : State) (go : State → Segment) → s.budget ≡ 0 → tick s go ≡ stops Cut s
no_budget s go e = same_true (s.budget == 0) (stops Cut s) (go (record s { budget = s.budget - 1 })) (eq-eqb s.budget 0 e)

module _ (n b : ℕ) (body body' : Running) (loop : Place) (ends : List Label) (upper step : Number) (h : Steady n b body body') (grow' : Regular body') where
  abbrev goes_on : Number → Bool
  goes_on v = holds Slt v.w v.v upper.v

  -- the loop on fuel f follows that on fuel g
  abbrev CountedFollows : ℕ → ℕ → Type 0
  CountedFollows f g = (v : Number) (k : ℕ) (args : List Number) (s : State) → s.budget ≤ b → s.budget ≤ f → s.budget + n ≤ g
      → Follows n s.budget (counted f body loop ends upper step v k args s) (counted g body' loop ends upper step v k args (richer n s))

  counted_past : (fuel : ℕ) (any : Running) (v : Number) (k : ℕ) (args : List Number) (s : State) → goes_on v ≡ false
      → counted fuel any loop ends upper step v k args s ≡ leaves loop k args s
  counted_past zero any v k args s e = same_false (goes_on v) (stops Cut s) (leaves loop k args s) e
  counted_past (suc fuel) any v k args s e = same_false (goes_on v) (tick s (for_turn fuel any loop ends upper step v k args)) (leaves loop k args s) e

  past_follows : (f g : ℕ) (v : Number) (k : ℕ) (args : List Number) (s : State) → goes_on v ≡ false
      → Follows n s.budget (counted f body loop ends upper step v k args s) (counted g body' loop ends upper step v k args (richer n s))
  past_follows f g v k args s e =
      subst (λ x. Follows n s.budget x (counted g body' loop ends upper step v k args (richer n s))) (sym (counted_past f body v k args s e))
      (subst (λ y. Follows n s.budget (leaves loop k args s) y) (sym (counted_past g body' v k args (richer n s) e)) (leaves_follows n loop k args s))

  cut_follows : (g : ℕ) (v : Number) (k : ℕ) (args : List Number) (s : State) (x : Segment) → x ≡ stops Cut s
      → Follows n s.budget x (counted g body' loop ends upper step v k args (richer n s))
  cut_follows g v k args s x e =
      subst (λ x. Follows n s.budget x (counted g body' loop ends upper step v k args (richer n s))) (sym e)
      (stopped_follows n s.budget s (counted g body' loop ends upper step v k args (richer n s)) (counted_grows g body' loop ends upper step v k args (richer n s) grow'))

  -- the iterations behind one of the longer run
  abbrev later : ℕ → Number → ℕ → List Binding → State → Segment
  later g v k inner s2 = counted g body' loop ends upper step (number v.w (v.v + step.v)) (k + 1) (numbers_of inner ends) s2

  later_grows : (g : ℕ) (v : Number) (k : ℕ) → Growing (later g v k)
  later_grows g v k inner s2 = counted_grows g body' loop ends upper step (number v.w (v.v + step.v)) (k + 1) (numbers_of inner ends) s2 grow'

  turn_steps : (f g : ℕ) (v : Number) (k : ℕ) (args : List Number) (s : State) → CountedFollows f g → s.budget ≤ b → s.budget ≤ suc f → s.budget + n ≤ suc g
      → Follows n s.budget (tick s (for_turn f body loop ends upper step v k args)) (tick (richer n s) (for_turn g body' loop ends upper step v k args))
  turn_steps f g v k args s again le lf lg =
      tick_follows n s (for_turn f body loop ends upper step v k args) (for_turn g body' loop ends upper step v k args)
      (λ s1 less. then_follows n s1.budget _ _ _ (later g v k)
      (begun_follows n b (loop.at + 1) (v ∷ args) (in_turn loop k) loop.env s1 body body' (omega arith) h grow')
      (λ inner s2 le2. weaken n s2.budget s1.budget _ _ le2 (again (number v.w (v.v + step.v)) (k + 1) (numbers_of inner ends) s2 (omega arith) (omega arith) (omega arith)))
      (later_grows g v k))
      (λ s1. then_grows s1 (begun (loop.at + 1) (v ∷ args) (in_turn loop k) loop.env s1 body') (later g v k)
      (begun_grows (loop.at + 1) (v ∷ args) (in_turn loop k) loop.env s1 body' grow') (later_grows g v k))

  turn_follows : (f g : ℕ) (v : Number) (k : ℕ) (args : List Number) (s : State) → CountedFollows f g → s.budget ≤ b → s.budget ≤ suc f → s.budget + n ≤ suc g → goes_on v ≡ true
      → Follows n s.budget (counted (suc f) body loop ends upper step v k args s) (counted (suc g) body' loop ends upper step v k args (richer n s))
  turn_follows f g v k args s again le lf lg e =
      subst (λ x. Follows n s.budget x (counted (suc g) body' loop ends upper step v k args (richer n s)))
      (sym (same_true (goes_on v) (tick s (for_turn f body loop ends upper step v k args)) (leaves loop k args s) e))
      (subst (λ y. Follows n s.budget (tick s (for_turn f body loop ends upper step v k args)) y)
      (sym (same_true (goes_on v) (tick (richer n s) (for_turn g body' loop ends upper step v k args)) (leaves loop k args (richer n s)) e))
      (turn_steps f g v k args s again le lf lg))

  counted_follows : (f g : ℕ) → CountedFollows f g
  counted_follows zero g v k args s le lf lg =
      elim (cases_Bool (goes_on v)) [
        | inl e ↦ cut_follows g v k args s _ (same_true (goes_on v) (stops Cut s) (leaves loop k args s) e)
        | inr e ↦ past_follows zero g v k args s e
      ]
  counted_follows (suc f) zero v k args s le lf lg =
      elim (cases_Bool (goes_on v)) [
        | inl e ↦ cut_follows zero v k args s _
            (same_true (goes_on v) (tick s (for_turn f body loop ends upper step v k args)) (leaves loop k args s) e ∙ no_budget s (for_turn f body loop ends upper step v k args) (omega arith))
        | inr e ↦ past_follows (suc f) zero v k args s e
      ]
  counted_follows (suc f) (suc g) v k args s le lf lg =
      elim (cases_Bool (goes_on v)) [
        | inl e ↦ turn_follows f g v k args s (counted_follows f g) le lf lg e
        | inr e ↦ past_follows (suc f) (suc g) v k args s e
      ]

module _ (n b : ℕ) (before before' after after' : Running) (loop : Place) (params : ℕ) (cond : Label) (passed ends : List Label)
    (h : Steady n b before before') (grow : Regular before') (g : Steady n b after after') (grow_after : Regular after') where
  -- the loop on one fuel follows that on the other
  abbrev RepeatedFollows : ℕ → ℕ → Type 0
  RepeatedFollows f m = (k : ℕ) (args : List Number) (s : State) → s.budget ≤ b → s.budget ≤ f → s.budget + n ≤ m
      → Follows n s.budget (repeated f before after loop params cond passed ends k args s) (repeated m before' after' loop params cond passed ends k args (richer n s))

  -- what follows the before region on some fuel
  abbrev tested : ℕ → Running → Running → ℕ → List Binding → State → Segment
  tested zero any other k inner s1 = if is_false inner cond then leaves loop k (numbers_of inner passed) s1 else stops Cut s1
  tested (suc f) any other k inner s1 =
      if is_false inner cond then leaves loop k (numbers_of inner passed) s1 else tick s1 (while_turn f any other loop params cond passed ends k inner)

  repeated_is : (f : ℕ) (any other : Running) (k : ℕ) (args : List Number) (s : State)
      → repeated f any other loop params cond passed ends k args s
      ≡ run_then (run_then (defines (loop.at + 1) args (in_turn loop k) loop.env s) (any (in_turn loop k))) (tested f any other k)
  repeated_is zero any other k args s = refl
  repeated_is (suc f) any other k args s = refl

  while_turn_grows : (m k : ℕ) (inner : List Binding) (s2 : State) → Grows s2 (while_turn m before' after' loop params cond passed ends k inner s2)
  while_turn_grows m k inner s2 =
      then_grows s2 (begun params (numbers_of inner passed) (in_turn loop k) inner s2 after') (λ last s3. repeated m before' after' loop params cond passed ends (k + 1) (numbers_of last ends) s3)
      (begun_grows params (numbers_of inner passed) (in_turn loop k) inner s2 after' grow_after)
      (λ last s3. repeated_grows m before' after' loop params cond passed ends (k + 1) (numbers_of last ends) s3 grow grow_after)

  tested_grows : (m k : ℕ) → Growing (tested m before' after' k)
  tested_grows zero k inner s1 = if_grows s1 (is_false inner cond) (leaves loop k (numbers_of inner passed) s1) (stops Cut s1) (prefix_self s1.trace) (prefix_self s1.trace)
  tested_grows (suc m) k inner s1 =
      if_grows s1 (is_false inner cond) (leaves loop k (numbers_of inner passed) s1) (tick s1 (while_turn m before' after' loop params cond passed ends k inner)) (prefix_self s1.trace)
      (tick_grows s1 (while_turn m before' after' loop params cond passed ends k inner) (while_turn_grows m k inner))

  while_turn_follows : (f m k : ℕ) (inner : List Binding) (s2 : State) → RepeatedFollows f m → s2.budget ≤ b → s2.budget ≤ f → s2.budget + n ≤ m
      → Follows n s2.budget (while_turn f before after loop params cond passed ends k inner s2) (while_turn m before' after' loop params cond passed ends k inner (richer n s2))
  while_turn_follows f m k inner s2 again le lf lm =
      then_follows n s2.budget _ _ _ (λ last s3. repeated m before' after' loop params cond passed ends (k + 1) (numbers_of last ends) s3)
      (begun_follows n b params (numbers_of inner passed) (in_turn loop k) inner s2 after after' le g grow_after)
      (λ last s3 le3. weaken n s3.budget s2.budget _ _ le3 (again (k + 1) (numbers_of last ends) s3 (omega arith) (omega arith) (omega arith)))
      (λ last s3. repeated_grows m before' after' loop params cond passed ends (k + 1) (numbers_of last ends) s3 grow grow_after)

  tested_follows : (f m k : ℕ) (inner : List Binding) (s1 : State) → ((f' m' : ℕ) → f ≡ f' + 1 → m ≡ m' + 1 → RepeatedFollows f' m') → s1.budget ≤ b → s1.budget ≤ f → s1.budget + n ≤ m
      → Follows n s1.budget (tested f before after k inner s1) (tested m before' after' k inner (richer n s1))
  tested_follows zero zero k inner s1 again le lf lm =
      if_follows n s1.budget (is_false inner cond) _ _ _ _ (leaves_follows n loop k (numbers_of inner passed) s1) halted
  tested_follows zero (suc m) k inner s1 again le lf lm =
      if_follows n s1.budget (is_false inner cond) _ _ _ _ (leaves_follows n loop k (numbers_of inner passed) s1)
      (stopped_follows n s1.budget s1 _ (tick_grows (richer n s1) (while_turn m before' after' loop params cond passed ends k inner) (while_turn_grows m k inner)))
  tested_follows (suc f) zero k inner s1 again le lf lm =
      if_follows n s1.budget (is_false inner cond) _ _ _ _ (leaves_follows n loop k (numbers_of inner passed) s1)
      (subst (λ x. Follows n s1.budget x (stops Cut (richer n s1))) (sym (no_budget s1 (while_turn f before after loop params cond passed ends k inner) (omega arith))) halted)
  tested_follows (suc f) (suc m) k inner s1 again le lf lm =
      if_follows n s1.budget (is_false inner cond) _ _ _ _ (leaves_follows n loop k (numbers_of inner passed) s1)
      (tick_follows n s1 (while_turn f before after loop params cond passed ends k inner) (while_turn m before' after' loop params cond passed ends k inner)
      (λ s2 less. while_turn_follows f m k inner s2 (again f m (omega arith) (omega arith)) (omega arith) (omega arith) (omega arith))
      (while_turn_grows m k inner))

  begun_tested : (f m : ℕ) → ((f' m' : ℕ) → f ≡ f' + 1 → m ≡ m' + 1 → RepeatedFollows f' m') → RepeatedFollows f m
  begun_tested f m again k args s le lf lm =
      subst (λ x. Follows n s.budget x (repeated m before' after' loop params cond passed ends k args (richer n s))) (sym (repeated_is f before after k args s))
      (subst (λ y. Follows n s.budget (run_then (run_then (defines (loop.at + 1) args (in_turn loop k) loop.env s) (before (in_turn loop k))) (tested f before after k)) y)
      (sym (repeated_is m before' after' k args (richer n s)))
      (then_follows n s.budget _ _ (tested f before after k) (tested m before' after' k)
      (begun_follows n b (loop.at + 1) args (in_turn loop k) loop.env s before before' le h grow)
      (λ inner s1 le1. weaken n s1.budget s.budget _ _ le1 (tested_follows f m k inner s1 again (omega arith) (omega arith) (omega arith)))
      (tested_grows m k)))

  repeated_follows : (f m : ℕ) → RepeatedFollows f m
  repeated_follows zero m = begun_tested zero m (λ f' m' e i. absurd (nothing_next f' e))
    where
      nothing_next : (f' : ℕ) → 0 ≡ f' + 1 → ⊥
      nothing_next f' e = omega (arith, e)
  repeated_follows (suc f) zero = begun_tested (suc f) zero (λ f' m' e i. absurd (nothing_next m' i))
    where
      nothing_next : (m' : ℕ) → 0 ≡ m' + 1 → ⊥
      nothing_next m' e = omega (arith, e)
  repeated_follows (suc f) (suc m) =
      begun_tested (suc f) (suc m) (λ f' m' e i. subst (λ x. RepeatedFollows x m') (same f f' e) (subst (λ y. RepeatedFollows f y) (same m m' i) (repeated_follows f m)))
    where
      same : (x y : ℕ) → suc x ≡ y + 1 → x ≡ y
      same x y e = omega (arith, e)

hands_follow : (n b at : ℕ) (ends : List Label) (around : List Iteration) (env : List Binding) (r r' : Segment) → Follows n b r r'
    → Follows n b (hands at ends around env r) (hands at ends around env r')
hands_follow n b at ends around env r r' p =
    then_follows n b r r' _ (λ inner s1. defines at (numbers_of inner ends) around env s1) p
    (λ inner s1 le. weaken n s1.budget b _ _ le (defines_follows n at (numbers_of inner ends) around env s1)) (λ inner s1. prefix_self s1.trace)

mutual
  ops_follow : (ops : OpList) (f g n at : ℕ) (around : List Iteration) (env : List Binding) (s : State) → s.budget ≤ f → s.budget + n ≤ g
      → Follows n s.budget (run_ops ops f at around env s) (run_ops ops g at around env (richer n s))
  ops_follow nil f g n at around env s lf lg = ended (omega arith)
  ops_follow (next packs results kind rest) f g n at around env s lf lg =
      then_follows n s.budget _ _ _ (run_ops rest g (at + (inner_labels kind + length results)) around)
      (prepend n s.budget (arrived at env around ∷ []) _ _ (kind_follows kind results f g n at around env s lf lg))
      (λ env1 s1 le. weaken n s1.budget s.budget _ _ le (ops_follow rest f g n (at + (inner_labels kind + length results)) around env1 s1 (omega arith) (omega arith)))
      (λ env1 s1. ops_grow rest g (at + (inner_labels kind + length results)) around env1 s1)

  kind_follows : (kind : OpKind) (results : List IrType) (f g n at : ℕ) (around : List Iteration) (env : List Binding) (s : State) → s.budget ≤ f → s.budget + n ≤ g
      → Follows n s.budget (run_kind kind results f at around env s) (run_kind kind results g at around env (richer n s))
  kind_follows (Simple does) results f g n at around env s lf lg = simple_follows n at results around env s does
  kind_follows (If c first firsts has_else other others) results f g n at around env s lf lg =
      let res = at + labels_of first + labels_of other in
      if_follows n s.budget (is_false env c) _ _ _ _
      (hands_follow n s.budget res others around env _ _ (ops_follow other f g n (at + labels_of first) around env s lf lg))
      (hands_follow n s.budget res firsts around env _ _ (ops_follow first f g n at around env s lf lg))
  kind_follows (For lower upper step iv args inits body ends) results f g n at around env s lf lg =
      let in_body = at + 2 + length args in
      counted_follows n s.budget (run_ops body f in_body) (run_ops body g in_body) (record { at = at; res = in_body + labels_of body; around = around; env = env }) ends (look env upper.0) (look env step.0)
      (λ inside env1 s1 le. ops_follow body f g n in_body inside env1 s1 (omega arith) (omega arith))
      (λ inside env1 s1. ops_grow body g in_body inside env1 s1)
      f g (look env lower.0) 0 (numbers_of env inits) s (omega arith) lf lg
  kind_follows (While args inits before passed cond after_args after ends) results f g n at around env s lf lg =
      let in_before = at + 1 + length args in
      let params = in_before + labels_of before in
      let in_after = params + length after_args in
      repeated_follows n s.budget (run_ops before f in_before) (run_ops before g in_before) (run_ops after f in_after) (run_ops after g in_after)
      (record { at = at; res = in_after + labels_of after; around = around; env = env }) params cond passed ends
      (λ inside env1 s1 le. ops_follow before f g n in_before inside env1 s1 (omega arith) (omega arith))
      (λ inside env1 s1. ops_grow before g in_before inside env1 s1)
      (λ inside env1 s1 le. ops_follow after f g n in_after inside env1 s1 (omega arith) (omega arith))
      (λ inside env1 s1. ops_grow after g in_after inside env1 s1)
      f g 0 (numbers_of env inits) s (omega arith) lf lg

items_follow : (func k : ℕ) (items : List OpList) (f g n : ℕ) (env : List Binding) (s : State) → s.budget ≤ f → s.budget + n ≤ g
    → Follows n s.budget (run_items func k items f env s) (run_items func k items g env (richer n s))
items_follow func k [] f g n env s lf lg = ended (omega arith)
items_follow func k (ops ∷ items) f g n env s lf lg =
    then_follows n s.budget _ _ _ (run_items func (k + 1) items g)
    (ops_follow ops f g n (label_at func k 0) [] env s lf lg)
    (λ env1 s1 le. weaken n s1.budget s.budget _ _ le (items_follow func (k + 1) items f g n env1 s1 (omega arith) (omega arith)))
    (λ env1 s1. items_grow func (k + 1) items g env1 s1)

front_of : (n b : ℕ) (ret : List Label) (x y : Segment) → Follows n b x y → IsFrontOf (run_from ret x) (run_from ret y)
front_of n b ret x y (ended below) = inl refl
front_of n b ret x y halted = inl refl
front_of n b ret x y (cut p q) = inr (record { cut = refl; trace = p; reports = q })

body_front : (func : Func) (body : Body) (args replies : List ℕ) (n more : ℕ) → IsFrontOf (run_body func body args replies n) (run_body func body args replies (n + more))
body_front func body args replies n more =
    let at = label_at func.index 0 0 in
    let ns = numbers_at (arg_types func.args) args in
    let s : State = record { budget = n; replies = replies; trace = [] } in
    front_of more n body.ret _ _
    (then_follows more n (defines at ns [] [] s) (defines at ns [] [] (richer more s)) _ (run_items func.index 1 (view_items body.items) (n + more))
    (ended (omega arith))
    (λ env1 s1 le. weaken more s1.budget n _ _ le (items_follow func.index 1 (view_items body.items) n (n + more) more env1 s1 le (omega arith)))
    (λ env1 s1. items_grow func.index 1 (view_items body.items) (n + more) env1 s1))

run_front : (func : Func) (body : Option Body) (args replies : List ℕ) (n more : ℕ)
    → IsFrontOf (option_map_or (λ b. run_body func b args replies n) body run_declared) (option_map_or (λ b. run_body func b args replies (n + more)) body run_declared)
run_front func None args replies n more = inl refl
run_front func (Some body) args replies n more = body_front func body args replies n more

pub budgets_extend : (func : Func) (args replies : List ℕ) (n more : ℕ) → IsFrontOf (run_of func args replies n) (run_of func args replies (n + more))
budgets_extend func args replies n more = run_front func func.body args replies n more
