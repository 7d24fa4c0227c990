-- A claim along a run without reports: it holds of all that is reported from each operation to its end.
use Rattle.std.proofs.Common.{◌≡◌, ℕ, ◌+◌, ◌==◌, zero, suc, Bool, true, false, List, [], ◌∷◌, ◌++◌, length, if◌then◌else◌, subst}
use Rattle.std.proofs.lemmas.Bool.{ne_eqb}
use Rattle.arith_word.specs.Labels.{label_at}
use Rattle.arith_word.specs.declared.label.Label.{Label}
use Rattle.mlir_ir.specs.declared.types.IrType.{IrType}
use Rattle.mlir_ir.specs.Operations.{OpKind, Simple, If, For, While, OpList, nil, next, labels_of, inner_labels}
use Rattle.mlir_ir.specs.Runs.{Number, Binding, Iteration, Report, arrived, State, Cut, End, Done, Stopped, Segment, look, numbers_of, is_false, binds, run_then, reports_then, stops, defines, definitions, tick, hands, Running, Place, leaves, in_turn, counted, repeated, arrives, run_ops, run_kind, run_items}
use Rattle.mlir_ir.proofs.RunTraces.{for_turn, while_turn}
use Rattle.pass_copy.specs.Reported.{Claim, AllHoldAt}
use Rattle.pass_copy.proofs.RunEnds.{Ending, EndsAs, spent, goes_on, stepped, ends_ops, ends_kind, ops_ends, kind_ends}

-- what is said of the values in scope and the state where a run begins
abbrev pub Says : Type 1
Says = List Binding → State → Type 0

-- it holds of all that a run reports from where it comes to an operation until that ends
abbrev pub IsTold : Claim → OpKind → List IrType → ℕ → ℕ → List Binding → State → Type 0
IsTold H kind results fuel at env s =
    (around : List Iteration) × AllHoldAt H (arrived at env around ∷ (run_kind kind results fuel at around env s).reports)

-- what is said of an end, if the run gets there
abbrev pub after : End → Says → Type 0
after (Done env s) P = P env s
after (Stopped stop trace) P = Unit {0}

-- of the iterations of an `scf.for`
abbrev pub counted_claim : ℕ → Ending → Says → ℕ → List Label → List Binding → Number → Number → Number → List Number → State → Type 0
counted_claim zero body says iv ends env upper step v args s = Unit {0}
counted_claim (suc fuel) body says iv ends env upper step v args s =
    goes_on upper v ≡ true → (s.budget ≡ 0 → ⊥) →
    says (binds iv (v ∷ args) env) (spent s) × after (body (binds iv (v ∷ args) env) (spent s))
    (λ inner s2. counted_claim fuel body says iv ends env upper step (stepped step v) (numbers_of inner ends) s2)

-- of the iterations of an `scf.while`: its before region runs with no fuel left too
abbrev pub repeated_claim : ℕ → Ending → Ending → Says → Says → ℕ → ℕ → Label → List Label → List Label → List Binding → List Number → State → Type 0
repeated_claim zero before later says says2 arg params cond passed ends env args s = says (binds arg args env) s
repeated_claim (suc fuel) before later says says2 arg params cond passed ends env args s =
    says (binds arg args env) s × after (before (binds arg args env) s) (λ inner s1. is_false inner cond ≡ false → (s1.budget ≡ 0 → ⊥) →
    says2 (binds params (numbers_of inner passed) inner) (spent s1) × after (later (binds params (numbers_of inner passed) inner) (spent s1))
    (λ last s2. repeated_claim fuel before later says says2 arg params cond passed ends env (numbers_of last ends) s2))

abbrev mutual
  pub ops_claim : Claim → OpList → ℕ → ℕ → List Binding → State → Type 0
  ops_claim H nil fuel at env s = Unit {0}
  ops_claim H (next packs results kind rest) fuel at env s =
      (IsTold H kind results fuel at env s × kind_claim H kind fuel at env s)
      × after (ends_kind kind results fuel at env s) (ops_claim H rest fuel (at + (inner_labels kind + length results)))

  -- in the regions of an operation
  pub kind_claim : Claim → OpKind → ℕ → ℕ → List Binding → State → Type 0
  kind_claim H (Simple does) fuel at env s = Unit {0}
  kind_claim H (If c first firsts has_else other others) fuel at env s =
      (is_false env c ≡ true → ops_claim H other fuel (at + labels_of first) env s) × (is_false env c ≡ false → ops_claim H first fuel at env s)
  kind_claim H (For lower upper step iv args inits body ends) fuel at env s =
      counted_claim fuel (ends_ops body fuel (at + 2 + length args)) (ops_claim H body fuel (at + 2 + length args)) (at + 1) ends env
      (look env upper.0) (look env step.0) (look env lower.0) (numbers_of env inits) s
  kind_claim H (While args inits before passed cond after_args later ends) fuel at env s =
      repeated_claim fuel (ends_ops before fuel (at + 1 + length args))
      (ends_ops later fuel (at + 1 + length args + labels_of before + length after_args))
      (ops_claim H before fuel (at + 1 + length args))
      (ops_claim H later fuel (at + 1 + length args + labels_of before + length after_args)) (at + 1)
      (at + 1 + length args + labels_of before) cond passed ends env (numbers_of env inits) s

-- of an operation, and in its regions
abbrev pub op_claim : Claim → OpKind → List IrType → ℕ → ℕ → List Binding → State → Type 0
op_claim H kind results fuel at env s = IsTold H kind results fuel at env s × kind_claim H kind fuel at env s

abbrev pub items_claim : Claim → ℕ → ℕ → List OpList → ℕ → List Binding → State → Type 0
items_claim H func k [] fuel env s = Unit {0}
items_claim H func k (ops ∷ items) fuel env s =
    ops_claim H ops fuel (label_at func k 0) env s × after (ends_ops ops fuel (label_at func k 0) env s) (items_claim H func (k + 1) items fuel)

pub after_done : (e : End) (P : Says) (env : List Binding) (s : State) → e ≡ Done env s → after e P → P env s
after_done e P env s q h = subst (λ x. after x P) q h

pub after_weaker : (e : End) (P Q : Says) → ((env : List Binding) (s : State) → P env s → Q env s) → after e P → after e Q
after_weaker (Done env s) P Q f h = f env s h
after_weaker (Stopped stop trace) P Q f h = tt

pub after_all : (e : End) (P : Says) → ((env : List Binding) (s : State) → P env s) → after e P
after_all (Done env s) P h = h env s
after_all (Stopped stop trace) P h = tt

-- claims by the reports of runs

pub all_hold_split : (H : Claim) (xs ys : List Report) → AllHoldAt H (xs ++ ys) → AllHoldAt H xs × AllHoldAt H ys
all_hold_split H [] ys h = (tt, h)
all_hold_split H (r ∷ xs) ys h = let t = all_hold_split H xs ys h.1 in ((h.0, t.0), t.1)

-- it holds at all that a segment reports
abbrev pub Told : Claim → Segment → Type 0
Told H r = AllHoldAt H r.reports

reports_after : (H : Claim) (e : End) (go : List Binding → State → Segment) (P : Says) → AllHoldAt H (reports_then e (λ env s. (go env s).reports))
    → ((env : List Binding) (s : State) → Told H (go env s) → P env s) → after e P
reports_after H (Done env s) go P h k = k env s h
reports_after H (Stopped stop trace) go P h k = tt

pub then_told : (H : Claim) (r : Segment) (e : End) (go : List Binding → State → Segment) (P : Says) → r.end ≡ e → Told H (run_then r go)
    → ((env : List Binding) (s : State) → Told H (go env s) → P env s) → Told H r × after e P
then_told H r e go P q h k =
    let t = all_hold_split H r.reports (reports_then r.end (λ env s. (go env s).reports)) h in
    (t.0, subst (λ x. after x P) q (reports_after H r.end go P t.1 k))

pub if_told : (H : Claim) (c : Bool) (x y : Segment) → c ≡ true → Told H (if c then x else y) → Told H x
if_told H true x y e h = h
if_told H false x y e h = cc

else_told : (H : Claim) (c : Bool) (x y : Segment) → c ≡ false → Told H (if c then x else y) → Told H y
else_told H true x y e h = cc
else_told H false x y e h = h

pub tick_told : (H : Claim) (s : State) (go : State → Segment) → (s.budget ≡ 0 → ⊥) → Told H (tick s go) → Told H (go (spent s))
tick_told H s go ne h = else_told H (s.budget == 0) (stops Cut s) (go (spent s)) (ne_eqb s.budget 0 ne) h

-- a region, where what it reports tells what is said
abbrev Tells : Claim → Running → Says → Type 0
Tells H body says = (around : List Iteration) (env : List Binding) (s : State) → Told H (body around env s) → says env s

turn_told : (H : Claim) (at : ℕ) (ns : List Number) (inside : List Iteration) (env : List Binding) (s : State) (body : Running) (body' : Ending) (says : Says)
    (go : List Binding → State → Segment) (P : Says) → EndsAs body body' → Tells H body says
    → Told H (run_then (run_then (defines at ns inside env s) (body inside)) go) → ((env1 : List Binding) (s1 : State) → Told H (go env1 s1) → P env1 s1)
    → says (binds at ns env) s × after (body' (binds at ns env) s) P
turn_told H at ns inside env s body body' says go P e t h k =
    let both = then_told H (run_then (defines at ns inside env s) (body inside)) (body' (binds at ns env) s) go P (e inside (binds at ns env) s) h k in
    let run = all_hold_split H (definitions at ns inside env) (body inside (binds at ns env) s).reports both.0 in
    (t inside (binds at ns env) s run.1, both.1)

counted_told : (H : Claim) (fuel : ℕ) (body : Running) (body' : Ending) (says : Says) (loop : Place) (ends : List Label) (upper step v : Number) (k : ℕ) (args : List Number) (s : State)
    → EndsAs body body' → Tells H body says → Told H (counted fuel body loop ends upper step v k args s)
    → counted_claim fuel body' says (loop.at + 1) ends loop.env upper step v args s
counted_told H zero body body' says loop ends upper step v k args s e t h = tt
counted_told H (suc fuel) body body' says loop ends upper step v k args s e t h = λ more ne.
    let go = for_turn fuel body loop ends upper step v k args in
    turn_told H (loop.at + 1) (v ∷ args) (in_turn loop k) loop.env (spent s) body body' says
    (λ inner s2. counted fuel body loop ends upper step (stepped step v) (k + 1) (numbers_of inner ends) s2)
    (λ inner s2. counted_claim fuel body' says (loop.at + 1) ends loop.env upper step (stepped step v) (numbers_of inner ends) s2) e t
    (tick_told H s go ne (if_told H (goes_on upper v) (tick s go) (leaves loop k args s) more h))
    (λ inner s2 h2. counted_told H fuel body body' says loop ends upper step (stepped step v) (k + 1) (numbers_of inner ends) s2 e t h2)

repeated_told : (H : Claim) (fuel : ℕ) (before later : Running) (before' later' : Ending) (says says2 : Says) (loop : Place) (params : ℕ) (cond : Label) (passed ends : List Label) (k : ℕ) (args : List Number) (s : State)
    → EndsAs before before' → EndsAs later later' → Tells H before says → Tells H later says2
    → Told H (repeated fuel before later loop params cond passed ends k args s)
    → repeated_claim fuel before' later' says says2 (loop.at + 1) params cond passed ends loop.env args s
repeated_told H zero before later before' later' says says2 loop params cond passed ends k args s e e2 t t2 h =
    let both = turn_told H (loop.at + 1) args (in_turn loop k) loop.env s before before' says
    (λ inner s1. if is_false inner cond then leaves loop k (numbers_of inner passed) s1 else stops Cut s1) (λ inner s1. Unit {0}) e t h (λ inner s1 h1. tt) in
    both.0
repeated_told H (suc fuel) before later before' later' says says2 loop params cond passed ends k args s e e2 t t2 h =
    let go = while_turn fuel before later loop params cond passed ends k in
    turn_told H (loop.at + 1) args (in_turn loop k) loop.env s before before' says
    (λ inner s1. if is_false inner cond then leaves loop k (numbers_of inner passed) s1 else tick s1 (go inner))
    (λ inner s1. is_false inner cond ≡ false → (s1.budget ≡ 0 → ⊥) →
    says2 (binds params (numbers_of inner passed) inner) (spent s1) × after (later' (binds params (numbers_of inner passed) inner) (spent s1))
    (λ last s2. repeated_claim fuel before' later' says says2 (loop.at + 1) params cond passed ends loop.env (numbers_of last ends) s2))
    e t h
    (λ inner s1 h1 more ne.
    turn_told H params (numbers_of inner passed) (in_turn loop k) inner (spent s1) later later' says2
    (λ last s3. repeated fuel before later loop params cond passed ends (k + 1) (numbers_of last ends) s3)
    (λ last s3. repeated_claim fuel before' later' says says2 (loop.at + 1) params cond passed ends loop.env (numbers_of last ends) s3) e2 t2
    (tick_told H s1 (go inner) ne (else_told H (is_false inner cond) (leaves loop k (numbers_of inner passed) s1) (tick s1 (go inner)) more h1))
    (λ last s3 h3. repeated_told H fuel before later before' later' says says2 loop params cond passed ends (k + 1) (numbers_of last ends) s3 e e2 t t2 h3))

hands_told : (H : Claim) (at : ℕ) (ends : List Label) (around : List Iteration) (env : List Binding) (r : Segment) → Told H (hands at ends around env r) → Told H r
hands_told H at ends around env r h =
    let t = all_hold_split H r.reports (reports_then r.end (λ inner s. (defines at (numbers_of inner ends) around env s).reports)) h in
    t.0

mutual
  pub ops_claimed : (H : Claim) (ops : OpList) (fuel at : ℕ) (around : List Iteration) (env : List Binding) (s : State)
      → AllHoldAt H (run_ops ops fuel at around env s).reports → ops_claim H ops fuel at env s
  ops_claimed H nil fuel at around env s h = tt
  ops_claimed H (next packs results kind rest) fuel at around env s h =
      let w = inner_labels kind + length results in
      let both = then_told H (arrives at around env (run_kind kind results fuel at around env s)) (ends_kind kind results fuel at env s)
      (run_ops rest fuel (at + w) around) (ops_claim H rest fuel (at + w)) (kind_ends kind results fuel at around env s) h
      (λ env1 s1 h1. ops_claimed H rest fuel (at + w) around env1 s1 h1) in
      let here = both.0 in
      (((around, here), kind_claimed H kind results fuel at around env s here.1), both.1)

  pub kind_claimed : (H : Claim) (kind : OpKind) (results : List IrType) (fuel at : ℕ) (around : List Iteration) (env : List Binding) (s : State)
      → AllHoldAt H (run_kind kind results fuel at around env s).reports → kind_claim H kind fuel at env s
  kind_claimed H (Simple does) results fuel at around env s h = tt
  kind_claimed H (If c first firsts has_else other others) results fuel at around env s h =
      let res = at + labels_of first + labels_of other in
      let run_other = run_ops other fuel (at + labels_of first) around env s in
      let run_first = run_ops first fuel at around env s in (
        λ t. ops_claimed H other fuel (at + labels_of first) around env s (hands_told H res others around env run_other
            (if_told H (is_false env c) (hands res others around env run_other) (hands res firsts around env run_first) t h)),
        λ t. ops_claimed H first fuel at around env s (hands_told H res firsts around env run_first
            (else_told H (is_false env c) (hands res others around env run_other) (hands res firsts around env run_first) t h)),
      )
  kind_claimed H (For lower upper step iv args inits body ends) results fuel at around env s h =
      counted_told H fuel (run_ops body fuel (at + 2 + length args)) (ends_ops body fuel (at + 2 + length args)) (ops_claim H body fuel (at + 2 + length args))
      (record { at = at; res = at + 2 + length args + labels_of body; around = around; env = env }) ends (look env upper.0) (look env step.0) (look env lower.0) 0 (numbers_of env inits) s
      (λ inside env1 s1. ops_ends body fuel (at + 2 + length args) inside env1 s1)
      (λ inside env1 s1 h1. ops_claimed H body fuel (at + 2 + length args) inside env1 s1 h1) h
  kind_claimed H (While args inits before passed cond after_args later ends) results fuel at around env s h =
      let in_before = at + 1 + length args in
      let params = in_before + labels_of before in
      let in_after = params + length after_args in
      repeated_told H fuel (run_ops before fuel in_before) (run_ops later fuel in_after) (ends_ops before fuel in_before) (ends_ops later fuel in_after)
      (ops_claim H before fuel in_before) (ops_claim H later fuel in_after)
      (record { at = at; res = in_after + labels_of later; around = around; env = env }) params cond passed ends 0 (numbers_of env inits) s
      (λ inside env1 s1. ops_ends before fuel in_before inside env1 s1) (λ inside env1 s1. ops_ends later fuel in_after inside env1 s1)
      (λ inside env1 s1 h1. ops_claimed H before fuel in_before inside env1 s1 h1)
      (λ inside env1 s1 h1. ops_claimed H later fuel in_after inside env1 s1 h1) h

-- in the regions of an operation of which it is told
pub told_inside : (H : Claim) (kind : OpKind) (results : List IrType) (fuel at : ℕ) (env : List Binding) (s : State)
    → IsTold H kind results fuel at env s → kind_claim H kind fuel at env s
told_inside H kind results fuel at env s h = kind_claimed H kind results fuel at h.0 env s h.1.1

pub items_claimed : (H : Claim) (func k : ℕ) (items : List OpList) (fuel : ℕ) (env : List Binding) (s : State)
    → AllHoldAt H (run_items func k items fuel env s).reports → items_claim H func k items fuel env s
items_claimed H func k [] fuel env s h = tt
items_claimed H func k (ops ∷ items) fuel env s h =
    let both = then_told H (run_ops ops fuel (label_at func k 0) [] env s) (ends_ops ops fuel (label_at func k 0) env s) (run_items func (k + 1) items fuel)
    (items_claim H func (k + 1) items fuel) (ops_ends ops fuel (label_at func k 0) [] env s) h
    (λ env1 s1 h1. items_claimed H func (k + 1) items fuel env1 s1 h1) in
    (ops_claimed H ops fuel (label_at func k 0) [] env s both.0, both.1)
