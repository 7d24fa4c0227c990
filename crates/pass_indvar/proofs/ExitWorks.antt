-- A loop with exit values behind it does what the loop does.
use Rattle.std.proofs.Common.{◌≡◌, ℕ, zero, suc, ◌+◌, ◌/◌, ◌%◌, ◌==◌, ◌<◌, ◌≤◌, true, inl, inr, List, [], ◌∷◌, length, if◌then◌else◌, refl, ap, ◌∙◌, sym, subst, arith}
use Rattle.std.proofs.lemmas.Bool.{ne_eqb}
use Rattle.std.specs.Option.{is_some}
use Rattle.mlir_ir.specs.Operations.{labels_of, inner_labels}
use Rattle.mlir_ir.specs.Runs.{number, Binding, Report, State, End, Done, Stopped, end_then, look, definitions, binds}
use Rattle.mlir_ir.specs.Typed.{Types, TypedOp, TypedRegions, with_types, typed_from}
use Rattle.mlir_ir.specs.Words.{bits_of}
use Rattle.pass_copy.specs.Built.{moved}
use Rattle.pass_copy.specs.Renamed.{keep, names_of}
use Rattle.pass_copy.specs.Renaming.{renamed}
use Rattle.pass_copy.specs.Replaced.{Operation, op_labels, is_loop}
use Rattle.pass_copy.specs.Reported.{Claim, AllHoldAt}
use Rattle.pass_copy.specs.declared.renaming.Span.{Span}
use Rattle.pass_copy.proofs.Ahead.{Ahead, ahead_then, ahead_done, grows_ops, joined_ends}
use Rattle.pass_copy.proofs.AlikeOps.{Joined, AlikeOp, Works, scope_behind}
use Rattle.pass_copy.proofs.Bindings.{Scope, pair, pairs, In, Same, Below, same_in, same_kept, below_more}
use Rattle.pass_copy.proofs.Claims.{told_inside}
use Rattle.pass_copy.proofs.CopiedOps.{kind_kept}
use Rattle.pass_copy.proofs.KeptLabels.{binds_kept}
use Rattle.pass_copy.proofs.RenamedAlike.{Covers, renamed_kind, covers_behind, below_behind}
use Rattle.pass_copy.proofs.ReplacedAlike.{WorksFrom}
use Rattle.pass_copy.proofs.RunEnds.{ends_ops, ends_kind, kind_ends}
use Rattle.pass_copy.proofs.Simulated.{sim_op}
use Rattle.mlir_ir.proofs.RunTraces.{prefix_self}
use Rattle.pass_expand.specs.Computed.{AreInFront, numbers_in}
use Rattle.pass_expand.specs.Expandable.{IsInSymbols}
use Rattle.pass_expand.specs.Expanded.{expansion, expansion_end}
use Rattle.pass_expand.proofs.ExpansionEnds.{scope_after, expansion_ends, expansion_keeps, expansion_value}
use Rattle.pass_expand.proofs.ScopedSymbols.{expands_symbols, expands_plain}
use Rattle.pass_indvar.specs.Exits.{Exit, exit_ops, exit_spans, with_exits, IsExit, AreExits, value_in}
use Rattle.pass_indvar.proofs.ChosenExits.{IsChosen, AreChosen}
use Rattle.pass_indvar.proofs.ExitNumbers.{value_in_same, defined_number, first_exit, rest_exits}
use Rattle.pass_indvar.proofs.ExitScopes.{next_at, next_is, exit_labels, exit_scope, links_outside, linked_in, exit_below, end_behind}
use Rattle.pass_indvar.proofs.LeftLoops.{Results, loop_defines}
use Rattle.pass_unroll.proofs.LoopLabels.{moved_before}
use Rattle.scev_tree.specs.Standing.{Stands}
use Rattle.scev_tree.specs.Value.{numbers}

-- a label in scope is below what bounds the scope
in_below : (at at' : ℕ) (ctx : Scope) (y y' : ℕ) → Below at at' ctx → In y y' ctx → y < at
in_below at at' [] y y' b i = absurd i
in_below at at' (p ∷ ctx) y y' b (inl q) = let lt = b.0 in let e = q.0 in omega (arith, lt, e)
in_below at at' (p ∷ ctx) y y' b (inr i) = in_below at at' ctx y y' b.2 i

-- ---- the operations of exits, where both runs have come to them

-- an exit of a result below `bound` has its number, and its symbols, which are in front of t, have the same numbers in both runs
record IsReady (t bound : ℕ) (env env' : List Binding) (e : Exit) : Type 0 where
  pub high : e.result < bound
  pub plain : IsInSymbols e.expr
  pub front : AreInFront t e.expr
  pub same : (x : ℕ) → Stands x e.expr → look env (x / 2) ≡ look env' (x / 2)
  pub number_is : look env e.result ≡ number (bits_of e.ty) (value_in env e.expr)

abbrev AreReady : ℕ → ℕ → List Binding → List Binding → List Exit → Type 0
AreReady t bound env env' [] = Unit {0}
AreReady t bound env env' (e ∷ es) = IsReady t bound env env' e × AreReady t bound env env' es

-- the values in scope behind the operations
abbrev after_exits : ℕ → List Exit → List Binding → List Binding
after_exits at [] env = env
after_exits at (e ∷ es) env = after_exits (next_at at e) es (scope_after e.ty at e.expr env)

exits_end : (fresh : ℕ → List ℕ) (k at n : ℕ) (es : List Exit) (env : List Binding) (s : State) → ends_ops (exit_ops fresh k at es) n at env s ≡ Done (after_exits at es env) s
exits_end fresh k at n [] env s = refl
exits_end fresh k at n (e ∷ es) env s =
    let ops = expansion fresh e.ty k at e.expr in
    let to = at + labels_of ops in
    let rest = exit_ops fresh (k + names_of ops) to es in
    let now = scope_after e.ty at e.expr env in
    joined_ends ops rest n at env s ∙ ap (λ z. end_then z (ends_ops rest n to)) (expansion_ends fresh e.ty k at e.expr n env s)
    ∙ exits_end fresh (k + names_of ops) to n es now s ∙ ap (λ z. Done (after_exits z es now) s) (sym (next_is fresh k at e))

module _ (t bound : ℕ) (env : List Binding) where
  ready_later : (at : ℕ) (es : List Exit) (env' env2' : List Binding) → t ≤ at → ((y : ℕ) → y < at → look env2' y ≡ look env' y) → AreReady t bound env env' es → AreReady t bound env env2' es
  ready_later at [] env' env2' le kept h = tt
  ready_later at (e ∷ es) env' env2' le kept h = (
    record {
      high = h.0.high;
      plain = h.0.plain;
      front = h.0.front;
      same = λ x s. h.0.same x s ∙ sym (kept (x / 2) (let lt = h.0.front x s in omega (arith, lt)));
      number_is = h.0.number_is;
    },
    ready_later at es env' env2' le kept h.1,
  )

  symbol_number : (p : ℕ → ℕ) (x : ℕ) → x % 2 ≡ 1 → (if x % 2 == 0 then 0 else p (x / 2)) ≡ p (x / 2)
  symbol_number p x odd = rw (ne_eqb (x % 2) 0 (λ z. omega arith)) refl

  exits_same : (at : ℕ) (es : List Exit) (ctx : Scope) (env' : List Binding) → t ≤ at → Below bound at ctx → Same ctx env env' → AreReady t bound env env' es
      → Same (exit_scope at es ctx) env (after_exits at es env')
  exits_same at [] ctx env' le b s h = s
  exits_same at (e ∷ es) ctx env' le b s h =
      let now = scope_after e.ty at e.expr env' in
      let v = expansion_end at e.expr in
      let low = end_behind at e in
      let kept = expansion_keeps e.ty at e.expr env' in
      let one = h.0 in
      let value = expansion_value e.ty at e.expr env' (numbers (numbers_in env) (λ l. 0)) one.plain (λ x st. let lt = one.front x st in omega (arith, lt))
      (λ x st. symbol_number (numbers_in env) x (one.plain x st) ∙ ap (λ z. z.v) (one.same x st)) in
      exits_same (next_at at e) es (pair e.result v ∷ ctx) now (omega (arith, low))
      (one.high, omega arith, below_more bound at bound (next_at at e) ctx (omega arith) (omega (arith, low)) b)
      (one.number_is ∙ sym value, same_kept ctx env env' now bound at b kept s)
      (ready_later at es env' now le kept h.1)

same_pairs : (x x' n : ℕ) (ctx : Scope) (env env' : List Binding) → Same (pairs x x' n ctx) env env' → Same ctx env env'
same_pairs x x' zero ctx env env' s = s
same_pairs x x' (suc n) ctx env env' s = (same_pairs (x + 1) (x' + 1) n (pair x x' ∷ ctx) env env' s).1

then_done : (e : End) → end_then e (λ env s. Done env s) ≡ e
then_done (Done env s) = refl
then_done (Stopped stop trace) = refl

-- ---- the loop and its exits

module _ (fresh : ℕ → List ℕ) (t : ℕ) (o : Operation) (es : List Exit) (T : Types) (loop : is_loop o.kind ≡ true) (typed : TypedOp T o.packs o.results o.kind)
    (inside : TypedRegions T t o.results o.kind) (chosen : AreChosen T (typed_from (t + inner_labels o.kind) o.results) (t + inner_labels o.kind) (t + op_labels o) es)
    (ctx : Scope) (covers : Covers (renamed (exit_spans fresh t o es)) T ctx) (below : Below t t ctx) where
  abbrev H : Claim
  H = AreExits es

  abbrev f : ℕ → ℕ
  f = renamed (exit_spans fresh t o es)

  abbrev res : ℕ
  res = t + inner_labels o.kind

  abbrev at : ℕ
  at = t + op_labels o

  abbrev tail : List Span
  tail = moved at (t + labels_of (with_exits fresh t o es)) ∷ []

  abbrev U : Types
  U = typed_from res o.results

  stays : (y : ℕ) → y < res → f y ≡ y
  stays y lt = links_outside tail T U res at at es y chosen (inl lt) ∙ moved_before at (t + labels_of (with_exits fresh t o es)) y (omega arith)

  known_in : (y : ℕ) → is_some (T y) ≡ true → (In y y ctx) × (y < t)
  known_in y known =
      let i = covers y known in
      let lt = in_below t t ctx y (f y) below i in
      (subst (λ z. In y z ctx) (stays y (omega (arith, lt))) i, lt)

  alike : AlikeOp H 0 ctx t t o.results o.kind o.kind
  alike =
      subst (λ z. AlikeOp H 0 ctx t t o.results o.kind z) (kind_kept 0 o.kind)
      (renamed_kind H (renamed []) keep o.kind 0 o.packs o.results T ctx t t typed inside (λ y known. (known_in y known).0) below (λ y low high. refl))

  module _ (env env1 env1' : List Binding) (same : Same ctx env1 env1') (r : Results H res (length o.results) env env1) where
    abbrev reports : List Report
    reports = definitions res r.numbers r.around env

    -- a result has its number where the loop has ended
    ready : (l : ℕ) (e : Exit) → res ≤ l → IsChosen T U l at e → AllHoldAt (IsExit e) reports → IsReady t at env1 env1' e
    ready l e le one told =
        let symbols = expands_symbols T e.ty e.expr one.expanded in
        let known = λ (x : ℕ) (s : Stands x e.expr). known_in (x / 2) (ap is_some (symbols x s).1) in
        let front = λ (x : ℕ) (s : Stands x e.expr). (known x s).1 in
        let low = one.low in
        let high = one.high in
        let count = r.count_is in
        let defined = defined_number e t front res r.numbers r.around env (omega arith) (omega (arith, low)) (omega (arith, high, count)) told in
        let kept = λ (x : ℕ) (s : Stands x e.expr). binds_kept res r.numbers env (x / 2) (let lt = front x s in omega (arith, lt)) in
        record {
          high = high;
          plain = expands_plain T e.ty e.expr one.expanded;
          front = front;
          same = λ x s. same_in ctx env1 env1' (x / 2) (x / 2) same (known x s).0;
          number_is = ap (λ z. look z e.result) r.is ∙ defined
              ∙ ap (number (bits_of e.ty)) (sym (value_in_same e.expr (binds res r.numbers env) env kept) ∙ ap (λ z. value_in z e.expr) (sym r.is));
        }

    all_ready : (l : ℕ) (more : List Exit) → res ≤ l → AreChosen T U l at more → AllHoldAt (AreExits more) reports → AreReady t at env1 env1' more
    all_ready l [] le h told = tt
    all_ready l (e ∷ more) le h told =
        let low = h.0.low in
        (ready l e le h.0 (first_exit e more reports told), all_ready (e.result + 1) more (omega (arith, low)) h.1 (rest_exits e more reports told))

  abbrev loop_scope : Scope
  loop_scope = scope_behind ctx t t o.results o.kind o.kind

  abbrev behind : Scope
  behind = exit_scope at es loop_scope

  loop_below : Below at at loop_scope
  loop_below = below_behind H f keep ctx t t o.results o.kind o.kind below

  -- values in front of the loop are in the scope behind it too
  front_same : (env1 env1' : List Binding) → Same loop_scope env1 env1' → Same ctx env1 env1'
  front_same env1 env1' s = same_pairs res res (length o.results) ctx env1 env1' s

  exits_work : Works H 0 ctx t t o.results o.kind (with_exits fresh t o es) behind
  exits_work d n n' B B' c env s env' s' le le' j told =
      let e = ends_kind o.kind o.results n t env s in
      let e' = ends_kind o.kind o.results n' t env' s' in
      let more = exit_ops fresh 0 at es in
      subst (λ z. Ahead d (Joined behind d B B' c) z (end_then e' (ends_ops more n' at))) (then_done e)
      (ahead_then d (Joined loop_scope d B B' c) (Joined behind d B B' c) e e' (λ env1 s1. Done env1 s1) (ends_ops more n' at)
      (sim_op H alike d n n' B B' c env s env' s' le le' j (told, told_inside H o.kind o.results n t env s told))
      (λ env1 s1 env1' s1' q q' j1.
      let r = loop_defines H H alike loop n told.0 env s env1 s1 (kind_ends o.kind o.results n t told.0 env s ∙ q) told.1.1 in
      let same0 = front_same env1 env1' j1.same in
      subst (λ z. Ahead d (Joined behind d B B' c) (Done env1 s1) z) (sym (exits_end fresh 0 at n' es env1' s1'))
      (ahead_done d (Joined behind d B B' c) env1 s1 (after_exits at es env1') s1' (record {
        same = exits_same t at env1 at es loop_scope env1' (omega arith) loop_below j1.same (all_ready env env1 env1' same0 r res es (omega arith) chosen r.told);
        st = j1.st;
      })))
      (λ env1 s1. prefix_self s1.trace) (grows_ops more n' at))

  loop_known : Covers (renamed []) (with_types T res o.results) loop_scope
  loop_known = covers_behind H (renamed []) keep T ctx t t o.results o.kind o.kind (λ y low high. refl) (λ y known. (known_in y known).0)

  covered : Covers f (with_types T res o.results) behind
  covered y known =
      let i = loop_known y known in
      linked_in tail at es loop_scope y i (moved_before at (t + labels_of (with_exits fresh t o es)) y (in_below at at loop_scope y y loop_below i))

  pub exit_works : WorksFrom H f 0 t o (with_exits fresh t o es) T ctx
  exit_works =
      let e = exit_labels fresh 0 at es in
      record {
        behind = behind;
        works = exits_work;
        covers = covered;
        below = subst (λ z. Below at z behind) (omega (arith, e)) (exit_below T U res at at es loop_scope chosen loop_below);
      }
