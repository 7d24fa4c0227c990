-- Iterations stay below trip counts in the runs of well-formed functions.
use Rattle.std.proofs.Common.{◌≡◌, ℕ, ◌+◌, ◌≤◌, List, [], ◌∷◌, ◌++◌, length, arith, Option, Some, None}
use Rattle.std.specs.Option.{option_map_or}
use Rattle.std.specs.List.{list_all}
use Rattle.std.proofs.lemmas.Bool.{and_parts}
use Rattle.arith_word.specs.Labels.{label_at}
use Rattle.arith_word.specs.declared.label.Label.{Label}
use Rattle.mlir_ir.proofs.SizedFunctions.{well_formed}
use Rattle.mlir_ir.specs.Check.{IsWellFormed}
use Rattle.mlir_ir.specs.Operations.{OpKind, Simple, If, For, While, OpList, nil, next, labels_of, inner_labels}
use Rattle.mlir_ir.specs.Rules.{arg_types, truth}
use Rattle.mlir_ir.specs.Runs.{Binding, Iteration, State, Segment, numbers_at, numbers_of, is_false, arrives, defines, hands, run_ops, run_kind, run_items, run_body, run_declared, run_of}
use Rattle.mlir_ir.specs.Sized.{SizedArgs, SizedItems}
use Rattle.mlir_ir.specs.Typed.{Types, knows, with_types, types_after, untyped, args_typed, TypedOp, TypedOps, TypedRegions, TypedItems}
use Rattle.mlir_ir.specs.View.{view_items}
use Rattle.mlir_ir.specs.WellFormed.{IsTypedBody, IsSizedBody}
use Rattle.mlir_ir.specs.declared.types.Body.{Body}
use Rattle.mlir_ir.specs.declared.types.Func.{Func}
use Rattle.mlir_ir.specs.declared.types.IrType.{IrType}
use Rattle.mlir_ir.specs.declared.types.Pack.{Pack}
use Rattle.fresh_scev.specs.Each.{Each, EachOps, EachInside, EachItems}
use Rattle.fresh_scev.specs.Facts.{Facts, AreOwn, IsOps, IsKind, IsItems, IsFacts, items_in}
use Rattle.fresh_scev.proofs.FittingLabels.{item_ends}
use Rattle.fresh_scev.proofs.StandingFacts.{types_length}
use Rattle.scev_soundness.specs.Agreement.{Agrees, After}
use Rattle.scev_soundness.specs.Counted.{AllCounted, IsSplit, IsSplitIn, IsSplitOf}
use Rattle.fresh_scev.specs.Bits.{HaveBits}
use Rattle.scev_soundness.proofs.Branches.{branch_lengths, true_in, agrees_guarded}
use Rattle.scev_soundness.proofs.Counted.{Allowed, allowed_part, counted_then, counted_if, definitions_counted, simple_counted, numbers_length, any_end}
use Rattle.scev_soundness.proofs.Fors.{for_counted}
use Rattle.scev_soundness.proofs.Functions.{ops_sound, kind_sound, nothing_yet}
use Rattle.scev_soundness.proofs.Scopes.{agrees_later}
use Rattle.scev_soundness.proofs.SimpleOperations.{numbers_ready, defines_sound}
use Rattle.scev_soundness.proofs.TypedUses.{fit_type}
use Rattle.scev_soundness.proofs.Whiles.{while_counted}
use Rattle.scev_soundness.proofs.ValueBits.{HasBits, AnyLoop, function_wide}

-- ---- operations

module _ (F : Facts) (split : ℕ → ℕ) where
  -- a region whose operands of its terminator become results
  hands_counted : (r : Segment) (at end : ℕ) (ends : List Label) (results : List IrType) (env : List Binding)
      (around : List Iteration) → AllCounted F split r.reports → length ends ≡ length results
      → at + length results ≤ end → Allowed F split at end around
      → AllCounted F split (hands at ends around env r).reports
  hands_counted r at end ends results env around inside as_many le ok =
      counted_then F split r (λ w. Unit {0}) (λ w s1. defines at (numbers_of w ends) around env s1) inside
      (any_end r.end)
      (λ w s1 p. (let many = numbers_length w ends in
      definitions_counted F split (numbers_of w ends) at end env around (omega (arith, many, as_many)) ok))

  mutual
    pub ops_counted : (ops : OpList) (T : Types) (conditions : List Label) (at fuel : ℕ) (env : List Binding)
        (around : List Iteration) (s : State) → TypedOps T at ops → EachOps HasBits AnyLoop ops at
        → IsOps conditions ops at F → Agrees T F conditions at env around → IsSplit split ops at
        → Allowed F split at (at + labels_of ops) around
        → AllCounted F split (run_ops ops fuel at around env s).reports
    ops_counted nil T conditions at fuel env around s t wide is ag splits ok = tt
    ops_counted (next packs results kind rest) T conditions at fuel env around s t wide is ag splits ok =
        let mid = at + (inner_labels kind + length results) in
        let end = at + labels_of (next packs results kind rest) in
        let U = with_types T (at + inner_labels kind) results in
        let here = kind_sound kind T F conditions at fuel packs results env around s t.0 t.1 wide.0 wide.1 is.0 ag in
        counted_then F split (arrives at around env (run_kind kind results fuel at around env s))
        (λ w. After U F conditions at mid env w around) (run_ops rest fuel mid around) (
          ok.reached at (omega arith) (omega arith),
          kind_counted kind T conditions at fuel packs results env around s t.0 t.1 wide.0 wide.1 is.0 ag
              splits.0 (allowed_part F split at end at mid around (omega arith) (omega arith) ok),
        ) here.ends
        (λ env1 s1 p. ops_counted rest U conditions mid fuel env1 around s1 t.2 wide.2 is.1 p.agrees splits.1
        (allowed_part F split at end mid (mid + labels_of rest) around (omega arith) (omega arith) ok))

    kind_counted : (kind : OpKind) (T : Types) (conditions : List Label) (at fuel : ℕ) (packs : List Pack)
        (results : List IrType) (env : List Binding) (around : List Iteration) (s : State)
        → TypedOp T packs results kind → TypedRegions T at results kind → EachInside HasBits AnyLoop kind at
        → Each HasBits (at + inner_labels kind) results → IsKind conditions kind results at F
        → Agrees T F conditions at env around → IsSplitIn split kind at
        → Allowed F split at (at + (inner_labels kind + length results)) around
        → AllCounted F split (run_kind kind results fuel at around env s).reports
    kind_counted (Simple does) T conditions at fuel packs results env around s t r inside wide is ag splits ok =
        simple_counted F split at results env around
        (allowed_part F split at (at + (inner_labels (Simple does) + length results)) at (at + length results) around
        (omega arith) (omega arith) ok) does s
    kind_counted (If c first firsts has_else other others) T conditions at fuel packs results env around s t r inside
        wide is ag splits ok =
        let mid = at + labels_of first in
        let res = at + labels_of first + labels_of other in
        let end = at + (inner_labels (If c first firsts has_else other others) + length results) in
        let lengths = branch_lengths results firsts others t.counted r.1.counted r.3.counted in
        let known = fit_type T truth c (and_parts (knows T c) (list_all (knows T) []) t.in_scope).0 t.typed in
        let handed = allowed_part F split at end res end around (omega arith) (omega arith) ok in
        let run_first = run_ops first fuel at around env s in
        let run_other = run_ops other fuel mid around env s in
        counted_if F split (is_false env c) (hands res others around env run_other)
        (hands res firsts around env run_first)
        (λ e. hands_counted run_other res end others results env around
        (ops_counted other T conditions mid fuel env around s r.2 inside.1 is.1
        (agrees_later T F conditions at mid env around (omega arith) ag) splits.1
        (allowed_part F split at end mid (mid + labels_of other) around (omega arith) (omega arith) ok))
        lengths.1 (omega arith) handed)
        (λ e. hands_counted run_first res end firsts results env around
        (ops_counted first T (conditions ++ c ∷ []) at fuel env around s r.0 inside.0 is.0
        (agrees_guarded T F conditions c at env around ag (true_in T env c known e)) splits.0
        (allowed_part F split at end at mid around (omega arith) (omega arith) ok))
        lengths.0 (omega arith) handed)
    kind_counted (For lower upper step iv args inits body ends) T conditions at fuel packs results env around s t r
        inside wide is ag splits ok =
        let U = with_types (with_types T (at + 1) (iv.ty ∷ [])) (at + 2) (arg_types args) in
        let in_body = at + 2 + length args in
        for_counted T F conditions at fuel packs lower upper step iv args inits body ends results env around s t r
        inside wide is ag
        (λ G around2 env2 s2 is2 ag2. ops_sound body U G conditions in_body fuel env2 around2 s2 r.0 inside.3 is2 ag2)
        split ok
        (λ around2 env2 s2 is2 ag2 ok2. ops_counted body U conditions in_body fuel env2 around2 s2 r.0 inside.3 is2
        ag2 splits.1 ok2)
    kind_counted (While args inits before passed cond after_args after ends) T conditions at fuel packs results env
        around s t r inside wide is ag splits ok =
        let in_before = at + 1 + length args in
        let params = in_before + labels_of before in
        let in_after = params + length after_args in
        let U = with_types T (at + 1) (arg_types args) in
        let V = with_types T params (arg_types after_args) in
        while_counted T F conditions at fuel packs args inits before passed cond after_args after ends results env
        around s t r inside wide is ag
        (λ G around2 env2 s2 is2 ag2. ops_sound before U G conditions in_before fuel env2 around2 s2 r.0 inside.2 is2
        ag2)
        (λ G around2 env2 s2 is2 ag2. ops_sound after V G conditions in_after fuel env2 around2 s2 r.3 inside.4 is2
        ag2)
        split splits.0 ok
        (λ around2 env2 s2 is2 ag2 ok2. ops_counted before U conditions in_before fuel env2 around2 s2 r.0 inside.2
        is2 ag2 splits.1 ok2)
        (λ around2 env2 s2 is2 ag2 ok2. ops_counted after V conditions in_after fuel env2 around2 s2 r.3 inside.4
        is2 ag2 splits.2 ok2)

  -- ---- items

  -- outside all loops
  nothing_around : (at end : ℕ) → Allowed F split at end []
  nothing_around at end = record { reached = λ l le lt. tt; counted = λ l le lt. tt }

  items_counted : (func k : ℕ) (items : List OpList) (T : Types) (fuel : ℕ) (env : List Binding) (s : State)
      → SizedItems items → TypedItems T func k items → EachItems HasBits AnyLoop func k items
      → IsItems func k items F → Agrees T F [] (label_at func k 0) env [] → IsSplitOf split func k items
      → AllCounted F split (run_items func k items fuel env s).reports
  items_counted func k [] T fuel env s sized t wide is ag splits = tt
  items_counted func k (ops ∷ items) T fuel env s sized t wide is ag splits =
      let at = label_at func k 0 in
      let behind = item_ends func k ops sized.0.labels in
      let U = types_after T at ops in
      counted_then F split (run_ops ops fuel at [] env s) (λ w. After U F [] at (at + labels_of ops) env w [])
      (run_items func (k + 1) items fuel)
      (ops_counted ops T [] at fuel env [] s t.0 wide.0 is.0 ag splits.0 (nothing_around at (at + labels_of ops)))
      (ops_sound ops T F [] at fuel env [] s t.0 wide.0 is.0 ag).ends
      (λ env1 s1 p. items_counted func (k + 1) items U fuel env1 s1 sized.1 t.1 wide.1 is.1
      (agrees_later U F [] (at + labels_of ops) (label_at func (k + 1) 0) env1 [] (omega (arith, behind)) p.agrees)
      splits.1)

  -- ---- functions

  body_counted : (f : Func) (body : Body) (args replies : List ℕ) (budget : ℕ) → SizedArgs f.args
      → IsSizedBody (Some body) → IsTypedBody f (Some body)
      → Each HasBits (label_at f.index 0 0) (arg_types f.args)
      → EachItems HasBits AnyLoop f.index 1 (items_in (Some body))
      → AreOwn F (label_at f.index 0 0) (arg_types f.args)
      → IsItems f.index 1 (items_in (Some body)) F → length args ≡ length f.args
      → IsSplitOf split f.index 1 (items_in (Some body))
      → AllCounted F split (run_body f body args replies budget).reports
  body_counted f body args replies budget few sized t wide inside own_args is many splits =
      let at = label_at f.index 0 0 in
      let tys = arg_types f.args in
      let as_many = types_length f.args in
      let limit = few.few in
      let begin : State = record { budget = budget; replies = replies; trace = [] } in
      let ready = numbers_ready F at [] [] at tys args (omega (arith, as_many, many)) wide own_args in
      let ns = numbers_at tys args in
      counted_then F split (defines at ns [] [] begin)
      (λ w. After (args_typed f.index f.args) F [] at (at + length tys) [] w [])
      (run_items f.index 1 (view_items body.items) budget)
      (definitions_counted F split ns at (at + length ns) [] [] (omega arith) (nothing_around at (at + length ns)))
      (defines_sound untyped F [] at at [] [] begin tys ns (nothing_yet F at) (omega arith) ready).ends
      (λ env1 s1 p. items_counted f.index 1 (view_items body.items) (args_typed f.index f.args) budget env1 s1
      sized.inside t.inside inside is
      (agrees_later (args_typed f.index f.args) F [] (at + length tys) (label_at f.index 1 0) env1 []
      (omega (arith, as_many, limit)) p.agrees) splits)

  any_body_counted : (f : Func) (body : Option Body) (args replies : List ℕ) (budget : ℕ) → SizedArgs f.args
      → IsSizedBody body → IsTypedBody f body
      → Each HasBits (label_at f.index 0 0) (arg_types f.args)
      → EachItems HasBits AnyLoop f.index 1 (items_in body)
      → AreOwn F (label_at f.index 0 0) (arg_types f.args)
      → IsItems f.index 1 (items_in body) F → length args ≡ length f.args → IsSplitOf split f.index 1 (items_in body)
      → AllCounted F split (option_map_or (λ body. run_body f body args replies budget) body run_declared).reports
  any_body_counted f None args replies budget few sized t wide inside own_args is many splits = tt
  any_body_counted f (Some body) args replies budget few sized t wide inside own_args is many splits =
      body_counted f body args replies budget few sized t wide inside own_args is many splits

-- in all runs of a function
pub run_counted : (f : Func) (F : Facts) (split : ℕ → ℕ) (args replies : List ℕ) (budget : ℕ) → IsWellFormed f
    → HaveBits f → IsFacts f F → length args ≡ length f.args → IsSplitOf split f.index 1 (items_in f.body)
    → AllCounted F split (run_of f args replies budget).reports
run_counted f F split args replies budget well bits is many splits =
    let w = well_formed f well in
    let b = function_wide f w.0 bits in
    any_body_counted F split f f.body args replies budget w.2.args_sized w.2.inside w.0 b.0 b.1 is.arguments is.items
    many splits
