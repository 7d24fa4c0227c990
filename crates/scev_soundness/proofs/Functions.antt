-- All reports of the runs of well-formed functions hold.
use Rattle.std.proofs.Common.{◌≡◌, ℕ, ◌+◌, ◌≤◌, List, [], ◌∷◌, ◌++◌, length, refl, sym, subst, arith, Option, Some, None}
use Rattle.std.specs.Option.{option_map_or}
use Rattle.arith_word.specs.Labels.{label_at}
use Rattle.arith_word.specs.declared.label.Label.{Label}
use Rattle.mlir_ir.proofs.SizedFunctions.{well_formed}
use Rattle.mlir_ir.specs.Check.{IsWellFormed}
use Rattle.mlir_ir.specs.Operations.{OpKind, Simple, If, For, While, OpList, nil, next, labels_of, inner_labels}
use Rattle.mlir_ir.specs.Rules.{arg_types}
use Rattle.mlir_ir.specs.Runs.{Binding, Iteration, State, numbers_at, arrives, defines, run_ops, run_kind, run_items, run_body, run_declared, run_of}
use Rattle.mlir_ir.specs.Sized.{SizedArgs, SizedItems}
use Rattle.mlir_ir.specs.Typed.{Types, with_types, types_after, untyped, args_typed, TypedOp, TypedOps, TypedRegions, TypedItems}
use Rattle.mlir_ir.specs.View.{view_items}
use Rattle.mlir_ir.specs.WellFormed.{IsTypedBody, IsSizedBody}
use Rattle.mlir_ir.specs.declared.types.Body.{Body}
use Rattle.mlir_ir.specs.declared.types.Func.{Func}
use Rattle.mlir_ir.specs.declared.types.IrType.{IrType}
use Rattle.mlir_ir.specs.declared.types.Pack.{Pack}
use Rattle.fresh_scev.specs.Each.{Each, EachOps, EachInside, EachItems}
use Rattle.fresh_scev.specs.Facts.{Facts, AreOwn, IsOps, IsKind, IsItems, IsFacts, items_in}
use Rattle.fresh_scev.proofs.FittingLabels.{item_ends}
use Rattle.fresh_scev.proofs.StandingFacts.{types_length}
use Rattle.scev_soundness.specs.Agreement.{Agrees, After, IsSound}
use Rattle.fresh_scev.specs.Bits.{HaveBits}
use Rattle.scev_soundness.specs.Holding.{AllHold}
use Rattle.scev_soundness.proofs.Branches.{if_sound, after_moved}
use Rattle.scev_soundness.proofs.Fors.{for_sound}
use Rattle.scev_soundness.proofs.Points.{keeps_both}
use Rattle.scev_soundness.proofs.Scopes.{agrees_later}
use Rattle.scev_soundness.proofs.Segments.{sound_then, sound_weaker}
use Rattle.scev_soundness.proofs.SimpleOperations.{simple_sound, numbers_ready, defines_sound}
use Rattle.scev_soundness.proofs.Whiles.{while_sound}
use Rattle.scev_soundness.proofs.ValueBits.{HasBits, AnyLoop, function_wide}

-- ---- operations

-- what one operation leaves, and what those behind it leave
after_rest : (U V : Types) (F : Facts) (conditions : List Label) (at mid last end : ℕ) (env env1 w : List Binding)
    (around : List Iteration) → at ≤ mid → last ≤ end
    → After U F conditions at mid env env1 around → After V F conditions mid last env1 w around
    → After V F conditions at end env w around
after_rest U V F conditions at mid last end env env1 w around le lt p q = record {
  agrees = agrees_later V F conditions last end w around lt q.agrees;
  keeps = keeps_both env env1 w at p.keeps (λ y h. q.keeps y (omega arith));
}

mutual
  pub ops_sound : (ops : OpList) (T : Types) (F : Facts) (conditions : List Label) (at fuel : ℕ) (env : List Binding)
      (around : List Iteration) (s : State) → TypedOps T at ops → EachOps HasBits AnyLoop ops at
      → IsOps conditions ops at F → Agrees T F conditions at env around
      → IsSound F (run_ops ops fuel at around env s)
      (λ w. After (types_after T at ops) F conditions at (at + labels_of ops) env w around)
  ops_sound nil T F conditions at fuel env around s t wide is ag =
      record {
        holds = tt;
        ends = record {
          agrees = agrees_later T F conditions at (at + labels_of nil) env around
              (omega arith) ag;
          keeps = λ y lt. refl;
        };
      }
  ops_sound (next packs results kind rest) T F conditions at fuel env around s t wide is ag =
      let mid = at + (inner_labels kind + length results) in
      let U = with_types T (at + inner_labels kind) results in
      let V = types_after U mid rest in
      let here = kind_sound kind T F conditions at fuel packs results env around s t.0 t.1 wide.0 wide.1 is.0 ag in
      sound_then F (arrives at around env (run_kind kind results fuel at around env s))
      (λ w. After U F conditions at mid env w around)
      (λ w. After V F conditions at (at + labels_of (next packs results kind rest)) env w around)
      (run_ops rest fuel mid around)
      (record { holds = (λ l b. (ag.bound l b).number, here.holds); ends = here.ends })
      (λ env1 s1 p. sound_weaker F (run_ops rest fuel mid around env1 s1)
      (λ w. After V F conditions mid (mid + labels_of rest) env1 w around)
      (λ w. After V F conditions at (at + labels_of (next packs results kind rest)) env w around)
      (λ w q. after_rest U V F conditions at mid (mid + labels_of rest)
      (at + labels_of (next packs results kind rest)) env env1 w around (omega arith) (omega arith) p q)
      (ops_sound rest U F conditions mid fuel env1 around s1 t.2 wide.2 is.1 p.agrees))

  pub kind_sound : (kind : OpKind) (T : Types) (F : Facts) (conditions : List Label) (at fuel : ℕ)
      (packs : List Pack) (results : List IrType) (env : List Binding) (around : List Iteration) (s : State)
      → TypedOp T packs results kind → TypedRegions T at results kind → EachInside HasBits AnyLoop kind at
      → Each HasBits (at + inner_labels kind) results → IsKind conditions kind results at F
      → Agrees T F conditions at env around
      → IsSound F (run_kind kind results fuel at around env s)
      (λ w. After (with_types T (at + inner_labels kind) results) F conditions at
      (at + (inner_labels kind + length results)) env w around)
  kind_sound (Simple does) T F conditions at fuel packs results env around s t r inside wide is ag =
      let e : at ≡ at + inner_labels (Simple does) = omega arith in
      sound_weaker F (run_kind (Simple does) results fuel at around env s)
      (λ w. After (with_types T at results) F conditions at (at + length results) env w around)
      (λ w. After (with_types T (at + inner_labels (Simple does)) results) F conditions at
      (at + (inner_labels (Simple does) + length results)) env w around)
      (λ w h. after_moved T F conditions at at (at + inner_labels (Simple does)) (at + length results)
      (at + (inner_labels (Simple does) + length results)) results env w around e (omega arith) h)
      (simple_sound does T F conditions at packs results env around s t
      (subst (λ l. Each HasBits l results) (sym e) wide) is ag)
  kind_sound (If c first firsts has_else other others) T F conditions at fuel packs results env around s t r inside
      wide is ag =
      if_sound c first firsts has_else other others T F conditions at fuel packs results env around s t r wide is ag
      (λ ag1. ops_sound first T F (conditions ++ c ∷ []) at fuel env around s r.0 inside.0 is.0 ag1)
      (λ ag1. ops_sound other T F conditions (at + labels_of first) fuel env around s r.2 inside.1 is.1 ag1)
  kind_sound (For lower upper step iv args inits body ends) T F conditions at fuel packs results env around s t r
      inside wide is ag =
      for_sound T F conditions at fuel packs lower upper step iv args inits body ends results env around s t r inside
      wide is ag
      (λ G around2 env2 s2 is2 ag2. ops_sound body
      (with_types (with_types T (at + 1) (iv.ty ∷ [])) (at + 2) (arg_types args)) G conditions
      (at + 2 + length args) fuel env2 around2 s2 r.0 inside.3 is2 ag2)
  kind_sound (While args inits before passed cond after_args after ends) T F conditions at fuel packs results env
      around s t r inside wide is ag =
      let in_before = at + 1 + length args in
      let params = in_before + labels_of before in
      let in_after = params + length after_args in
      while_sound T F conditions at fuel packs args inits before passed cond after_args after ends results env around
      s t r inside wide is ag
      (λ G around2 env2 s2 is2 ag2. ops_sound before
      (with_types T (at + 1) (arg_types args)) G conditions in_before fuel env2 around2 s2 r.0 inside.2 is2 ag2)
      (λ G around2 env2 s2 is2 ag2. ops_sound after
      (with_types T params (arg_types after_args)) G conditions in_after fuel env2 around2 s2 r.3 inside.4 is2 ag2)

-- ---- items

abbrev Anything : List Binding → Type 0
Anything w = Unit {0}

pub items_sound : (func k : ℕ) (items : List OpList) (T : Types) (F : Facts) (fuel : ℕ) (env : List Binding)
    (s : State) → SizedItems items → TypedItems T func k items → EachItems HasBits AnyLoop func k items
    → IsItems func k items F → Agrees T F [] (label_at func k 0) env []
    → IsSound F (run_items func k items fuel env s) (λ w. Anything w)
items_sound func k [] T F fuel env s sized t wide is ag = record { holds = tt; ends = tt }
items_sound func k (ops ∷ items) T F fuel env s sized t wide is ag =
    let at = label_at func k 0 in
    let behind = item_ends func k ops sized.0.labels in
    let U = types_after T at ops in
    sound_then F (run_ops ops fuel at [] env s) (λ w. After U F [] at (at + labels_of ops) env w [])
    (λ w. Anything w) (run_items func (k + 1) items fuel)
    (ops_sound ops T F [] at fuel env [] s t.0 wide.0 is.0 ag)
    (λ env1 s1 p. items_sound func (k + 1) items U F fuel env1 s1 sized.1 t.1 wide.1 is.1
    (agrees_later U F [] (at + labels_of ops) (label_at func (k + 1) 0) env1 [] (omega (arith, behind)) p.agrees))

-- ---- functions

pub nothing_yet : (F : Facts) (at : ℕ) → Agrees untyped F [] at [] []
nothing_yet F at = record {
  wide = λ l u e. absurd (cc);
  good = λ l u e. absurd (cc);
  below = λ l u e. absurd (cc);
  number = λ l u e. absurd (cc);
  bound = λ l b. absurd b;
  tests = λ l u c e t. absurd (cc);
  guards = tt;
}

body_sound : (f : Func) (body : Body) (F : Facts) (args replies : List ℕ) (budget : ℕ) → SizedArgs f.args
    → IsSizedBody (Some body) → IsTypedBody f (Some body)
    → Each HasBits (label_at f.index 0 0) (arg_types f.args)
    → EachItems HasBits AnyLoop f.index 1 (items_in (Some body)) → AreOwn F (label_at f.index 0 0) (arg_types f.args)
    → IsItems f.index 1 (items_in (Some body)) F → length args ≡ length f.args
    → AllHold F (run_body f body args replies budget).reports
body_sound f body F args replies budget few sized t wide inside own_args is many =
    let at = label_at f.index 0 0 in
    let tys = arg_types f.args in
    let as_many = types_length f.args in
    let limit = few.few in
    let begin : State = record { budget = budget; replies = replies; trace = [] } in
    let ready = numbers_ready F at [] [] at tys args (omega (arith, as_many, many)) wide own_args in
    (sound_then F (defines at (numbers_at tys args) [] [] begin)
    (λ w. After (args_typed f.index f.args) F [] at (at + length tys) [] w []) (λ w. Anything w)
    (run_items f.index 1 (view_items body.items) budget)
    (defines_sound untyped F [] at at [] [] begin tys (numbers_at tys args) (nothing_yet F at) (omega arith) ready)
    (λ env1 s1 p. items_sound f.index 1 (view_items body.items)
    (args_typed f.index f.args) F budget env1 s1 sized.inside t.inside inside is
    (agrees_later (args_typed f.index f.args) F [] (at + length tys) (label_at f.index 1 0) env1 []
    (omega (arith, as_many, limit)) p.agrees))).holds

any_body_sound : (f : Func) (body : Option Body) (F : Facts) (args replies : List ℕ) (budget : ℕ) → SizedArgs f.args
    → IsSizedBody body → IsTypedBody f body
    → Each HasBits (label_at f.index 0 0) (arg_types f.args) → EachItems HasBits AnyLoop f.index 1 (items_in body)
    → AreOwn F (label_at f.index 0 0) (arg_types f.args)
    → IsItems f.index 1 (items_in body) F → length args ≡ length f.args
    → AllHold F (option_map_or (λ body. run_body f body args replies budget) body run_declared).reports
any_body_sound f None F args replies budget few sized t wide inside own_args is many = tt
any_body_sound f (Some body) F args replies budget few sized t wide inside own_args is many =
    body_sound f body F args replies budget few sized t wide inside own_args is many

-- all reports of all runs of a function
pub function_sound : (f : Func) (F : Facts) (args replies : List ℕ) (budget : ℕ) → IsWellFormed f → HaveBits f
    → IsFacts f F → length args ≡ length f.args
    → AllHold F (run_of f args replies budget).reports
function_sound f F args replies budget well bits is many =
    let w = well_formed f well in
    let b = function_wide f w.0 bits in
    any_body_sound f f.body F args replies budget w.2.args_sized w.2.inside w.0 b.0 b.1 is.arguments is.items many
