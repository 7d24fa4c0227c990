-- What is told of a loop's iterations, each by its number, and of the operations of its body.
use Rattle.std.proofs.Common.{◌≡◌, ℕ, zero, suc, ◌+◌, List, ◌∷◌, length, subst, sym, arith}
use Rattle.arith_word.specs.declared.label.Label.{Label}
use Rattle.mlir_ir.specs.declared.types.IrType.{IrType}
use Rattle.mlir_ir.specs.declared.types.Pack.{Pack}
use Rattle.mlir_ir.specs.Operations.{OpKind, OpList, nil, next, labels_of, inner_labels, joined}
use Rattle.mlir_ir.specs.Runs.{Number, Binding, Iteration, State, numbers_of, binds, run_then, defines, definitions, tick, Running, Place, leaves, in_turn, counted, arrives, run_ops, run_kind}
use Rattle.mlir_ir.proofs.RunTraces.{for_turn}
use Rattle.pass_copy.specs.Reported.{Claim}
use Rattle.pass_copy.proofs.RunEnds.{Ending, EndsAs, spent, goes_on, stepped, ends_ops, ends_kind, kind_ends}
use Rattle.pass_copy.proofs.Claims.{Says, after, after_weaker, Told, all_hold_split, then_told, if_told, tick_told, ops_claim, ops_claimed}
use Rattle.pass_copy.proofs.KeptLabels.{after_then}
use Rattle.pass_indvar.proofs.MoreTurns.{turns_claim}

module _ (H : Claim) where
  -- an operation, and those behind it
  pub of_first : (packs : List Pack) (results : List IrType) (kind : OpKind) (rest : OpList) (n at : ℕ) (around : List Iteration) (env : List Binding) (s : State)
      → Told H (run_ops (next packs results kind rest) n at around env s)
      → Told H (run_kind kind results n at around env s)
      × after (ends_kind kind results n at env s) (λ env1 s1. Told H (run_ops rest n (at + (inner_labels kind + length results)) around env1 s1))
  of_first packs results kind rest n at around env s h =
      let w = at + (inner_labels kind + length results) in
      let p = then_told H (arrives at around env (run_kind kind results n at around env s)) (ends_kind kind results n at env s) (run_ops rest n w around)
      (λ env1 s1. Told H (run_ops rest n w around env1 s1)) (kind_ends kind results n at around env s) h (λ env1 s1 h1. h1) in
      (p.0.1, p.1)

  -- of operations behind others
  pub of_behind : (a b : OpList) (n at : ℕ) (around : List Iteration) (env : List Binding) (s : State) → Told H (run_ops (joined a b) n at around env s)
      → after (ends_ops a n at env s) (λ env1 s1. Told H (run_ops b n (at + labels_of a) around env1 s1))
  of_behind nil b n at around env s h = let e : at + 0 ≡ at = omega arith in subst (λ p. Told H (run_ops b n p around env s)) (sym e) h
  of_behind (next packs results kind rest) b n at around env s h =
      let w = inner_labels kind + length results in
      let e : at + w + labels_of rest ≡ at + (w + labels_of rest) = omega arith in
      after_then (ends_kind kind results n at env s) (ends_ops rest n (at + w)) (λ env1 s1. Told H (run_ops (joined rest b) n (at + w) around env1 s1))
      (λ env1 s1. Told H (run_ops b n (at + (w + labels_of rest)) around env1 s1))
      (of_first packs results kind (joined rest b) n at around env s h).1
      (λ env1 s1 h1. subst (λ p. after (ends_ops rest n (at + w) env1 s1) (λ env2 s2. Told H (run_ops b n p around env2 s2))) e (of_behind rest b n (at + w) around env1 s1 h1))

  front_claim : (a b : OpList) (n at : ℕ) (env : List Binding) (s : State) → ops_claim H (joined a b) n at env s → ops_claim H a n at env s
  front_claim nil b n at env s h = tt
  front_claim (next packs results kind rest) b n at env s h =
      let w = at + (inner_labels kind + length results) in
      (h.0, after_weaker (ends_kind kind results n at env s) (ops_claim H (joined rest b) n w) (ops_claim H rest n w) (λ env1 s1 h1. front_claim rest b n w env1 s1 h1) h.1)

  -- and in front of others
  pub of_front : (a b : OpList) (n at : ℕ) (around : List Iteration) (env : List Binding) (s : State) → Told H (run_ops (joined a b) n at around env s) → ops_claim H a n at env s
  of_front a b n at around env s h = front_claim a b n at env s (ops_claimed H (joined a b) n at around env s h)

  -- iterations

  module _ (body : Running) (body' : Ending) (loop : Place) (ends : List Label) (upper step : Number) (ends_as : EndsAs body body') where
    -- in iteration k the body is told of
    abbrev pub says_of : ℕ → Says
    says_of k env s = Told H (body (in_turn loop k) env s)

    pub turns_told : (fuel k : ℕ) (v : Number) (args : List Number) (s : State) → Told H (counted fuel body loop ends upper step v k args s)
        → turns_claim says_of body' (loop.at + 1) ends loop.env upper step fuel k v args s
    turns_told zero k v args s h = tt
    turns_told (suc fuel) k v args s h = λ more ne.
        let go = for_turn fuel body loop ends upper step v k args in
        let inside = defines (loop.at + 1) (v ∷ args) (in_turn loop k) loop.env (spent s) in
        let env1 = binds (loop.at + 1) (v ∷ args) loop.env in
        let more_turns = λ (inner : List Binding) (s2 : State). turns_claim says_of body' (loop.at + 1) ends loop.env upper step fuel (k + 1) (stepped step v) (numbers_of inner ends) s2 in
        let p = then_told H (run_then inside (body (in_turn loop k))) (body' env1 (spent s))
        (λ inner s2. counted fuel body loop ends upper step (stepped step v) (k + 1) (numbers_of inner ends) s2) more_turns (ends_as (in_turn loop k) env1 (spent s))
        (tick_told H s go ne (if_told H (goes_on upper v) (tick s go) (leaves loop k args s) more h))
        (λ inner s2 h2. turns_told fuel (k + 1) (stepped step v) (numbers_of inner ends) s2 h2) in
        ((all_hold_split H (definitions (loop.at + 1) (v ∷ args) (in_turn loop k) loop.env) (body (in_turn loop k) env1 (spent s)).reports p.0).1, p.1)
