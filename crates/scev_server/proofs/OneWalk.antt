-- A session's walk over the commands of its script has one course: each step has one reply and one next state.
use Rattle.std.proofs.Common.{◌≡◌, ℕ, ◌≤◌, inl, inr, List, [], ◌∷◌, ◌++◌, ap, sym, ◌∙◌, subst, arith}
use Rattle.std.specs.List.{All}
use Rattle.fresh_scev.specs.Expressions.{Expression}
use Rattle.mlir_ir.specs.Check.{IsWellFormed}
use Rattle.mlir_ir.specs.declared.types.Func.{Func}
use Rattle.scev_queries.proofs.OneAnswer.{scev_one, hold_one, as_of_one, turns_reply_one, forgotten_one, printed_one, run_one}
use Rattle.scev_queries.specs.Answers.{Ask, refused, granted}
use Rattle.scev_script.specs.Replies.{reply_lines}
use Rattle.scev_script.specs.declared.reply.Reply.{Reply}
use Rattle.scev_script.specs.declared.reply.Reply.TheVariants.{Pinned, NotYet}
use Rattle.scev_script.specs.declared.script.Command.{Command}
use Rattle.scev_script.specs.declared.script.Command.TheVariants as command
use Rattle.scev_script.specs.declared.script.Pin.{Pin}
use Rattle.scev_script.specs.declared.script.Pin.TheVariants.{Latest, At}
use Rattle.scev_server.specs.Walk.{State, IsAsked, IsPinned, same, with_held, Steps, IsWalk}

-- one reply and one next state
abbrev One : Reply → Reply → State → State → Type 0
One r s m n = (r ≡ s) × (m ≡ n)

pinned_one : (to : Pin) (state : State) (r s : Reply) (m n : State) → IsPinned to state r m → IsPinned to state s n → One r s m n
pinned_one Latest state r s m n p q =
    let a : p.0 ≤ 0 = p.2 in
    let b : q.0 ≤ 0 = q.2 in
    let one : p.0 ≡ q.0 = omega (arith, a, b) in
    (p.3 ∙ ap Pinned one ∙ sym q.3, p.4 ∙ ap (λ (k : ℕ). record state { pinned = k; seen = k }) one ∙ sym q.4)
pinned_one (At k) state r s m n p q = elim p [
  | inl x ↦ elim q [
    | inl y ↦ (x.1 ∙ sym y.1, x.2 ∙ sym y.2)
    | inr y ↦ let a : k ≤ 0 = x.0 in absurd (omega (arith, a, y.1))
  ]
  | inr x ↦ elim q [
    | inl y ↦ let a : k ≤ 0 = y.0 in absurd (omega (arith, a, x.1))
    | inr y ↦
        let a : x.0 ≤ 0 = x.3 in
        let b : y.0 ≤ 0 = y.3 in
        let one : x.0 ≡ y.0 = omega (arith, a, b) in
        (x.4 ∙ ap NotYet one ∙ sym y.4, x.5 ∙ ap (λ (k : ℕ). record state { seen = k }) one ∙ sym y.5)
  ]
]

asked_same : (a : Ask) (gains : Expression → State → State) (state : State) (r s : Reply) (m n : State) → IsAsked a gains state r m → IsAsked a gains state s n → One r s m n
asked_same (refused name) gains state r s m n p q = (p.0 ∙ sym q.0, p.1 ∙ sym q.1)
asked_same (granted answer e) gains state r s m n p q = (p.0 ∙ sym q.0, p.1 ∙ sym q.1)

asked_one : (a b : Ask) → a ≡ b → (gains : Expression → State → State) (state : State) (r s : Reply) (m n : State) → IsAsked a gains state r m → IsAsked b gains state s n → One r s m n
asked_one a b e gains state r s m n p q = asked_same a gains state r s m n p (subst (λ c. IsAsked c gains state s n) (sym e) q)

module _ (funcs : List Func) (well : All IsWellFormed funcs) where
  step_one : (c : Command) (state : State) (r s : Reply) (m n : State) → Steps funcs state c r m → Steps funcs state c s n → One r s m n
  step_one (command.Pin to) state r s m n p q = pinned_one to state r s m n p q
  step_one (command.Scev name value) state r s m n p q = asked_one p.0 q.0 (scev_one funcs well name value p.0 q.0 p.1 q.1) same state r s m n p.2 q.2
  step_one (command.At name value k i) state r s m n p q = asked_one p.0 q.0 (as_of_one funcs well name value k i p.0 q.0 p.1 q.1) same state r s m n p.2 q.2
  step_one (command.Turns name k) state r s m n p q = (turns_reply_one funcs well name k r s p.0 q.0, p.1 ∙ sym q.1)
  step_one (command.Run name budget args replies) state r s m n p q = (run_one funcs well name budget args replies r s p.0 q.0, p.1 ∙ sym q.1)
  step_one (command.Forget name k) state r s m n p q = (forgotten_one funcs well name k r s p.0 q.0, p.1 ∙ sym q.1)
  step_one (command.Hold held name value) state r s m n p q = asked_one p.0 q.0 (hold_one funcs well name value p.0 q.0 p.1 q.1) (with_held held) state r s m n p.2 q.2
  step_one (command.Print name) state r s m n p q = (printed_one funcs well name r s p.0 q.0, p.1 ∙ sym q.1)

  pub walk_one : (cs : List Command) (state : State) (t u : List ℕ) (m n : State) → IsWalk funcs state cs t m → IsWalk funcs state cs u n → (t ≡ u) × (m ≡ n)
  walk_one [] state t u m n p q = (p.0 ∙ sym q.0, p.1 ∙ sym q.1)
  walk_one (c ∷ cs) state t u m n p q =
      let s = step_one c state p.0 q.0 p.1 q.1 p.3 q.3 in
      let w = walk_one cs p.1 p.2 q.2 m n p.4 (subst (λ next. IsWalk funcs next cs q.2 n) (sym s.1) q.4) in
      (p.5 ∙ ap (λ r. reply_lines r ++ p.2) s.0 ∙ ap (λ rest. reply_lines q.0 ++ rest) w.0 ∙ sym q.5, w.1)
