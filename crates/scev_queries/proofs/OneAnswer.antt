-- A module of well-formed functions has one answer to each command.
use Rattle.std.proofs.Common.{◌≡◌, ℕ, ◌^◌, ◌==◌, length, if◌then◌else◌, inl, inr, List, slice_get, Option, Some, None, refl, ap, sym, ◌∙◌, subst}
use Rattle.std.proofs.lemmas.List.Folds.{find_at}
use Rattle.std.specs.List.{All, position_or_len}
use Rattle.std.specs.Option.{MatchOption}
use Rattle.chrec_algebra.proofs.UniqueResults.{at_one}
use Rattle.fresh_scev.proofs.Before.{same_expression}
use Rattle.fresh_scev.proofs.OneFunction.{values_determined, turns_determined}
use Rattle.fresh_scev.specs.Expressions.{Expression, counter}
use Rattle.mlir_ir.specs.Check.{IsWellFormed}
use Rattle.mlir_ir.specs.Canonical.{func_text}
use Rattle.mlir_ir.specs.Loops.{func_loops}
use Rattle.mlir_ir.specs.Runs.{run_of}
use Rattle.mlir_ir.specs.Values.{func_values}
use Rattle.mlir_ir.specs.declared.loop_labels.LoopLabels.{LoopLabels}
use Rattle.mlir_ir.specs.declared.types.Func.{Func}
use Rattle.scev_script.specs.declared.reply.RefusalName.TheVariants.{NoFunc, NoValue, NoLoop, WrongArgs}
use Rattle.scev_script.specs.declared.reply.Reply.{Reply}
use Rattle.scev_script.specs.declared.reply.Reply.TheVariants.{Lines, Forgotten, Held, Refusal}
use Rattle.scev_script.specs.declared.script.ValueName.{ValueName}
use Rattle.scev_text.specs.Naming.{naming_of}
use Rattle.scev_text.specs.Texts.{turns_text}
use Rattle.trip_count.specs.declared.answer.Turns.{Turns}
use Rattle.scev_queries.specs.Answers.{Ask, refused, granted, func_named, names_of, value_label, line_of, expression_text, IsExpressionOf, IsTurnsOf, AsksValue, RepliesOf, RepliesOfLoop, VariesIn, IsAtIteration, IsAtLoop, IsScev, IsHold, IsAsOf, IsTurns, IsForgotten, IsPrinted, IsRun}
use Rattle.scev_queries.specs.RunTexts.{run_text}
use Rattle.scev_queries.proofs.FuncSearch.{is_named}
use Rattle.scev_queries.proofs.KnownValues.{each}
use Rattle.scev_queries.proofs.NamedValues.{HasValue, named_is_value}

-- facts of one function

expression_one : (f : Func) → IsWellFormed f → (label : ℕ) → HasValue (func_values f) label → (d e : Expression) → IsExpressionOf f label d → IsExpressionOf f label e → d ≡ e
expression_one f well label v d e p q = p.2 ∙ (values_determined f p.0 q.0 well p.1 q.1 label v.0 v.1).0 ∙ sym q.2

turns_one : (f : Func) → IsWellFormed f → (k : ℕ) (l : LoopLabels) → slice_get (func_loops f) k ≡ Some l → (t u : Turns) → IsTurnsOf f l t → IsTurnsOf f l u → t ≡ u
turns_one f well k l e t u p q =
    p.2 ∙ each (λ (l : LoopLabels). p.0.turns l.counter.0 ≡ q.0.turns l.counter.0) (func_loops f) k l (turns_determined f p.0 q.0 well p.1 q.1) e ∙ sym q.2

iteration_one : (l : LoopLabels) (n : ℕ) (r s d e : Expression) → d ≡ e → IsAtIteration l n r d → IsAtIteration l n s e → r ≡ s
iteration_one l n r s d e same p q =
    let o : IsAtIteration l n s d = subst (IsAtIteration l n s) (sym same) q in
    same_expression r s (p.width ∙ sym o.width) (at_one (2 ^ d.w) (counter l.counter.0) n r.p s.p d.p p.at o.at)

at_loop_one : (f : Func) → IsWellFormed f → (label : ℕ) → HasValue (func_values f) label → (n : ℕ) (l : LoopLabels) (a b : Ask) → IsAtLoop f label n l a → IsAtLoop f label n l b → a ≡ b
at_loop_one f well label v n l a b p q =
    let same : p.0 ≡ q.0 = expression_one f well label v p.0 q.0 p.1 q.1 in
    elim p.2 [
      | inl x ↦ elim q.2 [
        | inl y ↦ x.3 ∙ ap (λ r. granted (line_of (expression_text f r)) r) (iteration_one l n x.1 y.1 p.0 q.0 same x.2 y.2) ∙ sym y.3
        | inr y ↦ absurd (y.0 (subst (VariesIn l label) same x.0))
      ]
      | inr x ↦ elim q.2 [
        | inl y ↦ absurd (x.0 (subst (VariesIn l label) (sym same) y.0))
        | inr y ↦ x.1 ∙ sym y.1
      ]
    ]

-- what is said where there is nothing, or of what there is, has one result
one_of : {X R : Type 0} (o : Option X) (none : R) (Says : X → R → Type 0) → ((x : X) → o ≡ Some x → (a b : R) → Says x a → Says x b → a ≡ b) → (a b : R)
    → MatchOption o (a ≡ none) (λ x. Says x a) → MatchOption o (b ≡ none) (λ x. Says x b) → a ≡ b
one_of None none Says h a b p q = p ∙ sym q
one_of (Some x) none Says h a b p q = h x refl a b p q

module _ (funcs : List Func) (well : All IsWellFormed funcs) (name : List ℕ) where
  formed : (f : Func) → func_named funcs name ≡ Some f → IsWellFormed f
  formed f e = each IsWellFormed funcs (position_or_len (is_named name) funcs) f well (sym (find_at (is_named name) funcs) ∙ e)

  ask_one : (value : ValueName) (Says : Func → ℕ → Ask → Type 0)
      → ((f : Func) → IsWellFormed f → (label : ℕ) → HasValue (func_values f) label → (a b : Ask) → Says f label a → Says f label b → a ≡ b)
      → (a b : Ask) → AsksValue funcs name value Says a → AsksValue funcs name value Says b → a ≡ b
  ask_one value Says h a b p q =
      one_of (func_named funcs name) (refused NoFunc) (λ f ask. MatchOption (value_label f value) (ask ≡ refused NoValue) (λ label. Says f label ask))
      (λ f e. one_of (value_label f value) (refused NoValue) (Says f)
      (λ label named. h f (formed f e) label (named_is_value f (formed f e) value.name value.nth value.result label named)))
      a b p q

  reply_one : (Says : Func → Reply → Type 0) → ((f : Func) → IsWellFormed f → (a b : Reply) → Says f a → Says f b → a ≡ b)
      → (a b : Reply) → RepliesOf funcs name Says a → RepliesOf funcs name Says b → a ≡ b
  reply_one Says h a b p q = one_of (func_named funcs name) (Refusal NoFunc) Says (λ f e. h f (formed f e)) a b p q

  -- the function's reply is told outright
  told_one : (told : Func → Reply) → (a b : Reply) → RepliesOf funcs name (λ f reply. reply ≡ told f) a → RepliesOf funcs name (λ f reply. reply ≡ told f) b → a ≡ b
  told_one told a b p q = reply_one (λ f reply. reply ≡ told f) (λ f w a b p q. p ∙ sym q) a b p q

  loop_reply_one : (k : ℕ) (Says : Func → LoopLabels → Reply → Type 0)
      → ((f : Func) → IsWellFormed f → (l : LoopLabels) → slice_get (func_loops f) k ≡ Some l → (a b : Reply) → Says f l a → Says f l b → a ≡ b)
      → (a b : Reply) → RepliesOfLoop funcs name k Says a → RepliesOfLoop funcs name k Says b → a ≡ b
  loop_reply_one k Says h a b p q =
      reply_one (λ f reply. MatchOption (slice_get (func_loops f) k) (reply ≡ Refusal NoLoop) (λ l. Says f l reply))
      (λ f w. one_of (slice_get (func_loops f) k) (Refusal NoLoop) (Says f) (h f w)) a b p q

  -- the commands

  pub scev_one : (value : ValueName) (a b : Ask) → IsScev funcs name value a → IsScev funcs name value b → a ≡ b
  scev_one value a b p q =
      ask_one value (λ f label ask. (e : Expression) × IsExpressionOf f label e × (ask ≡ granted (line_of (expression_text f e)) e))
      (λ f w label v a b p q. p.2 ∙ ap (λ e. granted (line_of (expression_text f e)) e) (expression_one f w label v p.0 q.0 p.1 q.1) ∙ sym q.2) a b p q

  pub hold_one : (value : ValueName) (a b : Ask) → IsHold funcs name value a → IsHold funcs name value b → a ≡ b
  hold_one value a b p q =
      ask_one value (λ f label ask. (e : Expression) × IsExpressionOf f label e × (ask ≡ granted Held e))
      (λ f w label v a b p q. p.2 ∙ ap (granted Held) (expression_one f w label v p.0 q.0 p.1 q.1) ∙ sym q.2) a b p q

  pub as_of_one : (value : ValueName) (k n : ℕ) (a b : Ask) → IsAsOf funcs name value k n a → IsAsOf funcs name value k n b → a ≡ b
  as_of_one value k n a b p q =
      ask_one value (λ f label ask. MatchOption (slice_get (func_loops f) k) (ask ≡ refused NoLoop) (λ l. IsAtLoop f label n l ask))
      (λ f w label v. one_of (slice_get (func_loops f) k) (refused NoLoop) (IsAtLoop f label n) (λ l e. at_loop_one f w label v n l)) a b p q

  pub turns_reply_one : (k : ℕ) (a b : Reply) → IsTurns funcs name k a → IsTurns funcs name k b → a ≡ b
  turns_reply_one k a b p q =
      loop_reply_one k (λ f l reply. (t : Turns) × IsTurnsOf f l t × (reply ≡ line_of (turns_text (naming_of f) t)))
      (λ f w l e a b p q. p.2 ∙ ap (λ t. line_of (turns_text (naming_of f) t)) (turns_one f w k l e p.0 q.0 p.1 q.1) ∙ sym q.2) a b p q

  pub forgotten_one : (k : ℕ) (a b : Reply) → IsForgotten funcs name k a → IsForgotten funcs name k b → a ≡ b
  forgotten_one k a b p q = loop_reply_one k (λ f l reply. reply ≡ Forgotten) (λ f w l e a b p q. p ∙ sym q) a b p q

  pub printed_one : (a b : Reply) → IsPrinted funcs name a → IsPrinted funcs name b → a ≡ b
  printed_one a b p q = told_one (λ f. Lines (func_text (names_of funcs) f)) a b p q

  pub run_one : (budget : ℕ) (args replies : List ℕ) (a b : Reply) → IsRun funcs name budget args replies a → IsRun funcs name budget args replies b → a ≡ b
  run_one budget args replies a b p q =
      told_one (λ f. if length args == length f.args then line_of (run_text (names_of funcs) (run_of f args replies budget)) else Refusal WrongArgs) a b p q
