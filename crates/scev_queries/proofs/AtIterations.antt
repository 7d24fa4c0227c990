-- What is said of the expression of a value at an iteration of a loop.
use Rattle.std.proofs.Common.{◌≡◌, inl, inr, ℕ, ◌∙◌, ap, refl}
use Rattle.fresh_scev.specs.Expressions.{Expression}
use Rattle.mlir_ir.specs.declared.loop_labels.LoopLabels.{LoopLabels}
use Rattle.mlir_ir.specs.declared.types.Func.{Func}
use Rattle.scev_queries.specs.Answers.{refused, granted, line_of, IsAtIteration, IsAtLoop, IsExpressionOf, VariesIn}
use Rattle.scev_script.specs.declared.reply.RefusalName.TheVariants.{NotInLoop}
use Rattle.scev_script.specs.declared.reply.Reply.{Reply}
use Rattle.scev_text.specs.Naming.{Naming, naming_of}
use Rattle.scev_text.specs.Texts.{polynomial_text}

pub outside : (f : Func) (label n : ℕ) (l : LoopLabels) (e : Expression) → IsExpressionOf f label e → (VariesIn l label e → ⊥) → IsAtLoop f label n l (refused NotInLoop)
outside f label n l e is not_in = (e, is, inr (not_in, refl))

pub inside : (f : Func) (label n : ℕ) (l : LoopLabels) (e r : Expression) (names : Naming) (reply : Reply) → IsExpressionOf f label e → VariesIn l label e → IsAtIteration l n r e → names ≡ naming_of f
    → reply ≡ line_of (polynomial_text names r.w r.p) → IsAtLoop f label n l (granted reply r)
inside f label n l e r names reply is varies at named told =
    (e, is, inl (varies, r, at, ap (λ told. granted told r) (told ∙ ap (λ names. line_of (polynomial_text names r.w r.p)) named)))
