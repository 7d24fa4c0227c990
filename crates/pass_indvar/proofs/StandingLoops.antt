-- What stands at a label as a loop is a loop.
use Rattle.std.proofs.Common.{◌≡◌, ℕ, ◌+◌, true, inl, inr, List, [], ◌∷◌, length, ap, ◌∙◌, sym, Option, Some, None}
use Rattle.arith_word.specs.Labels.{label_at}
use Rattle.mlir_ir.specs.Operations.{OpKind, Simple, If, For, While, OpList, nil, next, labels_of, inner_labels}
use Rattle.mlir_ir.specs.View.{view_items}
use Rattle.mlir_ir.specs.declared.types.Body.{Body}
use Rattle.mlir_ir.specs.declared.types.Func.{Func}
use Rattle.pass_copy.specs.Replaced.{Operation, is_loop, StandsIn, StandsInside, StandsInItems, StandsInBody, StandsAt}

module _ (t : ℕ) (o : Operation) where
  abbrev IsLoop : Type 0
  IsLoop = is_loop o.kind ≡ true

  mutual
    loop_in : (ops : OpList) (at : ℕ) → StandsIn t o at ops → IsLoop
    loop_in nil at s = absurd s
    loop_in (next packs results kind rest) at (inl s) = sym (ap (λ (p : Operation). is_loop p.kind) s.2) ∙ s.1
    loop_in (next packs results kind rest) at (inr (inl s)) = loop_inside kind at s
    loop_in (next packs results kind rest) at (inr (inr s)) = loop_in rest (at + (inner_labels kind + length results)) s

    loop_inside : (kind : OpKind) (at : ℕ) → StandsInside t o at kind → IsLoop
    loop_inside (Simple does) at s = absurd s
    loop_inside (If c first firsts has_else other others) at (inl s) = loop_in first at s
    loop_inside (If c first firsts has_else other others) at (inr s) = loop_in other (at + labels_of first) s
    loop_inside (For lower upper step iv args inits body ends) at s = loop_in body (at + 2 + length args) s
    loop_inside (While args inits before passed cond after_args after ends) at (inl s) = loop_in before (at + 1 + length args) s
    loop_inside (While args inits before passed cond after_args after ends) at (inr s) =
        loop_in after (at + 1 + length args + labels_of before + length after_args) s

  loop_in_items : (func k : ℕ) (items : List OpList) → StandsInItems t o func k items → IsLoop
  loop_in_items func k [] s = absurd s
  loop_in_items func k (ops ∷ items) (inl s) = loop_in ops (label_at func k 0) s
  loop_in_items func k (ops ∷ items) (inr s) = loop_in_items func (k + 1) items s

  loop_in_body : (func : ℕ) (body : Option Body) → StandsInBody t o func body → IsLoop
  loop_in_body func None s = absurd s
  loop_in_body func (Some body) s = loop_in_items func 1 (view_items body.items) s

pub loop_there : (f : Func) (t : ℕ) (o : Operation) → StandsAt f t o → is_loop o.kind ≡ true
loop_there f t o s = loop_in_body t o f.index f.body s
