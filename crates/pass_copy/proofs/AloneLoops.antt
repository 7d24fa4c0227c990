-- A loop stands alone at its label, in a function whose items keep to their labels.
use Rattle.std.proofs.Common.{◌≡◌, ℕ, ◌+◌, ◌==◌, ◌&&◌, inl, inr, true, false, List, [], ◌∷◌, length, ◌∙◌, sym, arith, Option, Some, None}
use Rattle.std.proofs.lemmas.Bool.{eq-eqb}
use Rattle.std.specs.List.{All}
use Rattle.std.specs.Prelude.{IfSome}
use Rattle.arith_word.specs.Labels.{label_at}
use Rattle.mlir_ir.specs.Operations.{OpKind, Simple, If, For, While, OpList, nil, next, labels_of, inner_labels}
use Rattle.mlir_ir.specs.Places.{HasFewLabels, DoLabelsFit}
use Rattle.mlir_ir.specs.View.{view_items}
use Rattle.mlir_ir.specs.declared.types.Body.{Body}
use Rattle.mlir_ir.specs.declared.types.Func.{Func}
use Rattle.pass_copy.specs.Replaced.{Operation, is_loop, StandsIn, StandsInside, StandsInItems, StandsInBody, StandsAt}
use Rattle.pass_copy.proofs.UntouchedParts.{loop_labels, stands, stands_inside, not_around}
use Rattle.pass_copy.proofs.ItemPlaces.{ItemsFit, items_fit, next_item, stands_behind}

-- what stands inside a loop has another label
pub not_both : (t : ℕ) (q : Operation) (kind : OpKind) (at : ℕ) → at ≡ t → is_loop kind ≡ true → StandsInside t q at kind → ⊥
not_both t q kind at e l s =
    let other : (is_loop kind && (at == t)) ≡ false = not_around t q kind at s in
    let same : true ≡ false = rw (l, eq-eqb at t e) at other in
    cc

module _ (t : ℕ) (o q : Operation) where
  mutual
    one_loop : (at : ℕ) (ops : OpList) → StandsIn t o at ops → StandsIn t q at ops → o ≡ q
    one_loop at nil h k = absurd h
    one_loop at (next packs results kind rest) (inl h) (inl k) = sym h.2 ∙ k.2
    one_loop at (next packs results kind rest) (inl h) (inr (inl k)) = absurd (not_both t q kind at h.0 h.1 k)
    one_loop at (next packs results kind rest) (inl h) (inr (inr k)) =
        let s = stands t q rest (at + (inner_labels kind + length results)) k in
        let some = loop_labels kind h.1 in
        absurd (omega (arith, h.0, s.begins, some))
    one_loop at (next packs results kind rest) (inr (inl h)) (inl k) = absurd (not_both t o kind at k.0 k.1 h)
    one_loop at (next packs results kind rest) (inr (inl h)) (inr (inl k)) = one_inside at kind h k
    one_loop at (next packs results kind rest) (inr (inl h)) (inr (inr k)) =
        let g = stands_inside t o kind at h in
        let s = stands t q rest (at + (inner_labels kind + length results)) k in
        absurd (omega (arith, g.some, g.ends, s.begins))
    one_loop at (next packs results kind rest) (inr (inr h)) (inl k) =
        let g = stands t o rest (at + (inner_labels kind + length results)) h in
        let some = loop_labels kind k.1 in
        absurd (omega (arith, k.0, g.begins, some))
    one_loop at (next packs results kind rest) (inr (inr h)) (inr (inl k)) =
        let g = stands t o rest (at + (inner_labels kind + length results)) h in
        let s = stands_inside t q kind at k in
        absurd (omega (arith, g.begins, s.some, s.ends))
    one_loop at (next packs results kind rest) (inr (inr h)) (inr (inr k)) =
        one_loop (at + (inner_labels kind + length results)) rest h k

    one_inside : (at : ℕ) (kind : OpKind) → StandsInside t o at kind → StandsInside t q at kind → o ≡ q
    one_inside at (Simple does) h k = absurd h
    one_inside at (If c first firsts has_else other others) (inl h) (inl k) = one_loop at first h k
    one_inside at (If c first firsts has_else other others) (inl h) (inr k) =
        let g = stands t o first at h in
        let s = stands t q other (at + labels_of first) k in
        absurd (omega (arith, g.some, g.ends, s.begins))
    one_inside at (If c first firsts has_else other others) (inr h) (inl k) =
        let g = stands t o other (at + labels_of first) h in
        let s = stands t q first at k in
        absurd (omega (arith, g.begins, s.some, s.ends))
    one_inside at (If c first firsts has_else other others) (inr h) (inr k) = one_loop (at + labels_of first) other h k
    one_inside at (For lower upper step iv args inits body ends) h k = one_loop (at + 2 + length args) body h k
    one_inside at (While args inits before passed cond after_args after ends) (inl h) (inl k) = one_loop (at + 1 + length args) before h k
    one_inside at (While args inits before passed cond after_args after ends) (inl h) (inr k) =
        let g = stands t o before (at + 1 + length args) h in
        let s = stands t q after (at + 1 + length args + labels_of before + length after_args) k in
        absurd (omega (arith, g.some, g.ends, s.begins))
    one_inside at (While args inits before passed cond after_args after ends) (inr h) (inl k) =
        let g = stands t o after (at + 1 + length args + labels_of before + length after_args) h in
        let s = stands t q before (at + 1 + length args) k in
        absurd (omega (arith, g.begins, s.some, s.ends))
    one_inside at (While args inits before passed cond after_args after ends) (inr h) (inr k) =
        one_loop (at + 1 + length args + labels_of before + length after_args) after h k

  one_in_items : (func k : ℕ) (items : List OpList) → ItemsFit items → StandsInItems t o func k items → StandsInItems t q func k items → o ≡ q
  one_in_items func k [] fit h r = absurd h
  one_in_items func k (ops ∷ items) fit (inl h) (inl r) = one_loop (label_at func k 0) ops h r
  one_in_items func k (ops ∷ items) fit (inl h) (inr r) =
      let g = stands t o ops (label_at func k 0) h in
      let s = stands_behind t q func (k + 1) items r in
      let n = next_item func k (labels_of ops) fit.0 in
      absurd (omega (arith, g.some, g.ends, s, n))
  one_in_items func k (ops ∷ items) fit (inr h) (inl r) =
      let g = stands_behind t o func (k + 1) items h in
      let s = stands t q ops (label_at func k 0) r in
      let n = next_item func k (labels_of ops) fit.0 in
      absurd (omega (arith, g, s.some, s.ends, n))
  one_in_items func k (ops ∷ items) fit (inr h) (inr r) = one_in_items func (k + 1) items fit.1 h r

  one_in_body : (func : ℕ) (body : Option Body) → IfSome body (λ (b : Body). All HasFewLabels b.items) → StandsInBody t o func body → StandsInBody t q func body → o ≡ q
  one_in_body func None fit h k = absurd h
  one_in_body func (Some body) fit h k = one_in_items func 1 (view_items body.items) (items_fit body.items fit) h k

-- two loops at one label are one
pub alone_at_label : (f : Func) → DoLabelsFit f → (t : ℕ) (o q : Operation) → StandsAt f t o → StandsAt f t q → o ≡ q
alone_at_label f fit t o q h k = one_in_body t o q f.index f.body fit.items_fit h k
