-- Where a loop stands: within the labels of the operations around it.
use Rattle.std.proofs.Common.{◌≡◌, ℕ, ◌+◌, ◌<◌, ◌≤◌, inl, inr, true, List, [], ◌∷◌, length, arith}
use Rattle.arith_word.specs.Labels.{label_at}
use Rattle.mlir_ir.specs.Operations.{OpKind, Simple, If, For, While, OpList, nil, next, labels_of, inner_labels}
use Rattle.mlir_ir.specs.Sized.{SizedItems}
use Rattle.fresh_scev.proofs.FittingLabels.{item_ends}
use Rattle.pass_copy.specs.Replaced.{Operation, is_loop, StandsIn, StandsInside, StandsInItems}

-- a loop takes a label besides those of its results
pub loop_some : (kind : OpKind) → is_loop kind ≡ true → 1 ≤ inner_labels kind
loop_some (Simple does) e = absurd cc
loop_some (If c first firsts has_else other others) e = absurd cc
loop_some (For lower upper step iv args inits body ends) e = omega arith
loop_some (While args inits before passed cond after_args after ends) e = omega arith

module _ (t : ℕ) (o : Operation) where
  mutual
    pub stands_within : (at : ℕ) (ops : OpList) → StandsIn t o at ops → (at ≤ t) × (t < at + labels_of ops)
    stands_within at nil h = absurd h
    stands_within at (next packs results kind rest) (inl h) =
        let g = loop_some kind h.1 in
        (omega (arith, h.0), omega (arith, h.0, g))
    stands_within at (next packs results kind rest) (inr (inl h)) =
        let g = inside_within at kind h in
        (g.0, omega (arith, g.1))
    stands_within at (next packs results kind rest) (inr (inr h)) =
        let g = stands_within (at + (inner_labels kind + length results)) rest h in
        (omega (arith, g.0), omega (arith, g.1))

    pub inside_within : (at : ℕ) (kind : OpKind) → StandsInside t o at kind → (at ≤ t) × (t < at + inner_labels kind)
    inside_within at (Simple does) h = absurd h
    inside_within at (If c first firsts has_else other others) (inl h) =
        let g = stands_within at first h in
        (g.0, omega (arith, g.1))
    inside_within at (If c first firsts has_else other others) (inr h) =
        let g = stands_within (at + labels_of first) other h in
        (omega (arith, g.0), omega (arith, g.1))
    inside_within at (For lower upper step iv args inits body ends) h =
        let g = stands_within (at + 2 + length args) body h in
        (omega (arith, g.0), omega (arith, g.1))
    inside_within at (While args inits before passed cond after_args after ends) (inl h) =
        let g = stands_within (at + 1 + length args) before h in
        (omega (arith, g.0), omega (arith, g.1))
    inside_within at (While args inits before passed cond after_args after ends) (inr h) =
        let g = stands_within (at + 1 + length args + labels_of before + length after_args) after h in
        (omega (arith, g.0), omega (arith, g.1))

  -- items begin at their labels
  pub items_within : (func k : ℕ) (items : List OpList) → SizedItems items → StandsInItems t o func k items
      → label_at func k 0 ≤ t
  items_within func k [] sized h = absurd h
  items_within func k (ops ∷ items) sized (inl h) = (stands_within (label_at func k 0) ops h).0
  items_within func k (ops ∷ items) sized (inr h) =
      let g = items_within func (k + 1) items sized.1 h in
      let e = item_ends func k ops sized.0.labels in
      omega (arith, g, e)
