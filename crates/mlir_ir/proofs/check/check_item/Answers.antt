use Rattle.std.proofs.Common.{arith, ◌≡◌, ◌≤◌, ◌∙◌, sym, subst, ◌<◌, ◌-◌, ℕ, nat_le, true}
use Rattle.mlir_ir.specs.Labels.{ops_labels}
use Rattle.mlir_ir.specs.Limits.{item_limit, label_limit, region_limit}
use Rattle.mlir_ir.specs.Within.{ops_labels_within}
use Rattle.std.proofs.lemmas.Bool.{leb-true}
use Rattle.mlir_ir.proofs.WithinRegions.{ops_found}
use Rattle.mlir_ir.proofs.check.check_item.Goals as goal
use Rattle.mlir_ir.proofs.check.check_item.Goals.{then-number-le-ITEM_LIMIT, else-number-le-ITEM_LIMIT}

beyond : (n : ℕ) → nat_le n item_limit ≡ true → item_limit < n → ⊥
beyond n e l = let h = leb-true n item_limit e in omega arith

pub returns-in_ok-check_ops-clause-few : goal.returns-in_ok-check_ops-clause-few
returns-in_ok-check_ops-clause-few c =
    let ops = c.as_slice-ops.result.now in
    let whole : ops_labels_within (region_limit - 1) ops ≡ ops_labels ops = ops_found _ _ _ _ c.in_ok-check_ops.ensures.found in
    elim c.if-number-le-ITEM_LIMIT.branch [
      | then-number-le-ITEM_LIMIT w ↦
          let few : nat_le (ops_labels_within (region_limit - 1) ops) label_limit ≡ true = sym w.are_few.ensures ∙ (sym w.nest-is ∙ c.if-nest.true) in
          let l = leb-true (ops_labels_within (region_limit - 1) ops) label_limit few in
          let n = w.if-number-le-ITEM_LIMIT.true in
          (subst (λ os. ops_labels os ≤ label_limit) c.as_slice-ops.ensures (omega (arith, l, whole)), λ beyond. absurd (omega arith))
      | else-number-le-ITEM_LIMIT w ↦ absurd (beyond c.args.number (sym w.nest-is ∙ c.if-nest.true) w.if-number-le-ITEM_LIMIT.false)
    ]
