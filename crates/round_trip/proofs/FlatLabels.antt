-- Other labels for uses leave the labels and the values of operations as they are.
use Rattle.std.proofs.Common.{◌≡◌, ℕ, ◌+◌, ◌++◌, refl, ◌∙◌, length, arith}
use Rattle.mlir_ir.specs.Check.{row_results}
use Rattle.mlir_ir.specs.Labels.{kind_labels, row_labels}
use Rattle.mlir_ir.specs.Operations.{labels_of, inner_labels}
use Rattle.mlir_ir.specs.Resolved.{values_of}
use Rattle.mlir_ir.specs.Values.{result_values}
use Rattle.mlir_ir.specs.View.{view_row, view_kind}
use Rattle.mlir_ir.specs.declared.types.Region.{Region', Row_of-Op, end_of-Op, more_of-Op}
use Rattle.mlir_ir.specs.declared.types.Kind.{Kind, Const, Bin, Cast, Cmp, Select, Call, If', For, While, None', Some'}
use Rattle.mlir_ir.specs.declared.types.ForParts.{ForParts'}
use Rattle.mlir_ir.specs.declared.types.WhileParts.{WhileParts'}
use Rattle.round_trip.specs.Flat.{other_ops, other_kind}

mutual
  pub row_labels_stay : (other : ℕ → ℕ) (n : _) (row : Row_of-Op n) → labels_of (other_ops other (view_row row)) ≡ row_labels row
  row_labels_stay other n end_of-Op = refl
  row_labels_stay other n (more_of-Op packs results kind rest) = λ i. kind_labels_stay other kind i + length results + row_labels_stay other _ rest i

  pub kind_labels_stay : (other : ℕ → ℕ) (kind : Kind) → inner_labels (other_kind other (view_kind kind)) ≡ kind_labels kind
  kind_labels_stay other (Const v) = refl
  kind_labels_stay other (Bin op flags a b) = refl
  kind_labels_stay other (Cast op flags a) = refl
  kind_labels_stay other (Cmp pred a b) = refl
  kind_labels_stay other (Select c a b) = refl
  kind_labels_stay other (Call func uses) = refl
  kind_labels_stay other (If' c (Region' shape row ends) None') = λ i. row_labels_stay other _ row i + 0
  kind_labels_stay other (If' c (Region' shape row ends) (Some' (Region' shape2 row2 ends2))) = λ i. row_labels_stay other _ row i + row_labels_stay other _ row2 i
  kind_labels_stay other (For (ForParts' lower upper step iv args inits (Region' shape row ends))) = λ i. 2 + length args + row_labels_stay other _ row i
  kind_labels_stay other (While (WhileParts' args inits (Region' shape row passed) cond after_args (Region' shape2 row2 ends))) =
      λ i. 1 + length args + row_labels_stay other _ row i + length after_args + row_labels_stay other _ row2 i

one_sum : (at a b : ℕ) → at + (a + b) ≡ at + a + b
one_sum at a b = omega arith

pub row_values_stay : (other : ℕ → ℕ) (n : _) (row : Row_of-Op n) (at : ℕ) → values_of at (other_ops other (view_row row)) ≡ row_results at row
row_values_stay other n end_of-Op at = refl
row_values_stay other n (more_of-Op packs results kind rest) at =
    (λ i. result_values (at + kind_labels_stay other kind i) packs results ++ values_of (at + (kind_labels_stay other kind i + length results)) (other_ops other (view_row rest)))
    ∙ (λ i. result_values (at + kind_labels kind) packs results ++ values_of (one_sum at (kind_labels kind) (length results) i) (other_ops other (view_row rest)))
    ∙ (λ i. result_values (at + kind_labels kind) packs results ++ row_values_stay other _ rest (at + kind_labels kind + length results) i)
