-- The names of arguments and results, over the lists that define them.
use Rattle.std.proofs.Common.{◌≡◌, ℕ, ◌+◌, ◌&&◌, ◌||◌, Bool, true, false, List, [], ◌∷◌, ◌++◌, length, take, drop, refl, ◌∙◌, arith, nat_lt, zero, suc, length-drop}
use Rattle.std.proofs.lemmas.List.Folds.{list_any-append}
use Rattle.std.proofs.lemmas.Bool.Decides.{nat_tests}
use Rattle.std.specs.Str.{bytes_eq}
use Rattle.mlir_ir.specs.declared.types.Arg.{Arg}
use Rattle.mlir_ir.specs.declared.types.IrType.{IrType}
use Rattle.mlir_ir.specs.declared.types.Item.{Item}
use Rattle.mlir_ir.specs.declared.types.Op.{Op}
use Rattle.mlir_ir.specs.declared.types.Pack.{Pack}
use Rattle.mlir_ir.specs.Check.{results_of, op_results, items_results}
use Rattle.arith_word.specs.Labels.{label_at}
use Rattle.mlir_ir.specs.Labels.{kind_labels, op_labels}
use Rattle.mlir_ir.specs.Rules.{has_name}
use Rattle.mlir_ir.specs.Scope.{packs_name, args_name, ops_name, items_name}
use Rattle.mlir_ir.specs.Values.{Value, arg_values, pack_values, result_values}

module _ (name : List ℕ) where
  pub has_name_append : (xs ys : List Value) → has_name (xs ++ ys) name ≡ (has_name xs name || has_name ys name)
  has_name_append xs ys = list_any-append (λ (v : Value). bytes_eq v.name name) xs ys

  pub has_name_args : (at : ℕ) (args : List Arg) → has_name (arg_values at args) name ≡ args_name args name
  has_name_args at [] = refl
  has_name_args at (arg ∷ args) = rw (has_name_args (at + 1) args) refl

  or_same : (b : Bool) → (b || b) ≡ b
  or_same true = refl
  or_same false = refl

  positive : (n : ℕ) → nat_lt 0 (suc n) ≡ true
  positive n = grind (arith, nat_tests)

  pack_name : (at : ℕ) (pack : Pack) (place : ℕ) (tys : List IrType) → has_name (pack_values at pack place tys) name ≡ (nat_lt 0 (length tys) && bytes_eq pack.name name)
  pack_name at pack place [] = refl
  pack_name at pack place (ty ∷ []) = elim (bytes_eq pack.name name) as (λ b. (b || false) ≡ b) [ true ↦ refl | false ↦ refl ]
  pack_name at pack place (ty ∷ other ∷ tys) =
      rw (pack_name (at + 1) pack (place + 1) (other ∷ tys), positive (length tys), positive (suc (length tys))) (or_same (bytes_eq pack.name name))

  some_taken : (n : ℕ) (tys : List IrType) (b : Bool) → (nat_lt 0 (length (take n tys)) && b) ≡ (nat_lt 0 n && nat_lt 0 (length tys) && b)
  some_taken zero tys b = refl
  some_taken (suc n) [] b = rw (positive n) refl
  some_taken (suc n) (ty ∷ tys) b = rw (positive n, positive (length tys), positive (length (take n tys))) refl

  pub has_name_results : (at : ℕ) (packs : List Pack) (tys : List IrType) → has_name (result_values at packs tys) name ≡ packs_name packs (length tys) name
  has_name_results at [] tys = refl
  has_name_results at (pack ∷ packs) tys =
      has_name_append (pack_values at pack 0 (take pack.count tys)) _
      ∙ rw (pack_name at pack 0 (take pack.count tys), some_taken pack.count tys (bytes_eq pack.name name), has_name_results (at + pack.count) packs (drop pack.count tys), length-drop) refl

  pub has_name_ops : (at : ℕ) (ops : List Op) → has_name (results_of at ops) name ≡ ops_name ops name
  has_name_ops at [] = refl
  has_name_ops at (op ∷ ops) =
      has_name_append (op_results at op) (results_of (at + op_labels op) ops)
      ∙ rw (has_name_results (at + kind_labels op.kind) op.packs op.results, has_name_ops (at + op_labels op) ops) refl

  pub has_name_items : (func k : ℕ) (items : List Item) → has_name (items_results func k items) name ≡ items_name items name
  has_name_items func k [] = refl
  has_name_items func k (item ∷ items) =
      has_name_append (results_of (label_at func k 0) item.ops) (items_results func (k + 1) items)
      ∙ rw (has_name_ops (label_at func k 0) item.ops, has_name_items func (k + 1) items) refl
