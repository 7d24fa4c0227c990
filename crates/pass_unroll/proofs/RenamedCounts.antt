-- How many labels and names copies have.
use Rattle.std.proofs.Common.{◌≡◌, ℕ, suc, ◌+◌, List, [], ◌∷◌, length, refl, ap}
use Rattle.mlir_ir.specs.Operations.{OpKind, Simple, If, For, While, OpList, nil, next, labels_of, inner_labels}
use Rattle.mlir_ir.specs.declared.types.Arg.{Arg}
use Rattle.mlir_ir.specs.declared.types.Pack.{Pack}
use Rattle.pass_copy.specs.Renamed.{Naming, rename_args, rename_packs, rename_ops, rename_kind, names_of, inner_names}

pub args_length : (name : Naming) (k : ℕ) (args : List Arg) → length (rename_args name k args) ≡ length args
args_length name k [] = refl
args_length name k (arg ∷ args) = ap suc (args_length name (k + 1) args)

pub packs_length : (name : Naming) (k : ℕ) (packs : List Pack) → length (rename_packs name k packs) ≡ length packs
packs_length name k [] = refl
packs_length name k (pack ∷ packs) = ap suc (packs_length name (k + 1) packs)

mutual
  pub copied_labels : (f : ℕ → ℕ) (name : Naming) (k : ℕ) (ops : OpList) → labels_of (rename_ops f name k ops) ≡ labels_of ops
  copied_labels f name k nil = refl
  copied_labels f name k (next packs results kind rest) =
      rw (kind_labels f name k kind, copied_labels f name (k + (inner_names kind + length packs)) rest) refl

  kind_labels : (f : ℕ → ℕ) (name : Naming) (k : ℕ) (kind : OpKind) → inner_labels (rename_kind f name k kind) ≡ inner_labels kind
  kind_labels f name k (Simple does) = refl
  kind_labels f name k (If c first firsts has_else other others) = rw (copied_labels f name k first, copied_labels f name (k + names_of first) other) refl
  kind_labels f name k (For lower upper step iv args inits body ends) =
      rw (args_length name (k + 1) args, copied_labels f name (k + 1 + length args) body) refl
  kind_labels f name k (While args inits before passed cond after_args after ends) =
      rw (
        args_length name k args,
        copied_labels f name (k + length args) before,
        args_length name (k + length args + names_of before) after_args,
        copied_labels f name (k + length args + names_of before + length after_args) after,
      ) refl

mutual
  pub copied_names : (f : ℕ → ℕ) (name : Naming) (k : ℕ) (ops : OpList) → names_of (rename_ops f name k ops) ≡ names_of ops
  copied_names f name k nil = refl
  copied_names f name k (next packs results kind rest) =
      rw (kind_names f name k kind, packs_length name (k + inner_names kind) packs, copied_names f name (k + (inner_names kind + length packs)) rest) refl

  kind_names : (f : ℕ → ℕ) (name : Naming) (k : ℕ) (kind : OpKind) → inner_names (rename_kind f name k kind) ≡ inner_names kind
  kind_names f name k (Simple does) = refl
  kind_names f name k (If c first firsts has_else other others) = rw (copied_names f name k first, copied_names f name (k + names_of first) other) refl
  kind_names f name k (For lower upper step iv args inits body ends) =
      rw (args_length name (k + 1) args, copied_names f name (k + 1 + length args) body) refl
  kind_names f name k (While args inits before passed cond after_args after ends) =
      rw (
        args_length name k args,
        copied_names f name (k + length args) before,
        args_length name (k + length args + names_of before) after_args,
        copied_names f name (k + length args + names_of before + length after_args) after,
      ) refl
