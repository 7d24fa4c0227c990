-- Renamed operations have as many labels and arguments of the same types, and names may stay.
use Rattle.std.proofs.Common.{◌≡◌, ℕ, ◌+◌, List, [], ◌∷◌, length, refl, ap}
use Rattle.arith_word.specs.declared.label.Label.{Label}
use Rattle.mlir_ir.specs.declared.types.Arg.{Arg}
use Rattle.mlir_ir.specs.declared.types.Pack.{Pack}
use Rattle.mlir_ir.specs.Rules.{arg_types}
use Rattle.mlir_ir.specs.Operations.{OpKind, Simple, If, For, While, OpList, nil, next, labels_of, inner_labels}
use Rattle.pass_copy.specs.Renamed.{relabels, Naming, keep, rename_args, rename_packs, rename_ops, rename_kind, names_of, inner_names}

-- lengths and types

pub relabels_length : (f : ℕ → ℕ) (ls : List Label) → length (relabels f ls) ≡ length ls
relabels_length f [] = refl
relabels_length f (l ∷ ls) = rw (relabels_length f ls) refl

pub rename_args_length : (name : Naming) (k : ℕ) (args : List Arg) → length (rename_args name k args) ≡ length args
rename_args_length name k [] = refl
rename_args_length name k (arg ∷ args) = rw (rename_args_length name (k + 1) args) refl

pub types_args : (name : Naming) (k : ℕ) (args : List Arg) → arg_types (rename_args name k args) ≡ arg_types args
types_args name k [] = refl
types_args name k (arg ∷ args) = rw (types_args name (k + 1) args) refl

pub arg_types_length : (args : List Arg) → length (arg_types args) ≡ length args
arg_types_length [] = refl
arg_types_length (arg ∷ args) = rw (arg_types_length args) refl

-- labels

module _ (f : ℕ → ℕ) (name : Naming) where
  mutual
    pub rename_labels : (k : ℕ) (ops : OpList) → labels_of (rename_ops f name k ops) ≡ labels_of ops
    rename_labels k nil = refl
    rename_labels k (next packs results kind rest) = rw (rename_inner_labels k kind, rename_labels (k + (inner_names kind + length packs)) rest) refl

    pub rename_inner_labels : (k : ℕ) (kind : OpKind) → inner_labels (rename_kind f name k kind) ≡ inner_labels kind
    rename_inner_labels k (Simple does) = refl
    rename_inner_labels k (If c first firsts has_else other others) = rw (rename_labels k first, rename_labels (k + names_of first) other) refl
    rename_inner_labels k (For lower upper step iv args inits body ends) = rw (rename_args_length name (k + 1) args, rename_labels (k + 1 + length args) body) refl
    rename_inner_labels k (While args inits before passed cond after_args after ends) =
        rw (rename_args_length name k args, rename_labels (k + length args) before, rename_args_length name (k + length args + names_of before) after_args, rename_labels (k + length args + names_of before + length after_args) after)
        refl

-- each label and each name as it is

abbrev pub same : ℕ → ℕ
same l = l

pub kept_args : (k : ℕ) (args : List Arg) → rename_args keep k args ≡ args
kept_args k [] = refl
kept_args k (arg ∷ args) = ap (λ xs. arg ∷ xs) (kept_args (k + 1) args)

pub kept_packs : (k : ℕ) (packs : List Pack) → rename_packs keep k packs ≡ packs
kept_packs k [] = refl
kept_packs k (pack ∷ packs) = ap (λ xs. pack ∷ xs) (kept_packs (k + 1) packs)
