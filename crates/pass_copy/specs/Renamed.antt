-- Operations with other labels for their uses, and other names: name number k in the order of labels is given by `name`.
use Rattle.std.specs.Prelude.{ℕ, ◌+◌, List, [], ◌∷◌, length}
use Rattle.arith_word.specs.declared.label.Label.{Label}
use Rattle.mlir_ir.specs.declared.types.Arg.{Arg}
use Rattle.mlir_ir.specs.declared.types.Pack.{Pack}
use Rattle.mlir_ir.specs.Operations.{SimpleOp, Const, Bin, Cast, Cmp, Select, Call, OpKind, Simple, If, For, While, OpList, nil, next}

-- how many names are defined
abbrev mutual
  pub names_of : OpList → ℕ
  names_of nil = 0
  names_of (next packs results kind rest) = inner_names kind + length packs + names_of rest

  -- by an operation besides its results
  pub inner_names : OpKind → ℕ
  inner_names (Simple does) = 0
  inner_names (If c first firsts has_else other others) = names_of first + names_of other
  inner_names (For lower upper step iv args inits body ends) = 1 + length args + names_of body
  inner_names (While args inits before passed cond after_args after ends) = length args + names_of before + length after_args + names_of after

abbrev pub relabel : (ℕ → ℕ) → Label → Label
relabel f l = record { 0 = f l.0 }

abbrev pub relabels : (ℕ → ℕ) → List Label → List Label
relabels f [] = []
relabels f (l ∷ ls) = relabel f l ∷ relabels f ls

-- the name that stands for name number k
abbrev pub Naming : Type 0
Naming = ℕ → List ℕ → List ℕ

-- each name as it is
abbrev pub keep : Naming
keep k name = name

-- fresh names by their numbers
abbrev pub anew : (ℕ → List ℕ) → Naming
anew fresh k name = fresh k

abbrev pub rename_arg : Naming → ℕ → Arg → Arg
rename_arg name k arg = record { name = name k arg.name; ty = arg.ty }

abbrev pub rename_args : Naming → ℕ → List Arg → List Arg
rename_args name k [] = []
rename_args name k (arg ∷ args) = rename_arg name k arg ∷ rename_args name (k + 1) args

abbrev pub rename_packs : Naming → ℕ → List Pack → List Pack
rename_packs name k [] = []
rename_packs name k (pack ∷ packs) = record { name = name k pack.name; count = pack.count } ∷ rename_packs name (k + 1) packs

abbrev pub rename_simple : (ℕ → ℕ) → SimpleOp → SimpleOp
rename_simple f (Const v) = Const v
rename_simple f (Bin op flags a b) = Bin op flags (relabel f a) (relabel f b)
rename_simple f (Cast op flags a) = Cast op flags (relabel f a)
rename_simple f (Cmp pred a b) = Cmp pred (relabel f a) (relabel f b)
rename_simple f (Select c a b) = Select (relabel f c) (relabel f a) (relabel f b)
rename_simple f (Call func passed) = Call func (relabels f passed)

abbrev mutual
  pub rename_ops : (ℕ → ℕ) → Naming → ℕ → OpList → OpList
  rename_ops f name k nil = nil
  rename_ops f name k (next packs results kind rest) =
      next (rename_packs name (k + inner_names kind) packs) results (rename_kind f name k kind)
      (rename_ops f name (k + (inner_names kind + length packs)) rest)

  pub rename_kind : (ℕ → ℕ) → Naming → ℕ → OpKind → OpKind
  rename_kind f name k (Simple does) = Simple (rename_simple f does)
  rename_kind f name k (If c first firsts has_else other others) =
      If (relabel f c) (rename_ops f name k first) (relabels f firsts) has_else (rename_ops f name (k + names_of first) other) (relabels f others)
  rename_kind f name k (For lower upper step iv args inits body ends) =
      For (relabel f lower) (relabel f upper) (relabel f step) (rename_arg name k iv) (rename_args name (k + 1) args) (relabels f inits)
      (rename_ops f name (k + 1 + length args) body) (relabels f ends)
  rename_kind f name k (While args inits before passed cond after_args after ends) =
      While (rename_args name k args) (relabels f inits) (rename_ops f name (k + length args) before) (relabels f passed) (relabel f cond)
      (rename_args name (k + length args + names_of before) after_args)
      (rename_ops f name (k + length args + names_of before + length after_args) after) (relabels f ends)
