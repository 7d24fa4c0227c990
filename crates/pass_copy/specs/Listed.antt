-- The names of values in the order of their labels, as programs list them, and where fresh names are sought.
use Rattle.std.specs.Prelude.{ℕ, ◌+◌, ◌-◌, List, [], ◌∷◌, ◌++◌, length, map, min, replicate, zero, suc}
use Rattle.std.specs.Borrow.{Bor}
use Rattle.mlir_ir.specs.declared.types.Arg.{Arg}
use Rattle.mlir_ir.specs.declared.types.Pack.{Pack}
use Rattle.mlir_ir.specs.Operations.{OpKind, Simple, If, For, While, OpList, nil, next}
use Rattle.pass_copy.specs.Fresh.{free_number}

abbrev pub texts : List (Bor (List ℕ)) → List (List ℕ)
texts names = map (λ (name : Bor (List ℕ)). name.now) names

-- the first number that is tried for fresh name number k of a function with these names
abbrev pub start : List (List ℕ) → ℕ → ℕ
start names zero = 0
start names (suc k) = free_number names k + 1

-- names as values have them, one for each value
abbrev pub arg_names : List Arg → List (List ℕ)
arg_names args = map (λ (arg : Arg). arg.name) args

-- of n results in all
abbrev pub pack_names : List Pack → ℕ → List (List ℕ)
pack_names [] n = []
pack_names (pack ∷ packs) n = replicate (min pack.count n) pack.name ++ pack_names packs (n - pack.count)

abbrev mutual
  pub listed_names : OpList → List (List ℕ)
  listed_names nil = []
  listed_names (next packs results kind rest) = inner_listed kind ++ pack_names packs (length results) ++ listed_names rest

  pub inner_listed : OpKind → List (List ℕ)
  inner_listed (Simple does) = []
  inner_listed (If c first firsts has_else other others) = listed_names first ++ listed_names other
  inner_listed (For lower upper step iv args inits body ends) = arg_names (iv ∷ args) ++ listed_names body
  inner_listed (While args inits before passed cond after_args after ends) = arg_names args ++ listed_names before ++ arg_names after_args ++ listed_names after

abbrev pub items_listed : List OpList → List (List ℕ)
items_listed [] = []
items_listed (ops ∷ items) = listed_names ops ++ items_listed items
