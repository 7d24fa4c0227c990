-- Operations whose values are named apart: a name is well formed, and no other value in scope has it.
use Rattle.std.specs.Prelude.{ℕ, ◌≡◌, ◌==◌, ◌&&◌, ◌||◌, not, Bool, true, false, List, [], ◌∷◌, length}
use Rattle.std.specs.List.{list_any}
use Rattle.std.specs.Str.{bytes_eq}
use Rattle.mlir_ir.specs.declared.types.Arg.{Arg}
use Rattle.mlir_ir.specs.declared.types.Pack.{Pack}
use Rattle.mlir_ir.specs.Names.{is_name}
use Rattle.mlir_ir.specs.Operations.{OpKind, Simple, If, For, While, OpList, nil, next}

-- whether a value with that name is in scope
abbrev pub Names : Type 0
Names = List ℕ → Bool

-- a scope with the names of these results besides
abbrev pub with_packs : Names → List Pack → Names
with_packs N packs name = N name || list_any (λ (pack : Pack). bytes_eq pack.name name) packs

abbrev pub with_args : Names → List Arg → Names
with_args N args name = N name || list_any (λ (arg : Arg). bytes_eq arg.name name) args

-- whether a value may be defined with that name
abbrev pub free : Names → List ℕ → Bool
free N name = is_name name && not (N name)

-- whether the packs of one operation may have their names, which differ too
abbrev pub all_free : Names → List Pack → Bool
all_free N [] = true
all_free N (pack ∷ packs) = free N pack.name && not (list_any (λ (other : Pack). bytes_eq other.name pack.name) packs) && all_free N packs

abbrev pub NamedArgs : Names → List Arg → Type 0
NamedArgs N [] = Unit {0}
NamedArgs N (arg ∷ args) = (free N arg.name ≡ true) × NamedArgs (with_args N (arg ∷ [])) args

-- the arguments of a declaration, whose names may be empty
abbrev pub NamedDeclared : Names → List Arg → Type 0
NamedDeclared N [] = Unit {0}
NamedDeclared N (arg ∷ args) = ((free N arg.name || length arg.name == 0) ≡ true) × NamedDeclared (with_args N (arg ∷ [])) args

abbrev mutual
  pub NamedOps : Names → OpList → Type 0
  NamedOps N nil = Unit {0}
  NamedOps N (next packs results kind rest) = (all_free N packs ≡ true) × NamedRegions N kind × NamedOps (with_packs N packs) rest

  -- what stands in the regions of an operation
  pub NamedRegions : Names → OpKind → Type 0
  NamedRegions N (Simple does) = Unit {0}
  NamedRegions N (If c first firsts has_else other others) = NamedOps N first × NamedOps N other
  NamedRegions N (For lower upper step iv args inits body ends) =
      NamedArgs N (iv ∷ []) × NamedArgs (with_args N (iv ∷ [])) args × NamedOps (with_args (with_args N (iv ∷ [])) args) body
  NamedRegions N (While args inits before passed cond after_args after ends) =
      NamedArgs N args × NamedOps (with_args N args) before × NamedArgs N after_args × NamedOps (with_args N after_args) after

-- the names after operations
abbrev pub names_after : Names → OpList → Names
names_after N nil = N
names_after N (next packs results kind rest) = names_after (with_packs N packs) rest

abbrev pub NamedItems : Names → List OpList → Type 0
NamedItems N [] = Unit {0}
NamedItems N (ops ∷ items) = NamedOps N ops × NamedItems (names_after N ops) items

abbrev pub unnamed : Names
unnamed name = false

-- a function with a body: its arguments and its items
pub record NamedBody (args : List Arg) (items : List OpList) : Type 0 where
  pub args_named : NamedArgs unnamed args
  pub inside : NamedItems (with_args unnamed args) items
