-- Well-typed operations: uses are in scope, types agree, and lists have the lengths that belong together. Names have no part in it.
use Rattle.std.specs.Prelude.{ℕ, ◌≡◌, ◌+◌, ◌==◌, ◌&&◌, ◌||◌, not, Bool, true, List, [], ◌∷◌, length, nat_lt, Option, Some, None, if◌then◌else◌}
use Rattle.std.specs.List.{list_all}
use Rattle.std.specs.Option.{is_some, option_map_or, option_or}
use Rattle.arith_word.specs.declared.label.Label.{Label}
use Rattle.arith_word.specs.declared.op.CastOp.{CastOp}
use Rattle.mlir_ir.specs.declared.types.Arg.{Arg}
use Rattle.mlir_ir.specs.declared.types.IrType.{IrType}
use Rattle.mlir_ir.specs.declared.types.Pack.{Pack}
use Rattle.mlir_ir.specs.Rules.{same_type, same_types, arg_types, truth, may_wrap, may_lose, has_flags, casts, gives_number, packs_hold}
use Rattle.arith_word.specs.Labels.{label_at}
use Rattle.mlir_ir.specs.Operations.{SimpleOp, Const, Bin, Cast, Cmp, Select, Call, OpKind, Simple, If, For, While, OpList, nil, next, labels_of, inner_labels}

-- the type of each label in scope
abbrev pub Types : Type 0
Types = ℕ → Option IrType

-- labels from `at` on with these types
abbrev pub typed_from : ℕ → List IrType → Types
typed_from at [] l = None
typed_from at (ty ∷ tys) l = if at == l then Some ty else typed_from (at + 1) tys l

-- a scope with these besides
abbrev pub with_types : Types → ℕ → List IrType → Types
with_types T at tys l = option_or (T l) (typed_from at tys l)

-- uses and types

abbrev pub knows : Types → Label → Bool
knows T l = is_some (T l.0)

-- whether a use has that type; one that is out of scope has every type
abbrev pub fits : Types → IrType → Label → Bool
fits T ty l = option_map_or (same_type ty) (T l.0) true

-- whether two uses have one type
abbrev pub alike : Types → Label → Label → Bool
alike T a b = option_map_or (λ ty. fits T ty b) (T a.0) true

-- whether uses have the types that belong to them, as far as both lists go
abbrev pub all_fit : Types → List IrType → List Label → Bool
all_fit T (ty ∷ tys) (l ∷ ls) = fits T ty l && all_fit T tys ls
all_fit T _ _ = true

-- whether a cast of that use gives the results
abbrev pub cast_fits : Types → CastOp → Label → List IrType → Bool
cast_fits T op l [] = true
cast_fits T op l (ty ∷ tys) = option_map_or (λ from. casts op from ty) (T l.0) true

-- the values that an operation itself uses, besides those in its regions
abbrev pub simple_uses : SimpleOp → List Label
simple_uses (Const v) = []
simple_uses (Bin op flags a b) = a ∷ b ∷ []
simple_uses (Cast op flags a) = a ∷ []
simple_uses (Cmp pred a b) = a ∷ b ∷ []
simple_uses (Select c a b) = c ∷ a ∷ b ∷ []
simple_uses (Call func passed) = passed

abbrev pub uses : OpKind → List Label
uses (Simple does) = simple_uses does
uses (If c first firsts has_else other others) = c ∷ []
uses (For lower upper step iv args inits body ends) = lower ∷ upper ∷ step ∷ inits
uses (While args inits before passed cond after_args after ends) = inits

-- whether flags, operands and results fit the operation
abbrev pub simple_fits : Types → List IrType → SimpleOp → Bool
simple_fits T results (Const v) = gives_number v results
simple_fits T results (Bin op flags a b) = (may_wrap op || not (has_flags flags)) && alike T a b && all_fit T results (a ∷ [])
simple_fits T results (Cast op flags a) = (may_lose op || not (has_flags flags)) && cast_fits T op a results
simple_fits T results (Cmp pred a b) = alike T a b && same_types (truth ∷ []) results
simple_fits T results (Select c a b) = fits T truth c && alike T a b && all_fit T results (a ∷ [])
simple_fits T results (Call func passed) = true

abbrev pub kind_fits : Types → List IrType → OpKind → Bool
kind_fits T results (Simple does) = simple_fits T results does
kind_fits T results (If c first firsts has_else other others) = fits T truth c
kind_fits T results (For lower upper step iv args inits body ends) =
    list_all (fits T iv.ty) (lower ∷ upper ∷ step ∷ []) && all_fit T (arg_types args) inits && same_types (arg_types args) results
kind_fits T results (While args inits before passed cond after_args after ends) = all_fit T (arg_types args) inits

-- lengths

-- whether an operation with that number of results has lists that agree, and regions that give them
abbrev pub simple_counts : ℕ → SimpleOp → Bool
simple_counts results (Call func passed) = true
simple_counts results _ = results == 1

abbrev pub kind_counts : ℕ → OpKind → Bool
kind_counts results (Simple does) = simple_counts results does
kind_counts results (If c first firsts has_else other others) = results == 0 || nat_lt 0 (length firsts) && nat_lt 0 (length others)
kind_counts results (For lower upper step iv args inits body ends) =
    length inits == length args && length args == results && (results == 0 || nat_lt 0 (length ends))
kind_counts results (While args inits before passed cond after_args after ends) = length inits == length args && length after_args == results

-- whether a yield has as many operands as it gives values; one without operands is none
abbrev pub yields : List IrType → List Label → Bool
yields wanted ends = length ends == 0 || length ends == length wanted

-- the same of a terminator that always stands
abbrev pub passes : List IrType → List Label → Bool
passes wanted ends = length ends == length wanted

-- an operation by itself, without what stands in its regions
pub record TypedOp (T : Types) (packs : List Pack) (results : List IrType) (kind : OpKind) : Type 0 where
  pub in_scope : list_all (knows T) (uses kind) ≡ true
  pub typed : kind_fits T results kind ≡ true
  pub packed : packs_hold packs (length results) ≡ true
  pub counted : kind_counts (length results) kind ≡ true

-- a terminator that gives values of these types
pub record TypedEnd (T : Types) (wanted : List IrType) (ends : List Label) (counts : Bool) : Type 0 where
  pub in_scope : list_all (knows T) ends ≡ true
  pub typed : all_fit T wanted ends ≡ true
  pub counted : counts ≡ true

-- the scope after operations, of which the first begins with label `at`
abbrev pub types_after : Types → ℕ → OpList → Types
types_after T at nil = T
types_after T at (next packs results kind rest) = types_after (with_types T (at + inner_labels kind) results) (at + (inner_labels kind + length results)) rest

abbrev mutual
  -- operations, of which the first begins with label `at`
  pub TypedOps : Types → ℕ → OpList → Type 0
  TypedOps T at nil = Unit {0}
  TypedOps T at (next packs results kind rest) =
      TypedOp T packs results kind × TypedRegions T at results kind × TypedOps (with_types T (at + inner_labels kind) results) (at + (inner_labels kind + length results)) rest

  -- what stands in the regions of an operation that begins at label `at`
  pub TypedRegions : Types → ℕ → List IrType → OpKind → Type 0
  TypedRegions T at results (Simple does) = Unit {0}
  TypedRegions T at results (If c first firsts has_else other others) =
      TypedOps T at first × TypedEnd (types_after T at first) results firsts (yields results firsts)
      × TypedOps T (at + labels_of first) other × TypedEnd (types_after T (at + labels_of first) other) results others (yields results others)
  TypedRegions T at results (For lower upper step iv args inits body ends) =
      let U = with_types (with_types T (at + 1) (iv.ty ∷ [])) (at + 2) (arg_types args) in
      TypedOps U (at + 2 + length args) body × TypedEnd (types_after U (at + 2 + length args) body) results ends (yields results ends)
  TypedRegions T at results (While args inits before passed cond after_args after ends) =
      let U = with_types T (at + 1) (arg_types args) in
      let b = at + 1 + length args in
      let c = b + labels_of before in
      let V = with_types T c (arg_types after_args) in
      TypedOps U b before × TypedEnd (types_after U b before) (truth ∷ results) (cond ∷ passed) (passes results passed)
      × (same_types (arg_types after_args) results ≡ true)
      × TypedOps V (c + length after_args) after × TypedEnd (types_after V (c + length after_args) after) (arg_types args) ends (passes (arg_types args) ends)

-- items, which begin with their own labels

abbrev pub types_after_items : Types → ℕ → ℕ → List OpList → Types
types_after_items T func k [] = T
types_after_items T func k (ops ∷ items) = types_after_items (types_after T (label_at func k 0) ops) func (k + 1) items

-- the items of a function from number k on
abbrev pub TypedItems : Types → ℕ → ℕ → List OpList → Type 0
TypedItems T func k [] = Unit {0}
TypedItems T func k (ops ∷ items) = TypedOps T (label_at func k 0) ops × TypedItems (types_after T (label_at func k 0) ops) func (k + 1) items

abbrev pub untyped : Types
untyped l = None

-- the scope of a function's arguments
abbrev pub args_typed : ℕ → List Arg → Types
args_typed func args = with_types untyped (label_at func 0 0) (arg_types args)

-- the body of a function: its items, and the values that it returns
pub record TypedBody (func : ℕ) (args : List Arg) (results : List IrType) (items : List OpList) (ret : List Label) : Type 0 where
  pub inside : TypedItems (args_typed func args) func 1 items
  pub returned : TypedEnd (types_after_items (args_typed func args) func 1 items) results ret (passes results ret)
