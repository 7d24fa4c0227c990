-- What a well-formed function keeps at each of its places: in its head, an argument, an operation, a terminator.
use Rattle.std.specs.Prelude.{ℕ, ◌==◌, ◌^◌, ◌&&◌, ◌||◌, not, Bool, true, false, List, [], ◌∷◌, length, map, nat_le, nat_lt, ◌-◌}
use Rattle.std.specs.List.{list_all, list_any}
use Rattle.std.specs.Option.{is_some, option_map_or}
use Rattle.std.specs.Str.{bytes_eq}
use Rattle.arith_word.specs.declared.label.Label.{Label}
use Rattle.arith_word.specs.declared.op.BinOp.{BinOp}
use Rattle.arith_word.specs.declared.op.BinOp.TheVariants.{Addi, Subi, Muli, Shli}
use Rattle.arith_word.specs.declared.op.CastOp.{CastOp}
use Rattle.arith_word.specs.declared.op.CastOp.TheVariants.{Extsi, IndexCast, Extui, IndexCastui, Trunci}
use Rattle.mlir_ir.specs.declared.types.Arg.{Arg}
use Rattle.mlir_ir.specs.declared.types.Flags.{Flags}
use Rattle.mlir_ir.specs.declared.types.Func.{Func}
use Rattle.mlir_ir.specs.declared.types.IrType.{IrType}
use Rattle.mlir_ir.specs.declared.types.IrType.TheVariants.{Int, Index}
use Rattle.mlir_ir.specs.declared.types.Pack.{Pack}
use Rattle.mlir_ir.specs.declared.types.Region.{Region, Region'}
use Rattle.mlir_ir.specs.declared.types.Kind.{Kind, Const, Bin, Cast, Cmp, Select, Call, If', For, While, Held-Kind-If-2, None', Some'}
use Rattle.mlir_ir.specs.declared.types.ForParts.{ForParts, ForParts'}
use Rattle.mlir_ir.specs.declared.types.WhileParts.{WhileParts, WhileParts'}
use Rattle.mlir_ir.specs.declared.rules.Nest.{Nest}
use Rattle.mlir_ir.specs.declared.rules.Position.{Position}
use Rattle.mlir_ir.specs.declared.rules.Rules.{Rules}
use Rattle.mlir_ir.specs.Limits.{op_limit, item_limit, arg_limit, result_limit, region_limit, loop_limit, name_limit}
use Rattle.mlir_ir.specs.Names.{is_name}
use Rattle.mlir_ir.specs.Values.{Value, type_at}
use Rattle.mlir_ir.specs.Words.{bits_of}

-- names

abbrev pub has_name : List Value → List ℕ → Bool
has_name scope name = list_any (λ v. bytes_eq v.name name) scope

-- whether a value may be defined with that name
abbrev pub is_free : List Value → List ℕ → Bool
is_free scope name = is_name name && not (has_name scope name)

abbrev pub is_short : List ℕ → Bool
is_short name = nat_le (length name) name_limit

-- whether the packs of one operation may have their names, which differ too
abbrev pub are_free : List Value → List Pack → Bool
are_free scope [] = true
are_free scope (pack ∷ packs) = is_free scope pack.name && not (list_any (λ other. bytes_eq other.name pack.name) packs) && are_free scope packs

-- uses and types

abbrev pub is_in_scope : List Value → Label → Bool
is_in_scope scope label = is_some (type_at scope label.0)

abbrev pub are_in_scope : List Value → List Label → Bool
are_in_scope scope labels = list_all (is_in_scope scope) labels

abbrev pub same_type : IrType → IrType → Bool
same_type (Int a) (Int b) = a == b
same_type Index Index = true
same_type _ _ = false

-- whether a use has that type; one that is out of scope has every type
abbrev pub has_type : List Value → IrType → Label → Bool
has_type scope ty label = option_map_or (same_type ty) (type_at scope label.0) true

-- whether two uses have one type
abbrev pub agree : List Value → Label → Label → Bool
agree scope a b = option_map_or (λ ty. has_type scope ty b) (type_at scope a.0) true

-- whether uses have the types that belong to them, as far as both lists go
abbrev pub have_types : List Value → List IrType → List Label → Bool
have_types scope (ty ∷ tys) (label ∷ labels) = has_type scope ty label && have_types scope tys labels
have_types scope _ _ = true

abbrev pub same_types : List IrType → List IrType → Bool
same_types (a ∷ tys) (b ∷ others) = same_type a b && same_types tys others
same_types _ _ = true

abbrev pub arg_types : List Arg → List IrType
arg_types args = map (λ arg. arg.ty) args

abbrev pub truth : IrType
truth = Int 1

-- operations

abbrev pub may_wrap : BinOp → Bool
may_wrap Addi = true
may_wrap Subi = true
may_wrap Muli = true
may_wrap Shli = true
may_wrap _ = false

abbrev pub may_lose : CastOp → Bool
may_lose Trunci = true
may_lose _ = false

abbrev pub has_flags : Flags → Bool
has_flags flags = flags.nsw || flags.nuw

-- whether a cast leads from the first type to the second
abbrev pub casts : CastOp → IrType → IrType → Bool
casts Extsi (Int a) (Int b) = nat_lt a b
casts Extui (Int a) (Int b) = nat_lt a b
casts Trunci (Int a) (Int b) = nat_lt b a
casts IndexCast (Int a) Index = true
casts IndexCast Index (Int b) = true
casts IndexCastui (Int a) Index = true
casts IndexCastui Index (Int b) = true
casts _ _ _ = false

abbrev pub for_operands : ForParts → List Label
for_operands (ForParts' lower upper step iv args inits body) = lower ∷ upper ∷ step ∷ inits

abbrev pub while_operands : WhileParts → List Label
while_operands (WhileParts' args inits before cond after_args after) = inits

-- the values that an operation itself uses, besides those in its regions
abbrev pub operands : Kind → List Label
operands (Const v) = []
operands (Bin op flags a b) = a ∷ b ∷ []
operands (Cast op flags a) = a ∷ []
operands (Cmp pred a b) = a ∷ b ∷ []
operands (Select c a b) = c ∷ a ∷ b ∷ []
operands (Call func uses) = uses
operands (If' c first other) = c ∷ []
operands (For parts) = for_operands parts
operands (While parts) = while_operands parts

-- whether the results have the type of that use
abbrev pub gives_type_of : List Value → Label → List IrType → Bool
gives_type_of scope label results = have_types scope results (label ∷ [])

-- whether a cast of that use gives the results
abbrev pub gives_cast : List Value → CastOp → Label → List IrType → Bool
gives_cast scope op label [] = true
gives_cast scope op label (ty ∷ tys) = option_map_or (λ from. casts op from ty) (type_at scope label.0) true

-- whether the literal is a number of the results' width
abbrev pub gives_number : ℕ → List IrType → Bool
gives_number v [] = true
gives_number v (ty ∷ tys) = nat_lt v (2 ^ bits_of ty)

-- bounds and step have the induction variable's type, first values those of the arguments, which are the results'
abbrev pub is_for_typed : List Value → List IrType → ForParts → Bool
is_for_typed scope results (ForParts' lower upper step iv args inits body) =
    list_all (has_type scope iv.ty) (lower ∷ upper ∷ step ∷ []) && have_types scope (arg_types args) inits && same_types (arg_types args) results

abbrev pub is_while_typed : List Value → WhileParts → Bool
is_while_typed scope (WhileParts' args inits before cond after_args after) = have_types scope (arg_types args) inits

-- whether flags, operands and results fit the operation
abbrev pub is_kind_typed : List Value → List IrType → Kind → Bool
is_kind_typed scope results (Const v) = gives_number v results
is_kind_typed scope results (Bin op flags a b) = (may_wrap op || not (has_flags flags)) && agree scope a b && gives_type_of scope a results
is_kind_typed scope results (Cast op flags a) = (may_lose op || not (has_flags flags)) && gives_cast scope op a results
is_kind_typed scope results (Cmp pred a b) = agree scope a b && same_types (truth ∷ []) results
is_kind_typed scope results (Select c a b) = has_type scope truth c && agree scope a b && gives_type_of scope a results
is_kind_typed scope results (Call func uses) = true
is_kind_typed scope results (If' c first other) = has_type scope truth c
is_kind_typed scope results (For parts) = is_for_typed scope results parts
is_kind_typed scope results (While parts) = is_while_typed scope parts

-- lengths

abbrev pub has_yield : Region → Bool
has_yield (Region' shape row ends) = nat_lt 0 (length ends)

abbrev pub has_else_yield : Held-Kind-If-2 → Bool
has_else_yield None' = false
has_else_yield (Some' region) = has_yield region

-- whether each pack has results, and all results are in packs
abbrev pub packs_hold : List Pack → ℕ → Bool
packs_hold [] n = n == 0
packs_hold (pack ∷ packs) n = nat_lt 0 pack.count && nat_le pack.count n && packs_hold packs (n - pack.count)

abbrev pub is_for_counted : ℕ → ForParts → Bool
is_for_counted results (ForParts' lower upper step iv args inits body) =
    length inits == length args && length args == results && (results == 0 || has_yield body)

abbrev pub is_while_counted : ℕ → WhileParts → Bool
is_while_counted results (WhileParts' args inits before cond after_args after) = length inits == length args && length after_args == results

-- whether an operation with that number of results has lists that agree, and regions that give them
abbrev pub is_kind_counted : ℕ → Kind → Bool
is_kind_counted results (Call func uses) = true
is_kind_counted results (If' c first other) = results == 0 || has_yield first && has_else_yield other
is_kind_counted results (For parts) = is_for_counted results parts
is_kind_counted results (While parts) = is_while_counted results parts
is_kind_counted results _ = results == 1

-- limits

-- whether one more region, or one more loop, may open
abbrev pub is_kind_sized : ℕ → ℕ → Kind → Bool
is_kind_sized regions loops (Call func uses) = nat_le (length uses) arg_limit
is_kind_sized regions loops (If' c first other) = nat_lt regions region_limit
is_kind_sized regions loops (For parts) = nat_lt regions region_limit && nat_lt loops loop_limit
is_kind_sized regions loops (While parts) = nat_lt regions region_limit && nat_lt loops loop_limit
is_kind_sized regions loops _ = true

abbrev pub op_rules : List Value → Nest → Position → List Pack → List IrType → Kind → Rules
op_rules scope nest at packs results kind = record {
  in_scope = are_in_scope scope (operands kind);
  typed = are_free scope packs && is_kind_typed scope results kind;
  counted = packs_hold packs (length results) && is_kind_counted (length results) kind;
  sized =
      list_all (λ pack. is_short pack.name) packs && nat_le (length results) result_limit && nat_lt at.ops op_limit && nest.item_fits && is_kind_sized nest.regions nest.loops kind;
}

-- arguments: number n of its list; a type that it has to have; in a declaration a name may be missing
abbrev pub arg_rules : Bool → ℕ → List IrType → List Value → Arg → Rules
arg_rules declared n wanted scope arg = record {
  in_scope = true;
  typed = (is_free scope arg.name || declared && length arg.name == 0) && same_types (arg.ty ∷ []) wanted;
  counted = true;
  sized = is_short arg.name && nat_lt n arg_limit;
}

abbrev pub head_rules : Func → Rules
head_rules f = record {
  in_scope = true;
  typed = is_name f.name;
  counted = true;
  sized = is_short f.name && nat_le (length f.results) result_limit;
}

-- terminators

-- a yield without values is none
abbrev pub yield_rules : List Value → List IrType → List Label → Rules
yield_rules scope wanted ends = record {
  in_scope = are_in_scope scope ends;
  typed = have_types scope wanted ends;
  counted = length ends == 0 || length ends == length wanted;
  sized = true;
}

-- the yield behind `do`, which always stands
abbrev pub turn_rules : List Value → List IrType → List Label → Rules
turn_rules scope wanted ends = record {
  in_scope = are_in_scope scope ends;
  typed = have_types scope wanted ends;
  counted = length ends == length wanted;
  sized = true;
}

abbrev pub condition_rules : List Value → List IrType → Label → List Label → Rules
condition_rules scope wanted cond passed = record {
  in_scope = are_in_scope scope (cond ∷ passed);
  typed = has_type scope truth cond && have_types scope wanted passed;
  counted = length passed == length wanted;
  sized = true;
}

-- the return; items that are too many and hold no operation break here
abbrev pub return_rules : List Value → List IrType → ℕ → List Label → Rules
return_rules scope wanted items ret = record {
  in_scope = are_in_scope scope ret;
  typed = have_types scope wanted ret;
  counted = length ret == length wanted;
  sized = nat_le items item_limit;
}
