-- Operations whose canonical text the resolver reads back, with other labels, and finds no fault in but limits: each use names one value in scope, types agree,
-- names differ, and lists have the lengths that belong together.
use Rattle.std.specs.Prelude.{ℕ, ◌≡◌, ◌+◌, ◌^◌, ◌<◌, ◌≤◌, true, false, List, [], ◌∷◌, ◌++◌, length, map, slice_index_or, Option, None, Some}
use Rattle.arith_word.specs.Labels.{label_at}
use Rattle.arith_word.specs.declared.op.CastOp.{CastOp}
use Rattle.arith_word.specs.declared.label.Label.{Label}
use Rattle.mlir_ir.specs.Canonical.{Naming, naming_of}
use Rattle.mlir_ir.specs.Check.{row_results}
use Rattle.mlir_ir.specs.Labels.{kind_labels, row_labels}
use Rattle.mlir_ir.specs.Resolved.{place_named}
use Rattle.mlir_ir.specs.Rules.{may_wrap, may_lose, truth, arg_types, casts, has_name, are_free, packs_hold}
use Rattle.mlir_ir.specs.Values.{Value, arg_values, result_values, type_at}
use Rattle.mlir_ir.specs.Words.{bits_of}
use Rattle.mlir_ir.specs.declared.types.Arg.{Arg}
use Rattle.mlir_ir.specs.declared.types.Body.{Body}
use Rattle.mlir_ir.specs.declared.types.Func.{Func}
use Rattle.mlir_ir.specs.declared.types.Item.{Item}
use Rattle.mlir_ir.specs.declared.types.Op.{Op}
use Rattle.mlir_ir.specs.declared.types.IrType.{IrType}
use Rattle.mlir_ir.specs.declared.types.Pack.{Pack}
use Rattle.mlir_ir.specs.declared.types.Region.{Region', Row_of-Op, end_of-Op, more_of-Op}
use Rattle.mlir_ir.specs.declared.types.Kind.{Kind, Const, Bin, Cast, Cmp, Select, Call, If', For, While, Held-Kind-If-2, None', Some'}
use Rattle.mlir_ir.specs.declared.types.ForParts.{ForParts, ForParts'}
use Rattle.mlir_ir.specs.declared.types.WhileParts.{WhileParts, WhileParts'}
use Rattle.round_trip.specs.Flat.{other_label, flat_label}
use Rattle.round_trip.specs.ReadUses.{ReadsAs}
use Rattle.round_trip.specs.Sound.{Each, IsType, OneType, HaveFlags}

-- the names of a function's values and of the functions, and the labels that uses get
pub record Reading : Type 0 where
  pub naming : Naming
  pub other : ℕ → ℕ

abbrev pub ReadsLabel : Reading → List Value → Label → Type 0
ReadsLabel r scope l = ReadsAs r.naming scope l (other_label r.other l)

abbrev pub ReadsLabels : Reading → List Value → List Label → Type 0
ReadsLabels r scope ls = Each (ReadsLabel r scope) ls

abbrev pub ReadsPack : Pack → Type 0
ReadsPack pack = (1 ≤ pack.count) × (pack.count < 2 ^ 64)

abbrev pub HasTypes : List Arg → Type 0
HasTypes args = Each (λ (arg : Arg). IsType arg.ty) args

-- a literal is a number of its one result's width
abbrev pub IsLiteral : ℕ → List IrType → Type 0
IsLiteral v (ty ∷ []) = IsType ty × (v < 2 ^ bits_of ty)
IsLiteral v _ = ⊥

-- the used values have these types
abbrev pub TypesAre : Reading → List IrType → List Label → Type 0
TypesAre r tys ls = map (λ (l : Label). type_at r.naming.values l.0) ls ≡ map (λ (ty : IrType). Some ty) tys

-- the used value has the one type of the results
abbrev pub GivesType : Reading → List IrType → Label → Type 0
GivesType r results l = TypesAre r results (l ∷ [])

-- a cast leads from the type of the used value to the results
abbrev pub CastGives : Reading → CastOp → List IrType → Label → Type 0
CastGives r op results l = (from : IrType) × IsType from × (type_at r.naming.values l.0 ≡ Some from) × Each (λ (ty : IrType). casts op from ty ≡ true) results

-- two used values have one type
abbrev pub AreCompared : Reading → Label → Label → Type 0
AreCompared r a b = (ty : IrType) × IsType ty × (type_at r.naming.values a.0 ≡ Some ty) × (type_at r.naming.values b.0 ≡ Some ty)

-- arguments whose names differ from one another, and from those in scope
abbrev pub FreeArgs : List Value → List Arg → Type 0
FreeArgs scope [] = Unit {0}
FreeArgs scope (arg ∷ args) = (has_name scope arg.name ≡ false) × FreeArgs (scope ++ arg_values 0 (arg ∷ [])) args

-- packs with other names than those in scope, which share so many results out
abbrev pub PacksFit : List Value → List Pack → ℕ → Type 0
PacksFit scope packs n = (are_free scope packs ≡ true) × (packs_hold packs n ≡ true)

-- the values that an `else` region gives on; without one there are no results
abbrev pub ElseGives : Reading → List IrType → Held-Kind-If-2 → Type 0
ElseGives r results None' = results ≡ []
ElseGives r results (Some' (Region' shape row ends)) = TypesAre r results ends

-- operations that begin with label `at`, where these values are in scope
abbrev mutual
  pub ReadableKind : Reading → List Value → ℕ → List IrType → Kind → Type 0
  ReadableKind r scope at results (Const v) = IsLiteral v results
  ReadableKind r scope at results (Bin op flags a b) = OneType results × HaveFlags (may_wrap op) flags × ReadsLabel r scope a × ReadsLabel r scope b × GivesType r results a × GivesType r results b
  ReadableKind r scope at results (Cast op flags a) = OneType results × HaveFlags (may_lose op) flags × ReadsLabel r scope a × CastGives r op results a
  ReadableKind r scope at results (Cmp pred a b) = (results ≡ truth ∷ []) × ReadsLabel r scope a × ReadsLabel r scope b × AreCompared r a b
  ReadableKind r scope at results (Select c a b) = OneType results × ReadsLabel r scope c × ReadsLabel r scope a × ReadsLabel r scope b × GivesType r (truth ∷ []) c × GivesType r results a × GivesType r results b
  ReadableKind r scope at results (Call func uses) =
      Each IsType results × ReadsLabels r scope uses × (place_named (slice_index_or r.naming.funcs func []) r.naming.funcs ≡ func)
  ReadableKind r scope at results (If' c (Region' shape row ends) other) =
      ReadsLabel r scope c × Each IsType results × ReadableRow r scope at row × ReadsLabels r (scope ++ row_results at row) ends × ReadableElse r scope (at + row_labels row) other
      × GivesType r (truth ∷ []) c × TypesAre r results ends × ElseGives r results other
  ReadableKind r scope at results (For parts) = ReadableFor r scope at results parts
  ReadableKind r scope at results (While parts) = ReadableWhile r scope at results parts

  pub ReadableElse : Reading → List Value → ℕ → Held-Kind-If-2 → Type 0
  ReadableElse r scope at None' = Unit {0}
  ReadableElse r scope at (Some' (Region' shape row ends)) = ReadableRow r scope at row × ReadsLabels r (scope ++ row_results at row) ends

  pub ReadableRow : {m : _} → Reading → List Value → ℕ → Row_of-Op m → Type 0
  ReadableRow r scope at end_of-Op = Unit {0}
  ReadableRow r scope at (more_of-Op packs results kind rest) =
      Each ReadsPack packs × ReadableKind r scope at results kind × ReadableRow r (scope ++ result_values (at + kind_labels kind) packs results) (at + (kind_labels kind + length results)) rest
      × PacksFit scope packs (length results)

  pub ReadableFor : Reading → List Value → ℕ → List IrType → ForParts → Type 0
  ReadableFor r scope at results (ForParts' lower upper step iv args inits (Region' shape row ends)) =
      let inner = scope ++ arg_values (at + 1) (iv ∷ args) in
      ReadsLabels r scope (lower ∷ upper ∷ step ∷ []) × HasTypes (iv ∷ args) × (arg_types args ≡ results) × (length args ≡ length inits) × ReadsLabels r scope inits
      × ReadableRow r inner (at + 2 + length args) row × ReadsLabels r (inner ++ row_results (at + 2 + length args) row) ends
      × Each (GivesType r (iv.ty ∷ [])) (lower ∷ upper ∷ step ∷ []) × TypesAre r (arg_types args) inits × TypesAre r results ends × FreeArgs scope (iv ∷ args)

  pub ReadableWhile : Reading → List Value → ℕ → List IrType → WhileParts → Type 0
  ReadableWhile r scope at results (WhileParts' args inits (Region' shape row passed) cond after_args (Region' shape2 row2 ends)) =
      let in_before = scope ++ arg_values (at + 1) args in
      let behind_before = in_before ++ row_results (at + 1 + length args) row in
      let params = at + 1 + length args + row_labels row in
      let in_after = scope ++ arg_values params after_args in
      HasTypes args × HasTypes after_args × Each IsType results × (length args ≡ length inits) × ReadsLabels r scope inits × ReadableRow r in_before (at + 1 + length args) row
      × ReadsLabels r behind_before (cond ∷ passed) × ReadableRow r in_after (params + length after_args) row2 × ReadsLabels r (in_after ++ row_results (params + length after_args) row2) ends
      × TypesAre r (arg_types args) inits × TypesAre r (truth ∷ results) (cond ∷ passed) × TypesAre r (arg_types args) ends × (arg_types after_args ≡ results) × FreeArgs scope args × FreeArgs scope after_args

-- the operations of a body, each an item of its own from number n on
abbrev pub ReadableOps : Reading → ℕ → ℕ → List Value → List Op → Type 0
ReadableOps r func n scope [] = Unit {0}
ReadableOps r func n scope (op ∷ ops) =
    let at = label_at func n 0 in
    Each ReadsPack op.packs × ReadableKind r scope at op.results op.kind × ReadableOps r func (n + 1) (scope ++ result_values (at + kind_labels op.kind) op.packs op.results) ops
    × PacksFit scope op.packs (length op.results)

-- the values in scope behind them
abbrev pub scope_after : ℕ → ℕ → List Value → List Op → List Value
scope_after func n scope [] = scope
scope_after func n scope (op ∷ ops) = scope_after func (n + 1) (scope ++ result_values (label_at func n 0 + kind_labels op.kind) op.packs op.results) ops

abbrev pub all_ops : List Item → List Op
all_ops [] = []
all_ops (item ∷ items) = item.ops ++ all_ops items

abbrev pub ReadableBody : Reading → Func → Option Body → Type 0
ReadableBody r f None = Unit {0}
ReadableBody r f (Some body) =
    let scope = arg_values (label_at f.index 0 0) f.args in
    ReadableOps r f.index 1 scope (all_ops body.items) × ReadsLabels r (scope_after f.index 1 scope (all_ops body.items)) body.ret
    × TypesAre r f.results body.ret × FreeArgs [] f.args

-- a function of a module whose functions have these names, at that index, whose text reads as the flat function
abbrev pub ReadableFunc : List (List ℕ) → ℕ → Func → Type 0
ReadableFunc names index f =
    (f.index ≡ index) × HasTypes f.args × Each IsType f.results × ReadableBody (record { naming = naming_of names f; other = flat_label f.index f.body }) f f.body

abbrev pub ReadableFuncs : List (List ℕ) → ℕ → List Func → Type 0
ReadableFuncs names index [] = Unit {0}
ReadableFuncs names index (f ∷ fs) = ReadableFunc names index f × ReadableFuncs names (index + 1) fs

abbrev pub ReadableModule : List Func → Type 0
ReadableModule fs = ReadableFuncs (map (λ (f : Func). f.name) fs) 0 fs
