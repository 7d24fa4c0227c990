-- The rules of one place, and the breaks there that aren't of limits, agree with the judgements of types and names.
use Rattle.std.proofs.Common.{◌≡◌, ℕ, ◌+◌, ◌==◌, ◌&&◌, ◌||◌, not, Bool, true, false, List, [], ◌∷◌, ◌++◌, length, drop, refl, ap, ◌∙◌, sym, subst, arith, append_assoc}
use Rattle.std.specs.List.{list_any, list_all}
use Rattle.std.specs.Str.{bytes_eq}
use Rattle.arith_word.specs.declared.label.Label.{Label}
use Rattle.mlir_ir.specs.declared.shape.Shape.{Shape}
use Rattle.mlir_ir.specs.declared.shape.ShapeFault.{ShapeFault}
use Rattle.mlir_ir.specs.declared.shape.ShapeFault.TheVariants.{Use, WrongType, Count, Size}
use Rattle.mlir_ir.specs.declared.rules.Nest.{Nest}
use Rattle.mlir_ir.specs.declared.rules.Position.{Position}
use Rattle.mlir_ir.specs.declared.rules.Rules.{Rules}
use Rattle.mlir_ir.specs.declared.types.Arg.{Arg}
use Rattle.mlir_ir.specs.declared.types.IrType.{IrType}
use Rattle.mlir_ir.specs.declared.types.Pack.{Pack}
use Rattle.mlir_ir.specs.declared.types.Region.{Region', Row_of-Op, end_of-Op, more_of-Op}
use Rattle.mlir_ir.specs.declared.types.Kind.{Kind, Const, Bin, Cast, Cmp, Select, Call, If', For, While, None', Some'}
use Rattle.mlir_ir.specs.declared.types.ForParts.{ForParts'}
use Rattle.mlir_ir.specs.declared.types.WhileParts.{WhileParts'}
use Rattle.mlir_ir.specs.Labels.{row_labels, kind_labels}
use Rattle.mlir_ir.specs.Values.{Value, arg_values, result_values, type_at}
use Rattle.mlir_ir.specs.Rules.{has_name, have_types, are_in_scope, operands, is_free, are_free, is_kind_typed, is_kind_counted, gives_cast, same_types, same_type, arg_types, truth, packs_hold, may_wrap, may_lose, has_flags, op_rules, arg_rules}
use Rattle.mlir_ir.specs.Check.{unless, breaks_at, past, row_results, args_breaks}
use Rattle.mlir_ir.specs.Operations as plain
use Rattle.mlir_ir.specs.Typed.{Types, with_types, types_after, knows, fits, alike, all_fit, cast_fits, uses, kind_fits, kind_counts, TypedOp, TypedOps}
use Rattle.mlir_ir.specs.Named.{free, all_free, NamedArgs, NamedDeclared}
use Rattle.mlir_ir.specs.View.{view_row, view_kind}
use Rattle.mlir_ir.specs.WellFormed.{OnlySize}
use Rattle.mlir_ir.proofs.TypedScopes.{types_bound, names_called_args}
use Rattle.std.proofs.Math.Bool.{or-false}
use Rattle.std.proofs.lemmas.Bool.{and_from, and_parts}

-- breaks of limits alone

pub only_append : (xs ys : List Shape) → OnlySize (xs ++ ys) → OnlySize xs × OnlySize ys
only_append [] ys h = (tt, h)
only_append (x ∷ xs) ys h = let g = only_append xs ys h.1 in ((h.0, g.0), g.1)

pub append_only : (xs ys : List Shape) → OnlySize xs → OnlySize ys → OnlySize (xs ++ ys)
append_only [] ys h g = g
append_only (x ∷ xs) ys h g = (h.0, append_only xs ys h.1 g)

only_unless : (b : Bool) (at : ℕ) (f : ShapeFault) → (f ≡ Size → ⊥) → OnlySize (unless b at f) → b ≡ true
only_unless true at f n h = refl
only_unless false at f n h = absurd (n h.0)

unless_only : (b : Bool) (at : ℕ) (f : ShapeFault) → b ≡ true → OnlySize (unless b at f)
unless_only true at f h = tt
unless_only false at f h = cc

sized_only : (b : Bool) (at : ℕ) → OnlySize (unless b at Size)
sized_only true at = tt
sized_only false at = (refl, tt)

pub only_at : (at : ℕ) (r : Rules) → OnlySize (breaks_at at r) → (r.in_scope ≡ true) × (r.typed ≡ true) × (r.counted ≡ true)
only_at at r h =
    let a = only_append (unless r.in_scope at Use ++ unless r.typed at WrongType ++ unless r.counted at Count) (unless r.sized at Size) h in
    let b = only_append (unless r.in_scope at Use ++ unless r.typed at WrongType) (unless r.counted at Count) a.0 in
    let c = only_append (unless r.in_scope at Use) (unless r.typed at WrongType) b.0 in
    (only_unless r.in_scope at Use (λ e. cc) c.0, only_unless r.typed at WrongType (λ e. cc) c.1, only_unless r.counted at Count (λ e. cc) b.1)

pub at_only : (at : ℕ) (r : Rules) → r.in_scope ≡ true → r.typed ≡ true → r.counted ≡ true → OnlySize (breaks_at at r)
at_only at r e f g =
    append_only (unless r.in_scope at Use ++ unless r.typed at WrongType ++ unless r.counted at Count) (unless r.sized at Size)
    (append_only (unless r.in_scope at Use ++ unless r.typed at WrongType) (unless r.counted at Count)
    (append_only (unless r.in_scope at Use) (unless r.typed at WrongType) (unless_only r.in_scope at Use e) (unless_only r.typed at WrongType f)) (unless_only r.counted at Count g)) (sized_only r.sized at)

-- rules of one place

pub have_same : (scope : List Value) (tys : List IrType) (ls : List Label) → have_types scope tys ls ≡ all_fit (type_at scope) tys ls
have_same scope [] ls = refl
have_same scope (ty ∷ tys) [] = refl
have_same scope (ty ∷ tys) (l ∷ ls) = ap (λ b. fits (type_at scope) ty l && b) (have_same scope tys ls)

cast_same : (scope : List Value) (op : _) (l : Label) (tys : List IrType) → gives_cast scope op l tys ≡ cast_fits (type_at scope) op l tys
cast_same scope op l [] = refl
cast_same scope op l (ty ∷ tys) = refl

free_same : (scope : List Value) (packs : List Pack) → are_free scope packs ≡ all_free (has_name scope) packs
free_same scope [] = refl
free_same scope (pack ∷ packs) = ap (λ b. free (has_name scope) pack.name && not (list_any (λ (other : Pack). bytes_eq other.name pack.name) packs) && b) (free_same scope packs)

uses_same : (scope : List Value) (kind : Kind) → are_in_scope scope (operands kind) ≡ list_all (knows (type_at scope)) (uses (view_kind kind))
uses_same scope (Const v) = refl
uses_same scope (Bin op flags a b) = refl
uses_same scope (Cast op flags a) = refl
uses_same scope (Cmp pred a b) = refl
uses_same scope (Select c a b) = refl
uses_same scope (Call func ls) = refl
uses_same scope (If' c (Region' shape row ends) None') = refl
uses_same scope (If' c (Region' shape row ends) (Some' (Region' shape2 row2 ends2))) = refl
uses_same scope (For (ForParts' lower upper step iv args inits (Region' shape row ends))) = refl
uses_same scope (While (WhileParts' args inits (Region' shape row ends) cond after_args (Region' shape2 row2 ends2))) = refl

typed_same : (scope : List Value) (tys : List IrType) (kind : Kind) → is_kind_typed scope tys kind ≡ kind_fits (type_at scope) tys (view_kind kind)
typed_same scope tys (Const v) = refl
typed_same scope tys (Bin op flags a b) = ap (λ x. (may_wrap op || not (has_flags flags)) && alike (type_at scope) a b && x) (have_same scope tys (a ∷ []))
typed_same scope tys (Cast op flags a) = ap (λ x. (may_lose op || not (has_flags flags)) && x) (cast_same scope op a tys)
typed_same scope tys (Cmp pred a b) = refl
typed_same scope tys (Select c a b) = ap (λ x. fits (type_at scope) truth c && alike (type_at scope) a b && x) (have_same scope tys (a ∷ []))
typed_same scope tys (Call func ls) = refl
typed_same scope tys (If' c (Region' shape row ends) None') = refl
typed_same scope tys (If' c (Region' shape row ends) (Some' (Region' shape2 row2 ends2))) = refl
typed_same scope tys (For (ForParts' lower upper step iv args inits (Region' shape row ends))) =
    ap (λ x. list_all (fits (type_at scope) iv.ty) (lower ∷ upper ∷ step ∷ []) && x && same_types (arg_types args) tys) (have_same scope (arg_types args) inits)
typed_same scope tys (While (WhileParts' args inits (Region' shape row ends) cond after_args (Region' shape2 row2 ends2))) = have_same scope (arg_types args) inits

counts_same : (n : ℕ) (kind : Kind) → is_kind_counted n kind ≡ kind_counts n (view_kind kind)
counts_same n (Const v) = refl
counts_same n (Bin op flags a b) = refl
counts_same n (Cast op flags a) = refl
counts_same n (Cmp pred a b) = refl
counts_same n (Select c a b) = refl
counts_same n (Call func ls) = refl
counts_same n (If' c (Region' shape row ends) None') = refl
counts_same n (If' c (Region' shape row ends) (Some' (Region' shape2 row2 ends2))) = refl
counts_same n (For (ForParts' lower upper step iv args inits (Region' shape row ends))) = refl
counts_same n (While (WhileParts' args inits (Region' shape row ends) cond after_args (Region' shape2 row2 ends2))) = refl

pub op_fits : (scope : List Value) (nest : Nest) (at : Position) (last : ℕ) (packs : List Pack) (tys : List IrType) (kind : Kind) → OnlySize (breaks_at last (op_rules scope nest at packs tys kind))
    → TypedOp (type_at scope) packs tys (view_kind kind) × (all_free (has_name scope) packs ≡ true)
op_fits scope nest at last packs tys kind h =
    let r = only_at last (op_rules scope nest at packs tys kind) h in
    let t = and_parts (are_free scope packs) (is_kind_typed scope tys kind) r.1 in
    let c = and_parts (packs_hold packs (length tys)) (is_kind_counted (length tys) kind) r.2 in (
      record { in_scope = sym (uses_same scope kind) ∙ r.0; typed = sym (typed_same scope tys kind) ∙ t.1; packed = c.0; counted = sym (counts_same (length tys) kind) ∙ c.1 },
      sym (free_same scope packs) ∙ t.0,
    )

pub fits_op : (scope : List Value) (nest : Nest) (at : Position) (last : ℕ) (packs : List Pack) (tys : List IrType) (kind : Kind)
    → TypedOp (type_at scope) packs tys (view_kind kind) → all_free (has_name scope) packs ≡ true → OnlySize (breaks_at last (op_rules scope nest at packs tys kind))
fits_op scope nest at last packs tys kind h g =
    at_only last (op_rules scope nest at packs tys kind) (uses_same scope kind ∙ h.in_scope)
    (and_from (are_free scope packs) (is_kind_typed scope tys kind) (free_same scope packs ∙ g) (typed_same scope tys kind ∙ h.typed))
    (and_from (packs_hold packs (length tys)) (is_kind_counted (length tys) kind) h.packed (counts_same (length tys) kind ∙ h.counted))

-- labels

mutual
  pub labels_same : (n : _) (row : Row_of-Op n) → row_labels row ≡ plain.labels_of (view_row row)
  labels_same n end_of-Op = refl
  labels_same n (more_of-Op packs results kind rest) = rw (inner_same kind, labels_same _ rest) refl

  pub inner_same : (kind : Kind) → kind_labels kind ≡ plain.inner_labels (view_kind kind)
  inner_same (Const v) = refl
  inner_same (Bin op flags a b) = refl
  inner_same (Cast op flags a) = refl
  inner_same (Cmp pred a b) = refl
  inner_same (Select c a b) = refl
  inner_same (Call func ls) = refl
  inner_same (If' c (Region' shape row ends) None') = rw (labels_same _ row) refl
  inner_same (If' c (Region' shape row ends) (Some' (Region' shape2 row2 ends2))) = rw (labels_same _ row, labels_same _ row2) refl
  inner_same (For (ForParts' lower upper step iv args inits (Region' shape row ends))) = rw (labels_same _ row) refl
  inner_same (While (WhileParts' args inits (Region' shape row ends) cond after_args (Region' shape2 row2 ends2))) = rw (labels_same _ row, labels_same _ row2) refl

-- arguments

step_types : (ty : IrType) (tys wanted : List IrType) → same_types (ty ∷ []) wanted ≡ true → same_types tys (drop 1 wanted) ≡ true → same_types (ty ∷ tys) wanted ≡ true
step_types ty tys [] e f = refl
step_types ty tys (w ∷ wanted) e f = and_from (same_type ty w) (same_types tys wanted) (and_parts (same_type ty w) true e).0 f

types_step : (ty : IrType) (tys wanted : List IrType) → same_types (ty ∷ tys) wanted ≡ true → (same_types (ty ∷ []) wanted ≡ true) × (same_types tys (drop 1 wanted) ≡ true)
types_step ty [] [] e = (refl, refl)
types_step ty (t ∷ tys) [] e = (refl, refl)
types_step ty tys (w ∷ wanted) e = let p = and_parts (same_type ty w) (same_types tys wanted) e in (and_from (same_type ty w) true p.0 refl, p.1)

pub args_named : (n : ℕ) (wanted : List IrType) (scope : List Value) (at : Position) (args : List Arg) → OnlySize (args_breaks false n wanted scope at args)
    → NamedArgs (has_name scope) args × (same_types (arg_types args) wanted ≡ true)
args_named n wanted scope at [] h = (tt, refl)
args_named n wanted scope at (arg ∷ args) h =
    let p = only_append (breaks_at at.last (arg_rules false n wanted scope arg)) (args_breaks false (n + 1) (drop 1 wanted) (scope ++ arg_values at.next (arg ∷ [])) (past 1 0 at) args) h in
    let r = only_at at.last (arg_rules false n wanted scope arg) p.0 in
    let t = and_parts (is_free scope arg.name || false) (same_types (arg.ty ∷ []) wanted) r.1 in
    let g = args_named (n + 1) (drop 1 wanted) (scope ++ arg_values at.next (arg ∷ [])) (past 1 0 at) args p.1 in
    ((sym (or-false (is_free scope arg.name)) ∙ t.0, subst (λ N. NamedArgs N args) (names_called_args scope at.next (arg ∷ [])) g.0), step_types arg.ty (arg_types args) wanted t.1 g.1)

pub named_args : (n : ℕ) (wanted : List IrType) (scope : List Value) (at : Position) (args : List Arg) → NamedArgs (has_name scope) args → same_types (arg_types args) wanted ≡ true
    → OnlySize (args_breaks false n wanted scope at args)
named_args n wanted scope at [] h e = tt
named_args n wanted scope at (arg ∷ args) h e =
    let t = types_step arg.ty (arg_types args) wanted e in
    append_only (breaks_at at.last (arg_rules false n wanted scope arg)) (args_breaks false (n + 1) (drop 1 wanted) (scope ++ arg_values at.next (arg ∷ [])) (past 1 0 at) args)
    (at_only at.last (arg_rules false n wanted scope arg) refl (and_from (is_free scope arg.name || false) (same_types (arg.ty ∷ []) wanted) (or-false (is_free scope arg.name) ∙ h.0) t.0) refl)
    (named_args (n + 1) (drop 1 wanted) (scope ++ arg_values at.next (arg ∷ [])) (past 1 0 at) args (subst (λ N. NamedArgs N args) (sym (names_called_args scope at.next (arg ∷ []))) h.1) t.1)

pub args_declared : (n : ℕ) (scope : List Value) (at : Position) (args : List Arg) → OnlySize (args_breaks true n [] scope at args) → NamedDeclared (has_name scope) args
args_declared n scope at [] h = tt
args_declared n scope at (arg ∷ args) h =
    let p = only_append (breaks_at at.last (arg_rules true n [] scope arg)) (args_breaks true (n + 1) [] (scope ++ arg_values at.next (arg ∷ [])) (past 1 0 at) args) h in
    let r = only_at at.last (arg_rules true n [] scope arg) p.0 in
    let t = and_parts (is_free scope arg.name || length arg.name == 0) true r.1 in
    let g = args_declared (n + 1) (scope ++ arg_values at.next (arg ∷ [])) (past 1 0 at) args p.1 in
    (t.0, subst (λ N. NamedDeclared N args) (names_called_args scope at.next (arg ∷ [])) g)

pub declared_args : (n : ℕ) (scope : List Value) (at : Position) (args : List Arg) → NamedDeclared (has_name scope) args → OnlySize (args_breaks true n [] scope at args)
declared_args n scope at [] h = tt
declared_args n scope at (arg ∷ args) h =
    append_only (breaks_at at.last (arg_rules true n [] scope arg)) (args_breaks true (n + 1) [] (scope ++ arg_values at.next (arg ∷ [])) (past 1 0 at) args)
    (at_only at.last (arg_rules true n [] scope arg) refl (and_from (is_free scope arg.name || length arg.name == 0) true h.0 refl) refl)
    (declared_args (n + 1) (scope ++ arg_values at.next (arg ∷ [])) (past 1 0 at) args (subst (λ N. NamedDeclared N args) (sym (names_called_args scope at.next (arg ∷ []))) h.1))

-- terminators

append_nil : (xs : List Value) → xs ++ [] ≡ xs
append_nil [] = refl
append_nil (x ∷ xs) = ap (λ ys. x ∷ ys) (append_nil xs)

pub behind_same : (scope : List Value) (T : Types) (b p q : ℕ) (n : _) (row : Row_of-Op n) → b ≡ p → TypedOps T q (view_row row) → type_at (scope ++ row_results b row) ≡ types_after (type_at scope) p (view_row row)
behind_same scope T b p q n end_of-Op e h = ap type_at (append_nil scope)
behind_same scope T b p q n (more_of-Op packs results kind rest) e h =
    let i : kind_labels kind ≡ plain.inner_labels (view_kind kind) = inner_same kind in
    let rv = result_values (b + kind_labels kind) packs results in
    let p2 = p + (plain.inner_labels (view_kind kind) + length results) in
    let more = behind_same (scope ++ rv) (with_types T (q + plain.inner_labels (view_kind kind)) results) (b + kind_labels kind + length results) p2 (q + (plain.inner_labels (view_kind kind) + length results)) _ rest (omega arith) h.2 in
    ap type_at (sym (append_assoc scope rv (row_results (b + kind_labels kind + length results) rest)))
    ∙ (more ∙ ap (λ U. types_after U p2 (view_row rest)) (types_bound scope (b + kind_labels kind) (p + plain.inner_labels (view_kind kind)) packs results (omega arith) h.0.packed))
