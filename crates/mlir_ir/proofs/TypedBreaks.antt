-- A region's operations have no break but of limits exactly where they are typed and named apart.
use Rattle.std.proofs.Common.{◌≡◌, ℕ, ◌+◌, true, false, List, [], ◌∷◌, ◌++◌, length, refl, ap, ◌∙◌, sym, subst, arith}
use Rattle.arith_word.specs.declared.label.Label.{Label}
use Rattle.mlir_ir.specs.declared.rules.Nest.{Nest}
use Rattle.mlir_ir.specs.declared.rules.Position.{Position}
use Rattle.mlir_ir.specs.declared.types.IrType.{IrType}
use Rattle.mlir_ir.specs.declared.types.Region.{Region', Row_of-Op, end_of-Op, more_of-Op}
use Rattle.mlir_ir.specs.declared.types.Kind.{Kind, Const, Bin, Cast, Cmp, Select, Call, If', For, While, None', Some'}
use Rattle.mlir_ir.specs.declared.types.ForParts.{ForParts'}
use Rattle.mlir_ir.specs.declared.types.WhileParts.{WhileParts'}
use Rattle.mlir_ir.specs.Labels.{row_labels, kind_labels}
use Rattle.mlir_ir.specs.Values.{Value, arg_values, result_values, type_at}
use Rattle.mlir_ir.specs.Rules.{has_name, same_types, arg_types, truth, op_rules, yield_rules, turn_rules, condition_rules}
use Rattle.mlir_ir.specs.Check.{breaks_at, past, past_args, past_region, past_row, opened, looped, kind_ops, row_results, args_breaks, row_breaks, kind_breaks, arm_breaks, else_breaks, for_breaks, while_breaks, before_breaks, turn_breaks}
use Rattle.mlir_ir.specs.Operations as plain
use Rattle.mlir_ir.specs.Typed.{Types, with_types, types_after, all_fit, yields, passes, TypedEnd, TypedOps, TypedRegions}
use Rattle.mlir_ir.specs.Named.{Names, with_packs, with_args, NamedArgs, NamedOps, NamedRegions}
use Rattle.mlir_ir.specs.View.{view_row, view_kind}
use Rattle.mlir_ir.specs.WellFormed.{OnlySize}
use Rattle.mlir_ir.proofs.Agreement.{only_append, append_only, only_at, at_only, op_fits, fits_op, labels_same, inner_same, args_named, named_args, behind_same, have_same}
use Rattle.mlir_ir.proofs.TypedScopes.{types_bound, types_bound_args, names_called, names_called_args}

all_fit_nil : (T : Types) (tys : List IrType) → all_fit T tys [] ≡ true
all_fit_nil T [] = refl
all_fit_nil T (ty ∷ tys) = refl

pub no_types : (tys : List IrType) → same_types tys [] ≡ true
no_types [] = refl
no_types (ty ∷ tys) = refl

-- the values in scope at the end of a region
abbrev at_end : {m : _} → List Value → Position → Row_of-Op m → List Value
at_end scope at row = scope ++ row_results at.next row

yield_ends : (scope : List Value) (last : ℕ) (wanted : List IrType) (ends : List Label) → OnlySize (breaks_at last (yield_rules scope wanted ends)) → TypedEnd (type_at scope) wanted ends (yields wanted ends)
yield_ends scope last wanted ends h =
    let r = only_at last (yield_rules scope wanted ends) h in
    record { in_scope = r.0; typed = sym (have_same scope wanted ends) ∙ r.1; counted = r.2 }

turn_ends : (scope : List Value) (last : ℕ) (wanted : List IrType) (ends : List Label) → OnlySize (breaks_at last (turn_rules scope wanted ends)) → TypedEnd (type_at scope) wanted ends (passes wanted ends)
turn_ends scope last wanted ends h =
    let r = only_at last (turn_rules scope wanted ends) h in
    record { in_scope = r.0; typed = sym (have_same scope wanted ends) ∙ r.1; counted = r.2 }

condition_ends : (scope : List Value) (last : ℕ) (wanted : List IrType) (cond : Label) (passed : List Label) → OnlySize (breaks_at last (condition_rules scope wanted cond passed))
    → TypedEnd (type_at scope) (truth ∷ wanted) (cond ∷ passed) (passes wanted passed)
condition_ends scope last wanted cond passed h =
    let r = only_at last (condition_rules scope wanted cond passed) h in
    record { in_scope = r.0; typed = sym (have_same scope (truth ∷ wanted) (cond ∷ passed)) ∙ r.1; counted = r.2 }

ends_yield : (scope : List Value) (last : ℕ) (wanted : List IrType) (ends : List Label) → TypedEnd (type_at scope) wanted ends (yields wanted ends) → OnlySize (breaks_at last (yield_rules scope wanted ends))
ends_yield scope last wanted ends h = at_only last (yield_rules scope wanted ends) h.in_scope (have_same scope wanted ends ∙ h.typed) h.counted

ends_turn : (scope : List Value) (last : ℕ) (wanted : List IrType) (ends : List Label) → TypedEnd (type_at scope) wanted ends (passes wanted ends) → OnlySize (breaks_at last (turn_rules scope wanted ends))
ends_turn scope last wanted ends h = at_only last (turn_rules scope wanted ends) h.in_scope (have_same scope wanted ends ∙ h.typed) h.counted

ends_condition : (scope : List Value) (last : ℕ) (wanted : List IrType) (cond : Label) (passed : List Label) → TypedEnd (type_at scope) (truth ∷ wanted) (cond ∷ passed) (passes wanted passed)
    → OnlySize (breaks_at last (condition_rules scope wanted cond passed))
ends_condition scope last wanted cond passed h = at_only last (condition_rules scope wanted cond passed) h.in_scope (have_same scope (truth ∷ wanted) (cond ∷ passed) ∙ h.typed) h.counted

-- the same operations under equal scopes
pub moved : (T T' : Types) (N N' : Names) (row : plain.OpList) (p : ℕ) → T ≡ T' → N ≡ N' → TypedOps T p row × NamedOps N row → TypedOps T' p row × NamedOps N' row
moved T T' N N' row p e f h = (subst (λ U. TypedOps U p row) e h.0, subst (λ M. NamedOps M row) f h.1)

arm_forth : (scope : List Value) (nest : Nest) (at : Position) (p : ℕ) → at.next ≡ p → (wanted : List IrType) (n : _) (row : Row_of-Op n) (ends : List Label) → (OnlySize (row_breaks scope nest at row) → TypedOps (type_at scope) p (view_row row) × NamedOps (has_name scope) (view_row row)) → OnlySize (row_breaks scope nest at row ++ breaks_at (past_row row at).last (yield_rules (at_end scope at row) wanted ends))
    → TypedOps (type_at scope) p (view_row row) × TypedEnd (types_after (type_at scope) p (view_row row)) wanted ends (yields wanted ends) × NamedOps (has_name scope) (view_row row)
arm_forth scope nest at p e wanted n row ends ih h =
    let a = only_append (row_breaks scope nest at row) _ h in
    let g = ih a.0 in
    (g.0, subst (λ U. TypedEnd U wanted ends (yields wanted ends)) (behind_same scope (type_at scope) at.next p p _ row e g.0) (yield_ends (at_end scope at row) _ wanted ends a.1), g.1)

before_forth : (scope : List Value) (nest : Nest) (at : Position) (p : ℕ) → at.next ≡ p → (results : List IrType) (cond : Label) (n : _) (row : Row_of-Op n) (ends : List Label) → (OnlySize (row_breaks scope nest at row) → TypedOps (type_at scope) p (view_row row) × NamedOps (has_name scope) (view_row row)) → OnlySize (row_breaks scope nest at row ++ breaks_at (past_row row at).last (condition_rules (at_end scope at row) results cond ends))
    → TypedOps (type_at scope) p (view_row row) × TypedEnd (types_after (type_at scope) p (view_row row)) (truth ∷ results) (cond ∷ ends) (passes results ends) × NamedOps (has_name scope) (view_row row)
before_forth scope nest at p e results cond n row ends ih h =
    let a = only_append (row_breaks scope nest at row) _ h in
    let g = ih a.0 in
    (g.0, subst (λ U. TypedEnd U (truth ∷ results) (cond ∷ ends) (passes results ends)) (behind_same scope (type_at scope) at.next p p _ row e g.0) (condition_ends (at_end scope at row) _ results cond ends a.1), g.1)

turn_forth : (scope : List Value) (nest : Nest) (at : Position) (p : ℕ) → at.next ≡ p → (wanted : List IrType) (n : _) (row : Row_of-Op n) (ends : List Label) → (OnlySize (row_breaks scope nest at row) → TypedOps (type_at scope) p (view_row row) × NamedOps (has_name scope) (view_row row)) → OnlySize (row_breaks scope nest at row ++ breaks_at (past_row row at).last (turn_rules (at_end scope at row) wanted ends))
    → TypedOps (type_at scope) p (view_row row) × TypedEnd (types_after (type_at scope) p (view_row row)) wanted ends (passes wanted ends) × NamedOps (has_name scope) (view_row row)
turn_forth scope nest at p e wanted n row ends ih h =
    let a = only_append (row_breaks scope nest at row) _ h in
    let g = ih a.0 in
    (g.0, subst (λ U. TypedEnd U wanted ends (passes wanted ends)) (behind_same scope (type_at scope) at.next p p _ row e g.0) (turn_ends (at_end scope at row) _ wanted ends a.1), g.1)

mutual
  unfolding row_breaks kind_breaks arm_breaks else_breaks for_breaks while_breaks before_breaks turn_breaks

  pub row_forth : (scope : List Value) (nest : Nest) (at : Position) (p : ℕ) → at.next ≡ p → (n : _) (row : Row_of-Op n) → OnlySize (row_breaks scope nest at row)
      → TypedOps (type_at scope) p (view_row row) × NamedOps (has_name scope) (view_row row)
  row_forth scope nest at p e n end_of-Op h = (tt, tt)
  row_forth scope nest at p e n (more_of-Op packs results kind rest) h =
      let i : kind_labels kind ≡ plain.inner_labels (view_kind kind) = inner_same kind in
      let rv = result_values (at.next + kind_labels kind) packs results in
      let here = breaks_at at.last (op_rules scope nest at packs results kind) in
      let inside = kind_breaks scope nest (past 0 1 at) results kind in
      let at2 = past (kind_labels kind + length results) (1 + kind_ops kind) at in
      let behind_it = row_breaks (scope ++ rv) nest at2 rest in
      let c = only_append (here ++ inside) behind_it h in
      let b = only_append here inside c.0 in
      let f = op_fits scope nest at at.last packs results kind b.0 in
      let g = kind_forth scope nest (past 0 1 at) p (omega arith) results kind b.1 in
      let r = row_forth (scope ++ rv) nest at2 (p + (plain.inner_labels (view_kind kind) + length results)) (omega arith) _ rest c.1 in
      let m = moved (type_at (scope ++ rv)) (with_types (type_at scope) (p + plain.inner_labels (view_kind kind)) results) (has_name (scope ++ rv)) (with_packs (has_name scope) packs) (view_row rest) (p + (plain.inner_labels (view_kind kind) + length results))
      (types_bound scope (at.next + kind_labels kind) (p + plain.inner_labels (view_kind kind)) packs results (omega arith) f.0.packed) (names_called scope (at.next + kind_labels kind) packs results f.0.packed) r in
      ((f.0, g.0, m.0), (f.1, g.1, m.1))

  pub kind_forth : (scope : List Value) (nest : Nest) (at : Position) (p : ℕ) → at.next ≡ p → (results : List IrType) (kind : Kind) → OnlySize (kind_breaks scope nest at results kind)
      → TypedRegions (type_at scope) p results (view_kind kind) × NamedRegions (has_name scope) (view_kind kind)
  kind_forth scope nest at p e results (Const v) h = (tt, tt)
  kind_forth scope nest at p e results (Bin op flags a b) h = (tt, tt)
  kind_forth scope nest at p e results (Cast op flags a) h = (tt, tt)
  kind_forth scope nest at p e results (Cmp pred a b) h = (tt, tt)
  kind_forth scope nest at p e results (Select c a b) h = (tt, tt)
  kind_forth scope nest at p e results (Call func ls) h = (tt, tt)
  kind_forth scope nest at p e results (If' c (Region' shape row ends) None') h =
      let a = only_append (arm_breaks scope (opened nest) at results (Region' shape row ends)) [] h in
      let g = arm_forth scope (opened nest) at p e results _ row ends (row_forth scope (opened nest) at p e _ row) a.0 in
      ((g.0, g.1, tt, record { in_scope = refl; typed = all_fit_nil _ results; counted = refl }), (g.2, tt))
  kind_forth scope nest at p e results (If' c (Region' shape row ends) (Some' (Region' shape2 row2 ends2))) h =
      let at2 = past_region (Region' shape row ends) at in
      let l : row_labels row ≡ plain.labels_of (view_row row) = labels_same _ row in
      let p2 = p + plain.labels_of (view_row row) in
      let a = only_append (arm_breaks scope (opened nest) at results (Region' shape row ends)) (arm_breaks scope (opened nest) at2 results (Region' shape2 row2 ends2)) h in
      let g = arm_forth scope (opened nest) at p e results _ row ends (row_forth scope (opened nest) at p e _ row) a.0 in
      let k = arm_forth scope (opened nest) at2 p2 (omega arith) results _ row2 ends2 (row_forth scope (opened nest) at2 p2 (omega arith) _ row2) a.1 in
      ((g.0, g.1, k.0, k.1), (g.2, k.2))
  kind_forth scope nest at p e results (For (ForParts' lower upper step iv args inits (Region' shape row ends))) h =
      let at1 = past 1 0 at in
      let at2 = past 1 0 at1 in
      let with_iv = scope ++ arg_values at1.next (iv ∷ []) in
      let in_body = with_iv ++ arg_values at2.next args in
      let body = arm_breaks in_body (looped nest) (past_args args at2) results (Region' shape row ends) in
      let b = only_append (args_breaks false 0 [] scope at1 (iv ∷ []) ++ args_breaks false 0 [] with_iv at2 args) body h in
      let a = only_append (args_breaks false 0 [] scope at1 (iv ∷ [])) (args_breaks false 0 [] with_iv at2 args) b.0 in
      let g = arm_forth in_body (looped nest) (past_args args at2) (p + 2 + length args) (omega arith) results _ row ends (row_forth in_body (looped nest) (past_args args at2) (p + 2 + length args) (omega arith) _ row) b.1 in
      let e1 = types_bound_args scope at1.next (p + 1) (iv ∷ []) (omega arith) in
      let e2 = types_bound_args with_iv at2.next (p + 2) args (omega arith) ∙ ap (λ U. with_types U (p + 2) (arg_types args)) e1 in
      let f1 = names_called_args scope at1.next (iv ∷ []) in
      let f2 = names_called_args with_iv at2.next args ∙ ap (λ M. with_args M args) f1 in
      let n1 = (args_named 0 [] scope at1 (iv ∷ []) a.0).0 in
      let n2 = (args_named 0 [] with_iv at2 args a.1).0 in (
        (
          subst (λ U. TypedOps U (p + 2 + length args) (view_row row)) e2 g.0,
          subst (λ U. TypedEnd (types_after U (p + 2 + length args) (view_row row)) results ends (yields results ends)) e2 g.1,
        ),
        (n1, subst (λ M. NamedArgs M args) f1 n2, subst (λ M. NamedOps M (view_row row)) f2 g.2),
      )
  kind_forth scope nest at p e results (While (WhileParts' args inits (Region' shape row passed) cond after_args (Region' shape2 row2 ends))) h =
      let at1 = past 1 0 at in
      let at2 = past_args args at1 in
      let at3 = past_region (Region' shape row passed) at2 in
      let at4 = past_args after_args at3 in
      let l : row_labels row ≡ plain.labels_of (view_row row) = labels_same _ row in
      let in_before = scope ++ arg_values at1.next args in
      let in_after = scope ++ arg_values at3.next after_args in
      let A = args_breaks false 0 [] scope at1 args in
      let B = before_breaks in_before (looped nest) at2 results cond (Region' shape row passed) in
      let C = args_breaks false 0 results scope at3 after_args in
      let D = turn_breaks in_after (looped nest) at4 (arg_types args) (Region' shape2 row2 ends) in
      let d = only_append (A ++ B ++ C) D h in
      let c = only_append (A ++ B) C d.0 in
      let b = only_append A B c.0 in
      let g = before_forth in_before (looped nest) at2 (p + 1 + length args) (omega arith) results cond _ row passed (row_forth in_before (looped nest) at2 (p + 1 + length args) (omega arith) _ row) b.1 in
      let k = turn_forth in_after (looped nest) at4 (p + 1 + length args + plain.labels_of (view_row row) + length after_args) (omega arith) (arg_types args) _ row2 ends (row_forth in_after (looped nest) at4 (p + 1 + length args + plain.labels_of (view_row row) + length after_args) (omega arith) _ row2) d.1 in
      let e1 = types_bound_args scope at1.next (p + 1) args (omega arith) in
      let e2 = types_bound_args scope at3.next (p + 1 + length args + plain.labels_of (view_row row)) after_args (omega arith) in
      let f1 = names_called_args scope at1.next args in
      let f2 = names_called_args scope at3.next after_args in
      let n1 = (args_named 0 [] scope at1 args b.0).0 in
      let n2 = args_named 0 results scope at3 after_args c.1 in (
        (
          subst (λ U. TypedOps U (p + 1 + length args) (view_row row)) e1 g.0,
          subst (λ U. TypedEnd (types_after U (p + 1 + length args) (view_row row)) (truth ∷ results) (cond ∷ passed) (passes results passed)) e1 g.1,
          n2.1,
          subst (λ U. TypedOps U (p + 1 + length args + plain.labels_of (view_row row) + length after_args) (view_row row2)) e2 k.0,
          subst (λ U. TypedEnd (types_after U (p + 1 + length args + plain.labels_of (view_row row) + length after_args) (view_row row2)) (arg_types args) ends (passes (arg_types args) ends)) e2 k.1,
        ),
        (n1, subst (λ M. NamedOps M (view_row row)) f1 g.2, n2.0, subst (λ M. NamedOps M (view_row row2)) f2 k.2),
      )

-- and back

arm_back : (scope : List Value) (nest : Nest) (at : Position) (p : ℕ) → at.next ≡ p → (wanted : List IrType) (n : _) (row : Row_of-Op n) (ends : List Label) → OnlySize (row_breaks scope nest at row)
    → TypedOps (type_at scope) p (view_row row) → TypedEnd (types_after (type_at scope) p (view_row row)) wanted ends (yields wanted ends)
    → OnlySize (row_breaks scope nest at row ++ breaks_at (past_row row at).last (yield_rules (at_end scope at row) wanted ends))
arm_back scope nest at p e wanted n row ends x h f =
    append_only (row_breaks scope nest at row) _ x
    (ends_yield (at_end scope at row) _ wanted ends (subst (λ U. TypedEnd U wanted ends (yields wanted ends)) (sym (behind_same scope (type_at scope) at.next p p _ row e h)) f))

before_back : (scope : List Value) (nest : Nest) (at : Position) (p : ℕ) → at.next ≡ p → (results : List IrType) (cond : Label) (n : _) (row : Row_of-Op n) (ends : List Label) → OnlySize (row_breaks scope nest at row)
    → TypedOps (type_at scope) p (view_row row) → TypedEnd (types_after (type_at scope) p (view_row row)) (truth ∷ results) (cond ∷ ends) (passes results ends)
    → OnlySize (row_breaks scope nest at row ++ breaks_at (past_row row at).last (condition_rules (at_end scope at row) results cond ends))
before_back scope nest at p e results cond n row ends x h f =
    append_only (row_breaks scope nest at row) _ x
    (ends_condition (at_end scope at row) _ results cond ends (subst (λ U. TypedEnd U (truth ∷ results) (cond ∷ ends) (passes results ends)) (sym (behind_same scope (type_at scope) at.next p p _ row e h)) f))

turn_back : (scope : List Value) (nest : Nest) (at : Position) (p : ℕ) → at.next ≡ p → (wanted : List IrType) (n : _) (row : Row_of-Op n) (ends : List Label) → OnlySize (row_breaks scope nest at row)
    → TypedOps (type_at scope) p (view_row row) → TypedEnd (types_after (type_at scope) p (view_row row)) wanted ends (passes wanted ends)
    → OnlySize (row_breaks scope nest at row ++ breaks_at (past_row row at).last (turn_rules (at_end scope at row) wanted ends))
turn_back scope nest at p e wanted n row ends x h f =
    append_only (row_breaks scope nest at row) _ x
    (ends_turn (at_end scope at row) _ wanted ends (subst (λ U. TypedEnd U wanted ends (passes wanted ends)) (sym (behind_same scope (type_at scope) at.next p p _ row e h)) f))

mutual
  unfolding row_breaks kind_breaks arm_breaks else_breaks for_breaks while_breaks before_breaks turn_breaks

  pub row_back : (scope : List Value) (nest : Nest) (at : Position) (p : ℕ) → at.next ≡ p → (n : _) (row : Row_of-Op n)
      → TypedOps (type_at scope) p (view_row row) → NamedOps (has_name scope) (view_row row) → OnlySize (row_breaks scope nest at row)
  row_back scope nest at p e n end_of-Op h g = tt
  row_back scope nest at p e n (more_of-Op packs results kind rest) h g =
      let i : kind_labels kind ≡ plain.inner_labels (view_kind kind) = inner_same kind in
      let rv = result_values (at.next + kind_labels kind) packs results in
      let here = breaks_at at.last (op_rules scope nest at packs results kind) in
      let inside = kind_breaks scope nest (past 0 1 at) results kind in
      let at2 = past (kind_labels kind + length results) (1 + kind_ops kind) at in
      let p2 = p + (plain.inner_labels (view_kind kind) + length results) in
      let behind_it = row_breaks (scope ++ rv) nest at2 rest in
      let m = moved (with_types (type_at scope) (p + plain.inner_labels (view_kind kind)) results) (type_at (scope ++ rv)) (with_packs (has_name scope) packs) (has_name (scope ++ rv)) (view_row rest) p2
      (sym (types_bound scope (at.next + kind_labels kind) (p + plain.inner_labels (view_kind kind)) packs results (omega arith) h.0.packed)) (sym (names_called scope (at.next + kind_labels kind) packs results h.0.packed)) (h.2, g.2) in
      append_only (here ++ inside) behind_it
      (append_only here inside (fits_op scope nest at at.last packs results kind h.0 g.0) (kind_back scope nest (past 0 1 at) p (omega arith) results kind h.1 g.1))
      (row_back (scope ++ rv) nest at2 p2 (omega arith) _ rest m.0 m.1)

  pub kind_back : (scope : List Value) (nest : Nest) (at : Position) (p : ℕ) → at.next ≡ p → (results : List IrType) (kind : Kind)
      → TypedRegions (type_at scope) p results (view_kind kind) → NamedRegions (has_name scope) (view_kind kind) → OnlySize (kind_breaks scope nest at results kind)
  kind_back scope nest at p e results (Const v) h g = tt
  kind_back scope nest at p e results (Bin op flags a b) h g = tt
  kind_back scope nest at p e results (Cast op flags a) h g = tt
  kind_back scope nest at p e results (Cmp pred a b) h g = tt
  kind_back scope nest at p e results (Select c a b) h g = tt
  kind_back scope nest at p e results (Call func ls) h g = tt
  kind_back scope nest at p e results (If' c (Region' shape row ends) None') h g =
      append_only (arm_breaks scope (opened nest) at results (Region' shape row ends)) []
      (arm_back scope (opened nest) at p e results _ row ends (row_back scope (opened nest) at p e _ row h.0 g.0) h.0 h.1) tt
  kind_back scope nest at p e results (If' c (Region' shape row ends) (Some' (Region' shape2 row2 ends2))) h g =
      let at2 = past_region (Region' shape row ends) at in
      let l : row_labels row ≡ plain.labels_of (view_row row) = labels_same _ row in
      let p2 = p + plain.labels_of (view_row row) in
      append_only (arm_breaks scope (opened nest) at results (Region' shape row ends)) (arm_breaks scope (opened nest) at2 results (Region' shape2 row2 ends2))
      (arm_back scope (opened nest) at p e results _ row ends (row_back scope (opened nest) at p e _ row h.0 g.0) h.0 h.1)
      (arm_back scope (opened nest) at2 p2 (omega arith) results _ row2 ends2 (row_back scope (opened nest) at2 p2 (omega arith) _ row2 h.2 g.1) h.2 h.3)
  kind_back scope nest at p e results (For (ForParts' lower upper step iv args inits (Region' shape row ends))) h g =
      let at1 = past 1 0 at in
      let at2 = past 1 0 at1 in
      let at3 = past_args args at2 in
      let p3 = p + 2 + length args in
      let with_iv = scope ++ arg_values at1.next (iv ∷ []) in
      let in_body = with_iv ++ arg_values at2.next args in
      let body = arm_breaks in_body (looped nest) at3 results (Region' shape row ends) in
      let e1 = types_bound_args scope at1.next (p + 1) (iv ∷ []) (omega arith) in
      let e2 = types_bound_args with_iv at2.next (p + 2) args (omega arith) ∙ ap (λ U. with_types U (p + 2) (arg_types args)) e1 in
      let f1 = names_called_args scope at1.next (iv ∷ []) in
      let f2 = names_called_args with_iv at2.next args ∙ ap (λ M. with_args M args) f1 in
      let t = subst (λ U. TypedOps U p3 (view_row row)) (sym e2) h.0 in
      let n = subst (λ M. NamedOps M (view_row row)) (sym f2) g.2 in
      let x = subst (λ U. TypedEnd (types_after U p3 (view_row row)) results ends (yields results ends)) (sym e2) h.1 in
      append_only (args_breaks false 0 [] scope at1 (iv ∷ []) ++ args_breaks false 0 [] with_iv at2 args) body
      (append_only (args_breaks false 0 [] scope at1 (iv ∷ [])) (args_breaks false 0 [] with_iv at2 args) (named_args 0 [] scope at1 (iv ∷ []) g.0 refl)
      (named_args 0 [] with_iv at2 args (subst (λ M. NamedArgs M args) (sym f1) g.1) (no_types (arg_types args))))
      (arm_back in_body (looped nest) at3 p3 (omega arith) results _ row ends (row_back in_body (looped nest) at3 p3 (omega arith) _ row t n) t x)
  kind_back scope nest at p e results (While (WhileParts' args inits (Region' shape row passed) cond after_args (Region' shape2 row2 ends))) h g =
      let at1 = past 1 0 at in
      let at2 = past_args args at1 in
      let at3 = past_region (Region' shape row passed) at2 in
      let at4 = past_args after_args at3 in
      let l : row_labels row ≡ plain.labels_of (view_row row) = labels_same _ row in
      let p2 = p + 1 + length args in
      let p3 = p + 1 + length args + plain.labels_of (view_row row) in
      let p4 = p + 1 + length args + plain.labels_of (view_row row) + length after_args in
      let in_before = scope ++ arg_values at1.next args in
      let in_after = scope ++ arg_values at3.next after_args in
      let A = args_breaks false 0 [] scope at1 args in
      let B = before_breaks in_before (looped nest) at2 results cond (Region' shape row passed) in
      let C = args_breaks false 0 results scope at3 after_args in
      let D = turn_breaks in_after (looped nest) at4 (arg_types args) (Region' shape2 row2 ends) in
      let e1 = sym (types_bound_args scope at1.next (p + 1) args (omega arith)) in
      let e2 = sym (types_bound_args scope at3.next p3 after_args (omega arith)) in
      let f1 = sym (names_called_args scope at1.next args) in
      let f2 = sym (names_called_args scope at3.next after_args) in
      let t1 = subst (λ U. TypedOps U p2 (view_row row)) e1 h.0 in
      let x1 = subst (λ U. TypedEnd (types_after U p2 (view_row row)) (truth ∷ results) (cond ∷ passed) (passes results passed)) e1 h.1 in
      let t2 = subst (λ U. TypedOps U p4 (view_row row2)) e2 h.3 in
      let x2 = subst (λ U. TypedEnd (types_after U p4 (view_row row2)) (arg_types args) ends (passes (arg_types args) ends)) e2 h.4 in
      let n1 = subst (λ M. NamedOps M (view_row row)) f1 g.1 in
      let n2 = subst (λ M. NamedOps M (view_row row2)) f2 g.3 in
      append_only (A ++ B ++ C) D
      (append_only (A ++ B) C (append_only A B (named_args 0 [] scope at1 args g.0 (no_types (arg_types args)))
      (before_back in_before (looped nest) at2 p2 (omega arith) results cond _ row passed (row_back in_before (looped nest) at2 p2 (omega arith) _ row t1 n1) t1 x1))
      (named_args 0 results scope at3 after_args g.2 h.2))
      (turn_back in_after (looped nest) at4 p4 (omega arith) (arg_types args) _ row2 ends (row_back in_after (looped nest) at4 p4 (omega arith) _ row2 t2 n2) t2 x2)
