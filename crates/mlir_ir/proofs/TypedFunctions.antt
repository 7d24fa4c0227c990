-- A function has no break but of limits exactly where it is typed and named apart.
use Rattle.std.proofs.Common.{◌≡◌, ℕ, ◌+◌, true, false, List, [], ◌∷◌, ◌++◌, length, refl, ap, ◌∙◌, sym, subst, arith, Option, Some, None, append_assoc}
use Rattle.mlir_ir.specs.declared.rules.Nest.{Nest}
use Rattle.mlir_ir.specs.declared.rules.Position.{Position}
use Rattle.mlir_ir.specs.declared.shape.Shape.{Shape}
use Rattle.mlir_ir.specs.declared.types.Body.{Body}
use Rattle.mlir_ir.specs.declared.types.Func.{Func}
use Rattle.mlir_ir.specs.declared.types.Item.{Item}
use Rattle.mlir_ir.specs.declared.types.Op.{Op}
use Rattle.arith_word.specs.Labels.{label_at}
use Rattle.mlir_ir.specs.Labels.{kind_labels, op_labels}
use Rattle.mlir_ir.specs.Values.{Value, arg_values, type_at}
use Rattle.mlir_ir.specs.Rules.{has_name, arg_types, op_rules, head_rules, return_rules}
use Rattle.mlir_ir.specs.Check.{breaks, breaks_at, past, past_op, past_ops, past_args, op_results, results_of, args_breaks, kind_breaks, ops_breaks, at_item, in_item, items_breaks, items_results, past_items, func_begin, is_declaration, outer_values, body_breaks}
use Rattle.mlir_ir.specs.Operations as plain
use Rattle.mlir_ir.specs.View.{view_kind, view_ops, view_items}
use Rattle.mlir_ir.specs.Typed.{Types, with_types, types_after, types_after_items, args_typed, passes, TypedEnd, TypedOps, TypedItems}
use Rattle.mlir_ir.specs.Named.{with_packs, with_args, names_after, unnamed, NamedOps, NamedItems}
use Rattle.mlir_ir.specs.WellFormed.{IsTyped, IsTypedBody, IsNamed, IsNamedBody, OnlySize}
use Rattle.mlir_ir.proofs.Agreement.{only_append, append_only, only_at, at_only, op_fits, fits_op, inner_same, args_named, named_args, args_declared, declared_args, have_same}
use Rattle.mlir_ir.proofs.TypedBreaks.{kind_forth, kind_back, moved, no_types}
use Rattle.mlir_ir.proofs.TypedScopes.{types_bound, types_bound_args, names_called, names_called_args}

append_nil : (xs : List Value) → xs ++ [] ≡ xs
append_nil [] = refl
append_nil (x ∷ xs) = ap (λ ys. x ∷ ys) (append_nil xs)

pub ops_behind : (scope : List Value) (T : Types) (b p q : ℕ) (ops : List Op) → b ≡ p → TypedOps T q (view_ops ops) → type_at (scope ++ results_of b ops) ≡ types_after (type_at scope) p (view_ops ops)
ops_behind scope T b p q [] e h = ap type_at (append_nil scope)
ops_behind scope T b p q (op ∷ ops) e h =
    let i : kind_labels op.kind ≡ plain.inner_labels (view_kind op.kind) = inner_same op.kind in
    let rv = op_results b op in
    let p2 = p + (plain.inner_labels (view_kind op.kind) + length op.results) in
    let more = ops_behind (scope ++ rv) (with_types T (q + plain.inner_labels (view_kind op.kind)) op.results) (b + op_labels op) p2 (q + (plain.inner_labels (view_kind op.kind) + length op.results)) ops (omega arith) h.2 in
    ap type_at (sym (append_assoc scope rv (results_of (b + op_labels op) ops)))
    ∙ (more ∙ ap (λ U. types_after U p2 (view_ops ops)) (types_bound scope (b + kind_labels op.kind) (p + plain.inner_labels (view_kind op.kind)) op.packs op.results (omega arith) h.0.packed))

pub ops_called : (scope : List Value) (T : Types) (b q : ℕ) (ops : List Op) → TypedOps T q (view_ops ops) → has_name (scope ++ results_of b ops) ≡ names_after (has_name scope) (view_ops ops)
ops_called scope T b q [] h = ap has_name (append_nil scope)
ops_called scope T b q (op ∷ ops) h =
    let rv = op_results b op in
    let more = ops_called (scope ++ rv) (with_types T (q + plain.inner_labels (view_kind op.kind)) op.results) (b + op_labels op) (q + (plain.inner_labels (view_kind op.kind) + length op.results)) ops h.2 in
    ap has_name (sym (append_assoc scope rv (results_of (b + op_labels op) ops)))
    ∙ (more ∙ ap (λ M. names_after M (view_ops ops)) (names_called scope (b + kind_labels op.kind) op.packs op.results h.0.packed))

pub ops_forth : (scope : List Value) (nest : Nest) (at : Position) (p : ℕ) → at.next ≡ p → (ops : List Op) → OnlySize (ops_breaks scope nest at ops)
    → TypedOps (type_at scope) p (view_ops ops) × NamedOps (has_name scope) (view_ops ops)
ops_forth scope nest at p e [] h = (tt, tt)
ops_forth scope nest at p e (op ∷ ops) h =
    let i : kind_labels op.kind ≡ plain.inner_labels (view_kind op.kind) = inner_same op.kind in
    let rv = op_results at.next op in
    let here = breaks_at at.last (op_rules scope nest at op.packs op.results op.kind) in
    let inside = kind_breaks scope nest (past 0 1 at) op.results op.kind in
    let at2 = past_op op at in
    let p2 = p + (plain.inner_labels (view_kind op.kind) + length op.results) in
    let c = only_append (here ++ inside) (ops_breaks (scope ++ rv) nest at2 ops) h in
    let b = only_append here inside c.0 in
    let f = op_fits scope nest at at.last op.packs op.results op.kind b.0 in
    let g = kind_forth scope nest (past 0 1 at) p (omega arith) op.results op.kind b.1 in
    let r = ops_forth (scope ++ rv) nest at2 p2 (omega arith) ops c.1 in
    let m = moved (type_at (scope ++ rv)) (with_types (type_at scope) (p + plain.inner_labels (view_kind op.kind)) op.results) (has_name (scope ++ rv)) (with_packs (has_name scope) op.packs) (view_ops ops) p2
    (types_bound scope (at.next + kind_labels op.kind) (p + plain.inner_labels (view_kind op.kind)) op.packs op.results (omega arith) f.0.packed) (names_called scope (at.next + kind_labels op.kind) op.packs op.results f.0.packed) r in
    ((f.0, g.0, m.0), (f.1, g.1, m.1))

pub ops_back : (scope : List Value) (nest : Nest) (at : Position) (p : ℕ) → at.next ≡ p → (ops : List Op)
    → TypedOps (type_at scope) p (view_ops ops) → NamedOps (has_name scope) (view_ops ops) → OnlySize (ops_breaks scope nest at ops)
ops_back scope nest at p e [] h g = tt
ops_back scope nest at p e (op ∷ ops) h g =
    let i : kind_labels op.kind ≡ plain.inner_labels (view_kind op.kind) = inner_same op.kind in
    let rv = op_results at.next op in
    let here = breaks_at at.last (op_rules scope nest at op.packs op.results op.kind) in
    let inside = kind_breaks scope nest (past 0 1 at) op.results op.kind in
    let at2 = past_op op at in
    let p2 = p + (plain.inner_labels (view_kind op.kind) + length op.results) in
    let m = moved (with_types (type_at scope) (p + plain.inner_labels (view_kind op.kind)) op.results) (type_at (scope ++ rv)) (with_packs (has_name scope) op.packs) (has_name (scope ++ rv)) (view_ops ops) p2
    (sym (types_bound scope (at.next + kind_labels op.kind) (p + plain.inner_labels (view_kind op.kind)) op.packs op.results (omega arith) h.0.packed)) (sym (names_called scope (at.next + kind_labels op.kind) op.packs op.results h.0.packed)) (h.2, g.2) in
    append_only (here ++ inside) (ops_breaks (scope ++ rv) nest at2 ops)
    (append_only here inside (fits_op scope nest at at.last op.packs op.results op.kind h.0 g.0) (kind_back scope nest (past 0 1 at) p (omega arith) op.results op.kind h.1 g.1))
    (ops_back (scope ++ rv) nest at2 p2 (omega arith) ops m.0 m.1)

-- items

pub items_behind : (scope : List Value) (T : Types) (func k : ℕ) (items : List Item) → TypedItems T func k (view_items items) → type_at (scope ++ items_results func k items) ≡ types_after_items (type_at scope) func k (view_items items)
items_behind scope T func k [] h = ap type_at (append_nil scope)
items_behind scope T func k (item ∷ items) h =
    let b = label_at func k 0 in
    let rv = results_of b item.ops in
    ap type_at (sym (append_assoc scope rv (items_results func (k + 1) items)))
    ∙ (items_behind (scope ++ rv) (types_after T b (view_ops item.ops)) func (k + 1) items h.1 ∙ ap (λ U. types_after_items U func (k + 1) (view_items items)) (ops_behind scope T b b b item.ops refl h.0))

pub items_forth : (func k : ℕ) (scope : List Value) (at : Position) (items : List Item) → OnlySize (items_breaks func k scope at items)
    → TypedItems (type_at scope) func k (view_items items) × NamedItems (has_name scope) (view_items items)
items_forth func k scope at [] h = (tt, tt)
items_forth func k scope at (item ∷ items) h =
    let b = label_at func k 0 in
    let rv = results_of b item.ops in
    let c = only_append (ops_breaks scope (in_item k item) (at_item func k at) item.ops) (items_breaks func (k + 1) (scope ++ rv) (past_ops item.ops (at_item func k at)) items) h in
    let g = ops_forth scope (in_item k item) (at_item func k at) b refl item.ops c.0 in
    let r = items_forth func (k + 1) (scope ++ rv) (past_ops item.ops (at_item func k at)) items c.1 in (
      (g.0, subst (λ U. TypedItems U func (k + 1) (view_items items)) (ops_behind scope (type_at scope) b b b item.ops refl g.0) r.0),
      (g.1, subst (λ M. NamedItems M (view_items items)) (ops_called scope (type_at scope) b b item.ops g.0) r.1),
    )

pub items_back : (func k : ℕ) (scope : List Value) (at : Position) (items : List Item) → TypedItems (type_at scope) func k (view_items items) → NamedItems (has_name scope) (view_items items)
    → OnlySize (items_breaks func k scope at items)
items_back func k scope at [] h g = tt
items_back func k scope at (item ∷ items) h g =
    let b = label_at func k 0 in
    let rv = results_of b item.ops in
    append_only (ops_breaks scope (in_item k item) (at_item func k at) item.ops) (items_breaks func (k + 1) (scope ++ rv) (past_ops item.ops (at_item func k at)) items)
    (ops_back scope (in_item k item) (at_item func k at) b refl item.ops h.0 g.0)
    (items_back func (k + 1) (scope ++ rv) (past_ops item.ops (at_item func k at)) items
    (subst (λ U. TypedItems U func (k + 1) (view_items items)) (sym (ops_behind scope (type_at scope) b b b item.ops refl h.0)) h.1)
    (subst (λ M. NamedItems M (view_items items)) (sym (ops_called scope (type_at scope) b b item.ops h.0)) g.1))

-- functions

abbrev pub func_breaks : Func → Option Body → List Shape
func_breaks f body = breaks_at (func_begin f).last (head_rules f) ++ args_breaks (is_declaration body) 0 [] [] (func_begin f) f.args ++ body_breaks f body

body_forth : (f : Func) (body : Option Body) → OnlySize (func_breaks f body) → IsTypedBody f body × IsNamedBody f body
body_forth f None h =
    let head = breaks_at (func_begin f).last (head_rules f) in
    let A = args_breaks true 0 [] [] (func_begin f) f.args in
    let c = only_append (head ++ A) [] h in
    (tt, args_declared 0 [] (func_begin f) f.args (only_append head A c.0).1)
body_forth f (Some body) h =
    let L = label_at f.index 0 0 in
    let scope = arg_values L f.args in
    let begin = past_args f.args (func_begin f) in
    let head = breaks_at (func_begin f).last (head_rules f) in
    let A = args_breaks false 0 [] [] (func_begin f) f.args in
    let c = only_append (head ++ A) (body_breaks f (Some body)) h in
    let b = only_append head A c.0 in
    let d = only_append (items_breaks f.index 1 scope begin body.items) _ c.1 in
    let r = only_at _ (return_rules (outer_values f body.items) f.results (length body.items) body.ret) d.1 in
    let n = args_named 0 [] [] (func_begin f) f.args b.1 in
    let g = items_forth f.index 1 scope begin body.items d.0 in
    let et : type_at scope ≡ args_typed f.index f.args = types_bound_args [] L L f.args refl in
    let en : has_name scope ≡ with_args unnamed f.args = names_called_args [] L f.args in
    let ends : TypedEnd (type_at (outer_values f body.items)) f.results body.ret (passes f.results body.ret) = record { in_scope = r.0; typed = sym (have_same (outer_values f body.items) f.results body.ret) ∙ r.1; counted = r.2 } in (
      record {
        inside = subst (λ U. TypedItems U f.index 1 (view_items body.items)) et g.0;
        returned =
            subst (λ U. TypedEnd (types_after_items U f.index 1 (view_items body.items)) f.results body.ret (passes f.results body.ret)) et
            (subst (λ U. TypedEnd U f.results body.ret (passes f.results body.ret)) (items_behind scope (type_at scope) f.index 1 body.items g.0) ends);
      },
      record { args_named = n.0; inside = subst (λ M. NamedItems M (view_items body.items)) en g.1 },
    )

pub func_forth : (f : Func) → OnlySize (breaks f) → IsTyped f × IsNamed f
func_forth f h =
    let head = breaks_at (func_begin f).last (head_rules f) in
    let A = args_breaks (is_declaration f.body) 0 [] [] (func_begin f) f.args in
    let b = only_append head A (only_append (head ++ A) (body_breaks f f.body) h).0 in
    let g = body_forth f f.body h in
    (g.0, record { head = (only_at _ (head_rules f) b.0).1; inside = g.1 })

body_back : (f : Func) (body : Option Body) → OnlySize (breaks_at (func_begin f).last (head_rules f)) → IsTypedBody f body → IsNamedBody f body → OnlySize (func_breaks f body)
body_back f None h t n =
    let head = breaks_at (func_begin f).last (head_rules f) in
    let A = args_breaks true 0 [] [] (func_begin f) f.args in
    append_only (head ++ A) [] (append_only head A h (declared_args 0 [] (func_begin f) f.args n)) tt
body_back f (Some body) h t n =
    let L = label_at f.index 0 0 in
    let scope = arg_values L f.args in
    let begin = past_args f.args (func_begin f) in
    let head = breaks_at (func_begin f).last (head_rules f) in
    let A = args_breaks false 0 [] [] (func_begin f) f.args in
    let et : args_typed f.index f.args ≡ type_at scope = sym (types_bound_args [] L L f.args refl) in
    let en : with_args unnamed f.args ≡ has_name scope = sym (names_called_args [] L f.args) in
    let ti = subst (λ U. TypedItems U f.index 1 (view_items body.items)) et t.inside in
    let ni = subst (λ M. NamedItems M (view_items body.items)) en n.inside in
    let r1 = subst (λ U. TypedEnd (types_after_items U f.index 1 (view_items body.items)) f.results body.ret (passes f.results body.ret)) et t.returned in
    let r2 = subst (λ U. TypedEnd U f.results body.ret (passes f.results body.ret)) (sym (items_behind scope (type_at scope) f.index 1 body.items ti)) r1 in
    let rules = return_rules (outer_values f body.items) f.results (length body.items) body.ret in
    append_only (head ++ A) (body_breaks f (Some body)) (append_only head A h (named_args 0 [] [] (func_begin f) f.args n.args_named (no_types (arg_types f.args))))
    (append_only (items_breaks f.index 1 scope begin body.items) (breaks_at (past_items f.index 1 body.items begin).last rules) (items_back f.index 1 scope begin body.items ti ni)
    (at_only (past_items f.index 1 body.items begin).last rules r2.in_scope (have_same (outer_values f body.items) f.results body.ret ∙ r2.typed) r2.counted))

pub func_back : (f : Func) → IsTyped f → IsNamed f → OnlySize (breaks f)
func_back f t n = body_back f f.body (at_only (func_begin f).last (head_rules f) refl n.head refl) t n.inside
