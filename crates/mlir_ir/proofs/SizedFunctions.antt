-- A function has no break of a limit exactly where it keeps the limits, and none at all where it is typed and named apart besides.
use Rattle.std.proofs.Common.{◌≡◌, ◌⊎◌, inl, inr, ℕ, ◌+◌, ◌-◌, ◌≤◌, nat_le, true, List, [], ◌∷◌, ◌++◌, length, refl, arith, Option, Some, None}
use Rattle.mlir_ir.specs.declared.rules.Nest.{Nest}
use Rattle.mlir_ir.specs.declared.rules.Position.{Position}
use Rattle.mlir_ir.specs.declared.shape.Shape.{Shape}
use Rattle.mlir_ir.specs.declared.types.Body.{Body}
use Rattle.mlir_ir.specs.declared.types.Func.{Func}
use Rattle.mlir_ir.specs.declared.types.Item.{Item}
use Rattle.mlir_ir.specs.declared.types.Op.{Op}
use Rattle.arith_word.specs.Labels.{label_at}
use Rattle.mlir_ir.specs.Labels.{ops_labels}
use Rattle.mlir_ir.specs.Values.{Value, arg_values}
use Rattle.mlir_ir.specs.Limits.{result_limit, op_limit, item_limit, label_limit, region_limit, loop_limit}
use Rattle.mlir_ir.specs.Rules.{is_short, op_rules, head_rules, return_rules}
use Rattle.mlir_ir.specs.Check.{breaks, breaks_at, past, past_op, past_ops, past_args, op_results, results_of, ops_ops, kind_ops, args_breaks, kind_breaks, ops_breaks, at_item, in_item, items_breaks, past_items, func_begin, is_declaration, outer_values, body_breaks, IsWellFormed}
use Rattle.mlir_ir.specs.Operations as plain
use Rattle.mlir_ir.specs.Sized.{items_count, SizedItems}
use Rattle.mlir_ir.specs.View.{view_kind, view_ops, view_items}
use Rattle.mlir_ir.specs.WellFormed.{IsTyped, IsNamed, IsSized, IsSizedBody, OnlySize, NoSize}
use Rattle.mlir_ir.specs.Within.{ops_labels_within}
use Rattle.mlir_ir.proofs.WithinRegions.{ops_whole, ops_uncut}
use Rattle.mlir_ir.proofs.Agreement.{inner_same}
use Rattle.mlir_ir.proofs.TypedFunctions.{func_forth, func_back}
use Rattle.mlir_ir.proofs.SizedBreaks.{no_append, append_no, no_at, at_no, Within, inner_count_same, op_sized, sized_op, kind_within, within_kind, within_first, within_op, args_sized, sized_args}
use Rattle.std.proofs.lemmas.Bool.{and_from, and_parts, le-leb, leb-true}

pub ops_labels_same : (ops : List Op) → ops_labels ops ≡ plain.labels_of (view_ops ops)
ops_labels_same [] = refl
ops_labels_same (op ∷ ops) = rw (inner_same op.kind, ops_labels_same ops) refl

pub ops_count_same : (ops : List Op) → ops_ops ops ≡ plain.count_of (view_ops ops)
ops_count_same [] = refl
ops_count_same (op ∷ ops) = rw (inner_count_same op.kind, ops_count_same ops) refl

ops_within : (scope : List Value) (nest : Nest) (at : Position) → nest.regions ≤ region_limit → nest.loops ≤ loop_limit → at.ops ≤ op_limit → (ops : List Op) → NoSize (ops_breaks scope nest at ops)
    → Within nest.regions nest.loops at.ops (view_ops ops)
ops_within scope nest at r l o [] h = record { few_ops = omega arith; few_regions = omega arith; few_loops = omega arith; inside = tt }
ops_within scope nest at r l o (op ∷ ops) h =
    let rv = op_results at.next op in
    let here = breaks_at at.last (op_rules scope nest at op.packs op.results op.kind) in
    let inside = kind_breaks scope nest (past 0 1 at) op.results op.kind in
    let c = no_append (here ++ inside) (ops_breaks (scope ++ rv) nest (past_op op at) ops) h in
    let b = no_append here inside c.0 in
    let s = op_sized scope nest at at.last op.packs op.results op.kind b.0 in
    let less = s.few in
    let k = kind_within scope nest (past 0 1 at) r l (omega arith) op.results op.kind s.opens b.1 in
    let count = k.few_ops in
    let same = inner_count_same op.kind in
    let g = ops_within (scope ++ rv) nest (past_op op at) r l (omega arith) ops c.1 in
    record {
      few_ops = omega (arith, g.few_ops);
      few_regions = omega (arith, k.few_regions, g.few_regions);
      few_loops = omega (arith, k.few_loops, g.few_loops);
      inside = (s.own, k.inside, g.inside);
    }

within_ops : (scope : List Value) (nest : Nest) (at : Position) → nest.item_fits ≡ true → (ops : List Op) → Within nest.regions nest.loops at.ops (view_ops ops) → NoSize (ops_breaks scope nest at ops)
within_ops scope nest at f [] h = tt
within_ops scope nest at f (op ∷ ops) h =
    let rv = op_results at.next op in
    let here = breaks_at at.last (op_rules scope nest at op.packs op.results op.kind) in
    let inside = kind_breaks scope nest (past 0 1 at) op.results op.kind in
    let p = within_first nest.regions nest.loops at.ops op.packs op.results (view_kind op.kind) (view_ops ops) h in
    let same : kind_ops op.kind ≡ plain.inner_count (view_kind op.kind) = inner_count_same op.kind in
    let q : Within nest.regions nest.loops (at.ops + (1 + kind_ops op.kind)) (view_ops ops) = rw same p.1 in
    append_no (here ++ inside) (ops_breaks (scope ++ rv) nest (past_op op at) ops)
    (append_no here inside (sized_op scope nest at at.last op.packs op.results op.kind (within_op nest at op.packs op.results op.kind (view_ops ops) f h)) (within_kind scope nest (past 0 1 at) f op.results op.kind p.0))
    (within_ops (scope ++ rv) nest (past_op op at) f ops q)

-- items

-- an item with an operation keeps its limits
item_fits : (scope : List Value) (nest : Nest) (at : Position) (ops : List Op) → NoSize (ops_breaks scope nest at ops) → (ops_labels ops ≡ 0) ⊎ (nest.item_fits ≡ true)
item_fits scope nest at [] h = inl refl
item_fits scope nest at (op ∷ ops) h =
    let here = breaks_at at.last (op_rules scope nest at op.packs op.results op.kind) in
    let inside = kind_breaks scope nest (past 0 1 at) op.results op.kind in
    let c = no_append (here ++ inside) (ops_breaks (scope ++ op_results at.next op) nest (past_op op at) ops) h in
    inr (op_sized scope nest at at.last op.packs op.results op.kind (no_append here inside c.0).0).fits

few_labels : (k : ℕ) (item : Item) → ops_labels_within (region_limit - 1) item.ops ≡ ops_labels item.ops → (ops_labels item.ops ≡ 0) ⊎ ((in_item k item).item_fits ≡ true) → ops_labels item.ops ≤ label_limit
few_labels k item w (inl e) = omega arith
few_labels k item w (inr e) =
    let l = leb-true (ops_labels_within (region_limit - 1) item.ops) label_limit (and_parts (nat_le k item_limit) (nat_le (ops_labels_within (region_limit - 1) item.ops) label_limit) e).1 in
    omega arith

-- an item without a break of a limit keeps the limit of labels
pub item_labels : (k : ℕ) (scope : List Value) (at : Position) (item : Item) → NoSize (ops_breaks scope (in_item k item) at item.ops) → ops_labels item.ops ≤ label_limit
item_labels k scope at item h = few_labels k item (ops_uncut scope (in_item k item) at item.ops h) (item_fits scope (in_item k item) at item.ops h)

items_sized : (func k : ℕ) (scope : List Value) (at : Position) (items : List Item) → at.ops ≤ op_limit → NoSize (items_breaks func k scope at items)
    → SizedItems (view_items items) × (at.ops + items_count (view_items items) ≤ op_limit)
items_sized func k scope at [] o h = (tt, omega arith)
items_sized func k scope at (item ∷ items) o h =
    let here = ops_breaks scope (in_item k item) (at_item func k at) item.ops in
    let more = scope ++ results_of (label_at func k 0) item.ops in
    let c = no_append here (items_breaks func (k + 1) more (past_ops item.ops (at_item func k at)) items) h in
    let w = ops_within scope (in_item k item) (at_item func k at) (omega arith) (omega arith) o item.ops c.0 in
    let count = w.few_ops in
    let same = ops_count_same item.ops in
    let labels : ops_labels item.ops ≤ label_limit = item_labels k scope (at_item func k at) item c.0 in
    let g = items_sized func (k + 1) more (past_ops item.ops (at_item func k at)) items (omega arith) c.1 in (
      (
        record {
          labels = rw (← ops_labels_same item.ops) labels;
          regions = w.few_regions;
          loops = omega (arith, w.few_loops);
          inside = w.inside;
        },
        g.0,
      ),
      omega (arith, g.1),
    )

sized_items : (func k : ℕ) (scope : List Value) (at : Position) (items : List Item) → k + length items ≤ item_limit + 1 → at.ops + items_count (view_items items) ≤ op_limit → SizedItems (view_items items)
    → NoSize (items_breaks func k scope at items)
sized_items func k scope at [] n o h = tt
sized_items func k scope at (item ∷ items) n o h =
    let same = ops_count_same item.ops in
    let i = h.0 in
    let labels : ops_labels item.ops ≤ label_limit = rw (ops_labels_same item.ops) i.labels in
    let deep = i.regions in
    let w : ops_labels_within (region_limit - 1) item.ops ≡ ops_labels item.ops = ops_whole (region_limit - 1) item.ops (omega arith) in
    let f : (in_item k item).item_fits ≡ true =
    and_from (nat_le k item_limit) (nat_le (ops_labels_within (region_limit - 1) item.ops) label_limit) (le-leb k item_limit (omega arith)) (le-leb (ops_labels_within (region_limit - 1) item.ops) label_limit (omega arith)) in
    let v : Within 1 0 at.ops (view_ops item.ops) = record { few_ops = omega arith; few_regions = i.regions; few_loops = omega (arith, i.loops); inside = i.inside } in
    append_no (ops_breaks scope (in_item k item) (at_item func k at) item.ops) (items_breaks func (k + 1) (scope ++ results_of (label_at func k 0) item.ops) (past_ops item.ops (at_item func k at)) items)
    (within_ops scope (in_item k item) (at_item func k at) f item.ops v)
    (sized_items func (k + 1) (scope ++ results_of (label_at func k 0) item.ops) (past_ops item.ops (at_item func k at)) items (omega arith) (omega arith) h.1)

-- functions

items_length : (items : List Item) → length (view_items items) ≡ length items
items_length [] = refl
items_length (item ∷ items) = rw (items_length items) refl

body_sized : (f : Func) (body : Option Body) → NoSize (body_breaks f body) → IsSizedBody body
body_sized f None h = tt
body_sized f (Some body) h =
    let scope = arg_values (label_at f.index 0 0) f.args in
    let begin = past_args f.args (func_begin f) in
    let d = no_append (items_breaks f.index 1 scope begin body.items) _ h in
    let r = no_at _ (return_rules (outer_values f body.items) f.results (length body.items) body.ret) d.1 in
    let few : length body.items ≤ item_limit = leb-true (length body.items) item_limit r in
    let g = items_sized f.index 1 scope begin body.items (omega arith) d.0 in
    record { few = rw (items_length body.items) few; few_ops = omega (arith, g.1); inside = g.0 }

sized_body : (f : Func) (body : Option Body) → IsSizedBody body → NoSize (body_breaks f body)
sized_body f None h = tt
sized_body f (Some body) h =
    let scope = arg_values (label_at f.index 0 0) f.args in
    let begin = past_args f.args (func_begin f) in
    let rules = return_rules (outer_values f body.items) f.results (length body.items) body.ret in
    let few : length body.items ≤ item_limit = rw (← items_length body.items) h.few in
    append_no (items_breaks f.index 1 scope begin body.items) (breaks_at (past_items f.index 1 body.items begin).last rules) (sized_items f.index 1 scope begin body.items (omega arith) (omega (arith, h.few_ops)) h.inside)
    (at_no (past_items f.index 1 body.items begin).last rules (le-leb (length body.items) item_limit few))

pub func_sized : (f : Func) → NoSize (breaks f) → IsSized f
func_sized f h =
    let head = breaks_at (func_begin f).last (head_rules f) in
    let A = args_breaks (is_declaration f.body) 0 [] [] (func_begin f) f.args in
    let c = no_append (head ++ A) (body_breaks f f.body) h in
    let b = no_append head A c.0 in
    let s = and_parts (is_short f.name) (nat_le (length f.results) result_limit) (no_at (func_begin f).last (head_rules f) b.0) in
    record { short = s.0; few = leb-true (length f.results) result_limit s.1; args_sized = args_sized (is_declaration f.body) [] [] (func_begin f) f.args b.1; inside = body_sized f f.body c.1 }

pub sized_func : (f : Func) → IsSized f → NoSize (breaks f)
sized_func f h =
    let head = breaks_at (func_begin f).last (head_rules f) in
    let A = args_breaks (is_declaration f.body) 0 [] [] (func_begin f) f.args in
    append_no (head ++ A) (body_breaks f f.body)
    (append_no head A (at_no (func_begin f).last (head_rules f) (and_from (is_short f.name) (nat_le (length f.results) result_limit) h.short (le-leb (length f.results) result_limit h.few))) (sized_args (is_declaration f.body) [] [] (func_begin f) f.args h.args_sized))
    (sized_body f f.body h.inside)

-- no break at all

none_left : (xs : List Shape) → OnlySize xs → NoSize xs → xs ≡ []
none_left [] h g = refl
none_left (x ∷ xs) h g = absurd (g.0 h.0)

pub well_formed : (f : Func) → IsWellFormed f → IsTyped f × IsNamed f × IsSized f
well_formed f e =
    let p = func_forth f (rw e tt) in
    (p.0, p.1, func_sized f (rw e tt))

pub is_well_formed : (f : Func) → IsTyped f → IsNamed f → IsSized f → IsWellFormed f
is_well_formed f t n s = none_left (breaks f) (func_back f t n) (sized_func f s)
