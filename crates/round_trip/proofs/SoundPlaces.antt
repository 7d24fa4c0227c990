-- The values of a function without breaks have rising labels, so each is found.
use Rattle.std.proofs.Common.{◌≡◌, ℕ, suc, ◌+◌, ◌<◌, ◌≤◌, ◌&&◌, ◌⊎◌, inl, inr, Bool, true, List, [], ◌∷◌, ◌++◌, length, drop, refl, ap, ◌-◌, arith, nat_lt, nat_le, Option, Some, None, slice_get}
use Rattle.std.proofs.lemmas.Bool.Decides.{nat_tests}
use Rattle.mlir_ir.specs.declared.rules.Nest.{Nest}
use Rattle.mlir_ir.specs.declared.rules.Position.{Position}
use Rattle.mlir_ir.specs.declared.types.Arg.{Arg}
use Rattle.mlir_ir.specs.declared.types.Body.{Body}
use Rattle.mlir_ir.specs.declared.types.Func.{Func}
use Rattle.mlir_ir.specs.declared.types.IrType.{IrType}
use Rattle.mlir_ir.specs.declared.types.Item.{Item}
use Rattle.mlir_ir.specs.declared.types.Op.{Op}
use Rattle.arith_word.specs.Labels.{label_at}
use Rattle.mlir_ir.specs.Labels.{kind_labels, op_labels, ops_labels}
use Rattle.mlir_ir.specs.Values.{Value, arg_values, result_values, kind_values, op_values, ops_values, items_values, body_values}
use Rattle.mlir_ir.specs.Rules.{op_rules, arg_rules, is_short, return_rules}
use Rattle.mlir_ir.specs.Limits.{arg_limit, item_limit, label_limit, region_limit}
use Rattle.mlir_ir.specs.Within.{ops_labels_within}
use Rattle.mlir_ir.proofs.WithinRegions.{ops_found}
use Rattle.mlir_ir.specs.Check.{first, breaks_at, past, past_args, past_op, past_ops, past_items, op_results, results_of, op_breaks, ops_breaks, at_item, in_item, items_breaks, kind_breaks, args_breaks, func_begin, is_declaration, outer_values, body_breaks}
use Rattle.round_trip.specs.Sound.{Each}
use Rattle.round_trip.specs.LabelOrder.{Between}
use Rattle.round_trip.proofs.LabelOrder.{append, upper, args_between, results_between, kind_between, value_found}
use Rattle.round_trip.proofs.Tests.{and_parts}
use Rattle.round_trip.proofs.SoundScopes.{none_append, none_at, Found}
use Rattle.round_trip.proofs.SoundOperations.{op_kept}

ops_between : (at : ℕ) (ops : List Op) → Between at (ops_values at ops) (at + ops_labels ops)
ops_between at [] = omega arith
ops_between at (op ∷ ops) =
    let mid = at + kind_labels op.kind in
    let past_it = at + op_labels op in
    append at past_it (at + (op_labels op + ops_labels ops)) (op_values at op) (ops_values past_it ops)
    (append at mid past_it (kind_values at op.kind) (result_values mid op.packs op.results) (kind_between at op.kind) (upper mid (mid + length op.results) past_it (result_values mid op.packs op.results) (omega arith) (results_between mid op.packs op.results)))
    (upper past_it (past_it + ops_labels ops) (at + (op_labels op + ops_labels ops)) (ops_values past_it ops) (omega arith) (ops_between past_it ops))

-- items that hold operations keep the limit of labels
ops_keep : (scope : List Value) (nest : Nest) (at : Position) (ops : List Op) → ops_breaks scope nest at ops ≡ [] → (ops_labels ops ≡ 0) ⊎ (nest.item_fits ≡ true)
ops_keep scope nest at [] h = inl refl
ops_keep scope nest at (op ∷ ops) h =
    let b = none_append (op_breaks scope nest at op) (ops_breaks (scope ++ op_results at.next op) nest (past_op op at) ops) h in
    let c = none_append (breaks_at at.last (op_rules scope nest at op.packs op.results op.kind)) (kind_breaks scope nest (past 0 1 at) op.results op.kind) b.0 in
    inr (op_kept scope nest at at.last op.packs op.results op.kind c.0).0.item

labels_few : (k n m : ℕ) → m ≡ n → (n ≡ 0) ⊎ ((nat_le k item_limit && nat_le m label_limit) ≡ true) → n ≤ label_limit
labels_few k n m same (inl e) = omega arith
labels_few k n m same (inr h) = let a = and_parts (nat_le k item_limit) (nat_le m label_limit) h in grind (arith, nat_tests)

next_item : (func k n : ℕ) → n ≤ label_limit → label_at func k 0 + n ≤ label_at func (k + 1) 0
next_item func k n le = omega arith

same_item : (func k n : ℕ) → label_at func (k + 1 + n) 0 ≤ label_at func (k + suc n) 0
same_item func k n = omega arith

first_item : (func k : ℕ) → label_at func k 0 ≤ label_at func (k + 0) 0
first_item func k = omega arith

items_between : (func k : ℕ) (scope : List Value) (at : Position) (items : List Item) → items_breaks func k scope at items ≡ [] → Between (label_at func k 0) (items_values func k items) (label_at func (k + length items) 0)
items_between func k scope at [] h = first_item func k
items_between func k scope at (item ∷ items) h =
    let scope2 = scope ++ results_of (label_at func k 0) item.ops in
    let at2 = past_ops item.ops (at_item func k at) in
    let b = none_append (ops_breaks scope (in_item k item) (at_item func k at) item.ops) (items_breaks func (k + 1) scope2 at2 items) h in
    let whole = ops_found scope (in_item k item) (at_item func k at) item.ops (ap first b.0) in
    let few = labels_few k (ops_labels item.ops) (ops_labels_within (region_limit - 1) item.ops) whole (ops_keep scope (in_item k item) (at_item func k at) item.ops b.0) in
    let here = label_at func k 0 in
    let mid = label_at func (k + 1) 0 in
    let last = label_at func (k + length (item ∷ items)) 0 in
    append here mid last (ops_values here item.ops) (items_values func (k + 1) items) (upper here (here + ops_labels item.ops) mid (ops_values here item.ops) (next_item func k (ops_labels item.ops) few) (ops_between here item.ops))
    (upper mid (label_at func (k + 1 + length items) 0) last (items_values func (k + 1) items) (same_item func k (length items)) (items_between func (k + 1) scope2 at2 items b.1))

less_limit : (n : ℕ) (a : Bool) → (a && nat_lt n arg_limit) ≡ true → n < 16
less_limit n a h = let p = and_parts a (nat_lt n arg_limit) h in grind (arith, nat_tests)

args_few : (declared : Bool) (n : ℕ) (wanted : List IrType) (scope : List Value) (at : Position) (args : List Arg) → n ≤ 16 → args_breaks declared n wanted scope at args ≡ [] → n + length args ≤ 16
args_few declared n wanted scope at [] le h = omega arith
args_few declared n wanted scope at (arg ∷ args) le h =
    let b = none_append (breaks_at at.last (arg_rules declared n wanted scope arg)) (args_breaks declared (n + 1) (drop 1 wanted) (scope ++ arg_values at.next (arg ∷ [])) (past 1 0 at) args) h in
    let less = less_limit n (is_short arg.name) (none_at at.last (arg_rules declared n wanted scope arg) b.0).3 in
    let more = args_few declared (n + 1) (drop 1 wanted) (scope ++ arg_values at.next (arg ∷ [])) (past 1 0 at) args (omega arith) b.1 in
    omega arith

abbrev body_end : ℕ → Option Body → ℕ
body_end func None = label_at func 1 0
body_end func (Some body) = label_at func (1 + length body.items) 0

head_room : (func n : ℕ) → 0 + n ≤ 16 → label_at func 0 0 + n ≤ label_at func 1 0
head_room func n le = omega arith

body_between : (f : Func) (body : Option Body) → body_breaks f body ≡ [] → Between (label_at f.index 1 0) (body_values f.index body) (body_end f.index body)
body_between f None h = omega arith
body_between f (Some body) h =
    let begin = past_args f.args (func_begin f) in
    let b = none_append (items_breaks f.index 1 (arg_values (label_at f.index 0 0) f.args) begin body.items) (breaks_at (past_items f.index 1 body.items begin).last (return_rules (outer_values f body.items) f.results (length body.items) body.ret)) h in
    items_between f.index 1 (arg_values (label_at f.index 0 0) f.args) begin body.items b.0

pub values_between : (f : Func) (body : Option Body) → args_breaks (is_declaration body) 0 [] [] (func_begin f) f.args ≡ [] → body_breaks f body ≡ []
    → Between (label_at f.index 0 0) (arg_values (label_at f.index 0 0) f.args ++ body_values f.index body) (body_end f.index body)
values_between f body h g =
    let at = label_at f.index 0 0 in
    let few = args_few (is_declaration body) 0 [] [] (func_begin f) f.args (omega arith) h in
    append at (label_at f.index 1 0) (body_end f.index body) (arg_values at f.args) (body_values f.index body)
    (upper at (at + length f.args) (label_at f.index 1 0) (arg_values at f.args) (head_room f.index (length f.args) few) (args_between at f.args)) (body_between f body g)

pub each_of : {X : Type 0} (P : X → Type 0) (xs : List X) → ((k : ℕ) (v : X) → slice_get xs k ≡ Some v → P v) → Each P xs
each_of P [] f = tt
each_of P (x ∷ xs) f = (f 0 x refl, each_of P xs (λ k v e. f (suc k) v e))

pub all_found : (at next : ℕ) (vs : List Value) → Between at vs next → Each (Found vs) vs
all_found at next vs h = each_of (Found vs) vs (λ k v e. value_found at next vs k v h e)
