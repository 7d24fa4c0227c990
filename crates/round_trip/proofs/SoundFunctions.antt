-- Whole functions and modules that are well formed are sound.
use Rattle.std.proofs.Common.{◌≡◌, ℕ, ◌+◌, List, [], ◌∷◌, ◌++◌, length, refl, arith, Option, Some, None}
use Rattle.mlir_ir.specs.declared.rules.Nest.{Nest}
use Rattle.mlir_ir.specs.declared.rules.Position.{Position}
use Rattle.mlir_ir.specs.declared.types.Body.{Body}
use Rattle.mlir_ir.specs.declared.types.Func.{Func}
use Rattle.mlir_ir.specs.declared.types.Item.{Item}
use Rattle.mlir_ir.specs.declared.types.Op.{Op}
use Rattle.arith_word.specs.Labels.{label_at}
use Rattle.mlir_ir.specs.Labels.{kind_labels, op_labels}
use Rattle.mlir_ir.specs.Values.{Value, arg_values, result_values, kind_values, op_values, ops_values, items_values, body_values, func_values}
use Rattle.mlir_ir.specs.Rules.{op_rules, head_rules, return_rules}
use Rattle.mlir_ir.specs.Check.{breaks_at, past, past_args, past_op, past_ops, past_items, results_of, items_results, op_breaks, ops_breaks, at_item, in_item, items_breaks, kind_breaks, args_breaks, func_begin, is_declaration, outer_values, body_breaks, IsWellFormed}
use Rattle.mlir_ir.specs.Canonical.{Naming, naming_of}
use Rattle.round_trip.specs.Sound.{Each, SoundOps, SoundItems, SoundBody, SoundFunc, SoundFuncs}
use Rattle.round_trip.specs.Widths.{Named, WideArgs, WideOps, WideItems, WideBody, IsWide}
use Rattle.round_trip.proofs.SoundScopes.{none_append, none_at, each_append, each_parts, Found, Good, uses_find, args_good, results_good}
use Rattle.round_trip.proofs.SoundOperations.{op_kept}
use Rattle.round_trip.proofs.SoundRows.{kind_sound}
use Rattle.round_trip.proofs.SoundPlaces.{values_between, all_found}

ops_sound : (naming : Naming) (scope : List Value) (nest : Nest) (at : Position) (ops : List Op) → Each (Good naming.values) scope → Each (Found naming.values) (ops_values at.next ops) → WideOps (Named naming.funcs) ops → ops_breaks scope nest at ops ≡ []
    → nest.regions ≡ 1 → SoundOps naming 1 ops × Each (Good naming.values) (results_of at.next ops)
ops_sound naming scope nest at [] g f w h one = (tt, tt)
ops_sound naming scope nest at (op ∷ ops) g f w h one =
    let vs = naming.values in
    let q = at.next + kind_labels op.kind in
    let rv = result_values q op.packs op.results in
    let b = none_append (op_breaks scope nest at op) (ops_breaks (scope ++ rv) nest (past_op op at) ops) h in
    let c = none_append (breaks_at at.last (op_rules scope nest at op.packs op.results op.kind)) (kind_breaks scope nest (past 0 1 at) op.results op.kind) b.0 in
    let f1 = each_parts (Found vs) (op_values at.next op) (ops_values (at.next + op_labels op) ops) f in
    let f2 = each_parts (Found vs) (kind_values at.next op.kind) rv f1.0 in
    let o = op_kept scope nest at at.last op.packs op.results op.kind c.0 in
    let gr = results_good vs q op.packs op.results o.1 w.0 f2.1 in
    let k = kind_sound naming scope nest (past 0 1 at) at.next (omega arith) op.results op.kind o.0 g f2.0 w.0 w.1 c.1 in
    let s = ops_sound naming (scope ++ rv) nest (past_op op at) ops (each_append (Good vs) scope rv g gr) f1.1 w.2 b.1 one in
    ((o.1, rw one at k, s.0), each_append (Good vs) rv (results_of (at.next + op_labels op) ops) gr s.1)

items_sound : (naming : Naming) (func k : ℕ) (scope : List Value) (at : Position) (items : List Item) → Each (Good naming.values) scope → Each (Found naming.values) (items_values func k items) → WideItems (Named naming.funcs) items → items_breaks func k scope at items ≡ []
    → SoundItems naming items × Each (Good naming.values) (items_results func k items)
items_sound naming func k scope at [] g f w h = (tt, tt)
items_sound naming func k scope at (item ∷ items) g f w h =
    let vs = naming.values in
    let rv = results_of (label_at func k 0) item.ops in
    let at2 = past_ops item.ops (at_item func k at) in
    let b = none_append (ops_breaks scope (in_item k item) (at_item func k at) item.ops) (items_breaks func (k + 1) (scope ++ rv) at2 items) h in
    let fs = each_parts (Found vs) (ops_values (label_at func k 0) item.ops) (items_values func (k + 1) items) f in
    let o = ops_sound naming scope (in_item k item) (at_item func k at) item.ops g fs.0 w.0 b.0 refl in
    let s = items_sound naming func (k + 1) (scope ++ rv) at2 items (each_append (Good vs) scope rv g o.1) fs.1 w.1 b.1 in
    ((o.0, s.0), each_append (Good vs) rv (items_results func (k + 1) items) o.1 s.1)

body_sound : (naming : Naming) (f : Func) (body : Option Body) → args_breaks (is_declaration body) 0 [] [] (func_begin f) f.args ≡ [] → body_breaks f body ≡ []
    → Each (Found naming.values) (arg_values (label_at f.index 0 0) f.args ++ body_values f.index body) → WideArgs f.args → WideBody (Named naming.funcs) body → SoundBody naming f body
body_sound naming f None h g v a w = a
body_sound naming f (Some body) h g v a w =
    let vs = naming.values in
    let begin = past_args f.args (func_begin f) in
    let arg_row = arg_values (label_at f.index 0 0) f.args in
    let results = items_results f.index 1 body.items in
    let b = none_append (items_breaks f.index 1 arg_row begin body.items) (breaks_at (past_items f.index 1 body.items begin).last (return_rules (outer_values f body.items) f.results (length body.items) body.ret)) g in
    let r = none_at (past_items f.index 1 body.items begin).last (return_rules (outer_values f body.items) f.results (length body.items) body.ret) b.1 in
    let fs = each_parts (Found vs) arg_row (items_values f.index 1 body.items) v in
    let ga = args_good vs 0 [] [] (func_begin f) (label_at f.index 0 0) refl f.args h a fs.0 in
    let s = items_sound naming f.index 1 arg_row begin body.items ga.0 fs.1 w b.0 in
    (ga.1, s.0, uses_find naming (outer_values f body.items) body.ret (each_append (Good vs) arg_row results ga.0 s.1) r.0)

pub func_sound : (names : List (List ℕ)) (f : Func) → IsWellFormed f → IsWide (Named names) f → SoundFunc names f
func_sound names f h w =
    let head = breaks_at (func_begin f).last (head_rules f) in
    let args = args_breaks (is_declaration f.body) 0 [] [] (func_begin f) f.args in
    let b = none_append (head ++ args) (body_breaks f f.body) h in
    let a = none_append head args b.0 in
    let r = none_at (func_begin f).last (head_rules f) a.0 in
    let found = all_found (label_at f.index 0 0) _ (func_values f) (values_between f f.body a.1 b.1) in
    (r.1, w.1, body_sound (naming_of names f) f f.body a.1 b.1 found w.0 w.2)

pub funcs_sound : (names : List (List ℕ)) (fs : List Func) → Each IsWellFormed fs → Each (IsWide (Named names)) fs → SoundFuncs names fs
funcs_sound names [] h w = tt
funcs_sound names (f ∷ fs) h w = (func_sound names f h.0 w.0, funcs_sound names fs h.1 w.1)
