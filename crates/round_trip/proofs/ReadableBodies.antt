-- Well-formed functions of a module are read back.
use Rattle.std.proofs.Common.{◌≡◌, ℕ, ◌+◌, List, [], ◌∷◌, ◌++◌, length, refl, ap, ◌∙◌, sym, subst, arith, map, suc, ◌≤◌, append_assoc}
use Rattle.mlir_ir.specs.declared.rules.Nest.{Nest}
use Rattle.mlir_ir.specs.declared.rules.Position.{Position}
use Rattle.mlir_ir.specs.Labels.{kind_labels}
use Rattle.mlir_ir.specs.Values.{Value, arg_values, result_values, kind_values}
use Rattle.mlir_ir.specs.Rules.{op_rules}
use Rattle.mlir_ir.specs.Check.{breaks_at, past, past_args, args_breaks, kind_breaks}
use Rattle.mlir_ir.specs.Calls.{kind_calls}
use Rattle.round_trip.specs.Readable.{Reading, ReadsLabels}
use Rattle.round_trip.specs.Sound.{Each}
use Rattle.round_trip.proofs.SoundScopes.{none_append, none_at, each_parts, Found}
use Rattle.round_trip.proofs.SoundOperations.{op_kept}
use Rattle.round_trip.proofs.HeldScopes.{Held, args_held, labels_read, moved_value}
use Rattle.round_trip.proofs.HeldResults.{results_held, packs_reads, Shifts, shifts_part, args_moved}
use Rattle.round_trip.proofs.ReadItems.{append_nil}
use Rattle.round_trip.proofs.ReadableParts.{Keeps, op_free, results_moved}
use Rattle.round_trip.proofs.FreeNames.{names_moved, free_args, free_packs}
use Rattle.round_trip.proofs.KnownTypes.{types_known}
use Rattle.round_trip.proofs.TypeTests.{equal_lengths}
use Rattle.std.proofs.Common.{Option, Some, None}
use Rattle.arith_word.specs.Labels.{label_at}
use Rattle.mlir_ir.specs.declared.types.Body.{Body}
use Rattle.mlir_ir.specs.declared.types.Func.{Func}
use Rattle.mlir_ir.specs.declared.types.Item.{Item}
use Rattle.mlir_ir.specs.declared.types.Op.{Op}
use Rattle.mlir_ir.specs.Calls.{ops_calls, items_calls, body_calls}
use Rattle.mlir_ir.specs.Labels.{op_labels, ops_labels}
use Rattle.mlir_ir.specs.Limits.{label_limit}
use Rattle.mlir_ir.specs.Rules.{return_rules}
use Rattle.mlir_ir.specs.Values.{op_values, ops_values, items_values, body_values}
use Rattle.mlir_ir.specs.Check.{past_op, past_ops, past_items, results_of, items_results, op_breaks, ops_breaks, items_breaks, body_breaks, at_item, in_item, func_begin, is_declaration, outer_values}
use Rattle.round_trip.specs.Flat.{flat_label}
use Rattle.round_trip.specs.Readable.{ReadableOps, ReadableBody, scope_after, all_ops}
use Rattle.round_trip.specs.Sound.{SoundOps, SoundItems, SoundBody}
use Rattle.round_trip.proofs.MovedLabels.{OpsShift, ItemsShift, body_shift, args_stay}
use Rattle.round_trip.proofs.ReadableRows.{scope_moved, kind_kept}

-- the operations of an item that are read back, with the scope behind them
record OpsKept (r : Reading) (func : ℕ) (scope : List Value) (n : ℕ) (ops : List Op) (new : List Value) : Type 0 where
  pub reads : ReadableOps r func n (map (moved_value r.other) scope) ops
  pub held : Each (Held r.naming.values (scope ++ new)) (scope ++ new)
  pub after : scope_after func n (map (moved_value r.other) scope) ops ≡ map (moved_value r.other) (scope ++ new)

ops_kept : (r : Reading) (func : ℕ) (scope : List Value) (nest : Nest) (at : Position) (p n : ℕ) → at.next ≡ p → (ops : List Op) → SoundOps r.naming 1 ops → OpsShift r.other func p n ops → Each (Held r.naming.values scope) scope
    → Each (Found r.naming.values) (ops_values p ops) → Each (Keeps r) (ops_calls ops) → ops_breaks scope nest at ops ≡ [] → OpsKept r func scope n ops (results_of p ops)
ops_kept r func scope nest at p n e [] s sh g f c h =
    let none : scope ≡ scope ++ [] = sym (append_nil scope) in
    record { reads = tt; held = subst (λ (xs : List Value). Each (Held r.naming.values xs) xs) none g; after = ap (map (moved_value r.other)) none }
ops_kept r func scope nest at p n e (op ∷ ops) s sh g f c h =
    let vs = r.naming.values in
    let mv = moved_value r.other in
    let to = label_at func n 0 in
    let kl = kind_labels op.kind in
    let rv = result_values (p + kl) op.packs op.results in
    let new = results_of (p + op_labels op) ops in
    let b = none_append (op_breaks scope nest at op) (ops_breaks (scope ++ result_values (at.next + kl) op.packs op.results) nest (past_op op at) ops) h in
    let d = none_append (breaks_at at.last (op_rules scope nest at op.packs op.results op.kind)) (kind_breaks scope nest (past 0 1 at) op.results op.kind) b.0 in
    let f1 = each_parts (Found vs) (op_values p op) (ops_values (p + op_labels op) ops) f in
    let f2 = each_parts (Found vs) (kind_values p op.kind) rv f1.0 in
    let cs = each_parts (Keeps r) (kind_calls op.results op.kind) (ops_calls ops) c in
    let o = op_kept scope nest at at.last op.packs op.results op.kind d.0 in
    let q = op_free scope nest at at.last op.packs op.results op.kind d.0 in
    let kinds : Shifts r.other p to kl = λ j less. sh.0 j (omega (arith, less)) in
    let moves : Shifts r.other (p + kl) (to + kl) (length op.results) = shifts_part r.other p to (op_labels op) kl (length op.results) (omega arith) sh.0 in
    let k = kind_kept r scope nest (past 0 1 at) p to 1 (omega (arith, e)) op.results op.kind s.1 kinds o.0 g f2.0 cs.0 d.1 in
    let g2 = results_held vs scope (p + kl) op.packs op.results q.0 q.1 q.2 f2.1 g in
    let h2 : ops_breaks (scope ++ rv) nest (past_op op at) ops ≡ [] = subst (λ (x : ℕ). ops_breaks (scope ++ result_values (x + kl) op.packs op.results) nest (past_op op at) ops ≡ []) e b.1 in
    let more = ops_kept r func (scope ++ rv) nest (past_op op at) (p + op_labels op) (n + 1) (omega (arith, e)) ops s.2 sh.1 g2 f1.1 cs.1 h2 in
    let same = scope_moved r.other scope rv (result_values (to + kl) op.packs op.results) (results_moved r.other (p + kl) (to + kl) op.packs op.results q.1 moves) in
    let joins : (scope ++ rv) ++ new ≡ scope ++ (rv ++ new) = append_assoc scope rv new in
    record {
      reads = (packs_reads op.packs (length op.results) q.1 q.2, k, subst (λ (xs : List Value). ReadableOps r func (n + 1) xs ops) same more.reads, (free_packs (map mv scope) scope op.packs (names_moved r.other scope) ∙ q.0, q.1));
      held = subst (λ (xs : List Value). Each (Held vs xs) xs) joins more.held;
      after = sym (ap (λ (xs : List Value). scope_after func (n + 1) xs ops) same) ∙ more.after ∙ ap (map mv) joins;
    }

-- operations behind others
ops_both : (r : Reading) (func : ℕ) (xs ys : List Op) (n : ℕ) (S : List Value) → ReadableOps r func n S xs → ReadableOps r func (n + length xs) (scope_after func n S xs) ys → ReadableOps r func n S (xs ++ ys)
ops_both r func [] ys n S h g = let e : n + 0 ≡ n = omega arith in subst (λ (m : ℕ). ReadableOps r func m S ys) e g
ops_both r func (x ∷ xs) ys n S h g =
    let e : n + suc (length xs) ≡ n + 1 + length xs = omega arith in
    let S2 = S ++ result_values (label_at func n 0 + kind_labels x.kind) x.packs x.results in
    (h.0, h.1, ops_both r func xs ys (n + 1) S2 h.2 (subst (λ (m : ℕ). ReadableOps r func m (scope_after func (n + 1) S2 xs) ys) e g), h.3)

after_both : (func : ℕ) (xs ys : List Op) (n : ℕ) (S : List Value) → scope_after func n S (xs ++ ys) ≡ scope_after func (n + length xs) (scope_after func n S xs) ys
after_both func [] ys n S = let e : n ≡ n + 0 = omega arith in ap (λ (m : ℕ). scope_after func m S ys) e
after_both func (x ∷ xs) ys n S =
    let e : n + 1 + length xs ≡ n + suc (length xs) = omega arith in
    let S2 = S ++ result_values (label_at func n 0 + kind_labels x.kind) x.packs x.results in
    after_both func xs ys (n + 1) S2 ∙ ap (λ (m : ℕ). scope_after func m (scope_after func (n + 1) S2 xs) ys) e

items_kept : (r : Reading) (func k n : ℕ) (scope : List Value) (at : Position) (items : List Item) → SoundItems r.naming items → ItemsShift r.other func k n items → Each (Held r.naming.values scope) scope
    → Each (Found r.naming.values) (items_values func k items) → Each (Keeps r) (items_calls items) → items_breaks func k scope at items ≡ [] → OpsKept r func scope n (all_ops items) (items_results func k items)
items_kept r func k n scope at [] s sh g f c h =
    let none : scope ≡ scope ++ [] = sym (append_nil scope) in
    record { reads = tt; held = subst (λ (xs : List Value). Each (Held r.naming.values xs) xs) none g; after = ap (map (moved_value r.other)) none }
items_kept r func k n scope at (item ∷ items) s sh g f c h =
    let vs = r.naming.values in
    let mv = moved_value r.other in
    let p = label_at func k 0 in
    let rv = results_of p item.ops in
    let new = items_results func (k + 1) items in
    let at2 = past_ops item.ops (at_item func k at) in
    let b = none_append (ops_breaks scope (in_item k item) (at_item func k at) item.ops) (items_breaks func (k + 1) (scope ++ rv) at2 items) h in
    let fs = each_parts (Found vs) (ops_values p item.ops) (items_values func (k + 1) items) f in
    let cs = each_parts (Keeps r) (ops_calls item.ops) (items_calls items) c in
    let o = ops_kept r func scope (in_item k item) (at_item func k at) p n refl item.ops s.0 sh.0 g fs.0 cs.0 b.0 in
    let more = items_kept r func (k + 1) (n + length item.ops) (scope ++ rv) at2 items s.1 sh.1 o.held fs.1 cs.1 b.1 in
    let joins : (scope ++ rv) ++ new ≡ scope ++ (rv ++ new) = append_assoc scope rv new in
    record {
      reads = ops_both r func item.ops (all_ops items) n (map mv scope) o.reads (subst (λ (xs : List Value). ReadableOps r func (n + length item.ops) xs (all_ops items)) (sym o.after) more.reads);
      held = subst (λ (xs : List Value). Each (Held vs xs) xs) joins more.held;
      after = after_both func item.ops (all_ops items) n (map mv scope) ∙ ap (λ (xs : List Value). scope_after func (n + length item.ops) xs (all_ops items)) o.after ∙ more.after ∙ ap (map mv) joins;
    }

pub body_kept : (r : Reading) (f : Func) (body : Option Body) → SoundBody r.naming f body → r.other ≡ flat_label f.index body → length f.args ≤ label_limit → (body_items : (b : Body) → body ≡ Some b → Each (λ (item : Item). ops_labels item.ops ≤ label_limit) b.items)
    → args_breaks (is_declaration body) 0 [] [] (func_begin f) f.args ≡ [] → body_breaks f body ≡ [] → Each (Found r.naming.values) (arg_values (label_at f.index 0 0) f.args ++ body_values f.index body) → Each (Keeps r) (body_calls body) → ReadableBody r f body
body_kept r f None s o few items h g v c = tt
body_kept r f (Some body) s o few items h g v c =
    let vs = r.naming.values in
    let mv = moved_value r.other in
    let begin = past_args f.args (func_begin f) in
    let base = label_at f.index 0 0 in
    let arg_row = arg_values base f.args in
    let new = items_results f.index 1 body.items in
    let b = none_append (items_breaks f.index 1 arg_row begin body.items) (breaks_at (past_items f.index 1 body.items begin).last (return_rules (outer_values f body.items) f.results (length body.items) body.ret)) g in
    let rules = none_at (past_items f.index 1 body.items begin).last (return_rules (outer_values f body.items) f.results (length body.items) body.ret) b.1 in
    let fs = each_parts (Found vs) arg_row (items_values f.index 1 body.items) v in
    let ga = args_held vs 0 [] [] (func_begin f) base refl f.args h fs.0 tt in
    let same : flat_label f.index (Some body) ≡ r.other = sym o in
    let sh = subst (λ (other : ℕ → ℕ). ItemsShift other f.index 1 1 body.items) same (body_shift f.index body.items (items body refl)) in
    let heads = subst (λ (other : ℕ → ℕ). Shifts other base base (length f.args)) same (args_stay f.index body.items (length f.args) few) in
    let stays : map mv arg_row ≡ arg_row = args_moved r.other base base f.args heads in
    let k = items_kept r f.index 1 1 arg_row begin body.items s.1 sh ga fs.1 c b.0 in
    let rets = labels_read r (arg_row ++ new) body.ret k.held rules.0 in (
      subst (λ (xs : List Value). ReadableOps r f.index 1 xs (all_ops body.items)) stays k.reads,
      subst (λ (xs : List Value). ReadsLabels r xs body.ret) (sym k.after ∙ ap (λ (xs : List Value). scope_after f.index 1 xs (all_ops body.items)) stays) rets,
      types_known r (arg_row ++ new) k.held f.results body.ret rules.0 rules.1 (equal_lengths (length body.ret) (length f.results) rules.2),
      free_args 0 [] [] (func_begin f) f.args h [] (λ name. refl),
    )
