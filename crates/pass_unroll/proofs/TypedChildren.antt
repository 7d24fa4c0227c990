-- The child of a well-formed function is well formed but for the limits.
use Rattle.std.proofs.Common.{◌≡◌, ℕ, ◌+◌, ◌*◌, ◌≤◌, length, ◌∙◌, arith}
use Rattle.std.proofs.Math.Nat.{mul-le-mul_left}
use Rattle.mlir_ir.specs.Check.{breaks, IsWellFormed}
use Rattle.mlir_ir.specs.Limits.{label_limit}
use Rattle.mlir_ir.specs.Operations.{labels_of}
use Rattle.mlir_ir.specs.WellFormed.{OnlySize}
use Rattle.mlir_ir.specs.declared.types.Func.{Func}
use Rattle.pass_copy.specs.Fresh.{fresh_names}
use Rattle.pass_copy.specs.ItemLabels.{DoesItemFit}
use Rattle.pass_copy.specs.Renamed.{names_of}
use Rattle.pass_copy.specs.Renaming.{renamed}
use Rattle.pass_copy.specs.Replaced.{op_labels}
use Rattle.pass_copy.specs.Scopes.{AnyScope}
use Rattle.pass_copy.proofs.LoopScopes.{ScopedThere, any_scope}
use Rattle.pass_copy.proofs.ChildLabels.{child_labels_fit}
use Rattle.pass_copy.proofs.OldNames.{packed_ops, few_names}
use Rattle.pass_copy.proofs.ItemPlaces.{in_item}
use Rattle.pass_copy.proofs.TypedChildren.{are_fresh, few_labels, few_fresh, loop_typed, child_breaks}
use Rattle.pass_unroll.specs.Children.{peel_spans, peeled, IsPeeled, full_spans, unrolled_full, IsUnrolledFull, unroll_spans, unrolled, IsUnrolled}
use Rattle.pass_unroll.specs.Copies.{ForLoop, operation_of}
use Rattle.pass_unroll.specs.declared.plan.Plan.{Plan}
use Rattle.pass_unroll.proofs.TypedCopies.{for_from, lengths}
use Rattle.pass_unroll.proofs.NamedCopies.{peel_names, full_names}
use Rattle.pass_unroll.proofs.TypedPeel.{peel_labels, peel_others, peel_types}
use Rattle.pass_unroll.proofs.NamedUnroll.{unroll_names}
use Rattle.pass_unroll.proofs.TypedLoops.{unroll_others, unroll_types}
use Rattle.pass_unroll.proofs.TypedFull.{full_labels, ends_count, full_others, full_types}

-- the body of a loop that is typed somewhere has no more names than labels
body_names : (t : ℕ) (o : ForLoop) → ScopedThere t AnyScope (operation_of o) → names_of o.body ≤ labels_of o.body
body_names t o h = few_names o.body (packed_ops _ _ o.body h.regions.0)

-- its lists have as many elements as it has results
lists_agree : (t : ℕ) (o : ForLoop) → ScopedThere t AnyScope (operation_of o) → (length o.inits ≡ length o.results) × (length o.ends ≡ length o.results)
lists_agree t o h =
    let loop = for_from h.scope t o.packs o.results o.lower o.upper o.step o.iv o.args o.inits o.body o.ends h.op h.regions in
    let n = lengths h.scope t o.packs o.results o.lower o.upper o.step o.iv o.args o.inits o.body o.ends loop in
    (n.0 ∙ n.1, n.2)

pub peeled_breaks : (f : Func) (t : ℕ) (plan : Plan) (child : Func) → IsWellFormed f → IsPeeled f t plan child → DoesItemFit child t → OnlySize (breaks child)
peeled_breaks f t plan child w p fit =
    let o = p.o in
    let fresh = fresh_names f in
    let g = renamed (peel_spans fresh t plan o) in
    let seg = peeled fresh t plan o in
    let fits = child_labels_fit f w g t seg (operation_of o) child p.stands p.is fit in
    let few = few_labels f w g t seg (operation_of o) child p.stands p.is fits in
    let there = loop_typed f w t (operation_of o) p.stands in
    let item = in_item f w t (operation_of o) p.stands in
    let names = body_names t o there in
    let count = peel_labels fresh t plan o item.whole in
    child_breaks f w g t seg (operation_of o) child p.stands p.is fits AnyScope (any_scope f t) (peel_types fresh t plan o item.whole) (peel_others fresh t plan o item.whole)
    (peel_names fresh label_limit (are_fresh f w) t o plan (omega (arith, names, count, few)))

pub unrolled_full_breaks : (f : Func) (t : ℕ) (plan : Plan) (child : Func) → IsWellFormed f → IsUnrolledFull f t plan child → DoesItemFit child t → OnlySize (breaks child)
unrolled_full_breaks f t plan child w p fit =
    let o = p.o in
    let fresh = fresh_names f in
    let g = renamed (full_spans fresh t plan o) in
    let seg = unrolled_full fresh t plan o in
    let fits = child_labels_fit f w g t seg (operation_of o) child p.stands p.is fit in
    let few = few_labels f w g t seg (operation_of o) child p.stands p.is fits in
    let there = loop_typed f w t (operation_of o) p.stands in
    let item = in_item f w t (operation_of o) p.stands in
    let same_end = item.same_end (t + op_labels (operation_of o)) (omega arith) (omega arith) in
    let names = body_names t o there in
    let lists = lists_agree t o there in
    let n = ends_count fresh t o (length o.results) plan.count t o.inits lists.0 lists.1 in
    let count = full_labels fresh t o plan.step plan.count 0 t plan.lower o.inits in
    let one_more : 1 + names_of o.body ≤ 1 + labels_of o.body = omega (arith, names) in
    let le : plan.count * (1 + names_of o.body) ≤ plan.count * (1 + labels_of o.body) = mul-le-mul_left plan.count one_more in
    child_breaks f w g t seg (operation_of o) child p.stands p.is fits AnyScope (any_scope f t) (full_types fresh t o plan item.whole same_end n) (full_others fresh t o plan item.whole same_end n)
    (full_names fresh label_limit (are_fresh f w) t o plan (omega (arith, le, count, few)))

pub unrolled_breaks : (f : Func) (t factor : ℕ) (plan : Plan) (child : Func) → IsWellFormed f → IsUnrolled f t factor plan child → DoesItemFit child t → OnlySize (breaks child)
unrolled_breaks f t factor plan child w p fit =
    let o = p.o in
    let fresh = fresh_names f in
    let g = renamed (unroll_spans fresh t plan o factor) in
    let seg = unrolled fresh t plan o factor in
    let fits = child_labels_fit f w g t seg (operation_of o) child p.stands p.is fit in
    let few = few_labels f w g t seg (operation_of o) child p.stands p.is fits in
    let there = loop_typed f w t (operation_of o) p.stands in
    let item = in_item f w t (operation_of o) p.stands in
    let packs = few_fresh f w t (operation_of o) p.stands in
    let same_end = item.same_end (t + 2 + length o.args + labels_of o.body) (omega arith) (omega arith) in
    child_breaks f w g t seg (operation_of o) child p.stands p.is fits AnyScope (any_scope f t) (unroll_types fresh t plan o factor item.whole same_end) (unroll_others fresh t plan o factor item.whole same_end)
    (unroll_names fresh label_limit (are_fresh f w) t o plan factor (body_names t o there) packs.packs few)
