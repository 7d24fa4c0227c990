-- The labels of a well-formed function fit.
use Rattle.std.proofs.Common.{◌≡◌, ◌≤◌, List, [], ◌∷◌, length, refl, arith, Option, Some, None}
use Rattle.std.specs.Prelude.{IfSome}
use Rattle.std.specs.List.{All}
use Rattle.std.proofs.lemmas.List.Elements.{All-nil, All-cons}
use Rattle.mlir_ir.specs.declared.types.Body.{Body}
use Rattle.mlir_ir.specs.declared.types.Func.{Func}
use Rattle.mlir_ir.specs.declared.types.Item.{Item}
use Rattle.mlir_ir.specs.Check.{IsWellFormed}
use Rattle.mlir_ir.specs.Limits.{item_limit}
use Rattle.mlir_ir.specs.Loops.{HasFewItems}
use Rattle.mlir_ir.specs.Places.{HasFewLabels, DoLabelsFit}
use Rattle.mlir_ir.specs.Sized.{SizedItems}
use Rattle.mlir_ir.specs.View.{view_items}
use Rattle.mlir_ir.specs.WellFormed.{IsSizedBody}
use Rattle.mlir_ir.proofs.SizedFunctions.{ops_labels_same, well_formed}

items_fit : (items : List Item) → SizedItems (view_items items) → All HasFewLabels items
items_fit [] h = All-nil HasFewLabels
items_fit (item ∷ items) h = All-cons HasFewLabels item items (rw (ops_labels_same item.ops) h.0.labels) (items_fit items h.1)

length_same : (items : List Item) → length (view_items items) ≡ length items
length_same [] = refl
length_same (item ∷ items) = let e = length_same items in omega (arith, e)

body_few : (body : Option Body) → IsSizedBody body → IfSome body (λ (b : Body). length b.items ≤ item_limit)
body_few None h = tt
body_few (Some body) h = let e = length_same body.items in omega (arith, h.few, e)

body_fit : (body : Option Body) → IsSizedBody body → IfSome body (λ (b : Body). All HasFewLabels b.items)
body_fit None h = tt
body_fit (Some body) h = items_fit body.items h.inside

pub few_items : (f : Func) → IsWellFormed f → HasFewItems f
few_items f h = body_few f.body (well_formed f h).2.inside

pub labels_fit : (f : Func) → IsWellFormed f → DoLabelsFit f
labels_fit f h =
    let sized = (well_formed f h).2 in
    record { args_fit = omega (arith, sized.args_sized.few); items_fit = body_fit f.body sized.inside }
