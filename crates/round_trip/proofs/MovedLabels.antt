-- The labels of a function in the flat module: those of each operation are moved together to its item.
use Rattle.std.proofs.Common.{suc, ◌≡◌, ℕ, ◌+◌, ◌-◌, ◌<◌, ◌≤◌, Bool, List, [], ◌∷◌, refl, ap, ◌∙◌, length, nat_lt, if◌then◌else◌, arith, lt-ltb, le-ltb}
use Rattle.arith_word.specs.Labels.{label_at}
use Rattle.mlir_ir.specs.Labels.{op_labels, ops_labels}
use Rattle.mlir_ir.specs.Limits.{label_limit}
use Rattle.mlir_ir.specs.Operations.{inner_labels}
use Rattle.mlir_ir.specs.View.{view_kind, view_ops, view_items}
use Rattle.mlir_ir.specs.declared.types.Item.{Item}
use Rattle.mlir_ir.specs.declared.types.Op.{Op}
use Rattle.mlir_ir.proofs.SizedFunctions.{ops_labels_same}
use Rattle.round_trip.specs.Flat.{moved, moved_in, singles}
use Rattle.round_trip.specs.Sound.{Each}
use Rattle.round_trip.proofs.HeldResults.{Shifts}

-- operations, of which the first begins at label p, become the items from number n on
abbrev pub OpsShift : (ℕ → ℕ) → ℕ → ℕ → ℕ → List Op → Type 0
OpsShift other func p n [] = Unit {0}
OpsShift other func p n (op ∷ ops) = Shifts other p (label_at func n 0) (op_labels op) × OpsShift other func (p + op_labels op) (n + 1) ops

abbrev pub ItemsShift : (ℕ → ℕ) → ℕ → ℕ → ℕ → List Item → Type 0
ItemsShift other func k n [] = Unit {0}
ItemsShift other func k n (item ∷ items) = OpsShift other func (label_at func k 0) n item.ops × ItemsShift other func (k + 1) (n + length item.ops) items

size_is : (op : Op) → inner_labels (view_kind op.kind) + length op.results ≡ op_labels op
size_is op = let e = ops_labels_same (op ∷ []) in omega (arith, e)

here_label : (func n p j : ℕ) → label_at func n (p + j - p) ≡ label_at func n 0 + j
here_label func n p j = omega arith

ops_shift : (other : ℕ → ℕ) (func : ℕ) (ops : List Op) (p n : ℕ) → ((l : ℕ) → p ≤ l → l < p + ops_labels ops → other l ≡ moved_in func n p (view_ops ops) l) → OpsShift other func p n ops
ops_shift other func [] p n h = tt
ops_shift other func (op ∷ ops) p n h =
    let size = size_is op in
    let end = p + (inner_labels (view_kind op.kind) + length op.results) in
    let next : end ≡ p + op_labels op = omega (arith, size) in
    let rest : ℕ → ℕ = λ l. moved_in func (n + 1) end (view_ops ops) l in (
      λ j less. h (p + j) (omega arith) (omega (arith, less))
          ∙ ap (λ (c : Bool). if c then label_at func n (p + j - p) else rest (p + j)) (lt-ltb (p + j) end (omega (arith, less, next)))
          ∙ here_label func n p j,
      ops_shift other func ops (p + op_labels op) (n + 1)
          (λ l low less. h l (omega (arith, low)) (omega (arith, less))
          ∙ ap (λ (c : Bool). if c then label_at func n (l - p) else rest l) (le-ltb l end (omega (arith, low, next)))
          ∙ ap (λ (x : ℕ). moved_in func (n + 1) x (view_ops ops) l) next),
    )

singles_length : (ops : List Op) → length (singles (view_ops ops)) ≡ length ops
singles_length [] = refl
singles_length (op ∷ ops) = ap suc (singles_length ops)

items_shift : (other : ℕ → ℕ) (func : ℕ) (items : List Item) (k n : ℕ) → Each (λ (item : Item). ops_labels item.ops ≤ label_limit) items → ((l : ℕ) → label_at func k 0 ≤ l → other l ≡ moved func k n (view_items items) l) → ItemsShift other func k n items
items_shift other func [] k n few h = tt
items_shift other func (item ∷ items) k n few h =
    let here = label_at func k 0 in
    let next = label_at func (k + 1) 0 in
    let inside : ℕ → ℕ = λ l. moved_in func n here (view_ops item.ops) l in
    let behind : ℕ → ℕ → ℕ = λ m l. moved func (k + 1) m (view_items items) l in
    let much = n + length (singles (view_ops item.ops)) in
    let opened : (l : ℕ) → here ≤ l → other l ≡ (if nat_lt l next then inside l else behind much l) =
    λ l low. h l low ∙ ap (λ (c : Bool). if c then l else (if nat_lt l next then inside l else behind much l)) (le-ltb l here low) in (
      ops_shift other func item.ops here n
          (λ l low less. opened l low ∙ ap (λ (c : Bool). if c then inside l else behind much l) (lt-ltb l next (omega (arith, few.0, less)))),
      items_shift other func items (k + 1) (n + length item.ops) few.1
          (λ l low. opened l (omega (arith, low)) ∙ ap (λ (c : Bool). if c then inside l else behind much l) (le-ltb l next low)
          ∙ ap (λ (m : ℕ). behind (n + m) l) (singles_length item.ops)),
    )

-- the labels of a body move with its items, and those before them stay
pub body_shift : (func : ℕ) (items : List Item) → Each (λ (item : Item). ops_labels item.ops ≤ label_limit) items → ItemsShift (moved func 1 1 (view_items items)) func 1 1 items
body_shift func items few = items_shift (moved func 1 1 (view_items items)) func items 1 1 few (λ l low. refl)

pub args_stay : (func : ℕ) (items : List Item) (n : ℕ) → n ≤ label_limit → Shifts (moved func 1 1 (view_items items)) (label_at func 0 0) (label_at func 0 0) n
args_stay func [] n few j less = refl
args_stay func (item ∷ items) n few j less =
    let l = label_at func 0 0 + j in
    let below : l < label_at func 1 0 = omega (arith, few, less) in
    ap (λ (c : Bool). if c then l else (if nat_lt l (label_at func 2 0) then moved_in func 1 (label_at func 1 0) (view_ops item.ops) l else moved func 2 (1 + length (singles (view_ops item.ops))) (view_items items) l)) (lt-ltb l (label_at func 1 0) below)
