-- The items of a body as the resolver reads their canonical pieces: each operation is an item of its own.
use Rattle.std.proofs.Common.{◌≡◌, ℕ, ◌+◌, List, [], ◌∷◌, ◌++◌, refl, ap, ◌∙◌, sym, map}
use Rattle.std.specs.List.{flat_map}
use Rattle.std.proofs.Common.{append_assoc}
use Rattle.arith_word.specs.Labels.{label_at}
use Rattle.mlir_ir.specs.Canonical.{Naming}
use Rattle.mlir_ir.specs.Labels.{kind_labels}
use Rattle.mlir_ir.specs.Operations as plain
use Rattle.mlir_ir.specs.Operations.{OpList, inner_labels}
use Rattle.mlir_ir.specs.Phrases.{Phrase}
use Rattle.mlir_ir.specs.Resolved.{ops_of, items_of, values_of, values_of_items}
use Rattle.mlir_ir.specs.Source.{none, block}
use Rattle.mlir_ir.specs.Values.{Value, result_values}
use Rattle.mlir_ir.specs.View.{view_kind, view_ops, view_items}
use Rattle.mlir_ir.specs.declared.types.Item.{Item}
use Rattle.mlir_ir.specs.declared.types.Op.{Op}
use Rattle.round_trip.specs.CanonicalPieces.{packs_piece, whole_piece, kind_piece, ops_piece, items_piece}
use Rattle.round_trip.specs.Flat.{other_kind, other_ops, singles}
use Rattle.round_trip.specs.PiecePhrases.{said}
use Rattle.round_trip.specs.Readable.{Reading, ReadableOps, scope_after, all_ops}
use Rattle.round_trip.proofs.FlatLabels.{kind_labels_stay}
use Rattle.round_trip.proofs.ReadBlocks.{op_block, block_whole}
use Rattle.round_trip.proofs.ReadOperations.{kind_reads}
use Rattle.round_trip.proofs.ReadRows.{op_read}

pub append_nil : {A : Type 0} (xs : List A) → xs ++ [] ≡ xs
append_nil [] = refl
append_nil (x ∷ xs) = ap (λ l. x ∷ l) (append_nil xs)

-- the phrase says these operations in turn, and then the rest
abbrev pub OpsSaid : Naming → Phrase → List Op → Phrase → Type 0
OpsSaid naming rest [] q = q ≡ rest
OpsSaid naming rest (op ∷ ops) q = (tok : ℕ) × (more : Phrase) × (q ≡ said tok (whole_piece 1 (packs_piece op.packs) (kind_piece naming 1 op.results op.kind)) more) × OpsSaid naming rest ops more

ops_said : (naming : Naming) (rest : Phrase) (ops : List Op) (tok : ℕ) (tail : Phrase) (more : List Op) → OpsSaid naming rest more tail → OpsSaid naming rest (ops ++ more) (said tok (ops_piece naming ops) tail)
ops_said naming rest [] tok tail more h = h
ops_said naming rest (op ∷ ops) tok tail more h = (tok, _, refl, ops_said naming rest ops _ tail more h)

pub items_said : (naming : Naming) (rest : Phrase) (items : List Item) (tok : ℕ) → OpsSaid naming rest (all_ops items) (said tok (items_piece naming items) rest)
items_said naming rest [] tok = refl
items_said naming rest (item ∷ items) tok = ops_said naming rest item.ops tok _ (all_ops items) (items_said naming rest items _)

-- an operation as an item of its own
abbrev pub single : (ℕ → ℕ) → Op → OpList
single other op = plain.next op.packs op.results (other_kind other (view_kind op.kind)) plain.nil

single_values : (other : ℕ → ℕ) (op : Op) (at : ℕ) → values_of at (single other op) ≡ result_values (at + kind_labels op.kind) op.packs op.results
single_values other op at = (λ t. result_values (at + kind_labels_stay other op.kind t) op.packs op.results ++ []) ∙ append_nil (result_values (at + kind_labels op.kind) op.packs op.results)

ops_read : (r : Reading) (func : ℕ) (rest : Phrase) → block rest ≡ none → (ops : List Op) (n : ℕ) (scope : List Value) (q : Phrase) → OpsSaid r.naming rest ops q → ReadableOps r func n scope ops
    → items_of r.naming.funcs func n (block q) scope ≡ map (single r.other) ops
ops_read r func rest e [] n scope q h is = ap (λ b. items_of r.naming.funcs func n b scope) (ap block h ∙ e)
ops_read r func rest e (op ∷ ops) n scope q h is =
    let funcs = r.naming.funcs in
    let at = label_at func n 0 in
    let piece = kind_piece r.naming 1 op.results op.kind in
    let w = block_whole 1 h.0 op.packs piece h.1 in
    let k = kind_reads r scope at op.results op.kind is.1 1 w.2 in
    let item : ops_of funcs (op_block w.0 w.1 w.2 op.packs piece none) scope at ≡ single r.other op =
    op_read funcs scope at w.0 w.1 w.2 op.packs op.results piece (other_kind r.other (view_kind op.kind)) (kind_labels op.kind) none is.0 (kind_labels_stay r.other op.kind) k.types k.does in
    ap (λ b. items_of funcs func n b scope) (ap block h.2 ∙ w.3)
    ∙ (λ t. item t ∷ items_of funcs func (n + 1) (block h.1) (scope ++ values_of at (item t)))
    ∙ (λ t. single r.other op ∷ items_of funcs func (n + 1) (block h.1) (scope ++ single_values r.other op at t))
    ∙ ap (λ l. single r.other op ∷ l) (ops_read r func rest e ops (n + 1) (scope ++ result_values (at + kind_labels op.kind) op.packs op.results) h.1 h.3 is.2)

map_both : {A B : Type 0} (f : A → B) (xs ys : List A) → map f (xs ++ ys) ≡ map f xs ++ map f ys
map_both f [] ys = refl
map_both f (x ∷ xs) ys = ap (λ l. f x ∷ l) (map_both f xs ys)

singles_are : (other : ℕ → ℕ) (ops : List Op) → map (other_ops other) (singles (view_ops ops)) ≡ map (single other) ops
singles_are other [] = refl
singles_are other (op ∷ ops) = ap (λ l. single other op ∷ l) (singles_are other ops)

pub flat_items : (other : ℕ → ℕ) (items : List Item) → map (other_ops other) (flat_map singles (view_items items)) ≡ map (single other) (all_ops items)
flat_items other [] = refl
flat_items other (item ∷ items) =
    map_both (other_ops other) (singles (view_ops item.ops)) (flat_map singles (view_items items))
    ∙ (λ t. singles_are other item.ops t ++ flat_items other items t)
    ∙ sym (map_both (single other) item.ops (all_ops items))

-- the items of a body, before what has no operation
pub items_read : (r : Reading) (func : ℕ) (scope : List Value) (items : List Item) (tok : ℕ) (rest : Phrase) → block rest ≡ none → ReadableOps r func 1 scope (all_ops items)
    → items_of r.naming.funcs func 1 (block (said tok (items_piece r.naming items) rest)) scope ≡ map (other_ops r.other) (flat_map singles (view_items items))
items_read r func scope items tok rest e is = ops_read r func rest e (all_ops items) 1 scope _ (items_said r.naming rest items tok) is ∙ sym (flat_items r.other items)

-- the values in scope behind them
after_values : (other : ℕ → ℕ) (func : ℕ) (ops : List Op) (n : ℕ) (scope : List Value) → scope ++ values_of_items func n (map (single other) ops) ≡ scope_after func n scope ops
after_values other func [] n scope = append_nil scope
after_values other func (op ∷ ops) n scope =
    sym (append_assoc scope (values_of (label_at func n 0) (single other op)) (values_of_items func (n + 1) (map (single other) ops)))
    ∙ (λ t. (scope ++ single_values other op (label_at func n 0) t) ++ values_of_items func (n + 1) (map (single other) ops))
    ∙ after_values other func ops (n + 1) (scope ++ result_values (label_at func n 0 + kind_labels op.kind) op.packs op.results)

pub items_after : (other : ℕ → ℕ) (func : ℕ) (items : List Item) (scope : List Value) → scope ++ values_of_items func 1 (map (other_ops other) (flat_map singles (view_items items))) ≡ scope_after func 1 scope (all_ops items)
items_after other func items scope = ap (λ l. scope ++ values_of_items func 1 l) (flat_items other items) ∙ after_values other func (all_ops items) 1 scope
