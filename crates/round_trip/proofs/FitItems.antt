-- The operations of a body, which are items of their own in the text, break no rule but limits.
use Rattle.std.proofs.Common.{◌≡◌, ℕ, ◌+◌, ◌≤◌, false, nat_lt, List, [], ◌∷◌, ◌++◌, refl, ap, ◌∙◌, sym, length, arith, append_assoc}
use Rattle.std.proofs.lemmas.Bool.Decides.{nat_tests}
use Rattle.arith_word.specs.Labels.{label_at}
use Rattle.mlir_ir.specs.Calls.{Called, kind_calls, ops_calls, items_calls}
use Rattle.mlir_ir.specs.Canonical.{Naming}
use Rattle.mlir_ir.specs.Labels.{kind_labels}
use Rattle.mlir_ir.specs.Limits.{label_limit, loop_limit}
use Rattle.mlir_ir.specs.Operations.{count_of, inner_labels, labels_of}
use Rattle.mlir_ir.specs.Phrases.{Phrase, Line}
use Rattle.mlir_ir.specs.ScopeFaults.{block_breaks, op_tokens, item_tokens, block_labels, wide_items, defined_by}
use Rattle.mlir_ir.specs.Sized.{SizedOp, SizedOps, SizedRegions, SizedItems, loop_depth, inner_loops, items_count}
use Rattle.mlir_ir.specs.Source.{Block, none, block}
use Rattle.mlir_ir.specs.Values.{Value, result_values}
use Rattle.mlir_ir.specs.View.{view_kind, view_ops, view_items}
use Rattle.mlir_ir.specs.declared.scope_kind.ScopeKind.TheVariants.{Limit}
use Rattle.mlir_ir.specs.declared.types.Item.{Item}
use Rattle.mlir_ir.specs.declared.types.Op.{Op}
use Rattle.round_trip.specs.CanonicalPieces.{kind_piece, items_piece}
use Rattle.round_trip.specs.PiecePhrases.{said}
use Rattle.round_trip.specs.Readable.{Reading, ReadableOps, scope_after, all_ops}
use Rattle.round_trip.specs.Sound.{Each}
use Rattle.round_trip.proofs.FitKinds.{CallFits}
use Rattle.round_trip.proofs.FitOperations.{op_fits, kind_fits}
use Rattle.round_trip.proofs.ReadBlocks.{op_block, block_whole}
use Rattle.round_trip.proofs.ReadItems.{OpsSaid, append_nil, items_said}
use Rattle.round_trip.proofs.ReadOperations.{kind_reads}
use Rattle.round_trip.proofs.SeenUses.{bare, Alike, alike_more, results_alike, no_break}
use Rattle.round_trip.proofs.SoundScopes.{each_parts, each_append}

-- an operation within the limits of lists, loops and labels
pub record OpSized (o : Op) : Type 0 where
  pub alone : SizedOp o.packs o.results (view_kind o.kind)
  pub regions : SizedRegions (view_kind o.kind)
  pub loops : inner_loops (view_kind o.kind) ≤ loop_limit
  pub labels : inner_labels (view_kind o.kind) + length o.results ≤ label_limit

ops_sized : (ops : List Op) → SizedOps (view_ops ops) → loop_depth (view_ops ops) ≤ loop_limit → labels_of (view_ops ops) ≤ label_limit → Each OpSized ops
ops_sized [] h loops labels = tt
ops_sized (o ∷ ops) h loops labels =
    (record { alone = h.0; regions = h.1; loops = omega (arith, loops); labels = omega (arith, labels) }, ops_sized ops h.2 (omega (arith, loops)) (omega (arith, labels)))

pub items_sized : (items : List Item) → SizedItems (view_items items) → Each OpSized (all_ops items)
items_sized [] h = tt
items_sized (item ∷ items) h = each_append OpSized item.ops (all_ops items) (ops_sized item.ops h.0.inside h.0.loops h.0.labels) (items_sized items h.1)

-- calls, operation by operation

abbrev pub CallsKeep : (Called → Type 0) → Op → Type 0
CallsKeep P o = Each P (kind_calls o.results o.kind)

ops_keep : (P : Called → Type 0) (ops : List Op) → Each P (ops_calls ops) → Each (CallsKeep P) ops
ops_keep P [] h = tt
ops_keep P (o ∷ ops) h = let p = each_parts P (kind_calls o.results o.kind) (ops_calls ops) h in (p.0, ops_keep P ops p.1)

pub items_keep : (P : Called → Type 0) (items : List Item) → Each P (items_calls items) → Each (CallsKeep P) (all_ops items)
items_keep P [] h = tt
items_keep P (item ∷ items) h =
    let p = each_parts P (ops_calls item.ops) (items_calls items) h in each_append (CallsKeep P) item.ops (all_ops items) (ops_keep P item.ops p.0) (items_keep P items p.1)

-- the number of operations

ops_count : (xs ys : List Op) → count_of (view_ops (xs ++ ys)) ≡ count_of (view_ops xs) + count_of (view_ops ys)
ops_count [] ys = omega arith
ops_count (x ∷ xs) ys = let more = ops_count xs ys in omega (arith, more)

pub all_count : (items : List Item) → count_of (view_ops (all_ops items)) ≡ items_count (view_items items)
all_count [] = refl
all_count (item ∷ items) = let here = ops_count item.ops (all_ops items) in let more = all_count items in omega (arith, here, more)

-- operations of a body as a block

abbrev OpsBlock : Naming → List Op → Block → Type 0
OpsBlock naming [] b = b ≡ none
OpsBlock naming (o ∷ ops) b =
    (i : ℕ) × (j : ℕ) × (k : ℕ) × (c : Block) × (b ≡ op_block i j k o.packs (kind_piece naming 1 o.results o.kind) c) × OpsBlock naming ops c

ops_block : (naming : Naming) (rest : Phrase) → block rest ≡ none → (ops : List Op) (q : Phrase) → OpsSaid naming rest ops q → OpsBlock naming ops (block q)
ops_block naming rest e [] q h = ap block h ∙ e
ops_block naming rest e (o ∷ ops) q h =
    let w = block_whole 1 h.0 o.packs (kind_piece naming 1 o.results o.kind) h.1 in
    (w.0, w.1, w.2, block h.1, ap block h.2 ∙ w.3, ops_block naming rest e ops h.1 h.3)

-- the block breaks no rule, and has these operations as its items
pub record OpsFit (funcs : List Line) (s scope : List Value) (func n : ℕ) (ops : List Op) (b : Block) : Type 0 where
  pub breaks : block_breaks funcs b 0 s ≡ []
  pub count : length (op_tokens b) ≡ count_of (view_ops ops)
  pub items : length (item_tokens b) ≡ length ops
  pub wide : wide_items b ≡ []
  pub defined : Alike (s ++ defined_by b) (scope_after func n scope ops)

within_limit : (n : ℕ) → n ≤ label_limit → nat_lt label_limit n ≡ false
within_limit n h = grind (arith, nat_tests, h)

module _ (funcs : List Line) (r : Reading) (func : ℕ) where
  items_fit : (s scope : List Value) (n : ℕ) (ops : List Op) (b : Block) → Alike s scope → ReadableOps r func n scope ops → Each OpSized ops → Each (CallsKeep (CallFits funcs r)) ops → OpsBlock r.naming ops b → OpsFit funcs s scope func n ops b
  items_fit s scope n [] b same is sized calls e = record {
    breaks = ap (λ (x : Block). block_breaks funcs x 0 s) e;
    count = ap (λ (x : Block). length (op_tokens x)) e;
    items = ap (λ (x : Block). length (item_tokens x)) e;
    wide = ap wide_items e;
    defined = ap (λ (x : Block). bare (s ++ defined_by x)) e ∙ ap bare (append_nil s) ∙ same;
  }
  items_fit s scope n (o ∷ ops) b same is sized calls e =
      let at = label_at func n 0 in
      let kl = kind_labels o.kind in
      let piece = kind_piece r.naming 1 o.results o.kind in
      let z = sized.0 in
      let k = kind_fits funcs r 0 s scope at 1 o.results o.kind same is.1 z.regions z.alone.few_passed (let l = z.loops in omega (arith, l)) calls.0 e.2 in
      let types = (kind_reads r scope at o.results o.kind is.1 1 e.2).types in
      let here = op_fits funcs 0 s scope e.0 e.1 e.2 o.packs o.results piece (view_kind o.kind) e.3 same is.0 is.3 z.alone.few types k in
      let alone = op_fits funcs 0 s scope e.0 e.1 e.2 o.packs o.results piece (view_kind o.kind) none same is.0 is.3 z.alone.few types k in
      let rv = result_values 0 o.packs o.results in
      let inner = alike_more s scope rv (result_values (at + kl) o.packs o.results) same (results_alike 0 (at + kl) o.packs o.results) in
      let rest = items_fit (s ++ rv) (scope ++ result_values (at + kl) o.packs o.results) (n + 1) ops e.3 inner is.2 sized.1 calls.1 e.5 in
      let count = rest.count in
      let items = rest.items in
      let own = alone.labels in
      let most = z.labels in
      let whole = op_block e.0 e.1 e.2 o.packs piece none in
      let few : nat_lt label_limit (block_labels whole) ≡ false = within_limit (block_labels whole) (omega (arith, own, most)) in
      record {
        breaks = ap (λ (x : Block). block_breaks funcs x 0 s) e.4 ∙ here.breaks ∙ rest.breaks;
        count = ap (λ (x : Block). length (op_tokens x)) e.4 ∙ here.ops ∙ omega (arith, count);
        items = ap (λ (x : Block). length (item_tokens x)) e.4 ∙ omega (arith, items);
        wide = ap wide_items e.4 ∙ (λ t. no_break (nat_lt label_limit (block_labels whole)) e.0 Limit few t ++ rest.wide t);
        defined = ap (λ (x : Block). bare (s ++ defined_by x)) e.4 ∙ ap (λ (vs : List Value). bare (s ++ vs)) here.defined ∙ ap bare (sym (append_assoc s rv (defined_by e.3))) ∙ rest.defined;
      }

-- the items of a body, before what has no operation
pub body_items_fit : (funcs : List Line) (r : Reading) (func : ℕ) (s scope : List Value) (items : List Item) (tok : ℕ) (rest : Phrase) → block rest ≡ none → Alike s scope → ReadableOps r func 1 scope (all_ops items) → Each OpSized (all_ops items)
    → Each (CallsKeep (CallFits funcs r)) (all_ops items) → OpsFit funcs s scope func 1 (all_ops items) (block (said tok (items_piece r.naming items) rest))
body_items_fit funcs r func s scope items tok rest e same is sized calls =
    items_fit funcs r func s scope 1 (all_ops items) (block (said tok (items_piece r.naming items) rest)) same is sized calls (ops_block r.naming rest e (all_ops items) (said tok (items_piece r.naming items) rest) (items_said r.naming rest items tok))
