-- In a well-formed function the labels of the results that are named with a value are labels of the function, so they fit.
use Rattle.std.proofs.Common.{◌≡◌, ℕ, ◌+◌, ◌-◌, ◌^◌, ◌<◌, ◌≤◌, ◌&&◌, nat_lt, nat_le, true, List, [], ◌∷◌, ◌++◌, length, take, drop, refl, arith, Option, Some, None, All}
use Rattle.std.proofs.lemmas.Bool.{and_parts, leb-true}
use Rattle.std.proofs.lemmas.List.Elements.{All-nil, All-cons, All-append}
use Rattle.arith_word.specs.Labels.{label_at}
use Rattle.mlir_ir.specs.declared.types.Arg.{Arg}
use Rattle.mlir_ir.specs.declared.types.Body.{Body}
use Rattle.mlir_ir.specs.declared.types.Func.{Func}
use Rattle.mlir_ir.specs.declared.types.IrType.{IrType}
use Rattle.mlir_ir.specs.declared.types.Item.{Item}
use Rattle.mlir_ir.specs.declared.types.Op.{Op}
use Rattle.mlir_ir.specs.declared.types.Pack.{Pack}
use Rattle.mlir_ir.specs.declared.types.Region.{Region', Row_of-Op, end_of-Op, more_of-Op}
use Rattle.mlir_ir.specs.declared.types.Kind.{Kind, Const, Bin, Cast, Cmp, Select, Call, If', For, While, None', Some'}
use Rattle.mlir_ir.specs.declared.types.ForParts.{ForParts'}
use Rattle.mlir_ir.specs.declared.types.WhileParts.{WhileParts'}
use Rattle.mlir_ir.specs.Check.{IsWellFormed}
use Rattle.mlir_ir.specs.Labels.{row_labels, kind_labels, op_labels, ops_labels}
use Rattle.mlir_ir.specs.Limits.{item_limit}
use Rattle.mlir_ir.specs.Operations as plain
use Rattle.mlir_ir.specs.Rules.{packs_hold}
use Rattle.mlir_ir.specs.Sized.{SizedItems}
use Rattle.mlir_ir.specs.Typed.{Types, TypedOps, TypedRegions, TypedItems, types_after}
use Rattle.mlir_ir.specs.Values.{Value, arg_values, pack_values, result_values, row_values, kind_values, ops_values, items_values, body_values, func_values}
use Rattle.mlir_ir.specs.View.{view_row, view_kind, view_ops, view_items}
use Rattle.mlir_ir.specs.WellFormed.{IsTypedBody, IsSizedBody}
use Rattle.mlir_ir.proofs.SizedFunctions.{ops_labels_same, well_formed}
use Rattle.scev_text.specs.Kept.{DoesFit}

-- the labels of the results that are named with a value come before `behind`
abbrev Fits : ℕ → Value → Type 0
Fits behind v = v.label + v.count ≤ behind + v.place

args_fit : (behind at : ℕ) (args : List Arg) → at + length args ≤ behind → All (Fits behind) (arg_values at args)
args_fit behind at [] h = All-nil (Fits behind)
args_fit behind at (arg ∷ args) h = All-cons (Fits behind) _ _ (omega arith) (args_fit behind (at + 1) args (omega arith))

pack_fits : (behind at : ℕ) (pack : Pack) (place : ℕ) (tys : List IrType) → at + pack.count ≤ behind + place → All (Fits behind) (pack_values at pack place tys)
pack_fits behind at pack place [] h = All-nil (Fits behind)
pack_fits behind at pack place (ty ∷ tys) h = All-cons (Fits behind) _ _ h (pack_fits behind (at + 1) pack (place + 1) tys (omega arith))

results_fit : (behind at : ℕ) (packs : List Pack) (tys : List IrType) (n : ℕ) → packs_hold packs n ≡ true → at + n ≤ behind → All (Fits behind) (result_values at packs tys)
results_fit behind at [] tys n held h = All-nil (Fits behind)
results_fit behind at (pack ∷ packs) tys n held h =
    let both = and_parts (nat_lt 0 pack.count && nat_le pack.count n) (packs_hold packs (n - pack.count)) held in
    let few : pack.count ≤ n = leb-true pack.count n (and_parts (nat_lt 0 pack.count) (nat_le pack.count n) both.0).1 in
    All-append (Fits behind) (pack_values at pack 0 (take pack.count tys)) (result_values (at + pack.count) packs (drop pack.count tys))
    (pack_fits behind at pack 0 (take pack.count tys) (omega arith))
    (results_fit behind (at + pack.count) packs (drop pack.count tys) (n - pack.count) both.1 (omega arith))

-- all results are in packs, wherever operations stand
abbrev mutual
  HoldPacks : plain.OpList → Type 0
  HoldPacks plain.nil = Unit {0}
  HoldPacks (plain.next packs results kind rest) = (packs_hold packs (length results) ≡ true) × HoldInside kind × HoldPacks rest

  HoldInside : plain.OpKind → Type 0
  HoldInside (plain.Simple does) = Unit {0}
  HoldInside (plain.If c first firsts has_else other others) = HoldPacks first × HoldPacks other
  HoldInside (plain.For lower upper step iv args inits body ends) = HoldPacks body
  HoldInside (plain.While args inits before passed cond after_args after ends) = HoldPacks before × HoldPacks after

mutual
  typed_hold : (T : Types) (at : ℕ) (ops : plain.OpList) → TypedOps T at ops → HoldPacks ops
  typed_hold T at plain.nil h = tt
  typed_hold T at (plain.next packs results kind rest) h = (h.0.packed, inside_hold T at results kind h.1, typed_hold _ _ rest h.2)

  inside_hold : (T : Types) (at : ℕ) (results : List IrType) (kind : plain.OpKind) → TypedRegions T at results kind → HoldInside kind
  inside_hold T at results (plain.Simple does) h = tt
  inside_hold T at results (plain.If c first firsts has_else other others) h = (typed_hold _ _ first h.0, typed_hold _ _ other h.2)
  inside_hold T at results (plain.For lower upper step iv args inits body ends) h = typed_hold _ _ body h.0
  inside_hold T at results (plain.While args inits before passed cond after_args after ends) h = (typed_hold _ _ before h.0, typed_hold _ _ after h.3)

mutual
  row_fits : (behind at : ℕ) (m : _) (row : Row_of-Op m) → HoldPacks (view_row row) → at + row_labels row ≤ behind → All (Fits behind) (row_values at row)
  row_fits behind at m end_of-Op held h = All-nil (Fits behind)
  row_fits behind at m (more_of-Op packs results kind rest) held h =
      let here = result_values (at + kind_labels kind) packs results in
      let later = row_values (at + kind_labels kind + length results) rest in
      All-append (Fits behind) (kind_values at kind ++ here) later
      (All-append (Fits behind) (kind_values at kind) here (kind_fits behind at kind held.1 (omega arith)) (results_fit behind (at + kind_labels kind) packs results (length results) held.0 (omega arith)))
      (row_fits behind (at + kind_labels kind + length results) _ rest held.2 (omega arith))

  kind_fits : (behind at : ℕ) (kind : Kind) → HoldInside (view_kind kind) → at + kind_labels kind ≤ behind → All (Fits behind) (kind_values at kind)
  kind_fits behind at (Const v) held h = All-nil (Fits behind)
  kind_fits behind at (Bin op flags a b) held h = All-nil (Fits behind)
  kind_fits behind at (Cast op flags a) held h = All-nil (Fits behind)
  kind_fits behind at (Cmp pred a b) held h = All-nil (Fits behind)
  kind_fits behind at (Select c a b) held h = All-nil (Fits behind)
  kind_fits behind at (Call func passed) held h = All-nil (Fits behind)
  kind_fits behind at (If' c (Region' shape row ends) None') held h =
      All-append (Fits behind) (row_values at row) [] (row_fits behind at _ row held.0 (omega arith)) (All-nil (Fits behind))
  kind_fits behind at (If' c (Region' shape row ends) (Some' (Region' shape2 other others))) held h =
      All-append (Fits behind) (row_values at row) (row_values (at + row_labels row) other) (row_fits behind at _ row held.0 (omega arith)) (row_fits behind (at + row_labels row) _ other held.1 (omega arith))
  kind_fits behind at (For (ForParts' lower upper step iv args inits (Region' shape row ends))) held h =
      All-append (Fits behind) (arg_values (at + 1) (iv ∷ args)) (row_values (at + 2 + length args) row)
      (All-cons (Fits behind) _ _ (omega arith) (args_fit behind (at + 1 + 1) args (omega arith)))
      (row_fits behind (at + 2 + length args) _ row held (omega arith))
  kind_fits behind at (While (WhileParts' args inits (Region' shape row passed) cond after_args (Region' shape2 after ends))) held h =
      let in_before = at + 1 + length args in
      let in_after = in_before + row_labels row in
      let first = arg_values (at + 1) args in
      let turn = arg_values in_after after_args in
      All-append (Fits behind) (first ++ row_values in_before row ++ turn) (row_values (in_after + length after_args) after)
      (All-append (Fits behind) (first ++ row_values in_before row) turn
      (All-append (Fits behind) first (row_values in_before row) (args_fit behind (at + 1) args (omega arith)) (row_fits behind in_before _ row held.0 (omega arith)))
      (args_fit behind in_after after_args (omega arith)))
      (row_fits behind (in_after + length after_args) _ after held.1 (omega arith))

ops_fit : (behind at : ℕ) (ops : List Op) → HoldPacks (view_ops ops) → at + ops_labels ops ≤ behind → All (Fits behind) (ops_values at ops)
ops_fit behind at [] held h = All-nil (Fits behind)
ops_fit behind at (op ∷ ops) held h =
    let inside = kind_values at op.kind in
    let here = result_values (at + kind_labels op.kind) op.packs op.results in
    All-append (Fits behind) (inside ++ here) (ops_values (at + op_labels op) ops)
    (All-append (Fits behind) inside here (kind_fits behind at op.kind held.1 (omega arith)) (results_fit behind (at + kind_labels op.kind) op.packs op.results (length op.results) held.0 (omega arith)))
    (ops_fit behind (at + op_labels op) ops held.2 (omega arith))

items_fit : (T : Types) (func k : ℕ) (items : List Item) → func < 256 → k + length items ≤ item_limit + 1 → TypedItems T func k (view_items items) → SizedItems (view_items items) → All DoesFit (items_values func k items)
items_fit T func k [] f few typed sized = All-nil DoesFit
items_fit T func k (item ∷ items) f few typed sized =
    let same = ops_labels_same item.ops in
    let labels = sized.0.labels in
    All-append DoesFit (ops_values (label_at func k 0) item.ops) (items_values func (k + 1) items)
    (ops_fit (2 ^ 32) (label_at func k 0) item.ops (typed_hold _ _ (view_ops item.ops) typed.0) (omega (arith, same, labels)))
    (items_fit (types_after T (label_at func k 0) (view_ops item.ops)) func (k + 1) items f (omega arith) typed.1 sized.1)

view_length : (items : List Item) → length (view_items items) ≡ length items
view_length [] = refl
view_length (item ∷ items) = rw (view_length items) refl

body_fits : (f : Func) (body : Option Body) → f.index < 256 → IsTypedBody f body → IsSizedBody body → All DoesFit (body_values f.index body)
body_fits f None lt typed sized = All-nil DoesFit
body_fits f (Some body) lt typed sized =
    let same = view_length body.items in
    let few = sized.few in
    items_fit _ f.index 1 body.items lt (omega (arith, same, few)) typed.inside sized.inside

pub values_fit : (f : Func) → f.index < 256 → IsWellFormed f → All DoesFit (func_values f)
values_fit f lt formed =
    let w = well_formed f formed in
    let few = w.2.args_sized.few in
    All-append DoesFit (arg_values (label_at f.index 0 0) f.args) (body_values f.index f.body) (args_fit (2 ^ 32) (label_at f.index 0 0) f.args (omega (arith, few))) (body_fits f f.body lt w.0 w.2.inside)
