-- The canonical text of a printable module has no long name.
use Rattle.std.proofs.Common.{◌≡◌, ℕ, ◌+◌, ◌&&◌, Bool, true, false, List, [], ◌∷◌, ◌++◌, refl, map, length, codes, Option, None, Some, if◌then◌else◌}
use Rattle.std.specs.List.{list_all}
use Rattle.arith_word.specs.Labels.{label_at}
use Rattle.mlir_ir.specs.Canonical.{Naming, naming_of}
use Rattle.mlir_ir.specs.Check.{IsWellFormed}
use Rattle.mlir_ir.specs.Labels.{row_labels, kind_labels, op_labels}
use Rattle.mlir_ir.specs.Rules.{is_short}
use Rattle.mlir_ir.specs.ScopeFaults.{long_names}
use Rattle.mlir_ir.specs.Sized.{SizedOps, SizedRegions, SizedItems}
use Rattle.mlir_ir.specs.Values.{Value, arg_values, result_values, row_values, kind_values, ops_values, op_values, items_values, body_values, func_values}
use Rattle.mlir_ir.specs.View.{view_row, view_kind, view_ops, view_items}
use Rattle.mlir_ir.specs.WellFormed.{IsSized, IsSizedBody}
use Rattle.mlir_ir.specs.declared.types.Arg.{Arg}
use Rattle.mlir_ir.specs.declared.types.Body.{Body}
use Rattle.mlir_ir.specs.declared.types.Func.{Func}
use Rattle.mlir_ir.specs.declared.types.Item.{Item}
use Rattle.mlir_ir.specs.declared.types.Op.{Op}
use Rattle.mlir_ir.specs.declared.types.Pack.{Pack}
use Rattle.mlir_ir.specs.declared.types.Region.{Region', Row_of-Op, end_of-Op, more_of-Op}
use Rattle.mlir_ir.specs.declared.types.Kind.{Kind, Const, Bin, Cast, Cmp, Select, Call, If', For, While, None', Some'}
use Rattle.mlir_ir.specs.declared.types.ForParts.{ForParts'}
use Rattle.mlir_ir.specs.declared.types.WhileParts.{WhileParts'}
use Rattle.mlir_ir.proofs.SizedFunctions.{well_formed}
use Rattle.round_trip.specs.CanonicalPieces.{ops_piece, items_piece, body_piece, funcs_piece, module_piece, word, blank}
use Rattle.round_trip.specs.Pieces.{empty, ◌<>◌, placed}
use Rattle.round_trip.specs.Sound.{Each}
use Rattle.round_trip.specs.Widths.{IsPrintable}
use Rattle.round_trip.proofs.HeldResults.{results_named}
use Rattle.round_trip.proofs.ShortNames.{brief, brief_names, Short, params_brief, packs_brief, types_brief, arrow_brief, symbol_brief, ends_brief, kind_brief}
use Rattle.round_trip.proofs.SoundScopes.{each_append}
use Rattle.round_trip.proofs.Tests.{and_parts}

-- the names of values

abbrev ShortValue : Value → Type 0
ShortValue v = Short v.name

args_short : (at : ℕ) (args : List Arg) → list_all (λ (arg : Arg). is_short arg.name) args ≡ true → Each ShortValue (arg_values at args)
args_short at [] h = tt
args_short at (arg ∷ args) h = let p = and_parts (is_short arg.name) (list_all (λ (other : Arg). is_short other.name) args) h in (p.0, args_short (at + 1) args p.1)

packs_short : (packs : List Pack) → list_all (λ (pack : Pack). is_short pack.name) packs ≡ true → Each (λ (pack : Pack). Short pack.name) packs
packs_short [] h = tt
packs_short (pack ∷ packs) h = let p = and_parts (is_short pack.name) (list_all (λ (other : Pack). is_short other.name) packs) h in (p.0, packs_short packs p.1)

mutual
  row_short : (at : ℕ) (n : _) (row : Row_of-Op n) → SizedOps (view_row row) → Each ShortValue (row_values at row)
  row_short at n end_of-Op h = tt
  row_short at n (more_of-Op packs results kind rest) h =
      let rv = result_values (at + kind_labels kind) packs results in
      each_append ShortValue (kind_values at kind ++ rv) (row_values (at + kind_labels kind + length results) rest)
      (each_append ShortValue (kind_values at kind) rv (kind_short at kind h.1) (results_named Short (at + kind_labels kind) packs results (packs_short packs h.0.short)))
      (row_short (at + kind_labels kind + length results) _ rest h.2)

  kind_short : (at : ℕ) (kind : Kind) → SizedRegions (view_kind kind) → Each ShortValue (kind_values at kind)
  kind_short at (Const v) h = tt
  kind_short at (Bin op flags a b) h = tt
  kind_short at (Cast op flags a) h = tt
  kind_short at (Cmp pred a b) h = tt
  kind_short at (Select c a b) h = tt
  kind_short at (Call func uses) h = tt
  kind_short at (If' c (Region' shape row ends) None') h = each_append ShortValue (row_values at row) [] (row_short at _ row h.0) tt
  kind_short at (If' c (Region' shape row ends) (Some' (Region' shape2 row2 ends2))) h =
      each_append ShortValue (row_values at row) (row_values (at + row_labels row) row2) (row_short at _ row h.0) (row_short (at + row_labels row) _ row2 h.1)
  kind_short at (For (ForParts' lower upper step iv args inits (Region' shape row ends))) h =
      each_append ShortValue (arg_values (at + 1) (iv ∷ args)) (row_values (at + 2 + length args) row)
      ((and_parts (is_short iv.name) true h.0.short).0, args_short (at + 1 + 1) args h.1.short) (row_short (at + 2 + length args) _ row h.2)
  kind_short at (While (WhileParts' args inits (Region' shape row passed) cond after_args (Region' shape2 row2 ends))) h =
      let before = at + 1 + length args in
      let after = before + row_labels row in
      each_append ShortValue (arg_values (at + 1) args ++ row_values before row ++ arg_values after after_args) (row_values (after + length after_args) row2)
      (each_append ShortValue (arg_values (at + 1) args ++ row_values before row) (arg_values after after_args)
      (each_append ShortValue (arg_values (at + 1) args) (row_values before row) (args_short (at + 1) args h.0.short) (row_short before _ row h.1)) (args_short after after_args h.2.short))
      (row_short (after + length after_args) _ row2 h.3)

ops_short : (at : ℕ) (ops : List Op) → SizedOps (view_ops ops) → Each ShortValue (ops_values at ops)
ops_short at [] h = tt
ops_short at (o ∷ ops) h =
    let rv = result_values (at + kind_labels o.kind) o.packs o.results in
    each_append ShortValue (op_values at o) (ops_values (at + op_labels o) ops)
    (each_append ShortValue (kind_values at o.kind) rv (kind_short at o.kind h.1) (results_named Short (at + kind_labels o.kind) o.packs o.results (packs_short o.packs h.0.short))) (ops_short (at + op_labels o) ops h.2)

items_short : (func k : ℕ) (items : List Item) → SizedItems (view_items items) → Each ShortValue (items_values func k items)
items_short func k [] h = tt
items_short func k (item ∷ items) h = each_append ShortValue (ops_values (label_at func k 0) item.ops) (items_values func (k + 1) items) (ops_short (label_at func k 0) item.ops h.0.inside) (items_short func (k + 1) items h.1)

body_short : (func : ℕ) (body : Option Body) → IsSizedBody body → Each ShortValue (body_values func body)
body_short func None h = tt
body_short func (Some body) h = items_short func 1 body.items h.inside

values_short : (f : Func) → IsSized f → Each ShortValue (func_values f)
values_short f h =
    let at = label_at f.index 0 0 in
    each_append ShortValue (arg_values at f.args) (body_values f.index f.body) (args_short at f.args h.args_sized.short) (body_short f.index f.body h.inside)

-- texts

module _ (naming : Naming) (values : Each ShortValue naming.values) (names : Each Short naming.funcs) where
  ops_brief : (ops : List Op) → SizedOps (view_ops ops) → brief (ops_piece naming ops) ≡ true
  ops_brief [] h = refl
  ops_brief (o ∷ ops) h = rw (packs_brief o.packs h.0.short, kind_brief naming values names 1 o.results o.kind h.1) (ops_brief ops h.2)

  items_brief : (items : List Item) → SizedItems (view_items items) → brief (items_piece naming items) ≡ true
  items_brief [] h = refl
  items_brief (item ∷ items) h = rw (ops_brief item.ops h.0.inside) (items_brief items h.1)

private_brief : (private : Bool) → brief (if private then word (codes "private") <> blank else empty) ≡ true
private_brief true = refl
private_brief false = refl

body_brief : (names : List (List ℕ)) (f : Func) (body : Option Body) → Each ShortValue (func_values f) → Each Short names → IsSized f → IsSizedBody body → brief (body_piece (naming_of names f) f body) ≡ true
body_brief names f None values short h inside = rw (private_brief f.private, symbol_brief f.name h.short, types_brief (map (λ (arg : Arg). arg.ty) f.args), arrow_brief f.results) refl
body_brief names f (Some body) values short h inside =
    rw (private_brief f.private, symbol_brief f.name h.short, params_brief f.args h.args_sized.short, arrow_brief f.results, items_brief (naming_of names f) values short body.items inside.inside, ends_brief (naming_of names f) values short body.ret) refl

funcs_brief : (names : List (List ℕ)) (fs : List Func) → Each Short names → Each IsWellFormed fs → brief (funcs_piece names fs) ≡ true
funcs_brief names [] short h = refl
funcs_brief names (f ∷ fs) short h =
    let sized = (well_formed f h.0).2 in
    λ i. body_brief names f f.body (values_short f sized) short sized sized.inside i && funcs_brief names fs short h.1 i

names_short : (fs : List Func) → Each IsWellFormed fs → Each Short (map (λ (f : Func). f.name) fs)
names_short [] h = tt
names_short (f ∷ fs) h = ((well_formed f h.0).2.short, names_short fs h.1)

-- the tokens of a canonical text have no long name
pub text_short : (fs : List Func) → IsPrintable fs → long_names 0 (placed 0 (module_piece fs)) ≡ []
text_short fs h = brief_names (module_piece fs) (funcs_brief (map (λ (f : Func). f.name) fs) fs (names_short fs h.well_formed) h.well_formed)
