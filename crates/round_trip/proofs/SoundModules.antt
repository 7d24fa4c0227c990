-- Calls that fit go to functions with names, so a printable module is sound.
use Rattle.std.proofs.Common.{◌≡◌, ℕ, zero, suc, ◌<◌, List, [], ◌∷◌, ◌++◌, length, arith, Option, Some, None, map, true, slice_index_or}
use Rattle.mlir_ir.specs.declared.types.Body.{Body}
use Rattle.mlir_ir.specs.declared.types.Func.{Func}
use Rattle.mlir_ir.specs.declared.types.Item.{Item}
use Rattle.mlir_ir.specs.declared.types.Op.{Op}
use Rattle.mlir_ir.specs.declared.types.Region.{Region', Row_of-Op, end_of-Op, more_of-Op}
use Rattle.mlir_ir.specs.declared.types.Kind.{Kind, Const, Bin, Cast, Cmp, Select, Call, If', For, While, None', Some'}
use Rattle.mlir_ir.specs.declared.types.ForParts.{ForParts'}
use Rattle.mlir_ir.specs.declared.types.WhileParts.{WhileParts'}
use Rattle.mlir_ir.specs.Names.{is_name}
use Rattle.mlir_ir.specs.Rules.{head_rules}
use Rattle.mlir_ir.specs.Check.{breaks_at, args_breaks, func_begin, is_declaration, body_breaks, IsWellFormed}
use Rattle.mlir_ir.specs.Calls.{Called, row_calls, kind_calls, ops_calls, items_calls, body_calls, func_calls}
use Rattle.round_trip.specs.Sound.{Each, SoundModule}
use Rattle.round_trip.specs.Widths.{WideRow, WideKind, WideOps, WideItems, WideBody, IsWide, HasWidths, Named, IsPrintable}
use Rattle.round_trip.proofs.SoundScopes.{none_append, none_at, each_parts}
use Rattle.round_trip.proofs.SoundPlaces.{each_of}
use Rattle.round_trip.proofs.SoundFunctions.{funcs_sound}

module _ (P : ℕ → Type 0) where
  abbrev Any : ℕ → Type 0
  Any func = Unit {0}

  abbrev Keeps : Called → Type 0
  Keeps call = P call.func

  mutual
    row_named : (n : _) (row : Row_of-Op n) → WideRow Any row → Each Keeps (row_calls row) → WideRow P row
    row_named n end_of-Op w c = tt
    row_named n (more_of-Op packs results kind rest) w c =
        let b = each_parts Keeps (kind_calls results kind) (row_calls rest) c in
        (w.0, kind_named results kind w.1 b.0, row_named _ rest w.2 b.1)

    kind_named : (results : _) (kind : Kind) → WideKind Any kind → Each Keeps (kind_calls results kind) → WideKind P kind
    kind_named results (Const v) w c = tt
    kind_named results (Bin op flags a b) w c = tt
    kind_named results (Cast op flags a) w c = tt
    kind_named results (Cmp pred a b) w c = tt
    kind_named results (Select x a b) w c = tt
    kind_named results (Call func uses) w c = c.0
    kind_named results (If' x (Region' shape row ends) None') w c = let b = each_parts Keeps (row_calls row) [] c in (row_named _ row w.0 b.0, tt)
    kind_named results (If' x (Region' shape row ends) (Some' (Region' shape2 row2 ends2))) w c =
        let b = each_parts Keeps (row_calls row) (row_calls row2) c in
        (row_named _ row w.0 b.0, row_named _ row2 w.1 b.1)
    kind_named results (For (ForParts' lower upper step iv args inits (Region' shape row ends))) w c = (w.0, w.1, row_named _ row w.2 c)
    kind_named results (While (WhileParts' args inits (Region' shape row passed) cond after_args (Region' shape2 row2 ends))) w c =
        let b = each_parts Keeps (row_calls row) (row_calls row2) c in
        (w.0, row_named _ row w.1 b.0, w.2, row_named _ row2 w.3 b.1)

  ops_named : (ops : List Op) → WideOps Any ops → Each Keeps (ops_calls ops) → WideOps P ops
  ops_named [] w c = tt
  ops_named (op ∷ ops) w c =
      let b = each_parts Keeps (kind_calls op.results op.kind) (ops_calls ops) c in
      (w.0, kind_named op.results op.kind w.1 b.0, ops_named ops w.2 b.1)

  items_named : (items : List Item) → WideItems Any items → Each Keeps (items_calls items) → WideItems P items
  items_named [] w c = tt
  items_named (item ∷ items) w c =
      let b = each_parts Keeps (ops_calls item.ops) (items_calls items) c in
      (ops_named item.ops w.0 b.0, items_named items w.1 b.1)

  body_named : (body : Option Body) → WideBody Any body → Each Keeps (body_calls body) → WideBody P body
  body_named None w c = tt
  body_named (Some body) w c = items_named body.items w c

  pub func_named : (f : Func) → IsWide Any f → Each Keeps (func_calls f) → IsWide P f
  func_named f w c = (w.0, w.1, body_named f.body w.2 c)

pub each_all : {X : Type 0} (P : X → Type 0) (xs : List X) → ((k : ℕ) (d : X) → k < length xs → P (slice_index_or xs k d)) → Each P xs
each_all P [] a = tt
each_all P (x ∷ xs) a = (a 0 x (omega arith), each_all P xs (λ k d l. a (suc k) d (omega arith)))

pub each_both : {X : Type 0} (P Q R : X → Type 0) → ((x : X) → P x → Q x → R x) → (xs : List X) → Each P xs → Each Q xs → Each R xs
each_both P Q R m [] h g = tt
each_both P Q R m (x ∷ xs) h g = (m x h.0 g.0, each_both P Q R m xs h.1 g.1)

func_name : (f : Func) → IsWellFormed f → is_name f.name ≡ true
func_name f h =
    let head = breaks_at (func_begin f).last (head_rules f) in
    let args = args_breaks (is_declaration f.body) 0 [] [] (func_begin f) f.args in
    let b = none_append (head ++ args) (body_breaks f f.body) h in
    let a = none_append head args b.0 in
    (none_at (func_begin f).last (head_rules f) a.0).1

pub name_at : (fs : List Func) (k : ℕ) → Each IsWellFormed fs → k < length fs → Named (map (λ (f : Func). f.name) fs) k
name_at [] k h l = absurd (omega arith)
name_at (f ∷ fs) zero h l = func_name f h.0
name_at (f ∷ fs) (suc k) h l = name_at fs k h.1 (omega arith)

pub printable_sound : (fs : List Func) → IsPrintable fs → SoundModule fs
printable_sound fs h =
    let names = map (λ (f : Func). f.name) fs in
    let named : Each (λ (f : Func). Each (λ (call : Called). Named names call.func) (func_calls f)) fs = each_of (λ (f : Func). Each (λ (call : Called). Named names call.func) (func_calls f)) fs
    (λ k f e. each_all (λ (call : Called). Named names call.func) (func_calls f) (λ i d l. name_at fs _ h.well_formed (h.calls_fit k f e i d l).0)) in
    funcs_sound names fs h.well_formed (each_both HasWidths (λ (f : Func). Each (λ (call : Called). Named names call.func) (func_calls f)) (IsWide (Named names)) (λ f w c. func_named (Named names) f w c) fs h.widths named)
