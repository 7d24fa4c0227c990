-- Labels within the regions that may be open: all labels, where no region is nested deeper.
use Rattle.std.proofs.Common.{◌≡◌, ℕ, ◌+◌, ◌-◌, ◌==◌, ◌<◌, ◌≤◌, true, false, List, [], ◌∷◌, ◌++◌, length, take, get_or, refl, ap, ◌∙◌, sym, arith, None, if◌then◌else◌, zero, suc}
use Rattle.std.proofs.lemmas.Bool.Decides.{nat_tests}
use Rattle.mlir_ir.specs.declared.rules.Nest.{Nest}
use Rattle.mlir_ir.specs.declared.rules.Position.{Position}
use Rattle.mlir_ir.specs.declared.shape.Shape.{Shape}
use Rattle.mlir_ir.specs.declared.types.IrType.{IrType}
use Rattle.mlir_ir.specs.declared.types.Op.{Op}
use Rattle.mlir_ir.specs.declared.types.Region.{Region, Region', Row_of-Op, end_of-Op, more_of-Op, items-the_row-Op, out-Region, items_shown-the_row-Op-0}
use Rattle.mlir_ir.specs.declared.types.Kind.{Kind, Const, Bin, Cast, Cmp, Select, Call, If', For, While, None', Some'}
use Rattle.mlir_ir.specs.declared.types.ForParts.{ForParts'}
use Rattle.mlir_ir.specs.declared.types.WhileParts.{WhileParts, WhileParts', out-WhileParts}
use Rattle.std.proofs.lemmas.List.{take_more}
use Rattle.arith_word.specs.declared.label.Label.{Label}
use Rattle.mlir_ir.specs.Labels.{row_labels, region_labels, kind_labels, op_labels, ops_labels}
use Rattle.mlir_ir.specs.Limits.{region_limit}
use Rattle.mlir_ir.specs.Rules.{is_kind_sized, op_rules, arg_types}
use Rattle.mlir_ir.specs.Values.{Value, arg_values, result_values}
use Rattle.mlir_ir.specs.Check.{first, breaks_at, past, past_args, past_region, past_op, opened as open_if, looped, kind_ops, op_results, args_breaks, row_breaks, kind_breaks, arm_breaks, else_breaks, for_breaks, while_breaks, before_breaks, turn_breaks, op_breaks, ops_breaks}
use Rattle.mlir_ir.specs.WellFormed.{NoSize}
use Rattle.mlir_ir.proofs.SizedBreaks.{no_append, op_sized, opens_loop}
use Rattle.mlir_ir.proofs.ListedBreaks.{first_none, ops_labels_append}
use Rattle.mlir_ir.specs.Within.{region_labels_within, row_labels_within, kind_labels_within, opened_labels, op_labels_within, ops_labels_within, while_labels_within}
use Rattle.mlir_ir.specs.Sized.{region_depth, inner_depth}
use Rattle.mlir_ir.specs.View.{view_row, view_kind, view_ops}
use Rattle.std.proofs.lemmas.Bool.{ltb-true}

within_items : (room : ℕ) (n : _) (row : Row_of-Op n) → row_labels_within room row ≡ ops_labels_within room (items-the_row-Op n row)
within_items room n end_of-Op = refl
within_items room n (more_of-Op packs results kind rest) = ap (λ x. kind_labels_within room kind + length results + x) (within_items room _ rest)

pub region_within_items : (room : ℕ) (r : Region) → region_labels_within room r ≡ ops_labels_within room (out-Region r).ops
unfolding out-Region denote.Hole.Carrier.out Rattle.mlir_ir.specs.declared.types.Kind.TheBlock.shown-the_row-Op-0
region_within_items room (Region' shape row ends) = within_items room _ row ∙ ap (ops_labels_within room) (sym (items_shown-the_row-Op-0 shape row))

opened : (room a b : ℕ) → 0 < room → a ≡ b → (if room == 0 then 0 else a) ≡ b
opened room a b h e = grind (arith, nat_tests)

closed : (room a b : ℕ) → a ≡ 0 → b ≡ 0 → (if room == 0 then 0 else a) ≡ b
closed room a b e f = grind (arith, nat_tests)

mutual
  pub row_whole : (room : ℕ) (n : _) (row : Row_of-Op n) → region_depth (view_row row) ≤ room → row_labels_within room row ≡ row_labels row
  row_whole room n end_of-Op h = refl
  row_whole room n (more_of-Op packs results kind rest) h =
      let e : kind_labels_within room kind ≡ kind_labels kind = kind_whole room kind (omega arith) in
      let f : row_labels_within room rest ≡ row_labels rest = row_whole room _ rest (omega arith) in
      λ j. e j + length results + f j

  pub kind_whole : (room : ℕ) (kind : Kind) → inner_depth (view_kind kind) ≤ room → kind_labels_within room kind ≡ kind_labels kind
  kind_whole room (Const v) h = closed room 0 0 refl refl
  kind_whole room (Bin op flags a b) h = closed room 0 0 refl refl
  kind_whole room (Cast op flags a) h = closed room 0 0 refl refl
  kind_whole room (Cmp pred a b) h = closed room 0 0 refl refl
  kind_whole room (Select c a b) h = closed room 0 0 refl refl
  kind_whole room (Call func ls) h = closed room 0 0 refl refl
  kind_whole room (If' c (Region' shape row ends) None') h = let e = row_whole (room - 1) _ row (omega arith) in opened room (row_labels_within (room - 1) row + 0) (row_labels row + 0) (omega arith) (λ j. e j + 0)
  kind_whole room (If' c (Region' shape row ends) (Some' (Region' shape2 row2 ends2))) h =
      let e = row_whole (room - 1) _ row (omega arith) in
      let f = row_whole (room - 1) _ row2 (omega arith) in
      opened room (row_labels_within (room - 1) row + row_labels_within (room - 1) row2) (row_labels row + row_labels row2) (omega arith) (λ j. e j + f j)
  kind_whole room (For (ForParts' lower upper step iv args inits (Region' shape row ends))) h =
      let e = row_whole (room - 1) _ row (omega arith) in
      opened room (2 + length args + row_labels_within (room - 1) row) (2 + length args + row_labels row) (omega arith) (λ j. 2 + length args + e j)
  kind_whole room (While (WhileParts' args inits (Region' shape row ends) cond after_args (Region' shape2 row2 ends2))) h =
      let e = row_whole (room - 1) _ row (omega arith) in
      let f = row_whole (room - 1) _ row2 (omega arith) in
      opened room (1 + length args + row_labels_within (room - 1) row + length after_args + row_labels_within (room - 1) row2) (1 + length args + row_labels row + length after_args + row_labels row2) (omega arith)
      (λ j. 1 + length args + e j + length after_args + f j)

pub ops_whole : (room : ℕ) (ops : List Op) → region_depth (view_ops ops) ≤ room → ops_labels_within room ops ≡ ops_labels ops
ops_whole room [] h = refl
ops_whole room (op ∷ ops) h =
    let e : kind_labels_within room op.kind ≡ kind_labels op.kind = kind_whole room op.kind (omega arith) in
    let f : ops_labels_within room ops ≡ ops_labels ops = ops_whole room ops (omega arith) in
    λ j. e j + length op.results + f j

-- operations without a break of a limit have no region that may not be opened

room_less : (regions : ℕ) → region_limit - regions - 1 ≡ region_limit - (regions + 1)
room_less regions = omega arith

-- an operation that may open its regions
pub kind_room : (regions loops : ℕ) (kind : Kind) → is_kind_sized regions loops kind ≡ true → kind_labels_within (region_limit - regions) kind ≡ opened_labels (region_limit - (regions + 1)) kind
kind_room regions loops (Const v) e = closed (region_limit - regions) 0 0 refl refl
kind_room regions loops (Bin op flags a b) e = closed (region_limit - regions) 0 0 refl refl
kind_room regions loops (Cast op flags a) e = closed (region_limit - regions) 0 0 refl refl
kind_room regions loops (Cmp pred a b) e = closed (region_limit - regions) 0 0 refl refl
kind_room regions loops (Select c a b) e = closed (region_limit - regions) 0 0 refl refl
kind_room regions loops (Call func ls) e = closed (region_limit - regions) 0 0 refl refl
kind_room regions loops (If' c first other) e =
    let l : regions < region_limit = ltb-true regions region_limit e in
    opened (region_limit - regions) _ _ (omega arith) (ap (λ room. opened_labels room (If' c first other)) (room_less regions))
kind_room regions loops (For parts) e =
    let l : regions < region_limit = (opens_loop regions loops e).0 in
    opened (region_limit - regions) _ _ (omega arith) (ap (λ room. opened_labels room (For parts)) (room_less regions))
kind_room regions loops (While parts) e =
    let l : regions < region_limit = (opens_loop regions loops e).0 in
    opened (region_limit - regions) _ _ (omega arith) (ap (λ room. opened_labels room (While parts)) (room_less regions))

mutual
  unfolding row_breaks kind_breaks arm_breaks else_breaks for_breaks while_breaks before_breaks turn_breaks

  pub row_uncut : (scope : List Value) (nest : Nest) (at : Position) (n : _) (row : Row_of-Op n) → NoSize (row_breaks scope nest at row) → row_labels_within (region_limit - nest.regions) row ≡ row_labels row
  row_uncut scope nest at n end_of-Op h = refl
  row_uncut scope nest at n (more_of-Op packs results kind rest) h =
      let rv = result_values (at.next + kind_labels kind) packs results in
      let here = breaks_at at.last (op_rules scope nest at packs results kind) in
      let inside = kind_breaks scope nest (past 0 1 at) results kind in
      let at2 = past (kind_labels kind + length results) (1 + kind_ops kind) at in
      let c = no_append (here ++ inside) (row_breaks (scope ++ rv) nest at2 rest) h in
      let b = no_append here inside c.0 in
      let s = op_sized scope nest at at.last packs results kind b.0 in
      let e : kind_labels_within (region_limit - nest.regions) kind ≡ kind_labels kind = kind_room nest.regions nest.loops kind s.opens ∙ kind_uncut scope nest (past 0 1 at) results kind b.1 in
      let f : row_labels_within (region_limit - nest.regions) rest ≡ row_labels rest = row_uncut (scope ++ rv) nest at2 _ rest c.1 in
      λ j. e j + length results + f j

  pub kind_uncut : (scope : List Value) (nest : Nest) (at : Position) (results : List IrType) (kind : Kind) → NoSize (kind_breaks scope nest at results kind) → opened_labels (region_limit - (nest.regions + 1)) kind ≡ kind_labels kind
  kind_uncut scope nest at results (Const v) h = refl
  kind_uncut scope nest at results (Bin op flags a b) h = refl
  kind_uncut scope nest at results (Cast op flags a) h = refl
  kind_uncut scope nest at results (Cmp pred a b) h = refl
  kind_uncut scope nest at results (Select c a b) h = refl
  kind_uncut scope nest at results (Call func ls) h = refl
  kind_uncut scope nest at results (If' c (Region' shape row ends) None') h =
      let a = no_append (arm_breaks scope (open_if nest) at results (Region' shape row ends)) [] h in
      let e = row_uncut scope (open_if nest) at _ row (no_append (row_breaks scope (open_if nest) at row) _ a.0).0 in
      λ j. e j + 0
  kind_uncut scope nest at results (If' c (Region' shape row ends) (Some' (Region' shape2 row2 ends2))) h =
      let at2 = past_region (Region' shape row ends) at in
      let a = no_append (arm_breaks scope (open_if nest) at results (Region' shape row ends)) (arm_breaks scope (open_if nest) at2 results (Region' shape2 row2 ends2)) h in
      let e = row_uncut scope (open_if nest) at _ row (no_append (row_breaks scope (open_if nest) at row) _ a.0).0 in
      let f = row_uncut scope (open_if nest) at2 _ row2 (no_append (row_breaks scope (open_if nest) at2 row2) _ a.1).0 in
      λ j. e j + f j
  kind_uncut scope nest at results (For (ForParts' lower upper step iv args inits (Region' shape row ends))) h =
      let at1 = past 1 0 at in
      let at2 = past 1 0 at1 in
      let with_iv = scope ++ arg_values at1.next (iv ∷ []) in
      let in_body = with_iv ++ arg_values at2.next args in
      let b = no_append (args_breaks false 0 [] scope at1 (iv ∷ []) ++ args_breaks false 0 [] with_iv at2 args) (arm_breaks in_body (looped nest) (past_args args at2) results (Region' shape row ends)) h in
      let e = row_uncut in_body (looped nest) (past_args args at2) _ row (no_append (row_breaks in_body (looped nest) (past_args args at2) row) _ b.1).0 in
      λ j. 2 + length args + e j
  kind_uncut scope nest at results (While (WhileParts' args inits (Region' shape row passed) cond after_args (Region' shape2 row2 ends))) h =
      let at1 = past 1 0 at in
      let at2 = past_args args at1 in
      let at3 = past_region (Region' shape row passed) at2 in
      let at4 = past_args after_args at3 in
      let in_before = scope ++ arg_values at1.next args in
      let in_after = scope ++ arg_values at3.next after_args in
      let A = args_breaks false 0 [] scope at1 args in
      let B = before_breaks in_before (looped nest) at2 results cond (Region' shape row passed) in
      let C = args_breaks false 0 results scope at3 after_args in
      let d = no_append (A ++ B ++ C) (turn_breaks in_after (looped nest) at4 (arg_types args) (Region' shape2 row2 ends)) h in
      let b = no_append A B (no_append (A ++ B) C d.0).0 in
      let e = row_uncut in_before (looped nest) at2 _ row (no_append (row_breaks in_before (looped nest) at2 row) _ b.1).0 in
      let f = row_uncut in_after (looped nest) at4 _ row2 (no_append (row_breaks in_after (looped nest) at4 row2) _ d.1).0 in
      λ j. 1 + length args + e j + length after_args + f j

none_sized : (xs : List Shape) → first xs ≡ None → NoSize xs
none_sized xs e = rw (first_none xs e) tt

pub op_uncut : (scope : List Value) (nest : Nest) (at : Position) (op : Op) → NoSize (op_breaks scope nest at op) → op_labels_within (region_limit - nest.regions) op ≡ op_labels op
op_uncut scope nest at op h =
    let b = no_append (breaks_at at.last (op_rules scope nest at op.packs op.results op.kind)) (kind_breaks scope nest (past 0 1 at) op.results op.kind) h in
    let s = op_sized scope nest at at.last op.packs op.results op.kind b.0 in
    let e = kind_room nest.regions nest.loops op.kind s.opens ∙ kind_uncut scope nest (past 0 1 at) op.results op.kind b.1 in
    λ j. e j + length op.results

pub ops_uncut : (scope : List Value) (nest : Nest) (at : Position) (ops : List Op) → NoSize (ops_breaks scope nest at ops) → ops_labels_within (region_limit - nest.regions) ops ≡ ops_labels ops
ops_uncut scope nest at [] h = refl
ops_uncut scope nest at (op ∷ ops) h =
    let c = no_append (op_breaks scope nest at op) (ops_breaks (scope ++ op_results at.next op) nest (past_op op at) ops) h in
    let e = op_uncut scope nest at op c.0 in
    let f = ops_uncut (scope ++ op_results at.next op) nest (past_op op at) ops c.1 in
    λ j. e j + f j

-- what `check` has found

pub op_found : (scope : List Value) (nest : Nest) (at : Position) (op : Op) → first (op_breaks scope nest at op) ≡ None → op_labels_within (region_limit - nest.regions) op ≡ op_labels op
op_found scope nest at op e = op_uncut scope nest at op (none_sized (op_breaks scope nest at op) e)

pub ops_found : (scope : List Value) (nest : Nest) (at : Position) (ops : List Op) → first (ops_breaks scope nest at ops) ≡ None → ops_labels_within (region_limit - nest.regions) ops ≡ ops_labels ops
ops_found scope nest at ops e = ops_uncut scope nest at ops (none_sized (ops_breaks scope nest at ops) e)

pub kind_found : (scope : List Value) (nest : Nest) (at : Position) (results : List IrType) (kind : Kind) → is_kind_sized nest.regions nest.loops kind ≡ true → first (kind_breaks scope nest at results kind) ≡ None → kind_labels_within (region_limit - nest.regions) kind ≡ kind_labels kind
kind_found scope nest at results kind s e = kind_room nest.regions nest.loops kind s ∙ kind_uncut scope nest at results kind (none_sized (kind_breaks scope nest at results kind) e)

pub arm_found : (scope : List Value) (nest : Nest) (at : Position) (wanted : List IrType) (r : Region) → first (arm_breaks scope nest at wanted r) ≡ None → region_labels_within (region_limit - nest.regions) r ≡ region_labels r
unfolding arm_breaks
arm_found scope nest at wanted (Region' shape row ends) e = row_uncut scope nest at _ row (no_append (row_breaks scope nest at row) _ (none_sized (arm_breaks scope nest at wanted (Region' shape row ends)) e)).0

pub before_found : (scope : List Value) (nest : Nest) (at : Position) (results : List IrType) (cond : Label) (r : Region) → first (before_breaks scope nest at results cond r) ≡ None → region_labels_within (region_limit - nest.regions) r ≡ region_labels r
unfolding before_breaks
before_found scope nest at results cond (Region' shape row ends) e = row_uncut scope nest at _ row (no_append (row_breaks scope nest at row) _ (none_sized (before_breaks scope nest at results cond (Region' shape row ends)) e)).0

pub within_append : (room : ℕ) (xs ys : List Op) → ops_labels_within room (xs ++ ys) ≡ ops_labels_within room xs + ops_labels_within room ys
within_append room [] ys = omega arith
within_append room (x ∷ xs) ys = omega (arith, within_append room xs ys)

pub within_room : (room : ℕ) (ops : List Op) (k : ℕ) (op : Op) → k < length ops → op ≡ get_or ops k op → ops_labels_within room (take k ops) + op_labels_within room op ≤ ops_labels_within room ops
within_room room [] k op l e = absurd (omega arith)
within_room room (x ∷ xs) zero op l e = let is : op ≡ x = e in rw is (omega arith)
within_room room (x ∷ xs) (suc k) op l e = let h = within_room room xs k op (omega arith) e in omega arith

-- one operation more
pub whole_more : (room : ℕ) (ops : List Op) (k : ℕ) (op : Op) → k < length ops → op ≡ get_or ops k op → ops_labels_within room (take k ops) ≡ ops_labels (take k ops) → op_labels_within room op ≡ op_labels op
    → ops_labels_within room (take (k + 1) ops) ≡ ops_labels (take (k + 1) ops)
whole_more room ops k op l e h g =
    let is : take (k + 1) ops ≡ take k ops ++ op ∷ [] = take_more ops k op l ∙ ap (λ x. take k ops ++ x ∷ []) (sym e) in
    rw is (omega (arith, within_append room (take k ops) (op ∷ []), ops_labels_append (take k ops) (op ∷ [])))

pub while_within : (room : ℕ) (p : WhileParts) → while_labels_within room p
    ≡ 1 + length (out-WhileParts p).args + region_labels_within room (out-WhileParts p).before + length (out-WhileParts p).after_args + region_labels_within room (out-WhileParts p).after
unfolding out-WhileParts denote.Hole.Carrier.out
while_within room (WhileParts' args inits before cond after_args after) = refl
