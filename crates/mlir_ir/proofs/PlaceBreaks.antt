-- The breaks of a function are those of its places.
use Rattle.std.proofs.Common.{◌≡◌, ℕ, ◌+◌, Bool, false, List, [], ◌∷◌, ◌++◌, length, drop, refl, ap, ◌∙◌, sym, append_assoc, Option, Some, None}
use Rattle.std.proofs.lemmas.List.{append-nil}
use Rattle.mlir_ir.specs.declared.rules.Nest.{Nest}
use Rattle.mlir_ir.specs.declared.rules.Position.{Position}
use Rattle.mlir_ir.specs.declared.shape.Shape.{Shape}
use Rattle.mlir_ir.specs.declared.types.Arg.{Arg}
use Rattle.mlir_ir.specs.declared.types.Body.{Body}
use Rattle.mlir_ir.specs.declared.types.Func.{Func}
use Rattle.mlir_ir.specs.declared.types.IrType.{IrType}
use Rattle.mlir_ir.specs.declared.types.Item.{Item}
use Rattle.mlir_ir.specs.declared.types.Op.{Op}
use Rattle.mlir_ir.specs.declared.types.Region.{Region', Row_of-Op, end_of-Op, more_of-Op}
use Rattle.mlir_ir.specs.declared.types.Kind.{Kind, Const, Bin, Cast, Cmp, Select, Call, If', For, While, None', Some'}
use Rattle.mlir_ir.specs.declared.types.ForParts.{ForParts'}
use Rattle.mlir_ir.specs.declared.types.WhileParts.{WhileParts'}
use Rattle.arith_word.specs.Labels.{label_at}
use Rattle.mlir_ir.specs.Labels.{kind_labels}
use Rattle.mlir_ir.specs.Values.{Value, arg_values, result_values}
use Rattle.mlir_ir.specs.Rules.{op_rules, arg_rules, head_rules, return_rules, yield_rules, turn_rules, condition_rules, arg_types}
use Rattle.mlir_ir.specs.Check.{breaks, breaks_at, past, past_args, past_region, past_op, past_ops, past_items, opened, looped, kind_ops, op_results, results_of, args_breaks, row_breaks, kind_breaks, arm_breaks, else_breaks, for_breaks, while_breaks, before_breaks, turn_breaks, ops_breaks, items_breaks, at_item, in_item, func_begin, is_declaration, outer_values, body_breaks}
use Rattle.mlir_ir.specs.Places.{Place, place, place_breaks, args_places, end_place, row_places, kind_places, arm_places, before_places, turn_places, ops_places, items_places, body_places, places}

pub places_append : (ps qs : List Place) → place_breaks (ps ++ qs) ≡ place_breaks ps ++ place_breaks qs
places_append [] qs = refl
places_append (p ∷ ps) qs = ap (λ bs. breaks_at p.last (p.rules p.scope) ++ bs) (places_append ps qs) ∙ sym (append_assoc (breaks_at p.last (p.rules p.scope)) (place_breaks ps) (place_breaks qs))

last_place : (ps : List Place) (p : Place) → place_breaks (ps ++ p ∷ []) ≡ place_breaks ps ++ breaks_at p.last (p.rules p.scope)
last_place ps p = places_append ps (p ∷ []) ∙ ap (λ bs. place_breaks ps ++ bs) (append-nil (breaks_at p.last (p.rules p.scope)))

-- where parts agree, so do wholes
both_parts : (ps qs : List Place) (xs ys : List Shape) → place_breaks ps ≡ xs → place_breaks qs ≡ ys → place_breaks (ps ++ qs) ≡ xs ++ ys
both_parts ps qs xs ys e f = places_append ps qs ∙ (λ j. e j ++ f j)

with_end : (ps : List Place) (p : Place) (xs : List Shape) → place_breaks ps ≡ xs → place_breaks (ps ++ p ∷ []) ≡ xs ++ breaks_at p.last (p.rules p.scope)
with_end ps p xs e = last_place ps p ∙ ap (λ bs. bs ++ breaks_at p.last (p.rules p.scope)) e

args_same : (declared : Bool) (n : ℕ) (wanted : List IrType) (scope : List Value) (at : Position) (args : List Arg) → place_breaks (args_places declared n wanted scope at args) ≡ args_breaks declared n wanted scope at args
args_same declared n wanted scope at [] = refl
args_same declared n wanted scope at (arg ∷ args) = ap (λ bs. breaks_at at.last (arg_rules declared n wanted scope arg) ++ bs) (args_same declared (n + 1) (drop 1 wanted) (scope ++ arg_values at.next (arg ∷ [])) (past 1 0 at) args)

mutual
  unfolding row_breaks kind_breaks arm_breaks else_breaks for_breaks while_breaks before_breaks turn_breaks

  row_same : (scope : List Value) (nest : Nest) (at : Position) (n : _) (row : Row_of-Op n) → place_breaks (row_places scope nest at row) ≡ row_breaks scope nest at row
  row_same scope nest at n end_of-Op = refl
  row_same scope nest at n (more_of-Op packs results kind rest) =
      let here = place at.last scope (λ s. op_rules s nest at packs results kind) in
      let more = scope ++ result_values (at.next + kind_labels kind) packs results in
      let at2 = past (kind_labels kind + length results) (1 + kind_ops kind) at in
      both_parts (here ∷ kind_places scope nest (past 0 1 at) results kind) (row_places more nest at2 rest) (breaks_at at.last (op_rules scope nest at packs results kind) ++ kind_breaks scope nest (past 0 1 at) results kind) (row_breaks more nest at2 rest)
      (ap (λ bs. breaks_at at.last (op_rules scope nest at packs results kind) ++ bs) (kind_same scope nest (past 0 1 at) results kind)) (row_same more nest at2 _ rest)

  kind_same : (scope : List Value) (nest : Nest) (at : Position) (results : List IrType) (kind : Kind) → place_breaks (kind_places scope nest at results kind) ≡ kind_breaks scope nest at results kind
  kind_same scope nest at results (Const v) = refl
  kind_same scope nest at results (Bin op flags a b) = refl
  kind_same scope nest at results (Cast op flags a) = refl
  kind_same scope nest at results (Cmp pred a b) = refl
  kind_same scope nest at results (Select c a b) = refl
  kind_same scope nest at results (Call func ls) = refl
  kind_same scope nest at results (If' c (Region' shape row ends) None') =
      both_parts (arm_places scope (opened nest) at results (Region' shape row ends)) [] (arm_breaks scope (opened nest) at results (Region' shape row ends)) []
      (with_end (row_places scope (opened nest) at row) (end_place scope at row (λ s. yield_rules s results ends)) (row_breaks scope (opened nest) at row) (row_same scope (opened nest) at _ row)) refl
  kind_same scope nest at results (If' c (Region' shape row ends) (Some' (Region' shape2 row2 ends2))) =
      let at2 = past_region (Region' shape row ends) at in
      both_parts (arm_places scope (opened nest) at results (Region' shape row ends)) (arm_places scope (opened nest) at2 results (Region' shape2 row2 ends2)) (arm_breaks scope (opened nest) at results (Region' shape row ends)) (arm_breaks scope (opened nest) at2 results (Region' shape2 row2 ends2))
      (with_end (row_places scope (opened nest) at row) (end_place scope at row (λ s. yield_rules s results ends)) (row_breaks scope (opened nest) at row) (row_same scope (opened nest) at _ row))
      (with_end (row_places scope (opened nest) at2 row2) (end_place scope at2 row2 (λ s. yield_rules s results ends2)) (row_breaks scope (opened nest) at2 row2) (row_same scope (opened nest) at2 _ row2))
  kind_same scope nest at results (For (ForParts' lower upper step iv args inits (Region' shape row ends))) =
      let at1 = past 1 0 at in
      let at2 = past 1 0 at1 in
      let at3 = past_args args at2 in
      let with_iv = scope ++ arg_values at1.next (iv ∷ []) in
      let in_body = with_iv ++ arg_values at2.next args in
      both_parts (args_places false 0 [] scope at1 (iv ∷ []) ++ args_places false 0 [] with_iv at2 args) (arm_places in_body (looped nest) at3 results (Region' shape row ends))
      (args_breaks false 0 [] scope at1 (iv ∷ []) ++ args_breaks false 0 [] with_iv at2 args) (arm_breaks in_body (looped nest) at3 results (Region' shape row ends))
      (both_parts (args_places false 0 [] scope at1 (iv ∷ [])) (args_places false 0 [] with_iv at2 args) (args_breaks false 0 [] scope at1 (iv ∷ [])) (args_breaks false 0 [] with_iv at2 args) (args_same false 0 [] scope at1 (iv ∷ [])) (args_same false 0 [] with_iv at2 args))
      (with_end (row_places in_body (looped nest) at3 row) (end_place in_body at3 row (λ s. yield_rules s results ends)) (row_breaks in_body (looped nest) at3 row) (row_same in_body (looped nest) at3 _ row))
  kind_same scope nest at results (While (WhileParts' args inits (Region' shape row passed) cond after_args (Region' shape2 row2 ends))) =
      let at1 = past 1 0 at in
      let at2 = past_args args at1 in
      let at3 = past_region (Region' shape row passed) at2 in
      let at4 = past_args after_args at3 in
      let in_before = scope ++ arg_values at1.next args in
      let in_after = scope ++ arg_values at3.next after_args in
      let A = args_places false 0 [] scope at1 args in
      let B = before_places in_before (looped nest) at2 results cond (Region' shape row passed) in
      let C = args_places false 0 results scope at3 after_args in
      let D = turn_places in_after (looped nest) at4 (arg_types args) (Region' shape2 row2 ends) in
      let A' = args_breaks false 0 [] scope at1 args in
      let B' = before_breaks in_before (looped nest) at2 results cond (Region' shape row passed) in
      let C' = args_breaks false 0 results scope at3 after_args in
      let D' = turn_breaks in_after (looped nest) at4 (arg_types args) (Region' shape2 row2 ends) in
      let e : place_breaks B ≡ B' = with_end (row_places in_before (looped nest) at2 row) (end_place in_before at2 row (λ s. condition_rules s results cond passed)) (row_breaks in_before (looped nest) at2 row) (row_same in_before (looped nest) at2 _ row) in
      let f : place_breaks D ≡ D' = with_end (row_places in_after (looped nest) at4 row2) (end_place in_after at4 row2 (λ s. turn_rules s (arg_types args) ends)) (row_breaks in_after (looped nest) at4 row2) (row_same in_after (looped nest) at4 _ row2) in
      both_parts (A ++ B ++ C) D (A' ++ B' ++ C') D' (both_parts (A ++ B) C (A' ++ B') C' (both_parts A B A' B' (args_same false 0 [] scope at1 args) e) (args_same false 0 results scope at3 after_args)) f

ops_same : (scope : List Value) (nest : Nest) (at : Position) (ops : List Op) → place_breaks (ops_places scope nest at ops) ≡ ops_breaks scope nest at ops
ops_same scope nest at [] = refl
ops_same scope nest at (op ∷ ops) =
    let here = place at.last scope (λ s. op_rules s nest at op.packs op.results op.kind) in
    let more = scope ++ op_results at.next op in
    both_parts (here ∷ kind_places scope nest (past 0 1 at) op.results op.kind) (ops_places more nest (past_op op at) ops) (breaks_at at.last (op_rules scope nest at op.packs op.results op.kind) ++ kind_breaks scope nest (past 0 1 at) op.results op.kind) (ops_breaks more nest (past_op op at) ops)
    (ap (λ bs. breaks_at at.last (op_rules scope nest at op.packs op.results op.kind) ++ bs) (kind_same scope nest (past 0 1 at) op.results op.kind)) (ops_same more nest (past_op op at) ops)

items_same : (func k : ℕ) (scope : List Value) (at : Position) (items : List Item) → place_breaks (items_places func k scope at items) ≡ items_breaks func k scope at items
items_same func k scope at [] = refl
items_same func k scope at (item ∷ items) =
    let more = scope ++ results_of (label_at func k 0) item.ops in
    let at2 = past_ops item.ops (at_item func k at) in
    both_parts (ops_places scope (in_item k item) (at_item func k at) item.ops) (items_places func (k + 1) more at2 items) (ops_breaks scope (in_item k item) (at_item func k at) item.ops) (items_breaks func (k + 1) more at2 items)
    (ops_same scope (in_item k item) (at_item func k at) item.ops) (items_same func (k + 1) more at2 items)

body_same : (f : Func) (body : Option Body) → place_breaks (body_places f body) ≡ body_breaks f body
body_same f None = refl
body_same f (Some body) =
    let begin = past_args f.args (func_begin f) in
    let scope = arg_values (label_at f.index 0 0) f.args in
    with_end (items_places f.index 1 scope begin body.items) (place (past_items f.index 1 body.items begin).last (outer_values f body.items) (λ s. return_rules s f.results (length body.items) body.ret)) (items_breaks f.index 1 scope begin body.items) (items_same f.index 1 scope begin body.items)

pub func_same : (f : Func) → place_breaks (places f) ≡ breaks f
func_same f =
    let head = place (func_begin f).last [] (λ s. head_rules f) in
    both_parts (head ∷ args_places (is_declaration f.body) 0 [] [] (func_begin f) f.args) (body_places f f.body) (breaks_at (func_begin f).last (head_rules f) ++ args_breaks (is_declaration f.body) 0 [] [] (func_begin f) f.args) (body_breaks f f.body)
    (ap (λ bs. breaks_at (func_begin f).last (head_rules f) ++ bs) (args_same (is_declaration f.body) 0 [] [] (func_begin f) f.args)) (body_same f f.body)
