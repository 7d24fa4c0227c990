-- The type that a label has among arguments and results.
use Rattle.std.proofs.Common.{◌≡◌, ℕ, ◌+◌, ◌-◌, ◌<◌, ◌≤◌, ◌==◌, List, [], ◌∷◌, ◌++◌, length, take, drop, get_or, refl, ap, ◌∙◌, sym, arith, Option, Some, None, length-drop, length-take, suc, zero, ◌⊎◌}
use Rattle.std.proofs.lemmas.List.Folds.{find-append}
use Rattle.std.proofs.lemmas.Option.{slice_get_past, slice_get_read}
use Rattle.std.proofs.lemmas.Grind.{common_steps}
use Rattle.std.proofs.lemmas.Bool.{cases_lt, eq-eqb, ne_eqb}
use Rattle.std.proofs.Math.Logic.{⊎_elim}
use Rattle.std.specs.Option.{option_or, option_map}
use Rattle.std.specs.Prelude.{slice_get}
use Rattle.mlir_ir.specs.declared.types.Arg.{Arg}
use Rattle.mlir_ir.specs.declared.types.IrType.{IrType}
use Rattle.mlir_ir.specs.declared.types.Op.{Op}
use Rattle.mlir_ir.specs.declared.types.Pack.{Pack}
use Rattle.mlir_ir.specs.Check.{results_of, op_results}
use Rattle.mlir_ir.specs.Labels.{kind_labels, op_labels}
use Rattle.mlir_ir.specs.Values.{Value, arg_values, pack_values, result_values, type_at}

map_or : {T U : Type 0} (f : T → U) (a b : Option T) → option_map f (option_or a b) ≡ option_or (option_map f a) (option_map f b)
map_or f None b = refl
map_or f (Some x) b = refl

pub type_at_append : (xs ys : List Value) (label : ℕ) → type_at (xs ++ ys) label ≡ option_or (type_at xs label) (type_at ys label)
type_at_append xs ys label = ap (option_map (λ (v : Value). v.ty)) (find-append (λ (v : Value). v.label == label) xs ys) ∙ map_or _ _ _

pub args_below : (at : ℕ) (args : List Arg) (label : ℕ) → label < at → type_at (arg_values at args) label ≡ None
args_below at [] label h = refl
args_below at (arg ∷ args) label h = rw (ne_eqb at label (omega arith)) (args_below (at + 1) args label (omega arith))

pub args_at : (at : ℕ) (args : List Arg) (i label : ℕ) → label ≡ at + i → type_at (arg_values at args) label ≡ option_map (λ arg. arg.ty) (slice_get args i)
args_at at [] i label h = refl
args_at at (arg ∷ args) zero label h = rw (eq-eqb at label (omega arith)) refl
args_at at (arg ∷ args) (suc i) label h = rw (ne_eqb at label (omega arith)) (args_at (at + 1) args i label (omega arith))

pack_below : (at : ℕ) (pack : Pack) (place : ℕ) (tys : List IrType) (label : ℕ) → label < at → type_at (pack_values at pack place tys) label ≡ None
pack_below at pack place [] label h = refl
pack_below at pack place (ty ∷ tys) label h = rw (ne_eqb at label (omega arith)) (pack_below (at + 1) pack (place + 1) tys label (omega arith))

pack_at : (at : ℕ) (pack : Pack) (place : ℕ) (tys : List IrType) (i label : ℕ) → label ≡ at + i → type_at (pack_values at pack place tys) label ≡ slice_get tys i
pack_at at pack place [] i label h = refl
pack_at at pack place (ty ∷ tys) zero label h = rw (eq-eqb at label (omega arith)) refl
pack_at at pack place (ty ∷ tys) (suc i) label h = rw (ne_eqb at label (omega arith)) (pack_at (at + 1) pack (place + 1) tys i label (omega arith))

pub result_below : (at : ℕ) (packs : List Pack) (tys : List IrType) (label : ℕ) → label < at → type_at (result_values at packs tys) label ≡ None
result_below at [] tys label h = refl
result_below at (pack ∷ packs) tys label h =
    type_at_append (pack_values at pack 0 (take pack.count tys)) _ label
    ∙ rw (pack_below at pack 0 (take pack.count tys) label h) (result_below (at + pack.count) packs (drop pack.count tys) label (omega arith))

-- how many results the packs name
abbrev pub packs_count : List Pack → ℕ
packs_count [] = 0
packs_count (pack ∷ packs) = pack.count + packs_count packs

get_take_below : {A : Type 0} (n : ℕ) (xs : List A) (i : ℕ) → i < n → slice_get (take n xs) i ≡ slice_get xs i
get_take_below zero xs i h = absurd (omega arith)
get_take_below (suc n) [] i h = refl
get_take_below (suc n) (x ∷ xs) zero h = refl
get_take_below (suc n) (x ∷ xs) (suc i) h = get_take_below n xs i (omega arith)

get_take_past : {A : Type 0} (n : ℕ) (xs : List A) (i : ℕ) → n ≤ i → slice_get (take n xs) i ≡ None
get_take_past zero xs i h = refl
get_take_past (suc n) [] i h = refl
get_take_past (suc n) (x ∷ xs) zero h = absurd (omega arith)
get_take_past (suc n) (x ∷ xs) (suc i) h = get_take_past n xs i (omega arith)

get_drop : {A : Type 0} (n : ℕ) (xs : List A) (i j : ℕ) → i ≡ n + j → slice_get (drop n xs) j ≡ slice_get xs i
get_drop zero xs i j h = let e : j ≡ i = omega arith in rw e refl
get_drop (suc n) [] i j h = refl
get_drop (suc n) (x ∷ xs) zero j h = absurd (omega arith)
get_drop (suc n) (x ∷ xs) (suc i) j h = get_drop n xs i j (omega arith)

pub none_or : {T : Type 0} (a b : Option T) → b ≡ None → option_or a b ≡ a
none_or None b h = h
none_or (Some x) b h = refl

past_rest : (at count : ℕ) (packs : List Pack) (tys : List IrType) (i label : ℕ) → label ≡ at + i → length tys ≤ i
    → ((j : ℕ) → label ≡ at + count + j → length (drop count tys) ≤ j → type_at (result_values (at + count) packs (drop count tys)) label ≡ None)
    → type_at (result_values (at + count) packs (drop count tys)) label ≡ None
past_rest at count packs tys i label e h rest =
    let side : (i < count) ⊎ (count ≤ i) = cases_lt i count in
    ⊎_elim (λ (l : i < count). result_below (at + count) packs (drop count tys) label (omega arith)) (λ (l : count ≤ i). rest (i - count) (omega arith) (rw length-drop (omega arith))) side

pub result_past : (at : ℕ) (packs : List Pack) (tys : List IrType) (i label : ℕ) → label ≡ at + i → length tys ≤ i → type_at (result_values at packs tys) label ≡ None
result_past at [] tys i label e h = refl
result_past at (pack ∷ packs) tys i label e h =
    let few : length (take pack.count tys) ≤ i = omega (arith, length-take {A = IrType}) in
    let first : slice_get (take pack.count tys) i ≡ None = slice_get_past _ i few in
    let rest = past_rest at pack.count packs tys i label e h (λ j e' h'. result_past (at + pack.count) packs (drop pack.count tys) j label e' h') in
    type_at_append (pack_values at pack 0 (take pack.count tys)) _ label ∙ rw (pack_at at pack 0 (take pack.count tys) i label e, first) rest

pub result_at : (at : ℕ) (packs : List Pack) (tys : List IrType) (i label : ℕ) → label ≡ at + i → i < packs_count packs → type_at (result_values at packs tys) label ≡ slice_get tys i
result_at at [] tys i label e h = absurd (omega arith)
result_at at (pack ∷ packs) tys i label e h =
    let side : (i < pack.count) ⊎ (pack.count ≤ i) = cases_lt i pack.count in
    type_at_append (pack_values at pack 0 (take pack.count tys)) _ label
    ∙ rw (pack_at at pack 0 (take pack.count tys) i label e)
    (⊎_elim
    (λ l. none_or _ _ (result_below (at + pack.count) packs (drop pack.count tys) label (omega arith)) ∙ get_take_below pack.count tys i l)
    (λ l. rw (get_take_past pack.count tys i l) (result_at (at + pack.count) packs (drop pack.count tys) (i - pack.count) label (omega arith) (omega arith) ∙ get_drop pack.count tys i (i - pack.count) (omega arith)))
    side)

-- past the packs there is none
pub result_unnamed : (at : ℕ) (packs : List Pack) (tys : List IrType) (i label : ℕ) → label ≡ at + i → packs_count packs ≤ i → type_at (result_values at packs tys) label ≡ None
result_unnamed at [] tys i label e h = refl
result_unnamed at (pack ∷ packs) tys i label e h =
    type_at_append (pack_values at pack 0 (take pack.count tys)) _ label
    ∙ rw (pack_at at pack 0 (take pack.count tys) i label e, get_take_past pack.count tys i (omega arith))
    (result_unnamed (at + pack.count) packs (drop pack.count tys) (i - pack.count) label (omega arith) (omega arith))

pub ops_below : (at : ℕ) (ops : List Op) (label : ℕ) → label < at → type_at (results_of at ops) label ≡ None
ops_below at [] label h = refl
ops_below at (op ∷ ops) label h =
    type_at_append (op_results at op) (results_of (at + op_labels op) ops) label
    ∙ rw (result_below (at + kind_labels op.kind) op.packs op.results label (omega arith)) (ops_below (at + op_labels op) ops label (omega arith))

-- a label inside the first operation
pub ops_inside : (at : ℕ) (op : Op) (ops : List Op) (label : ℕ) → label < at + kind_labels op.kind → type_at (results_of at (op ∷ ops)) label ≡ None
ops_inside at op ops label h =
    type_at_append (op_results at op) (results_of (at + op_labels op) ops) label
    ∙ rw (result_below (at + kind_labels op.kind) op.packs op.results label h) (ops_below (at + op_labels op) ops label (omega arith))

-- of one of its results
pub ops_here : (at : ℕ) (op : Op) (ops : List Op) (label : ℕ) → label < at + op_labels op
    → type_at (results_of at (op ∷ ops)) label ≡ type_at (result_values (at + kind_labels op.kind) op.packs op.results) label
ops_here at op ops label h =
    type_at_append (op_results at op) (results_of (at + op_labels op) ops) label ∙ none_or _ _ (ops_below (at + op_labels op) ops label h)

-- behind it
pub ops_behind : (at : ℕ) (op : Op) (ops : List Op) (label : ℕ) → at + op_labels op ≤ label
    → type_at (results_of at (op ∷ ops)) label ≡ type_at (results_of (at + op_labels op) ops) label
ops_behind at op ops label h =
    type_at_append (op_results at op) (results_of (at + op_labels op) ops) label
    ∙ rw (result_past (at + kind_labels op.kind) op.packs op.results (label - (at + kind_labels op.kind)) label (omega arith) (omega arith)) refl

pub args_from : (at : ℕ) (args : List Arg) (label : ℕ) → at ≤ label → type_at (arg_values at args) label ≡ option_map (λ arg. arg.ty) (slice_get args (label - at))
args_from at args label h = args_at at args (label - at) label (omega arith)

pub result_from : (at : ℕ) (packs : List Pack) (tys : List IrType) (label : ℕ) → at ≤ label → label < at + packs_count packs
    → type_at (result_values at packs tys) label ≡ slice_get tys (label - at)
result_from at packs tys label h l = result_at at packs tys (label - at) label (omega arith) (omega arith)

pub result_none : (at : ℕ) (packs : List Pack) (tys : List IrType) (label : ℕ) → at + packs_count packs ≤ label → type_at (result_values at packs tys) label ≡ None
result_none at packs tys label h = result_unnamed at packs tys (label - at) label (omega arith) (omega arith)

pub args_some : (at : ℕ) (args : List Arg) (label : ℕ) (x : Arg) → at ≤ label → label - at < length args → x ≡ get_or args (label - at) x
    → Some x.ty ≡ type_at (arg_values at args) label
args_some at args label x h l e = sym (args_from at args label h ∙ ap (option_map (λ arg. arg.ty)) (slice_get_read args (length args) (label - at) x refl l e))

pub args_none : (at : ℕ) (args : List Arg) (label : ℕ) → at ≤ label → length args ≤ label - at → None ≡ type_at (arg_values at args) label
args_none at args label h l = sym (args_from at args label h ∙ ap (option_map (λ arg. arg.ty)) (slice_get_past args (label - at) l))

packs_left : (packs : List Pack) (i : ℕ) (pack : Pack) → i < length packs → pack ≡ get_or packs i pack
    → packs_count (drop i packs) ≡ pack.count + packs_count (drop (i + 1) packs)
packs_left packs i pack l e = grind (arith, common_steps)

-- a result that the packs reach
pub result_some : (at : ℕ) (packs : List Pack) (tys : List IrType) (label i left : ℕ) (pack : Pack) (x : IrType) → at ≤ label
    → label - at + packs_count (drop i packs) ≡ left + packs_count packs → i < length packs → pack ≡ get_or packs i pack → left < pack.count
    → label - at < length tys → x ≡ get_or tys (label - at) x → Some x ≡ type_at (result_values at packs tys) label
result_some at packs tys label i left pack x h e l p less m q =
    let more = packs_left packs i pack l p in
    sym (result_from at packs tys label h (omega arith) ∙ slice_get_read tys (length tys) (label - at) x refl m q)

pub result_lost : (at : ℕ) (packs : List Pack) (tys : List IrType) (label : ℕ) → at ≤ label → length tys ≤ label - at → None ≡ type_at (result_values at packs tys) label
result_lost at packs tys label h l = sym (result_past at packs tys (label - at) label (omega arith) l)

ops_left : (ops : List Op) (i : ℕ) (op : Op) → i < length ops → op ≡ get_or ops i op → drop i ops ≡ op ∷ drop (i + 1) ops
ops_left ops i op l e = grind (arith, common_steps)

-- one step of a search, `left` labels before the one that is sought
pub step_inside : (ops : List Op) (i : ℕ) (op : Op) (label left : ℕ) (whole : Option IrType) → i < length ops → op ≡ get_or ops i op → left ≤ label
    → type_at (results_of (label - left) (drop i ops)) label ≡ whole → left < kind_labels op.kind → None ≡ whole
step_inside ops i op label left whole l e h w k =
    sym (ops_inside (label - left) op (drop (i + 1) ops) label (omega arith)) ∙ rw (ops_left ops i op l e) at w

pub step_here : (ops : List Op) (i : ℕ) (op : Op) (label left index : ℕ) (whole : Option IrType) → i < length ops → op ≡ get_or ops i op → left ≤ label
    → type_at (results_of (label - left) (drop i ops)) label ≡ whole → index + kind_labels op.kind ≡ left → index < length op.results
    → type_at (result_values (label - index) op.packs op.results) label ≡ whole
step_here ops i op label left index whole l e h w k n =
    let at : label - index ≡ label - left + kind_labels op.kind = omega arith in
    rw at (sym (ops_here (label - left) op (drop (i + 1) ops) label (omega arith)) ∙ rw (ops_left ops i op l e) at w)

pub step_behind : (ops : List Op) (i : ℕ) (op : Op) (label left index : ℕ) (whole : Option IrType) → i < length ops → op ≡ get_or ops i op → left ≤ label
    → type_at (results_of (label - left) (drop i ops)) label ≡ whole → index + kind_labels op.kind ≡ left → length op.results ≤ index
    → type_at (results_of (label - (index - length op.results)) (drop (i + 1) ops)) label ≡ whole
step_behind ops i op label left index whole l e h w k n =
    let at : label - (index - length op.results) ≡ label - left + op_labels op = omega arith in
    rw at (sym (ops_behind (label - left) op (drop (i + 1) ops) label (omega arith)) ∙ rw (ops_left ops i op l e) at w)
