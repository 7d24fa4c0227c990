-- Where the parts of a function have the value of a label: the labels that each part takes, one behind the other.
use Rattle.std.proofs.Common.{◌≡◌, ℕ, ◌+◌, ◌-◌, ◌<◌, ◌≤◌, ◌==◌, true, false, List, [], ◌∷◌, ◌++◌, length, drop, get_or, refl, ap, ◌∙◌, sym, arith, Option, Some, None, nat_lt, inl, inr}
use Rattle.std.proofs.lemmas.Bool.Decides.{nat_tests}
use Rattle.std.proofs.lemmas.Bool.{cases_lt}
use Rattle.std.proofs.lemmas.Grind.{common_steps}
use Rattle.std.specs.Option.{option_or}
use Rattle.mlir_ir.specs.declared.type_search.Search.{Search}
use Rattle.mlir_ir.specs.declared.type_search.Search.TheVariants.{Within, Behind}
use Rattle.mlir_ir.specs.declared.types.Arg.{Arg}
use Rattle.mlir_ir.specs.declared.types.IrType.{IrType}
use Rattle.mlir_ir.specs.declared.types.Item.{Item}
use Rattle.mlir_ir.specs.declared.types.Pack.{Pack}
use Rattle.mlir_ir.specs.declared.types.Op.{Op}
use Rattle.mlir_ir.specs.declared.types.Region.{Region, Region', Row_of-Op, end_of-Op, more_of-Op, items-the_row-Op, out-Region, items_shown-the_row-Op-0}
use Rattle.mlir_ir.specs.declared.types.Kind.{Kind, Const, Bin, Cast, Cmp, Select, Call, If', For, While, Held-Kind-If-2, None', Some'}
use Rattle.mlir_ir.specs.declared.types.ForParts.{ForParts, ForParts', out-ForParts}
use Rattle.mlir_ir.specs.declared.types.WhileParts.{WhileParts, WhileParts', out-WhileParts}
use Rattle.arith_word.specs.Labels.{label_at, index_count}
use Rattle.mlir_ir.specs.Labels.{row_labels, ops_labels, op_labels, region_labels, kind_labels, else_labels, for_labels, while_labels}
use Rattle.mlir_ir.specs.Searched.{searched}
use Rattle.mlir_ir.specs.Values.{Value, arg_values, result_values, region_values, row_values, kind_values, else_values, for_values, while_values, op_values, ops_values, items_values, type_at}
use Rattle.mlir_ir.proofs.RegionItems.{region_labels_items}
use Rattle.mlir_ir.proofs.TypeAt.{type_at_append, args_below, args_none, result_below, result_past, none_or}

below : (m n : ℕ) → m < n → nat_lt m n ≡ true
below m n h = grind (arith, nat_tests)

not_below : (m n : ℕ) → n ≤ m → nat_lt m n ≡ false
not_below m n h = grind (arith, nat_tests)

-- the values have labels among the `count` from `at` on
pub record Span (at count : ℕ) (values : List Value) : Type 0 where
  pub before : (label : ℕ) → label < at → type_at values label ≡ None
  pub behind : (label : ℕ) → at + count ≤ label → type_at values label ≡ None

span_none : (at count : ℕ) → Span at count []
span_none at count = record { before = λ label h. refl; behind = λ label h. refl }

span_wider : (at count p m : ℕ) (xs : List Value) → at ≤ p → p + m ≤ at + count → Span p m xs → Span at count xs
span_wider at count p m xs a b f = record { before = λ label h. f.before label (omega arith); behind = λ label h. f.behind label (omega arith) }

span_append : (at count p m q n : ℕ) (xs ys : List Value) → at ≤ p → at ≤ q → p + m ≤ at + count → q + n ≤ at + count → Span p m xs → Span q n ys → Span at count (xs ++ ys)
span_append at count p m q n xs ys a b c d f g = record {
  before = λ label h. type_at_append xs ys label ∙ rw (f.before label (omega arith), g.before label (omega arith)) refl;
  behind = λ label h. type_at_append xs ys label ∙ rw (f.behind label (omega arith), g.behind label (omega arith)) refl;
}

span_args : (at : ℕ) (args : List Arg) → Span at (length args) (arg_values at args)
span_args at args = record {
  before = λ label h. args_below at args label h;
  behind = λ label h. sym (args_none at args label (omega arith) (omega arith));
}

span_results : (at : ℕ) (packs : List Pack) (tys : List IrType) → Span at (length tys) (result_values at packs tys)
span_results at packs tys = record {
  before = λ label h. result_below at packs tys label h;
  behind = λ label h. result_past at packs tys (label - at) label (omega arith) (omega arith);
}

for_some : (parts : ForParts) → 0 < for_labels parts
for_some (ForParts' lower upper step iv args inits body) = omega arith

while_some : (parts : WhileParts) → 0 < while_labels parts
while_some (WhileParts' args inits before cond after_args after) = omega arith

mutual
  span_row : (at : ℕ) (n : _) (row : Row_of-Op n) → Span at (row_labels row) (row_values at row)
  span_row at n end_of-Op = span_none at 0
  span_row at n (more_of-Op packs results kind rest) =
      let k = kind_labels kind in
      let r = length results in
      let first = span_append at (k + r) at k (at + k) r (kind_values at kind) (result_values (at + k) packs results) (omega arith) (omega arith) (omega arith) (omega arith) (span_kind at kind) (span_results (at + k) packs results) in
      span_append at (k + r + row_labels rest) at (k + r) (at + k + r) (row_labels rest) (kind_values at kind ++ result_values (at + k) packs results) (row_values (at + k + r) rest) (omega arith) (omega arith) (omega arith) (omega arith) first (span_row (at + k + r) _ rest)

  span_region : (at : ℕ) (region : Region) → Span at (region_labels region) (region_values at region)
  span_region at (Region' shape row ends) = span_row at _ row

  span_kind : (at : ℕ) (kind : Kind) → Span at (kind_labels kind) (kind_values at kind)
  span_kind at (Const v) = span_none at 0
  span_kind at (Bin op flags a b) = span_none at 0
  span_kind at (Cast op flags a) = span_none at 0
  span_kind at (Cmp pred a b) = span_none at 0
  span_kind at (Select c a b) = span_none at 0
  span_kind at (Call func ls) = span_none at 0
  span_kind at (If' c first other) =
      let m = region_labels first in
      let n = else_labels other in
      span_append at (m + n) at m (at + m) n (region_values at first) (else_values (at + m) other) (omega arith) (omega arith) (omega arith) (omega arith) (span_region at first) (span_else (at + m) other)
  span_kind at (For parts) = span_wider at (for_labels parts) (at + 1) (for_labels parts - 1) (for_values at parts) (omega arith) (let some = for_some parts in omega (arith, some)) (inside_for at parts)
  span_kind at (While parts) = span_wider at (while_labels parts) (at + 1) (while_labels parts - 1) (while_values at parts) (omega arith) (let some = while_some parts in omega (arith, some)) (inside_while at parts)

  span_else : (at : ℕ) (other : Held-Kind-If-2) → Span at (else_labels other) (else_values at other)
  span_else at None' = span_none at 0
  span_else at (Some' region) = span_region at region

  -- behind the counter
  inside_for : (at : ℕ) (parts : ForParts) → Span (at + 1) (for_labels parts - 1) (for_values at parts)
  inside_for at (ForParts' lower upper step iv args inits body) =
      let a = length args in
      let m = region_labels body in
      span_append (at + 1) (2 + a + m - 1) (at + 1) (length (iv ∷ args)) (at + 2 + a) m (arg_values (at + 1) (iv ∷ args)) (region_values (at + 2 + a) body) (omega arith) (omega arith) (omega arith) (omega arith) (span_args (at + 1) (iv ∷ args)) (span_region (at + 2 + a) body)

  inside_while : (at : ℕ) (parts : WhileParts) → Span (at + 1) (while_labels parts - 1) (while_values at parts)
  inside_while at (WhileParts' args inits before cond after_args after) =
      let a = length args in
      let m = region_labels before in
      let b = length after_args in
      let n = region_labels after in
      let p = at + 1 + a in
      let q = p + m in
      let one = span_append (at + 1) (a + m) (at + 1) a p m (arg_values (at + 1) args) (region_values p before) (omega arith) (omega arith) (omega arith) (omega arith) (span_args (at + 1) args) (span_region p before) in
      let two = span_append (at + 1) (a + m + b) (at + 1) (a + m) q b (arg_values (at + 1) args ++ region_values p before) (arg_values q after_args) (omega arith) (omega arith) (omega arith) (omega arith) one (span_args q after_args) in
      span_append (at + 1) (1 + a + m + b + n - 1) (at + 1) (a + m + b) (q + b) n (arg_values (at + 1) args ++ region_values p before ++ arg_values q after_args) (region_values (q + b) after) (omega arith) (omega arith) (omega arith) (omega arith) two (span_region (q + b) after)

span_op : (at : ℕ) (op : Op) → Span at (op_labels op) (op_values at op)
span_op at op =
    let k = kind_labels op.kind in
    let r = length op.results in
    span_append at (k + r) at k (at + k) r (kind_values at op.kind) (result_values (at + k) op.packs op.results) (omega arith) (omega arith) (omega arith) (omega arith) (span_kind at op.kind) (span_results (at + k) op.packs op.results)

pub span_ops : (at : ℕ) (ops : List Op) → Span at (ops_labels ops) (ops_values at ops)
span_ops at [] = span_none at 0
span_ops at (op ∷ ops) =
    let k = op_labels op in
    let r = ops_labels ops in
    span_append at (k + r) at k (at + k) r (op_values at op) (ops_values (at + k) ops) (omega arith) (omega arith) (omega arith) (omega arith) (span_op at op) (span_ops (at + k) ops)

-- a search that goes on with the labels behind
abbrev pub follow : Search → (ℕ → Search) → Search
follow (Within found) more = Within found
follow (Behind left) more = more left

pub behind_less : (values : List Value) (count left label rest : ℕ) → Behind rest ≡ searched values count left label → rest ≤ left
behind_less values count left label rest h = elim (cases_lt left count) [
  | inl less ↦ let f = below left count less in absurd (grind (arith, nat_tests, h, f))
  | inr more ↦ let f = not_below left count more in let e : rest ≡ left - count = grind (arith, nat_tests, h, f) in omega (arith, e)
]

-- the values of one part, then those of another
searched_append : (left label : ℕ) (xs : List Value) (ys : ℕ → List Value) (p m q n k : ℕ) → left ≤ label → p ≡ label - left → q ≡ p + m → k ≡ m + n
    → Span p m xs → Span q n (ys q) → searched (xs ++ ys q) k left label ≡ follow (searched xs m left label) (λ rest. searched (ys (label - rest)) n rest label)
searched_append left label xs ys p m q n k l a b c f g = elim (cases_lt left m) [
  | inl less ↦
      let t : type_at (xs ++ ys q) label ≡ type_at xs label = type_at_append xs (ys q) label ∙ none_or _ _ (g.before label (omega (arith, less))) in
      rw (below left m less, below left k (omega (arith, less))) (ap Within t)
  | inr more ↦
      let at : label - (left - m) ≡ q = omega (arith, more) in
      let t : type_at (xs ++ ys q) label ≡ type_at (ys q) label = type_at_append xs (ys q) label ∙ rw (f.behind label (omega (arith, more))) refl in
      rw (not_below left m more, at, t) (elim (cases_lt left k) [
        | inl in_second ↦ rw (below left k in_second, below (left - m) n (omega (arith, more, in_second))) refl
        | inr behind ↦ rw (not_below left k behind, not_below (left - m) n (omega (arith, more, behind))) (ap Behind (omega (arith, more, behind)))
      ])
]

-- some labels without the value that is sought, then those of the rest
searched_skip : (values more : List Value) (d n k left label : ℕ) → d ≤ left → k ≡ d + n → type_at values label ≡ type_at more label → searched values k left label ≡ searched more n (left - d) label
searched_skip values more d n k left label l e t = elim (cases_lt left k) [
  | inl less ↦ rw (below left k less, below (left - d) n (omega (arith, less))) (ap Within t)
  | inr behind ↦ rw (not_below left k behind, not_below (left - d) n (omega (arith, behind))) (ap Behind (omega (arith, behind)))
]

two_searched : (left label : ℕ) (first second : Region) → left ≤ label
    → searched (region_values (label - left) first ++ region_values (label - left + region_labels first) second) (region_labels first + region_labels second) left label
    ≡ follow (searched (region_values (label - left) first) (region_labels first) left label) (λ rest. searched (region_values (label - rest) second) (region_labels second) rest label)
two_searched left label first second l =
    let at = label - left in
    let m = region_labels first in
    let n = region_labels second in
    searched_append left label (region_values at first) (λ q. region_values q second) at m (at + m) n (m + n) l refl refl refl (span_region at first) (span_region (at + m) second)

pub two_within : (left label : ℕ) (first second : Region) (found : Option IrType) → left ≤ label → Within found ≡ searched (region_values (label - left) first) (region_labels first) left label
    → Within found ≡ searched (region_values (label - left) first ++ region_values (label - left + region_labels first) second) (region_labels first + region_labels second) left label
two_within left label first second found l h =
    ap (λ one. follow one (λ n. searched (region_values (label - n) second) (region_labels second) n label)) h ∙ sym (two_searched left label first second l)

pub two_behind : (left label : ℕ) (first second : Region) (rest : ℕ) → left ≤ label → Behind rest ≡ searched (region_values (label - left) first) (region_labels first) left label
    → searched (region_values (label - rest) second) (region_labels second) rest label
    ≡ searched (region_values (label - left) first ++ region_values (label - left + region_labels first) second) (region_labels first + region_labels second) left label
two_behind left label first second rest l h =
    ap (λ one. follow one (λ n. searched (region_values (label - n) second) (region_labels second) n label)) h ∙ sym (two_searched left label first second l)

pub for_counter : (left label : ℕ) (parts : ForParts) → left ≡ 0 → searched (for_values (label - left) parts) (for_labels parts) left label ≡ Within None
for_counter left label parts e =
    let some = for_some parts in
    rw (below left (for_labels parts) (omega (arith, some))) (ap Within ((inside_for (label - left) parts).before label (omega arith)))

pub while_counter : (left label : ℕ) (parts : WhileParts) → left ≡ 0 → searched (while_values (label - left) parts) (while_labels parts) left label ≡ Within None
while_counter left label parts e =
    let some = while_some parts in
    rw (below left (while_labels parts) (omega (arith, some))) (ap Within ((inside_while (label - left) parts).before label (omega arith)))

same : (a b : ℕ) → a ≡ b → (a == b) ≡ true
same a b h = grind (arith, nat_tests)

other : (a b : ℕ) → a < b → (a == b) ≡ false
other a b h = grind (arith, nat_tests)

pub for_iv : (left label : ℕ) (parts : ForParts) → left ≤ label → left ≡ 1 → searched (for_values (label - left) parts) (for_labels parts) left label ≡ Within (Some (out-ForParts parts).iv.ty)
unfolding out-ForParts denote.Hole.Carrier.out
for_iv left label (ForParts' lower upper step iv args inits body) l e =
    rw (below left (2 + length args + region_labels body) (omega arith), same (label - left + 1) label (omega arith)) refl

pub for_searched : (left label : ℕ) (parts : ForParts) → left ≤ label → 2 ≤ left
    → searched (for_values (label - left) parts) (for_labels parts) left label
    ≡ follow (searched (arg_values (label - (left - 2)) (out-ForParts parts).args) (length (out-ForParts parts).args) (left - 2) label)
    (λ rest. searched (region_values (label - rest) (out-ForParts parts).body) (region_labels (out-ForParts parts).body) rest label)
unfolding out-ForParts denote.Hole.Carrier.out
for_searched left label (ForParts' lower upper step iv args inits body) l e =
    let at = label - left in
    let a = length args in
    let m = region_labels body in
    let p : at + 1 + 1 ≡ label - (left - 2) = omega arith in
    searched_skip (for_values at (ForParts' lower upper step iv args inits body)) (arg_values (at + 1 + 1) args ++ region_values (at + 2 + a) body) 2 (a + m) (2 + a + m) left label e (omega arith)
    (rw (other (at + 1) label (omega arith)) refl)
    ∙ rw p (searched_append (left - 2) label (arg_values (label - (left - 2)) args) (λ q. region_values q body) (label - (left - 2)) a (at + 2 + a) m (a + m) (omega arith) refl (omega arith) refl (span_args (label - (left - 2)) args) (span_region (at + 2 + a) body))

pub while_searched : (left label : ℕ) (parts : WhileParts) → left ≤ label → 1 ≤ left
    → searched (while_values (label - left) parts) (while_labels parts) left label
    ≡ follow
    (follow
    (follow (searched (arg_values (label - (left - 1)) (out-WhileParts parts).args) (length (out-WhileParts parts).args) (left - 1) label)
    (λ rest. searched (region_values (label - rest) (out-WhileParts parts).before) (region_labels (out-WhileParts parts).before) rest label))
    (λ rest. searched (arg_values (label - rest) (out-WhileParts parts).after_args) (length (out-WhileParts parts).after_args) rest label))
    (λ rest. searched (region_values (label - rest) (out-WhileParts parts).after) (region_labels (out-WhileParts parts).after) rest label)
unfolding out-WhileParts denote.Hole.Carrier.out
while_searched left label (WhileParts' args inits before cond after_args after) l e =
    let at = label - left in
    let a = length args in
    let m = region_labels before in
    let b = length after_args in
    let n = region_labels after in
    let s = left - 1 in
    let o = label - s in
    let p : at + 1 ≡ o = omega arith in
    let A = arg_values o args in
    let B = region_values (o + a) before in
    let C = arg_values (o + a + m) after_args in
    let one = span_append o (a + m) o a (o + a) m A B (omega arith) (omega arith) (omega arith) (omega arith) (span_args o args) (span_region (o + a) before) in
    let two = span_append o (a + m + b) o (a + m) (o + a + m) b (A ++ B) C (omega arith) (omega arith) (omega arith) (omega arith) one (span_args (o + a + m) after_args) in
    let whole : searched (A ++ B ++ C ++ region_values (o + a + m + b) after) (a + m + b + n) s label
    ≡ follow
    (follow
    (follow (searched A a s label) (λ rest. searched (region_values (label - rest) before) m rest label))
    (λ rest. searched (arg_values (label - rest) after_args) b rest label))
    (λ rest. searched (region_values (label - rest) after) n rest label) =
    searched_append s label (A ++ B ++ C) (λ q. region_values q after) o (a + m + b) (o + a + m + b) n (a + m + b + n) (omega arith) refl (omega arith) refl two (span_region (o + a + m + b) after)
    ∙ ap (λ found. follow found (λ rest. searched (region_values (label - rest) after) n rest label))
    (searched_append s label (A ++ B) (λ q. arg_values q after_args) o (a + m) (o + a + m) b (a + m + b) (omega arith) refl (omega arith) refl one (span_args (o + a + m) after_args)
    ∙ ap (λ found. follow found (λ rest. searched (arg_values (label - rest) after_args) b rest label))
    (searched_append s label A (λ q. region_values q before) o a (o + a) m (a + m) (omega arith) refl refl refl (span_args o args) (span_region (o + a) before))) in
    searched_skip (while_values at (WhileParts' args inits before cond after_args after)) (A ++ B ++ C ++ region_values (o + a + m + b) after) 1 (a + m + b + n) (1 + a + m + b + n) left label e (omega arith) (rw p refl)
    ∙ whole

values_items : (at : ℕ) (n : _) (row : Row_of-Op n) → row_values at row ≡ ops_values at (items-the_row-Op n row)
values_items at n end_of-Op = refl
values_items at n (more_of-Op packs results kind rest) =
    let e : at + kind_labels kind + length results ≡ at + (kind_labels kind + length results) = omega arith in
    ap (λ vs. kind_values at kind ++ result_values (at + kind_labels kind) packs results ++ vs) (rw e (values_items (at + (kind_labels kind + length results)) _ rest))

region_values_items : (at : ℕ) (r : Region) → region_values at r ≡ ops_values at (out-Region r).ops
unfolding out-Region denote.Hole.Carrier.out Rattle.mlir_ir.specs.declared.types.Kind.TheBlock.shown-the_row-Op-0
region_values_items at (Region' shape row ends) = values_items at _ row ∙ ap (ops_values at) (sym (items_shown-the_row-Op-0 shape row))

pub region_searched : (left label : ℕ) (r : Region) → searched (region_values (label - left) r) (region_labels r) left label ≡ searched (ops_values (label - left) (out-Region r).ops) (ops_labels (out-Region r).ops) left label
region_searched left label r = rw (region_values_items (label - left) r, region_labels_items r) refl

pub op_searched : (left label : ℕ) (op : Op) → left ≤ label
    → searched (op_values (label - left) op) (op_labels op) left label
    ≡ follow (searched (kind_values (label - left) op.kind) (kind_labels op.kind) left label) (λ rest. searched (result_values (label - rest) op.packs op.results) (length op.results) rest label)
op_searched left label op l =
    let at = label - left in
    let k = kind_labels op.kind in
    let r = length op.results in
    searched_append left label (kind_values at op.kind) (λ q. result_values q op.packs op.results) at k (at + k) r (k + r) l refl refl refl (span_kind at op.kind) (span_results (at + k) op.packs op.results)

ops_searched : (left label : ℕ) (op : Op) (ops : List Op) → left ≤ label
    → searched (ops_values (label - left) (op ∷ ops)) (ops_labels (op ∷ ops)) left label
    ≡ follow (searched (op_values (label - left) op) (op_labels op) left label) (λ rest. searched (ops_values (label - rest) ops) (ops_labels ops) rest label)
ops_searched left label op ops l =
    let at = label - left in
    let k = op_labels op in
    searched_append left label (op_values at op) (λ q. ops_values q ops) at k (at + k) (ops_labels ops) (k + ops_labels ops) l refl refl refl (span_op at op) (span_ops (at + k) ops)

ops_left : (ops : List Op) (i : ℕ) (op : Op) → i < length ops → op ≡ get_or ops i op → drop i ops ≡ op ∷ drop (i + 1) ops
ops_left ops i op l e = grind (arith, common_steps)

-- a step of a search over operations
pub ops_here : (ops : List Op) (i : ℕ) (op : Op) (left label : ℕ) (found : Option IrType) (whole : Search) → i < length ops → op ≡ get_or ops i op → left ≤ label
    → searched (ops_values (label - left) (drop i ops)) (ops_labels (drop i ops)) left label ≡ whole
    → Within found ≡ searched (op_values (label - left) op) (op_labels op) left label → Within found ≡ whole
ops_here ops i op left label found whole l e h w f =
    let s = ops_searched left label op (drop (i + 1) ops) h in
    ap (λ one. follow one (λ rest. searched (ops_values (label - rest) (drop (i + 1) ops)) (ops_labels (drop (i + 1) ops)) rest label)) f ∙ (sym s ∙ rw (ops_left ops i op l e) at w)

pub ops_behind : (ops : List Op) (i : ℕ) (op : Op) (left label rest : ℕ) (whole : Search) → i < length ops → op ≡ get_or ops i op → left ≤ label
    → searched (ops_values (label - left) (drop i ops)) (ops_labels (drop i ops)) left label ≡ whole
    → Behind rest ≡ searched (op_values (label - left) op) (op_labels op) left label
    → (rest ≤ label) × (searched (ops_values (label - rest) (drop (i + 1) ops)) (ops_labels (drop (i + 1) ops)) rest label ≡ whole)
ops_behind ops i op left label rest whole l e h w f =
    let s = ops_searched left label op (drop (i + 1) ops) h in
    let less = behind_less (op_values (label - left) op) (op_labels op) left label rest f in
    (omega (arith, less), ap (λ one. follow one (λ n. searched (ops_values (label - n) (drop (i + 1) ops)) (ops_labels (drop (i + 1) ops)) n label)) f ∙ (sym s ∙ rw (ops_left ops i op l e) at w))

pub items_before : (func k : ℕ) (items : List Item) (label : ℕ) → label < label_at func k 0 → type_at (items_values func k items) label ≡ None
items_before func k [] label h = refl
items_before func k (item ∷ items) label h =
    type_at_append (ops_values (label_at func k 0) item.ops) (items_values func (k + 1) items) label
    ∙ rw ((span_ops (label_at func k 0) item.ops).before label h, items_before func (k + 1) items label (omega arith)) refl

pub searched_within : (values : List Value) (count left label : ℕ) (found : Option IrType) → Within found ≡ searched values count left label → found ≡ type_at values label
searched_within values count left label found h = elim (cases_lt left count) [
  | inl less ↦ let f = below left count less in grind (arith, nat_tests, h, f)
  | inr more ↦ let f = not_below left count more in absurd (grind (arith, nat_tests, h, f))
]

searched_behind : (values : List Value) (count left label rest : ℕ) → Behind rest ≡ searched values count left label → count ≤ left
searched_behind values count left label rest h = elim (cases_lt left count) [
  | inl less ↦ let f = below left count less in absurd (grind (arith, nat_tests, h, f))
  | inr more ↦ more
]

pub ops_passed : (left label rest : ℕ) (ops : List Op) → left ≤ label → Behind rest ≡ searched (ops_values (label - left) ops) (ops_labels ops) left label → type_at (ops_values (label - left) ops) label ≡ None
ops_passed left label rest ops l h =
    let few = searched_behind (ops_values (label - left) ops) (ops_labels ops) left label rest h in
    (span_ops (label - left) ops).behind label (omega (arith, few))

items_left : (items : List Item) (i : ℕ) (item : Item) → i < length items → item ≡ get_or items i item → drop i items ≡ item ∷ drop (i + 1) items
items_left items i item l e = grind (arith, common_steps)

-- a step of a search over items, whose labels begin `index_count` apart
pub item_found : (func i label left : ℕ) (items : List Item) (item : Item) (ty : IrType) (whole : Option IrType) → i < length items → item ≡ get_or items i item
    → left + label_at func i 0 ≡ label → index_count ≤ left → type_at (items_values func (i + 1) (drop i items)) label ≡ whole
    → Some ty ≡ type_at (ops_values (label - (left - index_count)) item.ops) label → Some ty ≡ whole
item_found func i label left items item ty whole l e p n w f =
    let at : label - (left - index_count) ≡ label_at func (i + 1) 0 = omega arith in
    let here : Some ty ≡ type_at (ops_values (label_at func (i + 1) 0) item.ops) label = rw (← at) f in
    ap (λ one. option_or one (type_at (items_values func (i + 1 + 1) (drop (i + 1) items)) label)) here
    ∙ (sym (type_at_append (ops_values (label_at func (i + 1) 0) item.ops) (items_values func (i + 1 + 1) (drop (i + 1) items)) label) ∙ rw (items_left items i item l e) at w)

pub item_passed : (func i label left : ℕ) (items : List Item) (item : Item) (whole : Option IrType) → i < length items → item ≡ get_or items i item
    → left + label_at func i 0 ≡ label → index_count ≤ left → type_at (items_values func (i + 1) (drop i items)) label ≡ whole
    → None ≡ type_at (ops_values (label - (left - index_count)) item.ops) label → type_at (items_values func (i + 1 + 1) (drop (i + 1) items)) label ≡ whole
item_passed func i label left items item whole l e p n w f =
    let at : label - (left - index_count) ≡ label_at func (i + 1) 0 = omega arith in
    let here : None ≡ type_at (ops_values (label_at func (i + 1) 0) item.ops) label = rw (← at) f in
    ap (λ one. option_or one (type_at (items_values func (i + 1 + 1) (drop (i + 1) items)) label)) here
    ∙ (sym (type_at_append (ops_values (label_at func (i + 1) 0) item.ops) (items_values func (i + 1 + 1) (drop (i + 1) items)) label) ∙ rw (items_left items i item l e) at w)
