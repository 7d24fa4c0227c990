-- The labels before the places of a function never fall, and so those of its breaks.
use Rattle.std.proofs.Common.{◌≡◌, ℕ, ◌+◌, ◌-◌, ◌==◌, ◌≤◌, Bool, true, false, List, [], ◌∷◌, ◌++◌, length, drop, refl, ap, subst, arith, Option, Some, None, if◌then◌else◌}
use Rattle.std.proofs.lemmas.Bool.Decides.{nat_tests}
use Rattle.std.proofs.lemmas.List.Elements.{All-nil, All-cons, All-head, All-tail}
use Rattle.std.proofs.lemmas.List.Kept.{AllPairs-cons}
use Rattle.std.specs.List.{All, AllPairs}
use Rattle.std.specs.Option.{IfSome}
use Rattle.mlir_ir.specs.declared.rules.Nest.{Nest}
use Rattle.mlir_ir.specs.declared.rules.Position.{Position}
use Rattle.mlir_ir.specs.declared.rules.Rules.{Rules}
use Rattle.mlir_ir.specs.declared.shape.Shape.{Shape}
use Rattle.mlir_ir.specs.declared.shape.ShapeFault.{ShapeFault}
use Rattle.mlir_ir.specs.declared.shape.ShapeFault.TheVariants.{Use, WrongType, Count, Size}
use Rattle.mlir_ir.specs.declared.types.Arg.{Arg}
use Rattle.mlir_ir.specs.declared.types.Body.{Body}
use Rattle.mlir_ir.specs.declared.types.Func.{Func}
use Rattle.mlir_ir.specs.declared.types.IrType.{IrType}
use Rattle.mlir_ir.specs.declared.types.Item.{Item}
use Rattle.mlir_ir.specs.declared.types.Op.{Op}
use Rattle.mlir_ir.specs.declared.types.Region.{Region', Row_of-Op, end_of-Op, more_of-Op}
use Rattle.mlir_ir.specs.declared.types.Kind.{Kind, Const, Bin, Cast, Cmp, Select, Call, If', For, While, None', Some'}
use Rattle.mlir_ir.specs.declared.types.ForParts.{ForParts'}
use Rattle.mlir_ir.specs.declared.types.WhileParts.{WhileParts'}
use Rattle.arith_word.specs.Labels.{label_at}
use Rattle.mlir_ir.specs.Labels.{kind_labels, row_labels, op_labels, ops_labels}
use Rattle.mlir_ir.specs.Limits.{label_limit}
use Rattle.mlir_ir.specs.Rules.{arg_types}
use Rattle.mlir_ir.specs.Values.{Value, arg_values, result_values}
use Rattle.mlir_ir.specs.Check.{breaks, unless, breaks_at, past, past_args, past_region, past_row, past_kind, past_op, past_ops, past_items, opened, looped, row_ops, kind_ops, ops_ops, op_results, results_of, at_item, in_item, func_begin, is_declaration}
use Rattle.mlir_ir.specs.Places.{HasFewLabels, Place, place_breaks, args_places, row_places, kind_places, arm_places, before_places, turn_places, ops_places, items_places, body_places, places, DoLabelsFit, DoLabelsRise}
use Rattle.mlir_ir.proofs.ListedBreaks.{past_past}
use Rattle.mlir_ir.proofs.PlaceBreaks.{func_same}

-- numbers from lo up to hi that never fall
module _ {X : Type 0} (key : X → ℕ) where
  abbrev Rise : ℕ → ℕ → List X → Type 0
  Rise lo hi [] = lo ≤ hi
  Rise lo hi (x ∷ xs) = (lo ≤ key x) × Rise (key x) hi xs

  rise_append : (lo m hi : ℕ) (xs ys : List X) → Rise lo m xs → Rise m hi ys → Rise lo hi (xs ++ ys)
  rise_append lo m hi [] ys h g = rise_less lo m hi ys h g
    where
      rise_less : (lo m hi : ℕ) (ys : List X) → lo ≤ m → Rise m hi ys → Rise lo hi ys
      rise_less lo m hi [] l h = omega arith
      rise_less lo m hi (y ∷ ys) l h = (omega (arith, h.0), h.1)
  rise_append lo m hi (x ∷ xs) ys h g = (h.0, rise_append (key x) m hi xs ys h.1 g)

  rise_all : (lo hi : ℕ) (xs : List X) → Rise lo hi xs → All (λ y. lo ≤ key y) xs
  rise_all lo hi [] h = All-nil (λ y. lo ≤ key y)
  rise_all lo hi (x ∷ xs) h = All-cons (λ y. lo ≤ key y) x xs h.0 (λ k d l. let g : key x ≤ _ = rise_all (key x) hi xs h.1 k d l in omega (arith, h.0))

  rise_pairs : (lo hi : ℕ) (xs : List X) → Rise lo hi xs → AllPairs (λ a b. key a ≤ key b) xs
  rise_pairs lo hi [] h = λ i j d l m. absurd (omega arith)
  rise_pairs lo hi (x ∷ xs) h = AllPairs-cons (λ a b. key a ≤ key b) x xs (rise_all (key x) hi xs h.1) (rise_pairs (key x) hi xs h.1)

  rise_to : (lo hi hi' : ℕ) (xs : List X) → hi ≤ hi' → Rise lo hi xs → Rise lo hi' xs
  rise_to lo hi hi' [] l h = omega arith
  rise_to lo hi hi' (x ∷ xs) l h = (h.0, rise_to (key x) hi hi' xs l h.1)

  rise_from : (lo lo' hi : ℕ) (xs : List X) → lo ≤ lo' → Rise lo' hi xs → Rise lo hi xs
  rise_from lo lo' hi [] l h = omega arith
  rise_from lo lo' hi (x ∷ xs) l h = (omega (arith, h.0), h.1)

-- positions

last_rises : (l n a c : ℕ) → l ≤ n → a ≤ c → (if a == 0 then l else n + a - 1) ≤ (if c == 0 then l else n + c - 1)
last_rises l n a c h g = grind (arith, nat_tests)

last_below : (l n a : ℕ) → l ≤ n → (if a == 0 then l else n + a - 1) ≤ n + a
last_below l n a h = grind (arith, nat_tests)

past_rises : (a b c d : ℕ) (at : Position) → at.last ≤ at.next → a ≤ c → (past a b at).last ≤ (past c d at).last
past_rises a b c d at h g = last_rises at.last at.next a c h g

past_below : (a b : ℕ) (at : Position) → at.last ≤ at.next → (past a b at).last ≤ (past a b at).next
past_below a b at h = last_below at.last at.next a h

-- behind a second step
past_again : (a b c d e : ℕ) (at : Position) → at.last ≤ at.next → c + a ≤ e → (past a b (past c d at)).last ≤ (past e (d + b) at).last
past_again a b c d e at h g =
    let same : (past a b (past c d at)).last ≡ (past (c + a) (d + b) at).last = ap (λ (p : Position). p.last) (past_past a b c d at) in
    let more = past_rises (c + a) (d + b) e (d + b) at h g in
    omega arith

abbrev last_of : Place → ℕ
last_of p = p.last

abbrev Rises : ℕ → ℕ → List Place → Type 0
Rises lo hi ps = Rise last_of lo hi ps

args_rise : (declared : Bool) (n : ℕ) (wanted : List IrType) (scope : List Value) (at : Position) (args : List Arg) → at.last ≤ at.next
    → Rises at.last (past_args args at).last (args_places declared n wanted scope at args)
args_rise declared n wanted scope at [] h = omega arith
args_rise declared n wanted scope at (arg ∷ args) h =
    let more = args_rise declared (n + 1) (drop 1 wanted) (scope ++ arg_values at.next (arg ∷ [])) (past 1 0 at) args (past_below 1 0 at h) in
    let ps = args_places declared (n + 1) (drop 1 wanted) (scope ++ arg_values at.next (arg ∷ [])) (past 1 0 at) args in (
      omega arith,
      rise_to last_of at.last (past_args args (past 1 0 at)).last (past_args (arg ∷ args) at).last ps (past_again (length args) 0 1 0 (length (arg ∷ args)) at h (omega arith))
          (rise_from last_of at.last (past 1 0 at).last (past_args args (past 1 0 at)).last ps (omega arith) more),
    )

-- a region with its terminator
arm_rise : (scope : List Value) (nest : Nest) (at : Position) (n : _) (row : Row_of-Op n) (hi : ℕ) (p : Place) → p.last ≡ (past_row row at).last → (past_row row at).last ≤ hi
    → Rises at.last (past_row row at).last (row_places scope nest at row) → Rises at.last hi (row_places scope nest at row ++ p ∷ [])
arm_rise scope nest at n row hi p e l h = rise_append last_of at.last (past_row row at).last hi (row_places scope nest at row) (p ∷ []) h (omega arith, omega arith)

mutual
  row_rise : (scope : List Value) (nest : Nest) (at : Position) (n : _) (row : Row_of-Op n) → at.last ≤ at.next → Rises at.last (past_row row at).last (row_places scope nest at row)
  row_rise scope nest at n end_of-Op h = omega arith
  row_rise scope nest at n (more_of-Op packs results kind rest) h =
      let inside = past 0 1 at in
      let at2 = past (kind_labels kind + length results) (1 + kind_ops kind) at in
      let more = scope ++ result_values (at.next + kind_labels kind) packs results in
      let k = kind_rise scope nest inside results kind (omega arith) in
      let lower : (past_kind kind inside).last ≤ at2.last = past_again (kind_labels kind) (kind_ops kind) 0 1 (kind_labels kind + length results) at h (omega arith) in
      let g = row_rise more nest at2 _ rest (past_below (kind_labels kind + length results) (1 + kind_ops kind) at h) in
      let upper : (past_row rest at2).last ≤ (past_row (more_of-Op packs results kind rest) at).last =
      past_again (row_labels rest) (row_ops rest) (kind_labels kind + length results) (1 + kind_ops kind) (row_labels (more_of-Op packs results kind rest)) at h (omega arith) in (
        omega arith,
        rise_append last_of at.last at2.last (past_row (more_of-Op packs results kind rest) at).last (kind_places scope nest inside results kind) (row_places more nest at2 rest)
            (rise_to last_of at.last (past_kind kind inside).last at2.last (kind_places scope nest inside results kind) lower k)
            (rise_to last_of at2.last (past_row rest at2).last (past_row (more_of-Op packs results kind rest) at).last (row_places more nest at2 rest) upper g),
      )

  kind_rise : (scope : List Value) (nest : Nest) (at : Position) (results : List IrType) (kind : Kind) → at.last ≤ at.next → Rises at.last (past_kind kind at).last (kind_places scope nest at results kind)
  kind_rise scope nest at results (Const v) h = omega arith
  kind_rise scope nest at results (Bin op flags a b) h = omega arith
  kind_rise scope nest at results (Cast op flags a) h = omega arith
  kind_rise scope nest at results (Cmp pred a b) h = omega arith
  kind_rise scope nest at results (Select c a b) h = omega arith
  kind_rise scope nest at results (Call func ls) h = omega arith
  kind_rise scope nest at results (If' c (Region' shape row ends) None') h =
      let hi = (past (row_labels row + 0) (row_ops row + 0) at).last in
      let upper : (past_row row at).last ≤ hi = past_rises (row_labels row) (row_ops row) (row_labels row + 0) (row_ops row + 0) at h (omega arith) in
      rise_append last_of at.last hi hi (arm_places scope (opened nest) at results (Region' shape row ends)) [] (arm_rise scope (opened nest) at _ row hi _ refl upper (row_rise scope (opened nest) at _ row h)) (omega arith)
  kind_rise scope nest at results (If' c (Region' shape row ends) (Some' (Region' shape2 row2 ends2))) h =
      let at2 = past_region (Region' shape row ends) at in
      let hi = (past (row_labels row + row_labels row2) (row_ops row + row_ops row2) at).last in
      let upper : (past_row row2 at2).last ≤ hi = past_again (row_labels row2) (row_ops row2) (row_labels row) (row_ops row) (row_labels row + row_labels row2) at h (omega arith) in
      rise_append last_of at.last at2.last hi (arm_places scope (opened nest) at results (Region' shape row ends)) (arm_places scope (opened nest) at2 results (Region' shape2 row2 ends2))
      (arm_rise scope (opened nest) at _ row at2.last _ refl (omega arith) (row_rise scope (opened nest) at _ row h))
      (arm_rise scope (opened nest) at2 _ row2 hi _ refl upper (row_rise scope (opened nest) at2 _ row2 (past_below (row_labels row) (row_ops row) at h)))
  kind_rise scope nest at results (For (ForParts' lower upper step iv args inits (Region' shape row ends))) h =
      let at1 = past 1 0 at in
      let at2 = past 1 0 at1 in
      let at3 = past_args args at2 in
      let h1 = past_below 1 0 at h in
      let h2 = past_below 1 0 at1 h1 in
      let h3 = past_below (length args) 0 at2 h2 in
      let with_iv = scope ++ arg_values at1.next (iv ∷ []) in
      let in_body = with_iv ++ arg_values at2.next args in
      let hi = (past_kind (For (ForParts' lower upper step iv args inits (Region' shape row ends))) at).last in
      let l1 : at.last ≤ at1.last = past_rises 0 0 1 0 at h (omega arith) in
      let u3 : (past_row row at3).last ≤ (past (length args + row_labels row) (0 + row_ops row) at2).last = past_again (row_labels row) (row_ops row) (length args) 0 (length args + row_labels row) at2 h2 (omega arith) in
      let u2 : (past (length args + row_labels row) (0 + row_ops row) at2).last ≤ (past (1 + length args + row_labels row) (0 + (0 + row_ops row)) at1).last = past_again (length args + row_labels row) (0 + row_ops row) 1 0 (1 + length args + row_labels row) at1 h1 (omega arith) in
      let u1 : (past (1 + length args + row_labels row) (0 + (0 + row_ops row)) at1).last ≤ hi = past_again (1 + length args + row_labels row) (0 + (0 + row_ops row)) 1 0 (2 + length args + row_labels row) at h (omega arith) in
      let whole : (past_row row at3).last ≤ hi = omega arith in
      rise_append last_of at.last at3.last hi (args_places false 0 [] scope at1 (iv ∷ []) ++ args_places false 0 [] with_iv at2 args) (arm_places in_body (looped nest) at3 results (Region' shape row ends))
      (rise_append last_of at.last at2.last at3.last (args_places false 0 [] scope at1 (iv ∷ [])) (args_places false 0 [] with_iv at2 args)
      (rise_from last_of at.last at1.last at2.last (args_places false 0 [] scope at1 (iv ∷ [])) l1 (args_rise false 0 [] scope at1 (iv ∷ []) h1)) (args_rise false 0 [] with_iv at2 args h2))
      (arm_rise in_body (looped nest) at3 _ row hi _ refl whole (row_rise in_body (looped nest) at3 _ row h3))
  kind_rise scope nest at results (While (WhileParts' args inits (Region' shape row passed) cond after_args (Region' shape2 row2 ends))) h =
      let at1 = past 1 0 at in
      let at2 = past_args args at1 in
      let at3 = past_region (Region' shape row passed) at2 in
      let at4 = past_args after_args at3 in
      let h1 = past_below 1 0 at h in
      let h2 = past_below (length args) 0 at1 h1 in
      let h3 = past_below (row_labels row) (row_ops row) at2 h2 in
      let h4 = past_below (length after_args) 0 at3 h3 in
      let in_before = scope ++ arg_values at1.next args in
      let in_after = scope ++ arg_values at3.next after_args in
      let hi = (past_kind (While (WhileParts' args inits (Region' shape row passed) cond after_args (Region' shape2 row2 ends))) at).last in
      let l1 : at.last ≤ at1.last = past_rises 0 0 1 0 at h (omega arith) in
      let n4 = length after_args + row_labels row2 in
      let n3 = row_labels row + n4 in
      let n2 = length args + n3 in
      let u4 : (past_row row2 at4).last ≤ (past n4 (0 + row_ops row2) at3).last = past_again (row_labels row2) (row_ops row2) (length after_args) 0 n4 at3 h3 (omega arith) in
      let u3 : (past n4 (0 + row_ops row2) at3).last ≤ (past n3 (row_ops row + (0 + row_ops row2)) at2).last = past_again n4 (0 + row_ops row2) (row_labels row) (row_ops row) n3 at2 h2 (omega arith) in
      let u2 : (past n3 (row_ops row + (0 + row_ops row2)) at2).last ≤ (past n2 (0 + (row_ops row + (0 + row_ops row2))) at1).last = past_again n3 (row_ops row + (0 + row_ops row2)) (length args) 0 n2 at1 h1 (omega arith) in
      let u1 : (past n2 (0 + (row_ops row + (0 + row_ops row2))) at1).last ≤ hi =
      past_again n2 (0 + (row_ops row + (0 + row_ops row2))) 1 0 (1 + length args + row_labels row + length after_args + row_labels row2) at h (omega arith) in
      let whole : (past_row row2 at4).last ≤ hi = omega arith in
      let A = args_places false 0 [] scope at1 args in
      let B = before_places in_before (looped nest) at2 results cond (Region' shape row passed) in
      let C = args_places false 0 results scope at3 after_args in
      let D = turn_places in_after (looped nest) at4 (arg_types args) (Region' shape2 row2 ends) in
      rise_append last_of at.last at4.last hi (A ++ B ++ C) D
      (rise_append last_of at.last at3.last at4.last (A ++ B) C
      (rise_append last_of at.last at2.last at3.last A B (rise_from last_of at.last at1.last at2.last A l1 (args_rise false 0 [] scope at1 args h1))
      (arm_rise in_before (looped nest) at2 _ row at3.last _ refl (omega arith) (row_rise in_before (looped nest) at2 _ row h2)))
      (args_rise false 0 results scope at3 after_args h3))
      (arm_rise in_after (looped nest) at4 _ row2 hi _ refl whole (row_rise in_after (looped nest) at4 _ row2 h4))

ops_rise : (scope : List Value) (nest : Nest) (at : Position) (ops : List Op) → at.last ≤ at.next → Rises at.last (past_ops ops at).last (ops_places scope nest at ops)
ops_rise scope nest at [] h = omega arith
ops_rise scope nest at (op ∷ ops) h =
    let inside = past 0 1 at in
    let at2 = past_op op at in
    let more = scope ++ op_results at.next op in
    let k = kind_rise scope nest inside op.results op.kind (omega arith) in
    let lower : (past_kind op.kind inside).last ≤ at2.last = past_again (kind_labels op.kind) (kind_ops op.kind) 0 1 (op_labels op) at h (omega arith) in
    let g = ops_rise more nest at2 ops (past_below (op_labels op) (1 + kind_ops op.kind) at h) in
    let upper : (past_ops ops at2).last ≤ (past_ops (op ∷ ops) at).last = past_again (ops_labels ops) (ops_ops ops) (op_labels op) (1 + kind_ops op.kind) (ops_labels (op ∷ ops)) at h (omega arith) in (
      omega arith,
      rise_append last_of at.last at2.last (past_ops (op ∷ ops) at).last (kind_places scope nest inside op.results op.kind) (ops_places more nest at2 ops)
          (rise_to last_of at.last (past_kind op.kind inside).last at2.last (kind_places scope nest inside op.results op.kind) lower k)
          (rise_to last_of at2.last (past_ops ops at2).last (past_ops (op ∷ ops) at).last (ops_places more nest at2 ops) upper g),
    )

items_rise : (func k : ℕ) (scope : List Value) (at : Position) (items : List Item) → at.last ≤ label_at func k 0 → All HasFewLabels items
    → Rises at.last (past_items func k items at).last (items_places func k scope at items)
items_rise func k scope at [] h l = omega arith
items_rise func k scope at (item ∷ items) h l =
    let b = at_item func k at in
    let few : ops_labels item.ops ≤ label_limit = All-head HasFewLabels item items l in
    let at2 = past_ops item.ops b in
    let below : at2.last ≤ at2.next = past_below (ops_labels item.ops) (ops_ops item.ops) b h in
    let more = scope ++ results_of (label_at func k 0) item.ops in
    rise_append last_of at.last at2.last (past_items func (k + 1) items at2).last (ops_places scope (in_item k item) b item.ops) (items_places func (k + 1) more at2 items)
    (ops_rise scope (in_item k item) b item.ops h) (items_rise func (k + 1) more at2 items (omega arith) (All-tail HasFewLabels item items l))

-- all of them from that label on
body_rise : (f : Func) (body : Option Body) → length f.args ≤ label_limit → IfSome body (λ (b : Body). All HasFewLabels b.items)
    → (hi : ℕ) × Rises (past_args f.args (func_begin f)).last hi (body_places f body)
body_rise f None a l = ((past_args f.args (func_begin f)).last, omega arith)
body_rise f (Some body) a l =
    let begin = past_args f.args (func_begin f) in
    let below : begin.last ≤ begin.next = past_below (length f.args) 0 (func_begin f) (omega arith) in
    let hi = (past_items f.index 1 body.items begin).last in
    let scope = arg_values (label_at f.index 0 0) f.args in
    (hi, rise_append last_of begin.last hi hi (items_places f.index 1 scope begin body.items) (_ ∷ []) (items_rise f.index 1 scope begin body.items (omega arith) l) (omega arith, omega arith))

-- breaks at places that rise

abbrev at_of : Shape → ℕ
at_of b = b.at.0

unless_rise : (b : Bool) (at : ℕ) (fault : ShapeFault) → Rise at_of at at (unless b at fault)
unless_rise true at fault = omega arith
unless_rise false at fault = (omega arith, omega arith)

at_rise : (at : ℕ) (r : Rules) → Rise at_of at at (breaks_at at r)
at_rise at r =
    rise_append at_of at at at (unless r.in_scope at Use ++ unless r.typed at WrongType ++ unless r.counted at Count) (unless r.sized at Size)
    (rise_append at_of at at at (unless r.in_scope at Use ++ unless r.typed at WrongType) (unless r.counted at Count)
    (rise_append at_of at at at (unless r.in_scope at Use) (unless r.typed at WrongType) (unless_rise r.in_scope at Use) (unless_rise r.typed at WrongType)) (unless_rise r.counted at Count))
    (unless_rise r.sized at Size)

breaks_rise : (lo hi : ℕ) (ps : List Place) → Rises lo hi ps → Rise at_of lo hi (place_breaks ps)
breaks_rise lo hi [] h = h
breaks_rise lo hi (p ∷ ps) h =
    rise_append at_of lo p.last hi (breaks_at p.last (p.rules p.scope)) (place_breaks ps) (rise_from at_of lo p.last p.last (breaks_at p.last (p.rules p.scope)) h.0 (at_rise p.last (p.rules p.scope)))
    (breaks_rise p.last hi ps h.1)

pub func_rises : (f : Func) → DoLabelsFit f → DoLabelsRise (breaks f)
func_rises f h =
    let begin = func_begin f in
    let body = body_rise f f.body h.args_fit h.items_fit in
    let args = args_rise (is_declaration f.body) 0 [] [] begin f.args (omega arith) in
    let all : Rises begin.last body.0 (places f) = (omega arith, rise_append last_of begin.last (past_args f.args begin).last body.0 (args_places (is_declaration f.body) 0 [] [] begin f.args) (body_places f f.body) args body.1) in
    subst DoLabelsRise (func_same f) (rise_pairs at_of begin.last body.0 (place_breaks (places f)) (breaks_rise begin.last body.0 (places f) all))
