-- What is in scope at a place of a function is among the function's values.
use Rattle.std.proofs.Common.{◌≡◌, ℕ, ◌+◌, Bool, false, List, [], ◌∷◌, ◌++◌, length, drop, refl, sym, subst, arith, Option, Some, None}
use Rattle.std.proofs.lemmas.List.Elements.{All-nil, All-cons, Contains-append_right}
use Rattle.std.specs.List.{All, Contains}
use Rattle.mlir_ir.specs.Rules.{arg_types}
use Rattle.mlir_ir.specs.declared.rules.Nest.{Nest}
use Rattle.mlir_ir.specs.declared.rules.Position.{Position}
use Rattle.mlir_ir.specs.declared.types.Arg.{Arg}
use Rattle.mlir_ir.specs.declared.types.Body.{Body}
use Rattle.mlir_ir.specs.declared.types.Func.{Func}
use Rattle.mlir_ir.specs.declared.types.IrType.{IrType}
use Rattle.mlir_ir.specs.declared.types.Item.{Item}
use Rattle.mlir_ir.specs.declared.types.Op.{Op}
use Rattle.mlir_ir.specs.declared.types.Pack.{Pack}
use Rattle.mlir_ir.specs.declared.types.Region.{Region', Row_of-Op, end_of-Op, more_of-Op}
use Rattle.mlir_ir.specs.declared.types.Kind.{Kind, Const, Bin, Cast, Cmp, Select, Call, If', For, While, None', Some'}
use Rattle.mlir_ir.specs.declared.types.ForParts.{ForParts'}
use Rattle.mlir_ir.specs.declared.types.WhileParts.{WhileParts'}
use Rattle.arith_word.specs.Labels.{label_at}
use Rattle.mlir_ir.specs.Labels.{kind_labels, row_labels, op_labels}
use Rattle.mlir_ir.specs.Values.{Value, arg_values, result_values, row_values, kind_values, ops_values, items_values, body_values, func_values}
use Rattle.mlir_ir.specs.Check.{past, past_args, past_region, past_op, past_ops, opened, looped, kind_ops, row_results, op_results, results_of, items_results, at_item, in_item, func_begin, is_declaration}
use Rattle.mlir_ir.specs.Places.{Place, args_places, row_places, kind_places, arm_places, before_places, turn_places, ops_places, items_places, body_places, places, SeesOnly}

-- `All`, by recursion on the list
abbrev Each : {X : Type 0} → (X → Type 0) → List X → Type 0
Each P [] = Unit {0}
Each P (x ∷ xs) = P x × Each P xs

all_of : {X : Type 0} (P : X → Type 0) (xs : List X) → Each P xs → All P xs
all_of P [] h = All-nil P
all_of P (x ∷ xs) h = All-cons P x xs h.0 (all_of P xs h.1)

each_append : {X : Type 0} (P : X → Type 0) (xs ys : List X) → Each P xs → Each P ys → Each P (xs ++ ys)
each_append P [] ys h g = g
each_append P (x ∷ xs) ys h g = (h.0, each_append P xs ys h.1 g)

each_split : {X : Type 0} (P : X → Type 0) (xs ys : List X) → Each P (xs ++ ys) → Each P xs × Each P ys
each_split P [] ys h = (tt, h)
each_split P (x ∷ xs) ys h = let g = each_split P xs ys h.1 in ((h.0, g.0), g.1)

each_more : {X : Type 0} (P Q : X → Type 0) → ((x : X) → P x → Q x) → (xs : List X) → Each P xs → Each Q xs
each_more P Q f [] h = tt
each_more P Q f (x ∷ xs) h = (f x h.0, each_more P Q f xs h.1)

each_self : (xs : List Value) → Each (Contains xs) xs
each_self [] = tt
each_self (x ∷ xs) =
    let whole : (y : Value) → Contains xs y → Contains (x ∷ xs) y = λ y c. Contains-append_right (x ∷ []) xs y c in
    ((0, omega arith, refl), each_more (Contains xs) (Contains (x ∷ xs)) whole xs (each_self xs))

-- with P for "is a value of the function"
module _ (P : Value → Type 0) where
  abbrev Seen : List Place → Type 0
  Seen ps = Each (λ (p : Place). Each P p.scope) ps

  seen_append : (ps qs : List Place) → Seen ps → Seen qs → Seen (ps ++ qs)
  seen_append ps qs h g = each_append (λ (p : Place). Each P p.scope) ps qs h g

  args_moved : (b q : ℕ) (args : List Arg) → b ≡ q → Each P (arg_values q args) → Each P (arg_values b args)
  args_moved b q args e h = subst (λ n. Each P (arg_values n args)) (sym e) h

  results_moved : (b q : ℕ) (packs : List Pack) (tys : List IrType) → b ≡ q → Each P (result_values q packs tys) → Each P (result_values b packs tys)
  results_moved b q packs tys e h = subst (λ n. Each P (result_values n packs tys)) (sym e) h

  args_seen : (declared : Bool) (n : ℕ) (wanted : List IrType) (scope : List Value) (at : Position) (q : ℕ) → at.next ≡ q → (args : List Arg) → Each P scope → Each P (arg_values q args)
      → Seen (args_places declared n wanted scope at args)
  args_seen declared n wanted scope at q e [] s h = tt
  args_seen declared n wanted scope at q e (arg ∷ args) s h =
      (s, args_seen declared (n + 1) (drop 1 wanted) (scope ++ arg_values at.next (arg ∷ [])) (past 1 0 at) (q + 1) (omega arith) args (each_append P scope (arg_values at.next (arg ∷ [])) s (args_moved at.next q (arg ∷ []) e (h.0, tt))) h.1)

  -- the results of a region's operations
  row_gives : (b q : ℕ) → b ≡ q → (n : _) (row : Row_of-Op n) → Each P (row_values q row) → Each P (row_results b row)
  row_gives b q e n end_of-Op h = tt
  row_gives b q e n (more_of-Op packs results kind rest) h =
      let g = each_split P (kind_values q kind ++ result_values (q + kind_labels kind) packs results) (row_values (q + kind_labels kind + length results) rest) h in
      let k = each_split P (kind_values q kind) (result_values (q + kind_labels kind) packs results) g.0 in
      each_append P (result_values (b + kind_labels kind) packs results) (row_results (b + kind_labels kind + length results) rest)
      (results_moved (b + kind_labels kind) (q + kind_labels kind) packs results (omega arith) k.1) (row_gives (b + kind_labels kind + length results) (q + kind_labels kind + length results) (omega arith) _ rest g.1)

  -- a region with its terminator
  arm_seen : (scope : List Value) (nest : Nest) (at : Position) (q : ℕ) → at.next ≡ q → (n : _) (row : Row_of-Op n) → Each P scope → Each P (row_values q row) → Seen (row_places scope nest at row)
      → (p : Place) → p.scope ≡ scope ++ row_results at.next row → Seen (row_places scope nest at row ++ p ∷ [])
  arm_seen scope nest at q e n row s h r p f =
      seen_append (row_places scope nest at row) (p ∷ []) r
      (subst (λ vs. Each P vs) (sym f) (each_append P scope (row_results at.next row) s (row_gives at.next q e _ row h)), tt)

  mutual
    row_seen : (scope : List Value) (nest : Nest) (at : Position) (q : ℕ) → at.next ≡ q → (n : _) (row : Row_of-Op n) → Each P scope → Each P (row_values q row) → Seen (row_places scope nest at row)
    row_seen scope nest at q e n end_of-Op s h = tt
    row_seen scope nest at q e n (more_of-Op packs results kind rest) s h =
        let g = each_split P (kind_values q kind ++ result_values (q + kind_labels kind) packs results) (row_values (q + kind_labels kind + length results) rest) h in
        let k = each_split P (kind_values q kind) (result_values (q + kind_labels kind) packs results) g.0 in
        let rv = result_values (at.next + kind_labels kind) packs results in
        let at2 = past (kind_labels kind + length results) (1 + kind_ops kind) at in
        let more : Each P (scope ++ rv) = each_append P scope rv s (results_moved (at.next + kind_labels kind) (q + kind_labels kind) packs results (omega arith) k.1) in (
          s,
          seen_append (kind_places scope nest (past 0 1 at) results kind) (row_places (scope ++ rv) nest at2 rest) (kind_seen scope nest (past 0 1 at) q (omega arith) results kind s k.0)
              (row_seen (scope ++ rv) nest at2 (q + kind_labels kind + length results) (omega arith) _ rest more g.1),
        )

    kind_seen : (scope : List Value) (nest : Nest) (at : Position) (q : ℕ) → at.next ≡ q → (results : List IrType) (kind : Kind) → Each P scope → Each P (kind_values q kind)
        → Seen (kind_places scope nest at results kind)
    kind_seen scope nest at q e results (Const v) s h = tt
    kind_seen scope nest at q e results (Bin op flags a b) s h = tt
    kind_seen scope nest at q e results (Cast op flags a) s h = tt
    kind_seen scope nest at q e results (Cmp pred a b) s h = tt
    kind_seen scope nest at q e results (Select c a b) s h = tt
    kind_seen scope nest at q e results (Call func ls) s h = tt
    kind_seen scope nest at q e results (If' c (Region' shape row ends) None') s h =
        let g = each_split P (row_values q row) [] h in
        seen_append (arm_places scope (opened nest) at results (Region' shape row ends)) [] (arm_seen scope (opened nest) at q e _ row s g.0 (row_seen scope (opened nest) at q e _ row s g.0) _ refl) tt
    kind_seen scope nest at q e results (If' c (Region' shape row ends) (Some' (Region' shape2 row2 ends2))) s h =
        let at2 = past_region (Region' shape row ends) at in
        let q2 = q + row_labels row in
        let g = each_split P (row_values q row) (row_values q2 row2) h in
        seen_append (arm_places scope (opened nest) at results (Region' shape row ends)) (arm_places scope (opened nest) at2 results (Region' shape2 row2 ends2))
        (arm_seen scope (opened nest) at q e _ row s g.0 (row_seen scope (opened nest) at q e _ row s g.0) _ refl)
        (arm_seen scope (opened nest) at2 q2 (omega arith) _ row2 s g.1 (row_seen scope (opened nest) at2 q2 (omega arith) _ row2 s g.1) _ refl)
    kind_seen scope nest at q e results (For (ForParts' lower upper step iv args inits (Region' shape row ends))) s h =
        let at1 = past 1 0 at in
        let at2 = past 1 0 at1 in
        let at3 = past_args args at2 in
        let q3 = q + 2 + length args in
        let with_iv = scope ++ arg_values at1.next (iv ∷ []) in
        let in_body = with_iv ++ arg_values at2.next args in
        let g = each_split P (arg_values (q + 1) (iv ∷ args)) (row_values q3 row) h in
        let i : Each P (arg_values (q + 1) (iv ∷ [])) = (g.0.0, tt) in
        let s1 : Each P with_iv = each_append P scope (arg_values at1.next (iv ∷ [])) s (args_moved at1.next (q + 1) (iv ∷ []) (omega arith) i) in
        let s2 : Each P in_body = each_append P with_iv (arg_values at2.next args) s1 (args_moved at2.next (q + 1 + 1) args (omega arith) g.0.1) in
        seen_append (args_places false 0 [] scope at1 (iv ∷ []) ++ args_places false 0 [] with_iv at2 args) (arm_places in_body (looped nest) at3 results (Region' shape row ends))
        (seen_append (args_places false 0 [] scope at1 (iv ∷ [])) (args_places false 0 [] with_iv at2 args) (args_seen false 0 [] scope at1 (q + 1) (omega arith) (iv ∷ []) s i) (args_seen false 0 [] with_iv at2 (q + 1 + 1) (omega arith) args s1 g.0.1))
        (arm_seen in_body (looped nest) at3 q3 (omega arith) _ row s2 g.1 (row_seen in_body (looped nest) at3 q3 (omega arith) _ row s2 g.1) _ refl)
    kind_seen scope nest at q e results (While (WhileParts' args inits (Region' shape row passed) cond after_args (Region' shape2 row2 ends))) s h =
        let at1 = past 1 0 at in
        let at2 = past_args args at1 in
        let at3 = past_region (Region' shape row passed) at2 in
        let at4 = past_args after_args at3 in
        let q2 = q + 1 + length args in
        let q3 = q + 1 + length args + row_labels row in
        let q4 = q + 1 + length args + row_labels row + length after_args in
        let in_before = scope ++ arg_values at1.next args in
        let in_after = scope ++ arg_values at3.next after_args in
        let A = args_places false 0 [] scope at1 args in
        let B = before_places in_before (looped nest) at2 results cond (Region' shape row passed) in
        let C = args_places false 0 results scope at3 after_args in
        let D = turn_places in_after (looped nest) at4 (arg_types args) (Region' shape2 row2 ends) in
        let d = each_split P (arg_values (q + 1) args ++ row_values q2 row ++ arg_values q3 after_args) (row_values q4 row2) h in
        let c = each_split P (arg_values (q + 1) args ++ row_values q2 row) (arg_values q3 after_args) d.0 in
        let b = each_split P (arg_values (q + 1) args) (row_values q2 row) c.0 in
        let s1 : Each P in_before = each_append P scope (arg_values at1.next args) s (args_moved at1.next (q + 1) args (omega arith) b.0) in
        let s2 : Each P in_after = each_append P scope (arg_values at3.next after_args) s (args_moved at3.next q3 after_args (omega arith) c.1) in
        seen_append (A ++ B ++ C) D
        (seen_append (A ++ B) C
        (seen_append A B (args_seen false 0 [] scope at1 (q + 1) (omega arith) args s b.0)
        (arm_seen in_before (looped nest) at2 q2 (omega arith) _ row s1 b.1 (row_seen in_before (looped nest) at2 q2 (omega arith) _ row s1 b.1) _ refl))
        (args_seen false 0 results scope at3 q3 (omega arith) after_args s c.1))
        (arm_seen in_after (looped nest) at4 q4 (omega arith) _ row2 s2 d.1 (row_seen in_after (looped nest) at4 q4 (omega arith) _ row2 s2 d.1) _ refl)

  ops_gives : (b q : ℕ) → b ≡ q → (ops : List Op) → Each P (ops_values q ops) → Each P (results_of b ops)
  ops_gives b q e [] h = tt
  ops_gives b q e (op ∷ ops) h =
      let g = each_split P (kind_values q op.kind ++ result_values (q + kind_labels op.kind) op.packs op.results) (ops_values (q + op_labels op) ops) h in
      let k = each_split P (kind_values q op.kind) (result_values (q + kind_labels op.kind) op.packs op.results) g.0 in
      each_append P (op_results b op) (results_of (b + op_labels op) ops)
      (results_moved (b + kind_labels op.kind) (q + kind_labels op.kind) op.packs op.results (omega arith) k.1) (ops_gives (b + op_labels op) (q + op_labels op) (omega arith) ops g.1)

  ops_seen : (scope : List Value) (nest : Nest) (at : Position) (q : ℕ) → at.next ≡ q → (ops : List Op) → Each P scope → Each P (ops_values q ops) → Seen (ops_places scope nest at ops)
  ops_seen scope nest at q e [] s h = tt
  ops_seen scope nest at q e (op ∷ ops) s h =
      let g = each_split P (kind_values q op.kind ++ result_values (q + kind_labels op.kind) op.packs op.results) (ops_values (q + op_labels op) ops) h in
      let k = each_split P (kind_values q op.kind) (result_values (q + kind_labels op.kind) op.packs op.results) g.0 in
      let rv = op_results at.next op in
      let more : Each P (scope ++ rv) = each_append P scope rv s (results_moved (at.next + kind_labels op.kind) (q + kind_labels op.kind) op.packs op.results (omega arith) k.1) in (
        s,
        seen_append (kind_places scope nest (past 0 1 at) op.results op.kind) (ops_places (scope ++ rv) nest (past_op op at) ops) (kind_seen scope nest (past 0 1 at) q (omega arith) op.results op.kind s k.0)
            (ops_seen (scope ++ rv) nest (past_op op at) (q + op_labels op) (omega arith) ops more g.1),
      )

  items_give : (func k : ℕ) (items : List Item) → Each P (items_values func k items) → Each P (items_results func k items)
  items_give func k [] h = tt
  items_give func k (item ∷ items) h =
      let g = each_split P (ops_values (label_at func k 0) item.ops) (items_values func (k + 1) items) h in
      each_append P (results_of (label_at func k 0) item.ops) (items_results func (k + 1) items) (ops_gives (label_at func k 0) (label_at func k 0) refl item.ops g.0) (items_give func (k + 1) items g.1)

  items_seen : (func k : ℕ) (scope : List Value) (at : Position) (items : List Item) → Each P scope → Each P (items_values func k items) → Seen (items_places func k scope at items)
  items_seen func k scope at [] s h = tt
  items_seen func k scope at (item ∷ items) s h =
      let b = label_at func k 0 in
      let g = each_split P (ops_values b item.ops) (items_values func (k + 1) items) h in
      let more : Each P (scope ++ results_of b item.ops) = each_append P scope (results_of b item.ops) s (ops_gives b b refl item.ops g.0) in
      seen_append (ops_places scope (in_item k item) (at_item func k at) item.ops) (items_places func (k + 1) (scope ++ results_of b item.ops) (past_ops item.ops (at_item func k at)) items)
      (ops_seen scope (in_item k item) (at_item func k at) b refl item.ops s g.0) (items_seen func (k + 1) (scope ++ results_of b item.ops) (past_ops item.ops (at_item func k at)) items more g.1)

  body_seen : (f : Func) (body : Option Body) → Each P (arg_values (label_at f.index 0 0) f.args) → Each P (body_values f.index body) → Seen (body_places f body)
  body_seen f None s h = tt
  body_seen f (Some body) s h =
      let scope = arg_values (label_at f.index 0 0) f.args in
      seen_append (items_places f.index 1 scope (past_args f.args (func_begin f)) body.items) (_ ∷ []) (items_seen f.index 1 scope (past_args f.args (func_begin f)) body.items s h)
      (each_append P scope (items_results f.index 1 body.items) s (items_give f.index 1 body.items h), tt)

  func_seen : (f : Func) → Each P (func_values f) → Seen (places f)
  func_seen f h =
      let g = each_split P (arg_values (label_at f.index 0 0) f.args) (body_values f.index f.body) h in
      let begin : (func_begin f).next ≡ label_at f.index 0 0 = refl in
      (tt, seen_append (args_places (is_declaration f.body) 0 [] [] (func_begin f) f.args) (body_places f f.body) (args_seen (is_declaration f.body) 0 [] [] (func_begin f) (label_at f.index 0 0) begin f.args tt g.0) (body_seen f f.body g.0 g.1))

pub func_sees : (f : Func) → All (SeesOnly (func_values f)) (places f)
func_sees f =
    let P : Value → Type 0 = Contains (func_values f) in
    all_of (SeesOnly (func_values f)) (places f)
    (each_more (λ (p : Place). Each P p.scope) (SeesOnly (func_values f)) (λ p h. all_of P p.scope h) (places f) (func_seen P f (each_self (func_values f))))
