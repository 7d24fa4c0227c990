-- A region's operations have no break of a limit exactly where they keep the limits.
use Rattle.std.proofs.Common.{◌≡◌, ℕ, ◌+◌, ◌<◌, ◌≤◌, ◌&&◌, nat_le, nat_lt, Bool, true, false, List, [], ◌∷◌, ◌++◌, length, drop, refl, arith}
use Rattle.std.specs.List.{list_all}
use Rattle.mlir_ir.specs.declared.rules.Nest.{Nest}
use Rattle.mlir_ir.specs.declared.rules.Position.{Position}
use Rattle.mlir_ir.specs.declared.rules.Rules.{Rules}
use Rattle.mlir_ir.specs.declared.shape.Shape.{Shape}
use Rattle.mlir_ir.specs.declared.shape.ShapeFault.{ShapeFault}
use Rattle.mlir_ir.specs.declared.shape.ShapeFault.TheVariants.{Use, WrongType, Count, Size}
use Rattle.mlir_ir.specs.declared.types.Arg.{Arg}
use Rattle.mlir_ir.specs.declared.types.IrType.{IrType}
use Rattle.mlir_ir.specs.declared.types.Pack.{Pack}
use Rattle.mlir_ir.specs.declared.types.Region.{Region', Row_of-Op, end_of-Op, more_of-Op}
use Rattle.mlir_ir.specs.declared.types.Kind.{Kind, Const, Bin, Cast, Cmp, Select, Call, If', For, While, None', Some'}
use Rattle.mlir_ir.specs.declared.types.ForParts.{ForParts'}
use Rattle.mlir_ir.specs.declared.types.WhileParts.{WhileParts'}
use Rattle.mlir_ir.specs.Labels.{kind_labels}
use Rattle.mlir_ir.specs.Values.{Value, arg_values, result_values}
use Rattle.mlir_ir.specs.Limits.{arg_limit, result_limit, op_limit, region_limit, loop_limit}
use Rattle.mlir_ir.specs.Rules.{is_short, is_kind_sized, arg_types, op_rules, arg_rules, yield_rules, turn_rules, condition_rules}
use Rattle.mlir_ir.specs.Check.{unless, breaks_at, past, past_args, past_region, past_row, opened, looped, row_ops, kind_ops, row_results, args_breaks, row_breaks, kind_breaks, arm_breaks, else_breaks, for_breaks, while_breaks, before_breaks, turn_breaks}
use Rattle.mlir_ir.specs.Operations as plain
use Rattle.mlir_ir.specs.Sized.{region_depth, inner_depth, loop_depth, inner_loops, passed_count, SizedArgs, SizedOp, SizedOps, SizedRegions}
use Rattle.mlir_ir.specs.View.{view_row, view_kind}
use Rattle.mlir_ir.specs.WellFormed.{NoSize}
use Rattle.std.proofs.lemmas.Bool.{and_from, and_parts, le-leb, leb-true, lt-ltb, ltb-true}

-- no break of a limit

pub no_append : (xs ys : List Shape) → NoSize (xs ++ ys) → NoSize xs × NoSize ys
no_append [] ys h = (tt, h)
no_append (x ∷ xs) ys h = let g = no_append xs ys h.1 in ((h.0, g.0), g.1)

pub append_no : (xs ys : List Shape) → NoSize xs → NoSize ys → NoSize (xs ++ ys)
append_no [] ys h g = g
append_no (x ∷ xs) ys h g = (h.0, append_no xs ys h.1 g)

unless_no : (b : Bool) (at : ℕ) (f : ShapeFault) → (f ≡ Size → ⊥) → NoSize (unless b at f)
unless_no true at f n = tt
unless_no false at f n = (n, tt)

no_unless : (b : Bool) (at : ℕ) → NoSize (unless b at Size) → b ≡ true
no_unless true at h = refl
no_unless false at h = absurd (h.0 refl)

unless_kept : (b : Bool) (at : ℕ) → b ≡ true → NoSize (unless b at Size)
unless_kept true at e = tt
unless_kept false at e = cc

pub no_at : (at : ℕ) (r : Rules) → NoSize (breaks_at at r) → r.sized ≡ true
no_at at r h = no_unless r.sized at (no_append (unless r.in_scope at Use ++ unless r.typed at WrongType ++ unless r.counted at Count) (unless r.sized at Size) h).1

pub at_no : (at : ℕ) (r : Rules) → r.sized ≡ true → NoSize (breaks_at at r)
at_no at r e =
    append_no (unless r.in_scope at Use ++ unless r.typed at WrongType ++ unless r.counted at Count) (unless r.sized at Size)
    (append_no (unless r.in_scope at Use ++ unless r.typed at WrongType) (unless r.counted at Count)
    (append_no (unless r.in_scope at Use) (unless r.typed at WrongType) (unless_no r.in_scope at Use (λ e. cc)) (unless_no r.typed at WrongType (λ e. cc))) (unless_no r.counted at Count (λ e. cc)))
    (unless_kept r.sized at e)

-- tests

-- what is left of the limits around operations, and around what stands inside one
pub record Within (regions loops ops : ℕ) (list : plain.OpList) : Type 0 where
  pub few_ops : ops + plain.count_of list ≤ op_limit
  pub few_regions : regions + region_depth list ≤ region_limit
  pub few_loops : loops + loop_depth list ≤ loop_limit
  pub inside : SizedOps list

pub record WithinKind (regions loops ops : ℕ) (kind : plain.OpKind) : Type 0 where
  pub few_ops : ops + plain.inner_count kind ≤ op_limit
  pub few_regions : regions + inner_depth kind ≤ region_limit
  pub few_loops : loops + inner_loops kind ≤ loop_limit
  pub inside : SizedRegions kind

-- numbers of operations

mutual
  pub count_same : (n : _) (row : Row_of-Op n) → row_ops row ≡ plain.count_of (view_row row)
  count_same n end_of-Op = refl
  count_same n (more_of-Op packs results kind rest) = rw (inner_count_same kind, count_same _ rest) refl

  pub inner_count_same : (kind : Kind) → kind_ops kind ≡ plain.inner_count (view_kind kind)
  inner_count_same (Const v) = refl
  inner_count_same (Bin op flags a b) = refl
  inner_count_same (Cast op flags a) = refl
  inner_count_same (Cmp pred a b) = refl
  inner_count_same (Select c a b) = refl
  inner_count_same (Call func ls) = refl
  inner_count_same (If' c (Region' shape row ends) None') = rw (count_same _ row) refl
  inner_count_same (If' c (Region' shape row ends) (Some' (Region' shape2 row2 ends2))) = rw (count_same _ row, count_same _ row2) refl
  inner_count_same (For (ForParts' lower upper step iv args inits (Region' shape row ends))) = rw (count_same _ row) refl
  inner_count_same (While (WhileParts' args inits (Region' shape row ends) cond after_args (Region' shape2 row2 ends2))) = rw (count_same _ row, count_same _ row2) refl

-- an operation by itself

few_passed : (regions loops : ℕ) (kind : Kind) → is_kind_sized regions loops kind ≡ true → passed_count (view_kind kind) ≤ arg_limit
few_passed regions loops (Const v) e = omega arith
few_passed regions loops (Bin op flags a b) e = omega arith
few_passed regions loops (Cast op flags a) e = omega arith
few_passed regions loops (Cmp pred a b) e = omega arith
few_passed regions loops (Select c a b) e = omega arith
few_passed regions loops (Call func ls) e = leb-true (length ls) arg_limit e
few_passed regions loops (If' c (Region' shape row ends) None') e = omega arith
few_passed regions loops (If' c (Region' shape row ends) (Some' (Region' shape2 row2 ends2))) e = omega arith
few_passed regions loops (For (ForParts' lower upper step iv args inits (Region' shape row ends))) e = omega arith
few_passed regions loops (While (WhileParts' args inits (Region' shape row ends) cond after_args (Region' shape2 row2 ends2))) e = omega arith

pub record OpSized (nest : Nest) (at : Position) (packs : List Pack) (results : List IrType) (kind : Kind) : Type 0 where
  pub own : SizedOp packs results (view_kind kind)
  pub few : at.ops < op_limit
  pub fits : nest.item_fits ≡ true
  pub opens : is_kind_sized nest.regions nest.loops kind ≡ true

pub op_sized : (scope : List Value) (nest : Nest) (at : Position) (last : ℕ) (packs : List Pack) (results : List IrType) (kind : Kind) → NoSize (breaks_at last (op_rules scope nest at packs results kind))
    → OpSized nest at packs results kind
op_sized scope nest at last packs results kind h =
    let short = list_all (λ (pack : Pack). is_short pack.name) packs in
    let few = nat_le (length results) result_limit in
    let room = nat_lt at.ops op_limit in
    let e = and_parts (short && few && room && nest.item_fits) (is_kind_sized nest.regions nest.loops kind) (no_at last (op_rules scope nest at packs results kind) h) in
    let d = and_parts (short && few && room) nest.item_fits e.0 in
    let c = and_parts (short && few) room d.0 in
    let b = and_parts short few c.0 in
    record {
      own = record { short = b.0; few = leb-true (length results) result_limit b.1; few_passed = few_passed nest.regions nest.loops kind e.1 };
      few = ltb-true at.ops op_limit c.1;
      fits = d.1;
      opens = e.1;
    }

pub sized_op : (scope : List Value) (nest : Nest) (at : Position) (last : ℕ) (packs : List Pack) (results : List IrType) (kind : Kind) → OpSized nest at packs results kind
    → NoSize (breaks_at last (op_rules scope nest at packs results kind))
sized_op scope nest at last packs results kind h =
    let short = list_all (λ (pack : Pack). is_short pack.name) packs in
    let few = nat_le (length results) result_limit in
    let room = nat_lt at.ops op_limit in
    at_no last (op_rules scope nest at packs results kind)
    (and_from (short && few && room && nest.item_fits) (is_kind_sized nest.regions nest.loops kind)
    (and_from (short && few && room) nest.item_fits (and_from (short && few) room (and_from short few h.own.short (le-leb (length results) result_limit h.own.few)) (lt-ltb at.ops op_limit h.few)) h.fits) h.opens)

-- arguments

few_args : (declared : Bool) (n : ℕ) (wanted : List IrType) (scope : List Value) (at : Position) (args : List Arg) → n ≤ arg_limit → NoSize (args_breaks declared n wanted scope at args)
    → (list_all (λ (arg : Arg). is_short arg.name) args ≡ true) × (n + length args ≤ arg_limit)
few_args declared n wanted scope at [] l h = (refl, omega arith)
few_args declared n wanted scope at (arg ∷ args) l h =
    let p = no_append (breaks_at at.last (arg_rules declared n wanted scope arg)) (args_breaks declared (n + 1) (drop 1 wanted) (scope ++ arg_values at.next (arg ∷ [])) (past 1 0 at) args) h in
    let s = and_parts (is_short arg.name) (nat_lt n arg_limit) (no_at at.last (arg_rules declared n wanted scope arg) p.0) in
    let m : n < arg_limit = ltb-true n arg_limit s.1 in
    let g = few_args declared (n + 1) (drop 1 wanted) (scope ++ arg_values at.next (arg ∷ [])) (past 1 0 at) args (omega arith) p.1 in
    (and_from (is_short arg.name) (list_all (λ (arg : Arg). is_short arg.name) args) s.0 g.0, omega (arith, g.1))

args_few : (declared : Bool) (n : ℕ) (wanted : List IrType) (scope : List Value) (at : Position) (args : List Arg) → list_all (λ (arg : Arg). is_short arg.name) args ≡ true → n + length args ≤ arg_limit
    → NoSize (args_breaks declared n wanted scope at args)
args_few declared n wanted scope at [] e l = tt
args_few declared n wanted scope at (arg ∷ args) e l =
    let s = and_parts (is_short arg.name) (list_all (λ (arg : Arg). is_short arg.name) args) e in
    append_no (breaks_at at.last (arg_rules declared n wanted scope arg)) (args_breaks declared (n + 1) (drop 1 wanted) (scope ++ arg_values at.next (arg ∷ [])) (past 1 0 at) args)
    (at_no at.last (arg_rules declared n wanted scope arg) (and_from (is_short arg.name) (nat_lt n arg_limit) s.0 (lt-ltb n arg_limit (omega arith))))
    (args_few declared (n + 1) (drop 1 wanted) (scope ++ arg_values at.next (arg ∷ [])) (past 1 0 at) args s.1 (omega arith))

pub args_sized : (declared : Bool) (wanted : List IrType) (scope : List Value) (at : Position) (args : List Arg) → NoSize (args_breaks declared 0 wanted scope at args) → SizedArgs args
args_sized declared wanted scope at args h = let g = few_args declared 0 wanted scope at args (omega arith) h in record { short = g.0; few = omega (arith, g.1) }

pub sized_args : (declared : Bool) (wanted : List IrType) (scope : List Value) (at : Position) (args : List Arg) → SizedArgs args → NoSize (args_breaks declared 0 wanted scope at args)
sized_args declared wanted scope at args h = args_few declared 0 wanted scope at args h.short (omega (arith, h.few))

-- operations

pub opens_loop : (regions loops : ℕ) → (nat_lt regions region_limit && nat_lt loops loop_limit) ≡ true → (regions < region_limit) × (loops < loop_limit)
opens_loop regions loops e = let p = and_parts (nat_lt regions region_limit) (nat_lt loops loop_limit) e in (ltb-true regions region_limit p.0, ltb-true loops loop_limit p.1)

mutual
  unfolding row_breaks kind_breaks arm_breaks else_breaks for_breaks while_breaks before_breaks turn_breaks

  pub row_within : (scope : List Value) (nest : Nest) (at : Position) → nest.regions ≤ region_limit → nest.loops ≤ loop_limit → at.ops ≤ op_limit → (n : _) (row : Row_of-Op n)
      → NoSize (row_breaks scope nest at row) → Within nest.regions nest.loops at.ops (view_row row)
  row_within scope nest at r l o n end_of-Op h = record { few_ops = omega arith; few_regions = omega arith; few_loops = omega arith; inside = tt }
  row_within scope nest at r l o n (more_of-Op packs results kind rest) h =
      let rv = result_values (at.next + kind_labels kind) packs results in
      let here = breaks_at at.last (op_rules scope nest at packs results kind) in
      let inside = kind_breaks scope nest (past 0 1 at) results kind in
      let at2 = past (kind_labels kind + length results) (1 + kind_ops kind) at in
      let c = no_append (here ++ inside) (row_breaks (scope ++ rv) nest at2 rest) h in
      let b = no_append here inside c.0 in
      let s = op_sized scope nest at at.last packs results kind b.0 in
      let less = s.few in
      let k = kind_within scope nest (past 0 1 at) r l (omega arith) results kind s.opens b.1 in
      let count = k.few_ops in
      let same = inner_count_same kind in
      let g = row_within (scope ++ rv) nest at2 r l (omega arith) _ rest c.1 in
      record {
        few_ops = omega (arith, g.few_ops);
        few_regions = omega (arith, k.few_regions, g.few_regions);
        few_loops = omega (arith, k.few_loops, g.few_loops);
        inside = (s.own, k.inside, g.inside);
      }

  pub kind_within : (scope : List Value) (nest : Nest) (at : Position) → nest.regions ≤ region_limit → nest.loops ≤ loop_limit → at.ops ≤ op_limit → (results : List IrType) (kind : Kind)
      → is_kind_sized nest.regions nest.loops kind ≡ true → NoSize (kind_breaks scope nest at results kind) → WithinKind nest.regions nest.loops at.ops (view_kind kind)
  kind_within scope nest at r l o results (Const v) e h = record { few_ops = omega arith; few_regions = omega arith; few_loops = omega arith; inside = tt }
  kind_within scope nest at r l o results (Bin op flags a b) e h = record { few_ops = omega arith; few_regions = omega arith; few_loops = omega arith; inside = tt }
  kind_within scope nest at r l o results (Cast op flags a) e h = record { few_ops = omega arith; few_regions = omega arith; few_loops = omega arith; inside = tt }
  kind_within scope nest at r l o results (Cmp pred a b) e h = record { few_ops = omega arith; few_regions = omega arith; few_loops = omega arith; inside = tt }
  kind_within scope nest at r l o results (Select c a b) e h = record { few_ops = omega arith; few_regions = omega arith; few_loops = omega arith; inside = tt }
  kind_within scope nest at r l o results (Call func ls) e h = record { few_ops = omega arith; few_regions = omega arith; few_loops = omega arith; inside = tt }
  kind_within scope nest at r l o results (If' c (Region' shape row ends) None') e h =
      let opens : nest.regions < region_limit = ltb-true nest.regions region_limit e in
      let a = no_append (arm_breaks scope (opened nest) at results (Region' shape row ends)) [] h in
      let g = row_within scope (opened nest) at (omega arith) l o _ row (no_append (row_breaks scope (opened nest) at row) _ a.0).0 in
      record {
        few_ops = omega (arith, g.few_ops);
        few_regions = omega (arith, g.few_regions);
        few_loops = omega (arith, g.few_loops);
        inside = (g.inside, tt);
      }
  kind_within scope nest at r l o results (If' c (Region' shape row ends) (Some' (Region' shape2 row2 ends2))) e h =
      let opens : nest.regions < region_limit = ltb-true nest.regions region_limit e in
      let at2 = past_region (Region' shape row ends) at in
      let a = no_append (arm_breaks scope (opened nest) at results (Region' shape row ends)) (arm_breaks scope (opened nest) at2 results (Region' shape2 row2 ends2)) h in
      let g = row_within scope (opened nest) at (omega arith) l o _ row (no_append (row_breaks scope (opened nest) at row) _ a.0).0 in
      let count = g.few_ops in
      let same = count_same _ row in
      let k = row_within scope (opened nest) at2 (omega arith) l (omega arith) _ row2 (no_append (row_breaks scope (opened nest) at2 row2) _ a.1).0 in
      record {
        few_ops = omega (arith, k.few_ops);
        few_regions = omega (arith, g.few_regions, k.few_regions);
        few_loops = omega (arith, g.few_loops, k.few_loops);
        inside = (g.inside, k.inside);
      }
  kind_within scope nest at r l o results (For (ForParts' lower upper step iv args inits (Region' shape row ends))) e h =
      let opens = opens_loop nest.regions nest.loops e in
      let more_regions = opens.0 in
      let more_loops = opens.1 in
      let at1 = past 1 0 at in
      let at2 = past 1 0 at1 in
      let with_iv = scope ++ arg_values at1.next (iv ∷ []) in
      let in_body = with_iv ++ arg_values at2.next args in
      let body = arm_breaks in_body (looped nest) (past_args args at2) results (Region' shape row ends) in
      let b = no_append (args_breaks false 0 [] scope at1 (iv ∷ []) ++ args_breaks false 0 [] with_iv at2 args) body h in
      let a = no_append (args_breaks false 0 [] scope at1 (iv ∷ [])) (args_breaks false 0 [] with_iv at2 args) b.0 in
      let g = row_within in_body (looped nest) (past_args args at2) (omega arith) (omega arith) (omega arith) _ row (no_append (row_breaks in_body (looped nest) (past_args args at2) row) _ b.1).0 in
      record {
        few_ops = omega (arith, g.few_ops);
        few_regions = omega (arith, g.few_regions);
        few_loops = omega (arith, g.few_loops);
        inside = (args_sized false [] scope at1 (iv ∷ []) a.0, args_sized false [] with_iv at2 args a.1, g.inside);
      }
  kind_within scope nest at r l o results (While (WhileParts' args inits (Region' shape row passed) cond after_args (Region' shape2 row2 ends))) e h =
      let opens = opens_loop nest.regions nest.loops e in
      let more_regions = opens.0 in
      let more_loops = opens.1 in
      let at1 = past 1 0 at in
      let at2 = past_args args at1 in
      let at3 = past_region (Region' shape row passed) at2 in
      let at4 = past_args after_args at3 in
      let in_before = scope ++ arg_values at1.next args in
      let in_after = scope ++ arg_values at3.next after_args in
      let A = args_breaks false 0 [] scope at1 args in
      let B = before_breaks in_before (looped nest) at2 results cond (Region' shape row passed) in
      let C = args_breaks false 0 results scope at3 after_args in
      let D = turn_breaks in_after (looped nest) at4 (arg_types args) (Region' shape2 row2 ends) in
      let d = no_append (A ++ B ++ C) D h in
      let c = no_append (A ++ B) C d.0 in
      let b = no_append A B c.0 in
      let g = row_within in_before (looped nest) at2 (omega arith) (omega arith) (omega arith) _ row (no_append (row_breaks in_before (looped nest) at2 row) _ b.1).0 in
      let count = g.few_ops in
      let same = count_same _ row in
      let k = row_within in_after (looped nest) at4 (omega arith) (omega arith) (omega arith) _ row2 (no_append (row_breaks in_after (looped nest) at4 row2) _ d.1).0 in
      record {
        few_ops = omega (arith, k.few_ops);
        few_regions = omega (arith, g.few_regions, k.few_regions);
        few_loops = omega (arith, g.few_loops, k.few_loops);
        inside = (args_sized false [] scope at1 args b.0, g.inside, args_sized false results scope at3 after_args c.1, k.inside);
      }

-- and back

opened_if : (regions depth : ℕ) → regions + (1 + depth) ≤ region_limit → nat_lt regions region_limit ≡ true
opened_if regions depth h = lt-ltb regions region_limit (omega arith)

opened_loop : (regions loops depth inner : ℕ) → regions + (1 + depth) ≤ region_limit → loops + (1 + inner) ≤ loop_limit → (nat_lt regions region_limit && nat_lt loops loop_limit) ≡ true
opened_loop regions loops depth inner h g = and_from (nat_lt regions region_limit) (nat_lt loops loop_limit) (lt-ltb regions region_limit (omega arith)) (lt-ltb loops loop_limit (omega arith))

within_opens : (regions loops ops : ℕ) (kind : Kind) → WithinKind regions loops ops (view_kind kind) → passed_count (view_kind kind) ≤ arg_limit → is_kind_sized regions loops kind ≡ true
within_opens regions loops ops (Const v) h l = refl
within_opens regions loops ops (Bin op flags a b) h l = refl
within_opens regions loops ops (Cast op flags a) h l = refl
within_opens regions loops ops (Cmp pred a b) h l = refl
within_opens regions loops ops (Select c a b) h l = refl
within_opens regions loops ops (Call func ls) h l = le-leb (length ls) arg_limit l
within_opens regions loops ops (If' c (Region' shape row ends) None') h l = opened_if regions _ h.few_regions
within_opens regions loops ops (If' c (Region' shape row ends) (Some' (Region' shape2 row2 ends2))) h l = opened_if regions _ h.few_regions
within_opens regions loops ops (For (ForParts' lower upper step iv args inits (Region' shape row ends))) h l = opened_loop regions loops _ _ h.few_regions h.few_loops
within_opens regions loops ops (While (WhileParts' args inits (Region' shape row ends) cond after_args (Region' shape2 row2 ends2))) h l = opened_loop regions loops _ _ h.few_regions h.few_loops

-- what an operation and the ones behind it have of the limits
pub within_first : (regions loops ops : ℕ) (packs : List Pack) (results : List IrType) (kind : plain.OpKind) (rest : plain.OpList) → Within regions loops ops (plain.next packs results kind rest)
    → WithinKind regions loops (ops + 1) kind × Within regions loops (ops + (1 + plain.inner_count kind)) rest
within_first regions loops ops packs results kind rest h = (
  record { few_ops = omega (arith, h.few_ops); few_regions = omega (arith, h.few_regions); few_loops = omega (arith, h.few_loops); inside = h.inside.1 },
  record { few_ops = omega (arith, h.few_ops); few_regions = omega (arith, h.few_regions); few_loops = omega (arith, h.few_loops); inside = h.inside.2 },
)

pub within_op : (nest : Nest) (at : Position) (packs : List Pack) (results : List IrType) (kind : Kind) (rest : plain.OpList) → nest.item_fits ≡ true
    → Within nest.regions nest.loops at.ops (plain.next packs results (view_kind kind) rest) → OpSized nest at packs results kind
within_op nest at packs results kind rest e h =
    record {
      own = h.inside.0;
      few = omega (arith, h.few_ops);
      fits = e;
      opens = within_opens nest.regions nest.loops (at.ops + 1) kind (within_first nest.regions nest.loops at.ops packs results (view_kind kind) rest h).0 h.inside.0.few_passed;
    }

mutual
  unfolding row_breaks kind_breaks arm_breaks else_breaks for_breaks while_breaks before_breaks turn_breaks

  pub within_row : (scope : List Value) (nest : Nest) (at : Position) → nest.item_fits ≡ true → (n : _) (row : Row_of-Op n) → Within nest.regions nest.loops at.ops (view_row row)
      → NoSize (row_breaks scope nest at row)
  within_row scope nest at f n end_of-Op h = tt
  within_row scope nest at f n (more_of-Op packs results kind rest) h =
      let rv = result_values (at.next + kind_labels kind) packs results in
      let here = breaks_at at.last (op_rules scope nest at packs results kind) in
      let inside = kind_breaks scope nest (past 0 1 at) results kind in
      let at2 = past (kind_labels kind + length results) (1 + kind_ops kind) at in
      let p = within_first nest.regions nest.loops at.ops packs results (view_kind kind) (view_row rest) h in
      let same : kind_ops kind ≡ plain.inner_count (view_kind kind) = inner_count_same kind in
      let q : Within nest.regions nest.loops (at.ops + (1 + kind_ops kind)) (view_row rest) = rw same p.1 in
      append_no (here ++ inside) (row_breaks (scope ++ rv) nest at2 rest)
      (append_no here inside (sized_op scope nest at at.last packs results kind (within_op nest at packs results kind (view_row rest) f h)) (within_kind scope nest (past 0 1 at) f results kind p.0))
      (within_row (scope ++ rv) nest at2 f _ rest q)

  pub within_kind : (scope : List Value) (nest : Nest) (at : Position) → nest.item_fits ≡ true → (results : List IrType) (kind : Kind) → WithinKind nest.regions nest.loops at.ops (view_kind kind)
      → NoSize (kind_breaks scope nest at results kind)
  within_kind scope nest at f results (Const v) h = tt
  within_kind scope nest at f results (Bin op flags a b) h = tt
  within_kind scope nest at f results (Cast op flags a) h = tt
  within_kind scope nest at f results (Cmp pred a b) h = tt
  within_kind scope nest at f results (Select c a b) h = tt
  within_kind scope nest at f results (Call func ls) h = tt
  within_kind scope nest at f results (If' c (Region' shape row ends) None') h =
      let g : Within (nest.regions + 1) nest.loops at.ops (view_row row) =
      record { few_ops = omega (arith, h.few_ops); few_regions = omega (arith, h.few_regions); few_loops = omega (arith, h.few_loops); inside = h.inside.0 } in
      append_no (arm_breaks scope (opened nest) at results (Region' shape row ends)) []
      (append_no (row_breaks scope (opened nest) at row) (breaks_at (past_row row at).last (yield_rules (scope ++ row_results at.next row) results ends)) (within_row scope (opened nest) at f _ row g) (at_no _ _ refl)) tt
  within_kind scope nest at f results (If' c (Region' shape row ends) (Some' (Region' shape2 row2 ends2))) h =
      let at2 = past_region (Region' shape row ends) at in
      let same = count_same _ row in
      let g : Within (nest.regions + 1) nest.loops at.ops (view_row row) =
      record { few_ops = omega (arith, h.few_ops); few_regions = omega (arith, h.few_regions); few_loops = omega (arith, h.few_loops); inside = h.inside.0 } in
      let k : Within (nest.regions + 1) nest.loops at2.ops (view_row row2) =
      record { few_ops = omega (arith, h.few_ops); few_regions = omega (arith, h.few_regions); few_loops = omega (arith, h.few_loops); inside = h.inside.1 } in
      append_no (arm_breaks scope (opened nest) at results (Region' shape row ends)) (arm_breaks scope (opened nest) at2 results (Region' shape2 row2 ends2))
      (append_no (row_breaks scope (opened nest) at row) (breaks_at (past_row row at).last (yield_rules (scope ++ row_results at.next row) results ends)) (within_row scope (opened nest) at f _ row g) (at_no _ _ refl))
      (append_no (row_breaks scope (opened nest) at2 row2) (breaks_at (past_row row2 at2).last (yield_rules (scope ++ row_results at2.next row2) results ends2)) (within_row scope (opened nest) at2 f _ row2 k) (at_no _ _ refl))
  within_kind scope nest at f results (For (ForParts' lower upper step iv args inits (Region' shape row ends))) h =
      let at1 = past 1 0 at in
      let at2 = past 1 0 at1 in
      let at3 = past_args args at2 in
      let with_iv = scope ++ arg_values at1.next (iv ∷ []) in
      let in_body = with_iv ++ arg_values at2.next args in
      let body = arm_breaks in_body (looped nest) at3 results (Region' shape row ends) in
      let g : Within (nest.regions + 1) (nest.loops + 1) at3.ops (view_row row) =
      record { few_ops = omega (arith, h.few_ops); few_regions = omega (arith, h.few_regions); few_loops = omega (arith, h.few_loops); inside = h.inside.2 } in
      append_no (args_breaks false 0 [] scope at1 (iv ∷ []) ++ args_breaks false 0 [] with_iv at2 args) body
      (append_no (args_breaks false 0 [] scope at1 (iv ∷ [])) (args_breaks false 0 [] with_iv at2 args) (sized_args false [] scope at1 (iv ∷ []) h.inside.0) (sized_args false [] with_iv at2 args h.inside.1))
      (append_no (row_breaks in_body (looped nest) at3 row) (breaks_at (past_row row at3).last (yield_rules (in_body ++ row_results at3.next row) results ends)) (within_row in_body (looped nest) at3 f _ row g) (at_no _ _ refl))
  within_kind scope nest at f results (While (WhileParts' args inits (Region' shape row passed) cond after_args (Region' shape2 row2 ends))) h =
      let at1 = past 1 0 at in
      let at2 = past_args args at1 in
      let at3 = past_region (Region' shape row passed) at2 in
      let at4 = past_args after_args at3 in
      let same = count_same _ row in
      let in_before = scope ++ arg_values at1.next args in
      let in_after = scope ++ arg_values at3.next after_args in
      let A = args_breaks false 0 [] scope at1 args in
      let B = before_breaks in_before (looped nest) at2 results cond (Region' shape row passed) in
      let C = args_breaks false 0 results scope at3 after_args in
      let D = turn_breaks in_after (looped nest) at4 (arg_types args) (Region' shape2 row2 ends) in
      let g : Within (nest.regions + 1) (nest.loops + 1) at2.ops (view_row row) =
      record { few_ops = omega (arith, h.few_ops); few_regions = omega (arith, h.few_regions); few_loops = omega (arith, h.few_loops); inside = h.inside.1 } in
      let k : Within (nest.regions + 1) (nest.loops + 1) at4.ops (view_row row2) =
      record { few_ops = omega (arith, h.few_ops); few_regions = omega (arith, h.few_regions); few_loops = omega (arith, h.few_loops); inside = h.inside.3 } in
      append_no (A ++ B ++ C) D
      (append_no (A ++ B) C
      (append_no A B (sized_args false [] scope at1 args h.inside.0)
      (append_no (row_breaks in_before (looped nest) at2 row) (breaks_at (past_row row at2).last (condition_rules (in_before ++ row_results at2.next row) results cond passed)) (within_row in_before (looped nest) at2 f _ row g) (at_no _ _ refl)))
      (sized_args false results scope at3 after_args h.inside.2))
      (append_no (row_breaks in_after (looped nest) at4 row2) (breaks_at (past_row row2 at4).last (turn_rules (in_after ++ row_results at4.next row2) (arg_types args) ends)) (within_row in_after (looped nest) at4 f _ row2 k) (at_no _ _ refl))
