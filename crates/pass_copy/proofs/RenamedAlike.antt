-- Renamed operations are alike, where what they use is in scope.
use Rattle.std.proofs.Common.{◌≡◌, ℕ, zero, suc, ◌+◌, ◌<◌, ◌≤◌, ◌==◌, ◌&&◌, ◌||◌, nat_lt, Bool, true, List, [], ◌∷◌, length, ◌⊎◌, inl, inr, refl, ap, ◌∙◌, sym, arith, Option, Some, None}
use Rattle.std.specs.List.{list_all}
use Rattle.std.specs.Option.{is_some, option_or}
use Rattle.std.proofs.lemmas.Bool.{and_parts, cases_eq, eqb-true}
use Rattle.arith_word.specs.declared.label.Label.{Label}
use Rattle.mlir_ir.specs.declared.types.Arg.{Arg}
use Rattle.mlir_ir.specs.declared.types.IrType.{IrType}
use Rattle.mlir_ir.specs.declared.types.Pack.{Pack}
use Rattle.mlir_ir.specs.Operations.{SimpleOp, Const, Bin, Cast, Cmp, Select, Call, OpKind, Simple, If, For, While, OpList, nil, next, labels_of, inner_labels}
use Rattle.mlir_ir.specs.Rules.{arg_types}
use Rattle.mlir_ir.specs.Typed.{Types, typed_from, with_types, knows, simple_uses, TypedOp, TypedOps, TypedRegions, types_after}
use Rattle.pass_copy.specs.Reported.{Claim}
use Rattle.pass_copy.specs.Renamed.{Naming, relabel, relabels, rename_arg, rename_args, rename_simple, rename_ops, rename_kind, names_of, inner_names}
pub use Rattle.pass_copy.proofs.CarriedTypes.{Moves, moves_part, typed_there}
use Rattle.pass_copy.proofs.CarriedTypes.{with_keeps, after_keeps, scope_inside}
pub use Rattle.pass_copy.proofs.RenamedOps.{relabels_length, rename_args_length, arg_types_length, rename_labels, rename_inner_labels}
use Rattle.pass_copy.proofs.RegionCounts.{yields_all, or_both}
use Rattle.pass_copy.proofs.Bindings.{Scope, pair, pairs, In, All2, Below, below_more, below_pairs}
use Rattle.pass_copy.proofs.AlikeOps.{AlikeSimple, both_const, both_bin, both_cast, both_cmp, both_select, both_call, AlikeOp, both_simple, both_if, both_for, both_while, AlikeOps, both_nil, both_next, scope_behind}

-- scopes

-- each label that is known has the one that f gives it
abbrev pub Covers : (ℕ → ℕ) → Types → Scope → Type 0
Covers f T ctx = (y : ℕ) → is_some (T y) ≡ true → In y (f y) ctx

pub in_behind : (x x' n : ℕ) (y y' : ℕ) (ctx : Scope) → In y y' ctx → In y y' (pairs x x' n ctx)
in_behind x x' zero y y' ctx i = i
in_behind x x' (suc n) y y' ctx i = in_behind (x + 1) (x' + 1) n y y' (pair x x' ∷ ctx) (inr i)

pub in_pairs : (x x' n : ℕ) (y y' : ℕ) (ctx : Scope) → x ≤ y → y < x + n → y' + x ≡ y + x' → In y y' (pairs x x' n ctx)
in_pairs x x' zero y y' ctx le lt e = absurd (omega arith)
in_pairs x x' (suc n) y y' ctx le lt e = elim (cases_eq x y) [
  | inl q ↦ in_behind (x + 1) (x' + 1) n y y' (pair x x' ∷ ctx) (inl (q, omega arith))
  | inr ne ↦ in_pairs (x + 1) (x' + 1) n y y' (pair x x' ∷ ctx) (omega (arith, ne)) (omega arith) (omega arith)
]

pub all_covered : (f : ℕ → ℕ) (T : Types) (ctx : Scope) (ls : List Label) → Covers f T ctx → list_all (knows T) ls ≡ true → All2 ctx ls (relabels f ls)
all_covered f T ctx [] c h = tt
all_covered f T ctx (l ∷ ls) c h = let p = and_parts (knows T l) (list_all (knows T) ls) h in (c l.0 p.0, all_covered f T ctx ls c p.1)

known_either : (a b : Option IrType) → is_some (option_or a b) ≡ true → (is_some a ≡ true) ⊎ (is_some b ≡ true)
known_either None b h = inr h
known_either (Some ty) b h = inl refl

pub covers_more : (f : ℕ → ℕ) (T : Types) (ctx : Scope) (x x' n a : ℕ) (tys : List IrType) → a ≡ x → length tys ≡ n → Moves f x x' n
    → Covers f T ctx → Covers f (with_types T a tys) (pairs x x' n ctx)
covers_more f T ctx x x' n a tys e el m c y h = elim (known_either (T y) (typed_from a tys y) h) [
  | inl k ↦ in_behind x x' n y (f y) ctx (c y k)
  | inr k ↦ let q = typed_there a tys y k in in_pairs x x' n y (f y) ctx (omega (arith, q.0)) (omega (arith, q.1)) (m y (omega (arith, q.0)) (omega (arith, q.1)))
]

-- what is known stays known
pub known_after : (T : Types) (at : ℕ) (ops : OpList) (y : ℕ) → is_some (T y) ≡ true → is_some (types_after T at ops y) ≡ true
known_after T at ops y h = ap is_some (after_keeps T at ops y h) ∙ h

pub below_inside : (ctx : Scope) (at at' x x' n a a' : ℕ) → at ≤ x → at' ≤ x' → x + n ≤ a → x' + n ≤ a' → Below at at' ctx → Below a a' (pairs x x' n ctx)
below_inside ctx at at' x x' n a a' l l' r r' b =
    below_more (x + n) (x' + n) a a' (pairs x x' n ctx) r r' (below_pairs ctx x x' n (below_more at at' x x' ctx l l' b))

-- operations alike to those of the parent, and the scope behind them, in which each label known there has the one that f gives it
pub record AlikeFrom (H : Claim) (f : ℕ → ℕ) (k : ℕ) (T : Types) (ctx : Scope) (at at' : ℕ) (ops ops' : OpList) : Type 0 where
  pub behind : Scope
  pub alike : AlikeOps H k ctx at at' ops ops' behind
  pub covers : Covers f (types_after T at ops) behind
  pub below : Below (at + labels_of ops) (at' + labels_of ops') behind

module _ (H : Claim) (f : ℕ → ℕ) (name : Naming) where
  pub renamed_simple : (does : SimpleOp) (T : Types) (ctx : Scope) → Covers f T ctx → list_all (knows T) (simple_uses does) ≡ true → AlikeSimple ctx does (rename_simple f does)
  renamed_simple (Const v) T ctx c h = both_const
  renamed_simple (Bin op flags a b) T ctx c h = let u = all_covered f T ctx (a ∷ b ∷ []) c h in both_bin u.0 u.1.0
  renamed_simple (Cast op flags a) T ctx c h = let u = all_covered f T ctx (a ∷ []) c h in both_cast u.0
  renamed_simple (Cmp pred a b) T ctx c h = let u = all_covered f T ctx (a ∷ b ∷ []) c h in both_cmp u.0 u.1.0
  renamed_simple (Select t a b) T ctx c h = let u = all_covered f T ctx (t ∷ a ∷ b ∷ []) c h in both_select u.0 u.1.0 u.1.1.0
  renamed_simple (Call func passed) T ctx c h = both_call (all_covered f T ctx passed c h)

  -- the scope behind an operation whose results move
  pub covers_behind : (T : Types) (ctx : Scope) (at at' : ℕ) (results : List IrType) (kind kind' : OpKind) → Moves f (at + inner_labels kind) (at' + inner_labels kind') (length results)
      → Covers f T ctx → Covers f (with_types T (at + inner_labels kind) results) (scope_behind ctx at at' results kind kind')
  covers_behind T ctx at at' results kind kind' m c =
      covers_more f T ctx (at + inner_labels kind) (at' + inner_labels kind') (length results) (at + inner_labels kind) results refl refl m c

  pub below_behind : (ctx : Scope) (at at' : ℕ) (results : List IrType) (kind kind' : OpKind) → Below at at' ctx
      → Below (at + (inner_labels kind + length results)) (at' + (inner_labels kind' + length results)) (scope_behind ctx at at' results kind kind')
  below_behind ctx at at' results kind kind' b =
      below_inside ctx at at' (at + inner_labels kind) (at' + inner_labels kind') (length results) _ _ (omega arith) (omega arith) (omega arith) (omega arith) b

  -- an `scf.if` whose regions are alike
  pub alike_if : (k : ℕ) (packs : List Pack) (results : List IrType) (T : Types) (ctx : Scope) (at at' : ℕ)
      (cond : Label) (first first' : OpList) (firsts : List Label) (has_else : Bool) (other other' : OpList) (others : List Label)
      → TypedOp T packs results (If cond first firsts has_else other others) → TypedRegions T at results (If cond first firsts has_else other others)
      → Covers f T ctx → Below at at' ctx
      → AlikeFrom H f k T ctx at at' first first' → AlikeFrom H f k T ctx (at + labels_of first) (at' + labels_of first') other other'
      → AlikeOp H k ctx at at' results (If cond first firsts has_else other others) (If (relabel f cond) first' (relabels f firsts) has_else other' (relabels f others))
  alike_if k packs results T ctx at at' cond first first' firsts has_else other other' others o t c b a a2 =
      let u = all_covered f T ctx (cond ∷ []) c o.in_scope in
      let n = or_both (length results == 0) (nat_lt 0 (length firsts)) (nat_lt 0 (length others)) o.counted in
      both_if a.behind a2.behind b u.0
      (yields_all (length firsts) (length results) t.1.counted n.0) (yields_all (length others) (length results) t.3.counted n.1)
      a.alike (all_covered f (types_after T at first) a.behind firsts a.covers t.1.in_scope)
      a2.alike (all_covered f (types_after T (at + labels_of first) other) a2.behind others a2.covers t.3.in_scope)

  -- the scope of the body of an `scf.for`
  abbrev pub for_types : Types → ℕ → Arg → List Arg → Types
  for_types T at iv args = scope_inside T at iv args

  pub covers_for : (T : Types) (ctx : Scope) (at at' : ℕ) (iv : Arg) (args : List Arg) → Moves f (at + 1) (at' + 1) (suc (length args)) → Covers f T ctx
      → Covers f (for_types T at iv args) (pairs (at + 1) (at' + 1) (suc (length args)) ctx)
  covers_for T ctx at at' iv args m c =
      let n = length args in
      covers_more f (with_types T (at + 1) (iv.ty ∷ [])) (pair (at + 1) (at' + 1) ∷ ctx) (at + 1 + 1) (at' + 1 + 1) n (at + 2) (arg_types args) (omega arith) (arg_types_length args)
      (moves_part f (at + 1) (at' + 1) (suc n) (at + 1 + 1) (at' + 1 + 1) n (omega arith) (omega arith) (omega arith) m)
      (covers_more f T ctx (at + 1) (at' + 1) 1 (at + 1) (iv.ty ∷ []) refl refl (moves_part f (at + 1) (at' + 1) (suc n) (at + 1) (at' + 1) 1 (omega arith) (omega arith) (omega arith) m) c)

  -- an `scf.for` whose body is alike
  pub alike_for : (packs : List Pack) (results : List IrType) (T : Types) (ctx : Scope) (at at' : ℕ)
      (lower upper step : Label) (iv iv' : Arg) (args args' : List Arg) (inits : List Label) (body body' : OpList) (ends : List Label)
      → TypedOp T packs results (For lower upper step iv args inits body ends) → TypedRegions T at results (For lower upper step iv args inits body ends)
      → Covers f T ctx → Below at at' ctx
      → AlikeFrom H f 31 (for_types T at iv args) (pairs (at + 1) (at' + 1) (suc (length args)) ctx) (at + 2 + length args) (at' + 2 + length args') body body'
      → AlikeOp H 0 ctx at at' results (For lower upper step iv args inits body ends)
      (For (relabel f lower) (relabel f upper) (relabel f step) iv' args' (relabels f inits) body' (relabels f ends))
  alike_for packs results T ctx at at' lower upper step iv iv' args args' inits body body' ends o t c b a =
      let u = all_covered f T ctx (lower ∷ upper ∷ step ∷ inits) c o.in_scope in
      let n = and_parts (length inits == length args && length args == length results) (length results == 0 || nat_lt 0 (length ends)) o.counted in
      let n2 = and_parts (length inits == length args) (length args == length results) n.0 in
      let same = eqb-true (length args) (length results) n2.1 in
      let given = yields_all (length ends) (length results) t.1.counted n.1 in
      both_for a.behind b u.0 u.1.0 u.1.1.0 u.1.1.1 (eqb-true (length inits) (length args) n2.0) (given ∙ sym same) (sym same)
      a.alike (all_covered f (types_after (for_types T at iv args) (at + 2 + length args) body) a.behind ends a.covers t.1.in_scope)

  -- the scope of the before region of an `scf.while`, and that of its after region
  pub covers_before : (T : Types) (ctx : Scope) (at at' : ℕ) (args : List Arg) → Moves f (at + 1) (at' + 1) (length args) → Covers f T ctx
      → Covers f (with_types T (at + 1) (arg_types args)) (pairs (at + 1) (at' + 1) (length args) ctx)
  covers_before T ctx at at' args m c = covers_more f T ctx (at + 1) (at' + 1) (length args) (at + 1) (arg_types args) refl (arg_types_length args) m c

  pub covers_after : (k x at at' params params' : ℕ) (T : Types) (tys : List IrType) (ctx : Scope) (before before' : OpList) (after_args : List Arg)
      → Moves f params params' (length after_args) → (a : AlikeFrom H f k (with_types T x tys) ctx at at' before before')
      → Covers f (with_types T params (arg_types after_args)) (pairs params params' (length after_args) a.behind)
  covers_after k x at at' params params' T tys ctx before before' after_args m a =
      covers_more f T a.behind params params' (length after_args) params (arg_types after_args) refl (arg_types_length after_args) m
      (λ y h. a.covers y (known_after (with_types T x tys) at before y (ap is_some (with_keeps T x tys y h) ∙ h)))

  -- an `scf.while` whose regions are alike
  pub alike_while : (k k2 : ℕ) (packs : List Pack) (results : List IrType) (T : Types) (ctx : Scope) (at at' : ℕ)
      (args args' : List Arg) (inits : List Label) (before before' : OpList) (passed : List Label) (cond : Label) (after_args after_args' : List Arg) (after after' : OpList) (ends : List Label)
      → k + k2 ≤ 31 → TypedOp T packs results (While args inits before passed cond after_args after ends) → TypedRegions T at results (While args inits before passed cond after_args after ends)
      → Covers f T ctx → Below at at' ctx
      → (a : AlikeFrom H f k (with_types T (at + 1) (arg_types args)) (pairs (at + 1) (at' + 1) (length args) ctx) (at + 1 + length args) (at' + 1 + length args') before before')
      → AlikeFrom H f k2 (with_types T (at + 1 + length args + labels_of before) (arg_types after_args))
      (pairs (at + 1 + length args + labels_of before) (at' + 1 + length args' + labels_of before') (length after_args) a.behind)
      (at + 1 + length args + labels_of before + length after_args) (at' + 1 + length args' + labels_of before' + length after_args') after after'
      → AlikeOp H k ctx at at' results (While args inits before passed cond after_args after ends)
      (While args' (relabels f inits) before' (relabels f passed) (relabel f cond) after_args' after' (relabels f ends))
  alike_while k k2 packs results T ctx at at' args args' inits before before' passed cond after_args after_args' after after' ends le o t c b a a2 =
      let in_before = at + 1 + length args in
      let params = in_before + labels_of before in
      let u = all_covered f (types_after (with_types T (at + 1) (arg_types args)) in_before before) a.behind (cond ∷ passed) a.covers t.1.in_scope in
      let n = and_parts (length inits == length args) (length after_args == length results) o.counted in
      let same = eqb-true (length after_args) (length results) n.1 in
      let given = eqb-true (length ends) (length (arg_types args)) t.4.counted in
      both_while k2 a.behind a2.behind le b (all_covered f T ctx inits c o.in_scope) (eqb-true (length inits) (length args) n.0) (given ∙ arg_types_length args)
      (eqb-true (length passed) (length results) t.1.counted ∙ sym same) (sym same)
      a.alike u.0 u.1 a.below
      a2.alike (all_covered f (types_after (with_types T params (arg_types after_args)) (params + length after_args) after) a2.behind ends a2.covers t.4.in_scope)

  mutual
    -- an operation whose labels move
    pub renamed_kind : (kind : OpKind) (j : ℕ) (packs : List Pack) (results : List IrType) (T : Types) (ctx : Scope) (at at' : ℕ)
        → TypedOp T packs results kind → TypedRegions T at results kind → Covers f T ctx → Below at at' ctx → Moves f at at' (inner_labels kind + length results)
        → AlikeOp H 0 ctx at at' results kind (rename_kind f name j kind)
    renamed_kind (Simple does) j packs results T ctx at at' o t c b m = both_simple b o.counted (renamed_simple does T ctx c o.in_scope)
    renamed_kind (If cond first firsts has_else other others) j packs results T ctx at at' o t c b m =
        let n = labels_of first + labels_of other + length results in
        let first' = rename_ops f name j first in
        let same = rename_labels f name j first in
        let in_other = at + labels_of first in
        let in_other' = at' + labels_of first' in
        alike_if 0 packs results T ctx at at' cond first first' firsts has_else other (rename_ops f name (j + names_of first) other) others o t c b
        (renamed_ops first j 0 T ctx at at' t.0 c b (moves_part f at at' n at at' (labels_of first) (omega arith) (omega arith) (omega arith) m))
        (renamed_ops other (j + names_of first) 0 T ctx in_other in_other' t.2 c (below_more at at' in_other in_other' ctx (omega arith) (omega arith) b)
        (moves_part f at at' n in_other in_other' (labels_of other) (omega arith) (omega arith) (omega arith) m))
    renamed_kind (For lower upper step iv args inits body ends) j packs results T ctx at at' o t c b m =
        let n = 2 + length args + labels_of body + length results in
        let args' = rename_args name (j + 1) args in
        let same = rename_args_length name (j + 1) args in
        let len = length args in
        let in_body = at + 2 + len in
        let in_body' = at' + 2 + length args' in
        let inner = pairs (at + 1) (at' + 1) (suc len) ctx in
        alike_for packs results T ctx at at' lower upper step iv (rename_arg name j iv) args args' inits body (rename_ops f name (j + 1 + len) body) ends o t c b
        (renamed_ops body (j + 1 + len) 31 (for_types T at iv args) inner in_body in_body' t.0
        (covers_for T ctx at at' iv args (moves_part f at at' n (at + 1) (at' + 1) (suc len) (omega arith) (omega arith) (omega arith) m) c)
        (below_inside ctx at at' (at + 1) (at' + 1) (suc len) in_body in_body' (omega arith) (omega arith) (omega arith) (omega arith) b)
        (moves_part f at at' n in_body in_body' (labels_of body) (omega arith) (omega arith) (omega arith) m))
    renamed_kind (While args inits before passed cond after_args after ends) j packs results T ctx at at' o t c b m =
        let n = 1 + length args + labels_of before + length after_args + labels_of after + length results in
        let args' = rename_args name j args in
        let before' = rename_ops f name (j + length args) before in
        let j2 = j + length args + names_of before in
        let after_args' = rename_args name j2 after_args in
        let after' = rename_ops f name (j2 + length after_args) after in
        let same = rename_args_length name j args in
        let same2 = rename_labels f name (j + length args) before in
        let same3 = rename_args_length name j2 after_args in
        let in_before = at + 1 + length args in
        let in_before' = at' + 1 + length args' in
        let params = in_before + labels_of before in
        let params' = in_before' + labels_of before' in
        let in_after = params + length after_args in
        let in_after' = params' + length after_args' in
        let inner = pairs (at + 1) (at' + 1) (length args) ctx in
        let U = with_types T (at + 1) (arg_types args) in
        let V = with_types T params (arg_types after_args) in
        let a = renamed_ops before (j + length args) 0 U inner in_before in_before' t.0
        (covers_before T ctx at at' args (moves_part f at at' n (at + 1) (at' + 1) (length args) (omega arith) (omega arith) (omega arith) m) c)
        (below_inside ctx at at' (at + 1) (at' + 1) (length args) in_before in_before' (omega arith) (omega arith) (omega arith) (omega arith) b)
        (moves_part f at at' n in_before in_before' (labels_of before) (omega arith) (omega arith) (omega arith) m) in
        alike_while 0 31 packs results T ctx at at' args args' inits before before' passed cond after_args after_args' after after' ends (omega arith) o t c b a
        (renamed_ops after (j2 + length after_args) 31 V (pairs params params' (length after_args) a.behind) in_after in_after' t.3
        (covers_after 0 (at + 1) in_before in_before' params params' T (arg_types args) inner before before' after_args
        (moves_part f at at' n params params' (length after_args) (omega arith) (omega arith) (omega arith) m) a)
        (below_inside a.behind params params' params params' (length after_args) in_after in_after' (omega arith) (omega arith) (omega arith) (omega arith) a.below)
        (moves_part f at at' n in_after in_after' (labels_of after) (omega arith) (omega arith) (omega arith) m))

    pub renamed_ops : (ops : OpList) (j k : ℕ) (T : Types) (ctx : Scope) (at at' : ℕ) → TypedOps T at ops → Covers f T ctx → Below at at' ctx → Moves f at at' (labels_of ops)
        → AlikeFrom H f k T ctx at at' ops (rename_ops f name j ops)
    renamed_ops nil j k T ctx at at' t c b m =
        record { behind = ctx; alike = both_nil; covers = c; below = below_more at at' (at + 0) (at' + 0) ctx (omega arith) (omega arith) b }
    renamed_ops (next packs results kind rest) j k T ctx at at' t c b m =
        let w = inner_labels kind + length results in
        let kind' = rename_kind f name j kind in
        let w' = inner_labels kind' + length results in
        let same = rename_inner_labels f name j kind in
        let here = renamed_kind kind j packs results T ctx at at' t.0 t.1 c b (moves_part f at at' (w + labels_of rest) at at' w (omega arith) (omega arith) (omega arith) m) in
        let r = renamed_ops rest (j + (inner_names kind + length packs)) k (with_types T (at + inner_labels kind) results) (scope_behind ctx at at' results kind kind') (at + w) (at' + w') t.2
        (covers_behind T ctx at at' results kind kind' (moves_part f at at' (w + labels_of rest) (at + inner_labels kind) (at' + inner_labels kind') (length results) (omega arith) (omega arith) (omega arith) m) c)
        (below_behind ctx at at' results kind kind' b)
        (moves_part f at at' (w + labels_of rest) (at + w) (at' + w') (labels_of rest) (omega arith) (omega arith) (omega arith) m) in
        record {
          behind = r.behind;
          alike = both_next 0 k (omega arith) here r.alike;
          covers = r.covers;
          below = below_more (at + w + labels_of rest) _ _ _ r.behind (omega arith) (omega arith) r.below;
        }
