-- Well-typed operations stay so under other labels and names.
use Rattle.std.proofs.Common.{◌≡◌, ℕ, ◌+◌, ◌-◌, ◌&&◌, ◌||◌, not, nat_lt, nat_le, Bool, true, List, [], ◌∷◌, length, refl, ap, ◌∙◌, arith}
use Rattle.std.proofs.lemmas.Bool.{and_parts}
use Rattle.std.specs.List.{list_all}
use Rattle.std.specs.Option.{is_some, option_map_or}
use Rattle.arith_word.specs.declared.label.Label.{Label}
use Rattle.arith_word.specs.declared.op.CastOp.{CastOp}
use Rattle.mlir_ir.specs.declared.types.IrType.{IrType}
use Rattle.mlir_ir.specs.declared.types.Pack.{Pack}
use Rattle.mlir_ir.specs.Rules.{same_type, same_types, arg_types, truth, casts, packs_hold, may_wrap, may_lose, has_flags}
use Rattle.mlir_ir.specs.Operations.{SimpleOp, Const, Bin, Cast, Cmp, Select, Call, OpKind, Simple, If, For, While, OpList, nil, next, labels_of, inner_labels}
use Rattle.mlir_ir.specs.Typed.{Types, knows, fits, alike, all_fit, cast_fits, simple_uses, uses, simple_fits, kind_fits, kind_counts, yields, passes, with_types, types_after, TypedOp, TypedEnd, TypedOps, TypedRegions}
use Rattle.pass_copy.specs.Renamed.{relabel, relabels, Naming, rename_packs, rename_simple, rename_ops, rename_kind, names_of, inner_names}
use Rattle.pass_copy.proofs.CarriedTypes.{Carries, Below, Moves, below_more, below_with, moves_part, carries_with, scope_inside, inside_below, inside_carried}
use Rattle.pass_copy.proofs.RenamedOps.{relabels_length, rename_args_length, types_args, arg_types_length, rename_labels, rename_inner_labels}

pub packs_kept : (name : Naming) (k : ℕ) (packs : List Pack) (n : ℕ) → packs_hold (rename_packs name k packs) n ≡ packs_hold packs n
packs_kept name k [] n = refl
packs_kept name k (pack ∷ packs) n = ap (λ b. nat_lt 0 pack.count && nat_le pack.count n && b) (packs_kept name (k + 1) packs (n - pack.count))

module _ (f : ℕ → ℕ) (name : Naming) where
  pub counts_kept : (k n : ℕ) (kind : OpKind) → kind_counts n (rename_kind f name k kind) ≡ kind_counts n kind
  counts_kept k n (Simple (Const v)) = refl
  counts_kept k n (Simple (Bin op flags a b)) = refl
  counts_kept k n (Simple (Cast op flags a)) = refl
  counts_kept k n (Simple (Cmp pred a b)) = refl
  counts_kept k n (Simple (Select c a b)) = refl
  counts_kept k n (Simple (Call func passed)) = refl
  counts_kept k n (If c first firsts has_else other others) = rw (relabels_length f firsts, relabels_length f others) refl
  counts_kept k n (For lower upper step iv args inits body ends) = rw (relabels_length f inits, rename_args_length name (k + 1) args, relabels_length f ends) refl
  counts_kept k n (While args inits before passed cond after_args after ends) =
      rw (relabels_length f inits, rename_args_length name k args, rename_args_length name (k + length args + names_of before) after_args) refl

-- uses and types
module _ (f : ℕ → ℕ) (T T' : Types) (c : Carries f T T') where
  pub known_kept : (ls : List Label) → list_all (knows T) ls ≡ true → list_all (knows T') (relabels f ls) ≡ true
  known_kept [] e = refl
  known_kept (l ∷ ls) e = let p = and_parts (is_some (T l.0)) (list_all (knows T) ls) e in rw (c l.0 p.0, p.0, known_kept ls p.1) refl

  pub fit_kept : (tys : List IrType) (ls : List Label) → list_all (knows T) ls ≡ true → all_fit T' tys (relabels f ls) ≡ all_fit T tys ls
  fit_kept [] ls e = refl
  fit_kept (ty ∷ tys) [] e = refl
  fit_kept (ty ∷ tys) (l ∷ ls) e = let p = and_parts (is_some (T l.0)) (list_all (knows T) ls) e in rw (c l.0 p.0, fit_kept tys ls p.1) refl

  pub each_kept : (ty : IrType) (ls : List Label) → list_all (knows T) ls ≡ true → list_all (fits T' ty) (relabels f ls) ≡ list_all (fits T ty) ls
  each_kept ty [] e = refl
  each_kept ty (l ∷ ls) e = let p = and_parts (is_some (T l.0)) (list_all (knows T) ls) e in rw (c l.0 p.0, each_kept ty ls p.1) refl

  alike_kept : (a b : Label) → T' (f a.0) ≡ T a.0 → T' (f b.0) ≡ T b.0 → alike T' (relabel f a) (relabel f b) ≡ alike T a b
  alike_kept a b ea eb = λ j. option_map_or (λ ty. option_map_or (same_type ty) (eb j) true) (ea j) true

  cast_kept : (op : CastOp) (a : Label) (tys : List IrType) → T' (f a.0) ≡ T a.0 → cast_fits T' op (relabel f a) tys ≡ cast_fits T op a tys
  cast_kept op a [] e = refl
  cast_kept op a (ty ∷ tys) e = ap (λ o. option_map_or (λ from. casts op from ty) o true) e

  simple_known : (d : SimpleOp) → list_all (knows T) (simple_uses d) ≡ true → list_all (knows T') (simple_uses (rename_simple f d)) ≡ true
  simple_known (Const v) e = refl
  simple_known (Bin op flags a b) e = known_kept (a ∷ b ∷ []) e
  simple_known (Cast op flags a) e = known_kept (a ∷ []) e
  simple_known (Cmp pred a b) e = known_kept (a ∷ b ∷ []) e
  simple_known (Select x a b) e = known_kept (x ∷ a ∷ b ∷ []) e
  simple_known (Call func passed) e = known_kept passed e

  simple_kept : (tys : List IrType) (d : SimpleOp) → list_all (knows T) (simple_uses d) ≡ true → simple_fits T' tys (rename_simple f d) ≡ simple_fits T tys d
  simple_kept tys (Const v) e = refl
  simple_kept tys (Bin op flags a b) e =
      let p = and_parts (is_some (T a.0)) (list_all (knows T) (b ∷ [])) e in
      let q = and_parts (is_some (T b.0)) true p.1 in
      let g : list_all (knows T) (a ∷ []) ≡ true = rw p.0 refl in
      λ j. (may_wrap op || not (has_flags flags)) && alike_kept a b (c a.0 p.0) (c b.0 q.0) j && fit_kept tys (a ∷ []) g j
  simple_kept tys (Cast op flags a) e =
      let p = and_parts (is_some (T a.0)) true e in
      λ j. (may_lose op || not (has_flags flags)) && cast_kept op a tys (c a.0 p.0) j
  simple_kept tys (Cmp pred a b) e =
      let p = and_parts (is_some (T a.0)) (list_all (knows T) (b ∷ [])) e in
      let q = and_parts (is_some (T b.0)) true p.1 in
      λ j. alike_kept a b (c a.0 p.0) (c b.0 q.0) j && same_types (truth ∷ []) tys
  simple_kept tys (Select x a b) e =
      let o = and_parts (is_some (T x.0)) (list_all (knows T) (a ∷ b ∷ [])) e in
      let p = and_parts (is_some (T a.0)) (list_all (knows T) (b ∷ [])) o.1 in
      let q = and_parts (is_some (T b.0)) true p.1 in
      let g : list_all (knows T) (a ∷ []) ≡ true = rw p.0 refl in
      λ j. option_map_or (same_type truth) (c x.0 o.0 j) true && alike_kept a b (c a.0 p.0) (c b.0 q.0) j && fit_kept tys (a ∷ []) g j
  simple_kept tys (Call func passed) e = refl

  module _ (name : Naming) where
    uses_kept : (k : ℕ) (kind : OpKind) → list_all (knows T) (uses kind) ≡ true → list_all (knows T') (uses (rename_kind f name k kind)) ≡ true
    uses_kept k (Simple does) e = simple_known does e
    uses_kept k (If x first firsts has_else other others) e = known_kept (x ∷ []) e
    uses_kept k (For lower upper step iv args inits body ends) e = known_kept (lower ∷ upper ∷ step ∷ inits) e
    uses_kept k (While args inits before passed cond after_args after ends) e = known_kept inits e

    kind_kept : (k : ℕ) (tys : List IrType) (kind : OpKind) → list_all (knows T) (uses kind) ≡ true → kind_fits T' tys (rename_kind f name k kind) ≡ kind_fits T tys kind
    kind_kept k tys (Simple does) e = simple_kept tys does e
    kind_kept k tys (If x first firsts has_else other others) e =
        let o = and_parts (is_some (T x.0)) true e in
        ap (λ o. option_map_or (same_type truth) o true) (c x.0 o.0)
    kind_kept k tys (For lower upper step iv args inits body ends) e =
        let o = and_parts (is_some (T lower.0)) (list_all (knows T) (upper ∷ step ∷ inits)) e in
        let p = and_parts (is_some (T upper.0)) (list_all (knows T) (step ∷ inits)) o.1 in
        let q = and_parts (is_some (T step.0)) (list_all (knows T) inits) p.1 in
        let g : list_all (knows T) (lower ∷ upper ∷ step ∷ []) ≡ true = rw (o.0, p.0, q.0) refl in
        rw (types_args name (k + 1) args) (λ j. each_kept iv.ty (lower ∷ upper ∷ step ∷ []) g j && fit_kept (arg_types args) inits q.1 j && same_types (arg_types args) tys)
    kind_kept k tys (While args inits before passed cond after_args after ends) e = rw (types_args name k args) (fit_kept (arg_types args) inits e)

    pub op_kept : (k k2 : ℕ) (packs : List Pack) (tys : List IrType) (kind : OpKind) → TypedOp T packs tys kind → TypedOp T' (rename_packs name k2 packs) tys (rename_kind f name k kind)
    op_kept k k2 packs tys kind h = record {
      in_scope = uses_kept k kind h.in_scope;
      typed = kind_kept k tys kind h.in_scope ∙ h.typed;
      packed = packs_kept name k2 packs (length tys) ∙ h.packed;
      counted = counts_kept f name k (length tys) kind ∙ h.counted;
    }

  pub end_kept : (wanted : List IrType) (ends : List Label) (counts counts' : Bool) → counts' ≡ counts → TypedEnd T wanted ends counts → TypedEnd T' wanted (relabels f ends) counts'
  end_kept wanted ends counts counts' e h = record {
    in_scope = known_kept ends h.in_scope;
    typed = fit_kept wanted ends h.in_scope ∙ h.typed;
    counted = e ∙ h.counted;
  }

pub yields_kept : (f : ℕ → ℕ) (wanted : List IrType) (ends : List Label) → yields wanted (relabels f ends) ≡ yields wanted ends
yields_kept f wanted ends = rw (relabels_length f ends) refl

pub passes_kept : (f : ℕ → ℕ) (wanted : List IrType) (ends : List Label) → passes wanted (relabels f ends) ≡ passes wanted ends
passes_kept f wanted ends = rw (relabels_length f ends) refl

module _ (f : ℕ → ℕ) (name : Naming) where
  pub carries_after : (T T' : Types) (at at' k : ℕ) (ops : OpList) → Carries f T T' → Below at' T' → Moves f at at' (labels_of ops)
      → Carries f (types_after T at ops) (types_after T' at' (rename_ops f name k ops))
  carries_after T T' at at' k nil c b m = c
  carries_after T T' at at' k (next packs results kind rest) c b m =
      let e : inner_labels (rename_kind f name k kind) ≡ inner_labels kind = rename_inner_labels f name k kind in
      let i = inner_labels kind in
      let i' = inner_labels (rename_kind f name k kind) in
      let n = i + length results + labels_of rest in
      carries_after (with_types T (at + i) results) (with_types T' (at' + i') results) (at + (i + length results)) (at' + (i' + length results)) (k + (inner_names kind + length packs)) rest
      (carries_with f T T' (at + i) (at' + i') results c (below_more at' (at' + i') T' (omega arith) b) (moves_part f at at' n (at + i) (at' + i') (length results) (omega arith) (omega arith) (omega arith) m))
      (below_with at' (at' + i') (at' + (i' + length results)) results T' b (omega arith) (omega arith))
      (moves_part f at at' n (at + (i + length results)) (at' + (i' + length results)) (labels_of rest) (omega arith) (omega arith) (omega arith) m)

  mutual
    pub ops_kept : (T T' : Types) (at at' k : ℕ) (ops : OpList) → Carries f T T' → Below at' T' → Moves f at at' (labels_of ops) → TypedOps T at ops → TypedOps T' at' (rename_ops f name k ops)
    ops_kept T T' at at' k nil c b m h = tt
    ops_kept T T' at at' k (next packs results kind rest) c b m h =
        let e : inner_labels (rename_kind f name k kind) ≡ inner_labels kind = rename_inner_labels f name k kind in
        let i = inner_labels kind in
        let i' = inner_labels (rename_kind f name k kind) in
        let n = i + length results + labels_of rest in (
          op_kept f T T' c name k (k + inner_names kind) packs results kind h.0,
          regions_kept T T' at at' k results kind c b (moves_part f at at' n at at' i (omega arith) (omega arith) (omega arith) m) h.1,
          ops_kept (with_types T (at + i) results) (with_types T' (at' + i') results) (at + (i + length results)) (at' + (i' + length results)) (k + (inner_names kind + length packs)) rest
              (carries_with f T T' (at + i) (at' + i') results c (below_more at' (at' + i') T' (omega arith) b) (moves_part f at at' n (at + i) (at' + i') (length results) (omega arith) (omega arith) (omega arith) m))
              (below_with at' (at' + i') (at' + (i' + length results)) results T' b (omega arith) (omega arith))
              (moves_part f at at' n (at + (i + length results)) (at' + (i' + length results)) (labels_of rest) (omega arith) (omega arith) (omega arith) m) h.2,
        )

    pub regions_kept : (T T' : Types) (at at' k : ℕ) (results : List IrType) (kind : OpKind) → Carries f T T' → Below at' T' → Moves f at at' (inner_labels kind)
        → TypedRegions T at results kind → TypedRegions T' at' results (rename_kind f name k kind)
    regions_kept T T' at at' k results (Simple does) c b m h = tt
    regions_kept T T' at at' k results (If x first firsts has_else other others) c b m h =
        let n = labels_of first + labels_of other in
        let e : labels_of (rename_ops f name k first) ≡ labels_of first = rename_labels f name k first in
        let at2 = at + labels_of first in
        let at2' = at' + labels_of (rename_ops f name k first) in
        let m1 = moves_part f at at' n at at' (labels_of first) (omega arith) (omega arith) (omega arith) m in
        let m2 = moves_part f at at' n at2 at2' (labels_of other) (omega arith) (omega arith) (omega arith) m in
        let b2 = below_more at' at2' T' (omega arith) b in
        let k2 = k + names_of first in (
          ops_kept T T' at at' k first c b m1 h.0,
          end_kept f (types_after T at first) (types_after T' at' (rename_ops f name k first)) (carries_after T T' at at' k first c b m1) results firsts (yields results firsts)
              (yields results (relabels f firsts)) (yields_kept f results firsts) h.1,
          ops_kept T T' at2 at2' k2 other c b2 m2 h.2,
          end_kept f (types_after T at2 other) (types_after T' at2' (rename_ops f name k2 other)) (carries_after T T' at2 at2' k2 other c b2 m2) results others (yields results others)
              (yields results (relabels f others)) (yields_kept f results others) h.3,
        )
    regions_kept T T' at at' k results (For lower upper step iv args inits body ends) c b m h =
        let a = length args in
        let n = 2 + a + labels_of body in
        let U = scope_inside T at iv args in
        let U' = scope_inside T' at' iv args in
        let c2 = inside_carried f T T' at at' iv args c b (moves_part f at at' n at at' (2 + a) (omega arith) (omega arith) (omega arith) m) in
        let b2 = inside_below T' at' iv args b in
        let m2 = moves_part f at at' n (at + 2 + a) (at' + 2 + a) (labels_of body) (omega arith) (omega arith) (omega arith) m in
        let k2 = k + 1 + a in
        rw (types_args name (k + 1) args, rename_args_length name (k + 1) args) (
          ops_kept U U' (at + 2 + a) (at' + 2 + a) k2 body c2 b2 m2 h.0,
          end_kept f (types_after U (at + 2 + a) body) (types_after U' (at' + 2 + a) (rename_ops f name k2 body)) (carries_after U U' (at + 2 + a) (at' + 2 + a) k2 body c2 b2 m2) results ends
              (yields results ends) (yields results (relabels f ends)) (yields_kept f results ends) h.1,
        )
    regions_kept T T' at at' k results (While args inits before passed cond after_args after ends) c b m h =
        let a = length args in
        let a2 = length after_args in
        let la : length (arg_types args) ≡ length args = arg_types_length args in
        let la2 : length (arg_types after_args) ≡ length after_args = arg_types_length after_args in
        let n = 1 + a + labels_of before + a2 + labels_of after in
        let k1 = k + a in
        let k2 = k + a + names_of before + a2 in
        let e : labels_of (rename_ops f name k1 before) ≡ labels_of before = rename_labels f name k1 before in
        let U = with_types T (at + 1) (arg_types args) in
        let U' = with_types T' (at' + 1) (arg_types args) in
        let p = at + 1 + a in
        let p' = at' + 1 + a in
        let q = p + labels_of before in
        let q' = p' + labels_of (rename_ops f name k1 before) in
        let V = with_types T q (arg_types after_args) in
        let V' = with_types T' q' (arg_types after_args) in
        let c1 = carries_with f T T' (at + 1) (at' + 1) (arg_types args) c (below_more at' (at' + 1) T' (omega arith) b)
        (moves_part f at at' n (at + 1) (at' + 1) (length (arg_types args)) (omega arith) (omega arith) (omega arith) m) in
        let b1 = below_with at' (at' + 1) p' (arg_types args) T' b (omega arith) (omega arith) in
        let m1 = moves_part f at at' n p p' (labels_of before) (omega arith) (omega arith) (omega arith) m in
        let c2 = carries_with f T T' q q' (arg_types after_args) c (below_more at' q' T' (omega arith) b)
        (moves_part f at at' n q q' (length (arg_types after_args)) (omega arith) (omega arith) (omega arith) m) in
        let b2 = below_with at' q' (q' + a2) (arg_types after_args) T' b (omega arith) (omega arith) in
        let m2 = moves_part f at at' n (q + a2) (q' + a2) (labels_of after) (omega arith) (omega arith) (omega arith) m in
        rw (types_args name k args, rename_args_length name k args, types_args name (k + a + names_of before) after_args, rename_args_length name (k + a + names_of before) after_args) (
          ops_kept U U' p p' k1 before c1 b1 m1 h.0,
          end_kept f (types_after U p before) (types_after U' p' (rename_ops f name k1 before)) (carries_after U U' p p' k1 before c1 b1 m1) (truth ∷ results) (cond ∷ passed)
              (passes results passed) (passes results (relabels f passed)) (passes_kept f results passed) h.1,
          h.2,
          ops_kept V V' (q + a2) (q' + a2) k2 after c2 b2 m2 h.3,
          end_kept f (types_after V (q + a2) after) (types_after V' (q' + a2) (rename_ops f name k2 after)) (carries_after V V' (q + a2) (q' + a2) k2 after c2 b2 m2) (arg_types args) ends
              (passes (arg_types args) ends) (passes (arg_types args) (relabels f ends)) (passes_kept f (arg_types args) ends) h.4,
        )
