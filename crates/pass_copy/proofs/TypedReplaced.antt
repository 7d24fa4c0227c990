-- Where other operations stand for a loop, what is typed with the loop is so with them.
use Rattle.std.proofs.Common.{◌≡◌, ℕ, ◌+◌, ◌<◌, ◌≤◌, inl, inr, true, List, ◌∷◌, length, ap, ◌∙◌, sym, subst, arith, refl}
use Rattle.mlir_ir.specs.declared.types.IrType.{IrType}
use Rattle.mlir_ir.specs.declared.types.Pack.{Pack}
use Rattle.mlir_ir.specs.Rules.{arg_types, truth}
use Rattle.mlir_ir.specs.Operations.{OpKind, Simple, If, For, While, OpList, nil, next, labels_of, inner_labels}
use Rattle.mlir_ir.specs.Typed.{Types, with_types, types_after, kind_fits, kind_counts, yields, passes, TypedOp, TypedOps, TypedRegions}
use Rattle.pass_copy.specs.Renamed.{relabel, relabels, keep, names_of}
use Rattle.pass_copy.specs.Replaced.{Operation, op_labels, is_loop, StandsIn, StandsInside, replaced, replaced_inside}
use Rattle.pass_copy.specs.Scopes.{ScopeIn, ScopeInside}
use Rattle.pass_copy.proofs.CarriedTypes.{Carries, Below, Moves, below_more, below_with, below_after, carries_with, scope_inside, inside_below, inside_carried}
use Rattle.pass_copy.proofs.TypedRenamed.{op_kept, end_kept, yields_kept, passes_kept, ops_kept, regions_kept, carries_after}
use Rattle.pass_copy.proofs.UntouchedParts.{Away, no_loop_there, loop_labels, stands, stands_inside, not_around, replaced_away, inside_away, away_labels, away_inner_labels, op_other, op_here, found_labels, found_inner, moves_before, moves_behind}
use Rattle.pass_copy.proofs.RenamedOps.{kept_args, arg_types_length}
use Rattle.pass_copy.proofs.JoinedOps.{typed_joined, after_joined}

-- seg stands for the loop o at label t, in a scope of which Q holds, and labels follow f: those before t stay, those behind the loop, up to `stop`, move
-- behind seg
pub record KeepsTypes (Q : Types → Type 0) (f : ℕ → ℕ) (t : ℕ) (seg : OpList) (stop : ℕ) (o : Operation) : Type 0 where
  pub before : (l : ℕ) → l < t → f l ≡ l
  pub moves : (l : ℕ) → t + op_labels o ≤ l → l < stop → f l + op_labels o ≡ l + labels_of seg
  pub typed : (T T' : Types) → Q T → Below t T → Carries f T T' → Below t T' → TypedOp T o.packs o.results o.kind → TypedRegions T t o.results o.kind
      → TypedOps T' t seg × Carries f (with_types T (t + inner_labels o.kind) o.results) (types_after T' t seg)

module _ (f : ℕ → ℕ) (t : ℕ) (seg : OpList) where
  -- an operation without what stands in its regions
  op_inside : (T T' : Types) (at : ℕ) (packs : List Pack) (results : List IrType) (kind : OpKind) → Carries f T T' → TypedOp T packs results kind
      → TypedOp T' packs results (replaced_inside f t seg at kind)
  op_inside T T' at packs results (Simple does) c h =
      let r = op_kept f T T' c keep 0 0 packs results (Simple does) h in
      record { in_scope = r.in_scope; typed = r.typed; packed = h.packed; counted = r.counted }
  op_inside T T' at packs results (If x first firsts has_else other others) c h =
      let r = op_kept f T T' c keep 0 0 packs results (If x first firsts has_else other others) h in
      record { in_scope = r.in_scope; typed = r.typed; packed = h.packed; counted = r.counted }
  op_inside T T' at packs results (For lower upper step iv args inits body ends) c h =
      let r = op_kept f T T' c keep 0 0 packs results (For lower upper step iv args inits body ends) h in
      let body' = replaced f t seg (at + 2 + length args) body in
      record {
        in_scope = r.in_scope;
        typed = subst (λ xs. kind_fits T' results (For (relabel f lower) (relabel f upper) (relabel f step) iv xs (relabels f inits) body' (relabels f ends)) ≡ true) (kept_args 1 args) r.typed;
        packed = h.packed;
        counted = ap (λ xs. kind_counts (length results) (For (relabel f lower) (relabel f upper) (relabel f step) iv xs (relabels f inits) body' (relabels f ends))) (sym (kept_args 1 args))
            ∙ r.counted;
      }
  op_inside T T' at packs results (While args inits before passed cond after_args after ends) c h =
      let r = op_kept f T T' c keep 0 0 packs results (While args inits before passed cond after_args after ends) h in
      let before' = replaced f t seg (at + 1 + length args) before in
      let after' = replaced f t seg (at + 1 + length args + labels_of before + length after_args) after in
      record {
        in_scope = r.in_scope;
        typed = subst (λ xs. kind_fits T' results (While xs (relabels f inits) before' (relabels f passed) (relabel f cond) after_args after' (relabels f ends)) ≡ true) (kept_args 0 args) r.typed;
        packed = h.packed;
        counted =
            (λ j. kind_counts (length results) (While (sym (kept_args 0 args) j) (relabels f inits) before' (relabels f passed) (relabel f cond) (sym (kept_args (0 + length args + names_of before) after_args) j) after' (relabels f ends))) ∙ r.counted;
      }

  -- operations from label `at` on in T, and others from at' on in T'
  abbrev pub Kept : ℕ → ℕ → OpList → OpList → Types → Types → Type 0
  Kept at at' ops ops' T T' = TypedOps T' at' ops' × Carries f (types_after T at ops) (types_after T' at' ops')

  pub untouched_kept : (T T' : Types) (at at' : ℕ) (ops : OpList) → Away t at (labels_of ops) → Moves f at at' (labels_of ops) → Below at' T' → Carries f T T' → TypedOps T at ops
      → Kept at at' ops (replaced f t seg at ops) T T'
  untouched_kept T T' at at' ops q m b c h =
      subst (λ x. Kept at at' ops x T T') (sym (replaced_away f t seg ops at 0 q)) (ops_kept f keep T T' at at' 0 ops c b m h, carries_after f keep T T' at at' 0 ops c b m)

  module _ (Q : Types → Type 0) (stop : ℕ) where
    -- the loop itself, and what stands behind it
    here : (packs : List Pack) (results : List IrType) (kind : OpKind) (rest : OpList) → is_loop kind ≡ true
        → KeepsTypes Q f t seg stop (record { packs = packs; results = results; kind = kind })
        → t + labels_of (next packs results kind rest) ≤ stop → (T T' : Types) → Q T → Below t T → Carries f T T' → Below t T' → TypedOps T t (next packs results kind rest)
        → Kept t t (next packs results kind rest) (replaced f t seg t (next packs results kind rest)) T T'
    here packs results kind rest l m le T T' held b c b' h =
        let n = inner_labels kind + length results in
        let at = t + n in
        let rest' = replaced f t seg at rest in
        let some = loop_labels kind l in
        let U = with_types T (t + inner_labels kind) results in
        let U' = types_after T' t seg in
        let w = m.typed T T' held b c b' h.0 h.1 in
        let moves : Moves f at (t + labels_of seg) (labels_of rest) = λ x x0 x1. let e : f x + n ≡ x + labels_of seg = m.moves x (omega arith) (omega arith) in omega arith in
        let r = untouched_kept U U' at (t + labels_of seg) rest (inl (omega arith)) moves (below_after t seg T' b') w.1 h.2 in
        subst (λ x. Kept t t (next packs results kind rest) x T T') (sym (op_here f t seg t packs results kind rest refl l))
        (typed_joined T' t seg rest' w.0 r.0, subst (λ V. Carries f (types_after U at rest) V) (sym (after_joined T' t seg rest')) r.1)

    module _ (o : Operation) (m : KeepsTypes Q f t seg stop o) where
      mutual
        pub found_ops : (at : ℕ) (ops : OpList) → StandsIn t o at ops → at + labels_of ops ≤ stop → (T T' : Types) → ScopeIn t Q T at ops → Below at T → Carries f T T' → Below at T' → TypedOps T at ops
            → Kept at at ops (replaced f t seg at ops) T T'
        found_ops at nil s le T T' held b c b' h = absurd s
        found_ops at (next packs results kind rest) (inl s) le T T' held b c b' h =
            let ops = next packs results kind rest in
            subst (λ p. p + labels_of ops ≤ stop → Below p T → Carries f T T' → Below p T' → TypedOps T p ops → Kept p p ops (replaced f t seg p ops) T T') (sym s.0)
            (λ le2 b2 c2 b2' h2. here packs results kind rest s.1 (subst (λ x. KeepsTypes Q f t seg stop x) (sym s.2) m) le2 T T' (held.0 s.0 s.1) b2 c2 b2' h2) le b c b' h
        found_ops at (next packs results kind rest) (inr (inl s)) le T T' held b c b' h =
            let kind' = replaced_inside f t seg at kind in
            let i = inner_labels kind in
            let i' = inner_labels kind' in
            let p = at + (i + length results) in
            let p' = at + (i' + length results) in
            let g = stands_inside t o kind at s in
            let e : i' + op_labels o ≡ i + labels_of seg = found_inner f t seg o at kind s in
            let some : t < at + i = omega (arith, g.some, g.ends) in
            let behind : t + op_labels o ≤ at + i = g.ends in
            let U = with_types T (at + i) results in
            let U' = with_types T' (at + i') results in
            let cU = carries_with f T T' (at + i) (at + i') results c (below_more at (at + i') T' (omega arith) b')
            (moves_behind f t o seg stop m.moves (at + i) (at + i') (length results) behind (omega arith) (omega arith)) in
            let bU = below_with at (at + i') p' results T' b' (omega arith) (omega arith) in
            let r = untouched_kept U U' p p' rest (inl (omega arith)) (moves_behind f t o seg stop m.moves p p' (labels_of rest) (omega arith) (omega arith) (omega arith)) bU cU h.2 in
            subst (λ x. Kept at at (next packs results kind rest) x T T') (sym (op_other f t seg at packs results kind rest (not_around t o kind at s)))
            ((op_inside T T' at packs results kind c h.0, found_regions at results kind s (omega arith) T T' held.1 b c b' h.1, r.0), r.1)
        found_ops at (next packs results kind rest) (inr (inr s)) le T T' held b c b' h =
            let kind' = replaced_inside f t seg at kind in
            let i = inner_labels kind in
            let i' = inner_labels kind' in
            let p = at + (i + length results) in
            let g = stands t o rest p s in
            let q : Away t at i = inr (omega (arith, g.begins)) in
            let e : i' ≡ i = away_inner_labels f t seg kind at q in
            let mi = moves_before f t m.before at at i (omega (arith, g.begins)) refl in
            let U = with_types T (at + i) results in
            let U' = with_types T' (at + i) results in
            let cU = carries_with f T T' (at + i) (at + i) results c (below_more at (at + i) T' (omega arith) b')
            (moves_before f t m.before (at + i) (at + i) (length results) (omega (arith, g.begins)) refl) in
            let bU = below_with at (at + i) p results T b (omega arith) (omega arith) in
            let bU' = below_with at (at + i) p results T' b' (omega arith) (omega arith) in
            let r = found_ops p rest s (omega arith) U U' held.2 bU cU bU' h.2 in
            let rest' = replaced f t seg p rest in
            let k = subst (λ x. TypedRegions T' at results x) (sym (inside_away f t seg kind at 0 q)) (regions_kept f keep T T' at at 0 results kind c b' mi h.1) in
            subst (λ x. Kept at at (next packs results kind rest) x T T') (sym (op_other f t seg at packs results kind rest (no_loop_there t kind at q)))
            (subst (λ x. (TypedOp T' packs results kind' × TypedRegions T' at results kind' × TypedOps (with_types T' (at + x) results) (at + (x + length results)) rest')
            × Carries f (types_after U p rest) (types_after (with_types T' (at + x) results) (at + (x + length results)) rest')) (sym e)
            ((op_inside T T' at packs results kind c h.0, k, r.0), r.1))

        found_regions : (at : ℕ) (results : List IrType) (kind : OpKind) → StandsInside t o at kind → at + inner_labels kind ≤ stop → (T T' : Types) → ScopeInside t Q T at kind → Below at T → Carries f T T' → Below at T'
            → TypedRegions T at results kind → TypedRegions T' at results (replaced_inside f t seg at kind)
        found_regions at results (Simple does) s le T T' held b c b' h = absurd s
        found_regions at results (If x first firsts has_else other others) (inl s) le T T' held b c b' h =
            let g = stands t o first at s in
            let p = at + labels_of first in
            let first' = replaced f t seg at first in
            let p' = at + labels_of first' in
            let e : labels_of first' + op_labels o ≡ labels_of first + labels_of seg = found_labels f t seg o at first s in
            let r = found_ops at first s (omega arith) T T' held.0 b c b' h.0 in
            let some : t < p = omega (arith, g.some, g.ends) in
            let behind : t + op_labels o ≤ p = g.ends in
            let q = untouched_kept T T' p p' other (inl some) (moves_behind f t o seg stop m.moves p p' (labels_of other) behind (omega arith) (omega arith))
            (below_more at p' T' (omega arith) b') c h.2 in (
              r.0,
              end_kept f _ _ r.1 results firsts (yields results firsts) (yields results (relabels f firsts)) (yields_kept f results firsts) h.1,
              q.0,
              end_kept f _ _ q.1 results others (yields results others) (yields results (relabels f others)) (yields_kept f results others) h.3,
            )
        found_regions at results (If x first firsts has_else other others) (inr s) le T T' held b c b' h =
            let p = at + labels_of first in
            let g = stands t o other p s in
            let first' = replaced f t seg at first in
            let other' = replaced f t seg p other in
            let q : Away t at (labels_of first) = inr (omega (arith, g.begins)) in
            let e : labels_of first' ≡ labels_of first = away_labels f t seg first at q in
            let r = untouched_kept T T' at at first q (moves_before f t m.before at at (labels_of first) (omega (arith, g.begins)) refl) b' c h.0 in
            let w = found_ops p other s (omega arith) T T' held.1 (below_more at p T (omega arith) b) c (below_more at p T' (omega arith) b') h.2 in
            let v = subst (λ n. Kept p (at + n) other other' T T') (sym e) w in (
              r.0,
              end_kept f _ _ r.1 results firsts (yields results firsts) (yields results (relabels f firsts)) (yields_kept f results firsts) h.1,
              v.0,
              end_kept f _ _ v.1 results others (yields results others) (yields results (relabels f others)) (yields_kept f results others) h.3,
            )
        found_regions at results (For lower upper step iv args inits body ends) s le T T' held b c b' h =
            let p = at + 2 + length args in
            let g = stands t o body p s in
            let low : p ≤ t = g.begins in
            let c2 = inside_carried f T T' at at iv args c b' (moves_before f t m.before at at (2 + length args) (omega arith) refl) in
            let r = found_ops p body s (omega arith) (scope_inside T at iv args) (scope_inside T' at iv args) held (inside_below T at iv args b) c2 (inside_below T' at iv args b') h.0 in
            (r.0, end_kept f _ _ r.1 results ends (yields results ends) (yields results (relabels f ends)) (yields_kept f results ends) h.1)
        found_regions at results (While args inits before passed cond after_args after ends) (inl s) le T T' held b c b' h =
            let a = length args in
            let a2 = length after_args in
            let la : length (arg_types args) ≡ length args = arg_types_length args in
            let la2 : length (arg_types after_args) ≡ length after_args = arg_types_length after_args in
            let p = at + 1 + a in
            let q = p + labels_of before in
            let g = stands t o before p s in
            let low : p ≤ t = g.begins in
            let some : t < q = omega (arith, g.some, g.ends) in
            let behind : t + op_labels o ≤ q = g.ends in
            let before' = replaced f t seg p before in
            let e : labels_of before' + op_labels o ≡ labels_of before + labels_of seg = found_labels f t seg o p before s in
            let q' = p + labels_of before' in
            let c1 = carries_with f T T' (at + 1) (at + 1) (arg_types args) c (below_more at (at + 1) T' (omega arith) b')
            (moves_before f t m.before (at + 1) (at + 1) (length (arg_types args)) (omega arith) refl) in
            let r = found_ops p before s (omega arith) (with_types T (at + 1) (arg_types args)) (with_types T' (at + 1) (arg_types args)) held.0
            (below_with at (at + 1) p (arg_types args) T b (omega arith) (omega arith)) c1
            (below_with at (at + 1) p (arg_types args) T' b' (omega arith) (omega arith)) h.0 in
            let c2 = carries_with f T T' q q' (arg_types after_args) c (below_more at q' T' (omega arith) b')
            (moves_behind f t o seg stop m.moves q q' (length (arg_types after_args)) behind (omega arith) (omega arith)) in
            let v = untouched_kept (with_types T q (arg_types after_args)) (with_types T' q' (arg_types after_args)) (q + a2) (q' + a2) after (inl (omega arith))
            (moves_behind f t o seg stop m.moves (q + a2) (q' + a2) (labels_of after) (omega arith) (omega arith) (omega arith))
            (below_with at q' (q' + a2) (arg_types after_args) T' b' (omega arith) (omega arith)) c2 h.3 in (
              r.0,
              end_kept f _ _ r.1 (truth ∷ results) (cond ∷ passed) (passes results passed) (passes results (relabels f passed)) (passes_kept f results passed) h.1,
              h.2,
              v.0,
              end_kept f _ _ v.1 (arg_types args) ends (passes (arg_types args) ends) (passes (arg_types args) (relabels f ends)) (passes_kept f (arg_types args) ends) h.4,
            )
        found_regions at results (While args inits before passed cond after_args after ends) (inr s) le T T' held b c b' h =
            let a = length args in
            let a2 = length after_args in
            let la : length (arg_types args) ≡ length args = arg_types_length args in
            let la2 : length (arg_types after_args) ≡ length after_args = arg_types_length after_args in
            let p = at + 1 + a in
            let q = p + labels_of before in
            let g = stands t o after (q + a2) s in
            let low : q + a2 ≤ t = g.begins in
            let before' = replaced f t seg p before in
            let after' = replaced f t seg (q + a2) after in
            let n : Away t p (labels_of before) = inr (omega arith) in
            let e : labels_of before' ≡ labels_of before = away_labels f t seg before p n in
            let c1 = carries_with f T T' (at + 1) (at + 1) (arg_types args) c (below_more at (at + 1) T' (omega arith) b')
            (moves_before f t m.before (at + 1) (at + 1) (length (arg_types args)) (omega arith) refl) in
            let r = untouched_kept (with_types T (at + 1) (arg_types args)) (with_types T' (at + 1) (arg_types args)) p p before n (moves_before f t m.before p p (labels_of before) (omega arith) refl)
            (below_with at (at + 1) p (arg_types args) T' b' (omega arith) (omega arith)) c1 h.0 in
            let c2 = carries_with f T T' q q (arg_types after_args) c (below_more at q T' (omega arith) b') (moves_before f t m.before q q (length (arg_types after_args)) (omega arith) refl) in
            let w = found_ops (q + a2) after s (omega arith) (with_types T q (arg_types after_args)) (with_types T' q (arg_types after_args)) held.1
            (below_with at q (q + a2) (arg_types after_args) T b (omega arith) (omega arith)) c2
            (below_with at q (q + a2) (arg_types after_args) T' b' (omega arith) (omega arith)) h.3 in
            let v = subst (λ x. Kept (q + a2) (p + x + a2) after after' (with_types T q (arg_types after_args)) (with_types T' (p + x) (arg_types after_args))) (sym e) w in (
              r.0,
              end_kept f _ _ r.1 (truth ∷ results) (cond ∷ passed) (passes results passed) (passes results (relabels f passed)) (passes_kept f results passed) h.1,
              h.2,
              v.0,
              end_kept f _ _ v.1 (arg_types args) ends (passes (arg_types args) ends) (passes (arg_types args) (relabels f ends)) (passes_kept f (arg_types args) ends) h.4,
            )
