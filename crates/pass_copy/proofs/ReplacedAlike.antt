-- Operations among which others stand for a loop are alike, where these others work.
use Rattle.std.proofs.Common.{◌≡◌, ℕ, suc, ◌+◌, ◌<◌, ◌≤◌, true, List, length, inl, inr, ap, sym, subst, arith, if◌then◌else◌, Bool, false, refl}
use Rattle.mlir_ir.specs.declared.types.IrType.{IrType}
use Rattle.mlir_ir.specs.declared.types.Pack.{Pack}
use Rattle.mlir_ir.specs.Operations.{OpKind, Simple, If, For, While, OpList, nil, next, labels_of, inner_labels}
use Rattle.mlir_ir.specs.Rules.{arg_types}
use Rattle.mlir_ir.specs.Typed.{Types, with_types, TypedOp, TypedOps, TypedRegions}
use Rattle.pass_copy.specs.Reported.{Claim}
use Rattle.pass_copy.specs.Renamed.{keep}
use Rattle.pass_copy.specs.Replaced.{Operation, op_labels, is_loop, StandsIn, StandsInside, replaced, replaced_inside}
use Rattle.pass_copy.specs.Scopes.{ScopeIn, ScopeInside}
pub use Rattle.pass_copy.proofs.RenamedOps.{kept_args, kept_packs}
pub use Rattle.pass_copy.proofs.UntouchedParts.{Lies, stands, stands_inside, Away, replaced_away, inside_away}
use Rattle.pass_copy.proofs.UntouchedParts.{moves_before, moves_behind, loop_labels, not_around, no_loop_there, away_labels, away_inner_labels, op_other, op_here}
use Rattle.pass_copy.proofs.Ahead.{joined_labels}
use Rattle.pass_copy.proofs.Bindings.{Scope, pairs, Below, below_more}
use Rattle.pass_copy.proofs.AlikeOps.{Works, AlikeOp, both_next, swap, scope_behind}
use Rattle.pass_copy.proofs.RenamedAlike.{Covers, Moves, below_inside, AlikeFrom, renamed_kind, renamed_ops, covers_behind, below_behind, alike_if, for_types, covers_for, alike_for, covers_before, covers_after, alike_while}

-- the parts of an `if`

pub if_true : {A : Type 0} (b : Bool) (x y : A) → b ≡ true → (if b then x else y) ≡ x
if_true true x y e = refl
if_true false x y e = cc

pub if_false : {A : Type 0} (b : Bool) (x y : A) → b ≡ false → (if b then x else y) ≡ y
if_false true x y e = cc
if_false false x y e = refl

-- where the others work

-- in one scope: behind them each label known behind the loop has the one that f gives it
pub record WorksFrom (H : Claim) (f : ℕ → ℕ) (k t : ℕ) (o : Operation) (others : OpList) (T : Types) (ctx : Scope) : Type 0 where
  pub behind : Scope
  pub works : Works H k ctx t t o.results o.kind others behind
  pub covers : Covers f (with_types T (t + inner_labels o.kind) o.results) behind
  pub below : Below (t + op_labels o) (t + labels_of others) behind

-- in each scope in which the loop may stand, where Q holds of it
abbrev pub WorksAt : (Types → Type 0) → Claim → (ℕ → ℕ) → ℕ → ℕ → Operation → OpList → Type 0
WorksAt Q H f k t o others =
    (T : Types) (ctx : Scope) → Q T → TypedOp T o.packs o.results o.kind → TypedRegions T t o.results o.kind
    → Covers f T ctx → Below t t ctx → WorksFrom H f k t o others T ctx

-- f keeps the labels in front of the loop, and moves those behind it, up to `end`, by what the others take more or less
module _ (Q : Types → Type 0) (H : Claim) (f : ℕ → ℕ) (k t : ℕ) (o : Operation) (others : OpList) (end : ℕ) (few : k ≤ 31) (stays : (y : ℕ) → y < t → f y ≡ y)
    (moves : (y : ℕ) → t + op_labels o ≤ y → y < end → f y + op_labels o ≡ y + labels_of others) (works : WorksAt Q H f k t o others) where
  pub record PathFrom (T : Types) (ctx : Scope) (at at' : ℕ) (ops ops' : OpList) : Type 0 where
    pub from : AlikeFrom H f 31 T ctx at at' ops ops'
    pub grows : labels_of ops' + op_labels o ≡ labels_of ops + labels_of others

  pub record KindFrom (ctx : Scope) (at at' : ℕ) (results : List IrType) (kind kind' : OpKind) : Type 0 where
    pub paid : ℕ
    pub few_paid : paid ≤ 31
    pub alike : AlikeOp H paid ctx at at' results kind kind'
    pub grows : inner_labels kind' + op_labels o ≡ inner_labels kind + labels_of others

  pub away_ops : (ops : OpList) (j : ℕ) (T : Types) (ctx : Scope) (at at' : ℕ) → Away t at (labels_of ops) → TypedOps T at ops → Covers f T ctx → Below at at' ctx
      → Moves f at at' (labels_of ops) → AlikeFrom H f j T ctx at at' ops (replaced f t others at ops)
  away_ops ops j T ctx at at' a u c b m =
      subst (λ z. AlikeFrom H f j T ctx at at' ops z) (sym (replaced_away f t others ops at 0 a)) (renamed_ops H f keep ops 0 j T ctx at at' u c b m)

  away_kind : (kind : OpKind) (packs : List Pack) (results : List IrType) (T : Types) (ctx : Scope) (at at' : ℕ) → Away t at (inner_labels kind)
      → TypedOp T packs results kind → TypedRegions T at results kind → Covers f T ctx → Below at at' ctx → Moves f at at' (inner_labels kind + length results)
      → AlikeOp H 0 ctx at at' results kind (replaced_inside f t others at kind)
  away_kind kind packs results T ctx at at' a p u c b m =
      subst (λ z. AlikeOp H 0 ctx at at' results kind z) (sym (inside_away f t others kind at 0 a)) (renamed_kind H f keep kind 0 packs results T ctx at at' p u c b m)

  -- the loop itself
  replaced_here : (packs : List Pack) (results : List IrType) (kind : OpKind) (rest : OpList) (T : Types) (ctx : Scope) (at : ℕ)
      → at ≡ t → is_loop kind ≡ true → record { packs = packs; results = results; kind = kind } ≡ o
      → Q T → TypedOps T at (next packs results kind rest) → Covers f T ctx → Below at at ctx → at + (inner_labels kind + length results + labels_of rest) ≤ end
      → PathFrom T ctx at at (next packs results kind rest) (replaced f t others at (next packs results kind rest))
  replaced_here packs results kind rest T ctx at p l s held u c b r =
      let w = inner_labels kind + length results in
      let some = loop_labels kind l in
      let here : Operation = record { packs = packs; results = results; kind = kind } in
      let same : w ≡ op_labels o = ap op_labels s in
      let v = subst (λ z. WorksAt Q H f k z here others) (sym p) (subst (λ z. WorksAt Q H f k t z others) (sym s) works) T ctx held u.0 u.1 c b in
      let rest' = replaced f t others (at + w) rest in
      let away : Away t (at + w) (labels_of rest) = inl (omega arith) in
      let a = away_ops rest 0 (with_types T (at + inner_labels kind) results) v.behind (at + w) (at + labels_of others) away u.2 v.covers v.below
      (moves_behind f t o others end moves (at + w) (at + labels_of others) (labels_of rest) (omega arith) (omega arith) (omega arith)) in
      let sum = joined_labels others rest' in
      let kept = away_labels f t others rest (at + w) away in
      subst (λ z. PathFrom T ctx at at (next packs results kind rest) z)
      (sym (op_here f t others at packs results kind rest p l))
      (record {
        from = record {
          behind = a.behind;
          alike = swap k 0 v.behind others rest' (omega arith) v.works a.alike;
          covers = a.covers;
          below = below_more (at + w + labels_of rest) (at + labels_of others + labels_of rest') _ _ a.behind (omega arith) (omega arith) a.below;
        };
        grows = omega arith;
      })

  -- an operation among which the loop stands, and those behind it
  replaced_around : (packs : List Pack) (results : List IrType) (kind : OpKind) (rest : OpList) (T : Types) (ctx : Scope) (at at' : ℕ) → at' ≡ at → StandsInside t o at kind
      → TypedOps T at (next packs results kind rest) → Covers f T ctx → Below at at' ctx → at + (inner_labels kind + length results + labels_of rest) ≤ end
      → KindFrom ctx at at' results kind (replaced_inside f t others at kind)
      → PathFrom T ctx at at' (next packs results kind rest) (replaced f t others at (next packs results kind rest))
  replaced_around packs results kind rest T ctx at at' e s u c b r g =
      let q = stands_inside t o kind at s in
      let w = inner_labels kind + length results in
      let kind' = replaced_inside f t others at kind in
      let w' = inner_labels kind' + length results in
      let more = g.grows in
      let rest' = replaced f t others (at + w) rest in
      let away : Away t (at + w) (labels_of rest) = inl (omega (arith, q.some, q.ends)) in
      let a = away_ops rest 0 (with_types T (at + inner_labels kind) results) (scope_behind ctx at at' results kind kind') (at + w) (at' + w') away u.2
      (covers_behind H f keep T ctx at at' results kind kind'
      (moves_behind f t o others end moves (at + inner_labels kind) (at' + inner_labels kind') (length results) (omega (arith, q.ends)) (omega arith) (omega arith)) c)
      (below_behind H f keep ctx at at' results kind kind' b)
      (moves_behind f t o others end moves (at + w) (at' + w') (labels_of rest) (omega (arith, q.ends)) (omega arith) (omega arith)) in
      let kept = away_labels f t others rest (at + w) away in
      subst (λ z. PathFrom T ctx at at' (next packs results kind rest) z)
      (sym (op_other f t others at packs results kind rest (not_around t o kind at s)))
      (record {
        from = record {
          behind = a.behind;
          alike = both_next g.paid 0 (omega (arith, g.few_paid)) g.alike a.alike;
          covers = a.covers;
          below = below_more (at + w + labels_of rest) (at' + w' + labels_of rest') _ _ a.behind (omega arith) (omega arith) a.below;
        };
        grows = omega arith;
      })

  mutual
    pub replaced_ops : (ops : OpList) (T : Types) (ctx : Scope) (at at' : ℕ) → at' ≡ at → StandsIn t o at ops → ScopeIn t Q T at ops → TypedOps T at ops → Covers f T ctx → Below at at' ctx
        → at + labels_of ops ≤ end → PathFrom T ctx at at' ops (replaced f t others at ops)
    replaced_ops nil T ctx at at' e s held u c b r = absurd s
    replaced_ops (next packs results kind rest) T ctx at at' e (inl s) held u c b r =
        subst (λ z. PathFrom T ctx at z (next packs results kind rest) (replaced f t others at (next packs results kind rest))) (sym e)
        (replaced_here packs results kind rest T ctx at s.0 s.1 s.2 (held.0 s.0 s.1) u c (subst (λ z. Below at z ctx) e b) r)
    replaced_ops (next packs results kind rest) T ctx at at' e (inr (inl s)) held u c b r =
        replaced_around packs results kind rest T ctx at at' e s u c b r (replaced_kind kind at s packs results T ctx at' e held.1 u.0 u.1 c b (omega arith))
    replaced_ops (next packs results kind rest) T ctx at at' e (inr (inr s)) held u c b r =
        let w = inner_labels kind + length results in
        let q = stands t o rest (at + w) s in
        let away : Away t at (inner_labels kind) = inr (omega (arith, q.begins)) in
        let kind' = replaced_inside f t others at kind in
        let w' = inner_labels kind' + length results in
        let kept = away_inner_labels f t others kind at away in
        let rest' = replaced f t others (at + w) rest in
        let here = away_kind kind packs results T ctx at at' away u.0 u.1 c b (moves_before f t stays at at' w (omega (arith, q.begins)) e) in
        let a = replaced_ops rest (with_types T (at + inner_labels kind) results) (scope_behind ctx at at' results kind kind') (at + w) (at' + w') (omega arith) s held.2 u.2
        (covers_behind H f keep T ctx at at' results kind kind' (moves_before f t stays (at + inner_labels kind) (at' + inner_labels kind') (length results) (omega (arith, q.begins)) (omega arith)) c)
        (below_behind H f keep ctx at at' results kind kind' b) (omega arith) in
        let more = a.grows in
        subst (λ z. PathFrom T ctx at at' (next packs results kind rest) z)
        (sym (op_other f t others at packs results kind rest (no_loop_there t kind at away)))
        (record {
          from = record {
            behind = a.from.behind;
            alike = both_next 0 31 (omega arith) here a.from.alike;
            covers = a.from.covers;
            below = below_more (at + w + labels_of rest) (at' + w' + labels_of rest') _ _ a.from.behind (omega arith) (omega arith) a.from.below;
          };
          grows = omega arith;
        })

    replaced_kind : (kind : OpKind) (at : ℕ) → StandsInside t o at kind → (packs : List Pack) (results : List IrType) (T : Types) (ctx : Scope) (at' : ℕ) → at' ≡ at
        → ScopeInside t Q T at kind → TypedOp T packs results kind → TypedRegions T at results kind → Covers f T ctx → Below at at' ctx → at + (inner_labels kind + length results) ≤ end
        → KindFrom ctx at at' results kind (replaced_inside f t others at kind)
    replaced_kind (Simple does) at s packs results T ctx at' e held p u c b r = absurd s
    replaced_kind (If cond first firsts has_else other others2) at (inl s) packs results T ctx at' e held p u c b r =
        let q = stands t o first at s in
        let in_other = at + labels_of first in
        let a = replaced_ops first T ctx at at' e s held.0 u.0 c b (omega arith) in
        let more = a.grows in
        let first' = replaced f t others at first in
        let in_other' = at' + labels_of first' in
        let away : Away t in_other (labels_of other) = inl (omega (arith, q.some, q.ends)) in
        let kept = away_labels f t others other in_other away in
        record {
          paid = 31;
          few_paid = omega arith;
          alike = alike_if H f keep 31 packs results T ctx at at' cond first first' firsts has_else other (replaced f t others in_other other) others2 p u c b a.from
              (away_ops other 31 T ctx in_other in_other' away u.2 c (below_more at at' in_other in_other' ctx (omega arith) (omega arith) b)
              (moves_behind f t o others end moves in_other in_other' (labels_of other) (omega (arith, q.ends)) (omega arith) (omega arith)));
          grows = omega arith;
        }
    replaced_kind (If cond first firsts has_else other others2) at (inr s) packs results T ctx at' e held p u c b r =
        let in_other = at + labels_of first in
        let q = stands t o other in_other s in
        let away : Away t at (labels_of first) = inr (omega (arith, q.begins)) in
        let kept = away_labels f t others first at away in
        let first' = replaced f t others at first in
        let in_other' = at' + labels_of first' in
        let a = replaced_ops other T ctx in_other in_other' (omega arith) s held.1 u.2 c (below_more at at' in_other in_other' ctx (omega arith) (omega arith) b) (omega arith) in
        let more = a.grows in
        record {
          paid = 31;
          few_paid = omega arith;
          alike = alike_if H f keep 31 packs results T ctx at at' cond first first' firsts has_else other (replaced f t others in_other other) others2 p u c b
              (away_ops first 31 T ctx at at' away u.0 c b (moves_before f t stays at at' (labels_of first) (omega (arith, q.begins)) e)) a.from;
          grows = omega arith;
        }
    replaced_kind (For lower upper step iv args inits body ends) at s packs results T ctx at' e held p u c b r =
        let len = length args in
        let in_body = at + 2 + len in
        let in_body' = at' + 2 + len in
        let q = stands t o body in_body s in
        let inner = pairs (at + 1) (at' + 1) (suc len) ctx in
        let a = replaced_ops body (for_types H f keep T at iv args) inner in_body in_body' (omega arith) s held u.0
        (covers_for H f keep T ctx at at' iv args (moves_before f t stays (at + 1) (at' + 1) (suc len) (omega (arith, q.begins)) (omega arith)) c)
        (below_inside ctx at at' (at + 1) (at' + 1) (suc len) in_body in_body' (omega arith) (omega arith) (omega arith) (omega arith) b) (omega arith) in
        let more = a.grows in
        record {
          paid = 0;
          few_paid = omega arith;
          alike = alike_for H f keep packs results T ctx at at' lower upper step iv iv args args inits body (replaced f t others in_body body) ends p u c b a.from;
          grows = omega arith;
        }
    replaced_kind (While args inits before passed cond after_args after ends) at (inl s) packs results T ctx at' e held p u c b r =
        let in_before = at + 1 + length args in
        let in_before' = at' + 1 + length args in
        let params = in_before + labels_of before in
        let in_after = params + length after_args in
        let q = stands t o before in_before s in
        let inner = pairs (at + 1) (at' + 1) (length args) ctx in
        let U = with_types T (at + 1) (arg_types args) in
        let V = with_types T params (arg_types after_args) in
        let before' = replaced f t others in_before before in
        let a = replaced_ops before U inner in_before in_before' (omega arith) s held.0 u.0
        (covers_before H f keep T ctx at at' args (moves_before f t stays (at + 1) (at' + 1) (length args) (omega (arith, q.begins)) (omega arith)) c)
        (below_inside ctx at at' (at + 1) (at' + 1) (length args) in_before in_before' (omega arith) (omega arith) (omega arith) (omega arith) b) (omega arith) in
        let more = a.grows in
        let params' = in_before' + labels_of before' in
        let in_after' = params' + length after_args in
        let away : Away t in_after (labels_of after) = inl (omega (arith, q.some, q.ends)) in
        let kept = away_labels f t others after in_after away in
        record {
          paid = 31;
          few_paid = omega arith;
          alike = alike_while H f keep 31 0 packs results T ctx at at' args args inits before before' passed cond after_args after_args after (replaced f t others in_after after) ends
              (omega arith) p u c b a.from
              (away_ops after 0 V (pairs params params' (length after_args) a.from.behind) in_after in_after' away u.3
              (covers_after H f keep 31 (at + 1) in_before in_before' params params' T (arg_types args) inner before before' after_args
              (moves_behind f t o others end moves params params' (length after_args) (omega (arith, q.ends)) (omega arith) (omega arith)) a.from)
              (below_inside a.from.behind params params' params params' (length after_args) in_after in_after' (omega arith) (omega arith) (omega arith) (omega arith) a.from.below)
              (moves_behind f t o others end moves in_after in_after' (labels_of after) (omega (arith, q.ends)) (omega arith) (omega arith)));
          grows = omega arith;
        }
    replaced_kind (While args inits before passed cond after_args after ends) at (inr s) packs results T ctx at' e held p u c b r =
        let in_before = at + 1 + length args in
        let in_before' = at' + 1 + length args in
        let params = in_before + labels_of before in
        let in_after = params + length after_args in
        let q = stands t o after in_after s in
        let inner = pairs (at + 1) (at' + 1) (length args) ctx in
        let U = with_types T (at + 1) (arg_types args) in
        let V = with_types T params (arg_types after_args) in
        let before' = replaced f t others in_before before in
        let away : Away t in_before (labels_of before) = inr (omega (arith, q.begins)) in
        let kept = away_labels f t others before in_before away in
        let params' = in_before' + labels_of before' in
        let in_after' = params' + length after_args in
        let a = away_ops before 0 U inner in_before in_before' away u.0
        (covers_before H f keep T ctx at at' args (moves_before f t stays (at + 1) (at' + 1) (length args) (omega (arith, q.begins)) (omega arith)) c)
        (below_inside ctx at at' (at + 1) (at' + 1) (length args) in_before in_before' (omega arith) (omega arith) (omega arith) (omega arith) b)
        (moves_before f t stays in_before in_before' (labels_of before) (omega (arith, q.begins)) (omega arith)) in
        let a2 = replaced_ops after V (pairs params params' (length after_args) a.behind) in_after in_after' (omega arith) s held.1 u.3
        (covers_after H f keep 0 (at + 1) in_before in_before' params params' T (arg_types args) inner before before' after_args
        (moves_before f t stays params params' (length after_args) (omega (arith, q.begins)) (omega arith)) a)
        (below_inside a.behind params params' params params' (length after_args) in_after in_after' (omega arith) (omega arith) (omega arith) (omega arith) a.below) (omega arith) in
        let more = a2.grows in
        record {
          paid = 0;
          few_paid = omega arith;
          alike = alike_while H f keep 0 31 packs results T ctx at at' args args inits before before' passed cond after_args after_args after (replaced f t others in_after after) ends
              (omega arith) p u c b a a2.from;
          grows = omega arith;
        }
