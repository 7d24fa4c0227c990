-- Operations are well typed in each scope that has the same types of the values that they use.
use Rattle.std.proofs.Common.{◌≡◌, ℕ, ◌+◌, ◌∙◌, Bool, true, List, [], ◌∷◌, ◌++◌, length, refl, ap, sym}
use Rattle.std.specs.List.{list_all}
use Rattle.std.specs.Option.{option_map_or}
use Rattle.arith_word.specs.declared.label.Label.{Label}
use Rattle.mlir_ir.specs.declared.types.IrType.{IrType}
use Rattle.mlir_ir.specs.declared.types.Pack.{Pack}
use Rattle.mlir_ir.specs.Operations.{SimpleOp, Const, Bin, Cast, Cmp, Select, Call, OpKind, Simple, If, For, While, OpList, nil, next, labels_of, inner_labels}
use Rattle.mlir_ir.specs.Rules.{arg_types, truth, same_type}
use Rattle.mlir_ir.specs.Typed.{Types, with_types, knows, alike, all_fit, simple_uses, uses, simple_fits, kind_fits, types_after, yields, passes, TypedOp, TypedEnd, TypedOps, TypedRegions}
use Rattle.item_uses.specs.Uses.{ops_uses, inner_uses}

-- the labels have the same types in both scopes
abbrev pub Agree : Types → Types → List Label → Type 0
Agree T U [] = Unit {0}
Agree T U (l ∷ ls) = (T l.0 ≡ U l.0) × Agree T U ls

pub agree_parts : (T U : Types) (xs ys : List Label) → Agree T U (xs ++ ys) → Agree T U xs × Agree T U ys
agree_parts T U [] ys h = (tt, h)
agree_parts T U (x ∷ xs) ys h = let p = agree_parts T U xs ys h.1 in ((h.0, p.0), p.1)

with_agree : (T U : Types) (at : ℕ) (tys : List IrType) (ls : List Label) → Agree T U ls → Agree (with_types T at tys) (with_types U at tys) ls
with_agree T U at tys [] h = tt
with_agree T U at tys (l ∷ ls) h = (rw h.0 refl, with_agree T U at tys ls h.1)

pub after_agree : (ops : OpList) (T U : Types) (at : ℕ) (ls : List Label) → Agree T U ls → Agree (types_after T at ops) (types_after U at ops) ls
after_agree nil T U at ls h = h
after_agree (next packs results kind rest) T U at ls h =
    let here = at + inner_labels kind in
    after_agree rest (with_types T here results) (with_types U here results) (at + (inner_labels kind + length results)) ls (with_agree T U here results ls h)

known_same : (T U : Types) (ls : List Label) → Agree T U ls → list_all (knows T) ls ≡ list_all (knows U) ls
known_same T U [] h = refl
known_same T U (l ∷ ls) h = rw (h.0, known_same T U ls h.1) refl

fits_same : (T U : Types) (tys : List IrType) (ls : List Label) → Agree T U ls → all_fit T tys ls ≡ all_fit U tys ls
fits_same T U [] ls h = refl
fits_same T U (ty ∷ tys) [] h = refl
fits_same T U (ty ∷ tys) (l ∷ ls) h = rw (h.0, fits_same T U tys ls h.1) refl

alike_same : (T U : Types) (a b : Label) → T a.0 ≡ U a.0 → T b.0 ≡ U b.0 → alike T a b ≡ alike U a b
alike_same T U a b p q =
    ap (λ x. option_map_or (λ ty. option_map_or (same_type ty) x true) (T a.0) true) q
    ∙ ap (λ x. option_map_or (λ ty. option_map_or (same_type ty) (U b.0) true) x true) p

simple_same : (T U : Types) (results : List IrType) (does : SimpleOp) → Agree T U (simple_uses does) → simple_fits T results does ≡ simple_fits U results does
simple_same T U results (Const v) h = refl
simple_same T U results (Bin op flags a b) h = rw (alike_same T U a b h.0 h.1.0, fits_same T U results (a ∷ []) (h.0, tt)) refl
simple_same T U [] (Cast op flags a) h = refl
simple_same T U (ty ∷ results) (Cast op flags a) h = rw h.0 refl
simple_same T U results (Cmp pred a b) h = rw (alike_same T U a b h.0 h.1.0) refl
simple_same T U results (Select c a b) h = rw (alike_same T U a b h.1.0 h.1.1.0, fits_same T U results (a ∷ []) (h.1.0, tt), h.0) refl
simple_same T U results (Call func passed) h = refl

kind_same : (T U : Types) (results : List IrType) (kind : OpKind) → Agree T U (uses kind) → kind_fits T results kind ≡ kind_fits U results kind
kind_same T U results (Simple does) h = simple_same T U results does h
kind_same T U results (If c first firsts has_else other others) h = rw h.0 refl
kind_same T U results (For lower upper step iv args inits body ends) h = rw (h.0, h.1.0, h.1.1.0, fits_same T U (arg_types args) inits h.1.1.1) refl
kind_same T U results (While args inits before passed cond after_args after ends) h = fits_same T U (arg_types args) inits h

op_fewer : (T U : Types) (packs : List Pack) (results : List IrType) (kind : OpKind) → Agree T U (uses kind) → TypedOp T packs results kind → TypedOp U packs results kind
op_fewer T U packs results kind h t = record {
  in_scope = sym (known_same T U (uses kind) h) ∙ t.in_scope;
  typed = sym (kind_same T U results kind h) ∙ t.typed;
  packed = t.packed;
  counted = t.counted;
}

end_fewer : (T U : Types) (wanted : List IrType) (ends : List Label) (counts : Bool) → Agree T U ends → TypedEnd T wanted ends counts → TypedEnd U wanted ends counts
end_fewer T U wanted ends counts h t = record {
  in_scope = sym (known_same T U ends h) ∙ t.in_scope;
  typed = sym (fits_same T U wanted ends h) ∙ t.typed;
  counted = t.counted;
}

mutual
  pub ops_fewer : (ops : OpList) (T U : Types) (at : ℕ) → Agree T U (ops_uses ops) → TypedOps T at ops → TypedOps U at ops
  ops_fewer nil T U at h t = tt
  ops_fewer (next packs results kind rest) T U at h t =
      let here = at + inner_labels kind in
      let p = agree_parts T U (uses kind ++ inner_uses kind) (ops_uses rest) h in
      let q = agree_parts T U (uses kind) (inner_uses kind) p.0 in (
        op_fewer T U packs results kind q.0 t.0,
        regions_fewer kind T U at results q.1 t.1,
        ops_fewer rest (with_types T here results) (with_types U here results) (at + (inner_labels kind + length results)) (with_agree T U here results (ops_uses rest) p.1) t.2,
      )

  regions_fewer : (kind : OpKind) (T U : Types) (at : ℕ) (results : List IrType) → Agree T U (inner_uses kind) → TypedRegions T at results kind → TypedRegions U at results kind
  regions_fewer (Simple does) T U at results h t = tt
  regions_fewer (If c first firsts has_else other others) T U at results h t =
      let behind = at + labels_of first in
      let p = agree_parts T U (ops_uses first ++ firsts ++ ops_uses other) others h in
      let q = agree_parts T U (ops_uses first ++ firsts) (ops_uses other) p.0 in
      let r = agree_parts T U (ops_uses first) firsts q.0 in (
        ops_fewer first T U at r.0 t.0,
        end_fewer (types_after T at first) (types_after U at first) results firsts (yields results firsts) (after_agree first T U at firsts r.1) t.1,
        ops_fewer other T U behind q.1 t.2,
        end_fewer (types_after T behind other) (types_after U behind other) results others (yields results others) (after_agree other T U behind others p.1) t.3,
      )
  regions_fewer (For lower upper step iv args inits body ends) T U at results h t =
      let in_body = at + 2 + length args in
      let V = with_types T (at + 1) (iv.ty ∷ []) in
      let W = with_types U (at + 1) (iv.ty ∷ []) in
      let X = with_types V (at + 2) (arg_types args) in
      let Y = with_types W (at + 2) (arg_types args) in
      let inner : (ls : List Label) → Agree T U ls → Agree X Y ls = λ ls a. with_agree V W (at + 2) (arg_types args) ls (with_agree T U (at + 1) (iv.ty ∷ []) ls a) in
      let p = agree_parts T U (ops_uses body) ends h in (
        ops_fewer body X Y in_body (inner (ops_uses body) p.0) t.0,
        end_fewer (types_after X in_body body) (types_after Y in_body body) results ends (yields results ends) (after_agree body X Y in_body ends (inner ends p.1)) t.1,
      )
  regions_fewer (While args inits before passed cond after_args after ends) T U at results h t =
      let in_before = at + 1 + length args in
      let params = in_before + labels_of before in
      let in_after = params + length after_args in
      let V = with_types T (at + 1) (arg_types args) in
      let W = with_types U (at + 1) (arg_types args) in
      let X = with_types T params (arg_types after_args) in
      let Y = with_types U params (arg_types after_args) in
      let p = agree_parts T U (ops_uses before ++ cond ∷ passed ++ ops_uses after) ends h in
      let q = agree_parts T U (ops_uses before ++ cond ∷ passed) (ops_uses after) p.0 in
      let r = agree_parts T U (ops_uses before) (cond ∷ passed) q.0 in (
        ops_fewer before V W in_before (with_agree T U (at + 1) (arg_types args) (ops_uses before) r.0) t.0,
        end_fewer (types_after V in_before before) (types_after W in_before before) (truth ∷ results) (cond ∷ passed) (passes results passed)
            (after_agree before V W in_before (cond ∷ passed) (with_agree T U (at + 1) (arg_types args) (cond ∷ passed) r.1)) t.1,
        t.2,
        ops_fewer after X Y in_after (with_agree T U params (arg_types after_args) (ops_uses after) q.1) t.3,
        end_fewer (types_after X in_after after) (types_after Y in_after after) (arg_types args) ends (passes (arg_types args) ends)
            (after_agree after X Y in_after ends (with_agree T U params (arg_types after_args) ends p.1)) t.4,
      )
