-- The expressions of all values of well-typed operations have the widths of their types.
use Rattle.std.proofs.Common.{◌≡◌, ℕ, ◌+◌, ◌==◌, true, List, [], ◌∷◌, ◌++◌, length, refl, sym, ap, ◌∙◌, subst, arith, Option, Some, None}
use Rattle.std.proofs.lemmas.Bool.{and_parts, eqb-true}
use Rattle.std.specs.List.{list_all}
use Rattle.std.specs.Option.{option_map_or, is_some}
use Rattle.arith_word.specs.Labels.{label_at}
use Rattle.arith_word.specs.declared.label.Label.{Label}
use Rattle.mlir_ir.proofs.SizedFunctions.{well_formed}
use Rattle.mlir_ir.specs.Check.{IsWellFormed}
use Rattle.mlir_ir.specs.Loops.{func_loops}
use Rattle.mlir_ir.specs.Values.{func_values, type_at}
use Rattle.mlir_ir.specs.WellFormed.{IsTypedBody}
use Rattle.mlir_ir.specs.declared.types.Body.{Body}
use Rattle.mlir_ir.specs.declared.types.Func.{Func}
use Rattle.mlir_ir.specs.declared.types.IrType.{IrType}
use Rattle.mlir_ir.specs.declared.types.IrType.TheVariants.{Int, Index}
use Rattle.mlir_ir.specs.declared.types.Pack.{Pack}
use Rattle.mlir_ir.specs.Operations.{OpKind, Simple, If, For, While, OpList, nil, next, labels_of, inner_labels}
use Rattle.mlir_ir.specs.Rules.{arg_types, same_type, same_types, truth}
use Rattle.mlir_ir.specs.Typed.{Types, with_types, knows, fits, all_fit, TypedOp, types_after, TypedOps, TypedRegions, TypedItems, args_typed}
use Rattle.mlir_ir.specs.Words.{bits_of}
use Rattle.fresh_scev.specs.Facts.{Facts, ArePassed, IsOps, IsKind, IsItems, IsFacts, items_in, round_limit}
use Rattle.fresh_scev.specs.Each.{EachItems}
use Rattle.fresh_scev.specs.Insides.{for_loop, while_loop, IsForInside, IsWhileInside}
use Rattle.fresh_scev.specs.Rules.{have_width}
use Rattle.fresh_scev.specs.Widths.{IsWide, IsCounting, AreWide, KnowsWidths, OpsAreWide, InsideIsWide}
use Rattle.fresh_scev.proofs.EachValue.{Counted, each_with, each_after, each_arg, function_holds}
use Rattle.fresh_scev.proofs.ResultWidths.{untested_value, fitting_wide, own_are_wide, ruled_are_wide, merged_are_wide, rounds_are_wide, rounds_inside, carried_are_wide, passed_on_are_wide}
use Rattle.fresh_scev.proofs.StandingFacts.{types_length}

-- ---- passed values

pub same_bits : (a b : IrType) → same_type a b ≡ true → bits_of a ≡ bits_of b
same_bits (Int a) (Int b) h = eqb-true a b h
same_bits (Int a) Index h = absurd (cc)
same_bits Index (Int b) h = absurd (cc)
same_bits Index Index h = refl

fit_bits : (o : Option IrType) (wanted : IrType) (F : Facts) (l : ℕ) → ((ty : IrType) → o ≡ Some ty → (F.expr l).w ≡ bits_of ty) → is_some o ≡ true → option_map_or (same_type wanted) o true ≡ true → (F.expr l).w ≡ bits_of wanted
fit_bits None wanted F l known some h = absurd (cc)
fit_bits (Some ty) wanted F l known some h = known ty refl ∙ sym (same_bits wanted ty h)

passed_are_wide : (F : Facts) (T : Types) (label : ℕ) (tys wanted : List IrType) (passed : List Label) → KnowsWidths T F → list_all (knows T) passed ≡ true → all_fit T wanted passed ≡ true → same_types tys wanted ≡ true
    → length tys ≡ length wanted → ArePassed F label tys passed → AreWide F label tys
passed_are_wide F T label [] wanted passed known scope fit same many h = tt
passed_are_wide F T label (ty ∷ tys) wanted [] known scope fit same many h = own_are_wide F label (ty ∷ tys) h
passed_are_wide F T label (ty ∷ tys) [] (y ∷ passed) known scope fit same many h = absurd (omega (arith, many))
passed_are_wide F T label (ty ∷ tys) (x ∷ wanted) (y ∷ passed) known scope fit same many h =
    let f = and_parts (fits T x y) (all_fit T wanted passed) fit in
    let s = and_parts (same_type ty x) (same_types tys wanted) same in
    let k = and_parts (knows T y) (list_all (knows T) passed) scope in
    let width : (F.expr y.0).w ≡ bits_of x = fit_bits (T y.0) x F y.0 (λ t e. (known y.0 t e).0) k.0 f.0 in (
      (ap (λ e. e.w) h.0.0 ∙ width ∙ sym (same_bits ty x s.0), untested_value (F.role label) h.0.1),
      passed_are_wide F T (label + 1) tys wanted passed known k.1 f.1 s.1 (omega (arith, many)) h.1,
    )

-- ---- operations

mutual
  pub ops_are_wide : (ops : OpList) (conditions : List Label) (F : Facts) (T : Types) (at : ℕ) → KnowsWidths T F → TypedOps T at ops → IsOps conditions ops at F → OpsAreWide ops at F
  ops_are_wide nil conditions F T at known t h = tt
  ops_are_wide (next packs results kind rest) conditions F T at known t h =
      let k = kind_is_wide kind conditions F T packs results at known t.0 t.1 h.0 in
      (k.0, k.1, ops_are_wide rest conditions F (with_types T (at + inner_labels kind) results) (at + (inner_labels kind + length results)) (each_with (IsWide F) T (at + inner_labels kind) results known k.1) t.2 h.1)

  kind_is_wide : (kind : OpKind) (conditions : List Label) (F : Facts) (T : Types) (packs : List Pack) (results : List IrType) (at : ℕ) → KnowsWidths T F → TypedOp T packs results kind → TypedRegions T at results kind
      → IsKind conditions kind results at F → InsideIsWide kind at F × AreWide F (at + inner_labels kind) results
  kind_is_wide (Simple does) conditions F T packs results at known t r h =
      let e : at ≡ at + inner_labels (Simple does) = omega arith in
      (tt, subst (λ l. AreWide F l results) e (ruled_are_wide F at results does h))
  kind_is_wide (If c first firsts has_else other others) conditions F T packs results at known t r h =
      let e : at + labels_of first + labels_of other ≡ at + inner_labels (If c first firsts has_else other others) = omega arith in (
        (ops_are_wide first (conditions ++ c ∷ []) F T at known r.0 h.0, ops_are_wide other conditions F T (at + labels_of first) known r.2 h.1),
        subst (λ l. AreWide F l results) e (merged_are_wide F at (at + labels_of first + labels_of other) results firsts others h.2),
      )
  kind_is_wide (For lower upper step iv args inits body ends) conditions F T packs results at known t r h =
      let in_body = at + 2 + length args in
      let Inside = IsForInside conditions at lower step iv in_body body in
      let own_args = rounds_are_wide (for_loop at args inits ends) Inside round_limit F h.0 in
      let inside = rounds_inside (for_loop at args inits ends) Inside round_limit F h.0 in
      let w = bits_of iv.ty in
      let one : AreWide F (at + 1) (iv.ty ∷ []) =
      ((fitting_wide (have_width w (F.expr lower.0) (F.expr step.0)) w (at + 1) (F.expr (at + 1)) _ (λ t r. r.2.width) inside.0, untested_value (F.role (at + 1)) inside.1), tt) in
      let U = with_types (with_types T (at + 1) (iv.ty ∷ [])) (at + 2) (arg_types args) in
      let known_inside = each_with (IsWide F) (with_types T (at + 1) (iv.ty ∷ [])) (at + 2) (arg_types args) (each_with (IsWide F) T (at + 1) (iv.ty ∷ []) known one) own_args in
      let e : in_body + labels_of body ≡ at + inner_labels (For lower upper step iv args inits body ends) = omega arith in (
        (h.3, one, own_args, ops_are_wide body conditions F U in_body known_inside r.0 inside.2),
        subst (λ l. AreWide F l results) e (carried_are_wide F conditions at (at + 2) (in_body + labels_of body) results h.2),
      )
  kind_is_wide (While args inits before passed cond after_args after ends) conditions F T packs results at known t r h =
      let in_before = at + 1 + length args in
      let params = in_before + labels_of before in
      let in_after = params + length after_args in
      let Inside = IsWhileInside conditions in_before before passed after_args after in
      let own_args = rounds_are_wide (while_loop at args inits ends) Inside round_limit F h.0 in
      let inside = rounds_inside (while_loop at args inits ends) Inside round_limit F h.0 in
      let U = with_types T (at + 1) (arg_types args) in
      let V = with_types T params (arg_types after_args) in
      let first = ops_are_wide before conditions F U in_before (each_with (IsWide F) T (at + 1) (arg_types args) known own_args) r.0 inside.0 in
      let behind = each_after (IsWide F) (IsCounting F) before U in_before (each_with (IsWide F) T (at + 1) (arg_types args) known own_args) first in
      let scope = and_parts (knows (types_after U in_before before) cond) (list_all (knows (types_after U in_before before)) passed) r.1.in_scope in
      let fit = and_parts (fits (types_after U in_before before) truth cond) (all_fit (types_after U in_before before) results passed) r.1.typed in
      let counts = and_parts (length inits == length args) (length after_args == length results) t.counted in
      let as_many = eqb-true (length after_args) (length results) counts.1 in
      let many : length (arg_types after_args) ≡ length results = types_length after_args ∙ as_many in
      let given : AreWide F params (arg_types after_args) = passed_are_wide F (types_after U in_before before) params (arg_types after_args) results passed behind scope.1 fit.1 r.2 many inside.1 in
      let e : in_after + labels_of after ≡ at + inner_labels (While args inits before passed cond after_args after ends) = omega arith in (
        (h.3, own_args, first, given, ops_are_wide after conditions F V in_after (each_with (IsWide F) T params (arg_types after_args) known given) r.3 inside.2),
        subst (λ l. AreWide F l results) e (passed_on_are_wide F conditions at passed (in_after + labels_of after) results h.2),
      )

-- ---- items

items_are_wide : (func k : ℕ) (items : List OpList) (F : Facts) (T : Types) → KnowsWidths T F → TypedItems T func k items → IsItems func k items F → EachItems (IsWide F) (IsCounting F) func k items
items_are_wide func k [] F T known t h = tt
items_are_wide func k (ops ∷ items) F T known t h =
    let at = label_at func k 0 in
    let first = ops_are_wide ops [] F T at known t.0 h.0 in
    (first, items_are_wide func (k + 1) items F (types_after T at ops) (each_after (IsWide F) (IsCounting F) ops T at known first) t.1 h.1)

body_is_wide : (f : Func) (body : Option Body) (F : Facts) → KnowsWidths (args_typed f.index f.args) F → IsTypedBody f body → IsItems f.index 1 (items_in body) F → EachItems (IsWide F) (IsCounting F) f.index 1 (items_in body)
body_is_wide f None F known t h = tt
body_is_wide f (Some body) F known t h = items_are_wide f.index 1 _ F (args_typed f.index f.args) known t.inside h

-- the labels of a function's values are those of values, with the widths of their types, and those of its loops' counters count
pub function_is_wide : (f : Func) (F : Facts) → IsWellFormed f → IsFacts f F → KnowsWidths (type_at (func_values f)) F × Counted (IsWide F) (IsCounting F) (func_loops f)
function_is_wide f F well is =
    let args = own_are_wide F (label_at f.index 0 0) (arg_types f.args) is.arguments in
    function_holds (IsWide F) (IsCounting F) f well args (body_is_wide f f.body F (each_arg (IsWide F) f.index f.args args) (well_formed f well).0 is.items)
