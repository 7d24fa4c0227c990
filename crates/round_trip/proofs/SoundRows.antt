-- Rows of operations without breaks are sound, and what they define can be written.
use Rattle.std.proofs.Common.{◌≡◌, ℕ, ◌+◌, ◌<◌, ◌==◌, ◌&&◌, true, false, List, [], ◌∷◌, ◌++◌, length, refl, subst, arith, nat_lt}
use Rattle.std.proofs.lemmas.Bool.Decides.{nat_tests}
use Rattle.std.specs.List.{list_all}
use Rattle.arith_word.specs.declared.label.Label.{Label}
use Rattle.mlir_ir.specs.declared.shape.Shape.{Shape}
use Rattle.mlir_ir.specs.declared.rules.Nest.{Nest}
use Rattle.mlir_ir.specs.declared.rules.Position.{Position}
use Rattle.mlir_ir.specs.declared.rules.Rules.{Rules}
use Rattle.mlir_ir.specs.declared.types.IrType.{IrType}
use Rattle.mlir_ir.specs.declared.types.Region.{Region', Row_of-Op, end_of-Op, more_of-Op}
use Rattle.mlir_ir.specs.declared.types.Kind.{Kind, Const, Bin, Cast, Cmp, Select, Call, If', For, While, None', Some'}
use Rattle.mlir_ir.specs.declared.types.ForParts.{ForParts'}
use Rattle.mlir_ir.specs.declared.types.WhileParts.{WhileParts'}
use Rattle.mlir_ir.specs.Labels.{row_labels, kind_labels}
use Rattle.mlir_ir.specs.Values.{Value, arg_values, result_values, row_values, kind_values}
use Rattle.mlir_ir.specs.Rules.{is_in_scope, arg_types, op_rules, yield_rules, turn_rules, condition_rules}
use Rattle.mlir_ir.specs.Limits.{region_limit, loop_limit}
use Rattle.mlir_ir.specs.Check.{breaks_at, past, past_args, past_region, past_row, opened, looped, kind_ops, row_results, args_breaks, row_breaks, kind_breaks, arm_breaks, else_breaks, for_breaks, while_breaks, before_breaks, turn_breaks}
use Rattle.mlir_ir.specs.Canonical.{Naming}
use Rattle.round_trip.specs.Sound.{Each, IsType, Finds, SoundRow, SoundKind}
use Rattle.round_trip.proofs.Tests.{and_parts}
use Rattle.round_trip.specs.Widths.{Named, WideRow, WideKind}
use Rattle.round_trip.proofs.SoundScopes.{none_append, none_at, each_append, each_parts, Found, Good, uses_find, args_good, results_good}
use Rattle.round_trip.proofs.SoundOperations.{Kept, op_kept, const_sound, bin_sound, cast_sound, cmp_sound, select_sound, call_sound}

test_less : (a b : ℕ) → nat_lt a b ≡ true → a < b
test_less a b h = grind (arith, nat_tests)

same_length : (a b : ℕ) → (a == b) ≡ true → b ≡ a
same_length a b h = grind (arith, nat_tests)

-- a region: its row, and what its terminator gives on
arm_sound : (naming : Naming) (scope : List Value) (at : Position) (k : ℕ) (n : _) (row : Row_of-Op n) (ends : List Label) (xs : List Shape) (last : ℕ) (r : Rules) → (xs ++ breaks_at last r) ≡ [] → Each (Good naming.values) scope
    → (r.in_scope ≡ true → list_all (is_in_scope (scope ++ row_results at.next row)) ends ≡ true) → (xs ≡ [] → SoundRow naming k row × Each (Good naming.values) (row_results at.next row)) → SoundRow naming k row × Each (Finds naming) ends
arm_sound naming scope at k n row ends xs last r h g c ih =
    let b = none_append xs (breaks_at last r) h in
    let s = ih b.0 in
    (s.0, uses_find naming (scope ++ row_results at.next row) ends (each_append (Good naming.values) scope (row_results at.next row) g s.1) (c (none_at last r b.1).0))

mutual
  unfolding row_breaks kind_breaks arm_breaks else_breaks for_breaks while_breaks before_breaks turn_breaks

  pub row_sound : (naming : Naming) (scope : List Value) (nest : Nest) (at : Position) (p : ℕ) → at.next ≡ p → (n : _) (row : Row_of-Op n) → Each (Good naming.values) scope → Each (Found naming.values) (row_values p row)
      → WideRow (Named naming.funcs) row → row_breaks scope nest at row ≡ [] → SoundRow naming nest.regions row × Each (Good naming.values) (row_results at.next row)
  row_sound naming scope nest at p e n end_of-Op g f w h = (tt, tt)
  row_sound naming scope nest at p e n (more_of-Op packs results kind rest) g f w h =
      let vs = naming.values in
      let q = at.next + kind_labels kind in
      let rv = result_values q packs results in
      let here = breaks_at at.last (op_rules scope nest at packs results kind) in
      let inside = kind_breaks scope nest (past 0 1 at) results kind in
      let at2 = past (kind_labels kind + length results) (1 + kind_ops kind) at in
      let p2 = p + kind_labels kind + length results in
      let c = none_append (here ++ inside) (row_breaks (scope ++ rv) nest at2 rest) h in
      let b = none_append here inside c.0 in
      let f1 = each_parts (Found vs) (kind_values p kind ++ result_values (p + kind_labels kind) packs results) (row_values p2 rest) f in
      let f2 = each_parts (Found vs) (kind_values p kind) (result_values (p + kind_labels kind) packs results) f1.0 in
      let o = op_kept scope nest at at.last packs results kind b.0 in
      let fr : Each (Found vs) rv = subst (λ (x : ℕ). Each (Found vs) (result_values x packs results)) (omega arith) f2.1 in
      let gr : Each (Good vs) rv = results_good vs q packs results o.1 w.0 fr in
      let k = kind_sound naming scope nest (past 0 1 at) p (omega arith) results kind o.0 g f2.0 w.0 w.1 b.1 in
      let s = row_sound naming (scope ++ rv) nest at2 p2 (omega arith) _ rest (each_append (Good vs) scope rv g gr) f1.1 w.2 c.1 in
      let gs : Each (Good vs) (row_results (q + length results) rest) = subst (λ (x : ℕ). Each (Good vs) (row_results x rest)) (omega arith) s.1 in
      ((o.1, k, s.0), each_append (Good vs) rv (row_results (q + length results) rest) gr gs)

  pub kind_sound : (naming : Naming) (scope : List Value) (nest : Nest) (at : Position) (p : ℕ) → at.next ≡ p → (results : List IrType) (kind : Kind) → Kept scope nest results kind → Each (Good naming.values) scope
      → Each (Found naming.values) (kind_values p kind) → Each IsType results → WideKind (Named naming.funcs) kind → kind_breaks scope nest at results kind ≡ [] → SoundKind naming nest.regions results kind
  kind_sound naming scope nest at p e results (Const v) k g f t w h = const_sound naming scope nest results v k g t
  kind_sound naming scope nest at p e results (Bin op flags a b) k g f t w h = bin_sound naming scope nest results op flags a b k g t
  kind_sound naming scope nest at p e results (Cast op flags a) k g f t w h = cast_sound naming scope nest results op flags a k g t
  kind_sound naming scope nest at p e results (Cmp pred a b) k g f t w h = cmp_sound naming scope nest results pred a b k g
  kind_sound naming scope nest at p e results (Select c a b) k g f t w h = select_sound naming scope nest results c a b k g t
  kind_sound naming scope nest at p e results (Call func uses) k g f t w h = call_sound naming scope nest results func uses k g t w
  kind_sound naming scope nest at p e results (If' c (Region' shape row ends) None') k g f t w h =
      let vs = naming.values in
      let u = uses_find naming scope (c ∷ []) g k.in_scope in
      let less = test_less nest.regions region_limit k.sized in
      let b = none_append (arm_breaks scope (opened nest) at results (Region' shape row ends)) [] h in
      let fs = each_parts (Found vs) (row_values p row) [] f in
      let s = arm_sound naming scope at (nest.regions + 1) _ row ends (row_breaks scope (opened nest) at row) (past_row row at).last (yield_rules (scope ++ row_results at.next row) results ends) b.0 g (λ x. x)
      (row_sound naming scope (opened nest) at p e _ row g fs.0 w.0) in
      (t, u.0, (less, s.0, s.1), tt)
  kind_sound naming scope nest at p e results (If' c (Region' shape row ends) (Some' (Region' shape2 row2 ends2))) k g f t w h =
      let vs = naming.values in
      let u = uses_find naming scope (c ∷ []) g k.in_scope in
      let less = test_less nest.regions region_limit k.sized in
      let at2 = past_region (Region' shape row ends) at in
      let p2 = p + row_labels row in
      let b = none_append (arm_breaks scope (opened nest) at results (Region' shape row ends)) (arm_breaks scope (opened nest) at2 results (Region' shape2 row2 ends2)) h in
      let fs = each_parts (Found vs) (row_values p row) (row_values p2 row2) f in
      let s = arm_sound naming scope at (nest.regions + 1) _ row ends (row_breaks scope (opened nest) at row) (past_row row at).last (yield_rules (scope ++ row_results at.next row) results ends) b.0 g (λ x. x)
      (row_sound naming scope (opened nest) at p e _ row g fs.0 w.0) in
      let s2 = arm_sound naming scope at2 (nest.regions + 1) _ row2 ends2 (row_breaks scope (opened nest) at2 row2) (past_row row2 at2).last (yield_rules (scope ++ row_results at2.next row2) results ends2) b.1 g (λ x. x)
      (row_sound naming scope (opened nest) at2 p2 (omega arith) _ row2 g fs.1 w.1) in
      (t, u.0, (less, s.0, s.1), (less, s2.0, s2.1))
  kind_sound naming scope nest at p e results (For (ForParts' lower upper step iv args inits (Region' shape row ends))) k g f t w h =
      let vs = naming.values in
      let u = uses_find naming scope (lower ∷ upper ∷ step ∷ inits) g k.in_scope in
      let z = and_parts (nat_lt nest.regions region_limit) (nat_lt nest.loops loop_limit) k.sized in
      let less = test_less nest.regions region_limit z.0 in
      let n1 = and_parts (length inits == length args && length args == length results) _ k.counted in
      let n2 = and_parts (length inits == length args) (length args == length results) n1.0 in
      let at1 = past 1 0 at in
      let at2 = past 1 0 at1 in
      let at3 = past_args args at2 in
      let p3 = p + 2 + length args in
      let iv_value = arg_values at1.next (iv ∷ []) in
      let arg_row = arg_values at2.next args in
      let with_iv = scope ++ iv_value in
      let with_args = with_iv ++ arg_row in
      let A = args_breaks false 0 [] scope at1 (iv ∷ []) in
      let B = args_breaks false 0 [] with_iv at2 args in
      let C = arm_breaks with_args (looped nest) at3 results (Region' shape row ends) in
      let b = none_append (A ++ B) C h in
      let a = none_append A B b.0 in
      let fs = each_parts (Found vs) (arg_values (p + 1) (iv ∷ args)) (row_values p3 row) f in
      let fi : Each (Found vs) iv_value = subst (λ (x : ℕ). Each (Found vs) (arg_values x (iv ∷ []))) (omega arith) (fs.0.0, tt) in
      let fa : Each (Found vs) arg_row = subst (λ (x : ℕ). Each (Found vs) (arg_values x args)) (omega arith) fs.0.1 in
      let gi = args_good vs 0 [] scope at1 at1.next refl (iv ∷ []) a.0 (w.0, tt) fi in
      let ga = args_good vs 0 [] with_iv at2 at2.next refl args a.1 w.1 fa in
      let g2 = each_append (Good vs) with_iv arg_row (each_append (Good vs) scope iv_value g gi.0) ga.0 in
      let s = arm_sound naming with_args at3 (nest.regions + 1) _ row ends (row_breaks with_args (looped nest) at3 row) (past_row row at3).last (yield_rules (with_args ++ row_results at3.next row) results ends) b.1 g2 (λ x. x)
      (row_sound naming with_args (looped nest) at3 p3 (omega arith) _ row g2 fs.1 w.2) in
      (u.0, u.1.0, u.1.1.0, gi.1.0, ga.1, same_length (length inits) (length args) n2.0, u.1.1.1, t, (less, s.0, s.1))
  kind_sound naming scope nest at p e results (While (WhileParts' args inits (Region' shape row passed) cond after_args (Region' shape2 row2 ends))) k g f t w h =
      let vs = naming.values in
      let u = uses_find naming scope inits g k.in_scope in
      let z = and_parts (nat_lt nest.regions region_limit) (nat_lt nest.loops loop_limit) k.sized in
      let less = test_less nest.regions region_limit z.0 in
      let n1 = and_parts (length inits == length args) (length after_args == length results) k.counted in
      let at1 = past 1 0 at in
      let at2 = past_args args at1 in
      let at3 = past_region (Region' shape row passed) at2 in
      let at4 = past_args after_args at3 in
      let p2 = p + 1 + length args in
      let p3 = p2 + row_labels row in
      let p4 = p3 + length after_args in
      let arg_row = arg_values at1.next args in
      let after_row = arg_values at3.next after_args in
      let in_before = scope ++ arg_row in
      let in_after = scope ++ after_row in
      let A = args_breaks false 0 [] scope at1 args in
      let B = before_breaks in_before (looped nest) at2 results cond (Region' shape row passed) in
      let C = args_breaks false 0 results scope at3 after_args in
      let D = turn_breaks in_after (looped nest) at4 (arg_types args) (Region' shape2 row2 ends) in
      let d = none_append (A ++ B ++ C) D h in
      let c = none_append (A ++ B) C d.0 in
      let b = none_append A B c.0 in
      let f1 = each_parts (Found vs) (arg_values (p + 1) args ++ row_values p2 row ++ arg_values p3 after_args) (row_values p4 row2) f in
      let f2 = each_parts (Found vs) (arg_values (p + 1) args ++ row_values p2 row) (arg_values p3 after_args) f1.0 in
      let f3 = each_parts (Found vs) (arg_values (p + 1) args) (row_values p2 row) f2.0 in
      let fa : Each (Found vs) arg_row = subst (λ (x : ℕ). Each (Found vs) (arg_values x args)) (omega arith) f3.0 in
      let fb : Each (Found vs) after_row = subst (λ (x : ℕ). Each (Found vs) (arg_values x after_args)) (omega arith) f2.1 in
      let ga = args_good vs 0 [] scope at1 at1.next refl args b.0 w.0 fa in
      let gb = args_good vs 0 results scope at3 at3.next refl after_args c.1 w.2 fb in
      let g1 = each_append (Good vs) scope arg_row g ga.0 in
      let g2 = each_append (Good vs) scope after_row g gb.0 in
      let s = arm_sound naming in_before at2 (nest.regions + 1) _ row (cond ∷ passed) (row_breaks in_before (looped nest) at2 row) (past_row row at2).last (condition_rules (in_before ++ row_results at2.next row) results cond passed) b.1 g1 (λ x. x)
      (row_sound naming in_before (looped nest) at2 p2 (omega arith) _ row g1 f3.1 w.1) in
      let s2 = arm_sound naming in_after at4 (nest.regions + 1) _ row2 ends (row_breaks in_after (looped nest) at4 row2) (past_row row2 at4).last (turn_rules (in_after ++ row_results at4.next row2) (arg_types args) ends) d.1 g2 (λ x. x)
      (row_sound naming in_after (looped nest) at4 p4 (omega arith) _ row2 g2 f1.1 w.3) in
      (ga.1, same_length (length inits) (length args) n1.0, u, t, (less, s.0, s.1.1), s.1.0, gb.1, (less, s2.0, s2.1))
