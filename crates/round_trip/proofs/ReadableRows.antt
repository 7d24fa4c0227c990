-- Operations that keep the rules are read back.
use Rattle.std.proofs.Common.{◌≡◌, ℕ, ◌+◌, ◌==◌, ◌&&◌, ◌||◌, not, nat_lt, suc, Bool, true, false, Option, List, [], ◌∷◌, ◌++◌, length, refl, ap, ◌∙◌, sym, subst, arith, map, append_assoc}
use Rattle.std.specs.List.{list_all}
use Rattle.mlir_ir.specs.declared.rules.Nest.{Nest}
use Rattle.mlir_ir.specs.declared.rules.Position.{Position}
use Rattle.arith_word.specs.declared.label.Label.{Label}
use Rattle.mlir_ir.specs.declared.types.Arg.{Arg}
use Rattle.mlir_ir.specs.declared.types.IrType.{IrType}
use Rattle.mlir_ir.specs.declared.types.Region.{Region', Row_of-Op, end_of-Op, more_of-Op}
use Rattle.mlir_ir.specs.declared.types.Kind.{Kind, Const, Bin, Cast, Cmp, Select, Call, If', For, While, None', Some'}
use Rattle.mlir_ir.specs.declared.types.ForParts.{ForParts'}
use Rattle.mlir_ir.specs.declared.types.WhileParts.{WhileParts'}
use Rattle.mlir_ir.specs.Labels.{row_labels, kind_labels}
use Rattle.mlir_ir.specs.Values.{Value, arg_values, result_values, row_values, kind_values}
use Rattle.mlir_ir.specs.Rules.{arg_types, arg_rules, op_rules, yield_rules, turn_rules, condition_rules, same_type, same_types, truth, has_type, have_types, agree, gives_type_of, gives_cast, may_wrap, may_lose, has_flags, is_in_scope, is_free}
use Rattle.mlir_ir.specs.Check.{breaks_at, past, past_args, past_region, past_row, opened, looped, kind_ops, row_results, args_breaks, row_breaks, kind_breaks, arm_breaks, else_breaks, for_breaks, while_breaks, before_breaks, turn_breaks}
use Rattle.mlir_ir.specs.Calls.{row_calls, kind_calls}
use Rattle.round_trip.specs.Readable.{Reading, ReadsLabels, ReadableRow, ReadableKind}
use Rattle.round_trip.specs.Sound.{Each, SoundRow, SoundKind}
use Rattle.round_trip.proofs.Tests.{and_parts}
use Rattle.round_trip.proofs.SoundScopes.{none_append, none_at, each_parts, Found}
use Rattle.round_trip.proofs.SoundOperations.{Kept, op_kept}
use Rattle.round_trip.proofs.HeldScopes.{Held, args_held, labels_read, moved_value}
use Rattle.round_trip.proofs.HeldResults.{results_held, packs_reads, Shifts, shifts_part, args_moved}
use Rattle.round_trip.proofs.ReadItems.{append_nil}
use Rattle.round_trip.proofs.ReadableParts.{Keeps, op_free, literal_of, args_typed, map_both, results_moved, RowKept, arm_kept}
use Rattle.round_trip.proofs.TypeTests.{same_type_is, same_types_are, equal_lengths, types_length}
use Rattle.round_trip.proofs.KnownTypes.{type_known, types_known, agree_known, compare_known, cast_known, yield_long, no_results}
use Rattle.round_trip.proofs.FreeNames.{names_moved, same_more, free_args, free_packs}

truth_of : (results : List IrType) → (length results == 1) ≡ true → same_types (truth ∷ []) results ≡ true → results ≡ truth ∷ []
truth_of results n h = sym (same_types_are (truth ∷ []) results (sym (equal_lengths (length results) 1 n)) h)

-- tests of the parts of a list

one_in_scope : (scope : List Value) (a : Label) → is_in_scope scope a ≡ true → list_all (is_in_scope scope) (a ∷ []) ≡ true
one_in_scope scope a e = rw e refl

three_parts : (test : Label → Bool) (a b c : Label) → list_all test (a ∷ b ∷ c ∷ []) ≡ true → (test a ≡ true) × (test b ≡ true) × (test c ≡ true)
three_parts test a b c h =
    let p = and_parts (test a) (list_all test (b ∷ c ∷ [])) h in
    let q = and_parts (test b) (list_all test (c ∷ [])) p.1 in
    let s = and_parts (test c) true q.1 in
    (p.0, q.0, s.0)

four_parts : (test : Label → Bool) (a b c : Label) (ls : List Label) → list_all test (a ∷ b ∷ c ∷ ls) ≡ true → (test a ≡ true) × (test b ≡ true) × (test c ≡ true) × (list_all test ls ≡ true)
four_parts test a b c ls h =
    let p = and_parts (test a) (list_all test (b ∷ c ∷ ls)) h in
    let q = and_parts (test b) (list_all test (c ∷ ls)) p.1 in
    let s = and_parts (test c) (list_all test ls) q.1 in
    (p.0, q.0, s.0, s.1)

in_scopes : (scope : List Value) (a b : Label) (ls : List Label) → list_all (is_in_scope scope) (a ∷ b ∷ ls) ≡ true → (is_in_scope scope a ≡ true) × (is_in_scope scope b ≡ true)
in_scopes scope a b ls h =
    let p = and_parts (is_in_scope scope a) (list_all (is_in_scope scope) (b ∷ ls)) h in
    let q = and_parts (is_in_scope scope b) (list_all (is_in_scope scope) ls) p.1 in
    (p.0, q.0)

turned : (c a b : Bool) → (c || a && b) ≡ true → (c || b && a) ≡ true
turned true a b h = refl
turned false true true h = refl
turned false true false h = cc
turned false false b h = cc

and_all : (c a : Bool) → (c || a) ≡ true → (c || a && true) ≡ true
and_all true a h = refl
and_all false true h = refl
and_all false false h = cc

-- arguments that have to have these types
wanted_types : (n : ℕ) (wanted : List IrType) (scope : List Value) (at : Position) (args : List Arg) → args_breaks false n wanted scope at args ≡ [] → length args ≡ length wanted → arg_types args ≡ wanted
wanted_types n [] scope at [] h e = refl
wanted_types n (ty ∷ tys) scope at [] h e = absurd (omega arith)
wanted_types n [] scope at (arg ∷ args) h e = absurd (omega arith)
wanted_types n (ty ∷ tys) scope at (arg ∷ args) h e =
    let b = none_append (breaks_at at.last (arg_rules false n (ty ∷ tys) scope arg)) (args_breaks false (n + 1) tys (scope ++ arg_values at.next (arg ∷ [])) (past 1 0 at) args) h in
    let t = and_parts ((is_free scope arg.name) || false) (same_type arg.ty ty && true) (none_at at.last (arg_rules false n (ty ∷ tys) scope arg) b.0).1 in
    let s = and_parts (same_type arg.ty ty) true t.1 in
    λ i. same_type_is arg.ty ty s.0 i ∷ wanted_types (n + 1) tys (scope ++ arg_values at.next (arg ∷ [])) (past 1 0 at) args b.1 (omega (arith, e)) i

pub scope_moved : (other : ℕ → ℕ) (scope xs ys : List Value) → map (moved_value other) xs ≡ ys → map (moved_value other) (scope ++ xs) ≡ map (moved_value other) scope ++ ys
scope_moved other scope xs ys e = map_both (moved_value other) scope xs ∙ ap (λ (l : List Value). map (moved_value other) scope ++ l) e

mutual
  unfolding row_breaks kind_breaks arm_breaks else_breaks for_breaks while_breaks before_breaks turn_breaks

  pub row_kept : (r : Reading) (scope : List Value) (nest : Nest) (at : Position) (p to m : ℕ) → at.next ≡ p → (n : _) (row : Row_of-Op n) → SoundRow r.naming m row → Shifts r.other p to (row_labels row)
      → Each (Held r.naming.values scope) scope → Each (Found r.naming.values) (row_values p row) → Each (Keeps r) (row_calls row) → row_breaks scope nest at row ≡ [] → RowKept r scope p to row
  row_kept r scope nest at p to m e n end_of-Op s sh g f c h =
      let none : scope ≡ scope ++ [] = sym (append_nil scope) in
      record { reads = tt; held = subst (λ (xs : List Value). Each (Held r.naming.values xs) xs) none g; moved = refl }
  row_kept r scope nest at p to m e n (more_of-Op packs results kind rest) s sh g f c h =
      let vs = r.naming.values in
      let mv = moved_value r.other in
      let kl = kind_labels kind in
      let rv = result_values (p + kl) packs results in
      let here = breaks_at at.last (op_rules scope nest at packs results kind) in
      let inside = kind_breaks scope nest (past 0 1 at) results kind in
      let at2 = past (kl + length results) (1 + kind_ops kind) at in
      let p2 = p + kl + length results in
      let to2 = to + (kl + length results) in
      let d = none_append (here ++ inside) (row_breaks (scope ++ result_values (at.next + kl) packs results) nest at2 rest) h in
      let b = none_append here inside d.0 in
      let f1 = each_parts (Found vs) (kind_values p kind ++ rv) (row_values p2 rest) f in
      let f2 = each_parts (Found vs) (kind_values p kind) rv f1.0 in
      let cs = each_parts (Keeps r) (kind_calls results kind) (row_calls rest) c in
      let o = op_kept scope nest at at.last packs results kind b.0 in
      let q = op_free scope nest at at.last packs results kind b.0 in
      let kinds : Shifts r.other p to kl = λ j less. sh j (omega (arith, less)) in
      let here_moves : Shifts r.other (p + kl) (to + kl) (length results) = shifts_part r.other p to (kl + length results + row_labels rest) kl (length results) (omega arith) sh in
      let past_it : p + (kl + length results) ≡ p2 = omega arith in
      let rest_moves : Shifts r.other p2 to2 (row_labels rest) = subst (λ (x : ℕ). Shifts r.other x to2 (row_labels rest)) past_it (shifts_part r.other p to (kl + length results + row_labels rest) (kl + length results) (row_labels rest) (omega arith) sh) in
      let k = kind_kept r scope nest (past 0 1 at) p to m (omega (arith, e)) results kind s.1 kinds o.0 g f2.0 cs.0 b.1 in
      let g2 = results_held vs scope (p + kl) packs results q.0 q.1 q.2 f2.1 g in
      let h2 : row_breaks (scope ++ rv) nest at2 rest ≡ [] = subst (λ (x : ℕ). row_breaks (scope ++ result_values (x + kl) packs results) nest at2 rest ≡ []) e d.1 in
      let more = row_kept r (scope ++ rv) nest at2 p2 to2 m (omega (arith, e)) _ rest s.2 rest_moves g2 f1.1 cs.1 h2 in
      let rv_moves = results_moved r.other (p + kl) (to + kl) packs results q.1 here_moves in
      let reads = subst (λ (xs : List Value). ReadableRow r xs to2 rest) (scope_moved r.other scope rv (result_values (to + kl) packs results) rv_moves) more.reads in
      let ends : to2 ≡ to + kl + length results = omega arith in
      record {
        reads = (packs_reads packs (length results) q.1 q.2, k, reads, (free_packs (map mv scope) scope packs (names_moved r.other scope) ∙ q.0, q.1));
        held = subst (λ (xs : List Value). Each (Held vs xs) xs) (append_assoc scope rv (row_results p2 rest)) more.held;
        moved = map_both mv rv (row_results p2 rest) ∙ (λ t. rv_moves t ++ more.moved t) ∙ ap (λ (x : ℕ). result_values (to + kl) packs results ++ row_results x rest) ends;
      }

  pub kind_kept : (r : Reading) (scope : List Value) (nest : Nest) (at : Position) (p to m : ℕ) → at.next ≡ p → (results : List IrType) (kind : Kind) → SoundKind r.naming m results kind → Shifts r.other p to (kind_labels kind)
      → Kept scope nest results kind → Each (Held r.naming.values scope) scope → Each (Found r.naming.values) (kind_values p kind) → Each (Keeps r) (kind_calls results kind) → kind_breaks scope nest at results kind ≡ []
      → ReadableKind r (map (moved_value r.other) scope) to results kind
  kind_kept r scope nest at p to m e results (Const v) s sh k g f c h = literal_of v results s.0 k.typed
  kind_kept r scope nest at p to m e results (Bin op flags a b) s sh k g f c h =
      let u = labels_read r scope (a ∷ b ∷ []) g k.in_scope in
      let t = and_parts ((may_wrap op || not (has_flags flags)) && agree scope a b) (gives_type_of scope a results) k.typed in
      let t2 = and_parts (may_wrap op || not (has_flags flags)) (agree scope a b) t.0 in
      let i = in_scopes scope a b [] k.in_scope in
      let first = types_known r scope g results (a ∷ []) (one_in_scope scope a i.0) t.1 (sym (equal_lengths (length results) 1 k.counted)) in
      (s.0, s.3, u.0, u.1.0, first, sym (ap (λ (o : Option IrType). o ∷ []) (agree_known r scope g a b i.0 i.1 t2.1)) ∙ first)
  kind_kept r scope nest at p to m e results (Cast op flags a) s sh k g f c h =
      let u = labels_read r scope (a ∷ []) g k.in_scope in
      let t = and_parts (may_lose op || not (has_flags flags)) (gives_cast scope op a results) k.typed in
      let i = and_parts (is_in_scope scope a) true k.in_scope in
      (s.0, s.2, u.0, cast_known r scope g op results a i.0 t.1 (equal_lengths (length results) 1 k.counted) s.1)
  kind_kept r scope nest at p to m e results (Cmp pred a b) s sh k g f c h =
      let u = labels_read r scope (a ∷ b ∷ []) g k.in_scope in
      let t = and_parts (agree scope a b) (same_types (truth ∷ []) results) k.typed in
      let i = in_scopes scope a b [] k.in_scope in
      (truth_of results k.counted t.1, u.0, u.1.0, compare_known r scope g a b i.0 i.1 t.0 s.0)
  kind_kept r scope nest at p to m e results (Select x a b) s sh k g f c h =
      let u = labels_read r scope (x ∷ a ∷ b ∷ []) g k.in_scope in
      let t = and_parts (has_type scope truth x && agree scope a b) (gives_type_of scope a results) k.typed in
      let t2 = and_parts (has_type scope truth x) (agree scope a b) t.0 in
      let c = and_parts (is_in_scope scope x) (list_all (is_in_scope scope) (a ∷ b ∷ [])) k.in_scope in
      let i = in_scopes scope a b [] c.1 in
      let first = types_known r scope g results (a ∷ []) (one_in_scope scope a i.0) t.1 (sym (equal_lengths (length results) 1 k.counted)) in
      (s.0, u.0, u.1.0, u.1.1.0, type_known r scope g truth x c.0 t2.0, first, sym (ap (λ (o : Option IrType). o ∷ []) (agree_known r scope g a b i.0 i.1 t2.1)) ∙ first)
  kind_kept r scope nest at p to m e results (Call func uses) s sh k g f c h = (s.0, labels_read r scope uses g k.in_scope, c.0)
  kind_kept r scope nest at p to m e results (If' x (Region' shape row ends) None') s sh k g f c h =
      let u = labels_read r scope (x ∷ []) g k.in_scope in
      let b = none_append (arm_breaks scope (opened nest) at results (Region' shape row ends)) [] h in
      let fs = each_parts (Found r.naming.values) (row_values p row) [] f in
      let cs = each_parts (Keeps r) (row_calls row) [] c in
      let rows : Shifts r.other p to (row_labels row) = λ j less. sh j (omega (arith, less)) in
      let i = and_parts (is_in_scope scope x) true k.in_scope in
      let a = arm_kept r scope at p to e _ row ends results (row_breaks scope (opened nest) at row) (past_row row at).last (yield_rules (scope ++ row_results at.next row) results ends) b.0 (λ y. y) (λ y. y)
      (yield_long (length ends) (length results) false k.counted) (row_kept r scope (opened nest) at p to (m + 1) e _ row s.2.1 rows g fs.0 cs.0) in
      (u.0, s.0, a.0, a.1, tt, type_known r scope g truth x i.0 k.typed, a.2, no_results results (nat_lt 0 (length ends)) k.counted)
  kind_kept r scope nest at p to m e results (If' x (Region' shape row ends) (Some' (Region' shape2 row2 ends2))) s sh k g f c h =
      let u = labels_read r scope (x ∷ []) g k.in_scope in
      let at2 = past_region (Region' shape row ends) at in
      let p2 = p + row_labels row in
      let to2 = to + row_labels row in
      let b = none_append (arm_breaks scope (opened nest) at results (Region' shape row ends)) (arm_breaks scope (opened nest) at2 results (Region' shape2 row2 ends2)) h in
      let fs = each_parts (Found r.naming.values) (row_values p row) (row_values p2 row2) f in
      let cs = each_parts (Keeps r) (row_calls row) (row_calls row2) c in
      let rows : Shifts r.other p to (row_labels row) = λ j less. sh j (omega (arith, less)) in
      let rows2 : Shifts r.other p2 to2 (row_labels row2) = shifts_part r.other p to (row_labels row + row_labels row2) (row_labels row) (row_labels row2) (omega arith) sh in
      let i = and_parts (is_in_scope scope x) true k.in_scope in
      let a = arm_kept r scope at p to e _ row ends results (row_breaks scope (opened nest) at row) (past_row row at).last (yield_rules (scope ++ row_results at.next row) results ends) b.0 (λ y. y) (λ y. y)
      (yield_long (length ends) (length results) (nat_lt 0 (length ends2)) k.counted) (row_kept r scope (opened nest) at p to (m + 1) e _ row s.2.1 rows g fs.0 cs.0) in
      let a2 = arm_kept r scope at2 p2 to2 (omega (arith, e)) _ row2 ends2 results (row_breaks scope (opened nest) at2 row2) (past_row row2 at2).last (yield_rules (scope ++ row_results at2.next row2) results ends2) b.1 (λ y. y) (λ y. y)
      (yield_long (length ends2) (length results) (nat_lt 0 (length ends)) (turned (length results == 0) (nat_lt 0 (length ends)) (nat_lt 0 (length ends2)) k.counted)) (row_kept r scope (opened nest) at2 p2 to2 (m + 1) (omega (arith, e)) _ row2 s.3.1 rows2 g fs.1 cs.1) in
      (u.0, s.0, a.0, a.1, (a2.0, a2.1), type_known r scope g truth x i.0 k.typed, a.2, a2.2)
  kind_kept r scope nest at p to m e results (For (ForParts' lower upper step iv args inits (Region' shape row ends))) s sh k g f c h =
      let vs = r.naming.values in
      let mv = moved_value r.other in
      let u = labels_read r scope (lower ∷ upper ∷ step ∷ inits) g k.in_scope in
      let n1 = and_parts (length inits == length args && length args == length results) (length results == 0 || nat_lt 0 (length ends)) k.counted in
      let n2 = and_parts (length inits == length args) (length args == length results) n1.0 in
      let t = and_parts (list_all (has_type scope iv.ty) (lower ∷ upper ∷ step ∷ []) && have_types scope (arg_types args) inits) (same_types (arg_types args) results) k.typed in
      let same : arg_types args ≡ results = same_types_are (arg_types args) results (types_length args ∙ equal_lengths (length args) (length results) n2.1) t.1 in
      let at1 = past 1 0 at in
      let at2 = past 1 0 at1 in
      let at3 = past_args args at2 in
      let p3 = p + 2 + length args in
      let to3 = to + 2 + length args in
      let A = args_breaks false 0 [] scope at1 (iv ∷ []) in
      let B = args_breaks false 0 [] (scope ++ arg_values at1.next (iv ∷ [])) at2 args in
      let C = arm_breaks (scope ++ arg_values at1.next (iv ∷ []) ++ arg_values at2.next args) (looped nest) at3 results (Region' shape row ends) in
      let b = none_append (A ++ B) C h in
      let a = none_append A B b.0 in
      let one : at1.next ≡ p + 1 = omega (arith, e) in
      let two : at2.next ≡ p + 1 + 1 = omega (arith, e) in
      let fs = each_parts (Found vs) (arg_values (p + 1) (iv ∷ args)) (row_values p3 row) f in
      let iv_row = arg_values (p + 1) (iv ∷ []) in
      let arg_row = arg_values (p + 1 + 1) args in
      let all_row = arg_values (p + 1) (iv ∷ args) in
      let g1 = args_held vs 0 [] scope at1 (p + 1) one (iv ∷ []) a.0 (fs.0.0, tt) g in
      let B2 : args_breaks false 0 [] (scope ++ iv_row) at2 args ≡ [] = subst (λ (x : ℕ). args_breaks false 0 [] (scope ++ arg_values x (iv ∷ [])) at2 args ≡ []) one a.1 in
      let g2 = args_held vs 0 [] (scope ++ iv_row) at2 (p + 1 + 1) two args B2 fs.0.1 g1 in
      let joins : (scope ++ iv_row) ++ arg_row ≡ scope ++ all_row = append_assoc scope iv_row arg_row in
      let g3 = subst (λ (xs : List Value). Each (Held vs xs) xs) joins g2 in
      let C1 = subst (λ (x : ℕ). arm_breaks (scope ++ arg_values x (iv ∷ []) ++ arg_values at2.next args) (looped nest) at3 results (Region' shape row ends) ≡ []) one b.1 in
      let C2 = subst (λ (x : ℕ). arm_breaks (scope ++ iv_row ++ arg_values x args) (looped nest) at3 results (Region' shape row ends) ≡ []) two C1 in
      let C3 = subst (λ (xs : List Value). arm_breaks xs (looped nest) at3 results (Region' shape row ends) ≡ []) joins C2 in
      let heads : Shifts r.other (p + 1) (to + 1) (length (iv ∷ args)) = shifts_part r.other p to (2 + length args + row_labels row) 1 (length (iv ∷ args)) (omega arith) sh in
      let from : p + (2 + length args) ≡ p3 = omega arith in
      let onto : to + (2 + length args) ≡ to3 = omega arith in
      let rows : Shifts r.other p3 to3 (row_labels row) = subst (λ (y : ℕ). Shifts r.other p3 y (row_labels row)) onto (subst (λ (x : ℕ). Shifts r.other x (to + (2 + length args)) (row_labels row)) from (shifts_part r.other p to (2 + length args + row_labels row) (2 + length args) (row_labels row) (omega arith) sh)) in
      let bounds = and_parts (list_all (has_type scope iv.ty) (lower ∷ upper ∷ step ∷ [])) (have_types scope (arg_types args) inits) t.0 in
      let known = four_parts (is_in_scope scope) lower upper step inits k.in_scope in
      let fit = three_parts (has_type scope iv.ty) lower upper step bounds.0 in
      let firsts = types_known r scope g (arg_types args) inits known.3 bounds.1 (equal_lengths (length inits) (length args) n2.0 ∙ sym (types_length args)) in
      let free = free_args 0 [] scope at1 (iv ∷ []) a.0 (map mv scope) (names_moved r.other scope) in
      let frees = free_args 0 [] (scope ++ iv_row) at2 args B2 (map mv scope ++ arg_values 0 (iv ∷ [])) (same_more (map mv scope) scope (arg_values 0 (iv ∷ [])) iv_row (names_moved r.other scope) (λ name. refl)) in
      let a3 = arm_kept r (scope ++ all_row) at3 p3 to3 (omega (arith, e)) _ row ends results (row_breaks (scope ++ all_row) (looped nest) at3 row) (past_row row at3).last (yield_rules (scope ++ all_row ++ row_results at3.next row) results ends) C3 (λ y. y) (λ y. y)
      (yield_long (length ends) (length results) true (and_all (length results == 0) (nat_lt 0 (length ends)) n1.1)) (row_kept r (scope ++ all_row) (looped nest) at3 p3 to3 (m + 1) (omega (arith, e)) _ row s.8.1 rows g3 fs.1 c) in
      let moves = scope_moved r.other scope all_row (arg_values (to + 1) (iv ∷ args)) (args_moved r.other (p + 1) (to + 1) (iv ∷ args) heads) in (
        (u.0, (u.1.0, (u.1.1.0, tt))),
        (s.3.1, args_typed args s.4),
        same,
        s.5,
        u.1.1.1,
        subst (λ (xs : List Value). ReadableRow r xs to3 row) moves a3.0,
        subst (λ (xs : List Value). ReadsLabels r (xs ++ row_results to3 row) ends) moves a3.1,
        (type_known r scope g iv.ty lower known.0 fit.0, (type_known r scope g iv.ty upper known.1 fit.1, (type_known r scope g iv.ty step known.2 fit.2, tt))),
        firsts,
        a3.2,
        (free.0, frees),
      )
  kind_kept r scope nest at p to m e results (While (WhileParts' args inits (Region' shape row passed) cond after_args (Region' shape2 row2 ends))) s sh k g f c h =
      let vs = r.naming.values in
      let u = labels_read r scope inits g k.in_scope in
      let at1 = past 1 0 at in
      let at2 = past_args args at1 in
      let at3 = past_region (Region' shape row passed) at2 in
      let at4 = past_args after_args at3 in
      let p2 = p + 1 + length args in
      let p3 = p2 + row_labels row in
      let p4 = p3 + length after_args in
      let to2 = to + 1 + length args in
      let to3 = to2 + row_labels row in
      let to4 = to3 + length after_args in
      let all = 1 + length args + row_labels row + length after_args + row_labels row2 in
      let one : at1.next ≡ p + 1 = omega (arith, e) in
      let three : at3.next ≡ p3 = omega (arith, e) in
      let arg_row = arg_values (p + 1) args in
      let after_row = arg_values p3 after_args in
      let A = args_breaks false 0 [] scope at1 args in
      let B = before_breaks (scope ++ arg_values at1.next args) (looped nest) at2 results cond (Region' shape row passed) in
      let C = args_breaks false 0 results scope at3 after_args in
      let D = turn_breaks (scope ++ arg_values at3.next after_args) (looped nest) at4 (arg_types args) (Region' shape2 row2 ends) in
      let d = none_append (A ++ B ++ C) D h in
      let q = none_append (A ++ B) C d.0 in
      let b = none_append A B q.0 in
      let f1 = each_parts (Found vs) (arg_values (p + 1) args ++ row_values p2 row ++ arg_values p3 after_args) (row_values p4 row2) f in
      let f2 = each_parts (Found vs) (arg_values (p + 1) args ++ row_values p2 row) (arg_values p3 after_args) f1.0 in
      let f3 = each_parts (Found vs) (arg_values (p + 1) args) (row_values p2 row) f2.0 in
      let cs = each_parts (Keeps r) (row_calls row) (row_calls row2) c in
      let g1 = args_held vs 0 [] scope at1 (p + 1) one args b.0 f3.0 g in
      let g2 = args_held vs 0 results scope at3 p3 three after_args q.1 f2.1 g in
      let B1 = subst (λ (x : ℕ). before_breaks (scope ++ arg_values x args) (looped nest) at2 results cond (Region' shape row passed) ≡ []) one b.1 in
      let D1 = subst (λ (x : ℕ). turn_breaks (scope ++ arg_values x after_args) (looped nest) at4 (arg_types args) (Region' shape2 row2 ends) ≡ []) three d.1 in
      let heads : Shifts r.other (p + 1) (to + 1) (length args) = shifts_part r.other p to all 1 (length args) (omega arith) sh in
      let rows : Shifts r.other p2 to2 (row_labels row) = λ j less. (let first : p2 + j ≡ p + (1 + length args + j) = omega arith in let last : to + (1 + length args + j) ≡ to2 + j = omega arith in ap r.other first ∙ sh (1 + length args + j) (omega (arith, less)) ∙ last) in
      let after_heads : Shifts r.other p3 to3 (length after_args) = λ j less. (let first : p3 + j ≡ p + (1 + length args + row_labels row + j) = omega arith in let last : to + (1 + length args + row_labels row + j) ≡ to3 + j = omega arith in ap r.other first ∙ sh (1 + length args + row_labels row + j) (omega (arith, less)) ∙ last) in
      let rows2 : Shifts r.other p4 to4 (row_labels row2) = λ j less. (let first : p4 + j ≡ p + (1 + length args + row_labels row + length after_args + j) = omega arith in let last : to + (1 + length args + row_labels row + length after_args + j) ≡ to4 + j = omega arith in ap r.other first ∙ sh (1 + length args + row_labels row + length after_args + j) (omega (arith, less)) ∙ last) in
      let n1 = and_parts (length inits == length args) (length after_args == length results) k.counted in
      let firsts = types_known r scope g (arg_types args) inits k.in_scope k.typed (equal_lengths (length inits) (length args) n1.0 ∙ sym (types_length args)) in
      let wanted = wanted_types 0 results scope at3 after_args q.1 (equal_lengths (length after_args) (length results) n1.1) in
      let a1 = arm_kept r (scope ++ arg_row) at2 p2 to2 (omega (arith, e)) _ row (cond ∷ passed) (truth ∷ results) (row_breaks (scope ++ arg_row) (looped nest) at2 row) (past_row row at2).last (condition_rules (scope ++ arg_row ++ row_results at2.next row) results cond passed) B1 (λ y. y) (λ y. y)
      (λ y. ap suc (equal_lengths (length passed) (length results) y)) (row_kept r (scope ++ arg_row) (looped nest) at2 p2 to2 (m + 1) (omega (arith, e)) _ row s.4.1 rows g1 f3.1 cs.0) in
      let a2 = arm_kept r (scope ++ after_row) at4 p4 to4 (omega (arith, e)) _ row2 ends (arg_types args) (row_breaks (scope ++ after_row) (looped nest) at4 row2) (past_row row2 at4).last (turn_rules (scope ++ after_row ++ row_results at4.next row2) (arg_types args) ends) D1 (λ y. y) (λ y. y)
      (equal_lengths (length ends) (length (arg_types args))) (row_kept r (scope ++ after_row) (looped nest) at4 p4 to4 (m + 1) (omega (arith, e)) _ row2 s.7.1 rows2 g2 f1.1 cs.1) in
      let moves = scope_moved r.other scope arg_row (arg_values (to + 1) args) (args_moved r.other (p + 1) (to + 1) args heads) in
      let moves2 = scope_moved r.other scope after_row (arg_values to3 after_args) (args_moved r.other p3 to3 after_args after_heads) in (
        args_typed args s.0,
        args_typed after_args s.6,
        s.3,
        s.1,
        u,
        subst (λ (xs : List Value). ReadableRow r xs to2 row) moves a1.0,
        subst (λ (xs : List Value). ReadsLabels r (xs ++ row_results to2 row) (cond ∷ passed)) moves a1.1,
        subst (λ (xs : List Value). ReadableRow r xs to4 row2) moves2 a2.0,
        subst (λ (xs : List Value). ReadsLabels r (xs ++ row_results to4 row2) ends) moves2 a2.1,
        firsts,
        a1.2,
        a2.2,
        wanted,
        free_args 0 [] scope at1 args b.0 (map (moved_value r.other) scope) (names_moved r.other scope),
        free_args 0 results scope at3 after_args q.1 (map (moved_value r.other) scope) (names_moved r.other scope),
      )
