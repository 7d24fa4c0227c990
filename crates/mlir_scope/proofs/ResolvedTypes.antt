-- Blocks without breaks stand for well-typed operations.
use Rattle.std.proofs.Common.{◌≡◌, ℕ, suc, ◌+◌, ◌-◌, ◌<◌, ◌==◌, ◌&&◌, ◌||◌, ◌^◌, ◌%◌, not, nat_lt, Bool, true, false, List, [], ◌∷◌, ◌++◌, codes, length, map, take, drop, refl, ap, ◌∙◌, sym, subst, arith, append_assoc, eq-eqb, inl, inr, Some, if◌then◌else◌}
use Rattle.std.proofs.lemmas.Bool.{cases_Bool}
use Rattle.std.proofs.lemmas.Bool.Decides.{nat_tests}
use Rattle.std.proofs.lemmas.Grind.{flat_map-append}
use Rattle.std.proofs.Math.Nat.{mod-lt}
use Rattle.std.proofs.lemmas.List.{length-map}
use Rattle.std.proofs.lemmas.Nat.{pow_pos}
use Rattle.std.specs.List.{flat_map}
use Rattle.std.specs.Prelude.{slice_index_or}
use Rattle.std.specs.Str.{bytes_eq}
use Rattle.arith_word.specs.declared.label.Label.{Label}
use Rattle.mlir_ir.specs.Operations as plain
use Rattle.mlir_ir.specs.Operations.{OpKind, OpList, labels_of, inner_labels}
use Rattle.mlir_ir.specs.GrammarNumbers.{same}
use Rattle.mlir_ir.specs.Phrases as phrases
use Rattle.mlir_ir.specs.Phrases.{Phrase, Line, spots, first_spot, has, inside, behind}
use Rattle.mlir_ir.specs.Resolved.{label, labels, tys, packs_of, args_of, carried, inits_used, variable_type, nth_use, magnitude, literal, bin_named, cast_named, pred_named, flags_of, values_of, kind_of, ops_of, simple_kind}
use Rattle.mlir_ir.specs.Rules.{casts, same_types, truth, may_wrap, may_lose, has_flags, packs_hold, arg_types}
use Rattle.mlir_ir.specs.ScopeFaults.{broken, differs, use_breaks, uses_breaks, type_breaks, same_written, cast_breaks, simple_breaks, ending_breaks, region_ending, condition_breaks, operands, total, kind_breaks, block_breaks, defined_by, is_index, takes_index}
use Rattle.mlir_ir.specs.Source.{Block, none, op, Defined, Packed, Use, Written, Ending, uses_in, types_in, listed_uses, listed_types, result_types, inits_of, after_params, ending, head, word, region_parts, else_parts, before_parts, after_parts, op_types}
use Rattle.mlir_ir.specs.Typed.{Types, all_fit, with_types, types_after, TypedOp, TypedEnd, TypedOps, TypedRegions, yields, passes}
use Rattle.mlir_ir.specs.Values.{Value, arg_values, result_values}
use Rattle.mlir_ir.specs.Words.{bits_of}
use Rattle.mlir_ir.specs.declared.scope_kind.ScopeKind.TheVariants.{Arity, WrongType}
use Rattle.mlir_ir.specs.declared.syntax.Form.TheVariants as forms
use Rattle.mlir_ir.specs.declared.terminal.Terminal.{Terminal}
use Rattle.mlir_ir.specs.declared.terminal.Terminal.TheVariants as terminals
use Rattle.mlir_ir.specs.declared.types.Arg.{Arg}
use Rattle.mlir_ir.specs.declared.types.IrType.{IrType}
use Rattle.mlir_ir.specs.declared.types.Pack.{Pack}
use Rattle.mlir_scope.proofs.NamedSyntaxes.{packs_held}
use Rattle.mlir_scope.proofs.NoBreaks.{Each, each_append, none_append, not_broken}
use Rattle.mlir_scope.proofs.OpParts.{result_tys, PacksKept, op_kept, EndKept, end_kept, list_kept, CarriedKept, ParamsKept, if_kept, for_kept, while_kept, variable}
use Rattle.mlir_scope.proofs.ResolvedCalls.{written_same, tys_length}
use Rattle.mlir_scope.proofs.ScopeUses.{Alike, Seen, alike_append, args_alike, results_alike, uses_typed, uses_alike}
use Rattle.mlir_scope.proofs.Shapes.{EndsWithYield, Counts, KindShape, ShapedBlock}
use Rattle.mlir_scope.proofs.Tests.{both, eq_of, not_false, or_false, or_right}
use Rattle.mlir_scope.proofs.TypesGrow.{Below, below_more, below_with, seen_more, results_seen, args_seen, two_types}
use Rattle.mlir_scope.proofs.UseTypes.{same_self, same_types_self, Exact, fitting, exact_known, exact_fit, exact_length, nth_has, end_typed, end_passes, end_yields, const_op, bin_op, cast_op, cmp_op, select_op, call_op}

-- lists of one or two

one_of : (ws : List Written) → length ws ≡ 1 → (w : Written) × (ws ≡ w ∷ [])
one_of [] h = absurd (omega arith)
one_of (w ∷ []) h = (w, refl)
one_of (w ∷ x ∷ ws) h = absurd (omega arith)

two_of : (ws : List Written) → length ws ≡ 2 → (w : Written) × (x : Written) × (ws ≡ w ∷ x ∷ [])
two_of [] h = absurd (omega arith)
two_of (w ∷ []) h = absurd (omega arith)
two_of (w ∷ x ∷ []) h = (w, x, refl)
two_of (w ∷ x ∷ y ∷ ws) h = absurd (omega arith)

no_written : (types : List IrType) → length types ≡ 0 → types ≡ []
no_written [] h = refl
no_written (ty ∷ types) h = absurd (omega arith)

-- scopes of a place: in labels and in breaks, with the types of the labels
pub record Scoped (T : Types) (s t : List Value) : Type 0 where
  pub alike : Alike s t
  pub seen : Each (Seen T) s

labels_length : (s : List Value) (us : List Use) → length (labels s us) ≡ length us
labels_length s us = length-map us (label s)

module _ (T : Types) (s t : List Value) (here : Scoped T s t) where
  -- use number k of some that have one type
  nth_typed : (at k : ℕ) (us : List Use) (ty : IrType) → uses_breaks t at us ≡ [] → flat_map (λ u. broken (differs t u ty) u.at WrongType) us ≡ [] → k < length us
      → T (slice_index_or (labels s us) k (record { 0 = 0 })).0 ≡ Some ty
  nth_typed at k us ty used h less = nth_has T (labels s us) k _ ty (uses_alike T s t at here.alike here.seen us ty used h) (subst (λ n. k < n) (sym (labels_length s us)) less)

  -- the operands of a terminator
  pub end_exact : (wanted : List IrType) (e : Ending) → EndKept t wanted e → Exact T (labels s e.uses) wanted
  end_exact wanted e w =
      let listed = uses_typed T s t e.word here.alike here.seen e.uses (tys e.types) w.used w.listed.fit (eq_of (length e.uses) (length (tys e.types)) w.listed.many) in
      let count : length e.types ≡ length wanted = sym (tys_length e.types) ∙ sym (eq_of (length e.uses) (length (tys e.types)) w.listed.many) ∙ eq_of (length e.uses) (length wanted) w.many in
      listed ∙ ap (map Some) (written_same e.types wanted w.written count)

  nothing_wanted : (at : ℕ) (us : List Use) (wanted : List IrType) → us ≡ [] → broken (nat_lt 0 (length wanted)) at Arity ≡ [] → Exact T (labels s us) wanted
  nothing_wanted at us [] e h = rw e refl
  nothing_wanted at us (ty ∷ wanted) e h = absurd (some_wanted (length wanted) (not_broken _ at Arity h))
    where
      some_wanted : (n : ℕ) → nat_lt 0 (suc n) ≡ false → ⊥
      some_wanted n h = grind (arith, nat_tests)

  region_exact : (at : ℕ) (wanted : List IrType) (parts : Phrase) → EndsWithYield parts → region_ending t at wanted parts ≡ [] → Exact T (labels s (ending terminals.Yield parts).uses) wanted
  region_exact at wanted parts shape h =
      elim (cases_Bool (has terminals.Yield parts)) [
        | inl e ↦ end_exact wanted (ending terminals.Yield parts) (end_kept t wanted (ending terminals.Yield parts) (rw e at h))
        | inr e ↦ nothing_wanted at (ending terminals.Yield parts).uses wanted (shape e) (rw e at h)
      ]

no_behind : (c : Terminal) (x : Phrase) → has c x ≡ false → behind c x ≡ phrases.done
no_behind c phrases.done h = refl
no_behind c (phrases.token at d text rest) h = let w = or_false (same c d) (has c rest) h in rw w.0 (no_behind c rest w.1)
no_behind c (phrases.line f at parts rest) h = no_behind c rest h

-- numbers of a literal

less_test : (n m : ℕ) → n < m → nat_lt n m ≡ true
less_test n m h = grind (arith, nat_tests)

-- a literal is a number of its bits
literal_less : (w : ℕ) (kind : Phrase) → (has terminals.Truth kind ≡ true → w ≡ 1) → nat_lt (literal w kind) (2 ^ w) ≡ true
literal_less w kind h =
    elim (cases_Bool (has terminals.Truth kind)) [
      | inl e ↦ rw (e, h e) (truth_less (bytes_eq (first_spot (spots terminals.Truth kind)).text (codes "true")))
      | inr e ↦ rw e (signed_less (has terminals.Minus kind))
    ]
  where
    truth_less : (b : Bool) → nat_lt (if b then 1 else 0) (2 ^ 1) ≡ true
    truth_less true = refl
    truth_less false = refl

    signed_less : (b : Bool) → nat_lt (if b then (2 ^ w - magnitude kind % 2 ^ w) % 2 ^ w else magnitude kind % 2 ^ w) (2 ^ w) ≡ true
    signed_less true = less_test _ (2 ^ w) (mod-lt (2 ^ w - magnitude kind % 2 ^ w) (pow_pos w))
    signed_less false = less_test _ (2 ^ w) (mod-lt (magnitude kind) (pow_pos w))

-- operations without regions

module _ (ls : List Line) (names : List (List ℕ)) (T : Types) (s t : List Value) (here : Scoped T s t) where
  abbrev Result : Terminal → Phrase → List Packed → Type 0
  Result c kind packs = packs_hold (packs_of packs) (length (tys (op_types c kind))) ≡ true → uses_breaks t (word kind).at (operands c kind) ≡ [] → simple_breaks ls t c kind ≡ []
      → TypedOp T (packs_of packs) (tys (op_types c kind)) (plain.Simple (simple_kind names s c kind))

  -- with the one type of the results
  with_type : (packs : List Packed) (ws : List Written) (does : plain.SimpleOp) → length ws ≡ 1 → packs_hold (packs_of packs) (length (tys ws)) ≡ true
      → ((w : Written) → ws ≡ w ∷ [] → packs_hold (packs_of packs) 1 ≡ true → TypedOp T (packs_of packs) (w.ty ∷ []) (plain.Simple does)) → TypedOp T (packs_of packs) (tys ws) (plain.Simple does)
  with_type packs ws does e p f =
      let w = one_of ws e in
      subst (λ xs. TypedOp T (packs_of packs) (tys xs) (plain.Simple does)) (sym w.1) (f w.0 w.1 (subst (λ xs. packs_hold (packs_of packs) (length (tys xs)) ≡ true) w.1 p))

  constant_typed : (kind : Phrase) (packs : List Packed) → KindShape terminals.Constant kind → Result terminals.Constant kind packs
  constant_typed kind packs sh p used h =
      with_type packs (op_types terminals.Constant kind) _ sh p (λ w e held.
      const_op T (packs_of packs) (literal (bits_of (variable_type (op_types terminals.Constant kind))) kind) w.ty
      (subst (λ n. nat_lt (literal (bits_of (variable_type (op_types terminals.Constant kind))) kind) (2 ^ n) ≡ true) (ap (λ ws. bits_of (variable_type ws)) e)
      (literal_less (bits_of (variable_type (op_types terminals.Constant kind))) kind (λ is. rw is refl))) held)

  same_type_uses : (kind : Phrase) (w : Written) → types_in kind ≡ w ∷ [] → same_written t (uses_in kind) (types_in kind) ≡ [] → flat_map (λ u. broken (differs t u w.ty) u.at WrongType) (uses_in kind) ≡ []
  same_type_uses kind w e h = rw e at h

  binary_typed : (kind : Phrase) (packs : List Packed) → Counts 2 1 kind → (may_wrap (bin_named (word kind).text) || not (has_flags (flags_of kind))) ≡ true
      → packs_hold (packs_of packs) (length (tys (types_in kind))) ≡ true → uses_breaks t (word kind).at (uses_in kind) ≡ [] → same_written t (uses_in kind) (types_in kind) ≡ []
      → TypedOp T (packs_of packs) (tys (types_in kind)) (plain.Simple (plain.Bin (bin_named (word kind).text) (flags_of kind) (nth_use s 0 kind) (nth_use s 1 kind)))
  binary_typed kind packs sh flags p used h =
      with_type packs (types_in kind) _ sh.types_are p (λ w e held.
      let each = same_type_uses kind w e h in
      bin_op T (packs_of packs) (bin_named (word kind).text) (flags_of kind) (nth_use s 0 kind) (nth_use s 1 kind) w.ty flags
      (nth_typed T s t here (word kind).at 0 (uses_in kind) w.ty used each (omega (arith, sh.uses_are))) (nth_typed T s t here (word kind).at 1 (uses_in kind) w.ty used each (omega (arith, sh.uses_are))) held)

  compare_typed : (kind : Phrase) (packs : List Packed) → Counts 2 1 kind → Result terminals.Compare kind packs
  compare_typed kind packs sh p used h =
      let w = one_of (types_in kind) sh.types_are in
      let each = same_type_uses kind w.0 w.1 h in
      cmp_op T (packs_of packs) (pred_named (first_spot (spots terminals.Predicate kind)).text) (nth_use s 0 kind) (nth_use s 1 kind) w.0.ty
      (nth_typed T s t here (word kind).at 0 (uses_in kind) w.0.ty used each (omega (arith, sh.uses_are))) (nth_typed T s t here (word kind).at 1 (uses_in kind) w.0.ty used each (omega (arith, sh.uses_are))) p

  not_index : (b c : Bool) (at at2 : ℕ) → (if b then broken true at WrongType else broken (not c) at2 WrongType) ≡ [] → c ≡ true
  not_index true c at at2 h = cc
  not_index false c at at2 h = not_false c (not_broken (not c) at2 WrongType h)

  casting : (kind : Phrase) (packs : List Packed) → Counts 1 2 kind → (may_lose (cast_named (word kind).text) || not (has_flags (flags_of kind))) ≡ true
      → packs_hold (packs_of packs) (length (tys (drop 1 (types_in kind)))) ≡ true → uses_breaks t (word kind).at (uses_in kind) ≡ []
      → (same_written t (uses_in kind) (types_in kind) ++ cast_breaks kind (types_in kind)) ≡ []
      → TypedOp T (packs_of packs) (tys (drop 1 (types_in kind))) (plain.Simple (plain.Cast (cast_named (word kind).text) (flags_of kind) (nth_use s 0 kind)))
  casting kind packs sh flags p used h =
      let w = two_of (types_in kind) sh.types_are in
      let a = none_append (same_written t (uses_in kind) (types_in kind)) (cast_breaks kind (types_in kind)) h in
      let each : flat_map (λ u. broken (differs t u w.0.ty) u.at WrongType) (uses_in kind) ≡ [] = subst (λ ws. same_written t (uses_in kind) ws ≡ []) w.2 a.0 in
      let fits : casts (cast_named (word kind).text) w.0.ty w.1.ty ≡ true =
      not_index (is_index w.0.ty && not (takes_index (head kind) (word kind).text)) (casts (cast_named (word kind).text) w.0.ty w.1.ty) w.0.at w.1.at (subst (λ ws. cast_breaks kind ws ≡ []) w.2 a.1) in
      let held : packs_hold (packs_of packs) 1 ≡ true = subst (λ ws. packs_hold (packs_of packs) (length (tys (drop 1 ws))) ≡ true) w.2 p in
      subst (λ ws. TypedOp T (packs_of packs) (tys (drop 1 ws)) (plain.Simple (plain.Cast (cast_named (word kind).text) (flags_of kind) (nth_use s 0 kind)))) (sym w.2)
      (cast_op T (packs_of packs) (cast_named (word kind).text) (flags_of kind) (nth_use s 0 kind) w.0.ty w.1.ty flags (nth_typed T s t here (word kind).at 0 (uses_in kind) w.0.ty used each (omega (arith, sh.uses_are))) fits held)

  -- a condition before two uses of one type
  chosen : (at : ℕ) (us : List Use) (w : Written) → length us ≡ 3 → uses_breaks t at us ≡ [] → type_breaks t (take 1 us) (truth ∷ []) ≡ [] → same_written t (drop 1 us) (w ∷ []) ≡ []
      → (T (slice_index_or (labels s us) 0 (record { 0 = 0 })).0 ≡ Some truth) × (T (slice_index_or (labels s us) 1 (record { 0 = 0 })).0 ≡ Some w.ty) × (T (slice_index_or (labels s us) 2 (record { 0 = 0 })).0 ≡ Some w.ty)
  chosen at [] w e used h g = absurd (omega arith)
  chosen at (c ∷ us) w e used h g =
      let a = none_append (use_breaks t at c) (uses_breaks t at us) used in
      let first = uses_typed T s t at here.alike here.seen (c ∷ []) (truth ∷ []) (ap (λ bs. bs ++ []) a.0) h refl in
      let two : length us ≡ 2 = omega arith in
      (cc, nth_typed T s t here at 0 us w.ty a.1 g (omega arith), nth_typed T s t here at 1 us w.ty a.1 g (omega arith))

  select_typed : (kind : Phrase) (packs : List Packed) → Counts 3 1 kind → Result terminals.Select kind packs
  select_typed kind packs sh p used h =
      with_type packs (types_in kind) _ sh.types_are p (λ w e held.
      let a = none_append (type_breaks t (take 1 (uses_in kind)) (truth ∷ [])) (same_written t (drop 1 (uses_in kind)) (types_in kind)) h in
      let v = chosen (word kind).at (uses_in kind) w sh.uses_are used a.0 (rw e at a.1) in
      select_op T (packs_of packs) (nth_use s 0 kind) (nth_use s 1 kind) (nth_use s 2 kind) w.ty v.0 v.1 v.2 held)

  call_typed : (kind : Phrase) (packs : List Packed) → Result terminals.Call kind packs
  call_typed kind packs p used h =
      let a = none_append _ _ h in
      let b = none_append _ _ a.0 in
      let listed = list_kept t (word kind).at (listed_uses kind) (tys (listed_types kind)) b.0 in
      let passed = uses_typed T s t (word kind).at here.alike here.seen (listed_uses kind) (tys (listed_types kind)) used listed.fit (eq_of _ _ listed.many) in
      call_op T (packs_of packs) (tys (op_types terminals.Call kind)) _ (labels s (listed_uses kind)) (exact_known T (labels s (listed_uses kind)) (tys (listed_types kind)) passed) p

flags_fine : (a b : Bool) → a ≡ true → (a || b) ≡ true
flags_fine true b h = refl
flags_fine false b h = cc

no_flags : (a b : Bool) → b ≡ false → (a || not b) ≡ true
no_flags true b h = refl
no_flags false true h = cc
no_flags false false h = refl

-- operations with regions

carried_types : (inits : List (Defined × Use)) (types : List IrType) → length (inits_used inits) ≡ length types → arg_types (carried inits types) ≡ types
carried_types [] [] h = refl
carried_types [] (ty ∷ types) h = absurd (omega arith)
carried_types (i ∷ inits) [] h = absurd (omega arith)
carried_types (i ∷ inits) (ty ∷ types) h = ap (λ tys. ty ∷ tys) (carried_types inits types (omega arith))

params_types : (params : List (Defined × Written)) → arg_types (args_of params) ≡ tys (map (λ (p : Defined × Written). p.1) params)
params_types [] = refl
params_types (p ∷ params) = ap (λ tys. p.1.ty ∷ tys) (params_types params)

args_length : (args : List Arg) → length (arg_types args) ≡ length args
args_length args = length-map args (λ (arg : Arg). arg.ty)

uses_split : (t : List Value) (at : ℕ) (xs ys : List Use) → uses_breaks t at (xs ++ ys) ≡ [] → (uses_breaks t at xs ≡ []) × (uses_breaks t at ys ≡ [])
uses_split t at xs ys h = none_append (uses_breaks t at xs) (uses_breaks t at ys) (sym (flat_map-append (use_breaks t at) xs ys) ∙ h)

-- a scope with arguments besides
pub with_args : (T : Types) (s t : List Value) (at : ℕ) (args : List Arg) → Scoped T s t → Below at T → Scoped (with_types T at (arg_types args)) (s ++ arg_values at args) (t ++ arg_values 0 args)
with_args T s t at args h below = record {
  alike = alike_append s t (arg_values at args) (arg_values 0 args) h.alike (args_alike at 0 args);
  seen = each_append (Seen (with_types T at (arg_types args))) s (arg_values at args) (seen_more T at (arg_types args) s h.seen) (args_seen T at args below);
}

with_results : (T : Types) (s t : List Value) (at : ℕ) (packs : List Packed) (results : List IrType) → Scoped T s t → Below at T → packs_hold (packs_of packs) (length results) ≡ true
    → Scoped (with_types T at results) (s ++ result_values at (packs_of packs) results) (t ++ result_values 0 (packs_of packs) results)
with_results T s t at packs results h below held = record {
  alike = alike_append s t (result_values at (packs_of packs) results) (result_values 0 (packs_of packs) results) h.alike (results_alike at 0 (packs_of packs) results);
  seen = each_append (Seen (with_types T at results)) s (result_values at (packs_of packs) results) (seen_more T at results s h.seen) (results_seen T at (packs_of packs) results below held);
}

pub below_args : (T : Types) (at : ℕ) (args : List Arg) → Below at T → Below (at + length args) (with_types T at (arg_types args))
below_args T at args h = below_more (at + length (arg_types args)) (at + length args) _ (omega (arith, args_length args)) (below_with T at (arg_types args) h)

held_of : (t : List Value) (results : ℕ) (packs : List Packed) → PacksKept t results packs → packs_hold (packs_of packs) results ≡ true
held_of t results packs w = packs_held results packs (eq_of (total packs) results w.all_named) w.each_some

for_op : (T : Types) (packs : List Pack) (results : List IrType) (lower upper step : Label) (iv : Arg) (args : List Arg) (inits : List Label) (body : OpList) (ends : List Label)
    → T lower.0 ≡ Some iv.ty → T upper.0 ≡ Some iv.ty → T step.0 ≡ Some iv.ty → Exact T inits results → arg_types args ≡ results → (length results == 0 || nat_lt 0 (length ends)) ≡ true → packs_hold packs (length results) ≡ true
    → TypedOp T packs results (plain.For lower upper step iv args inits body ends)
for_op T packs results lower upper step iv args inits body ends el eu es e is some held =
    let count = exact_length T inits results e in
    let many : length args ≡ length results = sym (args_length args) ∙ ap length is in
    let same : same_types (arg_types args) results ≡ true = subst (λ tys. same_types tys results ≡ true) (sym is) (same_types_self results) in
    let fit : all_fit T (arg_types args) inits ≡ true = subst (λ tys. all_fit T tys inits ≡ true) (sym is) (exact_fit T inits results e) in
    record {
      in_scope = rw (el, eu, es) (exact_known T inits results e);
      typed = rw (el, eu, es, same_self iv.ty, fit, same) refl;
      packed = held;
      counted = both (length inits == length args && length args == length results) (length results == 0 || nat_lt 0 (length ends))
          (both (length inits == length args) (length args == length results) (eq-eqb (length inits) (length args) (count ∙ sym many)) (eq-eqb (length args) (length results) many)) some;
    }

module _ (ls : List Line) (names : List (List ℕ)) where
  -- operations and the scope after them
  pub record Typing (T : Types) (s t : List Value) (at : ℕ) (b : Block) : Type 0 where
    pub inside : TypedOps T at (ops_of names b s at)
    pub after : Scoped (types_after T at (ops_of names b s at)) (s ++ values_of at (ops_of names b s at)) (t ++ defined_by b)

  abbrev BlockTyped : Block → Type 0
  BlockTyped b = (k loops : ℕ) (T : Types) (s t : List Value) (at : ℕ) → ShapedBlock k b → block_breaks ls b loops t ≡ [] → Scoped T s t → Below at T → Typing T s t at b

  -- what an operation of that kind keeps, by itself and in its regions
  record KindTyped (T : Types) (at : ℕ) (packs : List Pack) (results : List IrType) (kind : OpKind) : Type 0 where
    itself : TypedOp T packs results kind
    regions : TypedRegions T at results kind

  positive : (n m : ℕ) → n ≡ suc m → nat_lt 0 n ≡ true
  positive n m e = grind (arith, nat_tests)

  some_results : (T : Types) (wanted : List IrType) (firsts others : List Label) → Exact T firsts wanted → (U : Types) → Exact U others wanted
      → (length wanted == 0 || nat_lt 0 (length firsts) && nat_lt 0 (length others)) ≡ true
  some_results T [] firsts others e U f = refl
  some_results T (ty ∷ wanted) firsts others e U f =
      or_right (length (ty ∷ wanted) == 0) (nat_lt 0 (length firsts) && nat_lt 0 (length others))
      (both (nat_lt 0 (length firsts)) (nat_lt 0 (length others)) (positive (length firsts) (length wanted) (exact_length T firsts (ty ∷ wanted) e)) (positive (length others) (length wanted) (exact_length U others (ty ∷ wanted) f)))

  one_result : (T : Types) (wanted : List IrType) (ends : List Label) → Exact T ends wanted → (length wanted == 0 || nat_lt 0 (length ends)) ≡ true
  one_result T [] ends e = refl
  one_result T (ty ∷ wanted) ends e = or_right (length (ty ∷ wanted) == 0) (nat_lt 0 (length ends)) (positive (length ends) (length wanted) (exact_length T ends (ty ∷ wanted) e))

  -- the one use that a condition has
  condition_typed : (T : Types) (s t : List Value) (at : ℕ) (us : List Use) → Scoped T s t → length us ≡ 1 → uses_breaks t at us ≡ [] → type_breaks t us (truth ∷ []) ≡ []
      → T (slice_index_or (labels s us) 0 (record { 0 = 0 })).0 ≡ Some truth
  condition_typed T s t at [] here e used h = absurd (omega arith)
  condition_typed T s t at (u ∷ us) here e used h =
      let all = uses_typed T s t at here.alike here.seen (u ∷ us) (truth ∷ []) used h e in
      cc

  -- the operands of a missing region, or of that of `else`
  others_exact : (U : Types) (s t : List Value) (kind : Phrase) (wanted : List IrType) → Scoped U s t → EndsWithYield (else_parts kind)
      → (if has terminals.Else kind then region_ending t (word kind).at wanted (else_parts kind) else broken (nat_lt 0 (length wanted)) (word kind).at Arity) ≡ []
      → Exact U (labels s (ending terminals.Yield (else_parts kind)).uses) wanted
  others_exact U s t kind wanted here shape h =
      elim (cases_Bool (has terminals.Else kind)) [
        | inl e ↦ region_exact U s t here (word kind).at wanted (else_parts kind) shape (rw e at h)
        | inr e ↦ nothing_wanted U s t here (word kind).at (ending terminals.Yield (else_parts kind)).uses wanted
            (ap (λ x. (ending terminals.Yield (inside forms.Region x)).uses) (no_behind terminals.Else kind e)) (rw e at h)
      ]

  if_typed : (kind : Phrase) (first second : Block) (packs : List Packed) (k loops : ℕ) (T : Types) (s t : List Value) (at : ℕ) → KindShape terminals.If kind → BlockTyped first → BlockTyped second
      → ShapedBlock k first → ShapedBlock k second → Scoped T s t → Below at T → packs_hold (packs_of packs) (length (tys (result_types kind))) ≡ true
      → uses_breaks t (word kind).at (uses_in kind) ≡ [] → kind_breaks ls loops t terminals.If kind first second (block_breaks ls first) (block_breaks ls second) ≡ []
      → KindTyped T at (packs_of packs) (tys (result_types kind)) (kind_of names s at terminals.If kind (ops_of names first) (ops_of names second))
  if_typed kind first second packs k loops T s t at sh f1 f2 s1 s2 here below held used h =
      let wanted = tys (result_types kind) in
      let w = if_kept loops t kind wanted first second (block_breaks ls first) (block_breaks ls second) h in
      let a = f1 k loops T s t at s1 w.first_inside here below in
      let past = at + labels_of (ops_of names first s at) in
      let b = f2 k loops T s t past s2 w.second_inside here (below_more at past T (omega arith) below) in
      let firsts = region_exact _ _ _ a.after (word kind).at wanted (region_parts kind) sh.1 w.first_ends in
      let others = others_exact _ _ _ kind wanted b.after sh.2 w.second_ends in
      let is = condition_typed T s t (word kind).at (uses_in kind) here sh.0 used w.condition in
      record {
        itself = record {
          in_scope = exact_known T (nth_use s 0 kind ∷ []) (truth ∷ []) (λ j. is j ∷ []);
          typed = fitting T (nth_use s 0 kind) truth is;
          packed = held;
          counted = some_results _ wanted _ _ firsts _ others;
        };
        regions = (a.inside, end_typed _ wanted _ _ firsts (end_yields _ wanted _ firsts), b.inside, end_typed _ wanted _ _ others (end_yields _ wanted _ others));
      }

  -- first values of loop-carried values
  inits_exact : (T : Types) (s t : List Value) (loops : ℕ) (kind : Phrase) (wanted : List IrType) (before : List Defined) (types : List IrType) → Scoped T s t
      → uses_breaks t (word kind).at (inits_used (inits_of kind)) ≡ [] → CarriedKept loops t kind wanted before types
      → Exact T (labels s (inits_used (inits_of kind))) types × (arg_types (carried (inits_of kind) types) ≡ types)
  inits_exact T s t loops kind wanted before types here used w =
      let many = eq_of (length (inits_used (inits_of kind))) (length types) w.listed.many in
      (uses_typed T s t (word kind).at here.alike here.seen (inits_used (inits_of kind)) types used w.listed.fit many, carried_types (inits_of kind) types many)

  for_typed : (kind : Phrase) (first second : Block) (packs : List Packed) (k loops : ℕ) (T : Types) (s t : List Value) (at : ℕ) → KindShape terminals.For kind → BlockTyped first
      → ShapedBlock k first → Scoped T s t → Below at T → packs_hold (packs_of packs) (length (tys (result_types kind))) ≡ true
      → uses_breaks t (word kind).at (uses_in kind ++ inits_used (inits_of kind)) ≡ [] → kind_breaks ls loops t terminals.For kind first second (block_breaks ls first) (block_breaks ls second) ≡ []
      → KindTyped T at (packs_of packs) (tys (result_types kind)) (kind_of names s at terminals.For kind (ops_of names first) (ops_of names second))
  for_typed kind first second packs k loops T s t at sh f1 s1 here below held used h =
      let wanted = tys (result_types kind) in
      let w = for_kept loops t kind wanted first (block_breaks ls first) h in
      let u = uses_split t (word kind).at (uses_in kind) (inits_used (inits_of kind)) used in
      let ty = variable_type (types_in kind) in
      let iv : Arg = record { name = (variable loops t kind wanted).name; ty = ty } in
      let args = carried (inits_of kind) wanted in
      let bound = uses_alike T s t (word kind).at here.alike here.seen (uses_in kind) ty u.0 w.bounds in
      let inits = inits_exact T s t loops kind wanted _ wanted here u.1 w.header in
      let scope = with_args T s t (at + 1) (iv ∷ args) here (below_more at (at + 1) T (omega arith) below) in
      let room : Below (at + 2 + length args) (with_types T (at + 1) (arg_types (iv ∷ args))) =
      below_more (at + 1 + length (iv ∷ args)) (at + 2 + length args) _ (omega arith) (below_args T (at + 1) (iv ∷ args) (below_more at (at + 1) T (omega arith) below)) in
      let a = f1 k (loops + 1) (with_types T (at + 1) (arg_types (iv ∷ args))) (s ++ arg_values (at + 1) (iv ∷ args)) (t ++ arg_values 0 (iv ∷ args)) (at + 2 + length args) s1 w.inside scope room in
      let ends = region_exact _ _ _ a.after (word kind).at wanted (region_parts kind) sh.2 w.ends in
      let body = ops_of names first (s ++ arg_values (at + 1) (iv ∷ args)) (at + 2 + length args) in
      let yielded = labels ((s ++ arg_values (at + 1) (iv ∷ args)) ++ values_of (at + 2 + length args) body) (ending terminals.Yield (region_parts kind)).uses in
      record {
        itself = for_op T (packs_of packs) wanted (nth_use s 0 kind) (nth_use s 1 kind) (nth_use s 2 kind) iv args (labels s (inits_used (inits_of kind))) body yielded
            (nth_has T (labels s (uses_in kind)) 0 _ ty bound (omega (arith, sh.0, labels_length s (uses_in kind))))
            (nth_has T (labels s (uses_in kind)) 1 _ ty bound (omega (arith, sh.0, labels_length s (uses_in kind))))
            (nth_has T (labels s (uses_in kind)) 2 _ ty bound (omega (arith, sh.0, labels_length s (uses_in kind))))
            inits.0 inits.1 (one_result _ wanted _ ends) held;
        regions = subst (λ U. TypedOps U (at + 2 + length args) body × TypedEnd (types_after U (at + 2 + length args) body) wanted yielded (yields wanted yielded)) (sym (two_types T at ty (arg_types args)))
            (a.inside, end_typed _ wanted _ _ ends (end_yields _ wanted _ ends));
      }

  -- the condition of a loop and the values that are passed on
  passed_exact : (U : Types) (s t : List Value) (kind : Phrase) (wanted : List IrType) → Scoped U s t → length (uses_in kind) ≡ 1 → condition_breaks t kind wanted ≡ []
      → (U (nth_use s 0 kind).0 ≡ Some truth) × Exact U (labels s (ending terminals.Condition (before_parts kind)).uses) wanted
  passed_exact U s t kind wanted here one h =
      let e = ending terminals.Condition (before_parts kind) in
      let a = none_append (uses_breaks t e.word (uses_in kind) ++ type_breaks t (uses_in kind) (truth ∷ [])) (ending_breaks t wanted e) h in
      let b = none_append (uses_breaks t e.word (uses_in kind)) (type_breaks t (uses_in kind) (truth ∷ [])) a.0 in
      (condition_typed U s t e.word (uses_in kind) here one b.0 b.1, end_exact U s t here wanted e (end_kept t wanted e a.1))

  after_types : (loops : ℕ) (t : List Value) (kind : Phrase) (wanted : List IrType) → ParamsKept loops t kind wanted → arg_types (args_of (after_params kind)) ≡ wanted
  after_types loops t kind wanted w =
      let count = length-map (after_params kind) (λ (p : Defined × Written). p.1) in
      params_types (after_params kind) ∙ written_same (map (λ (p : Defined × Written). p.1) (after_params kind)) wanted w.written (count ∙ eq_of (length (after_params kind)) (length wanted) w.many)

  as_types : (U : Types) (us : List Label) (xs types : List IrType) → xs ≡ types → Exact U us types → Exact U us xs
  as_types U us xs types e h = h ∙ ap (map Some) (sym e)

  while_typed : (kind : Phrase) (first second : Block) (packs : List Packed) (k loops : ℕ) (T : Types) (s t : List Value) (at : ℕ) → KindShape terminals.While kind → BlockTyped first → BlockTyped second
      → ShapedBlock k first → ShapedBlock k second → Scoped T s t → Below at T → packs_hold (packs_of packs) (length (tys (result_types kind))) ≡ true
      → uses_breaks t (word kind).at (inits_used (inits_of kind)) ≡ [] → kind_breaks ls loops t terminals.While kind first second (block_breaks ls first) (block_breaks ls second) ≡ []
      → KindTyped T at (packs_of packs) (tys (result_types kind)) (kind_of names s at terminals.While kind (ops_of names first) (ops_of names second))
  while_typed kind first second packs k loops T s t at sh f1 f2 s1 s2 here below held used h =
      let wanted = tys (result_types kind) in
      let types = tys (listed_types kind) in
      let w = while_kept loops t kind wanted first second (block_breaks ls first) (block_breaks ls second) h in
      let args = carried (inits_of kind) types in
      let params = args_of (after_params kind) in
      let inits = inits_exact T s t loops kind wanted _ types here used w.header in
      let low = below_more at (at + 1) T (omega arith) below in
      let b = at + 1 + length args in
      let U = with_types T (at + 1) (arg_types args) in
      let s1' = s ++ arg_values (at + 1) args in
      let a = f1 k (loops + 1) U s1' (t ++ arg_values 0 args) b s1 w.before_inside (with_args T s t (at + 1) args here low) (below_args T (at + 1) args low) in
      let before = ops_of names first s1' b in
      let c = b + labels_of before in
      let low2 = below_more at c T (omega arith) below in
      let V = with_types T c (arg_types params) in
      let s2' = s ++ arg_values c params in
      let e = f2 k (loops + 1) V s2' (t ++ arg_values 0 params) (c + length params) s2 w.after_inside (with_args T s t c params here low2) (below_args T c params low2) in
      let after = ops_of names second s2' (c + length params) in
      let passed = passed_exact (types_after U b before) (s1' ++ values_of b before) _ kind wanted a.after sh w.condition in
      let passed_labels = labels (s1' ++ values_of b before) (ending terminals.Condition (before_parts kind)).uses in
      let cond = nth_use (s1' ++ values_of b before) 0 kind in
      let same = after_types loops t kind wanted w.params in
      let ends = end_exact (types_after V (c + length params) after) (s2' ++ values_of (c + length params) after) _ e.after types (ending terminals.Yield (after_parts kind)) w.after_ends in
      let ends_labels = labels (s2' ++ values_of (c + length params) after) (ending terminals.Yield (after_parts kind)).uses in
      let turned : Exact (types_after V (c + length params) after) ends_labels (arg_types args) = as_types (types_after V (c + length params) after) ends_labels (arg_types args) types inits.1 ends in
      let first_types : Exact T (labels s (inits_used (inits_of kind))) (arg_types args) = as_types T (labels s (inits_used (inits_of kind))) (arg_types args) types inits.1 inits.0 in
      record {
        itself = record {
          in_scope = exact_known T _ types inits.0;
          typed = exact_fit T _ (arg_types args) first_types;
          packed = held;
          counted = both (length (labels s (inits_used (inits_of kind))) == length args) (length params == length wanted)
              (eq-eqb (length (labels s (inits_used (inits_of kind)))) (length args) (exact_length T _ (arg_types args) first_types ∙ args_length args)) (eq-eqb (length params) (length wanted) (sym (args_length params) ∙ ap length same));
        };
        regions = (
          a.inside,
          end_typed (types_after U b before) (truth ∷ wanted) (cond ∷ passed_labels) (passes wanted passed_labels) (λ j. passed.0 j ∷ passed.1 j) (end_passes (types_after U b before) wanted passed_labels passed.1),
          subst (λ tys. same_types tys wanted ≡ true) (sym same) (same_types_self wanted),
          e.inside,
          end_typed (types_after V (c + length params) after) (arg_types args) ends_labels (passes (arg_types args) ends_labels) turned (end_passes (types_after V (c + length params) after) (arg_types args) ends_labels turned),
        );
      }

  kind_typed : (c : Terminal) (kind : Phrase) (first second : Block) (packs : List Packed) (k loops : ℕ) (T : Types) (s t : List Value) (at : ℕ) → KindShape c kind → BlockTyped first → BlockTyped second
      → ShapedBlock k first → ShapedBlock k second → Scoped T s t → Below at T → packs_hold (packs_of packs) (length (tys (op_types c kind))) ≡ true
      → uses_breaks t (word kind).at (operands c kind) ≡ [] → kind_breaks ls loops t c kind first second (block_breaks ls first) (block_breaks ls second) ≡ []
      → KindTyped T at (packs_of packs) (tys (op_types c kind)) (kind_of names s at c kind (ops_of names first) (ops_of names second))
  kind_typed terminals.Constant kind first second packs k loops T s t at sh f1 f2 s1 s2 here below held used h = record { itself = constant_typed ls names T s t here kind packs sh held used h; regions = tt }
  kind_typed terminals.Binary kind first second packs k loops T s t at sh f1 f2 s1 s2 here below held used h = record { itself = binary_typed ls names T s t here kind packs sh.0 (no_flags (may_wrap (bin_named (word kind).text)) (has_flags (flags_of kind)) sh.1) held used h; regions = tt }
  kind_typed terminals.FlaggedBinary kind first second packs k loops T s t at sh f1 f2 s1 s2 here below held used h = record { itself = binary_typed ls names T s t here kind packs sh.0 (flags_fine (may_wrap (bin_named (word kind).text)) (not (has_flags (flags_of kind))) sh.1) held used h; regions = tt }
  kind_typed terminals.Cast kind first second packs k loops T s t at sh f1 f2 s1 s2 here below held used h = record { itself = casting ls names T s t here kind packs sh.0 (no_flags (may_lose (cast_named (word kind).text)) (has_flags (flags_of kind)) sh.1) held used h; regions = tt }
  kind_typed terminals.FlaggedCast kind first second packs k loops T s t at sh f1 f2 s1 s2 here below held used h = record { itself = casting ls names T s t here kind packs sh.0 (flags_fine (may_lose (cast_named (word kind).text)) (not (has_flags (flags_of kind))) sh.1) held used h; regions = tt }
  kind_typed terminals.Compare kind first second packs k loops T s t at sh f1 f2 s1 s2 here below held used h = record { itself = compare_typed ls names T s t here kind packs sh held used h; regions = tt }
  kind_typed terminals.Select kind first second packs k loops T s t at sh f1 f2 s1 s2 here below held used h = record { itself = select_typed ls names T s t here kind packs sh held used h; regions = tt }
  kind_typed terminals.Call kind first second packs k loops T s t at sh f1 f2 s1 s2 here below held used h = record { itself = call_typed ls names T s t here kind packs held used h; regions = tt }
  kind_typed terminals.If kind first second packs k loops T s t at sh f1 f2 s1 s2 here below held used h = if_typed kind first second packs k loops T s t at sh f1 f2 s1 s2 here below held used h
  kind_typed terminals.For kind first second packs k loops T s t at sh f1 f2 s1 s2 here below held used h = for_typed kind first second packs k loops T s t at sh f1 s1 here below held used h
  kind_typed terminals.While kind first second packs k loops T s t at sh f1 f2 s1 s2 here below held used h = while_typed kind first second packs k loops T s t at sh f1 f2 s1 s2 here below held used h
  kind_typed _ kind first second packs k loops T s t at sh f1 f2 s1 s2 here below held used h = absurd sh

  pub block_typed : (b : Block) → BlockTyped b
  block_typed none k loops T s t at sh h here below = record {
    inside = tt;
    after = record { alike = alike_append s t [] [] here.alike refl; seen = each_append (Seen T) s [] here.seen tt };
  }
  block_typed (op spot packs kind first second rest) k loops T s t at sh h here below =
      let w = op_kept ls spot packs kind first second rest loops t h in
      let results = result_tys kind in
      let what = kind_of names s at (head kind) kind (ops_of names first) (ops_of names second) in
      let mid = at + inner_labels what in
      let past = at + (inner_labels what + length results) in
      let held = held_of t (length results) packs w.packed in
      let vs = result_values mid (packs_of packs) results in
      let us = result_values 0 (packs_of packs) results in
      let low = below_more at mid T (omega arith) below in
      let a = kind_typed (head kind) kind first second packs (k + 1) loops T s t at sh.0.does (block_typed first) (block_typed second) sh.1 sh.2 here below held w.used w.inside in
      let b = block_typed rest k loops (with_types T mid results) (s ++ vs) (t ++ us) past sh.3 w.behind (with_results T s t mid packs results here low held) (below_more (mid + length results) past _ (omega arith) (below_with T mid results low)) in
      let more = ops_of names rest (s ++ vs) past in
      record {
        inside = (a.itself, a.regions, b.inside);
        after = subst (λ x. Scoped (types_after (with_types T mid results) past more) x (t ++ (us ++ defined_by rest))) (append_assoc s vs (values_of past more))
            (subst (λ y. Scoped (types_after (with_types T mid results) past more) ((s ++ vs) ++ values_of past more) y) (append_assoc t us (defined_by rest)) b.after);
      }
