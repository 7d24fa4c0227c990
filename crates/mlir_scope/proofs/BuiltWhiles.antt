-- An `scf.while` that is built is the one that the syntax stands for.
use Rattle.std.proofs.Common.{◌≡◌, ℕ, ◌+◌, List, [], ◌∷◌, ◌++◌, length, take, refl, ap, ◌∙◌, sym, arith}
use Rattle.arith_word.specs.declared.label.Label.{Label}
use Rattle.mlir_ir.specs.Operations as plain
use Rattle.mlir_ir.specs.Operations.{OpKind, OpList, labels_of, inner_labels}
use Rattle.mlir_ir.specs.Phrases.{Phrase}
use Rattle.mlir_ir.specs.Resolved.{ops_of, values_of, nth_use, labels, inits_used, args_of}
use Rattle.mlir_ir.specs.Source.{ending, region, region_behind, before_parts, after_parts, after_params, inits_of}
use Rattle.mlir_ir.specs.Values.{Value, arg_values}
use Rattle.mlir_ir.specs.declared.syntax.Branch.{Branch}
use Rattle.mlir_ir.specs.declared.terminal.Terminal.TheVariants as terminals
use Rattle.mlir_ir.specs.declared.types.Arg.{Arg}
use Rattle.mlir_ir.specs.declared.types.Region.{Region}
use Rattle.mlir_ir.specs.View.{rows_of, ends_of}
use Rattle.mlir_scope.specs.Built.{ArePast, HasParts, IsPast, passed_behind, scope_at, names_said, while_args, first_said, second_said, second_ends, behind_before, while_said}
use Rattle.mlir_scope.specs.Said.{said}
use Rattle.mlir_scope.specs.declared.place.Place.{Place}
use Rattle.mlir_scope.specs.declared.simple_kinds.Origin.{Origin}
use Rattle.mlir_scope.proofs.BuiltBranches.{left_behind}

-- the regions begin at `first` and `second`; between them the loop's variables are out of scope
pub record OnWhile (origin : Origin) (kind : List Branch) (place first left second : Place) : Type 0 where
  pub scope1 : scope_at first ≡ scope_at place ++ arg_values (place.next + 1) (while_args (said origin.tokens.now kind))
  pub next1 : first.next ≡ place.next + 1 + length (while_args (said origin.tokens.now kind))
  pub scope2 : scope_at left ≡ scope_at place
  pub next2 : left.next ≡ first.next + labels_of (first_said origin kind first)
  pub scope3 : scope_at second ≡ scope_at left ++ arg_values left.next (args_of (after_params (said origin.tokens.now kind)))
  pub next3 : second.next ≡ left.next + length (args_of (after_params (said origin.tokens.now kind)))

module _ (origin : Origin) (kind : List Branch) (place first left second : Place) where
  abbrev k : Phrase
  k = said origin.tokens.now kind

  abbrev started : List Arg
  started = while_args k

  abbrev passed : List Arg
  passed = args_of (after_params k)

  abbrev rows : List Value → ℕ → OpList
  rows s n = ops_of (names_said origin.funcs.now) (region k) s n

  abbrev others : List Value → ℕ → OpList
  others s n = ops_of (names_said origin.funcs.now) (region_behind k) s n

  -- the loop, where its regions begin there
  abbrev loop : List Value → ℕ → List Value → ℕ → OpKind
  loop s n t m =
      plain.While started (labels (scope_at place) (inits_used (inits_of k))) (rows s n) (labels (s ++ values_of n (rows s n)) (ending terminals.Condition (before_parts k)).uses)
      (nth_use (s ++ values_of n (rows s n)) 0 k) passed (others t m) (labels (t ++ values_of m (others t m)) (ending terminals.Yield (after_parts k)).uses)

  abbrev s1 : List Value
  s1 = scope_at place ++ arg_values (place.next + 1) started

  abbrev n1 : ℕ
  n1 = place.next + 1 + length started

  abbrev n2 : ℕ
  n2 = n1 + labels_of (rows s1 n1)

  behind_first : OnWhile origin kind place first left second → left.next ≡ n2
  behind_first w = w.next2 ∙ ap (λ s. first.next + labels_of (rows s first.next)) w.scope1 ∙ ap (λ n. n + labels_of (rows s1 n)) w.next1

  in_second : OnWhile origin kind place first left second → scope_at second ≡ scope_at place ++ arg_values n2 passed
  in_second w = w.scope3 ∙ ap (λ s. s ++ arg_values left.next passed) w.scope2 ∙ ap (λ n. scope_at place ++ arg_values n passed) (behind_first w)

  at_second : OnWhile origin kind place first left second → second.next ≡ n2 + length passed
  at_second w = w.next3 ∙ ap (λ n. n + length passed) (behind_first w)

  placed : OnWhile origin kind place first left second → loop (scope_at first) first.next (scope_at second) second.next ≡ while_said origin kind place
  placed w =
      ap (λ s. loop s first.next (scope_at second) second.next) w.scope1
      ∙ ap (λ n. loop s1 n (scope_at second) second.next) w.next1
      ∙ ap (λ t. loop s1 n1 t second.next) (in_second w)
      ∙ ap (λ m. loop s1 n1 (scope_at place ++ arg_values n2 passed) m) (at_second w)

  pub while_built : (args after_args : List Arg) (inits : List Label) (before after : Region) (cond : Label)
      → OnWhile origin kind place first left second
      → args ≡ while_args k → inits ≡ labels (scope_at place) (inits_used (inits_of k)) → after_args ≡ args_of (after_params k)
      → rows_of before ≡ first_said origin kind first → ends_of before ≡ labels (behind_before origin kind first) (ending terminals.Condition (before_parts k)).uses
      → cond ≡ nth_use (behind_before origin kind first) 0 k
      → rows_of after ≡ second_said origin kind second → ends_of after ≡ second_ends origin kind (after_parts k) second
      → plain.While args inits (rows_of before) (ends_of before) cond after_args (rows_of after) (ends_of after) ≡ while_said origin kind place
  while_built args after_args inits before after cond w args_are inits_are params_are rows1 ends1 cond_is rows2 ends2 =
      let here : plain.While args inits (rows_of before) (ends_of before) cond after_args (rows_of after) (ends_of after) ≡ loop (scope_at first) first.next (scope_at second) second.next = cc in
      here
      ∙ placed w

  pub while_past : (new : Place) → OnWhile origin kind place first left second → scope_at new ≡ scope_at place → new.next ≡ second.next + labels_of (second_said origin kind second)
      → IsPast place new (while_said origin kind place)
  while_past new w scope next =
      let second_is : second_said origin kind second ≡ others (scope_at place ++ arg_values n2 passed) (n2 + length passed) =
      ap (λ s. others s second.next) (in_second w) ∙ ap (λ n. others (scope_at place ++ arg_values n2 passed) n) (at_second w) in
      let count = ap labels_of second_is in
      let at = at_second w in
      record { scope = scope; next = omega arith }

  -- the same of what the code has built

  pub on_while : (inside : Place) (outer : ℕ)
      → scope_at first ≡ scope_at place ++ arg_values (place.next + 1) (while_args k) → first.next ≡ place.next + 1 + length (while_args k)
      → ArePast first inside (first_said origin kind first)
      → outer ≡ length place.scope.values.items → scope_at left ≡ take outer (scope_at inside) → left.next ≡ inside.next
      → scope_at second ≡ scope_at left ++ arg_values left.next (args_of (after_params k)) → second.next ≡ left.next + length (args_of (after_params k))
      → OnWhile origin kind place first left second
  on_while inside outer s1_is n1_is past many cut same s2_is n2_is = record {
    scope1 = s1_is;
    next1 = n1_is;
    scope2 = left_behind place inside left outer (arg_values (place.next + 1) (while_args k)) many (past.scope ∙ s1_is) cut;
    next2 = same ∙ past.next;
    scope3 = s2_is;
    next3 = n2_is;
  }

  pub while_made : (args after_args : List Arg) (inits : List Label) (before after : Region) (cond : Label) (parts : Phrase)
      → OnWhile origin kind place first left second
      → args ≡ while_args k → inits ≡ labels (scope_at place) (inits_used (inits_of k)) → after_args ≡ args_of (after_params k)
      → HasParts before (first_said origin kind first) (passed_behind origin kind first) → cond ≡ nth_use (behind_before origin kind first) 0 k
      → parts ≡ after_parts k → HasParts after (second_said origin kind second) (second_ends origin kind parts second)
      → plain.While args inits (rows_of before) (ends_of before) cond after_args (rows_of after) (ends_of after) ≡ while_said origin kind place
  while_made args after_args inits before after cond parts w args_are inits_are params_are one cond_is parts_is two =
      while_built args after_args inits before after cond w args_are inits_are params_are one.rows one.gives cond_is two.rows (two.gives ∙ ap (λ p. second_ends origin kind p second) parts_is)

  pub while_left : (inside new : Place) (outer : ℕ) → OnWhile origin kind place first left second → ArePast second inside (second_said origin kind second)
      → outer ≡ length place.scope.values.items → scope_at new ≡ take outer (scope_at inside) → new.next ≡ inside.next
      → IsPast place new (while_said origin kind place)
  while_left inside new outer w past many cut same =
      while_past new w
      (left_behind place inside new outer (arg_values left.next passed) many (past.scope ∙ w.scope3 ∙ ap (λ s. s ++ arg_values left.next passed) w.scope2) cut)
      (same ∙ past.next)
