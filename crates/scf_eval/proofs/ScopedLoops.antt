-- Loops in two runs that are the same.
use Rattle.std.proofs.Common.{◌≡◌, ℕ, zero, suc, ◌+◌, ◌==◌, true, List, [], ◌∷◌, length, refl, ap, ◌∙◌, subst, arith, if◌then◌else◌}
use Rattle.std.specs.List.{list_all}
use Rattle.arith_word.specs.Operation.{holds}
use Rattle.arith_word.specs.declared.label.Label.{Label}
use Rattle.arith_word.specs.declared.op.Pred.TheVariants.{Slt}
use Rattle.mlir_ir.specs.declared.types.IrType.{IrType}
use Rattle.mlir_ir.specs.Runs.{Number, number, Binding, Iteration, State, Cut, numbers_of, binds, is_false, stops, defines, tick, Running, Place, leaves, in_turn, counted, repeated}
use Rattle.mlir_ir.specs.Typed.{Types, with_types, knows}
use Rattle.mlir_ir.proofs.RunTraces.{begun, for_turn, while_turn}
use Rattle.scf_eval.specs.InScope.{SameInScope, SameRun}
use Rattle.scf_eval.proofs.SameRuns.{Knows, Follows, same_less, same_look, same_numbers, numbers_length, same_binds, same_definitions, same_defines, same_stops, same_then, same_if, same_tick}

-- the loop in one run and in the other, by the values in scope
module _ (T : Types) (at res : ℕ) (around : List Iteration) (results : List IrType) where
  abbrev pub place : List Binding → Place
  place env = record { at = at; res = res; around = around; env = env }

  leaves_same : (env other : List Binding) (k : ℕ) (ns ms : List Number) (s : State) → SameInScope T env other → ns ≡ ms
      → length ns ≡ length results → SameRun T (with_types T res results) (leaves (place env) k ns s) (leaves (place other) k ms s)
  leaves_same env other k ns ms s h e size =
      subst (λ ks. SameRun T (with_types T res results) (leaves (place env) k ns s) (leaves (place other) k ks s)) e (record {
        end = (same_binds T res results ns env other h size, refl);
        reports = ((refl, refl, refl, h), same_definitions T res ns around env other h);
      })

  -- an `scf.for`
  module _ (iv : IrType) (tys : List IrType) (W : Types) (body : Running) (ends : List Label) (env other : List Binding)
      (h : SameInScope T env other)
      (runs : (turns : List Iteration) → Follows T (with_types (with_types T (at + 1) (iv ∷ [])) (at + 2) tys) W (body turns) (body turns))
      (known : list_all (knows W) ends ≡ true) (many : length ends ≡ length tys) (gives : length tys ≡ length results) where
    abbrev inside : Types
    inside = with_types (with_types T (at + 1) (iv ∷ [])) (at + 2) tys

    first_bound : (v : Number) (args : List Number) → length args ≡ length tys
        → SameInScope inside (binds (at + 1) (v ∷ args) env) (binds (at + 1) (v ∷ args) other)
    first_bound v args size =
        let one : List Binding = record { label = at + 1; number = v } ∷ env in
        let two : List Binding = record { label = at + 1; number = v } ∷ other in
        let next : at + 2 ≡ at + 1 + 1 = omega arith in
        subst (λ p. SameInScope inside (binds p args one) (binds p args two)) next
        (same_binds (with_types T (at + 1) (iv ∷ [])) (at + 2) tys args one two
        (same_binds T (at + 1) (iv ∷ []) (v ∷ []) env other h refl) size)

    first_defined : (v : Number) (args : List Number) (turns : List Iteration) (s : State) → length args ≡ length tys
        → SameRun T inside (defines (at + 1) (v ∷ args) turns env s) (defines (at + 1) (v ∷ args) turns other s)
    first_defined v args turns s size = record {
      end = (first_bound v args size, refl);
      reports = same_definitions T (at + 1) (v ∷ args) turns env other h;
    }

    pub counted_same : (fuel : ℕ) (upper step v : Number) (k : ℕ) (args : List Number) (s : State) → length args ≡ length tys
        → SameRun T (with_types T res results) (counted fuel body (place env) ends upper step v k args s)
        (counted fuel body (place other) ends upper step v k args s)
    counted_same zero upper step v k args s size =
        same_if T (with_types T res results) (holds Slt v.w v.v upper.v) (holds Slt v.w v.v upper.v) (stops Cut s)
        (leaves (place env) k args s) (stops Cut s) (leaves (place other) k args s) refl
        (λ _. same_stops T (with_types T res results) Cut s)
        (λ _. leaves_same env other k args args s h refl (size ∙ gives))
    counted_same (suc fuel) upper step v k args s size =
        let V = with_types T res results in
        let turns = in_turn (place env) k in
        let w = number v.w (v.v + step.v) in
        same_if T V (holds Slt v.w v.v upper.v) (holds Slt v.w v.v upper.v)
        (tick s (for_turn fuel body (place env) ends upper step v k args)) (leaves (place env) k args s)
        (tick s (for_turn fuel body (place other) ends upper step v k args)) (leaves (place other) k args s) refl
        (λ _. same_tick T V s (for_turn fuel body (place env) ends upper step v k args)
        (for_turn fuel body (place other) ends upper step v k args)
        (λ s1. same_then T W V (begun (at + 1) (v ∷ args) turns env s1 body) (begun (at + 1) (v ∷ args) turns other s1 body)
        (λ inner s2. counted fuel body (place env) ends upper step w (k + 1) (numbers_of inner ends) s2)
        (λ inner s2. counted fuel body (place other) ends upper step w (k + 1) (numbers_of inner ends) s2)
        (same_then T inside W (defines (at + 1) (v ∷ args) turns env s1) (defines (at + 1) (v ∷ args) turns other s1)
        (body turns) (body turns) (first_defined v args turns s1 size) (runs turns))
        (λ inner outer s2 g. subst (λ ns. SameRun T V
        (counted fuel body (place env) ends upper step w (k + 1) (numbers_of inner ends) s2)
        (counted fuel body (place other) ends upper step w (k + 1) ns s2)) (same_numbers W inner outer ends g known)
        (counted_same fuel upper step w (k + 1) (numbers_of inner ends) s2 (numbers_length inner ends ∙ many)))))
        (λ _. leaves_same env other k args args s h refl (size ∙ gives))

  -- an `scf.while`
  module _ (tys params_tys : List IrType) (W X : Types) (before after : Running) (params : ℕ) (cond : Label)
      (passed ends : List Label) (env other : List Binding) (h : SameInScope T env other) (keeps : Knows W T)
      (tests : (turns : List Iteration) → Follows T (with_types T (at + 1) tys) W (before turns) (before turns))
      (runs : (turns : List Iteration) → Follows T (with_types T params params_tys) X (after turns) (after turns))
      (tested : knows W cond ≡ true) (known : list_all (knows W) passed ≡ true) (held : list_all (knows X) ends ≡ true)
      (gives : length passed ≡ length results) (fits : length passed ≡ length params_tys)
      (many : length ends ≡ length tys) where
    -- what follows the before region
    tail_same : (before_end other_end : List Binding) → SameInScope W before_end other_end
        → (is_false before_end cond ≡ is_false other_end cond) × (numbers_of before_end passed ≡ numbers_of other_end passed)
    tail_same inner outer g =
        (ap (λ (n : Number). n.v == 0) (same_look W inner outer cond g tested), same_numbers W inner outer passed g known)

    pub repeated_same : (fuel k : ℕ) (args : List Number) (s : State) → length args ≡ length tys
        → SameRun T (with_types T res results) (repeated fuel before after (place env) params cond passed ends k args s)
        (repeated fuel before after (place other) params cond passed ends k args s)
    repeated_same zero k args s size =
        let V = with_types T res results in
        let turns = in_turn (place env) k in
        same_then T W V (begun (at + 1) args turns env s before) (begun (at + 1) args turns other s before)
        (λ inner s1. if is_false inner cond then leaves (place env) k (numbers_of inner passed) s1 else stops Cut s1)
        (λ inner s1. if is_false inner cond then leaves (place other) k (numbers_of inner passed) s1 else stops Cut s1)
        (same_then T (with_types T (at + 1) tys) W (defines (at + 1) args turns env s) (defines (at + 1) args turns other s)
        (before turns) (before turns) (same_defines T (at + 1) tys args args turns env other s h refl size) (tests turns))
        (λ inner outer s1 g. same_if T V (is_false inner cond) (is_false outer cond)
        (leaves (place env) k (numbers_of inner passed) s1) (stops Cut s1)
        (leaves (place other) k (numbers_of outer passed) s1) (stops Cut s1) (tail_same inner outer g).0
        (λ _. leaves_same env other k (numbers_of inner passed) (numbers_of outer passed) s1 h (tail_same inner outer g).1
        (numbers_length inner passed ∙ gives))
        (λ _. same_stops T V Cut s1))
    repeated_same (suc fuel) k args s size =
        let V = with_types T res results in
        let turns = in_turn (place env) k in
        same_then T W V (begun (at + 1) args turns env s before) (begun (at + 1) args turns other s before)
        (λ inner s1. if is_false inner cond then leaves (place env) k (numbers_of inner passed) s1
        else tick s1 (while_turn fuel before after (place env) params cond passed ends k inner))
        (λ inner s1. if is_false inner cond then leaves (place other) k (numbers_of inner passed) s1
        else tick s1 (while_turn fuel before after (place other) params cond passed ends k inner))
        (same_then T (with_types T (at + 1) tys) W (defines (at + 1) args turns env s) (defines (at + 1) args turns other s)
        (before turns) (before turns) (same_defines T (at + 1) tys args args turns env other s h refl size) (tests turns))
        (λ inner outer s1 g. same_if T V (is_false inner cond) (is_false outer cond)
        (leaves (place env) k (numbers_of inner passed) s1)
        (tick s1 (while_turn fuel before after (place env) params cond passed ends k inner))
        (leaves (place other) k (numbers_of outer passed) s1)
        (tick s1 (while_turn fuel before after (place other) params cond passed ends k outer)) (tail_same inner outer g).0
        (λ _. leaves_same env other k (numbers_of inner passed) (numbers_of outer passed) s1 h (tail_same inner outer g).1
        (numbers_length inner passed ∙ gives))
        (λ _. same_tick T V s1 (while_turn fuel before after (place env) params cond passed ends k inner)
        (while_turn fuel before after (place other) params cond passed ends k outer)
        (λ s2. same_then T X V (begun params (numbers_of inner passed) turns inner s2 after)
        (begun params (numbers_of outer passed) turns outer s2 after)
        (λ last s3. repeated fuel before after (place env) params cond passed ends (k + 1) (numbers_of last ends) s3)
        (λ last s3. repeated fuel before after (place other) params cond passed ends (k + 1) (numbers_of last ends) s3)
        (same_then T (with_types T params params_tys) X (defines params (numbers_of inner passed) turns inner s2)
        (defines params (numbers_of outer passed) turns outer s2) (after turns) (after turns)
        (same_defines T params params_tys (numbers_of inner passed) (numbers_of outer passed) turns inner outer s2
        (same_less T W inner outer keeps g) (tail_same inner outer g).1 (numbers_length inner passed ∙ fits)) (runs turns))
        (λ last final s3 g2. subst (λ ns. SameRun T V
        (repeated fuel before after (place env) params cond passed ends (k + 1) (numbers_of last ends) s3)
        (repeated fuel before after (place other) params cond passed ends (k + 1) ns s3)) (same_numbers X last final ends g2 held)
        (repeated_same fuel (k + 1) (numbers_of last ends) s3 (numbers_length last ends ∙ many))))))
