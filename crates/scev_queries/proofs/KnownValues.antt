-- Values and loops of a function of which all is known: each has its expression or its trip count.
use Rattle.std.proofs.Common.{◌≡◌, ℕ, List, slice_get, Some, None, ◌∙◌, subst}
use Rattle.std.proofs.lemmas.Option.{get_or_from_slice_get, slice_get_within}
use Rattle.std.specs.List.{All}
use Rattle.fresh_scev.specs.Answers.{count_at, value_at}
use Rattle.fresh_scev.specs.Entries.{HasCount, HasValue}
use Rattle.mlir_ir.specs.Loops.{func_loops}
use Rattle.mlir_ir.specs.declared.loop_labels.LoopLabels.{LoopLabels}
use Rattle.scev_queries.specs.Kept.{IsKnown}
use Rattle.scev_queries.specs.declared.known.Known.{Known}
use Rattle.scev_text.specs.Naming.{label_named}
use Rattle.scev_queries.proofs.NamedValues.{named_is_value}

pub each : {X : Type 0} (P : X → Type 0) (xs : List X) (k : ℕ) (x : X) → All P xs → slice_get xs k ≡ Some x → P x
each P xs k x h e = subst P (get_or_from_slice_get xs k x x e) (h k x (slice_get_within xs k x e))

pub has_expression : (k : Known) → IsKnown k → (name : List ℕ) (nth place label : ℕ) → label_named k.names.values name nth place ≡ Some label → HasValue k.facts label
has_expression k known name nth place label e =
    let v = named_is_value k.func.now known.formed name nth place label (subst (λ names. label_named names.values name nth place ≡ Some label) known.names e) in
    known.values label v.0 v.1

pub never_without : (k : Known) → IsKnown k → (name : List ℕ) (nth place label : ℕ) → label_named k.names.values name nth place ≡ Some label → None ≡ value_at k.facts label → ⊥
never_without k known name nth place label e none =
    let v = has_expression k known name nth place label e in
    let both : None ≡ Some v.0 = none ∙ v.1 in
    absurd (cc)

pub never_uncounted : (k : Known) → IsKnown k → (number : ℕ) (l : LoopLabels) → slice_get k.names.loops number ≡ Some l → None ≡ count_at k.facts l.counter.0 → ⊥
never_uncounted k known number l e none =
    let h : HasCount k.facts l.counter.0 = each (λ (l : LoopLabels). HasCount k.facts l.counter.0) (func_loops k.func.now) number l known.counts (subst (λ names. slice_get names.loops number ≡ Some l) known.names e) in
    let both : None ≡ Some h.0 = none ∙ h.1 in
    absurd (cc)
