use Rattle.scev_soundness.proofs.SimpleRules.{bin_numbered, cast_numbered, compared_numbered, selected_numbered}
use Rattle.scev_soundness.proofs.laws.rules_keep_values.Goals as goal

pub returns-clause-operations : goal.returns-clause-operations
returns-clause-operations k = λ s w label op a b e x y v wide first second gives is h. bin_numbered s w label wide a
    b e x y v first second is op gives h

pub returns-clause-casts : goal.returns-clause-casts
returns-clause-casts k = λ s w label from op a e x wide h is rule. cast_numbered s w label from wide op a e x h is
    rule

pub returns-clause-comparisons : goal.returns-clause-comparisons
returns-clause-comparisons k = λ s w label from pred a b e x y wide first second is rule. compared_numbered s w label
    from wide pred a b e x y first second is rule

pub returns-clause-selections : goal.returns-clause-selections
returns-clause-selections k = λ s w label from c a b e z x y wide cond first second is rule. selected_numbered s w
    label from wide c a b e z x y cond first second is rule
