-- The position of the first element that passes a test, where an element is put behind a list.
use Rattle.std.proofs.Common.{◌≡◌, ℕ, ◌+◌, ◌<◌, ◌==◌, Bool, cond, List, [], ◌∷◌, ◌++◌, length, take, get_or, Some, None, ap, ◌∙◌, arith}
use Rattle.std.proofs.lemmas.List.{take_more, length-take-le}
use Rattle.std.specs.List.{position_from}
use Rattle.std.specs.Option.{option_or}
use Rattle.mlir_ir.specs.declared.loop_labels.LoopLabels.{LoopLabels}
use Rattle.scev_text.specs.Naming.{loop_number}

position_push : {A : Type 0} (t : A → Bool) (i : ℕ) (xs : List A) (x : A) →
    position_from t i (xs ++ x ∷ []) ≡ option_or (position_from t i xs) (cond (t x) (Some (i + length xs)) None)
position_push t i [] x = grind arith
position_push t i (y ∷ ys) x = grind (arith, position_push t (i + 1) ys x)

-- behind the first n loops comes the next
pub number_more : (loops : List LoopLabels) (n : ℕ) (d : LoopLabels) (label : ℕ) → n < length loops →
    loop_number (take (n + 1) loops) label ≡ option_or (loop_number (take n loops) label) (cond ((get_or loops n d).counter.0 == label) (Some n) None)
number_more loops n d label lt =
    let size : 0 + length (take n loops) ≡ n = omega (arith, length-take-le n loops (omega arith)) in
    ap (λ ls. loop_number ls label) (take_more loops n d lt)
    ∙ position_push (λ (l : LoopLabels). l.counter.0 == label) 0 (take n loops) (get_or loops n d)
    ∙ ap (λ k. option_or (loop_number (take n loops) label) (cond ((get_or loops n d).counter.0 == label) (Some k) None)) size
