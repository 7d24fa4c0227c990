-- Numbers that are passed: the first, then the others each behind a comma.
use Rattle.std.proofs.Common.{◌≡◌, ℕ, List, [], ◌∷◌, ◌++◌, ap, codes, append-nil, append_assoc, sym, ◌∙◌}
use Rattle.std.specs.List.{IsFirstAndRest}
use Rattle.arith_word.specs.declared.word.Word.{Word}
use Rattle.mlir_ir.specs.Runs.{Number}
use Rattle.scf_eval.specs.States.{number_of, numbers}
use Rattle.scev_queries.specs.Passed.{behind_commas}
use Rattle.scev_queries.specs.RunTexts.{word_text, passed_text}

join : (w c m b p : List ℕ) → p ≡ m ++ b → w ++ c ++ p ≡ w ++ (c ++ m ++ b)
join w c m b p e = ap (λ r. w ++ c ++ r) e ∙ append_assoc w c (m ++ b) ∙ ap (λ r. w ++ r) (sym (append_assoc c m b))

pub first_passed : (n : Number) (ns : List Number) → passed_text (n ∷ ns) ≡ word_text n ++ behind_commas ns
first_passed n [] = sym (append-nil (word_text n))
first_passed n (m ∷ ns) = join (word_text n) (codes ",") (word_text m) (behind_commas ns) (passed_text (m ∷ ns)) (first_passed m ns)

-- what is written: the first word, then the others
pub passed_on : (out o1 o2 : List ℕ) (words more : List Word) (w : Word) → IsFirstAndRest words w more → o1 ≡ out ++ word_text (number_of w) → o2 ≡ o1 ++ behind_commas (numbers more)
    → o2 ≡ out ++ passed_text (numbers words)
passed_on out o1 o2 words more w is e f =
    let n = number_of w in
    f ∙ ap (λ o. o ++ behind_commas (numbers more)) e ∙ append_assoc out (word_text n) (behind_commas (numbers more)) ∙ ap (λ r. out ++ r) (sym (first_passed n (numbers more)))
    ∙ ap (λ ws. out ++ passed_text (numbers ws)) (sym is.0)
