-- Several tries in a row, at log places.
use Rattle.std.proofs.Common.{◌≡◌, ℕ, suc, ◌+◌, ◌-◌, ◌/◌, ◌<◌, ◌≤◌, ◌==◌, ◌&&◌, not, Bool, true, List, [], ◌∷◌, ◌++◌, length, length-append, sym, ap, ◌∙◌, ⊎_elim, arith, eq-eqb, ne_eqb, true≢false}
use Rattle.std.proofs.lemmas.Bool.{cond_both, eqb-false, cases_lt}
use Rattle.std.proofs.lemmas.List.{length_push}
use Rattle.step_core.specs.declared.view.View.{View}
use Rattle.step_core.specs.Words.{IsRecordAt}
use Rattle.step_core.specs.Answers.{put_found}
use Rattle.step_core.specs.Events.{grown}
use Rattle.step_core.proofs.Lists.{all_append, prefix_length, grown_longer}
use Rattle.shared_table.specs.Steps.{tried_log}
use Rattle.shared_table.specs.Puts.{tries_log, IsLost}

pub record_full : (at w : ℕ) → IsRecordAt at w → w ≡ 0 → ⊥
record_full at w r z = let m = r.0.marked in let n : w / 144115188075855872 ≡ 0 = ap (λ (x : ℕ). x / 144115188075855872) z in omega arith

-- the place of a try is seen full
pub seen_now : (log : List ℕ) (k n word : ℕ) → 1 ≤ k → k ≤ length log + 1 → (word ≡ 0 → ⊥) → k ≤ length (grown log (k - 1) (put_found n word))
seen_now log k n word low below full =
    let x : ℕ = put_found n word in
    let some : x ≡ 0 → ⊥ = cond_both (n == 0) word n (λ (z : ℕ). z ≡ 0 → ⊥) (λ _. full) (λ f. eqb-false n 0 f) in
    let c : Bool = (k - 1 == length log) && not (x == 0) in
    ⊎_elim
    (λ (lt : k < length log + 1). let p = prefix_length log (grown log (k - 1) x) (grown_longer log (k - 1) x) in omega arith)
    (λ (ge : length log + 1 ≤ k).
    let here : k - 1 ≡ length log = omega arith in
    let is : c ≡ true = ap (λ (b : Bool). b && not (x == 0)) (eq-eqb (k - 1) (length log) here) ∙ ap (λ (b : Bool). true && not b) (ne_eqb x 0 some) in
    cond_both c (log ++ x ∷ []) log (λ (l : List ℕ). k ≤ length l)
    (λ _. omega (arith, length_push log x))
    (λ f. absurd (true≢false (sym is ∙ f))))
    (cases_lt k (length log + 1))

tries_more : (v : View) (k word : ℕ) (ns : List ℕ) (n at : ℕ) → k + length ns ≡ at → tries_log v k word (ns ++ n ∷ []) ≡ tried_log (tries_log v k word ns) at word n
tries_more v k word [] n at e = let z : k ≡ at = omega arith in ap (λ (i : ℕ). tried_log v i word n) z
tries_more v k word (m ∷ ns) n at e = tries_more (tried_log v k word m) (suc k) word ns n at (omega arith)

-- one more try
pub one_more_try : (v w w' : View) (from k word n : ℕ) (lost : List ℕ) → from + length lost ≡ k → w ≡ tries_log v from word lost → w' ≡ tried_log w k word n → w' ≡ tries_log v from word (lost ++ n ∷ [])
one_more_try v w w' from k word n lost e was now = now ∙ (ap (λ (z : View). tried_log z k word n) was ∙ sym (tries_more v from word lost n k e))

pub one_more_lost : (from k n : ℕ) (lost : List ℕ) → IsLost from k lost → (n ≡ 0 → ⊥) → IsLost from (k + 1) (lost ++ n ∷ [])
one_more_lost from k n lost l ne = let u = l.upto in record {
  full = all_append (λ (m : ℕ). m ≡ 0 → ⊥) lost (n ∷ []) l.full (ne, tt);
  upto = omega (arith, length-append lost (n ∷ []));
}
