-- The state in which nothing was written is good.
use Rattle.std.proofs.Common.{◌≡◌, ℕ, zero, suc, ◌+◌, ◌<◌, ◌≤◌, ◌==◌, nat_lt, if◌then◌else◌, List, [], ◌∷◌, sym, refl, ap, ◌∙◌, subst, ⊎_elim, arith, lt-ltb, le-ltb, eq-eqb, ne_eqb}
use Rattle.std.proofs.lemmas.Bool.{cond-true, cond-false, cases_eq, cases_lt}
use mathlib.Core.Option.{some, some-injective, some-ne-none}
use lib.ListN.{get_elem?}
use Rattle.step_core.specs.declared.words.Words.{Words}
use Rattle.step_core.specs.declared.view.View.{View}
use Rattle.step_core.specs.Words.{AreSized}
use Rattle.step_core.specs.Maps.{Map, Has, full_places, times}
use Rattle.step_core.specs.Meaning.{Meaning}
use Rattle.step_core.specs.Accesses.{entries}
use Rattle.step_core.specs.Views.{counting, first_view}
use Rattle.step_core.specs.Good.{IsEmpty, IsEmptyTable, Fits, Owns, Good}
use Rattle.step_core.proofs.Fullness.{has_full}
use Rattle.step_core.proofs.Wins.{empty_map}

-- each number below n once
before : (a b n : ℕ) → a < b → times a (counting b n) ≡ 0
before a b zero lt = refl
before a b (suc n) lt = let s = before a (suc b) n (omega arith) in let c = cond-false {A = ℕ} (a == b) 1 0 (ne_eqb a b (λ e. omega arith)) in omega arith

behind : (a b n : ℕ) → b + n ≤ a → times a (counting b n) ≡ 0
behind a b zero le = refl
behind a b (suc n) le = let s = behind a (suc b) n (omega arith) in let c = cond-false {A = ℕ} (a == b) 1 0 (ne_eqb a b (λ e. omega arith)) in omega arith

within : (a b n : ℕ) → b ≤ a → a < b + n → times a (counting b n) ≡ 1
within a b zero le lt = absurd (omega arith)
within a b (suc n) le lt = ⊎_elim
    (λ (e : a ≡ b). let s = before a (suc b) n (omega arith) in let c = cond-true {A = ℕ} (a == b) 1 0 (eq-eqb a b e) in omega arith)
    (λ (ne : a ≡ b → ⊥). let s = within a (suc b) n (⊎_elim (λ (lt' : b < a). lt') (λ (ge : a ≤ b). absurd (ne (omega arith))) (cases_lt b a)) (omega arith) in let c = cond-false {A = ℕ} (a == b) 1 0 (ne_eqb a b ne) in omega arith)
    (cases_eq a b)

pub each_once : (a n : ℕ) → times a (counting 0 n) ≡ (if nat_lt a n then 1 else 0)
each_once a n = ⊎_elim
    (λ (lt : a < n). within a 0 n (omega arith) (omega arith) ∙ sym (cond-true {A = ℕ} (nat_lt a n) 1 0 (lt-ltb a n lt)))
    (λ (ge : n ≤ a). behind a 0 n (omega arith) ∙ sym (cond-false {A = ℕ} (nat_lt a n) 1 0 (le-ltb a n ge)))
    (cases_lt a n)

nothing_full : (ws : List ℕ) → IsEmpty ws → full_places ws ≡ []
nothing_full ws none = empty_map (full_places ws) (λ at word h. let c = has_full ws at word h in c.1 (sym c.0 ∙ none at))

module _ (m : Meaning) where
  only : (u : View) (j : ℕ) (v : View) → get_elem? (u ∷ []) j ≡ some v → u ≡ v
  only u zero v e = some-injective u v e
  only u (suc j) v e = absurd (some-ne-none v (sym e))

  pub starts : (base : List ℕ) (count : ℕ) (words : Words) → AreSized words → IsEmptyTable words → count ≤ 16
      → Good m base count words (first_view base count ∷ [])
  starts base count words sized none_full few =
      let u : View = first_view base count in
      let none = nothing_full words.cells none_full.cells in record {
        sized = sized;
        log = [];
        is_log = record { here = none_full.log; short = omega arith; each = λ k lt. absurd (omega arith) };
        are_cells = record {
          parts = λ id w h. absurd (subst (λ (l : Map). Has l id w) none h);
          once = λ i j w h k. absurd (subst (λ (l : Map). Has l i w) none h);
          before = λ i j w h. absurd (subst (λ (l : Map). Has l i w) none h);
        };
        memos = record { keys = λ k full. absurd (full (none_full.keys k)); ids = λ k full. absurd (full (none_full.ids k)) };
        fits = λ j v e live. subst (Fits base count [] words) (only u j v e) (record { same_base = refl; same_count = refl; seen = ([], refl); keys = λ k x h. absurd h; cells = λ p x h. absurd h; closed = λ p x id h is_in. absurd h; olds = tt });
        won = record {
          owned = λ j v e. subst (Owns []) (only u j v e) (record { records = λ p x h. absurd h; cells = λ p x h. absurd h; order = λ a has. refl });
          records = λ p x. refl;
          cells = λ p x. sym (ap (entries p x) none);
          authors = λ a. let s = each_once a count in let t : times a (counting 0 count) + 0 ≡ times a (counting 0 count) = omega arith in t ∙ s;
          few = few;
        };
      }
