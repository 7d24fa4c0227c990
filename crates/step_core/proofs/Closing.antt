-- Who has all authors knows all that was won.
use Rattle.std.proofs.Common.{◌≡◌, ℕ, zero, suc, ◌<◌, ◌≤◌, ◌==◌, nat_lt, List, [], ◌∷◌, length, sym, refl, ap, ◌∙◌, ⊎_elim, arith, lt-ltb, le-ltb, eq-eqb}
use Rattle.std.proofs.lemmas.Bool.{cond-true, cond-false, cases_lt}
use mathlib.Core.Option.{some, some-ne-none}
use lib.ListN.{get_elem?}
use Rattle.step_core.specs.declared.words.Words.{Words}
use Rattle.step_core.specs.declared.view.View.{View}
use Rattle.step_core.specs.Words.{author_of}
use Rattle.step_core.specs.Maps.{times, total}
use Rattle.step_core.specs.Meaning.{Meaning}
use Rattle.step_core.specs.Accesses.{won_records, won_cells, entries}
use Rattle.step_core.specs.Good.{Owns, Good}
use Rattle.step_core.proofs.Lists.{total_two, total_alone}
use Rattle.step_core.proofs.Wins.{empty_map}

no_authors : (xs : List ℕ) → ((a : ℕ) → times a xs ≡ 0) → length xs ≡ 0
no_authors [] none = refl
no_authors (x ∷ xs) none = let z = none x in let one = cond-true {A = ℕ} (x == x) 1 0 (eq-eqb x x refl) in absurd (omega arith)

module _ (m : Meaning) where
  others_have_none : (base : List ℕ) (count : ℕ) (words : Words) (views : List View) (j : ℕ) (v : View) → Good m base count words views → get_elem? views j ≡ some v → ((a : ℕ) → a < count → 0 < times a v.authors)
      → (i : ℕ) (u : View) → (i ≡ j → ⊥) → get_elem? views i ≡ some u → (a : ℕ) → times a u.authors ≡ 0
  others_have_none base count words views j v g at all i u apart there a =
      let two = total_two (λ (z : View). times a z.authors) views j i v u at there (λ e. apart (sym e)) in
      let whole = g.won.authors a in
      ⊎_elim
      (λ (lt : a < count). let one = cond-true {A = ℕ} (nat_lt a count) 1 0 (lt-ltb a count lt) in let has = all a lt in omega arith)
      (λ (ge : count ≤ a). let zero' = cond-false {A = ℕ} (nat_lt a count) 1 0 (le-ltb a count ge) in omega arith)
      (cases_lt a count)

  -- without authors nothing was won
  no_records : (log : List ℕ) (u : View) → Owns log u → ((a : ℕ) → times a u.authors ≡ 0) → won_records u.events ≡ []
  no_records log u o none = empty_map (won_records u.events) (λ at word h. let p = o.records at word h in let z = none (author_of word) in omega arith)

  no_cells : (log : List ℕ) (u : View) → Owns log u → ((a : ℕ) → times a u.authors ≡ 0) → won_cells u.events ≡ []
  no_cells log u o none = empty_map (won_cells u.events) (λ at word h. let p = o.cells at word h in let z = no_authors u.authors none in omega arith)

  alone : (f : View → ℕ) (views : List View) (j : ℕ) (v : View) → get_elem? views j ≡ some v → ((i : ℕ) (u : View) → (i ≡ j → ⊥) → get_elem? views i ≡ some u → f u ≡ 0) → total f (v ∷ []) ≡ total f views
  alone f views j v at none = let s = total_alone f views j v at none in omega arith

  pub alone_good : (base : List ℕ) (count : ℕ) (words : Words) (views : List View) (j : ℕ) (v : View) → Good m base count words views → get_elem? views j ≡ some v → ((a : ℕ) → a < count → 0 < times a v.authors)
      → Good m base count words (v ∷ [])
  alone_good base count words views j v g at all =
      let none = others_have_none base count words views j v g at all in record {
        sized = g.sized;
        log = g.log;
        is_log = g.is_log;
        are_cells = g.are_cells;
        memos = g.memos;
        fits = λ i u e. g.fits j u (at ∙ only i u e);
        won = record {
          owned = λ i u e. g.won.owned j u (at ∙ only i u e);
          records = λ p x. alone (λ z. entries p x (won_records z.events)) views j v at (λ i u ne there. ap (entries p x) (no_records g.log u (g.won.owned i u there) (none i u ne there))) ∙ g.won.records p x;
          cells = λ p x. alone (λ z. entries p x (won_cells z.events)) views j v at (λ i u ne there. ap (entries p x) (no_cells g.log u (g.won.owned i u there) (none i u ne there))) ∙ g.won.cells p x;
          authors = λ a. alone (λ z. times a z.authors) views j v at (λ i u ne there. none i u ne there a) ∙ g.won.authors a;
          few = g.won.few;
        };
      }
    where
      only : (i : ℕ) (u : View) → get_elem? (v ∷ []) i ≡ some u → some v ≡ some u
      only zero u e = e
      only (suc i) u e = absurd (some-ne-none u (sym e))
