-- The counts of a session's commands and one more.
use Rattle.std.proofs.Common.{◌≡◌, ℕ, ◌+◌, ◌≤◌, true, cond, ◌&&◌, nat_le, List, [], ◌∷◌, ◌++◌, length, refl, arith, length-append, ap, sym, ◌∙◌}
use Rattle.std.specs.List.{count_by, sum_by}
use Rattle.std.proofs.lemmas.Bool.{and_parts, leb-true}
use Rattle.std.proofs.lemmas.List.Sums.{sum_by_push}
use Rattle.scev_script.specs.declared.script.Command.{Command}
use Rattle.scev_script.specs.Counted.{AreCounted, are_few}
use Rattle.scev_script.specs.Scripts.{is_hold, is_print, budget_of, within_limits}

-- the limits, one by one
pub record AreWithin (commands : List Command) : Type 0 where
  pub few : length commands ≤ 1024
  pub held : count_by is_hold commands ≤ 16
  pub prints : count_by is_print commands ≤ 4
  pub budget : sum_by budget_of commands ≤ 65536

pub limits_of : (commands : List Command) → within_limits commands ≡ true → AreWithin commands
limits_of commands within =
    let last = and_parts (nat_le (length commands) 1024 && nat_le (count_by is_hold commands) 16 && nat_le (count_by is_print commands) 4) (nat_le (sum_by budget_of commands) 65536) within in
    let third = and_parts (nat_le (length commands) 1024 && nat_le (count_by is_hold commands) 16) (nat_le (count_by is_print commands) 4) last.0 in
    let first = and_parts (nat_le (length commands) 1024) (nat_le (count_by is_hold commands) 16) third.0 in
    record {
      few = leb-true (length commands) 1024 first.0;
      held = leb-true (count_by is_hold commands) 16 first.1;
      prints = leb-true (count_by is_print commands) 4 third.1;
      budget = leb-true (sum_by budget_of commands) 65536 last.1;
    }

pub held_more : (commands : List Command) (c : Command) → count_by is_hold (commands ++ c ∷ []) ≡ count_by is_hold commands + cond (is_hold c) 1 0
held_more commands c = sum_by_push (λ x. cond (is_hold x) 1 0) commands c

pub prints_more : (commands : List Command) (c : Command) → count_by is_print (commands ++ c ∷ []) ≡ count_by is_print commands + cond (is_print c) 1 0
prints_more commands c = sum_by_push (λ x. cond (is_print x) 1 0) commands c

pub budget_more : (commands : List Command) (c : Command) → sum_by budget_of (commands ++ c ∷ []) ≡ sum_by budget_of commands + budget_of c
budget_more commands c = sum_by_push budget_of commands c

pub length_more : (commands : List Command) (c : Command) → length (commands ++ c ∷ []) ≡ length commands + 1
length_more commands c = omega (arith, length-append commands (c ∷ []))

-- whether one more command is within the limits, by the counts
pub fits_is : (commands : List Command) (c : Command) (held prints budget h p b : ℕ) → AreCounted commands held prints budget
    → h ≡ held + cond (is_hold c) 1 0 → p ≡ prints + cond (is_print c) 1 0 → b ≡ budget + budget_of c
    → are_few (length commands) h p b ≡ within_limits (commands ++ c ∷ [])
fits_is commands c held prints budget h p b counted h_is p_is b_is =
    let held_now : h ≡ count_by is_hold (commands ++ c ∷ []) = h_is ∙ ap (λ k. k + cond (is_hold c) 1 0) counted.held_is ∙ sym (held_more commands c) in
    let prints_now : p ≡ count_by is_print (commands ++ c ∷ []) = p_is ∙ ap (λ k. k + cond (is_print c) 1 0) counted.prints_is ∙ sym (prints_more commands c) in
    let budget_now : b ≡ sum_by budget_of (commands ++ c ∷ []) = b_is ∙ ap (λ k. k + budget_of c) counted.budget_is ∙ sym (budget_more commands c) in
    let length_now : length commands + 1 ≡ length (commands ++ c ∷ []) = sym (length_more commands c) in
    rw (held_now, prints_now, budget_now, length_now) refl
