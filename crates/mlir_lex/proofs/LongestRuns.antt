-- The longest run of bytes that pass a test.
use Rattle.std.proofs.Common.{suc, zero, ◌≡◌, ℕ, ◌+◌, ◌<◌, ◌≤◌, Bool, true, false, List, [], ◌∷◌, length, take, refl, arith, inl, inr, one-add}
use Rattle.std.specs.List.{prefix_len, list_all}
use Rattle.std.proofs.lemmas.Bool.{cases_Bool, and_left, and_right}
use Rattle.std.proofs.lemmas.List.Sums.{prefix_len-le-length}

pub prefix_within : (p : ℕ → Bool) (xs : List ℕ) → prefix_len p xs ≤ length xs
prefix_within p xs = prefix_len-le-length p xs

-- all bytes of the run pass
pub run_passes : (p : ℕ → Bool) (xs : List ℕ) → list_all p (take (prefix_len p xs) xs) ≡ true
run_passes p [] = refl
run_passes p (x ∷ xs) =
    elim (cases_Bool (p x)) [
      | inl passes ↦ rw (passes, one-add (prefix_len p xs), passes) (run_passes p xs)
      | inr stops ↦ rw stops refl
    ]

-- a longer prefix than the run has a byte that doesn't pass
pub past_run : (p : ℕ → Bool) (xs : List ℕ) (more : ℕ) → prefix_len p xs < more → more ≤ length xs → list_all p (take more xs) ≡ false
past_run p xs zero beyond within = absurd (omega arith)
past_run p [] (suc more) beyond within = absurd (omega arith)
past_run p (x ∷ xs) (suc more) beyond within =
    elim (cases_Bool (p x)) [
      | inl passes ↦ let short : 1 + prefix_len p xs < suc more = rw passes at beyond in
          and_right (p x) (list_all p (take more xs)) (past_run p xs more (omega (arith, short)) (omega arith))
      | inr stops ↦ and_left (p x) (list_all p (take more xs)) stops
    ]
