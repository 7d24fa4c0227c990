-- Bytes that are given or put in two steps.
use Rattle.std.proofs.Common.{◌≡◌, ℕ, ◌+◌, List, [], ◌++◌, Option, Some, None, take, drop, refl, ap, sym, append_assoc, ◌∙◌}
use Rattle.std.proofs.lemmas.List.{append-nil}
use Rattle.std.proofs.Math.Seq.{take-add}
use Rattle.scev_io.specs.Bytes.{before_giving, after_putting}

-- giving two pieces is giving both at once
pub give_again : (given more : List ℕ) (left : Option (List ℕ)) → before_giving (given ++ more) left ≡ before_giving given (before_giving more left)
give_again given more None = refl
give_again given more (Some rest) = ap Some (append_assoc given more rest)

-- putting two pieces is putting both at once
pub put_again : (old : Option (List ℕ)) (a b : List ℕ) → after_putting (after_putting old a) b ≡ after_putting old (a ++ b)
put_again None a b = refl
put_again (Some old) a b = ap Some (append_assoc old a b)

-- what the source had at the start, from what it had before the last call
pub give_more : (start now left : Option (List ℕ)) (all more : List ℕ) → start ≡ before_giving all now → now ≡ before_giving more left → start ≡ before_giving (all ++ more) left
give_more start now left all more e f = e ∙ ap (before_giving all) f ∙ sym (give_again all more left)

-- giving nothing leaves what was left
pub give_nothing : (left : Option (List ℕ)) → before_giving [] left ≡ left
give_nothing None = refl
give_nothing (Some rest) = refl

-- putting nothing leaves what was written
pub put_nothing : (old : Option (List ℕ)) → after_putting old [] ≡ old
put_nothing None = refl
put_nothing (Some old) = ap Some (append-nil old)

-- one more piece is put after the first `at` bytes
pub put_more : (old : Option (List ℕ)) (bytes rest : List ℕ) (at n : ℕ) (now new : Option (List ℕ)) →
    now ≡ after_putting old (take at bytes) → rest ≡ drop at bytes → new ≡ after_putting now (take n rest) → new ≡ after_putting old (take (at + n) bytes)
put_more old bytes rest at n now new e r f =
    f
    ∙ ap (λ o. after_putting o (take n rest)) e
    ∙ put_again old (take at bytes) (take n rest)
    ∙ ap (λ v. after_putting old (take at bytes ++ take n v)) r
    ∙ ap (after_putting old) (sym (take-add at n bytes))
