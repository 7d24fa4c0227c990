-- The numbers of words, read one by one.
use Rattle.std.proofs.Common.{◌≡◌, ℕ, List, [], ◌∷◌, ◌++◌, Option, Some, None, refl, ap, sym, append_assoc, append-nil}
use Rattle.std.specs.Prelude.{option_map}
use Rattle.scev_script.specs.Numbers.{value_of}
use Rattle.scev_script.specs.Commands.{values_of}

after_some : (ns : List ℕ) (n : ℕ) (rest : Option (List ℕ)) → option_map (λ ms. ns ++ ms) (option_map (λ ms. n ∷ ms) rest) ≡ option_map (λ ms. (ns ++ n ∷ []) ++ ms) rest
after_some ns n None = refl
after_some ns n (Some ms) = ap Some (sym (append_assoc ns (n ∷ []) ms))

-- one more number
pub one_more : (ns : List ℕ) (w : List ℕ) (ws : List (List ℕ)) (n : ℕ) → value_of w ≡ Some n
    → option_map (λ ms. ns ++ ms) (values_of (w ∷ ws)) ≡ option_map (λ ms. (ns ++ n ∷ []) ++ ms) (values_of ws)
one_more ns w ws n reads = rw reads (after_some ns n (values_of ws))

-- a word that is no number
pub no_value : (ns : List ℕ) (w : List ℕ) (ws : List (List ℕ)) → value_of w ≡ None
    → option_map (λ ms. ns ++ ms) (values_of (w ∷ ws)) ≡ None
no_value ns w ws none = rw none refl

-- no word is left
pub all_read : (ns : List ℕ) (whole : Option (List ℕ)) → option_map (λ ms. ns ++ ms) (values_of []) ≡ whole → Some ns ≡ whole
all_read ns whole is = simp append-nil at is
