-- Lists of bytes and of words.
use Rattle.std.proofs.Common.{◌≡◌, ℕ, ◌+◌, ◌≤◌, ◌∙◌, Bool, not, List, ◌∷◌, length, map, drop, ap, sym}
use Rattle.std.specs.List.{position_or_len, after_first}
use Rattle.std.proofs.lemmas.List.{drop-drop, drop-map}
use Rattle.std.proofs.lemmas.List.Sums.{prefix_len-le-length}

pub first_within : (p : ℕ → Bool) (xs : List ℕ) → position_or_len p xs ≤ length xs
first_within p xs = prefix_len-le-length (λ x. not (p x)) xs

-- what is behind the first that passes, of the mapped list
pub after_map : {A B : Type 0} (f : A → B) (p : B → Bool) (n : ℕ) (xs behind rest : List A) (x : A)
    → behind ≡ drop n xs → behind ≡ x ∷ rest → n ≡ position_or_len p (map f xs) → map f rest ≡ after_first p (map f xs)
after_map f p n xs behind rest x back parts first =
    let dropped : drop 1 (drop n xs) ≡ rest = ap (drop 1) (sym back ∙ parts) in
    ap (map f) (sym dropped ∙ drop-drop 1 n xs) ∙ sym (drop-map f (n + 1) xs) ∙ ap (λ k. drop (k + 1) (map f xs)) first
