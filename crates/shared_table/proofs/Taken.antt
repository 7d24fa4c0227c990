-- One word more is copied.
use Rattle.std.proofs.Common.{◌≡◌, ℕ, zero, suc, ◌+◌, ◌<◌, List, [], ◌∷◌, ◌++◌, length, get_or, take, drop, sym, ap, ◌∙◌, arith, length-drop, get_or-drop}
use Rattle.std.proofs.lemmas.List.{take_more}
use mathlib.Core.Option.{some, some-injective, some-ne-none}
use lib.ListN.{get_elem?}

read_at : (l : List ℕ) (i a : ℕ) → get_elem? l i ≡ some a → get_or l i 0 ≡ a
read_at [] i a e = absurd (some-ne-none a (sym e))
read_at (x ∷ xs) zero a e = some-injective x a e
read_at (x ∷ xs) (suc i) a e = read_at xs i a e

some_inside : (l : List ℕ) (i a : ℕ) → get_elem? l i ≡ some a → i < length l
some_inside [] i a e = absurd (some-ne-none a (sym e))
some_inside (x ∷ xs) zero a e = omega arith
some_inside (x ∷ xs) (suc i) a e = let s = some_inside xs i a e in omega arith

pub taken : (from : ℕ) (ws copy : List ℕ) (i a : ℕ) → get_elem? ws (from + i) ≡ some a → copy ≡ take i (drop from ws) → copy ++ a ∷ [] ≡ take (i + 1) (drop from ws)
taken from ws copy i a at is =
    let r : get_or (drop from ws) i 0 ≡ a = get_or-drop from ws i 0 ∙ read_at ws (from + i) a at in
    let inside : i < length (drop from ws) = (let s = some_inside ws (from + i) a at in omega (arith, length-drop from ws)) in
    sym (take_more (drop from ws) i 0 inside ∙ (ap (λ (l : List ℕ). l ++ get_or (drop from ws) i 0 ∷ []) (sym is) ∙ ap (λ (z : ℕ). copy ++ z ∷ []) r))
