-- what the table of binomials holds
use Rattle.std.proofs.Common.{◌≡◌, ℕ, ◌+◌, ◌*◌, ◌≤◌, refl, arith, List, [], ◌∷◌, get_or, true}
use Rattle.std.proofs.lemmas.Bool.{agree_below, agree_below_at, eqb-true}
use Rattle.std.specs.Prelude.{◌==◌}
use Rattle.arith_word.specs.Binomial.{binomial}

table : List ℕ
table = 1 ∷ 0 ∷ 0 ∷ 0 ∷ 0 ∷ 0 ∷ 0 ∷ 0 ∷ 0 ∷ 1 ∷ 1 ∷ 0 ∷ 0 ∷ 0 ∷ 0 ∷ 0 ∷ 0 ∷ 0 ∷ 1 ∷ 2 ∷ 1 ∷ 0 ∷ 0 ∷ 0 ∷ 0 ∷ 0 ∷ 0 ∷ 1 ∷ 3 ∷ 3 ∷ 1 ∷ 0 ∷ 0 ∷ 0 ∷ 0 ∷ 0 ∷ 1 ∷ 4 ∷ 6 ∷ 4 ∷ 1 ∷ 0 ∷ 0 ∷ 0 ∷ 0 ∷ 1 ∷ 5 ∷ 10 ∷ 10 ∷ 5 ∷ 1 ∷ 0 ∷ 0 ∷ 0 ∷ 1 ∷ 6 ∷ 15 ∷ 20 ∷ 15 ∷ 6 ∷ 1 ∷ 0 ∷ 0 ∷ 1 ∷ 7 ∷ 21 ∷ 35 ∷ 35 ∷ 21 ∷ 7 ∷ 1 ∷ 0 ∷ 1 ∷ 8 ∷ 28 ∷ 56 ∷ 70 ∷ 56 ∷ 28 ∷ 8 ∷ 1 ∷ 1 ∷ 9 ∷ 36 ∷ 84 ∷ 126 ∷ 126 ∷ 84 ∷ 36 ∷ 9 ∷ 1 ∷ 10 ∷ 45 ∷ 120 ∷ 210 ∷ 252 ∷ 210 ∷ 120 ∷ 45 ∷ 1 ∷ 11 ∷ 55 ∷ 165 ∷ 330 ∷ 462 ∷ 462 ∷ 330 ∷ 165 ∷ 1 ∷ 12 ∷ 66 ∷ 220 ∷ 495 ∷ 792 ∷ 924 ∷ 792 ∷ 495 ∷ 1 ∷ 13 ∷ 78 ∷ 286 ∷ 715 ∷ 1287 ∷ 1716 ∷ 1716 ∷ 1287 ∷ 1 ∷ 14 ∷ 91 ∷ 364 ∷ 1001 ∷ 2002 ∷ 3003 ∷ 3432 ∷ 3003 ∷ 1 ∷ 15 ∷ 105 ∷ 455 ∷ 1365 ∷ 3003 ∷ 5005 ∷ 6435 ∷ 6435 ∷ 1 ∷ 16 ∷ 120 ∷ 560 ∷ 1820 ∷ 4368 ∷ 8008 ∷ 11440 ∷ 12870 ∷ []

whole : agree_below (λ n. agree_below (λ k. get_or table (9 * n + k) 0 == binomial n k) (λ k. true) 9) (λ n. true) 17 ≡ true
unfolding binomial table
whole = refl

pub binomial_at : (n k : ℕ) → n ≤ 16 → k ≤ 8 → get_or (1 ∷ 0 ∷ 0 ∷ 0 ∷ 0 ∷ 0 ∷ 0 ∷ 0 ∷ 0 ∷ 1 ∷ 1 ∷ 0 ∷ 0 ∷ 0 ∷ 0 ∷ 0 ∷ 0 ∷ 0 ∷ 1 ∷ 2 ∷ 1 ∷ 0 ∷ 0 ∷ 0 ∷ 0 ∷ 0 ∷ 0 ∷ 1 ∷ 3 ∷ 3 ∷ 1 ∷ 0 ∷ 0 ∷ 0 ∷ 0 ∷ 0 ∷ 1 ∷ 4 ∷ 6 ∷ 4 ∷ 1 ∷ 0 ∷ 0 ∷ 0 ∷ 0 ∷ 1 ∷ 5 ∷ 10 ∷ 10 ∷ 5 ∷ 1 ∷ 0 ∷ 0 ∷ 0 ∷ 1 ∷ 6 ∷ 15 ∷ 20 ∷ 15 ∷ 6 ∷ 1 ∷ 0 ∷ 0 ∷ 1 ∷ 7 ∷ 21 ∷ 35 ∷ 35 ∷ 21 ∷ 7 ∷ 1 ∷ 0 ∷ 1 ∷ 8 ∷ 28 ∷ 56 ∷ 70 ∷ 56 ∷ 28 ∷ 8 ∷ 1 ∷ 1 ∷ 9 ∷ 36 ∷ 84 ∷ 126 ∷ 126 ∷ 84 ∷ 36 ∷ 9 ∷ 1 ∷ 10 ∷ 45 ∷ 120 ∷ 210 ∷ 252 ∷ 210 ∷ 120 ∷ 45 ∷ 1 ∷ 11 ∷ 55 ∷ 165 ∷ 330 ∷ 462 ∷ 462 ∷ 330 ∷ 165 ∷ 1 ∷ 12 ∷ 66 ∷ 220 ∷ 495 ∷ 792 ∷ 924 ∷ 792 ∷ 495 ∷ 1 ∷ 13 ∷ 78 ∷ 286 ∷ 715 ∷ 1287 ∷ 1716 ∷ 1716 ∷ 1287 ∷ 1 ∷ 14 ∷ 91 ∷ 364 ∷ 1001 ∷ 2002 ∷ 3003 ∷ 3432 ∷ 3003 ∷ 1 ∷ 15 ∷ 105 ∷ 455 ∷ 1365 ∷ 3003 ∷ 5005 ∷ 6435 ∷ 6435 ∷ 1 ∷ 16 ∷ 120 ∷ 560 ∷ 1820 ∷ 4368 ∷ 8008 ∷ 11440 ∷ 12870 ∷ []) (9 * n + k) 0 ≡ binomial n k
unfolding table
binomial_at n k hn hk =
    let row = agree_below_at (λ n. agree_below (λ k. get_or table (9 * n + k) 0 == binomial n k) (λ k. true) 9) (λ n. true) 17 n whole (omega arith) in
    eqb-true (get_or table (9 * n + k) 0) (binomial n k) (agree_below_at (λ k. get_or table (9 * n + k) 0 == binomial n k) (λ k. true) 9 k row (omega arith))
