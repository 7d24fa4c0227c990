-- the distance of two polynomials
use Rattle.std.proofs.Common.{◌≡◌, ℕ, ◌^◌, subst, Bool}
use Rattle.scev_tree.specs.Polynomial.{Polynomial}
use Rattle.trip_count.specs.Turns.{IsDistance}

pub distance_is : (v w : ℕ) (r s : Bool) (e f a b c : Polynomial) → v ≡ w → r ≡ s → f ≡ a → b ≡ c → IsDistance (2 ^ v) r e f b → IsDistance (2 ^ w) s e a c
distance_is v w r s e f a b c ew er ef eb h =
    let h1 : IsDistance (2 ^ w) r e f b = subst (λ x. IsDistance (2 ^ x) r e f b) ew h in
    let h2 : IsDistance (2 ^ w) s e f b = subst (λ x. IsDistance (2 ^ w) x e f b) er h1 in
    let h3 : IsDistance (2 ^ w) s e a b = subst (λ x. IsDistance (2 ^ w) s e x b) ef h2 in
    subst (λ x. IsDistance (2 ^ w) s e a x) eb h3
