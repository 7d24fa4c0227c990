-- Both sides of a test, and equal numbers.
use Rattle.std.proofs.Common.{◌≡◌, ℕ, zero, suc, ◌&&◌, ◌||◌, ◌⊎◌, inl, inr, Bool, true, false, refl, ap, arith}

pub and_parts : (a b : Bool) → (a && b) ≡ true → (a ≡ true) × (b ≡ true)
and_parts true b e = (refl, e)
and_parts false b e = cc

pub or_false : (a b : Bool) → (a || b) ≡ false → (a ≡ false) × (b ≡ false)
or_false true b h = cc
or_false false b h = (refl, h)

pub same_or : (a b : ℕ) → (a ≡ b) ⊎ (a ≡ b → ⊥)
same_or zero zero = inl refl
same_or zero (suc b) = inr (λ e. omega arith)
same_or (suc a) zero = inr (λ e. omega arith)
same_or (suc a) (suc b) = elim (same_or a b) [ inl e ↦ inl (ap suc e) | inr n ↦ inr (λ e. n (omega arith)) ]
