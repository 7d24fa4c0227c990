-- trip counts that are the least iteration with a fact
use Rattle.std.proofs.Common.{◌≡◌, ℕ, refl, arith, Bool, true, false}
use Rattle.std.proofs.lemmas.Bool.{both_ways}
use Rattle.exit_solver.specs.Exit.{IsLeast}
use Rattle.exit_solver.specs.declared.hit.Hit.{Hit}
use Rattle.exit_solver.specs.declared.hit.Hit.TheVariants.{At, Never as NoHit}
use Rattle.trip_count.specs.Failing.{IsLeastNumber, value_of, guarded_value}
use Rattle.trip_count.specs.Turns.{always, count_of}
use Rattle.trip_count.specs.declared.answer.Turns.{Turns}
use Rattle.trip_count.specs.declared.answer.Turns.TheVariants.{Count, Never, Exactly, Guarded, Unknown}

abbrev pub IsTrip : (ℕ → ℕ) → (ℕ → Type 0) → Turns → Type 0
IsTrip env P (Count n) = IsLeastNumber P n
IsTrip env P Never = (k : ℕ) → P k → ⊥
IsTrip env P (Exactly e) = IsLeastNumber P (value_of env e)
IsTrip env P (Guarded pred a c e) = IsLeastNumber P (guarded_value env pred a c e)
IsTrip env P (Unknown why) = Unit {0}

pub always_trip : (env : ℕ → ℕ) (P : ℕ → Type 0) (b : Bool) → ((n : ℕ) → b ≡ false → P n) → ((n : ℕ) → P n → b ≡ false) → IsTrip env P (always b)
always_trip env P true f g = λ k p. both_ways true (g k p) refl
always_trip env P false f g = (f 0 refl, λ k p. omega arith)

pub hit_trip : (env : ℕ → ℕ) (P : ℕ → Type 0) (h : Hit) → IsLeast P h → IsTrip env P (count_of h)
hit_trip env P (At n) l = l
hit_trip env P NoHit l = l
