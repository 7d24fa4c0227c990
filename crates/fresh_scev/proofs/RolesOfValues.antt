-- What is asked of a label's role as that of a value.
use Rattle.std.proofs.Common.{◌≡◌, ℕ, ◌↔◌, Bool, IsTrue, Option, None, sym, subst}
use Rattle.trip_count.specs.declared.answer.Turns.{Turns}
use Rattle.fresh_scev.specs.Facts.{Facts, Role, unnamed, counts, untested, tested, IsGuardOf, IsTested}
use Rattle.fresh_scev.specs.Table.{as_value}

pub guard_role : (F : Facts) (t : Turns) (guards : Bool) (q r : Role) → q ≡ as_value r → (IsTrue guards ↔ IsGuardOf F t q) → IsTrue guards ↔ IsGuardOf F t r
guard_role F t guards q unnamed e h = subst (λ x. IsTrue guards ↔ IsGuardOf F t x) e h
guard_role F t guards q counts e h = subst (λ x. IsTrue guards ↔ IsGuardOf F t x) e h
guard_role F t guards q untested e h = subst (λ x. IsTrue guards ↔ IsGuardOf F t x) e h
guard_role F t guards q (tested test) e h = subst (λ x. IsTrue guards ↔ IsGuardOf F t x) e h

pub tested_role : (F : Facts) (loop : ℕ) (v : Option ℕ) (t : Turns) (q r : Role) → v ≡ None → q ≡ as_value r → IsTested F loop None q t → IsTested F loop v r t
tested_role F loop v t q unnamed none e h = subst (λ o. IsTested F loop o unnamed t) (sym none) (subst (λ x. IsTested F loop None x t) e h)
tested_role F loop v t q counts none e h = subst (λ o. IsTested F loop o counts t) (sym none) (subst (λ x. IsTested F loop None x t) e h)
tested_role F loop v t q untested none e h = subst (λ o. IsTested F loop o untested t) (sym none) (subst (λ x. IsTested F loop None x t) e h)
tested_role F loop v t q (tested test) none e h = subst (λ o. IsTested F loop o (tested test) t) (sym none) (subst (λ x. IsTested F loop None x t) e h)
