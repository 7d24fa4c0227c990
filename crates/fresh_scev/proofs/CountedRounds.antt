-- Rounds that change nothing may be left out.
use Rattle.std.proofs.Common.{◌≡◌, ℕ, zero, suc, ◌+◌, ◌-◌, ◌≤◌, List, [], ◌∷◌, refl, subst, arith, Option, Some, None}
use Rattle.arith_word.specs.declared.label.Label.{Label}
use Rattle.mlir_ir.specs.declared.types.IrType.{IrType}
use Rattle.scev_tree.specs.declared.expr.Expr.{Expr}
use Rattle.fresh_scev.specs.Expressions.{Expression, expression_of}
use Rattle.fresh_scev.specs.Facts.{Facts, untested, AreOwn, AreAlike, AreNext, Loop, Rounds, round_limit}
use Rattle.fresh_scev.specs.Loops.{IsNext, solved, stays, IsSolution}
use Rattle.fresh_scev.specs.Still.{AreStill}

pub alike_self : (F : Facts) (n : ℕ) → AreAlike F F n
alike_self F n = record { exprs = λ l lt. refl; roles = λ l lt. refl }

pub inside_of : (loop : Loop) (Inside : Facts → Type 0) (n : ℕ) (F : Facts) → Rounds loop Inside n F → Inside F
inside_of loop Inside zero F r = r.1
inside_of loop Inside (suc n) F r = r.4

-- a round more, where it leaves the arguments as they are
pub round_more : (loop : Loop) (Inside : Facts → Type 0) (n : ℕ) (F : Facts) → AreNext loop.at F F loop.first loop.types loop.inits loop.ends → Rounds loop Inside n F → Rounds loop Inside (suc n) F
round_more loop Inside n F same r = (F, r, alike_self F loop.at, same, inside_of loop Inside n F r)

pub rounds_may_end : (loop : Loop) (Inside : Facts → Type 0) (m n : ℕ) (F : Facts) → AreNext loop.at F F loop.first loop.types loop.inits loop.ends → Rounds loop Inside n F → Rounds loop Inside (m + n) F
rounds_may_end loop Inside zero n F same r = let e : n ≡ zero + n = omega arith in subst (λ k. Rounds loop Inside k F) e r
rounds_may_end loop Inside (suc m) n F same r =
    let e : suc (m + n) ≡ suc m + n = omega arith in
    subst (λ k. Rounds loop Inside k F) e (round_more loop Inside (m + n) F same (rounds_may_end loop Inside m n F same r))

-- all rounds are done
pub rounds_done : (loop : Loop) (Inside : Facts → Type 0) (n : ℕ) (F : Facts) → n ≤ round_limit → AreNext loop.at F F loop.first loop.types loop.inits loop.ends → Rounds loop Inside n F → Rounds loop Inside round_limit F
rounds_done loop Inside n F le same r =
    let e : round_limit - n + n ≡ round_limit = omega (arith, le) in
    subst (λ k. Rounds loop Inside k F) e (rounds_may_end loop Inside (round_limit - n) n F same r)

-- what an attempt to solve an argument makes of it
abbrev pub solved_or : Expression → Option Expr → Expression
solved_or old (Some e) = expression_of e
solved_or old None = old

pub next_by_solution : (loop w label : ℕ) (old init yielded : Expression) (o : Option Expr) → IsSolution loop w label old init yielded o → IsNext loop w label old init yielded (solved_or old o)
next_by_solution loop w label old init yielded (Some e) s = solved s.0 s.1 s.2
next_by_solution loop w label old init yielded None s = stays s refl

-- ---- loops whose arguments stay

-- values without tests, which are their own symbols where there is nothing to solve
abbrev ArePlaced : Facts → ℕ → List IrType → List Label → List Label → Type 0
ArePlaced F label [] inits ends = Unit {0}
ArePlaced F label (ty ∷ tys) (i ∷ inits) (y ∷ ends) = (F.role label ≡ untested) × ArePlaced F (label + 1) tys inits ends
ArePlaced F label tys inits ends = AreOwn F label tys

own_placed : (F : Facts) (label : ℕ) (tys : List IrType) (inits ends : List Label) → AreOwn F label tys → ArePlaced F label tys inits ends
own_placed F label [] inits ends h = tt
own_placed F label (ty ∷ tys) [] ends h = h
own_placed F label (ty ∷ tys) (i ∷ inits) [] h = h
own_placed F label (ty ∷ tys) (i ∷ inits) (y ∷ ends) h = (h.0.1, own_placed F (label + 1) tys inits ends h.1)

next_placed : (loop : ℕ) (old F : Facts) (label : ℕ) (tys : List IrType) (inits ends : List Label) → AreNext loop old F label tys inits ends → ArePlaced F label tys inits ends
next_placed loop old F label [] inits ends h = tt
next_placed loop old F label (ty ∷ tys) [] ends h = h
next_placed loop old F label (ty ∷ tys) (i ∷ inits) [] h = h
next_placed loop old F label (ty ∷ tys) (i ∷ inits) (y ∷ ends) h = (h.1, next_placed loop old F (label + 1) tys inits ends h.2)

rounds_placed : (loop : Loop) (Inside : Facts → Type 0) (n : ℕ) (F : Facts) → Rounds loop Inside n F → ArePlaced F loop.first loop.types loop.inits loop.ends
rounds_placed loop Inside zero F r = own_placed F loop.first loop.types loop.inits loop.ends r.0
rounds_placed loop Inside (suc n) F r = next_placed loop.at r.0 F loop.first loop.types loop.inits loop.ends r.3

still_next : (loop : ℕ) (F : Facts) (label : ℕ) (tys : List IrType) (inits ends : List Label) → ArePlaced F label tys inits ends → AreStill loop F label tys inits ends → AreNext loop F F label tys inits ends
still_next loop F label [] inits ends p s = tt
still_next loop F label (ty ∷ tys) [] ends p s = p
still_next loop F label (ty ∷ tys) (i ∷ inits) [] p s = p
still_next loop F label (ty ∷ tys) (i ∷ inits) (y ∷ ends) p s = (stays s.0 refl, p.0, still_next loop F (label + 1) tys inits ends p.1 s.1)

-- the rounds are done where no argument is solved any more
pub still_rounds : (loop : Loop) (Inside : Facts → Type 0) (n : ℕ) (F : Facts) → n ≤ round_limit → AreStill loop.at F loop.first loop.types loop.inits loop.ends → Rounds loop Inside n F → Rounds loop Inside round_limit F
still_rounds loop Inside n F le s r =
    rounds_done loop Inside n F le (still_next loop.at F loop.first loop.types loop.inits loop.ends (rounds_placed loop Inside n F r) s) r
