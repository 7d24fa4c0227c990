-- what the predicates hold of
use Rattle.std.proofs.Common.{◌≡◌, ℕ, ◌+◌, ◌-◌, ◌%◌, ◌<◌, refl, ap, ◌∙◌, sym, arith, inl, inr, true}
use Rattle.std.specs.Prelude.{not, ◌==◌}
use Rattle.std.proofs.lemmas.Bool.{eq-eqb, ne_eqb, cases_eq, cases_lt, both_ways}
use Rattle.std.proofs.Math.Nat.{mod-eq_of_lt, mod_self}
use Rattle.arith_word.specs.Operation.{holds}
use Rattle.arith_word.specs.declared.op.Pred.{Pred}
use Rattle.arith_word.specs.declared.op.Pred.TheVariants.{Eq, Ne, Slt, Sle, Sgt, Sge, Ult, Ule, Ugt, Uge}
use Rattle.exit_solver.proofs.Distances.{wrapped}
use Rattle.trip_count.specs.Predicate.{swapped, is_equality, is_ne}

equal_swaps : (x y : ℕ) → (x == y) ≡ (y == x)
equal_swaps x y = elim (cases_eq x y) [ inl e ↦ eq-eqb x y e ∙ sym (eq-eqb y x (sym e)) | inr ne ↦ ne_eqb x y ne ∙ sym (ne_eqb y x (λ e. ne (sym e))) ]

pub swapped_holds : (w : ℕ) (pred : Pred) (x y : ℕ) → holds (swapped pred) w y x ≡ holds pred w x y
swapped_holds w Eq x y = equal_swaps y x
swapped_holds w Ne x y = ap not (equal_swaps y x)
swapped_holds w Slt x y = refl
swapped_holds w Sle x y = refl
swapped_holds w Sgt x y = refl
swapped_holds w Sge x y = refl
swapped_holds w Ult x y = refl
swapped_holds w Ule x y = refl
swapped_holds w Ugt x y = refl
swapped_holds w Uge x y = refl

-- two residues are equal where their difference is 0
pub equal_by_difference : (M x y d : ℕ) → x < M → y < M → d ≡ (x + (M - y)) % M → (x == y) ≡ (d == 0)
equal_by_difference M x y d lx ly e =
    elim (cases_lt x y) [
      | inl lt ↦ (let s : x + (M - y) < M = omega arith in let v : (x + (M - y)) % M ≡ x + (M - y) = mod-eq_of_lt s in ne_eqb x y (λ q. omega arith) ∙ sym (ne_eqb d 0 (λ q. omega arith)))
      | inr ge ↦ elim (cases_eq x y) [
        | inl q ↦ (let s : x + (M - y) ≡ M = omega arith in let v : (x + (M - y)) % M ≡ 0 = ap (λ k. k % M) s ∙ mod_self M in eq-eqb x y q ∙ sym (eq-eqb d 0 (e ∙ v)))
        | inr ne ↦ (let s : x + (M - y) ≡ x - y + M = omega arith in let v : (x + (M - y)) % M ≡ x - y = ap (λ k. k % M) s ∙ wrapped M (x - y) (omega arith) in ne_eqb x y ne ∙ sym (ne_eqb d 0 (λ q. ne (omega arith))))
      ]
    ]

pub by_equality : (w : ℕ) (pred : Pred) (x y d : ℕ) → is_equality pred ≡ true → (x == y) ≡ (d == 0) → holds pred w x y ≡ holds pred w d 0
by_equality w Eq x y d i e = e
by_equality w Ne x y d i e = ap not e
by_equality w Slt x y d i e = absurd (both_ways _ refl i)
by_equality w Sle x y d i e = absurd (both_ways _ refl i)
by_equality w Sgt x y d i e = absurd (both_ways _ refl i)
by_equality w Sge x y d i e = absurd (both_ways _ refl i)
by_equality w Ult x y d i e = absurd (both_ways _ refl i)
by_equality w Ule x y d i e = absurd (both_ways _ refl i)
by_equality w Ugt x y d i e = absurd (both_ways _ refl i)
by_equality w Uge x y d i e = absurd (both_ways _ refl i)

pub ne_is_equality : (p : Pred) → is_ne p ≡ true → is_equality p ≡ true
ne_is_equality Eq i = refl
ne_is_equality Ne i = refl
ne_is_equality Slt i = absurd (both_ways _ refl i)
ne_is_equality Sle i = absurd (both_ways _ refl i)
ne_is_equality Sgt i = absurd (both_ways _ refl i)
ne_is_equality Sge i = absurd (both_ways _ refl i)
ne_is_equality Ult i = absurd (both_ways _ refl i)
ne_is_equality Ule i = absurd (both_ways _ refl i)
ne_is_equality Ugt i = absurd (both_ways _ refl i)
ne_is_equality Uge i = absurd (both_ways _ refl i)

pub ne_holds : (p : Pred) (w v : ℕ) → is_ne p ≡ true → holds p w v 0 ≡ not (v == 0)
ne_holds Eq w v i = absurd (both_ways _ refl i)
ne_holds Ne w v i = refl
ne_holds Slt w v i = absurd (both_ways _ refl i)
ne_holds Sle w v i = absurd (both_ways _ refl i)
ne_holds Sgt w v i = absurd (both_ways _ refl i)
ne_holds Sge w v i = absurd (both_ways _ refl i)
ne_holds Ult w v i = absurd (both_ways _ refl i)
ne_holds Ule w v i = absurd (both_ways _ refl i)
ne_holds Ugt w v i = absurd (both_ways _ refl i)
ne_holds Uge w v i = absurd (both_ways _ refl i)
