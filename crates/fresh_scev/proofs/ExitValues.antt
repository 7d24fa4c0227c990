-- A loop has one exit value at most.
use Rattle.std.proofs.Common.{◌≡◌, ℕ, ◌^◌, subst, Option, Some, None}
use Rattle.chrec_algebra.specs.Limits.{IsWithin}
use Rattle.chrec_algebra.specs.declared.lines.Line.{Line}
use Rattle.chrec_algebra.specs.Line.{IsLine, IsSplit}
use Rattle.chrec_algebra.specs.Product.{IsProduct}
use Rattle.chrec_algebra.specs.Sum.{IsSum, IsTruncated}
use Rattle.chrec_algebra.proofs.UniqueResults.{sum_one, product_one, truncated_one, at_one, part_one}
use Rattle.scev_tree.specs.Polynomial.{Polynomial, Under}
use Rattle.scev_tree.specs.Tree.{polynomial_of}
use Rattle.scev_tree.specs.declared.expr.Expr.{Expr}
use Rattle.trip_count.specs.declared.answer.Turns.{Turns}
use Rattle.trip_count.specs.declared.answer.Turns.TheVariants.{Count, Never, Exactly, Guarded, Unknown}
use Rattle.fresh_scev.specs.Expressions.{Expression, IsCut, counter}
use Rattle.fresh_scev.specs.Loops.{IsAtValue, IsAtEnd, IsExitValue, IsFound, IsResult, settled, unsettled}

module _ (w loop : ℕ) (e : Expr) (a : Polynomial) where
  pub moved_one : (base slope turns moved c : Polynomial) → IsLine (2 ^ w) (counter loop) base slope a → IsTruncated (2 ^ w) turns (polynomial_of e.tree)
      → IsProduct (2 ^ w) moved slope turns → (h : IsAtValue w loop e a c) → h.moved ≡ moved
  moved_one base slope turns moved c l t p h =
      let es : h.slope ≡ slope = part_one (2 ^ w) (counter loop) 1 h.slope slope a h.line.slope l.slope in
      let et : h.turns ≡ turns = truncated_one (2 ^ w) h.turns turns (polynomial_of e.tree) h.truncated t in
      let first : IsProduct (2 ^ w) h.moved slope h.turns = subst (λ (z : Polynomial). IsProduct (2 ^ w) h.moved z h.turns) es h.product in
      let both : IsProduct (2 ^ w) h.moved slope turns = subst (λ (z : Polynomial). IsProduct (2 ^ w) h.moved slope z) et first in
      product_one (2 ^ w) h.moved moved slope turns both p

  pub not_moved : (base slope turns moved : Polynomial) → IsLine (2 ^ w) (counter loop) base slope a → IsTruncated (2 ^ w) turns (polynomial_of e.tree)
      → IsProduct (2 ^ w) moved slope turns → (IsWithin moved → ⊥) → (c : Polynomial) → IsAtValue w loop e a c → ⊥
  not_moved base slope turns moved l t p n c h = n (subst IsWithin (moved_one base slope turns moved c l t p h) h.small)

  pub value_one : (c d : Polynomial) → IsAtValue w loop e a c → IsAtValue w loop e a d → c ≡ d
  value_one c d h k =
      let em : k.moved ≡ h.moved = moved_one h.base h.slope h.turns h.moved d h.line h.truncated h.product k in
      let eb : k.base ≡ h.base = part_one (2 ^ w) (counter loop) 0 k.base h.base a k.line.base h.line.base in
      let first : IsSum (2 ^ w) d h.base k.moved = subst (λ (z : Polynomial). IsSum (2 ^ w) d z k.moved) eb k.sum in
      let both : IsSum (2 ^ w) d h.base h.moved = subst (λ (z : Polynomial). IsSum (2 ^ w) d h.base z) em first in
      sum_one (2 ^ w) c d h.base h.moved h.sum both

pub end_one : (P : Type 0) (w loop : ℕ) (t : Turns) (a c d : Polynomial) → IsAtEnd P w loop t a c → IsAtEnd P w loop t a d → c ≡ d
end_one P w loop (Count n) a c d h k = at_one (2 ^ w) (counter loop) n c d a h k
end_one P w loop Never a c d h k = absurd h
end_one P w loop (Exactly e) a c d h k = value_one w loop e a c d h k
end_one P w loop (Guarded pred from to e) a c d h k = value_one w loop e a c d h.1 k.1
end_one P w loop (Unknown why) a c d h k = absurd h

-- a value that has a variable from the counter on is no exit value, and no other one is
pub not_below : (P : Type 0) (w loop : ℕ) (t : Turns) (a : Expression) (found : Polynomial) → IsAtEnd P w loop t a.p found → (Under found (counter loop) → ⊥)
    → (c : Polynomial) → IsExitValue P w loop t a c → ⊥
not_below P w loop t a found at n c h = n (subst (λ (z : Polynomial). Under z (counter loop)) (end_one P w loop t a.p c found h.ends at) h.under)

-- what a split found
pub found_line : (w x : ℕ) (a : Polynomial) (o : Option Line) (l : Line) → o ≡ Some l → IsSplit w x a o
    → (l.base.w ≡ w) × (l.slope.w ≡ w) × IsLine (2 ^ w) x (polynomial_of l.base.tree) (polynomial_of l.slope.tree) a
found_line w x a o l e s = subst (IsSplit w x a) e s

-- where a guarded count counts
pub guarded_found : (w : ℕ) (P : Type 0) (Q : Polynomial → Type 0) (o : Option Expr) → P → IsFound w Q o → IsFound w (λ c. P × Q c) o
guarded_found w P Q (Some c) p f = (f.0, (p, f.1))
guarded_found w P Q None p f = λ c h. f c h.1

module _ (P : Type 0) (w loop label : ℕ) (t : Turns) (a e : Expression) (o : Option Expr) (found : Expr) where
  pub no_exit : IsFound a.w (IsAtEnd P a.w loop t a.p) o → o ≡ Some found → (Under (polynomial_of found.tree) (counter loop) → ⊥)
      → (c : Polynomial) → IsExitValue P w loop t a c → ⊥
  no_exit f is n c h =
      let at : IsFound a.w (IsAtEnd P a.w loop t a.p) (Some found) = subst (IsFound a.w (IsAtEnd P a.w loop t a.p)) is f in
      not_below P w loop t a (polynomial_of found.tree) (subst (λ v. IsAtEnd P v loop t a.p (polynomial_of found.tree)) h.width at.1) n c h

  pub settled_by : IsFound w (IsExitValue P w loop t a) o → o ≡ Some found → IsCut w label (polynomial_of found.tree) e → IsResult P w loop label t a e
  settled_by f is cut =
      let at : IsFound w (IsExitValue P w loop t a) (Some found) = subst (IsFound w (IsExitValue P w loop t a)) is f in
      settled (polynomial_of found.tree) at.1 cut

-- ---- facts that hold together prove the same guards

end_as : (P Q : Type 0) (w loop : ℕ) (t : Turns) (a c : Polynomial) → (P → Q) → IsAtEnd P w loop t a c → IsAtEnd Q w loop t a c
end_as P Q w loop (Count n) a c f h = h
end_as P Q w loop Never a c f h = absurd h
end_as P Q w loop (Exactly e) a c f h = h
end_as P Q w loop (Guarded pred from to e) a c f h = (f h.0, h.1)
end_as P Q w loop (Unknown why) a c f h = absurd h

exit_as : (P Q : Type 0) (w loop : ℕ) (t : Turns) (a : Expression) (c : Polynomial) → (P → Q) → IsExitValue P w loop t a c → IsExitValue Q w loop t a c
exit_as P Q w loop t a c f h = record { width = h.width; ends = end_as P Q w loop t a.p c f h.ends; under = h.under }

pub result_as : (P Q : Type 0) (w loop label : ℕ) (t : Turns) (a e : Expression) → (P → Q) → (Q → P) → IsResult P w loop label t a e → IsResult Q w loop label t a e
result_as P Q w loop label t a e f g (settled c h cut) = settled c (exit_as P Q w loop t a c f h) cut
result_as P Q w loop label t a e f g (unsettled n own) = unsettled (λ c h. n c (exit_as Q P w loop t a c g h)) own
