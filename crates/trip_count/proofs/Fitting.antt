-- the numbers of a kind are below the modulus
use Rattle.std.proofs.Common.{ℕ, ◌%◌, ◌<◌, Bool, true, false, Option, Some, None}
use Rattle.std.specs.Prelude.{◌==◌, if◌then◌else◌}
use Rattle.std.proofs.lemmas.Bool.{eqb-true}
use Rattle.arith_word.specs.declared.op.Pred.{Pred}
use Rattle.scev_tree.specs.Polynomial.{num, ext}
use Rattle.trip_count.specs.Predicate.{swapped, is_equality, is_ne, is_unit_step}
use Rattle.trip_count.specs.Shape.{Shape, affine, symbolic_step, moving, numeric, number, Fits}
use Rattle.trip_count.specs.Kind.{Kind, all_numbers, odd_step, unit_step, both_numbers, by_difference, by_sides, by_odd_step, by_unit_step, kind_of, KindFits}
use Rattle.trip_count.proofs.Chain.{Maybe, where_true, where_false, chain}

module _ (M : ℕ) (some : 0 < M) where
  abbrev MaybeFits : Option Kind → Type 0
  MaybeFits o = Maybe (KindFits M) o

  both_fit : (w : ℕ) (pred : Pred) (u v : Option ℕ) → MaybeFits (both_numbers w pred u v)
  both_fit w pred (Some u) (Some v) = tt
  both_fit w pred (Some u) None = tt
  both_fit w pred None v = tt

  difference_fits : (pred : Pred) (d : Shape) → Fits M d → MaybeFits (by_difference pred (numeric d))
  difference_fits pred (affine (num a) b) f = where_true (KindFits M) (is_equality pred) (Some (all_numbers pred a b 0)) (λ i. (f.0, f.1, some))
  difference_fits pred (affine (ext y ps) b) f = tt
  difference_fits pred symbolic_step f = tt
  difference_fits pred moving f = tt

  BelowM : Option ℕ → Type 0
  BelowM (Some c) = c < M
  BelowM None = Unit {0}

  if_below : (b : Bool) (a : ℕ) → a < M → BelowM (if b then Some a else None)
  unfolding BelowM
  if_below true a h = h
  if_below false a h = tt

  number_fits : (r : Shape) → Fits M r → BelowM (number r)
  unfolding BelowM
  number_fits (affine (num a) b) f = if_below (b == 0) a f.0
  number_fits (affine (ext y ps) b) f = tt
  number_fits symbolic_step f = tt
  number_fits moving f = tt

  sides_fit : (pred : Pred) (l : Shape) (c : Option ℕ) → Fits M l → BelowM c → MaybeFits (by_sides pred (numeric l) c)
  unfolding BelowM
  sides_fit pred (affine (num a) b) (Some c) f g = where_false (KindFits M) (is_equality pred) (Some (all_numbers pred a b c)) (f.0, f.1, g)
  sides_fit pred (affine (num a) b) None f g = tt
  sides_fit pred (affine (ext y ps) b) c f g = tt
  sides_fit pred symbolic_step c f g = tt
  sides_fit pred moving c f g = tt

  odd_step_fits : (pred : Pred) (d : Shape) → Fits M d → MaybeFits (by_odd_step pred d)
  odd_step_fits pred (affine a o) f = where_true (KindFits M) (is_ne pred) _ (λ i. where_true (KindFits M) (o % 2 == 1) (Some (odd_step a o)) (λ e. (f.0, eqb-true (o % 2) 1 e)))
  odd_step_fits pred symbolic_step f = tt
  odd_step_fits pred moving f = tt

  unit_step_fits : (w : ℕ) (pred : Pred) (l r : Shape) → Fits M l → Fits M r → MaybeFits (by_unit_step w pred l r)
  unit_step_fits w pred (affine a s) (affine c t) f g = where_true (KindFits M) (t == 0) _ (λ i. where_true (KindFits M) (is_unit_step w pred s) (Some (unit_step pred a c)) (λ j. (f.0, g.0)))
  unit_step_fits w pred (affine a s) symbolic_step f g = tt
  unit_step_fits w pred (affine a s) moving f g = tt
  unit_step_fits w pred symbolic_step r f g = tt
  unit_step_fits w pred moving r f g = tt

  pub kind_fits : (w : ℕ) (pred : Pred) (l r d : Shape) → Fits M l → Fits M r → Fits M d → KindFits M (kind_of w pred l r d)
  kind_fits w pred l r d fl fr fd =
      chain (KindFits M) w pred l r d (both_fit w pred (number l) (number r)) (difference_fits pred d fd) (sides_fit pred l (number r) fl (number_fits r fr))
      (sides_fit (swapped pred) r (number l) fr (number_fits l fl)) (odd_step_fits pred d fd) (unit_step_fits w pred l r fl fr) (unit_step_fits w (swapped pred) r l fr fl) tt
