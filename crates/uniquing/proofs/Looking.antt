-- Loads of cells, one behind the other.
use Rattle.std.proofs.Common.{◌≡◌, ℕ, ◌+◌, [], ◌∷◌, ◌++◌, length, length-append, refl, sym, subst}
use Rattle.step_core.specs.declared.view.View.{View}
use Rattle.step_core.specs.declared.view.Access.{Access}
use Rattle.step_core.specs.declared.view.Access.TheVariants.{Loaded}
use Rattle.step_core.specs.declared.words.Place.TheVariants.{Cell}
use Rattle.step_core.specs.Meaning.{Meaning}
use Rattle.step_core.proofs.Lists.{all_append, all_map}
use Rattle.shared_table.specs.Steps.{LoadsCell}
use Rattle.shared_table.specs.CellPuts.{GainsCells}
use Rattle.shared_table.proofs.Probing.{makes_more}
use Rattle.uniquing.specs.Reads.{IsCellLoad, loads, Reads}
use Rattle.uniquing.proofs.Filling.{IsVisitOf, loads as visit, visits_gain}

is_visit : (e : Access) → IsCellLoad e → IsVisitOf 0 e
is_visit e (loads at n) = visit at n

module _ (m : Meaning) where
  pub reads_gain : (v w : View) (P : ℕ → Type 0) → Reads m v P w → GainsCells v w
  reads_gain v w P r = visits_gain m 0 v w r.0 r.1 (all_map IsCellLoad (IsVisitOf 0) is_visit r.0 r.2)

  pub reads_one : (v w : View) (at n : ℕ) → LoadsCell v at n w → Reads m v (λ k. k ≡ 1) w
  reads_one v w at n l = (Loaded (Cell at) n ∷ [], (w, l, refl), (loads at n, tt), refl)

  pub reads_as : (v w : View) (P Q : ℕ → Type 0) → Reads m v P w → ((k : ℕ) → P k → Q k) → Reads m v Q w
  reads_as v w P Q r f = (r.0, r.1, r.2, f (length r.0) r.3)

  pub reads_more : (u v w : View) (P Q R : ℕ → Type 0) → Reads m u P v → Reads m v Q w → ((j k : ℕ) → P j → Q k → R (j + k)) → Reads m u R w
  reads_more u v w P Q R a b f = (
    a.0 ++ b.0,
    makes_more m u v w a.0 b.0 a.1 b.1,
    all_append IsCellLoad a.0 b.0 a.2 b.2,
    subst R (sym (length-append a.0 b.0)) (f (length a.0) (length b.0) a.3 b.3),
  )
