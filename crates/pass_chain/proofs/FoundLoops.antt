-- The `scf.for` at a label of a function, as its items have it.
use Rattle.std.proofs.Common.{◌≡◌, ℕ, ◌≤◌, List, length, refl, sym, subst, Option, Some, None}
use Rattle.std.specs.Prelude.{MatchOption}
use Rattle.mlir_ir.proofs.SizedFunctions.{well_formed}
use Rattle.mlir_ir.specs.Check.{IsWellFormed}
use Rattle.mlir_ir.specs.Limits.{item_limit}
use Rattle.mlir_ir.specs.Operations.{OpList}
use Rattle.mlir_ir.specs.Sized.{SizedItems}
use Rattle.mlir_ir.specs.View.{view_items}
use Rattle.mlir_ir.specs.WellFormed.{IsSizedBody}
use Rattle.mlir_ir.specs.declared.types.Body.{Body}
use Rattle.mlir_ir.specs.declared.types.Func.{Func}
use Rattle.fresh_scev.proofs.FittingLabels.{items_length}
use Rattle.pass_copy.specs.Replaced.{StandsInItems, StandsInBody}
use Rattle.pass_unroll.specs.Copies.{ForLoop, operation_of}
use Rattle.pass_chain.specs.Finding.{FindsInItems}
use Rattle.pass_chain.specs.Plans.{IsFor, IsForWith}
use Rattle.pass_chain.specs.declared.bounds.Bounds.{Bounds}
use Rattle.pass_chain.proofs.ReadPlans.{for_with}

module _ (f : Func) (t : ℕ) where
  abbrev pub IsFound : Option Bounds → Type 0
  IsFound r = MatchOption r (IsFor f t → ⊥) (λ b. IsForWith f t b)

  pub found_in_func : (body : Body) (items : List OpList) (r : Option Bounds) → f.body ≡ Some body
      → items ≡ view_items body.items → FindsInItems t f.index items r → IsFound r
  found_in_func body items None e is none = λ h. none (operation_of h.0) refl (inside h.0 h.1)
    where
      inside : (o : ForLoop) → StandsInBody t (operation_of o) f.index f.body
          → StandsInItems t (operation_of o) f.index 1 items
      inside o s = subst (λ xs. StandsInItems t (operation_of o) f.index 1 xs) (sym is)
          (subst (λ b. StandsInBody t (operation_of o) f.index b) e s)
  found_in_func body items (Some b) e is found =
      for_with f t b found.0 found.1
      (subst (λ x. StandsInBody t found.0 f.index x) (sym e)
      (subst (λ xs. StandsInItems t found.0 f.index 1 xs) is found.2))

  pub none_in_func : f.body ≡ None → IsFor f t → ⊥
  none_in_func e h = subst (λ b. StandsInBody t (operation_of h.0) f.index b) e h.1

pub sized_items : (f : Func) (body : Body) → IsWellFormed f → f.body ≡ Some body → SizedItems (view_items body.items)
sized_items f body well e = (subst IsSizedBody e (well_formed f well).2.inside).inside

pub few_items : (f : Func) (body : Body) → IsWellFormed f → f.body ≡ Some body → length body.items ≤ item_limit
few_items f body well e =
    subst (λ n. n ≤ item_limit) (items_length body.items) (subst IsSizedBody e (well_formed f well).2.inside).few
