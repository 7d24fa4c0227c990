-- The types of labels one after another.
use Rattle.std.proofs.Common.{◌≡◌, ℕ, zero, suc, ◌+◌, ◌<◌, ◌≤◌, List, [], ◌∷◌, length, get_or, refl, arith, Some, None}
use Rattle.std.proofs.lemmas.Bool.{eq-eqb, ne_eqb}
use Rattle.mlir_ir.specs.Rules.{arg_types}
use Rattle.mlir_ir.specs.Typed.{typed_from}
use Rattle.mlir_ir.specs.declared.types.Arg.{Arg}
use Rattle.mlir_ir.specs.declared.types.IrType.{IrType}

pub typed_before : (at : ℕ) (tys : List IrType) (l : ℕ) → l < at → typed_from at tys l ≡ None
typed_before at [] l h = refl
typed_before at (ty ∷ tys) l h = rw (ne_eqb at l (λ e. omega arith)) (typed_before (at + 1) tys l (omega arith))

pub typed_nth : (at : ℕ) (tys : List IrType) (l i : ℕ) (d : IrType) → at + i ≡ l → i < length tys → typed_from at tys l ≡ Some (get_or tys i d)
typed_nth at [] l i d e h = absurd (omega arith)
typed_nth at (ty ∷ tys) l zero d e h = rw (eq-eqb at l (omega arith)) refl
typed_nth at (ty ∷ tys) l (suc i) d e h = rw (ne_eqb at l (λ q. omega arith)) (typed_nth (at + 1) tys l i d (omega arith) (omega arith))

-- the same by the arguments that have them

pub typed_arg : (at : ℕ) (args : List Arg) (l i : ℕ) (d : Arg) → at + i ≡ l → i < length args → typed_from at (arg_types args) l ≡ Some (get_or args i d).ty
typed_arg at [] l i d e h = absurd (omega arith)
typed_arg at (arg ∷ args) l zero d e h = rw (eq-eqb at l (omega arith)) refl
typed_arg at (arg ∷ args) l (suc i) d e h = rw (ne_eqb at l (λ q. omega arith)) (typed_arg (at + 1) args l i d (omega arith) (omega arith))

pub typed_past_args : (at : ℕ) (args : List Arg) (l : ℕ) → at + length args ≤ l → typed_from at (arg_types args) l ≡ None
typed_past_args at [] l h = refl
typed_past_args at (arg ∷ args) l h = rw (ne_eqb at l (λ e. omega arith)) (typed_past_args (at + 1) args l (omega arith))
