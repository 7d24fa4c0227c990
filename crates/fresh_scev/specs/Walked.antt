-- What the walk over a function's operations shows of the table of facts.
use Rattle.std.specs.Prelude.{◌≡◌, ℕ, List}
use Rattle.mlir_ir.specs.Operations.{OpKind, Simple}
use Rattle.mlir_ir.specs.Typed.{simple_uses}
use Rattle.mlir_ir.specs.declared.types.IrType.{IrType}
use Rattle.fresh_scev.specs.Expressions.{Expression, own}
use Rattle.fresh_scev.specs.Facts.{Facts, Role, untested, AreOwn, AreRuled, IsRuled, role_of}
use Rattle.fresh_scev.specs.Table.{facts_of, Grows}
use Rattle.fresh_scev.specs.UsesBelow.{AreBelow}
use Rattle.fresh_scev.specs.declared.table.Table.{Table}

-- a result of an operation without regions; one with regions has its own symbol here
abbrev pub IsKindRuled : Facts → ℕ → ℕ → OpKind → Expression → Type 0
IsKindRuled F w label (Simple does) e = IsRuled F w label does e
IsKindRuled F w label _ e = e ≡ own w label

-- the operands of an operation without regions are defined before
abbrev pub SimpleUsesBelow : OpKind → ℕ → Type 0
SimpleUsesBelow (Simple does) at = AreBelow (simple_uses does) at
SimpleUsesBelow _ at = Unit {0}

abbrev pub kind_role : OpKind → Role
kind_role (Simple does) = role_of does
kind_role _ = untested

abbrev pub AreKindRuled : Facts → ℕ → List IrType → OpKind → Type 0
AreKindRuled F label tys (Simple does) = AreRuled F label tys does
AreKindRuled F label tys _ = AreOwn F label tys

-- the table has grown by n facts, and now says this
pub record Says (s t : Table) (n : ℕ) (what : Facts → Type 0) : Type 0 where
  pub grows : Grows s t n
  pub facts : what (facts_of t)
