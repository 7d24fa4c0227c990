-- Tests of types, and of lengths.
use Rattle.std.proofs.Common.{suc, ◌≡◌, ℕ, ◌==◌, true, List, [], ◌∷◌, length, refl, ap, arith, eq-eqb}
use Rattle.std.proofs.lemmas.Bool.Decides.{nat_tests}
use Rattle.mlir_ir.specs.Rules.{arg_types, same_type, same_types}
use Rattle.mlir_ir.specs.declared.types.Arg.{Arg}
use Rattle.mlir_ir.specs.declared.types.IrType.{IrType}
use Rattle.mlir_ir.specs.declared.types.IrType.TheVariants.{Int, Index}
use Rattle.round_trip.proofs.Tests.{and_parts}

pub same_type_is : (a b : IrType) → same_type a b ≡ true → a ≡ b
same_type_is (Int a) (Int b) h = let e : a ≡ b = grind (arith, nat_tests) in ap Int e
same_type_is (Int a) Index h = cc
same_type_is Index (Int b) h = cc
same_type_is Index Index h = refl

pub same_types_are : (xs ys : List IrType) → length xs ≡ length ys → same_types xs ys ≡ true → xs ≡ ys
same_types_are [] [] e h = refl
same_types_are [] (y ∷ ys) e h = absurd (omega arith)
same_types_are (x ∷ xs) [] e h = absurd (omega arith)
same_types_are (x ∷ xs) (y ∷ ys) e h =
    let p = and_parts (same_type x y) (same_types xs ys) h in λ t. same_type_is x y p.0 t ∷ same_types_are xs ys (omega (arith, e)) p.1 t

pub same_type_of : (ty : IrType) → same_type ty ty ≡ true
same_type_of (Int a) = eq-eqb a a refl
same_type_of Index = refl

pub equal_lengths : (a b : ℕ) → (a == b) ≡ true → a ≡ b
equal_lengths a b h = grind (arith, nat_tests)

pub types_length : (args : List Arg) → length (arg_types args) ≡ length args
types_length [] = refl
types_length (arg ∷ args) = ap suc (types_length args)
