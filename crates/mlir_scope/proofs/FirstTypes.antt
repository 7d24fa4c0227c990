-- The first written type, and loop-carried values as names with types.
use Rattle.std.proofs.Common.{◌≡◌, ℕ, ◌+◌, min, List, [], ◌∷◌, map, length, refl, ap, ◌∙◌, sym, arith}
use Rattle.std.specs.List.{zip}
use Rattle.mlir_ir.specs.Resolved.{variable_type, tys, carried, args_of}
use Rattle.mlir_ir.specs.Source.{Defined, Use, Written}
use Rattle.mlir_ir.specs.declared.types.Arg.{Arg}
use Rattle.mlir_ir.specs.declared.types.IrType.{IrType}
use Rattle.mlir_scope.specs.Arguments.{named}
use Rattle.mlir_scope.specs.Built.{first_type}

pub first_written : (types : List Written) → first_type (tys types) ≡ variable_type types
first_written [] = refl
first_written (t ∷ types) = refl

pub carried_named : (inits : List (Defined × Use)) (types : List IrType) → named (map (λ (p : Defined × Use). p.0) inits) types ≡ carried inits types
carried_named [] types = refl
carried_named (i ∷ inits) [] = refl
carried_named (i ∷ inits) (ty ∷ types) = ap (λ (args : List Arg). record { name = i.0.name; ty = ty } ∷ args) (carried_named inits types)

pub params_named : (names : List Defined) (types : List Written) → named names (tys types) ≡ args_of (zip names types)
params_named [] types = refl
params_named (d ∷ names) [] = refl
params_named (d ∷ names) (t ∷ types) = ap (λ (args : List Arg). record { name = d.name; ty = t.ty } ∷ args) (params_named names types)

pub named_length : (names : List Defined) (types : List IrType) → length (named names types) ≡ min (length names) (length types)
named_length [] types = omega arith
named_length (d ∷ names) [] = omega arith
named_length (d ∷ names) (ty ∷ types) = let e = named_length names types in omega arith
