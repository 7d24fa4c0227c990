-- Arguments that names with types stand for, and packs of results.
use Rattle.std.specs.Prelude.{List, [], ◌∷◌}
use Rattle.mlir_ir.specs.Source.{Defined, Packed}
use Rattle.mlir_ir.specs.declared.types.Arg.{Arg}
use Rattle.mlir_ir.specs.declared.types.IrType.{IrType}
use Rattle.mlir_ir.specs.declared.types.Pack.{Pack}

-- names with their types, as far as both lists go
abbrev pub named : List Defined → List IrType → List Arg
named (d ∷ names) (ty ∷ types) = record { name = d.name; ty = ty } ∷ named names types
named _ _ = []

abbrev pub pack_of : Packed → Pack
pack_of p = record { name = p.name; count = p.count }
