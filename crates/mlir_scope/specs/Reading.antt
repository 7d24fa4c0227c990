-- Uses, definitions, packs and written types of the code as those of the definitions.
use Rattle.std.specs.Str.Parse.{digits_value}
use Rattle.mlir_ir.specs.Source as source
use Rattle.mlir_ir.specs.declared.types.IrType as ir
use Rattle.mlir_ir.specs.declared.types.IrType.TheVariants as types
use Rattle.mlir_scope.specs.declared.said.Defined.{Defined}
use Rattle.mlir_scope.specs.declared.said.Packed.{Packed}
use Rattle.mlir_scope.specs.declared.said.Use.{Use}
use Rattle.mlir_scope.specs.declared.said.Written.{Written}
use Rattle.mlir_scope.specs.declared.said.ValueType.{ValueType}
use Rattle.mlir_scope.specs.declared.said.ValueType.TheVariants.{Int, Index}

abbrev pub defined_said : Defined → source.Defined
defined_said d = record { at = d.at; name = d.name.now }

abbrev pub packed_said : Packed → source.Packed
packed_said p = record { at = p.at; name = p.name.now; count = digits_value 10 p.count.now }

abbrev pub use_said : Use → source.Use
use_said u = record { at = u.at; name = u.name.now; pick = digits_value 10 u.pick.now }

abbrev pub type_said : ValueType → ir.IrType
type_said (Int bits) = types.Int bits
type_said Index = types.Index

abbrev pub written_said : Written → source.Written
written_said t = record { at = t.at; ty = type_said t.ty }
