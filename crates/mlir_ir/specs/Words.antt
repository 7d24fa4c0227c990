-- The words of the text for types, operations and predicates.
use Rattle.std.specs.Prelude.{ℕ, List, ◌++◌, codes}
use Rattle.std.specs.Fmt.{decimal}
use Rattle.arith_word.specs.declared.op.BinOp.{BinOp}
use Rattle.arith_word.specs.declared.op.BinOp.TheVariants.{Addi, Subi, Muli, Andi, Ori, Xori, Minsi, Maxsi, Minui, Maxui, Shli, Shrui, Shrsi, Divui, Remui, Divsi, Remsi}
use Rattle.arith_word.specs.declared.op.CastOp.{CastOp}
use Rattle.arith_word.specs.declared.op.CastOp.TheVariants.{Extsi, IndexCast, Extui, IndexCastui, Trunci}
use Rattle.arith_word.specs.declared.op.Pred.{Pred}
use Rattle.arith_word.specs.declared.op.Pred.TheVariants.{Eq, Ne, Slt, Sle, Sgt, Sge, Ult, Ule, Ugt, Uge}
use Rattle.mlir_ir.specs.declared.types.IrType.{IrType}
use Rattle.mlir_ir.specs.declared.types.IrType.TheVariants.{Int, Index}

-- the width of a type in bits
abbrev pub bits_of : IrType → ℕ
bits_of (Int width) = width
bits_of Index = 64

abbrev pub type_text : IrType → List ℕ
type_text (Int width) = codes "i" ++ decimal width
type_text Index = codes "index"

abbrev pub bin_text : BinOp → List ℕ
bin_text Addi = codes "arith.addi"
bin_text Subi = codes "arith.subi"
bin_text Muli = codes "arith.muli"
bin_text Andi = codes "arith.andi"
bin_text Ori = codes "arith.ori"
bin_text Xori = codes "arith.xori"
bin_text Minsi = codes "arith.minsi"
bin_text Maxsi = codes "arith.maxsi"
bin_text Minui = codes "arith.minui"
bin_text Maxui = codes "arith.maxui"
bin_text Shli = codes "arith.shli"
bin_text Shrui = codes "arith.shrui"
bin_text Shrsi = codes "arith.shrsi"
bin_text Divui = codes "arith.divui"
bin_text Remui = codes "arith.remui"
bin_text Divsi = codes "arith.divsi"
bin_text Remsi = codes "arith.remsi"

abbrev pub cast_text : CastOp → List ℕ
cast_text Extsi = codes "arith.extsi"
cast_text IndexCast = codes "arith.index_cast"
cast_text Extui = codes "arith.extui"
cast_text IndexCastui = codes "arith.index_castui"
cast_text Trunci = codes "arith.trunci"

abbrev pub pred_text : Pred → List ℕ
pred_text Eq = codes "eq"
pred_text Ne = codes "ne"
pred_text Slt = codes "slt"
pred_text Sle = codes "sle"
pred_text Sgt = codes "sgt"
pred_text Sge = codes "sge"
pred_text Ult = codes "ult"
pred_text Ule = codes "ule"
pred_text Ugt = codes "ugt"
pred_text Uge = codes "uge"
