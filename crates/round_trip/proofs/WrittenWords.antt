-- The words of the text read back: operations, predicates, types, picks and numbers.
use Rattle.std.proofs.Common.{◌≡◌, ℕ, ◌+◌, ◌-◌, ◌^◌, ◌<◌, not, Bool, true, false, refl, ap, ◌∙◌, sym, codes, if◌then◌else◌, arith}
use Rattle.std.specs.Fmt.{decimal, digits}
use Rattle.std.specs.Str.{bytes_eq}
use Rattle.std.specs.Str.Parse.{digits_value}
use Rattle.std.proofs.lemmas.Fmt.{decimal_is_IsNumeral}
use Rattle.arith_word.specs.declared.op.BinOp.{BinOp}
use Rattle.arith_word.specs.declared.op.BinOp.TheVariants.{Addi, Subi, Muli, Andi, Ori, Xori, Minsi, Maxsi, Minui, Maxui, Shli, Shrui, Shrsi, Divui, Remui, Divsi, Remsi}
use Rattle.arith_word.specs.declared.op.CastOp.{CastOp}
use Rattle.arith_word.specs.declared.op.CastOp.TheVariants.{Extsi, IndexCast, Extui, IndexCastui, Trunci}
use Rattle.arith_word.specs.declared.op.Pred.{Pred}
use Rattle.arith_word.specs.declared.op.Pred.TheVariants.{Eq, Ne, Slt, Sle, Sgt, Sge, Ult, Ule, Ugt, Uge}
use Rattle.mlir_ir.specs.Resolved.{bin_named, cast_named, pred_named}
use Rattle.mlir_ir.specs.Source.{type_named}
use Rattle.mlir_ir.specs.Words.{type_text, bin_text, cast_text, pred_text}
use Rattle.mlir_ir.specs.declared.types.IrType.{IrType}
use Rattle.mlir_ir.specs.declared.types.IrType.TheVariants.{Int, Index}
use Rattle.round_trip.specs.Sound.{IsType}
use Rattle.round_trip.proofs.StandingPieces.{every, every_at}

pub bin_back : (op : BinOp) → bin_named (bin_text op) ≡ op
bin_back Addi = refl
bin_back Subi = refl
bin_back Muli = refl
bin_back Andi = refl
bin_back Ori = refl
bin_back Xori = refl
bin_back Minsi = refl
bin_back Maxsi = refl
bin_back Minui = refl
bin_back Maxui = refl
bin_back Shli = refl
bin_back Shrui = refl
bin_back Shrsi = refl
bin_back Divui = refl
bin_back Remui = refl
bin_back Divsi = refl
bin_back Remsi = refl

pub cast_back : (op : CastOp) → cast_named (cast_text op) ≡ op
cast_back Extsi = refl
cast_back IndexCast = refl
cast_back Extui = refl
cast_back IndexCastui = refl
cast_back Trunci = refl

pub pred_back : (pred : Pred) → pred_named (pred_text pred) ≡ pred
pred_back Eq = refl
pred_back Ne = refl
pred_back Slt = refl
pred_back Sle = refl
pred_back Sgt = refl
pred_back Sge = refl
pred_back Ult = refl
pred_back Ule = refl
pred_back Ugt = refl
pred_back Uge = refl

pub decimal_back : (n : ℕ) → n < 2 ^ 64 → digits_value 10 (decimal n) ≡ n
decimal_back n small = (decimal_is_IsNumeral n small).1

no_width_is_index : every (λ k. not (bytes_eq (type_text (Int (k + 1))) (codes "index"))) 64 ≡ true
unfolding digits
no_width_is_index = refl

not_true : (b : Bool) → not b ≡ true → b ≡ false
not_true true h = cc
not_true false h = refl

pub type_back : (ty : IrType) → IsType ty → type_named (type_text ty) ≡ ty
type_back Index is = refl
type_back (Int width) is =
    let same : width - 1 + 1 ≡ width = omega (arith, is.0) in
    let other : bytes_eq (type_text (Int width)) (codes "index") ≡ false =
    not_true (bytes_eq (type_text (Int width)) (codes "index"))
    (sym (ap (λ w. not (bytes_eq (type_text (Int w)) (codes "index"))) same) ∙ every_at (λ k. not (bytes_eq (type_text (Int (k + 1))) (codes "index"))) 64 (width - 1) no_width_is_index (omega (arith, is.1))) in
    ap (λ (c : Bool). if c then Index else Int (digits_value 10 (decimal width))) other ∙ ap Int (decimal_back width (omega (arith, is.1)))
