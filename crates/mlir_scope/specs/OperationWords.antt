-- The words of operations in two parts, as the code reads them.
use Rattle.std.specs.Prelude.{ℕ, List, [], ◌∷◌}
use Rattle.arith_word.specs.declared.op.BinOp.{BinOp}
use Rattle.arith_word.specs.declared.op.BinOp.TheVariants.{Addi, Maxui, Shli, Shrui, Shrsi, Divui, Remui, Divsi, Remsi}
use Rattle.mlir_ir.specs.Resolved.{word_of}
use Rattle.mlir_ir.specs.Words.{bin_text}

-- among the operations from `arith.maxui` on
abbrev pub later_named : List ℕ → BinOp
later_named text = word_of bin_text Addi (Maxui ∷ Shli ∷ Shrui ∷ Shrsi ∷ Divui ∷ Remui ∷ Divsi ∷ Remsi ∷ []) text
