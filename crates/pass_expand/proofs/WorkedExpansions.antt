-- Expansions of worked expressions in the value k with label 5, which is the variable 11. The fresh names are their numbers.
use Rattle.std.proofs.Common.{◌≡◌, ℕ, false, List, [], ◌∷◌, refl}
use Rattle.arith_word.specs.declared.op.BinOp.TheVariants.{Addi, Muli}
use Rattle.mlir_ir.specs.declared.types.IrType.{IrType}
use Rattle.mlir_ir.specs.declared.types.IrType.TheVariants.{Int}
use Rattle.mlir_ir.specs.Operations.{SimpleOp, Simple, Const, Bin, OpList, nil, next}
use Rattle.pass_copy.specs.Built.{label}
use Rattle.pass_expand.specs.Expanded.{expansion, expansion_end}
use Rattle.scev_tree.specs.Polynomial.{Polynomial, num, ext, none, more}

abbrev fresh : ℕ → List ℕ
fresh k = k ∷ []

abbrev i64 : IrType
i64 = Int 64

abbrev op : ℕ → SimpleOp → OpList → OpList
op name does rest = next (record { name = name ∷ []; count = 1 } ∷ []) (i64 ∷ []) (Simple does) rest

abbrev constant : ℕ → SimpleOp
constant v = Const v

abbrev sum : ℕ → ℕ → SimpleOp
sum a b = Bin Addi (record { nsw = false; nuw = false }) (label a) (label b)

abbrev product : ℕ → ℕ → SimpleOp
product a b = Bin Muli (record { nsw = false; nuw = false }) (label a) (label b)

-- 10 * k
abbrev tens : Polynomial
tens = ext 11 (more (num 0) (more (num 10) none))

tens_expanded : expansion fresh i64 0 20 tens ≡ op 0 (constant 10) (op 1 (product 20 5) nil)
tens_expanded = refl

tens_end : expansion_end 20 tens ≡ 21
tens_end = refl

-- 3 + 2 * k + 5 * k ^ 2
abbrev square : Polynomial
square = ext 11 (more (num 3) (more (num 2) (more (num 5) none)))

square_expanded : expansion fresh i64 7 20 square
    ≡ op 7 (constant 3) (op 8 (constant 2) (op 9 (product 21 5) (op 10 (sum 20 22) (op 11 (constant 5) (op 12 (product 24 5) (op 13 (product 25 5) (op 14 (sum 23 26) nil)))))))
square_expanded = refl

square_end : expansion_end 20 square ≡ 27
square_end = refl

-- the number 0, and one that is reduced to it
zero_expanded : expansion fresh i64 0 20 (num 0) ≡ op 0 (constant 0) nil
zero_expanded = refl

zero_end : expansion_end 20 (num 0) ≡ 20
zero_end = refl

-- 4 + (6 * j + 1) * k * k, where j has the label 2: labels rise in each term
abbrev mixed : Polynomial
mixed = ext 11 (more (num 4) (more (num 0) (more (ext 5 (more (num 1) (more (num 6) none))) none)))

mixed_expanded : expansion fresh i64 0 20 mixed
    ≡ op 0 (constant 4) (op 1 (constant 1) (op 2 (product 21 5) (op 3 (product 22 5) (op 4 (sum 20 23)
    (op 5 (constant 6) (op 6 (product 25 2) (op 7 (product 26 5) (op 8 (product 27 5) (op 9 (sum 24 28) nil)))))))))
mixed_expanded = refl

mixed_end : expansion_end 20 mixed ≡ 29
mixed_end = refl
