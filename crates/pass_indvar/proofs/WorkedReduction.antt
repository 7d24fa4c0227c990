-- The child of a worked loop, whose body multiplies the variable by the value k with label 0 and adds the product to its argument.
use Rattle.std.proofs.Common.{◌≡◌, ℕ, false, List, [], ◌∷◌, nat_lt, if◌then◌else◌, None, Some, refl}
use Rattle.arith_word.specs.declared.op.BinOp.TheVariants.{Addi, Muli}
use Rattle.mlir_ir.specs.declared.types.Arg.{Arg}
use Rattle.mlir_ir.specs.declared.types.IrType.{IrType}
use Rattle.mlir_ir.specs.declared.types.IrType.TheVariants.{Int}
use Rattle.mlir_ir.specs.declared.types.Pack.{Pack}
use Rattle.mlir_ir.specs.Operations.{SimpleOp, Simple, Const, Bin, For, OpList, nil, next}
use Rattle.mlir_ir.specs.Typed.{Types}
use Rattle.pass_copy.specs.Built.{label}
use Rattle.pass_copy.specs.Renaming.{renamed}
use Rattle.pass_indvar.specs.Reductions.{Progression, first_progression, reduced, reduced_spans}
use Rattle.pass_unroll.specs.Copies.{ForLoop}
use Rattle.scev_tree.specs.Polynomial.{Polynomial, num, ext, none, more}

-- names are single bytes: fresh ones are their numbers
abbrev fresh : ℕ → List ℕ
fresh k = k ∷ []

abbrev i64 : IrType
i64 = Int 64

abbrev named : ℕ → List Pack
named n = record { name = n ∷ []; count = 1 } ∷ []

abbrev arg : ℕ → Arg
arg n = record { name = n ∷ []; ty = i64 }

abbrev op : ℕ → SimpleOp → OpList → OpList
op name does rest = next (named name) (i64 ∷ []) (Simple does) rest

abbrev sum : ℕ → ℕ → SimpleOp
sum a b = Bin Addi (record { nsw = false; nuw = false }) (label a) (label b)

abbrev product : ℕ → ℕ → SimpleOp
product a b = Bin Muli (record { nsw = false; nuw = false }) (label a) (label b)

-- k is 0, the bounds are 1 and 2, the step 3; the loop begins with label 4, so the variable is 5, the argument 6, the product 7, the sum 8, the result 9
abbrev o : ForLoop
o = record {
  packs = named 90;
  results = i64 ∷ [];
  lower = label 1;
  upper = label 2;
  step = label 3;
  iv = arg 50;
  args = arg 60 ∷ [];
  inits = label 1 ∷ [];
  body = op 70 (product 5 0) (op 80 (sum 6 7) nil);
  ends = label 8 ∷ [];
}

abbrev scope : Types
scope l = if nat_lt l 4 then Some i64 else None

abbrev k : Polynomial
k = ext 1 (more (num 0) (more (num 1) none))

abbrev g : Progression
g = record { product = 7; ty = i64; start = num 0; step = k }

-- the product is {0,+,k}, and the counter of the loop is the variable 8
product_found : first_progression scope 4 7 o.body (Some (ext 8 (more (num 0) (more k none))) ∷ []) ≡ Some g
product_found = refl

-- of two products that are progressions the first
first_found : first_progression scope 4 7 (op 70 (product 5 0) (op 71 (product 0 5) nil))
    (Some (ext 8 (more (num 0) (more k none))) ∷ Some (ext 8 (more k (more k none))) ∷ []) ≡ Some g
first_found = refl

-- one behind a product that is none
second_found : first_progression scope 4 7 (op 71 (product 0 0) (op 70 (product 5 0) nil)) (None ∷ Some (ext 8 (more (num 0) (more k none))) ∷ [])
    ≡ Some (record g { product = 8 })
second_found = refl

loop_reduced : reduced fresh 4 o g
    ≡ op 0 (Const 0) (op 1 (Const 1) (op 2 (product 5 0)
    (next (record { name = 90 ∷ []; count = 1 } ∷ record { name = 5 ∷ []; count = 1 } ∷ []) (i64 ∷ i64 ∷ [])
    (For (label 1) (label 2) (label 3) (arg 50) (arg 60 ∷ arg 3 ∷ []) (label 1 ∷ label 4 ∷ [])
    (op 80 (sum 9 10) (op 4 (sum 10 6) nil)) (label 11 ∷ label 12 ∷ [])) nil)))
loop_reduced = refl

labels_before_stay : renamed (reduced_spans fresh 4 o g) 3 ≡ 3
labels_before_stay = refl

result_moves : renamed (reduced_spans fresh 4 o g) 9 ≡ 13
result_moves = refl

labels_behind_move : renamed (reduced_spans fresh 4 o g) 10 ≡ 15
labels_behind_move = refl
