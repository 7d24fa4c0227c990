-- Children of a worked loop: from 0 to 10 by 1, whose body calls function 0 with the argument and adds the variable to it.
use Rattle.std.proofs.Common.{◌≡◌, ℕ, false, List, [], ◌∷◌, refl}
use Rattle.arith_word.specs.declared.op.BinOp.TheVariants.{Addi}
use Rattle.mlir_ir.specs.declared.types.Arg.{Arg}
use Rattle.mlir_ir.specs.declared.types.IrType.{IrType}
use Rattle.mlir_ir.specs.declared.types.IrType.TheVariants.{Int}
use Rattle.mlir_ir.specs.declared.types.Pack.{Pack}
use Rattle.mlir_ir.specs.Operations.{Simple, Const, Bin, Call, For, OpList, nil, next}
use Rattle.pass_copy.specs.Renaming.{renamed}
use Rattle.pass_unroll.specs.Children.{peeled, unrolled_full, unrolled, unroll_spans}
use Rattle.pass_unroll.specs.Copies.{ForLoop}
use Rattle.pass_copy.specs.Built.{label}
use Rattle.pass_unroll.specs.declared.plan.Plan.{Plan}

-- names are single bytes: fresh ones are their numbers
abbrev fresh : ℕ → List ℕ
fresh k = k ∷ []

abbrev i64 : IrType
i64 = Int 64

abbrev named : ℕ → List Pack
named n = record { name = n ∷ []; count = 1 } ∷ []

abbrev arg : ℕ → Arg
arg n = record { name = n ∷ []; ty = i64 }

abbrev constant : ℕ → ℕ → OpList → OpList
constant name v rest = next (named name) (i64 ∷ []) (Simple (Const v)) rest

abbrev sum : ℕ → ℕ → ℕ → OpList → OpList
sum name a b rest = next (named name) (i64 ∷ []) (Simple (Bin Addi (record { nsw = false; nuw = false }) (label a) (label b))) rest

abbrev visit : ℕ → OpList → OpList
visit a rest = next [] [] (Simple (Call 0 (label a ∷ []))) rest

-- the bounds have the labels 0 and 2, the step 1; the loop begins with label 3, so the variable is 4, the argument 5, the sum 6, the result 7
abbrev o : ForLoop
o = record {
  packs = named 70;
  results = i64 ∷ [];
  lower = label 0;
  upper = label 2;
  step = label 1;
  iv = arg 40;
  args = arg 50 ∷ [];
  inits = label 0 ∷ [];
  body = visit 5 (sum 60 5 4 nil);
  ends = label 6 ∷ [];
}

abbrev plan : Plan
plan = record { lower = 0; upper = 10; step = 1; count = 10 }

abbrev main_loop : OpList → OpList
main_loop rest =
    next (named 11) (i64 ∷ [])
    (For (label 0) (label 3) (label 4) (arg 40) (arg 50 ∷ []) (label 0 ∷ [])
    (visit 7 (sum 60 7 6
    (constant 2 1 (sum 3 6 9 (visit 8 (sum 4 8 10
    (constant 5 2 (sum 6 6 12 (visit 11 (sum 7 11 13
    (constant 8 3 (sum 9 6 15 (visit 14 (sum 10 14 16 nil)))))))))))))) (label 17 ∷ []))
    rest

abbrev rest_loop : OpList
rest_loop =
    next (named 70) (i64 ∷ [])
    (For (label 3) (label 2) (label 1) (arg 12) (arg 13 ∷ []) (label 18 ∷ []) (visit 21 (sum 14 21 20 nil)) (label 22 ∷ [])) nil

unrolled_by_4 : unrolled fresh 3 plan o 4 ≡ constant 0 8 (constant 1 4 (main_loop rest_loop))
unrolled_by_4 = refl

result_moves : renamed (unroll_spans fresh 3 plan o 4) 7 ≡ 23
result_moves = refl

labels_behind_move : renamed (unroll_spans fresh 3 plan o 4) 8 ≡ 24
labels_behind_move = refl

labels_before_stay : renamed (unroll_spans fresh 3 plan o 4) 2 ≡ 2
labels_before_stay = refl

peeled_once : peeled fresh 3 plan o
    ≡ visit 0 (sum 0 0 0 (constant 1 1 (next (named 70) (i64 ∷ [])
    (For (label 4) (label 2) (label 1) (arg 40) (arg 50 ∷ []) (label 3 ∷ []) (visit 7 (sum 60 7 6 nil)) (label 8 ∷ [])) nil)))
peeled_once = refl

-- where it turns twice
unrolled_in_full : unrolled_full fresh 3 (record { lower = 0; upper = 2; step = 1; count = 2 }) o
    ≡ constant 0 0 (visit 0 (sum 1 0 3 (constant 2 1 (visit 4 (sum 3 4 5 nil)))))
unrolled_in_full = refl
