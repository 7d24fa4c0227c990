-- The facts of loops by those of their rounds, their trip counts and their results.
use Rattle.std.proofs.Common.{◌≡◌, ℕ, ◌+◌, List, length, arith}
use Rattle.arith_word.specs.declared.label.Label.{Label}
use Rattle.arith_word.specs.declared.op.Pred.TheVariants.{Slt}
use Rattle.mlir_ir.specs.declared.types.Arg.{Arg}
use Rattle.mlir_ir.specs.declared.types.IrType.{IrType}
use Rattle.mlir_ir.specs.Operations.{For, While, OpList, labels_of}
use Rattle.mlir_ir.specs.Rules.{arg_types}
use Rattle.mlir_ir.specs.Words.{bits_of}
use Rattle.fresh_scev.specs.Expressions.{number_in}
use Rattle.fresh_scev.specs.Facts.{Facts, counts, untested, Rounds, round_limit, IsTested, AreCarried, ArePassedOn, IsKind}
use Rattle.fresh_scev.specs.Insides.{for_loop, while_loop, IsForInside, IsWhileInside}
use Rattle.fresh_scev.specs.Loops.{AreComparedTurns}
use Rattle.fresh_scev.specs.SameFacts.{SameFacts, AreTestsBelow}
use Rattle.fresh_scev.specs.UsesBelow.{AreBelow, DoesUseBelow}
use Rattle.fresh_scev.proofs.StandingFacts.{same_less, same_alike, tests_less, uses_more, types_length, variable_stays, role_stays, passed_stay, rounds_stay, ops_stay}

module _ (conditions : List Label) (at : ℕ) (lower upper step : Label) (iv : Arg) (args : List Arg) (inits : List Label) (body : OpList) (ends : List Label) where
  pub for_kind : (results : List IrType) (F : Facts) → Rounds (for_loop at args inits ends) (IsForInside conditions at lower step iv (at + 2 + length args) body) round_limit F
      → AreComparedTurns at Slt (F.expr (at + 1)) (F.expr upper.0) (F.turns at) → AreCarried F conditions at (at + 2) (at + 2 + length args + labels_of body) results
      → F.role at ≡ counts → IsKind conditions (For lower upper step iv args inits body ends) results at F
  for_kind results F rounds turns carried named = (rounds, turns, carried, named)

  -- the rounds of a loop stay where its trip count and its results change
  pub for_rounds_stay : (m : ℕ) (F G : Facts) → DoesUseBelow (For lower upper step iv args inits body ends) at → AreBelow conditions at → AreTestsBelow F (at + 2 + length args + labels_of body)
      → SameFacts F G (at + 1) (at + 2 + length args + labels_of body) → Rounds (for_loop at args inits ends) (IsForInside conditions at lower step iv (at + 2 + length args) body) m F
      → Rounds (for_loop at args inits ends) (IsForInside conditions at lower step iv (at + 2 + length args) body) m G
  for_rounds_stay m F G uses below tests same r =
      let first = at + 2 + length args in
      let to = first + labels_of body in
      let many = types_length args in
      let a = same_alike F G (at + 1) to to (omega arith) same in
      let ll = uses.0.0 in
      let ls = uses.0.1.1.0 in
      rounds_stay F G to a (for_loop at args inits ends) (IsForInside conditions at lower step iv first body) m (omega arith) (omega (arith, many))
      (λ i. (
        variable_stays F G to a at (bits_of iv.ty) (at + 1) lower.0 step.0 (omega (arith, ll)) (omega (arith, ls)) (omega arith) i.0,
        role_stays F G to a (at + 1) untested (omega arith) i.1,
        ops_stay body conditions first F G uses.1 (uses_more conditions at first (omega arith) below) tests (same_less F G (at + 1) to first to (omega arith) (omega arith) same) i.2,
      )) r

module _ (conditions : List Label) (at : ℕ) (args : List Arg) (inits : List Label) (before : OpList) (passed : List Label) (cond : Label) (after_args : List Arg) (after : OpList) (ends : List Label) where
  pub while_kind : (results : List IrType) (F : Facts) → Rounds (while_loop at args inits ends) (IsWhileInside conditions (at + 1 + length args) before passed after_args after) round_limit F
      → IsTested F at (number_in (F.expr cond.0).p) (F.role cond.0) (F.turns at)
      → ArePassedOn F conditions at passed (at + 1 + length args + labels_of before + length after_args + labels_of after) results
      → F.role at ≡ counts → IsKind conditions (While args inits before passed cond after_args after ends) results at F
  while_kind results F rounds turns carried named = (rounds, turns, carried, named)

  pub while_rounds_stay : (m : ℕ) (F G : Facts) → DoesUseBelow (While args inits before passed cond after_args after ends) at → AreBelow conditions at
      → AreTestsBelow F (at + 1 + length args + labels_of before + length after_args + labels_of after)
      → SameFacts F G (at + 1) (at + 1 + length args + labels_of before + length after_args + labels_of after)
      → Rounds (while_loop at args inits ends) (IsWhileInside conditions (at + 1 + length args) before passed after_args after) m F
      → Rounds (while_loop at args inits ends) (IsWhileInside conditions (at + 1 + length args) before passed after_args after) m G
  while_rounds_stay m F G uses below tests same r =
      let in_before = at + 1 + length args in
      let params = in_before + labels_of before in
      let in_after = params + length after_args in
      let to = in_after + labels_of after in
      let many = types_length args in
      let more = types_length after_args in
      let a = same_alike F G (at + 1) to to (omega arith) same in
      rounds_stay F G to a (while_loop at args inits ends) (IsWhileInside conditions in_before before passed after_args after) m (omega arith) (omega (arith, many))
      (λ i. (
        ops_stay before conditions in_before F G uses.1 (uses_more conditions at in_before (omega arith) below) (tests_less F to params (omega arith) tests)
            (same_less F G (at + 1) to in_before params (omega arith) (omega arith) same) i.0,
        passed_stay F G to a params (arg_types after_args) passed (uses_more passed params to (omega arith) uses.2.1) (omega (arith, more)) i.1,
        ops_stay after conditions in_after F G uses.3 (uses_more conditions at in_after (omega arith) below) tests (same_less F G (at + 1) to in_after to (omega arith) (omega arith) same) i.2,
      )) r
