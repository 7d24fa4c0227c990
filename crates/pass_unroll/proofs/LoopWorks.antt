-- The parts of a loop that is peeled or unrolled: its header, its body in a loop at another place, and its results.
use Rattle.std.proofs.Common.{◌≡◌, ℕ, suc, ◌+◌, ◌<◌, ◌≤◌, true, List, [], ◌∷◌, length, refl, sym, subst, arith}
use Rattle.std.proofs.lemmas.Bool.{and_parts}
use Rattle.std.specs.List.{list_all}
use Rattle.arith_word.specs.declared.label.Label.{Label}
use Rattle.mlir_ir.specs.Operations.{OpList, labels_of, inner_labels}
use Rattle.mlir_ir.specs.Rules.{arg_types}
use Rattle.mlir_ir.specs.Runs.{number, Binding, Iteration, arrived}
use Rattle.mlir_ir.specs.Typed.{Types, with_types, knows, TypedOp, TypedRegions}
use Rattle.mlir_ir.specs.Words.{bits_of}
use Rattle.pass_copy.specs.Reported.{Claim}
use Rattle.pass_copy.specs.Renamed.{Naming, rename_ops}
use Rattle.pass_copy.specs.Replaced.{op_labels}
use Rattle.pass_copy.proofs.Bindings.{Scope, pair, pairs, In, All2, AllBelow, Below, below_more, below_pairs}
use Rattle.pass_copy.proofs.RenamedAlike.{Covers, Moves, moves_part, AlikeFrom, renamed_ops, covers_more, arg_types_length}
use Rattle.pass_unroll.specs.Copies.{ForLoop, operation_of}
use Rattle.pass_unroll.specs.Planned.{HasHeader}
use Rattle.pass_unroll.specs.declared.plan.Plan.{Plan}
use Rattle.pass_unroll.proofs.CoveredScopes.{covers_same, in_below, all_stand_below}
use Rattle.pass_unroll.proofs.PeelTurns.{Header}
use Rattle.pass_unroll.proofs.LoopLengths.{inner_types, body_typed, header_known, results_length}

abbrev pub itself : ℕ → ℕ
itself y = y

-- uses that keep their labels
pub all_stay : (T : Types) (ctx : Scope) (ls : List Label) → Covers itself T ctx → list_all (knows T) ls ≡ true → All2 ctx ls ls
all_stay T ctx [] c h = tt
all_stay T ctx (l ∷ ls) c h = let p = and_parts (knows T l) (list_all (knows T) ls) h in (c l.0 p.0, all_stay T ctx ls c p.1)

pub planned_header : (t : ℕ) (o : ForLoop) (plan : Plan) (env : List Binding) (around : List Iteration) → HasHeader t o plan (arrived t env around)
    → Header o.lower o.upper o.step (number (bits_of o.iv.ty) plan.lower) (number (bits_of o.iv.ty) plan.upper) (number (bits_of o.iv.ty) plan.step) env
planned_header t o plan env around h = let x = h refl in record { is_lower = x.0; is_upper = x.1; is_step = x.2 }

module _ (H : Claim) (t : ℕ) (o : ForLoop) (T : Types) (typed : TypedOp T o.packs o.results (operation_of o).kind) (inside : TypedRegions T t o.results (operation_of o).kind)
    (f : ℕ → ℕ) (ctx : Scope) (covers : Covers f T ctx) (below : Below t t ctx) (same : (y : ℕ) → y < t → f y ≡ y) where
  abbrev at_body : ℕ
  at_body = t + 2 + length o.args

  pub covers_itself : Covers itself T ctx
  covers_itself = covers_same f itself T ctx t t below (λ y h. same y h) covers

  pub header_stays : In o.lower.0 o.lower.0 ctx × In o.upper.0 o.upper.0 ctx × In o.step.0 o.step.0 ctx × All2 ctx o.inits o.inits
  header_stays =
      let k = header_known T t o typed inside in
      (covers_itself o.lower.0 k.0, covers_itself o.upper.0 k.1, covers_itself o.step.0 k.2, all_stay T ctx o.inits covers_itself k.3)

  pub lower_below : o.lower.0 < t
  lower_below = (in_below t t o.lower.0 o.lower.0 ctx header_stays.0 below).0

  pub inits_below : AllBelow t o.inits
  inits_below = all_stand_below t t ctx o.inits o.inits header_stays.3 below

  -- the body of a loop at place q, with the uses that belong to it there
  module _ (q j : ℕ) (name : Naming) (le : t ≤ q) (moves : Moves f (t + 1) (q + 1) (1 + length o.args + labels_of o.body)) where
    abbrev inner_scope : Scope
    inner_scope = pairs (t + 1) (q + 1) (suc (length o.args)) ctx

    body_covers : Covers f (inner_types T t o typed inside) inner_scope
    body_covers =
        covers_more f (with_types T (t + 1) (o.iv.ty ∷ [])) (pair (t + 1) (q + 1) ∷ ctx) (t + 1 + 1) (q + 1 + 1) (length o.args) (t + 2) (arg_types o.args) (omega arith) (arg_types_length o.args)
        (moves_part f (t + 1) (q + 1) (1 + length o.args + labels_of o.body) (t + 1 + 1) (q + 1 + 1) (length o.args) (omega arith) (omega arith) (omega arith) moves)
        (covers_more f T ctx (t + 1) (q + 1) 1 (t + 1) (o.iv.ty ∷ []) refl refl
        (moves_part f (t + 1) (q + 1) (1 + length o.args + labels_of o.body) (t + 1) (q + 1) 1 (omega arith) (omega arith) (omega arith) moves) covers)

    pub body_alike : AlikeFrom H f 31 (inner_types T t o typed inside) inner_scope at_body (q + 2 + length o.args) o.body (rename_ops f name j o.body)
    body_alike =
        renamed_ops H f name o.body j 31 (inner_types T t o typed inside) inner_scope at_body (q + 2 + length o.args) (body_typed T t o typed inside) body_covers
        (below_more (t + 1 + suc (length o.args)) (q + 1 + suc (length o.args)) at_body (q + 2 + length o.args) inner_scope (omega arith) (omega arith)
        (below_pairs ctx (t + 1) (q + 1) (suc (length o.args)) (below_more t t (t + 1) (q + 1) ctx (omega arith) (omega arith) below)))
        (moves_part f (t + 1) (q + 1) (1 + length o.args + labels_of o.body) at_body (q + 2 + length o.args) (labels_of o.body) (omega arith) (omega arith) (omega arith) moves)

  -- results that are the last labels of the operations that stand for the loop
  pub results_covered : (to : ℕ) → Moves f (at_body + labels_of o.body) to (length o.results)
      → Covers f (with_types T (t + inner_labels (operation_of o).kind) o.results) (pairs (at_body + labels_of o.body) to (length o.args) ctx)
  results_covered to m =
      covers_more f T ctx (at_body + labels_of o.body) to (length o.args) (t + inner_labels (operation_of o).kind) o.results (omega arith) (sym (results_length T t o typed inside))
      (subst (λ z. Moves f (at_body + labels_of o.body) to z) (sym (results_length T t o typed inside)) m) covers

  pub results_below : (to : ℕ) (others : OpList) → t ≤ to → to + length o.results ≤ t + labels_of others
      → Below (t + op_labels (operation_of o)) (t + labels_of others) (pairs (at_body + labels_of o.body) to (length o.args) ctx)
  results_below to others le fits =
      let r = at_body + labels_of o.body in
      let e = results_length T t o typed inside in
      below_more (r + length o.args) (to + length o.args) (t + op_labels (operation_of o)) (t + labels_of others) (pairs r to (length o.args) ctx) (omega (arith, e)) (omega (arith, e))
      (below_pairs ctx r to (length o.args) (below_more t t r to ctx (omega arith) (omega arith) below))
