-- A loop that is unrolled in full: its copies do what the loop does.
use Rattle.std.proofs.Common.{◌≡◌, ℕ, ◌+◌, ◌*◌, ◌%◌, ◌^◌, ◌<◌, List, length, ◌∙◌, sym, arith}
use Rattle.std.proofs.Math.Nat.{mod-mod}
use Rattle.arith_word.specs.declared.label.Label.{Label}
use Rattle.mlir_ir.specs.Operations.{labels_of, inner_labels}
use Rattle.mlir_ir.specs.Runs.{number}
use Rattle.mlir_ir.specs.Typed.{Types, TypedOp, TypedRegions}
use Rattle.mlir_ir.specs.Words.{bits_of}
use Rattle.pass_copy.specs.Reported.{Claim}
use Rattle.pass_copy.specs.Renaming.{renamed}
use Rattle.pass_copy.specs.Replaced.{op_labels}
use Rattle.pass_copy.proofs.AlikeOps.{Works}
use Rattle.pass_copy.proofs.Bindings.{Scope, linked, AllBelow, Below, below_more, all_below_more}
use Rattle.pass_copy.proofs.RenamedAlike.{Covers}
use Rattle.pass_copy.proofs.ReplacedAlike.{WorksFrom}
use Rattle.pass_unroll.specs.Children.{full_spans, unrolled_full}
use Rattle.pass_unroll.specs.Copies.{ForLoop, operation_of, full_ends}
use Rattle.pass_unroll.specs.Planned.{Turns, HasHeader}
use Rattle.pass_unroll.specs.declared.plan.Plan.{Plan}
use Rattle.pass_unroll.proofs.CopyLabels.{labels_full, full_ends_length}
use Rattle.pass_unroll.proofs.CopyStages.{full_copied, full_ends_below}
use Rattle.pass_unroll.proofs.CoveredScopes.{below_linked, covers_linked}
use Rattle.pass_unroll.proofs.FullTurns.{full_turns}
use Rattle.pass_unroll.proofs.HeaderNumbers.{goes_in, goes_out}
use Rattle.pass_unroll.proofs.LoopLabels.{full_before, full_results}
use Rattle.pass_unroll.proofs.LoopWorks.{planned_header, header_stays, inits_below}
use Rattle.pass_unroll.proofs.LoopLengths.{inits_length, ends_length, results_length}

module _ (fresh : ℕ → List ℕ) (t : ℕ) (plan : Plan) (o : ForLoop) (T : Types)
    (typed : TypedOp T o.packs o.results (operation_of o).kind) (inside : TypedRegions T t o.results (operation_of o).kind)
    (turns : Turns (bits_of o.iv.ty) (plan.lower % 2 ^ bits_of o.iv.ty) (plan.upper % 2 ^ bits_of o.iv.ty) plan.step plan.count)
    (ctx : Scope) (covers : Covers (renamed (full_spans fresh t plan o)) T ctx) (below : Below t t ctx) where
  abbrev H : Claim
  H = HasHeader t o plan

  abbrev f : ℕ → ℕ
  f = renamed (full_spans fresh t plan o)

  abbrev w : ℕ
  w = bits_of o.iv.ty

  abbrev last_ends : List Label
  last_ends = full_ends fresh t o plan.count t o.inits

  abbrev results : ℕ
  results = t + 2 + length o.args + labels_of o.body

  same : (y : ℕ) → y < t → f y ≡ y
  same y h = full_before fresh t plan o y (omega arith)

  full_done : Works H plan.count ctx t t o.results (operation_of o).kind (unrolled_full fresh t plan o) (linked results last_ends ctx)
  full_done =
      let hs = header_stays H t o T typed inside f ctx covers below same in
      let len = inits_length T t o typed inside in
      let e = mod-mod plan.lower (2 ^ w) in
      full_turns H ctx t t o.results o.lower o.upper o.step o.iv o.args o.inits o.inits last_ends o.body o.ends (number w plan.lower) (number w plan.upper) (number w plan.step)
      (number w (plan.lower + plan.count * plan.step)) plan.count (unrolled_full fresh t plan o)
      (planned_header t o plan) below hs.3 len (ends_length T t o typed inside)
      (full_copied H fresh t o T typed inside f ctx covers below same plan.step (number w plan.upper) plan.count 0 t plan.lower o.inits len (omega arith)
      (inits_below H t o T typed inside f ctx covers below same)
      (goes_in w (plan.lower % 2 ^ w) plan.lower plan.upper plan.step plan.count turns e))
      (goes_out w (plan.lower % 2 ^ w) plan.lower plan.upper plan.step plan.count turns e)

  pub full_works : WorksFrom H f plan.count t (operation_of o) (unrolled_full fresh t plan o) T ctx
  full_works =
      let len = inits_length T t o typed inside in
      let el : length last_ends ≡ length o.results = full_ends_length fresh t o plan.count t o.inits (ends_length T t o typed inside ∙ sym len) ∙ (len ∙ results_length T t o typed inside) in
      let e = labels_full fresh t o plan.step plan.count 0 t plan.lower o.inits in
      let b = t + labels_of (unrolled_full fresh t plan o) in
      let low : AllBelow b last_ends =
      all_below_more (t + plan.count * (1 + labels_of o.body)) b last_ends (omega (arith, e))
      (full_ends_below H fresh t o T typed inside f ctx covers below same plan.count t o.inits len (omega arith) (inits_below H t o T typed inside f ctx covers below same)) in
      record {
        behind = linked results last_ends ctx;
        works = full_done;
        covers = covers_linked f T ctx results (t + inner_labels (operation_of o).kind) last_ends o.results (omega arith) (sym el) (full_results fresh t plan o) covers;
        below = below_more (results + length last_ends) b (t + op_labels (operation_of o)) b (linked results last_ends ctx) (omega (arith, el)) (omega arith)
            (below_linked results b last_ends ctx (below_more t t results b ctx (omega arith) (omega arith) below) low);
      }
