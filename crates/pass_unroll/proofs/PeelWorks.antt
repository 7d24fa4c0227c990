-- A peeled loop does what the loop does.
use Rattle.std.proofs.Common.{◌≡◌, ℕ, ◌+◌, ◌*◌, ◌%◌, ◌^◌, ◌<◌, ◌≤◌, true, List, ◌∷◌, length, refl, ap, ◌∙◌, sym, subst, arith}
use Rattle.std.proofs.Math.Nat.{mod-mod}
use Rattle.arith_word.specs.declared.label.Label.{Label}
use Rattle.mlir_ir.specs.Operations.{OpList, nil, next, labels_of, joined}
use Rattle.mlir_ir.specs.Runs.{Number, number, look}
use Rattle.mlir_ir.specs.Typed.{Types, TypedOp, TypedRegions, types_after}
use Rattle.mlir_ir.specs.Words.{bits_of}
use Rattle.pass_copy.specs.Reported.{Claim}
use Rattle.pass_copy.specs.Renamed.{keep, relabels, rename_ops, names_of}
use Rattle.pass_copy.specs.Renaming.{renamed}
use Rattle.pass_copy.specs.Replaced.{op_labels, item_end}
use Rattle.pass_copy.proofs.AlikeOps.{AlikeOps, Works}
use Rattle.pass_copy.proofs.Bindings.{Scope, pairs, linked, AllBelow, Below, all_below_more}
use Rattle.pass_copy.proofs.RenamedAlike.{Covers, Moves, all_covered, rename_labels}
use Rattle.pass_copy.proofs.ReplacedAlike.{WorksFrom}
use Rattle.pass_copy.proofs.RunEnds.{goes_on, stepped}
use Rattle.pass_unroll.specs.Children.{peel_spans, peeled}
use Rattle.pass_unroll.specs.Copies.{ForLoop, operation_of, copy, copy_ends}
use Rattle.pass_unroll.specs.Planned.{Turns, HasHeader}
use Rattle.pass_unroll.specs.declared.plan.Plan.{Plan}
use Rattle.pass_unroll.proofs.CopiedTurns.{Copies, stop, more}
use Rattle.pass_unroll.proofs.CopyLabels.{labels_copy}
use Rattle.pass_unroll.proofs.CopyStages.{copy_alike, copy_yields, copy_yields_below}
use Rattle.pass_unroll.proofs.HeaderNumbers.{number_rest, number_sum, goes_in}
use Rattle.pass_unroll.proofs.LoopLabels.{peel_before, peel_has, labels_peeled, behind_copy}
use Rattle.pass_unroll.proofs.LoopWorks.{planned_header, header_stays, lower_below, inits_below, body_alike, results_covered, results_below}
use Rattle.pass_unroll.proofs.PeelTurns.{peel_turns}
use Rattle.pass_unroll.proofs.LoopLengths.{inner_types, inits_length, ends_length, ends_known}

joined_nil : (a : OpList) → joined a nil ≡ a
joined_nil nil = refl
joined_nil (next packs results kind rest) = ap (next packs results kind) (joined_nil rest)

module _ (fresh : ℕ → List ℕ) (t : ℕ) (plan : Plan) (o : ForLoop) (T : Types)
    (typed : TypedOp T o.packs o.results (operation_of o).kind) (inside : TypedRegions T t o.results (operation_of o).kind)
    (fits : t + op_labels (operation_of o) < item_end t)
    (turns : Turns (bits_of o.iv.ty) (plan.lower % 2 ^ bits_of o.iv.ty) (plan.upper % 2 ^ bits_of o.iv.ty) plan.step plan.count) (some : 1 ≤ plan.count)
    (ctx : Scope) (covers : Covers (renamed (peel_spans fresh t plan o)) T ctx) (below : Below t t ctx) where
  abbrev H : Claim
  H = HasHeader t o plan

  abbrev f : ℕ → ℕ
  f = renamed (peel_spans fresh t plan o)

  abbrev w : ℕ
  w = bits_of o.iv.ty

  abbrev lo : Number
  lo = number w plan.lower

  abbrev st : Number
  st = number w plan.step

  abbrev second : Number
  second = stepped st lo

  abbrev ys2 : List Label
  ys2 = copy_ends fresh t o o.lower o.inits t

  -- the label of the constant behind the copy
  abbrev q : ℕ
  q = t + labels_of o.body

  same : (y : ℕ) → y < t → f y ≡ y
  same y h = peel_before fresh t plan o y h

  moves : (at n : ℕ) → t ≤ at → at + n ≤ t + op_labels (operation_of o) → Moves f at (at + (labels_of o.body + 1)) n
  moves at n le lt y low high = let e = peel_has fresh t plan o y (omega arith) (omega arith) in omega (arith, e)

  all_low : AllBelow t (o.lower ∷ o.inits)
  all_low = (lower_below H t o T typed inside f ctx covers below same, inits_below H t o T typed inside f ctx covers below same)

  goes : goes_on (number w plan.upper) lo ≡ true
  goes =
      let e : plan.lower + 0 * plan.step ≡ plan.lower = omega arith in
      subst (λ z. goes_on (number w plan.upper) (number w z) ≡ true) e
      (goes_in w (plan.lower % 2 ^ w) plan.lower plan.upper plan.step plan.count turns (mod-mod plan.lower (2 ^ w)) 0 (omega arith))

  one_copy : Copies H (λ e. look e o.lower.0 ≡ lo) ctx (number w plan.upper) st (t + 1) (t + 2 + length o.args) o.body o.ends 1 t lo o.inits
      (joined nil (joined (copy fresh t o 0 o.lower o.inits t) nil)) second ys2
  one_copy =
      let len = inits_length T t o typed inside in
      let le : t ≤ t = omega arith in
      let a = copy_alike H fresh t o T typed inside f ctx covers below same o.lower o.inits t len le all_low 0 0 in
      let low : o.lower.0 < t = all_low.0 in
      let e0 : t + 0 ≡ t = omega arith in
      let e1 = labels_copy fresh t o 0 o.lower o.inits t in
      let b = copy_yields_below H fresh t o T typed inside f ctx covers below same o.lower o.inits t len le all_low in
      more o.lower nil (copy fresh t o 0 o.lower o.inits t) a.behind (λ n' env' s' i. (env', refl, i, λ y l. refl)) (omega arith) all_low.1
      (subst (λ z. AlikeOps H 0 (linked (t + 1) (o.lower ∷ o.inits) ctx) (t + 2 + length o.args) z o.body (copy fresh t o 0 o.lower o.inits t) a.behind) (sym e0) a.alike)
      (copy_yields H fresh t o T typed inside f ctx covers below same o.lower o.inits t len le all_low 0 0) goes
      (stop (all_below_more (t + labels_of o.body) (t + 0 + labels_of (copy fresh t o 0 o.lower o.inits t)) ys2 (omega (arith, e1)) b))

  -- the place of the loop that is left
  abbrev p2 : ℕ
  p2 = t + labels_of o.body + 1

  abbrev to : ℕ
  to = p2 + 2 + length o.args + labels_of (rename_ops f keep 0 o.body)

  abbrev behind : Scope
  behind = pairs (t + 2 + length o.args + labels_of o.body) to (length o.args) ctx

  peel_done : Works H 1 ctx t t o.results (operation_of o).kind (peeled fresh t plan o) behind
  peel_done =
      let hs = header_stays H t o T typed inside f ctx covers below same in
      let e1 = labels_copy fresh t o 0 o.lower o.inits t in
      let b = body_alike H t o T typed inside f ctx covers below same p2 0 keep (omega arith)
      (subst (λ z. Moves f (t + 1) z (1 + length o.args + labels_of o.body)) (omega arith) (moves (t + 1) (1 + length o.args + labels_of o.body) (omega arith) (omega arith))) in
      let yields = all_covered f (types_after (inner_types T t o typed inside) (t + 2 + length o.args) o.body) b.behind o.ends b.covers (ends_known T t o typed inside) in
      let len = inits_length T t o typed inside in
      let all : AllBelow q ys2 = copy_yields_below H fresh t o T typed inside f ctx covers below same o.lower o.inits t len (omega arith) all_low in
      let first = copy fresh t o 0 o.lower o.inits t in
      let jn : joined nil (joined first nil) ≡ first = joined_nil first in
      subst (λ z. Works H 1 ctx t t o.results (operation_of o).kind (joined z (behind_copy fresh t plan o)) behind) jn
      (peel_turns H ctx b.behind t t o.results o.results o.packs o.lower o.upper o.step o.lower o.upper o.step o.iv o.iv o.args o.args o.inits o.inits ys2
      o.body (rename_ops f keep 0 o.body) o.ends (relabels f o.ends) lo (number w plan.upper) st second (joined nil (joined first nil)) (fresh (names_of o.body)) o.iv.ty
      ((plan.lower + plan.step) % 2 ^ w) q
      (planned_header t o plan) below all_low.0 hs.0 hs.1 hs.2 hs.3 len (ends_length T t o typed inside) one_copy
      (rw jn (omega (arith, e1))) all (number_rest w (plan.lower + plan.step) ∙ sym (number_sum w plan.lower plan.step)) b.alike yields)

  pub peel_works : WorksFrom H f 1 t (operation_of o) (peeled fresh t plan o) T ctx
  peel_works =
      let e = labels_peeled fresh t plan o in
      let e2 = rename_labels f keep 0 o.body in
      record {
        behind = behind;
        works = peel_done;
        covers = results_covered H t o T typed inside f ctx covers below same to
            (subst (λ z. Moves f (t + 2 + length o.args + labels_of o.body) z (length o.results)) (omega (arith, e2)) (moves (t + 2 + length o.args + labels_of o.body) (length o.results) (omega arith) (omega arith)));
        below = results_below H t o T typed inside f ctx covers below same to (peeled fresh t plan o) (omega arith) (omega (arith, e, e2));
      }
