-- A loop that is unrolled by a factor: its constants, its main loop and its rest loop do what the loop does.
use Rattle.std.proofs.Common.{◌≡◌, ℕ, zero, suc, ◌+◌, ◌-◌, ◌*◌, ◌/◌, ◌%◌, ◌^◌, ◌==◌, ◌<◌, ◌≤◌, ◌⊎◌, inl, inr, true, false, List, ◌∷◌, length, refl, ap, ◌∙◌, sym, subst, arith}
use Rattle.std.proofs.Math.Nat.{mod-mod}
use Rattle.std.proofs.lemmas.Bool.{cases_Bool, eqb-true}
use Rattle.std.proofs.lemmas.Nat.{div-add-mod', mul-le}
use Rattle.arith_word.specs.declared.label.Label.{Label}
use Rattle.mlir_ir.specs.declared.types.Arg.{Arg}
use Rattle.mlir_ir.specs.declared.types.Pack.{Pack}
use Rattle.mlir_ir.specs.Operations.{For, OpList, nil, next, labels_of, joined}
use Rattle.mlir_ir.specs.Runs.{Number, number, look}
use Rattle.mlir_ir.specs.Typed.{Types, TypedOp, TypedRegions, types_after}
use Rattle.mlir_ir.specs.Words.{bits_of}
use Rattle.pass_copy.specs.Reported.{Claim}
use Rattle.pass_copy.specs.Renamed.{keep, anew, rename_arg, rename_args, rename_packs, rename_ops}
use Rattle.pass_copy.specs.Renaming.{renamed}
use Rattle.pass_copy.specs.Replaced.{op_labels, item_end}
use Rattle.pass_copy.proofs.AlikeOps.{AlikeOps, Works}
use Rattle.pass_copy.proofs.Bindings.{Scope, pairs, linked, All2, AllBelow, Below}
use Rattle.pass_copy.proofs.RenamedAlike.{Covers, Moves, AlikeFrom, all_covered, relabels_length, rename_labels, rename_args_length}
use Rattle.pass_copy.proofs.ReplacedAlike.{WorksFrom, if_true, if_false}
use Rattle.pass_copy.proofs.RunEnds.{goes_on, stepped}
use Rattle.pass_unroll.specs.Children.{rest_count, inner_args, in_body, main_first, main_ends, main_kind, main_names, main_alone, main_and_rest, unrolled, unroll_spans}
use Rattle.pass_unroll.specs.Copies.{ForLoop, operation_of, copy, copy_spans, copy_ends, more_copies}
use Rattle.pass_copy.specs.Built.{label, labels_from, constant}
use Rattle.pass_unroll.specs.Planned.{Turns, HasHeader}
use Rattle.pass_unroll.specs.declared.plan.Plan.{Plan}
use Rattle.pass_unroll.proofs.CopiedTurns.{Copies}
use Rattle.pass_unroll.proofs.CopyLabels.{labels_from_length, copy_below, copy_links, copy_inside}
use Rattle.pass_unroll.proofs.CopyStages.{stage_alike, copy_yields_below}
use Rattle.pass_unroll.proofs.CoveredScopes.{covers_same}
use Rattle.pass_unroll.proofs.HeaderNumbers.{number_rest, number_sum, goes_in, goes_out}
use Rattle.pass_unroll.proofs.LoopLabels.{unroll_before, unroll_results}
use Rattle.pass_unroll.proofs.LoopWorks.{planned_header, header_stays, body_alike, results_covered, results_below}
use Rattle.pass_unroll.proofs.MainTurns.{Main, over, turn, from_below}
use Rattle.pass_unroll.proofs.MoreStages.{more_copied}
use Rattle.pass_unroll.proofs.SpanLabels.{pick}
use Rattle.pass_unroll.proofs.LoopLengths.{inner_types, inits_length, results_length, ends_length, ends_known}
use Rattle.pass_unroll.proofs.UnrollTurns.{CarriesOn, nothing_left, loop_left, unroll_turns}

pub pick_from : (start n i : ℕ) → i < n → pick (labels_from start n) i ≡ start + i
pick_from start zero i h = absurd (omega arith)
pick_from start (suc n) zero h = omega arith
pick_from start (suc n) (suc i) h = let e : start + 1 + i ≡ start + suc i = omega arith in pick_from (start + 1) n i (omega arith) ∙ e

lt_or : (a b : ℕ) → (a < b) ⊎ (b ≤ a)
lt_or a zero = inr (omega arith)
lt_or zero (suc b) = inl (omega arith)
lt_or (suc a) (suc b) = elim (lt_or a b) [ inl h ↦ inl (omega (arith, h)) | inr h ↦ inr (omega (arith, h)) ]

-- i iterations of the main loop are within the count
within : (i mc factor count j : ℕ) → i < mc → j < factor → mc * factor ≤ count → i * factor + j < count
within i mc factor count j h l le =
    let e : suc i * factor ≤ mc * factor = mul-le (suc i) factor mc factor h (omega arith) in
    let e2 : suc i * factor ≡ i * factor + factor = omega arith in
    omega (arith, e, e2)

module _ (fresh : ℕ → List ℕ) (t : ℕ) (plan : Plan) (o : ForLoop) (factor : ℕ) (T : Types)
    (typed : TypedOp T o.packs o.results (operation_of o).kind) (inside : TypedRegions T t o.results (operation_of o).kind)
    (fits : t + op_labels (operation_of o) < item_end t) (factor_low : 2 ≤ factor) (factor_high : factor ≤ 32)
    (turns : Turns (bits_of o.iv.ty) (plan.lower % 2 ^ bits_of o.iv.ty) (plan.upper % 2 ^ bits_of o.iv.ty) plan.step plan.count)
    (main : Turns (bits_of o.iv.ty) plan.lower ((plan.lower + plan.count / factor * factor * plan.step) % 2 ^ bits_of o.iv.ty) (factor * plan.step) (plan.count / factor))
    (ctx : Scope) (covers : Covers (renamed (unroll_spans fresh t plan o factor)) T ctx) (below : Below t t ctx) where
  abbrev H : Claim
  H = HasHeader t o plan

  abbrev f : ℕ → ℕ
  f = renamed (unroll_spans fresh t plan o factor)

  abbrev w : ℕ
  w = bits_of o.iv.ty

  abbrev at_body : ℕ
  at_body = t + 2 + length o.args

  abbrev results : ℕ
  results = at_body + labels_of o.body

  same : (y : ℕ) → y < t → f y ≡ y
  same y h = unroll_before fresh t plan o factor fits y (omega arith)

  -- ---- the main loop, at label t + 2

  abbrev iv_label : Label
  iv_label = label (t + 2 + 1)

  abbrev args_labels : List Label
  args_labels = inner_args fresh t plan o factor (t + 2)

  abbrev main_in : ℕ
  main_in = in_body fresh t plan o factor (t + 2)

  abbrev first : OpList
  first = rename_ops (renamed (main_first fresh t plan o factor (t + 2))) keep 0 o.body

  abbrev first_ends : List Label
  first_ends = copy_ends fresh t o iv_label args_labels main_in

  abbrev others : OpList
  others = more_copies fresh t o plan.step iv_label (factor - 1) 1 2 (main_in + labels_of o.body) first_ends

  args_len : length args_labels ≡ length o.args
  args_len = labels_from_length (t + 2 + 2) (length o.args)

  in_front : t ≤ main_in
  in_front = omega arith

  all_low : AllBelow main_in (iv_label ∷ args_labels)
  all_low = (omega arith, from_below (t + 2 + 2) (length o.args) main_in (omega arith))

  first_alike : AlikeFrom H (renamed (copy_spans fresh t o iv_label args_labels main_in)) 0 (inner_types T t o typed inside) (linked (t + 1) (iv_label ∷ args_labels) ctx) at_body main_in o.body first
  first_alike = stage_alike H fresh t o T typed inside f ctx covers below same iv_label args_labels main_in args_len in_front all_low keep 0 0

  first_yields : All2 first_alike.behind o.ends first_ends
  first_yields =
      all_covered (renamed (copy_spans fresh t o iv_label args_labels main_in)) (types_after (inner_types T t o typed inside) at_body o.body) first_alike.behind o.ends first_alike.covers
      (ends_known T t o typed inside)

  -- the numbers of its bound and its step, and of its variable
  abbrev bound_number : Number
  bound_number = number w (plan.lower + plan.count / factor * (factor * plan.step))

  abbrev step_number : Number
  step_number = number w (factor * plan.step)

  abbrev up : Number
  up = number w plan.upper

  abbrev main_number : ℕ → Number
  main_number i = number w (plan.lower + i * (factor * plan.step))

  whole : plan.count / factor * factor + plan.count % factor ≡ plan.count
  whole = div-add-mod' plan.count factor

  goes_at : (i j : ℕ) → i < plan.count / factor → j < factor → goes_on up (number w (plan.lower + i * (factor * plan.step) + j * plan.step)) ≡ true
  goes_at i j h l =
      let e : plan.lower + (i * factor + j) * plan.step ≡ plan.lower + i * (factor * plan.step) + j * plan.step = omega arith in
      let le : plan.count / factor * factor ≤ plan.count = omega (arith, whole) in
      subst (λ z. goes_on up (number w z) ≡ true) e
      (goes_in w (plan.lower % 2 ^ w) plan.lower plan.upper plan.step plan.count turns (mod-mod plan.lower (2 ^ w)) (i * factor + j) (within i (plan.count / factor) factor plan.count j h l le))

  same_bound : number w (plan.lower + plan.count / factor * factor * plan.step) ≡ bound_number
  same_bound = let e : plan.lower + plan.count / factor * factor * plan.step ≡ plan.lower + plan.count / factor * (factor * plan.step) = omega arith in ap (number w) e

  main_goes : (i : ℕ) → i < plan.count / factor → goes_on bound_number (main_number i) ≡ true
  main_goes i h =
      subst (λ z. goes_on z (main_number i) ≡ true) same_bound
      (goes_in w plan.lower plan.lower (plan.lower + plan.count / factor * factor * plan.step) (factor * plan.step) (plan.count / factor) main refl i h)

  main_stops : goes_on bound_number (main_number (plan.count / factor)) ≡ false
  main_stops =
      subst (λ z. goes_on z (main_number (plan.count / factor)) ≡ false) same_bound
      (goes_out w plan.lower plan.lower (plan.lower + plan.count / factor * factor * plan.step) (factor * plan.step) (plan.count / factor) main refl)

  -- its iterations

  abbrev last_ends : List Label
  last_ends = main_ends fresh t plan o factor (t + 2)

  main_copies : (i : ℕ) → i < plan.count / factor
      → Copies H (λ e. look e (t + 2 + 1) ≡ main_number i) ctx up (number w plan.step) (t + 1) at_body o.body o.ends (factor - 1) (main_in + labels_of first)
      (stepped (number w plan.step) (main_number i)) first_ends others (main_number (i + 1)) last_ends
  main_copies i h =
      let v = plan.lower + i * (factor * plan.step) in
      let Q : ℕ → Number → Number → Type 0 =
      λ p x y. Copies H (λ e. look e (t + 2 + 1) ≡ main_number i) ctx up (number w plan.step) (t + 1) at_body o.body o.ends (factor - 1) (main_in + p) x first_ends others y last_ends in
      let e0 : v + plan.step ≡ v + 1 * plan.step = omega arith in
      let ef : 1 + (factor - 1) ≡ factor = omega arith in
      let e1 : v + factor * plan.step ≡ plan.lower + (i + 1) * (factor * plan.step) = omega arith in
      let e2 : v + (1 + (factor - 1)) * plan.step ≡ plan.lower + (i + 1) * (factor * plan.step) = ap (λ z. v + z * plan.step) ef ∙ e1 in
      let le : t ≤ main_in + labels_of o.body = omega arith in
      let low : t + 2 + 1 < main_in + labels_of o.body = omega arith in
      let go : (j : ℕ) → j < factor - 1 → goes_on up (number w (v + (1 + j) * plan.step)) ≡ true = λ j l. goes_at i (1 + j) h (omega arith) in
      subst (λ p. Q p (stepped (number w plan.step) (main_number i)) (main_number (i + 1))) (sym (rename_labels (renamed (main_first fresh t plan o factor (t + 2))) keep 0 o.body))
      (subst (λ x. Q (labels_of o.body) x (main_number (i + 1))) (sym (number_sum w v plan.step ∙ ap (number w) e0))
      (subst (λ y. Q (labels_of o.body) (number w (v + 1 * plan.step)) y) (ap (number w) e2)
      (more_copied H fresh t o T typed inside f ctx covers below same iv_label v plan.step up (factor - 1) 1 2 (main_in + labels_of o.body) first_ends
      (relabels_length (renamed (main_first fresh t plan o factor (t + 2))) o.ends ∙ ends_length T t o typed inside) le low
      (copy_yields_below H fresh t o T typed inside f ctx covers below same iv_label args_labels main_in args_len in_front all_low) go)))

  abbrev main_results : ℕ
  main_results = main_in + labels_of (joined first others)

  abbrev MainFrom : ℕ → Number → Number → Type 0
  MainFrom = Main H ctx first_alike.behind up (number w plan.step) bound_number step_number t t (t + 1) (t + 2 + 1) results main_results at_body main_in (length o.args) (factor - 1)
      o.body first others o.ends first_ends last_ends

  main_from : (q i : ℕ) → i + q ≡ plan.count / factor → MainFrom q (main_number i) bound_number
  main_from zero i e =
      let e2 : i ≡ plan.count / factor = omega (arith, e) in
      subst (λ z. MainFrom 0 (main_number z) bound_number) (sym e2) (over main_stops)
  main_from (suc q) i e =
      let lt : i < plan.count / factor = omega (arith, e) in
      let e0 : plan.lower + i * (factor * plan.step) + 0 * plan.step ≡ plan.lower + i * (factor * plan.step) = omega arith in
      let e1 : plan.lower + i * (factor * plan.step) + factor * plan.step ≡ plan.lower + (i + 1) * (factor * plan.step) = omega arith in
      turn (main_goes i lt) (subst (λ z. goes_on up (number w z) ≡ true) e0 (goes_at i 0 lt (omega arith))) (main_copies i lt)
      (number_sum w (plan.lower + i * (factor * plan.step)) (factor * plan.step) ∙ ap (number w) e1) (main_from q (i + 1) (omega (arith, e)))

  all_main : MainFrom (plan.count / factor) (number w plan.lower) bound_number
  all_main =
      let e : plan.lower + 0 * (factor * plan.step) ≡ plan.lower = omega arith in
      subst (λ z. MainFrom (plan.count / factor) (number w z) bound_number) e (main_from (plan.count / factor) 0 (omega arith))

  main_with_step : Main H ctx first_alike.behind up (number w plan.step) bound_number (number w (factor * plan.step % 2 ^ w)) t t (t + 1) (t + 2 + 1) results main_results at_body main_in (length o.args) (factor - 1)
      o.body first others o.ends first_ends last_ends (plan.count / factor) (number w plan.lower) bound_number
  main_with_step =
      subst (λ z. Main H ctx first_alike.behind up (number w plan.step) bound_number z t t (t + 1) (t + 2 + 1) results main_results at_body main_in (length o.args) (factor - 1)
      o.body first others o.ends first_ends last_ends (plan.count / factor) (number w plan.lower) bound_number) (sym (number_rest w (factor * plan.step))) all_main

  -- ---- the constants and the main loop, with operations behind it

  abbrev with_tail : List Pack → OpList → OpList
  with_tail packs tail =
      constant (fresh 0) o.iv.ty (plan.lower + plan.count / factor * factor * plan.step)
      (constant (fresh 1) o.iv.ty (factor * plan.step) (next packs o.results (main_kind fresh t plan o factor (t + 2)) tail))

  tail_works : (packs : List Pack) (tail : OpList) (ctx1 : Scope)
      → CarriesOn H ctx t t o.results o.lower o.upper o.step o.lower o.upper o.step o.iv o.args o.inits o.inits o.body o.ends (number w plan.lower) up (number w plan.step) bound_number
      main_results (main_results + length o.results) tail ctx1
      → Works H 0 ctx t t o.results (operation_of o).kind (with_tail packs tail) ctx1
  tail_works packs tail ctx1 finish =
      let hs = header_stays H t o T typed inside f ctx covers below same in
      unroll_turns H ctx t t o.results o.lower o.upper o.step o.lower o.upper o.step o.iv o.args o.inits o.inits o.body o.ends (number w plan.lower) up (number w plan.step) bound_number
      first_alike.behind (fresh 0) (fresh 1) o.iv.ty o.iv.ty ((plan.lower + plan.count / factor * factor * plan.step) % 2 ^ w) (factor * plan.step % 2 ^ w) packs o.results o.iv o.args
      first others first_ends last_ends (factor - 1) (plan.count / factor) tail ctx1 (main_results + length o.results)
      (planned_header t o plan) below hs.0 hs.3 (inits_length T t o typed inside) (ends_length T t o typed inside) refl (omega arith) refl
      (number_rest w (plan.lower + plan.count / factor * factor * plan.step) ∙ same_bound)
      (subst (λ z. AlikeOps H 0 (linked (t + 1) (iv_label ∷ labels_from z (length o.args)) ctx) at_body main_in o.body first first_alike.behind) (omega arith) first_alike.alike)
      first_yields main_with_step finish

  -- results that are the last labels of these operations
  moved_results : (to : ℕ) → to + length o.results ≡ t + labels_of (unrolled fresh t plan o factor) → Moves f results to (length o.results)
  moved_results to e y low high = let p = unroll_results fresh t plan o factor fits y low (omega arith) in omega (arith, p, e)

  done_at : (to : ℕ) (ops : OpList) → unrolled fresh t plan o factor ≡ ops → t ≤ to → to + length o.results ≡ t + labels_of ops
      → Works H 0 ctx t t o.results (operation_of o).kind ops (pairs results to (length o.args) ctx)
      → WorksFrom H f 0 t (operation_of o) (unrolled fresh t plan o factor) T ctx
  done_at to ops e le fit works =
      let el : labels_of (unrolled fresh t plan o factor) ≡ labels_of ops = ap labels_of e in
      subst (λ z. WorksFrom H f 0 t (operation_of o) z T ctx) (sym e)
      (record {
        behind = pairs results to (length o.args) ctx;
        works = works;
        covers = results_covered H t o T typed inside f ctx covers below same to (moved_results to (omega (arith, el, fit)));
        below = results_below H t o T typed inside f ctx covers below same to ops le (omega (arith, fit));
      })

  -- ---- the factor divides the count

  none_left : (rest_count fresh t plan o factor == 0) ≡ true → goes_on up bound_number ≡ false
  none_left z =
      let e : plan.count % factor ≡ 0 = eqb-true (plan.count % factor) 0 z in
      let q = plan.count / factor in
      let e2 : plan.count ≡ q * factor = omega (arith, e, whole) in
      let e3 : plan.lower + plan.count * plan.step ≡ plan.lower + q * (factor * plan.step) = (ap (λ z. plan.lower + z * plan.step) e2) ∙ (let e4 : plan.lower + q * factor * plan.step ≡ plan.lower + q * (factor * plan.step) = omega arith in e4) in
      subst (λ z. goes_on up (number w z) ≡ false) e3
      (goes_out w (plan.lower % 2 ^ w) plan.lower plan.upper plan.step plan.count turns (mod-mod plan.lower (2 ^ w)))

  alone_works : (rest_count fresh t plan o factor == 0) ≡ true → WorksFrom H f 0 t (operation_of o) (unrolled fresh t plan o factor) T ctx
  alone_works z =
      done_at main_results (with_tail o.packs nil)
      (ap (λ ops. constant (fresh 0) o.iv.ty (plan.lower + plan.count / factor * factor * plan.step) (constant (fresh 1) o.iv.ty (factor * plan.step) ops))
      (if_true (rest_count fresh t plan o factor == 0) (main_alone fresh t plan o factor) (main_and_rest fresh t plan o factor) z))
      (omega arith) (omega arith)
      (tail_works o.packs nil (pairs results main_results (length o.args) ctx)
      (nothing_left H ctx t t o.results o.lower o.upper o.step o.lower o.upper o.step o.iv o.args o.inits o.inits o.body o.ends (number w plan.lower) up (number w plan.step) bound_number
      main_results (main_results + length o.results) below (omega arith) (none_left z)))

  -- ---- the factor doesn't divide the count: a rest loop is left, at place q

  abbrev q : ℕ
  q = main_results + length o.results

  abbrev rest_args : List Label
  rest_args = inner_args fresh t plan o factor q

  abbrev rest_in : ℕ
  rest_in = in_body fresh t plan o factor q

  abbrev g : ℕ → ℕ
  g = renamed (copy_spans fresh t o (label (q + 1)) rest_args rest_in)

  abbrev names_before : ℕ
  names_before = main_names fresh t plan o factor + length o.packs

  abbrev rest_copy : OpList
  rest_copy = copy fresh t o (names_before + 1 + length o.args) (label (q + 1)) rest_args rest_in

  picks : (i : ℕ) → i < 1 + length o.args → pick (label (q + 1) ∷ rest_args) i ≡ q + 1 + i
  picks zero h = omega arith
  picks (suc i) h = let e : q + 2 + i ≡ q + 1 + suc i = omega arith in pick_from (q + 2) (length o.args) i (omega arith) ∙ e

  rest_args_len : length rest_args ≡ length o.args
  rest_args_len = labels_from_length (q + 2) (length o.args)

  rest_moves : Moves g (t + 1) (q + 1) (1 + length o.args + labels_of o.body)
  rest_moves y low high =
      elim (lt_or y (t + 2 + length o.args)) [
        | inl h ↦
            let e : t + 1 + (y - (t + 1)) ≡ y = omega arith in
            let p = sym (ap g e) ∙ (copy_links fresh t o (label (q + 1)) rest_args rest_in (y - (t + 1)) (omega (arith, rest_args_len)) ∙ picks (y - (t + 1)) (omega arith)) in
            omega (arith, p)
        | inr h ↦
            let p = copy_inside fresh t o (label (q + 1)) rest_args rest_in y (omega (arith, rest_args_len)) (omega (arith, rest_args_len)) in
            omega (arith, p, rest_args_len)
      ]

  rest_same : (y : ℕ) → y < t → g y ≡ y
  rest_same y h = copy_below fresh t o (label (q + 1)) rest_args rest_in y (omega arith)

  rest_covers : Covers g T ctx
  rest_covers = covers_same f g T ctx t t below (λ y h. same y h ∙ sym (rest_same y h)) covers

  rest_alike : AlikeFrom H g 31 (inner_types T t o typed inside) (pairs (t + 1) (q + 1) (suc (length o.args)) ctx) at_body (q + 2 + length o.args) o.body rest_copy
  rest_alike = body_alike H t o T typed inside g ctx rest_covers below rest_same q (names_before + 1 + length o.args) (anew fresh) (omega arith) rest_moves

  rest_yields : All2 rest_alike.behind o.ends (copy_ends fresh t o (label (q + 1)) rest_args rest_in)
  rest_yields = all_covered g (types_after (inner_types T t o typed inside) at_body o.body) rest_alike.behind o.ends rest_alike.covers (ends_known T t o typed inside)

  abbrev new_args : List Arg
  new_args = rename_args (anew fresh) (names_before + 1) o.args

  abbrev rest_results : ℕ
  rest_results = q + 2 + length new_args + labels_of rest_copy

  -- what stands behind the main loop
  abbrev rest_tail : List Label → OpList
  rest_tail inits =
      next o.packs o.results
      (For (label t) o.upper o.step (rename_arg (anew fresh) names_before o.iv) new_args inits rest_copy (copy_ends fresh t o (label (q + 1)) rest_args rest_in)) nil

  rest_carries_on : CarriesOn H ctx t t o.results o.lower o.upper o.step o.lower o.upper o.step o.iv o.args o.inits o.inits o.body o.ends (number w plan.lower) up (number w plan.step) bound_number
      main_results q (rest_tail (labels_from main_results (length o.results))) (pairs results rest_results (length o.args) ctx)
  rest_carries_on =
      let hs = header_stays H t o T typed inside f ctx covers below same in
      let P : List Label → Type 0 =
      λ inits. CarriesOn H ctx t t o.results o.lower o.upper o.step o.lower o.upper o.step o.iv o.args o.inits o.inits o.body o.ends (number w plan.lower) up (number w plan.step) bound_number
      main_results q (rest_tail inits) (pairs results rest_results (length o.args) ctx) in
      let el = rename_args_length (anew fresh) (names_before + 1) o.args in
      subst (λ z. P (labels_from main_results z)) (results_length T t o typed inside)
      (loop_left H ctx t t o.results o.lower o.upper o.step o.lower o.upper o.step o.iv o.args o.inits o.inits o.body o.ends (number w plan.lower) up (number w plan.step) bound_number
      rest_alike.behind main_results q o.packs o.results (rename_arg (anew fresh) names_before o.iv) new_args rest_copy (copy_ends fresh t o (label (q + 1)) rest_args rest_in)
      below (omega arith) (omega arith) hs.1 hs.2 (ends_length T t o typed inside)
      (subst (λ z. AlikeOps H 31 (pairs (t + 1) (q + 1) (suc (length o.args)) ctx) at_body (q + 2 + z) o.body rest_copy rest_alike.behind) (sym el) rest_alike.alike) rest_yields)

  remaining_works : (rest_count fresh t plan o factor == 0) ≡ false → WorksFrom H f 0 t (operation_of o) (unrolled fresh t plan o factor) T ctx
  remaining_works z =
      let packs = rename_packs (anew fresh) (main_names fresh t plan o factor) o.packs in
      done_at rest_results (with_tail packs (rest_tail (labels_from main_results (length o.results))))
      (ap (λ ops. constant (fresh 0) o.iv.ty (plan.lower + plan.count / factor * factor * plan.step) (constant (fresh 1) o.iv.ty (factor * plan.step) ops))
      (if_false (rest_count fresh t plan o factor == 0) (main_alone fresh t plan o factor) (main_and_rest fresh t plan o factor) z))
      (omega arith) (omega arith)
      (tail_works packs (rest_tail (labels_from main_results (length o.results))) (pairs results rest_results (length o.args) ctx) rest_carries_on)

  pub unroll_works : WorksFrom H f 0 t (operation_of o) (unrolled fresh t plan o factor) T ctx
  unroll_works = elim (cases_Bool (rest_count fresh t plan o factor == 0)) [ inl z ↦ alone_works z | inr z ↦ remaining_works z ]
