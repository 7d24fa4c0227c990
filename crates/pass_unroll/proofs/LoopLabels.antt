-- What the labels of a function get where a loop is peeled or unrolled: those in front of it stay, those behind it in its item move as the
-- loop's operations do, and those of later items stay.
use Rattle.std.proofs.Common.{◌≡◌, ℕ, ◌+◌, ◌-◌, ◌==◌, ◌<◌, ◌≤◌, Bool, true, false, List, [], ◌∷◌, length, if◌then◌else◌, ap, ◌∙◌, arith}
use Rattle.mlir_ir.specs.Operations.{For, OpList, next, nil, labels_of}
use Rattle.pass_copy.specs.Renamed.{relabels, keep, rename_ops, names_of}
use Rattle.pass_copy.specs.Renaming.{renamed}
use Rattle.pass_copy.specs.Replaced.{op_labels, item_end}
use Rattle.pass_copy.specs.declared.renaming.Span.{Span}
use Rattle.pass_copy.proofs.Ahead.{joined_labels}
use Rattle.pass_copy.proofs.RenamedAlike.{rename_labels}
use Rattle.pass_unroll.specs.Copies.{ForLoop, operation_of, copy, copy_ends, full_ends}
use Rattle.pass_copy.specs.Built.{label, constant, moved}
use Rattle.pass_unroll.specs.Children.{peel_spans, peeled, full_spans, unrolled_full, unroll_spans, unrolled, rest_count, main_alone, main_and_rest}
use Rattle.pass_unroll.specs.declared.plan.Plan.{Plan}
use Rattle.pass_unroll.proofs.CopyLabels.{labels_copy, full_ends_length}
use Rattle.pass_unroll.proofs.ItemEnds.{below_end, same_end}
use Rattle.pass_unroll.proofs.SpanLabels.{pick, span_has, span_before, span_behind, links_before, links_behind, links_has}

either_fits : (c : Bool) (a b : OpList) (n : ℕ) → n ≤ labels_of a → n ≤ labels_of b → n ≤ labels_of (if c then a else b)
either_fits true a b n h g = h
either_fits false a b n h g = g

-- in what is moved
module _ (start to : ℕ) where
  pub moved_before : (l : ℕ) → l < start → renamed (moved start to ∷ []) l ≡ l
  moved_before l h = span_before start (item_end start - start) to [] l h

  pub moved_has : (l : ℕ) → start ≤ l → l < item_end start → renamed (moved start to ∷ []) l ≡ l - start + to
  moved_has l low high = span_has start (item_end start - start) to [] l low (omega arith)

  pub moved_behind : (l : ℕ) → start ≤ item_end start → item_end start ≤ l → renamed (moved start to ∷ []) l ≡ l
  moved_behind l le h = span_behind start (item_end start - start) to [] l (omega arith)

module _ (fresh : ℕ → List ℕ) (t : ℕ) (plan : Plan) (o : ForLoop) where
  abbrev pub in_loop : ℕ
  in_loop = t + 2 + length o.args

  -- the labels of the loop's results begin here
  abbrev pub loop_results : ℕ
  loop_results = in_loop + labels_of o.body

  -- ---- peel

  pub peel_before : (l : ℕ) → l < t → renamed (peel_spans fresh t plan o) l ≡ l
  peel_before l h = moved_before t (t + labels_of o.body + 1) l h

  pub peel_has : (l : ℕ) → t ≤ l → l < item_end t → renamed (peel_spans fresh t plan o) l ≡ l + (labels_of o.body + 1)
  peel_has l low high = let e : l - t + (t + labels_of o.body + 1) ≡ l + (labels_of o.body + 1) = omega arith in moved_has t (t + labels_of o.body + 1) l low high ∙ e

  pub peel_behind : (l : ℕ) → item_end t ≤ l → renamed (peel_spans fresh t plan o) l ≡ l
  peel_behind l h = let e : t < item_end t = below_end t in moved_behind t (t + labels_of o.body + 1) l (omega arith) h

  -- what stands behind the copy
  abbrev pub behind_copy : OpList
  behind_copy =
      let f = renamed (peel_spans fresh t plan o) in
      constant (fresh (names_of o.body)) o.iv.ty (plan.lower + plan.step)
      (next o.packs o.results
      (For (label (t + labels_of o.body)) o.upper o.step o.iv o.args (copy_ends fresh t o o.lower o.inits t)
      (rename_ops f keep 0 o.body) (relabels f o.ends)) nil)

  pub labels_peeled : labels_of (peeled fresh t plan o) ≡ labels_of o.body + 1 + op_labels (operation_of o)
  labels_peeled =
      let e1 = labels_copy fresh t o 0 o.lower o.inits t in
      let e2 = rename_labels (renamed (peel_spans fresh t plan o)) keep 0 o.body in
      let e3 = joined_labels (copy fresh t o 0 o.lower o.inits t) behind_copy in
      omega (arith, e1, e2, e3)

  -- ---- unroll in full

  abbrev behind_full : List Span
  behind_full = moved (loop_results + length o.results) (t + labels_of (unrolled_full fresh t plan o)) ∷ []

  pub full_before : (l : ℕ) → l < loop_results → renamed (full_spans fresh t plan o) l ≡ l
  full_before l h =
      links_before loop_results (full_ends fresh t o plan.count t o.inits) behind_full l h
      ∙ moved_before (loop_results + length o.results) (t + labels_of (unrolled_full fresh t plan o)) l (omega arith)

  pub full_results : (i : ℕ) → i < length (full_ends fresh t o plan.count t o.inits)
      → renamed (full_spans fresh t plan o) (loop_results + i) ≡ pick (full_ends fresh t o plan.count t o.inits) i
  full_results i h = links_has loop_results (full_ends fresh t o plan.count t o.inits) behind_full i h

  module _ (ends_len : length o.ends ≡ length o.inits) (results_len : length o.inits ≡ length o.results) (fits : t + op_labels (operation_of o) < item_end t) where
    full_length : length (full_ends fresh t o plan.count t o.inits) ≡ length o.results
    full_length = full_ends_length fresh t o plan.count t o.inits ends_len ∙ results_len

    same_item : item_end (loop_results + length o.results) ≡ item_end t
    same_item =
        let e : loop_results + length o.results ≡ t + op_labels (operation_of o) = omega arith in
        ap item_end e ∙ same_end t (op_labels (operation_of o)) fits

    pub full_has : (l : ℕ) → t + op_labels (operation_of o) ≤ l → l < item_end t
        → renamed (full_spans fresh t plan o) l + op_labels (operation_of o) ≡ l + labels_of (unrolled_full fresh t plan o)
    full_has l low high =
        let e = full_length in
        let e2 = same_item in
        let p1 = links_behind loop_results (full_ends fresh t o plan.count t o.inits) behind_full l (omega (arith, e)) in
        let p2 = moved_has (loop_results + length o.results) (t + labels_of (unrolled_full fresh t plan o)) l (omega arith) (omega (arith, e2)) in
        let p = p1 ∙ p2 in
        omega (arith, p)

    pub full_behind : (l : ℕ) → item_end t ≤ l → renamed (full_spans fresh t plan o) l ≡ l
    full_behind l h =
        let e = full_length in
        let e2 = same_item in
        links_behind loop_results (full_ends fresh t o plan.count t o.inits) behind_full l (omega (arith, e, fits))
        ∙ moved_behind (loop_results + length o.results) (t + labels_of (unrolled_full fresh t plan o)) l (omega (arith, e2, fits)) (omega (arith, e2))

  -- ---- unroll by a factor

  module _ (factor : ℕ) (fits : t + op_labels (operation_of o) < item_end t) where
    abbrev labels_now : ℕ
    labels_now = labels_of (unrolled fresh t plan o factor)

    results_item : item_end loop_results ≡ item_end t
    results_item =
        let e : loop_results ≡ t + (2 + length o.args + labels_of o.body) = omega arith in
        ap item_end e ∙ same_end t (2 + length o.args + labels_of o.body) (omega arith)

    pub unroll_before : (l : ℕ) → l < loop_results → renamed (unroll_spans fresh t plan o factor) l ≡ l
    unroll_before l h = moved_before loop_results (t + labels_now - length o.results) l h

    pub unroll_results : (l : ℕ) → loop_results ≤ l → l < item_end t
        → renamed (unroll_spans fresh t plan o factor) l ≡ l - loop_results + (t + labels_now - length o.results)
    unroll_results l low high =
        let e = results_item in
        moved_has loop_results (t + labels_now - length o.results) l low (omega arith)

    results_fit : length o.results ≤ labels_now
    results_fit =
        let e = either_fits (rest_count fresh t plan o factor == 0) (main_alone fresh t plan o factor) (main_and_rest fresh t plan o factor) (length o.results) (omega arith) (omega arith) in
        omega (arith, e)

    pub unroll_has : (l : ℕ) → t + op_labels (operation_of o) ≤ l → l < item_end t
        → renamed (unroll_spans fresh t plan o factor) l + op_labels (operation_of o) ≡ l + labels_now
    unroll_has l low high = let p = unroll_results l (omega arith) high in omega (arith, p, results_fit)

    pub unroll_behind : (l : ℕ) → item_end t ≤ l → renamed (unroll_spans fresh t plan o factor) l ≡ l
    unroll_behind l h =
        let e = results_item in
        moved_behind loop_results (t + labels_now - length o.results) l (omega (arith, e, fits)) (omega (arith, e))
