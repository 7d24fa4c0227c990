-- What the labels of a function get where the product of a loop becomes an argument: those in front of the loop stay, those in it and
-- behind it in its item move, and those of later items stay.
use Rattle.std.proofs.Common.{◌≡◌, ℕ, ◌+◌, ◌-◌, ◌<◌, ◌≤◌, List, [], ◌∷◌, ◌++◌, length, length-append, ap, ◌∙◌, arith}
use Rattle.mlir_ir.specs.Operations.{nil, next, labels_of, joined}
use Rattle.pass_copy.specs.Built.{label, sum, moved}
use Rattle.pass_copy.specs.Renamed.{keep, rename_ops, names_of}
use Rattle.pass_copy.specs.Renaming.{span, renamed}
use Rattle.pass_copy.specs.Replaced.{op_labels, item_end}
use Rattle.pass_copy.specs.declared.renaming.Span.{Span}
use Rattle.pass_copy.proofs.CarriedTypes.{Moves}
use Rattle.pass_copy.proofs.JoinedOps.{joined_labels, joined_assoc}
use Rattle.pass_copy.proofs.RenamedOps.{rename_labels}
use Rattle.pass_expand.specs.Expanded.{expansion_end}
use Rattle.pass_indvar.specs.Reductions.{Progression, without, start_ops, step_at, step_ops, loop_at, loop_names, in_body, results_at, new_arg, new_end, reduced_spans, reduced_body, reduced_loop, reduced}
use Rattle.pass_indvar.proofs.FirstProducts.{kind_of, IsParted}
use Rattle.pass_indvar.proofs.PartedOps.{joined_renamed}
use Rattle.pass_unroll.specs.Copies.{ForLoop, operation_of}
use Rattle.pass_unroll.proofs.ItemEnds.{same_end}
use Rattle.pass_unroll.proofs.LoopLabels.{moved_before, moved_has, moved_behind}
use Rattle.pass_unroll.proofs.SpanLabels.{span_has, span_before, span_behind}
use Rattle.mlir_ir.specs.Typed.{Types}

-- one argument more
pub one_longer : {A : Type 0} (xs : List A) (x : A) → length (xs ++ x ∷ []) ≡ length xs + 1
one_longer xs x = length-append xs (x ∷ [])

module _ (fresh : ℕ → List ℕ) (t : ℕ) (o : ForLoop) (g : Progression) (scope : Types) (parted : IsParted scope g (t + 2 + length o.args) o.body) where
  abbrev pub f : ℕ → ℕ
  f = renamed (reduced_spans fresh t o g)

  -- the body has as many labels as it had: the addition has one in the place of the product
  pub parted_labels : labels_of o.body ≡ labels_of parted.front + 1 + labels_of parted.behind
  parted_labels =
      let e = ap labels_of parted.is in
      let j = joined_labels parted.front (next parted.product.packs (g.ty ∷ []) (kind_of parted.product) parted.behind) in
      omega (arith, e, j)

  -- the body in two parts, and the addition
  pub child_body : reduced_body fresh t o g
      ≡ joined (rename_ops f keep 0 parted.front) (joined (rename_ops f keep (0 + names_of parted.front) parted.behind)
      (sum (fresh (loop_names fresh t o g + 1)) g.ty (label (new_arg fresh t o g)) (label (expansion_end (step_at fresh t o g) g.step)) nil))
  child_body =
      let addition = sum (fresh (loop_names fresh t o g + 1)) g.ty (label (new_arg fresh t o g)) (label (expansion_end (step_at fresh t o g) g.step)) nil in
      ap (λ x. joined (rename_ops f keep 0 x) addition) parted.rest
      ∙ ap (λ x. joined x addition) (joined_renamed f keep 0 parted.front parted.behind)
      ∙ joined_assoc (rename_ops f keep 0 parted.front) (rename_ops f keep (0 + names_of parted.front) parted.behind) addition

  pub body_labels : labels_of (reduced_body fresh t o g) ≡ labels_of o.body
  body_labels =
      let kept = rename_ops f keep 0 (without g.product (in_body fresh t o g) o.body) in
      let e = joined_labels kept (sum (fresh (loop_names fresh t o g + 1)) g.ty (label (new_arg fresh t o g)) (label (expansion_end (step_at fresh t o g) g.step)) nil) in
      let r = rename_labels f keep 0 (without g.product (in_body fresh t o g) o.body) in
      let w = ap labels_of parted.rest in
      let j = joined_labels parted.front parted.behind in
      omega (arith, e, r, w, j, parted_labels)

  pub loop_behind : loop_at fresh t o g ≡ t + labels_of (start_ops fresh t o g) + labels_of (step_ops fresh t o g)
  loop_behind = omega arith

  pub reduced_labels : labels_of (reduced fresh t o g) + t ≡ loop_at fresh t o g + op_labels (operation_of o) + 2
  reduced_labels =
      let e = joined_labels (start_ops fresh t o g) (joined (step_ops fresh t o g) (reduced_loop fresh t o g)) in
      let e2 = joined_labels (step_ops fresh t o g) (reduced_loop fresh t o g) in
      let a = one_longer o.args (record { name = fresh (loop_names fresh t o g); ty = g.ty }) in
      let r = one_longer o.results g.ty in
      omega (arith, e, e2, a, r, body_labels)

  product_there : (in_body fresh t o g ≤ g.product) × (g.product + 1 ≤ results_at fresh t o g)
  product_there = let s = parted.stands in let e = parted_labels in (omega arith, omega (arith, s, e))

  abbrev last : ℕ
  last = results_at fresh t o g + length o.results

  abbrev from_results : List Span
  from_results = span (results_at fresh t o g) (length o.results) (new_end fresh t o g + 1) ∷ moved last (new_end fresh t o g + 2 + length o.results) ∷ []

  abbrev from_behind : List Span
  from_behind = span (g.product + 1) (results_at fresh t o g - (g.product + 1)) (g.product + 1 + (loop_at fresh t o g - t)) ∷ from_results

  abbrev from_product : List Span
  from_product = span g.product 1 (new_arg fresh t o g) ∷ from_behind

  abbrev from_body : List Span
  from_body = span (in_body fresh t o g) (g.product - in_body fresh t o g) (new_arg fresh t o g + 1) ∷ from_product

  pub stays : (l : ℕ) → l < t + 1 → f l ≡ l
  stays l h =
      let p = product_there in
      span_before (t + 1) (1 + length o.args) (loop_at fresh t o g + 1) from_body l h
      ∙ span_before (in_body fresh t o g) (g.product - in_body fresh t o g) (new_arg fresh t o g + 1) from_product l (omega arith)
      ∙ span_before g.product 1 (new_arg fresh t o g) from_behind l (omega (arith, p.0))
      ∙ span_before (g.product + 1) (results_at fresh t o g - (g.product + 1)) (g.product + 1 + (loop_at fresh t o g - t)) from_results l (omega (arith, p.0))
      ∙ span_before (results_at fresh t o g) (length o.results) (new_end fresh t o g + 1) (moved last (new_end fresh t o g + 2 + length o.results) ∷ []) l (omega arith)
      ∙ moved_before last (new_end fresh t o g + 2 + length o.results) l (omega arith)

  -- the variable and the arguments
  pub header_moves : Moves f (t + 1) (loop_at fresh t o g + 1) (1 + length o.args)
  header_moves l low high =
      let e = span_has (t + 1) (1 + length o.args) (loop_at fresh t o g + 1) from_body l low high in
      omega (arith, e, low)

  past_header : (l : ℕ) → in_body fresh t o g ≤ l → f l ≡ renamed from_body l
  past_header l low = span_behind (t + 1) (1 + length o.args) (loop_at fresh t o g + 1) from_body l (omega arith)

  -- what is in front of the product
  pub front_moves : Moves f (in_body fresh t o g) (new_arg fresh t o g + 1) (labels_of parted.front)
  front_moves l low high =
      let s = parted.stands in
      let e = past_header l low ∙ span_has (in_body fresh t o g) (g.product - in_body fresh t o g) (new_arg fresh t o g + 1) from_product l low (omega (arith, s, high)) in
      omega (arith, e, low)

  past_front : (l : ℕ) → g.product ≤ l → f l ≡ renamed from_product l
  past_front l low =
      let p = product_there in
      past_header l (omega (arith, p.0))
      ∙ span_behind (in_body fresh t o g) (g.product - in_body fresh t o g) (new_arg fresh t o g + 1) from_product l (omega (arith, p.0, low))

  pub product_is_new : Moves f g.product (new_arg fresh t o g) 1
  product_is_new l low high =
      let e = past_front l low ∙ span_has g.product 1 (new_arg fresh t o g) from_behind l low high in
      omega (arith, e, low)

  past_product : (l : ℕ) → g.product + 1 ≤ l → f l ≡ renamed from_behind l
  past_product l low = past_front l (omega arith) ∙ span_behind g.product 1 (new_arg fresh t o g) from_behind l low

  -- what is behind the product
  pub behind_moves : Moves f (g.product + 1) (new_arg fresh t o g + 1 + labels_of parted.front) (labels_of parted.behind)
  behind_moves l low high =
      let s = parted.stands in
      let n = parted_labels in
      let e = past_product l low
      ∙ span_has (g.product + 1) (results_at fresh t o g - (g.product + 1)) (g.product + 1 + (loop_at fresh t o g - t)) from_results l low (omega (arith, s, n, high)) in
      omega (arith, e, s, low)

  past_body : (l : ℕ) → results_at fresh t o g ≤ l → f l ≡ renamed from_results l
  past_body l low =
      let p = product_there in
      past_product l (omega (arith, p.1))
      ∙ span_behind (g.product + 1) (results_at fresh t o g - (g.product + 1)) (g.product + 1 + (loop_at fresh t o g - t)) from_results l (omega (arith, p.1, low))

  pub results_move : Moves f (results_at fresh t o g) (new_end fresh t o g + 1) (length o.results)
  results_move l low high =
      let e = past_body l low
      ∙ span_has (results_at fresh t o g) (length o.results) (new_end fresh t o g + 1) (moved last (new_end fresh t o g + 2 + length o.results) ∷ []) l low high in
      omega (arith, e, low)

  past_results : (l : ℕ) → last ≤ l → f l ≡ renamed (moved last (new_end fresh t o g + 2 + length o.results) ∷ []) l
  past_results l low =
      past_body l (omega arith)
      ∙ span_behind (results_at fresh t o g) (length o.results) (new_end fresh t o g + 1) (moved last (new_end fresh t o g + 2 + length o.results) ∷ []) l low

  module _ (fits : t + op_labels (operation_of o) < item_end t) where
    last_item : item_end last ≡ item_end t
    last_item = let e : last ≡ t + op_labels (operation_of o) = omega arith in ap item_end e ∙ same_end t (op_labels (operation_of o)) fits

    pub moves : (l : ℕ) → t + op_labels (operation_of o) ≤ l → l < item_end t → f l + op_labels (operation_of o) ≡ l + labels_of (reduced fresh t o g)
    moves l low high =
        let i = last_item in
        let n = reduced_labels in
        let e = past_results l (omega arith) ∙ moved_has last (new_end fresh t o g + 2 + length o.results) l (omega arith) (omega (arith, i, high)) in
        omega (arith, e, n, low)

    pub beyond : (l : ℕ) → item_end t ≤ l → f l ≡ l
    beyond l low =
        let i = last_item in
        past_results l (omega (arith, fits, low)) ∙ moved_behind last (new_end fresh t o g + 2 + length o.results) l (omega (arith, i, fits)) (omega (arith, i, low))
