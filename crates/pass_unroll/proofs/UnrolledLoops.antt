-- The loops of an unrolled one behind its constants, as far as they are built.
use Rattle.std.proofs.Common.{◌≡◌, ℕ, ◌+◌, ◌-◌, ◌==◌, Bool, true, false, List, length, ap, ◌∙◌, sym, arith, if◌then◌else◌}
use Rattle.mlir_ir.specs.Operations.{OpKind, nil, next, labels_of, inner_labels}
use Rattle.pass_copy.specs.Renamed.{anew, rename_packs}
use Rattle.pass_copy.specs.Renaming.{renamed}
use Rattle.pass_unroll.specs.Children.{main_kind, main_body, main_names, main_alone, main_and_rest, rest_kind, rest_count, inner_args, in_body, unrolled}
use Rattle.pass_unroll.specs.Copies.{ForLoop, copy_spans}
use Rattle.pass_copy.specs.Built.{label, labels_from}
use Rattle.pass_unroll.specs.Steps.{main_loops}
use Rattle.pass_unroll.specs.declared.plan.Plan.{Plan}
use Rattle.pass_unroll.proofs.RenamedCounts.{args_length, copied_labels}

module _ (fresh : ℕ → List ℕ) (t : ℕ) (plan : Plan) (o : ForLoop) (factor : ℕ) where
  by_rest : (b : Bool) → (rest_count fresh t plan o factor == 0) ≡ b
      → main_loops fresh t plan o factor ≡ (if b then main_alone fresh t plan o factor else main_and_rest fresh t plan o factor)
  by_rest b e = ap (λ (x : Bool). if x then main_alone fresh t plan o factor else main_and_rest fresh t plan o factor) e

  pub alone : (rest_count fresh t plan o factor == 0) ≡ true → main_loops fresh t plan o factor ≡ main_alone fresh t plan o factor
  alone e = by_rest true e

  pub both : (rest_count fresh t plan o factor == 0) ≡ false → main_loops fresh t plan o factor ≡ main_and_rest fresh t plan o factor
  both e = by_rest false e

  pub alone_ops : (main : OpKind) → main ≡ main_kind fresh t plan o factor (t + 2) → (rest_count fresh t plan o factor == 0) ≡ true
      → next o.packs o.results main nil ≡ main_loops fresh t plan o factor
  alone_ops main m e = (λ i. next o.packs o.results (m i) nil) ∙ sym (alone e)

  pub alone_at : (at : ℕ) (main : OpKind) → main ≡ main_kind fresh t plan o factor (t + 2) → at ≡ t + 2 + inner_labels main → (rest_count fresh t plan o factor == 0) ≡ true
      → at ≡ t + labels_of (unrolled fresh t plan o factor) - length o.results
  alone_at at main m a e =
      let x = ap inner_labels m in
      let y = ap labels_of (alone e) in
      omega arith

  pub both_ops : (k at : ℕ) (main : OpKind) → k ≡ main_names fresh t plan o factor → main ≡ main_kind fresh t plan o factor (t + 2) → at ≡ t + 2 + inner_labels main
      → (rest_count fresh t plan o factor == 0) ≡ false
      → next (rename_packs (anew fresh) k o.packs) o.results main
      (next o.packs o.results (rest_kind fresh t plan o factor (k + length o.packs) (at + length o.results) (labels_from at (length o.results))) nil)
      ≡ main_loops fresh t plan o factor
  both_ops k at main given m a e =
      let results = in_body fresh t plan o factor (t + 2) + labels_of (main_body fresh t plan o factor (t + 2)) in
      let a2 : at ≡ results = let x = ap inner_labels m in omega arith in
      (λ i. next (rename_packs (anew fresh) (given i) o.packs) o.results (m i)
      (next o.packs o.results (rest_kind fresh t plan o factor (given i + length o.packs) (a2 i + length o.results) (labels_from (a2 i) (length o.results))) nil))
      ∙ sym (both e)

  pub both_at : (at : ℕ) (main : OpKind) (end : ℕ) → main ≡ main_kind fresh t plan o factor (t + 2) → at ≡ t + 2 + inner_labels main
      → (rest_count fresh t plan o factor == 0) ≡ false → end ≡ at + length o.results + (2 + length o.args + labels_of o.body)
      → end ≡ t + labels_of (unrolled fresh t plan o factor) - length o.results
  both_at at main end m a e b =
      let results = in_body fresh t plan o factor (t + 2) + labels_of (main_body fresh t plan o factor (t + 2)) in
      let k = main_names fresh t plan o factor + length o.packs in
      let at2 = results + length o.results in
      let x = ap inner_labels m in
      let y = ap labels_of (both e) in
      let z = args_length (anew fresh) (k + 1) o.args in
      let w = copied_labels (renamed (copy_spans fresh t o (label (at2 + 1)) (inner_args fresh t plan o factor at2) (in_body fresh t plan o factor at2))) (anew fresh) (k + 1 + length o.args) o.body in
      omega arith
