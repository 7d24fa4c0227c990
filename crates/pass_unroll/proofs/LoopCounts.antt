-- How many labels stand for a loop.
use Rattle.std.proofs.Common.{◌≡◌, ℕ, zero, suc, ◌+◌, ◌*◌, ◌-◌, ◌==◌, true, false, List, length, ap, arith}
use Rattle.arith_word.specs.declared.label.Label.{Label}
use Rattle.mlir_ir.specs.Operations.{labels_of, joined}
use Rattle.pass_copy.specs.Built.{label}
use Rattle.pass_copy.specs.Renamed.{keep, anew, relabels, rename_ops, names_of}
use Rattle.pass_copy.specs.Renaming.{renamed}
use Rattle.pass_copy.specs.Replaced.{op_labels}
use Rattle.pass_copy.proofs.JoinedOps.{joined_labels}
use Rattle.pass_unroll.specs.Children.{main_first, main_body, main_names, inner_args, in_body, rest_count, unrolled}
use Rattle.pass_unroll.specs.Copies.{ForLoop, operation_of, copy, copy_spans, copy_ends, more_copies}
use Rattle.pass_unroll.specs.declared.plan.Plan.{Plan}
use Rattle.pass_unroll.proofs.MainLoop.{suc_times}
use Rattle.pass_unroll.proofs.RenamedCounts.{args_length, copied_labels}
use Rattle.pass_unroll.proofs.UnrolledLoops.{alone, both}

more_labels : (fresh : ℕ → List ℕ) (t : ℕ) (o : ForLoop) (step : ℕ) (variable : Label) (n j k at : ℕ) (args : List Label)
    → labels_of (more_copies fresh t o step variable n j k at args) ≡ n * (2 + labels_of o.body)
more_labels fresh t o step variable zero j k at args = omega arith
more_labels fresh t o step variable (suc n) j k at args =
    let first = copy fresh t o (k + 2) (label (at + 1)) args (at + 2) in
    let rest = more_copies fresh t o step variable n (j + 1) (k + 2 + names_of o.body) (at + 2 + labels_of o.body) (copy_ends fresh t o (label (at + 1)) args (at + 2)) in
    let x : labels_of rest ≡ n * (2 + labels_of o.body) =
    more_labels fresh t o step variable n (j + 1) (k + 2 + names_of o.body) (at + 2 + labels_of o.body) (copy_ends fresh t o (label (at + 1)) args (at + 2)) in
    let y : labels_of (joined first rest) ≡ labels_of first + labels_of rest = joined_labels first rest in
    let z : labels_of first ≡ labels_of o.body = copied_labels (renamed (copy_spans fresh t o (label (at + 1)) args (at + 2))) (anew fresh) (k + 2) o.body in
    let s = suc_times n (2 + labels_of o.body) in
    omega arith

module _ (fresh : ℕ → List ℕ) (t : ℕ) (plan : Plan) (o : ForLoop) (factor : ℕ) where
  -- the loop's labels, and those of the copies in it
  abbrev whole : ℕ
  whole = op_labels (operation_of o)

  abbrev copies : ℕ
  copies = (factor - 1) * (2 + labels_of o.body)

  main_labels : labels_of (main_body fresh t plan o factor (t + 2)) ≡ labels_of o.body + copies
  main_labels =
      let f = renamed (main_first fresh t plan o factor (t + 2)) in
      let head = rename_ops f keep 0 o.body in
      let at = in_body fresh t plan o factor (t + 2) + labels_of o.body in
      let more = more_copies fresh t o plan.step (label (t + 2 + 1)) (factor - 1) 1 2 at (relabels f o.ends) in
      let x : labels_of (joined head more) ≡ labels_of head + labels_of more = joined_labels head more in
      let y : labels_of head ≡ labels_of o.body = copied_labels f keep 0 o.body in
      let z = more_labels fresh t o plan.step (label (t + 2 + 1)) (factor - 1) 1 2 at (relabels f o.ends) in
      omega arith

  pub alone_labels : (rest_count fresh t plan o factor == 0) ≡ true → labels_of (unrolled fresh t plan o factor) ≡ 2 + whole + copies
  alone_labels e = let x = ap labels_of (alone fresh t plan o factor e) in let y = main_labels in omega arith

  pub both_labels : (rest_count fresh t plan o factor == 0) ≡ false → labels_of (unrolled fresh t plan o factor) ≡ 2 + whole + copies + whole
  both_labels e =
      let results = in_body fresh t plan o factor (t + 2) + labels_of (main_body fresh t plan o factor (t + 2)) in
      let k = main_names fresh t plan o factor + length o.packs in
      let at = results + length o.results in
      let x = ap labels_of (both fresh t plan o factor e) in
      let y = main_labels in
      let z = args_length (anew fresh) (k + 1) o.args in
      let w = copied_labels (renamed (copy_spans fresh t o (label (at + 1)) (inner_args fresh t plan o factor at) (in_body fresh t plan o factor at))) (anew fresh) (k + 1 + length o.args) o.body in
      omega arith
