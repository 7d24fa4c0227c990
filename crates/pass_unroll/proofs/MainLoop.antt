-- The main loop of an unrolled one, as far as it is built.
use Rattle.std.proofs.Common.{◌≡◌, ℕ, zero, suc, ◌+◌, ◌*◌, ◌-◌, List, [], length, ◌∙◌, arith}
use Rattle.arith_word.specs.declared.label.Label.{Label}
use Rattle.mlir_ir.specs.Operations.{OpList, labels_of, inner_labels, joined}
use Rattle.mlir_ir.specs.View.{view_ops}
use Rattle.mlir_ir.specs.declared.types.Op.{Op}
use Rattle.pass_copy.specs.Renamed.{keep, anew, relabels, rename_ops, names_of}
use Rattle.pass_copy.specs.Renaming.{renamed}
use Rattle.pass_copy.proofs.JoinedOps.{joined_labels, joined_names}
use Rattle.pass_unroll.specs.Children.{in_body, main_first, main_body, main_ends, main_kind}
use Rattle.pass_unroll.specs.Copies.{ForLoop, copy_spans, copy_ends, copy, more_copies, more_ends}
use Rattle.pass_copy.specs.Built.{label, labels_from}
use Rattle.pass_unroll.specs.declared.plan.Plan.{Plan}
use Rattle.pass_unroll.proofs.RenamedCounts.{copied_labels, copied_names}

pub suc_times : (n x : ℕ) → x + n * x ≡ suc n * x
suc_times n x = omega arith

pub more_names : (fresh : ℕ → List ℕ) (t : ℕ) (o : ForLoop) (step : ℕ) (variable : Label) (n j k at : ℕ) (args : List Label)
    → names_of (more_copies fresh t o step variable n j k at args) ≡ n * (2 + names_of o.body)
more_names fresh t o step variable zero j k at args = omega arith
more_names fresh t o step variable (suc n) j k at args =
    let first = copy fresh t o (k + 2) (label (at + 1)) args (at + 2) in
    let rest = more_copies fresh t o step variable n (j + 1) (k + 2 + names_of o.body) (at + 2 + labels_of o.body) (copy_ends fresh t o (label (at + 1)) args (at + 2)) in
    let x : names_of rest ≡ n * (2 + names_of o.body) =
    more_names fresh t o step variable n (j + 1) (k + 2 + names_of o.body) (at + 2 + labels_of o.body) (copy_ends fresh t o (label (at + 1)) args (at + 2)) in
    let y : names_of (joined first rest) ≡ names_of first + names_of rest = joined_names first rest in
    let z : names_of first ≡ names_of o.body = copied_names (renamed (copy_spans fresh t o (label (at + 1)) args (at + 2))) (anew fresh) (k + 2) o.body in
    let s : 2 + names_of o.body + n * (2 + names_of o.body) ≡ suc n * (2 + names_of o.body) = suc_times n (2 + names_of o.body) in
    omega arith

module _ (fresh : ℕ → List ℕ) (t : ℕ) (plan : Plan) (o : ForLoop) (factor at : ℕ) (variable : Label) (args : List Label) (at2 at3 k3 : ℕ) (fresh1 : ℕ → List ℕ) (first : List Label)
    (v : variable.0 ≡ at + 1) (a : args ≡ labels_from (at + 2) (length o.args)) (e2 : at2 ≡ at + 2 + length o.args) (e3 : at3 ≡ at2 + labels_of o.body)
    (f : first ≡ relabels (renamed (copy_spans fresh t o variable args at2)) o.ends) where
  spans : copy_spans fresh t o variable args at2 ≡ main_first fresh t plan o factor at
  spans = λ i. copy_spans fresh t o (record { 0 = v i }) (a i) (e2 i)

  behind : at3 ≡ in_body fresh t plan o factor at + labels_of o.body
  behind = omega arith

  gives : first ≡ relabels (renamed (main_first fresh t plan o factor at)) o.ends
  gives = f ∙ (λ i. relabels (renamed (spans i)) o.ends)

  pub body_made : (empty : List Op) (made1 made2 : OpList) → empty ≡ [] → fresh1 ≡ fresh → k3 ≡ 2
      → made1 ≡ joined (view_ops empty) (rename_ops (renamed (copy_spans fresh t o variable args at2)) keep 0 o.body)
      → made2 ≡ joined made1 (more_copies fresh1 t o plan.step variable (factor - 1) 1 k3 at3 first)
      → made2 ≡ main_body fresh t plan o factor at
  body_made empty made1 made2 none same given one two =
      two
      ∙ (λ i. joined (one i) (more_copies (same i) t o plan.step (record { 0 = v i }) (factor - 1) 1 (given i) (behind i) (gives i)))
      ∙ (λ i. joined (joined (view_ops (none i)) (rename_ops (renamed (spans i)) keep 0 o.body))
      (more_copies fresh t o plan.step (label (at + 1)) (factor - 1) 1 2 (in_body fresh t plan o factor at + labels_of o.body) (relabels (renamed (main_first fresh t plan o factor at)) o.ends)))

  pub ends_made : (ends : List Label) → ends ≡ more_ends fresh t o (factor - 1) at3 first → ends ≡ main_ends fresh t plan o factor at
  ends_made ends e = e ∙ (λ i. more_ends fresh t o (factor - 1) (behind i) (gives i))

  pub at_made : (at4 : ℕ) → at4 ≡ at3 + labels_of (more_copies fresh1 t o plan.step variable (factor - 1) 1 k3 at3 first) → fresh1 ≡ fresh → k3 ≡ 2
      → at4 ≡ at + inner_labels (main_kind fresh t plan o factor at)
  at_made at4 e same given =
      let more = more_copies fresh t o plan.step (label (at + 1)) (factor - 1) 1 2 (in_body fresh t plan o factor at + labels_of o.body) (relabels (renamed (main_first fresh t plan o factor at)) o.ends) in
      let head = rename_ops (renamed (main_first fresh t plan o factor at)) keep 0 o.body in
      let e4 : at4 ≡ at3 + labels_of more =
      e ∙ (λ i. at3 + labels_of (more_copies (same i) t o plan.step (record { 0 = v i }) (factor - 1) 1 (given i) (behind i) (gives i))) in
      let x : labels_of (joined head more) ≡ labels_of head + labels_of more = joined_labels head more in
      let y : labels_of head ≡ labels_of o.body = copied_labels (renamed (main_first fresh t plan o factor at)) keep 0 o.body in
      omega arith
