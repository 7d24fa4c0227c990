-- Copies in a loop, each behind the value that its variable has there.
use Rattle.std.proofs.Common.{◌≡◌, ℕ, zero, suc, ◌+◌, ◌*◌, ◌%◌, ◌^◌, ◌<◌, ◌≤◌, true, List, ◌∷◌, length, refl, ap, ◌∙◌, sym, subst, arith}
use Rattle.arith_word.specs.declared.label.Label.{Label}
use Rattle.mlir_ir.specs.Operations.{nil, labels_of}
use Rattle.mlir_ir.specs.Runs.{Number, number, look}
use Rattle.mlir_ir.specs.Typed.{Types, TypedOp, TypedRegions}
use Rattle.mlir_ir.specs.Words.{bits_of}
use Rattle.pass_copy.specs.Reported.{Claim}
use Rattle.pass_copy.specs.Renamed.{names_of}
use Rattle.pass_copy.proofs.Bindings.{Scope, bound, AllBelow, Below, all_below_more, look_same, look_other}
use Rattle.pass_copy.proofs.RenamedAlike.{Covers}
use Rattle.pass_copy.proofs.RunEnds.{goes_on, stepped}
use Rattle.pass_unroll.specs.Copies.{ForLoop, operation_of, copy, copy_ends, more_copies, more_ends}
use Rattle.pass_copy.specs.Built.{label, constant, sum}
use Rattle.pass_unroll.proofs.CopiedTurns.{Copies, stop, more, Readies}
use Rattle.pass_unroll.proofs.CopyLabels.{labels_copy, copy_ends_length}
use Rattle.pass_unroll.proofs.CopyStages.{copy_alike, copy_yields, copy_yields_below}
use Rattle.pass_unroll.proofs.HeaderNumbers.{number_rest, number_sum}
use Rattle.pass_unroll.proofs.LoopLengths.{ends_length}

module _ (H : Claim) (fresh : ℕ → List ℕ) (t : ℕ) (o : ForLoop) (T : Types)
    (typed : TypedOp T o.packs o.results (operation_of o).kind) (inside : TypedRegions T t o.results (operation_of o).kind)
    (f : ℕ → ℕ) (ctx : Scope) (covers : Covers f T ctx) (below : Below t t ctx) (same : (y : ℕ) → y < t → f y ≡ y) where
  abbrev at_body : ℕ
  at_body = t + 2 + length o.args

  abbrev width : ℕ
  width = bits_of o.iv.ty

  -- a loop's variable has the number v, and the constant c is added to it
  sum_readies : (variable : Label) (v k p c : ℕ) → variable.0 < p
      → Readies (λ e. look e variable.0 ≡ number width v) p (constant (fresh k) o.iv.ty c (sum (fresh (k + 1)) o.iv.ty variable (label p) nil)) (p + 1) (number width (v + c))
  sum_readies variable v k p c low n' env' s' i =
      let x = number width (c % 2 ^ width) in
      let env1 = bound p x ∷ env' in
      let z = number width (((look env1 variable.0).v + (look env1 p).v) % 2 ^ width) in
      let a : look env1 variable.0 ≡ number width v = look_other p x variable.0 env' (λ e. omega arith) ∙ i in
      let b : look env1 p ≡ number width c = look_same p x p env' refl ∙ number_rest width c in
      let ez : z ≡ number width (v + c) = rw (a, b) (number_rest width (v % 2 ^ width + c % 2 ^ width) ∙ number_sum width v c) in
      (bound (p + 1) z ∷ env1, refl, look_same (p + 1) z (p + 1) env1 refl ∙ ez, λ y l. look_other (p + 1) z y env1 (λ e. omega arith) ∙ look_other p x y env' (λ e. omega arith))

  pub more_copied : (variable : Label) (v step : ℕ) (up : Number) (n j k p : ℕ) (ys : List Label) → length ys ≡ length o.args → t ≤ p → variable.0 < p → AllBelow p ys
      → ((i : ℕ) → i < n → goes_on up (number width (v + (j + i) * step)) ≡ true)
      → Copies H (λ e. look e variable.0 ≡ number width v) ctx up (number width step) (t + 1) at_body o.body o.ends n p (number width (v + j * step)) ys
      (more_copies fresh t o step variable n j k p ys) (number width (v + (j + n) * step)) (more_ends fresh t o n p ys)
  more_copied variable v step up zero j k p ys len le low all goes =
      let e : v + j * step ≡ v + (j + 0) * step = omega arith in
      subst (λ z. Copies H (λ e. look e variable.0 ≡ number width v) ctx up (number width step) (t + 1) at_body o.body o.ends 0 p (number width (v + j * step)) ys nil (number width z) ys) e (stop all)
  more_copied variable v step up (suc n) j k p ys len le low all goes =
      let c = label (p + 1) in
      let ys2 = copy_ends fresh t o c ys (p + 2) in
      let a : AllBelow (p + 2) (c ∷ ys) = (omega arith, all_below_more p (p + 2) ys (omega arith) all) in
      let le1 : t ≤ p + 2 = omega arith in
      let p2 = p + 2 + labels_of o.body in
      let others = more_copies fresh t o step variable n (j + 1) (k + 2 + names_of o.body) p2 ys2 in
      let ends3 = more_ends fresh t o n p2 ys2 in
      let e0 : v + (j + 0) * step ≡ v + j * step = omega arith in
      let e1 : v + j * step + step ≡ v + (j + 1) * step = omega arith in
      let last : v + (j + 1 + n) * step ≡ v + (j + suc n) * step = omega arith in
      let go : (i : ℕ) → i < n → goes_on up (number width (v + (j + 1 + i) * step)) ≡ true =
      λ i h. let e : v + (j + suc i) * step ≡ v + (j + 1 + i) * step = omega arith in subst (λ z. goes_on up (number width z) ≡ true) e (goes (suc i) (omega arith)) in
      let rest = more_copied variable v step up n (j + 1) (k + 2 + names_of o.body) p2 ys2 (copy_ends_length fresh t o c ys (p + 2) ∙ ends_length T t o typed inside) (omega arith) (omega arith)
      (copy_yields_below H fresh t o T typed inside f ctx covers below same c ys (p + 2) len le1 a) go in
      let Q : ℕ → Number → ℕ → Type 0 =
      λ w x z. Copies H (λ e. look e variable.0 ≡ number width v) ctx up (number width step) (t + 1) at_body o.body o.ends n (p + 2 + w) x ys2 others (number width z) ends3 in
      let stage = copy_alike H fresh t o T typed inside f ctx covers below same c ys (p + 2) len le1 a (k + 2) 0 in
      more c (constant (fresh k) o.iv.ty (j * step) (sum (fresh (k + 1)) o.iv.ty variable (label p) nil)) (copy fresh t o (k + 2) c ys (p + 2)) stage.behind
      (sum_readies variable v k p (j * step) low) (omega arith) all stage.alike (copy_yields H fresh t o T typed inside f ctx covers below same c ys (p + 2) len le1 a (k + 2) 0)
      (subst (λ z. goes_on up (number width z) ≡ true) e0 (goes 0 (omega arith)))
      (subst (λ w. Q w (stepped (number width step) (number width (v + j * step))) (v + (j + suc n) * step)) (sym (labels_copy fresh t o (k + 2) c ys (p + 2)))
      (subst (λ x. Q (labels_of o.body) x (v + (j + suc n) * step)) (sym (number_sum width (v + j * step) step ∙ ap (number width) e1))
      (subst (λ z. Q (labels_of o.body) (number width (v + (j + 1) * step)) z) last rest)))
