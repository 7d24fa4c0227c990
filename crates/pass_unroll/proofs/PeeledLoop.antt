-- A peeled loop, as far as it is built.
use Rattle.std.proofs.Common.{◌≡◌, ℕ, ◌+◌, List, [], ◌∷◌, ap, ◌∙◌, arith}
use Rattle.arith_word.specs.declared.label.Label.{Label}
use Rattle.mlir_ir.specs.Operations.{For, OpKind, OpList, nil, next, labels_of, joined}
use Rattle.mlir_ir.specs.View.{view_ops}
use Rattle.mlir_ir.specs.declared.types.Pack.{Pack}
use Rattle.pass_copy.specs.Built.{IsBehind, fresh_at, constant, moved}
use Rattle.pass_copy.specs.Renamed.{keep, anew, relabels, rename_ops, names_of}
use Rattle.pass_copy.specs.Renaming.{renamed}
use Rattle.pass_copy.specs.declared.building.Out.{Out}
use Rattle.pass_copy.specs.declared.renaming.Span.{Span}
use Rattle.pass_copy.proofs.BuiltBehind.{behind_then}
use Rattle.pass_copy.proofs.JoinedOps.{joined_assoc}
use Rattle.pass_unroll.specs.Children.{peel_spans, peeled}
use Rattle.pass_unroll.specs.Copies.{ForLoop, copy_spans, copy, copy_ends}
use Rattle.pass_unroll.specs.declared.plan.Plan.{Plan}
use Rattle.pass_unroll.proofs.CopiesBehind.{copied_at}
use Rattle.pass_unroll.proofs.RenamedCounts.{copied_names}

-- a copy for the lower bound, and the constant from which the loop goes on
module _ (t : ℕ) (plan : Plan) (o : ForLoop) (out0 out1 out2 : Out) (v : ℕ) (lower : Label) (inits values : List Label)
    (at : out0.at ≡ t) (given : out0.fresh.given ≡ 0) (second : v ≡ plan.lower + plan.step) (first : inits ≡ o.inits)
    (one : IsBehind out0 (copy (fresh_at out0) t o out0.fresh.given o.lower inits out0.at) out1)
    (yields : values ≡ copy_ends (fresh_at out0) t o o.lower inits out0.at)
    (two : IsBehind out1 (constant (fresh_at out1 out1.fresh.given) o.iv.ty v nil) out2) (low : lower.0 ≡ out1.at) where
  abbrev fresh : ℕ → List ℕ
  fresh = fresh_at out0

  at1 : out1.at ≡ t + labels_of o.body
  at1 = let e = copied_at out0 out1 t o o.lower inits one in omega arith

  at2 : out2.at ≡ t + labels_of o.body + 1
  at2 = let e = at1 in let f = two.at in omega arith

  name1 : out1.fresh.given ≡ names_of o.body
  name1 =
      let e = one.names.count in
      let f = copied_names (renamed (copy_spans fresh t o o.lower inits out0.at)) (anew fresh) out0.fresh.given o.body in
      omega arith

  pub spans_made : (spans : List Span) → spans ≡ moved t out2.at ∷ [] → spans ≡ peel_spans fresh t plan o
  spans_made spans e = e ∙ (λ i. moved t (at2 i) ∷ [])

  pub loop_made : (spans : List Span) (packs : List Pack) (kind : OpKind) (made : OpList) → spans ≡ moved t out2.at ∷ [] → packs ≡ o.packs
      → kind ≡ For lower o.upper o.step o.iv o.args values (rename_ops (renamed spans) keep 0 o.body) (relabels (renamed spans) o.ends)
      → made ≡ joined (view_ops out2.ops.items) (next packs o.results kind nil)
      → made ≡ joined (view_ops out0.ops.items) (peeled fresh t plan o)
  loop_made spans packs kind made moves named is ops =
      let copied = copy fresh t o out0.fresh.given o.lower inits out0.at in
      let value = constant (fresh_at out1 out1.fresh.given) o.iv.ty v nil in
      let loop = next packs o.results kind nil in
      let both = behind_then out0 out1 out2 copied value one two in
      let s = spans_made spans moves in
      let ends : values ≡ copy_ends fresh t o o.lower o.inits t = yields ∙ (λ i. copy_ends fresh t o o.lower (first i) (at i)) in
      let from : lower.0 ≡ t + labels_of o.body = low ∙ at1 in
      ops
      ∙ (λ i. joined (both.ops i) loop)
      ∙ joined_assoc (view_ops out0.ops.items) (joined copied value) loop
      ∙ ap (joined (view_ops out0.ops.items)) (joined_assoc copied value loop
      ∙ (λ i. joined (copy fresh t o (given i) o.lower (first i) (at i)) (constant (one.names.same i (name1 i)) o.iv.ty (second i) (next (named i) o.results (is i) nil)))
      ∙ (λ i. joined (copy fresh t o 0 o.lower o.inits t) (constant (fresh (names_of o.body)) o.iv.ty (plan.lower + plan.step)
      (next o.packs o.results
      (For (record { 0 = from i }) o.upper o.step o.iv o.args (ends i) (rename_ops (renamed (s i)) keep 0 o.body) (relabels (renamed (s i)) o.ends)) nil))))
