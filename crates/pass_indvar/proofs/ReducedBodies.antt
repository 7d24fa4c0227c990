-- The body of a loop with one argument more, as it is made.
use Rattle.std.proofs.Common.{◌≡◌, ℕ, ◌+◌, ◌++◌, ◌∷◌, [], List, ap, ◌∙◌, arith}
use Rattle.arith_word.specs.declared.label.Label.{Label}
use Rattle.mlir_ir.specs.Operations.{OpKind, OpList, nil, next, labels_of, joined}
use Rattle.mlir_ir.specs.View.{view_ops}
use Rattle.mlir_ir.specs.declared.types.IrType.{IrType}
use Rattle.pass_copy.specs.Built.{IsBehind, fresh_at, label, sum}
use Rattle.pass_copy.specs.Renamed.{keep, names_of, rename_ops}
use Rattle.pass_copy.specs.Renaming.{renamed}
use Rattle.pass_copy.specs.declared.building.Out.{Out}
use Rattle.pass_copy.proofs.JoinedOps.{joined_assoc}
use Rattle.pass_expand.specs.Expanded.{expansion, expansion_end}
use Rattle.pass_copy.specs.declared.renaming.Span.{Span}
use Rattle.pass_indvar.specs.Grown.{AreNamed, moves, pack, arg_at, body_from, sum_body, sum_kind}
use Rattle.pass_indvar.specs.Reductions.{Progression, loop_at, loop_names, reduced, reduced_kind, reduced_loop, start_ops, step_at, step_ops, without}
use Rattle.pass_unroll.specs.Copies.{ForLoop}

pub body_made : (t : ℕ) (o : ForLoop) (product at : ℕ) (name : List ℕ) (ty : IrType) (step : Label) (spans : List Span) (src left made : OpList) (begin arg : ℕ)
    → spans ≡ moves t o product at → src ≡ o.body → begin ≡ body_from t o product at → arg ≡ arg_at t o product at
    → left ≡ rename_ops (renamed spans) keep 0 (without product begin src) → made ≡ joined left (sum name ty (label arg) step nil)
    → made ≡ sum_body t o product at name ty step
body_made t o product at name ty step spans src left made begin arg s b f a l m =
    m ∙ (λ j. joined (l j) (sum name ty (label (a j)) step nil))
    ∙ (λ j. joined (rename_ops (renamed (s j)) keep 0 (without product (f j) (b j))) (sum name ty (label (arg_at t o product at)) step nil))

-- ---- all that stands for the loop

module _ (t : ℕ) (o : ForLoop) (g : Progression) (out0 out1 out2 out3 out4 : Out) (at : out0.at ≡ t) (given : out0.fresh.given ≡ 0)
    (b1 : IsBehind out0 (expansion (fresh_at out0) g.ty out0.fresh.given out0.at g.start) out1)
    (b2 : IsBehind out1 (expansion (fresh_at out1) g.ty out1.fresh.given out1.at g.step) out2) (named : AreNamed out2 2 out3) where
  abbrev fresh : ℕ → List ℕ
  fresh = fresh_at out0

  e1 : expansion fresh g.ty out0.fresh.given out0.at g.start ≡ start_ops fresh t o g
  e1 = λ j. expansion fresh g.ty (given j) (at j) g.start

  a1 : out1.at ≡ step_at fresh t o g
  a1 = let b = b1.at in let l = ap labels_of e1 in omega (arith, b, l, at)

  n1 : out1.fresh.given ≡ names_of (start_ops fresh t o g)
  n1 = let b = b1.names.count in let l = ap names_of e1 in omega (arith, b, l, given)

  e2 : expansion (fresh_at out1) g.ty out1.fresh.given out1.at g.step ≡ step_ops fresh t o g
  e2 = λ j. expansion (b1.names.same j) g.ty (n1 j) (a1 j) g.step

  a2 : out2.at ≡ loop_at fresh t o g
  a2 = let b = b2.at in let l = ap labels_of e2 in let a = a1 in omega (arith, b, l, a)

  n2 : out2.fresh.given ≡ loop_names fresh t o g
  n2 = let b = b2.names.count in let l = ap names_of e2 in let n = n1 in omega (arith, b, l, n)

  f2 : fresh_at out2 ≡ fresh
  f2 = b2.names.same ∙ b1.names.same

  n3 : out3.fresh.given ≡ loop_names fresh t o g + 2
  n3 = named.names.count ∙ ap (λ n. n + 2) n2

  pub reduced_built : (start step : Label) (kind : OpKind) → start.0 ≡ expansion_end out0.at g.start → step.0 ≡ expansion_end out1.at g.step
      → kind ≡ sum_kind t o g.product out2.at (fresh_at out2 out2.fresh.given) (fresh_at out2 (out2.fresh.given + 1)) g.ty start step
      → view_ops out4.ops.items ≡ joined (view_ops out3.ops.items) (next (o.packs ++ pack (fresh_at out3 out3.fresh.given) ∷ []) (o.results ++ g.ty ∷ []) kind nil)
      → view_ops out4.ops.items ≡ joined (view_ops out0.ops.items) (reduced fresh t o g)
  reduced_built start step kind s1 s2 k pushed =
      let l1 : start ≡ label (expansion_end t g.start) = λ j. label ((s1 ∙ ap (λ n. expansion_end n g.start) at) j) in
      let l2 : step ≡ label (expansion_end (step_at fresh t o g) g.step) = λ j. label ((s2 ∙ ap (λ n. expansion_end n g.step) a1) j) in
      let kinds : kind ≡ reduced_kind fresh t o g = k ∙ (λ j. sum_kind t o g.product (a2 j) (f2 j (n2 j)) (f2 j (n2 j + 1)) g.ty (l1 j) (l2 j)) in
      let loops : next (o.packs ++ pack (fresh_at out3 out3.fresh.given) ∷ []) (o.results ++ g.ty ∷ []) kind nil ≡ reduced_loop fresh t o g =
      λ j. next (o.packs ++ pack ((named.names.same ∙ f2) j (n3 j)) ∷ []) (o.results ++ g.ty ∷ []) (kinds j) nil in
      let front : view_ops out3.ops.items ≡ joined (joined (view_ops out0.ops.items) (start_ops fresh t o g)) (step_ops fresh t o g) =
      (λ j. view_ops (named.ops j).items) ∙ b2.ops ∙ (λ j. joined ((b1.ops ∙ ap (joined (view_ops out0.ops.items)) e1) j) (e2 j)) in
      pushed ∙ (λ j. joined (front j) (loops j))
      ∙ joined_assoc (joined (view_ops out0.ops.items) (start_ops fresh t o g)) (step_ops fresh t o g) (reduced_loop fresh t o g)
      ∙ joined_assoc (view_ops out0.ops.items) (start_ops fresh t o g) (joined (step_ops fresh t o g) (reduced_loop fresh t o g))
