-- What is kept while operations, or the iterations of a loop, are run one after another.
use Rattle.std.proofs.Common.{◌≡◌, ℕ, ◌+◌, ◌-◌, ◌≤◌, ◌%◌, ◌^◌, [], drop}
use Rattle.mlir_ir.specs.declared.types.ForParts.{out-ForParts}
use Rattle.mlir_ir.specs.declared.types.WhileParts.{out-WhileParts}
use Rattle.mlir_ir.specs.Operations.{labels_of}
use Rattle.mlir_ir.specs.Runs.{number}
use Rattle.mlir_ir.specs.View.{view_ops, view_for, view_while, rows_of, ends_of}
use Rattle.scf_eval.specs.Machine.{Move, Counting, Repeating, handed, steps, step_kind, turns, rounds}
use Rattle.scf_eval.specs.States.{slots, held, state_of}
use Rattle.scf_eval.proofs.Loops.{OnLoop}
use Rattle.scf_eval.proofs.walk.+walk.Given as goal

pub record OnOps (spent0 spent at rest whole : ℕ) (now all : Move) : Type 0 where
  pub spends : spent0 ≤ spent
  pub room : at + rest ≡ whole
  pub same : now ≡ all

abbrev pub invariant-run_ops-loop-op : goal.invariant-run_ops-loop-op
invariant-run_ops-loop-op l =
    OnOps l.fn.m.spent l.m.spent l.at (labels_of (view_ops (drop l.op-index l.ops))) (l.pos + labels_of (view_ops l.ops))
    (steps (slots l.input) (view_ops (drop l.op-index l.ops)) l.input.budget l.at (held l.m) (state_of l.input l.m))
    (steps (slots l.input) (view_ops l.ops) l.input.budget l.pos (held l.fn.m) (state_of l.input l.fn.m))

abbrev pub invariant-run_for-turns : goal.invariant-run_for-turns
invariant-run_for-turns l =
    let q = out-ForParts l.parts in
    let slot = slots l.input in
    let loop : Counting = record { pos = l.pos; res = l.res; args = l.args; upper = l.upper % 2 ^ l.w; step = l.step } in
    OnLoop l.input.budget l.fn.m.spent l.m.spent
    (λ fuel. turns fuel (λ inner s1. handed slot l.res (ends_of q.body) (steps slot (rows_of q.body) l.input.budget l.in_body inner s1)) loop (number l.w l.v) (held l.m) (state_of l.input l.m))
    (step_kind slot (view_for l.parts) [] l.input.budget l.pos (held l.fn.m) (state_of l.input l.fn.m))

abbrev pub decreases-run_for-turns : goal.decreases-run_for-turns
decreases-run_for-turns l = l.input.budget - l.m.spent

abbrev pub invariant-run_while-rounds : goal.invariant-run_while-rounds
invariant-run_while-rounds l =
    let q = out-WhileParts l.parts in
    let slot = slots l.input in
    let loop : Repeating = record { slot = slot; res = l.res; params = l.params; cond = q.cond; passed = ends_of q.before } in
    OnLoop l.input.budget l.fn.m.spent l.m.spent
    (λ fuel. rounds fuel (steps slot (rows_of q.before) l.input.budget l.in_before) (λ inner s1. handed slot (l.pos + 1) (ends_of q.after) (steps slot (rows_of q.after) l.input.budget l.in_after inner s1)) loop (held l.m) (state_of l.input l.m))
    (step_kind slot (view_while l.parts) [] l.input.budget l.pos (held l.fn.m) (state_of l.input l.fn.m))

abbrev pub decreases-run_while-rounds : goal.decreases-run_while-rounds
decreases-run_while-rounds l = l.input.budget - l.m.spent
