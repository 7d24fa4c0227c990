-- The rest loop behind a main one, as far as it is built.
use Rattle.std.proofs.Common.{◌≡◌, ℕ, ◌+◌, false, List, [], length, ap, ◌∙◌, arith}
use Rattle.arith_word.specs.declared.label.Label.{Label}
use Rattle.mlir_ir.specs.Operations.{For, OpList, joined}
use Rattle.mlir_ir.specs.View.{view_ops}
use Rattle.mlir_ir.specs.declared.types.Arg.{Arg}
use Rattle.mlir_ir.specs.declared.types.Op.{Op}
use Rattle.pass_copy.specs.Copied.{HaveGiven, fresh_by, naming}
use Rattle.pass_copy.specs.Renamed.{anew, rename_arg, rename_args}
use Rattle.pass_copy.specs.declared.names.Names.{Names}
use Rattle.pass_unroll.specs.Children.{rest_kind}
use Rattle.pass_unroll.specs.Copies.{ForLoop, copy, copy_ends}
use Rattle.pass_copy.specs.Built.{label, labels_from}
use Rattle.pass_unroll.specs.declared.plan.Plan.{Plan}
use Rattle.pass_unroll.proofs.CopiesBehind.{naming_anew}

pub rest_made : (t : ℕ) (plan : Plan) (o : ForLoop) (factor at at2 : ℕ) (n0 n1 n2 : Names) (iv : Arg) (args passed : List Arg) (inits ends : List Label) (body : OpList)
    (variable : Label) (values : List Label) (empty : List Op)
    → n0.kept ≡ false → HaveGiven n0 1 n1 → HaveGiven n1 (length passed) n2 → passed ≡ o.args
    → iv ≡ record { name = naming n0 n0.given o.iv.name; ty = o.iv.ty } → args ≡ rename_args (naming n1) n1.given passed
    → variable.0 ≡ at + 1 → values ≡ labels_from (at + 2) (length o.args) → at2 ≡ at + 2 + length o.args → empty ≡ []
    → body ≡ joined (view_ops empty) (copy (fresh_by n2) t o n2.given variable values at2)
    → ends ≡ copy_ends (fresh_by n0) t o variable values at2
    → For (label t) o.upper o.step iv args inits body ends ≡ rest_kind (fresh_by n0) t plan o factor n0.given at inits
rest_made t plan o factor at at2 n0 n1 n2 iv args passed inits ends body variable values empty kept g1 g2 p e a v w e2 none b z =
    let m0 : naming n0 ≡ anew (fresh_by n0) = naming_anew n0 kept in
    let m1 : naming n1 ≡ anew (fresh_by n0) = naming_anew n1 (g1.kept ∙ kept) ∙ ap anew g1.same in
    let f2 : fresh_by n2 ≡ fresh_by n0 = g2.same ∙ g1.same in
    let k2 : n2.given ≡ n0.given + 1 + length o.args = let x = g1.count in let y = g2.count in let l = ap (λ (xs : List Arg). length xs) p in omega arith in
    let iv2 : iv ≡ rename_arg (anew (fresh_by n0)) n0.given o.iv = e ∙ (λ i. record { name = m0 i n0.given o.iv.name; ty = o.iv.ty }) in
    let args2 : args ≡ rename_args (anew (fresh_by n0)) (n0.given + 1) o.args = a ∙ (λ i. rename_args (m1 i) (g1.count i) (p i)) in
    let body2 : body ≡ copy (fresh_by n0) t o (n0.given + 1 + length o.args) (label (at + 1)) (labels_from (at + 2) (length o.args)) (at + 2 + length o.args) =
    b ∙ (λ i. joined (view_ops (none i)) (copy (f2 i) t o (k2 i) (record { 0 = v i }) (w i) (e2 i))) in
    let ends2 : ends ≡ copy_ends (fresh_by n0) t o (label (at + 1)) (labels_from (at + 2) (length o.args)) (at + 2 + length o.args) =
    z ∙ (λ i. copy_ends (fresh_by n0) t o (record { 0 = v i }) (w i) (e2 i)) in
    λ i. For (label t) o.upper o.step (iv2 i) (args2 i) inits (body2 i) (ends2 i)
