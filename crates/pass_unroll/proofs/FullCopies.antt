-- The copies of a loop that is unrolled in full, one behind another.
use Rattle.std.proofs.Common.{◌≡◌, ℕ, suc, ◌+◌, List, ◌∙◌, sym, subst, arith}
use Rattle.arith_word.specs.declared.label.Label.{Label}
use Rattle.mlir_ir.specs.Operations.{OpList, nil, labels_of, joined}
use Rattle.pass_copy.specs.Renamed.{anew, names_of}
use Rattle.pass_copy.specs.Renaming.{renamed}
use Rattle.pass_copy.specs.Built.{IsBehind, fresh_at, label, constant}
use Rattle.pass_unroll.specs.Copies.{ForLoop, copy_spans, copy_ends, copy, full_copies, full_ends}
use Rattle.pass_copy.specs.declared.building.Out.{Out}
use Rattle.pass_copy.proofs.BuiltBehind.{behind_then}
use Rattle.pass_unroll.proofs.RenamedCounts.{copied_labels, copied_names}

pub one_full : (fresh : ℕ → List ℕ) (t : ℕ) (o : ForLoop) (step n m v v2 : ℕ) (out out1 out2 new : Out) (variable : Label) (args ends : List Label)
    → n ≡ suc m → v2 ≡ v + step → fresh_at out ≡ fresh
    → IsBehind out (constant (fresh_at out out.fresh.given) o.iv.ty v nil) out1 → variable.0 ≡ out.at
    → IsBehind out1 (copy (fresh_at out1) t o out1.fresh.given variable args out1.at) out2 → ends ≡ copy_ends fresh t o variable args out1.at
    → IsBehind out2 (full_copies fresh t o step m out2.fresh.given out2.at v2 ends) new
    → IsBehind out (full_copies fresh t o step n out.fresh.given out.at v args) new
one_full fresh t o step n m v v2 out out1 out2 new variable args ends count w f c s p e rest =
    let k = out.fresh.given in
    let at = out.at in
    let f1 : fresh_at out1 ≡ fresh = c.names.same ∙ f in
    let k1 : out1.fresh.given ≡ k + 1 = c.names.count in
    let a1 : out1.at ≡ at + 1 = c.at in
    let g = renamed (copy_spans (fresh_at out1) t o variable args out1.at) in
    let k2 : out2.fresh.given ≡ k + 1 + names_of o.body =
    let x = p.names.count in
    let y = copied_names g (anew (fresh_at out1)) out1.fresh.given o.body in
    omega arith in
    let a2 : out2.at ≡ at + 1 + labels_of o.body =
    let x = p.at in
    let y = copied_labels g (anew (fresh_at out1)) out1.fresh.given o.body in
    omega arith in
    let whole = behind_then out out1 new _ _ c (behind_then out1 out2 new _ _ p rest) in
    let ends2 : ends ≡ copy_ends fresh t o (label at) args (at + 1) =
    e ∙ (λ i. copy_ends fresh t o (record { 0 = s i }) args (a1 i)) in
    let same : constant (fresh_at out k) o.iv.ty v (joined (copy (fresh_at out1) t o out1.fresh.given variable args out1.at) (full_copies fresh t o step m out2.fresh.given out2.at v2 ends))
    ≡ full_copies fresh t o step (suc m) k at v args =
    λ i. constant (f i k) o.iv.ty v (joined (copy (f1 i) t o (k1 i) (record { 0 = s i }) args (a1 i)) (full_copies fresh t o step m (k2 i) (a2 i) (w i) (ends2 i))) in
    subst (λ (q : ℕ). IsBehind out (full_copies fresh t o step q k at v args) new) (sym count) (subst (λ (ops : OpList). IsBehind out ops new) same whole)

pub full_left : (t : ℕ) (o : ForLoop) (n m : ℕ) (at at1 at2 : ℕ) (fresh : ℕ → List ℕ) (variable : Label) (args ends : List Label) (all : List Label)
    → n ≡ suc m → at1 ≡ at + 1 → variable.0 ≡ at → at2 ≡ at1 + labels_of o.body → ends ≡ copy_ends fresh t o variable args at1
    → full_ends fresh t o n at args ≡ all → full_ends fresh t o m at2 ends ≡ all
full_left t o n m at at1 at2 fresh variable args ends all count a1 s a2 e inv =
    let ends2 : ends ≡ copy_ends fresh t o (label at) args (at + 1) = e ∙ (λ i. copy_ends fresh t o (record { 0 = s i }) args (a1 i)) in
    let a : at2 ≡ at + 1 + labels_of o.body = omega arith in
    (λ i. full_ends fresh t o m (a i) (ends2 i)) ∙ (rw count at inv)
