-- Copies of the body of a loop that are built one behind another.
use Rattle.std.proofs.Common.{◌≡◌, ℕ, suc, ◌+◌, ◌*◌, Bool, true, false, List, ◌++◌, ap, ◌∙◌, sym, subst, arith, if◌then◌else◌}
use Rattle.arith_word.specs.declared.label.Label.{Label}
use Rattle.mlir_ir.specs.Operations.{OpList, nil, labels_of, joined}
use Rattle.mlir_ir.specs.View.{view_ops}
use Rattle.mlir_ir.specs.declared.types.IrType.{IrType}
use Rattle.mlir_ir.specs.declared.types.Op.{Op}
use Rattle.pass_copy.specs.Copied.{HaveGiven, fresh_by, naming}
use Rattle.pass_copy.specs.Renamed.{keep, anew, rename_ops, names_of}
use Rattle.pass_copy.specs.Renaming.{renamed}
use Rattle.pass_copy.specs.declared.names.Names.{Names}
use Rattle.pass_copy.specs.declared.renaming.Span.{Span}
use Rattle.pass_copy.proofs.JoinedOps.{view_append}
use Rattle.pass_copy.specs.Built.{IsBehind, fresh_at, label, constant, sum}
use Rattle.pass_unroll.specs.Copies.{ForLoop, copy_spans, copy_ends, copy, more_copies, more_ends}
use Rattle.pass_copy.specs.declared.building.Out.{Out}
use Rattle.pass_copy.proofs.BuiltBehind.{behind_then}
use Rattle.pass_unroll.proofs.RenamedCounts.{copied_labels, copied_names}

pub naming_anew : (names : Names) → names.kept ≡ false → naming names ≡ anew (fresh_by names)
naming_anew names kept = ap (λ (k : Bool). if k then keep else anew (fresh_by names)) kept

pub copy_behind : (old new : Out) (spans : List Span) (t : ℕ) (o : ForLoop) (variable : Label) (args : List Label) (ops : List Op) (body : OpList)
    → old.fresh.kept ≡ false → spans ≡ copy_spans (fresh_at old) t o variable args old.at → body ≡ o.body
    → view_ops ops ≡ rename_ops (renamed spans) (naming old.fresh) old.fresh.given body
    → new.ops.items ≡ old.ops.items ++ ops → new.at ≡ old.at + labels_of o.body → HaveGiven old.fresh (names_of body) new.fresh
    → IsBehind old (copy (fresh_at old) t o old.fresh.given variable args old.at) new
copy_behind old new spans t o variable args ops body kept e b made pushed at given =
    let f = renamed (copy_spans (fresh_at old) t o variable args old.at) in
    let same : view_ops ops ≡ rename_ops f (anew (fresh_at old)) old.fresh.given o.body =
    made ∙ (λ j. rename_ops (renamed (e j)) (naming_anew old.fresh kept j) old.fresh.given (b j)) in
    record {
      ops = ap view_ops pushed ∙ view_append old.ops.items ops ∙ ap (joined (view_ops old.ops.items)) same;
      at = at ∙ ap (λ (n : ℕ). old.at + n) (sym (copied_labels f (anew (fresh_at old)) old.fresh.given o.body));
      names = subst (λ (n : ℕ). HaveGiven old.fresh n new.fresh) (ap names_of b ∙ sym (copied_names f (anew (fresh_at old)) old.fresh.given o.body)) given;
    }

-- a constant, the variable's value and a copy, and the copies behind these
pub one_more : (fresh : ℕ → List ℕ) (t : ℕ) (o : ForLoop) (step : ℕ) (variable : Label) (n m j : ℕ) (out out1 out2 out3 new : Out) (steps value : Label) (args ends : List Label)
    → n ≡ suc m → fresh_at out ≡ fresh
    → IsBehind out (constant (fresh_at out out.fresh.given) o.iv.ty (j * step) nil) out1 → steps.0 ≡ out.at
    → IsBehind out1 (sum (fresh_at out1 out1.fresh.given) o.iv.ty variable steps nil) out2 → value.0 ≡ out1.at
    → IsBehind out2 (copy (fresh_at out2) t o out2.fresh.given value args out2.at) out3 → ends ≡ copy_ends fresh t o value args out2.at
    → IsBehind out3 (more_copies fresh t o step variable m (j + 1) out3.fresh.given out3.at ends) new
    → IsBehind out (more_copies fresh t o step variable n j out.fresh.given out.at args) new
one_more fresh t o step variable n m j out out1 out2 out3 new steps value args ends count f c s d v p e rest =
    let k = out.fresh.given in
    let at = out.at in
    let f1 : fresh_at out1 ≡ fresh = c.names.same ∙ f in
    let f2 : fresh_at out2 ≡ fresh = d.names.same ∙ f1 in
    let k1 : out1.fresh.given ≡ k + 1 = c.names.count in
    let a1 : out1.at ≡ at + 1 = c.at in
    let k2 : out2.fresh.given ≡ k + 2 = let x = d.names.count in omega arith in
    let a2 : out2.at ≡ at + 2 = let x = d.at in omega arith in
    let v1 : value.0 ≡ at + 1 = v ∙ a1 in
    let g = renamed (copy_spans (fresh_at out2) t o value args out2.at) in
    let k3 : out3.fresh.given ≡ k + 2 + names_of o.body =
    let x = p.names.count in
    let y = copied_names g (anew (fresh_at out2)) out2.fresh.given o.body in
    omega arith in
    let a3 : out3.at ≡ at + 2 + labels_of o.body =
    let x = p.at in
    let y = copied_labels g (anew (fresh_at out2)) out2.fresh.given o.body in
    omega arith in
    let whole = behind_then out out1 new _ _ c (behind_then out1 out2 new _ _ d (behind_then out2 out3 new _ _ p rest)) in
    let ends2 : ends ≡ copy_ends fresh t o (label (at + 1)) args (at + 2) =
    e ∙ (λ i. copy_ends fresh t o (record { 0 = v1 i }) args (a2 i)) in
    let same : constant (fresh_at out k) o.iv.ty (j * step) (sum (fresh_at out1 out1.fresh.given) o.iv.ty variable steps
    (joined (copy (fresh_at out2) t o out2.fresh.given value args out2.at) (more_copies fresh t o step variable m (j + 1) out3.fresh.given out3.at ends)))
    ≡ more_copies fresh t o step variable (suc m) j k at args =
    λ i. constant (f i k) o.iv.ty (j * step) (sum (f1 i (k1 i)) o.iv.ty variable (record { 0 = s i })
    (joined (copy (f2 i) t o (k2 i) (record { 0 = v1 i }) args (a2 i)) (more_copies fresh t o step variable m (j + 1) (k3 i) (a3 i) (ends2 i)))) in
    subst (λ (q : ℕ). IsBehind out (more_copies fresh t o step variable q j k at args) new) (sym count) (subst (λ (ops : OpList). IsBehind out ops new) same whole)

pub more_given : (t : ℕ) (o : ForLoop) (n m : ℕ) (out out1 out2 out3 : Out) (fresh : ℕ → List ℕ) (value : Label) (args ends : List Label) (all : List Label)
    → n ≡ suc m → out2.at ≡ out.at + 2 → value.0 ≡ out.at + 1 → out3.at ≡ out2.at + labels_of o.body → ends ≡ copy_ends fresh t o value args out2.at
    → more_ends fresh t o n out.at args ≡ all → more_ends fresh t o m out3.at ends ≡ all
more_given t o n m out out1 out2 out3 fresh value args ends all count a2 v a3 e inv =
    let ends2 : ends ≡ copy_ends fresh t o (label (out.at + 1)) args (out.at + 2) =
    e ∙ (λ i. copy_ends fresh t o (record { 0 = v i }) args (a2 i)) in
    let a : out3.at ≡ out.at + 2 + labels_of o.body = omega arith in
    (λ i. more_ends fresh t o m (a i) (ends2 i)) ∙ (rw count at inv)

pub copied_at : (old new : Out) (t : ℕ) (o : ForLoop) (variable : Label) (args : List Label) → IsBehind old (copy (fresh_at old) t o old.fresh.given variable args old.at) new
    → new.at ≡ old.at + labels_of o.body
copied_at old new t o variable args built =
    built.at ∙ ap (λ (n : ℕ). old.at + n) (copied_labels (renamed (copy_spans (fresh_at old) t o variable args old.at)) (anew (fresh_at old)) old.fresh.given o.body)

-- the two constants before a main loop
pub constants_behind : (a b c : Out) (ty : IrType) (v v' w w' : ℕ) → v ≡ v' → w ≡ w' → IsBehind a (constant (fresh_at a a.fresh.given) ty v nil) b
    → IsBehind b (constant (fresh_at b b.fresh.given) ty w nil) c
    → IsBehind a (constant (fresh_at a a.fresh.given) ty v' (constant (fresh_at a (a.fresh.given + 1)) ty w' nil)) c
constants_behind a b c ty v v' w w' e f p q =
    let whole = behind_then a b c _ _ p q in
    subst (λ (ops : OpList). IsBehind a ops c)
    (λ i. constant (fresh_at a a.fresh.given) ty (e i) (constant (p.names.same i (p.names.count i)) ty (f i) nil)) whole

pub kept_ops : (names : Names) (spans all : List Span) (k : ℕ) (ops body made : OpList) → names.kept ≡ true → k ≡ 0 → spans ≡ all → ops ≡ body
    → made ≡ rename_ops (renamed spans) (naming names) k ops → made ≡ rename_ops (renamed all) keep 0 body
kept_ops names spans all k ops body made kept none same b e =
    e ∙ (λ i. rename_ops (renamed (same i)) (if kept i then keep else anew (fresh_by names)) (none i) (b i))
