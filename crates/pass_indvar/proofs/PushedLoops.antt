-- A loop that is built with its own labels and names.
use Rattle.std.proofs.Common.{◌≡◌, ℕ, Bool, true, List, [], ◌∷◌, ◌++◌, if◌then◌else◌, ap, ◌∙◌}
use Rattle.mlir_ir.specs.Operations.{nil, next, joined}
use Rattle.mlir_ir.specs.View.{view_ops, view_kind}
use Rattle.mlir_ir.specs.declared.types.Op.{Op}
use Rattle.pass_copy.specs.Copied.{fresh_by, naming}
use Rattle.pass_copy.specs.Renamed.{keep, anew, rename_kind, rename_packs}
use Rattle.pass_copy.specs.Renaming.{renamed}
use Rattle.pass_copy.specs.declared.names.Names.{Names}
use Rattle.pass_copy.specs.declared.renaming.Span.{Span}
use Rattle.pass_copy.proofs.BuiltBehind.{view_pushed}
use Rattle.pass_copy.proofs.CopiedOps.{kind_kept, packs_kept}

keeps : (names : Names) → names.kept ≡ true → naming names ≡ keep
keeps names e = ap (λ (kept : Bool). if kept then keep else anew (fresh_by names)) e

pub loop_pushed : (ops after : List Op) (op copied : Op) (names : Names) (spans : List Span) (k k2 : ℕ) → names.kept ≡ true → spans ≡ [] → after ≡ ops ++ copied ∷ []
    → copied.packs ≡ rename_packs (naming names) k2 op.packs → copied.results ≡ op.results
    → view_kind copied.kind ≡ rename_kind (renamed spans) (naming names) k (view_kind op.kind)
    → view_ops after ≡ joined (view_ops ops) (next op.packs op.results (view_kind op.kind) nil)
loop_pushed ops after op copied names spans k k2 kept none pushed packs results kind =
    let keeping = keeps names kept in
    ap view_ops pushed
    ∙ view_pushed ops copied op.packs op.results (view_kind op.kind) (packs ∙ (λ i. rename_packs (keeping i) k2 op.packs) ∙ packs_kept k2 op.packs) results
    (kind ∙ (λ i. rename_kind (renamed (none i)) (keeping i) k (view_kind op.kind)) ∙ kind_kept k (view_kind op.kind))
