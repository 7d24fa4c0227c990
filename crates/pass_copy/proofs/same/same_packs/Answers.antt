use Rattle.std.proofs.Common.{◌∙◌, ap}
use Rattle.pass_copy.specs.Renamed.{Naming, rename_packs}
use Rattle.pass_copy.proofs.CopiedOps.{naming_kept, packs_kept}
use Rattle.pass_copy.proofs.same.same_packs.Goals as goal

pub returns : goal.returns
returns c =
    c.in_ok-made.ensures.packs
    ∙ ap (λ (n : Naming). rename_packs n c.kept-names.result.given c.args.packs.now) (naming_kept c.kept-names.result c.kept-names.ensures.kept)
    ∙ packs_kept c.kept-names.result.given c.args.packs.now
