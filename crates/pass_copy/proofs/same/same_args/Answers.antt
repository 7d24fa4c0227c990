use Rattle.std.proofs.Common.{◌∙◌, ap}
use Rattle.pass_copy.specs.Renamed.{Naming, rename_args}
use Rattle.pass_copy.proofs.CopiedOps.{naming_kept, args_kept}
use Rattle.pass_copy.proofs.same.same_args.Goals as goal

pub returns : goal.returns
returns c =
    c.in_ok-made.ensures.args
    ∙ ap (λ (n : Naming). rename_args n c.kept-names.result.given c.args.args.now) (naming_kept c.kept-names.result c.kept-names.ensures.kept)
    ∙ args_kept c.kept-names.result.given c.args.args.now
