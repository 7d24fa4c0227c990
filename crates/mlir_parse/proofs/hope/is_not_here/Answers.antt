-- A word other than an operation name or a type is refused as such where one of these is accepted.
use Rattle.std.proofs.Common.{◌<◌, length, sym, ◌∙◌, arith}
use Rattle.std.proofs.lemmas.Result.{IfOk-weaker}
use Rattle.mlir_ir.specs.declared.terminal.Terminal.TheVariants.{Module}
use Rattle.mlir_parse.proofs.Hopes.{not_here_by}
use Rattle.mlir_parse.proofs.hope.is_not_here.Goals as goal

pub returns : goal.returns
returns c =
    let within : c.args.at < length c.args.tokens.now = omega arith in
    IfOk-weaker
    c.name_could_stand.result
    _
    _
    (λ could h. not_here_by c.args.tokens.now c.args.at Module could c.requires.fault within (sym c.is_unnamed.ensures ∙ c.if-not-is_unnamed.false) (rw c.split_at.ensures.front at h))
    c.name_could_stand.ensures
