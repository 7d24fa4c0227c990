use Rattle.std.proofs.Common.{◌++◌, ◌∙◌, ap, sym, map, string_bytes}
use Rattle.mlir_ir.specs.Canonical.{body_text, naming_of}
use Rattle.mlir_print.proofs.functions.push_func.Goals as goal

pub returns-in_ok-push_declaration-in-None : goal.returns-in_ok-push_declaration-in-None
returns-in_ok-push_declaration-in-None c =
    let f = c.args.func.now in
    let naming = naming_of (map (λ g. g.name) c.args.funcs.now) f in
    c.in_ok-push_declaration-in-None.ensures naming ∙ ap (λ body. string_bytes c.args.out.now ++ body_text naming f body) (sym c.in-None.is)
