use Rattle.std.proofs.Common.{◌++◌, ◌∙◌, ap, sym, map, drop}
use Rattle.std.proofs.lemmas.List.{append-nil}
use Rattle.mlir_scope.specs.Arguments.{named}
use Rattle.mlir_scope.specs.Reading.{defined_said, type_said}
use Rattle.mlir_scope.proofs.Counts.{named_none}
use Rattle.mlir_scope.proofs.Parted.{cut_past}
use Rattle.mlir_scope.proofs.built_types.args_of.Goals as goal

pub returns-in-None : goal.returns-in-None
returns-in-None c =
    let names = map defined_said (drop c.each.i c.args.names.now) in
    let made = c.each.made.items in
    let end = cut_past c.args.types.now c.each.i c.in-None.ensures.lookup.0 in
    c.from_vec.ensures ∙ sym (append-nil made)
    ∙ sym (ap (λ args. made ++ args) (ap (λ ts. named names (map type_said ts)) end ∙ named_none names))
    ∙ c.each.invariant
