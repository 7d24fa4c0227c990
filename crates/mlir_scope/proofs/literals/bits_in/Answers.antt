use Rattle.std.proofs.Common.{◌≡◌, sym, ◌∙◌, ap, arith}
use Rattle.mlir_ir.specs.Phrases as phrases
use Rattle.mlir_ir.specs.Source as source
use Rattle.mlir_ir.specs.Trees.{forest}
use Rattle.mlir_ir.specs.Words.{bits_of}
use Rattle.mlir_ir.specs.declared.terminal.Terminal.TheVariants as terminals
use Rattle.mlir_scope.specs.Reading.{type_said}
use Rattle.mlir_scope.specs.Said.{said}
use Rattle.mlir_scope.specs.declared.said.ValueType.{ValueType}
use Rattle.mlir_scope.proofs.TypeWords.{narrow_type}
use Rattle.mlir_scope.proofs.literals.bits_in.Goals as goal

pub returns-in-Int-clause-most : goal.returns-in-Int-clause-most
returns-in-Int-clause-most c =
    let least = narrow_type c.args.tokens.now (forest c.args.parts.now) in
    let is : c.in-Int.bits ≡ bits_of (source.type_named (phrases.first_spot (phrases.spots terminals.TypeWord (said c.args.tokens.now c.args.parts.now))).text) =
    ap (λ (v : ValueType). bits_of (type_said v)) (sym c.in-Int.is) ∙ ap bits_of c.type_in.ensures in
    omega (arith, is, least)
