use Rattle.std.proofs.Common.{◌≡◌, List, take, map}
use Rattle.mlir_ir.specs.Phrases as phrases
use Rattle.mlir_ir.specs.declared.token.Token.{Token}
use Rattle.mlir_scope.specs.Functions.{lines_said}
use Rattle.mlir_scope.proofs.text_faults.func_tokens.Given as goal

abbrev pub invariant-each : goal.invariant-each
invariant-each l = (tokens : List Token) → l.made.items ≡ map (λ (f : phrases.Line). f.at) (lines_said tokens (take l.f-index l.funcs))
