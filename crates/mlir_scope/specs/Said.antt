-- What the code's values stand for: branches as a phrase, and its parts.
use Rattle.std.specs.Prelude.{List}
use Rattle.mlir_ir.specs.Phrases as phrases
use Rattle.mlir_ir.specs.Phrases.{Phrase, token, line, phrase_of}
use Rattle.mlir_ir.specs.Terminals.{terminal_of}
use Rattle.mlir_ir.specs.Trees.{forest}
use Rattle.mlir_ir.specs.declared.syntax.Branch.{Branch}
use Rattle.mlir_ir.specs.declared.token.Token.{Token}
use Rattle.mlir_scope.specs.declared.phrase.Part.{Part}
use Rattle.mlir_scope.specs.declared.phrase.Part.TheVariants as parts
use Rattle.mlir_scope.specs.declared.phrase.Spot.{Spot}
use Rattle.mlir_scope.specs.declared.phrase.Line.{Line}

-- what branches say
abbrev pub said : List Token → List Branch → Phrase
said tokens branches = phrase_of tokens (forest branches)

abbrev pub with_part : List Token → Part → Phrase → Phrase
with_part tokens (parts.Single at t) rest = token at (terminal_of t.now) t.now.text rest
with_part tokens (parts.Line form at inner) rest = line form at (said tokens inner.now) rest

abbrev pub spot_said : Spot → phrases.Spot
spot_said spot = record { at = spot.at; text = spot.text.now }

abbrev pub line_said : List Token → Line → phrases.Line
line_said tokens l = record { at = l.at; parts = said tokens l.parts.now }
