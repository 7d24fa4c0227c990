-- What a piece says: its tokens and lines with their numbers, as in the phrase of a syntax.
use Rattle.std.specs.Prelude.{ℕ, ◌+◌, Bool, true, false, length, if◌then◌else◌}
use Rattle.mlir_ir.specs.GrammarNumbers.{same_form}
use Rattle.mlir_ir.specs.Phrases.{Phrase, done, token, line}
use Rattle.mlir_ir.specs.Terminals.{kind_terminal}
use Rattle.mlir_ir.specs.declared.syntax.Form.TheVariants.{Leaf}
use Rattle.round_trip.specs.Pieces.{Piece, empty, gap, leaf, branch, beside, terminals}

-- what a piece says whose first token has that number, before more
abbrev pub said : ℕ → Piece → Phrase → Phrase
said at empty rest = rest
said at (gap bytes) rest = rest
said at (leaf kind text) rest = token at (kind_terminal kind text) text rest
said at (branch form parts) rest = line form at (said at parts done) rest
said at (beside x y) rest = said at x (said (at + length (terminals x)) y rest)

-- no line is named as a token is
abbrev pub is_lined : Piece → Bool
is_lined empty = true
is_lined (gap bytes) = true
is_lined (leaf kind text) = true
is_lined (branch form parts) = if same_form form Leaf then false else is_lined parts
is_lined (beside x y) = if is_lined x then is_lined y else false
