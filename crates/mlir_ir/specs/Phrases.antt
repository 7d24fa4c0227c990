-- What a syntax says: its tokens and lines beside one another, each with the number of its first token, and how parts of it are found.
use Rattle.std.specs.Prelude.{ℕ, ◌||◌, Bool, false, List, [], ◌∷◌, Option, Some, None, slice_get, if◌then◌else◌}
use Rattle.mlir_ir.specs.Trees.{Forest, none, node}
use Rattle.mlir_ir.specs.Terminals.{terminal_of}
use Rattle.mlir_ir.specs.GrammarNumbers.{same, same_form}
use Rattle.mlir_ir.specs.declared.token.Token.{Token}
use Rattle.mlir_ir.specs.declared.terminal.Terminal.{Terminal}
use Rattle.mlir_ir.specs.declared.syntax.Form.{Form}
use Rattle.mlir_ir.specs.declared.syntax.Form.TheVariants.{Leaf}

pub data Phrase : Type 0 where
  done : Phrase
  token : (at : ℕ) (c : Terminal) (text : List ℕ) (rest : Phrase) → Phrase
  line : (form : Form) (at : ℕ) (parts rest : Phrase) → Phrase

-- a token
pub record Spot : Type 0 where
  pub at : ℕ
  pub text : List ℕ

-- the parts of a line
pub record Line : Type 0 where
  pub at : ℕ
  pub parts : Phrase

abbrev pub with_token : ℕ → Option Token → Phrase → Phrase
with_token at None rest = rest
with_token at (Some t) rest = token at (terminal_of t) t.text rest

abbrev pub phrase_of : List Token → Forest → Phrase
phrase_of tokens none = done
phrase_of tokens (node form at parts rest) =
    if same_form form Leaf
    then with_token at (slice_get tokens at) (phrase_of tokens rest)
    else line form at (phrase_of tokens parts) (phrase_of tokens rest)

-- the tokens of that terminal that stand directly in a phrase
abbrev pub spots : Terminal → Phrase → List Spot
spots c done = []
spots c (token at d text rest) = if same c d then record { at = at; text = text } ∷ spots c rest else spots c rest
spots c (line form at parts rest) = spots c rest

-- the lines of that form that stand directly in a phrase
abbrev pub lines : Form → Phrase → List Line
lines f done = []
lines f (token at c text rest) = lines f rest
lines f (line form at parts rest) = if same_form f form then record { at = at; parts = parts } ∷ lines f rest else lines f rest

-- the parts of the first line of that form, and nothing where there is none
abbrev pub inside : Form → Phrase → Phrase
inside f done = done
inside f (token at c text rest) = inside f rest
inside f (line form at parts rest) = if same_form f form then parts else inside f rest

abbrev pub has : Terminal → Phrase → Bool
has c done = false
has c (token at d text rest) = same c d || has c rest
has c (line form at parts rest) = has c rest

-- what stands before the first token of that terminal, and behind it
abbrev pub until : Terminal → Phrase → Phrase
until c done = done
until c (token at d text rest) = if same c d then done else token at d text (until c rest)
until c (line form at parts rest) = line form at parts (until c rest)

abbrev pub behind : Terminal → Phrase → Phrase
behind c done = done
behind c (token at d text rest) = if same c d then rest else behind c rest
behind c (line form at parts rest) = behind c rest

-- the first of some tokens
abbrev pub first_spot : List Spot → Spot
first_spot [] = record { at = 0; text = [] }
first_spot (spot ∷ rest) = spot
