-- Pieces that stand for right sides of the grammar.
use Rattle.std.specs.Prelude.{ℕ, ◌≡◌, ◌+◌, ◌<◌, List, [], ◌∷◌, ◌++◌}
use Rattle.mlir_ir.specs.Grammar.{Pattern, nothing, one, line, both, either, many, region, body}
use Rattle.mlir_ir.specs.Limits.{region_limit}
use Rattle.mlir_ir.specs.Terminals.{kind_terminal}
use Rattle.mlir_ir.specs.declared.token.TokenKind.{TokenKind}
use Rattle.mlir_ir.specs.declared.terminal.Terminal.{Terminal}
use Rattle.mlir_ir.specs.declared.terminal.Terminal.TheVariants.{LeftBrace, RightBrace}
use Rattle.mlir_ir.specs.declared.syntax.Form.{Form}
use Rattle.round_trip.specs.Pieces.{Piece, empty, gap, leaf, branch, beside}

-- the tokens and lines of a piece, before more
abbrev pub laid : Piece → List Piece → List Piece
laid empty ds = ds
laid (gap bytes) ds = ds
laid (leaf kind text) ds = leaf kind text ∷ ds
laid (branch form parts) ds = branch form parts ∷ ds
laid (beside x y) ds = laid x (laid y ds)

-- with so many regions open, the tokens and lines stand for the first right side, then the second, and so on
pub data Matches : ℕ → List Pattern → List Piece → Type 0 where
  m_end : {n : ℕ} → Matches n [] []
  m_token : {n : ℕ} {c : Terminal} {kind : TokenKind} {text : List ℕ} {ss : List Pattern} {ds : List Piece} → kind_terminal kind text ≡ c → Matches n ss ds → Matches n (one c ∷ ss) (leaf kind text ∷ ds)
  m_line : {n : ℕ} {f : Form} {parts : Piece} {ss : List Pattern} {ds : List Piece} → Matches n (body f ∷ []) (laid parts []) → Matches n ss ds → Matches n (line f ∷ ss) (branch f parts ∷ ds)
  m_region : {n : ℕ} {a : Pattern} {xs : List Piece} {ss : List Pattern} {ds es : List Piece} → n < region_limit → Matches (n + 1) (one LeftBrace ∷ a ∷ one RightBrace ∷ []) xs → Matches n ss ds → es ≡ xs ++ ds → Matches n (region a ∷ ss) es
  m_nothing : {n : ℕ} {ss : List Pattern} {ds : List Piece} → Matches n ss ds → Matches n (nothing ∷ ss) ds
  m_both : {n : ℕ} {a b : Pattern} {ss : List Pattern} {ds : List Piece} → Matches n (a ∷ b ∷ ss) ds → Matches n (both a b ∷ ss) ds
  m_left : {n : ℕ} {a b : Pattern} {ss : List Pattern} {ds : List Piece} → Matches n (a ∷ ss) ds → Matches n (either a b ∷ ss) ds
  m_right : {n : ℕ} {a b : Pattern} {ss : List Pattern} {ds : List Piece} → Matches n (b ∷ ss) ds → Matches n (either a b ∷ ss) ds
  m_again : {n : ℕ} {a : Pattern} {ss : List Pattern} {ds : List Piece} → Matches n (a ∷ many a ∷ ss) ds → Matches n (many a ∷ ss) ds
  m_enough : {n : ℕ} {a : Pattern} {ss : List Pattern} {ds : List Piece} → Matches n ss ds → Matches n (many a ∷ ss) ds
