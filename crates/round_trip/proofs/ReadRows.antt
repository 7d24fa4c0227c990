-- Rows of operations and their regions as the resolver reads their canonical pieces.
use Rattle.std.proofs.Common.{◌≡◌, ℕ, ◌+◌, false, List, [], ◌∷◌, ◌++◌, refl, ap, ◌∙◌, length}
use Rattle.arith_word.specs.declared.label.Label.{Label}
use Rattle.mlir_ir.specs.Canonical.{Naming}
use Rattle.mlir_ir.specs.GrammarNumbers.{same_form}
use Rattle.mlir_ir.specs.Operations as plain
use Rattle.mlir_ir.specs.Operations.{OpKind, OpList, labels_of, inner_labels}
use Rattle.mlir_ir.specs.Phrases.{Phrase, done, line, lines, inside, until, behind}
use Rattle.mlir_ir.specs.Resolved.{tys, kind_of, ops_of}
use Rattle.mlir_ir.specs.Source.{Block, none, block, region, region_behind, head, op_types}
use Rattle.mlir_ir.specs.Values.{Value, result_values}
use Rattle.mlir_ir.specs.View.{view_kind}
use Rattle.mlir_ir.specs.declared.terminal.Terminal.TheVariants as ts
use Rattle.mlir_ir.specs.declared.syntax.Form.{Form}
use Rattle.mlir_ir.specs.declared.syntax.Form.TheVariants as forms
use Rattle.mlir_ir.specs.declared.types.IrType.{IrType}
use Rattle.mlir_ir.specs.declared.types.Pack.{Pack}
use Rattle.mlir_ir.specs.declared.types.Region.{Row_of-Op, end_of-Op, more_of-Op}
use Rattle.mlir_ir.specs.declared.types.Kind.{Kind}
use Rattle.round_trip.specs.CanonicalPieces.{kind_piece, row_piece, yield_piece}
use Rattle.round_trip.specs.Flat.{other_kind}
use Rattle.round_trip.specs.PiecePhrases.{said}
use Rattle.round_trip.specs.Pieces.{Piece}
use Rattle.round_trip.specs.Readable.{Reading, ReadsPack}
use Rattle.round_trip.specs.Sound.{Each}
use Rattle.round_trip.proofs.ReadBlocks.{op_block}
use Rattle.round_trip.proofs.ReadLists.{packs_read}

-- rows are passed over where lines of another form are looked for

pub row_inside : (naming : Naming) (f : Form) → same_form f forms.Op ≡ false → (n : _) (row : Row_of-Op n) (rest : Phrase) (depth at : ℕ) → inside f (said at (row_piece naming depth row) rest) ≡ inside f rest
unfolding kind_piece
row_inside naming f e n end_of-Op rest depth at = refl
row_inside naming f e n (more_of-Op packs results kind more) rest depth at = rw e (row_inside naming f e _ more rest depth _)

pub row_lines : (naming : Naming) (f : Form) → same_form f forms.Op ≡ false → (n : _) (row : Row_of-Op n) (rest : Phrase) (depth at : ℕ) → lines f (said at (row_piece naming depth row) rest) ≡ lines f rest
unfolding kind_piece
row_lines naming f e n end_of-Op rest depth at = refl
row_lines naming f e n (more_of-Op packs results kind more) rest depth at = rw e (row_lines naming f e _ more rest depth _)

-- one operation before others
pub op_read : (funcs : List (List ℕ)) (scope : List Value) (at i j k : ℕ) (packs : List Pack) (results : List IrType) (kind : Piece) (what : OpKind) (n : ℕ) (rest : Block) → Each ReadsPack packs → inner_labels what ≡ n
    → let p = said k kind done in
    tys (op_types (head p) p) ≡ results → kind_of funcs scope at (head p) p (ops_of funcs (region p)) (ops_of funcs (region_behind p)) ≡ what
    → ops_of funcs (op_block i j k packs kind rest) scope at ≡ plain.next packs results what (ops_of funcs rest (scope ++ result_values (at + n) packs results) (at + (n + length results)))
op_read funcs scope at i j k packs results kind what n rest is size types does =
    let names = packs_read packs is (line forms.Kind k (said k kind done) done) refl j in
    (λ r. plain.next (names r) (types r) (does r) (ops_of funcs rest (scope ++ result_values (at + inner_labels (does r)) (names r) (types r)) (at + (inner_labels (does r) + length (types r)))))
    ∙ (λ r. plain.next packs results what (ops_of funcs rest (scope ++ result_values (at + size r) packs results) (at + (size r + length results))))

-- the resolver reads the phrase as this operation
pub record PhraseRead (r : Reading) (scope : List Value) (at : ℕ) (results : List IrType) (kind : Kind) (p : Phrase) : Type 0 where
  pub types : tys (op_types (head p) p) ≡ results
  pub does : kind_of r.naming.funcs scope at (head p) p (ops_of r.naming.funcs (region p)) (ops_of r.naming.funcs (region_behind p)) ≡ other_kind r.other (view_kind kind)

abbrev pub KindRead : Reading → List Value → ℕ → List IrType → Kind → Piece → Type 0
KindRead r scope at results kind piece = (k : ℕ) → PhraseRead r scope at results kind (said k piece done)

pub yield_block : (naming : Naming) (depth : ℕ) (ls : List Label) (rest : Phrase) (at : ℕ) → block rest ≡ none → block (said at (yield_piece naming depth ls) rest) ≡ none
yield_block naming depth [] rest at e = e
yield_block naming depth (l ∷ ls) rest at e = e

op_line : {i : ℕ} {parts p q : Phrase} → p ≡ q → line forms.Op i parts p ≡ line forms.Op i parts q
op_line {i} {parts} e = ap (λ q. line forms.Op i parts q) e

pub row_until : (naming : Naming) (n : _) (row : Row_of-Op n) (rest : Phrase) (depth at : ℕ) → until ts.Do (said at (row_piece naming depth row) rest) ≡ said at (row_piece naming depth row) (until ts.Do rest)
unfolding kind_piece
row_until naming n end_of-Op rest depth at = refl
row_until naming n (more_of-Op packs results kind more) rest depth at = op_line (row_until naming _ more rest depth _)

pub row_behind : (naming : Naming) (n : _) (row : Row_of-Op n) (rest : Phrase) (depth at : ℕ) → behind ts.Do (said at (row_piece naming depth row) rest) ≡ behind ts.Do rest
unfolding kind_piece
row_behind naming n end_of-Op rest depth at = refl
row_behind naming n (more_of-Op packs results kind more) rest depth at = row_behind naming _ more rest depth _

pub row_behind_word : (naming : Naming) (n : _) (row : Row_of-Op n) (rest : Phrase) (depth at : ℕ) → region_behind (said at (row_piece naming depth row) rest) ≡ region_behind rest
unfolding kind_piece
row_behind_word naming n end_of-Op rest depth at = refl
row_behind_word naming n (more_of-Op packs results kind more) rest depth at = row_behind_word naming _ more rest depth _
