-- The blocks of canonical pieces: each operation with its packs, and what stands in its regions.
use Rattle.std.proofs.Common.{◌≡◌, ℕ, List, [], ◌∷◌, refl, codes, map}
use Rattle.mlir_ir.specs.Phrases.{Phrase, done, token, line, lines, inside}
use Rattle.mlir_ir.specs.Source.{Block, op, packed, block, region, region_behind, first_of, second_of}
use Rattle.mlir_ir.specs.declared.terminal.Terminal.TheVariants as ts
use Rattle.mlir_ir.specs.declared.syntax.Form.TheVariants as forms
use Rattle.mlir_ir.specs.declared.types.Pack.{Pack}
use Rattle.round_trip.specs.CanonicalPieces.{behind_commas_piece, pack_piece, packs_piece, whole_piece}
use Rattle.round_trip.specs.PiecePhrases.{said}
use Rattle.round_trip.specs.Pieces.{Piece}

-- names of results are passed over
behind_inside : (rest : Phrase) (packs : List Pack) (at : ℕ) → inside forms.Kind (said at (behind_commas_piece (map pack_piece packs)) rest) ≡ inside forms.Kind rest
behind_inside rest [] at = refl
behind_inside rest (pack ∷ packs) at = behind_inside rest packs _

packs_inside : (rest : Phrase) (packs : List Pack) (at : ℕ) → inside forms.Kind (said at (packs_piece packs) rest) ≡ inside forms.Kind rest
packs_inside rest [] at = refl
packs_inside rest (pack ∷ packs) at = behind_inside (token _ ts.Equals (codes "=") rest) packs _

behind_first : (rest : Phrase) (packs : List Pack) (at : ℕ) → first_of (said at (behind_commas_piece (map pack_piece packs)) rest) ≡ first_of rest
behind_first rest [] at = refl
behind_first rest (pack ∷ packs) at = behind_first rest packs _

packs_first : (rest : Phrase) (packs : List Pack) (at : ℕ) → first_of (said at (packs_piece packs) rest) ≡ first_of rest
packs_first rest [] at = refl
packs_first rest (pack ∷ packs) at = behind_first (token _ ts.Equals (codes "=") rest) packs _

behind_second : (rest : Phrase) (packs : List Pack) (at : ℕ) → second_of (said at (behind_commas_piece (map pack_piece packs)) rest) ≡ second_of rest
behind_second rest [] at = refl
behind_second rest (pack ∷ packs) at = behind_second rest packs _

packs_second : (rest : Phrase) (packs : List Pack) (at : ℕ) → second_of (said at (packs_piece packs) rest) ≡ second_of rest
packs_second rest [] at = refl
packs_second rest (pack ∷ packs) at = behind_second (token _ ts.Equals (codes "=") rest) packs _

-- an operation as a block, before others
abbrev pub op_block : ℕ → ℕ → ℕ → List Pack → Piece → Block → Block
op_block i j k packs kind rest =
    op i (map packed (lines forms.Pack (said j (packs_piece packs) (line forms.Kind k (said k kind done) done)))) (said k kind done) (region (said k kind done)) (region_behind (said k kind done)) rest

pub op_of_parts : (i j k : ℕ) (packs : List Pack) (kind : Piece) (rest : Block)
    → let parts = said j (packs_piece packs) (line forms.Kind k (said k kind done) done) in
    op i (map packed (lines forms.Pack parts)) (inside forms.Kind parts) (first_of parts) (second_of parts) rest ≡ op_block i j k packs kind rest
op_of_parts i j k packs kind rest =
    let inner = line forms.Kind k (said k kind done) done in
    λ r. op i (map packed (lines forms.Pack (said j (packs_piece packs) inner))) (packs_inside inner packs j r) (packs_first inner packs j r) (packs_second inner packs j r) rest

-- the operation's line in a body or a region, and among the tokens of an `scf.while`
pub block_whole : (depth at : ℕ) (packs : List Pack) (kind : Piece) (rest : Phrase)
    → (i : ℕ) × (j : ℕ) × (k : ℕ) × (block (said at (whole_piece depth (packs_piece packs) kind) rest) ≡ op_block i j k packs kind (block rest))
block_whole depth at packs kind rest = (_, _, _, op_of_parts _ _ _ packs kind (block rest))

pub region_whole : (depth at : ℕ) (packs : List Pack) (kind : Piece) (rest : Phrase)
    → (i : ℕ) × (j : ℕ) × (k : ℕ) × (region (said at (whole_piece depth (packs_piece packs) kind) rest) ≡ op_block i j k packs kind (region rest))
region_whole depth at packs kind rest = (_, _, _, op_of_parts _ _ _ packs kind (region rest))
