-- The phrase of a piece's tokens and trees is what the piece says.
use Rattle.std.proofs.Common.{suc, ◌≡◌, ℕ, ◌+◌, Bool, true, false, List, [], ◌∷◌, ◌++◌, length, refl, ap, ◌∙◌, sym, subst, arith, Some, slice_get, if◌then◌else◌}
use Rattle.round_trip.proofs.PieceTrees.{join_none, join_assoc, length_both}
use Rattle.mlir_ir.specs.Trees as forests
use Rattle.mlir_ir.specs.Trees.{Forest, join}
use Rattle.mlir_ir.specs.declared.token.Token.{Token}
use Rattle.round_trip.specs.Pieces.{Piece, empty, gap, leaf, branch, beside, spelled, placed, terminals, trees}
use Rattle.mlir_ir.specs.GrammarNumbers.{same_form}
use Rattle.mlir_ir.specs.Phrases.{done, line, with_token, phrase_of}
use Rattle.mlir_ir.specs.declared.syntax.Form.TheVariants.{Leaf}
use Rattle.round_trip.specs.PiecePhrases.{said, is_lined}

-- these tokens stand from the number on
abbrev TokensAt : List Token → ℕ → List Token → Type 0
TokensAt ts at [] = Unit {0}
TokensAt ts at (u ∷ us) = (slice_get ts at ≡ Some u) × TokensAt ts (suc at) us

at_split : (ts : List Token) (at : ℕ) (us vs : List Token) → TokensAt ts at (us ++ vs) → TokensAt ts at us × TokensAt ts (at + length us) vs
at_split ts at [] vs h = (tt, subst (λ p. TokensAt ts p vs) (omega arith) h)
at_split ts at (u ∷ us) vs h =
    let q = at_split ts (suc at) us vs h.1 in
    let places : suc at + length us ≡ at + length (u ∷ us) = omega arith in
    ((h.0, q.0), subst (λ p. TokensAt ts p vs) places q.1)

at_shift : (t : Token) (ts : List Token) (at : ℕ) (us : List Token) → TokensAt ts at us → TokensAt (t ∷ ts) (suc at) us
at_shift t ts at [] h = tt
at_shift t ts at (u ∷ us) h = (h.0, at_shift t ts (suc at) us h.1)

at_all : (ts : List Token) → TokensAt ts 0 ts
at_all [] = tt
at_all (t ∷ ts) = (refl, at_shift t ts 0 ts (at_all ts))

length_token : (us vs : List Token) → length (us ++ vs) ≡ length us + length vs
length_token [] vs = omega arith
length_token (u ∷ us) vs = omega (arith, length_token us vs)

counted : (at : ℕ) (p : Piece) → length (placed at p) ≡ length (terminals p)
counted at empty = refl
counted at (gap bytes) = refl
counted at (leaf kind text) = refl
counted at (branch form parts) = counted at parts
counted at (beside x y) =
    length_token (placed at x) (placed (at + length (spelled x)) y)
    ∙ ap (λ k. k + length (placed (at + length (spelled x)) y)) (counted at x)
    ∙ ap (λ k. length (terminals x) + k) (counted (at + length (spelled x)) y)
    ∙ sym (length_both (terminals x) (terminals y))

both_lined : (a b : Bool) → (if a then b else false) ≡ true → (a ≡ true) × (b ≡ true)
both_lined true b h = (refl, h)
both_lined false b h = cc

no_leaf : (a b : Bool) → (if a then false else b) ≡ true → (a ≡ false) × (b ≡ true)
no_leaf true b h = cc
no_leaf false b h = (refl, h)

-- `byte` is where the piece begins, `at` the number of its first token
phrase_piece : (ts : List Token) (p : Piece) (byte at : ℕ) (rest : Forest) → is_lined p ≡ true → TokensAt ts at (placed byte p)
    → phrase_of ts (join (trees at p) rest) ≡ said at p (phrase_of ts rest)
phrase_piece ts empty byte at rest lined h = refl
phrase_piece ts (gap bytes) byte at rest lined h = refl
phrase_piece ts (leaf kind text) byte at rest lined h = ap (λ o. with_token at o (phrase_of ts rest)) h.0
phrase_piece ts (branch form parts) byte at rest lined h =
    let parts_lined = no_leaf (same_form form Leaf) (is_lined parts) lined in
    let inner : phrase_of ts (trees at parts) ≡ said at parts done =
    ap (phrase_of ts) (sym (join_none (trees at parts))) ∙ phrase_piece ts parts byte at forests.none parts_lined.1 h in
    ap (λ (c : Bool). if c then with_token at (slice_get ts at) (phrase_of ts rest) else line form at (phrase_of ts (trees at parts)) (phrase_of ts rest)) parts_lined.0
    ∙ ap (λ d. line form at d (phrase_of ts rest)) inner
phrase_piece ts (beside x y) byte at rest lined h =
    let both_are = both_lined (is_lined x) (is_lined y) lined in
    let q = at_split ts at (placed byte x) (placed (byte + length (spelled x)) y) h in
    let second : TokensAt ts (at + length (terminals x)) (placed (byte + length (spelled x)) y) =
    subst (λ k. TokensAt ts (at + k) (placed (byte + length (spelled x)) y)) (counted byte x) q.1 in
    ap (phrase_of ts) (join_assoc (trees at x) (trees (at + length (terminals x)) y) rest)
    ∙ phrase_piece ts x byte at (join (trees (at + length (terminals x)) y) rest) both_are.0 q.0
    ∙ ap (said at x) (phrase_piece ts y (byte + length (spelled x)) (at + length (terminals x)) rest both_are.1 second)

-- the phrase of a piece's own tokens and trees
pub phrase_said : (p : Piece) → is_lined p ≡ true → phrase_of (placed 0 p) (trees 0 p) ≡ said 0 p done
phrase_said p lined =
    ap (phrase_of (placed 0 p)) (sym (join_none (trees 0 p))) ∙ phrase_piece (placed 0 p) p 0 0 forests.none lined (at_all (placed 0 p))
