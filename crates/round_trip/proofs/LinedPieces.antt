-- Pieces that stand for right sides have no line that is named as a token is.
use Rattle.std.proofs.Common.{◌≡◌, ℕ, Bool, true, false, List, [], ◌∷◌, ◌++◌, refl, ap, ◌∙◌, if◌then◌else◌}
use Rattle.mlir_ir.specs.Grammar.{Pattern, nothing, one, line, both, either, many, region, body}
use Rattle.mlir_ir.specs.declared.types.Func.{Func}
use Rattle.mlir_ir.specs.declared.syntax.Form.{Form}
use Rattle.mlir_ir.specs.declared.syntax.Form.TheVariants.{Leaf, Whole, Func as FuncLine, Params, Types, Results, TypeName, Body, Ends, Uses, Use, Op, Pack, Kind, Inits, Region, Flags}
use Rattle.round_trip.specs.Pieces.{Piece, empty, gap, leaf, branch, beside, placed, trees}
use Rattle.round_trip.specs.Matching.{Matches, laid, m_end, m_token, m_line, m_region, m_nothing, m_both, m_left, m_right, m_again, m_enough}
use Rattle.mlir_ir.specs.GrammarNumbers.{same_form}
use Rattle.mlir_ir.specs.Phrases.{done, phrase_of}
use Rattle.round_trip.specs.PiecePhrases.{is_lined, said}
use Rattle.round_trip.specs.CanonicalPieces.{module_piece}
use Rattle.round_trip.specs.Sound.{SoundModule}
use Rattle.round_trip.proofs.PiecePhrases.{phrase_said}
use Rattle.round_trip.proofs.CanonicalTrees.{module_matches}

abbrev and : Bool → Bool → Bool
and a b = if a then b else false

and_of : (a b : Bool) → a ≡ true → b ≡ true → and a b ≡ true
and_of true b h k = k
and_of false b h k = cc

of_and : (a b : Bool) → and a b ≡ true → (a ≡ true) × (b ≡ true)
of_and true b h = (refl, h)
of_and false b h = cc

abbrev all_lined : List Piece → Bool
all_lined [] = true
all_lined (d ∷ ds) = and (is_lined d) (all_lined ds)

abbrev fine : Pattern → Bool
fine nothing = true
fine (one c) = true
fine (line f) = if same_form f Leaf then false else true
fine (both a b) = and (fine a) (fine b)
fine (either a b) = and (fine a) (fine b)
fine (many a) = fine a
fine (region a) = fine a

abbrev all_fine : List Pattern → Bool
all_fine [] = true
all_fine (p ∷ ss) = and (fine p) (all_fine ss)

body_fine : (f : Form) → fine (body f) ≡ true
body_fine Leaf = refl
body_fine Whole = refl
body_fine FuncLine = refl
body_fine Params = refl
body_fine Types = refl
body_fine Results = refl
body_fine TypeName = refl
body_fine Body = refl
body_fine Ends = refl
body_fine Uses = refl
body_fine Use = refl
body_fine Op = refl
body_fine Pack = refl
body_fine Kind = refl
body_fine Inits = refl
body_fine Region = refl
body_fine Flags = refl

laid_lined : (x : Piece) (ds : List Piece) → all_lined (laid x ds) ≡ true → (is_lined x ≡ true) × (all_lined ds ≡ true)
laid_lined empty ds h = (refl, h)
laid_lined (gap bytes) ds h = (refl, h)
laid_lined (leaf kind text) ds h = (refl, h)
laid_lined (branch form parts) ds h = of_and (is_lined (branch form parts)) (all_lined ds) h
laid_lined (beside x y) ds h =
    let first = laid_lined x (laid y ds) h in
    let second = laid_lined y ds first.1 in
    (and_of (is_lined x) (is_lined y) first.0 second.0, second.1)

joined_lined : (xs ds : List Piece) → all_lined xs ≡ true → all_lined ds ≡ true → all_lined (xs ++ ds) ≡ true
joined_lined [] ds h k = k
joined_lined (x ∷ xs) ds h k =
    let parts = of_and (is_lined x) (all_lined xs) h in and_of (is_lined x) (all_lined (xs ++ ds)) parts.0 (joined_lined xs ds parts.1 k)

branch_lined : (c b : Bool) → (if c then false else true) ≡ true → b ≡ true → (if c then false else b) ≡ true
branch_lined true b h k = h
branch_lined false b h k = k

lined : {n : ℕ} {ss : List Pattern} {ds : List Piece} → Matches n ss ds → all_fine ss ≡ true → all_lined ds ≡ true
lined m_end h = refl
lined (m_token e m) h = lined m h
lined (m_line {f = f} {parts = parts} {ss = ss} {ds = ds} k m) h =
    let here = of_and (fine (line f)) (all_fine ss) h in
    let inner = laid_lined parts [] (lined k (and_of (fine (body f)) true (body_fine f) refl)) in
    and_of (is_lined (branch f parts)) (all_lined ds) (branch_lined (same_form f Leaf) (is_lined parts) here.0 inner.0) (lined m here.1)
lined (m_region {a = a} {xs = xs} {ss = ss} {ds = ds} low k m e) h =
    let here = of_and (fine a) (all_fine ss) h in
    ap all_lined e ∙ joined_lined xs ds (lined k (and_of (fine a) true here.0 refl)) (lined m here.1)
lined (m_nothing m) h = lined m h
lined (m_both {a = a} {b = b} {ss = ss} m) h =
    let here = of_and (fine (both a b)) (all_fine ss) h in
    let parts = of_and (fine a) (fine b) here.0 in
    lined m (and_of (fine a) (and (fine b) (all_fine ss)) parts.0 (and_of (fine b) (all_fine ss) parts.1 here.1))
lined (m_left {a = a} {b = b} {ss = ss} m) h =
    let here = of_and (fine (either a b)) (all_fine ss) h in lined m (and_of (fine a) (all_fine ss) (of_and (fine a) (fine b) here.0).0 here.1)
lined (m_right {a = a} {b = b} {ss = ss} m) h =
    let here = of_and (fine (either a b)) (all_fine ss) h in lined m (and_of (fine b) (all_fine ss) (of_and (fine a) (fine b) here.0).1 here.1)
lined (m_again {a = a} {ss = ss} m) h =
    let here = of_and (fine a) (all_fine ss) h in lined m (and_of (fine a) (and (fine a) (all_fine ss)) here.0 h)
lined (m_enough {a = a} {ss = ss} m) h = lined m (of_and (fine a) (all_fine ss) h).1

-- the phrase of a module's canonical tokens and tree is what its pieces say
pub module_said : (fs : List Func) → SoundModule fs → phrase_of (placed 0 (module_piece fs)) (trees 0 (module_piece fs)) ≡ said 0 (module_piece fs) done
module_said fs is =
    phrase_said (module_piece fs) (of_and (is_lined (module_piece fs)) true (lined (module_matches fs is) refl)).0
