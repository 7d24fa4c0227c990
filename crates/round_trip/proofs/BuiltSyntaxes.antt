-- The canonical syntax as a value of the program.
use Rattle.std.proofs.Common.{◌≡◌, ◌<◌, ◌^◌, List, [], ◌∷◌, refl, ap, map, length, arith}
use Rattle.std.specs.Global.{Global, Vec}
use Rattle.std.proofs.lemmas.List.{length-map}
use Rattle.mlir_ir.specs.Terminals.{terminal_of}
use denote.RawPtr.{null_ptr}
use mathlib.Core.Former.{none_left, this, list_count}
use Rattle.mlir_ir.specs.Canonical.{module_text}
use Rattle.mlir_ir.specs.Syntaxes.{IsSyntaxOf}
use Rattle.mlir_ir.specs.Trees.{Forest, none, node, row_forest}
use Rattle.mlir_ir.specs.declared.syntax.Branch.{Branch, Branch', Row_of-Branch, end_of-Branch, more_of-Branch}
use Rattle.mlir_ir.specs.declared.syntax.Form.TheVariants.{Whole}
use Rattle.mlir_ir.specs.declared.syntax.Syntax.{Syntax}
use Rattle.mlir_ir.specs.declared.types.Func.{Func}
use Rattle.mlir_ir.proofs.TokenLaws.{token_count}
use Rattle.round_trip.specs.CanonicalPieces.{funcs_piece, module_piece}
use Rattle.round_trip.specs.Pieces.{placed, trees}
use Rattle.round_trip.specs.Sound.{SoundModule}
use Rattle.round_trip.proofs.CanonicalSyntaxes.{is_syntax}
use Rattle.round_trip.proofs.CanonicalTokens.{module_tokens}
use Rattle.round_trip.proofs.CanonicalTrees.{module_tree}
use Rattle.round_trip.proofs.TreeSizes.{size, Small, whole_small}

abbrev units : Forest → List (Unit {0})
units none = []
units (node form at parts rest) = tt ∷ units rest

units_long : (xs : Forest) → size xs ≡ length (units xs)
units_long none = refl
units_long (node form at parts rest) = let more = units_long rest in omega (arith, more)

-- a vector's place, length and room
abbrev shape : Global → (xs : Forest) → size xs < 2 ^ 63 → Vec (Unit {0})
shape alloc xs h = record { ptr = null_ptr; len = size xs; cap = size xs; alloc = alloc; items = units xs; ok = (units_long xs, omega arith); small = h }

row : (alloc : Global) (xs : Forest) → Small xs → Row_of-Branch (list_count this (units xs) none_left)
row alloc none h = end_of-Branch
row alloc (node form at parts rest) h = more_of-Branch (Branch' form at (shape alloc parts h.0) (row alloc parts h.1)) (row alloc rest h.2)

row_back : (alloc : Global) (xs : Forest) (h : Small xs) → row_forest (row alloc xs h) ≡ xs
unfolding row
row_back alloc none h = refl
row_back alloc (node form at parts rest) h = λ i. node form at (row_back alloc parts h.1 i) (row_back alloc rest h.2 i)

-- a canonical text that is short enough has a syntax
pub built_syntax : (alloc : Global) (fs : List Func) → SoundModule fs → length (module_text fs) < 2 ^ 32 → (s : Syntax) × IsSyntaxOf (module_text fs) s
built_syntax alloc fs sound short =
    let tokens = placed 0 (module_piece fs) in
    let parts = trees 0 (funcs_piece (map (λ (f : Func). f.name) fs) fs) in
    let few = token_count (module_text fs) tokens (module_tokens fs sound) in
    let same = length-map tokens terminal_of in
    let small = whole_small (module_tree fs sound) (omega (arith, few, short, same)) in
    let root : Branch = Branch' Whole 0 (shape alloc parts small.0) (row alloc parts small.1) in
    let s : Syntax = record { tokens = tokens; length = length (module_text fs); root = root } in
    (s, is_syntax fs s sound (record { tokens = refl; length_is = refl; tree = ap (λ (xs : Forest). node Whole 0 xs none) (row_back alloc parts small.1) }))
