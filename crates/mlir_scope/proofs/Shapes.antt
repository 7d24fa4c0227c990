-- The shapes of operations that the grammar gives.
use Rattle.std.proofs.Common.{◌≡◌, ℕ, ◌+◌, ◌<◌, Bool, true, false, List, [], ◌⊎◌, length}
use Rattle.mlir_ir.specs.Limits.{region_limit}
use Rattle.mlir_ir.specs.Phrases.{Phrase, Line, has, inside, lines, spots, first_spot}
use Rattle.mlir_ir.specs.Resolved.{flags_of, bin_named, cast_named, func_name}
use Rattle.mlir_ir.specs.Rules.{has_flags, may_wrap, may_lose}
use Rattle.mlir_ir.specs.Source.{Block, none, op, Defined, Packed, Use, Written, unsigned, block, uses_in, types_in, listed_uses, listed_types, params_in, inits_of, after_params, head, word, region_parts, else_parts, op_types}
use Rattle.mlir_ir.specs.declared.syntax.Form.TheVariants as forms
use Rattle.mlir_ir.specs.declared.terminal.Terminal.{Terminal}
use Rattle.mlir_ir.specs.declared.terminal.Terminal.TheVariants as terminals
use Rattle.mlir_scope.proofs.Deriving.{Named}
use Rattle.mlir_scope.proofs.NoBreaks.{Each}

-- a region without a yield has no operands of one
abbrev pub EndsWithYield : Phrase → Type 0
EndsWithYield parts = has terminals.Yield parts ≡ false → listed_uses (inside forms.Ends parts) ≡ []

-- so many uses, and written types
pub record Counts (uses types : ℕ) (kind : Phrase) : Type 0 where
  pub uses_are : length (uses_in kind) ≡ uses
  pub types_are : length (types_in kind) ≡ types

-- what the word of an operation says of its parts
abbrev pub KindShape : Terminal → Phrase → Type 0
KindShape terminals.Constant kind = length (op_types terminals.Constant kind) ≡ 1
KindShape terminals.Binary kind = Counts 2 1 kind × (has_flags (flags_of kind) ≡ false)
KindShape terminals.FlaggedBinary kind = Counts 2 1 kind × (may_wrap (bin_named (word kind).text) ≡ true)
KindShape terminals.Cast kind = Counts 1 2 kind × (has_flags (flags_of kind) ≡ false)
KindShape terminals.FlaggedCast kind = Counts 1 2 kind × (may_lose (cast_named (word kind).text) ≡ true)
KindShape terminals.Compare kind = Counts 2 1 kind
KindShape terminals.Select kind = Counts 3 1 kind
KindShape terminals.Call kind = Unit {0}
KindShape terminals.If kind = (length (uses_in kind) ≡ 1) × EndsWithYield (region_parts kind) × EndsWithYield (else_parts kind)
KindShape terminals.For kind = (length (uses_in kind) ≡ 3) × Named (unsigned (first_spot (spots terminals.Value kind)).text) × EndsWithYield (region_parts kind)
KindShape terminals.While kind = length (uses_in kind) ≡ 1
KindShape _ kind = ⊥

-- whether an operation of that name has regions
abbrev pub has_regions : Terminal → Bool
has_regions terminals.If = true
has_regions terminals.For = true
has_regions terminals.While = true
has_regions _ = false

-- an operation in k regions
pub record OpShape (k : ℕ) (packs : List Packed) (kind : Phrase) : Type 0 where
  pub does : KindShape (head kind) kind
  pub open_room : has_regions (head kind) ≡ true → k < region_limit
  pub packs_named : Each (λ (p : Packed). Named p.name) packs
  pub inits_named : Each (λ (p : Defined × Use). Named p.0.name) (inits_of kind)
  pub params_named : Each (λ (p : Defined × Written). Named p.0.name) (after_params kind)

-- the operations of a block in k regions, and those in their own regions
abbrev pub ShapedBlock : ℕ → Block → Type 0
ShapedBlock k none = Unit {0}
ShapedBlock k (op spot packs kind first second rest) =
    OpShape k packs kind × ShapedBlock (k + 1) first × ShapedBlock (k + 1) second × ShapedBlock k rest

abbrev pub ShapedBodies : List Line → Type 0
ShapedBodies bodies = Each (λ (body : Line). ShapedBlock 1 (block body.parts)) bodies

-- a function: only one without a body has types in place of arguments
pub record FuncShape (l : Line) : Type 0 where
  pub named : Named (func_name l)
  pub params_named : Each (λ (p : Defined × Written). Named p.0.name) (params_in (inside forms.Params l.parts))
  pub bodies : ShapedBodies (lines forms.Body l.parts)
  pub alone : (lines forms.Body l.parts ≡ []) ⊎ (listed_types l.parts ≡ [])
