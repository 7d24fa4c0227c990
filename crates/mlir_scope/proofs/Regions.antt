-- What is noted in a region and at its end, and the values that are in scope behind it.
use Rattle.std.proofs.Common.{◌≡◌, ℕ, ◌+◌, min, List, ◌++◌, length, take, Option, ap, ◌∙◌, arith, append_assoc}
use Rattle.mlir_ir.specs.Phrases.{Line}
use Rattle.mlir_ir.specs.ScopeFaults.{Break, block_breaks}
use Rattle.mlir_ir.specs.Source.{Block}
use Rattle.mlir_ir.specs.Values.{Value}
use Rattle.mlir_scope.specs.Noted.{noted}
use Rattle.mlir_scope.specs.declared.first.ScopeFault.{ScopeFault}
use Rattle.mlir_scope.proofs.Headers.{first_kept, loops_cut}
use Rattle.mlir_scope.proofs.Notes.{noted_two}

-- a region with its end, behind which the values before it are in scope
pub region_noted : (one two three : Option ScopeFault) (len : ℕ) (scope inside behind values : List Value) (block : List Break) (end : List Value → List Break)
    → two ≡ noted one block → inside ≡ scope ++ values → three ≡ noted two (end inside) → len ≡ length scope → behind ≡ take len inside
    → (three ≡ noted one (block ++ end (scope ++ values))) × (behind ≡ scope)
region_noted one two three len scope inside behind values block end f is g len_is cut = (
  noted_two one two three block (end (scope ++ values)) f (g ∙ ap (λ s. noted two (end s)) is),
  cut ∙ ap (take len) is ∙ first_kept len scope values len_is,
)

-- the same with values of a header before the region's own
pub header_noted : (one two three : Option ScopeFault) (len : ℕ) (scope header inside behind head values : List Value) (block : List Value → List Break) (end : List Value → List Break)
    → header ≡ scope ++ head → two ≡ noted one (block header) → inside ≡ header ++ values → three ≡ noted two (end inside) → len ≡ length scope → behind ≡ take len inside
    → (three ≡ noted one (block (scope ++ head) ++ end ((scope ++ head) ++ values))) × (behind ≡ scope)
header_noted one two three len scope header inside behind head values block end h f is g len_is cut =
    let all : inside ≡ (scope ++ head) ++ values = is ∙ ap (λ s. s ++ values) h in (
      noted_two one two three (block (scope ++ head)) (end ((scope ++ head) ++ values)) (f ∙ ap (λ s. noted one (block s)) h) (g ∙ ap (λ s. noted two (end s)) all),
      cut ∙ ap (take len) (all ∙ append_assoc scope head values) ∙ first_kept len scope (head ++ values) len_is,
    )

-- the breaks in a loop where one loop more is open
pub inner_loop : (funcs : List Line) (block : Block) (loops inner : ℕ) (scope : List Value) → inner ≡ min (loops + 1) 6 → block_breaks funcs block inner scope ≡ block_breaks funcs block (loops + 1) scope
inner_loop funcs block loops inner scope is =
    let cut : min inner 6 ≡ min (loops + 1) 6 = omega arith in
    loops_cut funcs block inner (loops + 1) cut scope
