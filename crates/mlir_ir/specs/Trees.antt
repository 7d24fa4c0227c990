-- Parse trees, and the tokens that they derive.
use Rattle.std.specs.Prelude.{ℕ, ◌≡◌, ◌+◌, ◌<◌, List, [], ◌∷◌, Some, slice_get, length}
use Rattle.mlir_ir.specs.Grammar.{Pattern, nothing, one, line, both, either, many, region, body}
use Rattle.mlir_ir.specs.Limits.{region_limit}
use Rattle.mlir_ir.specs.declared.terminal.Terminal.{Terminal}
use Rattle.mlir_ir.specs.declared.terminal.Terminal.TheVariants.{LeftBrace, RightBrace}
use Rattle.mlir_ir.specs.declared.syntax.Form.{Form}
use Rattle.mlir_ir.specs.declared.syntax.Form.TheVariants.{Leaf, Whole}
use Rattle.mlir_ir.specs.declared.syntax.Branch.{Branch, Branch', Row_of-Branch, end_of-Branch, more_of-Branch}

-- a list of sibling nodes: the first node's form, the index of its first token, its children, and its later siblings
pub data Forest : Type 0 where
  none : Forest
  node : Form → ℕ → Forest → Forest → Forest

-- the siblings of the first list, then those of the second
abbrev pub join : Forest → Forest → Forest
join none ys = ys
join (node form at parts xs) ys = node form at parts (join xs ys)

-- a branch of the program as a node, with later siblings
abbrev mutual
  pub put : Branch → Forest → Forest
  put (Branch' form at shape row) rest = node form at (row_forest row) rest

  pub row_forest : {m : _} → Row_of-Branch m → Forest
  row_forest end_of-Branch = none
  row_forest (more_of-Branch branch row) = put branch (row_forest row)

-- branches of the program as sibling nodes
abbrev pub forest : List Branch → Forest
forest [] = none
forest (branch ∷ branches) = put branch (forest branches)

-- inside `n` regions, the siblings derive the tokens from index `at` up to index `next` by the pattern
pub data Derives (ts : List Terminal) : ℕ → Pattern → ℕ → Forest → ℕ → Type 0 where
  derive_nothing : {n at : ℕ} → Derives ts n nothing at none at
  derive_one : {n at next : ℕ} {c : Terminal} → slice_get ts at ≡ Some c → next ≡ at + 1 → Derives ts n (one c) at (node Leaf at none none) next
  derive_line : {n at next : ℕ} {f : Form} {parts : Forest} → Derives ts n (body f) at parts next → Derives ts n (line f) at (node f at parts none) next
  derive_both : {n at mid next : ℕ} {a b : Pattern} {xs ys zs : Forest} → Derives ts n a at xs mid → Derives ts n b mid ys next → zs ≡ join xs ys → Derives ts n (both a b) at zs next
  derive_left : {n at next : ℕ} {a b : Pattern} {xs : Forest} → Derives ts n a at xs next → Derives ts n (either a b) at xs next
  derive_right : {n at next : ℕ} {a b : Pattern} {xs : Forest} → Derives ts n b at xs next → Derives ts n (either a b) at xs next
  derive_again : {n at mid next : ℕ} {a : Pattern} {xs ys zs : Forest} → Derives ts n a at xs mid → Derives ts n (many a) mid ys next → zs ≡ join xs ys → Derives ts n (many a) at zs next
  derive_enough : {n at : ℕ} {a : Pattern} → Derives ts n (many a) at none at
  derive_region : {n at next : ℕ} {a : Pattern} {xs : Forest} → n < region_limit → Derives ts (n + 1) (both (one LeftBrace) (both a (one RightBrace))) at xs next → Derives ts n (region a) at xs next

-- the tree derives all the tokens, with no more open regions than the limit
abbrev pub IsTreeOf : List Terminal → Forest → Type 0
IsTreeOf ts xs = Derives ts 0 (line Whole) 0 xs (length ts)
