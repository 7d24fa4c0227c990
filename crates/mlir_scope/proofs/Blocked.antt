-- Blocks of operations, by the first operation.
use Rattle.std.proofs.Common.{◌≡◌, ℕ, map, if◌then◌else◌, Bool, true, false, refl, ap, ◌∙◌, sym}
use Rattle.mlir_ir.specs.GrammarNumbers.{same_form}
use Rattle.mlir_ir.specs.Phrases.{Phrase, done, token, line, lines, inside}
use Rattle.mlir_ir.specs.Source.{Block, op, packed, block, region, region_behind, first_of, second_of}
use Rattle.mlir_ir.specs.declared.syntax.Form.{Form}
use Rattle.mlir_ir.specs.declared.syntax.Form.TheVariants.{Kind, Pack, Op, Region}

within : (b : Bool) (f : Phrase → Block) (x y : Phrase) (z : Block) → z ≡ f y → (if b then f x else z) ≡ f (if b then x else y)
within true f x y z h = refl
within false f x y z h = h

first_is : (p : Phrase) → first_of p ≡ region (inside Kind p)
first_is done = refl
first_is (token at c text rest) = first_is rest
first_is (line form at parts rest) = within (same_form Kind form) region parts (inside Kind rest) (first_of rest) (first_is rest)

second_is : (p : Phrase) → second_of p ≡ region_behind (inside Kind p)
second_is done = refl
second_is (token at c text rest) = second_is rest
second_is (line form at parts rest) = within (same_form Kind form) region_behind parts (inside Kind rest) (second_of rest) (second_is rest)

-- an operation by its kind
kind_is : (at : ℕ) (parts kind : Phrase) (rest : Block) → kind ≡ inside Kind parts
    → op at (map packed (lines Pack parts)) (inside Kind parts) (first_of parts) (second_of parts) rest ≡ op at (map packed (lines Pack parts)) kind (region kind) (region_behind kind) rest
kind_is at parts kind rest is =
    ap (λ b. op at (map packed (lines Pack parts)) (inside Kind parts) b (second_of parts) rest) (first_is parts)
    ∙ ap (λ b. op at (map packed (lines Pack parts)) (inside Kind parts) (region (inside Kind parts)) b rest) (second_is parts)
    ∙ ap (λ k. op at (map packed (lines Pack parts)) k (region k) (region_behind k) rest) (sym is)

pub block_op : (p parts kind rest : Phrase) (form : Form) (at : ℕ) → p ≡ line form at parts rest → same_form Op form ≡ true → kind ≡ inside Kind parts
    → block p ≡ op at (map packed (lines Pack parts)) kind (region kind) (region_behind kind) (block rest)
block_op p parts kind rest form at is this here =
    ap block is
    ∙ ap (λ b. if b then op at (map packed (lines Pack parts)) (inside Kind parts) (first_of parts) (second_of parts) (block rest) else block rest) this
    ∙ kind_is at parts kind (block rest) here

pub region_op : (p parts kind rest : Phrase) (form : Form) (at : ℕ) → p ≡ line form at parts rest → same_form Region form ≡ false → same_form Op form ≡ true → kind ≡ inside Kind parts
    → region p ≡ op at (map packed (lines Pack parts)) kind (region kind) (region_behind kind) (region rest)
region_op p parts kind rest form at is other this here =
    ap region is
    ∙ ap (λ a. if a then block parts else (if same_form Op form then op at (map packed (lines Pack parts)) (inside Kind parts) (first_of parts) (second_of parts) (region rest) else region rest)) other
    ∙ ap (λ b. if b then op at (map packed (lines Pack parts)) (inside Kind parts) (first_of parts) (second_of parts) (region rest) else region rest) this
    ∙ kind_is at parts kind (region rest) here
