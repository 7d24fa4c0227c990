-- The forms of cells and their words.
use Rattle.std.specs.Prelude.{◌≡◌, ℕ, ◌^◌, ◌<◌, ◌≤◌, if◌then◌else◌, Bool}
use Rattle.cell_code.specs.declared.form.CellForm.{CellForm}
use Rattle.cell_code.specs.declared.form.CellForm.TheVariants.{Small, Large, More, Last, Ext, Root}
use Rattle.step_core.specs.Parts.{leaf_word, one_word, two_word, large_tag, last_tag, ext_tag, root_tag}

abbrev pub bit_of : Bool → ℕ
bit_of b = if b then 1 else 0

abbrev pub word_of : CellForm → ℕ
word_of (Small n) = leaf_word n
word_of (Large low high) = one_word (large_tag high) low
word_of (More head rest) = two_word head rest
word_of (Last head) = one_word last_tag head
word_of (Ext list var counter) = one_word (ext_tag var.0 (bit_of counter)) list
word_of (Root width tree) = one_word (root_tag width) tree

-- each field has the bits that the word has for it
abbrev pub IsWithinBits : CellForm → Type 0
IsWithinBits (Small n) = n < 2 ^ 56
IsWithinBits (Large low high) = (low < 2 ^ 20) × (high < 2 ^ 32)
IsWithinBits (More head rest) = (head < 2 ^ 20) × (rest < 2 ^ 20)
IsWithinBits (Last head) = head < 2 ^ 20
IsWithinBits (Ext list var counter) = (list < 2 ^ 20) × (var.0 < 2 ^ 32)
IsWithinBits (Root width tree) = (1 ≤ width) × (width ≤ 64) × (tree < 2 ^ 20)

-- the word is that of the form
pub record HasForm (word : ℕ) (p : CellForm) : Type 0 where
  pub within : IsWithinBits p
  pub is : word ≡ word_of p
