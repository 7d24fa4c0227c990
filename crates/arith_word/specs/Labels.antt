-- Labels as numbers: the function, the item and the index that a label is made of.
use Rattle.std.specs.Prelude.{ℕ, ◌+◌, ◌*◌, ◌/◌, ◌%◌, ◌^◌}

-- how many items of a function, and how many indices of an item, labels tell apart
abbrev pub item_count : ℕ
item_count = 2 ^ 10

abbrev pub index_count : ℕ
index_count = 2 ^ 14

-- the label with that index in that item of that function
abbrev pub label_at : ℕ → ℕ → ℕ → ℕ
label_at func item index = func * 2 ^ 24 + item * 2 ^ 14 + index

abbrev pub func_of : ℕ → ℕ
func_of label = label / 2 ^ 24

abbrev pub item_of : ℕ → ℕ
item_of label = label / 2 ^ 14 % 2 ^ 10

abbrev pub index_of : ℕ → ℕ
index_of label = label % 2 ^ 14
