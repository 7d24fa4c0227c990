-- What cells stand for: numbers, trees, lists of trees and expressions, by the shape of their words.
use Rattle.std.specs.Prelude.{◌≡◌, ℕ, ◌+◌, ◌-◌, ◌*◌, ◌/◌, ◌%◌, ◌^◌, ◌⊎◌, suc, max, if◌then◌else◌, nat_lt}
use Rattle.scev_tree.specs.Polynomial.{Polynomial, Polynomials, num, ext, none, more, Under, IsCanonical}

-- A part by the shape of its word: a number below 2 ^ 56; a word with the id of one part, where the
-- tag has all other fields; a word with the ids of two parts.
pub data Part : Type 0 where
  leaf : ℕ → Part
  one : ℕ → Part → Part
  two : Part → Part → Part

-- The words. Bits 61 to 63 are the number of the form, and an id takes 20 bits. The tag is the word
-- without its id.
abbrev pub leaf_word : ℕ → ℕ
leaf_word n = 2 ^ 61 + n

abbrev pub one_word : ℕ → ℕ → ℕ
one_word tag id = tag * 2 ^ 20 + id

abbrev pub two_word : ℕ → ℕ → ℕ
two_word head rest = 3 * 2 ^ 61 + (rest * 2 ^ 20 + head)

-- The tags: of a number of 2 ^ 56 or more, over its low half; of the last place of a list, over its
-- tree; of a polynomial in a variable, over the list of its places; of an expression, over its tree
abbrev pub large_tag : ℕ → ℕ
large_tag high = 2 * 2 ^ 41 + high

abbrev pub last_tag : ℕ
last_tag = 4 * 2 ^ 41

abbrev pub ext_tag : ℕ → ℕ → ℕ
ext_tag label counter = 5 * 2 ^ 41 + (counter * 2 ^ 32 + label)

abbrev pub root_tag : ℕ → ℕ
root_tag width = 6 * 2 ^ 41 + width

-- the number of the form
abbrev pub form_of : Part → ℕ
form_of (leaf n) = 1
form_of (one tag a) = tag / 2 ^ 41
form_of (two a b) = 3

abbrev pub IsTree : Part → Type 0
IsTree a = (form_of a ≡ 1) ⊎ ((form_of a ≡ 2) ⊎ (form_of a ≡ 5))

abbrev pub IsPlaces : Part → Type 0
IsPlaces a = (form_of a ≡ 3) ⊎ (form_of a ≡ 4)

-- a number; the tree that is this number is the same part
abbrev pub number_part : ℕ → Part
number_part n = if nat_lt n (2 ^ 56) then leaf n else one (large_tag (n / 2 ^ 32)) (leaf (n % 2 ^ 32))

-- the variable x has the label x / 2, and is a counter where x is even
abbrev pub variable_tag : ℕ → ℕ
variable_tag x = ext_tag (x / 2) (1 - x % 2)

abbrev mutual
  pub tree_part : Polynomial → Part
  tree_part (num v) = number_part v
  tree_part (ext x ps) = one (variable_tag x) (places_part ps)

  -- of at least one place
  pub places_part : Polynomials → Part
  places_part none = leaf 0
  places_part (more p ps) = place_part (tree_part p) ps

  pub place_part : Part → Polynomials → Part
  place_part a none = one last_tag a
  place_part a (more q qs) = two a (place_part (tree_part q) qs)

abbrev pub expression_part : ℕ → Polynomial → Part
expression_part width p = one (root_tag width) (tree_part p)

-- the part is the canonical tree of an expression of the width, in variables with labels of 32 bits
pub record IsWhole (width : ℕ) (a : Part) : Type 0 where
  pub tree : Polynomial
  pub is : a ≡ tree_part tree
  pub canonical : IsCanonical (2 ^ width) tree
  pub labels : Under tree (2 ^ 33)

-- all parts that the encoding of a part needs, itself included
abbrev pub IsPartOf : Part → Part → Type 0
IsPartOf q (leaf n) = q ≡ leaf n
IsPartOf q (one tag a) = (q ≡ one tag a) ⊎ IsPartOf q a
IsPartOf q (two a b) = (q ≡ two a b) ⊎ (IsPartOf q a ⊎ IsPartOf q b)

-- how many cells stand above one another
abbrev pub height : Part → ℕ
height (leaf n) = 1
height (one tag a) = suc (height a)
height (two a b) = suc (max (height a) (height b))
