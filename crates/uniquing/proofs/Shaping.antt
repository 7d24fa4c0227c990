-- The words of the parts of expressions.
use Rattle.std.proofs.Common.{◌≡◌, ℕ, ◌-◌, ◌/◌, ◌%◌, ◌^◌, ◌<◌, ◌≤◌, List, [], ◌∷◌, length, length-drop, get_or, take, drop, Bool, true, false, refl, sym, ap, ◌∙◌, subst, inl, inr, ⊎_elim, arith, Result, Ok, Err, IsErr, OnOk}
use Rattle.std.proofs.lemmas.Bool.{cases_lt}
use Rattle.std.proofs.lemmas.List.{length-take}
use Rattle.cell_code.specs.Forms.{bit_of}
use Rattle.scev_tree.specs.declared.tree.Tree.{Tree}
use Rattle.scev_tree.specs.Polynomial.{Polynomial, Polynomials, ext as nested, none, more, variable_of, Under, IsCanonical}
use Rattle.scev_tree.specs.Tree.{polynomial_of, polynomials, len}
use Rattle.scev_tree.proofs.ListedTrees.{polynomials_cons, len_is}
use Rattle.step_core.specs.declared.view.View.{View}
use Rattle.step_core.specs.Maps.{Map}
use Rattle.step_core.specs.Meaning.{Meaning}
use Rattle.step_core.specs.Parts.{Part, leaf, one, two, large_tag, last_tag, ext_tag, leaf_word, one_word, two_word, root_tag, IsTree, IsPlaces, number_part, variable_tag, tree_part, places_part, place_part}
use Rattle.step_core.specs.Cells.{IsOver, large, ext, root, Stands, WordStands}
use Rattle.step_core.proofs.Injective.{small_number, large_number}
use Rattle.shared_table.specs.declared.sizes.Sizes.{Sizes}
use Rattle.uniquing.specs.declared.interning.CellsFull.{CellsFull}
use Rattle.uniquing.specs.Interned.{Interned}
use Rattle.uniquing.proofs.Filling.{itself_part}
use Rattle.uniquing.proofs.Joining.{joined, failed, handed}

pub number_kind : (n : ℕ) → n < 18446744073709551616 → IsTree (number_part n)
number_kind n b = ⊎_elim
    (λ (lt : n < 72057594037927936). subst IsTree (small_number n lt) (inl refl))
    (λ (le : 72057594037927936 ≤ n). let f : large_tag (n / 4294967296) / 2199023255552 ≡ 2 = omega arith in subst IsTree (large_number n le) (inr (inl f)))
    (cases_lt n 72057594037927936)

pub large_over : (n : ℕ) → n < 18446744073709551616 → 72057594037927936 ≤ n → IsOver (large_tag (n / 4294967296)) (leaf (n % 4294967296))
large_over n b le = large (n / 4294967296) (n % 4294967296) refl (omega arith) (omega arith) refl (omega arith)

pub variable_below : (c : Bool) (l : ℕ) → l < 4294967296 → variable_of c l < 8589934592
variable_below true l b = omega arith
variable_below false l b = omega arith

-- the tag of a variable by its label
pub tag_is : (c : Bool) (l : ℕ) → ext_tag l (bit_of c) ≡ variable_tag (variable_of c l)
tag_is true l = omega arith
tag_is false l = omega arith

pub ext_over : (c : Bool) (l : ℕ) (a : Part) → l < 4294967296 → IsPlaces a → IsOver (ext_tag l (bit_of c)) a
ext_over true l a b k = ext l 1 refl b (omega arith) k
ext_over false l a b k = ext l 0 refl b (omega arith) k

pub ext_kind : (c : Bool) (l : ℕ) (a : Part) → l < 4294967296 → IsTree (one (ext_tag l (bit_of c)) a)
ext_kind true l a b = let f : ext_tag l 1 / 2199023255552 ≡ 5 = omega arith in inr (inr f)
ext_kind false l a b = let f : ext_tag l 0 / 2199023255552 ≡ 5 = omega arith in inr (inr f)

pub place_kind : (a : Part) (ps : Polynomials) → IsPlaces (place_part a ps)
place_kind a none = inr refl
place_kind a (more q qs) = inl refl

pub places_kind : (ts : List Tree) → 1 ≤ length ts → IsPlaces (places_part (polynomials ts))
places_kind [] h = absurd (omega arith)
places_kind (t ∷ ts) h = place_kind (tree_part (polynomial_of t)) (polynomials ts)

pub one_stands : (cells : Map) (tag i : ℕ) (a : Part) → IsOver tag a → i < 1048576 → Stands cells i a → WordStands cells (one_word tag i) (one tag a)
one_stands cells tag i a o lt s = (i, refl, lt, o, s)

pub two_stands : (cells : Map) (i j : ℕ) (a b : Part) → IsTree a → IsPlaces b → i < 1048576 → Stands cells i a → j < 1048576 → Stands cells j b → WordStands cells (two_word i j) (two a b)
two_stands cells i j a b k l x s y t = (i, j, refl, x, y, k, l, s, t)

module _ (m : Meaning) (z : Sizes) where
  pub as_is : (u w : View) (a whole : Part) (r : Result ℕ CellsFull) → a ≡ whole → Interned m z u a r w → Interned m z u whole r w
  as_is u w a whole r e x = subst (λ (p : Part). Interned m z u p r w) e x

  -- a word with one id
  pub over : (u v w : View) (tag i : ℕ) (a whole : Part) (r : Result ℕ CellsFull) → one tag a ≡ whole → Interned m z u a (Ok i) v → Interned m z v (one tag a) r w → Interned m z u whole r w
  over u v w tag i a whole r e x y = as_is u w (one tag a) whole r e (joined m z u v w a (one tag a) i r (inr (itself_part a)) (inl refl) x y)

  pub over_failed : (u v : View) (tag : ℕ) (a whole : Part) (f : CellsFull) (r : Result ℕ CellsFull) → one tag a ≡ whole → IsErr r → Interned m z u a (Err f) v → Interned m z u whole r v
  over_failed u v tag a whole f r e is x = handed m z u v whole f r is (as_is u v (one tag a) whole (Err f) e (failed m z u v a (one tag a) f (inr (itself_part a)) x))

  -- a word with two ids
  pub both : (u v w x : View) (a b whole : Part) (i j : ℕ) (r : Result ℕ CellsFull) → two a b ≡ whole → Interned m z u a (Ok i) v → Interned m z v b (Ok j) w → Interned m z w (two a b) r x → Interned m z u whole r x
  both u v w x a b whole i j r e p q s = as_is u x (two a b) whole r e (joined m z u v x a (two a b) i r (inr (inl (itself_part a))) (inl refl) p (joined m z v w x b (two a b) j r (inr (inr (itself_part b))) (inl refl) q s))

  pub first_failed : (u v : View) (a b whole : Part) (f : CellsFull) (r : Result ℕ CellsFull) → two a b ≡ whole → IsErr r → Interned m z u a (Err f) v → Interned m z u whole r v
  first_failed u v a b whole f r e is p = handed m z u v whole f r is (as_is u v (two a b) whole (Err f) e (failed m z u v a (two a b) f (inr (inl (itself_part a))) p))

  pub second_failed : (u v w : View) (a b whole : Part) (i : ℕ) (f : CellsFull) (r : Result ℕ CellsFull) → two a b ≡ whole → IsErr r → Interned m z u a (Ok i) v → Interned m z v b (Err f) w → Interned m z u whole r w
  second_failed u v w a b whole i f r e is p q = handed m z u w whole f r is (as_is u w (two a b) whole (Err f) e (joined m z u v w a (two a b) i (Err f) (inr (inl (itself_part a))) (inl refl) p (failed m z v w b (two a b) f (inr (inr (itself_part b))) q)))

-- the word of a number
pub small_stands : (cells : Map) (n : ℕ) → n < 72057594037927936 → WordStands cells (leaf_word n) (leaf n)
small_stands cells n lt = (refl, lt)

-- ---- lists

pub one_place : (ts : List Tree) (t : Tree) → 1 ≤ length ts → length ts < 2 → t ≡ get_or ts 0 t → one last_tag (tree_part (polynomial_of t)) ≡ places_part (polynomials ts)
one_place [] t h l e = absurd (omega arith)
one_place (u ∷ []) t h l e = ap (λ (x : Tree). one last_tag (tree_part (polynomial_of x))) e
one_place (u ∷ v ∷ ts) t h l e = absurd (omega arith)

two_places : (p : Polynomial) (ps : Polynomials) → 1 ≤ len ps → two (tree_part p) (places_part ps) ≡ places_part (more p ps)
two_places p none h = absurd (omega arith)
two_places p (more q qs) h = refl

-- the places behind the first
abbrev pub behind : List Tree → List Tree
behind ts = take (length ts - 1) (drop 1 ts)

pub more_places : (ts : List Tree) (t : Tree) → 2 ≤ length ts → t ≡ get_or ts 0 t → two (tree_part (polynomial_of t)) (places_part (polynomials (behind ts))) ≡ places_part (polynomials ts)
more_places ts t h e =
    let l : length (behind ts) ≡ length ts - 1 = omega (arith, length-take {A = Tree}, length-drop 1 ts) in
    let n : 1 ≤ len (polynomials (behind ts)) = omega (arith, len_is (behind ts)) in
    two_places (polynomial_of t) (polynomials (behind ts)) n ∙ ap places_part (sym (polynomials_cons ts t (omega arith) e))

pub some_places : (M x : ℕ) (ts : List Tree) → IsCanonical M (nested x (polynomials ts)) → 1 ≤ length ts
some_places M x [] c = absurd c
some_places M x (t ∷ ts) c = omega arith

-- a polynomial in a variable
pub nested_part : (c : Bool) (l : ℕ) (ps : Polynomials) (p : Polynomial) → p ≡ nested (variable_of c l) ps → one (ext_tag l (bit_of c)) (places_part ps) ≡ tree_part p
nested_part c l ps p is = ap (λ (t : ℕ). one t (places_part ps)) (tag_is c l) ∙ ap tree_part (sym is)

-- an expression
pub root_over : (w : ℕ) (p : Polynomial) → 1 ≤ w → w ≤ 64 → IsCanonical (2 ^ w) p → Under p 8589934592 → IsOver (root_tag w) (tree_part p)
root_over w p least most c u = root w refl least most (record { tree = p; is = refl; canonical = c; labels = u })

pub on_ok : {A E : Type 0} (r : Result A E) (P : Type 0) → P → OnOk r P
on_ok (Ok a) P h = h
on_ok (Err e) P h = tt
