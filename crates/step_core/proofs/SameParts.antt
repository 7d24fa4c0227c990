-- One part has one cell, and one cell stands for one part.
use Rattle.std.proofs.Common.{◌≡◌, ◌⊎◌, ℕ, ◌/◌, ◌<◌, ◌≤◌, sym, ap, subst, ⊎_elim, inl, inr, arith}
use Rattle.step_core.specs.Maps.{Map, Has, IsMap}
use Rattle.step_core.specs.Parts.{Part, leaf, one, two, leaf_word, one_word, two_word, IsPartOf}
use Rattle.step_core.specs.Cells.{Stands, WordStands}
use Rattle.step_core.proofs.Standing.{over_tag}

not_leaf : (n tag i : ℕ) → n < 72057594037927936 → 4398046511104 ≤ tag → leaf_word n ≡ one_word tag i → ⊥
not_leaf n tag i l h e = omega arith

leaf_or_two : (n i j : ℕ) → n < 72057594037927936 → leaf_word n ≡ two_word i j → ⊥
leaf_or_two n i j l e = omega arith

one_or_two : (tag k i j : ℕ) → k < 1048576 → i < 1048576 → j < 1048576 → (tag / 2199023255552 ≡ 3 → ⊥) → one_word tag k ≡ two_word i j → ⊥
one_or_two tag k i j lk li lj ne e = ne (omega arith)

pub one_fields : (tag i sig j : ℕ) → i < 1048576 → j < 1048576 → one_word tag i ≡ one_word sig j → (tag ≡ sig) × (i ≡ j)
one_fields tag i sig j li lj e = (omega arith, omega arith)

pub two_fields : (i j k l : ℕ) → i < 1048576 → j < 1048576 → k < 1048576 → l < 1048576 → two_word i j ≡ two_word k l → (i ≡ k) × (j ≡ l)
two_fields i j k l li lj lk ll e = (omega arith, omega arith)

pub part_trans : (p q r : Part) → IsPartOf p q → IsPartOf q r → IsPartOf p r
part_trans p q (leaf n) a b = subst (λ (z : Part). IsPartOf p z) b a
part_trans p q (one tag r) a b = ⊎_elim (λ (e : q ≡ one tag r). subst (λ (z : Part). IsPartOf p z) e a) (λ (t : IsPartOf q r). inr (part_trans p q r a t)) b
part_trans p q (two r s) a b = ⊎_elim
    (λ (e : q ≡ two r s). subst (λ (z : Part). IsPartOf p z) e a)
    (λ (t : IsPartOf q r ⊎ IsPartOf q s). ⊎_elim (λ (u : IsPartOf q r). inr (inl (part_trans p q r a u))) (λ (u : IsPartOf q s). inr (inr (part_trans p q s a u))) t)
    b

module _ (cells : Map) where
  -- all parts of what stands, stand
  pub parts_stand : (p q : Part) (id : ℕ) → Stands cells id p → IsPartOf q p → (j : ℕ) × Stands cells j q
  parts_stand (leaf n) q id s o = (id, subst (λ (z : Part). Stands cells id z) (sym o) s)
  parts_stand (one tag a) q id s o = ⊎_elim (λ (e : q ≡ one tag a). (id, subst (λ (z : Part). Stands cells id z) (sym e) s)) (λ (t : IsPartOf q a). parts_stand a q s.0 s.4 t) o
  parts_stand (two a b) q id s o = ⊎_elim
      (λ (e : q ≡ two a b). (id, subst (λ (z : Part). Stands cells id z) (sym e) s))
      (λ (t : IsPartOf q a ⊎ IsPartOf q b). ⊎_elim (λ (u : IsPartOf q a). parts_stand a q s.0 s.7 u) (λ (u : IsPartOf q b). parts_stand b q s.1 s.8 u) t)
      o

  -- no two places have one word
  pub same_place : ((i j w : ℕ) → Has cells i w → Has cells j w → i ≡ j) → (x : Part) (i j : ℕ) → Stands cells i x → Stands cells j x → i ≡ j
  same_place once (leaf n) i j s t = once i j (leaf_word n) s.0 t.0
  same_place once (one tag a) i j s t =
      let l = same_place once a s.0 t.0 s.4 t.4 in
      once i j (one_word tag s.0) s.1 (subst (λ (z : ℕ). Has cells j (one_word tag z)) (sym l) t.1)
  same_place once (two a b) i j s t =
      let l = same_place once a s.0 t.0 s.7 t.7 in
      let r = same_place once b s.1 t.1 s.8 t.8 in
      once i j (two_word s.0 s.1) s.2 (subst (λ (z : ℕ × ℕ). Has cells j (two_word z.0 z.1)) (λ k. (sym l k, sym r k)) t.2)

  -- the word of a part is its cell's word
  pub word_of : ((i j w : ℕ) → Has cells i w → Has cells j w → i ≡ j) → (x : Part) (word j : ℕ) → WordStands cells word x → Stands cells j x → Has cells j word
  word_of once (leaf n) word j s t = subst (λ (z : ℕ). Has cells j z) (sym s.0) t.0
  word_of once (one tag a) word j s t =
      let l = same_place once a s.0 t.0 s.4 t.4 in
      subst (λ (z : ℕ). Has cells j z) (sym s.1) (subst (λ (z : ℕ). Has cells j (one_word tag z)) (sym l) t.1)
  word_of once (two a b) word j s t =
      let l = same_place once a s.0 t.0 s.7 t.7 in
      let r = same_place once b s.1 t.1 s.8 t.8 in
      subst (λ (z : ℕ). Has cells j z) (sym s.2) (subst (λ (z : ℕ × ℕ). Has cells j (two_word z.0 z.1)) (λ k. (sym l k, sym r k)) t.2)

  -- no place has two words
  pub same_part : IsMap cells → (x y : Part) (i : ℕ) → Stands cells i x → Stands cells i y → x ≡ y
  same_part only (leaf n) (leaf m) i s t = let e = only i (leaf_word n) (leaf_word m) s.0 t.0 in let z : n ≡ m = omega arith in ap leaf z
  same_part only (leaf n) (one tag a) i s t = absurd (not_leaf n tag t.0 s.1 (over_tag tag a t.3).0 (only i (leaf_word n) (one_word tag t.0) s.0 t.1))
  same_part only (leaf n) (two a b) i s t = absurd (leaf_or_two n t.0 t.1 s.1 (only i (leaf_word n) (two_word t.0 t.1) s.0 t.2))
  same_part only (one tag a) (leaf n) i s t = absurd (not_leaf n tag s.0 t.1 (over_tag tag a s.3).0 (only i (leaf_word n) (one_word tag s.0) t.0 s.1))
  same_part only (one tag a) (one sig b) i s t =
      let f = one_fields tag s.0 sig t.0 s.2 t.2 (only i (one_word tag s.0) (one_word sig t.0) s.1 t.1) in
      let p = same_part only a b s.0 s.4 (subst (λ (z : ℕ). Stands cells z b) (sym f.1) t.4) in
      λ k. one (f.0 k) (p k)
  same_part only (one tag a) (two b c) i s t = absurd (one_or_two tag s.0 t.0 t.1 s.2 t.3 t.4 (over_tag tag a s.3).1 (only i (one_word tag s.0) (two_word t.0 t.1) s.1 t.2))
  same_part only (two a b) (leaf n) i s t = absurd (leaf_or_two n s.0 s.1 t.1 (only i (leaf_word n) (two_word s.0 s.1) t.0 s.2))
  same_part only (two a b) (one tag c) i s t = absurd (one_or_two tag t.0 s.0 s.1 t.2 s.3 s.4 (over_tag tag c t.3).1 (only i (one_word tag t.0) (two_word s.0 s.1) t.1 s.2))
  same_part only (two a b) (two c d) i s t =
      let f = two_fields s.0 s.1 t.0 t.1 s.3 s.4 t.3 t.4 (only i (two_word s.0 s.1) (two_word t.0 t.1) s.2 t.2) in
      let p = same_part only a c s.0 s.7 (subst (λ (z : ℕ). Stands cells z c) (sym f.0) t.7) in
      let q = same_part only b d s.1 s.8 (subst (λ (z : ℕ). Stands cells z d) (sym f.1) t.8) in
      λ k. two (p k) (q k)
