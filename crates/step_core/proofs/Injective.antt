-- Equal parts are of equal expressions.
use Rattle.std.proofs.Common.{◌≡◌, ℕ, ◌/◌, ◌%◌, ◌^◌, ◌<◌, ◌≤◌, refl, sym, ap, ◌∙◌, ⊎_elim, arith}
use Rattle.std.proofs.lemmas.Bool.{cases_lt, cond_below, cond_above}
use Rattle.std.proofs.Math.Pow.{pow_mono}
use Rattle.scev_tree.specs.Polynomial.{Polynomial, Polynomials, num, ext, none, more, Under, IsCanonical, AreCanonical}
use Rattle.step_core.specs.Parts.{Part, leaf, one, two, large_tag, last_tag, root_tag, number_part, variable_tag, tree_part, places_part, expression_part}

-- numbers of 64 bits, variables with labels of 32 bits, and no empty list of places
abbrev mutual
  pub IsEncodable : Polynomial → Type 0
  IsEncodable (num v) = v < 18446744073709551616
  IsEncodable (ext x ps) = (x < 8589934592) × AreEncodable ps

  pub AreEncodable : Polynomials → Type 0
  AreEncodable none = ⊥
  AreEncodable (more p none) = IsEncodable p
  AreEncodable (more p (more q qs)) = IsEncodable p × AreEncodable (more q qs)

abbrev IsSome : Polynomials → Type 0
IsSome none = ⊥
IsSome (more p ps) = Unit {0}

below : (p : Polynomial) (x y : ℕ) → Under p x → x ≤ y → Under p y
below (num v) x y u le = tt
below (ext z ps) x y u le = omega arith

mutual
  pub encodable : (M : ℕ) (p : Polynomial) → M ≤ 18446744073709551616 → IsCanonical M p → Under p 8589934592 → IsEncodable p
  encodable M (num v) le c u = omega arith
  encodable M (ext x none) le c u = absurd c
  encodable M (ext x (more p none)) le c u = absurd c.3
  encodable M (ext x (more p (more q qs))) le c u = (u, (encodable M p le c.1 (below p x 8589934592 c.0 (omega arith)), encodables M (more q qs) x le c.2 (omega arith) tt))

  encodables : (M : ℕ) (qs : Polynomials) (x : ℕ) → M ≤ 18446744073709551616 → AreCanonical M qs x → x ≤ 8589934592 → IsSome qs → AreEncodable qs
  encodables M none x le c lt some = absurd some
  encodables M (more q none) x le c lt some = encodable M q le c.1 (below q x 8589934592 c.0 lt)
  encodables M (more q (more r rs)) x le c lt some = (encodable M q le c.1 (below q x 8589934592 c.0 lt), encodables M (more r rs) x le c.2 lt tt)

-- ---- numbers

pub small_number : (n : ℕ) → n < 72057594037927936 → leaf n ≡ number_part n
small_number n lt = cond_below n 72057594037927936 (leaf n) (one (large_tag (n / 4294967296)) (leaf (n % 4294967296))) lt

pub large_number : (n : ℕ) → 72057594037927936 ≤ n → one (large_tag (n / 4294967296)) (leaf (n % 4294967296)) ≡ number_part n
large_number n le = cond_above n 72057594037927936 (leaf n) (one (large_tag (n / 4294967296)) (leaf (n % 4294967296))) (one (large_tag (n / 4294967296)) (leaf (n % 4294967296))) le refl

-- ---- a part, by its children

leaf_is : (n m : ℕ) → leaf n ≡ leaf m → n ≡ m
leaf_is n m e = cc

one_is : (t s : ℕ) (a b : Part) → one t a ≡ one s b → (t ≡ s) × (a ≡ b)
one_is t s a b e = (cc, cc)

two_is : (a b c d : Part) → two a b ≡ two c d → (a ≡ c) × (b ≡ d)
two_is a b c d e = (cc, cc)

leaf_one : (n t : ℕ) (a : Part) → leaf n ≡ one t a → ⊥
leaf_one n t a e = cc

one_two : (t : ℕ) (a b c : Part) → one t a ≡ two b c → ⊥
one_two t a b c e = cc

numbers : (v u : ℕ) → number_part v ≡ number_part u → v ≡ u
numbers v u e = ⊎_elim
    (λ (lv : v < 72057594037927936). ⊎_elim
    (λ (lu : u < 72057594037927936). leaf_is v u (small_number v lv ∙ (e ∙ sym (small_number u lu))))
    (λ (gu : 72057594037927936 ≤ u). absurd (leaf_one v _ _ (small_number v lv ∙ (e ∙ sym (large_number u gu)))))
    (cases_lt u 72057594037927936))
    (λ (gv : 72057594037927936 ≤ v). ⊎_elim
    (λ (lu : u < 72057594037927936). absurd (leaf_one u _ _ (small_number u lu ∙ (sym e ∙ sym (large_number v gv)))))
    (λ (gu : 72057594037927936 ≤ u).
    let f = one_is _ _ _ _ (large_number v gv ∙ (e ∙ sym (large_number u gu))) in
    let l = leaf_is _ _ f.1 in
    let h = f.0 in
    omega arith)
    (cases_lt u 72057594037927936))
    (cases_lt v 72057594037927936)

number_or_nested : (v x : ℕ) (a : Part) → v < 18446744073709551616 → number_part v ≡ one (variable_tag x) a → ⊥
number_or_nested v x a b e = ⊎_elim
    (λ (lv : v < 72057594037927936). leaf_one v _ _ (small_number v lv ∙ e))
    (λ (gv : 72057594037927936 ≤ v). let f = (one_is _ _ _ _ (large_number v gv ∙ e)).0 in omega arith)
    (cases_lt v 72057594037927936)

variables : (x y : ℕ) → x < 8589934592 → y < 8589934592 → variable_tag x ≡ variable_tag y → x ≡ y
variables x y bx by e = omega arith

mutual
  pub trees : (p q : Polynomial) → IsEncodable p → IsEncodable q → tree_part p ≡ tree_part q → p ≡ q
  trees (num v) (num u) a b e = ap num (numbers v u e)
  trees (num v) (ext x ps) a b e = absurd (number_or_nested v x (places_part ps) a e)
  trees (ext x ps) (num v) a b e = absurd (number_or_nested v x (places_part ps) b (sym e))
  trees (ext x ps) (ext y qs) a b e =
      let f = one_is (variable_tag x) (variable_tag y) (places_part ps) (places_part qs) e in
      let v = variables x y a.0 b.0 f.0 in
      let r = lists ps qs a.1 b.1 f.1 in
      λ i. ext (v i) (r i)

  pub lists : (ps qs : Polynomials) → AreEncodable ps → AreEncodable qs → places_part ps ≡ places_part qs → ps ≡ qs
  lists none qs a b e = absurd a
  lists (more p ps) none a b e = absurd b
  lists (more p none) (more q none) a b e = let r = trees p q a b (one_is last_tag last_tag (tree_part p) (tree_part q) e).1 in λ i. more (r i) none
  lists (more p none) (more q (more s ss)) a b e = absurd (one_two last_tag (tree_part p) (tree_part q) (places_part (more s ss)) e)
  lists (more p (more r rs)) (more q none) a b e = absurd (one_two last_tag (tree_part q) (tree_part p) (places_part (more r rs)) (sym e))
  lists (more p (more r rs)) (more q (more s ss)) a b e =
      let f = two_is (tree_part p) (places_part (more r rs)) (tree_part q) (places_part (more s ss)) e in
      let h = trees p q a.0 b.0 f.0 in
      let t = lists (more r rs) (more s ss) a.1 b.1 f.1 in
      λ i. more (h i) (t i)

root_is : (w x : ℕ) → root_tag w ≡ root_tag x → w ≡ x
root_is w x e = omega arith

pub expressions : (w x : ℕ) (p q : Polynomial) → w ≤ 64 → x ≤ 64 → IsCanonical (2 ^ w) p → IsCanonical (2 ^ x) q → Under p 8589934592 → Under q 8589934592 → expression_part w p ≡ expression_part x q → (w ≡ x) × (p ≡ q)
expressions w x p q lw lx cp cq up uq e =
    let f = one_is (root_tag w) (root_tag x) (tree_part p) (tree_part q) e in
    let bw : 2 ^ w ≤ 18446744073709551616 = pow_mono {i = w} {j = 64} lw in
    let bx : 2 ^ x ≤ 18446744073709551616 = pow_mono {i = x} {j = 64} lx in
    (root_is w x f.0, trees p q (encodable (2 ^ w) p bw cp up) (encodable (2 ^ x) q bx cq uq) f.1)
