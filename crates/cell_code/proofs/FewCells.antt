-- Expressions within the limits take few cells.
use Rattle.std.proofs.Common.{◌≡◌, ℕ, suc, ◌+◌, ◌-◌, ◌*◌, ◌<◌, ◌≤◌, ◌==◌, ◌⊎◌, inl, inr, false, refl, sym, ap, subst, ⊎_elim, arith, max, ne_eqb, if◌then◌else◌}
use Rattle.std.proofs.lemmas.Bool.{cases_eq, cases_lt, cond-false}
use Rattle.std.proofs.Math.Nat.{mul-le-mul_left}
use Rattle.scev_tree.specs.Polynomial.{Polynomial, Polynomials, num, ext, none, more, IsNonzero, EndsNonzero, IsCanonical, AreCanonical}
use Rattle.scev_tree.specs.Tree.{len}
use Rattle.scev_tree.specs.Measure.{monomials, monomials_in, is_zero, total_degree, total_degree_from}
use Rattle.step_core.specs.Parts.{tree_part}
use Rattle.step_core.proofs.Injective.{small_number, large_number}
use Rattle.cell_code.specs.Count.{cells_in, cells_in_places}
use Rattle.cell_code.proofs.CellCounts.{of_list}

number_cells : (v : ℕ) → cells_in (tree_part (num v)) ≤ 2
number_cells v = ⊎_elim
    (λ (lt : v < 72057594037927936). let e : cells_in (tree_part (num v)) ≡ 1 = ap cells_in (sym (small_number v lt)) in omega arith)
    (λ (ge : 72057594037927936 ≤ v). let e : cells_in (tree_part (num v)) ≡ 2 = ap cells_in (sym (large_number v ge)) in omega arith)
    (cases_lt v 72057594037927936)

-- a polynomial is the number 0, or it is not
zero_or : (p : Polynomial) → (p ≡ num 0) ⊎ (IsNonzero p × (is_zero p ≡ false))
zero_or (num v) = ⊎_elim
    (λ (e : v ≡ 0). inl (ap num e))
    (λ (ne : v ≡ 0 → ⊥). inr (⊎_elim (λ (lt : 0 < v). lt) (λ (le : v ≤ 0). absurd (ne (omega arith))) (cases_lt 0 v), ne_eqb v 0 ne))
    (cases_eq v 0)
zero_or (ext x ps) = inr (tt, refl)

both : (a b X : ℕ) → (a + b) * X ≡ a * X + b * X
both a b X = omega arith

spread : (n r j : ℕ) → n * (3 + 4 * r) + n * (4 * j) ≡ n * (3 + 4 * (j + r))
spread n r j = omega arith

at_least : (n j : ℕ) → 1 ≤ n → 4 * j ≤ n * (4 * j)
at_least n j le = let h = mul-le-mul_left {m = 1} {n = n} (4 * j) le in omega arith

of_first : (p : Polynomial) (rest j D : ℕ) → is_zero p ≡ false → max (if is_zero p then 0 else j + total_degree p) rest ≤ D → j + total_degree p ≤ D
of_first p rest j D e le = let a = cond-false {A = ℕ} (is_zero p) 0 (j + total_degree p) e in omega arith

of_rest : (n rest D : ℕ) → max n rest ≤ D → rest ≤ D
of_rest n rest D le = omega arith

zero_cells : (p : Polynomial) → p ≡ num 0 → (cells_in (tree_part p) ≡ 1) × (monomials p ≡ 0)
zero_cells p e = (ap (λ (q : Polynomial). cells_in (tree_part q)) e, ap monomials e)

nonzero : (p : Polynomial) → IsNonzero p → is_zero p ≡ false
nonzero (num v) n = ne_eqb v 0 (λ z. omega arith)
nonzero (ext x ps) n = refl

some_places : (ps : Polynomials) → EndsNonzero ps → 1 ≤ len ps
some_places none n = absurd n
some_places (more p ps) n = omega arith

mutual
  tree : (M : ℕ) (p : Polynomial) (D : ℕ) → IsCanonical M p → IsNonzero p → total_degree p ≤ D → (1 ≤ monomials p) × (cells_in (tree_part p) + 1 ≤ monomials p * (3 + 4 * D))
  tree M (num v) D c n d =
      let e : monomials (num v) ≡ 1 = cond-false {A = ℕ} (v == 0) 0 1 (ne_eqb v 0 (λ z. omega arith)) in
      let k = number_cells v in
      (omega arith, subst (λ (m : ℕ). cells_in (tree_part (num v)) + 1 ≤ m * (3 + 4 * D)) (sym e) (omega arith))
  tree M (ext x none) D c n d = absurd c
  tree M (ext x (more p ps)) D c n d =
      let r = places M ps x 1 D c.2 c.3 (of_rest (if is_zero p then 0 else 0 + total_degree p) (total_degree_from ps 1) D d) in
      let l = some_places ps c.3 in
      let w = of_list (more p ps) in
      let X : ℕ = 3 + 4 * D in
      let sum = both (monomials p) (monomials_in ps) X in
      let a = r.0 in
      let b = r.1 in (
        omega arith,
        ⊎_elim
            (λ (z : p ≡ num 0). let t = zero_cells p z in let t0 = t.0 in let t1 : monomials p * X ≡ 0 * X = ap (λ (m : ℕ). m * X) t.1 in omega arith)
            (λ (t : IsNonzero p × (is_zero p ≡ false)). let q = (tree M p D c.1 t.0 (let f = of_first p (total_degree_from ps 1) 0 D t.1 d in omega arith)).1 in omega arith)
            (zero_or p),
      )

  -- behind places of which the last has the index j - 1
  places : (M : ℕ) (ps : Polynomials) (x j D : ℕ) → AreCanonical M ps x → EndsNonzero ps → total_degree_from ps j ≤ D
      → (1 ≤ monomials_in ps) × (cells_in_places ps + 4 * j + 2 * len ps ≤ monomials_in ps * (3 + 4 * D) + 2)
  places M none x j D c n d = absurd n
  places M (more p none) x j D c n d =
      let z : is_zero p ≡ false = nonzero p n in
      let f = of_first p 0 j D z d in
      let r : ℕ = D - j in
      let t = tree M p r c.1 n (omega arith) in
      let m : ℕ = monomials p in
      let s = spread m r j in
      let h = at_least m j t.0 in
      let whole : j + r ≡ D = omega arith in
      let e : m * (3 + 4 * (j + r)) ≡ m * (3 + 4 * D) = ap (λ (k : ℕ). m * (3 + 4 * k)) whole in
      let a = t.0 in
      let b = t.1 in
      let alone : (m + 0) * (3 + 4 * D) ≡ m * (3 + 4 * D) = omega arith in
      (omega arith, omega arith)
  places M (more p (more q qs)) x j D c n d =
      let r = places M (more q qs) x (suc j) D c.2 n (of_rest (if is_zero p then 0 else j + total_degree p) (total_degree_from (more q qs) (suc j)) D d) in
      let X : ℕ = 3 + 4 * D in
      let sum = both (monomials p) (monomials_in (more q qs)) X in
      let a = r.0 in
      let b = r.1 in (
        omega arith,
        ⊎_elim
            (λ (z : p ≡ num 0). let t = zero_cells p z in let t0 = t.0 in let t1 : monomials p * X ≡ 0 * X = ap (λ (m : ℕ). m * X) t.1 in omega arith)
            (λ (t : IsNonzero p × (is_zero p ≡ false)). let q' = (tree M p D c.1 t.0 (let f = of_first p (total_degree_from (more q qs) (suc j)) j D t.1 d in omega arith)).1 in omega arith)
            (zero_or p),
      )

-- at most 64 monomials of a degree of at most 8
pub few : (M : ℕ) (p : Polynomial) → IsCanonical M p → monomials p ≤ 64 → total_degree p ≤ 8 → cells_in (tree_part p) ≤ 2239
few M p c m d = ⊎_elim
    (λ (z : p ≡ num 0). let t = (zero_cells p z).0 in omega arith)
    (λ (t : IsNonzero p × (is_zero p ≡ false)). let r = (tree M p 8 c t.0 d).1 in let b : monomials p * 35 ≤ 2240 = omega arith in omega arith)
    (zero_or p)
