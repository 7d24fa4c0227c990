-- how large a polynomial is
use Rattle.std.proofs.Common.{ℕ, suc, ◌+◌, ◌≤◌, arith, max, if◌then◌else◌}
use Rattle.std.proofs.lemmas.Bool.{ne_eqb}
use Rattle.scev_tree.specs.Polynomial.{Polynomial, Polynomials, num, ext, none, more, IsCanonical, AreCanonical, EndsNonzero, IsNonzero}
use Rattle.chrec_algebra.specs.Product.{Narrow, NarrowAll}
use Rattle.scev_tree.specs.Tree.{len}
use Rattle.scev_tree.specs.Measure.{total_degree, total_degree_from, is_zero}

some_place : (p : Polynomial) → IsNonzero p → (j d : ℕ) → max (if is_zero p then 0 else j + total_degree p) d ≤ 8 → (j ≤ 8)
some_place (num v) nz j d h = let e = ne_eqb v 0 (λ z. omega arith) in (let h' = rw e at h in omega arith)
some_place (ext x ps) nz j d h = omega arith

count : (ps : Polynomials) (j : ℕ) → EndsNonzero ps → total_degree_from ps j ≤ 8 → j + len ps ≤ 9
count none j e h = absurd e
count (more p none) j e h = let s = some_place p e j 0 h in omega arith
count (more p (more q ps)) j e h = let r = count (more q ps) (suc j) e (omega arith) in omega arith

place_count : (p : Polynomial) (ps : Polynomials) → EndsNonzero ps → total_degree_from (more p ps) 0 ≤ 8 → len ps + 1 ≤ 9
place_count p ps e h = let r = count ps 1 e (omega arith) in omega arith

mutual
  pub narrow_from : (M : ℕ) (p : Polynomial) (j : ℕ) → IsCanonical M p → total_degree p ≤ 8 → Narrow p
  narrow_from M (num v) j c h = tt
  narrow_from M (ext x none) j c h = absurd c
  narrow_from M (ext x (more p ps)) j c h = (place_count p ps c.3 h, narrow_all M (more p ps) 0 x (c.0, c.1, c.2) h)

  narrow_all : (M : ℕ) (ps : Polynomials) (j x : ℕ) → AreCanonical M ps x → total_degree_from ps j ≤ 8 → NarrowAll ps
  narrow_all M none j x c h = tt
  narrow_all M (more (num v) ps) j x c h = (tt, narrow_all M ps (suc j) x c.2 (omega arith))
  narrow_all M (more (ext y qs) ps) j x c h = (narrow_from M (ext y qs) 0 c.1 (omega arith), narrow_all M ps (suc j) x c.2 (omega arith))
