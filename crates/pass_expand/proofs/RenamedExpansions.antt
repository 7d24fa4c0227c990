-- An expansion under a renaming that keeps its symbols and its own values is itself; its names are fresh, so they are apart.
use Rattle.std.proofs.Common.{◌≡◌, ℕ, ◌+◌, ◌/◌, ◌<◌, ◌≤◌, inl, inr, List, [], ◌∷◌, length, None, refl, subst, arith}
use Rattle.mlir_ir.specs.Named.{Names, NamedOps, names_after}
use Rattle.mlir_ir.specs.Operations.{SimpleOp, Simple, Const, Bin, Cast, Cmp, Select, Call, labels_of}
use Rattle.mlir_ir.specs.declared.types.IrType.{IrType}
use Rattle.pass_copy.specs.Built.{gives_one}
use Rattle.pass_copy.specs.Renamed.{keep, anew, rename_simple, rename_ops, names_of}
use Rattle.pass_copy.proofs.NamedRenamed.{AreFresh, Unused, Apart, ops_anew, unused_anew, apart_anew}
use Rattle.pass_copy.proofs.RenamedOps.{same}
use Rattle.pass_expand.specs.Expanded.{given_names, expansion, steps}
use Rattle.pass_expand.specs.Terms.{terms_of}
use Rattle.pass_expand.proofs.GivenNames.{given_labels}
use Rattle.pass_expand.proofs.StepUses.{IsUsable, Uses, AllUse, steps_use}
use Rattle.pass_expand.proofs.TermSymbols.{symbols_of}
use Rattle.scev_tree.specs.Polynomial.{Polynomial}
use Rattle.scev_tree.specs.Standing.{Stands}

module _ (f : ℕ → ℕ) (fresh : ℕ → List ℕ) (ty : IrType) where
  abbrev IsSame : ℕ → Type 0
  IsSame l = f l ≡ l

  usable_same : (at now l : ℕ) → ((x : ℕ) → at ≤ x → x < now → f x ≡ x) → IsUsable IsSame ty at now l → f l ≡ l
  usable_same at now l h (inl e) = e
  usable_same at now l h (inr q) = h l q.0 q.1

  simple_same : (at now : ℕ) (d : SimpleOp) → ((l : ℕ) → at ≤ l → l < now → f l ≡ l) → Uses IsSame ty at now d → rename_simple f d ≡ d
  simple_same at now (Const v) h u = refl
  simple_same at now (Bin op flags a b) h u =
      λ j. Bin op flags (record { 0 = usable_same at now a.0 h u.1 j }) (record { 0 = usable_same at now b.0 h u.2 j })
  simple_same at now (Cast op flags a) h u = absurd u
  simple_same at now (Cmp pred a b) h u = absurd u
  simple_same at now (Select c a b) h u = absurd u
  simple_same at now (Call func passed) h u = absurd u

  -- under the names that they have, or the fresh ones from their number on
  given_kept : (at now k n : ℕ) (does : List SimpleOp) → ((l : ℕ) → at ≤ l → l < now + length does → f l ≡ l) → AllUse IsSame ty at now does
      → rename_ops f keep n (given_names fresh ty k does) ≡ given_names fresh ty k does
  given_kept at now k n [] h u = refl
  given_kept at now k n (d ∷ does) h u =
      let first = simple_same at now d (λ l le lt. h l le (omega arith)) u.0 in
      let rest = given_kept at (now + 1) (k + 1) (n + 1) does (λ l le lt. h l le (omega arith)) u.1 in
      λ j. gives_one (fresh k) ty (Simple (first j)) (rest j)

  given_anew : (at now k : ℕ) (does : List SimpleOp) → ((l : ℕ) → at ≤ l → l < now + length does → f l ≡ l) → AllUse IsSame ty at now does
      → rename_ops f (anew fresh) k (given_names fresh ty k does) ≡ given_names fresh ty k does
  given_anew at now k [] h u = refl
  given_anew at now k (d ∷ does) h u =
      let first = simple_same at now d (λ l le lt. h l le (omega arith)) u.0 in
      let rest = given_anew at (now + 1) (k + 1) does (λ l le lt. h l le (omega arith)) u.1 in
      let e : k + 0 ≡ k = omega arith in
      λ j. gives_one (fresh (e j)) ty (Simple (first j)) (rest j)

  module _ (k at : ℕ) (p : Polynomial) (symbols : (x : ℕ) → Stands x p → f (x / 2) ≡ x / 2)
      (own : (l : ℕ) → at ≤ l → l < at + labels_of (expansion fresh ty k at p) → f l ≡ l) where
    own_steps : (l : ℕ) → at ≤ l → l < at + length (steps ty at None (terms_of p)) → f l ≡ l
    own_steps l le lt = let n = given_labels fresh ty k (steps ty at None (terms_of p)) in own l le (omega (arith, n, lt))

    pub expansion_kept : (n : ℕ) → rename_ops f keep n (expansion fresh ty k at p) ≡ expansion fresh ty k at p
    expansion_kept n = given_kept at at k n (steps ty at None (terms_of p)) own_steps (steps_use IsSame ty at (terms_of p) (symbols_of IsSame p symbols))

    pub expansion_anew : rename_ops f (anew fresh) k (expansion fresh ty k at p) ≡ expansion fresh ty k at p
    expansion_anew = given_anew at at k (steps ty at None (terms_of p)) own_steps (steps_use IsSame ty at (terms_of p) (symbols_of IsSame p symbols))

-- names

module _ (fresh : ℕ → List ℕ) (K : ℕ) (F : AreFresh fresh K) (ty : IrType) (k at : ℕ) (p : Polynomial) (N : Names) where
  itself : rename_ops same (anew fresh) k (expansion fresh ty k at p) ≡ expansion fresh ty k at p
  itself = expansion_anew same fresh ty k at p (λ x s. refl) (λ l le lt. refl)

  pub expansion_named : k + names_of (expansion fresh ty k at p) ≤ K → Unused fresh K k N → NamedOps N (expansion fresh ty k at p)
  expansion_named le u = subst (NamedOps N) itself (ops_anew fresh K F same k N (expansion fresh ty k at p) le u)

  -- behind it the fresh names from the next number on are unused
  pub expansion_unused : Unused fresh K k N → Unused fresh K (k + names_of (expansion fresh ty k at p)) (names_after N (expansion fresh ty k at p))
  expansion_unused u =
      subst (λ ops. Unused fresh K (k + names_of (expansion fresh ty k at p)) (names_after N ops)) itself (unused_anew fresh K F same k N (expansion fresh ty k at p) u)

  -- and old names are as they were
  pub expansion_apart : k + names_of (expansion fresh ty k at p) ≤ K → Apart fresh K N (names_after N (expansion fresh ty k at p))
  expansion_apart le = subst (λ ops. Apart fresh K N (names_after N ops)) itself (apart_anew fresh K same k N (expansion fresh ty k at p) le)
