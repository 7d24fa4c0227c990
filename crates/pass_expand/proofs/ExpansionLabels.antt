-- An expansion has as many labels as names, one for each operation; its value has the last one.
use Rattle.std.proofs.Common.{◌≡◌, ℕ, ◌+◌, ◌-◌, ◌≤◌, ◌<◌, List, [], ◌∷◌, length, None, refl, ap, ◌∙◌, sym, arith}
use Rattle.mlir_ir.specs.Operations.{labels_of}
use Rattle.mlir_ir.specs.declared.types.IrType.{IrType}
use Rattle.pass_copy.specs.Renamed.{names_of}
use Rattle.pass_expand.specs.Expanded.{expansion, expansion_end, steps, size}
use Rattle.pass_expand.specs.Terms.{Term, terms, some_term, terms_of}
use Rattle.pass_expand.proofs.GivenNames.{given_labels, given_count}
use Rattle.pass_expand.proofs.JoinedSteps.{first_count}
use Rattle.scev_tree.specs.Polynomial.{Polynomial}

some_count : (ty : IrType) (at : ℕ) (ts : List Term) → length (steps ty at None (some_term ts)) + 1 ≡ size (some_term ts)
some_count ty at [] = refl
some_count ty at (t ∷ ts) = first_count ty at t ts

some_size : (ts : List Term) → 2 ≤ size (some_term ts)
some_size [] = omega arith
some_size (t ∷ ts) = omega arith

module _ (fresh : ℕ → List ℕ) (ty : IrType) (k at : ℕ) (p : Polynomial) where
  pub expansion_size : labels_of (expansion fresh ty k at p) + 1 ≡ size (terms_of p)
  expansion_size = ap (λ n. n + 1) (given_labels fresh ty k (steps ty at None (terms_of p))) ∙ some_count ty at (terms p [])

  pub expansion_names : names_of (expansion fresh ty k at p) ≡ labels_of (expansion fresh ty k at p)
  expansion_names = given_count fresh ty k (steps ty at None (terms_of p)) ∙ sym (given_labels fresh ty k (steps ty at None (terms_of p)))

  pub some_labels : 1 ≤ labels_of (expansion fresh ty k at p)
  some_labels = let e = expansion_size in let f = some_size (terms p []) in omega arith

  pub last_label : expansion_end at p ≡ at + labels_of (expansion fresh ty k at p) - 1
  last_label = let e = expansion_size in let f = some_size (terms p []) in omega arith

  -- the value's label is one of those of the expansion
  pub end_within : (at ≤ expansion_end at p) × (expansion_end at p < at + labels_of (expansion fresh ty k at p))
  end_within = let e = expansion_size in let f = some_size (terms p []) in (omega arith, omega arith)
