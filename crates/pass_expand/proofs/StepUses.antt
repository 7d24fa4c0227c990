-- Which values the operations of an expression use: its symbols, and those of its own operations before.
use Rattle.std.proofs.Common.{◌≡◌, ℕ, suc, ◌+◌, ◌^◌, ◌<◌, ◌≤◌, ◌⊎◌, inl, inr, false, List, [], ◌∷◌, ◌++◌, length, Option, Some, None, refl, subst, arith, mod-lt}
use Rattle.std.proofs.lemmas.Nat.{pow_pos}
use Rattle.arith_word.specs.declared.label.Label.{Label}
use Rattle.arith_word.specs.declared.op.BinOp.TheVariants.{Addi}
use Rattle.mlir_ir.specs.Operations.{SimpleOp, Const, Bin}
use Rattle.mlir_ir.specs.Rules.{has_flags}
use Rattle.mlir_ir.specs.Words.{bits_of}
use Rattle.mlir_ir.specs.declared.types.IrType.{IrType}
use Rattle.pass_copy.specs.Built.{label}
use Rattle.pass_expand.specs.Expanded.{wrapping, products, term_steps, steps}
use Rattle.pass_expand.specs.Terms.{Term}
use Rattle.pass_expand.proofs.AddedTerms.{products_count}
use Rattle.pass_expand.proofs.TermSymbols.{AllOf, TermsOf}

module _ (P : ℕ → Type 0) (ty : IrType) (at : ℕ) where
  -- P holds of the value, or it is one of those from `at` to before `now`
  abbrev pub IsUsable : ℕ → ℕ → Type 0
  IsUsable now l = P l ⊎ ((at ≤ l) × (l < now))

  -- an operation with the label `now`
  abbrev pub Uses : ℕ → SimpleOp → Type 0
  Uses now (Const v) = v < 2 ^ bits_of ty
  Uses now (Bin op flags a b) = (has_flags flags ≡ false) × IsUsable now a.0 × IsUsable now b.0
  Uses now _ = ⊥

  -- operations, of which the first has the label `now`
  abbrev pub AllUse : ℕ → List SimpleOp → Type 0
  AllUse now [] = Unit {0}
  AllUse now (d ∷ does) = Uses now d × AllUse (now + 1) does

  use_append : (now : ℕ) (does more : List SimpleOp) → AllUse now does → AllUse (now + length does) more → AllUse now (does ++ more)
  use_append now [] more h g = let e : now + 0 ≡ now = omega arith in subst (λ n. AllUse n more) e g
  use_append now (d ∷ does) more h g =
      let e : now + suc (length does) ≡ now + 1 + length does = omega arith in
      (h.0, use_append (now + 1) does more h.1 (subst (λ n. AllUse n more) e g))

  products_use : (now v : ℕ) (xs : List Label) → now ≡ v + 1 → at ≤ v → AllOf P xs → AllUse now (products v xs)
  products_use now v [] e le h = tt
  products_use now v (x ∷ xs) e le h = ((refl, inr (le, omega arith), inl h.0), products_use (now + 1) (v + 1) xs (omega arith) (omega arith) h.1)

  term_use : (now : ℕ) (t : Term) → at ≤ now → AllOf P t.symbols → AllUse now (term_steps ty now t)
  term_use now t le h = (mod-lt t.coefficient (pow_pos (bits_of ty)), products_use (now + 1) now t.symbols refl le h)

  -- the sum so far is usable
  abbrev IsSum : ℕ → Option Label → Type 0
  IsSum now None = Unit {0}
  IsSum now (Some sum) = (at ≤ sum.0) × (sum.0 < now)

  terms_use : (now : ℕ) (sum : Option Label) (ts : List Term) → at ≤ now → IsSum now sum → TermsOf P ts → AllUse now (steps ty now sum ts)
  terms_use now sum [] le s h = tt
  terms_use now None (t ∷ ts) le s h =
      let len = length t.symbols in
      let e : now + len + 1 ≡ now + length (term_steps ty now t) = let c = products_count now t.symbols in omega arith in
      let rest = steps ty (now + len + 1) (Some (label (now + len))) ts in
      use_append now (term_steps ty now t) rest (term_use now t le h.0)
      (subst (λ n. AllUse n rest) e (terms_use (now + len + 1) (Some (label (now + len))) ts (omega arith) (omega arith, omega arith) h.1))
  terms_use now (Some sum) (t ∷ ts) le s h =
      let len = length t.symbols in
      let e : now + len + 1 ≡ now + length (term_steps ty now t) = let c = products_count now t.symbols in omega arith in
      let e2 : now + len + 2 ≡ now + len + 1 + 1 = omega arith in
      let rest = steps ty (now + len + 2) (Some (label (now + len + 1))) ts in
      let added : AllUse (now + len + 1) (wrapping Addi sum (label (now + len)) ∷ rest) = (
        (refl, inr (s.0, omega arith), inr (omega arith, omega arith)),
        subst (λ n. AllUse n rest) e2 (terms_use (now + len + 2) (Some (label (now + len + 1))) ts (omega arith) (omega arith, omega arith) h.1),
      ) in
      use_append now (term_steps ty now t) (wrapping Addi sum (label (now + len)) ∷ rest) (term_use now t le h.0)
      (subst (λ n. AllUse n (wrapping Addi sum (label (now + len)) ∷ rest)) e added)

  pub steps_use : (ts : List Term) → TermsOf P ts → AllUse at (steps ty at None ts)
  steps_use ts h = terms_use at None ts (omega arith) tt h
