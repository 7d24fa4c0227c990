-- The operations of terms behind those of others, and the label of their value.
use Rattle.std.proofs.Common.{◌≡◌, ℕ, ◌+◌, ◌-◌, List, [], ◌∷◌, ◌++◌, length, Option, Some, None, refl, ap, ◌∙◌, sym, arith, append_assoc}
use Rattle.std.proofs.lemmas.List.{length-append}
use Rattle.arith_word.specs.declared.label.Label.{Label}
use Rattle.arith_word.specs.declared.op.BinOp.TheVariants.{Addi}
use Rattle.mlir_ir.specs.Operations.{SimpleOp}
use Rattle.mlir_ir.specs.declared.types.IrType.{IrType}
use Rattle.pass_copy.specs.Built.{label}
use Rattle.pass_expand.specs.Expanded.{wrapping, term_steps, steps, sum_after, size}
use Rattle.pass_expand.specs.Terms.{Term}
use Rattle.pass_expand.proofs.AddedTerms.{products_count}

module _ (ty : IrType) where
  -- what stands for a term that is added
  abbrev one_step : ℕ → Option Label → Term → List SimpleOp
  one_step at None t = term_steps ty at t
  one_step at (Some sum) t = term_steps ty at t ++ wrapping Addi sum (label (at + length t.symbols)) ∷ []

  abbrev one_count : Option Label → Term → ℕ
  one_count None t = length t.symbols + 1
  one_count (Some sum) t = length t.symbols + 2

  abbrev one_after : ℕ → Option Label → Term → Label
  one_after at None t = label (at + length t.symbols)
  one_after at (Some sum) t = label (at + length t.symbols + 1)

  steps_first : (at : ℕ) (sum : Option Label) (t : Term) (ts : List Term)
      → steps ty at sum (t ∷ ts) ≡ one_step at sum t ++ steps ty (at + one_count sum t) (Some (one_after at sum t)) ts
  steps_first at None t ts = let e : at + length t.symbols + 1 ≡ at + (length t.symbols + 1) = omega arith in ap (λ n. term_steps ty at t ++ steps ty n (Some (label (at + length t.symbols))) ts) e
  steps_first at (Some sum) t ts =
      let e : at + length t.symbols + 2 ≡ at + (length t.symbols + 2) = omega arith in
      ap (λ n. term_steps ty at t ++ wrapping Addi sum (label (at + length t.symbols)) ∷ steps ty n (Some (label (at + length t.symbols + 1))) ts) e
      ∙ sym (append_assoc (term_steps ty at t) (wrapping Addi sum (label (at + length t.symbols)) ∷ []) (steps ty (at + (length t.symbols + 2)) (Some (label (at + length t.symbols + 1))) ts))

  after_first : (at : ℕ) (sum : Option Label) (t : Term) (ts : List Term) → sum_after at sum (t ∷ ts) ≡ sum_after (at + one_count sum t) (Some (one_after at sum t)) ts
  after_first at None t ts = let e : at + length t.symbols + 1 ≡ at + (length t.symbols + 1) = omega arith in ap (λ n. sum_after n (Some (label (at + length t.symbols))) ts) e
  after_first at (Some sum) t ts = let e : at + length t.symbols + 2 ≡ at + (length t.symbols + 2) = omega arith in ap (λ n. sum_after n (Some (label (at + length t.symbols + 1))) ts) e

  one_length : (at : ℕ) (sum : Option Label) (t : Term) → length (one_step at sum t) ≡ one_count sum t
  one_length at None t = let e = products_count at t.symbols in omega arith
  one_length at (Some sum) t =
      let e = products_count at t.symbols in
      let f = length-append (term_steps ty at t) (wrapping Addi sum (label (at + length t.symbols)) ∷ []) in
      omega arith

  first_length : (at : ℕ) (sum : Option Label) (t : Term) (ts : List Term)
      → length (steps ty at sum (t ∷ ts)) ≡ one_count sum t + length (steps ty (at + one_count sum t) (Some (one_after at sum t)) ts)
  first_length at sum t ts =
      ap length (steps_first at sum t ts) ∙ length-append (one_step at sum t) (steps ty (at + one_count sum t) (Some (one_after at sum t)) ts)
      ∙ ap (λ n. n + length (steps ty (at + one_count sum t) (Some (one_after at sum t)) ts)) (one_length at sum t)

  pub steps_append : (at : ℕ) (sum : Option Label) (ts us : List Term)
      → steps ty at sum (ts ++ us) ≡ steps ty at sum ts ++ steps ty (at + length (steps ty at sum ts)) (sum_after at sum ts) us
  steps_append at sum [] us = let e : at ≡ at + 0 = omega arith in ap (λ n. steps ty n sum us) e
  steps_append at sum (t ∷ ts) us =
      let here = one_step at sum t in
      let next = at + one_count sum t in
      let now : Option Label = Some (one_after at sum t) in
      let rest = steps ty next now ts in
      let n : next + length rest ≡ at + length (steps ty at sum (t ∷ ts)) = let f = first_length at sum t ts in omega arith in
      steps_first at sum t (ts ++ us) ∙ ap (λ more. here ++ more) (steps_append next now ts us)
      ∙ sym (append_assoc here rest (steps ty (next + length rest) (sum_after next now ts) us))
      ∙ (λ j. sym (steps_first at sum t ts) j ++ steps ty (n j) (sym (after_first at sum t ts) j) us)

  pub after_append : (at : ℕ) (sum : Option Label) (ts us : List Term)
      → sum_after at sum (ts ++ us) ≡ sum_after (at + length (steps ty at sum ts)) (sum_after at sum ts) us
  after_append at sum [] us = let e : at ≡ at + 0 = omega arith in ap (λ n. sum_after n sum us) e
  after_append at sum (t ∷ ts) us =
      let next = at + one_count sum t in
      let now : Option Label = Some (one_after at sum t) in
      let rest = steps ty next now ts in
      let n : next + length rest ≡ at + length (steps ty at sum (t ∷ ts)) = let f = first_length at sum t ts in omega arith in
      after_first at sum t (ts ++ us) ∙ after_append next now ts us
      ∙ (λ j. sum_after (n j) (sym (after_first at sum t ts) j) us)

  -- how many there are behind a sum so far
  pub steps_count : (at : ℕ) (sum : Label) (ts : List Term) → length (steps ty at (Some sum) ts) ≡ size ts
  steps_count at sum [] = refl
  steps_count at sum (t ∷ ts) =
      let e = first_length at (Some sum) t ts in
      let f = steps_count (at + one_count (Some sum) t) (one_after at (Some sum) t) ts in
      omega arith

  -- and where there is none
  pub first_count : (at : ℕ) (t : Term) (ts : List Term) → length (steps ty at None (t ∷ ts)) + 1 ≡ size (t ∷ ts)
  first_count at t ts =
      let e = first_length at None t ts in
      let f = steps_count (at + one_count None t) (one_after at None t) ts in
      omega arith

-- the value of terms behind a sum so far
pub after_sum : (v : ℕ) (ts : List Term) → sum_after (v + 1) (Some (label v)) ts ≡ Some (label (v + size ts))
after_sum v [] = let e : v ≡ v + 0 = omega arith in ap (λ n. Some (label n)) e
after_sum v (t ∷ ts) =
    let n = length t.symbols in
    let a : v + 1 + n + 2 ≡ v + n + 2 + 1 = omega arith in
    let b : v + 1 + n + 1 ≡ v + n + 2 = omega arith in
    let d : v + n + 2 + size ts ≡ v + size (t ∷ ts) = omega arith in
    (λ j. sum_after (a j) (Some (label (b j))) ts) ∙ after_sum (v + n + 2) ts ∙ ap (λ i. Some (label i)) d

pub after_first_term : (at : ℕ) (t : Term) (ts : List Term) → sum_after at None (t ∷ ts) ≡ Some (label (at + size (t ∷ ts) - 2))
after_first_term at t ts =
    let n = length t.symbols in
    let d : at + n + size ts ≡ at + size (t ∷ ts) - 2 = omega arith in
    after_sum (at + n) ts ∙ ap (λ i. Some (label i)) d
