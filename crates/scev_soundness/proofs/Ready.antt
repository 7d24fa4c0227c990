-- Values that are their own symbols, numbers, or polynomials that were cut: their expressions are good, and have
-- their numbers.
use Rattle.std.proofs.Common.{◌≡◌, ℕ, ◌+◌, ◌*◌, ◌%◌, ◌^◌, ◌<◌, ◌≤◌, inl, inr, List, refl, ap, ◌∙◌, sym, subst, arith}
use Rattle.std.proofs.Math.Nat.{mod-lt, mod-eq_of_lt}
use Rattle.std.proofs.lemmas.Nat.{pow_pos}
use Rattle.arith_word.proofs.Newton.{one-lt-pow}
use Rattle.scev_tree.specs.Polynomial.{Polynomial, Under, IsCanonical, variable}
use Rattle.scev_tree.specs.Value.{value}
use Rattle.scev_tree.proofs.Agreeing.{value_variable}
use Rattle.mlir_ir.specs.Runs.{Number, Binding, Iteration, look}
use Rattle.mlir_ir.specs.Words.{bits_of}
use Rattle.mlir_ir.specs.declared.types.IrType.{IrType}
use Rattle.fresh_scev.specs.Expressions.{Expression, symbol, counter, own, number, IsCut}
use Rattle.fresh_scev.specs.Facts.{Facts, untested}
use Rattle.fresh_scev.proofs.Before.{under_later, same_expression, within_or}
use Rattle.scev_soundness.specs.Holding.{HasValue, point}
use Rattle.scev_soundness.specs.Agreement.{IsGood, IsReady}
use Rattle.scev_soundness.proofs.Points.{value_keeps, at_symbol, own_canonical, own_within, num_within}

-- ---- good expressions

-- a value's own symbol is a good expression
pub own_good : (w label : ℕ) (e : Expression) → 1 ≤ w → e ≡ own w label → IsGood w label e
own_good w label e some h =
    let low : 2 * label + 1 < 2 * (label + 1) = omega arith in
    subst (IsGood w label) (sym h) (record {
      width = refl;
      canon = own_canonical (2 ^ w) label (one-lt-pow w some);
      under = low;
      within = own_within label;
    })

-- a number is a good expression
pub number_good : (w v label : ℕ) (e : Expression) → e ≡ number w v → IsGood w label e
number_good w v label e h = subst (IsGood w label) (sym h) (record {
  width = refl;
  canon = mod-lt v (pow_pos w);
  under = tt;
  within = num_within (v % 2 ^ w);
})

-- a canonical polynomial in variables of the label and below is good where it is cut
pub cut_good : (w label : ℕ) (p : Polynomial) (e : Expression) → 1 ≤ w → IsCut w label p e → IsCanonical (2 ^ w) p
    → Under p (counter (label + 1))
    → IsGood w label e
cut_good w label p e some cut c u = elim (within_or p) [
  | inl i ↦ (let h : e ≡ record { w = w; p = p } = same_expression e (record { w = w; p = p }) cut.width
      (cut.kept i) in
      subst (IsGood w label) (sym h) (record { width = refl; canon = c; under = u; within = i }))
  | inr o ↦ own_good w label e some (same_expression e (own w label) cut.width (cut.dropped o))
]

-- ---- numbers

-- a value's own symbol has the number that the value has
pub own_number : (w label : ℕ) (e : Expression) (n : Number) (env : List Binding) (around : List Iteration)
    → e ≡ own w label → n.w ≡ w → n.v < 2 ^ w
    → look env label ≡ n → HasValue env around e n
own_number w label e n env around h wide lt l =
    let v : value (point env around) (variable (symbol label)) ≡ n.v =
    value_variable (point env around) (symbol label) ∙ (at_symbol env around label ∙ ap (λ (m : Number). m.v) l) in
    subst (λ x. HasValue env around x n) (sym h) (record {
      width = wide;
      number = sym (ap (λ z. z % 2 ^ w) v ∙ mod-eq_of_lt lt);
    })

-- a value with the number of a polynomial has it by its expression, where the polynomial is cut
pub cut_number : (w label : ℕ) (p : Polynomial) (e : Expression) (n : Number) (env : List Binding)
    (around : List Iteration) → IsCut w label p e
    → n.w ≡ w → n.v ≡ value (point env around) p % 2 ^ w → look env label ≡ n → HasValue env around e n
cut_number w label p e n env around cut wide nv l = elim (within_or p) [
  | inl i ↦ (let h : e ≡ record { w = w; p = p } = same_expression e (record { w = w; p = p }) cut.width
      (cut.kept i) in
      subst (λ x. HasValue env around x n) (sym h) (record { width = wide; number = nv }))
  | inr o ↦ own_number w label e n env around (same_expression e (own w label) cut.width (cut.dropped o)) wide
      (below (value (point env around) p) nv) l
]
  where
    below : (a : ℕ) → n.v ≡ a % 2 ^ w → n.v < 2 ^ w
    below a e = let b : a % 2 ^ w < 2 ^ w = mod-lt a (pow_pos w) in omega arith

-- ---- values that get their numbers, whatever else is in scope

-- a value that is its own symbol
pub own_ready : (F : Facts) (at : ℕ) (env : List Binding) (around : List Iteration) (label : ℕ) (ty : IrType)
    (n : Number) → 1 ≤ bits_of ty
    → F.expr label ≡ own (bits_of ty) label → F.role label ≡ untested → n.w ≡ bits_of ty → n.v < 2 ^ bits_of ty
    → IsReady F at env around label ty n
own_ready F at env around label ty n some h plain wide lt = record {
  wide = some;
  good = own_good (bits_of ty) label (F.expr label) some h;
  number = λ later keeps l. own_number (bits_of ty) label (F.expr label) n later around h wide lt l;
  plain = plain;
}

-- a value with the number of a polynomial whose variables are values below `at`, and counters at most `at`
pub cut_ready : (F : Facts) (at : ℕ) (env : List Binding) (around : List Iteration) (label : ℕ) (ty : IrType)
    (n : Number) (p : Polynomial) (top : ℕ)
    → 1 ≤ bits_of ty → at ≤ label → top ≤ counter at + 1 → Under p top → IsCanonical (2 ^ bits_of ty) p
    → IsCut (bits_of ty) label p (F.expr label) → F.role label ≡ untested → n.w ≡ bits_of ty
    → n.v ≡ value (point env around) p % 2 ^ bits_of ty → IsReady F at env around label ty n
cut_ready F at env around label ty n p top some le low u c cut plain wide nv = record {
  wide = some;
  good = cut_good (bits_of ty) label p (F.expr label) some cut c
      (under_later p top (counter (label + 1)) u (omega arith));
  number = λ later keeps l. (let same : value (point later around) p ≡ value (point env around) p =
      value_keeps env later around around at (at + 1) top (2 ^ bits_of ty) p u c (omega arith) (omega arith) keeps
      (λ z lt. refl) in
      cut_number (bits_of ty) label p (F.expr label) n later around cut wide
      (nv ∙ ap (λ z. z % 2 ^ bits_of ty) (sym same)) l);
  plain = plain;
}
