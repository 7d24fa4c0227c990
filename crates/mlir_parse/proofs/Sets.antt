-- Sets of terminals as bit masks.
use Rattle.std.proofs.Common.{zero, suc, ◌≡◌, ℕ, ◌<◌, ◌^◌, ◌==◌, max, Bool, true, false, ◌||◌, ◌&&◌, if◌then◌else◌, List, [], ◌∷◌, refl, ap, ◌∙◌, sym, inl, inr, arith, bit_or}
use Rattle.std.specs.Int.{bit_at}
use Rattle.std.proofs.Math.Bool.{or-false}
use Rattle.std.proofs.lemmas.Nat.Bits.{bit_at_or, bit_at-zero, bit_at-lt, bit_at-pow_same, bit_at-pow_other}
use Rattle.std.proofs.lemmas.Bool.{cases_Bool, eqb-true, eqb-false}
use Rattle.mlir_ir.specs.Grammar.{Pattern, nothing, one, line, both, either, many, region}
use Rattle.mlir_ir.specs.declared.terminal.Terminal.{Terminal}
use Rattle.mlir_ir.specs.declared.terminal.Terminal.TheVariants.{LeftBrace}
use Rattle.mlir_ir.specs.GrammarNumbers.{number, same}
use Rattle.mlir_parse.specs.Tables.{among, line_firsts, empty, first, mark, marks, has, first_set}

has_none : (c : Terminal) → has 0 c ≡ false
has_none c = ap (λ b. b == 1) (bit_at-zero (number c))

has_mark : (d c : Terminal) → has (mark d) c ≡ same d c
has_mark d c =
    elim (cases_Bool (number d == number c)) [
      | inl equal ↦ let e : number d ≡ number c = eqb-true (number d) (number c) equal in
          ap (λ n. bit_at (2 ^ number d) n == 1) (sym e) ∙ ap (λ b. b == 1) (bit_at-pow_same (number d)) ∙ sym equal
      | inr other ↦ ap (λ b. b == 1) (bit_at-pow_other (number d) (number c) (λ e. eqb-false (number d) (number c) other (sym e))) ∙ sym other
    ]

has_or : (a b : ℕ) (c : Terminal) → has (bit_or a b) c ≡ (has a c || has b c)
has_or a b c =
    ap (λ n. n == 1) (bit_at_or a b (number c)) ∙ one_of (bit_at a (number c)) (bit_at b (number c)) (bit_at-lt a (number c)) (bit_at-lt b (number c))
  where
    one_of : (x y : ℕ) → x < 2 → y < 2 → (max x y == 1) ≡ ((x == 1) || (y == 1))
    one_of zero zero h k = refl
    one_of zero (suc zero) h k = refl
    one_of (suc zero) zero h k = refl
    one_of (suc zero) (suc zero) h k = refl
    one_of zero (suc (suc y)) h k = absurd (omega (arith, k))
    one_of (suc zero) (suc (suc y)) h k = absurd (omega (arith, k))
    one_of (suc (suc x)) y h k = absurd (omega (arith, h))

has_marks : (ds : List Terminal) (c : Terminal) → has (marks ds) c ≡ among ds c
has_marks [] c = has_none c
has_marks (d ∷ []) c = has_or (mark d) 0 c ∙ ap (λ b. has (mark d) c || b) (has_none c) ∙ or-false (has (mark d) c) ∙ has_mark d c
has_marks (d ∷ e ∷ ds) c =
    has_or (mark d) (marks (e ∷ ds)) c ∙ ap (λ b. b || has (marks (e ∷ ds)) c) (has_mark d c) ∙ ap (λ b. same d c || b) (has_marks (e ∷ ds) c)

has_both : (e : Bool) (m n : ℕ) (c : Terminal) (p q : Bool) → has m c ≡ p → has n c ≡ q → has (if e then bit_or m n else m) c ≡ (p || (e && q))
has_both true m n c p q h k = has_or m n c ∙ ap (λ b. b || has n c) h ∙ ap (λ b. p || b) k
has_both false m n c p q h k = h ∙ sym (or-false p)

-- the first set of a pattern has exactly the terminals that a match may begin with
pub has_first : (r : Pattern) (c : Terminal) → has (first_set r) c ≡ first r c
has_first nothing c = has_none c
has_first (one d) c = has_mark d c
has_first (line f) c = has_marks (line_firsts f) c
has_first (both a b) c = has_both (empty a) (first_set a) (first_set b) c (first a c) (first b c) (has_first a c) (has_first b c)
has_first (either a b) c = has_both true (first_set a) (first_set b) c (first a c) (first b c) (has_first a c) (has_first b c)
has_first (many a) c = has_first a c
has_first (region a) c = has_mark LeftBrace c
