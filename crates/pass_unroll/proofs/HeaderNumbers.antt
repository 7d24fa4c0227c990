-- Numbers of a loop's variable, modulo 2 to its width.
use Rattle.std.proofs.Common.{◌≡◌, ℕ, ◌+◌, ◌*◌, ◌%◌, ◌^◌, ◌<◌, true, false, ap, ◌∙◌, sym, subst}
use Rattle.std.proofs.Math.Nat.{mod-mod, add-mod}
use Rattle.arith_word.specs.Operation.{holds}
use Rattle.arith_word.specs.declared.op.Pred.TheVariants.{Slt}
use Rattle.mlir_ir.specs.Runs.{number}
use Rattle.pass_copy.proofs.RunEnds.{goes_on}
use Rattle.pass_unroll.specs.Planned.{Turns}

pub number_same : (w a b : ℕ) → a % 2 ^ w ≡ b % 2 ^ w → number w a ≡ number w b
number_same w a b e = ap (λ v. record { w = w; v = v }) e

pub number_rest : (w a : ℕ) → number w (a % 2 ^ w) ≡ number w a
number_rest w a = number_same w (a % 2 ^ w) a (mod-mod a (2 ^ w))

-- the sum of two numbers at their width
pub number_sum : (w a b : ℕ) → number w (a % 2 ^ w + b % 2 ^ w) ≡ number w (a + b)
number_sum w a b = number_same w (a % 2 ^ w + b % 2 ^ w) (a + b) (sym (add-mod a b (2 ^ w)))

-- as long as its test holds, the loop goes on from the numbers that the variable has
module _ (w low lower upper step n : ℕ) (turns : Turns w low (upper % 2 ^ w) step n) (e : low % 2 ^ w ≡ lower % 2 ^ w) where
  same_turn : (i : ℕ) → (low + i * step) % 2 ^ w ≡ (lower + i * step) % 2 ^ w
  same_turn i = add-mod low (i * step) (2 ^ w) ∙ (ap (λ z. (z + (i * step) % 2 ^ w) % 2 ^ w) e ∙ sym (add-mod lower (i * step) (2 ^ w)))

  pub goes_in : (i : ℕ) → i < n → goes_on (number w upper) (number w (lower + i * step)) ≡ true
  goes_in i h = subst (λ z. holds Slt w z (upper % 2 ^ w) ≡ true) (same_turn i) (turns.enters i h)

  pub goes_out : goes_on (number w upper) (number w (lower + n * step)) ≡ false
  goes_out = subst (λ z. holds Slt w z (upper % 2 ^ w) ≡ false) (same_turn n) turns.leaves
