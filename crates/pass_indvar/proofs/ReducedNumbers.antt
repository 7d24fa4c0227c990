-- Numbers of expressions, and those of the argument that stands for a product.
use Rattle.std.proofs.Common.{◌≡◌, ℕ, ◌+◌, ◌*◌, ◌/◌, ◌%◌, ◌^◌, ap, ◌∙◌, sym, List, refl, arith}
use Rattle.std.proofs.lemmas.Bool.{ne_eqb}
use Rattle.mlir_ir.specs.Runs.{Number, number, Binding, look}
use Rattle.pass_expand.specs.Computed.{numbers_in}
use Rattle.pass_indvar.specs.Exits.{value_in}
use Rattle.pass_unroll.proofs.HeaderNumbers.{number_rest, number_sum}
use Rattle.scev_tree.specs.Polynomial.{Polynomial}
use Rattle.scev_tree.specs.Standing.{Stands}
use Rattle.scev_tree.specs.Value.{numbers}
use Rattle.scev_tree.proofs.Agreeing.{value_agrees}

-- the number that a variable has by the values in scope
abbrev pub in_scope : List Binding → ℕ → ℕ
in_scope env = numbers (numbers_in env) (λ l. 0)

pub symbol_number : (env : List Binding) (x : ℕ) → x % 2 ≡ 1 → in_scope env x ≡ (look env (x / 2)).v
symbol_number env x e = rw (ne_eqb (x % 2) 0 (λ z. omega arith)) refl

-- each symbol has the same number in both scopes
abbrev pub SameSymbols : List Binding → List Binding → Polynomial → Type 0
SameSymbols env env2 p = (x : ℕ) → Stands x p → (x % 2 ≡ 1) × (look env2 (x / 2) ≡ look env (x / 2))

pub same_value : (env env2 : List Binding) (p : Polynomial) → SameSymbols env env2 p → value_in env2 p ≡ value_in env p
same_value env env2 p h =
    value_agrees (in_scope env2) (in_scope env) p
    (λ x s. symbol_number env2 x (h x s).0 ∙ ap (λ (n : Number). n.v) (h x s).1 ∙ sym (symbol_number env x (h x s).0))

-- the number of a progression in iteration k
abbrev pub at_turn : ℕ → ℕ → ℕ → ℕ → Number
at_turn w start step k = number w (start + step * k)

pub first_turn : (w start step : ℕ) → number w start ≡ at_turn w start step 0
first_turn w start step = let e : start ≡ start + step * 0 = omega arith in ap (number w) e

times_next : (start step k : ℕ) → start + step * k + step ≡ start + step * (k + 1)
times_next start step k = grind arith

pub next_turn : (w start step k : ℕ) → number w (((start + step * k) % 2 ^ w + step % 2 ^ w) % 2 ^ w) ≡ at_turn w start step (k + 1)
next_turn w start step k =
    number_rest w ((start + step * k) % 2 ^ w + step % 2 ^ w) ∙ number_sum w (start + step * k) step ∙ ap (number w) (times_next start step k)
