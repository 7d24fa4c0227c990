-- The variables of trees: which are symbols, and their labels.
use Rattle.std.proofs.Common.{◌≡◌, ℕ, ◌+◌, ◌*◌, ◌%◌, true, false, arith}
use Rattle.std.proofs.lemmas.Bool.{eq-eqb, ne_eqb}
use Rattle.scev_tree.specs.Polynomial.{variable_of}
use Rattle.scev_text.specs.Texts.{is_symbol, label_of}

pub counter_is : (x : ℕ) → is_symbol (variable_of true x) ≡ false
counter_is x = ne_eqb (2 * x % 2) 1 (λ e. omega arith)

pub symbol_is : (x : ℕ) → is_symbol (variable_of false x) ≡ true
symbol_is x = eq-eqb ((2 * x + 1) % 2) 1 (omega arith)

pub counter_label : (x : ℕ) → label_of (variable_of true x) ≡ x
counter_label x = omega arith

pub symbol_label : (x : ℕ) → label_of (variable_of false x) ≡ x
symbol_label x = omega arith
