-- The operations that compute an expression: for each term a constant and its products, and from the second term on a sum.
use Rattle.std.specs.Prelude.{ℕ, ◌+◌, ◌-◌, ◌%◌, ◌^◌, false, List, [], ◌∷◌, ◌++◌, length, Option, None, Some}
use Rattle.arith_word.specs.declared.label.Label.{Label}
use Rattle.arith_word.specs.declared.op.BinOp.{BinOp}
use Rattle.arith_word.specs.declared.op.BinOp.TheVariants.{Addi, Muli}
use Rattle.mlir_ir.specs.declared.types.IrType.{IrType}
use Rattle.mlir_ir.specs.Operations.{SimpleOp, Const, Bin, Simple, OpList, nil}
use Rattle.mlir_ir.specs.Words.{bits_of}
use Rattle.pass_copy.specs.Built.{label, gives_one}
use Rattle.pass_expand.specs.Terms.{Term, terms_of}
use Rattle.scev_tree.specs.Polynomial.{Polynomial}

-- an operation on two values, which may wrap
abbrev pub wrapping : BinOp → Label → Label → SimpleOp
wrapping op a b = Bin op (record { nsw = false; nuw = false }) a b

-- the value with label v is multiplied by each of the symbols; the first product has the label behind v
abbrev pub products : ℕ → List Label → List SimpleOp
products v [] = []
products v (x ∷ xs) = wrapping Muli (label v) x ∷ products (v + 1) xs

-- a term, whose constant has the label `at`
abbrev pub term_steps : IrType → ℕ → Term → List SimpleOp
term_steps ty at t = Const (t.coefficient % 2 ^ bits_of ty) ∷ products at t.symbols

-- terms that are added to the sum so far, if there is one
abbrev pub steps : IrType → ℕ → Option Label → List Term → List SimpleOp
steps ty at sum [] = []
steps ty at None (t ∷ ts) = term_steps ty at t ++ steps ty (at + length t.symbols + 1) (Some (label (at + length t.symbols))) ts
steps ty at (Some sum) (t ∷ ts) =
    term_steps ty at t ++ wrapping Addi sum (label (at + length t.symbols)) ∷ steps ty (at + length t.symbols + 2) (Some (label (at + length t.symbols + 1))) ts

-- the value of these: the sum so far, or the last operation
abbrev pub sum_after : ℕ → Option Label → List Term → Option Label
sum_after at sum [] = sum
sum_after at None (t ∷ ts) = sum_after (at + length t.symbols + 1) (Some (label (at + length t.symbols))) ts
sum_after at (Some sum) (t ∷ ts) = sum_after (at + length t.symbols + 2) (Some (label (at + length t.symbols + 1))) ts

-- each gives one value of the type, with the fresh names from number k on
abbrev pub given_names : (ℕ → List ℕ) → IrType → ℕ → List SimpleOp → OpList
given_names fresh ty k [] = nil
given_names fresh ty k (does ∷ rest) = gives_one (fresh k) ty (Simple does) (given_names fresh ty (k + 1) rest)

-- the expression p at a type; the names begin with number k, and the first operation has the label `at`
abbrev pub expansion : (ℕ → List ℕ) → IrType → ℕ → ℕ → Polynomial → OpList
expansion fresh ty k at p = given_names fresh ty k (steps ty at None (terms_of p))

-- how many operations terms take that are added to a sum
abbrev pub size : List Term → ℕ
size [] = 0
size (t ∷ ts) = length t.symbols + 2 + size ts

-- the label of the value, which the last operation gives; the first term is added to nothing
abbrev pub expansion_end : ℕ → Polynomial → ℕ
expansion_end at p = at + size (terms_of p) - 2
