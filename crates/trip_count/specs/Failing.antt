-- the iterations in which a loop's test is false
use Rattle.std.specs.Prelude.{◌≡◌, ℕ, ◌%◌, ◌^◌, ◌≤◌, if◌then◌else◌, Bool, false}
use Rattle.arith_word.specs.Operation.{holds}
use Rattle.arith_word.specs.declared.op.Pred.{Pred}
use Rattle.scev_tree.specs.Polynomial.{Polynomial}
use Rattle.scev_tree.specs.Tree.{polynomial_of}
use Rattle.scev_tree.specs.Value.{value, with_value}
use Rattle.scev_tree.specs.declared.expr.Expr.{Expr}
use Rattle.trip_count.specs.declared.condition.Test.{Test}
use Rattle.trip_count.specs.declared.condition.Test.TheVariants.{Number, Compare, Other}

-- the unsigned value of an expression modulo 2 to its width
abbrev pub value_of : (ℕ → ℕ) → Expr → ℕ
value_of env e = value env (polynomial_of e.tree) % 2 ^ e.w

-- whether pred holds of two polynomials
abbrev pub holds_of : (ℕ → ℕ) → ℕ → Pred → Polynomial → Polynomial → Bool
holds_of env w pred l r = holds pred w (value env l % 2 ^ w) (value env r % 2 ^ w)

-- whether pred holds of two expressions of one width
abbrev pub compares : (ℕ → ℕ) → Pred → Expr → Expr → Bool
compares env pred l r = holds_of env l.w pred (polynomial_of l.tree) (polynomial_of r.tree)

-- the test is false in the iteration n of the counter x
abbrev pub FailsAt : (ℕ → ℕ) → ℕ → Test → ℕ → Type 0
FailsAt env x (Number b) n = b ≡ false
FailsAt env x (Compare pred l r d) n = compares (with_value env x n) pred l r ≡ false
FailsAt env x Other n = ⊥

-- n is the least number with this fact
abbrev pub IsLeastNumber : (ℕ → Type 0) → ℕ → Type 0
IsLeastNumber P n = P n × ((k : ℕ) → P k → n ≤ k)

-- the value of e where the guard holds, else 0
abbrev pub guarded_value : (ℕ → ℕ) → Pred → Expr → Expr → Expr → ℕ
guarded_value env pred a c e = if compares env pred a c then value_of env e else 0
