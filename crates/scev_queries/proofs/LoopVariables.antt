-- Trees whose variables are no greater than the counter of a loop.
use Rattle.std.proofs.Common.{◌≡◌, ℕ, ◌+◌, ◌<◌, ◌≤◌, nat_le, Bool, true, false, List, subst, sym, arith}
use Rattle.std.proofs.lemmas.Bool.Decides.{nat_tests}
use Rattle.arith_word.specs.declared.label.Label.{Label}
use Rattle.scev_tree.proofs.ListedTrees.{polynomial_of_ext, polynomial_of_num}
use Rattle.scev_tree.specs.Polynomial.{Under, variable_of}
use Rattle.scev_tree.specs.Tree.{polynomial_of}
use Rattle.scev_tree.specs.declared.tree.Tree.{Tree, Num, Ext}

at_most : (a b : ℕ) → nat_le a b ≡ true → a ≤ b
at_most a b h = grind (arith, nat_tests)

above : (a b : ℕ) → nat_le a b ≡ false → b < a
above a b h = grind (arith, nat_tests)

pub under_num : (t : Tree) (v top : ℕ) → t ≡ Num v → Under (polynomial_of t) top
under_num t v top e = subst (λ (t : Tree). Under (polynomial_of t) top) (sym e) (subst (λ p. Under p top) (sym (polynomial_of_num v)) tt)

-- by the rank of the greatest variable and that of the counter
pub under_ext : (t : Tree) (counter : Bool) (x : Label) (ts : List Tree) (a b top : ℕ) → t ≡ Ext counter x ts → a ≡ variable_of counter x.0 → b + 1 ≡ top → nat_le a b ≡ true → Under (polynomial_of t) top
under_ext t counter x ts a b top e ra rb h =
    let le = at_most a b h in
    let lt : variable_of counter x.0 < top = subst (λ n. n < top) ra (omega (arith, le, rb)) in
    subst (λ (t : Tree). Under (polynomial_of t) top) (sym e) (subst (λ p. Under p top) (sym (polynomial_of_ext counter x ts)) lt)

pub not_under : (t : Tree) (counter : Bool) (x : Label) (ts : List Tree) (a b top : ℕ) → t ≡ Ext counter x ts → a ≡ variable_of counter x.0 → b + 1 ≡ top → nat_le a b ≡ false → Under (polynomial_of t) top → ⊥
not_under t counter x ts a b top e ra rb h under =
    let lt = above a b h in
    let own : variable_of counter x.0 < top = subst (λ p. Under p top) (polynomial_of_ext counter x ts) (subst (λ (t : Tree). Under (polynomial_of t) top) e under) in
    let below : a < top = subst (λ n. n < top) (sym ra) own in
    absurd (omega (arith, lt, below, rb))
