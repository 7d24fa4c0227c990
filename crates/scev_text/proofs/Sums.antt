-- What decides how a coefficient prints.
use Rattle.std.proofs.Common.{◌≡◌, ℕ, ◌==◌, List, Bool, true, false, refl, ap, nat_lt}
use Rattle.std.proofs.lemmas.Bool.{ne_eqb}
use Rattle.arith_word.specs.declared.label.Label.{Label}
use Rattle.scev_tree.specs.declared.tree.Tree.{Tree, Num, Ext}
use Rattle.scev_tree.specs.Measure.{is_zero}
use Rattle.scev_tree.specs.Polynomial.{Polynomial, num, ext}
use Rattle.scev_tree.specs.Tree.{polynomial_of, polynomials}
use Rattle.scev_tree.proofs.ListedTrees.{polynomial_of_num, polynomial_of_ext}
use Rattle.scev_text.specs.Texts.{is_one, is_sum, terms_in}
use Rattle.scev_text.proofs.Variables.{counter_is, symbol_is}

pub one_number : (t : Tree) (v : ℕ) → t ≡ Num v → (v == 1) ≡ is_one (polynomial_of t)
one_number t v e = rw (e, polynomial_of_num) refl

pub one_ext : (t : Tree) (c : Bool) (x : Label) (ops : List Tree) → t ≡ Ext c x ops → false ≡ is_one (polynomial_of t)
one_ext t c x ops e = rw (e, polynomial_of_ext) refl

pub sum_number : (t : Tree) (v : ℕ) → t ≡ Num v → false ≡ is_sum (polynomial_of t)
sum_number t v e = rw (e, polynomial_of_num) refl

pub sum_counter : (t : Tree) (c : Bool) (x : Label) (ops : List Tree) → t ≡ Ext c x ops → c ≡ true → false ≡ is_sum (polynomial_of t)
sum_counter t c x ops e h = rw (e, polynomial_of_ext, h, counter_is) refl

pub sum_symbol : (t : Tree) (c : Bool) (x : Label) (ops us : List Tree) (b : Bool) → t ≡ Ext c x ops → c ≡ false → us ≡ ops → b ≡ nat_lt 1 (terms_in (polynomials us)) → b ≡ is_sum (polynomial_of t)
sum_symbol t c x ops us b e h o n = rw (n, o, e, polynomial_of_ext, h, symbol_is) refl

-- whether a tree is the number 0

pub zero_is : (p : Polynomial) → p ≡ num 0 → is_zero p ≡ true
zero_is p e = rw e refl

pub nonzero_is : (p : Polynomial) → (p ≡ num 0 → ⊥) → is_zero p ≡ false
nonzero_is (num v) ne = ne_eqb v 0 (λ e. ne (ap num e))
nonzero_is (ext x ps) ne = refl
