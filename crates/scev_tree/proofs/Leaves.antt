-- numbers, symbols and equal expressions
use Rattle.std.proofs.Common.{◌≡◌, ℕ, ◌+◌, ◌-◌, ◌%◌, ◌^◌, ◌<◌, ◌≤◌, ◌↔◌, IsTrue, Bool, List, [], ◌∷◌, ◌++◌, ap, ◌∙◌, sym, subst, arith}
use Rattle.std.proofs.lemmas.Nat.{and_mask, pow_pos, mod_below, pow_below}
use Rattle.std.specs.Prelude.{bit_and}
use Rattle.arith_word.specs.declared.label.Label.{Label}
use Rattle.scev_tree.specs.declared.tree.Tree.{Tree, Num, Ext}
use Rattle.scev_tree.specs.Polynomial.{Polynomial, num, IsCanonical, IsSamePolynomial, variable, variable_of}
use Rattle.scev_tree.specs.Tree.{polynomial_of}
use Rattle.scev_tree.proofs.ListedTrees.{polynomial_of_num, polynomial_of_ext}
use Rattle.scev_tree.proofs.Unique.{unique_law}

low_bits : (v w m : ℕ) → m + 1 ≡ 2 ^ w → bit_and v m ≡ v % 2 ^ w
low_bits v w m e = let e' : m ≡ 2 ^ w - 1 = omega arith in rw e' (and_mask v w)

pub number_is : (v w m : ℕ) → m + 1 ≡ 2 ^ w → polynomial_of (Num (bit_and v m)) ≡ num (v % 2 ^ w)
number_is v w m e = polynomial_of_num (bit_and v m) ∙ ap num (low_bits v w m e)

pub number_canonical : (v w m : ℕ) → m + 1 ≡ 2 ^ w → IsCanonical (2 ^ w) (polynomial_of (Num (bit_and v m)))
number_canonical v w m e = subst (λ p. IsCanonical (2 ^ w) p) (sym (number_is v w m e)) (mod_below v (2 ^ w) (pow_pos w))

literal : (c : Bool) (x : Label) → polynomial_of (Ext c x (Num 0 ∷ Num 1 ∷ [])) ≡ variable (variable_of c x.0)
unfolding polynomial_of
literal c x = polynomial_of_ext c x (Num 0 ∷ Num 1 ∷ [])

pub variable_is : (c : Bool) (x : Label) (us vs ws zs : List Tree) → us ≡ [] → vs ≡ us ++ Num 0 ∷ [] → ws ≡ vs ++ Num 1 ∷ [] → zs ≡ ws → polynomial_of (Ext c x zs) ≡ variable (variable_of c x.0)
variable_is c x us vs ws zs e f g h =
    let k : zs ≡ Num 0 ∷ Num 1 ∷ [] = h ∙ (g ∙ (ap (λ (ts : List Tree). ts ++ Num 1 ∷ []) (f ∙ ap (λ (ts : List Tree). ts ++ Num 0 ∷ []) e))) in
    ap (λ (ts : List Tree). polynomial_of (Ext c x ts)) k ∙ literal c x

pub variable_canonical : (w x : ℕ) (p : Polynomial) → 1 ≤ w → p ≡ variable x → IsCanonical (2 ^ w) p
variable_canonical w x p h e =
    let one : 1 < 2 ^ w = pow_below 0 w h in
    let some : 0 < 2 ^ w = pow_pos w in
    subst (λ q. IsCanonical (2 ^ w) q) (sym e) (tt, some, (tt, one, tt), omega arith)

pub same_of : (v w : ℕ) (p q : Polynomial) (r : Bool) → v ≡ w → IsCanonical (2 ^ v) p → IsCanonical (2 ^ w) q → IsTrue r ↔ (p ≡ q) → IsTrue r ↔ ((v ≡ w) × IsSamePolynomial p q)
same_of v w p q r e cp cq h =
    let cq' : IsCanonical (2 ^ v) q = subst (λ n. IsCanonical (2 ^ n) q) (sym e) cq in
    let law = unique_law (2 ^ v) p q cp cq' in
    (λ t. (e, law.1 (h.0 t)), λ s. h.1 (law.0 s.1))
