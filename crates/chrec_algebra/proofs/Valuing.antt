-- the value of a tree, place by place
use Rattle.std.proofs.Common.{◌≡◌, ℕ, suc, ◌+◌, ◌*◌, ◌/◌, ◌%◌, ◌^◌, ◌<◌, ◌≤◌, List, [], ◌∷◌, ◌++◌, refl, ap, ◌∙◌, sym, subst, arith, length, get_or, take, take_all, Bool, true, false, if◌then◌else◌}
use Rattle.std.proofs.lemmas.Bool.{eq-eqb, ne_eqb}
use Rattle.std.proofs.lemmas.List.{length-take}
use Rattle.std.proofs.Math.Nat.{mod-mod, mod-eq_of_lt, pow-zero, pow-suc}
use Rattle.std.proofs.lemmas.Nat.{mul-mod_first}
use Rattle.scev_tree.specs.declared.tree.Tree.{Tree}
use Rattle.scev_tree.specs.Polynomial.{Polynomial, Polynomials, num, ext, variable_of}
use Rattle.scev_tree.specs.Tree.{polynomial_of, polynomials}
use Rattle.arith_word.specs.Binomial.{binomial}
use Rattle.scev_tree.specs.Value.{worth, value, values, numbers}
use Rattle.scev_tree.proofs.GrowingLists.{take_snoc}
use Rattle.chrec_algebra.proofs.Products.{add_same, mul_same}

pub number_of_counter : (f g : ℕ → ℕ) (l : ℕ) → numbers f g (variable_of true l) ≡ g l
number_of_counter f g l =
    let even : 2 * l % 2 ≡ 0 = omega arith in
    let half : 2 * l / 2 ≡ l = omega arith in
    rw (eq-eqb (2 * l % 2) 0 even) (ap g half)

pub number_of_symbol : (f g : ℕ → ℕ) (l : ℕ) → numbers f g (variable_of false l) ≡ f l
number_of_symbol f g l =
    let half : (2 * l + 1) / 2 ≡ l = omega arith in
    rw (ne_eqb ((2 * l + 1) % 2) 0 (λ e. omega arith)) (ap f half)

pub worth_is : (env : ℕ → ℕ) (c : Bool) (l k n : ℕ) → n ≡ env (variable_of c l) → (if c then binomial n k else n ^ k) ≡ worth env (variable_of c l) k
unfolding worth
worth_is env true l k n e = let even : 2 * l % 2 ≡ 0 = omega arith in rw (eq-eqb (2 * l % 2) 0 even, e) refl
worth_is env false l k n e = rw (ne_eqb ((2 * l + 1) % 2) 0 (λ e. omega arith), e) refl

worth_at : (env : ℕ → ℕ) (x j k : ℕ) → j ≡ k → worth env x j ≡ worth env x k
worth_at env x j k e = ap (λ i. worth env x i) e

values_snoc : (env : ℕ → ℕ) (x : ℕ) (us : List Tree) (t : Tree) (j : ℕ) → values env x (polynomials (us ++ t ∷ [])) j ≡ values env x (polynomials us) j + value env (polynomial_of t) * worth env x (j + length us)
unfolding value
values_snoc env x [] t j =
    let e : worth env x j ≡ worth env x (j + 0) = worth_at env x j (j + 0) (omega arith) in
    let p : value env (polynomial_of t) * worth env x j ≡ value env (polynomial_of t) * worth env x (j + 0) = ap (λ z. value env (polynomial_of t) * z) e in
    omega arith
values_snoc env x (u ∷ us) t j =
    let r = values_snoc env x us t (suc j) in
    let e : worth env x (suc j + length us) ≡ worth env x (j + length (u ∷ us)) = worth_at env x (suc j + length us) (j + length (u ∷ us)) (omega arith) in
    let p : value env (polynomial_of t) * worth env x (suc j + length us) ≡ value env (polynomial_of t) * worth env x (j + length (u ∷ us)) = ap (λ z. value env (polynomial_of t) * z) e in
    omega arith

values_more : (env : ℕ → ℕ) (x : ℕ) (ts : List Tree) (k : ℕ) (t : Tree) → k < length ts → t ≡ get_or ts k t → values env x (polynomials (take (k + 1) ts)) 0 ≡ values env x (polynomials (take k ts)) 0 + value env (polynomial_of t) * worth env x k
values_more env x ts k t lt e =
    let s = ap (λ (us : List Tree). values env x (polynomials us) 0) (take_snoc ts k t lt ∙ ap (λ (u : Tree). take k ts ++ u ∷ []) (sym e)) in
    let n : 0 + length (take k ts) ≡ k = omega (arith, length-take {A = Tree}) in
    s ∙ (values_snoc env x (take k ts) t 0 ∙ ap (λ i. values env x (polynomials (take k ts)) 0 + value env (polynomial_of t) * worth env x i) n)

pub values_step : (env : ℕ → ℕ) (M x : ℕ) (ts : List Tree) (k : ℕ) (t : Tree) (s v f : ℕ) → k < length ts → t ≡ get_or ts k t → s ≡ values env x (polynomials (take k ts)) 0 % M → v ≡ value env (polynomial_of t) % M → f ≡ worth env x k % M → (s + (v * f) % M) % M ≡ values env x (polynomials (take (k + 1) ts)) 0 % M
values_step env M x ts k t s v f lt et es ev ef =
    let S = values env x (polynomials (take k ts)) 0 in
    let V = value env (polynomial_of t) in
    let F = worth env x k in
    let p : (v * f) % M % M ≡ (V * F) % M = mod-mod (v * f) M ∙ mul_same M v f V F (ap (λ n. n % M) ev ∙ mod-mod V M) (ap (λ n. n % M) ef ∙ mod-mod F M) in
    add_same M s ((v * f) % M) S (V * F) (ap (λ n. n % M) es ∙ mod-mod S M) p ∙ ap (λ n. n % M) (sym (values_more env x ts k t lt et))

pub value_num : (env : ℕ → ℕ) (v : ℕ) → value env (num v) ≡ v
unfolding value
value_num env v = refl

pub number_if_counter : (f g : ℕ → ℕ) (c : Bool) (l r : ℕ) → c ≡ true → r ≡ g l → r ≡ numbers f g (variable_of c l)
number_if_counter f g c l r e h = subst (λ b. r ≡ numbers f g (variable_of b l)) (sym e) (h ∙ sym (number_of_counter f g l))

pub number_if_symbol : (f g : ℕ → ℕ) (c : Bool) (l r : ℕ) → c ≡ false → r ≡ f l → r ≡ numbers f g (variable_of c l)
number_if_symbol f g c l r e h = subst (λ b. r ≡ numbers f g (variable_of b l)) (sym e) (h ∙ sym (number_of_symbol f g l))

pub factor_counter : (c : Bool) (r x y M : ℕ) → c ≡ true → r ≡ x % M → r ≡ (if c then x else y) % M
factor_counter c r x y M e h = rw e h

pub factor_symbol : (c : Bool) (r x y M : ℕ) → c ≡ false → r ≡ y % M → r ≡ (if c then x else y) % M
factor_symbol c r x y M e h = rw e h

-- ---- powers

pub power_first : (n M : ℕ) → (1 * 1) % M ≡ n ^ 0 % M
power_first n M = let e : 1 ≡ n ^ 0 = sym (pow-zero n) in ap (λ z. z % M) e

pub power_step : (n k M o : ℕ) → o ≡ n ^ k % M → (o * n) % M ≡ n ^ (k + 1) % M
power_step n k M o e =
    let s : k + 1 ≡ suc k = omega arith in
    let p : n ^ k * n ≡ n ^ (k + 1) = sym (ap (λ z. n ^ z) s ∙ pow-suc n k) in
    ap (λ z. (z * n) % M) e ∙ (mul-mod_first (n ^ k) n M ∙ ap (λ z. z % M) p)

pub number_value : (env : ℕ → ℕ) (M v : ℕ) (p : Polynomial) → p ≡ num v → (1 * v) % M ≡ value env p % M
number_value env M v p e = let s : 1 * v ≡ value env p = (let h : 1 * v ≡ v = omega arith in h ∙ (sym (value_num env v) ∙ ap (λ q. value env q) (sym e))) in ap (λ z. z % M) s

pub nested_value : (env : ℕ → ℕ) (M x r : ℕ) (p : Polynomial) (ps : Polynomials) → p ≡ ext x ps → r ≡ values env x ps 0 % M → r ≡ value env p % M
unfolding value
nested_value env M x r p ps e h = h ∙ sym (ap (λ z. z % M) (ap (λ q. value env q) e))

take_none : (ts : List Tree) → take 0 ts ≡ []
take_none [] = refl
take_none (t ∷ ts) = refl

no_values : (env : ℕ → ℕ) (M x : ℕ) (us : List Tree) → 0 < M → us ≡ [] → 0 ≡ values env x (polynomials us) 0 % M
unfolding value
no_values env M x [] some e = sym (mod-eq_of_lt some)
no_values env M x (u ∷ us) some e = absurd cc

pub values_first : (env : ℕ → ℕ) (M x : ℕ) (ts : List Tree) → 0 < M → 0 ≡ values env x (polynomials (take 0 ts)) 0 % M
values_first env M x ts some = no_values env M x (take 0 ts) some (take_none ts)

pub values_end : (env : ℕ → ℕ) (M x s k : ℕ) (ts : List Tree) → length ts ≤ k → s ≡ values env x (polynomials (take k ts)) 0 % M → s ≡ values env x (polynomials ts) 0 % M
values_end env M x s k ts le e = e ∙ ap (λ (us : List Tree). values env x (polynomials us) 0 % M) (take_all k ts le)
