-- trees are compared place by place
use Rattle.std.proofs.Common.{◌≡◌, ℕ, zero, suc, ◌+◌, ◌<◌, ◌≤◌, ◌↔◌, IsTrue, Bool, true, false, List, [], ◌∷◌, ◌++◌, refl, ap, ◌∙◌, sym, arith, length, get_or, take, take_all, nat_eq}
use Rattle.std.proofs.lemmas.Bool.{eq-eqb, eqb-true}
use Rattle.scev_tree.specs.declared.tree.Tree.{Tree, Num}
use Rattle.scev_tree.specs.Polynomial.{Polynomial, Polynomials, num, ext}
use Rattle.scev_tree.specs.Tree.{polynomial_of, polynomials, len}
use Rattle.scev_tree.proofs.ListedTrees.{polynomial_of_num, len_is}
use Rattle.scev_tree.proofs.GrowingLists.{snoc, polynomials_snoc, take_snoc}

pub equal_numbers : (a b : Tree) (u v : ℕ) → a ≡ Num u → b ≡ Num v → IsTrue (nat_eq u v) ↔ (polynomial_of a ≡ polynomial_of b)
equal_numbers a b u v ea eb =
    let pa : polynomial_of a ≡ num u = ap polynomial_of ea ∙ polynomial_of_num u in
    let pb : polynomial_of b ≡ num v = ap polynomial_of eb ∙ polynomial_of_num v in
    (λ t. pa ∙ (ap num (eqb-true u v t) ∙ sym pb), λ e. (let n : num u ≡ num v = sym pa ∙ (e ∙ pb) in let h : u ≡ v = cc in eq-eqb u v h))

pub differ_right : (a b : Tree) (u x : ℕ) (ps : Polynomials) → a ≡ Num u → polynomial_of b ≡ ext x ps → IsTrue false ↔ (polynomial_of a ≡ polynomial_of b)
differ_right a b u x ps ea eb =
    let pa : polynomial_of a ≡ num u = ap polynomial_of ea ∙ polynomial_of_num u in
    (λ t. absurd cc, λ e. (let n : num u ≡ ext x ps = sym pa ∙ (e ∙ eb) in cc))

pub differ_left : (a b : Tree) (v x : ℕ) (ps : Polynomials) → polynomial_of a ≡ ext x ps → b ≡ Num v → IsTrue false ↔ (polynomial_of a ≡ polynomial_of b)
differ_left a b v x ps ea eb =
    let pb : polynomial_of b ≡ num v = ap polynomial_of eb ∙ polynomial_of_num v in
    (λ t. absurd cc, λ e. (let n : ext x ps ≡ num v = sym ea ∙ (e ∙ pb) in cc))

pub equal_nested : (a b : Polynomial) (x y : ℕ) (ps qs : Polynomials) (r : Bool) → a ≡ ext x ps → b ≡ ext y qs → x ≡ y → IsTrue r ↔ (ps ≡ qs) → IsTrue r ↔ (a ≡ b)
equal_nested a b x y ps qs r ea eb e h =
    (λ t. (let i : ps ≡ qs = h.0 t in cc), λ q. h.1 (let n : ext x ps ≡ ext y qs = sym ea ∙ (q ∙ eb) in cc))

pub differ_nested : (a b : Polynomial) (x y r s : ℕ) (ps qs : Polynomials) → a ≡ ext x ps → b ≡ ext y qs → r ≡ x → s ≡ y → (r ≡ s → ⊥) → IsTrue (nat_eq r s) ↔ (a ≡ b)
differ_nested a b x y r s ps qs ea eb er es ne =
    (λ t. absurd (ne (eqb-true r s t)), λ q. absurd (ne (let n : ext x ps ≡ ext y qs = sym ea ∙ (q ∙ eb) in let h : x ≡ y = cc in er ∙ (h ∙ sym es))))

pub differ_length : (ps qs : List Tree) → (length ps ≡ length qs → ⊥) → IsTrue false ↔ (polynomials ps ≡ polynomials qs)
differ_length ps qs ne = (λ t. absurd cc, λ e. absurd (ne (sym (len_is ps) ∙ (ap len e ∙ len_is qs))))

at_equal : (ps qs : List Tree) (i : ℕ) (p q : Tree) → polynomials ps ≡ polynomials qs → i < length ps → i < length qs → p ≡ get_or ps i p → q ≡ get_or qs i q → polynomial_of p ≡ polynomial_of q
at_equal [] qs i p q e lp lq ep eq = absurd (omega arith)
at_equal (a ∷ ps) [] i p q e lp lq ep eq = absurd (omega arith)
at_equal (a ∷ ps) (b ∷ qs) zero p q e lp lq ep eq =
    let h : polynomial_of a ≡ polynomial_of b = cc in
    ap polynomial_of ep ∙ (h ∙ ap polynomial_of (sym eq))
at_equal (a ∷ ps) (b ∷ qs) (suc i) p q e lp lq ep eq =
    let h : polynomials ps ≡ polynomials qs = cc in
    at_equal ps qs i p q h (omega arith) (omega arith) ep eq

pub differ_at : (ps qs : List Tree) (i : ℕ) (p q : Tree) → (polynomial_of p ≡ polynomial_of q → ⊥) → i < length ps → i < length qs → p ≡ get_or ps i p → q ≡ get_or qs i q → IsTrue false ↔ (polynomials ps ≡ polynomials qs)
differ_at ps qs i p q ne lp lq ep eq = (λ t. absurd cc, λ e. absurd (ne (at_equal ps qs i p q e lp lq ep eq)))

next : (ts : List Tree) (i : ℕ) (t : Tree) → i < length ts → t ≡ get_or ts i t → polynomials (take (i + 1) ts) ≡ snoc (polynomials (take i ts)) (polynomial_of t)
next ts i t lt e = ap (λ (us : List Tree). polynomials us) (take_snoc ts i t lt ∙ ap (λ (u : Tree). take i ts ++ u ∷ []) (sym e)) ∙ polynomials_snoc (take i ts) t

pub equal_step : (ps qs : List Tree) (i : ℕ) (p q : Tree) → polynomials (take i ps) ≡ polynomials (take i qs) → polynomial_of p ≡ polynomial_of q → i < length ps → i < length qs → p ≡ get_or ps i p → q ≡ get_or qs i q → polynomials (take (i + 1) ps) ≡ polynomials (take (i + 1) qs)
equal_step ps qs i p q e h lp lq ep eq =
    let a = next ps i p lp ep in
    let b = next qs i q lq eq in
    a ∙ (ap (λ (us : Polynomials). snoc us (polynomial_of p)) e ∙ (ap (λ (r : Polynomial). snoc (polynomials (take i qs)) r) h ∙ sym b))

whole : (ts : List Tree) (i : ℕ) → i ≡ length ts → take i ts ≡ ts
whole ts i e = let le : length ts ≤ i = omega arith in rw take_all refl

pub equal_end : (ps qs : List Tree) (i : ℕ) → i ≡ length ps → length ps ≡ length qs → polynomials (take i ps) ≡ polynomials (take i qs) → IsTrue true ↔ (polynomials ps ≡ polynomials qs)
equal_end ps qs i e l h =
    (λ t. sym (ap (λ (us : List Tree). polynomials us) (whole ps i e)) ∙ (h ∙ ap (λ (us : List Tree). polynomials us) (whole qs i (e ∙ l))), λ q. refl)

pub unequal : (b : Bool) (P : Type 0) → IsTrue b ↔ P → b ≡ false → P → ⊥
unequal b P h e q = let t : b ≡ true = h.1 q in absurd cc

pub equal : (b : Bool) (P : Type 0) → IsTrue b ↔ P → b ≡ true → P
equal b P h e = h.0 e
