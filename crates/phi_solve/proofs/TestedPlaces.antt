-- the places that a test puts into a tree
use Rattle.std.proofs.Common.{◌≡◌, ℕ, ◌+◌, ◌^◌, List, [], ◌∷◌, ◌++◌, refl, ap, ◌∙◌, sym, subst, Bool, true, IsTrue, ◌↔◌}
use Rattle.std.specs.Prelude.{bit_and}
use Rattle.scev_tree.specs.declared.tree.Tree.{Tree, Num}
use Rattle.scev_tree.specs.Polynomial.{Polynomial, Under, IsCanonical, AreCanonical}
use Rattle.scev_tree.specs.Tree.{polynomial_of, polynomials}
use Rattle.scev_tree.proofs.Leaves.{number_canonical}
use Rattle.scev_tree.proofs.TreePlaces.{under_num}

pub around_canonical : (w x m n f s : ℕ) (t : Tree) (us vs ys zs : List Tree) → m + 1 ≡ 2 ^ w → n + 1 ≡ 2 ^ w → us ≡ [] → vs ≡ us ++ t ∷ [] → ys ≡ vs ++ Num (bit_and f m) ∷ [] → zs ≡ ys ++ Num (bit_and s n) ∷ [] → Under (polynomial_of t) x → IsCanonical (2 ^ w) (polynomial_of t) → AreCanonical (2 ^ w) (polynomials zs) x
around_canonical w x m n f s t us vs ys zs em en eu ev ey ez u c =
    let k : zs ≡ t ∷ Num (bit_and f m) ∷ Num (bit_and s n) ∷ [] =
    ez ∙ ap (λ (ts : List Tree). ts ++ Num (bit_and s n) ∷ []) (ey ∙ ap (λ (ts : List Tree). ts ++ Num (bit_and f m) ∷ []) (ev ∙ ap (λ (ts : List Tree). ts ++ t ∷ []) eu)) in
    subst (λ (ts : List Tree). AreCanonical (2 ^ w) (polynomials ts) x) (sym k)
    (u, c, (under_num (Num (bit_and f m)) (bit_and f m) x refl, number_canonical f w m em, (under_num (Num (bit_and s n)) (bit_and s n) x refl, number_canonical s w n en, tt)))

pub low_of : (b : Bool) (p : Polynomial) (x y : ℕ) → IsTrue b ↔ Under p x → b ≡ true → x ≡ y → Under p y
low_of b p x y h e k = subst (λ z. Under p z) k (h.0 e)
