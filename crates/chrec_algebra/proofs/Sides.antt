-- two polynomials as polynomials in one variable
use Rattle.std.proofs.Common.{◌≡◌, ℕ, List, [], ◌∷◌, ap, ◌∙◌, sym, arith}
use Rattle.scev_tree.specs.declared.tree.Tree.{Tree}
use Rattle.scev_tree.specs.Polynomial.{Polynomial, ext, Under}
use Rattle.scev_tree.specs.Tree.{polynomials, polynomial_of}
use Rattle.chrec_algebra.specs.Align.{AreSides}
pub use Rattle.scev_tree.proofs.ListedTrees.{polynomial_of_ext, polynomial_of_num}
pub use Rattle.scev_tree.proofs.Sides.{side_one, side_ext, side_list, side_places}

pub sides_left : (x : ℕ) (t : Tree) (b : Polynomial) (ts us : List Tree) → ts ≡ t ∷ [] → b ≡ ext x (polynomials us) → Under (polynomial_of t) x → AreSides x (polynomials ts) (polynomials us) (polynomial_of t) b
sides_left x t b ts us e f u = rw (e, f) (record { left = side_one x (polynomial_of t) u; right = side_ext x (polynomials us); narrow_left = λ n. (omega arith, (n, tt)); narrow_right = λ n. n; under = λ y ua ub. ub; weight = omega arith })

pub sides_right : (x : ℕ) (a : Polynomial) (t : Tree) (ts us : List Tree) → us ≡ t ∷ [] → a ≡ ext x (polynomials ts) → Under (polynomial_of t) x → AreSides x (polynomials ts) (polynomials us) a (polynomial_of t)
sides_right x a t ts us e f u = rw (e, f) (record { left = side_ext x (polynomials ts); right = side_one x (polynomial_of t) u; narrow_left = λ n. n; narrow_right = λ n. (omega arith, (n, tt)); under = λ y ua ub. ua; weight = omega arith })

pub sides_both : (x y : ℕ) (a b : Polynomial) (ts us : List Tree) → x ≡ y → a ≡ ext x (polynomials ts) → b ≡ ext y (polynomials us) → AreSides x (polynomials ts) (polynomials us) a b
sides_both x y a b ts us e f g =
    let g' : b ≡ ext x (polynomials us) = g ∙ ap (λ z. ext z (polynomials us)) (sym e) in
    rw (f, g') (record { left = side_ext x (polynomials ts); right = side_ext x (polynomials us); narrow_left = λ n. n; narrow_right = λ n. n; under = λ z ua ub. ua; weight = omega arith })
