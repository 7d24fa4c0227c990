-- a polynomial as one in a variable that may not stand in it
use Rattle.std.proofs.Common.{◌≡◌, ℕ, List, [], ◌∷◌, refl}
use Rattle.scev_tree.specs.declared.tree.Tree.{Tree}
use Rattle.scev_tree.specs.Polynomial.{Polynomial, Polynomials, ext, none, more, Under}
use Rattle.scev_tree.specs.Side.{IsSide}
use Rattle.scev_tree.specs.Tree.{polynomials, polynomial_of}
use Rattle.scev_tree.proofs.GrowingLists.{one_at}
use Rattle.scev_tree.proofs.TreePlaces.{places_canon}

pub side_one : (x : ℕ) (a : Polynomial) → Under a x → IsSide x (more a none) a
side_one x a u = record { canon = λ M c. (u, c, tt); at = λ M c m top is. one_at M x a m top c u is }

pub side_ext : (x : ℕ) (ps : Polynomials) → IsSide x ps (ext x ps)
side_ext x ps = record { canon = λ M c. places_canon M x ps c; at = λ M c m top is. refl }

pub side_list : (x : ℕ) (t : Tree) (ts : List Tree) → ts ≡ t ∷ [] → Under (polynomial_of t) x → IsSide x (polynomials ts) (polynomial_of t)
side_list x t ts e u = rw e (side_one x (polynomial_of t) u)

pub side_places : (x y : ℕ) (p : Polynomial) (ts : List Tree) → p ≡ ext y (polynomials ts) → y ≡ x → IsSide x (polynomials ts) p
side_places x y p ts e f = rw (e, f) (side_ext x (polynomials ts))
