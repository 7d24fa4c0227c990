-- The places of a counter, one by one.
use Rattle.std.proofs.Common.{◌≡◌, ℕ, ◌≤◌, List, [], ◌++◌, Bool, true, false, if◌then◌else◌, codes, refl, ap, ◌∙◌, sym, append_assoc, append-nil, drop, length}
use Rattle.std.proofs.lemmas.List.{drop_all}
use Rattle.scev_tree.specs.declared.tree.Tree.{Tree}
use Rattle.scev_tree.specs.Polynomial.{Polynomials, none, more}
use Rattle.scev_tree.specs.Tree.{polynomials}
use Rattle.scev_text.specs.Naming.{Naming}
use Rattle.scev_text.specs.Texts.{places_text, polynomial_text}

-- places behind others or not
abbrev pub more_places : Naming → ℕ → Bool → Polynomials → List ℕ
more_places names w behind none = []
more_places names w behind (more p ps) = (if behind then codes ",+," else []) ++ (polynomial_text names w p ++ more_places names w true ps)

pub first_places : (names : Naming) (w : ℕ) (ps : Polynomials) → more_places names w false ps ≡ places_text names w ps
first_places names w none = refl
first_places names w (more p none) = append-nil (polynomial_text names w p)
first_places names w (more p (more q ps)) =
    sym (append_assoc (polynomial_text names w p) (codes ",+,") _) ∙ ap (λ ts. polynomial_text names w p ++ codes ",+," ++ ts) (first_places names w (more q ps))

-- behind the last of them
pub last_place : (names : Naming) (w : ℕ) (behind : Bool) (start out : List ℕ) (ts : List Tree) (i : ℕ) → length ts ≤ i
    → out ++ more_places names w behind (polynomials (drop i ts)) ≡ start ++ more_places names w false (polynomials ts) → out ≡ start ++ places_text names w (polynomials ts)
last_place names w behind start out ts i ge h =
    let k : out ++ [] ≡ start ++ more_places names w false (polynomials ts) = ap (λ (us : List Tree). out ++ more_places names w behind (polynomials us)) (sym (drop_all i ts ge)) ∙ h in
    sym (append-nil out) ∙ k ∙ ap (λ us. start ++ us) (first_places names w (polynomials ts))
