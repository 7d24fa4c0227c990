-- The texts of numbers, counters and symbols as trees.
use Rattle.std.proofs.Common.{◌≡◌, ℕ, ◌+◌, ◌<◌, ◌++◌, List, Bool, true, false, codes, refl, ap, ◌∙◌, sym, subst}
use Rattle.arith_word.specs.declared.label.Label.{Label}
use Rattle.scev_tree.specs.declared.tree.Tree.{Tree, Num, Ext}
use Rattle.scev_tree.specs.Polynomial.{Polynomial, Polynomials, ext, variable_of, IsCanonical, AreCanonical}
use Rattle.scev_tree.specs.Tree.{polynomial_of, polynomials, weight, weights}
use Rattle.scev_tree.proofs.ListedTrees.{polynomial_of_num}
use Rattle.scev_tree.proofs.TreePlaces.{ext_is, places_canon}
use Rattle.scev_text.specs.Naming.{Naming, loop_text}
use Rattle.scev_text.specs.Texts.{number_text, places_text, polynomial_text, terms_text}
use Rattle.scev_text.proofs.Variables.{counter_is, counter_label, symbol_is, symbol_label}

pub number_printed : (names : Naming) (w v : ℕ) (t : Tree) (old new : List ℕ) → t ≡ Num v → new ≡ old ++ number_text w v → new ≡ old ++ polynomial_text names w (polynomial_of t)
number_printed names w v t old new e h = rw (e, polynomial_of_num) h

pub number_below : (M v : ℕ) (t : Tree) → t ≡ Num v → IsCanonical M (polynomial_of t) → v < M
number_below M v t e h = subst (λ (p : Polynomial). IsCanonical M p) (ap polynomial_of e ∙ polynomial_of_num v) h

counter_text : (names : Naming) (w : ℕ) (x : Label) (ps : Polynomials) → polynomial_text names w (ext (variable_of true x.0) ps) ≡ codes "{" ++ places_text names w ps ++ codes "}<" ++ loop_text names.loops x.0 ++ codes ">"
counter_text names w x ps = rw (counter_is x.0, counter_label x.0) refl

pub counter_printed : (names : Naming) (w : ℕ) (t : Tree) (c : Bool) (x : Label) (ops us : List Tree) (old new : List ℕ) → t ≡ Ext c x ops → c ≡ true → us ≡ ops
    → new ≡ old ++ (codes "{" ++ places_text names w (polynomials us) ++ codes "}<" ++ loop_text names.loops x.0 ++ codes ">")
    → new ≡ old ++ polynomial_text names w (polynomial_of t)
counter_printed names w t c x ops us old new e h o n =
    n ∙ ap (λ ts. old ++ ts) (sym (ap (polynomial_text names w) (ext_is t c x ops us e o ∙ ap (λ (b : Bool). ext (variable_of b x.0) (polynomials us)) h) ∙ counter_text names w x (polynomials us)))

symbol_text : (names : Naming) (w : ℕ) (x : Label) (ps : Polynomials) → polynomial_text names w (ext (variable_of false x.0) ps) ≡ terms_text names w x.0 false 0 ps
symbol_text names w x ps = rw (symbol_is x.0, symbol_label x.0) refl

pub symbol_printed : (names : Naming) (w : ℕ) (t : Tree) (c : Bool) (x : Label) (ops us : List Tree) (old new : List ℕ) → t ≡ Ext c x ops → c ≡ false → us ≡ ops
    → new ≡ old ++ terms_text names w x.0 false 0 (polynomials us)
    → new ≡ old ++ polynomial_text names w (polynomial_of t)
symbol_printed names w t c x ops us old new e h o n =
    n ∙ ap (λ ts. old ++ ts) (sym (ap (polynomial_text names w) (ext_is t c x ops us e o ∙ ap (λ (b : Bool). ext (variable_of b x.0) (polynomials us)) h) ∙ symbol_text names w x (polynomials us)))

-- the places of a canonical tree
pub places_are : (M : ℕ) (t : Tree) (c b : Bool) (x : Label) (ops us : List Tree) → t ≡ Ext c x ops → c ≡ b → us ≡ ops → IsCanonical M (polynomial_of t) → AreCanonical M (polynomials us) (variable_of b x.0)
places_are M t c b x ops us e h o k =
    places_canon M (variable_of b x.0) (polynomials us) (subst (λ (p : Polynomial). IsCanonical M p) (ext_is t c x ops us e o ∙ ap (λ (d : Bool). ext (variable_of d x.0) (polynomials us)) h) k)

pub weight_is : (t : Tree) (c : Bool) (x : Label) (ops us : List Tree) → t ≡ Ext c x ops → us ≡ ops → weight (polynomial_of t) ≡ 3 + weights (polynomials us)
weight_is t c x ops us e o = ap weight (ext_is t c x ops us e o)
