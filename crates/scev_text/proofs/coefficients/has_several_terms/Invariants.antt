use Rattle.std.proofs.Common.{◌≡◌, ◌+◌, ◌≤◌, drop}
use Rattle.scev_text.specs.Texts.{terms_in}
use Rattle.scev_tree.specs.Tree.{polynomials}
use Rattle.scev_text.proofs.coefficients.has_several_terms.Given as goal

abbrev pub invariant-loop-place : goal.invariant-loop-place
invariant-loop-place l = (l.terms + terms_in (polynomials (drop l.place-index l.places)) ≡ terms_in (polynomials l.places)) × (l.terms ≤ l.place-index)
