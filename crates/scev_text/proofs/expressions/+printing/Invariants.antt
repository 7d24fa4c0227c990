use Rattle.std.proofs.Common.{◌≡◌, ◌+◌, ◌*◌, ◌++◌, drop, string_bytes, false}
use Rattle.scev_tree.specs.Tree.{polynomial_of, polynomials, weight, weights}
use Rattle.scev_text.specs.Texts.{terms_text}
use Rattle.scev_text.proofs.Places.{more_places}
use Rattle.scev_text.proofs.expressions.+printing.Given as goal

abbrev pub invariant-push_places-loop-place : goal.invariant-push_places-loop-place
invariant-push_places-loop-place l =
    string_bytes l.out ++ more_places l.names l.w l.behind (polynomials (drop l.place-index l.places)) ≡ string_bytes l.fn.out ++ more_places l.names l.w false (polynomials l.places)

abbrev pub invariant-push_terms-loop-exponent : goal.invariant-push_terms-loop-exponent
invariant-push_terms-loop-exponent l =
    string_bytes l.out ++ terms_text l.names l.w l.label.0 l.behind l.exponent (polynomials (drop l.exponent l.places)) ≡ string_bytes l.fn.out ++ terms_text l.names l.w l.label.0 false 0 (polynomials l.places)

abbrev pub decreases-push_tree : goal.decreases-push_tree
decreases-push_tree l = 4 * weight (polynomial_of l.t.now)

abbrev pub decreases-push_factor : goal.decreases-push_factor
decreases-push_factor l = 4 * weight (polynomial_of l.t.now) + 1

abbrev pub decreases-push_coefficient : goal.decreases-push_coefficient
decreases-push_coefficient l = 4 * weight (polynomial_of l.t.now) + 2

abbrev pub decreases-push_term : goal.decreases-push_term
decreases-push_term l = 4 * weight (polynomial_of l.place.now) + 3

abbrev pub decreases-push_terms : goal.decreases-push_terms
decreases-push_terms l = 4 * weights (polynomials l.places.now)

abbrev pub decreases-push_places : goal.decreases-push_places
decreases-push_places l = 4 * weights (polynomials l.places.now)

abbrev pub decreases-push_recurrence : goal.decreases-push_recurrence
decreases-push_recurrence l = 4 * weights (polynomials l.places.now) + 1
