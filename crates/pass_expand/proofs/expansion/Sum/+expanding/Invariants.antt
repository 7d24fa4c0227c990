use Rattle.std.proofs.Common.{◌≡◌, ◌+◌, ◌*◌, ◌++◌, false, drop, replicate, reverse}
use Rattle.pass_copy.specs.declared.building.Out.{Out}
use Rattle.pass_expand.specs.Added.{Adds}
use Rattle.pass_expand.specs.Expandable.{AreInSymbols}
use Rattle.pass_expand.specs.Expanded.{steps, sum_after}
use Rattle.pass_expand.specs.Terms.{place_terms}
use Rattle.scev_tree.specs.Polynomial.{variable_of}
use Rattle.scev_tree.specs.Tree.{polynomial_of, polynomials, weight, weights}
use Rattle.pass_expand.proofs.expansion.Sum.+expanding.Given as goal

abbrev pub invariant-add_places-loop-t : goal.invariant-add_places-loop-t
invariant-add_places-loop-t l = record {
  behind : (new : Out)
      → Adds l.out l.fn.self.ty
      (steps l.fn.self.ty l.out.at l.self.value (place_terms (variable_of false l.x.0) (polynomials (drop l.t-index l.ts)) (reverse l.self.symbols.items))) new
      → Adds l.fn.out l.fn.self.ty
      (steps l.fn.self.ty l.fn.out.at l.fn.self.value (place_terms (variable_of false l.x.0) (polynomials l.ts) (reverse l.fn.self.symbols.items))) new;
  value : sum_after l.out.at l.self.value (place_terms (variable_of false l.x.0) (polynomials (drop l.t-index l.ts)) (reverse l.self.symbols.items))
      ≡ sum_after l.fn.out.at l.fn.self.value (place_terms (variable_of false l.x.0) (polynomials l.ts) (reverse l.fn.self.symbols.items));
  symbols : l.self.symbols.items ≡ l.fn.self.symbols.items ++ replicate l.t-index l.x;
  ty : l.self.ty ≡ l.fn.self.ty;
  anew : l.out.fresh.kept ≡ false;
  plain : AreInSymbols (polynomials (drop l.t-index l.ts));
}

abbrev pub decreases-add_tree : goal.decreases-add_tree
decreases-add_tree l = 2 * weight (polynomial_of l.t.now)

abbrev pub decreases-add_places : goal.decreases-add_places
decreases-add_places l = 2 * weights (polynomials l.ts.now) + 1
