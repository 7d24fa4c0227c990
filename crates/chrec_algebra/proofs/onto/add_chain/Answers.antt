use Rattle.std.proofs.Common.{arith, ◌^◌, ◌≡◌, ap, ◌∙◌, sym, subst}
use Rattle.scev_tree.specs.Variable.{rank_of}
use Rattle.std.proofs.lemmas.Nat.{pow_pos}
use Rattle.scev_tree.specs.Polynomial.{ext, IsCanonical, variable_of}
use Rattle.scev_tree.specs.Tree.{polynomial_of, polynomials}
use Rattle.scev_tree.proofs.ListedTrees.{polynomial_of_ext}
use Rattle.scev_tree.proofs.TreePlaces.{places_canon}
use Rattle.chrec_algebra.specs.Onto.{IsAddedIn}
use Rattle.chrec_algebra.specs.Numbers.{numbers}
use Rattle.chrec_algebra.proofs.InPlace.{added_numbers}
use Rattle.chrec_algebra.proofs.onto.add_chain.Goals as goal

pub add_numbers-requires-clause-places : goal.add_numbers-requires-clause-places
add_numbers-requires-clause-places c =
    let x = rank_of c.args.by.now.x in
    let same : variable_of c.in-Ext.other c.in-Ext.to.0 ≡ x = omega (arith, c.rank.ensures, c.rank-in-Ext.ensures, c.if-rank.true) in
    let is = ap polynomial_of c.in-Ext.is ∙ (polynomial_of_ext c.in-Ext.other c.in-Ext.to c.in-Ext.ops ∙ ap (λ y. ext y (polynomials c.in-Ext.ops)) same) in
    (x, places_canon (2 ^ c.args.by.now.w) x (polynomials c.in-Ext.ops) (subst (IsCanonical (2 ^ c.args.by.now.w)) is c.requires.old), c.requires.numbers)

pub returns-then-rank : goal.returns-then-rank
returns-then-rank c =
    let x = rank_of c.args.by.now.x in
    let same : variable_of c.in-Ext.other c.in-Ext.to.0 ≡ x = omega (arith, c.rank.ensures, c.rank-in-Ext.ensures, c.if-rank.true) in
    let is = ap polynomial_of c.in-Ext.is ∙ (polynomial_of_ext c.in-Ext.other c.in-Ext.to c.in-Ext.ops ∙ ap (λ y. ext y (polynomials c.in-Ext.ops)) same) in
    let canon = places_canon (2 ^ c.args.by.now.w) x (polynomials c.in-Ext.ops) (subst (IsCanonical (2 ^ c.args.by.now.w)) is c.requires.old) in
    let added = c.in_ok-add_numbers-in-Ext.ensures in
    subst (λ p. IsAddedIn (2 ^ c.args.by.now.w) c.args.by.now.c x (polynomial_of c.rebuild.result) p (numbers c.args.vs.now)) (sym is) (added_numbers (2 ^ c.args.by.now.w) c.args.by.now.c c.args.count x _ _ _ _ (pow_pos c.args.by.now.w) c.requires.rest canon added (c.rebuild.ensures (2 ^ c.args.by.now.w) (pow_pos c.args.by.now.w) (added.canon x canon c.requires.numbers)))
