use Rattle.std.proofs.Common.{◌≡◌, ◌∙◌, ◌+◌, ap, subst, arith, false, drop, List, ◌++◌, ◌∷◌, [], reverse}
use Rattle.arith_word.specs.declared.label.Label.{Label}
use Rattle.pass_expand.specs.Added.{Adds}
use Rattle.pass_expand.specs.Expanded.{steps}
use Rattle.pass_expand.specs.Terms.{terms}
use Rattle.std.proofs.lemmas.Result.{on_ok_weaker}
use Rattle.scev_tree.specs.Polynomial.{ext, more, num, variable_of}
use Rattle.scev_tree.specs.Tree.{polynomial_of, polynomials, weight}
use Rattle.scev_tree.proofs.ListedTrees.{polynomial_of_num}
use Rattle.scev_tree.proofs.TreePlaces.{ext_is, lighter}
use Rattle.pass_expand.proofs.AddedTrees.{no_counter, places_plain, first_plain, rest_plain, tree_added, tree_after, place_then, place_after, more_symbols, places_done, places_left}
use Rattle.pass_expand.proofs.PlacesFrom.{place_from, places_end}
use Rattle.pass_expand.proofs.expansion.Sum.+expanding.Goals as goal

pub add_tree-returns-in-Num-clause-value : goal.add_tree-returns-in-Num-clause-value
add_tree-returns-in-Num-clause-value t c =
    on_ok_weaker c.add_number.result
    (tree_after c.args.out.now.at c.add_number.new.self.value c.args.self.now.value (num c.in-Num.v) (polynomial_of c.args.t.now) _ (ap polynomial_of c.in-Num.is ∙ polynomial_of_num c.in-Num.v))
    c.add_number.ensures.value

pub add_tree-returns-in-Num-clause-built : goal.add_tree-returns-in-Num-clause-built
add_tree-returns-in-Num-clause-built t c =
    on_ok_weaker c.add_number.result
    (tree_added c.args.self.now.ty c.args.out.now c.add_number.new.out c.args.self.now.value (num c.in-Num.v) (polynomial_of c.args.t.now) _ (ap polynomial_of c.in-Num.is ∙ polynomial_of_num c.in-Num.v))
    c.add_number.ensures.built

pub add_tree-add_places-requires : goal.add_tree-add_places-requires
add_tree-add_places-requires t c =
    let e : polynomial_of c.args.t.now ≡ ext (variable_of c.in-Ext.counter c.in-Ext.var.0) (polynomials c.as_slice.result.now) =
    ext_is c.args.t.now c.in-Ext.counter c.in-Ext.var c.in-Ext.ops c.as_slice.result.now c.in-Ext.is c.as_slice.ensures in
    (omega (arith, ap weight e), (c.requires.anew, places_plain _ (polynomial_of c.args.t.now) _ e c.requires.plain))

pub add_tree-returns-in_ok-add_places-in-Ext-clause-value : goal.add_tree-returns-in_ok-add_places-in-Ext-clause-value
add_tree-returns-in_ok-add_places-in-Ext-clause-value t c =
    let e : polynomial_of c.args.t.now ≡ ext (variable_of c.in-Ext.counter c.in-Ext.var.0) (polynomials c.as_slice.result.now) =
    ext_is c.args.t.now c.in-Ext.counter c.in-Ext.var c.in-Ext.ops c.as_slice.result.now c.in-Ext.is c.as_slice.ensures in
    let odd : polynomial_of c.args.t.now ≡ ext (variable_of false c.in-Ext.var.0) (polynomials c.as_slice.result.now) =
    no_counter c.in-Ext.counter c.in-Ext.var.0 (polynomial_of c.args.t.now) _ e c.requires.plain in
    tree_after c.args.out.now.at c.add_places.new.self.value c.args.self.now.value _ (polynomial_of c.args.t.now) _ odd c.in_ok-add_places-in-Ext.ensures.value

pub add_tree-returns-in_ok-add_places-in-Ext-clause-built : goal.add_tree-returns-in_ok-add_places-in-Ext-clause-built
add_tree-returns-in_ok-add_places-in-Ext-clause-built t c =
    let e : polynomial_of c.args.t.now ≡ ext (variable_of c.in-Ext.counter c.in-Ext.var.0) (polynomials c.as_slice.result.now) =
    ext_is c.args.t.now c.in-Ext.counter c.in-Ext.var c.in-Ext.ops c.as_slice.result.now c.in-Ext.is c.as_slice.ensures in
    let odd : polynomial_of c.args.t.now ≡ ext (variable_of false c.in-Ext.var.0) (polynomials c.as_slice.result.now) =
    no_counter c.in-Ext.counter c.in-Ext.var.0 (polynomial_of c.args.t.now) _ e c.requires.plain in
    tree_added c.args.self.now.ty c.args.out.now c.add_places.new.out c.args.self.now.value _ (polynomial_of c.args.t.now) _ odd c.in_ok-add_places-in-Ext.ensures.built

pub add_places-add_tree-requires : goal.add_places-add_tree-requires
add_places-add_tree-requires t c =
    let e : polynomials (drop c.loop-t.t-index c.args.ts.now) ≡ more (polynomial_of c.t-item.result) (polynomials (drop (c.loop-t.t-index + 1) c.args.ts.now)) =
    place_from c.args.ts.now c.loop-t.t-index c.t-item.result (omega arith) c.t-item.is in
    (omega (arith, lighter c.args.ts.now c.loop-t.t-index c.t-item.result c.t-item.is (omega arith)), (c.loop-t.invariant.anew, first_plain _ _ _ e c.loop-t.invariant.plain))

pub add_places-loop-t-preserved : goal.add_places-loop-t-preserved
add_places-loop-t-preserved t c =
    let ts = c.args.ts.now in
    let i = c.loop-t.t-index in
    let x = c.args.x in
    let ty = c.args.self.now.ty in
    let p = polynomial_of c.t-item.result in
    let ps = polynomials (drop (i + 1) ts) in
    let s = c.loop-t.self.symbols.items in
    let s2 = c.push.new.self.items in
    let e : polynomials (drop i ts) ≡ more p ps = place_from ts i c.t-item.result (omega arith) c.t-item.is in
    let pushed : s2 ≡ s ++ x ∷ [] = c.in_ok-push.ensures.items ∙ ap (λ (t : List Label). t ++ x ∷ []) c.in_ok-add_tree.ensures.symbols in
    let built : Adds c.loop-t.out ty (steps ty c.loop-t.out.at c.loop-t.self.value (terms p (reverse s))) c.add_tree.new.out =
    subst (λ y. Adds c.loop-t.out y (steps y c.loop-t.out.at c.loop-t.self.value (terms p (reverse s))) c.add_tree.new.out) c.loop-t.invariant.ty c.in_ok-add_tree.ensures.built in
    record {
      behind = λ new rest.
          c.loop-t.invariant.behind new
          (place_then ty c.loop-t.out c.add_tree.new.out new c.loop-t.self.value c.add_tree.new.self.value x s s2 p ps _ e pushed c.in_ok-add_tree.ensures.value built rest);
      value = place_after ty c.loop-t.out c.add_tree.new.out c.loop-t.self.value c.add_tree.new.self.value x s s2 p ps _ e pushed c.in_ok-add_tree.ensures.value built ∙ c.loop-t.invariant.value;
      symbols = more_symbols c.args.self.now.symbols.items s s2 i x c.loop-t.invariant.symbols pushed;
      ty = c.in_ok-add_tree.ensures.ty ∙ c.loop-t.invariant.ty;
      anew = built.names.kept ∙ c.loop-t.invariant.anew;
      plain = rest_plain p ps _ e c.loop-t.invariant.plain;
    }

pub add_places-returns-clause-built : goal.add_places-returns-clause-built
add_places-returns-clause-built t c =
    c.loop-t.invariant.behind c.loop-t.out (places_done c.args.self.now.ty c.loop-t.out c.loop-t.self.value _ _ _ (places_end c.args.ts.now c.loop-t.t-index (omega arith)))

pub add_places-returns-clause-value : goal.add_places-returns-clause-value
add_places-returns-clause-value t c =
    places_left c.loop-t.out.at c.loop-t.self.value _ _ _ _ (places_end c.args.ts.now c.loop-t.t-index (omega arith)) c.loop-t.invariant.value
