use Rattle.std.proofs.Common.{◌∙◌, sym, subst, arith, List}
use Rattle.arith_word.specs.declared.label.Label.{Label}
use Rattle.pass_expand.specs.Added.{Adds}
use Rattle.pass_expand.specs.Expanded.{products}
use Rattle.pass_expand.proofs.GivenNames.{adds_none}
use Rattle.pass_expand.proofs.PushedProducts.{next_symbol, one_product, all_symbols, no_symbols}
use Rattle.pass_expand.proofs.term.push_products.Goals as goal

pub loop-done-init : goal.loop-done-init
loop-done-init c = record {
  behind = λ new h. subst (λ (xs : List Label). Adds c.args.out.now c.args.ty.now (products c.args.value.0 xs) new) (all_symbols c.args.symbols.now) h;
  anew = c.requires.anew;
  at = c.requires.behind;
  value = omega arith;
}

pub loop-done-preserved : goal.loop-done-preserved
loop-done-preserved c =
    let built = c.in_ok-value.ensures.built in
    let l = c.in_ok-value.ensures.label in
    let b = built.at in
    record {
      behind = λ new rest.
          c.loop-done.invariant.behind new
          (one_product c.args.ty.now c.loop-done.out c.product.new.self new c.loop-done.value.0 c.in_ok-value.value.0 _ _ _
          (next_symbol c.args.symbols.now c.loop-done.done (record { 0 = 0 }) (omega arith)) (omega arith) built rest);
      anew = built.names.kept ∙ c.loop-done.invariant.anew;
      at = omega arith;
      value = omega arith;
    }

pub returns-clause-built : goal.returns-clause-built
returns-clause-built c =
    c.loop-done.invariant.behind c.loop-done.out
    (subst (λ (xs : List Label). Adds c.loop-done.out c.args.ty.now (products c.loop-done.value.0 xs) c.loop-done.out)
    (sym (no_symbols c.args.symbols.now c.loop-done.done (omega arith))) (adds_none c.args.ty.now c.loop-done.out))
