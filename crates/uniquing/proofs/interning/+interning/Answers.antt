use Rattle.std.proofs.Common.{ℕ, ap, sym, ◌∙◌, subst, arith, refl}
use Rattle.cell_code.specs.declared.form.CellForm.{CellForm}
use Rattle.cell_code.specs.Forms.{IsWithinBits, bit_of, word_of}
use Rattle.scev_tree.specs.declared.tree.Tree.{Tree}
use Rattle.scev_tree.specs.Polynomial.{variable_of, IsCanonical}
use Rattle.scev_tree.specs.Tree.{polynomial_of, polynomials, weight}
use Rattle.scev_tree.proofs.ListedTrees.{polynomial_of_num}
use Rattle.scev_tree.proofs.TreePlaces.{ext_is, places_canon, under_num, under_ext}
use Rattle.step_core.specs.Cells.{WordStands, last}
use Rattle.step_core.specs.Parts.{Part, IsTree, one, two, last_tag, ext_tag, number_part, tree_part, places_part}
use Rattle.step_core.proofs.Standing.{stands_more}
use Rattle.uniquing.proofs.Shaping.{variable_below, ext_over, ext_kind, some_places, one_stands, two_stands, as_is, over, over_failed, both, first_failed, second_failed, one_place, more_places, behind, nested_part, on_ok}
use Rattle.uniquing.proofs.interning.+interning.Goals as goal

-- ---- a list of places

pub intern_places-returns-in_err-head-in-len1-clause-interned : goal.intern_places-returns-in_err-head-in-len1-clause-interned
intern_places-returns-in_err-head-in-len1-clause-interned g t c =
    let a : Part = tree_part (polynomial_of c.last-item.result) in
    over_failed g.M.MemoMeaning.meaning c.args.s.now.sizes c.args.p.now.view c.intern_tree.new.p.view last_tag a _ _ c.from_residual.result (one_place c.args.ts.now c.last-item.result c.in-len1.len_at_least c.in-len1.len_below c.last-item.is) c.from_residual.ensures.0 c.in_err-head-in-len1.ensures.interned

pub intern_places-put_part-requires-clause-word : goal.intern_places-put_part-requires-clause-word
intern_places-put_part-requires-clause-word g t c =
    let a : Part = tree_part (polynomial_of c.last-item.result) in
    let x = c.in_ok-head-in-len1.ensures in
    (one last_tag a, one_stands c.intern_tree.new.p.view.cells last_tag c.in_ok-head-in-len1.head a (last refl x.kind) x.id x.interned.ends)

pub intern_places-returns-in_ok-head-in-len1-clause-interned : goal.intern_places-returns-in_ok-head-in-len1-clause-interned
intern_places-returns-in_ok-head-in-len1-clause-interned g t c =
    let a : Part = tree_part (polynomial_of c.last-item.result) in
    let x = c.in_ok-head-in-len1.ensures in
    let ws = one_stands c.intern_tree.new.p.view.cells last_tag c.in_ok-head-in-len1.head a (last refl x.kind) x.id x.interned.ends in
    over g.M.MemoMeaning.meaning c.args.s.now.sizes c.args.p.now.view c.intern_tree.new.p.view c.put_part.new.p.view last_tag c.in_ok-head-in-len1.head a _ c.put_part.result (one_place c.args.ts.now c.last-item.result c.in-len1.len_at_least c.in-len1.len_below c.last-item.is)
    x.interned (c.put_part.ensures.interned (one last_tag a) ws)

pub intern_places-returns-in_err-head-in-len1-up-clause-interned : goal.intern_places-returns-in_err-head-in-len1-up-clause-interned
intern_places-returns-in_err-head-in-len1-up-clause-interned g t c =
    let a : Part = tree_part (polynomial_of c.first-item.result) in
    let b : Part = places_part (polynomials (behind c.args.ts.now)) in
    first_failed g.M.MemoMeaning.meaning c.args.s.now.sizes c.args.p.now.view c.intern_tree-in-len1-up.new.p.view a b _ _ c.from_residual-in_err-head-in-len1-up.result (more_places c.args.ts.now c.first-item.result c.in-len1-up.len_at_least c.first-item.is) c.from_residual-in_err-head-in-len1-up.ensures.0 c.in_err-head-in-len1-up.ensures.interned

pub intern_places-returns-in_err-others-in-len1-up-clause-interned : goal.intern_places-returns-in_err-others-in-len1-up-clause-interned
intern_places-returns-in_err-others-in-len1-up-clause-interned g t c =
    let a : Part = tree_part (polynomial_of c.first-item.result) in
    let b : Part = places_part (polynomials (behind c.args.ts.now)) in
    second_failed g.M.MemoMeaning.meaning c.args.s.now.sizes c.args.p.now.view c.intern_tree-in-len1-up.new.p.view c.intern_places.new.p.view a b _ c.in_ok-head-in-len1-up.head _ c.from_residual-in_err-others-in-len1-up.result
    (more_places c.args.ts.now c.first-item.result c.in-len1-up.len_at_least c.first-item.is) c.from_residual-in_err-others-in-len1-up.ensures.0 c.in_ok-head-in-len1-up.ensures.interned c.in_err-others-in-len1-up.ensures.interned

pub intern_places-put_part-requires-in-len1-up-clause-word : goal.intern_places-put_part-requires-in-len1-up-clause-word
intern_places-put_part-requires-in-len1-up-clause-word g t c =
    let a : Part = tree_part (polynomial_of c.first-item.result) in
    let b : Part = places_part (polynomials (behind c.args.ts.now)) in
    let x = c.in_ok-head-in-len1-up.ensures in
    let y = c.in_ok-others-in-len1-up.ensures in
    let k = c.intern_places.new.p.view.cells in
    let s = stands_more c.intern_tree-in-len1-up.new.p.view.cells k y.interned.gains.cells c.in_ok-head-in-len1-up.head a x.interned.ends in
    (two a b, two_stands k c.in_ok-head-in-len1-up.head c.in_ok-others-in-len1-up.others a b x.kind y.kind x.id s y.id y.interned.ends)

pub intern_places-returns-in_ok-others-in-len1-up-clause-interned : goal.intern_places-returns-in_ok-others-in-len1-up-clause-interned
intern_places-returns-in_ok-others-in-len1-up-clause-interned g t c =
    let a : Part = tree_part (polynomial_of c.first-item.result) in
    let b : Part = places_part (polynomials (behind c.args.ts.now)) in
    let x = c.in_ok-head-in-len1-up.ensures in
    let y = c.in_ok-others-in-len1-up.ensures in
    let k = c.intern_places.new.p.view.cells in
    let s = stands_more c.intern_tree-in-len1-up.new.p.view.cells k y.interned.gains.cells c.in_ok-head-in-len1-up.head a x.interned.ends in
    let ws = two_stands k c.in_ok-head-in-len1-up.head c.in_ok-others-in-len1-up.others a b x.kind y.kind x.id s y.id y.interned.ends in
    both g.M.MemoMeaning.meaning c.args.s.now.sizes c.args.p.now.view c.intern_tree-in-len1-up.new.p.view c.intern_places.new.p.view c.put_part-in-len1-up.new.p.view a b _ c.in_ok-head-in-len1-up.head c.in_ok-others-in-len1-up.others c.put_part-in-len1-up.result
    (more_places c.args.ts.now c.first-item.result c.in-len1-up.len_at_least c.first-item.is) x.interned y.interned (c.put_part-in-len1-up.ensures.interned (two a b) ws)

-- ---- a tree

pub intern_tree-intern_places-requires : goal.intern_tree-intern_places-requires
intern_tree-intern_places-requires g t c κs within =
    let e = ext_is c.args.t.now c.in-Ext.counter c.in-Ext.var c.in-Ext.ops c.as_slice.result.now c.in-Ext.is c.as_slice.ensures in
    let k = subst (IsCanonical c.requires.tree.0) e c.requires.tree.1 in
    (omega (arith, ap weight e), (within, (c.requires.table, (c.requires.author, ((c.requires.tree.0, variable_of c.in-Ext.counter c.in-Ext.var.0, places_canon c.requires.tree.0 _ _ k), some_places c.requires.tree.0 _ c.as_slice.result.now k)))))

pub intern_tree-returns-in_err-list-in-Ext-clause-interned : goal.intern_tree-returns-in_err-list-in-Ext-clause-interned
intern_tree-returns-in_err-list-in-Ext-clause-interned g t c =
    let a : Part = places_part (polynomials c.as_slice.result.now) in
    let e = ext_is c.args.t.now c.in-Ext.counter c.in-Ext.var c.in-Ext.ops c.as_slice.result.now c.in-Ext.is c.as_slice.ensures in
    over_failed g.M.MemoMeaning.meaning c.args.s.now.sizes c.args.p.now.view c.intern_places.new.p.view (ext_tag c.in-Ext.var.0 (bit_of c.in-Ext.counter)) a _ _ c.from_residual.result (nested_part c.in-Ext.counter c.in-Ext.var.0 _ _ e) c.from_residual.ensures.0 c.in_err-list-in-Ext.ensures.interned

pub intern_tree-put_part-requires-clause-word : goal.intern_tree-put_part-requires-clause-word
intern_tree-put_part-requires-clause-word g t c =
    let a : Part = places_part (polynomials c.as_slice.result.now) in
    let tag : ℕ = ext_tag c.in-Ext.var.0 (bit_of c.in-Ext.counter) in
    let x = c.in_ok-list-in-Ext.ensures in
    let f = c.ext_form-form.ensures in
    let b = (subst IsWithinBits f.form f.bits).1 in
    let ws = one_stands c.intern_places.new.p.view.cells tag c.in_ok-list-in-Ext.list a (ext_over c.in-Ext.counter c.in-Ext.var.0 a b x.kind) x.id x.interned.ends in
    (one tag a, subst (λ (z : CellForm). WordStands c.intern_places.new.p.view.cells (word_of z) (one tag a)) (sym f.form) ws)

pub intern_tree-returns-in-Num-clause-interned : goal.intern_tree-returns-in-Num-clause-interned
intern_tree-returns-in-Num-clause-interned g t c =
    let e = ap tree_part (sym (polynomial_of_num c.in-Num.v)) ∙ ap (λ (z : Tree). tree_part (polynomial_of z)) (sym c.in-Num.is) in
    as_is g.M.MemoMeaning.meaning c.args.s.now.sizes c.args.p.now.view c.intern_number.new.p.view (number_part c.in-Num.v) _ c.intern_number.result e c.intern_number.ensures.interned

pub intern_tree-returns-in-Num-clause-kind : goal.intern_tree-returns-in-Num-clause-kind
intern_tree-returns-in-Num-clause-kind g t c =
    let e = ap tree_part (sym (polynomial_of_num c.in-Num.v)) ∙ ap (λ (z : Tree). tree_part (polynomial_of z)) (sym c.in-Num.is) in
    on_ok c.intern_number.result _ (subst IsTree e c.intern_number.ensures.kind)

pub intern_tree-returns-in-Num-clause-labels : goal.intern_tree-returns-in-Num-clause-labels
intern_tree-returns-in-Num-clause-labels g t c = on_ok c.intern_number.result _ (under_num c.args.t.now c.in-Num.v 8589934592 c.in-Num.is)

pub intern_tree-returns-in_ok-list-in-Ext-clause-interned : goal.intern_tree-returns-in_ok-list-in-Ext-clause-interned
intern_tree-returns-in_ok-list-in-Ext-clause-interned g t c =
    let a : Part = places_part (polynomials c.as_slice.result.now) in
    let tag : ℕ = ext_tag c.in-Ext.var.0 (bit_of c.in-Ext.counter) in
    let x = c.in_ok-list-in-Ext.ensures in
    let f = c.ext_form-form.ensures in
    let b = (subst IsWithinBits f.form f.bits).1 in
    let ws = one_stands c.intern_places.new.p.view.cells tag c.in_ok-list-in-Ext.list a (ext_over c.in-Ext.counter c.in-Ext.var.0 a b x.kind) x.id x.interned.ends in
    let word = subst (λ (z : CellForm). WordStands c.intern_places.new.p.view.cells (word_of z) (one tag a)) (sym f.form) ws in
    let e = ext_is c.args.t.now c.in-Ext.counter c.in-Ext.var c.in-Ext.ops c.as_slice.result.now c.in-Ext.is c.as_slice.ensures in
    over g.M.MemoMeaning.meaning c.args.s.now.sizes c.args.p.now.view c.intern_places.new.p.view c.put_part.new.p.view tag c.in_ok-list-in-Ext.list a _ c.put_part.result (nested_part c.in-Ext.counter c.in-Ext.var.0 _ _ e) x.interned (c.put_part.ensures.interned (one tag a) word)

pub intern_tree-returns-in_ok-list-in-Ext-clause-kind : goal.intern_tree-returns-in_ok-list-in-Ext-clause-kind
intern_tree-returns-in_ok-list-in-Ext-clause-kind g t c =
    let a : Part = places_part (polynomials c.as_slice.result.now) in
    let f = c.ext_form-form.ensures in
    let b = (subst IsWithinBits f.form f.bits).1 in
    let e = ext_is c.args.t.now c.in-Ext.counter c.in-Ext.var c.in-Ext.ops c.as_slice.result.now c.in-Ext.is c.as_slice.ensures in
    on_ok c.put_part.result _ (subst IsTree (nested_part c.in-Ext.counter c.in-Ext.var.0 _ _ e) (ext_kind c.in-Ext.counter c.in-Ext.var.0 a b))

pub intern_tree-returns-in_ok-list-in-Ext-clause-labels : goal.intern_tree-returns-in_ok-list-in-Ext-clause-labels
intern_tree-returns-in_ok-list-in-Ext-clause-labels g t c =
    let f = c.ext_form-form.ensures in
    let b = (subst IsWithinBits f.form f.bits).1 in
    on_ok c.put_part.result _ (under_ext c.args.t.now c.in-Ext.counter c.in-Ext.var c.in-Ext.ops 8589934592 c.in-Ext.is (variable_below c.in-Ext.counter c.in-Ext.var.0 b))
