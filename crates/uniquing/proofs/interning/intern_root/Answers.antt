use Rattle.std.proofs.Common.{ℕ, refl, arith}
use Rattle.scev_tree.specs.Polynomial.{Polynomial}
use Rattle.scev_tree.specs.Tree.{polynomial_of}
use Rattle.step_core.specs.Parts.{Part, one, root_tag, tree_part}
use Rattle.uniquing.specs.Nodes.{part_of}
use Rattle.uniquing.proofs.Shaping.{one_stands, over, over_failed, root_over}
use Rattle.uniquing.proofs.interning.intern_root.Goals as goal

pub returns-in_err-tree-clause-interned : goal.returns-in_err-tree-clause-interned
returns-in_err-tree-clause-interned g c =
    let a : Part = tree_part (polynomial_of c.args.e.now.tree) in
    over_failed g.M.MemoMeaning.meaning c.args.s.now.sizes c.args.p.now.view c.intern_tree.new.p.view (root_tag c.args.e.now.w) a (part_of c.args.e.now) _ c.from_residual.result refl c.from_residual.ensures.0 c.in_err-tree.ensures.interned

pub put_part-requires-clause-word : goal.put_part-requires-clause-word
put_part-requires-clause-word g c =
    let q : Polynomial = polynomial_of c.args.e.now.tree in
    let w : ℕ = c.args.e.now.w in
    let x = c.in_ok-tree.ensures in
    let b = c.bits.ensures in
    let o = root_over w q (omega (arith, b.value, b.at_least)) (omega (arith, b.value, b.at_most)) c.args.e.now.canonical x.labels in
    (one (root_tag w) (tree_part q), one_stands c.intern_tree.new.p.view.cells (root_tag w) c.in_ok-tree.tree (tree_part q) o x.id x.interned.ends)

pub returns-clause-interned : goal.returns-clause-interned
returns-clause-interned g c =
    let q : Polynomial = polynomial_of c.args.e.now.tree in
    let w : ℕ = c.args.e.now.w in
    let x = c.in_ok-tree.ensures in
    let b = c.bits.ensures in
    let o = root_over w q (omega (arith, b.value, b.at_least)) (omega (arith, b.value, b.at_most)) c.args.e.now.canonical x.labels in
    let ws = one_stands c.intern_tree.new.p.view.cells (root_tag w) c.in_ok-tree.tree (tree_part q) o x.id x.interned.ends in
    over g.M.MemoMeaning.meaning c.args.s.now.sizes c.args.p.now.view c.intern_tree.new.p.view c.put_part.new.p.view (root_tag w) c.in_ok-tree.tree (tree_part q) (part_of c.args.e.now) c.put_part.result refl x.interned (c.put_part.ensures.interned (one (root_tag w) (tree_part q)) ws)
