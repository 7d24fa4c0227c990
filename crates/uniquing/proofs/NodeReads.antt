-- The expression that is read from a node.
use Rattle.std.proofs.Common.{◌≡◌, ℕ, ◌^◌, ◌∙◌, sym, ap, subst, arith, Result, IsErr, IfOk}
use Rattle.cell_code.specs.Count.{cells_in, cell_count}
use Rattle.cell_code.specs.declared.form.CellForm.{CellForm}
use Rattle.cell_code.specs.declared.form.CellForm.TheVariants.{Small, Large, More, Last, Ext, Root}
use Rattle.scev_tree.specs.declared.tree.Tree.{Tree}
use Rattle.scev_tree.specs.declared.expr.Expr.{Expr}
use Rattle.scev_tree.specs.Polynomial.{Polynomial, IsCanonical}
use Rattle.scev_tree.specs.Tree.{polynomial_of}
use Rattle.step_core.specs.declared.view.View.{View}
use Rattle.step_core.specs.Meaning.{Meaning}
use Rattle.step_core.specs.Parts.{tree_part}
use Rattle.shared_table.specs.CellPuts.{GainsCells}
use Rattle.shared_table.specs.declared.answers.Node.{Node}
use Rattle.shared_table.specs.declared.sizes.SizedView.{SizedView}
use Rattle.shared_table.specs.Known.{IsSeen}
use Rattle.uniquing.specs.Nodes.{IsNodeOf}
use Rattle.uniquing.specs.Reads.{Reads, HasCell, IsTreeAt}
use Rattle.uniquing.proofs.Forms.{FormOfNode, node_is, tree_later}
use Rattle.uniquing.proofs.Looking.{reads_gain, reads_more}
use Rattle.uniquing.proofs.Rebuilding.{any_number, if_err}

pub no_node : (v : View) (depth : ℕ) (r : CellForm) (w : ℕ) (q : Polynomial) → FormOfNode v depth r w q → ((width tree : ℕ) → r ≡ Root width tree → ⊥) → ⊥
no_node v depth (Small n) w q f root = f
no_node v depth (Large low high) w q f root = f
no_node v depth (More head rest) w q f root = f
no_node v depth (Last head) w q f root = f
no_node v depth (Ext list var counter) w q f root = f
no_node v depth (Root width tree) w q f root = root width tree (λ i. Root width tree)

module _ (m : Meaning) (z : SizedView) (s : IsSeen z) (n : Node) (u : View) (r : CellForm) (each : (form : CellForm) → HasCell z.view n.0 form → r ≡ form) (load : Reads m z.view (λ k. k ≡ 1) u) (width id depth : ℕ) (is : r ≡ Root width id) (deep : z.sizes.cells ≡ depth) where
  pub tree_there : (w : ℕ) (q : Polynomial) → IsNodeOf z.view n w q → (width ≡ w) × IsTreeAt u id depth q
  tree_there w q t =
      let f = node_is z s n r each (Root width id) is w q t in
      (f.0, subst (λ (d : ℕ). IsTreeAt u id d q) deep (tree_later z.view u id z.sizes.cells q (reads_gain m z.view u (λ k. k ≡ 1) load) f.1))

  pub all_gain : (x : View) → Reads m u any_number x → GainsCells z.view x
  all_gain x others = reads_gain m z.view x any_number (reads_more m z.view u x (λ k. k ≡ 1) any_number any_number load others (λ j k one t. tt))

  pub node_failed : {E : Type 0} (x : View) (e : Result Expr E) → Reads m u any_number x → IsErr e → Reads m z.view (λ k. IfOk e (λ a. k ≡ cell_count a.w (polynomial_of a.tree))) x
  node_failed x e others er = reads_more m z.view u x (λ k. k ≡ 1) any_number (λ k. IfOk e (λ a. k ≡ cell_count a.w (polynomial_of a.tree))) load others (λ j k one t. if_err e _ er)

  module _ (tree : Tree) (x : View) (read : Reads m u (λ k. (q : Polynomial) → IsTreeAt u id depth q → (polynomial_of tree ≡ q) × (k ≡ cells_in (tree_part q))) x) where
    pub node_value : (w : ℕ) (q : Polynomial) → IsNodeOf z.view n w q → (width ≡ w) × (polynomial_of tree ≡ q)
    node_value w q t = let h = tree_there w q t in (h.0, (read.3 q h.1).0)

    pub node_stands : (w : ℕ) (q : Polynomial) → IsNodeOf z.view n w q → IsNodeOf z.view n width (polynomial_of tree)
    node_stands w q t = let e = node_value w q t in subst (λ (y : ℕ × Polynomial). IsNodeOf z.view n y.0 y.1) (λ i. (sym e.0 i, sym e.1 i)) t

    pub node_canonical : (w : ℕ) (q : Polynomial) → IsNodeOf z.view n w q → IsCanonical (2 ^ width) (polynomial_of tree)
    node_canonical w q t = (node_stands w q t).canonical

    pub node_events : (w : ℕ) (q : Polynomial) → IsNodeOf z.view n w q → Reads m z.view (λ k. k ≡ cell_count width (polynomial_of tree)) x
    node_events w q t =
        let h = tree_there w q t in
        reads_more m z.view u x (λ k. k ≡ 1) (λ k. (p : Polynomial) → IsTreeAt u id depth p → (polynomial_of tree ≡ p) × (k ≡ cells_in (tree_part p))) (λ k. k ≡ cell_count width (polynomial_of tree)) load read
        (λ j k one f.
        let y = f q h.1 in
        let count : k ≡ cells_in (tree_part (polynomial_of tree)) = y.1 ∙ ap (λ (p : Polynomial). cells_in (tree_part p)) (sym y.0) in
        omega arith)
