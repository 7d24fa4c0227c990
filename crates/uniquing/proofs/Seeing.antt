-- What a pass knows of the cells that it has seen.
use Rattle.std.proofs.Common.{◌≡◌, ◌↔◌, IsTrue, ℕ, nat_eq, ◌<◌, ◌≤◌, sym, subst, arith}
use Rattle.std.proofs.lemmas.Bool.{eq-eqb, eqb-true}
use Rattle.scev_tree.specs.Polynomial.{Polynomial}
use Rattle.step_core.specs.declared.view.View.{View}
use Rattle.step_core.specs.Maps.{Has, IsMap, Within, full_places}
use Rattle.step_core.specs.Parts.{Part, one, root_tag, expression_part, tree_part, height}
use Rattle.step_core.specs.Cells.{IsOver, large, last, ext, root, Stands}
use Rattle.step_core.proofs.Fullness.{full_map, has_full, full_inside}
use Rattle.step_core.proofs.Heights.{low}
use Rattle.step_core.proofs.Injective.{expressions}
use Rattle.step_core.proofs.SameParts.{same_place, same_part}
use Rattle.step_core.proofs.Standing.{named, stands_more}
use Rattle.shared_table.specs.declared.sizes.SizedView.{SizedView}
use Rattle.shared_table.specs.declared.answers.Node.{Node}
use Rattle.shared_table.specs.Known.{IsSeen}
use Rattle.uniquing.specs.Nodes.{IsNode, IsNodeOf}

module _ (z : SizedView) (s : IsSeen z) where
  pub seen_within : Within z.view.cells (full_places s.words.cells)
  seen_within = (s.good.fits s.seat z.view s.live.at s.live.unspent).cells

  pub seen_map : IsMap z.view.cells
  seen_map = λ at w x h k. full_map s.words.cells at w x (seen_within at w h) (seen_within at x k)

  pub seen_once : (i j w : ℕ) → Has z.view.cells i w → Has z.view.cells j w → i ≡ j
  seen_once i j w h k = s.good.are_cells.once i j w (seen_within i w h) (seen_within j w k)

  pub seen_inside : (id w : ℕ) → Has z.view.cells id w → id < z.sizes.cells
  seen_inside id w h =
      let f = has_full s.words.cells id w (seen_within id w h) in
      let i = full_inside s.words.cells id w f.0 f.1 in
      let e = s.sized.1 in
      omega arith

  pub seen_short : (id w : ℕ) → Has z.view.cells id w → id < 1048576
  seen_short id w h =
      let i = seen_inside id w h in
      let most = s.good.sized.cells.greatest in
      let e = s.sized.1 in
      omega arith

  pub seen_stands : (id : ℕ) (p : Part) → Stands z.view.cells id p → id < z.sizes.cells
  seen_stands id p t = let n = named z.view.cells id p t in seen_inside id n.0 n.1

  pub seen_low : (id : ℕ) (p : Part) → Stands z.view.cells id p → height p ≤ z.sizes.cells
  seen_low id p t =
      let l = low s.words.cells p id (stands_more z.view.cells (full_places s.words.cells) seen_within id p t) in
      let e = s.sized.1 in
      omega arith

-- what stands under a root's tag
pub root_width : (width : ℕ) (a : Part) → IsOver (root_tag width) a → (1 ≤ width) × (width ≤ 64)
root_width width a (large high low e l h f n) = absurd (omega arith)
root_width width a (last e t) = absurd (omega arith)
root_width width a (ext label counter e l c t) = absurd (omega arith)
root_width width a (root w e l c t) = (omega arith, omega arith)

-- a node stands for an expression
pub whole_node : (v : View) (n : Node) → IsNode v n → (w : ℕ) × (p : Polynomial) × IsNodeOf v n w p
whole_node v n t = found t.0 t.1 t.2.3 t.2
  where
    found : (w : ℕ) (a : Part) → IsOver (root_tag w) a → Stands v.cells n.0 (one (root_tag w) a) → (x : ℕ) × (p : Polynomial) × IsNodeOf v n x p
    found w a (large high low e l h f k) s = absurd (omega arith)
    found w a (last e k) s = absurd (omega arith)
    found w a (ext label counter e l c k) s = absurd (omega arith)
    found w a (root x e least most whole) s =
        let same : w ≡ x = omega arith in
        (x, whole.tree, record { stands = subst (λ (y : ℕ × Part). Stands v.cells n.0 (one (root_tag y.0) y.1)) (λ i. (same i, whole.is i)) s; canonical = whole.canonical; labels = whole.labels })

pub nodes : (z : SizedView) (a b : Node) (w x : ℕ) (p q : Polynomial) → IsSeen z → IsNodeOf z.view a w p → IsNodeOf z.view b x q → IsTrue (nat_eq a.0 b.0) ↔ ((w ≡ x) × (p ≡ q))
nodes z a b w x p q s m n = (
  λ t.
      let same : a.0 ≡ b.0 = eqb-true a.0 b.0 t in
      let here = subst (λ (i : ℕ). Stands z.view.cells i (expression_part x q)) (sym same) n.stands in
      let parts = same_part z.view.cells (seen_map z s) (expression_part w p) (expression_part x q) a.0 m.stands here in
      expressions w x p q (root_width w (tree_part p) m.stands.3).1 (root_width x (tree_part q) n.stands.3).1 m.canonical n.canonical m.labels n.labels parts,
  λ e.
      let here = subst (λ (i : ℕ × Polynomial). Stands z.view.cells b.0 (expression_part i.0 i.1)) (λ k. (sym e.0 k, sym e.1 k)) n.stands in
      eq-eqb a.0 b.0 (same_place z.view.cells (seen_once z s) (expression_part w p) a.0 b.0 m.stands here),
)
