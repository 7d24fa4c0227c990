use Rattle.std.proofs.Common.{◌≡◌, ◌∙◌, sym, ap}
use Rattle.shared_table.specs.declared.sizes.Sizes.{Sizes}
use Rattle.shared_table.specs.declared.sizes.SizedView.{SizedView}
use Rattle.uniquing.proofs.Seeing.{whole_node}
use Rattle.uniquing.proofs.Forms.{node_is, node_has}
use Rattle.uniquing.proofs.NodeReads.{no_node, tree_there, all_gain, node_failed, node_value, node_stands, node_canonical, node_events}
use Rattle.uniquing.proofs.reading.read.Goals as goal

pub load_form-requires-clause-form : goal.load_form-requires-clause-form
load_form-requires-clause-form g c =
    let z : SizedView = record { view = c.args.p.now.view; sizes = c.args.p.now.sizes } in
    let t = whole_node c.args.p.now.view c.args.n c.requires.node in
    node_has z c.facts.ensures c.args.n t.0 t.1 t.2

pub unreachable-requires : goal.unreachable-requires
unreachable-requires g c =
    let z : SizedView = record { view = c.args.p.now.view; sizes = c.args.p.now.sizes } in
    let t = whole_node c.args.p.now.view c.args.n c.requires.node in
    let f = node_is z c.facts.ensures c.args.n c.load_form.result c.load_form.ensures.form c.load_form.result (λ i. c.load_form.result) t.0 t.1 t.2 in
    no_node z.view z.sizes.cells c.load_form.result t.0 t.1 f c.in_default.not-Root

pub read_tree-requires-clause-tree : goal.read_tree-requires-clause-tree
read_tree-requires-clause-tree g c =
    let z : SizedView = record { view = c.args.p.now.view; sizes = c.args.p.now.sizes } in
    let t = whole_node c.args.p.now.view c.args.n c.requires.node in
    let deep : z.sizes.cells ≡ c.sizes.result.cells = ap (λ (s : Sizes). s.cells) (c.requires.table.1 ∙ sym c.sizes.ensures) in
    let x = tree_there g.M.MemoMeaning.meaning z c.facts.ensures c.args.n c.load_form.new.p.view c.load_form.result c.load_form.ensures.form c.load_form.ensures.events c.in-Root.w c.in-Root.id c.sizes.result.cells c.in-Root.is deep t.0 t.1 t.2 in
    (t.1, x.1)

pub returns-in_err-tree-in-Root-clause-grows : goal.returns-in_err-tree-in-Root-clause-grows
returns-in_err-tree-in-Root-clause-grows g c =
    let z : SizedView = record { view = c.args.p.now.view; sizes = c.args.p.now.sizes } in
    let deep : z.sizes.cells ≡ c.sizes.result.cells = ap (λ (s : Sizes). s.cells) (c.requires.table.1 ∙ sym c.sizes.ensures) in
    all_gain g.M.MemoMeaning.meaning z c.facts.ensures c.args.n c.load_form.new.p.view c.load_form.result c.load_form.ensures.form c.load_form.ensures.events c.in-Root.w c.in-Root.id c.sizes.result.cells c.in-Root.is deep c.read_tree.new.p.view (let x = c.read_tree.ensures.read in (x.0, x.1, x.2, tt))

pub returns-clause-grows : goal.returns-clause-grows
returns-clause-grows g c =
    let z : SizedView = record { view = c.args.p.now.view; sizes = c.args.p.now.sizes } in
    let deep : z.sizes.cells ≡ c.sizes.result.cells = ap (λ (s : Sizes). s.cells) (c.requires.table.1 ∙ sym c.sizes.ensures) in
    all_gain g.M.MemoMeaning.meaning z c.facts.ensures c.args.n c.load_form.new.p.view c.load_form.result c.load_form.ensures.form c.load_form.ensures.events c.in-Root.w c.in-Root.id c.sizes.result.cells c.in-Root.is deep c.read_tree.new.p.view (let x = c.read_tree.ensures.read in (x.0, x.1, x.2, tt))

pub returns-in_err-tree-in-Root-clause-events : goal.returns-in_err-tree-in-Root-clause-events
returns-in_err-tree-in-Root-clause-events g c =
    let z : SizedView = record { view = c.args.p.now.view; sizes = c.args.p.now.sizes } in
    let deep : z.sizes.cells ≡ c.sizes.result.cells = ap (λ (s : Sizes). s.cells) (c.requires.table.1 ∙ sym c.sizes.ensures) in
    node_failed g.M.MemoMeaning.meaning z c.facts.ensures c.args.n c.load_form.new.p.view c.load_form.result c.load_form.ensures.form c.load_form.ensures.events c.in-Root.w c.in-Root.id c.sizes.result.cells c.in-Root.is deep c.read_tree.new.p.view c.from_residual.result (let x = c.read_tree.ensures.read in (x.0, x.1, x.2, tt)) c.from_residual.ensures.0

pub invariant_of-result : goal.invariant_of-result
invariant_of-result g c =
    let z : SizedView = record { view = c.args.p.now.view; sizes = c.args.p.now.sizes } in
    let t = whole_node c.args.p.now.view c.args.n c.requires.node in
    let deep : z.sizes.cells ≡ c.sizes.result.cells = ap (λ (s : Sizes). s.cells) (c.requires.table.1 ∙ sym c.sizes.ensures) in
    record { canonical = node_canonical g.M.MemoMeaning.meaning z c.facts.ensures c.args.n c.load_form.new.p.view c.load_form.result c.load_form.ensures.form c.load_form.ensures.events c.in-Root.w c.in-Root.id c.sizes.result.cells c.in-Root.is deep c.in_ok-tree-in-Root.tree c.read_tree.new.p.view c.in_ok-tree-in-Root.ensures.read t.0 t.1 t.2 }

pub returns-clause-node : goal.returns-clause-node
returns-clause-node g c =
    let z : SizedView = record { view = c.args.p.now.view; sizes = c.args.p.now.sizes } in
    let t = whole_node c.args.p.now.view c.args.n c.requires.node in
    let deep : z.sizes.cells ≡ c.sizes.result.cells = ap (λ (s : Sizes). s.cells) (c.requires.table.1 ∙ sym c.sizes.ensures) in
    node_stands g.M.MemoMeaning.meaning z c.facts.ensures c.args.n c.load_form.new.p.view c.load_form.result c.load_form.ensures.form c.load_form.ensures.events c.in-Root.w c.in-Root.id c.sizes.result.cells c.in-Root.is deep c.in_ok-tree-in-Root.tree c.read_tree.new.p.view c.in_ok-tree-in-Root.ensures.read t.0 t.1 t.2

pub returns-clause-value : goal.returns-clause-value
returns-clause-value g c =
    let z : SizedView = record { view = c.args.p.now.view; sizes = c.args.p.now.sizes } in
    let deep : z.sizes.cells ≡ c.sizes.result.cells = ap (λ (s : Sizes). s.cells) (c.requires.table.1 ∙ sym c.sizes.ensures) in
    node_value g.M.MemoMeaning.meaning z c.facts.ensures c.args.n c.load_form.new.p.view c.load_form.result c.load_form.ensures.form c.load_form.ensures.events c.in-Root.w c.in-Root.id c.sizes.result.cells c.in-Root.is deep c.in_ok-tree-in-Root.tree c.read_tree.new.p.view c.in_ok-tree-in-Root.ensures.read

pub returns-clause-events : goal.returns-clause-events
returns-clause-events g c =
    let z : SizedView = record { view = c.args.p.now.view; sizes = c.args.p.now.sizes } in
    let t = whole_node c.args.p.now.view c.args.n c.requires.node in
    let deep : z.sizes.cells ≡ c.sizes.result.cells = ap (λ (s : Sizes). s.cells) (c.requires.table.1 ∙ sym c.sizes.ensures) in
    node_events g.M.MemoMeaning.meaning z c.facts.ensures c.args.n c.load_form.new.p.view c.load_form.result c.load_form.ensures.form c.load_form.ensures.events c.in-Root.w c.in-Root.id c.sizes.result.cells c.in-Root.is deep c.in_ok-tree-in-Root.tree c.read_tree.new.p.view c.in_ok-tree-in-Root.ensures.read t.0 t.1 t.2
