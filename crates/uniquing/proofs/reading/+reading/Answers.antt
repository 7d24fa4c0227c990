use Rattle.std.proofs.Common.{◌≡◌, ℕ, List, ◌-◌, ◌<◌, ◌≤◌, ◌∙◌, ap, sym, arith}
use Rattle.scev_tree.specs.declared.tree.Tree.{Tree, Ext}
use Rattle.scev_tree.specs.Polynomial.{ext, variable_of}
use Rattle.scev_tree.specs.Tree.{polynomial_of, polynomials}
use Rattle.scev_tree.proofs.ListedTrees.{polynomial_of_ext}
use Rattle.uniquing.proofs.Forms.{tree_is, tree_has, places_are, places_have}
use Rattle.uniquing.proofs.Looking.{reads_gain}
use Rattle.uniquing.proofs.Rebuilding.{any_number, half_there, list_there, last_there, first_there, rest_there, small_read, large_read, nested_read, tree_failed, last_read, further_read, places_failed, no_tree, no_places}
use Rattle.uniquing.proofs.reading.+reading.Goals as goal

smaller : (n t : ℕ) → 1 ≤ n → t ≡ n → n - 1 < t
smaller n t d e = omega arith

-- ---- a tree

pub read_tree-load_form-requires-clause-form : goal.read_tree-load_form-requires-clause-form
read_tree-load_form-requires-clause-form g t c = tree_has c.args.p.now.view c.args.id c.args.depth c.requires.tree.0 c.requires.tree.1

pub read_tree-read_large-requires-clause-low : goal.read_tree-read_large-requires-clause-low
read_tree-read_large-requires-clause-low g t c =
    half_there g.M.MemoMeaning.meaning c.args.p.now.view c.load_form.new.p.view c.args.id c.args.depth c.load_form.result c.load_form.ensures.form c.load_form.ensures.events _ _ c.in-Large.is c.requires.tree.0 c.requires.tree.1

pub read_tree-unreachable-requires : goal.read_tree-unreachable-requires
read_tree-unreachable-requires g t c =
    let f = tree_is c.args.p.now.view c.args.id c.args.depth c.load_form.result c.load_form.ensures.form c.load_form.result (λ i. c.load_form.result) c.requires.tree.0 c.requires.tree.1 in
    no_tree c.args.p.now.view c.args.depth c.load_form.result c.requires.tree.0 f c.in_default.not-Small c.in_default.not-Large c.in_default.not-Ext

pub read_tree-returns-in-Small-clause-read : goal.read_tree-returns-in-Small-clause-read
read_tree-returns-in-Small-clause-read g t c =
    small_read g.M.MemoMeaning.meaning c.args.p.now.view c.load_form.new.p.view c.args.id c.args.depth c.load_form.result c.load_form.ensures.form c.load_form.ensures.events ℕ _ c.in-Small.is

pub read_tree-returns-in-Large-clause-read : goal.read_tree-returns-in-Large-clause-read
read_tree-returns-in-Large-clause-read g t c =
    large_read g.M.MemoMeaning.meaning c.args.p.now.view c.load_form.new.p.view c.args.id c.args.depth c.load_form.result c.load_form.ensures.form c.load_form.ensures.events ℕ c.in-Large.low c.in-Large.high c.read_large.result c.read_large.new.p.view c.in-Large.is c.read_large.ensures.events c.read_large.ensures.value

pub read_tree-read_places-requires : goal.read_tree-read_places-requires
read_tree-read_places-requires g t c κs within =
    let x = list_there g.M.MemoMeaning.meaning c.args.p.now.view c.load_form.new.p.view c.args.id c.args.depth c.load_form.result c.load_form.ensures.form c.load_form.ensures.events c.in-Ext.list c.in-Ext.var c.in-Ext.counter c.in-Ext.is c.requires.tree.0 c.requires.tree.1 in
    (smaller c.args.depth t x.0 (sym c.decreases), (within, ((c.load_form.ensures.same.0 ∙ c.requires.table.0, c.load_form.ensures.same.2 ∙ c.requires.table.1), x.1)))

pub read_tree-returns-in_err-read_places-in-Ext-clause-read : goal.read_tree-returns-in_err-read_places-in-Ext-clause-read
read_tree-returns-in_err-read_places-in-Ext-clause-read g t c =
    tree_failed g.M.MemoMeaning.meaning c.args.p.now.view c.load_form.new.p.view c.args.id c.args.depth c.load_form.result c.load_form.ensures.form c.load_form.ensures.events c.read_places.new.p.view c.from_residual.result (let x = c.read_places.ensures.read in (x.0, x.1, x.2, tt)) c.from_residual.ensures.0

pub read_tree-returns-in_ok-read_places-in-Ext-clause-read : goal.read_tree-returns-in_ok-read_places-in-Ext-clause-read
read_tree-returns-in_ok-read_places-in-Ext-clause-read g t c =
    let x : ℕ = variable_of c.in-Ext.counter c.in-Ext.var.0 in
    let tree : Tree = Ext c.in-Ext.counter c.in-Ext.var c.from_vec-ops.result in
    let e : polynomial_of tree ≡ ext x (polynomials c.read_places.new.out.items) = polynomial_of_ext c.in-Ext.counter c.in-Ext.var c.from_vec-ops.result ∙ ap (λ (ts : List Tree). ext x (polynomials ts)) c.from_vec-ops.ensures in
    let done : ℕ = 0 in
    nested_read g.M.MemoMeaning.meaning c.args.p.now.view c.load_form.new.p.view c.args.id c.args.depth c.load_form.result c.load_form.ensures.form c.load_form.ensures.events ℕ ℕ c.in-Ext.list c.in-Ext.var c.in-Ext.counter done c.new-ops.result.items c.read_places.new.out.items tree c.read_places.new.p.view c.in-Ext.is c.in_ok-read_places-in-Ext.ensures.read c.new-ops.ensures.items e

-- ---- places

pub read_places-load_form-requires-clause-form : goal.read_places-load_form-requires-clause-form
read_places-load_form-requires-clause-form g t c = places_have c.args.p.now.view c.args.id c.args.depth c.requires.places.0 c.requires.places.1

pub read_places-unreachable-requires : goal.read_places-unreachable-requires
read_places-unreachable-requires g t c =
    let f = places_are c.args.p.now.view c.args.id c.args.depth c.load_form.result c.load_form.ensures.form c.load_form.result (λ i. c.load_form.result) c.requires.places.0 c.requires.places.1 in
    no_places c.args.p.now.view c.args.depth c.load_form.result c.requires.places.0 f c.in_default.not-More c.in_default.not-Last

pub read_places-read_tree-requires : goal.read_places-read_tree-requires
read_places-read_tree-requires g t c κs within =
    let x = last_there g.M.MemoMeaning.meaning c.args.p.now.view c.load_form.new.p.view c.args.id c.args.depth c.load_form.result c.load_form.ensures.form c.load_form.ensures.events c.in-Last.head c.in-Last.is c.requires.places.0 c.requires.places.1 in
    (smaller c.args.depth t x.0 (sym c.decreases), (within, ((c.load_form.ensures.same.0 ∙ c.requires.table.0, c.load_form.ensures.same.2 ∙ c.requires.table.1), x.1)))

pub read_places-read_tree-requires-in-More : goal.read_places-read_tree-requires-in-More
read_places-read_tree-requires-in-More g t c κs within =
    let x = first_there g.M.MemoMeaning.meaning c.args.p.now.view c.load_form.new.p.view c.args.id c.args.depth c.load_form.result c.load_form.ensures.form c.load_form.ensures.events c.in-More.head c.in-More.rest c.in-More.is c.requires.places.0 c.requires.places.1 in
    (smaller c.args.depth t x.0 (sym c.decreases), (within, ((c.load_form.ensures.same.0 ∙ c.requires.table.0, c.load_form.ensures.same.2 ∙ c.requires.table.1), x.1)))

pub read_places-read_places-requires : goal.read_places-read_places-requires
read_places-read_places-requires g t c κs within =
    let m = g.M.MemoMeaning.meaning in
    let x = first_there m c.args.p.now.view c.load_form.new.p.view c.args.id c.args.depth c.load_form.result c.load_form.ensures.form c.load_form.ensures.events c.in-More.head c.in-More.rest c.in-More.is c.requires.places.0 c.requires.places.1 in
    let gained = reads_gain m c.load_form.new.p.view c.read_tree-in-More.new.p.view any_number (let a = c.read_tree-in-More.ensures.read in (a.0, a.1, a.2, tt)) in
    let y = rest_there m c.args.p.now.view c.load_form.new.p.view c.args.id c.args.depth c.load_form.result c.load_form.ensures.form c.load_form.ensures.events c.in-More.head c.in-More.rest c.in-More.is c.read_tree-in-More.new.p.view gained c.requires.places.0 c.requires.places.1 in
    let s = c.read_tree-in-More.ensures.same in
    (smaller c.args.depth t x.0 (sym c.decreases), (within, ((s.0 ∙ (c.load_form.ensures.same.0 ∙ c.requires.table.0), s.2 ∙ (c.load_form.ensures.same.2 ∙ c.requires.table.1)), y)))

pub read_places-returns-in_err-last-in-Last-clause-read : goal.read_places-returns-in_err-last-in-Last-clause-read
read_places-returns-in_err-last-in-Last-clause-read g t c =
    places_failed g.M.MemoMeaning.meaning c.args.p.now.view c.load_form.new.p.view c.args.id c.args.depth c.load_form.result c.load_form.ensures.form c.load_form.ensures.events c.read_tree.new.p.view c.from_residual.result c.args.out.now.items c.args.out.now.items (let x = c.read_tree.ensures.read in (x.0, x.1, x.2, tt)) c.from_residual.ensures.0

pub read_places-returns-in_err-push-in-Last-clause-read : goal.read_places-returns-in_err-push-in-Last-clause-read
read_places-returns-in_err-push-in-Last-clause-read g t c =
    places_failed g.M.MemoMeaning.meaning c.args.p.now.view c.load_form.new.p.view c.args.id c.args.depth c.load_form.result c.load_form.ensures.form c.load_form.ensures.events c.read_tree.new.p.view c.from_residual-in_err-push-in-Last.result c.args.out.now.items c.push.new.self.items (let x = c.read_tree.ensures.read in (x.0, x.1, x.2, tt)) c.from_residual-in_err-push-in-Last.ensures.0

pub read_places-returns-in_err-first-in-More-clause-read : goal.read_places-returns-in_err-first-in-More-clause-read
read_places-returns-in_err-first-in-More-clause-read g t c =
    places_failed g.M.MemoMeaning.meaning c.args.p.now.view c.load_form.new.p.view c.args.id c.args.depth c.load_form.result c.load_form.ensures.form c.load_form.ensures.events c.read_tree-in-More.new.p.view c.from_residual-in_err-first-in-More.result c.args.out.now.items c.args.out.now.items (let x = c.read_tree-in-More.ensures.read in (x.0, x.1, x.2, tt)) c.from_residual-in_err-first-in-More.ensures.0

pub read_places-returns-in_err-push-in-More-clause-read : goal.read_places-returns-in_err-push-in-More-clause-read
read_places-returns-in_err-push-in-More-clause-read g t c =
    places_failed g.M.MemoMeaning.meaning c.args.p.now.view c.load_form.new.p.view c.args.id c.args.depth c.load_form.result c.load_form.ensures.form c.load_form.ensures.events c.read_tree-in-More.new.p.view c.from_residual-in_err-push-in-More.result c.args.out.now.items c.push-in-More.new.self.items (let x = c.read_tree-in-More.ensures.read in (x.0, x.1, x.2, tt)) c.from_residual-in_err-push-in-More.ensures.0

pub read_places-returns-in_ok-push-in-Last-clause-read : goal.read_places-returns-in_ok-push-in-Last-clause-read
read_places-returns-in_ok-push-in-Last-clause-read g t c =
    let done : ℕ = 0 in
    last_read g.M.MemoMeaning.meaning c.args.p.now.view c.load_form.new.p.view c.args.id c.args.depth c.load_form.result c.load_form.ensures.form c.load_form.ensures.events ℕ ℕ c.in-Last.head done c.args.out.now.items c.push.new.self.items c.in_ok-last-in-Last.last c.read_tree.new.p.view c.in-Last.is c.in_ok-last-in-Last.ensures.read c.in_ok-push-in-Last.ensures.items

pub read_places-returns-in_ok-push-in-More-clause-read : goal.read_places-returns-in_ok-push-in-More-clause-read
read_places-returns-in_ok-push-in-More-clause-read g t c =
    further_read g.M.MemoMeaning.meaning c.args.p.now.view c.load_form.new.p.view c.args.id c.args.depth c.load_form.result c.load_form.ensures.form c.load_form.ensures.events ℕ c.in-More.head c.in-More.rest c.read_places.result c.args.out.now.items c.push-in-More.new.self.items c.read_places.new.out.items c.in_ok-first-in-More.first c.read_tree-in-More.new.p.view c.read_places.new.p.view c.in-More.is c.in_ok-first-in-More.ensures.read c.in_ok-push-in-More.ensures.items c.read_places.ensures.read
