use Rattle.std.proofs.Common.{◌<◌, ◌^◌, ℕ, sym, subst}
use Rattle.memo.specs.Keeping.{MayKeep}
use Rattle.memo.proofs.Gaining.{load_id_gains, put_id_gains, stand_here, stand_more, node_small, id_word_is, id_word_id, log_kept}
use Rattle.memo.proofs.Placing.{found_there, lost_there}
use Rattle.memo.proofs.kept.keep_here.Goals as goal

pub returns-then-found-ne0-clause-events : goal.returns-then-found-ne0-clause-events
returns-then-found-ne0-clause-events g c =
    let e = c.load_id-found.ensures in
    found_there g.M.MemoMeaning.meaning _ _ c.args.at c.load_id-found.result c.args.n.0 _ (record { event = e.event; cells = e.cells; stands = e.stands; is_id = e.word }) c.if-found-ne0.true c.node_of.ensures

pub returns-then-found-ne0-clause-stands : goal.returns-then-found-ne0-clause-stands
returns-then-found-ne0-clause-stands g c =
    let e = c.load_id-found.ensures in
    let w = c.load_id-found.new.p.view in
    let s = e.stands c.if-found-ne0.true c.args.key c.requires.key c.requires.version in
    let gains = load_id_gains c.args.p.now.view w c.args.at c.load_id-found.result e.event e.cells in
    subst (λ (id : ℕ). MayKeep g.M.MemoMeaning.meaning w c.args.key id) (sym c.node_of.ensures) (stand_here g.M.MemoMeaning.meaning g.M.MemoMeaning.laws c.args.p.now.view w c.args.key _ gains s)

pub put_id-requires-clause-word : goal.put_id-requires-clause-word
put_id-requires-clause-word g c =
    let m = g.M.MemoMeaning.meaning in
    let e = c.load_id-found.ensures in
    let w = c.load_id-found.new.p.view in
    let gains = load_id_gains c.args.p.now.view w c.args.at c.load_id-found.result e.event e.cells in
    let small : c.args.n.0 < 2 ^ 20 = node_small m g.M.MemoMeaning.laws _ c.args.key c.args.n.0 c.facts.ensures c.requires.node in
    record {
      key = c.args.key;
      has = gains.keys c.args.at c.args.key c.requires.key;
      is_id = id_word_is c.args.n.0 c.id_word.result c.id_word.ensures small;
      together = subst (λ (id : ℕ). MayKeep m w c.args.key id) (sym (id_word_id c.args.n.0 c.id_word.result c.id_word.ensures small)) (stand_more m g.M.MemoMeaning.laws c.args.p.now.view w c.args.key c.args.n.0 gains c.requires.node);
    }

pub returns-in-Lost-clause-events : goal.returns-in-Lost-clause-events
returns-in-Lost-clause-events g c =
    let e = c.load_id-found.ensures in
    let t = c.in-Lost.ensures in
    lost_there g.M.MemoMeaning.meaning _ _ _ c.args.at c.load_id-found.result c.in-Lost.other c.args.n.0 c.id_word.result _ (record { event = e.event; cells = e.cells; stands = e.stands; is_id = e.word }) c.if-found-ne0.false (record { event = t.event; cells = t.cells; stands = t.stands }) c.id_word.ensures t.answer c.node_of-in-Lost.ensures

pub returns-in-Lost-clause-stands : goal.returns-in-Lost-clause-stands
returns-in-Lost-clause-stands g c =
    let m = g.M.MemoMeaning.meaning in
    let e = c.load_id-found.ensures in
    let t = c.in-Lost.ensures in
    let v = c.load_id-found.new.p.view in
    let w = c.put_id.new.p.view in
    let before = load_id_gains c.args.p.now.view v c.args.at c.load_id-found.result e.event e.cells in
    let gains = put_id_gains v w c.args.at c.id_word.result c.in-Lost.other t.event t.cells in
    let s = t.stands t.answer c.args.key (before.keys c.args.at c.args.key c.requires.key) (log_kept c.args.p.now.view v _ before c.requires.version) in
    subst (λ (id : ℕ). MayKeep m w c.args.key id) (sym c.node_of-in-Lost.ensures) (stand_here m g.M.MemoMeaning.laws v w c.args.key _ gains s)
