use Rattle.std.proofs.Common.{◌+◌, ◌==◌, ◌&&◌, cond, ap, ◌∙◌, Some}
use Rattle.std.specs.Option.{unwrap_or}
use Rattle.std.specs.Str.{bytes_eq}
use Rattle.std.proofs.lemmas.Map.Text.{hash_map_updates_str}
use Rattle.scev_text.specs.Kept.{count_in, definition_in}
use Rattle.scev_text.proofs.KeptDefinitions.{chosen}
use Rattle.scev_text.proofs.definitions.Definitions.define.Goals as goal

pub returns-clause-counts : goal.returns-clause-counts
returns-clause-counts c = λ q.
    ap (λ o. unwrap_or o 0) (hash_map_updates_str c.args.name.now c.args.self.now.counts c.insert.new.self (Some (c.count-nth.result + 1)) c.in_ok-insert.ensures.updates q)
    ∙ chosen (bytes_eq c.args.name.now q) (c.count-nth.result + 1) _
    ∙ ap (λ n. cond (bytes_eq c.args.name.now q) (n + 1) (count_in c.args.self.now q)) c.count-nth.ensures

pub returns-clause-firsts : goal.returns-clause-firsts
returns-clause-firsts c = λ q n.
    c.in_ok-insert-2.ensures.updates.0 (record { ref_ptr = (0, 0); now = q }, n)
    ∙ ap (λ k. cond (bytes_eq c.args.name.now q && k + 1 == n) (Some c.args.first) (definition_in c.args.self.now q n)) c.count-nth.ensures
