-- The chunk has the front of the bytes.
use Rattle.std.proofs.Common.{ℕ, List, IsUtf8, take, subst, sym, ap, ◌∙◌}
use Rattle.std.proofs.lemmas.List.{take-take}
use Rattle.arith_word.proofs.text.Text.from_front.Goals as goal

pub of_chunk-requires-clause-utf8 : goal.of_chunk-requires-clause-utf8
of_chunk-requires-clause-utf8 c =
    let same = ap (take c.args.len) c.in-Some.ensures.cases.0 ∙ take-take c.args.len 16 c.args.bytes.now c.if-len-le-MAX_SHORT.true in
    subst (λ (bytes : List ℕ). IsUtf8 bytes) (sym same) c.requires.utf8

pub returns-in-Some : goal.returns-in-Some
returns-in-Some c =
    c.of_chunk.ensures ∙ ap (take c.args.len) c.in-Some.ensures.cases.0 ∙ take-take c.args.len 16 c.args.bytes.now c.if-len-le-MAX_SHORT.true
