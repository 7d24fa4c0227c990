-- Up to the first LF, or the whole bytes.
use Rattle.std.proofs.Common.{◌<◌, ◌≤◌, ◌∙◌, length, take, ap, sym, arith}
use Rattle.std.specs.Str.Lines.{strip_carriage_return}
use Rattle.scev_script.proofs.Splits.{whole_line, ended_line}
use Rattle.scev_script.proofs.lines.first_line.Goals as goal

pub returns-then-end-bytes : goal.returns-then-end-bytes
returns-then-end-bytes c = whole_line c.args.bytes.now c.place_of_first-end.result c.place_of_first-end.ensures.value c.if-end-bytes.true c.requires

pub returns-else-end-bytes : goal.returns-else-end-bytes
returns-else-end-bytes c =
    let front = c.split_at.ensures.front in
    let before : c.place_of_first-end.result < length c.args.bytes.now = omega (arith, c.place_of_first-end.ensures.within, c.if-end-bytes.false) in
    let short : c.text_len.result ≤ c.place_of_first-end.result = omega (arith, c.text_len.ensures.within, c.split_at.ensures.front_len) in
    ended_line c.args.bytes.now c.place_of_first-end.result c.text_len.result c.place_of_first-end.ensures.value before
    (ap (take c.text_len.result) (sym front) ∙ c.text_len.ensures.text ∙ ap strip_carriage_return front) short
