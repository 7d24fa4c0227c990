use Rattle.std.proofs.Common.{string_bytes}
use Rattle.scev_queries.proofs.PassedWords.{passed_on}
use Rattle.scev_queries.proofs.run_text.push_passed.Goals as goal

pub returns-in_ok-push_more-in-Some : goal.returns-in_ok-push_more-in-Some
returns-in_ok-push_more-in-Some c =
    let bytes = string_bytes c.args.out.now in
    passed_on bytes (string_bytes c.push_word.new.out) (string_bytes c.push_more.new.out) c.args.words.now c.in-Some.more.now c.in-Some.first.now
    c.in-Some.ensures.cases c.in_ok-push_word-in-Some.ensures c.in_ok-push_more-in-Some.ensures
