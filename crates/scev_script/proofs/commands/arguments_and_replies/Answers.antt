-- The replies stand behind the `/`.
use Rattle.scev_script.specs.Commands.{is_slash}
use Rattle.scev_script.proofs.ByteLists.{after_map}
use Rattle.scev_script.proofs.commands.arguments_and_replies.Goals as goal

pub returns-in-Some-clause-behind : goal.returns-in-Some-clause-behind
returns-in-Some-clause-behind c =
    after_map
    (λ w. w.now)
    is_slash
    c.words_before_slash.result
    c.args.words.now
    c.split_at.result.1.now
    c.in-Some.replies.now
    c.in-Some.field-0-0.now
    c.split_at.ensures.back
    c.in-Some.ensures.cases.0
    c.words_before_slash.ensures.value
