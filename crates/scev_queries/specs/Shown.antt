-- What the module says to a command that asks for an expression, as the definitions have it.
use Rattle.fresh_scev.specs.Expressions.{expression_of}
use Rattle.scev_queries.specs.Answers as answers
use Rattle.scev_queries.specs.declared.ask.Ask.{Ask}
use Rattle.scev_queries.specs.declared.ask.Ask.TheVariants.{Refused, Granted}

abbrev pub shown : Ask → answers.Ask
shown (Refused name) = answers.refused name
shown (Granted reply e) = answers.granted reply (expression_of e)
