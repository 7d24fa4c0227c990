-- The lines of answers.
use Rattle.std.specs.Prelude.{ℕ, List, [], ◌∷◌, ◌++◌, codes}
use Rattle.std.specs.Fmt.{decimal}
use Rattle.scev_script.specs.declared.reply.RefusalName.{RefusalName}
use Rattle.scev_script.specs.declared.reply.RefusalName.TheVariants.{NoFunc, NoValue, NoLoop, NotInLoop, WrongArgs, CellsFull}
use Rattle.scev_script.specs.declared.reply.Reply.{Reply}
use Rattle.scev_script.specs.declared.reply.Reply.TheVariants.{Pinned, NotYet, Lines, Forgotten, Held, Refusal}

abbrev pub refusal_text : RefusalName → List ℕ
refusal_text NoFunc = codes "no func"
refusal_text NoValue = codes "no value"
refusal_text NoLoop = codes "no loop"
refusal_text NotInLoop = codes "not in loop"
refusal_text WrongArgs = codes "wrong args"
refusal_text CellsFull = codes "cells full"

-- the lines of a reply, each with its LF
abbrev pub reply_lines : Reply → List ℕ
reply_lines (Pinned version) = codes "pinned " ++ decimal version ++ 10 ∷ []
reply_lines (NotYet front) = codes "not yet: front " ++ decimal front ++ 10 ∷ []
reply_lines (Lines lines) = lines
reply_lines Forgotten = codes "forgotten\n"
reply_lines Held = codes "held\n"
reply_lines (Refusal name) = refusal_text name ++ 10 ∷ []
