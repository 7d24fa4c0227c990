-- Numbers that are passed behind others.
use Rattle.std.specs.Prelude.{List, ℕ, [], ◌∷◌, ◌++◌, codes}
use Rattle.mlir_ir.specs.Runs.{Number}
use Rattle.scev_queries.specs.RunTexts.{word_text}

-- each behind a comma
abbrev pub behind_commas : List Number → List ℕ
behind_commas [] = []
behind_commas (n ∷ ns) = codes "," ++ word_text n ++ behind_commas ns
