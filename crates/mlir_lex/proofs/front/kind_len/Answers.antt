-- The longest token of each kind.
use Rattle.std.proofs.Common.{◌≡◌, ◌+◌, ◌∷◌, true, subst, sym}
use Rattle.mlir_ir.specs.Tokens.{is_token, begins}
use Rattle.mlir_lex.specs.Longest.{IsLongest}
use Rattle.mlir_lex.proofs.Lengths.{word_of}
use Rattle.mlir_lex.proofs.Fronts.{value_of, symbol_of, caret_of, pick_of}
use Rattle.mlir_lex.proofs.front.kind_len.Goals as goal

pub returns-in-Word : goal.returns-in-Word
returns-in-Word c =
    let first = subst (λ k. begins k c.args.first ≡ true) c.in-Word.is c.requires in
    subst (λ k. IsLongest (is_token k) (c.args.first ∷ c.args.rest.now) (1 + c.word_bytes.result)) (sym c.in-Word.is)
    (word_of c.args.first c.args.rest.now c.word_bytes.result first c.word_bytes.ensures.value)

pub returns-in-Value : goal.returns-in-Value
returns-in-Value c =
    value_of c.args.kind c.args.first c.args.rest.now c.name_len.result c.led_len.result c.in-Value.is c.requires c.name_len.ensures c.led_len.ensures.nothing c.led_len.ensures.more

pub returns-in-Symbol : goal.returns-in-Symbol
returns-in-Symbol c =
    symbol_of c.args.kind c.args.first c.args.rest.now c.name_len-in-Symbol.result c.led_len-in-Symbol.result c.in-Symbol.is c.requires c.name_len-in-Symbol.ensures c.led_len-in-Symbol.ensures.nothing c.led_len-in-Symbol.ensures.more

pub returns-in-Caret : goal.returns-in-Caret
returns-in-Caret c =
    caret_of c.args.kind c.args.first c.args.rest.now c.name_len-in-Caret.result c.led_len-in-Caret.result c.in-Caret.is c.requires c.name_len-in-Caret.ensures c.led_len-in-Caret.ensures.nothing c.led_len-in-Caret.ensures.more

pub returns-in-Pick : goal.returns-in-Pick
returns-in-Pick c =
    pick_of c.args.kind c.args.first c.args.rest.now c.decimal_len.result c.led_len-in-Pick.result c.in-Pick.is c.requires c.decimal_len.ensures c.led_len-in-Pick.ensures.nothing c.led_len-in-Pick.ensures.more
