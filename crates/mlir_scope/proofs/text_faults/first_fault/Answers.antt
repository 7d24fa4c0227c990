use Rattle.std.proofs.Common.{◌≡◌, ◌≤◌, ◌++◌, ℕ, List, None, map, length, ap, ◌∙◌, subst, arith}
use Rattle.std.specs.List.{flat_map}
use Rattle.mlir_ir.specs.Phrases as phrases
use Rattle.mlir_ir.specs.Phrases.{phrase_of}
use Rattle.mlir_ir.specs.ScopeFaults.{long_names, over, text_breaks, func_breaks, func_op_tokens}
use Rattle.mlir_ir.specs.Trees.{put, none}
use Rattle.mlir_ir.specs.declared.syntax.Form.TheVariants.{Func}
use Rattle.mlir_ir.specs.declared.token.Token.{Token}
use Rattle.mlir_ir.proofs.TokenLaws.{token_count}
use Rattle.mlir_scope.specs.Functions.{lines_said}
use Rattle.mlir_scope.specs.Noted.{noted}
use Rattle.mlir_scope.specs.Said.{line_said}
use Rattle.mlir_scope.specs.TextParts.{list_breaks}
use Rattle.mlir_scope.specs.Texts.{funcs_in}
use Rattle.mlir_scope.specs.declared.phrase.Line.{Line}
use Rattle.mlir_scope.proofs.TextNotes.{text_noted_late}
use Rattle.mlir_scope.proofs.text_faults.first_fault.Goals as goal

pub note_long-requires : goal.note_long-requires
note_long-requires c =
    let stands = c.requires.stands in
    let few : length c.args.syntax.now.tokens ≤ length stands.text = token_count stands.text c.args.syntax.now.tokens stands.lexed in
    let same : length c.as_slice-tokens.result.now ≡ length c.args.syntax.now.tokens = ap (λ (ts : List Token). length ts) c.as_slice-tokens.ensures in
    omega (arith, few, same, stands.length_is)

pub returns : goal.returns
returns c =
    let root = c.args.syntax.now.root in
    let tokens = c.as_slice-tokens.result.now in
    let said_text = λ (ts : List Token). phrase_of ts (put root none) in
    let found = c.in_ok-funcs.funcs.items in
    let funcs = lines_said tokens found in
    let text = c.in_ok-text.text in
    let one = c.note_long.new.first.best in
    let two = c.note_module.new.first.best in
    let three = c.note_funcs.new.first.best in
    let four = c.note_over.new.first.best in
    let counted : c.note_funcs.new.ops.items ≡ flat_map func_op_tokens funcs =
    c.in_ok-note_funcs.ensures.ops ∙ ap (λ (ts : List ℕ). ts ++ flat_map func_op_tokens (map (line_said text.tokens.now) c.deref-3.result.now)) c.new-ops.ensures.items
    ∙ ap (λ (ts : List Token). flat_map func_op_tokens (map (line_said ts) c.deref-3.result.now)) c.in_ok-text.ensures.tokens
    ∙ ap (λ (fs : List Line). flat_map func_op_tokens (map (line_said tokens) fs)) c.deref-3.ensures.value in
    let known : funcs_in text ≡ funcs = c.in_ok-text.ensures.funcs ∙ ap (λ (fs : List Line). lines_said tokens fs) c.deref-2.ensures.value in
    let all =
    text_noted_late tokens (said_text tokens) funcs None one two three four
    (c.in_ok-funcs.ensures ∙ ap (phrases.lines Func) (c.whole.ensures tokens))
    (c.note_long.ensures ∙ ap (λ b. noted b (long_names 0 tokens)) c.new-first.ensures)
    (c.in_ok-note_module.ensures ∙ ap (λ (fs : List Line). noted one (list_breaks (lines_said tokens fs))) c.deref.ensures.value)
    (c.in_ok-note_funcs.ensures.noted
    ∙ ap (λ (fs : List phrases.Line). noted two (flat_map (func_breaks fs) (map (line_said text.tokens.now) c.deref-3.result.now))) known
    ∙ ap (λ (ts : List Token). noted two (flat_map (func_breaks funcs) (map (line_said ts) c.deref-3.result.now))) c.in_ok-text.ensures.tokens
    ∙ ap (λ (fs : List Line). noted two (flat_map (func_breaks funcs) (map (line_said tokens) fs))) c.deref-3.ensures.value)
    (c.note_over.ensures ∙ ap (λ (ts : List ℕ). noted three (over 65536 ts)) (c.deref-4.ensures.value ∙ counted)) in
    subst (λ (ts : List Token). four ≡ noted None (text_breaks ts (said_text ts))) c.as_slice-tokens.ensures all
