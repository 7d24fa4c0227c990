use Rattle.std.proofs.Common.{◌≡◌, ◌∷◌, ◌+◌, ◌<◌, List, length, drop, map, ap, ◌∙◌, sym, arith}
use Rattle.std.specs.List.{flat_map}
use Rattle.mlir_ir.specs.Phrases as phrases
use Rattle.mlir_ir.specs.ScopeFaults.{func_breaks}
use Rattle.mlir_scope.specs.Said.{line_said}
use Rattle.mlir_scope.specs.Texts.{funcs_in}
use Rattle.mlir_scope.specs.declared.phrase.Line.{Line}
use Rattle.mlir_scope.proofs.Notes.{noted_more}
use Rattle.mlir_scope.proofs.Parted.{cut_here}
use Rattle.mlir_scope.proofs.TextNotes.{op_tokens_step}
use Rattle.mlir_scope.proofs.text_faults.note_funcs.Goals as goal

pub each-preserved : goal.each-preserved
each-preserved c =
    let tokens = c.args.text.now.tokens.now in
    let broken = func_breaks (funcs_in c.args.text.now) in
    let f = line_said tokens c.f-item.result in
    let all = map (line_said tokens) (drop c.each.f-index c.args.funcs.now) in
    let rest = map (line_said tokens) (drop (c.each.f-index + 1) c.args.funcs.now) in
    let inside : c.each.f-index < length c.args.funcs.now = omega arith in
    let split : all ≡ f ∷ rest =
    ap (λ (fs : List Line). map (line_said tokens) fs) (cut_here c.args.funcs.now c.each.f-index c.f-item.result inside c.f-item.is) in
    let counted = op_tokens_step all rest f c.each.ops.items c.add_line_ops.new.found.items split c.in_ok-add_line_ops.ensures in
    let noted_all =
    noted_more c.each.first.best c.note_func.new.first.best (flat_map broken all) (broken f) (flat_map broken rest) c.in_ok-note_func.ensures
    (ap (λ (ls : List phrases.Line). flat_map broken ls) split) in
    (sym noted_all ∙ c.each.invariant.0, counted ∙ c.each.invariant.1)
