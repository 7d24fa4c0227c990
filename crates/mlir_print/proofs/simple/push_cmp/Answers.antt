use Rattle.std.proofs.Common.{◌++◌, ap, ◌∙◌, codes, string_bytes}
use Rattle.mlir_ir.specs.Canonical.{use_text, used_type}
use Rattle.mlir_ir.specs.Words.{pred_text}
use Rattle.mlir_print.proofs.Texts.{cmp_pushed}
use Rattle.mlir_print.proofs.simple.push_cmp.Goals as goal

pub returns : goal.returns
returns c =
    let n = c.args.names.now in
    cmp_pushed _ _ _ _ _ (codes "arith.cmpi ") (pred_text c.args.pred) (codes ", ") (use_text n c.args.a) (use_text n c.args.b) (codes " : ") (used_type n c.args.a)
    (c.in_ok-write.ensures.bytes ∙ ap (λ w. string_bytes c.args.out.now ++ (codes "arith.cmpi " ++ w ++ codes ", ")) c.pred_word-word.ensures)
    c.in_ok-push_pair.ensures
    c.in_ok-write-2.ensures.bytes
    c.in_ok-push_used_type.ensures
