use Rattle.std.proofs.Common.{◌++◌, ◌∙◌, ap, sym, codes, string_bytes}
use Rattle.mlir_ir.specs.declared.types.ForParts.{out-ForParts}
use Rattle.mlir_ir.specs.Canonical.{carried_text, counter_type, use_text}
use Rattle.mlir_print.proofs.FirstLines.{for_head_parts}
use Rattle.mlir_print.proofs.Texts.{for_pushed}
use Rattle.mlir_print.proofs.heads.push_for_head.Goals as goal

pub returns : goal.returns
returns c =
    let n = c.args.names.now in
    let p = out-ForParts c.args.parts.now in
    let types = c.args.results.now in
    let bounded = string_bytes c.push_bounds.new.out in
    for_pushed _ _ _ _ _ _ (codes "scf.for %") p.iv.name (codes " = ") (use_text n p.lower) (codes " to ") (use_text n p.upper) (codes " step ") (use_text n p.step) (carried_text n p.args p.inits types) (counter_type p.iv.ty) (codes " {\n")
    c.in_ok-write.ensures.bytes
    c.in_ok-push_bounds.ensures
    (c.in_ok-push_carried.ensures
    ∙ (ap (λ args. bounded ++ carried_text n args c.as_slice-2.result.now types) c.as_slice.ensures ∙ ap (λ inits. bounded ++ carried_text n p.args inits types) c.as_slice-2.ensures))
    c.in_ok-push_counter_type.ensures
    c.in_ok-writeln.ensures.bytes
    ∙ ap (λ t. string_bytes c.args.out.now ++ t) (sym (for_head_parts n types c.args.parts.now))
