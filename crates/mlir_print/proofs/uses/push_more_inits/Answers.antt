use Rattle.std.proofs.Common.{◌++◌, map, sym, ap, ◌∙◌, append-nil, string_bytes, arith}
use Rattle.mlir_ir.specs.Canonical.{behind_commas, init_text}
use Rattle.mlir_print.proofs.Commas.{no_pairs}
use Rattle.mlir_print.proofs.uses.push_more_inits.Goals as goal

pub returns : goal.returns
returns c =
    sym (ap (λ ps. string_bytes c.loop-k.out ++ behind_commas (map (init_text c.args.names.now) ps)) (no_pairs c.args.args.now c.args.inits.now c.loop-k.k (omega arith)) ∙ append-nil (string_bytes c.loop-k.out))
    ∙ c.loop-k.invariant
