use Rattle.std.proofs.Common.{arith, ap, sym, subst, ◌∙◌, All, List}
use Rattle.mlir_ir.specs.Values.{Value}
use Rattle.mlir_ir.proofs.LabelsFit.{few_items, labels_fit}
use Rattle.scev_text.specs.Kept.{DoesFit}
use Rattle.scev_text.specs.Naming.{loop_number}
use Rattle.scev_text.proofs.FittingCounts.{values_fit}
use Rattle.scev_text.proofs.naming.ValueNames.new.Goals as goal

pub loops-requires-clause-few : goal.loops-requires-clause-few
loops-requires-clause-few c = few_items c.args.func.now c.requires

pub loops-requires-clause-fit : goal.loops-requires-clause-fit
loops-requires-clause-fit c = labels_fit c.args.func.now c.requires

pub invariant_of-result : goal.invariant_of-result
invariant_of-result c =
    record {
      behind = c.in_ok-definitions.ensures.0;
      kept = c.in_ok-definitions.ensures.1;
      fit = subst (λ (vs : List Value). All DoesFit vs) (sym (ap (λ n. n.values) c.in_ok-names.ensures)) (values_fit c.args.func.now (omega arith) c.requires);
      numbered = λ label. c.in_ok-numbers.ensures label ∙ ap (λ ls. loop_number ls label) c.as_slice.ensures;
    }
