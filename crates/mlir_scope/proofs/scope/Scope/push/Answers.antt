use Rattle.std.proofs.Common.{◌∙◌, ap, sym, map, List, length, ◌≡◌}
use Rattle.mlir_scope.specs.Knowns.{known_said, at_name}
use Rattle.mlir_scope.specs.declared.scope.Known.{Known}
use Rattle.mlir_scope.proofs.NamesAlone.{taken_back, of_err}
use Rattle.mlir_scope.proofs.scope.Scope.push.Goals as goal

pub invariant_of-self-then-is_err : goal.invariant_of-self-then-is_err
invariant_of-self-then-is_err c =
    let self = c.args.self.now in
    record {
      same =
          taken_back c.len-len.result self.places.values.items c.push.new.self.values.items self.names.values.items c.push-2.new.self.values.items (known_said c.args.known)
          c.len-len.ensures c.in_ok-push.ensures.pushed
          (of_err c.push-2.result _ (sym c.is_err.ensures.value ∙ c.if-is_err.true) c.push-2.ensures.failed)
          self.same
          ∙ ap (λ (ks : List Known). map at_name (map known_said ks)) (sym c.truncate.ensures);
    }
