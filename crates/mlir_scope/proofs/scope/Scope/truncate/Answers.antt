use Rattle.std.proofs.Common.{◌∙◌, ap, sym, map, List}
use Rattle.std.proofs.lemmas.List.{take-map}
use Rattle.mlir_scope.specs.Knowns.{known_said, at_name}
use Rattle.mlir_scope.specs.declared.scope.Known.{Known}
use Rattle.mlir_scope.proofs.NamesAlone.{same_kept}
use Rattle.mlir_scope.proofs.scope.Scope.truncate.Goals as goal

pub returns : goal.returns
returns c = ap (map known_said) c.truncate.ensures ∙ sym (take-map known_said c.args.len c.args.self.now.places.values.items)

pub invariant_of-self : goal.invariant_of-self
invariant_of-self c =
    record {
      same =
          ap (map known_said) c.truncate-2.ensures
          ∙ same_kept c.args.len c.args.self.now.names.values.items c.args.self.now.places.values.items c.args.self.now.same
          ∙ sym (ap (λ (ks : List Known). map at_name (map known_said ks)) c.truncate.ensures);
    }
