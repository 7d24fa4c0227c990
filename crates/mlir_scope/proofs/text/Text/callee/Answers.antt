use Rattle.std.proofs.Common.{◌≡◌, List, sym, ◌∙◌, ap, slice_get}
use Rattle.std.specs.Option.{option_copied}
use Rattle.mlir_scope.specs.Functions.{lines_said}
use Rattle.mlir_scope.specs.Scopes.{label_named}
use Rattle.mlir_scope.specs.declared.signatures.Signature.{Signature}
use Rattle.mlir_scope.proofs.Callees.{signature_at, no_signature}
use Rattle.mlir_scope.proofs.FirstPlaces.{copied_at}
use Rattle.mlir_scope.proofs.text.Text.callee.Goals as goal

pub returns-in-Some : goal.returns-in-Some
returns-in-Some c =
    let self = c.args.self.now in
    let got : option_copied c.get.result ≡ slice_get c.as_slice.result.now c.in-Some.index =
    copied_at c.as_slice.result.now c.in-Some.index c.get.result c.get.ensures.lookup.0 c.get.ensures.lookup.1 in
    signature_at c.get.result self.signatures.items (lines_said self.tokens.now self.funcs.now) c.args.name.now c.in-Some.index
    (got ∙ ap (λ (xs : List Signature). slice_get xs c.in-Some.index) c.as_slice.ensures.value)
    self.listed
    (ap (label_named c.args.name.now) (sym self.named) ∙ sym c.first_named.ensures ∙ c.in-Some.is)

pub returns-in-None : goal.returns-in-None
returns-in-None c =
    let self = c.args.self.now in
    no_signature (lines_said self.tokens.now self.funcs.now) c.args.name.now (ap (label_named c.args.name.now) (sym self.named) ∙ sym c.first_named.ensures ∙ c.in-None.is)
