use Rattle.std.proofs.Common.{◌≡◌, ◌∙◌, ap, List}
use Rattle.mlir_ir.specs.Phrases.{Phrase, inside}
use Rattle.mlir_ir.specs.Resolved.{labels}
use Rattle.mlir_ir.specs.Source.{listed_uses}
use Rattle.mlir_ir.specs.Values.{Value}
use Rattle.mlir_ir.specs.View.{view_items}
use Rattle.mlir_ir.specs.declared.syntax.Form.TheVariants as forms
use Rattle.mlir_ir.specs.declared.types.Item.{Item}
use Rattle.mlir_scope.specs.Built.{scope_at}
use Rattle.mlir_scope.specs.Said.{said}
use Rattle.mlir_scope.proofs.built_funcs.build_body.Goals as goal

pub returns : goal.returns
returns c =
    let items = ap (λ (xs : List Item). view_items xs) c.from_vec.ensures ∙ c.in_ok-items.ensures.built in
    let ret =
    c.in_ok-ret.ensures
    ∙ ap (λ (p : Phrase). labels (scope_at c.build_items.new.place) (listed_uses p)) c.inside-ends.ensures
    ∙ ap (λ (s : List Value). labels s (listed_uses (inside forms.Ends (said c.args.origin.tokens.now c.args.parts.now)))) c.in_ok-items.ensures.scope in
    λ i. record { items = items i; ret = ret i }
