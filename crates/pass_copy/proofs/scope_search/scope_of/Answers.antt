-- The scope of the first item has the function's arguments alone.
use Rattle.std.proofs.Common.{◌≡◌, ◌∙◌, refl, sym, subst}
use Rattle.std.specs.List.{All}
use Rattle.std.specs.Prelude.{IfSome}
use Rattle.mlir_ir.proofs.LabelsFit.{labels_fit}
use Rattle.mlir_ir.specs.Places.{HasFewLabels}
use Rattle.mlir_ir.specs.Typed.{args_typed}
use Rattle.mlir_ir.specs.View.{view_items}
use Rattle.mlir_ir.specs.declared.types.Body.{Body}
use Rattle.pass_copy.specs.ScopeSearch.{Gives}
use Rattle.pass_copy.specs.Scopes.{ScopeInBody, ScopeInItems}
use Rattle.pass_copy.proofs.scope_search.scope_of.Goals as goal

pub scope_in_items-requires-clause-fit : goal.scope_in_items-requires-clause-fit
scope_in_items-requires-clause-fit c =
    let fit = subst (λ b. IfSome b (λ (body : Body). All HasFewLabels body.items)) c.in-Some.is (labels_fit c.args.f.now c.requires).items_fit in
    subst (λ items. All HasFewLabels items) (sym c.as_slice-in-Some.ensures) fit

pub returns-in-Some : goal.returns-in-Some
returns-in-Some c =
    let f = c.args.f.now in
    let known : args_typed f.index f.args c.args.x.0 ≡ c.arg_type-known.result = sym (c.arg_type-known.ensures ∙ rw (c.new.ensures, c.as_slice.ensures) refl) in
    subst (λ b. ScopeInBody c.args.target.0 (Gives c.args.x.0 c.scope_in_items.result) f b) (sym c.in-Some.is)
    (subst (λ items. ScopeInItems c.args.target.0 (Gives c.args.x.0 c.scope_in_items.result) (args_typed f.index f.args) f.index 1 (view_items items)) c.as_slice-in-Some.ensures
    (c.scope_in_items.ensures (args_typed f.index f.args) known))
