use Rattle.std.proofs.Common.{◌≡◌, ℕ, true, List, [], Option, find, ap, ◌∙◌, sym, subst}
use Rattle.std.specs.Borrow.{Bor}
use Rattle.std.specs.Str.{bytes_eq}
use Rattle.mlir_ir.specs.Phrases.{first_spot, spots}
use Rattle.mlir_ir.specs.Resolved.{func_name}
use Rattle.mlir_ir.specs.ScopeFaults.{broken}
use Rattle.mlir_ir.specs.Source as source
use Rattle.mlir_ir.specs.declared.scope_kind.ScopeKind.TheVariants.{Unknown}
use Rattle.mlir_ir.specs.declared.terminal.Terminal.TheVariants.{Symbol}
use Rattle.mlir_scope.specs.Noted.{noted}
use Rattle.mlir_scope.specs.Reading.{defined_said}
use Rattle.mlir_scope.specs.Said.{said}
use Rattle.mlir_scope.specs.Texts.{funcs_in, has_signature}
use Rattle.mlir_scope.specs.declared.signatures.Signature.{Signature}
use Rattle.mlir_scope.proofs.Simples.{callee_found, callee_missing}
use Rattle.mlir_scope.proofs.simple.note_callee.Goals as goal

pub returns-in_ok-note_call_types-in-Some : goal.returns-in_ok-note_call_types-in-Some
returns-in_ok-note_call_types-in-Some c =
    let kind = said c.args.text.now.tokens.now c.args.kind.now in
    let funcs = funcs_in c.args.text.now in
    let here : defined_said c.defined_at-callee.result ≡ source.defined (first_spot (spots Symbol kind)) = c.defined_at-callee.ensures ∙ ap source.defined c.first_spot.ensures in
    let named = subst (λ (n : List ℕ). has_signature (find (λ f. bytes_eq (func_name f) n) funcs) c.callee.result) (ap (λ (d : source.Defined). d.name) here) c.callee.ensures in
    let has = subst (λ (r : Option (Bor Signature)). has_signature (find (λ f. bytes_eq (func_name f) (source.unsigned (first_spot (spots Symbol kind)).text)) funcs) r) c.in-Some.is named in
    c.in_ok-note_call_types-in-Some.ensures ∙ ap (noted c.args.first.now.best) (sym (callee_found funcs [] kind c.in-Some.signature has))

pub returns-in-None : goal.returns-in-None
returns-in-None c =
    let kind = said c.args.text.now.tokens.now c.args.kind.now in
    let funcs = funcs_in c.args.text.now in
    let here : defined_said c.defined_at-callee.result ≡ source.defined (first_spot (spots Symbol kind)) = c.defined_at-callee.ensures ∙ ap source.defined c.first_spot.ensures in
    let named = subst (λ (n : List ℕ). has_signature (find (λ f. bytes_eq (func_name f) n) funcs) c.callee.result) (ap (λ (d : source.Defined). d.name) here) c.callee.ensures in
    let has = subst (λ (r : Option (Bor Signature)). has_signature (find (λ f. bytes_eq (func_name f) (source.unsigned (first_spot (spots Symbol kind)).text)) funcs) r) c.in-None.is named in
    c.note_if.ensures
    ∙ ap (λ a. noted c.args.first.now.best (broken true a Unknown)) (ap (λ (d : source.Defined). d.at) here)
    ∙ ap (noted c.args.first.now.best) (sym (callee_missing funcs [] kind has))
