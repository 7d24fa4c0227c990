-- Functions that a syntax without breaks stands for keep the limits.
use Rattle.std.proofs.Common.{◌≡◌, ℕ, ◌+◌, ◌≤◌, true, List, [], ◌∷◌, length, map, slice_get, refl, ap, ◌∙◌, sym, subst, arith, Option, None, Some}
use Rattle.std.proofs.lemmas.List.{length-map}
use Rattle.std.proofs.lemmas.List.Folds.{list_all-append}
use Rattle.std.specs.List.{list_all}
use Rattle.std.specs.Option.{option_map}
use Rattle.arith_word.specs.Labels.{label_at}
use Rattle.mlir_ir.specs.Limits.{arg_limit, result_limit}
use Rattle.mlir_ir.specs.Phrases.{Line, lines, inside}
use Rattle.mlir_ir.specs.Reads.{phrase_in, plain_body, plain_func}
use Rattle.mlir_ir.specs.Resolved.{PlainBody, PlainFunc, tys, args_of, func_args, func_name, func_of, func_lines, body_of}
use Rattle.mlir_ir.specs.Rules.{is_short}
use Rattle.mlir_ir.specs.ScopeFaults.{func_breaks, body_breaks}
use Rattle.mlir_ir.specs.Sized.{SizedArgs, SizedBody}
use Rattle.mlir_ir.specs.Source.{Written, block, params_in, listed_types, result_types}
use Rattle.mlir_ir.specs.Values.{arg_values}
use Rattle.mlir_ir.specs.WellFormed.{IsSized, IsSizedBody}
use Rattle.mlir_ir.specs.declared.syntax.Form.TheVariants as forms
use Rattle.mlir_ir.specs.declared.syntax.Syntax.{Syntax}
use Rattle.mlir_ir.specs.declared.types.Arg.{Arg}
use Rattle.mlir_ir.specs.declared.types.Body.{Body}
use Rattle.mlir_ir.specs.declared.types.Func.{Func}
use Rattle.mlir_ir.specs.declared.types.IrType.{IrType}
use Rattle.mlir_scope.specs.StandingFunctions.{AreDerivedFunctions}
use Rattle.mlir_scope.proofs.FunctionParts.{FuncParts, func_parts, body_parts, flat_none, each_at}
use Rattle.mlir_scope.proofs.NoBreaks.{Each, text_parts}
use Rattle.mlir_scope.proofs.ResolvedModules.{args_few}
use Rattle.mlir_scope.proofs.ResolvedNames.{line_at}
use Rattle.mlir_scope.proofs.ResolvedSizes.{short_params, items_sized}
use Rattle.mlir_scope.proofs.ShapedBlocks.{syntax_shaped}
use Rattle.mlir_scope.proofs.Shapes.{FuncShape, ShapedBodies}
use Rattle.mlir_scope.proofs.Tests.{both}

short_types : (types : List Written) → list_all (λ (arg : Arg). is_short arg.name) (map (λ (t : Written). record { name = []; ty = t.ty }) types) ≡ true
short_types [] = refl
short_types (t ∷ types) = short_types types

args_sized : (ls : List Line) (l : Line) → FuncParts ls l → FuncShape l → SizedArgs (func_args l)
args_sized ls l parts shape =
    let params = args_of (params_in (inside forms.Params l.parts)) in
    let types = map (λ (t : Written). record { name = []; ty = t.ty }) (listed_types l.parts) in
    record {
      short = list_all-append (λ (arg : Arg). is_short arg.name) params types ∙ both _ _ (short_params (params_in (inside forms.Params l.parts)) shape.params_named) (short_types (listed_types l.parts));
      few = subst (λ n. n ≤ arg_limit) (sym (args_few l)) parts.few_args;
    }

-- a body as plain data
abbrev PlainSized : Option PlainBody → Type 0
PlainSized None = Unit {0}
PlainSized (Some body) = SizedBody body.items

bodies_sized : (ls : List Line) (k : ℕ) (l : Line) (bodies : List Line) → Each (λ (body : Line). body_breaks ls l body ≡ []) bodies → ShapedBodies bodies → PlainSized (body_of (map func_name ls) k (func_args l) bodies)
bodies_sized ls k l [] h sh = tt
bodies_sized ls k l (body ∷ bodies) h sh =
    let parts = body_parts ls l body h.0 in
    let fit = items_sized ls (map func_name ls) k 1 (block body.parts) (arg_values (label_at k 0 0) (func_args l)) (arg_values 0 (func_args l)) sh.0 parts.inside parts.narrow in
    record { few = omega (arith, fit.few, parts.few_items); few_ops = omega (arith, fit.few_ops, parts.few_ops); inside = fit.inside }

body_sized : (body : Option Body) → PlainSized (option_map plain_body body) → IsSizedBody body
body_sized None h = tt
body_sized (Some body) h = h

func_sized : (ls : List Line) (k : ℕ) (l : Line) (f : Func) → func_breaks ls l ≡ [] → FuncShape l → plain_func f ≡ func_of (map func_name ls) k l → IsSized f
func_sized ls k l f h shape e =
    let parts = func_parts ls l h in
    let name : f.name ≡ func_name l = ap (λ (p : PlainFunc). p.name) e in
    let args : f.args ≡ func_args l = ap (λ (p : PlainFunc). p.args) e in
    let results : f.results ≡ tys (result_types l.parts) = ap (λ (p : PlainFunc). p.results) e in
    let body : option_map plain_body f.body ≡ body_of (map func_name ls) k (func_args l) (lines forms.Body l.parts) = ap (λ (p : PlainFunc). p.body) e in
    let few : length (tys (result_types l.parts)) ≤ result_limit = subst (λ n. n ≤ result_limit) (length-map {B = ℕ} (result_types l.parts) _ ∙ sym (length-map {B = IrType} (result_types l.parts) _)) parts.few_results in
    record {
      short = rw name shape.named.1;
      few = subst (λ (tys : List IrType). length tys ≤ result_limit) (sym results) few;
      args_sized = subst SizedArgs (sym args) (args_sized ls l parts shape);
      inside = body_sized f.body (subst PlainSized (sym body) (bodies_sized ls k l (lines forms.Body l.parts) parts.bodies shape.bodies));
    }

-- the line of a function, without breaks and with the shape of the grammar
pub record LineKept (s : Syntax) (f : Func) : Type 0 where
  pub at : ℕ
  pub l : Line
  pub none : func_breaks (func_lines (phrase_in s)) l ≡ []
  pub shape : FuncShape l
  pub same : plain_func f ≡ func_of (map func_name (func_lines (phrase_in s))) at l

pub line_kept : (s : Syntax) (funcs : List Func) → AreDerivedFunctions s funcs → (k : ℕ) (f : Func) → slice_get funcs k ≡ Some f → LineKept s f
line_kept s funcs derived k f e =
    let h = derived.functions in
    let ls = func_lines (phrase_in s) in
    let parts = text_parts s.tokens (phrase_in s) h.keeps in
    let found = line_at (map func_name ls) 0 ls funcs h.same k f e in
    record {
      at = 0 + k;
      l = found.0;
      none = each_at (λ (l : Line). func_breaks ls l ≡ []) ls k found.0 (flat_none (func_breaks ls) ls parts.inside) found.1;
      shape = each_at FuncShape ls k found.0 (syntax_shaped s derived.stands parts.short) found.1;
      same = found.2;
    }

pub functions_sized : (s : Syntax) (funcs : List Func) → AreDerivedFunctions s funcs → (k : ℕ) (f : Func) → slice_get funcs k ≡ Some f → IsSized f
functions_sized s funcs h k f e =
    let line = line_kept s funcs h k f e in
    func_sized (func_lines (phrase_in s)) line.at line.l f line.none line.shape line.same
