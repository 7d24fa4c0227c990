-- The calls of functions that a syntax without breaks stands for fit their callees.
use Rattle.std.proofs.Common.{◌≡◌, ℕ, zero, suc, ◌+◌, ◌≤◌, List, [], ◌∷◌, ◌++◌, length, map, refl, ap, ◌∙◌, sym, subst, arith, length-append, Some}
use Rattle.std.specs.List.{All}
use Rattle.std.proofs.lemmas.List.{length-map}
use Rattle.arith_word.specs.Labels.{label_at}
use Rattle.mlir_ir.specs.Calls.{Called, func_calls, DoCallsFit, FitsCallee}
use Rattle.mlir_ir.specs.Limits.{label_limit}
use Rattle.mlir_ir.specs.Phrases.{Line, lines, inside}
use Rattle.mlir_ir.specs.Reads.{phrase_in, plain_func}
use Rattle.mlir_ir.specs.Resolved.{PlainFunc, tys, args_of, func_args, func_name, func_of, funcs_from, func_lines, body_of, items_of}
use Rattle.mlir_ir.specs.ScopeFaults.{func_breaks, body_breaks, arg_tokens}
use Rattle.mlir_ir.specs.Source.{Defined, Written, block, params_in, listed_types, result_types}
use Rattle.mlir_ir.specs.Values.{Value, arg_values, func_values, type_at}
use Rattle.mlir_ir.specs.declared.syntax.Form.TheVariants as forms
use Rattle.mlir_ir.specs.declared.syntax.Syntax.{Syntax}
use Rattle.mlir_ir.specs.declared.types.Arg.{Arg}
use Rattle.mlir_ir.specs.declared.types.Func.{Func}
use Rattle.mlir_scope.specs.StandingFunctions.{AreDerivedFunctions}
use Rattle.mlir_scope.proofs.FunctionParts.{func_parts, body_parts, flat_none, each_at, args_count, items_fitting}
use Rattle.mlir_scope.proofs.NoBreaks.{Each, each_split, text_parts}
use Rattle.mlir_scope.proofs.PlainRises.{func_between, all_seen}
use Rattle.mlir_scope.proofs.PlainValues.{body_called, plain_values, items_all, func_called, func_all}
use Rattle.mlir_scope.proofs.ResolvedCalls.{FitsLine, items_fit}
use Rattle.mlir_scope.proofs.ResolvedNames.{line_at}
use Rattle.mlir_scope.proofs.ScopeUses.{Seen, args_alike}
use Rattle.mlir_scope.proofs.Shapes.{ShapedBodies, FuncShape}
use Rattle.mlir_scope.proofs.ShapedBlocks.{syntax_shaped}

-- a function has as few arguments as tokens at which they begin
pub args_few : (f : Line) → length (func_args f) ≡ length (arg_tokens f)
args_few f =
    length-append (args_of (params_in (inside forms.Params f.parts))) (map (λ (t : Written). record { name = []; ty = t.ty }) (listed_types f.parts))
    ∙ (λ j. args_count (params_in (inside forms.Params f.parts)) j + length-map {B = Arg} (listed_types f.parts) (λ (t : Written). record { name = []; ty = t.ty }) j)
    ∙ sym (length-append (map (λ (p : Defined × Written). p.0.at) (params_in (inside forms.Params f.parts))) (map (λ (t : Written). t.at) (listed_types f.parts))
    ∙ (λ j. length-map (params_in (inside forms.Params f.parts)) (λ (p : Defined × Written). p.0.at) j + length-map (listed_types f.parts) (λ (t : Written). t.at) j))

abbrev CallsFit : List Line → PlainFunc → Type 0
CallsFit ls f = Each (FitsLine ls (type_at (plain_values f))) (body_called f.body)

plain_fits : (ls : List Line) (k : ℕ) (l : Line) → func_breaks ls l ≡ [] → ShapedBodies (lines forms.Body l.parts) → CallsFit ls (func_of (map func_name ls) k l)
plain_fits ls k l h sh =
    let parts = func_parts ls l h in
    let few : length (func_args l) ≤ label_limit = omega (arith, args_few l, parts.few_args) in
    bodies_fit ls k l (lines forms.Body l.parts) few parts.bodies sh
  where
    bodies_fit : (ls : List Line) (k : ℕ) (l : Line) (bodies : List Line) → length (func_args l) ≤ label_limit → Each (λ (body : Line). body_breaks ls l body ≡ []) bodies → ShapedBodies bodies
        → CallsFit ls (record { index = k; name = func_name l; private = (func_of [] k l).private; args = func_args l; results = tys (result_types l.parts); body = body_of (map func_name ls) k (func_args l) bodies })
    bodies_fit ls k l [] few h sh = tt
    bodies_fit ls k l (body ∷ bodies) few h sh =
        let parts = body_parts ls l body h.0 in
        let names = map func_name ls in
        let at = label_at k 0 0 in
        let args = arg_values at (func_args l) in
        let items = items_of names k 1 (block body.parts) args in
        let fitting = items_fitting ls names k 1 (block body.parts) args (arg_values 0 (func_args l)) parts.inside parts.narrow in
        let values = args ++ items_all k 1 items in
        let seen : Each (Seen (type_at values)) values = all_seen at _ values (func_between k (func_args l) items few fitting) in
        let both = each_split (Seen (type_at values)) args (items_all k 1 items) seen in
        items_fit ls (type_at values) k 1 (block body.parts) sh.0 args (arg_values 0 (func_args l)) parts.inside (args_alike at 0 (func_args l)) both.0 both.1

each_all : {X : Type 0} (P : X → Type 0) (xs : List X) → Each P xs → All P xs
each_all P [] h k d less = absurd (omega arith)
each_all P (x ∷ xs) h zero d less = h.0
each_all P (x ∷ xs) h (suc k) d less = each_all P xs h.1 k d (omega arith)

funcs_length : (names : List (List ℕ)) (at : ℕ) (ls : List Line) (funcs : List Func) → map plain_func funcs ≡ funcs_from names at ls → length funcs ≡ length ls
funcs_length names at [] [] h = refl
funcs_length names at [] (f ∷ funcs) h = cc
funcs_length names at (l ∷ ls) [] h = cc
funcs_length names at (l ∷ ls) (f ∷ funcs) h =
    let tail : map plain_func funcs ≡ funcs_from names (at + 1) ls = cc in
    ap suc (funcs_length names (at + 1) ls funcs tail)

-- a call that fits the line of its callee fits the function there
fits_callee : (ls : List Line) (funcs : List Func) → map plain_func funcs ≡ funcs_from (map func_name ls) 0 ls → (vs : List Value) (call : Called) → FitsLine ls (type_at vs) call → FitsCallee funcs vs call
fits_callee ls funcs same vs call h =
    let count = funcs_length (map func_name ls) 0 ls funcs same in (
      omega (arith, h.0),
      λ callee e.
          let found = line_at (map func_name ls) 0 ls funcs same call.func callee e in
          let fit = h.1 found.0 found.1 in
          let args : callee.args ≡ func_args found.0 = ap (λ (p : PlainFunc). p.args) found.2 in
          let results : callee.results ≡ tys (result_types found.0.parts) = ap (λ (p : PlainFunc). p.results) found.2 in
          (fit.0 ∙ ap (map (λ (a : Arg). Some a.ty)) (sym args), fit.1 ∙ sym results),
    )

each_more : {X : Type 0} (P Q : X → Type 0) → ((x : X) → P x → Q x) → (xs : List X) → Each P xs → Each Q xs
each_more P Q f [] h = tt
each_more P Q f (x ∷ xs) h = (f x h.0, each_more P Q f xs h.1)

pub calls_fit : (s : Syntax) (funcs : List Func) → AreDerivedFunctions s funcs → DoCallsFit funcs
calls_fit s funcs derived k f e =
    let h = derived.functions in
    let ls = func_lines (phrase_in s) in
    let names = map func_name ls in
    let found = line_at names 0 ls funcs h.same k f e in
    let none = each_at (λ (l : Line). func_breaks ls l ≡ []) ls k found.0 (flat_none (func_breaks ls) ls (text_parts s.tokens (phrase_in s) h.keeps).inside) found.1 in
    let shaped = each_at FuncShape ls k found.0 (syntax_shaped s derived.stands (text_parts s.tokens (phrase_in s) h.keeps).short) found.1 in
    let plain : CallsFit ls (plain_func f) = subst (CallsFit ls) (sym found.2) (plain_fits ls (0 + k) found.0 none shaped.bodies) in
    let typed : Each (FitsLine ls (type_at (func_values f))) (body_called (plain_func f).body) =
    subst (λ vs. Each (FitsLine ls (type_at vs)) (body_called (plain_func f).body)) (sym (func_all f)) plain in
    let called : Each (FitsLine ls (type_at (func_values f))) (func_calls f) = subst (Each (FitsLine ls (type_at (func_values f)))) (sym (func_called f)) typed in
    each_all (FitsCallee funcs (func_values f)) (func_calls f)
    (each_more (FitsLine ls (type_at (func_values f))) (FitsCallee funcs (func_values f)) (fits_callee ls funcs h.same (func_values f)) (func_calls f) called)
