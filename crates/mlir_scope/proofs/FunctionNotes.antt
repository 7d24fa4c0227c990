-- The arguments of functions, by their names and types.
use Rattle.std.proofs.Common.{◌≡◌, List, [], ◌∷◌, ◌++◌, map, Option, refl, ap, ◌∙◌, sym}
use Rattle.std.proofs.lemmas.List.{map-append}
use Rattle.mlir_ir.specs.Phrases as phrases
use Rattle.mlir_ir.specs.Phrases.{inside}
use Rattle.mlir_ir.specs.Resolved.{args_of, func_args, tys}
use Rattle.mlir_ir.specs.Rules.{arg_types}
use Rattle.mlir_ir.specs.ScopeFaults.{arg_tokens, over, repeated, names_of, body_breaks, func_breaks}
use Rattle.mlir_ir.specs.Source.{Defined, Written, params_in, listed_types, result_types}
use Rattle.std.specs.List.{flat_map}
use Rattle.mlir_ir.specs.Values.{Value}
use Rattle.mlir_scope.specs.Noted.{noted}
use Rattle.mlir_scope.specs.declared.first.ScopeFault.{ScopeFault}
use Rattle.mlir_scope.proofs.Notes.{noted_four}
use Rattle.mlir_ir.specs.declared.syntax.Form.TheVariants as forms
use Rattle.mlir_scope.specs.Arguments.{named}
use Rattle.mlir_scope.specs.Functions.{arg_names}

first_places : (ps : List (Defined × Written)) → map (λ (d : Defined). d.at) (map (λ (p : Defined × Written). p.0) ps) ≡ map (λ (p : Defined × Written). p.0.at) ps
first_places [] = refl
first_places (p ∷ ps) = ap (λ ns. p.0.at ∷ ns) (first_places ps)

listed_places : (ts : List Written) → map (λ (d : Defined). d.at) (map (λ (t : Written). record { at = t.at; name = [] }) ts) ≡ map (λ (t : Written). t.at) ts
listed_places [] = refl
listed_places (t ∷ ts) = ap (λ ns. t.at ∷ ns) (listed_places ts)

-- where the arguments of a function begin
pub args_at : (f : phrases.Line) → arg_tokens f ≡ map (λ (d : Defined). d.at) (arg_names f.parts)
args_at f =
    let params = params_in (inside forms.Params f.parts) in
    let listed = listed_types f.parts in
    sym (map-append (λ (d : Defined). d.at) (map (λ (p : Defined × Written). p.0) params) (map (λ (t : Written). record { at = t.at; name = [] }) listed)
    ∙ ap (λ ns. ns ++ map (λ (d : Defined). d.at) (map (λ (t : Written). record { at = t.at; name = [] }) listed)) (first_places params)
    ∙ ap (λ ns. map (λ (p : Defined × Written). p.0.at) params ++ ns) (listed_places listed))

nameless : (ts : List Written) → named (map (λ (t : Written). record { at = t.at; name = [] }) ts) (arg_types (map (λ (t : Written). record { name = []; ty = t.ty }) ts)) ≡ map (λ (t : Written). record { name = []; ty = t.ty }) ts
nameless [] = refl
nameless (t ∷ ts) = ap (λ args. record { name = []; ty = t.ty } ∷ args) (nameless ts)

names_then : (ps : List (Defined × Written)) (ts : List Written)
    → named (map (λ (p : Defined × Written). p.0) ps ++ map (λ (t : Written). record { at = t.at; name = [] }) ts) (arg_types (args_of ps ++ map (λ (t : Written). record { name = []; ty = t.ty }) ts))
    ≡ args_of ps ++ map (λ (t : Written). record { name = []; ty = t.ty }) ts
names_then [] ts = nameless ts
names_then (p ∷ ps) ts = ap (λ args. record { name = p.0.name; ty = p.1.ty } ∷ args) (names_then ps ts)

-- the arguments of a function are their names with their types
pub named_args : (f : phrases.Line) → named (arg_names f.parts) (arg_types (func_args f)) ≡ func_args f
named_args f = names_then (params_in (inside forms.Params f.parts)) (listed_types f.parts)

typed_params : (ps : List (Defined × Written)) (ts : List Written)
    → arg_types (args_of ps ++ map (λ (t : Written). record { name = []; ty = t.ty }) ts) ≡ tys (map (λ (p : Defined × Written). p.1) ps) ++ tys ts
typed_params [] [] = refl
typed_params [] (t ∷ ts) = ap (λ xs. t.ty ∷ xs) (typed_params [] ts)
typed_params (p ∷ ps) ts = ap (λ xs. p.1.ty ∷ xs) (typed_params ps ts)

-- the types of a function's arguments
pub arg_types_are : (f : phrases.Line) → arg_types (func_args f) ≡ tys (map (λ (p : Defined × Written). p.1) (params_in (inside forms.Params f.parts))) ++ tys (listed_types f.parts)
arg_types_are f = typed_params (params_in (inside forms.Params f.parts)) (listed_types f.parts)

-- the parts of what a function breaks
pub func_noted : (funcs : List phrases.Line) (f : phrases.Line) (start : List Value) (names args : List Defined) (results : List Written) (bodies : List phrases.Line) (best one two three four : Option ScopeFault)
    → start ≡ [] → names ≡ map (λ (p : Defined × Written). p.0) (params_in (inside forms.Params f.parts)) → args ≡ arg_names f.parts
    → results ≡ result_types f.parts → bodies ≡ phrases.lines forms.Body f.parts
    → one ≡ noted best (repeated (names_of start) names) → two ≡ noted one (over 16 (map (λ (d : Defined). d.at) args))
    → three ≡ noted two (over 16 (map (λ (t : Written). t.at) results)) → four ≡ noted three (flat_map (body_breaks funcs f) bodies)
    → four ≡ noted best (func_breaks funcs f)
func_noted funcs f start names args results bodies best one two three four none_is names_is args_is results_is bodies_is g h k m =
    noted_four best one two three four
    (repeated [] (map (λ (p : Defined × Written). p.0) (params_in (inside forms.Params f.parts))))
    (over 16 (arg_tokens f))
    (over 16 (map (λ (t : Written). t.at) (result_types f.parts)))
    (flat_map (body_breaks funcs f) (phrases.lines forms.Body f.parts))
    (g ∙ ap (λ s. noted best (repeated (names_of s) names)) none_is ∙ ap (λ ds. noted best (repeated [] ds)) names_is)
    (h ∙ ap (λ ds. noted one (over 16 (map (λ (d : Defined). d.at) ds))) args_is ∙ ap (λ ns. noted one (over 16 ns)) (sym (args_at f)))
    (k ∙ ap (λ ts. noted two (over 16 (map (λ (t : Written). t.at) ts))) results_is)
    (m ∙ ap (λ bs. noted three (flat_map (body_breaks funcs f) bs)) bodies_is)
