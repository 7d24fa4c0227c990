-- The phrase of a canonical text breaks no rule on names, types, lengths and calls, and a limit exactly where the flat module does.
use Rattle.std.proofs.Common.{◌≡◌, ℕ, ◌+◌, ◌≤◌, List, [], ◌∷◌, ◌++◌, refl, ap, sym, subst, map, length, arith, Option, None, Some, sum, fold}
use Rattle.std.proofs.lemmas.List.{length-map}
use Rattle.std.specs.List.{flat_map}
use Rattle.std.specs.Option.{option_map}
use Rattle.mlir_ir.specs.Calls.{AreNamedApart, func_calls, body_calls, items_calls}
use Rattle.mlir_ir.specs.Canonical.{naming_of}
use Rattle.mlir_ir.specs.Check.{IsWellFormed}
use Rattle.mlir_ir.specs.Limits.{func_limit, module_op_limit, item_limit, arg_limit, result_limit}
use Rattle.mlir_ir.specs.Phrases.{Phrase, Line, done, line, lines}
use Rattle.mlir_ir.specs.Reads.{plain_body, plain_func}
use Rattle.mlir_ir.specs.Resolved.{PlainFunc, func_args}
use Rattle.mlir_ir.specs.ScopeFaults.{long_names, over, repeated, func_names, func_breaks, func_op_tokens, text_breaks}
use Rattle.mlir_ir.specs.Sized.{SizedBody}
use Rattle.mlir_ir.specs.View.{view_items}
use Rattle.mlir_ir.specs.WellFormed.{IsSized, IsSizedBody}
use Rattle.mlir_ir.specs.declared.syntax.Form.TheVariants as forms
use Rattle.mlir_ir.specs.declared.token.Token.{Token}
use Rattle.mlir_ir.specs.declared.types.Arg.{Arg}
use Rattle.mlir_ir.specs.declared.types.Body.{Body}
use Rattle.mlir_ir.specs.declared.types.Func.{Func}
use Rattle.mlir_ir.proofs.SizedFunctions.{well_formed}
use Rattle.round_trip.specs.CanonicalPieces.{params_piece, types_piece, body_piece, func_piece, funcs_piece, module_piece}
use Rattle.round_trip.specs.Flat.{flat, flat_func, flat_label, moved}
use Rattle.round_trip.specs.KeepsLimits.{KeepsLimits, func_ops, func_items}
use Rattle.round_trip.specs.PiecePhrases.{said}
use Rattle.round_trip.specs.Pieces.{terminals}
use Rattle.round_trip.specs.Readable.{Reading, all_ops, HasTypes, ReadableBody, ReadableFuncs, ReadableModule}
use Rattle.round_trip.specs.Sound.{Each, IsType}
use Rattle.round_trip.specs.Widths.{HasWidths, IsPrintable}
use Rattle.round_trip.proofs.FitFunctions.{FuncFits, def_fits, decl_fits, no_parts}
use Rattle.round_trip.proofs.FitKinds.{CallFits}
use Rattle.round_trip.proofs.FitModules.{LineOf, LinesOf, lines_of, lines_count, line_of, names_fine, call_fits}
use Rattle.round_trip.proofs.FitOperations.{length_both}
use Rattle.round_trip.proofs.FitPacks.{over_fine, fine_over}
use Rattle.round_trip.proofs.FlatCounts.{flat_items_long, flat_items_count}
use Rattle.round_trip.proofs.ReadFunctions.{func_phrase, body_parts}
use Rattle.round_trip.proofs.ReadModules.{decl_read}
use Rattle.round_trip.proofs.SoundModules.{each_all}
use Rattle.round_trip.proofs.SoundPlaces.{each_of}

-- a function

abbrev with_body : Func → Option Body → PlainFunc
with_body f body = flat_func (record { index = f.index; name = f.name; private = f.private; args = f.args; results = f.results; body = option_map plain_body body })

args_count : (f : Func) (l : Line) → LineOf f l → length (func_args l) ≡ length f.args
args_count f l h =
    let a = length-map (func_args l) (λ (arg : Arg). arg.ty) in
    let b = length-map f.args (λ (arg : Arg). arg.ty) in
    let c = ap length h.args in
    omega (arith, a, b, c)

decl_at : (ls : List Line) (names : List (List ℕ)) (f : Func) (k a s l c d e at : ℕ) → HasTypes f.args → Each IsType f.results → length f.args ≤ arg_limit → length f.results ≤ result_limit
    → FuncFits ls (record { at = at; parts = func_phrase k a s l c d e f.private f.name (types_piece (map (λ (arg : Arg). arg.ty) f.args)) f.results done }) (func_items (with_body f None)) (func_ops (with_body f None))
decl_at ls names f k a s l c d e at has is few few_results =
    let parts = func_phrase k a s l c d e f.private f.name (types_piece (map (λ (arg : Arg). arg.ty) f.args)) f.results done in
    let here = line_of names f None at parts (decl_read names f k a s l c d e has is) in
    decl_fits ls f k a s l c d e at (args_count f (record { at = at; parts = parts }) here) here.results few few_results

def_at : (ls : List Line) (r : Reading) (f : Func) (body : Body) (k a s l c d e y b i w z x at : ℕ) → HasTypes f.args → Each IsType f.results → ReadableBody r f (Some body) → length f.args ≤ arg_limit → length f.results ≤ result_limit → SizedBody (view_items body.items)
    → Each (CallFits ls r) (items_calls body.items)
    → FuncFits ls (record { at = at; parts = func_phrase k a s l c d e f.private f.name (params_piece f.args) f.results (line forms.Body y (body_parts r.naming b i w z x body) done) }) (func_items (with_body f (Some body))) (func_ops (with_body f (Some body)))
def_at ls r f body k a s l c d e y b i w z x at has is reads few few_results sized calls =
    let whole : Line = record { at = at; parts = func_phrase k a s l c d e f.private f.name (params_piece f.args) f.results (line forms.Body y (body_parts r.naming b i w z x body) done) } in
    let other = moved f.index 1 1 (view_items body.items) in
    let fits = def_fits ls r f body k a s l c d e y b i w z x at has is reads few few_results sized calls in
    subst (λ (n : ℕ). FuncFits ls whole n (func_ops (with_body f (Some body)))) (sym (flat_items_long other body.items))
    (subst (FuncFits ls whole (length (all_ops body.items))) (sym (flat_items_count other (view_items body.items))) fits)

-- the line of a function, before others
func_fits : (ls : List Line) (names : List (List ℕ)) (f : Func) (body : Option Body) (at : ℕ) (rest : Phrase) → HasTypes f.args → Each IsType f.results → ReadableBody (record { naming = naming_of names f; other = flat_label f.index body }) f body
    → length f.args ≤ arg_limit → length f.results ≤ result_limit → IsSizedBody body → Each (CallFits ls (record { naming = naming_of names f; other = flat_label f.index body })) (body_calls body)
    → (w : ℕ) × (parts : Phrase) × (said at (body_piece (naming_of names f) f body) rest ≡ line forms.Func w parts rest) × FuncFits ls (record { at = w; parts = parts }) (func_items (with_body f body)) (func_ops (with_body f body))
func_fits ls names f None at rest has is reads few few_results sized calls = (_, _, refl, decl_at ls names f _ _ _ _ _ _ _ _ has is few few_results)
func_fits ls names f (Some body) at rest has is reads few few_results sized calls =
    (_, _, refl, def_at ls (record { naming = naming_of names f; other = flat_label f.index (Some body) }) f body _ _ _ _ _ _ _ _ _ _ _ _ _ _ has is reads few few_results sized calls)

-- all functions

abbrev FuncsFit : List Line → List Func → List Line → Type 0
FuncsFit all [] [] = Unit {0}
FuncsFit all [] (l ∷ ls) = ⊥
FuncsFit all (f ∷ fs) [] = ⊥
FuncsFit all (f ∷ fs) (l ∷ ls) = FuncFits all l (func_items (flat_func (plain_func f))) (func_ops (flat_func (plain_func f))) × FuncsFit all fs ls

abbrev CallsFit : List Line → List (List ℕ) → Func → Type 0
CallsFit all names f = Each (CallFits all (record { naming = naming_of names f; other = flat_label f.index f.body })) (func_calls f)

funcs_fit : (all : List Line) (names : List (List ℕ)) (fs : List Func) (index at : ℕ) → ReadableFuncs names index fs → Each IsSized fs → Each (CallsFit all names) fs → FuncsFit all fs (lines forms.Func (said at (funcs_piece names fs) done))
funcs_fit all names [] index at is sized calls = tt
funcs_fit all names (f ∷ fs) index at is sized calls =
    let rest = said (at + length (terminals (func_piece names f))) (funcs_piece names fs) done in
    let h = func_fits all names f f.body at rest is.0.1 is.0.2 is.0.3 sized.0.args_sized.few sized.0.few sized.0.inside calls.0 in
    subst (λ (p : Phrase). FuncsFit all (f ∷ fs) (lines forms.Func p)) (sym h.2) (h.3, funcs_fit all names fs (index + 1) (at + length (terminals (func_piece names f))) is.1 sized.1 calls.1)

fold_add : (a : ℕ) (xs : List ℕ) → fold ◌+◌ a xs ≡ a + fold ◌+◌ 0 xs
fold_add a [] = omega arith
fold_add a (x ∷ xs) = let here = fold_add (a + x) xs in let same = fold_add (0 + x) xs in omega (arith, here, same)

sum_more : (x : ℕ) (xs : List ℕ) → sum (x ∷ xs) ≡ x + sum xs
sum_more x xs = let here = fold_add (0 + x) xs in omega (arith, here)

tokens_sum : (all : List Line) (fs : List Func) (ls : List Line) → FuncsFit all fs ls → length (flat_map func_op_tokens ls) ≡ sum (map func_ops (flat fs))
tokens_sum all [] [] h = refl
tokens_sum all [] (l ∷ ls) h = absurd h
tokens_sum all (f ∷ fs) [] h = absurd h
tokens_sum all (f ∷ fs) (l ∷ ls) h =
    let both = length_both (func_op_tokens l) (flat_map func_op_tokens ls) in
    let here = h.0.count in
    let more = tokens_sum all fs ls h.1 in
    let whole = sum_more (func_ops (flat_func (plain_func f))) (map func_ops (flat fs)) in
    omega (arith, both, here, more, whole)

abbrev FewItems : List PlainFunc → Type 0
FewItems gs = Each (λ (g : PlainFunc). func_items g ≤ item_limit) gs

breaks_back : (all : List Line) (fs : List Func) (ls : List Line) → FuncsFit all fs ls → FewItems (flat fs) → flat_map (func_breaks all) ls ≡ []
breaks_back all [] [] h few = refl
breaks_back all [] (l ∷ ls) h few = absurd h
breaks_back all (f ∷ fs) [] h few = absurd h
breaks_back all (f ∷ fs) (l ∷ ls) h few = λ t. h.0.back few.0 t ++ breaks_back all fs ls h.1 few.1 t

breaks_forth : (all : List Line) (fs : List Func) (ls : List Line) → FuncsFit all fs ls → flat_map (func_breaks all) ls ≡ [] → FewItems (flat fs)
breaks_forth all [] [] h e = tt
breaks_forth all [] (l ∷ ls) h e = absurd h
breaks_forth all (f ∷ fs) [] h e = absurd h
breaks_forth all (f ∷ fs) (l ∷ ls) h e = let p = no_parts (func_breaks all l) (flat_map (func_breaks all) ls) e in (h.0.forth p.0, breaks_forth all fs ls h.1 p.1)

-- the module

each_map : {X : Type 0} (P Q : X → Type 0) → ((x : X) → P x → Q x) → (xs : List X) → Each P xs → Each Q xs
each_map P Q m [] h = tt
each_map P Q m (x ∷ xs) h = (m x h.0, each_map P Q m xs h.1)

-- lines that fit, and the limits
lines_limits : (fs : List Func) (ls : List Line) (tokens : List Token) → LinesOf fs ls → AreNamedApart fs → FuncsFit ls fs ls → long_names 0 tokens ≡ []
    → let all = long_names 0 tokens ++ over func_limit (map (λ (f : Line). f.at) ls) ++ over module_op_limit (flat_map func_op_tokens ls) ++ repeated [] (func_names ls) ++ flat_map (func_breaks ls) ls in
    (all ≡ [] → KeepsLimits (flat fs)) × (KeepsLimits (flat fs) → all ≡ [])
lines_limits fs ls tokens h apart fits short =
    let L = long_names 0 tokens in
    let F = over func_limit (map (λ (f : Line). f.at) ls) in
    let O = over module_op_limit (flat_map func_op_tokens ls) in
    let N = repeated [] (func_names ls) in
    let B = flat_map (func_breaks ls) ls in
    let count = lines_count fs ls h in
    let same = length-map fs (λ (f : Func). flat_func (plain_func f)) in
    let ats = length-map ls (λ (f : Line). f.at) in
    let all = tokens_sum ls fs ls fits in (
      λ e.
          (let a = no_parts (L ++ F ++ O ++ N) B e in
          let b = no_parts (L ++ F ++ O) N a.0 in
          let c = no_parts (L ++ F) O b.0 in
          let d = no_parts L F c.0 in
          let few = fine_over func_limit (map (λ (f : Line). f.at) ls) d.1 in
          let few_ops = fine_over module_op_limit (flat_map func_op_tokens ls) c.1 in
          record { funcs = omega (arith, count, same, ats, few); ops = omega (arith, all, few_ops); items = breaks_forth ls fs ls fits a.1 }),
      λ keeps.
          (let few = keeps.funcs in
          let few_ops = keeps.ops in
          let f = over_fine func_limit (map (λ (f : Line). f.at) ls) (omega (arith, count, same, ats, few)) in
          let o = over_fine module_op_limit (flat_map func_op_tokens ls) (omega (arith, all, few_ops)) in
          let n = names_fine fs ls h apart in
          let b = breaks_back ls fs ls fits keeps.items in
          λ t. short t ++ f t ++ o t ++ n t ++ b t),
    )

-- the breaks of a printable module's phrase, beside tokens without long names
pub phrase_limits : (fs : List Func) (tokens : List Token) → IsPrintable fs → AreNamedApart fs → ReadableModule fs → long_names 0 tokens ≡ []
    → (text_breaks tokens (said 0 (module_piece fs) done) ≡ [] → KeepsLimits (flat fs)) × (KeepsLimits (flat fs) → text_breaks tokens (said 0 (module_piece fs) done) ≡ [])
phrase_limits fs tokens h apart readable short =
    let names = map (λ (f : Func). f.name) fs in
    let ls = lines forms.Func (said 0 (funcs_piece names fs) done) in
    let found = lines_of names fs 0 0 readable in
    let sized = each_map IsWellFormed IsSized (λ f w. (well_formed f w).2) fs h.well_formed in
    let types = each_map HasWidths (λ (f : Func). HasTypes f.args) (λ f w. w.0) fs h.widths in
    let calls : Each (CallsFit ls names) fs = each_of (CallsFit ls names) fs
    (λ k f e. each_all (CallFits ls (record { naming = naming_of names f; other = flat_label f.index f.body })) (func_calls f) (λ i d l. call_fits fs ls (record { naming = naming_of names f; other = flat_label f.index f.body }) f _ found apart types refl refl (h.calls_fit k f e i d l))) in
    lines_limits fs ls tokens found apart (funcs_fit ls names fs 0 0 readable sized calls) short
