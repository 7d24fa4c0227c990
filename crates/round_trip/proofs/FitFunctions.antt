-- The lines of functions that are read back break no rule but the limit of items.
use Rattle.std.proofs.Common.{◌≡◌, ℕ, ◌≤◌, Bool, true, false, List, [], ◌∷◌, ◌++◌, refl, ap, ◌∙◌, sym, subst, codes, map, length, arith, Some}
use Rattle.std.proofs.lemmas.List.{length-map}
use Rattle.std.specs.List.{flat_map}
use Rattle.arith_word.specs.Labels.{label_at}
use Rattle.mlir_ir.specs.Calls.{items_calls}
use Rattle.mlir_ir.specs.Limits.{arg_limit, result_limit, item_limit, op_limit}
use Rattle.mlir_ir.specs.Phrases.{Phrase, Line, done, token, line, lines, inside}
use Rattle.mlir_ir.specs.Resolved.{args_of, tys, func_args}
use Rattle.mlir_ir.specs.ScopeFaults.{over, repeated, block_breaks, op_tokens, item_tokens, wide_items, defined_by, body_breaks, arg_tokens, func_breaks, ending_breaks, func_op_tokens}
use Rattle.mlir_ir.specs.Sized.{SizedBody, items_count}
use Rattle.mlir_ir.specs.Source.{Defined, Written, block, ending, params_in, listed_types, result_types}
use Rattle.mlir_ir.specs.Values.{arg_values}
use Rattle.mlir_ir.specs.View.{view_items}
use Rattle.mlir_ir.specs.declared.terminal.Terminal.TheVariants as ts
use Rattle.mlir_ir.specs.declared.syntax.Form.TheVariants as forms
use Rattle.mlir_ir.specs.declared.types.Arg.{Arg}
use Rattle.mlir_ir.specs.declared.types.Body.{Body}
use Rattle.mlir_ir.specs.declared.types.Func.{Func}
use Rattle.mlir_ir.specs.declared.types.IrType.{IrType}
use Rattle.round_trip.specs.CanonicalPieces.{params_piece, types_piece}
use Rattle.round_trip.specs.Flat.{other_label}
use Rattle.round_trip.specs.Readable.{Reading, ReadableBody, HasTypes, all_ops, scope_after}
use Rattle.round_trip.specs.Sound.{Each, IsType}
use Rattle.round_trip.proofs.FitItems.{items_sized, items_keep, all_count, body_items_fit}
use Rattle.round_trip.proofs.FitKinds.{CallFits}
use Rattle.round_trip.proofs.FitOperations.{length_both}
use Rattle.round_trip.proofs.FitPacks.{args_fine, over_fine, fine_over}
use Rattle.round_trip.proofs.ReadFunctions.{func_phrase, body_parts, returning, returning_none, items_inside, arrow_inside_params, def_args, def_results, def_bodies, decl_bodies}
use Rattle.round_trip.proofs.FitWhiles.{params_names}
use Rattle.round_trip.proofs.ReadItems.{append_nil}
use Rattle.round_trip.proofs.ReadLists.{args_read}
use Rattle.round_trip.proofs.SeenLists.{EndsSeen, ends_seen, ends_fine}
use Rattle.round_trip.proofs.SeenUses.{bare, Alike, args_alike}

pub no_parts : {X : Type 0} (xs ys : List X) → (xs ++ ys) ≡ [] → (xs ≡ []) × (ys ≡ [])
no_parts [] ys h = (refl, h)
no_parts (x ∷ xs) ys h = cc

-- a body

record BodyFits (funcs : List Line) (l x : Line) (body : Body) : Type 0 where
  pub forth : body_breaks funcs l x ≡ [] → length (all_ops body.items) ≤ item_limit
  pub back : length (all_ops body.items) ≤ item_limit → body_breaks funcs l x ≡ []
  pub count : length (op_tokens (block x.parts)) ≡ items_count (view_items body.items)

body_fits : (funcs : List Line) (r : Reading) (f : Func) (body : Body) (l : Line) (y b i w e z : ℕ) → func_args l ≡ f.args → tys (result_types l.parts) ≡ f.results → Each IsType f.results → ReadableBody r f (Some body) → SizedBody (view_items body.items)
    → Each (CallFits funcs r) (items_calls body.items) → BodyFits funcs l (record { at = y; parts = body_parts r.naming b i w e z body }) body
body_fits funcs r f body l y b i w e z args results is reads sized calls =
    let x : Line = record { at = y; parts = body_parts r.naming b i w e z body } in
    let s = arg_values 0 (func_args l) in
    let base = label_at f.index 0 0 in
    let scope = arg_values base f.args in
    let tail = returning r.naming w e z body.ret in
    let ops = block x.parts in
    let same : Alike s scope = (λ t. bare (arg_values 0 (args t))) ∙ args_alike 0 base f.args in
    let fits = body_items_fit funcs r f.index s scope body.items i tail (returning_none r.naming w e z body.ret) same reads.0 (items_sized body.items sized.inside) (items_keep (CallFits funcs r) body.items calls) in
    let items = fits.items in
    let count = fits.count in
    let all = all_count body.items in
    let most = sized.few_ops in
    let after = scope_after f.index 1 scope (all_ops body.items) in
    let here = items_inside r.naming body.items tail i in
    let seen = ends_seen r.naming after (s ++ defined_by ops) (other_label r.other) body.ret f.results fits.defined is reads.1 reads.2 (token z ts.RightBrace (codes "}") done) refl e in
    let ends = ap (λ (xs : List IrType). ending_breaks (s ++ defined_by ops) xs (ending ts.Return x.parts)) results ∙ ends_fine (s ++ defined_by ops) f.results ts.Return x.parts (subst (EndsSeen (s ++ defined_by ops) f.results) (sym here) seen) in
    let few_ops = over_fine op_limit (op_tokens ops) (omega (arith, count, all, most)) in
    record {
      forth = λ h.
          (let O1 = over item_limit (item_tokens ops) in
          let O2 = over op_limit (op_tokens ops) in
          let E = ending_breaks (s ++ defined_by ops) (tys (result_types l.parts)) (ending ts.Return x.parts) in
          let a = no_parts (O1 ++ O2 ++ wide_items ops ++ block_breaks funcs ops 0 s) E h in
          let b = no_parts (O1 ++ O2 ++ wide_items ops) (block_breaks funcs ops 0 s) a.0 in
          let c = no_parts (O1 ++ O2) (wide_items ops) b.0 in
          let d = no_parts O1 O2 c.0 in
          let few = fine_over item_limit (item_tokens ops) d.0 in
          omega (arith, few, items));
      back = λ few. (let within = over_fine item_limit (item_tokens ops) (omega (arith, items, few)) in λ t. within t ++ few_ops t ++ fits.wide t ++ fits.breaks t ++ ends t);
      count = omega (arith, count, all);
    }

-- the head

-- as many tokens as arguments
tokens_count : (l : Line) → length (arg_tokens l) ≡ length (func_args l)
tokens_count l =
    let ps = params_in (inside forms.Params l.parts) in
    let ws = listed_types l.parts in
    let a = length_both (map (λ (p : Defined × Written). p.0.at) ps) (map (λ (t : Written). t.at) ws) in
    let b = length_both (args_of ps) (map {B = Arg} (λ (t : Written). record { name = []; ty = t.ty }) ws) in
    let c = length-map ps (λ (p : Defined × Written). p.0.at) in
    let d = length-map ws (λ (t : Written). t.at) in
    let e = length-map {B = Arg} ps (λ (p : Defined × Written). record { name = p.0.name; ty = p.1.ty }) in
    let g = length-map {B = Arg} ws (λ (t : Written). record { name = []; ty = t.ty }) in
    omega (arith, a, b, c, d, e, g)

-- a line whose body, if any, is this one
pub record HeadFits (l : Line) (args : List Arg) (results : List IrType) : Type 0 where
  pub names : repeated [] (map (λ (p : Defined × Written). p.0) (params_in (inside forms.Params l.parts))) ≡ []
  pub count : length (func_args l) ≡ length args
  pub given : tys (result_types l.parts) ≡ results

head_fine : (l : Line) (args : List Arg) (results : List IrType) → HeadFits l args results → length args ≤ arg_limit → length results ≤ result_limit
    → (repeated [] (map (λ (p : Defined × Written). p.0) (params_in (inside forms.Params l.parts))) ++ over arg_limit (arg_tokens l) ++ over result_limit (map (λ (t : Written). t.at) (result_types l.parts))) ≡ []
head_fine l args results h few few_results =
    let a = tokens_count l in
    let b = h.count in
    let ws = result_types l.parts in
    let c = length-map ws (λ (t : Written). t.at) in
    let d = length-map ws (λ (t : Written). t.ty) in
    let e = ap length h.given in
    λ t. h.names t ++ over_fine arg_limit (arg_tokens l) (omega (arith, a, b, few)) t ++ over_fine result_limit (map (λ (t : Written). t.at) ws) (omega (arith, c, d, e, few_results)) t

-- a definition

def_params : (k a s l c r d : ℕ) (private : Bool) (name : List ℕ) (args : List Arg) (results : List IrType) (q : Phrase) → HasTypes args → inside forms.Params q ≡ done
    → args_of (params_in (inside forms.Params (func_phrase k a s l c r d private name (params_piece args) results q))) ≡ args
def_params k a s l c r d true name [] results q is e = λ t. args_of (params_in ((arrow_inside_params d results q ∙ e) t))
def_params k a s l c r d false name [] results q is e = λ t. args_of (params_in ((arrow_inside_params d results q ∙ e) t))
def_params k a s l c r d true name (arg ∷ args) results q is e = args_read (arg ∷ args) is _
def_params k a s l c r d false name (arg ∷ args) results q is e = args_read (arg ∷ args) is _

pub record FuncFits (funcs : List Line) (l : Line) (items ops : ℕ) : Type 0 where
  pub forth : func_breaks funcs l ≡ [] → items ≤ item_limit
  pub back : items ≤ item_limit → func_breaks funcs l ≡ []
  pub count : length (func_op_tokens l) ≡ ops

pub def_fits : (funcs : List Line) (r : Reading) (f : Func) (body : Body) (k a s l c d e y b i w z x : ℕ) (at : ℕ) → HasTypes f.args → Each IsType f.results → ReadableBody r f (Some body) → length f.args ≤ arg_limit → length f.results ≤ result_limit → SizedBody (view_items body.items)
    → Each (CallFits funcs r) (items_calls body.items)
    → FuncFits funcs (record { at = at; parts = func_phrase k a s l c d e f.private f.name (params_piece f.args) f.results (line forms.Body y (body_parts r.naming b i w z x body) done) }) (length (all_ops body.items)) (items_count (view_items body.items))
def_fits funcs r f body k a s l c d e y b i w z x at has is reads few few_results sized calls =
    let q = line forms.Body y (body_parts r.naming b i w z x body) done in
    let parts = func_phrase k a s l c d e f.private f.name (params_piece f.args) f.results q in
    let whole : Line = record { at = at; parts = parts } in
    let inner : Line = record { at = y; parts = body_parts r.naming b i w z x body } in
    let args : func_args whole ≡ f.args = def_args k a s l c d e f.private f.name f.args f.results q has refl refl in
    let given = def_results k a s l c d e f.private f.name f.args f.results q is refl in
    let bodies : lines forms.Body parts ≡ inner ∷ [] = def_bodies k a s l c d e f.private f.name f.args f.results q in
    let ps = params_in (inside forms.Params parts) in
    let named = params_names ps ∙ ap (map (λ (arg : Arg). arg.name)) (def_params k a s l c d e f.private f.name f.args f.results q has refl) in
    let head = head_fine whole f.args f.results (record { names = args_fine [] [] f.args (map (λ (p : Defined × Written). p.0) ps) (λ name. refl) named reads.3; count = ap length args; given = given }) few few_results in
    let fits = body_fits funcs r f body whole y b i w z x args given is reads sized calls in
    let H = repeated [] (map (λ (p : Defined × Written). p.0) ps) ++ over arg_limit (arg_tokens whole) ++ over result_limit (map (λ (t : Written). t.at) (result_types parts)) in
    record {
      forth = λ h. fits.forth (no_parts (body_breaks funcs whole inner) [] (ap (λ (xs : List Line). flat_map (body_breaks funcs whole) xs) (sym bodies) ∙ (no_parts H (flat_map (body_breaks funcs whole) (lines forms.Body parts)) h).1)).0;
      back = λ within. (λ t. head t ++ flat_map (body_breaks funcs whole) (bodies t)) ∙ (λ t. fits.back within t ++ []);
      count = ap (λ (xs : List Line). length (flat_map (λ (o : Line). op_tokens (block o.parts)) xs)) bodies ∙ ap length (append_nil (op_tokens (block inner.parts))) ∙ fits.count;
    }

-- a declaration

decl_params : (k a s l c r d : ℕ) (private : Bool) (name : List ℕ) (types results : List IrType) → params_in (inside forms.Params (func_phrase k a s l c r d private name (types_piece types) results done)) ≡ []
decl_params k a s l c r d true name [] results = ap (λ p. params_in p) (arrow_inside_params d results done)
decl_params k a s l c r d false name [] results = ap (λ p. params_in p) (arrow_inside_params d results done)
decl_params k a s l c r d true name (ty ∷ more) results = ap (λ p. params_in p) (arrow_inside_params d results done)
decl_params k a s l c r d false name (ty ∷ more) results = ap (λ p. params_in p) (arrow_inside_params d results done)

pub decl_fits : (funcs : List Line) (f : Func) (k a s l c d e at : ℕ) → let parts = func_phrase k a s l c d e f.private f.name (types_piece (map (λ (arg : Arg). arg.ty) f.args)) f.results done in
    length (func_args (record { at = at; parts = parts })) ≡ length f.args → tys (result_types parts) ≡ f.results → length f.args ≤ arg_limit → length f.results ≤ result_limit
    → FuncFits funcs (record { at = at; parts = parts }) 0 0
decl_fits funcs f k a s l c d e at args given few few_results =
    let types = map (λ (arg : Arg). arg.ty) f.args in
    let parts = func_phrase k a s l c d e f.private f.name (types_piece types) f.results done in
    let whole : Line = record { at = at; parts = parts } in
    let bodies = decl_bodies k a s l c d e f.private f.name types f.results in
    let none = decl_params k a s l c d e f.private f.name types f.results in
    let head = head_fine whole f.args f.results (record { names = ap (λ (ps : List (Defined × Written)). repeated [] (map (λ (p : Defined × Written). p.0) ps)) none; count = args; given = given }) few few_results in
    record {
      forth = λ h. omega arith;
      back = λ within. (λ t. head t ++ flat_map (body_breaks funcs whole) (bodies t));
      count = ap (λ (xs : List Line). length (flat_map (λ (o : Line). op_tokens (block o.parts)) xs)) bodies;
    }
