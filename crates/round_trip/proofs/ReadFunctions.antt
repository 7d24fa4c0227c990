-- Functions as the resolver reads their canonical pieces.
use Rattle.std.proofs.Common.{◌≡◌, ℕ, Bool, true, false, List, [], ◌∷◌, ◌++◌, refl, ap, ◌∙◌, codes, map, if◌then◌else◌, Some}
use Rattle.std.specs.List.{flat_map}
use Rattle.std.specs.Option.{option_map}
use Rattle.arith_word.specs.Labels.{label_at}
use Rattle.arith_word.specs.declared.label.Label.{Label}
use Rattle.mlir_ir.specs.Canonical.{Naming}
use Rattle.mlir_ir.specs.Phrases.{Phrase, done, token, lines, inside, has, spots, first_spot}
use Rattle.mlir_ir.specs.Reads.{plain_body}
use Rattle.mlir_ir.specs.Resolved.{args_of, PlainBody, PlainFunc, labels, tys, body_of, values_of_items}
use Rattle.mlir_ir.specs.Source.{none, unsigned, params_in, block, listed_uses, listed_types, result_types, types_in, Written}
use Rattle.mlir_ir.specs.Values.{arg_values}
use Rattle.mlir_ir.specs.View.{view_items}
use Rattle.mlir_ir.specs.declared.terminal.Terminal.TheVariants as ts
use Rattle.mlir_ir.specs.declared.syntax.Form.TheVariants as forms
use Rattle.mlir_ir.specs.declared.types.Arg.{Arg}
use Rattle.mlir_ir.specs.declared.types.Body.{Body}
use Rattle.mlir_ir.specs.declared.types.Func.{Func}
use Rattle.mlir_ir.specs.declared.types.IrType.{IrType}
use Rattle.mlir_ir.specs.declared.types.Item.{Item}
use Rattle.mlir_ir.specs.declared.types.Op.{Op}
use Rattle.round_trip.specs.CanonicalPieces.{joined_piece, type_piece, word, blank, arrow_piece, params_piece, types_piece, items_piece, ops_piece, ends_piece}
use Rattle.round_trip.specs.Flat.{flat_args, other_ops, other_label, other_labels, singles}
use Rattle.round_trip.specs.PiecePhrases.{said}
use Rattle.round_trip.specs.Pieces.{Piece, empty, ◌<>◌}
use Rattle.round_trip.specs.Readable.{Reading, ReadsLabels, HasTypes, ReadableOps, scope_after, all_ops}
use Rattle.round_trip.specs.Sound.{Each, IsType}
use Rattle.round_trip.proofs.ReadItems.{append_nil, items_read, items_after}
use Rattle.round_trip.proofs.ReadLists.{results_list_read, bare_result_read, joined_types, args_read, ends_read}

-- results are passed over, or read

pub arrow_inside_params : (d : ℕ) (results : List IrType) (q : Phrase) → inside forms.Params (said d (arrow_piece results) q) ≡ inside forms.Params q
arrow_inside_params d [] q = refl
arrow_inside_params d (ty ∷ []) q = refl
arrow_inside_params d (ty ∷ other ∷ more) q = refl

pub arrow_inside_types : (d : ℕ) (results : List IrType) (q : Phrase) → inside forms.Types (said d (arrow_piece results) q) ≡ inside forms.Types q
arrow_inside_types d [] q = refl
arrow_inside_types d (ty ∷ []) q = refl
arrow_inside_types d (ty ∷ other ∷ more) q = refl

arrow_has : (d : ℕ) (results : List IrType) (q : Phrase) → has ts.Private (said d (arrow_piece results) q) ≡ has ts.Private q
arrow_has d [] q = refl
arrow_has d (ty ∷ []) q = refl
arrow_has d (ty ∷ other ∷ more) q = refl

arrow_bodies : (d : ℕ) (results : List IrType) (q : Phrase) → lines forms.Body (said d (arrow_piece results) q) ≡ lines forms.Body q
arrow_bodies d [] q = refl
arrow_bodies d (ty ∷ []) q = refl
arrow_bodies d (ty ∷ other ∷ more) q = refl

arrow_results : (d : ℕ) (results : List IrType) (q : Phrase) → Each IsType results → inside forms.Results q ≡ done → tys (result_types (said d (arrow_piece results) q)) ≡ results
arrow_results d [] q is e = λ t. tys (types_in (e t) ++ types_in (inside forms.Types (e t)))
arrow_results d (ty ∷ []) q is e = bare_result_read _ ty is.0
arrow_results d (ty ∷ other ∷ more) q is e = results_list_read _ (ty ∷ other ∷ more) is

-- the phrase of a function, by what stands in its brackets and behind its results

abbrev pub func_phrase : ℕ → ℕ → ℕ → ℕ → ℕ → ℕ → ℕ → Bool → List ℕ → Piece → List IrType → Phrase → Phrase
func_phrase k a s l c r d private name inner results q =
    token k ts.Function (codes "func.func") (said a (if private then word (codes "private") <> blank else empty) (token s ts.Symbol (codes "@" ++ name) (token l ts.LeftParen (codes "(") (said c inner (token r ts.RightParen (codes ")") (said d (arrow_piece results) q))))))

pub name_read : (k a s l c r d : ℕ) (private : Bool) (name : List ℕ) (inner : Piece) (results : List IrType) (q : Phrase) → unsigned (first_spot (spots ts.Symbol (func_phrase k a s l c r d private name inner results q))).text ≡ name
name_read k a s l c r d true name inner results q = refl
name_read k a s l c r d false name inner results q = refl

-- a definition

pub def_private : (k a s l c r d : ℕ) (private : Bool) (name : List ℕ) (args : List Arg) (results : List IrType) (q : Phrase) → has ts.Private q ≡ false → has ts.Private (func_phrase k a s l c r d private name (params_piece args) results q) ≡ private
def_private k a s l c r d true name args results q e = refl
def_private k a s l c r d false name [] results q e = arrow_has d results q ∙ e
def_private k a s l c r d false name (arg ∷ args) results q e = arrow_has d results q ∙ e

abbrev pub unnamed : List Written → List Arg
unnamed types = map (λ (t : Written). record { name = []; ty = t.ty }) types

abbrev args_said : Phrase → List Arg
args_said p = args_of (params_in (inside forms.Params p)) ++ unnamed (listed_types p)

pub both_is : {A : Type 0} {xs ys us vs : List A} → xs ≡ ys → us ≡ vs → xs ++ us ≡ ys ++ vs
both_is e f = λ t. e t ++ f t

pub def_args : (k a s l c r d : ℕ) (private : Bool) (name : List ℕ) (args : List Arg) (results : List IrType) (q : Phrase) → HasTypes args → inside forms.Params q ≡ done → inside forms.Types q ≡ done
    → args_said (func_phrase k a s l c r d private name (params_piece args) results q) ≡ args
def_args k a s l c r d true name [] results q is e g = λ t. args_of (params_in ((arrow_inside_params d results q ∙ e) t)) ++ unnamed (types_in ((arrow_inside_types d results q ∙ g) t))
def_args k a s l c r d false name [] results q is e g = λ t. args_of (params_in ((arrow_inside_params d results q ∙ e) t)) ++ unnamed (types_in ((arrow_inside_types d results q ∙ g) t))
def_args k a s l c r d true name (arg ∷ args) results q is e g = both_is (args_read (arg ∷ args) is _) (ap (λ p. unnamed (types_in p)) (arrow_inside_types d results q ∙ g)) ∙ append_nil (arg ∷ args)
def_args k a s l c r d false name (arg ∷ args) results q is e g = both_is (args_read (arg ∷ args) is _) (ap (λ p. unnamed (types_in p)) (arrow_inside_types d results q ∙ g)) ∙ append_nil (arg ∷ args)

pub def_results : (k a s l c r d : ℕ) (private : Bool) (name : List ℕ) (args : List Arg) (results : List IrType) (q : Phrase) → Each IsType results → inside forms.Results q ≡ done
    → tys (result_types (func_phrase k a s l c r d private name (params_piece args) results q)) ≡ results
def_results k a s l c r d true name [] results q is e = arrow_results d results q is e
def_results k a s l c r d false name [] results q is e = arrow_results d results q is e
def_results k a s l c r d true name (arg ∷ args) results q is e = arrow_results d results q is e
def_results k a s l c r d false name (arg ∷ args) results q is e = arrow_results d results q is e

pub def_bodies : (k a s l c r d : ℕ) (private : Bool) (name : List ℕ) (args : List Arg) (results : List IrType) (q : Phrase)
    → lines forms.Body (func_phrase k a s l c r d private name (params_piece args) results q) ≡ lines forms.Body q
def_bodies k a s l c r d true name [] results q = arrow_bodies d results q
def_bodies k a s l c r d false name [] results q = arrow_bodies d results q
def_bodies k a s l c r d true name (arg ∷ args) results q = arrow_bodies d results q
def_bodies k a s l c r d false name (arg ∷ args) results q = arrow_bodies d results q

-- a declaration

pub decl_private : (k a s l c r d : ℕ) (private : Bool) (name : List ℕ) (types results : List IrType) → has ts.Private (func_phrase k a s l c r d private name (types_piece types) results done) ≡ private
decl_private k a s l c r d true name types results = refl
decl_private k a s l c r d false name [] results = arrow_has d results done
decl_private k a s l c r d false name (ty ∷ more) results = arrow_has d results done

pub named_by : (ws : List Written) → unnamed ws ≡ map (λ (ty : IrType). record { name = []; ty = ty }) (tys ws)
named_by [] = refl
named_by (w ∷ ws) = ap (λ l. record { name = []; ty = w.ty } ∷ l) (named_by ws)

decl_types : (types : List IrType) → Each IsType types → (at : ℕ) → unnamed (types_in (said at (joined_piece (map type_piece types)) done)) ≡ map (λ (ty : IrType). record { name = []; ty = ty }) types
decl_types types is at = named_by (types_in (said at (joined_piece (map type_piece types)) done)) ∙ ap (map (λ (ty : IrType). record { name = []; ty = ty })) (joined_types at types is)

pub decl_args : (k a s l c r d : ℕ) (private : Bool) (name : List ℕ) (types results : List IrType) → Each IsType types
    → args_said (func_phrase k a s l c r d private name (types_piece types) results done) ≡ map (λ (ty : IrType). record { name = []; ty = ty }) types
decl_args k a s l c r d true name [] results is = λ t. args_of (params_in (arrow_inside_params d results done t)) ++ unnamed (types_in (arrow_inside_types d results done t))
decl_args k a s l c r d false name [] results is = λ t. args_of (params_in (arrow_inside_params d results done t)) ++ unnamed (types_in (arrow_inside_types d results done t))
decl_args k a s l c r d true name (ty ∷ more) results is =
    both_is (ap (λ p. args_of (params_in p)) (arrow_inside_params d results done)) (decl_types (ty ∷ more) is _)
decl_args k a s l c r d false name (ty ∷ more) results is =
    both_is (ap (λ p. args_of (params_in p)) (arrow_inside_params d results done)) (decl_types (ty ∷ more) is _)

pub decl_results : (k a s l c r d : ℕ) (private : Bool) (name : List ℕ) (types results : List IrType) → Each IsType results → tys (result_types (func_phrase k a s l c r d private name (types_piece types) results done)) ≡ results
decl_results k a s l c r d true name [] results is = arrow_results d results done is refl
decl_results k a s l c r d false name [] results is = arrow_results d results done is refl
decl_results k a s l c r d true name (ty ∷ more) results is = arrow_results d results done is refl
decl_results k a s l c r d false name (ty ∷ more) results is = arrow_results d results done is refl

pub decl_bodies : (k a s l c r d : ℕ) (private : Bool) (name : List ℕ) (types results : List IrType) → lines forms.Body (func_phrase k a s l c r d private name (types_piece types) results done) ≡ []
decl_bodies k a s l c r d true name [] results = arrow_bodies d results done
decl_bodies k a s l c r d false name [] results = arrow_bodies d results done
decl_bodies k a s l c r d true name (ty ∷ more) results = arrow_bodies d results done
decl_bodies k a s l c r d false name (ty ∷ more) results = arrow_bodies d results done

-- bodies

ops_inside : (naming : Naming) (ops : List Op) (rest : Phrase) (at : ℕ) → inside forms.Ends (said at (ops_piece naming ops) rest) ≡ inside forms.Ends rest
ops_inside naming [] rest at = refl
ops_inside naming (op ∷ ops) rest at = ops_inside naming ops rest _

pub items_inside : (naming : Naming) (items : List Item) (rest : Phrase) (at : ℕ) → inside forms.Ends (said at (items_piece naming items) rest) ≡ inside forms.Ends rest
items_inside naming [] rest at = refl
items_inside naming (item ∷ items) rest at = ops_inside naming item.ops _ at ∙ items_inside naming items rest _

abbrev pub returning : Naming → ℕ → ℕ → ℕ → List Label → Phrase
returning naming w e z ret = token w ts.Return (codes "return") (said e (ends_piece naming ret) (token z ts.RightBrace (codes "}") done))

pub returning_none : (naming : Naming) (w e z : ℕ) (ret : List Label) → block (returning naming w e z ret) ≡ none
returning_none naming w e z [] = refl
returning_none naming w e z (l ∷ ls) = refl

abbrev pub body_parts : Naming → ℕ → ℕ → ℕ → ℕ → ℕ → Body → Phrase
body_parts naming b i w e z body = token b ts.LeftBrace (codes "{") (said i (items_piece naming body.items) (returning naming w e z body.ret))

-- a body with other labels
abbrev pub other_body : (ℕ → ℕ) → Body → PlainBody
other_body other body = record { items = map (other_ops other) (flat_map singles (view_items body.items)); ret = other_labels other body.ret }

pub body_read : (r : Reading) (index : ℕ) (args : List Arg) (y b i w e z : ℕ) (body : Body) → ReadableOps r index 1 (arg_values (label_at index 0 0) args) (all_ops body.items)
    → ReadsLabels r (scope_after index 1 (arg_values (label_at index 0 0) args) (all_ops body.items)) body.ret
    → body_of r.naming.funcs index args (record { at = y; parts = body_parts r.naming b i w e z body } ∷ []) ≡ Some (other_body r.other body)
body_read r index args y b i w e z body is gives =
    let scope = arg_values (label_at index 0 0) args in
    let tail = returning r.naming w e z body.ret in
    let items = items_read r index scope body.items i tail (returning_none r.naming w e z body.ret) is in
    let M = map (other_ops r.other) (flat_map singles (view_items body.items)) in
    let parts = body_parts r.naming b i w e z body in
    let after = scope_after index 1 scope (all_ops body.items) in
    (λ t. Some (record { items = items t; ret = labels (scope ++ values_of_items index 1 (items t)) (listed_uses (inside forms.Ends parts)) }))
    ∙ (λ t. Some (record { items = M; ret = labels (items_after r.other index body.items scope t) (listed_uses (items_inside r.naming body.items tail i t)) }))
    ∙ (λ t. Some (record { items = M; ret = ends_read r.naming after (other_label r.other) body.ret gives (token z ts.RightBrace (codes "}") done) refl e t }))

-- a function with other labels, each operation of its body an item of its own
abbrev pub other_func : (ℕ → ℕ) → Func → PlainFunc
other_func other f = record {
  index = f.index;
  name = f.name;
  private = f.private;
  args = flat_args (option_map plain_body f.body) f.args;
  results = f.results;
  body = option_map (other_body other) f.body;
}
