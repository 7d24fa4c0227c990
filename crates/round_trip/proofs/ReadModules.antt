-- Modules as the resolver reads their canonical pieces.
use Rattle.std.proofs.Common.{◌≡◌, ℕ, ◌+◌, List, [], ◌∷◌, refl, ap, ◌∙◌, sym, map, length, Option, None, Some}
use Rattle.std.specs.Option.{option_map}
use Rattle.mlir_ir.specs.Phrases.{Phrase, done, line, lines, has}
use Rattle.mlir_ir.specs.Reads.{plain_body}
use Rattle.mlir_ir.specs.Resolved.{PlainBody, PlainFunc, func_of, func_name, body_of}
use Rattle.mlir_ir.specs.declared.syntax.Form.TheVariants as forms
use Rattle.mlir_ir.specs.declared.types.Arg.{Arg}
use Rattle.mlir_ir.specs.declared.types.Body.{Body}
use Rattle.mlir_ir.specs.declared.types.Func.{Func}
use Rattle.mlir_ir.specs.declared.types.IrType.{IrType}
use Rattle.round_trip.specs.CanonicalPieces.{params_piece, types_piece}
use Rattle.round_trip.specs.Flat.{flat_args}
use Rattle.round_trip.specs.PiecePhrases.{said}
use Rattle.round_trip.specs.Pieces.{terminals}
use Rattle.round_trip.specs.Readable.{Reading, HasTypes}
use Rattle.round_trip.specs.Sound.{Each, IsType}
use Rattle.mlir_ir.specs.Canonical.{naming_of}
use Rattle.mlir_ir.specs.Resolved.{funcs_from, funcs_of}
use Rattle.round_trip.specs.CanonicalPieces.{body_piece, func_piece, funcs_piece, module_piece}
use Rattle.round_trip.specs.Flat.{flat, flat_func, flat_label}
use Rattle.round_trip.specs.Readable.{ReadableBody, ReadableFuncs, ReadableModule}
use Rattle.round_trip.proofs.ReadFunctions.{func_phrase, body_parts, other_body, name_read, def_private, def_args, def_results, def_bodies, decl_private, decl_args, decl_results, decl_bodies, body_read}

-- the phrase is read as that function
pub record FuncRead (names : List (List ℕ)) (index : ℕ) (name : List ℕ) (expected : PlainFunc) (parts : Phrase) : Type 0 where
  pub func : func_of names index (record { at = 0; parts = parts }) ≡ expected
  pub name_is : func_name (record { at = 0; parts = parts }) ≡ name

abbrev with_body : Func → List Arg → Option PlainBody → PlainFunc
with_body f args body = record { index = f.index; name = f.name; private = f.private; args = args; results = f.results; body = body }

def_read : (r : Reading) (f : Func) (body : Body) (k a s l c d e y b i w z x : ℕ) → HasTypes f.args → Each IsType f.results → ReadableBody r f (Some body)
    → FuncRead r.naming.funcs f.index f.name (with_body f f.args (Some (other_body r.other body)))
    (func_phrase k a s l c d e f.private f.name (params_piece f.args) f.results (line forms.Body y (body_parts r.naming b i w z x body) done))
def_read r f body k a s l c d e y b i w z x has is reads =
    let q = line forms.Body y (body_parts r.naming b i w z x body) done in
    let name = name_read k a s l c d e f.private f.name (params_piece f.args) f.results q in
    let private = def_private k a s l c d e f.private f.name f.args f.results q refl in
    let args = def_args k a s l c d e f.private f.name f.args f.results q has refl refl in
    let results = def_results k a s l c d e f.private f.name f.args f.results q is refl in
    let bodies = def_bodies k a s l c d e f.private f.name f.args f.results q in
    record {
      func =
          (λ t. record { index = f.index; name = name t; private = private t; args = args t; results = results t; body = body_of r.naming.funcs f.index (args t) (bodies t) })
          ∙ ap (with_body f f.args) (body_read r f.index f.args y b i w z x body reads.0 reads.1);
      name_is = name;
    }

abbrev nameless : IrType → Arg
nameless ty = record { name = []; ty = ty }

unnamed_args : (args : List Arg) → map nameless (map (λ (arg : Arg). arg.ty) args) ≡ map (λ (arg : Arg). nameless arg.ty) args
unnamed_args [] = refl
unnamed_args (arg ∷ args) = ap (λ (l : List Arg). nameless arg.ty ∷ l) (unnamed_args args)

pub types_each : (args : List Arg) → HasTypes args → Each IsType (map (λ (arg : Arg). arg.ty) args)
types_each [] is = tt
types_each (arg ∷ args) is = (is.0, types_each args is.1)

pub decl_read : (names : List (List ℕ)) (f : Func) (k a s l c d e : ℕ) → HasTypes f.args → Each IsType f.results
    → FuncRead names f.index f.name (with_body f (map (λ (arg : Arg). nameless arg.ty) f.args) None) (func_phrase k a s l c d e f.private f.name (types_piece (map (λ (arg : Arg). arg.ty) f.args)) f.results done)
decl_read names f k a s l c d e has is =
    let types = map (λ (arg : Arg). arg.ty) f.args in
    let name = name_read k a s l c d e f.private f.name (types_piece types) f.results done in
    let private = decl_private k a s l c d e f.private f.name types f.results in
    let args = decl_args k a s l c d e f.private f.name types f.results (types_each f.args has) ∙ unnamed_args f.args in
    let results = decl_results k a s l c d e f.private f.name types f.results is in
    let bodies = decl_bodies k a s l c d e f.private f.name types f.results in
    record {
      func = λ t. record { index = f.index; name = name t; private = private t; args = args t; results = results t; body = body_of names f.index (args t) (bodies t) };
      name_is = name;
    }

abbrev pub flat_of_body : Func → Option Body → PlainFunc
flat_of_body f body = with_body f (flat_args (option_map plain_body body) f.args) (option_map (other_body (flat_label f.index body)) body)

-- the line of a function, before others
pub func_said : (names : List (List ℕ)) (f : Func) (body : Option Body) (at : ℕ) (rest : Phrase) → HasTypes f.args → Each IsType f.results → ReadableBody (record { naming = naming_of names f; other = flat_label f.index body }) f body
    → (w : ℕ) × (parts : Phrase) × (said at (body_piece (naming_of names f) f body) rest ≡ line forms.Func w parts rest) × FuncRead names f.index f.name (flat_of_body f body) parts
func_said names f None at rest has is reads = (_, _, refl, decl_read names f _ _ _ _ _ _ _ has is)
func_said names f (Some body) at rest has is reads = (_, _, refl, def_read (record { naming = naming_of names f; other = flat_label f.index (Some body) }) f body _ _ _ _ _ _ _ _ _ _ _ _ _ has is reads)

flat_is : (f : Func) (body : Option Body) → flat_of_body f body ≡ flat_func (record { index = f.index; name = f.name; private = f.private; args = f.args; results = f.results; body = option_map plain_body body })
flat_is f None = refl
flat_is f (Some body) = refl

names_read : (names : List (List ℕ)) (fs : List Func) (index at : ℕ) → ReadableFuncs names index fs → map func_name (lines forms.Func (said at (funcs_piece names fs) done)) ≡ map (λ (f : Func). f.name) fs
names_read names [] index at is = refl
names_read names (f ∷ fs) index at is =
    let rest = said (at + length (terminals (func_piece names f))) (funcs_piece names fs) done in
    let h = func_said names f f.body at rest is.0.1 is.0.2 is.0.3 in
    ap (λ p. map func_name (lines forms.Func p)) h.2
    ∙ (λ t. h.3.name_is t ∷ names_read names fs (index + 1) (at + length (terminals (func_piece names f))) is.1 t)

funcs_read : (names : List (List ℕ)) (fs : List Func) (index at : ℕ) → ReadableFuncs names index fs → funcs_from names index (lines forms.Func (said at (funcs_piece names fs) done)) ≡ flat fs
funcs_read names [] index at is = refl
funcs_read names (f ∷ fs) index at is =
    let rest = said (at + length (terminals (func_piece names f))) (funcs_piece names fs) done in
    let h = func_said names f f.body at rest is.0.1 is.0.2 is.0.3 in
    ap (λ p. funcs_from names index (lines forms.Func p)) h.2
    ∙ (λ t. func_of names (sym is.0.0 t) (record { at = h.0; parts = h.1 }) ∷ funcs_read names fs (index + 1) (at + length (terminals (func_piece names f))) is.1 t)
    ∙ (λ t. (h.3.func ∙ flat_is f f.body) t ∷ flat fs)

-- the law: a module's canonical pieces stand for the flat module
pub module_read : (fs : List Func) → ReadableModule fs → funcs_of (said 0 (module_piece fs) done) ≡ flat fs
module_read fs is =
    let names = map (λ (f : Func). f.name) fs in
    let text = lines forms.Func (said 0 (funcs_piece names fs) done) in
    (λ t. funcs_from (names_read names fs 0 0 is t) 0 text) ∙ funcs_read names fs 0 0 is
