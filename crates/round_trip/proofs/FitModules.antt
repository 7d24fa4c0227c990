-- The lines of a module's functions: calls find their callees, names differ, and limits are those of the flat module.
use Rattle.std.proofs.Common.{suc, zero, ◌≡◌, ℕ, ◌+◌, ◌||◌, Bool, true, false, List, [], ◌∷◌, refl, ap, ◌∙◌, sym, subst, map, length, find, arith, Option, None, Some, slice_get, slice_index_or, if◌then◌else◌}
use Rattle.std.specs.Str.{bytes_eq}
use Rattle.arith_word.specs.declared.label.Label.{Label}
use Rattle.mlir_ir.specs.Calls.{Called, AreNamedApart, FitsCallee}
use Rattle.mlir_ir.specs.Phrases.{Phrase, Line, done, lines}
use Rattle.mlir_ir.specs.Resolved.{PlainFunc, func_name, func_args, tys}
use Rattle.mlir_ir.specs.ScopeFaults.{repeated, is_defined, func_names}
use Rattle.mlir_ir.specs.Source.{result_types}
use Rattle.mlir_ir.specs.Values.{Value, type_at, func_values}
use Rattle.mlir_ir.specs.declared.syntax.Form.TheVariants as forms
use Rattle.mlir_ir.specs.declared.types.Arg.{Arg}
use Rattle.mlir_ir.specs.declared.types.Body.{Body}
use Rattle.mlir_ir.specs.declared.types.Func.{Func}
use Rattle.mlir_ir.specs.declared.types.IrType.{IrType}
use Rattle.round_trip.specs.CanonicalPieces.{func_piece, funcs_piece}
use Rattle.round_trip.specs.PiecePhrases.{said}
use Rattle.round_trip.specs.Pieces.{terminals}
use Rattle.round_trip.specs.Readable.{Reading, HasTypes, ReadableFuncs}
use Rattle.round_trip.specs.Sound.{Each}
use Rattle.round_trip.proofs.FitKinds.{CallFits}
use Rattle.round_trip.proofs.FitPacks.{Apart, apart_fine}
use Rattle.round_trip.proofs.HeldScopes.{same_bytes, turn_bytes}
use Rattle.round_trip.proofs.ReadModules.{FuncRead, flat_of_body, func_said, types_each}
use Rattle.round_trip.proofs.ReadableModules.{func_at, bytes_true, never}

-- lines of functions

-- the line has the function's name and types
pub record LineOf (f : Func) (l : Line) : Type 0 where
  pub name : func_name l ≡ f.name
  pub args : map (λ (arg : Arg). arg.ty) (func_args l) ≡ map (λ (arg : Arg). arg.ty) f.args
  pub results : tys (result_types l.parts) ≡ f.results

abbrev pub LinesOf : List Func → List Line → Type 0
LinesOf [] [] = Unit {0}
LinesOf [] (l ∷ ls) = ⊥
LinesOf (f ∷ fs) [] = ⊥
LinesOf (f ∷ fs) (l ∷ ls) = LineOf f l × LinesOf fs ls

nameless_types : (args : List Arg) → map (λ (arg : Arg). arg.ty) (map {B = Arg} (λ (arg : Arg). record { name = []; ty = arg.ty }) args) ≡ map (λ (arg : Arg). arg.ty) args
nameless_types [] = refl
nameless_types (arg ∷ args) = ap (λ (l : List IrType). arg.ty ∷ l) (nameless_types args)

pub line_of : (names : List (List ℕ)) (f : Func) (body : Option Body) (w : ℕ) (parts : Phrase) → FuncRead names f.index f.name (flat_of_body f body) parts → LineOf f (record { at = w; parts = parts })
line_of names f None w parts h = record { name = h.name_is; args = ap (λ (g : PlainFunc). map (λ (arg : Arg). arg.ty) g.args) h.func ∙ nameless_types f.args; results = ap (λ (g : PlainFunc). g.results) h.func }
line_of names f (Some body) w parts h = record { name = h.name_is; args = ap (λ (g : PlainFunc). map (λ (arg : Arg). arg.ty) g.args) h.func; results = ap (λ (g : PlainFunc). g.results) h.func }

pub lines_of : (names : List (List ℕ)) (fs : List Func) (index at : ℕ) → ReadableFuncs names index fs → LinesOf fs (lines forms.Func (said at (funcs_piece names fs) done))
lines_of names [] index at is = tt
lines_of names (f ∷ fs) index at is =
    let rest = said (at + length (terminals (func_piece names f))) (funcs_piece names fs) done in
    let h = func_said names f f.body at rest is.0.1 is.0.2 is.0.3 in
    subst (λ (p : Phrase). LinesOf (f ∷ fs) (lines forms.Func p)) (sym h.2) (line_of names f f.body h.0 h.1 h.3, lines_of names fs (index + 1) (at + length (terminals (func_piece names f))) is.1)

pub lines_count : (fs : List Func) (ls : List Line) → LinesOf fs ls → length ls ≡ length fs
lines_count [] [] h = refl
lines_count [] (l ∷ ls) h = absurd h
lines_count (f ∷ fs) [] h = absurd h
lines_count (f ∷ fs) (l ∷ ls) h = let more = lines_count fs ls h.1 in omega (arith, more)

-- names

apart_later : (f : Func) (fs : List Func) → AreNamedApart (f ∷ fs) → AreNamedApart fs
apart_later f fs apart i j a b ea eb en = let e : suc i ≡ suc j = apart (suc i) (suc j) a b ea eb en in omega (arith, e)

other_name : (f : Func) (fs : List Func) (k : ℕ) (g : Func) → AreNamedApart (f ∷ fs) → slice_get fs k ≡ Some g → bytes_eq f.name g.name ≡ false
other_name f fs k g apart e = never (bytes_eq f.name g.name) (λ same. (let z : 0 ≡ suc k = apart 0 (suc k) f g refl e (bytes_true f.name g.name same) in omega (arith, z)))

-- the line of a function is found by its name
line_found : (fs : List Func) (ls : List Line) (k : ℕ) (g : Func) → LinesOf fs ls → AreNamedApart fs → slice_get fs k ≡ Some g → (l : Line) × LineOf g l × (find (λ (o : Line). bytes_eq (func_name o) g.name) ls ≡ Some l)
line_found [] ls k g h apart e = cc
line_found (f ∷ fs) [] k g h apart e = absurd h
line_found (f ∷ fs) (l ∷ ls) zero g h apart e =
    let same : f ≡ g = cc in
    let own = subst (λ (x : Func). LineOf x l) same h.0 in
    let test : bytes_eq (func_name l) g.name ≡ true = ap (λ (name : List ℕ). bytes_eq name g.name) own.name ∙ same_bytes g.name in
    (l, own, ap (λ (c : Bool). if c then Some l else find (λ (o : Line). bytes_eq (func_name o) g.name) ls) test)
line_found (f ∷ fs) (l ∷ ls) (suc k) g h apart e =
    let more = line_found fs ls k g h.1 (apart_later f fs apart) e in
    let test : bytes_eq (func_name l) g.name ≡ false = ap (λ (name : List ℕ). bytes_eq name g.name) h.0.name ∙ other_name f fs k g apart e in
    (more.0, more.1, ap (λ (c : Bool). if c then Some l else find (λ (o : Line). bytes_eq (func_name o) g.name) ls) test ∙ more.2)

-- no name of the functions is among these
abbrev Unused : List (List ℕ) → List Func → Type 0
Unused names fs = (k : ℕ) (g : Func) → slice_get fs k ≡ Some g → is_defined g.name names ≡ false

names_apart : (names : List (List ℕ)) (fs : List Func) (ls : List Line) → LinesOf fs ls → AreNamedApart fs → Unused names fs → Apart names (func_names ls)
names_apart names [] [] h apart u = tt
names_apart names [] (l ∷ ls) h apart u = absurd h
names_apart names (f ∷ fs) [] h apart u = absurd h
names_apart names (f ∷ fs) (l ∷ ls) h apart u =
    let later : Unused (f.name ∷ names) fs = λ k g e. (let other = turn_bytes g.name f.name ∙ other_name f fs k g apart e in let more = u (suc k) g e in λ t. other t || more t) in (
      ap (λ (name : List ℕ). is_defined name names) h.0.name ∙ u 0 f refl,
      subst (λ (name : List ℕ). Apart (name ∷ names) (func_names ls)) (sym h.0.name) (names_apart (f.name ∷ names) fs ls h.1 (apart_later f fs apart) later),
    )

pub names_fine : (fs : List Func) (ls : List Line) → LinesOf fs ls → AreNamedApart fs → repeated [] (func_names ls) ≡ []
names_fine fs ls h apart = apart_fine [] (func_names ls) (names_apart [] fs ls h apart (λ k g e. refl))

-- calls

each_at : {X : Type 0} (P : X → Type 0) (xs : List X) (k : ℕ) (x : X) → Each P xs → slice_get xs k ≡ Some x → P x
each_at P [] k x h e = cc
each_at P (y ∷ ys) zero x h e = let same : y ≡ x = cc in subst P same h.0
each_at P (y ∷ ys) (suc k) x h e = each_at P ys k x h.1 e

some_types : (args : List Arg) → map (λ (arg : Arg). Some arg.ty) args ≡ map (λ (ty : IrType). Some ty) (map (λ (arg : Arg). arg.ty) args)
some_types [] = refl
some_types (arg ∷ args) = ap (λ (l : List (Option IrType)). Some arg.ty ∷ l) (some_types args)

pub call_fits : (fs : List Func) (ls : List Line) (r : Reading) (f : Func) (call : Called) → LinesOf fs ls → AreNamedApart fs → Each (λ (g : Func). HasTypes g.args) fs → r.naming.values ≡ func_values f → r.naming.funcs ≡ map (λ (g : Func). g.name) fs
    → FitsCallee fs (func_values f) call → CallFits ls r call
call_fits fs ls r f call h apart types values funcs fits =
    let at = func_at fs call.func fits.0 in
    let g = at.0 in
    let found = line_found fs ls call.func g h apart at.1 in
    let own = fits.1 g at.1 in
    let named : slice_index_or r.naming.funcs call.func [] ≡ g.name = ap (λ (names : List (List ℕ)). slice_index_or names call.func []) funcs ∙ at.2 in
    record {
      callee = found.0;
      found = ap (λ (name : List ℕ). find (λ (o : Line). bytes_eq (func_name o) name) ls) named ∙ found.2;
      types = map (λ (arg : Arg). arg.ty) g.args;
      are = types_each g.args (each_at (λ (x : Func). HasTypes x.args) fs call.func g types at.1);
      takes = found.1.args;
      typed = ap (λ (vs : List Value). map (λ (l : Label). type_at vs l.0) call.uses) values ∙ own.0 ∙ some_types g.args;
      gives = found.1.results ∙ sym own.1;
    }
