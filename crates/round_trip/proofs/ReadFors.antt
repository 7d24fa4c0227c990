-- `scf.for` as the resolver reads its canonical piece, where it reads the operations of its body.
use Rattle.std.proofs.Common.{◌≡◌, ℕ, ◌+◌, List, [], ◌∷◌, ◌++◌, refl, ap, ◌∙◌, sym, subst, codes, map, length, arith}
use Rattle.arith_word.specs.declared.label.Label.{Label}
use Rattle.mlir_ir.specs.Canonical.{Naming}
use Rattle.mlir_ir.specs.Check.{row_results}
use Rattle.mlir_ir.specs.Operations as plain
use Rattle.mlir_ir.specs.Operations.{labels_of, inner_labels}
use Rattle.mlir_ir.specs.Phrases.{Phrase, done, token, line, inside}
use Rattle.mlir_ir.specs.Resolved.{labels, tys, ops_of, values_of, carried, variable_type}
use Rattle.mlir_ir.specs.Rules.{arg_types}
use Rattle.mlir_ir.specs.Source.{Block, block, region, listed_uses, types_in, inits_of, result_types}
use Rattle.mlir_ir.specs.Values.{Value, arg_values}
use Rattle.mlir_ir.specs.View.{view_row}
use Rattle.mlir_ir.specs.declared.terminal.Terminal.TheVariants as ts
use Rattle.mlir_ir.specs.declared.syntax.Form.TheVariants as forms
use Rattle.mlir_ir.specs.declared.types.Arg.{Arg}
use Rattle.mlir_ir.specs.declared.types.IrType.{IrType}
use Rattle.mlir_ir.specs.declared.types.IrType.TheVariants.{Int, Index}
use Rattle.mlir_ir.specs.declared.types.Region.{Region', Row_of-Op}
use Rattle.mlir_ir.specs.declared.types.Kind.{For}
use Rattle.mlir_ir.specs.declared.types.ForParts.{ForParts'}
use Rattle.round_trip.specs.CanonicalPieces.{carried_piece, counter_piece, kind_piece}
use Rattle.round_trip.specs.Flat.{other_label, other_ops}
use Rattle.round_trip.specs.PiecePhrases.{said}
use Rattle.round_trip.specs.Readable.{Reading, ReadsLabel, ReadsLabels, HasTypes}
use Rattle.round_trip.specs.Sound.{Each, IsType}
use Rattle.round_trip.proofs.ReadLists.{results_list_read, inits_read, type_is, InitsRead}
use Rattle.round_trip.proofs.ReadRows.{PhraseRead, KindRead}
use Rattle.round_trip.proofs.ReadUses.{label_read, value_parts}
use Rattle.round_trip.proofs.ReadIfs.{braces, gives_read, BlockRead}

-- the phrase of an `scf.for`, by its parts
abbrev pub for_phrase : (naming : Naming) (k a1 a2 i1 : ℕ) (u1 : Phrase) (a3 i2 : ℕ) (u2 : Phrase) (a4 i3 : ℕ) (u3 : Phrase) (c1 c2 y : ℕ) (name : List ℕ) (ty : IrType) (args : List Arg) (inits : List Label) (results : List IrType) (parts : Phrase) → Phrase
for_phrase naming k a1 a2 i1 u1 a3 i2 u2 a4 i3 u3 c1 c2 y name ty args inits results parts =
    token k ts.For (codes "scf.for") (token a1 ts.Value (codes "%" ++ name) (token a2 ts.Equals (codes "=") (line forms.Use i1 u1 (token a3 ts.To (codes "to") (line forms.Use i2 u2 (token a4 ts.Step (codes "step") (line forms.Use i3 u3
    (said c1 (carried_piece naming args inits results) (said c2 (counter_piece ty) (line forms.Region y parts done))))))))))

-- what is behind the loop's bounds
abbrev pub behind_bounds : Naming → ℕ → ℕ → ℕ → IrType → List Arg → List Label → List IrType → Phrase → Phrase
behind_bounds naming c1 c2 y ty args inits results parts = said c1 (carried_piece naming args inits results) (said c2 (counter_piece ty) (line forms.Region y parts done))

pub for_region : (naming : Naming) (c1 c2 y : ℕ) (ty : IrType) (args : List Arg) (inits : List Label) (results : List IrType) (parts : Phrase) → region (behind_bounds naming c1 c2 y ty args inits results parts) ≡ block parts
for_region naming c1 c2 y (Int width) [] inits results parts = refl
for_region naming c1 c2 y Index [] inits results parts = refl
for_region naming c1 c2 y (Int width) (arg ∷ args) inits results parts = refl
for_region naming c1 c2 y Index (arg ∷ args) inits results parts = refl

pub for_parts : (naming : Naming) (c1 c2 y : ℕ) (ty : IrType) (args : List Arg) (inits : List Label) (results : List IrType) (parts : Phrase) → inside forms.Region (behind_bounds naming c1 c2 y ty args inits results parts) ≡ parts
for_parts naming c1 c2 y (Int width) [] inits results parts = refl
for_parts naming c1 c2 y Index [] inits results parts = refl
for_parts naming c1 c2 y (Int width) (arg ∷ args) inits results parts = refl
for_parts naming c1 c2 y Index (arg ∷ args) inits results parts = refl

pub for_variable : (naming : Naming) (c1 c2 y : ℕ) (ty : IrType) (args : List Arg) (inits : List Label) (results : List IrType) (parts : Phrase) → IsType ty → variable_type (types_in (behind_bounds naming c1 c2 y ty args inits results parts)) ≡ ty
for_variable naming c1 c2 y (Int width) [] inits results parts is = type_is _ 0 (Int width) is
for_variable naming c1 c2 y Index [] inits results parts is = refl
for_variable naming c1 c2 y (Int width) (arg ∷ args) inits results parts is = type_is _ 0 (Int width) is
for_variable naming c1 c2 y Index (arg ∷ args) inits results parts is = refl

pub for_results : (naming : Naming) (c1 c2 y : ℕ) (ty : IrType) (args : List Arg) (inits : List Label) (results : List IrType) (parts : Phrase) → Each IsType results → arg_types args ≡ results → tys (result_types (behind_bounds naming c1 c2 y ty args inits results parts)) ≡ results
for_results naming c1 c2 y (Int width) [] inits results parts is e = e
for_results naming c1 c2 y Index [] inits results parts is e = e
for_results naming c1 c2 y (Int width) (arg ∷ args) inits results parts is e = results_list_read _ results is
for_results naming c1 c2 y Index (arg ∷ args) inits results parts is e = results_list_read _ results is

pub for_inits : (r : Reading) (scope : List Value) (c1 c2 y : ℕ) (ty : IrType) (args : List Arg) (inits : List Label) (results : List IrType) (parts : Phrase) → length args ≡ length inits → ReadsLabels r scope inits
    → InitsRead scope (other_label r.other) args inits (inits_of (behind_bounds r.naming c1 c2 y ty args inits results parts))
for_inits r scope c1 c2 y (Int width) [] [] results parts e is = (refl, refl)
for_inits r scope c1 c2 y Index [] [] results parts e is = (refl, refl)
for_inits r scope c1 c2 y ty [] (l ∷ ls) results parts e is = absurd (omega arith)
for_inits r scope c1 c2 y (Int width) (arg ∷ args) inits results parts e is = inits_read r.naming scope (other_label r.other) (arg ∷ args) inits e is _
for_inits r scope c1 c2 y Index (arg ∷ args) inits results parts e is = inits_read r.naming scope (other_label r.other) (arg ∷ args) inits e is _

-- the reading, by what is found in the phrase
abbrev for_of : (funcs : List (List ℕ)) (scope : List Value) (at : ℕ) (l u s : Label) (name : List ℕ) (ty : IrType) (args : List Arg) (inits : List Label) (body : Block) (parts : Phrase) → plain.OpKind
for_of funcs scope at l u s name ty args inits body parts =
    let iv : Arg = record { name = name; ty = ty } in
    let inner = scope ++ arg_values (at + 1) (iv ∷ args) in
    let ops = ops_of funcs body inner (at + 2 + length args) in
    plain.For l u s iv args inits ops (labels (inner ++ values_of (at + 2 + length args) ops) (listed_uses (inside forms.Ends parts)))

pub arg_each : (args : List Arg) (results : List IrType) → HasTypes args → arg_types args ≡ results → Each IsType results
arg_each args results is e = subst (λ (xs : List IrType). Each IsType xs) e (go args is)
  where
    go : (args : List Arg) → HasTypes args → Each IsType (arg_types args)
    go [] is = tt
    go (arg ∷ args) is = (is.0, go args is.1)

for_read : (r : Reading) (scope : List Value) (at depth k a1 a2 i1 j1 a3 i2 j2 a4 i3 j3 c1 c2 y a b d e : ℕ) (lower upper step : Label) (iv : Arg) (args : List Arg) (inits : List Label) (results : List IrType) (shape : _) (row : Row_of-Op _) (ends : List Label)
    → (rl : ReadsLabel r scope lower) (ru : ReadsLabel r scope upper) (rs : ReadsLabel r scope step) → IsType iv.ty → HasTypes args → arg_types args ≡ results → length args ≡ length inits → ReadsLabels r scope inits
    → BlockRead r (scope ++ arg_values (at + 1) (iv ∷ args)) (at + 2 + length args) row
    → ReadsLabels r (scope ++ arg_values (at + 1) (iv ∷ args) ++ row_results (at + 2 + length args) row) ends
    → PhraseRead r scope at results (For (ForParts' lower upper step iv args inits (Region' shape row ends)))
    (for_phrase r.naming k a1 a2 i1 (value_parts j1 rl.value) a3 i2 (value_parts j2 ru.value) a4 i3 (value_parts j3 rs.value) c1 c2 y iv.name iv.ty args inits results (braces r.naming depth a b d e row ends))
for_read r scope at depth k a1 a2 i1 j1 a3 i2 j2 a4 i3 j3 c1 c2 y a b d e lower upper step iv args inits results shape row ends rl ru rs is each same long reads_inits reads gives =
    let f = other_label r.other in
    let parts = braces r.naming depth a b d e row ends in
    let behind = behind_bounds r.naming c1 c2 y iv.ty args inits results parts in
    let R = for_results r.naming c1 c2 y iv.ty args inits results parts (arg_each args results each same) same in
    let V = for_variable r.naming c1 c2 y iv.ty args inits results parts is in
    let I = for_inits r scope c1 c2 y iv.ty args inits results parts long reads_inits in
    let A : carried (inits_of behind) (tys (result_types behind)) ≡ args = ap (carried (inits_of behind)) (R ∙ sym same) ∙ I.0 in
    let B = for_region r.naming c1 c2 y iv.ty args inits results parts in
    let P = for_parts r.naming c1 c2 y iv.ty args inits results parts in
    let ll = label_read r.naming scope lower (f lower) rl j1 i1 in
    let lu = label_read r.naming scope upper (f upper) ru j2 i2 in
    let ls = label_read r.naming scope step (f step) rs j3 i3 in
    let inner = scope ++ arg_values (at + 1) (iv ∷ args) in
    record {
      types = R;
      does =
          (λ t. for_of r.naming.funcs scope at (ll t) (lu t) (ls t) iv.name (V t) (A t) (I.1 t) (B t) (P t))
          ∙ (λ t. plain.For (f lower) (f upper) (f step) iv args (map f inits) (reads depth a b d e ends t) (labels (inner ++ values_of (at + 2 + length args) (reads depth a b d e ends t)) (listed_uses (inside forms.Ends parts))))
          ∙ (λ t. plain.For (f lower) (f upper) (f step) iv args (map f inits) (other_ops r.other (view_row row)) (gives_read r inner (at + 2 + length args) depth a b d e _ row ends gives t));
    }

pub for_kind : (r : Reading) (scope : List Value) (at depth : ℕ) (lower upper step : Label) (iv : Arg) (args : List Arg) (inits : List Label) (results : List IrType) (shape : _) (row : Row_of-Op _) (ends : List Label)
    → ReadsLabel r scope lower → ReadsLabel r scope upper → ReadsLabel r scope step → IsType iv.ty → HasTypes args → arg_types args ≡ results → length args ≡ length inits → ReadsLabels r scope inits
    → BlockRead r (scope ++ arg_values (at + 1) (iv ∷ args)) (at + 2 + length args) row
    → ReadsLabels r (scope ++ arg_values (at + 1) (iv ∷ args) ++ row_results (at + 2 + length args) row) ends
    → KindRead r scope at results (For (ForParts' lower upper step iv args inits (Region' shape row ends))) (kind_piece r.naming depth results (For (ForParts' lower upper step iv args inits (Region' shape row ends))))
unfolding kind_piece
for_kind r scope at depth lower upper step iv args inits results shape row ends rl ru rs is each same long reads_inits reads gives k =
    rw (rl.found, ru.found, rs.found) (for_read r scope at _ k _ _ _ _ _ _ _ _ _ _ _ _ _ _ _ _ _ lower upper step iv args inits results shape row ends rl ru rs is each same long reads_inits reads gives)
