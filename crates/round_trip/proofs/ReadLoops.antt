-- An `scf.while` as the resolver reads its canonical piece, where it reads the operations of its regions.
use Rattle.std.proofs.Common.{◌≡◌, ℕ, ◌+◌, List, ◌++◌, refl, ap, ◌∙◌, slice_index_or, map, length}
use Rattle.arith_word.specs.declared.label.Label.{Label}
use Rattle.mlir_ir.specs.Check.{row_results}
use Rattle.mlir_ir.specs.Labels.{row_labels}
use Rattle.mlir_ir.specs.Operations as plain
use Rattle.mlir_ir.specs.Operations.{labels_of, inner_labels}
use Rattle.mlir_ir.specs.Phrases.{Phrase, done, Line, lines, inside, has, until, behind}
use Rattle.mlir_ir.specs.Resolved.{labels, tys, ops_of, values_of, carried, args_of}
use Rattle.mlir_ir.specs.Source.{Block, region_behind, use_of, none, listed_uses, listed_types, inits_of, params_in, region}
use Rattle.mlir_ir.specs.Values.{Value, arg_values}
use Rattle.mlir_ir.specs.View.{view_row}
use Rattle.mlir_ir.specs.declared.terminal.Terminal.TheVariants as ts
use Rattle.mlir_ir.specs.declared.syntax.Form.TheVariants as forms
use Rattle.mlir_ir.specs.declared.types.Arg.{Arg}
use Rattle.mlir_ir.specs.declared.types.IrType.{IrType}
use Rattle.mlir_ir.specs.declared.types.Region.{Region', Row_of-Op}
use Rattle.mlir_ir.specs.declared.types.Kind.{While}
use Rattle.mlir_ir.specs.declared.types.WhileParts.{WhileParts'}
use Rattle.round_trip.specs.CanonicalPieces.{ends_piece, kind_piece, row_piece}
use Rattle.round_trip.specs.Flat.{other_label, other_ops}
use Rattle.round_trip.specs.PiecePhrases.{said}
use Rattle.round_trip.specs.Readable.{Reading, ReadsLabel, ReadsLabels, HasTypes}
use Rattle.round_trip.specs.Sound.{Each, IsType}
use Rattle.round_trip.proofs.FlatLabels.{row_labels_stay, row_values_stay}
use Rattle.round_trip.proofs.ReadLists.{ends_read}
use Rattle.round_trip.proofs.ReadRows.{row_inside, row_lines, row_until, row_behind, row_behind_word, PhraseRead, KindRead}
use Rattle.round_trip.proofs.ReadUses.{label_read, value_parts}
use Rattle.round_trip.proofs.ReadWhiles.{turn_end, turn, condition, opening, turn_lacks, condition_inside, condition_behind, condition_word, condition_none, condition_until, turn_end_none, opening_region, opening_word, opening_behind, opening_until, opening_uses, opening_results, opening_types, opening_inits, turn_region, turn_params, turn_gives}

-- the operations of a region that stand directly in the phrase
abbrev pub RowRead : Reading → List Value → ℕ → {m : _} → Row_of-Op m → Type 0
RowRead r scope at row = (depth tok : ℕ) (rest : Phrase) → region rest ≡ none → ops_of r.naming.funcs (region (said tok (row_piece r.naming depth row) rest)) scope at ≡ other_ops r.other (view_row row)

-- the reading, by what is found in the phrase
abbrev while_of : (funcs : List (List ℕ)) (scope : List Value) (at : ℕ) (args : List Arg) (inits : List Label) (first : plain.OpList) (behind : List Value) (size : ℕ) (e1 : Phrase) (uses : List Line) (after : List Arg) (b2 : Block) (e2 : Phrase) → plain.OpKind
while_of funcs scope at args inits first behind size e1 uses after b2 e2 =
    let params = at + 1 + length args + size in
    let in_after = scope ++ arg_values params after in
    let second = ops_of funcs b2 in_after (params + length after) in
    plain.While args inits first (labels behind (listed_uses e1)) (slice_index_or (labels behind (map use_of uses)) 0 (record { 0 = 0 })) after second (labels (in_after ++ values_of (params + length after) second) (listed_uses e2))

while_read : (r : Reading) (scope : List Value) (at depth outer k c1 x1 x2 c2 x3 x4 y b1 b2 b3 b4 i1 j1 b5 b6 b7 b8 d1 d2 d3 d4 d5 d6 : ℕ) (args : List Arg) (inits : List Label) (results : List IrType) (shape : _) (row : Row_of-Op _) (passed : List Label) (cond : Label) (after_args : List Arg) (shape2 : _) (row2 : Row_of-Op _) (ends : List Label)
    → HasTypes args → HasTypes after_args → Each IsType results → length args ≡ length inits → ReadsLabels r scope inits
    → RowRead r (scope ++ arg_values (at + 1) args) (at + 1 + length args) row
    → (rc : ReadsLabel r (scope ++ arg_values (at + 1) args ++ row_results (at + 1 + length args) row) cond) → ReadsLabels r (scope ++ arg_values (at + 1) args ++ row_results (at + 1 + length args) row) passed
    → RowRead r (scope ++ arg_values (at + 1 + length args + row_labels row) after_args) (at + 1 + length args + row_labels row + length after_args) row2
    → ReadsLabels r (scope ++ arg_values (at + 1 + length args + row_labels row) after_args ++ row_results (at + 1 + length args + row_labels row + length after_args) row2) ends
    → PhraseRead r scope at results (While (WhileParts' args inits (Region' shape row passed) cond after_args (Region' shape2 row2 ends)))
    (opening r.naming k c1 x1 x2 c2 x3 x4 y b1 args inits results (said b2 (row_piece r.naming depth row) (condition r.naming b3 b4 i1 b5 b6 b7 b8 (value_parts j1 rc.value) passed (turn r.naming depth outer d1 d2 d3 d4 d5 d6 after_args row2 ends))))
while_read r scope at depth outer k c1 x1 x2 c2 x3 x4 y b1 b2 b3 b4 i1 j1 b5 b6 b7 b8 d1 d2 d3 d4 d5 d6 args inits results shape row passed cond after_args shape2 row2 ends has has_after is long reads_inits reads rc reads_passed reads2 gives =
    let naming = r.naming in
    let funcs = naming.funcs in
    let f = other_label r.other in
    let D = turn naming depth outer d1 d2 d3 d4 d5 d6 after_args row2 ends in
    let T = condition naming b3 b4 i1 b5 b6 b7 b8 (value_parts j1 rc.value) passed D in
    let Q = said b2 (row_piece naming depth row) T in
    let p = opening naming k c1 x1 x2 c2 x3 x4 y b1 args inits results Q in
    let R = opening_results naming k c1 x1 x2 c2 x3 x4 y b1 args inits results Q is in
    let no_types : inside forms.Types Q ≡ done = row_inside naming forms.Types refl _ row T depth b2 ∙ condition_inside forms.Types naming b3 b4 i1 b5 b6 b7 b8 (value_parts j1 rc.value) passed D refl refl ∙ turn_lacks forms.Types naming depth outer d1 d2 d3 d4 d5 d6 after_args _ row2 ends refl refl refl in
    let no_inits : inside forms.Inits Q ≡ done = row_inside naming forms.Inits refl _ row T depth b2 ∙ condition_inside forms.Inits naming b3 b4 i1 b5 b6 b7 b8 (value_parts j1 rc.value) passed D refl refl ∙ turn_lacks forms.Inits naming depth outer d1 d2 d3 d4 d5 d6 after_args _ row2 ends refl refl refl in
    let types = opening_types naming k c1 x1 x2 c2 x3 x4 y b1 args inits results Q has no_types in
    let I = opening_inits r scope k c1 x1 x2 c2 x3 x4 y b1 args inits results Q long reads_inits no_inits in
    let A : carried (inits_of p) (tys (listed_types p)) ≡ args = ap (carried (inits_of p)) types ∙ I.0 in
    let B = opening_region naming k c1 x1 x2 c2 x3 x4 y b1 args inits results Q in
    let to_do : behind ts.Do p ≡ D = opening_behind naming k c1 x1 x2 c2 x3 x4 y b1 args inits results Q ∙ row_behind naming _ row T depth b2 ∙ condition_behind naming b3 b4 i1 b5 b6 b7 b8 (value_parts j1 rc.value) passed D in
    let E1 : inside forms.Ends (until ts.Do p) ≡ inside forms.Ends (said b6 (ends_piece naming passed) done) =
    opening_until naming k c1 x1 x2 c2 x3 x4 y b1 args inits results Q ∙ ap (inside forms.Ends) (row_until naming _ row T depth b2) ∙ row_inside naming forms.Ends refl _ row (until ts.Do T) depth b2
    ∙ condition_until naming b3 b4 i1 b5 b6 b7 b8 (value_parts j1 rc.value) passed D in
    let U : lines forms.Use p ≡ lines forms.Use T = opening_uses naming k c1 x1 x2 c2 x3 x4 y b1 args inits results Q ∙ row_lines naming forms.Use refl _ row T depth b2 in
    let P : args_of (params_in (inside forms.Params (behind ts.Do p))) ≡ after_args = ap (λ q. args_of (params_in (inside forms.Params q))) to_do ∙ turn_params naming depth outer d1 d2 d3 d4 d5 d6 after_args _ row2 ends has_after in
    let B2 : region_behind p ≡ region (said d3 (row_piece naming depth row2) (turn_end naming d4 d5 d6 ends)) =
    opening_word naming k c1 x1 x2 c2 x3 x4 y b1 args inits results Q ∙ row_behind_word naming _ row T depth b2 ∙ condition_word naming b3 b4 i1 b5 b6 b7 b8 (value_parts j1 rc.value) passed D ∙ turn_region naming depth outer d1 d2 d3 d4 d5 d6 after_args _ row2 ends in
    let E2 : inside forms.Ends (behind ts.Do p) ≡ inside forms.Ends D = ap (inside forms.Ends) to_do in
    let b = at + 1 + length args in
    let in_before = scope ++ arg_values (at + 1) args in
    let first = reads depth b2 T (condition_none naming b3 b4 i1 b5 b6 b7 b8 (value_parts j1 rc.value) passed D) in
    let F = other_ops r.other (view_row row) in
    let behind_before = in_before ++ row_results b row in
    let c = b + row_labels row in
    let in_after = scope ++ arg_values c after_args in
    let tail = said d3 (row_piece naming depth row2) (turn_end naming d4 d5 d6 ends) in
    let second = reads2 depth d3 (turn_end naming d4 d5 d6 ends) (turn_end_none naming d4 d5 d6 ends) in
    let e1 = inside forms.Ends (said b6 (ends_piece naming passed) done) in
    let gone = ends_read naming behind_before f passed reads_passed done refl b6 in
    let holds = label_read naming behind_before cond (f cond) rc j1 i1 in
    record {
      types = R;
      does =
          (λ t. let ops = ops_of funcs (B t) (scope ++ arg_values (at + 1) (A t)) (at + 1 + length (A t)) in
          while_of funcs scope at (A t) (I.1 t) ops (scope ++ arg_values (at + 1) (A t) ++ values_of (at + 1 + length (A t)) ops) (labels_of ops) (E1 t) (U t) (P t) (B2 t) (E2 t))
          ∙ (λ t. while_of funcs scope at args (map f inits) (first t) (in_before ++ values_of b (first t)) (labels_of (first t)) e1 (lines forms.Use T) after_args (region tail) (inside forms.Ends D))
          ∙ (λ t. while_of funcs scope at args (map f inits) F (in_before ++ row_values_stay r.other _ row b t) (row_labels_stay r.other _ row t) e1 (lines forms.Use T) after_args (region tail) (inside forms.Ends D))
          ∙ (λ t. plain.While args (map f inits) F (gone t) (holds t) after_args (second t) (labels (in_after ++ values_of (c + length after_args) (second t)) (listed_uses (inside forms.Ends D))))
          ∙ (λ t. plain.While args (map f inits) F (map f passed) (f cond) after_args (other_ops r.other (view_row row2)) (labels (in_after ++ row_values_stay r.other _ row2 (c + length after_args) t) (listed_uses (inside forms.Ends D))))
          ∙ (λ t. plain.While args (map f inits) F (map f passed) (f cond) after_args (other_ops r.other (view_row row2)) (turn_gives r (in_after ++ row_results (c + length after_args) row2) depth outer d1 d2 d3 d4 d5 d6 after_args _ row2 ends gives t));
    }

pub while_kind : (r : Reading) (scope : List Value) (at depth : ℕ) (args : List Arg) (inits : List Label) (results : List IrType) (shape : _) (row : Row_of-Op _) (passed : List Label) (cond : Label) (after_args : List Arg) (shape2 : _) (row2 : Row_of-Op _) (ends : List Label)
    → HasTypes args → HasTypes after_args → Each IsType results → length args ≡ length inits → ReadsLabels r scope inits
    → RowRead r (scope ++ arg_values (at + 1) args) (at + 1 + length args) row
    → ReadsLabel r (scope ++ arg_values (at + 1) args ++ row_results (at + 1 + length args) row) cond → ReadsLabels r (scope ++ arg_values (at + 1) args ++ row_results (at + 1 + length args) row) passed
    → RowRead r (scope ++ arg_values (at + 1 + length args + row_labels row) after_args) (at + 1 + length args + row_labels row + length after_args) row2
    → ReadsLabels r (scope ++ arg_values (at + 1 + length args + row_labels row) after_args ++ row_results (at + 1 + length args + row_labels row + length after_args) row2) ends
    → KindRead r scope at results (While (WhileParts' args inits (Region' shape row passed) cond after_args (Region' shape2 row2 ends)))
    (kind_piece r.naming depth results (While (WhileParts' args inits (Region' shape row passed) cond after_args (Region' shape2 row2 ends))))
unfolding kind_piece
while_kind r scope at depth args inits results shape row passed cond after_args shape2 row2 ends has has_after is long reads_inits reads rc reads_passed reads2 gives k =
    rw rc.found
    (while_read r scope at _ _ k _ _ _ _ _ _ _ _ _ _ _ _ _ _ _ _ _ _ _ _ _ _ _ args inits results shape row passed cond after_args shape2 row2 ends has has_after is long reads_inits reads rc reads_passed reads2 gives)
