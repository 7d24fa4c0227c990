-- An `scf.while` whose regions break no rule breaks none.
use Rattle.std.proofs.Common.{◌≡◌, ℕ, ◌+◌, ◌≤◌, nat_le, List, [], ◌∷◌, ◌++◌, refl, ap, ◌∙◌, sym, subst, codes, map, length, arith}
use Rattle.std.proofs.lemmas.List.{length-map}
use Rattle.arith_word.specs.declared.label.Label.{Label}
use Rattle.mlir_ir.specs.Canonical.{Naming}
use Rattle.mlir_ir.specs.Check.{row_results}
use Rattle.mlir_ir.specs.Limits.{arg_limit, carried_limit, loop_limit}
use Rattle.mlir_ir.specs.Operations as plain
use Rattle.mlir_ir.specs.Operations.{count_of, labels_of}
use Rattle.mlir_ir.specs.Phrases.{Phrase, Line, done, token, lines, inside, until, behind, spots, first_spot}
use Rattle.mlir_ir.specs.Resolved.{tys, carried, inits_used, args_of}
use Rattle.mlir_ir.specs.Rules.{arg_types, truth}
use Rattle.mlir_ir.specs.ScopeFaults.{Break, broken, uses_breaks, type_breaks, ending_breaks, block_breaks, listed_breaks, names_of, repeated, over, op_tokens, block_labels, defined_by, params_breaks}
use Rattle.mlir_ir.specs.Source.{Block, Defined, Written, Use, Ending, use_of, region, region_behind, inits_of, listed_uses, listed_types, params_in}
use Rattle.mlir_ir.specs.Values.{Value, arg_values}
use Rattle.mlir_ir.specs.View.{view_row}
use Rattle.mlir_ir.specs.declared.scope_kind.ScopeKind.TheVariants.{Limit}
use Rattle.mlir_ir.specs.declared.terminal.Terminal.TheVariants as ts
use Rattle.mlir_ir.specs.declared.syntax.Form.TheVariants as forms
use Rattle.mlir_ir.specs.declared.types.Arg.{Arg}
use Rattle.mlir_ir.specs.declared.types.IrType.{IrType}
use Rattle.mlir_ir.specs.declared.types.Region.{Row_of-Op}
use Rattle.round_trip.specs.CanonicalPieces.{row_piece, ends_piece}
use Rattle.round_trip.specs.PiecePhrases.{said}
use Rattle.round_trip.specs.Readable.{Reading, ReadsLabels, HasTypes, FreeArgs}
use Rattle.round_trip.specs.ReadUses.{ReadsAs}
use Rattle.round_trip.specs.Flat.{other_label}
use Rattle.round_trip.specs.Sound.{Each, IsType}
use Rattle.round_trip.proofs.FitIfs.{BlockFits, GivesOn}
use Rattle.round_trip.proofs.FitFors.{inits_count, limits_fine}
use Rattle.round_trip.proofs.FitPacks.{args_fine, over_fine}
use Rattle.round_trip.proofs.FitSimple.{PhraseFits, seen_in}
use Rattle.round_trip.proofs.ReadRows.{row_inside, row_lines, row_until, row_behind, row_behind_word}
use Rattle.round_trip.proofs.ReadWhiles.{turn_end, turn, condition, opening, turn_lacks, condition_inside, condition_behind, condition_word, condition_until, opening_region, opening_word, opening_behind, opening_until, opening_uses, opening_results, opening_types, opening_inits, turn_region, turn_params, arg_each}
use Rattle.round_trip.proofs.SeenLists.{Typed, InitsSeen, inits_seen, EndsSeen, ends_seen}
use Rattle.round_trip.proofs.SeenUses.{Sees, Alike, alike_more, args_alike, same_names, uses_fine, types_fine, listed_fine, written_fine, same_count, ending_fine}

-- parameters

pub params_names : (ps : List (Defined × Written)) → map (λ (d : Defined). d.name) (map (λ (p : Defined × Written). p.0) ps) ≡ map (λ (arg : Arg). arg.name) (args_of ps)
params_names [] = refl
params_names (p ∷ ps) = ap (λ (l : List (List ℕ)). p.0.name ∷ l) (params_names ps)

params_types : (ps : List (Defined × Written)) → tys (map (λ (p : Defined × Written). p.1) ps) ≡ arg_types (args_of ps)
params_types [] = refl
params_types (p ∷ ps) = ap (λ (l : List IrType). p.1.ty ∷ l) (params_types ps)

pub params_count : (ps : List (Defined × Written)) (args : List Arg) → args_of ps ≡ args → length ps ≡ length args
params_count ps args e =
    let a = length-map {B = Arg} ps (λ (p : Defined × Written). record { name = p.0.name; ty = p.1.ty }) in
    let b : length (args_of ps) ≡ length args = ap length e in
    omega (arith, a, b)

pub params_fine : (s scope : List Value) (at : ℕ) (wanted : List IrType) (ps : List (Defined × Written)) (args : List Arg) → Alike s scope → args_of ps ≡ args → arg_types args ≡ wanted → FreeArgs scope args → length args ≤ arg_limit
    → params_breaks s at wanted ps ≡ []
params_fine s scope at wanted ps args same e types free few =
    let names = args_fine s scope args (map (λ (p : Defined × Written). p.0) ps) (same_names s scope same) (params_names ps ∙ ap (map (λ (arg : Arg). arg.name)) e) free in
    let count = params_count ps args e in
    let tokens = length-map ps (λ (p : Defined × Written). p.0.at) in
    let same_types : tys (map (λ (p : Defined × Written). p.1) ps) ≡ wanted = params_types ps ∙ ap arg_types e ∙ types in
    let wants : length wanted ≡ length args = sym (ap length types) ∙ length-map args (λ (arg : Arg). arg.ty) in
    λ t. names t ++ over_fine arg_limit (map (λ (p : Defined × Written). p.0.at) ps) (omega (arith, tokens, count, few)) t ++ written_fine (map (λ (p : Defined × Written). p.1) ps) wanted same_types t ++ same_count (length ps) (length wanted) at (omega (arith, count, wants)) t

-- what is found in the phrase

turn_end_uses : (naming : Naming) (d4 d5 d6 : ℕ) (ends : List Label) → lines forms.Use (turn_end naming d4 d5 d6 ends) ≡ []
turn_end_uses naming d4 d5 d6 [] = refl
turn_end_uses naming d4 d5 d6 (l ∷ ls) = refl

turn_uses : (naming : Naming) (depth outer d1 d2 d3 d4 d5 d6 : ℕ) (after_args : List Arg) (n : _) (row2 : Row_of-Op n) (ends : List Label) → lines forms.Use (turn naming depth outer d1 d2 d3 d4 d5 d6 after_args row2 ends) ≡ []
turn_uses naming depth outer d1 d2 d3 d4 d5 d6 [] n row2 ends = row_lines naming forms.Use refl n row2 (turn_end naming d4 d5 d6 ends) depth d3 ∙ turn_end_uses naming d4 d5 d6 ends
turn_uses naming depth outer d1 d2 d3 d4 d5 d6 (arg ∷ args) n row2 ends = row_lines naming forms.Use refl n row2 (turn_end naming d4 d5 d6 ends) depth d3 ∙ turn_end_uses naming d4 d5 d6 ends

-- the condition's use, before what has none
condition_uses : (naming : Naming) (b3 b4 i1 b5 b6 b7 b8 : ℕ) (u : Phrase) (passed : List Label) (rest : Phrase) → lines forms.Use rest ≡ [] → map use_of (lines forms.Use (condition naming b3 b4 i1 b5 b6 b7 b8 u passed rest)) ≡ seen_in i1 u ∷ []
condition_uses naming b3 b4 i1 b5 b6 b7 b8 u [] rest e = ap (λ (ls : List Line). seen_in i1 u ∷ map use_of ls) e
condition_uses naming b3 b4 i1 b5 b6 b7 b8 u (l ∷ ls) rest e = ap (λ (ls : List Line). seen_in i1 u ∷ map use_of ls) e

turn_seen : (naming : Naming) (scope s : List Value) (f : Label → Label) (depth outer d1 d2 d3 d4 d5 d6 : ℕ) (after_args : List Arg) (n : _) (row2 : Row_of-Op n) (ends : List Label) (wanted : List IrType) → Alike s scope → Each IsType wanted → Each (λ l. ReadsAs naming scope l (f l)) ends → Typed naming wanted ends
    → EndsSeen s wanted (inside forms.Ends (turn naming depth outer d1 d2 d3 d4 d5 d6 after_args row2 ends))
turn_seen naming scope s f depth outer d1 d2 d3 d4 d5 d6 [] n row2 ends wanted same w is t =
    subst (EndsSeen s wanted) (sym (row_inside naming forms.Ends refl n row2 (turn_end naming d4 d5 d6 ends) depth d3)) (ends_seen naming scope s f ends wanted same w is t (token d6 ts.RightBrace (codes "}") done) refl d5)
turn_seen naming scope s f depth outer d1 d2 d3 d4 d5 d6 (arg ∷ args) n row2 ends wanted same w is t =
    subst (EndsSeen s wanted) (sym (row_inside naming forms.Ends refl n row2 (turn_end naming d4 d5 d6 ends) depth d3)) (ends_seen naming scope s f ends wanted same w is t (token d6 ts.RightBrace (codes "}") done) refl d5)

opening_seen : (naming : Naming) (scope s : List Value) (f : Label → Label) (k c1 x1 x2 c2 x3 x4 y b1 : ℕ) (args : List Arg) (inits : List Label) (types results : List IrType) (rest : Phrase) → Alike s scope → length args ≡ length inits → Each (λ l. ReadsAs naming scope l (f l)) inits → Typed naming types inits
    → inside forms.Inits rest ≡ done → InitsSeen s args types (inits_of (opening naming k c1 x1 x2 c2 x3 x4 y b1 args inits results rest))
opening_seen naming scope s f k c1 x1 x2 c2 x3 x4 y b1 [] [] [] results rest same long is t e = rw e (tt, refl)
opening_seen naming scope s f k c1 x1 x2 c2 x3 x4 y b1 [] [] (ty ∷ types) results rest same long is t e = cc
opening_seen naming scope s f k c1 x1 x2 c2 x3 x4 y b1 [] (l ∷ ls) types results rest same long is t e = absurd (omega arith)
opening_seen naming scope s f k c1 x1 x2 c2 x3 x4 y b1 (arg ∷ args) inits types results rest same long is t e = inits_seen naming scope f s same (arg ∷ args) inits types long is t _

-- the loop

-- what the rules say of an `scf.while`, by what is found in its phrase
abbrev while_sum : (funcs : List Line) (loops : ℕ) (s : List Value) (k w1 w2 : ℕ) (inits : List (Defined × Use)) (args : List Arg) (types wanted : List IrType) (b1 b2 : Block) (us : List Use) (e1 : Phrase) (params : List (Defined × Written)) (after : List Arg) (e2 : Phrase) → List Break
while_sum funcs loops s k w1 w2 inits args types wanted b1 b2 us e1 params after e2 =
    let first = s ++ arg_values 0 args in
    let second = s ++ arg_values 0 after in
    let condition : Ending = record { word = w1; uses = listed_uses e1; types = listed_types e1 } in
    let turn : Ending = record { word = w2; uses = listed_uses e2; types = listed_types e2 } in
    (listed_breaks s k (inits_used inits) types ++ repeated (names_of s) (map (λ (p : Defined × Use). p.0) inits) ++ over carried_limit (map (λ (p : Defined × Use). p.0.at) inits) ++ broken (nat_le loop_limit loops) k Limit)
    ++ block_breaks funcs b1 (loops + 1) first
    ++ (uses_breaks (first ++ defined_by b1) w1 us ++ type_breaks (first ++ defined_by b1) us (truth ∷ []) ++ ending_breaks (first ++ defined_by b1) wanted condition)
    ++ params_breaks s k wanted params
    ++ block_breaks funcs b2 (loops + 1) second
    ++ ending_breaks (second ++ defined_by b2) types turn

pub while_fits : (funcs : List Line) (loops : ℕ) (s scope : List Value) (r : Reading) (at depth outer k c1 x1 x2 c2 x3 x4 y b1 b2 b3 b4 i1 b5 b6 b7 b8 d1 d2 d3 d4 d5 d6 : ℕ) (u : Phrase) (args : List Arg) (inits : List Label) (results : List IrType) (n : _) (row : Row_of-Op n) (passed : List Label) (cond : Label) (after_args : List Arg) (n2 : _) (row2 : Row_of-Op n2) (ends : List Label) (at2 : ℕ)
    → Alike s scope → HasTypes args → HasTypes after_args → Each IsType results → length args ≡ length inits → ReadsLabels r scope inits → Typed r.naming (arg_types args) inits → arg_types after_args ≡ results
    → FreeArgs scope args → FreeArgs scope after_args → length args ≤ carried_limit → length after_args ≤ arg_limit → loops + 1 ≤ loop_limit
    → let T = condition r.naming b3 b4 i1 b5 b6 b7 b8 u passed (turn r.naming depth outer d1 d2 d3 d4 d5 d6 after_args row2 ends) in
    let Q = said b2 (row_piece r.naming depth row) T in
    let tail = said d3 (row_piece r.naming depth row2) (turn_end r.naming d4 d5 d6 ends) in
    let at1 = at + 1 + length args in
    BlockFits funcs (loops + 1) (s ++ arg_values 0 args) at1 row (region Q)
    → Sees (s ++ arg_values 0 args ++ defined_by (region Q)) (seen_in i1 u) truth
    → GivesOn r.naming (scope ++ arg_values (at + 1) args) (other_label r.other) at1 row passed results
    → BlockFits funcs (loops + 1) (s ++ arg_values 0 after_args) at2 row2 (region tail)
    → (at3 : ℕ) → GivesOn r.naming (scope ++ arg_values at3 after_args) (other_label r.other) at2 row2 ends (arg_types args)
    → PhraseFits funcs loops s (plain.While args inits (view_row row) passed cond after_args (view_row row2) ends) (opening r.naming k c1 x1 x2 c2 x3 x4 y b1 args inits results Q)
while_fits funcs loops s scope r at depth outer k c1 x1 x2 c2 x3 x4 y b1 b2 b3 b4 i1 b5 b6 b7 b8 d1 d2 d3 d4 d5 d6 u args inits results n row passed cond after_args n2 row2 ends at2 same has has_after is long reads typed after free free_after few few_after deep fits sees gives fits2 at3 gives2 =
    let naming = r.naming in
    let f = other_label r.other in
    let D = turn naming depth outer d1 d2 d3 d4 d5 d6 after_args row2 ends in
    let T = condition naming b3 b4 i1 b5 b6 b7 b8 u passed D in
    let Q = said b2 (row_piece naming depth row) T in
    let tail = said d3 (row_piece naming depth row2) (turn_end naming d4 d5 d6 ends) in
    let p = opening naming k c1 x1 x2 c2 x3 x4 y b1 args inits results Q in
    let R = opening_results naming k c1 x1 x2 c2 x3 x4 y b1 args inits results Q is in
    let no_types : inside forms.Types Q ≡ done = row_inside naming forms.Types refl _ row T depth b2 ∙ condition_inside forms.Types naming b3 b4 i1 b5 b6 b7 b8 u passed D refl refl ∙ turn_lacks forms.Types naming depth outer d1 d2 d3 d4 d5 d6 after_args _ row2 ends refl refl refl in
    let no_inits : inside forms.Inits Q ≡ done = row_inside naming forms.Inits refl _ row T depth b2 ∙ condition_inside forms.Inits naming b3 b4 i1 b5 b6 b7 b8 u passed D refl refl ∙ turn_lacks forms.Inits naming depth outer d1 d2 d3 d4 d5 d6 after_args _ row2 ends refl refl refl in
    let types = opening_types naming k c1 x1 x2 c2 x3 x4 y b1 args inits results Q has no_types in
    let I = opening_inits r scope k c1 x1 x2 c2 x3 x4 y b1 args inits results Q long reads no_inits in
    let S = opening_seen naming scope s f k c1 x1 x2 c2 x3 x4 y b1 args inits (arg_types args) results Q same long reads typed no_inits in
    let A : carried (inits_of p) (tys (listed_types p)) ≡ args = ap (carried (inits_of p)) types ∙ I.0 in
    let B = opening_region naming k c1 x1 x2 c2 x3 x4 y b1 args inits results Q in
    let to_do : behind ts.Do p ≡ D = opening_behind naming k c1 x1 x2 c2 x3 x4 y b1 args inits results Q ∙ row_behind naming _ row T depth b2 ∙ condition_behind naming b3 b4 i1 b5 b6 b7 b8 u passed D in
    let e1 = inside forms.Ends (said b6 (ends_piece naming passed) done) in
    let E1 : inside forms.Ends (until ts.Do p) ≡ e1 =
    opening_until naming k c1 x1 x2 c2 x3 x4 y b1 args inits results Q ∙ ap (inside forms.Ends) (row_until naming _ row T depth b2) ∙ row_inside naming forms.Ends refl _ row (until ts.Do T) depth b2
    ∙ condition_until naming b3 b4 i1 b5 b6 b7 b8 u passed D in
    let no_uses = turn_uses naming depth outer d1 d2 d3 d4 d5 d6 after_args _ row2 ends in
    let U : map use_of (lines forms.Use p) ≡ seen_in i1 u ∷ [] = ap (map use_of) (opening_uses naming k c1 x1 x2 c2 x3 x4 y b1 args inits results Q ∙ row_lines naming forms.Use refl _ row T depth b2) ∙ condition_uses naming b3 b4 i1 b5 b6 b7 b8 u passed D no_uses in
    let params = params_in (inside forms.Params D) in
    let P : params_in (inside forms.Params (behind ts.Do p)) ≡ params = ap (λ q. params_in (inside forms.Params q)) to_do in
    let P2 : args_of params ≡ after_args = turn_params naming depth outer d1 d2 d3 d4 d5 d6 after_args _ row2 ends has_after in
    let B2 : region_behind p ≡ region tail =
    opening_word naming k c1 x1 x2 c2 x3 x4 y b1 args inits results Q ∙ row_behind_word naming _ row T depth b2 ∙ condition_word naming b3 b4 i1 b5 b6 b7 b8 u passed D ∙ turn_region naming depth outer d1 d2 d3 d4 d5 d6 after_args _ row2 ends in
    let E2 : inside forms.Ends (behind ts.Do p) ≡ inside forms.Ends D = ap (inside forms.Ends) to_do in
    let w1 = (first_spot (spots ts.Condition (until ts.Do p))).at in
    let w2 = (first_spot (spots ts.Yield (behind ts.Do p))).at in
    let limits = limits_fine s k loops args (arg_types args) (inits_of p) S few deep in
    let names = args_fine s scope args (map (λ (q : Defined × Use). q.0) (inits_of p)) (same_names s scope same) S.1 free in
    let in_before = s ++ arg_values 0 args in
    let in_after = s ++ arg_values 0 after_args in
    let alike_before = alike_more in_before (scope ++ arg_values (at + 1) args) (defined_by (region Q)) (row_results (at + 1 + length args) row) (alike_more s scope (arg_values 0 args) (arg_values (at + 1) args) same (args_alike 0 (at + 1) args)) fits.defined in
    let alike_after = alike_more in_after (scope ++ arg_values at3 after_args) (defined_by (region tail)) (row_results at2 row2) (alike_more s scope (arg_values 0 after_args) (arg_values at3 after_args) same (args_alike 0 at3 after_args)) fits2.defined in
    let seen1 = ends_seen naming (scope ++ arg_values (at + 1) args ++ row_results (at + 1 + length args) row) (in_before ++ defined_by (region Q)) f passed results alike_before is gives.reads gives.typed done refl b6 in
    let seen2 = turn_seen naming (scope ++ arg_values at3 after_args ++ row_results at2 row2) (in_after ++ defined_by (region tail)) f depth outer d1 d2 d3 d4 d5 d6 after_args _ row2 ends (arg_types args) alike_after (arg_each args has) gives2.reads gives2.typed in
    let holds1 = uses_fine (in_before ++ defined_by (region Q)) w1 (seen_in i1 u ∷ []) (truth ∷ []) (sees, tt) in
    let holds2 = types_fine (in_before ++ defined_by (region Q)) (seen_in i1 u ∷ []) (truth ∷ []) (sees, tt) in
    let ops1 = fits.ops in
    let ops2 = fits2.ops in
    let labels1 = fits.labels in
    let labels2 = fits2.labels in
    let many = inits_count s args (arg_types args) (inits_of p) S in
    let many2 = params_count params after_args P2 in
    record {
      uses = uses_fine s k (inits_used (inits_of p)) (arg_types args) S.0;
      inside =
          (λ t. while_sum funcs loops s k w1 w2 (inits_of p) (A t) (types t) (R t) (B t) (B2 t) (U t) (E1 t) (P t) (args_of (P t)) (E2 t))
          ∙ (λ t. while_sum funcs loops s k w1 w2 (inits_of p) args (arg_types args) results (region Q) (region tail) (seen_in i1 u ∷ []) e1 params (P2 t) (inside forms.Ends D))
          ∙ (λ t. (listed_fine s k (inits_used (inits_of p)) (arg_types args) S.0 t ++ names t ++ limits.0 t ++ limits.1 t) ++ fits.breaks t
          ++ (holds1 t ++ holds2 t ++ ending_fine (in_before ++ defined_by (region Q)) results (record { word = w1; uses = listed_uses e1; types = listed_types e1 }) seen1.sees seen1.types t)
          ++ params_fine s scope k results params after_args same P2 after free_after few_after t ++ fits2.breaks t
          ++ ending_fine (in_after ++ defined_by (region tail)) (arg_types args) (record { word = w2; uses = listed_uses (inside forms.Ends D); types = listed_types (inside forms.Ends D) }) seen2.sees seen2.types t);
      ops = (λ t. length (op_tokens (B t)) + length (op_tokens (B2 t))) ∙ omega (arith, ops1, ops2);
      labels = (λ t. 1 + length (inits_of p) + length (P t) + block_labels (B t) + block_labels (B2 t)) ∙ omega (arith, labels1, labels2, many, many2);
    }
