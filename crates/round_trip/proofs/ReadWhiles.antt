-- `scf.while` as the resolver reads its canonical piece, where it reads the operations of its regions.
use Rattle.std.proofs.Common.{◌≡◌, ℕ, false, List, [], ◌∷◌, refl, ap, ◌∙◌, codes, map, length, arith}
use Rattle.arith_word.specs.declared.label.Label.{Label}
use Rattle.mlir_ir.specs.Canonical.{Naming}
use Rattle.mlir_ir.specs.Phrases.{Phrase, done, token, line, lines, inside, until, behind}
use Rattle.mlir_ir.specs.Resolved.{labels, tys, args_of}
use Rattle.mlir_ir.specs.Rules.{arg_types}
use Rattle.mlir_ir.specs.Source.{region_behind, none, listed_uses, listed_types, types_in, inits_of, result_types, params_in, region}
use Rattle.mlir_ir.specs.Values.{Value}
use Rattle.mlir_ir.specs.declared.terminal.Terminal.TheVariants as ts
use Rattle.mlir_ir.specs.declared.syntax.Form.TheVariants as forms
use Rattle.mlir_ir.specs.declared.types.Arg.{Arg}
use Rattle.mlir_ir.specs.declared.types.IrType.{IrType}
use Rattle.mlir_ir.specs.declared.types.Region.{Row_of-Op}
use Rattle.round_trip.specs.CanonicalPieces.{while_inits_piece, types_piece, bracketed_piece, ends_piece, block_piece, row_piece}
use Rattle.round_trip.specs.Flat.{other_label, other_labels}
use Rattle.round_trip.specs.PiecePhrases.{said}
use Rattle.round_trip.specs.Readable.{Reading, ReadsLabels, HasTypes}
use Rattle.round_trip.specs.Sound.{Each, IsType}
use Rattle.round_trip.proofs.ReadLists.{results_list_read, joined_types, inits_read, args_read, ends_read, InitsRead}
use Rattle.round_trip.proofs.ReadRows.{row_inside}
use Rattle.mlir_ir.specs.GrammarNumbers.{same_form}
use Rattle.mlir_ir.specs.declared.syntax.Form.{Form}

-- behind the operations of the `do` region, the region itself, what stands behind the operations of the first region, and the whole

abbrev pub turn_end : Naming → ℕ → ℕ → ℕ → List Label → Phrase
turn_end naming d4 d5 d6 ends = token d4 ts.Yield (codes "scf.yield") (said d5 (ends_piece naming ends) (token d6 ts.RightBrace (codes "}") done))

abbrev pub turn : Naming → ℕ → ℕ → ℕ → ℕ → ℕ → ℕ → ℕ → ℕ → List Arg → {m : _} → Row_of-Op m → List Label → Phrase
turn naming depth outer d1 d2 d3 d4 d5 d6 after_args row2 ends =
    token d1 ts.LeftBrace (codes "{") (said d2 (block_piece outer after_args) (said d3 (row_piece naming depth row2) (turn_end naming d4 d5 d6 ends)))

abbrev pub condition : Naming → ℕ → ℕ → ℕ → ℕ → ℕ → ℕ → ℕ → Phrase → List Label → Phrase → Phrase
condition naming b3 b4 i1 b5 b6 b7 b8 u passed rest =
    token b3 ts.Condition (codes "scf.condition") (token b4 ts.LeftParen (codes "(") (line forms.Use i1 u (token b5 ts.RightParen (codes ")") (said b6 (ends_piece naming passed) (token b7 ts.RightBrace (codes "}") (token b8 ts.Do (codes "do") rest))))))

abbrev pub opening : Naming → ℕ → ℕ → ℕ → ℕ → ℕ → ℕ → ℕ → ℕ → ℕ → List Arg → List Label → List IrType → Phrase → Phrase
opening naming k c1 x1 x2 c2 x3 x4 y b1 args inits results rest =
    token k ts.While (codes "scf.while") (said c1 (while_inits_piece naming args inits) (token x1 ts.Colon (codes ":") (token x2 ts.LeftParen (codes "(") (said c2 (types_piece (map (λ (arg : Arg). arg.ty) args)) (token x3 ts.RightParen (codes ")") (token x4 ts.Arrow (codes "->")
    (line forms.Results y (said y (bracketed_piece (types_piece results)) done) (token b1 ts.LeftBrace (codes "{") rest))))))))

-- lines that aren't there

pub turn_end_lacks : (f : Form) (naming : Naming) (d4 d5 d6 : ℕ) (ends : List Label) → same_form f forms.Ends ≡ false → inside f (turn_end naming d4 d5 d6 ends) ≡ done
turn_end_lacks f naming d4 d5 d6 [] g = refl
turn_end_lacks f naming d4 d5 d6 (l ∷ ls) g = rw g refl

pub turn_lacks : (f : Form) (naming : Naming) (depth outer d1 d2 d3 d4 d5 d6 : ℕ) (after_args : List Arg) (n : _) (row2 : Row_of-Op n) (ends : List Label) → same_form f forms.Op ≡ false → same_form f forms.Ends ≡ false → same_form f forms.Params ≡ false
    → inside f (turn naming depth outer d1 d2 d3 d4 d5 d6 after_args row2 ends) ≡ done
turn_lacks f naming depth outer d1 d2 d3 d4 d5 d6 [] n row2 ends e g h = row_inside naming f e n row2 _ depth d3 ∙ turn_end_lacks f naming d4 d5 d6 ends g
turn_lacks f naming depth outer d1 d2 d3 d4 d5 d6 (arg ∷ args) n row2 ends e g h = rw h (row_inside naming f e n row2 _ depth d3 ∙ turn_end_lacks f naming d4 d5 d6 ends g)

pub condition_inside : (f : Form) (naming : Naming) (b3 b4 i1 b5 b6 b7 b8 : ℕ) (u : Phrase) (passed : List Label) (rest : Phrase) → same_form f forms.Use ≡ false → same_form f forms.Ends ≡ false
    → inside f (condition naming b3 b4 i1 b5 b6 b7 b8 u passed rest) ≡ inside f rest
condition_inside f naming b3 b4 i1 b5 b6 b7 b8 u [] rest e g = rw e refl
condition_inside f naming b3 b4 i1 b5 b6 b7 b8 u (l ∷ ls) rest e g = rw (e, g) refl

pub condition_behind : (naming : Naming) (b3 b4 i1 b5 b6 b7 b8 : ℕ) (u : Phrase) (passed : List Label) (rest : Phrase) → behind ts.Do (condition naming b3 b4 i1 b5 b6 b7 b8 u passed rest) ≡ rest
condition_behind naming b3 b4 i1 b5 b6 b7 b8 u [] rest = refl
condition_behind naming b3 b4 i1 b5 b6 b7 b8 u (l ∷ ls) rest = refl

pub condition_word : (naming : Naming) (b3 b4 i1 b5 b6 b7 b8 : ℕ) (u : Phrase) (passed : List Label) (rest : Phrase) → region_behind (condition naming b3 b4 i1 b5 b6 b7 b8 u passed rest) ≡ region rest
condition_word naming b3 b4 i1 b5 b6 b7 b8 u [] rest = refl
condition_word naming b3 b4 i1 b5 b6 b7 b8 u (l ∷ ls) rest = refl

pub condition_none : (naming : Naming) (b3 b4 i1 b5 b6 b7 b8 : ℕ) (u : Phrase) (passed : List Label) (rest : Phrase) → region (condition naming b3 b4 i1 b5 b6 b7 b8 u passed rest) ≡ none
condition_none naming b3 b4 i1 b5 b6 b7 b8 u [] rest = refl
condition_none naming b3 b4 i1 b5 b6 b7 b8 u (l ∷ ls) rest = refl

pub condition_until : (naming : Naming) (b3 b4 i1 b5 b6 b7 b8 : ℕ) (u : Phrase) (passed : List Label) (rest : Phrase)
    → inside forms.Ends (until ts.Do (condition naming b3 b4 i1 b5 b6 b7 b8 u passed rest)) ≡ inside forms.Ends (said b6 (ends_piece naming passed) done)
condition_until naming b3 b4 i1 b5 b6 b7 b8 u [] rest = refl
condition_until naming b3 b4 i1 b5 b6 b7 b8 u (l ∷ ls) rest = refl

pub turn_end_none : (naming : Naming) (d4 d5 d6 : ℕ) (ends : List Label) → region (turn_end naming d4 d5 d6 ends) ≡ none
turn_end_none naming d4 d5 d6 [] = refl
turn_end_none naming d4 d5 d6 (l ∷ ls) = refl

-- what is found behind the opening

pub opening_region : (naming : Naming) (k c1 x1 x2 c2 x3 x4 y b1 : ℕ) (args : List Arg) (inits : List Label) (results : List IrType) (rest : Phrase)
    → region (opening naming k c1 x1 x2 c2 x3 x4 y b1 args inits results rest) ≡ region rest
opening_region naming k c1 x1 x2 c2 x3 x4 y b1 [] inits results rest = refl
opening_region naming k c1 x1 x2 c2 x3 x4 y b1 (arg ∷ args) inits results rest = refl

pub opening_word : (naming : Naming) (k c1 x1 x2 c2 x3 x4 y b1 : ℕ) (args : List Arg) (inits : List Label) (results : List IrType) (rest : Phrase)
    → region_behind (opening naming k c1 x1 x2 c2 x3 x4 y b1 args inits results rest) ≡ region_behind rest
opening_word naming k c1 x1 x2 c2 x3 x4 y b1 [] inits results rest = refl
opening_word naming k c1 x1 x2 c2 x3 x4 y b1 (arg ∷ args) inits results rest = refl

pub opening_behind : (naming : Naming) (k c1 x1 x2 c2 x3 x4 y b1 : ℕ) (args : List Arg) (inits : List Label) (results : List IrType) (rest : Phrase)
    → behind ts.Do (opening naming k c1 x1 x2 c2 x3 x4 y b1 args inits results rest) ≡ behind ts.Do rest
opening_behind naming k c1 x1 x2 c2 x3 x4 y b1 [] inits results rest = refl
opening_behind naming k c1 x1 x2 c2 x3 x4 y b1 (arg ∷ args) inits results rest = refl

pub opening_until : (naming : Naming) (k c1 x1 x2 c2 x3 x4 y b1 : ℕ) (args : List Arg) (inits : List Label) (results : List IrType) (rest : Phrase)
    → inside forms.Ends (until ts.Do (opening naming k c1 x1 x2 c2 x3 x4 y b1 args inits results rest)) ≡ inside forms.Ends (until ts.Do rest)
opening_until naming k c1 x1 x2 c2 x3 x4 y b1 [] inits results rest = refl
opening_until naming k c1 x1 x2 c2 x3 x4 y b1 (arg ∷ args) inits results rest = refl

pub opening_uses : (naming : Naming) (k c1 x1 x2 c2 x3 x4 y b1 : ℕ) (args : List Arg) (inits : List Label) (results : List IrType) (rest : Phrase)
    → lines forms.Use (opening naming k c1 x1 x2 c2 x3 x4 y b1 args inits results rest) ≡ lines forms.Use rest
opening_uses naming k c1 x1 x2 c2 x3 x4 y b1 [] inits results rest = refl
opening_uses naming k c1 x1 x2 c2 x3 x4 y b1 (arg ∷ args) inits results rest = refl

pub opening_results : (naming : Naming) (k c1 x1 x2 c2 x3 x4 y b1 : ℕ) (args : List Arg) (inits : List Label) (results : List IrType) (rest : Phrase) → Each IsType results
    → tys (result_types (opening naming k c1 x1 x2 c2 x3 x4 y b1 args inits results rest)) ≡ results
opening_results naming k c1 x1 x2 c2 x3 x4 y b1 [] inits results rest is = results_list_read _ results is
opening_results naming k c1 x1 x2 c2 x3 x4 y b1 (arg ∷ args) inits results rest is = results_list_read _ results is

pub arg_each : (args : List Arg) → HasTypes args → Each IsType (arg_types args)
arg_each [] is = tt
arg_each (arg ∷ args) is = (is.0, arg_each args is.1)

pub opening_types : (naming : Naming) (k c1 x1 x2 c2 x3 x4 y b1 : ℕ) (args : List Arg) (inits : List Label) (results : List IrType) (rest : Phrase) → HasTypes args → inside forms.Types rest ≡ done
    → tys (listed_types (opening naming k c1 x1 x2 c2 x3 x4 y b1 args inits results rest)) ≡ arg_types args
opening_types naming k c1 x1 x2 c2 x3 x4 y b1 [] inits results rest is e = ap (λ p. tys (types_in p)) e
opening_types naming k c1 x1 x2 c2 x3 x4 y b1 (arg ∷ args) inits results rest is e = joined_types _ (arg_types (arg ∷ args)) (arg_each (arg ∷ args) is)

pub opening_inits : (r : Reading) (scope : List Value) (k c1 x1 x2 c2 x3 x4 y b1 : ℕ) (args : List Arg) (inits : List Label) (results : List IrType) (rest : Phrase) → length args ≡ length inits → ReadsLabels r scope inits → inside forms.Inits rest ≡ done
    → InitsRead scope (other_label r.other) args inits (inits_of (opening r.naming k c1 x1 x2 c2 x3 x4 y b1 args inits results rest))
opening_inits r scope k c1 x1 x2 c2 x3 x4 y b1 [] [] results rest long is e = rw e (refl, refl)
opening_inits r scope k c1 x1 x2 c2 x3 x4 y b1 [] (l ∷ ls) results rest long is e = absurd (omega arith)
opening_inits r scope k c1 x1 x2 c2 x3 x4 y b1 (arg ∷ args) inits results rest long is e = inits_read r.naming scope (other_label r.other) (arg ∷ args) inits long is _

-- what is found in the `do` region

pub turn_region : (naming : Naming) (depth outer d1 d2 d3 d4 d5 d6 : ℕ) (after_args : List Arg) (n : _) (row2 : Row_of-Op n) (ends : List Label)
    → region (turn naming depth outer d1 d2 d3 d4 d5 d6 after_args row2 ends) ≡ region (said d3 (row_piece naming depth row2) (turn_end naming d4 d5 d6 ends))
turn_region naming depth outer d1 d2 d3 d4 d5 d6 [] n row2 ends = refl
turn_region naming depth outer d1 d2 d3 d4 d5 d6 (arg ∷ args) n row2 ends = refl

pub turn_params : (naming : Naming) (depth outer d1 d2 d3 d4 d5 d6 : ℕ) (after_args : List Arg) (n : _) (row2 : Row_of-Op n) (ends : List Label) → HasTypes after_args
    → args_of (params_in (inside forms.Params (turn naming depth outer d1 d2 d3 d4 d5 d6 after_args row2 ends))) ≡ after_args
turn_params naming depth outer d1 d2 d3 d4 d5 d6 [] n row2 ends is = ap (λ p. args_of (params_in p)) (row_inside naming forms.Params refl n row2 _ depth d3 ∙ turn_end_lacks forms.Params naming d4 d5 d6 ends refl)
turn_params naming depth outer d1 d2 d3 d4 d5 d6 (arg ∷ args) n row2 ends is = args_read (arg ∷ args) is _

pub turn_gives : (r : Reading) (S : List Value) (depth outer d1 d2 d3 d4 d5 d6 : ℕ) (after_args : List Arg) (n : _) (row2 : Row_of-Op n) (ends : List Label) → ReadsLabels r S ends
    → labels S (listed_uses (inside forms.Ends (turn r.naming depth outer d1 d2 d3 d4 d5 d6 after_args row2 ends))) ≡ other_labels r.other ends
turn_gives r S depth outer d1 d2 d3 d4 d5 d6 [] n row2 ends is =
    ap (λ p. labels S (listed_uses p)) (row_inside r.naming forms.Ends refl n row2 (turn_end r.naming d4 d5 d6 ends) depth d3) ∙ ends_read r.naming S (other_label r.other) ends is (token d6 ts.RightBrace (codes "}") done) refl d5
turn_gives r S depth outer d1 d2 d3 d4 d5 d6 (arg ∷ args) n row2 ends is =
    ap (λ p. labels S (listed_uses p)) (row_inside r.naming forms.Ends refl n row2 (turn_end r.naming d4 d5 d6 ends) depth d3) ∙ ends_read r.naming S (other_label r.other) ends is (token d6 ts.RightBrace (codes "}") done) refl d5
