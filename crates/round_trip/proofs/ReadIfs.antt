-- The regions of `scf.if` and `scf.for` as the resolver reads their canonical pieces, where it reads their operations.
use Rattle.std.proofs.Common.{◌≡◌, ℕ, ◌+◌, true, false, List, [], ◌∷◌, ◌++◌, refl, ◌∙◌, codes}
use Rattle.arith_word.specs.declared.label.Label.{Label}
use Rattle.mlir_ir.specs.Canonical.{Naming}
use Rattle.mlir_ir.specs.Check.{row_results}
use Rattle.mlir_ir.specs.Labels.{row_labels}
use Rattle.mlir_ir.specs.Operations as plain
use Rattle.mlir_ir.specs.Operations.{labels_of, inner_labels}
use Rattle.mlir_ir.specs.Phrases.{Phrase, done, token, line, inside}
use Rattle.mlir_ir.specs.Resolved.{label, labels, tys, kind_of, ops_of, values_of}
use Rattle.mlir_ir.specs.Source.{block, region, region_behind, head, op_types, use_of, listed_uses, types_in}
use Rattle.mlir_ir.specs.Values.{Value}
use Rattle.mlir_ir.specs.View.{view_row}
use Rattle.mlir_ir.specs.declared.terminal.Terminal.TheVariants as ts
use Rattle.mlir_ir.specs.declared.syntax.Form.TheVariants as forms
use Rattle.mlir_ir.specs.declared.types.IrType.{IrType}
use Rattle.mlir_ir.specs.declared.types.Region.{Region', Row_of-Op}
use Rattle.mlir_ir.specs.declared.types.Kind.{If', None', Some'}
use Rattle.round_trip.specs.CanonicalPieces.{arrow_list_piece, kind_piece, row_piece, yield_piece}
use Rattle.round_trip.specs.Flat.{other_label, other_labels, other_ops}
use Rattle.round_trip.specs.PiecePhrases.{said}
use Rattle.round_trip.specs.Readable.{Reading, ReadsLabel, ReadsLabels}
use Rattle.round_trip.specs.Sound.{Each, IsType}
use Rattle.round_trip.proofs.FlatLabels.{row_labels_stay, row_values_stay}
use Rattle.round_trip.proofs.ReadLists.{results_list_read, yield_read}
use Rattle.round_trip.proofs.ReadRows.{row_inside, PhraseRead, KindRead}
use Rattle.round_trip.proofs.ReadUses.{label_read, value_parts}

-- what stands in the braces of a region with a yield
abbrev pub braces : Naming → ℕ → ℕ → ℕ → ℕ → ℕ → {m : _} → Row_of-Op m → List Label → Phrase
braces naming depth a b c d row ends =
    token a ts.LeftBrace (codes "{") (said b (row_piece naming depth row) (said c (yield_piece naming depth ends) (token d ts.RightBrace (codes "}") done)))

-- where the operations are read, so are the values that the region gives on
pub gives_read : (r : Reading) (scope : List Value) (at depth a b c d : ℕ) (n : _) (row : Row_of-Op n) (ends : List Label) → ReadsLabels r (scope ++ row_results at row) ends
    → labels (scope ++ values_of at (other_ops r.other (view_row row))) (listed_uses (inside forms.Ends (braces r.naming depth a b c d row ends))) ≡ other_labels r.other ends
gives_read r scope at depth a b c d n row ends is =
    let tail = said c (yield_piece r.naming depth ends) (token d ts.RightBrace (codes "}") done) in
    (λ i. labels (scope ++ row_values_stay r.other n row at i) (listed_uses (row_inside r.naming forms.Ends refl n row tail depth b i)))
    ∙ yield_read r.naming (scope ++ row_results at row) (other_label r.other) depth ends is (token d ts.RightBrace (codes "}") done) refl c

-- `scf.if`

if_alone : (funcs : List (List ℕ)) (scope : List Value) (at k i : ℕ) (u : Phrase) (x y : ℕ) (results : List IrType) (parts : Phrase)
    → let p = token k ts.If (codes "scf.if") (line forms.Use i u (said x (arrow_list_piece results) (line forms.Region y parts done))) in
    let first = ops_of funcs (block parts) scope at in
    kind_of funcs scope at (head p) p (ops_of funcs (region p)) (ops_of funcs (region_behind p))
    ≡ plain.If (label scope (use_of (record { at = i; parts = u }))) first (labels (scope ++ values_of at first) (listed_uses (inside forms.Ends parts))) false plain.nil []
if_alone funcs scope at k i u x y [] parts = refl
if_alone funcs scope at k i u x y (ty ∷ more) parts = refl

if_both : (funcs : List (List ℕ)) (scope : List Value) (at k i : ℕ) (u : Phrase) (x y z w : ℕ) (results : List IrType) (parts others : Phrase)
    → let p = token k ts.If (codes "scf.if") (line forms.Use i u (said x (arrow_list_piece results) (line forms.Region y parts (token z ts.Else (codes "else") (line forms.Region w others done))))) in
    let first = ops_of funcs (block parts) scope at in
    let second = ops_of funcs (block others) scope (at + labels_of first) in
    kind_of funcs scope at (head p) p (ops_of funcs (region p)) (ops_of funcs (region_behind p))
    ≡ plain.If (label scope (use_of (record { at = i; parts = u }))) first (labels (scope ++ values_of at first) (listed_uses (inside forms.Ends parts))) true second (labels (scope ++ values_of (at + labels_of first) second) (listed_uses (inside forms.Ends others)))
if_both funcs scope at k i u x y z w [] parts others = refl
if_both funcs scope at k i u x y z w (ty ∷ more) parts others = refl

pub if_types : (k i : ℕ) (u : Phrase) (x y : ℕ) (results : List IrType) (parts q : Phrase) → Each IsType results → inside forms.Results q ≡ done
    → tys (op_types ts.If (token k ts.If (codes "scf.if") (line forms.Use i u (said x (arrow_list_piece results) (line forms.Region y parts q))))) ≡ results
if_types k i u x y [] parts q is e = λ j. tys (types_in (e j) ++ types_in (inside forms.Types (e j)))
if_types k i u x y (ty ∷ more) parts q is e = results_list_read _ (ty ∷ more) is

abbrev pub BlockRead : Reading → List Value → ℕ → {m : _} → Row_of-Op m → Type 0
BlockRead r scope at row = (depth a b c d : ℕ) (ends : List Label) → ops_of r.naming.funcs (block (braces r.naming depth a b c d row ends)) scope at ≡ other_ops r.other (view_row row)

pub if_alone_read : (r : Reading) (scope : List Value) (at depth k i j x y a b d e : ℕ) (c : Label) (results : List IrType) (shape : _) (row : Row_of-Op _) (ends : List Label)
    → (rc : ReadsLabel r scope c) → Each IsType results → BlockRead r scope at row → ReadsLabels r (scope ++ row_results at row) ends
    → PhraseRead r scope at results (If' c (Region' shape row ends) None') (token k ts.If (codes "scf.if") (line forms.Use i (value_parts j rc.value) (said x (arrow_list_piece results) (line forms.Region y (braces r.naming depth a b d e row ends) done))))
if_alone_read r scope at depth k i j x y a b d e c results shape row ends rc is reads gives =
    let parts = braces r.naming depth a b d e row ends in
    record {
      types = if_types k i (value_parts j rc.value) x y results parts done is refl;
      does =
          if_alone r.naming.funcs scope at k i (value_parts j rc.value) x y results parts
          ∙ (λ t. plain.If (label_read r.naming scope c (other_label r.other c) rc j i t) (reads depth a b d e ends t) (labels (scope ++ values_of at (reads depth a b d e ends t)) (listed_uses (inside forms.Ends parts))) false plain.nil [])
          ∙ (λ t. plain.If (other_label r.other c) (other_ops r.other (view_row row)) (gives_read r scope at depth a b d e _ row ends gives t) false plain.nil []);
    }

pub if_both_read : (r : Reading) (scope : List Value) (at depth k i j x y z w a b d e a2 b2 d2 e2 : ℕ) (c : Label) (results : List IrType) (shape : _) (row : Row_of-Op _) (ends : List Label) (shape2 : _) (row2 : Row_of-Op _) (ends2 : List Label)
    → (rc : ReadsLabel r scope c) → Each IsType results → BlockRead r scope at row → ReadsLabels r (scope ++ row_results at row) ends
    → BlockRead r scope (at + row_labels row) row2 → ReadsLabels r (scope ++ row_results (at + row_labels row) row2) ends2
    → PhraseRead r scope at results (If' c (Region' shape row ends) (Some' (Region' shape2 row2 ends2)))
    (token k ts.If (codes "scf.if") (line forms.Use i (value_parts j rc.value) (said x (arrow_list_piece results) (line forms.Region y (braces r.naming depth a b d e row ends) (token z ts.Else (codes "else") (line forms.Region w (braces r.naming depth a2 b2 d2 e2 row2 ends2) done))))))
if_both_read r scope at depth k i j x y z w a b d e a2 b2 d2 e2 c results shape row ends shape2 row2 ends2 rc is reads gives reads2 gives2 =
    let parts = braces r.naming depth a b d e row ends in
    let others = braces r.naming depth a2 b2 d2 e2 row2 ends2 in
    let F = other_ops r.other (view_row row) in
    let first = ops_of r.naming.funcs (block parts) scope at in
    record {
      types = if_types k i (value_parts j rc.value) x y results parts (token z ts.Else (codes "else") (line forms.Region w others done)) is refl;
      does =
          if_both r.naming.funcs scope at k i (value_parts j rc.value) x y z w results parts others
          ∙ (λ t. plain.If (label_read r.naming scope c (other_label r.other c) rc j i t) (reads depth a b d e ends t) (labels (scope ++ values_of at (reads depth a b d e ends t)) (listed_uses (inside forms.Ends parts))) true
          (ops_of r.naming.funcs (block others) scope (at + labels_of (reads depth a b d e ends t))) (labels (scope ++ values_of (at + labels_of (reads depth a b d e ends t)) (ops_of r.naming.funcs (block others) scope (at + labels_of (reads depth a b d e ends t)))) (listed_uses (inside forms.Ends others))))
          ∙ (λ t. plain.If (other_label r.other c) F (gives_read r scope at depth a b d e _ row ends gives t) true
          (ops_of r.naming.funcs (block others) scope (at + row_labels_stay r.other _ row t)) (labels (scope ++ values_of (at + row_labels_stay r.other _ row t) (ops_of r.naming.funcs (block others) scope (at + row_labels_stay r.other _ row t))) (listed_uses (inside forms.Ends others))))
          ∙ (λ t. plain.If (other_label r.other c) F (other_labels r.other ends) true
          (reads2 depth a2 b2 d2 e2 ends2 t) (labels (scope ++ values_of (at + row_labels row) (reads2 depth a2 b2 d2 e2 ends2 t)) (listed_uses (inside forms.Ends others))))
          ∙ (λ t. plain.If (other_label r.other c) F (other_labels r.other ends) true (other_ops r.other (view_row row2)) (gives_read r scope (at + row_labels row) depth a2 b2 d2 e2 _ row2 ends2 gives2 t));
    }

pub if_kind : (r : Reading) (scope : List Value) (at depth : ℕ) (c : Label) (results : List IrType) (shape : _) (row : Row_of-Op _) (ends : List Label)
    → ReadsLabel r scope c → Each IsType results → BlockRead r scope at row → ReadsLabels r (scope ++ row_results at row) ends
    → KindRead r scope at results (If' c (Region' shape row ends) None') (kind_piece r.naming depth results (If' c (Region' shape row ends) None'))
unfolding kind_piece
if_kind r scope at depth c results shape row ends rc is reads gives k =
    rw rc.found (if_alone_read r scope at _ k _ _ _ _ _ _ _ _ c results shape row ends rc is reads gives)

pub if_else_kind : (r : Reading) (scope : List Value) (at depth : ℕ) (c : Label) (results : List IrType) (shape : _) (row : Row_of-Op _) (ends : List Label) (shape2 : _) (row2 : Row_of-Op _) (ends2 : List Label)
    → ReadsLabel r scope c → Each IsType results → BlockRead r scope at row → ReadsLabels r (scope ++ row_results at row) ends
    → BlockRead r scope (at + row_labels row) row2 → ReadsLabels r (scope ++ row_results (at + row_labels row) row2) ends2
    → KindRead r scope at results (If' c (Region' shape row ends) (Some' (Region' shape2 row2 ends2))) (kind_piece r.naming depth results (If' c (Region' shape row ends) (Some' (Region' shape2 row2 ends2))))
unfolding kind_piece
if_else_kind r scope at depth c results shape row ends shape2 row2 ends2 rc is reads gives reads2 gives2 k =
    rw rc.found (if_both_read r scope at _ k _ _ _ _ _ _ _ _ _ _ _ _ _ _ c results shape row ends shape2 row2 ends2 rc is reads gives reads2 gives2)
