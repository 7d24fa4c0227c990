-- An `scf.if` whose regions break no rule breaks none.
use Rattle.std.proofs.Common.{◌≡◌, ℕ, true, false, ◌+◌, List, [], ◌∷◌, ◌++◌, refl, ap, ◌∙◌, codes, length, arith}
use Rattle.arith_word.specs.declared.label.Label.{Label}
use Rattle.mlir_ir.specs.Canonical.{Naming}
use Rattle.mlir_ir.specs.Check.{row_results}
use Rattle.mlir_ir.specs.Operations as plain
use Rattle.mlir_ir.specs.Operations.{count_of, labels_of}
use Rattle.mlir_ir.specs.Phrases.{Phrase, Line, done, token, line}
use Rattle.mlir_ir.specs.Rules.{truth}
use Rattle.mlir_ir.specs.ScopeFaults.{block_breaks, type_breaks, region_ending, op_tokens, block_labels, defined_by}
use Rattle.mlir_ir.specs.Source.{Block, Use, block}
use Rattle.mlir_ir.specs.Values.{Value}
use Rattle.mlir_ir.specs.View.{view_row}
use Rattle.mlir_ir.specs.declared.terminal.Terminal.TheVariants as ts
use Rattle.mlir_ir.specs.declared.syntax.Form.TheVariants as forms
use Rattle.mlir_ir.specs.declared.types.IrType.{IrType}
use Rattle.mlir_ir.specs.declared.types.Region.{Row_of-Op}
use Rattle.round_trip.specs.CanonicalPieces.{arrow_list_piece}
use Rattle.round_trip.specs.PiecePhrases.{said}
use Rattle.round_trip.specs.ReadUses.{ReadsAs}
use Rattle.round_trip.specs.Sound.{Each, IsType}
use Rattle.round_trip.proofs.FitSimple.{PhraseFits, seen_in}
use Rattle.round_trip.proofs.ReadIfs.{braces, if_types}
use Rattle.round_trip.proofs.SeenLists.{Typed, region_fine}
use Rattle.round_trip.proofs.SeenUses.{Sees, Alike, alike_more, each_uses, types_fine}

-- a block of a row's operations, of which the first begins with label `at`: it breaks no rule, and has as many operations and labels, and like results
pub record BlockFits (funcs : List Line) (loops : ℕ) (s : List Value) (at : ℕ) {n : _} (row : Row_of-Op n) (b : Block) : Type 0 where
  pub breaks : block_breaks funcs b loops s ≡ []
  pub ops : length (op_tokens b) ≡ count_of (view_row row)
  pub labels : block_labels b ≡ labels_of (view_row row)
  pub defined : Alike (defined_by b) (row_results at row)

-- the values that a region gives on are found behind its operations, with these types
pub record GivesOn (naming : Naming) (scope : List Value) (f : Label → Label) (at : ℕ) {n : _} (row : Row_of-Op n) (ends : List Label) (wanted : List IrType) : Type 0 where
  pub reads : Each (λ l. ReadsAs naming (scope ++ row_results at row) l (f l)) ends
  pub typed : Typed naming wanted ends

-- a row in braces, wherever their tokens are
abbrev pub ArmFits : List Line → ℕ → List Value → Naming → ℕ → {m : _} → Row_of-Op m → Type 0
ArmFits funcs loops s naming at row = (depth a b c d : ℕ) (ends : List Label) → BlockFits funcs loops s at row (block (braces naming depth a b c d row ends))

both_labels : (a b c d : ℕ) → a ≡ c → b ≡ d → 0 + a + b ≡ c + d
both_labels a b c d e g = omega (arith, e, g)

module _ (funcs : List Line) (loops : ℕ) (s scope : List Value) (naming : Naming) (f : Label → Label) (same : Alike s scope) where
  -- a region in braces with these results
  arm_fine : (at depth a b d e word : ℕ) (n : _) (row : Row_of-Op n) (ends : List Label) (results : List IrType) → Each IsType results → BlockFits funcs loops s at row (block (braces naming depth a b d e row ends)) → GivesOn naming scope f at row ends results
      → region_ending (s ++ defined_by (block (braces naming depth a b d e row ends))) word results (braces naming depth a b d e row ends) ≡ []
  arm_fine at depth a b d e word n row ends results is fits gives =
      let b1 = block (braces naming depth a b d e row ends) in
      region_fine naming (scope ++ row_results at row) (s ++ defined_by b1) f depth a b d e word n row ends results (alike_more s scope (defined_by b1) (row_results at row) same fits.defined) is gives.reads gives.typed

  pub if_alone_fits : (at depth k i x y a b d e : ℕ) (u : Phrase) (c : Label) (results : List IrType) (n : _) (row : Row_of-Op n) (ends : List Label) → Sees s (seen_in i u) truth → Each IsType results
      → ArmFits funcs loops s naming at row → GivesOn naming scope f at row ends results → results ≡ []
      → PhraseFits funcs loops s (plain.If c (view_row row) ends false plain.nil []) (token k ts.If (codes "scf.if") (line forms.Use i u (said x (arrow_list_piece results) (line forms.Region y (braces naming depth a b d e row ends) done))))
  if_alone_fits at depth k i x y a b d e u c [] n row ends sees is arm gives empty =
      let fits = arm depth a b d e ends in
      let ops = fits.ops in
      let labels = fits.labels in
      record {
        uses = each_uses s k truth (seen_in i u ∷ []) (sees, tt);
        inside = λ q. types_fine s (seen_in i u ∷ []) (truth ∷ []) (sees, tt) q ++ fits.breaks q ++ arm_fine at depth a b d e k n row ends [] is fits gives q ++ [] ++ [];
        ops = omega (arith, ops);
        labels = omega (arith, labels);
      }
  if_alone_fits at depth k i x y a b d e u c (ty ∷ more) n row ends sees is arm gives empty = cc

  -- the parts of an `scf.if` with both regions, whose results are found in the phrase
  if_sum : (at at2 depth k a b d e a2 b2 d2 e2 : ℕ) (u : Use) (results found : List IrType) (n : _) (row : Row_of-Op n) (ends : List Label) (n2 : _) (row2 : Row_of-Op n2) (ends2 : List Label) → Sees s u truth → Each IsType results → found ≡ results
      → BlockFits funcs loops s at row (block (braces naming depth a b d e row ends)) → GivesOn naming scope f at row ends results
      → BlockFits funcs loops s at2 row2 (block (braces naming depth a2 b2 d2 e2 row2 ends2)) → GivesOn naming scope f at2 row2 ends2 results
      → let parts = braces naming depth a b d e row ends in
      let others = braces naming depth a2 b2 d2 e2 row2 ends2 in
      (type_breaks s (u ∷ []) (truth ∷ []) ++ block_breaks funcs (block parts) loops s ++ region_ending (s ++ defined_by (block parts)) k found parts ++ block_breaks funcs (block others) loops s ++ region_ending (s ++ defined_by (block others)) k found others) ≡ []
  if_sum at at2 depth k a b d e a2 b2 d2 e2 u results found n row ends n2 row2 ends2 sees is there fits gives fits2 gives2 =
      let parts = braces naming depth a b d e row ends in
      let others = braces naming depth a2 b2 d2 e2 row2 ends2 in
      let first = ap (λ (w : List IrType). region_ending (s ++ defined_by (block parts)) k w parts) there ∙ arm_fine at depth a b d e k n row ends results is fits gives in
      let second = ap (λ (w : List IrType). region_ending (s ++ defined_by (block others)) k w others) there ∙ arm_fine at2 depth a2 b2 d2 e2 k n2 row2 ends2 results is fits2 gives2 in
      λ q. types_fine s (u ∷ []) (truth ∷ []) (sees, tt) q ++ fits.breaks q ++ first q ++ fits2.breaks q ++ second q

  pub if_both_fits : (at at2 depth k i x y z w a b d e a2 b2 d2 e2 : ℕ) (u : Phrase) (c : Label) (results : List IrType) (n : _) (row : Row_of-Op n) (ends : List Label) (n2 : _) (row2 : Row_of-Op n2) (ends2 : List Label) → Sees s (seen_in i u) truth → Each IsType results
      → ArmFits funcs loops s naming at row → GivesOn naming scope f at row ends results
      → ArmFits funcs loops s naming at2 row2 → GivesOn naming scope f at2 row2 ends2 results
      → PhraseFits funcs loops s (plain.If c (view_row row) ends true (view_row row2) ends2)
      (token k ts.If (codes "scf.if") (line forms.Use i u (said x (arrow_list_piece results) (line forms.Region y (braces naming depth a b d e row ends) (token z ts.Else (codes "else") (line forms.Region w (braces naming depth a2 b2 d2 e2 row2 ends2) done))))))
  if_both_fits at at2 depth k i x y z w a b d e a2 b2 d2 e2 u c [] n row ends n2 row2 ends2 sees is arm gives arm2 gives2 =
      let fits = arm depth a b d e ends in
      let fits2 = arm2 depth a2 b2 d2 e2 ends2 in
      record {
        uses = each_uses s k truth (seen_in i u ∷ []) (sees, tt);
        inside = if_sum at at2 depth k a b d e a2 b2 d2 e2 (seen_in i u) [] [] n row ends n2 row2 ends2 sees is refl fits gives fits2 gives2;
        ops = λ q. fits.ops q + fits2.ops q;
        labels = both_labels (block_labels (block (braces naming depth a b d e row ends))) (block_labels (block (braces naming depth a2 b2 d2 e2 row2 ends2))) _ _ fits.labels fits2.labels;
      }
  if_both_fits at at2 depth k i x y z w a b d e a2 b2 d2 e2 u c (ty ∷ more) n row ends n2 row2 ends2 sees is arm gives arm2 gives2 =
      let fits = arm depth a b d e ends in
      let fits2 = arm2 depth a2 b2 d2 e2 ends2 in
      let parts = braces naming depth a b d e row ends in
      let others = braces naming depth a2 b2 d2 e2 row2 ends2 in
      record {
        uses = each_uses s k truth (seen_in i u ∷ []) (sees, tt);
        inside = if_sum at at2 depth k a b d e a2 b2 d2 e2 (seen_in i u) (ty ∷ more) _ n row ends n2 row2 ends2 sees is (if_types k i u x y (ty ∷ more) parts (token z ts.Else (codes "else") (line forms.Region w others done)) is refl) fits gives fits2 gives2;
        ops = λ q. fits.ops q + fits2.ops q;
        labels = both_labels (block_labels (block parts)) (block_labels (block others)) _ _ fits.labels fits2.labels;
      }
