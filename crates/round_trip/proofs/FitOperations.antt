-- Rows of operations that are read back break no rule, within the limits of lists, loops and results.
use Rattle.std.proofs.Common.{◌≡◌, ℕ, ◌+◌, ◌≤◌, List, [], ◌∷◌, ◌++◌, refl, ap, ◌∙◌, sym, subst, map, length, arith}
use Rattle.mlir_ir.specs.Calls.{row_calls, kind_calls}
use Rattle.mlir_ir.specs.Canonical.{Naming}
use Rattle.mlir_ir.specs.Check.{row_results}
use Rattle.mlir_ir.specs.Labels.{kind_labels, row_labels}
use Rattle.mlir_ir.specs.Limits.{arg_limit, result_limit, loop_limit}
use Rattle.mlir_ir.specs.Operations.{OpKind, inner_count, inner_labels}
use Rattle.mlir_ir.specs.Phrases.{Phrase, Line, done, line, lines}
use Rattle.mlir_ir.specs.Resolved.{tys, packs_of}
use Rattle.mlir_ir.specs.ScopeFaults.{block_breaks, packs_breaks, op_tokens, block_labels, defined_by}
use Rattle.mlir_ir.specs.Sized.{SizedOps, SizedRegions, loop_depth, inner_loops, passed_count}
use Rattle.mlir_ir.specs.Source.{Block, Packed, none, block, region, region_behind, packed, head, word, op_types}
use Rattle.mlir_ir.specs.Values.{Value, arg_values, result_values}
use Rattle.mlir_ir.specs.View.{view_row, view_kind}
use Rattle.mlir_ir.specs.declared.syntax.Form.TheVariants as forms
use Rattle.mlir_ir.specs.declared.types.IrType.{IrType}
use Rattle.mlir_ir.specs.declared.types.Pack.{Pack}
use Rattle.mlir_ir.specs.declared.types.Region.{Region', Row_of-Op, end_of-Op, more_of-Op}
use Rattle.mlir_ir.specs.declared.types.Kind.{Kind, Const, Bin, Cast, Cmp, Select, Call, If', For, While, None', Some'}
use Rattle.mlir_ir.specs.declared.types.ForParts.{ForParts'}
use Rattle.mlir_ir.specs.declared.types.WhileParts.{WhileParts'}
use Rattle.round_trip.specs.CanonicalPieces.{kind_piece, row_piece, packs_piece}
use Rattle.round_trip.specs.PiecePhrases.{said}
use Rattle.round_trip.specs.Pieces.{Piece}
use Rattle.round_trip.specs.Readable.{Reading, ReadsPack, ReadableKind, ReadableRow, PacksFit}
use Rattle.round_trip.specs.Sound.{Each}
use Rattle.round_trip.proofs.FitIfs.{BlockFits}
use Rattle.round_trip.proofs.FitKinds.{CallFits, KindFits, const_fits, bin_kind_fits, cast_kind_fits, compare_kind_fits, select_kind_fits, call_kind_fits, if_kind_fits, if_else_kind_fits, for_kind_fits, while_kind_fits}
use Rattle.round_trip.proofs.FitPacks.{packs_fine, hold_total}
use Rattle.round_trip.proofs.FitSimple.{PhraseFits}
use Rattle.round_trip.proofs.ReadBlocks.{op_block, block_whole, region_whole}
use Rattle.round_trip.proofs.ReadLists.{packs_read}
use Rattle.round_trip.proofs.ReadOperations.{kind_reads}
use Rattle.round_trip.proofs.ReadRows.{yield_block}
use Rattle.round_trip.proofs.SeenUses.{bare, Alike, alike_more, args_alike, results_alike, same_names}
use Rattle.round_trip.proofs.SoundScopes.{each_parts}

pub length_both : {A : Type 0} (xs ys : List A) → length (xs ++ ys) ≡ length xs + length ys
length_both [] ys = omega arith
length_both (x ∷ xs) ys = let more = length_both xs ys in omega (arith, more)

-- an operation before others

pub record OpFits (funcs : List Line) (loops : ℕ) (s : List Value) (what : OpKind) (packs : List Pack) (results : List IrType) (rest b : Block) : Type 0 where
  pub breaks : block_breaks funcs b loops s ≡ block_breaks funcs rest loops (s ++ result_values 0 packs results)
  pub ops : length (op_tokens b) ≡ 1 + inner_count what + length (op_tokens rest)
  pub labels : block_labels b ≡ inner_labels what + length results + block_labels rest
  pub defined : defined_by b ≡ result_values 0 packs results ++ defined_by rest

pub op_fits : (funcs : List Line) (loops : ℕ) (s scope : List Value) (i j k : ℕ) (packs : List Pack) (results : List IrType) (piece : Piece) (what : OpKind) (rest : Block) → Alike s scope → Each ReadsPack packs → PacksFit scope packs (length results) → length results ≤ result_limit
    → let p = said k piece done in tys (op_types (head p) p) ≡ results → PhraseFits funcs loops s what p → OpFits funcs loops s what packs results rest (op_block i j k packs piece rest)
op_fits funcs loops s scope i j k packs results piece what rest same is apart few types fits =
    let p = said k piece done in
    let ps : List Packed = map packed (lines forms.Pack (said j (packs_piece packs) (line forms.Kind k p done))) in
    let names : packs_of ps ≡ packs = packs_read packs is (line forms.Kind k p done) refl j in
    let own : PacksFit scope (packs_of ps) (length results) = subst (λ (xs : List Pack). PacksFit scope xs (length results)) (sym names) apart in
    let packed_fine = ap (λ (xs : List IrType). packs_breaks s (word p).at (length xs) ps) types ∙ packs_fine s scope (word p).at (length results) ps (same_names s scope same) own few in
    let first = op_tokens (region p) in
    let second = op_tokens (region_behind p) in
    let a = length_both first second in
    let b = length_both (first ++ second) (op_tokens rest) in
    let all = hold_total ps (length results) own.1 in
    let ops = fits.ops in
    let labels = fits.labels in
    record {
      breaks = λ t. fits.uses t ++ packed_fine t ++ fits.inside t ++ block_breaks funcs rest loops (s ++ result_values 0 (names t) (types t));
      ops = omega (arith, a, b, ops);
      labels = omega (arith, all, labels);
      defined = λ t. result_values 0 (names t) (types t) ++ defined_by rest;
    }

-- rows as blocks

abbrev RowBlock : Naming → ℕ → {m : _} → Row_of-Op m → Block → Type 0
RowBlock naming depth end_of-Op b = b ≡ none
RowBlock naming depth (more_of-Op packs results kind more) b =
    (i : ℕ) × (j : ℕ) × (k : ℕ) × (c : Block) × (b ≡ op_block i j k packs (kind_piece naming depth results kind) c) × RowBlock naming depth more c

row_block : (naming : Naming) (depth : ℕ) (n : _) (row : Row_of-Op n) (tok : ℕ) (rest : Phrase) → block rest ≡ none → RowBlock naming depth row (block (said tok (row_piece naming depth row) rest))
unfolding kind_piece
row_block naming depth n end_of-Op tok rest e = e
row_block naming depth n (more_of-Op packs results kind more) tok rest e =
    let w = block_whole depth tok packs (kind_piece naming depth results kind) (said _ (row_piece naming depth more) rest) in
    (w.0, w.1, w.2, _, w.3, row_block naming depth _ more _ rest e)

row_region : (naming : Naming) (depth : ℕ) (n : _) (row : Row_of-Op n) (tok : ℕ) (rest : Phrase) → region rest ≡ none → RowBlock naming depth row (region (said tok (row_piece naming depth row) rest))
unfolding kind_piece
row_region naming depth n end_of-Op tok rest e = e
row_region naming depth n (more_of-Op packs results kind more) tok rest e =
    let w = region_whole depth tok packs (kind_piece naming depth results kind) (said _ (row_piece naming depth more) rest) in
    (w.0, w.1, w.2, _, w.3, row_region naming depth _ more _ rest e)

-- rows and operations

module _ (funcs : List Line) (r : Reading) where
  mutual
    row_fits : (loops : ℕ) (s scope : List Value) (at depth : ℕ) (n : _) (row : Row_of-Op n) (b : Block) → Alike s scope → ReadableRow r scope at row → SizedOps (view_row row) → loops + loop_depth (view_row row) ≤ loop_limit → Each (CallFits funcs r) (row_calls row)
        → RowBlock r.naming depth row b → BlockFits funcs loops s at row b
    row_fits loops s scope at depth n end_of-Op b same is sized deep calls e =
        record { breaks = ap (λ (x : Block). block_breaks funcs x loops s) e; ops = ap (λ (x : Block). length (op_tokens x)) e; labels = ap block_labels e; defined = ap (λ (x : Block). bare (defined_by x)) e }
    row_fits loops s scope at depth n (more_of-Op packs results kind more) b same is sized deep calls e =
        let kl = kind_labels kind in
        let piece = kind_piece r.naming depth results kind in
        let cs = each_parts (CallFits funcs r) (kind_calls results kind) (row_calls more) calls in
        let k = kind_fits loops s scope at depth results kind same is.1 sized.1 sized.0.few_passed (omega (arith, deep)) cs.0 e.2 in
        let types = (kind_reads r scope at results kind is.1 depth e.2).types in
        let o = op_fits funcs loops s scope e.0 e.1 e.2 packs results piece (view_kind kind) e.3 same is.0 is.3 sized.0.few types k in
        let rv = result_values 0 packs results in
        let inner = alike_more s scope rv (result_values (at + kl) packs results) same (results_alike 0 (at + kl) packs results) in
        let rest = row_fits loops (s ++ rv) (scope ++ result_values (at + kl) packs results) (at + (kl + length results)) depth _ more e.3 inner is.2 sized.2 (omega (arith, deep)) cs.1 e.5 in
        let ops = rest.ops in
        let labels = rest.labels in
        let next : at + (kl + length results) ≡ at + kl + length results = omega arith in
        record {
          breaks = ap (λ (x : Block). block_breaks funcs x loops s) e.4 ∙ o.breaks ∙ rest.breaks;
          ops = ap (λ (x : Block). length (op_tokens x)) e.4 ∙ o.ops ∙ omega (arith, ops);
          labels = ap block_labels e.4 ∙ o.labels ∙ omega (arith, labels);
          defined =
              ap (λ (x : Block). bare (defined_by x)) e.4 ∙ ap bare o.defined
              ∙ alike_more rv (result_values (at + kl) packs results) (defined_by e.3) (row_results (at + (kl + length results)) more) (results_alike 0 (at + kl) packs results) rest.defined
              ∙ ap (λ (x : ℕ). bare (result_values (at + kl) packs results ++ row_results x more)) next;
        }

    pub kind_fits : (loops : ℕ) (s scope : List Value) (at depth : ℕ) (results : List IrType) (kind : Kind) → Alike s scope → ReadableKind r scope at results kind → SizedRegions (view_kind kind) → passed_count (view_kind kind) ≤ arg_limit → loops + inner_loops (view_kind kind) ≤ loop_limit
        → Each (CallFits funcs r) (kind_calls results kind) → KindFits funcs loops s r depth results kind
    kind_fits loops s scope at depth results (Const v) same is sized few deep calls = const_fits funcs loops s scope r same at depth v results is
    kind_fits loops s scope at depth results (Bin op flags a b) same is sized few deep calls = bin_kind_fits funcs loops s scope r same at depth op flags a b results is
    kind_fits loops s scope at depth results (Cast op flags a) same is sized few deep calls = cast_kind_fits funcs loops s scope r same at depth op flags a results is
    kind_fits loops s scope at depth results (Cmp pred a b) same is sized few deep calls = compare_kind_fits funcs loops s scope r same at depth pred a b results is
    kind_fits loops s scope at depth results (Select c a b) same is sized few deep calls = select_kind_fits funcs loops s scope r same at depth c a b results is
    kind_fits loops s scope at depth results (Call func uses) same is sized few deep calls = call_kind_fits funcs loops s scope r same at depth func uses results is calls.0 few
    kind_fits loops s scope at depth results (If' c (Region' shape row ends) None') same is sized few deep calls =
        let cs = each_parts (CallFits funcs r) (row_calls row) [] calls in
        if_kind_fits funcs loops s scope r same at depth c results shape row ends is.0 is.5 is.1
        (λ d t0 t1 t2 t3 ls. row_fits loops s scope at d _ row _ same is.2 sized.0 (omega (arith, deep)) cs.0 (row_block r.naming d _ row t1 _ (yield_block r.naming d ls _ t2 refl))) (record { reads = is.3; typed = is.6 }) is.7
    kind_fits loops s scope at depth results (If' c (Region' shape row ends) (Some' (Region' shape2 row2 ends2))) same is sized few deep calls =
        let cs = each_parts (CallFits funcs r) (row_calls row) (row_calls row2) calls in
        if_else_kind_fits funcs loops s scope r same at (at + row_labels row) depth c results shape row ends shape2 row2 ends2 is.0 is.5 is.1
        (λ d t0 t1 t2 t3 ls. row_fits loops s scope at d _ row _ same is.2 sized.0 (omega (arith, deep)) cs.0 (row_block r.naming d _ row t1 _ (yield_block r.naming d ls _ t2 refl))) (record { reads = is.3; typed = is.6 })
        (λ d t0 t1 t2 t3 ls. row_fits loops s scope (at + row_labels row) d _ row2 _ same is.4.0 sized.1 (omega (arith, deep)) cs.1 (row_block r.naming d _ row2 t1 _ (yield_block r.naming d ls _ t2 refl))) (record { reads = is.4.1; typed = is.7 })
    kind_fits loops s scope at depth results (For (ForParts' lower upper step iv args inits (Region' shape row ends))) same is sized few deep calls =
        let inner = alike_more s scope (arg_values 0 (iv ∷ args)) (arg_values (at + 1) (iv ∷ args)) same (args_alike 0 (at + 1) (iv ∷ args)) in
        for_kind_fits funcs loops s scope r same at depth lower upper step iv args inits results shape row ends is sized.1.few (omega (arith, deep))
        (λ d t0 t1 t2 t3 ls. row_fits (loops + 1) (s ++ arg_values 0 (iv ∷ args)) (scope ++ arg_values (at + 1) (iv ∷ args)) (at + 2 + length args) d _ row _ inner is.5 sized.2 (omega (arith, deep)) calls (row_block r.naming d _ row t1 _ (yield_block r.naming d ls _ t2 refl)))
    kind_fits loops s scope at depth results (While (WhileParts' args inits (Region' shape row passed) cond after_args (Region' shape2 row2 ends))) same is sized few deep calls =
        let cs = each_parts (CallFits funcs r) (row_calls row) (row_calls row2) calls in
        let p = at + 1 + length args in
        let to = p + row_labels row in
        let before = alike_more s scope (arg_values 0 args) (arg_values (at + 1) args) same (args_alike 0 (at + 1) args) in
        let after = alike_more s scope (arg_values 0 after_args) (arg_values to after_args) same (args_alike 0 to after_args) in
        while_kind_fits funcs loops s scope r same at depth args inits results shape row passed cond after_args shape2 row2 ends is sized.0.few sized.2.few (omega (arith, deep))
        (λ d tok rest e. row_fits (loops + 1) (s ++ arg_values 0 args) (scope ++ arg_values (at + 1) args) p d _ row _ before is.5 sized.1 (omega (arith, deep)) cs.0 (row_region r.naming d _ row tok rest e))
        (λ d tok rest e. row_fits (loops + 1) (s ++ arg_values 0 after_args) (scope ++ arg_values to after_args) (to + length after_args) d _ row2 _ after is.7 sized.3 (omega (arith, deep)) cs.1 (row_region r.naming d _ row2 tok rest e))
