-- All operations as the resolver reads their canonical pieces.
use Rattle.std.proofs.Common.{◌≡◌, ℕ, ◌+◌, List, ◌∷◌, ◌++◌, refl, ap, ◌∙◌, length}
use Rattle.mlir_ir.specs.Labels.{kind_labels, row_labels}
use Rattle.mlir_ir.specs.Operations as plain
use Rattle.mlir_ir.specs.Operations.{OpKind, OpList, labels_of, inner_labels}
use Rattle.mlir_ir.specs.Phrases.{Phrase}
use Rattle.mlir_ir.specs.Resolved.{ops_of}
use Rattle.mlir_ir.specs.Source.{none, block, region}
use Rattle.mlir_ir.specs.Values.{Value, arg_values, result_values}
use Rattle.mlir_ir.specs.View.{view_row, view_kind}
use Rattle.mlir_ir.specs.declared.types.IrType.{IrType}
use Rattle.mlir_ir.specs.declared.types.Region.{Region', Row_of-Op, end_of-Op, more_of-Op}
use Rattle.mlir_ir.specs.declared.types.Kind.{Kind, Const, Bin, Cast, Cmp, Select, Call, If', For, While, None', Some'}
use Rattle.mlir_ir.specs.declared.types.ForParts.{ForParts'}
use Rattle.mlir_ir.specs.declared.types.WhileParts.{WhileParts'}
use Rattle.round_trip.specs.CanonicalPieces.{kind_piece, row_piece, packs_piece, whole_piece}
use Rattle.round_trip.specs.Flat.{other_ops, other_kind}
use Rattle.round_trip.specs.PiecePhrases.{said}
use Rattle.round_trip.specs.Pieces.{terminals}
use Rattle.round_trip.specs.Readable.{Reading, ReadableKind, ReadableRow}
use Rattle.round_trip.proofs.FlatLabels.{kind_labels_stay}
use Rattle.round_trip.proofs.ReadBlocks.{block_whole, region_whole}
use Rattle.round_trip.proofs.ReadRows.{KindRead, op_read, yield_block}
use Rattle.round_trip.proofs.ReadKinds.{const_kind, bin_kind, cast_kind, cmp_kind, select_kind, call_kind}
use Rattle.round_trip.proofs.ReadIfs.{if_kind, if_else_kind}
use Rattle.round_trip.proofs.ReadFors.{for_kind}
use Rattle.round_trip.proofs.ReadLoops.{while_kind}

mutual
  unfolding kind_piece

  row_block : (r : Reading) (scope : List Value) (at : ℕ) (n : _) (row : Row_of-Op n) → ReadableRow r scope at row → (depth tok : ℕ) (rest : Phrase) → block rest ≡ none
      → ops_of r.naming.funcs (block (said tok (row_piece r.naming depth row) rest)) scope at ≡ other_ops r.other (view_row row)
  row_block r scope at n end_of-Op is depth tok rest e = ap (λ b. ops_of r.naming.funcs b scope at) e
  row_block r scope at n (more_of-Op packs results kind more) is depth tok rest e =
      let piece = kind_piece r.naming depth results kind in
      let w = block_whole depth tok packs piece (said (tok + length (terminals (whole_piece depth (packs_piece packs) piece))) (row_piece r.naming depth more) rest) in
      let k = kind_reads r scope at results kind is.1 depth w.2 in
      ap (λ b. ops_of r.naming.funcs b scope at) w.3
      ∙ op_read r.naming.funcs scope at w.0 w.1 w.2 packs results piece (other_kind r.other (view_kind kind)) (kind_labels kind) _ is.0 (kind_labels_stay r.other kind) k.types k.does
      ∙ ap (plain.next packs results (other_kind r.other (view_kind kind))) (row_block r (scope ++ result_values (at + kind_labels kind) packs results) (at + (kind_labels kind + length results)) _ more is.2 depth _ rest e)

  row_region : (r : Reading) (scope : List Value) (at : ℕ) (n : _) (row : Row_of-Op n) → ReadableRow r scope at row → (depth tok : ℕ) (rest : Phrase) → region rest ≡ none
      → ops_of r.naming.funcs (region (said tok (row_piece r.naming depth row) rest)) scope at ≡ other_ops r.other (view_row row)
  row_region r scope at n end_of-Op is depth tok rest e = ap (λ b. ops_of r.naming.funcs b scope at) e
  row_region r scope at n (more_of-Op packs results kind more) is depth tok rest e =
      let piece = kind_piece r.naming depth results kind in
      let w = region_whole depth tok packs piece (said (tok + length (terminals (whole_piece depth (packs_piece packs) piece))) (row_piece r.naming depth more) rest) in
      let k = kind_reads r scope at results kind is.1 depth w.2 in
      ap (λ b. ops_of r.naming.funcs b scope at) w.3
      ∙ op_read r.naming.funcs scope at w.0 w.1 w.2 packs results piece (other_kind r.other (view_kind kind)) (kind_labels kind) _ is.0 (kind_labels_stay r.other kind) k.types k.does
      ∙ ap (plain.next packs results (other_kind r.other (view_kind kind))) (row_region r (scope ++ result_values (at + kind_labels kind) packs results) (at + (kind_labels kind + length results)) _ more is.2 depth _ rest e)

  pub kind_reads : (r : Reading) (scope : List Value) (at : ℕ) (results : List IrType) (kind : Kind) → ReadableKind r scope at results kind → (depth : ℕ) → KindRead r scope at results kind (kind_piece r.naming depth results kind)
  kind_reads r scope at results (Const v) is depth = const_kind r scope at depth v results is
  kind_reads r scope at results (Bin op flags a b) is depth = bin_kind r scope at depth op flags a b results is
  kind_reads r scope at results (Cast op flags a) is depth = cast_kind r scope at depth op flags a results is
  kind_reads r scope at results (Cmp pred a b) is depth = cmp_kind r scope at depth pred a b results is
  kind_reads r scope at results (Select c a b) is depth = select_kind r scope at depth c a b results is
  kind_reads r scope at results (Call func uses) is depth = call_kind r scope at depth func uses results is
  kind_reads r scope at results (If' c (Region' shape row ends) None') is depth =
      if_kind r scope at depth c results shape row ends is.0 is.1 (λ d t0 t1 t2 t3 ls. row_block r scope at _ row is.2 d t1 _ (yield_block r.naming d ls _ t2 refl)) is.3
  kind_reads r scope at results (If' c (Region' shape row ends) (Some' (Region' shape2 row2 ends2))) is depth =
      if_else_kind r scope at depth c results shape row ends shape2 row2 ends2 is.0 is.1 (λ d t0 t1 t2 t3 ls. row_block r scope at _ row is.2 d t1 _ (yield_block r.naming d ls _ t2 refl)) is.3
      (λ d t0 t1 t2 t3 ls. row_block r scope (at + row_labels row) _ row2 is.4.0 d t1 _ (yield_block r.naming d ls _ t2 refl)) is.4.1
  kind_reads r scope at results (For (ForParts' lower upper step iv args inits (Region' shape row ends))) is depth =
      for_kind r scope at depth lower upper step iv args inits results shape row ends is.0.0 is.0.1.0 is.0.1.1.0 is.1.0 is.1.1 is.2 is.3 is.4
      (λ d t0 t1 t2 t3 ls. row_block r (scope ++ arg_values (at + 1) (iv ∷ args)) (at + 2 + length args) _ row is.5 d t1 _ (yield_block r.naming d ls _ t2 refl)) is.6
  kind_reads r scope at results (While (WhileParts' args inits (Region' shape row passed) cond after_args (Region' shape2 row2 ends))) is depth =
      while_kind r scope at depth args inits results shape row passed cond after_args shape2 row2 ends is.0 is.1 is.2 is.3 is.4
      (row_region r (scope ++ arg_values (at + 1) args) (at + 1 + length args) _ row is.5) is.6.0 is.6.1
      (row_region r (scope ++ arg_values (at + 1 + length args + row_labels row) after_args) (at + 1 + length args + row_labels row + length after_args) _ row2 is.7) is.8
