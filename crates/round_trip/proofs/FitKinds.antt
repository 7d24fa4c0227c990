-- Operations that are read back, by their kinds, break no rule where their regions break none.
use Rattle.std.proofs.Common.{◌≡◌, ℕ, ◌+◌, ◌≤◌, ◌==◌, Bool, true, false, List, [], ◌∷◌, ◌++◌, refl, ap, ◌∙◌, sym, subst, codes, map, length, find, Some, slice_index_or, if◌then◌else◌, arith}
use Rattle.std.proofs.lemmas.List.{length-map}
use Rattle.std.specs.Str.{bytes_eq}
use Rattle.arith_word.specs.declared.label.Label.{Label}
use Rattle.mlir_ir.specs.Calls.{Called}
use Rattle.mlir_ir.specs.Canonical.{Naming}
use Rattle.mlir_ir.specs.Check.{row_results}
use Rattle.mlir_ir.specs.Labels.{row_labels}
use Rattle.mlir_ir.specs.Limits.{arg_limit, carried_limit, loop_limit}
use Rattle.mlir_ir.specs.Operations as plain
use Rattle.mlir_ir.specs.Phrases.{Phrase, Line, done, token, spots, first_spot}
use Rattle.mlir_ir.specs.Resolved.{tys, func_name, func_args}
use Rattle.mlir_ir.specs.Rules.{may_wrap, may_lose, truth}
use Rattle.mlir_ir.specs.ScopeFaults.{defined_by}
use Rattle.mlir_ir.specs.Source.{none, unsigned, region, region_behind, result_types, listed_uses, listed_types}
use Rattle.mlir_ir.specs.Values.{Value, arg_values, type_at}
use Rattle.mlir_ir.specs.View.{view_row, view_kind}
use Rattle.mlir_ir.specs.Words.{bin_text, cast_text}
use Rattle.mlir_ir.specs.declared.terminal.Terminal.TheVariants as ts
use Rattle.mlir_ir.specs.declared.types.Arg.{Arg}
use Rattle.mlir_ir.specs.declared.types.Flags.{Flags}
use Rattle.mlir_ir.specs.declared.types.IrType.{IrType}
use Rattle.mlir_ir.specs.declared.types.IrType.TheVariants.{Int, Index}
use Rattle.mlir_ir.specs.declared.types.Region.{Region', Row_of-Op}
use Rattle.mlir_ir.specs.declared.types.Kind.{Kind, Const, Bin, Cast, Cmp, Select, Call, If', For, While, None', Some'}
use Rattle.mlir_ir.specs.declared.types.ForParts.{ForParts'}
use Rattle.mlir_ir.specs.declared.types.WhileParts.{WhileParts'}
use Rattle.round_trip.specs.CanonicalPieces.{kind_piece, row_piece, truth_piece, number_piece, uses_piece, used_types_piece, results_piece}
use Rattle.round_trip.specs.Flat.{other_label}
use Rattle.round_trip.specs.PiecePhrases.{said}
use Rattle.round_trip.specs.Readable.{Reading, ReadsLabel, ReadsLabels, ReadableKind, TypesAre, GivesType}
use Rattle.round_trip.specs.Sound.{Each, IsType}
use Rattle.round_trip.proofs.CanonicalTrees.{bin_terminal, cast_terminal, pred_terminal}
use Rattle.round_trip.proofs.FitFors.{for_fits}
use Rattle.round_trip.proofs.FitIfs.{BlockFits, ArmFits, GivesOn, if_alone_fits, if_both_fits}
use Rattle.round_trip.proofs.FitSimple.{PhraseFits, seen_in, bin_fits, compare_fits, select_fits, cast_fits, numbered_fits, truth_fits, call_fits}
use Rattle.round_trip.proofs.FitWhiles.{while_fits}
use Rattle.round_trip.proofs.ReadKinds.{call_types}
use Rattle.round_trip.proofs.ReadLists.{type_is}
use Rattle.round_trip.proofs.ReadUses.{value_parts}
use Rattle.round_trip.proofs.ReadWhiles.{turn_end, turn, condition, opening, condition_none, turn_end_none}
use Rattle.round_trip.proofs.SeenLists.{Typed, typed_first, joined_sees, joined_used}
use Rattle.round_trip.proofs.SeenUses.{Sees, SeesAll, Alike, alike_more, args_alike, use_sees, type_of_use}
use Rattle.round_trip.proofs.WrittenWords.{cast_back}

-- a call finds its callee's line in the text, and fits it
pub record CallFits (funcs : List Line) (r : Reading) (call : Called) : Type 0 where
  pub callee : Line
  pub found : find (λ (f : Line). bytes_eq (func_name f) (slice_index_or r.naming.funcs call.func [])) funcs ≡ Some callee
  pub types : List IrType
  pub are : Each IsType types
  pub takes : map (λ (arg : Arg). arg.ty) (func_args callee) ≡ types
  pub typed : TypesAre r types call.uses
  pub gives : tys (result_types callee.parts) ≡ call.results

abbrev pub KindFits : List Line → ℕ → List Value → Reading → ℕ → List IrType → Kind → Type 0
KindFits funcs loops s r depth results kind = (k : ℕ) → PhraseFits funcs loops s (view_kind kind) (said k (kind_piece r.naming depth results kind) done)

-- a row that stands in the phrase, wherever its tokens are
abbrev pub RowFits : List Line → ℕ → List Value → Reading → ℕ → {m : _} → Row_of-Op m → Type 0
RowFits funcs loops s r at row = (depth tok : ℕ) (rest : Phrase) → region rest ≡ none → BlockFits funcs loops s at row (region (said tok (row_piece r.naming depth row) rest))

one_given : (r : Reading) (ty : IrType) (l : Label) → GivesType r (ty ∷ []) l → type_at r.naming.values l.0 ≡ Some ty
one_given r ty l e = cc

few_types : (naming : Naming) (types : List IrType) (ls : List Label) → Typed naming types ls → length ls ≤ arg_limit → length types ≤ arg_limit
few_types naming types ls t few =
    let a = length-map ls (λ (l : Label). type_at naming.values l.0) in
    let b = length-map types (λ (ty : IrType). Some ty) in
    let c = ap length t in
    omega (arith, a, b, c, few)

module _ (funcs : List Line) (loops : ℕ) (s scope : List Value) (r : Reading) (same : Alike s scope) where
  sees_one : (l : Label) (reads : ReadsLabel r scope l) (ty : IrType) → type_at r.naming.values l.0 ≡ Some ty → (at i : ℕ) → Sees s (seen_in i (value_parts at reads.value)) ty
  sees_one l reads ty t at i = use_sees r.naming scope s l (other_label r.other l) reads same ty (type_of_use r.naming scope l (other_label r.other l) reads ty t) at i

  pub const_fits : (at depth v : ℕ) (results : List IrType) → ReadableKind r scope at results (Const v) → KindFits funcs loops s r depth results (Const v)
  unfolding kind_piece
  const_fits at depth v [] is k = absurd is
  const_fits at depth v (Index ∷ []) is k = numbered_fits funcs loops s (plain.Const v) Index v k _ is.0 is.1
  const_fits at depth v (Int width ∷ []) is k = go _ (width == 1)
    where
      go : (j : ℕ) (c : Bool) → PhraseFits funcs loops s (plain.Simple (plain.Const v)) (token k ts.Constant (codes "arith.constant") (said j (if c then truth_piece v else number_piece width v (Int width)) done))
      go j true = truth_fits funcs loops s (plain.Const v) v k j
      go j false = numbered_fits funcs loops s (plain.Const v) (Int width) v k j is.0 is.1
  const_fits at depth v (ty ∷ other ∷ more) is k = absurd is

  pub bin_kind_fits : (at depth : ℕ) (op : _) (flags : Flags) (a b : Label) (results : List IrType) → ReadableKind r scope at results (Bin op flags a b) → KindFits funcs loops s r depth results (Bin op flags a b)
  unfolding kind_piece
  bin_kind_fits at depth op flags a b [] is k = absurd is.0
  bin_kind_fits at depth op flags a b (ty ∷ []) is k =
      rw (is.2.found, is.3.found, bin_terminal op)
      (bin_fits funcs loops s (plain.Bin op flags a b) (may_wrap op) k (bin_text op) _ _ _ _ _ _ flags.nsw flags.nuw _ _ _ ty (sees_one a is.2 ty (one_given r ty a is.4) _ _) (sees_one b is.3 ty (one_given r ty b is.5) _ _) (type_is _ 0 ty is.0))
  bin_kind_fits at depth op flags a b (ty ∷ other ∷ more) is k = absurd is.0

  pub cast_kind_fits : (at depth : ℕ) (op : _) (flags : Flags) (a : Label) (results : List IrType) → ReadableKind r scope at results (Cast op flags a) → KindFits funcs loops s r depth results (Cast op flags a)
  unfolding kind_piece
  cast_kind_fits at depth op flags a [] is k = absurd is.0
  cast_kind_fits at depth op flags a (ty ∷ []) is k =
      let from = is.3.0 in
      let seen = type_of_use r.naming scope a (other_label r.other a) is.2 from is.3.2 in
      let told : IsType is.2.value.ty = subst (λ (x : IrType). IsType x) (sym seen) is.3.1 in
      rw (is.2.found, cast_terminal op)
      (cast_fits funcs loops s (plain.Cast op flags a) (may_lose op) k (cast_text op) _ _ _ flags.nsw flags.nuw _ _ _ _ _ _ op from ty (sees_one a is.2 from is.3.2 _ _) (type_is _ 0 is.2.value.ty told ∙ seen) (type_is _ 0 ty is.0) (cast_back op) is.3.3.0)
  cast_kind_fits at depth op flags a (ty ∷ other ∷ more) is k = absurd is.0

  pub compare_kind_fits : (at depth : ℕ) (pred : _) (a b : Label) (results : List IrType) → ReadableKind r scope at results (Cmp pred a b) → KindFits funcs loops s r depth results (Cmp pred a b)
  unfolding kind_piece
  compare_kind_fits at depth pred a b results is k =
      let ty = is.3.0 in
      let seen = type_of_use r.naming scope a (other_label r.other a) is.1 ty is.3.2 in
      let told : IsType is.1.value.ty = subst (λ (x : IrType). IsType x) (sym seen) is.3.1 in
      rw (is.1.found, is.2.found, pred_terminal pred)
      (compare_fits funcs loops s (plain.Cmp pred a b) k _ _ _ _ _ _ _ _ _ _ _ _ ty (sees_one a is.1 ty is.3.2 _ _) (sees_one b is.2 ty is.3.3 _ _) (type_is _ 0 is.1.value.ty told ∙ seen))

  pub select_kind_fits : (at depth : ℕ) (c a b : Label) (results : List IrType) → ReadableKind r scope at results (Select c a b) → KindFits funcs loops s r depth results (Select c a b)
  unfolding kind_piece
  select_kind_fits at depth c a b [] is k = absurd is.0
  select_kind_fits at depth c a b (ty ∷ []) is k =
      rw (is.1.found, is.2.found, is.3.found)
      (select_fits funcs loops s (plain.Select c a b) k _ _ _ _ _ _ _ _ _ _ _ _ ty (sees_one c is.1 truth (one_given r truth c is.4) _ _) (sees_one a is.2 ty (one_given r ty a is.5) _ _) (sees_one b is.3 ty (one_given r ty b is.6) _ _) (type_is _ 0 ty is.0))
  select_kind_fits at depth c a b (ty ∷ other ∷ more) is k = absurd is.0

  -- calls

  abbrev behind_call : ℕ → ℕ → ℕ → ℕ → ℕ → ℕ → ℕ → ℕ → ℕ → ℕ → ℕ → List ℕ → List Label → List IrType → Phrase
  behind_call p1 p2 p3 p4 p5 p6 p7 p8 p9 p10 p11 name uses results =
      token p1 ts.Symbol (codes "@" ++ name) (token p2 ts.LeftParen (codes "(") (said p3 (uses_piece r.naming uses) (token p4 ts.RightParen (codes ")") (token p5 ts.Colon (codes ":") (token p6 ts.LeftParen (codes "(") (said p7 (used_types_piece r.naming uses) (token p8 ts.RightParen (codes ")") (token p9 ts.Arrow (codes "->") (said p10 (results_piece results) done)))))))))

  -- what is found behind the word of a call
  record CallParts (types results : List IrType) (rest : Phrase) : Type 0 where
    pub sees : SeesAll s (listed_uses rest) types
    pub takes : tys (listed_types rest) ≡ types
    pub first : region rest ≡ none
    pub second : region_behind rest ≡ none

  call_parts : (p1 p2 p3 p4 p5 p6 p7 p8 p9 p10 p11 : ℕ) (name : List ℕ) (uses : List Label) (types results : List IrType) → ReadsLabels r scope uses → Typed r.naming types uses → Each IsType types
      → CallParts types results (behind_call p1 p2 p3 p4 p5 p6 p7 p8 p9 p10 p11 name uses results)
  call_parts p1 p2 p3 p4 p5 p6 p7 p8 p9 p10 p11 name [] (x ∷ types) results reads typed is = cc
  call_parts p1 p2 p3 p4 p5 p6 p7 p8 p9 p10 p11 name [] [] [] reads typed is = record { sees = tt; takes = refl; first = refl; second = refl }
  call_parts p1 p2 p3 p4 p5 p6 p7 p8 p9 p10 p11 name [] [] (ty ∷ []) reads typed is = record { sees = tt; takes = refl; first = refl; second = refl }
  call_parts p1 p2 p3 p4 p5 p6 p7 p8 p9 p10 p11 name [] [] (ty ∷ other ∷ more) reads typed is = record { sees = tt; takes = refl; first = refl; second = refl }
  call_parts p1 p2 p3 p4 p5 p6 p7 p8 p9 p10 p11 name (l ∷ ls) types [] reads typed is =
      record { sees = joined_sees r.naming scope (other_label r.other) s same (l ∷ ls) types reads typed _; takes = joined_used r.naming _ (l ∷ ls) types is typed; first = refl; second = refl }
  call_parts p1 p2 p3 p4 p5 p6 p7 p8 p9 p10 p11 name (l ∷ ls) types (ty ∷ []) reads typed is =
      record { sees = joined_sees r.naming scope (other_label r.other) s same (l ∷ ls) types reads typed _; takes = joined_used r.naming _ (l ∷ ls) types is typed; first = refl; second = refl }
  call_parts p1 p2 p3 p4 p5 p6 p7 p8 p9 p10 p11 name (l ∷ ls) types (ty ∷ other ∷ more) reads typed is =
      record { sees = joined_sees r.naming scope (other_label r.other) s same (l ∷ ls) types reads typed _; takes = joined_used r.naming _ (l ∷ ls) types is typed; first = refl; second = refl }

  call_from : (func : ℕ) (uses : List Label) (results : List IrType) → ReadableKind r scope 0 results (Call func uses) → (fits : CallFits funcs r (record { func = func; uses = uses; results = results })) → length uses ≤ arg_limit → (k : ℕ) (rest : Phrase)
      → unsigned (first_spot (spots ts.Symbol rest)).text ≡ slice_index_or r.naming.funcs func [] → tys (result_types rest) ≡ results → CallParts fits.types results rest → PhraseFits funcs loops s (plain.Simple (plain.Call func uses)) (token k ts.Call (codes "func.call") rest)
  call_from func uses results is fits few k rest named gave parts =
      call_fits funcs loops s (plain.Call func uses) k (codes "func.call") rest (slice_index_or r.naming.funcs func []) fits.callee fits.types results named fits.found fits.takes fits.gives parts.sees parts.takes gave (few_types r.naming fits.types uses fits.typed few) parts.first parts.second

  pub call_kind_fits : (at depth func : ℕ) (uses : List Label) (results : List IrType) → ReadableKind r scope at results (Call func uses) → CallFits funcs r (record { func = func; uses = uses; results = results }) → length uses ≤ arg_limit
      → KindFits funcs loops s r depth results (Call func uses)
  unfolding kind_piece
  call_kind_fits at depth func uses results is fits few k =
      call_from func uses results is fits few k _ refl (call_types r func uses results k is.0) (call_parts _ _ _ _ _ _ _ _ _ _ 0 (slice_index_or r.naming.funcs func []) uses fits.types results is.1 fits.typed fits.are)

  -- operations with regions

  pub if_kind_fits : (at depth : ℕ) (c : Label) (results : List IrType) (shape : _) (row : Row_of-Op _) (ends : List Label) → (rc : ReadsLabel r scope c) → GivesType r (truth ∷ []) c → Each IsType results
      → ArmFits funcs loops s r.naming at row → GivesOn r.naming scope (other_label r.other) at row ends results → results ≡ [] → KindFits funcs loops s r depth results (If' c (Region' shape row ends) None')
  unfolding kind_piece
  if_kind_fits at depth c results shape row ends rc t is fits gives empty k =
      rw rc.found (if_alone_fits funcs loops s scope r.naming (other_label r.other) same at _ k _ _ _ _ _ _ _ _ c results _ row ends (sees_one c rc truth (one_given r truth c t) _ _) is fits gives empty)

  pub if_else_kind_fits : (at at2 depth : ℕ) (c : Label) (results : List IrType) (shape : _) (row : Row_of-Op _) (ends : List Label) (shape2 : _) (row2 : Row_of-Op _) (ends2 : List Label) → (rc : ReadsLabel r scope c) → GivesType r (truth ∷ []) c → Each IsType results
      → ArmFits funcs loops s r.naming at row → GivesOn r.naming scope (other_label r.other) at row ends results → ArmFits funcs loops s r.naming at2 row2 → GivesOn r.naming scope (other_label r.other) at2 row2 ends2 results
      → KindFits funcs loops s r depth results (If' c (Region' shape row ends) (Some' (Region' shape2 row2 ends2)))
  unfolding kind_piece
  if_else_kind_fits at at2 depth c results shape row ends shape2 row2 ends2 rc t is fits gives fits2 gives2 k =
      rw rc.found (if_both_fits funcs loops s scope r.naming (other_label r.other) same at at2 _ k _ _ _ _ _ _ _ _ _ _ _ _ _ _ c results _ row ends _ row2 ends2 (sees_one c rc truth (one_given r truth c t) _ _) is fits gives fits2 gives2)

  pub for_kind_fits : (at depth : ℕ) (lower upper step : Label) (iv : Arg) (args : List Arg) (inits : List Label) (results : List IrType) (shape : _) (row : Row_of-Op _) (ends : List Label)
      → (is : ReadableKind r scope at results (For (ForParts' lower upper step iv args inits (Region' shape row ends)))) → length args ≤ carried_limit → loops + 1 ≤ loop_limit → ArmFits funcs (loops + 1) (s ++ arg_values 0 (iv ∷ args)) r.naming (at + 2 + length args) row
      → KindFits funcs loops s r depth results (For (ForParts' lower upper step iv args inits (Region' shape row ends)))
  unfolding kind_piece
  for_kind_fits at depth lower upper step iv args inits results shape row ends is few deep fits k =
      rw (is.0.0.found, is.0.1.0.found, is.0.1.1.0.found)
      (for_fits funcs loops s scope r at _ k _ _ _ _ _ _ _ _ _ _ _ _ _ _ _ _ _ lower upper step iv args inits results _ row ends same
      (sees_one lower is.0.0 iv.ty (one_given r iv.ty lower is.7.0) _ _, (sees_one upper is.0.1.0 iv.ty (one_given r iv.ty upper is.7.1.0) _ _, (sees_one step is.0.1.1.0 iv.ty (one_given r iv.ty step is.7.1.1.0) _ _, tt)))
      is.1 is.2 is.3 is.4 is.8 is.10 few deep fits (record { reads = is.6; typed = is.9 }))

  while_at : (at depth outer k c1 x1 x2 c2 x3 x4 y b1 b2 b3 b4 i1 j1 b5 b6 b7 b8 d1 d2 d3 d4 d5 d6 : ℕ) (args : List Arg) (inits : List Label) (results : List IrType) (shape : _) (row : Row_of-Op _) (passed : List Label) (cond : Label) (after_args : List Arg) (shape2 : _) (row2 : Row_of-Op _) (ends : List Label)
      → (is : ReadableKind r scope at results (While (WhileParts' args inits (Region' shape row passed) cond after_args (Region' shape2 row2 ends)))) → length args ≤ carried_limit → length after_args ≤ arg_limit → loops + 1 ≤ loop_limit
      → RowFits funcs (loops + 1) (s ++ arg_values 0 args) r (at + 1 + length args) row → RowFits funcs (loops + 1) (s ++ arg_values 0 after_args) r (at + 1 + length args + row_labels row + length after_args) row2
      → PhraseFits funcs loops s (plain.While args inits (view_row row) passed cond after_args (view_row row2) ends)
      (opening r.naming k c1 x1 x2 c2 x3 x4 y b1 args inits results (said b2 (row_piece r.naming depth row) (condition r.naming b3 b4 i1 b5 b6 b7 b8 (value_parts j1 is.6.0.value) passed (turn r.naming depth outer d1 d2 d3 d4 d5 d6 after_args row2 ends))))
  while_at at depth outer k c1 x1 x2 c2 x3 x4 y b1 b2 b3 b4 i1 j1 b5 b6 b7 b8 d1 d2 d3 d4 d5 d6 args inits results shape row passed cond after_args shape2 row2 ends is few few_after deep fits fits2 =
      let p = at + 1 + length args in
      let to = p + row_labels row in
      let f = other_label r.other in
      let rc = is.6.0 in
      let typed = typed_first r.naming truth results cond passed is.10 in
      let T = condition r.naming b3 b4 i1 b5 b6 b7 b8 (value_parts j1 rc.value) passed (turn r.naming depth outer d1 d2 d3 d4 d5 d6 after_args row2 ends) in
      let first = fits depth b2 T (condition_none r.naming b3 b4 i1 b5 b6 b7 b8 (value_parts j1 rc.value) passed (turn r.naming depth outer d1 d2 d3 d4 d5 d6 after_args row2 ends)) in
      let second = fits2 depth d3 (turn_end r.naming d4 d5 d6 ends) (turn_end_none r.naming d4 d5 d6 ends) in
      let b = region (said b2 (row_piece r.naming depth row) T) in
      let in_before = scope ++ arg_values (at + 1) args in
      let alike = alike_more (s ++ arg_values 0 args) in_before (defined_by b) (row_results p row) (alike_more s scope (arg_values 0 args) (arg_values (at + 1) args) same (args_alike 0 (at + 1) args)) first.defined in
      let sees = use_sees r.naming (in_before ++ row_results p row) (s ++ arg_values 0 args ++ defined_by b) cond (f cond) rc alike truth (type_of_use r.naming (in_before ++ row_results p row) cond (f cond) rc truth typed.0) j1 i1 in
      while_fits funcs loops s scope r at depth outer k c1 x1 x2 c2 x3 x4 y b1 b2 b3 b4 i1 b5 b6 b7 b8 d1 d2 d3 d4 d5 d6 (value_parts j1 rc.value) args inits results _ row passed cond after_args _ row2 ends (to + length after_args) same is.0 is.1 is.2 is.3 is.4 is.9 is.12 is.13 is.14 few few_after deep
      first sees (record { reads = is.6.1; typed = typed.1 }) second to (record { reads = is.8; typed = is.11 })

  pub while_kind_fits : (at depth : ℕ) (args : List Arg) (inits : List Label) (results : List IrType) (shape : _) (row : Row_of-Op _) (passed : List Label) (cond : Label) (after_args : List Arg) (shape2 : _) (row2 : Row_of-Op _) (ends : List Label)
      → (is : ReadableKind r scope at results (While (WhileParts' args inits (Region' shape row passed) cond after_args (Region' shape2 row2 ends)))) → length args ≤ carried_limit → length after_args ≤ arg_limit → loops + 1 ≤ loop_limit
      → RowFits funcs (loops + 1) (s ++ arg_values 0 args) r (at + 1 + length args) row → RowFits funcs (loops + 1) (s ++ arg_values 0 after_args) r (at + 1 + length args + row_labels row + length after_args) row2
      → KindFits funcs loops s r depth results (While (WhileParts' args inits (Region' shape row passed) cond after_args (Region' shape2 row2 ends)))
  unfolding kind_piece
  while_kind_fits at depth args inits results shape row passed cond after_args shape2 row2 ends is few few_after deep fits fits2 k =
      rw is.6.0.found (while_at at _ _ k _ _ _ _ _ _ _ _ _ _ _ _ _ _ _ _ _ _ _ _ _ _ _ args inits results shape row passed cond after_args shape2 row2 ends is few few_after deep fits fits2)
