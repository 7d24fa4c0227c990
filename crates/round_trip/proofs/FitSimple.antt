-- Operations without regions, whose operands are seen in scope with their types, break no rule.
use Rattle.std.proofs.Common.{suc, zero, ◌≡◌, ℕ, ℤ, pos, negsuc, ◌+◌, ◌-◌, ◌^◌, ◌<◌, ◌≤◌, ◌==◌, ◌&&◌, not, nat_lt, nat_le, Bool, true, false, List, [], ◌∷◌, ◌++◌, refl, ap, ◌∙◌, codes, map, find, length, if◌then◌else◌, arith, Some, inl, inr, ◌*◌, ◌||◌, eq-eqb}
use Rattle.std.proofs.Common.{lt-ltb, le-ltb}
use Rattle.std.proofs.lemmas.Bool.{cases_lt}
use Rattle.std.proofs.lemmas.Bool.Decides.{nat_tests}
use Rattle.std.proofs.Math.Pow.{pow_mono}
use Rattle.std.proofs.Math.Nat.{pow-suc}
use Rattle.std.proofs.lemmas.List.{length-map}
use Rattle.std.specs.Option.{option_map_or}
use Rattle.std.specs.Str.{bytes_eq}
use Rattle.arith_word.specs.Word.{signed_reading}
use Rattle.arith_word.specs.declared.op.CastOp.{CastOp}
use Rattle.arith_word.specs.declared.op.CastOp.TheVariants.{Extsi, IndexCast, Extui, IndexCastui, Trunci}
use Rattle.mlir_ir.specs.Limits.{arg_limit}
use Rattle.mlir_ir.specs.Operations as plain
use Rattle.mlir_ir.specs.Operations.{OpKind, inner_labels, inner_count}
use Rattle.mlir_ir.specs.Phrases.{Phrase, Line, done, token, line, spots, first_spot}
use Rattle.mlir_ir.specs.Resolved.{tys, cast_named, func_name, func_args}
use Rattle.mlir_ir.specs.Rules.{casts, truth}
use Rattle.mlir_ir.specs.ScopeFaults.{broken, is_index, same_written, kind_breaks, block_breaks, uses_breaks, operands, op_tokens, block_labels, header_labels, call_types, callee_breaks, listed_breaks}
use Rattle.mlir_ir.specs.Source.{Use, Written, none, head, word, region, region_behind, use_of, written, unsigned, listed_uses, listed_types, result_types}
use Rattle.mlir_ir.specs.Values.{Value}
use Rattle.mlir_ir.specs.Words.{bits_of}
use Rattle.mlir_ir.specs.declared.scope_kind.ScopeKind.TheVariants.{WrongType, Arity, Unknown}
use Rattle.mlir_ir.specs.declared.terminal.Terminal.TheVariants as ts
use Rattle.mlir_ir.specs.declared.syntax.Form.TheVariants as forms
use Rattle.mlir_ir.specs.declared.types.Arg.{Arg}
use Rattle.mlir_ir.specs.declared.types.IrType.{IrType}
use Rattle.mlir_ir.specs.declared.types.IrType.TheVariants.{Int, Index}
use Rattle.round_trip.specs.CanonicalPieces.{flags_piece, signed_piece, number_piece, truth_piece, word as word_piece}
use Rattle.round_trip.specs.PiecePhrases.{said}
use Rattle.round_trip.specs.Sound.{IsType}
use Rattle.round_trip.proofs.FitPacks.{over_fine}
use Rattle.round_trip.proofs.PartedPieces.{IsSmall, reading_small}
use Rattle.round_trip.proofs.ReadLists.{type_is}
use Rattle.round_trip.proofs.ReadSimple.{bits_some}
use Rattle.round_trip.proofs.ReadUses.{type_parts}
use Rattle.round_trip.proofs.SeenUses.{Sees, SeesAll, no_break, uses_fine, types_fine, listed_fine, written_fine, each_uses, same_fine, uses_long}
use Rattle.round_trip.proofs.StandingPieces.{number_is}
use Rattle.round_trip.proofs.WrittenWords.{decimal_back}

-- the phrase of an operation breaks no rule, and has as many operations and labels inside as the operation
pub record PhraseFits (funcs : List Line) (loops : ℕ) (s : List Value) (kind : OpKind) (p : Phrase) : Type 0 where
  pub uses : uses_breaks s (word p).at (operands (head p) p) ≡ []
  pub inside : kind_breaks funcs loops s (head p) p (region p) (region_behind p) (block_breaks funcs (region p)) (block_breaks funcs (region_behind p)) ≡ []
  pub ops : length (op_tokens (region p)) + length (op_tokens (region_behind p)) ≡ inner_count kind
  pub labels : header_labels (head p) p + block_labels (region p) + block_labels (region_behind p) ≡ inner_labels kind

abbrev pub seen_in : ℕ → Phrase → Use
seen_in i parts = use_of (record { at = i; parts = parts })

abbrev pub type_in : ℕ → Phrase → IrType
type_in i parts = (written (record { at = i; parts = parts })).ty

types_count : (ws : List Written) → length ws ≡ length (tys ws)
types_count [] = refl
types_count (w ∷ ws) = ap suc (types_count ws)

module _ (funcs : List Line) (loops : ℕ) (s : List Value) where
  -- two operands of the type that is written

  pub bin_fits : (does : plain.SimpleOp) (flagged : Bool) (at : ℕ) (w : List ℕ) (i : ℕ) (a : Phrase) (j k : ℕ) (b : Phrase) (m : ℕ) (nsw nuw : Bool) (x y : ℕ) (t : Phrase) (ty : IrType) → Sees s (seen_in i a) ty → Sees s (seen_in k b) ty → type_in y t ≡ ty
      → PhraseFits funcs loops s (plain.Simple does)
      (token at (if flagged then ts.FlaggedBinary else ts.Binary) w (line forms.Use i a (token j ts.Comma (codes ",") (line forms.Use k b (said m (flags_piece (record { nsw = nsw; nuw = nuw })) (token x ts.Colon (codes ":") (line forms.TypeName y t done)))))))
  bin_fits does true at w i a j k b m true true x y t ty sa sb e = record { uses = each_uses s at ty (seen_in i a ∷ seen_in k b ∷ []) (sa, (sb, tt)); inside = same_fine s (seen_in i a ∷ seen_in k b ∷ []) (written (record { at = y; parts = t })) [] ty (sa, (sb, tt)) e; ops = refl; labels = refl }
  bin_fits does true at w i a j k b m true false x y t ty sa sb e = record { uses = each_uses s at ty (seen_in i a ∷ seen_in k b ∷ []) (sa, (sb, tt)); inside = same_fine s (seen_in i a ∷ seen_in k b ∷ []) (written (record { at = y; parts = t })) [] ty (sa, (sb, tt)) e; ops = refl; labels = refl }
  bin_fits does true at w i a j k b m false true x y t ty sa sb e = record { uses = each_uses s at ty (seen_in i a ∷ seen_in k b ∷ []) (sa, (sb, tt)); inside = same_fine s (seen_in i a ∷ seen_in k b ∷ []) (written (record { at = y; parts = t })) [] ty (sa, (sb, tt)) e; ops = refl; labels = refl }
  bin_fits does true at w i a j k b m false false x y t ty sa sb e = record { uses = each_uses s at ty (seen_in i a ∷ seen_in k b ∷ []) (sa, (sb, tt)); inside = same_fine s (seen_in i a ∷ seen_in k b ∷ []) (written (record { at = y; parts = t })) [] ty (sa, (sb, tt)) e; ops = refl; labels = refl }
  bin_fits does false at w i a j k b m true true x y t ty sa sb e = record { uses = each_uses s at ty (seen_in i a ∷ seen_in k b ∷ []) (sa, (sb, tt)); inside = same_fine s (seen_in i a ∷ seen_in k b ∷ []) (written (record { at = y; parts = t })) [] ty (sa, (sb, tt)) e; ops = refl; labels = refl }
  bin_fits does false at w i a j k b m true false x y t ty sa sb e = record { uses = each_uses s at ty (seen_in i a ∷ seen_in k b ∷ []) (sa, (sb, tt)); inside = same_fine s (seen_in i a ∷ seen_in k b ∷ []) (written (record { at = y; parts = t })) [] ty (sa, (sb, tt)) e; ops = refl; labels = refl }
  bin_fits does false at w i a j k b m false true x y t ty sa sb e = record { uses = each_uses s at ty (seen_in i a ∷ seen_in k b ∷ []) (sa, (sb, tt)); inside = same_fine s (seen_in i a ∷ seen_in k b ∷ []) (written (record { at = y; parts = t })) [] ty (sa, (sb, tt)) e; ops = refl; labels = refl }
  bin_fits does false at w i a j k b m false false x y t ty sa sb e = record { uses = each_uses s at ty (seen_in i a ∷ seen_in k b ∷ []) (sa, (sb, tt)); inside = same_fine s (seen_in i a ∷ seen_in k b ∷ []) (written (record { at = y; parts = t })) [] ty (sa, (sb, tt)) e; ops = refl; labels = refl }

  pub compare_fits : (does : plain.SimpleOp) (at : ℕ) (w : List ℕ) (q : ℕ) (v : List ℕ) (c i : ℕ) (a : Phrase) (j k : ℕ) (b : Phrase) (x y : ℕ) (t : Phrase) (ty : IrType) → Sees s (seen_in i a) ty → Sees s (seen_in k b) ty → type_in y t ≡ ty
      → PhraseFits funcs loops s (plain.Simple does)
      (token at ts.Compare w (token q ts.Predicate v (token c ts.Comma (codes ",") (line forms.Use i a (token j ts.Comma (codes ",") (line forms.Use k b (token x ts.Colon (codes ":") (line forms.TypeName y t done))))))))
  compare_fits does at w q v c i a j k b x y t ty sa sb e = record { uses = each_uses s at ty (seen_in i a ∷ seen_in k b ∷ []) (sa, (sb, tt)); inside = same_fine s (seen_in i a ∷ seen_in k b ∷ []) (written (record { at = y; parts = t })) [] ty (sa, (sb, tt)) e; ops = refl; labels = refl }

  pub select_fits : (does : plain.SimpleOp) (at : ℕ) (w : List ℕ) (h : ℕ) (c : Phrase) (g i : ℕ) (a : Phrase) (j k : ℕ) (b : Phrase) (x y : ℕ) (t : Phrase) (ty : IrType) → Sees s (seen_in h c) truth → Sees s (seen_in i a) ty → Sees s (seen_in k b) ty → type_in y t ≡ ty
      → PhraseFits funcs loops s (plain.Simple does)
      (token at ts.Select w (line forms.Use h c (token g ts.Comma (codes ",") (line forms.Use i a (token j ts.Comma (codes ",") (line forms.Use k b (token x ts.Colon (codes ":") (line forms.TypeName y t done))))))))
  select_fits does at w h c g i a j k b x y t ty sc sa sb e = record {
    uses = uses_fine s at (seen_in h c ∷ seen_in i a ∷ seen_in k b ∷ []) (truth ∷ ty ∷ ty ∷ []) (sc, (sa, (sb, tt)));
    inside = λ u. types_fine s (seen_in h c ∷ []) (truth ∷ []) (sc, tt) u ++ same_fine s (seen_in i a ∷ seen_in k b ∷ []) (written (record { at = y; parts = t })) [] ty (sa, (sb, tt)) e u;
    ops = refl;
    labels = refl;
  }

  -- casts

  index_taken : (op : CastOp) (from to : IrType) → casts op from to ≡ true → (is_index from && not (casts op Index (Int 1))) ≡ false
  index_taken op (Int a) to h = refl
  index_taken Extsi Index to h = cc
  index_taken Extui Index to h = cc
  index_taken Trunci Index to h = cc
  index_taken IndexCast Index to h = refl
  index_taken IndexCastui Index to h = refl

  cast_types : (w : List ℕ) (op : CastOp) (from to : Written) (a b : IrType) → cast_named w ≡ op → from.ty ≡ a → to.ty ≡ b → casts op a b ≡ true
      → (if is_index from.ty && not (casts (cast_named w) Index (Int 1)) then broken true from.at WrongType else broken (not (casts (cast_named w) from.ty to.ty)) to.at WrongType) ≡ []
  cast_types w op from to a b n e f h =
      (λ i. if is_index (e i) && not (casts (n i) Index (Int 1)) then broken true from.at WrongType else broken (not (casts (n i) (e i) (f i))) to.at WrongType)
      ∙ (λ i. if index_taken op a b h i then broken true from.at WrongType else broken (not (casts op a b)) to.at WrongType)
      ∙ (λ i. broken (not (h i)) to.at WrongType)

  cast_inside : (at i y u : ℕ) (w : List ℕ) (op : CastOp) (a v t : Phrase) (from to : IrType) → Sees s (seen_in i a) from → type_in y v ≡ from → type_in u t ≡ to → cast_named w ≡ op → casts op from to ≡ true
      → let f = written (record { at = y; parts = v }) in let g = written (record { at = u; parts = t }) in
      (same_written s (seen_in i a ∷ []) (f ∷ g ∷ []) ++ (if is_index f.ty && not (casts (cast_named w) Index (Int 1)) then broken true f.at WrongType else broken (not (casts (cast_named w) f.ty g.ty)) g.at WrongType)) ≡ []
  cast_inside at i y u w op a v t from to sa e f n h =
      let tf = written (record { at = y; parts = v }) in
      let tg = written (record { at = u; parts = t }) in
      λ q. same_fine s (seen_in i a ∷ []) tf (tg ∷ []) from (sa, tt) e q ++ cast_types w op tf tg from to n e f h q

  pub cast_fits : (does : plain.SimpleOp) (flagged : Bool) (at : ℕ) (w : List ℕ) (i : ℕ) (a : Phrase) (m : ℕ) (nsw nuw : Bool) (x y z u : ℕ) (v t : Phrase) (op : CastOp) (from to : IrType) → Sees s (seen_in i a) from → type_in y v ≡ from → type_in u t ≡ to → cast_named w ≡ op → casts op from to ≡ true
      → PhraseFits funcs loops s (plain.Simple does)
      (token at (if flagged then ts.FlaggedCast else ts.Cast) w (line forms.Use i a (said m (flags_piece (record { nsw = nsw; nuw = nuw })) (token x ts.Colon (codes ":") (line forms.TypeName y v (token z ts.To (codes "to") (line forms.TypeName u t done)))))))
  cast_fits does true at w i a m true true x y z u v t op from to sa e f n h = record { uses = each_uses s at from (seen_in i a ∷ []) (sa, tt); inside = cast_inside at i y u w op a v t from to sa e f n h; ops = refl; labels = refl }
  cast_fits does true at w i a m true false x y z u v t op from to sa e f n h = record { uses = each_uses s at from (seen_in i a ∷ []) (sa, tt); inside = cast_inside at i y u w op a v t from to sa e f n h; ops = refl; labels = refl }
  cast_fits does true at w i a m false true x y z u v t op from to sa e f n h = record { uses = each_uses s at from (seen_in i a ∷ []) (sa, tt); inside = cast_inside at i y u w op a v t from to sa e f n h; ops = refl; labels = refl }
  cast_fits does true at w i a m false false x y z u v t op from to sa e f n h = record { uses = each_uses s at from (seen_in i a ∷ []) (sa, tt); inside = cast_inside at i y u w op a v t from to sa e f n h; ops = refl; labels = refl }
  cast_fits does false at w i a m true true x y z u v t op from to sa e f n h = record { uses = each_uses s at from (seen_in i a ∷ []) (sa, tt); inside = cast_inside at i y u w op a v t from to sa e f n h; ops = refl; labels = refl }
  cast_fits does false at w i a m true false x y z u v t op from to sa e f n h = record { uses = each_uses s at from (seen_in i a ∷ []) (sa, tt); inside = cast_inside at i y u w op a v t from to sa e f n h; ops = refl; labels = refl }
  cast_fits does false at w i a m false true x y z u v t op from to sa e f n h = record { uses = each_uses s at from (seen_in i a ∷ []) (sa, tt); inside = cast_inside at i y u w op a v t from to sa e f n h; ops = refl; labels = refl }
  cast_fits does false at w i a m false false x y z u v t op from to sa e f n h = record { uses = each_uses s at from (seen_in i a ∷ []) (sa, tt); inside = cast_inside at i y u w op a v t from to sa e f n h; ops = refl; labels = refl }

  -- literals

  -- a signed number of w bits
  abbrev IsNarrow : ℕ → ℤ → Type 0
  IsNarrow w (pos n) = n < 2 ^ w
  IsNarrow w (negsuc n) = suc n ≤ 2 ^ (w - 1)

  double : (w : ℕ) → 1 ≤ w → 2 ^ w ≡ 2 ^ (w - 1) * 2
  double zero some = absurd (omega arith)
  double (suc n) some = let e : suc n - 1 ≡ n = omega arith in rw e (pow-suc 2 n)

  reading_narrow : (w v : ℕ) → 1 ≤ w → v < 2 ^ w → IsNarrow w (signed_reading w v)
  reading_narrow w v some small =
      let twice = double w some in
      elim (cases_lt v (2 ^ (w - 1))) [
        | inl low ↦ rw (lt-ltb v (2 ^ (w - 1)) low) small
        | inr high ↦ let within : suc (2 ^ w - 1 - v) ≤ 2 ^ (w - 1) = omega arith in rw (le-ltb v (2 ^ (w - 1)) high) within
      ]

  number_fits : (does : plain.SimpleOp) (at i j k : ℕ) (w : List ℕ) (z : ℤ) (ty : IrType) → IsSmall z → IsType ty → IsNarrow (bits_of ty) z
      → PhraseFits funcs loops s (plain.Simple does) (token at ts.Constant w (said i (signed_piece z) (token j ts.Colon (codes ":") (line forms.TypeName k (type_parts k ty) done))))
  number_fits does at i j k w (pos n) ty small is narrow =
      let within : nat_le (2 ^ bits_of ty) n ≡ false = grind (arith, nat_tests, narrow) in
      rw (number_is n small)
      (record { uses = refl; inside = no_break _ k WrongType ((λ q. nat_le (2 ^ bits_of (type_is k k ty is q)) (decimal_back n small q)) ∙ within); ops = refl; labels = refl })
  number_fits does at i j k w (negsuc n) ty small is narrow =
      let within : nat_lt (2 ^ (bits_of ty - 1)) (suc n) ≡ false = grind (arith, nat_tests, narrow) in
      rw (number_is (suc n) small)
      (record { uses = refl; inside = no_break _ k WrongType ((λ q. nat_lt (2 ^ (bits_of (type_is k k ty is q) - 1)) (decimal_back (suc n) small q)) ∙ within); ops = refl; labels = refl })

  pub numbered_fits : (does : plain.SimpleOp) (ty : IrType) (v at i : ℕ) → IsType ty → v < 2 ^ bits_of ty
      → PhraseFits funcs loops s (plain.Simple does) (token at ts.Constant (codes "arith.constant") (said i (number_piece (bits_of ty) v ty) done))
  numbered_fits does ty v at i is small =
      let b = bits_some ty is in
      let most : 2 ^ bits_of ty ≤ 2 ^ 64 = pow_mono b.1 in
      number_fits does at i _ _ (codes "arith.constant") (signed_reading (bits_of ty) v) ty (reading_small (bits_of ty) v b.0 b.1 (omega arith)) is (reading_narrow (bits_of ty) v b.0 small)

  pub truth_fits : (does : plain.SimpleOp) (v at i : ℕ) → PhraseFits funcs loops s (plain.Simple does) (token at ts.Constant (codes "arith.constant") (said i (truth_piece v) done))
  truth_fits does v at i = go (v == 0)
    where
      go : (c : Bool) → PhraseFits funcs loops s (plain.Simple does) (token at ts.Constant (codes "arith.constant") (said i (if c then word_piece (codes "false") else word_piece (codes "true")) done))
      go true = record { uses = refl; inside = refl; ops = refl; labels = refl }
      go false = record { uses = refl; inside = refl; ops = refl; labels = refl }

  -- calls

  -- a call of that function, whose parts are found behind its word
  pub call_fits : (does : plain.SimpleOp) (at : ℕ) (w : List ℕ) (rest : Phrase) (name : List ℕ) (callee : Line) (args results : List IrType) → unsigned (first_spot (spots ts.Symbol rest)).text ≡ name
      → find (λ (f : Line). bytes_eq (func_name f) name) funcs ≡ Some callee → map (λ (arg : Arg). arg.ty) (func_args callee) ≡ args → tys (result_types callee.parts) ≡ results
      → SeesAll s (listed_uses rest) args → tys (listed_types rest) ≡ args → tys (result_types rest) ≡ results → length args ≤ arg_limit → region rest ≡ none → region_behind rest ≡ none
      → PhraseFits funcs loops s (plain.Simple does) (token at ts.Call w rest)
  call_fits does at w rest name callee args results named found takes gives sees types gave few n1 n2 =
      let p = token at ts.Call w rest in
      let at_callee = (first_spot (spots ts.Symbol rest)).at in
      let fits : (f : Line) → List _ = λ f. call_types s at p (map (λ (arg : Arg). arg.ty) (func_args f)) (tys (result_types f.parts)) in
      let many = uses_long s (listed_uses rest) args sees in
      let long_types : length (listed_types rest) ≡ length args = types_count (listed_types rest) ∙ ap length types in
      let long_results : length (result_types rest) ≡ length results = types_count (result_types rest) ∙ ap length gave in
      let arity : (not (length (listed_types rest) == length args) || not (length (result_types rest) == length results)) ≡ false =
      λ i. not (eq-eqb (length (listed_types rest)) (length args) long_types i) || not (eq-eqb (length (result_types rest)) (length results) long_results i) in
      let callees : callee_breaks funcs s p ≡ [] =
      (λ i. option_map_or fits (find (λ (f : Line). bytes_eq (func_name f) (named i)) funcs) (broken true at_callee Unknown)) ∙ (λ i. option_map_or fits (found i) (broken true at_callee Unknown))
      ∙ (λ i. call_types s at p (takes i) (gives i))
      ∙ (λ i. written_fine (listed_types rest) args types i ++ written_fine (result_types rest) results gave i ++ no_break _ at Arity arity i) in
      let listed = ap (listed_breaks s at (listed_uses rest)) types ∙ listed_fine s at (listed_uses rest) args sees in
      let within : length (map (λ (u : Use). u.at) (listed_uses rest)) ≤ arg_limit = let same = length-map (listed_uses rest) (λ (u : Use). u.at) in omega (arith, same, many, few) in
      record {
        uses = uses_fine s at (listed_uses rest) args sees;
        inside = λ i. listed i ++ over_fine arg_limit (map (λ (u : Use). u.at) (listed_uses rest)) within i ++ callees i;
        ops = λ i. length (op_tokens (n1 i)) + length (op_tokens (n2 i));
        labels = λ i. 0 + block_labels (n1 i) + block_labels (n2 i);
      }
