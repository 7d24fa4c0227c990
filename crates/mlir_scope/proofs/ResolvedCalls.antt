-- The calls that a block without breaks stands for fit their callees.
use Rattle.std.proofs.Common.{◌≡◌, ℕ, suc, ◌+◌, ◌<◌, ◌==◌, not, ◌||◌, true, false, List, [], ◌∷◌, ◌++◌, length, map, slice_get, refl, ap, ◌∙◌, sym, arith, append-nil, cond, Option, None, Some}
use Rattle.std.proofs.lemmas.Option.{slice_get_within}
use Rattle.std.specs.Option.{option_map_or}
use Rattle.std.specs.Prelude.{find}
use Rattle.std.specs.Str.{bytes_eq}
use Rattle.arith_word.specs.Labels.{label_at}
use Rattle.arith_word.specs.declared.label.Label.{Label}
use Rattle.mlir_ir.specs.Calls.{Called}
use Rattle.mlir_ir.specs.Operations.{OpList, labels_of, inner_labels}
use Rattle.mlir_ir.specs.Operations as plain
use Rattle.mlir_ir.specs.Phrases.{Phrase, Line, spots, first_spot}
use Rattle.mlir_ir.specs.Resolved.{labels, tys, packs_of, args_of, carried, variable_type, func_name, func_args, place_named, values_of, kind_of, ops_of, items_of}
use Rattle.mlir_ir.specs.ScopeFaults.{Break, broken, uses_breaks, written_breaks, call_types, call_breaks, operands, kind_breaks, block_breaks}
use Rattle.mlir_ir.specs.Source.{Block, none, op, Written, unsigned, listed_uses, listed_types, result_types, types_in, inits_of, after_params, head, word, op_types}
use Rattle.mlir_ir.specs.Rules.{same_type}
use Rattle.mlir_ir.specs.Values.{Value, arg_values, result_values}
use Rattle.mlir_ir.specs.declared.scope_kind.ScopeKind.TheVariants.{Unknown, Arity, WrongType}
use Rattle.mlir_ir.specs.declared.terminal.Terminal.{Terminal}
use Rattle.mlir_ir.specs.declared.terminal.Terminal.TheVariants as terminals
use Rattle.mlir_ir.specs.declared.types.Arg.{Arg}
use Rattle.mlir_ir.specs.declared.types.IrType.{IrType}
use Rattle.mlir_scope.proofs.NoBreaks.{Each, each_append, each_split, none_append, not_broken}
use Rattle.mlir_scope.proofs.OpParts.{result_tys, alone_kept, op_kept, list_kept, if_kept, for_kept, while_kept, variable}
use Rattle.mlir_scope.proofs.PlainValues.{calls_of, calls_in, all_values, values_in, items_called, items_all}
use Rattle.mlir_scope.proofs.ScopeUses.{Alike, Seen, unlabelled, alike_append, args_alike, results_alike, same_type_is, uses_typed}
use Rattle.mlir_scope.proofs.Shapes.{KindShape, ShapedBlock}
use Rattle.mlir_scope.proofs.Tests.{eq_of, not_false, or_false}

-- written types

not_same : (a b : IrType) (at : ℕ) → broken (not (same_type a b)) at WrongType ≡ [] → a ≡ b
not_same a b at h = same_type_is a b (not_false (same_type a b) (not_broken (not (same_type a b)) at WrongType h))

pub written_same : (ws : List Written) (wanted : List IrType) → written_breaks ws wanted ≡ [] → length ws ≡ length wanted → tys ws ≡ wanted
written_same [] [] h n = refl
written_same [] (ty ∷ wanted) h n = absurd (omega arith)
written_same (w ∷ ws) [] h n = absurd (omega arith)
written_same (w ∷ ws) (ty ∷ wanted) h n =
    let a = none_append (broken (not (same_type w.ty ty)) w.at WrongType) (written_breaks ws wanted) h in
    let first = not_same w.ty ty w.at a.0 in
    let rest = written_same ws wanted a.1 (omega arith) in
    λ j. first j ∷ rest j

pub tys_length : (ws : List Written) → length (tys ws) ≡ length ws
tys_length [] = refl
tys_length (w ∷ ws) = rw (tys_length ws) refl

some_tys : (args : List Arg) → map Some (map (λ (a : Arg). a.ty) args) ≡ map (λ (a : Arg). Some a.ty) args
some_tys [] = refl
some_tys (a ∷ args) = ap (λ o. Some a.ty ∷ o) (some_tys args)

-- the function with a name is at its place
pub found_place : (name : List ℕ) (ls : List Line) (l : Line) → find (λ (f : Line). bytes_eq (func_name f) name) ls ≡ Some l → slice_get ls (place_named name (map func_name ls)) ≡ Some l
found_place name [] l e = cc
found_place name (x ∷ ls) l e =
    elim (bytes_eq (func_name x) name) as (λ b. cond b (Some x) (find (λ (f : Line). bytes_eq (func_name f) name) ls) ≡ Some l → slice_get (x ∷ ls) (cond b 0 (1 + place_named name (map func_name ls))) ≡ Some l) [
      | true ↦ λ e. e
      | false ↦ λ e.
          let past : 1 + place_named name (map func_name ls) ≡ suc (place_named name (map func_name ls)) = omega arith in
          rw past (found_place name ls l e)
    ] e

some_line : (o : Option Line) (P : Line → List Break) (at : ℕ) → option_map_or P o (broken true at Unknown) ≡ [] → (l : Line) × (o ≡ Some l) × (P l ≡ [])
some_line None P at h = cc
some_line (Some l) P at h = (l, refl, h)

types_fit : (t : List Value) (at : ℕ) (kind : Phrase) (args results : List IrType) → call_types t at kind args results ≡ []
    → (tys (listed_types kind) ≡ args) × (tys (result_types kind) ≡ results)
types_fit t at kind args results h =
    let c = none_append (written_breaks (listed_types kind) args ++ written_breaks (result_types kind) results) (broken (not (length (listed_types kind) == length args) || not (length (result_types kind) == length results)) at Arity) h in
    let d = none_append (written_breaks (listed_types kind) args) (written_breaks (result_types kind) results) c.0 in
    let e = or_false (not (length (listed_types kind) == length args)) (not (length (result_types kind) == length results)) (not_broken _ at Arity c.1) in
    (written_same (listed_types kind) args d.0 (eq_of _ _ (not_false _ e.0)), written_same (result_types kind) results d.1 (eq_of _ _ (not_false _ e.1)))

some_same : {X : Type 0} (a b : X) → Some a ≡ Some b → a ≡ b
some_same a b h = cc

-- scopes that grow
pub nothing_alike : (s t : List Value) → Alike s t → Alike (s ++ []) t
nothing_alike s t h = ap (map unlabelled) (append-nil s) ∙ h

-- what stands outside regions is among all values
pub each_outer : (P : Value → Type 0) (at : ℕ) (ops : OpList) → Each P (all_values at ops) → Each P (values_of at ops)
each_outer P at plain.nil h = tt
each_outer P at (plain.next packs results kind rest) h =
    let a = each_split P (values_in at kind ++ result_values (at + inner_labels kind) packs results) (all_values (at + (inner_labels kind + length results)) rest) h in
    let b = each_split P (values_in at kind) (result_values (at + inner_labels kind) packs results) a.0 in
    each_append P (result_values (at + inner_labels kind) packs results) (values_of (at + (inner_labels kind + length results)) rest) b.1
    (each_outer P (at + (inner_labels kind + length results)) rest a.1)

module _ (ls : List Line) (T : ℕ → Option IrType) where
  abbrev names : List (List ℕ)
  names = map func_name ls

  -- a call fits the line of its callee
  abbrev pub FitsLine : Called → Type 0
  FitsLine call =
      (call.func < length ls)
      × ((l : Line) → slice_get ls call.func ≡ Some l
      → (map (λ (u : Label). T u.0) call.uses ≡ map (λ (a : Arg). Some a.ty) (func_args l)) × (call.results ≡ tys (result_types l.parts)))

  callee_fits : (t : List Value) (at : ℕ) (kind : Phrase) (passed : List (Option IrType)) (us : List Label) → map (λ (u : Label). T u.0) us ≡ passed → passed ≡ map Some (tys (listed_types kind))
      → (l : Line) × (find (λ (f : Line). bytes_eq (func_name f) (unsigned (first_spot (spots terminals.Symbol kind)).text)) ls ≡ Some l) × (call_types t at kind (map (λ (x : Arg). x.ty) (func_args l)) (tys (result_types l.parts)) ≡ [])
      → FitsLine (record { func = place_named (unsigned (first_spot (spots terminals.Symbol kind)).text) names; uses = us; results = tys (result_types kind) })
  callee_fits t at kind passed us e p c =
      let place = found_place (unsigned (first_spot (spots terminals.Symbol kind)).text) ls c.0 c.1 in
      let fit = types_fit t at kind (map (λ (x : Arg). x.ty) (func_args c.0)) (tys (result_types c.0.parts)) c.2 in (
        slice_get_within ls _ c.0 place,
        λ l k.
            let same : c.0 ≡ l = some_same c.0 l (sym place ∙ k) in
            rw (← same) (e ∙ p ∙ ap (map Some) fit.0 ∙ some_tys (func_args c.0), fit.1),
      )

  call_fits : (s t : List Value) (kind : Phrase) → Alike s t → Each (Seen T) s → uses_breaks t (word kind).at (listed_uses kind) ≡ [] → call_breaks ls t kind ≡ []
      → FitsLine (record { func = place_named (unsigned (first_spot (spots terminals.Symbol kind)).text) names; uses = labels s (listed_uses kind); results = tys (result_types kind) })
  call_fits s t kind al g used h =
      let at = (word kind).at in
      let a = none_append _ _ h in
      let b = none_append _ _ a.0 in
      let listed = list_kept t at (listed_uses kind) (tys (listed_types kind)) b.0 in
      let passed = uses_typed T s t at al g (listed_uses kind) (tys (listed_types kind)) used listed.fit (eq_of _ _ listed.many) in
      callee_fits t at kind (map (λ (u : Label). T u.0) (labels s (listed_uses kind))) (labels s (listed_uses kind)) refl passed
      (some_line _ (λ (f : Line). call_types t at kind (map (λ (x : Arg). x.ty) (func_args f)) (tys (result_types f.parts))) _ a.1)

  abbrev BlockFits : Block → Type 0
  BlockFits b =
      (loops : ℕ) (s t : List Value) (at : ℕ) → block_breaks ls b loops t ≡ [] → Alike s t → Each (Seen T) s → Each (Seen T) (all_values at (ops_of names b s at))
      → Each FitsLine (calls_of (ops_of names b s at))

  kind_fits : (c : Terminal) (kind : Phrase) (first second : Block) → KindShape c kind → BlockFits first → BlockFits second → (loops : ℕ) (s t : List Value) (at : ℕ)
      → kind_breaks ls loops t c kind first second (block_breaks ls first) (block_breaks ls second) ≡ [] → uses_breaks t (word kind).at (operands c kind) ≡ []
      → Alike s t → Each (Seen T) s → Each (Seen T) (values_in at (kind_of names s at c kind (ops_of names first) (ops_of names second)))
      → Each FitsLine (calls_in (tys (op_types c kind)) (kind_of names s at c kind (ops_of names first) (ops_of names second)))
  kind_fits terminals.Constant kind first second sh f1 f2 loops s t at h used al g v = tt
  kind_fits terminals.Binary kind first second sh f1 f2 loops s t at h used al g v = tt
  kind_fits terminals.FlaggedBinary kind first second sh f1 f2 loops s t at h used al g v = tt
  kind_fits terminals.Cast kind first second sh f1 f2 loops s t at h used al g v = tt
  kind_fits terminals.FlaggedCast kind first second sh f1 f2 loops s t at h used al g v = tt
  kind_fits terminals.Compare kind first second sh f1 f2 loops s t at h used al g v = tt
  kind_fits terminals.Select kind first second sh f1 f2 loops s t at h used al g v = tt
  kind_fits terminals.Call kind first second sh f1 f2 loops s t at h used al g v = (call_fits s t kind al g used h, tt)
  kind_fits terminals.If kind first second sh f1 f2 loops s t at h used al g v =
      let k = if_kept loops t kind (tys (result_types kind)) first second (block_breaks ls first) (block_breaks ls second) h in
      let ops = ops_of names first s at in
      let past = at + labels_of ops in
      let w = each_split (Seen T) (all_values at ops) (all_values past (ops_of names second s past)) v in
      each_append FitsLine (calls_of ops) (calls_of (ops_of names second s past)) (f1 loops s t at k.first_inside al g w.0) (f2 loops s t past k.second_inside al g w.1)
  kind_fits terminals.For kind first second sh f1 f2 loops s t at h used al g v =
      let wanted = tys (result_types kind) in
      let k = for_kept loops t kind wanted first (block_breaks ls first) h in
      let iv : Arg = record { name = (variable loops t kind wanted).name; ty = variable_type (types_in kind) } in
      let args = iv ∷ carried (inits_of kind) wanted in
      let w = each_split (Seen T) (arg_values (at + 1) args) (all_values (at + 2 + length (carried (inits_of kind) wanted)) (ops_of names first (s ++ arg_values (at + 1) args) (at + 2 + length (carried (inits_of kind) wanted)))) v in
      f1 (loops + 1) (s ++ arg_values (at + 1) args) (t ++ arg_values 0 args) (at + 2 + length (carried (inits_of kind) wanted)) k.inside
      (alike_append s t (arg_values (at + 1) args) (arg_values 0 args) al (args_alike (at + 1) 0 args)) (each_append (Seen T) s (arg_values (at + 1) args) g w.0) w.1
  kind_fits terminals.While kind first second sh f1 f2 loops s t at h used al g v =
      let wanted = tys (result_types kind) in
      let k = while_kept loops t kind wanted first second (block_breaks ls first) (block_breaks ls second) h in
      let args = carried (inits_of kind) (tys (listed_types kind)) in
      let b = at + 1 + length args in
      let s1 = s ++ arg_values (at + 1) args in
      let before = ops_of names first s1 b in
      let c = b + labels_of before in
      let params = args_of (after_params kind) in
      let s2 = s ++ arg_values c params in
      let after = ops_of names second s2 (c + length params) in
      let w = each_split (Seen T) (arg_values (at + 1) args ++ all_values b before ++ arg_values c params) (all_values (c + length params) after) v in
      let x = each_split (Seen T) (arg_values (at + 1) args ++ all_values b before) (arg_values c params) w.0 in
      let y = each_split (Seen T) (arg_values (at + 1) args) (all_values b before) x.0 in
      each_append FitsLine (calls_of before) (calls_of after)
      (f1 (loops + 1) s1 (t ++ arg_values 0 args) b k.before_inside
      (alike_append s t (arg_values (at + 1) args) (arg_values 0 args) al (args_alike (at + 1) 0 args)) (each_append (Seen T) s (arg_values (at + 1) args) g y.0) y.1)
      (f2 (loops + 1) s2 (t ++ arg_values 0 params) (c + length params) k.after_inside
      (alike_append s t (arg_values c params) (arg_values 0 params) al (args_alike c 0 params)) (each_append (Seen T) s (arg_values c params) g x.1) w.1)
  kind_fits _ kind first second sh f1 f2 loops s t at h used al g v = absurd sh

  pub block_fits : (n : ℕ) (b : Block) → ShapedBlock n b → BlockFits b
  block_fits n none sh loops s t at h al g v = tt
  block_fits n (op spot packs kind first second rest) sh loops s t at h al g v =
      let k = op_kept ls spot packs kind first second rest loops t h in
      let what = kind_of names s at (head kind) kind (ops_of names first) (ops_of names second) in
      let results = result_tys kind in
      let here = result_values (at + inner_labels what) (packs_of packs) results in
      let past = at + (inner_labels what + length results) in
      let more = ops_of names rest (s ++ here) past in
      let a = each_split (Seen T) (values_in at what ++ here) (all_values past more) v in
      let b = each_split (Seen T) (values_in at what) here a.0 in
      each_append FitsLine (calls_in results what) (calls_of more)
      (kind_fits (head kind) kind first second sh.0.does (block_fits (n + 1) first sh.1) (block_fits (n + 1) second sh.2) loops s t at k.inside k.used al g b.0)
      (block_fits n rest sh.3 loops (s ++ here) (t ++ result_values 0 (packs_of packs) results) past k.behind
      (alike_append s t here (result_values 0 (packs_of packs) results) al (results_alike (at + inner_labels what) 0 (packs_of packs) results)) (each_append (Seen T) s here g b.1) a.1)

  -- the items of a body
  pub items_fit : (func k : ℕ) (b : Block) → ShapedBlock 1 b → (s t : List Value) → block_breaks ls b 0 t ≡ [] → Alike s t → Each (Seen T) s → Each (Seen T) (items_all func k (items_of names func k b s))
      → Each FitsLine (items_called (items_of names func k b s))
  items_fit func k none sh s t h al g v = tt
  items_fit func k (op spot packs kind first second rest) sh s t h al g v =
      let at = label_at func k 0 in
      let alone = op spot packs kind first second none in
      let item = ops_of names alone s at in
      let what = kind_of names s at (head kind) kind (ops_of names first) (ops_of names second) in
      let results = result_tys kind in
      let here = result_values (at + inner_labels what) (packs_of packs) results in
      let more = items_of names func (k + 1) rest (s ++ values_of at item) in
      let a = each_split (Seen T) (all_values at item) (items_all func (k + 1) more) v in
      each_append FitsLine (calls_of item) (items_called more)
      (block_fits 1 alone (sh.0, sh.1, sh.2, tt) 0 s t at (alone_kept ls spot packs kind first second rest 0 t h) al g a.0)
      (items_fit func (k + 1) rest sh.3 (s ++ values_of at item) (t ++ result_values 0 (packs_of packs) results) (op_kept ls spot packs kind first second rest 0 t h).behind
      (alike_append s t (here ++ []) (result_values 0 (packs_of packs) results) al (nothing_alike here (result_values 0 (packs_of packs) results) (results_alike (at + inner_labels what) 0 (packs_of packs) results)))
      (each_append (Seen T) s (values_of at item) g (each_outer (Seen T) at item a.0)) a.1)
