-- What holds of the parts of a function without breaks: its limits, and the labels of its items.
use Rattle.std.proofs.Common.{◌≡◌, ℕ, zero, suc, ◌+◌, ◌≤◌, nat_lt, List, [], ◌∷◌, ◌++◌, length, map, slice_get, refl, arith, Some}
use Rattle.std.proofs.lemmas.Bool.Decides.{nat_tests}
use Rattle.std.specs.List.{flat_map}
use Rattle.arith_word.specs.Labels.{label_at}
use Rattle.mlir_ir.specs.Limits.{arg_limit, result_limit, item_limit, op_limit, label_limit}
use Rattle.mlir_ir.specs.Operations.{labels_of, inner_labels}
use Rattle.mlir_ir.specs.Phrases.{Phrase, Line, lines, inside}
use Rattle.mlir_ir.specs.Resolved.{tys, packs_of, args_of, carried, func_args, values_of, kind_of, ops_of, items_of}
use Rattle.mlir_ir.specs.ScopeFaults.{broken, over, repeated, total, block_breaks, kind_breaks, defined_by, op_tokens, item_tokens, header_labels, block_labels, wide_items, body_breaks, arg_tokens, func_breaks}
use Rattle.mlir_ir.specs.Source.{Block, none, op, Defined, Use, Written, block, params_in, listed_types, result_types, inits_of, after_params, ending, head}
use Rattle.mlir_ir.specs.Values.{Value, arg_values, result_values}
use Rattle.mlir_ir.specs.declared.scope_kind.ScopeKind.TheVariants.{Limit}
use Rattle.mlir_ir.specs.declared.syntax.Form.TheVariants as forms
use Rattle.mlir_ir.specs.declared.terminal.Terminal.{Terminal}
use Rattle.mlir_ir.specs.declared.terminal.Terminal.TheVariants as terminals
use Rattle.mlir_ir.specs.declared.types.IrType.{IrType}
use Rattle.mlir_scope.proofs.NoBreaks.{Each, none_append, not_broken}
use Rattle.mlir_scope.proofs.OpParts.{EndKept, end_kept, result_tys, op_kept, alone_kept, if_kept, for_kept, while_kept}
use Rattle.mlir_scope.proofs.PlainRises.{Fitting}
use Rattle.mlir_scope.proofs.Tests.{eq_of}

pub over_few : (n : ℕ) (xs : List ℕ) → over n xs ≡ [] → length xs ≤ n
over_few zero [] h = omega arith
over_few zero (x ∷ xs) h = cc
over_few (suc n) [] h = omega arith
over_few (suc n) (x ∷ xs) h = let le = over_few n xs h in omega arith

pub flat_none : {X Y : Type 0} (f : X → List Y) (xs : List X) → flat_map f xs ≡ [] → Each (λ x. f x ≡ []) xs
flat_none f [] h = tt
flat_none f (x ∷ xs) h = let a = none_append (f x) (flat_map f xs) h in (a.0, flat_none f xs a.1)

pub each_at : {X : Type 0} (P : X → Type 0) (xs : List X) (k : ℕ) (x : X) → Each P xs → slice_get xs k ≡ Some x → P x
each_at P [] k x h e = cc
each_at P (y ∷ xs) zero x h e = let same : y ≡ x = cc in rw same at h.0
each_at P (y ∷ xs) (suc k) x h e = each_at P xs k x h.1 e

pub record FuncParts (ls : List Line) (f : Line) : Type 0 where
  pub apart : repeated [] (map (λ (p : Defined × Written). p.0) (params_in (inside forms.Params f.parts))) ≡ []
  pub few_args : length (arg_tokens f) ≤ arg_limit
  pub few_results : length (map (λ (t : Written). t.at) (result_types f.parts)) ≤ result_limit
  pub bodies : Each (λ (body : Line). body_breaks ls f body ≡ []) (lines forms.Body f.parts)

pub func_parts : (ls : List Line) (f : Line) → func_breaks ls f ≡ [] → FuncParts ls f
func_parts ls f h =
    let a = none_append _ _ h in
    let b = none_append _ _ a.0 in
    let c = none_append _ _ b.0 in
    record { apart = c.0; few_args = over_few arg_limit (arg_tokens f) c.1; few_results = over_few result_limit _ b.1; bodies = flat_none (body_breaks ls f) (lines forms.Body f.parts) a.1 }

pub record BodyParts (ls : List Line) (f body : Line) : Type 0 where
  pub few_items : length (item_tokens (block body.parts)) ≤ item_limit
  pub few_ops : length (op_tokens (block body.parts)) ≤ op_limit
  pub narrow : wide_items (block body.parts) ≡ []
  pub inside : block_breaks ls (block body.parts) 0 (arg_values 0 (func_args f)) ≡ []
  pub returned : EndKept (arg_values 0 (func_args f) ++ defined_by (block body.parts)) (tys (result_types f.parts)) (ending terminals.Return body.parts)

pub body_parts : (ls : List Line) (f body : Line) → body_breaks ls f body ≡ [] → BodyParts ls f body
body_parts ls f body h =
    let a = none_append _ _ h in
    let b = none_append _ _ a.0 in
    let c = none_append _ _ b.0 in
    let d = none_append _ _ c.0 in
    record {
      few_items = over_few item_limit (item_tokens (block body.parts)) d.0;
      few_ops = over_few op_limit (op_tokens (block body.parts)) d.1;
      narrow = c.1;
      inside = b.1;
      returned = end_kept (arg_values 0 (func_args f) ++ defined_by (block body.parts)) (tys (result_types f.parts)) (ending terminals.Return body.parts) a.1;
    }

-- numbers of labels

pub carried_few : (inits : List (Defined × Use)) (types : List IrType) → length (carried inits types) ≤ length inits
carried_few [] types = omega arith
carried_few (i ∷ inits) [] = omega arith
carried_few (i ∷ inits) (ty ∷ types) = let le = carried_few inits types in omega arith

pub args_count : (params : List (Defined × Written)) → length (args_of params) ≡ length params
args_count [] = refl
args_count (p ∷ params) = rw (args_count params) refl

for_le : (x y p q z : ℕ) → x ≤ y → p ≤ q → 2 + x + p ≤ 2 + y + q + z
for_le x y p q z h g = omega arith

while_le : (x y p q m n u v : ℕ) → x ≤ y → p ≤ q → m ≡ n → u ≤ v → 1 + x + p + m + u ≤ 1 + y + n + q + v
while_le x y p q m n u v h g e k = omega arith

le_both : (a b c : ℕ) → a ≤ b → b ≤ c → a ≤ c
le_both a b c h g = omega arith

module _ (ls : List Line) (names : List (List ℕ)) where
  abbrev BlockCounts : Block → Type 0
  BlockCounts b = (loops : ℕ) (s t : List Value) (at : ℕ) → block_breaks ls b loops t ≡ [] → labels_of (ops_of names b s at) ≤ block_labels b

  kind_counts : (c : Terminal) (kind : Phrase) (first second : Block) → BlockCounts first → BlockCounts second → (loops : ℕ) (s t : List Value) (at : ℕ)
      → kind_breaks ls loops t c kind first second (block_breaks ls first) (block_breaks ls second) ≡ []
      → inner_labels (kind_of names s at c kind (ops_of names first) (ops_of names second)) ≤ header_labels c kind + block_labels first + block_labels second
  kind_counts terminals.If kind first second f1 f2 loops s t at h =
      let k = if_kept loops t kind (tys (result_types kind)) first second (block_breaks ls first) (block_breaks ls second) h in
      let a = f1 loops s t at k.first_inside in
      let b = f2 loops s t (at + labels_of (ops_of names first s at)) k.second_inside in
      omega arith
  kind_counts terminals.For kind first second f1 f2 loops s t at h =
      let wanted = tys (result_types kind) in
      let k = for_kept loops t kind wanted first (block_breaks ls first) h in
      let a = f1 (loops + 1) _ _ _ k.inside in
      for_le (length (carried (inits_of kind) wanted)) (length (inits_of kind)) _ (block_labels first) (block_labels second) (carried_few (inits_of kind) wanted) a
  kind_counts terminals.While kind first second f1 f2 loops s t at h =
      let wanted = tys (result_types kind) in
      let k = while_kept loops t kind wanted first second (block_breaks ls first) (block_breaks ls second) h in
      let a = f1 (loops + 1) _ _ _ k.before_inside in
      let b = f2 (loops + 1) _ _ _ k.after_inside in
      while_le (length (carried (inits_of kind) (tys (listed_types kind)))) (length (inits_of kind)) _ (block_labels first) (length (args_of (after_params kind))) (length (after_params kind)) _ (block_labels second)
      (carried_few (inits_of kind) (tys (listed_types kind))) a (args_count (after_params kind)) b
  kind_counts _ kind first second f1 f2 loops s t at h = omega arith

  pub block_counts : (b : Block) → BlockCounts b
  block_counts none loops s t at h = omega arith
  block_counts (op spot packs kind first second rest) loops s t at h =
      let k = op_kept ls spot packs kind first second rest loops t h in
      let a = kind_counts (head kind) kind first second (block_counts first) (block_counts second) loops s t at k.inside in
      let b = block_counts rest loops (s ++ result_values (at + inner_labels (kind_of names s at (head kind) kind (ops_of names first) (ops_of names second))) (packs_of packs) (result_tys kind)) (t ++ result_values 0 (packs_of packs) (result_tys kind)) (at + (inner_labels (kind_of names s at (head kind) kind (ops_of names first) (ops_of names second)) + length (result_tys kind))) k.behind in
      let c = eq_of (total packs) (length (result_tys kind)) k.packed.all_named in
      omega arith

  not_wide : (n at : ℕ) → broken (nat_lt label_limit n) at Limit ≡ [] → n ≤ label_limit
  not_wide n at h = let e = not_broken (nat_lt label_limit n) at Limit h in grind (arith, nat_tests)

  pub items_fitting : (func k : ℕ) (b : Block) (s t : List Value) → block_breaks ls b 0 t ≡ [] → wide_items b ≡ [] → Each Fitting (items_of names func k b s)
  items_fitting func k none s t h w = tt
  items_fitting func k (op spot packs kind first second rest) s t h w =
      let alone = op spot packs kind first second none in
      let a = none_append _ _ w in
      let at = label_at func k 0 in
      let few = block_counts alone 0 s t at (alone_kept ls spot packs kind first second rest 0 t h) in
      let less = not_wide (block_labels alone) spot a.0 in
      (le_both (labels_of (ops_of names alone s at)) (block_labels alone) label_limit few less, items_fitting func (k + 1) rest (s ++ values_of at (ops_of names alone s at)) (t ++ result_values 0 (packs_of packs) (result_tys kind)) (op_kept ls spot packs kind first second rest 0 t h).behind a.1)
