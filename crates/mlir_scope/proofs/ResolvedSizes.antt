-- Blocks without breaks stand for operations within the limits.
use Rattle.std.proofs.Common.{◌≡◌, ℕ, suc, ◌+◌, ◌<◌, ◌≤◌, nat_le, nat_lt, true, false, List, [], ◌∷◌, ◌++◌, length, map, max, refl, ap, ◌∙◌, sym, subst, arith, length-append}
use Rattle.std.proofs.lemmas.Bool.Decides.{nat_tests}
use Rattle.std.proofs.lemmas.List.{length-map}
use Rattle.std.specs.List.{list_all}
use Rattle.arith_word.specs.Labels.{label_at}
use Rattle.arith_word.specs.declared.label.Label.{Label}
use Rattle.mlir_ir.specs.Limits.{arg_limit, carried_limit, result_limit, region_limit, loop_limit}
use Rattle.mlir_ir.specs.Operations as plain
use Rattle.mlir_ir.specs.Operations.{OpKind, OpList, labels_of, inner_labels, count_of, inner_count}
use Rattle.mlir_ir.specs.Phrases.{Phrase, Line}
use Rattle.mlir_ir.specs.Resolved.{tys, packs_of, args_of, carried, values_of, kind_of, ops_of, items_of}
use Rattle.mlir_ir.specs.Rules.{is_short}
use Rattle.mlir_ir.specs.ScopeFaults.{broken, total, many_results, kind_breaks, block_breaks, op_tokens, item_tokens, wide_items}
use Rattle.mlir_ir.specs.Sized.{region_depth, inner_depth, loop_depth, inner_loops, passed_count, SizedOps, SizedRegions, SizedItems, items_count}
use Rattle.mlir_ir.specs.Source.{Block, none, op, Defined, Packed, Use, Written, listed_uses, listed_types, result_types, inits_of, after_params, head}
use Rattle.mlir_ir.specs.Values.{Value, result_values}
use Rattle.mlir_ir.specs.declared.scope_kind.ScopeKind.TheVariants.{Limit}
use Rattle.mlir_ir.specs.declared.terminal.Terminal.{Terminal}
use Rattle.mlir_ir.specs.declared.terminal.Terminal.TheVariants as terminals
use Rattle.mlir_ir.specs.declared.types.Arg.{Arg}
use Rattle.mlir_ir.specs.declared.types.IrType.{IrType}
use Rattle.mlir_ir.specs.declared.types.Pack.{Pack}
use Rattle.mlir_scope.proofs.Deriving.{Named}
use Rattle.mlir_scope.proofs.FunctionParts.{over_few, args_count, carried_few, items_fitting}
use Rattle.mlir_scope.proofs.NoBreaks.{Each, none_append, not_broken}
use Rattle.mlir_scope.proofs.OpParts.{result_tys, op_kept, alone_kept, if_kept, for_kept, while_kept}
use Rattle.mlir_scope.proofs.Shapes.{KindShape, has_regions, ShapedBlock}
use Rattle.mlir_scope.proofs.Tests.{eq_of}

-- names and lists

short_packs : (packs : List Packed) → Each (λ (p : Packed). Named p.name) packs → list_all (λ (pack : Pack). is_short pack.name) (packs_of packs) ≡ true
short_packs [] h = refl
short_packs (p ∷ packs) h = rw (h.0.1) (short_packs packs h.1)

short_carried : (inits : List (Defined × Use)) (types : List IrType) → Each (λ (p : Defined × Use). Named p.0.name) inits → list_all (λ (arg : Arg). is_short arg.name) (carried inits types) ≡ true
short_carried [] types h = refl
short_carried (i ∷ inits) [] h = refl
short_carried (i ∷ inits) (ty ∷ types) h = rw (h.0.1) (short_carried inits types h.1)

pub short_params : (params : List (Defined × Written)) → Each (λ (p : Defined × Written). Named p.0.name) params → list_all (λ (arg : Arg). is_short arg.name) (args_of params) ≡ true
short_params [] h = refl
short_params (p ∷ params) h = rw (h.0.1) (short_params params h.1)

not_many : (n at : ℕ) → broken (nat_lt result_limit n) at Limit ≡ [] → n ≤ result_limit
not_many n at h = let e = not_broken (nat_lt result_limit n) at Limit h in grind (arith, nat_tests)

few_results : (n : ℕ) (packs : List Packed) → n ≤ result_limit → many_results n packs ≡ [] → n + total packs ≤ result_limit
few_results n [] le h = omega arith
few_results n (p ∷ packs) le h =
    let a = none_append (broken (nat_lt result_limit (n + p.count)) p.at Limit) (many_results (n + p.count) packs) h in
    let rest = few_results (n + p.count) packs (not_many (n + p.count) p.at a.0) a.1 in
    omega arith

room_left : (loops : ℕ) → nat_le loop_limit loops ≡ false → loops + 1 ≤ loop_limit
room_left loops h = grind (arith, nat_tests)

-- what an operation in k regions and so many loops keeps of the limits, where its regions have at most n operations
record KindFit (k loops n : ℕ) (kind : OpKind) : Type 0 where
  inside : SizedRegions kind
  passed : passed_count kind ≤ arg_limit
  regions : k + inner_depth kind ≤ region_limit
  depth : loops + inner_loops kind ≤ loop_limit
  count : inner_count kind ≤ n

pub record ListFit (k loops n : ℕ) (ops : OpList) : Type 0 where
  pub inside : SizedOps ops
  pub regions : k + region_depth ops ≤ region_limit
  pub depth : loops + loop_depth ops ≤ loop_limit
  pub count : count_of ops ≤ n

-- an operation without regions
simple_fit : (k loops n : ℕ) (does : plain.SimpleOp) → k ≤ region_limit → loops ≤ loop_limit → passed_count (plain.Simple does) ≤ arg_limit → KindFit k loops n (plain.Simple does)
simple_fit k loops n does le le2 few = record { inside = tt; passed = few; regions = omega arith; depth = omega arith; count = omega arith }

over_both : (k a b n : ℕ) → k + 1 + a ≤ n → k + 1 + b ≤ n → k + (1 + max a b) ≤ n
over_both k a b n h g = omega arith

same_both : (k a b n : ℕ) → k + a ≤ n → k + b ≤ n → k + max a b ≤ n
same_both k a b n h g = omega arith

over_one : (k a n : ℕ) → k + 1 + a ≤ n → k + (1 + a) ≤ n
over_one k a n h = omega arith

sum_le : (a b x y : ℕ) → a ≤ x → b ≤ y → a + b ≤ x + y
sum_le a b x y h g = omega arith

one_le : (a x y : ℕ) → a ≤ x → a ≤ x + y
one_le a x y h = omega arith

few_carried : (inits : List (Defined × Use)) (types : List IrType) → length (map (λ (p : Defined × Use). p.0.at) inits) ≤ carried_limit → length (carried inits types) ≤ arg_limit
few_carried inits types h =
    let few = carried_few inits types in
    let same = length-map inits (λ (p : Defined × Use). p.0.at) in
    omega arith

few_params : (params : List (Defined × Written)) → length (map (λ (p : Defined × Written). p.0.at) params) ≤ arg_limit → length (args_of params) ≤ arg_limit
few_params params h =
    let count = args_count params in
    let same = length-map params (λ (p : Defined × Written). p.0.at) in
    omega arith

count_le : (spot : ℕ) (xs ys zs : List ℕ) (a b : ℕ) → a ≤ length xs + length ys → b ≤ length zs → 1 + a + b ≤ length (spot ∷ xs ++ ys ++ zs)
count_le spot xs ys zs a b h g =
    let e = length-append (spot ∷ xs ++ ys) zs in
    let f = length-append (spot ∷ xs) ys in
    omega arith

count_sum : (spot : ℕ) (xs ys zs : List ℕ) (a b : ℕ) → a ≤ length (spot ∷ xs ++ ys ++ []) → b ≤ length zs → a + b ≤ length (spot ∷ xs ++ ys ++ zs)
count_sum spot xs ys zs a b h g =
    let e = length-append (spot ∷ xs ++ ys) zs in
    let f = length-append (spot ∷ xs ++ ys) [] in
    omega arith

no_more : (n : ℕ) → 0 + n ≤ loop_limit → n ≤ loop_limit
no_more n h = omega arith

module _ (ls : List Line) (names : List (List ℕ)) where
  abbrev BlockFit : Block → Type 0
  BlockFit b =
      (k loops : ℕ) (s t : List Value) (at : ℕ) → ShapedBlock k b → k ≤ region_limit → loops ≤ loop_limit → block_breaks ls b loops t ≡ []
      → ListFit k loops (length (op_tokens b)) (ops_of names b s at)

  kind_fit : (c : Terminal) (kind : Phrase) (first second : Block) (k loops : ℕ) (s t : List Value) (at : ℕ) → KindShape c kind → (has_regions c ≡ true → k < region_limit)
      → Each (λ (p : Defined × Use). Named p.0.name) (inits_of kind) → Each (λ (p : Defined × Written). Named p.0.name) (after_params kind)
      → BlockFit first → BlockFit second → ShapedBlock (k + 1) first → ShapedBlock (k + 1) second → k ≤ region_limit → loops ≤ loop_limit
      → kind_breaks ls loops t c kind first second (block_breaks ls first) (block_breaks ls second) ≡ []
      → KindFit k loops (length (op_tokens first) + length (op_tokens second)) (kind_of names s at c kind (ops_of names first) (ops_of names second))
  kind_fit terminals.Constant kind first second k loops s t at sh room i p f1 f2 s1 s2 le le2 h = simple_fit k loops _ _ le le2 (omega arith)
  kind_fit terminals.Binary kind first second k loops s t at sh room i p f1 f2 s1 s2 le le2 h = simple_fit k loops _ _ le le2 (omega arith)
  kind_fit terminals.FlaggedBinary kind first second k loops s t at sh room i p f1 f2 s1 s2 le le2 h = simple_fit k loops _ _ le le2 (omega arith)
  kind_fit terminals.Cast kind first second k loops s t at sh room i p f1 f2 s1 s2 le le2 h = simple_fit k loops _ _ le le2 (omega arith)
  kind_fit terminals.FlaggedCast kind first second k loops s t at sh room i p f1 f2 s1 s2 le le2 h = simple_fit k loops _ _ le le2 (omega arith)
  kind_fit terminals.Compare kind first second k loops s t at sh room i p f1 f2 s1 s2 le le2 h = simple_fit k loops _ _ le le2 (omega arith)
  kind_fit terminals.Select kind first second k loops s t at sh room i p f1 f2 s1 s2 le le2 h = simple_fit k loops _ _ le le2 (omega arith)
  kind_fit terminals.Call kind first second k loops s t at sh room i p f1 f2 s1 s2 le le2 h =
      let a = none_append _ _ h in
      let b = none_append _ _ a.0 in
      let few = over_few arg_limit (map (λ (u : Use). u.at) (listed_uses kind)) b.1 in
      simple_fit k loops _ _ le le2 (subst (λ n. n ≤ arg_limit) (length-map {B = ℕ} (listed_uses kind) (λ (u : Use). u.at) ∙ sym (length-map {B = Label} (listed_uses kind) _)) few)
  kind_fit terminals.If kind first second k loops s t at sh room i p f1 f2 s1 s2 le le2 h =
      let w = if_kept loops t kind (tys (result_types kind)) first second (block_breaks ls first) (block_breaks ls second) h in
      let less : k + 1 ≤ region_limit = let r = room refl in omega arith in
      let ops = ops_of names first s at in
      let a = f1 (k + 1) loops s t at s1 less le2 w.first_inside in
      let b = f2 (k + 1) loops s t (at + labels_of ops) s2 less le2 w.second_inside in
      record {
        inside = (a.inside, b.inside);
        passed = omega arith;
        regions = over_both k _ _ region_limit a.regions b.regions;
        depth = same_both loops _ _ loop_limit a.depth b.depth;
        count = sum_le _ _ _ _ a.count b.count;
      }
  kind_fit terminals.For kind first second k loops s t at sh room i p f1 f2 s1 s2 le le2 h =
      let wanted = tys (result_types kind) in
      let w = for_kept loops t kind wanted first (block_breaks ls first) h in
      let less : k + 1 ≤ region_limit = let r = room refl in omega arith in
      let a = f1 (k + 1) (loops + 1) _ _ _ s1 less (room_left loops w.header.shallow) w.inside in
      let few = over_few carried_limit _ w.header.few in
      record {
        inside = (record { short = rw (sh.1.1) refl; few = omega arith }, record { short = short_carried (inits_of kind) wanted i; few = few_carried (inits_of kind) wanted few }, a.inside);
        passed = omega arith;
        regions = over_one k _ region_limit a.regions;
        depth = over_one loops _ loop_limit a.depth;
        count = one_le _ _ _ a.count;
      }
  kind_fit terminals.While kind first second k loops s t at sh room i p f1 f2 s1 s2 le le2 h =
      let wanted = tys (result_types kind) in
      let w = while_kept loops t kind wanted first second (block_breaks ls first) (block_breaks ls second) h in
      let less : k + 1 ≤ region_limit = let r = room refl in omega arith in
      let a = f1 (k + 1) (loops + 1) _ _ _ s1 less (room_left loops w.header.shallow) w.before_inside in
      let b = f2 (k + 1) (loops + 1) _ _ _ s2 less (room_left loops w.header.shallow) w.after_inside in
      record {
        inside = (record { short = short_carried (inits_of kind) (tys (listed_types kind)) i; few = few_carried (inits_of kind) (tys (listed_types kind)) (over_few carried_limit _ w.header.few) }, a.inside, record { short = short_params (after_params kind) p; few = few_params (after_params kind) (over_few arg_limit _ w.params.few) }, b.inside);
        passed = omega arith;
        regions = over_both k _ _ region_limit a.regions b.regions;
        depth = over_both loops _ _ loop_limit a.depth b.depth;
        count = sum_le _ _ _ _ a.count b.count;
      }
  kind_fit _ kind first second k loops s t at sh room i p f1 f2 s1 s2 le le2 h = absurd sh

  pub block_fit : (b : Block) → BlockFit b
  block_fit none k loops s t at sh le le2 h = record { inside = tt; regions = omega arith; depth = omega arith; count = omega arith }
  block_fit (op spot packs kind first second rest) k loops s t at sh le le2 h =
      let w = op_kept ls spot packs kind first second rest loops t h in
      let what = kind_of names s at (head kind) kind (ops_of names first) (ops_of names second) in
      let a = kind_fit (head kind) kind first second k loops s t at sh.0.does sh.0.open_room sh.0.inits_named sh.0.params_named (block_fit first) (block_fit second) sh.1 sh.2 le le2 w.inside in
      let b = block_fit rest k loops (s ++ result_values (at + inner_labels what) (packs_of packs) (result_tys kind)) (t ++ result_values 0 (packs_of packs) (result_tys kind)) (at + (inner_labels what + length (result_tys kind))) sh.3 le le2 w.behind in
      let few = few_results 0 packs (omega arith) w.packed.few in
      let many = eq_of (total packs) (length (result_tys kind)) w.packed.all_named in
      record {
        inside = (record { short = short_packs packs sh.0.packs_named; few = omega arith; few_passed = a.passed }, a.inside, b.inside);
        regions = same_both k _ _ region_limit a.regions b.regions;
        depth = same_both loops _ _ loop_limit a.depth b.depth;
        count = count_le spot (op_tokens first) (op_tokens second) (op_tokens rest) (inner_count what) _ a.count b.count;
      }

  -- an item by itself
  item_sized : (spot : ℕ) (packs : List Packed) (kind : Phrase) (first second rest : Block) (s t : List Value) (at : ℕ) → ShapedBlock 1 (op spot packs kind first second rest)
      → block_breaks ls (op spot packs kind first second rest) 0 t ≡ []
      → ListFit 1 0 (length (op_tokens (op spot packs kind first second none))) (ops_of names (op spot packs kind first second none) s at)
  item_sized spot packs kind first second rest s t at sh h =
      block_fit (op spot packs kind first second none) 1 0 s t at (sh.0, sh.1, sh.2, tt) (omega arith) (omega arith) (alone_kept ls spot packs kind first second rest 0 t h)

  pub record ItemsFit (b : Block) (items : List OpList) : Type 0 where
    pub inside : SizedItems items
    pub few : length items ≡ length (item_tokens b)
    pub few_ops : items_count items ≤ length (op_tokens b)

  pub items_sized : (func k : ℕ) (b : Block) (s t : List Value) → ShapedBlock 1 b → block_breaks ls b 0 t ≡ [] → wide_items b ≡ [] → ItemsFit b (items_of names func k b s)
  items_sized func k none s t sh h w = record { inside = tt; few = refl; few_ops = omega arith }
  items_sized func k (op spot packs kind first second rest) s t sh h w =
      let at = label_at func k 0 in
      let alone = op spot packs kind first second none in
      let item = ops_of names alone s at in
      let a = item_sized spot packs kind first second rest s t at sh h in
      let fitting = items_fitting ls names func k (op spot packs kind first second rest) s t h w in
      let b = items_sized func (k + 1) rest (s ++ values_of at item) (t ++ result_values 0 (packs_of packs) (result_tys kind)) sh.3 (op_kept ls spot packs kind first second rest 0 t h).behind (none_append _ _ w).1 in
      record {
        inside = (record { labels = fitting.0; regions = a.regions; loops = no_more (loop_depth item) a.depth; inside = a.inside }, b.inside);
        few = ap suc b.few;
        few_ops = count_sum spot (op_tokens first) (op_tokens second) (op_tokens rest) (count_of item) _ a.count b.few_ops;
      }
