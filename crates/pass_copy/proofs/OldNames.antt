-- The names and values of a function: no name is fresh, and there are no more than labels.
use Rattle.std.proofs.Common.{◌≡◌, ℕ, zero, suc, ◌+◌, ◌-◌, ◌*◌, ◌<◌, ◌≤◌, ◌&&◌, inl, inr, nat_lt, nat_le, true, false, List, [], ◌∷◌, ◌++◌, length, take, drop, refl, ◌∙◌, sym, subst, arith, length-drop, length-append}
use Rattle.std.proofs.lemmas.Bool.Decides.{nat_tests}
use Rattle.std.proofs.lemmas.List.Folds.{list_any-append}
use Rattle.std.proofs.lemmas.Slice.Eq.{bytes_eq-Decides}
use Rattle.std.proofs.lemmas.Bool.{and_parts, cases_Bool, or_parts, true≢false}
use Rattle.std.proofs.lemmas.List.Elements.{All-head, All-tail}
use Rattle.std.specs.List.{All, list_any}
use Rattle.mlir_ir.specs.Limits.{label_limit}
use Rattle.mlir_ir.specs.Places.{HasFewLabels}
use Rattle.std.specs.Str.{bytes_eq}
use Rattle.arith_word.specs.Labels.{label_at}
use Rattle.mlir_ir.specs.Labels.{row_labels, kind_labels, op_labels, ops_labels}
use Rattle.mlir_ir.specs.Operations as plain
use Rattle.mlir_ir.specs.Rules.{arg_types, packs_hold}
use Rattle.mlir_ir.specs.Typed.{Types, with_types, types_after, TypedOps, TypedRegions, TypedItems}
use Rattle.mlir_ir.specs.Values.{Value, arg_values, pack_values, result_values, row_values, kind_values, op_values, ops_values, items_values}
use Rattle.mlir_ir.specs.View.{view_row, view_kind, view_ops, view_items}
use Rattle.mlir_ir.specs.declared.types.Arg.{Arg}
use Rattle.mlir_ir.specs.declared.types.IrType.{IrType}
use Rattle.mlir_ir.specs.declared.types.Item.{Item}
use Rattle.mlir_ir.specs.declared.types.Op.{Op}
use Rattle.mlir_ir.specs.declared.types.Pack.{Pack}
use Rattle.mlir_ir.specs.declared.types.Region.{Region', Row_of-Op, end_of-Op, more_of-Op}
use Rattle.mlir_ir.specs.declared.types.Kind.{Kind, Const, Bin, Cast, Cmp, Select, Call, If', For, While, None', Some'}
use Rattle.mlir_ir.specs.declared.types.ForParts.{ForParts'}
use Rattle.mlir_ir.specs.declared.types.WhileParts.{WhileParts'}
use Rattle.pass_copy.specs.Renamed.{names_of, inner_names}
use Rattle.pass_copy.specs.Replaced.{Operation, StandsIn, StandsInside}
use Rattle.pass_copy.proofs.TypedItems.{OldItems}
use Rattle.pass_copy.proofs.NamedRenamed.{IsOld, OldArgs, OldPacks, OldOps, OldRegions}

none_held : (c : ℕ) → nat_le (suc c) 0 ≡ true → ⊥
none_held c h = grind (arith, nat_tests)

-- the packs of each operation hold its results

abbrev mutual
  pub Packed : plain.OpList → Type 0
  Packed plain.nil = Unit {0}
  Packed (plain.next packs results kind rest) = (packs_hold packs (length results) ≡ true) × PackedRegions kind × Packed rest

  pub PackedRegions : plain.OpKind → Type 0
  PackedRegions (plain.Simple does) = Unit {0}
  PackedRegions (plain.If c first firsts has_else other others) = Packed first × Packed other
  PackedRegions (plain.For lower upper step iv args inits body ends) = Packed body
  PackedRegions (plain.While args inits before passed cond after_args after ends) = Packed before × Packed after

mutual
  pub packed_ops : (T : Types) (at : ℕ) (ops : plain.OpList) → TypedOps T at ops → Packed ops
  packed_ops T at plain.nil h = tt
  packed_ops T at (plain.next packs results kind rest) h =
      (h.0.packed, packed_regions T at results kind h.1, packed_ops (with_types T (at + plain.inner_labels kind) results) (at + (plain.inner_labels kind + length results)) rest h.2)

  packed_regions : (T : Types) (at : ℕ) (results : List IrType) (kind : plain.OpKind) → TypedRegions T at results kind → PackedRegions kind
  packed_regions T at results (plain.Simple does) h = tt
  packed_regions T at results (plain.If c first firsts has_else other others) h = (packed_ops T at first h.0, packed_ops T (at + plain.labels_of first) other h.2)
  packed_regions T at results (plain.For lower upper step iv args inits body ends) h =
      packed_ops (with_types (with_types T (at + 1) (iv.ty ∷ [])) (at + 2) (arg_types args)) (at + 2 + length args) body h.0
  packed_regions T at results (plain.While args inits before passed cond after_args after ends) h =
      let c = at + 1 + length args + plain.labels_of before in
      (packed_ops (with_types T (at + 1) (arg_types args)) (at + 1 + length args) before h.0, packed_ops (with_types T c (arg_types after_args)) (c + length after_args) after h.3)

some_less : (k c n : ℕ) → nat_lt 0 c ≡ true → nat_le c n ≡ true → k ≤ n - c → suc k ≤ n
some_less k c n p q g = grind (arith, nat_tests)

few_packs : (packs : List Pack) (n : ℕ) → packs_hold packs n ≡ true → length packs ≤ n
few_packs [] n h = omega arith
few_packs (pack ∷ packs) n h =
    let q = and_parts (nat_lt 0 pack.count && nat_le pack.count n) (packs_hold packs (n - pack.count)) h in
    let p = and_parts (nat_lt 0 pack.count) (nat_le pack.count n) q.0 in
    let g = few_packs packs (n - pack.count) q.1 in
    some_less (length packs) pack.count n p.0 p.1 g

mutual
  pub few_names : (ops : plain.OpList) → Packed ops → names_of ops ≤ plain.labels_of ops
  few_names plain.nil h = omega arith
  few_names (plain.next packs results kind rest) h = omega (arith, few_packs packs (length results) h.0, few_inner kind h.1, few_names rest h.2)

  few_inner : (kind : plain.OpKind) → PackedRegions kind → inner_names kind ≤ plain.inner_labels kind
  few_inner (plain.Simple does) h = omega arith
  few_inner (plain.If c first firsts has_else other others) h = omega (arith, few_names first h.0, few_names other h.1)
  few_inner (plain.For lower upper step iv args inits body ends) h = omega (arith, few_names body h)
  few_inner (plain.While args inits before passed cond after_args after ends) h = omega (arith, few_names before h.0, few_names after h.1)

-- a loop that has no more names than labels
pub record FewNames (o : Operation) : Type 0 where
  pub packs : length o.packs ≤ length o.results
  pub inner : inner_names o.kind ≤ plain.inner_labels o.kind

module _ (t : ℕ) (o : Operation) where
  mutual
    pub stands_few : (at : ℕ) (ops : plain.OpList) → StandsIn t o at ops → Packed ops → FewNames o
    stands_few at plain.nil s h = absurd s
    stands_few at (plain.next packs results kind rest) (inl s) h =
        subst FewNames s.2 (record { packs = few_packs packs (length results) h.0; inner = few_inner kind h.1 })
    stands_few at (plain.next packs results kind rest) (inr (inl s)) h = inside_few at kind s h.1
    stands_few at (plain.next packs results kind rest) (inr (inr s)) h = stands_few (at + (plain.inner_labels kind + length results)) rest s h.2

    inside_few : (at : ℕ) (kind : plain.OpKind) → StandsInside t o at kind → PackedRegions kind → FewNames o
    inside_few at (plain.Simple does) s h = absurd s
    inside_few at (plain.If c first firsts has_else other others) (inl s) h = stands_few at first s h.0
    inside_few at (plain.If c first firsts has_else other others) (inr s) h = stands_few (at + plain.labels_of first) other s h.1
    inside_few at (plain.For lower upper step iv args inits body ends) s h = stands_few (at + 2 + length args) body s h
    inside_few at (plain.While args inits before passed cond after_args after ends) (inl s) h = stands_few (at + 1 + length args) before s h.0
    inside_few at (plain.While args inits before passed cond after_args after ends) (inr s) h =
        stands_few (at + 1 + length args + plain.labels_of before + length after_args) after s h.1

-- no more values than labels

short : (c : ℕ) (tys : List IrType) → length (take c tys) + length (drop c tys) ≡ length tys
short zero tys = omega arith
short (suc c) [] = omega arith
short (suc c) (ty ∷ tys) = let h = short c tys in omega (arith, h)

pack_count : (at : ℕ) (pack : Pack) (place : ℕ) (tys : List IrType) → length (pack_values at pack place tys) ≡ length tys
pack_count at pack place [] = refl
pack_count at pack place (ty ∷ tys) = let h = pack_count (at + 1) pack (place + 1) tys in omega (arith, h)

result_count : (at : ℕ) (packs : List Pack) (tys : List IrType) → length (result_values at packs tys) ≤ length tys
result_count at [] tys = omega arith
result_count at (pack ∷ packs) tys =
    let a = length-append (pack_values at pack 0 (take pack.count tys)) (result_values (at + pack.count) packs (drop pack.count tys)) in
    let b = pack_count at pack 0 (take pack.count tys) in
    let c = result_count (at + pack.count) packs (drop pack.count tys) in
    let d = short pack.count tys in
    omega (arith, a, b, c, d)

pub arg_count : (at : ℕ) (args : List Arg) → length (arg_values at args) ≡ length args
arg_count at [] = refl
arg_count at (arg ∷ args) = let h = arg_count (at + 1) args in omega (arith, h)

two : (xs ys : List Value) (m n : ℕ) → length xs ≤ m → length ys ≤ n → length (xs ++ ys) ≤ m + n
two xs ys m n h g = let e = length-append xs ys in omega (arith, e)

mutual
  row_count : (n : _) (at : ℕ) (row : Row_of-Op n) → length (row_values at row) ≤ row_labels row
  row_count n at end_of-Op = omega arith
  row_count n at (more_of-Op packs results kind rest) =
      let p = at + kind_labels kind in
      let rv = result_values p packs results in
      let a = two (kind_values at kind) rv (kind_labels kind) (length results) (kind_count at kind) (result_count p packs results) in
      two (kind_values at kind ++ rv) (row_values (p + length results) rest) (kind_labels kind + length results) (row_labels rest) a (row_count _ (p + length results) rest)

  kind_count : (at : ℕ) (kind : Kind) → length (kind_values at kind) ≤ kind_labels kind
  kind_count at (Const v) = omega arith
  kind_count at (Bin op flags a b) = omega arith
  kind_count at (Cast op flags a) = omega arith
  kind_count at (Cmp pred a b) = omega arith
  kind_count at (Select c a b) = omega arith
  kind_count at (Call func passed) = omega arith
  kind_count at (If' c (Region' shape row ends) None') = two (row_values at row) [] (row_labels row) 0 (row_count _ at row) (omega arith)
  kind_count at (If' c (Region' shape row ends) (Some' (Region' shape2 row2 ends2))) =
      two (row_values at row) (row_values (at + row_labels row) row2) (row_labels row) (row_labels row2) (row_count _ at row) (row_count _ (at + row_labels row) row2)
  kind_count at (For (ForParts' lower upper step iv args inits (Region' shape row ends))) =
      let a = arg_count (at + 1) (iv ∷ args) in
      let h = two (arg_values (at + 1) (iv ∷ args)) (row_values (at + 2 + length args) row) (1 + length args) (row_labels row) (omega (arith, a)) (row_count _ (at + 2 + length args) row) in
      omega (arith, h)
  kind_count at (While (WhileParts' args inits (Region' shape row passed) cond after_args (Region' shape2 row2 ends))) =
      let p = at + 1 + length args in
      let q = p + row_labels row in
      let a = arg_count (at + 1) args in
      let b = arg_count q after_args in
      let x = two (arg_values (at + 1) args) (row_values p row) (length args) (row_labels row) (omega (arith, a)) (row_count _ p row) in
      let y = two (arg_values (at + 1) args ++ row_values p row) (arg_values q after_args) (length args + row_labels row) (length after_args) x (omega (arith, b)) in
      let z = two (arg_values (at + 1) args ++ row_values p row ++ arg_values q after_args) (row_values (q + length after_args) row2) (length args + row_labels row + length after_args)
      (row_labels row2) y (row_count _ (q + length after_args) row2) in
      omega (arith, z)

ops_count : (at : ℕ) (ops : List Op) → length (ops_values at ops) ≤ ops_labels ops
ops_count at [] = omega arith
ops_count at (op ∷ ops) =
    let p = at + kind_labels op.kind in
    let rv = result_values p op.packs op.results in
    let a = two (kind_values at op.kind) rv (kind_labels op.kind) (length op.results) (kind_count at op.kind) (result_count p op.packs op.results) in
    two (op_values at op) (ops_values (at + op_labels op) ops) (op_labels op) (ops_labels ops) a (ops_count (at + op_labels op) ops)

pub items_count : (func k : ℕ) (items : List Item) → All HasFewLabels items → length (items_values func k items) ≤ length items * label_limit
items_count func k [] h = omega arith
items_count func k (item ∷ items) h =
    let a = ops_count (label_at func k 0) item.ops in
    let b = items_count func (k + 1) items (All-tail HasFewLabels item items h) in
    let c = length-append (ops_values (label_at func k 0) item.ops) (items_values func (k + 1) items) in
    let d : length (ops_values (label_at func k 0) item.ops) ≤ label_limit = omega (arith, a, All-head HasFewLabels item items h) in
    grind (arith, b, c, d)

-- no name is fresh

bytes_sym : (xs ys : List ℕ) → bytes_eq xs ys ≡ false → bytes_eq ys xs ≡ false
bytes_sym xs ys e = elim (cases_Bool (bytes_eq ys xs)) [
  | inl h ↦ absurd (true≢false (sym ((bytes_eq-Decides xs ys).1 (sym ((bytes_eq-Decides ys xs).0 h))) ∙ e))
  | inr h ↦ h
]

module _ (fresh : ℕ → List ℕ) (K : ℕ) where
  -- no value has a fresh name
  abbrev pub Lacks : List Value → Type 0
  Lacks values = (i : ℕ) → i < K → list_any (λ (v : Value). bytes_eq v.name (fresh i)) values ≡ false

  pub front : (xs ys : List Value) → Lacks (xs ++ ys) → Lacks xs
  front xs ys h i lt = (or_parts _ _ (sym (list_any-append (λ (v : Value). bytes_eq v.name (fresh i)) xs ys) ∙ h i lt)).0

  pub back : (xs ys : List Value) → Lacks (xs ++ ys) → Lacks ys
  back xs ys h i lt = (or_parts _ _ (sym (list_any-append (λ (v : Value). bytes_eq v.name (fresh i)) xs ys) ∙ h i lt)).1

  first : (v : Value) (vs : List Value) → Lacks (v ∷ vs) → IsOld fresh K v.name
  first v vs h i lt = let e = (or_parts (bytes_eq v.name (fresh i)) _ (h i lt)).0 in (e, bytes_sym v.name (fresh i) e)

  pub args_old : (at : ℕ) (args : List Arg) → Lacks (arg_values at args) → OldArgs fresh K args
  args_old at [] h = tt
  args_old at (arg ∷ args) h =
      let v : Value = record { label = at; name = arg.name; count = 1; place = 0; ty = arg.ty } in
      (first v (arg_values (at + 1) args) h, args_old (at + 1) args (back (v ∷ []) (arg_values (at + 1) args) h))

  taken_old : (at : ℕ) (pack : Pack) (c : ℕ) (tys : List IrType) → nat_lt 0 c ≡ true → nat_le c (length tys) ≡ true → Lacks (pack_values at pack 0 (take c tys)) → IsOld fresh K pack.name
  taken_old at pack zero tys p q h = cc
  taken_old at pack (suc c) [] p q h = absurd (none_held c q)
  taken_old at pack (suc c) (ty ∷ tys) p q h = first (record { label = at; name = pack.name; count = pack.count; place = 0; ty = ty }) (pack_values (at + 1) pack 1 (take c tys)) h

  packs_old : (at : ℕ) (packs : List Pack) (tys : List IrType) → packs_hold packs (length tys) ≡ true → Lacks (result_values at packs tys) → OldPacks fresh K packs
  packs_old at [] tys p h = tt
  packs_old at (pack ∷ packs) tys p h =
      let q = and_parts (nat_lt 0 pack.count && nat_le pack.count (length tys)) (packs_hold packs (length tys - pack.count)) p in
      let r = and_parts (nat_lt 0 pack.count) (nat_le pack.count (length tys)) q.0 in
      let e : length tys - pack.count ≡ length (drop pack.count tys) = sym (length-drop pack.count tys) in
      let xs = pack_values at pack 0 (take pack.count tys) in
      let ys = result_values (at + pack.count) packs (drop pack.count tys) in
      (taken_old at pack pack.count tys r.0 r.1 (front xs ys h), packs_old (at + pack.count) packs (drop pack.count tys) (subst (λ n. packs_hold packs n ≡ true) e q.1) (back xs ys h))

  mutual
    row_old : (n : _) (at : ℕ) (row : Row_of-Op n) → Packed (view_row row) → Lacks (row_values at row) → OldOps fresh K (view_row row)
    row_old n at end_of-Op p h = tt
    row_old n at (more_of-Op packs results kind rest) p h =
        let b = at + kind_labels kind in
        let xs = kind_values at kind in
        let ys = result_values b packs results in
        let zs = row_values (b + length results) rest in
        let g = front (xs ++ ys) zs h in
        (packs_old b packs results p.0 (back xs ys g), kind_old at kind p.1 (front xs ys g), row_old _ (b + length results) rest p.2 (back (xs ++ ys) zs h))

    kind_old : (at : ℕ) (kind : Kind) → PackedRegions (view_kind kind) → Lacks (kind_values at kind) → OldRegions fresh K (view_kind kind)
    kind_old at (Const v) p h = tt
    kind_old at (Bin op flags a b) p h = tt
    kind_old at (Cast op flags a) p h = tt
    kind_old at (Cmp pred a b) p h = tt
    kind_old at (Select c a b) p h = tt
    kind_old at (Call func passed) p h = tt
    kind_old at (If' c (Region' shape row ends) None') p h = (row_old _ at row p.0 (front (row_values at row) [] h), tt)
    kind_old at (If' c (Region' shape row ends) (Some' (Region' shape2 row2 ends2))) p h =
        let xs = row_values at row in
        let ys = row_values (at + row_labels row) row2 in
        (row_old _ at row p.0 (front xs ys h), row_old _ (at + row_labels row) row2 p.1 (back xs ys h))
    kind_old at (For (ForParts' lower upper step iv args inits (Region' shape row ends))) p h =
        let v : Value = record { label = at + 1; name = iv.name; count = 1; place = 0; ty = iv.ty } in
        let xs = arg_values (at + 1 + 1) args in
        let ys = row_values (at + 2 + length args) row in
        let g = front (v ∷ xs) ys h in
        ((first v xs g, tt), args_old (at + 1 + 1) args (back (v ∷ []) xs g), row_old _ (at + 2 + length args) row p (back (v ∷ xs) ys h))
    kind_old at (While (WhileParts' args inits (Region' shape row passed) cond after_args (Region' shape2 row2 ends))) p h =
        let b = at + 1 + length args in
        let q = b + row_labels row in
        let xs = arg_values (at + 1) args in
        let ys = row_values b row in
        let zs = arg_values q after_args in
        let ws = row_values (q + length after_args) row2 in
        let g = front (xs ++ ys ++ zs) ws h in
        let f = front (xs ++ ys) zs g in
        (args_old (at + 1) args (front xs ys f), row_old _ b row p.0 (back xs ys f), args_old q after_args (back (xs ++ ys) zs g), row_old _ (q + length after_args) row2 p.1 (back (xs ++ ys ++ zs) ws h))

  pub ops_old : (at : ℕ) (ops : List Op) → Packed (view_ops ops) → Lacks (ops_values at ops) → OldOps fresh K (view_ops ops)
  ops_old at [] p h = tt
  ops_old at (op ∷ ops) p h =
      let b = at + kind_labels op.kind in
      let xs = kind_values at op.kind in
      let ys = result_values b op.packs op.results in
      let zs = ops_values (at + op_labels op) ops in
      let g = front (xs ++ ys) zs h in
      (packs_old b op.packs op.results p.0 (back xs ys g), kind_old at op.kind p.1 (front xs ys g), ops_old (at + op_labels op) ops p.2 (back (xs ++ ys) zs h))

  pub items_old : (func k : ℕ) (T : Types) (items : List Item) → TypedItems T func k (view_items items) → Lacks (items_values func k items) → OldItems fresh K (view_items items)
  items_old func k T [] p h = tt
  items_old func k T (item ∷ items) p h =
      let L = label_at func k 0 in
      let xs = ops_values L item.ops in
      let ys = items_values func (k + 1) items in
      (ops_old L item.ops (packed_ops T L (view_ops item.ops) p.0) (front xs ys h), items_old func (k + 1) (types_after T L (view_ops item.ops)) items p.1 (back xs ys h))
