-- A loop that is sought in operations one after another, with the type that a value has in the scope of each.
use Rattle.std.proofs.Common.{◌≡◌, ℕ, suc, ◌+◌, ◌-◌, ◌<◌, ◌≤◌, ◌==◌, ◌&&◌, inl, inr, true, false, List, [], ◌∷◌, length, get_or, drop, drop-cons, add-one, refl, ap, ◌∙◌, sym, subst, arith, Option, None}
use Rattle.std.proofs.lemmas.Bool.{and_parts, eq-eqb}
use Rattle.std.proofs.lemmas.Bool.Decides.{nat_tests}
use Rattle.std.proofs.lemmas.List.{drop_all}
use Rattle.std.specs.Option.{option_or}
use Rattle.arith_word.specs.declared.label.Label.{Label}
use Rattle.mlir_ir.specs.Operations.{OpKind, If, For, While, OpList, nil, next, labels_of, inner_labels}
use Rattle.mlir_ir.specs.Rules.{arg_types}
use Rattle.mlir_ir.specs.Typed.{typed_from, with_types}
use Rattle.mlir_ir.specs.View.{rows_of, view_kind, view_ops, view_row}
use Rattle.mlir_ir.specs.declared.types.Arg.{Arg}
use Rattle.mlir_ir.specs.declared.types.IrType.{IrType}
use Rattle.mlir_ir.specs.declared.types.Op.{Op}
use Rattle.mlir_ir.specs.declared.types.Kind.{If', Some'}
use Rattle.mlir_ir.specs.declared.types.Region.{Region, Region'}
use Rattle.pass_copy.specs.Replaced.{is_loop}
use Rattle.pass_copy.specs.ScopeSearch.{Gives, GivesIn, Finds, FindsInside}
use Rattle.pass_copy.specs.declared.scope_search.Search.{Search}
use Rattle.pass_copy.specs.declared.scope_search.Search.TheVariants.{Within, Behind}
use Rattle.pass_copy.proofs.ScopesAway.{away_in, away_inside, inside_loop}
use Rattle.pass_copy.proofs.UntouchedParts.{loop_labels}

-- what the scope of the loop gives x, as what is left of operations says
pub record IsSought (t x : ℕ) (first : Option IrType) (begin : ℕ) (whole : OpList) (known : Option IrType) (left : ℕ) (ops : OpList) : Type 0 where
  pub back : (ty : Option IrType) → GivesIn t x known left ops ty → GivesIn t x first begin whole ty
  pub labels : begin + labels_of ops ≡ left + labels_of whole
  pub low : left ≤ t

pub sought_all : (t x : ℕ) (known : Option IrType) (left : ℕ) (ops : OpList) → left ≤ t → IsSought t x known left ops known left ops
sought_all t x known left ops low = record { back = λ ty g. g; labels = refl; low = low }

module _ (t x : ℕ) (first : Option IrType) (begin : ℕ) (whole : OpList) (known : Option IrType) (left i : ℕ) (ops : List Op) (op : Op)
    (h : i < length ops) (e : op ≡ get_or ops i op) (sought : IsSought t x first begin whole known left (view_ops (drop i ops))) where
  abbrev rest : OpList
  rest = view_ops (drop (suc i) ops)

  abbrev kind : OpKind
  kind = view_kind op.kind

  left_in : IsSought t x first begin whole known left (next op.packs op.results kind rest)
  left_in =
      let dc : drop i ops ≡ get_or ops i op ∷ drop (suc i) ops = drop-cons ops i op h in
      subst (λ (xs : List Op). IsSought t x first begin whole known left (view_ops xs))
      (dc ∙ ap (λ (y : Op). y ∷ drop (suc i) ops) (sym e)) sought

  -- the first of what is left is the loop
  pub sought_here : (is_loop kind && left == 0) ≡ true → Finds t x first begin whole (Within known)
  sought_here is =
      let both = and_parts (is_loop kind) (left == 0) is in
      let l = both.0 in
      let z : left ≡ 0 = let e = both.1 in grind (arith, nat_tests) in
      let some = loop_labels kind l in
      let n = left_in.labels in (
        omega (arith, some, n, z),
        left_in.back known (λ T at k q. (
          λ e2 l2. k,
          inside_loop t (Gives x known) kind T at l (omega (arith, z, q)),
          away_in t (Gives x known) rest _ (at + (inner_labels kind + length op.results)) (inl (omega (arith, z, q, some))),
        )),
      )

  module _ (is_not : (is_loop kind && left == 0) ≡ false) where
    other : left ≡ 0 → is_loop kind ≡ true → ⊥
    other z l =
        let e : true ≡ false = rw (l, eq-eqb left 0 z) at is_not in
        cc

    -- the loop can stand in it alone
    pub sought_inside : (ty : Option IrType) → FindsInside t x known left kind (Within ty) → Finds t x first begin whole (Within ty)
    sought_inside ty f =
        let n = left_in.labels in (
          omega (arith, n, f.0),
          left_in.back ty (λ T at k q. (
            λ e2 l. absurd (other (omega (arith, q, e2)) l),
            f.1 T at k q,
            away_in t (Gives x ty) rest _ (at + (inner_labels kind + length op.results)) (inl (omega (arith, q, f.0))),
          )),
        )

    module _ (mid : ℕ) (m : FindsInside t x known left kind (Behind mid)) where
      -- the label is one of its results
      pub sought_result : mid < length op.results → Finds t x first begin whole (Within None)
      sought_result lt =
          let n = left_in.labels in (
            omega (arith, n, m, lt),
            left_in.back None (λ T at k q. (
              λ e2 l. absurd (other (omega (arith, q, e2)) l),
              away_inside t (Gives x None) kind T at (inr (omega (arith, q, m))),
              away_in t (Gives x None) rest _ (at + (inner_labels kind + length op.results)) (inl (omega (arith, q, m, lt))),
            )),
          )

      -- the loop stands behind it
      pub sought_next : (new : Option IrType) (after : ℕ) → new ≡ option_or known (typed_from (t - mid) op.results x) → after + length op.results ≡ mid
          → IsSought t x first begin whole new after (view_ops (drop (i + 1) ops))
      sought_next new after is a =
          let low = left_in.low in
          rw (add-one i) (record {
            back = λ ty g. left_in.back ty (λ T at k q. (
              λ e2 l. absurd (other (omega (arith, q, e2)) l),
              away_inside t (Gives x ty) kind T at (inr (omega (arith, q, m))),
              g (with_types T (at + inner_labels kind) op.results) (at + (inner_labels kind + length op.results))
                  (let there : at + inner_labels kind ≡ t - mid = omega (arith, q, m) in rw (k, there, is) refl)
                  (omega (arith, q, m, a)),
            ));
            labels = (let n = left_in.labels in omega (arith, n, m, a));
            low = omega (arith, low, m, a);
          })

pub sought_end : (t x : ℕ) (first : Option IrType) (begin : ℕ) (whole : OpList) (known : Option IrType) (left i : ℕ) (ops : List Op) → length ops ≤ i
    → IsSought t x first begin whole known left (view_ops (drop i ops)) → Finds t x first begin whole (Behind left)
sought_end t x first begin whole known left i ops h sought =
    let e : drop i ops ≡ [] = drop_all i ops h in
    let n = rw e at sought.labels in
    omega (arith, n)

-- in the regions of an operation

module _ (t x : ℕ) (known : Option IrType) (left : ℕ) where
  module _ (c : Label) (first : OpList) (firsts : List Label) (has_else : _) (other : OpList) (others : List Label) where
    pub if_first : (ty : Option IrType) → Finds t x known left first (Within ty) → FindsInside t x known left (If c first firsts has_else other others) (Within ty)
    if_first ty f = (
      omega (arith, f.0),
      λ T at k q. (f.1 T at k q, away_in t (Gives x ty) other T (at + labels_of first) (inl (omega (arith, q, f.0)))),
    )

    pub if_other : (mid : ℕ) (found : Search) → Finds t x known left first (Behind mid) → Finds t x known mid other found
        → FindsInside t x known left (If c first firsts has_else other others) found
    if_other mid (Within ty) m f = (
      omega (arith, m, f.0),
      λ T at k q. (away_in t (Gives x ty) first T at (inr (omega (arith, q, m))), f.1 T (at + labels_of first) k (omega (arith, q, m))),
    )
    if_other mid (Behind last) m f = omega (arith, m, f)

  pub if_only : (c : Label) (first : OpList) (firsts : List Label) (has_else : _) (others : List Label) (found : Search)
      → Finds t x known left first found → FindsInside t x known left (If c first firsts has_else nil others) found
  if_only c first firsts has_else others (Within ty) f = if_first c first firsts has_else nil others ty f
  if_only c first firsts has_else others (Behind last) f = omega (arith, f)

  module _ (lower upper step : Label) (iv : Arg) (args : List Arg) (inits : List Label) (body : OpList) (ends : List Label) where
    pub for_none : left < 2 + length args → FindsInside t x known left (For lower upper step iv args inits body ends) (Within None)
    for_none lt = (omega (arith, lt), λ T at k q. away_in t (Gives x None) body _ (at + 2 + length args) (inl (omega (arith, q, lt))))

    pub for_body : (new : Option IrType) (mid : ℕ) (found : Search) → mid + 2 + length args ≡ left
        → new ≡ option_or (option_or known (typed_from (t - left + 1) (iv.ty ∷ []) x)) (typed_from (t - left + 2) (arg_types args) x)
        → Finds t x new mid body found → FindsInside t x known left (For lower upper step iv args inits body ends) found
    for_body new mid (Within ty) m is f = (
      omega (arith, m, f.0),
      λ T at k q. (
          let there : at ≡ t - left = omega (arith, q) in
          f.1 (with_types (with_types T (at + 1) (iv.ty ∷ [])) (at + 2) (arg_types args)) (at + 2 + length args)
          (rw (k, there, is) refl) (omega (arith, q, m))
          ),
    )
    for_body new mid (Behind last) m is f = omega (arith, m, f)

  module _ (args : List Arg) (inits : List Label) (before : OpList) (passed : List Label) (cond : Label) (after_args : List Arg) (after : OpList) (ends : List Label) where
    abbrev this : OpKind
    this = While args inits before passed cond after_args after ends

    pub while_none : left < 1 + length args → FindsInside t x known left this (Within None)
    while_none lt = (
      omega (arith, lt),
      λ T at k q. (
        away_in t (Gives x None) before _ (at + 1 + length args) (inl (omega (arith, q, lt))),
        away_in t (Gives x None) after _ (at + 1 + length args + labels_of before + length after_args) (inl (omega (arith, q, lt))),
      ),
    )

    module _ (new : Option IrType) (mid : ℕ) (m : mid + 1 + length args ≡ left)
        (is : new ≡ option_or known (typed_from (t - left + 1) (arg_types args) x)) where
      pub while_before : (ty : Option IrType) → Finds t x new mid before (Within ty) → FindsInside t x known left this (Within ty)
      while_before ty f = (
        omega (arith, m, f.0),
        λ T at k q. (
          (let there : at ≡ t - left = omega (arith, q) in
              f.1 (with_types T (at + 1) (arg_types args)) (at + 1 + length args) (rw (k, there, is) refl) (omega (arith, q, m))),
          away_in t (Gives x ty) after _ (at + 1 + length args + labels_of before + length after_args) (inl (omega (arith, q, m, f.0))),
        ),
      )

      module _ (last : ℕ) (b : Finds t x new mid before (Behind last)) where
        pub while_between : last < length after_args → FindsInside t x known left this (Within None)
        while_between lt = (
          omega (arith, m, b, lt),
          λ T at k q. (
            away_in t (Gives x None) before _ (at + 1 + length args) (inr (omega (arith, q, m, b))),
            away_in t (Gives x None) after _ (at + 1 + length args + labels_of before + length after_args) (inl (omega (arith, q, m, b, lt))),
          ),
        )

        pub while_after : (new2 : Option IrType) (mid2 : ℕ) (found : Search) → mid2 + length after_args ≡ last
            → new2 ≡ option_or known (typed_from (t - last) (arg_types after_args) x) → Finds t x new2 mid2 after found
            → FindsInside t x known left this found
        while_after new2 mid2 (Within ty) m2 is2 f = (
          omega (arith, m, b, m2, f.0),
          λ T at k q. (
            away_in t (Gives x ty) before _ (at + 1 + length args) (inr (omega (arith, q, m, b))),
            (let params = at + 1 + length args + labels_of before in
                let there : params ≡ t - last = omega (arith, q, m, b) in
                f.1 (with_types T params (arg_types after_args)) (params + length after_args) (rw (k, there, is2) refl) (omega (arith, q, m, b, m2))),
          ),
        )
        while_after new2 mid2 (Behind final) m2 is2 f = omega (arith, m, b, m2, f)

-- the same for the parts that a program reads

pub two_first : (t x : ℕ) (known : Option IrType) (left : ℕ) (c : Label) (first other : Region) (ty : Option IrType)
    → Finds t x known left (rows_of first) (Within ty) → FindsInside t x known left (view_kind (If' c first (Some' other))) (Within ty)
two_first t x known left c (Region' s1 row1 ends1) (Region' s2 row2 ends2) ty f = if_first t x known left c (view_row row1) ends1 true (view_row row2) ends2 ty f

pub two_other : (t x : ℕ) (known : Option IrType) (left : ℕ) (c : Label) (first other : Region) (mid : ℕ) (found : Search)
    → Finds t x known left (rows_of first) (Behind mid) → Finds t x known mid (rows_of other) found
    → FindsInside t x known left (view_kind (If' c first (Some' other))) found
two_other t x known left c (Region' s1 row1 ends1) (Region' s2 row2 ends2) mid found m f =
    if_other t x known left c (view_row row1) ends1 true (view_row row2) ends2 mid found m f
