-- An `scf.for` that is sought in operations one after another.
use Rattle.std.proofs.Common.{◌≡◌, inl, inr, ℕ, suc, ◌+◌, ◌<◌, ◌≤◌, ◌^◌, true, false, List, [], ◌∷◌, length, get_or, drop, drop-cons, add-one, Option, Some, None, refl, ap, ◌∙◌, sym, subst, arith}
use Rattle.std.specs.Option.{is_some}
use Rattle.std.specs.Prelude.{MatchOption}
use Rattle.std.proofs.lemmas.List.{drop_all}
use Rattle.mlir_ir.specs.Operations.{OpKind, Simple, If, For, While, OpList, next, labels_of, inner_labels}
use Rattle.mlir_ir.specs.View.{rows_of, view_kind, view_ops}
use Rattle.mlir_ir.proofs.PartViews.{region_rows}
use Rattle.mlir_ir.specs.declared.types.Region.{Region, out-Region}
use Rattle.mlir_ir.specs.declared.types.Op.{Op}
use Rattle.pass_copy.specs.Replaced.{Operation, is_loop, StandsIn}
use Rattle.pass_chain.specs.Finding.{is_for, IsThere, IsNowhere, FindsInOps, FindsInKind}
use Rattle.pass_chain.specs.Plans.{HasBounds}
use Rattle.pass_chain.specs.declared.bounds.Bounds.{Bounds}

abbrev pub operation_in : Op → Operation
operation_in op = record { packs = op.packs; results = op.results; kind = view_kind op.kind }

bounds_loop : (b : Bounds) (kind : OpKind) → HasBounds b kind → is_loop kind ≡ true
bounds_loop b (Simple does) h = absurd h
bounds_loop b (If c first firsts has_else other others) h = absurd h
bounds_loop b (For lower upper step iv args inits body ends) h = refl
bounds_loop b (While args inits before passed cond after_args after ends) h = absurd h

-- what is sought is among what is left, or nowhere
pub record IsSought (t first at : ℕ) (whole left : OpList) : Type 0 where
  pub forth : (o : Operation) → StandsIn t o at left → StandsIn t o first whole
  pub back : (o : Operation) → is_for o.kind ≡ true → StandsIn t o first whole → StandsIn t o at left
  pub labels : at + labels_of left ≡ first + labels_of whole

pub sought_all : (t at : ℕ) (ops : OpList) → IsSought t at at ops ops
sought_all t at ops = record { forth = λ o s. s; back = λ o f s. s; labels = refl }

module _ (t first at i : ℕ) (whole : OpList) (ops : List Op) (op : Op) (h : i < length ops) (e : op ≡ get_or ops i op)
    (sought : IsSought t first at whole (view_ops (drop i ops))) where
  abbrev rest : OpList
  rest = view_ops (drop (suc i) ops)

  pub left_in : IsSought t first at whole (next op.packs op.results (view_kind op.kind) rest)
  left_in =
      let dc : drop i ops ≡ get_or ops i op ∷ drop (suc i) ops = drop-cons ops i op h in
      subst (λ (xs : List Op). IsSought t first at whole (view_ops xs))
      (dc ∙ ap (λ (x : Op). x ∷ drop (suc i) ops) (sym e)) sought

  -- there is room for what the operation takes
  pub room : first + labels_of whole < 2 ^ 32
      → at + (inner_labels (view_kind op.kind) + length op.results) < 2 ^ 32
  room lt = let l = left_in.labels in omega (arith, l, lt)

  -- the first of what is left is it
  pub found_here : (b : Bounds) (behind : ℕ) → HasBounds b (view_kind op.kind) → at ≡ t
      → FindsInOps t first whole behind (Some b)
  found_here b behind has here =
      (operation_in op, has, left_in.forth (operation_in op) (inl (here, bounds_loop b (view_kind op.kind) has, refl)))

  pub here_found : (r : Option Bounds) (behind : ℕ) → is_some r ≡ true
      → MatchOption r (is_for (view_kind op.kind) ≡ false) (λ b. HasBounds b (view_kind op.kind)) → at ≡ t
      → FindsInOps t first whole behind r
  here_found None behind i has here = absurd cc
  here_found (Some b) behind i has here = found_here b behind has here

  -- it stands in the first of what is left
  pub found_inside : (b : Bounds) (behind last : ℕ) → FindsInKind t at (view_kind op.kind) behind (Some b)
      → FindsInOps t first whole last (Some b)
  found_inside b behind last f = (f.0, f.1, left_in.forth f.0 (inr (inl f.2)))

  -- it does not
  pub sought_step : (behind next_at : ℕ) → (is_for (view_kind op.kind) ≡ true → at ≡ t → ⊥)
      → FindsInKind t at (view_kind op.kind) behind None → next_at ≡ behind + length op.results
      → IsSought t first next_at whole (view_ops (drop (i + 1) ops))
  sought_step behind next_at other none n =
      let there : next_at ≡ at + (inner_labels (view_kind op.kind) + length op.results) = omega (arith, n, none.1) in
      rw (there, add-one i) (record {
        forth = λ o s. left_in.forth o (inr (inr s));
        back = λ o is s. not_here o is (left_in.back o is s);
        labels = (let l = left_in.labels in omega (arith, l));
      })
    where
      not_here : (o : Operation) → is_for o.kind ≡ true
          → StandsIn t o at (next op.packs op.results (view_kind op.kind) rest)
          → StandsIn t o (at + (inner_labels (view_kind op.kind) + length op.results)) rest
      not_here o is (inl s) =
          absurd (other (subst (λ (x : Operation). is_for x.kind ≡ true) (sym s.2) is) s.0)
      not_here o is (inr (inl s)) = absurd (none.0 o is s)
      not_here o is (inr (inr s)) = s

module _ (t first at i : ℕ) (whole : OpList) (ops : List Op) (h : length ops ≤ i)
    (sought : IsSought t first at whole (view_ops (drop i ops))) where
  pub sought_none : FindsInOps t first whole at None
  sought_none =
      let e : drop i ops ≡ [] = drop_all i ops h in
      let l = rw e at sought.labels in (
        λ o is s. subst (λ (xs : List Op). StandsIn t o at (view_ops xs)) e (sought.back o is s),
        omega (arith, l),
      )

-- a region has the labels of its operations
pub region_labels : (r : Region) → labels_of (rows_of r) ≡ labels_of (view_ops (out-Region r).ops)
region_labels r = ap labels_of (region_rows r)

-- the same without what is behind

there_of : (t first behind : ℕ) (whole : OpList) (r : Option Bounds) → is_some r ≡ true → FindsInOps t first whole behind r
    → MatchOption r (IsNowhere t first whole) (λ b. IsThere t first whole b)
there_of t first behind whole None i f = absurd cc
there_of t first behind whole (Some b) i f = f

module _ (t first at i : ℕ) (whole : OpList) (ops : List Op) (op : Op) (h : i < length ops) (e : op ≡ get_or ops i op)
    (sought : IsSought t first at whole (view_ops (drop i ops))) where
  pub there_here : (r : Option Bounds) → is_some r ≡ true
      → MatchOption r (is_for (view_kind op.kind) ≡ false) (λ b. HasBounds b (view_kind op.kind)) → at ≡ t
      → MatchOption r (IsNowhere t first whole) (λ b. IsThere t first whole b)
  there_here r some has here = there_of t first at whole r some (here_found t first at i whole ops op h e sought r at some has here)

  pub there_inside : (r : Option Bounds) (behind : ℕ) → is_some r ≡ true → FindsInKind t at (view_kind op.kind) behind r
      → MatchOption r (IsNowhere t first whole) (λ b. IsThere t first whole b)
  there_inside None behind some f = absurd cc
  there_inside (Some b) behind some f = found_inside t first at i whole ops op h e sought b behind behind f
