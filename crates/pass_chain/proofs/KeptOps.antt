-- Operations one after another that keep the limits.
use Rattle.std.proofs.Common.{◌≡◌, ℕ, suc, ◌+◌, ◌<◌, ◌≤◌, List, [], ◌∷◌, length, get_or, drop, drop-cons, add-one, ap, ◌∙◌, sym, subst, arith}
use Rattle.std.proofs.lemmas.List.{drop_all}
use Rattle.mlir_ir.specs.Operations.{OpList, nil, next}
use Rattle.mlir_ir.specs.Sized.{SizedOp}
use Rattle.mlir_ir.specs.View.{view_kind, view_ops}
use Rattle.mlir_ir.specs.declared.types.Op.{Op}
use Rattle.pass_chain.specs.Kept.{Keeps, IsLeftBehind, AreKept, IsKept}
use Rattle.pass_chain.specs.declared.limits.Left.{Left}
use Rattle.pass_chain.specs.declared.limits.Room.{Room}

-- all keep the limits exactly where what is left does
pub record IsKeeping (room : Room) (first left : Left) (whole ops : OpList) : Type 0 where
  pub forth : Keeps room first whole → Keeps room left ops
  pub back : (rest : Left) → AreKept room left ops rest → AreKept room first whole rest

-- no operation is left
kept_none : (room : Room) (left : Left) → AreKept room left nil left
kept_none room left = record {
  keep = record { sized = tt; regions_fit = omega arith; loops_fit = omega arith; few = omega arith; few_labels = omega arith };
  behind = record { ops = omega arith; labels = omega arith };
}

module _ (room : Room) (first left : Left) (whole : OpList) (i : ℕ) (ops : List Op) (op : Op) (h : i < length ops)
    (e : op ≡ get_or ops i op) (keeping : IsKeeping room first left whole (view_ops (drop i ops))) where
  abbrev rest : OpList
  rest = view_ops (drop (suc i) ops)

  kept_in : IsKeeping room first left whole (next op.packs op.results (view_kind op.kind) rest)
  kept_in =
      let dc : drop i ops ≡ get_or ops i op ∷ drop (suc i) ops = drop-cons ops i op h in
      subst (λ (xs : List Op). IsKeeping room first left whole (view_ops xs))
      (dc ∙ ap (λ (x : Op). x ∷ drop (suc i) ops) (sym e)) keeping

  -- the first of what is left keeps them
  pub keeping_step : (mid after : Left) → SizedOp op.packs op.results (view_kind op.kind) → IsLeftBehind 1 (length op.results) left mid
      → IsKept room mid (view_kind op.kind) after → IsKeeping room first after whole (view_ops (drop (i + 1) ops))
  keeping_step mid after s b k = rw (add-one i) (record {
    forth = λ h. on (kept_in.forth h);
    back = λ end g. kept_in.back end (with g);
  })
    where
      on : Keeps room left (next op.packs op.results (view_kind op.kind) rest) → Keeps room after rest
      on g = record {
        sized = g.sized.2;
        regions_fit = omega (arith, g.regions_fit);
        loops_fit = omega (arith, g.loops_fit);
        few = omega (arith, g.few, b.ops, k.behind.ops);
        few_labels = omega (arith, g.few_labels, b.labels, k.behind.labels);
      }

      with : {end : Left} → AreKept room after rest end → AreKept room left (next op.packs op.results (view_kind op.kind) rest) end
      with g = record {
        keep = record {
          sized = (s, k.keeps.sized, g.keep.sized);
          regions_fit = omega (arith, g.keep.regions_fit, k.keeps.regions_fit);
          loops_fit = omega (arith, g.keep.loops_fit, k.keeps.loops_fit);
          few = omega (arith, g.behind.ops, k.behind.ops, b.ops);
          few_labels = omega (arith, g.behind.labels, k.behind.labels, b.labels);
        };
        behind = record { ops = omega (arith, g.behind.ops, k.behind.ops, b.ops); labels = omega (arith, g.behind.labels, k.behind.labels, b.labels) };
      }

pub keeping_none : (room : Room) (first left : Left) (whole : OpList) (i : ℕ) (ops : List Op) → length ops ≤ i
    → IsKeeping room first left whole (view_ops (drop i ops)) → AreKept room first whole left
keeping_none room first left whole i ops h keeping =
    let e : drop i ops ≡ [] = drop_all i ops h in
    (subst (λ (xs : List Op). IsKeeping room first left whole (view_ops xs)) e keeping).back left (kept_none room left)
