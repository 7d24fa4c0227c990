-- Regions, branches and loops by the parts that programs read, as plain data.
use Rattle.std.proofs.Common.{◌≡◌, true, refl, ap, ◌∙◌, sym, List}
use Rattle.arith_word.specs.declared.label.Label.{Label}
use Rattle.mlir_ir.specs.declared.types.Region.{Region, Region', Row_of-Op, end_of-Op, more_of-Op, items-the_row-Op, out-Region, items_shown-the_row-Op-0}
use Rattle.mlir_ir.specs.declared.types.Kind.{If', Held-Kind-If-2, Some'}
use Rattle.mlir_ir.specs.declared.types.ForParts.{ForParts, ForParts', out-ForParts}
use Rattle.mlir_ir.specs.declared.types.WhileParts.{WhileParts, WhileParts', out-WhileParts}
use Rattle.mlir_ir.specs.Operations as plain
use Rattle.mlir_ir.specs.View.{view_row, view_kind, view_ops, view_else, view_for, view_while, rows_of, ends_of}

rows_items : (n : _) (row : Row_of-Op n) → view_row row ≡ view_ops (items-the_row-Op n row)
rows_items n end_of-Op = refl
rows_items n (more_of-Op packs results kind rest) = ap (λ ops. plain.next packs results (view_kind kind) ops) (rows_items _ rest)

pub region_rows : (r : Region) → rows_of r ≡ view_ops (out-Region r).ops
unfolding out-Region denote.Hole.Carrier.out Rattle.mlir_ir.specs.declared.types.Kind.TheBlock.shown-the_row-Op-0
region_rows (Region' shape row ends) = rows_items _ row ∙ ap view_ops (sym (items_shown-the_row-Op-0 shape row))

pub region_ends : (r : Region) → ends_of r ≡ (out-Region r).ends
unfolding out-Region denote.Hole.Carrier.out
region_ends (Region' shape row ends) = refl

else_parts : (c : Label) (first : plain.OpList) (firsts : List Label) (other : Region) → view_else c first firsts (Some' other) ≡ plain.If c first firsts true (rows_of other) (ends_of other)
else_parts c first firsts (Region' shape row ends) = refl

if_parts : (c : Label) (first : Region) (other : Held-Kind-If-2) → view_kind (If' c first other) ≡ view_else c (rows_of first) (ends_of first) other
if_parts c (Region' shape row ends) other = refl

pub for_parts : (p : ForParts) → view_for p
    ≡ (let q = out-ForParts p in plain.For q.lower q.upper q.step q.iv q.args q.inits (rows_of q.body) (ends_of q.body))
unfolding out-ForParts denote.Hole.Carrier.out
for_parts (ForParts' lower upper step iv args inits (Region' shape row ends)) = refl

pub while_parts : (p : WhileParts) → view_while p
    ≡ (let q = out-WhileParts p in plain.While q.args q.inits (rows_of q.before) (ends_of q.before) q.cond q.after_args (rows_of q.after) (ends_of q.after))
unfolding out-WhileParts denote.Hole.Carrier.out
while_parts (WhileParts' args inits (Region' shape row passed) cond after_args (Region' shape2 after ends)) = refl

-- the same by the lists that a program reads

pub if_view : (c : Label) (first : Region) (other : Held-Kind-If-2) → view_kind (If' c first other) ≡ view_else c (view_ops (out-Region first).ops) (out-Region first).ends other
if_view c first other = if_parts c first other ∙ rw (region_rows first, region_ends first) refl

pub else_view : (c : Label) (first : plain.OpList) (firsts : List Label) (other : Region) → view_else c first firsts (Some' other)
    ≡ plain.If c first firsts true (view_ops (out-Region other).ops) (out-Region other).ends
else_view c first firsts other = else_parts c first firsts other ∙ rw (region_rows other, region_ends other) refl

pub for_view : (p : ForParts) → view_for p
    ≡ (let q = out-ForParts p in plain.For q.lower q.upper q.step q.iv q.args q.inits (view_ops (out-Region q.body).ops) (out-Region q.body).ends)
for_view p = for_parts p ∙ (let q = out-ForParts p in rw (region_rows q.body, region_ends q.body) refl)

pub while_view : (p : WhileParts) → view_while p
    ≡ (let q = out-WhileParts p in
    plain.While q.args q.inits (view_ops (out-Region q.before).ops) (out-Region q.before).ends q.cond q.after_args (view_ops (out-Region q.after).ops) (out-Region q.after).ends)
while_view p = while_parts p ∙ (let q = out-WhileParts p in rw (region_rows q.before, region_ends q.before, region_rows q.after, region_ends q.after) refl)
