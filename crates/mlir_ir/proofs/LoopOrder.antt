-- The loops of a region and of items, one operation or item after the other.
use Rattle.std.proofs.Common.{◌≡◌, ℕ, ◌+◌, ◌++◌, List, [], ◌∷◌, length, slice_set, refl, ap, ◌∙◌, sym, arith}
use Rattle.mlir_ir.specs.declared.types.Region.{Region, Region', Row_of-Op, end_of-Op, more_of-Op, items-the_row-Op, out-Region, items_shown-the_row-Op-0}
use Rattle.mlir_ir.specs.Labels.{kind_labels}
use Rattle.mlir_ir.specs.Loops.{region_loops, row_loops, kind_loops, ops_loops}

loops_items : (at : ℕ) (n : _) (row : Row_of-Op n) → row_loops at row ≡ ops_loops at (items-the_row-Op n row)
loops_items at n end_of-Op = refl
loops_items at n (more_of-Op packs results kind rest) =
    let e : at + kind_labels kind + length results ≡ at + (kind_labels kind + length results) = omega arith in
    ap (λ ls. kind_loops at kind ++ ls) (rw e (loops_items (at + (kind_labels kind + length results)) _ rest))

pub region_loops_items : (at : ℕ) (r : Region) → region_loops at r ≡ ops_loops at (out-Region r).ops
unfolding out-Region denote.Hole.Carrier.out Rattle.mlir_ir.specs.declared.types.Kind.TheBlock.shown-the_row-Op-0
region_loops_items at (Region' shape row ends) = loops_items at _ row ∙ ap (ops_loops at) (sym (items_shown-the_row-Op-0 shape row))

-- writing the element behind some others, which it follows
pub set_behind : {A : Type 0} (xs : List A) (y z : A) (zs : List A) → slice_set ((xs ++ y ∷ []) ++ zs) (length xs) z ≡ xs ++ z ∷ zs
set_behind [] y z zs = refl
set_behind (x ∷ xs) y z zs = ap (λ l. x ∷ l) (set_behind xs y z zs)

-- the same, with two parts behind it
pub set_behind_two : {A : Type 0} (xs : List A) (y z : A) (ps qs : List A) → slice_set (((xs ++ y ∷ []) ++ ps) ++ qs) (length xs) z ≡ xs ++ z ∷ (ps ++ qs)
set_behind_two [] y z ps qs = refl
set_behind_two (x ∷ xs) y z ps qs = ap (λ l. x ∷ l) (set_behind_two xs y z ps qs)
