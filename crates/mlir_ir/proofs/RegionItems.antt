-- What is said of a region's operations one by one, over the list of them.
use Rattle.std.proofs.Common.{◌≡◌, ℕ, ◌+◌, List, [], ◌∷◌, ◌++◌, refl, ap, ◌∙◌, sym, arith}
use Rattle.mlir_ir.specs.declared.types.Op.{Op}
use Rattle.mlir_ir.specs.declared.types.Region.{Region, Region', Row_of-Op, end_of-Op, more_of-Op, items-the_row-Op, out-Region, items_shown-the_row-Op-0}
use Rattle.std.proofs.Common.{nat_lt, length, false}
use Rattle.arith_word.specs.declared.label.Label.{Label}
use Rattle.mlir_ir.specs.declared.rules.Nest.{Nest}
use Rattle.mlir_ir.specs.declared.rules.Position.{Position}
use Rattle.mlir_ir.specs.declared.rules.Rules.{Rules}
use Rattle.mlir_ir.specs.declared.shape.Shape.{Shape}
use Rattle.mlir_ir.specs.declared.types.IrType.{IrType}
use Rattle.mlir_ir.specs.Check.{row_ops, kind_ops, region_ops, ops_ops, row_results, results_of, row_breaks, ops_breaks, kind_breaks, breaks_at, past, past_row, past_ops, arm_breaks, before_breaks, turn_breaks, for_breaks, while_breaks, args_breaks, past_region}
use Rattle.mlir_ir.specs.Rules.{has_yield, op_rules, yield_rules, condition_rules, turn_rules, arg_types}
use Rattle.mlir_ir.specs.Values.{Value, arg_values, result_values}
use Rattle.mlir_ir.specs.declared.types.ForParts.{ForParts, ForParts', out-ForParts}
use Rattle.mlir_ir.specs.declared.types.WhileParts.{WhileParts, WhileParts', out-WhileParts}
use Rattle.mlir_ir.specs.Labels.{row_labels, ops_labels, region_labels, kind_labels}

labels_items : (n : _) (row : Row_of-Op n) → row_labels row ≡ ops_labels (items-the_row-Op n row)
labels_items n end_of-Op = refl
labels_items n (more_of-Op packs results kind rest) = let e = labels_items _ rest in cc

pub region_labels_items : (r : Region) → region_labels r ≡ ops_labels (out-Region r).ops
unfolding out-Region denote.Hole.Carrier.out Rattle.mlir_ir.specs.declared.types.Kind.TheBlock.shown-the_row-Op-0
region_labels_items (Region' shape row ends) = labels_items _ row ∙ ap ops_labels (sym (items_shown-the_row-Op-0 shape row))

pub has_yield_ends : (r : Region) → has_yield r ≡ nat_lt 0 (length (out-Region r).ends)
unfolding out-Region denote.Hole.Carrier.out
has_yield_ends (Region' shape row ends) = refl

ops_items : (n : _) (row : Row_of-Op n) → row_ops row ≡ ops_ops (items-the_row-Op n row)
ops_items n end_of-Op = refl
ops_items n (more_of-Op packs results kind rest) = let e = ops_items _ rest in cc

results_items : (at : ℕ) (n : _) (row : Row_of-Op n) → row_results at row ≡ results_of at (items-the_row-Op n row)
results_items at n end_of-Op = refl
results_items at n (more_of-Op packs results kind rest) =
    let same : at + kind_labels kind + length results ≡ at + (kind_labels kind + length results) = omega arith in
    ap (λ vs. result_values (at + kind_labels kind) packs results ++ vs) (rw same (results_items (at + (kind_labels kind + length results)) _ rest))

pub region_ops_items : (r : Region) → region_ops r ≡ ops_ops (out-Region r).ops
unfolding out-Region denote.Hole.Carrier.out Rattle.mlir_ir.specs.declared.types.Kind.TheBlock.shown-the_row-Op-0
region_ops_items (Region' shape row ends) = ops_items _ row ∙ ap ops_ops (sym (items_shown-the_row-Op-0 shape row))

breaks_items : (scope : List Value) (nest : Nest) (at : Position) (n : _) (row : Row_of-Op n) → row_breaks scope nest at row ≡ ops_breaks scope nest at (items-the_row-Op n row)
unfolding row_breaks
breaks_items scope nest at n end_of-Op = refl
breaks_items scope nest at n (more_of-Op packs results kind rest) =
    ap (λ bs. breaks_at at.last (op_rules scope nest at packs results kind) ++ kind_breaks scope nest (past 0 1 at) results kind ++ bs) (breaks_items (scope ++ result_values (at.next + kind_labels kind) packs results) nest (past (kind_labels kind + length results) (1 + kind_ops kind) at) _ rest)

-- what ends a region, where its operations have those breaks, labels and results
module _ (scope : List Value) (nest : Nest) (at : Position) (rules : List Value → List Label → Rules) where
  abbrev ended : List Op → List Label → List Shape
  ended ops ends = ops_breaks scope nest at ops ++ breaks_at (past_ops ops at).last (rules (scope ++ results_of at.next ops) ends)

  row_ended : (n : _) (row : Row_of-Op n) (ends : List Label)
      → (row_breaks scope nest at row ++ breaks_at (past_row row at).last (rules (scope ++ row_results at.next row) ends)) ≡ ended (items-the_row-Op n row) ends
  row_ended n row ends = rw (breaks_items scope nest at n row, results_items at.next n row, labels_items n row) refl

pub arm_breaks_ops : (scope : List Value) (nest : Nest) (at : Position) (wanted : List IrType) (r : Region)
    → arm_breaks scope nest at wanted r
    ≡ (ops_breaks scope nest at (out-Region r).ops ++ breaks_at (past_ops (out-Region r).ops at).last (yield_rules (scope ++ results_of at.next (out-Region r).ops) wanted (out-Region r).ends))
unfolding arm_breaks out-Region denote.Hole.Carrier.out Rattle.mlir_ir.specs.declared.types.Kind.TheBlock.shown-the_row-Op-0
arm_breaks_ops scope nest at wanted (Region' shape row ends) =
    row_ended scope nest at (λ s e. yield_rules s wanted e) _ row ends
    ∙ ap (λ ops. ended scope nest at (λ s e. yield_rules s wanted e) ops ends) (sym (items_shown-the_row-Op-0 shape row))

pub before_breaks_ops : (scope : List Value) (nest : Nest) (at : Position) (results : List IrType) (cond : Label) (r : Region)
    → before_breaks scope nest at results cond r
    ≡ (ops_breaks scope nest at (out-Region r).ops ++ breaks_at (past_ops (out-Region r).ops at).last (condition_rules (scope ++ results_of at.next (out-Region r).ops) results cond (out-Region r).ends))
unfolding before_breaks out-Region denote.Hole.Carrier.out Rattle.mlir_ir.specs.declared.types.Kind.TheBlock.shown-the_row-Op-0
before_breaks_ops scope nest at results cond (Region' shape row ends) =
    row_ended scope nest at (λ s e. condition_rules s results cond e) _ row ends
    ∙ ap (λ ops. ended scope nest at (λ s e. condition_rules s results cond e) ops ends) (sym (items_shown-the_row-Op-0 shape row))

pub turn_breaks_ops : (scope : List Value) (nest : Nest) (at : Position) (wanted : List IrType) (r : Region)
    → turn_breaks scope nest at wanted r
    ≡ (ops_breaks scope nest at (out-Region r).ops ++ breaks_at (past_ops (out-Region r).ops at).last (turn_rules (scope ++ results_of at.next (out-Region r).ops) wanted (out-Region r).ends))
unfolding turn_breaks out-Region denote.Hole.Carrier.out Rattle.mlir_ir.specs.declared.types.Kind.TheBlock.shown-the_row-Op-0
turn_breaks_ops scope nest at wanted (Region' shape row ends) =
    row_ended scope nest at (λ s e. turn_rules s wanted e) _ row ends
    ∙ ap (λ ops. ended scope nest at (λ s e. turn_rules s wanted e) ops ends) (sym (items_shown-the_row-Op-0 shape row))

-- loops, by their parts

pub for_breaks_parts : (scope : List Value) (nest : Nest) (at : Position) (results : List IrType) (p : ForParts)
    → for_breaks scope nest at results p
    ≡ (args_breaks false 0 [] scope at ((out-ForParts p).iv ∷ [])
    ++ args_breaks false 0 [] (scope ++ arg_values at.next ((out-ForParts p).iv ∷ [])) (past 1 0 at) (out-ForParts p).args
    ++ arm_breaks
    (scope ++ arg_values at.next ((out-ForParts p).iv ∷ []) ++ arg_values (at.next + 1) (out-ForParts p).args)
    nest
    (past (length (out-ForParts p).args) 0 (past 1 0 at))
    results
    (out-ForParts p).body)
unfolding for_breaks out-ForParts denote.Hole.Carrier.out
for_breaks_parts scope nest at results (ForParts' lower upper step iv args inits body) = refl

pub while_breaks_parts : (scope : List Value) (nest : Nest) (at : Position) (results : List IrType) (p : WhileParts)
    → while_breaks scope nest at results p
    ≡ (let in_before = past (length (out-WhileParts p).args) 0 at in
    let behind = past_region (out-WhileParts p).before in_before in
    args_breaks false 0 [] scope at (out-WhileParts p).args
    ++ before_breaks (scope ++ arg_values at.next (out-WhileParts p).args) nest in_before results (out-WhileParts p).cond (out-WhileParts p).before
    ++ args_breaks false 0 results scope behind (out-WhileParts p).after_args
    ++ turn_breaks
    (scope ++ arg_values behind.next (out-WhileParts p).after_args)
    nest
    (past (length (out-WhileParts p).after_args) 0 behind)
    (arg_types (out-WhileParts p).args)
    (out-WhileParts p).after)
unfolding while_breaks out-WhileParts denote.Hole.Carrier.out
while_breaks_parts scope nest at results (WhileParts' args inits before cond after_args after) = refl
