-- The child of a function is made where the item of the loop has room for what stands for it, and there is none else.
use Rattle.std.proofs.Common.{◌≡◌, ℕ, ◌+◌, Bool, true, false, List, [], ap, ◌∙◌, sym, arith}
use Rattle.std.proofs.lemmas.Bool.{leb-true, leb-false}
use Rattle.std.specs.Prelude.{nat_le}
use Rattle.mlir_ir.specs.Check.{IsWellFormed}
use Rattle.mlir_ir.specs.Limits.{label_limit}
use Rattle.mlir_ir.specs.Operations.{OpKind, For, OpList, labels_of, joined}
use Rattle.mlir_ir.specs.Reads.{plain_func}
use Rattle.mlir_ir.specs.View.{view_ops}
use Rattle.mlir_ir.specs.declared.types.Func.{Func}
use Rattle.mlir_ir.specs.declared.types.IrType.{IrType}
use Rattle.mlir_ir.specs.declared.types.Op.{Op}
use Rattle.mlir_ir.specs.declared.types.Pack.{Pack}
use Rattle.pass_copy.specs.Built.{fresh_at}
use Rattle.pass_copy.specs.Fresh.{fresh_names}
use Rattle.pass_copy.specs.ItemLabels.{DoesItemFit, item_labels}
use Rattle.pass_copy.specs.Renaming.{renamed}
use Rattle.pass_copy.specs.Replaced.{Operation, op_labels, StandsAt, replaced_func}
use Rattle.pass_copy.specs.declared.building.Out.{Out}
use Rattle.pass_copy.specs.declared.renaming.Span.{Span}
use Rattle.pass_copy.proofs.ItemCounts.{child_count, few_fit, fit_few}
use Rattle.mlir_ir.proofs.LabelsFit.{labels_fit}
use Rattle.pass_copy.proofs.AloneLoops.{alone_at_label}
use Rattle.pass_unroll.specs.Copies.{ForLoop, operation_of}

-- the loop of an operation, and another one where it is none
abbrev loop_in : List Pack → List IrType → OpKind → ForLoop → ForLoop
loop_in packs results (For lower upper step iv args inits body ends) other = record {
  packs = packs;
  results = results;
  lower = lower;
  upper = upper;
  step = step;
  iv = iv;
  args = args;
  inits = inits;
  body = body;
  ends = ends;
}
loop_in packs results _ other = other

pub same_loop : (f : Func) → IsWellFormed f → (t : ℕ) (a b : ForLoop) → StandsAt f t (operation_of a) → StandsAt f t (operation_of b) → a ≡ b
same_loop f w t a b s r = ap (λ (x : Operation). loop_in x.packs x.results x.kind a) (alone_at_label f (labels_fit f w) t (operation_of a) (operation_of b) s r)

module _ (f : Func) (well : IsWellFormed f) (t : ℕ) (o : Operation) (stands : StandsAt f t o) (start n : ℕ) (room : Bool) (at : start ≡ t)
    (fits : room ≡ nat_le (item_labels f start + n) (label_limit + op_labels o))
    (g : ℕ → ℕ) (seg : OpList) (child : Func) (count : n ≡ labels_of seg) (is : plain_func child ≡ replaced_func g t seg f) where
  whole : item_labels child t + op_labels o ≡ item_labels f t + labels_of seg
  whole = child_count f well g t seg o child stands is

  there : item_labels f start ≡ item_labels f t
  there = ap (item_labels f) at

  pub room_fits : room ≡ true → DoesItemFit child t
  room_fits r =
      let e = whole in
      let h = there in
      let l = leb-true (item_labels f start + n) (label_limit + op_labels o) (sym fits ∙ r) in
      few_fit child t (omega (arith, e, h, l, count))

  pub no_room : room ≡ false → DoesItemFit child t → ⊥
  no_room r d =
      let e = whole in
      let h = there in
      let l = leb-false (item_labels f start + n) (label_limit + op_labels o) (sym fits ∙ r) in
      let few = fit_few child t d in
      omega (arith, e, h, l, count, few)

-- what was built, by the first label of the loop and the fresh names
pub child_made : (f child : Func) (t start : ℕ) (out : Out) (spans_of : (ℕ → List ℕ) → ℕ → List Span) (ops_of : (ℕ → List ℕ) → ℕ → OpList) (spans : List Span) (others after : List Op)
    → start ≡ t → fresh_at out ≡ fresh_names f → out.ops.items ≡ [] → spans ≡ spans_of (fresh_at out) start
    → view_ops after ≡ joined (view_ops out.ops.items) (ops_of (fresh_at out) start) → others ≡ after
    → plain_func child ≡ replaced_func (renamed spans) t (view_ops others) f
    → plain_func child ≡ replaced_func (renamed (spans_of (fresh_names f) t)) t (ops_of (fresh_names f) t) f
child_made f child t start out spans_of ops_of spans others after at names none s built same is =
    let ops : view_ops others ≡ ops_of (fresh_names f) t =
    ap view_ops same ∙ built ∙ (λ i. joined (view_ops (none i)) (ops_of (names i) (at i))) in
    let moves : spans ≡ spans_of (fresh_names f) t = s ∙ (λ i. spans_of (names i) (at i)) in
    is ∙ (λ i. replaced_func (renamed (moves i)) t (ops i) f)
