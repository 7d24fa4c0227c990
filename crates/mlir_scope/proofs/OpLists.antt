-- One list of operations behind another.
use Rattle.std.proofs.Common.{◌≡◌, ℕ, ◌+◌, List, [], ◌∷◌, ◌++◌, length, refl, ap, ◌∙◌, sym, arith, append_assoc, append-nil}
use Rattle.mlir_ir.specs.Operations as plain
use Rattle.mlir_ir.specs.Operations.{OpKind, OpList, nil, next, labels_of, inner_labels, joined}
use Rattle.mlir_ir.specs.Phrases.{Phrase}
use Rattle.mlir_ir.specs.Resolved.{tys, packs_of, kind_of, ops_of, values_of}
use Rattle.mlir_ir.specs.Source.{Block, none, op, Packed, head, op_types}
use Rattle.mlir_ir.specs.Values.{Value, result_values}
use Rattle.mlir_ir.specs.View.{view_kind, view_ops}
use Rattle.mlir_ir.specs.declared.types.IrType.{IrType}
use Rattle.mlir_ir.specs.declared.types.Op.{Op}
use Rattle.mlir_ir.specs.declared.types.Pack.{Pack}

pub joined_nil : (a : OpList) → joined a nil ≡ a
joined_nil nil = refl
joined_nil (next packs results kind rest) = ap (next packs results kind) (joined_nil rest)

pub joined_assoc : (a b c : OpList) → joined (joined a b) c ≡ joined a (joined b c)
joined_assoc nil b c = refl
joined_assoc (next packs results kind rest) b c = ap (next packs results kind) (joined_assoc rest b c)

pub joined_labels : (a b : OpList) → labels_of (joined a b) ≡ labels_of a + labels_of b
joined_labels nil b = omega arith
joined_labels (next packs results kind rest) b = let e = joined_labels rest b in omega arith

pub joined_values : (at : ℕ) (a b : OpList) → values_of at (joined a b) ≡ values_of at a ++ values_of (at + labels_of a) b
joined_values at nil b = let e : at + 0 ≡ at = omega arith in rw e refl
joined_values at (next packs results kind rest) b =
    let own = result_values (at + inner_labels kind) packs results in
    let behind = at + (inner_labels kind + length results) in
    let e : behind + labels_of rest ≡ at + (inner_labels kind + length results + labels_of rest) = omega arith in
    ap (λ vs. own ++ vs) (joined_values behind rest b ∙ ap (λ n. values_of behind rest ++ values_of n b) e)
    ∙ sym (append_assoc own (values_of behind rest) (values_of (at + (inner_labels kind + length results + labels_of rest)) b))

pub view_append : (a b : List Op) → view_ops (a ++ b) ≡ joined (view_ops a) (view_ops b)
view_append [] b = refl
view_append (o ∷ a) b = ap (next o.packs o.results (view_kind o.kind)) (view_append a b)

-- the first operation of a block, with those behind it
pub first_op : (funcs : List (List ℕ)) (spot : ℕ) (packs : List Packed) (kind : Phrase) (first second rest : Block) (scope : List Value) (at : ℕ)
    → (let one = ops_of funcs (op spot packs kind first second none) scope at in
    ops_of funcs (op spot packs kind first second rest) scope at ≡ joined one (ops_of funcs rest (scope ++ values_of at one) (at + labels_of one)))
first_op funcs spot packs kind first second rest scope at =
    let results = tys (op_types (head kind) kind) in
    let what = kind_of funcs scope at (head kind) kind (ops_of funcs first) (ops_of funcs second) in
    let own = result_values (at + inner_labels what) (packs_of packs) results in
    let e : at + (inner_labels what + length results) ≡ at + (inner_labels what + length results + 0) = omega arith in
    ap (next (packs_of packs) results what)
    (ap (λ n. ops_of funcs rest (scope ++ own) n) e
    ∙ ap (λ vs. ops_of funcs rest (scope ++ vs) (at + (inner_labels what + length results + 0))) (sym (append-nil own)))
