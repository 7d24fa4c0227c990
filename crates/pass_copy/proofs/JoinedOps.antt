-- One list of operations behind another: its labels, its types and its names.
use Rattle.std.proofs.Common.{◌≡◌, ℕ, ◌+◌, List, [], ◌∷◌, ◌++◌, length, refl, ap, ◌∙◌, sym, subst, arith}
use Rattle.mlir_ir.specs.Named.{Names, with_packs, NamedOps, names_after}
use Rattle.mlir_ir.specs.Operations.{OpList, nil, next, labels_of, inner_labels, joined}
use Rattle.mlir_ir.specs.Typed.{Types, with_types, types_after, TypedOps}
use Rattle.mlir_ir.specs.View.{view_kind, view_ops}
use Rattle.mlir_ir.specs.declared.types.Op.{Op}
use Rattle.pass_copy.specs.Renamed.{names_of}

pub joined_nil : (a : OpList) → joined a nil ≡ a
joined_nil nil = refl
joined_nil (next packs results kind rest) = ap (next packs results kind) (joined_nil rest)

pub joined_assoc : (a b c : OpList) → joined (joined a b) c ≡ joined a (joined b c)
joined_assoc nil b c = refl
joined_assoc (next packs results kind rest) b c = ap (next packs results kind) (joined_assoc rest b c)

pub joined_names : (a b : OpList) → names_of (joined a b) ≡ names_of a + names_of b
joined_names nil b = omega arith
joined_names (next packs results kind rest) b = let e = joined_names rest b in omega arith

pub view_append : (a b : List Op) → view_ops (a ++ b) ≡ joined (view_ops a) (view_ops b)
view_append [] b = refl
view_append (o ∷ a) b = ap (next o.packs o.results (view_kind o.kind)) (view_append a b)

pub joined_labels : (a b : OpList) → labels_of (joined a b) ≡ labels_of a + labels_of b
joined_labels nil b = omega arith
joined_labels (next packs results kind a) b = omega (arith, joined_labels a b)

pub typed_joined : (T : Types) (at : ℕ) (a b : OpList) → TypedOps T at a → TypedOps (types_after T at a) (at + labels_of a) b → TypedOps T at (joined a b)
typed_joined T at nil b h g = let e : at + 0 ≡ at = omega arith in subst (λ p. TypedOps T p b) e g
typed_joined T at (next packs results kind a) b h g =
    let e : at + (inner_labels kind + length results + labels_of a) ≡ at + (inner_labels kind + length results) + labels_of a = omega arith in
    (h.0, h.1, typed_joined (with_types T (at + inner_labels kind) results) (at + (inner_labels kind + length results)) a b h.2 (subst (λ p. TypedOps (types_after (with_types T (at + inner_labels kind) results) (at + (inner_labels kind + length results)) a) p b) e g))

pub after_joined : (T : Types) (at : ℕ) (a b : OpList) → types_after T at (joined a b) ≡ types_after (types_after T at a) (at + labels_of a) b
after_joined T at nil b = let e : at + 0 ≡ at = omega arith in ap (λ p. types_after T p b) (sym e)
after_joined T at (next packs results kind a) b =
    let e : at + (inner_labels kind + length results + labels_of a) ≡ at + (inner_labels kind + length results) + labels_of a = omega arith in
    after_joined (with_types T (at + inner_labels kind) results) (at + (inner_labels kind + length results)) a b
    ∙ ap (λ p. types_after (types_after (with_types T (at + inner_labels kind) results) (at + (inner_labels kind + length results)) a) p b) (sym e)

pub named_joined : (N : Names) (a b : OpList) → NamedOps N a → NamedOps (names_after N a) b → NamedOps N (joined a b)
named_joined N nil b h g = g
named_joined N (next packs results kind a) b h g = (h.0, h.1, named_joined (with_packs N packs) a b h.2 g)

pub names_after_joined : (N : Names) (a b : OpList) → names_after N (joined a b) ≡ names_after (names_after N a) b
names_after_joined N nil b = refl
names_after_joined N (next packs results kind a) b = names_after_joined (with_packs N packs) a b
