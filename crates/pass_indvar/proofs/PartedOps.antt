-- Operations in two parts, under a renaming and in their scope.
use Rattle.std.proofs.Common.{◌≡◌, ℕ, ◌+◌, length, ap, ◌∙◌, subst, arith}
use Rattle.mlir_ir.specs.Operations.{OpList, nil, next, labels_of, inner_labels, joined}
use Rattle.mlir_ir.specs.Typed.{Types, with_types, types_after, TypedOps}
use Rattle.pass_copy.specs.Renamed.{Naming, rename_packs, rename_ops, rename_kind, names_of, inner_names}

pub joined_renamed : (f : ℕ → ℕ) (name : Naming) (k : ℕ) (a b : OpList) → rename_ops f name k (joined a b) ≡ joined (rename_ops f name k a) (rename_ops f name (k + names_of a) b)
joined_renamed f name k nil b = let e : k ≡ k + 0 = omega arith in ap (λ n. rename_ops f name n b) e
joined_renamed f name k (next packs results kind rest) b =
    let k1 = k + (inner_names kind + length packs) in
    let e : k1 + names_of rest ≡ k + (inner_names kind + length packs + names_of rest) = omega arith in
    ap (next (rename_packs name (k + inner_names kind) packs) results (rename_kind f name k kind))
    (joined_renamed f name k1 rest b ∙ ap (λ n. joined (rename_ops f name k1 rest) (rename_ops f name n b)) e)

pub joined_parts : (T : Types) (at : ℕ) (a b : OpList) → TypedOps T at (joined a b) → TypedOps T at a × TypedOps (types_after T at a) (at + labels_of a) b
joined_parts T at nil b h = let e : at ≡ at + 0 = omega arith in (tt, subst (λ p. TypedOps T p b) e h)
joined_parts T at (next packs results kind rest) b h =
    let w = inner_labels kind + length results in
    let U = with_types T (at + inner_labels kind) results in
    let e : at + w + labels_of rest ≡ at + (w + labels_of rest) = omega arith in
    let p = joined_parts U (at + w) rest b h.2 in
    ((h.0, h.1, p.0), subst (λ x. TypedOps (types_after U (at + w) rest) x b) e p.1)
