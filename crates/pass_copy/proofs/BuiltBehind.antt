-- Operations that are built one behind another.
use Rattle.std.proofs.Common.{◌≡◌, ℕ, ◌+◌, List, [], ◌∷◌, ◌++◌, refl, ap, ◌∙◌, sym, arith}
use Rattle.mlir_ir.specs.Operations.{SimpleOp, Simple, OpKind, OpList, nil, next, joined}
use Rattle.mlir_ir.specs.View.{view_kind, view_ops}
use Rattle.mlir_ir.specs.declared.types.IrType.{IrType}
use Rattle.mlir_ir.specs.declared.types.Op.{Op}
use Rattle.mlir_ir.specs.declared.types.Pack.{Pack}
use Rattle.pass_copy.specs.Copied.{HaveGiven}
use Rattle.pass_copy.proofs.JoinedOps.{joined_nil, joined_assoc, joined_labels, joined_names, view_append}
use Rattle.pass_copy.specs.Built.{IsBehind, gives_one}
use Rattle.pass_copy.specs.declared.building.Out.{Out}

pub behind_none : (out : Out) → IsBehind out nil out
behind_none out = record {
  ops = sym (joined_nil (view_ops out.ops.items));
  at = omega arith;
  names = record { kept = refl; same = refl; count = omega arith };
}

pub behind_then : (a b c : Out) (first second : OpList) → IsBehind a first b → IsBehind b second c → IsBehind a (joined first second) c
behind_then a b c first second p q = record {
  ops = q.ops ∙ ap (λ (z : OpList). joined z second) p.ops ∙ joined_assoc (view_ops a.ops.items) first second;
  at = let e = p.at in let f = q.at in let l = joined_labels first second in omega arith;
  names = record {
    kept = q.names.kept ∙ p.names.kept;
    same = q.names.same ∙ p.names.same;
    count = let e = p.names.count in let f = q.names.count in let l = joined_names first second in omega arith;
  };
}

-- one operation more
pub view_pushed : (ops : List Op) (o : Op) (packs : List Pack) (results : List IrType) (kind : OpKind) → o.packs ≡ packs → o.results ≡ results → view_kind o.kind ≡ kind
    → view_ops (ops ++ o ∷ []) ≡ joined (view_ops ops) (next packs results kind nil)
view_pushed ops o packs results kind p r k = view_append ops (o ∷ []) ∙ ap (joined (view_ops ops)) (λ j. next (p j) (r j) (k j) nil)

-- an operation with one result more
pub simple_behind : (old new : Out) (name : List ℕ) (ty : IrType) (kind : OpKind) → ((does : SimpleOp) × (kind ≡ Simple does)) → (o : Op) → new.ops.items ≡ old.ops.items ++ o ∷ []
    → o.packs ≡ record { name = name; count = 1 } ∷ [] → o.results ≡ ty ∷ [] → view_kind o.kind ≡ kind
    → new.at ≡ old.at + 1 → HaveGiven old.fresh 1 new.fresh → IsBehind old (gives_one name ty kind nil) new
simple_behind old new name ty kind simple o pushed p r k at given = record {
  ops = ap view_ops pushed ∙ view_pushed old.ops.items o (record { name = name; count = 1 } ∷ []) (ty ∷ []) kind p r k;
  at = rw (simple.1) (omega arith);
  names = rw (simple.1) given;
}

abbrev pub one_pack : List ℕ → List Pack
one_pack name = record { name = name; count = 1 } ∷ []

pub pack_of : {a b : List ℕ} → a ≡ b → one_pack a ≡ one_pack b
pack_of e = ap one_pack e
