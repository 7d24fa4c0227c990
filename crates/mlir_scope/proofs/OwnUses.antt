-- Uses beside the first of some written types.
use Rattle.std.proofs.Common.{◌≡◌, List, [], ◌∷◌, Option, Some, None, refl, ap, ◌∙◌, sym, slice_get}
use Rattle.std.specs.List.{flat_map}
use Rattle.std.specs.Option.{option_map}
use Rattle.mlir_ir.specs.ScopeFaults.{broken, differs, same_written}
use Rattle.mlir_ir.specs.Source.{Use, Written}
use Rattle.mlir_ir.specs.Values.{Value}
use Rattle.mlir_ir.specs.declared.scope_kind.ScopeKind.TheVariants.{WrongType}
use Rattle.mlir_ir.specs.declared.types.IrType.{IrType}

pub same_first : (scope : List Value) (uses : List Use) (types : List Written) (ty : IrType) → Some ty ≡ option_map (λ (t : Written). t.ty) (slice_get types 0)
    → same_written scope uses types ≡ flat_map (λ u. broken (differs scope u ty) u.at WrongType) uses
same_first scope uses [] ty h = cc
same_first scope uses (t ∷ types) ty h =
    let e : t.ty ≡ ty = cc in
    ap (λ (k : IrType). flat_map (λ u. broken (differs scope u k) u.at WrongType) uses) e

pub same_none : (scope : List Value) (uses : List Use) (types : List Written) → None ≡ option_map (λ (t : Written). t.ty) (slice_get types 0)
    → same_written scope uses types ≡ []
same_none scope uses [] h = refl
same_none scope uses (t ∷ types) h = cc
