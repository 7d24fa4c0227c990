-- The first token that is one too many, of items that have them.
use Rattle.std.proofs.Common.{◌≡◌, ℕ, List, [], map, length, ltb, get_or, true, false, refl}
use Rattle.std.proofs.lemmas.List.{drop-map}
use Rattle.mlir_ir.specs.ScopeFaults.{broken, over}
use Rattle.mlir_ir.specs.declared.scope_kind.ScopeKind.TheVariants.{Limit}
use Rattle.mlir_scope.proofs.Parted.{cut_found, cut_past}

pub over_found : {X Y : Type 0} (limit : ℕ) (g : X → Y) (f : Y → ℕ) (xs : List X) (x : X) → true ≡ ltb limit (length xs) → x ≡ get_or xs limit x
    → over limit (map f (map g xs)) ≡ broken true (f (g x)) Limit
over_found limit g f xs x within here = rw (drop-map f limit (map g xs), drop-map g limit xs, cut_found xs limit x within here) refl

pub over_past : {X Y : Type 0} (limit : ℕ) (g : X → Y) (f : Y → ℕ) (xs : List X) → false ≡ ltb limit (length xs) → over limit (map f (map g xs)) ≡ []
over_past limit g f xs past = rw (drop-map f limit (map g xs), drop-map g limit xs, cut_past xs limit past) refl
