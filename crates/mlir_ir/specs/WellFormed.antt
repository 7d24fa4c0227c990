-- What a well-formed function is: it is typed, its values are named apart, and it keeps the limits.
use Rattle.std.specs.Prelude.{◌≡◌, ◌≤◌, true, List, [], ◌∷◌, length, Option, None, Some}
use Rattle.mlir_ir.specs.declared.shape.Shape.{Shape}
use Rattle.mlir_ir.specs.declared.shape.ShapeFault.TheVariants.{Size}
use Rattle.mlir_ir.specs.declared.types.Body.{Body}
use Rattle.mlir_ir.specs.declared.types.Func.{Func}
use Rattle.mlir_ir.specs.Names.{is_name}
use Rattle.mlir_ir.specs.Limits.{result_limit}
use Rattle.mlir_ir.specs.Rules.{is_short}
use Rattle.mlir_ir.specs.Typed.{TypedBody}
use Rattle.mlir_ir.specs.Named.{NamedBody, NamedDeclared, unnamed}
use Rattle.mlir_ir.specs.Sized.{SizedArgs, SizedBody}
use Rattle.mlir_ir.specs.View.{view_items}

-- a declaration has no values that types are asked of
abbrev pub IsTypedBody : Func → Option Body → Type 0
IsTypedBody f None = Unit {0}
IsTypedBody f (Some body) = TypedBody f.index f.args f.results (view_items body.items) body.ret

abbrev pub IsTyped : Func → Type 0
IsTyped f = IsTypedBody f f.body

abbrev pub IsNamedBody : Func → Option Body → Type 0
IsNamedBody f None = NamedDeclared unnamed f.args
IsNamedBody f (Some body) = NamedBody f.args (view_items body.items)

pub record IsNamed (f : Func) : Type 0 where
  pub head : is_name f.name ≡ true
  pub inside : IsNamedBody f f.body

abbrev pub IsSizedBody : Option Body → Type 0
IsSizedBody None = Unit {0}
IsSizedBody (Some body) = SizedBody (view_items body.items)

pub record IsSized (f : Func) : Type 0 where
  pub short : is_short f.name ≡ true
  pub few : length f.results ≤ result_limit
  pub args_sized : SizedArgs f.args
  pub inside : IsSizedBody f.body

-- no break but of a limit
abbrev pub OnlySize : List Shape → Type 0
OnlySize [] = Unit {0}
OnlySize (break ∷ rest) = (break.fault ≡ Size) × OnlySize rest

-- no break of a limit
abbrev pub NoSize : List Shape → Type 0
NoSize [] = Unit {0}
NoSize (break ∷ rest) = (break.fault ≡ Size → ⊥) × NoSize rest
