-- Products that grow evenly, from what programs keep of them.
use Rattle.std.specs.Prelude.{ℕ, ◌≡◌, ◌+◌, ◌-◌, ◌==◌, ◌&&◌, Bool, true, false, List, [], ◌∷◌, length, ◌++◌, Option, Some, None, if◌then◌else◌}
use Rattle.std.specs.Option.{option_map}
use Rattle.mlir_ir.specs.Operations.{For, OpKind, OpList, nil, next, labels_of, joined}
use Rattle.mlir_ir.specs.Typed.{Types}
use Rattle.mlir_ir.specs.View.{view_ops}
use Rattle.mlir_ir.specs.declared.types.IrType.{IrType}
use Rattle.mlir_ir.specs.declared.types.Op.{Op}
use Rattle.mlir_ir.specs.declared.types.Pack.{Pack}
use Rattle.pass_copy.specs.Built.{label, moved, sum}
use Rattle.pass_copy.specs.Copied.{HaveGiven}
use Rattle.pass_copy.specs.declared.building.Out.{Out}
use Rattle.arith_word.specs.declared.label.Label.{Label}
use Rattle.pass_copy.specs.Renaming.{renamed, span}
use Rattle.pass_copy.specs.declared.renaming.Span.{Span}
use Rattle.pass_unroll.specs.Copies.{ForLoop}
use Rattle.pass_copy.specs.Renamed.{keep, names_of, relabels, rename_ops}
use Rattle.pass_copy.specs.Replaced.{Operation}
use Rattle.pass_copy.specs.declared.names.Names.{Names}
use Rattle.pass_indvar.specs.Reductions.{Progression, progression, is_product, without}
use Rattle.pass_indvar.specs.declared.growth.Growth.{Growth}
use Rattle.pass_indvar.specs.declared.growth.Places.{Places}
use Rattle.scev_tree.specs.Polynomial.{Polynomial, ext, none, more, variable_of}
use Rattle.scev_tree.specs.Tree.{polynomial_of}

abbrev pub progression_in : Growth → Progression
progression_in g = record { product = g.product.0; ty = g.ty; start = polynomial_of g.places.start.tree; step = polynomial_of g.places.step.tree }

abbrev pub progressions_in : Option Growth → Option Progression
progressions_in g = option_map progression_in g

-- the places of an expression over the counter of the loop with label t alone; no progression else
abbrev pub ArePlaces : ℕ → Polynomial → Places → Type 0
ArePlaces t p places = p ≡ ext (variable_of true t) (more (polynomial_of places.start.tree) (more (polynomial_of places.step.tree) none))

abbrev pub HasNoPlaces : ℕ → Polynomial → Type 0
HasNoPlaces t p = (T : Types) (l : ℕ) (ty : IrType) → progression T t l ty p ≡ None

-- how many entries an operation has: a product has one
abbrev pub entries_of : OpKind → ℕ
entries_of kind = if is_product kind then 1 else 0

-- the progression of the first of some results with label l, by an entry
abbrev pub result_growth : Types → ℕ → ℕ → List IrType → Option Polynomial → Option Progression
result_growth T t l (ty ∷ tys) (Some p) = progression T t l ty p
result_growth T t l _ _ = None

-- that of a product
abbrev pub growth_of : Types → ℕ → ℕ → Operation → Option Polynomial → Option Progression
growth_of T t l o e = if is_product o.kind then result_growth T t l o.results e else None

-- ---- the body without the product

-- whether an operation with the label `at` is the product with label l, if that wasn't left out before
abbrev pub leaves : Bool → OpKind → ℕ → ℕ → Bool
leaves done kind at l = if done then false else is_product kind && (at == l)

abbrev pub unless : Bool → OpList → OpList
unless out ops = if out then nil else ops

abbrev pub alone : Operation → OpList
alone o = next o.packs o.results o.kind nil

-- a copy of an operation was added, with its own names, unless it is left out
pub record IsPushedUnless (f : ℕ → ℕ) (out : Bool) (o : Operation) (made : List Op) (names : Names) (more : List Op) (after : Names) : Type 0 where
  pub ops : view_ops more ≡ joined (view_ops made) (rename_ops f keep names.given (unless out (alone o)))
  pub kept : after.kept ≡ true
  pub given : after.given ≡ names.given + names_of (unless out (alone o))

-- ---- the loop with one argument more, from its label `at` on

module _ (t : ℕ) (o : ForLoop) (product at : ℕ) where
  abbrev pub arg_at : ℕ
  arg_at = at + 2 + length o.args

  abbrev pub end_at : ℕ
  end_at = arg_at + labels_of o.body

  abbrev pub body_from : ℕ
  body_from = t + 2 + length o.args

  abbrev pub results_from : ℕ
  results_from = body_from + labels_of o.body

  abbrev pub moves : List Span
  moves =
      span (t + 1) (1 + length o.args) (at + 1)
      ∷ span body_from (product - body_from) (arg_at + 1)
      ∷ span product 1 arg_at
      ∷ span (product + 1) (results_from - (product + 1)) (product + 1 + (at - t))
      ∷ span results_from (length o.results) (end_at + 1)
      ∷ moved (results_from + length o.results) (end_at + 2 + length o.results) ∷ []

  -- the body that ends in the sum of the argument and the step, which has that name
  abbrev pub sum_body : (List ℕ) → IrType → Label → OpList
  sum_body name ty step = joined (rename_ops (renamed moves) keep 0 (without product body_from o.body)) (sum name ty (label arg_at) step nil)

  abbrev pub sum_ends : List Label
  sum_ends = relabels (renamed moves) o.ends ++ label end_at ∷ []

  -- what the loop does, where its argument and the sum have these names
  abbrev pub sum_kind : List ℕ → List ℕ → IrType → Label → Label → OpKind
  sum_kind arg name ty start step =
      For o.lower o.upper o.step o.iv (o.args ++ record { name = arg; ty = ty } ∷ []) (o.inits ++ start ∷ []) (sum_body name ty step) sum_ends

-- a name was given for each of so many values, and nothing was built
pub record AreNamed (old : Out) (n : ℕ) (new : Out) : Type 0 where
  pub ops : new.ops ≡ old.ops
  pub names : HaveGiven old.fresh n new.fresh

-- one result of that name
abbrev pub pack : List ℕ → Pack
pack name = record { name = name; count = 1 }
