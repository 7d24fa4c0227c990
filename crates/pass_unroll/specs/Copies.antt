-- Copies of the body of an `scf.for`, with other values for its variable and its arguments.
use Rattle.std.specs.Prelude.{ℕ, zero, suc, ◌+◌, ◌*◌, List, [], ◌∷◌, ◌++◌, length}
use Rattle.arith_word.specs.declared.label.Label.{Label}
use Rattle.mlir_ir.specs.declared.types.Arg.{Arg}
use Rattle.mlir_ir.specs.declared.types.IrType.{IrType}
use Rattle.mlir_ir.specs.declared.types.Pack.{Pack}
use Rattle.mlir_ir.specs.Operations.{For, OpList, nil, labels_of, joined}
use Rattle.pass_copy.specs.Renamed.{relabels, anew, rename_ops, names_of}
use Rattle.pass_copy.specs.Renaming.{span, links, renamed}
use Rattle.pass_copy.specs.Replaced.{Operation}
use Rattle.pass_copy.specs.Built.{label, constant, sum}
use Rattle.pass_copy.specs.declared.renaming.Span.{Span}

-- an `scf.for` with its results
pub record ForLoop : Type 0 where
  pub packs : List Pack
  pub results : List IrType
  pub lower : Label
  pub upper : Label
  pub step : Label
  pub iv : Arg
  pub args : List Arg
  pub inits : List Label
  pub body : OpList
  pub ends : List Label

abbrev pub operation_of : ForLoop → Operation
operation_of o = record {
  packs = o.packs;
  results = o.results;
  kind = For o.lower o.upper o.step o.iv o.args o.inits o.body o.ends;
}

module _ (fresh : ℕ → List ℕ) (t : ℕ) (o : ForLoop) where
  -- the labels of the copy of the body whose operations begin with label `at`, for these values of the variable and the arguments
  abbrev pub copy_spans : Label → List Label → ℕ → List Span
  copy_spans variable args at = links (t + 1) (variable ∷ args) ++ span (t + 2 + length args) (labels_of o.body) at ∷ []

  abbrev pub copy_ends : Label → List Label → ℕ → List Label
  copy_ends variable args at = relabels (renamed (copy_spans variable args at)) o.ends

  -- a copy whose names are fresh ones from number k on
  abbrev pub copy : ℕ → Label → List Label → ℕ → OpList
  copy k variable args at = rename_ops (renamed (copy_spans variable args at)) (anew fresh) k o.body

  -- n copies from label `at` on, each behind a constant for its variable: v, and then `step` more each time
  abbrev pub full_copies : ℕ → ℕ → ℕ → ℕ → ℕ → List Label → OpList
  full_copies step zero k at v args = nil
  full_copies step (suc n) k at v args =
      constant (fresh k) o.iv.ty v
      (joined (copy (k + 1) (label at) args (at + 1))
      (full_copies step n (k + 1 + names_of o.body) (at + 1 + labels_of o.body) (v + step) (copy_ends (label at) args (at + 1))))

  -- what the last of them yields
  abbrev pub full_ends : ℕ → ℕ → List Label → List Label
  full_ends zero at args = args
  full_ends (suc n) at args = full_ends n (at + 1 + labels_of o.body) (copy_ends (label at) args (at + 1))

  -- n copies from label `at` on in a loop with that variable, each behind the variable's value in it: number j adds j steps
  abbrev pub more_copies : ℕ → Label → ℕ → ℕ → ℕ → ℕ → List Label → OpList
  more_copies step variable zero j k at args = nil
  more_copies step variable (suc n) j k at args =
      constant (fresh k) o.iv.ty (j * step)
      (sum (fresh (k + 1)) o.iv.ty variable (label at)
      (joined (copy (k + 2) (label (at + 1)) args (at + 2))
      (more_copies step variable n (j + 1) (k + 2 + names_of o.body) (at + 2 + labels_of o.body) (copy_ends (label (at + 1)) args (at + 2)))))

  abbrev pub more_ends : ℕ → ℕ → List Label → List Label
  more_ends zero at args = args
  more_ends (suc n) at args = more_ends n (at + 2 + labels_of o.body) (copy_ends (label (at + 1)) args (at + 2))
