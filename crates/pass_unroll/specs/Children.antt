-- The children of a function in which a loop is peeled, unrolled, or unrolled in full.
use Rattle.std.specs.Prelude.{ℕ, ◌≡◌, ◌+◌, ◌-◌, ◌*◌, ◌/◌, ◌%◌, ◌==◌, List, [], ◌∷◌, ◌++◌, length, if◌then◌else◌}
use Rattle.arith_word.specs.declared.label.Label.{Label}
use Rattle.mlir_ir.specs.Operations.{For, OpKind, OpList, nil, next, labels_of, joined}
use Rattle.mlir_ir.specs.Reads.{plain_func}
use Rattle.mlir_ir.specs.declared.types.Func.{Func}
use Rattle.pass_copy.specs.Fresh.{fresh_names}
use Rattle.pass_copy.specs.Renamed.{relabels, keep, anew, rename_arg, rename_args, rename_packs, rename_ops, names_of}
use Rattle.pass_copy.specs.Renaming.{links, renamed}
use Rattle.pass_copy.specs.Replaced.{StandsAt, replaced_func}
use Rattle.pass_copy.specs.declared.renaming.Span.{Span}
use Rattle.pass_unroll.specs.Copies.{ForLoop, operation_of, copy_spans, copy_ends, copy, full_copies, full_ends, more_copies, more_ends}
use Rattle.pass_copy.specs.Built.{label, labels_from, constant, moved}
use Rattle.pass_unroll.specs.declared.plan.Plan.{Plan}

module _ (fresh : ℕ → List ℕ) (t : ℕ) (plan : Plan) (o : ForLoop) where
  -- ---- peel: a copy of the body for the lower bound, and the loop from the second value of its variable

  abbrev pub peel_spans : List Span
  peel_spans = moved t (t + labels_of o.body + 1) ∷ []

  abbrev pub peeled : OpList
  peeled =
      let f = renamed peel_spans in
      joined (copy fresh t o 0 o.lower o.inits t)
      (constant (fresh (names_of o.body)) o.iv.ty (plan.lower + plan.step)
      (next o.packs o.results
      (For (label (t + labels_of o.body)) o.upper o.step o.iv o.args (copy_ends fresh t o o.lower o.inits t)
      (rename_ops f keep 0 o.body) (relabels f o.ends)) nil))

  -- ---- unroll-full: a constant and a copy for each iteration

  abbrev pub unrolled_full : OpList
  unrolled_full = full_copies fresh t o plan.step plan.count 0 t plan.lower o.inits

  abbrev pub full_spans : List Span
  full_spans =
      let results = t + 2 + length o.args + labels_of o.body in
      links results (full_ends fresh t o plan.count t o.inits)
      ++ moved (results + length o.results) (t + labels_of unrolled_full) ∷ []

  -- ---- unroll by a factor: two constants, the main loop, and a rest loop where the factor doesn't divide the count

  module _ (factor : ℕ) where
    abbrev pub main_count : ℕ
    main_count = plan.count / factor

    abbrev pub rest_count : ℕ
    rest_count = plan.count % factor

    -- the labels inside a loop that begins with label `at`: its arguments, and what stands in its body
    abbrev pub inner_args : ℕ → List Label
    inner_args at = labels_from (at + 2) (length o.args)

    abbrev pub in_body : ℕ → ℕ
    in_body at = at + 2 + length o.args

    -- the body of the main loop: the body with its names, and the other copies
    abbrev pub main_first : ℕ → List Span
    main_first at = copy_spans fresh t o (label (at + 1)) (inner_args at) (in_body at)

    abbrev pub main_body : ℕ → OpList
    main_body at =
        let f = renamed (main_first at) in
        joined (rename_ops f keep 0 o.body)
        (more_copies fresh t o plan.step (label (at + 1)) (factor - 1) 1 2 (in_body at + labels_of o.body) (relabels f o.ends))

    abbrev pub main_ends : ℕ → List Label
    main_ends at = more_ends fresh t o (factor - 1) (in_body at + labels_of o.body) (relabels (renamed (main_first at)) o.ends)

    abbrev pub main_kind : ℕ → OpKind
    main_kind at = For o.lower (label t) (label (t + 1)) o.iv o.args o.inits (main_body at) (main_ends at)

    -- the fresh names before the main loop's results
    abbrev pub main_names : ℕ
    main_names = 2 + (factor - 1) * (2 + names_of o.body)

    -- a loop that begins with label `at`, from the last value of the main loop on, with fresh names from number k on
    abbrev pub rest_kind : ℕ → ℕ → List Label → OpKind
    rest_kind k at inits =
        For (label t) o.upper o.step (rename_arg (anew fresh) k o.iv) (rename_args (anew fresh) (k + 1) o.args) inits
        (copy fresh t o (k + 1 + length o.args) (label (at + 1)) (inner_args at) (in_body at))
        (copy_ends fresh t o (label (at + 1)) (inner_args at) (in_body at))

    abbrev pub main_alone : OpList
    main_alone = next o.packs o.results (main_kind (t + 2)) nil

    abbrev pub main_and_rest : OpList
    main_and_rest =
        let results = in_body (t + 2) + labels_of (main_body (t + 2)) in
        let count = length o.results in
        next (rename_packs (anew fresh) main_names o.packs) o.results (main_kind (t + 2))
        (next o.packs o.results (rest_kind (main_names + length o.packs) (results + count) (labels_from results count)) nil)

    abbrev pub unrolled : OpList
    unrolled =
        constant (fresh 0) o.iv.ty (plan.lower + main_count * factor * plan.step)
        (constant (fresh 1) o.iv.ty (factor * plan.step)
        (if rest_count == 0 then main_alone else main_and_rest))

    abbrev pub unroll_spans : List Span
    unroll_spans =
        let results = t + 2 + length o.args + labels_of o.body in
        moved results (t + labels_of unrolled - length o.results) ∷ []

-- ---- children: the loop at label t gives way

pub record IsPeeled (f : Func) (t : ℕ) (plan : Plan) (child : Func) : Type 0 where
  pub o : ForLoop
  pub stands : StandsAt f t (operation_of o)
  pub is : plain_func child ≡ replaced_func (renamed (peel_spans (fresh_names f) t plan o)) t (peeled (fresh_names f) t plan o) f

pub record IsUnrolledFull (f : Func) (t : ℕ) (plan : Plan) (child : Func) : Type 0 where
  pub o : ForLoop
  pub stands : StandsAt f t (operation_of o)
  pub is : plain_func child ≡ replaced_func (renamed (full_spans (fresh_names f) t plan o)) t (unrolled_full (fresh_names f) t plan o) f

pub record IsUnrolled (f : Func) (t factor : ℕ) (plan : Plan) (child : Func) : Type 0 where
  pub o : ForLoop
  pub stands : StandsAt f t (operation_of o)
  pub is : plain_func child
      ≡ replaced_func (renamed (unroll_spans (fresh_names f) t plan o factor)) t (unrolled (fresh_names f) t plan o factor) f
