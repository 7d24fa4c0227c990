-- The uses of well-typed loops: they are in scope, and have the widths of the types that belong to them.
use Rattle.std.proofs.Common.{◌≡◌, ℕ, ◌+◌, ◌==◌, ◌&&◌, ◌||◌, nat_lt, true, List, [], ◌∷◌, length, sym, ◌∙◌}
use Rattle.std.specs.List.{list_all}
use Rattle.std.proofs.lemmas.Bool.{and_parts, eqb-true}
use Rattle.arith_word.specs.declared.label.Label.{Label}
use Rattle.mlir_ir.specs.Rules.{arg_types, same_types, truth}
use Rattle.mlir_ir.specs.Operations.{For, While, OpList, labels_of}
use Rattle.mlir_ir.specs.Typed.{Types, TypedOp, TypedRegions, knows, fits, all_fit, with_types, types_after}
use Rattle.mlir_ir.specs.declared.types.Arg.{Arg}
use Rattle.mlir_ir.specs.declared.types.IrType.{IrType}
use Rattle.mlir_ir.specs.declared.types.Pack.{Pack}
use Rattle.fresh_scev.proofs.StandingFacts.{types_length}
use Rattle.scev_soundness.proofs.Arguments.{HasBits, HaveBits, has_bits, have_bits, have_bits_alike, yields_length}

-- ---- an `scf.for` that begins at label `at`

module _ (T : Types) (packs : List Pack) (results : List IrType) (lower upper step : Label) (iv : Arg)
    (args : List Arg) (inits : List Label) (body : OpList) (ends : List Label) (at : ℕ)
    (t : TypedOp T packs results (For lower upper step iv args inits body ends)) where
  -- where the body begins, and where it ends
  abbrev pub for_scope : Types
  for_scope = with_types (with_types T (at + 1) (iv.ty ∷ [])) (at + 2) (arg_types args)

  abbrev pub for_end : Types
  for_end = types_after for_scope (at + 2 + length args) body

  -- the bounds and the step have the type of the variable
  pub for_bounds : HasBits T iv.ty lower × HasBits T iv.ty upper × HasBits T iv.ty step
  for_bounds =
      let a = and_parts (knows T lower) (list_all (knows T) (upper ∷ step ∷ inits)) t.in_scope in
      let b = and_parts (knows T upper) (list_all (knows T) (step ∷ inits)) a.1 in
      let c = and_parts (knows T step) (list_all (knows T) inits) b.1 in
      let same = and_parts (list_all (fits T iv.ty) (lower ∷ upper ∷ step ∷ []) && all_fit T (arg_types args) inits)
      (same_types (arg_types args) results) t.typed in
      let all = and_parts (list_all (fits T iv.ty) (lower ∷ upper ∷ step ∷ []))
      (all_fit T (arg_types args) inits) same.0 in
      let d = and_parts (fits T iv.ty lower) (list_all (fits T iv.ty) (upper ∷ step ∷ [])) all.0 in
      let e = and_parts (fits T iv.ty upper) (list_all (fits T iv.ty) (step ∷ [])) d.1 in
      let f = and_parts (fits T iv.ty step) true e.1 in
      (has_bits T iv.ty lower a.0 d.0, has_bits T iv.ty upper b.0 e.0, has_bits T iv.ty step c.0 f.0)

  -- there are as many arguments as results, and of their types
  pub for_results : (length args ≡ length results) × (same_types (arg_types args) results ≡ true)
  for_results =
      let many = and_parts (length inits == length args && length args == length results)
      (length results == 0 || nat_lt 0 (length ends)) t.counted in
      let as_many = and_parts (length inits == length args) (length args == length results) many.0 in
      let same = and_parts (list_all (fits T iv.ty) (lower ∷ upper ∷ step ∷ []) && all_fit T (arg_types args) inits)
      (same_types (arg_types args) results) t.typed in
      (eqb-true (length args) (length results) as_many.1, same.1)

  pub for_inits : HaveBits T (arg_types args) inits
  for_inits =
      let a = and_parts (knows T lower) (list_all (knows T) (upper ∷ step ∷ inits)) t.in_scope in
      let b = and_parts (knows T upper) (list_all (knows T) (step ∷ inits)) a.1 in
      let c = and_parts (knows T step) (list_all (knows T) inits) b.1 in
      let same = and_parts (list_all (fits T iv.ty) (lower ∷ upper ∷ step ∷ []) && all_fit T (arg_types args) inits)
      (same_types (arg_types args) results) t.typed in
      let all = and_parts (list_all (fits T iv.ty) (lower ∷ upper ∷ step ∷ []))
      (all_fit T (arg_types args) inits) same.0 in
      let many = and_parts (length inits == length args && length args == length results)
      (length results == 0 || nat_lt 0 (length ends)) t.counted in
      let as_many = and_parts (length inits == length args) (length args == length results) many.0 in
      have_bits T (arg_types args) inits c.1 all.1
      (eqb-true (length inits) (length args) as_many.0 ∙ sym (types_length args))

  pub for_ends : TypedRegions T at results (For lower upper step iv args inits body ends)
      → HaveBits for_end (arg_types args) ends
  for_ends r =
      let many = and_parts (length inits == length args && length args == length results)
      (length results == 0 || nat_lt 0 (length ends)) t.counted in
      have_bits_alike for_end (arg_types args) results ends for_results.1 (types_length args ∙ for_results.0)
      (have_bits for_end results ends r.1.in_scope r.1.typed (yields_length results ends r.1.counted many.1))

-- ---- an `scf.while` that begins at label `at`

module _ (T : Types) (packs : List Pack) (results : List IrType) (args : List Arg) (inits : List Label)
    (before : OpList) (passed : List Label) (cond : Label) (after_args : List Arg) (after : OpList)
    (ends : List Label)
    (at : ℕ) (t : TypedOp T packs results (While args inits before passed cond after_args after ends))
    (r : TypedRegions T at results (While args inits before passed cond after_args after ends)) where
  -- where the before region ends
  abbrev pub before_end : Types
  before_end = types_after (with_types T (at + 1) (arg_types args)) (at + 1 + length args) before

  -- where the after region begins, and where it ends
  abbrev pub after_scope : Types
  after_scope = with_types T (at + 1 + length args + labels_of before) (arg_types after_args)

  abbrev pub after_end : Types
  after_end = types_after after_scope (at + 1 + length args + labels_of before + length after_args) after

  pub while_inits : HaveBits T (arg_types args) inits
  while_inits =
      let many = and_parts (length inits == length args) (length after_args == length results) t.counted in
      have_bits T (arg_types args) inits t.in_scope t.typed
      (eqb-true (length inits) (length args) many.0 ∙ sym (types_length args))

  pub while_condition : HasBits before_end truth cond
  while_condition =
      let s = and_parts (knows before_end cond) (list_all (knows before_end) passed) r.1.in_scope in
      let f = and_parts (fits before_end truth cond) (all_fit before_end results passed) r.1.typed in
      has_bits before_end truth cond s.0 f.0

  -- what is passed has the types of the results
  pub while_passed : HaveBits before_end results passed
  while_passed =
      let s = and_parts (knows before_end cond) (list_all (knows before_end) passed) r.1.in_scope in
      let f = and_parts (fits before_end truth cond) (all_fit before_end results passed) r.1.typed in
      have_bits before_end results passed s.1 f.1 (eqb-true (length passed) (length results) r.1.counted)

  -- and of the parameters of the after region
  pub while_params : HaveBits before_end (arg_types after_args) passed
  while_params =
      let many = and_parts (length inits == length args) (length after_args == length results) t.counted in
      have_bits_alike before_end (arg_types after_args) results passed r.2
      (types_length after_args ∙ eqb-true (length after_args) (length results) many.1) while_passed

  pub while_ends : HaveBits after_end (arg_types args) ends
  while_ends = have_bits after_end (arg_types args) ends r.4.in_scope r.4.typed
      (eqb-true (length ends) (length (arg_types args)) r.4.counted)
