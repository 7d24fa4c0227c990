-- What typing says of an `scf.for`: its lists have one length, and what it uses is in scope.
use Rattle.std.proofs.Common.{◌≡◌, ℕ, ◌+◌, ◌==◌, ◌&&◌, ◌||◌, nat_lt, true, [], ◌∷◌, length, ◌∙◌, sym, arith}
use Rattle.std.proofs.lemmas.Bool.{and_parts, eqb-true}
use Rattle.std.proofs.lemmas.Bool.Decides.{nat_tests}
use Rattle.std.specs.List.{list_all}
use Rattle.mlir_ir.specs.Rules.{arg_types}
use Rattle.mlir_ir.specs.Typed.{Types, with_types, knows, TypedOp, TypedOps, TypedRegions, types_after}
use Rattle.pass_unroll.specs.Copies.{ForLoop, operation_of}

same_length : (a b : ℕ) → (b == 0 || nat_lt 0 a) ≡ true → (a == 0 || a == b) ≡ true → a ≡ b
same_length a b h h2 = grind (arith, nat_tests)

-- an `scf.for` at label t is typed
module _ (T : Types) (t : ℕ) (o : ForLoop) (typed : TypedOp T o.packs o.results (operation_of o).kind) (inside : TypedRegions T t o.results (operation_of o).kind) where
  lists : ((length o.inits == length o.args) ≡ true) × ((length o.args == length o.results) ≡ true) × ((length o.results == 0 || nat_lt 0 (length o.ends)) ≡ true)
  lists =
      let p = and_parts (length o.inits == length o.args && length o.args == length o.results) (length o.results == 0 || nat_lt 0 (length o.ends)) typed.counted in
      let q = and_parts (length o.inits == length o.args) (length o.args == length o.results) p.0 in
      (q.0, q.1, p.1)

  pub inits_length : length o.inits ≡ length o.args
  inits_length = eqb-true (length o.inits) (length o.args) lists.0

  pub results_length : length o.args ≡ length o.results
  results_length = eqb-true (length o.args) (length o.results) lists.1

  pub ends_length : length o.ends ≡ length o.args
  ends_length = same_length (length o.ends) (length o.results) lists.2 inside.1.counted ∙ sym results_length

  pub header_known : (knows T o.lower ≡ true) × (knows T o.upper ≡ true) × (knows T o.step ≡ true) × (list_all (knows T) o.inits ≡ true)
  header_known =
      let p = and_parts (knows T o.lower) (list_all (knows T) (o.upper ∷ o.step ∷ o.inits)) typed.in_scope in
      let q = and_parts (knows T o.upper) (list_all (knows T) (o.step ∷ o.inits)) p.1 in
      let r = and_parts (knows T o.step) (list_all (knows T) o.inits) q.1 in
      (p.0, q.0, r.0, r.1)

  -- the scope inside the loop
  abbrev pub inner_types : Types
  inner_types = with_types (with_types T (t + 1) (o.iv.ty ∷ [])) (t + 2) (arg_types o.args)

  pub body_typed : TypedOps inner_types (t + 2 + length o.args) o.body
  body_typed = inside.0

  pub ends_known : list_all (knows (types_after inner_types (t + 2 + length o.args) o.body)) o.ends ≡ true
  ends_known = inside.1.in_scope
