-- Operations without regions give the machine and the run the same numbers.
use Rattle.std.proofs.Common.{◌≡◌, ℕ, suc, ◌+◌, ◌==◌, ◌&&◌, ◌||◌, not, ◌≤◌, ◌^◌, ◌%◌, true, List, [], ◌∷◌, length, refl, ap, ◌∙◌, sym, subst, arith, Option, Some}
use Rattle.std.proofs.lemmas.Bool.{and_parts}
use Rattle.std.proofs.Math.Nat.{mod-eq_of_lt}
use Rattle.std.specs.List.{list_all}
use Rattle.arith_word.specs.Operation.{cast_of}
use Rattle.mlir_ir.specs.declared.types.IrType.{IrType}
use Rattle.arith_word.specs.declared.label.Label.{Label}
use Rattle.mlir_ir.specs.Operations.{SimpleOp, Const, Bin, Cast, Cmp, Select, Call}
use Rattle.mlir_ir.specs.Rules.{may_wrap, has_flags, truth, same_types}
use Rattle.mlir_ir.specs.Runs as runs
use Rattle.mlir_ir.specs.Runs.{Number, Binding, State, look, numbers_of, computed, result_bits, is_false, Iteration}
use Rattle.mlir_ir.specs.Typed.{Types, with_types, knows, fits, alike, simple_uses, simple_fits, simple_counts}
use Rattle.mlir_ir.specs.Words.{bits_of}
use Rattle.scf_eval.specs.Machine.{Slots, number_at, read, worked, width_of, yields, step_simple}
use Rattle.scf_eval.proofs.Scopes.{Placed, Agrees, Right, eq_at, fits_is, use_known, use_fits, uses_seen}
use Rattle.scf_eval.proofs.Ends.{Matches, yields_match, called_match}

module _ (slot : Slots) (T : Types) (values : List Number) (pos : ℕ) (env : List Binding) (a : Agrees slot T values pos env) where
  -- an operand of that type, taken at its width
  taken : (l : Label) (ty : IrType) (w : ℕ) → w ≡ bits_of ty → Right slot values pos env l.0 ty → (read slot values l).v % 2 ^ w ≡ (look env l.0).v
  taken l ty w e r = ap (λ (n : Number). n.v % 2 ^ w) (sym r.same) ∙ mod-eq_of_lt (rw e r.is.below)

  -- the second of two operands of one type
  second : (x y : Label) → knows T x ≡ true → knows T y ≡ true → alike T x y ≡ true → (ty : IrType) × Right slot values pos env x.0 ty × Right slot values pos env y.0 ty
  second x y kx ky e =
      let u = use_known slot T values pos env a x kx in
      (u.0, u.2, use_fits slot T values pos env a y u.0 ky (rw u.1 at e))

  pub worked_is : (ty : IrType) (does : SimpleOp) → list_all (knows T) (simple_uses does) ≡ true → simple_fits T (ty ∷ []) does ≡ true → worked (read slot values) (bits_of ty) does ≡ computed env (bits_of ty) does
  worked_is ty (Const v) k f = refl
  worked_is ty (Bin op flags x y) k f =
      let kx = and_parts (knows T x) (knows T y && true) k in
      let ky = and_parts (knows T y) true kx.1 in
      let f1 = and_parts ((may_wrap op || not (has_flags flags)) && alike T x y) (fits T ty x && true) f in
      let like = (and_parts (may_wrap op || not (has_flags flags)) (alike T x y) f1.0).1 in
      let rx = use_fits slot T values pos env a x ty kx.0 (and_parts (fits T ty x) true f1.1).0 in
      let u = use_known slot T values pos env a x kx.0 in
      let is : u.0 ≡ ty = fits_is (T x.0) ty u.0 u.1 (and_parts (fits T ty x) true f1.1).0 in
      let ry = subst (λ (t : IrType). Right slot values pos env y.0 t) is (use_fits slot T values pos env a y u.0 ky.0 (rw u.1 at like)) in
      rw (taken x ty (bits_of ty) refl rx, taken y ty (bits_of ty) refl ry) refl
  worked_is ty (Cast op flags x) k f =
      let r = (use_known slot T values pos env a x (and_parts (knows T x) true k).0).2 in
      ap (λ (n : Number). Some (cast_of op n.w n.v (bits_of ty))) (sym r.same)
  worked_is ty (Cmp pred x y) k f =
      let kx = and_parts (knows T x) (knows T y && true) k in
      let ky = and_parts (knows T y) true kx.1 in
      let like = (and_parts (alike T x y) (same_types (truth ∷ []) (ty ∷ [])) f).0 in
      let s = second x y kx.0 ky.0 like in
      let same : number_at values (slot x.0) ≡ look env x.0 = sym s.1.same in
      rw (same, taken y s.0 (look env x.0).w s.1.is.wide s.2) refl
  worked_is ty (Select c x y) k f =
      let kc = and_parts (knows T c) (knows T x && (knows T y && true)) k in
      let kx = and_parts (knows T x) (knows T y && true) kc.1 in
      let ky = and_parts (knows T y) true kx.1 in
      let ec : number_at values (slot c.0) ≡ look env c.0 = sym (use_known slot T values pos env a c kc.0).2.same in
      let ex : number_at values (slot x.0) ≡ look env x.0 = sym (use_known slot T values pos env a x kx.0).2.same in
      let ey : number_at values (slot y.0) ≡ look env y.0 = sym (use_known slot T values pos env a y ky.0).2.same in
      rw (ec, ex, ey) refl
  worked_is ty (Call func passed) k f = refl

  yields_one : (at : ℕ) (results : List IrType) (around : List Iteration) (s : State) (o p : ℕ → Option ℕ) → (length results == 1) ≡ true → ((ty : IrType) → results ≡ ty ∷ [] → o (bits_of ty) ≡ p (bits_of ty))
      → Placed slot at pos (length results) → pos + length results ≤ length values
      → Matches slot (with_types T at results) pos (pos + length results) values (yields pos results values s (o (width_of results))) (runs.gives at results around env s (p (result_bits results))).end
  yields_one at [] around s o p n e placed room = absurd (cc)
  yields_one at (ty ∷ []) around s o p n e placed room = rw (e ty refl) (yields_match slot T values pos at ty around env s (p (bits_of ty)) a placed room)
  yields_one at (ty ∷ ty2 ∷ tys) around s o p n e placed room = let one : suc (suc (length tys)) ≡ 1 = eq_at (suc (suc (length tys))) 1 n in absurd (omega arith)

  pub simple_match : (at : ℕ) (results : List IrType) (around : List Iteration) (s : State) (does : SimpleOp) → list_all (knows T) (simple_uses does) ≡ true → simple_fits T results does ≡ true
      → simple_counts (length results) does ≡ true → Placed slot at pos (length results) → pos + length results ≤ length values
      → Matches slot (with_types T at results) pos (pos + length results) values (step_simple slot results pos values s does) (runs.run_simple at results around env s does).end
  simple_match at results around s (Call func passed) k f n placed room =
      rw (uses_seen slot T values pos env a passed k) (called_match slot T values pos at func (numbers_of env passed) results around env s a placed room)
  simple_match at results around s (Const v) k f n placed room =
      yields_one at results around s (λ w. worked (read slot values) w (Const v)) (λ w. computed env w (Const v)) n (λ ty e. worked_is ty (Const v) k (rw e at f)) placed room
  simple_match at results around s (Bin op flags x y) k f n placed room =
      yields_one at results around s (λ w. worked (read slot values) w (Bin op flags x y)) (λ w. computed env w (Bin op flags x y)) n (λ ty e. worked_is ty (Bin op flags x y) k (rw e at f)) placed room
  simple_match at results around s (Cast op flags x) k f n placed room =
      yields_one at results around s (λ w. worked (read slot values) w (Cast op flags x)) (λ w. computed env w (Cast op flags x)) n (λ ty e. worked_is ty (Cast op flags x) k (rw e at f)) placed room
  simple_match at results around s (Cmp pred x y) k f n placed room =
      yields_one at results around s (λ w. worked (read slot values) w (Cmp pred x y)) (λ w. computed env w (Cmp pred x y)) n (λ ty e. worked_is ty (Cmp pred x y) k (rw e at f)) placed room
  simple_match at results around s (Select c x y) k f n placed room =
      yields_one at results around s (λ w. worked (read slot values) w (Select c x y)) (λ w. computed env w (Select c x y)) n (λ ty e. worked_is ty (Select c x y) k (rw e at f)) placed room
