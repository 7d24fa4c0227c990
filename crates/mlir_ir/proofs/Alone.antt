-- The facts of a module of one function.
use Rattle.std.proofs.Common.{◌≡◌, ℕ, [], ◌∷◌, Option, Some, None, zero, suc, refl, sym, subst, All}
use Rattle.std.proofs.lemmas.List.Elements.{All-nil}
use Rattle.std.specs.Prelude.{slice_get}
use Rattle.mlir_ir.specs.declared.types.Func.{Func}
use Rattle.mlir_ir.specs.Calls.{ArePlaced, AreNamedApart, DoCallsFit, FitsCallee, func_calls}
use Rattle.mlir_ir.specs.Values.{func_values}

module _ (func : Func) where
  only : (k : ℕ) (f : Func) → slice_get (func ∷ []) k ≡ Some f → (k ≡ 0) × (func ≡ f)
  only zero f e = (refl, cc)
  only (suc k) f e = let e' : ◌≡◌ {A = Option Func} None (Some f) = e in cc

  pub placed : func.index ≡ 0 → ArePlaced (func ∷ [])
  placed h k f e = let o = only k f e in cc

  pub apart : AreNamedApart (func ∷ [])
  apart i j f g e e' same = let o = only i f e in let o' = only j g e' in cc

  pub calls_fit : func_calls func ≡ [] → DoCallsFit (func ∷ [])
  calls_fit h k f e =
      let o = only k f e in
      let none : func_calls f ≡ [] = subst (λ (x : Func). func_calls x ≡ []) o.1 h in
      subst (All (FitsCallee (func ∷ []) (func_values f))) (sym none) (All-nil (FitsCallee (func ∷ []) (func_values f)))
