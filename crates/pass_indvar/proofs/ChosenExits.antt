-- The results whose expressions fit: they rise, and their expressions expand in the scope of the loop, with the results' types.
use Rattle.std.proofs.Common.{◌≡◌, ℕ, ◌+◌, ◌<◌, ◌≤◌, Bool, true, false, List, [], ◌∷◌, length, Option, Some, None, if◌then◌else◌, refl, ◌∙◌, sym, arith}
use Rattle.std.proofs.lemmas.Bool.{and_parts, eq-eqb, ne_eqb}
use Rattle.mlir_ir.specs.Typed.{Types, typed_from}
use Rattle.mlir_ir.specs.declared.types.Func.{Func}
use Rattle.mlir_ir.specs.declared.types.IrType.{IrType}
use Rattle.pass_expand.specs.Expandable.{expands}
use Rattle.pass_indvar.specs.Exits.{Exit, fits, is_used, exits_from}
use Rattle.scev_tree.specs.Polynomial.{Polynomial}

-- an exit from label l on and before `end`, whose result has its type in U
pub record IsChosen (T U : Types) (l end : ℕ) (e : Exit) : Type 0 where
  pub low : l ≤ e.result
  pub high : e.result < end
  pub typed : U e.result ≡ Some e.ty
  pub expanded : expands T e.ty e.expr ≡ true

abbrev pub AreChosen : Types → Types → ℕ → ℕ → List Exit → Type 0
AreChosen T U l end [] = Unit {0}
AreChosen T U l end (e ∷ es) = IsChosen T U l end e × AreChosen T U (e.result + 1) end es

first : (l : ℕ) (ty : IrType) (tys : List IrType) → typed_from l (ty ∷ tys) l ≡ Some ty
first l ty tys = rw (eq-eqb l l refl) refl

later : (l : ℕ) (ty : IrType) (tys : List IrType) (k : ℕ) → l + 1 ≤ k → typed_from (l + 1) tys k ≡ typed_from l (ty ∷ tys) k
later l ty tys k le = rw (ne_eqb l k (λ q. omega arith)) refl

module _ (T U : Types) (end : ℕ) where
  pub chosen_sooner : (k l : ℕ) (es : List Exit) → k ≤ l → AreChosen T U l end es → AreChosen T U k end es
  chosen_sooner k l [] le h = tt
  chosen_sooner k l (e ∷ es) le h = let low = h.0.low in (record { low = omega arith; high = h.0.high; typed = h.0.typed; expanded = h.0.expanded }, h.1)

  chosen_if : (f : Func) (l : ℕ) (ty : IrType) (p : Polynomial) (es : List Exit) → l < end → U l ≡ Some ty → AreChosen T U (l + 1) end es → (c : Bool) → fits f T l ty p ≡ c
      → AreChosen T U l end (if c then record { result = l; ty = ty; expr = p } ∷ es else es)
  chosen_if f l ty p es lt typed h true is =
      let both = and_parts (is_used f l) (expands T ty p) is in (record { low = omega arith; high = lt; typed = typed; expanded = both.1 }, h)
  chosen_if f l ty p es lt typed h false is = chosen_sooner l (l + 1) es (omega arith) h

  pub chosen_exits : (f : Func) (l : ℕ) (tys : List IrType) (exprs : List (Option Polynomial)) → l + length tys ≡ end → ((k : ℕ) → l ≤ k → typed_from l tys k ≡ U k)
      → AreChosen T U l end (exits_from f T l tys exprs)
  chosen_exits f l [] exprs e same = tt
  chosen_exits f l (ty ∷ tys) [] e same = tt
  chosen_exits f l (ty ∷ tys) (None ∷ exprs) e same =
      chosen_sooner l (l + 1) _ (omega arith) (chosen_exits f (l + 1) tys exprs (omega arith) (λ k le. later l ty tys k le ∙ same k (omega arith)))
  chosen_exits f l (ty ∷ tys) (Some p ∷ exprs) e same =
      chosen_if f l ty p (exits_from f T (l + 1) tys exprs) (omega arith) (sym (same l (omega arith)) ∙ first l ty tys)
      (chosen_exits f (l + 1) tys exprs (omega arith) (λ k le. later l ty tys k le ∙ same k (omega arith))) (fits f T l ty p) refl
