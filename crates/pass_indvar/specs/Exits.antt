-- The child in which results of a loop get their values from operations behind it. The loop stays.
use Rattle.std.specs.Prelude.{ℕ, ◌≡◌, ◌≢◌, ◌+◌, ◌==◌, ◌&&◌, ◌||◌, Bool, List, [], ◌∷◌, ◌++◌, Option, Some, None, if◌then◌else◌}
use Rattle.std.specs.List.{list_any}
use Rattle.arith_word.specs.declared.label.Label.{Label}
use Rattle.item_uses.specs.Uses.{ops_uses, func_items}
use Rattle.mlir_ir.specs.Operations.{OpList, nil, next, labels_of, inner_labels, joined}
use Rattle.mlir_ir.specs.Reads.{plain_func}
use Rattle.mlir_ir.specs.Runs.{Binding, arrived, defined, left, number}
use Rattle.mlir_ir.specs.Typed.{Types}
use Rattle.mlir_ir.specs.Words.{bits_of}
use Rattle.mlir_ir.specs.declared.types.Body.{Body}
use Rattle.mlir_ir.specs.declared.types.Func.{Func}
use Rattle.mlir_ir.specs.declared.types.IrType.{IrType}
use Rattle.pass_copy.specs.Built.{moved}
use Rattle.pass_copy.specs.Fresh.{fresh_names}
use Rattle.pass_copy.specs.Renamed.{names_of}
use Rattle.pass_copy.specs.Renaming.{span, renamed}
use Rattle.pass_copy.specs.Replaced.{Operation, op_labels, StandsAt, replaced_func}
use Rattle.pass_copy.specs.Reported.{Claim, HoldsIn}
use Rattle.pass_copy.specs.Scopes.{HasScope}
use Rattle.pass_copy.specs.declared.renaming.Span.{Span}
use Rattle.pass_expand.specs.Computed.{numbers_in}
use Rattle.pass_expand.specs.Expandable.{expands}
use Rattle.pass_expand.specs.Expanded.{expansion, expansion_end}
use Rattle.scev_tree.specs.Polynomial.{Polynomial}
use Rattle.scev_tree.specs.Value.{value, numbers}

-- ---- results that get their values from expressions

abbrev pub is_among : ℕ → List Label → Bool
is_among l labels = list_any (λ (x : Label). x.0 == l) labels

abbrev pub returned : Option Body → List Label
returned None = []
returned (Some body) = body.ret

-- whether an operation, a terminator or the function's return uses the value
abbrev pub is_used : Func → ℕ → Bool
is_used f l = list_any (λ (ops : OpList). is_among l (ops_uses ops)) (func_items f) || is_among l (returned f.body)

-- a result, by its label, with its type and its expression
pub record Exit : Type 0 where
  pub result : ℕ
  pub ty : IrType
  pub expr : Polynomial

-- an expression fits where its result is used, and its symbols are in scope T where the loop begins, with the result's type
abbrev pub fits : Func → Types → ℕ → IrType → Polynomial → Bool
fits f T l ty p = is_used f l && expands T ty p

-- those of the results from label l on whose expressions fit, in order
abbrev pub exits_from : Func → Types → ℕ → List IrType → List (Option Polynomial) → List Exit
exits_from f T l (ty ∷ tys) (Some p ∷ exprs) =
    if fits f T l ty p
    then record { result = l; ty = ty; expr = p } ∷ exits_from f T (l + 1) tys exprs
    else exits_from f T (l + 1) tys exprs
exits_from f T l (ty ∷ tys) (None ∷ exprs) = exits_from f T (l + 1) tys exprs
exits_from f T l _ _ = []

-- those of the loop o that begins with label t; `exprs` has an entry for each result
abbrev pub exits : Func → Types → ℕ → Operation → List (Option Polynomial) → List Exit
exits f T t o exprs = exits_from f T (t + inner_labels o.kind) o.results exprs

-- ---- their operations

-- the operations of these expressions one behind another: the first has the label `at`, and fresh name number k
abbrev pub exit_ops : (ℕ → List ℕ) → ℕ → ℕ → List Exit → OpList
exit_ops fresh k at [] = nil
exit_ops fresh k at (e ∷ es) =
    let ops = expansion fresh e.ty k at e.expr in
    joined ops (exit_ops fresh (k + names_of ops) (at + labels_of ops) es)

-- each result's uses become the value of its last operation
abbrev pub exit_links : ℕ → List Exit → List Span
exit_links at [] = []
exit_links at (e ∷ es) = span e.result 1 (expansion_end at e.expr) ∷ exit_links (expansion_end at e.expr + 1) es

module _ (fresh : ℕ → List ℕ) (t : ℕ) (o : Operation) (es : List Exit) where
  -- the loop, and the operations behind it
  abbrev pub with_exits : OpList
  with_exits = next o.packs o.results o.kind (exit_ops fresh 0 (t + op_labels o) es)

  abbrev pub exit_spans : List Span
  exit_spans = exit_links (t + op_labels o) es ++ moved (t + op_labels o) (t + labels_of with_exits) ∷ []

-- ---- the child

-- each use of a result whose expression fits becomes the expression's value, and there is such a result
pub record HasExitValues (f : Func) (t : ℕ) (exprs : List (Option Polynomial)) (child : Func) : Type 0 where
  pub o : Operation
  pub stands : StandsAt f t o
  pub scope : Types
  pub in_scope : HasScope f t (λ T. T ≡ scope)
  pub some : exits f scope t o exprs ≢ []
  pub is : plain_func child
      ≡ replaced_func (renamed (exit_spans (fresh_names f) t o (exits f scope t o exprs))) t (with_exits (fresh_names f) t o (exits f scope t o exprs)) f

-- no expression fits
abbrev pub HasNoExitValues : Func → ℕ → List (Option Polynomial) → Type 0
HasNoExitValues f t exprs = (o : Operation) (T : Types) → StandsAt f t o → HasScope f t (λ now. now ≡ T) → exits f T t o exprs ≡ []

-- ---- what the expressions have to be

-- the value of an expression in symbols, by the numbers of the values in scope
abbrev pub value_in : List Binding → Polynomial → ℕ
value_in env p = value (numbers (numbers_in env) (λ l. 0)) p

-- where a result is defined it has the number of its expression
abbrev pub IsExit : Exit → Claim
IsExit e (arrived at env around) = Unit {0}
IsExit e (defined l n env around) = l ≡ e.result → n ≡ number (bits_of e.ty) (value_in env e.expr)
IsExit e (left loop turns env around) = Unit {0}

abbrev pub AreExits : List Exit → Claim
AreExits [] report = Unit {0}
AreExits (e ∷ es) report = IsExit e report × AreExits es report

-- in every run the results whose expressions fit have the numbers of these
abbrev pub DoExitsHold : Func → ℕ → List (Option Polynomial) → Type 0
DoExitsHold f t exprs = (o : Operation) (T : Types) → StandsAt f t o → HasScope f t (λ now. now ≡ T) → HoldsIn (AreExits (exits f T t o exprs)) f
