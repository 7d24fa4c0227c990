-- What a module alone answers to the commands of a session.
use Rattle.std.specs.Prelude.{ℕ, ◌≡◌, ◌+◌, ◌^◌, ◌<◌, ◌&&◌, ◌==◌, ◌⊎◌, List, [], ◌∷◌, ◌++◌, Option, length, map, slice_get, find, is_some, MatchOption, if◌then◌else◌}
use Rattle.std.specs.Str.{bytes_eq}
use Rattle.chrec_algebra.specs.Place.{IsAt}
use Rattle.fresh_scev.specs.Expressions.{Expression, counter}
use Rattle.fresh_scev.specs.Facts.{Facts, IsFacts}
use Rattle.mlir_ir.specs.Canonical.{func_text}
use Rattle.mlir_ir.specs.Loops.{func_loops}
use Rattle.mlir_ir.specs.Runs.{run_of}
use Rattle.mlir_ir.specs.Values.{func_values}
use Rattle.mlir_ir.specs.declared.loop_labels.LoopLabels.{LoopLabels}
use Rattle.mlir_ir.specs.declared.types.Func.{Func}
use Rattle.scev_script.specs.declared.reply.RefusalName.{RefusalName}
use Rattle.scev_script.specs.declared.reply.RefusalName.TheVariants.{NoFunc, NoValue, NoLoop, NotInLoop, WrongArgs}
use Rattle.scev_script.specs.declared.reply.Reply.{Reply}
use Rattle.scev_script.specs.declared.reply.Reply.TheVariants.{Lines, Forgotten, Held, Refusal}
use Rattle.scev_script.specs.declared.script.ValueName.{ValueName}
use Rattle.scev_text.specs.Naming.{naming_of, label_named}
use Rattle.scev_text.specs.Texts.{polynomial_text, turns_text}
use Rattle.scev_tree.specs.Polynomial.{Under}
use Rattle.trip_count.specs.declared.answer.Turns.{Turns}
use Rattle.scev_queries.specs.RunTexts.{run_text}

-- the function of that name that has a body
abbrev pub func_named : List Func → List ℕ → Option Func
func_named funcs name = find (λ f. bytes_eq f.name name && is_some f.body) funcs

abbrev pub names_of : List Func → List (List ℕ)
names_of funcs = map (λ f. f.name) funcs

-- the label of the value that a command names
abbrev pub value_label : Func → ValueName → Option ℕ
value_label f value = label_named (func_values f) value.name value.nth value.result

-- a reply of one line
abbrev pub line_of : List ℕ → Reply
line_of text = Lines (text ++ 10 ∷ [])

abbrev pub expression_text : Func → Expression → List ℕ
expression_text f e = polynomial_text (naming_of f) e.w e.p

-- the expression of a value, and the trip count of a loop, by facts of the function
abbrev pub IsExpressionOf : Func → ℕ → Expression → Type 0
IsExpressionOf f label e = (F : Facts) × IsFacts f F × (e ≡ F.expr label)

abbrev pub IsTurnsOf : Func → LoopLabels → Turns → Type 0
IsTurnsOf f l t = (F : Facts) × IsFacts f F × (t ≡ F.turns l.counter.0)

-- what the module says to a command that asks for an expression: a refusal, or the reply and the expression
pub data Ask : Type 0 where
  refused : RefusalName → Ask
  granted : Reply → Expression → Ask

-- what is said of the function of that name
abbrev pub AsksFunc : List Func → List ℕ → (Func → Ask → Type 0) → Ask → Type 0
AsksFunc funcs name Says ask = MatchOption (func_named funcs name) (ask ≡ refused NoFunc) (λ f. Says f ask)

-- what is said of a value, by the label
abbrev pub AsksValue : List Func → List ℕ → ValueName → (Func → ℕ → Ask → Type 0) → Ask → Type 0
AsksValue funcs name value Says =
    AsksFunc funcs name (λ f ask. MatchOption (value_label f value) (ask ≡ refused NoValue) (λ label. Says f label ask))

-- `scev`: the expression
abbrev pub IsScev : List Func → List ℕ → ValueName → Ask → Type 0
IsScev funcs name value =
    AsksValue funcs name value (λ f label ask. (e : Expression) × IsExpressionOf f label e × (ask ≡ granted (line_of (expression_text f e)) e))

-- `hold`: the expression is held
abbrev pub IsHold : List Func → List ℕ → ValueName → Ask → Type 0
IsHold funcs name value = AsksValue funcs name value (λ f label ask. (e : Expression) × IsExpressionOf f label e × (ask ≡ granted Held e))

-- the value is defined inside the loop, and its expression has no variable greater than the loop's counter
pub record VariesIn (l : LoopLabels) (label : ℕ) (e : Expression) : Type 0 where
  pub begin : l.counter.0 < label
  pub end : label < l.behind.0
  pub under : Under e.p (counter l.counter.0 + 1)

-- r is e with n in place of the loop's counter
pub record IsAtIteration (l : LoopLabels) (n : ℕ) (r e : Expression) : Type 0 where
  pub width : r.w ≡ e.w
  pub at : IsAt (2 ^ e.w) (counter l.counter.0) n r.p e.p

-- the expression of a value of a loop at iteration n
abbrev pub IsAtLoop : Func → ℕ → ℕ → LoopLabels → Ask → Type 0
IsAtLoop f label n l ask =
    (e : Expression) × IsExpressionOf f label e
    × ((VariesIn l label e × (r : Expression) × IsAtIteration l n r e × (ask ≡ granted (line_of (expression_text f r)) r))
    ⊎ ((VariesIn l label e → ⊥) × (ask ≡ refused NotInLoop)))

-- `at`: the expression at iteration n of loop number `k`
abbrev pub IsAsOf : List Func → List ℕ → ValueName → ℕ → ℕ → Ask → Type 0
IsAsOf funcs name value k n =
    AsksValue funcs name value (λ f label ask. MatchOption (slice_get (func_loops f) k) (ask ≡ refused NoLoop) (λ l. IsAtLoop f label n l ask))

-- what is replied of the function of that name
abbrev pub RepliesOf : List Func → List ℕ → (Func → Reply → Type 0) → Reply → Type 0
RepliesOf funcs name Says reply = MatchOption (func_named funcs name) (reply ≡ Refusal NoFunc) (λ f. Says f reply)

-- what is replied of its loop number `k`
abbrev pub RepliesOfLoop : List Func → List ℕ → ℕ → (Func → LoopLabels → Reply → Type 0) → Reply → Type 0
RepliesOfLoop funcs name k Says =
    RepliesOf funcs name (λ f reply. MatchOption (slice_get (func_loops f) k) (reply ≡ Refusal NoLoop) (λ l. Says f l reply))

-- `turns`: the trip count
abbrev pub IsTurns : List Func → List ℕ → ℕ → Reply → Type 0
IsTurns funcs name k =
    RepliesOfLoop funcs name k (λ f l reply. (t : Turns) × IsTurnsOf f l t × (reply ≡ line_of (turns_text (naming_of f) t)))

-- `forget`: nothing is kept of a loop beside the facts
abbrev pub IsForgotten : List Func → List ℕ → ℕ → Reply → Type 0
IsForgotten funcs name k = RepliesOfLoop funcs name k (λ f l reply. reply ≡ Forgotten)

-- `print`: the canonical text
abbrev pub IsPrinted : List Func → List ℕ → Reply → Type 0
IsPrinted funcs name = RepliesOf funcs name (λ f reply. reply ≡ Lines (func_text (names_of funcs) f))

-- `run`: how the run ends, and its calls
abbrev pub IsRun : List Func → List ℕ → ℕ → List ℕ → List ℕ → Reply → Type 0
IsRun funcs name budget args replies =
    RepliesOf funcs name (λ f reply. reply ≡ (if length args == length f.args
    then line_of (run_text (names_of funcs) (run_of f args replies budget)) else Refusal WrongArgs))
