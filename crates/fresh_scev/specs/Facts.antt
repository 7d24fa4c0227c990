-- The facts of a function: the expression of each value and the trip count of each loop, one clause for each kind of operation.
use Rattle.std.specs.Prelude.{◌≡◌, ℕ, zero, suc, ◌+◌, ◌<◌, ◌⊎◌, List, [], ◌∷◌, ◌++◌, length, Option, Some, None}
use Rattle.arith_word.specs.Labels.{label_at}
use Rattle.arith_word.specs.declared.label.Label.{Label}
use Rattle.arith_word.specs.declared.op.Pred.{Pred}
use Rattle.arith_word.specs.declared.op.Pred.TheVariants.{Slt}
use Rattle.mlir_ir.specs.declared.types.Body.{Body}
use Rattle.mlir_ir.specs.declared.types.Func.{Func}
use Rattle.mlir_ir.specs.declared.types.IrType.{IrType}
use Rattle.mlir_ir.specs.Operations.{SimpleOp, Const, Bin, Cast, Cmp, Select, Call, OpKind, Simple, If, For, While, OpList, nil, next, labels_of, inner_labels}
use Rattle.mlir_ir.specs.Rules.{arg_types}
use Rattle.mlir_ir.specs.View.{view_items}
use Rattle.mlir_ir.specs.Words.{bits_of}
use Rattle.trip_count.specs.declared.answer.Turns.{Turns}
use Rattle.trip_count.specs.declared.answer.Turns.TheVariants.{Unknown}
use Rattle.trip_count.specs.declared.answer.Why.TheVariants.{NotACompare}
use Rattle.fresh_scev.specs.Expressions.{Expression, number, own, number_in}
use Rattle.fresh_scev.specs.Rules.{have_width, fitting, IsBin, IsCast, IsComparison, IsSelected, IsMerged}
use Rattle.fresh_scev.specs.Loops.{IsVariable, IsNext, AreComparedTurns, constant_turns, IsGuard, IsResult}

-- a comparison of two values, by their labels
pub record Comparison : Type 0 where
  pub pred : Pred
  pub left : ℕ
  pub right : ℕ

-- what a label names: nothing, the counter of a loop, a value that is no comparison's result, or the result of a comparison
pub data Role : Type 0 where
  unnamed : Role
  counts : Role
  untested : Role
  tested : (test : Comparison) → Role

-- by label: the expression of a value, what the label names, and the trip count of a loop
pub record Facts : Type 0 where
  pub expr : ℕ → Expression
  pub role : ℕ → Role
  pub turns : ℕ → Turns

-- a value that is no comparison's result
abbrev pub IsPlain : Facts → ℕ → Expression → Type 0
IsPlain F label e = (F.expr label ≡ e) × (F.role label ≡ untested)

-- values from a label on that are their own symbols
abbrev pub AreOwn : Facts → ℕ → List IrType → Type 0
AreOwn F label [] = Unit {0}
AreOwn F label (ty ∷ tys) = IsPlain F label (own (bits_of ty) label) × AreOwn F (label + 1) tys

-- operations without regions

abbrev pub IsRuled : Facts → ℕ → ℕ → SimpleOp → Expression → Type 0
IsRuled F w label (Const v) e = e ≡ number w v
IsRuled F w label (Bin op flags a b) e =
    fitting (have_width w (F.expr a.0) (F.expr b.0)) w label e (IsBin op w label (F.expr a.0) (F.expr b.0) e)
IsRuled F w label (Cast op flags a) e = IsCast op w label (F.expr a.0) e
IsRuled F w label (Cmp pred a b) e =
    fitting (have_width (F.expr a.0).w (F.expr a.0) (F.expr b.0)) w label e (IsComparison pred w label (F.expr a.0) (F.expr b.0) e)
IsRuled F w label (Select c a b) e =
    fitting (have_width w (F.expr a.0) (F.expr b.0)) w label e (IsSelected w label (F.expr c.0) (F.expr a.0) (F.expr b.0) e)
IsRuled F w label (Call func passed) e = e ≡ own w label

abbrev pub role_of : SimpleOp → Role
role_of (Cmp pred a b) = tested (record { pred = pred; left = a.0; right = b.0 })
role_of _ = untested

-- the results of an operation, from a label on
abbrev pub AreRuled : Facts → ℕ → List IrType → SimpleOp → Type 0
AreRuled F label [] does = Unit {0}
AreRuled F label (ty ∷ tys) does =
    IsRuled F (bits_of ty) label does (F.expr label) × (F.role label ≡ role_of does) × AreRuled F (label + 1) tys does

-- the results of an `scf.if` that begins with label `start`, by what its regions yield
abbrev pub AreMerged : Facts → ℕ → ℕ → List IrType → List Label → List Label → Type 0
AreMerged F start label [] firsts others = Unit {0}
AreMerged F start label (ty ∷ tys) (y ∷ firsts) (z ∷ others) =
    fitting (have_width (bits_of ty) (F.expr y.0) (F.expr z.0)) (bits_of ty) label (F.expr label)
    (IsMerged start (bits_of ty) label (F.expr y.0) (F.expr z.0) (F.expr label))
    × (F.role label ≡ untested)
    × AreMerged F start (label + 1) tys firsts others
AreMerged F start label tys firsts others = AreOwn F label tys

-- loops

-- a condition is the guard of a trip count
abbrev pub IsGuardOf : Facts → Turns → Role → Type 0
IsGuardOf F t (tested test) = IsGuard t test.pred (F.expr test.left) (F.expr test.right)
IsGuardOf F t _ = ⊥

-- one of these conditions is the guard of a trip count
abbrev pub IsProved : Facts → List Label → Turns → Type 0
IsProved F [] t = ⊥
IsProved F (c ∷ conditions) t = IsGuardOf F t (F.role c.0) ⊎ IsProved F conditions t

-- a loop by its counter, with the label of its first argument, the types of its arguments, their initial values and those yielded
pub record Loop : Type 0 where
  pub at : ℕ
  pub first : ℕ
  pub types : List IrType
  pub inits : List Label
  pub ends : List Label

abbrev pub AreNext : ℕ → Facts → Facts → ℕ → List IrType → List Label → List Label → Type 0
AreNext loop old new label [] inits ends = Unit {0}
AreNext loop old new label (ty ∷ tys) (i ∷ inits) (y ∷ ends) =
    IsNext loop (bits_of ty) label (old.expr label) (old.expr i.0) (old.expr y.0) (new.expr label)
    × (new.role label ≡ untested)
    × AreNext loop old new (label + 1) tys inits ends
AreNext loop old new label tys inits ends = AreOwn new label tys

-- the same of the values with labels below
pub record AreAlike (F G : Facts) (label : ℕ) : Type 0 where
  pub exprs : (l : ℕ) → l < label → F.expr l ≡ G.expr l
  pub roles : (l : ℕ) → l < label → F.role l ≡ G.role l

-- F are the facts of a loop's inside after n rounds; Inside says that facts are those of the inside under the arguments that they have
abbrev pub Rounds : Loop → (Facts → Type 0) → ℕ → Facts → Type 0
Rounds loop Inside zero F = AreOwn F loop.first loop.types × Inside F
Rounds loop Inside (suc n) F =
    (old : Facts) × Rounds loop Inside n old × AreAlike old F loop.at × AreNext loop.at old F loop.first loop.types loop.inits loop.ends × Inside F

abbrev pub round_limit : ℕ
round_limit = 4

-- the parameters of an after region are the passed values
abbrev pub ArePassed : Facts → ℕ → List IrType → List Label → Type 0
ArePassed F label [] passed = Unit {0}
ArePassed F label (ty ∷ tys) (y ∷ passed) = IsPlain F label (F.expr y.0) × ArePassed F (label + 1) tys passed
ArePassed F label tys [] = AreOwn F label tys

-- the trip count of an `scf.while`: of a condition that is a number, or the result of a comparison
abbrev pub IsTested : Facts → ℕ → Option ℕ → Role → Turns → Type 0
IsTested F loop (Some v) role t = t ≡ constant_turns v
IsTested F loop None (tested test) t = AreComparedTurns loop test.pred (F.expr test.left) (F.expr test.right) t
IsTested F loop None _ t = t ≡ Unknown NotACompare

-- the results of a loop from a label on, of which the values from label `from` on are the last arguments
abbrev pub AreCarried : Facts → List Label → ℕ → ℕ → ℕ → List IrType → Type 0
AreCarried F conditions loop from label [] = Unit {0}
AreCarried F conditions loop from label (ty ∷ tys) =
    IsResult (IsProved F conditions (F.turns loop)) (bits_of ty) loop label (F.turns loop) (F.expr from) (F.expr label)
    × (F.role label ≡ untested)
    × AreCarried F conditions loop (from + 1) (label + 1) tys

-- the same, of which these values are passed
abbrev pub ArePassedOn : Facts → List Label → ℕ → List Label → ℕ → List IrType → Type 0
ArePassedOn F conditions loop passed label [] = Unit {0}
ArePassedOn F conditions loop (y ∷ passed) label (ty ∷ tys) =
    IsResult (IsProved F conditions (F.turns loop)) (bits_of ty) loop label (F.turns loop) (F.expr y.0) (F.expr label)
    × (F.role label ≡ untested)
    × ArePassedOn F conditions loop passed (label + 1) tys
ArePassedOn F conditions loop [] label tys = AreOwn F label tys

-- operations

abbrev mutual
  -- operations from a label on, in the `then` regions of these conditions
  pub IsOps : List Label → OpList → ℕ → Facts → Type 0
  IsOps conditions nil at F = Unit {0}
  IsOps conditions (next packs results kind rest) at F =
      IsKind conditions kind results at F × IsOps conditions rest (at + (inner_labels kind + length results)) F

  pub IsKind : List Label → OpKind → List IrType → ℕ → Facts → Type 0
  IsKind conditions (Simple does) results at F = AreRuled F at results does
  IsKind conditions (If c first firsts has_else other others) results at F =
      IsOps (conditions ++ c ∷ []) first at F
      × IsOps conditions other (at + labels_of first) F
      × AreMerged F at (at + labels_of first + labels_of other) results firsts others
  IsKind conditions (For lower upper step iv args inits body ends) results at F =
      let in_body = at + 2 + length args in
      let loop : Loop = record { at = at; first = at + 2; types = arg_types args; inits = inits; ends = ends } in
      Rounds loop
      (λ G. IsVariable at (bits_of iv.ty) (at + 1) (G.expr lower.0) (G.expr step.0) (G.expr (at + 1))
      × (G.role (at + 1) ≡ untested)
      × IsOps conditions body in_body G)
      round_limit F
      × AreComparedTurns at Slt (F.expr (at + 1)) (F.expr upper.0) (F.turns at)
      × AreCarried F conditions at (at + 2) (in_body + labels_of body) results
      × (F.role at ≡ counts)
  IsKind conditions (While args inits before passed cond after_args after ends) results at F =
      let in_before = at + 1 + length args in
      let params = in_before + labels_of before in
      let in_after = params + length after_args in
      let loop : Loop = record { at = at; first = at + 1; types = arg_types args; inits = inits; ends = ends } in
      Rounds loop
      (λ G. IsOps conditions before in_before G
      × ArePassed G params (arg_types after_args) passed
      × IsOps conditions after in_after G)
      round_limit F
      × IsTested F at (number_in (F.expr cond.0).p) (F.role cond.0) (F.turns at)
      × ArePassedOn F conditions at passed (in_after + labels_of after) results
      × (F.role at ≡ counts)

-- the items of a function from number k on
abbrev pub IsItems : ℕ → ℕ → List OpList → Facts → Type 0
IsItems func k [] F = Unit {0}
IsItems func k (ops ∷ items) F = IsOps [] ops (label_at func k 0) F × IsItems func (k + 1) items F

abbrev pub items_in : Option Body → List OpList
items_in None = []
items_in (Some body) = view_items body.items

-- the facts of a function, whose arguments are their symbols
pub record IsFacts (f : Func) (F : Facts) : Type 0 where
  pub arguments : AreOwn F (label_at f.index 0 0) (arg_types f.args)
  pub items : IsItems f.index 1 (items_in f.body) F
