-- The numbers of a product in a loop are those of the progression that facts give it.
use Rattle.std.proofs.Common.{◌≡◌, ℕ, ◌+◌, ◌*◌, ◌/◌, ◌%◌, ◌==◌, ◌&&◌, inl, inr, ◌⊎◌, Bool, true, false, List, [], ◌∷◌, drop, length, refl, ap, ◌∙◌, sym, subst, arith, Option, Some, None, if◌then◌else◌}
use Rattle.std.proofs.lemmas.Bool.{and_parts, eqb-true, eq-eqb}
use Rattle.std.specs.Option.{option_or}
use Rattle.arith_word.specs.declared.label.Label.{Label}
use Rattle.mlir_ir.proofs.LabelsFit.{labels_fit}
use Rattle.mlir_ir.specs.Check.{IsWellFormed}
use Rattle.mlir_ir.specs.Operations.{OpKind, Simple, If, For, While, OpList, nil, next, inner_labels}
use Rattle.mlir_ir.specs.Runs.{Binding, Iteration, Report, arrived, defined, left}
use Rattle.mlir_ir.specs.Typed.{Types}
use Rattle.mlir_ir.specs.Words.{bits_of}
use Rattle.mlir_ir.specs.declared.types.Func.{Func}
use Rattle.mlir_ir.specs.declared.types.IrType.{IrType}
use Rattle.scev_tree.proofs.Agreeing.{worth_zero, worth_one}
use Rattle.scev_tree.specs.Polynomial.{Polynomial, num, ext, none, more, variable_of}
use Rattle.scev_tree.specs.Value.{value}
use Rattle.fresh_scev.specs.Bits.{HaveBits}
use Rattle.fresh_scev.specs.Facts.{Facts, IsOps, IsFacts, round_limit}
use Rattle.fresh_scev.specs.Insides.{for_loop, IsForInside}
use Rattle.fresh_scev.specs.Widths.{AreWide}
use Rattle.scev_soundness.proofs.Rounds.{last_inside}
use Rattle.scev_soundness.specs.Holding.{HasValue, Holds, point}
use Rattle.pass_copy.proofs.AloneLoops.{alone_at_label}
use Rattle.pass_copy.specs.Replaced.{StandsAt}
use Rattle.pass_expand.proofs.ScopedSymbols.{expands_plain}
use Rattle.pass_expand.specs.Expandable.{IsInSymbols, expands}
use Rattle.pass_indvar.specs.Exits.{value_in}
use Rattle.pass_indvar.specs.Reductions.{Progression, progression, is_product, first_of, first_progression, IsProgression, DoesProgressionHold}
use Rattle.pass_unroll.specs.Copies.{ForLoop, operation_of}
use Rattle.pass_chain.proofs.FactPlans.{same_loop}
use Rattle.pass_chain.proofs.GivenExits.{results_are_wide, value_in_symbols, number_at, claim_in_runs}
use Rattle.pass_chain.proofs.LoopFacts.{has_clause}
use Rattle.pass_chain.specs.Given.{given_products}

-- ---- the expression of a progression

-- {start,+,step} over the counter of the loop with label t
abbrev even_chain : ℕ → Polynomial → Polynomial → Polynomial
even_chain t start step = ext (variable_of true t) (more start (more step none))

record IsEven (t l : ℕ) (ty : IrType) (p : Polynomial) (g : Progression) : Type 0 where
  product : g.product ≡ l
  ty_is : g.ty ≡ ty
  is : p ≡ even_chain t g.start g.step
  start : IsInSymbols g.start
  step : IsInSymbols g.step

module _ (T : Types) (t l : ℕ) (ty : IrType) where
  abbrev with_parts : Polynomial → Polynomial → Progression
  with_parts a b = record { product = l; ty = ty; start = a; step = b }

  tested : (c : Bool) (a b : Polynomial) (g : Progression) → (if c then Some (with_parts a b) else None) ≡ Some g
      → (c ≡ true) × (g ≡ with_parts a b)
  tested true a b g e = (refl, sym (inj e))
    where
      inj : Some (with_parts a b) ≡ Some g → with_parts a b ≡ g
      inj h = cc
  tested false a b g e = absurd cc

  even_parts : (x : ℕ) (a b : Polynomial) (g : Progression) → progression T t l ty (ext x (more a (more b none))) ≡ Some g
      → IsEven t l ty (ext x (more a (more b none))) g
  even_parts x a b g e =
      let c = tested ((x == variable_of true t) && expands T ty a && expands T ty b) a b g e in
      let h = and_parts ((x == variable_of true t) && expands T ty a) (expands T ty b) c.0 in
      let k = and_parts (x == variable_of true t) (expands T ty a) h.0 in
      subst (λ (q : Progression). IsEven t l ty (ext x (more a (more b none))) q) (sym c.1) (record {
        product = refl;
        ty_is = refl;
        is = ap (λ y. ext y (more a (more b none))) (eqb-true x (variable_of true t) k.0);
        start = expands_plain T ty a k.1;
        step = expands_plain T ty b h.1;
      })

  even_of : (p : Polynomial) (g : Progression) → progression T t l ty p ≡ Some g → IsEven t l ty p g
  even_of (num v) g e = absurd cc
  even_of (ext x none) g e = absurd cc
  even_of (ext x (more a none)) g e = absurd cc
  even_of (ext x (more a (more b none))) g e = even_parts x a b g e
  even_of (ext x (more a (more b (more c ps)))) g e = absurd cc

-- ---- the first product that is one

-- facts give the product's label the progression, with the width of its type
record IsGiven (F : Facts) (t : ℕ) (g : Progression) : Type 0 where
  wide : (F.expr g.product).w ≡ bits_of g.ty
  is : (F.expr g.product).p ≡ even_chain t g.start g.step
  start : IsInSymbols g.start
  step : IsInSymbols g.step

product_alone : (kind : OpKind) → is_product kind ≡ true → inner_labels kind ≡ 0
product_alone (Simple does) e = refl
product_alone (If c first firsts has_else other others) e = absurd cc
product_alone (For lower upper step iv args inits body ends) e = absurd cc
product_alone (While args inits before passed cond after_args after ends) e = absurd cc

one_of_both : (first behind : Option Progression) (g : Progression) → option_or first behind ≡ Some g
    → (first ≡ Some g) ⊎ (behind ≡ Some g)
one_of_both None behind g e = inr e
one_of_both (Some q) behind g e = inl e

module _ (T : Types) (F : Facts) (t : ℕ) (g : Progression) where
  given_here : (l : ℕ) (ty : IrType) → (F.expr l).w ≡ bits_of ty → IsEven t l ty (F.expr l).p g → IsGiven F t g
  given_here l ty wide even = record {
    wide = ap (λ (x : ℕ). (F.expr x).w) even.product ∙ (wide ∙ ap bits_of (sym even.ty_is));
    is = ap (λ (x : ℕ). (F.expr x).p) even.product ∙ even.is;
    start = even.start;
    step = even.step;
  }

  first_given : (at : ℕ) (results : List IrType) (exprs : List (Option Polynomial)) (behind : Option Progression)
      → AreWide F at results → first_of T t at results (Some (F.expr at).p ∷ exprs) behind ≡ Some g
      → (behind ≡ Some g → IsGiven F t g) → IsGiven F t g
  first_given at [] exprs behind wide e other = other e
  first_given at (ty ∷ tys) exprs behind wide e other = elim (one_of_both (progression T t at ty (F.expr at).p) behind g e) [
    | inl h ↦ given_here at ty wide.0.0 (even_of T t at ty (F.expr at).p g h)
    | inr h ↦ other h
  ]

  -- the entry of a product is the first, and another operation has none
  in_both : (c : Bool) (at mid : ℕ) (results : List IrType) (rest : OpList) (exprs : List (Option Polynomial))
      → (let given = if c then Some (F.expr at).p ∷ exprs else exprs in
      (if c then first_of T t at results given (first_progression T t mid rest (drop 1 given))
      else first_progression T t mid rest given)) ≡ Some g
      → (c ≡ true → AreWide F at results) → (first_progression T t mid rest exprs ≡ Some g → IsGiven F t g) → IsGiven F t g
  in_both true at mid results rest exprs e wide other =
      first_given at results exprs (first_progression T t mid rest exprs) (wide refl) e other
  in_both false at mid results rest exprs e wide other = other e

  product_given : (conditions : List Label) (at : ℕ) (ops : OpList) → IsOps conditions ops at F
      → first_progression T t at ops (given_products F at ops) ≡ Some g → IsGiven F t g
  product_given conditions at nil is e = absurd cc
  product_given conditions at (next packs results kind rest) is e =
      let mid = at + (inner_labels kind + length results) in
      in_both (is_product kind) at mid results rest (given_products F mid rest) e
      (λ c. (let l : at + inner_labels kind ≡ at = (let z = product_alone kind c in omega (arith, z)) in
      subst (λ x. AreWide F x results) l (results_are_wide F conditions kind results at is.0)))
      (λ h. product_given conditions mid rest is.1 h)

-- ---- its numbers

chain_value : (s : ℕ → ℕ) (t : ℕ) (a b : Polynomial) → value s (even_chain t a b) ≡ value s a + value s b * s (variable_of true t)
unfolding value
chain_value s t a b =
    let z = worth_zero s (variable_of true t) in
    let o = worth_one s (variable_of true t) in
    rw (z, o) (omega arith)

turn_at : (env : List Binding) (outer : List Iteration) (t k : ℕ)
    → point env (record { loop = t; turn = k } ∷ outer) (variable_of true t) ≡ k
turn_at env outer t k =
    let e : (2 * t) % 2 ≡ 0 = omega arith in
    let h : (2 * t) / 2 ≡ t = omega arith in
    rw (e, h, eq-eqb t t refl) refl

module _ (F : Facts) (t : ℕ) (g : Progression) (given : IsGiven F t g) where
  turn_value : (env : List Binding) (outer : List Iteration) (k : ℕ)
      → value (point env (record { loop = t; turn = k } ∷ outer)) (F.expr g.product).p
      ≡ value_in env g.start + value_in env g.step * k
  turn_value env outer k =
      let around : List Iteration = record { loop = t; turn = k } ∷ outer in
      let c = chain_value (point env around) t g.start g.step in
      let a = value_in_symbols env around g.start given.start in
      let b = value_in_symbols env around g.step given.step in
      let n = turn_at env outer t k in
      ap (value (point env around)) given.is ∙ rw (a, b, n) at c

  product_holds : (report : Report) → Holds F report → IsProgression t g report
  product_holds (arrived at env around) h = tt
  product_holds (left loop turns env around) h = tt
  product_holds (defined l n env around) h = λ e k outer i. (
      let v : HasValue env around (F.expr g.product) n = subst (λ (x : ℕ). HasValue env around (F.expr x) n) e h in
      number_at (bits_of g.ty) (value_in env g.start + value_in env g.step * k) (F.expr g.product) n env
      (record { loop = t; turn = k } ∷ outer) given.wide (turn_value env outer k)
      (subst (λ (x : List Iteration). HasValue env x (F.expr g.product) n) i v))

-- products have the numbers of the progressions that facts give them
pub given_progressions : (f : Func) (F : Facts) (t : ℕ) (o : ForLoop) → IsWellFormed f → HaveBits f → IsFacts f F
    → StandsAt f t (operation_of o) → DoesProgressionHold f t (given_products F (t + 2 + length o.args) o.body)
given_progressions f F t o well bits is stands q T g there scope first =
    let same : q ≡ o = same_loop q o
    (alone_at_label f (labels_fit f well) t (operation_of q) (operation_of o) there stands) in
    let clause = has_clause t (operation_of o) F f is stands in
    let inside = last_inside (for_loop t o.args o.inits o.ends)
    (IsForInside clause.0 t o.lower o.step o.iv (t + 2 + length o.args) o.body) round_limit F clause.1.0 in
    let exprs = given_products F (t + 2 + length o.args) o.body in
    let here = subst (λ (r : ForLoop). first_progression T t (t + 2 + length r.args) r.body exprs ≡ Some g) same first in
    let given = product_given T F t g clause.0 (t + 2 + length o.args) o.body inside.2 here in
    claim_in_runs f F (IsProgression t g) well bits is (product_holds F t g given)
