-- The rounds over a loop: what holds of the facts of every round, and the arguments of the loop's iterations by all
-- of them.
use Rattle.std.proofs.Common.{ℕ, zero, suc, ◌+◌, ◌<◌, ◌≤◌, List, [], ◌∷◌, refl, ◌∙◌, sym, subst, arith}
use Rattle.arith_word.specs.declared.label.Label.{Label}
use Rattle.mlir_ir.specs.Runs.{Number, Binding, Iteration, End, Done, Stopped, look, numbers_of}
use Rattle.mlir_ir.specs.Typed.{Types}
use Rattle.mlir_ir.specs.Words.{bits_of}
use Rattle.mlir_ir.specs.declared.types.IrType.{IrType}
use Rattle.fresh_scev.specs.Expressions.{counter}
use Rattle.fresh_scev.specs.Facts.{Facts, AreOwn, Loop, AreNext, AreAlike, Rounds}
use Rattle.fresh_scev.specs.Loops.{IsNext, stays, solved as grown}
use Rattle.fresh_scev.proofs.Before.{under_later}
use Rattle.scev_soundness.specs.Holding.{HasValue}
use Rattle.scev_soundness.specs.Agreement.{IsGood, Agrees, Keeps, Ends}
use Rattle.scev_soundness.specs.Arguments.{turn_of, AreArguments}
use Rattle.scev_soundness.proofs.Scopes.{held_same}
use Rattle.scev_soundness.proofs.Ready.{own_good, cut_good}
use Rattle.scev_soundness.proofs.Arguments.{HaveBits, AreSized, AreGood, AreUntested, Reads, own_first, next_first, own_step, next_step}

-- ---- facts that are alike below a label

pub alike_refl : (F : Facts) (at : ℕ) → AreAlike F F at
alike_refl F at = record { exprs = λ l lt. refl; roles = λ l lt. refl }

pub alike_both : (F G H : Facts) (at : ℕ) → AreAlike F G at → AreAlike G H at → AreAlike F H at
alike_both F G H at a b = record
    { exprs = λ l lt. a.exprs l lt ∙ b.exprs l lt; roles = λ l lt. a.roles l lt ∙ b.roles l lt }

-- facts that are alike below the label where a scope ends agree with the same scopes
pub agrees_outer : (T : Types) (G F : Facts) (conditions : List Label) (at : ℕ) (env : List Binding)
    (around : List Iteration) → AreAlike G F at
    → Agrees T F conditions at env around → Agrees T G conditions at env around
agrees_outer T G F conditions at env around alike ag = record {
  wide = ag.wide;
  good = λ l u e. subst (IsGood (bits_of u) l) (sym (alike.exprs l (ag.below l u e))) (ag.good l u e);
  below = ag.below;
  number = λ l u e. subst (λ x. HasValue env around x (look env l)) (sym (alike.exprs l (ag.below l u e)))
      (ag.number l u e);
  bound = λ l b. (let h = ag.bound l b in held_same F G at env around l (sym (alike.exprs l h.below)) h);
  tests = λ l u c e t. ag.tests l u c e (sym (alike.roles l (ag.below l u e)) ∙ t);
  guards = ag.guards;
}

-- ---- the arguments' expressions and roles

own_are_good : (F : Facts) (tys : List IrType) (label : ℕ) → AreSized label tys → AreOwn F label tys
    → AreGood F label tys
own_are_good F [] label some h = tt
own_are_good F (ty ∷ tys) label some h =
    (own_good (bits_of ty) label (F.expr label) some.0 h.0.0, own_are_good F tys (label + 1) some.1 h.1)

next_is_good : (at : ℕ) (old F : Facts) (label : ℕ) (ty : IrType) (i y : Label) → 1 ≤ bits_of ty → at < label
    → IsNext at (bits_of ty) label (old.expr label) (old.expr i.0) (old.expr y.0) (F.expr label)
    → IsGood (bits_of ty) label (old.expr label)
    → IsGood (bits_of ty) label (F.expr label)
next_is_good at old F label ty i y some lt (stays none same) g = subst (IsGood (bits_of ty) label) (sym same) g
next_is_good at old F label ty i y some lt (grown p grows c) g =
    cut_good (bits_of ty) label c.0 (F.expr label) some c.2 c.1.canon
    (under_later c.0 _ (counter (label + 1)) c.1.under (omega arith))

next_are_good : (at : ℕ) (old F : Facts) (tys : List IrType) (inits ends : List Label) (label : ℕ)
    → AreSized label tys → at < label
    → AreNext at old F label tys inits ends → AreGood old label tys → AreGood F label tys
next_are_good at old F [] inits ends label some lt h g = tt
next_are_good at old F (ty ∷ tys) [] ends label some lt h g = own_are_good F (ty ∷ tys) label some h
next_are_good at old F (ty ∷ tys) (i ∷ inits) [] label some lt h g = own_are_good F (ty ∷ tys) label some h
next_are_good at old F (ty ∷ tys) (i ∷ inits) (y ∷ ends) label some lt h g = (
  next_is_good at old F label ty i y some.0 lt h.0 g.0,
  next_are_good at old F tys inits ends (label + 1) some.1 (omega arith) h.2 g.1,
)

own_are_untested : (F : Facts) (tys : List IrType) (label : ℕ) → AreOwn F label tys → AreUntested F label tys
own_are_untested F [] label h = tt
own_are_untested F (ty ∷ tys) label h = (h.0.1, own_are_untested F tys (label + 1) h.1)

next_are_untested : (at : ℕ) (old F : Facts) (tys : List IrType) (inits ends : List Label) (label : ℕ)
    → AreNext at old F label tys inits ends
    → AreUntested F label tys
next_are_untested at old F [] inits ends label h = tt
next_are_untested at old F (ty ∷ tys) [] ends label h = own_are_untested F (ty ∷ tys) label h
next_are_untested at old F (ty ∷ tys) (i ∷ inits) [] label h = own_are_untested F (ty ∷ tys) label h
next_are_untested at old F (ty ∷ tys) (i ∷ inits) (y ∷ ends) label h =
    (h.1, next_are_untested at old F tys inits ends (label + 1) h.2)

-- ---- the facts of every round

module _ (loop : Loop) (Inside : Facts → Type 0) where
  -- P holds of the facts of each round
  abbrev pub All : (Facts → Type 0) → (n : ℕ) → (F : Facts) → Rounds loop Inside n F → Type 0
  All P zero F r = P F
  All P (suc n) F r = P F × All P n r.0 r.1

  -- it holds of those of the last round
  pub latest : (P : Facts → Type 0) (n : ℕ) (F : Facts) (r : Rounds loop Inside n F) → All P n F r → P F
  latest P zero F r h = h
  latest P (suc n) F r h = h.0

  -- facts after any round are those of the inside
  pub last_inside : (n : ℕ) (F : Facts) (r : Rounds loop Inside n F) → Inside F
  last_inside zero F r = r.1
  last_inside (suc n) F r = r.4

  -- what follows from two properties of facts of the inside, which are alike below the counter, holds of each round's
  pub all_zip : (P Q R : Facts → Type 0) (T : Facts) (n : ℕ) (F : Facts) (r : Rounds loop Inside n F)
      → AreAlike F T loop.at → All P n F r → All Q n F r
      → ((G : Facts) → Inside G → AreAlike G T loop.at → P G → Q G → R G) → All R n F r
  all_zip P Q R T zero F r alike p q f = f F r.1 alike p q
  all_zip P Q R T (suc n) F r alike p q f =
      (f F r.4 alike p.0 q.0, all_zip P Q R T n r.0 r.1 (alike_both r.0 F T loop.at r.2 alike) p.1 q.1 f)

  -- what holds where a segment ends, by the facts of each round, holds there by all of them
  pub ends_all : (e : End) (Q : Facts → List Binding → Type 0) (n : ℕ) (F : Facts) (r : Rounds loop Inside n F)
      → All (λ G. Ends e (λ env. Q G env)) n F r
      → Ends e (λ env. All (λ G. Q G env) n F r)
  ends_all (Done env s) Q n F r h = h
  ends_all (Stopped stop trace) Q n F r h = tt

  -- the arguments are no comparisons' results
  pub untested_rounds : (n : ℕ) (F : Facts) (r : Rounds loop Inside n F)
      → All (λ G. AreUntested G loop.first loop.types) n F r
  untested_rounds zero F r = own_are_untested F loop.types loop.first r.0
  untested_rounds (suc n) F r =
      (next_are_untested loop.at r.0 F loop.types loop.inits loop.ends loop.first r.3, untested_rounds n r.0 r.1)

  module _ (low : loop.at < loop.first) where
    -- the arguments have good expressions
    pub good_rounds : AreSized loop.first loop.types → (n : ℕ) (F : Facts) (r : Rounds loop Inside n F)
        → All (λ G. AreGood G loop.first loop.types) n F r
    good_rounds some zero F r = own_are_good F loop.types loop.first some r.0
    good_rounds some (suc n) F r =
        let before = good_rounds some n r.0 r.1 in (
          next_are_good loop.at r.0 F loop.types loop.inits loop.ends loop.first some low r.3
              (latest (λ G. AreGood G loop.first loop.types) n r.0 r.1 before),
          before,
        )

    module _ (T : Types) (conditions : List Label) (env : List Binding) (around : List Iteration)
        (ins : HaveBits T loop.types loop.inits) where
      -- in the first iteration the arguments have their initial numbers, by the facts of every round
      pub first_rounds : (n : ℕ) (F : Facts) (r : Rounds loop Inside n F) → Agrees T F conditions loop.at env around
          → All (λ G. AreArguments G loop.at env around 0 loop.first loop.types (numbers_of env loop.inits)) n F r
      first_rounds zero F r ag = own_first T conditions loop.at env around F loop.types loop.inits loop.first ins ag
          r.0
      first_rounds (suc n) F r ag =
          let outer = agrees_outer T r.0 F conditions loop.at env around r.2 ag in
          let before = first_rounds n r.0 r.1 outer in (
            next_first T conditions loop.at env around r.0 F loop.types loop.inits loop.ends loop.first ins outer r.3
                (latest (λ G. AreArguments G loop.at env around 0 loop.first loop.types (numbers_of env loop.inits))
                n r.0 r.1 before),
            before,
          )

      -- from iteration k, whose arguments are the numbers `ns`, to the next: the inside ends with the values `last`,
      -- which agree with the scope U by the facts of every round
      module _ (k : ℕ) (last : List Binding) (keeps : Keeps env last loop.at) (U : Types) (end : ℕ)
          (outs : HaveBits U loop.types loop.ends) (ns : List Number) (reads : Reads last loop.first ns) where
        pub step_rounds : (n : ℕ) (F : Facts) (r : Rounds loop Inside n F) → Agrees T F conditions loop.at env around
            → All (λ G. Agrees U G conditions end last (turn_of loop.at k ∷ around)) n F r
            → All (λ G. AreArguments G loop.at env around k loop.first loop.types ns) n F r
            → All (λ G. AreArguments G loop.at env around (k + 1) loop.first loop.types (numbers_of last loop.ends))
            n F r
        step_rounds zero F r ag bg h =
            own_step T conditions loop.at env around k last keeps U end F loop.types loop.ends loop.first outs bg r.0
        step_rounds (suc n) F r ag bg h =
            let outer = agrees_outer T r.0 F conditions loop.at env around r.2 ag in
            let before = step_rounds n r.0 r.1 outer bg.1 h.1 in (
              next_step T conditions loop.at env around k last keeps U end r.0 F loop.types loop.inits loop.ends ns
                  loop.first low ins outs outer
                  (latest (λ G. Agrees U G conditions end last (turn_of loop.at k ∷ around)) n r.0 r.1 bg.1) reads
                  r.3 h.0
                  (latest (λ G. AreArguments G loop.at env around (k + 1) loop.first loop.types
                  (numbers_of last loop.ends)) n r.0 r.1 before),
              before,
            )
