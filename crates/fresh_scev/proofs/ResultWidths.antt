-- The rules of single operations give expressions of their results' widths.
use Rattle.std.proofs.Common.{◌≡◌, ℕ, zero, suc, ◌+◌, ◌==◌, inl, inr, Bool, true, false, List, [], ◌∷◌, Option, Some, None, refl, sym, subst, ap, ◌∙◌, if◌then◌else◌}
use Rattle.std.proofs.lemmas.Bool.{and_parts, cases_Bool, eqb-true, eq-eqb}
use Rattle.arith_word.specs.declared.label.Label.{Label}
use Rattle.arith_word.specs.declared.op.BinOp.{BinOp}
use Rattle.arith_word.specs.declared.op.BinOp.TheVariants.{Addi, Subi, Muli, Andi, Ori, Xori, Minsi, Maxsi, Minui, Maxui, Shli, Shrui, Shrsi, Divui, Remui, Divsi, Remsi}
use Rattle.arith_word.specs.declared.op.CastOp.{CastOp}
use Rattle.mlir_ir.specs.declared.types.IrType.{IrType}
use Rattle.mlir_ir.specs.Operations.{SimpleOp, Const, Bin, Cast, Cmp, Select, Call}
use Rattle.mlir_ir.specs.Words.{bits_of}
use Rattle.scev_tree.specs.Polynomial.{Polynomial}
use Rattle.trip_count.specs.declared.answer.Turns.{Turns}
use Rattle.fresh_scev.specs.Expressions.{Expression, own, number_in}
use Rattle.fresh_scev.specs.Facts.{Facts, Role, untested, role_of, Loop, AreOwn, IsRuled, AreRuled, AreMerged, AreNext, Rounds, AreCarried, ArePassedOn}
use Rattle.fresh_scev.specs.Loops.{IsNext, IsResult, solved, stays, settled, unsettled}
use Rattle.fresh_scev.specs.Rules.{have_width, fitting, or_own, IsCutOf, shift_factor, IsShifted, IsBin, truncates, IsTruncatedCast, IsSelectedBy, IsMerged}
use Rattle.fresh_scev.specs.Widths.{IsValue, AreWide}
use Rattle.fresh_scev.proofs.TableFacts.{no_both}

own_wide : (w label : ℕ) (e : Expression) → e ≡ own w label → e.w ≡ w
own_wide w label e h = ap (λ (x : Expression). x.w) h

or_own_wide : (o : Option ℕ) (w label : ℕ) (e : Expression) → e ≡ or_own o w label → e.w ≡ w
or_own_wide (Some v) w label e h = ap (λ (x : Expression). x.w) h
or_own_wide None w label e h = ap (λ (x : Expression). x.w) h

cut_wide : (w label : ℕ) (e : Expression) (kind : Polynomial → Type 0) → IsCutOf w label e kind → e.w ≡ w
cut_wide w label e kind h = h.2.width

pub fitting_wide : (b : Bool) (w label : ℕ) (e : Expression) (rule : Type 0) → (b ≡ true → rule → e.w ≡ w) → fitting b w label e rule → e.w ≡ w
fitting_wide true w label e rule f h = f refl h
fitting_wide false w label e rule f h = own_wide w label e h

shifted_wide : (o : Option ℕ) (w label : ℕ) (a b e : Expression) → IsShifted o w label a b e → e.w ≡ w
shifted_wide (Some c) w label a b e h = h.2.width
shifted_wide None w label a b e h = or_own_wide _ w label e h

bin_wide : (op : BinOp) (w label : ℕ) (a b e : Expression) → IsBin op w label a b e → e.w ≡ w
bin_wide Addi w label a b e h = h.2.width
bin_wide Subi w label a b e h = h.2.width
bin_wide Muli w label a b e h = h.2.width
bin_wide Shli w label a b e h = shifted_wide (shift_factor w (number_in b.p)) w label a b e h
bin_wide Andi w label a b e h = or_own_wide _ w label e h
bin_wide Ori w label a b e h = or_own_wide _ w label e h
bin_wide Xori w label a b e h = or_own_wide _ w label e h
bin_wide Minsi w label a b e h = or_own_wide _ w label e h
bin_wide Maxsi w label a b e h = or_own_wide _ w label e h
bin_wide Minui w label a b e h = or_own_wide _ w label e h
bin_wide Maxui w label a b e h = or_own_wide _ w label e h
bin_wide Shrui w label a b e h = or_own_wide _ w label e h
bin_wide Shrsi w label a b e h = or_own_wide _ w label e h
bin_wide Divui w label a b e h = or_own_wide _ w label e h
bin_wide Remui w label a b e h = or_own_wide _ w label e h
bin_wide Divsi w label a b e h = or_own_wide _ w label e h
bin_wide Remsi w label a b e h = or_own_wide _ w label e h

cast_wide : (b : Bool) (op : CastOp) (w label : ℕ) (a e : Expression) → IsTruncatedCast b op w label a e → e.w ≡ w
cast_wide true op w label a e h = h.2.width
cast_wide false op w label a e h = or_own_wide _ w label e h

-- both operands have the width
both_wide : (w : ℕ) (a b : Expression) → have_width w a b ≡ true → (a.w ≡ w) × (b.w ≡ w)
both_wide w a b h =
    let p = and_parts (a.w == w) (b.w == w) h in
    (eqb-true a.w w p.0, eqb-true b.w w p.1)

-- an expression that is another one where that has the width, unless it is the own symbol
either_wide : (w label : ℕ) (a e : Expression) (P : Type 0) → a.w ≡ w → (P → e ≡ a) → ((P → ⊥) → e ≡ own w label) → e.w ≡ w
either_wide w label a e P wide same other =
    elim (cases_Bool (e.w == w)) [
      | inl same_width ↦ eqb-true e.w w same_width
      | inr other_width ↦ own_wide w label e (other (λ p. no_both (e.w == w) (eq-eqb e.w w (ap (λ (x : Expression). x.w) (same p) ∙ wide)) other_width))
    ]

chosen_wide : (b : Bool) (w : ℕ) (x y e : Expression) → x.w ≡ w → y.w ≡ w → e ≡ (if b then x else y) → e.w ≡ w
chosen_wide true w x y e wx wy h = ap (λ (x : Expression). x.w) h ∙ wx
chosen_wide false w x y e wx wy h = ap (λ (x : Expression). x.w) h ∙ wy

selected_wide : (o : Option ℕ) (w label : ℕ) (a b e : Expression) → a.w ≡ w → b.w ≡ w → IsSelectedBy o w label a b e → e.w ≡ w
selected_wide (Some v) w label a b e wa wb h = chosen_wide (v == 0) w b a e wb wa h
selected_wide None w label a b e wa wb h = either_wide w label a e (a ≡ b) wa h.same h.other

rule_wide : (F : Facts) (w label : ℕ) (does : SimpleOp) (e : Expression) → IsRuled F w label does e → e.w ≡ w
rule_wide F w label (Const v) e h = ap (λ (x : Expression). x.w) h
rule_wide F w label (Bin op flags a b) e h = fitting_wide (have_width w (F.expr a.0) (F.expr b.0)) w label e _ (λ t r. bin_wide op w label (F.expr a.0) (F.expr b.0) e r) h
rule_wide F w label (Cast op flags a) e h = cast_wide (truncates op (F.expr a.0).w w) op w label (F.expr a.0) e h
rule_wide F w label (Cmp pred a b) e h = fitting_wide (have_width (F.expr a.0).w (F.expr a.0) (F.expr b.0)) w label e _ (λ t r. or_own_wide _ w label e r) h
rule_wide F w label (Select c a b) e h =
    fitting_wide (have_width w (F.expr a.0) (F.expr b.0)) w label e _ (λ t r. let p = both_wide w (F.expr a.0) (F.expr b.0) t in selected_wide (number_in (F.expr c.0).p) w label (F.expr a.0) (F.expr b.0) e p.0 p.1 r) h
rule_wide F w label (Call func passed) e h = own_wide w label e h

-- ---- roles of values

pub untested_value : (r : Role) → r ≡ untested → IsValue r
untested_value r e = subst IsValue (sym e) tt

value_role : (does : SimpleOp) → IsValue (role_of does)
value_role (Const v) = tt
value_role (Bin op flags a b) = tt
value_role (Cast op flags a) = tt
value_role (Cmp pred a b) = tt
value_role (Select c a b) = tt
value_role (Call func passed) = tt

ruled_value : (r : Role) (does : SimpleOp) → r ≡ role_of does → IsValue r
ruled_value r does e = subst IsValue (sym e) (value_role does)

-- ---- values one after another

pub own_are_wide : (F : Facts) (label : ℕ) (tys : List IrType) → AreOwn F label tys → AreWide F label tys
own_are_wide F label [] h = tt
own_are_wide F label (ty ∷ tys) h = ((own_wide (bits_of ty) label (F.expr label) h.0.0, untested_value (F.role label) h.0.1), own_are_wide F (label + 1) tys h.1)

pub ruled_are_wide : (F : Facts) (label : ℕ) (tys : List IrType) (does : SimpleOp) → AreRuled F label tys does → AreWide F label tys
ruled_are_wide F label [] does h = tt
ruled_are_wide F label (ty ∷ tys) does h = ((rule_wide F (bits_of ty) label does (F.expr label) h.0, ruled_value (F.role label) does h.1), ruled_are_wide F (label + 1) tys does h.2)

merged_wide : (start w label : ℕ) (a b e : Expression) → have_width w a b ≡ true → IsMerged start w label a b e → e.w ≡ w
merged_wide start w label a b e t h =
    let p = both_wide w a b t in
    either_wide w label a e ((a ≡ b) × _) p.0 (λ q. h.same q.0 q.1) (λ no. h.other (λ x y. no (x, y)))

pub merged_are_wide : (F : Facts) (start label : ℕ) (tys : List IrType) (firsts others : List Label) → AreMerged F start label tys firsts others → AreWide F label tys
merged_are_wide F start label [] firsts others h = tt
merged_are_wide F start label (ty ∷ tys) [] others h = own_are_wide F label (ty ∷ tys) h
merged_are_wide F start label (ty ∷ tys) (y ∷ firsts) [] h = own_are_wide F label (ty ∷ tys) h
merged_are_wide F start label (ty ∷ tys) (y ∷ firsts) (z ∷ others) h =
    let w = bits_of ty in (
      (fitting_wide (have_width w (F.expr y.0) (F.expr z.0)) w label (F.expr label) _ (λ t r. merged_wide start w label (F.expr y.0) (F.expr z.0) (F.expr label) t r) h.0, untested_value (F.role label) h.1),
      merged_are_wide F start (label + 1) tys firsts others h.2,
    )

next_wide : (loop w label : ℕ) (old init yielded new : Expression) → old.w ≡ w → IsNext loop w label old init yielded new → new.w ≡ w
next_wide loop w label old init yielded new wide (solved p grows cut) = cut.2.width
next_wide loop w label old init yielded new wide (stays none same) = ap (λ (x : Expression). x.w) same ∙ wide

next_are_wide : (loop : ℕ) (old new : Facts) (label : ℕ) (tys : List IrType) (inits ends : List Label) → AreWide old label tys → AreNext loop old new label tys inits ends → AreWide new label tys
next_are_wide loop old new label [] inits ends wide h = tt
next_are_wide loop old new label (ty ∷ tys) [] ends wide h = own_are_wide new label (ty ∷ tys) h
next_are_wide loop old new label (ty ∷ tys) (i ∷ inits) [] wide h = own_are_wide new label (ty ∷ tys) h
next_are_wide loop old new label (ty ∷ tys) (i ∷ inits) (y ∷ ends) wide h = (
  (next_wide loop (bits_of ty) label (old.expr label) (old.expr i.0) (old.expr y.0) (new.expr label) wide.0.0 h.0, untested_value (new.role label) h.1),
  next_are_wide loop old new (label + 1) tys inits ends wide.1 h.2,
)

-- the arguments of a loop after n rounds, and what is said of its inside
pub rounds_are_wide : (loop : Loop) (Inside : Facts → Type 0) (n : ℕ) (F : Facts) → Rounds loop Inside n F → AreWide F loop.first loop.types
rounds_are_wide loop Inside zero F h = own_are_wide F loop.first loop.types h.0
rounds_are_wide loop Inside (suc n) F h = next_are_wide loop.at h.0 F loop.first loop.types loop.inits loop.ends (rounds_are_wide loop Inside n h.0 h.1) h.3

pub rounds_inside : (loop : Loop) (Inside : Facts → Type 0) (n : ℕ) (F : Facts) → Rounds loop Inside n F → Inside F
rounds_inside loop Inside zero F h = h.1
rounds_inside loop Inside (suc n) F h = h.4

result_wide : (proved : Type 0) (w loop label : ℕ) (t : Turns) (a e : Expression) → IsResult proved w loop label t a e → e.w ≡ w
result_wide proved w loop label t a e (settled c exit cut) = cut.width
result_wide proved w loop label t a e (unsettled none same) = own_wide w label e same

pub carried_are_wide : (F : Facts) (conditions : List Label) (loop from label : ℕ) (tys : List IrType) → AreCarried F conditions loop from label tys → AreWide F label tys
carried_are_wide F conditions loop from label [] h = tt
carried_are_wide F conditions loop from label (ty ∷ tys) h = (
  (result_wide _ (bits_of ty) loop label (F.turns loop) (F.expr from) (F.expr label) h.0, untested_value (F.role label) h.1),
  carried_are_wide F conditions loop (from + 1) (label + 1) tys h.2,
)

pub passed_on_are_wide : (F : Facts) (conditions : List Label) (loop : ℕ) (passed : List Label) (label : ℕ) (tys : List IrType) → ArePassedOn F conditions loop passed label tys → AreWide F label tys
passed_on_are_wide F conditions loop passed label [] h = tt
passed_on_are_wide F conditions loop [] label (ty ∷ tys) h = own_are_wide F label (ty ∷ tys) h
passed_on_are_wide F conditions loop (y ∷ passed) label (ty ∷ tys) h = (
  (result_wide _ (bits_of ty) loop label (F.turns loop) (F.expr y.0) (F.expr label) h.0, untested_value (F.role label) h.1),
  passed_on_are_wide F conditions loop passed (label + 1) tys h.2,
)
