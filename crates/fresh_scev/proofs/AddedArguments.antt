-- What a round makes of the arguments of a loop is added to a list, one after another.
use Rattle.std.proofs.Common.{◌≡◌, ℕ, ◌+◌, ◌||◌, ◌⊎◌, inl, inr, Bool, true, false, List, [], ◌∷◌, ◌++◌, length, map, refl, sym, ap, ◌∙◌, subst, arith, Some, None}
use Rattle.std.proofs.lemmas.Bool.{true≢false}
use Rattle.std.proofs.lemmas.List.{append-nil, append_assoc, length-map}
use Rattle.arith_word.specs.declared.label.Label.{Label}
use Rattle.mlir_ir.specs.Words.{bits_of}
use Rattle.mlir_ir.specs.declared.types.IrType.{IrType}
use Rattle.scev_tree.specs.declared.expr.Expr.{Expr}
use Rattle.fresh_scev.specs.Expressions.{Expression, expression_of, own, IsBefore}
use Rattle.fresh_scev.specs.Facts.{Facts}
use Rattle.fresh_scev.specs.Loops.{IsNext, IsSolution, solved, stays}
use Rattle.fresh_scev.specs.NextArguments.{own_exprs, AreNextExprs, AreBefore, AddsNext}
use Rattle.fresh_scev.specs.Still.{AreStill}

-- an argument that stays
pub stays_here : (F : Facts) (loop w label : ℕ) (old init yielded new : Expression) → old ≡ F.expr label → new ≡ old → IsSolution loop w label old init yielded None
    → IsNext loop w label (F.expr label) init yielded new
stays_here F loop w label old init yielded new at same s = stays (subst (λ o. IsSolution loop w label o init yielded None) at s) (same ∙ at)

-- an argument that is solved
pub solved_here : (F : Facts) (loop w label i y : ℕ) (old init yielded : Expression) (e : Expr) → old ≡ F.expr label → init ≡ F.expr i → yielded ≡ F.expr y
    → IsSolution loop w label old init yielded (Some e) → IsNext loop w label (F.expr label) (F.expr i) (F.expr y) (expression_of e)
solved_here F loop w label i y old init yielded e is_old is_init is_yielded s =
    let n : IsNext loop w label old init yielded (expression_of e) = solved s.0 s.1 s.2 in
    subst (λ o. IsNext loop w label o (F.expr i) (F.expr y) (expression_of e)) is_old
    (subst (λ o. IsNext loop w label old o (F.expr y) (expression_of e)) is_init
    (subst (λ o. IsNext loop w label old init o (expression_of e)) is_yielded n))

pub none_added : (loop : ℕ) (F : Facts) (label : ℕ) (inits ends : List Label) (s : List Expr) → AddsNext loop F label [] inits ends s s false
none_added loop F label inits ends s = record { more = []; added = sym (append-nil s); next = refl; before = tt; still = λ e. tt }

push_added : (s u t more : List Expr) (e : Expr) → u ≡ s ++ e ∷ [] → t ≡ u ++ more → t ≡ s ++ (e ∷ more)
push_added s u t more e pushed added = added ∙ ap (λ l. l ++ more) pushed ∙ append_assoc s (e ∷ []) more

either_false : (a b c : Bool) → c ≡ (a || b) → c ≡ false → (a ≡ false) × (b ≡ false)
either_false true b c is off = absurd (true≢false (sym is ∙ off))
either_false false b c is off = (refl, sym is ∙ off)

pub first_added : (loop : ℕ) (F : Facts) (label w : ℕ) (ty : IrType) (tys : List IrType) (i y : Label) (inits ends : List Label) (s u t : List Expr) (e : Expr) (a b c : Bool)
    → w ≡ bits_of ty → c ≡ (a || b)
    → IsNext loop w label (F.expr label) (F.expr i.0) (F.expr y.0) (expression_of e)
    → IsBefore (label + 1) (expression_of e)
    → (a ≡ false → IsSolution loop w label (F.expr label) (F.expr i.0) (F.expr y.0) None)
    → u ≡ s ++ e ∷ []
    → AddsNext loop F (label + 1) tys inits ends u t b
    → AddsNext loop F label (ty ∷ tys) (i ∷ inits) (y ∷ ends) s t c
first_added loop F label w ty tys i y inits ends s u t e a b c width is next before still pushed more = record {
  more = e ∷ more.more;
  added = push_added s u t more.more e pushed more.added;
  next = (subst (λ n. IsNext loop n label (F.expr label) (F.expr i.0) (F.expr y.0) (expression_of e)) width next, more.next);
  before = (before, more.before);
  still = λ off.
      let both = either_false a b c is off in
      (subst (λ n. IsSolution loop n label (F.expr label) (F.expr i.0) (F.expr y.0) None) width (still both.0), more.still both.1);
}

-- the same of an argument that is solved
pub solved_added : (loop : ℕ) (F : Facts) (label w : ℕ) (types tys : List IrType) (ty : IrType) (starts inits yielded ends : List Label) (i y : Label) (s u t : List Expr) (e : Expr) (b c : Bool)
    → types ≡ ty ∷ tys → starts ≡ i ∷ inits → yielded ≡ y ∷ ends → w ≡ bits_of ty → c ≡ true
    → IsNext loop w label (F.expr label) (F.expr i.0) (F.expr y.0) (expression_of e)
    → IsBefore (label + 1) (expression_of e)
    → u ≡ s ++ e ∷ []
    → AddsNext loop F (label + 1) tys inits ends u t b
    → AddsNext loop F label types starts yielded s t c
solved_added loop F label w types tys ty starts inits yielded ends i y s u t e b c types_are starts_are yielded_are width is next before pushed more =
    let added : AddsNext loop F label (ty ∷ tys) (i ∷ inits) (y ∷ ends) s t c =
    first_added loop F label w ty tys i y inits ends s u t e true b c width is next before (λ never. absurd (true≢false never)) pushed more in
    rw (types_are, starts_are, yielded_are) added

own_pushed : (label w : ℕ) (ty : IrType) (tys : List IrType) (e : Expression) (es : List Expression) → w ≡ bits_of ty → e ≡ own w label → es ≡ own_exprs (label + 1) tys
    → e ∷ es ≡ own_exprs label (ty ∷ tys)
own_pushed label w ty tys e es width is more =
    ap (λ x. x ∷ es) (is ∙ ap (λ n. own n label) width) ∙ ap (λ l. own (bits_of ty) label ∷ l) more

own_without_init : (loop : ℕ) (F : Facts) (label w : ℕ) (ty : IrType) (tys : List IrType) (inits ends : List Label) (s u t : List Expr) (e : Expr) (c : Bool)
    → length inits ≡ 0 → w ≡ bits_of ty → expression_of e ≡ own w label → IsBefore (label + 1) (expression_of e) → u ≡ s ++ e ∷ []
    → AddsNext loop F (label + 1) tys inits ends u t c
    → AddsNext loop F label (ty ∷ tys) inits ends s t c
own_without_init loop F label w ty [] [] ends s u t e c ended width is before pushed more = record {
  more = e ∷ more.more;
  added = push_added s u t more.more e pushed more.added;
  next = own_pushed label w ty [] (expression_of e) (map expression_of more.more) width is more.next;
  before = (before, more.before);
  still = λ off. tt;
}
own_without_init loop F label w ty (ty2 ∷ tys) [] ends s u t e c ended width is before pushed more = record {
  more = e ∷ more.more;
  added = push_added s u t more.more e pushed more.added;
  next = own_pushed label w ty (ty2 ∷ tys) (expression_of e) (map expression_of more.more) width is more.next;
  before = (before, more.before);
  still = λ off. tt;
}
own_without_init loop F label w ty tys (i ∷ inits) ends s u t e c ended width is before pushed more = absurd (omega (arith, ended))

own_without_end : (loop : ℕ) (F : Facts) (label w : ℕ) (ty : IrType) (tys : List IrType) (inits ends : List Label) (s u t : List Expr) (e : Expr) (c : Bool)
    → length ends ≡ 0 → w ≡ bits_of ty → expression_of e ≡ own w label → IsBefore (label + 1) (expression_of e) → u ≡ s ++ e ∷ []
    → AddsNext loop F (label + 1) tys inits ends u t c
    → AddsNext loop F label (ty ∷ tys) inits ends s t c
own_without_end loop F label w ty tys [] ends s u t e c ended width is before pushed more =
    own_without_init loop F label w ty tys [] ends s u t e c refl width is before pushed more
own_without_end loop F label w ty [] (i ∷ inits) [] s u t e c ended width is before pushed more = record {
  more = e ∷ more.more;
  added = push_added s u t more.more e pushed more.added;
  next = own_pushed label w ty [] (expression_of e) (map expression_of more.more) width is more.next;
  before = (before, more.before);
  still = λ off. tt;
}
own_without_end loop F label w ty (ty2 ∷ tys) (i ∷ inits) [] s u t e c ended width is before pushed more = record {
  more = e ∷ more.more;
  added = push_added s u t more.more e pushed more.added;
  next = own_pushed label w ty (ty2 ∷ tys) (expression_of e) (map expression_of more.more) width is more.next;
  before = (before, more.before);
  still = λ off. tt;
}
own_without_end loop F label w ty tys (i ∷ inits) (y ∷ ends) s u t e c ended width is before pushed more = absurd (omega (arith, ended))

pub own_added : (loop : ℕ) (F : Facts) (label w : ℕ) (types tys : List IrType) (ty : IrType) (inits ends : List Label) (s u t : List Expr) (e : Expr) (c : Bool)
    → types ≡ ty ∷ tys → (length inits ≡ 0) ⊎ (length ends ≡ 0) → w ≡ bits_of ty → expression_of e ≡ own w label → IsBefore (label + 1) (expression_of e) → u ≡ s ++ e ∷ []
    → AddsNext loop F (label + 1) tys inits ends u t c
    → AddsNext loop F label types inits ends s t c
own_added loop F label w types tys ty inits ends s u t e c types_are ended width is before pushed more =
    subst (λ l. AddsNext loop F label l inits ends s t c) (sym types_are) (elim ended [
      | inl no_init ↦ own_without_init loop F label w ty tys inits ends s u t e c no_init width is before pushed more
      | inr no_end ↦ own_without_end loop F label w ty tys inits ends s u t e c no_end width is before pushed more
    ])

own_length : (label : ℕ) (tys : List IrType) → length (own_exprs label tys) ≡ length tys
own_length label [] = refl
own_length label (ty ∷ tys) = let e = own_length (label + 1) tys in omega (arith, e)

-- as many as types
pub next_length : (loop : ℕ) (F : Facts) (label : ℕ) (tys : List IrType) (inits ends : List Label) (es : List Expression) → AreNextExprs loop F label tys inits ends es → length es ≡ length tys
next_length loop F label [] inits ends es h = ap length h
next_length loop F label (ty ∷ tys) [] ends es h = ap length h ∙ own_length label (ty ∷ tys)
next_length loop F label (ty ∷ tys) (i ∷ inits) [] es h = ap length h ∙ own_length label (ty ∷ tys)
next_length loop F label (ty ∷ tys) (i ∷ inits) (y ∷ ends) [] h = absurd h
next_length loop F label (ty ∷ tys) (i ∷ inits) (y ∷ ends) (e ∷ es) h = let n = next_length loop F (label + 1) tys inits ends es h.1 in omega (arith, n)

-- what is added to no expressions
module _ (loop : ℕ) (F : Facts) (label : ℕ) (tys : List IrType) (inits ends : List Label) (t : List Expr) (c : Bool) (a : AddsNext loop F label tys inits ends [] t c) where
  pub added_next : AreNextExprs loop F label tys inits ends (map expression_of t)
  added_next = subst (λ l. AreNextExprs loop F label tys inits ends (map expression_of l)) (sym a.added) a.next

  pub added_before : AreBefore label (map expression_of t)
  added_before = subst (λ l. AreBefore label (map expression_of l)) (sym a.added) a.before

  pub added_length : length t ≡ length tys
  added_length = sym (length-map t expression_of) ∙ next_length loop F label tys inits ends (map expression_of t) added_next

  pub added_still : c ≡ false → AreStill loop F label tys inits ends
  added_still off = a.still off
