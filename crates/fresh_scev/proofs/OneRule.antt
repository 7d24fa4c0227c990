-- The rule of an operation without regions gives one expression.
use Rattle.std.proofs.Common.{◌≡◌, ℕ, ◌^◌, inl, inr, Bool, true, false, List, Option, Some, None, ◌∙◌, sym, subst}
use Rattle.std.specs.List.{AllByRecursion}
use Rattle.arith_word.specs.declared.label.Label.{Label}
use Rattle.arith_word.specs.declared.op.BinOp.{BinOp}
use Rattle.arith_word.specs.declared.op.BinOp.TheVariants.{Addi, Subi, Muli, Andi, Ori, Xori, Minsi, Maxsi, Minui, Maxui, Shli, Shrui, Shrsi, Divui, Remui, Divsi, Remsi}
use Rattle.arith_word.specs.declared.op.CastOp.{CastOp}
use Rattle.chrec_algebra.proofs.UniqueResults.{sum_one, difference_one, product_one, scaled_one, truncated_one}
use Rattle.mlir_ir.specs.Operations.{SimpleOp, Const, Bin, Cast, Cmp, Select, Call}
use Rattle.mlir_ir.specs.Typed.{simple_uses}
use Rattle.phi_solve.proofs.Recurrences.{chain_one}
use Rattle.scev_tree.specs.Polynomial.{Polynomial}
use Rattle.fresh_scev.specs.Expressions.{Expression, IsCut, number_in, counter}
use Rattle.fresh_scev.specs.Facts.{Facts, IsRuled}
use Rattle.fresh_scev.specs.Loops.{IsVariable}
use Rattle.fresh_scev.specs.Rules.{have_width, fitting, IsCutOf, shift_factor, IsShifted, IsBin, truncates, IsTruncatedCast, IsCast, IsComparison, IsSelectedBy, IsSelected, IsMerged}
use Rattle.fresh_scev.proofs.Before.{same_expression, expression_or, within_or}
use Rattle.scev_tree.proofs.EqualTrees.{under_or}

pub cut_one : (w label : ℕ) (p : Polynomial) (e f : Expression) → IsCut w label p e → IsCut w label p f → e ≡ f
cut_one w label p e f c d = elim (within_or p) [
  | inl i ↦ same_expression e f (c.width ∙ sym d.width) (c.kept i ∙ sym (d.kept i))
  | inr n ↦ same_expression e f (c.width ∙ sym d.width) (c.dropped n ∙ sym (d.dropped n))
]

-- a kind that one polynomial has at most
pub cut_of_one : (w label : ℕ) (e f : Expression) (kind : Polynomial → Type 0) → ((p q : Polynomial) → kind p → kind q → p ≡ q) → IsCutOf w label e kind → IsCutOf w label f kind → e ≡ f
cut_of_one w label e f kind one h k = cut_one w label h.0 e f h.2 (subst (λ p. IsCut w label p f) (one k.0 h.0 k.1 h.1) k.2)

pub fitting_one : (b : Bool) (w label : ℕ) (e f : Expression) (rule other : Type 0) → (rule → other → e ≡ f) → fitting b w label e rule → fitting b w label f other → e ≡ f
fitting_one true w label e f rule other one h k = one h k
fitting_one false w label e f rule other one h k = h ∙ sym k

shifted_one : (o : Option ℕ) (w label : ℕ) (a b e f : Expression) → IsShifted o w label a b e → IsShifted o w label a b f → e ≡ f
shifted_one (Some c) w label a b e f h k = cut_of_one w label e f _ (λ p q. scaled_one (2 ^ w) c p q a.p) h k
shifted_one None w label a b e f h k = h ∙ sym k

bin_one : (op : BinOp) (w label : ℕ) (a b e f : Expression) → IsBin op w label a b e → IsBin op w label a b f → e ≡ f
bin_one Addi w label a b e f h k = cut_of_one w label e f _ (λ p q. sum_one (2 ^ w) p q a.p b.p) h k
bin_one Subi w label a b e f h k = cut_of_one w label e f _ (λ p q. difference_one (2 ^ w) p q a.p b.p) h k
bin_one Muli w label a b e f h k = cut_of_one w label e f _ (λ p q. product_one (2 ^ w) p q a.p b.p) h k
bin_one Shli w label a b e f h k = shifted_one (shift_factor w (number_in b.p)) w label a b e f h k
bin_one Andi w label a b e f h k = h ∙ sym k
bin_one Ori w label a b e f h k = h ∙ sym k
bin_one Xori w label a b e f h k = h ∙ sym k
bin_one Minsi w label a b e f h k = h ∙ sym k
bin_one Maxsi w label a b e f h k = h ∙ sym k
bin_one Minui w label a b e f h k = h ∙ sym k
bin_one Maxui w label a b e f h k = h ∙ sym k
bin_one Shrui w label a b e f h k = h ∙ sym k
bin_one Shrsi w label a b e f h k = h ∙ sym k
bin_one Divui w label a b e f h k = h ∙ sym k
bin_one Remui w label a b e f h k = h ∙ sym k
bin_one Divsi w label a b e f h k = h ∙ sym k
bin_one Remsi w label a b e f h k = h ∙ sym k

cast_one : (t : Bool) (op : CastOp) (w label : ℕ) (a e f : Expression) → IsTruncatedCast t op w label a e → IsTruncatedCast t op w label a f → e ≡ f
cast_one true op w label a e f h k = cut_of_one w label e f _ (λ p q. truncated_one (2 ^ w) p q a.p) h k
cast_one false op w label a e f h k = h ∙ sym k

selected_one : (o : Option ℕ) (w label : ℕ) (a b e f : Expression) → IsSelectedBy o w label a b e → IsSelectedBy o w label a b f → e ≡ f
selected_one (Some v) w label a b e f h k = h ∙ sym k
selected_one None w label a b e f h k = elim (expression_or a b) [
  | inl s ↦ h.same s ∙ sym (k.same s)
  | inr n ↦ h.other n ∙ sym (k.other n)
]

pub merged_one : (start w label : ℕ) (a b e f : Expression) → IsMerged start w label a b e → IsMerged start w label a b f → e ≡ f
merged_one start w label a b e f h k = elim (expression_or a b) [
  | inl s ↦ (elim (under_or a.p (counter start)) [
    | inl u ↦ h.same s u ∙ sym (k.same s u)
    | inr n ↦ h.other (λ s u. n u) ∙ sym (k.other (λ s u. n u))
  ])
  | inr n ↦ h.other (λ s u. n s) ∙ sym (k.other (λ s u. n s))
]

pub variable_one : (loop w label : ℕ) (lower step e f : Expression) → IsVariable loop w label lower step e → IsVariable loop w label lower step f → e ≡ f
variable_one loop w label lower step e f h k =
    fitting_one (have_width w lower step) w label e f _ _ (λ r s. cut_of_one w label e f _ (λ p q. chain_one (2 ^ w) (counter loop) p q lower.p step.p) r s) h k

-- ---- by the facts of the operands

-- these values have the same expressions
abbrev pub SameExprs : Facts → Facts → List Label → Type 0
SameExprs F G uses = AllByRecursion (λ (l : Label). F.expr l.0 ≡ G.expr l.0) uses

pub rule_one : (F G : Facts) (w label : ℕ) (does : SimpleOp) (e f : Expression) → SameExprs F G (simple_uses does) → IsRuled F w label does e → IsRuled G w label does f → e ≡ f
rule_one F G w label (Const v) e f u h k = h ∙ sym k
rule_one F G w label (Bin op flags a b) e f u h k =
    let k2 : fitting (have_width w (F.expr a.0) (F.expr b.0)) w label f (IsBin op w label (F.expr a.0) (F.expr b.0) f) =
    subst (λ x. fitting (have_width w x (F.expr b.0)) w label f (IsBin op w label x (F.expr b.0) f)) (sym u.0)
    (subst (λ y. fitting (have_width w (G.expr a.0) y) w label f (IsBin op w label (G.expr a.0) y f)) (sym u.1.0) k) in
    fitting_one (have_width w (F.expr a.0) (F.expr b.0)) w label e f _ _ (bin_one op w label (F.expr a.0) (F.expr b.0) e f) h k2
rule_one F G w label (Cast op flags a) e f u h k =
    cast_one (truncates op (F.expr a.0).w w) op w label (F.expr a.0) e f h (subst (λ x. IsCast op w label x f) (sym u.0) k)
rule_one F G w label (Cmp pred a b) e f u h k =
    let k2 : fitting (have_width (F.expr a.0).w (F.expr a.0) (F.expr b.0)) w label f (IsComparison pred w label (F.expr a.0) (F.expr b.0) f) =
    subst (λ x. fitting (have_width x.w x (F.expr b.0)) w label f (IsComparison pred w label x (F.expr b.0) f)) (sym u.0)
    (subst (λ y. fitting (have_width (G.expr a.0).w (G.expr a.0) y) w label f (IsComparison pred w label (G.expr a.0) y f)) (sym u.1.0) k) in
    fitting_one (have_width (F.expr a.0).w (F.expr a.0) (F.expr b.0)) w label e f _ _ (λ r s. r ∙ sym s) h k2
rule_one F G w label (Select c a b) e f u h k =
    let k2 : fitting (have_width w (F.expr a.0) (F.expr b.0)) w label f (IsSelected w label (F.expr c.0) (F.expr a.0) (F.expr b.0) f) =
    subst (λ z. fitting (have_width w (F.expr a.0) (F.expr b.0)) w label f (IsSelected w label z (F.expr a.0) (F.expr b.0) f)) (sym u.0)
    (subst (λ x. fitting (have_width w x (F.expr b.0)) w label f (IsSelected w label (G.expr c.0) x (F.expr b.0) f)) (sym u.1.0)
    (subst (λ y. fitting (have_width w (G.expr a.0) y) w label f (IsSelected w label (G.expr c.0) (G.expr a.0) y f)) (sym u.1.1.0) k)) in
    fitting_one (have_width w (F.expr a.0) (F.expr b.0)) w label e f _ _ (selected_one (number_in (F.expr c.0).p) w label (F.expr a.0) (F.expr b.0) e f) h k2
rule_one F G w label (Call func passed) e f u h k = h ∙ sym k
