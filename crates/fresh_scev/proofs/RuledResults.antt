-- The results of an operation are defined one after another.
use Rattle.std.proofs.Common.{◌≡◌, ℕ, ◌+◌, List, [], ◌∷◌, length, refl, sym, ◌∙◌, subst, arith}
use Rattle.mlir_ir.specs.Operations.{OpKind, Simple, If, For, While}
use Rattle.mlir_ir.specs.Words.{bits_of}
use Rattle.mlir_ir.specs.declared.types.IrType.{IrType}
use Rattle.fresh_scev.specs.declared.table.Table.{Table}
use Rattle.fresh_scev.specs.Expressions.{Expression, own}
use Rattle.fresh_scev.specs.Facts.{Facts, untested, IsRuled, role_of, AreRuled, AreOwn}
use Rattle.fresh_scev.specs.Table.{facts_of, next_label, AreKnown, Grows, Defines}
use Rattle.fresh_scev.specs.Walked.{IsKindRuled, AreKindRuled, SimpleUsesBelow, kind_role, Says}
use Rattle.fresh_scev.proofs.GrowingTables.{next_later, grows_on, grows_none, grown_alike}
use Rattle.fresh_scev.proofs.StandingFacts.{rule_stays, uses_more}

-- a value that was defined, as a later table has it
pub defined_stays : (s t u : Table) (n : ℕ) (e : Expression) (test : _) → Defines s t e test → Grows t u n → ((facts_of u).expr (next_label s) ≡ e) × ((facts_of u).role (next_label s) ≡ test)
defined_stays s t u n e test d g =
    let next = next_later s t 1 d.grows in
    (sym (g.stay.exprs (next_label s) (omega (arith, next))) ∙ d.expr, sym (g.stay.roles (next_label s) (omega (arith, next))) ∙ d.role_is)

pub later_uses : (kind : OpKind) (s t : Table) (n : ℕ) → Grows s t n → SimpleUsesBelow kind (next_label s) → SimpleUsesBelow kind (next_label t)
later_uses (Simple does) s t n g u = let next = next_later s t n g in uses_more _ (next_label s) (next_label t) (omega (arith, next)) u
later_uses (If c first firsts has_else other others) s t n g u = tt
later_uses (For lower upper step iv args inits body ends) s t n g u = tt
later_uses (While args inits before passed cond after_args after ends) s t n g u = tt

pub none_ruled : (kind : OpKind) (t : Table) → AreKnown (facts_of t) → Says t t 0 (λ F. AreKindRuled F (next_label t) [] kind)
none_ruled (Simple does) t k = record { grows = grows_none t k; facts = tt }
none_ruled (If c first firsts has_else other others) t k = record { grows = grows_none t k; facts = tt }
none_ruled (For lower upper step iv args inits body ends) t k = record { grows = grows_none t k; facts = tt }
none_ruled (While args inits before passed cond after_args after ends) t k = record { grows = grows_none t k; facts = tt }

pub own_first : (F : Facts) (label label2 w : ℕ) (e : Expression) (ty : IrType) (rest : List IrType) → w ≡ bits_of ty → label2 ≡ label + 1 → F.expr label ≡ e → F.role label ≡ untested → e ≡ own w label → AreOwn F label2 rest → AreOwn F label (ty ∷ rest)
own_first F label label2 w e ty rest width next is test rule more = ((is ∙ rule ∙ rw width refl, test), subst (λ l. AreOwn F l rest) next more)

-- the first result, and the others
pub first_ruled : (kind : OpKind) (s t u : Table) (e : Expression) (w n : ℕ) (ty : IrType) (rest : List IrType) → w ≡ bits_of ty → n ≡ 1 + length rest
    → SimpleUsesBelow kind (next_label s) → IsKindRuled (facts_of s) w (next_label s) kind e → Defines s t e (kind_role kind)
    → Says t u (length rest) (λ F. AreKindRuled F (next_label t) rest kind) → Says s u n (λ F. AreKindRuled F (next_label s) (ty ∷ rest) kind)
first_ruled (Simple does) s t u e w n ty rest width count uses rule d more =
    let next = next_later s t 1 d.grows in
    let all = grows_on s t u 1 (length rest) d.grows more.grows in
    let is = defined_stays s t u (length rest) e (role_of does) d more.grows in
    let F = facts_of u in
    let now : IsRuled F w (next_label s) does e = rule_stays (facts_of s) F (next_label s) (grown_alike s u (1 + length rest) all) w (next_label s) does e uses rule in
    record {
      grows = subst (λ k. Grows s u k) (sym count) all;
      facts = (
        subst (λ x. IsRuled F (bits_of ty) (next_label s) does x) (sym is.0) (subst (λ v. IsRuled F v (next_label s) does e) width now),
        is.1,
        subst (λ l. AreRuled F l rest does) next more.facts,
      );
    }
first_ruled (If c first firsts has_else other others) s t u e w n ty rest width count uses rule d more =
    let is = defined_stays s t u (length rest) e untested d more.grows in
    record { grows = subst (λ k. Grows s u k) (sym count) (grows_on s t u 1 (length rest) d.grows more.grows); facts = own_first (facts_of u) (next_label s) (next_label t) w e ty rest width (next_later s t 1 d.grows) is.0 is.1 rule more.facts }
first_ruled (For lower upper step iv args inits body ends) s t u e w n ty rest width count uses rule d more =
    let is = defined_stays s t u (length rest) e untested d more.grows in
    record { grows = subst (λ k. Grows s u k) (sym count) (grows_on s t u 1 (length rest) d.grows more.grows); facts = own_first (facts_of u) (next_label s) (next_label t) w e ty rest width (next_later s t 1 d.grows) is.0 is.1 rule more.facts }
first_ruled (While args inits before passed cond after_args after ends) s t u e w n ty rest width count uses rule d more =
    let is = defined_stays s t u (length rest) e untested d more.grows in
    record { grows = subst (λ k. Grows s u k) (sym count) (grows_on s t u 1 (length rest) d.grows more.grows); facts = own_first (facts_of u) (next_label s) (next_label t) w e ty rest width (next_later s t 1 d.grows) is.0 is.1 rule more.facts }
