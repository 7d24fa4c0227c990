-- The search for the first product that grows evenly, operation by operation.
use Rattle.std.proofs.Common.{◌≡◌, ℕ, suc, ◌+◌, ◌<◌, ◌≤◌, Bool, true, false, drop, List, [], ◌∷◌, length, get_or, Option, Some, None, if◌then◌else◌, refl, ap, ◌∙◌, sym, arith}
use Rattle.std.proofs.Math.Seq.{drop-cons}
use Rattle.std.proofs.Common.{drop-drop}
use Rattle.std.proofs.lemmas.List.{drop_all}
use Rattle.std.specs.Option.{option_or}
use Rattle.mlir_ir.specs.Operations.{OpList, next, inner_labels}
use Rattle.mlir_ir.specs.Typed.{Types}
use Rattle.mlir_ir.specs.View.{view_kind, view_ops}
use Rattle.mlir_ir.specs.declared.types.Func.{Func}
use Rattle.mlir_ir.specs.declared.types.IrType.{IrType}
use Rattle.mlir_ir.specs.declared.types.Op.{Op}
use Rattle.pass_copy.specs.InScope.{InScope}
use Rattle.pass_copy.specs.Places.{operation_in}
use Rattle.pass_copy.specs.Replaced.{Operation}
use Rattle.pass_indvar.specs.Built.{first_entry}
use Rattle.pass_indvar.specs.Entries.{entries}
use Rattle.pass_indvar.specs.Grown.{entries_of, growth_of, result_growth}
use Rattle.pass_indvar.specs.Reductions.{Progression, is_product, first_of, first_progression}
use Rattle.scev_tree.specs.Polynomial.{Polynomial}
use Rattle.scev_tree.specs.declared.expr.Expr.{Expr}

module _ (T : Types) (t : ℕ) where
  by_product : (l : ℕ) (tys : List IrType) (es : List (Option Polynomial)) (behind : List (Option Polynomial) → Option Progression) (b : Bool)
      → (if b then first_of T t l tys es (behind (drop 1 es)) else behind es)
      ≡ option_or (if b then result_growth T t l tys (first_entry es) else None) (behind (drop (if b then 1 else 0) es))
  by_product l tys es behind false = refl
  by_product l [] es behind true = refl
  by_product l (ty ∷ tys) [] behind true = refl
  by_product l (ty ∷ tys) (None ∷ es) behind true = refl
  by_product l (ty ∷ tys) (Some p ∷ es) behind true = refl

  -- the first operation's, or else that of what is behind it
  pub growth_first : (at : ℕ) (o : Operation) (rest : OpList) (es : List (Option Polynomial))
      → first_progression T t at (next o.packs o.results o.kind rest) es
      ≡ option_or (growth_of T t at o (first_entry es)) (first_progression T t (at + (inner_labels o.kind + length o.results)) rest (drop (entries_of o.kind) es))
  growth_first at o rest es = by_product at o.results es (first_progression T t (at + (inner_labels o.kind + length o.results)) rest) (is_product o.kind)

-- what is sought in operations is what is found in those that are left, of which the first begins with label `at`, behind so many entries
pub record IsSought (f : Func) (t start : ℕ) (all : List Op) (exprs : List (Option Expr)) (ops : List Op) (at passed : ℕ) : Type 0 where
  pub same : InScope f t (λ T. first_progression T t at (view_ops ops) (drop passed (entries exprs)) ≡ first_progression T t start (view_ops all) (entries exprs))

module _ (f : Func) (t start : ℕ) (all : List Op) (exprs : List (Option Expr)) where
  pub sought_first : IsSought f t start all exprs all start 0
  sought_first = record { same = record { there = λ T now. refl } }

  pub sought_none : (i at passed : ℕ) → length all ≤ i → IsSought f t start all exprs (drop i all) at passed
      → InScope f t (λ T. None ≡ first_progression T t start (view_ops all) (entries exprs))
  sought_none i at passed le h = record {
    there = λ T now. (λ j. first_progression T t at (view_ops (sym (drop_all i all le) j)) (drop passed (entries exprs))) ∙ h.same.there T now;
  }

  module _ (i : ℕ) (op : Op) (lt : i < length all) (is : op ≡ get_or all i op) (at passed : ℕ) (h : IsSought f t start all exprs (drop i all) at passed)
      (entry : Option Polynomial) (there : entry ≡ first_entry (drop passed (entries exprs))) (found : Option Progression)
      (grows : InScope f t (λ T. found ≡ growth_of T t at (operation_in op) entry)) where
    left : drop i all ≡ op ∷ drop (i + 1) all
    left = let n : suc i ≡ i + 1 = omega arith in drop-cons all i op lt ∙ (λ j. sym is j ∷ drop (n j) all)

    abbrev behind : Types → Option Progression
    behind T =
        first_progression T t (at + (inner_labels (view_kind op.kind) + length op.results)) (view_ops (drop (i + 1) all)) (drop (entries_of (view_kind op.kind)) (drop passed (entries exprs)))

    parted : InScope f t (λ T. option_or found (behind T) ≡ first_progression T t start (view_ops all) (entries exprs))
    parted = record {
      there = λ T now.
          ap (λ g. option_or g (behind T)) (grows.there T now ∙ ap (growth_of T t at (operation_in op)) there)
          ∙ sym (growth_first T t at (operation_in op) (view_ops (drop (i + 1) all)) (drop passed (entries exprs)))
          ∙ (λ j. first_progression T t at (view_ops (sym left j)) (drop passed (entries exprs))) ∙ h.same.there T now;
    }

    pub sought_here : (g : Progression) → found ≡ Some g → InScope f t (λ T. Some g ≡ first_progression T t start (view_ops all) (entries exprs))
    sought_here g e = record { there = λ T now. ap (λ x. option_or x (behind T)) (sym e) ∙ parted.there T now }

    pub sought_next : (at2 passed2 : ℕ) → found ≡ None → at2 ≡ at + inner_labels (view_kind op.kind) + length op.results → passed2 ≡ passed + entries_of (view_kind op.kind)
        → IsSought f t start all exprs (drop (i + 1) all) at2 passed2
    sought_next at2 passed2 e to more =
        let a : at2 ≡ at + (inner_labels (view_kind op.kind) + length op.results) = omega (arith, to) in
        record {
          same = record {
            there = λ T now.
                (λ j. first_progression T t (a j) (view_ops (drop (i + 1) all)) ((ap (λ n. drop n (entries exprs)) more ∙ sym (drop-drop (entries_of (view_kind op.kind)) passed (entries exprs))) j))
                ∙ ap (λ x. option_or x (behind T)) (sym e) ∙ parted.there T now;
          };
        }
