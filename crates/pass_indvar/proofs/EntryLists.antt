-- Entries as programs read them, and the exits of results one by one.
use Rattle.std.proofs.Common.{◌≡◌, ◌≢◌, ℕ, zero, suc, ◌+◌, ◌==◌, ◌<◌, ◌≤◌, Bool, true, false, List, [], ◌∷◌, ◌++◌, length, drop, get_or, Option, Some, None, if◌then◌else◌, refl, ap, ◌∙◌, sym, arith, append_assoc, append-nil}
use Rattle.std.proofs.Math.Seq.{drop-cons}
use Rattle.std.proofs.lemmas.Bool.{eqb-true}
use Rattle.std.proofs.lemmas.List.{drop_all}
use Rattle.mlir_ir.specs.Typed.{Types}
use Rattle.mlir_ir.specs.declared.types.Func.{Func}
use Rattle.mlir_ir.specs.declared.types.IrType.{IrType}
use Rattle.mlir_ir.specs.Operations.{inner_labels}
use Rattle.pass_copy.specs.InScope.{InScope}
use Rattle.pass_copy.specs.Replaced.{Operation}
use Rattle.pass_indvar.specs.Built.{exit_of, exits_in, chosen_exits, first_entry, exit_if}
use Rattle.pass_indvar.specs.Entries.{entry, entries}
use Rattle.pass_indvar.specs.Exits.{Exit, fits, exits_from, exits}
use Rattle.pass_indvar.specs.declared.chosen.Chosen.{Chosen}
use Rattle.scev_tree.specs.Polynomial.{Polynomial}
use Rattle.scev_tree.specs.Tree.{polynomial_of}
use Rattle.scev_tree.specs.declared.expr.Expr.{Expr}

-- an entry that is there, and one that isn't
pub entry_there : (exprs : List (Option Expr)) (i : ℕ) (e : Option Expr) → i < length exprs → e ≡ get_or exprs i e → entry e ≡ first_entry (drop i (entries exprs))
entry_there [] i e lt is = absurd (omega arith)
entry_there (x ∷ exprs) zero e lt is = ap entry is
entry_there (x ∷ exprs) (suc i) e lt is = entry_there exprs i e (omega arith) is

pub entry_missing : (exprs : List (Option Expr)) (i : ℕ) → length exprs ≤ i → None ≡ first_entry (drop i (entries exprs))
entry_missing [] zero le = refl
entry_missing [] (suc i) le = refl
entry_missing (x ∷ exprs) zero le = absurd (omega arith)
entry_missing (x ∷ exprs) (suc i) le = entry_missing exprs i (omega arith)

module _ (f : Func) (T : Types) where
  no_exits : (l : ℕ) (tys : List IrType) → exits_from f T l tys [] ≡ []
  no_exits l [] = refl
  no_exits l (ty ∷ tys) = refl

  with_more : (c : Bool) (e : Exit) (es : List Exit) → (if c then e ∷ es else es) ≡ (if c then e ∷ [] else []) ++ es
  with_more true e es = refl
  with_more false e es = refl

  -- the exit of the first result, and those of the others
  pub exits_next : (l : ℕ) (ty : IrType) (tys : List IrType) (es : List (Option Polynomial))
      → exits_from f T l (ty ∷ tys) es ≡ exit_if f T l ty (first_entry es) ++ exits_from f T (l + 1) tys (drop 1 es)
  exits_next l ty tys [] = sym (no_exits (l + 1) tys)
  exits_next l ty tys (None ∷ es) = refl
  exits_next l ty tys (Some p ∷ es) = with_more (fits f T l ty p) (record { result = l; ty = ty; expr = p }) (exits_from f T (l + 1) tys es)

  next_drop : (i : ℕ) (es : List (Option Polynomial)) → drop 1 (drop i es) ≡ drop (i + 1) es
  next_drop zero [] = refl
  next_drop zero (e ∷ es) = refl
  next_drop (suc i) [] = let n : suc (i + 1) ≡ suc i + 1 = omega arith in ap (λ z. drop z []) n
  next_drop (suc i) (e ∷ es) = let n : suc (i + 1) ≡ suc i + 1 = omega arith in next_drop i es ∙ ap (λ z. drop z (e ∷ es)) n

  pub exits_step : (l i : ℕ) (ty : IrType) (tys : List IrType) (es : List (Option Polynomial)) → i < length tys → ty ≡ get_or tys i ty
      → exits_from f T l (drop i tys) (drop i es) ≡ exit_if f T l ty (first_entry (drop i es)) ++ exits_from f T (l + 1) (drop (i + 1) tys) (drop (i + 1) es)
  exits_step l i ty tys es lt is =
      let n : suc i ≡ i + 1 = omega arith in
      (λ j. exits_from f T l ((drop-cons tys i ty lt ∙ (λ k. sym is k ∷ drop (n k) tys)) j) (drop i es))
      ∙ exits_next l ty (drop (i + 1) tys) (drop i es) ∙ (λ j. exit_if f T l ty (first_entry (drop i es)) ++ exits_from f T (l + 1) (drop (i + 1) tys) (next_drop i es j))

  -- one more was chosen
  pub chosen_step : (all : List Exit) (found more : List Chosen) (one : Option Chosen) (l i : ℕ) (ty : IrType) (tys : List IrType) (es : List (Option Polynomial)) → i < length tys → ty ≡ get_or tys i ty
      → chosen_exits one ≡ exit_if f T l ty (first_entry (drop i es)) → exits_in more ≡ exits_in found ++ chosen_exits one
      → exits_in found ++ exits_from f T l (drop i tys) (drop i es) ≡ all → exits_in more ++ exits_from f T (l + 1) (drop (i + 1) tys) (drop (i + 1) es) ≡ all
  chosen_step all found more one l i ty tys es lt is c m h =
      let rest = exits_from f T (l + 1) (drop (i + 1) tys) (drop (i + 1) es) in
      ap (λ (x : List Exit). x ++ rest) m ∙ append_assoc (exits_in found) (chosen_exits one) rest
      ∙ ap (λ (x : List Exit). exits_in found ++ x) (ap (λ (x : List Exit). x ++ rest) c ∙ sym (exits_step l i ty tys es lt is)) ∙ h

mapped : (found : List Chosen) (one : Chosen) → exits_in (found ++ one ∷ []) ≡ exits_in found ++ exit_of one ∷ []
mapped [] one = refl
mapped (c ∷ found) one = ap (λ (es : List Exit). exit_of c ∷ es) (mapped found one)

pub one_more : (found more : List Chosen) (one : Chosen) → more ≡ found ++ one ∷ [] → exits_in more ≡ exits_in found ++ exit_of one ∷ []
one_more found more one e = ap exits_in e ∙ mapped found one

pub none_more : (found : List Chosen) → exits_in found ≡ exits_in found ++ []
none_more found = sym (append-nil (exits_in found))

-- ---- the results of a loop that were passed

-- those chosen so far, and those from result i on, which has the label `at`, are all
pub record AreChosenSoFar (f : Func) (t : ℕ) (o : Operation) (exprs : List (Option Expr)) (found : List Chosen) (at i : ℕ) : Type 0 where
  pub all : InScope f t (λ T. exits_in found ++ exits_from f T at (drop i o.results) (drop i (entries exprs)) ≡ exits f T t o (entries exprs))

module _ (f : Func) (t : ℕ) (o : Operation) (exprs : List (Option Expr)) where
  pub none_so_far : (found : List Chosen) (at : ℕ) → found ≡ [] → at ≡ t + inner_labels o.kind → AreChosenSoFar f t o exprs found at 0
  none_so_far found at none here = record {
    all = record { there = λ T now. (λ j. exits_in (none j) ++ exits_from f T (here j) o.results (entries exprs)) };
  }

  pub all_so_far : (found : List Chosen) (at i : ℕ) → length o.results ≤ i → AreChosenSoFar f t o exprs found at i → InScope f t (λ T. exits_in found ≡ exits f T t o (entries exprs))
  all_so_far found at i le h = record {
    there = λ T now.
        none_more found ∙ ap (λ (x : List Exit). exits_in found ++ x) (sym (ap (λ tys. exits_from f T at tys (drop i (entries exprs))) (drop_all i o.results le)))
        ∙ h.all.there T now;
  }

  module _ (found : List Chosen) (at i : ℕ) (ty : IrType) (lt : i < length o.results) (is : ty ≡ get_or o.results i ty) (h : AreChosenSoFar f t o exprs found at i) where
    abbrev exit_at : Polynomial → Exit
    exit_at p = record { result = at; ty = ty; expr = p }

    -- the result has no expression
    pub none_next : (next : ℕ) → next ≡ at + 1 → None ≡ first_entry (drop i (entries exprs)) → AreChosenSoFar f t o exprs found next (i + 1)
    none_next next e none = record {
      all = record {
        there = λ T now.
            (λ j. exits_in found ++ exits_from f T (e j) (drop (i + 1) o.results) (drop (i + 1) (entries exprs)))
            ∙ chosen_step f T (exits f T t o (entries exprs)) found found None at i ty o.results (entries exprs) lt is (ap (exit_if f T at ty) none) (none_more found) (h.all.there T now);
      };
    }

    module _ (p : Polynomial) (there : Some p ≡ first_entry (drop i (entries exprs))) (b : Bool) (fit : InScope f t (λ T. b ≡ fits f T at ty p)) where
      -- it doesn't fit
      pub left_out : (next : ℕ) → next ≡ at + 1 → b ≡ false → AreChosenSoFar f t o exprs found next (i + 1)
      left_out next e out = record {
        all = record {
          there = λ T now.
              (λ j. exits_in found ++ exits_from f T (e j) (drop (i + 1) o.results) (drop (i + 1) (entries exprs)))
              ∙ chosen_step f T (exits f T t o (entries exprs)) found found None at i ty o.results (entries exprs) lt is
              (ap (λ (c : Bool). if c then exit_at p ∷ [] else []) (sym out ∙ fit.there T now) ∙ ap (exit_if f T at ty) there) (none_more found) (h.all.there T now);
        };
      }

      -- it fits
      pub taken : (one : Chosen) (more : List Chosen) (next : ℕ) → next ≡ at + 1 → b ≡ true → more ≡ found ++ one ∷ [] → exit_of one ≡ exit_at p → AreChosenSoFar f t o exprs more next (i + 1)
      taken one more next e in_it pushed same = record {
        all = record {
          there = λ T now.
              (λ j. exits_in more ++ exits_from f T (e j) (drop (i + 1) o.results) (drop (i + 1) (entries exprs)))
              ∙ chosen_step f T (exits f T t o (entries exprs)) found more (Some one) at i ty o.results (entries exprs) lt is
              (ap (λ (x : Exit). x ∷ []) same ∙ ap (λ (c : Bool). if c then exit_at p ∷ [] else []) (sym in_it ∙ fit.there T now) ∙ ap (exit_if f T at ty) there)
              (one_more found more one pushed) (h.all.there T now);
        };
      }

-- an exit whose expression is a copy
pub exit_is : (at : ℕ) (ty : IrType) (e : Expr) (p : Polynomial) → polynomial_of e.tree ≡ p
    → exit_of (record { result = record { 0 = at }; ty = ty; expr = e }) ≡ record { result = at; ty = ty; expr = p }
exit_is at ty e p same = λ j. record { result = at; ty = ty; expr = same j }

pub no_exits_in : (found : List Chosen) → (length found == 0) ≡ true → exits_in found ≡ []
no_exits_in [] e = refl
no_exits_in (c ∷ found) e = let n = eqb-true (length (c ∷ found)) 0 e in absurd (omega (arith, n))

pub some_exits_in : (found : List Chosen) → (length found == 0) ≡ false → exits_in found ≢ []
some_exits_in [] e none = cc
some_exits_in (c ∷ found) e none = cc
