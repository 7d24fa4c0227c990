-- Exit values behind a loop are typed, and each use of a result has a value of the same type.
use Rattle.std.proofs.Common.{◌≡◌, ℕ, ◌+◌, ◌/◌, ◌<◌, true, inl, inr, List, [], ◌∷◌, ◌++◌, Option, Some, None, refl, ap, ◌∙◌, sym, subst, arith}
use Rattle.std.specs.Option.{is_some, option_or}
use Rattle.mlir_ir.specs.Operations.{nil, next, labels_of, inner_labels}
use Rattle.mlir_ir.specs.Typed.{Types, TypedOp, TypedOps, TypedRegions, typed_from, with_types, types_after}
use Rattle.mlir_ir.specs.declared.types.IrType.{IrType}
use Rattle.pass_copy.specs.Built.{moved}
use Rattle.pass_copy.specs.Renamed.{keep, names_of}
use Rattle.pass_copy.specs.Renaming.{renamed}
use Rattle.pass_copy.specs.Replaced.{Operation, op_labels, item_end}
use Rattle.pass_copy.specs.declared.renaming.Span.{Span}
use Rattle.pass_copy.proofs.Bindings.{same_or}
use Rattle.pass_copy.proofs.CarriedTypes.{Carries, Below, below_known, below_more, below_with, typed_there, carries_with, with_keeps, after_keeps}
use Rattle.pass_copy.proofs.CopiedOps.{ops_kept}
use Rattle.pass_copy.proofs.JoinedOps.{typed_joined, after_joined}
use Rattle.pass_copy.proofs.TypedChildren.{KeepsOthers}
use Rattle.pass_copy.proofs.TypedRenamed.{ops_kept as typed_kept}
use Rattle.pass_copy.proofs.TypedReplaced.{KeepsTypes}
use Rattle.pass_expand.specs.Expanded.{expansion, expansion_end}
use Rattle.pass_expand.proofs.ScopedSymbols.{expands_symbols}
use Rattle.pass_expand.proofs.TypedExpansions.{expansion_typed, end_known, expansion_below}
use Rattle.pass_indvar.specs.Exits.{Exit, exit_ops, exit_links, exit_spans, with_exits}
use Rattle.pass_indvar.proofs.ChosenExits.{AreChosen}
use Rattle.pass_indvar.proofs.ExitMeanings.{exits_before, exits_move, exits_behind}
use Rattle.pass_indvar.proofs.ExitScopes.{next_at, next_is, here_link, other_link}
use Rattle.pass_unroll.proofs.LoopLabels.{moved_before}

some_known : (o : Option IrType) (ty : IrType) → o ≡ Some ty → is_some o ≡ true
some_known o ty e = ap is_some e

abbrev type_or : IrType → Option IrType → IrType
type_or ty None = ty
type_or ty (Some other) = other

same_some : (o : Option IrType) (a b : IrType) → o ≡ Some a → o ≡ Some b → a ≡ b
same_some o a b e q = ap (λ (x : Option IrType). type_or a x) (sym e ∙ q)

module _ (fresh : ℕ → List ℕ) (T : Types) where
  -- the scope S has what T has
  abbrev Has : Types → Type 0
  Has S = (l : ℕ) (ty : IrType) → T l ≡ Some ty → S l ≡ Some ty

  has_after : (S : Types) (k at : ℕ) (e : Exit) → Has S → Has (types_after S at (expansion fresh e.ty k at e.expr))
  has_after S k at e h l ty q = let s = h l ty q in after_keeps S at (expansion fresh e.ty k at e.expr) l (some_known (S l) ty s) ∙ s

  pub exits_typed : (U : Types) (l end k at : ℕ) (es : List Exit) (S : Types) → AreChosen T U l end es → Has S → Below at S → TypedOps S at (exit_ops fresh k at es)
  exits_typed U l end k at [] S h has b = tt
  exits_typed U l end k at (e ∷ es) S h has b =
      let ops = expansion fresh e.ty k at e.expr in
      let rest = exit_ops fresh (k + names_of ops) (at + labels_of ops) es in
      let symbols = expands_symbols T e.ty e.expr h.0.expanded in
      typed_joined S at ops rest (expansion_typed fresh e.ty S k at e.expr b (λ x s. has (x / 2) e.ty (symbols x s).1))
      (exits_typed U (e.result + 1) end (k + names_of ops) (at + labels_of ops) es (types_after S at ops) h.1 (has_after S k at e has) (expansion_below fresh e.ty S k at e.expr b))

  -- a value with a type has one of this type under the label that it gets
  pub exits_carry : (tail : List Span) (U : Types) (l end k at : ℕ) (es : List Exit) (S : Types) (y : ℕ) (ty : IrType) → AreChosen T U l end es → Below at S → S y ≡ Some ty
      → renamed tail y ≡ y → ((other : IrType) → U y ≡ Some other → other ≡ ty) → types_after S at (exit_ops fresh k at es) (renamed (exit_links at es ++ tail) y) ≡ Some ty
  exits_carry tail U l end k at [] S y ty h b typed stays one = ap S stays ∙ typed
  exits_carry tail U l end k at (e ∷ es) S y ty h b typed stays one =
      let ops = expansion fresh e.ty k at e.expr in
      let rest = exit_ops fresh (k + names_of ops) (at + labels_of ops) es in
      let S2 = types_after S at ops in
      let links = exit_links (next_at at e) es ++ tail in
      let joined_types = λ (z : ℕ). ap (λ (X : Types). X z) (after_joined S at ops rest) in
      elim (same_or e.result y) [
        | inl q ↦
            let v = expansion_end at e.expr in
            let known = end_known fresh e.ty S k at e.expr b in
            let same : e.ty ≡ ty = one e.ty (ap U (sym q) ∙ h.0.typed) in
            joined_types (renamed (exit_links at (e ∷ es) ++ tail) y)
            ∙ ap (types_after S2 (at + labels_of ops) rest) (here_link tail at e es y q)
            ∙ after_keeps S2 (at + labels_of ops) rest v (some_known (S2 v) e.ty known) ∙ known ∙ ap Some same
        | inr ne ↦
            let n = next_is fresh k at e in
            joined_types (renamed (exit_links at (e ∷ es) ++ tail) y)
            ∙ ap (types_after S2 (at + labels_of ops) rest) (other_link tail at e es y ne ∙ ap (λ z. renamed (exit_links z es ++ tail) y) n)
            ∙ exits_carry tail U (e.result + 1) end (k + names_of ops) (at + labels_of ops) es S2 y ty h.1 (expansion_below fresh e.ty S k at e.expr b)
            (after_keeps S at ops y (some_known (S y) ty typed) ∙ typed) stays one
      ]

known_some : (o : Option IrType) → is_some o ≡ true → (ty : IrType) × (o ≡ Some ty)
known_some None e = cc
known_some (Some ty) e = (ty, refl)

-- a loop with exit values keeps the types of what is behind it
module _ (fresh : ℕ → List ℕ) (t : ℕ) (o : Operation) (es : List Exit) (T : Types)
    (chosen : AreChosen T (typed_from (t + inner_labels o.kind) o.results) (t + inner_labels o.kind) (t + op_labels o) es) (whole : t + op_labels o < item_end t)
    (same_end : item_end (t + op_labels o) ≡ item_end t) where
  abbrev f : ℕ → ℕ
  f = renamed (exit_spans fresh t o es)

  abbrev res : ℕ
  res = t + inner_labels o.kind

  abbrev at : ℕ
  at = t + op_labels o

  abbrev U : Types
  U = typed_from res o.results

  module _ (S S' : Types) (same : S ≡ T) (low : Below t S) (carries : Carries f S S') (low' : Below t S') where
    own : Carries (renamed []) S S'
    own l known =
        let lt = below_known S t l low known in
        ap S' (sym (exits_before fresh t o es T chosen whole same_end l lt)) ∙ carries l known

    abbrev W' : Types
    W' = with_types S' res o.results

    has_all : Has fresh T W'
    has_all l ty q =
        let s : S l ≡ Some ty = ap (λ (X : Types). X l) same ∙ q in
        let s' = own l (some_known (S l) ty s) ∙ s in
        with_keeps S' res o.results l (some_known (S' l) ty s') ∙ s'

    below_all : Below at W'
    below_all = below_with t res at o.results S' low' (omega arith) (omega arith)

    seg_typed : TypedOp S o.packs o.results o.kind → TypedRegions S t o.results o.kind → TypedOps S' t (with_exits fresh t o es)
    seg_typed op regions =
        let alone = next o.packs o.results o.kind nil in
        let one = subst (TypedOps S' t) (ops_kept 0 alone) (typed_kept (renamed []) keep S S' t t 0 alone own low' (λ l low high. refl) (op, regions, tt)) in
        (one.0, one.1, exits_typed fresh T U res at 0 at es W' chosen has_all below_all)

    behind_carried : Carries f (with_types S res o.results) (types_after S' t (with_exits fresh t o es))
    behind_carried y known =
        let p = known_some (with_types S res o.results y) known in
        let w' : W' y ≡ Some p.0 = carries_with (renamed []) S S' res res o.results own (below_more t res S' (omega arith) low') (λ l low high. refl) y known ∙ p.1 in
        let lt = below_known W' at y below_all (some_known (W' y) p.0 w') in
        exits_carry fresh T (moved at (t + labels_of (with_exits fresh t o es)) ∷ []) U res at 0 at es W' y p.0 chosen below_all w'
        (moved_before at (t + labels_of (with_exits fresh t o es)) y lt)
        (λ other q.
        let there = typed_there res o.results y (some_known (U y) other q) in
        let result : W' y ≡ U y = ap (λ z. option_or z (U y)) (low' y (omega (arith, there.0))) in
        same_some (W' y) other p.0 (result ∙ q) w')
        ∙ sym p.1

  pub exit_types : KeepsTypes (λ now. now ≡ T) f t (with_exits fresh t o es) (item_end t) o
  exit_types = record {
    before = exits_before fresh t o es T chosen whole same_end;
    moves = exits_move fresh t o es T chosen whole same_end;
    typed = λ S S' same low carries low' op regions. (seg_typed S S' same low carries low' op regions, behind_carried S S' same low carries low');
  }

  pub exit_others : KeepsOthers f t
  exit_others = record { before = exits_before fresh t o es T chosen whole same_end; after = exits_behind fresh t o es T chosen whole same_end }
