-- A function in which results of a loop get their values from expressions means what it meant before.
use Rattle.std.proofs.Common.{◌≡◌, ℕ, ◌+◌, ◌<◌, ◌≤◌, ◌⊎◌, true, inl, inr, List, [], ◌∷◌, Option, refl, ◌∙◌, sym, subst, arith}
use Rattle.mlir_ir.specs.Check.{IsWellFormed}
use Rattle.mlir_ir.specs.Operations.{labels_of, inner_labels}
use Rattle.mlir_ir.specs.Places.{DoLabelsFit}
use Rattle.mlir_ir.specs.Typed.{Types, TypedOp, TypedRegions, typed_from}
use Rattle.mlir_ir.specs.declared.types.Func.{Func}
use Rattle.pass_copy.specs.Built.{moved}
use Rattle.pass_copy.specs.Fresh.{fresh_names}
use Rattle.pass_copy.specs.Meaning.{HasSameMeaning}
use Rattle.pass_copy.specs.Renaming.{renamed}
use Rattle.pass_copy.specs.Replaced.{Operation, op_labels, is_loop, item_end}
use Rattle.pass_copy.proofs.ItemPlaces.{in_item}
use Rattle.pass_copy.proofs.RenamedAlike.{Covers}
use Rattle.pass_copy.proofs.ReplacedAlike.{WorksFrom, WorksAt}
use Rattle.pass_copy.proofs.SameMeaning.{child_means_the_same}
use Rattle.pass_indvar.specs.Exits.{Exit, exits, exit_spans, with_exits, AreExits, HasExitValues, DoExitsHold}
use Rattle.pass_indvar.proofs.ChosenExits.{AreChosen, chosen_exits}
use Rattle.pass_indvar.proofs.ExitScopes.{links_outside}
use Rattle.pass_indvar.proofs.ExitWorks.{exit_works}
use Rattle.pass_indvar.proofs.StandingLoops.{loop_there}
use Rattle.pass_unroll.proofs.LoopLabels.{moved_before, moved_has, moved_behind}
use Rattle.scev_tree.specs.Polynomial.{Polynomial}

-- ---- labels

module _ (fresh : ℕ → List ℕ) (t : ℕ) (o : Operation) (es : List Exit) (T : Types)
    (chosen : AreChosen T (typed_from (t + inner_labels o.kind) o.results) (t + inner_labels o.kind) (t + op_labels o) es) (whole : t + op_labels o < item_end t)
    (same_end : item_end (t + op_labels o) ≡ item_end t) where
  abbrev at : ℕ
  at = t + op_labels o

  abbrev to : ℕ
  to = t + labels_of (with_exits fresh t o es)

  outside : (y : ℕ) → (y < t + inner_labels o.kind) ⊎ (at ≤ y) → renamed (exit_spans fresh t o es) y ≡ renamed (moved at to ∷ []) y
  outside y out = links_outside (moved at to ∷ []) T (typed_from (t + inner_labels o.kind) o.results) (t + inner_labels o.kind) at at es y chosen out

  pub exits_before : (y : ℕ) → y < t → renamed (exit_spans fresh t o es) y ≡ y
  exits_before y lt = outside y (inl (omega arith)) ∙ moved_before at to y (omega arith)

  pub exits_move : (y : ℕ) → at ≤ y → y < item_end t → renamed (exit_spans fresh t o es) y + op_labels o ≡ y + labels_of (with_exits fresh t o es)
  exits_move y le lt =
      let e = outside y (inr le) ∙ moved_has at to y le (omega (arith, same_end)) in
      omega (arith, e)

  pub exits_behind : (y : ℕ) → item_end t ≤ y → renamed (exit_spans fresh t o es) y ≡ y
  exits_behind y le = outside y (inr (omega arith)) ∙ moved_behind at to y (omega (arith, same_end)) (omega (arith, same_end))

-- ---- the meaning

pub exits_chosen : (f : Func) (t : ℕ) (o : Operation) (T : Types) (exprs : List (Option Polynomial))
    → AreChosen T (typed_from (t + inner_labels o.kind) o.results) (t + inner_labels o.kind) (t + op_labels o) (exits f T t o exprs)
exits_chosen f t o T exprs =
    chosen_exits T (typed_from (t + inner_labels o.kind) o.results) (t + op_labels o) f (t + inner_labels o.kind) o.results exprs (omega arith) (λ k le. refl)

works_there : (fresh : ℕ → List ℕ) (t : ℕ) (o : Operation) (es : List Exit) (T : Types) → is_loop o.kind ≡ true
    → AreChosen T (typed_from (t + inner_labels o.kind) o.results) (t + inner_labels o.kind) (t + op_labels o) es
    → WorksAt (λ now. now ≡ T) (AreExits es) (renamed (exit_spans fresh t o es)) 0 t o (with_exits fresh t o es)
works_there fresh t o es T loop chosen now ctx is typed inside covers below =
    let f = renamed (exit_spans fresh t o es) in
    subst (λ (U : Types). TypedOp U o.packs o.results o.kind → TypedRegions U t o.results o.kind → Covers f U ctx → WorksFrom (AreExits es) f 0 t o (with_exits fresh t o es) U ctx) (sym is)
    (λ typed2 inside2 covers2. exit_works fresh t o es T loop typed2 inside2 chosen ctx covers2 below) typed inside covers

pub exit_values_mean : (f child : Func) (t : ℕ) (exprs : List (Option Polynomial)) → IsWellFormed f → HasExitValues f t exprs child → DoLabelsFit child → DoExitsHold f t exprs
    → HasSameMeaning f child
exit_values_mean f child t exprs well is fit holds =
    let o = is.o in
    let T = is.scope in
    let fresh = fresh_names f in
    let es = exits f T t o exprs in
    let chosen = exits_chosen f t o T exprs in
    let item = in_item f well t o is.stands in
    let same_end = item.same_end (t + op_labels o) (omega arith) (omega (arith, item.whole)) in
    let loop = loop_there f t o is.stands in
    child_means_the_same (λ now. now ≡ T) (AreExits es) (renamed (exit_spans fresh t o es)) 0 t o (with_exits fresh t o es) f child (omega arith)
    (exits_before fresh t o es T chosen item.whole same_end) (exits_move fresh t o es T chosen item.whole same_end) (exits_behind fresh t o es T chosen item.whole same_end)
    (holds o T is.stands is.in_scope) (works_there fresh t o es T loop chosen) well is.stands is.in_scope is.is fit
