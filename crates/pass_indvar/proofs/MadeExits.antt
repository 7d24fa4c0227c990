-- The child with exit values, as it is made of what was built.
use Rattle.std.proofs.Common.{◌≡◌, ◌≢◌, ℕ, ◌+◌, Bool, true, false, List, [], ◌∷◌, ◌++◌, Option, ap, ◌∙◌, sym, subst, arith}
use Rattle.std.specs.Prelude.{nat_le}
use Rattle.mlir_ir.specs.Check.{IsWellFormed}
use Rattle.mlir_ir.specs.Limits.{label_limit}
use Rattle.mlir_ir.specs.Operations.{OpList, nil, next, labels_of, joined}
use Rattle.mlir_ir.specs.Reads.{plain_func}
use Rattle.mlir_ir.specs.Typed.{Types}
use Rattle.mlir_ir.specs.View.{view_ops}
use Rattle.mlir_ir.specs.declared.types.Func.{Func}
use Rattle.mlir_ir.proofs.LabelsFit.{labels_fit}
use Rattle.pass_copy.specs.Built.{IsBehind, fresh_at, moved}
use Rattle.pass_copy.specs.Fresh.{fresh_names}
use Rattle.pass_copy.specs.InScope.{InScope}
use Rattle.pass_copy.specs.ItemLabels.{DoesItemFit, item_labels}
use Rattle.pass_copy.specs.Meaning.{HasSameMeaning}
use Rattle.pass_copy.specs.Renaming.{renamed}
use Rattle.pass_copy.specs.Replaced.{Operation, op_labels, StandsAt, replaced_func}
use Rattle.pass_copy.specs.declared.building.Out.{Out}
use Rattle.pass_copy.specs.declared.renaming.Span.{Span}
use Rattle.pass_copy.proofs.AloneLoops.{alone_at_label}
use Rattle.pass_copy.proofs.ChildLabels.{child_labels_fit}
use Rattle.pass_copy.proofs.OneScope.{OneScope, one_scope, in_scope}
use Rattle.pass_expand.proofs.ScopedSymbols.{expands_plain}
use Rattle.pass_indvar.specs.Built.{ArePlain, IsLoopBehind}
use Rattle.pass_indvar.specs.Exits.{Exit, exits, exit_ops, exit_links, exit_spans, with_exits, HasExitValues, HasNoExitValues, DoExitsHold}
use Rattle.pass_indvar.proofs.ChosenExits.{AreChosen}
use Rattle.pass_indvar.proofs.ExitMeanings.{exits_chosen, exit_values_mean}
use Rattle.pass_unroll.proofs.LoopRooms.{room_fits, no_room}
use Rattle.scev_tree.specs.Polynomial.{Polynomial}

chosen_plain : (T U : Types) (l end : ℕ) (es : List Exit) → AreChosen T U l end es → ArePlain es
chosen_plain T U l end [] h = tt
chosen_plain T U l end (e ∷ es) h = (expands_plain T e.ty e.expr h.0.expanded, chosen_plain T U (e.result + 1) end es h.1)

module _ (f : Func) (well : IsWellFormed f) (t : ℕ) (o : Operation) (stands : StandsAt f t o) (exprs : List (Option Polynomial)) (es : List Exit)
    (found : InScope f t (λ T. es ≡ exits f T t o exprs)) where
  one : OneScope f t
  one = one_scope f t o well stands

  abbrev T : Types
  T = one.scope

  all : es ≡ exits f T t o exprs
  all = found.there T one.is

  pub found_plain : ArePlain es
  found_plain = subst ArePlain (sym all) (chosen_plain T _ _ _ (exits f T t o exprs) (exits_chosen f t o T exprs))

  -- no expression fits
  pub nothing_fits : es ≡ [] → HasNoExitValues f t exprs
  nothing_fits none other S there here =
      let same : o ≡ other = alone_at_label f (labels_fit f well) t o other stands there in
      ap (λ x. exits f S t x exprs) (sym same) ∙ sym (found.there S here) ∙ none

  -- what stands for the loop, by the fresh names
  abbrev spans : List Span
  spans = exit_spans (fresh_names f) t o es

  abbrev seg : OpList
  seg = with_exits (fresh_names f) t o es

  -- a child with exit values is this one
  same_child : (child : Func) → HasExitValues f t exprs child → plain_func child ≡ replaced_func (renamed spans) t seg f
  same_child child is =
      let same : is.o ≡ o = alone_at_label f (labels_fit f well) t is.o o is.stands stands in
      let scope : is.scope ≡ T = (in_scope f t (λ now. now ≡ T) o well stands one.is).there is.scope is.in_scope in
      let ours : exits f is.scope t is.o exprs ≡ es = (λ j. exits f (scope j) t (same j) exprs) ∙ sym all in
      is.is ∙ (λ j. replaced_func (renamed (exit_spans (fresh_names f) t (same j) (ours j))) t (with_exits (fresh_names f) t (same j) (ours j)) f)

  module _ (n : ℕ) (room : Bool) (count : n ≡ labels_of seg) (fits : room ≡ nat_le (item_labels f t + n) (label_limit + op_labels o)) where
    pub none_has_room : room ≡ false → (child : Func) → HasExitValues f t exprs child → DoesItemFit child t → ⊥
    none_has_room r child is =
        no_room f well t o stands t n room (λ j. t) fits (renamed spans) seg child count (same_child child is) r

    pub child_fits : (child : Func) → plain_func child ≡ replaced_func (renamed spans) t seg f → room ≡ true → DoesItemFit child t
    child_fits child is r = room_fits f well t o stands t n room (λ j. t) fits (renamed spans) seg child count is r

  pub child_is : (child : Func) → es ≢ [] → plain_func child ≡ replaced_func (renamed spans) t seg f → HasExitValues f t exprs child
  child_is child some is = record {
    o = o;
    stands = stands;
    scope = T;
    in_scope = one.is;
    some = λ none. some (all ∙ none);
    is = is ∙ (λ j. replaced_func (renamed (exit_spans (fresh_names f) t o (all j))) t (with_exits (fresh_names f) t o (all j)) f);
  }

pub made_means : (f child : Func) (t : ℕ) (exprs : List (Option Polynomial)) → IsWellFormed f → HasExitValues f t exprs child → DoesItemFit child t → DoExitsHold f t exprs → HasSameMeaning f child
made_means f child t exprs well is fit holds =
    let es = exits f is.scope t is.o exprs in
    let fits = child_labels_fit f well (renamed (exit_spans (fresh_names f) t is.o es)) t (with_exits (fresh_names f) t is.o es) is.o child is.stands is.is fit in
    exit_values_mean f child t exprs well is fits holds

-- ---- what was built

module _ (f : Func) (t : ℕ) (o : Operation) (es : List Exit) (out0 out1 out2 : Out) (at : out0.at ≡ t) (none : out0.ops.items ≡ []) (names : fresh_at out0 ≡ fresh_names f)
    (given : out0.fresh.given ≡ 0) (loop : IsLoopBehind out0 o out1) (more : IsBehind out1 (exit_ops (fresh_at out1) out1.fresh.given out1.at es) out2) where
  same_names : fresh_at out1 ≡ fresh_names f
  same_names = ap (λ (x : Out). fresh_at x) (λ j. record { ops = out0.ops; at = out0.at; fresh = loop.names j }) ∙ names

  begins : out1.at ≡ t + op_labels o
  begins = loop.at ∙ ap (λ n. n + op_labels o) at

  ops_are : exit_ops (fresh_at out1) out1.fresh.given out1.at es ≡ exit_ops (fresh_names f) 0 (t + op_labels o) es
  ops_are = λ j. exit_ops (same_names j) ((ap (λ x. x.given) loop.names ∙ given) j) (begins j) es

  pub built_ops : view_ops out2.ops.items ≡ with_exits (fresh_names f) t o es
  built_ops =
      more.ops ∙ (λ j. joined ((loop.ops ∙ (λ i. joined (view_ops (none i)) (next o.packs o.results o.kind nil))) j) (ops_are j))

  pub built_at : out2.at ≡ t + labels_of (with_exits (fresh_names f) t o es)
  built_at = let m = more.at in let b = begins in let s = ap labels_of ops_are in omega (arith, m, b, s)

  pub built_spans : (links made : List Span) → links ≡ [] ++ exit_links out1.at es → made ≡ links ++ moved out1.at out2.at ∷ [] → made ≡ exit_spans (fresh_names f) t o es
  built_spans links made are pushed =
      pushed ∙ (λ j. are j ++ moved out1.at out2.at ∷ []) ∙ (λ j. exit_links (begins j) es ++ moved (begins j) (built_at j) ∷ [])
