-- Copies of operations without a product, operation by operation.
use Rattle.std.proofs.Common.{◌≡◌, ℕ, suc, ◌+◌, ◌==◌, ◌&&◌, ◌||◌, ◌<◌, ◌≤◌, Bool, true, false, drop, List, [], ◌∷◌, ◌++◌, length, get_or, if◌then◌else◌, refl, ap, ◌∙◌, sym, arith}
use Rattle.std.proofs.Math.Seq.{drop-cons}
use Rattle.std.proofs.lemmas.List.{drop_all}
use Rattle.mlir_ir.specs.Operations.{OpList, nil, next, inner_labels, joined}
use Rattle.mlir_ir.specs.View.{view_kind, view_ops}
use Rattle.mlir_ir.specs.declared.types.Op.{Op}
use Rattle.pass_copy.specs.Places.{operation_in}
use Rattle.pass_copy.specs.Copied.{HaveGiven, naming}
use Rattle.pass_copy.specs.Renamed.{keep, inner_names, names_of, rename_kind, rename_ops, rename_packs}
use Rattle.pass_copy.specs.Replaced.{Operation}
use Rattle.pass_copy.specs.declared.names.Names.{Names}
use Rattle.pass_copy.proofs.BuiltBehind.{view_pushed}
use Rattle.pass_copy.proofs.CopiedOps.{naming_kept}
use Rattle.pass_copy.proofs.JoinedOps.{joined_nil, joined_assoc}
use Rattle.pass_indvar.proofs.PartedOps.{joined_renamed}
use Rattle.pass_indvar.specs.Grown.{IsPushedUnless, alone, leaves, unless}
use Rattle.pass_indvar.specs.Reductions.{is_product, without}

-- what is left to copy
abbrev left_in : Bool → ℕ → ℕ → OpList → OpList
left_in done l at ops = if done then ops else without l at ops

by_test : (b : Bool) (o : Operation) (rest later : OpList)
    → (if b then rest else next o.packs o.results o.kind later) ≡ joined (unless b (alone o)) (if b then rest else later)
by_test true o rest later = refl
by_test false o rest later = refl

left_parts : (done : Bool) (l at : ℕ) (o : Operation) (rest : OpList)
    → left_in done l at (next o.packs o.results o.kind rest)
    ≡ joined (unless (leaves done o.kind at l) (alone o)) (left_in (done || leaves done o.kind at l) l (at + (inner_labels o.kind + length o.results)) rest)
left_parts true l at o rest = refl
left_parts false l at o rest = by_test (is_product o.kind && (at == l)) o rest (without l (at + (inner_labels o.kind + length o.results)) rest)

nothing : (done : Bool) (l at : ℕ) → left_in done l at nil ≡ nil
nothing true l at = refl
nothing false l at = refl

-- what was copied, with what is left, is the whole
pub record IsLeftCopied (f : ℕ → ℕ) (l start : ℕ) (all : List Op) (made : List Op) (names : Names) (done : Bool) (at : ℕ) (ops : List Op) : Type 0 where
  pub whole : joined (view_ops made) (rename_ops f keep names.given (left_in done l at (view_ops ops))) ≡ rename_ops f keep 0 (without l start (view_ops all))
  pub kept : names.kept ≡ true

module _ (f : ℕ → ℕ) (l start : ℕ) (all : List Op) where
  pub copied_first : (made : List Op) (names : Names) → made ≡ [] → names.given ≡ 0 → names.kept ≡ true → IsLeftCopied f l start all made names false start all
  copied_first made names none given kept = record {
    whole = λ j. joined (view_ops (none j)) (rename_ops f keep (given j) (without l start (view_ops all)));
    kept = kept;
  }

  pub copied_next : (made more : List Op) (names after : Names) (done : Bool) (at at2 i : ℕ) (op : Op) → i < length all → op ≡ get_or all i op → at2 ≡ at + inner_labels (view_kind op.kind) + length op.results
      → IsPushedUnless f (leaves done (view_kind op.kind) at l) (operation_in op) made names more after
      → IsLeftCopied f l start all made names done at (drop i all)
      → IsLeftCopied f l start all more after (done || leaves done (view_kind op.kind) at l) at2 (drop (i + 1) all)
  copied_next made more names after done at at2 i op lt is to p h =
      let n : suc i ≡ i + 1 = omega arith in
      let o = operation_in op in
      let out = leaves done (view_kind op.kind) at l in
      let now = unless out (alone o) in
      let a : at2 ≡ at + (inner_labels (view_kind op.kind) + length op.results) = omega (arith, to) in
      let rest = left_in (done || out) l (at + (inner_labels (view_kind op.kind) + length op.results)) (view_ops (drop (i + 1) all)) in
      let left : drop i all ≡ op ∷ drop (i + 1) all = drop-cons all i op lt ∙ (λ j. sym is j ∷ drop (n j) all) in
      let parts : left_in done l at (view_ops (drop i all)) ≡ joined now rest = ap (λ xs. left_in done l at (view_ops xs)) left ∙ left_parts done l at o (view_ops (drop (i + 1) all)) in
      record {
        whole = (λ j. joined (p.ops j) (rename_ops f keep (p.given j) (left_in (done || out) l (a j) (view_ops (drop (i + 1) all)))))
            ∙ joined_assoc (view_ops made) (rename_ops f keep names.given now) (rename_ops f keep (names.given + names_of now) rest)
            ∙ ap (joined (view_ops made)) (sym (joined_renamed f keep names.given now rest) ∙ ap (rename_ops f keep names.given) (sym parts)) ∙ h.whole;
        kept = p.kept;
      }

  pub copied_all : (made : List Op) (names : Names) (done : Bool) (at i : ℕ) → length all ≤ i → IsLeftCopied f l start all made names done at (drop i all)
      → view_ops made ≡ rename_ops f keep 0 (without l start (view_ops all))
  copied_all made names done at i le h =
      let none : left_in done l at (view_ops (drop i all)) ≡ nil = ap (λ xs. left_in done l at (view_ops xs)) (drop_all i all le) ∙ nothing done l at in
      sym (joined_nil (view_ops made)) ∙ (λ j. joined (view_ops made) (rename_ops f keep names.given (sym none j))) ∙ h.whole

-- ---- one operation

module _ (f : ℕ → ℕ) (o : Operation) (made more : List Op) (names after : Names) (kept : names.kept ≡ true) where
  pub none_pushed : IsPushedUnless f true o made names made names
  none_pushed = record { ops = sym (joined_nil (view_ops made)); kept = kept; given = omega arith }

  pub one_pushed : (copied : Op) → more ≡ made ++ copied ∷ [] → HaveGiven names (inner_names o.kind + length o.packs) after
      → copied.packs ≡ rename_packs (naming names) (names.given + inner_names o.kind) o.packs → copied.results ≡ o.results
      → view_kind copied.kind ≡ rename_kind f (naming names) names.given o.kind → IsPushedUnless f false o made names more after
  one_pushed copied pushed given packs results kind =
      let keeps = naming_kept names kept in
      record {
        ops = ap view_ops pushed ∙ view_pushed made copied (rename_packs keep (names.given + inner_names o.kind) o.packs) o.results (rename_kind f keep names.given o.kind)
            (packs ∙ (λ j. rename_packs (keeps j) (names.given + inner_names o.kind) o.packs)) results (kind ∙ (λ j. rename_kind f (keeps j) names.given o.kind));
        kept = given.kept ∙ kept;
        given = let n = given.count in omega (arith, n);
      }

pub was_done : (done out now : Bool) → done ≡ true → now ≡ done → now ≡ (done || out)
was_done done out now d e = e ∙ d ∙ ap (λ (b : Bool). b || out) (sym d)

pub was_not_done : (done out now : Bool) → done ≡ false → now ≡ out → now ≡ (done || out)
was_not_done done out now d e = e ∙ ap (λ (b : Bool). b || out) (sym d)
