-- How many labels copies take, and what the labels of a loop get in them.
use Rattle.std.proofs.Common.{◌≡◌, ℕ, zero, suc, ◌+◌, ◌-◌, ◌*◌, ◌<◌, ◌≤◌, List, [], ◌∷◌, length, refl, ap, ◌∙◌, sym, arith}
use Rattle.arith_word.specs.declared.label.Label.{Label}
use Rattle.mlir_ir.specs.Operations.{labels_of}
use Rattle.pass_copy.specs.Renamed.{anew, names_of}
use Rattle.pass_copy.specs.Renaming.{span, renamed}
use Rattle.pass_copy.specs.declared.renaming.Span.{Span}
use Rattle.pass_copy.proofs.Ahead.{joined_labels}
use Rattle.pass_copy.proofs.RenamedAlike.{rename_labels, relabels_length}
use Rattle.pass_unroll.specs.Copies.{ForLoop, copy_spans, copy_ends, copy, full_copies, full_ends}
use Rattle.pass_copy.specs.Built.{label, labels_from}
use Rattle.pass_unroll.proofs.SpanLabels.{pick, span_has, span_before, links_before, links_behind, links_has}

pub labels_from_length : (start n : ℕ) → length (labels_from start n) ≡ n
labels_from_length start zero = refl
labels_from_length start (suc n) = ap suc (labels_from_length (start + 1) n)

module _ (fresh : ℕ → List ℕ) (t : ℕ) (o : ForLoop) where
  -- ---- one copy

  pub labels_copy : (k : ℕ) (variable : Label) (args : List Label) (at : ℕ) → labels_of (copy fresh t o k variable args at) ≡ labels_of o.body
  labels_copy k variable args at = rename_labels (renamed (copy_spans fresh t o variable args at)) (anew fresh) k o.body

  module _ (variable : Label) (args : List Label) (at : ℕ) where
    abbrev to : ℕ → ℕ
    to = renamed (copy_spans fresh t o variable args at)

    abbrev inside : List Span
    inside = span (t + 2 + length args) (labels_of o.body) at ∷ []

    pub copy_below : (l : ℕ) → l < t + 1 → to l ≡ l
    copy_below l h = links_before (t + 1) (variable ∷ args) inside l h ∙ span_before (t + 2 + length args) (labels_of o.body) at [] l (omega arith)

    -- the variable and the arguments
    pub copy_links : (i : ℕ) → i < length (variable ∷ args) → to (t + 1 + i) ≡ pick (variable ∷ args) i
    copy_links i h = links_has (t + 1) (variable ∷ args) inside i h

    pub copy_inside : (l : ℕ) → t + 2 + length args ≤ l → l < t + 2 + length args + labels_of o.body → to l ≡ l - (t + 2 + length args) + at
    copy_inside l low high =
        links_behind (t + 1) (variable ∷ args) inside l (omega arith) ∙ span_has (t + 2 + length args) (labels_of o.body) at [] l low high

    pub copy_ends_length : length (copy_ends fresh t o variable args at) ≡ length o.ends
    copy_ends_length = relabels_length to o.ends

  -- ---- copies in a row

  pub labels_full : (step n k at v : ℕ) (args : List Label) → labels_of (full_copies fresh t o step n k at v args) ≡ n * (1 + labels_of o.body)
  labels_full step zero k at v args = omega arith
  labels_full step (suc n) k at v args =
      let first = copy fresh t o (k + 1) (label at) args (at + 1) in
      let others = full_copies fresh t o step n (k + 1 + names_of o.body) (at + 1 + labels_of o.body) (v + step) (copy_ends fresh t o (label at) args (at + 1)) in
      let e = joined_labels first others in
      let e1 = labels_copy (k + 1) (label at) args (at + 1) in
      let e2 = labels_full step n (k + 1 + names_of o.body) (at + 1 + labels_of o.body) (v + step) (copy_ends fresh t o (label at) args (at + 1)) in
      omega arith

  pub full_ends_length : (n at : ℕ) (args : List Label) → length o.ends ≡ length args → length (full_ends fresh t o n at args) ≡ length args
  full_ends_length zero at args e = refl
  full_ends_length (suc n) at args e =
      let e1 = copy_ends_length (label at) args (at + 1) in
      full_ends_length n (at + 1 + labels_of o.body) (copy_ends fresh t o (label at) args (at + 1)) (sym e1) ∙ (e1 ∙ e)
