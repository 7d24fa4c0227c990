-- Each function has labels with which what is behind the tests of its loops begins.
use Rattle.std.proofs.Common.{◌≡◌, ℕ, ◌+◌, ◌<◌, ◌≤◌, nat_lt, List, [], ◌∷◌, length, refl, ◌∙◌, sym, arith, Option, Some, None, if◌then◌else◌}
use Rattle.std.proofs.lemmas.Bool.{lt-ltb, le-ltb}
use Rattle.arith_word.specs.Labels.{label_at}
use Rattle.mlir_ir.specs.Operations.{OpKind, Simple, If, For, While, OpList, nil, next, labels_of, inner_labels}
use Rattle.mlir_ir.proofs.SizedFunctions.{well_formed}
use Rattle.mlir_ir.specs.Check.{IsWellFormed}
use Rattle.mlir_ir.specs.Sized.{SizedItems}
use Rattle.mlir_ir.specs.View.{view_items}
use Rattle.mlir_ir.specs.WellFormed.{IsSizedBody}
use Rattle.mlir_ir.specs.declared.types.Body.{Body}
use Rattle.mlir_ir.specs.declared.types.Func.{Func}
use Rattle.fresh_scev.specs.Facts.{items_in}
use Rattle.fresh_scev.proofs.FittingLabels.{item_ends}
use Rattle.scev_soundness.specs.Counted.{IsSplit, IsSplitIn, IsSplitOf}

-- ---- the same labels

-- two maps agree on labels from `at` on
abbrev AreSame : (ℕ → ℕ) → (ℕ → ℕ) → ℕ → ℕ → Type 0
AreSame p q at end = (l : ℕ) → at ≤ l → l < end → p l ≡ q l

part : (p q : ℕ → ℕ) (at end a e : ℕ) → at ≤ a → e ≤ end → AreSame p q at end → AreSame p q a e
part p q at end a e lo hi h l le lt = h l (omega arith) (omega arith)

module _ (p q : ℕ → ℕ) where
  mutual
    same_split : (ops : OpList) (at : ℕ) → AreSame p q at (at + labels_of ops) → IsSplit p ops at → IsSplit q ops at
    same_split nil at h s = tt
    same_split (next packs results kind rest) at h s =
        let mid = at + (inner_labels kind + length results) in
        let end = at + labels_of (next packs results kind rest) in (
          same_split_in kind at (part p q at end at (at + inner_labels kind) (omega arith) (omega arith) h) s.0,
          same_split rest mid (part p q at end mid (mid + labels_of rest) (omega arith) (omega arith) h) s.1,
        )

    same_split_in : (kind : OpKind) (at : ℕ) → AreSame p q at (at + inner_labels kind) → IsSplitIn p kind at
        → IsSplitIn q kind at
    same_split_in (Simple does) at h s = tt
    same_split_in (If c first firsts has_else other others) at h s =
        let mid = at + labels_of first in
        let end = at + inner_labels (If c first firsts has_else other others) in (
          same_split first at (part p q at end at mid (omega arith) (omega arith) h) s.0,
          same_split other mid (part p q at end mid (mid + labels_of other) (omega arith) (omega arith) h) s.1,
        )
    same_split_in (For lower upper step iv args inits body ends) at h s =
        let in_body = at + 2 + length args in
        let end = at + inner_labels (For lower upper step iv args inits body ends) in (
          sym (h at (omega arith) (omega arith)) ∙ s.0,
          same_split body in_body (part p q at end in_body (in_body + labels_of body) (omega arith) (omega arith) h)
              s.1,
        )
    same_split_in (While args inits before passed cond after_args after ends) at h s =
        let in_before = at + 1 + length args in
        let params = in_before + labels_of before in
        let in_after = params + length after_args in
        let end = at + inner_labels (While args inits before passed cond after_args after ends) in (
          sym (h at (omega arith) (omega arith)) ∙ s.0,
          same_split before in_before (part p q at end in_before params (omega arith) (omega arith) h) s.1,
          same_split after in_after (part p q at end in_after (in_after + labels_of after) (omega arith)
              (omega arith) h) s.2,
        )

-- ---- two maps, for labels below m and from m on

join : ℕ → (ℕ → ℕ) → (ℕ → ℕ) → ℕ → ℕ
join m p q l = if nat_lt l m then p l else q l

join_low : (m at : ℕ) (p q : ℕ → ℕ) → AreSame p (join m p q) at m
unfolding join
join_low m at p q l le lt = rw (lt-ltb l m lt) refl

join_high : (m end : ℕ) (p q : ℕ → ℕ) → AreSame q (join m p q) m end
unfolding join
join_high m end p q l le lt = rw (le-ltb l m le) refl

-- ---- all operations have them

mutual
  pub ops_split : (ops : OpList) (at : ℕ) → (split : ℕ → ℕ) × IsSplit split ops at
  ops_split nil at = (λ l. 0, tt)
  ops_split (next packs results kind rest) at =
      let mid = at + (inner_labels kind + length results) in
      let a = kind_split kind at in
      let b = ops_split rest mid in
      let s = join mid a.0 b.0 in (
        s,
        (
          same_split_in a.0 s kind at (part a.0 s at mid at (at + inner_labels kind) (omega arith) (omega arith)
              (join_low mid at a.0 b.0)) a.1,
          same_split b.0 s rest mid (join_high mid (mid + labels_of rest) a.0 b.0) b.1,
        ),
      )

  kind_split : (kind : OpKind) (at : ℕ) → (split : ℕ → ℕ) × IsSplitIn split kind at
  kind_split (Simple does) at = (λ l. 0, tt)
  kind_split (If c first firsts has_else other others) at =
      let mid = at + labels_of first in
      let a = ops_split first at in
      let b = ops_split other mid in
      let s = join mid a.0 b.0 in (
        s,
        (
          same_split a.0 s first at (join_low mid at a.0 b.0) a.1,
          same_split b.0 s other mid (join_high mid (mid + labels_of other) a.0 b.0) b.1,
        ),
      )
  kind_split (For lower upper step iv args inits body ends) at =
      let in_body = at + 2 + length args in
      let end = in_body + labels_of body in
      let here : ℕ → ℕ = λ l. at + 1 in
      let b = ops_split body in_body in
      let s = join (at + 1) here b.0 in (
        s,
        (
          sym (join_low (at + 1) at here b.0 at (omega arith) (omega arith)),
          same_split b.0 s body in_body (part b.0 s (at + 1) end in_body end (omega arith) (omega arith)
              (join_high (at + 1) end here b.0)) b.1,
        ),
      )
  kind_split (While args inits before passed cond after_args after ends) at =
      let in_before = at + 1 + length args in
      let params = in_before + labels_of before in
      let in_after = params + length after_args in
      let end = in_after + labels_of after in
      let here : ℕ → ℕ = λ l. params in
      let a = ops_split before in_before in
      let b = ops_split after in_after in
      let inside = join params a.0 b.0 in
      let s = join (at + 1) here inside in
      let outer = join_high (at + 1) end here inside in (
        s,
        (
          sym (join_low (at + 1) at here inside at (omega arith) (omega arith)),
          same_split inside s before in_before
              (part inside s (at + 1) end in_before params (omega arith) (omega arith) outer)
              (same_split a.0 inside before in_before (join_low params in_before a.0 b.0) a.1),
          same_split inside s after in_after (part inside s (at + 1) end in_after end (omega arith) (omega arith) outer)
              (same_split b.0 inside after in_after
              (part b.0 inside params end in_after end (omega arith) (omega arith) (join_high params end a.0 b.0)) b.1),
        ),
      )

-- ---- items and functions

same_items : (p q : ℕ → ℕ) (func k : ℕ) (items : List OpList) → ((l : ℕ) → label_at func k 0 ≤ l → p l ≡ q l)
    → SizedItems items → IsSplitOf p func k items → IsSplitOf q func k items
same_items p q func k [] h sized s = tt
same_items p q func k (ops ∷ items) h sized s =
    let behind = item_ends func k ops sized.0.labels in (
      same_split p q ops (label_at func k 0) (λ l le lt. h l le) s.0,
      same_items p q func (k + 1) items (λ l le. h l (omega (arith, behind, le))) sized.1 s.1,
    )

items_split : (func k : ℕ) (items : List OpList) → SizedItems items → (split : ℕ → ℕ) × IsSplitOf split func k items
items_split func k [] sized = (λ l. 0, tt)
items_split func k (ops ∷ items) sized =
    let at = label_at func k 0 in
    let mid = label_at func (k + 1) 0 in
    let behind = item_ends func k ops sized.0.labels in
    let a = ops_split ops at in
    let b = items_split func (k + 1) items sized.1 in
    let s = join mid a.0 b.0 in (
      s,
      (
        same_split a.0 s ops at
            (part a.0 s at mid at (at + labels_of ops) (omega arith) (omega (arith, behind)) (join_low mid at a.0 b.0))
            a.1,
        same_items b.0 s func (k + 1) items (λ l le. join_high mid (l + 1) a.0 b.0 l le (omega arith)) sized.1 b.1,
      ),
    )

body_split : (func : ℕ) (body : Option Body) → IsSizedBody body
    → (split : ℕ → ℕ) × IsSplitOf split func 1 (items_in body)
body_split func None sized = (λ l. 0, tt)
body_split func (Some body) sized = items_split func 1 (view_items body.items) sized.inside

-- the items of a well-formed function
pub has_split : (f : Func) → IsWellFormed f → (split : ℕ → ℕ) × IsSplitOf split f.index 1 (items_in f.body)
has_split f well = body_split f.index f.body (well_formed f well).2.inside
