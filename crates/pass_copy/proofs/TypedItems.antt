-- Where other operations stand for a loop of one item, the items of the function stay well typed and named apart.
use Rattle.std.proofs.Common.{◌≡◌, ℕ, ◌+◌, ◌<◌, ◌≤◌, inl, inr, List, [], ◌∷◌, length, ap, ◌∙◌, sym, subst, arith, refl}
use Rattle.arith_word.specs.Labels.{label_at, item_count}
use Rattle.mlir_ir.specs.Limits.{label_limit}
use Rattle.mlir_ir.specs.Operations.{OpList, labels_of}
use Rattle.mlir_ir.specs.Typed.{Types, types_after, types_after_items, TypedItems}
use Rattle.mlir_ir.specs.Named.{Names, names_after, NamedItems}
use Rattle.pass_copy.specs.Replaced.{Operation, item_end, StandsInItems, replaced, replaced_items}
use Rattle.pass_copy.specs.Scopes.{ScopeInItems}
use Rattle.pass_copy.proofs.CarriedTypes.{Carries, Below, Moves, below_more, below_after}
use Rattle.pass_copy.proofs.NamedRenamed.{Unused, Apart, OldOps, unused_after, names_after_relabelled}
use Rattle.pass_copy.proofs.ItemPlaces.{ItemsFit, next_item, item_end_at, stands_behind}
use Rattle.pass_copy.proofs.UntouchedParts.{Away, stands, replaced_away, away_labels, moves_before}
use Rattle.pass_copy.proofs.TypedReplaced.{KeepsTypes, untouched_kept, found_ops}
use Rattle.pass_copy.proofs.NamedReplaced.{KeepsNames, untouched_named, found_named}

abbrev pub OldItems : (ℕ → List ℕ) → ℕ → List OpList → Type 0
OldItems fresh K [] = Unit {0}
OldItems fresh K (ops ∷ items) = OldOps fresh K ops × OldItems fresh K items

module _ (f : ℕ → ℕ) (t : ℕ) (seg : OpList) (func : ℕ) where
  below_item : (k : ℕ) (ops : OpList) (T : Types) → labels_of ops ≤ label_limit → Below (label_at func k 0) T → Below (label_at func (k + 1) 0) (types_after T (label_at func k 0) ops)
  below_item k ops T le b =
      below_more (label_at func k 0 + labels_of ops) (label_at func (k + 1) 0) (types_after T (label_at func k 0) ops) (let e = next_item func k (labels_of ops) le in omega arith)
      (below_after (label_at func k 0) ops T b)

  -- items from number k on, and others
  abbrev KeptItems : ℕ → List OpList → List OpList → Types → Types → Type 0
  KeptItems k items items' T T' = TypedItems T' func k items' × Carries f (types_after_items T func k items) (types_after_items T' func k items')

  -- items behind that of the loop
  after_typed : (k : ℕ) (items : List OpList) → t < label_at func k 0 → ((l : ℕ) → label_at func k 0 ≤ l → f l ≡ l) → (T T' : Types) → Below (label_at func k 0) T' → Carries f T T' → ItemsFit items
      → TypedItems T func k items → KeptItems k items (replaced_items f t seg func k items) T T'
  after_typed k [] lt un T T' b c fit h = (tt, c)
  after_typed k (ops ∷ items) lt un T T' b c fit h =
      let L = label_at func k 0 in
      let ops' = replaced f t seg L ops in
      let q : Away t L (labels_of ops) = inl lt in
      let e : labels_of ops' ≡ labels_of ops = away_labels f t seg ops L q in
      let le : labels_of ops' ≤ label_limit = omega (arith, fit.0) in
      let moves : Moves f L L (labels_of ops) = λ l x0 x1. ap (λ x. x + L) (un l x0) in
      let p = untouched_kept f t seg T T' L L ops q moves b c h.0 in
      let r = after_typed (k + 1) items (omega arith) (λ l x0. un l (omega arith)) (types_after T L ops) (types_after T' L ops') (below_item k ops' T' le b) p.1 fit.1 h.1 in
      ((p.0, r.0), r.1)

  module _ (Q : Types → Type 0) (o : Operation) where
    pub found_items : KeepsTypes Q f t seg (item_end t) o → ((l : ℕ) → item_end t ≤ l → f l ≡ l) → (k : ℕ) (items : List OpList) → StandsInItems t o func k items → k + length items ≤ item_count
        → (T T' : Types) → ScopeInItems t Q T func k items → Below (label_at func k 0) T → Carries f T T' → Below (label_at func k 0) T' → ItemsFit items → ItemsFit (replaced_items f t seg func k items) → TypedItems T func k items
        → KeptItems k items (replaced_items f t seg func k items) T T'
    found_items m un k [] s few T T' held b c b' fit fit' h = absurd s
    found_items m un k (ops ∷ items) (inl s) few T T' held b c b' fit fit' h =
        let L = label_at func k 0 in
        let ops' = replaced f t seg L ops in
        let g = stands t o ops L s in
        let n = next_item func k (labels_of ops) fit.0 in
        let e : item_end t ≡ label_at func (k + 1) 0 = item_end_at func k t (omega arith) g.begins (omega (arith, g.some, g.ends)) in
        let p = found_ops f t seg Q (item_end t) o m L ops s (omega arith) T T' held.0 b c b' h.0 in
        let r = after_typed (k + 1) items (omega (arith, g.some, g.ends)) (λ l x0. un l (omega arith)) (types_after T L ops) (types_after T' L ops') (below_item k ops' T' fit'.0 b') p.1 fit.1 h.1 in
        ((p.0, r.0), r.1)
    found_items m un k (ops ∷ items) (inr s) few T T' held b c b' fit fit' h =
        let L = label_at func k 0 in
        let ops' = replaced f t seg L ops in
        let low = stands_behind t o func (k + 1) items s in
        let n = next_item func k (labels_of ops) fit.0 in
        let q : Away t L (labels_of ops) = inr (omega arith) in
        let moves = moves_before f t m.before L L (labels_of ops) (omega arith) refl in
        let p = untouched_kept f t seg T T' L L ops q moves b' c h.0 in
        let r = found_items m un (k + 1) items s (omega arith) (types_after T L ops) (types_after T' L ops') held.1 (below_item k ops T fit.0 b) p.1 (below_item k ops' T' fit'.0 b') fit.1 fit'.1 h.1 in
        ((p.0, r.0), r.1)

  module _ (fresh : ℕ → List ℕ) (K : ℕ) where
    after_named : (k : ℕ) (items : List OpList) → t < label_at func k 0 → (N N' : Names) → Apart fresh K N N' → OldItems fresh K items → NamedItems N items
        → NamedItems N' (replaced_items f t seg func k items)
    after_named k [] lt N N' a v h = tt
    after_named k (ops ∷ items) lt N N' a v h =
        let L = label_at func k 0 in
        let p = untouched_named f t seg fresh K N N' L ops (inl lt) a v.0 h.0 in
        (p.0, after_named (k + 1) items (omega arith) (names_after N ops) (names_after N' (replaced f t seg L ops)) p.1 v.1 h.1)

    pub found_items_named : (o : Operation) → KeepsNames fresh K seg o → (k : ℕ) (items : List OpList) → StandsInItems t o func k items → ItemsFit items
        → (N : Names) → Unused fresh K 0 N → OldItems fresh K items → NamedItems N items → NamedItems N (replaced_items f t seg func k items)
    found_items_named o m k [] s fit N u v h = absurd s
    found_items_named o m k (ops ∷ items) (inl s) fit N u v h =
        let L = label_at func k 0 in
        let g = stands t o ops L s in
        let n = next_item func k (labels_of ops) fit.0 in
        let p = found_named f t seg fresh K o m L ops s N u v.0 h.0 in
        (p.0, after_named (k + 1) items (omega (arith, g.some, g.ends)) (names_after N ops) (names_after N (replaced f t seg L ops)) p.1 v.1 h.1)
    found_items_named o m k (ops ∷ items) (inr s) fit N u v h =
        let L = label_at func k 0 in
        let low = stands_behind t o func (k + 1) items s in
        let n = next_item func k (labels_of ops) fit.0 in
        let q : Away t L (labels_of ops) = inr (omega arith) in
        let e = untouched_named f t seg fresh K N N L ops q (λ n e x. x) v.0 h.0 in
        let u2 = unused_after fresh K 0 N ops u v.0 in
        let w : names_after N (replaced f t seg L ops) ≡ names_after N ops = ap (names_after N) (replaced_away f t seg ops L 0 q) ∙ names_after_relabelled f 0 N ops in
        (e.0, subst (λ M. NamedItems M (replaced_items f t seg func (k + 1) items)) (sym w) (found_items_named o m (k + 1) items s fit.1 (names_after N ops) u2 v.1 h.1))
