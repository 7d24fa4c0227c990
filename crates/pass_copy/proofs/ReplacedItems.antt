-- Items among which others stand for a loop keep pace with those of the parent.
use Rattle.std.proofs.Common.{◌≡◌, ℕ, ◌+◌, ◌<◌, ◌≤◌, List, [], ◌∷◌, length, inl, inr, refl, arith}
use Rattle.arith_word.specs.Labels.{label_at}
use Rattle.mlir_ir.specs.Operations.{OpList, labels_of}
use Rattle.mlir_ir.specs.Limits.{item_limit}
use Rattle.mlir_ir.specs.Typed.{Types, TypedItems, types_after, types_after_items}
use Rattle.mlir_ir.proofs.RunTraces.{prefix_self}
use Rattle.pass_copy.specs.Reported.{Claim}
use Rattle.pass_copy.specs.Replaced.{Operation, op_labels, item_end, StandsInItems, replaced, replaced_items}
use Rattle.pass_copy.specs.Scopes.{ScopeInItems}
use Rattle.pass_copy.proofs.RunEnds.{ends_ops, ends_items}
use Rattle.pass_copy.proofs.Claims.{after_done, items_claim}
use Rattle.pass_copy.proofs.Ahead.{Growing, grows_then, grows_ops, Dir, ahead_then, ahead_done}
use Rattle.pass_copy.proofs.Bindings.{Scope, Below, below_more}
use Rattle.pass_copy.proofs.AlikeOps.{Joined, KeepPace, AlikeOps}
use Rattle.pass_copy.proofs.Simulated.{sim_ops}
use Rattle.pass_copy.proofs.LoopRuns.{joined_le}
use Rattle.pass_copy.proofs.RenamedAlike.{Covers, AlikeFrom}
use Rattle.pass_copy.proofs.ItemPlaces.{ItemsFit, item_end_at, stands_behind}
use Rattle.pass_copy.proofs.ReplacedAlike.{WorksAt, stands, away_ops, replaced_ops}

-- items that are alike, from number i on; k units must be in hand
pub data AlikeItems (H : Claim) (func : ℕ) : ℕ → ℕ → Scope → List OpList → List OpList → Scope → Type 0 where
  no_items : {k i : ℕ} {ctx : Scope} → AlikeItems H func k i ctx [] [] ctx
  both_items : {k i : ℕ} {ctx ctx2 : Scope} {ops ops' : OpList} {items items' : List OpList} (k0 k1 : ℕ) (ctx1 : Scope) → k1 + k0 ≤ k
      → AlikeOps H k0 ctx (label_at func i 0) (label_at func i 0) ops ops' ctx1 → AlikeItems H func k1 (i + 1) ctx1 items items' ctx2
      → AlikeItems H func k i ctx (ops ∷ items) (ops' ∷ items') ctx2

grows_items : (func k : ℕ) (items : List OpList) (n : ℕ) → Growing (ends_items func k items n)
grows_items func k [] n env s = prefix_self s.trace
grows_items func k (ops ∷ items) n env s =
    grows_then s (ends_ops ops n (label_at func k 0) env s) (ends_items func (k + 1) items n) (grows_ops ops n (label_at func k 0) env s) (grows_items func (k + 1) items n)

pub sim_items : (H : Claim) (func : ℕ) {k i : ℕ} {ctx ctx1 : Scope} {items items' : List OpList} → AlikeItems H func k i ctx items items' ctx1
    → (d : Dir) (n n' : ℕ) → KeepPace d n n' k ctx ctx1 (items_claim H func i items n) (ends_items func i items n) (ends_items func i items' n')
sim_items H func (no_items {k} {i} {ctx}) d n n' B B' c env s env' s' le le' j h =
    ahead_done d (Joined ctx d B B' c) env s env' s' (joined_le ctx d B B' B B' c (c + k) env s env' s' (omega arith) (omega arith) (omega arith) j)
sim_items H func (both_items {k} {i} {ctx} {ctx2} {ops} {ops'} {items} {items'} k0 k1 ctx1 lk ao ai) d n n' B B' c env s env' s' le le' j h =
    let at = label_at func i 0 in
    ahead_then d (Joined ctx1 d B B' (c + k1)) (Joined ctx2 d B B' c) (ends_ops ops n at env s) (ends_ops ops' n' at env' s')
    (ends_items func (i + 1) items n) (ends_items func (i + 1) items' n')
    (sim_ops H ao d n n' B B' (c + k1) env s env' s' le le' (joined_le ctx d B B' B B' (c + k1 + k0) (c + k) env s env' s' (omega arith) (omega arith) (omega arith) j) h.0)
    (λ env1 s1 env1' s1' q q' j1. sim_items H func ai d n n' B B' c env1 s1 env1' s1' le le' j1 (after_done (ends_ops ops n at env s) (items_claim H func (i + 1) items n) env1 s1 q h.1))
    (grows_items func (i + 1) items n) (grows_items func (i + 1) items' n')

pub record ItemsFrom (H : Claim) (f : ℕ → ℕ) (func k i : ℕ) (T : Types) (ctx : Scope) (items items' : List OpList) : Type 0 where
  pub behind : Scope
  pub alike : AlikeItems H func k i ctx items items' behind
  pub covers : Covers f (types_after_items T func i items) behind

items_next : (H : Claim) (f : ℕ → ℕ) (func k k0 k1 i : ℕ) (T : Types) (ctx : Scope) (ops ops' : OpList) (items items' : List OpList) → k1 + k0 ≤ k
    → (a : AlikeFrom H f k0 T ctx (label_at func i 0) (label_at func i 0) ops ops') → ItemsFrom H f func k1 (i + 1) (types_after T (label_at func i 0) ops) a.behind items items'
    → ItemsFrom H f func k i T ctx (ops ∷ items) (ops' ∷ items')
items_next H f func k k0 k1 i T ctx ops ops' items items' le a r = record { behind = r.behind; alike = both_items k0 k1 a.behind le a.alike r.alike; covers = r.covers }

-- f keeps the labels in front of the loop and those of the next items, and moves those between
module _ (Q : Types → Type 0) (H : Claim) (f : ℕ → ℕ) (k t : ℕ) (o : Operation) (others : OpList) (func : ℕ) (few : k ≤ 31) (stays : (y : ℕ) → y < t → f y ≡ y)
    (moves : (y : ℕ) → t + op_labels o ≤ y → y < item_end t → f y + op_labels o ≡ y + labels_of others)
    (beyond : (y : ℕ) → item_end t ≤ y → f y ≡ y) (works : WorksAt Q H f k t o others) where
  items_behind : (items : List OpList) (i : ℕ) (T : Types) (ctx : Scope) → t < label_at func i 0 → item_end t ≤ label_at func i 0
      → TypedItems T func i items → ItemsFit items → ItemsFit (replaced_items f t others func i items) → Covers f T ctx → Below (label_at func i 0) (label_at func i 0) ctx
      → ItemsFrom H f func 0 i T ctx items (replaced_items f t others func i items)
  items_behind [] i T ctx lt le u w w' c b = record { behind = ctx; alike = no_items; covers = c }
  items_behind (ops ∷ items) i T ctx lt le u w w' c b =
      let at = label_at func i 0 in
      let n = labels_of ops in
      let a = away_ops Q H f k t o others (item_end t) few stays moves works ops 0 T ctx at at (inl lt) u.0 c b (λ y low high. let e = beyond y (omega arith) in omega arith) in
      let r = items_behind items (i + 1) (types_after T at ops) a.behind (omega arith) (omega arith) u.1 w.1 w'.1 a.covers
      (below_more (at + n) (at + labels_of (replaced f t others at ops)) (label_at func (i + 1) 0) (label_at func (i + 1) 0) a.behind (omega (arith, w.0)) (omega (arith, w'.0)) a.below) in
      items_next H f func 0 0 0 i T ctx ops (replaced f t others at ops) items (replaced_items f t others func (i + 1) items) (omega arith) a r

  -- the loop stands in one of the items
  pub replaced_alike : (items : List OpList) (i : ℕ) (T : Types) (ctx : Scope) → i + length items ≤ item_limit + 1 → StandsInItems t o func i items
      → ScopeInItems t Q T func i items → TypedItems T func i items → ItemsFit items → ItemsFit (replaced_items f t others func i items) → Covers f T ctx → Below (label_at func i 0) (label_at func i 0) ctx
      → ItemsFrom H f func 31 i T ctx items (replaced_items f t others func i items)
  replaced_alike [] i T ctx le s held u w w' c b = absurd s
  replaced_alike (ops ∷ items) i T ctx le (inl s) held u w w' c b =
      let at = label_at func i 0 in
      let q = stands t o ops at s in
      let end : item_end t ≡ label_at func (i + 1) 0 = item_end_at func i t (omega arith) q.begins (omega (arith, q.ends, q.some, w.0)) in
      let a = (replaced_ops Q H f k t o others (item_end t) few stays moves works ops T ctx at at refl s held.0 u.0 c b (omega (arith, w.0, end))).from in
      let r = items_behind items (i + 1) (types_after T at ops) a.behind (omega (arith, q.ends, q.some, w.0)) (omega (arith, end)) u.1 w.1 w'.1 a.covers
      (below_more (at + labels_of ops) (at + labels_of (replaced f t others at ops)) (label_at func (i + 1) 0) (label_at func (i + 1) 0) a.behind (omega (arith, w.0)) (omega (arith, w'.0)) a.below) in
      items_next H f func 31 31 0 i T ctx ops (replaced f t others at ops) items (replaced_items f t others func (i + 1) items) (omega arith) a r
  replaced_alike (ops ∷ items) i T ctx le (inr s) held u w w' c b =
      let at = label_at func i 0 in
      let n = labels_of ops in
      let q = stands_behind t o func (i + 1) items s in
      let a = away_ops Q H f k t o others (item_end t) few stays moves works ops 0 T ctx at at (inr (omega (arith, w.0))) u.0 c b
      (λ y low high. let e = stays y (omega (arith, w.0)) in omega arith) in
      let r = replaced_alike items (i + 1) (types_after T at ops) a.behind (omega arith) s held.1 u.1 w.1 w'.1 a.covers
      (below_more (at + n) (at + labels_of (replaced f t others at ops)) (label_at func (i + 1) 0) (label_at func (i + 1) 0) a.behind (omega (arith, w.0)) (omega (arith, w'.0)) a.below) in
      items_next H f func 31 0 31 i T ctx ops (replaced f t others at ops) items (replaced_items f t others func (i + 1) items) (omega arith) a r
