-- The events that keep a node, and that clear an id.
use Rattle.std.proofs.Common.{◌≡◌, ◌≢◌, ℕ, suc, ◌+◌, ◌<◌, List, [], ◌∷◌, ◌++◌, refl, ap, subst, inl, inr, arith}
use Rattle.step_core.specs.declared.view.View.{View}
use Rattle.step_core.specs.declared.view.Access.{Access}
use Rattle.step_core.specs.declared.view.Access.TheVariants.{Loaded, TriedKey, TriedId, TriedClear}
use Rattle.step_core.specs.declared.words.Place.TheVariants.{Key, Id}
use Rattle.step_core.specs.Answers.{put_found}
use Rattle.step_core.specs.Words.{id_of}
use Rattle.step_core.specs.Meaning.{Meaning}
use Rattle.shared_table.specs.declared.sizes.Sizes.{Sizes}
use Rattle.shared_table.specs.declared.answers.Node.{Node}
use Rattle.shared_table.specs.declared.answers.Kept.TheVariants.{At}
use Rattle.shared_table.specs.Made.{MakesAll}
use Rattle.shared_table.specs.Steps.{LoadsKey, LoadsId, PutsKey, PutsId, ClearsId}
use Rattle.shared_table.proofs.Probing.{makes_more}
use Rattle.memo.specs.Keys.{memo_place, key_of, word_of_id}
use Rattle.memo.specs.Seeking.{SeeksBy}
use Rattle.memo.specs.Keeping.{VisitsKey, VisitsBy, Passes, further, KeepsHere, KeepsHereBy, KeepsAt, Keeps}
use Rattle.memo.specs.Forgetting.{Forgets, ForgetsBy, ForgetsEach, next_label, ClearsBy}
use Rattle.memo.specs.declared.met.Met.{Met}
use Rattle.memo.specs.declared.met.Met.TheVariants.{Own}
use Rattle.memo.specs.declared.kept.KeptAs.{KeptAs}
use Rattle.memo.specs.declared.kept.KeptAs.TheVariants.{There, Kept, Crowded}

module _ (m : Meaning) where
  pub visit_once : (v w : View) (at n key : ℕ) → LoadsKey v at n w → n ≢ 0 → VisitsBy m v at key n w
  visit_once v w at n key l full = (Loaded (Key at) n ∷ [], (w, l, refl), inl (refl, full))

  pub visit_twice : (u v w : View) (at n other key now : ℕ) → LoadsKey u at n v → n ≡ 0 → PutsKey key v at other w → now ≡ put_found other key → VisitsBy m u at key now w
  visit_twice u v w at n other key now l none t is = (
    Loaded (Key at) n ∷ TriedKey at key other ∷ [],
    (v, l, (w, t, refl)),
    inr (other, ap (λ (x : ℕ). Loaded (Key at) x ∷ TriedKey at key other ∷ []) none, is),
  )

  -- visits of other keys, up to the k-th place
  abbrev pub Visited : Sizes → View → ℕ → ℕ → View → Type 0
  Visited z v key k w = (es : List Access) × MakesAll m v es w × Passes z.memo key k es

  pub one_visit : (z : Sizes) (u v w : View) (key k at now : ℕ) → at ≡ memo_place z.memo key k → Visited z u key k v → VisitsBy m v at key now w → now ≢ key → Visited z u key (k + 1) w
  one_visit z u v w key k at now is before here other = (
    before.0 ++ here.0,
    makes_more m u v w before.0 here.0 before.1 here.1,
    let up : suc k ≡ k + 1 = omega arith in
        subst (λ (x : ℕ). Passes z.memo key x (before.0 ++ here.0)) up (further k now before.0 here.0 before.2 (subst (λ (x : ℕ). VisitsKey x key now here.0) is here.2) other),
  )

  pub kept_at : (z : Sizes) (u v w y : View) (key k at now id : ℕ) (kept : KeptAs) → k < 8 → at ≡ memo_place z.memo key k → Visited z u key k v → VisitsBy m v at key now w → now ≡ key → KeepsHereBy m w at id kept y
      → (es : List Access) × MakesAll m u es y × KeepsAt z.memo key id kept es
  kept_at z u v w y key k at now id kept lt is before visit own here = (
    (before.0 ++ visit.0) ++ here.0,
    makes_more m u w y (before.0 ++ visit.0) here.0 (makes_more m u v w before.0 visit.0 before.1 visit.1) here.1,
    record {
      k = k;
      short = lt;
      before = before.0;
      visit = visit.0;
      here = here.0;
      all = refl;
      passed = before.2;
      visits = subst (λ (x : ℕ × ℕ). VisitsKey x.0 key x.1 visit.0) (λ i. (is i, own i)) visit.2;
      keeps = subst (λ (x : ℕ). KeepsHere x id kept here.0) is here.2;
    },
  )

  pub keeps_at : (size key id : ℕ) (kept : KeptAs) (es : List Access) → KeepsAt size key id kept es → Keeps size key id kept es
  keeps_at size key id (There n) es k = k
  keeps_at size key id (Kept a) es k = k
  keeps_at size key id Crowded es k = absurd k.keeps

  pub found_there : (v w : View) (at n id : ℕ) (node : Node) → LoadsId m v at n w → (n ≡ 0 → ⊥) → node.0 ≡ id_of n → KeepsHereBy m v at id (There node) w
  found_there v w at n id node l full is = (Loaded (Id at) n ∷ [], (w, l, refl), (n, full, is, inl refl))

  pub lost_there : (u v w : View) (at n other id word : ℕ) (node : Node) → LoadsId m u at n v → n ≡ 0 → PutsId m word v at other w → word ≡ word_of_id id → (other ≡ 0 → ⊥) → node.0 ≡ id_of other → KeepsHereBy m u at id (There node) w
  lost_there u v w at n other id word node l none t put full is = (
    Loaded (Id at) n ∷ TriedId at word other ∷ [],
    (v, l, (w, t, refl)),
    (other, full, is, inr (λ i. Loaded (Id at) (none i) ∷ TriedId at (put i) other ∷ [])),
  )

  pub won_there : (u v w : View) (at n found id word place : ℕ) → LoadsId m u at n v → n ≡ 0 → PutsId m word v at found w → word ≡ word_of_id id → found ≡ 0 → place ≡ at → KeepsHereBy m u at id (Kept (At place)) w
  won_there u v w at n found id word place l none t put won here = (
    Loaded (Id at) n ∷ TriedId at word found ∷ [],
    (v, l, (w, t, refl)),
    (here, λ i. Loaded (Id at) (none i) ∷ TriedId at (put i) (won i) ∷ []),
  )

  -- ---- clearings

  pub cleared : (v w : View) (at word n : ℕ) → (word ≡ 0 → ⊥) → ClearsId word v at n w → ClearsBy m v (Own at word) w
  cleared v w at word n full c = (TriedClear at word n ∷ [], (w, c, refl), (λ e. absurd (full e), λ _. (n, refl)))

  pub forgets : (z : Sizes) (u v w : View) (key : ℕ) (met : Met) → SeeksBy m z u key met v → ClearsBy m v met w → ForgetsBy m z u key w
  forgets z u v w key met s c = (s.0 ++ c.0, makes_more m u v w s.0 c.0 s.1 c.1, record { met = met; seen = s.0; cleared = c.0; all = refl; seeks = s.2; clears = c.2 })

  abbrev pub Cleared : Sizes → View → ℕ → ℕ → ℕ → View → Type 0
  Cleared z v version from n w = (es : List Access) × MakesAll m v es w × ForgetsEach z.memo version from n es

  pub one_label : (z : Sizes) (u v w : View) (version from n label : ℕ) → label ≡ from + n → Cleared z u version from n v → ForgetsBy m z v (key_of version label) w → Cleared z u version from (suc n) w
  one_label z u v w version from n label is before here = (
    before.0 ++ here.0,
    makes_more m u v w before.0 here.0 before.1 here.1,
    next_label n before.0 here.0 before.2 (subst (λ (x : ℕ). Forgets z.memo (key_of version x) here.0) is here.2),
  )
