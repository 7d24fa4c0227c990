-- The events of a search for a key.
use Rattle.std.proofs.Common.{◌≡◌, ◌≢◌, ℕ, suc, ◌+◌, ◌<◌, List, [], ◌∷◌, ◌++◌, sym, refl, ap, subst, arith}
use Rattle.step_core.specs.declared.view.View.{View}
use Rattle.step_core.specs.declared.view.Access.{Access}
use Rattle.step_core.specs.declared.view.Access.TheVariants.{Loaded}
use Rattle.step_core.specs.declared.words.Place.TheVariants.{Key, Id}
use Rattle.step_core.specs.Meaning.{Meaning}
use Rattle.shared_table.specs.declared.sizes.Sizes.{Sizes}
use Rattle.shared_table.specs.Made.{MakesAll}
use Rattle.shared_table.specs.Steps.{LoadsKey, LoadsId}
use Rattle.shared_table.proofs.Probing.{makes_more}
use Rattle.memo.specs.Seeking.{Others, further, SeeksBy}
use Rattle.memo.specs.declared.met.Met.TheVariants.{Empty, Own}
use Rattle.memo.specs.Keys.{memo_place}

module _ (m : Meaning) where
  -- loads of other keys, up to the k-th place
  abbrev pub Passed : Sizes → View → ℕ → ℕ → View → Type 0
  Passed z v key k w = (es : List Access) × MakesAll m v es w × Others z.memo key k es

  pub one_other : (z : Sizes) (u v w : View) (key k at n : ℕ) → at ≡ memo_place z.memo key k → Passed z u key k v → LoadsKey v at n w → n ≢ 0 → n ≢ key → Passed z u key (k + 1) w
  one_other z u v w key k at n is before l full other =
      let here : List Access = Loaded (Key at) n ∷ [] in (
        before.0 ++ here,
        makes_more m u v w before.0 here before.1 (w, l, refl),
        let up : suc k ≡ k + 1 = omega arith in
            subst (λ (x : ℕ × ℕ). Others z.memo key x.0 (before.0 ++ Loaded (Key x.1) n ∷ [])) (λ i. (up i, sym is i)) (further k n before.0 before.2 full other),
      )

  pub ends_empty : (z : Sizes) (u v w : View) (key k at n : ℕ) → k < 8 → at ≡ memo_place z.memo key k → Passed z u key k v → LoadsKey v at n w → n ≡ 0 → SeeksBy m z u key Empty w
  ends_empty z u v w key k at n lt is before l none =
      let here : List Access = Loaded (Key at) n ∷ [] in (
        before.0 ++ here,
        makes_more m u v w before.0 here before.1 (w, l, refl),
        (at, before.0, record { k = k; short = lt; place = is; others = before.2 }, ap (λ (x : ℕ). before.0 ++ Loaded (Key at) x ∷ []) none),
      )

  pub ends_own : (z : Sizes) (u v w y : View) (key k at n id : ℕ) → k < 8 → at ≡ memo_place z.memo key k → Passed z u key k v → LoadsKey v at n w → n ≡ key → LoadsId m w at id y → SeeksBy m z u key (Own at id) y
  ends_own z u v w y key k at n id lt is before l own t =
      let here : List Access = Loaded (Key at) n ∷ Loaded (Id at) id ∷ [] in (
        before.0 ++ here,
        makes_more m u v y before.0 here before.1 (w, l, (y, t, refl)),
        (before.0, record { k = k; short = lt; place = is; others = before.2 }, ap (λ (x : ℕ). before.0 ++ Loaded (Key at) x ∷ Loaded (Id at) id ∷ []) own),
      )
