-- What is kept of functions, as it grows.
use Rattle.std.proofs.Common.{◌≡◌, ◌⊎◌, inl, inr, ℕ, zero, suc, ◌+◌, ◌<◌, List, [], ◌∷◌, ◌++◌, MatchOption, length, replicate, set, get_or, slice_get, true, Option, Some, None, refl, ap, sym, ◌∙◌, subst, arith}
use Rattle.std.proofs.lemmas.Option.{slice_get-get_or}
use Rattle.std.specs.Option.{is_some}
use Rattle.mlir_ir.specs.declared.types.Func.{Func}
use Rattle.scev_queries.specs.Kept.{AreKept, IsKeptAt, IsKnown}
use Rattle.scev_queries.specs.Answers.{func_named}
use Rattle.scev_queries.specs.declared.known.Known.{Known}

-- of nothing
no_entry : (n at : ℕ) (k : Known) → slice_get (replicate {A = Option Known} n None) at ≡ Some (Some k) → ⊥
no_entry zero at k e = absurd (cc)
no_entry (suc n) zero k e = absurd (cc)
no_entry (suc n) (suc at) k e = no_entry n at k e

none_long : (n : ℕ) → length (replicate {A = Option Known} n None) ≡ n
none_long zero = refl
none_long (suc n) = ap suc (none_long n)

pub nothing_is_kept : (funcs : List Func) (n : ℕ) → n ≡ length funcs → AreKept funcs (replicate n None)
nothing_is_kept funcs n e = record {
  many = none_long n ∙ e;
  each = λ at k is. absurd (no_entry n at k is);
}

-- of one function more
same_place : (i j : ℕ) (kept : List (Option Known)) (x : Option Known) (y : Known) → slice_get (set kept i x) j ≡ Some (Some y) → ((j ≡ i) × (x ≡ Some y)) ⊎ (slice_get kept j ≡ Some (Some y))
same_place i j [] x y e = inr e
same_place zero zero (o ∷ kept) x y e = let same : x ≡ Some y = cc in inl (refl, same)
same_place zero (suc j) (o ∷ kept) x y e = inr e
same_place (suc i) zero (o ∷ kept) x y e = inr e
same_place (suc i) (suc j) (o ∷ kept) x y e = elim (same_place i j kept x y e) [
  | inl h ↦ inl (ap suc h.0, h.1)
  | inr h ↦ inr h
]

as_long : (i : ℕ) (kept : List (Option Known)) (x : Option Known) → length (set kept i x) ≡ length kept
as_long i [] x = refl
as_long zero (o ∷ kept) x = refl
as_long (suc i) (o ∷ kept) x = ap suc (as_long i kept x)

pub one_more : (funcs : List Func) (kept : List (Option Known)) (at : ℕ) (k : Known) → AreKept funcs kept → slice_get funcs at ≡ Some k.func.now → IsKnown k → AreKept funcs (set kept at (Some k))
one_more funcs kept at k are is known = record {
  many = as_long at kept (Some k) ∙ are.many;
  each = λ i j e. elim (same_place at i kept (Some k) j e) [
    | inl h ↦ let same : k ≡ j = cc in subst (λ x. (slice_get funcs i ≡ Some x.func.now) × IsKnown x) same (subst (λ n. slice_get funcs n ≡ Some k.func.now) (sym h.0) is, known)
    | inr h ↦ are.each i j h
  ];
}

pub set_there : (kept : List (Option Known)) (at : ℕ) (k : Known) → at < length kept → slice_get (set kept at (Some k)) at ≡ Some (Some k)
set_there [] at k lt = absurd (omega (arith, lt))
set_there (o ∷ kept) zero k lt = refl
set_there (o ∷ kept) (suc at) k lt = set_there kept at k (omega (arith, lt))

some_is : (o : Option Known) → is_some o ≡ true → (k : Known) × (o ≡ Some k)
some_is None e = absurd (cc)
some_is (Some k) e = (k, refl)

-- what was there
pub kept_there : (kept : List (Option Known)) (at : ℕ) (o : Option Known) → at < length kept → is_some (get_or kept at o) ≡ true → (k : Known) × (slice_get kept at ≡ Some (Some k))
kept_there kept at o lt e =
    let s = some_is (get_or kept at o) e in
    (s.0, slice_get-get_or kept at o lt ∙ ap Some s.1)

pub function_there : (funcs : List Func) (at : ℕ) (f g : Func) → at < length funcs → f ≡ get_or funcs at f → g ≡ f → slice_get funcs at ≡ Some g
function_there funcs at f g lt is same = slice_get-get_or funcs at f lt ∙ ap Some (sym is ∙ sym same)

-- of nothing, once more
snoc_none : (n : ℕ) → replicate {A = Option Known} n None ++ None ∷ [] ≡ replicate (suc n) None
snoc_none zero = refl
snoc_none (suc n) = ap (λ (xs : List (Option Known)). None ∷ xs) (snoc_none n)

pub one_longer : (xs : List (Option Known)) (n m : ℕ) → xs ≡ replicate n None → m ≡ n + 1 → xs ++ None ∷ [] ≡ replicate m None
one_longer xs n m e longer =
    let next : suc n ≡ m = omega (arith, longer) in
    ap (λ (ys : List (Option Known)). ys ++ None ∷ []) e ∙ snoc_none n ∙ ap (λ k. replicate {A = Option Known} k None) next

-- what is said of the function that is kept at the place of a name
abbrev pub IsPlaceOf : List Func → List ℕ → List (Option Known) → Option ℕ → Type 0
IsPlaceOf funcs name kept place = MatchOption place (func_named funcs name ≡ None) (λ at. (k : Known) × IsKeptAt funcs kept name at k)

pub told : (self funcs : List Func) (name : List ℕ) (kept slice : List (Option Known)) (place : Option ℕ) (at : ℕ) (j : Known) (Unnamed : Type 0) (Says : Func → Type 0)
    → funcs ≡ self → IsPlaceOf funcs name kept place → place ≡ Some at → slice ≡ kept → slice_get slice at ≡ Some (Some j) → Says j.func.now → MatchOption (func_named self name) Unnamed Says
told self funcs name kept slice place at j Unnamed Says same found is whole here said =
    let k = subst (IsPlaceOf funcs name kept) is found in
    let stands : slice_get kept at ≡ Some (Some k.0) = k.1.stands in
    let got : slice_get kept at ≡ Some (Some j) = subst (λ s. slice_get s at ≡ Some (Some j)) whole here in
    let alike : Some (Some k.0) ≡ Some (Some j) = sym stands ∙ got in
    let same_known : k.0 ≡ j = cc in
    let named : func_named funcs name ≡ Some j.func.now = subst (λ (x : Known). func_named funcs name ≡ Some x.func.now) same_known k.1.named in
    subst (λ fs. MatchOption (func_named fs name) Unnamed Says) same (subst (λ o. MatchOption o Unnamed Says) (sym named) said)

pub untold : (self funcs : List Func) (name : List ℕ) (kept : List (Option Known)) (place : Option ℕ) (Unnamed : Type 0) (Says : Func → Type 0)
    → funcs ≡ self → IsPlaceOf funcs name kept place → place ≡ None → Unnamed → MatchOption (func_named self name) Unnamed Says
untold self funcs name kept place Unnamed Says same found is said =
    let none = subst (IsPlaceOf funcs name kept) is found in
    subst (λ fs. MatchOption (func_named fs name) Unnamed Says) same (subst (λ o. MatchOption o Unnamed Says) (sym none) said)
