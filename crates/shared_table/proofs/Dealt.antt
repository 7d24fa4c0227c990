-- The authors of a table are dealt one by one.
use Rattle.std.proofs.Common.{◌≡◌, ℕ, suc, ◌+◌, ◌-◌, ◌<◌, ◌≤◌, List, [], ◌∷◌, ◌++◌, length, sym, ap, ◌∙◌, subst, ⊎_elim, arith}
use Rattle.std.proofs.lemmas.Bool.{cases_lt}
use Rattle.std.proofs.lemmas.List.{get_or_append_left, get_or_push}
use Rattle.atomic_table.specs.Seated.{TableId}
use Rattle.step_core.specs.declared.view.View.{View}
use Rattle.step_core.specs.Views.{counting, dealer, dealt}
use Rattle.shared_table.specs.declared.sizes.Sizes.{Sizes}
use Rattle.shared_table.specs.Known.{Known, IsOpened, opened}
use Rattle.shared_table.specs.Opening.{AreOpened}

module _ (base : List ℕ) (count : ℕ) where
  next : (v : View) (i : ℕ) → v ≡ opened base count (counting i (count - i)) → i < count → v ≡ opened base count (i ∷ counting (suc i) (count - suc i))
  next v i e lt = let n : count - i ≡ suc (count - suc i) = omega arith in e ∙ ap (λ (k : ℕ). opened base count (counting i k)) n

  pub first_alone : (v : View) (i : ℕ) → v ≡ opened base count (counting i (count - i)) → i < count → dealt v ≡ opened v.base v.count (i ∷ [])
  first_alone v i e lt = ap dealt (next v i e lt) ∙ ap (λ (z : View). opened z.base z.count (i ∷ [])) (sym e)

  pub others : (v : View) (i : ℕ) → v ≡ opened base count (counting i (count - i)) → i < count → dealer v ≡ opened base count (counting (i + 1) (count - (i + 1)))
  others v i e lt = let up : suc i ≡ i + 1 = omega arith in ap dealer (next v i e lt) ∙ ap (λ (k : ℕ). opened base count (counting k (count - k))) up

  pub last_alone : (v : View) (i last : ℕ) → v ≡ opened base count (counting i (count - i)) → i ≡ last → suc last ≡ count → v ≡ opened v.base v.count (last ∷ [])
  last_alone v i last e here whole =
      let e' : v ≡ opened base count (counting last (count - last)) = e ∙ ap (λ (k : ℕ). opened base count (counting k (count - k))) here in
      let none : count - suc last ≡ 0 = omega arith in
      next v last e' (omega arith) ∙ (ap (λ (k : ℕ). opened base count (last ∷ counting (suc last) k)) none ∙ ap (λ (z : View). opened z.base z.count (last ∷ [])) (sym e))

  module _ (table : TableId) (sizes : Sizes) where
    pub one_more : (ps : List Known) (q : Known) (n : ℕ) → length ps ≡ n → AreOpened base count table sizes n ps → IsOpened base count table sizes n q → AreOpened base count table sizes (n + 1) (ps ++ q ∷ [])
    one_more ps q n long each mine = λ i d lt. ⊎_elim
        (λ (l : i < n). subst (IsOpened base count table sizes i) (sym (get_or_append_left ps (q ∷ []) d i (omega arith))) (each i d l))
        (λ (ge : n ≤ i). let e : n ≡ i = omega arith in let e' : length ps ≡ i = omega arith in
        subst (IsOpened base count table sizes i) (sym (get_or_push ps q d i e')) (subst (λ (z : ℕ). IsOpened base count table sizes z q) e mine))
        (cases_lt i n)
