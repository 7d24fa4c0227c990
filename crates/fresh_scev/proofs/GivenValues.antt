-- Values with given expressions are defined one after another.
use Rattle.std.proofs.Common.{◌≡◌, ℕ, ◌+◌, ◌<◌, List, [], ◌∷◌, length, map, slice_index_or, sym, ap, ◌∙◌, subst, arith}
use Rattle.std.specs.List.{remove}
use Rattle.scev_tree.specs.declared.expr.Expr.{Expr}
use Rattle.fresh_scev.specs.declared.table.Table.{Table}
use Rattle.fresh_scev.specs.Expressions.{expression_of, IsBefore}
use Rattle.fresh_scev.specs.Facts.{IsPlain, untested}
use Rattle.fresh_scev.specs.NextArguments.{AreBefore, AreGiven}
use Rattle.fresh_scev.specs.Table.{facts_of, next_label, AreKnown, HasRoom, Grows, Defines}
use Rattle.fresh_scev.specs.Walked.{Says}
use Rattle.fresh_scev.proofs.GrowingTables.{next_later, grows_on, grows_none, room_later, room_less}
use Rattle.fresh_scev.proofs.RuledResults.{defined_stays}

front : (xs rest : List Expr) (first : Expr) → 0 < length xs → first ≡ slice_index_or xs 0 first → rest ≡ remove xs 0 → xs ≡ first ∷ rest
front [] rest first some is left = absurd (omega (arith, some))
front (x ∷ xs) rest first some is left = ap (λ y. y ∷ xs) (sym is) ∙ ap (λ ys. first ∷ ys) (sym left)

-- a list that its first element and the others make
module _ (xs rest : List Expr) (first : Expr) (some : 0 < length xs) (is : first ≡ slice_index_or xs 0 first) (left : rest ≡ remove xs 0) where
  pub first_before : (label : ℕ) → AreBefore label (map expression_of xs) → IsBefore (label + 1) (expression_of first)
  first_before label b = (subst (λ l. AreBefore label (map expression_of l)) (front xs rest first some is left) b).0

  pub rest_before : (s t : Table) → Grows s t 1 → AreBefore (next_label s) (map expression_of xs) → AreBefore (next_label t) (map expression_of rest)
  rest_before s t g b =
      let both : AreBefore (next_label s) (map expression_of (first ∷ rest)) = subst (λ l. AreBefore (next_label s) (map expression_of l)) (front xs rest first some is left) b in
      subst (λ l. AreBefore l (map expression_of rest)) (sym (next_later s t 1 g)) both.1

  count : length xs ≡ 1 + length rest
  count = let e = ap length (front xs rest first some is left) in omega (arith, e)

  pub first_room : (s : Table) → HasRoom s (length xs) → HasRoom s 1
  first_room s r = room_less s (length xs) 1 (omega (arith, some)) r

  pub rest_room : (s t : Table) → Grows s t 1 → HasRoom s (length xs) → HasRoom t (length rest)
  rest_room s t g r = room_later s t 1 (length rest) g (subst (λ n. HasRoom s n) count r)

  pub first_given : (s t u : Table) → Defines s t (expression_of first) untested → Says t u (length rest) (λ F. AreGiven F (next_label t) (map expression_of rest))
      → Says s u (length xs) (λ F. AreGiven F (next_label s) (map expression_of xs))
  first_given s t u d more =
      let next = next_later s t 1 d.grows in
      let now : IsPlain (facts_of u) (next_label s) (expression_of first) = defined_stays s t u (length rest) (expression_of first) untested d more.grows in
      let later : AreGiven (facts_of u) (next_label s + 1) (map expression_of rest) = subst (λ l. AreGiven (facts_of u) l (map expression_of rest)) next more.facts in
      let many : 1 + length rest ≡ length (first ∷ rest) = omega arith in
      let all : Says s u (length (first ∷ rest)) (λ F. AreGiven F (next_label s) (map expression_of (first ∷ rest))) =
      record { grows = subst (λ n. Grows s u n) many (grows_on s t u 1 (length rest) d.grows more.grows); facts = (now, later) } in
      subst (λ l. Says s u (length l) (λ F. AreGiven F (next_label s) (map expression_of l))) (sym (front xs rest first some is left)) all

pub none_given : (t : Table) (xs : List Expr) → length xs ≡ 0 → AreKnown (facts_of t) → Says t t (length xs) (λ F. AreGiven F (next_label t) (map expression_of xs))
none_given t [] e k = record { grows = grows_none t k; facts = tt }
none_given t (x ∷ xs) e k = absurd (omega (arith, e))
