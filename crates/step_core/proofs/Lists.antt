-- Lists: totals, prefixes, and the log.
use Rattle.std.proofs.Common.{◌≡◌, ℕ, zero, suc, ◌+◌, ◌<◌, ◌≤◌, ◌==◌, not, ◌&&◌, List, [], ◌∷◌, ◌++◌, length, get_or, set, sym, refl, ap, ◌∙◌, subst, ⊎_elim, arith, length-append, append_assoc, eqb-true, get_or-set_same, get_or-set_other, length-set}
use Rattle.std.proofs.lemmas.Bool.{cond_both, and_parts, not-true, eqb-false, cases_eq, cases_lt}
use Rattle.std.proofs.lemmas.List.{get_or_at, get_or_past, get_or_push, get_or_append_left, length_push, append-nil}
use mathlib.Core.Option.{some, some-injective, some-ne-none}
use mathlib.Core.List.{IsPrefix}
use lib.ListN.{get_elem?}
use Rattle.step_core.specs.Words.{IsRecordAt}
use Rattle.step_core.specs.Maps.{total, AllOf}
use Rattle.step_core.specs.Good.{IsLog}
use Rattle.step_core.specs.Events.{grown}

module _ {A : Type 0} (f : A → ℕ) where
  pub total_set : (l : List A) (i : ℕ) (a b : A) → get_elem? l i ≡ some a → total f (set l i b) + f a ≡ total f l + f b
  total_set [] i a b e = absurd (some-ne-none a (sym e))
  total_set (x ∷ xs) zero a b e = let same : f x ≡ f a = ap f (some-injective x a e) in omega arith
  total_set (x ∷ xs) (suc i) a b e = let s = total_set xs i a b e in omega arith

  pub total-append : (xs ys : List A) → total f (xs ++ ys) ≡ total f xs + total f ys
  total-append [] ys = omega arith
  total-append (x ∷ xs) ys = let s = total-append xs ys in omega arith

  -- at most what one has: the others have nothing
  pub total_at : (l : List A) (i : ℕ) (a : A) → get_elem? l i ≡ some a → f a ≤ total f l
  total_at [] i a e = absurd (some-ne-none a (sym e))
  total_at (x ∷ xs) zero a e = let same : f x ≡ f a = ap f (some-injective x a e) in omega arith
  total_at (x ∷ xs) (suc i) a e = let s = total_at xs i a e in omega arith

  pub total_two : (l : List A) (i j : ℕ) (a b : A) → get_elem? l i ≡ some a → get_elem? l j ≡ some b → (i ≡ j → ⊥) → f a + f b ≤ total f l
  total_two [] i j a b e e' ne = absurd (some-ne-none a (sym e))
  total_two (x ∷ xs) zero zero a b e e' ne = absurd (ne refl)
  total_two (x ∷ xs) zero (suc j) a b e e' ne = let same : f x ≡ f a = ap f (some-injective x a e) in let s = total_at xs j b e' in omega arith
  total_two (x ∷ xs) (suc i) zero a b e e' ne = let same : f x ≡ f b = ap f (some-injective x b e') in let s = total_at xs i a e in omega arith
  total_two (x ∷ xs) (suc i) (suc j) a b e e' ne = let s = total_two xs i j a b e e' (λ q. ne (ap suc q)) in omega arith

  pub total_none : (l : List A) → ((j : ℕ) (b : A) → get_elem? l j ≡ some b → f b ≡ 0) → total f l ≡ 0
  total_none [] none = refl
  total_none (x ∷ xs) none = let a = none 0 x refl in let s = total_none xs (λ j b. none (suc j) b) in omega arith

  pub total_alone : (l : List A) (i : ℕ) (a : A) → get_elem? l i ≡ some a → ((j : ℕ) (b : A) → (j ≡ i → ⊥) → get_elem? l j ≡ some b → f b ≡ 0) → total f l ≡ f a
  total_alone [] i a e none = absurd (some-ne-none a (sym e))
  total_alone (x ∷ xs) zero a e none = let same : f x ≡ f a = ap f (some-injective x a e) in let s = total_none xs (λ j b. none (suc j) b (λ q. omega arith)) in omega arith
  total_alone (x ∷ xs) (suc i) a e none = let z = none 0 x (λ q. omega arith) refl in let s = total_alone xs i a e (λ j b ne. none (suc j) b (λ q. ne (omega arith))) in omega arith

pub all_append : {A : Type 0} (P : A → Type 0) (xs ys : List A) → AllOf P xs → AllOf P ys → AllOf P (xs ++ ys)
all_append P [] ys a b = b
all_append P (x ∷ xs) ys a b = (a.0, all_append P xs ys a.1 b)

pub all_map : {A : Type 0} (P Q : A → Type 0) → ((x : A) → P x → Q x) → (xs : List A) → AllOf P xs → AllOf Q xs
all_map P Q f [] a = tt
all_map P Q f (x ∷ xs) a = (f x a.0, all_map P Q f xs a.1)

pub prefix_self : (xs : List ℕ) → IsPrefix xs xs
prefix_self xs = ([], append-nil xs)

pub prefix_trans : (xs ys zs : List ℕ) → IsPrefix xs ys → IsPrefix ys zs → IsPrefix xs zs
prefix_trans xs ys zs p q = (p.0 ++ q.0, sym (append_assoc xs p.0 q.0) ∙ (ap (λ l. l ++ q.0) p.1 ∙ q.1))

pub prefix_length : (xs ys : List ℕ) → IsPrefix xs ys → length xs ≤ length ys
prefix_length xs ys p = let e = ap length p.1 in omega (arith, length-append xs p.0, e)

pub prefix_whole : (xs ys : List ℕ) → IsPrefix xs ys → length ys ≤ length xs → xs ≡ ys
prefix_whole xs ys p le = whole xs p.0 ys p.1 le
  where
    whole : (xs rest ys : List ℕ) → xs ++ rest ≡ ys → length ys ≤ length xs → xs ≡ ys
    whole xs [] ys e le = sym (append-nil xs) ∙ e
    whole xs (r ∷ rs) ys e le = let l = ap length e in absurd (omega (arith, length-append xs (r ∷ rs), l))

pub extends : (vl rest log : List ℕ) (n : ℕ) → vl ++ rest ≡ log → n ≡ get_or log (length vl) 0 → (n ≡ 0 → ⊥) → IsPrefix (vl ++ n ∷ []) log
extends vl [] log n e at full =
    let same : vl ≡ log = sym (append-nil vl) ∙ e in
    absurd (full (at ∙ (ap (λ l. get_or l (length vl) 0) (sym same) ∙ get_or_past vl (length vl) 0 (omega arith))))
extends vl (x ∷ xs) log n e at full =
    let is : n ≡ x = at ∙ (ap (λ l. get_or l (length vl) 0) (sym e) ∙ get_or_at vl x xs 0 (length vl) refl) in
    (xs, append_assoc vl (n ∷ []) xs ∙ (ap (λ (y : ℕ). vl ++ y ∷ xs) is ∙ e))

pub grown_prefix : (vl log : List ℕ) (k n : ℕ) → IsPrefix vl log → n ≡ get_or log k 0 → IsPrefix (grown vl k n) log
grown_prefix vl log k n p e =
    cond_both ((k == length vl) && not (n == 0)) (vl ++ n ∷ []) vl (λ l. IsPrefix l log)
    (λ t. let both = and_parts (k == length vl) (not (n == 0)) t in
    extends vl p.0 log n p.1 (e ∙ ap (λ i. get_or log i 0) (eqb-true k (length vl) both.0)) (eqb-false n 0 (not-true (n == 0) both.1)))
    (λ _. p)

pub log_grows : (words log : List ℕ) (k word : ℕ) → IsLog words log → k ≡ length log → k < length words → IsRecordAt (suc k) word → IsLog (set words k word) (log ++ word ∷ [])
log_grows words log k word l at room reads = record {
  here = λ j. ⊎_elim
      (λ (e : j ≡ k). ap (λ (z : ℕ). get_or (set words k word) z 0) e ∙ (get_or-set_same words k word 0 room ∙ sym (get_or_push log word 0 j (omega arith))))
      (λ (ne : j ≡ k → ⊥). get_or-set_other words k j word 0 ne ∙ (l.here j ∙ ⊎_elim
      (λ (lt : j < length log). sym (get_or_append_left log (word ∷ []) 0 j lt))
      (λ (ge : length log ≤ j). let far : length (log ++ word ∷ []) ≤ j = omega (arith, length_push log word, ne) in get_or_past log j 0 ge ∙ sym (get_or_past (log ++ word ∷ []) j 0 far))
      (cases_lt j (length log))))
      (cases_eq j k);
  short = let s = l.short in omega (arith, length_push log word, length-set words k word);
  each = λ i lt. ⊎_elim
      (λ (lt : i < length log). subst (λ (z : ℕ). IsRecordAt (suc i) z) (sym (get_or_append_left log (word ∷ []) 0 i lt)) (l.each i lt))
      (λ (ge : length log ≤ i). let e : length log ≡ i = omega (arith, length_push log word, lt) in
      let here : k ≡ i = omega arith in
      subst (λ (z : ℕ). IsRecordAt (suc i) z) (sym (get_or_push log word 0 i e)) (subst (λ (z : ℕ). IsRecordAt (suc z) word) here reads))
      (cases_lt i (length log));
}

pub grown_longer : (vl : List ℕ) (k n : ℕ) → IsPrefix vl (grown vl k n)
grown_longer vl k n = cond_both ((k == length vl) && not (n == 0)) (vl ++ n ∷ []) vl (λ l. IsPrefix vl l) (λ _. ((n ∷ []), refl)) (λ _. prefix_self vl)

-- of two beginnings of one list the shorter begins the longer
pub prefix_both : (xs ys zs : List ℕ) → IsPrefix xs zs → IsPrefix ys zs → length xs ≤ length ys → IsPrefix xs ys
prefix_both [] ys zs p q le = (ys, refl)
prefix_both (x ∷ xs) [] zs p q le = absurd (omega arith)
prefix_both (x ∷ xs) (y ∷ ys) [] p q le = absurd (cc (p.1))
prefix_both (x ∷ xs) (y ∷ ys) (z ∷ zs) p q le =
    let e : xs ++ p.0 ≡ zs = cc (p.1) in
    let f : ys ++ q.0 ≡ zs = cc (q.1) in
    let x' : x ≡ z = cc (p.1) in
    let y' : y ≡ z = cc (q.1) in
    let r = prefix_both xs ys zs (p.0, e) (q.0, f) (omega arith) in
    (r.0, λ i. (x' ∙ sym y') i ∷ r.1 i)
