-- A run over all tokens, and the syntax error where it stops.
use Rattle.std.proofs.Common.{suc, zero, ◌≡◌, ℕ, ◌+◌, ◌<◌, ◌≤◌, refl, List, [], ◌∷◌, ◌++◌, length, drop, take, ap, ◌∙◌, sym, subst, arith, length-drop, length-append, Some, append_assoc, slice_get}
use Rattle.std.proofs.lemmas.List.{take_at, drop_all}
use Rattle.mlir_ir.specs.Grammar.{line, body}
use Rattle.mlir_ir.specs.Texts.{Accepts, ends, IsText, BeginsText, IsSyntaxFault, IsTooDeep, IsShallow, regions}
use Rattle.mlir_parse.specs.Runs.{Done, Stop, Deep, Runs, run_line}
use Rattle.mlir_parse.proofs.Only.{only, next}
use Rattle.mlir_parse.proofs.Fits.{fits_whole}
use Rattle.mlir_parse.proofs.Viable.{viable}
use Rattle.mlir_parse.proofs.Tops.{top}
use Rattle.mlir_ir.specs.declared.terminal.Terminal.TheVariants.{LeftBrace}
use Rattle.mlir_ir.specs.declared.terminal.Terminal.{Terminal}
use Rattle.mlir_ir.specs.declared.syntax.Form.TheVariants.{Whole}

-- the tokens read are the prefix before the index
front_is : (ts x : List Terminal) (k : ℕ) → k ≤ length ts → ts ≡ x ++ drop k ts → x ≡ take k ts
front_is ts x k h e =
    let l : length x ≡ k = omega (arith, ap length e, length-append x (drop k ts), length-drop k ts) in
    sym (take_at x (drop k ts) k l) ∙ ap (take k) (sym e)

front_more : (ts x : List Terminal) (k : ℕ) (c : Terminal) (us : List Terminal) → k ≤ length ts → ts ≡ x ++ drop k ts → drop k ts ≡ c ∷ us → take (k + 1) ts ≡ x ++ c ∷ []
front_more ts x k c us h e d =
    let l : length x ≡ k = omega (arith, ap length e, length-append x (drop k ts), length-drop k ts) in
    let m : length (x ++ c ∷ []) ≡ k + 1 = omega (arith, length-append x (c ∷ []), l) in
    let whole : ts ≡ (x ++ c ∷ []) ++ us = e ∙ ap (λ z. x ++ z) d ∙ sym (append_assoc x (c ∷ []) us) in
    ap (take (k + 1)) whole ∙ take_at (x ++ c ∷ []) us (k + 1) m

pub whole_text : (n : ℕ) (ts us : List Terminal) → us ≡ [] → Runs n (line Whole) ts (Done us) → IsText ts
whole_text n ts us nil r =
    let v = viable r in
    let P : List Terminal → Type 0 = λ z. Accepts (line Whole ∷ []) z in
    subst P (sym (v.1 ∙ ap (λ z. v.0 ++ z) nil)) (v.2 [] [] ends)

stuck : (ts x : List Terminal) (k : ℕ) → k ≤ length ts → ts ≡ x ++ drop k ts
    → ((v : List Terminal) × Accepts (line Whole ∷ []) (x ++ v))
    → ((w : List Terminal) → next w ≡ next (drop k ts) → Accepts (line Whole ∷ []) (x ++ w) → ⊥) → IsShallow (take k ts) → IsSyntaxFault ts k
stuck ts x k h e v f low = record {
  within = h;
  before = (v.0, subst P (ap (λ z. z ++ v.0) (front_is ts x k h e)) v.1);
  none = λ less begun. not_more (drop k ts) refl less begun;
  unfinished = λ last whole.
      let nil : drop k ts ≡ [] = drop_all k ts (omega (arith, last)) in
      f [] (ap next (sym nil)) (subst P (e ∙ ap (λ z. x ++ z) nil) whole);
  shallow = low;
}
  where
    P : List Terminal → Type 0
    P z = Accepts (line Whole ∷ []) z

    not_more : (rest : List Terminal) → drop k ts ≡ rest → k < length ts → BeginsText (take (k + 1) ts) → ⊥
    not_more [] d less begun = absurd (omega (arith, length-drop k ts, ap length d, less))
    not_more (c ∷ us) d less begun =
        f
        (c ∷ begun.0)
        (ap next (sym d))
        (subst P (ap (λ z. z ++ begun.0) (front_more ts x k c us h e d) ∙ append_assoc x (c ∷ []) begun.0) begun.1)

-- the tokens read, which have at most twelve open regions, are the prefix before the index
shallow_front : (ts us : List Terminal) (k : ℕ) → k ≤ length ts → us ≡ drop k ts → (x : List Terminal) × (ts ≡ x ++ us) × IsShallow x → IsShallow (take k ts)
shallow_front ts us k h is (x, e, low) = subst IsShallow (front_is ts x k h (e ∙ ap (λ z. x ++ z) is)) low

-- a run that stopped at an unexpected token
pub stopped : (ts : List Terminal) (k : ℕ) → k ≤ length ts → Runs 0 (body Whole) ts (Stop (drop k ts)) → IsSyntaxFault ts k
stopped ts k h r =
    let v = viable (run_line {f = Whole} r) in
    let o = only (run_line {f = Whole} r) in
    let same_front : v.0 ≡ o.0 = front_is ts v.0 k h v.1 ∙ sym (front_is ts o.0 k h o.1) in
    let P : List Terminal → Type 0 = λ z. (u : List Terminal) × Accepts (line Whole ∷ []) (z ++ u) in
    stuck ts o.0 k h o.1 (subst P same_front (v.2 [] [] ends)) (λ w n a. o.2 [] w fits_whole n a)
    (shallow_front ts (drop k ts) k h refl (top ts (Stop (drop k ts)) r))

-- a run that ended before the last token
pub not_all : (ts : List Terminal) (k : ℕ) → k < length ts → Runs 0 (body Whole) ts (Done (drop k ts)) → IsSyntaxFault ts k
not_all ts k h r =
    let v = viable (run_line {f = Whole} r) in
    let o = only (run_line {f = Whole} r) in
    let in_reach : k ≤ length ts = omega arith in
    let same_front : v.0 ≡ o.0 = front_is ts v.0 k in_reach v.1 ∙ sym (front_is ts o.0 k in_reach o.1) in
    let P : List Terminal → Type 0 = λ z. (u : List Terminal) × Accepts (line Whole ∷ []) (z ++ u) in
    let begun : (u : List Terminal) × Accepts (line Whole ∷ []) (v.0 ++ u) = ([], v.2 [] [] ends) in
    stuck ts o.0 k in_reach o.1 (subst P same_front begun) (λ w n a. over (drop k ts) refl w n (o.2 [] w fits_whole n a))
    (shallow_front ts (drop k ts) k in_reach refl (top ts (Done (drop k ts)) r))
  where
    over : (rest : List Terminal) → drop k ts ≡ rest → (w : List Terminal) → next w ≡ next (drop k ts) → Accepts [] w → ⊥
    over [] d w n a = absurd (omega (arith, length-drop k ts, ap length d))
    over (c ∷ us) d [] n a = let m : next [] ≡ Some c = n ∙ ap next d in cc
    over (c ∷ us) d (b ∷ w) n a = elim a [ ]

get_drop : (ts : List Terminal) (k : ℕ) (c : Terminal) (us : List Terminal) → drop k ts ≡ c ∷ us → slice_get ts k ≡ Some c
get_drop [] zero c us e = cc
get_drop [] (suc k) c us e = cc
get_drop (b ∷ ts) zero c us e = cc
get_drop (b ∷ ts) (suc k) c us e = get_drop ts k c us e

-- a run that stopped at a brace that opens too deep a region
pub too_deep : (ts : List Terminal) (k : ℕ) → k ≤ length ts → Runs 0 (body Whole) ts (Deep (drop k ts)) → IsTooDeep ts k
too_deep ts k h r =
    let v = viable (run_line {f = Whole} r) in
    let t = top ts (Deep (drop k ts)) r in
    let q = v.2 [] [] ends in
    let brace : drop k ts ≡ LeftBrace ∷ t.4.0 = t.4.1 in
    let front : take (k + 1) ts ≡ v.0 ++ LeftBrace ∷ [] = front_more ts v.0 k LeftBrace t.4.0 h v.1 brace in
    let P : List Terminal → Type 0 = λ z. Accepts (line Whole ∷ []) z in
    let R : List Terminal → Type 0 = λ z. regions z ≡ 12 in
    record {
      brace = get_drop ts k LeftBrace t.4.0 brace;
      begins = (q.0, subst P (sym (ap (λ z. z ++ q.0) front ∙ append_assoc v.0 (LeftBrace ∷ []) q.0)) q.1);
      shallow = shallow_front ts (drop k ts) k h refl (t.0, t.1, t.2);
      full = subst R (front_is ts t.0 k h t.1) t.3;
    }
