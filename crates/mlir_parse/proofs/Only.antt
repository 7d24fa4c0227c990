-- A run is the only way to match the tokens.
use Rattle.std.proofs.Common.{◌≡◌, ℕ, Bool, true, false, ◌||◌, ◌&&◌, refl, List, [], ◌∷◌, ◌++◌, ap, ◌∙◌, sym, subst, inl, inr, append_assoc, Option, Some, None}
use Rattle.mlir_ir.specs.GrammarNumbers.{same}
use Rattle.mlir_parse.specs.Tables.{first, empty}
use Rattle.mlir_ir.specs.Grammar.{Pattern, one, line, both, either, many, region, body}
use Rattle.mlir_ir.specs.Texts.{Accepts, in_turn}
use Rattle.mlir_parse.specs.Runs.{Outcome, Done, Stop, Deep, Fails, starts, is_next, Runs, run_nothing, run_one, run_other, run_line, run_both, run_both_fails, run_left, run_right, run_enough, run_again, run_again_fails, run_no_brace, run_too_deep, run_region}
use Rattle.mlir_parse.proofs.Bools.{same_self, and_left}
use Rattle.mlir_parse.proofs.First.{firsts, empties, first_of, empties_of}
use Rattle.mlir_parse.proofs.Fits.{Fits, fits_line, fits_deep}
use Rattle.mlir_parse.proofs.Back.{of_nothing, of_one, of_line, of_both, of_either, of_many, of_deep}
use Rattle.mlir_ir.specs.declared.terminal.Terminal.{Terminal}
use Rattle.mlir_ir.specs.declared.terminal.Terminal.TheVariants.{LeftBrace, RightBrace}
use Rattle.mlir_ir.specs.declared.syntax.Form.{Form}

-- the next token, if there is one
abbrev pub next : List Terminal → Option Terminal
next [] = None
next (c ∷ ts) = Some c

-- every match that begins with the tokens read, and goes on with the same token, leaves a match of the rest of the stack
abbrev pub Only : Pattern → List Terminal → Outcome → Type 0
Only r ts (Done us) =
    (x : List Terminal) × (ts ≡ x ++ us) × ((ss : List Pattern) (w : List Terminal) → Fits (r ∷ ss) → next w ≡ next us → Accepts (r ∷ ss) (x ++ w) → Accepts ss w)
Only r ts (Stop us) =
    (x : List Terminal) × (ts ≡ x ++ us) × ((ss : List Pattern) (w : List Terminal) → Fits (r ∷ ss) → next w ≡ next us → Accepts (r ∷ ss) (x ++ w) → ⊥)
Only r ts (Deep us) = Unit {0}

next_front : (x w us : List Terminal) → next w ≡ next us → next (x ++ w) ≡ next (x ++ us)
next_front [] w us h = h
next_front (c ∷ x) w us h = refl

tail_of : {c d : Terminal} {us vs : List Terminal} → c ∷ us ≡ d ∷ vs → us ≡ vs
tail_of e = cc

-- a match whose first token may begin the first pattern doesn't skip this pattern
not_other : (r : Pattern) (ss : List Pattern) (ts us : List Terminal) → next us ≡ next ts → ((c : Terminal) → first r c ≡ true → firsts ss c ≡ false) → starts r ts ≡ true → Accepts ss us → ⊥
not_other r ss [] us e none_of h d = cc
not_other r ss (c ∷ ts) [] e none_of h d = cc
not_other r ss (c ∷ ts) (b ∷ us) e none_of h d =
    let same_token : b ≡ c = cc in
    let P : Terminal → Type 0 = λ x. firsts ss x ≡ true in
    let is : firsts ss c ≡ true = subst P same_token (first_of d) in
    let is_not : firsts ss c ≡ false = none_of c h in
    cc

-- a match whose first token can't begin the first pattern doesn't begin with this pattern
not_this : (a : Pattern) (ss : List Pattern) (ts us : List Terminal) → next us ≡ next ts → empty a ≡ false → starts a ts ≡ false → Accepts (a ∷ ss) us → ⊥
not_this a ss ts [] e full h d =
    let is : empty a ≡ true = and_left (empty a) (empties ss) (empties_of d) in cc
not_this a ss [] (b ∷ us) e full h d = cc
not_this a ss (c ∷ ts) (b ∷ us) e full h d =
    let same_token : b ≡ c = cc in
    let P : Terminal → Type 0 = λ x. (first a x || (empty a && firsts ss x)) ≡ true in
    let is : (first a c || (empty a && firsts ss c)) ≡ true = subst P same_token (first_of d) in
    absurd (refuted (first a c) (empty a) (firsts ss c) h full is)
  where
    refuted : (p e s : Bool) → p ≡ false → e ≡ false → (p || (e && s)) ≡ true → ⊥
    refuted true e s h k m = cc
    refuted false true s h k m = cc
    refuted false false s h k m = cc

only_both : (a b : Pattern) (ts us : List Terminal) (o : Outcome) → Only a ts (Done us) → Only b us o → Only (both a b) ts o
only_both a b ts us (Done vs) (x, e, g) (y, f, k) = (
  x ++ y,
  e ∙ ap (λ z. x ++ z) f ∙ sym (append_assoc x y vs),
  λ ss w fits n d.
      let d2 = subst (Accepts (a ∷ b ∷ ss)) (append_assoc x y w) (of_both d) in
      let n2 : next (y ++ w) ≡ next us = next_front y w vs n ∙ ap next (sym f) in
      k ss w (fits.0.1, fits.1) n (g (b ∷ ss) (y ++ w) (fits.0.0, (fits.0.1, fits.1)) n2 d2),
)
only_both a b ts us (Stop vs) (x, e, g) (y, f, k) = (
  x ++ y,
  e ∙ ap (λ z. x ++ z) f ∙ sym (append_assoc x y vs),
  λ ss w fits n d.
      let d2 = subst (Accepts (a ∷ b ∷ ss)) (append_assoc x y w) (of_both d) in
      let n2 : next (y ++ w) ≡ next us = next_front y w vs n ∙ ap next (sym f) in
      k ss w (fits.0.1, fits.1) n (g (b ∷ ss) (y ++ w) (fits.0.0, (fits.0.1, fits.1)) n2 d2),
)
only_both a b ts us (Deep vs) p q = tt

only_both_fails : (a b : Pattern) (ts : List Terminal) (o : Outcome) → Fails o → Only a ts o → Only (both a b) ts o
only_both_fails a b ts (Done vs) failed p = absurd failed
only_both_fails a b ts (Stop vs) failed (x, e, g) = (x, e, λ ss w fits n d. g (b ∷ ss) w (fits.0.0, (fits.0.1, fits.1)) n (of_both d))
only_both_fails a b ts (Deep vs) failed p = tt

only_line : (f : Form) (ts : List Terminal) (o : Outcome) → Only (body f) ts o → Only (line f) ts o
only_line f ts (Done us) (x, e, g) = (x, e, λ ss w fits n d. g ss w (fits_line f ss fits) n (of_line d))
only_line f ts (Stop us) (x, e, g) = (x, e, λ ss w fits n d. g ss w (fits_line f ss fits) n (of_line d))
only_line f ts (Deep us) p = tt

still : (x w us ts : List Terminal) → next w ≡ next us → ts ≡ x ++ us → next (x ++ w) ≡ next ts
still x w us ts n e = next_front x w us n ∙ ap next (sym e)

only_left : (a b : Pattern) (ts : List Terminal) (o : Outcome) → starts a ts ≡ true → Only a ts o → Only (either a b) ts o
only_left a b ts (Done us) begins (x, e, g) = (
  x,
  e,
  λ ss w fits n d.
      elim (of_either d) [
        | inl p ↦ g ss w (fits.0.2, fits.1) n p
        | inr q ↦ absurd (not_other a (b ∷ ss) ts (x ++ w) (still x w us ts n e) fits.0.1 begins q)
      ],
)
only_left a b ts (Stop us) begins (x, e, g) = (
  x,
  e,
  λ ss w fits n d.
      elim (of_either d) [
        | inl p ↦ g ss w (fits.0.2, fits.1) n p
        | inr q ↦ not_other a (b ∷ ss) ts (x ++ w) (still x w us ts n e) fits.0.1 begins q
      ],
)
only_left a b ts (Deep us) begins p = tt

only_right : (a b : Pattern) (ts : List Terminal) (o : Outcome) → starts a ts ≡ false → Only b ts o → Only (either a b) ts o
only_right a b ts (Done us) stops (x, e, g) = (
  x,
  e,
  λ ss w fits n d.
      elim (of_either d) [
        | inl p ↦ absurd (not_this a ss ts (x ++ w) (still x w us ts n e) fits.0.0 stops p)
        | inr q ↦ g ss w (fits.0.3, fits.1) n q
      ],
)
only_right a b ts (Stop us) stops (x, e, g) = (
  x,
  e,
  λ ss w fits n d.
      elim (of_either d) [
        | inl p ↦ not_this a ss ts (x ++ w) (still x w us ts n e) fits.0.0 stops p
        | inr q ↦ g ss w (fits.0.3, fits.1) n q
      ],
)
only_right a b ts (Deep us) stops p = tt

only_enough : (a : Pattern) (ts : List Terminal) → starts a ts ≡ false → Only (many a) ts (Done ts)
only_enough a ts stops = (
  [],
  refl,
  λ ss w fits n d. elim (of_many d) [ inl p ↦ absurd (not_this a (many a ∷ ss) ts w n fits.0.0 stops p) | inr q ↦ q ],
)

only_again : (a : Pattern) (ts us : List Terminal) (o : Outcome) → starts a ts ≡ true → Only a ts (Done us) → Only (many a) us o → Only (many a) ts o
only_again a ts us (Done vs) begins (x, e, g) (y, f, k) = (
  x ++ y,
  e ∙ ap (λ z. x ++ z) f ∙ sym (append_assoc x y vs),
  λ ss w fits n d.
      let whole : ts ≡ (x ++ y) ++ vs = e ∙ ap (λ z. x ++ z) f ∙ sym (append_assoc x y vs) in
      let n2 : next (y ++ w) ≡ next us = next_front y w vs n ∙ ap next (sym f) in
      elim (of_many d) [
        | inl p ↦ k ss w fits n (g (many a ∷ ss) (y ++ w) (fits.0.2, fits) n2 (subst (Accepts (a ∷ many a ∷ ss)) (append_assoc x y w) p))
        | inr q ↦ absurd (not_other a ss ts ((x ++ y) ++ w) (still (x ++ y) w vs ts n whole) fits.0.1 begins q)
      ],
)
only_again a ts us (Stop vs) begins (x, e, g) (y, f, k) = (
  x ++ y,
  e ∙ ap (λ z. x ++ z) f ∙ sym (append_assoc x y vs),
  λ ss w fits n d.
      let whole : ts ≡ (x ++ y) ++ vs = e ∙ ap (λ z. x ++ z) f ∙ sym (append_assoc x y vs) in
      let n2 : next (y ++ w) ≡ next us = next_front y w vs n ∙ ap next (sym f) in
      elim (of_many d) [
        | inl p ↦ k ss w fits n (g (many a ∷ ss) (y ++ w) (fits.0.2, fits) n2 (subst (Accepts (a ∷ many a ∷ ss)) (append_assoc x y w) p))
        | inr q ↦ not_other a ss ts ((x ++ y) ++ w) (still (x ++ y) w vs ts n whole) fits.0.1 begins q
      ],
)
only_again a ts us (Deep vs) begins p q = tt

only_again_fails : (a : Pattern) (ts : List Terminal) (o : Outcome) → Fails o → starts a ts ≡ true → Only a ts o → Only (many a) ts o
only_again_fails a ts (Done vs) failed begins p = absurd failed
only_again_fails a ts (Stop vs) failed begins (x, e, g) = (
  x,
  e,
  λ ss w fits n d.
      elim (of_many d) [
        | inl p ↦ g (many a ∷ ss) w (fits.0.2, fits) n p
        | inr q ↦ not_other a ss ts (x ++ w) (still x w vs ts n e) fits.0.1 begins q
      ],
)
only_again_fails a ts (Deep vs) failed begins p = tt

not_next : (c : Terminal) (ts w us : List Terminal) → next w ≡ next ts → w ≡ c ∷ us → is_next c ts ≡ false → ⊥
not_next c [] w us n e h = let k : next w ≡ Some c = ap next e in cc
not_next c (b ∷ ts) w us n e h =
    let k : next w ≡ Some c = ap next e in
    let same_token : b ≡ c = cc in
    let P : Terminal → Type 0 = λ x. same c x ≡ false in
    let is_not : same c c ≡ false = subst P same_token h in
    let is : same c c ≡ true = same_self c in
    cc

only_region : (a : Pattern) (ts : List Terminal) (o : Outcome) → Only (both a (one RightBrace)) ts o → Only (region a) (LeftBrace ∷ ts) o
only_region a ts (Done us) (x, e, g) = (
  LeftBrace ∷ x,
  ap (λ z. LeftBrace ∷ z) e,
  λ ss w fits n d.
      let opened = of_one (of_deep d) in
      let inside = subst (Accepts (a ∷ one RightBrace ∷ ss)) (sym (tail_of opened.1)) opened.2 in
      let deeper = fits_deep a ss fits in
      g ss w ((deeper.0, tt), deeper.1.1) n (in_turn inside),
)
only_region a ts (Stop us) (x, e, g) = (
  LeftBrace ∷ x,
  ap (λ z. LeftBrace ∷ z) e,
  λ ss w fits n d.
      let opened = of_one (of_deep d) in
      let inside = subst (Accepts (a ∷ one RightBrace ∷ ss)) (sym (tail_of opened.1)) opened.2 in
      let deeper = fits_deep a ss fits in
      g ss w ((deeper.0, tt), deeper.1.1) n (in_turn inside),
)
only_region a ts (Deep us) p = tt

pub only : {n : ℕ} {r : Pattern} {ts : List Terminal} {o : Outcome} → Runs n r ts o → Only r ts o
only run_nothing = ([], refl, λ ss w fits n d. of_nothing d)
only (run_one {c}) = (c ∷ [], refl, λ ss w fits n d. let q = of_one d in subst (Accepts ss) (sym (tail_of q.1)) q.2)
only (run_other {c} {ts} h) = ([], refl, λ ss w fits n d. let q = of_one d in not_next c ts w q.0 n q.1 h)
only (run_line {f} {ts} {o} d) = only_line f ts o (only d)
only (run_both {a} {b} {ts} {us} {o} d k) = only_both a b ts us o (only d) (only k)
only (run_both_fails {a} {b} {ts} {o} d h) = only_both_fails a b ts o h (only d)
only (run_left {a} {b} {ts} {o} h d) = only_left a b ts o h (only d)
only (run_right {a} {b} {ts} {o} h d) = only_right a b ts o h (only d)
only (run_enough {a} {ts} h) = only_enough a ts h
only (run_again {a} {ts} {us} {o} h d k) = only_again a ts us o h (only d) (only k)
only (run_again_fails {a} {ts} {o} h d k) = only_again_fails a ts o k h (only d)
only (run_no_brace {a} {ts} h) = ([], refl, λ ss w fits n d. let q = of_one (of_deep d) in not_next LeftBrace ts w q.0 n q.1 h)
only (run_too_deep h) = tt
only (run_region {a} {ts} {o} h d) = only_region a ts o (only d)
