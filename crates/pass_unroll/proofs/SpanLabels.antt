-- What a label gets by spans.
use Rattle.std.proofs.Common.{◌≡◌, ℕ, zero, suc, ◌+◌, ◌-◌, ◌<◌, ◌≤◌, List, [], ◌∷◌, ◌++◌, length, refl, ap, ◌∙◌, arith}
use Rattle.std.proofs.lemmas.Bool.{le-leb, lt-leb, lt-ltb, le-ltb}
use Rattle.arith_word.specs.declared.label.Label.{Label}
use Rattle.pass_copy.specs.Renaming.{span, links, renamed}
use Rattle.pass_copy.specs.declared.renaming.Span.{Span}

-- label number i of a list
abbrev pub pick : List Label → ℕ → ℕ
pick [] i = 0
pick (l ∷ ls) zero = l.0
pick (l ∷ ls) (suc i) = pick ls i

module _ (start count to : ℕ) (spans : List Span) where
  pub span_has : (l : ℕ) → start ≤ l → l < start + count → renamed (span start count to ∷ spans) l ≡ l - start + to
  span_has l low high = rw (le-leb start l low, lt-ltb l (start + count) high) refl

  pub span_before : (l : ℕ) → l < start → renamed (span start count to ∷ spans) l ≡ renamed spans l
  span_before l h = rw (lt-leb start l h) refl

  pub span_behind : (l : ℕ) → start + count ≤ l → renamed (span start count to ∷ spans) l ≡ renamed spans l
  span_behind l h = let low : start ≤ l = omega arith in rw (le-leb start l low, le-ltb l (start + count) h) refl

pub links_before : (start : ℕ) (ls : List Label) (spans : List Span) (l : ℕ) → l < start → renamed (links start ls ++ spans) l ≡ renamed spans l
links_before start [] spans l h = refl
links_before start (x ∷ ls) spans l h = span_before start 1 x.0 (links (start + 1) ls ++ spans) l h ∙ links_before (start + 1) ls spans l (omega arith)

pub links_behind : (start : ℕ) (ls : List Label) (spans : List Span) (l : ℕ) → start + length ls ≤ l → renamed (links start ls ++ spans) l ≡ renamed spans l
links_behind start [] spans l h = refl
links_behind start (x ∷ ls) spans l h = span_behind start 1 x.0 (links (start + 1) ls ++ spans) l (omega arith) ∙ links_behind (start + 1) ls spans l (omega arith)

pub links_has : (start : ℕ) (ls : List Label) (spans : List Span) (i : ℕ) → i < length ls → renamed (links start ls ++ spans) (start + i) ≡ pick ls i
links_has start [] spans i h = absurd (omega arith)
links_has start (x ∷ ls) spans zero h =
    let e : start + 0 - start + x.0 ≡ x.0 = omega arith in
    span_has start 1 x.0 (links (start + 1) ls ++ spans) (start + 0) (omega arith) (omega arith) ∙ e
links_has start (x ∷ ls) spans (suc i) h =
    let e : start + suc i ≡ start + 1 + i = omega arith in
    span_behind start 1 x.0 (links (start + 1) ls ++ spans) (start + suc i) (omega arith)
    ∙ (ap (renamed (links (start + 1) ls ++ spans)) e ∙ links_has (start + 1) ls spans i (omega arith))
