-- Labels and spans as far as they are listed.
use Rattle.std.proofs.Common.{◌≡◌, ℕ, suc, ◌+◌, ◌<◌, ◌≤◌, List, [], ◌∷◌, ◌++◌, length, get_or, drop, drop-cons, add-one, append_assoc, append-nil, ◌∙◌, sym}
use Rattle.std.proofs.lemmas.List.{drop_all}
use Rattle.arith_word.specs.declared.label.Label.{Label}
use Rattle.pass_copy.specs.Renaming.{span, links}
use Rattle.pass_copy.specs.declared.renaming.Span.{Span}
use Rattle.pass_copy.specs.Built.{label, labels_from}

pub more_links : (at at2 i : ℕ) (labels : List Label) (l : Label) (spans new all : List Span) → i < length labels → l ≡ get_or labels i l
    → new ≡ spans ++ span at 1 l.0 ∷ [] → at2 ≡ at + 1 → spans ++ links at (drop i labels) ≡ all → new ++ links at2 (drop (i + 1) labels) ≡ all
more_links at at2 i labels l spans new all h e n m inv =
    let dc : drop i labels ≡ get_or labels i l ∷ drop (suc i) labels = drop-cons labels i l h in
    let inv2 = rw (dc, ← e) at inv in
    rw (n, m, add-one i) (append_assoc spans (span at 1 l.0 ∷ []) (links (at + 1) (drop (suc i) labels)) ∙ inv2)

pub links_done : (at i : ℕ) (labels : List Label) (spans all : List Span) → length labels ≤ i → spans ++ links at (drop i labels) ≡ all → spans ≡ all
links_done at i labels spans all h inv = let e : drop i labels ≡ [] = drop_all i labels h in sym (append-nil spans) ∙ rw e at inv

pub more_labels : (at at2 n m : ℕ) (made new all : List Label) → n ≡ suc m → new ≡ made ++ label at ∷ [] → at2 ≡ at + 1
    → made ++ labels_from at n ≡ all → new ++ labels_from at2 m ≡ all
more_labels at at2 n m made new all s e p inv =
    let inv2 = rw s at inv in
    rw (e, p) (append_assoc made (label at ∷ []) (labels_from (at + 1) m) ∙ inv2)

pub labels_done : (at n : ℕ) (made all : List Label) → n ≡ 0 → made ++ labels_from at n ≡ all → made ≡ all
labels_done at n made all z inv = sym (append-nil made) ∙ rw z at inv
