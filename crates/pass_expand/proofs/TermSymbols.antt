-- What holds of the symbols of a polynomial holds of the symbols of its terms.
use Rattle.std.proofs.Common.{ℕ, ◌/◌, inl, inr, List, [], ◌∷◌, ◌++◌, refl}
use Rattle.std.proofs.lemmas.Bool.{cases_eq, eq-eqb, ne_eqb}
use Rattle.arith_word.specs.declared.label.Label.{Label}
use Rattle.pass_expand.specs.Terms.{Term, symbol, terms, place_terms, some_term, terms_of}
use Rattle.scev_tree.specs.Polynomial.{Polynomial, Polynomials, num, ext, none, more}
use Rattle.scev_tree.specs.Standing.{Stands, StandsIn}

abbrev pub AllOf : (ℕ → Type 0) → List Label → Type 0
AllOf P [] = Unit {0}
AllOf P (x ∷ xs) = P x.0 × AllOf P xs

abbrev pub TermsOf : (ℕ → Type 0) → List Term → Type 0
TermsOf P [] = Unit {0}
TermsOf P (t ∷ ts) = AllOf P t.symbols × TermsOf P ts

pub all_weaker : (P Q : ℕ → Type 0) (xs : List Label) → ((l : ℕ) → P l → Q l) → AllOf P xs → AllOf Q xs
all_weaker P Q [] w h = tt
all_weaker P Q (x ∷ xs) w h = (w x.0 h.0, all_weaker P Q xs w h.1)

pub terms_weaker : (P Q : ℕ → Type 0) (ts : List Term) → ((l : ℕ) → P l → Q l) → TermsOf P ts → TermsOf Q ts
terms_weaker P Q [] w h = tt
terms_weaker P Q (t ∷ ts) w h = (all_weaker P Q t.symbols w h.0, terms_weaker P Q ts w h.1)

module _ (P : ℕ → Type 0) where
  terms_append : (ts us : List Term) → TermsOf P ts → TermsOf P us → TermsOf P (ts ++ us)
  terms_append [] us h g = g
  terms_append (t ∷ ts) us h g = (h.0, terms_append ts us h.1 g)

  mutual
    tree_symbols : (p : Polynomial) (symbols : List Label) → ((x : ℕ) → Stands x p → P (x / 2)) → AllOf P symbols → TermsOf P (terms p symbols)
    tree_symbols (num v) symbols h b = elim (cases_eq v 0) [ inl e ↦ rw (eq-eqb v 0 e) tt | inr ne ↦ rw (ne_eqb v 0 ne) (b, tt) ]
    tree_symbols (ext x ps) symbols h b = place_symbols x ps symbols (h x (inl refl)) (λ y s. h y (inr s)) b

    place_symbols : (x : ℕ) (ps : Polynomials) (symbols : List Label) → P (x / 2) → ((y : ℕ) → StandsIn y ps → P (y / 2)) → AllOf P symbols
        → TermsOf P (place_terms x ps symbols)
    place_symbols x none symbols here h b = tt
    place_symbols x (more p ps) symbols here h b =
        terms_append (terms p symbols) (place_terms x ps (symbol x ∷ symbols)) (tree_symbols p symbols (λ y s. h y (inl s)) b)
        (place_symbols x ps (symbol x ∷ symbols) here (λ y s. h y (inr s)) (here, b))

  some_symbols : (ts : List Term) → TermsOf P ts → TermsOf P (some_term ts)
  some_symbols [] h = (tt, tt)
  some_symbols (t ∷ ts) h = h

  pub symbols_of : (p : Polynomial) → ((x : ℕ) → Stands x p → P (x / 2)) → TermsOf P (terms_of p)
  symbols_of p h = some_symbols (terms p []) (tree_symbols p [] h tt)
