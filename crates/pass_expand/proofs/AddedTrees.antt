-- The terms of a tree behind what is built: place by place.
use Rattle.std.proofs.Common.{◌≡◌, ℕ, zero, suc, ◌+◌, ◌*◌, ◌/◌, ◌%◌, ◌^◌, ◌-◌, Bool, true, false, List, [], ◌∷◌, ◌++◌, length, reverse, replicate, take, inl, inr, Option, Some, None, refl, ap, ◌∙◌, sym, subst, arith, append_assoc}
use Rattle.std.proofs.Math.Seq.{take-append_seam}
use Rattle.std.proofs.lemmas.List.{reverse-append}
use Rattle.arith_word.specs.declared.label.Label.{Label}
use Rattle.mlir_ir.specs.Operations.{Const}
use Rattle.mlir_ir.specs.Words.{bits_of}
use Rattle.mlir_ir.specs.declared.types.IrType.{IrType}
use Rattle.pass_copy.specs.Built.{label}
use Rattle.pass_copy.specs.declared.building.Out.{Out}
use Rattle.scev_tree.specs.Polynomial.{Polynomial, Polynomials, num, ext, none, more, variable_of}
use Rattle.pass_expand.specs.Added.{Adds}
use Rattle.pass_expand.specs.Expandable.{IsInSymbols, AreInSymbols}
use Rattle.pass_expand.specs.Expanded.{steps, sum_after, size, expansion_end}
use Rattle.pass_expand.specs.Terms.{Term, symbol, terms, place_terms, some_term, terms_of}
use Rattle.pass_expand.proofs.GivenNames.{adds_none, adds_then, adds_at}
use Rattle.pass_expand.proofs.JoinedSteps.{steps_append, after_append, after_first_term}

-- terms behind others

pub terms_then : (ty : IrType) (a b c : Out) (so_far now : Option Label) (ts us : List Term) → now ≡ sum_after a.at so_far ts → Adds a ty (steps ty a.at so_far ts) b
    → Adds b ty (steps ty b.at now us) c → Adds a ty (steps ty a.at so_far (ts ++ us)) c
terms_then ty a b c so_far now ts us e p q =
    let at = adds_at ty a b (steps ty a.at so_far ts) p in
    subst (λ does. Adds a ty does c)
    ((λ j. steps ty a.at so_far ts ++ steps ty (at j) (e j) us) ∙ sym (steps_append ty a.at so_far ts us))
    (adds_then ty a b c (steps ty a.at so_far ts) (steps ty b.at now us) p q)

pub after_then : (ty : IrType) (a b : Out) (so_far now : Option Label) (ts us : List Term) → now ≡ sum_after a.at so_far ts → Adds a ty (steps ty a.at so_far ts) b
    → sum_after b.at now us ≡ sum_after a.at so_far (ts ++ us)
after_then ty a b so_far now ts us e p =
    let at = adds_at ty a b (steps ty a.at so_far ts) p in
    (λ j. sum_after (at j) (e j) us) ∙ sym (after_append ty a.at so_far ts us)

-- symbols

pub symbol_of : (x : Label) → symbol (variable_of false x.0) ≡ x
symbol_of x = let e : (2 * x.0 + 1) / 2 ≡ x.0 = omega arith in ap label e

pub pushed_symbol : (s s2 : List Label) (x : Label) → s2 ≡ s ++ x ∷ [] → reverse s2 ≡ symbol (variable_of false x.0) ∷ reverse s
pushed_symbol s s2 x e =
    ap (λ (t : List Label). reverse t) e ∙ reverse-append s (x ∷ []) ∙ ap (λ (y : Label). y ∷ reverse s) (sym (symbol_of x))

one_more : (n : ℕ) (x : Label) → replicate n x ++ x ∷ [] ≡ replicate (suc n) x
one_more zero x = refl
one_more (suc n) x = ap (λ (t : List Label). x ∷ t) (one_more n x)

-- one place, and those behind it

pub place_then : (ty : IrType) (a b c : Out) (so_far now : Option Label) (x : Label) (s s2 : List Label) (p : Polynomial) (ps qs : Polynomials) → qs ≡ more p ps → s2 ≡ s ++ x ∷ []
    → now ≡ sum_after a.at so_far (terms p (reverse s)) → Adds a ty (steps ty a.at so_far (terms p (reverse s))) b
    → Adds b ty (steps ty b.at now (place_terms (variable_of false x.0) ps (reverse s2))) c
    → Adds a ty (steps ty a.at so_far (place_terms (variable_of false x.0) qs (reverse s))) c
place_then ty a b c so_far now x s s2 p ps qs e n v h g =
    subst (λ rs. Adds a ty (steps ty a.at so_far (place_terms (variable_of false x.0) rs (reverse s))) c) (sym e)
    (terms_then ty a b c so_far now (terms p (reverse s)) (place_terms (variable_of false x.0) ps (symbol (variable_of false x.0) ∷ reverse s)) v h
    (subst (λ (t : List Label). Adds b ty (steps ty b.at now (place_terms (variable_of false x.0) ps t)) c) (pushed_symbol s s2 x n) g))

pub place_after : (ty : IrType) (a b : Out) (so_far now : Option Label) (x : Label) (s s2 : List Label) (p : Polynomial) (ps qs : Polynomials) → qs ≡ more p ps → s2 ≡ s ++ x ∷ []
    → now ≡ sum_after a.at so_far (terms p (reverse s)) → Adds a ty (steps ty a.at so_far (terms p (reverse s))) b
    → sum_after b.at now (place_terms (variable_of false x.0) ps (reverse s2)) ≡ sum_after a.at so_far (place_terms (variable_of false x.0) qs (reverse s))
place_after ty a b so_far now x s s2 p ps qs e n v h =
    (λ j. sum_after b.at now (place_terms (variable_of false x.0) ps (pushed_symbol s s2 x n j)))
    ∙ after_then ty a b so_far now (terms p (reverse s)) (place_terms (variable_of false x.0) ps (symbol (variable_of false x.0) ∷ reverse s)) v h
    ∙ (λ j. sum_after a.at so_far (place_terms (variable_of false x.0) (sym e j) (reverse s)))

pub more_symbols : (s0 s s2 : List Label) (i : ℕ) (x : Label) → s ≡ s0 ++ replicate i x → s2 ≡ s ++ x ∷ [] → s2 ≡ s0 ++ replicate (i + 1) x
more_symbols s0 s s2 i x e f =
    let n : suc i ≡ i + 1 = omega arith in
    f ∙ ap (λ (t : List Label). t ++ x ∷ []) e ∙ append_assoc s0 (replicate i x) (x ∷ []) ∙ ap (λ (t : List Label). s0 ++ t) (one_more i x ∙ ap (λ k. replicate k x) n)

-- symbols that are taken off again
pub taken_off : (s s2 s3 : List Label) (n : ℕ) (x : Label) → s2 ≡ s ++ replicate n x → s3 ≡ take (length s) s2 → s3 ≡ s
taken_off s s2 s3 n x e f = f ∙ ap (λ (t : List Label). take (length s) t) e ∙ take-append_seam s (replicate n x)

-- no counters

pub no_counter : (c : Bool) (l : ℕ) (p : Polynomial) (ps : Polynomials) → p ≡ ext (variable_of c l) ps → IsInSymbols p → p ≡ ext (variable_of false l) ps
no_counter false l p ps e h = e
no_counter true l p ps e h =
    let odd : 2 * l % 2 ≡ 1 = (subst IsInSymbols e h) (2 * l) (inl refl) in
    absurd (omega arith)

pub places_plain : (x : ℕ) (p : Polynomial) (ps : Polynomials) → p ≡ ext x ps → IsInSymbols p → AreInSymbols ps
places_plain x p ps e h y s = (subst IsInSymbols e h) y (inr s)

pub first_plain : (p : Polynomial) (ps qs : Polynomials) → qs ≡ more p ps → AreInSymbols qs → IsInSymbols p
first_plain p ps qs e h y s = (subst AreInSymbols e h) y (inl s)

pub rest_plain : (p : Polynomial) (ps qs : Polynomials) → qs ≡ more p ps → AreInSymbols qs → AreInSymbols ps
rest_plain p ps qs e h y s = (subst AreInSymbols e h) y (inr s)

-- a number

pub number_zero : (ty : IrType) (out : Out) (v : ℕ) (so_far : Option Label) (symbols : List Label) → v ≡ 0 → Adds out ty (steps ty out.at so_far (terms (num v) symbols)) out
number_zero ty out v so_far symbols e = subst (λ n. Adds out ty (steps ty out.at so_far (terms (num n) symbols)) out) (sym e) (adds_none ty out)

-- a tree that is a number, or has places

pub tree_added : (ty : IrType) (a b : Out) (so_far : Option Label) (p q : Polynomial) (symbols : List Label) → q ≡ p → Adds a ty (steps ty a.at so_far (terms p symbols)) b
    → Adds a ty (steps ty a.at so_far (terms q symbols)) b
tree_added ty a b so_far p q symbols e h = subst (λ r. Adds a ty (steps ty a.at so_far (terms r symbols)) b) (sym e) h

pub tree_after : (at : ℕ) (now so_far : Option Label) (p q : Polynomial) (symbols : List Label) → q ≡ p → now ≡ sum_after at so_far (terms p symbols) → now ≡ sum_after at so_far (terms q symbols)
tree_after at now so_far p q symbols e h = h ∙ (λ j. sum_after at so_far (terms (sym e j) symbols))

-- the walk is at its end

pub places_done : (ty : IrType) (out : Out) (so_far : Option Label) (x : ℕ) (ps : Polynomials) (symbols : List Label) → ps ≡ none
    → Adds out ty (steps ty out.at so_far (place_terms x ps symbols)) out
places_done ty out so_far x ps symbols e = subst (λ qs. Adds out ty (steps ty out.at so_far (place_terms x qs symbols)) out) (sym e) (adds_none ty out)

pub places_left : (at : ℕ) (so_far all : Option Label) (x : ℕ) (ps : Polynomials) (symbols : List Label) → ps ≡ none → sum_after at so_far (place_terms x ps symbols) ≡ all → so_far ≡ all
places_left at so_far all x ps symbols e h = (λ j. sum_after at so_far (place_terms x (sym e j) symbols)) ∙ h

-- a whole expression

some_terms : (ty : IrType) (a b : Out) (value : Label) (ts : List Term) → Some value ≡ sum_after a.at None ts → Adds a ty (steps ty a.at None ts) b
    → (value.0 ≡ a.at + size (some_term ts) - 2) × Adds a ty (steps ty a.at None (some_term ts)) b
some_terms ty a b value [] e h = cc
some_terms ty a b value (t ∷ ts) e h =
    let f : Some value ≡ Some (label (a.at + size (t ∷ ts) - 2)) = e ∙ after_first_term a.at t ts in
    let g : value ≡ label (a.at + size (t ∷ ts) - 2) = cc in
    (ap (λ (l : Label). l.0) g, h)

zero_term : (ty : IrType) (a b : Out) (ts : List Term) → None ≡ sum_after a.at None ts → Adds a ty (steps ty a.at None ts) b → b.at ≡ a.at + size (some_term ts) - 2
zero_term ty a b [] e h = let at = adds_at ty a b [] h in omega arith
zero_term ty a b (t ∷ ts) e h =
    let f : None ≡ Some (label (a.at + size (t ∷ ts) - 2)) = e ∙ after_first_term a.at t ts in
    absurd (cc)

zero_steps : (ty : IrType) (a b c : Out) (ts : List Term) → None ≡ sum_after a.at None ts → Adds a ty (steps ty a.at None ts) b
    → Adds b ty (Const (0 % 2 ^ bits_of ty) ∷ []) c → Adds a ty (steps ty a.at None (some_term ts)) c
zero_steps ty a b c [] e h g = adds_then ty a b c [] (Const (0 % 2 ^ bits_of ty) ∷ []) h g
zero_steps ty a b c (t ∷ ts) e h g =
    let f : None ≡ Some (label (a.at + size (t ∷ ts) - 2)) = e ∙ after_first_term a.at t ts in
    absurd (cc)

-- the walk over a whole expression, which begins with no symbols
pub record Walked (ty : IrType) (a b : Out) (now : Option Label) (p : Polynomial) : Type 0 where
  pub value : now ≡ sum_after a.at None (terms p [])
  pub built : Adds a ty (steps ty a.at None (terms p [])) b

pub walked : (ty : IrType) (a b : Out) (now : Option Label) (p : Polynomial) (symbols : List Label) → symbols ≡ [] → now ≡ sum_after a.at None (terms p (reverse symbols))
    → Adds a ty (steps ty a.at None (terms p (reverse symbols))) b → Walked ty a b now p
walked ty a b now p symbols e v h = record {
  value = v ∙ (λ j. sum_after a.at None (terms p (reverse (e j))));
  built = subst (λ (s : List Label). Adds a ty (steps ty a.at None (terms p (reverse s))) b) e h;
}

module _ (ty : IrType) (a b : Out) (now : Option Label) (p : Polynomial) (w : Walked ty a b now p) where
  -- where it gave a sum

  pub whole_value : (value : Label) → now ≡ Some value → value.0 ≡ expansion_end a.at p
  whole_value value e = (some_terms ty a b value (terms p []) (sym e ∙ w.value) w.built).0

  pub whole_added : (value : Label) → now ≡ Some value → Adds a ty (steps ty a.at None (terms_of p)) b
  whole_added value e = (some_terms ty a b value (terms p []) (sym e ∙ w.value) w.built).1

  -- and where it gave none

  pub zero_value : now ≡ None → (l : Label) → l.0 ≡ b.at → l.0 ≡ expansion_end a.at p
  zero_value e l q = q ∙ zero_term ty a b (terms p []) (sym e ∙ w.value) w.built

  pub zero_added : now ≡ None → (c : Out) (ty' : IrType) → ty' ≡ ty → Adds b ty' (Const (0 % 2 ^ bits_of ty') ∷ []) c → Adds a ty (steps ty a.at None (terms_of p)) c
  zero_added e c ty' t g = zero_steps ty a b c (terms p []) (sym e ∙ w.value) w.built (subst (λ z. Adds b z (Const (0 % 2 ^ bits_of z) ∷ []) c) t g)
