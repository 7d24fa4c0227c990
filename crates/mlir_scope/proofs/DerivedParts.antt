-- Which tokens and lines a derived phrase has.
use Rattle.std.proofs.Common.{◌≡◌, ℕ, ◌+◌, ◌<◌, ◌≤◌, ◌==◌, ◌&&◌, ◌||◌, ◌⊎◌, inl, inr, not, Bool, true, false, List, [], ◌∷◌, ◌++◌, length, refl, ap, ◌∙◌, sym, subst, arith, length-append, Option, None, Some, if◌then◌else◌}
use Rattle.std.proofs.lemmas.Bool.{cases_Bool}
use Rattle.mlir_ir.specs.Grammar.{Pattern, one, line, both, either, many, region, body}
use Rattle.mlir_ir.specs.GrammarNumbers.{same, same_form}
use Rattle.mlir_ir.specs.Limits.{region_limit}
use Rattle.mlir_ir.specs.Phrases as phrases
use Rattle.mlir_ir.specs.Phrases.{Phrase, Line, lines, inside, has, behind}
use Rattle.mlir_ir.specs.declared.syntax.Form.{Form}
use Rattle.mlir_ir.specs.declared.syntax.Form.TheVariants as forms
use Rattle.mlir_ir.specs.declared.terminal.Terminal.{Terminal}
use Rattle.mlir_ir.specs.declared.terminal.Terminal.TheVariants as terminals
use Rattle.std.proofs.lemmas.Bool.{and_parts}
use Rattle.mlir_scope.proofs.NoBreaks.{Each}
use Rattle.mlir_scope.proofs.Deriving.{TokenFact, attach, Says, says_nothing, says_one, says_line, says_both, says_left, says_right, says_again, says_enough, says_region, form_is}
use Rattle.mlir_scope.proofs.Tests.{both_ways, eq_of, not_true, or_either, or_false, or_left, or_right}

pub not_both : (b : Bool) → b ≡ true → not b ≡ true → ⊥
not_both true h g = cc
not_both false h g = cc

-- phrases beside one another

has_attach : (c : Terminal) (x y : Phrase) → has c (attach x y) ≡ (has c x || has c y)
has_attach c phrases.done y = refl
has_attach c (phrases.token at d text rest) y = ap (λ b. same c d || b) (has_attach c rest y) ∙ or_assoc (same c d) (has c rest) (has c y)
  where
    or_assoc : (a b e : Bool) → (a || (b || e)) ≡ (a || b || e)
    or_assoc true b e = refl
    or_assoc false b e = refl
has_attach c (phrases.line f at parts rest) y = has_attach c rest y

lines_attach : (f : Form) (x y : Phrase) → lines f (attach x y) ≡ lines f x ++ lines f y
lines_attach f phrases.done y = refl
lines_attach f (phrases.token at d text rest) y = lines_attach f rest y
lines_attach f (phrases.line g at parts rest) y = more_lines (same_form f g) (record { at = at; parts = parts }) (lines f rest) (lines f y) (lines f (attach rest y)) (lines_attach f rest y)
  where
    more_lines : (b : Bool) (l : Line) (xs ys zs : List Line) → zs ≡ xs ++ ys → (if b then l ∷ zs else zs) ≡ (if b then l ∷ xs else xs) ++ ys
    more_lines true l xs ys zs e = ap (λ ls. l ∷ ls) e
    more_lines false l xs ys zs e = e

-- tokens that stand directly, with what they say; and lines, derived within at least k regions
abbrev pub Derived : ℕ → Form → Phrase → Type 0
Derived k f parts = (n : ℕ) × (k ≤ n) × Says n (body f) parts

abbrev pub Direct : ℕ → Phrase → Type 0
Direct k phrases.done = Unit {0}
Direct k (phrases.token at c text rest) = TokenFact c text × Direct k rest
Direct k (phrases.line f at parts rest) = Derived k f parts × Direct k rest

direct_attach : (k : ℕ) (x y : Phrase) → Direct k x → Direct k y → Direct k (attach x y)
direct_attach k phrases.done y h g = g
direct_attach k (phrases.token at c text rest) y h g = (h.0, direct_attach k rest y h.1 g)
direct_attach k (phrases.line f at parts rest) y h g = (h.0, direct_attach k rest y h.1 g)

pub direct : (k n : ℕ) (p : Pattern) (x : Phrase) → k ≤ n → Says n p x → Direct k x
direct k n p x le says_nothing = tt
direct k n p x le (says_one fact) = (fact, tt)
direct k n p x le (says_line h) = ((n, le, h), tt)
direct k n p x le (says_both {a = a} {b = b} {x = y} {y = z} h g e) = subst (Direct k) (sym e) (direct_attach k y z (direct k n a y le h) (direct k n b z le g))
direct k n p x le (says_left {a = a} h) = direct k n a x le h
direct k n p x le (says_right {b = b} h) = direct k n b x le h
direct k n p x le (says_again {a = a} {x = y} {y = z} h g e) = subst (Direct k) (sym e) (direct_attach k y z (direct k n a y le h) (direct k n (many a) z le g))
direct k n p x le says_enough = tt
direct k n p x le (says_region {a = a} less h) = direct k (n + 1) (both (one terminals.LeftBrace) (both a (one terminals.RightBrace))) x (omega arith) h

-- lines of one form, derived within at least k regions
abbrev pub Deep : ℕ → Form → Phrase → Type 0
Deep k f phrases.done = Unit {0}
Deep k f (phrases.token at c text rest) = Deep k f rest
Deep k f (phrases.line g at parts rest) = (same_form f g ≡ true → Derived k f parts) × Deep k f rest

-- each line of that form stands in a region
abbrev pub inner : Form → Pattern → Bool
inner f (line g) = not (same_form f g)
inner f (both a b) = inner f a && inner f b
inner f (either a b) = inner f a && inner f b
inner f (many a) = inner f a
inner f _ = true

deep_attach : (k : ℕ) (f : Form) (x y : Phrase) → Deep k f x → Deep k f y → Deep k f (attach x y)
deep_attach k f phrases.done y h g = g
deep_attach k f (phrases.token at c text rest) y h g = deep_attach k f rest y h g
deep_attach k f (phrases.line f2 at parts rest) y h g = (h.0, deep_attach k f rest y h.1 g)

pub deep_of : (k : ℕ) (f : Form) (x : Phrase) → Direct k x → Deep k f x
deep_of k f phrases.done h = tt
deep_of k f (phrases.token at c text rest) h = deep_of k f rest h.1
deep_of k f (phrases.line g at parts rest) h = (λ e. subst (λ f2. Derived k f2 parts) (sym (form_is f g e)) h.0, deep_of k f rest h.1)

pub deep : (f : Form) (n : ℕ) (p : Pattern) (x : Phrase) → inner f p ≡ true → Says n p x → Deep (n + 1) f x
deep f n p x i says_nothing = tt
deep f n p x i (says_one fact) = tt
deep f n p x i (says_line {f = g} h) = (λ e. absurd (not_both (same_form f g) e i), tt)
deep f n p x i (says_both {a = a} {b = b} {x = y} {y = z} h g e) =
    let w = and_parts (inner f a) (inner f b) i in
    subst (Deep (n + 1) f) (sym e) (deep_attach (n + 1) f y z (deep f n a y w.0 h) (deep f n b z w.1 g))
deep f n p x i (says_left {a = a} {b = b} h) = deep f n a x (and_parts (inner f a) (inner f b) i).0 h
deep f n p x i (says_right {a = a} {b = b} h) = deep f n b x (and_parts (inner f a) (inner f b) i).1 h
deep f n p x i (says_again {a = a} {x = y} {y = z} h g e) = subst (Deep (n + 1) f) (sym e) (deep_attach (n + 1) f y z (deep f n a y i h) (deep f n (many a) z i g))
deep f n p x i says_enough = tt
deep f n p x i (says_region {a = a} less h) =
    deep_of (n + 1) f x (direct (n + 1) (n + 1) (both (one terminals.LeftBrace) (both a (one terminals.RightBrace))) x (omega arith) h)

-- how many lines of a form each phrase has, where all have as many
abbrev pub counted : Form → Pattern → ℕ
counted f (line g) = if same_form f g then 1 else 0
counted f (both a b) = counted f a + counted f b
counted f (either a b) = counted f a
counted f (region a) = counted f a
counted f _ = 0

abbrev pub steady : Form → Pattern → Bool
steady f (both a b) = steady f a && steady f b
steady f (either a b) = steady f a && steady f b && (counted f a == counted f b)
steady f (many a) = steady f a && (counted f a == 0)
steady f (region a) = steady f a
steady f _ = true

one_line : (b : Bool) (l : Line) → length (if b then l ∷ [] else []) ≡ (if b then 1 else 0)
one_line true l = refl
one_line false l = refl

pub exact : (f : Form) (n : ℕ) (p : Pattern) (x : Phrase) → steady f p ≡ true → Says n p x → length (lines f x) ≡ counted f p
exact f n p x s says_nothing = refl
exact f n p x s (says_one fact) = refl
exact f n p x s (says_line {at = at} {f = g} {parts = parts} h) = one_line (same_form f g) (record { at = at; parts = parts })
exact f n p x s (says_both {a = a} {b = b} {x = y} {y = z} h g e) =
    let w = and_parts (steady f a) (steady f b) s in
    ap (λ q. length (lines f q)) e ∙ ap length (lines_attach f y z) ∙ length-append (lines f y) (lines f z) ∙ (λ j. exact f n a y w.0 h j + exact f n b z w.1 g j)
exact f n p x s (says_left {a = a} {b = b} h) =
    let w = and_parts (steady f a && steady f b) (counted f a == counted f b) s in
    exact f n a x (and_parts (steady f a) (steady f b) w.0).0 h
exact f n p x s (says_right {a = a} {b = b} h) =
    let w = and_parts (steady f a && steady f b) (counted f a == counted f b) s in
    exact f n b x (and_parts (steady f a) (steady f b) w.0).1 h ∙ sym (eq_of (counted f a) (counted f b) w.1)
exact f n p x s (says_again {a = a} {x = y} {y = z} h g e) =
    let w = and_parts (steady f a) (counted f a == 0) s in
    ap (λ q. length (lines f q)) e ∙ ap length (lines_attach f y z) ∙ length-append (lines f y) (lines f z) ∙ (λ j. (exact f n a y w.0 h ∙ eq_of (counted f a) 0 w.1) j + exact f n (many a) z s g j)
exact f n p x s says_enough = refl
exact f n p x s (says_region {a = a} less h) =
    exact f (n + 1) (both (one terminals.LeftBrace) (both a (one terminals.RightBrace))) x (all_true (steady f a) s) h ∙ only (counted f a)
  where
    all_true : (b : Bool) → b ≡ true → (true && (b && true)) ≡ true
    all_true true h = refl
    all_true false h = h

    only : (k : ℕ) → 0 + (k + 0) ≡ k
    only k = omega arith

-- whether each phrase has that token
abbrev pub must : Terminal → Pattern → Bool
must c (one d) = same c d
must c (both a b) = must c a || must c b
must c (either a b) = must c a && must c b
must c (region a) = must c a
must c _ = false

pub has_token : (c : Terminal) (n : ℕ) (p : Pattern) (x : Phrase) → must c p ≡ true → Says n p x → has c x ≡ true
has_token c n p x m says_nothing = cc
has_token c n p x m (says_one {c = d} fact) = or_left (same c d) false m
has_token c n p x m (says_line h) = cc
has_token c n p x m (says_both {a = a} {b = b} {x = y} {y = z} h g e) =
    ap (has c) e ∙ has_attach c y z ∙ (
    elim (or_either (must c a) (must c b) m) [
      | inl l ↦ or_left (has c y) (has c z) (has_token c n a y l h)
      | inr r ↦ or_right (has c y) (has c z) (has_token c n b z r g)
    ]
    )
has_token c n p x m (says_left {a = a} {b = b} h) = has_token c n a x (and_parts (must c a) (must c b) m).0 h
has_token c n p x m (says_right {a = a} {b = b} h) = has_token c n b x (and_parts (must c a) (must c b) m).1 h
has_token c n p x m (says_again h g e) = cc
has_token c n p x m says_enough = cc
has_token c n p x m (says_region {a = a} less h) =
    has_token c (n + 1) (both (one terminals.LeftBrace) (both a (one terminals.RightBrace))) x (or_right (same c terminals.LeftBrace) _ (or_left (must c a) (same c terminals.RightBrace) m)) h

-- whether a phrase without that token has no line of that form
abbrev pub guards : Terminal → Form → Pattern → Bool
guards c f (line g) = not (same_form f g)
guards c f (both a b) = must c a || must c b || (guards c f a && guards c f b)
guards c f (either a b) = guards c f a && guards c f b
guards c f (many a) = guards c f a
guards c f (region a) = guards c f a
guards c f _ = true

no_lines : (x y : List Line) → x ≡ [] → y ≡ [] → (x ++ y) ≡ []
no_lines [] y h g = g
no_lines (l ∷ x) y h g = cc

pub guarded : (c : Terminal) (f : Form) (n : ℕ) (p : Pattern) (x : Phrase) → guards c f p ≡ true → Says n p x → has c x ≡ false → lines f x ≡ []
guarded c f n p x g says_nothing b = refl
guarded c f n p x g (says_one fact) b = refl
guarded c f n p x g (says_line {f = f2} h) b = rw (not_true (same_form f f2) g) refl
guarded c f n p x g (says_both {a = a} {b = b} {x = y} {y = z} h k e) without =
    let parts : (has c y || has c z) ≡ false = sym (ap (has c) e ∙ has_attach c y z) ∙ without in
    let w = or_false (has c y) (has c z) parts in
    ap (lines f) e ∙ lines_attach f y z ∙ (
    elim (or_either (must c a || must c b) (guards c f a && guards c f b) g) [
      | inl some ↦ elim (or_either (must c a) (must c b) some) [
        | inl l ↦ absurd (both_ways (has c y) (has_token c n a y l h) w.0)
        | inr r ↦ absurd (both_ways (has c z) (has_token c n b z r k) w.1)
      ]
      | inr each ↦ let v = and_parts (guards c f a) (guards c f b) each in
          no_lines (lines f y) (lines f z) (guarded c f n a y v.0 h w.0) (guarded c f n b z v.1 k w.1)
    ]
    )
guarded c f n p x g (says_left {a = a} {b = b} h) without = guarded c f n a x (and_parts (guards c f a) (guards c f b) g).0 h without
guarded c f n p x g (says_right {a = a} {b = b} h) without = guarded c f n b x (and_parts (guards c f a) (guards c f b) g).1 h without
guarded c f n p x g (says_again {a = a} {x = y} {y = z} h k e) without =
    let parts : (has c y || has c z) ≡ false = sym (ap (has c) e ∙ has_attach c y z) ∙ without in
    let w = or_false (has c y) (has c z) parts in
    ap (lines f) e ∙ lines_attach f y z ∙ no_lines (lines f y) (lines f z) (guarded c f n a y g h w.0) (guarded c f n (many a) z g k w.1)
guarded c f n p x g says_enough without = refl
guarded c f n p x g (says_region {a = a} less h) without =
    guarded c f (n + 1) (both (one terminals.LeftBrace) (both a (one terminals.RightBrace))) x
    (or_right (same c terminals.LeftBrace || (must c a || same c terminals.RightBrace)) _ (or_right (must c a || same c terminals.RightBrace) _ (and_true (guards c f a) g))) h without
  where
    and_true : (b : Bool) → b ≡ true → (b && true) ≡ true
    and_true true h = refl
    and_true false h = h

-- whether each phrase opens a region
abbrev pub opens : Pattern → Bool
opens (region a) = true
opens (line f) = same_form forms.Region f
opens (both a b) = opens a || opens b
opens (either a b) = opens a && opens b
opens _ = false

region_less : (n : ℕ) (a : Pattern) (x : Phrase) → Says n (region a) x → n < region_limit
region_less n a x (says_region less h) = less

pub opened : (n : ℕ) (p : Pattern) (x : Phrase) → opens p ≡ true → Says n p x → n < region_limit
opened n p x o says_nothing = cc
opened n p x o (says_one fact) = cc
opened n p x o (says_line {f = f} {parts = parts} h) = region_less n _ parts (subst (λ g. Says n (body g) parts) (sym (form_is forms.Region f o)) h)
opened n p x o (says_both {a = a} {b = b} {x = y} {y = z} h k e) =
    elim (or_either (opens a) (opens b) o) [ inl l ↦ opened n a y l h | inr r ↦ opened n b z r k ]
opened n p x o (says_left {a = a} {b = b} h) = opened n a x (and_parts (opens a) (opens b) o).0 h
opened n p x o (says_right {a = a} {b = b} h) = opened n b x (and_parts (opens a) (opens b) o).1 h
opened n p x o (says_again h k e) = cc
opened n p x o says_enough = cc
opened n p x o (says_region less h) = less

-- the token that each phrase begins with
abbrev pub first : Pattern → Option Terminal
first (one c) = Some c
first (both a b) = first a
first _ = None

pub begins : (c : Terminal) (n : ℕ) (p : Pattern) (x : Phrase) → first p ≡ Some c → Says n p x → (at : ℕ) × (text : List ℕ) × (rest : Phrase) × (x ≡ phrases.token at c text rest) × TokenFact c text
begins c n p x e says_nothing = cc
begins c n p x e (says_one {at = at} {c = d} {text = text} fact) =
    let same : d ≡ c = cc in
    (at, text, phrases.done, ap (λ t. phrases.token at t text phrases.done) same, subst (λ t. TokenFact t text) same fact)
begins c n p x e (says_line h) = cc
begins c n p x e (says_both {a = a} {x = y} {y = z} h g i) =
    let w = begins c n a y e h in
    (w.0, w.1, attach w.2 z, i ∙ ap (λ q. attach q z) w.3, w.4)
begins c n p x e (says_left h) = cc
begins c n p x e (says_right h) = cc
begins c n p x e (says_again h g i) = cc
begins c n p x e says_enough = cc
begins c n p x e (says_region less h) = cc

-- parts of a phrase

pub inside_derived : (f : Form) (k : ℕ) (x : Phrase) → Direct k x → Derived k f (inside f x) ⊎ (inside f x ≡ phrases.done)
inside_derived f k phrases.done h = inr refl
inside_derived f k (phrases.token at c text rest) h = inside_derived f k rest h.1
inside_derived f k (phrases.line g at parts rest) h =
    elim (cases_Bool (same_form f g)) [
      | inl e ↦ inl (rw e (subst (λ f2. Derived k f2 parts) (sym (form_is f g e)) h.0))
      | inr e ↦ rw e (inside_derived f k rest h.1)
    ]

pub inside_some : (f : Form) (k n : ℕ) (x : Phrase) → Direct k x → length (lines f x) ≡ n + 1 → Derived k f (inside f x)
inside_some f k n phrases.done h e = absurd (omega arith)
inside_some f k n (phrases.token at c text rest) h e = inside_some f k n rest h.1 e
inside_some f k n (phrases.line g at parts rest) h e =
    elim (cases_Bool (same_form f g)) [
      | inl is ↦ rw is (subst (λ f2. Derived k f2 parts) (sym (form_is f g is)) h.0)
      | inr other ↦ rw other (inside_some f k n rest h.1 (rw other at e))
    ]

pub inside_none : (f : Form) (x : Phrase) → lines f x ≡ [] → inside f x ≡ phrases.done
inside_none f phrases.done e = refl
inside_none f (phrases.token at c text rest) e = inside_none f rest e
inside_none f (phrases.line g at parts rest) e =
    elim (cases_Bool (same_form f g)) [
      | inl is ↦ absurd (some_line (record { at = at; parts = parts }) (lines f rest) (rw is at e))
      | inr other ↦ rw other (inside_none f rest (rw other at e))
    ]
  where
    some_line : (l : Line) (ls : List Line) → (l ∷ ls) ≡ [] → ⊥
    some_line l ls e = cc

pub each_derived : (f : Form) (k : ℕ) (x : Phrase) → Deep k f x → Each (λ (l : Line). Derived k f l.parts) (lines f x)
each_derived f k phrases.done h = tt
each_derived f k (phrases.token at c text rest) h = each_derived f k rest h
each_derived f k (phrases.line g at parts rest) h =
    elim (cases_Bool (same_form f g)) [
      | inl is ↦ rw is (h.0 is, each_derived f k rest h.1)
      | inr other ↦ rw other (each_derived f k rest h.1)
    ]

pub direct_behind : (k : ℕ) (c : Terminal) (x : Phrase) → Direct k x → Direct k (behind c x)
direct_behind k c phrases.done h = tt
direct_behind k c (phrases.token at d text rest) h = elim (same c d) as (λ b. Direct k (if b then rest else behind c rest)) [ true ↦ h.1 | false ↦ direct_behind k c rest h.1 ]
direct_behind k c (phrases.line g at parts rest) h = direct_behind k c rest h.1
