-- Where the grammar accepts the name of an operation, it accepts `arith.constant`.
use Rattle.std.proofs.Common.{◌≡◌, Bool, true, false, ◌&&◌, ◌||◌, not, refl, List, [], ◌∷◌, ◌++◌, ◌⊎◌, inl, inr, ap, ◌∙◌, sym, subst, append_assoc}
use Rattle.std.proofs.lemmas.Bool.{cases_Bool, both_ways, and_parts, and_from, or_cases, or_left, or_right, not-true, not_from_false}
use Rattle.mlir_ir.specs.Grammar.{Pattern, nothing, one, line, both, either, many, region, body}
use Rattle.mlir_ir.specs.Texts.{Accepts, ends, no_more, token, by_line, in_turn, left, right, again, enough, in_region, IsText, BeginsText}
use Rattle.mlir_ir.specs.declared.terminal.Terminal.{Terminal}
use Rattle.mlir_ir.specs.declared.terminal.Terminal.TheVariants.{Return, Constant, Truth, Binary, FlaggedBinary, Cast, FlaggedCast, Compare, Select, Call, If, For, While, Condition, Yield}
use Rattle.mlir_ir.specs.declared.syntax.Form.{Form}
use Rattle.mlir_ir.specs.declared.syntax.Form.TheVariants.{Op, Kind}
use Rattle.mlir_parse.proofs.Bools.{every_form}

-- the name of an operation or of a terminator
abbrev pub is_operation : Terminal → Bool
is_operation Return = true
is_operation Constant = true
is_operation Binary = true
is_operation FlaggedBinary = true
is_operation Cast = true
is_operation FlaggedCast = true
is_operation Compare = true
is_operation Select = true
is_operation Call = true
is_operation If = true
is_operation For = true
is_operation While = true
is_operation Condition = true
is_operation Yield = true
is_operation _ = false

abbrev is_op : Form → Bool
is_op Op = true
is_op _ = false

abbrev is_kind : Form → Bool
is_kind Kind = true
is_kind _ = false

abbrev is_op_line : Pattern → Bool
is_op_line (line f) = is_op f
is_op_line _ = false

-- whether the pattern may begin with an operation's name where no other operation may stand; the flag says it of what follows the pattern
abbrev bare : Pattern → Bool → Bool
bare nothing after = after
bare (one c) after = is_operation c
bare (line f) after = false
bare (both a b) after = bare a (bare b after)
bare (either a b) after = bare a after || bare b after
bare (many a) after = not (is_op_line a) && (after || bare a true)
bare (region a) after = false

abbrev bare_stack : List Pattern → Bool
bare_stack [] = false
bare_stack (r ∷ ss) = bare r (bare_stack ss)

-- whether after each token of the pattern nothing is bare; the flag says whether what follows the pattern is bare
abbrev guarded : Pattern → Bool → Bool
guarded nothing after = true
guarded (one c) after = not after
guarded (line f) after = not after
guarded (both a b) after = guarded a (bare b after) && guarded b after
guarded (either a b) after = guarded a after && guarded b after
guarded (many a) after = guarded a (bare (many a) after)
guarded (region a) after = guarded a false && not (bare a false) && not after

abbrev Guarded : List Pattern → Type 0
Guarded [] = Unit {0}
Guarded (r ∷ ss) = (guarded r (bare_stack ss) ≡ true) × Guarded ss

body_guarded : (f : Form) → guarded (body f) false ≡ true
body_guarded f = every_form (λ g. guarded (body g) false) refl f

body_bare : (f : Form) → is_kind f ≡ false → bare (body f) false ≡ false
body_bare f other =
    elim (or_cases (is_kind f) (not (bare (body f) false)) (every_form (λ g. is_kind g || not (bare (body g) false)) refl f)) [
      | inl kind ↦ absurd (both_ways (is_kind f) other kind)
      | inr is ↦ not-true (bare (body f) false) is
    ]

-- what follows a pattern makes it bare, or doesn't matter
bare_more : (r : Pattern) (p q : Bool) → (p ≡ true → q ≡ true) → bare r p ≡ true → bare r q ≡ true
bare_more nothing p q le h = le h
bare_more (one c) p q le h = h
bare_more (line f) p q le h = h
bare_more (both a b) p q le h = bare_more a (bare b p) (bare b q) (bare_more b p q le) h
bare_more (either a b) p q le h =
    elim (or_cases (bare a p) (bare b p) h) [
      | inl first ↦ or_left (bare a q) (bare b q) (bare_more a p q le first)
      | inr second ↦ or_right (bare a q) (bare b q) (bare_more b p q le second)
    ]
bare_more (many a) p q le h =
    let parts = and_parts (not (is_op_line a)) (p || bare a true) h in
    and_from (not (is_op_line a)) (q || bare a true) parts.0
    (elim (or_cases p (bare a true) parts.1) [ inl after ↦ or_left q (bare a true) (le after) | inr repeated ↦ or_right q (bare a true) repeated ])
bare_more (region a) p q le h = h

-- a repetition of another pattern is bare where what follows it is
bare_after : (a : Pattern) (after : Bool) → is_op_line a ≡ false → after ≡ true → bare (many a) after ≡ true
bare_after a after other is = and_from (not (is_op_line a)) (after || bare a true) (not_from_false (is_op_line a) other) (or_left after (bare a true) is)

-- a repetition of another pattern is bare where the pattern is
bare_again : (a : Pattern) (before after : Bool) → is_op_line a ≡ false → bare a before ≡ true → bare (many a) after ≡ true
bare_again a before after other is =
    and_from (not (is_op_line a)) (after || bare a true) (not_from_false (is_op_line a) other) (or_right after (bare a true) (bare_more a before true (λ h. refl) is))

-- each suffix of a stack that has a match has a match
abbrev Each : List Pattern → Type 0
Each [] = Unit {0}
Each (r ∷ ss) = ((ts : List Terminal) × Accepts ss ts) × Each ss

each : {ss : List Pattern} {ts : List Terminal} → Accepts ss ts → Each ss
each ends = tt
each (no_more {ts = ts} d) = ((ts, d), each d)
each (token {ts = ts} d) = ((ts, d), each d)
each (by_line d) = each d
each (in_turn d) = (each d).1
each (left d) = each d
each (right d) = each d
each (again d) = (each d).1
each (enough {ts = ts} d) = ((ts, d), each d)
each (in_region d) = (each d).1.1

-- `arith.constant true` is an operation, without results as with them
constant_kind : {ss : List Pattern} {ts : List Terminal} → Accepts ss ts → Accepts (line Kind ∷ ss) (Constant ∷ Truth ∷ ts)
constant_kind d = by_line (left (in_turn (token (right (token d)))))

constant_op : {ss : List Pattern} {ts : List Terminal} → Accepts ss ts → Accepts (line Op ∷ ss) (Constant ∷ Truth ∷ ts)
constant_op d = by_line (in_turn (right (no_more (constant_kind d))))

-- a match goes on with `arith.constant` after the tokens
abbrev GoesOn : List Pattern → List Terminal → Type 0
GoesOn ss ts = (more : List Terminal) × Accepts ss (ts ++ Constant ∷ more)

-- so it does before operations, and in place of one
before_operations : (a : Pattern) (ss : List Pattern) (ts : List Terminal) → is_op_line a ≡ true → Accepts (many a ∷ ss) ts → GoesOn (many a ∷ ss) []
before_operations nothing ss ts is d = cc
before_operations (one c) ss ts is d = cc
before_operations (line f) ss ts is d = operations f is d
  where
    operations : (f : Form) → is_op f ≡ true → Accepts (many (line f) ∷ ss) ts → GoesOn (many (line f) ∷ ss) []
    operations Op is d = (Truth ∷ ts, again (constant_op d))
    operations _ is d = cc
before_operations (both a b) ss ts is d = cc
before_operations (either a b) ss ts is d = cc
before_operations (many a) ss ts is d = cc
before_operations (region a) ss ts is d = cc

in_place : (f : Form) (ss : List Pattern) → is_kind f ≡ true → Each (line f ∷ ss) → GoesOn (line f ∷ ss) []
in_place Kind ss is rest = (Truth ∷ rest.0.0, constant_kind rest.0.1)
in_place _ ss is rest = cc

-- either a match goes on with `arith.constant` after the tokens too, or no tokens come before a bare operation
abbrev Replaced : List Pattern → List Terminal → Type 0
Replaced ss ts = GoesOn ss ts ⊎ ((ts ≡ []) × (bare_stack ss ≡ true))

-- one more step, which keeps the tokens
step_with : {ss qs : List Pattern} (ts : List Terminal) → ((us : List Terminal) → Accepts qs us → Accepts ss us)
    → (ts ≡ [] → bare_stack qs ≡ true → Replaced ss ts) → Replaced qs ts → Replaced ss ts
step_with ts step other (inl (more, d)) = inl (more, step (ts ++ Constant ∷ more) d)
step_with ts step other (inr (none, is)) = other none is

no_tokens : {ss : List Pattern} (ts : List Terminal) → ts ≡ [] → GoesOn ss [] → Replaced ss ts
no_tokens {ss} ts none goes = inl (subst (GoesOn ss) (sym none) goes)

not_empty : (ts more : List Terminal) (t : Terminal) → [] ≡ ts ++ t ∷ more → ⊥
not_empty [] more t e = cc
not_empty (b ∷ ts) more t e = cc

at_token : (c : Terminal) (ss : List Pattern) (us ts : List Terminal) (t : Terminal) (more : List Terminal) → not (bare_stack ss) ≡ true → is_operation t ≡ true
    → c ∷ us ≡ ts ++ t ∷ more → ((vs : List Terminal) → us ≡ vs ++ t ∷ more → Replaced ss vs) → Replaced (one c ∷ ss) ts
at_token c ss us [] t more clear op e rest = let same_token : c ≡ t = cc in inr (refl, ap is_operation same_token ∙ op)
at_token c ss us (b ∷ vs) t more clear op e rest =
    let same_token : c ≡ b = cc in
    let tail : us ≡ vs ++ t ∷ more = cc in
    elim (rest vs tail) [
      | inl goes ↦ inl (goes.0, subst (λ z. Accepts (one c ∷ ss) (z ∷ (vs ++ Constant ∷ goes.0))) same_token (token goes.1))
      | inr none ↦ absurd (both_ways (bare_stack ss) (not-true (bare_stack ss) clear) none.1)
    ]

replaced : {ss : List Pattern} {w : List Terminal} → Accepts ss w → Guarded ss
    → (ts : List Terminal) (t : Terminal) (more : List Terminal) → is_operation t ≡ true → w ≡ ts ++ t ∷ more → Replaced ss ts
replaced ends g ts t more op e = absurd (not_empty ts more t e)
replaced (no_more d) g ts t more op e = step_with ts (λ us a. no_more a) (λ none is. inr (none, is)) (replaced d g.1 ts t more op e)
replaced (token {c = c} {ss = ss} {ts = us} d) g ts t more op e = at_token c ss us ts t more g.0 op e (λ vs tail. replaced d g.1 vs t more op tail)
replaced (by_line {f = f} {ss = ss} d) g ts t more op e =
    let clear : bare_stack ss ≡ false = not-true (bare_stack ss) g.0 in
    let inside : guarded (body f) (bare_stack ss) ≡ true = ap (guarded (body f)) clear ∙ body_guarded f in
    step_with ts
    (λ us a. by_line a)
    (λ none is.
    elim (cases_Bool (is_kind f)) [
      | inl kind ↦ no_tokens ts none (in_place f ss kind (each (by_line d)))
      | inr other ↦ absurd (both_ways (bare (body f) (bare_stack ss)) (ap (bare (body f)) clear ∙ body_bare f other) is)
    ])
    (replaced d (inside, g.1) ts t more op e)
replaced (in_turn {a = a} {b = b} {ss = ss} d) g ts t more op e =
    let parts = and_parts (guarded a (bare b (bare_stack ss))) (guarded b (bare_stack ss)) g.0 in
    step_with ts (λ us x. in_turn x) (λ none is. inr (none, is)) (replaced d (parts.0, (parts.1, g.1)) ts t more op e)
replaced (left {a = a} {b = b} {ss = ss} d) g ts t more op e =
    let parts = and_parts (guarded a (bare_stack ss)) (guarded b (bare_stack ss)) g.0 in
    step_with ts (λ us x. left x) (λ none is. inr (none, or_left (bare a (bare_stack ss)) (bare b (bare_stack ss)) is)) (replaced d (parts.0, g.1) ts t more op e)
replaced (right {a = a} {b = b} {ss = ss} d) g ts t more op e =
    let parts = and_parts (guarded a (bare_stack ss)) (guarded b (bare_stack ss)) g.0 in
    step_with ts (λ us x. right x) (λ none is. inr (none, or_right (bare a (bare_stack ss)) (bare b (bare_stack ss)) is)) (replaced d (parts.1, g.1) ts t more op e)
replaced (again {a = a} {ss = ss} {ts = w} d) g ts t more op e =
    step_with ts
    (λ us x. again x)
    (λ none is.
    elim (cases_Bool (is_op_line a)) [
      | inl ops ↦ no_tokens ts none (before_operations a ss w ops (again d))
      | inr other ↦ inr (none, bare_again a (bare (many a) (bare_stack ss)) (bare_stack ss) other is)
    ])
    (replaced d (g.0, g) ts t more op e)
replaced (enough {a = a} {ss = ss} {ts = w} d) g ts t more op e =
    step_with ts
    (λ us x. enough x)
    (λ none is.
    elim (cases_Bool (is_op_line a)) [
      | inl ops ↦ no_tokens ts none (before_operations a ss w ops (enough d))
      | inr other ↦ inr (none, bare_after a (bare_stack ss) other is)
    ])
    (replaced d g.1 ts t more op e)
replaced (in_region {a = a} {ss = ss} d) g ts t more op e =
    let outer = and_parts (guarded a false && not (bare a false)) (not (bare_stack ss)) g.0 in
    let inner = and_parts (guarded a false) (not (bare a false)) outer.0 in
    step_with ts (λ us x. in_region x) (λ none is. cc) (replaced d (inner.1, (inner.0, (outer.1, g.1))) ts t more op e)

-- where the name of an operation is accepted, `arith.constant` is
pub constant_for : (ts : List Terminal) (t : Terminal) → is_operation t ≡ true → BeginsText (ts ++ t ∷ []) → BeginsText (ts ++ Constant ∷ [])
constant_for ts t op (more, text) =
    elim (replaced text (refl, tt) ts t more op (append_assoc ts (t ∷ []) more)) [
      | inl goes ↦ (goes.0, subst IsText (sym (append_assoc ts (Constant ∷ []) goes.0)) goes.1)
      | inr none ↦ absurd (both_ways false refl none.1)
    ]
