-- Functions that a syntax stands for have their places as indices, and different names.
use Rattle.std.proofs.Common.{◌≡◌, ℕ, zero, suc, ◌+◌, true, false, List, [], ◌∷◌, map, slice_get, refl, ap, ◌∙◌, sym, arith, Some, true≢false}
use Rattle.std.proofs.lemmas.Slice.Eq.{bytes_eq-Decides}
use Rattle.std.specs.Str.{bytes_eq}
use Rattle.mlir_ir.specs.Calls.{ArePlaced, AreNamedApart}
use Rattle.mlir_ir.specs.Phrases.{Line}
use Rattle.mlir_ir.specs.Reads.{phrase_in, plain_func}
use Rattle.mlir_ir.specs.Resolved.{PlainFunc, func_of, funcs_from, func_lines, func_name}
use Rattle.mlir_ir.specs.ScopeFaults.{repeated, is_defined, func_names}
use Rattle.mlir_ir.specs.declared.scope_kind.ScopeKind.TheVariants.{Twice}
use Rattle.mlir_ir.specs.declared.syntax.Syntax.{Syntax}
use Rattle.mlir_ir.specs.declared.types.Func.{Func}
use Rattle.mlir_scope.specs.StandingFunctions.{AreFunctionsOf}
use Rattle.mlir_scope.proofs.NoBreaks.{none_append, not_broken, text_parts}
use Rattle.mlir_scope.proofs.Tests.{or_false}

-- the function at a place and its line
pub line_at : (names : List (List ℕ)) (at : ℕ) (ls : List Line) (funcs : List Func) → map plain_func funcs ≡ funcs_from names at ls
    → (k : ℕ) (f : Func) → slice_get funcs k ≡ Some f → (l : Line) × (slice_get ls k ≡ Some l) × (plain_func f ≡ func_of names (at + k) l)
line_at names at ls [] h k f e = cc
line_at names at [] (g ∷ funcs) h k f e = cc
line_at names at (l ∷ ls) (g ∷ funcs) h zero f e =
    let same : g ≡ f = cc in
    let head : plain_func g ≡ func_of names at l = cc in
    let here : at + 0 ≡ at = omega arith in
    (l, refl, rw here (ap plain_func (sym same) ∙ head))
line_at names at (l ∷ ls) (g ∷ funcs) h (suc k) f e =
    let tail : map plain_func funcs ≡ funcs_from names (at + 1) ls = cc in
    let rest = line_at names (at + 1) ls funcs tail k f e in
    let here : at + suc k ≡ at + 1 + k = omega arith in
    (rest.0, rest.1, rw here rest.2)

pub are_placed : (s : Syntax) (funcs : List Func) → AreFunctionsOf s funcs → ArePlaced funcs
are_placed s funcs h k f e =
    let found = line_at _ 0 (func_lines (phrase_in s)) funcs h.same k f e in
    let is : f.index ≡ 0 + k = ap (λ (p : PlainFunc). p.index) found.2 in
    omega arith

-- names

same_name : (x y : List ℕ) → x ≡ y → bytes_eq x y ≡ true
same_name x y e = (bytes_eq-Decides x y).1 e

-- of definitions that none repeats, none is among the names before
not_before : (seen : List (List ℕ)) (ls : List Line) → repeated seen (func_names ls) ≡ [] → (k : ℕ) (l : Line) → slice_get ls k ≡ Some l → is_defined (func_name l) seen ≡ false
not_before seen [] h k l e = cc
not_before seen (x ∷ ls) h zero l e =
    let same : x ≡ l = cc in
    rw (← same) (not_broken _ _ Twice (none_append _ _ h).0)
not_before seen (x ∷ ls) h (suc k) l e =
    (or_false (bytes_eq (func_name l) (func_name x)) (is_defined (func_name l) seen) (not_before (func_name x ∷ seen) ls (none_append _ _ h).1 k l e)).1

other_name : (seen : List (List ℕ)) (x : Line) (ls : List Line) → repeated seen (func_names (x ∷ ls)) ≡ [] → (k : ℕ) (l : Line) → slice_get ls k ≡ Some l
    → func_name l ≡ func_name x → ⊥
other_name seen x ls h k l e same =
    let other = (or_false (bytes_eq (func_name l) (func_name x)) (is_defined (func_name l) seen) (not_before (func_name x ∷ seen) ls (none_append _ _ h).1 k l e)).0 in
    true≢false (sym (same_name (func_name l) (func_name x) same) ∙ other)

apart : (seen : List (List ℕ)) (ls : List Line) → repeated seen (func_names ls) ≡ []
    → (i j : ℕ) (a b : Line) → slice_get ls i ≡ Some a → slice_get ls j ≡ Some b → func_name a ≡ func_name b → i ≡ j
apart seen [] h i j a b d e same = cc
apart seen (x ∷ ls) h zero zero a b d e same = refl
apart seen (x ∷ ls) h zero (suc j) a b d e same =
    let here : x ≡ a = cc in
    absurd (other_name seen x ls h j b e (sym same ∙ ap func_name (sym here)))
apart seen (x ∷ ls) h (suc i) zero a b d e same =
    let here : x ≡ b = cc in
    absurd (other_name seen x ls h i a d (same ∙ ap func_name (sym here)))
apart seen (x ∷ ls) h (suc i) (suc j) a b d e same = ap suc (apart (func_name x ∷ seen) ls (none_append _ _ h).1 i j a b d e same)

pub are_apart : (s : Syntax) (funcs : List Func) → AreFunctionsOf s funcs → AreNamedApart funcs
are_apart s funcs h i j f g d e same =
    let a = line_at _ 0 (func_lines (phrase_in s)) funcs h.same i f d in
    let b = line_at _ 0 (func_lines (phrase_in s)) funcs h.same j g e in
    let name_a : f.name ≡ func_name a.0 = ap (λ (p : PlainFunc). p.name) a.2 in
    let name_b : g.name ≡ func_name b.0 = ap (λ (p : PlainFunc). p.name) b.2 in
    apart [] (func_lines (phrase_in s)) (text_parts s.tokens (phrase_in s) h.keeps).names i j a.0 b.0 a.1 b.1 (sym name_a ∙ same ∙ name_b)
