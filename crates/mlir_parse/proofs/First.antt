-- The terminals that a match of a pattern may begin with.
use Rattle.std.proofs.Common.{◌≡◌, Bool, true, false, ◌||◌, ◌&&◌, refl, List, [], ◌∷◌}
use Rattle.std.specs.List.{list_all}
use Rattle.mlir_parse.specs.Tables.{terminals, first, empty, first_line, empty_line}
use Rattle.mlir_ir.specs.Grammar.{Pattern, body}
use Rattle.mlir_ir.specs.Texts.{Accepts, ends, no_more, token, by_line, in_turn, left, right, again, enough, in_region}
use Rattle.mlir_parse.proofs.Bools.{every_terminal, every_form, agree, agree_is, same_self, in_turn_true, left_true, right_true, again_true, enough_true, and_right}
use Rattle.mlir_ir.specs.declared.terminal.Terminal.{Terminal}
use Rattle.mlir_ir.specs.declared.syntax.Form.{Form}

abbrev pub firsts : List Pattern → Terminal → Bool
firsts [] c = false
firsts (r ∷ ss) c = first r c || (empty r && firsts ss c)

abbrev pub empties : List Pattern → Bool
empties [] = true
empties (r ∷ ss) = empty r && empties ss

pub first_body : (f : Form) (c : Terminal) → first (body f) c ≡ first_line f c
first_body f c =
    agree_is _ _ (every_terminal (λ d. agree (first (body f) d) (first_line f d)) (every_form (λ g. list_all (λ d. agree (first (body g) d) (first_line g d)) terminals) refl f) c)

pub empty_body : (f : Form) → empty (body f) ≡ empty_line f
empty_body f = agree_is _ _ (every_form (λ g. agree (empty (body g)) (empty_line g)) refl f)

pub first_of : {ss : List Pattern} {c : Terminal} {us : List Terminal} → Accepts ss (c ∷ us) → firsts ss c ≡ true
first_of (no_more d) = first_of d
first_of {c} (token {ss = ss} d) = rw (same_self c) refl
first_of {c} (by_line {f} {ss = ss} d) = rw (← first_body f c, ← empty_body f) (first_of d)
first_of {c} (in_turn {a} {b} {ss = ss} d) = in_turn_true (first a c) (empty a) (first b c) (empty b) (firsts ss c) (first_of d)
first_of {c} (left {a} {b} {ss = ss} d) = left_true (first a c) (empty a) (first b c) (empty b) (firsts ss c) (first_of d)
first_of {c} (right {a} {b} {ss = ss} d) = right_true (first a c) (empty a) (first b c) (empty b) (firsts ss c) (first_of d)
first_of {c} (again {a} {ss = ss} d) = again_true (first a c) (empty a) (firsts ss c) (first_of d)
first_of {c} (enough {a} {ss = ss} d) = enough_true (first a c) (firsts ss c) (first_of d)
first_of (in_region d) = first_of d

empty_turn : (p q s : Bool) → (p && (q && s)) ≡ true → ((p && q) && s) ≡ true
empty_turn true q s h = h
empty_turn false q s h = h

empty_left : (p q s : Bool) → (p && s) ≡ true → ((p || q) && s) ≡ true
empty_left true q s h = h
empty_left false q s h = cc

empty_right : (p q s : Bool) → (q && s) ≡ true → ((p || q) && s) ≡ true
empty_right true true s h = h
empty_right true false s h = cc
empty_right false q s h = h

pub empties_of : {ss : List Pattern} → Accepts ss [] → empties ss ≡ true
empties_of ends = refl
empties_of (no_more d) = empties_of d
empties_of (by_line {f} {ss = ss} d) = rw (← empty_body f) (empties_of d)
empties_of (in_turn {a} {b} {ss = ss} d) = empty_turn (empty a) (empty b) (empties ss) (empties_of d)
empties_of (left {a} {b} {ss = ss} d) = empty_left (empty a) (empty b) (empties ss) (empties_of d)
empties_of (right {a} {b} {ss = ss} d) = empty_right (empty a) (empty b) (empties ss) (empties_of d)
empties_of (again {a} {ss = ss} d) = and_right (empty a) (empties ss) (empties_of d)
empties_of (enough d) = empties_of d
empties_of (in_region d) = empties_of d
