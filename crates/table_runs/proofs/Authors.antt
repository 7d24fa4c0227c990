-- Passes and their authors.
use Rattle.std.proofs.Common.{◌≡◌, ℕ, ◌<◌, List, [], ◌∷◌, ◌++◌, length, get_or, ap, ◌∙◌, refl, subst, arith}
use Rattle.std.proofs.lemmas.List.{get_or_append_left, get_or_push, length_push}
use Rattle.atomic_table.specs.Seated.{TableId}
use Rattle.step_core.specs.Maps.{times}
use Rattle.step_core.specs.Words.{IsSize}
use Rattle.shared_table.specs.declared.sizes.Sizes.{Sizes}
use Rattle.shared_table.specs.Known.{Known, IsPassOf}
use Rattle.shared_table.specs.Opening.{AreDealt}
use Rattle.table_runs.specs.Plain.{AreAllOf}

pub has_author : (a : ℕ) (l : List ℕ) → 0 < times a l → 0 < length l
has_author a [] h = h
has_author a (x ∷ xs) h = omega arith

pub is_64 : IsSize 64
is_64 = record { power = (6, refl); least = omega arith; greatest = omega arith }

pub is_65536 : IsSize 65536
is_65536 = record { power = (16, refl); least = omega arith; greatest = omega arith }

-- the last pass, and those before it
pub last_of : (table : TableId) (sizes : Sizes) (all front : List Known) (p : Known) → all ≡ front ++ p ∷ [] → AreAllOf table sizes all → IsPassOf table sizes p
last_of table sizes all front p is each =
    let long : length front < length all = (let l = ap length is in omega (arith, length_push front p, l)) in
    let here = each (length front) p long in
    subst (λ (q : Known). IsPassOf table sizes q) ((ap (λ (l : List Known). get_or l (length front) p) is) ∙ get_or_push front p p (length front) (λ k. length front)) here

pub fronts : (table : TableId) (sizes : Sizes) (all front : List Known) (p : Known) → all ≡ front ++ p ∷ [] → AreAllOf table sizes all → AreAllOf table sizes front
fronts table sizes all front p is each i d lt =
    let long : i < length all = (let l = ap length is in omega (arith, length_push front p, l)) in
    subst (λ (q : Known). IsPassOf table sizes q) ((ap (λ (l : List Known). get_or l i d) is) ∙ get_or_append_left front (p ∷ []) d i lt) (each i d long)

pub all_dealt : (base : List ℕ) (table : TableId) (sizes : Sizes) (count : ℕ) (ps : List Known) → length ps ≡ count → AreDealt base count table sizes ps → AreAllOf table sizes ps
all_dealt base table sizes count ps long each i d lt = (each i d (subst (λ (n : ℕ). i < n) long lt)).of
