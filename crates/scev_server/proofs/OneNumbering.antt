-- The section of equal names depends on the numbers of the members only by which of them are equal.
use Rattle.std.proofs.Common.{◌≡◌, ℕ, zero, suc, ◌==◌, ◌||◌, not, Bool, true, false, cond, if◌then◌else◌, codes, List, [], ◌∷◌, ◌++◌, length, slice_get, Some, inl, inr, refl, ap, sym, ◌∙◌, arith}
use Rattle.std.proofs.lemmas.Bool.{cases_eq, eq-eqb, ne_eqb}
use Rattle.std.proofs.lemmas.Option.{slice_get_cases, slice_get_within}
use Rattle.std.specs.List.{filter, list_any}
use Rattle.scev_server.specs.Equal.{Named, Member, AreNumbered, member_text, behind_blanks, is_one_with, class_lines, IsEqualSection}

-- two numbers are equal where two others are
same_test : (a b c d : ℕ) → (a ≡ b → c ≡ d) → (c ≡ d → a ≡ b) → (a == b) ≡ (c == d)
same_test a b c d f g = elim (cases_eq a b) [
  | inl e ↦ eq-eqb a b e ∙ sym (eq-eqb c d (f e))
  | inr n ↦ ne_eqb a b n ∙ sym (ne_eqb c d (λ e. n (g e)))
]

-- the line of a class, where there is one
abbrev class_line : Bool → List ℕ → List ℕ → List ℕ
class_line none begin more = if none then [] else begin ++ more ++ 10 ∷ []

-- members that are Like one another at each place
module _ (Like : Member → Member → Type 0) where
  abbrev Alike : List Member → List Member → Type 0
  Alike [] [] = Unit {0}
  Alike (x ∷ xs) (y ∷ ys) = Like x y × Alike xs ys
  Alike xs ys = ⊥

  alike_end : (x y : Member) → Like x y → (xs ys : List Member) → Alike xs ys → Alike (xs ++ x ∷ []) (ys ++ y ∷ [])
  alike_end x y l [] [] h = (l, tt)
  alike_end x y l (a ∷ xs) (b ∷ ys) h = (h.0, alike_end x y l xs ys h.1)
  alike_end x y l [] (b ∷ ys) h = absurd h
  alike_end x y l (a ∷ xs) [] h = absurd h

  alike_places : (xs ys : List Member) → length xs ≡ length ys → ((i : ℕ) (x y : Member) → slice_get xs i ≡ Some x → slice_get ys i ≡ Some y → Like x y) → Alike xs ys
  alike_places [] [] e h = tt
  alike_places (x ∷ xs) (y ∷ ys) e h = (h zero x y refl refl, alike_places xs ys (omega (arith, e)) (λ i. h (suc i)))
  alike_places [] (y ∷ ys) e h = absurd (omega (arith, e))
  alike_places (x ∷ xs) [] e h = absurd (omega (arith, e))

  module _ (texts : (x y : Member) → Like x y → member_text x ≡ member_text y)
      (tests : (x y v w : Member) → Like x y → Like v w → is_one_with x v ≡ is_one_with y w) where
    any_same : (x y : Member) → Like x y → (xs ys : List Member) → Alike xs ys → list_any (is_one_with x) xs ≡ list_any (is_one_with y) ys
    any_same x y l [] [] h = refl
    any_same x y l (v ∷ xs) (w ∷ ys) h =
        ap (λ b. b || list_any (is_one_with x) xs) (tests x y v w l h.0) ∙ ap (λ b. is_one_with y w || b) (any_same x y l xs ys h.1)
    any_same x y l [] (w ∷ ys) h = absurd h
    any_same x y l (v ∷ xs) [] h = absurd h

    picked_same : (b : Bool) (v w : Member) (vs ws : List Member) → member_text v ≡ member_text w → behind_blanks vs ≡ behind_blanks ws
        → behind_blanks (cond b (v ∷ vs) vs) ≡ behind_blanks (cond b (w ∷ ws) ws)
    picked_same true v w vs ws e f =
        ap (λ t. codes " " ++ t ++ behind_blanks vs) e ∙ ap (λ t. codes " " ++ member_text w ++ t) f
    picked_same false v w vs ws e f = f

    others_same : (x y : Member) → Like x y → (xs ys : List Member) → Alike xs ys → behind_blanks (filter (is_one_with x) xs) ≡ behind_blanks (filter (is_one_with y) ys)
    others_same x y l [] [] h = refl
    others_same x y l (v ∷ xs) (w ∷ ys) h =
        let vs = filter (is_one_with x) xs in
        ap (λ b. behind_blanks (cond b (v ∷ vs) vs)) (tests x y v w l h.0)
        ∙ picked_same (is_one_with y w) v w vs (filter (is_one_with y) ys) (texts v w h.0) (others_same x y l xs ys h.1)
    others_same x y l [] (w ∷ ys) h = absurd h
    others_same x y l (v ∷ xs) [] h = absurd h

    line_same : (x y : Member) → Like x y → (bs cs xs ys : List Member) → Alike bs cs → Alike xs ys
        → class_line (list_any (is_one_with x) bs || not (list_any (is_one_with x) xs)) (member_text x) (behind_blanks (filter (is_one_with x) xs))
        ≡ class_line (list_any (is_one_with y) cs || not (list_any (is_one_with y) ys)) (member_text y) (behind_blanks (filter (is_one_with y) ys))
    line_same x y l bs cs xs ys h g =
        ap (λ b. class_line (b || not (list_any (is_one_with x) xs)) (member_text x) (behind_blanks (filter (is_one_with x) xs))) (any_same x y l bs cs h)
        ∙ ap (λ b. class_line (list_any (is_one_with y) cs || not b) (member_text x) (behind_blanks (filter (is_one_with x) xs))) (any_same x y l xs ys g)
        ∙ ap (λ t. class_line (list_any (is_one_with y) cs || not (list_any (is_one_with y) ys)) t (behind_blanks (filter (is_one_with x) xs))) (texts x y l)
        ∙ ap (λ t. class_line (list_any (is_one_with y) cs || not (list_any (is_one_with y) ys)) (member_text y) t) (others_same x y l xs ys g)

    lines_same : (bs cs xs ys : List Member) → Alike bs cs → Alike xs ys → class_lines bs xs ≡ class_lines cs ys
    lines_same bs cs [] [] h g = refl
    lines_same bs cs (x ∷ xs) (y ∷ ys) h g =
        ap (λ t. t ++ class_lines (bs ++ x ∷ []) xs) (line_same x y g.0 bs cs xs ys h g.1)
        ∙ ap (λ t. class_line (list_any (is_one_with y) cs || not (list_any (is_one_with y) ys)) (member_text y) (behind_blanks (filter (is_one_with y) ys)) ++ t)
        (lines_same (bs ++ x ∷ []) (cs ++ y ∷ []) xs ys (alike_end x y g.0 bs cs h) g.1)
    lines_same bs cs [] (y ∷ ys) h g = absurd g
    lines_same bs cs (x ∷ xs) [] h g = absurd g

-- two numberings of the same names

text_same : (h : Named) (x y : Member) → (x.session ≡ h.session) × (x.name ≡ h.name) → (y.session ≡ h.session) × (y.name ≡ h.name) → member_text x ≡ member_text y
text_same h x y p q =
    ap (λ s. s ++ codes "." ++ x.name) (p.0 ∙ sym q.0) ∙ ap (λ s. y.session ++ codes "." ++ s) (p.1 ∙ sym q.1)

module _ (held : List Named) (ms ns : List Member) (a : AreNumbered held ms) (b : AreNumbered held ns) where
  -- they number one name
  abbrev NumberOne : Member → Member → Type 0
  NumberOne x y = (i : ℕ) × (h : Named) × (slice_get held i ≡ Some h) × (slice_get ms i ≡ Some x) × (slice_get ns i ≡ Some y)

  one_text : (x y : Member) → NumberOne x y → member_text x ≡ member_text y
  one_text x y p = text_same p.1 x y (a.same p.0 p.1 x p.2 p.3) (b.same p.0 p.1 y p.2 p.4)

  one_test : (x y v w : Member) → NumberOne x y → NumberOne v w → is_one_with x v ≡ is_one_with y w
  one_test x y v w p q =
      let s = a.equal p.0 q.0 p.1 q.1 x v p.2 q.2 p.3 q.3 in
      let t = b.equal p.0 q.0 p.1 q.1 y w p.2 q.2 p.4 q.4 in
      same_test x.number v.number y.number w.number (λ e. t.1 (s.0 e)) (λ e. s.1 (t.0 e))

  one_place : (i : ℕ) (x y : Member) → slice_get ms i ≡ Some x → slice_get ns i ≡ Some y → NumberOne x y
  one_place i x y e f = elim (slice_get_cases held i).1 [
    | inl h ↦ (i, h.0, h.2, e, f)
    | inr g ↦ absurd (omega (arith, g.0, a.each, slice_get_within ms i x e))
  ]

  numbering_one : class_lines [] ms ≡ class_lines [] ns
  numbering_one = lines_same NumberOne one_text one_test [] [] ms ns tt (alike_places NumberOne ms ns (a.each ∙ sym b.each) one_place)

pub section_one : (held : List Named) (t u : List ℕ) → IsEqualSection held t → IsEqualSection held u → t ≡ u
section_one held t u p q = p.2 ∙ ap (λ lines. codes "== equal\n" ++ lines) (numbering_one held p.0 q.0 p.1 q.1) ∙ sym q.2
