-- The section of equal names: a line for each class of two or more held names whose expressions are equal, widths included.
use Rattle.std.specs.Prelude.{ℕ, ◌≡◌, ◌==◌, ◌||◌, ◌↔◌, not, Bool, List, [], ◌∷◌, ◌++◌, Some, codes, filter, length, slice_get, if◌then◌else◌}
use Rattle.std.specs.List.{list_any}
use Rattle.fresh_scev.specs.Expressions.{Expression}

-- a held name, with that of its session and its expression
pub record Named : Type 0 where
  pub session : List ℕ
  pub name : List ℕ
  pub expr : Expression

-- the same with a number in place of the expression
pub record Member : Type 0 where
  pub session : List ℕ
  pub name : List ℕ
  pub number : ℕ

-- members with the same names, such that one number is one expression
pub record AreNumbered (held : List Named) (members : List Member) : Type 0 where
  pub each : length members ≡ length held
  pub same : (i : ℕ) (h : Named) (m : Member) → slice_get held i ≡ Some h → slice_get members i ≡ Some m
      → (m.session ≡ h.session) × (m.name ≡ h.name)
  pub equal : (i j : ℕ) (h k : Named) (m n : Member) → slice_get held i ≡ Some h → slice_get held j ≡ Some k
      → slice_get members i ≡ Some m → slice_get members j ≡ Some n → (m.number ≡ n.number) ↔ (h.expr ≡ k.expr)

abbrev pub member_text : Member → List ℕ
member_text m = m.session ++ codes "." ++ m.name

abbrev pub behind_blanks : List Member → List ℕ
behind_blanks [] = []
behind_blanks (m ∷ ms) = codes " " ++ member_text m ++ behind_blanks ms

abbrev pub is_one_with : Member → Member → Bool
is_one_with a b = a.number == b.number

-- a line for each class of two or more, at its first member
abbrev pub class_lines : List Member → List Member → List ℕ
class_lines before [] = []
class_lines before (m ∷ ms) =
    (if list_any (is_one_with m) before || not (list_any (is_one_with m) ms) then []
    else member_text m ++ behind_blanks (filter (is_one_with m) ms) ++ 10 ∷ [])
    ++ class_lines (before ++ m ∷ []) ms

abbrev pub IsEqualSection : List Named → List ℕ → Type 0
IsEqualSection held text = (members : List Member) × AreNumbered held members × (text ≡ codes "== equal\n" ++ class_lines [] members)
