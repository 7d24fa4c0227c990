-- Held names with numbers in place of their expressions, as the program has them.
use Rattle.std.specs.Prelude.{ℕ, ◌≡◌, ◌<◌, ◌||◌, not, Bool, List, [], ◌∷◌, ◌++◌, Some, filter, slice_get, if◌then◌else◌}
use Rattle.std.specs.List.{list_any}
use Rattle.fresh_scev.specs.Expressions.{Expression}
use Rattle.scev_server.specs.Equal as equal
use Rattle.scev_server.specs.Equal.{Named, behind_blanks, is_one_with, member_text}
use Rattle.scev_server.specs.declared.equal.Member.{Member}

abbrev pub member_of : Member → equal.Member
member_of m = record { session = m.session.now; name = m.name.now; number = m.number }

-- whether two members have one number
abbrev pub is_one_of : Member → Member → Bool
is_one_of m other = is_one_with (member_of m) (member_of other)

-- n is the place of the first name with that expression, or how many names there are
pub record IsFirstEqual (held : List Named) (e : Expression) (n : ℕ) : Type 0 where
  pub at : (h : Named) → slice_get held n ≡ Some h → h.expr ≡ e
  pub before : (k : ℕ) (h : Named) → k < n → slice_get held k ≡ Some h → h.expr ≡ e → ⊥

-- the line of the class that a member begins, where it begins one of two or more
abbrev pub class_line : List equal.Member → equal.Member → List equal.Member → List ℕ
class_line before m ms =
    if list_any (is_one_with m) before || not (list_any (is_one_with m) ms) then []
    else member_text m ++ behind_blanks (filter (is_one_with m) ms) ++ 10 ∷ []
