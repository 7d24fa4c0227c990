-- The line of a class, over the program's members.
use Rattle.std.proofs.Common.{◌≡◌, ℕ, ◌||◌, ◌&&◌, not, Bool, true, false, List, [], ◌∷◌, ◌++◌, ◌∙◌, map, ap, sym, refl, append_assoc}
use Rattle.std.proofs.lemmas.Bool.{cond-true, cond-false}
use Rattle.std.proofs.lemmas.List.{append-nil}
use Rattle.std.specs.List.{filter, list_any}
use Rattle.scev_server.specs.Equal.{behind_blanks, is_one_with, member_text}
use Rattle.scev_server.specs.Members.{class_line, is_one_of, member_of}
use Rattle.scev_server.specs.declared.equal.Member.{Member}

any_map : {X Y : Type 0} (p : Y → Bool) (f : X → Y) (xs : List X) → list_any p (map f xs) ≡ list_any (λ x. p (f x)) xs
any_map p f [] = refl
any_map p f (x ∷ xs) = ap (λ b. p (f x) || b) (any_map p f xs)

-- whether m begins a class of two or more
abbrev pub is_first : List Member → Member → List Member → Bool
is_first before m behind = not (list_any (is_one_of m) before) && list_any (is_one_of m) behind

or_not : (a b : Bool) → (a || not b) ≡ not (not a && b)
or_not true b = refl
or_not false true = refl
or_not false false = refl

none_is : (before behind : List Member) (m : Member) → (list_any (is_one_with (member_of m)) (map member_of before) || not (list_any (is_one_with (member_of m)) (map member_of behind))) ≡ not (is_first before m behind)
none_is before behind m =
    ap (λ b. b || not (list_any (is_one_with (member_of m)) (map member_of behind))) (any_map (is_one_with (member_of m)) member_of before)
    ∙ ap (λ b. list_any (is_one_of m) before || not b) (any_map (is_one_with (member_of m)) member_of behind)
    ∙ or_not (list_any (is_one_of m) before) (list_any (is_one_of m) behind)

abbrev pub line_text : Member → List Member → List ℕ
line_text m behind = member_text (member_of m) ++ behind_blanks (filter (is_one_with (member_of m)) (map member_of behind)) ++ 10 ∷ []

class_of_none : (before behind : List Member) (m : Member) → is_first before m behind ≡ false → class_line (map member_of before) (member_of m) (map member_of behind) ≡ []
class_of_none before behind m h = cond-true _ [] (line_text m behind) (none_is before behind m ∙ ap not h)

class_of_more : (before behind : List Member) (m : Member) → is_first before m behind ≡ true → class_line (map member_of before) (member_of m) (map member_of behind) ≡ line_text m behind
class_of_more before behind m h = cond-false _ [] (line_text m behind) (none_is before behind m ∙ ap not h)

pub none_added : (before behind : List Member) (m : Member) (out : List ℕ) → is_first before m behind ≡ false → out ≡ out ++ class_line (map member_of before) (member_of m) (map member_of behind)
none_added before behind m out h = sym (ap (λ t. out ++ t) (class_of_none before behind m h) ∙ append-nil out)

parted : (out text blanks end : List ℕ) → ((out ++ text) ++ blanks) ++ end ≡ out ++ (text ++ blanks ++ end)
parted out text blanks end = simp append_assoc

-- a line that is written in three parts
pub line_added : (before behind : List Member) (m : Member) (out first others whole : List ℕ) → is_first before m behind ≡ true
    → first ≡ out ++ member_text (member_of m) → others ≡ first ++ behind_blanks (filter (is_one_with (member_of m)) (map member_of behind)) → whole ≡ others ++ 10 ∷ []
    → whole ≡ out ++ class_line (map member_of before) (member_of m) (map member_of behind)
line_added before behind m out first others whole h first_is others_is whole_is =
    let text = member_text (member_of m) in
    let blanks = behind_blanks (filter (is_one_with (member_of m)) (map member_of behind)) in
    whole_is ∙ ap (λ t. t ++ 10 ∷ []) (others_is ∙ ap (λ t. t ++ blanks) first_is) ∙ parted out text blanks (10 ∷ []) ∙ ap (λ t. out ++ t) (sym (class_of_more before behind m h))
