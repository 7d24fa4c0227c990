-- The place of the first name with an equal expression numbers the expressions.
use Rattle.std.proofs.Common.{◌≡◌, ℕ, ◌+◌, ◌<◌, ◌≤◌, inl, inr, List, [], ◌∷◌, ◌++◌, Some, length, get_or, map, take, ap, sym, subst, refl, ◌∙◌, arith, slice_get, length-append}
use Rattle.std.proofs.lemmas.Bool.{cases_lt}
use Rattle.std.proofs.lemmas.List.{map_more, map_push, length-map, take_all}
use Rattle.std.proofs.lemmas.Option.{slice_get_within, slice_get-get_or, slice_get-map, slice_get_read, slice_get_past}
use Rattle.std.specs.Option.{option_map}
use Rattle.fresh_scev.specs.Expressions.{Expression, expression_of}
use Rattle.scev_server.specs.Equal.{Named, Member, AreNumbered}
use Rattle.scev_server.specs.Members.{IsFirstEqual, member_of}
use Rattle.scev_server.specs.Shown.{named_of}
use Rattle.scev_server.specs.declared.equal.Member as program_member
use Rattle.scev_server.specs.declared.equal.Named as program_named
use Rattle.scev_server.proofs.Pairs.{both_more}

-- the member has the names of h, and the place of its expression among those of all names
pub record IsMember (held : List Named) (h : Named) (m : Member) : Type 0 where
  pub session : m.session ≡ h.session
  pub name : m.name ≡ h.name
  pub first : IsFirstEqual held h.expr m.number

pub record AreMembers (held front : List Named) (members : List Member) : Type 0 where
  pub each : length members ≡ length front
  pub at : (i : ℕ) (h : Named) (m : Member) → slice_get front i ≡ Some h → slice_get members i ≡ Some m → IsMember held h m

pub no_members : (held : List Named) → AreMembers held [] []
no_members held = record { each = refl; at = λ i h m p q. absurd (cc) }

pub members_more : (held front all : List Named) (members more : List Member) (h : Named) (m : Member) → AreMembers held front members → IsMember held h m
    → all ≡ front ++ h ∷ [] → more ≡ members ++ m ∷ [] → AreMembers held all more
members_more held front all members more h m so_far is all_is more_is =
    let result : AreMembers held (front ++ h ∷ []) (members ++ m ∷ []) = record {
      each = length-append members (m ∷ []) ∙ ap (λ n. n + 1) so_far.each ∙ sym (length-append front (h ∷ []));
      at = both_more (IsMember held) front members h m so_far.each so_far.at is;
    } in
    subst (λ x. AreMembers held x more) (sym all_is) (subst (λ x. AreMembers held (front ++ h ∷ []) x) (sym more_is) result)

-- the first equal one is at the place of a name, or before
not_behind : (held : List Named) (i n : ℕ) (h : Named) → slice_get held i ≡ Some h → IsFirstEqual held h.expr n → n ≤ i
not_behind held i n h here first = elim (cases_lt i n) [ inl lt ↦ absurd (first.before i h lt here refl) | inr le ↦ le ]

-- the name at the number of another
numbered_name : (held : List Named) (i n : ℕ) (h : Named) → slice_get held i ≡ Some h → IsFirstEqual held h.expr n → slice_get held n ≡ Some (get_or held n h)
numbered_name held i n h here first =
    let le = not_behind held i n h here first in
    let lt = slice_get_within held i h here in
    slice_get-get_or held n h (omega (arith, le, lt))

one_number : (held : List Named) (i j n p : ℕ) (h k : Named) → slice_get held i ≡ Some h → slice_get held j ≡ Some k → IsFirstEqual held h.expr n → IsFirstEqual held k.expr p
    → h.expr ≡ k.expr → n ≤ p
one_number held i j n p h k hi hj fn fp e =
    elim (cases_lt p n) [
      | inl lt ↦ (let x = get_or held p k in let here = numbered_name held j p k hj fp in absurd (fn.before p x lt here (fp.at x here ∙ sym e)))
      | inr le ↦ le
    ]

pub numbered : (held : List Named) (members : List Member) → AreMembers held held members → AreNumbered held members
numbered held members all = record {
  each = all.each;
  same = λ i h m hi mi. (let is = all.at i h m hi mi in (is.session, is.name));
  equal = λ i j h k m n hi hj mi mj. (
      let fi = (all.at i h m hi mi).first in
      let fj = (all.at j k n hj mj).first in (
        (λ e.
            let x = get_or held m.number h in
            let here = numbered_name held i m.number h hi fi in
            sym (fi.at x here) ∙ fj.at x (subst (λ p. slice_get held p ≡ Some x) e here)),
        (λ e.
            let le = one_number held i j m.number n.number h k hi hj fi fj e in
            let ge = one_number held j i n.number m.number k h hj hi fj fi (sym e) in
            omega (arith, le, ge)),
      ));
}

-- ---- over the program's names

abbrev pub AreOthers : List program_named.Named → Expression → ℕ → Type 0
AreOthers held e i = (k : ℕ) (h : Named) → k < i → slice_get (map named_of held) k ≡ Some h → h.expr ≡ e → ⊥

pub others_more : (held : List program_named.Named) (e : Expression) (i : ℕ) (x : program_named.Named) → i < length held → x ≡ get_or held i x → AreOthers held e i
    → (expression_of x.expr ≡ e → ⊥) → AreOthers held e (i + 1)
others_more held e i x lt is so_far other k h below got same = elim (cases_lt k i) [
  | inl less ↦ so_far k h less got same
  | inr more ↦ (
      let k_is : k ≡ i = omega arith in
      let here : slice_get (map named_of held) i ≡ Some (named_of x) = slice_get-map named_of held i ∙ ap (option_map named_of) (slice_get_read held (length held) i x refl lt is) in
      let both : Some h ≡ Some (named_of x) = sym got ∙ ap (slice_get (map named_of held)) k_is ∙ here in
      let one : h ≡ named_of x = cc in
      other (ap (λ (y : Named). y.expr) (sym one) ∙ same))
]

pub none_equal : (held : List program_named.Named) (e : Expression) (i : ℕ) → length held ≤ i → AreOthers held e i → IsFirstEqual (map named_of held) e (length held)
none_equal held e i end others = record {
  at = λ h got. (let past = slice_get_past (map named_of held) (length held) (omega (arith, length-map held named_of)) in absurd (cc));
  before = λ k h lt got same. others k h (omega arith) got same;
}

pub named_more : (held : List program_named.Named) (i : ℕ) (x : program_named.Named) (members more : List program_member.Member) (m : program_member.Member)
    → i < length held → x ≡ get_or held i x → more ≡ members ++ m ∷ [] → IsMember (map named_of held) (named_of x) (member_of m)
    → AreMembers (map named_of held) (map named_of (take i held)) (map member_of members) → AreMembers (map named_of held) (map named_of (take (i + 1) held)) (map member_of more)
named_more held i x members more m lt is more_is one so_far =
    members_more (map named_of held) (map named_of (take i held)) (map named_of (take (i + 1) held)) (map member_of members) (map member_of more) (named_of x) (member_of m) so_far one
    (map_more named_of held i x lt ∙ ap (λ y. map named_of (take i held) ++ named_of y ∷ []) (sym is)) (ap (map member_of) more_is ∙ map_push member_of members m)

pub all_numbered : (held : List program_named.Named) (i : ℕ) (members : List program_member.Member) → length held ≤ i
    → AreMembers (map named_of held) (map named_of (take i held)) (map member_of members) → AreNumbered (map named_of held) (map member_of members)
all_numbered held i members end all =
    numbered (map named_of held) (map member_of members) (subst (λ xs. AreMembers (map named_of held) (map named_of xs) (map member_of members)) (take_all i held end) all)
