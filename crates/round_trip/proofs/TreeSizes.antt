-- Trees that derive tokens have no more siblings beside one another than tokens.
use Rattle.std.proofs.Common.{◌≡◌, ℕ, ◌+◌, ◌≤◌, ◌<◌, ◌^◌, ◌&&◌, ◌||◌, not, Bool, true, false, List, refl, ap, sym, subst, arith}
use Rattle.mlir_ir.specs.Grammar.{Pattern, nothing, one, line, both, either, many, region, body}
use Rattle.mlir_ir.specs.GrammarNumbers.{same_form}
use Rattle.mlir_ir.specs.Trees.{Forest, none, node, join, Derives, derive_nothing, derive_one, derive_line, derive_both, derive_left, derive_right, derive_again, derive_enough, derive_region}
use Rattle.mlir_ir.specs.declared.syntax.Form.{Form}
use Rattle.mlir_ir.specs.declared.syntax.Form.TheVariants.{Leaf, Whole, Func, Params, Types, Results, TypeName, Body, Ends, Uses, Use, Op, Pack, Kind, Inits, Region, Flags}
use Rattle.mlir_ir.specs.declared.terminal.Terminal.{Terminal}
use Rattle.round_trip.proofs.Tests.{and_parts, or_false}

abbrev pub size : Forest → ℕ
size none = 0
size (node form at parts rest) = 1 + size rest

-- no node has as many parts as a vector may not hold
abbrev pub Small : Forest → Type 0
Small none = Unit {0}
Small (node form at parts rest) = (size parts < 2 ^ 63) × Small parts × Small rest

join_size : (xs ys : Forest) → size (join xs ys) ≡ size xs + size ys
join_size none ys = omega arith
join_size (node form at parts rest) ys = let more = join_size rest ys in omega (arith, more)

join_small : (xs ys : Forest) → Small xs → Small ys → Small (join xs ys)
join_small none ys h g = g
join_small (node form at parts rest) ys h g = (h.0, h.1, join_small rest ys h.2 g)

-- right sides of the grammar

-- the line of a whole text may have no token, and that of a token stands in no right side
abbrev is_outer : Form → Bool
is_outer f = same_form f Whole || same_form f Leaf

-- whether no token may stand for it
abbrev can_be_none : Pattern → Bool
can_be_none nothing = true
can_be_none (one c) = false
can_be_none (line f) = is_outer f
can_be_none (both a b) = can_be_none a && can_be_none b
can_be_none (either a b) = can_be_none a || can_be_none b
can_be_none (many a) = true
can_be_none (region a) = false

-- whether no such line stands in it
abbrev is_inner : Pattern → Bool
is_inner nothing = true
is_inner (one c) = true
is_inner (line f) = not (is_outer f)
is_inner (both a b) = is_inner a && is_inner b
is_inner (either a b) = is_inner a && is_inner b
is_inner (many a) = is_inner a
is_inner (region a) = is_inner a

body_inner : (f : Form) → is_inner (body f) ≡ true
body_inner Leaf = refl
body_inner Whole = refl
body_inner Func = refl
body_inner Params = refl
body_inner Types = refl
body_inner Results = refl
body_inner TypeName = refl
body_inner Body = refl
body_inner Ends = refl
body_inner Uses = refl
body_inner Use = refl
body_inner Op = refl
body_inner Pack = refl
body_inner Kind = refl
body_inner Inits = refl
body_inner Region = refl
body_inner Flags = refl

body_some : (f : Form) → not (is_outer f) ≡ true → can_be_none (body f) ≡ false
body_some Leaf h = cc
body_some Whole h = cc
body_some Func h = refl
body_some Params h = refl
body_some Types h = refl
body_some Results h = refl
body_some TypeName h = refl
body_some Body h = refl
body_some Ends h = refl
body_some Uses h = refl
body_some Use h = refl
body_some Op h = refl
body_some Pack h = refl
body_some Kind h = refl
body_some Inits h = refl
body_some Region h = refl
body_some Flags h = refl

-- siblings that stand for tokens from `at` up to `next`
record Grown (p : Pattern) (at : ℕ) (xs : Forest) (next : ℕ) : Type 0 where
  pub le : at ≤ next
  pub some : can_be_none p ≡ false → at < next
  pub few : size xs + at ≤ next
  pub small : next < 2 ^ 63 → Small xs

two_grown : (a b p : Pattern) (at mid next : ℕ) (xs ys zs : Forest) → Grown a at xs mid → Grown b mid ys next → zs ≡ join xs ys → (can_be_none p ≡ false → at < next) → Grown p at zs next
two_grown a b p at mid next xs ys zs g k e some =
    let le1 = g.le in
    let le2 = k.le in
    let few1 = g.few in
    let few2 = k.few in
    let all = join_size xs ys in
    let same = ap size e in
    record {
      le = omega (arith, le1, le2);
      some = some;
      few = omega (arith, few1, few2, all, same);
      small = λ h. subst Small (sym e) (join_small xs ys (g.small (omega (arith, le2, h))) (k.small h));
    }

both_some : (x y : Bool) (at mid next : ℕ) → at ≤ mid → mid ≤ next → (x ≡ false → at < mid) → (y ≡ false → mid < next) → (x && y) ≡ false → at < next
both_some true y at mid next le1 le2 f g h = let less = g h in omega (arith, le1, less)
both_some false y at mid next le1 le2 f g h = let less = f refl in omega (arith, le2, less)

right_inner : (b : Bool) → b ≡ true → (true && (b && true)) ≡ true
right_inner true h = refl
right_inner false h = cc

true_false : {A : Type 0} → true ≡ false → A
true_false h = cc

grown : {ts : List Terminal} {n at next : ℕ} {p : Pattern} {xs : Forest} → Derives ts n p at xs next → is_inner p ≡ true → Grown p at xs next
grown derive_nothing h = record { le = omega arith; some = λ e. true_false e; few = omega arith; small = λ s. tt }
grown (derive_one {n = n} {at = at} c e) h = record { le = omega (arith, e); some = λ f. omega (arith, e); few = omega (arith, e); small = λ s. (omega arith, tt, tt) }
grown (derive_line {at = at} {next = next} {f = f} {parts = parts} d) h =
    let g = grown d (body_inner f) in
    let less = g.some (body_some f h) in
    let few = g.few in
    record { le = omega (arith, less); some = λ e. less; few = omega (arith, less); small = λ s. (omega (arith, few, s), g.small s, tt) }
grown (derive_both {at = at} {mid = mid} {next = next} {a = a} {b = b} {xs = xs} {ys = ys} {zs = zs} d k e) h =
    let i = and_parts (is_inner a) (is_inner b) h in
    let g = grown d i.0 in
    let j = grown k i.1 in
    two_grown a b (both a b) at mid next xs ys zs g j e (both_some (can_be_none a) (can_be_none b) at mid next g.le j.le g.some j.some)
grown (derive_left {a = a} {b = b} d) h =
    let g = grown d (and_parts (is_inner a) (is_inner b) h).0 in
    record { le = g.le; some = λ e. g.some (or_false (can_be_none a) (can_be_none b) e).0; few = g.few; small = g.small }
grown (derive_right {a = a} {b = b} d) h =
    let g = grown d (and_parts (is_inner a) (is_inner b) h).1 in
    record { le = g.le; some = λ e. g.some (or_false (can_be_none a) (can_be_none b) e).1; few = g.few; small = g.small }
grown (derive_again {at = at} {mid = mid} {next = next} {a = a} {xs = xs} {ys = ys} {zs = zs} d k e) h =
    two_grown a (many a) (many a) at mid next xs ys zs (grown d h) (grown k h) e (λ f. true_false f)
grown derive_enough h = record { le = omega arith; some = λ e. true_false e; few = omega arith; small = λ s. tt }
grown (derive_region {a = a} low d) h =
    let g = grown d (right_inner (is_inner a) h) in
    record { le = g.le; some = λ e. g.some refl; few = g.few; small = g.small }

-- a tree that derives fewer tokens than a vector may hold
pub whole_small : {ts : List Terminal} {n at next : ℕ} {xs : Forest} → Derives ts n (line Whole) at xs next → next < 2 ^ 63 → Small xs
whole_small (derive_line {parts = parts} d) h =
    let g = grown d (body_inner Whole) in
    let few = g.few in
    (omega (arith, few, h), g.small h, tt)
