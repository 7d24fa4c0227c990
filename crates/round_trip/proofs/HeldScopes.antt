-- Values in scope that their names and places find, and what is added to them.
use Rattle.std.proofs.Common.{◌≡◌, ℕ, ◌+◌, ◌^◌, ◌<◌, ◌≤◌, ◌==◌, ◌&&◌, ◌||◌, not, Bool, true, false, List, [], ◌∷◌, ◌++◌, refl, ap, ◌∙◌, sym, subst, map, length, drop, find, nat_lt, if◌then◌else◌, Option, None, Some, arith, inl, inr, eq-eqb, append_assoc}
use Rattle.std.proofs.lemmas.Bool.{ne_eqb}
use Rattle.std.proofs.lemmas.Bool.Decides.{nat_tests}
use Rattle.std.specs.List.{list_all}
use Rattle.std.specs.Option.{option_map, option_map_or}
use Rattle.std.specs.Str.{bytes_eq}
use Rattle.arith_word.specs.declared.label.Label.{Label}
use Rattle.mlir_ir.specs.Check.{breaks_at, past, args_breaks}
use Rattle.mlir_ir.specs.Resolved.{is_of}
use Rattle.mlir_ir.specs.Rules.{has_name, is_in_scope, is_free, same_types, arg_rules}
use Rattle.mlir_ir.specs.Names.{is_name}
use Rattle.mlir_ir.specs.Source.{Use}
use Rattle.mlir_ir.specs.Values.{Value, value_at, arg_values, pack_values}
use Rattle.mlir_ir.specs.declared.rules.Position.{Position}
use Rattle.mlir_ir.specs.declared.types.Arg.{Arg}
use Rattle.mlir_ir.specs.declared.types.IrType.{IrType}
use Rattle.mlir_ir.specs.declared.types.Pack.{Pack}
use Rattle.round_trip.specs.Readable.{Reading, ReadsLabel, ReadsLabels}
use Rattle.round_trip.specs.Sound.{Each}
use Rattle.round_trip.proofs.SoundScopes.{Found, none_append, none_at, each_append}
use Rattle.round_trip.proofs.Tests.{and_parts, same_or, or_false}

abbrev as_use : Value → Use
as_use v = record { at = 0; name = v.name; pick = v.place }

-- the value is found by its label among all values, and by its name and place in scope
pub record Held (values scope : List Value) (v : Value) : Type 0 where
  pub found : value_at values v.label ≡ Some v
  pub place : v.place < 2 ^ 64
  pub alone : nat_lt 1 v.count ≡ false → v.place ≡ 0
  pub own : find (is_of (as_use v)) scope ≡ Some v

-- bytes

pub same_bytes : (xs : List ℕ) → bytes_eq xs xs ≡ true
same_bytes [] = refl
same_bytes (x ∷ xs) = rw (eq-eqb x x refl) (same_bytes xs)

turn_eq : (x y : ℕ) → (x == y) ≡ (y == x)
turn_eq x y = elim (same_or x y) [
  | inl e ↦ eq-eqb x y e ∙ sym (eq-eqb y x (sym e))
  | inr n ↦ ne_eqb x y n ∙ sym (ne_eqb y x (λ e. n (sym e)))
]

pub turn_bytes : (xs ys : List ℕ) → bytes_eq xs ys ≡ bytes_eq ys xs
turn_bytes [] [] = refl
turn_bytes [] (y ∷ ys) = refl
turn_bytes (x ∷ xs) [] = refl
turn_bytes (x ∷ xs) (y ∷ ys) = λ t. turn_eq x y t && turn_bytes xs ys t

-- finding

left_of : (c : Bool) (x v : Value) (o q : Option Value) → (o ≡ Some v → q ≡ Some v) → (if c then Some x else o) ≡ Some v → (if c then Some x else q) ≡ Some v
left_of true x v o q f h = h
left_of false x v o q f h = f h

find_left : (p : Value → Bool) (xs ys : List Value) (v : Value) → find p xs ≡ Some v → find p (xs ++ ys) ≡ Some v
find_left p [] ys v e = cc
find_left p (x ∷ xs) ys v e = left_of (p x) x v (find p xs) (find p (xs ++ ys)) (find_left p xs ys v) e

right_of : (c : Bool) (x : Value) (o q w : Option Value) → (o ≡ None → q ≡ w) → (if c then Some x else o) ≡ None → (if c then Some x else q) ≡ w
right_of true x o q w f h = cc
right_of false x o q w f h = f h

find_right : (p : Value → Bool) (xs ys : List Value) → find p xs ≡ None → find p (xs ++ ys) ≡ find p ys
find_right p [] ys e = refl
find_right p (x ∷ xs) ys e = right_of (p x) x (find p xs) (find p (xs ++ ys)) (find p ys) (find_right p xs ys) e

pub none_named : (scope : List Value) (u : Use) → has_name scope u.name ≡ false → find (is_of u) scope ≡ None
none_named [] u h = refl
none_named (v ∷ vs) u h = let b = or_false (bytes_eq v.name u.name) (has_name vs u.name) h in rw b.0 (none_named vs u b.1)

held_more : (values scope new vs : List Value) → Each (Held values scope) vs → Each (Held values (scope ++ new)) vs
held_more values scope new [] h = tt
held_more values scope new (v ∷ vs) h =
    (record { found = h.0.found; place = h.0.place; alone = h.0.alone; own = find_left (is_of (as_use v)) scope new v h.0.own }, held_more values scope new vs h.1)

held_new : (values scope new vs : List Value) → Each (Held values new) vs → Each (λ (v : Value). has_name scope v.name ≡ false) vs → Each (Held values (scope ++ new)) vs
held_new values scope new [] h n = tt
held_new values scope new (v ∷ vs) h n =
    (record { found = h.0.found; place = h.0.place; alone = h.0.alone; own = find_right (is_of (as_use v)) scope new (none_named scope (as_use v) n.0) ∙ h.0.own }, held_new values scope new vs h.1 n.1)

-- values of other names are added
pub held_both : (values scope new : List Value) → Each (Held values scope) scope → Each (Held values new) new → Each (λ (v : Value). has_name scope v.name ≡ false) new → Each (Held values (scope ++ new)) (scope ++ new)
held_both values scope new h g n = each_append (Held values (scope ++ new)) scope new (held_more values scope new scope h) (held_new values scope new new g n)

-- uses

abbrev pub moved_value : (ℕ → ℕ) → Value → Value
moved_value other v = record { label = other v.label; name = v.name; count = v.count; place = v.place; ty = v.ty }

moved_of : (other : ℕ → ℕ) (c : Bool) (v : Value) (o q : Option Value) → o ≡ option_map (moved_value other) q → (if c then Some (moved_value other v) else o) ≡ option_map (moved_value other) (if c then Some v else q)
moved_of other true v o q e = refl
moved_of other false v o q e = e

pub find_moved : (other : ℕ → ℕ) (u : Use) (scope : List Value) → find (is_of u) (map (moved_value other) scope) ≡ option_map (moved_value other) (find (is_of u) scope)
find_moved other u [] = refl
find_moved other u (v ∷ vs) = moved_of other (is_of u v) v (find (is_of u) (map (moved_value other) vs)) (find (is_of u) vs) (find_moved other u vs)

pub label_reads : (r : Reading) (scope vs : List Value) (l : Label) → Each (Held r.naming.values scope) vs → is_in_scope vs l ≡ true → ReadsLabel r (map (moved_value r.other) scope) l
label_reads r scope [] l h e = cc
label_reads r scope (v ∷ vs) l h e = elim (same_or v.label l.0) [
  | inl q ↦ record {
    value = v;
    found = subst (λ (x : ℕ). value_at r.naming.values x ≡ Some v) q h.0.found;
    place = h.0.place;
    alone = h.0.alone;
    names =
        ap (λ (o : Option Value). record { 0 = option_map_or (λ (w : Value). w.label) o 0 }) (find_moved r.other (as_use v) scope ∙ ap (option_map (moved_value r.other)) h.0.own)
        ∙ ap (λ (x : ℕ). record { 0 = r.other x }) q;
    seen = moved_value r.other v;
    sees = find_moved r.other (as_use v) scope ∙ ap (option_map (moved_value r.other)) h.0.own;
    same = refl;
  }
  | inr ne ↦ label_reads r scope vs l h.1 (rw (ne_eqb v.label l.0 ne) at e)
]

pub labels_read : (r : Reading) (scope : List Value) (ls : List Label) → Each (Held r.naming.values scope) scope → list_all (is_in_scope scope) ls ≡ true → ReadsLabels r (map (moved_value r.other) scope) ls
labels_read r scope [] h e = tt
labels_read r scope (l ∷ ls) h e =
    let p = and_parts (is_in_scope scope l) (list_all (is_in_scope scope) ls) e in
    (label_reads r scope scope l h p.0, labels_read r scope ls h p.1)

-- arguments

and_none : (a : Bool) → (a && false) ≡ false
and_none true = refl
and_none false = refl

pub not_held : (b : Bool) → not b ≡ true → b ≡ false
not_held true h = cc
not_held false h = refl

pub free_of : (a b : Bool) → ((a && not b) || false) ≡ true → b ≡ false
free_of true true e = cc
free_of true false e = refl
free_of false b e = cc

self_is : (v : Value) → is_of (as_use v) v ≡ true
self_is v = rw (same_bytes v.name, eq-eqb v.place v.place refl) refl

self_own : (v : Value) (vs : List Value) → find (is_of (as_use v)) (v ∷ vs) ≡ Some v
self_own v vs = ap (λ (c : Bool). if c then Some v else find (is_of (as_use v)) vs) (self_is v)

pub args_held : (values : List Value) (n : ℕ) (wanted : List IrType) (scope : List Value) (at : Position) (p : ℕ) → at.next ≡ p → (args : List Arg) → args_breaks false n wanted scope at args ≡ [] → Each (Found values) (arg_values p args)
    → Each (Held values scope) scope → Each (Held values (scope ++ arg_values p args)) (scope ++ arg_values p args)
args_held values n wanted scope at p e [] h f g = held_both values scope [] g tt tt
args_held values n wanted scope at p e (arg ∷ args) h f g =
    let v : Value = record { label = p; name = arg.name; count = 1; place = 0; ty = arg.ty } in
    let b = none_append (breaks_at at.last (arg_rules false n wanted scope arg)) (args_breaks false (n + 1) (drop 1 wanted) (scope ++ arg_values at.next (arg ∷ [])) (past 1 0 at) args) h in
    let r = none_at at.last (arg_rules false n wanted scope arg) b.0 in
    let t = and_parts ((is_free scope arg.name) || false) (same_types (arg.ty ∷ []) wanted) r.1 in
    let free : has_name scope arg.name ≡ false = free_of (is_name arg.name) (has_name scope arg.name) t.0 in
    let one : Each (Held values (scope ++ v ∷ [])) (scope ++ v ∷ []) = held_both values scope (v ∷ []) g (record { found = f.0; place = omega arith; alone = λ q. refl; own = self_own v [] }, tt) (free, tt) in
    let rest : args_breaks false (n + 1) (drop 1 wanted) (scope ++ v ∷ []) (past 1 0 at) args ≡ [] =
    subst (λ (x : ℕ). args_breaks false (n + 1) (drop 1 wanted) (scope ++ arg_values x (arg ∷ [])) (past 1 0 at) args ≡ []) e b.1 in
    let more = args_held values (n + 1) (drop 1 wanted) (scope ++ v ∷ []) (past 1 0 at) (p + 1) (omega (arith, e)) args rest f.1 one in
    subst (λ (xs : List Value). Each (Held values xs) xs) (append_assoc scope (v ∷ []) (arg_values (p + 1) args)) more

-- results

pack_later : (at : ℕ) (pack : Pack) (low place : ℕ) (tys : List IrType) → low < place → Each (λ (v : Value). low < v.place) (pack_values at pack place tys)
pack_later at pack low place [] h = tt
pack_later at pack low place (ty ∷ tys) h = (h, pack_later (at + 1) pack low (place + 1) tys (omega (arith, h)))

later_held : (values : List Value) (v : Value) (vs ws : List Value) → Each (Held values vs) ws → Each (λ (w : Value). v.place < w.place) ws → Each (Held values (v ∷ vs)) ws
later_held values v vs [] h l = tt
later_held values v vs (w ∷ ws) h l =
    let other : (v.place == w.place) ≡ false = ne_eqb v.place w.place (λ e. omega (arith, l.0, e)) in
    let differs : is_of (as_use w) v ≡ false = rw other (and_none (bytes_eq v.name w.name)) in (
      record {
        found = h.0.found;
        place = h.0.place;
        alone = h.0.alone;
        own = ap (λ (c : Bool). if c then Some v else find (is_of (as_use w)) vs) differs ∙ h.0.own;
      },
      later_held values v vs ws h.1 l.1,
    )

pub pack_held : (values : List Value) (at : ℕ) (pack : Pack) (place : ℕ) (tys : List IrType) → pack.count < 2 ^ 64 → place + length tys ≤ pack.count → Each (Found values) (pack_values at pack place tys)
    → Each (Held values (pack_values at pack place tys)) (pack_values at pack place tys)
pack_held values at pack place [] few le f = tt
pack_held values at pack place (ty ∷ tys) few le f =
    let v : Value = record { label = at; name = pack.name; count = pack.count; place = place; ty = ty } in
    let vs = pack_values (at + 1) pack (place + 1) tys in (
      record { found = f.0; place = omega (arith, few, le); alone = λ q. grind (arith, nat_tests, q, le); own = self_own v vs },
      later_held values v vs vs (pack_held values (at + 1) pack (place + 1) tys few (omega (arith, le)) f.1) (pack_later (at + 1) pack place (place + 1) tys (omega arith)),
    )
