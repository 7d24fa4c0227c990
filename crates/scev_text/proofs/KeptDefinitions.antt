-- The tables of names, where a value is put behind those of lower labels.
use Rattle.std.proofs.Common.{◌≡◌, ℕ, ◌+◌, ◌-◌, ◌<◌, ◌≤◌, ◌≢◌, ◌==◌, ◌&&◌, nat_le, Bool, true, false, cond, List, [], ◌∷◌, ◌++◌, length, Option, Some, None, refl, sym, ap, subst, ◌∙◌, append-nil, arith, slice_get, All, zero, suc, ◌^◌, Result, Ok, Err}
use Rattle.std.specs.List.{filter}
use Rattle.std.specs.Option.{option_map, option_map_or, option_or, unwrap_or}
use Rattle.std.specs.HashMap.{get_by}
use Rattle.std.specs.Result.{OnOk}
use Rattle.std.specs.Str.{bytes_eq}
use Rattle.std.proofs.lemmas.Bool.{eqb-true}
use Rattle.std.proofs.lemmas.Bool.Decides.{nat_tests}
use Rattle.std.proofs.lemmas.Slice.Eq.{bytes_eq-Decides}
use Rattle.std.proofs.lemmas.List.{length-append}
use Rattle.std.proofs.lemmas.List.Elements.{All-head, All-tail, All-push, All-weaker, All-filter, filter-append, filter_passes}
use Rattle.std.proofs.lemmas.Option.{slice_get_within, get_or_from_slice_get}
use Rattle.std.proofs.lemmas.List.Folds.{find-append}
use Rattle.std.proofs.lemmas.List.Sums.{length-filter, sum_by-append, count_by-le-length}
use Rattle.mlir_ir.specs.Values.{Value, value_at}
use Rattle.mlir_ir.specs.declared.types.IrType.{IrType}
use Rattle.scev_text.specs.Naming.{definitions_of, nth_of}
use Rattle.scev_text.specs.declared.definitions.PackValue.{PackValue}
use Rattle.scev_text.specs.declared.definitions.Definitions.{Definitions}
use Rattle.scev_text.specs.Kept.{count_in, definition_in, number_in, pack_value, definition_of, value_of, AreKept, DoesFit}

same_name : (a b : List ℕ) → bytes_eq a b ≡ true → a ≡ b
same_name a b h = grind (arith, bytes_eq-Decides a b)

name_same : (a : List ℕ) → bytes_eq a a ≡ true
name_same a = grind (arith, bytes_eq-Decides a a)

and_true : (b : Bool) → (b && true) ≡ b
and_true true = refl
and_true false = refl

and_false : (b : Bool) → (b && false) ≡ false
and_false true = refl
and_false false = refl

-- whether a value is a definition of a name
abbrev defines : List ℕ → Value → Bool
defines name v = bytes_eq v.name name && v.place == 0

-- whether it is one with a label at most that of another value
abbrev counts_for : Value → Value → Bool
counts_for value v = bytes_eq v.name value.name && (v.place == 0 && nat_le v.label value.label)

definitions_push : (values : List Value) (v : Value) (name : List ℕ) (b : Bool) → defines name v ≡ b → definitions_of (values ++ v ∷ []) name ≡ definitions_of values name ++ cond b (v ∷ []) []
definitions_push values v name b is = filter-append (defines name) values (v ∷ []) ∙ ap (λ t. definitions_of values name ++ cond t (v ∷ []) []) is

-- the labels below

absent : (values : List Value) (behind label : ℕ) → All (λ (v : Value). v.label < behind) values → behind ≤ label → value_at values label ≡ None
absent [] behind label h le = refl
absent (v ∷ values) behind label h le =
    let lt : v.label < behind = All-head (λ (u : Value). u.label < behind) v values h in
    let rest = absent values behind label (All-tail (λ (u : Value). u.label < behind) v values h) le in
    grind (arith, nat_tests, rest, lt, le)

found_first : (values : List Value) (v u : Value) (behind label : ℕ) (b : Bool) → v.label < behind → (value_at values label ≡ Some u → u.label < behind) → cond b (Some v) (value_at values label) ≡ Some u → u.label < behind
found_first values v u behind label true lt rest e = let same : v ≡ u = cc in subst (λ (w : Value). w.label < behind) same lt
found_first values v u behind label false lt rest e = rest e

found_below : (values : List Value) (behind label : ℕ) (u : Value) → All (λ (v : Value). v.label < behind) values → value_at values label ≡ Some u → u.label < behind
found_below [] behind label u h e = cc
found_below (v ∷ values) behind label u h e =
    found_first values v u behind label (v.label == label) (All-head (λ (w : Value). w.label < behind) v values h) (found_below values behind label u (All-tail (λ (w : Value). w.label < behind) v values h)) e

-- which definition of its name a value is

le_false : (a b : ℕ) → b < a → nat_le a b ≡ false
le_false a b h = grind (arith, nat_tests)

le_true : (a b : ℕ) → a ≤ b → nat_le a b ≡ true
le_true a b h = grind (arith, nat_tests)

not_counted : (u v : Value) → u.label < v.label → counts_for u v ≡ false
not_counted u v lt =
    ap (λ t. bytes_eq v.name u.name && (v.place == 0 && t)) (le_false v.label u.label lt)
    ∙ ap (λ t. bytes_eq v.name u.name && t) (and_false (v.place == 0))
    ∙ and_false (bytes_eq v.name u.name)

counted : (u v : Value) → v.label ≤ u.label → counts_for u v ≡ defines u.name v
counted u v le = ap (λ t. bytes_eq v.name u.name && (v.place == 0 && t)) (le_true v.label u.label le) ∙ ap (λ t. bytes_eq v.name u.name && t) (and_true (v.place == 0))

-- a value with a higher label isn't counted
nth_push : (values : List Value) (v u : Value) → u.label < v.label → nth_of (values ++ v ∷ []) u ≡ nth_of values u
nth_push values v u lt =
    sum_by-append (λ x. cond (counts_for u x) 1 0) values (v ∷ [])
    ∙ ap (λ t. nth_of values u + (0 + cond t 1 0)) (not_counted u v lt)
    ∙ omega arith

all_counted : (values : List Value) (u : Value) → All (λ (v : Value). v.label ≤ u.label) values → filter (counts_for u) values ≡ filter (defines u.name) values
all_counted [] u h = refl
all_counted (v ∷ values) u h =
    ap (λ t. cond t (v ∷ filter (counts_for u) values) (filter (counts_for u) values)) (counted u v (All-head (λ (w : Value). w.label ≤ u.label) v values h))
    ∙ ap (λ vs. cond (defines u.name v) (v ∷ vs) vs) (all_counted values u (All-tail (λ (w : Value). w.label ≤ u.label) v values h))

nth_last : (values : List Value) (v : Value) → All (λ (u : Value). u.label < v.label) values → nth_of (values ++ v ∷ []) v ≡ length (definitions_of (values ++ v ∷ []) v.name)
nth_last values v h =
    let all : All (λ (u : Value). u.label ≤ v.label) (values ++ v ∷ []) =
    All-push (λ (u : Value). u.label ≤ v.label) values v (All-weaker (λ (u : Value). u.label < v.label) (λ (u : Value). u.label ≤ v.label) (λ u lt. omega arith) values h) (omega arith) in
    sym (length-filter (counts_for v) (values ++ v ∷ [])) ∙ ap length (all_counted (values ++ v ∷ []) v all)

-- the definition of a number, behind others

get_push : (vs : List Value) (v : Value) (i : ℕ) → slice_get (vs ++ v ∷ []) i ≡ cond (length vs == i) (Some v) (slice_get vs i)
get_push [] v zero = grind (arith, nat_tests)
get_push [] v (suc i) = grind (arith, nat_tests)
get_push (u ∷ vs) v zero = grind (arith, nat_tests)
get_push (u ∷ vs) v (suc i) = grind (arith, nat_tests, get_push vs v i)

none_nth : (vs : List Value) (v : Value) → None ≡ cond (length vs + 1 == 0) (Some v) None
none_nth vs v = grind (arith, nat_tests)

nth_push_definition : (vs : List Value) (v : Value) (n : ℕ) → cond (n == 0) None (slice_get (vs ++ v ∷ []) (n - 1)) ≡ cond (length vs + 1 == n) (Some v) (cond (n == 0) None (slice_get vs (n - 1)))
nth_push_definition vs v zero = none_nth vs v
nth_push_definition vs v (suc i) = grind (arith, nat_tests, get_push vs v i)

mapped : (t : Bool) (v : Value) (o : Option Value) → option_map pack_value (cond t (Some v) o) ≡ cond t (Some (pack_value v)) (option_map pack_value o)
mapped true v o = refl
mapped false v o = refl

same_number : (values all : List Value) (o : Option Value) → ((u : Value) → o ≡ Some u → nth_of all u ≡ nth_of values u) → option_map_or (nth_of values) o 0 ≡ option_map_or (nth_of all) o 0
same_number values all None h = refl
same_number values all (Some u) h = sym (h u refl)

or_none : (o : Option Value) → option_or o None ≡ o
or_none None = refl
or_none (Some v) = refl

module _ (old new : Definitions) (values : List Value) (name : List ℕ) (d : PackValue) (place : ℕ) (ty : IrType) (kept : AreKept old d.label.0 values) where
  abbrev v : Value
  v = value_of name d place ty

  abbrev all : List Value
  all = values ++ v ∷ []

  below : All (λ (u : Value). u.label < d.label.0 + 1) all
  below =
      All-push (λ (u : Value). u.label < d.label.0 + 1) values v
      (All-weaker (λ (u : Value). u.label < d.label.0) (λ (u : Value). u.label < d.label.0 + 1) (λ u lt. omega arith) values kept.below) (omega arith)

  few : length all ≤ d.label.0 + 1
  few = let n = kept.few in omega (arith, length-append values (v ∷ []), n)

  at_last : value_at all d.label.0 ≡ Some v
  at_last =
      find-append (λ (u : Value). u.label == d.label.0) values (v ∷ [])
      ∙ ap (λ o. option_or o (value_at (v ∷ []) d.label.0)) (absent values d.label.0 d.label.0 kept.below (omega arith))
      ∙ found
    where
      found : value_at (v ∷ []) d.label.0 ≡ Some v
      found = grind (arith, nat_tests)

  at_other : (label : ℕ) → (d.label.0 == label) ≡ false → value_at all label ≡ value_at values label
  at_other label apart =
      find-append (λ (u : Value). u.label == label) values (v ∷ [])
      ∙ ap (λ t. option_or (value_at values label) (cond t (Some v) None)) apart
      ∙ or_none (value_at values label)

  number_case : (nth : ℕ) → nth ≡ length (definitions_of all name) → (label : ℕ) (b : Bool) → (d.label.0 == label) ≡ b → cond b nth (number_in old label) ≡ option_map_or (nth_of all) (value_at all label) 0
  number_case nth is label true same =
      let e : d.label.0 ≡ label = eqb-true d.label.0 label same in
      is ∙ sym (nth_last values v kept.below) ∙ ap (λ o. option_map_or (nth_of all) o 0) (sym at_last) ∙ ap (λ l. option_map_or (nth_of all) (value_at all l) 0) e
  number_case nth is label false apart =
      kept.numbers label
      ∙ same_number values all (value_at values label) (λ u here. nth_push values v u (found_below values d.label.0 label u kept.below here))
      ∙ ap (λ o. option_map_or (nth_of all) o 0) (sym (at_other label apart))

  numbers_kept : (nth : ℕ) → nth ≡ length (definitions_of all name) → ((label : ℕ) → number_in new label ≡ cond (d.label.0 == label) nth (number_in old label)) → (label : ℕ) → number_in new label ≡ option_map_or (nth_of all) (value_at all label) 0
  numbers_kept nth is put label = put label ∙ number_case nth is label (d.label.0 == label) refl

not_zero : (n : ℕ) → n ≢ 0 → (n == 0) ≡ false
not_zero n h = grind (arith, nat_tests)

-- a value that isn't the first of the results with its name
pub part_kept : (old new : Definitions) (values : List Value) (name : List ℕ) (d : PackValue) (place : ℕ) (ty : IrType) → place ≢ 0 → AreKept old d.label.0 values → new.counts ≡ old.counts → new.firsts ≡ old.firsts
    → ((label : ℕ) → number_in new label ≡ cond (d.label.0 == label) (count_in old name) (number_in old label)) → AreKept new (d.label.0 + 1) (values ++ value_of name d place ty ∷ [])
part_kept old new values name d place ty ne kept counts firsts put =
    let w = v old new values name d place ty kept in
    let other : (q : List ℕ) → defines q w ≡ false = λ q. ap (λ t. bytes_eq name q && t) (not_zero place ne) ∙ and_false (bytes_eq name q) in
    let same : (q : List ℕ) → definitions_of (values ++ w ∷ []) q ≡ definitions_of values q = λ q. definitions_push values w q false (other q) ∙ append-nil (definitions_of values q) in
    record {
      below = below old new values name d place ty kept;
      few = few old new values name d place ty kept;
      counts = λ q. same_counts q ∙ kept.counts q ∙ ap length (sym (same q));
      firsts = λ q n. same_firsts q n ∙ kept.firsts q n ∙ ap (λ vs. option_map pack_value (cond (n == 0) None (slice_get vs (n - 1)))) (sym (same q));
      numbers = numbers_kept old new values name d place ty kept (count_in old name) (kept.counts name ∙ ap length (sym (same name))) put;
    }
  where
    same_counts : (q : List ℕ) → count_in new q ≡ count_in old q
    same_counts q = rw counts refl

    same_firsts : (q : List ℕ) (n : ℕ) → definition_in new q n ≡ definition_in old q n
    same_firsts q n = rw firsts refl

-- a definition
module _ (old new : Definitions) (values : List Value) (name : List ℕ) (d : PackValue) (ty : IrType) (kept : AreKept old d.label.0 values) where
  abbrev first_of : Value
  first_of = value_of name d 0 ty

  abbrev with_first : List Value
  with_first = values ++ first_of ∷ []

  defined : (q : List ℕ) (b : Bool) → bytes_eq name q ≡ b → definitions_of with_first q ≡ definitions_of values q ++ cond b (first_of ∷ []) []
  defined q b is = definitions_push values first_of q b (and_true (bytes_eq name q) ∙ is)

  counted_one : length (definitions_of with_first name) ≡ length (definitions_of values name) + 1
  counted_one = ap length (defined name true (name_same name)) ∙ length-append (definitions_of values name) (first_of ∷ [])

  count_case : (q : List ℕ) (b : Bool) → bytes_eq name q ≡ b → cond b (count_in old name + 1) (count_in old q) ≡ length (definitions_of with_first q)
  count_case q true is =
      ap (λ n. n + 1) (kept.counts name) ∙ sym counted_one ∙ ap (λ r. length (definitions_of with_first r)) (same_name name q is)
  count_case q false is = kept.counts q ∙ ap length (sym (defined q false is ∙ append-nil (definitions_of values q)))

  own_case : (n : ℕ) → cond (count_in old name + 1 == n) (Some d) (definition_in old name n) ≡ option_map pack_value (definition_of with_first name n)
  own_case n =
      ap (λ k. cond (k + 1 == n) (Some d) (definition_in old name n)) (kept.counts name)
      ∙ ap (cond (length (definitions_of values name) + 1 == n) (Some d)) (kept.firsts name n)
      ∙ sym (mapped (length (definitions_of values name) + 1 == n) first_of (definition_of values name n))
      ∙ ap (option_map pack_value) (sym (nth_push_definition (definitions_of values name) first_of n))
      ∙ ap (λ vs. option_map pack_value (cond (n == 0) None (slice_get vs (n - 1)))) (sym (defined name true (name_same name)))

  first_case : (q : List ℕ) (n : ℕ) (b : Bool) → bytes_eq name q ≡ b → cond (b && count_in old name + 1 == n) (Some d) (definition_in old q n) ≡ option_map pack_value (definition_of with_first q n)
  first_case q n true is = subst (λ r. cond (count_in old name + 1 == n) (Some d) (definition_in old r n) ≡ option_map pack_value (definition_of with_first r n)) (same_name name q is) (own_case n)
  first_case q n false is = kept.firsts q n ∙ ap (λ vs. option_map pack_value (cond (n == 0) None (slice_get vs (n - 1)))) (sym (defined q false is ∙ append-nil (definitions_of values q)))

  pub first_kept : ((q : List ℕ) → count_in new q ≡ cond (bytes_eq name q) (count_in old name + 1) (count_in old q))
      → ((q : List ℕ) (n : ℕ) → definition_in new q n ≡ cond (bytes_eq name q && count_in old name + 1 == n) (Some d) (definition_in old q n))
      → ((label : ℕ) → number_in new label ≡ cond (d.label.0 == label) (count_in old name + 1) (number_in old label)) → AreKept new (d.label.0 + 1) with_first
  first_kept counts firsts numbers = record {
    below = below old new values name d 0 ty kept;
    few = few old new values name d 0 ty kept;
    counts = λ q. counts q ∙ count_case q (bytes_eq name q) refl;
    firsts = λ q n. firsts q n ∙ first_case q n (bytes_eq name q) refl;
    numbers = numbers_kept old new values name d 0 ty kept (count_in old name + 1) (ap (λ n. n + 1) (kept.counts name) ∙ sym counted_one) numbers;
  }

-- a label that no value has
pub kept_behind : (known : Definitions) (low high : ℕ) (values : List Value) → low ≤ high → AreKept known low values → AreKept known high values
kept_behind known low high values le kept = record {
  below = All-weaker (λ (u : Value). u.label < low) (λ (u : Value). u.label < high) (λ u lt. omega arith) values kept.below;
  few = let n = kept.few in omega (arith, n);
  counts = kept.counts;
  firsts = kept.firsts;
  numbers = kept.numbers;
}

-- no more definitions of a name than labels below
pub count_below : (known : Definitions) (behind : ℕ) (values : List Value) (name : List ℕ) → AreKept known behind values → count_in known name ≤ behind
count_below known behind values name kept =
    let n = kept.few in
    let c = kept.counts name in
    omega (arith, n, c, length-filter (defines name) values, count_by-le-length (defines name) values)

-- a default behind a choice
pub chosen : (b : Bool) (n : ℕ) (old : Option ℕ) → unwrap_or (cond b (Some n) old) 0 ≡ cond b n (unwrap_or old 0)
chosen true n old = refl
chosen false n old = refl

on_ok : {T E : Type 0} (r : Result T E) (P Q : Type 0) → (P → Q) → OnOk r P → OnOk r Q
on_ok (Ok x) P Q f h = f h
on_ok (Err e) P Q f h = h

-- the same when tables are written one after the other

pub added_first : {T E : Type 0} (old mid new : Definitions) (name : List ℕ) (d : PackValue) (place nth : ℕ) (r : Result T E) → place ≡ 0 → nth ≡ count_in old name + 1
    → ((q : List ℕ) → count_in mid q ≡ cond (bytes_eq name q) (count_in old name + 1) (count_in old q))
    → ((q : List ℕ) (n : ℕ) → definition_in mid q n ≡ cond (bytes_eq name q && count_in old name + 1 == n) (Some d) (definition_in old q n))
    → mid.numbers ≡ old.numbers
    → OnOk r ((label : ℕ) → number_in new label ≡ cond (d.label.0 == label) nth (number_in mid label))
    → new.counts ≡ mid.counts → new.firsts ≡ mid.firsts
    → OnOk r ((values : List Value) (ty : IrType) → AreKept old d.label.0 values → AreKept new (d.label.0 + 1) (values ++ value_of name d place ty ∷ []))
added_first old mid new name d place nth r first is counts firsts unnumbered put same same_firsts =
    on_ok r _ _
    (λ numbers values ty kept.
    subst (λ p. AreKept new (d.label.0 + 1) (values ++ value_of name d p ty ∷ [])) (sym first)
    (first_kept old new values name d ty kept
    (λ q. ap (λ m. unwrap_or (get_by (λ k. bytes_eq q k.now) m) 0) same ∙ counts q)
    (λ q n. ap (λ m. get_by (λ k. bytes_eq q k.0.now && n == k.1) m) same_firsts ∙ firsts q n)
    (λ label.
    numbers label
    ∙ ap (λ k. cond (d.label.0 == label) k (number_in mid label)) is
    ∙ ap (λ m. cond (d.label.0 == label) (count_in old name + 1) (unwrap_or (get_by (λ k. label == k) m) 0)) unnumbered)))
    put

pub added_part : {T E : Type 0} (old new : Definitions) (name : List ℕ) (d : PackValue) (place nth : ℕ) (r : Result T E) → place ≢ 0 → nth ≡ count_in old name
    → OnOk r ((label : ℕ) → number_in new label ≡ cond (d.label.0 == label) nth (number_in old label))
    → new.counts ≡ old.counts → new.firsts ≡ old.firsts
    → OnOk r ((values : List Value) (ty : IrType) → AreKept old d.label.0 values → AreKept new (d.label.0 + 1) (values ++ value_of name d place ty ∷ []))
added_part old new name d place nth r part is put same same_firsts =
    on_ok r _ _
    (λ numbers values ty kept.
    part_kept old new values name d place ty part kept same same_firsts
    (λ label. numbers label ∙ ap (λ k. cond (d.label.0 == label) k (number_in old label)) is))
    put

-- the labels of the results of a definition

got : {A : Type 0} (P : A → Type 0) (xs : List A) (i : ℕ) (x : A) → All P xs → slice_get xs i ≡ Some x → P x
got P xs i x h e = subst P (get_or_from_slice_get xs i x x e) (h i x (slice_get_within xs i x e))

is_zero : (n : ℕ) → (n == 0) ≡ true → n ≡ 0
is_zero n h = eqb-true n 0 h

second : (a b : Bool) → (a && b) ≡ true → b ≡ true
second true b h = h
second false b h = cc

definition_fits : (values : List Value) (name : List ℕ) (nth : ℕ) (v : Value) → All DoesFit values → definition_of values name nth ≡ Some v → v.label + v.count ≤ 2 ^ 32
definition_fits values name nth v fit e =
    let here : slice_get (definitions_of values name) (nth - 1) ≡ Some v = of_number (nth == 0) e in
    let fits : DoesFit v = got DoesFit (definitions_of values name) (nth - 1) v (All-filter (defines name) DoesFit values fit) here in
    let passes : defines name v ≡ true = got (λ (u : Value). defines name u ≡ true) (definitions_of values name) (nth - 1) v (filter_passes (defines name) values) here in
    let first : v.place ≡ 0 = is_zero v.place (second (bytes_eq v.name name) (v.place == 0) passes) in
    omega (arith, fits, first)
  where
    of_number : (b : Bool) → cond b None (slice_get (definitions_of values name) (nth - 1)) ≡ Some v → slice_get (definitions_of values name) (nth - 1) ≡ Some v
    of_number true h = cc
    of_number false h = h

fits_of : (o : Option Value) (d : PackValue) (place : ℕ) → ((v : Value) → o ≡ Some v → v.label + v.count ≤ 2 ^ 32) → option_map pack_value o ≡ Some d → place < d.count → d.label.0 + place < 2 ^ 32
fits_of None d place f e lt = cc
fits_of (Some v) d place f e lt =
    let same : pack_value v ≡ d = cc in
    let h = f v refl in
    let label : v.label ≡ d.label.0 = ap (λ (x : PackValue). x.label.0) same in
    let count : v.count ≡ d.count = ap (λ (x : PackValue). x.count) same in
    omega (arith, h, label, count, lt)

pub label_fits : (known : Definitions) (behind : ℕ) (values : List Value) (name : List ℕ) (nth : ℕ) (d : PackValue) (place : ℕ) → AreKept known behind values → All DoesFit values
    → definition_in known name nth ≡ Some d → place < d.count → d.label.0 + place < 2 ^ 32
label_fits known behind values name nth d place kept fit e lt =
    fits_of (definition_of values name nth) d place (λ v. definition_fits values name nth v fit) (sym (kept.firsts name nth) ∙ e) lt
