-- Numbers that are written to slots one after another.
use Rattle.std.proofs.Common.{◌≡◌, ℕ, zero, suc, ◌+◌, ◌<◌, ◌≤◌, ◌⊎◌, inl, inr, List, [], ◌∷◌, length, slice_set, refl, ap, ◌∙◌, sym, arith}
use Rattle.mlir_ir.specs.declared.types.Arg.{Arg}
use Rattle.mlir_ir.specs.declared.types.IrType.{IrType}
use Rattle.arith_word.specs.declared.label.Label.{Label}
use Rattle.mlir_ir.specs.Runs.{Number, number, Binding, look, numbers_of, numbers_at}
use Rattle.mlir_ir.specs.Words.{bits_of}
use Rattle.scf_eval.specs.Machine.{Slots, number_at, copied, moved, given}

abbrev pub put : List Number → ℕ → List Number → List Number
put values pos [] = values
put values pos (n ∷ ns) = put (slice_set values pos n) (pos + 1) ns

-- numbers at the slots from `pos` on
abbrev pub Stored : List Number → ℕ → List Number → Type 0
Stored values pos [] = Unit {0}
Stored values pos (n ∷ ns) = (number_at values pos ≡ n) × Stored values (pos + 1) ns

-- the slots below `pos` are as before
pub record Keeps (pos : ℕ) (values after : List Number) : Type 0 where
  pub size : length after ≡ length values
  pub old : (i : ℕ) → i < pos → number_at after i ≡ number_at values i

pub kept : (pos : ℕ) (values : List Number) → Keeps pos values values
kept pos values = record { size = refl; old = λ i h. refl }

pub keeps_both : (pos : ℕ) (a b c : List Number) → Keeps pos a b → Keeps pos b c → Keeps pos a c
keeps_both pos a b c h g = record { size = g.size ∙ h.size; old = λ i lt. g.old i lt ∙ h.old i lt }

pub keeps_less : (pos low : ℕ) (a b : List Number) → low ≤ pos → Keeps pos a b → Keeps low a b
keeps_less pos low a b le h = record { size = h.size; old = λ i lt. h.old i (omega arith) }

pub set_other : (values : List Number) (pos i : ℕ) (n : Number) → (i < pos) ⊎ (pos < i) → number_at (slice_set values pos n) i ≡ number_at values i
set_other [] pos i n h = refl
set_other (x ∷ values) zero zero n (inl h) = absurd (omega arith)
set_other (x ∷ values) zero zero n (inr h) = absurd (omega arith)
set_other (x ∷ values) zero (suc i) n h = refl
set_other (x ∷ values) (suc pos) zero n h = refl
set_other (x ∷ values) (suc pos) (suc i) n (inl h) = set_other values pos i n (inl (omega arith))
set_other (x ∷ values) (suc pos) (suc i) n (inr h) = set_other values pos i n (inr (omega arith))

pub set_here : (values : List Number) (pos : ℕ) (n : Number) → pos < length values → number_at (slice_set values pos n) pos ≡ n
set_here [] pos n h = absurd (omega arith)
set_here (x ∷ values) zero n h = refl
set_here (x ∷ values) (suc pos) n h = set_here values pos n (omega arith)

pub set_size : (values : List Number) (pos : ℕ) (n : Number) → length (slice_set values pos n) ≡ length values
set_size [] pos n = refl
set_size (x ∷ values) zero n = refl
set_size (x ∷ values) (suc pos) n = ap (λ k. suc k) (set_size values pos n)

pub put_keeps : (values : List Number) (pos : ℕ) (ns : List Number) → Keeps pos values (put values pos ns)
put_keeps values pos [] = kept pos values
put_keeps values pos (n ∷ ns) =
    let h = put_keeps (slice_set values pos n) (pos + 1) ns in
    record { size = h.size ∙ set_size values pos n; old = λ i lt. h.old i (omega arith) ∙ set_other values pos i n (inl lt) }

-- what is above stays too
pub put_above : (values : List Number) (pos : ℕ) (ns : List Number) (i : ℕ) → pos + length ns ≤ i → number_at (put values pos ns) i ≡ number_at values i
put_above values pos [] i h = refl
put_above values pos (n ∷ ns) i h = put_above (slice_set values pos n) (pos + 1) ns i (omega arith) ∙ set_other values pos i n (inr (omega arith))

pub put_stored : (values : List Number) (pos : ℕ) (ns : List Number) → pos + length ns ≤ length values → Stored (put values pos ns) pos ns
put_stored values pos [] h = tt
put_stored values pos (n ∷ ns) h = (
  (put_keeps (slice_set values pos n) (pos + 1) ns).old pos (omega arith) ∙ set_here values pos n (omega arith),
  put_stored (slice_set values pos n) (pos + 1) ns (omega (arith, set_size values pos n)),
)

pub stored_kept : (values after : List Number) (pos : ℕ) (ns : List Number) → ((i : ℕ) → pos ≤ i → i < pos + length ns → number_at after i ≡ number_at values i) → Stored values pos ns → Stored after pos ns
stored_kept values after pos [] e h = tt
stored_kept values after pos (n ∷ ns) e h = (e pos (omega arith) (omega arith) ∙ h.0, stored_kept values after (pos + 1) ns (λ i lo hi. e i (omega arith) (omega arith)) h.1)

-- the forms in which the machine writes
pub given_put : (values : List Number) (pos : ℕ) (types : List IrType) (ns : List ℕ) → given values pos types ns ≡ put values pos (numbers_at types ns)
given_put values pos [] ns = refl
given_put values pos (ty ∷ types) [] = refl
given_put values pos (ty ∷ types) (n ∷ ns) = given_put (slice_set values pos (number (bits_of ty) n)) (pos + 1) types ns

pub moved_put : (values : List Number) (from to : ℕ) (args : List Arg) (ns : List Number) → length args ≡ length ns → to + length ns ≤ from → Stored values from ns → moved values from to args ≡ put values to ns
moved_put values from to [] [] e h s = refl
moved_put values from to [] (n ∷ ns) e h s = absurd (omega arith)
moved_put values from to (arg ∷ args) [] e h s = absurd (omega arith)
moved_put values from to (arg ∷ args) (n ∷ ns) e h s =
    rw s.0 (moved_put (slice_set values to n) (from + 1) (to + 1) args ns (omega arith) (omega arith)
    (stored_kept values (slice_set values to n) (from + 1) ns (λ i lo hi. set_other values to i n (inr (omega arith))) s.1))

-- labels are read where nothing is written: below `pos`, or from `top` on
abbrev pub Reads : Slots → List Number → ℕ → ℕ → List Binding → List Label → Type 0
Reads slot values pos top env [] = Unit {0}
Reads slot values pos top env (label ∷ labels) =
    (look env label.0 ≡ number_at values (slot label.0)) × ((slot label.0 < pos) ⊎ (top ≤ slot label.0)) × Reads slot values pos top env labels

apart_at : (pos top k : ℕ) → pos < top → (k < pos) ⊎ (top ≤ k) → (k < pos) ⊎ (pos < k)
apart_at pos top k h (inl lt) = inl lt
apart_at pos top k h (inr le) = inr (omega arith)

apart_next : (pos top k : ℕ) → (k < pos) ⊎ (top ≤ k) → (k < pos + 1) ⊎ (top ≤ k)
apart_next pos top k (inl lt) = inl (omega arith)
apart_next pos top k (inr le) = inr le

reads_set : (slot : Slots) (values : List Number) (pos top : ℕ) (env : List Binding) (n : Number) (labels : List Label) → pos < top → Reads slot values pos top env labels → Reads slot (slice_set values pos n) (pos + 1) top env labels
reads_set slot values pos top env n [] h r = tt
reads_set slot values pos top env n (label ∷ labels) h r = (
  r.0 ∙ sym (set_other values pos (slot label.0) n (apart_at pos top (slot label.0) h r.1)),
  apart_next pos top (slot label.0) r.1,
  reads_set slot values pos top env n labels h r.2,
)

pub copied_put : (slot : Slots) (values : List Number) (pos top : ℕ) (env : List Binding) (labels : List Label) → pos + length labels ≤ top → Reads slot values pos top env labels
    → copied slot values pos labels ≡ put values pos (numbers_of env labels)
copied_put slot values pos top env [] h r = refl
copied_put slot values pos top env (label ∷ labels) h r =
    rw (← r.0) (copied_put slot (slice_set values pos (look env label.0)) (pos + 1) top env labels (omega arith) (reads_set slot values pos top env (look env label.0) labels (omega arith) r.2))
