-- Lists of numbers that are written to.
use Rattle.std.proofs.Common.{◌≡◌, ℕ, zero, suc, ◌+◌, ◌<◌, ◌≤◌, min, List, [], ◌∷◌, length, drop, get_or, slice_set, refl, ap, arith}
use Rattle.std.proofs.lemmas.List.{map-set}
use Rattle.arith_word.specs.declared.word.Word.{Word}
use Rattle.mlir_ir.specs.declared.types.Arg.{Arg}
use Rattle.mlir_ir.specs.declared.types.IrType.{IrType}
use Rattle.mlir_ir.specs.Runs.{Number, number}
use Rattle.mlir_ir.specs.Words.{bits_of}
use Rattle.scf_eval.specs.Machine.{given, moved, number_at}
use Rattle.scf_eval.specs.States.{numbers, number_of}

pub numbers_set : (words : List Word) (pos : ℕ) (x : Word) → numbers (slice_set words pos x) ≡ slice_set (numbers words) pos (number_of x)
numbers_set words pos x = map-set number_of words pos x

-- no slot there: nothing is written
pub set_past : (words : List Word) (pos : ℕ) (x : Number) → length words ≤ pos → slice_set (numbers words) pos x ≡ numbers words
set_past [] pos x h = refl
set_past (word ∷ words) zero x h = absurd (omega arith)
set_past (word ∷ words) (suc pos) x h = ap (λ ns. number_of word ∷ ns) (set_past words pos x (omega arith))

next_moved : (values : List Number) (from to k : ℕ) (args : List Arg) → k < length args
    → moved values from to (drop k args) ≡ moved (slice_set values to (number_at values from)) (from + 1) (to + 1) (drop (suc k) args)
next_moved values from to k [] h = absurd (omega arith)
next_moved values from to zero (arg ∷ args) h = refl
next_moved values from to (suc k) (arg ∷ args) h = next_moved values from to k args (omega arith)

pub moved_step : (values : List Number) (from to k : ℕ) (args : List Arg) → k < length args
    → moved values (from + k) (to + k) (drop k args) ≡ moved (slice_set values (to + k) (number_at values (from + k))) (from + (k + 1)) (to + (k + 1)) (drop (k + 1) args)
moved_step values from to k args h =
    let f : from + (k + 1) ≡ from + k + 1 = omega arith in
    let t : to + (k + 1) ≡ to + k + 1 = omega arith in
    let n : k + 1 ≡ suc k = omega arith in
    rw (f, t, n) (next_moved values (from + k) (to + k) k args h)

next_given : (values : List Number) (pos k : ℕ) (types : List IrType) (ns : List ℕ) (ty : IrType) (n : ℕ) → k < length types → k < length ns
    → ty ≡ get_or types k ty → n ≡ get_or ns k n
    → given values pos (drop k types) (drop k ns) ≡ given (slice_set values pos (number (bits_of ty) n)) (pos + 1) (drop (suc k) types) (drop (suc k) ns)
next_given values pos k [] ns ty n ht hn et en = absurd (omega arith)
next_given values pos k (t ∷ types) [] ty n ht hn et en = absurd (omega arith)
next_given values pos zero (t ∷ types) (x ∷ ns) ty n ht hn et en = rw (et, en) refl
next_given values pos (suc k) (t ∷ types) (x ∷ ns) ty n ht hn et en = next_given values pos k types ns ty n (omega arith) (omega arith) et en

pub given_step : (values : List Number) (pos k : ℕ) (types : List IrType) (ns : List ℕ) (ty : IrType) (n : ℕ) → k < length types → k < length ns
    → ty ≡ get_or types k ty → n ≡ get_or ns k n
    → given values (pos + k) (drop k types) (drop k ns) ≡ given (slice_set values (pos + k) (number (bits_of ty) n)) (pos + (k + 1)) (drop (k + 1) types) (drop (k + 1) ns)
given_step values pos k types ns ty n ht hn et en =
    let p : pos + (k + 1) ≡ pos + k + 1 = omega arith in
    let m : k + 1 ≡ suc k = omega arith in
    rw (p, m) (next_given values (pos + k) k types ns ty n ht hn et en)

given_none : (values : List Number) (pos : ℕ) (types : List IrType) (ns : List ℕ) → min (length types) (length ns) ≤ 0 → given values pos types ns ≡ values
given_none values pos [] ns h = refl
given_none values pos (t ∷ types) [] h = refl
given_none values pos (t ∷ types) (n ∷ ns) h = absurd (omega arith)

pub given_end : (values : List Number) (pos k : ℕ) (types : List IrType) (ns : List ℕ) → min (length types) (length ns) ≤ k → given values pos (drop k types) (drop k ns) ≡ values
given_end values pos zero types ns h = given_none values pos types ns h
given_end values pos (suc k) [] ns h = refl
given_end values pos (suc k) (t ∷ types) [] h = given_none values pos (drop k types) [] (omega arith)
given_end values pos (suc k) (t ∷ types) (n ∷ ns) h = given_end values pos k types ns (omega arith)
