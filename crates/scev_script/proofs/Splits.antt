-- The first line of bytes.
use Rattle.std.proofs.Common.{◌≡◌, ℕ, ◌+◌, ◌<◌, ◌≤◌, ◌==◌, ◌∙◌, Bool, List, [], ◌∷◌, length, take, drop, refl, sym, ap, subst, arith, inl, inr}
use Rattle.std.specs.List.{slice_split, position_or_len, before_first, after_first}
use Rattle.std.specs.Str.Lines.{strip_carriage_return}
use Rattle.std.proofs.lemmas.Bool.{cases_Bool}
use Rattle.std.proofs.lemmas.List.{length-take-le, take-take}
use Rattle.std.proofs.lemmas.List.Splits.{slice_split_first, length-slice_split}
use Rattle.std.proofs.Math.Seq.{take-length, drop-length}
use Rattle.scev_script.specs.Lines.{lines_from}
use Rattle.scev_script.specs.FirstLine.{IsFirstLine}

abbrev is_lf : ℕ → Bool
is_lf b = b == 10

-- where nothing parts the list, it is the one part
one_part : (xs : List ℕ) → position_or_len is_lf xs ≡ length xs → slice_split is_lf xs ≡ xs ∷ []
one_part [] all = refl
one_part (x ∷ xs) all =
    elim (cases_Bool (x == 10)) [
      | inl parts ↦ let none : 0 ≡ length (x ∷ xs) = rw parts at all in absurd (omega arith)
      | inr other ↦ let more : 1 + position_or_len is_lf xs ≡ length (x ∷ xs) = rw other at all in
          rw (other, one_part xs (omega arith)) refl
    ]

last_part : (at : ℕ) (part : List ℕ) → 0 < length part → lines_from at (part ∷ []) ≡ record { at = at; text = part } ∷ []
last_part at [] some = absurd (omega arith)
last_part at (b ∷ bs) some = refl

ended_part : (at : ℕ) (part : List ℕ) (parts : List (List ℕ)) → 0 < length parts
    → lines_from at (part ∷ parts) ≡ record { at = at; text = strip_carriage_return part } ∷ lines_from (at + length part + 1) parts
ended_part at part [] some = absurd (omega arith)
ended_part at part (next ∷ parts) some = refl

-- the bytes are one line without an LF
pub whole_line : (bytes : List ℕ) (n : ℕ) → n ≡ position_or_len is_lf bytes → n ≡ length bytes → 0 < length bytes
    → IsFirstLine bytes (record { text = n; whole = n })
whole_line bytes n first all some = record {
  some = omega arith;
  text = omega arith;
  within = omega arith;
  lines = λ at.
      let text : take n bytes ≡ bytes = ap (λ k. take k bytes) all ∙ take-length bytes in
      let rest : drop n bytes ≡ [] = ap (λ k. drop k bytes) all ∙ drop-length bytes in
      ap (lines_from at) (one_part bytes (sym first ∙ all)) ∙ last_part at bytes some
      ∙ rw (text, rest) refl;
}

-- the first line has an LF
pub ended_line : (bytes : List ℕ) (n m : ℕ) → n ≡ position_or_len is_lf bytes → n < length bytes
    → take m (take n bytes) ≡ strip_carriage_return (take n bytes) → m ≤ n
    → IsFirstLine bytes (record { text = m; whole = n + 1 })
ended_line bytes n m first before text short = record {
  some = omega arith;
  text = omega arith;
  within = omega arith;
  lines = λ at.
      let split : slice_split is_lf bytes ≡ before_first is_lf bytes ∷ slice_split is_lf (after_first is_lf bytes) = slice_split_first is_lf bytes 0 (omega arith) in
      let parts : slice_split is_lf bytes ≡ take n bytes ∷ slice_split is_lf (drop (n + 1) bytes) =
      subst (λ k. slice_split is_lf bytes ≡ take k bytes ∷ slice_split is_lf (drop (k + 1) bytes)) (sym first) split in
      let some : 0 < length (slice_split is_lf (drop (n + 1) bytes)) = omega (arith, length-slice_split is_lf (drop (n + 1) bytes)) in
      let line : strip_carriage_return (take n bytes) ≡ take m bytes = sym text ∙ take-take m n bytes short in
      let place : at + length (take n bytes) + 1 ≡ at + (n + 1) = omega (arith, length-take-le n bytes (omega arith)) in
      ap (lines_from at) parts ∙ ended_part at (take n bytes) (slice_split is_lf (drop (n + 1) bytes)) some
      ∙ rw (line, place) refl;
}
