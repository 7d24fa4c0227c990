-- The longest name, number or word that bytes begin with.
use Rattle.std.proofs.Common.{suc, zero, ◌≡◌, ℕ, ◌+◌, ◌<◌, ◌≤◌, Bool, true, false, ◌&&◌, ◌==◌, List, [], ◌∷◌, length, take, refl, ◌∙◌, arith, eq-eqb, one-add, sym, subst, ap}
use Rattle.std.specs.List.{prefix_len, list_all}
use Rattle.std.proofs.lemmas.Bool.{and_left, and_right, and_from, and_parts, or_from, or_left, or_right, eqb-true, both_ways}
use Rattle.mlir_ir.specs.Names.{is_digit, is_name_byte, is_name}
use Rattle.mlir_ir.specs.Tokens.{begins_word, is_word_byte, is_word, is_hex_digit, is_decimal, is_hexadecimal, is_led, is_mark, is_mark_byte, is_next, is_token}
use Rattle.mlir_ir.specs.declared.token.TokenKind.TheVariants.{Word, Number}
use Rattle.mlir_lex.specs.Longest.{IsLongest}
use Rattle.mlir_lex.proofs.LongestRuns.{prefix_within, run_passes, past_run}

pub no_name : IsLongest is_name [] 0
no_name = record { within = omega arith; whole = λ some. absurd (omega arith); longest = λ more beyond within. absurd (omega arith) }

pub digits_name : (b : ℕ) (bs : List ℕ) → is_digit b ≡ true → IsLongest is_name (b ∷ bs) (1 + prefix_len is_digit bs)
digits_name b bs digit = record {
  within = omega (arith, prefix_within is_digit bs);
  whole = λ some. rw (one-add (prefix_len is_digit bs), digit) (run_passes is_digit bs);
  longest = longer;
}
  where
    longer : (more : ℕ) → 1 + prefix_len is_digit bs < more → more ≤ length (b ∷ bs) → is_name (take more (b ∷ bs)) ≡ false
    longer zero beyond within = absurd (omega arith)
    longer (suc more) beyond within = rw digit (past_run is_digit bs more (omega arith) (omega arith))

-- a name that begins with no digit
name_of : (b : ℕ) (bs : List ℕ) → is_digit b ≡ false → is_name (b ∷ bs) ≡ list_all is_name_byte (b ∷ bs)
name_of b bs no_digit = rw no_digit refl

pub other_name : (b : ℕ) (bs : List ℕ) → is_digit b ≡ false → IsLongest is_name (b ∷ bs) (prefix_len is_name_byte (b ∷ bs))
other_name b bs no_digit = record {
  within = prefix_within is_name_byte (b ∷ bs);
  whole = whole (prefix_len is_name_byte (b ∷ bs)) (run_passes is_name_byte (b ∷ bs));
  longest = longer;
}
  where
    whole : (len : ℕ) → list_all is_name_byte (take len (b ∷ bs)) ≡ true → 0 < len → is_name (take len (b ∷ bs)) ≡ true
    whole zero passes some = absurd (omega arith)
    whole (suc len) passes some = name_of b (take len bs) no_digit ∙ passes

    longer : (more : ℕ) → prefix_len is_name_byte (b ∷ bs) < more → more ≤ length (b ∷ bs) → is_name (take more (b ∷ bs)) ≡ false
    longer zero beyond within = absurd (omega arith)
    longer (suc more) beyond within = name_of b (take more bs) no_digit ∙ past_run is_name_byte (b ∷ bs) (suc more) beyond within

pub decimal_run : (bs : List ℕ) → IsLongest is_decimal bs (prefix_len is_digit bs)
decimal_run bs = record {
  within = prefix_within is_digit bs;
  whole = whole (prefix_len is_digit bs) bs (run_passes is_digit bs) (prefix_within is_digit bs);
  longest = λ more beyond within. longer more bs (past_run is_digit bs more beyond within);
}
  where
    whole : (len : ℕ) (xs : List ℕ) → list_all is_digit (take len xs) ≡ true → len ≤ length xs → 0 < len → is_decimal (take len xs) ≡ true
    whole zero xs passes within some = absurd (omega arith)
    whole (suc len) [] passes within some = absurd (omega arith)
    whole (suc len) (x ∷ xs) passes within some = passes

    longer : (more : ℕ) (xs : List ℕ) → list_all is_digit (take more xs) ≡ false → is_decimal (take more xs) ≡ false
    longer zero xs stops = refl
    longer (suc more) [] stops = refl
    longer (suc more) (x ∷ xs) stops = stops

pub hexadecimal_run : (bs : List ℕ) → IsLongest is_hexadecimal bs (prefix_len is_hex_digit bs)
hexadecimal_run bs = record {
  within = prefix_within is_hex_digit bs;
  whole = whole (prefix_len is_hex_digit bs) bs (run_passes is_hex_digit bs) (prefix_within is_hex_digit bs);
  longest = λ more beyond within. longer more bs (past_run is_hex_digit bs more beyond within);
}
  where
    whole : (len : ℕ) (xs : List ℕ) → list_all is_hex_digit (take len xs) ≡ true → len ≤ length xs → 0 < len → is_hexadecimal (take len xs) ≡ true
    whole zero xs passes within some = absurd (omega arith)
    whole (suc len) [] passes within some = absurd (omega arith)
    whole (suc len) (x ∷ xs) passes within some = passes

    longer : (more : ℕ) (xs : List ℕ) → list_all is_hex_digit (take more xs) ≡ false → is_hexadecimal (take more xs) ≡ false
    longer zero xs stops = refl
    longer (suc more) [] stops = refl
    longer (suc more) (x ∷ xs) stops = stops

pub word_run : (b : ℕ) (bs : List ℕ) → begins_word b ≡ true → IsLongest is_word (b ∷ bs) (1 + prefix_len is_word_byte bs)
word_run b bs begins = record {
  within = omega (arith, prefix_within is_word_byte bs);
  whole = λ some. rw (one-add (prefix_len is_word_byte bs), begins) (run_passes is_word_byte bs);
  longest = longer;
}
  where
    longer : (more : ℕ) → 1 + prefix_len is_word_byte bs < more → more ≤ length (b ∷ bs) → is_word (take more (b ∷ bs)) ≡ false
    longer zero beyond within = absurd (omega arith)
    longer (suc more) beyond within = and_right (begins_word b) (list_all is_word_byte (take more bs)) (past_run is_word_byte bs more (omega arith) (omega arith))

-- a lead byte before the longest bytes that pass
pub led_longest : (lead : ℕ) (passes : List ℕ → Bool) (bs : List ℕ) (len : ℕ)
    → IsLongest passes bs len → 0 < len → IsLongest (is_led lead passes) (lead ∷ bs) (1 + len)
led_longest lead passes bs len run some = record {
  within = omega (arith, run.within);
  whole = λ _. rw (one-add len) (and_from (lead == lead) (passes (take len bs)) (eq-eqb lead lead refl) (run.whole some));
  longest = longer;
}
  where
    longer : (more : ℕ) → 1 + len < more → more ≤ length (lead ∷ bs) → is_led lead passes (take more (lead ∷ bs)) ≡ false
    longer zero beyond within = absurd (omega arith)
    longer (suc more) beyond within = and_right (lead == lead) (passes (take more bs)) (run.longest more (omega arith) (omega arith))

-- no bytes pass after the lead byte
pub led_nothing : (lead : ℕ) (passes : List ℕ → Bool) (bs : List ℕ)
    → passes [] ≡ false → IsLongest passes bs 0 → IsLongest (is_led lead passes) (lead ∷ bs) 0
led_nothing lead passes bs none run = record {
  within = omega arith;
  whole = λ some. absurd (omega arith);
  longest = longer;
}
  where
    longer : (more : ℕ) → 0 < more → more ≤ length (lead ∷ bs) → is_led lead passes (take more (lead ∷ bs)) ≡ false
    longer zero beyond within = absurd (omega arith)
    longer (suc zero) beyond within = and_right (lead == lead) (passes []) none
    longer (suc (suc more)) beyond within = and_right (lead == lead) (passes (take (suc more) bs)) (run.longest (suc more) (omega arith) (omega arith))

-- the first byte is not the lead byte
pub led_by_other : (lead : ℕ) (passes : List ℕ → Bool) (b : ℕ) (bs : List ℕ) → (b == lead) ≡ false → IsLongest (is_led lead passes) (b ∷ bs) 0
led_by_other lead passes b bs other = record {
  within = omega arith;
  whole = λ some. absurd (omega arith);
  longest = longer;
}
  where
    longer : (more : ℕ) → 0 < more → more ≤ length (b ∷ bs) → is_led lead passes (take more (b ∷ bs)) ≡ false
    longer zero beyond within = absurd (omega arith)
    longer (suc more) beyond within = and_left (b == lead) (passes (take more bs)) other

pub led_by_nothing : (lead : ℕ) (passes : List ℕ → Bool) → IsLongest (is_led lead passes) [] 0
led_by_nothing lead passes = record { within = omega arith; whole = λ some. absurd (omega arith); longest = λ more beyond within. absurd (omega arith) }

-- The lemmas below take the length that the code counted, with the equation for it.

pub decimal_of : (bs : List ℕ) (n : ℕ) → n ≡ prefix_len is_digit bs → IsLongest is_decimal bs n
decimal_of bs n counted = subst (λ k. IsLongest is_decimal bs k) (sym counted) (decimal_run bs)

pub hexadecimal_of : (bs : List ℕ) (n : ℕ) → n ≡ prefix_len is_hex_digit bs → IsLongest is_hexadecimal bs n
hexadecimal_of bs n counted = subst (λ k. IsLongest is_hexadecimal bs k) (sym counted) (hexadecimal_run bs)

pub word_of : (b : ℕ) (bs : List ℕ) (n : ℕ) → begins_word b ≡ true → n ≡ prefix_len is_word_byte bs → IsLongest (is_token Word) (b ∷ bs) (1 + n)
word_of b bs n begins counted = subst (λ k. IsLongest is_word (b ∷ bs) (1 + k)) (sym counted) (word_run b bs begins)

pub digits_name_of : (whole : List ℕ) (b : ℕ) (bs : List ℕ) (n : ℕ)
    → whole ≡ b ∷ bs → is_digit b ≡ true → n ≡ prefix_len is_digit bs → IsLongest is_name whole (1 + n)
digits_name_of whole b bs n parts digit counted =
    subst (λ (w : List ℕ). IsLongest is_name w (1 + n)) (sym parts) (subst (λ k. IsLongest is_name (b ∷ bs) (1 + k)) (sym counted) (digits_name b bs digit))

pub other_name_of : (whole : List ℕ) (b : ℕ) (bs : List ℕ) (n : ℕ)
    → whole ≡ b ∷ bs → is_digit b ≡ false → n ≡ prefix_len is_name_byte whole → IsLongest is_name whole n
other_name_of whole b bs n parts no_digit counted =
    subst (λ k. IsLongest is_name whole k) (sym counted)
    (subst (λ (w : List ℕ). IsLongest is_name w (prefix_len is_name_byte w)) (sym parts) (other_name b bs no_digit))

pub digits_of : (b : ℕ) (bs : List ℕ) (n : ℕ) → is_digit b ≡ true → n ≡ prefix_len is_digit bs → IsLongest is_decimal (b ∷ bs) (1 + n)
digits_of b bs n digit counted =
    let run : prefix_len is_digit (b ∷ bs) ≡ 1 + prefix_len is_digit bs = rw digit refl in
    decimal_of (b ∷ bs) (1 + n) (ap (λ k. 1 + k) counted ∙ sym run)

pub led_of : (lead : ℕ) (passes : List ℕ → Bool) (b : ℕ) (bs : List ℕ) (n m : ℕ)
    → b ≡ lead → passes [] ≡ false → IsLongest passes bs n → (n ≡ 0 → m ≡ 0) → (0 < n → m ≡ 1 + n) → IsLongest (is_led lead passes) (b ∷ bs) m
led_of lead passes b bs zero m first none run alone more =
    subst (λ k. IsLongest (is_led lead passes) (k ∷ bs) m) (sym first)
    (subst (λ k. IsLongest (is_led lead passes) (lead ∷ bs) k) (sym (alone refl)) (led_nothing lead passes bs none run))
led_of lead passes b bs (suc n) m first none run alone more =
    subst (λ k. IsLongest (is_led lead passes) (k ∷ bs) m) (sym first)
    (subst (λ k. IsLongest (is_led lead passes) (lead ∷ bs) k) (sym (more (omega arith))) (led_longest lead passes bs (suc n) run (omega arith)))

-- a number with `0x`
pub hexadecimal_number : (bs : List ℕ) (n : ℕ) → IsLongest (is_led 48 (is_led 120 is_hexadecimal)) bs n → 0 < n → IsLongest (is_token Number) bs n
hexadecimal_number bs n run some = record {
  within = run.within;
  whole = λ _. or_right (is_decimal (take n bs)) (is_led 48 (is_led 120 is_hexadecimal) (take n bs)) (run.whole some);
  longest = λ more beyond within.
      or_from (is_decimal (take more bs)) (is_led 48 (is_led 120 is_hexadecimal) (take more bs)) (no_decimal bs n more (run.whole some) beyond within) (run.longest more beyond within);
}
  where
    no_decimal : (bs : List ℕ) (n more : ℕ) → is_led 48 (is_led 120 is_hexadecimal) (take n bs) ≡ true → n < more → more ≤ length bs → is_decimal (take more bs) ≡ false
    no_decimal bs zero more whole beyond within = cc
    no_decimal [] (suc n) more whole beyond within = cc
    no_decimal (b ∷ bs) (suc zero) more whole beyond within = absurd (both_ways _ (and_right (b == 48) false refl) whole)
    no_decimal (b ∷ []) (suc (suc n)) more whole beyond within = absurd (both_ways _ (and_right (b == 48) false refl) whole)
    no_decimal (b ∷ c ∷ bs) (suc (suc n)) zero whole beyond within = refl
    no_decimal (b ∷ c ∷ bs) (suc (suc n)) (suc zero) whole beyond within = absurd (omega arith)
    no_decimal (b ∷ c ∷ bs) (suc (suc n)) (suc (suc more)) whole beyond within =
        let behind = and_parts (b == 48) (c == 120 && is_hexadecimal (take n bs)) whole in
        let second : c ≡ 120 = eqb-true c 120 (and_parts (c == 120) (is_hexadecimal (take n bs)) behind.1).0 in
        and_right (is_digit b) (is_digit c && list_all is_digit (take more bs)) (and_left (is_digit c) (list_all is_digit (take more bs)) (ap is_digit second))

-- a number without `0x`
pub decimal_number : (bs : List ℕ) (n : ℕ) → IsLongest (is_led 48 (is_led 120 is_hexadecimal)) bs 0 → IsLongest is_decimal bs n → IsLongest (is_token Number) bs n
decimal_number bs n none run = record {
  within = run.within;
  whole = λ some. or_left (is_decimal (take n bs)) (is_led 48 (is_led 120 is_hexadecimal) (take n bs)) (run.whole some);
  longest = λ more beyond within.
      or_from (is_decimal (take more bs)) (is_led 48 (is_led 120 is_hexadecimal) (take more bs)) (run.longest more beyond within) (none.longest more (omega arith) within);
}

-- the mark `->`
pub arrow_mark : (b : ℕ) (bs : List ℕ) → (b == 45) ≡ true → is_next 62 bs ≡ true → IsLongest is_mark (b ∷ bs) 2
arrow_mark b [] dash next = cc
arrow_mark b (c ∷ bs) dash next = record {
  within = omega arith;
  whole = λ _. and_from (b == 45) (c == 62) dash next;
  longest = longer bs;
}
  where
    longer : (bs : List ℕ) (more : ℕ) → 2 < more → more ≤ length (b ∷ c ∷ bs) → is_mark (take more (b ∷ c ∷ bs)) ≡ false
    longer bs zero beyond within = absurd (omega arith)
    longer bs (suc zero) beyond within = absurd (omega arith)
    longer bs (suc (suc zero)) beyond within = absurd (omega arith)
    longer [] (suc (suc (suc more))) beyond within = absurd (omega arith)
    longer (d ∷ bs) (suc (suc (suc more))) beyond within = refl

-- a mark of one byte
pub mark_alone : (b : ℕ) (bs : List ℕ) → is_mark_byte b ≡ true → (b == 45 && is_next 62 bs) ≡ false → IsLongest is_mark (b ∷ bs) 1
mark_alone b bs mark alone = record {
  within = omega arith;
  whole = λ _. mark;
  longest = longer bs alone;
}
  where
    longer : (bs : List ℕ) → (b == 45 && is_next 62 bs) ≡ false → (more : ℕ) → 1 < more → more ≤ length (b ∷ bs) → is_mark (take more (b ∷ bs)) ≡ false
    longer bs alone zero beyond within = absurd (omega arith)
    longer bs alone (suc zero) beyond within = absurd (omega arith)
    longer [] alone (suc (suc more)) beyond within = absurd (omega arith)
    longer (c ∷ bs) alone (suc (suc zero)) beyond within = alone
    longer (c ∷ []) alone (suc (suc (suc more))) beyond within = absurd (omega arith)
    longer (c ∷ d ∷ bs) alone (suc (suc (suc more))) beyond within = refl
