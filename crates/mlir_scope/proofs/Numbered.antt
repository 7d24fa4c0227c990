-- The first of the numbers that stand in a phrase.
use Rattle.std.proofs.Common.{◌≡◌, ℕ, List, ◌∷◌, map, if◌then◌else◌, Bool, true, false, ◌||◌, refl, ap, ◌∙◌}
use Rattle.std.specs.Str.Parse.{digits_value}
use Rattle.mlir_ir.specs.GrammarNumbers.{same}
use Rattle.mlir_ir.specs.Phrases.{Phrase, done, token, line, Spot, spots, has, first_spot}
use Rattle.mlir_ir.specs.Source.{first_number}
use Rattle.mlir_ir.specs.declared.terminal.Terminal.{Terminal}

abbrev number_in : List Spot → ℕ → ℕ
number_in found n = first_number (map (λ (s : Spot). s.text) found) n

-- with one token more, which may be one of them
one_more : (b here : Bool) (s : Spot) (found : List Spot) (n : ℕ)
    → number_in found n ≡ (if here then digits_value 10 (first_spot found).text else n)
    → number_in (if b then s ∷ found else found) n ≡ (if b || here then digits_value 10 (first_spot (if b then s ∷ found else found)).text else n)
one_more true here s found n rest = refl
one_more false here s found n rest = rest

number_is : (c : Terminal) (p : Phrase) (n : ℕ) → number_in (spots c p) n ≡ (if has c p then digits_value 10 (first_spot (spots c p)).text else n)
number_is c done n = refl
number_is c (token at d text rest) n = one_more (same c d) (has c rest) (record { at = at; text = text }) (spots c rest) n (number_is c rest n)
number_is c (line form at parts rest) n = number_is c rest n

pub number_written : (c : Terminal) (p : Phrase) (n : ℕ) → has c p ≡ true → first_number (map (λ (s : Spot). s.text) (spots c p)) n ≡ digits_value 10 (first_spot (spots c p)).text
number_written c p n h = number_is c p n ∙ ap (λ b. if b then digits_value 10 (first_spot (spots c p)).text else n) h

pub number_left_out : (c : Terminal) (p : Phrase) (n : ℕ) → has c p ≡ false → first_number (map (λ (s : Spot). s.text) (spots c p)) n ≡ n
number_left_out c p n h = number_is c p n ∙ ap (λ b. if b then digits_value 10 (first_spot (spots c p)).text else n) h
