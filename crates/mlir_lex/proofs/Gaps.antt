-- Whitespace and comments from a byte offset on.
use Rattle.std.proofs.Common.{◌≡◌, ℕ, ◌+◌, ◌<◌, Bool, true, false, not, ◌&&◌, ◌==◌, List, [], ◌∷◌, length, get_or, drop, refl, ap, ◌∙◌, sym, drop-cons, add-one}
use Rattle.std.proofs.Math.Seq.{drop-length}
use Rattle.mlir_ir.specs.Tokens.{is_blank, is_next, behind_gap}

cut : (bs : List ℕ) (at : ℕ) → at < length bs → drop at bs ≡ get_or bs at 0 ∷ drop (at + 1) bs
cut bs at h = rw (add-one, drop-cons bs at 0) refl

-- a byte of a comment
pub in_comment : (bs : List ℕ) (at : ℕ) → at < length bs → behind_gap true (drop at bs) ≡ behind_gap (not (get_or bs at 0 == 10)) (drop (at + 1) bs)
in_comment bs at h = ap (behind_gap true) (cut bs at h)

pub at_blank : (bs : List ℕ) (at : ℕ) → at < length bs → is_blank (get_or bs at 0) ≡ true → behind_gap false (drop at bs) ≡ behind_gap false (drop (at + 1) bs)
at_blank bs at h blank = ap (behind_gap false) (cut bs at h) ∙ rw blank refl

-- a comment begins
pub at_slashes : (bs : List ℕ) (at : ℕ) → at < length bs → is_blank (get_or bs at 0) ≡ false → get_or bs at 0 ≡ 47 → is_next 47 (drop (at + 1) bs) ≡ true
    → behind_gap false (drop at bs) ≡ behind_gap true (drop (at + 1) bs)
at_slashes bs at h blank first second = ap (behind_gap false) (cut bs at h) ∙ rw (blank, first, second) refl

-- the gap ends where a token may begin
pub at_token : (bs : List ℕ) (at : ℕ) → at < length bs → is_blank (get_or bs at 0) ≡ false → (get_or bs at 0 == 47 && is_next 47 (drop (at + 1) bs)) ≡ false
    → behind_gap false (drop at bs) ≡ drop at bs
at_token bs at h blank none = ap (behind_gap false) (cut bs at h) ∙ rw (blank, none) (sym (cut bs at h))

behind_nothing : (comment : Bool) → behind_gap comment [] ≡ []
behind_nothing true = refl
behind_nothing false = refl

-- the gap reaches the end of the text
pub at_end : (bs : List ℕ) (comment : Bool) → behind_gap comment (drop (length bs) bs) ≡ []
at_end bs comment = ap (behind_gap comment) (drop-length bs) ∙ behind_nothing comment
