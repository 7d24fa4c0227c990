-- Commands with another number of words.
use Rattle.std.proofs.Common.{◌≡◌, ◌≢◌, ℕ, List, [], ◌∷◌, None, Bor, map, ◌<◌, length, arith, refl, sym, ◌∙◌}
use Rattle.std.proofs.lemmas.List.{length-map}
use Rattle.scev_script.specs.Commands.{scev_of, at_of, hold_of}

scev_shape : (ws : List (List ℕ)) → length ws ≢ 2 → scev_of ws ≡ None
scev_shape [] other = refl
scev_shape (a ∷ []) other = refl
scev_shape (a ∷ b ∷ []) other = absurd (other refl)
scev_shape (a ∷ b ∷ c ∷ ws) other = refl

hold_shape : (ws : List (List ℕ)) → length ws ≢ 3 → hold_of ws ≡ None
hold_shape [] other = refl
hold_shape (a ∷ []) other = refl
hold_shape (a ∷ b ∷ []) other = refl
hold_shape (a ∷ b ∷ c ∷ []) other = absurd (other refl)
hold_shape (a ∷ b ∷ c ∷ d ∷ ws) other = refl

pub scev_other : (ws : List (Bor (List ℕ))) → length ws ≢ 2 → None ≡ scev_of (map (λ w. w.now) ws)
scev_other ws other = sym (scev_shape (map (λ w. w.now) ws) (λ same. other (sym (length-map ws (λ w. w.now)) ∙ same)))

pub hold_other : (ws : List (Bor (List ℕ))) → length ws ≢ 3 → None ≡ hold_of (map (λ w. w.now) ws)
hold_other ws other = sym (hold_shape (map (λ w. w.now) ws) (λ same. other (sym (length-map ws (λ w. w.now)) ∙ same)))

pub at_short : (ws : List (Bor (List ℕ))) → length ws < 2 → None ≡ at_of (map (λ w. w.now) ws)
at_short [] short = refl
at_short (a ∷ []) short = refl
at_short (a ∷ b ∷ ws) short = absurd (omega arith)
