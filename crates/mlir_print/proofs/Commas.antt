-- One element more of a list that is printed.
use Rattle.std.proofs.Common.{◌≡◌, ℕ, ◌+◌, ◌<◌, ◌≤◌, min, inl, inr, arith, List, [], ◌∷◌, ◌++◌, drop, map, length, get_or, refl, sym, ap, ◌∙◌, append_assoc, codes}
use Rattle.std.specs.List.{zip}
use Rattle.std.proofs.lemmas.Bool.{cases_lt}
use Rattle.std.proofs.lemmas.List.{drop_more, drop_all, length-drop}
use Rattle.arith_word.specs.declared.label.Label.{Label}
use Rattle.mlir_ir.specs.declared.types.Arg.{Arg}
use Rattle.mlir_ir.specs.Canonical.{Naming, behind_commas, init_text}

pub behind_more : {A : Type 0} (text : A → List ℕ) (front out : List ℕ) (xs : List A) (i : ℕ) (x : A) → i < length xs → x ≡ get_or xs i x → out ≡ front ++ codes ", " ++ text x →
    out ++ behind_commas (map text (drop (i + 1) xs)) ≡ front ++ behind_commas (map text (drop i xs))
behind_more text front out xs i x lt e f = rw (f, drop_more xs i x lt, ← e) (append_assoc (front ++ codes ", ") (text x) _ ∙ append_assoc front (codes ", ") _ ∙ sym (ap (λ t. front ++ t) (append_assoc (codes ", ") (text x) _)))

-- likewise where what is printed is a part of each element
pub behind_more_parts : {A B : Type 0} (text : B → List ℕ) (part : A → B) (front out : List ℕ) (xs : List A) (i : ℕ) (x : A) → i < length xs → x ≡ get_or xs i x → out ≡ front ++ codes ", " ++ text (part x) →
    out ++ behind_commas (map text (map part (drop (i + 1) xs))) ≡ front ++ behind_commas (map text (map part (drop i xs)))
behind_more_parts text part front out xs i x lt e f = rw (f, drop_more xs i x lt, ← e) (append_assoc (front ++ codes ", ") (text (part x)) _ ∙ append_assoc front (codes ", ") _ ∙ sym (ap (λ t. front ++ t) (append_assoc (codes ", ") (text (part x)) _)))

-- likewise where a loop's argument is printed with its first value
pub inits_more : (naming : Naming) (front out : List ℕ) (args : List Arg) (inits : List Label) (i : ℕ) (arg : Arg) (init : Label) → i < length args → i < length inits → arg ≡ get_or args i arg → init ≡ get_or inits i init
    → out ≡ front ++ codes ", " ++ init_text naming (arg, init)
    → out ++ behind_commas (map (init_text naming) (zip (drop (i + 1) args) (drop (i + 1) inits))) ≡ front ++ behind_commas (map (init_text naming) (zip (drop i args) (drop i inits)))
inits_more naming front out args inits i arg init lt lt2 is is2 f =
    rw (f, drop_more args i arg lt, ← is, drop_more inits i init lt2, ← is2)
    (append_assoc (front ++ codes ", ") (init_text naming (arg, init)) _ ∙ append_assoc front (codes ", ") _ ∙ sym (ap (λ t. front ++ t) (append_assoc (codes ", ") (init_text naming (arg, init)) _)))

no_right : (args : List Arg) (inits : List Label) → length inits ≡ 0 → zip args inits ≡ []
no_right [] inits e = refl
no_right (arg ∷ args) [] e = refl
no_right (arg ∷ args) (init ∷ inits) e = absurd (omega arith)

pub no_pairs : (args : List Arg) (inits : List Label) (k : ℕ) → min (length args) (length inits) ≤ k → zip (drop k args) (drop k inits) ≡ []
no_pairs args inits k h =
    elim (cases_lt k (length args)) [
      | inl lt ↦ no_right (drop k args) (drop k inits) (omega (arith, length-drop k inits))
      | inr ge ↦ rw (drop_all k args ge) refl
    ]
