-- A label and its parts.
use Rattle.std.proofs.Common.{◌≡◌, ℕ, ◌+◌, ◌*◌, ◌/◌, ◌%◌, ◌<◌, arith, sym, ap, ◌∙◌}
use Rattle.std.proofs.Math.Nat.{div-div-eq-div-mul}
use Rattle.std.proofs.lemmas.Nat.{div-add-mod', div-mul-add, mod-mul-add}
use Rattle.arith_word.specs.Labels.{item_count, index_count, label_at, func_of, item_of, index_of}

-- a label is made of its parts
pub label_parts : (label func k i : ℕ) → func_of label ≡ func → item_of label ≡ k → index_of label ≡ i → label ≡ label_at func k i
label_parts label func k i e f g =
    let low = div-add-mod' label 16384 in
    let high = div-add-mod' (label / 16384) 1024 in
    let whole : label / 16384 / 1024 ≡ label / 16777216 = div-div-eq-div-mul label 16384 1024 in
    omega (arith, low, high, whole, e, f, g)

-- the parts of a label that is made of them
pub parts_of : (func k i : ℕ) → k < item_count → i < index_count → (func_of (label_at func k i) ≡ func) × (item_of (label_at func k i) ≡ k) × (index_of (label_at func k i) ≡ i)
parts_of func k i lo hi =
    let whole : label_at func k i ≡ (func * 1024 + k) * 16384 + i = omega arith in
    let item : label_at func k i / 16384 ≡ func * 1024 + k = ap (λ n. n / 16384) whole ∙ div-mul-add (func * 1024 + k) 16384 i hi in (
      sym (div-div-eq-div-mul (label_at func k i) 16384 1024) ∙ ap (λ n. n / 1024) item ∙ div-mul-add func 1024 k lo,
      ap (λ n. n % 1024) item ∙ mod-mul-add func 1024 k lo,
      ap (λ n. n % 16384) whole ∙ mod-mul-add (func * 1024 + k) 16384 i hi,
    )
