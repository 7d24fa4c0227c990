-- The numbers that products and sums of terms give.
use Rattle.std.proofs.Common.{◌≡◌, ℕ, suc, ◌+◌, ◌*◌, ◌%◌, ◌^◌, ◌<◌, ◌≤◌, List, [], ◌∷◌, length, Option, Some, None, refl, ap, ◌∙◌, sym, arith}
use Rattle.std.proofs.Math.Nat.{mod-mod, add-mod-mod}
use Rattle.std.proofs.lemmas.Nat.{mul-mod_second}
use Rattle.arith_word.specs.declared.label.Label.{Label}
use Rattle.arith_word.specs.declared.op.BinOp.TheVariants.{Addi}
use Rattle.mlir_ir.specs.Runs.{number, Binding, look}
use Rattle.mlir_ir.specs.Words.{bits_of}
use Rattle.mlir_ir.specs.declared.types.IrType.{IrType}
use Rattle.pass_copy.proofs.Bindings.{bound, look_same, look_other}
use Rattle.pass_copy.proofs.KeptLabels.{Kept, binds_kept}
use Rattle.pass_copy.specs.Built.{label}
use Rattle.pass_expand.specs.Expanded.{wrapping, products, term_steps, steps, size}
use Rattle.pass_expand.specs.Terms.{Term}
use Rattle.pass_expand.proofs.AddedTerms.{products_count}
use Rattle.pass_expand.proofs.TermSymbols.{AllOf, TermsOf, all_weaker, terms_weaker}
use Rattle.pass_expand.proofs.PlainSteps.{ArePlain, plain_append, after_steps, after_kept, after_more}

-- the product of the numbers of symbols, and the sum of terms
abbrev pub times : List Binding → List Label → ℕ
times env [] = 1
times env (x ∷ xs) = (look env x.0).v * times env xs

abbrev pub total : List Binding → List Term → ℕ
total env [] = 0
total env (t ∷ ts) = t.coefficient * times env t.symbols + total env ts

-- values in front of a label
abbrev pub InFront : ℕ → ℕ → Type 0
InFront at l = l < at

all_later : (a b : ℕ) (xs : List Label) → a ≤ b → AllOf (InFront a) xs → AllOf (InFront b) xs
all_later a b xs le h = all_weaker (InFront a) (InFront b) xs (λ l lt. omega arith) h

terms_later : (a b : ℕ) (ts : List Term) → a ≤ b → TermsOf (InFront a) ts → TermsOf (InFront b) ts
terms_later a b ts le h = terms_weaker (InFront a) (InFront b) ts (λ l lt. omega arith) h

times_kept : (at : ℕ) (env env2 : List Binding) (xs : List Label) → Kept at env env2 → AllOf (InFront at) xs → times env2 xs ≡ times env xs
times_kept at env env2 [] k h = refl
times_kept at env env2 (x ∷ xs) k h = λ j. (k x.0 h.0 j).v * times_kept at env env2 xs k h.1 j

total_kept : (at : ℕ) (env env2 : List Binding) (ts : List Term) → Kept at env env2 → TermsOf (InFront at) ts → total env2 ts ≡ total env ts
total_kept at env env2 [] k h = refl
total_kept at env env2 (t ∷ ts) k h = λ j. t.coefficient * times_kept at env env2 t.symbols k h.0 j + total_kept at env env2 ts k h.1 j

-- they are constants, sums and products

products_plain : (v : ℕ) (xs : List Label) → ArePlain (products v xs)
products_plain v [] = tt
products_plain v (x ∷ xs) = (λ w a b. ((a * b) % 2 ^ w, refl), products_plain (v + 1) xs)

term_plain : (ty : IrType) (at : ℕ) (t : Term) → ArePlain (term_steps ty at t)
term_plain ty at t = (tt, products_plain at t.symbols)

pub steps_plain : (ty : IrType) (at : ℕ) (sum : Option Label) (ts : List Term) → ArePlain (steps ty at sum ts)
steps_plain ty at sum [] = tt
steps_plain ty at None (t ∷ ts) = plain_append (term_steps ty at t) _ (term_plain ty at t) (steps_plain ty (at + length t.symbols + 1) (Some (label (at + length t.symbols))) ts)
steps_plain ty at (Some sum) (t ∷ ts) = plain_append (term_steps ty at t) _ (term_plain ty at t) (λ w a b. ((a + b) % 2 ^ w, refl), steps_plain ty (at + length t.symbols + 2) (Some (label (at + length t.symbols + 1))) ts)

-- numbers that are reduced

number_mod : (w x : ℕ) → number w (x % 2 ^ w) ≡ number w x
number_mod w x = ap (λ n. record { w = w; v = n }) (mod-mod x (2 ^ w))

number_times : (w x y : ℕ) → number w ((x % 2 ^ w * y) % 2 ^ w) ≡ number w (x * y)
number_times w x y =
    let a : x % 2 ^ w * y ≡ y * (x % 2 ^ w) = grind arith in
    let b : y * x ≡ x * y = grind arith in
    number_mod w (x % 2 ^ w * y) ∙ ap (λ n. record { w = w; v = n }) (ap (λ n. n % 2 ^ w) a ∙ mul-mod_second y x (2 ^ w) ∙ ap (λ n. n % 2 ^ w) b)

number_plus : (w x y : ℕ) → number w ((x % 2 ^ w + y % 2 ^ w) % 2 ^ w) ≡ number w (x + y)
number_plus w x y =
    let M = 2 ^ w in
    let a : x % M + y ≡ y + x % M = omega arith in
    let b : y + x ≡ x + y = omega arith in
    number_mod w (x % M + y % M) ∙ ap (λ n. record { w = w; v = n }) (add-mod-mod (x % M) y M ∙ ap (λ n. n % M) a ∙ add-mod-mod y x M ∙ ap (λ n. n % M) b)

module _ (ty : IrType) where
  abbrev w : ℕ
  w = bits_of ty

  -- the last of the products of c with symbols
  products_value : (at v c : ℕ) (xs : List Label) (env : List Binding) → at ≡ v + 1 → look env v ≡ number w c → AllOf (InFront at) xs
      → look (after_steps ty at env (products v xs)) (v + length xs) ≡ number w (c * times env xs)
  products_value at v c [] env e h b =
      let i : v + 0 ≡ v = omega arith in
      let m : c * 1 ≡ c = omega arith in
      ap (look env) i ∙ h ∙ ap (number w) (sym m)
  products_value at v c (x ∷ xs) env e h b =
      let n = number w (((look env v).v * (look env x.0).v) % 2 ^ w) in
      let env1 = bound at n ∷ env in
      let here : look env1 (v + 1) ≡ number w (c * (look env x.0).v) =
      look_same at n (v + 1) env e ∙ (λ j. number w (((h j).v * (look env x.0).v) % 2 ^ w)) ∙ number_times w c (look env x.0).v in
      let kept : times env1 xs ≡ times env xs = times_kept at env env1 xs (binds_kept at (n ∷ []) env) b.1 in
      let i : v + suc (length xs) ≡ v + 1 + length xs = omega arith in
      let m : c * (look env x.0).v * times env xs ≡ c * ((look env x.0).v * times env xs) = grind arith in
      ap (look (after_steps ty (at + 1) env1 (products (v + 1) xs))) i
      ∙ products_value (at + 1) (v + 1) (c * (look env x.0).v) xs env1 (omega arith) here (all_later at (at + 1) xs (omega arith) b.1)
      ∙ ap (number w) (ap (λ z. c * (look env x.0).v * z) kept ∙ m)

  -- the value of a term
  term_value : (at : ℕ) (t : Term) (env : List Binding) → AllOf (InFront at) t.symbols
      → look (after_steps ty at env (term_steps ty at t)) (at + length t.symbols) ≡ number w (t.coefficient * times env t.symbols)
  term_value at t env b =
      let n = number w (t.coefficient % 2 ^ w) in
      let env1 = bound at n ∷ env in
      products_value (at + 1) at t.coefficient t.symbols env1 refl (look_same at n at env refl ∙ number_mod w t.coefficient) (all_later at (at + 1) t.symbols (omega arith) b)
      ∙ ap (λ z. number w (t.coefficient * z)) (times_kept at env env1 t.symbols (binds_kept at (n ∷ []) env) b)

  -- the sum of terms with a sum a so far
  sum_value : (at v a : ℕ) (ts : List Term) (env : List Binding) → at ≡ v + 1 → look env v ≡ number w a → TermsOf (InFront at) ts
      → look (after_steps ty at env (steps ty at (Some (label v)) ts)) (v + size ts) ≡ number w (a + total env ts)
  sum_value at v a [] env e h b =
      let i : v + 0 ≡ v = omega arith in
      let m : a + 0 ≡ a = omega arith in
      ap (look env) i ∙ h ∙ ap (number w) (sym m)
  sum_value at v a (t ∷ ts) env e h b =
      let len = length t.symbols in
      let env1 = after_steps ty at env (term_steps ty at t) in
      let p = at + length (term_steps ty at t) in
      let pl : p ≡ at + len + 1 = let c = products_count at t.symbols in omega arith in
      let n = number w (((look env1 v).v + (look env1 (at + len)).v) % 2 ^ w) in
      let env2 = bound p n ∷ env1 in
      let k1 : Kept at env env1 = after_kept ty at env (term_steps ty at t) in
      let k2 : Kept at env env2 = λ y lt. look_other p n y env1 (λ q. omega arith) ∙ k1 y lt in
      let m = t.coefficient * times env t.symbols in
      let sum_is : look env1 v ≡ number w a = k1 v (omega arith) ∙ h in
      let here : look env2 (at + len + 1) ≡ number w (a + m) =
      look_same p n (at + len + 1) env1 pl ∙ (λ j. number w (((sum_is j).v + (term_value at t env b.0 j).v) % 2 ^ w)) ∙ number_plus w a m in
      let i : v + size (t ∷ ts) ≡ at + len + 1 + size ts = omega arith in
      let q : p + 1 ≡ at + len + 2 = omega arith in
      let m2 : a + m + total env ts ≡ a + (m + total env ts) = omega arith in
      ap (look (after_steps ty at env (steps ty at (Some (label v)) (t ∷ ts)))) i
      ∙ ap (λ z. look z (at + len + 1 + size ts)) (after_more ty at env (term_steps ty at t) (wrapping Addi (label v) (label (at + len)) ∷ steps ty (at + len + 2) (Some (label (at + len + 1))) ts))
      ∙ ap (λ z. look (after_steps ty z env2 (steps ty (at + len + 2) (Some (label (at + len + 1))) ts)) (at + len + 1 + size ts)) q
      ∙ sum_value (at + len + 2) (at + len + 1) (a + m) ts env2 (omega arith) here (terms_later at (at + len + 2) ts (omega arith) b.1)
      ∙ ap (number w) (ap (λ z. a + m + z) (total_kept at env env2 ts k2 b.1) ∙ m2)

  -- and where there is no sum so far
  pub first_value : (at : ℕ) (t : Term) (ts : List Term) (env : List Binding) → TermsOf (InFront at) (t ∷ ts)
      → look (after_steps ty at env (steps ty at None (t ∷ ts))) (at + length t.symbols + size ts) ≡ number w (total env (t ∷ ts))
  first_value at t ts env b =
      let len = length t.symbols in
      let env1 = after_steps ty at env (term_steps ty at t) in
      let p = at + length (term_steps ty at t) in
      let pl : p ≡ at + len + 1 = let c = products_count at t.symbols in omega arith in
      let k1 : Kept at env env1 = after_kept ty at env (term_steps ty at t) in
      let m = t.coefficient * times env t.symbols in
      ap (λ z. look z (at + len + size ts)) (after_more ty at env (term_steps ty at t) (steps ty (at + len + 1) (Some (label (at + len))) ts))
      ∙ ap (λ z. look (after_steps ty z env1 (steps ty (at + len + 1) (Some (label (at + len))) ts)) (at + len + size ts)) pl
      ∙ sum_value (at + len + 1) (at + len) m ts env1 (omega arith) (term_value at t env b.0) (terms_later at (at + len + 1) ts (omega arith) b.1)
      ∙ ap (λ z. number w (m + z)) (total_kept at env env1 ts k1 b.1)
