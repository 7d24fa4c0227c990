-- Each rule of an operation without regions keeps values.
use Rattle.std.proofs.Common.{◌≡◌, ℕ, ◌+◌, ◌-◌, ◌*◌, ◌%◌, ◌/◌, ◌^◌, ◌<◌, ◌≤◌, ◌==◌, nat_lt, nat_le, inl, inr, refl, ap, ◌∙◌, sym, subst, arith, Bool, true, false, Option, Some, None, if◌then◌else◌}
use Rattle.std.proofs.Math.Nat.{mod-lt, mod-mod, mod-eq_of_lt, add-mod, add-mul-mod_self_left}
use Rattle.std.proofs.lemmas.Bool.{cases_Bool}
use Rattle.std.proofs.lemmas.Bool.Decides.{nat_tests}
use Rattle.std.proofs.lemmas.Nat.{mul-mod, mul-mod_first, pow_pos, div-add-mod', div_below, mod_below}
use Rattle.std.specs.Option.{option_map}
use Rattle.arith_word.proofs.Residues.{pow_parts, times_split}
use Rattle.arith_word.specs.Operation.{value_of, cast_of, holds}
use Rattle.arith_word.specs.Word.{residue, signed_reading}
use Rattle.arith_word.specs.declared.op.BinOp.{BinOp}
use Rattle.arith_word.specs.declared.op.BinOp.TheVariants.{Addi, Subi, Muli, Andi, Ori, Xori, Minsi, Maxsi, Minui, Maxui, Shli, Shrui, Shrsi, Divui, Remui, Divsi, Remsi}
use Rattle.arith_word.specs.declared.op.CastOp.{CastOp}
use Rattle.arith_word.specs.declared.op.CastOp.TheVariants.{Extsi, IndexCast, Extui, IndexCastui, Trunci}
use Rattle.arith_word.specs.declared.op.Pred.{Pred}
use Rattle.chrec_algebra.proofs.PolynomialValues.{value_sum, value_product, value_scaled}
use Rattle.chrec_algebra.proofs.Differences.{value_difference, value_truncation}
use Rattle.chrec_algebra.specs.Product.{IsProduct}
use Rattle.chrec_algebra.specs.Sum.{IsSum, IsDifference}
use Rattle.scev_tree.specs.Polynomial.{Polynomial, num, ext, Under, IsCanonical, IsScaled}
use Rattle.scev_tree.specs.Value.{value}
use Rattle.scev_tree.proofs.Agreeing.{value_number, value_variable}
use Rattle.fresh_scev.specs.Expressions.{Expression, symbol, counter, number, own, number_in, IsCut}
use Rattle.fresh_scev.specs.Rules.{fitting, or_own, folded, IsCutOf, shift_factor, IsShifted, IsBin, truncates, IsTruncatedCast, IsCast, compared, IsComparison, IsEither, IsSelectedBy, IsSelected}
use Rattle.fresh_scev.proofs.Before.{within_or, same_expression, expression_or}
use Rattle.scev_soundness.specs.Numbering.{IsNumbered}
use Rattle.scev_soundness.proofs.Ready.{own_good, number_good, cut_good}

-- ---- words

-- a residue modulo more is the same modulo less
low_mod : (a w n : ℕ) → w ≤ n → a % 2 ^ n % 2 ^ w ≡ a % 2 ^ w
low_mod a w n le =
    let M = 2 ^ w in
    let K = 2 ^ n in
    let p = pow_parts w n le in
    let q = a / K in
    let d = div-add-mod' a K in
    let k : K * q ≡ M * ((1 + p.0) * q) = ap (λ z. z * q) p.1 ∙ times M p.0 q in
    let e : a ≡ a % K + M * ((1 + p.0) * q) = omega (arith, d, k) in
    sym (add-mul-mod_self_left (a % K) M ((1 + p.0) * q)) ∙ ap (λ z. z % M) (sym e)
  where
    times : (m c q : ℕ) → (m + m * c) * q ≡ m * ((1 + c) * q)
    times m c q = omega arith

-- the signed reading, modulo less
signed_low : (w n x : ℕ) → w ≤ n → x < 2 ^ n → residue w (signed_reading n x) ≡ x % 2 ^ w
signed_low w n x le lt = elim (cases_Bool (nat_lt x (2 ^ (n - 1)))) [
  | inl t ↦ rw t refl
  | inr f ↦ rw f negative
]
  where
    negative : 2 ^ w - 1 - (2 ^ n - 1 - x) % 2 ^ w ≡ x % 2 ^ w
    negative =
        let M = 2 ^ w in
        let p = pow_parts w n le in
        let q = x / M in
        let d = div-add-mod' x M in
        let above : 0 < M = pow_pos w in
        let r : x % M < M = mod_below x M above in
        let whole : M + M * p.0 ≡ (p.0 + 1) * M = omega arith in
        let fits : x < (p.0 + 1) * M = omega (arith, p.1) in
        let small : q < p.0 + 1 = div_below x M (p.0 + 1) above fits in
        let split : M * p.0 ≡ M * q + M * (p.0 - q) = times_split M q p.0 (omega arith) in
        let e : 2 ^ n - 1 - x ≡ (M - 1 - x % M) + M * (p.0 - q) = omega (arith, p.1) in
        let z : (2 ^ n - 1 - x) % M ≡ M - 1 - x % M =
        ap (λ y. y % M) e ∙ (add-mul-mod_self_left (M - 1 - x % M) M (p.0 - q) ∙ mod-eq_of_lt (omega arith)) in
        omega (arith, z)

some_same : (a b : ℕ) → Some a ≡ Some b → a ≡ b
some_same a b e = cc

none_some : (a : ℕ) → None ≡ Some a → ⊥
none_some a e = cc

-- ---- expressions of single kinds

-- the value's own symbol has the operation's number
module _ (s : ℕ → ℕ) (w label : ℕ) (wide : 1 ≤ w) where
  M : ℕ
  M = 2 ^ w

  pub own_numbered : (e : Expression) (v : ℕ) → e ≡ own w label → s (symbol label) ≡ v → v < 2 ^ w
      → IsNumbered s w label e v
  own_numbered e v h is lt =
      let n : value s (own w label).p % 2 ^ w ≡ v =
      ap (λ z. z % 2 ^ w) (value_variable s (symbol label) ∙ is) ∙ mod-eq_of_lt lt in
      record {
        good = own_good w label e wide h;
        number = sym (ap (λ (z : Expression). value s z.p % 2 ^ w) h ∙ n);
      }

  pub number_numbered : (e : Expression) (v : ℕ) → e ≡ number w v → IsNumbered s w label e (v % 2 ^ w)
  number_numbered e v h =
      let n : value s (num (v % 2 ^ w)) % 2 ^ w ≡ v % 2 ^ w =
      ap (λ z. z % 2 ^ w) (value_number s (v % 2 ^ w)) ∙ mod-mod v (2 ^ w) in
      record {
        good = number_good w v label e h;
        number = sym (ap (λ (z : Expression). value s z.p % 2 ^ w) h ∙ n);
      }

  pub cut_numbered : (p : Polynomial) (e : Expression) (v : ℕ) → IsCut w label p e → IsCanonical (2 ^ w) p
      → Under p (counter (label + 1)) → s (symbol label) ≡ v → v ≡ value s p % 2 ^ w → IsNumbered s w label e v
  cut_numbered p e v cut c u is n = elim (within_or p) [
    | inl i ↦ (let whole : Expression = record { w = w; p = p } in
        let h : e ≡ whole = same_expression e whole cut.width (cut.kept i) in
        record {
          good = cut_good w label p e wide cut c u;
          number = n ∙ sym (ap (λ (z : Expression). value s z.p % 2 ^ w) h);
        })
    | inr no_room ↦ (let lt : value s p % 2 ^ w < 2 ^ w = mod-lt (value s p) (pow_pos w) in
        own_numbered e v (same_expression e (own w label) cut.width (cut.dropped no_room)) is (omega (arith, n, lt)))
  ]

  pub or_own_numbered : (o : Option ℕ) (e : Expression) (v : ℕ) → ((u : ℕ) → o ≡ Some u → u ≡ v)
      → e ≡ or_own o w label → s (symbol label) ≡ v % 2 ^ w
      → IsNumbered s w label e (v % 2 ^ w)
  or_own_numbered (Some u) e v f h is =
      subst (λ z. IsNumbered s w label e (z % 2 ^ w)) (f u refl) (number_numbered e u h)
  or_own_numbered None e v f h is = own_numbered e (v % 2 ^ w) h is (mod-lt v (pow_pos w))

  pub fitting_numbered : (b : Bool) (e : Expression) (rule : Type 0) (v : ℕ)
      → (rule → IsNumbered s w label e (v % 2 ^ w)) → s (symbol label) ≡ v % 2 ^ w
      → fitting b w label e rule → IsNumbered s w label e (v % 2 ^ w)
  fitting_numbered true e rule v f is h = f h
  fitting_numbered false e rule v f is h = own_numbered e (v % 2 ^ w) h is (mod-lt v (pow_pos w))

-- an operand whose expression is a number has that number
of_number : (s : ℕ → ℕ) (K : ℕ) (p : Polynomial) (x u : ℕ) → IsCanonical K p → x ≡ value s p % K
    → number_in p ≡ Some u → x ≡ u
of_number s K (num v) x u c n e = n ∙ (ap (λ z. z % K) (value_number s v) ∙ (mod-eq_of_lt c ∙ some_same v u e))
of_number s K (ext y ps) x u c n e = absurd (none_some u e)

pub is_number : (s : ℕ → ℕ) (w label : ℕ) (a : Expression) (x u : ℕ) → IsNumbered s w label a x
    → number_in a.p ≡ Some u → x ≡ u
is_number s w label a x u h e = of_number s (2 ^ w) a.p x u h.good.canon h.number e

folded_same : (op : BinOp) (w x y v : ℕ) (o p : Option ℕ) → ((u : ℕ) → o ≡ Some u → x ≡ u)
    → ((u : ℕ) → p ≡ Some u → y ≡ u) → value_of op w x y ≡ Some v
    → (u : ℕ) → folded op w o p ≡ Some u → u ≡ v
folded_same op w x y v (Some a) (Some b) f g gives u e =
    let same : value_of op w x y ≡ value_of op w a b =
    ap (λ z. value_of op w z y) (f a refl) ∙ ap (λ z. value_of op w a z) (g b refl) in
    some_same u v (sym e ∙ (sym same ∙ gives))
folded_same op w x y v (Some a) None f g gives u e = absurd (none_some u e)
folded_same op w x y v None p f g gives u e = absurd (none_some u e)

-- ---- operations on two operands

module _ (s : ℕ → ℕ) (w label : ℕ) (wide : 1 ≤ w) (a b e : Expression) (x y v : ℕ) (first : IsNumbered s w label a x)
    (second : IsNumbered s w label b y) (is : s (symbol label) ≡ v % 2 ^ w) where
  sum_numbered : Some ((x + y) % 2 ^ w) ≡ Some v → IsCutOf w label e (λ p. IsSum (2 ^ w) p a.p b.p)
      → IsNumbered s w label e (v % 2 ^ w)
  sum_numbered gives h =
      let p = h.0 in
      let M = 2 ^ w in
      let va = value s a.p in
      let vb = value s b.p in
      let n : v % M ≡ value s p % M =
      ap (λ z. z % M) (sym (some_same ((x + y) % M) v gives)) ∙ (mod-mod (x + y) M
      ∙ (ap (λ z. (z + y) % M) first.number ∙ (ap (λ z. (va % M + z) % M) second.number
      ∙ (sym (add-mod va vb M) ∙ sym (value_sum s M p a.p b.p first.good.canon second.good.canon h.1))))) in
      cut_numbered s w label wide p e (v % M) h.2 h.1.canon
      (h.1.under (counter (label + 1)) first.good.under second.good.under) is n

  difference_numbered : Some ((x + (2 ^ w - y % 2 ^ w)) % 2 ^ w) ≡ Some v
      → IsCutOf w label e (λ p. IsDifference (2 ^ w) p a.p b.p) → IsNumbered s w label e (v % 2 ^ w)
  difference_numbered gives h =
      let p = h.0 in
      let M = 2 ^ w in
      let va = value s a.p in
      let vb = value s b.p in
      let y2 : y % M ≡ vb % M = ap (λ z. z % M) second.number ∙ mod-mod vb M in
      let n : v % M ≡ value s p % M =
      ap (λ z. z % M) (sym (some_same ((x + (M - y % M)) % M) v gives)) ∙ (mod-mod (x + (M - y % M)) M
      ∙ (ap (λ z. (x + (M - z)) % M) y2
      ∙ (ap (λ z. (z + (M - vb % M)) % M) first.number
      ∙ (mod_first va (M - vb % M) M ∙
      sym (value_difference s M p a.p b.p (pow_pos w) first.good.canon second.good.canon h.1))))) in
      cut_numbered s w label wide p e (v % M) h.2 h.1.canon
      (h.1.under (counter (label + 1)) first.good.under second.good.under) is n
    where
      mod_first : (c d m : ℕ) → (c % m + d) % m ≡ (c + d) % m
      mod_first c d m = add-mod (c % m) d m ∙ (ap (λ z. (z + d % m) % m) (mod-mod c m) ∙ sym (add-mod c d m))

  product_numbered : Some ((x * y) % 2 ^ w) ≡ Some v → IsCutOf w label e (λ p. IsProduct (2 ^ w) p a.p b.p)
      → IsNumbered s w label e (v % 2 ^ w)
  product_numbered gives h =
      let p = h.0 in
      let M = 2 ^ w in
      let va = value s a.p in
      let vb = value s b.p in
      let n : v % M ≡ value s p % M =
      ap (λ z. z % M) (sym (some_same ((x * y) % M) v gives)) ∙ (mod-mod (x * y) M
      ∙ (ap (λ z. (z * y) % M) first.number ∙ (ap (λ z. (va % M * z) % M) second.number
      ∙ (sym (mul-mod va vb M) ∙ sym (value_product s M p a.p b.p first.good.canon second.good.canon h.1))))) in
      cut_numbered s w label wide p e (v % M) h.2 h.1.canon
      (h.1.under (counter (label + 1)) first.good.under second.good.under) is n

  folded_numbered : (op : BinOp) → value_of op w x y ≡ Some v
      → e ≡ or_own (folded op w (number_in a.p) (number_in b.p)) w label → IsNumbered s w label e (v % 2 ^ w)
  folded_numbered op gives h =
      or_own_numbered s w label wide (folded op w (number_in a.p) (number_in b.p)) e v
      (folded_same op w x y v (number_in a.p) (number_in b.p) (λ u q. is_number s w label a x u first q)
      (λ u q. is_number s w label b y u second q) gives) h is

  scaled_numbered : (c : ℕ) → v % 2 ^ w ≡ (x * c) % 2 ^ w → IsCutOf w label e (λ p. IsScaled (2 ^ w) c p a.p)
      → IsNumbered s w label e (v % 2 ^ w)
  scaled_numbered c gives h =
      let p = h.0 in
      let M = 2 ^ w in
      let va = value s a.p in
      let swap : va * c ≡ c * va = omega arith in
      let n : v % M ≡ value s p % M =
      gives ∙ (ap (λ z. (z * c) % M) first.number
      ∙ (mul-mod_first va c M ∙ (ap (λ z. z % M) swap ∙ sym (value_scaled s M M c p a.p first.good.canon h.1))))
      in
      cut_numbered s w label wide p e (v % M) h.2 h.1.canon (h.1.under (counter (label + 1)) first.good.under) is n

  -- the factor of a shift by a number
  factor_of : (o : Option ℕ) (c : ℕ) → ((u : ℕ) → o ≡ Some u → y ≡ u) → shift_factor w o ≡ Some c
      → (nat_lt y w ≡ true) × (c ≡ 2 ^ y)
  factor_of None c f h = absurd (none_some c h)
  factor_of (Some u) c f h = elim (cases_Bool (nat_lt u w)) [
    | inl t ↦ (let k : Some (2 ^ u) ≡ Some c = sym (rw t refl) ∙ h in
        let q : y ≡ u = f u refl in
        (ap (λ z. nat_lt z w) q ∙ t, sym (some_same (2 ^ u) c k) ∙ ap (λ z. 2 ^ z) (sym q)))
    | inr t ↦ (let k : None ≡ Some c = sym (rw t refl) ∙ h in absurd (none_some c k))
  ]

  shifted_numbered : (o : Option ℕ) → ((c : ℕ) → o ≡ Some c → (nat_lt y w ≡ true) × (c ≡ 2 ^ y))
      → value_of Shli w x y ≡ Some v → IsShifted o w label a b e
      → IsNumbered s w label e (v % 2 ^ w)
  shifted_numbered (Some c) f gives h =
      let q = f c refl in
      let k : (if nat_lt y w then (x * 2 ^ y) % 2 ^ w else 0) ≡ (x * 2 ^ y) % 2 ^ w = rw q.0 refl in
      let n : v % 2 ^ w ≡ (x * c) % 2 ^ w =
      ap (λ z. z % 2 ^ w) (sym (some_same (if nat_lt y w then (x * 2 ^ y) % 2 ^ w else 0) v gives) ∙ k)
      ∙ (mod-mod (x * 2 ^ y) (2 ^ w) ∙ ap (λ z. (x * z) % 2 ^ w) (sym q.1)) in
      scaled_numbered c n h
  shifted_numbered None f gives h = folded_numbered Shli gives h

  pub bin_numbered : (op : BinOp) → value_of op w x y ≡ Some v → IsBin op w label a b e
      → IsNumbered s w label e (v % 2 ^ w)
  bin_numbered Addi gives h = sum_numbered gives h
  bin_numbered Subi gives h = difference_numbered gives h
  bin_numbered Muli gives h = product_numbered gives h
  bin_numbered Shli gives h =
      shifted_numbered (shift_factor w (number_in b.p))
      (λ c q. factor_of (number_in b.p) c (λ u r. is_number s w label b y u second r) q) gives h
  bin_numbered Andi gives h = folded_numbered Andi gives h
  bin_numbered Ori gives h = folded_numbered Ori gives h
  bin_numbered Xori gives h = folded_numbered Xori gives h
  bin_numbered Minsi gives h = folded_numbered Minsi gives h
  bin_numbered Maxsi gives h = folded_numbered Maxsi gives h
  bin_numbered Minui gives h = folded_numbered Minui gives h
  bin_numbered Maxui gives h = folded_numbered Maxui gives h
  bin_numbered Shrui gives h = folded_numbered Shrui gives h
  bin_numbered Shrsi gives h = folded_numbered Shrsi gives h
  bin_numbered Divui gives h = folded_numbered Divui gives h
  bin_numbered Remui gives h = folded_numbered Remui gives h
  bin_numbered Divsi gives h = folded_numbered Divsi gives h
  bin_numbered Remsi gives h = folded_numbered Remsi gives h

-- ---- casts

le_true : (a b : ℕ) → nat_le a b ≡ true → a ≤ b
le_true a b e = grind (arith, nat_tests, e)

-- a cast that truncates gives the operand modulo less
truncated : (op : CastOp) (w n x : ℕ) → x < 2 ^ n → truncates op n w ≡ true → (w ≤ n) × (cast_of op n x w ≡ x % 2 ^ w)
truncated IndexCast w n x lt t = let le = le_true w n t in (le, signed_low w n x le lt)
truncated IndexCastui w n x lt t = (le_true w n t, refl)
truncated Trunci w n x lt t = (le_true w n t, refl)
truncated Extsi w n x lt t = absurd (cc)
truncated Extui w n x lt t = absurd (cc)

cast_same : (op : CastOp) (w n x : ℕ) (o : Option ℕ) → ((u : ℕ) → o ≡ Some u → x ≡ u) → (u : ℕ)
    → option_map (λ z. cast_of op n z w) o ≡ Some u → u ≡ cast_of op n x w
cast_same op w n x (Some z) f u e =
    sym (some_same (cast_of op n z w) u e) ∙ ap (λ y. cast_of op n y w) (sym (f z refl))
cast_same op w n x None f u e = absurd (none_some u e)

module _ (s : ℕ → ℕ) (w label n : ℕ) (wide : 1 ≤ w) (op : CastOp) (a e : Expression) (x : ℕ)
    (from : IsNumbered s n label a x) (is : s (symbol label) ≡ cast_of op n x w % 2 ^ w) where
  cast_by : (t : Bool) → truncates op n w ≡ t → IsTruncatedCast t op w label a e
      → IsNumbered s w label e (cast_of op n x w % 2 ^ w)
  cast_by true t h =
      let p = h.0 in
      let va = value s a.p in
      let lt : va % 2 ^ n < 2 ^ n = mod-lt va (pow_pos n) in
      let q = truncated op w n x (omega (arith, from.number, lt)) t in
      let k : cast_of op n x w % 2 ^ w ≡ value s p % 2 ^ w =
      ap (λ z. z % 2 ^ w) q.1 ∙ (mod-mod x (2 ^ w)
      ∙ (ap (λ z. z % 2 ^ w) from.number
      ∙ (low_mod va w n q.0 ∙ sym (value_truncation s (2 ^ w) (2 ^ n) p a.p from.good.canon h.1)))) in
      cut_numbered s w label wide p e (cast_of op n x w % 2 ^ w) h.2 h.1.canon
      (h.1.under (counter (label + 1)) from.good.under) is k
  cast_by false t h =
      let h2 : e ≡ or_own (option_map (λ z. cast_of op n z w) (number_in a.p)) w label =
      subst (λ m. e ≡ or_own (option_map (λ z. cast_of op m z w) (number_in a.p)) w label) from.good.width h in
      or_own_numbered s w label wide (option_map (λ z. cast_of op n z w) (number_in a.p)) e (cast_of op n x w)
      (cast_same op w n x (number_in a.p) (λ u r. is_number s n label a x u from r)) h2 is

  pub cast_numbered : IsCast op w label a e → IsNumbered s w label e (cast_of op n x w % 2 ^ w)
  cast_numbered h = cast_by (truncates op a.w w) (ap (λ m. truncates op m w) (sym from.good.width)) h

-- ---- comparisons

compared_same : (pred : Pred) (n x y : ℕ) (o p : Option ℕ) → ((u : ℕ) → o ≡ Some u → x ≡ u)
    → ((u : ℕ) → p ≡ Some u → y ≡ u)
    → (u : ℕ) → compared pred n o p ≡ Some u → u ≡ (if holds pred n x y then 1 else 0)
compared_same pred n x y (Some a) (Some b) f g u e =
    let same : (if holds pred n a b then 1 else 0) ≡ (if holds pred n x y then 1 else 0) =
    ap (λ z. if holds pred n z b then 1 else 0) (sym (f a refl))
    ∙ ap (λ z. if holds pred n x z then 1 else 0) (sym (g b refl)) in
    sym (some_same (if holds pred n a b then 1 else 0) u e) ∙ same
compared_same pred n x y (Some a) None f g u e = absurd (none_some u e)
compared_same pred n x y None p f g u e = absurd (none_some u e)

pub compared_numbered : (s : ℕ → ℕ) (w label n : ℕ) → 1 ≤ w → (pred : Pred) (a b e : Expression) (x y : ℕ)
    → IsNumbered s n label a x → IsNumbered s n label b y
    → s (symbol label) ≡ (if holds pred n x y then 1 else 0) % 2 ^ w → IsComparison pred w label a b e
    → IsNumbered s w label e ((if holds pred n x y then 1 else 0) % 2 ^ w)
compared_numbered s w label n wide pred a b e x y first second is h =
    let h2 : e ≡ or_own (compared pred n (number_in a.p) (number_in b.p)) w label =
    subst (λ m. e ≡ or_own (compared pred m (number_in a.p) (number_in b.p)) w label) first.good.width h in
    or_own_numbered s w label wide (compared pred n (number_in a.p) (number_in b.p)) e
    (if holds pred n x y then 1 else 0)
    (compared_same pred n x y (number_in a.p) (number_in b.p) (λ u q. is_number s n label a x u first q)
    (λ u q. is_number s n label b y u second q)) h2 is

-- ---- selections

module _ (s : ℕ → ℕ) (w label m : ℕ) (wide : 1 ≤ w) (c a b e : Expression) (z x y : ℕ)
    (cond : IsNumbered s m label c z) (first : IsNumbered s w label a x) (second : IsNumbered s w label b y) where
  whole : (d : Expression) (v : ℕ) → IsNumbered s w label d v → v % 2 ^ w ≡ v
  whole d v h = let lt : value s d.p % 2 ^ w < 2 ^ w = mod-lt (value s d.p) (pow_pos w) in
      mod-eq_of_lt (omega (arith, h.number, lt))

  copied : (d : Expression) (v : ℕ) → IsNumbered s w label d v → e ≡ d → IsNumbered s w label e (v % 2 ^ w)
  copied d v h q = subst (λ n. IsNumbered s w label e n) (sym (whole d v h))
      (subst (λ k. IsNumbered s w label k v) (sym q) h)

  by_number : (t : Bool) → e ≡ (if t then b else a) → IsNumbered s w label e ((if t then y else x) % 2 ^ w)
  by_number true h = copied b y second h
  by_number false h = copied a x first h

  by_either : (t : Bool) → IsEither w label a b e → s (symbol label) ≡ (if t then y else x) % 2 ^ w
      → IsNumbered s w label e ((if t then y else x) % 2 ^ w)
  by_either t h is = elim (expression_or a b) [
    | inl q ↦ by_same t (h.same q) q
    | inr n ↦ own_numbered s w label wide e ((if t then y else x) % 2 ^ w) (h.other n) is
        (mod-lt (if t then y else x) (pow_pos w))
  ]
    where
      by_same : (t : Bool) → e ≡ a → a ≡ b → IsNumbered s w label e ((if t then y else x) % 2 ^ w)
      by_same true h q = copied b y second (h ∙ q)
      by_same false h q = copied a x first h

  selected_by : (o : Option ℕ) → ((u : ℕ) → o ≡ Some u → z ≡ u)
      → s (symbol label) ≡ (if z == 0 then y else x) % 2 ^ w → IsSelectedBy o w label a b e
      → IsNumbered s w label e ((if z == 0 then y else x) % 2 ^ w)
  selected_by (Some u) f is h = by_number (z == 0) (h ∙ ap (λ k. if k == 0 then b else a) (sym (f u refl)))
  selected_by None f is h = by_either (z == 0) h is

  pub selected_numbered : s (symbol label) ≡ (if z == 0 then y else x) % 2 ^ w → IsSelected w label c a b e
      → IsNumbered s w label e ((if z == 0 then y else x) % 2 ^ w)
  selected_numbered is h = selected_by (number_in c.p) (λ u q. is_number s m label c z u cond q) is h
