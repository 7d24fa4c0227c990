-- At most one tree derives the tokens.
use Rattle.std.proofs.Common.{suc, zero, ◌≡◌, ℕ, Bool, true, false, ◌||◌, ◌&&◌, List, [], ◌∷◌, refl, ap, ◌∙◌, sym, subst, drop, length, Some, slice_get, add-one}
use Rattle.std.proofs.Math.Seq.{drop-length}
use Rattle.mlir_ir.specs.Grammar.{Pattern, one, both, many}
use Rattle.mlir_parse.specs.Tables.{first, empty}
use Rattle.mlir_ir.specs.Texts.{Accepts, ends, no_more, token, by_line, in_turn, left, right, again, enough, in_region}
use Rattle.mlir_ir.specs.Trees.{Forest, none, node, join, Derives, IsTreeOf, derive_nothing, derive_one, derive_line, derive_both, derive_left, derive_right, derive_again, derive_enough, derive_region}
use Rattle.mlir_parse.proofs.Bools.{and_left}
use Rattle.mlir_parse.proofs.First.{firsts, empties, first_of, empties_of}
use Rattle.mlir_parse.proofs.Fits.{Fits, fits_whole, fits_line, fits_deep}
use Rattle.mlir_parse.proofs.Back.{of_both, of_one}
use Rattle.mlir_ir.specs.declared.terminal.Terminal.{Terminal}
use Rattle.mlir_ir.specs.declared.terminal.Terminal.TheVariants.{LeftBrace}

pub token_here : (ts : List Terminal) (at : ℕ) (c : Terminal) → slice_get ts at ≡ Some c → drop at ts ≡ c ∷ drop (suc at) ts
token_here [] at c e = cc
token_here (b ∷ ts) zero c e = let same_token : b ≡ c = cc in ap (λ x. x ∷ ts) same_token
token_here (b ∷ ts) (suc at) c e = token_here ts at c e

-- the tokens of a tree match its pattern
pub derives_accepts : {ts : List Terminal} {depth : ℕ} {r : Pattern} {at next : ℕ} {xs : Forest} → Derives ts depth r at xs next → (ss : List Pattern) → Accepts ss (drop next ts) → Accepts (r ∷ ss) (drop at ts)
derives_accepts derive_nothing ss a = no_more a
derives_accepts {ts} (derive_one {at = at} {c = c} h e) ss a =
    let P : List Terminal → Type 0 = λ z. Accepts (one c ∷ ss) z in
    let Q : ℕ → Type 0 = λ z. Accepts ss (drop z ts) in
    subst P (sym (token_here ts at c h)) (token (subst Q (e ∙ add-one at) a))
derives_accepts (derive_line d) ss a = by_line (derives_accepts d ss a)
derives_accepts (derive_both {b = b} d k e) ss a = in_turn (derives_accepts d (b ∷ ss) (derives_accepts k ss a))
derives_accepts (derive_left d) ss a = left (derives_accepts d ss a)
derives_accepts (derive_right d) ss a = right (derives_accepts d ss a)
derives_accepts (derive_again {a = r} d k e) ss a = again (derives_accepts d (many r ∷ ss) (derives_accepts k ss a))
derives_accepts derive_enough ss a = enough a
derives_accepts (derive_region shallow d) ss a = in_region (of_both_twice (derives_accepts d ss a))
  where
    of_both_twice : {b c : Pattern} {ss : List Pattern} {ts : List Terminal} → Accepts (both (one LeftBrace) (both b c) ∷ ss) ts → Accepts (one LeftBrace ∷ b ∷ c ∷ ss) ts
    of_both_twice {b} {c} {ss} d = let q = of_one (of_both d) in subst (Accepts (one LeftBrace ∷ b ∷ c ∷ ss)) (sym q.1) (token (of_both q.2))

clash : (p q : Bool) → (p ≡ true → q ≡ false) → p ≡ true → q ≡ true → ⊥
clash p q f h k = let m : q ≡ false = f h in cc

pub begins_with : (p e s : Bool) → e ≡ false → (p || (e && s)) ≡ true → p ≡ true
begins_with true e s h k = refl
begins_with false true s h k = cc
begins_with false false s h k = k

-- tokens don't match both the pattern with its stack and a stack whose first set is disjoint from the pattern's
not_two : (a : Pattern) (ss qs : List Pattern) (us : List Terminal) → empty a ≡ false → ((c : Terminal) → first a c ≡ true → firsts qs c ≡ false) → Accepts (a ∷ ss) us → Accepts qs us → ⊥
not_two a ss qs [] full f d k = let is : empty a ≡ true = and_left (empty a) (empties ss) (empties_of d) in cc
not_two a ss qs (c ∷ us) full f d k =
    clash (first a c) (firsts qs c) (f c) (begins_with (first a c) (empty a) (firsts ss c) full (first_of d)) (first_of k)

pub record Same (m n : ℕ) (xs ys : Forest) : Type 0 where
  pub place : m ≡ n
  pub trees : xs ≡ ys

joined_same : (xs xs' ys ys' zs zs' : Forest) → xs ≡ xs' → ys ≡ ys' → zs ≡ join xs ys → zs' ≡ join xs' ys' → zs ≡ zs'
joined_same xs xs' ys ys' zs zs' p q e f = e ∙ ap (λ x. join x ys) p ∙ ap (join xs') q ∙ sym f

pub unique : {ts : List Terminal} {depth : ℕ} {r : Pattern} {at m n : ℕ} {xs ys : Forest} → Derives ts depth r at xs m → Derives ts depth r at ys n
    → (ss : List Pattern) → Fits (r ∷ ss) → Accepts ss (drop m ts) → Accepts ss (drop n ts) → Same m n xs ys
unique derive_nothing derive_nothing ss fits x y = record { place = refl; trees = refl }
unique (derive_one h e) (derive_one k q) ss fits x y = record { place = e ∙ sym q; trees = refl }
unique (derive_line {at = at} {f = f} d) (derive_line k) ss fits x y =
    let s = unique d k ss (fits_line f ss fits) x y in record { place = s.place; trees = ap (λ z. node f at z none) s.trees }
unique {ts} {depth} {n = n} (derive_both {a = a} {b = b} {xs = xs} {ys = ys} {zs = zs} d k e) (derive_both {xs = xs'} {ys = ys'} {zs = zs'} d' k' e') ss fits x y =
    let s = unique d d' (b ∷ ss) (fits.0.0, (fits.0.1, fits.1)) (derives_accepts k ss x) (derives_accepts k' ss y) in
    let P : ℕ → Type 0 = λ z. Derives ts depth b z ys' n in
    let t = unique k (subst P (sym s.place) k') ss (fits.0.1, fits.1) x y in
    record { place = t.place; trees = joined_same xs xs' ys ys' zs zs' s.trees t.trees e e' }
unique (derive_left d) (derive_left k) ss fits x y = unique d k ss (fits.0.2, fits.1) x y
unique (derive_left {a = a} {b = b} d) (derive_right k) ss fits x y =
    absurd (not_two a ss (b ∷ ss) _ fits.0.0 fits.0.1 (derives_accepts d ss x) (derives_accepts k ss y))
unique (derive_right {a = a} {b = b} k) (derive_left d) ss fits x y =
    absurd (not_two a ss (b ∷ ss) _ fits.0.0 fits.0.1 (derives_accepts d ss y) (derives_accepts k ss x))
unique (derive_right d) (derive_right k) ss fits x y = unique d k ss (fits.0.3, fits.1) x y
unique {ts} {depth} {n = n} (derive_again {a = a} {xs = xs} {ys = ys} {zs = zs} d k e) (derive_again {xs = xs'} {ys = ys'} {zs = zs'} d' k' e') ss fits x y =
    let s = unique d d' (many a ∷ ss) (fits.0.2, fits) (derives_accepts k ss x) (derives_accepts k' ss y) in
    let P : ℕ → Type 0 = λ z. Derives ts depth (many a) z ys' n in
    let t = unique k (subst P (sym s.place) k') ss fits x y in
    record { place = t.place; trees = joined_same xs xs' ys ys' zs zs' s.trees t.trees e e' }
unique (derive_again {a = a} d k e) derive_enough ss fits x y =
    absurd (not_two a (many a ∷ ss) ss _ fits.0.0 fits.0.1 (derives_accepts d (many a ∷ ss) (derives_accepts k ss x)) y)
unique derive_enough (derive_again {a = a} d k e) ss fits x y =
    absurd (not_two a (many a ∷ ss) ss _ fits.0.0 fits.0.1 (derives_accepts d (many a ∷ ss) (derives_accepts k ss y)) x)
unique derive_enough derive_enough ss fits x y = record { place = refl; trees = refl }
unique (derive_region {a = a} shallow d) (derive_region also k) ss fits x y =
    let deeper = fits_deep a ss fits in unique d k ss ((tt, (deeper.0, tt)), deeper.1.1) x y

-- tokens have at most one tree
pub one_tree : (ts : List Terminal) (xs ys : Forest) → IsTreeOf ts xs → IsTreeOf ts ys → xs ≡ ys
one_tree ts xs ys d k =
    let P : List Terminal → Type 0 = λ z. Accepts [] z in
    let done : Accepts [] (drop (length ts) ts) = subst P (sym (drop-length ts)) ends in
    (unique d k [] fits_whole done done).trees
