-- The number of open regions after the tokens that a run has read.
use Rattle.std.proofs.Common.{suc, zero, ◌≡◌, ℕ, ◌<◌, ◌≤◌, Bool, true, false, ◌||◌, ◌&&◌, not, List, [], ◌∷◌, ◌++◌, take, refl, ap, ◌∙◌, sym, subst, arith, append_assoc, add-one, ◌⊎◌, inl, inr}
use Rattle.std.proofs.lemmas.Bool.{and_parts, or_cases, both_ways, cases_Bool, not-true}
use Rattle.mlir_ir.specs.Grammar.{Pattern, nothing, one, line, both, either, many, region, body}
use Rattle.mlir_ir.specs.Texts.{opens, closes, step, opened}
use Rattle.mlir_ir.specs.declared.terminal.Terminal.{Terminal}
use Rattle.mlir_ir.specs.declared.terminal.Terminal.TheVariants.{LeftBrace, RightBrace}
use Rattle.mlir_ir.specs.declared.syntax.Form.{Form}
use Rattle.mlir_ir.specs.declared.syntax.Form.TheVariants.{Whole}
use Rattle.mlir_parse.specs.Runs.{Outcome, Done, Stop, Deep, Fails, Runs, run_nothing, run_one, run_other, run_line, run_both, run_both_fails, run_left, run_right, run_enough, run_again, run_again_fails, run_no_brace, run_too_deep, run_region}
use Rattle.mlir_parse.proofs.Bools.{every_form}

-- from `n` open braces to `m`, and never more than the bound between
abbrev pub Level : ℕ → ℕ → List Terminal → ℕ → Type 0
Level bound n [] m = n ≡ m
Level bound n (c ∷ x) m = (step n c ≤ bound) × (closes c ≡ true → 0 < n) × Level bound (step n c) x m

pub level-append : (bound n m k : ℕ) (x y : List Terminal) → Level bound n x m → Level bound m y k → Level bound n (x ++ y) k
level-append bound n m k [] y first second = subst (λ z. Level bound z y k) (sym first) second
level-append bound n m k (c ∷ x) y first second = (first.0, first.1, level-append bound (step n c) m k x y first.2 second)

-- the bound holds for each prefix
pub level_within : (bound n m : ℕ) (x : List Terminal) → n ≤ bound → Level bound n x m → (k : ℕ) → opened n (take k x) ≤ bound
level_within bound n m [] low level zero = low
level_within bound n m [] low level (suc k) = low
level_within bound n m (c ∷ x) low level zero = low
level_within bound n m (c ∷ x) low level (suc k) = level_within bound (step n c) m x level.0 level.2 k

pub level_ends : (bound n m : ℕ) (x : List Terminal) → Level bound n x m → opened n x ≡ m
level_ends bound n m [] level = level
level_ends bound n m (c ∷ x) level = level_ends bound (step n c) m x level.2

pub level_weaker : (bound n m : ℕ) (x : List Terminal) → Level bound n x m → Level (suc bound) n x m
level_weaker bound n m [] level = level
level_weaker bound n m (c ∷ x) level = (omega (arith, level.0), level.1, level_weaker bound (step n c) m x level.2)

step_shift : (n : ℕ) (c : Terminal) → (closes c ≡ true → 0 < n) → step (suc n) c ≡ suc (step n c)
step_shift n c some =
    elim (cases_Bool (opens c)) [
      | inl up ↦ rw up (omega arith)
      | inr still ↦ elim (cases_Bool (closes c)) [
        | inl down ↦ let positive : 0 < n = some down in rw (still, down) (omega (arith, positive))
        | inr same ↦ rw (still, same) refl
      ]
    ]

-- an enclosing pair of braces raises all levels by one
pub level_shift : (bound n m : ℕ) (x : List Terminal) → Level bound n x m → Level (suc bound) (suc n) x (suc m)
level_shift bound n m [] level = ap suc level
level_shift bound n m (c ∷ x) level =
    let up : step (suc n) c ≡ suc (step n c) = step_shift n c level.1 in
    (omega (arith, up, level.0), λ e. omega arith, subst (λ z. Level (suc bound) z x (suc m)) (sym up) (level_shift bound (step n c) m x level.2))

abbrev pub is_whole : Form → Bool
is_whole Whole = true
is_whole _ = false

-- a pattern whose braces are those of regions
abbrev pub plain : Pattern → Bool
plain nothing = true
plain (one c) = not (opens c) && not (closes c)
plain (line f) = not (is_whole f)
plain (both a b) = plain a && plain b
plain (either a b) = plain a && plain b
plain (many a) = plain a
plain (region a) = plain a

plain_body : (f : Form) → not (is_whole f) ≡ true → plain (body f) ≡ true
plain_body f h =
    elim (or_cases (is_whole f) (plain (body f)) (every_form (λ g. is_whole g || plain (body g)) refl f)) [
      | inl whole ↦ absurd (both_ways (is_whole f) (not-true (is_whole f) h) whole)
      | inr is ↦ is
    ]

-- the run read a prefix, from `n` open regions to `m`, and left the rest
abbrev pub Reached : ℕ → List Terminal → List Terminal → ℕ → Type 0
Reached n ts us m = (x : List Terminal) × (ts ≡ x ++ us) × Level 12 n x m

abbrev pub LevelOf : ℕ → List Terminal → Outcome → Type 0
LevelOf n ts (Done us) = Reached n ts us n
LevelOf n ts (Stop us) = (m : ℕ) × Reached n ts us m
LevelOf n ts (Deep us) = Reached n ts us 12 × ((v : List Terminal) × (us ≡ LeftBrace ∷ v))

-- the result of a run inside a region, which began with one region more than it ends with
abbrev pub ClosedOf : ℕ → List Terminal → Outcome → Type 0
ClosedOf n ts (Done us) = Reached (suc n) ts us n
ClosedOf n ts (Stop us) = (m : ℕ) × Reached (suc n) ts us m
ClosedOf n ts (Deep us) = Reached (suc n) ts us 12 × ((v : List Terminal) × (us ≡ LeftBrace ∷ v))

reached_both : (n m k : ℕ) (ts us vs : List Terminal) → Reached n ts us m → Reached m us vs k → Reached n ts vs k
reached_both n m k ts us vs (x, e, l) (y, f, r) = (x ++ y, e ∙ ap (λ z. x ++ z) f ∙ sym (append_assoc x y vs), level-append 12 n m k x y l r)

level_both : (n : ℕ) (ts us : List Terminal) (o : Outcome) → Reached n ts us n → LevelOf n us o → LevelOf n ts o
level_both n ts us (Done vs) first rest = reached_both n n n ts us vs first rest
level_both n ts us (Stop vs) first rest = (rest.0, reached_both n n rest.0 ts us vs first rest.1)
level_both n ts us (Deep vs) first rest = (reached_both n n 12 ts us vs first rest.0, rest.1)

-- a run over one token
pub of_run_one : {n : ℕ} {c : Terminal} {ts : List Terminal} {o : Outcome} → Runs n (one c) ts o
    → ((us : List Terminal) × (ts ≡ c ∷ us) × (o ≡ Done us)) ⊎ (o ≡ Stop ts)
of_run_one (run_one {ts = us}) = inl (us, refl, refl)
of_run_one (run_other h) = inr refl

closed_by : (n : ℕ) (ts us : List Terminal) (o : Outcome) → n < 12 → Reached (suc n) ts us (suc n)
    → ((vs : List Terminal) × (us ≡ RightBrace ∷ vs) × (o ≡ Done vs)) ⊎ (o ≡ Stop us) → ClosedOf n ts o
closed_by n ts us o low first (inl (vs, e, is)) =
    let last : Level 12 (suc n) (RightBrace ∷ []) n = (omega arith, λ _. omega arith, omega arith) in
    let end : us ≡ (RightBrace ∷ []) ++ vs = e in
    subst (ClosedOf n ts) (sym is) (reached_both (suc n) (suc n) n ts us vs first (RightBrace ∷ [], end, last))
closed_by n ts us o low first (inr is) = subst (ClosedOf n ts) (sym is) (suc n, first)

closed_fails : (n : ℕ) (ts : List Terminal) (o : Outcome) → Fails o → LevelOf (suc n) ts o → ClosedOf n ts o
closed_fails n ts (Done us) failed level = absurd failed
closed_fails n ts (Stop us) failed level = level
closed_fails n ts (Deep us) failed level = level

-- a region after its opening brace
opened_front : (n m : ℕ) (x : List Terminal) → n < 12 → Level 12 (suc n) x m → Level 12 n (LeftBrace ∷ x) m
opened_front n m x low l = let up : step n LeftBrace ≡ suc n = omega arith in (omega arith, λ e. cc, subst (λ z. Level 12 z x m) (sym up) l)

opened_by : (n : ℕ) (ts : List Terminal) (o : Outcome) → n < 12 → ClosedOf n ts o → LevelOf n (LeftBrace ∷ ts) o
opened_by n ts (Done us) low (x, e, l) = (LeftBrace ∷ x, ap (λ z. LeftBrace ∷ z) e, opened_front n n x low l)
opened_by n ts (Stop us) low (m, (x, e, l)) = (m, (LeftBrace ∷ x, ap (λ z. LeftBrace ∷ z) e, opened_front n m x low l))
opened_by n ts (Deep us) low ((x, e, l), brace) = ((LeftBrace ∷ x, ap (λ z. LeftBrace ∷ z) e, opened_front n 12 x low l), brace)

one_level : (n : ℕ) (c : Terminal) → (not (opens c) && not (closes c)) ≡ true → n ≤ 12 → Level 12 n (c ∷ []) n
one_level n c p low =
    let parts = and_parts (not (opens c)) (not (closes c)) p in
    let no_open : opens c ≡ false = not-true (opens c) parts.0 in
    let no_close : closes c ≡ false = not-true (closes c) parts.1 in
    let still : step n c ≡ n = rw (no_open, no_close) refl in
    (omega (arith, still), λ e. absurd (both_ways (closes c) no_close e), still)

-- the number of open regions after the tokens read is at most twelve
pub level : {n : ℕ} {r : Pattern} {ts : List Terminal} {o : Outcome} → Runs n r ts o → plain r ≡ true → n ≤ 12 → LevelOf n ts o
level run_nothing p low = ([], refl, refl)
level (run_one {n} {c}) p low = (c ∷ [], refl, one_level n c p low)
level (run_other {n} h) p low = (n, ([], refl, refl))
level (run_line {f = f} d) p low = level d (plain_body f p) low
level (run_both {n} {a} {b} {ts} {us} {o} d k) p low =
    let parts = and_parts (plain a) (plain b) p in level_both n ts us o (level d parts.0 low) (level k parts.1 low)
level (run_both_fails {a = a} {b = b} d h) p low = level d (and_parts (plain a) (plain b) p).0 low
level (run_left {a = a} {b = b} h d) p low = level d (and_parts (plain a) (plain b) p).0 low
level (run_right {a = a} {b = b} h d) p low = level d (and_parts (plain a) (plain b) p).1 low
level (run_enough h) p low = ([], refl, refl)
level (run_again {n} {a} {ts} {us} {o} h d k) p low = level_both n ts us o (level d p low) (level k p low)
level (run_again_fails h d k) p low = level d p low
level (run_no_brace {n} h) p low = (n, ([], refl, refl))
level (run_too_deep {ts = ts} h) p low = (([], refl, omega arith), (ts, refl))
level (run_region {n} {ts = ts} {o = o} h (run_both {us = us} d k)) p low =
    let first = subst (λ z. Reached z ts us z) (add-one n) (level d p (omega arith)) in
    opened_by n ts o h (closed_by n ts us o h first (of_run_one k))
level (run_region {n} {ts = ts} {o = o} h (run_both_fails d f)) p low =
    opened_by n ts o h (closed_fails n ts o f (subst (λ z. LevelOf z ts o) (add-one n) (level d p (omega arith))))
