-- The steps of a run, by token indices.
use Rattle.std.proofs.Common.{suc, zero, ◌≡◌, ℕ, ◌+◌, ◌<◌, ◌≤◌, Bool, true, false, ◌||◌, ◌&&◌, refl, List, [], ◌∷◌, length, drop, ap, ◌∙◌, sym, subst, arith, add-one, length-drop, Result, Ok, Err, inl, inr}
use Rattle.mlir_ir.specs.GrammarNumbers.{same}
use Rattle.mlir_parse.specs.Tables.{empty}
use Rattle.mlir_ir.specs.Grammar.{Pattern, nothing, one, line, both, either, many, region, body}
use Rattle.mlir_parse.specs.Runs.{Outcome, Done, Stop, Deep, Fails, starts, is_next, Runs, run_nothing, run_one, run_other, run_line, run_both, run_both_fails, run_left, run_right, run_enough, run_again, run_again_fails, run_no_brace, run_too_deep, run_region}
use Rattle.mlir_parse.specs.Seen.{Gives}
use Rattle.mlir_ir.specs.declared.terminal.Terminal.{Terminal}
use Rattle.mlir_ir.specs.declared.terminal.Terminal.TheVariants.{LeftBrace, RightBrace}
use Rattle.mlir_ir.specs.declared.syntax.Form.{Form}
use Rattle.mlir_parse.specs.declared.fault.Fault.{Fault}
use Rattle.mlir_parse.specs.declared.fault.Fault.TheVariants.{NoMemory, Syntax, TooDeep}
use Rattle.mlir_parse.proofs.Bools.{same_is, same_self}
use Rattle.std.proofs.lemmas.Bool.{and_from, cases_Bool}
use Rattle.mlir_parse.proofs.First.{first_body, empty_body}

-- a run that succeeds leaves fewer tokens where the first token may begin a match, and never more
abbrev pub Leaves : Pattern → List Terminal → Outcome → Type 0
Leaves r ts (Done us) =
    (length us ≤ length ts) × (starts r ts ≡ true → length us < length ts) × (starts r ts ≡ false → (us ≡ ts) × (empty r ≡ true))
Leaves r ts (Stop us) = Unit {0}
Leaves r ts (Deep us) = Unit {0}

starts_nothing : (ts : List Terminal) → starts nothing ts ≡ false
starts_nothing [] = refl
starts_nothing (c ∷ ts) = refl

starts_line : (f : Form) (ts : List Terminal) → starts (line f) ts ≡ starts (body f) ts
starts_line f [] = refl
starts_line f (c ∷ ts) = sym (first_body f c)

starts_many : (a : Pattern) (ts : List Terminal) → starts (many a) ts ≡ starts a ts
starts_many a [] = refl
starts_many a (c ∷ ts) = refl

starts_both : (a b : Pattern) (ts : List Terminal) → starts (both a b) ts ≡ (starts a ts || (empty a && starts b ts))
starts_both a b [] = nothing_more (empty a)
  where
    nothing_more : (e : Bool) → false ≡ (false || (e && false))
    nothing_more true = refl
    nothing_more false = refl
starts_both a b (c ∷ ts) = refl

starts_either : (a b : Pattern) (ts : List Terminal) → starts (either a b) ts ≡ (starts a ts || starts b ts)
starts_either a b [] = refl
starts_either a b (c ∷ ts) = refl

leaves_line : (f : Form) (ts : List Terminal) (o : Outcome) → Leaves (body f) ts o → Leaves (line f) ts o
leaves_line f ts (Done us) h = (h.0, λ e. h.1 (sym (starts_line f ts) ∙ e), λ e. let q = h.2 (sym (starts_line f ts) ∙ e) in (q.0, sym (empty_body f) ∙ q.1))
leaves_line f ts (Stop us) h = tt
leaves_line f ts (Deep us) h = tt

leaves_both : (a b : Pattern) (ts us : List Terminal) (o : Outcome) → Leaves a ts (Done us) → Leaves b us o → Leaves (both a b) ts o
leaves_both a b ts us (Done vs) h k = (
  omega (arith, h.0, k.0),
  λ e.
      elim (cases_Bool (starts a ts)) [
        | inl p ↦ omega (arith, h.1 p, k.0)
        | inr p ↦ let q = h.2 p in
            let m : starts b ts ≡ true = rest_true (starts a ts) (empty a) (starts b ts) p (sym (starts_both a b ts) ∙ e) in
            let P : List Terminal → Type 0 = λ x. starts b x ≡ true in
            let l : length us ≡ length ts = ap length q.0 in
            omega (arith, k.1 (subst P (sym q.0) m), l)
      ],
  λ e.
      let none_of = sym (starts_both a b ts) ∙ e in
      let p : starts a ts ≡ false = or_left (starts a ts) (empty a && starts b ts) none_of in
      let q = h.2 p in
      let m : starts b ts ≡ false = rest_false (starts a ts) (empty a) (starts b ts) q.1 none_of in
      let P : List Terminal → Type 0 = λ x. starts b x ≡ false in
      let z = k.2 (subst P (sym q.0) m) in
      (z.0 ∙ q.0, and_from (empty a) (empty b) q.1 z.1),
)
  where
    rest_true : (p e q : Bool) → p ≡ false → (p || (e && q)) ≡ true → q ≡ true
    rest_true true e q h k = cc
    rest_true false true q h k = k
    rest_true false false q h k = cc

    or_left : (p q : Bool) → (p || q) ≡ false → p ≡ false
    or_left true q h = h
    or_left false q h = refl

    rest_false : (p e q : Bool) → e ≡ true → (p || (e && q)) ≡ false → q ≡ false
    rest_false true e q h k = cc
    rest_false false true q h k = k
    rest_false false false q h k = cc
leaves_both a b ts us (Stop vs) h k = tt
leaves_both a b ts us (Deep vs) h k = tt

leaves_fails : (a b : Pattern) (ts : List Terminal) (o : Outcome) → Fails o → Leaves b ts o
leaves_fails a b ts (Done us) h = absurd h
leaves_fails a b ts (Stop us) h = tt
leaves_fails a b ts (Deep us) h = tt

leaves_left : (a b : Pattern) (ts : List Terminal) (o : Outcome) → starts a ts ≡ true → Leaves a ts o → Leaves (either a b) ts o
leaves_left a b ts (Done us) p h = (h.0, λ e. h.1 p, λ e. absurd (never (starts a ts) (starts b ts) p (sym (starts_either a b ts) ∙ e)))
  where
    never : (p q : Bool) → p ≡ true → (p || q) ≡ false → ⊥
    never true q h k = cc
    never false q h k = cc
leaves_left a b ts (Stop us) p h = tt
leaves_left a b ts (Deep us) p h = tt

leaves_right : (a b : Pattern) (ts : List Terminal) (o : Outcome) → starts a ts ≡ false → Leaves b ts o → Leaves (either a b) ts o
leaves_right a b ts (Done us) p h = (
  h.0,
  λ e. h.1 (second (starts a ts) (starts b ts) true p (sym (starts_either a b ts) ∙ e)),
  λ e. let q = h.2 (second (starts a ts) (starts b ts) false p (sym (starts_either a b ts) ∙ e)) in (q.0, or_true (empty a) (empty b) q.1),
)
  where
    second : (p q r : Bool) → p ≡ false → (p || q) ≡ r → q ≡ r
    second true q r h k = cc
    second false q r h k = k

    or_true : (p q : Bool) → q ≡ true → (p || q) ≡ true
    or_true true q h = refl
    or_true false q h = h
leaves_right a b ts (Stop us) p h = tt
leaves_right a b ts (Deep us) p h = tt

leaves_again : (a : Pattern) (ts us : List Terminal) (o : Outcome) → starts a ts ≡ true → Leaves a ts (Done us) → Leaves (many a) us o → Leaves (many a) ts o
leaves_again a ts us (Done vs) p h k =
    (omega (arith, h.0, k.0), λ e. omega (arith, h.1 p, k.0), λ e. let m : starts a ts ≡ false = sym (starts_many a ts) ∙ e in cc)
leaves_again a ts us (Stop vs) p h k = tt
leaves_again a ts us (Deep vs) p h k = tt

leaves_region : (a : Pattern) (ts : List Terminal) (o : Outcome) → Leaves (both a (one RightBrace)) ts o → Leaves (region a) (LeftBrace ∷ ts) o
leaves_region a ts (Done us) h = (omega (arith, h.0), λ e. omega (arith, h.0), λ e. cc)
leaves_region a ts (Stop us) h = tt
leaves_region a ts (Deep us) h = tt

pub leaves : {n : ℕ} {r : Pattern} {ts : List Terminal} {o : Outcome} → Runs n r ts o → Leaves r ts o
leaves (run_nothing {ts = ts}) = (omega arith, λ e. let m = starts_nothing ts in cc, λ e. (refl, refl))
leaves (run_one {c} {ts}) = (omega arith, λ e. omega arith, λ e. let m : same c c ≡ true = same_self c in cc)
leaves (run_other h) = tt
leaves (run_line {f} {ts} {o} d) = leaves_line f ts o (leaves d)
leaves (run_both {a} {b} {ts} {us} {o} d k) = leaves_both a b ts us o (leaves d) (leaves k)
leaves (run_both_fails {a} {b} {ts} {o} d h) = leaves_fails a (both a b) ts o h
leaves (run_left {a} {b} {ts} {o} h d) = leaves_left a b ts o h (leaves d)
leaves (run_right {a} {b} {ts} {o} h d) = leaves_right a b ts o h (leaves d)
leaves (run_enough {a} {ts} h) = (omega arith, λ e. let m : starts a ts ≡ true = sym (starts_many a ts) ∙ e in cc, λ e. (refl, refl))
leaves (run_again {a} {ts} {us} {o} h d k) = leaves_again a ts us o h (leaves d) (leaves k)
leaves (run_again_fails {a} {ts} {o} h d k) = leaves_fails a (many a) ts o k
leaves (run_no_brace h) = tt
leaves (run_too_deep h) = tt
leaves (run_region {a} {ts} {o} h d) = leaves_region a ts o (leaves d)

pub gives_nothing : (n : ℕ) (ts : List Terminal) (at : ℕ) → at ≤ length ts → Gives n nothing ts at (Ok at)
gives_nothing n ts at h = (omega arith, h, run_nothing)

-- the token at an index
found_next : (c : Terminal) (ts : List Terminal) (at : ℕ) → is_next c (drop at ts) ≡ true → (at < length ts) × (drop at ts ≡ c ∷ drop (suc at) ts)
found_next c [] zero e = cc
found_next c [] (suc at) e = cc
found_next c (b ∷ ts) zero e = (omega arith, ap (λ x. x ∷ ts) (same_is c b e))
found_next c (b ∷ ts) (suc at) e = let q = found_next c ts at e in (omega (arith, q.0), q.1)

pub found : (c : Terminal) (ts : List Terminal) (at : ℕ) → is_next c (drop at ts) ≡ true → (at < length ts) × (drop at ts ≡ c ∷ drop (at + 1) ts)
found c ts at e = let q = found_next c ts at e in (q.0, rw (add-one) q.1)

pub gives_one : (n : ℕ) (c : Terminal) (ts : List Terminal) (at : ℕ) → is_next c (drop at ts) ≡ true → Gives n (one c) ts at (Ok (at + 1))
gives_one n c ts at e =
    let q = found c ts at e in
    let P : List Terminal → Type 0 = λ x. Runs n (one c) x (Done (drop (at + 1) ts)) in
    (omega arith, omega (arith, q.0), subst P (sym q.1) run_one)

pub gives_other : (n : ℕ) (c : Terminal) (ts : List Terminal) (at : ℕ) → at ≤ length ts → is_next c (drop at ts) ≡ false → Gives n (one c) ts at (Err (Syntax at))
gives_other n c ts at h e = (h, run_other e)

pub gives_line : (n : ℕ) (f : Form) (r : Pattern) (ts : List Terminal) (at : ℕ) (res : Result ℕ Fault) → r ≡ body f → Gives n r ts at res → Gives n (line f) ts at res
gives_line n f r ts at res e g = by_body res (let P : Pattern → Type 0 = λ x. Gives n x ts at res in subst P e g)
  where
    by_body : (res : Result ℕ Fault) → Gives n (body f) ts at res → Gives n (line f) ts at res
    by_body (Ok next) g = (g.0, g.1, run_line g.2)
    by_body (Err (Syntax k)) g = (g.0, run_line g.1)
    by_body (Err (TooDeep k)) g = (g.0, run_line g.1)
    by_body (Err NoMemory) g = tt

pub gives_both : (n : ℕ) (a b : Pattern) (ts : List Terminal) (at mid : ℕ) (res : Result ℕ Fault) → Gives n a ts at (Ok mid) → Gives n b ts mid res → Gives n (both a b) ts at res
gives_both n a b ts at mid (Ok next) g k = (omega (arith, g.0, k.0), k.1, run_both g.2 k.2)
gives_both n a b ts at mid (Err (Syntax q)) g k = (k.0, run_both g.2 k.1)
gives_both n a b ts at mid (Err (TooDeep q)) g k = (k.0, run_both g.2 k.1)
gives_both n a b ts at mid (Err NoMemory) g k = tt

pub gives_both_fails : (n : ℕ) (a b : Pattern) (ts : List Terminal) (at : ℕ) (e : Fault) → Gives n a ts at (Err e) → Gives n (both a b) ts at (Err e)
gives_both_fails n a b ts at (Syntax q) g = (g.0, run_both_fails g.1 tt)
gives_both_fails n a b ts at (TooDeep q) g = (g.0, run_both_fails g.1 tt)
gives_both_fails n a b ts at NoMemory g = tt

pub gives_left : (n : ℕ) (a b : Pattern) (ts : List Terminal) (at : ℕ) (res : Result ℕ Fault) → starts a (drop at ts) ≡ true → Gives n a ts at res → Gives n (either a b) ts at res
gives_left n a b ts at (Ok next) e g = (g.0, g.1, run_left e g.2)
gives_left n a b ts at (Err (Syntax q)) e g = (g.0, run_left e g.1)
gives_left n a b ts at (Err (TooDeep q)) e g = (g.0, run_left e g.1)
gives_left n a b ts at (Err NoMemory) e g = tt

pub gives_right : (n : ℕ) (a b : Pattern) (ts : List Terminal) (at : ℕ) (res : Result ℕ Fault) → starts a (drop at ts) ≡ false → Gives n b ts at res → Gives n (either a b) ts at res
gives_right n a b ts at (Ok next) e g = (g.0, g.1, run_right e g.2)
gives_right n a b ts at (Err (Syntax q)) e g = (g.0, run_right e g.1)
gives_right n a b ts at (Err (TooDeep q)) e g = (g.0, run_right e g.1)
gives_right n a b ts at (Err NoMemory) e g = tt

pub gives_enough : (n : ℕ) (a : Pattern) (ts : List Terminal) (at : ℕ) → at ≤ length ts → starts a (drop at ts) ≡ false → Gives n (many a) ts at (Ok at)
gives_enough n a ts at h e = (omega arith, h, run_enough e)

pub gives_again : (n : ℕ) (a : Pattern) (ts : List Terminal) (at mid : ℕ) (res : Result ℕ Fault) → starts a (drop at ts) ≡ true → Gives n a ts at (Ok mid) → Gives n (many a) ts mid res → Gives n (many a) ts at res
gives_again n a ts at mid (Ok next) e g k = (omega (arith, g.0, k.0), k.1, run_again e g.2 k.2)
gives_again n a ts at mid (Err (Syntax q)) e g k = (k.0, run_again e g.2 k.1)
gives_again n a ts at mid (Err (TooDeep q)) e g k = (k.0, run_again e g.2 k.1)
gives_again n a ts at mid (Err NoMemory) e g k = tt

pub gives_again_fails : (n : ℕ) (a : Pattern) (ts : List Terminal) (at : ℕ) (e : Fault) → starts a (drop at ts) ≡ true → Gives n a ts at (Err e) → Gives n (many a) ts at (Err e)
gives_again_fails n a ts at (Syntax q) e g = (g.0, run_again_fails e g.1 tt)
gives_again_fails n a ts at (TooDeep q) e g = (g.0, run_again_fails e g.1 tt)
gives_again_fails n a ts at NoMemory e g = tt

pub goes_on : (n : ℕ) (a : Pattern) (ts : List Terminal) (at next : ℕ) → starts a (drop at ts) ≡ true → Gives n a ts at (Ok next) → at < next
goes_on n a ts at next e g =
    let less = (leaves g.2).1 e in
    omega (arith, less, length-drop at ts, length-drop next ts, g.0, g.1)

pub gives_no_brace : (n : ℕ) (a : Pattern) (ts : List Terminal) (at : ℕ) → at ≤ length ts → is_next LeftBrace (drop at ts) ≡ false → Gives n (region a) ts at (Err (Syntax at))
gives_no_brace n a ts at h e = (h, run_no_brace e)

pub gives_too_deep : (n : ℕ) (a : Pattern) (ts : List Terminal) (at : ℕ) → is_next LeftBrace (drop at ts) ≡ true → 12 ≤ n → Gives n (region a) ts at (Err (TooDeep at))
gives_too_deep n a ts at e h =
    let q = found LeftBrace ts at e in
    let P : List Terminal → Type 0 = λ x. Runs n (region a) x (Deep x) in
    (omega (arith, q.0), subst P (sym q.1) (run_too_deep h))

pub gives_region : (n : ℕ) (a : Pattern) (ts : List Terminal) (at : ℕ) (res : Result ℕ Fault) → is_next LeftBrace (drop at ts) ≡ true → n < 12
    → Gives (n + 1) (both a (one RightBrace)) ts (at + 1) res → Gives n (region a) ts at res
gives_region n a ts at (Ok next) e h g =
    let q = found LeftBrace ts at e in
    let P : List Terminal → Type 0 = λ x. Runs n (region a) x (Done (drop next ts)) in
    (omega (arith, g.0), g.1, subst P (sym q.1) (run_region h g.2))
gives_region n a ts at (Err (Syntax k)) e h g =
    let q = found LeftBrace ts at e in
    let P : List Terminal → Type 0 = λ x. Runs n (region a) x (Stop (drop k ts)) in
    (g.0, subst P (sym q.1) (run_region h g.1))
gives_region n a ts at (Err (TooDeep k)) e h g =
    let q = found LeftBrace ts at e in
    let P : List Terminal → Type 0 = λ x. Runs n (region a) x (Deep (drop k ts)) in
    (g.0, subst P (sym q.1) (run_region h g.1))
gives_region n a ts at (Err NoMemory) e h g = tt

pub gives_region_fails : (n : ℕ) (a : Pattern) (ts : List Terminal) (at : ℕ) (e : Fault) → is_next LeftBrace (drop at ts) ≡ true → n < 12
    → Gives (n + 1) a ts (at + 1) (Err e) → Gives n (region a) ts at (Err e)
gives_region_fails n a ts at e h k g = gives_region n a ts at (Err e) h k (gives_both_fails (n + 1) a (one RightBrace) ts (at + 1) e g)

pub gives_region_ends : (n : ℕ) (a : Pattern) (ts : List Terminal) (at mid : ℕ) (res : Result ℕ Fault) → is_next LeftBrace (drop at ts) ≡ true → n < 12
    → Gives (n + 1) a ts (at + 1) (Ok mid) → Gives (n + 1) (one RightBrace) ts mid res → Gives n (region a) ts at res
gives_region_ends n a ts at mid res h k g m = gives_region n a ts at res h k (gives_both (n + 1) a (one RightBrace) ts (at + 1) mid res g m)
