-- The number of open regions after the tokens that a run over a module has read.
use Rattle.std.proofs.Common.{suc, zero, ◌≡◌, ℕ, ◌-◌, Bool, true, false, ◌||◌, ◌&&◌, List, [], ◌∷◌, ◌++◌, refl, ap, ◌∙◌, sym, subst, arith, append_assoc, ◌⊎◌, inl, inr}
use Rattle.mlir_ir.specs.Grammar.{Pattern, nothing, one, line, both, either, many, body, maybe, ◌~◌}
use Rattle.mlir_ir.specs.Texts.{is_module, regions, IsShallow}
use Rattle.mlir_ir.specs.declared.terminal.Terminal.{Terminal}
use Rattle.mlir_ir.specs.declared.terminal.Terminal.TheVariants.{Module, Function, Symbol, LeftBrace, RightBrace}
use Rattle.mlir_ir.specs.declared.syntax.Form.{Form}
use Rattle.mlir_ir.specs.declared.syntax.Form.TheVariants.{Whole, Func}
use Rattle.mlir_ir.specs.GrammarNumbers.{same}
use Rattle.mlir_parse.specs.Tables.{first}
use Rattle.mlir_parse.specs.Runs.{Outcome, Done, Stop, Deep, Fails, starts, Runs, run_nothing, run_line, run_both, run_both_fails, run_left, run_right}
use Rattle.mlir_parse.proofs.Bools.{same_is}
use Rattle.mlir_parse.proofs.Levels.{Level, LevelOf, level, level-append, level_within, level_ends, level_shift, of_run_one}

of_run_both : {n : ℕ} {a b : Pattern} {ts : List Terminal} {o : Outcome} → Runs n (both a b) ts o
    → ((us : List Terminal) × Runs n a ts (Done us) × Runs n b us o) ⊎ (Runs n a ts o × Fails o)
of_run_both (run_both {us = us} d k) = inl (us, d, k)
of_run_both (run_both_fails d h) = inr (d, h)

of_run_either : {n : ℕ} {a b : Pattern} {ts : List Terminal} {o : Outcome} → Runs n (either a b) ts o
    → ((starts a ts ≡ true) × Runs n a ts o) ⊎ ((starts a ts ≡ false) × Runs n b ts o)
of_run_either (run_left h d) = inl (h, d)
of_run_either (run_right h d) = inr (h, d)

pub of_run_line : {n : ℕ} {f : Form} {ts : List Terminal} {o : Outcome} → Runs n (line f) ts o → Runs n (body f) ts o
of_run_line (run_line d) = d

of_run_nothing : {n : ℕ} {ts : List Terminal} {o : Outcome} → Runs n nothing ts o → o ≡ Done ts
of_run_nothing run_nothing = refl

-- the tokens read have at most twelve open regions, and exactly twelve where the run stopped at a brace
abbrev pub TopOf : List Terminal → Outcome → Type 0
TopOf ts (Done us) = (x : List Terminal) × (ts ≡ x ++ us) × IsShallow x
TopOf ts (Stop us) = (x : List Terminal) × (ts ≡ x ++ us) × IsShallow x
TopOf ts (Deep us) = (x : List Terminal) × (ts ≡ x ++ us) × IsShallow x × (regions x ≡ 12) × ((v : List Terminal) × (us ≡ LeftBrace ∷ v))

shallow_nothing : IsShallow []
shallow_nothing zero = omega arith
shallow_nothing (suc k) = omega arith

-- the tokens don't begin with `module`
shallow_plain : (c : Terminal) (x : List Terminal) (m : ℕ) → is_module c ≡ false → Level 12 0 (c ∷ x) m → IsShallow (c ∷ x)
shallow_plain c x m no_module level zero = omega arith
shallow_plain c x m no_module level (suc k) = let low = level_within 12 0 m (c ∷ x) (omega arith) level (suc k) in rw no_module low

regions_plain : (c : Terminal) (x : List Terminal) (m : ℕ) → is_module c ≡ false → Level 12 0 (c ∷ x) m → regions (c ∷ x) ≡ m
regions_plain c x m no_module level = rw no_module (level_ends 12 0 m (c ∷ x) level)

-- the tokens begin with `module`
shallow_module : (x : List Terminal) (m : ℕ) → Level 13 0 (Module ∷ x) m → IsShallow (Module ∷ x)
shallow_module x m level zero = omega arith
shallow_module x m level (suc k) = let low = level_within 13 0 m (Module ∷ x) (omega arith) level (suc k) in omega (arith, low)

regions_module : (x : List Terminal) (m : ℕ) → Level 13 0 (Module ∷ x) m → regions (Module ∷ x) ≡ m - 1
regions_module x m level = let ends = level_ends 13 0 m (Module ∷ x) level in ap (λ z. z - 1) ends

-- inside the braces of `module`, which count here: the open braces before the tokens read, and after a whole match
abbrev pub ModuleOf : ℕ → ℕ → List Terminal → Outcome → Type 0
ModuleOf n k ts (Done us) = (x : List Terminal) × (ts ≡ x ++ us) × Level 13 n x k
ModuleOf n k ts (Stop us) = (m : ℕ) × (x : List Terminal) × (ts ≡ x ++ us) × Level 13 n x m
ModuleOf n k ts (Deep us) = (x : List Terminal) × (ts ≡ x ++ us) × Level 13 n x 13 × ((v : List Terminal) × (us ≡ LeftBrace ∷ v))

module_both : (n k j : ℕ) (ts us : List Terminal) (o : Outcome) → ModuleOf n k ts (Done us) → ModuleOf k j us o → ModuleOf n j ts o
module_both n k j ts us (Done vs) (x, e, l) (y, f, r) = (x ++ y, e ∙ ap (λ z. x ++ z) f ∙ sym (append_assoc x y vs), level-append 13 n k j x y l r)
module_both n k j ts us (Stop vs) (x, e, l) (m, y, f, r) = (m, x ++ y, e ∙ ap (λ z. x ++ z) f ∙ sym (append_assoc x y vs), level-append 13 n k m x y l r)
module_both n k j ts us (Deep vs) (x, e, l) (y, f, r, brace) = (x ++ y, e ∙ ap (λ z. x ++ z) f ∙ sym (append_assoc x y vs), level-append 13 n k 13 x y l r, brace)

module_fails : (n k j : ℕ) (ts : List Terminal) (o : Outcome) → Fails o → ModuleOf n k ts o → ModuleOf n j ts o
module_fails n k j ts (Done us) failed p = absurd failed
module_fails n k j ts (Stop us) failed p = p
module_fails n k j ts (Deep us) failed p = p

module_turn : (n k j : ℕ) (a b : Pattern)
    → ((ts : List Terminal) (o : Outcome) → Runs 0 a ts o → ModuleOf n k ts o)
    → ((us : List Terminal) (o : Outcome) → Runs 0 b us o → ModuleOf k j us o)
    → (ts : List Terminal) (o : Outcome) → Runs 0 (both a b) ts o → ModuleOf n j ts o
module_turn n k j a b first second ts o r =
    elim (of_run_both r) [
      | inl (us, d, e) ↦ module_both n k j ts us o (first ts (Done us) d) (second us o e)
      | inr (d, failed) ↦ module_fails n k j ts o failed (first ts o d)
    ]

-- a run over one token inside the braces of `module`
one_of : (n k : ℕ) (c : Terminal) → Level 13 n (c ∷ []) k → (ts : List Terminal) (o : Outcome) → Runs 0 (one c) ts o → ModuleOf n k ts o
one_of n k c l ts o r =
    elim (of_run_one r) [
      | inl (us, e, is) ↦ subst (ModuleOf n k ts) (sym is) (c ∷ [], e, l)
      | inr is ↦ subst (ModuleOf n k ts) (sym is) (n, [], refl, refl)
    ]

symbol_of : (ts : List Terminal) (o : Outcome) → Runs 0 (maybe (one Symbol)) ts o → ModuleOf 0 0 ts o
symbol_of ts o r =
    elim (of_run_either r) [
      | inl (begins, d) ↦ one_of 0 0 Symbol (omega arith, λ e. cc, refl) ts o d
      | inr (stops, d) ↦ subst (ModuleOf 0 0 ts) (sym (of_run_nothing d)) ([], refl, refl)
    ]

shift_of : (ts : List Terminal) (o : Outcome) → LevelOf 0 ts o → ModuleOf 1 1 ts o
shift_of ts (Done us) (x, e, l) = (x, e, level_shift 12 0 0 x l)
shift_of ts (Stop us) (m, (x, e, l)) = (suc m, x, e, level_shift 12 0 m x l)
shift_of ts (Deep us) ((x, e, l), brace) = (x, e, level_shift 12 0 12 x l, brace)

functions_of : (ts : List Terminal) (o : Outcome) → Runs 0 (many (line Func)) ts o → ModuleOf 1 1 ts o
functions_of ts o r = shift_of ts o (level r refl (omega arith))

abbrev module_text : Pattern
module_text = one Module ~ maybe (one Symbol) ~ one LeftBrace ~ many (line Func) ~ one RightBrace

abbrev functions_text : Pattern
functions_text = line Func ~ many (line Func)

module_of : (ts : List Terminal) (o : Outcome) → Runs 0 module_text ts o → ModuleOf 0 0 ts o
module_of =
    module_turn 0 1 0 _ _
    (module_turn 0 1 1 _ _
    (module_turn 0 0 1 _ _ (module_turn 0 0 0 _ _ (one_of 0 0 Module (omega arith, λ e. cc, refl)) symbol_of) (one_of 0 1 LeftBrace (omega arith, λ e. cc, refl)))
    functions_of)
    (one_of 1 0 RightBrace (omega arith, λ e. omega arith, refl))

-- the tokens read, where they begin with `module`
module_top : (ts : List Terminal) (o : Outcome) → ModuleOf 0 0 (Module ∷ ts) o → TopOf (Module ∷ ts) o
module_top ts (Done us) ([], e, l) = ([], e, shallow_nothing)
module_top ts (Done us) (c ∷ x, e, l) =
    let is : c ≡ Module = cc in
    (c ∷ x, e, subst (λ z. IsShallow (z ∷ x)) (sym is) (shallow_module x 0 (subst (λ z. Level 13 0 (z ∷ x) 0) is l)))
module_top ts (Stop us) (m, [], e, l) = ([], e, shallow_nothing)
module_top ts (Stop us) (m, c ∷ x, e, l) =
    let is : c ≡ Module = cc in
    (c ∷ x, e, subst (λ z. IsShallow (z ∷ x)) (sym is) (shallow_module x m (subst (λ z. Level 13 0 (z ∷ x) m) is l)))
module_top ts (Deep us) ([], e, l, brace) = absurd (omega (arith, l))
module_top ts (Deep us) (c ∷ x, e, l, brace) =
    let is : c ≡ Module = cc in
    let here : Level 13 0 (Module ∷ x) 13 = subst (λ z. Level 13 0 (z ∷ x) 13) is l in (
      c ∷ x,
      e,
      subst (λ z. IsShallow (z ∷ x)) (sym is) (shallow_module x 13 here),
      subst (λ z. regions (z ∷ x) ≡ 12) (sym is) (regions_module x 13 here),
      brace,
    )

-- the tokens read, where they don't begin with `module`
plain_top : (c : Terminal) (ts : List Terminal) (o : Outcome) → is_module c ≡ false → LevelOf 0 (c ∷ ts) o → TopOf (c ∷ ts) o
plain_top c ts (Done us) other ([], e, l) = ([], e, shallow_nothing)
plain_top c ts (Done us) other (d ∷ x, e, l) =
    let is : d ≡ c = cc in
    (d ∷ x, e, shallow_plain d x 0 (ap is_module is ∙ other) l)
plain_top c ts (Stop us) other (m, ([], e, l)) = ([], e, shallow_nothing)
plain_top c ts (Stop us) other (m, (d ∷ x, e, l)) =
    let is : d ≡ c = cc in
    (d ∷ x, e, shallow_plain d x m (ap is_module is ∙ other) l)
plain_top c ts (Deep us) other (([], e, l), brace) = absurd (omega (arith, l))
plain_top c ts (Deep us) other ((d ∷ x, e, l), brace) =
    let is : d ≡ c = cc in
    let no_module : is_module d ≡ false = ap is_module is ∙ other in
    (d ∷ x, e, shallow_plain d x 12 no_module l, regions_plain d x 12 no_module l, brace)

functions_top : (ts : List Terminal) (o : Outcome) → starts functions_text ts ≡ true → Runs 0 functions_text ts o → TopOf ts o
functions_top [] o begins r = cc
functions_top (c ∷ ts) o begins r =
    let is : c ≡ Function = same_is Function c (only_first (same Function c) begins) in
    plain_top c ts o (ap is_module is) (level r refl (omega arith))
  where
    only_first : (b : Bool) → (b || (false && b)) ≡ true → b ≡ true
    only_first true h = refl
    only_first false h = h

module_first : (ts : List Terminal) (o : Outcome) → starts module_text ts ≡ true → Runs 0 module_text ts o → TopOf ts o
module_first [] o begins r = cc
module_first (c ∷ ts) o begins r =
    let is : c ≡ Module = same_is Module c (only_first (same Module c) begins) in
    let there : ModuleOf 0 0 (Module ∷ ts) o = subst (λ z. ModuleOf 0 0 (z ∷ ts) o) is (module_of (c ∷ ts) o r) in
    subst (λ z. TopOf (z ∷ ts) o) (sym is) (module_top ts o there)
  where
    only_first : (b : Bool) → ((((b || false) || false) || false) || false) ≡ true → b ≡ true
    only_first true h = refl
    only_first false h = h

-- the tokens that a run over a whole module has read
pub top : (ts : List Terminal) (o : Outcome) → Runs 0 (body Whole) ts o → TopOf ts o
top ts o r =
    elim (of_run_either r) [
      | inl (begins, d) ↦ elim (of_run_either d) [
        | inl (functions, e) ↦ functions_top ts o functions e
        | inr (others, e) ↦ module_first ts o (second (starts functions_text ts) (starts module_text ts) others (starts_either functions_text module_text ts begins)) e
      ]
      | inr (stops, d) ↦ subst (TopOf ts) (sym (of_run_nothing d)) ([], refl, shallow_nothing)
    ]
  where
    second : (p q : Bool) → p ≡ false → (p || q) ≡ true → q ≡ true
    second true q h k = cc
    second false q h k = k

    starts_either : (a b : Pattern) (ts : List Terminal) → starts (either a b) ts ≡ true → (starts a ts || starts b ts) ≡ true
    starts_either a b [] h = h
    starts_either a b (c ∷ ts) h = h
