-- A tree is a run, so its tokens are within the limit on open regions.
use Rattle.std.proofs.Common.{suc, ◌≡◌, ℕ, ◌+◌, ◌<◌, Bool, true, false, List, [], ◌∷◌, ◌++◌, length, drop, refl, ap, ◌∙◌, sym, subst, add-one, inl, inr}
use Rattle.std.proofs.lemmas.List.{append-nil}
use Rattle.std.proofs.Math.Seq.{drop-length}
use Rattle.mlir_ir.specs.Grammar.{Pattern, one, line, both, many, region}
use Rattle.mlir_ir.specs.Texts.{Accepts, ends, IsShallow}
use Rattle.mlir_ir.specs.Trees.{Forest, Derives, IsTreeOf, derive_nothing, derive_one, derive_line, derive_both, derive_left, derive_right, derive_again, derive_enough, derive_region}
use Rattle.mlir_ir.specs.declared.terminal.Terminal.{Terminal}
use Rattle.mlir_ir.specs.declared.terminal.Terminal.TheVariants.{LeftBrace, RightBrace}
use Rattle.mlir_ir.specs.declared.syntax.Form.TheVariants.{Whole}
use Rattle.mlir_parse.specs.Tables.{first, empty}
use Rattle.mlir_parse.specs.Runs.{Outcome, Done, Stop, Fails, starts, Runs, run_nothing, run_one, run_line, run_both, run_both_fails, run_left, run_right, run_again, run_enough, run_region}
use Rattle.mlir_parse.proofs.Bools.{and_left}
use Rattle.mlir_parse.proofs.First.{firsts, empties, first_of, empties_of}
use Rattle.mlir_parse.proofs.Fits.{Fits, fits_whole, fits_line, fits_deep}
use Rattle.mlir_parse.proofs.Levels.{of_run_one}
use Rattle.mlir_parse.proofs.Tops.{of_run_line, top}
use Rattle.mlir_parse.proofs.Unique.{token_here, begins_with, derives_accepts}

-- a match of a pattern that has no empty match begins with a token of its first set
starts_by : (a : Pattern) (ss : List Pattern) (us : List Terminal) → empty a ≡ false → Accepts (a ∷ ss) us → starts a us ≡ true
starts_by a ss [] full d = let is : empty a ≡ true = and_left (empty a) (empties ss) (empties_of d) in cc
starts_by a ss (c ∷ us) full d = begins_with (first a c) (empty a) (firsts ss c) full (first_of d)

-- a match of the rest of the stack begins with no token of the pattern's first set
starts_not : (a : Pattern) (qs : List Pattern) (us : List Terminal) → ((c : Terminal) → first a c ≡ true → firsts qs c ≡ false) → Accepts qs us → starts a us ≡ false
starts_not a qs [] apart d = refl
starts_not a qs (c ∷ us) apart d = never (first a c) (firsts qs c) (apart c) (first_of d)
  where
    never : (p q : Bool) → (p ≡ true → q ≡ false) → q ≡ true → p ≡ false
    never true q f h = let m : q ≡ false = f refl in cc
    never false q f h = refl

-- a run over a region, between its braces
in_braces : {n : ℕ} {a : Pattern} {ts : List Terminal} {o : Outcome} → n < 12 → Runs (n + 1) (both (one LeftBrace) (both a (one RightBrace))) ts o → (Fails o → ⊥) → Runs n (region a) ts o
in_braces {n} {a} {ts} {o} low (run_both {us = us} d k) done =
    elim (of_run_one d) [
      | inl (vs, e, is) ↦ let same_rest : us ≡ vs = cc in
          let inside : Runs (n + 1) (both a (one RightBrace)) vs o = subst (λ z. Runs (n + 1) (both a (one RightBrace)) z o) same_rest k in
          subst (λ z. Runs n (region a) z o) (sym e) (run_region low inside)
      | inr is ↦ absurd (never us ts is)
    ]
  where
    never : (us ts : List Terminal) → Done us ≡ Stop ts → ⊥
    never us ts is = cc
in_braces low (run_both_fails d failed) done = absurd (done failed)

-- at each choice the next token decides as the tree did
pub tree_runs : {ts : List Terminal} {n : ℕ} {r : Pattern} {at next : ℕ} {xs : Forest} → Derives ts n r at xs next
    → (ss : List Pattern) → Fits (r ∷ ss) → Accepts ss (drop next ts) → Runs n r (drop at ts) (Done (drop next ts))
tree_runs derive_nothing ss fits a = run_nothing
tree_runs {ts} {n} (derive_one {at = at} {next = next} {c = c} h e) ss fits a =
    let P : List Terminal → Type 0 = λ z. Runs n (one c) z (Done (drop next ts)) in
    let Q : ℕ → Type 0 = λ z. Runs n (one c) (c ∷ drop (suc at) ts) (Done (drop z ts)) in
    subst P (sym (token_here ts at c h)) (subst Q (sym (e ∙ add-one at)) run_one)
tree_runs (derive_line {f = f} d) ss fits a = run_line (tree_runs d ss (fits_line f ss fits) a)
tree_runs (derive_both {b = b} d k e) ss fits a =
    run_both (tree_runs d (b ∷ ss) (fits.0.0, (fits.0.1, fits.1)) (derives_accepts k ss a)) (tree_runs k ss (fits.0.1, fits.1) a)
tree_runs (derive_left {a = p} d) ss fits a = run_left (starts_by p ss _ fits.0.0 (derives_accepts d ss a)) (tree_runs d ss (fits.0.2, fits.1) a)
tree_runs (derive_right {a = p} {b = q} d) ss fits a = run_right (starts_not p (q ∷ ss) _ fits.0.1 (derives_accepts d ss a)) (tree_runs d ss (fits.0.3, fits.1) a)
tree_runs (derive_again {a = p} d k e) ss fits a =
    let behind = derives_accepts k ss a in
    run_again (starts_by p (many p ∷ ss) _ fits.0.0 (derives_accepts d (many p ∷ ss) behind)) (tree_runs d (many p ∷ ss) (fits.0.2, fits) behind) (tree_runs k ss fits a)
tree_runs (derive_enough {a = p}) ss fits a = run_enough (starts_not p ss _ fits.0.1 a)
tree_runs (derive_region {a = p} low d) ss fits a =
    let deeper = fits_deep p ss fits in in_braces low (tree_runs d ss ((tt, (deeper.0, tt)), deeper.1.1) a) (λ failed. failed)

-- the tokens of a tree are within the limit on open regions
pub tree_shallow : (ts : List Terminal) (xs : Forest) → IsTreeOf ts xs → IsShallow ts
tree_shallow ts xs d =
    let done : Accepts [] (drop (length ts) ts) = subst (λ (z : List Terminal). Accepts [] z) (sym (drop-length ts)) ends in
    let run : Runs 0 (line Whole) ts (Done (drop (length ts) ts)) = tree_runs d [] fits_whole done in
    let read = top ts (Done (drop (length ts) ts)) (of_run_line run) in
    let whole : ts ≡ read.0 = read.1 ∙ ap (λ z. read.0 ++ z) (drop-length ts) ∙ append-nil read.0 in
    subst IsShallow (sym whole) read.2
