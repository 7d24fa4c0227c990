-- The runs of a parser that decides by one token of lookahead.
use Rattle.std.specs.Prelude.{ℕ, ◌≡◌, ◌+◌, ◌<◌, ◌≤◌, Bool, true, false, List, [], ◌∷◌}
use Rattle.mlir_ir.specs.GrammarNumbers.{same}
use Rattle.mlir_parse.specs.Tables.{first}
use Rattle.mlir_ir.specs.Grammar.{Pattern, nothing, one, line, both, either, many, region, body}
use Rattle.mlir_ir.specs.Limits.{region_limit}
use Rattle.mlir_ir.specs.declared.terminal.Terminal.{Terminal}
use Rattle.mlir_ir.specs.declared.terminal.Terminal.TheVariants.{LeftBrace, RightBrace}
use Rattle.mlir_ir.specs.declared.syntax.Form.{Form}

-- the tokens left where a run ends: after a whole match, from an unexpected token on, or from a brace on that opens too deep a region
pub data Outcome : Type 0 where
  Done : List Terminal → Outcome
  Stop : List Terminal → Outcome
  Deep : List Terminal → Outcome

abbrev pub Fails : Outcome → Type 0
Fails (Done us) = ⊥
Fails (Stop us) = Unit {0}
Fails (Deep us) = Unit {0}

-- whether there is a next token and it may begin a match of the pattern
abbrev pub starts : Pattern → List Terminal → Bool
starts r [] = false
starts r (c ∷ ts) = first r c

-- whether the next token is this one
abbrev pub is_next : Terminal → List Terminal → Bool
is_next d [] = false
is_next d (c ∷ ts) = same d c

-- inside `n` regions, a run of the pattern on the tokens ends so
pub data Runs : ℕ → Pattern → List Terminal → Outcome → Type 0 where
  run_nothing : {n : ℕ} {ts : List Terminal} → Runs n nothing ts (Done ts)
  run_one : {n : ℕ} {c : Terminal} {ts : List Terminal} → Runs n (one c) (c ∷ ts) (Done ts)
  run_other : {n : ℕ} {c : Terminal} {ts : List Terminal} → is_next c ts ≡ false → Runs n (one c) ts (Stop ts)
  run_line : {n : ℕ} {f : Form} {ts : List Terminal} {o : Outcome} → Runs n (body f) ts o → Runs n (line f) ts o
  run_both : {n : ℕ} {a b : Pattern} {ts us : List Terminal} {o : Outcome} → Runs n a ts (Done us) → Runs n b us o → Runs n (both a b) ts o
  run_both_fails : {n : ℕ} {a b : Pattern} {ts : List Terminal} {o : Outcome} → Runs n a ts o → Fails o → Runs n (both a b) ts o
  run_left : {n : ℕ} {a b : Pattern} {ts : List Terminal} {o : Outcome} → starts a ts ≡ true → Runs n a ts o → Runs n (either a b) ts o
  run_right : {n : ℕ} {a b : Pattern} {ts : List Terminal} {o : Outcome} → starts a ts ≡ false → Runs n b ts o → Runs n (either a b) ts o
  run_enough : {n : ℕ} {a : Pattern} {ts : List Terminal} → starts a ts ≡ false → Runs n (many a) ts (Done ts)
  run_again : {n : ℕ} {a : Pattern} {ts us : List Terminal} {o : Outcome} → starts a ts ≡ true → Runs n a ts (Done us) → Runs n (many a) us o → Runs n (many a) ts o
  run_again_fails : {n : ℕ} {a : Pattern} {ts : List Terminal} {o : Outcome} → starts a ts ≡ true → Runs n a ts o → Fails o → Runs n (many a) ts o
  run_no_brace : {n : ℕ} {a : Pattern} {ts : List Terminal} → is_next LeftBrace ts ≡ false → Runs n (region a) ts (Stop ts)
  run_too_deep : {n : ℕ} {a : Pattern} {ts : List Terminal} → region_limit ≤ n → Runs n (region a) (LeftBrace ∷ ts) (Deep (LeftBrace ∷ ts))
  run_region : {n : ℕ} {a : Pattern} {ts : List Terminal} {o : Outcome} → n < region_limit → Runs (n + 1) (both a (one RightBrace)) ts o → Runs n (region a) (LeftBrace ∷ ts) o
