-- The token sequences of modules, as lists of terminals, and the syntax errors of other lists.
use Rattle.std.specs.Prelude.{ℕ, ◌≡◌, ◌+◌, ◌-◌, ◌<◌, ◌≤◌, Bool, true, false, List, [], ◌∷◌, ◌++◌, length, take, slice_get, Some, if◌then◌else◌}
use Rattle.mlir_ir.specs.Grammar.{Pattern, nothing, one, line, both, either, many, region, body}
use Rattle.mlir_ir.specs.Limits.{region_limit}
use Rattle.mlir_ir.specs.declared.terminal.Terminal.{Terminal}
use Rattle.mlir_ir.specs.declared.terminal.Terminal.TheVariants.{Module, Function, Private, TypeWord, Return, Constant, Truth, Binary, FlaggedBinary, Cast, FlaggedCast, Compare, Predicate, Select, Call, If, Else, For, To, Step, IterArgs, While, Condition, Do, Yield, Overflow, Nsw, Nuw, OtherWord, LeftBrace, RightBrace}
use Rattle.mlir_ir.specs.declared.syntax.Form.{Form}
use Rattle.mlir_ir.specs.declared.syntax.Form.TheVariants.{Whole}

-- the list matches the first pattern, then the second, and so on to the last
pub data Accepts : List Pattern → List Terminal → Type 0 where
  ends : Accepts [] []
  no_more : {ss : List Pattern} {ts : List Terminal} → Accepts ss ts → Accepts (nothing ∷ ss) ts
  token : {c : Terminal} {ss : List Pattern} {ts : List Terminal} → Accepts ss ts → Accepts (one c ∷ ss) (c ∷ ts)
  by_line : {f : Form} {ss : List Pattern} {ts : List Terminal} → Accepts (body f ∷ ss) ts → Accepts (line f ∷ ss) ts
  in_turn : {a b : Pattern} {ss : List Pattern} {ts : List Terminal} → Accepts (a ∷ b ∷ ss) ts → Accepts (both a b ∷ ss) ts
  left : {a b : Pattern} {ss : List Pattern} {ts : List Terminal} → Accepts (a ∷ ss) ts → Accepts (either a b ∷ ss) ts
  right : {a b : Pattern} {ss : List Pattern} {ts : List Terminal} → Accepts (b ∷ ss) ts → Accepts (either a b ∷ ss) ts
  again : {a : Pattern} {ss : List Pattern} {ts : List Terminal} → Accepts (a ∷ many a ∷ ss) ts → Accepts (many a ∷ ss) ts
  enough : {a : Pattern} {ss : List Pattern} {ts : List Terminal} → Accepts ss ts → Accepts (many a ∷ ss) ts
  in_region : {a : Pattern} {ss : List Pattern} {ts : List Terminal} → Accepts (one LeftBrace ∷ a ∷ one RightBrace ∷ ss) ts → Accepts (region a ∷ ss) ts

-- the list is the token sequence of a module
abbrev pub IsText : List Terminal → Type 0
IsText ts = Accepts (line Whole ∷ []) ts

-- the list is a prefix of a module's token sequence
abbrev pub BeginsText : List Terminal → Type 0
BeginsText ts = (more : List Terminal) × IsText (ts ++ more)

abbrev pub opens : Terminal → Bool
opens LeftBrace = true
opens _ = false

abbrev pub closes : Terminal → Bool
closes RightBrace = true
closes _ = false

abbrev pub is_module : Terminal → Bool
is_module Module = true
is_module _ = false

-- the number of open braces after a token, from the number before it
abbrev pub step : ℕ → Terminal → ℕ
step n t = if opens t then n + 1 else (if closes t then n - 1 else n)

-- the number of open braces after the tokens, from the number before them
abbrev pub opened : ℕ → List Terminal → ℕ
opened n [] = n
opened n (t ∷ ts) = opened (step n t) ts

-- the number of open regions after the tokens; the braces of `module` are no region
abbrev pub regions : List Terminal → ℕ
regions [] = 0
regions (t ∷ ts) = if is_module t then opened 0 ts - 1 else opened 0 (t ∷ ts)

-- no prefix has more open regions than the limit
abbrev pub IsShallow : List Terminal → Type 0
IsShallow ts = (k : ℕ) → regions (take k ts) ≤ region_limit

-- the index of the first token with which the tokens are no prefix of a module's token sequence, or the number of tokens where they are a proper prefix of one
pub record IsSyntaxFault (ts : List Terminal) (k : ℕ) : Type 0 where
  pub within : k ≤ length ts
  pub before : BeginsText (take k ts)
  pub none : k < length ts → BeginsText (take (k + 1) ts) → ⊥
  pub unfinished : k ≡ length ts → IsText ts → ⊥
  pub shallow : IsShallow (take k ts)

-- the index of the first brace that would open one region more than the limit, where a module's token sequence may have that brace
pub record IsTooDeep (ts : List Terminal) (k : ℕ) : Type 0 where
  pub brace : slice_get ts k ≡ Some LeftBrace
  pub begins : BeginsText (take (k + 1) ts)
  pub shallow : IsShallow (take k ts)
  pub full : regions (take k ts) ≡ region_limit

-- a bare word other than an operation name or a type
abbrev pub is_unnamed : Terminal → Bool
is_unnamed Private = true
is_unnamed Truth = true
is_unnamed Predicate = true
is_unnamed Else = true
is_unnamed To = true
is_unnamed Step = true
is_unnamed IterArgs = true
is_unnamed Do = true
is_unnamed Overflow = true
is_unnamed Nsw = true
is_unnamed Nuw = true
is_unnamed OtherWord = true
is_unnamed _ = false

-- operation names and types
abbrev pub names : List Terminal
names =
    Module ∷ Function ∷ TypeWord ∷ Return ∷ Constant ∷ Binary ∷ FlaggedBinary ∷ Cast ∷ FlaggedCast ∷ Compare ∷ Select ∷ Call ∷ If ∷ For ∷ While ∷ Condition ∷ Yield ∷ []

-- after these tokens an operation name or a type is accepted
abbrev pub NameCouldStand : List Terminal → Type 0
NameCouldStand ts = (i : ℕ) × (t : Terminal) × (slice_get names i ≡ Some t) × BeginsText (ts ++ t ∷ [])

-- the unexpected token is a word other than an operation name or a type, where one of these is accepted
pub record IsNotHere (ts : List Terminal) (k : ℕ) : Type 0 where
  pub fault : IsSyntaxFault ts k
  pub word : Terminal
  pub here : slice_get ts k ≡ Some word
  pub unnamed : is_unnamed word ≡ true
  pub could : NameCouldStand (take k ts)

-- a syntax error of the other kinds
pub record IsOtherFault (ts : List Terminal) (k : ℕ) : Type 0 where
  pub fault : IsSyntaxFault ts k
  pub other : IsNotHere ts k → ⊥
