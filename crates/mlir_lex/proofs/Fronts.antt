-- The longest token that bytes begin with, by the first byte.
use Rattle.std.proofs.Common.{suc, zero, ◌≡◌, ℕ, ◌+◌, ◌<◌, ◌≤◌, true, false, ◌==◌, List, [], ◌∷◌, length, take, refl, arith, sym, subst}
use Rattle.std.proofs.lemmas.Bool.{eqb-true, false_from_ne_true, both_ways}
use Rattle.mlir_ir.specs.Names.{is_digit, is_name}
use Rattle.mlir_ir.specs.Tokens.{begins_word, is_decimal, is_mark_byte, is_token, begins, IsFront, NoneBegins}
use Rattle.mlir_ir.specs.declared.token.TokenKind.{TokenKind}
use Rattle.mlir_ir.specs.declared.token.TokenKind.TheVariants.{Word, Value, Symbol, Caret, Pick, Number, Mark}
use Rattle.mlir_lex.specs.Longest.{IsLongest}
use Rattle.mlir_ir.proofs.TokenKinds.{one_kind, token_begins, no_token}
use Rattle.mlir_lex.proofs.Lengths.{led_of}

-- bytes that begin a token of one kind begin none of another kind
other_kind : (kind other : TokenKind) (b : ℕ) (bs : List ℕ) (len : ℕ) → begins kind b ≡ true → (kind ≡ other → is_token other (take len (b ∷ bs)) ≡ false)
    → is_token other (take len (b ∷ bs)) ≡ false
other_kind kind other b bs zero first same = no_token other
other_kind kind other b bs (suc len) first same =
    false_from_ne_true (is_token other (b ∷ take len bs))
    (λ is. both_ways (is_token other (b ∷ take len bs)) (same (one_kind kind other b first (token_begins other b (take len bs) is))) is)

-- the longest token of the kind that the first byte determines is the longest token
pub front_of : (kind : TokenKind) (b : ℕ) (bs : List ℕ) (len : ℕ)
    → begins kind b ≡ true → IsLongest (is_token kind) (b ∷ bs) len → 0 < len → IsFront (b ∷ bs) kind len
front_of kind b bs len first run some = record {
  within = run.within;
  whole = run.whole some;
  longest = λ other more beyond within.
      other_kind kind other b bs more first
      (λ same. subst (λ k. is_token k (take more (b ∷ bs)) ≡ false) same (run.longest more beyond within));
}

-- bytes without a token of the kind that the first byte determines begin with no token
pub none_of : (kind : TokenKind) (b : ℕ) (bs : List ℕ) → begins kind b ≡ true → IsLongest (is_token kind) (b ∷ bs) 0 → NoneBegins (b ∷ bs)
none_of kind b bs first run = λ other len within.
    other_kind kind other b bs len first
    (λ same. subst (λ k. is_token k (take len (b ∷ bs)) ≡ false) same (shorter len within))
  where
    shorter : (len : ℕ) → len ≤ length (b ∷ bs) → is_token kind (take len (b ∷ bs)) ≡ false
    shorter zero within = no_token kind
    shorter (suc len) within = run.longest (suc len) (omega arith) within

-- bytes whose first byte begins tokens of no kind begin with no token
pub none_begins : (b : ℕ) (bs : List ℕ) → ((kind : TokenKind) → begins kind b ≡ false) → NoneBegins (b ∷ bs)
none_begins b bs no_kind kind zero within = no_token kind
none_begins b bs no_kind kind (suc len) within =
    false_from_ne_true (is_token kind (b ∷ take len bs))
    (λ is. both_ways (begins kind b) (no_kind kind) (token_begins kind b (take len bs) is))

pub none_at_end : NoneBegins []
none_at_end kind zero within = no_token kind
none_at_end kind (suc len) within = no_token kind

-- a byte that fails the test of each kind begins tokens of no kind
pub of_no_kind : (b : ℕ) → begins_word b ≡ false → (b == 37) ≡ false → (b == 64) ≡ false → (b == 94) ≡ false → (b == 35) ≡ false
    → is_digit b ≡ false → is_mark_byte b ≡ false → (kind : TokenKind) → begins kind b ≡ false
of_no_kind b word value symbol caret pick digit mark Word = word
of_no_kind b word value symbol caret pick digit mark Value = value
of_no_kind b word value symbol caret pick digit mark Symbol = symbol
of_no_kind b word value symbol caret pick digit mark Caret = caret
of_no_kind b word value symbol caret pick digit mark Pick = pick
of_no_kind b word value symbol caret pick digit mark Number = digit
of_no_kind b word value symbol caret pick digit mark Mark = mark

-- a value is `%` and a name
pub value_of : (kind : TokenKind) (b : ℕ) (bs : List ℕ) (n m : ℕ)
    → kind ≡ Value → begins kind b ≡ true → IsLongest is_name bs n → (n ≡ 0 → m ≡ 0) → (0 < n → m ≡ 1 + n) → IsLongest (is_token kind) (b ∷ bs) m
value_of kind b bs n m is first run none more =
    let lead : (b == 37) ≡ true = subst (λ k. begins k b ≡ true) is first in
    subst (λ k. IsLongest (is_token k) (b ∷ bs) m) (sym is) (led_of 37 is_name b bs n m (eqb-true b 37 lead) refl run none more)

-- a symbol is `@` and a name
pub symbol_of : (kind : TokenKind) (b : ℕ) (bs : List ℕ) (n m : ℕ)
    → kind ≡ Symbol → begins kind b ≡ true → IsLongest is_name bs n → (n ≡ 0 → m ≡ 0) → (0 < n → m ≡ 1 + n) → IsLongest (is_token kind) (b ∷ bs) m
symbol_of kind b bs n m is first run none more =
    let lead : (b == 64) ≡ true = subst (λ k. begins k b ≡ true) is first in
    subst (λ k. IsLongest (is_token k) (b ∷ bs) m) (sym is) (led_of 64 is_name b bs n m (eqb-true b 64 lead) refl run none more)

-- a caret is `^` and a name
pub caret_of : (kind : TokenKind) (b : ℕ) (bs : List ℕ) (n m : ℕ)
    → kind ≡ Caret → begins kind b ≡ true → IsLongest is_name bs n → (n ≡ 0 → m ≡ 0) → (0 < n → m ≡ 1 + n) → IsLongest (is_token kind) (b ∷ bs) m
caret_of kind b bs n m is first run none more =
    let lead : (b == 94) ≡ true = subst (λ k. begins k b ≡ true) is first in
    subst (λ k. IsLongest (is_token k) (b ∷ bs) m) (sym is) (led_of 94 is_name b bs n m (eqb-true b 94 lead) refl run none more)

-- a pick is `#` and digits
pub pick_of : (kind : TokenKind) (b : ℕ) (bs : List ℕ) (n m : ℕ)
    → kind ≡ Pick → begins kind b ≡ true → IsLongest is_decimal bs n → (n ≡ 0 → m ≡ 0) → (0 < n → m ≡ 1 + n) → IsLongest (is_token kind) (b ∷ bs) m
pick_of kind b bs n m is first run none more =
    let lead : (b == 35) ≡ true = subst (λ k. begins k b ≡ true) is first in
    subst (λ k. IsLongest (is_token k) (b ∷ bs) m) (sym is) (led_of 35 is_decimal b bs n m (eqb-true b 35 lead) refl run none more)

-- the lemmas above for bytes that are given as a first byte and the rest
pub front_at : (whole : List ℕ) (kind : TokenKind) (b : ℕ) (bs : List ℕ) (len : ℕ)
    → whole ≡ b ∷ bs → begins kind b ≡ true → IsLongest (is_token kind) (b ∷ bs) len → 0 < len → IsFront whole kind len
front_at whole kind b bs len parts first run some = subst (λ (w : List ℕ). IsFront w kind len) (sym parts) (front_of kind b bs len first run some)

pub none_at : (whole : List ℕ) (kind : TokenKind) (b : ℕ) (bs : List ℕ) (len : ℕ)
    → whole ≡ b ∷ bs → begins kind b ≡ true → IsLongest (is_token kind) (b ∷ bs) len → len ≡ 0 → NoneBegins whole
none_at whole kind b bs len parts first run none =
    subst (λ (w : List ℕ). NoneBegins w) (sym parts) (none_of kind b bs first (subst (λ n. IsLongest (is_token kind) (b ∷ bs) n) none run))

pub none_begins_at : (whole : List ℕ) (b : ℕ) (bs : List ℕ) → whole ≡ b ∷ bs → ((kind : TokenKind) → begins kind b ≡ false) → NoneBegins whole
none_begins_at whole b bs parts no_kind = subst (λ (w : List ℕ). NoneBegins w) (sym parts) (none_begins b bs no_kind)
