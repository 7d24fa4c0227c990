-- The terminals of words and of marks: their numbers, and which words are `else` and `do`.
use Rattle.std.proofs.Common.{◌≡◌, ℕ, nat_le, ◌≤◌, ◌<◌, List, codes, if◌then◌else◌, Bool, true, false, not, ◌==◌, ◌&&◌, refl, ap, ◌∙◌, sym, arith}
use Rattle.std.proofs.lemmas.Bool.Decides.{nat_tests}
use Rattle.std.proofs.lemmas.Slice.Eq.{bytes_eq-Decides}
use Rattle.std.specs.Str.{bytes_eq}
use Rattle.mlir_ir.specs.GrammarNumbers.{number, same}
use Rattle.mlir_ir.specs.declared.token.TokenKind.{TokenKind}
use Rattle.mlir_ir.specs.declared.token.TokenKind.TheVariants as kinds
use Rattle.mlir_ir.specs.Terminals.{kind_terminal, mark_terminal, arith_terminal, scf_terminal, func_terminal, flag_terminal, inner_terminal, word_terminal, or_else, is_type_word, is_flagged_binary, is_binary, is_cast, is_predicate, is_return, is_call, is_truth}
use Rattle.mlir_ir.specs.declared.terminal.Terminal.{Terminal}
use Rattle.mlir_ir.specs.declared.terminal.Terminal.TheVariants as terminals
use Rattle.mlir_ir.specs.declared.terminal.Terminal.TheVariants.{OtherWord, Else, Do}

-- a terminal of a word other than `else` and `do`
abbrev is_common : Terminal → Bool
is_common c = nat_le (number c) 28 && (not (same Else c) && not (same Do c))

-- a test of terminals that each of those passes
abbrev IsPassed : (Terminal → Bool) → Type 0
IsPassed p = (c : Terminal) → is_common c ≡ true → p c ≡ true

record Passes (p : Terminal → Bool) (c : Terminal) : Type 0 where
  holds : p c ≡ true

test : (p : Terminal → Bool) (b : Bool) (x y : Terminal) → (b ≡ true → Passes p x) → Passes p y → Passes p (if b then x else y)
test p true x y h g = h refl
test p false x y h g = g

or_other : (p : Terminal → Bool) (x y : Terminal) → Passes p x → Passes p y → Passes p (or_else x y)
or_other p OtherWord y h g = g
or_other p x y h g = h

common : (p : Terminal → Bool) → IsPassed p → (c : Terminal) → is_common c ≡ true → Passes p c
common p h c is = record { holds = h c is }

arith_passes : (p : Terminal → Bool) → IsPassed p → (w : List ℕ) → Passes p (arith_terminal w)
arith_passes p h w =
    test p (is_flagged_binary w) terminals.FlaggedBinary _ (λ _. common p h terminals.FlaggedBinary refl)
    (test p (is_binary w) terminals.Binary _ (λ _. common p h terminals.Binary refl)
    (test p (bytes_eq w (codes "arith.constant")) terminals.Constant _ (λ _. common p h terminals.Constant refl)
    (test p (bytes_eq w (codes "arith.cmpi")) terminals.Compare _ (λ _. common p h terminals.Compare refl)
    (test p (bytes_eq w (codes "arith.select")) terminals.Select _ (λ _. common p h terminals.Select refl)
    (test p (bytes_eq w (codes "arith.trunci")) terminals.FlaggedCast _ (λ _. common p h terminals.FlaggedCast refl)
    (test p (is_cast w) terminals.Cast OtherWord (λ _. common p h terminals.Cast refl) (common p h OtherWord refl)))))))

scf_passes : (p : Terminal → Bool) → IsPassed p → (w : List ℕ) → Passes p (scf_terminal w)
scf_passes p h w =
    test p (bytes_eq w (codes "scf.yield")) terminals.Yield _ (λ _. common p h terminals.Yield refl)
    (test p (bytes_eq w (codes "scf.for")) terminals.For _ (λ _. common p h terminals.For refl)
    (test p (bytes_eq w (codes "scf.if")) terminals.If _ (λ _. common p h terminals.If refl)
    (test p (bytes_eq w (codes "scf.while")) terminals.While _ (λ _. common p h terminals.While refl)
    (test p (bytes_eq w (codes "scf.condition")) terminals.Condition OtherWord (λ _. common p h terminals.Condition refl) (common p h OtherWord refl)))))

func_passes : (p : Terminal → Bool) → IsPassed p → (w : List ℕ) → Passes p (func_terminal w)
func_passes p h w =
    test p (is_return w) terminals.Return _ (λ _. common p h terminals.Return refl)
    (test p (is_call w) terminals.Call _ (λ _. common p h terminals.Call refl)
    (test p (bytes_eq w (codes "func.func")) terminals.Function _ (λ _. common p h terminals.Function refl)
    (test p (bytes_eq w (codes "private")) terminals.Private _ (λ _. common p h terminals.Private refl)
    (test p (bytes_eq w (codes "module")) terminals.Module OtherWord (λ _. common p h terminals.Module refl) (common p h OtherWord refl)))))

flag_passes : (p : Terminal → Bool) → IsPassed p → (w : List ℕ) → Passes p (flag_terminal w)
flag_passes p h w =
    test p (bytes_eq w (codes "overflow")) terminals.Overflow _ (λ _. common p h terminals.Overflow refl)
    (test p (bytes_eq w (codes "nsw")) terminals.Nsw _ (λ _. common p h terminals.Nsw refl)
    (test p (bytes_eq w (codes "nuw")) terminals.Nuw _ (λ _. common p h terminals.Nuw refl)
    (test p (is_predicate w) terminals.Predicate OtherWord (λ _. common p h terminals.Predicate refl) (common p h OtherWord refl))))

inner_passes : (p : Terminal → Bool) → IsPassed p → (w : List ℕ) → (bytes_eq w (codes "else") ≡ true → p Else ≡ true) → (bytes_eq w (codes "do") ≡ true → p Do ≡ true)
    → Passes p (inner_terminal w)
inner_passes p h w at_else at_do =
    test p (bytes_eq w (codes "to")) terminals.To _ (λ _. common p h terminals.To refl)
    (test p (bytes_eq w (codes "step")) terminals.Step _ (λ _. common p h terminals.Step refl)
    (test p (bytes_eq w (codes "iter_args")) terminals.IterArgs _ (λ _. common p h terminals.IterArgs refl)
    (test p (bytes_eq w (codes "else")) Else _ (λ e. record { holds = at_else e })
    (test p (bytes_eq w (codes "do")) Do _ (λ e. record { holds = at_do e })
    (test p (is_truth w) terminals.Truth (flag_terminal w) (λ _. common p h terminals.Truth refl) (flag_passes p h w))))))

-- a test that every terminal of a word passes
word_passes : (p : Terminal → Bool) → IsPassed p → (w : List ℕ) → (bytes_eq w (codes "else") ≡ true → p Else ≡ true) → (bytes_eq w (codes "do") ≡ true → p Do ≡ true)
    → p (word_terminal w) ≡ true
word_passes p h w at_else at_do =
    let all =
    test p (is_type_word w) terminals.TypeWord (or_else (arith_terminal w) (or_else (scf_terminal w) (or_else (func_terminal w) (inner_terminal w)))) (λ _. common p h terminals.TypeWord refl)
    (or_other p (arith_terminal w) _ (arith_passes p h w) (or_other p (scf_terminal w) _ (scf_passes p h w) (or_other p (func_terminal w) (inner_terminal w) (func_passes p h w) (inner_passes p h w at_else at_do)))) in
    all.holds

first_of : (a b c : Bool) → (a && (b && c)) ≡ true → a ≡ true
first_of true b c h = refl
first_of false b c h = h

second_of : (a b c : Bool) → (a && (b && c)) ≡ true → b ≡ true
second_of true true c h = refl
second_of true false c h = h
second_of false b c h = cc

third_of : (a b c : Bool) → (a && (b && c)) ≡ true → c ≡ true
third_of true true c h = h
third_of true false c h = cc
third_of false b c h = cc

-- the terminals of words have the least numbers
pub word_is_early : (w : List ℕ) → nat_le (number (word_terminal w)) 28 ≡ true
word_is_early w = word_passes (λ c. nat_le (number c) 28) (λ c h. first_of (nat_le (number c) 28) (not (same Else c)) (not (same Do c)) h) w (λ _. refl) (λ _. refl)

fails : (b : Bool) → not b ≡ true → b ≡ false
fails true h = sym h
fails false h = refl

else_same : (b : Bool) (w : List ℕ) → b ≡ bytes_eq w (codes "else") → (b ≡ true → w ≡ codes "else") → same Else (word_terminal w) ≡ b
else_same true w e h = rw (h refl) refl
else_same false w e h = fails _ (word_passes (λ c. not (same Else c)) (λ c k. second_of (nat_le (number c) 28) (not (same Else c)) (not (same Do c)) k) w (λ k. cc) (λ _. refl))

do_same : (b : Bool) (w : List ℕ) → b ≡ bytes_eq w (codes "do") → (b ≡ true → w ≡ codes "do") → same Do (word_terminal w) ≡ b
do_same true w e h = rw (h refl) refl
do_same false w e h = fails _ (word_passes (λ c. not (same Do c)) (λ c k. third_of (nat_le (number c) 28) (not (same Else c)) (not (same Do c)) k) w (λ _. refl) (λ k. cc))

-- the word `else`, and the word `do`
pub word_is_else : (w : List ℕ) → same Else (word_terminal w) ≡ bytes_eq w (codes "else")
word_is_else w = else_same (bytes_eq w (codes "else")) w refl (λ h. grind (arith, bytes_eq-Decides w (codes "else")))

pub word_is_do : (w : List ℕ) → same Do (word_terminal w) ≡ bytes_eq w (codes "do")
word_is_do w = do_same (bytes_eq w (codes "do")) w refl (λ h. grind (arith, bytes_eq-Decides w (codes "do")))

late : (c : Terminal) → nat_le 35 (number c) ≡ true → Passes (λ d. nat_le 35 (number d)) c
late c h = record { holds = h }

-- the terminals of marks have the greatest numbers
pub mark_is_late : (w : List ℕ) → nat_le 35 (number (mark_terminal w)) ≡ true
mark_is_late w =
    let p : Terminal → Bool = λ d. nat_le 35 (number d) in
    let all =
    test p (bytes_eq w (codes "(")) terminals.LeftParen _ (λ _. late terminals.LeftParen refl)
    (test p (bytes_eq w (codes ")")) terminals.RightParen _ (λ _. late terminals.RightParen refl)
    (test p (bytes_eq w (codes "{")) terminals.LeftBrace _ (λ _. late terminals.LeftBrace refl)
    (test p (bytes_eq w (codes "}")) terminals.RightBrace _ (λ _. late terminals.RightBrace refl)
    (test p (bytes_eq w (codes ",")) terminals.Comma _ (λ _. late terminals.Comma refl)
    (test p (bytes_eq w (codes ":")) terminals.Colon _ (λ _. late terminals.Colon refl)
    (test p (bytes_eq w (codes "=")) terminals.Equals _ (λ _. late terminals.Equals refl)
    (test p (bytes_eq w (codes "->")) terminals.Arrow _ (λ _. late terminals.Arrow refl)
    (test p (bytes_eq w (codes "<")) terminals.Less _ (λ _. late terminals.Less refl)
    (test p (bytes_eq w (codes ">")) terminals.Greater terminals.Minus (λ _. late terminals.Greater refl) (late terminals.Minus refl)))))))))) in
    all.holds

-- the terminals of tokens of one kind
pub token_is_else : (k : TokenKind) (w text : List ℕ) (c : Terminal) → k ≡ kinds.Word → c ≡ Else → text ≡ w → bytes_eq text (codes "else") ≡ same c (kind_terminal k w)
token_is_else k w text c is e same_text = rw (is, e, same_text) (sym (word_is_else w))

pub token_is_do : (k : TokenKind) (w text : List ℕ) (c : Terminal) → k ≡ kinds.Word → c ≡ Do → text ≡ w → bytes_eq text (codes "do") ≡ same c (kind_terminal k w)
token_is_do k w text c is e same_text = rw (is, e, same_text) (sym (word_is_do w))

later : (n m : ℕ) → 28 < n → nat_le m 28 ≡ true → nat_le n 28 ≡ (n == m)
later n m h g = grind (arith, nat_tests)

pub token_is_early : (k : TokenKind) (w : List ℕ) (c : Terminal) (n : ℕ) → k ≡ kinds.Word → n ≡ number c → 28 < n → nat_le n 28 ≡ same c (kind_terminal k w)
token_is_early k w c n is e h = rw (is, e) (later (number c) (number (word_terminal w)) (rw (← e) h) (word_is_early w))

sooner : (n m : ℕ) → n < 35 → nat_le 35 m ≡ true → nat_le 35 n ≡ (n == m)
sooner n m h g = grind (arith, nat_tests)

pub token_is_late : (k : TokenKind) (w : List ℕ) (c : Terminal) (n : ℕ) → k ≡ kinds.Mark → n ≡ number c → n < 35 → nat_le 35 n ≡ same c (kind_terminal k w)
token_is_late k w c n is e h = rw (is, e) (sooner (number c) (number (mark_terminal w)) (rw (← e) h) (mark_is_late w))
