-- A text has at most one syntax, at most one syntax error, and not both.
use Rattle.std.proofs.Common.{◌≡◌, ℕ, List, length, map, refl, ap, ◌∙◌, sym, subst}
use Rattle.mlir_ir.specs.Terminals.{terminal_of}
use Rattle.mlir_ir.specs.Texts.{IsNotHere, IsOtherFault, IsTooDeep}
use Rattle.mlir_ir.specs.Trees.{IsTreeOf, put, none}
use Rattle.mlir_ir.specs.Syntaxes.{StandsFor, IsSyntaxOf, place_of}
use Rattle.mlir_ir.specs.declared.token.Token.{Token}
use Rattle.mlir_ir.specs.declared.syntax.Syntax.{Syntax}
use Rattle.mlir_ir.specs.declared.terminal.Terminal.{Terminal}
use Rattle.mlir_ir.proofs.TokenLaws.{at_most_one, not_both}
use Rattle.mlir_parse.specs.Refused.{IsFaultAt, IsRefused}
use Rattle.mlir_parse.specs.declared.parser.ParseFault.{ParseFault}
use Rattle.mlir_parse.specs.declared.parser.ParseFault.TheVariants as faults
use Rattle.mlir_parse.proofs.Unique.{one_tree}
use Rattle.mlir_lex.proofs.Lexed.{one_lex}
use Rattle.mlir_parse.proofs.Faults.{one_other, one_not_here, one_depth, here_or_other, here_or_depth, other_or_depth, tree_goes_on, tree_not_deep}

-- syntaxes of the same tokens have the same tree
pub one_standing : (tokens : List Token) (s t : Syntax) → StandsFor s tokens → StandsFor t tokens → (s.tokens ≡ t.tokens) × (put s.root none ≡ put t.root none)
one_standing tokens s t a b = (a.same ∙ sym b.same, one_tree (map terminal_of tokens) (put s.root none) (put t.root none) a.tree b.tree)

-- syntaxes of the same text have the same tokens, length and tree
pub one_syntax : (text : List ℕ) (s t : Syntax) → IsSyntaxOf text s → IsSyntaxOf text t
    → (s.tokens ≡ t.tokens) × (s.length ≡ t.length) × (put s.root none ≡ put t.root none)
one_syntax text s t a b =
    let same : s.tokens ≡ t.tokens = at_most_one text s.tokens t.tokens a.lexed b.lexed in
    let other : IsTreeOf (map terminal_of s.tokens) (put t.root none) =
    subst (λ (ts : List Token). IsTreeOf (map terminal_of ts) (put t.root none)) (sym same) b.stands.tree in
    (same, a.length_is ∙ sym b.length_is, one_tree (map terminal_of s.tokens) (put s.root none) (put t.root none) a.stands.tree other)

-- the syntax error of one token list of a text is that of any other
on_tokens : (IsFault : List Terminal → ℕ → Type 0) (text : List ℕ) (tokens : List Token) (byte : ℕ) (at : IsFaultAt IsFault text byte) → at.tokens ≡ tokens
    → IsFault (map terminal_of tokens) at.token × (byte ≡ place_of tokens (length text) at.token)
on_tokens IsFault text tokens byte at same = (
  subst (λ (ts : List Token). IsFault (map terminal_of ts) at.token) same at.fault,
  at.here ∙ ap (λ (ts : List Token). place_of ts (length text) at.token) same,
)

same_byte : (IsFault : List Terminal → ℕ → Type 0) → ((ts : List Terminal) (j k : ℕ) → IsFault ts j → IsFault ts k → j ≡ k)
    → (text : List ℕ) (a b : ℕ) → IsFaultAt IsFault text a → IsFaultAt IsFault text b → a ≡ b
same_byte IsFault once text a b first second =
    let there = on_tokens IsFault text first.tokens b second (at_most_one text second.tokens first.tokens second.lexed first.lexed) in
    let same_token : first.token ≡ second.token = once (map terminal_of first.tokens) first.token second.token first.fault there.0 in
    first.here ∙ ap (λ k. place_of first.tokens (length text) k) same_token ∙ sym there.1

never_both : (IsFault IsOther : List Terminal → ℕ → Type 0) → ((ts : List Terminal) (j k : ℕ) → IsFault ts j → IsOther ts k → ⊥)
    → (text : List ℕ) (a b : ℕ) → IsFaultAt IsFault text a → IsFaultAt IsOther text b → ⊥
never_both IsFault IsOther apart text a b first second =
    let there = on_tokens IsOther text first.tokens b second (at_most_one text second.tokens first.tokens second.lexed first.lexed) in
    apart (map terminal_of first.tokens) first.token second.token first.fault there.0

not_lex : (IsFault : List Terminal → ℕ → Type 0) (text : List ℕ) (a b : ℕ) → IsRefused text (faults.Lex a) → IsFaultAt IsFault text b → ⊥
not_lex IsFault text a b first second = not_both text second.tokens a second.lexed first

-- syntax errors of the same text are equal
pub one_fault : (text : List ℕ) (e f : ParseFault) → IsRefused text e → IsRefused text f → (e ≡ faults.NoMemory → ⊥) → (f ≡ faults.NoMemory → ⊥) → e ≡ f
one_fault text faults.NoMemory f h k p q = absurd (p refl)
one_fault text (faults.Lex a) faults.NoMemory h k p q = absurd (q refl)
one_fault text (faults.Lex a) (faults.Lex b) h k p q = ap faults.Lex (one_lex text a b h k)
one_fault text (faults.Lex a) (faults.Syntax b) h k p q = absurd (not_lex IsOtherFault text a b h k)
one_fault text (faults.Lex a) (faults.NotHere b) h k p q = absurd (not_lex IsNotHere text a b h k)
one_fault text (faults.Lex a) (faults.TooDeep b) h k p q = absurd (not_lex IsTooDeep text a b h k)
one_fault text (faults.Syntax a) faults.NoMemory h k p q = absurd (q refl)
one_fault text (faults.Syntax a) (faults.Lex b) h k p q = absurd (not_lex IsOtherFault text b a k h)
one_fault text (faults.Syntax a) (faults.Syntax b) h k p q = ap faults.Syntax (same_byte IsOtherFault one_other text a b h k)
one_fault text (faults.Syntax a) (faults.NotHere b) h k p q = absurd (never_both IsNotHere IsOtherFault here_or_other text b a k h)
one_fault text (faults.Syntax a) (faults.TooDeep b) h k p q = absurd (never_both IsOtherFault IsTooDeep other_or_depth text a b h k)
one_fault text (faults.NotHere a) faults.NoMemory h k p q = absurd (q refl)
one_fault text (faults.NotHere a) (faults.Lex b) h k p q = absurd (not_lex IsNotHere text b a k h)
one_fault text (faults.NotHere a) (faults.Syntax b) h k p q = absurd (never_both IsNotHere IsOtherFault here_or_other text a b h k)
one_fault text (faults.NotHere a) (faults.NotHere b) h k p q = ap faults.NotHere (same_byte IsNotHere one_not_here text a b h k)
one_fault text (faults.NotHere a) (faults.TooDeep b) h k p q = absurd (never_both IsNotHere IsTooDeep here_or_depth text a b h k)
one_fault text (faults.TooDeep a) faults.NoMemory h k p q = absurd (q refl)
one_fault text (faults.TooDeep a) (faults.Lex b) h k p q = absurd (not_lex IsTooDeep text b a k h)
one_fault text (faults.TooDeep a) (faults.Syntax b) h k p q = absurd (never_both IsOtherFault IsTooDeep other_or_depth text b a k h)
one_fault text (faults.TooDeep a) (faults.NotHere b) h k p q = absurd (never_both IsNotHere IsTooDeep here_or_depth text b a k h)
one_fault text (faults.TooDeep a) (faults.TooDeep b) h k p q = ap faults.TooDeep (same_byte IsTooDeep one_depth text a b h k)

-- tokens with a tree have no syntax error
fault_of_syntax : (IsFault : List Terminal → ℕ → Type 0) (text : List ℕ) (s : Syntax) (byte : ℕ)
    → ((k : ℕ) → IsFault (map terminal_of s.tokens) k → ⊥) → IsSyntaxOf text s → IsFaultAt IsFault text byte → ⊥
fault_of_syntax IsFault text s byte never of_text at =
    never at.token (on_tokens IsFault text s.tokens byte at (at_most_one text at.tokens s.tokens at.lexed of_text.lexed)).0

-- a text with a syntax has no syntax error
pub no_fault : (text : List ℕ) (s : Syntax) (e : ParseFault) → IsSyntaxOf text s → IsRefused text e → e ≡ faults.NoMemory
no_fault text s faults.NoMemory h k = refl
no_fault text s (faults.Lex a) h k = absurd (not_both text s.tokens a h.lexed k)
no_fault text s (faults.Syntax a) h k =
    absurd (fault_of_syntax IsOtherFault text s a (λ j f. tree_goes_on (map terminal_of s.tokens) (put s.root none) j h.stands.tree f.fault) h k)
no_fault text s (faults.NotHere a) h k =
    absurd (fault_of_syntax IsNotHere text s a (λ j f. tree_goes_on (map terminal_of s.tokens) (put s.root none) j h.stands.tree f.fault) h k)
no_fault text s (faults.TooDeep a) h k =
    absurd (fault_of_syntax IsTooDeep text s a (λ j f. tree_not_deep (map terminal_of s.tokens) (put s.root none) j h.stands.tree f) h k)
