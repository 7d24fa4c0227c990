-- The syntaxes of a canonical text are the canonical ones, and it has no fault.
use Rattle.std.proofs.Common.{◌≡◌, ◌↔◌, ℕ, List, map, refl, sym, subst}
use Rattle.mlir_ir.specs.Tokens.{AreTokens}
use Rattle.mlir_ir.specs.Terminals.{terminal_of}
use Rattle.mlir_ir.specs.Texts.{IsNotHere, IsOtherFault, IsTooDeep}
use Rattle.mlir_ir.specs.Trees.{Forest, IsTreeOf, put, none}
use Rattle.mlir_ir.specs.Syntaxes.{IsSyntaxOf}
use Rattle.mlir_ir.specs.Canonical.{module_text}
use Rattle.mlir_ir.specs.declared.types.Func.{Func}
use Rattle.mlir_ir.specs.declared.token.Token.{Token}
use Rattle.mlir_ir.specs.declared.syntax.Syntax.{Syntax}
use Rattle.mlir_ir.specs.declared.terminal.Terminal.{Terminal}
use Rattle.mlir_ir.proofs.TokenLaws.{at_most_one, not_both}
use Rattle.mlir_parse.specs.Refused.{IsFaultAt, IsRefused}
use Rattle.mlir_parse.specs.declared.parser.ParseFault.{ParseFault}
use Rattle.mlir_parse.specs.declared.parser.ParseFault.TheVariants as faults
use Rattle.mlir_parse.proofs.Unique.{one_tree}
use Rattle.mlir_parse.proofs.Faults.{tree_goes_on, tree_not_deep}
use Rattle.round_trip.specs.Pieces.{placed, trees}
use Rattle.round_trip.specs.CanonicalPieces.{module_piece}
use Rattle.round_trip.specs.CanonicalSyntaxes.{IsCanonicalSyntax}
use Rattle.round_trip.specs.Sound.{SoundModule}
use Rattle.round_trip.proofs.CanonicalTokens.{module_tokens}
use Rattle.round_trip.proofs.CanonicalTrees.{module_tree}

-- the syntax of a text with these tokens and this tree
pub only_syntax : (fs : List Func) (s : Syntax) → SoundModule fs → IsSyntaxOf (module_text fs) s → IsCanonicalSyntax fs s
only_syntax fs s sound is =
    let tokens = placed 0 (module_piece fs) in
    let same : s.tokens ≡ tokens = at_most_one (module_text fs) s.tokens tokens is.lexed (module_tokens fs sound) in
    let other : IsTreeOf (map terminal_of tokens) (put s.root none) = subst (λ (ts : List Token). IsTreeOf (map terminal_of ts) (put s.root none)) same is.stands.tree in
    record {
      tokens = same;
      length_is = is.length_is;
      tree = one_tree (map terminal_of tokens) (put s.root none) (trees 0 (module_piece fs)) other (module_tree fs sound);
    }

pub is_syntax : (fs : List Func) (s : Syntax) → SoundModule fs → IsCanonicalSyntax fs s → IsSyntaxOf (module_text fs) s
is_syntax fs s sound is =
    let tokens = placed 0 (module_piece fs) in
    let lexed : AreTokens (module_text fs) s.tokens = subst (λ (ts : List Token). AreTokens (module_text fs) ts) (sym is.tokens) (module_tokens fs sound) in
    let tree : IsTreeOf (map terminal_of tokens) (put s.root none) = subst (λ (xs : Forest). IsTreeOf (map terminal_of tokens) xs) (sym is.tree) (module_tree fs sound) in
    record {
      lexed = lexed;
      length_is = is.length_is;
      stands = record {
        same = refl;
        text = module_text fs;
        length_is = is.length_is;
        lexed = lexed;
        tree = subst (λ (ts : List Token). IsTreeOf (map terminal_of ts) (put s.root none)) (sym is.tokens) tree;
      };
    }

pub canonical_syntax : (fs : List Func) (s : Syntax) → SoundModule fs → IsSyntaxOf (module_text fs) s ↔ IsCanonicalSyntax fs s
canonical_syntax fs s sound = (only_syntax fs s sound, is_syntax fs s sound)

never_fault : (IsFault : List Terminal → ℕ → Type 0) (text : List ℕ) (tokens : List Token) (byte : ℕ)
    → ((k : ℕ) → IsFault (map terminal_of tokens) k → ⊥) → AreTokens text tokens → IsFaultAt IsFault text byte → ⊥
never_fault IsFault text tokens byte never lexed at =
    never at.token (subst (λ (ts : List Token). IsFault (map terminal_of ts) at.token) (at_most_one text at.tokens tokens at.lexed lexed) at.fault)

no_fault : (text : List ℕ) (tokens : List Token) (tree : Forest) (e : ParseFault) → AreTokens text tokens → IsTreeOf (map terminal_of tokens) tree → IsRefused text e → e ≡ faults.NoMemory
no_fault text tokens tree faults.NoMemory h d k = refl
no_fault text tokens tree (faults.Lex a) h d k = absurd (not_both text tokens a h k)
no_fault text tokens tree (faults.Syntax a) h d k = absurd (never_fault IsOtherFault text tokens a (λ j f. tree_goes_on (map terminal_of tokens) tree j d f.fault) h k)
no_fault text tokens tree (faults.NotHere a) h d k = absurd (never_fault IsNotHere text tokens a (λ j f. tree_goes_on (map terminal_of tokens) tree j d f.fault) h k)
no_fault text tokens tree (faults.TooDeep a) h d k = absurd (never_fault IsTooDeep text tokens a (λ j f. tree_not_deep (map terminal_of tokens) tree j d f) h k)

pub canonical_no_fault : (fs : List Func) (e : ParseFault) → SoundModule fs → IsRefused (module_text fs) e → e ≡ faults.NoMemory
canonical_no_fault fs e sound k = no_fault (module_text fs) (placed 0 (module_piece fs)) (trees 0 (module_piece fs)) e (module_tokens fs sound) (module_tree fs sound) k
