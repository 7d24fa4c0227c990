-- What derivations give of phrases: which tokens and lines stand in a part of the text.
use Rattle.std.proofs.Common.{◌≡◌, ℕ, zero, suc, ◌+◌, ◌<◌, ◌&&◌, not, Bool, true, false, List, [], ◌∷◌, map, slice_get, refl, ap, ◌∙◌, sym, subst, Option, None, Some, if◌then◌else◌}
use Rattle.std.specs.Prelude.{slice_index_or}
use Rattle.mlir_ir.specs.Grammar.{Pattern, nothing, one, line, both, either, many, region, body}
use Rattle.mlir_ir.specs.GrammarNumbers.{form_at, same_form}
use Rattle.mlir_ir.specs.Limits.{region_limit}
use Rattle.mlir_ir.specs.Names.{is_name}
use Rattle.mlir_ir.specs.Phrases as phrases
use Rattle.mlir_ir.specs.Phrases.{Phrase, with_token, phrase_of}
use Rattle.mlir_ir.specs.Resolved.{bin_named, cast_named}
use Rattle.mlir_ir.specs.Rules.{is_short, may_wrap, may_lose}
use Rattle.mlir_ir.specs.Source.{unsigned}
use Rattle.mlir_ir.specs.Terminals.{terminal_of}
use Rattle.mlir_ir.specs.Trees as trees
use Rattle.mlir_ir.specs.Trees.{Forest, join, Derives, derive_nothing, derive_one, derive_line, derive_both, derive_left, derive_right, derive_again, derive_enough, derive_region}
use Rattle.mlir_ir.specs.declared.syntax.Form.{Form}
use Rattle.mlir_ir.specs.declared.syntax.Form.TheVariants as forms
use Rattle.mlir_ir.specs.declared.terminal.Terminal.{Terminal}
use Rattle.mlir_ir.specs.declared.terminal.Terminal.TheVariants as terminals
use Rattle.mlir_ir.specs.declared.token.Token.{Token}
use Rattle.std.proofs.lemmas.Bool.{and_parts}
use Rattle.mlir_scope.proofs.NoBreaks.{Each}
use Rattle.mlir_scope.proofs.Tests.{eq_of, not_true}

-- a name of a value or function, without its sign
abbrev pub Named : List ℕ → Type 0
Named name = (is_name name ≡ true) × (is_short name ≡ true)

-- what a terminal says of the bytes of its token
abbrev pub TokenFact : Terminal → List ℕ → Type 0
TokenFact terminals.Value text = Named (unsigned text)
TokenFact terminals.Symbol text = Named (unsigned text)
TokenFact terminals.FlaggedBinary text = may_wrap (bin_named text) ≡ true
TokenFact terminals.FlaggedCast text = may_lose (cast_named text) ≡ true
TokenFact _ text = Unit {0}

-- one phrase behind another
abbrev pub attach : Phrase → Phrase → Phrase
attach phrases.done y = y
attach (phrases.token at c text rest) y = phrases.token at c text (attach rest y)
attach (phrases.line f at parts rest) y = phrases.line f at parts (attach rest y)

-- inside n regions the pattern derives the phrase
pub data Says : ℕ → Pattern → Phrase → Type 0 where
  says_nothing : {n : ℕ} → Says n nothing phrases.done
  says_one : {n at : ℕ} {c : Terminal} {text : List ℕ} → TokenFact c text → Says n (one c) (phrases.token at c text phrases.done)
  says_line : {n at : ℕ} {f : Form} {parts : Phrase} → Says n (body f) parts → Says n (line f) (phrases.line f at parts phrases.done)
  says_both : {n : ℕ} {a b : Pattern} {x y z : Phrase} → Says n a x → Says n b y → z ≡ attach x y → Says n (both a b) z
  says_left : {n : ℕ} {a b : Pattern} {x : Phrase} → Says n a x → Says n (either a b) x
  says_right : {n : ℕ} {a b : Pattern} {x : Phrase} → Says n b x → Says n (either a b) x
  says_again : {n : ℕ} {a : Pattern} {x y z : Phrase} → Says n a x → Says n (many a) y → z ≡ attach x y → Says n (many a) z
  says_enough : {n : ℕ} {a : Pattern} → Says n (many a) phrases.done
  says_region : {n : ℕ} {a : Pattern} {x : Phrase} → n < region_limit → Says (n + 1) (both (one terminals.LeftBrace) (both a (one terminals.RightBrace))) x → Says n (region a) x

-- terminals and forms by their numbers

abbrev form_list : List Form
form_list = forms.Leaf ∷ forms.Whole ∷ forms.Func ∷ forms.Params ∷ forms.Types ∷ forms.Results ∷ forms.TypeName ∷ forms.Body ∷ forms.Ends ∷ forms.Uses ∷ forms.Use ∷ forms.Op ∷ forms.Pack ∷ forms.Kind ∷ forms.Inits ∷ forms.Region ∷ forms.Flags ∷ []

form_back : (f : Form) → slice_index_or form_list (form_at f) forms.Leaf ≡ f
form_back forms.Leaf = refl
form_back _ = refl

pub form_is : (f g : Form) → same_form f g ≡ true → f ≡ g
form_is f g h = sym (form_back f) ∙ ap (λ k. slice_index_or form_list k forms.Leaf) (eq_of (form_at f) (form_at g) h) ∙ form_back g

pub form_self : (f : Form) → same_form f f ≡ true
form_self forms.Leaf = refl
form_self _ = refl

-- the derivation of a phrase from that of its tree

abbrev lined : Pattern → Bool
lined (line f) = not (same_form f forms.Leaf)
lined (both a b) = lined a && lined b
lined (either a b) = lined a && lined b
lined (many a) = lined a
lined (region a) = lined a
lined _ = true

lined_body : (f : Form) → lined (body f) ≡ true
lined_body forms.Leaf = refl
lined_body _ = refl

phrase_join : (tokens : List Token) (xs ys : Forest) → phrase_of tokens (join xs ys) ≡ attach (phrase_of tokens xs) (phrase_of tokens ys)
phrase_join tokens trees.none ys = refl
phrase_join tokens (trees.node form at parts rest) ys = node_join (same_form form forms.Leaf) at (slice_get tokens at) form parts (phrase_of tokens rest) (phrase_of tokens ys) (phrase_of tokens (join rest ys)) (phrase_join tokens rest ys)
  where
    with_join : (at : ℕ) (t : Option Token) (x y z : Phrase) → z ≡ attach x y → with_token at t z ≡ attach (with_token at t x) y
    with_join at None x y z e = e
    with_join at (Some t) x y z e = ap (phrases.token at (terminal_of t) t.text) e

    node_join : (b : Bool) (at : ℕ) (t : Option Token) (form : Form) (parts : Forest) (x y z : Phrase) → z ≡ attach x y
        → (if b then with_token at t z else phrases.line form at (phrase_of tokens parts) z) ≡ attach (if b then with_token at t x else phrases.line form at (phrase_of tokens parts) x) y
    node_join true at t form parts x y z e = with_join at t x y z e
    node_join false at t form parts x y z e = ap (phrases.line form at (phrase_of tokens parts)) e

abbrev pub WellToken : Token → Type 0
WellToken t = TokenFact (terminal_of t) t.text

token_at : (tokens : List Token) (at : ℕ) (c : Terminal) → Each WellToken tokens → slice_get (map terminal_of tokens) at ≡ Some c
    → (t : Token) × (slice_get tokens at ≡ Some t) × (terminal_of t ≡ c) × TokenFact c t.text
token_at [] at c g e = cc
token_at (t ∷ tokens) zero c g e = let is : terminal_of t ≡ c = cc in (t, refl, is, rw is at g.0)
token_at (t ∷ tokens) (suc at) c g e = token_at tokens at c g.1 e

module _ (tokens : List Token) (g : Each WellToken tokens) where
  one_said : (n at : ℕ) (c : Terminal) (t : Token) → slice_get tokens at ≡ Some t → terminal_of t ≡ c → TokenFact c t.text → Says n (one c) (phrase_of tokens (trees.node forms.Leaf at trees.none trees.none))
  one_said n at c t e is fact =
      let same : with_token at (slice_get tokens at) phrases.done ≡ phrases.token at c t.text phrases.done = ap (λ o. with_token at o phrases.done) e ∙ ap (λ d. phrases.token at d t.text phrases.done) is in
      subst (Says n (one c)) (sym same) (says_one fact)

  line_said : (n at : ℕ) (f : Form) (parts : Forest) → lined (line f) ≡ true → Says n (body f) (phrase_of tokens parts) → Says n (line f) (phrase_of tokens (trees.node f at parts trees.none))
  line_said n at f parts l h =
      let no : same_form f forms.Leaf ≡ false = not_true (same_form f forms.Leaf) l in
      rw no (says_line h)

  pub said : (n at next : ℕ) (p : Pattern) (xs : Forest) → Derives (map terminal_of tokens) n p at xs next → lined p ≡ true → Says n p (phrase_of tokens xs)
  said n at next p xs derive_nothing l = says_nothing
  said n at next p xs (derive_one {c = c} e i) l =
      let t = token_at tokens at c g e in
      one_said n at c t.0 t.1 t.2 t.3
  said n at next p xs (derive_line {f = f} {parts = parts} h) l = line_said n at f parts l (said n at next (body f) parts h (lined_body f))
  said n at next p xs (derive_both {mid = mid} {a = a} {b = b} {xs = x} {ys = y} h k e) l =
      let w = and_parts (lined a) (lined b) l in
      says_both (said n at mid a x h w.0) (said n mid next b y k w.1) (ap (phrase_of tokens) e ∙ phrase_join tokens x y)
  said n at next p xs (derive_left {a = a} {b = b} h) l = says_left (said n at next a xs h (and_parts (lined a) (lined b) l).0)
  said n at next p xs (derive_right {a = a} {b = b} h) l = says_right (said n at next b xs h (and_parts (lined a) (lined b) l).1)
  said n at next p xs (derive_again {mid = mid} {a = a} {xs = x} {ys = y} h k e) l =
      says_again (said n at mid a x h l) (said n mid next (many a) y k l) (ap (phrase_of tokens) e ∙ phrase_join tokens x y)
  said n at next p xs derive_enough l = says_enough
  said n at next p xs (derive_region {a = a} less h) l = says_region less (said (n + 1) at next _ xs h (both_true (lined a) l))
    where
      both_true : (b : Bool) → b ≡ true → (true && (b && true)) ≡ true
      both_true true h = refl
      both_true false h = h
