-- The functions of a syntax whose tree derives its tokens have the shapes of the grammar.
use Rattle.std.proofs.Common.{◌≡◌, ℕ, ◌+◌, ◌≤◌, ◌==◌, ◌&&◌, ◌||◌, ◌⊎◌, inl, inr, nat_lt, Bool, true, false, List, [], ◌∷◌, codes, length, drop, refl, ap, ◌∙◌, sym, subst, arith, if◌then◌else◌}
use Rattle.std.proofs.lemmas.Bool.Decides.{nat_tests}
use Rattle.std.proofs.lemmas.Bool.{cases_Bool}
use Rattle.std.proofs.lemmas.Slice.Eq.{bytes_eq-Decides}
use Rattle.std.specs.Str.{bytes_eq}
use Rattle.mlir_ir.specs.Grammar.{line, body}
use Rattle.mlir_ir.specs.GrammarNumbers.{same_form}
use Rattle.mlir_ir.specs.Limits.{name_limit}
use Rattle.mlir_ir.specs.Names.{is_name}
use Rattle.mlir_ir.specs.Phrases as phrases
use Rattle.mlir_ir.specs.Phrases.{Phrase, Line, lines, inside}
use Rattle.mlir_ir.specs.Reads.{phrase_in}
use Rattle.mlir_ir.specs.Resolved.{bin_named, cast_named, func_lines}
use Rattle.mlir_ir.specs.Rules.{is_short, may_wrap, may_lose}
use Rattle.mlir_ir.specs.ScopeFaults.{broken, has_value_name, long_names}
use Rattle.mlir_ir.specs.Source as source
use Rattle.mlir_ir.specs.Source.{Defined, unsigned, block, first_of, second_of, region_behind, parts_regions, names_in, types_in}
use Rattle.mlir_ir.specs.Syntaxes.{StandsFor}
use Rattle.mlir_ir.specs.Terminals.{kind_terminal, word_terminal, mark_terminal, is_flagged_binary, is_binary, is_cast, is_type_word, is_return, is_call, is_predicate, is_truth, arith_terminal, scf_terminal, func_terminal, flag_terminal, inner_terminal, or_else}
use Rattle.mlir_ir.specs.Tokens.{is_token, is_led, is_next, Lexes}
use Rattle.mlir_ir.specs.Trees as trees
use Rattle.mlir_ir.specs.Trees.{put}
use Rattle.mlir_ir.specs.declared.scope_kind.ScopeKind.TheVariants.{Limit}
use Rattle.mlir_ir.specs.declared.syntax.Form.{Form}
use Rattle.mlir_ir.specs.declared.syntax.Form.TheVariants as forms
use Rattle.mlir_ir.specs.declared.syntax.Syntax.{Syntax}
use Rattle.mlir_ir.specs.declared.terminal.Terminal.{Terminal}
use Rattle.mlir_ir.specs.declared.terminal.Terminal.TheVariants as terminals
use Rattle.mlir_ir.specs.declared.token.Token.{Token}
use Rattle.mlir_ir.specs.declared.token.TokenKind.{TokenKind}
use Rattle.mlir_ir.specs.declared.token.TokenKind.TheVariants as kinds
use Rattle.std.proofs.lemmas.Bool.{and_parts}
use Rattle.mlir_scope.proofs.NoBreaks.{Each, none_append, not_broken}
use Rattle.mlir_scope.proofs.Deriving.{TokenFact, Named, WellToken, said}
use Rattle.mlir_scope.proofs.DerivedParts.{Derived, Deep, direct, deep, deep_of, exact, has_token, inside_derived, inside_none, each_derived}
use Rattle.mlir_scope.proofs.GrammarShapes.{op_shape, named_first, Names, derived_named, each_zip, empty_lines, both_split}
use Rattle.mlir_scope.proofs.Shapes.{ShapedBlock, ShapedBodies, FuncShape}
use Rattle.mlir_scope.proofs.Tests.{or_either}

-- tokens

fact_or : (a b : Terminal) (text : List ℕ) → TokenFact a text → TokenFact b text → TokenFact (or_else a b) text
fact_or terminals.OtherWord b text h g = g
fact_or _ b text h g = h

fact_if : (c : Bool) (a b : Terminal) (text : List ℕ) → (c ≡ true → TokenFact a text) → TokenFact b text → TokenFact (if c then a else b) text
fact_if true a b text h g = h refl
fact_if false a b text h g = g

wraps_named : (text : List ℕ) (name : List ℕ) → may_wrap (bin_named name) ≡ true → bytes_eq text name ≡ true → may_wrap (bin_named text) ≡ true
wraps_named text name h e = subst (λ w. may_wrap (bin_named w) ≡ true) (sym ((bytes_eq-Decides text name).0 e)) h

wraps : (text : List ℕ) → is_flagged_binary text ≡ true → may_wrap (bin_named text) ≡ true
wraps text h =
    elim (or_either (bytes_eq text (codes "arith.addi") || bytes_eq text (codes "arith.subi") || bytes_eq text (codes "arith.muli")) (bytes_eq text (codes "arith.shli")) h) [
      | inr e ↦ wraps_named text (codes "arith.shli") refl e
      | inl h1 ↦ elim (or_either (bytes_eq text (codes "arith.addi") || bytes_eq text (codes "arith.subi")) (bytes_eq text (codes "arith.muli")) h1) [
        | inr e ↦ wraps_named text (codes "arith.muli") refl e
        | inl h2 ↦ elim (or_either (bytes_eq text (codes "arith.addi")) (bytes_eq text (codes "arith.subi")) h2) [
          | inr e ↦ wraps_named text (codes "arith.subi") refl e
          | inl e ↦ wraps_named text (codes "arith.addi") refl e
        ]
      ]
    ]

loses : (text : List ℕ) → bytes_eq text (codes "arith.trunci") ≡ true → may_lose (cast_named text) ≡ true
loses text e = subst (λ w. may_lose (cast_named w) ≡ true) (sym ((bytes_eq-Decides text (codes "arith.trunci")).0 e)) refl

arith_fact : (w : List ℕ) → TokenFact (arith_terminal w) w
arith_fact w =
    fact_if (is_flagged_binary w) _ _ w (wraps w)
    (fact_if (is_binary w) _ _ w (λ e. tt)
    (fact_if (bytes_eq w (codes "arith.constant")) _ _ w (λ e. tt)
    (fact_if (bytes_eq w (codes "arith.cmpi")) _ _ w (λ e. tt)
    (fact_if (bytes_eq w (codes "arith.select")) _ _ w (λ e. tt)
    (fact_if (bytes_eq w (codes "arith.trunci")) _ _ w (loses w)
    (fact_if (is_cast w) _ _ w (λ e. tt) tt))))))

scf_fact : (w : List ℕ) → TokenFact (scf_terminal w) w
scf_fact w =
    fact_if (bytes_eq w (codes "scf.yield")) _ _ w (λ e. tt)
    (fact_if (bytes_eq w (codes "scf.for")) _ _ w (λ e. tt)
    (fact_if (bytes_eq w (codes "scf.if")) _ _ w (λ e. tt)
    (fact_if (bytes_eq w (codes "scf.while")) _ _ w (λ e. tt)
    (fact_if (bytes_eq w (codes "scf.condition")) _ _ w (λ e. tt) tt))))

func_fact : (w : List ℕ) → TokenFact (func_terminal w) w
func_fact w =
    fact_if (is_return w) _ _ w (λ e. tt)
    (fact_if (is_call w) _ _ w (λ e. tt)
    (fact_if (bytes_eq w (codes "func.func")) _ _ w (λ e. tt)
    (fact_if (bytes_eq w (codes "private")) _ _ w (λ e. tt)
    (fact_if (bytes_eq w (codes "module")) _ _ w (λ e. tt) tt))))

flag_fact : (w : List ℕ) → TokenFact (flag_terminal w) w
flag_fact w =
    fact_if (bytes_eq w (codes "overflow")) _ _ w (λ e. tt)
    (fact_if (bytes_eq w (codes "nsw")) _ _ w (λ e. tt)
    (fact_if (bytes_eq w (codes "nuw")) _ _ w (λ e. tt)
    (fact_if (is_predicate w) _ _ w (λ e. tt) tt)))

inner_fact : (w : List ℕ) → TokenFact (inner_terminal w) w
inner_fact w =
    fact_if (bytes_eq w (codes "to")) _ _ w (λ e. tt)
    (fact_if (bytes_eq w (codes "step")) _ _ w (λ e. tt)
    (fact_if (bytes_eq w (codes "iter_args")) _ _ w (λ e. tt)
    (fact_if (bytes_eq w (codes "else")) _ _ w (λ e. tt)
    (fact_if (bytes_eq w (codes "do")) _ _ w (λ e. tt)
    (fact_if (is_truth w) _ _ w (λ e. tt) (flag_fact w))))))

word_fact : (w : List ℕ) → TokenFact (word_terminal w) w
word_fact w =
    fact_if (is_type_word w) terminals.TypeWord (or_else (arith_terminal w) (or_else (scf_terminal w) (or_else (func_terminal w) (inner_terminal w)))) w (λ e. tt)
    (fact_or (arith_terminal w) (or_else (scf_terminal w) (or_else (func_terminal w) (inner_terminal w))) w (arith_fact w)
    (fact_or (scf_terminal w) (or_else (func_terminal w) (inner_terminal w)) w (scf_fact w)
    (fact_or (func_terminal w) (inner_terminal w) w (func_fact w) (inner_fact w))))

mark_fact : (m : List ℕ) → TokenFact (mark_terminal m) m
mark_fact m =
    fact_if (bytes_eq m (codes "(")) _ _ m (λ e. tt)
    (fact_if (bytes_eq m (codes ")")) _ _ m (λ e. tt)
    (fact_if (bytes_eq m (codes "{")) _ _ m (λ e. tt)
    (fact_if (bytes_eq m (codes "}")) _ _ m (λ e. tt)
    (fact_if (bytes_eq m (codes ",")) _ _ m (λ e. tt)
    (fact_if (bytes_eq m (codes ":")) _ _ m (λ e. tt)
    (fact_if (bytes_eq m (codes "=")) _ _ m (λ e. tt)
    (fact_if (bytes_eq m (codes "->")) _ _ m (λ e. tt)
    (fact_if (bytes_eq m (codes "<")) _ _ m (λ e. tt)
    (fact_if (bytes_eq m (codes ">")) _ _ m (λ e. tt) tt)))))))))

led_named : (lead : ℕ) (text : List ℕ) → is_led lead is_name text ≡ true → is_name (unsigned text) ≡ true
led_named lead [] h = cc
led_named lead (b ∷ bs) h = (and_parts (b == lead) (is_name bs) h).1

short_of : (text : List ℕ) → nat_lt name_limit (length (unsigned text)) ≡ false → is_short (unsigned text) ≡ true
short_of text h = grind (arith, nat_tests)

kind_fact : (kind : TokenKind) (text : List ℕ) → is_token kind text ≡ true → (has_value_name kind && nat_lt name_limit (length (unsigned text))) ≡ false → TokenFact (kind_terminal kind text) text
kind_fact kinds.Word text h g = word_fact text
kind_fact kinds.Value text h g = (led_named 37 text h, short_of text g)
kind_fact kinds.Symbol text h g = (led_named 64 text h, short_of text g)
kind_fact kinds.Caret text h g = tt
kind_fact kinds.Pick text h g = tt
kind_fact kinds.Number text h g = fact_if (is_next 120 (drop 1 text)) _ _ text (λ e. tt) tt
kind_fact kinds.Mark text h g = mark_fact text

tokens_well : (at k : ℕ) (bytes : List ℕ) (tokens : List Token) (place : ℕ) (rest : List ℕ) → Lexes at bytes tokens place rest → long_names k tokens ≡ [] → Each WellToken tokens
tokens_well at k bytes [] place rest h g = tt
tokens_well at k bytes (t ∷ tokens) place rest h g =
    let a = none_append (broken (has_value_name t.kind && nat_lt name_limit (length (unsigned t.text))) k Limit) (long_names (k + 1) tokens) g in
    let is : is_token t.kind t.text ≡ true = ap (is_token t.kind) h.0.text ∙ h.0.front.whole in
    (kind_fact t.kind t.text is (not_broken _ k Limit a.0), tokens_well t.to (k + 1) _ tokens place rest h.1 a.1)

-- blocks

deep_less : (j k : ℕ) (f : Form) (x : Phrase) → j ≤ k → Deep k f x → Deep j f x
deep_less j k f phrases.done le h = tt
deep_less j k f (phrases.token at c text rest) le h = deep_less j k f rest le h
deep_less j k f (phrases.line g at parts rest) le h = (λ e. let d = h.0 e in (d.0, omega (arith, d.1), d.2), deep_less j k f rest le h.1)

-- of a region's or an operation's line, in k regions
region_ops : (k : ℕ) (parts : Phrase) → Derived k forms.Region parts → Deep (k + 1) forms.Op parts
region_ops k parts d = deep_less (k + 1) (d.0 + 1) forms.Op parts (omega (arith, d.1)) (deep forms.Op d.0 (body forms.Region) parts refl d.2)

kind_ops : (k : ℕ) (parts : Phrase) → Derived k forms.Kind parts → Deep (k + 1) forms.Op parts
kind_ops k parts d = deep_less (k + 1) (d.0 + 1) forms.Op parts (omega (arith, d.1)) (deep forms.Op d.0 (body forms.Kind) parts refl d.2)

kind_regions : (k : ℕ) (parts : Phrase) → Derived k forms.Kind parts → Deep k forms.Region parts
kind_regions k parts d = deep_of k forms.Region parts (direct k d.0 (body forms.Kind) parts d.1 d.2)

op_kinds : (k : ℕ) (parts : Phrase) → Derived k forms.Op parts → Deep k forms.Kind parts
op_kinds k parts d = deep_of k forms.Kind parts (direct k d.0 (body forms.Op) parts d.1 d.2)

mutual
  pub block_shaped : (k : ℕ) (x : Phrase) → Deep k forms.Op x → ShapedBlock k (block x)
  block_shaped k phrases.done h = tt
  block_shaped k (phrases.token at c text rest) h = block_shaped k rest h
  block_shaped k (phrases.line form at parts rest) h =
      elim (cases_Bool (same_form forms.Op form)) [
        | inl is ↦ rw is (op_shape k parts (h.0 is), first_shaped k parts (op_kinds k parts (h.0 is)), second_shaped k parts (op_kinds k parts (h.0 is)), block_shaped k rest h.1)
        | inr other ↦ rw other (block_shaped k rest h.1)
      ]

  first_shaped : (k : ℕ) (x : Phrase) → Deep k forms.Kind x → ShapedBlock (k + 1) (first_of x)
  first_shaped k phrases.done h = tt
  first_shaped k (phrases.token at c text rest) h = first_shaped k rest h
  first_shaped k (phrases.line form at parts rest) h =
      elim (cases_Bool (same_form forms.Kind form)) [
        | inl is ↦ rw is (region_shaped k parts (kind_ops k parts (h.0 is)) (kind_regions k parts (h.0 is)))
        | inr other ↦ rw other (first_shaped k rest h.1)
      ]

  second_shaped : (k : ℕ) (x : Phrase) → Deep k forms.Kind x → ShapedBlock (k + 1) (second_of x)
  second_shaped k phrases.done h = tt
  second_shaped k (phrases.token at c text rest) h = second_shaped k rest h
  second_shaped k (phrases.line form at parts rest) h =
      elim (cases_Bool (same_form forms.Kind form)) [
        | inl is ↦ rw is (behind_shaped k parts (kind_ops k parts (h.0 is)) (kind_regions k parts (h.0 is)))
        | inr other ↦ rw other (second_shaped k rest h.1)
      ]

  region_shaped : (k : ℕ) (x : Phrase) → Deep (k + 1) forms.Op x → Deep k forms.Region x → ShapedBlock (k + 1) (source.region x)
  region_shaped k phrases.done h g = tt
  region_shaped k (phrases.token at c text rest) h g =
      elim (cases_Bool (parts_regions c)) [ inl is ↦ rw is tt | inr other ↦ rw other (region_shaped k rest h g) ]
  region_shaped k (phrases.line form at parts rest) h g =
      elim (cases_Bool (same_form forms.Region form)) [
        | inl is ↦ rw is (block_shaped (k + 1) parts (region_ops k parts (g.0 is)))
        | inr other ↦ rw other (
            elim (cases_Bool (same_form forms.Op form)) [
              | inl is ↦ rw is (op_shape (k + 1) parts (h.0 is), first_shaped (k + 1) parts (op_kinds (k + 1) parts (h.0 is)), second_shaped (k + 1) parts (op_kinds (k + 1) parts (h.0 is)), region_shaped k rest h.1 g.1)
              | inr neither ↦ rw neither (region_shaped k rest h.1 g.1)
            ]
            )
      ]

  behind_shaped : (k : ℕ) (x : Phrase) → Deep (k + 1) forms.Op x → Deep k forms.Region x → ShapedBlock (k + 1) (region_behind x)
  behind_shaped k phrases.done h g = tt
  behind_shaped k (phrases.token at c text rest) h g =
      elim (cases_Bool (parts_regions c)) [ inl is ↦ rw is (region_shaped k rest h g) | inr other ↦ rw other (behind_shaped k rest h g) ]
  behind_shaped k (phrases.line form at parts rest) h g = behind_shaped k rest h.1 g.1

-- functions

bodies_shaped : (k : ℕ) (ls : List Line) → Each (λ (l : Line). Derived k forms.Body l.parts) ls → ShapedBodies ls
bodies_shaped k [] h = tt
bodies_shaped k (l ∷ ls) h =
    (block_shaped 1 l.parts (deep_less 1 (h.0.0 + 1) forms.Op l.parts (omega arith) (deep forms.Op h.0.0 (body forms.Body) l.parts refl h.0.2)), bodies_shaped k ls h.1)

symbol_names : Names terminals.Symbol
symbol_names text fact = fact

func_shape : (l : Line) → Derived 0 forms.Func l.parts → FuncShape l
func_shape l d =
    let here = direct 0 d.0 (body forms.Func) l.parts d.1 d.2 in
    let params = inside forms.Params l.parts in
    record {
      named = named_first terminals.Symbol 0 l.parts symbol_names here (has_token terminals.Symbol d.0 (body forms.Func) l.parts refl d.2);
      params_named = each_zip (λ (p : Defined). Named p.name) (names_in params) (types_in params) (derived_named 0 forms.Params params (inside_derived forms.Params 0 l.parts here));
      bodies = bodies_shaped 0 (lines forms.Body l.parts) (each_derived forms.Body 0 l.parts (deep_of 0 forms.Body l.parts here));
      alone = elim (both_split d.0 _ _ _ l.parts d.2) [
        | inl h ↦ inl (empty_lines d.0 l.parts (lines forms.Body l.parts) (exact forms.Body d.0 _ l.parts refl h))
        | inr h ↦ inr (ap types_in (inside_none forms.Types l.parts (empty_lines d.0 l.parts (lines forms.Types l.parts) (exact forms.Types d.0 _ l.parts refl h))))
      ];
    }

funcs_shape : (ls : List Line) → Each (λ (l : Line). Derived 0 forms.Func l.parts) ls → Each FuncShape ls
funcs_shape [] h = tt
funcs_shape (l ∷ ls) h = (func_shape l h.0, funcs_shape ls h.1)

whole_shaped : (x : Phrase) → Derived 0 forms.Whole x ⊎ (x ≡ phrases.done) → Each FuncShape (lines forms.Func x)
whole_shaped x (inl d) = funcs_shape (lines forms.Func x) (each_derived forms.Func 0 x (deep_of 0 forms.Func x (direct 0 d.0 (body forms.Whole) x d.1 d.2)))
whole_shaped x (inr e) = rw e tt

pub syntax_shaped : (s : Syntax) → StandsFor s s.tokens → long_names 0 s.tokens ≡ [] → Each FuncShape (func_lines (phrase_in s))
syntax_shaped s h g =
    let well = tokens_well 0 0 h.text s.tokens h.lexed.place h.lexed.rest h.lexed.front g in
    let text = said s.tokens well 0 0 _ (line forms.Whole) (put s.root trees.none) h.tree refl in
    whole_shaped (inside forms.Whole (phrase_in s)) (inside_derived forms.Whole 0 (phrase_in s) (direct 0 0 (line forms.Whole) (phrase_in s) (omega arith) text))
