-- Bytes are at most one input, or have one first fault.
use Rattle.std.proofs.Common.{◌≡◌, ℕ, List, Result, Ok, Err, IsUtf8, length, map, refl, ap, ◌∙◌, sym, arith}
use Rattle.std.specs.Str.{IsValidUpTo}
use Rattle.std.proofs.lemmas.Str.{utf8_valid_len-IsUtf8, utf8_valid_len-IsValidUpTo}
use Rattle.mlir_ir.specs.Reads.{IsScopeFault, Reads, plain_func}
use Rattle.mlir_ir.specs.Syntaxes.{IsSyntaxOf, place_of}
use Rattle.mlir_ir.specs.Tokens.{IsLexFault}
use Rattle.mlir_ir.specs.declared.module.Module.{Module}
use Rattle.mlir_ir.specs.declared.scope_kind.ScopeKind.{ScopeKind}
use Rattle.mlir_ir.specs.declared.syntax.Syntax.{Syntax}
use Rattle.mlir_parse.specs.Refused as parsing
use Rattle.mlir_parse.specs.declared.parser.ParseFault.{ParseFault}
use Rattle.mlir_parse.specs.declared.parser.ParseFault.TheVariants as faults
use Rattle.mlir_parse.proofs.OneAnswer as answers
use Rattle.mlir_scope.proofs.OneReading as readings
use Rattle.scev_script.specs.Scripts.{module_end_in, scripts_behind}
use Rattle.scev_script.specs.declared.error.InputFault.{InputFault}
use Rattle.scev_script.specs.declared.script.Script.{Script}
use Rattle.scev_input.specs.Inputs.{IsFault, IsGrammarFault, IsInput, kind_of_scope, line_fault, module_bytes, utf8, lex, grammar, scope, script}
use Rattle.scev_input.specs.declared.fault.Fault.{Fault}
use Rattle.scev_input.specs.declared.fault.FaultKind.{FaultKind}
use Rattle.scev_input.specs.declared.fault.FaultKind.TheVariants as kinds

-- the plain functions and the scripts of inputs of the same bytes
pub one_input : (bytes : List ℕ) (m n : Module) (scripts others : List Script) → IsInput bytes m scripts → IsInput bytes n others
    → (map plain_func m.funcs ≡ map plain_func n.funcs) × (scripts ≡ others)
one_input bytes m n scripts others a b =
    let same : ◌≡◌ {A = Result (List Script) InputFault} (Ok scripts) (Ok others) = sym a.scripts ∙ b.scripts in
    (readings.one_list (module_bytes bytes) m n a.reads b.reads, cc)

-- faults of UTF-8

one_front : (bytes : List ℕ) (i j : ℕ) → IsValidUpTo bytes i → IsValidUpTo bytes j → i ≡ j
one_front bytes i j a b = sym (utf8_valid_len-IsValidUpTo bytes i a) ∙ utf8_valid_len-IsValidUpTo bytes j b

not_utf8 : (bytes : List ℕ) (i : ℕ) → IsValidUpTo bytes i → IsUtf8 bytes → ⊥
not_utf8 bytes i a u = omega (arith, utf8_valid_len-IsValidUpTo bytes i a, utf8_valid_len-IsUtf8 bytes u, a.short)

-- faults of the tokens and the grammar, as those of the module's text

abbrev said : ParseFault → Fault
said faults.NoMemory = record { kind = kinds.Utf8; at = 0 }
said (faults.Lex at) = record { kind = kinds.Lex; at = at }
said (faults.Syntax at) = record { kind = kinds.Syntax; at = at }
said (faults.NotHere at) = record { kind = kinds.NotHere; at = at }
said (faults.TooDeep at) = record { kind = kinds.TooDeep; at = at }

record IsOfText (text : List ℕ) (f : Fault) : Type 0 where
  parsed : ParseFault
  refused : parsing.IsRefused text parsed
  some : parsed ≡ faults.NoMemory → ⊥
  same : f ≡ said parsed

of_lex : (text : List ℕ) (at : ℕ) → IsLexFault text at → IsOfText text (record { kind = kinds.Lex; at = at })
of_lex text at h = record { parsed = faults.Lex at; refused = h; some = λ e. cc; same = refl }

of_grammar : (text : List ℕ) (kind : FaultKind) (at : ℕ) → IsGrammarFault text kind at → IsOfText text (record { kind = kind; at = at })
of_grammar text kinds.Utf8 at h = absurd h
of_grammar text kinds.Lex at h = absurd h
of_grammar text kinds.Syntax at h = record { parsed = faults.Syntax at; refused = h; some = λ e. cc; same = refl }
of_grammar text kinds.NotHere at h = record { parsed = faults.NotHere at; refused = h; some = λ e. cc; same = refl }
of_grammar text kinds.TooDeep at h = record { parsed = faults.TooDeep at; refused = h; some = λ e. cc; same = refl }
of_grammar text kinds.Unknown at h = absurd h
of_grammar text kinds.Twice at h = absurd h
of_grammar text kinds.WrongType at h = absurd h
of_grammar text kinds.Arity at h = absurd h
of_grammar text kinds.Limit at h = absurd h
of_grammar text kinds.Script at h = absurd h

one_of_text : (text : List ℕ) (e f : Fault) → IsOfText text e → IsOfText text f → e ≡ f
one_of_text text e f a b = a.same ∙ ap said (answers.one_fault text a.parsed b.parsed a.refused b.refused a.some b.some) ∙ sym b.same

no_syntax : (text : List ℕ) (e : Fault) (s : Syntax) → IsOfText text e → IsSyntaxOf text s → ⊥
no_syntax text e s a parsed = a.some (answers.no_fault text s a.parsed parsed a.refused)

-- faults of the names, types and limits of a syntax

same_scope : (text : List ℕ) (s t : Syntax) (i j : ℕ) (k l : ScopeKind) → IsSyntaxOf text s → IsSyntaxOf text t → IsScopeFault s i k → IsScopeFault t j l
    → ◌≡◌ {A = Fault} (record { kind = kind_of_scope k; at = place_of s.tokens s.length i }) (record { kind = kind_of_scope l; at = place_of t.tokens t.length j })
same_scope text s t i j k l a b first second =
    let one = answers.one_syntax text s t a b in
    let same = readings.one_fault text s t i j k l a b first second in
    rw (one.0, one.1, same.0, same.1) refl

-- each fault against the others

module _ (bytes : List ℕ) where
  against_utf8 : (i : ℕ) (f : Fault) → IsValidUpTo bytes i → IsFault bytes f → record { kind = kinds.Utf8; at = i } ≡ f
  against_utf8 i f a (utf8 {at} b) = ap (λ n. record { kind = kinds.Utf8; at = n }) (one_front bytes i at a b)
  against_utf8 i f a (lex u h) = absurd (not_utf8 bytes i a u)
  against_utf8 i f a (grammar u h) = absurd (not_utf8 bytes i a u)
  against_utf8 i f a (scope u s h) = absurd (not_utf8 bytes i a u)
  against_utf8 i f a (script u r h) = absurd (not_utf8 bytes i a u)

  against_text : (e f : Fault) → IsUtf8 bytes → IsOfText (module_bytes bytes) e → IsFault bytes f → e ≡ f
  against_text e f u a (utf8 {at} b) = absurd (not_utf8 bytes at b u)
  against_text e f u a (lex {at} v h) = one_of_text (module_bytes bytes) e (record { kind = kinds.Lex; at = at }) a (of_lex (module_bytes bytes) at h)
  against_text e f u a (grammar {kind} {at} v h) = one_of_text (module_bytes bytes) e (record { kind = kind; at = at }) a (of_grammar (module_bytes bytes) kind at h)
  against_text e f u a (scope {syntax} v s h) = absurd (no_syntax (module_bytes bytes) e syntax a s)
  against_text e f u a (script v r h) = absurd (no_syntax (module_bytes bytes) e r.syntax a r.parsed)

  against_scope : (s : Syntax) (i : ℕ) (k : ScopeKind) (f : Fault) → IsUtf8 bytes → IsSyntaxOf (module_bytes bytes) s → IsScopeFault s i k → IsFault bytes f
      → record { kind = kind_of_scope k; at = place_of s.tokens s.length i } ≡ f
  against_scope s i k f u a e (utf8 {at} b) = absurd (not_utf8 bytes at b u)
  against_scope s i k f u a e (lex {at} v h) = absurd (no_syntax (module_bytes bytes) (record { kind = kinds.Lex; at = at }) s (of_lex (module_bytes bytes) at h) a)
  against_scope s i k f u a e (grammar {kind} {at} v h) =
      absurd (no_syntax (module_bytes bytes) (record { kind = kind; at = at }) s (of_grammar (module_bytes bytes) kind at h) a)
  against_scope s i k f u a e (scope {syntax} {token} {kind} v t h) = same_scope (module_bytes bytes) s syntax i token k kind a t e h
  against_scope s i k f u a e (script {m} v r h) = absurd (readings.not_both (module_bytes bytes) m s i k r a e)

  -- a module that reads leaves the faults of the scripts
  past_module : (m : Module) (f : Fault) → IsUtf8 bytes → Reads (module_bytes bytes) m → IsFault bytes f
      → (fault : InputFault) × (scripts_behind (module_end_in bytes) bytes ≡ Err fault) × (line_fault fault ≡ f)
  past_module m f u r (utf8 {at} b) = absurd (not_utf8 bytes at b u)
  past_module m f u r (lex {at} v h) =
      absurd (no_syntax (module_bytes bytes) (record { kind = kinds.Lex; at = at }) r.syntax (of_lex (module_bytes bytes) at h) r.parsed)
  past_module m f u r (grammar {kind} {at} v h) =
      absurd (no_syntax (module_bytes bytes) (record { kind = kind; at = at }) r.syntax (of_grammar (module_bytes bytes) kind at h) r.parsed)
  past_module m f u r (scope {syntax} {token} {kind} v t h) = absurd (readings.not_both (module_bytes bytes) m syntax token kind r t h)
  past_module m f u r (script {fault = fault} v t h) = (fault, h, refl)

  against_script : (m : Module) (g : InputFault) (f : Fault) → IsUtf8 bytes → Reads (module_bytes bytes) m → scripts_behind (module_end_in bytes) bytes ≡ Err g
      → IsFault bytes f → line_fault g ≡ f
  against_script m g f u r is h =
      let other = past_module m f u r h in
      let both : ◌≡◌ {A = Result (List Script) InputFault} (Err g) (Err other.0) = sym is ∙ other.1 in
      let same : g ≡ other.0 = cc in
      ap line_fault same ∙ other.2

-- first faults of the same bytes
pub one_fault : (bytes : List ℕ) (e f : Fault) → IsFault bytes e → IsFault bytes f → e ≡ f
one_fault bytes e f (utf8 {at} a) h = against_utf8 bytes at f a h
one_fault bytes e f (lex {at} u a) h = against_text bytes (record { kind = kinds.Lex; at = at }) f u (of_lex (module_bytes bytes) at a) h
one_fault bytes e f (grammar {kind} {at} u a) h = against_text bytes (record { kind = kind; at = at }) f u (of_grammar (module_bytes bytes) kind at a) h
one_fault bytes e f (scope {syntax} {token} {kind} u s a) h = against_scope bytes syntax token kind f u s a h
one_fault bytes e f (script {m} {fault} u r a) h = against_script bytes m fault f u r a h

-- an input has no fault
pub not_both : (bytes : List ℕ) (m : Module) (scripts : List Script) (e : Fault) → IsInput bytes m scripts → IsFault bytes e → ⊥
not_both bytes m scripts e a h =
    let fault = past_module bytes m e a.utf8 a.reads h in
    let both : ◌≡◌ {A = Result (List Script) InputFault} (Ok scripts) (Err fault.0) = sym a.scripts ∙ fault.1 in
    cc
