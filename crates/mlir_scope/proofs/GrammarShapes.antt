-- The grammar gives operations their shapes.
use Rattle.std.proofs.Common.{◌≡◌, ℕ, ◌<◌, ◌⊎◌, inl, inr, Bool, true, false, List, [], ◌∷◌, length, map, refl, ap, ◌∙◌, sym, subst, arith, Some, if◌then◌else◌}
use Rattle.std.proofs.lemmas.Bool.{cases_Bool}
use Rattle.std.proofs.lemmas.List.{length-map}
use Rattle.std.specs.List.{zip}
use Rattle.std.specs.Prelude.{slice_index_or}
use Rattle.mlir_ir.specs.Grammar.{Pattern, one, both, either, body, constant_kind, binary_kind, flagged_binary_kind, cast_kind, flagged_cast_kind, compare_kind, select_kind, call_kind, if_kind, for_kind, while_kind}
use Rattle.mlir_ir.specs.GrammarNumbers.{number, same}
use Rattle.mlir_ir.specs.Limits.{region_limit}
use Rattle.mlir_ir.specs.Phrases as phrases
use Rattle.mlir_ir.specs.Phrases.{Phrase, Line, spots, lines, inside, has, first_spot, behind}
use Rattle.mlir_ir.specs.Resolved.{flags_of}
use Rattle.mlir_ir.specs.Rules.{has_flags}
use Rattle.mlir_ir.specs.Source.{Defined, Packed, unsigned, defined, packed, use_of, written, names_in, uses_in, types_in, listed_uses, after_parts, head, word, implied}
use Rattle.mlir_ir.specs.declared.syntax.Form.{Form}
use Rattle.mlir_ir.specs.declared.syntax.Form.TheVariants as forms
use Rattle.mlir_ir.specs.declared.terminal.Terminal.{Terminal}
use Rattle.mlir_ir.specs.declared.terminal.Terminal.TheVariants as terminals
use Rattle.mlir_ir.specs.declared.types.IrType.TheVariants.{Int}
use Rattle.mlir_scope.proofs.NoBreaks.{Each}
use Rattle.mlir_scope.proofs.Deriving.{TokenFact, Named, Says, says_both, says_left, says_right}
use Rattle.mlir_scope.proofs.DerivedParts.{Derived, Direct, direct, deep_of, counted, steady, exact, has_token, guarded, opened, first, begins, inside_derived, inside_some, inside_none, each_derived, direct_behind}
use Rattle.mlir_scope.proofs.Shapes.{EndsWithYield, Counts, KindShape, has_regions, OpShape}
use Rattle.mlir_scope.proofs.Tests.{both_ways, eq_of}

abbrev terminal_list : List Terminal
terminal_list =
    terminals.Module ∷ terminals.Function ∷ terminals.Private ∷ terminals.TypeWord ∷ terminals.Return ∷ terminals.Constant ∷ terminals.Truth ∷ terminals.Binary ∷ terminals.FlaggedBinary ∷ terminals.Cast ∷ terminals.FlaggedCast ∷ terminals.Compare ∷ terminals.Predicate ∷ terminals.Select ∷ terminals.Call ∷ terminals.If ∷ terminals.Else ∷ terminals.For ∷ terminals.To ∷ terminals.Step ∷ terminals.IterArgs ∷ terminals.While ∷ terminals.Condition ∷ terminals.Do ∷ terminals.Yield ∷ terminals.Overflow ∷ terminals.Nsw ∷ terminals.Nuw ∷ terminals.OtherWord ∷ terminals.Value ∷ terminals.Symbol ∷ terminals.Caret ∷ terminals.Pick ∷ terminals.Decimal ∷ terminals.Hexadecimal ∷ terminals.LeftParen ∷ terminals.RightParen ∷ terminals.LeftBrace ∷ terminals.RightBrace ∷ terminals.Less ∷ terminals.Greater ∷ terminals.Comma ∷ terminals.Colon ∷ terminals.Equals ∷ terminals.Arrow ∷ terminals.Minus ∷ []

terminal_back : (c : Terminal) → slice_index_or terminal_list (number c) terminals.Module ≡ c
terminal_back terminals.Module = refl
terminal_back _ = refl

terminal_is : (c d : Terminal) → same c d ≡ true → c ≡ d
terminal_is c d h = sym (terminal_back c) ∙ ap (λ k. slice_index_or terminal_list k terminals.Module) (eq_of (number c) (number d) h) ∙ terminal_back d

-- names

-- terminals whose tokens are names
abbrev pub Names : Terminal → Type 0
Names c = (text : List ℕ) → TokenFact c text → Named (unsigned text)

same_named : (c d : Terminal) (text : List ℕ) → Names c → same c d ≡ true → TokenFact d text → Named (unsigned text)
same_named c d text names h fact = names text (subst (λ e. TokenFact e text) (sym (terminal_is c d h)) fact)

pub named_first : (c : Terminal) (k : ℕ) (x : Phrase) → Names c → Direct k x → has c x ≡ true → Named (unsigned (first_spot (spots c x)).text)
named_first c k phrases.done names h e = cc
named_first c k (phrases.token at d text rest) names h e =
    elim (cases_Bool (same c d)) [
      | inl is ↦ rw is (same_named c d text names is h.0)
      | inr other ↦ rw other (named_first c k rest names h.1 (rw other at e))
    ]
named_first c k (phrases.line f at parts rest) names h e = named_first c k rest names h.1 e

named_spots : (c : Terminal) (k : ℕ) (x : Phrase) → Names c → Direct k x → Each (λ (d : Defined). Named d.name) (map defined (spots c x))
named_spots c k phrases.done names h = tt
named_spots c k (phrases.token at d text rest) names h =
    elim (cases_Bool (same c d)) [
      | inl is ↦ rw is (same_named c d text names is h.0, named_spots c k rest names h.1)
      | inr other ↦ rw other (named_spots c k rest names h.1)
    ]
named_spots c k (phrases.line f at parts rest) names h = named_spots c k rest names h.1

pub each_zip : {A B : Type 0} (P : A → Type 0) (xs : List A) (ys : List B) → Each P xs → Each (λ (p : A × B). P p.0) (zip xs ys)
each_zip P [] ys h = tt
each_zip P (x ∷ xs) [] h = tt
each_zip P (x ∷ xs) (y ∷ ys) h = (h.0, each_zip P xs ys h.1)

value_names : Names terminals.Value
value_names text fact = fact

-- either part of a phrase

either_split : (n : ℕ) (a b : Pattern) (x : Phrase) → Says n (either a b) x → Says n a x ⊎ Says n b x
either_split n a b x (says_left h) = inl h
either_split n a b x (says_right h) = inr h

pub both_split : (n : ℕ) (a b c : Pattern) (x : Phrase) → Says n (both a (either b c)) x → Says n (both a b) x ⊎ Says n (both a c) x
both_split n a b c x (says_both {y = z} h g e) = elim (either_split n b c z g) [ inl l ↦ inl (says_both h l e) | inr r ↦ inr (says_both h r e) ]

-- what holds of a kind in n regions
record KindFacts (n : ℕ) (kind : Phrase) : Type 0 where
  does : KindShape (head kind) kind
  open_room : has_regions (head kind) ≡ true → n < region_limit

module _ (n : ℕ) (x : Phrase) where
  facts : (c : Terminal) (p : Pattern) → first p ≡ Some c → Says n p x → KindShape c x → (has_regions c ≡ true → n < region_limit) → KindFacts n x
  facts c p e h does room =
      let b = begins c n p x e h in
      let is : head x ≡ c = ap head b.3 in
      record { does = subst (λ d. KindShape d x) (sym is) does; open_room = subst (λ d. has_regions d ≡ true → n < region_limit) (sym is) room }

  uses_count : (p : Pattern) → steady forms.Use p ≡ true → Says n p x → length (uses_in x) ≡ counted forms.Use p
  uses_count p s h = length-map (lines forms.Use x) use_of ∙ exact forms.Use n p x s h

  types_count : (p : Pattern) → steady forms.TypeName p ≡ true → Says n p x → length (types_in x) ≡ counted forms.TypeName p
  types_count p s h = length-map (lines forms.TypeName x) written ∙ exact forms.TypeName n p x s h

  counts : (p : Pattern) (u t : ℕ) → steady forms.Use p ≡ true → steady forms.TypeName p ≡ true → counted forms.Use p ≡ u → counted forms.TypeName p ≡ t → Says n p x → Counts u t x
  counts p u t s1 s2 e1 e2 h = record { uses_are = uses_count p s1 h ∙ e1; types_are = types_count p s2 h ∙ e2 }

  pub empty_lines : (ls : List Line) → length ls ≡ 0 → ls ≡ []
  empty_lines [] e = refl
  empty_lines (l ∷ ls) e = absurd (omega arith)

  no_flags : (p : Pattern) → steady forms.Flags p ≡ true → counted forms.Flags p ≡ 0 → Says n p x → has_flags (flags_of x) ≡ false
  no_flags p s e h =
      let none = inside_none forms.Flags x (empty_lines (lines forms.Flags x) (exact forms.Flags n p x s h ∙ e)) in
      rw none refl

  word_fact : (c : Terminal) (p : Pattern) → first p ≡ Some c → Says n p x → TokenFact c (word x).text
  word_fact c p e h =
      let b = begins c n p x e h in
      subst (TokenFact c) (sym (ap (λ q. (word q).text) b.3)) b.4

  one_type : (b : Bool) → (b ≡ false → length (types_in x) ≡ 1) → length (if b then implied x (Int 1) else types_in x) ≡ 1
  one_type true h = refl
  one_type false h = h refl

  constant_shape : Says n constant_kind x → KindFacts n x
  constant_shape h =
      facts terminals.Constant constant_kind refl h
      (elim (both_split n (one terminals.Constant) _ (one terminals.Truth) x h) [
        | inl l ↦ one_type (has terminals.Truth x) (λ e. types_count _ refl l)
        | inr r ↦ one_type (has terminals.Truth x) (λ e. absurd (both_ways (has terminals.Truth x) (has_token terminals.Truth n (both (one terminals.Constant) (one terminals.Truth)) x refl r) e))
      ]) (λ e. cc)

  ends_with_yield : (parts : Phrase) → Derived 0 forms.Region parts ⊎ (parts ≡ phrases.done) → EndsWithYield parts
  ends_with_yield parts (inl d) = λ without. ap listed_uses (inside_none forms.Ends parts (guarded terminals.Yield forms.Ends d.0 (body forms.Region) parts refl d.2 without))
  ends_with_yield parts (inr e) = λ without. rw e refl

  binary_shape : Says n binary_kind x → KindFacts n x
  binary_shape h = facts terminals.Binary binary_kind refl h (counts binary_kind 2 1 refl refl refl refl h, no_flags binary_kind refl refl h) (λ e. cc)

  flagged_binary_shape : Says n flagged_binary_kind x → KindFacts n x
  flagged_binary_shape h = facts terminals.FlaggedBinary flagged_binary_kind refl h (counts flagged_binary_kind 2 1 refl refl refl refl h, word_fact terminals.FlaggedBinary flagged_binary_kind refl h) (λ e. cc)

  cast_shape : Says n cast_kind x → KindFacts n x
  cast_shape h = facts terminals.Cast cast_kind refl h (counts cast_kind 1 2 refl refl refl refl h, no_flags cast_kind refl refl h) (λ e. cc)

  flagged_cast_shape : Says n flagged_cast_kind x → KindFacts n x
  flagged_cast_shape h = facts terminals.FlaggedCast flagged_cast_kind refl h (counts flagged_cast_kind 1 2 refl refl refl refl h, word_fact terminals.FlaggedCast flagged_cast_kind refl h) (λ e. cc)

  compare_shape : Says n compare_kind x → KindFacts n x
  compare_shape h = facts terminals.Compare compare_kind refl h (counts compare_kind 2 1 refl refl refl refl h) (λ e. cc)

  select_shape : Says n select_kind x → KindFacts n x
  select_shape h = facts terminals.Select select_kind refl h (counts select_kind 3 1 refl refl refl refl h) (λ e. cc)

  call_shape : Says n call_kind x → KindFacts n x
  call_shape h = facts terminals.Call call_kind refl h tt (λ e. cc)

  if_shape : Says n if_kind x → KindFacts n x
  if_shape h =
      let d = direct 0 n if_kind x (omega arith) h in
      facts terminals.If if_kind refl h (
        uses_count if_kind refl h,
        ends_with_yield (inside forms.Region x) (inside_derived forms.Region 0 x d),
        ends_with_yield (inside forms.Region (behind terminals.Else x)) (inside_derived forms.Region 0 (behind terminals.Else x) (direct_behind 0 terminals.Else x d)),
      ) (λ e. opened n if_kind x refl h)

  for_shape : Says n for_kind x → KindFacts n x
  for_shape h =
      let d = direct 0 n for_kind x (omega arith) h in
      facts terminals.For for_kind refl h (
        uses_count for_kind refl h,
        named_first terminals.Value 0 x value_names d (has_token terminals.Value n for_kind x refl h),
        ends_with_yield (inside forms.Region x) (inside_derived forms.Region 0 x d),
      ) (λ e. opened n for_kind x refl h)

  while_shape : Says n while_kind x → KindFacts n x
  while_shape h = facts terminals.While while_kind refl h (uses_count while_kind refl h) (λ e. opened n while_kind x refl h)

  kind_facts : Says n (body forms.Kind) x → KindFacts n x
  kind_facts h =
      elim (either_split n _ _ x h) [
        | inl k ↦ constant_shape k
        | inr h1 ↦
            elim (either_split n _ _ x h1) [
              | inl k ↦ binary_shape k
              | inr h2 ↦
                  elim (either_split n _ _ x h2) [
                    | inl k ↦ flagged_binary_shape k
                    | inr h3 ↦
                        elim (either_split n _ _ x h3) [
                          | inl k ↦ cast_shape k
                          | inr h4 ↦
                              elim (either_split n _ _ x h4) [
                                | inl k ↦ flagged_cast_shape k
                                | inr h5 ↦
                                    elim (either_split n _ _ x h5) [
                                      | inl k ↦ compare_shape k
                                      | inr h6 ↦
                                          elim (either_split n _ _ x h6) [
                                            | inl k ↦ select_shape k
                                            | inr h7 ↦
                                                elim (either_split n _ _ x h7) [
                                                  | inl k ↦ call_shape k
                                                  | inr h8 ↦
                                                      elim (either_split n _ _ x h8) [
                                                        | inl k ↦ if_shape k
                                                        | inr h9 ↦
                                                            elim (either_split n _ _ x h9) [ inl k ↦ for_shape k | inr k ↦ while_shape k ]
                                                      ]
                                                ]
                                          ]
                                    ]
                              ]
                        ]
                  ]
            ]
      ]

-- an operation

pack_named : (k : ℕ) (l : Line) → Derived k forms.Pack l.parts → Named (packed l).name
pack_named k l d =
    named_first terminals.Value 0 l.parts value_names (direct 0 d.0 (body forms.Pack) l.parts (omega arith) d.2)
    (has_token terminals.Value d.0 (body forms.Pack) l.parts refl d.2)

packs_named : (k : ℕ) (ls : List Line) → Each (λ (l : Line). Derived k forms.Pack l.parts) ls → Each (λ (p : Packed). Named p.name) (map packed ls)
packs_named k [] h = tt
packs_named k (l ∷ ls) h = (pack_named k l h.0, packs_named k ls h.1)

pub derived_named : (k : ℕ) (f : Form) (parts : Phrase) → Derived k f parts ⊎ (parts ≡ phrases.done) → Each (λ (d : Defined). Named d.name) (names_in parts)
derived_named k f parts (inl d) = named_spots terminals.Value 0 parts value_names (direct 0 d.0 (body f) parts (omega arith) d.2)
derived_named k f parts (inr e) = rw e tt

pub op_shape : (k : ℕ) (parts : Phrase) → Derived k forms.Op parts → OpShape k (map packed (lines forms.Pack parts)) (inside forms.Kind parts)
op_shape k parts d =
    let here = direct k d.0 (body forms.Op) parts d.1 d.2 in
    let kind = inside forms.Kind parts in
    let is = inside_some forms.Kind k 0 parts here (exact forms.Kind d.0 (body forms.Op) parts refl d.2) in
    let facts = kind_facts is.0 kind is.2 in
    let inner = direct 0 is.0 (body forms.Kind) kind (omega arith) is.2 in
    let late = direct_behind 0 terminals.Do kind inner in
    record {
      does = facts.does;
      open_room = λ e. let less = facts.open_room e in omega (arith, is.1);
      packs_named = packs_named k (lines forms.Pack parts) (each_derived forms.Pack k parts (deep_of k forms.Pack parts here));
      inits_named = each_zip (λ (d : Defined). Named d.name) (names_in (inside forms.Inits kind)) (uses_in (inside forms.Inits kind)) (derived_named 0 forms.Inits (inside forms.Inits kind) (inside_derived forms.Inits 0 kind inner));
      params_named = each_zip (λ (d : Defined). Named d.name) (names_in (inside forms.Params (after_parts kind))) (types_in (inside forms.Params (after_parts kind))) (derived_named 0 forms.Params (inside forms.Params (after_parts kind)) (inside_derived forms.Params 0 (after_parts kind) late));
    }
