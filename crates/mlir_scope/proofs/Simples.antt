-- Operations without regions, by the word that names them, and calls by their callee.
use Rattle.std.proofs.Common.{◌≡◌, ◌++◌, ℕ, List, [], ◌∷◌, map, take, drop, find, Option, Some, None, true, refl, ap, ◌∙◌, sym}
use Rattle.std.specs.Borrow.{Bor}
use Rattle.std.specs.Option.{option_map_or}
use Rattle.std.specs.Str.{bytes_eq}
use Rattle.mlir_ir.specs.Phrases.{Phrase, Line, spots, first_spot}
use Rattle.mlir_ir.specs.Resolved.{func_name, tys}
use Rattle.mlir_ir.specs.Rules.{truth}
use Rattle.mlir_ir.specs.ScopeFaults.{broken, differs, type_breaks, same_written, simple_breaks, call_types, callee_breaks, call_breaks, listed_breaks, over}
use Rattle.mlir_ir.specs.Source.{Use, Written, listed_uses, listed_types, uses_in, types_in, word, unsigned}
use Rattle.mlir_ir.specs.Values.{Value}
use Rattle.mlir_ir.specs.declared.scope_kind.ScopeKind.TheVariants.{Unknown, WrongType}
use Rattle.mlir_ir.specs.declared.terminal.Terminal.{Terminal}
use Rattle.mlir_ir.specs.declared.terminal.Terminal.TheVariants.{Constant, Cast, FlaggedCast, Select, Call, Symbol}
use Rattle.mlir_ir.specs.declared.types.IrType.{IrType}
use Rattle.mlir_scope.specs.Functions.{Called, called, signature_said}
use Rattle.mlir_scope.specs.Texts.{has_signature}
use Rattle.mlir_scope.specs.declared.signatures.Signature.{Signature}
use Rattle.mlir_scope.specs.Noted.{noted}
use Rattle.mlir_scope.specs.Reading.{use_said}
use Rattle.mlir_scope.specs.declared.first.ScopeFault.{ScopeFault}
use Rattle.mlir_scope.specs.declared.said.Use as said
use Rattle.mlir_scope.proofs.Notes.{no_types, noted_two, noted_three}

pub plain_breaks : (funcs : List Line) (scope : List Value) (c : Terminal) (kind : Phrase)
    → (c ≡ Constant → ⊥) → (c ≡ Cast → ⊥) → (c ≡ FlaggedCast → ⊥) → (c ≡ Select → ⊥) → (c ≡ Call → ⊥)
    → simple_breaks funcs scope c kind ≡ same_written scope (uses_in kind) (types_in kind)
plain_breaks funcs scope Constant kind a b d e f = absurd (a refl)
plain_breaks funcs scope Cast kind a b d e f = absurd (b refl)
plain_breaks funcs scope FlaggedCast kind a b d e f = absurd (d refl)
plain_breaks funcs scope Select kind a b d e f = absurd (e refl)
plain_breaks funcs scope Call kind a b d e f = absurd (f refl)
plain_breaks funcs scope _ kind a b d e f = refl

no_uses : (scope : List Value) (types : List Written) → same_written scope [] types ≡ []
no_uses scope [] = refl
no_uses scope (t ∷ types) = refl

-- a condition and choices
pub select_parts : (scope : List Value) (all choices : List said.Use) (u : said.Use) (types : List Written) (best one two : Option ScopeFault) → all ≡ u ∷ choices
    → one ≡ noted best (type_breaks scope (map use_said all) (truth ∷ [])) → two ≡ noted one (same_written scope (map use_said choices) types)
    → two ≡ noted best (type_breaks scope (take 1 (map use_said all)) (truth ∷ []) ++ same_written scope (drop 1 (map use_said all)) types)
select_parts scope all choices u types best one two is f g =
    noted_two best one two (type_breaks scope (map use_said all) (truth ∷ [])) (same_written scope (map use_said choices) types) f g
    ∙ ap (noted best) (sym (ap (λ (us : List said.Use). type_breaks scope (take 1 (map use_said us)) (truth ∷ []) ++ same_written scope (drop 1 (map use_said us)) types) is
    ∙ ap (λ bs. broken (differs scope (use_said u) truth) (use_said u).at WrongType ++ bs ++ same_written scope (map use_said choices) types) (no_types scope [] ∙ sym (no_types scope (map use_said choices)))
    ∙ sym (ap (λ (us : List said.Use). type_breaks scope (map use_said us) (truth ∷ []) ++ same_written scope (map use_said choices) types) is)))

pub select_nothing : (scope : List Value) (all : List Use) (types : List Written) → all ≡ []
    → type_breaks scope (take 1 all) (truth ∷ []) ++ same_written scope (drop 1 all) types ≡ []
select_nothing scope all types is = rw (is, no_uses scope types) refl

-- what a callee breaks, by its signature
callee_types : (scope : List Value) (kind : Phrase) (at : ℕ) (f : Option Line) (s : Bor Signature) → has_signature f (Some s)
    → option_map_or (λ (g : Line). call_types scope (word kind).at kind (called g).args (called g).results) f (broken true at Unknown)
    ≡ call_types scope (word kind).at kind (signature_said s.now).args (signature_said s.now).results
callee_types scope kind at None s has = cc
callee_types scope kind at (Some f) s has = ap (λ (o : Option Called). option_map_or (λ (d : Called). call_types scope (word kind).at kind d.args d.results) o []) (sym has)

no_callee : (scope : List Value) (kind : Phrase) (at : ℕ) (f : Option Line) → has_signature f None
    → option_map_or (λ (g : Line). call_types scope (word kind).at kind (called g).args (called g).results) f (broken true at Unknown) ≡ broken true at Unknown
no_callee scope kind at None has = refl
no_callee scope kind at (Some f) has = cc

-- where a function has the callee's name, and where none has it
pub callee_found : (funcs : List Line) (scope : List Value) (kind : Phrase) (s : Bor Signature)
    → has_signature (find (λ f. bytes_eq (func_name f) (unsigned (first_spot (spots Symbol kind)).text)) funcs) (Some s)
    → callee_breaks funcs scope kind ≡ call_types scope (word kind).at kind (signature_said s.now).args (signature_said s.now).results
callee_found funcs scope kind s has = callee_types scope kind (first_spot (spots Symbol kind)).at (find (λ f. bytes_eq (func_name f) (unsigned (first_spot (spots Symbol kind)).text)) funcs) s has

pub callee_missing : (funcs : List Line) (scope : List Value) (kind : Phrase)
    → has_signature (find (λ f. bytes_eq (func_name f) (unsigned (first_spot (spots Symbol kind)).text)) funcs) None
    → callee_breaks funcs scope kind ≡ broken true (first_spot (spots Symbol kind)).at Unknown
callee_missing funcs scope kind has = no_callee scope kind (first_spot (spots Symbol kind)).at (find (λ f. bytes_eq (func_name f) (unsigned (first_spot (spots Symbol kind)).text)) funcs) has

pub call_noted : (funcs : List Line) (scope : List Value) (kind : Phrase) (at : ℕ) (uses : List Use) (types : List IrType) (best one two three : Option ScopeFault)
    → at ≡ (word kind).at → uses ≡ listed_uses kind → types ≡ tys (listed_types kind)
    → one ≡ noted best (listed_breaks scope at uses types) → two ≡ noted one (over 16 (map (λ (u : Use). u.at) uses)) → three ≡ noted two (callee_breaks funcs [] kind)
    → three ≡ noted best (call_breaks funcs scope kind)
call_noted funcs scope kind at uses types best one two three at_is uses_is types_is f g h =
    noted_three best one two three
    (listed_breaks scope (word kind).at (listed_uses kind) (tys (listed_types kind)))
    (over 16 (map (λ (u : Use). u.at) (listed_uses kind)))
    (callee_breaks funcs scope kind)
    (f ∙ ap (λ a. noted best (listed_breaks scope a uses types)) at_is
    ∙ ap (λ us. noted best (listed_breaks scope (word kind).at us types)) uses_is
    ∙ ap (λ ts. noted best (listed_breaks scope (word kind).at (listed_uses kind) ts)) types_is)
    (g ∙ ap (λ us. noted one (over 16 (map (λ (u : Use). u.at) us))) uses_is)
    h
