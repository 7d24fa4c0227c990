-- What the headers of loops break, part by part.
use Rattle.std.proofs.Common.{nat_le, nat_eq, not, Bool, ◌≡◌, ℕ, List, [], ◌∷◌, ◌++◌, map, length, Option, refl, ap, ◌∙◌}
use Rattle.mlir_ir.specs.Phrases.{Phrase}
use Rattle.mlir_ir.specs.Resolved.{inits_used}
use Rattle.mlir_ir.specs.ScopeFaults.{broken, over, names_of, repeated, listed_breaks, written_breaks, carried_breaks, params_breaks}
use Rattle.mlir_ir.specs.Source.{Defined, Use, Written, inits_of, word}
use Rattle.mlir_ir.specs.Values.{Value}
use Rattle.mlir_ir.specs.declared.scope_kind.ScopeKind.TheVariants.{Limit, Arity}
use Rattle.mlir_ir.specs.declared.types.IrType.{IrType}
use Rattle.mlir_scope.specs.Noted.{noted}
use Rattle.mlir_scope.specs.declared.first.ScopeFault.{ScopeFault}
use Rattle.mlir_scope.proofs.Notes.{noted_four}

-- where the names of pairs stand
pub pair_places : {X : Type 0} (ps : List (Defined × X)) → map (λ (d : Defined). d.at) (map (λ (p : Defined × X). p.0) ps) ≡ map (λ (p : Defined × X). p.0.at) ps
pair_places [] = refl
pair_places (p ∷ ps) = ap (λ ns. p.0.at ∷ ns) (pair_places ps)

pub carried_noted : (scope : List Value) (kind : Phrase) (loops at : ℕ) (before names all : List Defined) (uses : List Use) (types : List IrType) (best one two three four : Option ScopeFault)
    → at ≡ (word kind).at → uses ≡ inits_used (inits_of kind) → names ≡ map (λ (p : Defined × Use). p.0) (inits_of kind) → all ≡ before ++ names
    → one ≡ noted best (listed_breaks scope at uses types) → two ≡ noted one (repeated (names_of scope) all)
    → three ≡ noted two (over 16 (map (λ (d : Defined). d.at) names)) → four ≡ noted three (broken (nat_le 6 loops) at Limit)
    → four ≡ noted best (carried_breaks scope loops kind before types)
carried_noted scope kind loops at before names all uses types best one two three four at_is uses_is names_is all_is f g h k =
    noted_four best one two three four
    (listed_breaks scope (word kind).at (inits_used (inits_of kind)) types)
    (repeated (names_of scope) (before ++ map (λ (p : Defined × Use). p.0) (inits_of kind)))
    (over 16 (map (λ (p : Defined × Use). p.0.at) (inits_of kind)))
    (broken (nat_le 6 loops) (word kind).at Limit)
    (f ∙ ap (λ a. noted best (listed_breaks scope a uses types)) at_is ∙ ap (λ us. noted best (listed_breaks scope (word kind).at us types)) uses_is)
    (g ∙ ap (λ ds. noted one (repeated (names_of scope) ds)) (all_is ∙ ap (λ (ns : List Defined). before ++ ns) names_is))
    (h ∙ ap (λ ns. noted two (over 16 ns)) (ap (map (λ (d : Defined). d.at)) names_is ∙ pair_places (inits_of kind)))
    (k ∙ ap (λ a. noted three (broken (nat_le 6 loops) a Limit)) at_is)

pub params_noted : (scope : List Value) (at : ℕ) (word_at : ℕ) (names : List Defined) (types : List Written) (wanted : List IrType) (ps : List (Defined × Written)) (uneven : Bool)
    (best one two three four : Option ScopeFault)
    → at ≡ word_at → names ≡ map (λ (p : Defined × Written). p.0) ps → types ≡ map (λ (p : Defined × Written). p.1) ps → uneven ≡ not (nat_eq (length ps) (length wanted))
    → one ≡ noted best (repeated (names_of scope) names) → two ≡ noted one (over 16 (map (λ (d : Defined). d.at) names))
    → three ≡ noted two (written_breaks types wanted) → four ≡ noted three (broken uneven at Arity)
    → four ≡ noted best (params_breaks scope word_at wanted ps)
params_noted scope at word_at names types wanted ps uneven best one two three four at_is names_is types_is uneven_is f g h k =
    noted_four best one two three four
    (repeated (names_of scope) (map (λ (p : Defined × Written). p.0) ps))
    (over 16 (map (λ (p : Defined × Written). p.0.at) ps))
    (written_breaks (map (λ (p : Defined × Written). p.1) ps) wanted)
    (broken (not (nat_eq (length ps) (length wanted))) word_at Arity)
    (f ∙ ap (λ ds. noted best (repeated (names_of scope) ds)) names_is)
    (g ∙ ap (λ ns. noted one (over 16 ns)) (ap (map (λ (d : Defined). d.at)) names_is ∙ pair_places ps))
    (h ∙ ap (λ ts. noted two (written_breaks ts wanted)) types_is)
    (k ∙ ap (λ b. noted three (broken b at Arity)) uneven_is ∙ ap (λ a. noted three (broken (not (nat_eq (length ps) (length wanted))) a Arity)) at_is)
