-- What operations break, part by part.
use Rattle.std.proofs.Common.{◌≡◌, ℕ, List, ◌++◌, length, Option, refl, ap, ◌∙◌, sym, append_assoc}
use Rattle.mlir_ir.specs.Phrases.{Phrase, Line}
use Rattle.mlir_ir.specs.Resolved.{tys}
use Rattle.mlir_ir.specs.ScopeFaults.{Inside, uses_breaks, packs_breaks, operands, kind_breaks, simple_breaks, block_breaks, defined_by}
use Rattle.mlir_ir.specs.Source.{Block, op, Use, Packed, head, word, op_types, region, region_behind}
use Rattle.mlir_ir.specs.Values.{Value}
use Rattle.mlir_ir.specs.declared.terminal.Terminal.{Terminal}
use Rattle.mlir_ir.specs.declared.terminal.Terminal.TheVariants.{If, For, While}
use Rattle.mlir_scope.specs.Noted.{noted}
use Rattle.mlir_scope.specs.Walked.{breaks_of_kind, values_of_operation}
use Rattle.mlir_scope.specs.Walks.{own_breaks}
use Rattle.mlir_scope.specs.declared.first.ScopeFault.{ScopeFault}
use Rattle.mlir_scope.proofs.Notes.{noted_two, noted_append}

pub own_noted : (scope : List Value) (kind : Phrase) (at results : ℕ) (uses : List Use) (packs said_packs : List Packed) (best one two : Option ScopeFault)
    → at ≡ (word kind).at → uses ≡ operands (head kind) kind → results ≡ length (tys (op_types (head kind) kind)) → packs ≡ said_packs
    → one ≡ noted best (uses_breaks scope at uses) → two ≡ noted one (packs_breaks scope at results packs)
    → two ≡ noted best (own_breaks scope said_packs kind)
own_noted scope kind at results uses packs said_packs best one two at_is uses_is results_is packs_is f g =
    noted_two best one two
    (uses_breaks scope (word kind).at (operands (head kind) kind))
    (packs_breaks scope (word kind).at (length (tys (op_types (head kind) kind))) said_packs)
    (f ∙ ap (λ a. noted best (uses_breaks scope a uses)) at_is ∙ ap (λ us. noted best (uses_breaks scope (word kind).at us)) uses_is)
    (g ∙ ap (λ a. noted one (packs_breaks scope a results packs)) at_is
    ∙ ap (λ n. noted one (packs_breaks scope (word kind).at n packs)) results_is
    ∙ ap (λ ps. noted one (packs_breaks scope (word kind).at (length (tys (op_types (head kind) kind))) ps)) packs_is)

-- one operation more of a block
pub block_step : (funcs : List Line) (loops at : ℕ) (packs : List Packed) (kind : Phrase) (all rest : Block) (scope more : List Value) (best one two : Option ScopeFault)
    → all ≡ op at packs kind (region kind) (region_behind kind) rest
    → one ≡ noted best (own_breaks scope packs kind) → two ≡ noted one (breaks_of_kind funcs loops scope kind) → more ≡ scope ++ values_of_operation packs kind
    → noted two (block_breaks funcs rest loops more) ≡ noted best (block_breaks funcs all loops scope)
block_step funcs loops at packs kind all rest scope more best one two is f g put =
    ap (λ s. noted two (block_breaks funcs rest loops s)) put
    ∙ sym (noted_append best (own_breaks scope packs kind ++ breaks_of_kind funcs loops scope kind) (block_breaks funcs rest loops (scope ++ values_of_operation packs kind))
    ∙ ap (λ b. noted b (block_breaks funcs rest loops (scope ++ values_of_operation packs kind)))
    (sym (noted_two best one two (own_breaks scope packs kind) (breaks_of_kind funcs loops scope kind) f g)))
    ∙ ap (λ b. noted best (block_breaks funcs b loops scope)) (sym is)

pub scope_step : (at : ℕ) (packs : List Packed) (kind : Phrase) (all rest : Block) (scope more : List Value)
    → all ≡ op at packs kind (region kind) (region_behind kind) rest → more ≡ scope ++ values_of_operation packs kind
    → (more ++ defined_by rest) ≡ (scope ++ defined_by all)
scope_step at packs kind all rest scope more is put =
    ap (λ s. s ++ defined_by rest) put ∙ append_assoc scope (values_of_operation packs kind) (defined_by rest) ∙ ap (λ b. scope ++ defined_by b) (sym is)

-- operations without regions
pub plain_kind : (funcs : List Line) (loops : ℕ) (scope : List Value) (c : Terminal) (kind : Phrase) (first second : Block) (in_first in_second : Inside)
    → (c ≡ If → ⊥) → (c ≡ For → ⊥) → (c ≡ While → ⊥)
    → kind_breaks funcs loops scope c kind first second in_first in_second ≡ simple_breaks funcs scope c kind
plain_kind funcs loops scope If kind first second in_first in_second a b d = absurd (a refl)
plain_kind funcs loops scope For kind first second in_first in_second a b d = absurd (b refl)
plain_kind funcs loops scope While kind first second in_first in_second a b d = absurd (d refl)
plain_kind funcs loops scope _ kind first second in_first in_second a b d = refl
