-- The first function of a name, by the number under which its name is in scope.
use Rattle.std.proofs.Common.{◌≡◌, ℕ, ◌+◌, Bool, List, [], ◌∷◌, map, find, slice_get, Option, Some, None, refl, ap, ◌∙◌, sym, arith}
use Rattle.std.proofs.lemmas.Option.{slice_get-map}
use Rattle.std.specs.Borrow.{Bor}
use Rattle.std.specs.List.{position_from}
use Rattle.std.specs.Option.{option_map, option_copied}
use Rattle.std.specs.Str.{bytes_eq}
use Rattle.mlir_ir.specs.Phrases.{Line}
use Rattle.mlir_ir.specs.Resolved.{func_name}
use Rattle.mlir_scope.specs.Functions.{Called, called, signature_said, numbered}
use Rattle.mlir_scope.specs.Scopes.{label_named}
use Rattle.mlir_scope.specs.Texts.{has_signature}
use Rattle.mlir_scope.specs.declared.signatures.Signature.{Signature}
use Rattle.mlir_scope.proofs.FirstPlaces.{find_none, find_at_position}

abbrev is_called : List ℕ → Line → Bool
is_called name f = bytes_eq (func_name f) name

numbered_found : (name : List ℕ) (n : ℕ) (funcs : List Line) → label_named name (numbered n (map func_name funcs)) ≡ position_from (is_called name) n funcs
numbered_found name n [] = refl
numbered_found name n (f ∷ funcs) = grind (arith, numbered_found name (n + 1) funcs)

copied_signature : (r : Option (Bor Signature)) → option_map (λ (b : Bor Signature). signature_said b.now) r ≡ option_map signature_said (option_copied r)
copied_signature None = refl
copied_signature (Some b) = refl

-- the signature with that number is that of the first function of the name
pub signature_at : (r : Option (Bor Signature)) (signatures : List Signature) (funcs : List Line) (name : List ℕ) (i : ℕ)
    → option_copied r ≡ slice_get signatures i → map signature_said signatures ≡ map called funcs → label_named name (numbered 0 (map func_name funcs)) ≡ Some i
    → has_signature (find (λ f. bytes_eq (func_name f) name) funcs) r
signature_at r signatures funcs name i got listed named =
    let found : find (is_called name) funcs ≡ slice_get funcs i =
    find_at_position (is_called name) 0 funcs i i (sym (numbered_found name 0 funcs) ∙ named) (omega arith) in
    copied_signature r
    ∙ ap (option_map signature_said) got
    ∙ sym (slice_get-map signature_said signatures i)
    ∙ ap (λ (xs : List Called). slice_get xs i) listed
    ∙ slice_get-map called funcs i
    ∙ ap (option_map called) (sym found)

pub no_signature : (funcs : List Line) (name : List ℕ) → label_named name (numbered 0 (map func_name funcs)) ≡ None → has_signature (find (λ f. bytes_eq (func_name f) name) funcs) None
no_signature funcs name named = ap (option_map called) (sym (find_none (is_called name) 0 funcs (sym (numbered_found name 0 funcs) ∙ named)))
