-- Parts of a text without breaks have none.
use Rattle.std.proofs.Common.{◌≡◌, ℕ, Bool, true, false, List, [], ◌∷◌, ◌++◌, map, refl}
use Rattle.std.specs.List.{flat_map}
use Rattle.mlir_ir.specs.Limits.{func_limit, module_op_limit}
use Rattle.mlir_ir.specs.Phrases.{Phrase, Line}
use Rattle.mlir_ir.specs.Resolved.{func_lines}
use Rattle.mlir_ir.specs.ScopeFaults.{broken, repeated, long_names, over, func_names, func_breaks, func_op_tokens, text_breaks}
use Rattle.mlir_ir.specs.declared.scope_kind.ScopeKind.{ScopeKind}
use Rattle.mlir_ir.specs.declared.token.Token.{Token}

pub none_append : {X : Type 0} (xs ys : List X) → (xs ++ ys) ≡ [] → (xs ≡ []) × (ys ≡ [])
none_append [] ys h = (refl, h)
none_append (x ∷ xs) ys h = cc

-- P holds of each element
abbrev pub Each : {X : Type 0} → (X → Type 0) → List X → Type 0
Each P [] = Unit {0}
Each P (x ∷ xs) = P x × Each P xs

pub each_append : {X : Type 0} (P : X → Type 0) (xs ys : List X) → Each P xs → Each P ys → Each P (xs ++ ys)
each_append P [] ys h g = g
each_append P (x ∷ xs) ys h g = (h.0, each_append P xs ys h.1 g)

pub each_split : {X : Type 0} (P : X → Type 0) (xs ys : List X) → Each P (xs ++ ys) → Each P xs × Each P ys
each_split P [] ys h = (tt, h)
each_split P (x ∷ xs) ys h = let r = each_split P xs ys h.1 in ((h.0, r.0), r.1)

pub not_broken : (b : Bool) (at : ℕ) (kind : ScopeKind) → broken b at kind ≡ [] → b ≡ false
not_broken true at kind h = cc
not_broken false at kind h = refl

-- the breaks of a text by their kinds
pub record TextParts (tokens : List Token) (text : Phrase) : Type 0 where
  pub short : long_names 0 tokens ≡ []
  pub names : repeated [] (func_names (func_lines text)) ≡ []
  pub inside : flat_map (func_breaks (func_lines text)) (func_lines text) ≡ []

pub text_parts : (tokens : List Token) (text : Phrase) → text_breaks tokens text ≡ [] → TextParts tokens text
text_parts tokens text h =
    let funcs = func_lines text in
    let a = none_append (long_names 0 tokens ++ over func_limit (map (λ (f : Line). f.at) funcs) ++ over module_op_limit (flat_map func_op_tokens funcs) ++ repeated [] (func_names funcs)) (flat_map (func_breaks funcs) funcs) h in
    let b = none_append (long_names 0 tokens ++ over func_limit (map (λ (f : Line). f.at) funcs) ++ over module_op_limit (flat_map func_op_tokens funcs)) (repeated [] (func_names funcs)) a.0 in
    let c = none_append (long_names 0 tokens ++ over func_limit (map (λ (f : Line). f.at) funcs)) (over module_op_limit (flat_map func_op_tokens funcs)) b.0 in
    let d = none_append (long_names 0 tokens) (over func_limit (map (λ (f : Line). f.at) funcs)) c.0 in
    record { short = d.0; names = b.1; inside = a.1 }
