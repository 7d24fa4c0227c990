-- Scopes of types as they grow, and labels that get other labels of the same types.
use Rattle.std.proofs.Common.{◌≡◌, ℕ, ◌+◌, ◌<◌, ◌≤◌, ◌==◌, inl, inr, true, List, [], ◌∷◌, length, refl, ap, ◌∙◌, sym, arith, Option, Some, None}
use Rattle.std.proofs.lemmas.Bool.{cases_eq, cases_lt, ne_eqb}
use Rattle.std.proofs.lemmas.Bool.Decides.{nat_tests}
use Rattle.std.specs.Option.{is_some, option_or}
use Rattle.mlir_ir.specs.declared.types.Arg.{Arg}
use Rattle.mlir_ir.specs.declared.types.IrType.{IrType}
use Rattle.mlir_ir.specs.Rules.{arg_types}
use Rattle.mlir_ir.specs.Operations.{OpList, nil, next, labels_of, inner_labels}
use Rattle.mlir_ir.specs.Typed.{Types, typed_from, with_types, types_after}
use Rattle.pass_copy.proofs.RenamedOps.{same, arg_types_length}

-- f gives each label of the first scope one of the same type in the second
abbrev pub Carries : (ℕ → ℕ) → Types → Types → Type 0
Carries f T T' = (l : ℕ) → is_some (T l) ≡ true → T' (f l) ≡ T l

-- no label from `at` on is in scope
abbrev pub Below : ℕ → Types → Type 0
Below at T = (l : ℕ) → at ≤ l → T l ≡ None

-- the n labels from `at` on get those from at' on
abbrev pub Moves : (ℕ → ℕ) → ℕ → ℕ → ℕ → Type 0
Moves f at at' n = (l : ℕ) → at ≤ l → l < at + n → f l + at ≡ l + at'

pub typed_past : (at : ℕ) (tys : List IrType) (l : ℕ) → at + length tys ≤ l → typed_from at tys l ≡ None
typed_past at [] l h = refl
typed_past at (ty ∷ tys) l h = rw (ne_eqb at l (λ e. omega arith)) (typed_past (at + 1) tys l (omega arith))

-- a label that is typed from `at` on is one of these
pub typed_there : (at : ℕ) (tys : List IrType) (l : ℕ) → is_some (typed_from at tys l) ≡ true → (at ≤ l) × (l < at + length tys)
typed_there at [] l e = cc
typed_there at (ty ∷ tys) l e = elim (cases_eq at l) [
  | inl q ↦ (omega arith, omega arith)
  | inr ne ↦ let h = typed_there (at + 1) tys l (rw (ne_eqb at l ne) at e) in (omega (arith, h.0), omega (arith, h.1))
]

same_test : (a l a' l' : ℕ) → l' + a ≡ l + a' → (a' == l') ≡ (a == l)
same_test a l a' l' e = grind (arith, nat_tests)

pub typed_moved : (at at' : ℕ) (tys : List IrType) (l l' : ℕ) → l' + at ≡ l + at' → typed_from at' tys l' ≡ typed_from at tys l
typed_moved at at' [] l l' e = refl
typed_moved at at' (ty ∷ tys) l l' e = rw (same_test at l at' l' e, typed_moved (at + 1) (at' + 1) tys l l' (omega arith)) refl

-- scopes without labels from a place on

pub below_more : (at b : ℕ) (T : Types) → at ≤ b → Below at T → Below b T
below_more at b T le h l le2 = h l (omega arith)

pub below_with : (at b c : ℕ) (tys : List IrType) (T : Types) → Below at T → at ≤ b → b + length tys ≤ c → Below c (with_types T b tys)
below_with at b c tys T h le le2 l le3 = rw (h l (omega arith), typed_past b tys l (omega arith)) refl

pub below_after : (at : ℕ) (ops : OpList) (T : Types) → Below at T → Below (at + labels_of ops) (types_after T at ops)
below_after at nil T h = below_more at (at + 0) T (omega arith) h
below_after at (next packs results kind rest) T h =
    below_more (at + (inner_labels kind + length results) + labels_of rest) (at + (inner_labels kind + length results + labels_of rest)) _ (omega arith)
    (below_after (at + (inner_labels kind + length results)) rest (with_types T (at + inner_labels kind) results)
    (below_with at (at + inner_labels kind) (at + (inner_labels kind + length results)) results T h (omega arith) (omega arith)))

none_some : (o : Option IrType) → o ≡ None → is_some o ≡ true → ⊥
none_some None e f = cc
none_some (Some t) e f = cc

-- a label in such a scope is in front of the place
pub below_known : (T : Types) (at l : ℕ) → Below at T → is_some (T l) ≡ true → l < at
below_known T at l b e = elim (cases_lt l at) [ inl h ↦ h | inr h ↦ absurd (none_some (T l) (b l h) e) ]

-- labels that move

pub moves_part : (f : ℕ → ℕ) (at at' n b b' k : ℕ) → at ≤ b → b + k ≤ at + n → b + at' ≡ b' + at → Moves f at at' n → Moves f b b' k
moves_part f at at' n b b' k le lt e m l h h2 = let q : f l + at ≡ l + at' = m l (omega arith) (omega arith) in omega arith

module _ (f : ℕ → ℕ) where
  carried : (o o' : Option IrType) (n n' : Option IrType) → is_some (option_or o n) ≡ true → (is_some o ≡ true → o' ≡ o) → (o ≡ None → is_some n ≡ true → (o' ≡ None) × (n' ≡ n))
      → option_or o' n' ≡ option_or o n
  carried None o' n n' e c d = let h = d refl e in rw (h.0, h.1) refl
  carried (Some ty) o' n n' e c d = rw (c refl) refl

  pub carries_with : (T T' : Types) (at at' : ℕ) (tys : List IrType) → Carries f T T' → Below at' T' → Moves f at at' (length tys) → Carries f (with_types T at tys) (with_types T' at' tys)
  carries_with T T' at at' tys c b m l e =
      carried (T l) (T' (f l)) (typed_from at tys l) (typed_from at' tys (f l)) e (c l)
      (λ none some. let h = typed_there at tys l some in let q : f l + at ≡ l + at' = m l h.0 h.1 in (b (f l) (omega (arith, h.0)), typed_moved at at' tys l (f l) q))

-- scopes that grow

some_or : (o n : Option IrType) → is_some o ≡ true → option_or o n ≡ o
some_or None n e = cc
some_or (Some ty) n e = refl

pub with_keeps : (T : Types) (at : ℕ) (tys : List IrType) → Carries same T (with_types T at tys)
with_keeps T at tys l e = some_or (T l) (typed_from at tys l) e

pub after_keeps : (T : Types) (at : ℕ) (ops : OpList) → Carries same T (types_after T at ops)
after_keeps T at nil l e = refl
after_keeps T at (next packs results kind rest) l e =
    let U = with_types T (at + inner_labels kind) results in
    let b : U l ≡ T l = with_keeps T (at + inner_labels kind) results l e in
    after_keeps U (at + (inner_labels kind + length results)) rest l (rw b e) ∙ b

pub carries_then : (g : ℕ → ℕ) (A B C : Types) → Carries g A B → Carries same B C → Carries g A C
carries_then g A B C c d l e = d (g l) (rw (c l e) e) ∙ c l e

-- what a label has that is in one of two lists of types
pub or_some : (o n r : Option IrType) → is_some (option_or o n) ≡ true → (is_some o ≡ true → r ≡ o) → (o ≡ None → is_some n ≡ true → r ≡ n) → r ≡ option_or o n
or_some None n r e a b = b refl e
or_some (Some t) n r e a b = a refl

-- where f keeps the labels in front of t, each label of a scope with no others has its own type in the second scope
pub carries_back : (f : ℕ → ℕ) (T T' : Types) (t : ℕ) → ((l : ℕ) → l < t → f l ≡ l) → Below t T → Carries f T T' → Carries same T T'
carries_back f T T' t stay b c l e = sym (ap T' (stay l (below_known T t l b e))) ∙ c l e

-- the scope in the body of an `scf.for` that begins with label `at`
abbrev pub scope_inside : Types → ℕ → Arg → List Arg → Types
scope_inside T at iv args = with_types (with_types T (at + 1) (iv.ty ∷ [])) (at + 2) (arg_types args)

pub inside_below : (T : Types) (at : ℕ) (iv : Arg) (args : List Arg) → Below at T → Below (at + 2 + length args) (scope_inside T at iv args)
inside_below T at iv args b =
    let la = arg_types_length args in
    below_with (at + 2) (at + 2) (at + 2 + length args) (arg_types args) (with_types T (at + 1) (iv.ty ∷ [])) (below_with at (at + 1) (at + 2) (iv.ty ∷ []) T b (omega arith) (omega arith))
    (omega arith) (omega (arith, la))

pub inside_keeps : (T : Types) (at : ℕ) (iv : Arg) (args : List Arg) → Carries same T (scope_inside T at iv args)
inside_keeps T at iv args =
    carries_then same T (with_types T (at + 1) (iv.ty ∷ [])) (scope_inside T at iv args) (with_keeps T (at + 1) (iv.ty ∷ []))
    (with_keeps (with_types T (at + 1) (iv.ty ∷ [])) (at + 2) (arg_types args))

pub inside_carried : (f : ℕ → ℕ) (T T' : Types) (at at' : ℕ) (iv : Arg) (args : List Arg) → Carries f T T' → Below at' T' → Moves f at at' (2 + length args)
    → Carries f (scope_inside T at iv args) (scope_inside T' at' iv args)
inside_carried f T T' at at' iv args c b m =
    let la = arg_types_length args in
    let n = 2 + length args in
    let tv = iv.ty ∷ [] in
    carries_with f (with_types T (at + 1) tv) (with_types T' (at' + 1) tv) (at + 2) (at' + 2) (arg_types args)
    (carries_with f T T' (at + 1) (at' + 1) tv c (below_more at' (at' + 1) T' (omega arith) b) (moves_part f at at' n (at + 1) (at' + 1) 1 (omega arith) (omega arith) (omega arith) m))
    (below_with at' (at' + 1) (at' + 2) tv T' b (omega arith) (omega arith))
    (moves_part f at at' n (at + 2) (at' + 2) (length (arg_types args)) (omega arith) (omega (arith, la)) (omega arith) m)
