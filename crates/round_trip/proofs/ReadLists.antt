-- Lists of the canonical pieces as the resolver reads them: types, results, uses, packs, arguments and first values.
use Rattle.std.proofs.Common.{◌≡◌, ℕ, ◌+◌, ◌^◌, ◌<◌, ◌≤◌, Bool, true, false, List, [], ◌∷◌, ◌++◌, refl, ap, codes, map, nat_lt, if◌then◌else◌, arith, length}
use Rattle.std.specs.Fmt.{decimal}
use Rattle.std.specs.List.{zip}
use Rattle.arith_word.specs.declared.label.Label.{Label}
use Rattle.mlir_ir.specs.Canonical.{Naming}
use Rattle.mlir_ir.specs.Phrases.{Phrase, done, token, Line, lines, inside}
use Rattle.mlir_ir.specs.Resolved.{labels, tys, packs_of, args_of, carried, inits_used}
use Rattle.mlir_ir.specs.Rules.{arg_types}
use Rattle.mlir_ir.specs.Source.{Defined, Packed, Use, Written, written, packed, uses_in, types_in, listed_uses, listed_types, params_in, names_in}
use Rattle.mlir_ir.specs.Values.{Value}
use Rattle.mlir_ir.specs.declared.terminal.Terminal.TheVariants as ts
use Rattle.mlir_ir.specs.declared.syntax.Form.TheVariants as forms
use Rattle.mlir_ir.specs.declared.token.TokenKind.TheVariants as kinds
use Rattle.mlir_ir.specs.declared.types.Arg.{Arg}
use Rattle.mlir_ir.specs.declared.types.IrType.{IrType}
use Rattle.mlir_ir.specs.declared.types.Pack.{Pack}
use Rattle.round_trip.specs.CanonicalPieces.{colon, name_piece, type_piece, behind_commas_piece, joined_piece, bracketed_piece, types_piece, use_piece, uses_piece, pack_piece, packs_piece, arg_piece, init_piece, ends_piece, yield_piece}
use Rattle.round_trip.specs.PiecePhrases.{said}
use Rattle.round_trip.specs.Pieces.{empty, leaf, ◌<>◌}
use Rattle.round_trip.specs.ReadUses.{ReadsAs}
use Rattle.round_trip.specs.Sound.{Each, IsType}
use Rattle.round_trip.proofs.ReadUses.{type_parts, label_read, type_read}
use Rattle.round_trip.proofs.StandingPieces.{number_is}
use Rattle.std.proofs.lemmas.Bool.Decides.{nat_tests}
use Rattle.round_trip.proofs.WrittenWords.{decimal_back}

pub cons_is : {A : Type 0} {x y : A} {xs ys : List A} → x ≡ y → xs ≡ ys → (x ∷ xs) ≡ (y ∷ ys)
cons_is e f = λ i. e i ∷ f i

pub type_is : (at i : ℕ) (ty : IrType) → IsType ty → (written (record { at = i; parts = type_parts at ty })).ty ≡ ty
type_is at i ty is = ap (λ (t : Written). t.ty) (type_read at i ty is)

-- types

behind_types : (xs : List IrType) → Each IsType xs → (at : ℕ) → tys (types_in (said at (behind_commas_piece (map type_piece xs)) done)) ≡ xs
behind_types [] is at = refl
behind_types (ty ∷ xs) is at = cons_is (type_is _ 0 ty is.0) (behind_types xs is.1 _)

pub joined_types : (at : ℕ) (xs : List IrType) → Each IsType xs → tys (types_in (said at (joined_piece (map type_piece xs)) done)) ≡ xs
joined_types at [] is = refl
joined_types at (ty ∷ xs) is = cons_is (type_is _ 0 ty is.0) (behind_types xs is.1 _)

-- those of a list, where it has some, before what has no list of types
pub listed_types_read : (at : ℕ) (xs : List IrType) (rest : Phrase) → Each IsType xs → inside forms.Types rest ≡ done → tys (listed_types (said at (types_piece xs) rest)) ≡ xs
listed_types_read at [] rest is e = ap (λ p. tys (types_in p)) e
listed_types_read at (ty ∷ xs) rest is e = joined_types at (ty ∷ xs) is

-- what stands in the line of results
pub results_list_read : (at : ℕ) (xs : List IrType) → Each IsType xs
    → let parts = said at (bracketed_piece (types_piece xs)) done in tys (types_in parts ++ listed_types parts) ≡ xs
results_list_read at [] is = refl
results_list_read at (ty ∷ xs) is = joined_types _ (ty ∷ xs) is

pub bare_result_read : (at : ℕ) (ty : IrType) → IsType ty
    → let parts = said at (type_piece ty) done in tys (types_in parts ++ listed_types parts) ≡ ty ∷ []
bare_result_read at ty is = cons_is (type_is _ 0 ty is) refl

-- uses

behind_uses : (naming : Naming) (scope : List Value) (f : Label → Label) (ls : List Label) → Each (λ l. ReadsAs naming scope l (f l)) ls → (at : ℕ)
    → labels scope (uses_in (said at (behind_commas_piece (map (use_piece naming) ls)) done)) ≡ map f ls
behind_uses naming scope f [] is at = refl
behind_uses naming scope f (l ∷ ls) is at =
    rw is.0.found (cons_is (label_read naming scope l (f l) is.0 _ 0) (behind_uses naming scope f ls is.1 _))

pub joined_uses : (naming : Naming) (scope : List Value) (f : Label → Label) (at : ℕ) (ls : List Label) → Each (λ l. ReadsAs naming scope l (f l)) ls
    → labels scope (uses_in (said at (joined_piece (map (use_piece naming) ls)) done)) ≡ map f ls
joined_uses naming scope f at [] is = refl
joined_uses naming scope f at (l ∷ ls) is =
    rw is.0.found (cons_is (label_read naming scope l (f l) is.0 _ 0) (behind_uses naming scope f ls is.1 _))

pub listed_uses_read : (naming : Naming) (scope : List Value) (f : Label → Label) (at : ℕ) (ls : List Label) (rest : Phrase) → Each (λ l. ReadsAs naming scope l (f l)) ls → inside forms.Uses rest ≡ done
    → labels scope (listed_uses (said at (uses_piece naming ls) rest)) ≡ map f ls
listed_uses_read naming scope f at [] rest is e = ap (λ p. labels scope (uses_in p)) e
listed_uses_read naming scope f at (l ∷ ls) rest is e = joined_uses naming scope f at (l ∷ ls) is

-- packs

abbrev pub IsPackRead : Pack → Type 0
IsPackRead pack = (1 ≤ pack.count) × (pack.count < 2 ^ 64)

abbrev pack_parts : ℕ → Pack → Phrase
pack_parts at pack = said at (name_piece pack.name) (said (at + 1) (if nat_lt 1 pack.count then colon <> leaf kinds.Number (decimal pack.count) else empty) done)

pack_read : (at i : ℕ) (pack : Pack) → IsPackRead pack → packed (record { at = i; parts = pack_parts at pack }) ≡ record { at = i; name = pack.name; count = pack.count }
pack_read at i pack is = go (nat_lt 1 pack.count) refl
  where
    go : (c : Bool) → nat_lt 1 pack.count ≡ c
        → packed (record { at = i; parts = said at (name_piece pack.name) (said (at + 1) (if c then colon <> leaf kinds.Number (decimal pack.count) else empty) done) })
        ≡ record { at = i; name = pack.name; count = pack.count }
    go true e = rw (number_is pack.count is.1) (ap (λ (k : ℕ). record { at = i; name = pack.name; count = k }) (decimal_back pack.count is.1))
    go false e = ap (λ (k : ℕ). record { at = i; name = pack.name; count = k }) (let one : 1 ≡ pack.count = grind (arith, nat_tests, is.0) in one)

abbrev packs_said : Phrase → List Pack
packs_said p = packs_of (map packed (lines forms.Pack p))

abbrev pub pack_of : Packed → Pack
pack_of p = record { name = p.name; count = p.count }

behind_packs : (rest : Phrase) → lines forms.Pack rest ≡ [] → (packs : List Pack) → Each IsPackRead packs → (at : ℕ) → packs_said (said at (behind_commas_piece (map pack_piece packs)) rest) ≡ packs
behind_packs rest e [] is at = ap (λ (l : List Line). packs_of (map packed l)) e
behind_packs rest e (pack ∷ packs) is at = cons_is (ap pack_of (pack_read _ 0 pack is.0)) (behind_packs rest e packs is.1 _)

pub packs_read : (packs : List Pack) → Each IsPackRead packs → (rest : Phrase) → lines forms.Pack rest ≡ [] → (at : ℕ) → packs_said (said at (packs_piece packs) rest) ≡ packs
packs_read [] is rest e at = ap (λ (l : List Line). packs_of (map packed l)) e
packs_read (pack ∷ packs) is rest e at = cons_is (ap pack_of (pack_read _ 0 pack is.0)) (behind_packs (token _ ts.Equals (codes "=") rest) e packs is.1 _)

-- arguments

abbrev params_said : Phrase → List Arg
params_said p = args_of (params_in p)

behind_args : (args : List Arg) → Each (λ (arg : Arg). IsType arg.ty) args → (at : ℕ) → params_said (said at (behind_commas_piece (map arg_piece args)) done) ≡ args
behind_args [] is at = refl
behind_args (arg ∷ args) is at = cons_is (ap (λ (ty : IrType). record { name = arg.name; ty = ty }) (type_is _ 0 arg.ty is.0)) (behind_args args is.1 _)

-- the parameters that stand in their line
pub args_read : (args : List Arg) → Each (λ (arg : Arg). IsType arg.ty) args → (at : ℕ) → params_said (said at (joined_piece (map arg_piece args)) done) ≡ args
args_read [] is at = refl
args_read (arg ∷ args) is at = cons_is (ap (λ (ty : IrType). record { name = arg.name; ty = ty }) (type_is _ 0 arg.ty is.0)) (behind_args args is.1 _)

-- first values of loop-carried values

abbrev inits_said : Phrase → List (Defined × Use)
inits_said p = zip (names_in p) (uses_in p)

abbrev pub InitsRead : List Value → (Label → Label) → List Arg → List Label → List (Defined × Use) → Type 0
InitsRead scope f args ls inits = (carried inits (arg_types args) ≡ args) × (labels scope (inits_used inits) ≡ map f ls)

behind_inits : (naming : Naming) (scope : List Value) (f : Label → Label) (args : List Arg) (ls : List Label) → length args ≡ length ls → Each (λ l. ReadsAs naming scope l (f l)) ls → (at : ℕ)
    → InitsRead scope f args ls (inits_said (said at (behind_commas_piece (map (init_piece naming) (zip args ls))) done))
behind_inits naming scope f [] [] e is at = (refl, refl)
behind_inits naming scope f [] (l ∷ ls) e is at = absurd (omega arith)
behind_inits naming scope f (arg ∷ args) [] e is at = absurd (omega arith)
behind_inits naming scope f (arg ∷ args) (l ∷ ls) e is at =
    rw is.0.found
    (let more = behind_inits naming scope f args ls (omega arith) is.1 _ in (cons_is refl more.0, cons_is (label_read naming scope l (f l) is.0 _ 0) more.1))

-- those that stand in their line
pub inits_read : (naming : Naming) (scope : List Value) (f : Label → Label) (args : List Arg) (ls : List Label) → length args ≡ length ls → Each (λ l. ReadsAs naming scope l (f l)) ls → (at : ℕ)
    → InitsRead scope f args ls (inits_said (said at (joined_piece (map (init_piece naming) (zip args ls))) done))
inits_read naming scope f [] [] e is at = (refl, refl)
inits_read naming scope f [] (l ∷ ls) e is at = absurd (omega arith)
inits_read naming scope f (arg ∷ args) [] e is at = absurd (omega arith)
inits_read naming scope f (arg ∷ args) (l ∷ ls) e is at =
    rw is.0.found
    (let more = behind_inits naming scope f args ls (omega arith) is.1 _ in (cons_is refl more.0, cons_is (label_read naming scope l (f l) is.0 _ 0) more.1))

-- the operands of a terminator

pub ends_read : (naming : Naming) (scope : List Value) (f : Label → Label) (ls : List Label) → Each (λ l. ReadsAs naming scope l (f l)) ls → (rest : Phrase) → inside forms.Ends rest ≡ done → (at : ℕ)
    → labels scope (listed_uses (inside forms.Ends (said at (ends_piece naming ls) rest))) ≡ map f ls
ends_read naming scope f [] is rest e at = ap (λ p. labels scope (listed_uses p)) e
ends_read naming scope f (l ∷ ls) is rest e at = joined_uses naming scope f _ (l ∷ ls) is

pub yield_read : (naming : Naming) (scope : List Value) (f : Label → Label) (depth : ℕ) (ls : List Label) → Each (λ l. ReadsAs naming scope l (f l)) ls → (rest : Phrase) → inside forms.Ends rest ≡ done → (at : ℕ)
    → labels scope (listed_uses (inside forms.Ends (said at (yield_piece naming depth ls) rest))) ≡ map f ls
yield_read naming scope f depth [] is rest e at = ap (λ p. labels scope (listed_uses p)) e
yield_read naming scope f depth (l ∷ ls) is rest e at = joined_uses naming scope f _ (l ∷ ls) is
