-- Lists of the canonical pieces whose uses are seen in scope with their types: operands, first values and terminators.
use Rattle.std.proofs.Common.{◌≡◌, ℕ, Bool, true, false, List, [], ◌∷◌, refl, ap, ◌∙◌, sym, subst, codes, map, nat_lt, arith, length, Some, if◌then◌else◌}
use Rattle.std.specs.List.{zip}
use Rattle.std.specs.Option.{option_map_or}
use Rattle.arith_word.specs.declared.label.Label.{Label}
use Rattle.mlir_ir.specs.Canonical.{Naming}
use Rattle.mlir_ir.specs.GrammarNumbers.{same}
use Rattle.mlir_ir.specs.Phrases.{Phrase, done, token, inside, has}
use Rattle.mlir_ir.specs.Resolved.{tys, inits_used}
use Rattle.mlir_ir.specs.ScopeFaults.{broken, region_ending, ending_breaks}
use Rattle.mlir_ir.specs.Source.{Defined, Use, names_in, uses_in, types_in, listed_uses, listed_types, ending}
use Rattle.mlir_ir.specs.Values.{Value, type_at}
use Rattle.mlir_ir.specs.declared.scope_kind.ScopeKind.TheVariants.{Arity}
use Rattle.mlir_ir.specs.declared.terminal.Terminal.{Terminal}
use Rattle.mlir_ir.specs.declared.terminal.Terminal.TheVariants as ts
use Rattle.mlir_ir.specs.declared.syntax.Form.TheVariants as forms
use Rattle.mlir_ir.specs.declared.types.Arg.{Arg}
use Rattle.mlir_ir.specs.declared.types.IrType.{IrType}
use Rattle.mlir_ir.specs.declared.types.Region.{Row_of-Op, end_of-Op, more_of-Op}
use Rattle.round_trip.specs.CanonicalPieces.{type_piece, behind_commas_piece, joined_piece, use_piece, used_type_piece, init_piece, ends_piece, yield_piece, row_piece, kind_piece}
use Rattle.round_trip.specs.PiecePhrases.{said}
use Rattle.round_trip.specs.Pieces.{Piece, empty}
use Rattle.round_trip.specs.ReadUses.{ReadsAs}
use Rattle.round_trip.specs.Sound.{Each, IsType}
use Rattle.round_trip.proofs.ReadIfs.{braces}
use Rattle.round_trip.proofs.ReadLists.{joined_types, cons_is}
use Rattle.round_trip.proofs.ReadRows.{row_inside}
use Rattle.round_trip.proofs.SeenUses.{Alike, SeesAll, use_sees, type_of_use, ending_fine}

-- types of labels, by the list
abbrev pub Typed : Naming → List IrType → List Label → Type 0
Typed naming types ls = map (λ (l : Label). type_at naming.values l.0) ls ≡ map (λ (ty : IrType). Some ty) types

pub typed_first : (naming : Naming) (ty : IrType) (types : List IrType) (l : Label) (ls : List Label) → Typed naming (ty ∷ types) (l ∷ ls) → (type_at naming.values l.0 ≡ Some ty) × Typed naming types ls
typed_first naming ty types l ls e = let first : type_at naming.values l.0 ≡ Some ty = cc in let rest : Typed naming types ls = cc in (first, rest)

-- first values of loop-carried values with these types
abbrev pub InitsSeen : List Value → List Arg → List IrType → List (Defined × Use) → Type 0
InitsSeen s args types inits =
    SeesAll s (inits_used inits) types × (map (λ (d : Defined). d.name) (map (λ (p : Defined × Use). p.0) inits) ≡ map (λ (arg : Arg). arg.name) args)

-- operands

module _ (naming : Naming) (scope : List Value) (f : Label → Label) (s : List Value) (same : Alike s scope) where
  behind_sees : (ls : List Label) (types : List IrType) → Each (λ l. ReadsAs naming scope l (f l)) ls → Typed naming types ls → (at : ℕ) → SeesAll s (uses_in (said at (behind_commas_piece (map (use_piece naming) ls)) done)) types
  behind_sees [] [] is t at = tt
  behind_sees [] (ty ∷ types) is t at = cc
  behind_sees (l ∷ ls) [] is t at = cc
  behind_sees (l ∷ ls) (ty ∷ types) is t at =
      let p = typed_first naming ty types l ls t in
      rw is.0.found (use_sees naming scope s l (f l) is.0 same ty (type_of_use naming scope l (f l) is.0 ty p.0) _ _, behind_sees ls types is.1 p.1 _)

  pub joined_sees : (ls : List Label) (types : List IrType) → Each (λ l. ReadsAs naming scope l (f l)) ls → Typed naming types ls → (at : ℕ) → SeesAll s (uses_in (said at (joined_piece (map (use_piece naming) ls)) done)) types
  joined_sees [] [] is t at = tt
  joined_sees [] (ty ∷ types) is t at = cc
  joined_sees (l ∷ ls) [] is t at = cc
  joined_sees (l ∷ ls) (ty ∷ types) is t at =
      let p = typed_first naming ty types l ls t in
      rw is.0.found (use_sees naming scope s l (f l) is.0 same ty (type_of_use naming scope l (f l) is.0 ty p.0) _ _, behind_sees ls types is.1 p.1 _)

  behind_inits : (args : List Arg) (ls : List Label) (types : List IrType) → length args ≡ length ls → Each (λ l. ReadsAs naming scope l (f l)) ls → Typed naming types ls → (at : ℕ)
      → let p = said at (behind_commas_piece (map (init_piece naming) (zip args ls))) done in InitsSeen s args types (zip (names_in p) (uses_in p))
  behind_inits [] [] [] e is t at = (tt, refl)
  behind_inits [] [] (ty ∷ types) e is t at = cc
  behind_inits [] (l ∷ ls) types e is t at = absurd (omega arith)
  behind_inits (arg ∷ args) [] types e is t at = absurd (omega arith)
  behind_inits (arg ∷ args) (l ∷ ls) [] e is t at = cc
  behind_inits (arg ∷ args) (l ∷ ls) (ty ∷ types) e is t at =
      let p = typed_first naming ty types l ls t in
      rw is.0.found
      (let more = behind_inits args ls types (omega arith) is.1 p.1 _ in ((use_sees naming scope s l (f l) is.0 same ty (type_of_use naming scope l (f l) is.0 ty p.0) _ _, more.0), cons_is refl more.1))

  pub inits_seen : (args : List Arg) (ls : List Label) (types : List IrType) → length args ≡ length ls → Each (λ l. ReadsAs naming scope l (f l)) ls → Typed naming types ls → (at : ℕ)
      → let p = said at (joined_piece (map (init_piece naming) (zip args ls))) done in InitsSeen s args types (zip (names_in p) (uses_in p))
  inits_seen [] [] [] e is t at = (tt, refl)
  inits_seen [] [] (ty ∷ types) e is t at = cc
  inits_seen [] (l ∷ ls) types e is t at = absurd (omega arith)
  inits_seen (arg ∷ args) [] types e is t at = absurd (omega arith)
  inits_seen (arg ∷ args) (l ∷ ls) [] e is t at = cc
  inits_seen (arg ∷ args) (l ∷ ls) (ty ∷ types) e is t at =
      let p = typed_first naming ty types l ls t in
      rw is.0.found
      (let more = behind_inits args ls types (omega arith) is.1 p.1 _ in ((use_sees naming scope s l (f l) is.0 same ty (type_of_use naming scope l (f l) is.0 ty p.0) _ _, more.0), cons_is refl more.1))

-- the types of operands, as written

pub used_pieces : (naming : Naming) (ls : List Label) (types : List IrType) → Typed naming types ls → map (used_type_piece naming) ls ≡ map type_piece types
used_pieces naming [] [] t = refl
used_pieces naming [] (ty ∷ types) t = cc
used_pieces naming (l ∷ ls) [] t = cc
used_pieces naming (l ∷ ls) (ty ∷ types) t =
    let p = typed_first naming ty types l ls t in λ i. option_map_or type_piece (p.0 i) empty ∷ used_pieces naming ls types p.1 i

pub joined_used : (naming : Naming) (at : ℕ) (ls : List Label) (types : List IrType) → Each IsType types → Typed naming types ls → tys (types_in (said at (joined_piece (map (used_type_piece naming) ls)) done)) ≡ types
joined_used naming at ls types is t = ap (λ (ps : List Piece). tys (types_in (said at (joined_piece ps) done))) (used_pieces naming ls types t) ∙ joined_types at types is

-- terminators

-- the operands of a terminator have these types, which are written
pub record EndsSeen (s : List Value) (wanted : List IrType) (parts : Phrase) : Type 0 where
  pub sees : SeesAll s (listed_uses parts) wanted
  pub types : tys (listed_types parts) ≡ wanted

none_wanted : (s : List Value) (naming : Naming) (wanted : List IrType) → Typed naming wanted [] → EndsSeen s wanted done
none_wanted s naming [] t = record { sees = tt; types = refl }
none_wanted s naming (ty ∷ types) t = cc

pub no_types : (naming : Naming) (wanted : List IrType) → Typed naming wanted [] → wanted ≡ []
no_types naming [] t = refl
no_types naming (ty ∷ types) t = cc

pub ends_seen : (naming : Naming) (scope s : List Value) (f : Label → Label) (ls : List Label) (wanted : List IrType) → Alike s scope → Each IsType wanted → Each (λ l. ReadsAs naming scope l (f l)) ls → Typed naming wanted ls
    → (rest : Phrase) → inside forms.Ends rest ≡ done → (at : ℕ) → EndsSeen s wanted (inside forms.Ends (said at (ends_piece naming ls) rest))
ends_seen naming scope s f [] wanted same w is t rest e at = subst (EndsSeen s wanted) (sym e) (none_wanted s naming wanted t)
ends_seen naming scope s f (l ∷ ls) wanted same w is t rest e at =
    record { sees = joined_sees naming scope f s same (l ∷ ls) wanted is t _; types = joined_used naming _ (l ∷ ls) wanted w t }

pub yield_seen : (naming : Naming) (scope s : List Value) (f : Label → Label) (depth : ℕ) (ls : List Label) (wanted : List IrType) → Alike s scope → Each IsType wanted → Each (λ l. ReadsAs naming scope l (f l)) ls → Typed naming wanted ls
    → (rest : Phrase) → inside forms.Ends rest ≡ done → (at : ℕ) → EndsSeen s wanted (inside forms.Ends (said at (yield_piece naming depth ls) rest))
yield_seen naming scope s f depth [] wanted same w is t rest e at = subst (EndsSeen s wanted) (sym e) (none_wanted s naming wanted t)
yield_seen naming scope s f depth (l ∷ ls) wanted same w is t rest e at =
    record { sees = joined_sees naming scope f s same (l ∷ ls) wanted is t _; types = joined_used naming _ (l ∷ ls) wanted w t }

pub ends_fine : (s : List Value) (wanted : List IrType) (c : Terminal) (parts : Phrase) → EndsSeen s wanted (inside forms.Ends parts) → ending_breaks s wanted (ending c parts) ≡ []
ends_fine s wanted c parts h = ending_fine s wanted (ending c parts) h.sees h.types

-- no word stands among operations
pub row_has : (naming : Naming) (c : Terminal) (n : _) (row : Row_of-Op n) (rest : Phrase) (depth at : ℕ) → has c (said at (row_piece naming depth row) rest) ≡ has c rest
unfolding kind_piece
row_has naming c n end_of-Op rest depth at = refl
row_has naming c n (more_of-Op packs results kind more) rest depth at = row_has naming c _ more rest depth _

-- a region in braces, whose yield may be missing
pub region_fine : (naming : Naming) (scope s : List Value) (f : Label → Label) (depth a b c d word : ℕ) (n : _) (row : Row_of-Op n) (ends : List Label) (wanted : List IrType) → Alike s scope → Each IsType wanted
    → Each (λ l. ReadsAs naming scope l (f l)) ends → Typed naming wanted ends → region_ending s word wanted (braces naming depth a b c d row ends) ≡ []
region_fine naming scope s f depth a b c d word n row [] wanted same w is t =
    let parts = braces naming depth a b c d row [] in
    let lacks : has ts.Yield parts ≡ false = row_has naming ts.Yield n row (token d ts.RightBrace (codes "}") done) depth b in
    let few = no_types naming wanted t in
    (λ i. if lacks i then ending_breaks s wanted (ending ts.Yield parts) else broken (nat_lt 0 (length (few i))) word Arity)
region_fine naming scope s f depth a b c d word n row (l ∷ ls) wanted same w is t =
    let parts = braces naming depth a b c d row (l ∷ ls) in
    let tail = said c (yield_piece naming depth (l ∷ ls)) (token d ts.RightBrace (codes "}") done) in
    let there : has ts.Yield parts ≡ true = row_has naming ts.Yield n row tail depth b in
    let seen = yield_seen naming scope s f depth (l ∷ ls) wanted same w is t (token d ts.RightBrace (codes "}") done) refl c in
    let here : inside forms.Ends parts ≡ inside forms.Ends tail = row_inside naming forms.Ends refl n row tail depth b in
    ap (λ (x : Bool). if x then ending_breaks s wanted (ending ts.Yield parts) else broken (nat_lt 0 (length wanted)) word Arity) there
    ∙ ends_fine s wanted ts.Yield parts (subst (EndsSeen s wanted) (sym here) seen)
