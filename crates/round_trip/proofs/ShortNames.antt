-- The names in the canonical text of a well-formed function are short.
use Rattle.std.proofs.Common.{◌≡◌, ℕ, ℤ, pos, negsuc, ◌+◌, ◌==◌, ◌&&◌, not, nat_lt, Bool, true, false, List, [], ◌∷◌, ◌++◌, refl, ap, map, length, codes, find, arith, Option, None, Some, slice_index_or, if◌then◌else◌, zero, suc, subst}
use Rattle.std.proofs.lemmas.Bool.Decides.{nat_tests}
use Rattle.std.specs.Fmt.{decimal}
use Rattle.std.specs.List.{list_all, zip}
use Rattle.std.specs.Option.{option_map_or}
use Rattle.arith_word.specs.Word.{signed_reading}
use Rattle.arith_word.specs.declared.label.Label.{Label}
use Rattle.mlir_ir.specs.Canonical.{Naming}
use Rattle.mlir_ir.specs.Limits.{name_limit}
use Rattle.mlir_ir.specs.Rules.{is_short}
use Rattle.mlir_ir.specs.ScopeFaults.{has_value_name, long_names}
use Rattle.mlir_ir.specs.Sized.{SizedOps, SizedRegions}
use Rattle.mlir_ir.specs.Source.{unsigned}
use Rattle.mlir_ir.specs.Values.{Value, value_at, type_at}
use Rattle.mlir_ir.specs.View.{view_row, view_kind}
use Rattle.mlir_ir.specs.declared.scope_kind.ScopeKind.TheVariants.{Limit}
use Rattle.mlir_ir.specs.declared.token.Token.{Token}
use Rattle.mlir_ir.specs.declared.token.TokenKind.{TokenKind}
use Rattle.mlir_ir.specs.declared.token.TokenKind.TheVariants as kinds
use Rattle.mlir_ir.specs.declared.types.Arg.{Arg}
use Rattle.mlir_ir.specs.declared.types.Flags.{Flags}
use Rattle.mlir_ir.specs.declared.types.IrType.{IrType}
use Rattle.mlir_ir.specs.declared.types.IrType.TheVariants.{Int, Index}
use Rattle.mlir_ir.specs.declared.types.Pack.{Pack}
use Rattle.mlir_ir.specs.declared.types.Region.{Region', Row_of-Op, end_of-Op, more_of-Op}
use Rattle.mlir_ir.specs.declared.types.Kind.{Kind, Const, Bin, Cast, Cmp, Select, Call, If', For, While, None', Some'}
use Rattle.mlir_ir.specs.declared.types.ForParts.{ForParts'}
use Rattle.mlir_ir.specs.declared.types.WhileParts.{WhileParts'}
use Rattle.round_trip.specs.CanonicalPieces.{type_piece, behind_commas_piece, joined_piece, types_piece, results_piece, results_list_piece, arrow_list_piece, arrow_piece, name_piece, arg_piece, params_piece, value_piece, use_piece, used_type_piece, uses_piece, used_types_piece, ends_piece, pack_piece, packs_piece, flags_piece, signed_piece, truth_piece, number_piece, constant_piece, one_type, init_piece, inits_piece, simple_piece, counter_piece, carried_piece, while_inits_piece, block_piece, yield_piece, colon, row_piece, kind_piece}
use Rattle.round_trip.specs.Pieces.{Piece, empty, gap, leaf, branch, beside, ◌<>◌, placed, spelled}
use Rattle.round_trip.specs.Sound.{Each}
use Rattle.round_trip.proofs.HeldScopes.{not_held}
use Rattle.round_trip.proofs.SeenUses.{no_break}
use Rattle.round_trip.proofs.SoundScopes.{each_append}
use Rattle.round_trip.proofs.Tests.{and_parts}

-- pieces without a long name

abbrev is_long : TokenKind → List ℕ → Bool
is_long kind text = has_value_name kind && nat_lt name_limit (length (unsigned text))

abbrev pub brief : Piece → Bool
brief empty = true
brief (gap bytes) = true
brief (leaf kind text) = not (is_long kind text)
brief (branch form parts) = brief parts
brief (beside x y) = brief x && brief y

abbrev ShortToken : Token → Type 0
ShortToken token = is_long token.kind token.text ≡ false

piece_short : (p : Piece) (at : ℕ) → brief p ≡ true → Each ShortToken (placed at p)
piece_short empty at h = tt
piece_short (gap bytes) at h = tt
piece_short (leaf kind text) at h = (not_held (is_long kind text) h, tt)
piece_short (branch form parts) at h = piece_short parts at h
piece_short (beside x y) at h =
    let p = and_parts (brief x) (brief y) h in each_append ShortToken (placed at x) (placed (at + length (spelled x)) y) (piece_short x at p.0) (piece_short y (at + length (spelled x)) p.1)

none_long : (tokens : List Token) (k : ℕ) → Each ShortToken tokens → long_names k tokens ≡ []
none_long [] k h = refl
none_long (token ∷ tokens) k h = λ i. no_break (is_long token.kind token.text) k Limit h.0 i ++ none_long tokens (k + 1) h.1 i

pub brief_names : (p : Piece) → brief p ≡ true → long_names 0 (placed 0 p) ≡ []
brief_names p h = none_long (placed 0 p) 0 (piece_short p 0 h)

-- names

abbrev pub Short : List ℕ → Type 0
Short name = is_short name ≡ true

short_not_over : (name : List ℕ) → Short name → nat_lt name_limit (length name) ≡ false
short_not_over name h = grind (arith, nat_tests, h)

name_brief : (name : List ℕ) → Short name → brief (name_piece name) ≡ true
name_brief name h = ap not (short_not_over name h)

pub symbol_brief : (name : List ℕ) → Short name → brief (leaf kinds.Symbol (codes "@" ++ name)) ≡ true
symbol_brief name h = ap not (short_not_over name h)

-- lists

abbrev Brief : Piece → Type 0
Brief p = brief p ≡ true

behind_brief : (ps : List Piece) → Each Brief ps → brief (behind_commas_piece ps) ≡ true
behind_brief [] h = refl
behind_brief (p ∷ ps) h = λ i. h.0 i && behind_brief ps h.1 i

joined_brief : (ps : List Piece) → Each Brief ps → brief (joined_piece ps) ≡ true
joined_brief [] h = refl
joined_brief (p ∷ ps) h = λ i. h.0 i && behind_brief ps h.1 i

each_piece : {X : Type 0} (f : X → Piece) → ((x : X) → Brief (f x)) → (xs : List X) → Each Brief (map f xs)
each_piece f m [] = tt
each_piece f m (x ∷ xs) = (m x, each_piece f m xs)

pub types_brief : (tys : List IrType) → brief (types_piece tys) ≡ true
types_brief [] = refl
types_brief (ty ∷ tys) = joined_brief (map type_piece (ty ∷ tys)) (each_piece type_piece (λ t. refl) (ty ∷ tys))

list_brief : (tys : List IrType) → brief (results_list_piece tys) ≡ true
list_brief tys = rw (types_brief tys) refl

results_brief : (tys : List IrType) → brief (results_piece tys) ≡ true
results_brief [] = refl
results_brief (ty ∷ []) = refl
results_brief (ty ∷ other ∷ tys) = list_brief (ty ∷ other ∷ tys)

pub arrow_brief : (tys : List IrType) → brief (arrow_piece tys) ≡ true
arrow_brief [] = refl
arrow_brief (ty ∷ tys) = results_brief (ty ∷ tys)

arrow_list_brief : (tys : List IrType) → brief (arrow_list_piece tys) ≡ true
arrow_list_brief [] = refl
arrow_list_brief (ty ∷ tys) = list_brief (ty ∷ tys)

args_brief : (args : List Arg) → list_all (λ (arg : Arg). is_short arg.name) args ≡ true → Each Brief (map arg_piece args)
args_brief [] h = tt
args_brief (arg ∷ args) h =
    let p = and_parts (is_short arg.name) (list_all (λ (arg : Arg). is_short arg.name) args) h in
    (rw (name_brief arg.name p.0) refl, args_brief args p.1)

pub params_brief : (args : List Arg) → list_all (λ (arg : Arg). is_short arg.name) args ≡ true → brief (params_piece args) ≡ true
params_brief [] h = refl
params_brief (arg ∷ args) h = joined_brief (map arg_piece (arg ∷ args)) (args_brief (arg ∷ args) h)

pack_brief : (pack : Pack) → Short pack.name → brief (pack_piece pack) ≡ true
pack_brief pack h = rw (name_brief pack.name h) (go (nat_lt 1 pack.count))
  where
    go : (c : Bool) → brief (if c then colon <> leaf kinds.Number (decimal pack.count) else empty) ≡ true
    go true = refl
    go false = refl

each_pack : (packs : List Pack) → list_all (λ (pack : Pack). is_short pack.name) packs ≡ true → Each Brief (map pack_piece packs)
each_pack [] h = tt
each_pack (pack ∷ packs) h = let p = and_parts (is_short pack.name) (list_all (λ (other : Pack). is_short other.name) packs) h in (pack_brief pack p.0, each_pack packs p.1)

pub packs_brief : (packs : List Pack) → list_all (λ (pack : Pack). is_short pack.name) packs ≡ true → brief (packs_piece packs) ≡ true
packs_brief [] h = refl
packs_brief (pack ∷ packs) h = rw (joined_brief (map pack_piece (pack ∷ packs)) (each_pack (pack ∷ packs) h)) refl

-- simple parts

flags_brief : (flags : Flags) → brief (flags_piece flags) ≡ true
flags_brief flags = go flags.nsw flags.nuw
  where
    go : (nsw nuw : Bool) → brief (flags_piece (record { nsw = nsw; nuw = nuw })) ≡ true
    go true true = refl
    go true false = refl
    go false true = refl
    go false false = refl

signed_brief : (z : ℤ) → brief (signed_piece z) ≡ true
signed_brief (pos n) = refl
signed_brief (negsuc n) = refl

truth_brief : (v : ℕ) → brief (truth_piece v) ≡ true
truth_brief v = go (v == 0)
  where
    go : (c : Bool) → brief (if c then leaf kinds.Word (codes "false") else leaf kinds.Word (codes "true")) ≡ true
    go true = refl
    go false = refl

number_brief : (bits v : ℕ) (ty : IrType) → brief (number_piece bits v ty) ≡ true
number_brief bits v ty = rw (signed_brief (signed_reading bits v)) refl

constant_brief : (v : ℕ) (results : List IrType) → brief (constant_piece v results) ≡ true
constant_brief v [] = refl
constant_brief v (Index ∷ []) = number_brief 64 v Index
constant_brief v (Int width ∷ []) = go (width == 1)
  where
    go : (c : Bool) → brief (if c then truth_piece v else number_piece width v (Int width)) ≡ true
    go true = truth_brief v
    go false = number_brief width v (Int width)
constant_brief v (Index ∷ other ∷ more) = refl
constant_brief v (Int width ∷ other ∷ more) = refl

one_brief : (results : List IrType) → brief (one_type results) ≡ true
one_brief [] = refl
one_brief (ty ∷ []) = refl
one_brief (ty ∷ other ∷ more) = refl

counter_brief : (ty : IrType) → brief (counter_piece ty) ≡ true
counter_brief (Int width) = refl
counter_brief Index = refl

-- values in use

value_brief : (v : Value) → Short v.name → brief (value_piece v) ≡ true
value_brief v h = rw (name_brief v.name h) (go (nat_lt 1 v.count))
  where
    go : (c : Bool) → brief (if c then leaf kinds.Pick (codes "#" ++ decimal v.place) else empty) ≡ true
    go true = refl
    go false = refl

if_found : (c : Bool) (w v : Value) (o : Option Value) → Short w.name → (o ≡ Some v → Short v.name) → (if c then Some w else o) ≡ Some v → Short v.name
if_found true w v o h more e = let same : w ≡ v = cc in subst (λ (x : Value). Short x.name) same h
if_found false w v o h more e = more e

found_short : (test : Value → Bool) (vs : List Value) (v : Value) → Each (λ (w : Value). Short w.name) vs → find test vs ≡ Some v → Short v.name
found_short test [] v h e = cc
found_short test (w ∷ vs) v h e = if_found (test w) w v (find test vs) h.0 (found_short test vs v h.1) e

module _ (naming : Naming) (values : Each (λ (v : Value). Short v.name) naming.values) (names : Each Short naming.funcs) where
  use_brief : (l : Label) → brief (use_piece naming l) ≡ true
  use_brief l = go (value_at naming.values l.0) refl
    where
      go : (o : Option Value) → value_at naming.values l.0 ≡ o → brief (option_map_or value_piece o empty) ≡ true
      go None e = refl
      go (Some v) e = value_brief v (found_short (λ (w : Value). w.label == l.0) naming.values v values e)

  used_type_brief : (l : Label) → brief (used_type_piece naming l) ≡ true
  used_type_brief l = go (type_at naming.values l.0)
    where
      go : (o : Option IrType) → brief (option_map_or type_piece o empty) ≡ true
      go None = refl
      go (Some ty) = refl

  uses_brief : (ls : List Label) → brief (uses_piece naming ls) ≡ true
  uses_brief [] = refl
  uses_brief (l ∷ ls) = joined_brief (map (use_piece naming) (l ∷ ls)) (each_piece (use_piece naming) use_brief (l ∷ ls))

  used_types_brief : (ls : List Label) → brief (used_types_piece naming ls) ≡ true
  used_types_brief [] = refl
  used_types_brief (l ∷ ls) = joined_brief (map (used_type_piece naming) (l ∷ ls)) (each_piece (used_type_piece naming) used_type_brief (l ∷ ls))

  pub ends_brief : (ls : List Label) → brief (ends_piece naming ls) ≡ true
  ends_brief [] = refl
  ends_brief (l ∷ ls) = rw (uses_brief (l ∷ ls), used_types_brief (l ∷ ls)) refl

  yield_brief : (depth : ℕ) (ls : List Label) → brief (yield_piece naming depth ls) ≡ true
  yield_brief depth [] = refl
  yield_brief depth (l ∷ ls) = rw (uses_brief (l ∷ ls), used_types_brief (l ∷ ls)) refl

  callee_short : (k : ℕ) (fs : List (List ℕ)) → Each Short fs → Short (slice_index_or fs k [])
  callee_short k [] h = none_short k
    where
      none_short : (k : ℕ) → Short (slice_index_or [] k [])
      none_short zero = refl
      none_short (suc k) = refl
  callee_short zero (f ∷ fs) h = h.0
  callee_short (suc k) (f ∷ fs) h = callee_short k fs h.1

  callee_brief : (k : ℕ) → brief (leaf kinds.Symbol (codes "@" ++ slice_index_or naming.funcs k [])) ≡ true
  callee_brief k = symbol_brief (slice_index_or naming.funcs k []) (callee_short k naming.funcs names)

  inits_each : (args : List Arg) (ls : List Label) → list_all (λ (arg : Arg). is_short arg.name) args ≡ true → Each Brief (map (init_piece naming) (zip args ls))
  inits_each [] ls h = tt
  inits_each (arg ∷ args) [] h = tt
  inits_each (arg ∷ args) (l ∷ ls) h =
      let p = and_parts (is_short arg.name) (list_all (λ (other : Arg). is_short other.name) args) h in
      (rw (name_brief arg.name p.0, use_brief l) refl, inits_each args ls p.1)

  inits_brief : (args : List Arg) (ls : List Label) → list_all (λ (arg : Arg). is_short arg.name) args ≡ true → brief (inits_piece naming args ls) ≡ true
  inits_brief args ls h = rw (joined_brief (map (init_piece naming) (zip args ls)) (inits_each args ls h)) refl

  carried_brief : (args : List Arg) (ls : List Label) (results : List IrType) → list_all (λ (arg : Arg). is_short arg.name) args ≡ true → brief (carried_piece naming args ls results) ≡ true
  carried_brief [] ls results h = refl
  carried_brief (arg ∷ args) ls results h = rw (inits_brief (arg ∷ args) ls h, list_brief results) refl

  while_inits_brief : (args : List Arg) (ls : List Label) → list_all (λ (arg : Arg). is_short arg.name) args ≡ true → brief (while_inits_piece naming args ls) ≡ true
  while_inits_brief [] ls h = refl
  while_inits_brief (arg ∷ args) ls h = rw (inits_brief (arg ∷ args) ls h) refl

  block_brief : (depth : ℕ) (args : List Arg) → list_all (λ (arg : Arg). is_short arg.name) args ≡ true → brief (block_piece depth args) ≡ true
  block_brief depth [] h = refl
  block_brief depth (arg ∷ args) h = rw (params_brief (arg ∷ args) h) refl

  simple_brief : (results : List IrType) (kind : Kind) → brief (simple_piece naming results kind) ≡ true
  simple_brief results (Const v) = constant_brief v results
  simple_brief results (Bin op flags a b) = rw (use_brief a, use_brief b, flags_brief flags) (one_brief results)
  simple_brief results (Cast op flags a) = rw (use_brief a, flags_brief flags, used_type_brief a) (one_brief results)
  simple_brief results (Cmp pred a b) = rw (use_brief a, use_brief b) (used_type_brief a)
  simple_brief results (Select c a b) = rw (use_brief c, use_brief a, use_brief b) (one_brief results)
  simple_brief results (Call func uses) = rw (callee_brief func, uses_brief uses, used_types_brief uses) (results_brief results)
  simple_brief results (If' c first other) = refl
  simple_brief results (For parts) = refl
  simple_brief results (While parts) = refl

  one_name : (iv : Arg) → list_all (λ (arg : Arg). is_short arg.name) (iv ∷ []) ≡ true → Short iv.name
  one_name iv h = (and_parts (is_short iv.name) true h).0

  mutual
    unfolding kind_piece

    row_brief : (depth : ℕ) (n : _) (row : Row_of-Op n) → SizedOps (view_row row) → brief (row_piece naming depth row) ≡ true
    row_brief depth n end_of-Op h = refl
    row_brief depth n (more_of-Op packs results kind more) h = rw (packs_brief packs h.0.short, kind_brief depth results kind h.1) (row_brief depth _ more h.2)

    pub kind_brief : (depth : ℕ) (results : List IrType) (kind : Kind) → SizedRegions (view_kind kind) → brief (kind_piece naming depth results kind) ≡ true
    kind_brief depth results (Const v) h = simple_brief results (Const v)
    kind_brief depth results (Bin op flags a b) h = simple_brief results (Bin op flags a b)
    kind_brief depth results (Cast op flags a) h = simple_brief results (Cast op flags a)
    kind_brief depth results (Cmp pred a b) h = simple_brief results (Cmp pred a b)
    kind_brief depth results (Select c a b) h = simple_brief results (Select c a b)
    kind_brief depth results (Call func uses) h = simple_brief results (Call func uses)
    kind_brief depth results (If' c (Region' shape row ends) None') h = rw (use_brief c, arrow_list_brief results, row_brief (depth + 1) _ row h.0, yield_brief (depth + 1) ends) refl
    kind_brief depth results (If' c (Region' shape row ends) (Some' (Region' shape2 row2 ends2))) h =
        rw (use_brief c, arrow_list_brief results, row_brief (depth + 1) _ row h.0, yield_brief (depth + 1) ends, row_brief (depth + 1) _ row2 h.1, yield_brief (depth + 1) ends2) refl
    kind_brief depth results (For (ForParts' lower upper step iv args inits (Region' shape row ends))) h =
        rw (name_brief iv.name (one_name iv h.0.short), use_brief lower, use_brief upper, use_brief step, carried_brief args inits results h.1.short, counter_brief iv.ty, row_brief (depth + 1) _ row h.2, yield_brief (depth + 1) ends) refl
    kind_brief depth results (While (WhileParts' args inits (Region' shape row passed) cond after_args (Region' shape2 row2 ends))) h =
        rw (while_inits_brief args inits h.0.short, types_brief (map (λ (arg : Arg). arg.ty) args), list_brief results, row_brief (depth + 1) _ row h.1, use_brief cond, ends_brief passed, block_brief depth after_args h.2.short, row_brief (depth + 1) _ row2 h.3, ends_brief ends) refl
