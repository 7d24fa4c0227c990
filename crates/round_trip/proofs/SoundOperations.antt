-- An operation without regions that keeps its rules is sound.
use Rattle.std.proofs.Common.{◌≡◌, ℕ, suc, ◌^◌, ◌<◌, ◌≤◌, ◌==◌, ◌&&◌, ◌||◌, not, Bool, true, false, List, [], ◌∷◌, length, refl, arith, nat_lt, nat_le}
use Rattle.std.proofs.lemmas.Bool.Decides.{nat_tests}
use Rattle.std.proofs.Math.Pow.{pow_mono}
use Rattle.std.specs.List.{list_all}
use Rattle.mlir_ir.specs.declared.rules.Nest.{Nest}
use Rattle.mlir_ir.specs.declared.rules.Position.{Position}
use Rattle.mlir_ir.specs.declared.types.Flags.{Flags}
use Rattle.mlir_ir.specs.declared.types.IrType.{IrType}
use Rattle.mlir_ir.specs.declared.types.IrType.TheVariants.{Int, Index}
use Rattle.mlir_ir.specs.declared.types.Pack.{Pack}
use Rattle.mlir_ir.specs.declared.types.Kind.{Kind, Const, Bin, Cast, Cmp, Select, Call}
use Rattle.mlir_ir.specs.Words.{bits_of}
use Rattle.mlir_ir.specs.Values.{Value}
use Rattle.mlir_ir.specs.Rules.{is_in_scope, operands, are_free, is_kind_typed, is_kind_counted, is_kind_sized, is_short, packs_hold, may_wrap, may_lose, has_flags, agree, gives_type_of, gives_cast, gives_number, op_rules}
use Rattle.mlir_ir.specs.Limits.{result_limit, op_limit}
use Rattle.mlir_ir.specs.Check.{breaks_at}
use Rattle.mlir_ir.specs.Canonical.{Naming}
use Rattle.round_trip.specs.Sound.{Each, IsType, IsPack, OneType, HaveFlags, IsSimple}
use Rattle.round_trip.proofs.Tests.{and_parts}
use Rattle.round_trip.specs.Widths.{Named, WideKind}
use Rattle.round_trip.proofs.SoundScopes.{none_at, Good, uses_find, packs_good}

-- the rules of an operation, kept
pub record Kept (scope : List Value) (nest : Nest) (results : List IrType) (kind : Kind) : Type 0 where
  pub in_scope : list_all (is_in_scope scope) (operands kind) ≡ true
  pub typed : is_kind_typed scope results kind ≡ true
  pub counted : is_kind_counted (length results) kind ≡ true
  pub sized : is_kind_sized nest.regions nest.loops kind ≡ true
  pub item : nest.item_fits ≡ true

pub op_kept : (scope : List Value) (nest : Nest) (at : Position) (last : ℕ) (packs : List Pack) (results : List IrType) (kind : Kind) → breaks_at last (op_rules scope nest at packs results kind) ≡ []
    → Kept scope nest results kind × Each IsPack packs
op_kept scope nest at last packs results kind h =
    let r = none_at last (op_rules scope nest at packs results kind) h in
    let t = and_parts (are_free scope packs) (is_kind_typed scope results kind) r.1 in
    let c = and_parts (packs_hold packs (length results)) (is_kind_counted (length results) kind) r.2 in
    let short = list_all (λ (pack : Pack). is_short pack.name) packs in
    let s1 = and_parts (short && nat_le (length results) result_limit && nat_lt at.ops op_limit && nest.item_fits) (is_kind_sized nest.regions nest.loops kind) r.3 in
    let s2 = and_parts (short && nat_le (length results) result_limit && nat_lt at.ops op_limit) nest.item_fits s1.0 in
    let s3 = and_parts (short && nat_le (length results) result_limit) (nat_lt at.ops op_limit) s2.0 in
    let s4 = and_parts short (nat_le (length results) result_limit) s3.0 in
    let few : length results ≤ 16 = grind (arith, nat_tests) in
    (record { in_scope = r.0; typed = t.1; counted = c.1; sized = s1.1; item = s2.1 }, packs_good scope packs (length results) t.0 c.0 few)

one_type : (tys : List IrType) → (length tys == 1) ≡ true → Each IsType tys → OneType tys
one_type [] e h = cc
one_type (ty ∷ []) e h = h.0
one_type (ty ∷ other ∷ tys) e h = absurd (two_or_more (length tys) e) where
  two_or_more : (n : ℕ) → (suc (suc n) == 1) ≡ true → ⊥
  two_or_more n e = grind (arith, nat_tests)

type_bits : (ty : IrType) → IsType ty → bits_of ty ≤ 64
type_bits (Int width) h = h.1
type_bits Index h = omega arith

small_number : (v : ℕ) (tys : List IrType) → (length tys == 1) ≡ true → gives_number v tys ≡ true → Each IsType tys → v < 2 ^ 64
small_number v [] e g h = cc
small_number v (ty ∷ tys) e g h =
    let most : 2 ^ bits_of ty ≤ 2 ^ 64 = pow_mono (type_bits ty h.0) in
    let less : v < 2 ^ bits_of ty = grind (arith, nat_tests) in
    below v (2 ^ bits_of ty) (2 ^ 64) less most where
      below : (a b c : ℕ) → a < b → b ≤ c → a < c
      below a b c h g = omega arith

no_flags : (x y : Bool) → not (x || y) ≡ true → (x ≡ false) × (y ≡ false)
no_flags true y h = cc
no_flags false true h = cc
no_flags false false h = (refl, refl)

flags_kept : (may : Bool) (flags : Flags) → (may || not (has_flags flags)) ≡ true → HaveFlags may flags
flags_kept true flags h = tt
flags_kept false flags h = no_flags flags.nsw flags.nuw h

pub const_sound : (naming : Naming) (scope : List Value) (nest : Nest) (results : List IrType) (v : ℕ) → Kept scope nest results (Const v) → Each (Good naming.values) scope → Each IsType results → IsSimple naming results (Const v)
const_sound naming scope nest results v k h w = (one_type results k.counted w, small_number v results k.counted k.typed w)

pub bin_sound : (naming : Naming) (scope : List Value) (nest : Nest) (results : List IrType) (op : _) (flags : Flags) (a b : _) → Kept scope nest results (Bin op flags a b) → Each (Good naming.values) scope → Each IsType results
    → IsSimple naming results (Bin op flags a b)
bin_sound naming scope nest results op flags a b k h w =
    let u = uses_find naming scope (a ∷ b ∷ []) h k.in_scope in
    let t = and_parts ((may_wrap op || not (has_flags flags)) && agree scope a b) (gives_type_of scope a results) k.typed in
    let s = and_parts (may_wrap op || not (has_flags flags)) (agree scope a b) t.0 in
    (one_type results k.counted w, u.0, u.1.0, flags_kept (may_wrap op) flags s.0)

pub cast_sound : (naming : Naming) (scope : List Value) (nest : Nest) (results : List IrType) (op : _) (flags : Flags) (a : _) → Kept scope nest results (Cast op flags a) → Each (Good naming.values) scope → Each IsType results
    → IsSimple naming results (Cast op flags a)
cast_sound naming scope nest results op flags a k h w =
    let u = uses_find naming scope (a ∷ []) h k.in_scope in
    let t = and_parts (may_lose op || not (has_flags flags)) (gives_cast scope op a results) k.typed in
    (one_type results k.counted w, u.0, flags_kept (may_lose op) flags t.0)

pub cmp_sound : (naming : Naming) (scope : List Value) (nest : Nest) (results : List IrType) (pred : _) (a b : _) → Kept scope nest results (Cmp pred a b) → Each (Good naming.values) scope → IsSimple naming results (Cmp pred a b)
cmp_sound naming scope nest results pred a b k h = let u = uses_find naming scope (a ∷ b ∷ []) h k.in_scope in (u.0, u.1.0)

pub select_sound : (naming : Naming) (scope : List Value) (nest : Nest) (results : List IrType) (c a b : _) → Kept scope nest results (Select c a b) → Each (Good naming.values) scope → Each IsType results
    → IsSimple naming results (Select c a b)
select_sound naming scope nest results c a b k h w =
    let u = uses_find naming scope (c ∷ a ∷ b ∷ []) h k.in_scope in
    (one_type results k.counted w, u.0, u.1.0, u.1.1.0)

pub call_sound : (naming : Naming) (scope : List Value) (nest : Nest) (results : List IrType) (func : ℕ) (uses : _) → Kept scope nest results (Call func uses) → Each (Good naming.values) scope → Each IsType results
    → WideKind (Named naming.funcs) (Call func uses) → IsSimple naming results (Call func uses)
call_sound naming scope nest results func uses k h w n = (w, uses_find naming scope uses h k.in_scope, n)
