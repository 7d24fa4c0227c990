-- An `scf.for` whose body breaks no rule breaks none.
use Rattle.std.proofs.Common.{◌≡◌, ℕ, ◌+◌, ◌≤◌, false, nat_le, List, [], ◌∷◌, ◌++◌, refl, ap, ◌∙◌, sym, subst, map, length, arith}
use Rattle.std.proofs.lemmas.Bool.Decides.{nat_tests}
use Rattle.std.proofs.lemmas.List.{length-map}
use Rattle.std.specs.List.{flat_map}
use Rattle.arith_word.specs.declared.label.Label.{Label}
use Rattle.mlir_ir.specs.Canonical.{Naming}
use Rattle.mlir_ir.specs.Check.{row_results}
use Rattle.mlir_ir.specs.Limits.{carried_limit, loop_limit}
use Rattle.mlir_ir.specs.Operations as plain
use Rattle.mlir_ir.specs.Operations.{count_of, labels_of}
use Rattle.mlir_ir.specs.Phrases.{Phrase, Line, lines}
use Rattle.mlir_ir.specs.Resolved.{tys, carried, inits_used}
use Rattle.mlir_ir.specs.Rules.{arg_types}
use Rattle.mlir_ir.specs.ScopeFaults.{Break, broken, uses_breaks, block_breaks, differs, listed_breaks, names_of, repeated, over, region_ending, op_tokens, block_labels, defined_by}
use Rattle.mlir_ir.specs.Source.{Block, Defined, Use, none, use_of, block, region_behind, inits_of, result_types}
use Rattle.mlir_ir.specs.Values.{Value, arg_values}
use Rattle.mlir_ir.specs.View.{view_row}
use Rattle.mlir_ir.specs.declared.scope_kind.ScopeKind.TheVariants.{Limit, WrongType}
use Rattle.mlir_ir.specs.declared.syntax.Form.TheVariants as forms
use Rattle.mlir_ir.specs.declared.types.Arg.{Arg}
use Rattle.mlir_ir.specs.declared.types.IrType.{IrType}
use Rattle.mlir_ir.specs.declared.types.IrType.TheVariants.{Int, Index}
use Rattle.mlir_ir.specs.declared.types.Region.{Row_of-Op}
use Rattle.round_trip.specs.Readable.{Reading, ReadsLabels, HasTypes, FreeArgs}
use Rattle.round_trip.specs.Flat.{other_label}
use Rattle.round_trip.specs.ReadUses.{ReadsAs}
use Rattle.round_trip.specs.Sound.{Each}
use Rattle.round_trip.proofs.FitIfs.{ArmFits, GivesOn}
use Rattle.round_trip.proofs.FitPacks.{args_fine, over_fine}
use Rattle.round_trip.proofs.FitSimple.{PhraseFits, seen_in}
use Rattle.round_trip.proofs.ReadFors.{for_phrase, behind_bounds, for_region, for_parts, for_variable, for_results, for_inits, arg_each}
use Rattle.round_trip.proofs.ReadIfs.{braces}
use Rattle.round_trip.proofs.SeenLists.{Typed, InitsSeen, inits_seen, region_fine}
use Rattle.round_trip.proofs.SeenUses.{SeesAll, Alike, alike_more, args_alike, same_names, no_break, uses_fine, listed_fine, each_differs, sees_both}

-- loop-carried values

-- as many first values as arguments
pub inits_count : (s : List Value) (args : List Arg) (types : List IrType) (inits : List (Defined × Use)) → InitsSeen s args types inits → length inits ≡ length args
inits_count s args types inits h =
    let names = map (λ (p : Defined × Use). p.0) inits in
    let a = length-map inits (λ (p : Defined × Use). p.0) in
    let b = length-map names (λ (d : Defined). d.name) in
    let c = length-map args (λ (arg : Arg). arg.name) in
    let d = ap length h.1 in
    omega (arith, a, b, c, d)

-- the definitions in a loop's header keep their limit, and one more loop may open
pub limits_fine : (s : List Value) (k loops : ℕ) (args : List Arg) (types : List IrType) (inits : List (Defined × Use)) → InitsSeen s args types inits → length args ≤ carried_limit → loops + 1 ≤ loop_limit
    → (over carried_limit (map (λ (p : Defined × Use). p.0.at) inits) ≡ []) × (broken (nat_le loop_limit loops) k Limit ≡ [])
limits_fine s k loops args types inits h few deep =
    let a = length-map inits (λ (p : Defined × Use). p.0.at) in
    let b = inits_count s args types inits h in
    let some : nat_le loop_limit loops ≡ false = grind (arith, nat_tests, deep) in
    (over_fine carried_limit (map (λ (p : Defined × Use). p.0.at) inits) (omega (arith, a, b, few)), no_break (nat_le loop_limit loops) k Limit some)

-- what is behind the bounds

for_uses : (naming : Naming) (c1 c2 y : ℕ) (ty : IrType) (args : List Arg) (inits : List Label) (results : List IrType) (parts : Phrase) → lines forms.Use (behind_bounds naming c1 c2 y ty args inits results parts) ≡ []
for_uses naming c1 c2 y (Int width) [] inits results parts = refl
for_uses naming c1 c2 y Index [] inits results parts = refl
for_uses naming c1 c2 y (Int width) (arg ∷ args) inits results parts = refl
for_uses naming c1 c2 y Index (arg ∷ args) inits results parts = refl

for_none : (naming : Naming) (c1 c2 y : ℕ) (ty : IrType) (args : List Arg) (inits : List Label) (results : List IrType) (parts : Phrase) → region_behind (behind_bounds naming c1 c2 y ty args inits results parts) ≡ none
for_none naming c1 c2 y (Int width) [] inits results parts = refl
for_none naming c1 c2 y Index [] inits results parts = refl
for_none naming c1 c2 y (Int width) (arg ∷ args) inits results parts = refl
for_none naming c1 c2 y Index (arg ∷ args) inits results parts = refl

for_seen : (naming : Naming) (scope s : List Value) (f : Label → Label) (c1 c2 y : ℕ) (ty : IrType) (args : List Arg) (inits : List Label) (types results : List IrType) (parts : Phrase) → Alike s scope → length args ≡ length inits → Each (λ l. ReadsAs naming scope l (f l)) inits → Typed naming types inits
    → InitsSeen s args types (inits_of (behind_bounds naming c1 c2 y ty args inits results parts))
for_seen naming scope s f c1 c2 y (Int width) [] [] [] results parts same e is t = (tt, refl)
for_seen naming scope s f c1 c2 y Index [] [] [] results parts same e is t = (tt, refl)
for_seen naming scope s f c1 c2 y ty [] [] (x ∷ types) results parts same e is t = cc
for_seen naming scope s f c1 c2 y ty [] (l ∷ ls) types results parts same e is t = absurd (omega arith)
for_seen naming scope s f c1 c2 y (Int width) (arg ∷ args) inits types results parts same e is t = inits_seen naming scope f s same (arg ∷ args) inits types e is t _
for_seen naming scope s f c1 c2 y Index (arg ∷ args) inits types results parts same e is t = inits_seen naming scope f s same (arg ∷ args) inits types e is t _

-- the loop

-- what the rules say of an `scf.for`, by what is found in its phrase
abbrev for_sum : (funcs : List Line) (loops : ℕ) (s : List Value) (k a1 : ℕ) (name : List ℕ) (ty : IrType) (us : List Use) (inits : List (Defined × Use)) (args : List Arg) (wanted : List IrType) (b : Block) (parts : Phrase) → List Break
for_sum funcs loops s k a1 name ty us inits args wanted b parts =
    let iv : Defined = record { at = a1; name = name } in
    let inner = s ++ arg_values 0 (record { name = name; ty = ty } ∷ args) in
    flat_map (λ (u : Use). broken (differs s u ty) u.at WrongType) us
    ++ (listed_breaks s k (inits_used inits) wanted ++ repeated (names_of s) (iv ∷ map (λ (p : Defined × Use). p.0) inits) ++ over carried_limit (map (λ (p : Defined × Use). p.0.at) inits) ++ broken (nat_le loop_limit loops) k Limit)
    ++ block_breaks funcs b (loops + 1) inner
    ++ region_ending (inner ++ defined_by b) k wanted parts

pub for_fits : (funcs : List Line) (loops : ℕ) (s scope : List Value) (r : Reading) (at depth k a1 a2 i1 : ℕ) (u1 : Phrase) (a3 i2 : ℕ) (u2 : Phrase) (a4 i3 : ℕ) (u3 : Phrase) (c1 c2 y a b d e : ℕ) (lower upper step : Label) (iv : Arg) (args : List Arg) (inits : List Label) (results : List IrType) (n : _) (row : Row_of-Op n) (ends : List Label)
    → Alike s scope → SeesAll s (seen_in i1 u1 ∷ seen_in i2 u2 ∷ seen_in i3 u3 ∷ []) (iv.ty ∷ iv.ty ∷ iv.ty ∷ []) → HasTypes (iv ∷ args) → arg_types args ≡ results → length args ≡ length inits → ReadsLabels r scope inits → Typed r.naming (arg_types args) inits
    → FreeArgs scope (iv ∷ args) → length args ≤ carried_limit → loops + 1 ≤ loop_limit
    → ArmFits funcs (loops + 1) (s ++ arg_values 0 (iv ∷ args)) r.naming (at + 2 + length args) row
    → GivesOn r.naming (scope ++ arg_values (at + 1) (iv ∷ args)) (other_label r.other) (at + 2 + length args) row ends results
    → PhraseFits funcs loops s (plain.For lower upper step iv args inits (view_row row) ends) (for_phrase r.naming k a1 a2 i1 u1 a3 i2 u2 a4 i3 u3 c1 c2 y iv.name iv.ty args inits results (braces r.naming depth a b d e row ends))
for_fits funcs loops s scope r at depth k a1 a2 i1 u1 a3 i2 u2 a4 i3 u3 c1 c2 y a b d e lower upper step iv args inits results n row ends same sees each types long reads typed free few deep arm gives =
    let fits = arm depth a b d e ends in
    let naming = r.naming in
    let parts = braces naming depth a b d e row ends in
    let behind = behind_bounds naming c1 c2 y iv.ty args inits results parts in
    let is = arg_each args results each.1 types in
    let R = for_results naming c1 c2 y iv.ty args inits results parts is types in
    let V = for_variable naming c1 c2 y iv.ty args inits results parts each.0 in
    let I = for_inits r scope c1 c2 y iv.ty args inits results parts long reads in
    let A : carried (inits_of behind) (tys (result_types behind)) ≡ args = ap (carried (inits_of behind)) (R ∙ sym types) ∙ I.0 in
    let B = for_region naming c1 c2 y iv.ty args inits results parts in
    let N = for_none naming c1 c2 y iv.ty args inits results parts in
    let P = for_parts naming c1 c2 y iv.ty args inits results parts in
    let U = for_uses naming c1 c2 y iv.ty args inits results parts in
    let us = seen_in i1 u1 ∷ seen_in i2 u2 ∷ seen_in i3 u3 ∷ [] in
    let S = for_seen naming scope s (other_label r.other) c1 c2 y iv.ty args inits (arg_types args) results parts same long reads typed in
    let seen : SeesAll s (inits_used (inits_of behind)) results = subst (SeesAll s (inits_used (inits_of behind))) types S.0 in
    let inner = s ++ arg_values 0 (iv ∷ args) in
    let inner_same = alike_more s scope (arg_values 0 (iv ∷ args)) (arg_values (at + 1) (iv ∷ args)) same (args_alike 0 (at + 1) (iv ∷ args)) in
    let b1 = block parts in
    let ds : List Defined = record { at = a1; name = iv.name } ∷ map (λ (p : Defined × Use). p.0) (inits_of behind) in
    let names = args_fine s scope (iv ∷ args) ds (same_names s scope same) (λ t. iv.name ∷ S.1 t) free in
    let limits = limits_fine s k loops args (arg_types args) (inits_of behind) S few deep in
    let bounds = each_differs s iv.ty us (sees.0, (sees.1.0, (sees.1.1.0, tt))) in
    let ending = region_fine naming (scope ++ arg_values (at + 1) (iv ∷ args) ++ row_results (at + 2 + length args) row) (inner ++ defined_by b1) (other_label r.other) depth a b d e k n row ends results
    (alike_more inner (scope ++ arg_values (at + 1) (iv ∷ args)) (defined_by b1) (row_results (at + 2 + length args) row) inner_same fits.defined) is gives.reads gives.typed in
    let ops = fits.ops in
    let labels = fits.labels in
    let many = inits_count s args (arg_types args) (inits_of behind) S in
    record {
      uses = ap (λ (ls : List Line). uses_breaks s k ((us ++ map use_of ls) ++ inits_used (inits_of behind))) U
          ∙ uses_fine s k (us ++ inits_used (inits_of behind)) ((iv.ty ∷ iv.ty ∷ iv.ty ∷ []) ++ results) (sees_both s us (inits_used (inits_of behind)) (iv.ty ∷ iv.ty ∷ iv.ty ∷ []) results sees seen);
      inside =
          (λ t. for_sum funcs loops s k a1 iv.name (V t) (us ++ map use_of (U t)) (inits_of behind) (A t) (R t) (B t) (P t))
          ∙ (λ t. bounds t ++ (listed_fine s k (inits_used (inits_of behind)) results seen t ++ names t ++ limits.0 t ++ limits.1 t) ++ fits.breaks t ++ ending t);
      ops = (λ t. length (op_tokens (B t)) + length (op_tokens (N t))) ∙ omega (arith, ops);
      labels = (λ t. 2 + length (inits_of behind) + block_labels (B t) + block_labels (N t)) ∙ omega (arith, labels, many);
    }
