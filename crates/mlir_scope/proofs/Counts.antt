-- Results that packs share out.
use Rattle.std.proofs.Common.{nat_lt, ◌≡◌, ℕ, ◌+◌, ◌-◌, ◌<◌, ◌≤◌, min, List, [], ◌∷◌, ◌++◌, map, length, take, drop, Bool, Option, refl, ap, ◌∙◌, sym, ⊎_elim, arith, length-drop, append_assoc}
use Rattle.std.proofs.Math.ListN.{drop_of_length-le}
use Rattle.std.specs.List.{drop-map}
use Rattle.std.proofs.Math.Seq.{take-nil, drop-nil}
use Rattle.std.proofs.lemmas.Bool.{cases_lt}
use Rattle.std.proofs.lemmas.Bool.Decides.{nat_tests}
use Rattle.mlir_ir.specs.Resolved.{packs_of}
use Rattle.mlir_ir.specs.ScopeFaults.{broken, many_results}
use Rattle.mlir_ir.specs.Source.{Packed, Defined}
use Rattle.mlir_ir.specs.Values.{Value, pack_values, result_values}
use Rattle.mlir_ir.specs.declared.scope_kind.ScopeKind.TheVariants.{Limit}
use Rattle.mlir_ir.specs.declared.types.IrType.{IrType}
use Rattle.mlir_ir.specs.declared.types.Pack.{Pack}
use Rattle.mlir_scope.specs.Arguments.{named, pack_of}
use Rattle.mlir_scope.specs.declared.first.ScopeFault.{ScopeFault}
use Rattle.std.proofs.lemmas.List.{length-map, take-map, take_all, drop-drop}
use Rattle.mlir_scope.specs.Reading.{type_said}
use Rattle.mlir_scope.specs.declared.said.ValueType.{ValueType}
use Rattle.mlir_scope.specs.Noted.{noted}
use Rattle.mlir_scope.proofs.Notes.{noted_more}

-- numbers that are the same after a cut above the limit
limit_cut : (n m cap : ℕ) → min n cap ≡ min m cap → 16 < cap → nat_lt 16 n ≡ nat_lt 16 m
limit_cut n m cap h large = grind (arith, nat_tests)

many_cut : (n m cap : ℕ) (ps : List Packed) → min n cap ≡ min m cap → 16 < cap → many_results n ps ≡ many_results m ps
many_cut n m cap [] h large = refl
many_cut n m cap (p ∷ ps) h large =
    let further : min (n + p.count) cap ≡ min (m + p.count) cap = omega arith in
    ap (λ b. broken b p.at Limit ++ many_results (n + p.count) ps) (limit_cut (n + p.count) (m + p.count) cap further large)
    ∙ ap (λ bs. broken (nat_lt 16 (m + p.count)) p.at Limit ++ bs) (many_cut (n + p.count) (m + p.count) cap ps further large)

-- one pack more is noted
pub many_step : (best more : Option ScopeFault) (all ps : List Packed) (p : Packed) (sum count next cap : ℕ) (b : Bool)
    → all ≡ p ∷ ps → count ≡ min p.count cap → next ≡ min (sum + count) cap → 16 < cap → b ≡ nat_lt 16 next → more ≡ noted best (broken b p.at Limit)
    → noted best (many_results sum all) ≡ noted more (many_results next ps)
many_step best more all ps p sum count next cap b parts count_is next_is large test_is noted_is =
    let cut : min (sum + p.count) cap ≡ min next cap = omega arith in
    let test : nat_lt 16 (sum + p.count) ≡ b = limit_cut (sum + p.count) next cap cut large ∙ sym test_is in
    noted_more best more (many_results sum all) (broken b p.at Limit) (many_results next ps) noted_is
    (ap (many_results sum) parts
    ∙ ap (λ t. broken t p.at Limit ++ many_results (sum + p.count) ps) test
    ∙ ap (λ bs. broken b p.at Limit ++ bs) (many_cut (sum + p.count) next cap ps cut large))

pub named_none : (ns : List Defined) → named ns [] ≡ []
named_none [] = refl
named_none (n ∷ ns) = refl

results_none : (at : ℕ) (ps : List Pack) → result_values at ps [] ≡ []
results_none at [] = refl
results_none at (p ∷ ps) = rw (take-nil, drop-nil) (results_none (at + p.count) ps)

-- the results of one pack and of those behind it, where it has so many of the types that are left
pub results_step : (at many : ℕ) (p : Packed) (ps : List Packed) (tys : List IrType) → many ≡ min p.count (length tys)
    → result_values at (packs_of (p ∷ ps)) tys ≡ pack_values at (pack_of p) 0 (take many tys) ++ result_values (at + many) (packs_of ps) (drop many tys)
results_step at many p ps tys is =
    ⊎_elim
    (λ few. let same : many ≡ p.count = omega arith in rw same refl)
    (λ most.
    let same : many ≡ length tys = omega arith in
    let ended : drop p.count tys ≡ [] = drop_of_length-le tys most in
    let ended_too : drop many tys ≡ [] = drop_of_length-le tys (omega arith) in
    let front : take p.count tys ≡ tys = take_all p.count tys most in
    let front_too : take many tys ≡ tys = take_all many tys (omega arith) in
    rw (ended, ended_too, front, front_too) (ap (λ vs. pack_values at (pack_of p) 0 tys ++ vs) (results_none (at + p.count) (packs_of ps) ∙ sym (results_none (at + many) (packs_of ps)))))
    (cases_lt p.count (length tys))

-- the results of one pack are put in scope
pub push_step : (scope new goal : List Value) (at many : ℕ) (p : Packed) (ps all : List Packed) (types front : List ValueType)
    → all ≡ p ∷ ps → many ≡ min p.count (length types - at) → at ≤ length types → front ≡ take many (drop at types)
    → new ≡ scope ++ pack_values at (pack_of p) 0 (map type_said front)
    → scope ++ result_values at (packs_of all) (map type_said (drop at types)) ≡ goal
    → (new ++ result_values (at + many) (packs_of ps) (map type_said (drop (at + many) types)) ≡ goal) × (at + many ≤ length types)
push_step scope new goal at many p ps all types front parts many_is within front_is new_is goal_is =
    let tys = map type_said (drop at types) in
    let left : length tys ≡ length types - at = length-map (drop at types) type_said ∙ length-drop at types in
    let step = results_step at many p ps tys (many_is ∙ ap (λ (n : ℕ). min p.count n) (sym left)) in
    let first : map type_said front ≡ take many tys = ap (map type_said) front_is ∙ sym (take-map type_said many (drop at types)) in
    let behind : map type_said (drop (at + many) types) ≡ drop many tys = ap (map type_said) (sym (drop-drop many at types)) ∙ sym (drop-map type_said many (drop at types)) in
    let later = result_values (at + many) (packs_of ps) (drop many tys) in (
      ap (λ ts. new ++ result_values (at + many) (packs_of ps) ts) behind
          ∙ ap (λ s. s ++ later) (new_is ∙ ap (λ ts. scope ++ pack_values at (pack_of p) 0 ts) first)
          ∙ append_assoc scope (pack_values at (pack_of p) 0 (take many tys)) later
          ∙ ap (λ vs. scope ++ vs) (sym step)
          ∙ ap (λ xs. scope ++ result_values at (packs_of xs) tys) (sym parts)
          ∙ goal_is,
      omega arith,
    )
