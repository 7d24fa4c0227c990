-- The search for a function by its name.
use Rattle.std.proofs.Common.{◌≡◌, ℕ, zero, suc, ◌+◌, ◌<◌, ◌&&◌, Bool, true, false, cond, List, [], ◌∷◌, length, drop, get_or, slice_get, Option, Some, refl, subst, arith}
use Rattle.std.specs.Option.{is_some}
use Rattle.std.specs.Str.{bytes_eq}
use Rattle.mlir_ir.specs.declared.types.Func.{Func}
use Rattle.scev_queries.specs.Answers.{func_named}

abbrev pub is_named : List ℕ → Func → Bool
is_named name f = bytes_eq f.name name && is_some f.body

passed_by : (b : Bool) (x y : Option Func) → b ≡ false → cond b x y ≡ y
passed_by true x y e = absurd (cc)
passed_by false x y e = refl

stopped_at : (b : Bool) (x y : Option Func) → b ≡ true → cond b x y ≡ x
stopped_at true x y e = refl
stopped_at false x y e = absurd (cc)

-- one of another name is passed over
pub passed : (funcs : List Func) (name : List ℕ) (at next : ℕ) (f : Func) → at < length funcs → f ≡ get_or funcs at f → next ≡ at + 1 → is_named name f ≡ false
    → func_named (drop at funcs) name ≡ func_named (drop next funcs) name
passed [] name at next f lt is e other = absurd (omega (arith, lt))
passed (g ∷ gs) name zero next f lt is e other =
    let one : 1 ≡ next = omega (arith, e) in
    subst (λ n. func_named (g ∷ gs) name ≡ func_named (drop n (g ∷ gs)) name) one
    (passed_by (is_named name g) (Some g) (func_named gs name) (subst (λ h. is_named name h ≡ false) is other))
passed (g ∷ gs) name (suc at) next f lt is e other =
    let more : suc (at + 1) ≡ next = omega (arith, e) in
    subst (λ n. func_named (drop at gs) name ≡ func_named (drop n (g ∷ gs)) name) more
    (passed gs name at (at + 1) f (omega (arith, lt)) is refl other)

-- the first one of the name is found
pub found_here : (funcs : List Func) (name : List ℕ) (at : ℕ) (f : Func) → at < length funcs → f ≡ get_or funcs at f → is_named name f ≡ true
    → func_named (drop at funcs) name ≡ slice_get funcs at
found_here [] name at f lt is same = absurd (omega (arith, lt))
found_here (g ∷ gs) name zero f lt is same = stopped_at (is_named name g) (Some g) (func_named gs name) (subst (λ h. is_named name h ≡ true) is same)
found_here (g ∷ gs) name (suc at) f lt is same = found_here gs name at f (omega (arith, lt)) is same
