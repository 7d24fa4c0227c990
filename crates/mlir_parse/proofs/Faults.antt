-- Tokens have at most one syntax error, and none where they have a tree.
use Rattle.std.proofs.Common.{◌≡◌, ℕ, ◌+◌, ◌<◌, ◌≤◌, List, length, take, ap, subst, arith, inl, inr}
use Rattle.std.proofs.lemmas.Bool.{cases_order, cases_lt}
use Rattle.std.proofs.lemmas.List.{take-take}
use Rattle.std.proofs.lemmas.Option.{slice_get_within}
use Rattle.mlir_ir.specs.Texts.{BeginsText, IsSyntaxFault, IsTooDeep, IsShallow, IsNotHere, IsOtherFault, regions}
use Rattle.mlir_ir.specs.Trees.{Forest, IsTreeOf}
use Rattle.mlir_ir.specs.declared.terminal.Terminal.{Terminal}
use Rattle.mlir_ir.specs.declared.terminal.Terminal.TheVariants.{LeftBrace}
use Rattle.mlir_parse.proofs.Hopes.{take_begins, tree_text, begins_of_tree, begins_none, regions_behind, deep_not_shallow}
use Rattle.mlir_parse.proofs.Trees.{tree_shallow}

-- a prefix with the unexpected token in it is no prefix of a module's token sequence
stops : (ts : List Terminal) (j k : ℕ) → IsSyntaxFault ts j → j < length ts → j < k → BeginsText (take k ts) → ⊥
stops ts j k fault inside less begun = fault.none inside (subst BeginsText (take-take (j + 1) k ts (omega (arith, less))) (take_begins (take k ts) (j + 1) begun))

-- a prefix with the brace in it is past the limit on open regions
deepens : (ts : List Terminal) (j k : ℕ) → IsTooDeep ts j → j < k → IsShallow (take k ts) → ⊥
deepens ts j k deep less shallow =
    let low : regions (take (j + 1) (take k ts)) ≤ 12 = shallow (j + 1) in
    let same : take (j + 1) (take k ts) ≡ take (j + 1) ts = take-take (j + 1) k ts (omega (arith, less)) in
    omega (arith, low, ap regions same, regions_behind ts j deep)

pub one_stop : (ts : List Terminal) (j k : ℕ) → IsSyntaxFault ts j → IsSyntaxFault ts k → j ≡ k
one_stop ts j k first second =
    elim (cases_order j k) [
      | inl same ↦ same
      | inr (inl less) ↦ absurd (stops ts j k first (omega (arith, less, second.within)) less second.before)
      | inr (inr more) ↦ absurd (stops ts k j second (omega (arith, more, first.within)) more first.before)
    ]

pub one_depth : (ts : List Terminal) (j k : ℕ) → IsTooDeep ts j → IsTooDeep ts k → j ≡ k
one_depth ts j k first second =
    elim (cases_order j k) [
      | inl same ↦ same
      | inr (inl less) ↦ absurd (deepens ts j k first less second.shallow)
      | inr (inr more) ↦ absurd (deepens ts k j second more first.shallow)
    ]

-- tokens have no unexpected token where they have a region that is too deep
pub stop_or_depth : (ts : List Terminal) (j k : ℕ) → IsSyntaxFault ts j → IsTooDeep ts k → ⊥
stop_or_depth ts j k fault deep =
    let inside : k < length ts = slice_get_within ts k LeftBrace deep.brace in
    elim (cases_lt k j) [
      | inl less ↦ deepens ts k j deep less fault.shallow
      | inr more ↦ stops ts j (k + 1) fault (omega (arith, more, inside)) (omega (arith, more)) deep.begins
    ]

pub one_not_here : (ts : List Terminal) (j k : ℕ) → IsNotHere ts j → IsNotHere ts k → j ≡ k
one_not_here ts j k first second = one_stop ts j k first.fault second.fault

pub one_other : (ts : List Terminal) (j k : ℕ) → IsOtherFault ts j → IsOtherFault ts k → j ≡ k
one_other ts j k first second = one_stop ts j k first.fault second.fault

-- an unexpected token is of one of the two kinds alone
pub here_or_other : (ts : List Terminal) (j k : ℕ) → IsNotHere ts j → IsOtherFault ts k → ⊥
here_or_other ts j k first second = second.other (subst (λ z. IsNotHere ts z) (one_stop ts j k first.fault second.fault) first)

pub here_or_depth : (ts : List Terminal) (j k : ℕ) → IsNotHere ts j → IsTooDeep ts k → ⊥
here_or_depth ts j k first second = stop_or_depth ts j k first.fault second

pub other_or_depth : (ts : List Terminal) (j k : ℕ) → IsOtherFault ts j → IsTooDeep ts k → ⊥
other_or_depth ts j k first second = stop_or_depth ts j k first.fault second

-- tokens with a tree have no unexpected token
pub tree_goes_on : (ts : List Terminal) (xs : Forest) (k : ℕ) → IsTreeOf ts xs → IsSyntaxFault ts k → ⊥
tree_goes_on ts xs k tree fault =
    elim (cases_lt k (length ts)) [
      | inl less ↦ begins_none ts k fault (λ last. omega (arith, less, last)) (begins_of_tree ts xs tree)
      | inr far ↦ fault.unfinished (omega (arith, far, fault.within)) (tree_text ts xs tree)
    ]

-- tokens with a tree have no region that is too deep
pub tree_not_deep : (ts : List Terminal) (xs : Forest) (k : ℕ) → IsTreeOf ts xs → IsTooDeep ts k → ⊥
tree_not_deep ts xs k tree deep = deep_not_shallow ts k deep (tree_shallow ts xs tree)
