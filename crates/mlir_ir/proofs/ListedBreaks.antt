-- The breaks of a list of places, step by step.
use Rattle.std.proofs.Common.{◌≡◌, ℕ, ◌+◌, ◌-◌, ◌==◌, ◌<◌, ◌≤◌, Bool, List, [], ◌∷◌, ◌++◌, length, take, drop, get_or, refl, ap, ◌∙◌, sym, arith, Option, Some, None, if◌then◌else◌, append_assoc, zero, suc}
use Rattle.std.proofs.lemmas.Bool.Decides.{nat_tests}
use Rattle.std.proofs.lemmas.List.{take_more, drop_more}
use Rattle.std.specs.Option.{option_or}
use Rattle.mlir_ir.specs.declared.rules.Nest.{Nest}
use Rattle.mlir_ir.specs.declared.rules.Position.{Position}
use Rattle.mlir_ir.specs.declared.rules.Rules.{Rules}
use Rattle.mlir_ir.specs.declared.shape.Shape.{Shape}
use Rattle.mlir_ir.specs.declared.types.Arg.{Arg}
use Rattle.mlir_ir.specs.declared.types.IrType.{IrType}
use Rattle.mlir_ir.specs.declared.types.Op.{Op}
use Rattle.mlir_ir.specs.Check.{first, past, past_op, past_ops, results_of, op_results, op_breaks, ops_breaks, ops_ops, kind_ops, args_breaks, breaks_at}
use Rattle.mlir_ir.specs.Labels.{op_labels, ops_labels}
use Rattle.mlir_ir.specs.Rules.{arg_rules}
use Rattle.mlir_ir.specs.Values.{Value, arg_values}

pub first_append : (xs ys : List Shape) → first (xs ++ ys) ≡ option_or (first xs) (first ys)
first_append [] ys = refl
first_append (x ∷ xs) ys = refl

pub first_none : (xs : List Shape) → first xs ≡ None → xs ≡ []
first_none [] e = refl
first_none (x ∷ xs) e = cc

-- positions

same_position : (n l o n' l' o' : ℕ) → n ≡ n' → l ≡ l' → o ≡ o'
    → ◌≡◌ {A = Position} (record { next = n; last = l; ops = o }) (record { next = n'; last = l'; ops = o' })
same_position n l o n' l' o' e f g = cc

last_of : (n l c a : ℕ) → (if a == 0 then (if c == 0 then l else n + c - 1) else n + c + a - 1) ≡ (if c + a == 0 then l else n + (c + a) - 1)
last_of n l c a = grind (arith, nat_tests)

pub past_past : (a b c d : ℕ) (at : Position) → past a b (past c d at) ≡ past (c + a) (d + b) at
past_past a b c d at = same_position _ _ _ _ _ _ (omega arith) (last_of at.next at.last c a) (omega arith)

pub past_none : (at : Position) → past 0 0 at ≡ at
past_none at = same_position _ _ _ _ _ _ (omega arith) refl (omega arith)

pub past_same : (a b c d : ℕ) (at : Position) → a ≡ c → b ≡ d → past a b at ≡ past c d at
past_same a b c d at e f = cc

-- operations

pub ops_labels_append : (xs ys : List Op) → ops_labels (xs ++ ys) ≡ ops_labels xs + ops_labels ys
ops_labels_append [] ys = omega arith
ops_labels_append (x ∷ xs) ys = omega (arith, ops_labels_append xs ys)

ops_ops_append : (xs ys : List Op) → ops_ops (xs ++ ys) ≡ ops_ops xs + ops_ops ys
ops_ops_append [] ys = omega arith
ops_ops_append (x ∷ xs) ys = omega (arith, ops_ops_append xs ys)

results_of_append : (at : ℕ) (xs ys : List Op) → results_of at (xs ++ ys) ≡ results_of at xs ++ results_of (at + ops_labels xs) ys
results_of_append at [] ys = let e : at + 0 ≡ at = omega arith in rw e refl
results_of_append at (x ∷ xs) ys =
    let e : at + (op_labels x + ops_labels xs) ≡ at + op_labels x + ops_labels xs = omega arith in
    rw (results_of_append (at + op_labels x) xs ys, e) (sym (append_assoc (op_results at x) _ _))

results_of_nil : (xs : List Value) → xs ++ [] ≡ xs
results_of_nil [] = refl
results_of_nil (x ∷ xs) = ap (λ ys. x ∷ ys) (results_of_nil xs)

more : (ops : List Op) (k : ℕ) (op : Op) → k < length ops → op ≡ get_or ops k op → take (k + 1) ops ≡ take k ops ++ op ∷ []
more ops k op l e = take_more ops k op l ∙ ap (λ x. take k ops ++ x ∷ []) (sym e)

rest_of : (ops : List Op) (k : ℕ) (op : Op) → k < length ops → op ≡ get_or ops k op → drop k ops ≡ op ∷ drop (k + 1) ops
rest_of ops k op l e = drop_more ops k op l ∙ ap (λ x. x ∷ drop (k + 1) ops) (sym e)

pub past_ops_more : (ops : List Op) (k : ℕ) (op : Op) (at : Position) → k < length ops → op ≡ get_or ops k op
    → past_op op (past_ops (take k ops) at) ≡ past_ops (take (k + 1) ops) at
past_ops_more ops k op at l e =
    past_past (op_labels op) (1 + kind_ops op.kind) (ops_labels (take k ops)) (ops_ops (take k ops)) at
    ∙ rw (more ops k op l e)
    (past_same _ _ _ _ at (omega (arith, ops_labels_append (take k ops) (op ∷ []))) (omega (arith, ops_ops_append (take k ops) (op ∷ []))))

pub scope_more : (scope : List Value) (at : ℕ) (ops : List Op) (k : ℕ) (op : Op) → k < length ops → op ≡ get_or ops k op
    → scope ++ results_of at (take k ops) ++ op_results (at + ops_labels (take k ops)) op ≡ scope ++ results_of at (take (k + 1) ops)
scope_more scope at ops k op l e =
    rw (more ops k op l e, results_of_append at (take k ops) (op ∷ []), results_of_nil (op_results (at + ops_labels (take k ops)) op)) (append_assoc scope _ _)

pub ops_room : (ops : List Op) (k : ℕ) (op : Op) → k < length ops → op ≡ get_or ops k op → ops_labels (take k ops) + op_labels op ≤ ops_labels ops
ops_room [] k op l e = absurd (omega arith)
ops_room (x ∷ xs) zero op l e = let is : op ≡ x = e in rw is (omega arith)
ops_room (x ∷ xs) (suc k) op l e = let h = ops_room xs k op (omega arith) e in omega arith

pub next_op : (scope : List Value) (nest : Nest) (at behind : Position) (ops : List Op) (k : ℕ) (op : Op) → k < length ops → op ≡ get_or ops k op
    → behind ≡ past_ops (take k ops) at
    → first (ops_breaks (scope ++ results_of at.next (take k ops)) nest behind (drop k ops))
    ≡ option_or (first (op_breaks (scope ++ results_of at.next (take k ops)) nest behind op))
    (first (ops_breaks (scope ++ results_of at.next (take (k + 1) ops)) nest (past_op op behind) (drop (k + 1) ops)))
next_op scope nest at behind ops k op l e is =
    let n : behind.next ≡ at.next + ops_labels (take k ops) = ap (λ (p : Position). p.next) is in
    rw (rest_of ops k op l e, ← scope_more scope at.next ops k op l e, ← n) (first_append (op_breaks (scope ++ results_of at.next (take k ops)) nest behind op) _)

-- arguments

arg_values_append : (at : ℕ) (xs ys : List Arg) → arg_values at (xs ++ ys) ≡ arg_values at xs ++ arg_values (at + length xs) ys
arg_values_append at [] ys = let e : at + 0 ≡ at = omega arith in rw e refl
arg_values_append at (x ∷ xs) ys = let e : at + suc (length xs) ≡ at + 1 + length xs = omega arith in rw (arg_values_append (at + 1) xs ys, e) refl

arg_more : (args : List Arg) (k : ℕ) (arg : Arg) → k < length args → arg ≡ get_or args k arg → take (k + 1) args ≡ take k args ++ arg ∷ []
arg_more args k arg l e = take_more args k arg l ∙ ap (λ x. take k args ++ x ∷ []) (sym e)

arg_rest : (args : List Arg) (k : ℕ) (arg : Arg) → k < length args → arg ≡ get_or args k arg → drop k args ≡ arg ∷ drop (k + 1) args
arg_rest args k arg l e = drop_more args k arg l ∙ ap (λ x. x ∷ drop (k + 1) args) (sym e)

drop_one : (wanted : List IrType) (k : ℕ) → drop 1 (drop k wanted) ≡ drop (suc k) wanted
drop_one [] zero = refl
drop_one [] (suc k) = refl
drop_one (x ∷ xs) zero = refl
drop_one (x ∷ xs) (suc k) = drop_one xs k

drop_again : (wanted : List IrType) (k : ℕ) → drop 1 (drop k wanted) ≡ drop (k + 1) wanted
drop_again wanted k = let e : suc k ≡ k + 1 = omega arith in drop_one wanted k ∙ ap (λ n. drop n wanted) e

taken : (args : List Arg) (k : ℕ) → k < length args → length (take k args) ≡ k
taken [] k l = absurd (omega arith)
taken (x ∷ xs) zero l = refl
taken (x ∷ xs) (suc k) l = ap suc (taken xs k (omega arith))

pub next_arg : (declared : Bool) (wanted : List IrType) (scope : List Value) (at : Position) (args : List Arg) (k : ℕ) (arg : Arg) → k < length args → arg ≡ get_or args k arg
    → first (args_breaks declared k (drop k wanted) (scope ++ arg_values at.next (take k args)) (past k 0 at) (drop k args))
    ≡ option_or (first (breaks_at (past k 0 at).last (arg_rules declared k (drop k wanted) (scope ++ arg_values at.next (take k args)) arg)))
    (first (args_breaks declared (k + 1) (drop (k + 1) wanted) (scope ++ arg_values at.next (take (k + 1) args)) (past (k + 1) 0 at) (drop (k + 1) args)))
next_arg declared wanted scope at args k arg l e =
    let n : at.next + length (take k args) ≡ at.next + k = omega (arith, taken args k l) in
    let grown : scope ++ arg_values at.next (take (k + 1) args) ≡ scope ++ arg_values at.next (take k args) ++ arg_values (at.next + k) (arg ∷ []) =
    rw (arg_more args k arg l e, arg_values_append at.next (take k args) (arg ∷ []), n) (sym (append_assoc scope _ _)) in
    let moved : past 1 0 (past k 0 at) ≡ past (k + 1) 0 at = past_past 1 0 k 0 at in
    rw (arg_rest args k arg l e, grown, ← moved, ← drop_again wanted k) (first_append (breaks_at (past k 0 at).last (arg_rules declared k (drop k wanted) (scope ++ arg_values at.next (take k args)) arg)) _)

-- a break of this step, and none of it
pub found_here : (before whole here rest : Option Shape) (e : Shape) → before ≡ whole → before ≡ option_or here rest → here ≡ Some e → whole ≡ Some e
found_here before whole here rest e s p h = let q : option_or here rest ≡ Some e = rw h refl in sym s ∙ (p ∙ q)

pub found_later : (before whole here rest : Option Shape) → before ≡ whole → before ≡ option_or here rest → here ≡ None → rest ≡ whole
found_later before whole here rest s p h = let q : option_or here rest ≡ rest = rw h refl in sym q ∙ (sym p ∙ s)

-- an argument whose rules are kept
pub arg_kept : (declared : Bool) (k : ℕ) (wanted : List IrType) (scope : List Value) (at behind : Position) (arg : Arg) (rules : Rules) → behind ≡ past k 0 at
    → rules ≡ arg_rules declared k wanted scope arg → first (breaks_at behind.last rules) ≡ None → first (breaks_at (past k 0 at).last (arg_rules declared k wanted scope arg)) ≡ None
arg_kept declared k wanted scope at behind arg rules moved is kept =
    sym (ap (λ (p : Position). first (breaks_at p.last (arg_rules declared k wanted scope arg))) moved) ∙ (sym (ap (λ (r : Rules). first (breaks_at behind.last r)) is) ∙ kept)
