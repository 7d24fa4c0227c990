-- How the machine and the run of a function end alike.
use Rattle.std.proofs.Common.{◌≡◌, ℕ, ◌+◌, ◌-◌, ◌==◌, ◌≤◌, Bool, true, false, List, [], ◌∷◌, ◌++◌, length, refl, arith, Option, Some, None, nat_lt, drop, if◌then◌else◌}
use Rattle.std.proofs.lemmas.Bool.{ltb-false}
use Rattle.std.proofs.Math.Nat.{mod-lt}
use Rattle.std.proofs.lemmas.Nat.{pow_pos}
use Rattle.mlir_ir.specs.declared.types.IrType.{IrType}
use Rattle.mlir_ir.specs.Runs as runs
use Rattle.mlir_ir.specs.Runs.{Number, number, Binding, State, Event, Stop, End, look, numbers_of, numbers_at, binds, Iteration}
use Rattle.mlir_ir.specs.Typed.{Types, with_types}
use Rattle.mlir_ir.specs.Words.{bits_of}
use Rattle.scf_eval.specs.Machine.{Slots, Move, move_then, number_at, read, copied, moved, given, yields, replied, called, spend}
use Rattle.scf_eval.specs.Machine as machine
use Rattle.scf_eval.proofs.Written.{put, Keeps, kept, keeps_both, keeps_less, put_keeps, put_stored, given_put}
use Rattle.scf_eval.proofs.Scopes.{Placed, IsOf, Fit, fit_size, Agrees, agrees_binds}

-- from these numbers on, the slots below `pos` stay, and what is in scope then stands below `mid`
pub data Matches (slot : Slots) (T : Types) (pos mid : ℕ) (values : List Number) : Move → End → Type 0 where
  done : (after : List Number) (env : List Binding) (s : State) → Keeps pos values after → Agrees slot T after mid env → Matches slot T pos mid values (machine.Done after s) (runs.Done env s)
  halted : (stop : Stop) (trace : List Event) → Matches slot T pos mid values (machine.Halted stop trace) (runs.Stopped stop trace)

pub since : (slot : Slots) (T : Types) (pos pos1 mid : ℕ) (values after : List Number) (m : Move) (e : End) → Keeps pos values after → pos ≤ pos1 → Matches slot T pos1 mid after m e → Matches slot T pos mid values m e
since slot T pos pos1 mid values after m e k le (done after2 env s k2 a) = done after2 env s (keeps_both pos values after after2 k (keeps_less pos1 pos after after2 le k2)) a
since slot T pos pos1 mid values after m e k le (halted stop trace) = halted stop trace

pub then_matches : (slot : Slots) (T U : Types) (pos mid pos2 mid2 : ℕ) (values values2 : List Number) (m : Move) (e : End) (go : List Number → State → Move) (goes : List Binding → State → End) → Matches slot T pos mid values m e
    → ((after : List Number) (env : List Binding) (s : State) → Keeps pos values after → Agrees slot T after mid env → Matches slot U pos2 mid2 values2 (go after s) (goes env s))
    → Matches slot U pos2 mid2 values2 (move_then m go) (runs.end_then e goes)
then_matches slot T U pos mid pos2 mid2 values values2 m e go goes (done after env s k a) next = next after env s k a
then_matches slot T U pos mid pos2 mid2 values values2 m e go goes (halted stop trace) next = halted stop trace

-- values are bound whose numbers have been written
pub bound : (slot : Slots) (T : Types) (values before : List Number) (pos at pos1 : ℕ) (tys : List IrType) (ns : List Number) (env : List Binding) (s : State) → Agrees slot T values pos env → Keeps pos values before → pos ≤ pos1
    → Fit tys ns → Placed slot at pos1 (length tys) → pos1 + length tys ≤ length values
    → Matches slot (with_types T at tys) pos (pos1 + length tys) values (machine.Done (put before pos1 ns) s) (runs.Done (binds at ns env) s)
bound slot T values before pos at pos1 tys ns env s a k le f p room =
    let k2 : Keeps pos before (put before pos1 ns) = keeps_less pos1 pos before (put before pos1 ns) le (put_keeps before pos1 ns) in
    let k3 = keeps_both pos values before (put before pos1 ns) k k2 in
    done (put before pos1 ns) (binds at ns env) s k3
    (agrees_binds slot T values (put before pos1 ns) pos at pos1 tys ns env a k3 le (put_stored before pos1 ns (omega (arith, fit_size tys ns f, k.size))) f p)

spend_if : (slot : Slots) (T : Types) (pos mid : ℕ) (values : List Number) (s : State) (go : State → Move) (goes : State → runs.Segment) (b : Bool)
    → ((s1 : State) → Matches slot T pos mid values (go s1) (goes s1).end)
    → Matches slot T pos mid values (if b then machine.halts runs.Cut s else go (record s { budget = s.budget - 1 })) (if b then runs.stops runs.Cut s else goes (record s { budget = s.budget - 1 })).end
spend_if slot T pos mid values s go goes true next = halted runs.Cut s.trace
spend_if slot T pos mid values s go goes false next = next (record s { budget = s.budget - 1 })

-- a unit of the budget
pub spend_matches : (slot : Slots) (T : Types) (pos mid : ℕ) (values : List Number) (s : State) (go : State → Move) (goes : State → runs.Segment)
    → ((s1 : State) → Matches slot T pos mid values (go s1) (goes s1).end) → Matches slot T pos mid values (spend s go) (runs.tick s goes).end
spend_matches slot T pos mid values s go goes next = spend_if slot T pos mid values s go goes (s.budget == 0) next

-- numbers of those types
pub number_is : (ty : IrType) (n : ℕ) → IsOf ty (number (bits_of ty) n)
number_is ty n = record { wide = refl; below = mod-lt n (pow_pos (bits_of ty)) }

pub numbers_fit : (tys : List IrType) (ns : List ℕ) → length tys ≤ length ns → Fit tys (numbers_at tys ns)
numbers_fit [] ns le = tt
numbers_fit (ty ∷ tys) [] le = absurd (omega arith)
numbers_fit (ty ∷ tys) (n ∷ ns) le = (number_is ty n, numbers_fit tys ns (omega arith))

-- an operation's result
pub yields_match : (slot : Slots) (T : Types) (values : List Number) (pos at : ℕ) (ty : IrType) (around : List Iteration) (env : List Binding) (s : State) (o : Option ℕ) → Agrees slot T values pos env
    → Placed slot at pos 1 → pos + 1 ≤ length values → Matches slot (with_types T at (ty ∷ [])) pos (pos + 1) values (yields pos (ty ∷ []) values s o) (runs.gives at (ty ∷ []) around env s o).end
yields_match slot T values pos at ty around env s None a p room = halted runs.Trapped s.trace
yields_match slot T values pos at ty around env s (Some v) a p room =
    bound slot T values values pos at pos (ty ∷ []) (number (bits_of ty) v ∷ []) env s a (kept pos values) (omega arith) (number_is ty v, tt) p room

replied_if : (slot : Slots) (T : Types) (values : List Number) (pos at : ℕ) (tys : List IrType) (around : List Iteration) (env : List Binding) (s : State) → Agrees slot T values pos env
    → Placed slot at pos (length tys) → pos + length tys ≤ length values → (b : Bool) → nat_lt (length s.replies) (length tys) ≡ b
    → Matches slot (with_types T at tys) pos (pos + length tys) values
    (if b then machine.halts runs.Starved s else machine.Done (given values pos tys s.replies) (record s { replies = drop (length tys) s.replies }))
    (if b then runs.stops runs.Starved s else runs.defines at (numbers_at tys s.replies) around env (record s { replies = drop (length tys) s.replies })).end
replied_if slot T values pos at tys around env s a p room true h = halted runs.Starved s.trace
replied_if slot T values pos at tys around env s a p room false h =
    rw (given_put values pos tys s.replies)
    (bound slot T values values pos at pos tys (numbers_at tys s.replies) env (record s { replies = drop (length tys) s.replies }) a (kept pos values) (omega arith) (numbers_fit tys s.replies (ltb-false (length s.replies) (length tys) h)) p room)

-- the results of a call
pub replied_match : (slot : Slots) (T : Types) (values : List Number) (pos at : ℕ) (tys : List IrType) (around : List Iteration) (env : List Binding) (s : State) → Agrees slot T values pos env
    → Placed slot at pos (length tys) → pos + length tys ≤ length values → Matches slot (with_types T at tys) pos (pos + length tys) values (replied pos tys values s) (runs.answers at tys around env s).end
replied_match slot T values pos at tys around env s a p room = replied_if slot T values pos at tys around env s a p room (nat_lt (length s.replies) (length tys)) refl

pub called_match : (slot : Slots) (T : Types) (values : List Number) (pos at func : ℕ) (args : List Number) (tys : List IrType) (around : List Iteration) (env : List Binding) (s : State) → Agrees slot T values pos env
    → Placed slot at pos (length tys) → pos + length tys ≤ length values → Matches slot (with_types T at tys) pos (pos + length tys) values (called pos func args tys values s) (runs.calls at func args tys around env s).end
called_match slot T values pos at func args tys around env s a p room =
    spend_matches slot (with_types T at tys) pos (pos + length tys) values s
    (λ s1. replied pos tys values (record s1 { trace = s1.trace ++ record { callee = func; args = args } ∷ [] }))
    (λ s1. runs.answers at tys around env (record s1 { trace = s1.trace ++ record { callee = func; args = args } ∷ [] }))
    (λ s1. replied_match slot T values pos at tys around env (record s1 { trace = s1.trace ++ record { callee = func; args = args } ∷ [] }) a p room)
