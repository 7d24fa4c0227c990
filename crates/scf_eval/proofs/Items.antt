-- The items of a function, with their slots one after another, and how its run ends.
use Rattle.std.proofs.Common.{◌≡◌, ℕ, suc, ◌+◌, ◌*◌, ◌<◌, ◌≤◌, ◌^◌, true, List, [], ◌∷◌, ◌++◌, length, get_or, map, refl, ap, ◌∙◌, sym, subst, arith, Option, Some, Result, Ok, Err, append_assoc}
use Rattle.std.proofs.lemmas.List.{length-map}
use Rattle.std.specs.List.{list_all}
use Rattle.arith_word.specs.Labels.{label_at}
use Rattle.arith_word.specs.declared.label.Label.{Label}
use Rattle.arith_word.proofs.Labels.{parts_of}
use Rattle.mlir_ir.specs.declared.types.Body.{Body}
use Rattle.mlir_ir.specs.declared.types.Func.{Func}
use Rattle.mlir_ir.specs.declared.types.Arg.{Arg}
use Rattle.mlir_ir.specs.declared.types.Item.{Item}
use Rattle.mlir_ir.specs.declared.types.IrType.{IrType}
use Rattle.mlir_ir.specs.Limits.{item_limit, label_limit, arg_limit}
use Rattle.mlir_ir.specs.Operations.{OpList, labels_of}
use Rattle.mlir_ir.specs.Rules.{arg_types}
use Rattle.mlir_ir.specs.Runs as runs
use Rattle.mlir_ir.specs.Runs.{Number, Binding, State, Event, End, numbers_of, numbers_at, binds}
use Rattle.mlir_ir.specs.Sized.{SizedItems}
use Rattle.mlir_ir.specs.Typed.{Types, types_after, types_after_items, untyped, args_typed, knows, TypedItems}
use Rattle.mlir_ir.specs.View.{view_items}
use Rattle.mlir_ir.specs.Check.{IsWellFormed}
use Rattle.mlir_ir.specs.WellFormed.{IsTypedBody, IsSizedBody}
use Rattle.mlir_ir.proofs.SizedFunctions.{well_formed}
use Rattle.scf_eval.specs.Layout.{items_labels, begins_from, IsRunnable}
use Rattle.scf_eval.specs.Machine as machine
use Rattle.scf_eval.specs.Machine.{Slots, Move, Moving, seen, given, steps, step_items}
use Rattle.scf_eval.specs.States.{slot_of, event_of, Moves, Tells}
use Rattle.scf_eval.specs.declared.outcome.Event.{Event as Event1}
use Rattle.scf_eval.specs.declared.machine.Halt.{Halt}
use Rattle.scf_eval.specs.declared.machine.Halt.TheVariants.{Trapped, Starved, Cut, Memory}
use Rattle.scf_eval.proofs.Written.{put, kept, put_keeps, put_stored, given_put}
use Rattle.scf_eval.proofs.Scopes.{Placed, Fit, fit_size, Agrees, agrees_kept, agrees_binds, uses_seen}
use Rattle.scf_eval.proofs.Ends.{Matches, done, halted, since, then_matches, numbers_fit}
use Rattle.scf_eval.proofs.Simulation.{ops_match}

-- the labels of each item have their slots
abbrev pub PlacedItems : Slots → ℕ → ℕ → ℕ → List OpList → Type 0
PlacedItems slot func k pos [] = Unit {0}
PlacedItems slot func k pos (ops ∷ items) = Placed slot (label_at func k 0) pos (labels_of ops) × PlacedItems slot func (k + 1) (pos + labels_of ops) items

pub items_match : (items : List OpList) (slot : Slots) (T : Types) (fuel func k pos : ℕ) (values : List Number) (env : List Binding) (s : State) → TypedItems T func k items → PlacedItems slot func k pos items
    → Agrees slot T values pos env → pos + items_labels items ≤ length values
    → Matches slot (types_after_items T func k items) pos (pos + items_labels items) values (step_items slot items fuel pos values s) (runs.run_items func k items fuel env s).end
items_match [] slot T fuel func k pos values env s typed placed a room = done values env s (kept pos values) (agrees_kept slot T values values pos (pos + 0) env (kept pos values) (omega arith) a)
items_match (ops ∷ items) slot T fuel func k pos values env s typed placed a room =
    let n = labels_of ops in
    let U = types_after T (label_at func k 0) ops in
    let goal : Matches slot (types_after_items U func (k + 1) items) pos (pos + n + items_labels items) values (step_items slot (ops ∷ items) fuel pos values s) (runs.run_items func k (ops ∷ items) fuel env s).end =
    then_matches slot U (types_after_items U func (k + 1) items) pos (pos + n) pos (pos + n + items_labels items) values values (steps slot ops fuel pos values s) (runs.run_ops ops fuel (label_at func k 0) [] env s).end
    (step_items slot items fuel (pos + n)) (λ env s. (runs.run_items func (k + 1) items fuel env s).end)
    (ops_match ops slot T fuel (label_at func k 0) pos [] values env s typed.0 placed.0 a (omega (arith, room)))
    (λ after inner s2 kp ag.
    since slot (types_after_items U func (k + 1) items) pos (pos + n) (pos + n + items_labels items) values after (step_items slot items fuel (pos + n) after s2) (runs.run_items func (k + 1) items fuel inner s2).end kp (omega arith)
    (items_match items slot U fuel func (k + 1) (pos + n) after inner s2 typed.1 placed.1 ag (omega (arith, room, kp.size)))) in
    let end : pos + (n + items_labels items) ≡ pos + n + items_labels items = omega arith in
    rw end goal

-- the slots of an item's labels
slots_at : (begins : List ℕ) (func k begin n : ℕ) → k < 2 ^ 10 → n ≤ 2 ^ 14 → get_or begins k 0 ≡ begin → Placed (slot_of begins) (label_at func k 0) begin n
slots_at begins func k begin n lo hi e = λ d lt.
    let whole : label_at func k 0 + d ≡ label_at func k d = omega arith in
    let parts = parts_of func k d lo (omega (arith, lt, hi)) in
    rw (whole, parts.1, parts.2, e) refl

get_behind : (front rest : List ℕ) (x : ℕ) → get_or (front ++ x ∷ rest) (length front) 0 ≡ x
get_behind [] rest x = refl
get_behind (y ∷ front) rest x = get_behind front rest x

length_more : (front : List ℕ) (x : ℕ) → length (front ++ x ∷ []) ≡ length front + 1
length_more [] x = refl
length_more (y ∷ front) x = let h = length_more front x in omega (arith, h)

pub items_placed : (items : List OpList) (front : List ℕ) (func k pos : ℕ) → length front ≡ k → k + length items ≤ 1024 → SizedItems items
    → PlacedItems (slot_of (front ++ begins_from pos items)) func k pos items
items_placed [] front func k pos e le h = tt
items_placed (ops ∷ items) front func k pos e le h =
    let rest = begins_from (pos + labels_of ops) items in
    let labels : labels_of ops ≤ label_limit = h.0.labels in
    let same : (front ++ pos ∷ []) ++ rest ≡ front ++ pos ∷ rest = append_assoc front (pos ∷ []) rest in
    let here : get_or (front ++ pos ∷ rest) k 0 ≡ pos = rw (← e) (get_behind front rest pos) in (
      slots_at (front ++ pos ∷ rest) func k pos (labels_of ops) (omega (arith, le)) (omega (arith, labels)) here,
      subst (λ (begins : List ℕ). PlacedItems (slot_of begins) func (k + 1) (pos + labels_of ops) items) same
          (items_placed items (front ++ pos ∷ []) func (k + 1) (pos + labels_of ops) (omega (arith, length_more front pos, e)) (omega (arith, le)) h.1),
    )

-- how many labels there are at most
pub items_few : (items : List OpList) → SizedItems items → items_labels items ≤ 16383 * length items
items_few [] h = omega arith
items_few (ops ∷ items) h = let labels : labels_of ops ≤ label_limit = h.0.labels in let rest = items_few items h.1 in omega (arith, labels, rest)

view_size : (items : List _) → length (view_items items) ≡ length items
view_size [] = refl
view_size (item ∷ items) = ap (λ k. suc k) (view_size items)

pub few_labels : (f : Func) (body : Body) (args : List ℕ) → IsRunnable f body args → length f.args + items_labels (view_items body.items) < 2 ^ 32
few_labels f body args h =
    let few : length (view_items body.items) ≤ item_limit = h.sized.few in
    let labels = items_few (view_items body.items) h.sized.inside in
    let some : length f.args ≤ arg_limit = h.few in
    omega (arith, few, labels, some)

-- the whole of a function

-- numbers returned are those of the run, where its operations end like those of the machine
ended : (slot : Slots) (T : Types) (pos mid : ℕ) (values after : List Number) (s : State) (move : Move) (e : End) (ret : List Label) (outcome : runs.Outcome) → Matches slot T pos mid values move e → move ≡ machine.Done after s
    → list_all (knows T) ret ≡ true → outcome ≡ runs.Ended (seen slot after ret) → (outcome ≡ runs.outcome_of ret e) × (s.trace ≡ runs.trace_of e)
ended slot T pos mid values after s move e ret outcome (done after2 env s2 k a) m known o =
    let va : after2 ≡ after = cc in
    let sa : s2 ≡ s = cc in
    let returned : seen slot after ret ≡ numbers_of env ret = ap (λ vs. seen slot vs ret) (sym va) ∙ uses_seen slot T after2 mid env a ret known in
    (o ∙ ap (λ ns. runs.Ended ns) returned, ap (λ (x : State). x.trace) (sym sa))
ended slot T pos mid values after s move e ret outcome (halted stop trace) m known o = absurd (cc)

stopped : (slot : Slots) (T : Types) (pos mid : ℕ) (values : List Number) (move : Move) (e : End) (ret : List Label) (stop : runs.Stop) (trace : List Event) (outcome : runs.Outcome) → Matches slot T pos mid values move e → move ≡ machine.Halted stop trace
    → outcome ≡ runs.Unfinished stop → (outcome ≡ runs.outcome_of ret e) × (trace ≡ runs.trace_of e)
stopped slot T pos mid values move e ret stop trace outcome (done after2 env s2 k a) m o = absurd (cc)
stopped slot T pos mid values move e ret stop trace outcome (halted stop2 trace2) m o = let st : stop2 ≡ stop = cc in let tr : trace2 ≡ trace = cc in (o ∙ ap (λ x. runs.Unfinished x) (sym st), sym tr)

pub finished : (slot : Slots) (T : Types) (pos mid : ℕ) (values after : List Number) (s : State) (flow : Result (Unit {0}) Halt) (move : Move) (e : End) (ret : List Label) (outcome : runs.Outcome) → Matches slot T pos mid values move e
    → list_all (knows T) ret ≡ true → Moves flow after s move → Tells flow (seen slot after ret) outcome → (outcome ≡ runs.outcome_of ret e) × (s.trace ≡ runs.trace_of e)
finished slot T pos mid values after s (Ok value) move e ret outcome m known moves tells = ended slot T pos mid values after s move e ret outcome m moves known tells
finished slot T pos mid values after s (Err Trapped) move e ret outcome m known moves tells = stopped slot T pos mid values move e ret runs.Trapped s.trace outcome m moves tells
finished slot T pos mid values after s (Err Starved) move e ret outcome m known moves tells = stopped slot T pos mid values move e ret runs.Starved s.trace outcome m moves tells
finished slot T pos mid values after s (Err Cut) move e ret outcome m known moves tells = stopped slot T pos mid values move e ret runs.Cut s.trace outcome m moves tells
finished slot T pos mid values after s (Err Memory) move e ret outcome m known moves tells = absurd tells

-- the run of a body, over slots that begin with those of the arguments
pub body_match : (f : Func) (body : Body) (args replies : List ℕ) (budget : ℕ) (blank : List Number) → IsRunnable f body args → length blank ≡ length f.args + items_labels (view_items body.items)
    → (let slot = slot_of (0 ∷ begins_from (length f.args) (view_items body.items)) in
    let s : State = record { budget = budget; replies = replies; trace = [] } in
    Matches slot (types_after_items (args_typed f.index f.args) f.index 1 (view_items body.items)) (length f.args) (length f.args + items_labels (view_items body.items)) (given blank 0 (arg_types f.args) args)
    (step_items slot (view_items body.items) budget (length f.args) (given blank 0 (arg_types f.args) args) s)
    (runs.run_items f.index 1 (view_items body.items) budget (binds (label_at f.index 0 0) (numbers_at (arg_types f.args) args) []) s).end)
body_match f body args replies budget blank h size =
    let items = view_items body.items in
    let tys = arg_types f.args in
    let n : length tys ≡ length f.args = length-map f.args (λ arg. arg.ty) in
    let begins = 0 ∷ begins_from (length f.args) items in
    let slot = slot_of begins in
    let ns = numbers_at tys args in
    let fit : Fit tys ns = numbers_fit tys args (omega (arith, n, h.arguments)) in
    let few : length f.args ≤ arg_limit = h.few in
    let many : length items ≤ item_limit = h.sized.few in
    let placed_args : Placed slot (label_at f.index 0 0) 0 (length tys) = slots_at begins f.index 0 0 (length tys) (omega arith) (omega (arith, few, n)) refl in
    let none : Agrees slot untyped blank 0 [] = λ l ty e. absurd (cc) in
    let begun = agrees_binds slot untyped blank (put blank 0 ns) 0 (label_at f.index 0 0) 0 tys ns [] none (put_keeps blank 0 ns) (omega arith)
    (put_stored blank 0 ns (omega (arith, size, n, fit_size tys ns fit))) fit placed_args in
    let at : 0 + length tys ≡ length f.args = omega (arith, n) in
    rw (given_put blank 0 tys args)
    (items_match items slot (args_typed f.index f.args) budget f.index 1 (length f.args) (put blank 0 ns) (binds (label_at f.index 0 0) ns []) (record { budget = budget; replies = replies; trace = [] })
    h.typed.inside (items_placed items (0 ∷ []) f.index 1 (length f.args) refl (omega (arith, many)) h.sized.inside) (rw at at begun) (omega (arith, size, (put_keeps blank 0 ns).size)))

-- a well-formed function can be run
pub runnable : (f : Func) (body : Body) (args : List ℕ) → IsWellFormed f → f.body ≡ Some body → length args ≡ length f.args → IsRunnable f body args
runnable f body args h e n =
    let w = well_formed f h in
    let typed : IsTypedBody f (Some body) = subst (λ (b : Option Body). IsTypedBody f b) e w.0 in
    let sized : IsSizedBody (Some body) = subst (λ (b : Option Body). IsSizedBody b) e w.2.inside in
    record { typed = typed; sized = sized; few = w.2.args_sized.few; arguments = n }

-- what the program computes of a body is its run
pub whole : (f : Func) (body : Body) (args replies : List ℕ) (budget : ℕ) (items1 : List Item) (args1 : List Arg) (types1 : List IrType) (begins1 : List ℕ) (blank given1 after : List Number) (s s0 : State) (flow : Result (Unit {0}) Halt)
    (ret1 : List Label) (outcome : runs.Outcome) → IsRunnable f body args → items1 ≡ body.items → args1 ≡ f.args → types1 ≡ arg_types args1 → begins1 ≡ 0 ∷ begins_from (length args1) (view_items items1)
    → length blank ≡ length args1 + items_labels (view_items items1) → given1 ≡ given blank 0 types1 args → s0 ≡ record { budget = budget; replies = replies; trace = [] } → ret1 ≡ body.ret
    → Moves flow after s (step_items (slot_of begins1) (view_items items1) budget (length args1) given1 s0) → Tells flow (seen (slot_of begins1) after ret1) outcome
    → (outcome ≡ (runs.run_body f body args replies budget).outcome) × (s.trace ≡ (runs.run_body f body args replies budget).trace)
whole f body args replies budget items1 args1 types1 begins1 blank given1 after s s0 flow ret1 outcome h i a t b size g z r moves tells =
    let begins = 0 ∷ begins_from (length f.args) (view_items body.items) in
    let begins_are : begins1 ≡ begins = rw (← a, ← i) b in
    let given_are : given1 ≡ given blank 0 (arg_types f.args) args = rw (← a, ← t) g in
    let size1 : length blank ≡ length f.args + items_labels (view_items body.items) = rw (← a, ← i) size in
    let moves1 = rw (begins_are, i, a, given_are, z) at moves in
    let tells1 = rw (begins_are, r) at tells in
    finished (slot_of begins) (types_after_items (args_typed f.index f.args) f.index 1 (view_items body.items)) (length f.args) (length f.args + items_labels (view_items body.items)) (given blank 0 (arg_types f.args) args) after s flow
    (step_items (slot_of begins) (view_items body.items) budget (length f.args) (given blank 0 (arg_types f.args) args) (record { budget = budget; replies = replies; trace = [] }))
    (runs.run_items f.index 1 (view_items body.items) budget (binds (label_at f.index 0 0) (numbers_at (arg_types f.args) args) []) (record { budget = budget; replies = replies; trace = [] })).end
    body.ret outcome (body_match f body args replies budget blank h size1) h.typed.returned.in_scope moves1 tells1

pub first_state : (budget left : ℕ) (replies : List ℕ) (trace : List Event1) → left ≡ budget → trace ≡ []
    → (let s : State = record { budget = left; replies = replies; trace = map event_of trace } in s) ≡ (let s : State = record { budget = budget; replies = replies; trace = [] } in s)
first_state budget left replies trace e f = rw (e, f) refl
