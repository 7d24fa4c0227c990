-- Regions and loops give the machine and the run the same numbers, where what stands in them does.
use Rattle.std.proofs.Common.{◌≡◌, ℕ, zero, suc, ◌+◌, ◌<◌, ◌≤◌, ◌^◌, ◌%◌, inr, Bool, true, false, List, [], ◌∷◌, length, slice_set, subst, arith, if◌then◌else◌}
use Rattle.std.proofs.lemmas.Nat.{pow_pos}
use Rattle.std.proofs.Math.Nat.{mod-lt}
use Rattle.std.specs.List.{list_all}
use Rattle.arith_word.specs.Operation.{holds}
use Rattle.arith_word.specs.declared.op.Pred.TheVariants.{Slt}
use Rattle.arith_word.specs.declared.label.Label.{Label}
use Rattle.mlir_ir.specs.declared.types.Arg.{Arg}
use Rattle.mlir_ir.specs.declared.types.IrType.{IrType}
use Rattle.mlir_ir.specs.Runs as runs
use Rattle.mlir_ir.specs.Runs.{Number, number, Binding, State, End, look, numbers_of, binds, is_false, Iteration, Running, Place, in_turn, counted, repeated}
use Rattle.mlir_ir.specs.Typed.{Types, with_types, knows, all_fit}
use Rattle.scf_eval.specs.Machine as machine
use Rattle.scf_eval.specs.Machine.{Slots, Move, Moving, move_then, number_at, read, copied, moved, handed, spend, Counting, Repeating, entered, turns, rounds}
use Rattle.scf_eval.proofs.Written.{put, Stored, Keeps, kept, keeps_both, keeps_less, put_keeps, put_stored, stored_kept, set_other, moved_put, copied_put}
use Rattle.scf_eval.proofs.Scopes.{Placed, IsOf, Fit, fit_size, Agrees, agrees_kept, agrees_binds, uses_read, uses_fit}
use Rattle.scf_eval.proofs.Ends.{Matches, done, halted, bound, spend_matches, then_matches}

-- what a region gives on
pub record GivesOn (U : Types) (tys : List IrType) (ends : List Label) : Type 0 where
  pub many : length ends ≡ length tys
  pub in_scope : list_all (knows U) ends ≡ true
  pub typed : all_fit U tys ends ≡ true

-- it is copied as it stands in scope
pub given_on : (slot : Slots) (U : Types) (after : List Number) (mid res : ℕ) (tys : List IrType) (ends : List Label) (inner : List Binding) → GivesOn U tys ends → mid ≤ res → Agrees slot U after mid inner
    → (copied slot after res ends ≡ put after res (numbers_of inner ends)) × Fit tys (numbers_of inner ends)
given_on slot U after mid res tys ends inner g le a = (
  copied_put slot after res (res + length ends) inner ends (omega arith)
      (uses_read slot U after res inner (agrees_kept slot U after after mid res inner (kept mid after) le a) (res + length ends) ends g.in_scope),
  uses_fit slot U after mid inner a tys ends g.many g.in_scope g.typed,
)

pub handed_then : (slot : Slots) (U W : Types) (p mid pos q res : ℕ) (ends : List Label) (values values0 : List Number) (m : Move) (e : End) (go : List Number → State → Move) (goes : List Binding → State → End) → Matches slot U p mid values m e
    → ((after : List Number) (env : List Binding) (s : State) → Keeps p values after → Agrees slot U after mid env → Matches slot W pos q values0 (go (copied slot after res ends) s) (goes env s))
    → Matches slot W pos q values0 (move_then (handed slot res ends m) go) (runs.end_then e goes)
handed_then slot U W p mid pos q res ends values values0 m e go goes (done after env s k a) next = next after env s k a
handed_then slot U W p mid pos q res ends values values0 m e go goes (halted stop trace) next = halted stop trace

pub handed_match : (slot : Slots) (T U : Types) (values : List Number) (pos p mid resl res : ℕ) (tys : List IrType) (ends : List Label) (around : List Iteration) (env : List Binding) (m : Move) (r : runs.Segment)
    → Agrees slot T values pos env → pos ≤ p → mid ≤ res → pos ≤ res → GivesOn U tys ends → Placed slot resl res (length tys) → res + length tys ≤ length values → Matches slot U p mid values m r.end
    → Matches slot (with_types T resl tys) pos (res + length tys) values (handed slot res ends m) (runs.hands resl ends around env r).end
handed_match slot T U values pos p mid resl res tys ends around env m r a le mid_le res_le g placed room ok =
    then_matches slot U (with_types T resl tys) p mid pos (res + length tys) values values m r.end (λ values s. machine.Done (copied slot values res ends) s)
    (λ inner s. runs.Done (binds resl (numbers_of inner ends) env) s) ok
    (λ after inner s k ag.
    let o = given_on slot U after mid res tys ends inner g mid_le ag in
    rw o.0 (bound slot T values after pos resl res tys (numbers_of inner ends) env s a (keeps_less p pos values after le k) res_le o.1 placed room))

-- the numbers of a loop's results stand at their slots when it is left
pub left_match : (slot : Slots) (T : Types) (values0 values : List Number) (pos resl res : ℕ) (tys : List IrType) (ns : List Number) (env : List Binding) (s : State) → Agrees slot T values0 pos env → Keeps pos values0 values → pos ≤ res
    → Stored values res ns → Fit tys ns → Placed slot resl res (length tys) → Matches slot (with_types T resl tys) pos (res + length tys) values0 (machine.Done values s) (runs.Done (binds resl ns env) s)
left_match slot T values0 values pos resl res tys ns env s a k le st f placed = done values (binds resl ns env) s k (agrees_binds slot T values0 values pos resl res tys ns env a k le st f placed)

next_is : (ty : IrType) (v : Number) (x : ℕ) → IsOf ty v → IsOf ty (number v.w x)
next_is ty v x is = record { wide = is.wide; below = subst (λ (w : ℕ). x % 2 ^ v.w < 2 ^ w) is.wide (mod-lt x (pow_pos v.w)) }

-- `scf.for` at label `at` and slot `pos`, its arguments of types `tys`, its body from slot `inside` to `res`
module _ (slot : Slots) (T U : Types) (values0 : List Number) (pos at inside resl res : ℕ) (args : List Arg) (iv : IrType) (tys : List IrType) (ends : List Label) (around : List Iteration) (env : List Binding)
    (body : Moving) (running : Running) (upper step : Number) (a : Agrees slot T values0 pos env) (many : length args ≡ length tys) (inside_is : pos + 2 + length tys ≡ inside) (inside_le : inside ≤ res)
    (placed_iv : Placed slot (at + 1) (pos + 1) 1) (placed_args : Placed slot (at + 2) (pos + 2) (length tys)) (placed_res : Placed slot resl res (length tys)) (room : res + length tys ≤ length values0) (gives : GivesOn U tys ends)
    (body_ok : (k : ℕ) (values : List Number) (inner : List Binding) (s : State) → length values ≡ length values0 → Agrees slot (with_types (with_types T (at + 1) (iv ∷ [])) (at + 2) tys) values inside inner
    → Matches slot U inside res values (body values s) (running (in_turn (record { at = at; res = resl; around = around; env = env }) k) inner s).end) where
  abbrev place : Place
  place = record { at = at; res = resl; around = around; env = env }

  abbrev loop : Counting
  loop = record { pos = pos; res = res; args = args; upper = upper.v; step = step.v }

  abbrev round : Moving
  round values s = handed slot res ends (body values s)

  -- an iteration begins
  entered_is : (values ns : List Number) (v : Number) → Keeps pos values0 values → Stored values res ns → Fit tys ns → IsOf iv v
      → (entered loop v values ≡ put (slice_set values (pos + 1) v) (pos + 2) ns) × Keeps pos values0 (put (slice_set values (pos + 1) v) (pos + 2) ns)
      × Agrees slot (with_types (with_types T (at + 1) (iv ∷ [])) (at + 2) tys) (put (slice_set values (pos + 1) v) (pos + 2) ns) inside (binds (at + 1) (v ∷ ns) env)
  entered_is values ns v k st f is =
      let size = fit_size tys ns f in
      let one = slice_set values (pos + 1) v in
      let two = put one (pos + 2) ns in
      let k1 : Keeps (pos + 1) values one = put_keeps values (pos + 1) (v ∷ []) in
      let k2 : Keeps (pos + 2) one two = put_keeps one (pos + 2) ns in
      let k01 : Keeps pos values0 one = keeps_both pos values0 values one k (keeps_less (pos + 1) pos values one (omega arith) k1) in
      let st1 : Stored one res ns = stored_kept values one res ns (λ i lo hi. set_other values (pos + 1) i v (inr (omega arith))) st in
      let first = agrees_binds slot T values0 one pos (at + 1) (pos + 1) (iv ∷ []) (v ∷ []) env a k01 (omega arith) (put_stored values (pos + 1) (v ∷ []) (omega (arith, k.size))) (is, tt) placed_iv in
      let second = agrees_binds slot (with_types T (at + 1) (iv ∷ [])) one two (pos + 1 + 1) (at + 2) (pos + 2) tys ns (binds (at + 1) (v ∷ []) env) first
      (keeps_less (pos + 2) (pos + 1 + 1) one two (omega arith) k2) (omega arith) (put_stored one (pos + 2) ns (omega (arith, k01.size))) f placed_args in
      let two_at : at + 1 + 1 ≡ at + 2 = omega arith in (
        moved_put one res (pos + 2) args ns (omega arith) (omega arith) st1,
        keeps_both pos values0 one two k01 (keeps_less (pos + 2) pos one two (omega arith) k2),
        rw (← inside_is, two_at) second,
      )

  -- from that iteration on
  abbrev From : ℕ → Type 0
  From fuel = (k : ℕ) (values ns : List Number) (v : Number) (s : State) → Keeps pos values0 values → Stored values res ns → Fit tys ns → IsOf iv v
      → Matches slot (with_types T resl tys) pos (res + length tys) values0 (turns fuel round loop v values s) (counted fuel running place ends upper step v k ns s).end

  left_here : (values ns : List Number) (s : State) (k : ℕ) → Keeps pos values0 values → Stored values res ns → Fit tys ns
      → Matches slot (with_types T resl tys) pos (res + length tys) values0 (machine.Done values s) (runs.leaves place k ns s).end
  left_here values ns s k kp st f = left_match slot T values0 values pos resl res tys ns env s a kp (omega arith) st f placed_res

  for_none : (b : Bool) (k : ℕ) (values ns : List Number) (s : State) → Keeps pos values0 values → Stored values res ns → Fit tys ns
      → Matches slot (with_types T resl tys) pos (res + length tys) values0 (if b then machine.halts runs.Cut s else machine.Done values s) (if b then runs.stops runs.Cut s else runs.leaves place k ns s).end
  for_none true k values ns s kp st f = halted runs.Cut s.trace
  for_none false k values ns s kp st f = left_here values ns s k kp st f

  one_turn : (fuel : ℕ) → From fuel → (k : ℕ) (values ns : List Number) (v : Number) (s1 : State) → Keeps pos values0 values → Stored values res ns → Fit tys ns → IsOf iv v
      → Matches slot (with_types T resl tys) pos (res + length tys) values0
      (move_then (round (entered loop v values) s1) (turns fuel round loop (number v.w (v.v + step.v))))
      (runs.end_then (running (in_turn place k) (binds (at + 1) (v ∷ ns) env) s1).end (λ inner s2. (counted fuel running place ends upper step (number v.w (v.v + step.v)) (k + 1) (numbers_of inner ends) s2).end))
  one_turn fuel ih k values ns v s1 kp st f is =
      let begun = entered_is values ns v kp st f is in
      let two = put (slice_set values (pos + 1) v) (pos + 2) ns in
      rw begun.0
      (handed_then slot U (with_types T resl tys) inside res pos (res + length tys) res ends two values0 (body two s1) (running (in_turn place k) (binds (at + 1) (v ∷ ns) env) s1).end
      (turns fuel round loop (number v.w (v.v + step.v))) (λ inner s2. (counted fuel running place ends upper step (number v.w (v.v + step.v)) (k + 1) (numbers_of inner ends) s2).end)
      (body_ok k two (binds (at + 1) (v ∷ ns) env) s1 begun.1.size begun.2)
      (λ after inner s2 ka ag.
      let o = given_on slot U after res res tys ends inner gives (omega arith) ag in
      let kept_so_far : Keeps pos values0 after = keeps_both pos values0 two after begun.1 (keeps_less inside pos two after (omega arith) ka) in
      rw o.0
      (ih (k + 1) (put after res (numbers_of inner ends)) (numbers_of inner ends) (number v.w (v.v + step.v)) s2
      (keeps_both pos values0 after (put after res (numbers_of inner ends)) kept_so_far (keeps_less res pos after (put after res (numbers_of inner ends)) (omega arith) (put_keeps after res (numbers_of inner ends))))
      (put_stored after res (numbers_of inner ends) (omega (arith, kept_so_far.size, fit_size tys (numbers_of inner ends) o.1))) o.1 (next_is iv v (v.v + step.v) is))))

  for_some : (fuel : ℕ) → From fuel → (b : Bool) (k : ℕ) (values ns : List Number) (v : Number) (s : State) → Keeps pos values0 values → Stored values res ns → Fit tys ns → IsOf iv v
      → Matches slot (with_types T resl tys) pos (res + length tys) values0
      (if b then spend s (λ s1. move_then (round (entered loop v values) s1) (turns fuel round loop (number v.w (v.v + step.v)))) else machine.Done values s)
      (if b
      then runs.tick s (λ s1. runs.run_then (runs.run_then (runs.defines (at + 1) (v ∷ ns) (in_turn place k) env s1) (running (in_turn place k)))
      (λ inner s2. counted fuel running place ends upper step (number v.w (v.v + step.v)) (k + 1) (numbers_of inner ends) s2))
      else runs.leaves place k ns s).end
  for_some fuel ih true k values ns v s kp st f is =
      spend_matches slot (with_types T resl tys) pos (res + length tys) values0 s (λ s1. move_then (round (entered loop v values) s1) (turns fuel round loop (number v.w (v.v + step.v))))
      (λ s1. runs.run_then (runs.run_then (runs.defines (at + 1) (v ∷ ns) (in_turn place k) env s1) (running (in_turn place k)))
      (λ inner s2. counted fuel running place ends upper step (number v.w (v.v + step.v)) (k + 1) (numbers_of inner ends) s2))
      (λ s1. one_turn fuel ih k values ns v s1 kp st f is)
  for_some fuel ih false k values ns v s kp st f is = left_here values ns s k kp st f

  pub for_match : (fuel : ℕ) → From fuel
  for_match zero k values ns v s kp st f is = for_none (holds Slt v.w v.v upper.v) k values ns s kp st f
  for_match (suc fuel) k values ns v s kp st f is = for_some fuel (for_match fuel) (holds Slt v.w v.v upper.v) k values ns v s kp st f is
