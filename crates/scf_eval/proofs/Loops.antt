-- What is kept over the iterations of a loop of the machine, and how it ends.
use Rattle.std.proofs.Common.{slice_set, length, [], ◌≡◌, ℕ, ◌+◌, ◌-◌, ◌==◌, ◌<◌, ◌≤◌, ◌^◌, ◌%◌, true, false, List, refl, ap, ◌∙◌, sym, subst, arith, Err}
use Rattle.std.proofs.Math.Nat.{mod-mod, mod-add-mod, mod-eq_of_lt}
use Rattle.arith_word.specs.Operation.{holds}
use Rattle.arith_word.specs.declared.label.Label.{Label}
use Rattle.mlir_ir.specs.Operations.{OpList, For, While, labels_of}
use Rattle.mlir_ir.specs.declared.types.Arg.{Arg}
use Rattle.arith_word.specs.declared.op.Pred.TheVariants.{Slt}
use Rattle.mlir_ir.specs.Runs as runs
use Rattle.mlir_ir.specs.Runs.{Number, number, State}
use Rattle.scf_eval.specs.Machine.{Move, Done, Halted, Moving, Slots, steps, step_kind, handed, Counting, Repeating, turns, rounds, entered, moved, read, copied}
use Rattle.scf_eval.specs.States.{Spends, Moves}
use Rattle.scf_eval.specs.declared.machine.Halt.{Halt}
use Rattle.scf_eval.specs.declared.machine.Halt.TheVariants.{Trapped, Starved, Cut, Memory}
use Rattle.scf_eval.proofs.Iterations.{turn_goes_on, turn_stops, turn_cut, turn_ends, round_stops, round_ends, round_cut, round_halts, round_goes_on}

pub record OnLoop (budget spent0 spent : ℕ) (now : ℕ → Move) (all : Move) : Type 0 where
  pub fuel : ℕ
  pub spends : spent0 ≤ spent
  pub enough : budget - spent ≤ fuel
  pub same : now fuel ≡ all

-- no budget is left: the whole is cut
pub cut_moves : (B : Type 0) (halt : Halt) (values : List Number) (s0 s : State) (all : Move) → halt ≡ Cut → s ≡ s0 → all ≡ Halted runs.Cut s0.trace → Moves {A = B} (Err halt) values s all
cut_moves B halt values s0 s all h e a = subst (λ (x : Halt). Moves {A = B} (Err x) values s all) (sym h) (rw (e, a) refl)

-- an iteration stops: the whole does
pub err_moves : (A B : Type 0) (halt : Halt) (values : List Number) (s : State) (part all : Move)
    → ((stop : runs.Stop) (trace : List runs.Event) → part ≡ Halted stop trace → all ≡ Halted stop trace) → Moves {A = A} (Err halt) values s part → Moves {A = B} (Err halt) values s all
err_moves A B Trapped values s part all go h = go _ _ h
err_moves A B Starved values s part all go h = go _ _ h
err_moves A B Cut values s part all go h = go _ _ h
err_moves A B Memory values s part all go h = tt

-- `scf.for`
module _ (budget spent0 spent : ℕ) (body : Moving) (loop : Counting) (v : Number) (values : List Number) (s : State) (all : Move) (on : OnLoop budget spent0 spent (λ fuel. turns fuel body loop v values s) all)
    (b : s.budget ≡ budget - spent) where
  pub for_cut : holds Slt v.w v.v loop.upper ≡ true → budget - spent ≡ 0 → all ≡ Halted runs.Cut s.trace
  for_cut h none = sym on.same ∙ turn_cut on.fuel body loop v values s h (omega (arith, b, none))

  pub for_stops : holds Slt v.w v.v loop.upper ≡ true → (x : Number) (inside : List Number) (s1 : State) → x ≡ v → inside ≡ moved (slice_set values (loop.pos + 1) x) loop.res (loop.pos + 2) loop.args
      → Spends s s1 → (stop : runs.Stop) (trace : List runs.Event) → body inside s1 ≡ Halted stop trace → all ≡ Halted stop trace
  for_stops h x inside s1 d i p stop trace e =
      sym on.same ∙ turn_stops on.fuel body loop v values s s1 stop trace h p (omega (arith, b, on.enough)) (ap (λ ns. body ns s1) (sym (i ∙ ap (λ n. entered loop n values) d)) ∙ e)

  pub for_ends : holds Slt v.w v.v loop.upper ≡ false → all ≡ Done values s
  for_ends h = sym on.same ∙ turn_ends on.fuel body loop v values s h

  pub for_goes_on : holds Slt v.w v.v loop.upper ≡ true → (x : Number) (inside : List Number) (s1 : State) → x ≡ v → inside ≡ moved (slice_set values (loop.pos + 1) x) loop.res (loop.pos + 2) loop.args
      → Spends s s1 → (after : List Number) (s2 : State) (spent1 : ℕ) (after_v : Number)
      → body inside s1 ≡ Done after s2 → spent + 1 ≤ spent1 → after_v ≡ number v.w (v.v + loop.step)
      → OnLoop budget spent0 spent1 (λ fuel. turns fuel body loop after_v after s2) all
  for_goes_on h x inside s1 d i p after s2 spent1 after_v e le n =
      let done : body (entered loop v values) s1 ≡ Done after s2 = ap (λ ns. body ns s1) (sym (i ∙ ap (λ n. entered loop n values) d)) ∙ e in
      record {
        fuel = on.fuel - 1;
        spends = omega (arith, on.spends, le);
        enough = omega (arith, on.enough, le);
        same = rw n (sym (turn_goes_on on.fuel body loop v values s s1 after s2 h p (omega (arith, b, on.enough)) done) ∙ on.same);
      }

pub next_number : (w v step r : ℕ) → r ≡ (v + step) % 2 ^ w → number w r ≡ number w (v % 2 ^ w + step)
next_number w v step r e =
    let two : (v + step) % 2 ^ w % 2 ^ w ≡ (v % 2 ^ w + step) % 2 ^ w = mod-mod (v + step) (2 ^ w) ∙ sym (mod-add-mod v (2 ^ w) step) in
    let with : ℕ → Number = λ x. record { w = w; v = x } in ap with (rw e two)

-- `scf.while`; `part` is what the before region does
module _ (budget spent0 spent : ℕ) (before after : Moving) (loop : Repeating) (values : List Number) (s : State) (all : Move) (on : OnLoop budget spent0 spent (λ fuel. rounds fuel before after loop values s) all)
    (part : Move) (same : before values s ≡ part) where
  pub while_stops : (stop : runs.Stop) (trace : List runs.Event) → part ≡ Halted stop trace → all ≡ Halted stop trace
  while_stops stop trace e = sym on.same ∙ round_stops on.fuel before after loop values s stop trace (same ∙ e)

  pub while_ends : (inner : List Number) (s1 : State) → part ≡ Done inner s1 → (read loop.slot inner loop.cond).v ≡ 0 → all ≡ Done (copied loop.slot inner loop.res loop.passed) s1
  while_ends inner s1 e h = sym on.same ∙ round_ends on.fuel before after loop values s inner s1 (same ∙ e) h

  pub while_cut : (inner : List Number) (s1 : State) → part ≡ Done inner s1 → ((read loop.slot inner loop.cond).v == 0) ≡ false → s1.budget ≡ 0 → all ≡ Halted runs.Cut s1.trace
  while_cut inner s1 e h none = sym on.same ∙ round_cut on.fuel before after loop values s inner s1 (same ∙ e) h none

  pub while_halts : (inner : List Number) (s1 s2 : State) (given_on : List Number) (spent1 : ℕ) → part ≡ Done inner s1 → ((read loop.slot inner loop.cond).v == 0) ≡ false → Spends s1 s2
      → s1.budget ≡ budget - spent1 → spent ≤ spent1 → given_on ≡ copied loop.slot inner loop.params loop.passed
      → (stop : runs.Stop) (trace : List runs.Event) → after given_on s2 ≡ Halted stop trace → all ≡ Halted stop trace
  while_halts inner s1 s2 given_on spent1 e h p b le g stop trace a =
      sym on.same ∙ round_halts on.fuel before after loop values s inner s1 s2 stop trace (same ∙ e) h p (omega (arith, on.enough, b, le)) (ap (λ ns. after ns s2) (sym g) ∙ a)

  pub while_goes_on : (inner : List Number) (s1 s2 : State) (given_on : List Number) (spent1 spent2 : ℕ) (last : List Number) (s3 : State) → part ≡ Done inner s1 → ((read loop.slot inner loop.cond).v == 0) ≡ false
      → Spends s1 s2 → s1.budget ≡ budget - spent1 → spent ≤ spent1 → spent1 + 1 ≤ spent2 → given_on ≡ copied loop.slot inner loop.params loop.passed → after given_on s2 ≡ Done last s3
      → OnLoop budget spent0 spent2 (λ fuel. rounds fuel before after loop last s3) all
  while_goes_on inner s1 s2 given_on spent1 spent2 last s3 e h p b le less g a = record {
    fuel = on.fuel - 1;
    spends = omega (arith, on.spends, le, less);
    enough = omega (arith, on.enough, le, less);
    same = sym (round_goes_on on.fuel before after loop values s inner s1 s2 last s3 (same ∙ e) h p (omega (arith, on.enough, b, le)) (ap (λ ns. after ns s2) (sym g) ∙ a)) ∙ on.same;
  }

pub steps_same : (slot : Slots) (fuel pos : ℕ) (values : List Number) (s : State) (ops other : OpList) → ops ≡ other → steps slot ops fuel pos values s ≡ steps slot other fuel pos values s
steps_same slot fuel pos values s ops other e = ap (λ ops. steps slot ops fuel pos values s) e

pub copied_same : (slot : Slots) (values : List Number) (pos : ℕ) (labels other : List Label) → labels ≡ other → copied slot values pos labels ≡ copied slot values pos other
copied_same slot values pos labels other e = ap (λ labels. copied slot values pos labels) e

-- how an `scf.for` begins
pub for_begins : (slot : Slots) (budget pos : ℕ) (values : List Number) (s : State) (lower upper step : Label) (iv : Arg) (args : List Arg) (inits : List Label) (body : OpList) (ends : List Label)
    (lo up st : Number) (args1 : List Arg) (inits1 : List Label) (res : ℕ) (values1 : List Number) (s1 : State)
    → lo ≡ read slot values lower → up ≡ read slot values upper → st ≡ read slot values step → lo.v < 2 ^ lo.w → args1 ≡ args → inits1 ≡ inits
    → res ≡ pos + 2 + length args1 + labels_of body → values1 ≡ copied slot values res inits1 → s1 ≡ s
    → turns budget (λ inner s1. handed slot res ends (steps slot body budget (pos + 2 + length args1) inner s1)) (record { pos = pos; res = res; args = args1; upper = up.v % 2 ^ lo.w; step = st.v })
    (number lo.w lo.v) values1 s1
    ≡ step_kind slot (For lower upper step iv args inits body ends) [] budget pos values s
for_begins slot budget pos values s lower upper step iv args inits body ends lo up st args1 inits1 res values1 s1 l u t b a i r v e =
    let whole : number lo.w lo.v ≡ lo = let with : ℕ → Number = λ x. record { w = lo.w; v = x } in ap with (mod-eq_of_lt b) in
    let at : res ≡ pos + 2 + length args + labels_of body = rw a at r in
    let held : values1 ≡ copied slot values (pos + 2 + length args + labels_of body) inits = v ∙ (ap (λ res. copied slot values res inits1) at ∙ ap (λ inits. copied slot values (pos + 2 + length args + labels_of body) inits) i) in
    rw (whole, at, a, held, e, l, u, t) refl

-- how an `scf.while` begins
pub while_begins : (slot : Slots) (budget pos : ℕ) (values : List Number) (s : State) (args : List Arg) (inits : List Label) (before : OpList) (passed : List Label) (cond : Label) (after_args : List Arg) (after : OpList) (ends : List Label)
    (args1 after_args1 : List Arg) (inits1 : List Label) (params res : ℕ) (values1 : List Number) (s1 : State)
    → args1 ≡ args → after_args1 ≡ after_args → inits1 ≡ inits → params ≡ pos + 1 + length args1 + labels_of before → res ≡ params + length after_args1 + labels_of after
    → values1 ≡ copied slot values (pos + 1) inits1 → s1 ≡ s
    → rounds budget (steps slot before budget (pos + 1 + length args1)) (λ inner s1. handed slot (pos + 1) ends (steps slot after budget (params + length after_args1) inner s1))
    (record { slot = slot; res = res; params = params; cond = cond; passed = passed }) values1 s1
    ≡ step_kind slot (While args inits before passed cond after_args after ends) [] budget pos values s
while_begins slot budget pos values s args inits before passed cond after_args after ends args1 after_args1 inits1 params res values1 s1 a b i p r v e =
    let held : values1 ≡ copied slot values (pos + 1) inits = v ∙ ap (λ inits. copied slot values (pos + 1) inits) i in
    rw (r, p, a, b, held, e) refl

pub loop_begins : (budget spent0 spent : ℕ) (now : ℕ → Move) (all : Move) → spent ≡ spent0 → now budget ≡ all → OnLoop budget spent0 spent now all
loop_begins budget spent0 spent now all e same = record { fuel = budget; spends = omega (arith, e); enough = omega arith; same = same }

pub done_same : (values values1 : List Number) (s s1 : State) → values1 ≡ values → s1 ≡ s → Done values s ≡ Done values1 s1
done_same values values1 s s1 e f = rw (e, f) refl
