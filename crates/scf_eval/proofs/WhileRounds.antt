-- An `scf.while` gives the machine and the run the same numbers, where its regions do.
use Rattle.std.proofs.Common.{◌≡◌, ℕ, zero, suc, ◌+◌, ◌==◌, ◌<◌, ◌≤◌, ◌⊎◌, inl, inr, Bool, true, false, List, [], ◌∷◌, length, sym, arith, Some, if◌then◌else◌}
use Rattle.std.proofs.lemmas.Bool.{and_parts}
use Rattle.std.specs.List.{list_all}
use Rattle.arith_word.specs.declared.label.Label.{Label}
use Rattle.mlir_ir.specs.declared.types.IrType.{IrType}
use Rattle.mlir_ir.specs.Runs as runs
use Rattle.mlir_ir.specs.Runs.{Number, number, Binding, State, End, look, numbers_of, binds, is_false, Iteration, Running, Place, in_turn, counted, repeated}
use Rattle.mlir_ir.specs.Typed.{Types, with_types, knows}
use Rattle.scf_eval.specs.Machine as machine
use Rattle.scf_eval.specs.Machine.{Slots, Move, Moving, move_then, number_at, read, copied, moved, handed, spend, Counting, Repeating, entered, turns, rounds}
use Rattle.scf_eval.proofs.Written.{put, Stored, Keeps, keeps_both, keeps_less, put_keeps, put_stored, copied_put, Reads}
use Rattle.scf_eval.proofs.Scopes.{Placed, Fit, fit_size, Agrees, agrees_binds, agrees_outside, use_known, uses_fit}
use Rattle.scf_eval.proofs.Ends.{Matches, halted, bound, spend_matches, then_matches}
use Rattle.scf_eval.proofs.Rounds.{GivesOn, given_on, handed_then}

-- labels in scope that are below `pos`, or stand no lower than `top`
reads_late : (slot : Slots) (T V : Types) (values0 after : List Number) (pos p top rs : ℕ) (env last : List Binding) → Agrees slot T values0 pos env → Agrees slot V after rs last
    → ((l : ℕ) (ty : IrType) → V l ≡ Some ty → (T l ≡ Some ty) ⊎ (top ≤ slot l)) → pos ≤ p → (ls : List Label) → list_all (knows V) ls ≡ true → Reads slot after p top last ls
reads_late slot T V values0 after pos p top rs env last a b late le [] k = tt
reads_late slot T V values0 after pos p top rs env last a b late le (l ∷ ls) k =
    let h = and_parts (knows V l) (list_all (knows V) ls) k in
    let u = use_known slot V after rs last b l h.0 in
    let apart : (slot l.0 < p) ⊎ (top ≤ slot l.0) =
    elim (late l.0 u.0 u.1) as (λ _. (slot l.0 < p) ⊎ (top ≤ slot l.0)) [ inl t ↦ inl (let early : slot l.0 < pos = (a l.0 u.0 t).early in omega (arith, early, le)) | inr t ↦ inr t ] in
    (u.2.same, apart, reads_late slot T V values0 after pos p top rs env last a b late le ls h.1)

-- `scf.while` at label `at` and slot `pos`, its arguments of types `tys`; the parameters of the after region at label `pl` and slot `ps`, of the types of the results
module _ (slot : Slots) (T U W : Types) (values0 : List Number) (pos at inside ps in_after pl resl res : ℕ) (tys results : List IrType) (cond : Label) (passed ends : List Label) (around : List Iteration) (env : List Binding)
    (before after : Moving) (testing running : Running) (a : Agrees slot T values0 pos env) (inside_is : pos + 1 + length tys ≡ inside) (ps_le : inside ≤ ps) (after_is : ps + length results ≡ in_after) (res_le : in_after ≤ res)
    (placed_args : Placed slot (at + 1) (pos + 1) (length tys)) (placed_params : Placed slot pl ps (length results)) (placed_res : Placed slot resl res (length results)) (room : res + length results ≤ length values0)
    (cond_known : knows U cond ≡ true) (passes : GivesOn U results passed) (gives : GivesOn W tys ends)
    (more : (l : ℕ) (ty : IrType) → T l ≡ Some ty → U l ≡ Some ty) (late : (l : ℕ) (ty : IrType) → W l ≡ Some ty → (T l ≡ Some ty) ⊎ (ps ≤ slot l))
    (before_ok : (k : ℕ) (values : List Number) (inner : List Binding) (s : State) → length values ≡ length values0 → Agrees slot (with_types T (at + 1) tys) values inside inner
    → Matches slot U inside ps values (before values s) (testing (in_turn (record { at = at; res = resl; around = around; env = env }) k) inner s).end)
    (after_ok : (k : ℕ) (values : List Number) (inner : List Binding) (s : State) → length values ≡ length values0 → Agrees slot (with_types T pl results) values in_after inner
    → Matches slot W in_after res values (after values s) (running (in_turn (record { at = at; res = resl; around = around; env = env }) k) inner s).end) where
  abbrev place : Place
  place = record { at = at; res = resl; around = around; env = env }

  abbrev loop : Repeating
  loop = record { slot = slot; res = res; params = ps; cond = cond; passed = passed }

  abbrev round : Moving
  round values s = handed slot (pos + 1) ends (after values s)

  abbrev From : ℕ → Type 0
  From fuel = (k : ℕ) (values ns : List Number) (s : State) → Keeps pos values0 values → Stored values (pos + 1) ns → Fit tys ns
      → Matches slot (with_types T resl results) pos (res + length results) values0 (rounds fuel before round loop values s) (repeated fuel testing running place pl cond passed ends k ns s).end

  -- the condition is 0
  leaves_match : (k : ℕ) (values1 : List Number) (inner : List Binding) (s1 : State) → Keeps pos values0 values1 → Agrees slot U values1 ps inner
      → Matches slot (with_types T resl results) pos (res + length results) values0 (machine.Done (copied slot values1 res passed) s1) (runs.leaves place k (numbers_of inner passed) s1).end
  leaves_match k values1 inner s1 kp ag =
      let o = given_on slot U values1 ps res results passed inner passes (omega arith) ag in
      rw o.0 (bound slot T values0 values1 pos resl res results (numbers_of inner passed) env s1 a kp (omega arith) o.1 placed_res room)

  -- the after region is run, and the next iteration follows
  one_round : (fuel : ℕ) → From fuel → (k : ℕ) (values1 : List Number) (inner : List Binding) (s2 : State) → Keeps pos values0 values1 → Agrees slot U values1 ps inner
      → Matches slot (with_types T resl results) pos (res + length results) values0
      (move_then (round (copied slot values1 ps passed) s2) (rounds fuel before round loop))
      (runs.end_then (running (in_turn place k) (binds pl (numbers_of inner passed) inner) s2).end (λ last s3. (repeated fuel testing running place pl cond passed ends (k + 1) (numbers_of last ends) s3).end))
  one_round fuel ih k values1 inner s2 kp ag =
      let o = given_on slot U values1 ps ps results passed inner passes (omega arith) ag in
      let ns = numbers_of inner passed in
      let values2 = put values1 ps ns in
      let outside = agrees_outside slot T U values0 values1 pos ps env inner a ag more in
      let k2 : Keeps ps values1 values2 = put_keeps values1 ps ns in
      let begun = agrees_binds slot T values1 values2 pos pl ps results ns inner outside (keeps_less ps pos values1 values2 (omega arith) k2) (omega arith)
      (put_stored values1 ps ns (omega (arith, kp.size, fit_size results ns o.1))) o.1 placed_params in
      let kept2 : Keeps pos values0 values2 = keeps_both pos values0 values1 values2 kp (keeps_less ps pos values1 values2 (omega arith) k2) in
      rw o.0
      (handed_then slot W (with_types T resl results) in_after res pos (res + length results) (pos + 1) ends values2 values0 (after values2 s2) (running (in_turn place k) (binds pl ns inner) s2).end
      (rounds fuel before round loop) (λ last s3. (repeated fuel testing running place pl cond passed ends (k + 1) (numbers_of last ends) s3).end)
      (after_ok k values2 (binds pl ns inner) s2 kept2.size (rw (← after_is) begun))
      (λ after3 last s3 ka aw.
      let top = pos + 1 + length ends in
      let fit = uses_fit slot W after3 res last aw tys ends gives.many gives.in_scope gives.typed in
      let same = copied_put slot after3 (pos + 1) top last ends (omega arith)
      (reads_late slot T W values0 after3 pos (pos + 1) top res env last a aw
      (λ l ty e. elim (late l ty e) as (λ _. (T l ≡ Some ty) ⊎ (top ≤ slot l)) [ inl t ↦ inl t | inr t ↦ inr (omega (arith, t, gives.many)) ]) (omega arith) ends gives.in_scope) in
      let kept3 : Keeps pos values0 after3 = keeps_both pos values0 values2 after3 kept2 (keeps_less in_after pos values2 after3 (omega arith) ka) in
      rw same
      (ih (k + 1) (put after3 (pos + 1) (numbers_of last ends)) (numbers_of last ends) s3
      (keeps_both pos values0 after3 (put after3 (pos + 1) (numbers_of last ends)) kept3 (keeps_less (pos + 1) pos after3 (put after3 (pos + 1) (numbers_of last ends)) (omega arith) (put_keeps after3 (pos + 1) (numbers_of last ends))))
      (put_stored after3 (pos + 1) (numbers_of last ends) (omega (arith, kept3.size, fit_size tys (numbers_of last ends) fit))) fit)))

  none_left : (b : Bool) (k : ℕ) (values1 : List Number) (inner : List Binding) (s1 : State) → Keeps pos values0 values1 → Agrees slot U values1 ps inner
      → Matches slot (with_types T resl results) pos (res + length results) values0 (if b then machine.Done (copied slot values1 res passed) s1 else machine.halts runs.Cut s1)
      (if b then runs.leaves place k (numbers_of inner passed) s1 else runs.stops runs.Cut s1).end
  none_left true k values1 inner s1 kp ag = leaves_match k values1 inner s1 kp ag
  none_left false k values1 inner s1 kp ag = halted runs.Cut s1.trace

  some_left : (fuel : ℕ) → From fuel → (b : Bool) (k : ℕ) (values1 : List Number) (inner : List Binding) (s1 : State) → Keeps pos values0 values1 → Agrees slot U values1 ps inner
      → Matches slot (with_types T resl results) pos (res + length results) values0
      (if b then machine.Done (copied slot values1 res passed) s1 else spend s1 (λ s2. move_then (round (copied slot values1 ps passed) s2) (rounds fuel before round loop)))
      (if b then runs.leaves place k (numbers_of inner passed) s1
      else runs.tick s1 (λ s2. runs.run_then (runs.run_then (runs.defines pl (numbers_of inner passed) (in_turn place k) inner s2) (running (in_turn place k)))
      (λ last s3. repeated fuel testing running place pl cond passed ends (k + 1) (numbers_of last ends) s3))).end
  some_left fuel ih true k values1 inner s1 kp ag = leaves_match k values1 inner s1 kp ag
  some_left fuel ih false k values1 inner s1 kp ag =
      spend_matches slot (with_types T resl results) pos (res + length results) values0 s1 (λ s2. move_then (round (copied slot values1 ps passed) s2) (rounds fuel before round loop))
      (λ s2. runs.run_then (runs.run_then (runs.defines pl (numbers_of inner passed) (in_turn place k) inner s2) (running (in_turn place k)))
      (λ last s3. repeated fuel testing running place pl cond passed ends (k + 1) (numbers_of last ends) s3))
      (λ s2. one_round fuel ih k values1 inner s2 kp ag)

  -- the before region is run
  tested : (k : ℕ) (values ns : List Number) (s : State) (go : List Number → State → Move) (goes : List Binding → State → End) → Keeps pos values0 values → Stored values (pos + 1) ns → Fit tys ns
      → ((values1 : List Number) (inner : List Binding) (s1 : State) → (read slot values1 cond ≡ look inner cond.0) → Keeps pos values0 values1 → Agrees slot U values1 ps inner
      → Matches slot (with_types T resl results) pos (res + length results) values0 (go values1 s1) (goes inner s1))
      → Matches slot (with_types T resl results) pos (res + length results) values0 (move_then (before values s) go)
      (runs.end_then (testing (in_turn place k) (binds (at + 1) ns env) s).end goes)
  tested k values ns s go goes kp st f next =
      let begun = agrees_binds slot T values0 values pos (at + 1) (pos + 1) tys ns env a kp (omega arith) st f placed_args in
      then_matches slot U (with_types T resl results) inside ps pos (res + length results) values values0 (before values s) (testing (in_turn place k) (binds (at + 1) ns env) s).end go goes
      (before_ok k values (binds (at + 1) ns env) s kp.size (rw (← inside_is) begun))
      (λ values1 inner s1 k1 ag.
      next values1 inner s1 (sym (use_known slot U values1 ps inner ag cond cond_known).2.same)
      (keeps_both pos values0 values values1 kp (keeps_less inside pos values values1 (omega arith) k1)) ag)

  pub while_match : (fuel : ℕ) → From fuel
  while_match zero k values ns s kp st f =
      tested k values ns s _ _ kp st f (λ values1 inner s1 e k1 ag. rw e (none_left ((look inner cond.0).v == 0) k values1 inner s1 k1 ag))
  while_match (suc fuel) k values ns s kp st f =
      tested k values ns s _ _ kp st f (λ values1 inner s1 e k1 ag. rw e (some_left fuel (while_match fuel) ((look inner cond.0).v == 0) k values1 inner s1 k1 ag))
