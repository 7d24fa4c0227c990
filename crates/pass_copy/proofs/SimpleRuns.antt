-- The same simple operation on uses that stand for one another does the same in both runs.
use Rattle.std.proofs.Common.{◌≡◌, ℕ, suc, ◌+◌, ◌-◌, ◌≤◌, nat_lt, true, List, [], ◌∷◌, ◌++◌, length, drop, Option, None, Some, refl, ap, subst, arith, if◌then◌else◌}
use Rattle.std.proofs.lemmas.Bool.{eqb-true, ltb-false}
use Rattle.arith_word.specs.declared.label.Label.{Label}
use Rattle.mlir_ir.specs.declared.types.IrType.{IrType}
use Rattle.mlir_ir.specs.Operations.{SimpleOp, Bin, Cast, Cmp, Select}
use Rattle.mlir_ir.specs.Runs.{Number, Binding, State, Starved, End, Done, Stopped, numbers_of, binds, numbers_at, result_bits, computed}
use Rattle.mlir_ir.specs.Typed.{simple_counts}
use Rattle.pass_copy.proofs.RunEnds.{spent, recorded, ends_answers, ends_call, ends_gives, ends_simple}
use Rattle.pass_copy.proofs.Ahead.{Dir, Ahead, ahead_if, ahead_done, ahead_trapped, ahead_starved, ahead_both, left_le, grows_answered}
use Rattle.pass_copy.proofs.Bindings.{Scope, Below, All2, pairs, same_in, numbers_same, push_these}
use Rattle.pass_copy.proofs.AlikeOps.{Joined, AlikeSimple, both_const, both_bin, both_cast, both_cmp, both_select, both_call}

-- as many numbers as results

pub all_numbers : (results : List IrType) (replies : List ℕ) → length results ≤ length replies → length (numbers_at results replies) ≡ length results
all_numbers [] replies le = refl
all_numbers (ty ∷ results) [] le = absurd (omega arith)
all_numbers (ty ∷ results) (r ∷ replies) le = ap suc (all_numbers results replies (omega arith))

-- values are defined in both runs

pub sim_binds : (ctx : Scope) (d : Dir) (B B' c at at' n : ℕ) (vs : List Number) (env : List Binding) (s : State) (env' : List Binding) (s' : State)
    → length vs ≡ n → Below at at' ctx → Joined ctx d B B' c env s env' s' → Joined (pairs at at' n ctx) d B B' c (binds at vs env) s (binds at' vs env') s'
sim_binds ctx d B B' c at at' n vs env s env' s' e bl j = record { same = push_these ctx env env' at at' n vs e bl j.same; st = j.st }

sim_gives : (ctx : Scope) (d : Dir) (B B' c at at' : ℕ) (results : List IrType) (v : Option ℕ) (env : List Binding) (s : State) (env' : List Binding) (s' : State)
    → length results ≡ 1 → Below at at' ctx → Joined ctx d B B' c env s env' s'
    → Ahead d (Joined (pairs at at' (length results) ctx) d B B' c) (ends_gives at results env s v) (ends_gives at' results env' s' v)
sim_gives ctx d B B' c at at' results None env s env' s' e bl j = ahead_trapped d _ s.trace s'.trace j.st.trace
sim_gives ctx d B B' c at at' results (Some v) env s env' s' e bl j =
    ahead_done d (Joined (pairs at at' (length results) ctx) d B B' c) _ _ _ _
    (sim_binds ctx d B B' c at at' (length results) (numbers_at results (v ∷ [])) env s env' s' (all_numbers results (v ∷ []) (omega (arith, e))) bl j)

sim_answers : (ctx : Scope) (d : Dir) (B B' c at at' : ℕ) (results : List IrType) (env : List Binding) (s : State) (env' : List Binding) (s' : State)
    → Below at at' ctx → Joined ctx d B B' c env s env' s'
    → Ahead d (Joined (pairs at at' (length results) ctx) d B B' c) (ends_answers at results env s) (ends_answers at' results env' s')
sim_answers ctx d B B' c at at' results env s env' s' bl j =
    let R = Joined (pairs at at' (length results) ctx) d B B' c in
    let given : List ℕ → End = λ rs. Done (binds at' (numbers_at results rs) env') (record s' { replies = drop (length results) rs }) in
    subst (λ rs. Ahead d R (ends_answers at results env s) (if nat_lt (length rs) (length results) then Stopped Starved s'.trace else given rs)) j.st.replies
    (ahead_if d R (nat_lt (length s.replies) (length results))
    (Stopped Starved s.trace) (Done (binds at (numbers_at results s.replies) env) (record s { replies = drop (length results) s.replies }))
    (Stopped Starved s'.trace) (given s.replies)
    (λ t. ahead_starved d R s.trace s'.trace j.st.trace)
    (λ t. ahead_done d R _ _ _ _
    (sim_binds ctx d B B' c at at' (length results) (numbers_at results s.replies) env (record s { replies = drop (length results) s.replies }) env' (record s' { replies = drop (length results) s.replies })
    (all_numbers results s.replies (ltb-false (length s.replies) (length results) t)) bl
    (record { same = j.same; st = record { replies = refl; trace = j.st.trace; left = j.st.left; fits = j.st.fits; fits' = j.st.fits' } }))))

sim_call : (ctx : Scope) (d : Dir) (B B' c at at' func : ℕ) (passed passed' : List Label) (results : List IrType) (env : List Binding) (s : State) (env' : List Binding) (s' : State)
    → All2 ctx passed passed' → Below at at' ctx → Joined ctx d B B' c env s env' s'
    → Ahead d (Joined (pairs at at' (length results) ctx) d B B' c) (ends_call at func (numbers_of env passed) results env s) (ends_call at' func (numbers_of env' passed') results env' s')
sim_call ctx d B B' c at at' func passed passed' results env s env' s' a bl j =
    let R = Joined (pairs at at' (length results) ctx) d B B' c in
    let args = numbers_of env passed in
    rw (← numbers_same ctx env env' passed passed' j.same a)
    (ahead_both d R B B' c s s' (λ s1. ends_answers at results env (recorded func args s1)) (λ s1. ends_answers at' results env' (recorded func args s1)) j.st
    (λ ne ne' st1.
    let fits : s.budget - 1 ≤ B - 1 = st1.fits in
    let fits' : s'.budget - 1 ≤ B' - 1 = st1.fits' in
    sim_answers ctx d B B' c at at' results env (recorded func args (spent s)) env' (recorded func args (spent s')) bl
    (record {
      same = j.same;
      st = record {
        replies = st1.replies;
        trace = ap (λ t. t ++ record { callee = func; args = args } ∷ []) st1.trace;
        left = left_le d c (c + 31) (s.budget - 1) (s'.budget - 1) (omega arith) st1.left;
        fits = omega arith;
        fits' = omega arith;
      };
    }))
    (λ s1. grows_answered at func args results env s1) (λ s1. grows_answered at' func args results env' s1))

pub sim_simple : (ctx : Scope) (d : Dir) (B B' c at at' : ℕ) (results : List IrType) {does does' : SimpleOp} (env : List Binding) (s : State) (env' : List Binding) (s' : State)
    → AlikeSimple ctx does does' → simple_counts (length results) does ≡ true → Below at at' ctx → Joined ctx d B B' c env s env' s'
    → Ahead d (Joined (pairs at at' (length results) ctx) d B B' c) (ends_simple at results env s does) (ends_simple at' results env' s' does')
sim_simple ctx d B B' c at at' results env s env' s' (both_const {v}) n bl j =
    sim_gives ctx d B B' c at at' results (Some v) env s env' s' (eqb-true (length results) 1 n) bl j
sim_simple ctx d B B' c at at' results env s env' s' (both_bin {op} {flags} {flags'} {a} {a'} {b} {b'} ia ib) n bl j =
    rw (← same_in ctx env env' a.0 a'.0 j.same ia, ← same_in ctx env env' b.0 b'.0 j.same ib)
    (sim_gives ctx d B B' c at at' results (computed env (result_bits results) (Bin op flags a b)) env s env' s' (eqb-true (length results) 1 n) bl j)
sim_simple ctx d B B' c at at' results env s env' s' (both_cast {op} {flags} {flags'} {a} {a'} ia) n bl j =
    rw (← same_in ctx env env' a.0 a'.0 j.same ia)
    (sim_gives ctx d B B' c at at' results (computed env (result_bits results) (Cast op flags a)) env s env' s' (eqb-true (length results) 1 n) bl j)
sim_simple ctx d B B' c at at' results env s env' s' (both_cmp {pred} {a} {a'} {b} {b'} ia ib) n bl j =
    rw (← same_in ctx env env' a.0 a'.0 j.same ia, ← same_in ctx env env' b.0 b'.0 j.same ib)
    (sim_gives ctx d B B' c at at' results (computed env (result_bits results) (Cmp pred a b)) env s env' s' (eqb-true (length results) 1 n) bl j)
sim_simple ctx d B B' c at at' results env s env' s' (both_select {t} {t'} {a} {a'} {b} {b'} it ia ib) n bl j =
    rw (← same_in ctx env env' t.0 t'.0 j.same it, ← same_in ctx env env' a.0 a'.0 j.same ia, ← same_in ctx env env' b.0 b'.0 j.same ib)
    (sim_gives ctx d B B' c at at' results (computed env (result_bits results) (Select t a b)) env s env' s' (eqb-true (length results) 1 n) bl j)
sim_simple ctx d B B' c at at' results env s env' s' (both_call {func} {passed} {passed'} a) n bl j =
    sim_call ctx d B B' c at at' func passed passed' results env s env' s' a bl j
