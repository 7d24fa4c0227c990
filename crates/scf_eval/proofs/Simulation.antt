-- Well-typed operations give the machine and the run the same numbers.
use Rattle.std.proofs.Common.{◌≡◌, ℕ, ◌+◌, ◌==◌, ◌&&◌, ◌||◌, ◌<◌, ◌≤◌, ◌^◌, ◌%◌, ◌⊎◌, inl, inr, Bool, true, false, List, [], ◌∷◌, length, refl, sym, subst, arith, Some, if◌then◌else◌, nat_lt}
use Rattle.std.proofs.lemmas.Bool.{and_parts, ltb-true}
use Rattle.std.proofs.lemmas.List.{length-map}
use Rattle.std.proofs.Math.Nat.{mod-eq_of_lt}
use Rattle.std.specs.List.{list_all}
use Rattle.arith_word.specs.declared.label.Label.{Label}
use Rattle.mlir_ir.specs.declared.types.IrType.{IrType}
use Rattle.mlir_ir.specs.declared.types.Pack.{Pack}
use Rattle.mlir_ir.specs.Operations.{OpKind, Simple, If, For, While, OpList, nil, next, labels_of, inner_labels}
use Rattle.mlir_ir.specs.Rules.{arg_types, same_types, truth}
use Rattle.mlir_ir.specs.Runs as runs
use Rattle.mlir_ir.specs.Runs.{Number, number, Binding, State, End, look, numbers_of, binds, is_false, Iteration, in_turn}
use Rattle.mlir_ir.specs.Typed.{Types, with_types, types_after, knows, fits, all_fit, yields, passes, TypedOp, TypedEnd, TypedOps, TypedRegions}
use Rattle.scf_eval.specs.Machine as machine
use Rattle.scf_eval.specs.Machine.{Slots, Move, read, copied, number_at, handed, steps, step_kind}
use Rattle.scf_eval.proofs.Written.{put, kept, keeps_less, put_keeps, put_stored, copied_put}
use Rattle.scf_eval.proofs.Scopes.{Placed, placed_part, Fit, fit_size, Agrees, agrees_kept, known_before, known_after, known_late, known_late_after, eq_at, same_types_are, use_known, use_fits, uses_read, uses_fit}
use Rattle.scf_eval.proofs.Ends.{Matches, done, since, then_matches}
use Rattle.scf_eval.proofs.Simples.{simple_match}
use Rattle.scf_eval.proofs.Rounds.{GivesOn, handed_match, for_match}
use Rattle.scf_eval.proofs.WhileRounds.{while_match}

or_cases : (x y : Bool) → (x || y) ≡ true → (x ≡ true) ⊎ (y ≡ true)
or_cases true y e = inl refl
or_cases false y e = inr e

-- how many values a yield gives where it has to give some
pub yields_many : (results : List IrType) (ends : List Label) → yields results ends ≡ true → ((length results == 0) || nat_lt 0 (length ends)) ≡ true → length ends ≡ length results
yields_many results ends y c =
    elim (or_cases (length ends == 0) (length ends == length results) y) as (λ _. length ends ≡ length results) [
      | inl none ↦
          let zero_ends : length ends ≡ 0 = eq_at (length ends) 0 none in
          elim (or_cases (length results == 0) (nat_lt 0 (length ends)) c) as (λ _. length ends ≡ length results) [
            | inl e ↦ let zero_results : length results ≡ 0 = eq_at (length results) 0 e in omega arith
            | inr lt ↦ let some : 0 < length ends = ltb-true 0 (length ends) lt in absurd (omega arith)
          ]
      | inr same ↦ eq_at (length ends) (length results) same
    ]

placed_at : (slot : Slots) (at pos n d m at2 pos2 : ℕ) → d + m ≤ n → at2 ≡ at + d → pos2 ≡ pos + d → Placed slot at pos n → Placed slot at2 pos2 m
placed_at slot at pos n d m at2 pos2 le e f p = rw (e, f) (placed_part slot at pos n d m le p)

gives_end : (T : Types) (results : List IrType) (ends : List Label) → TypedEnd T results ends (yields results ends) → ((length results == 0) || nat_lt 0 (length ends)) ≡ true → GivesOn T results ends
gives_end T results ends e c = record { many = yields_many results ends e.counted c; in_scope = e.in_scope; typed = e.typed }

passes_end : (T : Types) (results : List IrType) (ends : List Label) → TypedEnd T results ends (passes results ends) → GivesOn T results ends
passes_end T results ends e = record { many = eq_at (length ends) (length results) e.counted; in_scope = e.in_scope; typed = e.typed }

both_counts : (x y z : Bool) → (x || (y && z)) ≡ true → ((x || y) ≡ true) × ((x || z) ≡ true)
both_counts true y z e = (refl, refl)
both_counts false y z e = and_parts y z e

pub if_counts : (results : List IrType) (firsts others : List Label) → ((length results == 0) || (nat_lt 0 (length firsts) && nat_lt 0 (length others))) ≡ true
    → (((length results == 0) || nat_lt 0 (length firsts)) ≡ true) × (((length results == 0) || nat_lt 0 (length others)) ≡ true)
if_counts results firsts others c = both_counts (length results == 0) (nat_lt 0 (length firsts)) (nat_lt 0 (length others)) c

-- one arm or the other
pick : (slot : Slots) (T : Types) (pos mid : ℕ) (values : List Number) (b : Bool) (m n : Move) (r q : runs.Segment) → Matches slot T pos mid values m r.end → Matches slot T pos mid values n q.end
    → Matches slot T pos mid values (if b then m else n) (if b then r else q).end
pick slot T pos mid values true m n r q x y = x
pick slot T pos mid values false m n r q x y = y

mutual
  pub ops_match : (ops : OpList) (slot : Slots) (T : Types) (fuel at pos : ℕ) (around : List Iteration) (values : List Number) (env : List Binding) (s : State) → TypedOps T at ops → Placed slot at pos (labels_of ops)
      → Agrees slot T values pos env → pos + labels_of ops ≤ length values
      → Matches slot (types_after T at ops) pos (pos + labels_of ops) values (steps slot ops fuel pos values s) (runs.run_ops ops fuel at around env s).end
  ops_match nil slot T fuel at pos around values env s typed placed a room = done values env s (kept pos values) (agrees_kept slot T values values pos (pos + 0) env (kept pos values) (omega arith) a)
  ops_match (next packs results kind rest) slot T fuel at pos around values env s typed placed a room =
      let n = inner_labels kind + length results in
      let U = with_types T (at + inner_labels kind) results in
      let goal : Matches slot (types_after T at (next packs results kind rest)) pos (pos + n + labels_of rest) values
      (steps slot (next packs results kind rest) fuel pos values s) (runs.run_ops (next packs results kind rest) fuel at around env s).end =
      then_matches slot U (types_after U (at + n) rest) pos (pos + n) pos (pos + n + labels_of rest) values values (step_kind slot kind results fuel pos values s) (runs.run_kind kind results fuel at around env s).end
      (steps slot rest fuel (pos + n)) (λ env s. (runs.run_ops rest fuel (at + n) around env s).end)
      (kind_match kind packs results slot T fuel at pos around values env s typed.0 typed.1 (λ d lt. placed d (omega (arith, lt))) a (omega (arith, room)))
      (λ after inner s2 k ag.
      since slot (types_after U (at + n) rest) pos (pos + n) (pos + n + labels_of rest) values after (steps slot rest fuel (pos + n) after s2) (runs.run_ops rest fuel (at + n) around inner s2).end k (omega arith)
      (ops_match rest slot U fuel (at + n) (pos + n) around after inner s2 typed.2 (placed_part slot at pos (n + labels_of rest) n (labels_of rest) (omega arith) placed) ag (omega (arith, room, k.size)))) in
      let end : pos + (n + labels_of rest) ≡ pos + n + labels_of rest = omega arith in
      rw end goal

  pub kind_match : (kind : OpKind) (packs : List Pack) (results : List IrType) (slot : Slots) (T : Types) (fuel at pos : ℕ) (around : List Iteration) (values : List Number) (env : List Binding) (s : State)
      → TypedOp T packs results kind → TypedRegions T at results kind → Placed slot at pos (inner_labels kind + length results) → Agrees slot T values pos env → pos + (inner_labels kind + length results) ≤ length values
      → Matches slot (with_types T (at + inner_labels kind) results) pos (pos + (inner_labels kind + length results)) values (step_kind slot kind results fuel pos values s) (runs.run_kind kind results fuel at around env s).end
  kind_match (Simple does) packs results slot T fuel at pos around values env s typed inside placed a room =
      let at0 : at + 0 ≡ at = omega arith in
      let end : pos + (0 + length results) ≡ pos + length results = omega arith in
      rw (at0, end) (simple_match slot T values pos env a at results around s does typed.in_scope typed.typed typed.counted (λ d lt. placed d (omega (arith, lt))) (omega (arith, room)))
  kind_match (If c first firsts has_else other others) packs results slot T fuel at pos around values env s typed inside placed a room =
      let l1 = labels_of first in
      let l2 = labels_of other in
      let n = l1 + l2 + length results in
      let counts = if_counts results firsts others typed.counted in
      let known : knows T c ≡ true = (and_parts (knows T c) true typed.in_scope).0 in
      let same : read slot values c ≡ look env c.0 = sym (use_known slot T values pos env a c known).2.same in
      let placed_res : Placed slot (at + l1 + l2) (pos + l1 + l2) (length results) = placed_at slot at pos n (l1 + l2) (length results) (at + l1 + l2) (pos + l1 + l2) (omega arith) (omega arith) (omega arith) placed in
      let rest : Matches slot (types_after T (at + l1) other) (pos + l1) (pos + l1 + l2) values (steps slot other fuel (pos + l1) values s) (runs.run_ops other fuel (at + l1) around env s).end =
      ops_match other slot T fuel (at + l1) (pos + l1) around values env s inside.2 (placed_at slot at pos n l1 l2 (at + l1) (pos + l1) (omega arith) refl refl placed)
      (agrees_kept slot T values values pos (pos + l1) env (kept pos values) (omega arith) a) (omega (arith, room)) in
      let front : Matches slot (types_after T at first) pos (pos + l1) values (steps slot first fuel pos values s) (runs.run_ops first fuel at around env s).end =
      ops_match first slot T fuel at pos around values env s inside.0 (placed_at slot at pos n 0 l1 at pos (omega arith) (omega arith) (omega arith) placed) a (omega (arith, room)) in
      let ra : at + (l1 + l2) ≡ at + l1 + l2 = omega arith in
      let rp : pos + (l1 + l2 + length results) ≡ pos + l1 + l2 + length results = omega arith in
      rw (ra, rp, same)
      (pick slot (with_types T (at + l1 + l2) results) pos (pos + l1 + l2 + length results) values ((look env c.0).v == 0) _ _ _ _
      (handed_match slot T (types_after T (at + l1) other) values pos (pos + l1) (pos + l1 + l2) (at + l1 + l2) (pos + l1 + l2) results others around env (steps slot other fuel (pos + l1) values s)
      (runs.run_ops other fuel (at + l1) around env s) a (omega arith) (omega arith) (omega arith) (gives_end (types_after T (at + l1) other) results others inside.3 counts.1) placed_res (omega (arith, room)) rest)
      (handed_match slot T (types_after T at first) values pos pos (pos + l1) (at + l1 + l2) (pos + l1 + l2) results firsts around env (steps slot first fuel pos values s)
      (runs.run_ops first fuel at around env s) a (omega arith) (omega arith) (omega arith) (gives_end (types_after T at first) results firsts inside.1 counts.0) placed_res (omega (arith, room)) front))
  kind_match (For lower upper step iv args inits body ends) packs results slot T fuel at pos around values env s typed inside placed a room =
      let tys = arg_types args in
      let na : length tys ≡ length args = length-map args (λ arg. arg.ty) in
      let in_body = pos + 2 + length args in
      let at_body = at + 2 + length args in
      let res = in_body + labels_of body in
      let resl = at_body + labels_of body in
      let n = 2 + length args + labels_of body + length results in
      let U = with_types (with_types T (at + 1) (iv.ty ∷ [])) (at + 2) tys in
      let W = types_after U at_body body in
      let t1 = and_parts (list_all (fits T iv.ty) (lower ∷ upper ∷ step ∷ []) && all_fit T tys inits) (same_types tys results) typed.typed in
      let t2 = and_parts (list_all (fits T iv.ty) (lower ∷ upper ∷ step ∷ [])) (all_fit T tys inits) t1.0 in
      let f1 = and_parts (fits T iv.ty lower) (fits T iv.ty upper && (fits T iv.ty step && true)) t2.0 in
      let f2 = and_parts (fits T iv.ty upper) (fits T iv.ty step && true) f1.1 in
      let f3 = and_parts (fits T iv.ty step) true f2.1 in
      let k1 = and_parts (knows T lower) (list_all (knows T) (upper ∷ step ∷ inits)) typed.in_scope in
      let k2 = and_parts (knows T upper) (list_all (knows T) (step ∷ inits)) k1.1 in
      let k3 = and_parts (knows T step) (list_all (knows T) inits) k2.1 in
      let c1 = and_parts ((length inits == length args) && (length args == length results)) ((length results == 0) || nat_lt 0 (length ends)) typed.counted in
      let c2 = and_parts (length inits == length args) (length args == length results) c1.0 in
      let ni : length inits ≡ length args = eq_at (length inits) (length args) c2.0 in
      let nr : length args ≡ length results = eq_at (length args) (length results) c2.1 in
      let same : tys ≡ results = same_types_are tys results (omega arith) t1.1 in
      let rl = use_fits slot T values pos env a lower iv.ty k1.0 f1.0 in
      let ru = use_fits slot T values pos env a upper iv.ty k2.0 f2.0 in
      let rs = use_fits slot T values pos env a step iv.ty k3.0 f3.0 in
      let el : read slot values lower ≡ look env lower.0 = sym rl.same in
      let eu : read slot values upper ≡ look env upper.0 = sym ru.same in
      let es : read slot values step ≡ look env step.0 = sym rs.same in
      let up : (look env upper.0).v % 2 ^ (look env lower.0).w ≡ (look env upper.0).v = mod-eq_of_lt (rw rl.is.wide ru.is.below) in
      let inits_are : copied slot values res inits ≡ put values res (numbers_of env inits) =
      copied_put slot values res (res + length inits) env inits (omega arith)
      (uses_read slot T values res env (agrees_kept slot T values values pos res env (kept pos values) (omega arith) a) (res + length inits) inits k3.1) in
      let fit : Fit tys (numbers_of env inits) = uses_fit slot T values pos env a tys inits (omega arith) k3.1 t2.1 in
      let looped : Matches slot (with_types T resl tys) pos (res + length tys) values
      (machine.turns fuel (λ inner s1. handed slot res ends (steps slot body fuel in_body inner s1)) (record { pos = pos; res = res; args = args; upper = (look env upper.0).v; step = (look env step.0).v })
      (look env lower.0) (put values res (numbers_of env inits)) s)
      (runs.counted fuel (runs.run_ops body fuel at_body) (record { at = at; res = resl; around = around; env = env }) ends (look env upper.0) (look env step.0) (look env lower.0) 0 (numbers_of env inits) s).end =
      for_match slot T W values pos at in_body resl res args iv.ty tys ends around env (steps slot body fuel in_body) (runs.run_ops body fuel at_body) (look env upper.0) (look env step.0) a (omega arith) (omega arith) (omega arith)
      (placed_at slot at pos n 1 1 (at + 1) (pos + 1) (omega arith) refl refl placed)
      (placed_at slot at pos n 2 (length tys) (at + 2) (pos + 2) (omega arith) refl refl placed)
      (placed_at slot at pos n (2 + length args + labels_of body) (length tys) resl res (omega arith) (omega arith) (omega arith) placed)
      (omega (arith, room)) (subst (λ (x : List IrType). GivesOn W x ends) (sym same) (gives_end W results ends inside.1 c1.1))
      (λ k vals inner s1 size ag. ops_match body slot U fuel at_body in_body (in_turn (record { at = at; res = resl; around = around; env = env }) k) vals inner s1 inside.0
      (placed_at slot at pos n (2 + length args) (labels_of body) at_body in_body (omega arith) (omega arith) (omega arith) placed) ag (omega (arith, room, size)))
      fuel 0 (put values res (numbers_of env inits)) (numbers_of env inits) (look env lower.0) s
      (keeps_less res pos values (put values res (numbers_of env inits)) (omega arith) (put_keeps values res (numbers_of env inits)))
      (put_stored values res (numbers_of env inits) (omega (arith, room, fit_size tys (numbers_of env inits) fit))) fit rl.is in
      let ra : at + (2 + length args + labels_of body) ≡ resl = omega arith in
      let rp : pos + (2 + length args + labels_of body + length results) ≡ res + length results = omega arith in
      rw (ra, rp, el, eu, es, up, inits_are) (subst (λ (x : List IrType). Matches slot (with_types T resl x) pos (res + length x) values
      (machine.turns fuel (λ inner s1. handed slot res ends (steps slot body fuel in_body inner s1)) (record { pos = pos; res = res; args = args; upper = (look env upper.0).v; step = (look env step.0).v })
      (look env lower.0) (put values res (numbers_of env inits)) s)
      (runs.counted fuel (runs.run_ops body fuel at_body) (record { at = at; res = resl; around = around; env = env }) ends (look env upper.0) (look env step.0) (look env lower.0) 0 (numbers_of env inits) s).end) same looped)
  kind_match (While args inits before passed cond after_args after ends) packs results slot T fuel at pos around values env s typed inside placed a room =
      let tys = arg_types args in
      let tr = arg_types after_args in
      let na : length tys ≡ length args = length-map args (λ arg. arg.ty) in
      let nb : length tr ≡ length after_args = length-map after_args (λ arg. arg.ty) in
      let in_before = pos + 1 + length args in
      let at_before = at + 1 + length args in
      let ps = in_before + labels_of before in
      let pl = at_before + labels_of before in
      let in_after = ps + length after_args in
      let at_after = pl + length after_args in
      let res = in_after + labels_of after in
      let resl = at_after + labels_of after in
      let n = 1 + length args + labels_of before + length after_args + labels_of after + length results in
      let U = with_types T (at + 1) tys in
      let U1 = types_after U at_before before in
      let V = with_types T pl tr in
      let W = types_after V at_after after in
      let c1 = and_parts (length inits == length args) (length after_args == length results) typed.counted in
      let ni : length inits ≡ length args = eq_at (length inits) (length args) c1.0 in
      let nr : length after_args ≡ length results = eq_at (length after_args) (length results) c1.1 in
      let same : tr ≡ results = same_types_are tr results (omega arith) inside.2 in
      let end = inside.1 in
      let e1 = and_parts (knows U1 cond) (list_all (knows U1) passed) end.in_scope in
      let e2 = and_parts (fits U1 truth cond) (all_fit U1 results passed) end.typed in
      let given : GivesOn U1 results passed = record { many = eq_at (length passed) (length results) end.counted; in_scope = e1.1; typed = e2.1 } in
      let inits_are : copied slot values (pos + 1) inits ≡ put values (pos + 1) (numbers_of env inits) =
      copied_put slot values (pos + 1) (pos + 1 + length inits) env inits (omega arith)
      (uses_read slot T values (pos + 1) env (agrees_kept slot T values values pos (pos + 1) env (kept pos values) (omega arith) a) (pos + 1 + length inits) inits typed.in_scope) in
      let fit : Fit tys (numbers_of env inits) = uses_fit slot T values pos env a tys inits (omega arith) typed.in_scope typed.typed in
      let placed_params : Placed slot pl ps (length tr) = placed_at slot at pos n (1 + length args + labels_of before) (length tr) pl ps (omega arith) (omega arith) (omega arith) placed in
      let placed_after : Placed slot at_after in_after (labels_of after) =
      placed_at slot at pos n (1 + length args + labels_of before + length after_args) (labels_of after) at_after in_after (omega arith) (omega arith) (omega arith) placed in
      let looped : Matches slot (with_types T resl tr) pos (res + length tr) values
      (machine.rounds fuel (steps slot before fuel in_before) (λ inner s1. handed slot (pos + 1) ends (steps slot after fuel in_after inner s1))
      (record { slot = slot; res = res; params = ps; cond = cond; passed = passed }) (put values (pos + 1) (numbers_of env inits)) s)
      (runs.repeated fuel (runs.run_ops before fuel at_before) (runs.run_ops after fuel at_after) (record { at = at; res = resl; around = around; env = env }) pl cond passed ends 0 (numbers_of env inits) s).end =
      while_match slot T U1 W values pos at in_before ps in_after pl resl res tys tr cond passed ends around env (steps slot before fuel in_before) (steps slot after fuel in_after)
      (runs.run_ops before fuel at_before) (runs.run_ops after fuel at_after) a (omega arith) (omega arith) (omega arith) (omega arith)
      (placed_at slot at pos n 1 (length tys) (at + 1) (pos + 1) (omega arith) refl refl placed)
      placed_params
      (placed_at slot at pos n (1 + length args + labels_of before + length after_args + labels_of after) (length tr) resl res (omega arith) (omega arith) (omega arith) placed)
      (omega (arith, room)) e1.0 (subst (λ (x : List IrType). GivesOn U1 x passed) (sym same) given) (passes_end W tys ends inside.4)
      (λ l ty e. known_after U at_before before l ty (known_before T (at + 1) tys l ty e))
      (λ l ty e. elim (known_late_after slot V at_after in_after after l ty placed_after e) as (λ _. (T l ≡ Some ty) ⊎ (ps ≤ slot l)) [
        | inl k ↦ known_late slot T pl ps tr l ty placed_params k
        | inr k ↦ inr (omega arith)
      ])
      (λ k vals inner s1 size ag. ops_match before slot U fuel at_before in_before (in_turn (record { at = at; res = resl; around = around; env = env }) k) vals inner s1 inside.0
      (placed_at slot at pos n (1 + length args) (labels_of before) at_before in_before (omega arith) (omega arith) (omega arith) placed) ag (omega (arith, room, size)))
      (λ k vals inner s1 size ag. ops_match after slot V fuel at_after in_after (in_turn (record { at = at; res = resl; around = around; env = env }) k) vals inner s1 inside.3 placed_after ag (omega (arith, room, size)))
      fuel 0 (put values (pos + 1) (numbers_of env inits)) (numbers_of env inits) s
      (keeps_less (pos + 1) pos values (put values (pos + 1) (numbers_of env inits)) (omega arith) (put_keeps values (pos + 1) (numbers_of env inits)))
      (put_stored values (pos + 1) (numbers_of env inits) (omega (arith, room, fit_size tys (numbers_of env inits) fit))) fit in
      let ra : at + (1 + length args + labels_of before + length after_args + labels_of after) ≡ resl = omega arith in
      let rp : pos + (1 + length args + labels_of before + length after_args + labels_of after + length results) ≡ res + length results = omega arith in
      rw (ra, rp, inits_are) (subst (λ (x : List IrType). Matches slot (with_types T resl x) pos (res + length x) values
      (machine.rounds fuel (steps slot before fuel in_before) (λ inner s1. handed slot (pos + 1) ends (steps slot after fuel in_after inner s1))
      (record { slot = slot; res = res; params = ps; cond = cond; passed = passed }) (put values (pos + 1) (numbers_of env inits)) s)
      (runs.repeated fuel (runs.run_ops before fuel at_before) (runs.run_ops after fuel at_after) (record { at = at; res = resl; around = around; env = env }) pl cond passed ends 0 (numbers_of env inits) s).end) same looped)
