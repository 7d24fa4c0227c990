-- Operations without regions are sound.
use Rattle.std.proofs.Common.{◌≡◌, ℕ, ◌+◌, ◌*◌, ◌%◌, ◌^◌, ◌≤◌, ◌==◌, inl, inr, List, [], ◌∷◌, ◌++◌, length, drop, refl, ap, ◌∙◌, sym, subst, arith, Bool, true, false, Option, Some, None, if◌then◌else◌}
use Rattle.std.proofs.Math.Nat.{mod-lt, mod-eq_of_lt}
use Rattle.std.proofs.lemmas.Bool.{cases_lt, le-ltb, lt-ltb}
use Rattle.std.proofs.lemmas.Nat.{pow_pos}
use Rattle.arith_word.proofs.Newton.{one-lt-pow}
use Rattle.arith_word.specs.Operation.{value_of, cast_of, holds}
use Rattle.arith_word.specs.declared.label.Label.{Label}
use Rattle.arith_word.specs.declared.op.BinOp.{BinOp}
use Rattle.arith_word.specs.declared.op.CastOp.{CastOp}
use Rattle.arith_word.specs.declared.op.Pred.{Pred}
use Rattle.mlir_ir.specs.Operations.{SimpleOp, Const, Bin, Cast, Cmp, Select, Call, Simple}
use Rattle.mlir_ir.specs.Rules.{truth}
use Rattle.mlir_ir.specs.Runs.{Number, number, Binding, Iteration, State, Starved, Trapped, look, numbers_of, defines, numbers_at, answers, gives, run_simple}
use Rattle.mlir_ir.specs.Typed.{Types, with_types, TypedOp}
use Rattle.mlir_ir.specs.Words.{bits_of}
use Rattle.mlir_ir.specs.declared.types.Flags.{Flags}
use Rattle.mlir_ir.specs.declared.types.IrType.{IrType}
use Rattle.mlir_ir.specs.declared.types.Pack.{Pack}
use Rattle.scev_tree.specs.Value.{value}
use Rattle.fresh_scev.specs.Each.{Each}
use Rattle.fresh_scev.specs.Expressions.{symbol, counter}
use Rattle.fresh_scev.specs.Facts.{Facts, Comparison, Role, untested, tested, AreOwn, AreRuled}
use Rattle.fresh_scev.specs.Rules.{have_width, IsBin, IsComparison, IsSelected}
use Rattle.fresh_scev.proofs.Before.{under_later}
use Rattle.scev_soundness.specs.Agreement.{IsTestOf, Agrees, IsDefined, Keeps, After, IsSound, AreReady}
use Rattle.scev_soundness.specs.Holding.{HasValue, point}
use Rattle.scev_soundness.specs.Numbering.{IsNumbered}
use Rattle.scev_soundness.proofs.Points.{bind, look_here, keeps_push, at_symbol}
use Rattle.scev_soundness.proofs.Ready.{own_ready}
use Rattle.scev_soundness.proofs.Scopes.{agrees_later, value_stays, agrees_push, binds_keep, binds_ready}
use Rattle.scev_soundness.proofs.Segments.{sound_stop, sound_tick}
use Rattle.scev_soundness.proofs.SimpleRules.{number_numbered, fitting_numbered, bin_numbered, cast_numbered, compared_numbered, selected_numbered}
use Rattle.scev_soundness.proofs.TypedUses.{bin_typed, cast_typed, cmp_typed, select_typed, one_type}

-- a value in scope is an operand of any operation behind it
pub operand_numbered : (T : Types) (F : Facts) (conditions : List Label) (at : ℕ) (env later : List Binding)
    (around : List Iteration) (label : ℕ) → Agrees T F conditions at env around
    → Keeps env later at → at ≤ label → (l : ℕ) (u : IrType) → T l ≡ Some u
    → IsNumbered (point later around) (bits_of u) label (F.expr l) (look env l).v
operand_numbered T F conditions at env later around label ag k le l u e =
    let b = ag.below l u e in
    let g = ag.good l u e in
    let h = value_stays env later around around l (bits_of u) (F.expr l) (look env l) g (λ z lt. k z (omega arith))
    (λ z lt. refl) (ag.number l u e) in
    let room : 2 * (l + 1) ≤ 2 * (label + 1) = omega arith in
    record {
      good = record {
        width = g.width;
        canon = g.canon;
        under = under_later (F.expr l).p (counter (l + 1)) (counter (label + 1)) g.under room;
        within = g.within;
      };
      number = h.number ∙ ap (λ w. value (point later around) (F.expr l).p % 2 ^ w) g.width;
    }

pub width_in : (T : Types) (F : Facts) (conditions : List Label) (at : ℕ) (env : List Binding)
    (around : List Iteration) → Agrees T F conditions at env around
    → (l : ℕ) (u : IrType) → T l ≡ Some u → (look env l).w ≡ bits_of u
width_in T F conditions at env around ag l u e = (ag.number l u e).width ∙ (ag.good l u e).width

-- a role that isn't that of a comparison's result
pub never_tested : (r : Role) (c : Comparison) → r ≡ untested → r ≡ tested c → ⊥
never_tested r c e t = subst Is (sym e ∙ t) tt
  where
    Is : Role → Type 0
    Is (tested c) = ⊥
    Is _ = Unit {0}

tested_same : (c d : Comparison) → tested c ≡ tested d → c ≡ d
tested_same c d e = cc

-- ---- one result

module _ (T : Types) (F : Facts) (conditions : List Label) (at : ℕ) (env : List Binding) (around : List Iteration)
    (s : State) (ag : Agrees T F conditions at env around) (ty : IrType) (wide : 1 ≤ bits_of ty) where
  abbrev Behind : List Binding → Type 0
  Behind later = After (with_types T at (ty ∷ [])) F conditions at (at + length (ty ∷ [])) env later around

  -- the values in scope once the result is the number v
  abbrev now : ℕ → List Binding
  now v = bind at (number (bits_of ty) v) ∷ env

  abbrev spot : ℕ → ℕ → ℕ
  spot v = point (now v) around

  keeps_now : (v : ℕ) → Keeps env (now v) at
  keeps_now v = keeps_push env at (number (bits_of ty) v) at (omega arith)

  spot_here : (v : ℕ) → spot v (symbol at) ≡ v % 2 ^ bits_of ty
  spot_here v = at_symbol (now v) around at ∙ ap (λ (n : Number). n.v) (look_here at (number (bits_of ty) v) env)

  given_sound : (v : ℕ) → IsNumbered (spot v) (bits_of ty) at (F.expr at) (v % 2 ^ bits_of ty)
      → ((c : Comparison) → F.role at ≡ tested c → IsTestOf T (now v) at c)
      → IsSound F (defines at (numbers_at (ty ∷ []) (v ∷ [])) around env s) (λ later. Behind later)
  given_sound v h tests =
      let w = bits_of ty in
      let g = h.good in
      let n : HasValue (now v) around (F.expr at) (number w v) =
      record {
        width = sym g.width;
        number = h.number
            ∙ ap (λ m. value (spot v) (F.expr at).p % 2 ^ m) (sym g.width);
      } in
      let d : IsDefined T F at ty (number w v) (now v) around =
      record { wide = wide; good = g; number = n; tests = tests } in
      let U = with_types T at (ty ∷ []) in
      record {
        holds = (n, tt);
        ends = record {
          agrees = agrees_later U F conditions (at + 1) (at + length (ty ∷ [])) (now v) around (omega arith)
              (agrees_push T F conditions at env around at ty (number w v) ag (omega arith) d);
          keeps = keeps_now v;
        };
      }

  gives_sound : (o : Option ℕ) → ((v : ℕ) → o ≡ Some v
      → IsNumbered (spot v) (bits_of ty) at (F.expr at) (v % 2 ^ bits_of ty)) → F.role at ≡ untested
      → IsSound F (gives at (ty ∷ []) around env s o) (λ later. Behind later)
  gives_sound None f plain = sound_stop F Trapped s (λ later. Behind later)
  gives_sound (Some v) f plain = given_sound v (f v refl) (λ c t. absurd (never_tested (F.role at) c plain t))

  use_at : (v : ℕ) (l : ℕ) (u : IrType) → T l ≡ Some u → IsNumbered (spot v) (bits_of u) at (F.expr l) (look env l).v
  use_at v l u e = operand_numbered T F conditions at env (now v) around at ag (keeps_now v) (omega arith) l u e

  const_sound : (c : ℕ) → AreRuled F at (ty ∷ []) (Const c)
      → IsSound F (run_simple at (ty ∷ []) around env s (Const c)) (λ later. Behind later)
  const_sound c r = given_sound c (number_numbered (spot c) (bits_of ty) at wide (F.expr at) c r.0)
      (λ k t. absurd (never_tested (F.role at) k r.1 t))

  bin_sound : (op : BinOp) (flags : Flags) (a b : Label) → T a.0 ≡ Some ty → T b.0 ≡ Some ty
      → AreRuled F at (ty ∷ []) (Bin op flags a b)
      → IsSound F (run_simple at (ty ∷ []) around env s (Bin op flags a b)) (λ later. Behind later)
  bin_sound op flags a b ea eb r =
      let w = bits_of ty in
      let ka = F.expr a.0 in
      let kb = F.expr b.0 in
      gives_sound (value_of op w (look env a.0).v (look env b.0).v) (λ v e.
      fitting_numbered (spot v) w at wide (have_width w ka kb) (F.expr at) (IsBin op w at ka kb (F.expr at)) v
      (λ h. bin_numbered (spot v) w at wide ka kb (F.expr at) (look env a.0).v (look env b.0).v v
      (use_at v a.0 ty ea) (use_at v b.0 ty eb) (spot_here v) op e h)
      (spot_here v) r.0) r.1

  cast_sound : (op : CastOp) (flags : Flags) (a : Label) (u : IrType) → T a.0 ≡ Some u
      → AreRuled F at (ty ∷ []) (Cast op flags a)
      → IsSound F (run_simple at (ty ∷ []) around env s (Cast op flags a)) (λ later. Behind later)
  cast_sound op flags a u ea r =
      let w = bits_of ty in
      let x = (look env a.0).v in
      let wa : (look env a.0).w ≡ bits_of u = width_in T F conditions at env around ag a.0 u ea in
      subst (λ n. IsSound F (gives at (ty ∷ []) around env s (Some (cast_of op n x w))) (λ later. Behind later))
      (sym wa)
      (let v = cast_of op (bits_of u) x w in
      given_sound v (cast_numbered (spot v) w at (bits_of u) wide op (F.expr a.0) (F.expr at) x (use_at v a.0 u ea)
      (spot_here v) r.0)
      (λ k t. absurd (never_tested (F.role at) k r.1 t)))

  cmp_sound : (pred : Pred) (a b : Label) (u : IrType) → T a.0 ≡ Some u → T b.0 ≡ Some u
      → AreRuled F at (ty ∷ []) (Cmp pred a b)
      → IsSound F (run_simple at (ty ∷ []) around env s (Cmp pred a b)) (λ later. Behind later)
  cmp_sound pred a b u ea eb r =
      let w = bits_of ty in
      let n = bits_of u in
      let x = (look env a.0).v in
      let y = (look env b.0).v in
      let ka = F.expr a.0 in
      let kb = F.expr b.0 in
      let wa : (look env a.0).w ≡ n = width_in T F conditions at env around ag a.0 u ea in
      subst (λ m. IsSound F (gives at (ty ∷ []) around env s (Some (if holds pred m x y then 1 else 0)))
      (λ later. Behind later)) (sym wa)
      (let v = if holds pred n x y then 1 else 0 in
      given_sound v (fitting_numbered (spot v) w at wide (have_width ka.w ka kb) (F.expr at)
      (IsComparison pred w at ka kb (F.expr at)) v
      (λ h. compared_numbered (spot v) w at n wide pred ka kb (F.expr at) x y (use_at v a.0 u ea) (use_at v b.0 u eb)
      (spot_here v) h)
      (spot_here v) r.0)
      (λ c t. subst (λ c. IsTestOf T (now v) at c)
      (tested_same (record { pred = pred; left = a.0; right = b.0 }) c (sym r.1 ∙ t))
      (is_test (holds pred n x y) refl)))
    where
      bit : (t : Bool) (w : ℕ) → 1 ≤ w → (if t then 1 else 0) % 2 ^ w ≡ (if t then 1 else 0)
      bit true w le = mod-eq_of_lt (one-lt-pow w le)
      bit false w le = mod-eq_of_lt (pow_pos w)

      is_test : (t : Bool) → holds pred (bits_of u) (look env a.0).v (look env b.0).v ≡ t
          → IsTestOf T (now (if holds pred (bits_of u) (look env a.0).v (look env b.0).v then 1 else 0)) at
          (record { pred = pred; left = a.0; right = b.0 })
      is_test t q =
          let v = if holds pred (bits_of u) (look env a.0).v (look env b.0).v then 1 else 0 in
          let la = ag.below a.0 u ea in
          let lb = ag.below b.0 u eb in
          let here : (look (now v) at).v ≡ v = ap (λ (n : Number). n.v) (look_here at (number (bits_of ty) v) env)
          ∙ bit (holds pred (bits_of u) (look env a.0).v (look env b.0).v) (bits_of ty) wide in
          record {
            ty = u;
            left = ea;
            right = eb;
            left_below = la;
            right_below = lb;
            result = rw (keeps_now v a.0 la, keeps_now v b.0 lb) here;
          }

  select_sound : (c a b : Label) → T c.0 ≡ Some truth → T a.0 ≡ Some ty → T b.0 ≡ Some ty
      → AreRuled F at (ty ∷ []) (Select c a b)
      → IsSound F (run_simple at (ty ∷ []) around env s (Select c a b)) (λ later. Behind later)
  select_sound c a b ec ea eb r =
      let w = bits_of ty in
      let ka = F.expr a.0 in
      let kb = F.expr b.0 in
      let x = (look env a.0).v in
      let y = (look env b.0).v in
      let z = (look env c.0).v in
      let v = if z == 0 then y else x in
      given_sound v (fitting_numbered (spot v) w at wide (have_width w ka kb) (F.expr at)
      (IsSelected w at (F.expr c.0) ka kb (F.expr at)) v
      (λ h. selected_numbered (spot v) w at (bits_of truth) wide (F.expr c.0) ka kb (F.expr at) z x y
      (use_at v c.0 truth ec) (use_at v a.0 ty ea) (use_at v b.0 ty eb) (spot_here v) h)
      (spot_here v) r.0)
      (λ k t. absurd (never_tested (F.role at) k r.1 t))

-- ---- values that are their own symbols

-- numbers for values that are their own symbols
pub numbers_ready : (F : Facts) (at : ℕ) (env : List Binding) (around : List Iteration) (label : ℕ)
    (tys : List IrType) (vs : List ℕ) → length tys ≤ length vs
    → Each (λ l ty. 1 ≤ bits_of ty) label tys → AreOwn F label tys
    → AreReady F at env around label tys (numbers_at tys vs)
numbers_ready F at env around label [] vs le wide own_all = tt
numbers_ready F at env around label (ty ∷ tys) [] le wide own_all = absurd (omega (arith, le))
numbers_ready F at env around label (ty ∷ tys) (v ∷ vs) le wide own_all = (
  own_ready F at env around label ty (number (bits_of ty) v) wide.0 own_all.0.0 own_all.0.1 refl
      (mod-lt v (pow_pos (bits_of ty))),
  numbers_ready F at env around (label + 1) tys vs (omega (arith, le)) wide.1 own_all.1,
)

-- values are defined that are ready
pub defines_sound : (T : Types) (F : Facts) (conditions : List Label) (at res : ℕ) (env : List Binding)
    (around : List Iteration) (s : State) (tys : List IrType) (ns : List Number)
    → Agrees T F conditions at env around → at ≤ res → AreReady F at env around res tys ns
    → IsSound F (defines res ns around env s)
    (λ later. After (with_types T res tys) F conditions at (res + length tys) env later around)
defines_sound T F conditions at res env around s tys ns ag le ready =
    let q = binds_ready T F conditions at env around tys ns res env le (λ y lt. refl) ready
    (agrees_later T F conditions at res env around le ag) in
    record { holds = q.0; ends = record { agrees = q.1; keeps = λ y lt. binds_keep ns res env y (omega arith) } }

-- ---- calls

called_own : (F : Facts) (label func : ℕ) (passed : List Label) (tys : List IrType)
    → AreRuled F label tys (Call func passed) → AreOwn F label tys
called_own F label func passed [] h = tt
called_own F label func passed (ty ∷ tys) h = ((h.0, h.1), called_own F (label + 1) func passed tys h.2)

call_sound : (T : Types) (F : Facts) (conditions : List Label) (at func : ℕ) (passed : List Label)
    (results : List IrType) (env : List Binding) (around : List Iteration) (s : State)
    → Each (λ l ty. 1 ≤ bits_of ty) at results → AreRuled F at results (Call func passed)
    → Agrees T F conditions at env around
    → IsSound F (run_simple at results around env s (Call func passed))
    (λ later. After (with_types T at results) F conditions at (at + length results) env later around)
call_sound T F conditions at func passed results env around s wide ruled ag =
    sound_tick F s (λ s1. answers at results around env
    (record s1 { trace = s1.trace ++ record { callee = func; args = numbers_of env passed } ∷ [] })) Post
    (λ s1. answered (record s1 { trace = s1.trace ++ record { callee = func; args = numbers_of env passed } ∷ [] }))
  where
    Post : List Binding → Type 0
    Post later = After (with_types T at results) F conditions at (at + length results) env later around

    answered : (s2 : State) → IsSound F (answers at results around env s2) Post
    answered s2 = elim (cases_lt (length s2.replies) (length results)) [
      | inl lt ↦ rw (lt-ltb (length s2.replies) (length results) lt) (sound_stop F Starved s2 Post)
      | inr ge ↦ rw (le-ltb (length s2.replies) (length results) ge)
          (defines_sound T F conditions at at env around
          (record s2 { replies = drop (length results) s2.replies }) results (numbers_at results s2.replies) ag
          (omega arith)
          (numbers_ready F at env around at results s2.replies ge wide (called_own F at func passed results ruled)))
    ]

-- ---- operations without regions

lifted : (does : SimpleOp) (T : Types) (F : Facts) (conditions : List Label) (at : ℕ) (packs : List Pack)
    (results : List IrType) (env : List Binding) (around : List Iteration) (s : State)
    → (length results == 1) ≡ true → TypedOp T packs results (Simple does) → Each (λ l ty. 1 ≤ bits_of ty) at results
    → AreRuled F at results does
    → ((ty : IrType) → TypedOp T packs (ty ∷ []) (Simple does) → 1 ≤ bits_of ty → AreRuled F at (ty ∷ []) does
    → IsSound F (run_simple at (ty ∷ []) around env s does)
    (λ later. After (with_types T at (ty ∷ [])) F conditions at (at + length (ty ∷ [])) env later around))
    → IsSound F (run_simple at results around env s does)
    (λ later. After (with_types T at results) F conditions at (at + length results) env later around)
lifted does T F conditions at packs results env around s one t wide ruled k =
    let r = one_type results one in
    subst (λ rs. TypedOp T packs rs (Simple does) → Each (λ l ty. 1 ≤ bits_of ty) at rs → AreRuled F at rs does
    → IsSound F (run_simple at rs around env s does)
    (λ later. After (with_types T at rs) F conditions at (at + length rs) env later around)) (sym r.1)
    (λ t w h. k r.0 t w.0 h) t wide ruled

pub simple_sound : (does : SimpleOp) (T : Types) (F : Facts) (conditions : List Label) (at : ℕ) (packs : List Pack)
    (results : List IrType) (env : List Binding) (around : List Iteration) (s : State)
    → TypedOp T packs results (Simple does) → Each (λ l ty. 1 ≤ bits_of ty) at results → AreRuled F at results does
    → Agrees T F conditions at env around
    → IsSound F (run_simple at results around env s does)
    (λ later. After (with_types T at results) F conditions at (at + length results) env later around)
simple_sound (Const v) T F conditions at packs results env around s t wide ruled ag =
    lifted (Const v) T F conditions at packs results env around s t.counted t wide ruled
    (λ ty t w r. const_sound T F conditions at env around s ag ty w v r)
simple_sound (Bin op flags a b) T F conditions at packs results env around s t wide ruled ag =
    lifted (Bin op flags a b) T F conditions at packs results env around s t.counted t wide ruled
    (λ ty t w r. (let e = bin_typed T packs ty op flags a b t in
    bin_sound T F conditions at env around s ag ty w op flags a b e.0 e.1 r))
simple_sound (Cast op flags a) T F conditions at packs results env around s t wide ruled ag =
    lifted (Cast op flags a) T F conditions at packs results env around s t.counted t wide ruled
    (λ ty t w r. (let e = cast_typed T packs (ty ∷ []) op flags a t in
    cast_sound T F conditions at env around s ag ty w op flags a e.0 e.1 r))
simple_sound (Cmp pred a b) T F conditions at packs results env around s t wide ruled ag =
    lifted (Cmp pred a b) T F conditions at packs results env around s t.counted t wide ruled
    (λ ty t w r. (let e = cmp_typed T packs ty pred a b t in
    cmp_sound T F conditions at env around s ag ty w pred a b e.0 e.1 e.2 r))
simple_sound (Select c a b) T F conditions at packs results env around s t wide ruled ag =
    lifted (Select c a b) T F conditions at packs results env around s t.counted t wide ruled
    (λ ty t w r. (let e = select_typed T packs ty c a b t in
    select_sound T F conditions at env around s ag ty w c a b e.0 e.1 e.2 r))
simple_sound (Call func passed) T F conditions at packs results env around s t wide ruled ag =
    call_sound T F conditions at func passed results env around s wide ruled ag
