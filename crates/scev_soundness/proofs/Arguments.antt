-- The arguments of a loop at its iterations: what a round makes of them holds at the first iteration, and from one to
-- the next.
use Rattle.std.proofs.Common.{◌≡◌, ℕ, ◌+◌, ◌*◌, ◌%◌, ◌^◌, ◌<◌, ◌≤◌, ◌==◌, ◌||◌, nat_lt, inl, inr, true, List, [], ◌∷◌, length, refl, ap, ◌∙◌, sym, subst, arith, Option, Some, None}
use Rattle.std.specs.List.{list_all}
use Rattle.std.specs.Option.{is_some, option_map_or}
use Rattle.std.proofs.Math.Nat.{mod-lt, add-mod, mod-add-mod}
use Rattle.std.proofs.lemmas.Bool.{and_parts, eq-eqb}
use Rattle.std.proofs.lemmas.Nat.{pow_pos, mul-mod_first}
use Rattle.arith_word.proofs.Newton.{one-lt-pow}
use Rattle.arith_word.specs.declared.label.Label.{Label}
use Rattle.scev_tree.specs.Polynomial.{Polynomial, Under, IsCanonical, variable}
use Rattle.scev_tree.specs.Value.{value}
use Rattle.chrec_algebra.specs.Limits.{IsWithin}
use Rattle.phi_solve.specs.Step.{IsChain}
use Rattle.phi_solve.proofs.Recurrences.{step_value}
use Rattle.mlir_ir.specs.Rules.{same_type, same_types}
use Rattle.mlir_ir.specs.Runs.{Number, Binding, Iteration, look, numbers_of, binds}
use Rattle.mlir_ir.specs.Typed.{Types, knows, fits, all_fit, yields}
use Rattle.mlir_ir.specs.Words.{bits_of}
use Rattle.mlir_ir.specs.declared.types.IrType.{IrType}
use Rattle.fresh_scev.specs.Each.{Each}
use Rattle.fresh_scev.specs.Expressions.{Expression, symbol, counter, own, IsCut}
use Rattle.fresh_scev.specs.Facts.{Facts, untested, AreOwn, AreNext}
use Rattle.fresh_scev.specs.Loops.{IsVariable, IsNext, stays, solved as grown}
use Rattle.fresh_scev.specs.Rules.{have_width, fitting, IsCutOf}
use Rattle.fresh_scev.proofs.TypedWidths.{same_bits}
use Rattle.fresh_scev.proofs.Before.{under_later, same_expression, within_or}
use Rattle.scev_soundness.specs.Holding.{HasValue, point}
use Rattle.scev_soundness.specs.Agreement.{IsGood, Agrees, Keeps, IsReady, AreReady}
use Rattle.scev_soundness.specs.Arguments.{turn_of, IsArgument, free, solved, AreArguments}
use Rattle.scev_soundness.proofs.Points.{bind, look_here, value_keeps, at_symbol, chain_first, chain_next, line_is}
use Rattle.scev_soundness.proofs.Scopes.{binds_keep}
use Rattle.scev_soundness.proofs.Ready.{own_number, cut_ready}

-- ---- uses in scope, and their widths

-- a value in scope has as many bits as that type
pub record HasBits (T : Types) (ty : IrType) (l : Label) : Type 0 where
  pub its : IrType
  pub known : T l.0 ≡ Some its
  pub bits : bits_of its ≡ bits_of ty

-- as many values as types, and each has the bits of its type
abbrev pub HaveBits : Types → List IrType → List Label → Type 0
HaveBits T [] [] = Unit {0}
HaveBits T (ty ∷ tys) (l ∷ ls) = HasBits T ty l × HaveBits T tys ls
HaveBits T _ _ = ⊥

-- a use that is in scope and has that type
pub has_bits : (T : Types) (ty : IrType) (l : Label) → knows T l ≡ true → fits T ty l ≡ true → HasBits T ty l
has_bits T ty l scope fit = of (T l.0) refl scope fit
  where
    of : (o : Option IrType) → T l.0 ≡ o → is_some o ≡ true → option_map_or (same_type ty) o true ≡ true
        → HasBits T ty l
    of None e s f = absurd (cc)
    of (Some u) e s f = record { its = u; known = e; bits = sym (same_bits ty u f) }

-- uses that are in scope and have those types
pub have_bits : (T : Types) (tys : List IrType) (ls : List Label) → list_all (knows T) ls ≡ true
    → all_fit T tys ls ≡ true → length ls ≡ length tys
    → HaveBits T tys ls
have_bits T [] [] scope fit many = tt
have_bits T [] (l ∷ ls) scope fit many = absurd (omega (arith, many))
have_bits T (ty ∷ tys) [] scope fit many = absurd (omega (arith, many))
have_bits T (ty ∷ tys) (l ∷ ls) scope fit many =
    let s = and_parts (knows T l) (list_all (knows T) ls) scope in
    let f = and_parts (fits T ty l) (all_fit T tys ls) fit in
    (has_bits T ty l s.0 f.0, have_bits T tys ls s.1 f.1 (omega (arith, many)))

-- the same for other types of the same widths
pub have_bits_alike : (T : Types) (tys others : List IrType) (ls : List Label) → same_types tys others ≡ true
    → length tys ≡ length others
    → HaveBits T others ls → HaveBits T tys ls
have_bits_alike T [] [] ls same many h = h
have_bits_alike T [] (b ∷ others) ls same many h = absurd (omega (arith, many))
have_bits_alike T (ty ∷ tys) [] ls same many h = absurd (omega (arith, many))
have_bits_alike T (ty ∷ tys) (b ∷ others) [] same many h = absurd h
have_bits_alike T (ty ∷ tys) (b ∷ others) (l ∷ ls) same many h =
    let s = and_parts (same_type ty b) (same_types tys others) same in (
      record { its = h.0.its; known = h.0.known; bits = h.0.bits ∙ sym (same_bits ty b s.0) },
      have_bits_alike T tys others ls s.1 (omega (arith, many)) h.1,
    )

-- there are as many of them as types
pub have_bits_length : (T : Types) (tys : List IrType) (ls : List Label) → HaveBits T tys ls → length ls ≡ length tys
have_bits_length T [] [] h = refl
have_bits_length T [] (l ∷ ls) h = absurd h
have_bits_length T (ty ∷ tys) [] h = absurd h
have_bits_length T (ty ∷ tys) (l ∷ ls) h = let e = have_bits_length T tys ls h.1 in omega arith

-- a yield that must have operands where values are wanted has as many
pub yields_length : (wanted : List IrType) (ends : List Label) → yields wanted ends ≡ true
    → (length wanted == 0 || nat_lt 0 (length ends)) ≡ true → length ends ≡ length wanted
yields_length wanted ends counts given = of (length wanted) (length ends) counts given
  where
    of : (a b : ℕ) → (b == 0 || b == a) ≡ true → (a == 0 || nat_lt 0 b) ≡ true → b ≡ a
    of a b e f = grind arith

-- an expression of width w with its number
pub record IsRead (w : ℕ) (env : List Binding) (around : List Iteration) (e : Expression) (n : Number) : Type 0 where
  pub some : 1 ≤ w
  pub width : e.w ≡ w
  pub canon : IsCanonical (2 ^ w) e.p
  pub within : IsWithin e.p
  pub bits : n.w ≡ w
  pub number : n.v ≡ value (point env around) e.p % 2 ^ w
  pub below : n.v < 2 ^ w

remainder_below : (w a n : ℕ) → n ≡ a % 2 ^ w → n < 2 ^ w
remainder_below w a n e = let b : a % 2 ^ w < 2 ^ w = mod-lt a (pow_pos w) in omega arith

-- a value in scope, at the width of that type
pub read_at : (T : Types) (F : Facts) (conditions : List Label) (at : ℕ) (env : List Binding)
    (around : List Iteration) (ty : IrType) (l : Label)
    → Agrees T F conditions at env around → HasBits T ty l
    → IsRead (bits_of ty) env around (F.expr l.0) (look env l.0)
read_at T F conditions at env around ty l ag h =
    let g = ag.good l.0 h.its h.known in
    let v = ag.number l.0 h.its h.known in
    let nv : (look env l.0).v ≡ value (point env around) (F.expr l.0).p % 2 ^ bits_of h.its =
    v.number ∙ ap (λ w. value (point env around) (F.expr l.0).p % 2 ^ w) g.width in
    subst (λ w. IsRead w env around (F.expr l.0) (look env l.0)) h.bits (record {
      some = ag.wide l.0 h.its h.known;
      width = g.width;
      canon = g.canon;
      within = g.within;
      bits = v.width ∙ g.width;
      number = nv;
      below = remainder_below (bits_of h.its) (value (point env around) (F.expr l.0).p) (look env l.0).v nv;
    })

-- what is in scope where a loop begins knows nothing of its counter
pub low_at : (T : Types) (F : Facts) (conditions : List Label) (at : ℕ) (env : List Binding)
    (around : List Iteration) (ty : IrType) (l : Label)
    → Agrees T F conditions at env around → HasBits T ty l → Under (F.expr l.0).p (counter at)
low_at T F conditions at env around ty l ag h =
    let g = ag.good l.0 h.its h.known in
    let b = ag.below l.0 h.its h.known in
    under_later (F.expr l.0).p (counter (l.0 + 1)) (counter at) g.under (omega arith)

-- as many numbers as types, each of the width of its type
abbrev pub AreFitting : List IrType → List Number → Type 0
AreFitting [] [] = Unit {0}
AreFitting (ty ∷ tys) (n ∷ ns) = (n.w ≡ bits_of ty) × (n.v < 2 ^ bits_of ty) × AreFitting tys ns
AreFitting _ _ = ⊥

-- values in scope have numbers of the widths of those types
pub numbers_fit : (T : Types) (F : Facts) (conditions : List Label) (at : ℕ) (env : List Binding)
    (around : List Iteration) (tys : List IrType) (ls : List Label)
    → Agrees T F conditions at env around → HaveBits T tys ls → AreFitting tys (numbers_of env ls)
numbers_fit T F conditions at env around [] [] ag h = tt
numbers_fit T F conditions at env around [] (l ∷ ls) ag h = absurd h
numbers_fit T F conditions at env around (ty ∷ tys) [] ag h = absurd h
numbers_fit T F conditions at env around (ty ∷ tys) (l ∷ ls) ag h =
    let r = read_at T F conditions at env around ty l ag h.0 in
    (r.bits, r.below, numbers_fit T F conditions at env around tys ls ag h.1)

-- ---- properties of arguments

-- types with at least one bit
abbrev pub AreSized : ℕ → List IrType → Type 0
AreSized label tys = Each (λ l ty. 1 ≤ bits_of ty) label tys

-- values with good expressions
abbrev pub AreGood : Facts → ℕ → List IrType → Type 0
AreGood F label tys = Each (λ l ty. IsGood (bits_of ty) l (F.expr l)) label tys

-- values that are no comparisons' results
abbrev pub AreUntested : Facts → ℕ → List IrType → Type 0
AreUntested F label tys = Each (λ l ty. F.role l ≡ untested) label tys

-- types of values in scope have at least one bit
pub sized_types : (T : Types) (F : Facts) (conditions : List Label) (at : ℕ) (env : List Binding)
    (around : List Iteration) (tys : List IrType) (ls : List Label)
    (label : ℕ) → Agrees T F conditions at env around → HaveBits T tys ls → AreSized label tys
sized_types T F conditions at env around [] ls label ag h = tt
sized_types T F conditions at env around (ty ∷ tys) [] label ag h = absurd h
sized_types T F conditions at env around (ty ∷ tys) (l ∷ ls) label ag h =
    let some = ag.wide l.0 h.0.its h.0.known in
    let same = h.0.bits in
    (omega (arith, some, same), sized_types T F conditions at env around tys ls (label + 1) ag h.1)

-- ---- values that were bound

-- values from a label on have these numbers
abbrev pub Reads : List Binding → ℕ → List Number → Type 0
Reads env label [] = Unit {0}
Reads env label (n ∷ ns) = (look env label ≡ n) × Reads env (label + 1) ns

-- values that were just bound are read
pub reads_binds : (ns : List Number) (label : ℕ) (env : List Binding) → Reads (binds label ns env) label ns
reads_binds [] label env = tt
reads_binds (n ∷ ns) label env = (
  binds_keep ns (label + 1) (bind label n ∷ env) label (omega arith) ∙ look_here label n env,
  reads_binds ns (label + 1) (bind label n ∷ env),
)

-- they are read later, where they stay
pub reads_later : (ns : List Number) (label at : ℕ) (env later : List Binding) → Keeps env later at
    → label + length ns ≤ at → Reads env label ns
    → Reads later label ns
reads_later [] label at env later k le h = tt
reads_later (n ∷ ns) label at env later k le h =
    (k label (omega arith) ∙ h.0, reads_later ns (label + 1) at env later k (omega arith) h.1)

-- ---- arguments are ready

-- an argument that is right in iteration k gets its number there, whatever is in scope inside the loop
pub argument_ready : (F : Facts) (at : ℕ) (env : List Binding) (around : List Iteration) (k label : ℕ) (ty : IrType)
    (n : Number) → 1 ≤ bits_of ty
    → IsGood (bits_of ty) label (F.expr label) → F.role label ≡ untested → IsArgument F at env around k label ty n
    → IsReady F at env (turn_of at k ∷ around) label ty n
argument_ready F at env around k label ty n some g plain (free h wide lt) = record {
  wide = some;
  good = g;
  number = λ later keeps l. own_number (bits_of ty) label (F.expr label) n later (turn_of at k ∷ around) h wide lt l;
  plain = plain;
}
argument_ready F at env around k label ty n some g plain (solved u h) = record {
  wide = some;
  good = g;
  number = λ later keeps l. (let same : value (point later (turn_of at k ∷ around)) (F.expr label).p
      ≡ value (point env (turn_of at k ∷ around)) (F.expr label).p =
      value_keeps env later (turn_of at k ∷ around) (turn_of at k ∷ around) at (at + 1) (counter at + 1)
      (2 ^ bits_of ty) (F.expr label).p u g.canon
      (omega arith) (omega arith) keeps (λ z lt. refl) in
      record { width = h.width; number = h.number ∙ ap (λ z. z % 2 ^ (F.expr label).w) (sym same) });
  plain = plain;
}

-- the same of arguments beside one another
pub arguments_ready : (F : Facts) (at : ℕ) (env : List Binding) (around : List Iteration) (k : ℕ) (tys : List IrType)
    (ns : List Number) (label : ℕ)
    → AreSized label tys → AreGood F label tys → AreUntested F label tys
    → AreArguments F at env around k label tys ns → AreReady F at env (turn_of at k ∷ around) label tys ns
arguments_ready F at env around k [] [] label some g plain h = tt
arguments_ready F at env around k [] (n ∷ ns) label some g plain h = absurd h
arguments_ready F at env around k (ty ∷ tys) [] label some g plain h = absurd h
arguments_ready F at env around k (ty ∷ tys) (n ∷ ns) label some g plain h = (
  argument_ready F at env around k label ty n some.0 g.0 plain.0 h.0,
  arguments_ready F at env around k tys ns (label + 1) some.1 g.1 plain.1 h.1,
)

-- there are as many numbers as arguments
pub arguments_length : (F : Facts) (at : ℕ) (env : List Binding) (around : List Iteration) (k : ℕ)
    (tys : List IrType) (ns : List Number) (label : ℕ)
    → AreArguments F at env around k label tys ns → length ns ≡ length tys
arguments_length F at env around k [] [] label h = refl
arguments_length F at env around k [] (n ∷ ns) label h = absurd h
arguments_length F at env around k (ty ∷ tys) [] label h = absurd h
arguments_length F at env around k (ty ∷ tys) (n ∷ ns) label h =
    let e = arguments_length F at env around k tys ns (label + 1) h.1 in omega arith

-- ---- arguments that are their symbols

own_arguments : (F : Facts) (at : ℕ) (env : List Binding) (around : List Iteration) (k : ℕ) (tys : List IrType)
    (ns : List Number) (label : ℕ)
    → AreFitting tys ns → AreOwn F label tys → AreArguments F at env around k label tys ns
own_arguments F at env around k [] [] label f h = tt
own_arguments F at env around k [] (n ∷ ns) label f h = absurd f
own_arguments F at env around k (ty ∷ tys) [] label f h = absurd f
own_arguments F at env around k (ty ∷ tys) (n ∷ ns) label f h =
    (free h.0.0 f.0 f.1, own_arguments F at env around k tys ns (label + 1) f.2 h.1)

-- ---- a round

argument_same : (F G : Facts) (at : ℕ) (env : List Binding) (around : List Iteration) (k label : ℕ) (ty : IrType)
    (n : Number)
    → G.expr label ≡ F.expr label → IsArgument F at env around k label ty n → IsArgument G at env around k label ty n
argument_same F G at env around k label ty n e (free h wide lt) = free (e ∙ h) wide lt
argument_same F G at env around k label ty n e (solved u h) =
    solved (subst (λ (x : Expression). Under x.p (counter at + 1)) (sym e) u)
    (subst (λ x. HasValue env (turn_of at k ∷ around) x n) (sym e) h)

abbrev whole : ℕ → Polynomial → Expression
whole w p = record { w = w; p = p }

-- an argument whose expression is cut
cut_argument : (F : Facts) (at : ℕ) (env : List Binding) (around : List Iteration) (k label : ℕ) (ty : IrType)
    (n : Number) (r : Polynomial)
    → IsCut (bits_of ty) label r (F.expr label) → Under r (counter at + 1) → n.w ≡ bits_of ty → n.v < 2 ^ bits_of ty
    → (F.expr label ≡ whole (bits_of ty) r → n.v ≡ value (point env (turn_of at k ∷ around)) r % 2 ^ bits_of ty)
    → IsArgument F at env around k label ty n
cut_argument F at env around k label ty n r cut u wide lt number = elim (within_or r) [
  | inl i ↦ (let h : F.expr label ≡ whole (bits_of ty) r = same_expression (F.expr label)
      (whole (bits_of ty) r) cut.width (cut.kept i) in
      solved (subst (λ (x : Expression). Under x.p (counter at + 1)) (sym h) u)
      (subst (λ x. HasValue env (turn_of at k ∷ around) x n) (sym h) (record { width = wide; number = number h })))
  | inr o ↦ free (same_expression (F.expr label) (own (bits_of ty) label) cut.width (cut.dropped o)) wide lt
]

-- an argument that was solved has the number of its expression
solved_number : (F : Facts) (at : ℕ) (env : List Binding) (around : List Iteration) (k label : ℕ) (ty : IrType)
    (n : Number) (r : Polynomial) → at < label
    → F.expr label ≡ whole (bits_of ty) r → Under r (counter at + 1) → IsArgument F at env around k label ty n
    → n.v ≡ value (point env (turn_of at k ∷ around)) r % 2 ^ bits_of ty
solved_number F at env around k label ty n r lt e u (free h wide below) =
    let same : r ≡ variable (symbol label) = ap (λ (x : Expression). x.p) (sym e ∙ h) in
    let low : Under (variable (symbol label)) (counter at + 1) = subst (λ q. Under q (counter at + 1)) same u in
    absurd (omega (arith, low))
solved_number F at env around k label ty n r lt e u (solved v h) =
    let at_r : HasValue env (turn_of at k ∷ around) (whole (bits_of ty) r) n =
    subst (λ x. HasValue env (turn_of at k ∷ around) x n) e h in
    at_r.number

-- in the first iteration the arguments have their initial numbers
module _ (T : Types) (conditions : List Label) (at : ℕ) (env : List Binding) (around : List Iteration) where
  -- under facts by which they are their symbols
  pub own_first : (F : Facts) (tys : List IrType) (inits : List Label) (label : ℕ) → HaveBits T tys inits
      → Agrees T F conditions at env around
      → AreOwn F label tys → AreArguments F at env around 0 label tys (numbers_of env inits)
  own_first F tys inits label ins ag h =
      own_arguments F at env around 0 tys (numbers_of env inits) label
      (numbers_fit T F conditions at env around tys inits ag ins) h

  argument_first : (old F : Facts) (label : ℕ) (ty : IrType) (i y : Label) → HasBits T ty i
      → Agrees T old conditions at env around
      → IsNext at (bits_of ty) label (old.expr label) (old.expr i.0) (old.expr y.0) (F.expr label)
      → IsArgument old at env around 0 label ty (look env i.0) → IsArgument F at env around 0 label ty (look env i.0)
  argument_first old F label ty i y h ag (stays none same) before =
      argument_same old F at env around 0 label ty (look env i.0) same before
  argument_first old F label ty i y h ag (grown p g c) before =
      let M = 2 ^ bits_of ty in
      let r = c.0 in
      let read = read_at T old conditions at env around ty i ag h in
      let up = under_later p _ (counter at + 1) g.step.under (omega arith) in
      let first = chain_first env around M at r (old.expr i.0).p p read.canon
      (low_at T old conditions at env around ty i ag h) g.step.canon up c.1 in
      cut_argument F at env around 0 label ty (look env i.0) r c.2
      (under_later r _ (counter at + 1) c.1.under (omega arith)) read.bits read.below
      (λ e. read.number ∙ ap (λ z. z % M) (sym first))

  -- under the facts of a round, if they have them under those of the round before
  pub next_first : (old F : Facts) (tys : List IrType) (inits ends : List Label) (label : ℕ) → HaveBits T tys inits
      → Agrees T old conditions at env around
      → AreNext at old F label tys inits ends → AreArguments old at env around 0 label tys (numbers_of env inits)
      → AreArguments F at env around 0 label tys (numbers_of env inits)
  next_first old F [] [] ends label ins ag n before = tt
  next_first old F [] (i ∷ inits) ends label ins ag n before = absurd ins
  next_first old F (ty ∷ tys) [] ends label ins ag n before = absurd ins
  next_first old F (ty ∷ tys) (i ∷ inits) [] label ins ag n before =
      own_arguments F at env around 0 (ty ∷ tys) (numbers_of env (i ∷ inits)) label
      (numbers_fit T old conditions at env around (ty ∷ tys) (i ∷ inits) ag ins) n
  next_first old F (ty ∷ tys) (i ∷ inits) (y ∷ ends) label ins ag n before = (
    argument_first old F label ty i y ins.0 ag n.0 before.0,
    next_first old F tys inits ends (label + 1) ins.1 ag n.2 before.1,
  )

  -- from iteration k, whose arguments are numbers that `last` reads, to the next, where the inside ends with `last`
  -- and the scope U
  module _ (k : ℕ) (last : List Binding) (keeps : Keeps env last at) (U : Types) (end : ℕ) where
    abbrev now : List Iteration
    now = turn_of at k ∷ around

    -- under facts by which they are their symbols
    pub own_step : (F : Facts) (tys : List IrType) (ends : List Label) (label : ℕ) → HaveBits U tys ends
        → Agrees U F conditions end last (turn_of at k ∷ around)
        → AreOwn F label tys → AreArguments F at env around (k + 1) label tys (numbers_of last ends)
    own_step F tys ends label outs ag h =
        own_arguments F at env around (k + 1) tys (numbers_of last ends) label
        (numbers_fit U F conditions end last (turn_of at k ∷ around) tys ends ag outs) h

    argument_step : (old F : Facts) (label : ℕ) (ty : IrType) (i y : Label) (n : Number) → at < label
        → HasBits T ty i → HasBits U ty y
        → Agrees T old conditions at env around → Agrees U old conditions end last (turn_of at k ∷ around)
        → look last label ≡ n
        → IsNext at (bits_of ty) label (old.expr label) (old.expr i.0) (old.expr y.0) (F.expr label)
        → IsArgument F at env around k label ty n → IsArgument old at env around (k + 1) label ty (look last y.0)
        → IsArgument F at env around (k + 1) label ty (look last y.0)
    argument_step old F label ty i y n lt h o ag bg l (stays none same) this before =
        argument_same old F at env around (k + 1) label ty (look last y.0) same before
    argument_step old F label ty i y n lt h o ag bg l (grown p g c) this before =
        let M = 2 ^ bits_of ty in
        let r = c.0 in
        let read = read_at T old conditions at env around ty i ag h in
        let got = read_at U old conditions end last now ty y bg o in
        let up = under_later p _ (counter at + 1) g.step.under (omega arith) in
        let ur = under_later r _ (counter at + 1) c.1.under (omega arith) in
        let grows = chain_next env around M at r (old.expr i.0).p p read.canon
        (low_at T old conditions at env around ty i ag h) g.step.canon up c.1 k in
        let step = step_value (point last now) M (symbol label) (counter at) (old.expr y.0).p p
        (one-lt-pow (bits_of ty) read.some) (omega arith) got.canon g.step in
        let same : value (point last now) p ≡ value (point env now) p =
        value_keeps env last now now at (at + 1) (counter at + 1) M p up g.step.canon (omega arith)
        (omega arith) keeps (λ z lt. refl) in
        let mine : point last now (symbol label) ≡ n.v = at_symbol last now label ∙ ap (λ (m : Number). m.v) l in
        let sum : value (point last now) (old.expr y.0).p ≡ n.v + value (point env now) p =
        omega (arith, step, same, mine) in
        cut_argument F at env around (k + 1) label ty (look last y.0) r c.2 ur got.bits got.below
        (λ e. (let here : n.v ≡ value (point env now) r % M =
        solved_number F at env around k label ty n r lt e ur this in
        got.number ∙ (ap (λ z. z % M) sum ∙ (ap (λ z. (z + value (point env now) p) % M) here
        ∙ (mod-add-mod (value (point env now) r) M (value (point env now) p) ∙ ap (λ z. z % M) (sym grows))))))

    -- under the facts of a round, if they have them under those of the round before
    pub next_step : (old F : Facts) (tys : List IrType) (inits ends : List Label) (ns : List Number) (label : ℕ)
        → at < label
        → HaveBits T tys inits → HaveBits U tys ends
        → Agrees T old conditions at env around → Agrees U old conditions end last (turn_of at k ∷ around)
        → Reads last label ns
        → AreNext at old F label tys inits ends → AreArguments F at env around k label tys ns
        → AreArguments old at env around (k + 1) label tys (numbers_of last ends)
        → AreArguments F at env around (k + 1) label tys (numbers_of last ends)
    next_step old F [] inits [] ns label lt ins outs ag bg l n this before = tt
    next_step old F [] inits (y ∷ ends) ns label lt ins outs ag bg l n this before = absurd outs
    next_step old F (ty ∷ tys) [] ends ns label lt ins outs ag bg l n this before = absurd ins
    next_step old F (ty ∷ tys) (i ∷ inits) [] ns label lt ins outs ag bg l n this before = absurd outs
    next_step old F (ty ∷ tys) (i ∷ inits) (y ∷ ends) [] label lt ins outs ag bg l n this before = absurd this
    next_step old F (ty ∷ tys) (i ∷ inits) (y ∷ ends) (x ∷ ns) label lt ins outs ag bg l n this before = (
      argument_step old F label ty i y x lt ins.0 outs.0 ag bg l.0 n.0 this.0 before.0,
      next_step old F tys inits ends ns (label + 1) (omega arith) ins.1 outs.1 ag bg l.1 n.2 this.1 before.1,
    )

-- ---- the loop's variable

line_mod : (M a b c d k : ℕ) → a ≡ c % M → b ≡ d % M → (a + b * k) % M ≡ (c + d * k) % M
line_mod M a b c d k e f =
    rw (e, f) (mod-add-mod c M (d % M * k)
    ∙ (add-mod c (d % M * k) M ∙ (ap (λ z. (c % M + z) % M) (mul-mod_first d k M) ∙ sym (add-mod c (d * k) M))))

-- in iteration k the induction variable is its lower bound plus k times its step
pub variable_ready : (T : Types) (conditions : List Label) (at : ℕ) (env : List Binding) (around : List Iteration)
    (F : Facts) (lower step : Label) (ty : IrType)
    (k : ℕ) (v : Number) → HasBits T ty lower → HasBits T ty step → Agrees T F conditions at env around
    → IsVariable at (bits_of ty) (at + 1) (F.expr lower.0) (F.expr step.0) (F.expr (at + 1))
    → F.role (at + 1) ≡ untested
    → v.w ≡ bits_of ty → v.v ≡ ((look env lower.0).v + (look env step.0).v * k) % 2 ^ bits_of ty
    → IsReady F at env (turn_of at k ∷ around) (at + 1) ty v
variable_ready T conditions at env around F lower step ty k v hl hs ag is plain wide nv =
    let w = bits_of ty in
    let M = 2 ^ w in
    let rl = read_at T F conditions at env around ty lower ag hl in
    let rs = read_at T F conditions at env around ty step ag hs in
    let low = low_at T F conditions at env around ty step ag hs in
    let both : have_width w (F.expr lower.0) (F.expr step.0) ≡ true =
    both_wide w (F.expr lower.0) (F.expr step.0) rl.width rs.width in
    let c : IsCutOf w (at + 1) (F.expr (at + 1))
    (λ p. IsChain M (counter at) p (F.expr lower.0).p (F.expr step.0).p) =
    subst (λ b. fitting b w (at + 1) (F.expr (at + 1))
    (IsCutOf w (at + 1) (F.expr (at + 1)) (λ p. IsChain M (counter at) p (F.expr lower.0).p (F.expr step.0).p)))
    both is in
    let line = line_is env around M at c.0 (F.expr lower.0).p (F.expr step.0).p rl.canon
    (low_at T F conditions at env around ty lower ag hl) rs.canon
    (under_later (F.expr step.0).p (counter at) (counter at + 1) low (omega arith)) c.1 low k in
    let sum = line_mod M (look env lower.0).v (look env step.0).v (value (point env around) (F.expr lower.0).p)
    (value (point env around) (F.expr step.0).p) k
    rl.number rs.number in
    cut_ready F at env (turn_of at k ∷ around) (at + 1) ty v c.0 (counter at + 1) rl.some (omega arith) (omega arith)
    (under_later c.0 _ (counter at + 1) c.1.under (omega arith)) c.1.canon c.2 plain wide
    (nv ∙ (sum ∙ ap (λ z. z % M) (sym line)))
  where
    both_wide : (w : ℕ) (a b : Expression) → a.w ≡ w → b.w ≡ w → have_width w a b ≡ true
    both_wide w a b e f = rw (eq-eqb a.w w e, eq-eqb b.w w f) refl
