-- One run ahead of another: it ends as that does, with the same calls, or the budget cut it and its calls are a front of the other's.
use Rattle.std.proofs.Common.{◌≡◌, ℕ, zero, suc, ◌+◌, ◌-◌, ◌*◌, ◌≤◌, List, [], ◌∷◌, ◌⊎◌, inl, inr, refl, ap, ◌∙◌, sym, subst, arith, Bool, true, false, if◌then◌else◌, ◌==◌, length, drop, nat_lt}
use Rattle.arith_word.specs.declared.label.Label.{Label}
use Rattle.std.proofs.lemmas.Bool.{eq-eqb, ne_eqb}
use Rattle.mlir_ir.specs.Operations.{OpKind, OpList, nil, next, labels_of, inner_labels, joined}
use Rattle.mlir_ir.specs.declared.types.IrType.{IrType}
use Rattle.mlir_ir.specs.RunPrefixes.{IsPrefix}
use Rattle.mlir_ir.specs.Runs.{Number, Binding, Event, State, Trapped, Starved, Cut, End, Done, Stopped, end_then, trace_of, numbers_of, numbers_at, binds, is_false}
use Rattle.mlir_ir.proofs.RunTraces.{prefix_self, prefix_more, prefix_trans, ops_grow, kind_grows}
pub use Rattle.pass_copy.proofs.JoinedOps.{joined_labels}
use Rattle.pass_copy.proofs.RunEnds.{Ending, spent, tick_end, recorded, goes_on, stepped, ends_answers, ends_hands, ends_counted, ends_repeated, ends_ops, ends_kind, ops_ends, kind_ends}

-- traces grow

abbrev pub Grows : State → End → Type 0
Grows s e = IsPrefix s.trace (trace_of e)

abbrev pub Growing : Ending → Type 0
Growing go = (env : List Binding) (s : State) → Grows s (go env s)

pub grows_if : (s : State) (t : Bool) (a b : End) → Grows s a → Grows s b → Grows s (if t then a else b)
grows_if s true a b p q = p
grows_if s false a b p q = q

pub grows_then : (s : State) (e : End) (go : Ending) → Grows s e → Growing go → Grows s (end_then e go)
grows_then s (Done env s1) go g k = prefix_trans s.trace s1.trace (trace_of (go env s1)) g (k env s1)
grows_then s (Stopped stop trace) go g k = g

pub grows_tick : (s : State) (go : State → End) → ((s1 : State) → Grows s1 (go s1)) → Grows s (tick_end s go)
grows_tick s go k = grows_if s (s.budget == 0) (Stopped Cut s.trace) (go (spent s)) (prefix_self s.trace) (k (spent s))

pub grows_answers : (at : ℕ) (results : List IrType) (env : List Binding) (s : State) → Grows s (ends_answers at results env s)
grows_answers at results env s =
    grows_if s (nat_lt (length s.replies) (length results)) (Stopped Starved s.trace)
    (Done (binds at (numbers_at results s.replies) env) (record s { replies = drop (length results) s.replies })) (prefix_self s.trace) (prefix_self s.trace)

pub grows_answered : (at callee : ℕ) (args : List Number) (results : List IrType) (env : List Binding) (s : State) → Grows s (ends_answers at results env (recorded callee args s))
grows_answered at callee args results env s =
    prefix_trans s.trace (recorded callee args s).trace (trace_of (ends_answers at results env (recorded callee args s)))
    (prefix_more s.trace (record { callee = callee; args = args } ∷ [])) (grows_answers at results env (recorded callee args s))

pub grows_hands : (s : State) (res : ℕ) (ends : List Label) (env : List Binding) (e : End) → Grows s e → Grows s (ends_hands res ends env e)
grows_hands s res ends env e g = grows_then s e (λ inner s1. Done (binds res (numbers_of inner ends) env) s1) g (λ inner s1. prefix_self s1.trace)

pub grows_counted : (fuel : ℕ) (body : Ending) (iv res : ℕ) (ends : List Label) (env : List Binding) (upper step v : Number) (args : List Number) (s : State)
    → Growing body → Grows s (ends_counted fuel body iv res ends env upper step v args s)
grows_counted zero body iv res ends env upper step v args s g =
    grows_if s (goes_on upper v) (Stopped Cut s.trace) (Done (binds res args env) s) (prefix_self s.trace) (prefix_self s.trace)
grows_counted (suc fuel) body iv res ends env upper step v args s g =
    let later = λ (inner : List Binding) (s2 : State). ends_counted fuel body iv res ends env upper step (stepped step v) (numbers_of inner ends) s2 in
    let go = λ (s1 : State). end_then (body (binds iv (v ∷ args) env) s1) later in
    grows_if s (goes_on upper v) (tick_end s go) (Done (binds res args env) s)
    (grows_tick s go (λ s1. grows_then s1 (body (binds iv (v ∷ args) env) s1) later (g (binds iv (v ∷ args) env) s1)
    (λ inner s2. grows_counted fuel body iv res ends env upper step (stepped step v) (numbers_of inner ends) s2 g)))
    (prefix_self s.trace)

pub grows_repeated : (fuel : ℕ) (before after : Ending) (arg params res : ℕ) (cond : Label) (passed ends : List Label) (env : List Binding) (args : List Number) (s : State)
    → Growing before → Growing after → Grows s (ends_repeated fuel before after arg params res cond passed ends env args s)
grows_repeated zero before after arg params res cond passed ends env args s g h =
    grows_then s (before (binds arg args env) s)
    (λ inner s1. if is_false inner cond then Done (binds res (numbers_of inner passed) env) s1 else Stopped Cut s1.trace) (g (binds arg args env) s)
    (λ inner s1. grows_if s1 (is_false inner cond) (Done (binds res (numbers_of inner passed) env) s1) (Stopped Cut s1.trace) (prefix_self s1.trace) (prefix_self s1.trace))
grows_repeated (suc fuel) before after arg params res cond passed ends env args s g h =
    let again = λ (last : List Binding) (s3 : State). ends_repeated fuel before after arg params res cond passed ends env (numbers_of last ends) s3 in
    let go = λ (inner : List Binding) (s2 : State). end_then (after (binds params (numbers_of inner passed) inner) s2) again in
    grows_then s (before (binds arg args env) s)
    (λ inner s1. if is_false inner cond then Done (binds res (numbers_of inner passed) env) s1 else tick_end s1 (go inner)) (g (binds arg args env) s)
    (λ inner s1. grows_if s1 (is_false inner cond) (Done (binds res (numbers_of inner passed) env) s1) (tick_end s1 (go inner)) (prefix_self s1.trace)
    (grows_tick s1 (go inner) (λ s2. grows_then s2 (after (binds params (numbers_of inner passed) inner) s2) again (h (binds params (numbers_of inner passed) inner) s2)
    (λ last s3. grows_repeated fuel before after arg params res cond passed ends env (numbers_of last ends) s3 g h))))

pub grows_ops : (ops : OpList) (fuel at : ℕ) → Growing (ends_ops ops fuel at)
grows_ops ops fuel at env s = subst (λ e. Grows s e) (ops_ends ops fuel at [] env s) (ops_grow ops fuel at [] env s)

pub grows_kind : (kind : OpKind) (results : List IrType) (fuel at : ℕ) → Growing (ends_kind kind results fuel at)
grows_kind kind results fuel at env s = subst (λ e. Grows s e) (kind_ends kind results fuel at [] env s) (kind_grows kind results fuel at [] env s)

-- one run ahead of another

-- which run is ahead: that of the parent, or that of the child
pub data Dir : Type 0 where
  forth : Dir
  back : Dir

-- budgets of the parent and the child, with c units in hand: a unit of the child pays for 32 of the parent
abbrev pub Left : Dir → ℕ → ℕ → ℕ → Type 0
Left forth c b b' = b ≤ b'
Left back c b b' = 32 * b' + c ≤ b

-- states of the parent and the child with c units in hand; B and B' bound their budgets
pub record St (d : Dir) (B B' c : ℕ) (s s' : State) : Type 0 where
  pub replies : s.replies ≡ s'.replies
  pub trace : s.trace ≡ s'.trace
  pub left : Left d c s.budget s'.budget
  pub fits : s.budget ≤ B
  pub fits' : s'.budget ≤ B'

-- what holds of both where both end
abbrev pub Joint : Type 1
Joint = List Binding → State → List Binding → State → Type 0

abbrev pub Leads : Joint → End → End → Type 0
Leads R (Done env s) (Done env' s') = R env s env' s'
Leads R (Done env s) (Stopped stop' trace') = ⊥
Leads R (Stopped Trapped trace) e' = e' ≡ Stopped Trapped trace
Leads R (Stopped Starved trace) e' = e' ≡ Stopped Starved trace
Leads R (Stopped Cut trace) e' = IsPrefix trace (trace_of e')

abbrev pub swapped : Joint → Joint
swapped R env' s' env s = R env s env' s'

-- of the ends of the parent and the child
abbrev pub Ahead : Dir → Joint → End → End → Type 0
Ahead forth R e e' = Leads R e e'
Ahead back R e e' = Leads (swapped R) e' e

-- one after another

extends_then : (trace : List Event) (e : End) (go : Ending) → IsPrefix trace (trace_of e) → Growing go → IsPrefix trace (trace_of (end_then e go))
extends_then trace (Done env s) go p g = prefix_trans trace s.trace (trace_of (go env s)) p (g env s)
extends_then trace (Stopped stop ended) go p g = p

leads_then : (R Q : Joint) (e e' : End) (go go' : Ending) → Leads R e e'
    → ((env : List Binding) (s : State) (env' : List Binding) (s' : State) → e ≡ Done env s → e' ≡ Done env' s' → R env s env' s' → Leads Q (go env s) (go' env' s'))
    → Growing go' → Leads Q (end_then e go) (end_then e' go')
leads_then R Q (Done env s) (Done env' s') go go' l k g = k env s env' s' refl refl l
leads_then R Q (Done env s) (Stopped stop' trace') go go' l k g = absurd l
leads_then R Q (Stopped Trapped trace) e' go go' l k g = ap (λ x. end_then x go') l
leads_then R Q (Stopped Starved trace) e' go go' l k g = ap (λ x. end_then x go') l
leads_then R Q (Stopped Cut trace) e' go go' l k g = extends_then trace e' go' l g

pub ahead_then : (d : Dir) (R Q : Joint) (e e' : End) (go go' : Ending) → Ahead d R e e'
    → ((env : List Binding) (s : State) (env' : List Binding) (s' : State) → e ≡ Done env s → e' ≡ Done env' s' → R env s env' s' → Ahead d Q (go env s) (go' env' s'))
    → Growing go → Growing go' → Ahead d Q (end_then e go) (end_then e' go')
ahead_then forth R Q e e' go go' l k g g' = leads_then R Q e e' go go' l k g'
ahead_then back R Q e e' go go' l k g g' =
    leads_then (swapped R) (swapped Q) e' e go' go l (λ env' s' env s q q' h. k env s env' s' q' q h) g

leads_weaker : (R Q : Joint) (e e' : End) → ((env : List Binding) (s : State) (env' : List Binding) (s' : State) → R env s env' s' → Q env s env' s') → Leads R e e' → Leads Q e e'
leads_weaker R Q (Done env s) (Done env' s') f l = f env s env' s' l
leads_weaker R Q (Done env s) (Stopped stop' trace') f l = absurd l
leads_weaker R Q (Stopped Trapped trace) e' f l = l
leads_weaker R Q (Stopped Starved trace) e' f l = l
leads_weaker R Q (Stopped Cut trace) e' f l = l

pub ahead_weaker : (d : Dir) (R Q : Joint) (e e' : End)
    → ((env : List Binding) (s : State) (env' : List Binding) (s' : State) → R env s env' s' → Q env s env' s') → Ahead d R e e' → Ahead d Q e e'
ahead_weaker forth R Q e e' f l = leads_weaker R Q e e' f l
ahead_weaker back R Q e e' f l = leads_weaker (swapped R) (swapped Q) e' e (λ env' s' env s h. f env s env' s' h) l

pub ahead_if : (d : Dir) (R : Joint) (t : Bool) (a b a' b' : End) → (t ≡ true → Ahead d R a a') → (t ≡ false → Ahead d R b b')
    → Ahead d R (if t then a else b) (if t then a' else b')
ahead_if d R true a b a' b' f g = f refl
ahead_if d R false a b a' b' f g = g refl

pub ahead_done : (d : Dir) (R : Joint) (env : List Binding) (s : State) (env' : List Binding) (s' : State) → R env s env' s' → Ahead d R (Done env s) (Done env' s')
ahead_done forth R env s env' s' r = r
ahead_done back R env s env' s' r = r

pub ahead_trapped : (d : Dir) (R : Joint) (t t' : List Event) → t ≡ t' → Ahead d R (Stopped Trapped t) (Stopped Trapped t')
ahead_trapped forth R t t' e = ap (λ x. Stopped Trapped x) (sym e)
ahead_trapped back R t t' e = ap (λ x. Stopped Trapped x) e

pub ahead_starved : (d : Dir) (R : Joint) (t t' : List Event) → t ≡ t' → Ahead d R (Stopped Starved t) (Stopped Starved t')
ahead_starved forth R t t' e = ap (λ x. Stopped Starved x) (sym e)
ahead_starved back R t t' e = ap (λ x. Stopped Starved x) e

-- units of the budget

pub zero_or : (b : ℕ) → (b ≡ 0) ⊎ (b ≡ 0 → ⊥)
zero_or zero = inl refl
zero_or (suc n) = inr (λ e. omega arith)

pub tick_zero : (s : State) (go : State → End) → s.budget ≡ 0 → tick_end s go ≡ Stopped Cut s.trace
tick_zero s go e = rw (eq-eqb s.budget 0 e) refl

pub tick_more : (s : State) (go : State → End) → (s.budget ≡ 0 → ⊥) → tick_end s go ≡ go (spent s)
tick_more s go ne = rw (ne_eqb s.budget 0 ne) refl

pub left_le : (d : Dir) (c k b b' : ℕ) → c ≤ k → Left d k b b' → Left d c b b'
left_le forth c k b b' le l = l
left_le back c k b b' le l = omega arith

-- less in hand, and looser bounds
pub st_le : (d : Dir) (B B' C C' c k : ℕ) (s s' : State) → B ≤ C → B' ≤ C' → c ≤ k → St d B B' k s s' → St d C C' c s s'
st_le d B B' C C' c k s s' le le' ck st =
    let fits : s.budget ≤ B = st.fits in
    let fits' : s'.budget ≤ B' = st.fits' in
    record { replies = st.replies; trace = st.trace; left = left_le d c k s.budget s'.budget ck st.left; fits = omega arith; fits' = omega arith }

prefix_eq : (a b c : List Event) → a ≡ b → IsPrefix b c → IsPrefix a c
prefix_eq a b c e p = subst (λ x. IsPrefix x c) (sym e) p

-- both take a unit
both_forth : (R : Joint) (B B' c : ℕ) (s s' : State) (go go' : State → End) → St forth B B' c s s' → (s.budget ≡ 0) ⊎ (s.budget ≡ 0 → ⊥)
    → ((s.budget ≡ 0 → ⊥) → (s'.budget ≡ 0 → ⊥) → St forth (B - 1) (B' - 1) (c + 31) (spent s) (spent s') → Leads R (go (spent s)) (go' (spent s')))
    → ((s1 : State) → Grows s1 (go' s1)) → Leads R (tick_end s go) (tick_end s' go')
both_forth R B B' c s s' go go' st (inl e) k g' =
    subst (λ x. Leads R x (tick_end s' go')) (sym (tick_zero s go e)) (prefix_eq s.trace s'.trace _ st.trace (grows_tick s' go' g'))
both_forth R B B' c s s' go go' st (inr ne) k g' =
    let le : s.budget ≤ s'.budget = st.left in
    let fits : s.budget ≤ B = st.fits in
    let fits' : s'.budget ≤ B' = st.fits' in
    let ne' : s'.budget ≡ 0 → ⊥ = λ e. omega (arith, ne) in
    rw (tick_more s go ne, tick_more s' go' ne')
    (k ne ne' (record { replies = st.replies; trace = st.trace; left = omega (arith, ne); fits = omega arith; fits' = omega arith }))

both_back : (R : Joint) (B B' c : ℕ) (s s' : State) (go go' : State → End) → St back B B' c s s' → (s'.budget ≡ 0) ⊎ (s'.budget ≡ 0 → ⊥)
    → ((s.budget ≡ 0 → ⊥) → (s'.budget ≡ 0 → ⊥) → St back (B - 1) (B' - 1) (c + 31) (spent s) (spent s') → Ahead back R (go (spent s)) (go' (spent s')))
    → ((s1 : State) → Grows s1 (go s1)) → Ahead back R (tick_end s go) (tick_end s' go')
both_back R B B' c s s' go go' st (inl e) k g =
    subst (λ x. Leads (swapped R) x (tick_end s go)) (sym (tick_zero s' go' e)) (prefix_eq s'.trace s.trace _ (sym st.trace) (grows_tick s go g))
both_back R B B' c s s' go go' st (inr ne) k g =
    let le : 32 * s'.budget + c ≤ s.budget = st.left in
    let fits : s.budget ≤ B = st.fits in
    let fits' : s'.budget ≤ B' = st.fits' in
    let ne' : s.budget ≡ 0 → ⊥ = λ e. omega (arith, ne) in
    rw (tick_more s' go' ne, tick_more s go ne')
    (k ne' ne (record { replies = st.replies; trace = st.trace; left = omega (arith, ne); fits = omega arith; fits' = omega arith }))

pub ahead_both : (d : Dir) (R : Joint) (B B' c : ℕ) (s s' : State) (go go' : State → End) → St d B B' c s s'
    → ((s.budget ≡ 0 → ⊥) → (s'.budget ≡ 0 → ⊥) → St d (B - 1) (B' - 1) (c + 31) (spent s) (spent s') → Ahead d R (go (spent s)) (go' (spent s')))
    → ((s1 : State) → Grows s1 (go s1)) → ((s1 : State) → Grows s1 (go' s1)) → Ahead d R (tick_end s go) (tick_end s' go')
ahead_both forth R B B' c s s' go go' st k g g' = both_forth R B B' c s s' go go' st (zero_or s.budget) k g'
ahead_both back R B B' c s s' go go' st k g g' = both_back R B B' c s s' go go' st (zero_or s'.budget) k g

-- the parent takes a unit, and the child takes none
one_forth : (R : Joint) (B B' c : ℕ) (s s' : State) (go : State → End) (e' : End) → St forth B B' (c + 1) s s' → (s.budget ≡ 0) ⊎ (s.budget ≡ 0 → ⊥)
    → ((s.budget ≡ 0 → ⊥) → St forth (B - 1) B' c (spent s) s' → Leads R (go (spent s)) e') → Grows s' e' → Leads R (tick_end s go) e'
one_forth R B B' c s s' go e' st (inl e) k g' =
    subst (λ x. Leads R x e') (sym (tick_zero s go e)) (prefix_eq s.trace s'.trace _ st.trace g')
one_forth R B B' c s s' go e' st (inr ne) k g' =
    let le : s.budget ≤ s'.budget = st.left in
    let fits : s.budget ≤ B = st.fits in
    rw (tick_more s go ne)
    (k ne (record { replies = st.replies; trace = st.trace; left = omega (arith, ne); fits = omega arith; fits' = st.fits' }))

one_back : (R : Joint) (B B' c : ℕ) (s s' : State) (go : State → End) (e' : End) → St back B B' (c + 1) s s'
    → ((s.budget ≡ 0 → ⊥) → St back (B - 1) B' c (spent s) s' → Ahead back R (go (spent s)) e') → Ahead back R (tick_end s go) e'
one_back R B B' c s s' go e' st k =
    let le : 32 * s'.budget + (c + 1) ≤ s.budget = st.left in
    let fits : s.budget ≤ B = st.fits in
    let ne : s.budget ≡ 0 → ⊥ = λ e. omega arith in
    rw (tick_more s go ne)
    (k ne (record { replies = st.replies; trace = st.trace; left = omega arith; fits = omega arith; fits' = st.fits' }))

pub ahead_one : (d : Dir) (R : Joint) (B B' c : ℕ) (s s' : State) (go : State → End) (e' : End) → St d B B' (c + 1) s s'
    → ((s.budget ≡ 0 → ⊥) → St d (B - 1) B' c (spent s) s' → Ahead d R (go (spent s)) e') → Grows s' e' → Ahead d R (tick_end s go) e'
ahead_one forth R B B' c s s' go e' st k g = one_forth R B B' c s s' go e' st (zero_or s.budget) k g
ahead_one back R B B' c s s' go e' st k g = one_back R B B' c s s' go e' st k

-- the parent is cut, where it had to take a unit
pub ahead_cut : (d : Dir) (R : Joint) (B B' c : ℕ) (s s' : State) (e' : End) → St d B B' (c + 1) s s' → s.budget ≡ 0 → Grows s' e' → Ahead d R (Stopped Cut s.trace) e'
ahead_cut forth R B B' c s s' e' st z g = prefix_eq s.trace s'.trace _ st.trace g
ahead_cut back R B B' c s s' e' st z g = let l : 32 * s'.budget + (c + 1) ≤ s.budget = st.left in absurd (omega arith)

-- segments one after another

pub then_then : (e : End) (f g : Ending) → end_then (end_then e f) g ≡ end_then e (λ env s. end_then (f env s) g)
then_then (Done env s) f g = refl
then_then (Stopped stop trace) f g = refl

pub then_done : (e : End) → end_then e (λ env s. Done env s) ≡ e
then_done (Done env s) = refl
then_done (Stopped stop trace) = refl

pub then_if : (t : Bool) (x y : End) (go : Ending) → end_then (if t then x else y) go ≡ (if t then end_then x go else end_then y go)
then_if true x y go = refl
then_if false x y go = refl

pub then_tick : (s : State) (f : State → End) (go : Ending) → end_then (tick_end s f) go ≡ tick_end s (λ s1. end_then (f s1) go)
then_tick s f go = then_if (s.budget == 0) (Stopped Cut s.trace) (f (spent s)) go

pub joined_ends : (a b : OpList) (n at : ℕ) (env : List Binding) (s : State)
    → ends_ops (joined a b) n at env s ≡ end_then (ends_ops a n at env s) (ends_ops b n (at + labels_of a))
joined_ends nil b n at env s = let e : at + 0 ≡ at = omega arith in rw e refl
joined_ends (next packs results kind rest) b n at env s =
    let w = inner_labels kind + length results in
    let e : at + (w + labels_of rest) ≡ at + w + labels_of rest = omega arith in
    rw e ((λ j. end_then (ends_kind kind results n at env s) (λ env1 s1. joined_ends rest b n (at + w) env1 s1 j))
    ∙ sym (then_then (ends_kind kind results n at env s) (ends_ops rest n (at + w)) (ends_ops b n (at + w + labels_of rest))))
