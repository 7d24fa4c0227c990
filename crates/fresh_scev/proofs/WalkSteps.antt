-- Steps of the walk over a function: what each needs, and what it shows of the table.
use Rattle.std.proofs.Common.{◌≡◌, ℕ, suc, ◌+◌, ◌*◌, ◌-◌, ◌^◌, ◌<◌, ◌≤◌, Bool, true, false, List, [], ◌∷◌, ◌++◌, length, get_or, take, drop, refl, sym, ap, ◌∙◌, subst, arith, Result, Ok, Err, OnOk, Option, Some, None}
use Rattle.std.proofs.lemmas.List.{take-append-drop, drop_more, take_more, take_all}
use Rattle.arith_word.specs.Labels.{label_at}
use Rattle.arith_word.specs.declared.label.Label.{Label}
use Rattle.arith_word.specs.declared.op.Pred.TheVariants.{Slt}
use Rattle.mlir_ir.specs.declared.types.IrType.{IrType}
use Rattle.mlir_ir.specs.declared.types.Op.{Op}
use Rattle.mlir_ir.specs.declared.types.Region.{Region, out-Region}
use Rattle.mlir_ir.specs.declared.types.ForParts.{ForParts}
use Rattle.mlir_ir.specs.declared.types.Kind.{Kind, If', Held-Kind-If-2, None', Some', back-Kind-If-2}
use Rattle.mlir_ir.specs.declared.types.Kind as kinds
use Rattle.mlir_ir.specs.declared.types.WhileParts.{WhileParts}
use Rattle.mlir_ir.specs.Operations.{SimpleOp, Const, Bin, Cast, Cmp, Select, Call, OpKind, Simple, If, For, While, OpList, nil, next, labels_of, inner_labels, count_of, inner_count, joined}
use Rattle.mlir_ir.specs.Rules.{arg_types}
use Rattle.mlir_ir.specs.View.{view_kind, view_ops}
use Rattle.fresh_scev.specs.declared.table.Table.{Table}
use Rattle.fresh_scev.specs.declared.heads.ForHead.{ForHead}
use Rattle.fresh_scev.specs.declared.heads.WhileHead.{WhileHead}
use Rattle.fresh_scev.specs.Expressions.{number_in}
use Rattle.fresh_scev.specs.Facts.{Facts, AreOwn, AreMerged, AreCarried, ArePassed, ArePassedOn, IsTested, Rounds, IsOps, IsKind, round_limit}
use Rattle.fresh_scev.specs.Heads.{CanWalk, IsCounter, rows_of, ends_of, then_of, branches_of, for_of, while_of, loop_of_for, loop_of_while, InsideFor, InsideWhile, for_inside_labels, while_inside_labels, HasVariable, first_of_for, first_of_while, Begins, HasBegun, GoesOnFor, GoesOnWhile, EndsFor, EndsWhile, WalksRegions}
use Rattle.fresh_scev.specs.Insides.{for_loop, while_loop, IsForInside, IsWhileInside}
use Rattle.fresh_scev.specs.Loops.{AreComparedTurns}
use Rattle.fresh_scev.specs.Settled.{Settles}
use Rattle.fresh_scev.specs.SameFacts.{SameFacts}
use Rattle.fresh_scev.specs.Table.{facts_of, next_label, HasRoom, AreKnown, Grows}
use Rattle.fresh_scev.specs.UsesBelow.{AreBelow, CarriesResults, DoUseBelow, DoesUseBelow}
use Rattle.fresh_scev.specs.Walked.{Says, AreKindRuled, SimpleUsesBelow}
use Rattle.fresh_scev.proofs.GrowingTables.{next_later, grows_on, room_later, room_less}
use Rattle.mlir_ir.proofs.PartViews.{if_view, else_view}
use Rattle.fresh_scev.proofs.Pushed.{uses_at}
use Rattle.fresh_scev.proofs.StandingFacts.{uses_more, uses_append, view_joined, labels_joined}
use Rattle.fresh_scev.proofs.CountedRounds.{still_rounds}
use Rattle.fresh_scev.proofs.Walks.{says_no_ops, says_op_more, says_if, says_for_first, says_for_next, Turn, says_while_first, says_while_next}
use Rattle.fresh_scev.proofs.WalkedLoops.{says_for, says_while}

-- a walk can go on later, over what is left
pub can_later : (s t : Table) (m n k : ℕ) → m + n ≤ k → Grows s t m → CanWalk s k → CanWalk t n
can_later s t m n k le g r =
    let f = next_later s t m g in
    record {
      room = room_later s t m n g (room_less s k (m + n) le r.room);
      known = g.known;
      conditions = subst (λ conditions. AreBelow conditions (next_label t)) (sym g.same.conditions) (uses_more s.conditions.items (next_label s) (next_label t) (omega (arith, f)) r.conditions);
    }

pub can_less : (s : Table) (n k : ℕ) → n ≤ k → CanWalk s k → CanWalk s n
can_less s n k le r = record { room = room_less s k n le r.room; known = r.known; conditions = r.conditions }

-- an operation, with its results, that is walked
abbrev pub SaysKind : Table → Table → OpKind → List IrType → Type 0
SaysKind s t kind results = Says s t (inner_labels kind + length results) (IsKind s.conditions.items kind results (next_label s))

-- operations that are walked
abbrev pub SaysOps : Table → Table → OpList → Type 0
SaysOps s t ops = Says s t (labels_of ops) (IsOps s.conditions.items ops (next_label s))

-- what is said of operations under the same conditions
pub ops_under : (s t : Table) (conditions : List Label) (ops : OpList) → s.conditions.items ≡ conditions → SaysOps s t ops → Says s t (labels_of ops) (IsOps conditions ops (next_label s))
ops_under s t conditions ops e h = subst (λ conditions. Says s t (labels_of ops) (IsOps conditions ops (next_label s))) e h

-- ---- operations, one after another

count_joined : (a b : OpList) → count_of (joined a b) ≡ count_of a + count_of b
count_joined nil b = omega arith
count_joined (next packs results kind rest) b = let e = count_joined rest b in omega (arith, e)

module _ (s : Table) (ops : List Op) (ready : CanWalk s (labels_of (view_ops ops))) (uses : DoUseBelow (view_ops ops) (next_label s)) where
  pub ops_begin : SaysOps s s (view_ops [])
  ops_begin = says_no_ops s s.conditions.items ready.known

  pub ops_done : (t : Table) (k : ℕ) → length ops ≤ k → SaysOps s t (view_ops (take k ops)) → SaysOps s t (view_ops ops)
  ops_done t k le h = subst (λ xs. SaysOps s t (view_ops xs)) (take_all k ops le) h

  module _ (t : Table) (k : ℕ) (op : Op) (lt : k < length ops) (at : op ≡ get_or ops k op) (so_far : SaysOps s t (view_ops (take k ops))) where
    parted : ops ≡ take k ops ++ op ∷ drop (k + 1) ops
    parted =
        sym (take-append-drop k ops)
        ∙ ap (λ rest. take k ops ++ rest) (drop_more ops k op lt ∙ ap (λ (x : Op). x ∷ drop (k + 1) ops) (sym at))

    viewed : view_ops ops ≡ joined (view_ops (take k ops)) (view_ops (op ∷ drop (k + 1) ops))
    viewed = ap view_ops parted ∙ view_joined (take k ops) (op ∷ drop (k + 1) ops)

    parts : DoUseBelow (view_ops (take k ops)) (next_label s) × DoesUseBelow (view_kind op.kind) (next_label s + labels_of (view_ops (take k ops)))
        × DoUseBelow (view_ops (drop (k + 1) ops)) (next_label s + labels_of (view_ops (take k ops)) + (inner_labels (view_kind op.kind) + length op.results))
        × CarriesResults (view_kind op.kind) op.results
    parts = uses_at (take k ops) (drop (k + 1) ops) op (next_label s) (subst (λ xs. DoUseBelow (view_ops xs) (next_label s)) parted uses)

    pub kind_ready : CanWalk t (inner_labels (view_kind op.kind) + length op.results)
    kind_ready =
        let m = labels_of (view_ops (take k ops)) in
        let n = inner_labels (view_kind op.kind) + length op.results in
        let e = ap labels_of viewed ∙ labels_joined (view_ops (take k ops)) (view_ops (op ∷ drop (k + 1) ops)) in
        can_later s t m n (labels_of (view_ops ops)) (omega (arith, e)) so_far.grows ready

    pub kind_uses : DoesUseBelow (view_kind op.kind) (next_label t)
    kind_uses = subst (DoesUseBelow (view_kind op.kind)) (sym (next_later s t (labels_of (view_ops (take k ops))) so_far.grows)) parts.1

    pub kind_carries : CarriesResults (view_kind op.kind) op.results
    kind_carries = parts.3

    pub kind_falls : 6 * inner_count (view_kind op.kind) + 5 < 6 * count_of (view_ops ops)
    kind_falls =
        let e = ap count_of viewed ∙ count_joined (view_ops (take k ops)) (view_ops (op ∷ drop (k + 1) ops)) in
        omega (arith, e)

    pub ops_further : (u : Table) → SaysKind t u (view_kind op.kind) op.results → SaysOps s u (view_ops (take (k + 1) ops))
    ops_further u h =
        let grown : take (k + 1) ops ≡ take k ops ++ op ∷ [] = take_more ops k op lt ∙ ap (λ (x : Op). take k ops ++ x ∷ []) (sym at) in
        let n = inner_labels (view_kind op.kind) + length op.results in
        let kind = subst (λ conditions. Says t u n (IsKind conditions (view_kind op.kind) op.results (next_label t))) so_far.grows.same.conditions h in
        subst (λ xs. SaysOps s u (view_ops xs)) (sym grown) (says_op_more s t u s.conditions.items (take k ops) op parts.0 ready.conditions so_far kind)

-- what a call needs whose measure falls
pub below : (a b m : ℕ) → b ≡ m → a < b → a < m
below a b m e lt = omega (arith, e, lt)

pub ops_asked : (t : Table) (m : ℕ) (ops xs : List Op) → ops ≡ xs → 6 * count_of (view_ops xs) < m → CanWalk t (labels_of (view_ops xs)) → DoUseBelow (view_ops xs) (next_label t)
    → (6 * count_of (view_ops ops) < m) × (CanWalk t (labels_of (view_ops ops)) × DoUseBelow (view_ops ops) (next_label t))
ops_asked t m ops xs e falls ready uses = subst (λ xs. (6 * count_of (view_ops xs) < m) × (CanWalk t (labels_of (view_ops xs)) × DoUseBelow (view_ops xs) (next_label t))) (sym e) (falls, (ready, uses))

pub ops_read : (s t : Table) (ops xs : List Op) → ops ≡ xs → SaysOps s t (view_ops ops) → SaysOps s t (view_ops xs)
ops_read s t ops xs e h = subst (λ xs. SaysOps s t (view_ops xs)) e h

-- ---- an operation

-- by the view of its kind
pub kind_can : (s : Table) (results : List IrType) (a b : OpKind) → a ≡ b → CanWalk s (inner_labels a + length results) → CanWalk s (inner_labels b + length results)
kind_can s results a b e r = subst (λ kind. CanWalk s (inner_labels kind + length results)) e r

pub kind_as : (s t : Table) (results : List IrType) (a b : OpKind) → a ≡ b → SaysKind s t b results → SaysKind s t a results
kind_as s t results a b e h = subst (λ kind. SaysKind s t kind results) (sym e) h

pub simple_below : (kind : OpKind) (at : ℕ) → DoesUseBelow kind at → SimpleUsesBelow kind at
simple_below (Simple does) at h = h
simple_below (If c first firsts has_else other others) at h = tt
simple_below (For lower upper step iv args inits body ends) at h = tt
simple_below (While args inits before passed cond after_args after ends) at h = tt

-- the results of an operation without regions
pub simple_said : (s t : Table) (results : List IrType) (does : SimpleOp) → Says s t (length results) (λ F. AreKindRuled F (next_label s) results (Simple does)) → SaysKind s t (Simple does) results
simple_said s t results does h = let e : length results ≡ 0 + length results = omega arith in record { grows = subst (λ k. Grows s t k) e h.grows; facts = h.facts }

pub plain_said : (k : Kind) (s t : Table) (results : List IrType) → ((c : Label) (first : Region) (other : Option Region) → k ≡ If' c first (back-Kind-If-2 other) → ⊥) → ((p : ForParts) → k ≡ kinds.For p → ⊥) → ((p : WhileParts) → k ≡ kinds.While p → ⊥)
    → Says s t (length results) (λ F. AreKindRuled F (next_label s) results (view_kind k)) → SaysKind s t (view_kind k) results
plain_said (kinds.Const v) s t results no_if no_for no_while h = simple_said s t results (Const v) h
plain_said (kinds.Bin op flags a b) s t results no_if no_for no_while h = simple_said s t results (Bin op flags a b) h
plain_said (kinds.Cast op flags a) s t results no_if no_for no_while h = simple_said s t results (Cast op flags a) h
plain_said (kinds.Cmp pred a b) s t results no_if no_for no_while h = simple_said s t results (Cmp pred a b) h
plain_said (kinds.Select c a b) s t results no_if no_for no_while h = simple_said s t results (Select c a b) h
plain_said (kinds.Call func uses) s t results no_if no_for no_while h = simple_said s t results (Call func uses) h
plain_said (If' c first None') s t results no_if no_for no_while h = absurd (no_if c first None refl)
plain_said (If' c first (Some' other)) s t results no_if no_for no_while h = absurd (no_if c first (Some other) refl)
plain_said (kinds.For parts) s t results no_if no_for no_while h = absurd (no_for parts refl)
plain_said (kinds.While parts) s t results no_if no_for no_while h = absurd (no_while parts refl)

-- an `scf.if` by what the program reads
pub then_view : (k : Kind) (c : Label) (first : Region) (other : Held-Kind-If-2) → k ≡ If' c first other → other ≡ None' → view_kind k ≡ then_of c first
then_view k c first other e none = ap view_kind e ∙ ap (λ o. view_kind (If' c first o)) none ∙ if_view c first None'

pub branches_view : (k : Kind) (c : Label) (first : Region) (other : Held-Kind-If-2) (second : Region) → k ≡ If' c first other → other ≡ Some' second → view_kind k ≡ branches_of c first second
branches_view k c first other second e some =
    ap view_kind e ∙ ap (λ o. view_kind (If' c first o)) some ∙ if_view c first (Some' second) ∙ else_view c (view_ops (out-Region first).ops) (out-Region first).ends second

pub ok_then : {X E : Type 0} (r : Result X E) (P Q : Type 0) → (P → Q) → OnOk r P → OnOk r Q
ok_then (Ok x) P Q f h = f h
ok_then (Err e) P Q f h = h

-- ---- `scf.if`

module _ (s : Table) (c : Label) (first : Region) (has_else : Bool) (other : OpList) (others : List Label) (results : List IrType) where
  abbrev branches : OpKind
  branches = If c (rows_of first) (ends_of first) has_else other others

  module _ (ready : CanWalk s (labels_of (rows_of first) + labels_of other + length results)) (uses : DoesUseBelow branches (next_label s)) where
    pub first_can : CanWalk s (labels_of (rows_of first))
    first_can = can_less s (labels_of (rows_of first)) (labels_of (rows_of first) + labels_of other + length results) (omega arith) ready

    module _ (t : Table) (a : Says s t (labels_of (rows_of first)) (IsOps (s.conditions.items ++ c ∷ []) (rows_of first) (next_label s))) where
      pub other_can : CanWalk t (labels_of other)
      other_can = can_later s t (labels_of (rows_of first)) (labels_of other) (labels_of (rows_of first) + labels_of other + length results) (omega arith) a.grows ready

      pub other_uses : DoUseBelow other (next_label t)
      other_uses = subst (DoUseBelow other) (sym (next_later s t (labels_of (rows_of first)) a.grows)) uses.3

      module _ (u : Table) (b : SaysOps t u other) where
        both : Grows s u (labels_of (rows_of first) + labels_of other)
        both = grows_on s t u (labels_of (rows_of first)) (labels_of other) a.grows b.grows

        pub merged_can : CanWalk u (length results)
        merged_can = can_later s u (labels_of (rows_of first) + labels_of other) (length results) (labels_of (rows_of first) + labels_of other + length results) (omega arith) both ready

        pub firsts_below : AreBelow (ends_of first) (next_label u)
        firsts_below =
            let f = next_later s u (labels_of (rows_of first) + labels_of other) both in
            uses_more (ends_of first) (next_label s + labels_of (rows_of first)) (next_label u) (omega (arith, f)) uses.2

        pub others_below : AreBelow others (next_label u)
        others_below =
            let f = next_later s u (labels_of (rows_of first) + labels_of other) both in
            uses_more others (next_label s + labels_of (rows_of first) + labels_of other) (next_label u) (omega (arith, f)) uses.4

        pub if_said : (v : Table) (start : ℕ) (firsts seconds : List Label) → start ≡ next_label s → firsts ≡ ends_of first → seconds ≡ others
            → Says u v (length results) (λ F. AreMerged F start (next_label u) results firsts seconds)
            → SaysKind s v branches results
        if_said v start firsts seconds e e1 e2 d =
            let b2 = ops_under t u s.conditions.items other a.grows.same.conditions b in
            says_if s t u v s.conditions.items c (rows_of first) (ends_of first) has_else other others results uses ready.conditions a b2
            (subst (λ at. Says u v (length results) (λ F. AreMerged F at (next_label u) results (ends_of first) others)) e
            (subst (λ ls. Says u v (length results) (λ F. AreMerged F start (next_label u) results ls others)) e1
            (subst (λ ls. Says u v (length results) (λ F. AreMerged F start (next_label u) results firsts ls)) e2 d)))

-- ---- a condition more, while a first region is walked

module _ (s t : Table) (func : t.func ≡ s.func) (items : t.items ≡ s.items) (here : t.here ≡ s.here) where
  same_facts : facts_of t ≡ facts_of s
  same_facts = rw (func, items, here) refl

  same_next : next_label t ≡ next_label s
  same_next = rw (func, items, here) refl

pub condition_uses : (s t : Table) (ops : OpList) → t.func ≡ s.func → t.items ≡ s.items → t.here ≡ s.here → DoUseBelow ops (next_label s) → DoUseBelow ops (next_label t)
condition_uses s t ops func items here h = subst (DoUseBelow ops) (sym (same_next s t func items here)) h

pub condition_can : (s t : Table) (c : Label) (n : ℕ) → t.func ≡ s.func → t.items ≡ s.items → t.here ≡ s.here → t.conditions.items ≡ s.conditions.items ++ c ∷ [] → c.0 < next_label s → CanWalk s n → CanWalk t n
condition_can s t c n func items here conditions lt r =
    let item = r.room.item in
    let indices = r.room.indices in
    let e = same_next s t func items here in
    record {
      room = record { item = rw items item; indices = rw here indices };
      known = subst AreKnown (sym (same_facts s t func items here)) r.known;
      conditions = subst (λ ls. AreBelow ls (next_label t)) (sym conditions)
          (uses_append s.conditions.items (c ∷ []) (next_label t) (subst (AreBelow s.conditions.items) (sym e) r.conditions) (omega (arith, e, lt), tt));
    }

front_of : (xs ys : List Label) → take (length xs) (xs ++ ys) ≡ xs
front_of [] ys = refl
front_of (x ∷ xs) ys = ap (λ zs. x ∷ zs) (front_of xs ys)

length_pushed : (xs : List Label) (c : Label) → length (xs ++ c ∷ []) - 1 ≡ length xs
length_pushed xs c = let e = pushed xs c in omega (arith, e)
  where
    pushed : (xs : List Label) (c : Label) → length (xs ++ c ∷ []) ≡ length xs + 1
    pushed [] c = omega arith
    pushed (x ∷ xs) c = let e = pushed xs c in omega (arith, e)

popped : (xs : List Label) (c : Label) → take (length (xs ++ c ∷ []) - 1) (xs ++ c ∷ []) ≡ xs
popped xs c = ap (λ k. take k (xs ++ c ∷ [])) (length_pushed xs c) ∙ front_of xs (c ∷ [])

-- t has the condition, u is what the walk makes of it, and v is without the condition again
pub condition_said : (s t u v : Table) (c : Label) (n : ℕ) (What : Facts → Type 0) → t.func ≡ s.func → t.items ≡ s.items → t.here ≡ s.here → t.conditions.items ≡ s.conditions.items ++ c ∷ []
    → v.func ≡ u.func → v.items ≡ u.items → v.here ≡ u.here → v.conditions.items ≡ take (length u.conditions.items - 1) u.conditions.items → Says t u n What → Says s v n What
condition_said s t u v c n What func items here conditions func2 items2 here2 conditions2 h =
    let g = h.grows in
    let e = same_facts s t func items here in
    let f = same_facts u v func2 items2 here2 in
    let next = same_next s t func items here in
    let back = ap (λ ls. take (length ls - 1) ls) (g.same.conditions ∙ conditions) in
    record {
      grows = record {
        same = record { func = func2 ∙ g.same.func ∙ func; items = items2 ∙ g.same.items ∙ items; conditions = conditions2 ∙ back ∙ popped s.conditions.items c };
        longer = (let longer = g.longer in ap (λ x. length x.items) here2 ∙ longer ∙ ap (λ x. length x.items + n) here);
        stay = subst (λ F. SameFacts F (facts_of v) 0 (next_label s)) e (subst (λ G. SameFacts (facts_of t) G 0 (next_label s)) (sym f) (subst (λ l. SameFacts (facts_of t) (facts_of u) 0 l) next g.stay));
        known = subst AreKnown (sym f) g.known;
      };
      facts = subst What (sym f) h.facts;
    }

-- ---- `scf.for`, around its rounds

module _ (s : Table) (h : ForHead) (body : Region) (results : List IrType) (here : h.counter.0 ≡ next_label s) (ready : CanWalk s (inner_labels (for_of h body) + length results)) (uses : DoesUseBelow (for_of h body) (next_label s)) where
  pub for_uses : DoesUseBelow (for_of h body) h.counter.0
  for_uses = subst (DoesUseBelow (for_of h body)) (sym here) uses

  pub for_labels : next_label s < 2 ^ 32 → first_of_for h + length h.args.now < 2 ^ 32
  for_labels low =
      let item = ready.room.item in
      let indices = ready.room.indices in
      omega (arith, here, low, item, indices)

  module _ (c : Table) (begun : Grows s c 1) where
    pub for_place : next_label c ≡ h.counter.0 + 1
    for_place = let f = next_later s c 1 begun in omega (arith, f, here)

    pub for_can : CanWalk c (for_inside_labels h body)
    for_can = can_later s c 1 (for_inside_labels h body) (inner_labels (for_of h body) + length results) (omega arith) begun ready

    module _ (u : Table) (rounds : Says c u (for_inside_labels h body) (Rounds (loop_of_for h body) (InsideFor c.conditions.items h body) round_limit)) where
      all : Grows s u (1 + for_inside_labels h body)
      all = grows_on s c u 1 (for_inside_labels h body) begun rounds.grows

      pub for_end : CanWalk u (length results)
      for_end = can_later s u (1 + for_inside_labels h body) (length results) (inner_labels (for_of h body) + length results) (omega arith) all ready

      pub for_index : (at : ℕ) → at ≡ length s.here.items → at < length u.here.items
      for_index at e = let longer = all.longer in omega (arith, longer, e)

      pub for_label : (at : ℕ) → at ≡ length s.here.items → h.counter.0 ≡ label_at u.func (length u.items) at
      for_label at e = let func = all.same.func in let items = all.same.items in here ∙ rw (func, items, e) refl

      pub for_counter : IsCounter (facts_of c) (next_label s) → IsCounter (facts_of u) h.counter.0
      for_counter k =
          let f = next_later s c 1 begun in
          subst (IsCounter (facts_of u)) (sym here) (sym (rounds.grows.stay.exprs (next_label s) (omega (arith, f))) ∙ k.0, sym (rounds.grows.stay.roles (next_label s) (omega (arith, f))) ∙ k.1)

      pub for_arguments : length results ≤ length h.args.now → first_of_for h + length results ≤ next_label u
      for_arguments few = let f = next_later s u (1 + for_inside_labels h body) all in omega (arith, f, here, few)

      pub for_said : (w : Table) → IsCounter (facts_of c) (next_label s) → EndsFor u.conditions.items h results u w → SaysKind s w (for_of h body) results
      for_said w k ends =
          let at = next_label s in
          let v = ends.settled in
          let args = h.args.now in
          let many = for_inside_labels h body in
          let conditions = s.conditions.items in
          let rounds2 : Says c u many (Rounds (loop_of_for h body) (InsideFor conditions h body) round_limit) =
          subst (λ ls. Says c u many (Rounds (loop_of_for h body) (InsideFor ls h body) round_limit)) begun.same.conditions rounds in
          let rounds3 : Says c u many (Rounds (for_loop at args h.inits.now (ends_of body)) (IsForInside conditions at h.lower h.step h.iv.now (at + 2 + length args) (rows_of body)) round_limit) =
          subst (λ l. Says c u many (Rounds (for_loop l args h.inits.now (ends_of body)) (IsForInside conditions l h.lower h.step h.iv.now (l + 2 + length args) (rows_of body)) round_limit)) here rounds2 in
          let settles : Settles u v at ends.turns = subst (λ l. Settles u v l ends.turns) here ends.settles in
          let counted : AreComparedTurns at Slt ((facts_of u).expr (at + 1)) ((facts_of u).expr h.upper.0) ends.turns =
          subst (λ l. AreComparedTurns l Slt ((facts_of u).expr (l + 1)) ((facts_of u).expr h.upper.0) ends.turns) here ends.counted in
          let carried2 : Says v w (length results) (λ F. AreCarried F u.conditions.items at (at + 2) (next_label v) results) =
          subst (λ l. Says v w (length results) (λ F. AreCarried F u.conditions.items l (l + 2) (next_label v) results)) here ends.carried in
          let carried3 : Says v w (length results) (λ F. AreCarried F conditions at (at + 2) (next_label v) results) =
          subst (λ ls. Says v w (length results) (λ F. AreCarried F ls at (at + 2) (next_label v) results)) all.same.conditions carried2 in
          says_for conditions h.lower h.upper h.step h.iv.now args h.inits.now (rows_of body) (ends_of body) results s c u v w ends.turns uses ready.conditions begun k.1 rounds3 settles counted carried3

-- ---- the rounds of an `scf.for`

module _ (s : Table) (h : ForHead) (body : Region) (ready : CanWalk s (for_inside_labels h body)) (place : next_label s ≡ h.counter.0 + 1) (uses : DoesUseBelow (for_of h body) h.counter.0) where
  pub round_room : HasRoom s (1 + length h.args.now)
  round_room = room_less s (for_inside_labels h body) (1 + length h.args.now) (omega arith) ready.room

  module _ (t : Table) (begun : Grows s t (1 + length h.args.now)) where
    pub body_can : CanWalk t (labels_of (rows_of body))
    body_can = can_later s t (1 + length h.args.now) (labels_of (rows_of body)) (for_inside_labels h body) (omega arith) begun ready

    pub body_uses : DoUseBelow (rows_of body) (next_label t)
    body_uses =
        let f = next_later s t (1 + length h.args.now) begun in
        let e : h.counter.0 + 2 + length h.args.now ≡ next_label t = omega (arith, f, place) in
        subst (DoUseBelow (rows_of body)) e uses.1

  abbrev pub SaysRounds : ℕ → Table → Type 0
  SaysRounds k u = Says s u (for_inside_labels h body) (Rounds (loop_of_for h body) (InsideFor s.conditions.items h body) k)

  pub round_first : (t u : Table) → Says s t (1 + length h.args.now) (HasVariable h (λ F. AreOwn F (first_of_for h) (arg_types h.args.now))) → SaysOps t u (rows_of body) → SaysRounds 0 u
  round_first t u a b =
      says_for_first s.conditions.items h.counter.0 h.lower h.upper h.step h.iv.now h.args.now h.inits.now (rows_of body) (ends_of body) s t u place uses a
      (ops_under t u s.conditions.items (rows_of body) a.grows.same.conditions b)

  module _ (k : ℕ) (old : Table) (rounds : SaysRounds k old) (len : ℕ) (count : len ≡ length s.here.items) where
    pub round_begins : Begins s old len h.counter.0
    round_begins = record { many = for_inside_labels h body; grows = rounds.grows; count = sym count; place = place }

    pub round_begun : HasBegun old len h.counter.0 (1 + length h.args.now)
    round_begun = (s, round_begins, round_room)

    pub round_next : (t u : Table) → GoesOnFor h (ends_of body) s old t true → SaysOps t u (rows_of body) → SaysRounds (k + 1) u
    round_next t u a b =
        let e : suc k ≡ k + 1 = omega arith in
        subst (λ n. SaysRounds n u) e
        (says_for_next s.conditions.items h.counter.0 h.lower h.upper h.step h.iv.now h.args.now h.inits.now (rows_of body) (ends_of body) s t u k (for_inside_labels h body) old place uses rounds a
        (ops_under t u s.conditions.items (rows_of body) a.grows.same.conditions b))

    rounds_still : (t : Table) → k ≤ round_limit → GoesOnFor h (ends_of body) s old t false → SaysRounds round_limit t
    rounds_still t le still =
        subst (SaysRounds round_limit) (sym still.0)
        record { grows = rounds.grows; facts = still_rounds (loop_of_for h body) (InsideFor s.conditions.items h body) k (facts_of old) le still.1 rounds.facts }

    pub rounds_more : (t u : Table) (ends : List Label) (more : Bool) → ends ≡ ends_of body → more ≡ true → GoesOnFor h ends s old t more → SaysOps t u (rows_of body) → SaysRounds (k + 1) u
    rounds_more t u ends true e test a b = round_next t u (subst (λ ls. GoesOnFor h ls s old t true) e a) b
    rounds_more t u ends false e test a b = absurd (cc)

    pub more_grows : (t : Table) (ends : List Label) (more : Bool) → more ≡ true → GoesOnFor h ends s old t more → Grows s t (1 + length h.args.now)
    more_grows t ends true test a = a.grows
    more_grows t ends false test a = absurd (cc)

    pub rounds_end : (t : Table) (ends : List Label) (more : Bool) → ends ≡ ends_of body → more ≡ false → k ≤ round_limit → GoesOnFor h ends s old t more → SaysRounds round_limit t
    rounds_end t ends true e test le a = absurd (cc)
    rounds_end t ends false e test le a = rounds_still t le (subst (λ ls. GoesOnFor h ls s old t false) e a)

-- ---- `scf.while`, around its rounds

module _ (s : Table) (h : WhileHead) (before after : Region) (results : List IrType) (here : h.counter.0 ≡ next_label s) (ready : CanWalk s (inner_labels (while_of h before after) + length results))
    (uses : DoesUseBelow (while_of h before after) (next_label s)) where
  pub while_uses : DoesUseBelow (while_of h before after) h.counter.0
  while_uses = subst (DoesUseBelow (while_of h before after)) (sym here) uses

  pub while_labels : next_label s < 2 ^ 32 → first_of_while h + length h.args.now < 2 ^ 32
  while_labels low =
      let item = ready.room.item in
      let indices = ready.room.indices in
      omega (arith, here, low, item, indices)

  module _ (c : Table) (begun : Grows s c 1) where
    pub while_place : next_label c ≡ h.counter.0 + 1
    while_place = let f = next_later s c 1 begun in omega (arith, f, here)

    pub while_can : CanWalk c (while_inside_labels h before after)
    while_can = can_later s c 1 (while_inside_labels h before after) (inner_labels (while_of h before after) + length results) (omega arith) begun ready

    module _ (u : Table) (rounds : Says c u (while_inside_labels h before after) (Rounds (loop_of_while h after) (InsideWhile c.conditions.items h before after) round_limit)) where
      whole : Grows s u (1 + while_inside_labels h before after)
      whole = grows_on s c u 1 (while_inside_labels h before after) begun rounds.grows

      pub while_end : CanWalk u (length results)
      while_end = can_later s u (1 + while_inside_labels h before after) (length results) (inner_labels (while_of h before after) + length results) (omega arith) whole ready

      pub while_index : (at : ℕ) → at ≡ length s.here.items → at < length u.here.items
      while_index at e = let longer = whole.longer in omega (arith, longer, e)

      pub while_label : (at : ℕ) → at ≡ length s.here.items → h.counter.0 ≡ label_at u.func (length u.items) at
      while_label at e = let func = whole.same.func in let items = whole.same.items in here ∙ rw (func, items, e) refl

      pub while_counter : IsCounter (facts_of c) (next_label s) → IsCounter (facts_of u) h.counter.0
      while_counter k =
          let f = next_later s c 1 begun in
          subst (IsCounter (facts_of u)) (sym here) (sym (rounds.grows.stay.exprs (next_label s) (omega (arith, f))) ∙ k.0, sym (rounds.grows.stay.roles (next_label s) (omega (arith, f))) ∙ k.1)

      pub while_passed : AreBelow (ends_of before) (next_label u)
      while_passed =
          let f = next_later s u (1 + while_inside_labels h before after) whole in
          uses_more (ends_of before) (next_label s + 1 + length h.args.now + labels_of (rows_of before)) (next_label u) (omega (arith, f)) uses.2.1

      pub while_said : (w : Table) (passed : List Label) → passed ≡ ends_of before → IsCounter (facts_of c) (next_label s) → EndsWhile u.conditions.items h passed results u w → SaysKind s w (while_of h before after) results
      while_said w passed e k ends =
          let at = next_label s in
          let v = ends.settled in
          let args = h.args.now in
          let many = while_inside_labels h before after in
          let conditions = s.conditions.items in
          let rounds2 : Says c u many (Rounds (loop_of_while h after) (InsideWhile conditions h before after) round_limit) =
          subst (λ ls. Says c u many (Rounds (loop_of_while h after) (InsideWhile ls h before after) round_limit)) begun.same.conditions rounds in
          let rounds3 : Says c u many (Rounds (while_loop at args h.inits.now (ends_of after)) (IsWhileInside conditions (at + 1 + length args) (rows_of before) (ends_of before) h.params.now (rows_of after)) round_limit) =
          subst (λ l. Says c u many (Rounds (while_loop l args h.inits.now (ends_of after)) (IsWhileInside conditions (l + 1 + length args) (rows_of before) (ends_of before) h.params.now (rows_of after)) round_limit)) here rounds2 in
          let settles : Settles u v at ends.turns = subst (λ l. Settles u v l ends.turns) here ends.settles in
          let counted : IsTested (facts_of u) at (number_in ((facts_of u).expr h.cond.0).p) ((facts_of u).role h.cond.0) ends.turns =
          subst (λ l. IsTested (facts_of u) l (number_in ((facts_of u).expr h.cond.0).p) ((facts_of u).role h.cond.0) ends.turns) here ends.counted in
          let carried1 : Says v w (length results) (λ F. ArePassedOn F u.conditions.items h.counter.0 (ends_of before) (next_label v) results) =
          subst (λ ls. Says v w (length results) (λ F. ArePassedOn F u.conditions.items h.counter.0 ls (next_label v) results)) e ends.carried in
          let carried2 : Says v w (length results) (λ F. ArePassedOn F u.conditions.items at (ends_of before) (next_label v) results) =
          subst (λ l. Says v w (length results) (λ F. ArePassedOn F u.conditions.items l (ends_of before) (next_label v) results)) here carried1 in
          let carried3 : Says v w (length results) (λ F. ArePassedOn F conditions at (ends_of before) (next_label v) results) =
          subst (λ ls. Says v w (length results) (λ F. ArePassedOn F ls at (ends_of before) (next_label v) results)) whole.same.conditions carried2 in
          says_while conditions args h.inits.now (rows_of before) (ends_of before) h.cond h.params.now (rows_of after) (ends_of after) results s c u v w ends.turns uses ready.conditions begun k.1 rounds3 settles counted carried3

-- ---- both regions of an `scf.while`

module _ (t : Table) (h : WhileHead) (before after : Region) (ready : CanWalk t (labels_of (rows_of before) + (length h.params.now + labels_of (rows_of after))))
    (place : next_label t ≡ h.counter.0 + 1 + length h.args.now) (uses : DoesUseBelow (while_of h before after) h.counter.0) where
  pub before_can : CanWalk t (labels_of (rows_of before))
  before_can = can_less t (labels_of (rows_of before)) (labels_of (rows_of before) + (length h.params.now + labels_of (rows_of after))) (omega arith) ready

  pub before_uses : DoUseBelow (rows_of before) (next_label t)
  before_uses = subst (DoUseBelow (rows_of before)) (sym place) uses.1

  module _ (b : Table) (first : SaysOps t b (rows_of before)) where
    pub params_can : CanWalk b (length h.params.now + labels_of (rows_of after))
    params_can =
        can_later t b (labels_of (rows_of before)) (length h.params.now + labels_of (rows_of after)) (labels_of (rows_of before) + (length h.params.now + labels_of (rows_of after))) (omega arith) first.grows ready

    pub params_room : HasRoom b (length h.params.now)
    params_room = room_less b (length h.params.now + labels_of (rows_of after)) (length h.params.now) (omega arith) params_can.room

    pub passed_below : (passed : List Label) → passed ≡ ends_of before → AreBelow passed (next_label b)
    passed_below passed e =
        let f = next_later t b (labels_of (rows_of before)) first.grows in
        subst (λ ls. AreBelow ls (next_label b)) (sym e) (uses_more (ends_of before) (h.counter.0 + 1 + length h.args.now + labels_of (rows_of before)) (next_label b) (omega (arith, f, place)) uses.2.1)

    module _ (d : Table) (passed : List Label) (same : passed ≡ ends_of before) (params : Says b d (length h.params.now) (λ F. ArePassed F (next_label b) (arg_types h.params.now) passed)) where
      pub after_can : CanWalk d (labels_of (rows_of after))
      after_can = can_later b d (length h.params.now) (labels_of (rows_of after)) (length h.params.now + labels_of (rows_of after)) (omega arith) params.grows params_can

      pub after_uses : DoUseBelow (rows_of after) (next_label d)
      after_uses =
          let f = next_later t b (labels_of (rows_of before)) first.grows in
          let f2 = next_later b d (length h.params.now) params.grows in
          let e : h.counter.0 + 1 + length h.args.now + labels_of (rows_of before) + length h.params.now ≡ next_label d = omega (arith, f, f2, place) in
          subst (DoUseBelow (rows_of after)) e uses.3

      pub regions_said : (u : Table) → SaysOps d u (rows_of after) → WalksRegions t.conditions.items h before after t u
      regions_said u second = record {
        b = b;
        d = d;
        first = first;
        params = subst (λ ls. Says b d (length h.params.now) (λ F. ArePassed F (next_label b) (arg_types h.params.now) ls)) same params;
        second = ops_under d u t.conditions.items (rows_of after) (params.grows.same.conditions ∙ first.grows.same.conditions) second;
      }

-- ---- the rounds of an `scf.while`

module _ (s : Table) (h : WhileHead) (before after : Region) (ready : CanWalk s (while_inside_labels h before after)) (place : next_label s ≡ h.counter.0 + 1) (uses : DoesUseBelow (while_of h before after) h.counter.0) where
  pub turn_room : HasRoom s (length h.args.now)
  turn_room = room_less s (while_inside_labels h before after) (length h.args.now) (omega arith) ready.room

  module _ (t : Table) (begun : Grows s t (length h.args.now)) where
    pub regions_can : CanWalk t (labels_of (rows_of before) + (length h.params.now + labels_of (rows_of after)))
    regions_can = can_later s t (length h.args.now) (labels_of (rows_of before) + (length h.params.now + labels_of (rows_of after))) (while_inside_labels h before after) (omega arith) begun ready

    pub regions_place : next_label t ≡ h.counter.0 + 1 + length h.args.now
    regions_place = let f = next_later s t (length h.args.now) begun in omega (arith, f, place)

  abbrev pub SaysTurns : ℕ → Table → Type 0
  SaysTurns k u = Says s u (while_inside_labels h before after) (Rounds (loop_of_while h after) (InsideWhile s.conditions.items h before after) k)

  module _ (t u : Table) (begun : Grows s t (length h.args.now)) (r : WalksRegions t.conditions.items h before after t u) where
    walked : WalksRegions s.conditions.items h before after t u
    walked = subst (λ ls. WalksRegions ls h before after t u) begun.same.conditions r

    turn : Turn s.conditions.items h.counter.0 h.args.now h.inits.now (rows_of before) (ends_of before) h.cond h.params.now (rows_of after) (ends_of after) s t walked.b walked.d u
    turn = record {
      begin = place;
      uses = uses;
      below = subst (AreBelow s.conditions.items) place ready.conditions;
      first = walked.first;
      params = walked.params;
      second = walked.second;
    }

    pub turn_first : Says s t (length h.args.now) (λ F. AreOwn F (first_of_while h) (arg_types h.args.now)) → SaysTurns 0 u
    turn_first a =
        says_while_first s.conditions.items h.counter.0 h.args.now h.inits.now (rows_of before) (ends_of before) h.cond h.params.now (rows_of after) (ends_of after) s t walked.b walked.d u turn a

    turn_next : (k : ℕ) (old : Table) → SaysTurns k old → GoesOnWhile h (ends_of after) s old t true → SaysTurns (k + 1) u
    turn_next k old earlier a =
        let e : suc k ≡ k + 1 = omega arith in
        subst (λ n. SaysTurns n u) e
        (says_while_next s.conditions.items h.counter.0 h.args.now h.inits.now (rows_of before) (ends_of before) h.cond h.params.now (rows_of after) (ends_of after) s t walked.b walked.d u
        k (while_inside_labels h before after) old turn earlier a)

  module _ (k : ℕ) (old : Table) (rounds : SaysTurns k old) (len : ℕ) (count : len ≡ length s.here.items) where
    pub turn_begins : Begins s old len h.counter.0
    turn_begins = record { many = while_inside_labels h before after; grows = rounds.grows; count = sym count; place = place }

    pub turn_begun : HasBegun old len h.counter.0 (length h.args.now)
    turn_begun = (s, turn_begins, turn_room)

    pub turns_further : (t u : Table) → GoesOnWhile h (ends_of after) s old t true → WalksRegions t.conditions.items h before after t u → SaysTurns (k + 1) u
    turns_further t u a r = turn_next t u a.grows r k old rounds a

    turns_still : (t : Table) → k ≤ round_limit → GoesOnWhile h (ends_of after) s old t false → SaysTurns round_limit t
    turns_still t le still =
        subst (SaysTurns round_limit) (sym still.0)
        record { grows = rounds.grows; facts = still_rounds (loop_of_while h after) (InsideWhile s.conditions.items h before after) k (facts_of old) le still.1 rounds.facts }

    pub turns_more : (t u : Table) (ends : List Label) (more : Bool) → ends ≡ ends_of after → more ≡ true → GoesOnWhile h ends s old t more → WalksRegions t.conditions.items h before after t u → SaysTurns (k + 1) u
    turns_more t u ends true e test a b = turns_further t u (subst (λ ls. GoesOnWhile h ls s old t true) e a) b
    turns_more t u ends false e test a b = absurd (cc)

    pub turn_grows_more : (t : Table) (ends : List Label) (more : Bool) → more ≡ true → GoesOnWhile h ends s old t more → Grows s t (length h.args.now)
    turn_grows_more t ends true test a = a.grows
    turn_grows_more t ends false test a = absurd (cc)

    pub turns_end : (t : Table) (ends : List Label) (more : Bool) → ends ≡ ends_of after → more ≡ false → k ≤ round_limit → GoesOnWhile h ends s old t more → SaysTurns round_limit t
    turns_end t ends true e test le a = absurd (cc)
    turns_end t ends false e test le a = turns_still t le (subst (λ ls. GoesOnWhile h ls s old t false) e a)
