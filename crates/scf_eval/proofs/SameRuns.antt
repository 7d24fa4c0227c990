-- Segments of two runs that are the same, put together.
use Rattle.std.proofs.Common.{◌≡◌, ℕ, suc, ◌+◌, ◌-◌, ◌==◌, ◌⊎◌, inl, inr, Bool, true, false, List, [], ◌∷◌, ◌++◌, length, refl, ap, ◌∙◌, subst, arith, Option, Some, None, if◌then◌else◌}
use Rattle.std.specs.List.{list_all}
use Rattle.std.specs.Option.{option_or}
use Rattle.std.proofs.lemmas.Bool.{and_parts}
use Rattle.arith_word.specs.declared.label.Label.{Label}
use Rattle.mlir_ir.specs.declared.types.IrType.{IrType}
use Rattle.mlir_ir.specs.Runs.{Number, Binding, Iteration, State, Stop, Cut, End, Done, Stopped, Report, arrived, defined, left, Segment, look, numbers_of, binds, end_then, reports_then, run_then, stops, definitions, defines, tick, hands, arrives}
use Rattle.mlir_ir.specs.Typed.{Types, typed_from, with_types, knows}
use Rattle.scf_eval.specs.InScope.{SameInScope, SameEnd, SameReport, SameReports, SameRun}
use Rattle.scf_eval.proofs.Scopes.{if_some, known_is}

-- ---- scopes

-- a scope knows no more than another
abbrev pub Knows : Types → Types → Type 0
Knows U T = (label : ℕ) (ty : IrType) → T label ≡ Some ty → U label ≡ Some ty

pub same_less : (T U : Types) (env other : List Binding) → Knows U T → SameInScope U env other → SameInScope T env other
same_less T U env other k h label ty e = h label ty (k label ty e)

reports_less : (T U : Types) (rs qs : List Report) → Knows U T → SameReports U rs qs → SameReports T rs qs
reports_less T U [] [] k h = tt
reports_less T U [] (q ∷ qs) k h = absurd h
reports_less T U (r ∷ rs) [] k h = absurd h
reports_less T U (r ∷ rs) (q ∷ qs) k h = (one r q h.0, reports_less T U rs qs k h.1) where
  one : (r q : Report) → SameReport U r q → SameReport T r q
  one (arrived at env around) (arrived place other turns) h = (h.0, h.1, same_less T U env other k h.2)
  one (defined label n env around) (defined place m other turns) h = (h.0, h.1, h.2, same_less T U env other k h.3)
  one (left loop n env around) (left place m other turns) h = (h.0, h.1, h.2, same_less T U env other k h.3)
  one (arrived at env around) (defined place m other turns) h = absurd h
  one (arrived at env around) (left place m other turns) h = absurd h
  one (defined label n env around) (arrived place other turns) h = absurd h
  one (defined label n env around) (left place m other turns) h = absurd h
  one (left loop n env around) (arrived place other turns) h = absurd h
  one (left loop n env around) (defined place m other turns) h = absurd h

end_less : (T U : Types) (a b : End) → Knows U T → SameEnd U a b → SameEnd T a b
end_less T U (Done env s) (Done other t) k h = (same_less T U env other k h.0, h.1)
end_less T U (Stopped stop trace) (Stopped why events) k h = h
end_less T U (Done env s) (Stopped why events) k h = absurd h
end_less T U (Stopped stop trace) (Done other t) k h = absurd h

-- of a segment that begins in a scope which knows more
pub begins_less : (T U V : Types) (r q : Segment) → Knows U T → SameRun U V r q → SameRun T V r q
begins_less T U V r q k h = record { end = h.end; reports = reports_less T U r.reports q.reports k h.reports }

pub ends_less : (T U V : Types) (r q : Segment) → Knows V U → SameRun T V r q → SameRun T U r q
ends_less T U V r q k h = record { end = end_less U V r.end q.end k h.end; reports = h.reports }

-- ---- numbers

pub same_look : (T : Types) (env other : List Binding) (l : Label) → SameInScope T env other → knows T l ≡ true
    → look env l.0 ≡ look other l.0
same_look T env other l h k = let t = known_is (T l.0) k in h l.0 t.0 t.1

pub same_numbers : (T : Types) (env other : List Binding) (ls : List Label) → SameInScope T env other
    → list_all (knows T) ls ≡ true → numbers_of env ls ≡ numbers_of other ls
same_numbers T env other [] h k = refl
same_numbers T env other (l ∷ ls) h k =
    let p = and_parts (knows T l) (list_all (knows T) ls) k in
    let a : look env l.0 ≡ look other l.0 = same_look T env other l h p.0 in
    let b : numbers_of env ls ≡ numbers_of other ls = same_numbers T env other ls h p.1 in
    rw (a, b) refl

pub numbers_length : (env : List Binding) (ls : List Label) → length (numbers_of env ls) ≡ length ls
numbers_length env [] = refl
numbers_length env (l ∷ ls) = ap (λ n. suc n) (numbers_length env ls)

-- ---- values that are bound

look_bound : (at : ℕ) (ns : List Number) (env other : List Binding) (l : ℕ) → look env l ≡ look other l
    → look (binds at ns env) l ≡ look (binds at ns other) l
look_bound at [] env other l h = h
look_bound at (n ∷ ns) env other l h =
    look_bound (at + 1) ns (record { label = at; number = n } ∷ env) (record { label = at; number = n } ∷ other) l
    (ap (λ m. if at == l then n else m) h)

look_typed : (at : ℕ) (tys : List IrType) (ns : List Number) (env other : List Binding) (l : ℕ) (ty : IrType)
    → length ns ≡ length tys → typed_from at tys l ≡ Some ty → look (binds at ns env) l ≡ look (binds at ns other) l
look_typed at [] ns env other l ty size e = absurd cc
look_typed at (t ∷ tys) [] env other l ty size e = absurd (omega arith)
look_typed at (t ∷ tys) (n ∷ ns) env other l ty size e =
    let env1 : List Binding = record { label = at; number = n } ∷ env in
    let other1 : List Binding = record { label = at; number = n } ∷ other in
    elim (if_some (at == l) t ty (typed_from (at + 1) tys l) e) as (λ _. look (binds (at + 1) ns env1) l ≡ look (binds (at + 1) ns other1) l) [
      | inl h ↦ look_bound (at + 1) ns env1 other1 l (rw h.0 refl)
      | inr h ↦ look_typed (at + 1) tys ns env1 other1 l ty (omega arith) h.1
    ]

either_known : (x y : Option IrType) (ty : IrType) → option_or x y ≡ Some ty → (x ≡ Some ty) ⊎ (y ≡ Some ty)
either_known (Some t) y ty e = inl e
either_known None y ty e = inr e

-- the same numbers are bound
pub same_binds : (T : Types) (at : ℕ) (tys : List IrType) (ns : List Number) (env other : List Binding)
    → SameInScope T env other → length ns ≡ length tys
    → SameInScope (with_types T at tys) (binds at ns env) (binds at ns other)
same_binds T at tys ns env other h size label ty e =
    elim (either_known (T label) (typed_from at tys label) ty e) as (λ _. look (binds at ns env) label ≡ look (binds at ns other) label) [
      | inl k ↦ look_bound at ns env other label (h label ty k)
      | inr k ↦ look_typed at tys ns env other label ty size k
    ]

pub same_definitions : (T : Types) (at : ℕ) (ns : List Number) (around : List Iteration) (env other : List Binding)
    → SameInScope T env other → SameReports T (definitions at ns around env) (definitions at ns around other)
same_definitions T at [] around env other h = tt
same_definitions T at (n ∷ ns) around env other h =
    let more : SameInScope T (record { label = at; number = n } ∷ env) (record { label = at; number = n } ∷ other) =
    λ label ty e. ap (λ m. if at == label then n else m) (h label ty e) in
    ((refl, refl, refl, more), same_definitions T (at + 1) ns around (record { label = at; number = n } ∷ env) (record { label = at; number = n } ∷ other) more)

pub same_defines : (T : Types) (at : ℕ) (tys : List IrType) (ns ms : List Number) (around : List Iteration)
    (env other : List Binding) (s : State) → SameInScope T env other → ns ≡ ms → length ns ≡ length tys
    → SameRun T (with_types T at tys) (defines at ns around env s) (defines at ms around other s)
same_defines T at tys ns ms around env other s h e size =
    subst (λ ks. SameRun T (with_types T at tys) (defines at ns around env s) (defines at ks around other s)) e (record {
      end = (same_binds T at tys ns env other h size, refl);
      reports = same_definitions T at ns around env other h;
    })

-- ---- segments

pub same_stops : (T V : Types) (stop : Stop) (s : State) → SameRun T V (stops stop s) (stops stop s)
same_stops T V stop s = record { end = (refl, refl); reports = tt }

reports_append : (T : Types) (rs qs ts us : List Report) → SameReports T rs qs → SameReports T ts us
    → SameReports T (rs ++ ts) (qs ++ us)
reports_append T [] [] ts us h g = g
reports_append T [] (q ∷ qs) ts us h g = absurd h
reports_append T (r ∷ rs) [] ts us h g = absurd h
reports_append T (r ∷ rs) (q ∷ qs) ts us h g = (h.0, reports_append T rs qs ts us h.1 g)

-- what follows is the same from values in scope that are the same
abbrev pub Follows : Types → Types → Types → (List Binding → State → Segment) → (List Binding → State → Segment) → Type 0
Follows T U V go back = (env other : List Binding) (s : State) → SameInScope U env other → SameRun T V (go env s) (back other s)

end_same : (T U V : Types) (a b : End) (go back : List Binding → State → Segment) → SameEnd U a b → Follows T U V go back
    → SameEnd V (end_then a (λ env s. (go env s).end)) (end_then b (λ env s. (back env s).end))
end_same T U V (Done env s) (Done other t) go back h f =
    subst (λ x. SameEnd V (go env s).end (back other x).end) h.1 (f env other s h.0).end
end_same T U V (Stopped stop trace) (Stopped why events) go back h f = h
end_same T U V (Done env s) (Stopped why events) go back h f = absurd h
end_same T U V (Stopped stop trace) (Done other t) go back h f = absurd h

reports_same : (T U V : Types) (a b : End) (go back : List Binding → State → Segment) → SameEnd U a b
    → Follows T U V go back
    → SameReports T (reports_then a (λ env s. (go env s).reports)) (reports_then b (λ env s. (back env s).reports))
reports_same T U V (Done env s) (Done other t) go back h f =
    subst (λ x. SameReports T (go env s).reports (back other x).reports) h.1 (f env other s h.0).reports
reports_same T U V (Stopped stop trace) (Stopped why events) go back h f = tt
reports_same T U V (Done env s) (Stopped why events) go back h f = absurd h
reports_same T U V (Stopped stop trace) (Done other t) go back h f = absurd h

pub same_then : (T U V : Types) (r q : Segment) (go back : List Binding → State → Segment) → SameRun T U r q
    → Follows T U V go back → SameRun T V (run_then r go) (run_then q back)
same_then T U V r q go back h f = record {
  end = end_same T U V r.end q.end go back h.end f;
  reports = reports_append T r.reports q.reports _ _ h.reports (reports_same T U V r.end q.end go back h.end f);
}

pub same_if : (T V : Types) (c d : Bool) (x y z w : Segment) → c ≡ d → (c ≡ true → SameRun T V x z)
    → (c ≡ false → SameRun T V y w) → SameRun T V (if c then x else y) (if d then z else w)
same_if T V c d x y z w e h g = subst (λ b. SameRun T V (if c then x else y) (if b then z else w)) e (of c h g) where
  of : (c : Bool) → (c ≡ true → SameRun T V x z) → (c ≡ false → SameRun T V y w)
      → SameRun T V (if c then x else y) (if c then z else w)
  of true h g = h refl
  of false h g = g refl

pub same_tick : (T V : Types) (s : State) (go back : State → Segment) → ((t : State) → SameRun T V (go t) (back t))
    → SameRun T V (tick s go) (tick s back)
same_tick T V s go back f =
    same_if T V (s.budget == 0) (s.budget == 0) (stops Cut s) (go (record s { budget = s.budget - 1 })) (stops Cut s)
    (back (record s { budget = s.budget - 1 })) refl (λ _. same_stops T V Cut s) (λ _. f (record s { budget = s.budget - 1 }))

pub same_hands : (T U : Types) (at : ℕ) (tys : List IrType) (ends : List Label) (around : List Iteration)
    (env other : List Binding) (r q : Segment) → SameInScope T env other → list_all (knows U) ends ≡ true
    → length ends ≡ length tys → SameRun T U r q
    → SameRun T (with_types T at tys) (hands at ends around env r) (hands at ends around other q)
same_hands T U at tys ends around env other r q h known size g =
    same_then T U (with_types T at tys) r q (λ inner s. defines at (numbers_of inner ends) around env s)
    (λ inner s. defines at (numbers_of inner ends) around other s) g
    (λ inner outer s k. same_defines T at tys (numbers_of inner ends) (numbers_of outer ends) around env other s h
    (same_numbers U inner outer ends k known) (numbers_length inner ends ∙ size))

pub same_arrives : (T V : Types) (at : ℕ) (around : List Iteration) (env other : List Binding) (r q : Segment)
    → SameInScope T env other → SameRun T V r q → SameRun T V (arrives at around env r) (arrives at around other q)
same_arrives T V at around env other r q h g = record { end = g.end; reports = ((refl, refl, h), g.reports) }
