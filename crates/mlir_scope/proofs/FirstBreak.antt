-- The break that is kept is the one that counts.
use Rattle.std.proofs.Common.{suc, nat_lt, nat_le, ◌≡◌, ℕ, ◌||◌, ◌&&◌, ◌==◌, ◌⊎◌, inl, inr, List, [], ◌∷◌, All, Contains, Bool, true, false, Some, None, if◌then◌else◌, refl, ap, sym, subst, arith}
use Rattle.std.proofs.lemmas.Bool.Decides.{nat_tests}
use Rattle.std.proofs.lemmas.List.Elements.{All-cons}
use Rattle.mlir_ir.specs.ScopeFaults.{Break, IsFirstBreak, counts_before, rank}
use Rattle.mlir_scope.specs.Noted.{noted, as_break, as_fault}
use Rattle.mlir_scope.specs.declared.first.ScopeFault.{ScopeFault}

abbrev pub ahead_of : ℕ → ℕ → ℕ → ℕ → Bool
ahead_of a r b s = nat_lt a b || a == b && nat_le r s

self_ahead : (a r : ℕ) → ahead_of a r a r ≡ true
self_ahead a r = grind (arith, nat_tests)

all_ahead : (a r b s c t : ℕ) → ahead_of a r b s ≡ true → ahead_of b s c t ≡ true → ahead_of a r c t ≡ true
all_ahead a r b s c t h g = grind (arith, nat_tests)

pub other_ahead : (a r b s : ℕ) → ahead_of a r b s ≡ false → ahead_of b s a r ≡ true
other_ahead a r b s h = grind (arith, nat_tests)

pub before_all : (a b c : Break) → counts_before a b ≡ true → counts_before b c ≡ true → counts_before a c ≡ true
before_all a b c h g = all_ahead a.at (rank a.kind) b.at (rank b.kind) c.at (rank c.kind) h g

-- a break is one of these or that one, and counts before all of them
record Kept (start : Break) (breaks : List Break) (b : Break) : Type 0 where
  from : (b ≡ start) ⊎ Contains breaks b
  ahead : counts_before b start ≡ true
  first : All (λ other. counts_before b other ≡ true) breaks

contained_more : (b c : Break) (breaks : List Break) → Contains breaks b → Contains (c ∷ breaks) b
contained_more b c breaks h = (suc h.0, omega arith, h.2)

contained_first : (b c : Break) (breaks : List Break) → b ≡ c → Contains (c ∷ breaks) b
contained_first b c breaks e = (0, omega arith, sym e)

kept_step : (f : ScopeFault) (b : Break) (breaks : List Break) (g : ScopeFault)
    → ((h : ScopeFault) → noted (Some h) breaks ≡ Some g → Kept (as_break h) breaks (as_break g))
    → (t : Bool) → counts_before (as_break f) b ≡ t → noted (if t then Some f else Some (as_fault b)) breaks ≡ Some g → Kept (as_break f) (b ∷ breaks) (as_break g)
kept_step f b breaks g later true e is =
    let k = later f is in
    record {
      from = elim k.from [ inl same ↦ inl same | inr there ↦ inr (contained_more (as_break g) b breaks there) ];
      ahead = k.ahead;
      first = All-cons (λ other. counts_before (as_break g) other ≡ true) b breaks (before_all (as_break g) (as_break f) b k.ahead e) k.first;
    }
kept_step f b breaks g later false e is =
    let k = later (as_fault b) is in
    record {
      from = elim k.from [ inl same ↦ inr (contained_first (as_break g) b breaks same) | inr there ↦ inr (contained_more (as_break g) b breaks there) ];
      ahead = before_all (as_break g) b (as_break f) k.ahead (other_ahead f.token (rank f.kind) b.at (rank b.kind) e);
      first = All-cons (λ other. counts_before (as_break g) other ≡ true) b breaks k.ahead k.first;
    }

kept : (f : ScopeFault) (breaks : List Break) (g : ScopeFault) → noted (Some f) breaks ≡ Some g → Kept (as_break f) breaks (as_break g)
kept f [] g is =
    let same : f ≡ g = cc in
    record {
      from = inl (ap as_break (sym same));
      ahead = subst (λ (h : ScopeFault). counts_before (as_break h) (as_break f) ≡ true) same (self_ahead f.token (rank f.kind));
      first = λ k d h. absurd (omega arith);
    }
kept f (b ∷ breaks) g is = kept_step f b breaks g (λ h more. kept h breaks g more) (counts_before (as_break f) b) refl is

some_step : (f : ScopeFault) (b : Break) (breaks : List Break) (t : Bool) → ((h : ScopeFault) → noted (Some h) breaks ≡ None → ⊥) → noted (if t then Some f else Some (as_fault b)) breaks ≡ None → ⊥
some_step f b breaks true later is = later f is
some_step f b breaks false later is = later (as_fault b) is

some_noted : (f : ScopeFault) (breaks : List Break) → noted (Some f) breaks ≡ None → ⊥
some_noted f [] is = cc
some_noted f (b ∷ breaks) is = some_step f b breaks (counts_before (as_break f) b) (λ h more. some_noted h breaks more) is

-- no fault is kept only where nothing is broken
pub none_noted : (breaks : List Break) → noted None breaks ≡ None → breaks ≡ []
none_noted [] is = refl
none_noted (b ∷ breaks) is = absurd (some_noted (as_fault b) breaks is)

-- the fault that is kept counts
pub first_noted : (breaks : List Break) (f : ScopeFault) → noted None breaks ≡ Some f → IsFirstBreak breaks (as_break f)
first_noted [] f is = cc
first_noted (b ∷ breaks) f is =
    let k = kept (as_fault b) breaks f is in
    record {
      among = elim k.from [ inl same ↦ contained_first (as_break f) b breaks same | inr there ↦ contained_more (as_break f) b breaks there ];
      first = All-cons (λ other. counts_before (as_break f) other ≡ true) b breaks k.ahead k.first;
    }
