-- The break that counts is the same in whichever order breaks are noted.
use Rattle.std.proofs.Common.{nat_lt, nat_le, ◌≡◌, ℕ, ◌||◌, ◌&&◌, ◌==◌, List, [], ◌∷◌, ◌++◌, Bool, true, false, Option, Some, None, if◌then◌else◌, refl, ap, ◌∙◌, sym, arith}
use Rattle.std.proofs.lemmas.Bool.Decides.{nat_tests}
use Rattle.mlir_ir.specs.ScopeFaults.{Break, counts_before, rank}
use Rattle.mlir_ir.specs.declared.scope_kind.ScopeKind.{ScopeKind}
use Rattle.mlir_ir.specs.declared.scope_kind.ScopeKind.TheVariants.{Limit, Twice, Unknown, Arity, WrongType}
use Rattle.mlir_scope.specs.Noted.{noted, with_break, as_break, as_fault}
use Rattle.mlir_scope.specs.declared.first.ScopeFault.{ScopeFault}
use Rattle.mlir_scope.proofs.FirstBreak.{ahead_of, before_all, other_ahead}

same_token : (a r b s : ℕ) → ahead_of a r b s ≡ true → ahead_of b s a r ≡ true → a ≡ b
same_token a r b s h g = grind (arith, nat_tests)

same_rank : (a r b s : ℕ) → ahead_of a r b s ≡ true → ahead_of b s a r ≡ true → r ≡ s
same_rank a r b s h g = grind (arith, nat_tests)

abbrev kind_at : ℕ → ScopeKind
kind_at n = if n == 0 then Limit else (if n == 1 then Twice else (if n == 2 then Unknown else (if n == 3 then Arity else WrongType)))

ranked : (k : ScopeKind) → kind_at (rank k) ≡ k
ranked Limit = refl
ranked Twice = refl
ranked Unknown = refl
ranked Arity = refl
ranked WrongType = refl

-- breaks each of which counts before the other
same_fault : (a b : Break) → counts_before a b ≡ true → counts_before b a ≡ true → as_fault a ≡ as_fault b
same_fault a b h g =
    let at : a.at ≡ b.at = same_token a.at (rank a.kind) b.at (rank b.kind) h g in
    let kind : a.kind ≡ b.kind = sym (ranked a.kind) ∙ ap kind_at (same_rank a.at (rank a.kind) b.at (rank b.kind) h g) ∙ ranked b.kind in
    λ i. record { token = at i; kind = kind i }

pair : (a b : Break) (s t : Bool) → counts_before a b ≡ s → counts_before b a ≡ t
    → (if s then Some (as_fault a) else Some (as_fault b)) ≡ (if t then Some (as_fault b) else Some (as_fault a))
pair a b true true h g = ap Some (same_fault a b h g)
pair a b true false h g = refl
pair a b false true h g = refl
pair a b false false h g = let k = other_ahead a.at (rank a.kind) b.at (rank b.kind) h in cc

first_wins : (b : Bool) (x y : Option ScopeFault) → b ≡ true → (if b then x else y) ≡ x
first_wins true x y h = refl
first_wins false x y h = cc

swap_some : (f : ScopeFault) (a b : Break) (s t : Bool) → counts_before (as_break f) a ≡ s → counts_before (as_break f) b ≡ t
    → with_break (if s then Some f else Some (as_fault a)) b ≡ with_break (if t then Some f else Some (as_fault b)) a
swap_some f a b true true h g =
    ap (λ u. if u then Some f else Some (as_fault b)) g ∙ sym (ap (λ u. if u then Some f else Some (as_fault a)) h)
swap_some f a b true false h g =
    ap (λ u. if u then Some f else Some (as_fault b)) g
    ∙ sym (first_wins (counts_before b a) (Some (as_fault b)) (Some (as_fault a)) (before_all b (as_break f) a (other_ahead f.token (rank f.kind) b.at (rank b.kind) g) h))
swap_some f a b false true h g =
    first_wins (counts_before a b) (Some (as_fault a)) (Some (as_fault b)) (before_all a (as_break f) b (other_ahead f.token (rank f.kind) a.at (rank a.kind) h) g)
    ∙ sym (ap (λ u. if u then Some f else Some (as_fault a)) h)
swap_some f a b false false h g = pair a b (counts_before a b) (counts_before b a) refl refl

swap : (o : Option ScopeFault) (a b : Break) → with_break (with_break o a) b ≡ with_break (with_break o b) a
swap None a b = pair a b (counts_before a b) (counts_before b a) refl refl
swap (Some f) a b = swap_some f a b (counts_before (as_break f) a) (counts_before (as_break f) b) refl refl

noted_later : (o : Option ScopeFault) (b : Break) (xs : List Break) → noted (with_break o b) xs ≡ with_break (noted o xs) b
noted_later o b [] = refl
noted_later o b (x ∷ xs) = ap (λ p. noted p xs) (swap o b x) ∙ noted_later (with_break o x) b xs

pub noted_swap : (o : Option ScopeFault) (xs ys : List Break) → noted (noted o xs) ys ≡ noted (noted o ys) xs
noted_swap o xs [] = refl
noted_swap o xs (y ∷ ys) = ap (λ p. noted p ys) (sym (noted_later o y xs)) ∙ noted_swap (with_break o y) xs ys
