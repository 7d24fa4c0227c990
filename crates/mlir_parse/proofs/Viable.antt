-- The tokens that a run has read are a prefix of a module's token sequence.
use Rattle.std.proofs.Common.{◌≡◌, ℕ, suc, zero, Bool, true, false, ◌&&◌, refl, List, [], ◌∷◌, ◌++◌, ap, ◌∙◌, sym, subst, append_assoc}
use Rattle.mlir_ir.specs.Grammar.{Pattern, nothing, one, line, both, either, many, region, body}
use Rattle.mlir_ir.specs.Texts.{Accepts, no_more, token, by_line, in_turn, left, right, again, enough, in_region}
use Rattle.mlir_parse.specs.Runs.{Outcome, Done, Stop, Deep, Fails, Runs, run_nothing, run_one, run_other, run_line, run_both, run_both_fails, run_left, run_right, run_enough, run_again, run_again_fails, run_no_brace, run_too_deep, run_region}
use Rattle.mlir_parse.proofs.Back.{of_both}
use Rattle.mlir_parse.proofs.Bools.{and_left, and_right, every_form}
use Rattle.mlir_ir.specs.declared.terminal.Terminal.{Terminal}
use Rattle.mlir_ir.specs.declared.terminal.Terminal.TheVariants.{LeftBrace, RightBrace}
use Rattle.mlir_ir.specs.declared.syntax.Form.{Form}

-- whether the pattern has a match, once these nonterminals have one
abbrev pub ready_with : (Form → Bool) → Pattern → Bool
ready_with known nothing = true
ready_with known (one c) = true
ready_with known (line f) = known f
ready_with known (both a b) = ready_with known a && ready_with known b
ready_with known (either a b) = ready_with known a
ready_with known (many a) = true
ready_with known (region a) = ready_with known a

abbrev pub ready_line : ℕ → Form → Bool
ready_line zero f = false
ready_line (suc n) f = ready_with (ready_line n) (body f)

-- each match of the rest of the stack extends to a match with the pattern first
abbrev pub Completes : Pattern → Type 0
Completes r = (ss : List Pattern) (u : List Terminal) → Accepts ss u → (v : List Terminal) × Accepts (r ∷ ss) v

completes_with : (known : Form → Bool) → ((f : Form) → known f ≡ true → Completes (line f)) → (r : Pattern) → ready_with known r ≡ true → Completes r
completes_with known k nothing h ss u d = (u, no_more d)
completes_with known k (one c) h ss u d = (c ∷ u, token d)
completes_with known k (line f) h ss u d = k f h ss u d
completes_with known k (both a b) h ss u d =
    let second = completes_with known k b (and_right (ready_with known a) (ready_with known b) h) ss u d in
    let first = completes_with known k a (and_left (ready_with known a) (ready_with known b) h) (b ∷ ss) second.0 second.1 in
    (first.0, in_turn first.1)
completes_with known k (either a b) h ss u d = let first = completes_with known k a h ss u d in (first.0, left first.1)
completes_with known k (many a) h ss u d = (u, enough d)
completes_with known k (region a) h ss u d =
    let inside = completes_with known k a h (one RightBrace ∷ ss) (RightBrace ∷ u) (token d) in
    (LeftBrace ∷ inside.0, in_region (token inside.1))

completes_line : (n : ℕ) (f : Form) → ready_line n f ≡ true → Completes (line f)
completes_line zero f h ss u d = cc
completes_line (suc n) f h ss u d = let found = completes_with (ready_line n) (completes_line n) (body f) h ss u d in (found.0, by_line found.1)

all_ready : (f : Form) → ready_line 9 f ≡ true
all_ready f = every_form (λ g. ready_line 9 g) refl f

ready_all : (r : Pattern) → ready_with (λ f. true) r ≡ true
ready_all nothing = refl
ready_all (one c) = refl
ready_all (line f) = refl
ready_all (both a b) = rw (ready_all a, ready_all b) refl
ready_all (either a b) = ready_all a
ready_all (many a) = refl
ready_all (region a) = ready_all a

pub completes : (r : Pattern) → Completes r
completes r = completes_with (λ f. true) (λ f h. completes_line 9 f (all_ready f)) r (ready_all r)

-- the tokens read, and a match that begins with them
abbrev pub Begins : List Terminal → Pattern → List Terminal → List Terminal → Type 0
Begins more r ts us =
    (x : List Terminal) × (ts ≡ x ++ us) × ((ss : List Pattern) (u : List Terminal) → Accepts ss u → (v : List Terminal) × Accepts (r ∷ ss) (x ++ (more ++ v)))

abbrev pub Viable : Pattern → List Terminal → Outcome → Type 0
Viable r ts (Done us) = (x : List Terminal) × (ts ≡ x ++ us) × ((ss : List Pattern) (u : List Terminal) → Accepts ss u → Accepts (r ∷ ss) (x ++ u))
Viable r ts (Stop us) = Begins [] r ts us
Viable r ts (Deep us) = Begins (LeftBrace ∷ []) r ts us

viable_line : (f : Form) (ts : List Terminal) (o : Outcome) → Viable (body f) ts o → Viable (line f) ts o
viable_line f ts (Done us) (x, e, g) = (x, e, λ ss u d. by_line (g ss u d))
viable_line f ts (Stop us) (x, e, g) = (x, e, λ ss u d. let q = g ss u d in (q.0, by_line q.1))
viable_line f ts (Deep us) (x, e, g) = (x, e, λ ss u d. let q = g ss u d in (q.0, by_line q.1))

viable_left : (a b : Pattern) (ts : List Terminal) (o : Outcome) → Viable a ts o → Viable (either a b) ts o
viable_left a b ts (Done us) (x, e, g) = (x, e, λ ss u d. left (g ss u d))
viable_left a b ts (Stop us) (x, e, g) = (x, e, λ ss u d. let q = g ss u d in (q.0, left q.1))
viable_left a b ts (Deep us) (x, e, g) = (x, e, λ ss u d. let q = g ss u d in (q.0, left q.1))

viable_right : (a b : Pattern) (ts : List Terminal) (o : Outcome) → Viable b ts o → Viable (either a b) ts o
viable_right a b ts (Done us) (x, e, g) = (x, e, λ ss u d. right (g ss u d))
viable_right a b ts (Stop us) (x, e, g) = (x, e, λ ss u d. let q = g ss u d in (q.0, right q.1))
viable_right a b ts (Deep us) (x, e, g) = (x, e, λ ss u d. let q = g ss u d in (q.0, right q.1))

joined : (ts us vs x y : List Terminal) → ts ≡ x ++ us → us ≡ y ++ vs → ts ≡ (x ++ y) ++ vs
joined ts us vs x y e f = e ∙ ap (λ z. x ++ z) f ∙ sym (append_assoc x y vs)

begins_both : (more : List Terminal) (a b : Pattern) (ts us vs : List Terminal) → Viable a ts (Done us) → Begins more b us vs → Begins more (both a b) ts vs
begins_both more a b ts us vs (x, e, g) (y, f, k) = (
  x ++ y,
  joined ts us vs x y e f,
  λ ss u d.
      let q = k ss u d in (q.0, in_turn (subst (Accepts (a ∷ b ∷ ss)) (sym (append_assoc x y (more ++ q.0))) (g (b ∷ ss) (y ++ (more ++ q.0)) q.1))),
)

viable_both : (a b : Pattern) (ts us : List Terminal) (o : Outcome) → Viable a ts (Done us) → Viable b us o → Viable (both a b) ts o
viable_both a b ts us (Done vs) (x, e, g) (y, f, k) = (
  x ++ y,
  joined ts us vs x y e f,
  λ ss u d. in_turn (subst (Accepts (a ∷ b ∷ ss)) (sym (append_assoc x y u)) (g (b ∷ ss) (y ++ u) (k ss u d))),
)
viable_both a b ts us (Stop vs) p q = begins_both [] a b ts us vs p q
viable_both a b ts us (Deep vs) p q = begins_both (LeftBrace ∷ []) a b ts us vs p q

begins_front : (more : List Terminal) (a b : Pattern) (ts us : List Terminal) → Begins more a ts us → Begins more (both a b) ts us
begins_front more a b ts us (x, e, g) =
    (x, e, λ ss u d. let s = completes b ss u d in let q = g (b ∷ ss) s.0 s.1 in (q.0, in_turn q.1))

viable_fails : (a b : Pattern) (ts : List Terminal) (o : Outcome) → Fails o → Viable a ts o → Viable (both a b) ts o
viable_fails a b ts (Done us) failed p = absurd failed
viable_fails a b ts (Stop us) failed p = begins_front [] a b ts us p
viable_fails a b ts (Deep us) failed p = begins_front (LeftBrace ∷ []) a b ts us p

-- a repetition is one match, and the repetition again
folds : (a : Pattern) (ts : List Terminal) (o : Outcome) → Viable (both a (many a)) ts o → Viable (many a) ts o
folds a ts (Done us) (x, e, g) = (x, e, λ ss u d. again (of_both (g ss u d)))
folds a ts (Stop us) (x, e, g) = (x, e, λ ss u d. let q = g ss u d in (q.0, again (of_both q.1)))
folds a ts (Deep us) (x, e, g) = (x, e, λ ss u d. let q = g ss u d in (q.0, again (of_both q.1)))

opens : (a : Pattern) (ts : List Terminal) (o : Outcome) → Viable (both a (one RightBrace)) ts o → Viable (region a) (LeftBrace ∷ ts) o
opens a ts (Done us) (x, e, g) = (LeftBrace ∷ x, ap (λ z. LeftBrace ∷ z) e, λ ss u d. in_region (token (of_both (g ss u d))))
opens a ts (Stop us) (x, e, g) = (LeftBrace ∷ x, ap (λ z. LeftBrace ∷ z) e, λ ss u d. let q = g ss u d in (q.0, in_region (token (of_both q.1))))
opens a ts (Deep us) (x, e, g) = (LeftBrace ∷ x, ap (λ z. LeftBrace ∷ z) e, λ ss u d. let q = g ss u d in (q.0, in_region (token (of_both q.1))))

pub viable : {n : ℕ} {r : Pattern} {ts : List Terminal} {o : Outcome} → Runs n r ts o → Viable r ts o
viable run_nothing = ([], refl, λ ss u d. no_more d)
viable (run_one {c}) = (c ∷ [], refl, λ ss u d. token d)
viable (run_other {c} h) = ([], refl, completes (one c))
viable (run_line {f} {ts} {o} d) = viable_line f ts o (viable d)
viable (run_both {a} {b} {ts} {us} {o} d k) = viable_both a b ts us o (viable d) (viable k)
viable (run_both_fails {a} {b} {ts} {o} d h) = viable_fails a b ts o h (viable d)
viable (run_left {a} {b} {ts} {o} h d) = viable_left a b ts o (viable d)
viable (run_right {a} {b} {ts} {o} h d) = viable_right a b ts o (viable d)
viable (run_enough h) = ([], refl, λ ss u d. enough d)
viable (run_again {a} {ts} {us} {o} h d k) = folds a ts o (viable_both a (many a) ts us o (viable d) (viable k))
viable (run_again_fails {a} {ts} {o} h d k) = folds a ts o (viable_fails a (many a) ts o k (viable d))
viable (run_no_brace {a} h) = ([], refl, completes (region a))
viable (run_too_deep {a} h) =
    ([], refl, λ ss u d. let inside = completes a (one RightBrace ∷ ss) (RightBrace ∷ u) (token d) in (inside.0, in_region (token inside.1)))
viable (run_region {a} {ts} {o} h d) = opens a ts o (viable d)
