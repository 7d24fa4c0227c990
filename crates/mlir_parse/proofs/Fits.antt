-- One token of lookahead decides, for every reachable stack of patterns.
use Rattle.std.proofs.Common.{◌≡◌, Bool, true, false, ◌||◌, ◌&&◌, not, refl, List, [], ◌∷◌}
use Rattle.std.specs.List.{list_all}
use Rattle.mlir_ir.specs.GrammarNumbers.{same}
use Rattle.mlir_parse.specs.Tables.{terminals, first, empty, follow, decides}
use Rattle.mlir_ir.specs.Grammar.{Pattern, nothing, one, line, both, either, many, region, body}
use Rattle.mlir_parse.proofs.Bools.{every_terminal, every_form, and_left, and_right, more_true, less_false, implied, apart}
use Rattle.std.proofs.lemmas.Bool.{not-true}
use Rattle.mlir_parse.proofs.First.{firsts}
use Rattle.mlir_ir.specs.declared.terminal.Terminal.{Terminal}
use Rattle.mlir_ir.specs.declared.terminal.Terminal.TheVariants.{RightBrace}
use Rattle.mlir_ir.specs.declared.syntax.Form.{Form}
use Rattle.mlir_ir.specs.declared.syntax.Form.TheVariants.{Whole}

abbrev pub Good : Pattern → (Terminal → Bool) → Type 0
Good nothing after = Unit {0}
Good (one d) after = Unit {0}
Good (line f) after = (c : Terminal) → after c ≡ true → follow f c ≡ true
Good (both a b) after = Good a (λ c. first b c || (empty b && after c)) × Good b after
Good (either a b) after =
    (empty a ≡ false) × ((c : Terminal) → first a c ≡ true → (first b c || (empty b && after c)) ≡ false) × Good a after × Good b after
Good (many a) after = (empty a ≡ false) × ((c : Terminal) → first a c ≡ true → after c ≡ false) × Good a (λ c. first a c || after c)
Good (region a) after = Good a (same RightBrace)

pub weaker : (r : Pattern) (p q : Terminal → Bool) → ((c : Terminal) → q c ≡ true → p c ≡ true) → Good r p → Good r q
weaker nothing p q k g = tt
weaker (one d) p q k g = tt
weaker (line f) p q k g = λ c h. g c (k c h)
weaker (both a b) p q k g =
    (weaker a (λ c. first b c || (empty b && p c)) (λ c. first b c || (empty b && q c)) (λ c h. more_true (first b c) (empty b) (p c) (q c) (k c) h) g.0, weaker b p q k g.1)
weaker (either a b) p q k g = (
  g.0,
  λ c h. less_false (first b c || (empty b && p c)) (first b c || (empty b && q c)) (λ m. more_true (first b c) (empty b) (p c) (q c) (k c) m) (g.1 c h),
  weaker a p q k g.2,
  weaker b p q k g.3,
)
weaker (many a) p q k g = (
  g.0,
  λ c h. less_false (p c) (q c) (k c) (g.1 c h),
  weaker a (λ c. first a c || p c) (λ c. first a c || q c) (λ c h. more_true (first a c) true (p c) (q c) (k c) h) g.2,
)
weaker (region a) p q k g = g

pub decided : (r : Pattern) (p : Terminal → Bool) → decides r p ≡ true → Good r p
decided nothing p h = tt
decided (one d) p h = tt
decided (line f) p h = λ c m. implied (p c) (follow f c) (every_terminal (λ c. not (p c) || follow f c) h c) m
decided (both a b) p h =
    let l = decides a (λ c. first b c || (empty b && p c)) in
    (decided a (λ c. first b c || (empty b && p c)) (and_left l (decides b p) h), decided b p (and_right l (decides b p) h))
decided (either a b) p h =
    let x = not (empty a) in
    let y = list_all (λ c. not (first a c && (first b c || (empty b && p c)))) terminals in
    let z = decides a p in
    let w = decides b p in
    let xyz = and_left (x && y && z) w h in
    let xy = and_left (x && y) z xyz in (
      not-true (empty a) (and_left x y xy),
      λ c m. apart (first a c) (first b c || (empty b && p c)) (every_terminal (λ c. not (first a c && (first b c || (empty b && p c)))) (and_right x y xy) c) m,
      decided a p (and_right (x && y) z xyz),
      decided b p (and_right (x && y && z) w h),
    )
decided (many a) p h =
    let x = not (empty a) in
    let y = list_all (λ c. not (first a c && p c)) terminals in
    let z = decides a (λ c. first a c || p c) in
    let xy = and_left (x && y) z h in (
      not-true (empty a) (and_left x y xy),
      λ c m. apart (first a c) (p c) (every_terminal (λ c. not (first a c && p c)) (and_right x y xy) c) m,
      decided a (λ c. first a c || p c) (and_right (x && y) z h),
    )
decided (region a) p h = decided a (same RightBrace) h

-- each production passes the test
pub lines_decide : (f : Form) → Good (body f) (follow f)
lines_decide f = decided (body f) (follow f) (every_form (λ g. decides (body g) (follow g)) refl f)

-- one token of lookahead decides at each pattern of the stack
abbrev pub Fits : List Pattern → Type 0
Fits [] = Unit {0}
Fits (r ∷ ss) = Good r (firsts ss) × Fits ss

-- the stack of a whole module
pub fits_whole : Fits (line Whole ∷ [])
fits_whole = ((λ c h. cc), tt)

pub fits_line : (f : Form) (ss : List Pattern) → Fits (line f ∷ ss) → Fits (body f ∷ ss)
fits_line f ss h = (weaker (body f) (follow f) (firsts ss) h.0 (lines_decide f), h.1)

pub fits_deep : (a : Pattern) (ss : List Pattern) → Fits (region a ∷ ss) → Fits (a ∷ one RightBrace ∷ ss)
fits_deep a ss h = (weaker a (same RightBrace) (λ c. same RightBrace c || false) (λ c m. or_false (same RightBrace c) m) h.0, (tt, h.1))
  where
    or_false : (b : Bool) → (b || false) ≡ true → b ≡ true
    or_false true h = refl
    or_false false h = h
