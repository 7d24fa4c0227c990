-- The branches that each step of the reader appends.
use Rattle.std.proofs.Common.{suc, zero, ◌≡◌, ℕ, ◌+◌, ◌<◌, true, List, [], ◌∷◌, ◌++◌, refl, ap, ◌∙◌, sym, subst, take, drop, length, Some, slice_get}
use Rattle.std.proofs.lemmas.List.{append-nil, append_assoc}
use Rattle.std.proofs.Math.Seq.{take-append_seam, drop-append_seam}
use Rattle.mlir_ir.specs.Grammar.{Pattern, nothing, one, line, both, either, many, region, body}
use Rattle.mlir_ir.specs.Trees.{Forest, none, node, join, put, forest, Derives, derive_nothing, derive_one, derive_line, derive_both, derive_left, derive_right, derive_again, derive_enough, derive_region}
use Rattle.mlir_ir.specs.declared.terminal.Terminal.{Terminal}
use Rattle.mlir_ir.specs.declared.terminal.Terminal.TheVariants.{LeftBrace, RightBrace}
use Rattle.mlir_ir.specs.declared.syntax.Form.{Form}
use Rattle.mlir_ir.specs.declared.syntax.Form.TheVariants.{Leaf}
use Rattle.mlir_ir.specs.declared.syntax.Branch.{Branch, Branch'}
use Rattle.mlir_parse.specs.Runs.{is_next}
use Rattle.mlir_parse.specs.Seen.{Grows}
use Rattle.mlir_parse.proofs.Bools.{same_is}

pub join-none : (xs : Forest) → join xs none ≡ xs
join-none none = refl
join-none (node f at parts xs) = ap (node f at parts) (join-none xs)

pub join_assoc : (xs ys zs : Forest) → join (join xs ys) zs ≡ join xs (join ys zs)
join_assoc none ys zs = refl
join_assoc (node f at parts xs) ys zs = ap (node f at parts) (join_assoc xs ys zs)

put_join : (b : Branch) (xs ys : Forest) → put b (join xs ys) ≡ join (put b xs) ys
put_join (Branch' f at shape row) xs ys = refl

forest-append : (bs cs : List Branch) → forest (bs ++ cs) ≡ join (forest bs) (forest cs)
forest-append [] cs = refl
forest-append (b ∷ bs) cs = ap (put b) (forest-append bs cs) ∙ put_join b (forest bs) (forest cs)

token_at : (c : Terminal) (ts : List Terminal) (at : ℕ) → is_next c (drop at ts) ≡ true → slice_get ts at ≡ Some c
token_at c [] zero e = cc
token_at c [] (suc at) e = cc
token_at c (b ∷ ts) zero e = ap Some (same_is c b e)
token_at c (b ∷ ts) (suc at) e = token_at c ts at e

behind : (old middle new xs ys : List Branch) → middle ≡ old ++ xs → new ≡ middle ++ ys → new ≡ old ++ (xs ++ ys)
behind old middle new xs ys g k = k ∙ ap (λ x. x ++ ys) g ∙ append_assoc old xs ys

module _ (ts : List Terminal) where
  pub grows_nothing : (n at : ℕ) (old : List Branch) → Grows ts n nothing at old old at
  grows_nothing n at old = record { row = []; grown = sym (append-nil old); derived = derive_nothing }

  pub grows_one : (n : ℕ) (c : Terminal) (at : ℕ) (old new : List Branch) (b : Branch)
      → new ≡ old ++ b ∷ [] → ((rest : Forest) → put b rest ≡ node Leaf at none rest) → is_next c (drop at ts) ≡ true → Grows ts n (one c) at old new (at + 1)
  grows_one n c at old new b e p h =
      record { row = b ∷ []; grown = e; derived = subst (λ x. Derives ts n (one c) at x (at + 1)) (sym (p none)) (derive_one (token_at c ts at h) refl) }

  -- a nonterminal whose children were read into a list of their own
  pub grows_parts : (n : ℕ) (f : Form) (at next : ℕ) (old parts new : List Branch) (b : Branch)
      → new ≡ old ++ b ∷ [] → ((rest : Forest) → put b rest ≡ node f at (forest parts) rest) → Grows ts n (body f) at [] parts next → Grows ts n (line f) at old new next
  grows_parts n f at next old parts new b e p g =
      let shown : put b none ≡ node f at (forest g.row) none = p none ∙ ap (λ x. node f at (forest x) none) g.grown in
      record { row = b ∷ []; grown = e; derived = subst (λ x. Derives ts n (line f) at x next) (sym shown) (derive_line g.derived) }

  pub grows_line : (n : ℕ) (f : Form) (r : Pattern) (at next before : ℕ) (old middle kept parts new : List Branch) (b : Branch)
      → before ≡ length old → kept ≡ take before middle → parts ≡ drop before middle → new ≡ kept ++ b ∷ []
      → ((rest : Forest) → put b rest ≡ node f at (forest parts) rest) → r ≡ body f → Grows ts n r at old middle next → Grows ts n (line f) at old new next
  grows_line n f r at next before old middle kept parts new b count front back e p k g =
      let same_front : kept ≡ old = front ∙ ap (λ x. take x middle) count ∙ ap (take (length old)) g.grown ∙ take-append_seam old g.row in
      let same_back : parts ≡ g.row = back ∙ ap (λ x. drop x middle) count ∙ ap (drop (length old)) g.grown ∙ drop-append_seam old g.row in
      let shown : put b none ≡ node f at (forest g.row) none = p none ∙ ap (λ x. node f at (forest x) none) same_back in
      record {
        row = b ∷ [];
        grown = e ∙ ap (λ x. x ++ b ∷ []) same_front;
        derived = subst (λ x. Derives ts n (line f) at x next) (sym shown) (derive_line (subst (λ x. Derives ts n x at (forest g.row) next) k g.derived));
      }

  pub grows_both : (n : ℕ) (a b : Pattern) (at mid next : ℕ) (old middle new : List Branch) → Grows ts n a at old middle mid → Grows ts n b mid middle new next → Grows ts n (both a b) at old new next
  grows_both n a b at mid next old middle new g k =
      record { row = g.row ++ k.row; grown = behind old middle new g.row k.row g.grown k.grown; derived = derive_both g.derived k.derived (forest-append g.row k.row) }

  pub grows_left : (n : ℕ) (a b : Pattern) (at next : ℕ) (old new : List Branch) → Grows ts n a at old new next → Grows ts n (either a b) at old new next
  grows_left n a b at next old new g = record { row = g.row; grown = g.grown; derived = derive_left g.derived }

  pub grows_right : (n : ℕ) (a b : Pattern) (at next : ℕ) (old new : List Branch) → Grows ts n b at old new next → Grows ts n (either a b) at old new next
  grows_right n a b at next old new g = record { row = g.row; grown = g.grown; derived = derive_right g.derived }

  pub grows_region : (n : ℕ) (a : Pattern) (at mid next : ℕ) (old opened middle new : List Branch) (b : Branch)
      → n < 12 → opened ≡ old ++ b ∷ [] → ((rest : Forest) → put b rest ≡ node Leaf at none rest) → is_next LeftBrace (drop at ts) ≡ true
      → Grows ts (n + 1) a (at + 1) opened middle mid → Grows ts (n + 1) (one RightBrace) mid middle new next → Grows ts n (region a) at old new next
  grows_region n a at mid next old opened middle new b shallow e p h g k =
      let first = grows_one (n + 1) LeftBrace at old opened b e p h in
      let rest = grows_both (n + 1) a (one RightBrace) (at + 1) mid next opened middle new g k in
      let all = grows_both (n + 1) (one LeftBrace) (both a (one RightBrace)) at (at + 1) next old opened new first rest in
      record { row = all.row; grown = all.grown; derived = derive_region shallow all.derived }

  pub grows_enough : (n : ℕ) (a : Pattern) (at : ℕ) (old : List Branch) → Grows ts n (many a) at old old at
  grows_enough n a at old = record { row = []; grown = sym (append-nil old); derived = derive_enough }

  pub grows_again : (n : ℕ) (a : Pattern) (at mid next : ℕ) (old middle new : List Branch) → Grows ts n a at old middle mid → Grows ts n (many a) mid middle new next → Grows ts n (many a) at old new next
  grows_again n a at mid next old middle new g k =
      record { row = g.row ++ k.row; grown = behind old middle new g.row k.row g.grown k.grown; derived = derive_again g.derived k.derived (forest-append g.row k.row) }
