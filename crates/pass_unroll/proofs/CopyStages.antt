-- A copy of a loop's body is alike to it, where the copy's variable and arguments stand for the loop's.
use Rattle.std.proofs.Common.{◌≡◌, ℕ, zero, suc, ◌+◌, ◌*◌, ◌%◌, ◌^◌, ◌<◌, ◌≤◌, true, List, [], ◌∷◌, length, refl, ap, ◌∙◌, sym, subst, arith}
use Rattle.arith_word.specs.declared.label.Label.{Label}
use Rattle.mlir_ir.specs.Operations.{nil, labels_of}
use Rattle.mlir_ir.specs.Rules.{arg_types}
use Rattle.mlir_ir.specs.Runs.{Number, number}
use Rattle.mlir_ir.specs.Typed.{Types, with_types, TypedOp, TypedRegions, types_after}
use Rattle.mlir_ir.specs.Words.{bits_of}
use Rattle.pass_copy.specs.Reported.{Claim}
use Rattle.pass_copy.specs.Renamed.{Naming, anew, rename_ops, names_of}
use Rattle.pass_copy.specs.Renaming.{renamed}
use Rattle.pass_copy.proofs.Bindings.{Scope, pair, linked, bound, All2, AllBelow, Below, below_more, all_below_more, look_same, look_other}
use Rattle.pass_copy.proofs.RenamedAlike.{Covers, Moves, AlikeFrom, renamed_ops, all_covered, arg_types_length}
use Rattle.pass_copy.proofs.RunEnds.{goes_on, stepped}
use Rattle.pass_unroll.specs.Copies.{ForLoop, operation_of, copy, copy_spans, copy_ends, full_copies, full_ends}
use Rattle.pass_copy.specs.Built.{label, constant}
use Rattle.pass_unroll.proofs.CopiedTurns.{Copies, stop, more, Readies}
use Rattle.pass_unroll.proofs.CopyLabels.{copy_below, copy_links, copy_inside, labels_copy, copy_ends_length}
use Rattle.pass_unroll.proofs.CoveredScopes.{all_stand_below, below_linked, covers_linked, covers_same}
use Rattle.pass_unroll.proofs.HeaderNumbers.{number_rest, number_sum}
use Rattle.pass_unroll.proofs.SpanLabels.{pick}
use Rattle.pass_unroll.proofs.LoopLengths.{inner_types, body_typed, ends_known, ends_length}

module _ (H : Claim) (fresh : ℕ → List ℕ) (t : ℕ) (o : ForLoop) (T : Types)
    (typed : TypedOp T o.packs o.results (operation_of o).kind) (inside : TypedRegions T t o.results (operation_of o).kind)
    (f : ℕ → ℕ) (ctx : Scope) (covers : Covers f T ctx) (below : Below t t ctx) (same : (y : ℕ) → y < t → f y ≡ y) where
  abbrev pub at_body : ℕ
  at_body = t + 2 + length o.args

  abbrev pub types_in : Types
  types_in = inner_types T t o typed inside

  module _ (c : Label) (ys : List Label) (p : ℕ) (len : length ys ≡ length o.args) (le : t ≤ p) (all : AllBelow p (c ∷ ys)) where
    abbrev g : ℕ → ℕ
    g = renamed (copy_spans fresh t o c ys p)

    picks_first : (i : ℕ) → i < 1 → g (t + 1 + i) ≡ pick (c ∷ []) i
    picks_first zero h = copy_links fresh t o c ys p 0 (omega arith)
    picks_first (suc i) h = absurd (omega arith)

    picks_rest : (i : ℕ) → i < length ys → g (t + 1 + 1 + i) ≡ pick ys i
    picks_rest i h = let e : t + 1 + 1 + i ≡ t + 1 + suc i = omega arith in ap g e ∙ copy_links fresh t o c ys p (suc i) (omega arith)

    covers_in : Covers g types_in (linked (t + 1) (c ∷ ys) ctx)
    covers_in =
        covers_linked g (with_types T (t + 1) (o.iv.ty ∷ [])) (pair (t + 1) c.0 ∷ ctx) (t + 1 + 1) (t + 2) ys (arg_types o.args) (omega arith)
        (arg_types_length o.args ∙ sym len) picks_rest
        (covers_linked g T ctx (t + 1) (t + 1) (c ∷ []) (o.iv.ty ∷ []) refl refl picks_first
        (covers_same f g T ctx t t below (λ y h. same y h ∙ sym (copy_below fresh t o c ys p y (omega arith))) covers))

    below_in : Below at_body p (linked (t + 1) (c ∷ ys) ctx)
    below_in =
        below_more (t + 1 + suc (length ys)) p at_body p (linked (t + 1) (c ∷ ys) ctx) (omega arith) (omega arith)
        (below_linked (t + 1) p (c ∷ ys) ctx (below_more t t (t + 1) p ctx (omega arith) (omega arith) below) all)

    moves_in : Moves g at_body p (labels_of o.body)
    moves_in y low high = let e = copy_inside fresh t o c ys p y (omega arith) (omega arith) in omega (arith, e)

    -- a copy with any names
    pub stage_alike : (name : Naming) (j k : ℕ) → AlikeFrom H g k types_in (linked (t + 1) (c ∷ ys) ctx) at_body p o.body (rename_ops g name j o.body)
    stage_alike name j k = renamed_ops H g name o.body j k types_in (linked (t + 1) (c ∷ ys) ctx) at_body p (body_typed T t o typed inside) covers_in below_in moves_in

    pub copy_alike : (j k : ℕ) → AlikeFrom H g k types_in (linked (t + 1) (c ∷ ys) ctx) at_body p o.body (copy fresh t o j c ys p)
    copy_alike j k = stage_alike (anew fresh) j k

    pub copy_yields : (j k : ℕ) → All2 (copy_alike j k).behind o.ends (copy_ends fresh t o c ys p)
    copy_yields j k = all_covered g (types_after types_in at_body o.body) (copy_alike j k).behind o.ends (copy_alike j k).covers (ends_known T t o typed inside)

    pub copy_yields_below : AllBelow (p + labels_of o.body) (copy_ends fresh t o c ys p)
    copy_yields_below =
        let r = copy_alike 0 0 in
        let e = labels_copy fresh t o 0 c ys p in
        all_stand_below (at_body + labels_of o.body) (p + labels_of o.body) r.behind o.ends (copy_ends fresh t o c ys p) (copy_yields 0 0)
        (below_more (at_body + labels_of o.body) (p + labels_of (copy fresh t o 0 c ys p)) (at_body + labels_of o.body) (p + labels_of o.body) r.behind (omega arith) (omega (arith, e)) r.below)

  -- ---- n copies, each behind a constant for its variable

  abbrev pub width : ℕ
  width = bits_of o.iv.ty

  constant_readies : (k p v : ℕ) → Readies (λ e. Unit {0}) p (constant (fresh k) o.iv.ty v nil) p (number width v)
  constant_readies k p v n' env' s' i =
      let x = number width (v % 2 ^ width) in
      (bound p x ∷ env', refl, look_same p x p env' refl ∙ number_rest width v, λ y l. look_other p x y env' (λ e. omega arith))

  pub full_copied : (step : ℕ) (up : Number) (n k p v : ℕ) (ys : List Label) → length ys ≡ length o.args → t ≤ p → AllBelow p ys
      → ((i : ℕ) → i < n → goes_on up (number width (v + i * step)) ≡ true)
      → Copies H (λ e. Unit {0}) ctx up (number width step) (t + 1) at_body o.body o.ends n p (number width v) ys
      (full_copies fresh t o step n k p v ys) (number width (v + n * step)) (full_ends fresh t o n p ys)
  full_copied step up zero k p v ys len le all goes =
      let e : v ≡ v + 0 * step = omega arith in
      subst (λ z. Copies H (λ e. Unit {0}) ctx up (number width step) (t + 1) at_body o.body o.ends 0 p (number width v) ys nil (number width z) ys) e (stop all)
  full_copied step up (suc n) k p v ys len le all goes =
      let ys2 = copy_ends fresh t o (label p) ys (p + 1) in
      let a : AllBelow (p + 1) (label p ∷ ys) = (omega arith, all_below_more p (p + 1) ys (omega arith) all) in
      let le1 : t ≤ p + 1 = omega arith in
      let p2 = p + 1 + labels_of o.body in
      let others = full_copies fresh t o step n (k + 1 + names_of o.body) p2 (v + step) ys2 in
      let ends3 = full_ends fresh t o n p2 ys2 in
      let e0 : v + 0 * step ≡ v = omega arith in
      let last : v + step + n * step ≡ v + suc n * step = omega arith in
      let go : (i : ℕ) → i < n → goes_on up (number width (v + step + i * step)) ≡ true =
      λ i h. let e : v + suc i * step ≡ v + step + i * step = omega arith in subst (λ z. goes_on up (number width z) ≡ true) e (goes (suc i) (omega arith)) in
      let rest = full_copied step up n (k + 1 + names_of o.body) p2 (v + step) ys2 (copy_ends_length fresh t o (label p) ys (p + 1) ∙ ends_length T t o typed inside) (omega arith)
      (copy_yields_below (label p) ys (p + 1) len le1 a) go in
      let Q : ℕ → Number → ℕ → Type 0 = λ w x z. Copies H (λ e. Unit {0}) ctx up (number width step) (t + 1) at_body o.body o.ends n (p + 1 + w) x ys2 others (number width z) ends3 in
      more (label p) (constant (fresh k) o.iv.ty v nil) (copy fresh t o (k + 1) (label p) ys (p + 1)) (copy_alike (label p) ys (p + 1) len le1 a (k + 1) 0).behind
      (constant_readies k p v) (omega arith) all (copy_alike (label p) ys (p + 1) len le1 a (k + 1) 0).alike (copy_yields (label p) ys (p + 1) len le1 a (k + 1) 0)
      (subst (λ z. goes_on up (number width z) ≡ true) e0 (goes 0 (omega arith)))
      (subst (λ w. Q w (stepped (number width step) (number width v)) (v + suc n * step)) (sym (labels_copy fresh t o (k + 1) (label p) ys (p + 1)))
      (subst (λ x. Q (labels_of o.body) x (v + suc n * step)) (sym (number_sum width v step))
      (subst (λ z. Q (labels_of o.body) (number width (v + step)) z) last rest)))

  -- what the last of them yields is theirs
  pub full_ends_below : (n p : ℕ) (ys : List Label) → length ys ≡ length o.args → t ≤ p → AllBelow p ys → AllBelow (p + n * (1 + labels_of o.body)) (full_ends fresh t o n p ys)
  full_ends_below zero p ys len le all = all_below_more p (p + 0 * (1 + labels_of o.body)) ys (omega arith) all
  full_ends_below (suc n) p ys len le all =
      let ys2 = copy_ends fresh t o (label p) ys (p + 1) in
      let a : AllBelow (p + 1) (label p ∷ ys) = (omega arith, all_below_more p (p + 1) ys (omega arith) all) in
      let le1 : t ≤ p + 1 = omega arith in
      let p2 = p + 1 + labels_of o.body in
      all_below_more (p2 + n * (1 + labels_of o.body)) (p + suc n * (1 + labels_of o.body)) (full_ends fresh t o n p2 ys2) (omega arith)
      (full_ends_below n p2 ys2 (copy_ends_length fresh t o (label p) ys (p + 1) ∙ ends_length T t o typed inside) (omega arith) (copy_yields_below (label p) ys (p + 1) len le1 a))
