-- Where a loop stands, and what becomes of the other parts of a function when others stand for it: their uses are renamed alone.
use Rattle.std.proofs.Common.{◌≡◌, ℕ, ◌+◌, ◌<◌, ◌≤◌, ◌==◌, ◌&&◌, ◌⊎◌, inl, inr, true, false, List, length, refl, ap, ◌∙◌, sym, arith}
use Rattle.std.proofs.lemmas.Bool.{eq-eqb, ne_eqb}
use Rattle.mlir_ir.specs.declared.types.IrType.{IrType}
use Rattle.mlir_ir.specs.declared.types.Pack.{Pack}
use Rattle.mlir_ir.specs.Operations.{OpKind, Simple, If, For, While, OpList, nil, next, labels_of, inner_labels, joined}
use Rattle.pass_copy.specs.Renamed.{relabel, relabels, keep, rename_ops, rename_kind, names_of, inner_names}
use Rattle.pass_copy.specs.Replaced.{Operation, op_labels, is_loop, StandsIn, StandsInside, replaced, replaced_inside}
use Rattle.pass_copy.proofs.CarriedTypes.{Moves}
use Rattle.pass_copy.proofs.RenamedOps.{rename_labels, rename_inner_labels, kept_args, kept_packs}
use Rattle.pass_copy.proofs.JoinedOps.{joined_labels}

-- where a loop stands

pub loop_labels : (kind : OpKind) → is_loop kind ≡ true → 0 < inner_labels kind
loop_labels (Simple does) h = cc
loop_labels (If c first firsts has_else other others) h = cc
loop_labels (For lower upper step iv args inits body ends) h = omega arith
loop_labels (While args inits before passed cond after_args after ends) h = omega arith

-- a loop with `w` labels at t, in n labels from `at` on
pub record Lies (t w at n : ℕ) : Type 0 where
  pub some : 0 < w
  pub begins : at ≤ t
  pub ends : t + w ≤ at + n

module _ (t : ℕ) (o : Operation) where
  mutual
    pub stands : (ops : OpList) (at : ℕ) → StandsIn t o at ops → Lies t (op_labels o) at (labels_of ops)
    stands nil at s = absurd s
    stands (next packs results kind rest) at (inl s) =
        let l = loop_labels kind s.1 in
        let e : inner_labels kind + length results ≡ op_labels o = ap op_labels s.2 in
        let p : at ≡ t = s.0 in
        record { some = omega arith; begins = omega arith; ends = omega arith }
    stands (next packs results kind rest) at (inr (inl s)) =
        let q = stands_inside kind at s in
        record { some = q.some; begins = q.begins; ends = omega (arith, q.ends) }
    stands (next packs results kind rest) at (inr (inr s)) =
        let q = stands rest (at + (inner_labels kind + length results)) s in
        record { some = q.some; begins = omega (arith, q.begins); ends = omega (arith, q.ends) }

    pub stands_inside : (kind : OpKind) (at : ℕ) → StandsInside t o at kind → Lies t (op_labels o) at (inner_labels kind)
    stands_inside (Simple does) at s = absurd s
    stands_inside (If c first firsts has_else other others) at (inl s) =
        let q = stands first at s in
        record { some = q.some; begins = q.begins; ends = omega (arith, q.ends) }
    stands_inside (If c first firsts has_else other others) at (inr s) =
        let q = stands other (at + labels_of first) s in
        record { some = q.some; begins = omega (arith, q.begins); ends = omega (arith, q.ends) }
    stands_inside (For lower upper step iv args inits body ends) at s =
        let q = stands body (at + 2 + length args) s in
        record { some = q.some; begins = omega (arith, q.begins); ends = omega (arith, q.ends) }
    stands_inside (While args inits before passed cond after_args after ends) at (inl s) =
        let q = stands before (at + 1 + length args) s in
        record { some = q.some; begins = omega (arith, q.begins); ends = omega (arith, q.ends) }
    stands_inside (While args inits before passed cond after_args after ends) at (inr s) =
        let q = stands after (at + 1 + length args + labels_of before + length after_args) s in
        record { some = q.some; begins = omega (arith, q.begins); ends = omega (arith, q.ends) }

  -- it isn't the operation in whose regions it stands
  pub not_around : (kind : OpKind) (at : ℕ) → StandsInside t o at kind → (is_loop kind && (at == t)) ≡ false
  not_around (Simple does) at s = refl
  not_around (If c first firsts has_else other others) at s = refl
  not_around (For lower upper step iv args inits body ends) at s =
      let q = stands body (at + 2 + length args) s in ne_eqb at t (λ e. omega (arith, q.begins))
  not_around (While args inits before passed cond after_args after ends) at (inl s) =
      let q = stands before (at + 1 + length args) s in ne_eqb at t (λ e. omega (arith, q.begins))
  not_around (While args inits before passed cond after_args after ends) at (inr s) =
      let q = stands after (at + 1 + length args + labels_of before + length after_args) s in ne_eqb at t (λ e. omega (arith, q.begins))

-- a label stands in front of n labels from `at` on, or behind them
abbrev pub Away : ℕ → ℕ → ℕ → Type 0
Away t at n = (t < at) ⊎ (at + n ≤ t)

pub away_part : (t at n b m : ℕ) → at ≤ b → b + m ≤ at + n → Away t at n → Away t b m
away_part t at n b m l r (inl a) = inl (omega arith)
away_part t at n b m l r (inr a) = inr (omega arith)

pub away_other : (t at n : ℕ) → 0 < n → Away t at n → at ≡ t → ⊥
away_other t at n l (inl a) e = omega arith
away_other t at n l (inr a) e = omega arith

pub no_loop_there : (t : ℕ) (kind : OpKind) (at : ℕ) → Away t at (inner_labels kind) → (is_loop kind && (at == t)) ≡ false
no_loop_there t (Simple does) at a = refl
no_loop_there t (If c first firsts has_else other others) at a = refl
no_loop_there t (For lower upper step iv args inits body ends) at a = ne_eqb at t (away_other t at (2 + length args + labels_of body) (omega arith) a)
no_loop_there t (While args inits before passed cond after_args after ends) at a =
    ne_eqb at t (away_other t at (1 + length args + labels_of before + length after_args + labels_of after) (omega arith) a)

-- labels in front of a loop that stay, and labels behind it that move by what others take more or less

pub moves_before : (f : ℕ → ℕ) (t : ℕ) → ((y : ℕ) → y < t → f y ≡ y) → (x x' n : ℕ) → x + n ≤ t → x' ≡ x → Moves f x x' n
moves_before f t stays x x' n h e y l g = let q : f y ≡ y = stays y (omega arith) in omega arith

pub moves_behind : (f : ℕ → ℕ) (t : ℕ) (o : Operation) (others : OpList) (end : ℕ)
    → ((y : ℕ) → t + op_labels o ≤ y → y < end → f y + op_labels o ≡ y + labels_of others)
    → (x x' n : ℕ) → t + op_labels o ≤ x → x + n ≤ end → x' + op_labels o ≡ x + labels_of others → Moves f x x' n
moves_behind f t o others end moves x x' n h r e y l g =
    let q : f y + op_labels o ≡ y + labels_of others = moves y (omega arith) (omega arith) in omega arith

-- elsewhere uses are renamed alone
module _ (f : ℕ → ℕ) (t : ℕ) (others : OpList) where
  -- an operation other than the loop
  pub op_other : (at : ℕ) (packs : List Pack) (results : List IrType) (kind : OpKind) (rest : OpList) → (is_loop kind && (at == t)) ≡ false
      → replaced f t others at (next packs results kind rest)
      ≡ next packs results (replaced_inside f t others at kind) (replaced f t others (at + (inner_labels kind + length results)) rest)
  op_other at packs results kind rest e = rw e refl

  pub op_here : (at : ℕ) (packs : List Pack) (results : List IrType) (kind : OpKind) (rest : OpList) → at ≡ t → is_loop kind ≡ true
      → replaced f t others at (next packs results kind rest) ≡ joined others (replaced f t others (at + (inner_labels kind + length results)) rest)
  op_here at packs results kind rest p l = rw (l, eq-eqb at t p) refl

  mutual
    pub replaced_away : (ops : OpList) (at j : ℕ) → Away t at (labels_of ops) → replaced f t others at ops ≡ rename_ops f keep j ops
    replaced_away nil at j a = refl
    replaced_away (next packs results kind rest) at j a =
        let w = inner_labels kind + length results in
        let n = w + labels_of rest in
        let here = away_part t at n at (inner_labels kind) (omega arith) (omega arith) a in
        op_other at packs results kind rest (no_loop_there t kind at here)
        ∙ (λ i. next (sym (kept_packs (j + inner_names kind) packs) i) results (inside_away kind at j here i)
        (replaced_away rest (at + w) (j + (inner_names kind + length packs)) (away_part t at n (at + w) (labels_of rest) (omega arith) (omega arith) a) i))

    pub inside_away : (kind : OpKind) (at j : ℕ) → Away t at (inner_labels kind) → replaced_inside f t others at kind ≡ rename_kind f keep j kind
    inside_away (Simple does) at j a = refl
    inside_away (If c first firsts has_else other others2) at j a =
        let n = labels_of first + labels_of other in
        λ i. If (relabel f c) (replaced_away first at j (away_part t at n at (labels_of first) (omega arith) (omega arith) a) i) (relabels f firsts) has_else
        (replaced_away other (at + labels_of first) (j + names_of first) (away_part t at n (at + labels_of first) (labels_of other) (omega arith) (omega arith) a) i) (relabels f others2)
    inside_away (For lower upper step iv args inits body ends) at j a =
        let n = 2 + length args + labels_of body in
        λ i. For (relabel f lower) (relabel f upper) (relabel f step) iv (sym (kept_args (j + 1) args) i) (relabels f inits)
        (replaced_away body (at + 2 + length args) (j + 1 + length args) (away_part t at n (at + 2 + length args) (labels_of body) (omega arith) (omega arith) a) i) (relabels f ends)
    inside_away (While args inits before passed cond after_args after ends) at j a =
        let n = 1 + length args + labels_of before + length after_args + labels_of after in
        let j2 = j + length args + names_of before in
        let in_before = at + 1 + length args in
        let in_after = in_before + labels_of before + length after_args in
        λ i. While (sym (kept_args j args) i) (relabels f inits)
        (replaced_away before in_before (j + length args) (away_part t at n in_before (labels_of before) (omega arith) (omega arith) a) i) (relabels f passed) (relabel f cond)
        (sym (kept_args j2 after_args) i)
        (replaced_away after in_after (j2 + length after_args) (away_part t at n in_after (labels_of after) (omega arith) (omega arith) a) i) (relabels f ends)

  pub away_labels : (ops : OpList) (at : ℕ) → Away t at (labels_of ops) → labels_of (replaced f t others at ops) ≡ labels_of ops
  away_labels ops at a = ap labels_of (replaced_away ops at 0 a) ∙ rename_labels f keep 0 ops

  pub away_inner_labels : (kind : OpKind) (at : ℕ) → Away t at (inner_labels kind) → inner_labels (replaced_inside f t others at kind) ≡ inner_labels kind
  away_inner_labels kind at a = ap inner_labels (inside_away kind at 0 a) ∙ rename_inner_labels f keep 0 kind

  -- labels where the loop stands

  module _ (o : Operation) where
    mutual
      pub found_labels : (at : ℕ) (ops : OpList) → StandsIn t o at ops → labels_of (replaced f t others at ops) + op_labels o ≡ labels_of ops + labels_of others
      found_labels at nil h = absurd h
      found_labels at (next packs results kind rest) (inl h) =
          let e : inner_labels kind + length results ≡ op_labels o = ap op_labels h.2 in
          let b = at + (inner_labels kind + length results) in
          let some = loop_labels kind h.1 in
          let q : labels_of (replaced f t others b rest) ≡ labels_of rest = away_labels rest b (inl (omega (arith, h.0))) in
          let z : labels_of (joined others (replaced f t others b rest)) ≡ labels_of others + labels_of (replaced f t others b rest) = joined_labels others (replaced f t others b rest) in
          let is : replaced f t others at (next packs results kind rest) ≡ joined others (replaced f t others b rest) = op_here at packs results kind rest h.0 h.1 in
          let l : labels_of (replaced f t others at (next packs results kind rest)) ≡ labels_of (joined others (replaced f t others b rest)) = ap labels_of is in
          omega arith
      found_labels at (next packs results kind rest) (inr (inl h)) =
          let b = at + (inner_labels kind + length results) in
          let g = stands_inside t o kind at h in
          let i : inner_labels (replaced_inside f t others at kind) + op_labels o ≡ inner_labels kind + labels_of others = found_inner at kind h in
          let q : labels_of (replaced f t others b rest) ≡ labels_of rest = away_labels rest b (inl (omega (arith, g.some, g.ends))) in
          let l : labels_of (replaced f t others at (next packs results kind rest)) ≡ inner_labels (replaced_inside f t others at kind) + length results + labels_of
          (replaced f t others b rest) = ap labels_of (op_other at packs results kind rest (not_around t o kind at h)) in
          omega arith
      found_labels at (next packs results kind rest) (inr (inr h)) =
          let b = at + (inner_labels kind + length results) in
          let g = stands t o rest b h in
          let q : Away t at (inner_labels kind) = inr (omega (arith, g.begins)) in
          let i : inner_labels (replaced_inside f t others at kind) ≡ inner_labels kind = away_inner_labels kind at q in
          let r : labels_of (replaced f t others b rest) + op_labels o ≡ labels_of rest + labels_of others = found_labels b rest h in
          let l : labels_of (replaced f t others at (next packs results kind rest)) ≡ inner_labels (replaced_inside f t others at kind) + length results + labels_of
          (replaced f t others b rest) = ap labels_of (op_other at packs results kind rest (no_loop_there t kind at q)) in
          omega arith

      pub found_inner : (at : ℕ) (kind : OpKind) → StandsInside t o at kind → inner_labels (replaced_inside f t others at kind) + op_labels o ≡ inner_labels kind + labels_of others
      found_inner at (Simple does) h = absurd h
      found_inner at (If c first firsts has_else other others2) (inl h) =
          let b = at + labels_of first in
          let g = stands t o first at h in
          let l : labels_of (replaced f t others at first) + op_labels o ≡ labels_of first + labels_of others = found_labels at first h in
          let q : labels_of (replaced f t others b other) ≡ labels_of other = away_labels other b (inl (omega (arith, g.some, g.ends))) in
          omega arith
      found_inner at (If c first firsts has_else other others2) (inr h) =
          let b = at + labels_of first in
          let g = stands t o other b h in
          let l : labels_of (replaced f t others b other) + op_labels o ≡ labels_of other + labels_of others = found_labels b other h in
          let q : labels_of (replaced f t others at first) ≡ labels_of first = away_labels first at (inr (omega (arith, g.begins))) in
          omega arith
      found_inner at (For lower upper step iv args inits body ends) h =
          let l : labels_of (replaced f t others (at + 2 + length args) body) + op_labels o ≡ labels_of body + labels_of others = found_labels (at + 2 + length args) body h in
          omega arith
      found_inner at (While args inits before passed cond after_args after ends) (inl h) =
          let b = at + 1 + length args in
          let c = b + labels_of before + length after_args in
          let g = stands t o before b h in
          let l : labels_of (replaced f t others b before) + op_labels o ≡ labels_of before + labels_of others = found_labels b before h in
          let q : labels_of (replaced f t others c after) ≡ labels_of after = away_labels after c (inl (omega (arith, g.some, g.ends))) in
          omega arith
      found_inner at (While args inits before passed cond after_args after ends) (inr h) =
          let b = at + 1 + length args in
          let c = b + labels_of before + length after_args in
          let g = stands t o after c h in
          let l : labels_of (replaced f t others c after) + op_labels o ≡ labels_of after + labels_of others = found_labels c after h in
          let q : labels_of (replaced f t others b before) ≡ labels_of before = away_labels before b (inr (omega (arith, g.begins))) in
          omega arith
