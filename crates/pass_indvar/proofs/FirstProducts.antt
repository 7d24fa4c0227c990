-- The first product of a list of operations that is a progression, with those in front of it and those behind it.
use Rattle.std.proofs.Common.{◌≡◌, ℕ, ◌+◌, ◌==◌, ◌&&◌, ◌≤◌, ◌⊎◌, inl, inr, Bool, true, false, drop, List, [], ◌∷◌, length, refl, ap, ◌∙◌, sym, subst, arith, Option, Some, None, if◌then◌else◌}
use Rattle.std.proofs.lemmas.Bool.{eqb-true, eq-eqb, ne_eqb}
use Rattle.std.specs.Option.{option_or}
use Rattle.arith_word.specs.declared.label.Label.{Label}
use Rattle.arith_word.specs.declared.op.BinOp.TheVariants.{Muli}
use Rattle.mlir_ir.specs.Operations.{OpKind, Simple, Bin, OpList, nil, next, labels_of, inner_labels, joined}
use Rattle.mlir_ir.specs.Typed.{Types, with_types, kind_counts, TypedOps}
use Rattle.mlir_ir.specs.declared.types.Flags.{Flags}
use Rattle.mlir_ir.specs.declared.types.IrType.{IrType}
use Rattle.mlir_ir.specs.declared.types.Pack.{Pack}
use Rattle.pass_copy.proofs.ReplacedAlike.{if_false}
use Rattle.pass_expand.specs.Expandable.{expands}
use Rattle.pass_indvar.specs.Reductions.{Progression, progression, is_product, first_of, first_progression, without}
use Rattle.scev_tree.specs.Polynomial.{Polynomial, ext, none, more, variable_of}

-- a product, by its packs, its flags and its operands
pub record Product : Type 0 where
  pub packs : List Pack
  pub flags : Flags
  pub left : Label
  pub right : Label

abbrev pub kind_of : Product → OpKind
kind_of p = Simple (Bin Muli p.flags p.left p.right)

-- operations of which the first begins with label `at`, parted at the product of a progression
pub record IsParted (T : Types) (g : Progression) (at : ℕ) (ops : OpList) : Type 0 where
  pub front : OpList
  pub product : Product
  pub behind : OpList
  pub is : ops ≡ joined front (next product.packs (g.ty ∷ []) (kind_of product) behind)
  pub stands : g.product ≡ at + labels_of front
  pub rest : without g.product at ops ≡ joined front behind
  pub starts : expands T g.ty g.start ≡ true
  pub steps : expands T g.ty g.step ≡ true

product_is : (kind : OpKind) → is_product kind ≡ true → (flags : Flags) × (a : Label) × (b : Label) × (kind ≡ Simple (Bin Muli flags a b))
product_is (Simple (Bin Muli flags a b)) e = (flags, a, b, refl)
product_is kind e = cc

module _ (T : Types) (t : ℕ) where
  -- what a progression is that was found for a product with label l
  abbrev IsOf : ℕ → IrType → Option Progression → Type 0
  IsOf l ty None = Unit {0}
  IsOf l ty (Some g) = (g.product ≡ l) × (g.ty ≡ ty) × (expands T ty g.start ≡ true) × (expands T ty g.step ≡ true)

  of_test : (l : ℕ) (ty : IrType) (a b : Polynomial) (c d e : Bool) → expands T ty a ≡ d → expands T ty b ≡ e
      → IsOf l ty (if c && d && e then Some (record { product = l; ty = ty; start = a; step = b }) else None)
  of_test l ty a b true true true h k = (refl, refl, h, k)
  of_test l ty a b true true false h k = tt
  of_test l ty a b true false e h k = tt
  of_test l ty a b false d e h k = tt

  of_progression : (l : ℕ) (ty : IrType) (p : Polynomial) → IsOf l ty (progression T t l ty p)
  of_progression l ty (ext x (more a (more b none))) = of_test l ty a b (x == variable_of true t) (expands T ty a) (expands T ty b) refl refl
  of_progression l ty p = tt

  by_first : (l : ℕ) (ty : IrType) (found behind : Option Progression) (g : Progression) → IsOf l ty found → option_or found behind ≡ Some g
      → IsOf l ty (Some g) ⊎ (behind ≡ Some g)
  by_first l ty None behind g h e = inr e
  by_first l ty (Some first) behind g h e = inl (subst (λ x. IsOf l ty x) e h)

  by_entry : (l : ℕ) (ty : IrType) (tys : List IrType) (exprs : List (Option Polynomial)) (behind : Option Progression) (g : Progression)
      → first_of T t l (ty ∷ tys) exprs behind ≡ Some g → IsOf l ty (Some g) ⊎ (behind ≡ Some g)
  by_entry l ty tys [] behind g e = inr e
  by_entry l ty tys (None ∷ exprs) behind g e = inr e
  by_entry l ty tys (Some p ∷ exprs) behind g e = by_first l ty (progression T t l ty p) behind g (of_progression l ty p) e

  module _ (g : Progression) where
    -- an operation in front of the product
    parted_more : (at : ℕ) (packs : List Pack) (results : List IrType) (kind : OpKind) (rest : OpList) → (is_product kind && (at == g.product)) ≡ false
        → IsParted T g (at + (inner_labels kind + length results)) rest → IsParted T g at (next packs results kind rest)
    parted_more at packs results kind rest other h = record {
      front = next packs results kind h.front;
      product = h.product;
      behind = h.behind;
      is = ap (next packs results kind) h.is;
      stands = let e = h.stands in omega arith;
      rest = if_false (is_product kind && (at == g.product)) rest (next packs results kind (without g.product (at + (inner_labels kind + length results)) rest)) other
          ∙ ap (next packs results kind) h.rest;
      starts = h.starts;
      steps = h.steps;
    }

    parted_here : (at : ℕ) (packs : List Pack) (ty : IrType) (flags : Flags) (a b : Label) (rest : OpList) → IsOf at ty (Some g)
        → IsParted T g at (next packs (ty ∷ []) (Simple (Bin Muli flags a b)) rest)
    parted_here at packs ty flags a b rest h =
        let same : at + 0 ≡ at = omega arith in
        record {
          front = nil;
          product = record { packs = packs; flags = flags; left = a; right = b };
          behind = rest;
          is = ap (λ x. next packs (x ∷ []) (Simple (Bin Muli flags a b)) rest) (sym h.1);
          stands = h.0 ∙ sym same;
          rest = rw (h.0, eq-eqb at at refl) refl;
          starts = rw h.1 h.2;
          steps = rw h.1 h.3;
        }

    later : (at n : ℕ) (rest : OpList) → 1 ≤ n → (h : IsParted T g (at + n) rest) → (b : Bool) → (b && (at == g.product)) ≡ false
    later at n rest le h true = ne_eqb at g.product (λ e. let s = h.stands in omega (arith, e, s, le))
    later at n rest le h false = refl

    -- the same of what is behind an operation
    abbrev Behind : ℕ → List IrType → OpKind → OpList → Type 0
    Behind at results kind rest =
        (exprs : List (Option Polynomial)) → first_progression T t (at + (inner_labels kind + length results)) rest exprs ≡ Some g
        → IsParted T g (at + (inner_labels kind + length results)) rest

    by_product : (at : ℕ) (packs : List Pack) (results : List IrType) (flags : Flags) (a b : Label) (rest : OpList) (exprs : List (Option Polynomial))
        → kind_counts (length results) (Simple (Bin Muli flags a b)) ≡ true → Behind at results (Simple (Bin Muli flags a b)) rest
        → first_progression T t at (next packs results (Simple (Bin Muli flags a b)) rest) exprs ≡ Some g → IsParted T g at (next packs results (Simple (Bin Muli flags a b)) rest)
    by_product at packs [] flags a b rest exprs n h e = absurd (let z = eqb-true 0 1 n in omega (arith, z))
    by_product at packs (ty ∷ []) flags a b rest exprs n h e = elim (by_entry at ty [] exprs (first_progression T t (at + 1) rest (drop 1 exprs)) g e) [
      | inl found ↦ parted_here at packs ty flags a b rest found
      | inr past ↦
          let p = h (drop 1 exprs) past in
          parted_more at packs (ty ∷ []) (Simple (Bin Muli flags a b)) rest (later at 1 rest (omega arith) p true) p
    ]
    by_product at packs (ty ∷ other ∷ tys) flags a b rest exprs n h e = absurd (let z = eqb-true (length (ty ∷ other ∷ tys)) 1 n in omega (arith, z))

    by_kind : (test : Bool) (at : ℕ) (packs : List Pack) (results : List IrType) (kind : OpKind) (rest : OpList) (exprs : List (Option Polynomial)) → is_product kind ≡ test
        → kind_counts (length results) kind ≡ true → Behind at results kind rest → first_progression T t at (next packs results kind rest) exprs ≡ Some g
        → IsParted T g at (next packs results kind rest)
    by_kind true at packs results kind rest exprs q n h e =
        let p = product_is kind q in
        subst (λ x. kind_counts (length results) x ≡ true → Behind at results x rest → first_progression T t at (next packs results x rest) exprs ≡ Some g → IsParted T g at (next packs results x rest))
        (sym p.3) (by_product at packs results p.0 p.1 p.2 rest exprs) n h e
    by_kind false at packs results kind rest exprs q n h e =
        let w = at + (inner_labels kind + length results) in
        let past : first_progression T t w rest exprs ≡ Some g =
        sym (if_false (is_product kind) (first_of T t at results exprs (first_progression T t w rest (drop 1 exprs))) (first_progression T t w rest exprs) q) ∙ e in
        parted_more at packs results kind rest (rw q refl) (h exprs past)

    pub first_parted : (ops : OpList) (at : ℕ) (exprs : List (Option Polynomial)) (U : Types) → TypedOps U at ops → first_progression T t at ops exprs ≡ Some g → IsParted T g at ops
    first_parted nil at exprs U h e = cc
    first_parted (next packs results kind rest) at exprs U h e =
        let w = at + (inner_labels kind + length results) in
        by_kind (is_product kind) at packs results kind rest exprs refl h.0.counted
        (λ more past. first_parted rest w more (with_types U (at + inner_labels kind) results) h.2 past) e
