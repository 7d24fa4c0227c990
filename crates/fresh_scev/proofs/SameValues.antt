-- Values that are the same by two facts.
use Rattle.std.proofs.Common.{◌≡◌, ℕ, ◌+◌, ◌<◌, true, List, [], ◌∷◌, refl, ◌∙◌, sym, subst, arith, Option, Some, None}
use Rattle.std.proofs.lemmas.Bool.{and_parts}
use Rattle.std.specs.List.{AllByRecursion, list_all}
use Rattle.std.specs.Option.{is_some}
use Rattle.arith_word.specs.declared.label.Label.{Label}
use Rattle.mlir_ir.specs.Operations.{SimpleOp, Const, Bin, Cast, Cmp, Select, Call}
use Rattle.mlir_ir.specs.Typed.{Types, knows, simple_uses}
use Rattle.mlir_ir.specs.declared.types.IrType.{IrType}
use Rattle.fresh_scev.specs.Each.{Each, EachInScope}
use Rattle.fresh_scev.specs.Facts.{Facts, Role, unnamed, counts, untested, tested, role_of, AreOwn, AreAlike}
use Rattle.fresh_scev.specs.UsesBelow.{AreBelow}
use Rattle.fresh_scev.proofs.OneRule.{SameExprs}
use Rattle.fresh_scev.proofs.UsesOfTyped.{KnowsBelow}

-- the sides of a comparison are before its result, and have the same expressions
abbrev pub SameSides : Facts → Facts → ℕ → Role → Type 0
SameSides F G l (tested test) = (test.left < l) × (test.right < l) × (F.expr test.left ≡ G.expr test.left) × (F.expr test.right ≡ G.expr test.right)
SameSides F G l _ = Unit {0}

pub record SameValue (F G : Facts) (l : ℕ) (ty : IrType) : Type 0 where
  pub expr : F.expr l ≡ G.expr l
  pub role : F.role l ≡ G.role l
  pub sides : SameSides F G l (F.role l)

-- the same of a use, whatever its type
pub record SameUse (F G : Facts) (l : Label) : Type 0 where
  pub ty : IrType
  pub value : SameValue F G l.0 ty

abbrev pub SameUses : Facts → Facts → List Label → Type 0
SameUses F G uses = AllByRecursion (λ (l : Label). SameUse F G l) uses

abbrev pub SameScope : Facts → Facts → Types → Type 0
SameScope F G T = EachInScope (λ l ty. SameValue F G l ty) T

abbrev pub SameList : Facts → Facts → ℕ → List IrType → Type 0
SameList F G label tys = Each (λ l ty. SameValue F G l ty) label tys

pub same_exprs : (F G : Facts) (uses : List Label) → SameUses F G uses → SameExprs F G uses
same_exprs F G [] h = tt
same_exprs F G (l ∷ uses) h = (h.0.value.expr, same_exprs F G uses h.1)

some_type : (o : Option IrType) → is_some o ≡ true → (ty : IrType) × (o ≡ Some ty)
some_type (Some ty) h = (ty, refl)
some_type None h = absurd (cc)

pub use_same : (F G : Facts) (T : Types) (l : Label) → SameScope F G T → is_some (T l.0) ≡ true → SameUse F G l
use_same F G T l s h = let t = some_type (T l.0) h in record { ty = t.0; value = s l.0 t.0 t.1 }

pub uses_same : (F G : Facts) (T : Types) (uses : List Label) → SameScope F G T → list_all (knows T) uses ≡ true → SameUses F G uses
uses_same F G T [] s h = tt
uses_same F G T (l ∷ uses) s h =
    let p = and_parts (knows T l) (list_all (knows T) uses) h in
    (use_same F G T l s p.0, uses_same F G T uses s p.1)

-- ---- values that are no comparisons' results

untested_sides : (F G : Facts) (l : ℕ) (r : Role) → r ≡ untested → SameSides F G l r
untested_sides F G l r e = subst (SameSides F G l) (sym e) tt

pub untested_same : (F G : Facts) (l : ℕ) (ty : IrType) → F.expr l ≡ G.expr l → F.role l ≡ untested → G.role l ≡ untested → SameValue F G l ty
untested_same F G l ty e f g = record { expr = e; role = f ∙ sym g; sides = untested_sides F G l (F.role l) f }

pub own_same : (F G : Facts) (label : ℕ) (tys : List IrType) → AreOwn F label tys → AreOwn G label tys → SameList F G label tys
own_same F G label [] f g = tt
own_same F G label (ty ∷ tys) f g = (untested_same F G label ty (f.0.0 ∙ sym g.0.0) f.0.1 g.0.1, own_same F G (label + 1) tys f.1 g.1)

-- ---- results of operations without regions

role_sides : (F G : Facts) (label : ℕ) (does : SimpleOp) → AreBelow (simple_uses does) label → SameExprs F G (simple_uses does) → SameSides F G label (role_of does)
role_sides F G label (Const v) low u = tt
role_sides F G label (Bin op flags a b) low u = tt
role_sides F G label (Cast op flags a) low u = tt
role_sides F G label (Cmp pred a b) low u = (low.0, low.1.0, u.0, u.1.0)
role_sides F G label (Select c a b) low u = tt
role_sides F G label (Call func passed) low u = tt

pub ruled_same : (F G : Facts) (label : ℕ) (ty : IrType) (does : SimpleOp) → AreBelow (simple_uses does) label → SameExprs F G (simple_uses does) → F.expr label ≡ G.expr label
    → F.role label ≡ role_of does → G.role label ≡ role_of does → SameValue F G label ty
ruled_same F G label ty does low u e f g = record { expr = e; role = f ∙ sym g; sides = subst (SameSides F G label) (sym f) (role_sides F G label does low u) }

-- ---- facts before that are alike

module _ (F G old older : Facts) (at : ℕ) (f : AreAlike old F at) (g : AreAlike older G at) where
  expr_before : (l : ℕ) → l < at → F.expr l ≡ G.expr l → old.expr l ≡ older.expr l
  expr_before l lt e = f.exprs l lt ∙ e ∙ sym (g.exprs l lt)

  sides_before : (l : ℕ) (r : Role) → l < at → SameSides F G l r → SameSides old older l r
  sides_before l unnamed lt s = tt
  sides_before l counts lt s = tt
  sides_before l untested lt s = tt
  sides_before l (tested test) lt s =
      let a = s.0 in
      let b = s.1 in
      (a, b, expr_before test.left (omega (arith, a, lt)) s.2, expr_before test.right (omega (arith, b, lt)) s.3)

  value_before : (l : ℕ) (ty : IrType) → l < at → SameValue F G l ty → SameValue old older l ty
  value_before l ty lt s = record {
    expr = expr_before l lt s.expr;
    role = f.roles l lt ∙ s.role ∙ sym (g.roles l lt);
    sides = sides_before l (old.role l) lt (subst (SameSides F G l) (sym (f.roles l lt)) s.sides);
  }

  pub scope_before : (T : Types) → KnowsBelow T at → SameScope F G T → SameScope old older T
  scope_before T low s l ty h = value_before l ty (low l (known (T l) ty h)) (s l ty h)
    where
      known : (o : Option IrType) (ty : IrType) → o ≡ Some ty → is_some o ≡ true
      known (Some t) ty h = refl
      known None ty h = absurd (cc)
