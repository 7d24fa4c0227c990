-- Scopes in which values that the child has already stand for labels of the parent.
use Rattle.std.proofs.Common.{◌≡◌, ℕ, zero, suc, ◌+◌, ◌-◌, ◌<◌, true, List, [], ◌∷◌, length, ◌⊎◌, inl, inr, refl, ap, ◌∙◌, sym, subst, arith, Option, Some, None}
use Rattle.std.specs.Option.{is_some, option_or}
use Rattle.arith_word.specs.declared.label.Label.{Label}
use Rattle.mlir_ir.specs.declared.types.IrType.{IrType}
use Rattle.mlir_ir.specs.Typed.{Types, typed_from, with_types}
use Rattle.pass_copy.proofs.Bindings.{Scope, pair, linked, In, All2, AllBelow, Below, below_more}
use Rattle.pass_copy.proofs.RenamedAlike.{Covers, typed_there}
use Rattle.pass_unroll.proofs.SpanLabels.{pick}

pub in_below : (a b x x' : ℕ) (ctx : Scope) → In x x' ctx → Below a b ctx → (x < a) × (x' < b)
in_below a b x x' [] i bl = absurd i
in_below a b x x' (p ∷ ctx) (inl i) bl = (omega (arith, i.0, bl.0), omega (arith, i.1, bl.1))
in_below a b x x' (p ∷ ctx) (inr i) bl = in_below a b x x' ctx i bl.2

pub all_stand_below : (a b : ℕ) (ctx : Scope) (ys ys' : List Label) → All2 ctx ys ys' → Below a b ctx → AllBelow b ys'
all_stand_below a b ctx [] [] h bl = tt
all_stand_below a b ctx [] (y' ∷ ys') h bl = absurd h
all_stand_below a b ctx (y ∷ ys) [] h bl = absurd h
all_stand_below a b ctx (y ∷ ys) (y' ∷ ys') h bl = ((in_below a b y.0 y'.0 ctx h.0 bl).1, all_stand_below a b ctx ys ys' h.1 bl)

pub behind_linked : (x : ℕ) (ys : List Label) (y y' : ℕ) (ctx : Scope) → In y y' ctx → In y y' (linked x ys ctx)
behind_linked x [] y y' ctx i = i
behind_linked x (z ∷ ys) y y' ctx i = behind_linked (x + 1) ys y y' (pair x z.0 ∷ ctx) (inr i)

pub in_linked : (x : ℕ) (ys : List Label) (i y : ℕ) (ctx : Scope) → i < length ys → x + i ≡ y → In y (pick ys i) (linked x ys ctx)
in_linked x [] i y ctx h e = absurd (omega arith)
in_linked x (z ∷ ys) zero y ctx h e = behind_linked (x + 1) ys y z.0 (pair x z.0 ∷ ctx) (inl (omega arith, refl))
in_linked x (z ∷ ys) (suc i) y ctx h e = in_linked (x + 1) ys i y (pair x z.0 ∷ ctx) (omega arith) (omega arith)

pub below_linked : (x b : ℕ) (ys : List Label) (ctx : Scope) → Below x b ctx → AllBelow b ys → Below (x + length ys) b (linked x ys ctx)
below_linked x b [] ctx bl a = below_more x b (x + 0) b ctx (omega arith) (omega arith) bl
below_linked x b (y ∷ ys) ctx bl a =
    below_more (x + 1 + length ys) b (x + suc (length ys)) b (linked (x + 1) ys (pair x y.0 ∷ ctx)) (omega arith) (omega arith)
    (below_linked (x + 1) b ys (pair x y.0 ∷ ctx) (omega arith, a.0, below_more x b (x + 1) b ctx (omega arith) (omega arith) bl) a.1)

known_either : (a b : Option IrType) → is_some (option_or a b) ≡ true → (is_some a ≡ true) ⊎ (is_some b ≡ true)
known_either None b h = inr h
known_either (Some ty) b h = inl refl

-- labels from x on with these types besides, each with the label that stands for it
pub covers_linked : (f : ℕ → ℕ) (T : Types) (ctx : Scope) (x a : ℕ) (ys : List Label) (tys : List IrType) → a ≡ x → length tys ≡ length ys
    → ((i : ℕ) → i < length ys → f (x + i) ≡ pick ys i) → Covers f T ctx → Covers f (with_types T a tys) (linked x ys ctx)
covers_linked f T ctx x a ys tys e el picks c y h = elim (known_either (T y) (typed_from a tys y) h) [
  | inl k ↦ behind_linked x ys y (f y) ctx (c y k)
  | inr k ↦
      let q = typed_there a tys y k in
      let i = y - x in
      let lt : i < length ys = omega (arith, q.0, q.1) in
      let at : x + i ≡ y = omega (arith, q.0) in
      subst (λ z. In y z (linked x ys ctx)) (sym (picks i lt) ∙ ap f at) (in_linked x ys i y ctx lt at)
]

-- another renaming that is the same for what is in scope
pub covers_same : (f g : ℕ → ℕ) (T : Types) (ctx : Scope) (a b : ℕ) → Below a b ctx → ((y : ℕ) → y < a → f y ≡ g y) → Covers f T ctx → Covers g T ctx
covers_same f g T ctx a b bl same c y h = subst (λ z. In y z ctx) (same y (in_below a b y (f y) ctx (c y h) bl).0) (c y h)
