-- Values in scope of two runs that agree: pairs of labels, one of the parent and the one of the child that stands for it.
use Rattle.std.proofs.Common.{◌≡◌, ℕ, zero, suc, ◌+◌, ◌<◌, ◌≤◌, List, [], ◌∷◌, ◌⊎◌, inl, inr, refl, ap, ◌∙◌, sym, subst, arith, length}
use Rattle.std.proofs.lemmas.Bool.{cases_eq, eq-eqb, ne_eqb}
use Rattle.arith_word.specs.declared.label.Label.{Label}
use Rattle.mlir_ir.specs.Runs.{Number, Binding, look, numbers_of, binds}

-- a label of the parent, and the one of the child
pub record Pair : Type 0 where
  pub from : ℕ
  pub to : ℕ

abbrev pub pair : ℕ → ℕ → Pair
pair x x' = record { from = x; to = x' }

abbrev pub Scope : Type 0
Scope = List Pair

abbrev pub bound : ℕ → Number → Binding
bound x v = record { label = x; number = v }

-- both have the same numbers
abbrev pub Same : Scope → List Binding → List Binding → Type 0
Same [] env env' = Unit {0}
Same (p ∷ ctx) env env' = (look env p.from ≡ look env' p.to) × Same ctx env env'

-- all labels in scope stand before those places
abbrev pub Below : ℕ → ℕ → Scope → Type 0
Below at at' [] = Unit {0}
Below at at' (p ∷ ctx) = (p.from < at) × (p.to < at') × Below at at' ctx

-- x' stands for x
abbrev pub In : ℕ → ℕ → Scope → Type 0
In x x' [] = ⊥
In x x' (p ∷ ctx) = ((p.from ≡ x) × (p.to ≡ x')) ⊎ In x x' ctx

-- uses, each of which stands for one of the parent
abbrev pub All2 : Scope → List Label → List Label → Type 0
All2 ctx [] [] = Unit {0}
All2 ctx [] (y' ∷ ys') = ⊥
All2 ctx (y ∷ ys) [] = ⊥
All2 ctx (y ∷ ys) (y' ∷ ys') = In y.0 y'.0 ctx × All2 ctx ys ys'

abbrev pub AllBelow : ℕ → List Label → Type 0
AllBelow at [] = Unit {0}
AllBelow at (y ∷ ys) = (y.0 < at) × AllBelow at ys

-- n labels from x on, for which those from x' on stand
abbrev pub pairs : ℕ → ℕ → ℕ → Scope → Scope
pairs x x' zero ctx = ctx
pairs x x' (suc n) ctx = pairs (x + 1) (x' + 1) n (pair x x' ∷ ctx)

-- labels from x on, for which values stand that the child has already
abbrev pub linked : ℕ → List Label → Scope → Scope
linked x [] ctx = ctx
linked x (y' ∷ ys') ctx = linked (x + 1) ys' (pair x y'.0 ∷ ctx)

-- numbers of labels

pub same_or : (a b : ℕ) → (a ≡ b) ⊎ (a ≡ b → ⊥)
same_or = cases_eq

pub look_same : (x : ℕ) (v : Number) (y : ℕ) (env : List Binding) → x ≡ y → look (bound x v ∷ env) y ≡ v
look_same x v y env e = rw (eq-eqb x y e) refl

pub look_other : (x : ℕ) (v : Number) (y : ℕ) (env : List Binding) → (x ≡ y → ⊥) → look (bound x v ∷ env) y ≡ look env y
look_other x v y env ne = rw (ne_eqb x y ne) refl

pub numbers_length : (env : List Binding) (ys : List Label) → length (numbers_of env ys) ≡ length ys
numbers_length env [] = refl
numbers_length env (y ∷ ys) = ap suc (numbers_length env ys)

-- values in scope

pub same_in : (ctx : Scope) (env env' : List Binding) (x x' : ℕ) → Same ctx env env' → In x x' ctx → look env x ≡ look env' x'
same_in [] env env' x x' s i = absurd i
same_in (p ∷ ctx) env env' x x' s (inl i) = sym (ap (look env) i.0) ∙ (s.0 ∙ ap (look env') i.1)
same_in (p ∷ ctx) env env' x x' s (inr i) = same_in ctx env env' x x' s.1 i

pub numbers_same : (ctx : Scope) (env env' : List Binding) (ys ys' : List Label) → Same ctx env env' → All2 ctx ys ys' → numbers_of env ys ≡ numbers_of env' ys'
numbers_same ctx env env' [] [] s a = refl
numbers_same ctx env env' [] (y' ∷ ys') s a = absurd a
numbers_same ctx env env' (y ∷ ys) [] s a = absurd a
numbers_same ctx env env' (y ∷ ys) (y' ∷ ys') s a = rw (same_in ctx env env' y.0 y'.0 s a.0, numbers_same ctx env env' ys ys' s a.1) refl

pub all2_length : (ctx : Scope) (ys ys' : List Label) → All2 ctx ys ys' → length ys ≡ length ys'
all2_length ctx [] [] a = refl
all2_length ctx [] (y' ∷ ys') a = absurd a
all2_length ctx (y ∷ ys) [] a = absurd a
all2_length ctx (y ∷ ys) (y' ∷ ys') a = ap suc (all2_length ctx ys ys' a.1)

pub below_more : (a a' b b' : ℕ) (ctx : Scope) → a ≤ b → a' ≤ b' → Below a a' ctx → Below b b' ctx
below_more a a' b b' [] le le' h = tt
below_more a a' b b' (p ∷ ctx) le le' h = (omega (arith, h.0), omega (arith, h.1), below_more a a' b b' ctx le le' h.2)

pub all_below_more : (a b : ℕ) (ys : List Label) → a ≤ b → AllBelow a ys → AllBelow b ys
all_below_more a b [] le h = tt
all_below_more a b (y ∷ ys) le h = (omega (arith, h.0), all_below_more a b ys le h.1)

-- new labels leave those in scope alone

pub push_from : (ctx : Scope) (env env' : List Binding) (x x' : ℕ) (v : Number) → Below x x' ctx → Same ctx env env' → Same ctx (bound x v ∷ env) env'
push_from [] env env' x x' v b s = tt
push_from (p ∷ ctx) env env' x x' v b s = (look_other x v p.from env (λ e. omega (arith, b.0)) ∙ s.0, push_from ctx env env' x x' v b.2 s.1)

pub push_to : (ctx : Scope) (env env' : List Binding) (x x' : ℕ) (v : Number) → Below x x' ctx → Same ctx env env' → Same ctx env (bound x' v ∷ env')
push_to [] env env' x x' v b s = tt
push_to (p ∷ ctx) env env' x x' v b s = (s.0 ∙ sym (look_other x' v p.to env' (λ e. omega (arith, b.1))), push_to ctx env env' x x' v b.2 s.1)

pub push : (ctx : Scope) (env env' : List Binding) (x x' : ℕ) (v v' : Number) → Below x x' ctx → v ≡ v' → Same ctx env env'
    → Same (pair x x' ∷ ctx) (bound x v ∷ env) (bound x' v' ∷ env')
push ctx env env' x x' v v' b e s =
    (look_same x v x env refl ∙ (e ∙ sym (look_same x' v' x' env' refl)), push_to ctx (bound x v ∷ env) env' x x' v' b (push_from ctx env env' x x' v b s))

pub below_push : (ctx : Scope) (x x' : ℕ) → Below x x' ctx → Below (x + 1) (x' + 1) (pair x x' ∷ ctx)
below_push ctx x x' b = (omega arith, omega arith, below_more x x' (x + 1) (x' + 1) ctx (omega arith) (omega arith) b)

-- as many labels on both sides
pub below_pairs : (ctx : Scope) (x x' n : ℕ) → Below x x' ctx → Below (x + n) (x' + n) (pairs x x' n ctx)
below_pairs ctx x x' zero b = below_more x x' (x + 0) (x' + 0) ctx (omega arith) (omega arith) b
below_pairs ctx x x' (suc n) b =
    below_more (x + 1 + n) (x' + 1 + n) (x + suc n) (x' + suc n) (pairs (x + 1) (x' + 1) n (pair x x' ∷ ctx)) (omega arith) (omega arith)
    (below_pairs (pair x x' ∷ ctx) (x + 1) (x' + 1) n (below_push ctx x x' b))

pub push_all : (ctx : Scope) (env env' : List Binding) (x x' : ℕ) (vs : List Number) → Below x x' ctx → Same ctx env env'
    → Same (pairs x x' (length vs) ctx) (binds x vs env) (binds x' vs env')
push_all ctx env env' x x' [] b s = s
push_all ctx env env' x x' (v ∷ vs) b s =
    push_all (pair x x' ∷ ctx) (bound x v ∷ env) (bound x' v ∷ env') (x + 1) (x' + 1) vs (below_push ctx x x' b) (push ctx env env' x x' v v b refl s)

-- the same, where the number of labels is known
pub push_these : (ctx : Scope) (env env' : List Binding) (x x' n : ℕ) (vs : List Number) → length vs ≡ n → Below x x' ctx → Same ctx env env'
    → Same (pairs x x' n ctx) (binds x vs env) (binds x' vs env')
push_these ctx env env' x x' n vs e b s = subst (λ z. Same (pairs x x' z ctx) (binds x vs env) (binds x' vs env')) e (push_all ctx env env' x x' vs b s)

-- the child has the values already
pub push_linked : (ctx : Scope) (env env' : List Binding) (x at' : ℕ) (vs : List Number) (ys' : List Label) → Below x at' ctx → AllBelow at' ys'
    → vs ≡ numbers_of env' ys' → Same ctx env env' → Same (linked x ys' ctx) (binds x vs env) env'
push_linked ctx env env' x at' [] [] b a e s = s
push_linked ctx env env' x at' [] (y' ∷ ys') b a e s = cc
push_linked ctx env env' x at' (v ∷ vs) [] b a e s = cc
push_linked ctx env env' x at' (v ∷ vs) (y' ∷ ys') b a e s =
    let ev : v ≡ look env' y'.0 = cc in
    let er : vs ≡ numbers_of env' ys' = cc in
    push_linked (pair x y'.0 ∷ ctx) (bound x v ∷ env) env' (x + 1) at' vs ys' (omega arith, a.0, below_more x at' (x + 1) at' ctx (omega arith) (omega arith) b) a.1 er
    (look_same x v x env refl ∙ ev, push_from ctx env env' x at' v b s)

-- values of the child in which the labels in scope have their numbers
pub same_kept : (ctx : Scope) (env env' env2' : List Binding) (at at' : ℕ) → Below at at' ctx → ((y : ℕ) → y < at' → look env2' y ≡ look env' y) → Same ctx env env' → Same ctx env env2'
same_kept [] env env' env2' at at' b k s = tt
same_kept (p ∷ ctx) env env' env2' at at' b k s = (s.0 ∙ sym (k p.to b.1), same_kept ctx env env' env2' at at' b.2 k s.1)

pub numbers_kept : (env' env2' : List Binding) (at' : ℕ) (ys : List Label) → AllBelow at' ys → ((y : ℕ) → y < at' → look env2' y ≡ look env' y) → numbers_of env2' ys ≡ numbers_of env' ys
numbers_kept env' env2' at' [] a k = refl
numbers_kept env' env2' at' (y ∷ ys) a k = rw (k y.0 a.0, numbers_kept env' env2' at' ys a.1 k) refl
