-- The numbers of labels in scope stand at their slots.
use Rattle.std.proofs.Common.{◌≡◌, ℕ, suc, ◌+◌, ◌==◌, ◌<◌, ◌≤◌, ◌^◌, ◌⊎◌, inl, inr, Bool, true, false, List, [], ◌∷◌, length, refl, ap, ◌∙◌, sym, subst, arith, Option, Some, None, if◌then◌else◌}
use Rattle.std.proofs.lemmas.Bool.{and_parts}
use Rattle.std.proofs.lemmas.Bool.Decides.{nat_tests}
use Rattle.std.specs.List.{list_all}
use Rattle.std.specs.Option.{option_or, option_map_or, is_some}
use Rattle.mlir_ir.specs.declared.types.IrType.{IrType}
use Rattle.mlir_ir.specs.declared.types.IrType.TheVariants.{Int, Index}
use Rattle.arith_word.specs.declared.label.Label.{Label}
use Rattle.mlir_ir.specs.Operations.{OpList, nil, next, labels_of, inner_labels}
use Rattle.mlir_ir.specs.Rules.{same_type, same_types}
use Rattle.mlir_ir.specs.Runs.{Number, Binding, look, numbers_of, binds}
use Rattle.mlir_ir.specs.Typed.{Types, typed_from, with_types, types_after, knows, fits, all_fit}
use Rattle.mlir_ir.specs.Words.{bits_of}
use Rattle.scf_eval.specs.Machine.{Slots, number_at, seen}
use Rattle.scf_eval.proofs.Written.{Stored, Keeps, Reads}

-- labels from `at` on have the slots from `pos` on, n of them
abbrev pub Placed : Slots → ℕ → ℕ → ℕ → Type 0
Placed slot at pos n = (d : ℕ) → d < n → slot (at + d) ≡ pos + d

pub placed_part : (slot : Slots) (at pos n d m : ℕ) → d + m ≤ n → Placed slot at pos n → Placed slot (at + d) (pos + d) m
placed_part slot at pos n d m le p k lt =
    let a : at + d + k ≡ at + (d + k) = omega arith in
    let b : pos + d + k ≡ pos + (d + k) = omega arith in
    rw (a, b) (p (d + k) (omega arith))

-- a number of that type
pub record IsOf (ty : IrType) (n : Number) : Type 0 where
  pub wide : n.w ≡ bits_of ty
  pub below : n.v < 2 ^ bits_of ty

abbrev pub Fit : List IrType → List Number → Type 0
Fit [] [] = Unit {0}
Fit (ty ∷ tys) (n ∷ ns) = IsOf ty n × Fit tys ns
Fit _ _ = ⊥

pub fit_size : (tys : List IrType) (ns : List Number) → Fit tys ns → length ns ≡ length tys
fit_size [] [] f = refl
fit_size [] (n ∷ ns) f = absurd f
fit_size (ty ∷ tys) [] f = absurd f
fit_size (ty ∷ tys) (n ∷ ns) f = ap (λ k. suc k) (fit_size tys ns f.1)

-- the number of a label of that type stands at its slot, which is below `pos`
pub record Right (slot : Slots) (values : List Number) (pos : ℕ) (env : List Binding) (l : ℕ) (ty : IrType) : Type 0 where
  pub same : look env l ≡ number_at values (slot l)
  pub is : IsOf ty (look env l)
  pub early : slot l < pos

abbrev pub Agrees : Slots → Types → List Number → ℕ → List Binding → Type 0
Agrees slot T values pos env = (l : ℕ) (ty : IrType) → T l ≡ Some ty → Right slot values pos env l ty

pub agrees_kept : (slot : Slots) (T : Types) (values after : List Number) (pos pos2 : ℕ) (env : List Binding) → Keeps pos values after → pos ≤ pos2 → Agrees slot T values pos env → Agrees slot T after pos2 env
agrees_kept slot T values after pos pos2 env k le a l ty e =
    let r = a l ty e in
    record { same = r.same ∙ sym (k.old (slot l) r.early); is = r.is; early = omega (arith, r.early) }

-- types that a scope has besides

pub known_before : (T : Types) (at : ℕ) (tys : List IrType) (l : ℕ) (ty : IrType) → T l ≡ Some ty → with_types T at tys l ≡ Some ty
known_before T at tys l ty e = rw e refl

pub known_after : (T : Types) (at : ℕ) (ops : OpList) (l : ℕ) (ty : IrType) → T l ≡ Some ty → types_after T at ops l ≡ Some ty
known_after T at nil l ty e = e
known_after T at (next packs results kind rest) l ty e =
    known_after (with_types T (at + inner_labels kind) results) (at + (inner_labels kind + length results)) rest l ty (known_before T (at + inner_labels kind) results l ty e)

either_known : (x : Option IrType) (y : Option IrType) (ty : IrType) → option_or x y ≡ Some ty → (x ≡ Some ty) ⊎ (y ≡ Some ty)
either_known (Some t) y ty e = inl e
either_known None y ty e = inr e

pub eq_at : (a b : ℕ) → (a == b) ≡ true → a ≡ b
eq_at a b e = grind (arith, nat_tests, e)

pub ne_at : (a b : ℕ) → (a ≡ b → ⊥) → (a == b) ≡ false
ne_at a b h = grind (arith, nat_tests, h)

pub if_some : (b : Bool) (t ty : IrType) (x : Option IrType) → (if b then Some t else x) ≡ Some ty → ((b ≡ true) × (t ≡ ty)) ⊎ ((b ≡ false) × (x ≡ Some ty))
if_some true t ty x e = inl (refl, cc)
if_some false t ty x e = inr (refl, e)

-- a label that is typed from `at` on is one of those
pub typed_late : (slot : Slots) (at pos : ℕ) (tys : List IrType) (l : ℕ) (ty : IrType) → Placed slot at pos (length tys) → typed_from at tys l ≡ Some ty → pos ≤ slot l
typed_late slot at pos [] l ty p e = absurd (cc)
typed_late slot at pos (t ∷ tys) l ty p e =
    elim (if_some (at == l) t ty (typed_from (at + 1) tys l) e) as (λ _. pos ≤ slot l) [
      | inl h ↦ let same : at + 0 ≡ l = omega (arith, eq_at at l h.0) in let here : slot l ≡ pos + 0 = subst (λ (x : ℕ). slot x ≡ pos + 0) same (p 0 (omega arith)) in omega (arith, here)
      | inr h ↦ omega (arith, typed_late slot (at + 1) (pos + 1) tys l ty (placed_part slot at pos (length (t ∷ tys)) 1 (length tys) (omega arith) p) h.1)
    ]

pub known_late : (slot : Slots) (T : Types) (at pos : ℕ) (tys : List IrType) (l : ℕ) (ty : IrType) → Placed slot at pos (length tys) → with_types T at tys l ≡ Some ty → (T l ≡ Some ty) ⊎ (pos ≤ slot l)
known_late slot T at pos tys l ty p e =
    elim (either_known (T l) (typed_from at tys l) ty e) as (λ _. (T l ≡ Some ty) ⊎ (pos ≤ slot l)) [ inl k ↦ inl k | inr k ↦ inr (typed_late slot at pos tys l ty p k) ]

pub known_late_after : (slot : Slots) (T : Types) (at pos : ℕ) (ops : OpList) (l : ℕ) (ty : IrType) → Placed slot at pos (labels_of ops) → types_after T at ops l ≡ Some ty → (T l ≡ Some ty) ⊎ (pos ≤ slot l)
known_late_after slot T at pos nil l ty p e = inl e
known_late_after slot T at pos (next packs results kind rest) l ty p e =
    let n = inner_labels kind + length results in
    let U = with_types T (at + inner_labels kind) results in
    elim (known_late_after slot U (at + n) (pos + n) rest l ty (placed_part slot at pos (n + labels_of rest) n (labels_of rest) (omega arith) p) e) as (λ _. (T l ≡ Some ty) ⊎ (pos ≤ slot l)) [
      | inl k ↦ elim (known_late slot T (at + inner_labels kind) (pos + inner_labels kind) results l ty (placed_part slot at pos (n + labels_of rest) (inner_labels kind) (length results) (omega arith) p) k) as (λ _. (T l ≡ Some ty) ⊎ (pos ≤ slot l)) [ inl j ↦ inl j | inr j ↦ inr (omega arith) ]
      | inr k ↦ inr (omega arith)
    ]

-- values that are bound, one after another

binding : ℕ → Number → Binding
binding at n = record { label = at; number = n }

pub look_other : (at : ℕ) (ns : List Number) (env : List Binding) (l : ℕ) → ((i : ℕ) → i < length ns → at + i ≡ l → ⊥) → look (binds at ns env) l ≡ look env l
look_other at [] env l h = refl
look_other at (n ∷ ns) env l h =
    let first : (at == l) ≡ false = ne_at at l (λ e. h 0 (omega arith) (omega (arith, e))) in
    look_other (at + 1) ns (record { label = at; number = n } ∷ env) l (λ i lt e. h (i + 1) (omega arith) (omega arith)) ∙ rw first refl

pub bound_here : (slot : Slots) (values : List Number) (at pos : ℕ) (tys : List IrType) (ns : List Number) (env : List Binding) (l : ℕ) (ty : IrType) → Fit tys ns → Stored values pos ns → Placed slot at pos (length tys)
    → typed_from at tys l ≡ Some ty → Right slot values (pos + length tys) (binds at ns env) l ty
bound_here slot values at pos [] ns env l ty f s p e = absurd (cc)
bound_here slot values at pos (t ∷ tys) [] env l ty f s p e = absurd f
bound_here slot values at pos (t ∷ tys) (n ∷ ns) env l ty f s p e =
    let env1 : List Binding = record { label = at; number = n } ∷ env in
    elim (if_some (at == l) t ty (typed_from (at + 1) tys l) e) as (λ _. Right slot values (pos + length (t ∷ tys)) (binds (at + 1) ns env1) l ty) [
      | inl h ↦
          let is_at : at ≡ l = eq_at at l h.0 in
          let same : at + 0 ≡ l = omega (arith, is_at) in
          let here : slot l ≡ pos + 0 = subst (λ (x : ℕ). slot x ≡ pos + 0) same (p 0 (omega arith)) in
          let here0 : slot l ≡ pos = omega (arith, here) in
          let found : look (binds (at + 1) ns env1) l ≡ n = look_other (at + 1) ns env1 l (λ i lt e. omega (arith, is_at, e)) ∙ rw h.0 refl in
          record { same = found ∙ (sym s.0 ∙ ap (number_at values) (sym here0)); is = rw found (subst (λ (x : IrType). IsOf x n) h.1 f.0); early = omega (arith, here0) }
      | inr h ↦
          let r = bound_here slot values (at + 1) (pos + 1) tys ns env1 l ty f.1 s.1 (placed_part slot at pos (length (t ∷ tys)) 1 (length tys) (omega arith) p) h.1 in
          record { same = r.same; is = r.is; early = omega (arith, r.early) }
    ]

pub agrees_binds : (slot : Slots) (T : Types) (values after : List Number) (pos at pos1 : ℕ) (tys : List IrType) (ns : List Number) (env : List Binding) → Agrees slot T values pos env → Keeps pos values after → pos ≤ pos1
    → Stored after pos1 ns → Fit tys ns → Placed slot at pos1 (length tys) → Agrees slot (with_types T at tys) after (pos1 + length tys) (binds at ns env)
agrees_binds slot T values after pos at pos1 tys ns env a k le s f p = λ l ty e.
    elim (either_known (T l) (typed_from at tys l) ty e) as (λ _. Right slot after (pos1 + length tys) (binds at ns env) l ty) [
      | inl h ↦
          let r = a l ty h in
          let early : slot l < pos = r.early in
          let found : look (binds at ns env) l ≡ look env l = look_other at ns env l (λ i lt e.
          let here : slot l ≡ pos1 + i = subst (λ (x : ℕ). slot x ≡ pos1 + i) e (p i (omega (arith, lt, fit_size tys ns f))) in omega (arith, here, early, le)) in
          record { same = found ∙ (r.same ∙ sym (k.old (slot l) early)); is = rw found r.is; early = omega arith }
      | inr h ↦ bound_here slot after at pos1 tys ns env l ty f s p h
    ]

-- what the region of an operation leaves is seen outside as far as it was in scope there
pub agrees_outside : (slot : Slots) (T U : Types) (values after : List Number) (pos mid : ℕ) (env inner : List Binding) → Agrees slot T values pos env → Agrees slot U after mid inner
    → ((l : ℕ) (ty : IrType) → T l ≡ Some ty → U l ≡ Some ty) → Agrees slot T after pos inner
agrees_outside slot T U values after pos mid env inner a b more = λ l ty e. let r = b l ty (more l ty e) in record { same = r.same; is = r.is; early = (a l ty e).early }

-- uses

pub same_type_is : (a b : IrType) → same_type a b ≡ true → a ≡ b
same_type_is (Int a) (Int b) e = ap (λ w. Int w) (eq_at a b e)
same_type_is (Int a) Index e = absurd (cc)
same_type_is Index (Int b) e = absurd (cc)
same_type_is Index Index e = refl

pub same_types_are : (a b : List IrType) → length a ≡ length b → same_types a b ≡ true → a ≡ b
same_types_are [] [] n e = refl
same_types_are [] (y ∷ b) n e = absurd (omega arith)
same_types_are (x ∷ a) [] n e = absurd (omega arith)
same_types_are (x ∷ a) (y ∷ b) n e =
    let h = and_parts (same_type x y) (same_types a b) e in
    let first : x ≡ y = same_type_is x y h.0 in
    let rest : a ≡ b = same_types_are a b (omega arith) h.1 in
    cc

pub known_is : (x : Option IrType) → is_some x ≡ true → (ty : IrType) × (x ≡ Some ty)
known_is (Some ty) e = (ty, refl)
known_is None e = absurd (cc)

pub fits_is : (x : Option IrType) (ty t : IrType) → x ≡ Some t → option_map_or (same_type ty) x true ≡ true → t ≡ ty
fits_is x ty t e f = sym (same_type_is ty t (rw e at f))

module _ (slot : Slots) (T : Types) (values : List Number) (pos : ℕ) (env : List Binding) (a : Agrees slot T values pos env) where
  -- a use, of whichever type
  pub use_known : (l : Label) → knows T l ≡ true → (ty : IrType) × (T l.0 ≡ Some ty) × Right slot values pos env l.0 ty
  use_known l k = let t = known_is (T l.0) k in (t.0, t.1, a l.0 t.0 t.1)

  -- a use of that type
  pub use_fits : (l : Label) (ty : IrType) → knows T l ≡ true → fits T ty l ≡ true → Right slot values pos env l.0 ty
  use_fits l ty k f = let t = known_is (T l.0) k in subst (λ (x : IrType). Right slot values pos env l.0 x) (fits_is (T l.0) ty t.0 t.1 f) (a l.0 t.0 t.1)

  pub uses_read : (top : ℕ) (ls : List Label) → list_all (knows T) ls ≡ true → Reads slot values pos top env ls
  uses_read top [] k = tt
  uses_read top (l ∷ ls) k =
      let h = and_parts (knows T l) (list_all (knows T) ls) k in
      let r = (use_known l h.0).2 in
      (r.same, inl r.early, uses_read top ls h.1)

  pub uses_seen : (ls : List Label) → list_all (knows T) ls ≡ true → seen slot values ls ≡ numbers_of env ls
  uses_seen [] k = refl
  uses_seen (l ∷ ls) k =
      let h = and_parts (knows T l) (list_all (knows T) ls) k in
      let first : look env l.0 ≡ number_at values (slot l.0) = (use_known l h.0).2.same in
      let rest = uses_seen ls h.1 in
      cc

  pub uses_fit : (tys : List IrType) (ls : List Label) → length ls ≡ length tys → list_all (knows T) ls ≡ true → all_fit T tys ls ≡ true → Fit tys (numbers_of env ls)
  uses_fit [] [] n k f = tt
  uses_fit [] (l ∷ ls) n k f = absurd (omega arith)
  uses_fit (ty ∷ tys) [] n k f = absurd (omega arith)
  uses_fit (ty ∷ tys) (l ∷ ls) n k f =
      let h = and_parts (knows T l) (list_all (knows T) ls) k in
      let g = and_parts (fits T ty l) (all_fit T tys ls) f in
      ((use_fits l ty h.0 g.0).is, uses_fit tys ls (omega arith) h.1 g.1)
