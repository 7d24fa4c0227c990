-- Well-typed items use values of the function's arguments, of earlier items, and their own.
use Rattle.std.proofs.Common.{◌≡◌, ℕ, zero, suc, ◌+◌, ◌-◌, ◌*◌, ◌/◌, ◌%◌, ◌==◌, ◌<◌, ◌≤◌, ◌⊎◌, inl, inr, Bool, true, false, List, [], ◌∷◌, ◌++◌, length, get_or, refl, ap, ◌∙◌, sym, subst, arith, Option, Some, None, if◌then◌else◌}
use Rattle.std.proofs.lemmas.Bool.{and_parts, eqb-true}
use Rattle.std.proofs.lemmas.Nat.{div-add-mod', div-mul-add, mod-mul-add}
use Rattle.std.proofs.lemmas.List.Elements.{All-nil, All-cons}
use Rattle.std.specs.List.{All, list_all, list_any}
use Rattle.std.specs.Option.{option_or, is_some}
use Rattle.arith_word.specs.Labels.{label_at, func_of, item_of}
use Rattle.arith_word.specs.declared.label.Label.{Label}
use Rattle.mlir_ir.proofs.SizedFunctions.{well_formed}
use Rattle.mlir_ir.specs.declared.types.Arg.{Arg}
use Rattle.mlir_ir.specs.declared.types.Body.{Body}
use Rattle.mlir_ir.specs.declared.types.Func.{Func}
use Rattle.mlir_ir.specs.declared.types.IrType.{IrType}
use Rattle.mlir_ir.specs.Check.{IsWellFormed}
use Rattle.mlir_ir.specs.Operations.{OpKind, Simple, If, For, While, OpList, nil, next, labels_of, inner_labels}
use Rattle.mlir_ir.specs.Rules.{arg_types}
use Rattle.mlir_ir.specs.Sized.{SizedArgs, SizedItems}
use Rattle.mlir_ir.specs.Typed.{Types, typed_from, with_types, knows, uses, types_after, TypedOps, TypedRegions, TypedItems, untyped, args_typed}
use Rattle.mlir_ir.specs.View.{view_items}
use Rattle.mlir_ir.specs.WellFormed.{IsTypedBody, IsSizedBody}
use Rattle.item_uses.specs.Uses.{ops_uses, inner_uses, uses_item, item_at, body_items, func_items}
use Rattle.item_uses.proofs.AffectedChains.{GoBack}
use Rattle.item_uses.proofs.FoundUses.{or_cases, stands_in}

-- ---- labels in a range

abbrev pub IsWithin : ℕ → ℕ → ℕ → Type 0
IsWithin low high l = (low ≤ l) × (l < high)

abbrev pub AreWithin : ℕ → ℕ → List Label → Type 0
AreWithin low high [] = Unit {0}
AreWithin low high (l ∷ ls) = IsWithin low high l.0 × AreWithin low high ls

within_append : (low high : ℕ) (xs ys : List Label) → AreWithin low high xs → AreWithin low high ys → AreWithin low high (xs ++ ys)
within_append low high [] ys p q = q
within_append low high (x ∷ xs) ys p q = (p.0, within_append low high xs ys p.1 q)

within_more : (low a b : ℕ) (xs : List Label) → a ≤ b → AreWithin low a xs → AreWithin low b xs
within_more low a b [] le p = tt
within_more low a b (x ∷ xs) le p = let lt = p.0.1 in ((p.0.0, omega (arith, lt, le)), within_more low a b xs le p.1)

-- ---- scopes

length_types : (args : List Arg) → length (arg_types args) ≡ length args
length_types [] = refl
length_types (arg ∷ args) = let e = length_types args in omega (arith, e)

either_known : (x y : Option IrType) → is_some (option_or x y) ≡ true → (is_some x ≡ true) ⊎ (is_some y ≡ true)
either_known (Some t) y h = inl refl
either_known None y h = inr h

if_known : (b : Bool) (ty : IrType) (x : Option IrType) → is_some (if b then Some ty else x) ≡ true → (b ≡ true) ⊎ (is_some x ≡ true)
if_known true ty x h = inl refl
if_known false ty x h = inr h

typed_within : (at : ℕ) (tys : List IrType) (l : ℕ) → is_some (typed_from at tys l) ≡ true → IsWithin at (at + length tys) l
typed_within at [] l h = absurd (cc)
typed_within at (ty ∷ tys) l h =
    elim (if_known (at == l) ty (typed_from (at + 1) tys l) h) as (λ _. IsWithin at (at + length (ty ∷ tys)) l) [
      | inl e ↦ (let same = eqb-true at l e in (omega (arith, same), omega (arith, same)))
      | inr k ↦ (let p = typed_within (at + 1) tys l k in let lo = p.0 in let hi = p.1 in (omega (arith, lo), omega (arith, hi)))
    ]

module _ (low : ℕ) where
  -- all labels of a scope are in a range
  abbrev KnowsWithin : Types → ℕ → Type 0
  KnowsWithin T at = (l : ℕ) → is_some (T l) ≡ true → IsWithin low at l

  knows_more : (T : Types) (a b : ℕ) → a ≤ b → KnowsWithin T a → KnowsWithin T b
  knows_more T a b le h l k = let p = h l k in let lt = p.1 in (p.0, omega (arith, lt, le))

  with_more : (T : Types) (at : ℕ) (tys : List IrType) → low ≤ at → KnowsWithin T at → KnowsWithin (with_types T at tys) (at + length tys)
  with_more T at tys le h l k =
      elim (either_known (T l) (typed_from at tys l) k) as (λ _. IsWithin low (at + length tys) l) [
        | inl g ↦ (let p = h l g in let lt = p.1 in (p.0, omega (arith, lt)))
        | inr g ↦ (let p = typed_within at tys l g in let lo = p.0 in (omega (arith, lo, le), p.1))
      ]

  with_args : (T : Types) (at : ℕ) (args : List Arg) → low ≤ at → KnowsWithin T at → KnowsWithin (with_types T at (arg_types args)) (at + length args)
  with_args T at args le h = let e = length_types args in knows_more (with_types T at (arg_types args)) (at + length (arg_types args)) (at + length args) (omega (arith, e)) (with_more T at (arg_types args) le h)

  after_results : (T : Types) (at : ℕ) (kind : OpKind) (results : List IrType) → low ≤ at → KnowsWithin T at
      → KnowsWithin (with_types T (at + inner_labels kind) results) (at + (inner_labels kind + length results))
  after_results T at kind results le h =
      let here = at + inner_labels kind in
      knows_more (with_types T here results) (here + length results) (at + (inner_labels kind + length results)) (omega arith) (with_more T here results (omega (arith, le)) (knows_more T at here (omega arith) h))

  -- behind operations
  after_ops : (ops : OpList) (T : Types) (at : ℕ) → low ≤ at → KnowsWithin T at → KnowsWithin (types_after T at ops) (at + labels_of ops)
  after_ops nil T at le h = knows_more T at (at + 0) (omega arith) h
  after_ops (next packs results kind rest) T at le h =
      let mid = at + (inner_labels kind + length results) in
      let U = with_types T (at + inner_labels kind) results in
      knows_more (types_after U mid rest) (mid + labels_of rest) (at + labels_of (next packs results kind rest)) (omega arith) (after_ops rest U mid (omega (arith, le)) (after_results T at kind results le h))

  known_within : (T : Types) (at : ℕ) (ls : List Label) → KnowsWithin T at → list_all (knows T) ls ≡ true → AreWithin low at ls
  known_within T at [] h k = tt
  known_within T at (l ∷ ls) h k =
      let p = and_parts (knows T l) (list_all (knows T) ls) k in
      (h l.0 p.0, known_within T at ls h p.1)

  -- ---- operations

  mutual
    ops_within : (ops : OpList) (T : Types) (at : ℕ) → low ≤ at → KnowsWithin T at → TypedOps T at ops → AreWithin low (at + labels_of ops) (ops_uses ops)
    ops_within nil T at le h t = tt
    ops_within (next packs results kind rest) T at le h t =
        let mid = at + (inner_labels kind + length results) in
        let U = with_types T (at + inner_labels kind) results in
        let behind = at + labels_of (next packs results kind rest) in
        within_append low behind (uses kind ++ inner_uses kind) (ops_uses rest)
        (within_append low behind (uses kind) (inner_uses kind)
        (within_more low at behind (uses kind) (omega arith) (known_within T at (uses kind) h t.0.in_scope))
        (within_more low (at + inner_labels kind) behind (inner_uses kind) (omega arith) (inner_within kind T results at le h t.1)))
        (within_more low (mid + labels_of rest) behind (ops_uses rest) (omega arith) (ops_within rest U mid (omega (arith, le)) (after_results T at kind results le h) t.2))

    inner_within : (kind : OpKind) (T : Types) (results : List IrType) (at : ℕ) → low ≤ at → KnowsWithin T at → TypedRegions T at results kind → AreWithin low (at + inner_labels kind) (inner_uses kind)
    inner_within (Simple does) T results at le h r = tt
    inner_within (If c first firsts has_else other others) T results at le h r =
        let high = at + inner_labels (If c first firsts has_else other others) in
        let behind = at + labels_of first in
        let more = knows_more T at behind (omega arith) h in
        within_append low high ((ops_uses first ++ firsts) ++ ops_uses other) others
        (within_append low high (ops_uses first ++ firsts) (ops_uses other)
        (within_append low high (ops_uses first) firsts
        (within_more low behind high (ops_uses first) (omega arith) (ops_within first T at le h r.0))
        (within_more low behind high firsts (omega arith) (known_within (types_after T at first) behind firsts (after_ops first T at le h) r.1.in_scope)))
        (within_more low (behind + labels_of other) high (ops_uses other) (omega arith) (ops_within other T behind (omega (arith, le)) more r.2)))
        (within_more low (behind + labels_of other) high others (omega arith) (known_within (types_after T behind other) (behind + labels_of other) others (after_ops other T behind (omega (arith, le)) more) r.3.in_scope))
    inner_within (For lower upper step iv args inits body ends) T results at le h r =
        let high = at + inner_labels (For lower upper step iv args inits body ends) in
        let V = with_types T (at + 1) (iv.ty ∷ []) in
        let U = with_types V (at + 2) (arg_types args) in
        let in_body = at + 2 + length args in
        let one : KnowsWithin V (at + 1 + length (iv.ty ∷ [])) = with_more T (at + 1) (iv.ty ∷ []) (omega (arith, le)) (knows_more T at (at + 1) (omega arith) h) in
        let all : KnowsWithin U in_body = with_args V (at + 2) args (omega (arith, le)) (knows_more V (at + 1 + length (iv.ty ∷ [])) (at + 2) (omega arith) one) in
        let room : low ≤ in_body = omega (arith, le) in
        within_append low high (ops_uses body) ends
        (within_more low (in_body + labels_of body) high (ops_uses body) (omega arith) (ops_within body U in_body room all r.0))
        (within_more low (in_body + labels_of body) high ends (omega arith) (known_within (types_after U in_body body) (in_body + labels_of body) ends (after_ops body U in_body room all) r.1.in_scope))
    inner_within (While args inits before passed cond after_args after ends) T results at le h r =
        let high = at + inner_labels (While args inits before passed cond after_args after ends) in
        let in_before = at + 1 + length args in
        let params = in_before + labels_of before in
        let in_after = params + length after_args in
        let behind = in_after + labels_of after in
        let U = with_types T (at + 1) (arg_types args) in
        let V = with_types T params (arg_types after_args) in
        let all : KnowsWithin U in_before = with_args T (at + 1) args (omega (arith, le)) (knows_more T at (at + 1) (omega arith) h) in
        let all2 : KnowsWithin V in_after = with_args T params after_args (omega (arith, le)) (knows_more T at params (omega arith) h) in
        let room : low ≤ in_before = omega (arith, le) in
        let room2 : low ≤ in_after = omega (arith, le) in
        within_append low high ((ops_uses before ++ cond ∷ passed) ++ ops_uses after) ends
        (within_append low high (ops_uses before ++ cond ∷ passed) (ops_uses after)
        (within_append low high (ops_uses before) (cond ∷ passed)
        (within_more low params high (ops_uses before) (omega arith) (ops_within before U in_before room all r.0))
        (within_more low params high (cond ∷ passed) (omega arith) (known_within (types_after U in_before before) params (cond ∷ passed) (after_ops before U in_before room all) r.1.in_scope)))
        (within_more low behind high (ops_uses after) (omega arith) (ops_within after V in_after room2 all2 r.3)))
        (within_more low behind high ends (omega arith) (known_within (types_after V in_after after) behind ends (after_ops after V in_after room2 all2) r.4.in_scope))

  -- ---- items

  items_within : (func k : ℕ) (items : List OpList) (T : Types) → low ≤ label_at func k 0 → KnowsWithin T (label_at func k 0) → SizedItems items → TypedItems T func k items
      → (p : ℕ) → AreWithin low (label_at func (k + p + 1) 0) (ops_uses (get_or items p nil))
  items_within func k [] T le h s t p = tt
  items_within func k (ops ∷ items) T le h s t zero =
      let at = label_at func k 0 in
      let few = s.0.labels in
      within_more low (at + labels_of ops) (label_at func (k + 0 + 1) 0) (ops_uses ops) (omega (arith, few)) (ops_within ops T at le h t.0)
  items_within func k (ops ∷ items) T le h s t (suc p) =
      let at = label_at func k 0 in
      let few = s.0.labels in
      let U = types_after T at ops in
      let room : at + labels_of ops ≤ label_at func (k + 1) 0 = omega (arith, few) in
      let here : k + 1 + p + 1 ≡ k + suc p + 1 = omega arith in
      subst (λ n. AreWithin low (label_at func n 0) (ops_uses (get_or items p nil))) here
      (items_within func (k + 1) items U (omega (arith, le)) (knows_more U (at + labels_of ops) (label_at func (k + 1) 0) room (after_ops ops T at le h)) s.1 t.1 p)

none_known : (low at l : ℕ) → is_some (untyped l) ≡ true → IsWithin low at l
none_known low at l k = absurd (cc)

-- ---- numbers of items

-- a label of a function's first items is one of an item among them
pub item_number : (func n l : ℕ) → n < 1024 → label_at func 0 0 ≤ l → l < label_at func (n + 1) 0 → item_of l ≤ n
item_number func n l few low high =
    let q = l / 16384 in
    let parts = div-add-mod' l 16384 in
    let m = q - func * 1024 in
    let whole : q ≡ func * 1024 + m = omega (arith, parts, low, high) in
    let small : m ≤ n = omega (arith, parts, low, high) in
    let e : q % 1024 ≡ m = ap (λ x. x % 1024) whole ∙ mod-mul-add func 1024 m (omega (arith, small, few)) in
    omega (arith, e, small)

-- and one of that function
pub func_number : (func n l : ℕ) → n < 1024 → label_at func 0 0 ≤ l → l < label_at func (n + 1) 0 → func_of l ≡ func
func_number func n l few low high =
    let r = l - func * 16777216 in
    let whole : l ≡ func * 16777216 + r = omega (arith, low) in
    ap (λ x. x / 16777216) whole ∙ div-mul-add func 16777216 r (omega (arith, low, high, few))

abbrev pub IsOf : ℕ → Label → Type 0
IsOf func label = func_of label.0 ≡ func

own_within : (func n : ℕ) (ls : List Label) → n < 1024 → AreWithin (label_at func 0 0) (label_at func (n + 1) 0) ls → All (IsOf func) ls
own_within func n [] few h = All-nil (IsOf func)
own_within func n (l ∷ ls) few h = All-cons (IsOf func) l ls (func_number func n l.0 few h.0.0 h.0.1) (own_within func n ls few h.1)

uses_within : (func n m : ℕ) (ls : List Label) → n < 1024 → AreWithin (label_at func 0 0) (label_at func (n + 1) 0) ls → list_any (stands_in m) ls ≡ true → m ≤ n
uses_within func n m [] few h u = absurd (cc)
uses_within func n m (l ∷ ls) few h u =
    elim (or_cases (stands_in m l) (list_any (stands_in m) ls) u) as (λ _. m ≤ n) [
      | inl e ↦ (let same = eqb-true (item_of l.0) m e in let le = item_number func n l.0 few h.0.0 h.0.1 in omega (arith, same, le))
      | inr e ↦ uses_within func n m ls few h.1 e
    ]

past_end : (items : List OpList) (p : ℕ) → length items ≤ p → get_or items p nil ≡ nil
past_end [] p le = refl
past_end (ops ∷ items) zero le = absurd (omega (arith, le))
past_end (ops ∷ items) (suc p) le = past_end items p (omega (arith, le))

inside : (items : List OpList) (p : ℕ) → (p < length items) ⊎ (length items ≤ p)
inside [] p = inr (omega arith)
inside (ops ∷ items) zero = inl (omega arith)
inside (ops ∷ items) (suc p) = elim (inside items p) as (λ _. (suc p < length (ops ∷ items)) ⊎ (length (ops ∷ items) ≤ suc p)) [ inl lt ↦ inl (omega (arith, lt)) | inr le ↦ inr (omega (arith, le)) ]

-- an item that is none has no uses
module _ (Claim : OpList → Type 0) (none : Claim nil) where
  each_item : (items : List OpList) → ((p : ℕ) → p < length items → Claim (get_or items p nil)) → (n : ℕ) → Claim (item_at items n)
  each_item items h zero = none
  each_item items h (suc p) = elim (inside items p) as (λ _. Claim (get_or items p nil)) [ inl lt ↦ h p lt | inr le ↦ subst Claim (sym (past_end items p le)) none ]

-- the uses of the item at a place
body_within : (f : Func) (body : Body) → SizedArgs f.args → IsSizedBody (Some body) → IsTypedBody f (Some body) → (p : ℕ)
    → AreWithin (label_at f.index 0 0) (label_at f.index (suc p + 1) 0) (ops_uses (get_or (view_items body.items) p nil))
body_within f body a s t p =
    let items = view_items body.items in
    let low = label_at f.index 0 0 in
    let few_args = a.few in
    let T = args_typed f.index f.args in
    let known = knows_more low T (low + length f.args) (label_at f.index 1 0) (omega (arith, few_args)) (with_args low untyped low f.args (omega arith) (none_known low low)) in
    let here : 1 + p + 1 ≡ suc p + 1 = omega arith in
    subst (λ n. AreWithin low (label_at f.index n 0) (ops_uses (get_or items p nil))) here (items_within low f.index 1 items T (omega arith) known s.inside t.inside p)

body_own : (f : Func) (body : Option Body) → SizedArgs f.args → IsSizedBody body → IsTypedBody f body → (n : ℕ) → All (IsOf f.index) (ops_uses (item_at (body_items body) n))
body_own f None a s t = each_item (λ ops. All (IsOf f.index) (ops_uses ops)) (All-nil (IsOf f.index)) [] (λ p lt. absurd (omega (arith, lt)))
body_own f (Some body) a s t =
    let items = view_items body.items in
    let few = s.few in
    each_item (λ ops. All (IsOf f.index) (ops_uses ops)) (All-nil (IsOf f.index)) items
    (λ p lt. own_within f.index (suc p) (ops_uses (get_or items p nil)) (omega (arith, lt, few)) (body_within f body a s t p))

body_back : (f : Func) (body : Option Body) → SizedArgs f.args → IsSizedBody body → IsTypedBody f body → GoBack (body_items body)
body_back f None a s t zero m u = absurd (cc)
body_back f None a s t (suc n) m u = absurd (cc)
body_back f (Some body) a s t zero m u = absurd (cc)
body_back f (Some body) a s t (suc p) m u =
    let items = view_items body.items in
    let few = s.few in
    elim (inside items p) as (λ _. m ≤ suc p) [
      | inl lt ↦ uses_within f.index (suc p) m (ops_uses (get_or items p nil)) (omega (arith, lt, few)) (body_within f body a s t p) u
      | inr le ↦ no_use (subst (λ o. uses_item o m ≡ true) (past_end items p le) u)
    ]
  where
    no_use : false ≡ true → m ≤ suc p
    no_use h = absurd (cc)

pub uses_back : (f : Func) → IsWellFormed f → GoBack (func_items f)
uses_back f h =
    let w = well_formed f h in
    body_back f f.body w.2.args_sized w.2.inside w.0

pub uses_own : (f : Func) → IsWellFormed f → (n : ℕ) → All (IsOf f.index) (ops_uses (item_at (func_items f) n))
uses_own f h =
    let w = well_formed f h in
    body_own f f.body w.2.args_sized w.2.inside w.0
