-- A copy of a loop's body is well typed where its variable and its arguments have values of their types.
use Rattle.std.proofs.Common.{◌≡◌, ℕ, ◌+◌, ◌-◌, ◌%◌, ◌^◌, ◌<◌, ◌≤◌, ◌==◌, ◌&&◌, ◌||◌, inl, inr, nat_le, nat_lt, true, false, List, [], ◌∷◌, ◌++◌, length, refl, ap, ◌∙◌, sym, subst, arith, mod-lt, Option, Some, None}
use Rattle.std.proofs.lemmas.Nat.{pow_pos}
use Rattle.mlir_ir.specs.Words.{bits_of}
use Rattle.std.proofs.lemmas.Bool.{and_from, cases_eq, eqb-true, and_parts, eq-eqb, ne_eqb}
use Rattle.std.proofs.lemmas.Bool.Decides.{nat_tests}
use Rattle.std.specs.List.{list_all}
use Rattle.std.specs.Option.{is_some, option_map_or}
use Rattle.arith_word.specs.declared.label.Label.{Label}
use Rattle.mlir_ir.specs.declared.types.Arg.{Arg}
use Rattle.mlir_ir.specs.declared.types.IrType.{IrType}
use Rattle.mlir_ir.specs.declared.types.IrType.TheVariants.{Int, Index}
use Rattle.mlir_ir.specs.declared.types.Pack.{Pack}
use Rattle.mlir_ir.specs.Operations.{OpKind, Simple, Const, For, OpList, labels_of}
use Rattle.mlir_ir.specs.Rules.{same_type, same_types, arg_types, packs_hold}
use Rattle.mlir_ir.specs.Typed.{Types, typed_from, with_types, types_after, knows, fits, all_fit, TypedOp, TypedOps, TypedRegions}
use Rattle.pass_copy.specs.Renamed.{relabels, Naming, rename_ops}
use Rattle.pass_copy.specs.Renaming.{span, links, renamed}
use Rattle.pass_copy.specs.declared.renaming.Span.{Span}
use Rattle.pass_copy.proofs.CarriedTypes.{Carries, Below, Moves, below_known, typed_there, below_with, below_after, or_some, scope_inside}
use Rattle.pass_copy.proofs.TypedRenamed.{ops_kept, carries_after}
use Rattle.pass_unroll.specs.Copies.{ForLoop, copy_spans, copy_ends}
use Rattle.pass_copy.proofs.RegionCounts.{yields_all, some_ends, all_ends}
use Rattle.pass_copy.proofs.RenamedOps.{arg_types_length, rename_labels, same}

-- types

pub same_type_self : (a : IrType) → same_type a a ≡ true
same_type_self (Int a) = eq-eqb a a refl
same_type_self Index = refl

same_type_is : (a b : IrType) → same_type a b ≡ true → a ≡ b
same_type_is (Int a) (Int b) e = ap Int (eqb-true a b e)
same_type_is (Int a) Index e = cc
same_type_is Index (Int b) e = cc
same_type_is Index Index e = refl

same_types_are : (xs ys : List IrType) → length xs ≡ length ys → same_types xs ys ≡ true → xs ≡ ys
same_types_are [] [] l e = refl
same_types_are [] (b ∷ ys) l e = absurd (omega arith)
same_types_are (a ∷ xs) [] l e = absurd (omega arith)
same_types_are (a ∷ xs) (b ∷ ys) l e =
    let p = and_parts (same_type a b) (same_types xs ys) e in
    let q : a ≡ b = same_type_is a b p.0 in
    let r : xs ≡ ys = same_types_are xs ys (omega arith) p.1 in
    λ j. q j ∷ r j

same_types_self : (xs : List IrType) → same_types xs xs ≡ true
same_types_self [] = refl
same_types_self (x ∷ xs) = and_from _ _ (same_type_self x) (same_types_self xs)

has_it : (o : Option IrType) (ty : IrType) → is_some o ≡ true → option_map_or (same_type ty) o true ≡ true → o ≡ Some ty
has_it None ty e f = cc
has_it (Some t) ty e f = ap Some (sym (same_type_is ty t f))

pub fits_it : (T : Types) (ty : IrType) (l : Label) → T l.0 ≡ Some ty → fits T ty l ≡ true
fits_it T ty l e = ap (λ o. option_map_or (same_type ty) o true) e ∙ same_type_self ty

-- labels of these types, one each
abbrev pub Have : Types → List IrType → List Label → Type 0
Have T [] [] = Unit {0}
Have T [] (l ∷ ls) = ⊥
Have T (ty ∷ tys) [] = ⊥
Have T (ty ∷ tys) (l ∷ ls) = (T l.0 ≡ Some ty) × Have T tys ls

pub have_from : (T : Types) (tys : List IrType) (ls : List Label) → length ls ≡ length tys → list_all (knows T) ls ≡ true → all_fit T tys ls ≡ true → Have T tys ls
have_from T [] [] n s t = tt
have_from T [] (l ∷ ls) n s t = absurd (omega arith)
have_from T (ty ∷ tys) [] n s t = absurd (omega arith)
have_from T (ty ∷ tys) (l ∷ ls) n s t =
    let p = and_parts (knows T l) (list_all (knows T) ls) s in
    let q = and_parts (fits T ty l) (all_fit T tys ls) t in
    (has_it (T l.0) ty p.0 q.0, have_from T tys ls (omega arith) p.1 q.1)

pub have_length : (T : Types) (tys : List IrType) (ls : List Label) → Have T tys ls → length ls ≡ length tys
have_length T [] [] h = refl
have_length T [] (l ∷ ls) h = absurd h
have_length T (ty ∷ tys) [] h = absurd h
have_length T (ty ∷ tys) (l ∷ ls) h = let e = have_length T tys ls h.1 in omega (arith, e)

pub have_known : (T : Types) (tys : List IrType) (ls : List Label) → Have T tys ls → list_all (knows T) ls ≡ true
have_known T [] [] h = refl
have_known T [] (l ∷ ls) h = absurd h
have_known T (ty ∷ tys) [] h = absurd h
have_known T (ty ∷ tys) (l ∷ ls) h = and_from _ _ (ap is_some h.0) (have_known T tys ls h.1)

pub have_fit : (T : Types) (tys : List IrType) (ls : List Label) → Have T tys ls → all_fit T tys ls ≡ true
have_fit T [] [] h = refl
have_fit T [] (l ∷ ls) h = absurd h
have_fit T (ty ∷ tys) [] h = absurd h
have_fit T (ty ∷ tys) (l ∷ ls) h = and_from _ _ (fits_it T ty l h.0) (have_fit T tys ls h.1)

pub carried_one : (g : ℕ → ℕ) (T T' : Types) (l : ℕ) (ty : IrType) → Carries g T T' → T l ≡ Some ty → T' (g l) ≡ Some ty
carried_one g T T' l ty c e = c l (ap is_some e) ∙ e

pub have_carried : (g : ℕ → ℕ) (T T' : Types) (tys : List IrType) (ls : List Label) → Carries g T T' → Have T tys ls → Have T' tys (relabels g ls)
have_carried g T T' [] [] c h = tt
have_carried g T T' [] (l ∷ ls) c h = absurd h
have_carried g T T' (ty ∷ tys) [] c h = absurd h
have_carried g T T' (ty ∷ tys) (l ∷ ls) c h = (carried_one g T T' l.0 ty c h.0, have_carried g T T' tys ls c h.1)

pub have_more : (T T' : Types) (tys : List IrType) (ls : List Label) → Carries same T T' → Have T tys ls → Have T' tys ls
have_more T T' [] [] c h = tt
have_more T T' [] (l ∷ ls) c h = absurd h
have_more T T' (ty ∷ tys) [] c h = absurd h
have_more T T' (ty ∷ tys) (l ∷ ls) c h = (carried_one same T T' l.0 ty c h.0, have_more T T' tys ls c h.1)

-- loops

pub record TypedFor (T : Types) (at : ℕ) (packs : List Pack) (results : List IrType) (lower upper step : Label) (iv : Arg) (args : List Arg) (inits : List Label) (body : OpList)
    (ends : List Label) : Type 0 where
  pub lower_is : T lower.0 ≡ Some iv.ty
  pub upper_is : T upper.0 ≡ Some iv.ty
  pub step_is : T step.0 ≡ Some iv.ty
  pub inits_are : Have T (arg_types args) inits
  pub types_are : arg_types args ≡ results
  pub packed : packs_hold packs (length results) ≡ true
  pub inside : TypedOps (scope_inside T at iv args) (at + 2 + length args) body
  pub ends_are : Have (types_after (scope_inside T at iv args) (at + 2 + length args) body) results ends

module _ (T : Types) (at : ℕ) (packs : List Pack) (results : List IrType) (lower upper step : Label) (iv : Arg) (args : List Arg) (inits : List Label) (body : OpList) (ends : List Label) where
  abbrev the_kind : OpKind
  the_kind = For lower upper step iv args inits body ends

  pub for_from : TypedOp T packs results (For lower upper step iv args inits body ends) → TypedRegions T at results (For lower upper step iv args inits body ends)
      → TypedFor T at packs results lower upper step iv args inits body ends
  for_from h h2 =
      let p = and_parts (length inits == length args && length args == length results) (length results == 0 || nat_lt 0 (length ends)) h.counted in
      let q = and_parts (length inits == length args) (length args == length results) p.0 in
      let n1 = eqb-true (length inits) (length args) q.0 in
      let n2 = eqb-true (length args) (length results) q.1 in
      let n3 = yields_all (length ends) (length results) h2.1.counted p.1 in
      let a1 = and_parts (knows T lower) (list_all (knows T) (upper ∷ step ∷ inits)) h.in_scope in
      let a2 = and_parts (knows T upper) (list_all (knows T) (step ∷ inits)) a1.1 in
      let a3 = and_parts (knows T step) (list_all (knows T) inits) a2.1 in
      let header = list_all (fits T iv.ty) (lower ∷ upper ∷ step ∷ []) in
      let a = and_parts (header && all_fit T (arg_types args) inits) (same_types (arg_types args) results) h.typed in
      let d = and_parts header (all_fit T (arg_types args) inits) a.0 in
      let b1 = and_parts (fits T iv.ty lower) (list_all (fits T iv.ty) (upper ∷ step ∷ [])) d.0 in
      let b2 = and_parts (fits T iv.ty upper) (list_all (fits T iv.ty) (step ∷ [])) b1.1 in
      let b3 = and_parts (fits T iv.ty step) true b2.1 in
      record {
        lower_is = has_it (T lower.0) iv.ty a1.0 b1.0;
        upper_is = has_it (T upper.0) iv.ty a2.0 b2.0;
        step_is = has_it (T step.0) iv.ty a3.0 b3.0;
        inits_are = have_from T (arg_types args) inits (n1 ∙ sym (arg_types_length args)) a3.1 d.1;
        types_are = same_types_are (arg_types args) results (arg_types_length args ∙ n2) a.1;
        packed = h.packed;
        inside = h2.0;
        ends_are = have_from _ results ends n3 h2.1.in_scope h2.1.typed;
      }

  module _ (h : TypedFor T at packs results lower upper step iv args inits body ends) where
    pub lengths : (length inits ≡ length args) × (length args ≡ length results) × (length ends ≡ length results)
    lengths = (have_length T (arg_types args) inits h.inits_are ∙ arg_types_length args, sym (arg_types_length args) ∙ ap length h.types_are, have_length _ results ends h.ends_are)

    pub for_op : TypedOp T packs results (For lower upper step iv args inits body ends)
    for_op = record {
      in_scope = and_from _ _ (ap is_some h.lower_is) (and_from _ _ (ap is_some h.upper_is) (and_from _ _ (ap is_some h.step_is) (have_known T (arg_types args) inits h.inits_are)));
      typed =
          and_from _ _
          (and_from _ _ (and_from _ _ (fits_it T iv.ty lower h.lower_is) (and_from _ _ (fits_it T iv.ty upper h.upper_is) (and_from _ _ (fits_it T iv.ty step h.step_is) refl))) (have_fit T (arg_types args) inits h.inits_are))
          (subst (λ tys. same_types (arg_types args) tys ≡ true) h.types_are (same_types_self (arg_types args)));
      packed = h.packed;
      counted = and_from _ _ (and_from _ _ (eq-eqb _ _ lengths.0) (eq-eqb _ _ lengths.1)) (some_ends _ _ lengths.2);
    }

    pub for_regions : TypedRegions T at results (For lower upper step iv args inits body ends)
    for_regions = (h.inside, record { in_scope = have_known _ results ends h.ends_are; typed = have_fit _ results ends h.ends_are; counted = all_ends _ _ lengths.2 })

-- constants

number_fits : (v w : ℕ) → nat_lt (v % 2 ^ w) (2 ^ w) ≡ true
number_fits v w = let p = pow_pos w in let lt : v % 2 ^ w < 2 ^ w = mod-lt v p in grind (arith, nat_tests)

pub constant_op : (T : Types) (name : List ℕ) (ty : IrType) (v : ℕ) → TypedOp T (record { name = name; count = 1 } ∷ []) (ty ∷ []) (Simple (Const (v % 2 ^ bits_of ty)))
constant_op T name ty v = record { in_scope = refl; typed = number_fits v (bits_of ty); packed = refl; counted = refl }

pub one_is : (T : Types) (at : ℕ) (ty : IrType) → Below at T → with_types T (at + 0) (ty ∷ []) at ≡ Some ty
one_is T at ty b = let e : at + 0 ≡ at = omega arith in rw (b at (omega arith), eq-eqb (at + 0) at e) refl

pub below_one : (T : Types) (at : ℕ) (ty : IrType) → Below at T → Below (at + 1) (with_types T (at + 0) (ty ∷ []))
below_one T at ty b = below_with at (at + 0) (at + 1) (ty ∷ []) T b (omega arith) (omega arith)

-- renamings by spans

in_span : (a n l : ℕ) → a ≤ l → l < a + n → (nat_le a l && nat_lt l (a + n)) ≡ true
in_span a n l h g = grind (arith, nat_tests)

below_span : (a n l : ℕ) → l < a → (nat_le a l && nat_lt l (a + n)) ≡ false
below_span a n l h = grind (arith, nat_tests)

past_span : (a n l : ℕ) → a + n ≤ l → (nat_le a l && nat_lt l (a + n)) ≡ false
past_span a n l h = grind (arith, nat_tests)

pub span_in : (a n to : ℕ) (rest : List Span) (l : ℕ) → a ≤ l → l < a + n → renamed (span a n to ∷ rest) l ≡ l - a + to
span_in a n to rest l h g = rw (in_span a n l h g) refl

pub span_below : (a n to : ℕ) (rest : List Span) (l : ℕ) → l < a → renamed (span a n to ∷ rest) l ≡ renamed rest l
span_below a n to rest l h = rw (below_span a n l h) refl

pub span_past : (a n to : ℕ) (rest : List Span) (l : ℕ) → a + n ≤ l → renamed (span a n to ∷ rest) l ≡ renamed rest l
span_past a n to rest l h = rw (past_span a n l h) refl

pub links_below : (x : ℕ) (ls : List Label) (rest : List Span) (l : ℕ) → l < x → renamed (links x ls ++ rest) l ≡ renamed rest l
links_below x [] rest l h = refl
links_below x (y ∷ ls) rest l h = span_below x 1 y.0 (links (x + 1) ls ++ rest) l h ∙ links_below (x + 1) ls rest l (omega arith)

pub links_past : (x : ℕ) (ls : List Label) (rest : List Span) (l : ℕ) → x + length ls ≤ l → renamed (links x ls ++ rest) l ≡ renamed rest l
links_past x [] rest l h = refl
links_past x (y ∷ ls) rest l h = span_past x 1 y.0 (links (x + 1) ls ++ rest) l (omega arith) ∙ links_past (x + 1) ls rest l (omega arith)

pub linked : (T : Types) (x : ℕ) (tys : List IrType) (ls : List Label) (rest : List Span) → Have T tys ls → (l : ℕ) → is_some (typed_from x tys l) ≡ true
    → T (renamed (links x ls ++ rest) l) ≡ typed_from x tys l
linked T x [] ls rest h l e = cc
linked T x (ty ∷ tys) [] rest h l e = absurd h
linked T x (ty ∷ tys) (y ∷ ls) rest h l e = elim (cases_eq x l) [
  | inl m ↦
      let r : renamed (links x (y ∷ ls) ++ rest) l ≡ l - x + y.0 = span_in x 1 y.0 (links (x + 1) ls ++ rest) l (omega arith) (omega arith) in
      let z : l - x + y.0 ≡ y.0 = omega arith in
      rw (eq-eqb x l m) (ap T (r ∙ z) ∙ h.0)
  | inr m ↦
      let s : is_some (typed_from (x + 1) tys l) ≡ true = rw (ne_eqb x l m) at e in
      let w = typed_there (x + 1) tys l s in
      let r : renamed (links x (y ∷ ls) ++ rest) l ≡ renamed (links (x + 1) ls ++ rest) l = span_past x 1 y.0 (links (x + 1) ls ++ rest) l w.0 in
      rw (ne_eqb x l m) (ap T r ∙ linked T (x + 1) tys ls rest h.1 l s)
]

-- copies

module _ (t : ℕ) (o : ForLoop) (T : Types) (b : Below t T) (h : TypedFor T t o.packs o.results o.lower o.upper o.step o.iv o.args o.inits o.body o.ends) where
  abbrev U : Types
  U = scope_inside T t o.iv o.args

  -- the body under other labels, in a scope that has them
  pub body_typed : (g : ℕ → ℕ) (name : Naming) (k : ℕ) (T' : Types) (at : ℕ) → Carries g U T' → Below at T' → Moves g (t + 2 + length o.args) at (labels_of o.body)
      → TypedOps T' at (rename_ops g name k o.body) × Have (types_after T' at (rename_ops g name k o.body)) o.results (relabels g o.ends)
  body_typed g name k T' at c b' m = (
    ops_kept g name U T' (t + 2 + length o.args) at k o.body c b' m h.inside,
    have_carried g (types_after U (t + 2 + length o.args) o.body) (types_after T' at (rename_ops g name k o.body)) o.results o.ends
        (carries_after g name U T' (t + 2 + length o.args) at k o.body c b' m) h.ends_are,
  )

  pub below_copy : (g : ℕ → ℕ) (name : Naming) (k : ℕ) (T' : Types) (at : ℕ) → Below at T' → Below (at + labels_of o.body) (types_after T' at (rename_ops g name k o.body))
  below_copy g name k T' at b' = subst (λ n. Below (at + n) (types_after T' at (rename_ops g name k o.body))) (rename_labels g name k o.body) (below_after at (rename_ops g name k o.body) T' b')

  -- a scope in which a copy may begin
  pub record Ready (T' : Types) (at : ℕ) (variable : Label) (args : List Label) : Type 0 where
    pub keeps : Carries same T T'
    pub below : Below at T'
    pub variable_is : T' variable.0 ≡ Some o.iv.ty
    pub args_are : Have T' (arg_types o.args) args

  module _ (fresh : ℕ → List ℕ) (T' : Types) (at : ℕ) (variable : Label) (args : List Label) (r : Ready T' at variable args) where
    abbrev spans : List Span
    spans = copy_spans fresh t o variable args at

    abbrev last_span : List Span
    last_span = span (t + 2 + length args) (labels_of o.body) at ∷ []

    args_count : length args ≡ length o.args
    args_count = have_length T' (arg_types o.args) args r.args_are ∙ arg_types_length o.args

    copy_carries : Carries (renamed spans) U T'
    copy_carries l e =
        or_some (with_types T (t + 1) (o.iv.ty ∷ []) l) (typed_from (t + 2) (arg_types o.args) l) (T' (renamed spans l)) e
        (λ s. or_some (T l) (typed_from (t + 1) (o.iv.ty ∷ []) l) (T' (renamed spans l)) s
        (λ k. let lt = below_known T t l b k in
        let q : renamed spans l ≡ l = links_below (t + 1) (variable ∷ args) last_span l (omega (arith, lt)) ∙ span_below (t + 2 + length args) (labels_of o.body) at [] l (omega (arith, lt)) in
        ap T' q ∙ r.keeps l k)
        (λ none k. linked T' (t + 1) (o.iv.ty ∷ []) (variable ∷ []) (links (t + 1 + 1) args ++ last_span) (r.variable_is, tt) l k))
        (λ none s. let w = typed_there (t + 2) (arg_types o.args) l s in
        let e2 : t + 1 + 1 ≡ t + 2 = omega arith in
        let q : renamed spans l ≡ renamed (links (t + 1 + 1) args ++ last_span) l = span_past (t + 1) 1 variable.0 (links (t + 1 + 1) args ++ last_span) l (omega (arith, w.0)) in
        ap T' q ∙ subst (λ x. T' (renamed (links x args ++ last_span) l) ≡ typed_from (t + 2) (arg_types o.args) l) (sym e2) (linked T' (t + 2) (arg_types o.args) args last_span r.args_are l s))

    copy_moves : Moves (renamed spans) (t + 2 + length o.args) at (labels_of o.body)
    copy_moves l le lt =
        let n = args_count in
        let p : renamed spans l ≡ renamed last_span l = links_past (t + 1) (variable ∷ args) last_span l (omega (arith, n, le)) in
        let q : renamed last_span l ≡ l - (t + 2 + length args) + at = span_in (t + 2 + length args) (labels_of o.body) at [] l (omega (arith, n, le)) (omega (arith, n, lt)) in
        let e : renamed spans l ≡ l - (t + 2 + length args) + at = p ∙ q in
        omega (arith, n, e, le)

    -- the body with the labels of a copy
    pub copied_typed : (name : Naming) (k : ℕ) → TypedOps T' at (rename_ops (renamed spans) name k o.body)
        × Have (types_after T' at (rename_ops (renamed spans) name k o.body)) (arg_types o.args) (copy_ends fresh t o variable args at)
    copied_typed name k =
        let c = body_typed (renamed spans) name k T' at copy_carries r.below copy_moves in
        (c.0, subst (λ tys. Have (types_after T' at (rename_ops (renamed spans) name k o.body)) tys (copy_ends fresh t o variable args at)) (sym h.types_are) c.1)
