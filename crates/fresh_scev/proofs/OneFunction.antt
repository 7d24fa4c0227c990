-- The facts of a well-formed function are determined: those of its values, and the trip counts of its loops.
use Rattle.std.proofs.Common.{◌≡◌, ℕ, zero, suc, ◌+◌, ◌≤◌, true, List, [], ◌∷◌, ◌++◌, length, refl, ◌∙◌, sym, subst, arith, Option, Some, None}
use Rattle.std.proofs.lemmas.Bool.{and_parts}
use Rattle.std.proofs.lemmas.List.Elements.{All-from_recursion}
use Rattle.std.specs.List.{All, AllByRecursion}
use Rattle.std.specs.Option.{is_some, option_or}
use Rattle.arith_word.specs.Labels.{label_at}
use Rattle.arith_word.specs.declared.label.Label.{Label}
use Rattle.arith_word.specs.declared.op.Pred.TheVariants.{Slt}
use Rattle.mlir_ir.proofs.SizedFunctions.{well_formed}
use Rattle.mlir_ir.specs.Check.{IsWellFormed}
use Rattle.mlir_ir.specs.Loops.{func_loops}
use Rattle.mlir_ir.specs.Operations.{SimpleOp, OpKind, Simple, If, For, While, OpList, nil, next, labels_of, inner_labels}
use Rattle.mlir_ir.specs.Rules.{arg_types}
use Rattle.mlir_ir.specs.Sized.{SizedArgs, SizedItems}
use Rattle.mlir_ir.specs.Typed.{Types, with_types, knows, simple_uses, types_after, TypedOp, TypedOps, TypedRegions, TypedItems, args_typed}
use Rattle.mlir_ir.specs.Values.{func_values, type_at}
use Rattle.mlir_ir.specs.Words.{bits_of}
use Rattle.mlir_ir.specs.WellFormed.{IsTypedBody, IsSizedBody}
use Rattle.mlir_ir.specs.declared.loop_labels.LoopLabels.{LoopLabels}
use Rattle.mlir_ir.specs.declared.types.Arg.{Arg}
use Rattle.mlir_ir.specs.declared.types.Body.{Body}
use Rattle.mlir_ir.specs.declared.types.Func.{Func}
use Rattle.mlir_ir.specs.declared.types.IrType.{IrType}
use Rattle.mlir_ir.specs.declared.types.Pack.{Pack}
use Rattle.fresh_scev.specs.Each.{EachInScope, EachOps, EachInside, EachItems}
use Rattle.fresh_scev.specs.Facts.{Facts, AreRuled, AreMerged, ArePassed, Loop, Rounds, round_limit, IsOps, IsKind, IsItems, IsFacts, items_in}
use Rattle.fresh_scev.specs.Insides.{for_loop, while_loop, IsForInside, IsWhileInside}
use Rattle.fresh_scev.specs.Loops.{IsVariable}
use Rattle.fresh_scev.specs.Rules.{have_width, fitting, IsMerged}
use Rattle.fresh_scev.specs.UsesBelow.{AreBelow}
use Rattle.fresh_scev.proofs.EachValue.{each_with, each_after, each_arg, function_holds}
use Rattle.fresh_scev.proofs.OneResult.{next_same, tested_one, carried_same, passed_on_same}
use Rattle.fresh_scev.proofs.OneRule.{fitting_one, merged_one, variable_one, rule_one}
use Rattle.fresh_scev.proofs.OneTurns.{compared_one}
use Rattle.fresh_scev.proofs.SameValues.{SameValue, SameUses, SameScope, SameList, same_exprs, use_same, uses_same, untested_same, own_same, ruled_same, scope_before}
use Rattle.fresh_scev.proofs.StandingFacts.{uses_more, types_length}
use Rattle.fresh_scev.proofs.UsesOfTyped.{KnowsBelow, knows_more, with_low, with_args_low, after_low, uses_low, carries, args_low}

-- ---- conditions stay in scope

abbrev AreIn : Types → List Label → Type 0
AreIn T uses = AllByRecursion (λ (l : Label). is_some (T l.0) ≡ true) uses

either_some : (x y : Option IrType) → is_some x ≡ true → is_some (option_or x y) ≡ true
either_some (Some t) y h = refl
either_some None y h = absurd (cc)

in_more : (T : Types) (at : ℕ) (tys : List IrType) (uses : List Label) → AreIn T uses → AreIn (with_types T at tys) uses
in_more T at tys [] h = tt
in_more T at tys (l ∷ uses) h = (either_some (T l.0) _ h.0, in_more T at tys uses h.1)

in_and : (T : Types) (uses : List Label) (c : Label) → AreIn T uses → is_some (T c.0) ≡ true → AreIn T (uses ++ c ∷ [])
in_and T [] c h k = (k, tt)
in_and T (l ∷ uses) c h k = (h.0, in_and T uses c h.1 k)

same_in : (F G : Facts) (T : Types) (uses : List Label) → SameScope F G T → AreIn T uses → SameUses F G uses
same_in F G T [] s h = tt
same_in F G T (l ∷ uses) s h = (use_same F G T l s h.0, same_in F G T uses s h.1)

enough_types : (args : List Arg) (results : List IrType) → length results ≤ length args → length results ≤ length (arg_types args)
enough_types args results h = let e = types_length args in omega (arith, h, e)

-- ---- values of one operation

rules_same : (F G : Facts) (at label : ℕ) (tys : List IrType) (does : SimpleOp) → at ≤ label → AreBelow (simple_uses does) at → SameUses F G (simple_uses does)
    → AreRuled F label tys does → AreRuled G label tys does → SameList F G label tys
rules_same F G at label [] does le low u f g = tt
rules_same F G at label (ty ∷ tys) does le low u f g =
    let exprs = same_exprs F G (simple_uses does) u in (
      ruled_same F G label ty does (uses_more (simple_uses does) at label le low) exprs (rule_one F G (bits_of ty) label does (F.expr label) (G.expr label) exprs f.0 g.0) f.1 g.1,
      rules_same F G at (label + 1) tys does (omega (arith, le)) low u f.2 g.2,
    )

merged_same : (F G : Facts) (start label : ℕ) (tys : List IrType) (firsts others : List Label) → SameUses F G firsts → SameUses F G others
    → AreMerged F start label tys firsts others → AreMerged G start label tys firsts others → SameList F G label tys
merged_same F G start label [] firsts others p q f g = tt
merged_same F G start label (ty ∷ tys) [] others p q f g = own_same F G label (ty ∷ tys) f g
merged_same F G start label (ty ∷ tys) (y ∷ firsts) [] p q f g = own_same F G label (ty ∷ tys) f g
merged_same F G start label (ty ∷ tys) (y ∷ firsts) (z ∷ others) p q f g =
    let w = bits_of ty in
    let a = F.expr y.0 in
    let b = F.expr z.0 in
    let e = G.expr label in
    let g2 : fitting (have_width w a b) w label e (IsMerged start w label a b e) =
    subst (λ x. fitting (have_width w x b) w label e (IsMerged start w label x b e)) (sym p.0.value.expr)
    (subst (λ x. fitting (have_width w (G.expr y.0) x) w label e (IsMerged start w label (G.expr y.0) x e)) (sym q.0.value.expr) g.0) in (
      untested_same F G label ty (fitting_one (have_width w a b) w label (F.expr label) e _ _ (merged_one start w label a b (F.expr label) e) f.0 g2) f.1 g.1,
      merged_same F G start (label + 1) tys firsts others p.1 q.1 f.2 g.2,
    )

passed_same : (F G : Facts) (label : ℕ) (tys : List IrType) (passed : List Label) → SameUses F G passed → ArePassed F label tys passed → ArePassed G label tys passed → SameList F G label tys
passed_same F G label [] passed p f g = tt
passed_same F G label (ty ∷ tys) [] p f g = own_same F G label (ty ∷ tys) f g
passed_same F G label (ty ∷ tys) (y ∷ passed) p f g =
    (untested_same F G label ty (f.0.0 ∙ p.0.value.expr ∙ sym g.0.0) f.0.1 g.0.1, passed_same F G (label + 1) tys passed p.1 f.1 g.1)

-- ---- rounds

-- the inside of a loop is the same where its arguments are, and so is what it yields
module _ (T : Types) (loop : Loop) (low : KnowsBelow T loop.at) (Inside : Facts → Type 0) (Found : Facts → Facts → Type 0) (given : (H K : Facts) → SameScope H K T → SameUses H K loop.inits)
    (found : (H K : Facts) → SameScope H K T → SameList H K loop.first loop.types → Inside H → Inside K → Found H K)
    (yielded : (H K : Facts) → SameScope H K T → SameList H K loop.first loop.types → Found H K → SameUses H K loop.ends) where
  pub rounds_same : (n : ℕ) (F G : Facts) → SameScope F G T → Rounds loop Inside n F → Rounds loop Inside n G → SameList F G loop.first loop.types × Found F G
  rounds_same zero F G s f g =
      let args = own_same F G loop.first loop.types f.0 g.0 in
      (args, found F G s args f.1 g.1)
  rounds_same (suc n) F G s f g =
      let before = scope_before F G f.0 g.0 loop.at f.2 g.2 T low s in
      let old = rounds_same n f.0 g.0 before f.1 g.1 in
      let args = next_same loop.at f.0 g.0 F G loop.first loop.types loop.inits loop.ends old.0 (given f.0 g.0 before) (yielded f.0 g.0 before old.0 old.1) f.3 g.3 in
      (args, found F G s args f.4 g.4)

-- ---- operations

abbrev SameOps : Facts → Facts → OpList → ℕ → Type 0
SameOps F G ops at = EachOps (λ l ty. SameValue F G l ty) (λ l. F.turns l ≡ G.turns l) ops at

abbrev SameInside : Facts → Facts → OpKind → ℕ → Type 0
SameInside F G kind at = EachInside (λ l ty. SameValue F G l ty) (λ l. F.turns l ≡ G.turns l) kind at

scope_after : (F G : Facts) (ops : OpList) (T : Types) (at : ℕ) → SameScope F G T → SameOps F G ops at → SameScope F G (types_after T at ops)
scope_after F G ops T at s h = each_after (λ l ty. SameValue F G l ty) (λ l. F.turns l ≡ G.turns l) ops T at s h

scope_with : (F G : Facts) (T : Types) (at : ℕ) (tys : List IrType) → SameScope F G T → SameList F G at tys → SameScope F G (with_types T at tys)
scope_with F G T at tys s h = each_with (λ l ty. SameValue F G l ty) T at tys s h

mutual
  pub ops_same : (ops : OpList) (conditions : List Label) (F G : Facts) (T : Types) (at : ℕ) → KnowsBelow T at → AreIn T conditions → SameScope F G T → TypedOps T at ops → IsOps conditions ops at F → IsOps conditions ops at G → SameOps F G ops at
  ops_same nil conditions F G T at low inside s t f g = tt
  ops_same (next packs results kind rest) conditions F G T at low inside s t f g =
      let here = at + inner_labels kind in
      let mid = at + (inner_labels kind + length results) in
      let U = with_types T here results in
      let low2 : KnowsBelow U mid = knows_more U (here + length results) mid (omega arith) (with_low T here results (knows_more T at here (omega arith) low)) in
      let k = kind_same kind conditions F G T packs results at low inside s t.0 t.1 f.0 g.0 in
      (k.0, k.1, ops_same rest conditions F G U mid low2 (in_more T here results conditions inside) (scope_with F G T here results s k.1) t.2 f.1 g.1)

  kind_same : (kind : OpKind) (conditions : List Label) (F G : Facts) (T : Types) (packs : List Pack) (results : List IrType) (at : ℕ) → KnowsBelow T at → AreIn T conditions → SameScope F G T
      → TypedOp T packs results kind → TypedRegions T at results kind → IsKind conditions kind results at F → IsKind conditions kind results at G
      → SameInside F G kind at × SameList F G (at + inner_labels kind) results
  kind_same (Simple does) conditions F G T packs results at low inside s t r f g =
      let e : at ≡ at + inner_labels (Simple does) = omega arith in
      (tt, subst (λ l. SameList F G l results) e (rules_same F G at at results does (omega arith) (uses_low T at (simple_uses does) low t.in_scope) (uses_same F G T (simple_uses does) s t.in_scope) f g))
  kind_same (If c first firsts has_else other others) conditions F G T packs results at low inside s t r f g =
      let behind = at + labels_of first in
      let res = behind + labels_of other in
      let e : res ≡ at + inner_labels (If c first firsts has_else other others) = omega arith in
      let with_c = in_and T conditions c inside (and_parts (knows T c) true t.in_scope).0 in
      let one = ops_same first (conditions ++ c ∷ []) F G T at low with_c s r.0 f.0 g.0 in
      let two = ops_same other conditions F G T behind (knows_more T at behind (omega arith) low) inside s r.2 f.1 g.1 in
      let ys = uses_same F G (types_after T at first) firsts (scope_after F G first T at s one) r.1.in_scope in
      let zs = uses_same F G (types_after T behind other) others (scope_after F G other T behind s two) r.3.in_scope in
      ((one, two), subst (λ l. SameList F G l results) e (merged_same F G at res results firsts others ys zs f.2 g.2))
  kind_same (For lower upper step iv args inits body ends) conditions F G T packs results at low inside s t r f g =
      let in_body = at + 2 + length args in
      let loop = for_loop at args inits ends in
      let Inside = IsForInside conditions at lower step iv in_body body in
      let V = with_types T (at + 1) (iv.ty ∷ []) in
      let U = with_types V (at + 2) (arg_types args) in
      let low_v : KnowsBelow V (at + 1 + length (iv.ty ∷ [])) = with_low T (at + 1) (iv.ty ∷ []) (knows_more T at (at + 1) (omega arith) low) in
      let low_u : KnowsBelow U in_body = with_args_low V (at + 2) args (knows_more V (at + 1 + length (iv.ty ∷ [])) (at + 2) (omega arith) low_v) in
      let within = in_more V (at + 2) (arg_types args) conditions (in_more T (at + 1) (iv.ty ∷ []) conditions inside) in
      let scope_u : (H K : Facts) → SameScope H K T → SameList H K (at + 2) (arg_types args) → SameValue H K (at + 1) iv.ty → SameScope H K U =
      λ H K p q v. scope_with H K V (at + 2) (arg_types args) (scope_with H K T (at + 1) (iv.ty ∷ []) p (v, tt)) q in
      let used : (H K : Facts) → SameScope H K T → SameUses H K (lower ∷ upper ∷ step ∷ inits) = λ H K p. uses_same H K T (lower ∷ upper ∷ step ∷ inits) p t.in_scope in
      let found : (H K : Facts) → SameScope H K T → SameList H K (at + 2) (arg_types args) → Inside H → Inside K → SameValue H K (at + 1) iv.ty × SameOps H K body in_body =
      λ H K p q h k. (let u = used H K p in
      let w = bits_of iv.ty in
      let k2 : IsVariable at w (at + 1) (H.expr lower.0) (H.expr step.0) (K.expr (at + 1)) =
      subst (λ x. IsVariable at w (at + 1) x (H.expr step.0) (K.expr (at + 1))) (sym u.0.value.expr) (subst (λ x. IsVariable at w (at + 1) (K.expr lower.0) x (K.expr (at + 1))) (sym u.1.1.0.value.expr) k.0) in
      let v : SameValue H K (at + 1) iv.ty = untested_same H K (at + 1) iv.ty (variable_one at w (at + 1) (H.expr lower.0) (H.expr step.0) (H.expr (at + 1)) (K.expr (at + 1)) h.0 k2) h.1 k.1 in
      (v, ops_same body conditions H K U in_body low_u within (scope_u H K p q v) r.0 h.2 k.2)) in
      let yielded : (H K : Facts) → SameScope H K T → SameList H K (at + 2) (arg_types args) → SameValue H K (at + 1) iv.ty × SameOps H K body in_body → SameUses H K ends =
      λ H K p q x. uses_same H K (types_after U in_body body) ends (scope_after H K body U in_body (scope_u H K p q x.0) x.1) r.1.in_scope in
      let done = rounds_same T loop low Inside (λ H K. SameValue H K (at + 1) iv.ty × SameOps H K body in_body) (λ H K p. (used H K p).1.1.1) found yielded round_limit F G s f.0 g.0 in
      let u = used F G s in
      let turns : F.turns at ≡ G.turns at = compared_one at Slt (F.expr (at + 1)) (F.expr upper.0) (G.expr (at + 1)) (G.expr upper.0) (F.turns at) (G.turns at) done.1.0.expr u.1.0.value.expr f.1 g.1 in
      let enough = carries (For lower upper step iv args inits body ends) T packs results t in
      let res = in_body + labels_of body in
      let e : res ≡ at + inner_labels (For lower upper step iv args inits body ends) = omega arith in
      let many : length results ≤ length (arg_types args) = enough_types args results enough in (
        (turns, (done.1.0, tt), done.0, done.1.1),
        subst (λ l. SameList F G l results) e (carried_same F G conditions (same_in F G T conditions s inside) at turns (at + 2) res (arg_types args) results many done.0 f.2 g.2),
      )
  kind_same (While args inits before passed cond after_args after ends) conditions F G T packs results at low inside s t r f g =
      let in_before = at + 1 + length args in
      let params = in_before + labels_of before in
      let in_after = params + length after_args in
      let loop = while_loop at args inits ends in
      let Inside = IsWhileInside conditions in_before before passed after_args after in
      let U = with_types T (at + 1) (arg_types args) in
      let V = with_types T params (arg_types after_args) in
      let W = types_after U in_before before in
      let low_u : KnowsBelow U in_before = with_args_low T (at + 1) args (knows_more T at (at + 1) (omega arith) low) in
      let low_v : KnowsBelow V in_after = with_args_low T params after_args (knows_more T at params (omega arith) low) in
      let in_u = in_more T (at + 1) (arg_types args) conditions inside in
      let in_v = in_more T params (arg_types after_args) conditions inside in
      let scope_u : (H K : Facts) → SameScope H K T → SameList H K (at + 1) (arg_types args) → SameScope H K U = λ H K p q. scope_with H K T (at + 1) (arg_types args) p q in
      let scope_w : (H K : Facts) → SameScope H K T → SameList H K (at + 1) (arg_types args) → SameOps H K before in_before → SameScope H K W = λ H K p q x. scope_after H K before U in_before (scope_u H K p q) x in
      let scope_v : (H K : Facts) → SameScope H K T → SameList H K params (arg_types after_args) → SameScope H K V = λ H K p q. scope_with H K T params (arg_types after_args) p q in
      let ends_w : (H K : Facts) → SameScope H K W → SameUses H K (cond ∷ passed) = λ H K p. uses_same H K W (cond ∷ passed) p r.1.in_scope in
      let Found : Facts → Facts → Type 0 = λ H K. SameOps H K before in_before × SameList H K params (arg_types after_args) × SameOps H K after in_after in
      let found : (H K : Facts) → SameScope H K T → SameList H K (at + 1) (arg_types args) → Inside H → Inside K → Found H K =
      λ H K p q h k. (let one = ops_same before conditions H K U in_before low_u in_u (scope_u H K p q) r.0 h.0 k.0 in
      let given = passed_same H K params (arg_types after_args) passed (ends_w H K (scope_w H K p q one)).1 h.1 k.1 in
      (one, given, ops_same after conditions H K V in_after low_v in_v (scope_v H K p given) r.3 h.2 k.2)) in
      let yielded : (H K : Facts) → SameScope H K T → SameList H K (at + 1) (arg_types args) → Found H K → SameUses H K ends =
      λ H K p q x. uses_same H K (types_after V in_after after) ends (scope_after H K after V in_after (scope_v H K p x.1) x.2) r.4.in_scope in
      let done = rounds_same T loop low Inside Found (λ H K p. uses_same H K T inits p t.in_scope) found yielded round_limit F G s f.0 g.0 in
      let last = ends_w F G (scope_w F G s done.0 done.1.0) in
      let turns : F.turns at ≡ G.turns at = tested_one F G at cond (F.turns at) (G.turns at) last.0 f.1 g.1 in
      let res = in_after + labels_of after in
      let e : res ≡ at + inner_labels (While args inits before passed cond after_args after ends) = omega arith in (
        (turns, done.0, done.1.0, done.1.1, done.1.2),
        subst (λ l. SameList F G l results) e (passed_on_same F G conditions (same_in F G T conditions s inside) at turns passed res results last.1 f.2 g.2),
      )

-- ---- items

items_same : (func k : ℕ) (items : List OpList) (F G : Facts) (T : Types) → KnowsBelow T (label_at func k 0) → SizedItems items → SameScope F G T → TypedItems T func k items → IsItems func k items F → IsItems func k items G
    → EachItems (λ l ty. SameValue F G l ty) (λ l. F.turns l ≡ G.turns l) func k items
items_same func k [] F G T low sized s t f g = tt
items_same func k (ops ∷ items) F G T low sized s t f g =
    let at = label_at func k 0 in
    let few = sized.0.labels in
    let U = types_after T at ops in
    let room : at + labels_of ops ≤ label_at func (k + 1) 0 = omega (arith, few) in
    let first = ops_same ops [] F G T at low tt s t.0 f.0 g.0 in
    (first, items_same func (k + 1) items F G U (knows_more U (at + labels_of ops) (label_at func (k + 1) 0) room (after_low ops T at low)) sized.1 (scope_after F G ops T at s first) t.1 f.1 g.1)

body_same : (f : Func) (body : Option Body) (F G : Facts) → SizedArgs f.args → IsSizedBody body → IsTypedBody f body → SameScope F G (args_typed f.index f.args) → IsItems f.index 1 (items_in body) F → IsItems f.index 1 (items_in body) G
    → EachItems (λ l ty. SameValue F G l ty) (λ l. F.turns l ≡ G.turns l) f.index 1 (items_in body)
body_same f None F G few sized t s h k = tt
body_same f (Some body) F G few sized t s h k = items_same f.index 1 _ F G (args_typed f.index f.args) (args_low f.index f.args few) sized.inside s t.inside h k

module _ (f : Func) (F G : Facts) (well : IsWellFormed f) (is : IsFacts f F) (other : IsFacts f G) where
  function_same : EachInScope (λ l ty. SameValue F G l ty) (type_at (func_values f)) × AllByRecursion (λ (l : LoopLabels). F.turns l.counter.0 ≡ G.turns l.counter.0) (func_loops f)
  function_same =
      let w = well_formed f well in
      let args = own_same F G (label_at f.index 0 0) (arg_types f.args) is.arguments other.arguments in
      let scope = each_arg (λ l ty. SameValue F G l ty) f.index f.args args in
      let items = body_same f f.body F G w.2.args_sized w.2.inside w.0 scope is.items other.items in
      function_holds (λ l ty. SameValue F G l ty) (λ l. F.turns l ≡ G.turns l) f well args items

  pub values_determined : (label : ℕ) (ty : IrType) → type_at (func_values f) label ≡ Some ty → (F.expr label ≡ G.expr label) × (F.role label ≡ G.role label)
  values_determined label ty h = let s = function_same.0 label ty h in (s.expr, s.role)

  pub turns_determined : All (λ (l : LoopLabels). F.turns l.counter.0 ≡ G.turns l.counter.0) (func_loops f)
  turns_determined = All-from_recursion (λ (l : LoopLabels). F.turns l.counter.0 ≡ G.turns l.counter.0) (func_loops f) function_same.1
