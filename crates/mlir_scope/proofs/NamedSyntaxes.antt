-- Functions that a syntax without breaks stands for have their values named apart.
use Rattle.std.proofs.Common.{◌≡◌, ℕ, ◌+◌, ◌-◌, ◌==◌, ◌&&◌, ◌||◌, ◌⊎◌, inl, inr, not, nat_le, nat_lt, Bool, true, false, List, [], ◌∷◌, ◌++◌, length, map, slice_get, refl, ap, ◌∙◌, sym, subst, arith, append-nil, Option, None, Some}
use Rattle.std.proofs.lemmas.Bool.{cases_Bool}
use Rattle.std.proofs.lemmas.Bool.Decides.{nat_tests}
use Rattle.std.proofs.lemmas.Slice.Eq.{bytes_eq-Decides}
use Rattle.std.specs.List.{list_any}
use Rattle.std.specs.Option.{option_map}
use Rattle.std.specs.Str.{bytes_eq}
use Rattle.arith_word.specs.Labels.{label_at}
use Rattle.mlir_ir.specs.Named.{Names, with_packs, with_args, free, all_free, NamedArgs, NamedDeclared, NamedOps, NamedRegions, NamedItems, NamedBody, unnamed}
use Rattle.mlir_ir.specs.Names.{is_name}
use Rattle.mlir_ir.specs.Operations.{OpList, labels_of, inner_labels}
use Rattle.mlir_ir.specs.Phrases.{Phrase, Line, lines, inside}
use Rattle.mlir_ir.specs.Reads.{phrase_in, plain_body, plain_func}
use Rattle.mlir_ir.specs.Resolved.{PlainBody, PlainFunc, tys, packs_of, args_of, carried, variable_type, func_name, func_args, func_of, func_lines, body_of, values_of, kind_of, ops_of, items_of}
use Rattle.mlir_ir.specs.Rules.{has_name, packs_hold}
use Rattle.mlir_ir.specs.ScopeFaults.{broken, repeated, is_defined, names_of, total, kind_breaks, block_breaks, func_breaks, body_breaks}
use Rattle.mlir_ir.specs.Source.{Block, none, op, Defined, Packed, Use, Written, block, listed_types, result_types, types_in, inits_of, params_in, after_params, head}
use Rattle.mlir_ir.specs.Values.{Value, arg_values, result_values}
use Rattle.mlir_ir.specs.WellFormed.{IsNamed, IsNamedBody}
use Rattle.mlir_ir.specs.declared.scope_kind.ScopeKind.TheVariants.{Twice}
use Rattle.mlir_ir.specs.declared.syntax.Form.TheVariants as forms
use Rattle.mlir_ir.specs.declared.syntax.Syntax.{Syntax}
use Rattle.mlir_ir.specs.declared.terminal.Terminal.{Terminal}
use Rattle.mlir_ir.specs.declared.terminal.Terminal.TheVariants as terminals
use Rattle.mlir_ir.specs.declared.types.Arg.{Arg}
use Rattle.mlir_ir.specs.declared.types.Body.{Body}
use Rattle.mlir_ir.specs.declared.types.Func.{Func}
use Rattle.mlir_ir.specs.declared.types.IrType.{IrType}
use Rattle.mlir_ir.specs.declared.types.Pack.{Pack}
use Rattle.mlir_ir.proofs.TypedScopes.{names_called, names_called_args}
use Rattle.mlir_scope.specs.StandingFunctions.{AreDerivedFunctions}
use Rattle.mlir_scope.proofs.Deriving.{Named}
use Rattle.mlir_scope.proofs.FunctionParts.{func_parts, body_parts}
use Rattle.mlir_scope.proofs.NoBreaks.{Each, none_append, not_broken}
use Rattle.mlir_scope.proofs.OpParts.{result_tys, PacksKept, op_kept, if_kept, for_kept, while_kept, variable}
use Rattle.mlir_scope.proofs.Shapes.{KindShape, ShapedBlock, ShapedBodies, FuncShape}
use Rattle.mlir_scope.proofs.SizedSyntaxes.{line_kept}
use Rattle.mlir_scope.proofs.Tests.{both, both_ways, eq_of, or_false, or_right}

not_of : (b : Bool) → b ≡ false → not b ≡ true
not_of true h = cc
not_of false h = refl

-- packs hold their results
pub packs_held : (n : ℕ) (packs : List Packed) → total packs ≡ n → list_any (λ (p : Packed). p.count == 0) packs ≡ false → packs_hold (packs_of packs) n ≡ true
packs_held n [] e h = let none : n ≡ 0 = omega arith in rw none refl
packs_held n (p ∷ packs) e h =
    let w = or_false (p.count == 0) (list_any (λ (q : Packed). q.count == 0) packs) h in
    let some : nat_lt 0 p.count ≡ true = let z = w.0 in grind (arith, nat_tests) in
    let within : nat_le p.count n ≡ true = grind (arith, nat_tests) in
    both (nat_lt 0 p.count && nat_le p.count n) (packs_hold (packs_of packs) (n - p.count)) (both (nat_lt 0 p.count) (nat_le p.count n) some within) (packs_held (n - p.count) packs (omega arith) w.1)

-- names before

-- a name that is taken is among those before
abbrev Covers : Names → List (List ℕ) → Type 0
Covers N seen = (name : List ℕ) → N name ≡ true → is_defined name seen ≡ true

same_name : (a b : List ℕ) → bytes_eq a b ≡ true → bytes_eq b a ≡ true
same_name a b h = (bytes_eq-Decides b a).1 (sym ((bytes_eq-Decides a b).0 h))

covers_scope : (t : List Value) → Covers (has_name t) (names_of t)
covers_scope [] name h = cc
covers_scope (v ∷ t) name h =
    elim (cases_Bool (bytes_eq v.name name)) [
      | inl e ↦ rw (same_name v.name name e) refl
      | inr e ↦ or_right (bytes_eq name v.name) (is_defined name (names_of t)) (covers_scope t name (rw e at h))
    ]

free_name : (N : Names) (seen : List (List ℕ)) (name : List ℕ) → Covers N seen → is_name name ≡ true → is_defined name seen ≡ false → free N name ≡ true
free_name N seen name c is h =
    elim (cases_Bool (N name)) [
      | inl e ↦ absurd (both_ways (is_defined name seen) (c name e) h)
      | inr e ↦ both (is_name name) (not (N name)) is (not_of (N name) e)
    ]

covers_more : (N : Names) (seen : List (List ℕ)) (other : List ℕ) → Covers N seen → Covers N (other ∷ seen)
covers_more N seen other c name h = or_right (bytes_eq name other) (is_defined name seen) (c name h)

covers_arg : (N : Names) (seen : List (List ℕ)) (arg : Arg) → Covers N seen → Covers (with_args N (arg ∷ [])) (arg.name ∷ seen)
covers_arg N seen arg c name h =
    elim (cases_Bool (N name)) [
      | inl e ↦ covers_more N seen arg.name c name e
      | inr e ↦ elim (cases_Bool (bytes_eq arg.name name)) [
        | inl is ↦ rw (same_name arg.name name is) refl
        | inr other ↦ absurd (both_ways (N name || (bytes_eq arg.name name || false)) h (rw (e, other) refl))
      ]
    ]

-- packs

no_repeat : (seen : List (List ℕ)) (packs : List Packed) (name : List ℕ) → repeated seen (map (λ (p : Packed). record { at = p.at; name = p.name }) packs) ≡ [] → is_defined name seen ≡ true
    → list_any (λ (other : Pack). bytes_eq other.name name) (packs_of packs) ≡ false
no_repeat seen [] name h d = refl
no_repeat seen (p ∷ packs) name h d =
    let a = none_append (broken (is_defined p.name seen) p.at Twice) (repeated (p.name ∷ seen) (map (λ (q : Packed). record { at = q.at; name = q.name }) packs)) h in
    let apart = not_broken (is_defined p.name seen) p.at Twice a.0 in
    elim (cases_Bool (bytes_eq p.name name)) [
      | inl is ↦ absurd (both_ways (is_defined p.name seen) (subst (λ n. is_defined n seen ≡ true) (sym ((bytes_eq-Decides p.name name).0 is)) d) apart)
      | inr other ↦ rw other (no_repeat (p.name ∷ seen) packs name a.1 (covers_more (λ n. is_defined n seen) seen p.name (λ n e. e) name d))
    ]

packs_free : (N : Names) (seen : List (List ℕ)) (packs : List Packed) → Covers N seen → Each (λ (p : Packed). Named p.name) packs
    → repeated seen (map (λ (p : Packed). record { at = p.at; name = p.name }) packs) ≡ [] → all_free N (packs_of packs) ≡ true
packs_free N seen [] c n h = refl
packs_free N seen (p ∷ packs) c n h =
    let a = none_append (broken (is_defined p.name seen) p.at Twice) (repeated (p.name ∷ seen) (map (λ (q : Packed). record { at = q.at; name = q.name }) packs)) h in
    let first = free_name N seen p.name c n.0.0 (not_broken (is_defined p.name seen) p.at Twice a.0) in
    let apart = no_repeat (p.name ∷ seen) packs p.name a.1 (rw ((bytes_eq-Decides p.name p.name).1 refl) refl) in
    both (free N p.name && not (list_any (λ (other : Pack). bytes_eq other.name p.name) (packs_of packs))) (all_free N (packs_of packs))
    (both (free N p.name) (not (list_any (λ (other : Pack). bytes_eq other.name p.name) (packs_of packs))) first (not_of _ apart))
    (packs_free N (p.name ∷ seen) packs (covers_more N seen p.name c) n.1 a.1)

-- arguments

carried_named : (N : Names) (seen : List (List ℕ)) (inits : List (Defined × Use)) (types : List IrType) → Covers N seen → Each (λ (p : Defined × Use). Named p.0.name) inits
    → repeated seen (map (λ (p : Defined × Use). p.0) inits) ≡ [] → NamedArgs N (carried inits types)
carried_named N seen [] types c n h = tt
carried_named N seen (i ∷ inits) [] c n h = tt
carried_named N seen (i ∷ inits) (ty ∷ types) c n h =
    let a = none_append (broken (is_defined i.0.name seen) i.0.at Twice) (repeated (i.0.name ∷ seen) (map (λ (p : Defined × Use). p.0) inits)) h in
    let arg : Arg = record { name = i.0.name; ty = ty } in (
      free_name N seen i.0.name c n.0.0 (not_broken (is_defined i.0.name seen) i.0.at Twice a.0),
      carried_named (with_args N (arg ∷ [])) (i.0.name ∷ seen) inits types (covers_arg N seen arg c) n.1 a.1,
    )

params_named : (N : Names) (seen : List (List ℕ)) (params : List (Defined × Written)) → Covers N seen → Each (λ (p : Defined × Written). Named p.0.name) params
    → repeated seen (map (λ (p : Defined × Written). p.0) params) ≡ [] → NamedArgs N (args_of params)
params_named N seen [] c n h = tt
params_named N seen (p ∷ params) c n h =
    let a = none_append (broken (is_defined p.0.name seen) p.0.at Twice) (repeated (p.0.name ∷ seen) (map (λ (q : Defined × Written). q.0) params)) h in
    let arg : Arg = record { name = p.0.name; ty = p.1.ty } in (
      free_name N seen p.0.name c n.0.0 (not_broken (is_defined p.0.name seen) p.0.at Twice a.0),
      params_named (with_args N (arg ∷ [])) (p.0.name ∷ seen) params (covers_arg N seen arg c) n.1 a.1,
    )

types_declared : (N : Names) (types : List Written) → NamedDeclared N (map (λ (t : Written). record { name = []; ty = t.ty }) types)
types_declared N [] = tt
types_declared N (t ∷ types) = (refl, types_declared _ types)

params_declared : (N : Names) (seen : List (List ℕ)) (params : List (Defined × Written)) (types : List Written) → Covers N seen → Each (λ (p : Defined × Written). Named p.0.name) params
    → repeated seen (map (λ (p : Defined × Written). p.0) params) ≡ [] → NamedDeclared N (args_of params ++ map (λ (t : Written). record { name = []; ty = t.ty }) types)
params_declared N seen [] types c n h = types_declared N types
params_declared N seen (p ∷ params) types c n h =
    let a = none_append (broken (is_defined p.0.name seen) p.0.at Twice) (repeated (p.0.name ∷ seen) (map (λ (q : Defined × Written). q.0) params)) h in
    let arg : Arg = record { name = p.0.name; ty = p.1.ty } in (
      rw (free_name N seen p.0.name c n.0.0 (not_broken (is_defined p.0.name seen) p.0.at Twice a.0)) refl,
      params_declared (with_args N (arg ∷ [])) (p.0.name ∷ seen) params types (covers_arg N seen arg c) n.1 a.1,
    )

two_args : (N : Names) (iv : Arg) (args : List Arg) → with_args N (iv ∷ args) ≡ with_args (with_args N (iv ∷ [])) args
two_args N iv args = λ j name. or_three (N name) (bytes_eq iv.name name) (list_any (λ (arg : Arg). bytes_eq arg.name name) args) j
  where
    or_three : (a b c : Bool) → (a || (b || c)) ≡ ((a || (b || false)) || c)
    or_three true b c = refl
    or_three false true c = refl
    or_three false false c = refl

-- operations

module _ (ls : List Line) (names : List (List ℕ)) where
  abbrev BlockNamed : Block → Type 0
  BlockNamed b = (k loops : ℕ) (s t : List Value) (at : ℕ) → ShapedBlock k b → block_breaks ls b loops t ≡ [] → NamedOps (has_name t) (ops_of names b s at)

  -- the scope with arguments besides
  under_args : (t : List Value) (args : List Arg) (ops : OpList) → NamedOps (has_name (t ++ arg_values 0 args)) ops → NamedOps (with_args (has_name t) args) ops
  under_args t args ops h = subst (λ N. NamedOps N ops) (names_called_args t 0 args) h

  kind_named : (c : Terminal) (kind : Phrase) (first second : Block) (k loops : ℕ) (s t : List Value) (at : ℕ) → KindShape c kind
      → Each (λ (p : Defined × Use). Named p.0.name) (inits_of kind) → Each (λ (p : Defined × Written). Named p.0.name) (after_params kind)
      → BlockNamed first → BlockNamed second → ShapedBlock k first → ShapedBlock k second
      → kind_breaks ls loops t c kind first second (block_breaks ls first) (block_breaks ls second) ≡ []
      → NamedRegions (has_name t) (kind_of names s at c kind (ops_of names first) (ops_of names second))
  kind_named terminals.Constant kind first second k loops s t at sh i p f1 f2 s1 s2 h = tt
  kind_named terminals.Binary kind first second k loops s t at sh i p f1 f2 s1 s2 h = tt
  kind_named terminals.FlaggedBinary kind first second k loops s t at sh i p f1 f2 s1 s2 h = tt
  kind_named terminals.Cast kind first second k loops s t at sh i p f1 f2 s1 s2 h = tt
  kind_named terminals.FlaggedCast kind first second k loops s t at sh i p f1 f2 s1 s2 h = tt
  kind_named terminals.Compare kind first second k loops s t at sh i p f1 f2 s1 s2 h = tt
  kind_named terminals.Select kind first second k loops s t at sh i p f1 f2 s1 s2 h = tt
  kind_named terminals.Call kind first second k loops s t at sh i p f1 f2 s1 s2 h = tt
  kind_named terminals.If kind first second k loops s t at sh i p f1 f2 s1 s2 h =
      let w = if_kept loops t kind (tys (result_types kind)) first second (block_breaks ls first) (block_breaks ls second) h in
      (f1 k loops s t at s1 w.first_inside, f2 k loops s t (at + labels_of (ops_of names first s at)) s2 w.second_inside)
  kind_named terminals.For kind first second k loops s t at sh i p f1 f2 s1 s2 h =
      let wanted = tys (result_types kind) in
      let w = for_kept loops t kind wanted first (block_breaks ls first) h in
      let name = (variable loops t kind wanted).name in
      let iv : Arg = record { name = name; ty = variable_type (types_in kind) } in
      let args = carried (inits_of kind) wanted in
      let a = none_append (broken (is_defined name (names_of t)) (variable loops t kind wanted).at Twice) (repeated (name ∷ names_of t) (map (λ (p : Defined × Use). p.0) (inits_of kind))) w.header.apart in
      let cover = covers_scope t in
      let body = ops_of names first (s ++ arg_values (at + 1) (iv ∷ args)) (at + 2 + length args) in (
        (free_name (has_name t) (names_of t) name cover sh.1.0 (not_broken (is_defined name (names_of t)) _ Twice a.0), tt),
        carried_named (with_args (has_name t) (iv ∷ [])) (name ∷ names_of t) (inits_of kind) wanted (covers_arg (has_name t) (names_of t) iv cover) i a.1,
        subst (λ N. NamedOps N body) (two_args (has_name t) iv args) (under_args t (iv ∷ args) body (f1 k (loops + 1) (s ++ arg_values (at + 1) (iv ∷ args)) (t ++ arg_values 0 (iv ∷ args)) (at + 2 + length args) s1 w.inside)),
      )
  kind_named terminals.While kind first second k loops s t at sh i p f1 f2 s1 s2 h =
      let wanted = tys (result_types kind) in
      let w = while_kept loops t kind wanted first second (block_breaks ls first) (block_breaks ls second) h in
      let args = carried (inits_of kind) (tys (listed_types kind)) in
      let params = args_of (after_params kind) in
      let cover = covers_scope t in (
        carried_named (has_name t) (names_of t) (inits_of kind) (tys (listed_types kind)) cover i w.header.apart,
        under_args t args _ (f1 k (loops + 1) _ (t ++ arg_values 0 args) _ s1 w.before_inside),
        params_named (has_name t) (names_of t) (after_params kind) cover p w.params.apart,
        under_args t params _ (f2 k (loops + 1) _ (t ++ arg_values 0 params) _ s2 w.after_inside),
      )
  kind_named _ kind first second k loops s t at sh i p f1 f2 s1 s2 h = absurd sh

  results_named : (t : List Value) (packs : List Packed) (results : List IrType) → PacksKept t (length results) packs → has_name (t ++ result_values 0 (packs_of packs) results) ≡ with_packs (has_name t) (packs_of packs)
  results_named t packs results w = names_called t 0 (packs_of packs) results (packs_held (length results) packs (eq_of (total packs) (length results) w.all_named) w.each_some)

  pub block_named : (b : Block) → BlockNamed b
  block_named none k loops s t at sh h = tt
  block_named (op spot packs kind first second rest) k loops s t at sh h =
      let w = op_kept ls spot packs kind first second rest loops t h in
      let what = kind_of names s at (head kind) kind (ops_of names first) (ops_of names second) in
      let results = result_tys kind in
      let more = ops_of names rest (s ++ result_values (at + inner_labels what) (packs_of packs) results) (at + (inner_labels what + length results)) in (
        packs_free (has_name t) (names_of t) packs (covers_scope t) sh.0.packs_named w.packed.apart,
        kind_named (head kind) kind first second (k + 1) loops s t at sh.0.does sh.0.inits_named sh.0.params_named (block_named first) (block_named second) sh.1 sh.2 w.inside,
        subst (λ N. NamedOps N more) (results_named t packs results w.packed)
            (block_named rest k loops (s ++ result_values (at + inner_labels what) (packs_of packs) results) (t ++ result_values 0 (packs_of packs) results) (at + (inner_labels what + length results)) sh.3 w.behind),
      )

  pub items_named : (func k : ℕ) (b : Block) (s t : List Value) → ShapedBlock 1 b → block_breaks ls b 0 t ≡ [] → NamedItems (has_name t) (items_of names func k b s)
  items_named func k none s t sh h = tt
  items_named func k (op spot packs kind first second rest) s t sh h =
      let at = label_at func k 0 in
      let w = op_kept ls spot packs kind first second rest 0 t h in
      let alone = op spot packs kind first second none in
      let item = ops_of names alone s at in
      let more = items_of names func (k + 1) rest (s ++ values_of at item) in (
        (
          packs_free (has_name t) (names_of t) packs (covers_scope t) sh.0.packs_named w.packed.apart,
          kind_named (head kind) kind first second 2 0 s t at sh.0.does sh.0.inits_named sh.0.params_named (block_named first) (block_named second) sh.1 sh.2 w.inside,
          tt,
        ),
        subst (λ N. NamedItems N more) (results_named t packs (result_tys kind) w.packed)
            (items_named func (k + 1) rest (s ++ values_of at item) (t ++ result_values 0 (packs_of packs) (result_tys kind)) sh.3 w.behind),
      )

-- functions

abbrev PlainNamed : List Arg → Option PlainBody → Type 0
PlainNamed args None = NamedDeclared unnamed args
PlainNamed args (Some body) = NamedBody args body.items

no_types : (body : Line) (bodies : List Line) (types : List Written) → ((body ∷ bodies) ≡ []) ⊎ (types ≡ []) → types ≡ []
no_types body bodies types (inl h) = cc
no_types body bodies types (inr h) = h

bodies_named : (ls : List Line) (k : ℕ) (l : Line) (bodies : List Line) → repeated [] (map (λ (p : Defined × Written). p.0) (params_in (inside forms.Params l.parts))) ≡ []
    → Each (λ (p : Defined × Written). Named p.0.name) (params_in (inside forms.Params l.parts)) → (bodies ≡ []) ⊎ (listed_types l.parts ≡ [])
    → Each (λ (body : Line). body_breaks ls l body ≡ []) bodies → ShapedBodies bodies → PlainNamed (func_args l) (body_of (map func_name ls) k (func_args l) bodies)
bodies_named ls k l [] apart named alone h sh = params_declared unnamed [] (params_in (inside forms.Params l.parts)) (listed_types l.parts) (λ name e. cc) named apart
bodies_named ls k l (body ∷ bodies) apart named alone h sh =
    let parts = body_parts ls l body h.0 in
    let params = params_in (inside forms.Params l.parts) in
    let none : listed_types l.parts ≡ [] = no_types body bodies (listed_types l.parts) alone in
    let args : func_args l ≡ args_of params = ap (λ (ts : List Written). args_of params ++ map (λ (t : Written). record { name = []; ty = t.ty }) ts) none ∙ append-nil (args_of params) in
    let items = items_of (map func_name ls) k 1 (block body.parts) (arg_values (label_at k 0 0) (func_args l)) in
    record {
      args_named = subst (NamedArgs unnamed) (sym args) (params_named unnamed [] params (λ name e. cc) named apart);
      inside = subst (λ N. NamedItems N items) (names_called_args [] 0 (func_args l)) (items_named ls (map func_name ls) k 1 (block body.parts) (arg_values (label_at k 0 0) (func_args l)) (arg_values 0 (func_args l)) sh.0 parts.inside);
    }

body_named : (f : Func) (body : Option Body) → PlainNamed f.args (option_map plain_body body) → IsNamedBody f body
body_named f None h = h
body_named f (Some body) h = h

func_named : (ls : List Line) (k : ℕ) (l : Line) (f : Func) → func_breaks ls l ≡ [] → FuncShape l → plain_func f ≡ func_of (map func_name ls) k l → IsNamed f
func_named ls k l f h shape e =
    let parts = func_parts ls l h in
    let name : f.name ≡ func_name l = ap (λ (p : PlainFunc). p.name) e in
    let plain = bodies_named ls k l (lines forms.Body l.parts) parts.apart shape.params_named shape.alone parts.bodies shape.bodies in
    record {
      head = rw name shape.named.0;
      inside = body_named f f.body (subst (λ (p : PlainFunc). PlainNamed p.args p.body) (sym e) plain);
    }

pub functions_named : (s : Syntax) (funcs : List Func) → AreDerivedFunctions s funcs → (k : ℕ) (f : Func) → slice_get funcs k ≡ Some f → IsNamed f
functions_named s funcs h k f e =
    let line = line_kept s funcs h k f e in
    func_named (func_lines (phrase_in s)) line.at line.l f line.none line.shape line.same
