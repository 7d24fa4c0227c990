-- Functions that a syntax without breaks stands for are well typed, so they are well formed.
use Rattle.std.proofs.Common.{◌≡◌, ℕ, ◌+◌, ◌≤◌, List, [], ◌∷◌, ◌++◌, length, map, slice_get, refl, sym, subst, arith, append_assoc, append-nil, Option, None, Some}
use Rattle.std.specs.Option.{option_map}
use Rattle.arith_word.specs.Labels.{label_at}
use Rattle.mlir_ir.specs.Check.{IsWellFormed}
use Rattle.mlir_ir.specs.Limits.{arg_limit, label_limit}
use Rattle.mlir_ir.specs.Operations.{labels_of}
use Rattle.mlir_ir.specs.Phrases.{Line, lines}
use Rattle.mlir_ir.specs.Reads.{phrase_in, plain_body, plain_func}
use Rattle.mlir_ir.specs.Resolved.{PlainBody, PlainFunc, tys, labels, packs_of, func_args, func_name, func_of, func_lines, body_of, ops_of, items_of, values_of, values_of_items}
use Rattle.mlir_ir.specs.ScopeFaults.{block_breaks, func_breaks, body_breaks, wide_items, defined_by}
use Rattle.mlir_ir.specs.Source.{Block, none, op, block, ending, result_types}
use Rattle.mlir_ir.specs.Typed.{Types, types_after, types_after_items, TypedItems, TypedBody, untyped, args_typed, passes}
use Rattle.mlir_ir.specs.Values.{Value, arg_values, result_values}
use Rattle.mlir_ir.specs.WellFormed.{IsTyped, IsTypedBody}
use Rattle.mlir_ir.specs.declared.syntax.Form.TheVariants as forms
use Rattle.mlir_ir.specs.declared.syntax.Syntax.{Syntax}
use Rattle.mlir_ir.specs.declared.terminal.Terminal.TheVariants as terminals
use Rattle.mlir_ir.specs.declared.types.Arg.{Arg}
use Rattle.mlir_ir.specs.declared.types.Body.{Body}
use Rattle.mlir_ir.specs.declared.types.Func.{Func}
use Rattle.mlir_ir.proofs.SizedFunctions.{is_well_formed}
use Rattle.mlir_scope.specs.StandingFunctions.{AreDerivedFunctions}
use Rattle.mlir_scope.proofs.FunctionParts.{func_parts, body_parts, items_fitting}
use Rattle.mlir_scope.proofs.NamedSyntaxes.{functions_named}
use Rattle.mlir_scope.proofs.NoBreaks.{Each, each_append, none_append}
use Rattle.mlir_scope.proofs.OpParts.{result_tys, op_kept, alone_kept}
use Rattle.mlir_scope.proofs.ResolvedModules.{args_few}
use Rattle.mlir_scope.proofs.ResolvedTypes.{Scoped, block_typed, end_exact, with_args, below_args}
use Rattle.mlir_scope.proofs.ScopeUses.{Seen, alike_append}
use Rattle.mlir_scope.proofs.Shapes.{ShapedBlock, ShapedBodies, FuncShape}
use Rattle.mlir_scope.proofs.SizedSyntaxes.{line_kept, functions_sized}
use Rattle.mlir_scope.proofs.TypesGrow.{Below, below_more, below_after}
use Rattle.mlir_scope.proofs.UseTypes.{end_typed, end_passes}

module _ (ls : List Line) (names : List (List ℕ)) where
  pub record ItemsTyping (T : Types) (s t : List Value) (func k : ℕ) (b : Block) : Type 0 where
    pub inside : TypedItems T func k (items_of names func k b s)
    pub after : Scoped (types_after_items T func k (items_of names func k b s)) (s ++ values_of_items func k (items_of names func k b s)) (t ++ defined_by b)

  next_item : (func k n : ℕ) → n ≤ label_limit → label_at func k 0 + n ≤ label_at func (k + 1) 0
  next_item func k n le = omega arith

  pub items_typed : (func k : ℕ) (b : Block) (T : Types) (s t : List Value) → ShapedBlock 1 b → block_breaks ls b 0 t ≡ [] → wide_items b ≡ [] → Scoped T s t → Below (label_at func k 0) T
      → ItemsTyping T s t func k b
  items_typed func k none T s t sh h w here below = record {
    inside = tt;
    after = record { alike = alike_append s t [] [] here.alike refl; seen = each_append (Seen T) s [] here.seen tt };
  }
  items_typed func k (op spot packs kind first second rest) T s t sh h w here below =
      let at = label_at func k 0 in
      let alone = op spot packs kind first second none in
      let us = result_values 0 (packs_of packs) (result_tys kind) in
      let item = ops_of names alone s at in
      let a = block_typed ls names alone 1 0 T s t at (sh.0, sh.1, sh.2, tt) (alone_kept ls spot packs kind first second rest 0 t h) here below in
      let fit = items_fitting ls names func k (op spot packs kind first second rest) s t h w in
      let behind : Scoped (types_after T at item) (s ++ values_of at item) (t ++ us) = subst (λ x. Scoped (types_after T at item) (s ++ values_of at item) (t ++ x)) (append-nil us) a.after in
      let room = below_more (at + labels_of item) (label_at func (k + 1) 0) (types_after T at item) (next_item func k (labels_of item) fit.0) (below_after T at item below) in
      let b = items_typed func (k + 1) rest (types_after T at item) (s ++ values_of at item) (t ++ us) sh.3 (op_kept ls spot packs kind first second rest 0 t h).behind (none_append _ _ w).1 behind room in
      let more = items_of names func (k + 1) rest (s ++ values_of at item) in
      let last = types_after_items (types_after T at item) func (k + 1) more in
      record {
        inside = (a.inside, b.inside);
        after = subst (λ x. Scoped last x (t ++ (us ++ defined_by rest))) (append_assoc s (values_of at item) (values_of_items func (k + 1) more))
            (subst (λ y. Scoped last ((s ++ values_of at item) ++ values_of_items func (k + 1) more) y) (append_assoc t us (defined_by rest)) b.after);
      }

-- functions

abbrev PlainTyped : PlainFunc → Option PlainBody → Type 0
PlainTyped f None = Unit {0}
PlainTyped f (Some body) = TypedBody f.index f.args f.results body.items body.ret

first_item : (func : ℕ) (args : List Arg) → length args ≤ arg_limit → label_at func 0 0 + length args ≤ label_at func 1 0
first_item func args le = omega arith

bodies_typed : (ls : List Line) (k : ℕ) (l : Line) (bodies : List Line) → length (func_args l) ≤ arg_limit → Each (λ (body : Line). body_breaks ls l body ≡ []) bodies → ShapedBodies bodies
    → PlainTyped (func_of (map func_name ls) k l) (body_of (map func_name ls) k (func_args l) bodies)
bodies_typed ls k l [] few h sh = tt
bodies_typed ls k l (body ∷ bodies) few h sh =
    let parts = body_parts ls l body h.0 in
    let names = map func_name ls in
    let at = label_at k 0 0 in
    let args = func_args l in
    let T = args_typed k args in
    let start : Scoped T (arg_values at args) (arg_values 0 args) = with_args untyped [] [] at args (record { alike = refl; seen = tt }) (λ l g. refl) in
    let room = below_more (at + length args) (label_at k 1 0) T (first_item k args few) (below_args untyped at args (λ l g. refl)) in
    let a = items_typed ls names k 1 (block body.parts) T (arg_values at args) (arg_values 0 args) sh.0 parts.inside parts.narrow start room in
    let items = items_of names k 1 (block body.parts) (arg_values at args) in
    let results = tys (result_types l.parts) in
    let ret = labels (arg_values at args ++ values_of_items k 1 items) (ending terminals.Return body.parts).uses in
    let returned = end_exact (types_after_items T k 1 items) (arg_values at args ++ values_of_items k 1 items) _ a.after results (ending terminals.Return body.parts) parts.returned in
    record {
      inside = a.inside;
      returned = end_typed (types_after_items T k 1 items) results ret (passes results ret) returned (end_passes (types_after_items T k 1 items) results ret returned);
    }

body_typed : (f : Func) (body : Option Body) → PlainTyped (plain_func f) (option_map plain_body body) → IsTypedBody f body
body_typed f None h = h
body_typed f (Some body) h = h

func_typed : (ls : List Line) (k : ℕ) (l : Line) (f : Func) → func_breaks ls l ≡ [] → FuncShape l → plain_func f ≡ func_of (map func_name ls) k l → IsTyped f
func_typed ls k l f h shape e =
    let parts = func_parts ls l h in
    let few : length (func_args l) ≤ arg_limit = subst (λ n. n ≤ arg_limit) (sym (args_few l)) parts.few_args in
    body_typed f f.body (subst (λ (p : PlainFunc). PlainTyped p p.body) (sym e) (bodies_typed ls k l (lines forms.Body l.parts) few parts.bodies shape.bodies))

pub functions_typed : (s : Syntax) (funcs : List Func) → AreDerivedFunctions s funcs → (k : ℕ) (f : Func) → slice_get funcs k ≡ Some f → IsTyped f
functions_typed s funcs h k f e =
    let line = line_kept s funcs h k f e in
    func_typed (func_lines (phrase_in s)) line.at line.l f line.none line.shape line.same

pub functions_checked : (s : Syntax) (funcs : List Func) → AreDerivedFunctions s funcs → (k : ℕ) (f : Func) → slice_get funcs k ≡ Some f → IsWellFormed f
functions_checked s funcs h k f e = is_well_formed f (functions_typed s funcs h k f e) (functions_named s funcs h k f e) (functions_sized s funcs h k f e)
