-- Tables that say of a function's items what they have to, one item after another.
use Rattle.std.proofs.Common.{◌≡◌, ℕ, zero, suc, ◌+◌, ◌≤◌, ◌==◌, List, [], ◌∷◌, ◌++◌, length, get_or, slice_get, None, refl, sym, ap, ◌∙◌, subst, arith, if◌then◌else◌}
use Rattle.std.proofs.Math.Path.{fun_ext}
use Rattle.arith_word.specs.Labels.{label_at, func_of, item_of, index_of}
use Rattle.mlir_ir.specs.declared.types.Func.{Func}
use Rattle.mlir_ir.specs.declared.types.IrType.{IrType}
use Rattle.mlir_ir.specs.declared.types.Item.{Item}
use Rattle.mlir_ir.specs.Limits.{arg_limit}
use Rattle.mlir_ir.specs.Operations.{labels_of}
use Rattle.mlir_ir.specs.Rules.{arg_types}
use Rattle.mlir_ir.specs.Sized.{SizedItems}
use Rattle.mlir_ir.specs.View.{view_ops, view_items}
use Rattle.fresh_scev.specs.declared.fact.Fact.{Fact}
use Rattle.fresh_scev.specs.declared.table.Table.{Table}
use Rattle.fresh_scev.specs.Expressions.{IsBefore}
use Rattle.fresh_scev.specs.Facts.{Facts, AreOwn, IsOps, IsItems, IsFacts, items_in}
use Rattle.fresh_scev.specs.SameFacts.{SameFacts, IsTestBelow}
use Rattle.fresh_scev.specs.Sealed.{Seals, HasItems}
use Rattle.fresh_scev.specs.Table.{fact_at, expr_in, role_in, turns_in, facts_in, facts_of, next_label, AreKnown}
use Rattle.fresh_scev.specs.UsesBelow.{DoUseBelow, DoItemsUseBelow}
use Rattle.fresh_scev.specs.Walked.{Says}
use Rattle.fresh_scev.proofs.Pushed.{items_grow}
use Rattle.fresh_scev.proofs.StandingFacts.{same_less, same_alike, own_stay, ops_stay, ops_at}
use Rattle.fresh_scev.proofs.Walks.{tests_below}

-- an item without facts says nothing
row_empty : (items : List (List Fact)) (k : ℕ) → get_or items k [] ≡ get_or (items ++ [] ∷ []) k []
row_empty [] zero = refl
row_empty [] (suc k) = refl
row_empty (x ∷ items) zero = refl
row_empty (x ∷ items) (suc k) = row_empty items k

module _ (s t : Table) (seals : Seals s t) where
  sealed_fact : (l : ℕ) → fact_at s.func (s.items ++ s.here.items ∷ []) l ≡ fact_at t.func (t.items ++ t.here.items ∷ []) l
  sealed_fact l =
      rw (seals.func, seals.items, seals.here)
      (ap (λ row. if func_of l == s.func then slice_get row (index_of l) else None) (row_empty (s.items ++ s.here.items ∷ []) (item_of l)))

  pub sealed_same : (from to : ℕ) → SameFacts (facts_of s) (facts_of t) from to
  sealed_same from to = record { exprs = λ l lt. ap expr_in (sealed_fact l); roles = λ l lt. ap role_in (sealed_fact l); turns = λ l ge lt. ap turns_in (sealed_fact l) }

  pub sealed_known : AreKnown (facts_of s) → AreKnown (facts_of t)
  sealed_known known = record {
    exprs = λ l. subst (λ f. IsBefore (l + 1) (expr_in f)) (sealed_fact l) (known.exprs l);
    roles = λ l. subst (λ f. IsTestBelow (role_in f) l) (sealed_fact l) (known.roles l);
  }

  pub sealed_many : length t.items ≡ length s.items + 1
  sealed_many = ap length seals.items ∙ one_more s.items s.here.items
    where
      one_more : (items : List (List Fact)) (row : List Fact) → length (items ++ row ∷ []) ≡ length items + 1
      one_more [] row = refl
      one_more (x ∷ items) row = let e = one_more items row in omega (arith, e)

-- the arguments: s is the table without facts, t that with them
pub sealed_arguments : (s t u : Table) (args : List IrType) → s.items ≡ [] → s.here.items ≡ [] → length args ≤ arg_limit → Says s t (length args) (λ F. AreOwn F (next_label s) args) → Seals t u → HasItems u args []
sealed_arguments s t u args none empty few says seals =
    let n = length args in
    let e : next_label s ≡ label_at s.func 0 0 = rw (none, empty) refl in
    let func : u.func ≡ s.func = seals.func ∙ says.grows.same.func in
    let items : t.items ≡ [] = says.grows.same.items ∙ none in
    let many : length t.items ≡ 0 = ap length items in
    let more = sealed_many t u seals in
    let at = next_label s in
    let own = own_stay (facts_of t) (facts_of u) (at + n) (same_alike (facts_of t) (facts_of u) 0 (at + n) (at + n) (omega arith) (sealed_same t u seals 0 (at + n))) at args (omega arith) says.facts in
    record {
      many = omega (arith, many, more);
      begins = seals.here;
      known = sealed_known t u seals says.grows.known;
      arguments = subst (λ l. AreOwn (facts_of u) l args) (e ∙ ap (λ f. label_at f 0 0) (sym func)) own;
      facts = tt;
    }

-- an item more: t is the table where it begins, u that with its facts
pub sealed_item : (t u v : Table) (args : List IrType) (xs : List Item) (item : Item) → length args ≤ arg_limit → SizedItems (view_items xs) → DoItemsUseBelow t.func 1 (view_items xs) → DoUseBelow (view_ops item.ops) (next_label t)
    → HasItems t args xs → Says t u (labels_of (view_ops item.ops)) (IsOps [] (view_ops item.ops) (next_label t)) → Seals u v → HasItems v args (xs ++ item ∷ [])
sealed_item t u v args xs item few sized uses own_uses has says seals =
    let F = facts_of t in
    let G = facts_of v in
    let func : v.func ≡ t.func = seals.func ∙ says.grows.same.func in
    let count = has.many in
    let empty : length t.here.items ≡ 0 = ap length has.begins in
    let k = 1 + length xs in
    let begin : next_label t ≡ label_at t.func k 0 = rw (count, empty) refl in
    let to = label_at t.func k 0 in
    let stay = says.grows.stay in
    let seal = sealed_same u v seals 0 to in
    let same : SameFacts F G 0 to = record {
      exprs = λ l lt. stay.exprs l (omega (arith, lt, begin)) ∙ seal.exprs l lt;
      roles = λ l lt. stay.roles l (omega (arith, lt, begin)) ∙ seal.roles l lt;
      turns = λ l ge lt. stay.turns l ge (omega (arith, lt, begin)) ∙ seal.turns l ge lt;
    } in
    let n = labels_of (view_ops item.ops) in
    let here : IsOps [] (view_ops item.ops) to G = ops_at [] (view_ops item.ops) G (next_label t) to begin
    (ops_stay (view_ops item.ops) [] (next_label t) (facts_of u) G own_uses tt (tests_below u (next_label t + n) says.grows.known) (sealed_same u v seals (next_label t) (next_label t + n)) says.facts) in
    let first : label_at t.func 0 0 + length args ≤ to = omega (arith, few) in
    let more = sealed_many u v seals in
    let same_items : length u.items ≡ length t.items = ap length says.grows.same.items in
    let long = pushed_length xs item in
    record {
      many = omega (arith, count, more, same_items, long);
      begins = seals.here;
      known = sealed_known u v seals says.grows.known;
      arguments = subst (λ f. AreOwn G (label_at f 0 0) args) (sym func) (own_stay F G to (same_alike F G 0 to to (omega arith) same) (label_at t.func 0 0) args first has.arguments);
      facts = subst (λ f. IsItems f 1 (view_items (xs ++ item ∷ [])) G) (sym func)
          (items_grow t.func 1 xs item F G sized uses (tests_below t to has.known) (same_less F G 0 to (label_at t.func 1 0) to (omega arith) (omega arith) same) has.facts here);
    }
  where
    pushed_length : (xs : List Item) (item : Item) → length (xs ++ item ∷ []) ≡ length xs + 1
    pushed_length [] item = refl
    pushed_length (x ∷ xs) item = let e = pushed_length xs item in omega (arith, e)

-- the facts of the whole function
pub all_items : (f : Func) (t : Table) (items : List Item) → t.func ≡ f.index → items_in f.body ≡ view_items items → HasItems t (arg_types f.args) items → IsFacts f (facts_of t)
all_items f t items func same has = record {
  arguments = subst (λ i. AreOwn (facts_of t) (label_at i 0 0) (arg_types f.args)) func has.arguments;
  items = subst (λ ops. IsItems f.index 1 ops (facts_of t)) (sym same) (subst (λ i. IsItems i 1 (view_items items) (facts_of t)) func has.facts);
}

-- an item under way without facts says nothing
pub facts_finished : (t : Table) → t.here.items ≡ [] → (What : Facts → Type 0) → What (facts_of t) → What (facts_in t.func t.items)
facts_finished t empty What h =
    let same : (l : ℕ) → fact_at t.func (t.items ++ t.here.items ∷ []) l ≡ fact_at t.func t.items l =
    λ l. rw empty (sym (ap (λ row. if func_of l == t.func then slice_get row (index_of l) else None) (row_empty t.items (item_of l)))) in
    subst (λ at. What (record { expr = λ l. expr_in (at l); role = λ l. role_in (at l); turns = λ l. turns_in (at l) })) (fun_ext same) h
