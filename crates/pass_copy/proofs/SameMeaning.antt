-- A function in which others stand for a loop means what its parent does, where these others work.
use Rattle.std.proofs.Common.{◌≡◌, ℕ, ◌+◌, ◌-◌, ◌<◌, ◌≤◌, List, [], ◌∷◌, ◌++◌, length, inl, inr, refl, ap, ◌∙◌, sym, subst, arith, append-nil, Option, Some, None}
use Rattle.std.specs.Option.{option_map, option_map_or}
use Rattle.std.specs.Prelude.{IfSome}
use Rattle.std.specs.List.{All}
use Rattle.arith_word.specs.Labels.{label_at}
use Rattle.arith_word.specs.declared.label.Label.{Label}
use Rattle.mlir_ir.specs.declared.types.Arg.{Arg}
use Rattle.mlir_ir.specs.declared.types.Body.{Body}
use Rattle.mlir_ir.specs.declared.types.Func.{Func}
use Rattle.mlir_ir.specs.Operations.{OpList, labels_of}
use Rattle.mlir_ir.specs.Check.{IsWellFormed}
use Rattle.mlir_ir.specs.Limits.{arg_limit}
use Rattle.mlir_ir.specs.Places.{HasFewLabels, DoLabelsFit}
use Rattle.mlir_ir.specs.Reads.{plain_func, plain_body}
use Rattle.mlir_ir.specs.Resolved.{PlainBody, PlainFunc}
use Rattle.mlir_ir.specs.Rules.{arg_types}
use Rattle.mlir_ir.specs.RunPrefixes.{IsPrefix, IsFrontOf}
use Rattle.mlir_ir.specs.Runs.{Run, Binding, Report, Event, State, Trapped, Starved, Cut, End, Done, Stopped, Ended, binds, numbers_of, numbers_at, definitions, run_items, outcome_of, trace_of, run_body, run_declared, run_of}
use Rattle.mlir_ir.specs.Sized.{SizedItems}
use Rattle.mlir_ir.specs.Typed.{Types, args_typed, untyped, types_after_items}
use Rattle.mlir_ir.specs.View.{view_items}
use Rattle.mlir_ir.specs.WellFormed.{IsTypedBody, IsSizedBody}
use Rattle.mlir_ir.proofs.RunBudgets.{budgets_extend}
use Rattle.mlir_ir.proofs.RunTraces.{prefix_self}
use Rattle.mlir_ir.proofs.SizedFunctions.{well_formed}
use Rattle.pass_copy.specs.Reported.{Claim, AllHoldAt, HoldsIn}
use Rattle.pass_copy.specs.Meaning.{outcome_on, trace_on, parent_budget, Finishes, HasSameMeaning}
use Rattle.pass_copy.specs.Renamed.{relabels}
use Rattle.pass_copy.specs.Replaced.{Operation, op_labels, item_end, StandsInBody, StandsAt, replaced_items, replaced_body, replaced_func}
use Rattle.pass_copy.specs.Scopes.{ScopeInBody, HasScope}
use Rattle.pass_copy.proofs.RunEnds.{ends_items, items_ends}
use Rattle.pass_copy.proofs.Claims.{items_claim, items_claimed}
use Rattle.pass_copy.proofs.Ahead.{Dir, forth, back, Left, left_le, Joint, Leads, swapped, Ahead}
use Rattle.pass_copy.proofs.Bindings.{Scope, Same, All2, pairs, numbers_same, push_these}
use Rattle.pass_copy.proofs.AlikeOps.{Joined}
use Rattle.pass_copy.proofs.SimpleRuns.{all_numbers}
use Rattle.pass_copy.proofs.RenamedAlike.{arg_types_length, all_covered, covers_more, below_inside}
use Rattle.pass_copy.proofs.ReplacedAlike.{WorksAt}
use Rattle.pass_copy.proofs.ItemPlaces.{ItemsFit, items_fit, stands_behind, in_item}
use Rattle.pass_copy.proofs.ReplacedItems.{ItemsFrom, sim_items, replaced_alike}

-- a function means what it does itself

front_ends : (short long : Run) → IsFrontOf short long → Finishes short.outcome → (long.outcome ≡ short.outcome) × (long.trace ≡ short.trace)
front_ends short long (inl e) h = (ap (λ (r : Run). r.outcome) (sym e), ap (λ (r : Run). r.trace) (sym e))
front_ends short long (inr c) h = absurd (h c.cut)

front_trace : (short long : Run) → IsFrontOf short long → IsPrefix short.trace long.trace
front_trace short long (inl e) = subst (λ (r : Run). IsPrefix short.trace r.trace) e (prefix_self short.trace)
front_trace short long (inr c) = c.trace

longer_run : (f : Func) (args replies : List ℕ) (n : ℕ) → IsFrontOf (run_of f args replies n) (run_of f args replies (parent_budget n))
longer_run f args replies n =
    let more = parent_budget n - n in
    let e : n + more ≡ parent_budget n = omega arith in
    subst (λ m. IsFrontOf (run_of f args replies n) (run_of f args replies m)) e (budgets_extend f args replies n more)

pub means_itself : (f : Func) → HasSameMeaning f f
means_itself f = record {
  forth = λ args replies n e h. (refl, refl);
  back = λ args replies n e h. front_ends (run_of f args replies n) (run_of f args replies (parent_budget n)) (longer_run f args replies n) h;
  sooner = λ args replies n e. prefix_self (trace_on f args replies n);
  later = λ args replies n e. front_trace (run_of f args replies n) (run_of f args replies (parent_budget n)) (longer_run f args replies n);
}

-- what the runs of two functions have in common, where one is ahead of the other

lead_ends : (R : Joint) (ret ret' : List Label) (e e' : End)
    → ((env : List Binding) (s : State) (env' : List Binding) (s' : State) → R env s env' s' → (numbers_of env' ret' ≡ numbers_of env ret) × (s'.trace ≡ s.trace))
    → Leads R e e' → Finishes (outcome_of ret e) → (outcome_of ret' e' ≡ outcome_of ret e) × (trace_of e' ≡ trace_of e)
lead_ends R ret ret' (Done env s) (Done env' s') f l ne = let p = f env s env' s' l in (ap Ended p.0, p.1)
lead_ends R ret ret' (Done env s) (Stopped stop trace) f l ne = absurd l
lead_ends R ret ret' (Stopped Trapped trace) e' f l ne = (ap (outcome_of ret') l, ap trace_of l)
lead_ends R ret ret' (Stopped Starved trace) e' f l ne = (ap (outcome_of ret') l, ap trace_of l)
lead_ends R ret ret' (Stopped Cut trace) e' f l ne = absurd (ne refl)

prefix_same : (a b : List Event) → b ≡ a → IsPrefix a b
prefix_same a b e = ([], e ∙ sym (append-nil a))

prefix_between : (a a' b b' : List Event) → a ≡ a' → b ≡ b' → IsPrefix a' b' → IsPrefix a b
prefix_between a a' b b' ea eb l = (l.0, eb ∙ (l.1 ∙ ap (λ z. z ++ l.0) (sym ea)))

lead_trace : (R : Joint) (e e' : End) → ((env : List Binding) (s : State) (env' : List Binding) (s' : State) → R env s env' s' → s'.trace ≡ s.trace)
    → Leads R e e' → IsPrefix (trace_of e) (trace_of e')
lead_trace R (Done env s) (Done env' s') f l = prefix_same s.trace s'.trace (f env s env' s' l)
lead_trace R (Done env s) (Stopped stop trace) f l = absurd l
lead_trace R (Stopped Trapped trace) e' f l = prefix_same trace (trace_of e') (ap trace_of l)
lead_trace R (Stopped Starved trace) e' f l = prefix_same trace (trace_of e') (ap trace_of l)
lead_trace R (Stopped Cut trace) e' f l = l

-- how a run ends on arguments, replies and a budget
abbrev Runs : Type 0
Runs = List ℕ → List ℕ → ℕ → End

record RunsAs (f : Func) (ret : List Label) (runs : Runs) : Type 0 where
  pub outcome : (args replies : List ℕ) (n : ℕ) → outcome_on f args replies n ≡ outcome_of ret (runs args replies n)
  pub trace : (args replies : List ℕ) (n : ℕ) → trace_on f args replies n ≡ trace_of (runs args replies n)

ahead_means : (p child : Func) (ret ret' : List Label) (runs runs' : Runs) (ctx : Scope) → RunsAs p ret runs → RunsAs child ret' runs'
    → ((d : Dir) (args replies : List ℕ) (n n' : ℕ) → length args ≡ length p.args → Left d 31 n n' → Ahead d (Joined ctx d n n' 0) (runs args replies n) (runs' args replies n'))
    → ((env env' : List Binding) → Same ctx env env' → numbers_of env ret ≡ numbers_of env' ret') → HasSameMeaning p child
ahead_means p child ret ret' runs runs' ctx a b ahead rets = record {
  forth = λ args replies n e h. let r = lead_ends (Joined ctx forth n n 0) ret ret' (runs args replies n) (runs' args replies n)
      (λ env s env' s' j. (sym (rets env env' j.same), sym j.st.trace)) (ahead forth args replies n n e (omega arith)) (λ q. h (a.outcome args replies n ∙ q)) in (
        b.outcome args replies n ∙ (r.0 ∙ sym (a.outcome args replies n)),
        b.trace args replies n ∙ (r.1 ∙ sym (a.trace args replies n)),
      );
  back = λ args replies n e h. let m = parent_budget n in
      let r = lead_ends (swapped (Joined ctx back m n 0)) ret' ret (runs' args replies n) (runs args replies m)
      (λ env' s' env s j. (rets env env' j.same, j.st.trace)) (ahead back args replies m n e (omega arith)) (λ q. h (b.outcome args replies n ∙ q)) in (
        a.outcome args replies m ∙ (r.0 ∙ sym (b.outcome args replies n)),
        a.trace args replies m ∙ (r.1 ∙ sym (b.trace args replies n)),
      );
  sooner = λ args replies n e.
      prefix_between (trace_on p args replies n) (trace_of (runs args replies n)) (trace_on child args replies n) (trace_of (runs' args replies n)) (a.trace args replies n) (b.trace args replies n)
      (lead_trace (Joined ctx forth n n 0) (runs args replies n) (runs' args replies n) (λ env s env' s' j. sym j.st.trace) (ahead forth args replies n n e (omega arith)));
  later = λ args replies n e. let m = parent_budget n in
      prefix_between (trace_on child args replies n) (trace_of (runs' args replies n)) (trace_on p args replies m) (trace_of (runs args replies m)) (b.trace args replies n) (a.trace args replies m)
      (lead_trace (swapped (Joined ctx back m n 0)) (runs' args replies n) (runs args replies m) (λ env' s' env s j. j.st.trace) (ahead back args replies m n e (omega arith)));
}

-- the runs of a function

abbrev begin : ℕ → List ℕ → State
begin n replies = record { budget = n; replies = replies; trace = [] }

-- of one with that index, these arguments and items
abbrev runs_of : ℕ → List Arg → List OpList → Runs
runs_of func params items args replies n =
    ends_items func 1 items n (binds (label_at func 0 0) (numbers_at (arg_types params) args) []) (begin n replies)

runs_as : (f : Func) (body : Body) → f.body ≡ Some body → RunsAs f body.ret (runs_of f.index f.args (view_items body.items))
runs_as f body e = record {
  outcome = λ args replies n. ap (λ b. (option_map_or (λ body. run_body f body args replies n) b run_declared).outcome) e ∙ ap (outcome_of body.ret) (same args replies n);
  trace = λ args replies n. ap (λ b. (option_map_or (λ body. run_body f body args replies n) b run_declared).trace) e ∙ ap trace_of (same args replies n);
} where
  same : (args replies : List ℕ) (n : ℕ) → (run_items f.index 1 (view_items body.items) n (binds (label_at f.index 0 0) (numbers_at (arg_types f.args) args) []) (begin n replies)).end
      ≡ runs_of f.index f.args (view_items body.items) args replies n
  same args replies n = items_ends f.index 1 (view_items body.items) n (binds (label_at f.index 0 0) (numbers_at (arg_types f.args) args) []) (begin n replies)

hold_behind : (H : Claim) (xs ys : List Report) → AllHoldAt H (xs ++ ys) → AllHoldAt H ys
hold_behind H [] ys h = h
hold_behind H (r ∷ xs) ys h = hold_behind H xs ys h.1

claimed : (H : Claim) (f : Func) (body : Body) → f.body ≡ Some body → HoldsIn H f → (args replies : List ℕ) (n : ℕ) → length args ≡ length f.args
    → items_claim H f.index 1 (view_items body.items) n (binds (label_at f.index 0 0) (numbers_at (arg_types f.args) args) []) (begin n replies)
claimed H f body e h args replies n len =
    let at = label_at f.index 0 0 in
    let ns = numbers_at (arg_types f.args) args in
    let all = subst (λ b. AllHoldAt H (option_map_or (λ body. run_body f body args replies n) b run_declared).reports) e (h args replies n len) in
    items_claimed H f.index 1 (view_items body.items) n (binds at ns []) (begin n replies)
    (hold_behind H (definitions at ns [] []) (run_items f.index 1 (view_items body.items) n (binds at ns []) (begin n replies)).reports all)

-- labels

sized_labels : (items : List OpList) → SizedItems items → ItemsFit items
sized_labels [] h = tt
sized_labels (ops ∷ items) h = (h.0.labels, sized_labels items h.1)

-- the child means what the parent does, where its items are alike
alike_means : (H : Claim) (f : ℕ → ℕ) (p child : Func) (body : Body) (items' : List OpList) → p.body ≡ Some body
    → RunsAs child (relabels f body.ret) (runs_of p.index p.args items') → HoldsIn H p
    → (r : ItemsFrom H f p.index 31 1 (args_typed p.index p.args) (pairs (label_at p.index 0 0) (label_at p.index 0 0) (length p.args) []) (view_items body.items) items')
    → All2 r.behind body.ret (relabels f body.ret) → HasSameMeaning p child
alike_means H f p child body items' e child_runs holds r rets =
    let items = view_items body.items in
    let at = label_at p.index 0 0 in
    let tys = arg_types p.args in
    ahead_means p child body.ret (relabels f body.ret) (runs_of p.index p.args items) (runs_of p.index p.args items') r.behind (runs_as p body e) child_runs
    (λ d args replies n n' el left.
    let ns = numbers_at tys args in
    let counted : length ns ≡ length p.args = all_numbers tys args (let la = arg_types_length p.args in omega (arith, el, la)) ∙ arg_types_length p.args in
    sim_items H p.index r.alike d n n' n n' 0 (binds at ns []) (begin n replies) (binds at ns []) (begin n' replies) (omega arith) (omega arith)
    (record {
      same = push_these [] [] [] at at (length p.args) ns counted tt tt;
      st = record { replies = refl; trace = refl; left = left_le d (0 + 31) 31 n n' (omega arith) left; fits = omega arith; fits' = omega arith };
    })
    (claimed H p body e holds args replies n el))
    (λ env env' s. numbers_same r.behind env env' body.ret (relabels f body.ret) s rets)

-- the labels of a loop of a well-formed function are those of one item
pub loop_in_item : (p : Func) (t : ℕ) (o : Operation) → IsWellFormed p → StandsAt p t o → t + op_labels o < item_end t
loop_in_item p t o well s = let h = in_item p well t o s in h.whole

-- the child

module _ (Q : Types → Type 0) (H : Claim) (f : ℕ → ℕ) (k t : ℕ) (o : Operation) (others : OpList) (p child : Func) (few : k ≤ 31) (stays : (y : ℕ) → y < t → f y ≡ y)
    (moves : (y : ℕ) → t + op_labels o ≤ y → y < item_end t → f y + op_labels o ≡ y + labels_of others)
    (beyond : (y : ℕ) → item_end t ≤ y → f y ≡ y) (holds : HoldsIn H p) (works : WorksAt Q H f k t o others) where
  bodies_mean : (body body' : Body) → p.body ≡ Some body → child.body ≡ Some body' → StandsInBody t o p.index (Some body)
      → ScopeInBody t Q p (Some body) → IsTypedBody p (Some body) → IsSizedBody (Some body) → length p.args ≤ arg_limit → All HasFewLabels body'.items
      → child.index ≡ p.index → child.args ≡ p.args → plain_body body' ≡ replaced_body f t others p.index body → HasSameMeaning p child
  bodies_mean body body' e e' stands held typed sized args_few fit same_index same_args same =
      let func = p.index in
      let items = view_items body.items in
      let items' = replaced_items f t others func 1 items in
      let at = label_at func 0 0 in
      let next_at = label_at func 1 0 in
      let len = length p.args in
      let same_items : view_items body'.items ≡ items' = ap (λ (b : PlainBody). b.items) same in
      let same_ret : body'.ret ≡ relabels f body.ret = ap (λ (b : PlainBody). b.ret) same in
      let behind = stands_behind t o func 1 items stands in
      let covers = covers_more f untyped [] at at len at (arg_types p.args) refl (arg_types_length p.args) (λ y low high. let q = stays y (omega arith) in omega arith) (λ y h. cc) in
      let below = below_inside [] at at at at len next_at next_at (omega arith) (omega arith) (omega arith) (omega arith) tt in
      let r = replaced_alike Q H f k t o others func few stays moves beyond works items 1 (args_typed func p.args) (pairs at at len []) (omega (arith, sized.few)) stands
      held typed.inside (sized_labels items sized.inside) (subst ItemsFit same_items (items_fit body'.items fit)) covers below in
      let child_runs = subst (λ z. RunsAs child (relabels f body.ret) (runs_of func p.args z)) same_items
      (subst (λ z. RunsAs child z (runs_of func p.args (view_items body'.items))) same_ret
      (subst (λ z. RunsAs child body'.ret (runs_of func z (view_items body'.items))) same_args
      (subst (λ z. RunsAs child body'.ret (runs_of z child.args (view_items body'.items))) same_index (runs_as child body' e')))) in
      alike_means H f p child body items' e child_runs holds r
      (all_covered f (types_after_items (args_typed func p.args) func 1 items) r.behind body.ret r.covers typed.returned.in_scope)

  by_bodies : (body body' : Option Body) → p.body ≡ body → child.body ≡ body' → StandsInBody t o p.index body
      → ScopeInBody t Q p body → IsTypedBody p body → IsSizedBody body → length p.args ≤ arg_limit → IfSome body' (λ (b : Body). All HasFewLabels b.items)
      → child.index ≡ p.index → child.args ≡ p.args → option_map plain_body body' ≡ option_map (replaced_body f t others p.index) body → HasSameMeaning p child
  by_bodies None body' e e' stands held typed sized args_few fit same_index same_args same = absurd stands
  by_bodies (Some body) None e e' stands held typed sized args_few fit same_index same_args same = cc
  by_bodies (Some body) (Some body') e e' stands held typed sized args_few fit same_index same_args same =
      bodies_mean body body' e e' stands held typed sized args_few fit same_index same_args
      (ap (λ (b : Option PlainBody). option_map_or (λ (x : PlainBody). x) b (plain_body body')) same)

  -- where the child has few enough labels
  pub child_means_the_same : IsWellFormed p → StandsAt p t o → HasScope p t Q → plain_func child ≡ replaced_func f t others p → DoLabelsFit child → HasSameMeaning p child
  child_means_the_same well stands held is fit =
      let parts = well_formed p well in
      by_bodies p.body child.body refl refl stands held parts.0 parts.2.inside parts.2.args_sized.few fit.items_fit
      (ap (λ (g : PlainFunc). g.index) is) (ap (λ (g : PlainFunc). g.args) is) (ap (λ (g : PlainFunc). g.body) is)
