-- Which label each value has where exit values stand behind a loop, and the pairs of labels behind these.
use Rattle.std.proofs.Common.{◌≡◌, ℕ, ◌+◌, ◌-◌, ◌<◌, ◌≤◌, inl, inr, ◌⊎◌, List, [], ◌∷◌, ◌++◌, refl, ap, ◌∙◌, sym, subst, arith}
use Rattle.std.proofs.lemmas.Bool.{cases_lt}
use Rattle.mlir_ir.specs.Operations.{labels_of}
use Rattle.mlir_ir.specs.Typed.{Types}
use Rattle.pass_copy.specs.Renamed.{names_of}
use Rattle.pass_copy.specs.Renaming.{renamed}
use Rattle.pass_copy.specs.declared.renaming.Span.{Span}
use Rattle.pass_copy.proofs.Bindings.{Scope, pair, In, Below, same_or, below_more}
use Rattle.pass_copy.proofs.JoinedOps.{joined_labels, joined_names}
use Rattle.pass_expand.specs.Expanded.{expansion, expansion_end}
use Rattle.pass_expand.proofs.ExpansionLabels.{last_label, some_labels, expansion_names, end_within}
use Rattle.pass_indvar.specs.Exits.{Exit, exit_ops, exit_links}
use Rattle.pass_indvar.proofs.ChosenExits.{AreChosen}
use Rattle.pass_unroll.proofs.SpanLabels.{span_has, span_before, span_behind}

-- the label behind the operations of an exit
abbrev pub next_at : ℕ → Exit → ℕ
next_at at e = expansion_end at e.expr + 1

pub next_is : (fresh : ℕ → List ℕ) (k at : ℕ) (e : Exit) → next_at at e ≡ at + labels_of (expansion fresh e.ty k at e.expr)
next_is fresh k at e =
    let q = last_label fresh e.ty k at e.expr in
    let s = some_labels fresh e.ty k at e.expr in
    omega (arith, q, s)

-- the label behind those of all exits
abbrev pub last_at : ℕ → List Exit → ℕ
last_at at [] = at
last_at at (e ∷ es) = last_at (next_at at e) es

pub exit_labels : (fresh : ℕ → List ℕ) (k at : ℕ) (es : List Exit) → last_at at es ≡ at + labels_of (exit_ops fresh k at es)
exit_labels fresh k at [] = omega arith
exit_labels fresh k at (e ∷ es) =
    let ops = expansion fresh e.ty k at e.expr in
    let rest = exit_ops fresh (k + names_of ops) (at + labels_of ops) es in
    let q = next_is fresh k at e in
    let r = exit_labels fresh (k + names_of ops) (at + labels_of ops) es in
    let j = joined_labels ops rest in
    ap (λ n. last_at n es) q ∙ omega (arith, r, j)

-- as many names as labels
pub exit_names : (fresh : ℕ → List ℕ) (k at : ℕ) (es : List Exit) → names_of (exit_ops fresh k at es) ≡ labels_of (exit_ops fresh k at es)
exit_names fresh k at [] = refl
exit_names fresh k at (e ∷ es) =
    let ops = expansion fresh e.ty k at e.expr in
    let rest = exit_ops fresh (k + names_of ops) (at + labels_of ops) es in
    let a = expansion_names fresh e.ty k at e.expr in
    let r = exit_names fresh (k + names_of ops) (at + labels_of ops) es in
    let j = joined_labels ops rest in
    let n = joined_names ops rest in
    omega (arith, a, r, j, n)

-- the value's label is one of the operations'
pub end_behind : (at : ℕ) (e : Exit) → at ≤ expansion_end at e.expr
end_behind at e = (end_within (λ k. []) e.ty 0 at e.expr).0

-- pairs of results and the values that stand for them
abbrev pub exit_scope : ℕ → List Exit → Scope → Scope
exit_scope at [] ctx = ctx
exit_scope at (e ∷ es) ctx = exit_scope (next_at at e) es (pair e.result (expansion_end at e.expr) ∷ ctx)

in_before : (at : ℕ) (es : List Exit) (ctx : Scope) (y y' : ℕ) → In y y' ctx → In y y' (exit_scope at es ctx)
in_before at [] ctx y y' i = i
in_before at (e ∷ es) ctx y y' i = in_before (next_at at e) es (pair e.result (expansion_end at e.expr) ∷ ctx) y y' (inr i)

module _ (tail : List Span) where
  abbrev links : ℕ → List Exit → ℕ → ℕ
  links at es = renamed (exit_links at es ++ tail)

  -- the link of a result
  pub here_link : (at : ℕ) (e : Exit) (es : List Exit) (y : ℕ) → e.result ≡ y → links at (e ∷ es) y ≡ expansion_end at e.expr
  here_link at e es y q =
      let here : y - e.result + expansion_end at e.expr ≡ expansion_end at e.expr = omega arith in
      span_has e.result 1 (expansion_end at e.expr) (exit_links (next_at at e) es ++ tail) y (omega arith) (omega arith) ∙ here

  -- past a link to another result
  pub other_link : (at : ℕ) (e : Exit) (es : List Exit) (y : ℕ) → (e.result ≡ y → ⊥) → links at (e ∷ es) y ≡ links (next_at at e) es y
  other_link at e es y ne = elim (cases_lt y e.result) [
    | inl lt ↦ span_before e.result 1 (expansion_end at e.expr) (exit_links (next_at at e) es ++ tail) y lt
    | inr le ↦ span_behind e.result 1 (expansion_end at e.expr) (exit_links (next_at at e) es ++ tail) y (omega (arith, ne))
  ]

  -- no link has a value outside the loop's results
  pub links_outside : (T U : Types) (l end at : ℕ) (es : List Exit) (y : ℕ) → AreChosen T U l end es → (y < l) ⊎ (end ≤ y) → links at es y ≡ renamed tail y
  links_outside T U l end at [] y h out = refl
  links_outside T U l end at (e ∷ es) y h out =
      let low = h.0.low in
      let high = h.0.high in
      elim out [
        | inl lt ↦ other_link at e es y (λ q. omega arith) ∙ links_outside T U (e.result + 1) end (next_at at e) es y h.1 (inl (omega arith))
        | inr le ↦ other_link at e es y (λ q. omega arith) ∙ links_outside T U (e.result + 1) end (next_at at e) es y h.1 (inr le)
      ]

  -- each value in scope is there under the label that it gets
  pub linked_in : (at : ℕ) (es : List Exit) (ctx : Scope) (y : ℕ) → In y y ctx → renamed tail y ≡ y → In y (links at es y) (exit_scope at es ctx)
  linked_in at [] ctx y i same = subst (λ z. In y z ctx) (sym same) i
  linked_in at (e ∷ es) ctx y i same =
      let v = expansion_end at e.expr in
      let more = pair e.result v ∷ ctx in
      elim (same_or e.result y) [
        | inl q ↦ subst (λ z. In y z (exit_scope (next_at at e) es more)) (sym (here_link at e es y q)) (in_before (next_at at e) es more y v (inl (q, refl)))
        | inr ne ↦ subst (λ z. In y z (exit_scope (next_at at e) es more)) (sym (other_link at e es y ne)) (linked_in (next_at at e) es more y (inr i) same)
      ]

pub exit_below : (T U : Types) (l end at : ℕ) (es : List Exit) (ctx : Scope) → AreChosen T U l end es → Below end at ctx → Below end (last_at at es) (exit_scope at es ctx)
exit_below T U l end at [] ctx h b = b
exit_below T U l end at (e ∷ es) ctx h b =
    let high = h.0.high in
    let low = end_behind at e in
    exit_below T U (e.result + 1) end (next_at at e) es (pair e.result (expansion_end at e.expr) ∷ ctx) h.1
    (high, omega arith, below_more end at end (next_at at e) ctx (omega arith) (omega (arith, low)) b)
