-- Exit values behind a loop have fresh names.
use Rattle.std.proofs.Common.{◌≡◌, ℕ, ◌+◌, ◌≤◌, false, List, [], ◌∷◌, sym, subst, arith}
use Rattle.mlir_ir.specs.Named.{Names, with_packs, NamedOps, names_after}
use Rattle.mlir_ir.specs.Operations.{labels_of}
use Rattle.pass_copy.specs.Renamed.{names_of}
use Rattle.pass_copy.specs.Replaced.{Operation, op_labels}
use Rattle.pass_copy.proofs.JoinedOps.{named_joined, names_after_joined, joined_names}
use Rattle.pass_copy.proofs.NamedRenamed.{AreFresh, Unused, Apart, unused_packs}
use Rattle.pass_copy.proofs.NamedReplaced.{KeepsNames}
use Rattle.pass_expand.specs.Expanded.{expansion}
use Rattle.pass_expand.proofs.RenamedExpansions.{expansion_named, expansion_unused, expansion_apart}
use Rattle.pass_indvar.specs.Exits.{Exit, exit_ops, with_exits}

module _ (fresh : ℕ → List ℕ) (K : ℕ) (F : AreFresh fresh K) where
  exits_named : (k at : ℕ) (es : List Exit) (N : Names) → k + names_of (exit_ops fresh k at es) ≤ K → Unused fresh K k N
      → NamedOps N (exit_ops fresh k at es) × Apart fresh K N (names_after N (exit_ops fresh k at es))
  exits_named k at [] N le u = (tt, λ n old e. e)
  exits_named k at (e ∷ es) N le u =
      let ops = expansion fresh e.ty k at e.expr in
      let rest = exit_ops fresh (k + names_of ops) (at + labels_of ops) es in
      let M = names_after N ops in
      let all = joined_names ops rest in
      let few : k + names_of ops ≤ K = omega (arith, all) in
      let more = exits_named (k + names_of ops) (at + labels_of ops) es M (omega (arith, all)) (expansion_unused fresh K F e.ty k at e.expr N u) in (
        named_joined N ops rest (expansion_named fresh K F e.ty k at e.expr N few u) more.0,
        λ n old q. subst (λ (X : Names). X n ≡ false) (sym (names_after_joined N ops rest)) (more.1 n old (expansion_apart fresh K F e.ty k at e.expr N few n old q)),
      )

  pub exit_names_kept : (t : ℕ) (o : Operation) (es : List Exit) → names_of (exit_ops fresh 0 (t + op_labels o) es) ≤ K → KeepsNames fresh K (with_exits fresh t o es) o
  exit_names_kept t o es le = record {
    named = λ N u old old_regions free regions.
        let more = exits_named 0 (t + op_labels o) es (with_packs N o.packs) (omega arith) (unused_packs fresh K 0 N o.packs u old) in
        ((free, regions, more.0), more.1);
  }
