-- Where other operations stand for a loop, values that are named apart with the loop are so with them.
use Rattle.std.proofs.Common.{◌≡◌, ℕ, ◌+◌, inl, inr, true, List, [], ◌∷◌, length, sym, subst, arith, refl}
use Rattle.mlir_ir.specs.declared.types.IrType.{IrType}
use Rattle.mlir_ir.specs.declared.types.Pack.{Pack}
use Rattle.mlir_ir.specs.Operations.{OpKind, Simple, If, For, While, OpList, nil, next, labels_of, inner_labels}
use Rattle.mlir_ir.specs.Named.{Names, with_packs, with_args, all_free, NamedOps, NamedRegions, names_after}
use Rattle.pass_copy.specs.Replaced.{Operation, is_loop, StandsIn, StandsInside, replaced, replaced_inside}
use Rattle.pass_copy.proofs.NamedRenamed.{Unused, Apart, OldPacks, OldOps, OldRegions, unused_packs, unused_args, named_kept, ops_relabelled, regions_relabelled, names_after_relabelled, apart_after}
use Rattle.pass_copy.proofs.UntouchedParts.{Away, no_loop_there, loop_labels, stands, stands_inside, not_around, replaced_away, inside_away, op_other, op_here}
use Rattle.pass_copy.proofs.JoinedOps.{named_joined, names_after_joined}

-- seg, with fresh names, stands for the loop o
pub record KeepsNames (fresh : ℕ → List ℕ) (K : ℕ) (seg : OpList) (o : Operation) : Type 0 where
  pub named : (N : Names) → Unused fresh K 0 N → OldPacks fresh K o.packs → OldRegions fresh K o.kind → all_free N o.packs ≡ true → NamedRegions N o.kind
      → NamedOps N seg × Apart fresh K (with_packs N o.packs) (names_after N seg)

module _ (f : ℕ → ℕ) (t : ℕ) (seg : OpList) (fresh : ℕ → List ℕ) (K : ℕ) where
  -- operations in N, and others in N'
  abbrev pub KeptNames : OpList → OpList → Names → Names → Type 0
  KeptNames ops ops' N N' = NamedOps N' ops' × Apart fresh K (names_after N ops) (names_after N' ops')

  pub untouched_named : (N N' : Names) (at : ℕ) (ops : OpList) → Away t at (labels_of ops) → Apart fresh K N N' → OldOps fresh K ops → NamedOps N ops → KeptNames ops (replaced f t seg at ops) N N'
  untouched_named N N' at ops q a v h =
      subst (λ x. KeptNames ops x N N') (sym (replaced_away f t seg ops at 0 q))
      (ops_relabelled f 0 N' ops (named_kept fresh K N N' ops a v h), subst (λ M. Apart fresh K (names_after N ops) M) (sym (names_after_relabelled f 0 N' ops)) (apart_after fresh K N N' ops a))

  here_named : (packs : List Pack) (results : List IrType) (kind : OpKind) (rest : OpList) → is_loop kind ≡ true
      → KeepsNames fresh K seg (record { packs = packs; results = results; kind = kind })
      → (N : Names) → Unused fresh K 0 N → OldOps fresh K (next packs results kind rest) → NamedOps N (next packs results kind rest)
      → KeptNames (next packs results kind rest) (replaced f t seg t (next packs results kind rest)) N N
  here_named packs results kind rest l m N u v h =
      let at = t + (inner_labels kind + length results) in
      let some = loop_labels kind l in
      let rest' = replaced f t seg at rest in
      let w = m.named N u v.0 v.1 h.0 h.1 in
      let r = untouched_named (with_packs N packs) (names_after N seg) at rest (inl (omega arith)) w.1 v.2 h.2 in
      subst (λ x. KeptNames (next packs results kind rest) x N N) (sym (op_here f t seg t packs results kind rest refl l))
      (named_joined N seg rest' w.0 r.0, subst (λ M. Apart fresh K (names_after (with_packs N packs) rest) M) (sym (names_after_joined N seg rest')) r.1)

  module _ (o : Operation) (m : KeepsNames fresh K seg o) where
    mutual
      pub found_named : (at : ℕ) (ops : OpList) → StandsIn t o at ops → (N : Names) → Unused fresh K 0 N → OldOps fresh K ops → NamedOps N ops → KeptNames ops (replaced f t seg at ops) N N
      found_named at nil s N u v h = absurd s
      found_named at (next packs results kind rest) (inl s) N u v h =
          let ops = next packs results kind rest in
          subst (λ p. KeptNames ops (replaced f t seg p ops) N N) (sym s.0)
          (here_named packs results kind rest s.1 (subst (λ x. KeepsNames fresh K seg x) (sym s.2) m) N u v h)
      found_named at (next packs results kind rest) (inr (inl s)) N u v h =
          let p = at + (inner_labels kind + length results) in
          let g = stands_inside t o kind at s in
          let M = with_packs N packs in
          let r = untouched_named M M p rest (inl (omega (arith, g.some, g.ends))) (λ n e x. x) v.2 h.2 in
          subst (λ x. KeptNames (next packs results kind rest) x N N) (sym (op_other f t seg at packs results kind rest (not_around t o kind at s)))
          ((h.0, found_regions_named at kind s N u v.1 h.1, r.0), r.1)
      found_named at (next packs results kind rest) (inr (inr s)) N u v h =
          let p = at + (inner_labels kind + length results) in
          let g = stands t o rest p s in
          let q : Away t at (inner_labels kind) = inr (omega (arith, g.begins)) in
          let M = with_packs N packs in
          let r = found_named p rest s M (unused_packs fresh K 0 N packs u v.0) v.2 h.2 in
          let k = subst (λ x. NamedRegions N x) (sym (inside_away f t seg kind at 0 q)) (regions_relabelled f 0 N kind h.1) in
          subst (λ x. KeptNames (next packs results kind rest) x N N) (sym (op_other f t seg at packs results kind rest (no_loop_there t kind at q)))
          ((h.0, k, r.0), r.1)

      found_regions_named : (at : ℕ) (kind : OpKind) → StandsInside t o at kind → (N : Names) → Unused fresh K 0 N → OldRegions fresh K kind → NamedRegions N kind
          → NamedRegions N (replaced_inside f t seg at kind)
      found_regions_named at (Simple does) s N u v h = absurd s
      found_regions_named at (If c first firsts has_else other others) (inl s) N u v h =
          let p = at + labels_of first in
          let g = stands t o first at s in
          ((found_named at first s N u v.0 h.0).0, (untouched_named N N p other (inl (omega (arith, g.some, g.ends))) (λ n e x. x) v.1 h.1).0)
      found_regions_named at (If c first firsts has_else other others) (inr s) N u v h =
          let p = at + labels_of first in
          let g = stands t o other p s in
          ((untouched_named N N at first (inr g.begins) (λ n e x. x) v.0 h.0).0, (found_named p other s N u v.1 h.1).0)
      found_regions_named at (For lower upper step iv args inits body ends) s N u v h =
          let N1 = with_args N (iv ∷ []) in
          let u1 = unused_args fresh K 0 N (iv ∷ []) u v.0 in
          (h.0, h.1, (found_named (at + 2 + length args) body s (with_args N1 args) (unused_args fresh K 0 N1 args u1 v.1) v.2 h.2).0)
      found_regions_named at (While args inits before passed cond after_args after ends) (inl s) N u v h =
          let p = at + 1 + length args in
          let q = p + labels_of before + length after_args in
          let g = stands t o before p s in
          let M = with_args N after_args in
          (h.0, (found_named p before s (with_args N args) (unused_args fresh K 0 N args u v.0) v.1 h.1).0, h.2, (untouched_named M M q after (inl (omega (arith, g.some, g.ends))) (λ n e x. x) v.3 h.3).0)
      found_regions_named at (While args inits before passed cond after_args after ends) (inr s) N u v h =
          let p = at + 1 + length args in
          let q = p + labels_of before + length after_args in
          let g = stands t o after q s in
          let M = with_args N args in
          (h.0, (untouched_named M M p before (inr (omega (arith, g.begins))) (λ n e x. x) v.1 h.1).0, h.2, (found_named q after s (with_args N after_args) (unused_args fresh K 0 N after_args u v.2) v.3 h.3).0)
