-- What stands for a loop whose product became an argument is named apart where the loop is.
use Rattle.std.proofs.Common.{◌≡◌, ℕ, ◌+◌, ◌<◌, ◌≤◌, ◌&&◌, not, true, List, [], ◌∷◌, ◌++◌, length, refl, ap, ◌∙◌, sym, subst, arith}
use Rattle.std.proofs.lemmas.Bool.{and_parts, not-true, or_parts}
use Rattle.std.proofs.lemmas.List.Folds.{list_any-append}
use Rattle.std.specs.List.{list_any}
use Rattle.std.specs.Str.{bytes_eq}
use Rattle.mlir_ir.specs.Named.{Names, with_packs, with_args, free, all_free, NamedArgs, NamedOps, names_after}
use Rattle.mlir_ir.specs.Operations.{OpList, nil, next, joined}
use Rattle.mlir_ir.specs.Typed.{Types}
use Rattle.mlir_ir.specs.declared.types.Arg.{Arg}
use Rattle.mlir_ir.specs.declared.types.Pack.{Pack}
use Rattle.pass_copy.specs.Built.{label, sum}
use Rattle.pass_copy.specs.Renamed.{keep, rename_ops, names_of}
use Rattle.pass_copy.specs.Renaming.{renamed}
use Rattle.pass_copy.proofs.BuiltBehind.{one_pack}
use Rattle.pass_copy.proofs.JoinedOps.{named_joined, names_after_joined}
use Rattle.pass_copy.proofs.NamedRenamed.{AreFresh, Unused, Apart, OldArgs, OldPacks, OldOps, unused_more, free_anew, unused_args, unused_after, named_kept, named_regions_kept, free_packs_kept, ops_relabelled, names_after_relabelled, apart_after}
use Rattle.pass_copy.proofs.NamedReplaced.{KeepsNames}
use Rattle.pass_expand.specs.Expanded.{expansion_end}
use Rattle.pass_expand.proofs.RenamedExpansions.{expansion_named, expansion_unused, expansion_apart}
use Rattle.pass_indvar.specs.Reductions.{Progression, start_ops, step_at, step_ops, loop_names, new_arg, reduced_spans, reduced_body, reduced_loop, reduced}
use Rattle.pass_indvar.proofs.FirstProducts.{kind_of, IsParted}
use Rattle.pass_indvar.proofs.ReducedLabels.{child_body}
use Rattle.pass_unroll.specs.Copies.{ForLoop, operation_of}

module _ (fresh : ℕ → List ℕ) (K : ℕ) (F : AreFresh fresh K) where
  -- one more at the end, with a fresh name

  packs_last : (k : ℕ) (N : Names) (packs : List Pack) → k < K → Unused fresh K k N → OldPacks fresh K packs → all_free N packs ≡ true → all_free N (packs ++ one_pack (fresh k)) ≡ true
  packs_last k N [] lt u v h = rw (free_anew fresh K F k N lt u) refl
  packs_last k N (pack ∷ packs) lt u v h =
      let other = not (list_any (λ (p : Pack). bytes_eq p.name pack.name) packs) in
      let a = and_parts (free N pack.name && other) (all_free N packs) h in
      let b = and_parts (free N pack.name) other a.0 in
      rw (list_any-append (λ (p : Pack). bytes_eq p.name pack.name) packs (one_pack (fresh k)), (v.0 k lt).1, b.0, not-true (list_any (λ (p : Pack). bytes_eq p.name pack.name) packs) b.1, packs_last k N packs lt u v.1 a.1) refl

  args_last : (k : ℕ) (N : Names) (args : List Arg) (arg : Arg) → arg.name ≡ fresh k → k < K → Unused fresh K k N → OldArgs fresh K args → NamedArgs N args → NamedArgs N (args ++ arg ∷ [])
  args_last k N [] arg e lt u v h = (ap (free N) e ∙ free_anew fresh K F k N lt u, tt)
  args_last k N (first ∷ args) arg e lt u v h =
      (h.0, args_last k (with_args N (first ∷ [])) args arg e lt (unused_args fresh K k N (first ∷ []) u (v.0, tt)) v.1 h.1)

  apart_last_packs : (k : ℕ) (N M : Names) (packs : List Pack) → k < K → Apart fresh K N M → Apart fresh K (with_packs N packs) (with_packs M (packs ++ one_pack (fresh k)))
  apart_last_packs k N M packs lt a n e h =
      let p = or_parts (N n) (list_any (λ (q : Pack). bytes_eq q.name n) packs) h in
      rw (list_any-append (λ (q : Pack). bytes_eq q.name n) packs (one_pack (fresh k)), a n e p.0, p.1, (e k lt).1) refl

  apart_last_args : (k : ℕ) (N : Names) (args : List Arg) (arg : Arg) → arg.name ≡ fresh k → k < K → Apart fresh K (with_args N args) (with_args N (args ++ arg ∷ []))
  apart_last_args k N args arg q lt n e h =
      let p = or_parts (N n) (list_any (λ (x : Arg). bytes_eq x.name n) args) h in
      rw (list_any-append (λ (x : Arg). bytes_eq x.name n) args (arg ∷ []), p.0, p.1, q, (e k lt).1) refl

  unused_last : (k : ℕ) (N : Names) (args : List Arg) (arg : Arg) → arg.name ≡ fresh k → Unused fresh K k N → OldArgs fresh K args → Unused fresh K (k + 1) (with_args N (args ++ arg ∷ []))
  unused_last k N args arg q u v i le lt =
      let p = or_parts (N (fresh i)) (list_any (λ (x : Arg). bytes_eq x.name (fresh i)) args) (unused_args fresh K k N args u v i (omega arith) lt) in
      rw (list_any-append (λ (x : Arg). bytes_eq x.name (fresh i)) args (arg ∷ []), p.0, p.1, q, F.apart k i (omega arith) lt) refl

  -- operations in two parts

  named_parts : (N : Names) (a b : OpList) → NamedOps N (joined a b) → NamedOps N a × NamedOps (names_after N a) b
  named_parts N nil b h = (tt, h)
  named_parts N (next packs results kind rest) b h = let p = named_parts (with_packs N packs) rest b h.2 in ((h.0, h.1, p.0), p.1)

  old_parts : (a b : OpList) → OldOps fresh K (joined a b) → OldOps fresh K a × OldOps fresh K b
  old_parts nil b v = (tt, v)
  old_parts (next packs results kind rest) b v = let p = old_parts rest b v.2 in ((v.0, v.1, p.0), p.1)

  module _ (t : ℕ) (o : ForLoop) (g : Progression) (scope : Types) (parted : IsParted scope g (t + 2 + length o.args) o.body) where
    abbrev f : ℕ → ℕ
    f = renamed (reduced_spans fresh t o g)

    abbrev m : ℕ
    m = loop_names fresh t o g

    abbrev added_arg : Arg
    added_arg = record { name = fresh m; ty = g.ty }

    -- the body in a scope with the new argument besides
    body_named : (N : Names) → m + 3 ≤ K → Unused fresh K m N → OldArgs fresh K o.args → OldOps fresh K o.body → NamedOps (with_args N o.args) o.body
        → NamedOps (with_args N (o.args ++ added_arg ∷ [])) (reduced_body fresh t o g)
    body_named N le u va vb h =
        let B = with_args N o.args in
        let B' = with_args N (o.args ++ added_arg ∷ []) in
        let front = parted.front in
        let behind = parted.behind in
        let product = parted.product.packs in
        let front' = rename_ops f keep 0 front in
        let behind' = rename_ops f keep (0 + names_of front) behind in
        let addition = sum (fresh (m + 1)) g.ty (label (new_arg fresh t o g)) (label (expansion_end (step_at fresh t o g) g.step)) nil in
        let second = next product (g.ty ∷ []) (kind_of parted.product) behind in
        let named = named_parts B front second (subst (λ x. NamedOps B x) parted.is h) in
        let old = old_parts front second (subst (λ x. OldOps fresh K x) parted.is vb) in
        let apart0 = apart_last_args m N o.args added_arg refl (omega arith) in
        let M = names_after B front in
        let M' = names_after B' front in
        let apart1 : Apart fresh K M M' = apart_after fresh K B B' front apart0 in
        let apart2 : Apart fresh K (with_packs M product) M' = λ n e z. apart1 n e (or_parts (M n) (list_any (λ (x : Pack). bytes_eq x.name n) product) z).0 in
        let behind_named = named_kept fresh K (with_packs M product) M' behind apart2 old.1.2 named.1.2 in
        let unused0 = unused_last m N o.args added_arg refl u va in
        let unused2 = unused_after fresh K (m + 1) M' behind (unused_after fresh K (m + 1) B' front unused0 old.0) old.1.2 in
        let addition_named : NamedOps (names_after M' behind) addition = (rw (free_anew fresh K F (m + 1) (names_after M' behind) (omega arith) unused2) refl, tt, tt) in
        subst (λ x. NamedOps B' x) (sym (child_body fresh t o g scope parted))
        (named_joined B' front' (joined behind' addition) (ops_relabelled f 0 B' front (named_kept fresh K B B' front apart0 old.0 named.0))
        (subst (λ X. NamedOps X (joined behind' addition)) (sym (names_after_relabelled f 0 B' front))
        (named_joined M' behind' addition (ops_relabelled f (0 + names_of front) M' behind behind_named)
        (subst (λ X. NamedOps X addition) (sym (names_after_relabelled f (0 + names_of front) M' behind)) addition_named))))

    pub reduced_names : m + 3 ≤ K → KeepsNames fresh K (reduced fresh t o g) (operation_of o)
    reduced_names le = record {
      named =
          λ N u v0 v1 h0 h1.
          let starts = start_ops fresh t o g in
          let steps = step_ops fresh t o g in
          let loop = reduced_loop fresh t o g in
          let s_at = step_at fresh t o g in
          let k1 = names_of starts in
          let none : 0 + k1 ≡ k1 = omega arith in
          let N1 = names_after N starts in
          let N2 = names_after N1 steps in
          let u1 : Unused fresh K k1 N1 = subst (λ k. Unused fresh K k N1) none (expansion_unused fresh K F g.ty 0 t g.start N u) in
          let u2 : Unused fresh K m N2 = expansion_unused fresh K F g.ty k1 s_at g.step N1 u1 in
          let a1 : Apart fresh K N N1 = expansion_apart fresh K F g.ty 0 t g.start N (omega arith) in
          let a2 : Apart fresh K N1 N2 = expansion_apart fresh K F g.ty k1 s_at g.step N1 (omega arith) in
          let a : Apart fresh K N N2 = λ n e z. a2 n e (a1 n e z) in
          let r = named_regions_kept fresh K N N2 (operation_of o).kind a v1 h1 in
          let M1 = with_args N2 (o.iv ∷ []) in
          let um = unused_args fresh K m N2 (o.iv ∷ []) u2 v1.0 in
          let packs = packs_last (m + 2) N2 o.packs (omega arith) (unused_more fresh K m (m + 2) N2 (omega arith) u2) v0 (free_packs_kept fresh K N N2 o.packs a v0 h0) in
          let loop_named : NamedOps N2 loop =
          (packs, (r.0, args_last m M1 o.args added_arg refl (omega arith) um v1.1 r.1, body_named M1 le um v1.1 v1.2 r.2), tt) in (
            named_joined N starts (joined steps loop) (expansion_named fresh K F g.ty 0 t g.start N (omega arith) u)
                (named_joined N1 steps loop (expansion_named fresh K F g.ty k1 s_at g.step N1 (omega arith) u1) loop_named),
            subst (λ X. Apart fresh K (with_packs N o.packs) X) (sym (names_after_joined N starts (joined steps loop) ∙ names_after_joined N1 steps loop))
                (apart_last_packs (m + 2) N N2 o.packs (omega arith) a),
          );
    }
