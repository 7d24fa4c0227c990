-- Copies with fresh names are named apart, and leave the other names alone.
use Rattle.std.proofs.Common.{◌≡◌, ℕ, zero, suc, ◌+◌, ◌*◌, ◌<◌, ◌≤◌, true, List, [], ◌∷◌, refl, sym, subst, arith}
use Rattle.std.proofs.lemmas.Bool.{or_parts}
use Rattle.arith_word.specs.declared.label.Label.{Label}
use Rattle.mlir_ir.specs.declared.types.Pack.{Pack}
use Rattle.mlir_ir.specs.Named.{Names, with_packs, with_args, all_free, NamedArgs, NamedOps, NamedRegions, names_after}
use Rattle.mlir_ir.specs.Operations.{For, OpList, nil, next, labels_of}
use Rattle.pass_copy.specs.Renamed.{relabels, keep, anew, rename_ops, names_of}
use Rattle.pass_copy.proofs.NamedRenamed.{AreFresh, Unused, Apart, OldRegions, free_anew, ops_anew, unused_anew, apart_anew, called_anew, apart_packs, free_packs_kept, named_regions_kept, ops_relabelled}
use Rattle.pass_copy.proofs.NamedReplaced.{KeepsNames}
use Rattle.pass_copy.specs.Renaming.{renamed}
use Rattle.pass_unroll.specs.Children.{peel_spans, peeled, unrolled_full}
use Rattle.pass_unroll.specs.Copies.{ForLoop, operation_of, copy, copy_ends, full_copies}
use Rattle.pass_copy.specs.Built.{label, constant}
use Rattle.pass_unroll.specs.declared.plan.Plan.{Plan}
use Rattle.pass_copy.proofs.JoinedOps.{named_joined, names_after_joined}

module _ (fresh : ℕ → List ℕ) (K : ℕ) (A : AreFresh fresh K) where
  -- the second scope has fresh names below number k besides those of the first
  pub record Room (N M : Names) (k : ℕ) : Type 0 where
    pub apart : Apart fresh K N M
    pub unused : Unused fresh K k M

  pub room : (N : Names) (k : ℕ) → Unused fresh K k N → Room N N k
  room N k u = record { apart = λ n e h. h; unused = u }

  pub room_copy : (g : ℕ → ℕ) (N M : Names) (k : ℕ) (ops : OpList) → k + names_of ops ≤ K → Room N M k → Room N (names_after M (rename_ops g (anew fresh) k ops)) (k + names_of ops)
  room_copy g N M k ops le r = record { apart = λ n e h. apart_anew fresh K g k M ops le n e (r.apart n e h); unused = unused_anew fresh K A g k M ops r.unused }

  abbrev pub one : ℕ → List Pack
  one k = record { name = fresh k; count = 1 } ∷ []

  pub one_free : (M : Names) (k : ℕ) → k < K → Unused fresh K k M → all_free M (one k) ≡ true
  one_free M k lt u = rw (free_anew fresh K A k M lt u) refl

  pub unused_one : (M : Names) (k : ℕ) → Unused fresh K k M → Unused fresh K (k + 1) (with_packs M (one k))
  unused_one M k u = called_anew fresh K A k (k + 1) M (one k) u (omega arith)

  pub room_one : (N M : Names) (k : ℕ) → k < K → Room N M k → Room N (with_packs M (one k)) (k + 1)
  room_one N M k lt r = record {
    apart = λ n e h. rw (r.apart n e h, (e k lt).1) refl;
    unused = unused_one M k r.unused;
  }

  module _ (t : ℕ) (o : ForLoop) where
    -- a loop under its own names, in a scope with more fresh names
    pub loop_named : (f : ℕ → ℕ) (N M : Names) → Apart fresh K N M → OldRegions fresh K (operation_of o).kind → NamedRegions N (operation_of o).kind
        → NamedArgs M (o.iv ∷ []) × NamedArgs (with_args M (o.iv ∷ [])) o.args × NamedOps (with_args (with_args M (o.iv ∷ [])) o.args) (rename_ops f keep 0 o.body)
    loop_named f N M a v h =
        let r = named_regions_kept fresh K N M (operation_of o).kind a v h in
        (r.0, r.1, ops_relabelled f 0 (with_args (with_args M (o.iv ∷ [])) o.args) o.body r.2)

    module _ (plan : Plan) where
      pub peel_names : names_of o.body + 1 ≤ K → KeepsNames fresh K (peeled fresh t plan o) (operation_of o)
      peel_names few = record {
        named =
            λ N u v0 v1 h0 h1.
            let g = renamed (peel_spans fresh t plan o) in
            let k = names_of o.body in
            let c = copy fresh t o 0 o.lower o.inits t in
            let rest = constant (fresh k) o.iv.ty (plan.lower + plan.step)
            (next o.packs o.results (For (label (t + labels_of o.body)) o.upper o.step o.iv o.args (copy_ends fresh t o o.lower o.inits t) (rename_ops g keep 0 o.body) (relabels g o.ends)) nil) in
            let M1 = names_after N c in
            let M2 = with_packs M1 (one k) in
            let z : 0 + names_of o.body ≡ k = omega arith in
            let r1 : Room N M1 k = subst (λ x. Room N M1 x) z (room_copy _ N N 0 o.body (omega arith) (room N 0 u)) in
            let r2 : Room N M2 (k + 1) = room_one N M1 k (omega arith) r1 in
            let l = loop_named g N M2 r2.apart v1 h1 in (
              named_joined N c rest (ops_anew fresh K A _ 0 N o.body (omega arith) u) (one_free M1 k (omega arith) r1.unused, tt, (free_packs_kept fresh K N M2 o.packs r2.apart v0 h0, l, tt)),
              subst (λ M. Apart fresh K (with_packs N o.packs) M) (sym (names_after_joined N c rest)) (apart_packs fresh K N M2 o.packs r2.apart),
            );
      }

    pub full_named : (step n k at v : ℕ) (args : List Label) (N M : Names) → k + n * (1 + names_of o.body) ≤ K → Room N M k
        → NamedOps M (full_copies fresh t o step n k at v args) × Apart fresh K N (names_after M (full_copies fresh t o step n k at v args))
    full_named step zero k at v args N M le r = (tt, r.apart)
    full_named step (suc n) k at v args N M le r =
        let s = 1 + names_of o.body in
        let e : suc n * s ≡ s + n * s = grind (arith) in
        let M1 = with_packs M (one k) in
        let c = copy fresh t o (k + 1) (label at) args (at + 1) in
        let rest = full_copies fresh t o step n (k + 1 + names_of o.body) (at + 1 + labels_of o.body) (v + step) (copy_ends fresh t o (label at) args (at + 1)) in
        let r1 = room_one N M k (omega (arith, e, le)) r in
        let r2 = room_copy _ N M1 (k + 1) o.body (omega (arith, e, le)) r1 in
        let w = full_named step n (k + 1 + names_of o.body) (at + 1 + labels_of o.body) (v + step) (copy_ends fresh t o (label at) args (at + 1)) N (names_after M1 c) (omega (arith, e, le)) r2 in (
          (one_free M k (omega (arith, e, le)) r.unused, tt, named_joined M1 c rest (ops_anew fresh K A _ (k + 1) M1 o.body (omega (arith, e, le)) r1.unused) w.0),
          subst (λ X. Apart fresh K N X) (sym (names_after_joined M1 c rest)) w.1,
        )

    pub full_names : (plan : Plan) → plan.count * (1 + names_of o.body) ≤ K → KeepsNames fresh K (unrolled_full fresh t plan o) (operation_of o)
    full_names plan few = record {
      named =
          λ N u v0 v1 h0 h1.
          let w = full_named plan.step plan.count 0 t plan.lower o.inits N N (omega arith) (room N 0 u) in
          (w.0, λ n e h. w.1 n e (or_parts (N n) _ h).0);
    }
