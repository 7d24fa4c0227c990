-- What stands for an unrolled loop is named apart where the loop is.
use Rattle.std.proofs.Common.{◌≡◌, ℕ, zero, suc, ◌+◌, ◌-◌, ◌*◌, ◌≤◌, ◌==◌, true, List, [], ◌∷◌, length, sym, subst, arith}
use Rattle.std.proofs.Math.Nat.{mul-le-mul_left}
use Rattle.std.specs.Prelude.{if◌then◌else◌}
use Rattle.arith_word.specs.declared.label.Label.{Label}
use Rattle.mlir_ir.specs.Named.{Names, with_packs, with_args, all_free, NamedOps, NamedRegions, names_after}
use Rattle.mlir_ir.specs.Operations.{OpList, labels_of}
use Rattle.pass_copy.specs.Renamed.{keep, anew, rename_args, rename_packs, rename_ops, names_of}
use Rattle.pass_copy.specs.Renaming.{renamed}
use Rattle.pass_copy.proofs.NamedRenamed.{AreFresh, Unused, Apart, OldPacks, OldRegions, unused_more, packs_anew, args_anew, ops_anew, unused_anew, called_anew, called_args_anew, apart_packs_anew, apart_packs, unused_args, unused_after, free_packs_kept, names_after_relabelled}
use Rattle.pass_copy.proofs.NamedReplaced.{KeepsNames}
use Rattle.pass_unroll.specs.Children.{main_first, main_body, main_kind, main_names, rest_count, main_alone, main_and_rest, unrolled}
use Rattle.pass_unroll.specs.Copies.{ForLoop, operation_of, copy, copy_ends, more_copies}
use Rattle.pass_copy.specs.Built.{label, labels_from}
use Rattle.pass_unroll.specs.declared.plan.Plan.{Plan}
use Rattle.pass_unroll.proofs.NamedCopies.{Room, room, room_one, one, one_free, unused_one, loop_named}
use Rattle.pass_unroll.proofs.TypedLoops.{pick, body_labels}
use Rattle.pass_copy.proofs.RenamedOps.{rename_args_length, rename_labels}
use Rattle.pass_copy.proofs.JoinedOps.{named_joined}

module _ (fresh : ℕ → List ℕ) (K : ℕ) (A : AreFresh fresh K) (t : ℕ) (o : ForLoop) where
  more_named : (step : ℕ) (variable : Label) (n j k at : ℕ) (args : List Label) (M : Names) → k + n * (2 + names_of o.body) ≤ K → Unused fresh K k M
      → NamedOps M (more_copies fresh t o step variable n j k at args)
  more_named step variable zero j k at args M le u = tt
  more_named step variable (suc n) j k at args M le u =
      let s = 2 + names_of o.body in
      let e : suc n * s ≡ s + n * s = grind (arith) in
      let M1 = with_packs M (one fresh K A k) in
      let M2 = with_packs M1 (one fresh K A (k + 1)) in
      let z : k + 1 + 1 ≡ k + 2 = omega arith in
      let u1 = unused_one fresh K A M k u in
      let u2 : Unused fresh K (k + 2) M2 = subst (λ x. Unused fresh K x M2) z (unused_one fresh K A M1 (k + 1) u1) in
      let c = copy fresh t o (k + 2) (label (at + 1)) args (at + 2) in
      let args2 = copy_ends fresh t o (label (at + 1)) args (at + 2) in
      let rest = more_copies fresh t o step variable n (j + 1) (k + 2 + names_of o.body) (at + 2 + labels_of o.body) args2 in
      let w = more_named step variable n (j + 1) (k + 2 + names_of o.body) (at + 2 + labels_of o.body) args2 (names_after M2 c) (omega (arith, e, le))
      (unused_anew fresh K A _ (k + 2) M2 o.body u2) in (
        one_free fresh K A M k (omega (arith, e, le)) u,
        tt,
        (one_free fresh K A M1 (k + 1) (omega (arith, e, le)) u1, tt, named_joined M2 c rest (ops_anew fresh K A _ (k + 2) M2 o.body (omega (arith, e, le)) u2) w),
      )

  module _ (plan : Plan) (factor : ℕ) (few : names_of o.body ≤ labels_of o.body) (few_packs : length o.packs ≤ length o.results) where
    abbrev m : ℕ
    m = main_names fresh t plan o factor

    abbrev k : ℕ
    k = m + length o.packs

    names_most : (factor - 1) * (2 + names_of o.body) ≤ (factor - 1) * (2 + labels_of o.body)
    names_most = let le : 2 + names_of o.body ≤ 2 + labels_of o.body = omega (arith, few) in mul-le-mul_left (factor - 1) le

    module _ (N M2 : Names) (r : Room fresh K A N M2 2) (v0 : OldPacks fresh K o.packs) (v1 : OldRegions fresh K (operation_of o).kind) (h0 : all_free N o.packs ≡ true)
        (h1 : NamedRegions N (operation_of o).kind) where
      abbrev NamedTail : OpList → Type 0
      NamedTail tail = NamedOps M2 tail × Apart fresh K (with_packs N o.packs) (names_after M2 tail)

      main_named : m ≤ K → NamedRegions M2 (main_kind fresh t plan o factor (t + 2))
      main_named le =
          let g = renamed (main_first fresh t plan o factor (t + 2)) in
          let l = loop_named fresh K A t o g N M2 r.apart v1 h1 in
          let B = with_args (with_args M2 (o.iv ∷ [])) o.args in
          let first = rename_ops g keep 0 o.body in
          let u1 = unused_args fresh K 2 (with_args M2 (o.iv ∷ [])) o.args (unused_args fresh K 2 M2 (o.iv ∷ []) r.unused v1.0) v1.1 in
          let u2 : Unused fresh K 2 (names_after B first) = subst (λ X. Unused fresh K 2 X) (sym (names_after_relabelled g 0 B o.body)) (unused_after fresh K 2 B o.body u1 v1.2) in
          let p = t + 2 + 2 + length o.args in
          let ends = copy_ends fresh t o (label (t + 2 + 1)) (labels_from (t + 2 + 2) (length o.args)) p in
          let more = more_copies fresh t o plan.step (label (t + 2 + 1)) (factor - 1) 1 2 (p + labels_of o.body) ends in
          (l.0, l.1, named_joined B first more l.2 (more_named plan.step (label (t + 2 + 1)) (factor - 1) 1 2 (p + labels_of o.body) ends (names_after B first) le u2))

      alone_named : labels_of (main_alone fresh t plan o factor) + 2 ≤ K → NamedTail (main_alone fresh t plan o factor)
      alone_named le =
          let b = body_labels fresh t plan o factor in
          let y = names_most in
          ((free_packs_kept fresh K N M2 o.packs r.apart v0 h0, main_named (omega (arith, b, y, le)), tt), apart_packs fresh K N M2 o.packs r.apart)

      both_named : labels_of (main_and_rest fresh t plan o factor) + 2 ≤ K → NamedTail (main_and_rest fresh t plan o factor)
      both_named le =
          let b = body_labels fresh t plan o factor in
          let y = names_most in
          let x = few_packs in
          let z = few in
          let a = rename_args_length (anew fresh) (k + 1) o.args in
          let q = t + 2 + 2 + length o.args + labels_of (main_body fresh t plan o factor (t + 2)) + length o.results in
          let l : labels_of (copy fresh t o (k + 1 + length o.args) (label (q + 1)) (labels_from (q + 2) (length o.args)) (q + 2 + length o.args)) ≡ labels_of o.body =
          rename_labels _ (anew fresh) (k + 1 + length o.args) o.body in
          let most : k + 1 + length o.args + names_of o.body ≤ K = omega (arith, b, y, x, z, a, l, le) in
          let packs' = rename_packs (anew fresh) m o.packs in
          let M3 = with_packs M2 packs' in
          let um : Unused fresh K m M2 = unused_more fresh K 2 m M2 (omega arith) r.unused in
          let u3 : Unused fresh K k M3 = called_anew fresh K A m k M2 o.packs um (omega arith) in
          let a3 : Apart fresh K N M3 = λ n e h. apart_packs_anew fresh K m M2 o.packs (omega (arith, most)) n e (r.apart n e h) in
          let B1 = with_args M3 (rename_args (anew fresh) k (o.iv ∷ [])) in
          let ub1 = called_args_anew fresh K A k (k + 1) M3 (o.iv ∷ []) u3 (omega arith) in
          let ub2 = called_args_anew fresh K A (k + 1) (k + 1 + length o.args) B1 o.args ub1 (omega arith) in (
            (
              packs_anew fresh K A m M2 o.packs (omega (arith, most)) um,
              main_named (omega (arith, most)),
              (
                free_packs_kept fresh K N M3 o.packs a3 v0 h0,
                (args_anew fresh K A k M3 (o.iv ∷ []) (omega (arith, most)) u3, args_anew fresh K A (k + 1) B1 o.args (omega (arith, most)) ub1, ops_anew fresh K A _ (k + 1 + length o.args) _ o.body most ub2),
                tt,
              ),
            ),
            apart_packs fresh K N M3 o.packs a3,
          )

      tail_named : labels_of (if rest_count fresh t plan o factor == 0 then main_alone fresh t plan o factor else main_and_rest fresh t plan o factor) + 2 ≤ K
          → NamedTail (if rest_count fresh t plan o factor == 0 then main_alone fresh t plan o factor else main_and_rest fresh t plan o factor)
      tail_named =
          pick (λ tail. labels_of tail + 2 ≤ K → NamedTail tail) (rest_count fresh t plan o factor == 0) (main_alone fresh t plan o factor) (main_and_rest fresh t plan o factor) alone_named both_named

    pub unroll_names : labels_of (unrolled fresh t plan o factor) ≤ K → KeepsNames fresh K (unrolled fresh t plan o factor) (operation_of o)
    unroll_names le = record {
      named =
          λ N u v0 v1 h0 h1.
          let M1 = with_packs N (one fresh K A 0) in
          let M2 = with_packs M1 (one fresh K A 1) in
          let r1 = room_one fresh K A N N 0 (omega (arith, le)) (room fresh K A N 0 u) in
          let r2 : Room fresh K A N M2 2 = room_one fresh K A N M1 1 (omega (arith, le)) r1 in
          let w = tail_named N M2 r2 v0 v1 h0 h1 (omega (arith, le)) in
          ((one_free fresh K A N 0 (omega (arith, le)) u, tt, (one_free fresh K A M1 1 (omega (arith, le)) r1.unused, tt, w.0)), w.1);
    }
