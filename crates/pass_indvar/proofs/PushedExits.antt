-- The operations of exits as they are built, one exit after another.
use Rattle.std.proofs.Common.{◌≡◌, ℕ, suc, ◌+◌, ◌<◌, false, List, [], ◌∷◌, ◌++◌, length, drop, get_or, ap, ◌∙◌, sym, subst, arith, append_assoc, append-nil}
use Rattle.std.proofs.Math.Seq.{drop-cons}
use Rattle.mlir_ir.specs.Operations.{OpList}
use Rattle.pass_copy.specs.Built.{IsBehind, fresh_at}
use Rattle.pass_copy.specs.Renaming.{span}
use Rattle.pass_copy.specs.declared.building.Out.{Out}
use Rattle.pass_copy.specs.declared.renaming.Span.{Span}
use Rattle.pass_copy.proofs.BuiltBehind.{behind_none, behind_then}
use Rattle.pass_expand.specs.Expanded.{expansion, expansion_end}
use Rattle.pass_indvar.specs.Built.{ArePlain, exit_of, exits_in}
use Rattle.pass_indvar.specs.declared.chosen.Chosen.{Chosen}
use Rattle.pass_indvar.specs.Exits.{Exit, exit_ops, exit_links}
use Rattle.pass_indvar.proofs.ExitScopes.{next_is}

-- where these exits are left, and their operations are built behind `now`, all are
pub record IsPushed (old now : Out) (all rest : List Exit) (given spans : List Span) : Type 0 where
  pub behind : (new : Out) → IsBehind now (exit_ops (fresh_at now) now.fresh.given now.at rest) new
      → IsBehind old (exit_ops (fresh_at old) old.fresh.given old.at all) new
  pub links : spans ++ exit_links now.at rest ≡ given ++ exit_links old.at all
  pub anew : now.fresh.kept ≡ false
  pub plain : ArePlain rest

module _ (old now : Out) (all : List Exit) (given spans : List Span) where
  pub pushed_first : now.fresh.kept ≡ false → ArePlain all → IsPushed now now all all spans spans
  pushed_first anew plain = record { behind = λ new h. h; links = λ i. spans ++ exit_links now.at all; anew = anew; plain = plain }

  pub pushed_next : (next : Out) (e : Exit) (rest : List Exit) (value : ℕ) (more : List Span) → IsPushed old now all (e ∷ rest) given spans
      → IsBehind now (expansion (fresh_at now) e.ty now.fresh.given now.at e.expr) next → value ≡ expansion_end now.at e.expr → more ≡ spans ++ span e.result 1 value ∷ []
      → IsPushed old next all rest given more
  pushed_next next e rest value more p built v pushed =
      let ops = expansion (fresh_at now) e.ty now.fresh.given now.at e.expr in
      let to : next.at ≡ expansion_end now.at e.expr + 1 = built.at ∙ sym (next_is (fresh_at now) now.fresh.given now.at e) in
      record {
        behind = λ new h.
            p.behind new (behind_then now next new ops _ built
            (subst (λ (z : OpList). IsBehind next z new) (λ i. exit_ops (built.names.same i) (built.names.count i) (built.at i) rest) h));
        links = (λ i. pushed i ++ exit_links (to i) rest) ∙ append_assoc spans (span e.result 1 value ∷ []) (exit_links (expansion_end now.at e.expr + 1) rest)
            ∙ (λ i. spans ++ span e.result 1 (v i) ∷ exit_links (expansion_end now.at e.expr + 1) rest) ∙ p.links;
        anew = built.names.kept ∙ p.anew;
        plain = p.plain.1;
      }

  pub pushed_built : IsPushed old now all [] given spans → IsBehind old (exit_ops (fresh_at old) old.fresh.given old.at all) now
  pushed_built p = p.behind now (behind_none now)

  pub pushed_links : IsPushed old now all [] given spans → spans ≡ given ++ exit_links old.at all
  pushed_links p = sym (append-nil spans) ∙ p.links

-- ---- exits as programs list them

pub first_left : (found : List Chosen) (i : ℕ) (one : Chosen) → i < length found → one ≡ get_or found i one → exits_in (drop i found) ≡ exit_of one ∷ exits_in (drop (i + 1) found)
first_left found i one lt is =
    let n : suc i ≡ i + 1 = omega arith in
    ap exits_in (drop-cons found i one lt) ∙ (λ j. exit_of (sym is j) ∷ exits_in (drop (n j) found))
