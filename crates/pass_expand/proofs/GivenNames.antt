-- Operations with one value each, under fresh names: their counts, and those that are built one behind another.
use Rattle.std.proofs.Common.{◌≡◌, ℕ, suc, ◌+◌, List, [], ◌∷◌, ◌++◌, length, refl, ap, ◌∙◌, sym, subst, arith}
use Rattle.mlir_ir.specs.Operations.{SimpleOp, Simple, joined, labels_of}
use Rattle.mlir_ir.specs.declared.types.IrType.{IrType}
use Rattle.pass_copy.specs.Built.{IsBehind, fresh_at, gives_one}
use Rattle.pass_copy.specs.Renamed.{names_of}
use Rattle.pass_copy.specs.declared.building.Out.{Out}
use Rattle.pass_copy.proofs.BuiltBehind.{behind_none, behind_then}
use Rattle.pass_expand.specs.Added.{Adds}
use Rattle.pass_expand.specs.Expanded.{given_names}

module _ (fresh : ℕ → List ℕ) (ty : IrType) where
  pub given_labels : (k : ℕ) (does : List SimpleOp) → labels_of (given_names fresh ty k does) ≡ length does
  given_labels k [] = refl
  given_labels k (d ∷ does) = let e = given_labels (k + 1) does in omega arith

  pub given_count : (k : ℕ) (does : List SimpleOp) → names_of (given_names fresh ty k does) ≡ length does
  given_count k [] = refl
  given_count k (d ∷ does) = let e = given_count (k + 1) does in omega arith

  pub given_append : (k : ℕ) (does more : List SimpleOp)
      → given_names fresh ty k (does ++ more) ≡ joined (given_names fresh ty k does) (given_names fresh ty (k + length does) more)
  given_append k [] more = let e : k ≡ k + 0 = omega arith in ap (λ n. given_names fresh ty n more) e
  given_append k (d ∷ does) more =
      let e : k + 1 + length does ≡ k + suc (length does) = omega arith in
      ap (gives_one (fresh k) ty (Simple d)) (given_append (k + 1) does more ∙ ap (λ n. joined (given_names fresh ty (k + 1) does) (given_names fresh ty n more)) e)

-- nothing is added, and one list behind another

pub adds_none : (ty : IrType) (out : Out) → Adds out ty [] out
adds_none ty out = behind_none out

pub adds_then : (ty : IrType) (a b c : Out) (does more : List SimpleOp) → Adds a ty does b → Adds b ty more c → Adds a ty (does ++ more) c
adds_then ty a b c does more p q =
    let n = given_count (fresh_at a) ty a.fresh.given does in
    let k : b.fresh.given ≡ a.fresh.given + length does = p.names.count ∙ ap (λ i. a.fresh.given + i) n in
    let same : joined (given_names (fresh_at a) ty a.fresh.given does) (given_names (fresh_at b) ty b.fresh.given more) ≡ given_names (fresh_at a) ty a.fresh.given (does ++ more) =
    (λ j. joined (given_names (fresh_at a) ty a.fresh.given does) (given_names (p.names.same j) ty (k j) more)) ∙ sym (given_append (fresh_at a) ty a.fresh.given does more) in
    subst (λ ops. IsBehind a ops c) same (behind_then a b c _ _ p q)

-- the label behind them
pub adds_at : (ty : IrType) (a b : Out) (does : List SimpleOp) → Adds a ty does b → b.at ≡ a.at + length does
adds_at ty a b does p = p.at ∙ ap (λ n. a.at + n) (given_labels (fresh_at a) ty a.fresh.given does)
