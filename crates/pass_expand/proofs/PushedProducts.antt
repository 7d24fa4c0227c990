-- Products with symbols from a stack, the last of them first.
use Rattle.std.proofs.Common.{◌≡◌, ℕ, suc, ◌+◌, ◌-◌, ◌<◌, ◌≤◌, List, [], ◌∷◌, length, get_or, take, take_all, reverse, refl, ap, ◌∙◌, sym, subst, arith}
use Rattle.std.proofs.Math.Seq.{take-suc}
use Rattle.std.proofs.lemmas.List.{reverse-append}
use Rattle.arith_word.specs.declared.label.Label.{Label}
use Rattle.arith_word.specs.declared.op.BinOp.TheVariants.{Muli}
use Rattle.mlir_ir.specs.declared.types.IrType.{IrType}
use Rattle.pass_copy.specs.Built.{label}
use Rattle.pass_copy.specs.declared.building.Out.{Out}
use Rattle.pass_expand.specs.Added.{Adds}
use Rattle.pass_expand.specs.Expanded.{wrapping, products}
use Rattle.pass_expand.proofs.GivenNames.{adds_then}

reverse_one : (s : List Label) (i : ℕ) (d : Label) → i < length s → reverse (take (suc i) s) ≡ get_or s i d ∷ reverse (take i s)
reverse_one s i d h = ap (λ (t : List Label). reverse t) (take-suc s i d h) ∙ reverse-append (take i s) (get_or s i d ∷ [])

-- the next symbol of a stack
pub next_symbol : (s : List Label) (done : ℕ) (d : Label) → done < length s
    → reverse (take (length s - done) s) ≡ get_or s (length s - 1 - done) d ∷ reverse (take (length s - (done + 1)) s)
next_symbol s done d h =
    let i : length s - done ≡ suc (length s - 1 - done) = omega arith in
    let j : length s - 1 - done ≡ length s - (done + 1) = omega arith in
    ap (λ n. reverse (take n s)) i ∙ reverse_one s (length s - 1 - done) d (omega arith) ∙ ap (λ n. get_or s (length s - 1 - done) d ∷ reverse (take n s)) j

-- one product, and those behind it
pub one_product : (ty : IrType) (a b c : Out) (v v' : ℕ) (x : Label) (symbols rest : List Label) → symbols ≡ x ∷ rest → v' ≡ v + 1
    → Adds a ty (wrapping Muli (label v) x ∷ []) b → Adds b ty (products v' rest) c → Adds a ty (products v symbols) c
one_product ty a b c v v' x symbols rest e n p q =
    subst (λ (xs : List Label). Adds a ty (products v xs) c) (sym e)
    (adds_then ty a b c (wrapping Muli (label v) x ∷ []) (products (v + 1) rest) p (subst (λ l. Adds b ty (products l rest) c) n q))

take_whole : (s : List Label) → take (length s - 0) s ≡ s
take_whole s =
    let e : length s - 0 ≡ length s = omega arith in
    let le : length s ≤ length s = omega arith in
    rw (e, take_all) refl

pub all_symbols : (s : List Label) → reverse (take (length s - 0) s) ≡ reverse s
all_symbols s = ap (λ (t : List Label). reverse t) (take_whole s)

pub no_symbols : (s : List Label) (done : ℕ) → length s ≤ done → reverse (take (length s - done) s) ≡ []
no_symbols s done h = let e : length s - done ≡ 0 = omega arith in ap (λ n. reverse (take n s)) e
