use Rattle.std.proofs.Common.{◌≡◌, ◌∙◌, ap, sym, length, arith, true, false, List, ℕ}
use Rattle.std.specs.List.{list_any}
use Rattle.std.specs.Str.{bytes_eq}
use Rattle.pass_copy.specs.Fresh.{is_taken}
use Rattle.pass_copy.specs.Listed.{texts}
use Rattle.pass_copy.proofs.FreshNumbers.{free_here, taken_here}
use Rattle.pass_copy.proofs.names.Names.free_from.Goals as goal

pub returns-then-not-contains : goal.returns-then-not-contains
returns-then-not-contains c =
    let names = texts c.args.self.now.taken.names.items in
    let free : is_taken names c.loop-try.n ≡ false =
    ap (λ (x : List ℕ). list_any (λ (taken : List ℕ). bytes_eq taken x) names) (sym (c.as_bytes.ensures ∙ c.in_ok-name.ensures)) ∙ sym c.contains.ensures ∙ c.if-not-contains.true in
    sym (free_here names (length names) c.loop-try._try c.loop-try.n (omega arith) free) ∙ c.loop-try.invariant.0

pub loop-try-preserved : goal.loop-try-preserved
loop-try-preserved c =
    let names = texts c.args.self.now.taken.names.items in
    let taken : is_taken names c.loop-try.n ≡ true =
    ap (λ (x : List ℕ). list_any (λ (taken : List ℕ). bytes_eq taken x) names) (sym (c.as_bytes.ensures ∙ c.in_ok-name.ensures)) ∙ sym c.contains.ensures ∙ c.if-not-contains.false in
    (sym (taken_here names (length names) c.loop-try._try c.loop-try.n (omega arith) taken) ∙ c.loop-try.invariant.0, omega arith)
