use Rattle.std.proofs.Common.{suc, ◌≡◌, ℕ, ◌+◌, ◌<◌, ◌≤◌, false, refl, List, [], ◌∷◌, length, drop, get_or, ap, ◌∙◌, sym, drop-cons, add-one}
use Rattle.std.proofs.Math.ListN.{drop_of_length-le}
use Rattle.mlir_ir.specs.GrammarNumbers.{same}
use Rattle.mlir_parse.specs.Tables.{has, first_set}
use Rattle.mlir_parse.proofs.Sets.{has_first}
use Rattle.mlir_ir.specs.Grammar.{Pattern, one}
use Rattle.mlir_parse.specs.Runs.{starts, is_next}
use Rattle.mlir_ir.specs.declared.terminal.Terminal.{Terminal}

pub cut : (ts : List Terminal) (at : ℕ) (c : Terminal) → at < length ts → c ≡ get_or ts at c → drop at ts ≡ c ∷ drop (at + 1) ts
cut ts at c h e = rw (add-one) (drop-cons ts at c h ∙ ap (λ x. x ∷ drop (suc at) ts) (sym e))

-- whether the token at an index may begin a match, by the first set
pub starts_by : (set : ℕ) (r : Pattern) (ts : List Terminal) (at : ℕ) (d : Terminal) → set ≡ first_set r → at < length ts → has set (get_or ts at d) ≡ starts r (drop at ts)
starts_by set r ts at d is h = ap (λ z. has z (get_or ts at d)) is ∙ has_first r (get_or ts at d) ∙ sym (ap (starts r) (drop-cons ts at d h))

pub starts_none : (r : Pattern) (ts : List Terminal) (at : ℕ) → length ts ≤ at → starts r (drop at ts) ≡ false
starts_none r ts at h = ap (starts r) (drop_of_length-le ts h)

pub next_here : (d : Terminal) (ts : List Terminal) (at : ℕ) (c : Terminal) → at < length ts → c ≡ get_or ts at c → is_next d (drop at ts) ≡ same d c
next_here d ts at c h e = ap (is_next d) (cut ts at c h e)

pub next_none : (d : Terminal) (ts : List Terminal) (at : ℕ) → length ts ≤ at → is_next d (drop at ts) ≡ false
next_none d ts at h = ap (is_next d) (drop_of_length-le ts h)

pub starts_one : (d : Terminal) (ts : List Terminal) → starts (one d) ts ≡ is_next d ts
starts_one d [] = refl
starts_one d (c ∷ ts) = refl
