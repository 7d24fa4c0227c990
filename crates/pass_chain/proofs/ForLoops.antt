-- An operation that is an `scf.for`, by its parts.
use Rattle.std.proofs.Common.{◌≡◌, ℕ, ◌+◌, true, List, length, refl, ap, ◌∙◌, sym, subst, Option}
use Rattle.mlir_ir.specs.Operations.{OpKind, Simple, If, For, While}
use Rattle.mlir_ir.specs.declared.types.Func.{Func}
use Rattle.fresh_scev.specs.Facts.{Facts}
use Rattle.pass_chain.specs.Given.{given_products, given_in_body}
use Rattle.pass_copy.specs.Places.{is_for}
use Rattle.pass_copy.specs.Replaced.{Operation, StandsAt}
use Rattle.pass_unroll.specs.Copies.{ForLoop, operation_of}
use Rattle.scev_tree.specs.Polynomial.{Polynomial}

pub record IsForLoop (q : Operation) : Type 0 where
  pub o : ForLoop
  pub is : operation_of o ≡ q

by_kind : (q : Operation) (kind : OpKind) → q.kind ≡ kind → is_for kind ≡ true → IsForLoop q
by_kind q (Simple does) k e = cc
by_kind q (If c first firsts has_else other others) k e = cc
by_kind q (For lower upper step iv args inits body ends) k e = record {
  o = record { packs = q.packs; results = q.results; lower = lower; upper = upper; step = step; iv = iv; args = args; inits = inits; body = body; ends = ends };
  is = λ j. record { packs = q.packs; results = q.results; kind = sym k j };
}
by_kind q (While args inits before passed cond after_args after ends) k e = cc

pub for_loop : (q : Operation) → is_for q.kind ≡ true → IsForLoop q
for_loop q e = by_kind q q.kind refl e

pub loop_stands : (f : Func) (t : ℕ) (q : Operation) (l : IsForLoop q) → StandsAt f t q → StandsAt f t (operation_of l.o)
loop_stands f t q l s = subst (StandsAt f t) (sym l.is) s

-- the products in its body
pub given_there : (F : Facts) (t : ℕ) (q : Operation) (l : IsForLoop q) → given_in_body F t q.kind ≡ given_products F (t + 2 + length l.o.args) l.o.body
given_there F t q l = sym (ap (λ (x : Operation). given_in_body F t x.kind) l.is)
