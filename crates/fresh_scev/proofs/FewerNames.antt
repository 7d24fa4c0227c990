-- Operations whose values are named apart stay so where fewer names are in scope.
use Rattle.std.proofs.Common.{◌≡◌, ℕ, ◌&&◌, ◌||◌, not, Bool, true, false, List, [], ◌∷◌, refl}
use Rattle.std.proofs.lemmas.Bool.{and_parts}
use Rattle.std.specs.List.{list_any}
use Rattle.std.specs.Str.{bytes_eq}
use Rattle.mlir_ir.specs.declared.types.Arg.{Arg}
use Rattle.mlir_ir.specs.declared.types.Pack.{Pack}
use Rattle.mlir_ir.specs.Named.{Names, with_packs, with_args, free, all_free, NamedArgs, NamedOps, NamedRegions, names_after}
use Rattle.mlir_ir.specs.Names.{is_name}
use Rattle.mlir_ir.specs.Operations.{OpKind, Simple, If, For, While, OpList, nil, next}

-- what the first scope doesn't have the second hasn't either
abbrev pub HasFewer : Names → Names → Type 0
HasFewer N M = (name : List ℕ) → N name ≡ false → M name ≡ false

or_false : (a b : Bool) → (a || b) ≡ false → (a ≡ false) × (b ≡ false)
or_false false b h = (refl, h)
or_false true b h = absurd (cc)

false_or : (a b : Bool) → a ≡ false → b ≡ false → (a || b) ≡ false
false_or a b e f = rw (e, f) refl

not_parts : (b : Bool) → not b ≡ true → b ≡ false
not_parts false h = refl
not_parts true h = absurd (cc)

and_true : (a b : Bool) → a ≡ true → b ≡ true → (a && b) ≡ true
and_true a b e f = rw (e, f) refl

pub packs_fewer : (N M : Names) (packs : List Pack) → HasFewer N M → HasFewer (with_packs N packs) (with_packs M packs)
packs_fewer N M packs h name e =
    let p = or_false (N name) (list_any (λ (pack : Pack). bytes_eq pack.name name) packs) e in
    false_or (M name) (list_any (λ (pack : Pack). bytes_eq pack.name name) packs) (h name p.0) p.1

args_fewer : (N M : Names) (args : List Arg) → HasFewer N M → HasFewer (with_args N args) (with_args M args)
args_fewer N M args h name e =
    let p = or_false (N name) (list_any (λ (arg : Arg). bytes_eq arg.name name) args) e in
    false_or (M name) (list_any (λ (arg : Arg). bytes_eq arg.name name) args) (h name p.0) p.1

-- a scope has fewer names than with those of more packs
pub packs_more : (N M : Names) (packs : List Pack) → HasFewer N M → HasFewer (with_packs N packs) M
packs_more N M packs h name e = h name (or_false (N name) (list_any (λ (pack : Pack). bytes_eq pack.name name) packs) e).0

free_fewer : (N M : Names) (name : List ℕ) → HasFewer N M → free N name ≡ true → free M name ≡ true
free_fewer N M name h e =
    let p = and_parts (is_name name) (not (N name)) e in
    let m = h name (not_parts (N name) p.1) in
    and_true (is_name name) (not (M name)) p.0 (rw m refl)

all_fewer : (N M : Names) (packs : List Pack) → HasFewer N M → all_free N packs ≡ true → all_free M packs ≡ true
all_fewer N M [] h e = refl
all_fewer N M (pack ∷ packs) h e =
    let others = not (list_any (λ (other : Pack). bytes_eq other.name pack.name) packs) in
    let p = and_parts (free N pack.name && others) (all_free N packs) e in
    let q = and_parts (free N pack.name) others p.0 in
    and_true (free M pack.name && others) (all_free M packs) (and_true (free M pack.name) others (free_fewer N M pack.name h q.0) q.1) (all_fewer N M packs h p.1)

named_args : (N M : Names) (args : List Arg) → HasFewer N M → NamedArgs N args → NamedArgs M args
named_args N M [] h t = tt
named_args N M (arg ∷ args) h t =
    (free_fewer N M arg.name h t.0, named_args (with_args N (arg ∷ [])) (with_args M (arg ∷ [])) args (args_fewer N M (arg ∷ []) h) t.1)

mutual
  pub named_fewer : (ops : OpList) (N M : Names) → HasFewer N M → NamedOps N ops → NamedOps M ops
  named_fewer nil N M h t = tt
  named_fewer (next packs results kind rest) N M h t =
      (all_fewer N M packs h t.0, inside_fewer kind N M h t.1, named_fewer rest (with_packs N packs) (with_packs M packs) (packs_fewer N M packs h) t.2)

  inside_fewer : (kind : OpKind) (N M : Names) → HasFewer N M → NamedRegions N kind → NamedRegions M kind
  inside_fewer (Simple does) N M h t = tt
  inside_fewer (If c first firsts has_else other others) N M h t = (named_fewer first N M h t.0, named_fewer other N M h t.1)
  inside_fewer (For lower upper step iv args inits body ends) N M h t =
      let one = args_fewer N M (iv ∷ []) h in
      let V = with_args N (iv ∷ []) in
      let W = with_args M (iv ∷ []) in (
        named_args N M (iv ∷ []) h t.0,
        named_args V W args one t.1,
        named_fewer body (with_args V args) (with_args W args) (args_fewer V W args one) t.2,
      )
  inside_fewer (While args inits before passed cond after_args after ends) N M h t = (
    named_args N M args h t.0,
    named_fewer before (with_args N args) (with_args M args) (args_fewer N M args h) t.1,
    named_args N M after_args h t.2,
    named_fewer after (with_args N after_args) (with_args M after_args) (args_fewer N M after_args h) t.3,
  )

-- behind operations
pub after_fewer : (ops : OpList) (N M : Names) → HasFewer N M → HasFewer (names_after N ops) (names_after M ops)
after_fewer nil N M h = h
after_fewer (next packs results kind rest) N M h = after_fewer rest (with_packs N packs) (with_packs M packs) (packs_fewer N M packs h)

pub after_more : (ops : OpList) (N M : Names) → HasFewer N M → HasFewer (names_after N ops) M
after_more nil N M h = h
after_more (next packs results kind rest) N M h = after_more rest (with_packs N packs) M (packs_more N M packs h)
