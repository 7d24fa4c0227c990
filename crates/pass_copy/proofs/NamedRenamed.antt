-- Names of operations: fresh ones may always stand; their own may where others in scope are apart from them.
use Rattle.std.proofs.Common.{◌≡◌, ℕ, ◌+◌, ◌<◌, ◌≤◌, ◌&&◌, not, true, false, List, [], ◌∷◌, length, refl, ap, ◌∙◌, arith}
use Rattle.std.proofs.lemmas.Bool.{and_parts, not-true, or_parts}
use Rattle.std.specs.List.{list_any}
use Rattle.std.specs.Str.{bytes_eq}
use Rattle.mlir_ir.specs.declared.types.Arg.{Arg}
use Rattle.mlir_ir.specs.declared.types.Pack.{Pack}
use Rattle.mlir_ir.specs.Names.{is_name}
use Rattle.mlir_ir.specs.Operations.{OpKind, Simple, If, For, While, OpList, nil, next}
use Rattle.mlir_ir.specs.Named.{Names, with_packs, with_args, free, all_free, NamedArgs, NamedOps, NamedRegions, names_after}
use Rattle.pass_copy.specs.Renamed.{keep, anew, rename_args, rename_packs, rename_ops, rename_kind, names_of, inner_names}
use Rattle.pass_copy.proofs.RenamedOps.{kept_packs, kept_args}

-- the fresh names with a number below K are names, and differ
pub record AreFresh (fresh : ℕ → List ℕ) (K : ℕ) : Type 0 where
  pub named : (k : ℕ) → k < K → is_name (fresh k) ≡ true
  pub apart : (i j : ℕ) → i < j → j < K → bytes_eq (fresh i) (fresh j) ≡ false
  pub apart_back : (i j : ℕ) → i < j → j < K → bytes_eq (fresh j) (fresh i) ≡ false

-- none of them from number k on is in scope
abbrev pub Unused : (ℕ → List ℕ) → ℕ → ℕ → Names → Type 0
Unused fresh K k N = (i : ℕ) → k ≤ i → i < K → N (fresh i) ≡ false

-- a name that none of them is
abbrev pub IsOld : (ℕ → List ℕ) → ℕ → List ℕ → Type 0
IsOld fresh K n = (i : ℕ) → i < K → (bytes_eq n (fresh i) ≡ false) × (bytes_eq (fresh i) n ≡ false)

-- an old name that isn't in the first scope isn't in the second
abbrev pub Apart : (ℕ → List ℕ) → ℕ → Names → Names → Type 0
Apart fresh K N N' = (n : List ℕ) → IsOld fresh K n → N n ≡ false → N' n ≡ false

module _ (fresh : ℕ → List ℕ) (K : ℕ) where
  abbrev pub OldArgs : List Arg → Type 0
  OldArgs [] = Unit {0}
  OldArgs (arg ∷ args) = IsOld fresh K arg.name × OldArgs args

  abbrev pub OldPacks : List Pack → Type 0
  OldPacks [] = Unit {0}
  OldPacks (pack ∷ packs) = IsOld fresh K pack.name × OldPacks packs

  -- the names that operations define are old
  abbrev mutual
    pub OldOps : OpList → Type 0
    OldOps nil = Unit {0}
    OldOps (next packs results kind rest) = OldPacks packs × OldRegions kind × OldOps rest

    pub OldRegions : OpKind → Type 0
    OldRegions (Simple does) = Unit {0}
    OldRegions (If c first firsts has_else other others) = OldOps first × OldOps other
    OldRegions (For lower upper step iv args inits body ends) = OldArgs (iv ∷ []) × OldArgs args × OldOps body
    OldRegions (While args inits before passed cond after_args after ends) = OldArgs args × OldOps before × OldArgs after_args × OldOps after

  pub unused_more : (k k2 : ℕ) (N : Names) → k ≤ k2 → Unused fresh K k N → Unused fresh K k2 N
  unused_more k k2 N le u i h h2 = u i (omega arith) h2

-- fresh names

module _ (fresh : ℕ → List ℕ) (K : ℕ) (F : AreFresh fresh K) where
  later_pack : (i k : ℕ) (packs : List Pack) → i < k → k + length packs ≤ K → list_any (λ (p : Pack). bytes_eq p.name (fresh i)) (rename_packs (anew fresh) k packs) ≡ false
  later_pack i k [] h h2 = refl
  later_pack i k (pack ∷ packs) h h2 = let lt : k < K = omega arith in rw (F.apart_back i k h lt, later_pack i (k + 1) packs (omega arith) (omega arith)) refl

  earlier_pack : (i k : ℕ) (packs : List Pack) → k + length packs ≤ i → i < K → list_any (λ (p : Pack). bytes_eq p.name (fresh i)) (rename_packs (anew fresh) k packs) ≡ false
  earlier_pack i k [] h h2 = refl
  earlier_pack i k (pack ∷ packs) h h2 = let l : k < i = omega arith in rw (F.apart k i l h2, earlier_pack i (k + 1) packs (omega arith) h2) refl

  earlier_arg : (i k : ℕ) (args : List Arg) → k + length args ≤ i → i < K → list_any (λ (p : Arg). bytes_eq p.name (fresh i)) (rename_args (anew fresh) k args) ≡ false
  earlier_arg i k [] h h2 = refl
  earlier_arg i k (arg ∷ args) h h2 = let l : k < i = omega arith in rw (F.apart k i l h2, earlier_arg i (k + 1) args (omega arith) h2) refl

  pub free_anew : (k : ℕ) (N : Names) → k < K → Unused fresh K k N → free N (fresh k) ≡ true
  free_anew k N lt u = rw (F.named k lt, u k (omega arith) lt) refl

  pub packs_anew : (k : ℕ) (N : Names) (packs : List Pack) → k + length packs ≤ K → Unused fresh K k N → all_free N (rename_packs (anew fresh) k packs) ≡ true
  packs_anew k N [] le u = refl
  packs_anew k N (pack ∷ packs) le u =
      rw (free_anew k N (omega arith) u, later_pack k (k + 1) packs (omega arith) (omega arith), packs_anew (k + 1) N packs (omega arith) (unused_more fresh K k (k + 1) N (omega arith) u)) refl

  pub called_anew : (k k2 : ℕ) (N : Names) (packs : List Pack) → Unused fresh K k N → k + length packs ≤ k2 → Unused fresh K k2 (with_packs N (rename_packs (anew fresh) k packs))
  called_anew k k2 N packs u le i h h2 = rw (u i (omega arith) h2, earlier_pack i k packs (omega arith) h2) refl

  pub called_args_anew : (k k2 : ℕ) (N : Names) (args : List Arg) → Unused fresh K k N → k + length args ≤ k2 → Unused fresh K k2 (with_args N (rename_args (anew fresh) k args))
  called_args_anew k k2 N args u le i h h2 = rw (u i (omega arith) h2, earlier_arg i k args (omega arith) h2) refl

  pub args_anew : (k : ℕ) (N : Names) (args : List Arg) → k + length args ≤ K → Unused fresh K k N → NamedArgs N (rename_args (anew fresh) k args)
  args_anew k N [] le u = tt
  args_anew k N (arg ∷ args) le u = (free_anew k N (omega arith) u, args_anew (k + 1) _ args (omega arith) (called_args_anew k (k + 1) N (arg ∷ []) u (omega arith)))

  mutual
    pub ops_anew : (f : ℕ → ℕ) (k : ℕ) (N : Names) (ops : OpList) → k + names_of ops ≤ K → Unused fresh K k N → NamedOps N (rename_ops f (anew fresh) k ops)
    ops_anew f k N nil le u = tt
    ops_anew f k N (next packs results kind rest) le u =
        let k1 = k + inner_names kind in (
          packs_anew k1 N packs (omega arith) (unused_more fresh K k k1 N (omega arith) u),
          kind_anew f k N kind (omega arith) u,
          ops_anew f (k + (inner_names kind + length packs)) _ rest (omega arith)
              (called_anew k1 (k + (inner_names kind + length packs)) N packs (unused_more fresh K k k1 N (omega arith) u) (omega arith)),
        )

    kind_anew : (f : ℕ → ℕ) (k : ℕ) (N : Names) (kind : OpKind) → k + inner_names kind ≤ K → Unused fresh K k N → NamedRegions N (rename_kind f (anew fresh) k kind)
    kind_anew f k N (Simple does) le u = tt
    kind_anew f k N (If c first firsts has_else other others) le u =
        (ops_anew f k N first (omega arith) u, ops_anew f (k + names_of first) N other (omega arith) (unused_more fresh K k _ N (omega arith) u))
    kind_anew f k N (For lower upper step iv args inits body ends) le u =
        let N1 = with_args N (rename_args (anew fresh) k (iv ∷ [])) in
        let u1 = called_args_anew k (k + 1) N (iv ∷ []) u (omega arith) in (
          args_anew k N (iv ∷ []) (omega arith) u,
          args_anew (k + 1) N1 args (omega arith) u1,
          ops_anew f (k + 1 + length args) _ body (omega arith) (called_args_anew (k + 1) (k + 1 + length args) N1 args u1 (omega arith)),
        )
    kind_anew f k N (While args inits before passed cond after_args after ends) le u =
        let k1 = k + length args in
        let k2 = k + length args + names_of before in (
          args_anew k N args (omega arith) u,
          ops_anew f k1 _ before (omega arith) (called_args_anew k k1 N args u (omega arith)),
          args_anew k2 N after_args (omega arith) (unused_more fresh K k k2 N (omega arith) u),
          ops_anew f (k2 + length after_args) _ after (omega arith) (called_args_anew k2 (k2 + length after_args) N after_args (unused_more fresh K k k2 N (omega arith) u) (omega arith)),
        )

  pub unused_anew : (f : ℕ → ℕ) (k : ℕ) (N : Names) (ops : OpList) → Unused fresh K k N → Unused fresh K (k + names_of ops) (names_after N (rename_ops f (anew fresh) k ops))
  unused_anew f k N nil u = unused_more fresh K k (k + 0) N (omega arith) u
  unused_anew f k N (next packs results kind rest) u =
      let k1 = k + inner_names kind in
      let k2 = k + (inner_names kind + length packs) in
      let N1 = with_packs N (rename_packs (anew fresh) k1 packs) in
      unused_more fresh K (k2 + names_of rest) (k + (inner_names kind + length packs + names_of rest)) (names_after N1 (rename_ops f (anew fresh) k2 rest)) (omega arith)
      (unused_anew f k2 N1 rest (called_anew k1 k2 N packs (unused_more fresh K k k1 N (omega arith) u) (omega arith)))

-- old names beside fresh ones

module _ (fresh : ℕ → List ℕ) (K : ℕ) where
  other_packs : (k : ℕ) (packs : List Pack) (n : List ℕ) → k + length packs ≤ K → IsOld fresh K n → list_any (λ (p : Pack). bytes_eq p.name n) (rename_packs (anew fresh) k packs) ≡ false
  other_packs k [] n le e = refl
  other_packs k (pack ∷ packs) n le e = rw ((e k (omega arith)).1, other_packs (k + 1) packs n (omega arith) e) refl

  pub apart_packs_anew : (k : ℕ) (N : Names) (packs : List Pack) → k + length packs ≤ K → Apart fresh K N (with_packs N (rename_packs (anew fresh) k packs))
  apart_packs_anew k N packs le n e h = rw (h, other_packs k packs n le e) refl

  pub apart_anew : (f : ℕ → ℕ) (k : ℕ) (N : Names) (ops : OpList) → k + names_of ops ≤ K → Apart fresh K N (names_after N (rename_ops f (anew fresh) k ops))
  apart_anew f k N nil le n e h = h
  apart_anew f k N (next packs results kind rest) le n e h =
      let N1 = with_packs N (rename_packs (anew fresh) (k + inner_names kind) packs) in
      apart_anew f (k + (inner_names kind + length packs)) N1 rest (omega arith) n e (apart_packs_anew (k + inner_names kind) N packs (omega arith) n e h)

  no_pack : (i : ℕ) (packs : List Pack) → i < K → OldPacks fresh K packs → list_any (λ (p : Pack). bytes_eq p.name (fresh i)) packs ≡ false
  no_pack i [] lt v = refl
  no_pack i (pack ∷ packs) lt v = rw ((v.0 i lt).0, no_pack i packs lt v.1) refl

  no_arg : (i : ℕ) (args : List Arg) → i < K → OldArgs fresh K args → list_any (λ (p : Arg). bytes_eq p.name (fresh i)) args ≡ false
  no_arg i [] lt v = refl
  no_arg i (arg ∷ args) lt v = rw ((v.0 i lt).0, no_arg i args lt v.1) refl

  pub unused_packs : (k : ℕ) (N : Names) (packs : List Pack) → Unused fresh K k N → OldPacks fresh K packs → Unused fresh K k (with_packs N packs)
  unused_packs k N packs u v i h lt = rw (u i h lt, no_pack i packs lt v) refl

  pub unused_args : (k : ℕ) (N : Names) (args : List Arg) → Unused fresh K k N → OldArgs fresh K args → Unused fresh K k (with_args N args)
  unused_args k N args u v i h lt = rw (u i h lt, no_arg i args lt v) refl

  pub unused_after : (k : ℕ) (N : Names) (ops : OpList) → Unused fresh K k N → OldOps fresh K ops → Unused fresh K k (names_after N ops)
  unused_after k N nil u v = u
  unused_after k N (next packs results kind rest) u v = unused_after k (with_packs N packs) rest (unused_packs k N packs u v.0) v.2

-- names kept, where what is in scope besides is apart from them

module _ (fresh : ℕ → List ℕ) (K : ℕ) where
  free_kept : (N N' : Names) (n : List ℕ) → Apart fresh K N N' → IsOld fresh K n → free N n ≡ true → free N' n ≡ true
  free_kept N N' n a e h = let p = and_parts (is_name n) (not (N n)) h in rw (p.0, a n e (not-true (N n) p.1)) refl

  pub free_packs_kept : (N N' : Names) (packs : List Pack) → Apart fresh K N N' → OldPacks fresh K packs → all_free N packs ≡ true → all_free N' packs ≡ true
  free_packs_kept N N' [] a v h = refl
  free_packs_kept N N' (pack ∷ packs) a v h =
      let other = not (list_any (λ (p : Pack). bytes_eq p.name pack.name) packs) in
      let q = and_parts (free N pack.name && other) (all_free N packs) h in
      let p = and_parts (free N pack.name) other q.0 in
      rw (free_kept N N' pack.name a v.0 p.0, p.1, free_packs_kept N N' packs a v.1 q.1) refl

  pub apart_packs : (N N' : Names) (packs : List Pack) → Apart fresh K N N' → Apart fresh K (with_packs N packs) (with_packs N' packs)
  apart_packs N N' packs a n e h = let p = or_parts (N n) (list_any (λ (p : Pack). bytes_eq p.name n) packs) h in rw (a n e p.0, p.1) refl

  pub apart_args : (N N' : Names) (args : List Arg) → Apart fresh K N N' → Apart fresh K (with_args N args) (with_args N' args)
  apart_args N N' args a n e h = let p = or_parts (N n) (list_any (λ (p : Arg). bytes_eq p.name n) args) h in rw (a n e p.0, p.1) refl

  pub args_kept : (N N' : Names) (args : List Arg) → Apart fresh K N N' → OldArgs fresh K args → NamedArgs N args → NamedArgs N' args
  args_kept N N' [] a v h = tt
  args_kept N N' (arg ∷ args) a v h = (free_kept N N' arg.name a v.0 h.0, args_kept (with_args N (arg ∷ [])) (with_args N' (arg ∷ [])) args (apart_args N N' (arg ∷ []) a) v.1 h.1)

  mutual
    pub named_kept : (N N' : Names) (ops : OpList) → Apart fresh K N N' → OldOps fresh K ops → NamedOps N ops → NamedOps N' ops
    named_kept N N' nil a v h = tt
    named_kept N N' (next packs results kind rest) a v h =
        (free_packs_kept N N' packs a v.0 h.0, named_regions_kept N N' kind a v.1 h.1, named_kept (with_packs N packs) (with_packs N' packs) rest (apart_packs N N' packs a) v.2 h.2)

    pub named_regions_kept : (N N' : Names) (kind : OpKind) → Apart fresh K N N' → OldRegions fresh K kind → NamedRegions N kind → NamedRegions N' kind
    named_regions_kept N N' (Simple does) a v h = tt
    named_regions_kept N N' (If c first firsts has_else other others) a v h = (named_kept N N' first a v.0 h.0, named_kept N N' other a v.1 h.1)
    named_regions_kept N N' (For lower upper step iv args inits body ends) a v h =
        let a1 = apart_args N N' (iv ∷ []) a in
        let N1 = with_args N (iv ∷ []) in
        let N1' = with_args N' (iv ∷ []) in
        (args_kept N N' (iv ∷ []) a v.0 h.0, args_kept N1 N1' args a1 v.1 h.1, named_kept (with_args N1 args) (with_args N1' args) body (apart_args N1 N1' args a1) v.2 h.2)
    named_regions_kept N N' (While args inits before passed cond after_args after ends) a v h = (
      args_kept N N' args a v.0 h.0,
      named_kept (with_args N args) (with_args N' args) before (apart_args N N' args a) v.1 h.1,
      args_kept N N' after_args a v.2 h.2,
      named_kept (with_args N after_args) (with_args N' after_args) after (apart_args N N' after_args a) v.3 h.3,
    )

-- other labels leave names alone
module _ (f : ℕ → ℕ) where
  mutual
    pub ops_relabelled : (k : ℕ) (N : Names) (ops : OpList) → NamedOps N ops → NamedOps N (rename_ops f keep k ops)
    ops_relabelled k N nil h = tt
    ops_relabelled k N (next packs results kind rest) h =
        rw (kept_packs (k + inner_names kind) packs) (h.0, regions_relabelled k N kind h.1, ops_relabelled (k + (inner_names kind + length packs)) (with_packs N packs) rest h.2)

    pub regions_relabelled : (k : ℕ) (N : Names) (kind : OpKind) → NamedRegions N kind → NamedRegions N (rename_kind f keep k kind)
    regions_relabelled k N (Simple does) h = tt
    regions_relabelled k N (If c first firsts has_else other others) h = (ops_relabelled k N first h.0, ops_relabelled (k + names_of first) N other h.1)
    regions_relabelled k N (For lower upper step iv args inits body ends) h =
        rw (kept_args (k + 1) args) (h.0, h.1, ops_relabelled (k + 1 + length args) (with_args (with_args N (iv ∷ [])) args) body h.2)
    regions_relabelled k N (While args inits before passed cond after_args after ends) h =
        rw (kept_args k args, kept_args (k + length args + names_of before) after_args)
        (h.0, ops_relabelled (k + length args) (with_args N args) before h.1, h.2, ops_relabelled (k + length args + names_of before + length after_args) (with_args N after_args) after h.3)

pub names_after_relabelled : (f : ℕ → ℕ) (k : ℕ) (N : Names) (ops : OpList) → names_after N (rename_ops f keep k ops) ≡ names_after N ops
names_after_relabelled f k N nil = refl
names_after_relabelled f k N (next packs results kind rest) =
    ap (λ ps. names_after (with_packs N ps) (rename_ops f keep (k + (inner_names kind + length packs)) rest)) (kept_packs (k + inner_names kind) packs)
    ∙ names_after_relabelled f (k + (inner_names kind + length packs)) (with_packs N packs) rest

pub apart_after : (fresh : ℕ → List ℕ) (K : ℕ) (N N' : Names) (ops : OpList) → Apart fresh K N N' → Apart fresh K (names_after N ops) (names_after N' ops)
apart_after fresh K N N' nil a = a
apart_after fresh K N N' (next packs results kind rest) a = apart_after fresh K (with_packs N packs) (with_packs N' packs) rest (apart_packs fresh K N N' packs a)
