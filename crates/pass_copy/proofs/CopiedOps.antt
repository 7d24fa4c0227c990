-- Copies as far as they have come: of arguments, packs and operations.
use Rattle.std.proofs.Common.{◌≡◌, ℕ, suc, ◌+◌, ◌<◌, ◌≤◌, Bool, true, List, [], ◌∷◌, ◌++◌, length, get_or, drop, drop-cons, add-one, append_assoc, refl, ap, ◌∙◌, sym, arith, if◌then◌else◌}
use Rattle.std.proofs.lemmas.List.{drop_all}
use Rattle.arith_word.specs.declared.label.Label.{Label}
use Rattle.mlir_ir.specs.Operations.{SimpleOp, Const, Bin, Cast, Cmp, Select, Call, OpKind, Simple, If, For, While, OpList, nil, next, joined}
use Rattle.mlir_ir.specs.View.{view_kind, view_ops, view_while, rows_of, ends_of}
use Rattle.mlir_ir.specs.declared.types.WhileParts.{WhileParts, out-WhileParts}
use Rattle.mlir_ir.proofs.PartViews.{while_parts}
use Rattle.mlir_ir.specs.declared.types.Arg.{Arg}
use Rattle.mlir_ir.specs.declared.types.Op.{Op}
use Rattle.mlir_ir.specs.declared.types.Pack.{Pack}
use Rattle.pass_copy.specs.Copied.{HaveGiven, fresh_by, naming}
use Rattle.pass_copy.specs.Renamed.{Naming, keep, anew, rename_arg, rename_args, rename_packs, rename_ops, rename_kind, rename_simple, relabel, relabels, names_of, inner_names}
use Rattle.pass_copy.specs.Renaming.{renamed}
use Rattle.pass_copy.specs.declared.names.Names.{Names}
use Rattle.pass_copy.proofs.JoinedOps.{joined_nil, joined_assoc, view_append}

pub same_naming : (old new : Names) → new.kept ≡ old.kept → fresh_by new ≡ fresh_by old → naming new ≡ naming old
same_naming old new kept same = ap (λ (k : Bool). if k then keep else anew (fresh_by new)) kept ∙ ap (λ (f : ℕ → List ℕ). if old.kept then keep else anew f) same

pub none_given : (names : Names) → HaveGiven names 0 names
none_given names = record { kept = refl; same = refl; count = omega arith }

pub more_given : (old mid new : Names) (n m total : ℕ) → HaveGiven old n mid → HaveGiven mid m new → total ≡ n + m → HaveGiven old total new
more_given old mid new n m total a b e = record {
  kept = b.kept ∙ a.kept;
  same = b.same ∙ a.same;
  count = let p = a.count in let q = b.count in omega arith;
}

pub args_step : (name : Naming) (k i : ℕ) (args made more : List Arg) (arg new : Arg) (all : List Arg) → i < length args → arg ≡ get_or args i arg
    → new ≡ rename_arg name (k + i) arg → more ≡ made ++ new ∷ []
    → made ++ rename_args name (k + i) (drop i args) ≡ all → more ++ rename_args name (k + (i + 1)) (drop (i + 1) args) ≡ all
args_step name k i args made more arg new all h e n m inv =
    let dc : drop i args ≡ get_or args i arg ∷ drop (suc i) args = drop-cons args i arg h in
    let inv2 = rw (dc, ← e) at inv in
    let assoc : k + (i + 1) ≡ k + i + 1 = omega arith in
    rw (m, assoc, add-one i, n) (append_assoc made (rename_arg name (k + i) arg ∷ []) (rename_args name (k + i + 1) (drop (suc i) args)) ∙ inv2)

pub packs_step : (name : Naming) (k i : ℕ) (packs made more : List Pack) (pack new : Pack) (all : List Pack) → i < length packs → pack ≡ get_or packs i pack
    → new ≡ record { name = name (k + i) pack.name; count = pack.count } → more ≡ made ++ new ∷ []
    → made ++ rename_packs name (k + i) (drop i packs) ≡ all → more ++ rename_packs name (k + (i + 1)) (drop (i + 1) packs) ≡ all
packs_step name k i packs made more pack new all h e n m inv =
    let dc : drop i packs ≡ get_or packs i pack ∷ drop (suc i) packs = drop-cons packs i pack h in
    let inv2 = rw (dc, ← e) at inv in
    let assoc : k + (i + 1) ≡ k + i + 1 = omega arith in
    rw (m, assoc, add-one i, n) (append_assoc made (record { name = name (k + i) pack.name; count = pack.count } ∷ []) (rename_packs name (k + i + 1) (drop (suc i) packs)) ∙ inv2)

-- operations: what is made, with what is left, is the whole
pub ops_step : (f : ℕ → ℕ) (name : Naming) (k k2 i : ℕ) (ops made more : List Op) (o new : Op) (all : OpList) → i < length ops → o ≡ get_or ops i o
    → new.packs ≡ rename_packs name (k + inner_names (view_kind o.kind)) o.packs → new.results ≡ o.results → view_kind new.kind ≡ rename_kind f name k (view_kind o.kind)
    → k2 ≡ k + (inner_names (view_kind o.kind) + length o.packs) → more ≡ made ++ new ∷ []
    → joined (view_ops made) (rename_ops f name k (view_ops (drop i ops))) ≡ all
    → joined (view_ops more) (rename_ops f name k2 (view_ops (drop (i + 1) ops))) ≡ all
ops_step f name k k2 i ops made more o new all h e packs results kind n m inv =
    let dc : drop i ops ≡ get_or ops i o ∷ drop (suc i) ops = drop-cons ops i o h in
    let inv2 = rw (dc, ← e) at inv in
    let one : view_ops (new ∷ []) ≡ next (rename_packs name (k + inner_names (view_kind o.kind)) o.packs) o.results (rename_kind f name k (view_kind o.kind)) nil =
    (λ j. next (packs j) (results j) (kind j) nil) in
    rw (m, n, add-one i)
    (ap (λ (z : OpList). joined z (rename_ops f name (k + (inner_names (view_kind o.kind) + length o.packs)) (view_ops (drop (suc i) ops)))) (view_append made (new ∷ []) ∙ ap (joined (view_ops made)) one)
    ∙ joined_assoc (view_ops made) (next (rename_packs name (k + inner_names (view_kind o.kind)) o.packs) o.results (rename_kind f name k (view_kind o.kind)) nil) (rename_ops f name (k + (inner_names (view_kind o.kind) + length o.packs)) (view_ops (drop (suc i) ops)))
    ∙ inv2)

pub names_step : (k k2 i total : ℕ) (ops : List Op) (o : Op) → i < length ops → o ≡ get_or ops i o → k2 ≡ k + (inner_names (view_kind o.kind) + length o.packs)
    → k + names_of (view_ops (drop i ops)) ≡ total → k2 + names_of (view_ops (drop (i + 1) ops)) ≡ total
names_step k k2 i total ops o h e n inv =
    let dc : drop i ops ≡ get_or ops i o ∷ drop (suc i) ops = drop-cons ops i o h in
    let inv2 = rw (dc, ← e) at inv in
    rw (add-one i) (omega (arith, inv2))

pub ops_done : (f : ℕ → ℕ) (name : Naming) (k i : ℕ) (ops made : List Op) (all : OpList) → length ops ≤ i
    → joined (view_ops made) (rename_ops f name k (view_ops (drop i ops))) ≡ all → view_ops made ≡ all
ops_done f name k i ops made all h inv = let e : drop i ops ≡ [] = drop_all i ops h in sym (joined_nil (view_ops made)) ∙ rw e at inv

pub names_done : (k i total : ℕ) (ops : List Op) → length ops ≤ i → k + names_of (view_ops (drop i ops)) ≡ total → k ≡ total
names_done k i total ops h inv = let e : drop i ops ≡ [] = drop_all i ops h in let inv2 = rw e at inv in omega (arith, inv2)

-- copies with the same names

pub naming_kept : (names : Names) → names.kept ≡ true → naming names ≡ keep
naming_kept names kept = ap (λ (k : Bool). if k then keep else anew (fresh_by names)) kept

pub args_kept : (k : ℕ) (args : List Arg) → rename_args keep k args ≡ args
args_kept k [] = refl
args_kept k (arg ∷ args) = ap (λ (xs : List Arg). arg ∷ xs) (args_kept (k + 1) args)

pub packs_kept : (k : ℕ) (packs : List Pack) → rename_packs keep k packs ≡ packs
packs_kept k [] = refl
packs_kept k (pack ∷ packs) = ap (λ (ps : List Pack). pack ∷ ps) (packs_kept (k + 1) packs)

labels_kept : (labels : List Label) → relabels (renamed []) labels ≡ labels
labels_kept [] = refl
labels_kept (l ∷ labels) = ap (λ (ls : List Label). l ∷ ls) (labels_kept labels)

simple_kept : (does : SimpleOp) → rename_simple (renamed []) does ≡ does
simple_kept (Const v) = refl
simple_kept (Bin op flags a b) = refl
simple_kept (Cast op flags a) = refl
simple_kept (Cmp pred a b) = refl
simple_kept (Select c a b) = refl
simple_kept (Call func passed) = ap (Call func) (labels_kept passed)

mutual
  pub ops_kept : (k : ℕ) (ops : OpList) → rename_ops (renamed []) keep k ops ≡ ops
  ops_kept k nil = refl
  ops_kept k (next packs results kind rest) =
      λ j. next (packs_kept (k + inner_names kind) packs j) results (kind_kept k kind j) (ops_kept (k + (inner_names kind + length packs)) rest j)

  pub kind_kept : (k : ℕ) (kind : OpKind) → rename_kind (renamed []) keep k kind ≡ kind
  kind_kept k (Simple does) = ap Simple (simple_kept does)
  kind_kept k (If c first firsts has_else other others) =
      λ j. If c (ops_kept k first j) (labels_kept firsts j) has_else (ops_kept (k + names_of first) other j) (labels_kept others j)
  kind_kept k (For lower upper step iv args inits body ends) =
      λ j. For lower upper step iv (args_kept (k + 1) args j) (labels_kept inits j) (ops_kept (k + 1 + length args) body j) (labels_kept ends j)
  kind_kept k (While args inits before passed cond after_args after ends) =
      λ j. While (args_kept k args j) (labels_kept inits j) (ops_kept (k + length args) before j) (labels_kept passed j) cond
      (args_kept (k + length args + names_of before) after_args j) (ops_kept (k + length args + names_of before + length after_args) after j) (labels_kept ends j)

-- an `scf.while` whose parts were copied one after another
pub while_copied : (f : ℕ → ℕ) (n0 n1 n2 n3 : Names) (p : WhileParts) (args : List Arg) (inits : List Label) (before : OpList) (passed : List Label) (cond : Label)
    (after_args : List Arg) (after : OpList) (ends : List Label)
    → args ≡ rename_args (naming n0) n0.given (out-WhileParts p).args → HaveGiven n0 (length (out-WhileParts p).args) n1 → inits ≡ relabels f (out-WhileParts p).inits
    → before ≡ rename_ops f (naming n1) n1.given (rows_of (out-WhileParts p).before) → passed ≡ relabels f (ends_of (out-WhileParts p).before)
    → HaveGiven n1 (names_of (rows_of (out-WhileParts p).before)) n2 → cond ≡ relabel f (out-WhileParts p).cond
    → after_args ≡ rename_args (naming n2) n2.given (out-WhileParts p).after_args → HaveGiven n2 (length (out-WhileParts p).after_args) n3
    → after ≡ rename_ops f (naming n3) n3.given (rows_of (out-WhileParts p).after) → ends ≡ relabels f (ends_of (out-WhileParts p).after)
    → While args inits before passed cond after_args after ends ≡ rename_kind f (naming n0) n0.given (view_while p)
while_copied f n0 n1 n2 n3 p args inits before passed cond after_args after ends a g1 i b pa g2 co aa g3 af en =
    let q = out-WhileParts p in
    let e1 : naming n1 ≡ naming n0 = same_naming n0 n1 g1.kept g1.same in
    let e2 : naming n2 ≡ naming n0 = same_naming n1 n2 g2.kept g2.same ∙ e1 in
    let e3 : naming n3 ≡ naming n0 = same_naming n2 n3 g3.kept g3.same ∙ e2 in
    let k1 : n1.given ≡ n0.given + length q.args = g1.count in
    let k2 : n2.given ≡ n0.given + length q.args + names_of (rows_of q.before) = let h = g2.count in omega arith in
    let k3 : n3.given ≡ n0.given + length q.args + names_of (rows_of q.before) + length q.after_args = let h = g3.count in omega arith in
    let b2 : before ≡ rename_ops f (naming n0) (n0.given + length q.args) (rows_of q.before) = b ∙ (λ j. rename_ops f (e1 j) (k1 j) (rows_of q.before)) in
    let aa2 : after_args ≡ rename_args (naming n0) (n0.given + length q.args + names_of (rows_of q.before)) q.after_args = aa ∙ (λ j. rename_args (e2 j) (k2 j) q.after_args) in
    let af2 : after ≡ rename_ops f (naming n0) (n0.given + length q.args + names_of (rows_of q.before) + length q.after_args) (rows_of q.after) = af ∙ (λ j. rename_ops f (e3 j) (k3 j) (rows_of q.after)) in
    (λ j. While (a j) (i j) (b2 j) (pa j) (co j) (aa2 j) (af2 j) (en j)) ∙ sym (ap (rename_kind f (naming n0) n0.given) (while_parts p))
