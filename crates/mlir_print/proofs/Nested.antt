-- The lines of operations in one another.
use Rattle.std.proofs.Common.{◌≡◌, ℕ, ◌+◌, ◌*◌, ◌<◌, List, [], ◌∷◌, ◌++◌, drop, length, map, get_or, replicate, codes, refl, sym, ap, ◌∙◌, append_assoc, append-nil, arith, Option, None, Some}
use Rattle.std.proofs.lemmas.List.{drop_more}
use Rattle.arith_word.specs.declared.label.Label.{Label}
use Rattle.mlir_ir.specs.declared.types.Arg.{Arg}
use Rattle.mlir_ir.specs.declared.types.ForParts.{ForParts, ForParts', out-ForParts}
use Rattle.mlir_ir.specs.declared.types.IrType.{IrType}
use Rattle.mlir_ir.specs.declared.types.Kind.{Kind, Const, Bin, Cast, Cmp, Select, Call, If', For, While, Held-Kind-If-2, None', Some', back-Kind-If-2}
use Rattle.mlir_ir.specs.declared.types.Op.{Op}
use Rattle.mlir_ir.specs.declared.types.Region.{Region, Region', Row_of-Op, end_of-Op, more_of-Op, items-the_row-Op, out-Region, items_shown-the_row-Op-0}
use Rattle.mlir_ir.specs.declared.types.WhileParts.{WhileParts, WhileParts', out-WhileParts}
use Rattle.mlir_ir.specs.Canonical.{Naming, after_text, arrow_list, before_text, block_text, bracketed, carried_text, counter_type, else_text, ends_text, for_text, line, op_text, packs_text, region_text, row_text, simple_text, types_text, use_text, while_inits, while_text, yield_text}
use Rattle.mlir_print.specs.Lines.{for_head, if_head, ops_lines, while_head}

pub ops_more : (naming : Naming) (depth : ℕ) (front out : List ℕ) (ops : List Op) (i : ℕ) (op : Op) → i < length ops → op ≡ get_or ops i op → out ≡ front ++ op_text naming depth (packs_text op.packs) op.results op.kind
    → out ++ ops_lines naming depth (drop (i + 1) ops) ≡ front ++ ops_lines naming depth (drop i ops)
ops_more naming depth front out ops i op lt e h = rw (h, drop_more ops i op lt, ← e) (append_assoc front (op_text naming depth (packs_text op.packs) op.results op.kind) _)

-- a region's lines, over the list of its operations

row_lines : (naming : Naming) (depth n : _) (row : Row_of-Op n) → row_text naming depth row ≡ ops_lines naming depth (items-the_row-Op n row)
unfolding row_text
row_lines naming depth n end_of-Op = refl
row_lines naming depth n (more_of-Op packs results kind rest) = ap (λ ts. op_text naming depth (packs_text packs) results kind ++ ts) (row_lines naming depth _ rest)

pub region_lines : (naming : Naming) (depth : ℕ) (r : Region) → region_text naming depth r ≡ ops_lines naming depth (out-Region r).ops ++ yield_text naming depth (out-Region r).ends
unfolding region_text out-Region denote.Hole.Carrier.out Rattle.mlir_ir.specs.declared.types.Kind.TheBlock.shown-the_row-Op-0
region_lines naming depth (Region' shape row ends) =
    ap (λ ts. ts ++ yield_text naming depth ends) (row_lines naming depth _ row ∙ ap (ops_lines naming depth) (sym (items_shown-the_row-Op-0 shape row)))

pub before_lines : (naming : Naming) (depth : ℕ) (cond : Label) (r : Region)
    → before_text naming depth cond r ≡ ops_lines naming depth (out-Region r).ops ++ line depth (codes "scf.condition" ++ bracketed (use_text naming cond) ++ ends_text naming (out-Region r).ends)
unfolding before_text out-Region denote.Hole.Carrier.out Rattle.mlir_ir.specs.declared.types.Kind.TheBlock.shown-the_row-Op-0
before_lines naming depth cond (Region' shape row ends) =
    ap (λ ts. ts ++ line depth (codes "scf.condition" ++ bracketed (use_text naming cond) ++ ends_text naming ends)) (row_lines naming depth _ row ∙ ap (ops_lines naming depth) (sym (items_shown-the_row-Op-0 shape row)))

pub after_lines : (naming : Naming) (depth : ℕ) (r : Region) → after_text naming depth r ≡ ops_lines naming depth (out-Region r).ops ++ line depth (codes "scf.yield" ++ ends_text naming (out-Region r).ends)
unfolding after_text out-Region denote.Hole.Carrier.out Rattle.mlir_ir.specs.declared.types.Kind.TheBlock.shown-the_row-Op-0
after_lines naming depth (Region' shape row ends) =
    ap (λ ts. ts ++ line depth (codes "scf.yield" ++ ends_text naming ends)) (row_lines naming depth _ row ∙ ap (ops_lines naming depth) (sym (items_shown-the_row-Op-0 shape row)))

pub arm_pushed : (naming : Naming) (depth : ℕ) (r : Region) (ops : List Op) (ends : List Label) (out o1 o2 : List ℕ) → ops ≡ (out-Region r).ops → ends ≡ (out-Region r).ends
    → o1 ≡ out ++ ops_lines naming depth ops → o2 ≡ o1 ++ yield_text naming depth ends → o2 ≡ out ++ region_text naming depth r
arm_pushed naming depth r ops ends out o1 o2 is_ops is_ends e f =
    f ∙ (ap (λ o. o ++ yield_text naming depth ends) e ∙ (append_assoc out _ _
    ∙ ap (λ t. out ++ t) (ap (λ os. ops_lines naming depth os ++ yield_text naming depth ends) is_ops ∙ (ap (λ ls. ops_lines naming depth (out-Region r).ops ++ yield_text naming depth ls) is_ends ∙ sym (region_lines naming depth r)))))

abbrev condition_line : Naming → ℕ → Label → List Label → List ℕ
condition_line naming depth cond ends = line depth (codes "scf.condition" ++ bracketed (use_text naming cond) ++ ends_text naming ends)

pub before_pushed : (naming : Naming) (depth : ℕ) (cond : Label) (r : Region) (ops : List Op) (ends : List Label) (out o1 o2 : List ℕ) → ops ≡ (out-Region r).ops → ends ≡ (out-Region r).ends
    → o1 ≡ out ++ ops_lines naming depth ops → o2 ≡ o1 ++ condition_line naming depth cond ends → o2 ≡ out ++ before_text naming depth cond r
before_pushed naming depth cond r ops ends out o1 o2 is_ops is_ends e f =
    f ∙ (ap (λ o. o ++ condition_line naming depth cond ends) e ∙ (append_assoc out _ _
    ∙ ap (λ t. out ++ t) (ap (λ os. ops_lines naming depth os ++ condition_line naming depth cond ends) is_ops ∙ (ap (λ ls. ops_lines naming depth (out-Region r).ops ++ condition_line naming depth cond ls) is_ends ∙ sym (before_lines naming depth cond r)))))

abbrev turn_line : Naming → ℕ → List Label → List ℕ
turn_line naming depth ends = line depth (codes "scf.yield" ++ ends_text naming ends)

pub after_pushed : (naming : Naming) (depth : ℕ) (r : Region) (ops : List Op) (ends : List Label) (out o1 o2 : List ℕ) → ops ≡ (out-Region r).ops → ends ≡ (out-Region r).ends
    → o1 ≡ out ++ ops_lines naming depth ops → o2 ≡ o1 ++ turn_line naming depth ends → o2 ≡ out ++ after_text naming depth r
after_pushed naming depth r ops ends out o1 o2 is_ops is_ends e f =
    f ∙ (ap (λ o. o ++ turn_line naming depth ends) e ∙ (append_assoc out _ _
    ∙ ap (λ t. out ++ t) (ap (λ os. ops_lines naming depth os ++ turn_line naming depth ends) is_ops ∙ (ap (λ ls. ops_lines naming depth (out-Region r).ops ++ turn_line naming depth ls) is_ends ∙ sym (after_lines naming depth r)))))

-- a first line and what follows it, with the texts as variables

for_shape : (front b p w v k a s u t d c n e : List ℕ)
    → (front ++ b ++ p) ++ (w ++ v ++ k ++ a ++ s ++ u ++ t ++ d ++ c ++ n ++ (e ++ 10 ∷ [])) ≡ front ++ (b ++ (p ++ w ++ v ++ k ++ a ++ s ++ u ++ t ++ d ++ c ++ n ++ e) ++ 10 ∷ [])
for_shape front b p w v k a s u t d c n e = simp append_assoc refl

while_shape : (front b p w i k t s r e : List ℕ) → (front ++ b ++ p) ++ (w ++ i ++ k ++ t ++ s ++ r ++ (e ++ 10 ∷ [])) ≡ front ++ (b ++ (p ++ w ++ i ++ k ++ t ++ s ++ r ++ e) ++ 10 ∷ [])
while_shape front b p w i k t s r e = simp append_assoc refl

if_shape : (front b p w u a e : List ℕ) → (front ++ b ++ p) ++ (w ++ u ++ a ++ (e ++ 10 ∷ [])) ≡ front ++ (b ++ (p ++ w ++ u ++ a ++ e) ++ 10 ∷ [])
if_shape front b p w u a e = simp append_assoc refl

simple_shape : (front b p t : List ℕ) → ((front ++ b ++ p) ++ t) ++ 10 ∷ [] ≡ front ++ (b ++ (p ++ t) ++ 10 ∷ [])
simple_shape front b p t = simp append_assoc refl

three_lines : (front l r c : List ℕ) → ((front ++ l) ++ r) ++ c ≡ front ++ (l ++ r ++ c)
three_lines front l r c = simp append_assoc refl

none_lines : (front l r c : List ℕ) → ((front ++ l) ++ r) ++ c ≡ front ++ (l ++ r ++ [] ++ c)
none_lines front l r c = simp (append_assoc, append-nil) refl

some_lines : (front l r m q c : List ℕ) → ((((front ++ l) ++ r) ++ m) ++ q) ++ c ≡ front ++ (l ++ r ++ (m ++ q) ++ c)
some_lines front l r m q c = simp append_assoc refl

six_lines : (front l r m k a c : List ℕ) → (((((front ++ l) ++ r) ++ m) ++ k) ++ a) ++ c ≡ front ++ (l ++ r ++ m ++ k ++ a ++ c)
six_lines front l r m k a c = simp append_assoc refl

pub for_pushed : (naming : Naming) (depth : ℕ) (results : List IrType) (parts : ForParts) (front packs out o1 o2 o3 : List ℕ) → out ≡ front ++ replicate (2 * depth) 32 ++ packs
    → o1 ≡ out ++ for_head naming results parts
    → o2 ≡ o1 ++ region_text naming (depth + 1) (out-ForParts parts).body
    → o3 ≡ o2 ++ line depth (codes "}")
    → o3 ≡ front ++ for_text naming depth packs results parts
unfolding for_text out-ForParts denote.Hole.Carrier.out
for_pushed naming depth results (ForParts' lower upper step iv args inits body) front packs out o1 o2 o3 e f g h =
    let b = replicate (2 * depth) 32 in
    let region = region_text naming (depth + 1) body in
    let close = line depth (codes "}") in
    h ∙ (ap (λ o. o ++ close) g ∙ (ap (λ o. o ++ region ++ close) (f ∙ ap (λ o. o ++ for_head naming results (ForParts' lower upper step iv args inits body)) e
    ∙ for_shape front b packs (codes "scf.for %") iv.name (codes " = ") (use_text naming lower) (codes " to ") (use_text naming upper) (codes " step ") (use_text naming step) (carried_text naming args inits results) (counter_type iv.ty) (codes " {"))
    ∙ three_lines front _ region close))

pub while_pushed : (naming : Naming) (depth : ℕ) (results : List IrType) (parts : WhileParts) (after_args : List Arg) (front packs out o1 o2 o3 o4 o5 o6 : List ℕ) → after_args ≡ (out-WhileParts parts).after_args
    → out ≡ front ++ replicate (2 * depth) 32 ++ packs
    → o1 ≡ out ++ while_head naming results parts
    → o2 ≡ o1 ++ before_text naming (depth + 1) (out-WhileParts parts).cond (out-WhileParts parts).before
    → o3 ≡ o2 ++ line depth (codes "} do {")
    → o4 ≡ o3 ++ block_text depth after_args
    → o5 ≡ o4 ++ after_text naming (depth + 1) (out-WhileParts parts).after
    → o6 ≡ o5 ++ line depth (codes "}")
    → o6 ≡ front ++ while_text naming depth packs results parts
unfolding while_text out-WhileParts denote.Hole.Carrier.out
while_pushed naming depth results (WhileParts' args inits before cond params after) after_args front packs out o1 o2 o3 o4 o5 o6 same e f g h i j k =
    let b = replicate (2 * depth) 32 in
    let first = before_text naming (depth + 1) cond before in
    let middle = line depth (codes "} do {") in
    let block = block_text depth params in
    let second = after_text naming (depth + 1) after in
    let close = line depth (codes "}") in
    let head : o1 ≡ front ++ line depth (packs ++ codes "scf.while " ++ while_inits naming args inits ++ codes ": " ++ bracketed (types_text (map (λ arg. arg.ty) args)) ++ codes " -> " ++ bracketed (types_text results) ++ codes " {") =
    f ∙ ap (λ o. o ++ while_head naming results (WhileParts' args inits before cond params after)) e
    ∙ while_shape front b packs (codes "scf.while ") (while_inits naming args inits) (codes ": ") (bracketed (types_text (map (λ arg. arg.ty) args))) (codes " -> ") (bracketed (types_text results)) (codes " {") in
    k
    ∙ (ap (λ o. o ++ close) j
    ∙ (ap (λ o. o ++ second ++ close) (i ∙ ap (λ args. o3 ++ block_text depth args) same)
    ∙ (ap (λ o. o ++ block ++ second ++ close) h
    ∙ (ap (λ o. o ++ middle ++ block ++ second ++ close) g
    ∙ (ap (λ o. o ++ first ++ middle ++ block ++ second ++ close) head
    ∙ six_lines front _ first middle block second close)))))

if_opened : (naming : Naming) (depth : ℕ) (results : List IrType) (c : Label) (front packs out o1 : List ℕ) → out ≡ front ++ replicate (2 * depth) 32 ++ packs → o1 ≡ out ++ if_head naming results c
    → o1 ≡ front ++ line depth (packs ++ codes "scf.if " ++ use_text naming c ++ arrow_list results ++ codes " {")
if_opened naming depth results c front packs out o1 e f =
    f ∙ ap (λ o. o ++ if_head naming results c) e ∙ if_shape front (replicate (2 * depth) 32) packs (codes "scf.if ") (use_text naming c) (arrow_list results) (codes " {")

pub none_pushed : (naming : Naming) (depth : ℕ) (results : List IrType) (c : Label) (first : Region) (kind : Kind) (other : Held-Kind-If-2) (front packs out o1 o2 o3 : List ℕ) → kind ≡ If' c first other → other ≡ None'
    → out ≡ front ++ replicate (2 * depth) 32 ++ packs
    → o1 ≡ out ++ if_head naming results c
    → o2 ≡ o1 ++ region_text naming (depth + 1) first
    → o3 ≡ o2 ++ line depth (codes "}")
    → o3 ≡ front ++ op_text naming depth packs results kind
unfolding op_text else_text
none_pushed naming depth results c first kind other front packs out o1 o2 o3 is none e f g h =
    rw (is, none)
    (let region = region_text naming (depth + 1) first in
    let close = line depth (codes "}") in
    h ∙ (ap (λ o. o ++ close) g ∙ (ap (λ o. o ++ region ++ close) (if_opened naming depth results c front packs out o1 e f) ∙ none_lines front _ region close)))

pub some_pushed : (naming : Naming) (depth : ℕ) (results : List IrType) (c : Label) (first second : Region) (kind : Kind) (other : Held-Kind-If-2) (front packs out o1 o2 o3 o4 o5 : List ℕ) → kind ≡ If' c first other → other ≡ Some' second
    → out ≡ front ++ replicate (2 * depth) 32 ++ packs
    → o1 ≡ out ++ if_head naming results c
    → o2 ≡ o1 ++ region_text naming (depth + 1) first
    → o3 ≡ o2 ++ line depth (codes "} else {")
    → o4 ≡ o3 ++ region_text naming (depth + 1) second
    → o5 ≡ o4 ++ line depth (codes "}")
    → o5 ≡ front ++ op_text naming depth packs results kind
unfolding op_text else_text
some_pushed naming depth results c first second kind other front packs out o1 o2 o3 o4 o5 is some e f g h i j =
    rw (is, some)
    (let region = region_text naming (depth + 1) first in
    let middle = line depth (codes "} else {") in
    let last = region_text naming (depth + 1) second in
    let close = line depth (codes "}") in
    j
    ∙ (ap (λ o. o ++ close) i
    ∙ (ap (λ o. o ++ last ++ close) h
    ∙ (ap (λ o. o ++ middle ++ last ++ close) g
    ∙ (ap (λ o. o ++ region ++ middle ++ last ++ close) (if_opened naming depth results c front packs out o1 e f) ∙ some_lines front _ region middle last close)))))

pub for_kind : (naming : Naming) (depth : ℕ) (results : List IrType) (parts : ForParts) (kind : Kind) (front packs out : List ℕ) → kind ≡ For parts → out ≡ front ++ for_text naming depth packs results parts
    → out ≡ front ++ op_text naming depth packs results kind
unfolding op_text
for_kind naming depth results parts kind front packs out is e = rw is e

pub while_kind : (naming : Naming) (depth : ℕ) (results : List IrType) (parts : WhileParts) (kind : Kind) (front packs out : List ℕ) → kind ≡ While parts → out ≡ front ++ while_text naming depth packs results parts
    → out ≡ front ++ op_text naming depth packs results kind
unfolding op_text
while_kind naming depth results parts kind front packs out is e = rw is e

line_pushed : (depth : ℕ) (text front packs out o1 o2 : List ℕ) → out ≡ front ++ replicate (2 * depth) 32 ++ packs → o1 ≡ out ++ text → o2 ≡ o1 ++ 10 ∷ [] → o2 ≡ front ++ line depth (packs ++ text)
line_pushed depth text front packs out o1 o2 e f g =
    g ∙ (ap (λ o. o ++ 10 ∷ []) (f ∙ ap (λ o. o ++ text) e) ∙ simple_shape front (replicate (2 * depth) 32) packs text)

-- operations without regions
pub simple_pushed : (naming : Naming) (depth : ℕ) (results : List IrType) (kind : Kind) (front packs out o1 o2 : List ℕ)
    → ((c : Label) (first : Region) (other : Option Region) → kind ≡ If' c first (back-Kind-If-2 other) → ⊥)
    → ((parts : ForParts) → kind ≡ For parts → ⊥)
    → ((parts : WhileParts) → kind ≡ While parts → ⊥)
    → out ≡ front ++ replicate (2 * depth) 32 ++ packs
    → o1 ≡ out ++ simple_text naming results kind
    → o2 ≡ o1 ++ 10 ∷ []
    → o2 ≡ front ++ op_text naming depth packs results kind
unfolding op_text
simple_pushed naming depth results (If' c first None') front packs out o1 o2 x y z e f g = absurd (x c first None refl)
simple_pushed naming depth results (If' c first (Some' second)) front packs out o1 o2 x y z e f g = absurd (x c first (Some second) refl)
simple_pushed naming depth results (For parts) front packs out o1 o2 x y z e f g = absurd (y parts refl)
simple_pushed naming depth results (While parts) front packs out o1 o2 x y z e f g = absurd (z parts refl)
simple_pushed naming depth results (Const v) front packs out o1 o2 x y z e f g = line_pushed depth (simple_text naming results (Const v)) front packs out o1 o2 e f g
simple_pushed naming depth results (Bin op flags a b) front packs out o1 o2 x y z e f g = line_pushed depth (simple_text naming results (Bin op flags a b)) front packs out o1 o2 e f g
simple_pushed naming depth results (Cast op flags a) front packs out o1 o2 x y z e f g = line_pushed depth (simple_text naming results (Cast op flags a)) front packs out o1 o2 e f g
simple_pushed naming depth results (Cmp pred a b) front packs out o1 o2 x y z e f g = line_pushed depth (simple_text naming results (Cmp pred a b)) front packs out o1 o2 e f g
simple_pushed naming depth results (Select c a b) front packs out o1 o2 x y z e f g = line_pushed depth (simple_text naming results (Select c a b)) front packs out o1 o2 e f g
simple_pushed naming depth results (Call func uses) front packs out o1 o2 x y z e f g = line_pushed depth (simple_text naming results (Call func uses)) front packs out o1 o2 e f g
