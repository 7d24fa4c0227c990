-- Operations that are built one after another are those that the syntax stands for.
use Rattle.std.proofs.Common.{◌≡◌, ℕ, ◌+◌, List, [], ◌∷◌, ◌++◌, map, length, refl, ap, ◌∙◌, sym, subst, arith, append_assoc, append-nil}
use Rattle.mlir_ir.specs.Operations as plain
use Rattle.mlir_ir.specs.Operations.{OpKind, OpList, nil, next, labels_of, inner_labels, joined}
use Rattle.mlir_ir.specs.Phrases.{Phrase, lines}
use Rattle.mlir_ir.specs.Resolved.{tys, packs_of, simple_kind, kind_of, ops_of, values_of}
use Rattle.mlir_ir.specs.Source.{Block, none, op, Packed, head, packed, op_types, region, region_behind}
use Rattle.mlir_ir.specs.Values.{Value, result_values}
use Rattle.mlir_ir.specs.View.{view_kind, view_ops}
use Rattle.mlir_ir.specs.declared.syntax.Branch.{Branch}
use Rattle.mlir_ir.specs.declared.syntax.Form.TheVariants.{Pack}
use Rattle.mlir_ir.specs.declared.terminal.Terminal.{Terminal}
use Rattle.mlir_ir.specs.declared.terminal.Terminal.TheVariants as terminals
use Rattle.mlir_ir.specs.declared.types.IrType.{IrType}
use Rattle.mlir_ir.specs.declared.types.Op.{Op}
use Rattle.mlir_scope.specs.Blocks.{operations, with_operation}
use Rattle.mlir_scope.specs.Built.{AreBehind, IsPast, scope_at, names_said, kind_at, kind_said, if_said, for_said, while_said, op_said, ops_said}
use Rattle.mlir_scope.specs.Said.{said}
use Rattle.mlir_scope.specs.declared.blocks.Operation.{Operation}
use Rattle.mlir_scope.specs.declared.blocks.Ops.{Ops}
use Rattle.mlir_scope.specs.declared.place.Place.{Place}
use Rattle.mlir_scope.specs.declared.simple_kinds.Origin.{Origin}
use Rattle.mlir_scope.proofs.OpLists.{joined_nil, joined_assoc, joined_labels, joined_values, view_append, first_op}

-- what is built, with what is left, is the whole
pub record OpsKept (old place : Place) (made left whole : OpList) : Type 0 where
  pub same : joined made left ≡ whole
  pub behind : AreBehind old place made

pub ops_begin : (place : Place) (made : List Op) (whole : OpList) → made ≡ [] → OpsKept place place (view_ops made) whole whole
ops_begin place made whole empty =
    subst (λ (xs : List Op). OpsKept place place (view_ops xs) whole whole) (sym empty)
    (record { same = refl; behind = record { scope = sym (append-nil (scope_at place)); next = omega arith } })

-- one operation more, which with those behind it is what was left
kept_step : (old place later : Place) (made one rest left whole : OpList) → left ≡ joined one rest → OpsKept old place made left whole → AreBehind place later one
    → OpsKept old later (joined made one) rest whole
kept_step old place later made one rest left whole parts kept past = record {
  same = joined_assoc made one rest ∙ ap (joined made) (sym parts) ∙ kept.same;
  behind = record {
    scope =
        past.scope
        ∙ ap (λ vs. vs ++ values_of place.next one) kept.behind.scope
        ∙ append_assoc (scope_at old) (values_of old.next made) (values_of place.next one)
        ∙ ap (λ n. scope_at old ++ (values_of old.next made ++ values_of n one)) kept.behind.next
        ∙ ap (λ vs. scope_at old ++ vs) (sym (joined_values old.next made one));
    next = let e = joined_labels made one in let f = past.next in let g = kept.behind.next in omega arith;
  };
}

pub ops_step : (origin : Origin) (old place later : Place) (left rest : Ops) (o : Operation) (made more : List Op) (it : Op) (whole : OpList)
    → OpsKept old place (view_ops made) (ops_said origin left place) whole
    → operations origin.tokens.now left ≡ with_operation origin.tokens.now o (operations origin.tokens.now rest)
    → view_ops (it ∷ []) ≡ op_said origin o place → AreBehind place later (op_said origin o place) → more ≡ made ++ it ∷ []
    → OpsKept old later (view_ops more) (ops_said origin rest later) whole
ops_step origin old place later left rest o made more it whole kept parts built behind all =
    let names = names_said origin.funcs.now in
    let ts = origin.tokens.now in
    let kind = said ts o.kind.now in
    let one = op_said origin o place in
    let here : ops_said origin left place ≡ joined one (ops_said origin rest later) =
    ap (λ b. ops_of names b (scope_at place) place.next) parts
    ∙ first_op names o.at (map packed (lines Pack (said ts o.parts.now))) kind (region kind) (region_behind kind) (operations ts rest) (scope_at place) place.next
    ∙ ap (λ s. joined one (ops_of names (operations ts rest) s (place.next + labels_of one))) (sym behind.scope)
    ∙ ap (λ n. joined one (ops_of names (operations ts rest) (scope_at later) n)) (sym behind.next) in
    let step = kept_step old place later (view_ops made) one (ops_said origin rest later) (ops_said origin left place) whole here kept behind in
    let seen : joined (view_ops made) one ≡ view_ops more = ap (joined (view_ops made)) (sym built) ∙ sym (view_append made (it ∷ [])) ∙ ap view_ops (sym all) in
    subst (λ (ops : OpList). OpsKept old later ops (ops_said origin rest later) whole) seen step

-- with nothing left
pub ops_end : (old place : Place) (made left whole : OpList) → left ≡ nil → OpsKept old place made left whole → (made ≡ whole) × AreBehind old place whole
ops_end old place made left whole ended kept =
    let same : made ≡ whole = sym (joined_nil made) ∙ ap (joined made) (sym ended) ∙ kept.same in
    (same, subst (λ (ops : OpList). AreBehind old place ops) same kept.behind)

pub ops_made : (origin : Origin) (old place : Place) (left : Ops) (made whole : OpList) → OpsKept old place made (ops_said origin left place) whole
    → operations origin.tokens.now left ≡ none → made ≡ whole
ops_made origin old place left made whole kept ended =
    (ops_end old place made (ops_said origin left place) whole (ap (λ b. ops_of (names_said origin.funcs.now) b (scope_at place) place.next) ended) kept).0

pub ops_behind : (origin : Origin) (old place : Place) (left : Ops) (made whole : OpList) → OpsKept old place made (ops_said origin left place) whole
    → operations origin.tokens.now left ≡ none → AreBehind old place whole
ops_behind origin old place left made whole kept ended =
    (ops_end old place made (ops_said origin left place) whole (ap (λ b. ops_of (names_said origin.funcs.now) b (scope_at place) place.next) ended) kept).1

-- one operation

pub one_op : (origin : Origin) (o : Operation) (place : Place) (made : Op) (packs : List Packed) (types : List IrType) (kind : OpKind)
    → view_ops (made ∷ []) ≡ next (packs_of packs) types kind nil
    → packs ≡ map packed (lines Pack (said origin.tokens.now o.parts.now))
    → types ≡ tys (op_types (head (said origin.tokens.now o.kind.now)) (said origin.tokens.now o.kind.now))
    → kind ≡ kind_said origin o.kind.now place
    → view_ops (made ∷ []) ≡ op_said origin o place
one_op origin o place made packs types kind built packs_are types_are kind_is = built ∙ (λ i. next (packs_of (packs_are i)) (types_are i) (kind_is i) nil)

pub one_behind : (origin : Origin) (o : Operation) (old mid new : Place) (packs : List Packed) (types : List IrType)
    → packs ≡ map packed (lines Pack (said origin.tokens.now o.parts.now))
    → types ≡ tys (op_types (head (said origin.tokens.now o.kind.now)) (said origin.tokens.now o.kind.now))
    → IsPast old mid (kind_said origin o.kind.now old)
    → scope_at new ≡ scope_at mid ++ result_values mid.next (packs_of packs) types
    → new.next ≡ mid.next + length types
    → AreBehind old new (op_said origin o old)
one_behind origin o old mid new packs types packs_are types_are past scope_is next_is =
    let kind = said origin.tokens.now o.kind.now in
    let results = tys (op_types (head kind) kind) in
    let named = packs_of (map packed (lines Pack (said origin.tokens.now o.parts.now))) in
    let what = kind_said origin o.kind.now old in
    let n : length types ≡ length results = ap length types_are in
    record {
      scope =
          scope_is
          ∙ ap (λ s. s ++ result_values mid.next (packs_of packs) types) past.scope
          ∙ ap (λ at. scope_at old ++ result_values at (packs_of packs) types) past.next
          ∙ ap (λ ps. scope_at old ++ result_values (old.next + inner_labels what) (packs_of ps) types) packs_are
          ∙ ap (λ ts. scope_at old ++ result_values (old.next + inner_labels what) named ts) types_are
          ∙ ap (λ vs. scope_at old ++ vs) (sym (append-nil (result_values (old.next + inner_labels what) named results)));
      next = let e = past.next in omega arith;
    }

-- what an operation does, by its word

abbrev kind_by : Terminal → Origin → List Branch → Place → OpKind
kind_by c origin kind place =
    let k = said origin.tokens.now kind in
    let names = names_said origin.funcs.now in
    kind_of names (scope_at place) place.next c k (ops_of names (region k)) (ops_of names (region_behind k))

pub kind_if : (origin : Origin) (kind : List Branch) (place : Place) (c : Terminal) → c ≡ head (said origin.tokens.now kind) → c ≡ terminals.If → if_said origin kind place ≡ kind_said origin kind place
kind_if origin kind place c is this = ap (λ w. kind_by w origin kind place) (sym this ∙ is)

pub kind_for : (origin : Origin) (kind : List Branch) (place : Place) (c : Terminal) → c ≡ head (said origin.tokens.now kind) → c ≡ terminals.For → for_said origin kind place ≡ kind_said origin kind place
kind_for origin kind place c is this = ap (λ w. kind_by w origin kind place) (sym this ∙ is)

pub kind_while : (origin : Origin) (kind : List Branch) (place : Place) (c : Terminal) → c ≡ head (said origin.tokens.now kind) → c ≡ terminals.While → while_said origin kind place ≡ kind_said origin kind place
kind_while origin kind place c is this = ap (λ w. kind_by w origin kind place) (sym this ∙ is)

simple_by : (c : Terminal) (origin : Origin) (kind : List Branch) (place : Place) → (c ≡ terminals.If → ⊥) → (c ≡ terminals.For → ⊥) → (c ≡ terminals.While → ⊥)
    → plain.Simple (simple_kind (names_said origin.funcs.now) (scope_at place) c (said origin.tokens.now kind)) ≡ kind_by c origin kind place
simple_by terminals.If origin kind place a b d = absurd (a refl)
simple_by terminals.For origin kind place a b d = absurd (b refl)
simple_by terminals.While origin kind place a b d = absurd (d refl)
simple_by _ origin kind place a b d = refl

pub kind_simple : (origin : Origin) (kind : List Branch) (place : Place) (c : Terminal) → c ≡ head (said origin.tokens.now kind)
    → (c ≡ terminals.If → ⊥) → (c ≡ terminals.For → ⊥) → (c ≡ terminals.While → ⊥)
    → plain.Simple (simple_kind (names_said origin.funcs.now) (scope_at place) (head (said origin.tokens.now kind)) (said origin.tokens.now kind)) ≡ kind_said origin kind place
kind_simple origin kind place c is a b d =
    simple_by (head (said origin.tokens.now kind)) origin kind place (λ h. a (is ∙ h)) (λ h. b (is ∙ h)) (λ h. d (is ∙ h))

pub simple_past : (origin : Origin) (kind : List Branch) (place : Place) (c : Terminal) → c ≡ head (said origin.tokens.now kind)
    → (c ≡ terminals.If → ⊥) → (c ≡ terminals.For → ⊥) → (c ≡ terminals.While → ⊥)
    → IsPast place place (kind_said origin kind place)
simple_past origin kind place c is a b d =
    let none = ap inner_labels (kind_simple origin kind place c is a b d) in
    record { scope = refl; next = omega arith }

-- the same kind, written otherwise
pub past_as : (old new : Place) (a b : OpKind) → a ≡ b → IsPast old new a → IsPast old new b
past_as old new a b same h = subst (λ (x : OpKind). IsPast old new x) same h
