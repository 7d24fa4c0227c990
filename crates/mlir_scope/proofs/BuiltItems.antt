-- Items that are built one after another are those that the syntax stands for.
use Rattle.std.proofs.Common.{◌≡◌, ℕ, ◌+◌, List, [], ◌∷◌, ◌++◌, map, length, refl, ap, ◌∙◌, sym, subst, arith, append_assoc, append-nil}
use Rattle.arith_word.specs.Labels.{label_at}
use Rattle.mlir_ir.specs.Operations.{OpList}
use Rattle.mlir_ir.specs.Phrases.{lines}
use Rattle.mlir_ir.specs.Resolved.{items_of, values_of, values_of_items}
use Rattle.mlir_ir.specs.Source.{none, packed, region, region_behind}
use Rattle.mlir_ir.specs.Values.{Value}
use Rattle.mlir_ir.specs.View.{view_ops, view_items}
use Rattle.mlir_ir.specs.declared.syntax.Form.TheVariants.{Pack}
use Rattle.mlir_ir.specs.declared.types.Item.{Item}
use Rattle.mlir_scope.specs.Blocks.{operations, with_operation}
use Rattle.mlir_scope.specs.Built.{names_said, scope_at}
use Rattle.mlir_scope.specs.BuiltFunctions.{item_said, items_said}
use Rattle.mlir_scope.specs.declared.blocks.Operation.{Operation}
use Rattle.mlir_scope.specs.declared.blocks.Ops.{Ops}
use Rattle.mlir_scope.specs.declared.place.Place.{Place}
use Rattle.mlir_scope.specs.declared.simple_kinds.Origin.{Origin}

-- the items that are left, from that number on
abbrev pub left_items : Origin → ℕ → ℕ → Ops → Place → List OpList
left_items origin func number ops place = items_of (names_said origin.funcs.now) func number (operations origin.tokens.now ops) (scope_at place)

-- what is built, with what is left, is the whole
pub record ItemsKept (func : ℕ) (old place : List Value) (made left whole : List OpList) : Type 0 where
  pub same : (made ++ left) ≡ whole
  pub scope : place ≡ old ++ values_of_items func 1 made

pub items_begin : (func : ℕ) (old : List Value) (made : List Item) (whole : List OpList) → made ≡ [] → ItemsKept func old old (view_items made) whole whole
items_begin func old made whole empty =
    subst (λ (xs : List Item). ItemsKept func old old (view_items xs) whole whole) (sym empty) (record { same = refl; scope = sym (append-nil old) })

view_more : (made : List Item) (item : Item) → view_items (made ++ item ∷ []) ≡ view_items made ++ view_ops item.ops ∷ []
view_more [] item = refl
view_more (i ∷ made) item = ap (λ items. view_ops i.ops ∷ items) (view_more made item)

view_length : (made : List Item) → length (view_items made) ≡ length made
view_length [] = refl
view_length (i ∷ made) = let e = view_length made in omega arith

values_more : (func k : ℕ) (made : List OpList) (item : OpList) → values_of_items func k (made ++ item ∷ []) ≡ values_of_items func k made ++ values_of (label_at func (k + length made) 0) item
values_more func k [] item = let e : k + 0 ≡ k = omega arith in rw e (append-nil (values_of (label_at func k 0) item))
values_more func k (m ∷ made) item =
    let e : k + 1 + length made ≡ k + length (m ∷ made) = omega arith in
    ap (λ vs. values_of (label_at func k 0) m ++ vs) (values_more func (k + 1) made item ∙ ap (λ n. values_of_items func (k + 1) made ++ values_of (label_at func n 0) item) e)
    ∙ sym (append_assoc (values_of (label_at func k 0) m) (values_of_items func (k + 1) made) (values_of (label_at func (k + length (m ∷ made)) 0) item))

pub items_step : (origin : Origin) (func number next : ℕ) (old : List Value) (place later : Place) (left rest : Ops) (o : Operation) (made more : List Item) (item : Item) (whole : List OpList)
    → ItemsKept func old (scope_at place) (view_items made) (left_items origin func number left place) whole
    → operations origin.tokens.now left ≡ with_operation origin.tokens.now o (operations origin.tokens.now rest)
    → view_ops item.ops ≡ item_said origin func number o place
    → scope_at later ≡ scope_at place ++ values_of (label_at func number 0) (item_said origin func number o place)
    → more ≡ made ++ item ∷ [] → number ≡ length made + 1 → next ≡ length more + 1
    → ItemsKept func old (scope_at later) (view_items more) (left_items origin func next rest later) whole
items_step origin func number next old place later left rest o made more item whole kept parts built scope all here there =
    let names = names_said origin.funcs.now in
    let one = item_said origin func number o place in
    let seen : view_items more ≡ view_items made ++ one ∷ [] = ap view_items all ∙ view_more made item ∙ ap (λ ops. view_items made ++ ops ∷ []) built in
    let first : left_items origin func number left place ≡ one ∷ left_items origin func (number + 1) rest later =
    ap (λ b. items_of names func number b (scope_at place)) parts
    ∙ ap (λ s. one ∷ items_of names func (number + 1) (operations origin.tokens.now rest) s) (sym scope) in
    let count : length more ≡ length made + 1 = ap length all ∙ grown made item in
    let n : number + 1 ≡ next = omega arith in
    let m : 1 + length (view_items made) ≡ number = omega (arith, view_length made) in
    record {
      same =
          ap (λ items. items ++ left_items origin func next rest later) seen
          ∙ append_assoc (view_items made) (one ∷ []) (left_items origin func next rest later)
          ∙ ap (λ k. view_items made ++ one ∷ left_items origin func k rest later) (sym n)
          ∙ ap (λ items. view_items made ++ items) (sym first)
          ∙ kept.same;
      scope =
          scope
          ∙ ap (λ s. s ++ values_of (label_at func number 0) one) kept.scope
          ∙ append_assoc old (values_of_items func 1 (view_items made)) (values_of (label_at func number 0) one)
          ∙ ap (λ k. old ++ (values_of_items func 1 (view_items made) ++ values_of (label_at func k 0) one)) (sym m)
          ∙ ap (λ vs. old ++ vs) (sym (values_more func 1 (view_items made) one))
          ∙ ap (λ items. old ++ values_of_items func 1 items) (sym seen);
    }
  where
    grown : (made : List Item) (item : Item) → length (made ++ item ∷ []) ≡ length made + 1
    grown [] item = refl
    grown (i ∷ made) item = let e = grown made item in omega arith

-- with nothing left
pub items_end : (func : ℕ) (old place : List Value) (made left whole : List OpList) → left ≡ [] → ItemsKept func old place made left whole
    → (made ≡ whole) × (place ≡ old ++ values_of_items func 1 whole)
items_end func old place made left whole ended kept =
    let same : made ≡ whole = sym (append-nil made) ∙ ap (λ items. made ++ items) (sym ended) ∙ kept.same in
    (same, kept.scope ∙ ap (λ items. old ++ values_of_items func 1 items) same)

pub items_made : (origin : Origin) (func number : ℕ) (old : List Value) (place : Place) (left : Ops) (made whole : List OpList)
    → ItemsKept func old (scope_at place) made (left_items origin func number left place) whole → operations origin.tokens.now left ≡ none → made ≡ whole
items_made origin func number old place left made whole kept ended =
    (items_end func old (scope_at place) made (left_items origin func number left place) whole (ap (λ b. items_of (names_said origin.funcs.now) func number b (scope_at place)) ended) kept).0

pub items_behind : (origin : Origin) (func number : ℕ) (old : List Value) (place : Place) (left : Ops) (made whole : List OpList)
    → ItemsKept func old (scope_at place) made (left_items origin func number left place) whole → operations origin.tokens.now left ≡ none → scope_at place ≡ old ++ values_of_items func 1 whole
items_behind origin func number old place left made whole kept ended =
    (items_end func old (scope_at place) made (left_items origin func number left place) whole (ap (λ b. items_of (names_said origin.funcs.now) func number b (scope_at place)) ended) kept).1
