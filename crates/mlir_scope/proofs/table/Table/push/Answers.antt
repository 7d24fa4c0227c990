use Rattle.std.proofs.Common.{arith, ◌≡◌, ℕ, ◌∷◌, ◌++◌, ◌&&◌, ◌==◌, [], List, map, sym, ◌∙◌, ap, subst}
use Rattle.std.proofs.lemmas.List.{map-append, length-map}
use Rattle.std.specs.HashMap.{get_by}
use Rattle.std.specs.Option.{is_some}
use Rattle.std.specs.Str.{bytes_eq}
use Rattle.mlir_ir.specs.Values.{Value}
use Rattle.mlir_scope.specs.Knowns.{known_said}
use Rattle.mlir_scope.proofs.PlaceTables.{Finds, known_put, new_put, none_of, some_of, of_ok}
use Rattle.mlir_scope.proofs.table.Table.push.Goals as goal

pub invariant_of-self-then-is_some : goal.invariant_of-self-then-is_some
invariant_of-self-then-is_some c =
    let values = map known_said c.args.self.now.values.items in
    let items : map known_said c.push.new.self.items ≡ values ++ known_said c.args.value ∷ [] =
    ap (map known_said) c.in_ok-push.ensures.items ∙ map-append known_said c.args.self.now.values.items (c.args.value ∷ []) in
    let get = λ (name : List ℕ) (place : ℕ). get_by (λ key. bytes_eq name key.0.now && place == key.1) c.args.self.now.first in
    let all : Finds get (values ++ known_said c.args.value ∷ []) =
    known_put get values (known_said c.args.value) c.args.self.now.found
    (ap is_some (sym c.get.ensures.value) ∙ some_of c.get.result (sym c.is_some.ensures ∙ c.if-is_some.true)) in
    record { found = subst (λ (vs : List Value). Finds get vs) (sym items) all }

pub invariant_of-self-else-is_err : goal.invariant_of-self-else-is_err
invariant_of-self-else-is_err c =
    let values = map known_said c.args.self.now.values.items in
    let items : map known_said c.push.new.self.items ≡ values ++ known_said c.args.value ∷ [] =
    ap (map known_said) c.in_ok-push.ensures.items ∙ map-append known_said c.args.self.now.values.items (c.args.value ∷ []) in
    let get = λ (name : List ℕ) (place : ℕ). get_by (λ key. bytes_eq name key.0.now && place == key.1) c.args.self.now.first in
    let after = λ (name : List ℕ) (place : ℕ). get_by (λ key. bytes_eq name key.0.now && place == key.1) c.insert.new.self in
    let updates = of_ok c.insert.result _ (sym c.is_err.ensures.value ∙ c.if-is_err.false) c.insert.ensures.updates in
    let all : Finds after (values ++ known_said c.args.value ∷ []) =
    new_put get after values (known_said c.args.value) c.len-index.result
    (omega (arith, c.len-index.ensures, length-map c.args.self.now.values.items known_said, c.args.self.now.values.ok.0)) c.args.self.now.found
    (sym c.get.ensures.value ∙ none_of c.get.result (sym c.is_some.ensures ∙ c.if-is_some.false))
    (λ name place. updates.0 (record { ref_ptr = (0, 0); now = name }, place)) in
    record { found = subst (λ (vs : List Value). Finds after vs) (sym items) all }
