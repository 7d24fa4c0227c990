use Rattle.std.proofs.Common.{arith, ◌≡◌, ℕ, ◌∷◌, ◌++◌, ◌&&◌, ◌==◌, [], List, map, sym, ◌∙◌, ap, subst}
use Rattle.std.proofs.lemmas.List.{map-append, length-map}
use Rattle.std.specs.HashMap.{get_by}
use Rattle.std.specs.Str.{bytes_eq}
use Rattle.mlir_ir.specs.Values.{Value}
use Rattle.mlir_scope.specs.Knowns.{known_said}
use Rattle.mlir_scope.proofs.PlaceTables.{Finds, own_taken, other_taken, the_same, not_the_same}
use Rattle.mlir_scope.proofs.table.Table.pop.Goals as goal

pub invariant_of-self : goal.invariant_of-self
invariant_of-self c =
    let rest = map known_said c.pop.new.self.items in
    let v = known_said c.in-Some.value in
    let items : map known_said c.args.self.now.values.items ≡ rest ++ v ∷ [] =
    ap (map known_said) c.in-Some.ensures.items ∙ map-append known_said c.pop.new.self.items (c.in-Some.value ∷ []) in
    let get = λ (name : List ℕ) (place : ℕ). get_by (λ key. bytes_eq name key.0.now && place == key.1) c.args.self.now.first in
    let after = λ (name : List ℕ) (place : ℕ). get_by (λ key. bytes_eq name key.0.now && place == key.1) c.remove.new.self in
    let finds : Finds get (rest ++ v ∷ []) = subst (λ (vs : List Value). Finds get vs) items c.args.self.now.found in
    record {
      found =
          own_taken get after rest v c.len.result (omega (arith, c.len.ensures, length-map c.pop.new.self.items known_said, c.pop.new.self.ok.0)) finds
          (sym c.get.ensures.value ∙ sym c.copied.ensures ∙ the_same c.copied.result c.len.result (sym c.eq.ensures ∙ c.if-eq.true))
          (λ name place. c.remove.ensures.updates.0 (record { ref_ptr = (0, 0); now = name }, place));
    }

pub invariant_of-self-else-eq : goal.invariant_of-self-else-eq
invariant_of-self-else-eq c =
    let rest = map known_said c.pop.new.self.items in
    let v = known_said c.in-Some.value in
    let items : map known_said c.args.self.now.values.items ≡ rest ++ v ∷ [] =
    ap (map known_said) c.in-Some.ensures.items ∙ map-append known_said c.pop.new.self.items (c.in-Some.value ∷ []) in
    let get = λ (name : List ℕ) (place : ℕ). get_by (λ key. bytes_eq name key.0.now && place == key.1) c.args.self.now.first in
    let finds : Finds get (rest ++ v ∷ []) = subst (λ (vs : List Value). Finds get vs) items c.args.self.now.found in
    record {
      found =
          other_taken get rest v c.len.result (omega (arith, c.len.ensures, length-map c.pop.new.self.items known_said, c.pop.new.self.ok.0)) finds
          (λ e. not_the_same c.copied.result c.len.result (sym c.eq.ensures ∙ c.if-eq.false) (c.copied.ensures ∙ c.get.ensures.value ∙ e));
    }
