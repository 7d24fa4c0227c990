use Rattle.std.proofs.Common.{arith, ◌≡◌, List, find, map, sym, ◌∙◌, Some, slice_get}
use Rattle.std.specs.List.{position_from}
use Rattle.std.specs.Option.{option_map}
use Rattle.mlir_scope.specs.InScope.{is_named}
use Rattle.mlir_scope.specs.Knowns.{known_said}
use Rattle.mlir_scope.proofs.FirstPlaces.{find_at_position, find_none, copied_at}
use Rattle.std.proofs.Common.{ap}
use Rattle.std.proofs.lemmas.Option.{slice_get-map}
use Rattle.std.specs.Option.{option_copied}
use Rattle.mlir_scope.specs.declared.scope.Known.{Known}
use Rattle.mlir_scope.proofs.table.Table.find.Goals as goal

pub returns-in-Some : goal.returns-in-Some
returns-in-Some c =
    let values = c.args.self.now.values.items in
    let test = is_named c.args.name.now c.args.place in
    let position : position_from test 0 (map known_said values) ≡ Some c.in-Some.index.now =
    sym (c.args.self.now.found c.args.name.now c.args.place) ∙ sym c.in-Some.ensures.value in
    let here : find test (map known_said values) ≡ slice_get (map known_said values) c.in-Some.index.now =
    find_at_position test 0 (map known_said values) c.in-Some.index.now c.in-Some.index.now position (omega arith) in
    let at_index : option_copied c.get-in-Some.result ≡ slice_get c.as_slice.result.now c.in-Some.index.now =
    copied_at c.as_slice.result.now c.in-Some.index.now c.get-in-Some.result c.get-in-Some.ensures.lookup.0 c.get-in-Some.ensures.lookup.1 in
    let got : c.copied.result ≡ slice_get values c.in-Some.index.now =
    c.copied.ensures ∙ at_index ∙ ap (λ (xs : List Known). slice_get xs c.in-Some.index.now) c.as_slice.ensures.value in
    ap (option_map known_said) got ∙ sym (slice_get-map known_said values c.in-Some.index.now) ∙ sym here

pub returns-in-None : goal.returns-in-None
returns-in-None c =
    sym (find_none (is_named c.args.name.now c.args.place) 0 (map known_said c.args.self.now.values.items)
    (sym (c.args.self.now.found c.args.name.now c.args.place) ∙ sym c.in-None.ensures.value))
