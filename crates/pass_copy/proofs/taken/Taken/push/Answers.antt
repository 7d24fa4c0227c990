use Rattle.std.proofs.Common.{◌≡◌, ◌∙◌, ◌++◌, ◌∷◌, [], ℕ, List, true, cond, ap, sym}
use Rattle.std.specs.Borrow.{Bor}
use Rattle.std.proofs.lemmas.List.{map-append}
use Rattle.std.specs.List.{list_any}
use Rattle.std.specs.Str.{bytes_eq}
use Rattle.pass_copy.specs.Listed.{texts}
use Rattle.pass_copy.proofs.FreshNumbers.{any_pushed, of_ok}
use Rattle.pass_copy.proofs.taken.Taken.push.Goals as goal

pub invariant_of-self-else-is_err : goal.invariant_of-self-else-is_err
invariant_of-self-else-is_err c =
    let updates = of_ok c.insert.result _ (sym c.is_err.ensures.value ∙ c.if-is_err.false) c.insert.ensures.updates in
    let pushed : texts c.push.new.self.items ≡ texts c.args.self.now.names.items ++ c.args.name.now ∷ [] =
    ap texts c.in_ok-push.ensures.items ∙ map-append (λ (name : Bor (List ℕ)). name.now) c.args.self.now.names.items (c.args.name ∷ []) in
    record {
      all = λ name.
          updates.0 (record { ref_ptr = (0, 0); now = name })
          ∙ ap (cond (bytes_eq c.args.name.now name) true) (c.args.self.now.all name)
          ∙ any_pushed name (texts c.args.self.now.names.items) c.args.name.now
          ∙ ap (list_any (λ (taken : List ℕ). bytes_eq taken name)) (sym pushed);
    }
