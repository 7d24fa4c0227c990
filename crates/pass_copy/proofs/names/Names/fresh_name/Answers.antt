use Rattle.std.proofs.Common.{◌∙◌, ◌+◌, ℕ, ap, sym, length, add-one, arith}
use Rattle.pass_copy.specs.Fresh.{first_free}
use Rattle.pass_copy.specs.Listed.{texts}
use Rattle.pass_copy.proofs.FreshNumbers.{start_fits, first_low, free_first}
use Rattle.pass_copy.proofs.names.Names.fresh_name.Goals as goal

pub free_from-requires : goal.free_from-requires
free_from-requires c =
    let e = c.args.self.now.at c.requires in
    let f = start_fits (texts c.args.self.now.taken.names.items) c.args.self.now.given c.args.self.now.few (omega arith) in
    omega arith

pub overflow_add-self : goal.overflow_add-self
overflow_add-self c =
    let names = texts c.args.self.now.taken.names.items in
    let e = c.args.self.now.at c.requires in
    let f = start_fits names c.args.self.now.given c.args.self.now.few (omega arith) in
    let g = first_low names (length names) c.args.self.now.next in
    let h = c.in_ok-n.ensures in
    omega arith

pub invariant_of-self : goal.invariant_of-self
invariant_of-self c =
    let names = texts c.args.self.now.taken.names.items in
    record {
      few = c.args.self.now.few;
      at = λ kept.
          rw (add-one c.args.self.now.given)
          (ap (λ (n : ℕ). n + 1) (c.in_ok-n.ensures ∙ ap (first_free names (length names)) (c.args.self.now.at kept) ∙ sym (free_first names c.args.self.now.given)));
    }
