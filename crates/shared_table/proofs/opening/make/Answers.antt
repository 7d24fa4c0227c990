use Rattle.std.proofs.Common.{rules, ℕ, None, sym, subst, refl, ◌∙◌}
use Rattle.atomic_table.specs.Table.{Me}
use Rattle.shared_table.specs.declared.sizes.SizedView.{SizedView}
use Rattle.shared_table.specs.Known.{IsInside}
use Rattle.shared_table.specs.Rule.{first}
use Rattle.shared_table.proofs.Inside.{first_inside}
use Rattle.shared_table.proofs.Ends.{begins, first_seen}
use Rattle.shared_table.proofs.opening.make.Goals as goal

pub of_words-requires : goal.of_words-requires
of_words-requires g c = begins g.M.MemoMeaning.meaning (record { base = c.in_ok-to_vec.field-0; authors = c.args.authors; sizes = c.args.sizes }) _ _ refl (c.as_slice.ensures.value ∙ c.in_ok-words.ensures.items_if_clones_equal (λ y e. search rules)) c.requires.authors c.requires.sizes.0 c.requires.sizes.1

pub invariant_of-result : goal.invariant_of-result
invariant_of-result g c =
    let held = begins g.M.MemoMeaning.meaning (record { base = c.in_ok-to_vec.field-0; authors = c.args.authors; sizes = c.args.sizes }) _ _ refl (c.as_slice.ensures.value ∙ c.in_ok-words.ensures.items_if_clones_equal (λ y e. search rules)) c.requires.authors c.requires.sizes.0 c.requires.sizes.1 in
    let seen = first_seen g.M.MemoMeaning.meaning (record { base = c.in_ok-to_vec.field-0; authors = c.args.authors; sizes = c.args.sizes }) _ held in
    subst (λ (me : Me ℕ SizedView). IsInside me 0 None) (sym c.in_ok-table.ensures.4) (first_inside (first (record { base = c.in_ok-to_vec.field-0; authors = c.args.authors; sizes = c.args.sizes })) seen refl)
