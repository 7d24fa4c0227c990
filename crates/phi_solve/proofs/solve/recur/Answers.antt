use Rattle.std.proofs.Common.{arith, refl, ap, ◌∙◌, ◌^◌, inl, inr}
use Rattle.std.proofs.lemmas.Nat.{pow_below}
use Rattle.scev_tree.specs.Tree.{polynomial_of}
use Rattle.scev_tree.specs.Polynomial.{variable_of}
use Rattle.scev_tree.proofs.ListedTrees.{polynomial_of_num, polynomial_of_ext}
use Rattle.scev_tree.proofs.TreePlaces.{ext_is}
use Rattle.scev_tree.proofs.GrowingLists.{from_true, from_false}
use Rattle.phi_solve.proofs.StepTrees.{not_num, not_var, not_one, not_low, not_count, canon_first, step_found}
use Rattle.phi_solve.proofs.solve.recur.Goals as goal
use Rattle.phi_solve.proofs.solve.recur.Goals.{in_default-via-then-as_slice-lt2, in_default-via-else-as_slice-lt2+else-this-lt3}

pub returns-in-Num : goal.returns-in-Num
returns-in-Num c = not_num (2 ^ c.args.yielded.now.w) _ _ c.in-Num.field-0 _ (pow_below 0 c.args.yielded.now.w c.bits.ensures.at_least) c.requires.order c.args.yielded.now.canonical (ap polynomial_of c.in-Num.is ∙ polynomial_of_num _)

pub returns-then-rank : goal.returns-then-rank
returns-then-rank c = not_var (2 ^ c.args.yielded.now.w) _ _ (variable_of c.in-Ext.is' c.in-Ext.var.0) _ _ (pow_below 0 c.args.yielded.now.w c.bits.ensures.at_least) c.requires.order c.args.yielded.now.canonical (ap polynomial_of c.in-Ext.is ∙ polynomial_of_ext _ _ _) (λ e. omega arith)

pub returns-then-not-is_one : goal.returns-then-not-is_one
returns-then-not-is_one c = not_one (2 ^ c.args.yielded.now.w) _ _ _ _ c.as_slice.result.now c.p-item.result c.one-item.result (pow_below 0 c.args.yielded.now.w c.bits.ensures.at_least) c.requires.order c.args.yielded.now.canonical (ext_is c.args.yielded.now.tree c.in-Ext.is' c.in-Ext.var c.in-Ext.ops _ c.in-Ext.is c.as_slice.ensures) c.in-len2.len_at_least c.in-len2.len_below c.p-item.is c.one-item.is (from_false _ _ c.is_one.ensures c.if-not-is_one.true)

pub returns-then-not-is_low : goal.returns-then-not-is_low
returns-then-not-is_low c = not_low (2 ^ c.args.yielded.now.w) _ _ _ _ c.as_slice.result.now c.p-item.result c.one-item.result (pow_below 0 c.args.yielded.now.w c.bits.ensures.at_least) c.requires.order c.args.yielded.now.canonical (ext_is c.args.yielded.now.tree c.in-Ext.is' c.in-Ext.var c.in-Ext.ops _ c.in-Ext.is c.as_slice.ensures) c.in-len2.len_at_least c.in-len2.len_below c.p-item.is c.one-item.is (from_false _ _ c.is_low.ensures c.if-not-is_low.true)

pub sum_over_turns-requires-clause-right : goal.sum_over_turns-requires-clause-right
sum_over_turns-requires-clause-right c = canon_first _ _ _ c.as_slice.result.now c.p-item.result c.one-item.result c.args.yielded.now.canonical (ext_is c.args.yielded.now.tree c.in-Ext.is' c.in-Ext.var c.in-Ext.ops _ c.in-Ext.is c.as_slice.ensures) c.in-len2.len_at_least c.in-len2.len_below c.p-item.is c.one-item.is

pub returns-in_ok-tree-in-len2 : goal.returns-in_ok-tree-in-len2
returns-in_ok-tree-in-len2 c = let s = step_found (2 ^ c.args.yielded.now.w) _ _ _ _ _ _ c.as_slice.result.now c.p-item.result c.one-item.result (pow_below 0 c.args.yielded.now.w c.bits.ensures.at_least) c.requires.order (omega arith) c.args.yielded.now.canonical (ext_is c.args.yielded.now.tree c.in-Ext.is' c.in-Ext.var c.in-Ext.ops _ c.in-Ext.is c.as_slice.ensures) c.in-len2.len_at_least c.in-len2.len_below c.p-item.is c.one-item.is (from_true _ _ c.is_one.ensures c.if-not-is_one.false) (from_true _ _ c.is_low.ensures c.if-not-is_low.false) c.in_ok-tree-in-len2.ensures in (refl, s.0, s.1, s.2)

pub returns-in_default : goal.returns-in_default
returns-in_default c = not_count (2 ^ c.args.yielded.now.w) _ _ _ _ c.as_slice.result.now (pow_below 0 c.args.yielded.now.w c.bits.ensures.at_least) c.requires.order c.args.yielded.now.canonical (ext_is c.args.yielded.now.tree c.in-Ext.is' c.in-Ext.var c.in-Ext.ops _ c.in-Ext.is c.as_slice.ensures) (elim c.in_default.branch [ in_default-via-then-as_slice-lt2 w ↦ inl (grind arith) | in_default-via-else-as_slice-lt2+else-this-lt3 w ↦ inr (grind arith) ])
