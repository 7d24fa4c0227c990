use Rattle.std.proofs.Common.{◌≡◌, ℕ, ◌<◌, Some, map, slice_get}
use Rattle.fresh_scev.specs.Expressions.{expression_of}
use Rattle.scev_server.specs.Equal.{Named}
use Rattle.scev_server.specs.Shown.{named_of}
use Rattle.scev_server.proofs.equal.first_equal.Given as goal

abbrev pub invariant-places : goal.invariant-places
invariant-places l = (k : ℕ) (h : Named) → k < l.place → slice_get (map named_of l.held) k ≡ Some h → h.expr ≡ expression_of l.expr → ⊥
