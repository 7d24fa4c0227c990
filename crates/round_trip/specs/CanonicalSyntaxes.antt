-- The canonical syntax of a module: the tokens of its canonical text, and the tree that stands above them.
use Rattle.std.specs.Prelude.{◌≡◌, List, length}
use Rattle.mlir_ir.specs.Canonical.{module_text}
use Rattle.mlir_ir.specs.Trees.{put, none}
use Rattle.mlir_ir.specs.declared.syntax.Syntax.{Syntax}
use Rattle.mlir_ir.specs.declared.types.Func.{Func}
use Rattle.round_trip.specs.CanonicalPieces.{module_piece}
use Rattle.round_trip.specs.Pieces.{placed, trees}

pub record IsCanonicalSyntax (fs : List Func) (s : Syntax) : Type 0 where
  pub tokens : s.tokens ≡ placed 0 (module_piece fs)
  pub length_is : s.length ≡ length (module_text fs)
  pub tree : put s.root none ≡ trees 0 (module_piece fs)
