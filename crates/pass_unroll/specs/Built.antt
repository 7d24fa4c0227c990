-- Operations that are built one behind another, from a loop that a program reads.
use Rattle.std.specs.Prelude.{ℕ, ◌≡◌, ◌+◌, List}
use Rattle.mlir_ir.specs.declared.types.ForParts.{out-ForParts}
use Rattle.mlir_ir.specs.Operations.{OpKind, labels_of, inner_labels, joined}
use Rattle.mlir_ir.specs.View.{view_ops, rows_of, ends_of}
use Rattle.pass_copy.specs.Copied.{HaveGiven}
use Rattle.pass_copy.specs.Renamed.{keep, rename_ops}
use Rattle.pass_copy.specs.Renaming.{renamed}
use Rattle.pass_copy.specs.declared.renaming.Span.{Span}
use Rattle.pass_unroll.specs.Copies.{ForLoop}
use Rattle.pass_copy.specs.declared.building.Out.{Out}
use Rattle.pass_unroll.specs.declared.source.Source.{Source}

abbrev pub loop_of : Source → ForLoop
loop_of source =
    let parts = out-ForParts source.parts.now in
    record {
      packs = source.op.now.packs;
      results = source.op.now.results;
      lower = parts.lower;
      upper = parts.upper;
      step = parts.step;
      iv = parts.iv;
      args = parts.args;
      inits = parts.inits;
      body = rows_of parts.body;
      ends = ends_of parts.body;
    }

-- the body of a loop more was built, under these labels and with its names
pub record IsFirst (old : Out) (o : ForLoop) (spans : List Span) (new : Out) : Type 0 where
  pub ops : view_ops new.ops.items ≡ joined (view_ops old.ops.items) (rename_ops (renamed spans) keep 0 o.body)
  pub at : new.at ≡ old.at + labels_of o.body
  pub names : HaveGiven old.fresh 0 new.fresh

-- what a loop does was built, for which so many names were given
pub record IsPastLoop (old : Out) (kind : OpKind) (names : ℕ) (new : Out) : Type 0 where
  pub ops : new.ops ≡ old.ops
  pub at : new.at ≡ old.at + inner_labels kind
  pub given : HaveGiven old.fresh names new.fresh
