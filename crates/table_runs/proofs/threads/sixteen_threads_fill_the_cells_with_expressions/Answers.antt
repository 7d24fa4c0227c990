use Rattle.table_runs.proofs.Authors.{is_64}
use Rattle.table_runs.proofs.threads.sixteen_threads_fill_the_cells_with_expressions.Goals as goal

pub intern_in_threads-requires-after_bounds : goal.intern_in_threads-requires-after_bounds
intern_in_threads-requires-after_bounds g c κs = is_64
