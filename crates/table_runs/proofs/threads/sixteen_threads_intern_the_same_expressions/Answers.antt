use Rattle.table_runs.proofs.Authors.{is_65536}
use Rattle.table_runs.proofs.threads.sixteen_threads_intern_the_same_expressions.Goals as goal

pub intern_in_threads-requires-after_bounds : goal.intern_in_threads-requires-after_bounds
intern_in_threads-requires-after_bounds g c κs = is_65536
