-- Records of the log: who did which pass to which loop of which version, and their words.
use Rattle.std.specs.Prelude.{ℕ, ◌≡◌, ◌<◌, ◌≤◌, ◌^◌}
use Rattle.step_core.specs.Words.{kind_of, factor_of, target_of, parent_of, author_of, IsLogWord}
use Rattle.pass_chain.specs.declared.pass_kind.PassKind.{PassKind}
use Rattle.pass_chain.specs.declared.pass_kind.PassKind.TheVariants.{Unroll, UnrollFull, Peel, ExitValues, Reduce}
use Rattle.pass_chain.specs.declared.record.Rec.{Rec}

abbrev pub kind_number : PassKind → ℕ
kind_number Unroll = 0
kind_number UnrollFull = 1
kind_number Peel = 2
kind_number ExitValues = 3
kind_number Reduce = 4

-- the greatest factor less 1
abbrev pub param_limit : ℕ
param_limit = 31

-- unrolling has its factor less 1, the other passes have 0
abbrev pub HasParam : PassKind → ℕ → Type 0
HasParam Unroll param = (1 ≤ param) × (param ≤ param_limit)
HasParam _ param = param ≡ 0

-- a record that has a word
pub record IsRecord (r : Rec) : Type 0 where
  pub author : r.author < 2 ^ 4
  pub parent : r.parent < 2 ^ 12
  pub param : HasParam r.kind r.param

-- the word of a record
pub record IsWordOf (r : Rec) (w : ℕ) : Type 0 where
  pub is : IsLogWord w
  pub kind : kind_of w ≡ kind_number r.kind
  pub param : factor_of w ≡ r.param
  pub target : target_of w ≡ r.target.0
  pub parent : parent_of w ≡ r.parent
  pub author : author_of w ≡ r.author
