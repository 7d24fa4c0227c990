-- The size of the first line of bytes.
use Rattle.std.specs.Prelude.{ℕ, ◌≡◌, ◌+◌, ◌<◌, ◌≤◌, List, ◌∷◌, length, take, drop}
use Rattle.scev_script.specs.declared.lines.LineSize.{LineSize}
use Rattle.scev_script.specs.Lines.{lines_at}

-- the first line of the bytes has that size, wherever they begin
pub record IsFirstLine (bytes : List ℕ) (size : LineSize) : Type 0 where
  pub some : 0 < size.whole
  pub text : size.text ≤ size.whole
  pub within : size.whole ≤ length bytes
  pub lines : (at : ℕ) → lines_at at bytes ≡ record { at = at; text = take size.text bytes } ∷ lines_at (at + size.whole) (drop size.whole bytes)
