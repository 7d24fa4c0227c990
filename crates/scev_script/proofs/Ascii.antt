-- Names are ASCII, so they are texts.
use Rattle.std.proofs.Common.{◌≡◌, ℕ, true, List, take, arith, IsUtf8}
use Rattle.std.specs.List.{list_all}
use Rattle.std.proofs.lemmas.Bool.Decides.{nat_tests}
use Rattle.mlir_ir.specs.Names.{is_name}
use Rattle.mlir_ir.proofs.AsciiNames.{is_low, all_low, name_all_low, front_utf8}
use Rattle.scev_script.specs.Names.{is_session_byte}

session_low : (b : ℕ) → is_session_byte b ≡ true → is_low b ≡ true
session_low b is = grind (arith, nat_tests)

-- the name of a function or a value
pub name_utf8 : (bs : List ℕ) (len : ℕ) → is_name bs ≡ true → IsUtf8 (take len bs)
name_utf8 bs len is = front_utf8 bs len (name_all_low bs is)

-- the name of a session
pub session_utf8 : (bs : List ℕ) (len : ℕ) → list_all is_session_byte bs ≡ true → IsUtf8 (take len bs)
session_utf8 bs len is = front_utf8 bs len (all_low is_session_byte session_low bs is)
