use Rattle.std.proofs.Common.{◌≡◌, ◌<◌, ◌^◌, drop}
use Rattle.std.specs.List.{list_all}
use Rattle.std.specs.Str.Parse.{digits_value_after}
use Rattle.mlir_ir.specs.Names.{is_digit}
use Rattle.scev_script.proofs.numbers.number.Given as goal

-- the digits so far are n, and the rest goes on from there
abbrev pub invariant-loop-b : goal.invariant-loop-b
invariant-loop-b l = record {
  value : digits_value_after 10 l.n (drop l.b-index l.word) ≡ digits_value_after 10 0 l.word;
  digits : list_all is_digit (drop l.b-index l.word) ≡ list_all is_digit l.word;
  small : l.n < 10 ^ l.b-index;
}
