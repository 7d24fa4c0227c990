-- Texts with the functions that they stand for and the breaks that they have, worked out by hand: the definitions compute to these.
use Rattle.std.proofs.Common.{◌≡◌, ◌+◌, ℕ, List, [], ◌∷◌, refl}
use Rattle.std.specs.Prelude.{codes, Some, true, false}
use Rattle.mlir_ir.specs.Phrases.{Phrase, done, token, line}
use Rattle.mlir_ir.specs.Operations as plain
use Rattle.mlir_ir.specs.Resolved.{funcs_of}
use Rattle.mlir_ir.specs.ScopeFaults.{text_breaks}
use Rattle.arith_word.specs.declared.label.Label.{Label}
use Rattle.arith_word.specs.declared.op.BinOp.TheVariants.{Addi}
use Rattle.arith_word.specs.declared.op.Pred.TheVariants.{Ne}
use Rattle.mlir_ir.specs.declared.scope_kind.ScopeKind.TheVariants.{Twice, Unknown, Arity, WrongType}
use Rattle.mlir_ir.specs.declared.terminal.Terminal.TheVariants as t
use Rattle.mlir_ir.specs.declared.syntax.Form.TheVariants as f
use Rattle.mlir_ir.specs.declared.types.IrType.TheVariants.{Int}

abbrev type_at : ℕ → List ℕ → Phrase → Phrase
type_at k text rest = line f.TypeName k (token k t.TypeWord text done) rest

abbrev use_at : ℕ → List ℕ → Phrase → Phrase
use_at k name rest = line f.Use k (token k t.Value name done) rest

abbrev text : Phrase → Phrase
text funcs = line f.Whole 0 funcs done

-- a value with its type behind a terminator, from token k on
abbrev ends_at : ℕ → List ℕ → List ℕ → Phrase → Phrase
ends_at k name ty rest =
    line f.Ends k (line f.Uses k (use_at k name done) (token (k + 1) t.Colon (codes ":") (line f.Types (k + 2) (type_at (k + 2) ty done) done))) rest

-- func.func @f() -> i8 { return %b : i8 }
unknown : text_breaks []
    (text (line f.Func 0 (token 0 t.Function (codes "func.func") (token 1 t.Symbol (codes "@f") (token 2 t.LeftParen (codes "(") (token 3 t.RightParen (codes ")") (token 4 t.Arrow (codes "->")
    (line f.Results 5 (type_at 5 (codes "i8") done)
    (line f.Body 6 (token 6 t.LeftBrace (codes "{") (token 7 t.Return (codes "return") (ends_at 8 (codes "%b") (codes "i8") (token 11 t.RightBrace (codes "}") done)))) done))))))) done))
    ≡ record { at = 8; kind = Unknown } ∷ []
unknown = refl

-- func.func @f() -> i8 { return }
arity : text_breaks []
    (text (line f.Func 0 (token 0 t.Function (codes "func.func") (token 1 t.Symbol (codes "@f") (token 2 t.LeftParen (codes "(") (token 3 t.RightParen (codes ")") (token 4 t.Arrow (codes "->")
    (line f.Results 5 (type_at 5 (codes "i8") done)
    (line f.Body 6 (token 6 t.LeftBrace (codes "{") (token 7 t.Return (codes "return") (token 8 t.RightBrace (codes "}") done))) done))))))) done))
    ≡ record { at = 7; kind = Arity } ∷ []
arity = refl

-- func.func @f(%a: i8) -> i8 { return %a : i16 }
wrong_type : text_breaks []
    (text (line f.Func 0 (token 0 t.Function (codes "func.func") (token 1 t.Symbol (codes "@f") (token 2 t.LeftParen (codes "(")
    (line f.Params 3 (token 3 t.Value (codes "%a") (token 4 t.Colon (codes ":") (type_at 5 (codes "i8") done)))
    (token 6 t.RightParen (codes ")") (token 7 t.Arrow (codes "->")
    (line f.Results 8 (type_at 8 (codes "i8") done)
    (line f.Body 9 (token 9 t.LeftBrace (codes "{") (token 10 t.Return (codes "return") (ends_at 11 (codes "%a") (codes "i16") (token 14 t.RightBrace (codes "}") done)))) done)))))))) done))
    ≡ record { at = 11; kind = WrongType } ∷ record { at = 13; kind = WrongType } ∷ []
wrong_type = refl

-- func.func @f(%a: i8, %a: i8) { return }
twice : text_breaks []
    (text (line f.Func 0 (token 0 t.Function (codes "func.func") (token 1 t.Symbol (codes "@f") (token 2 t.LeftParen (codes "(")
    (line f.Params 3 (token 3 t.Value (codes "%a") (token 4 t.Colon (codes ":") (type_at 5 (codes "i8") (token 6 t.Comma (codes ",") (token 7 t.Value (codes "%a") (token 8 t.Colon (codes ":") (type_at 9 (codes "i8") done)))))))
    (token 10 t.RightParen (codes ")")
    (line f.Body 11 (token 11 t.LeftBrace (codes "{") (token 12 t.Return (codes "return") (token 13 t.RightBrace (codes "}") done))) done)))))) done))
    ≡ record { at = 7; kind = Twice } ∷ []
twice = refl

-- a use, a type and a word whose token numbers have no part in what the text stands for
abbrev use_of : List ℕ → Phrase → Phrase
use_of name rest = use_at 0 name rest

abbrev i8 : Phrase → Phrase
i8 rest = type_at 0 (codes "i8") rest

abbrev one_end : List ℕ → Phrase → Phrase
one_end name rest = ends_at 0 name (codes "i8") rest

-- %t = arith.cmpi ne, %x, %a : i8
abbrev compared : Phrase → Phrase
compared rest =
    line f.Op 0
    (line f.Pack 0 (token 0 t.Value (codes "%t") done) (token 0 t.Equals (codes "=")
    (line f.Kind 0 (token 0 t.Compare (codes "arith.cmpi") (token 0 t.Predicate (codes "ne") (token 0 t.Comma (codes ",") (use_of (codes "%x") (token 0 t.Comma (codes ",") (use_of (codes "%a") (token 0 t.Colon (codes ":") (i8 done)))))))) done)))
    rest

-- %z = arith.addi %y, %y overflow<nsw> : i8
abbrev doubled : Phrase → Phrase
doubled rest =
    line f.Op 0
    (line f.Pack 0 (token 0 t.Value (codes "%z") done) (token 0 t.Equals (codes "=")
    (line f.Kind 0 (token 0 t.FlaggedBinary (codes "arith.addi") (use_of (codes "%y") (token 0 t.Comma (codes ",") (use_of (codes "%y") (line f.Flags 0 (token 0 t.Overflow (codes "overflow") (token 0 t.Less (codes "<") (token 0 t.Nsw (codes "nsw") (token 0 t.Greater (codes ">") done)))) (token 0 t.Colon (codes ":") (i8 done))))))) done)))
    rest

-- %r = scf.while (%x = %a) : (i8) -> i8 { %t = .. scf.condition(%t) %x : i8 } do { ^bb0(%y: i8): %z = .. scf.yield %z : i8 }
abbrev loop : Phrase → Phrase
loop rest =
    line f.Op 0
    (line f.Pack 0 (token 0 t.Value (codes "%r") done) (token 0 t.Equals (codes "=")
    (line f.Kind 0
    (token 0 t.While (codes "scf.while") (token 0 t.LeftParen (codes "(")
    (line f.Inits 0 (token 0 t.Value (codes "%x") (token 0 t.Equals (codes "=") (use_of (codes "%a") done)))
    (token 0 t.RightParen (codes ")") (token 0 t.Colon (codes ":") (token 0 t.LeftParen (codes "(") (line f.Types 0 (i8 done) (token 0 t.RightParen (codes ")") (token 0 t.Arrow (codes "->")
    (line f.Results 0 (i8 done)
    (token 0 t.LeftBrace (codes "{") (compared
    (token 0 t.Condition (codes "scf.condition") (token 0 t.LeftParen (codes "(") (use_of (codes "%t") (token 0 t.RightParen (codes ")") (one_end (codes "%x") (token 0 t.RightBrace (codes "}")
    (token 0 t.Do (codes "do") (token 0 t.LeftBrace (codes "{") (token 0 t.Caret (codes "^bb0") (token 0 t.LeftParen (codes "(")
    (line f.Params 0 (token 0 t.Value (codes "%y") (token 0 t.Colon (codes ":") (i8 done)))
    (token 0 t.RightParen (codes ")") (token 0 t.Colon (codes ":") (doubled
    (token 0 t.Yield (codes "scf.yield") (one_end (codes "%z") (token 0 t.RightBrace (codes "}") done)))))))))))))))))))))))))))))
    done)))
    rest

abbrev label : ℕ → Label
label n = record { 0 = n }

-- func.func @g(%a: i8) -> i8 { .. return %r : i8 }
abbrev looped : Phrase
looped =
    text
    (line f.Func 0
    (token 0 t.Function (codes "func.func") (token 0 t.Symbol (codes "@g") (token 0 t.LeftParen (codes "(")
    (line f.Params 0 (token 0 t.Value (codes "%a") (token 0 t.Colon (codes ":") (i8 done)))
    (token 0 t.RightParen (codes ")") (token 0 t.Arrow (codes "->")
    (line f.Results 0 (i8 done)
    (line f.Body 0 (token 0 t.LeftBrace (codes "{") (loop (token 0 t.Return (codes "return") (one_end (codes "%r") (token 0 t.RightBrace (codes "}") done))))) done))))))))
    done)

looped_has : text_breaks [] looped ≡ []
looped_has = refl

-- the counter has the label 16384, then come %x, %t, %y, %z and %r
looped_is : funcs_of looped
    ≡ record {
      index = 0;
      name = codes "g";
      private = false;
      args = record { name = codes "a"; ty = Int 8 } ∷ [];
      results = Int 8 ∷ [];
      body = Some (record {
        items =
            plain.next (record { name = codes "r"; count = 1 } ∷ []) (Int 8 ∷ [])
            (plain.While (record { name = codes "x"; ty = Int 8 } ∷ []) (label 0 ∷ [])
            (plain.next (record { name = codes "t"; count = 1 } ∷ []) (Int 1 ∷ []) (plain.Simple (plain.Cmp Ne (label 16385) (label 0))) plain.nil)
            (label 16385 ∷ []) (label 16386) (record { name = codes "y"; ty = Int 8 } ∷ [])
            (plain.next (record { name = codes "z"; count = 1 } ∷ []) (Int 8 ∷ []) (plain.Simple (plain.Bin Addi (record { nsw = true; nuw = false }) (label 16387) (label 16387))) plain.nil)
            (label 16388 ∷ []))
            plain.nil
            ∷ [];
        ret = label 16389 ∷ [];
      });
    }
    ∷ []
looped_is = refl
