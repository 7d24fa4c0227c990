-- How expressions and trip counts print.
use Rattle.std.specs.Prelude.{ℕ, zero, suc, ◌+◌, ◌/◌, ◌%◌, ◌==◌, ◌&&◌, Bool, true, false, List, [], ◌++◌, codes, nat_lt, if◌then◌else◌}
use Rattle.std.specs.Fmt.{decimal, signed_decimal}
use Rattle.arith_word.specs.Word.{signed_reading}
use Rattle.arith_word.specs.declared.op.Pred.{Pred}
use Rattle.arith_word.specs.declared.op.Pred.TheVariants.{Slt, Ult, Sgt, Ugt}
use Rattle.scev_tree.specs.Measure.{is_zero}
use Rattle.scev_tree.specs.Polynomial.{Polynomial, Polynomials, num, ext, none, more}
use Rattle.scev_tree.specs.Tree.{polynomial_of}
use Rattle.scev_tree.specs.declared.expr.Expr.{Expr}
use Rattle.trip_count.specs.declared.answer.Turns.{Turns}
use Rattle.trip_count.specs.declared.answer.Turns.TheVariants.{Count, Never, Exactly, Guarded, Unknown}
use Rattle.trip_count.specs.declared.answer.Why.{Why}
use Rattle.trip_count.specs.declared.answer.Why.TheVariants.{NotACompare, Moving, Symbolic}
use Rattle.scev_text.specs.Naming.{Naming, symbol_text, loop_text}

-- the signed reading of a number; at one bit 0 or 1
abbrev pub number_text : ℕ → ℕ → List ℕ
number_text w v = if w == 1 then decimal v else signed_decimal (signed_reading w v)

-- a variable is the symbol of a value or the counter of a loop, by its label
abbrev pub is_symbol : ℕ → Bool
is_symbol x = x % 2 == 1

abbrev pub label_of : ℕ → ℕ
label_of x = x / 2

-- the places that aren't 0
abbrev pub terms_in : Polynomials → ℕ
terms_in none = 0
terms_in (more p ps) = (if is_zero p then 0 else 1) + terms_in ps

-- a symbol's polynomial of several terms, which stands in parentheses where it is a coefficient
abbrev pub is_sum : Polynomial → Bool
is_sum (num v) = false
is_sum (ext x places) = is_symbol x && nat_lt 1 (terms_in places)

abbrev pub is_one : Polynomial → Bool
is_one (num v) = v == 1
is_one (ext x places) = false

-- a symbol to a power, which isn't 0
abbrev pub power_text : Naming → ℕ → ℕ → List ℕ
power_text names label j = symbol_text names.values label ++ (if nat_lt 1 j then codes "^" ++ decimal j else [])

-- a coefficient by its text: a sum of several terms stands in parentheses
abbrev pub factor_text : Polynomial → List ℕ → List ℕ
factor_text p text = if is_sum p then codes "(" ++ text ++ codes ")" else text

-- a coefficient with the sign of the product, where it isn't 1
abbrev pub coefficient_text : Polynomial → List ℕ → List ℕ
coefficient_text p text = if is_one p then [] else factor_text p text ++ codes "*"

-- the place j, which isn't 0, by the text of its polynomial
abbrev pub term_text : Naming → ℕ → ℕ → Polynomial → List ℕ → List ℕ
term_text names label zero p text = text
term_text names label (suc j) p text = coefficient_text p text ++ power_text names label (suc j)

abbrev mutual
  -- a polynomial at the width w
  pub polynomial_text : Naming → ℕ → Polynomial → List ℕ
  polynomial_text names w (num v) = number_text w v
  polynomial_text names w (ext x places) =
      if is_symbol x then terms_text names w (label_of x) false 0 places
      else codes "{" ++ places_text names w places ++ codes "}<" ++ loop_text names.loops (label_of x) ++ codes ">"

  -- the places of a counter
  pub places_text : Naming → ℕ → Polynomials → List ℕ
  places_text names w none = []
  places_text names w (more p none) = polynomial_text names w p
  places_text names w (more p (more q ps)) = polynomial_text names w p ++ codes ",+," ++ places_text names w (more q ps)

  -- the places of a symbol from place j on, behind other terms or not
  pub terms_text : Naming → ℕ → ℕ → Bool → ℕ → Polynomials → List ℕ
  terms_text names w label behind j none = []
  terms_text names w label behind j (more p ps) =
      if is_zero p then terms_text names w label behind (suc j) ps
      else (if behind then codes " + " else []) ++ term_text names label j p (polynomial_text names w p) ++ terms_text names w label true (suc j) ps

abbrev pub expr_text : Naming → Expr → List ℕ
expr_text names e = polynomial_text names e.w (polynomial_of e.tree)

-- the predicates of guards
abbrev pub relation_text : Pred → List ℕ
relation_text Slt = codes "<s"
relation_text Ult = codes "<u"
relation_text Sgt = codes ">s"
relation_text Ugt = codes ">u"
relation_text _ = []

abbrev pub reason_text : Why → List ℕ
reason_text NotACompare = codes "not a compare"
reason_text Moving = codes "moving"
reason_text Symbolic = codes "symbolic"

abbrev pub turns_text : Naming → Turns → List ℕ
turns_text names (Count n) = decimal n
turns_text names Never = codes "never"
turns_text names (Exactly e) = codes "exactly " ++ expr_text names e
turns_text names (Guarded pred a c e) =
    codes "(" ++ expr_text names a ++ codes " " ++ relation_text pred ++ codes " " ++ expr_text names c ++ codes ") ? "
    ++ expr_text names e ++ codes " : 0"
turns_text names (Unknown why) = codes "unknown: " ++ reason_text why
