-- A run over all tokens gives their tree or their syntax error.
use Rattle.std.proofs.Common.{◌≡◌, ℕ, ◌<◌, ◌≤◌, List, [], length, drop, sym, subst, arith, Ok, Err}
use Rattle.mlir_ir.specs.Grammar.{Pattern, body}
use Rattle.mlir_ir.specs.Texts.{IsSyntaxFault}
use Rattle.mlir_ir.specs.Trees.{Forest, none, node, put, forest, Derives, IsTreeOf, derive_line}
use Rattle.mlir_ir.specs.declared.terminal.Terminal.{Terminal}
use Rattle.mlir_ir.specs.declared.syntax.Form.TheVariants.{Whole}
use Rattle.mlir_ir.specs.declared.syntax.Branch.{Branch}
use Rattle.mlir_parse.specs.Runs.{Runs, Done, Stop, Deep}
use Rattle.mlir_parse.specs.Seen.{Gives, Grows, IsFault}
use Rattle.mlir_parse.specs.declared.fault.Fault.{Fault}
use Rattle.mlir_parse.specs.declared.fault.Fault.TheVariants.{NoMemory, Syntax, TooDeep}
use Rattle.mlir_parse.proofs.Wholes.{stopped, not_all, too_deep}

pub fault_is : (ts : List Terminal) (r : Pattern) (e : Fault) → r ≡ body Whole → Gives 0 r ts 0 (Err e) → IsFault ts e
fault_is ts r (Syntax k) is gives = stopped ts k gives.0 (subst (λ z. Runs 0 z ts (Stop (drop k ts))) is gives.1)
fault_is ts r (TooDeep k) is gives = too_deep ts k gives.0 (subst (λ z. Runs 0 z ts (Deep (drop k ts))) is gives.1)
fault_is ts r NoMemory is gives = tt

pub early_end : (ts : List Terminal) (r : Pattern) (next : ℕ) → r ≡ body Whole → Gives 0 r ts 0 (Ok next) → next < length ts → IsSyntaxFault ts next
early_end ts r next is gives less = not_all ts next less (subst (λ z. Runs 0 z ts (Done (drop next ts))) is gives.2)

pub whole_tree : (ts : List Terminal) (r : Pattern) (next : ℕ) (parts : List Branch) (root : Branch)
    → r ≡ body Whole → Gives 0 r ts 0 (Ok next) → length ts ≤ next → Grows ts 0 r 0 [] parts next
    → ((rest : Forest) → put root rest ≡ node Whole 0 (forest parts) rest) → IsTreeOf ts (put root none)
whole_tree ts r next parts root is gives far grows shown =
    let last : next ≡ length ts = omega (arith, gives.1, far) in
    let body_of : Derives ts 0 (body Whole) 0 (forest grows.row) (length ts) =
    subst (λ z. Derives ts 0 (body Whole) 0 (forest grows.row) z) last (subst (λ z. Derives ts 0 z 0 (forest grows.row) next) is grows.derived) in
    let inside = subst (λ z. Derives ts 0 (body Whole) 0 (forest z) (length ts)) (sym grows.grown) body_of in
    subst (λ z. IsTreeOf ts z) (sym (shown none)) (derive_line inside)
