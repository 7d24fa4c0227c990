-- Bytes read as at most one list of functions, or have one scope fault.
use Rattle.std.proofs.Common.{◌≡◌, ℕ, ◌==◌, ◌&&◌, ◌||◌, nat_lt, nat_le, true, List, [], Contains, map, refl, ap, ◌∙◌, sym, subst, arith}
use Rattle.std.proofs.lemmas.Bool.Decides.{nat_tests}
use Rattle.std.proofs.lemmas.List.Elements.{All-contains}
use Rattle.mlir_ir.specs.Phrases.{phrase_of}
use Rattle.mlir_ir.specs.Reads.{IsScopeFault, Reads, phrase_in, plain_func}
use Rattle.mlir_ir.specs.Resolved.{funcs_of}
use Rattle.mlir_ir.specs.ScopeFaults.{Break, IsFirstBreak, counts_before, rank, text_breaks}
use Rattle.mlir_ir.specs.Syntaxes.{IsSyntaxOf}
use Rattle.mlir_ir.specs.Trees.{none, put}
use Rattle.mlir_ir.specs.declared.module.Module.{Module}
use Rattle.mlir_ir.specs.declared.scope_kind.ScopeKind.{ScopeKind}
use Rattle.mlir_ir.specs.declared.scope_kind.ScopeKind.TheVariants.{Limit, Twice, Unknown, Arity, WrongType}
use Rattle.mlir_ir.specs.declared.syntax.Syntax.{Syntax}
use Rattle.mlir_parse.proofs.OneAnswer.{one_syntax}

-- syntaxes of the same bytes say the same
same_phrase : (bytes : List ℕ) (s t : Syntax) → IsSyntaxOf bytes s → IsSyntaxOf bytes t → phrase_in s ≡ phrase_in t
same_phrase bytes s t a b =
    let one = one_syntax bytes s t a b in
    ap (λ ts. phrase_of ts (put s.root none)) one.0 ∙ ap (phrase_of t.tokens) one.2

same_breaks : (bytes : List ℕ) (s t : Syntax) → IsSyntaxOf bytes s → IsSyntaxOf bytes t → text_breaks s.tokens (phrase_in s) ≡ text_breaks t.tokens (phrase_in t)
same_breaks bytes s t a b =
    ap (λ ts. text_breaks ts (phrase_in s)) (one_syntax bytes s t a b).0 ∙ ap (text_breaks t.tokens) (same_phrase bytes s t a b)

pub one_list : (bytes : List ℕ) (m n : Module) → Reads bytes m → Reads bytes n → map plain_func m.funcs ≡ map plain_func n.funcs
one_list bytes m n a b =
    a.resolved.funcs ∙ ap funcs_of (same_phrase bytes a.syntax b.syntax a.parsed b.parsed) ∙ sym b.resolved.funcs

-- kinds are ranked apart
rank_apart : (k l : ScopeKind) → rank k ≡ rank l → k ≡ l
rank_apart Limit Limit e = refl
rank_apart Limit Twice e = cc
rank_apart Limit Unknown e = cc
rank_apart Limit Arity e = cc
rank_apart Limit WrongType e = cc
rank_apart Twice Limit e = cc
rank_apart Twice Twice e = refl
rank_apart Twice Unknown e = cc
rank_apart Twice Arity e = cc
rank_apart Twice WrongType e = cc
rank_apart Unknown Limit e = cc
rank_apart Unknown Twice e = cc
rank_apart Unknown Unknown e = refl
rank_apart Unknown Arity e = cc
rank_apart Unknown WrongType e = cc
rank_apart Arity Limit e = cc
rank_apart Arity Twice e = cc
rank_apart Arity Unknown e = cc
rank_apart Arity Arity e = refl
rank_apart Arity WrongType e = cc
rank_apart WrongType Limit e = cc
rank_apart WrongType Twice e = cc
rank_apart WrongType Unknown e = cc
rank_apart WrongType Arity e = cc
rank_apart WrongType WrongType e = refl

-- of two numbers that both count before one another each is the other
both_before : (i j k l : ℕ) → (nat_lt i j || i == j && nat_le k l) ≡ true → (nat_lt j i || j == i && nat_le l k) ≡ true → (i ≡ j) × (k ≡ l)
both_before i j k l a b = (grind (arith, nat_tests), grind (arith, nat_tests))

one_first : (breaks : List Break) (a b : Break) → IsFirstBreak breaks a → IsFirstBreak breaks b → (a.at ≡ b.at) × (a.kind ≡ b.kind)
one_first breaks a b first second =
    let before = All-contains (λ other. counts_before a other ≡ true) breaks b first.first second.among in
    let after = All-contains (λ other. counts_before b other ≡ true) breaks a second.first first.among in
    let same = both_before a.at b.at (rank a.kind) (rank b.kind) before after in
    (same.0, rank_apart a.kind b.kind same.1)

pub one_fault : (bytes : List ℕ) (s t : Syntax) (i j : ℕ) (k l : ScopeKind) → IsSyntaxOf bytes s → IsSyntaxOf bytes t → IsScopeFault s i k → IsScopeFault t j l → (i ≡ j) × (k ≡ l)
one_fault bytes s t i j k l a b first second =
    one_first (text_breaks s.tokens (phrase_in s)) (record { at = i; kind = k }) (record { at = j; kind = l }) first
    (subst (λ breaks. IsFirstBreak breaks (record { at = j; kind = l })) (sym (same_breaks bytes s t a b)) second)

none_first : (breaks : List Break) (b : Break) → breaks ≡ [] → IsFirstBreak breaks b → ⊥
none_first breaks b e first = let inside = subst (λ bs. Contains bs b) e first.among in omega (arith, inside.1)

pub not_both : (bytes : List ℕ) (m : Module) (s : Syntax) (at : ℕ) (kind : ScopeKind) → Reads bytes m → IsSyntaxOf bytes s → IsScopeFault s at kind → ⊥
not_both bytes m s at kind reads parsed fault =
    none_first (text_breaks s.tokens (phrase_in s)) (record { at = at; kind = kind })
    (same_breaks bytes s reads.syntax parsed reads.parsed ∙ reads.resolved.keeps) fault
