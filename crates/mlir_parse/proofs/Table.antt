-- The table of the productions.
use Rattle.std.proofs.Common.{◌≡◌, ◌<◌, List, [], ◌∷◌, length, subst, sym, slice_index_or, lit<}
use Rattle.mlir_ir.specs.Grammar.{body}
use Rattle.mlir_ir.specs.GrammarNumbers.{form_at}
use Rattle.mlir_parse.specs.Seen.{Stands, AreLines}
use Rattle.mlir_parse.specs.declared.rule.Rule.{Rule}
use Rattle.mlir_ir.specs.declared.syntax.Form.{Form}
use Rattle.mlir_ir.specs.declared.syntax.Form.TheVariants.{Leaf, Whole, Func, Params, Types, Results, TypeName, Body, Ends, Uses, Use, Op, Pack, Kind, Inits, Region, Flags}

these_are : (r0 r1 r2 r3 r4 r5 r6 r7 r8 r9 r10 r11 r12 r13 r14 r15 r16 : Rule)
    → Stands r0 (body Leaf)
    → Stands r1 (body Whole)
    → Stands r2 (body Func)
    → Stands r3 (body Params)
    → Stands r4 (body Types)
    → Stands r5 (body Results)
    → Stands r6 (body TypeName)
    → Stands r7 (body Body)
    → Stands r8 (body Ends)
    → Stands r9 (body Uses)
    → Stands r10 (body Use)
    → Stands r11 (body Op)
    → Stands r12 (body Pack)
    → Stands r13 (body Kind)
    → Stands r14 (body Inits)
    → Stands r15 (body Region)
    → Stands r16 (body Flags)
    → (f : Form) → (form_at f < length (r0 ∷ r1 ∷ r2 ∷ r3 ∷ r4 ∷ r5 ∷ r6 ∷ r7 ∷ r8 ∷ r9 ∷ r10 ∷ r11 ∷ r12 ∷ r13 ∷ r14 ∷ r15 ∷ r16 ∷ [])) × ((d : Rule) → Stands (slice_index_or (r0 ∷ r1 ∷ r2 ∷ r3 ∷ r4 ∷ r5 ∷ r6 ∷ r7 ∷ r8 ∷ r9 ∷ r10 ∷ r11 ∷ r12 ∷ r13 ∷ r14 ∷ r15 ∷ r16 ∷ []) (form_at f) d) (body f))
these_are r0 r1 r2 r3 r4 r5 r6 r7 r8 r9 r10 r11 r12 r13 r14 r15 r16 h0 h1 h2 h3 h4 h5 h6 h7 h8 h9 h10 h11 h12 h13 h14 h15 h16 Leaf = (lit< tt, λ d. h0)
these_are r0 r1 r2 r3 r4 r5 r6 r7 r8 r9 r10 r11 r12 r13 r14 r15 r16 h0 h1 h2 h3 h4 h5 h6 h7 h8 h9 h10 h11 h12 h13 h14 h15 h16 Whole = (lit< tt, λ d. h1)
these_are r0 r1 r2 r3 r4 r5 r6 r7 r8 r9 r10 r11 r12 r13 r14 r15 r16 h0 h1 h2 h3 h4 h5 h6 h7 h8 h9 h10 h11 h12 h13 h14 h15 h16 Func = (lit< tt, λ d. h2)
these_are r0 r1 r2 r3 r4 r5 r6 r7 r8 r9 r10 r11 r12 r13 r14 r15 r16 h0 h1 h2 h3 h4 h5 h6 h7 h8 h9 h10 h11 h12 h13 h14 h15 h16 Params = (lit< tt, λ d. h3)
these_are r0 r1 r2 r3 r4 r5 r6 r7 r8 r9 r10 r11 r12 r13 r14 r15 r16 h0 h1 h2 h3 h4 h5 h6 h7 h8 h9 h10 h11 h12 h13 h14 h15 h16 Types = (lit< tt, λ d. h4)
these_are r0 r1 r2 r3 r4 r5 r6 r7 r8 r9 r10 r11 r12 r13 r14 r15 r16 h0 h1 h2 h3 h4 h5 h6 h7 h8 h9 h10 h11 h12 h13 h14 h15 h16 Results = (lit< tt, λ d. h5)
these_are r0 r1 r2 r3 r4 r5 r6 r7 r8 r9 r10 r11 r12 r13 r14 r15 r16 h0 h1 h2 h3 h4 h5 h6 h7 h8 h9 h10 h11 h12 h13 h14 h15 h16 TypeName = (lit< tt, λ d. h6)
these_are r0 r1 r2 r3 r4 r5 r6 r7 r8 r9 r10 r11 r12 r13 r14 r15 r16 h0 h1 h2 h3 h4 h5 h6 h7 h8 h9 h10 h11 h12 h13 h14 h15 h16 Body = (lit< tt, λ d. h7)
these_are r0 r1 r2 r3 r4 r5 r6 r7 r8 r9 r10 r11 r12 r13 r14 r15 r16 h0 h1 h2 h3 h4 h5 h6 h7 h8 h9 h10 h11 h12 h13 h14 h15 h16 Ends = (lit< tt, λ d. h8)
these_are r0 r1 r2 r3 r4 r5 r6 r7 r8 r9 r10 r11 r12 r13 r14 r15 r16 h0 h1 h2 h3 h4 h5 h6 h7 h8 h9 h10 h11 h12 h13 h14 h15 h16 Uses = (lit< tt, λ d. h9)
these_are r0 r1 r2 r3 r4 r5 r6 r7 r8 r9 r10 r11 r12 r13 r14 r15 r16 h0 h1 h2 h3 h4 h5 h6 h7 h8 h9 h10 h11 h12 h13 h14 h15 h16 Use = (lit< tt, λ d. h10)
these_are r0 r1 r2 r3 r4 r5 r6 r7 r8 r9 r10 r11 r12 r13 r14 r15 r16 h0 h1 h2 h3 h4 h5 h6 h7 h8 h9 h10 h11 h12 h13 h14 h15 h16 Op = (lit< tt, λ d. h11)
these_are r0 r1 r2 r3 r4 r5 r6 r7 r8 r9 r10 r11 r12 r13 r14 r15 r16 h0 h1 h2 h3 h4 h5 h6 h7 h8 h9 h10 h11 h12 h13 h14 h15 h16 Pack = (lit< tt, λ d. h12)
these_are r0 r1 r2 r3 r4 r5 r6 r7 r8 r9 r10 r11 r12 r13 r14 r15 r16 h0 h1 h2 h3 h4 h5 h6 h7 h8 h9 h10 h11 h12 h13 h14 h15 h16 Kind = (lit< tt, λ d. h13)
these_are r0 r1 r2 r3 r4 r5 r6 r7 r8 r9 r10 r11 r12 r13 r14 r15 r16 h0 h1 h2 h3 h4 h5 h6 h7 h8 h9 h10 h11 h12 h13 h14 h15 h16 Inits = (lit< tt, λ d. h14)
these_are r0 r1 r2 r3 r4 r5 r6 r7 r8 r9 r10 r11 r12 r13 r14 r15 r16 h0 h1 h2 h3 h4 h5 h6 h7 h8 h9 h10 h11 h12 h13 h14 h15 h16 Region = (lit< tt, λ d. h15)
these_are r0 r1 r2 r3 r4 r5 r6 r7 r8 r9 r10 r11 r12 r13 r14 r15 r16 h0 h1 h2 h3 h4 h5 h6 h7 h8 h9 h10 h11 h12 h13 h14 h15 h16 Flags = (lit< tt, λ d. h16)

-- seventeen right-hand sides in the order of the forms are the productions
pub lines_are : (r0 r1 r2 r3 r4 r5 r6 r7 r8 r9 r10 r11 r12 r13 r14 r15 r16 : Rule) (rules : List Rule) → rules ≡ r0 ∷ r1 ∷ r2 ∷ r3 ∷ r4 ∷ r5 ∷ r6 ∷ r7 ∷ r8 ∷ r9 ∷ r10 ∷ r11 ∷ r12 ∷ r13 ∷ r14 ∷ r15 ∷ r16 ∷ []
    → Stands r0 (body Leaf)
    → Stands r1 (body Whole)
    → Stands r2 (body Func)
    → Stands r3 (body Params)
    → Stands r4 (body Types)
    → Stands r5 (body Results)
    → Stands r6 (body TypeName)
    → Stands r7 (body Body)
    → Stands r8 (body Ends)
    → Stands r9 (body Uses)
    → Stands r10 (body Use)
    → Stands r11 (body Op)
    → Stands r12 (body Pack)
    → Stands r13 (body Kind)
    → Stands r14 (body Inits)
    → Stands r15 (body Region)
    → Stands r16 (body Flags)
    → AreLines rules
lines_are r0 r1 r2 r3 r4 r5 r6 r7 r8 r9 r10 r11 r12 r13 r14 r15 r16 rules e h0 h1 h2 h3 h4 h5 h6 h7 h8 h9 h10 h11 h12 h13 h14 h15 h16 = subst AreLines (sym e) (these_are r0 r1 r2 r3 r4 r5 r6 r7 r8 r9 r10 r11 r12 r13 r14 r15 r16 h0 h1 h2 h3 h4 h5 h6 h7 h8 h9 h10 h11 h12 h13 h14 h15 h16)
