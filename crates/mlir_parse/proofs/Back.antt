-- The inversion of each rule of `Accepts`.
use Rattle.std.proofs.Common.{◌≡◌, refl, List, ◌∷◌, ◌⊎◌, inl, inr}
use Rattle.mlir_ir.specs.Grammar.{Pattern, nothing, one, line, both, either, many, region, body}
use Rattle.mlir_ir.specs.Texts.{Accepts, no_more, token, by_line, in_turn, left, right, again, enough, in_region}
use Rattle.mlir_ir.specs.declared.terminal.Terminal.{Terminal}
use Rattle.mlir_ir.specs.declared.terminal.Terminal.TheVariants.{LeftBrace, RightBrace}
use Rattle.mlir_ir.specs.declared.syntax.Form.{Form}

pub of_nothing : {ss : List Pattern} {ts : List Terminal} → Accepts (nothing ∷ ss) ts → Accepts ss ts
of_nothing (no_more d) = d

pub of_one : {c : Terminal} {ss : List Pattern} {ts : List Terminal} → Accepts (one c ∷ ss) ts → (us : List Terminal) × (ts ≡ c ∷ us) × Accepts ss us
of_one (token {ts = us} d) = (us, refl, d)

pub of_line : {f : Form} {ss : List Pattern} {ts : List Terminal} → Accepts (line f ∷ ss) ts → Accepts (body f ∷ ss) ts
of_line (by_line d) = d

pub of_both : {a b : Pattern} {ss : List Pattern} {ts : List Terminal} → Accepts (both a b ∷ ss) ts → Accepts (a ∷ b ∷ ss) ts
of_both (in_turn d) = d

pub of_either : {a b : Pattern} {ss : List Pattern} {ts : List Terminal} → Accepts (either a b ∷ ss) ts → Accepts (a ∷ ss) ts ⊎ Accepts (b ∷ ss) ts
of_either (left d) = inl d
of_either (right d) = inr d

pub of_many : {a : Pattern} {ss : List Pattern} {ts : List Terminal} → Accepts (many a ∷ ss) ts → Accepts (a ∷ many a ∷ ss) ts ⊎ Accepts ss ts
of_many (again d) = inl d
of_many (enough d) = inr d

pub of_deep : {a : Pattern} {ss : List Pattern} {ts : List Terminal} → Accepts (region a ∷ ss) ts → Accepts (one LeftBrace ∷ a ∷ one RightBrace ∷ ss) ts
of_deep (in_region d) = d
