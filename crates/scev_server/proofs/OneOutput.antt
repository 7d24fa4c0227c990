-- A module and its scripts have one output: the sessions come to the same ends.
use Rattle.std.proofs.Common.{◌≡◌, ℕ, zero, suc, List, [], ◌∷◌, ◌++◌, length, slice_get, Some, inl, inr, refl, ap, sym, ◌∙◌, subst, arith}
use Rattle.std.proofs.lemmas.Option.{slice_get_cases, slice_get_within}
use Rattle.std.specs.List.{All}
use Rattle.mlir_ir.specs.Check.{IsWellFormed}
use Rattle.mlir_ir.specs.declared.types.Func.{Func}
use Rattle.scev_script.specs.declared.script.Script.{Script}
use Rattle.scev_server.specs.Equal.{IsEqualSection}
use Rattle.scev_server.specs.Output.{End, HaveRun, parts_text, all_held, log_section, IsOutput}
use Rattle.scev_server.specs.Walk.{State, start}
use Rattle.scev_server.proofs.OneNumbering.{section_one}
use Rattle.scev_server.proofs.OneWalk.{walk_one}

-- lists that have the same at each place
same_places : {X : Type 0} (xs ys : List X) → length xs ≡ length ys → ((i : ℕ) (x y : X) → slice_get xs i ≡ Some x → slice_get ys i ≡ Some y → x ≡ y) → xs ≡ ys
same_places [] [] e h = refl
same_places (x ∷ xs) (y ∷ ys) e h = ap (λ z. z ∷ xs) (h zero x y refl refl) ∙ ap (λ zs. y ∷ zs) (same_places xs ys (omega (arith, e)) (λ i. h (suc i)))
same_places [] (y ∷ ys) e h = absurd (omega (arith, e))
same_places (x ∷ xs) [] e h = absurd (omega (arith, e))

same_end : (e f : End) → (e.lines ≡ f.lines) × (e.state ≡ f.state) → e ≡ f
same_end e f h =
    let first : e ≡ record { lines = f.lines; state = e.state } = ap (λ (l : List ℕ). record { lines = l; state = e.state }) h.0 in
    first ∙ ap (λ (s : State). record { lines = f.lines; state = s }) h.1

module _ (funcs : List Func) (well : All IsWellFormed funcs) (scripts : List Script) where
  ends_one : (es fs : List End) → HaveRun funcs scripts es → HaveRun funcs scripts fs → es ≡ fs
  ends_one es fs p q = same_places es fs (p.each ∙ sym q.each)
      (λ i e f a b. elim (slice_get_cases scripts i).1 [
        | inl s ↦ same_end e f (walk_one funcs well s.0.commands start e.lines f.lines e.state f.state (p.walks i s.0 e s.2 a) (q.walks i s.0 f s.2 b))
        | inr g ↦ absurd (omega (arith, g.0, p.each, slice_get_within es i e a))
      ])

  pub output_one : (text other : List ℕ) → IsOutput funcs scripts text → IsOutput funcs scripts other → text ≡ other
  output_one text other p q =
      let ends : p.ends ≡ q.ends = ends_one p.ends q.ends p.run q.run in
      let section : p.equal ≡ q.equal =
      section_one (all_held scripts q.ends) p.equal q.equal (subst (λ es. IsEqualSection (all_held scripts es) p.equal) ends p.equal_is) q.equal_is in
      p.text_is
      ∙ ap (λ es. parts_text scripts es ++ log_section ++ p.equal) ends
      ∙ ap (λ t. parts_text scripts q.ends ++ log_section ++ t) section
      ∙ sym q.text_is
