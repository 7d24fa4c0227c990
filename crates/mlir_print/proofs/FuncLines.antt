-- The lines of functions.
use Rattle.std.proofs.Common.{◌≡◌, ℕ, ◌+◌, ◌<◌, ◌≤◌, List, [], ◌∷◌, ◌++◌, drop, length, get_or, codes, map, refl, sym, ap, ◌∙◌, append_assoc, append-nil, arith, Option, None, Some}
use Rattle.std.proofs.lemmas.List.{drop_more, drop_all}
use Rattle.arith_word.specs.declared.label.Label.{Label}
use Rattle.mlir_ir.specs.declared.types.Body.{Body}
use Rattle.mlir_ir.specs.declared.types.Func.{Func}
use Rattle.mlir_ir.specs.declared.types.Item.{Item}
use Rattle.mlir_ir.specs.declared.types.Op.{Op}
use Rattle.mlir_ir.specs.Canonical.{Naming, arg_text, arrow_text, body_text, bracketed, ends_text, func_text, funcs_text, head_text, items_text, joined, line, ops_text, types_text}
use Rattle.mlir_print.specs.Lines.{ops_lines}

top_lines : (naming : Naming) (ops : List Op) → ops_lines naming 1 ops ≡ ops_text naming ops
top_lines naming [] = refl
top_lines naming (op ∷ ops) = rw (top_lines naming ops) refl

pub items_more : (naming : Naming) (front out : List ℕ) (items : List Item) (i : ℕ) (item : Item) (ops : List Op) → i < length items → item ≡ get_or items i item → ops ≡ item.ops → out ≡ front ++ ops_lines naming 1 ops
    → out ++ items_text naming (drop (i + 1) items) ≡ front ++ items_text naming (drop i items)
items_more naming front out items i item ops lt e is h = rw (h, drop_more items i item lt, ← e, top_lines naming ops, is) (append_assoc front (ops_text naming item.ops) _)

pub funcs_more : (names : List (List ℕ)) (front out : List ℕ) (funcs : List Func) (i : ℕ) (func : Func) → i < length funcs → func ≡ get_or funcs i func → out ≡ front ++ func_text names func
    → out ++ funcs_text names (drop (i + 1) funcs) ≡ front ++ funcs_text names (drop i funcs)
funcs_more names front out funcs i func lt e h = rw (h, drop_more funcs i func lt, ← e) (append_assoc front (func_text names func) _)

declared_shape : (out h b a c r : List ℕ) → (((((out ++ h) ++ b) ++ a) ++ c) ++ r) ++ 10 ∷ [] ≡ out ++ (h ++ (b ++ a ++ c) ++ r ++ 10 ∷ [])
declared_shape out h b a c r = simp append_assoc refl

pub declared : (naming : Naming) (f : Func) (out o1 o2 o3 o4 o5 o6 h b a c r : List ℕ) → o1 ≡ out ++ h → o2 ≡ o1 ++ b → o3 ≡ o2 ++ a → o4 ≡ o3 ++ c → o5 ≡ o4 ++ r → o6 ≡ o5 ++ 10 ∷ [] → o6 ≡ out ++ (h ++ (b ++ a ++ c) ++ r ++ 10 ∷ [])
declared naming f out o1 o2 o3 o4 o5 o6 h b a c r e g i j k l = rw (l, k, j, i, g, e) (declared_shape out h b a c r)

opened_shape : (out h a r e : List ℕ) → (((out ++ h) ++ a) ++ r) ++ (e ++ 10 ∷ []) ≡ out ++ (h ++ a ++ r ++ e ++ 10 ∷ [])
opened_shape out h a r e = simp append_assoc refl

pub opened : (out o1 o2 o3 o4 h a r e : List ℕ) → o1 ≡ out ++ h → o2 ≡ o1 ++ a → o3 ≡ o2 ++ r → o4 ≡ o3 ++ (e ++ 10 ∷ []) → o4 ≡ out ++ (h ++ a ++ r ++ e ++ 10 ∷ [])
opened out o1 o2 o3 o4 h a r e g i j k = rw (k, j, i, g) (opened_shape out h a r e)

defined_shape : (out a b c d : List ℕ) → ((out ++ a) ++ b) ++ (c ++ d) ≡ out ++ (a ++ b ++ c ++ d)
defined_shape out a b c d = simp append_assoc refl

pub defined : (out o1 o2 o3 a b c d : List ℕ) → o1 ≡ out ++ a → o2 ≡ o1 ++ b → o3 ≡ o2 ++ (c ++ d) → o3 ≡ out ++ (a ++ b ++ c ++ d)
defined out o1 o2 o3 a b c d e f g = rw (g, f, e) (defined_shape out a b c d)

return_shape : (out w e : List ℕ) → ((out ++ w) ++ e) ++ (10 ∷ 125 ∷ 10 ∷ []) ≡ out ++ ((w ++ e) ++ 10 ∷ [] ++ (125 ∷ 10 ∷ []))
return_shape out w e = simp append_assoc refl

pub returned : (naming : Naming) (out o1 o2 o3 : List ℕ) (ret : List Label) → o1 ≡ out ++ codes "  return" → o2 ≡ o1 ++ ends_text naming ret → o3 ≡ o2 ++ codes "\n}\n" → o3 ≡ out ++ (line 1 (codes "return" ++ ends_text naming ret) ++ line 0 (codes "}"))
returned naming out o1 o2 o3 ret e f g = rw (g, f, e) (return_shape out (codes "  return") (ends_text naming ret))
