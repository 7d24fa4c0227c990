-- Texts one behind the other: blanks, names of functions, and the lines of operations.
use Rattle.std.proofs.Common.{◌≡◌, ℕ, ◌+◌, ◌*◌, ◌<◌, ◌≤◌, List, [], ◌∷◌, ◌++◌, codes, map, length, replicate, get_or, refl, sym, ap, ◌∙◌, append_assoc, append-nil, arith, suc, zero}
use Rattle.mlir_ir.specs.declared.types.Func.{Func}

two_blanks : (n m : ℕ) → m ≡ n + 2 → replicate n 32 ++ codes "  " ≡ replicate m 32
two_blanks zero m e = let two : m ≡ 2 = omega arith in rw two refl
two_blanks (suc n) zero e = absurd (omega arith)
two_blanks (suc n) (suc m) e = ap (λ bs. 32 ∷ bs) (two_blanks n m (omega arith))

pub two_more : (old out new : List ℕ) (d : ℕ) → out ≡ old ++ replicate (2 * d) 32 → new ≡ out ++ codes "  " → new ≡ old ++ replicate (2 * (d + 1)) 32
two_more old out new d e f = rw (f, e) (append_assoc old _ _ ∙ ap (λ bs. old ++ bs) (two_blanks (2 * d) (2 * (d + 1)) (omega arith)))

name_at : (fs : List Func) (k : ℕ) (f : Func) → k < length fs → f ≡ get_or fs k f → get_or (map (λ g. g.name) fs) k [] ≡ f.name
name_at [] k f lt is = absurd (omega arith)
name_at (g ∷ fs) zero f lt is = ap (λ h. h.name) (sym is)
name_at (g ∷ fs) (suc k) f lt is = name_at fs k f (omega arith) is

no_name : (fs : List Func) (k : ℕ) → length fs ≤ k → get_or (map (λ g. g.name) fs) k [] ≡ []
no_name [] k past = refl
no_name (g ∷ fs) zero past = absurd (omega arith)
no_name (g ∷ fs) (suc k) past = no_name fs k (omega arith)

pub func_name : (old new : List ℕ) (funcs : List (List ℕ)) (fs : List Func) (k : ℕ) (f : Func) → map (λ g. g.name) fs ≡ funcs → k < length fs → f ≡ get_or fs k f → new ≡ old ++ f.name → new ≡ old ++ get_or funcs k []
func_name old new funcs fs k f same lt is e = e ∙ ap (λ bs. old ++ bs) (sym (name_at fs k f lt is) ∙ ap (λ ns. get_or ns k []) same)

pub no_func_name : (old : List ℕ) (funcs : List (List ℕ)) (fs : List Func) (k : ℕ) → map (λ g. g.name) fs ≡ funcs → length fs ≤ k → old ≡ old ++ get_or funcs k []
no_func_name old funcs fs k same past = sym (ap (λ bs. old ++ bs) (sym (ap (λ ns. get_or ns k []) same) ∙ no_name fs k past) ∙ append-nil old)

-- parts one behind the other, as the operations have them

pub cmp_pushed : (out o1 o2 o3 o4 w p k a b s t : List ℕ) → o1 ≡ out ++ (w ++ p ++ k) → o2 ≡ o1 ++ (a ++ k ++ b) → o3 ≡ o2 ++ s → o4 ≡ o3 ++ t → o4 ≡ out ++ (w ++ p ++ k ++ a ++ k ++ b ++ s ++ t)
cmp_pushed out o1 o2 o3 o4 w p k a b s t e f g h = rw (h, g, f, e) (simp append_assoc refl)

pub select_pushed : (out o1 o2 o3 o4 o5 w u k a b s t : List ℕ) → o1 ≡ out ++ w → o2 ≡ o1 ++ u → o3 ≡ o2 ++ k → o4 ≡ o3 ++ (a ++ k ++ b) → o5 ≡ o4 ++ (s ++ t) → o5 ≡ out ++ (w ++ u ++ k ++ a ++ k ++ b ++ s ++ t)
select_pushed out o1 o2 o3 o4 o5 w u k a b s t e f g h i = rw (i, h, g, f, e) (simp append_assoc refl)

pub call_pushed : (out o1 o2 o3 o4 o5 w f p s t k r : List ℕ) → o1 ≡ out ++ w → o2 ≡ o1 ++ f → o3 ≡ o2 ++ (p ++ s ++ t) → o4 ≡ o3 ++ k → o5 ≡ o4 ++ r → o5 ≡ out ++ (w ++ f ++ p ++ s ++ t ++ k ++ r)
call_pushed out o1 o2 o3 o4 o5 w f p s t k r e g h i j = rw (j, i, h, g, e) (simp append_assoc refl)

pub for_pushed : (out o1 o2 o3 o4 o5 w v k a s b t d c n e : List ℕ) → o1 ≡ out ++ (w ++ v ++ k) → o2 ≡ o1 ++ (a ++ s ++ b ++ t ++ d) → o3 ≡ o2 ++ c → o4 ≡ o3 ++ n → o5 ≡ o4 ++ e
    → o5 ≡ out ++ (w ++ v ++ k ++ a ++ s ++ b ++ t ++ d ++ c ++ n ++ e)
for_pushed out o1 o2 o3 o4 o5 w v k a s b t d c n e p q r x y = rw (y, x, r, q, p) (simp append_assoc refl)
