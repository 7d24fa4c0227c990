-- The break that counts, as more breaks are noted.
use Rattle.std.proofs.lemmas.List.{length-map}
use Rattle.std.proofs.Common.{nat_eq, length, map, append_assoc, ◌≡◌, List, [], ◌∷◌, ◌++◌, Option, refl, ap, ◌∙◌, sym}
use Rattle.mlir_ir.specs.ScopeFaults.{Break, type_breaks}
use Rattle.mlir_ir.specs.Source.{Use}
use Rattle.mlir_ir.specs.Values.{Value}
use Rattle.mlir_scope.specs.declared.first.ScopeFault.{ScopeFault}
use Rattle.mlir_scope.specs.Noted.{noted, with_break}

pub noted_append : (best : Option ScopeFault) (xs ys : List Break) → noted best (xs ++ ys) ≡ noted (noted best xs) ys
noted_append best [] ys = refl
noted_append best (x ∷ xs) ys = noted_append (with_break best x) xs ys

-- with some breaks noted, what is left of all of them
pub noted_more : (best more : Option ScopeFault) (all xs ys : List Break) → more ≡ noted best xs → all ≡ xs ++ ys → noted best all ≡ noted more ys
noted_more best more all xs ys is parts = ap (noted best) parts ∙ noted_append best xs ys ∙ ap (λ b. noted b ys) (sym is)

-- two, three and four parts in turn
pub noted_two : (best one two : Option ScopeFault) (a b : List Break) → one ≡ noted best a → two ≡ noted one b → two ≡ noted best (a ++ b)
noted_two best one two a b f g = g ∙ ap (λ o. noted o b) f ∙ sym (noted_append best a b)

pub noted_three : (best one two three : Option ScopeFault) (a b c : List Break) → one ≡ noted best a → two ≡ noted one b → three ≡ noted two c → three ≡ noted best ((a ++ b) ++ c)
noted_three best one two three a b c f g h = noted_two best two three (a ++ b) c (noted_two best one two a b f g) h

pub noted_four : (best one two three four : Option ScopeFault) (a b c d : List Break)
    → one ≡ noted best a → two ≡ noted one b → three ≡ noted two c → four ≡ noted three d → four ≡ noted best (((a ++ b) ++ c) ++ d)
noted_four best one two three four a b c d f g h k = noted_two best three four ((a ++ b) ++ c) d (noted_three best one two three a b c f g h) k

-- lists of the same length, in other words
pub same_lengths : {A B C D : Type 0} (f : A → C) (g : B → D) (xs : List A) (ys : List B) → nat_eq (length (map f xs)) (length (map g ys)) ≡ nat_eq (length xs) (length ys)
same_lengths f g xs ys = rw (length-map xs f, length-map ys g) refl

-- no types are left to compare
pub no_types : (scope : List Value) (uses : List Use) → type_breaks scope uses [] ≡ []
no_types scope [] = refl
no_types scope (u ∷ uses) = refl

-- the same with the last parts together
pub noted_pair : (best one three : Option ScopeFault) (a b c : List Break) → one ≡ noted best a → three ≡ noted one (b ++ c) → three ≡ noted best ((a ++ b) ++ c)
noted_pair best one three a b c f g = noted_two best one three a (b ++ c) f g ∙ ap (noted best) (sym (append_assoc a b c))

-- values that are put in scope in two steps
pub put_twice : {X : Type 0} (old one two a b : List X) → one ≡ old ++ a → two ≡ one ++ b → two ≡ old ++ (a ++ b)
put_twice old one two a b f g = g ∙ ap (λ xs. xs ++ b) f ∙ append_assoc old a b

-- the parts of an operation with two regions, and of a loop with two, where a region is noted with its end
pub noted_regions : (best one two three : Option ScopeFault) (a b c d e : List Break)
    → one ≡ noted best a → two ≡ noted one (b ++ c) → three ≡ noted two (d ++ e) → three ≡ noted best ((((a ++ b) ++ c) ++ d) ++ e)
noted_regions best one two three a b c d e f g h = noted_pair best two three ((a ++ b) ++ c) d e (noted_pair best one two a b c f g) h

pub noted_loop : (best one two three four : Option ScopeFault) (a b c d e f : List Break)
    → one ≡ noted best a → two ≡ noted one (b ++ c) → three ≡ noted two d → four ≡ noted three (e ++ f) → four ≡ noted best (((((a ++ b) ++ c) ++ d) ++ e) ++ f)
noted_loop best one two three four a b c d e f i g h k =
    noted_pair best three four (((a ++ b) ++ c) ++ d) e f (noted_two best two three ((a ++ b) ++ c) d (noted_pair best one two a b c i g) h) k
