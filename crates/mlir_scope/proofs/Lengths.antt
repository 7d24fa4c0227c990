-- Lists that stand for the same list have its length.
use Rattle.std.proofs.Common.{◌≡◌, List, map, length, ap, ◌∙◌, sym}
use Rattle.std.proofs.lemmas.List.{length-map}

pub same_length : {A B C : Type 0} (f : A → C) (g : B → C) (xs : List A) (ys : List B) → map f xs ≡ map g ys → length xs ≡ length ys
same_length f g xs ys e = sym (length-map xs f) ∙ ap length e ∙ length-map ys g
