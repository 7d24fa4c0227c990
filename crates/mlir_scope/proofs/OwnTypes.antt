-- What the word of an operation decides, and pairs of lists.
use Rattle.std.proofs.lemmas.List.{length-map, take-map}
use Rattle.mlir_ir.specs.Resolved.{cast_named}
use Rattle.mlir_ir.specs.Rules.{casts}
use Rattle.mlir_ir.specs.ScopeFaults.{broken, cast_breaks, is_index}
use Rattle.mlir_ir.specs.Source.{word}
use Rattle.mlir_ir.specs.declared.scope_kind.ScopeKind.TheVariants.{WrongType}
use Rattle.mlir_ir.specs.declared.types.IrType.TheVariants.{Int, Index}
use Rattle.std.proofs.Common.{◌++◌, ◌&&◌, not, if◌then◌else◌, Bool, true, false, ◌≡◌, ℕ, min, List, [], ◌∷◌, length, map, take, drop, refl, ap, ◌∙◌, sym, suc, arith}
use Rattle.std.specs.List.{zip}
use Rattle.mlir_ir.specs.Phrases.{Phrase}
use Rattle.mlir_ir.specs.Source.{Written, op_types, result_types}
use Rattle.mlir_ir.specs.declared.terminal.Terminal.{Terminal}
use Rattle.mlir_ir.specs.declared.terminal.Terminal.TheVariants.{Constant, Compare, Binary, FlaggedBinary, Select, Cast, FlaggedCast}
use Rattle.mlir_scope.specs.Reading.{written_said}
use Rattle.mlir_scope.specs.declared.said.Written as said

-- the types behind the first
pub dropped_types : (t : said.Written) (all behind : List said.Written) (found : List Written) → map written_said all ≡ found → all ≡ t ∷ behind → map written_said behind ≡ drop 1 found
dropped_types t all behind found is parts = ap (λ (xs : List Written). drop 1 xs) (sym (ap (map written_said) parts) ∙ is)

-- operations without types of their own
pub other_types : (c : Terminal) (kind : Phrase)
    → (c ≡ Constant → ⊥) → (c ≡ Compare → ⊥) → (c ≡ Binary → ⊥) → (c ≡ FlaggedBinary → ⊥) → (c ≡ Select → ⊥) → (c ≡ Cast → ⊥) → (c ≡ FlaggedCast → ⊥)
    → op_types c kind ≡ result_types kind
other_types Constant kind a b d e f g h = absurd (a refl)
other_types Compare kind a b d e f g h = absurd (b refl)
other_types Binary kind a b d e f g h = absurd (d refl)
other_types FlaggedBinary kind a b d e f g h = absurd (e refl)
other_types Select kind a b d e f g h = absurd (f refl)
other_types Cast kind a b d e f g h = absurd (g refl)
other_types FlaggedCast kind a b d e f g h = absurd (h refl)
other_types _ kind a b d e f g h = refl

either_part : (a c d : Bool) (x y : ℕ) → d ≡ (not a && c) → (if a then broken true x WrongType else broken c y WrongType) ≡ broken a x WrongType ++ broken d y WrongType
either_part true c d x y is = ap (λ e. broken true x WrongType ++ broken e y WrongType) (sym is)
either_part false c d x y is = ap (λ e. broken e y WrongType) (sym is)

-- a cast's break as two notes
pub cast_parts : (kind : Phrase) (from to : Written) (no_index no_cast : Bool)
    → no_index ≡ (is_index from.ty && not (casts (cast_named (word kind).text) Index (Int 1)))
    → no_cast ≡ (not no_index && not (casts (cast_named (word kind).text) from.ty to.ty))
    → cast_breaks kind (from ∷ to ∷ []) ≡ broken no_index from.at WrongType ++ broken no_cast to.at WrongType
cast_parts kind from to no_index no_cast is cast_is =
    ap (λ a. if a then broken true from.at WrongType else broken (not (casts (cast_named (word kind).text) from.ty to.ty)) to.at WrongType) (sym is)
    ∙ either_part no_index (not (casts (cast_named (word kind).text) from.ty to.ty)) no_cast from.at to.at cast_is

-- the first and the second items of pairs, as far as both lists go
pub zip_first : {A B : Type 0} (xs : List A) (ys : List B) (many : ℕ) → many ≡ min (length xs) (length ys) → map (λ (p : A × B). p.0) (zip xs ys) ≡ take many xs
zip_first [] ys many is = let none : many ≡ 0 = omega arith in rw none refl
zip_first (x ∷ xs) [] many is = let none : many ≡ 0 = omega arith in rw none refl
zip_first {A} (x ∷ xs) (y ∷ ys) many is =
    let one : many ≡ suc (min (length xs) (length ys)) = omega arith in
    rw one (ap (λ (zs : List A). x ∷ zs) (zip_first xs ys (min (length xs) (length ys)) refl))

pub zip_second : {A B : Type 0} (xs : List A) (ys : List B) (many : ℕ) → many ≡ min (length xs) (length ys) → map (λ (p : A × B). p.1) (zip xs ys) ≡ take many ys
zip_second [] ys many is = let none : many ≡ 0 = omega arith in rw none refl
zip_second (x ∷ xs) [] many is = let none : many ≡ 0 = omega arith in rw none refl
zip_second {A} {B} (x ∷ xs) (y ∷ ys) many is =
    let one : many ≡ suc (min (length xs) (length ys)) = omega arith in
    rw one (ap (λ (zs : List B). y ∷ zs) (zip_second xs ys (min (length xs) (length ys)) refl))

-- the same of what lists of the code stand for
pub first_of_pairs : {A B C D : Type 0} (f : A → C) (g : B → D) (xs new : List A) (ys : List B) (cs : List C) (bs : List D) (n m many : ℕ)
    → map f xs ≡ cs → map g ys ≡ bs → n ≡ length xs → m ≡ length ys → many ≡ min n m → new ≡ take many xs → map f new ≡ map (λ (p : C × D). p.0) (zip cs bs)
first_of_pairs f g xs new ys cs bs n m many a b n_is m_is many_is new_is =
    let longs : length cs ≡ length xs = ap length (sym a) ∙ length-map xs f in
    let others : length bs ≡ length ys = ap length (sym b) ∙ length-map ys g in
    let least : many ≡ min (length cs) (length bs) = omega arith in
    ap (map f) new_is ∙ sym (take-map f many xs) ∙ ap (take many) a ∙ sym (zip_first cs bs many least)

pub second_of_pairs : {A B C D : Type 0} (f : A → C) (g : B → D) (xs : List A) (ys new : List B) (cs : List C) (bs : List D) (n m many : ℕ)
    → map f xs ≡ cs → map g ys ≡ bs → n ≡ length xs → m ≡ length ys → many ≡ min n m → new ≡ take many ys → map g new ≡ map (λ (p : C × D). p.1) (zip cs bs)
second_of_pairs f g xs ys new cs bs n m many a b n_is m_is many_is new_is =
    let longs : length cs ≡ length xs = ap length (sym a) ∙ length-map xs f in
    let others : length bs ≡ length ys = ap length (sym b) ∙ length-map ys g in
    let least : many ≡ min (length cs) (length bs) = omega arith in
    ap (map g) new_is ∙ sym (take-map g many ys) ∙ ap (take many) b ∙ sym (zip_second cs bs many least)
