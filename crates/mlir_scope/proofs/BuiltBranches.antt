-- Operations with regions that are built are those that the syntax stands for.
use Rattle.std.proofs.Common.{◌≡◌, ℕ, ◌+◌, Bool, true, false, ◌||◌, List, [], ◌∷◌, ◌++◌, length, take, map, Option, Some, None, refl, ap, ◌∙◌, sym, subst, arith, append_assoc, if◌then◌else◌}
use Rattle.std.proofs.lemmas.List.{length-map}
use Rattle.std.specs.Option.{is_some}
use Rattle.arith_word.specs.declared.label.Label.{Label}
use Rattle.mlir_ir.specs.GrammarNumbers.{same, same_form}
use Rattle.mlir_ir.specs.Operations as plain
use Rattle.mlir_ir.specs.Operations.{OpList, labels_of, inner_labels}
use Rattle.mlir_ir.specs.Phrases.{Phrase, done, token, line, has, inside, behind}
use Rattle.mlir_ir.specs.Resolved.{tys, ops_of, values_of, nth_use, labels, inits_used, args_of, if_kind, for_kind, while_kind}
use Rattle.mlir_ir.specs.Source as source
use Rattle.mlir_ir.specs.Source.{Block, none, Use, ending, region, region_behind, parts_regions, region_parts, else_parts, before_parts, after_parts, after_params, result_types, inits_of}
use Rattle.mlir_ir.specs.Values.{Value, arg_values}
use Rattle.mlir_ir.specs.declared.syntax.Branch.{Branch}
use Rattle.mlir_ir.specs.declared.syntax.Form.TheVariants as forms
use Rattle.mlir_ir.specs.declared.terminal.Terminal.{Terminal}
use Rattle.mlir_ir.specs.declared.terminal.Terminal.TheVariants as terminals
use Rattle.mlir_ir.specs.declared.types.Arg.{Arg}
use Rattle.mlir_ir.specs.declared.types.IrType.{IrType}
use Rattle.mlir_ir.specs.declared.types.Region.{Region}
use Rattle.mlir_ir.specs.View.{rows_of, ends_of}
use Rattle.mlir_scope.specs.Built.{AreBehind, ArePast, HasElse, HasParts, IsLeft, IsPast, scope_at, names_said, for_header, while_args, other_rows, other_ends, first_said, first_ends, second_said, second_ends, behind_before, if_said, for_said, while_said}
use Rattle.mlir_scope.specs.InScope.{value_of}
use Rattle.mlir_scope.specs.Said.{said}
use Rattle.mlir_scope.specs.declared.built_loops.ForHeader.{ForHeader}
use Rattle.mlir_scope.specs.declared.place.Place.{Place}
use Rattle.mlir_scope.specs.declared.simple_kinds.Origin.{Origin}

-- the values of a scope that were there before some others
pub left_behind : (old mid new : Place) (n : ℕ) (vs : List Value) → n ≡ length old.scope.values.items → scope_at mid ≡ scope_at old ++ vs → scope_at new ≡ take n (scope_at mid) → scope_at new ≡ scope_at old
left_behind old mid new n vs many grown cut =
    cut ∙ ap (take n) grown ∙ ap (λ m. take m (scope_at old ++ vs)) (many ∙ sym (length-map old.scope.values.items value_of)) ∙ front (scope_at old) vs
  where
    front : (xs ys : List Value) → take (length xs) (xs ++ ys) ≡ xs
    front [] ys = refl
    front (x ∷ xs) ys = ap (λ (zs : List Value). x ∷ zs) (front xs ys)

-- regions

pub region_built : (place mid : Place) (made : Region) (seen ops : OpList) (uses : List Use) → seen ≡ ops → AreBehind place mid ops
    → HasParts made seen (labels (scope_at mid) uses) → HasParts made ops (labels (scope_at place ++ values_of place.next ops) uses)
region_built place mid made seen ops uses same behind h = record { rows = h.rows ∙ same; gives = h.gives ∙ ap (λ s. labels s uses) behind.scope }

pub region_past : (place mid new : Place) (outer : ℕ) (ops : OpList) → outer ≡ length place.scope.values.items → AreBehind place mid ops → IsLeft mid new outer → ArePast place new ops
region_past place mid new outer ops many behind left = record {
  scope = left_behind place mid new outer (values_of place.next ops) many behind.scope left.scope;
  next = left.next ∙ behind.next;
}

pub second_built : (names : List (List ℕ)) (place : Place) (made : Region) (b d : Block) (uses : List Use) → b ≡ d
    → HasParts made (ops_of names b (scope_at place) place.next) (labels (scope_at place ++ values_of place.next (ops_of names b (scope_at place) place.next)) uses)
    → HasParts made (ops_of names d (scope_at place) place.next) (labels (scope_at place ++ values_of place.next (ops_of names d (scope_at place) place.next)) uses)
second_built names place made b d uses same h =
    subst (λ (x : Block). HasParts made (ops_of names x (scope_at place) place.next) (labels (scope_at place ++ values_of place.next (ops_of names x (scope_at place) place.next)) uses)) same h

pub second_past : (names : List (List ℕ)) (place new : Place) (b d : Block) → b ≡ d → ArePast place new (ops_of names b (scope_at place) place.next) → ArePast place new (ops_of names d (scope_at place) place.next)
second_past names place new b d same h = subst (λ (x : Block). ArePast place new (ops_of names x (scope_at place) place.next)) same h

-- without `else` and `do` there is no second region

neither : (c : Terminal) (p : Phrase) → (same terminals.Else c || has terminals.Else p) ≡ false → (same terminals.Do c || has terminals.Do p) ≡ false
    → (parts_regions c ≡ false) × (has terminals.Else p ≡ false) × (has terminals.Do p ≡ false)
neither c p h g = neither_of (same terminals.Else c) (same terminals.Do c) (has terminals.Else p) (has terminals.Do p) h g
  where
    neither_of : (a b x y : Bool) → (a || x) ≡ false → (b || y) ≡ false → ((a || b) ≡ false) × (x ≡ false) × (y ≡ false)
    neither_of true b x y h g = cc
    neither_of false true x y h g = cc
    neither_of false false x y h g = (refl, h, g)

pub no_second : (p : Phrase) → has terminals.Else p ≡ false → has terminals.Do p ≡ false → region_behind p ≡ none
no_second done h g = refl
no_second (token at c text rest) h g =
    let n = neither c rest h g in
    ap (λ b. if b then region rest else region_behind rest) n.0 ∙ no_second rest n.1 n.2
no_second (line form at parts rest) h g = no_second rest h g

no_else_at : (b x : Bool) (rest p : Phrase) → (b || x) ≡ false → (x ≡ false → p ≡ done) → (if b then rest else p) ≡ done
no_else_at true x rest p h g = cc
no_else_at false x rest p h g = g h

pub no_else : (p : Phrase) → has terminals.Else p ≡ false → behind terminals.Else p ≡ done
no_else done h = refl
no_else (token at c text rest) h = no_else_at (same terminals.Else c) (has terminals.Else rest) rest (behind terminals.Else rest) h (no_else rest)
no_else (line form at parts rest) h = no_else rest h

pub some_else : (origin : Origin) (kind : List Branch) (place : Place) (other : Region) (parts : Phrase) (there : Bool)
    → there ≡ has terminals.Else (said origin.tokens.now kind) → there ≡ true → parts ≡ else_parts (said origin.tokens.now kind)
    → HasParts other (second_said origin kind place) (second_ends origin kind parts place)
    → HasElse (Some other) (has terminals.Else (said origin.tokens.now kind)) (second_said origin kind place) (second_ends origin kind (else_parts (said origin.tokens.now kind)) place)
some_else origin kind place other parts there is holds alike h = record {
  is_there = sym holds ∙ is;
  rows = h.rows;
  gives = h.gives ∙ ap (λ p. second_ends origin kind p place) alike;
}

pub none_else : (origin : Origin) (kind : List Branch) (place : Place) (there does : Bool)
    → there ≡ has terminals.Else (said origin.tokens.now kind) → there ≡ false → does ≡ has terminals.Do (said origin.tokens.now kind) → does ≡ false
    → HasElse None (has terminals.Else (said origin.tokens.now kind)) (second_said origin kind place) (second_ends origin kind (else_parts (said origin.tokens.now kind)) place)
none_else origin kind place there does is fails is2 fails2 =
    let k = said origin.tokens.now kind in
    let empty = no_second k (sym is ∙ fails) (sym is2 ∙ fails2) in
    record {
      is_there = sym fails ∙ is;
      rows = sym (ap (λ b. ops_of (names_said origin.funcs.now) b (scope_at place) place.next) empty);
      gives = sym (ap (λ p. labels (scope_at place ++ values_of place.next (second_said origin kind place)) (ending terminals.Yield (inside forms.Region p)).uses) (no_else k (sym is ∙ fails)));
    }

pub none_past : (origin : Origin) (kind : List Branch) (place : Place) (there does : Bool)
    → there ≡ has terminals.Else (said origin.tokens.now kind) → there ≡ false → does ≡ has terminals.Do (said origin.tokens.now kind) → does ≡ false
    → ArePast place place (second_said origin kind place)
none_past origin kind place there does is fails is2 fails2 =
    let k = said origin.tokens.now kind in
    let count = ap (λ b. labels_of (ops_of (names_said origin.funcs.now) b (scope_at place) place.next)) (no_second k (sym is ∙ fails) (sym is2 ∙ fails2)) in
    record { scope = refl; next = omega arith }

-- an `scf.if`

module _ (origin : Origin) (kind : List Branch) (place mid : Place) where
  abbrev k : Phrase
  k = said origin.tokens.now kind

  abbrev names : List (List ℕ)
  names = names_said origin.funcs.now

  -- the second region begins where the first one ends
  same_second : scope_at mid ≡ scope_at place → mid.next ≡ place.next + labels_of (first_said origin kind place)
      → second_said origin kind mid ≡ ops_of names (region_behind k) (scope_at place) (place.next + labels_of (first_said origin kind place))
  same_second scope next =
      ap (λ s. ops_of names (region_behind k) s mid.next) scope ∙ ap (λ n. ops_of names (region_behind k) (scope_at place) n) next

  pub if_built : (c : Label) (first : Region) (other : Option Region)
      → c ≡ nth_use (scope_at place) 0 k → rows_of first ≡ first_said origin kind place → ends_of first ≡ first_ends origin kind (region_parts k) place
      → scope_at mid ≡ scope_at place → mid.next ≡ place.next + labels_of (first_said origin kind place)
      → is_some other ≡ has terminals.Else k → other_rows other ≡ second_said origin kind mid → other_ends other ≡ second_ends origin kind (else_parts k) mid
      → plain.If c (rows_of first) (ends_of first) (is_some other) (other_rows other) (other_ends other) ≡ if_said origin kind place
  if_built c first other c_is rows ends scope next there others ends2 =
      let second = ops_of names (region_behind k) (scope_at place) (place.next + labels_of (first_said origin kind place)) in
      let same = same_second scope next in
      let given : second_ends origin kind (else_parts k) mid ≡ labels (scope_at place ++ values_of (place.next + labels_of (first_said origin kind place)) second) (ending terminals.Yield (else_parts k)).uses =
      ap (λ s. labels (s ++ values_of mid.next (second_said origin kind mid)) (ending terminals.Yield (else_parts k)).uses) scope
      ∙ ap (λ n. labels (scope_at place ++ values_of n (second_said origin kind mid)) (ending terminals.Yield (else_parts k)).uses) next
      ∙ ap (λ ops. labels (scope_at place ++ values_of (place.next + labels_of (first_said origin kind place)) ops) (ending terminals.Yield (else_parts k)).uses) same in
      ap (λ x. plain.If x (rows_of first) (ends_of first) (is_some other) (other_rows other) (other_ends other)) c_is
      ∙ ap (λ x. plain.If (nth_use (scope_at place) 0 k) x (ends_of first) (is_some other) (other_rows other) (other_ends other)) rows
      ∙ ap (λ x. plain.If (nth_use (scope_at place) 0 k) (first_said origin kind place) x (is_some other) (other_rows other) (other_ends other)) ends
      ∙ ap (λ x. plain.If (nth_use (scope_at place) 0 k) (first_said origin kind place) (first_ends origin kind (region_parts k) place) x (other_rows other) (other_ends other)) there
      ∙ ap (λ x. plain.If (nth_use (scope_at place) 0 k) (first_said origin kind place) (first_ends origin kind (region_parts k) place) (has terminals.Else k) x (other_ends other)) (others ∙ same)
      ∙ ap (λ x. plain.If (nth_use (scope_at place) 0 k) (first_said origin kind place) (first_ends origin kind (region_parts k) place) (has terminals.Else k) second x) (ends2 ∙ given)

  pub if_past : (new : Place) → scope_at mid ≡ scope_at place → mid.next ≡ place.next + labels_of (first_said origin kind place)
      → scope_at new ≡ scope_at mid → new.next ≡ mid.next + labels_of (second_said origin kind mid)
      → IsPast place new (if_said origin kind place)
  if_past new scope next scope2 next2 =
      let same = ap labels_of (same_second scope next) in
      record { scope = scope2 ∙ scope; next = omega arith }

  -- an `scf.for`; its body begins at `mid`

  pub for_built : (header : ForHeader) (body : Region) (wanted : List IrType)
      → wanted ≡ tys (result_types k) → header ≡ for_header (scope_at place) k wanted
      → scope_at mid ≡ scope_at place ++ arg_values (place.next + 1) (header.iv ∷ header.args) → mid.next ≡ place.next + 2 + length header.args
      → rows_of body ≡ first_said origin kind mid → ends_of body ≡ first_ends origin kind (region_parts k) mid
      → plain.For header.lower header.upper header.step header.iv header.args header.inits (rows_of body) (ends_of body) ≡ for_said origin kind place
  for_built header body wanted types_are header_is scope next rows ends =
      let whole : header ≡ for_header (scope_at place) k (tys (result_types k)) = header_is ∙ ap (for_header (scope_at place) k) types_are in
      let inner = λ (h : ForHeader). scope_at place ++ arg_values (place.next + 1) (h.iv ∷ h.args) in
      let at = λ (h : ForHeader). place.next + 2 + length h.args in
      let ops = λ (h : ForHeader). ops_of names (region k) (inner h) (at h) in
      let rows_are : rows_of body ≡ ops header = rows ∙ ap (λ s. ops_of names (region k) s mid.next) scope ∙ ap (λ n. ops_of names (region k) (inner header) n) next in
      let ends_are : ends_of body ≡ labels (inner header ++ values_of (at header) (ops header)) (ending terminals.Yield (region_parts k)).uses =
      ends
      ∙ ap (λ s. labels (s ++ values_of mid.next (ops_of names (region k) s mid.next)) (ending terminals.Yield (region_parts k)).uses) scope
      ∙ ap (λ n. labels (inner header ++ values_of n (ops_of names (region k) (inner header) n)) (ending terminals.Yield (region_parts k)).uses) next in
      ap (λ x. plain.For header.lower header.upper header.step header.iv header.args header.inits x (ends_of body)) rows_are
      ∙ ap (λ x. plain.For header.lower header.upper header.step header.iv header.args header.inits (ops header) x) ends_are
      ∙ ap (λ (h : ForHeader). plain.For h.lower h.upper h.step h.iv h.args h.inits (ops h) (labels (inner h ++ values_of (at h) (ops h)) (ending terminals.Yield (region_parts k)).uses)) whole

  pub for_past : (inside new : Place) (header : ForHeader) (wanted : List IrType)
      → wanted ≡ tys (result_types k) → header ≡ for_header (scope_at place) k wanted
      → scope_at mid ≡ scope_at place ++ arg_values (place.next + 1) (header.iv ∷ header.args) → mid.next ≡ place.next + 2 + length header.args
      → inside.next ≡ mid.next + labels_of (first_said origin kind mid)
      → scope_at new ≡ scope_at place → new.next ≡ inside.next
      → IsPast place new (for_said origin kind place)
  for_past inside new header wanted types_are header_is scope next inner_next scope_is next_is =
      let whole : header ≡ for_header (scope_at place) k (tys (result_types k)) = header_is ∙ ap (for_header (scope_at place) k) types_are in
      let inner = λ (h : ForHeader). scope_at place ++ arg_values (place.next + 1) (h.iv ∷ h.args) in
      let at = λ (h : ForHeader). place.next + 2 + length h.args in
      let ops : first_said origin kind mid ≡ ops_of names (region k) (inner header) (at header) = ap (λ s. ops_of names (region k) s mid.next) scope ∙ ap (λ n. ops_of names (region k) (inner header) n) next in
      let count : labels_of (first_said origin kind mid) ≡ labels_of (ops_of names (region k) (inner header) (at header)) = ap labels_of ops in
      let sum : new.next ≡ place.next + (2 + length header.args + labels_of (ops_of names (region k) (inner header) (at header))) = omega arith in
      record {
        scope = scope_is;
        next = sum ∙ ap (λ (h : ForHeader). place.next + (2 + length h.args + labels_of (ops_of names (region k) (inner h) (at h)))) whole;
      }

  -- the same of what the code has built

  pub if_made : (c : Label) (first : Region) (other : Option Region) (parts : Phrase)
      → c ≡ nth_use (scope_at place) 0 k → parts ≡ region_parts k
      → HasParts first (first_said origin kind place) (first_ends origin kind parts place) → ArePast place mid (first_said origin kind place)
      → HasElse other (has terminals.Else k) (second_said origin kind mid) (second_ends origin kind (else_parts k) mid)
      → plain.If c (rows_of first) (ends_of first) (is_some other) (other_rows other) (other_ends other) ≡ if_said origin kind place
  if_made c first other parts c_is parts_is one past two =
      if_built c first other c_is one.rows (one.gives ∙ ap (λ p. first_ends origin kind p place) parts_is) past.scope past.next two.is_there two.rows two.gives

  pub for_made : (header : ForHeader) (body : Region) (wanted : List IrType) (parts : Phrase)
      → wanted ≡ tys (result_types k) → header ≡ for_header (scope_at place) k wanted
      → scope_at mid ≡ scope_at place ++ arg_values (place.next + 1) (header.iv ∷ header.args) → mid.next ≡ place.next + 2 + length header.args
      → parts ≡ region_parts k → HasParts body (first_said origin kind mid) (first_ends origin kind parts mid)
      → plain.For header.lower header.upper header.step header.iv header.args header.inits (rows_of body) (ends_of body) ≡ for_said origin kind place
  for_made header body wanted parts types_are header_is scope next parts_is h =
      for_built header body wanted types_are header_is scope next h.rows (h.gives ∙ ap (λ p. first_ends origin kind p mid) parts_is)

  pub for_left : (inside new : Place) (header : ForHeader) (wanted : List IrType) (outer : ℕ)
      → wanted ≡ tys (result_types k) → header ≡ for_header (scope_at place) k wanted
      → scope_at mid ≡ scope_at place ++ arg_values (place.next + 1) (header.iv ∷ header.args) → mid.next ≡ place.next + 2 + length header.args
      → ArePast mid inside (first_said origin kind mid)
      → outer ≡ length place.scope.values.items → scope_at new ≡ take outer (scope_at inside) → new.next ≡ inside.next
      → IsPast place new (for_said origin kind place)
  for_left inside new header wanted outer types_are header_is scope next past many cut same =
      for_past inside new header wanted types_are header_is scope next past.next
      (left_behind place inside new outer (arg_values (place.next + 1) (header.iv ∷ header.args)) many (past.scope ∙ scope) cut) same

  pub if_left : (new : Place) → ArePast place mid (first_said origin kind place) → ArePast mid new (second_said origin kind mid) → IsPast place new (if_said origin kind place)
  if_left new one two = if_past new one.scope one.next two.scope two.next
