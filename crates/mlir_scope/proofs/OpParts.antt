-- What holds of the parts of an operation without breaks.
use Rattle.std.proofs.Common.{◌≡◌, ℕ, ◌+◌, ◌==◌, ◌||◌, not, nat_le, nat_lt, true, false, List, [], ◌∷◌, ◌++◌, length, map, ap, if◌then◌else◌}
use Rattle.std.specs.List.{flat_map, list_any}
use Rattle.mlir_ir.specs.Limits.{arg_limit, carried_limit, loop_limit}
use Rattle.mlir_ir.specs.Phrases.{Phrase, Line, spots, has, first_spot}
use Rattle.mlir_ir.specs.Resolved.{args_of, packs_of, tys, inits_used, carried, variable_type}
use Rattle.mlir_ir.specs.Rules.{truth}
use Rattle.mlir_ir.specs.ScopeFaults.{Inside, broken, repeated, over, names_of, uses_breaks, type_breaks, differs, listed_breaks, written_breaks, ending_breaks, region_ending, total, many_results, packs_breaks, defined_by, operands, kind_breaks, block_breaks, if_breaks, for_breaks, while_breaks, carried_breaks, params_breaks, condition_breaks}
use Rattle.mlir_ir.specs.Source.{Block, none, op, Defined, Packed, Use, Written, Ending, defined, uses_in, types_in, listed_types, inits_of, ending, head, word, region_parts, else_parts, after_parts, after_params, op_types}
use Rattle.mlir_ir.specs.Values.{Value, arg_values, result_values}
use Rattle.mlir_ir.specs.declared.scope_kind.ScopeKind.TheVariants.{Limit, Arity, WrongType}
use Rattle.mlir_ir.specs.declared.terminal.Terminal.TheVariants as terminals
use Rattle.mlir_ir.specs.declared.types.IrType.{IrType}
use Rattle.mlir_scope.proofs.NoBreaks.{none_append, not_broken}
use Rattle.mlir_scope.proofs.Tests.{not_false, or_false}

-- the types of an operation's results
abbrev pub result_tys : Phrase → List IrType
result_tys kind = tys (op_types (head kind) kind)

pub record PacksKept (scope : List Value) (results : ℕ) (packs : List Packed) : Type 0 where
  pub apart : repeated (names_of scope) (map (λ (p : Packed). record { at = p.at; name = p.name }) packs) ≡ []
  pub few : many_results 0 packs ≡ []
  pub all_named : (total packs == results) ≡ true
  pub each_some : list_any (λ (p : Packed). p.count == 0) packs ≡ false

pub packs_kept : (scope : List Value) (at results : ℕ) (packs : List Packed) → packs_breaks scope at results packs ≡ [] → PacksKept scope results packs
packs_kept scope at results packs h =
    let a = none_append (repeated (names_of scope) (map (λ (p : Packed). record { at = p.at; name = p.name }) packs) ++ many_results 0 packs) (broken (not (total packs == results) || list_any (λ (p : Packed). p.count == 0) packs) at Arity) h in
    let b = none_append (repeated (names_of scope) (map (λ (p : Packed). record { at = p.at; name = p.name }) packs)) (many_results 0 packs) a.0 in
    let c = or_false (not (total packs == results)) (list_any (λ (p : Packed). p.count == 0) packs) (not_broken _ at Arity a.1) in
    record { apart = b.0; few = b.1; all_named = not_false (total packs == results) c.0; each_some = c.1 }

pub record OpKept (lines : List Line) (packs : List Packed) (kind : Phrase) (first second rest : Block) (loops : ℕ) (scope : List Value) : Type 0 where
  pub used : uses_breaks scope (word kind).at (operands (head kind) kind) ≡ []
  pub packed : PacksKept scope (length (result_tys kind)) packs
  pub inside : kind_breaks lines loops scope (head kind) kind first second (block_breaks lines first) (block_breaks lines second) ≡ []
  pub behind : block_breaks lines rest loops (scope ++ result_values 0 (packs_of packs) (result_tys kind)) ≡ []

pub op_kept : (lines : List Line) (spot : ℕ) (packs : List Packed) (kind : Phrase) (first second rest : Block) (loops : ℕ) (scope : List Value)
    → block_breaks lines (op spot packs kind first second rest) loops scope ≡ [] → OpKept lines packs kind first second rest loops scope
op_kept lines spot packs kind first second rest loops scope h =
    let a = none_append (uses_breaks scope (word kind).at (operands (head kind) kind) ++ packs_breaks scope (word kind).at (length (result_tys kind)) packs ++ kind_breaks lines loops scope (head kind) kind first second (block_breaks lines first) (block_breaks lines second)) (block_breaks lines rest loops (scope ++ result_values 0 (packs_of packs) (result_tys kind))) h in
    let b = none_append (uses_breaks scope (word kind).at (operands (head kind) kind) ++ packs_breaks scope (word kind).at (length (result_tys kind)) packs) (kind_breaks lines loops scope (head kind) kind first second (block_breaks lines first) (block_breaks lines second)) a.0 in
    let c = none_append (uses_breaks scope (word kind).at (operands (head kind) kind)) (packs_breaks scope (word kind).at (length (result_tys kind)) packs) b.0 in
    record { used = c.0; packed = packs_kept scope (word kind).at (length (result_tys kind)) packs c.1; inside = b.1; behind = a.1 }

-- an operation without those behind it
pub alone_kept : (lines : List Line) (spot : ℕ) (packs : List Packed) (kind : Phrase) (first second rest : Block) (loops : ℕ) (scope : List Value)
    → block_breaks lines (op spot packs kind first second rest) loops scope ≡ [] → block_breaks lines (op spot packs kind first second none) loops scope ≡ []
alone_kept lines spot packs kind first second rest loops scope h =
    ap (λ bs. bs ++ []) (none_append _ (block_breaks lines rest loops (scope ++ result_values 0 (packs_of packs) (result_tys kind))) h).0

-- terminators

-- uses with as many types that belong to them
pub record ListKept (scope : List Value) (at : ℕ) (uses : List Use) (types : List IrType) : Type 0 where
  pub fit : type_breaks scope uses types ≡ []
  pub many : (length uses == length types) ≡ true

pub list_kept : (scope : List Value) (at : ℕ) (uses : List Use) (types : List IrType) → listed_breaks scope at uses types ≡ [] → ListKept scope at uses types
list_kept scope at uses types h =
    let a = none_append (type_breaks scope uses types) (broken (not (length uses == length types)) at Arity) h in
    record { fit = a.0; many = not_false (length uses == length types) (not_broken _ at Arity a.1) }

pub record EndKept (scope : List Value) (wanted : List IrType) (e : Ending) : Type 0 where
  pub used : uses_breaks scope e.word e.uses ≡ []
  pub listed : ListKept scope e.word e.uses (tys e.types)
  pub written : written_breaks e.types wanted ≡ []
  pub many : (length e.uses == length wanted) ≡ true

pub end_kept : (scope : List Value) (wanted : List IrType) (e : Ending) → ending_breaks scope wanted e ≡ [] → EndKept scope wanted e
end_kept scope wanted e h =
    let a = none_append (uses_breaks scope e.word e.uses ++ listed_breaks scope e.word e.uses (tys e.types) ++ written_breaks e.types wanted) (broken (not (length e.uses == length wanted)) e.word Arity) h in
    let b = none_append (uses_breaks scope e.word e.uses ++ listed_breaks scope e.word e.uses (tys e.types)) (written_breaks e.types wanted) a.0 in
    let c = none_append (uses_breaks scope e.word e.uses) (listed_breaks scope e.word e.uses (tys e.types)) b.0 in
    record { used = c.0; listed = list_kept scope e.word e.uses (tys e.types) c.1; written = b.1; many = not_false (length e.uses == length wanted) (not_broken _ e.word Arity a.1) }

-- operations with regions

module _ (loops : ℕ) (scope : List Value) (kind : Phrase) (wanted : List IrType) where
  pub record IfKept (first second : Block) (in_first in_second : Inside) : Type 0 where
    pub condition : type_breaks scope (uses_in kind) (truth ∷ []) ≡ []
    pub first_inside : in_first loops scope ≡ []
    pub first_ends : region_ending (scope ++ defined_by first) (word kind).at wanted (region_parts kind) ≡ []
    pub second_inside : in_second loops scope ≡ []
    pub second_ends : (if has terminals.Else kind then region_ending (scope ++ defined_by second) (word kind).at wanted (else_parts kind) else broken (nat_lt 0 (length wanted)) (word kind).at Arity) ≡ []

  pub if_kept : (first second : Block) (in_first in_second : Inside) → if_breaks loops scope kind wanted first second in_first in_second ≡ [] → IfKept first second in_first in_second
  if_kept first second in_first in_second h =
      let a = none_append _ _ h in
      let b = none_append _ _ a.0 in
      let c = none_append _ _ b.0 in
      let d = none_append _ _ c.0 in
      record { condition = d.0; first_inside = d.1; first_ends = c.1; second_inside = b.1; second_ends = a.1 }

  pub record CarriedKept (before : List Defined) (types : List IrType) : Type 0 where
    pub listed : ListKept scope (word kind).at (inits_used (inits_of kind)) types
    pub apart : repeated (names_of scope) (before ++ map (λ (p : Defined × Use). p.0) (inits_of kind)) ≡ []
    pub few : over carried_limit (map (λ (p : Defined × Use). p.0.at) (inits_of kind)) ≡ []
    pub shallow : nat_le loop_limit loops ≡ false

  pub carried_kept : (before : List Defined) (types : List IrType) → carried_breaks scope loops kind before types ≡ [] → CarriedKept before types
  carried_kept before types h =
      let a = none_append _ _ h in
      let b = none_append _ _ a.0 in
      let c = none_append _ _ b.0 in
      record { listed = list_kept scope (word kind).at (inits_used (inits_of kind)) types c.0; apart = c.1; few = b.1; shallow = not_broken _ (word kind).at Limit a.1 }

  abbrev pub variable : Defined
  variable = defined (first_spot (spots terminals.Value kind))

  abbrev pub inner_scope : List Value
  inner_scope = scope ++ arg_values 0 (record { name = variable.name; ty = variable_type (types_in kind) } ∷ carried (inits_of kind) wanted)

  pub record ForKept (body : Block) (in_body : Inside) : Type 0 where
    pub bounds : flat_map (λ u. broken (differs scope u (variable_type (types_in kind))) u.at WrongType) (uses_in kind) ≡ []
    pub header : CarriedKept (variable ∷ []) wanted
    pub inside : in_body (loops + 1) inner_scope ≡ []
    pub ends : region_ending (inner_scope ++ defined_by body) (word kind).at wanted (region_parts kind) ≡ []

  pub for_kept : (body : Block) (in_body : Inside) → for_breaks loops scope kind wanted body in_body ≡ [] → ForKept body in_body
  for_kept body in_body h =
      let a = none_append _ _ h in
      let b = none_append _ _ a.0 in
      let c = none_append _ _ b.0 in
      record { bounds = c.0; header = carried_kept (variable ∷ []) wanted c.1; inside = b.1; ends = a.1 }

  abbrev pub started : List IrType
  started = tys (listed_types kind)

  abbrev pub before_scope : List Value
  before_scope = scope ++ arg_values 0 (carried (inits_of kind) started)

  abbrev pub after_scope : List Value
  after_scope = scope ++ arg_values 0 (args_of (after_params kind))

  pub record ParamsKept : Type 0 where
    pub apart : repeated (names_of scope) (map (λ (p : Defined × Written). p.0) (after_params kind)) ≡ []
    pub few : over arg_limit (map (λ (p : Defined × Written). p.0.at) (after_params kind)) ≡ []
    pub written : written_breaks (map (λ (p : Defined × Written). p.1) (after_params kind)) wanted ≡ []
    pub many : (length (after_params kind) == length wanted) ≡ true

  pub params_kept : params_breaks scope (word kind).at wanted (after_params kind) ≡ [] → ParamsKept
  params_kept h =
      let a = none_append _ _ h in
      let b = none_append _ _ a.0 in
      let c = none_append _ _ b.0 in
      record { apart = c.0; few = c.1; written = b.1; many = not_false (length (after_params kind) == length wanted) (not_broken _ (word kind).at Arity a.1) }

  pub record WhileKept (before after : Block) (in_before in_after : Inside) : Type 0 where
    pub header : CarriedKept [] started
    pub before_inside : in_before (loops + 1) before_scope ≡ []
    pub condition : condition_breaks (before_scope ++ defined_by before) kind wanted ≡ []
    pub params : ParamsKept
    pub after_inside : in_after (loops + 1) after_scope ≡ []
    pub after_ends : EndKept (after_scope ++ defined_by after) started (ending terminals.Yield (after_parts kind))

  pub while_kept : (before after : Block) (in_before in_after : Inside) → while_breaks loops scope kind wanted before after in_before in_after ≡ [] → WhileKept before after in_before in_after
  while_kept before after in_before in_after h =
      let a = none_append _ _ h in
      let b = none_append _ _ a.0 in
      let c = none_append _ _ b.0 in
      let d = none_append _ _ c.0 in
      let e = none_append _ _ d.0 in
      record {
        header = carried_kept [] started e.0;
        before_inside = e.1;
        condition = d.1;
        params = params_kept c.1;
        after_inside = b.1;
        after_ends = end_kept (after_scope ++ defined_by after) started (ending terminals.Yield (after_parts kind)) a.1;
      }
