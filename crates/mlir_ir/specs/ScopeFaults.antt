-- What a syntax breaks of the rules on limits, names, types and lengths. All breaks are listed, each with its token; none depends on
-- an earlier one. The fault is the one with the least token, and of several at one token the first in the order of `ScopeKind`.
use Rattle.std.specs.Prelude.{ℕ, ◌≡◌, ◌+◌, ◌-◌, ◌==◌, ◌&&◌, ◌||◌, ◌^◌, not, nat_le, nat_lt, Bool, true, false, List, [], ◌∷◌, ◌++◌, Contains, All, drop, find, length, map, take, if◌then◌else◌}
use Rattle.std.specs.List.{flat_map, list_any}
use Rattle.std.specs.Option.{is_some, option_map_or}
use Rattle.std.specs.Str.{bytes_eq}
use Rattle.mlir_ir.specs.Phrases.{Phrase, Line, spots, lines, inside, has, first_spot}
use Rattle.mlir_ir.specs.Resolved.{func_name, func_args, func_lines, args_of, packs_of, tys, used, inits_used, carried, variable_type, magnitude, cast_named}
use Rattle.mlir_ir.specs.Limits.{func_limit, module_op_limit, op_limit, item_limit, label_limit, arg_limit, carried_limit, result_limit, loop_limit, name_limit}
use Rattle.mlir_ir.specs.Rules.{casts, same_type, truth, has_name}
use Rattle.mlir_ir.specs.Source.{Block, none, op, Defined, Packed, Use, Written, Ending, defined, block, uses_in, types_in, listed_uses, listed_types, result_types, params_in, inits_of, ending, head, word, region_parts, else_parts, before_parts, after_parts, after_params, op_types, unsigned}
use Rattle.mlir_ir.specs.Values.{Value, arg_values, result_values}
use Rattle.mlir_ir.specs.Words.{bits_of}
use Rattle.mlir_ir.specs.declared.scope_kind.ScopeKind.{ScopeKind}
use Rattle.mlir_ir.specs.declared.scope_kind.ScopeKind.TheVariants.{Limit, Twice, Unknown, Arity, WrongType}
use Rattle.mlir_ir.specs.declared.terminal.Terminal.{Terminal}
use Rattle.mlir_ir.specs.declared.terminal.Terminal.TheVariants as terminals
use Rattle.mlir_ir.specs.declared.token.Token.{Token}
use Rattle.mlir_ir.specs.declared.token.TokenKind.{TokenKind}
use Rattle.mlir_ir.specs.declared.token.TokenKind.TheVariants as kinds
use Rattle.mlir_ir.specs.declared.syntax.Form.TheVariants as forms
use Rattle.mlir_ir.specs.declared.types.IrType.{IrType}
use Rattle.mlir_ir.specs.declared.types.IrType.TheVariants.{Int, Index}

pub record Break : Type 0 where
  pub at : ℕ
  pub kind : ScopeKind

-- a break at that token, where the condition holds
abbrev pub broken : Bool → ℕ → ScopeKind → List Break
broken true at kind = record { at = at; kind = kind } ∷ []
broken false at kind = []

-- the first of some tokens that is one too many
abbrev pub over : ℕ → List ℕ → List Break
over limit tokens = map (λ at. record { at = at; kind = Limit }) (take 1 (drop limit tokens))

-- names

abbrev pub has_value_name : TokenKind → Bool
has_value_name kinds.Value = true
has_value_name kinds.Symbol = true
has_value_name kinds.Caret = true
has_value_name _ = false

-- the tokens, from number k on, whose names have too many bytes
abbrev pub long_names : ℕ → List Token → List Break
long_names k [] = []
long_names k (token ∷ tokens) =
    broken (has_value_name token.kind && nat_lt name_limit (length (unsigned token.text))) k Limit ++ long_names (k + 1) tokens

abbrev pub is_defined : List ℕ → List (List ℕ) → Bool
is_defined name names = list_any (bytes_eq name) names

-- definitions in turn, where these names are in scope
abbrev pub repeated : List (List ℕ) → List Defined → List Break
repeated names [] = []
repeated names (d ∷ ds) = broken (is_defined d.name names) d.at Twice ++ repeated (d.name ∷ names) ds

abbrev pub names_of : List Value → List (List ℕ)
names_of scope = map (λ (v : Value). v.name) scope

-- uses

-- a use, at an operation or terminator whose word has that token
abbrev pub use_breaks : List Value → ℕ → Use → List Break
use_breaks scope at u =
    broken (not (has_name scope u.name)) u.at Unknown
    ++ broken (has_name scope u.name && not (is_some (used scope u))) at Arity

abbrev pub uses_breaks : List Value → ℕ → List Use → List Break
uses_breaks scope at uses = flat_map (use_breaks scope at) uses

-- a use has another type
abbrev pub differs : List Value → Use → IrType → Bool
differs scope u ty = option_map_or (λ (v : Value). not (same_type ty v.ty)) (used scope u) false

-- uses have the types that belong to them, as far as both lists go
abbrev pub type_breaks : List Value → List Use → List IrType → List Break
type_breaks scope (u ∷ uses) (ty ∷ types) = broken (differs scope u ty) u.at WrongType ++ type_breaks scope uses types
type_breaks scope _ _ = []

-- written types are those that they belong to
abbrev pub written_breaks : List Written → List IrType → List Break
written_breaks (t ∷ types) (ty ∷ wanted) = broken (not (same_type t.ty ty)) t.at WrongType ++ written_breaks types wanted
written_breaks _ _ = []

-- uses with as many types that belong to them
abbrev pub listed_breaks : List Value → ℕ → List Use → List IrType → List Break
listed_breaks scope at uses types = type_breaks scope uses types ++ broken (not (length uses == length types)) at Arity

-- the operands of a terminator, of which these types are wanted
abbrev pub ending_breaks : List Value → List IrType → Ending → List Break
ending_breaks scope wanted e =
    uses_breaks scope e.word e.uses
    ++ listed_breaks scope e.word e.uses (tys e.types)
    ++ written_breaks e.types wanted
    ++ broken (not (length e.uses == length wanted)) e.word Arity

-- a region that ends with a yield, or may lack it where nothing is wanted of it; at is the word of its operation
abbrev pub region_ending : List Value → ℕ → List IrType → Phrase → List Break
region_ending scope at wanted parts =
    if has terminals.Yield parts
    then ending_breaks scope wanted (ending terminals.Yield parts)
    else broken (nat_lt 0 (length wanted)) at Arity

-- results

-- how many results the packs have
abbrev pub total : List Packed → ℕ
total [] = 0
total (p ∷ packs) = p.count + total packs

-- packs with which there are too many results, where so many come before
abbrev pub many_results : ℕ → List Packed → List Break
many_results n [] = []
many_results n (p ∷ packs) = broken (nat_lt result_limit (n + p.count)) p.at Limit ++ many_results (n + p.count) packs

abbrev pub packs_breaks : List Value → ℕ → ℕ → List Packed → List Break
packs_breaks scope at results packs =
    repeated (names_of scope) (map (λ (p : Packed). record { at = p.at; name = p.name }) packs)
    ++ many_results 0 packs
    ++ broken (not (total packs == results) || list_any (λ (p : Packed). p.count == 0) packs) at Arity

-- operations without regions

-- whether a literal is none of w bits: below -2^(w-1) or above 2^w - 1
abbrev pub is_too_wide : ℕ → Phrase → Bool
is_too_wide w kind = if has terminals.Minus kind then nat_lt (2 ^ (w - 1)) (magnitude kind) else nat_le (2 ^ w) (magnitude kind)

abbrev pub literal_breaks : Phrase → List Written → List Break
literal_breaks kind [] = []
literal_breaks kind (t ∷ types) = broken (is_too_wide (bits_of t.ty) kind) t.at WrongType

abbrev pub is_index : IrType → Bool
is_index Index = true
is_index _ = false

-- an index cast takes an `index`; the others break at their first type where that is one
abbrev pub takes_index : Terminal → List ℕ → Bool
takes_index c text = casts (cast_named text) Index (Int 1)

abbrev pub cast_breaks : Phrase → List Written → List Break
cast_breaks kind (from ∷ to ∷ types) =
    if is_index from.ty && not (takes_index (head kind) (word kind).text)
    then broken true from.at WrongType
    else broken (not (casts (cast_named (word kind).text) from.ty to.ty)) to.at WrongType
cast_breaks kind _ = []

-- each use in the line has the written type
abbrev pub same_written : List Value → List Use → List Written → List Break
same_written scope uses [] = []
same_written scope uses (t ∷ types) = flat_map (λ u. broken (differs scope u t.ty) u.at WrongType) uses

abbrev pub call_types : List Value → ℕ → Phrase → List IrType → List IrType → List Break
call_types scope at kind args results =
    written_breaks (listed_types kind) args
    ++ written_breaks (result_types kind) results
    ++ broken (not (length (listed_types kind) == length args) || not (length (result_types kind) == length results)) at Arity

-- a call's types against those of its callee
abbrev pub callee_breaks : List Line → List Value → Phrase → List Break
callee_breaks funcs scope kind =
    let callee = first_spot (spots terminals.Symbol kind) in
    option_map_or
    (λ (f : Line). call_types scope (word kind).at kind (map (λ arg. arg.ty) (func_args f)) (tys (result_types f.parts)))
    (find (λ f. bytes_eq (func_name f) (unsigned callee.text)) funcs)
    (broken true callee.at Unknown)

abbrev pub call_breaks : List Line → List Value → Phrase → List Break
call_breaks funcs scope kind =
    listed_breaks scope (word kind).at (listed_uses kind) (tys (listed_types kind))
    ++ over arg_limit (map (λ (u : Use). u.at) (listed_uses kind))
    ++ callee_breaks funcs scope kind

abbrev pub simple_breaks : List Line → List Value → Terminal → Phrase → List Break
simple_breaks funcs scope terminals.Constant kind = literal_breaks kind (types_in kind)
simple_breaks funcs scope terminals.Cast kind = same_written scope (uses_in kind) (types_in kind) ++ cast_breaks kind (types_in kind)
simple_breaks funcs scope terminals.FlaggedCast kind = same_written scope (uses_in kind) (types_in kind) ++ cast_breaks kind (types_in kind)
simple_breaks funcs scope terminals.Select kind =
    type_breaks scope (take 1 (uses_in kind)) (truth ∷ []) ++ same_written scope (drop 1 (uses_in kind)) (types_in kind)
simple_breaks funcs scope terminals.Call kind = call_breaks funcs scope kind
simple_breaks funcs scope _ kind = same_written scope (uses_in kind) (types_in kind)

-- blocks of operations

-- the values that operations define outside their regions; their labels have no part in faults
abbrev pub defined_by : Block → List Value
defined_by none = []
defined_by (op spot packs kind first second rest) = result_values 0 (packs_of packs) (tys (op_types (head kind) kind)) ++ defined_by rest

-- the values that an operation itself uses, besides those in its regions
abbrev pub operands : Terminal → Phrase → List Use
operands terminals.Call kind = listed_uses kind
operands terminals.For kind = uses_in kind ++ inits_used (inits_of kind)
operands terminals.While kind = inits_used (inits_of kind)
operands _ kind = uses_in kind

-- the breaks in a region, where so many loops are open and these values are in scope
abbrev pub Inside : Type 0
Inside = ℕ → List Value → List Break

-- an `scf.if`, of which these types are wanted
abbrev pub if_breaks : ℕ → List Value → Phrase → List IrType → Block → Block → Inside → Inside → List Break
if_breaks loops scope kind wanted first second in_first in_second =
    type_breaks scope (uses_in kind) (truth ∷ [])
    ++ in_first loops scope
    ++ region_ending (scope ++ defined_by first) (word kind).at wanted (region_parts kind)
    ++ in_second loops scope
    ++ (if has terminals.Else kind then region_ending (scope ++ defined_by second) (word kind).at wanted (else_parts kind) else broken (nat_lt 0 (length wanted)) (word kind).at Arity)

-- loop-carried values with the types that belong to them, beside these definitions before them in a loop's header
abbrev pub carried_breaks : List Value → ℕ → Phrase → List Defined → List IrType → List Break
carried_breaks scope loops kind before types =
    listed_breaks scope (word kind).at (inits_used (inits_of kind)) types
    ++ repeated (names_of scope) (before ++ map (λ (p : Defined × Use). p.0) (inits_of kind))
    ++ over carried_limit (map (λ (p : Defined × Use). p.0.at) (inits_of kind))
    ++ broken (nat_le loop_limit loops) (word kind).at Limit

abbrev pub for_breaks : ℕ → List Value → Phrase → List IrType → Block → Inside → List Break
for_breaks loops scope kind wanted body in_body =
    let iv = defined (first_spot (spots terminals.Value kind)) in
    let ty = variable_type (types_in kind) in
    let inner = scope ++ arg_values 0 (record { name = iv.name; ty = ty } ∷ carried (inits_of kind) wanted) in
    flat_map (λ u. broken (differs scope u ty) u.at WrongType) (uses_in kind)
    ++ carried_breaks scope loops kind (iv ∷ []) wanted
    ++ in_body (loops + 1) inner
    ++ region_ending (inner ++ defined_by body) (word kind).at wanted (region_parts kind)

-- the parameters behind `do`, which have the result types
abbrev pub params_breaks : List Value → ℕ → List IrType → List (Defined × Written) → List Break
params_breaks scope at wanted params =
    repeated (names_of scope) (map (λ (p : Defined × Written). p.0) params)
    ++ over arg_limit (map (λ (p : Defined × Written). p.0.at) params)
    ++ written_breaks (map (λ (p : Defined × Written). p.1) params) wanted
    ++ broken (not (length params == length wanted)) at Arity

-- the condition and the values that are passed on
abbrev pub condition_breaks : List Value → Phrase → List IrType → List Break
condition_breaks scope kind wanted =
    let condition = ending terminals.Condition (before_parts kind) in
    uses_breaks scope condition.word (uses_in kind)
    ++ type_breaks scope (uses_in kind) (truth ∷ [])
    ++ ending_breaks scope wanted condition

abbrev pub while_breaks : ℕ → List Value → Phrase → List IrType → Block → Block → Inside → Inside → List Break
while_breaks loops scope kind wanted before after in_before in_after =
    let types = tys (listed_types kind) in
    let first = scope ++ arg_values 0 (carried (inits_of kind) types) in
    let second = scope ++ arg_values 0 (args_of (after_params kind)) in
    carried_breaks scope loops kind [] types
    ++ in_before (loops + 1) first
    ++ condition_breaks (first ++ defined_by before) kind wanted
    ++ params_breaks scope (word kind).at wanted (after_params kind)
    ++ in_after (loops + 1) second
    ++ ending_breaks (second ++ defined_by after) types (ending terminals.Yield (after_parts kind))

abbrev pub kind_breaks : List Line → ℕ → List Value → Terminal → Phrase → Block → Block → Inside → Inside → List Break
kind_breaks funcs loops scope terminals.If kind first second in_first in_second =
    if_breaks loops scope kind (tys (result_types kind)) first second in_first in_second
kind_breaks funcs loops scope terminals.For kind first second in_first in_second =
    for_breaks loops scope kind (tys (result_types kind)) first in_first
kind_breaks funcs loops scope terminals.While kind first second in_first in_second =
    while_breaks loops scope kind (tys (result_types kind)) first second in_first in_second
kind_breaks funcs loops scope c kind first second in_first in_second = simple_breaks funcs scope c kind

abbrev pub block_breaks : List Line → Block → ℕ → List Value → List Break
block_breaks funcs none loops scope = []
block_breaks funcs (op spot packs kind first second rest) loops scope =
    let results = tys (op_types (head kind) kind) in
    uses_breaks scope (word kind).at (operands (head kind) kind)
    ++ packs_breaks scope (word kind).at (length results) packs
    ++ kind_breaks funcs loops scope (head kind) kind first second (block_breaks funcs first) (block_breaks funcs second)
    ++ block_breaks funcs rest loops (scope ++ result_values 0 (packs_of packs) results)

-- limits of a function

-- where the operations begin, in the order of the text
abbrev pub op_tokens : Block → List ℕ
op_tokens none = []
op_tokens (op spot packs kind first second rest) = spot ∷ op_tokens first ++ op_tokens second ++ op_tokens rest

abbrev pub item_tokens : Block → List ℕ
item_tokens none = []
item_tokens (op spot packs kind first second rest) = spot ∷ item_tokens rest

-- the labels of a loop's counter and variables
abbrev pub header_labels : Terminal → Phrase → ℕ
header_labels terminals.For kind = 2 + length (inits_of kind)
header_labels terminals.While kind = 1 + length (inits_of kind) + length (after_params kind)
header_labels _ kind = 0

-- how many labels operations take, by the packs of their results
abbrev pub block_labels : Block → ℕ
block_labels none = 0
block_labels (op spot packs kind first second rest) =
    header_labels (head kind) kind + block_labels first + block_labels second + total packs + block_labels rest

-- items with too many labels
abbrev pub wide_items : Block → List Break
wide_items none = []
wide_items (op spot packs kind first second rest) =
    broken (nat_lt label_limit (block_labels (op spot packs kind first second none))) spot Limit ++ wide_items rest

abbrev pub body_breaks : List Line → Line → Line → List Break
body_breaks funcs f body =
    let scope = arg_values 0 (func_args f) in
    let operations = block body.parts in
    over item_limit (item_tokens operations)
    ++ over op_limit (op_tokens operations)
    ++ wide_items operations
    ++ block_breaks funcs operations 0 scope
    ++ ending_breaks (scope ++ defined_by operations) (tys (result_types f.parts)) (ending terminals.Return body.parts)

-- where the arguments of a function begin: at their names, or at the types of a declaration
abbrev pub arg_tokens : Line → List ℕ
arg_tokens f =
    map (λ (p : Defined × Written). p.0.at) (params_in (inside forms.Params f.parts))
    ++ map (λ (t : Written). t.at) (listed_types f.parts)

abbrev pub func_breaks : List Line → Line → List Break
func_breaks funcs f =
    repeated [] (map (λ (p : Defined × Written). p.0) (params_in (inside forms.Params f.parts)))
    ++ over arg_limit (arg_tokens f)
    ++ over result_limit (map (λ (t : Written). t.at) (result_types f.parts))
    ++ flat_map (body_breaks funcs f) (lines forms.Body f.parts)

-- where the operations of a function begin
abbrev pub func_op_tokens : Line → List ℕ
func_op_tokens f = flat_map (λ (body : Line). op_tokens (block body.parts)) (lines forms.Body f.parts)

abbrev pub func_names : List Line → List Defined
func_names funcs = map (λ (f : Line). defined (first_spot (spots terminals.Symbol f.parts))) funcs

-- all breaks of a text with these tokens
abbrev pub text_breaks : List Token → Phrase → List Break
text_breaks tokens text =
    let funcs = func_lines text in
    long_names 0 tokens
    ++ over func_limit (map (λ (f : Line). f.at) funcs)
    ++ over module_op_limit (flat_map func_op_tokens funcs)
    ++ repeated [] (func_names funcs)
    ++ flat_map (func_breaks funcs) funcs

-- the fault

abbrev pub rank : ScopeKind → ℕ
rank Limit = 0
rank Twice = 1
rank Unknown = 2
rank Arity = 3
rank WrongType = 4

-- whether a break counts before another, or is that one
abbrev pub counts_before : Break → Break → Bool
counts_before a b = nat_lt a.at b.at || a.at == b.at && nat_le (rank a.kind) (rank b.kind)

-- the one that counts of some breaks
pub record IsFirstBreak (breaks : List Break) (b : Break) : Type 0 where
  pub among : Contains breaks b
  pub first : All (λ other. counts_before b other ≡ true) breaks
