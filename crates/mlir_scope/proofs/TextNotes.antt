-- What a body breaks, and a whole text, part by part.
use Rattle.std.proofs.Common.{◌≡◌, ℕ, List, [], ◌∷◌, ◌++◌, map, slice_get, if◌then◌else◌, Bool, true, false, Option, Some, None, refl, ap, ◌∙◌, sym, append_assoc}
use Rattle.std.specs.List.{flat_map}
use Rattle.mlir_ir.specs.GrammarNumbers.{same_form}
use Rattle.mlir_ir.specs.Phrases.{Phrase, Line, done, line, inside, phrase_of, with_token}
use Rattle.mlir_ir.specs.Resolved.{func_args, func_lines}
use Rattle.mlir_ir.specs.ScopeFaults.{over, item_tokens, op_tokens, wide_items, block_breaks, body_breaks, defined_by, long_names, repeated, func_names, func_op_tokens, func_breaks, text_breaks}
use Rattle.mlir_ir.specs.Trees.{put, none}
use Rattle.mlir_ir.specs.declared.syntax.Branch.{Branch, out-Branch}
use Rattle.mlir_ir.specs.declared.syntax.Form.{Form}
use Rattle.mlir_ir.specs.declared.syntax.Form.TheVariants.{Leaf, Whole, Func, Params, Types, Results, TypeName, Body, Ends, Uses, Use, Op, Pack, Kind, Inits, Region, Flags}
use Rattle.mlir_ir.proofs.Branches.{put_is}
use Rattle.mlir_scope.specs.Said.{said}
use Rattle.mlir_ir.specs.Source.{Block, block}
use Rattle.mlir_ir.specs.Values.{Value, arg_values}
use Rattle.mlir_ir.specs.declared.token.Token.{Token}
use Rattle.mlir_scope.specs.Noted.{noted}
use Rattle.mlir_scope.specs.TextParts.{list_breaks, module_breaks}
use Rattle.mlir_scope.specs.Walks.{return_breaks}
use Rattle.mlir_scope.specs.declared.first.ScopeFault.{ScopeFault}
use Rattle.mlir_scope.proofs.NotedOrder.{noted_swap}
use Rattle.mlir_scope.proofs.Notes.{noted_append, noted_two, noted_three, noted_four}

-- the limits, the operations and the returned values of a body
pub body_noted : (funcs : List Line) (f body : Line) (ops : Block) (start inner : List Value) (best one two three : Option ScopeFault)
    → ops ≡ block body.parts → start ≡ []
    → one ≡ noted best ((over 1023 (item_tokens ops) ++ over 8192 (op_tokens ops)) ++ wide_items ops)
    → two ≡ noted one (block_breaks funcs ops 0 (start ++ arg_values 0 (func_args f)))
    → inner ≡ start ++ (arg_values 0 (func_args f) ++ defined_by ops)
    → three ≡ noted two (return_breaks inner f body)
    → three ≡ noted best (body_breaks funcs f body)
body_noted funcs f body ops start inner best one two three ops_is none_is g h put k =
    let args = arg_values 0 (func_args f) in
    let all = block body.parts in
    let scope : inner ≡ args ++ defined_by all = put ∙ ap (λ (s : List Value). s ++ (args ++ defined_by ops)) none_is ∙ ap (λ b. args ++ defined_by b) ops_is in
    noted_three best one two three
    ((over 1023 (item_tokens all) ++ over 8192 (op_tokens all)) ++ wide_items all)
    (block_breaks funcs all 0 args)
    (return_breaks (args ++ defined_by all) f body)
    (g ∙ ap (λ b. noted best ((over 1023 (item_tokens b) ++ over 8192 (op_tokens b)) ++ wide_items b)) ops_is)
    (h ∙ ap (λ b. noted one (block_breaks funcs b 0 (start ++ args))) ops_is ∙ ap (λ (s : List Value). noted one (block_breaks funcs all 0 (s ++ args))) none_is)
    (k ∙ ap (λ s. noted two (return_breaks s f body)) scope)

-- names, what functions break together, and each function
pub text_noted : (tokens : List Token) (text : Phrase) (funcs : List Line) (best one two three : Option ScopeFault)
    → funcs ≡ func_lines text
    → one ≡ noted best (long_names 0 tokens) → two ≡ noted one (module_breaks funcs) → three ≡ noted two (flat_map (func_breaks funcs) funcs)
    → three ≡ noted best (text_breaks tokens text)
text_noted tokens text funcs best one two three is f g h =
    let a = long_names 0 tokens in
    let b = over 256 (map (λ (l : Line). l.at) funcs) in
    let c = over 65536 (flat_map func_op_tokens funcs) in
    let d = repeated [] (func_names funcs) in
    let e = flat_map (func_breaks funcs) funcs in
    let later : two ≡ noted (noted (noted one b) c) d = g ∙ noted_append one (b ++ c) d ∙ ap (λ o. noted o d) (noted_append one b c) in
    let first : two ≡ noted best (((a ++ b) ++ c) ++ d) = noted_four best one (noted one b) (noted (noted one b) c) two a b c d f refl refl later in
    noted_two best two three (((a ++ b) ++ c) ++ d) e first h
    ∙ ap (λ (fs : List Line). noted best ((((long_names 0 tokens ++ over 256 (map (λ (l : Line). l.at) fs)) ++ over 65536 (flat_map func_op_tokens fs)) ++ repeated [] (func_names fs)) ++ flat_map (func_breaks fs) fs)) is

-- the same, where the number of operations is noted last
pub text_noted_late : (tokens : List Token) (text : Phrase) (funcs : List Line) (best one two three four : Option ScopeFault)
    → funcs ≡ func_lines text
    → one ≡ noted best (long_names 0 tokens) → two ≡ noted one (list_breaks funcs) → three ≡ noted two (flat_map (func_breaks funcs) funcs)
    → four ≡ noted three (over 65536 (flat_map func_op_tokens funcs))
    → four ≡ noted best (text_breaks tokens text)
text_noted_late tokens text funcs best one two three four is f g h k =
    let b = over 256 (map (λ (l : Line). l.at) funcs) in
    let c = over 65536 (flat_map func_op_tokens funcs) in
    let d = repeated [] (func_names funcs) in
    let e = flat_map (func_breaks funcs) funcs in
    let o = noted one b in
    let third : three ≡ noted o (d ++ e) = h ∙ ap (λ p. noted p e) (g ∙ noted_append one b d) ∙ sym (noted_append o d e) in
    let last : four ≡ noted (noted (noted o c) d) e = k ∙ ap (λ p. noted p c) third ∙ noted_swap o (d ++ e) c ∙ noted_append (noted o c) d e in
    let counted : noted (noted o c) d ≡ noted one (module_breaks funcs) = sym (noted_append one (b ++ c) d ∙ ap (λ p. noted p d) (noted_append one b c)) in
    text_noted tokens text funcs best one (noted one (module_breaks funcs)) four is f refl (last ∙ ap (λ p. noted p e) counted)

-- the operations of one function more
pub op_tokens_step : (all rest : List Line) (f : Line) (old new : List ℕ) → all ≡ f ∷ rest → new ≡ old ++ func_op_tokens f
    → (new ++ flat_map func_op_tokens rest) ≡ (old ++ flat_map func_op_tokens all)
op_tokens_step all rest f old new parts is =
    ap (λ n. n ++ flat_map func_op_tokens rest) is ∙ append_assoc old (func_op_tokens f) (flat_map func_op_tokens rest) ∙ ap (λ (fs : List Line). old ++ flat_map func_op_tokens fs) (sym parts)

whole_parts : (form : Form) (at : ℕ) (o : Option Token) (parts : Phrase) → same_form Whole form ≡ true
    → inside Whole (if same_form form Leaf then with_token at o done else line form at parts done) ≡ parts
whole_parts Leaf at o parts h = cc
whole_parts Whole at o parts h = refl
whole_parts Func at o parts h = cc
whole_parts Params at o parts h = cc
whole_parts Types at o parts h = cc
whole_parts Results at o parts h = cc
whole_parts TypeName at o parts h = cc
whole_parts Body at o parts h = cc
whole_parts Ends at o parts h = cc
whole_parts Uses at o parts h = cc
whole_parts Use at o parts h = cc
whole_parts Op at o parts h = cc
whole_parts Pack at o parts h = cc
whole_parts Kind at o parts h = cc
whole_parts Inits at o parts h = cc
whole_parts Region at o parts h = cc
whole_parts Flags at o parts h = cc

no_whole : (form : Form) (at : ℕ) (o : Option Token) (parts : Phrase) → same_form Whole form ≡ false
    → inside Whole (if same_form form Leaf then with_token at o done else line form at parts done) ≡ done
no_whole Leaf at None parts h = refl
no_whole Leaf at (Some t) parts h = refl
no_whole Whole at o parts h = cc
no_whole Func at o parts h = refl
no_whole Params at o parts h = refl
no_whole Types at o parts h = refl
no_whole Results at o parts h = refl
no_whole TypeName at o parts h = refl
no_whole Body at o parts h = refl
no_whole Ends at o parts h = refl
no_whole Uses at o parts h = refl
no_whole Use at o parts h = refl
no_whole Op at o parts h = refl
no_whole Pack at o parts h = refl
no_whole Kind at o parts h = refl
no_whole Inits at o parts h = refl
no_whole Region at o parts h = refl
no_whole Flags at o parts h = refl

-- the parts of a whole text, and of a branch that is none
pub whole_is : (b : Branch) (parts : List Branch) (tested : Bool) → parts ≡ (out-Branch b).parts.items → tested ≡ same_form Whole (out-Branch b).form → tested ≡ true
    → (tokens : List Token) → said tokens parts ≡ inside Whole (phrase_of tokens (put b none))
whole_is b parts tested parts_are test_is holds tokens =
    ap (said tokens) parts_are
    ∙ sym (ap (λ f. inside Whole (phrase_of tokens f)) (put_is b none)
    ∙ whole_parts (out-Branch b).form (out-Branch b).token (slice_get tokens (out-Branch b).token) (said tokens (out-Branch b).parts.items) (sym test_is ∙ holds))

pub whole_none : (b : Branch) (tested : Bool) → tested ≡ same_form Whole (out-Branch b).form → tested ≡ false
    → (tokens : List Token) → done ≡ inside Whole (phrase_of tokens (put b none))
whole_none b tested test_is fails tokens =
    sym (ap (λ f. inside Whole (phrase_of tokens f)) (put_is b none)
    ∙ no_whole (out-Branch b).form (out-Branch b).token (slice_get tokens (out-Branch b).token) (said tokens (out-Branch b).parts.items) (sym test_is ∙ fails))
