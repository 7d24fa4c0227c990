-- What the functions of a text break together, and tokens whose names are too long.
use Rattle.std.specs.Prelude.{List, [], ◌++◌, ◌&&◌, Bool, length, map, nat_lt}
use Rattle.std.specs.List.{flat_map}
use Rattle.mlir_ir.specs.Limits.{func_limit, module_op_limit, name_limit}
use Rattle.mlir_ir.specs.Phrases.{Line}
use Rattle.mlir_ir.specs.ScopeFaults.{Break, over, repeated, func_names, func_op_tokens, has_value_name}
use Rattle.mlir_ir.specs.Source.{unsigned}
use Rattle.mlir_ir.specs.declared.token.Token.{Token}

abbrev pub has_long_name : Token → Bool
has_long_name token = has_value_name token.kind && nat_lt name_limit (length (unsigned token.text))

abbrev pub module_breaks : List Line → List Break
module_breaks funcs =
    over func_limit (map (λ (f : Line). f.at) funcs)
    ++ over module_op_limit (flat_map func_op_tokens funcs)
    ++ repeated [] (func_names funcs)

-- what they break besides the number of their operations
abbrev pub list_breaks : List Line → List Break
list_breaks funcs = over func_limit (map (λ (f : Line). f.at) funcs) ++ repeated [] (func_names funcs)
