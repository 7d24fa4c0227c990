-- The limits of a module, of its functions and of their parts.
use Rattle.std.specs.Prelude.{ℕ}

-- functions of a module
abbrev pub func_limit : ℕ
func_limit = 256

-- operations of a module
abbrev pub module_op_limit : ℕ
module_op_limit = 65536

-- operations of a function
abbrev pub op_limit : ℕ
op_limit = 8192

-- items of a function
abbrev pub item_limit : ℕ
item_limit = 1023

-- labels of an item
abbrev pub label_limit : ℕ
label_limit = 16383

-- arguments of a function, of a region or of a call
abbrev pub arg_limit : ℕ
arg_limit = 16

-- loop-carried values of a loop, which are arguments of its regions
abbrev pub carried_limit : ℕ
carried_limit = arg_limit

-- results of a function or of an operation
abbrev pub result_limit : ℕ
result_limit = 16

-- open regions
abbrev pub region_limit : ℕ
region_limit = 12

-- loops in loops
abbrev pub loop_limit : ℕ
loop_limit = 6

-- bytes of a name
abbrev pub name_limit : ℕ
name_limit = 64
