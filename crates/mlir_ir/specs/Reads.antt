-- Which module bytes read as: lexing, parsing and resolving in turn; and the fault of a syntax that stands for none.
use Rattle.std.specs.Prelude.{ℕ, ◌≡◌, List, [], map}
use Rattle.std.specs.Option.{option_map}
use Rattle.mlir_ir.specs.Phrases.{Phrase, phrase_of}
use Rattle.mlir_ir.specs.Resolved.{PlainBody, PlainFunc, funcs_of}
use Rattle.mlir_ir.specs.ScopeFaults.{text_breaks, IsFirstBreak}
use Rattle.mlir_ir.specs.Syntaxes.{IsSyntaxOf}
use Rattle.mlir_ir.specs.Trees.{none, put}
use Rattle.mlir_ir.specs.View.{view_items}
use Rattle.mlir_ir.specs.declared.module.Module.{Module}
use Rattle.mlir_ir.specs.declared.scope_kind.ScopeKind.{ScopeKind}
use Rattle.mlir_ir.specs.declared.syntax.Syntax.{Syntax}
use Rattle.mlir_ir.specs.declared.types.Body.{Body}
use Rattle.mlir_ir.specs.declared.types.Func.{Func}

abbrev pub plain_body : Body → PlainBody
plain_body body = record { items = view_items body.items; ret = body.ret }

-- a function of the program as plain data
abbrev pub plain_func : Func → PlainFunc
plain_func f = record {
  index = f.index;
  name = f.name;
  private = f.private;
  args = f.args;
  results = f.results;
  body = option_map plain_body f.body;
}

abbrev pub phrase_in : Syntax → Phrase
phrase_in syntax = phrase_of syntax.tokens (put syntax.root none)

-- the syntax breaks no rule, and stands for the functions of the module
pub record IsModuleOf (syntax : Syntax) (m : Module) : Type 0 where
  pub keeps : text_breaks syntax.tokens (phrase_in syntax) ≡ []
  pub funcs : map plain_func m.funcs ≡ funcs_of (phrase_in syntax)

-- the fault of a syntax at that token
abbrev pub IsScopeFault : Syntax → ℕ → ScopeKind → Type 0
IsScopeFault syntax at kind = IsFirstBreak (text_breaks syntax.tokens (phrase_in syntax)) (record { at = at; kind = kind })

-- the bytes read as the module
pub record Reads (bytes : List ℕ) (m : Module) : Type 0 where
  pub syntax : Syntax
  pub parsed : IsSyntaxOf bytes syntax
  pub resolved : IsModuleOf syntax m
