-- A function in which other operations stand for one loop, and each use has the label that belongs to it in the child.
use Rattle.std.specs.Prelude.{ℕ, ◌≡◌, ◌+◌, ◌==◌, ◌&&◌, ◌⊎◌, Bool, true, false, List, [], ◌∷◌, length, Option, Some, None, if◌then◌else◌}
use Rattle.std.specs.Option.{option_map}
use Rattle.arith_word.specs.Labels.{label_at, func_of, item_of}
use Rattle.mlir_ir.specs.declared.types.Body.{Body}
use Rattle.mlir_ir.specs.declared.types.Func.{Func}
use Rattle.mlir_ir.specs.declared.types.IrType.{IrType}
use Rattle.mlir_ir.specs.declared.types.Pack.{Pack}
use Rattle.mlir_ir.specs.Operations.{OpKind, Simple, If, For, While, OpList, nil, next, labels_of, inner_labels, joined}
use Rattle.mlir_ir.specs.Resolved.{PlainBody, PlainFunc}
use Rattle.mlir_ir.specs.View.{view_items}
use Rattle.pass_copy.specs.Renamed.{relabel, relabels, rename_simple}

-- an operation with its results
pub record Operation : Type 0 where
  pub packs : List Pack
  pub results : List IrType
  pub kind : OpKind

abbrev pub op_labels : Operation → ℕ
op_labels o = inner_labels o.kind + length o.results

abbrev pub is_loop : OpKind → Bool
is_loop (For lower upper step iv args inits body ends) = true
is_loop (While args inits before passed cond after_args after ends) = true
is_loop _ = false

-- the label behind the item of a label
abbrev pub item_end : ℕ → ℕ
item_end l = label_at (func_of l) (item_of l + 1) 0

-- the loop o begins with label t, in operations of which the first begins with label `at`
module _ (t : ℕ) (o : Operation) where
  abbrev mutual
    pub StandsIn : ℕ → OpList → Type 0
    StandsIn at nil = ⊥
    StandsIn at (next packs results kind rest) =
        ((at ≡ t) × (is_loop kind ≡ true) × (record { packs = packs; results = results; kind = kind } ≡ o))
        ⊎ StandsInside at kind ⊎ StandsIn (at + (inner_labels kind + length results)) rest

    -- in the regions of an operation that begins with label `at`
    pub StandsInside : ℕ → OpKind → Type 0
    StandsInside at (Simple does) = ⊥
    StandsInside at (If c first firsts has_else other others) = StandsIn at first ⊎ StandsIn (at + labels_of first) other
    StandsInside at (For lower upper step iv args inits body ends) = StandsIn (at + 2 + length args) body
    StandsInside at (While args inits before passed cond after_args after ends) =
        StandsIn (at + 1 + length args) before ⊎ StandsIn (at + 1 + length args + labels_of before + length after_args) after

  -- in items from number k on
  abbrev pub StandsInItems : ℕ → ℕ → List OpList → Type 0
  StandsInItems func k [] = ⊥
  StandsInItems func k (ops ∷ items) = StandsIn (label_at func k 0) ops ⊎ StandsInItems func (k + 1) items

  abbrev pub StandsInBody : ℕ → Option Body → Type 0
  StandsInBody func None = ⊥
  StandsInBody func (Some body) = StandsInItems func 1 (view_items body.items)

-- o is the loop at label t of a function
abbrev pub StandsAt : Func → ℕ → Operation → Type 0
StandsAt f t o = StandsInBody t o f.index f.body

-- uses follow the renaming f, and `others` stand for the loop at label t
module _ (f : ℕ → ℕ) (t : ℕ) (others : OpList) where
  abbrev mutual
    -- operations of which the first begins with label `at`
    pub replaced : ℕ → OpList → OpList
    replaced at nil = nil
    replaced at (next packs results kind rest) =
        if is_loop kind && (at == t)
        then joined others (replaced (at + (inner_labels kind + length results)) rest)
        else next packs results (replaced_inside at kind) (replaced (at + (inner_labels kind + length results)) rest)

    -- an operation that begins with label `at`
    pub replaced_inside : ℕ → OpKind → OpKind
    replaced_inside at (Simple does) = Simple (rename_simple f does)
    replaced_inside at (If c first firsts has_else other others) =
        If (relabel f c) (replaced at first) (relabels f firsts) has_else (replaced (at + labels_of first) other) (relabels f others)
    replaced_inside at (For lower upper step iv args inits body ends) =
        For (relabel f lower) (relabel f upper) (relabel f step) iv args (relabels f inits)
        (replaced (at + 2 + length args) body) (relabels f ends)
    replaced_inside at (While args inits before passed cond after_args after ends) =
        While args (relabels f inits) (replaced (at + 1 + length args) before) (relabels f passed) (relabel f cond) after_args
        (replaced (at + 1 + length args + labels_of before + length after_args) after) (relabels f ends)

  -- items from number k on
  abbrev pub replaced_items : ℕ → ℕ → List OpList → List OpList
  replaced_items func k [] = []
  replaced_items func k (ops ∷ items) = replaced (label_at func k 0) ops ∷ replaced_items func (k + 1) items

  abbrev pub replaced_body : ℕ → Body → PlainBody
  replaced_body func body = record { items = replaced_items func 1 (view_items body.items); ret = relabels f body.ret }

  -- the child of a function
  abbrev pub replaced_func : Func → PlainFunc
  replaced_func p = record {
    index = p.index;
    name = p.name;
    private = p.private;
    args = p.args;
    results = p.results;
    body = option_map (replaced_body p.index) p.body;
  }
