-- The symbols of an expression that expands in a scope are in scope, with the type of the expression.
use Rattle.std.proofs.Common.{◌≡◌, ℕ, ◌/◌, ◌%◌, ◌==◌, Bool, true, false, inl, inr, refl, ap, ◌∙◌, sym, subst, Option, Some, None}
use Rattle.std.proofs.lemmas.Bool.{and_parts, eqb-true}
use Rattle.std.specs.Option.{option_map_or}
use Rattle.mlir_ir.specs.Rules.{same_type}
use Rattle.mlir_ir.specs.Typed.{Types}
use Rattle.mlir_ir.specs.declared.types.IrType.{IrType}
use Rattle.mlir_ir.specs.declared.types.IrType.TheVariants.{Int, Index}
use Rattle.scev_tree.specs.Polynomial.{Polynomial, Polynomials, num, ext, none, more}
use Rattle.scev_tree.specs.Standing.{Stands, StandsIn}
use Rattle.pass_expand.specs.Expandable.{IsInSymbols, is_symbol, expands, all_expand}

pub one_type : (a b : IrType) → same_type a b ≡ true → a ≡ b
one_type (Int a) (Int b) e = ap Int (eqb-true a b e)
one_type Index Index e = refl
one_type (Int a) Index e = cc
one_type Index (Int b) e = cc

known_type : (ty : IrType) (found : Option IrType) → option_map_or (same_type ty) found false ≡ true → found ≡ Some ty
known_type ty None e = cc
known_type ty (Some other) e = ap Some (sym (one_type ty other e))

module _ (T : Types) (ty : IrType) where
  abbrev pub IsSymbolIn : ℕ → Type 0
  IsSymbolIn x = (x % 2 ≡ 1) × (T (x / 2) ≡ Some ty)

  pub symbol_in_scope : (x : ℕ) → is_symbol T ty x ≡ true → IsSymbolIn x
  symbol_in_scope x e =
      let p = and_parts (x % 2 == 1) (option_map_or (same_type ty) (T (x / 2)) false) e in
      (eqb-true (x % 2) 1 p.0, known_type ty (T (x / 2)) p.1)

  mutual
    pub expands_symbols : (p : Polynomial) → expands T ty p ≡ true → (x : ℕ) → Stands x p → IsSymbolIn x
    expands_symbols (num v) e x s = absurd s
    expands_symbols (ext y ps) e x (inl q) =
        let h = and_parts (is_symbol T ty y) (all_expand T ty ps) e in subst IsSymbolIn (sym q) (symbol_in_scope y h.0)
    expands_symbols (ext y ps) e x (inr s) =
        let h = and_parts (is_symbol T ty y) (all_expand T ty ps) e in all_expand_symbols ps h.1 x s

    pub all_expand_symbols : (ps : Polynomials) → all_expand T ty ps ≡ true → (x : ℕ) → StandsIn x ps → IsSymbolIn x
    all_expand_symbols none e x s = absurd s
    all_expand_symbols (more p ps) e x (inl s) =
        let h = and_parts (expands T ty p) (all_expand T ty ps) e in expands_symbols p h.0 x s
    all_expand_symbols (more p ps) e x (inr s) =
        let h = and_parts (expands T ty p) (all_expand T ty ps) e in all_expand_symbols ps h.1 x s

  pub expands_plain : (p : Polynomial) → expands T ty p ≡ true → IsInSymbols p
  expands_plain p e x s = (expands_symbols p e x s).0
